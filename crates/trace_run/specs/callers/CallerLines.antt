-- One caller's lines over the shared cache, one after another, with its own party and its own pool.
use Rattle.std.specs.Prelude.{◌≡◌, ℕ, List, [], ◌∷◌, ◌++◌, IfSome, IsSome}
use Rattle.blk_ptr.specs.declared.ptr.Ptr.{Ptr}
use Rattle.arc_core.specs.declared.config.Config.{Config}
use Rattle.arc_core.specs.declared.event.Event.{Event}
use Rattle.arc_core.specs.Operations.{Act}
use Rattle.arc_table.specs.Seen.{HasAll, seen_of}
use Rattle.trace_run.specs.Deeds.{HasToldAll, KeepsCells, Noted, SameCells}
use Rattle.vdev_io.specs.Calls.{KeepsPool, MakesCalls}
use Rattle.arc_table.specs.declared.view.Known.{Known}
use Rattle.turn_table.specs.Places.{Place}
use Rattle.trace_text.specs.declared.op.Op.{Op}
use Rattle.trace_text.specs.declared.reply.Reply.{Reply}
use Rattle.vdev_io.specs.declared.pool.Pool.{Ghosts}
use Rattle.trace_run.specs.KeptReads.{KeptRead}
use Rattle.trace_run.specs.Acts.{acts_of}
use Rattle.trace_run.specs.Answering.{IsReadOfImage}
use Rattle.trace_run.specs.Effects.{calls_of, effect_of}
use Rattle.trace_run.specs.Lines.{caller_of, shard_of_line}
use Rattle.trace_run.specs.Meeting.{resizes_in}
use Rattle.trace_run.specs.one_caller.OneCaller.{IsFoundAs, events_of_op_in, kept_after, only_feeder}
use Rattle.trace_run.specs.Reads.{CameFromPool, now_of}
use Rattle.trace_run.specs.Tally.{AnswersNow}

-- a caller between its lines: its party, the reads that it keeps, and its pool
pub record At (C P : Type 0) : Type 0 where
  pub party : Place (Known C)
  pub kept : List KeptRead
  pub pool : P

abbrev pub at : {C P : Type 0} → Place (Known C) → List KeptRead → P → At C P
at party kept pool = record { party = party; kept = kept; pool = pool }

-- The party did what a line asks, which was answered so: its own number has the line's acts more. A party that is alone has seen in each
-- shard just the events that the line makes there more.
pub record DidThere {C : Type 0} (g : Config) (blocks : List Ptr) (kept : List KeptRead) (op : Op) (reply : Reply) (p q : Place (Known C)) : Type 0 where
  pub number : q.number ≡ p.number
  pub told : (before : List Act) (noted : List Noted) → HasToldAll g before noted p → HasToldAll g (before ++ acts_of blocks kept op reply) noted q
  pub alone : HasAll p → (shard : ℕ) → seen_of g shard q ≡ seen_of g shard p ++ events_of_op_in g.shards blocks shard (now_of g shard p) kept op reply
  pub all : HasAll p → HasAll q
  -- a line of a caller leaves the parties that joined, and what is known of cells and was seen of them
  pub joined : IsSome (caller_of op) → q.joined ≡ p.joined
  pub keeps : IsSome (caller_of op) → KeepsCells g p q
  pub cells : IsSome (caller_of op) → SameCells g p q

-- The feeder made these events of each shard while the party, which is the one caller's, had joined it: the party has seen them more.
pub record HasFed {C : Type 0} (g : Config) (more : (shard : ℕ) → List Event) (p q : Place (Known C)) : Type 0 where
  pub number : q.number ≡ p.number
  pub told : (before : List Act) (noted : List Noted) → HasToldAll g before noted p → HasToldAll g before noted q
  pub seen : (shard : ℕ) → seen_of g shard q ≡ seen_of g shard p ++ more shard
  pub all : HasAll p → HasAll q

-- every shard has this capacity from now on
abbrev pub HasResized : {C : Type 0} → Config → (c : ℕ) → (p q : Place (Known C)) → Type 0
HasResized g c p q = HasFed g (resizes_in g.shards only_feeder c) p q

-- The line was answered so. Its acts are told, and a caller that is alone has seen just its events more; its pool was read as the reply says.
-- Bytes that came from the pool in this call are those that it tells, where it does.
pub record DidLine {C P : Type 0} (g : Config) (pools : Ghosts P) (blocks : List Ptr) (op : Op) (reply : Reply) (old new : At C P) : Type 0 where
  pub answer : AnswersNow (pools.size old.pool) (pools.told old.pool) blocks old.kept op reply
  pub kept : new.kept ≡ kept_after blocks op reply old.kept
  pub did : DidThere g blocks old.kept op reply old.party new.party
  pub found : HasAll old.party → IsFoundAs blocks (now_of g (shard_of_line g.shards blocks op) old.party) op reply
  pub range : CameFromPool (effect_of reply) → IfSome (pools.told old.pool) (λ image. IsReadOfImage image blocks op reply)
  pub calls : MakesCalls pools (calls_of (effect_of reply)) old.pool new.pool
  pub keeps : KeepsPool pools old.pool new.pool

-- the lines were answered, one after another
abbrev pub DidLines : {C P : Type 0} → Config → Ghosts P → List Ptr → List Op → List Reply → (old new : At C P) → Type 0
DidLines g pools blocks [] [] old new = new ≡ old
DidLines g pools blocks [] (reply ∷ replies) old new = ⊥
DidLines g pools blocks (op ∷ ops) [] old new = ⊥
DidLines {C} {P} g pools blocks (op ∷ ops) (reply ∷ replies) old new =
    (next : At C P) × DidLine g pools blocks op reply old next × DidLines g pools blocks ops replies next new
