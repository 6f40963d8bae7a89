-- One caller's line that gives a capacity is a line like any other; and the feeder's party stays joined behind each line.
use Rattle.std.proofs.Common.{◌≡◌, ℕ, true, List, refl, sym, ◌∙◌, subst, arith, append-nil}
use Rattle.std.specs.Prelude.{IsSome}
use Rattle.std.proofs.lemmas.Bool.{false≢true}
use Rattle.blk_ptr.specs.declared.ptr.Ptr.{Ptr}
use Rattle.arc_core.specs.declared.config.Config.{Config}
use Rattle.arc_core.specs.Operations.{Act}
use Rattle.turn_table.specs.Places.{Place}
use Rattle.arc_table.specs.declared.view.Known.{Known}
use Rattle.arc_table.specs.Cache.{Cache}
use Rattle.trace_run.specs.Deeds.{HasToldAll}
use Rattle.trace_text.specs.declared.op.Op.{Op}
use Rattle.trace_text.specs.declared.op.Op.TheVariants as ops
use Rattle.trace_text.specs.declared.reply.Reply.{Reply}
use Rattle.trace_text.specs.declared.reply.Reply.TheVariants.{Capped}
use Rattle.vdev_io.specs.declared.pool.Pool.{Ghosts}
use Rattle.trace_run.specs.KeptReads.{KeptRead}
use Rattle.trace_run.specs.callers.CallerLines.{At, DidLine, DidThere, HasResized, at}
use Rattle.trace_run.specs.Lines.{caller_of, is_of_caller}
use Rattle.trace_run.specs.Meeting.{HasFeeder}

module _ {C P : Type 0} (g : Config) (pools : Ghosts P) (blocks : List Ptr) (p q : Place (Known C)) (kept : List KeptRead) (a : P) where
  cap-there : (c : ℕ) → HasResized g c p q → DidThere g blocks kept (ops.Cap c) (Capped c) p q
  cap-there c r = record {
    number = r.number;
    told = λ before noted told. subst (λ (l : List Act). HasToldAll g l noted q) (sym (append-nil before)) (r.told before noted told);
    alone = λ alone shard. r.seen shard;
    all = r.all;
    joined = λ his. absurd (false≢true his);
    keeps = λ his. absurd (false≢true his);
    cells = λ his. absurd (false≢true his);
  }

  cap-line : (c : ℕ) → HasResized g c p q → DidLine g pools blocks (ops.Cap c) (Capped c) (at p kept a) (at q kept a)
  cap-line c r = record {
    answer = refl;
    kept = refl;
    did = cap-there c r;
    found = λ alone. tt;
    range = λ came. absurd came;
    calls = refl;
    keeps = record { size = refl; told = refl; faults = omega arith; others = refl };
  }

  pub capped-line : (op : Op) (reply : Reply) → (c : ℕ) × (op ≡ ops.Cap c) × (reply ≡ Capped c) × HasResized g c p q → DidLine g pools blocks op reply (at p kept a) (at q kept a)
  capped-line op reply did = subst (λ (x : Op × Reply). DidLine g pools blocks x.0 x.1 (at p kept a) (at q kept a)) (λ i. (sym did.1 i, sym did.2 i)) (cap-line did.0 did.3)

pub his-some : (n : ℕ) (op : Op) → is_of_caller n op ≡ true → IsSome (caller_of op)
his-some n (ops.Read m t x window) his = refl
his-some n (ops.Hold m t x) his = refl
his-some n (ops.Drop m x) his = refl
his-some n (ops.Get m t at window) his = refl
his-some n (ops.Put m t at size fill) his = refl
his-some n (ops.Patch m t at from bytes) his = refl
his-some n (ops.Pin m t at) his = refl
his-some n (ops.Unpin m at) his = refl
his-some n other his = absurd (false≢true his)

-- the feeder's party is still joined behind a caller's own line
pub feeder-after : {C P : Type 0} (cache : Cache) (openings : List (List ℕ)) (pools : Ghosts P) (n : ℕ) (blocks : List Ptr) (op : Op) (reply : Reply) (b c : At C P) → is_of_caller n op ≡ true
    → DidLine cache.config pools blocks op reply b c → HasFeeder cache openings b.party → HasFeeder cache openings c.party
feeder-after cache openings pools n blocks op reply b c his did feeder =
    (feeder.0, record { number = feeder.1.number; stands = feeder.1.stands; knows = feeder.1.knows; alone = feeder.1.alone; joined = did.did.joined (his-some n op his) ∙ feeder.1.joined; only = feeder.1.only })

-- and where a party's joins are as they were
pub feeder-still : {C : Type 0} (cache : Cache) (openings : List (List ℕ)) (q r : Place (Known C)) → r.joined ≡ q.joined → HasFeeder cache openings q → HasFeeder cache openings r
feeder-still cache openings q r same feeder = (feeder.0, record { number = feeder.1.number; stands = feeder.1.stands; knows = feeder.1.knows; alone = feeder.1.alone; joined = same ∙ feeder.1.joined; only = feeder.1.only })
