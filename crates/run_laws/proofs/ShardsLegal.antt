-- At each line of a run what was done to each shard is a legal history, since the closed history of the shard is, and goes on from it.
use Rattle.std.proofs.Common.{◌≡◌, ℕ, zero, suc, ◌+◌, ◌<◌, ◌≤◌, nat_lt, true, false, IsTrue, List, [], ◌∷◌, ◌++◌, map, Option, None, Some, inl, inr, subst, arith}
use Rattle.std.proofs.lemmas.Bool.Decides.{nat_tests}
use Rattle.std.proofs.lemmas.Bool.{cases_Bool}
use Rattle.std.specs.List.{AllByRecursion, range_with_len}
use Rattle.arc_core.specs.Replay.{is_legal_history}
use Rattle.arc_core.specs.declared.event.Event.{Event}
use Rattle.arc_core.proofs.Stepping.{prefix-legal}
use Rattle.arc_table.specs.Telling.{opening_of}
use Rattle.vdev_io.specs.declared.device.CacheDev.{Ghosts as Devices}
use Rattle.vdev_io.specs.declared.pool.Pool.{Ghosts}
use Rattle.trace_text.specs.declared.op.Op.{Op}
use Rattle.trace_text.specs.declared.op.Op.TheVariants as ops
use Rattle.trace_text.specs.declared.reply.Reply.{Reply}
use Rattle.trace_text.specs.declared.trace.Trace.{Trace}
use Rattle.trace_run.specs.declared.ran.Ending.{Ending}
use Rattle.trace_run.specs.declared.ran.Ending.TheVariants.{Fork, Full, Sync, Whole}
use Rattle.trace_run.specs.Deeds.{events_there}
use Rattle.trace_run.specs.Feeds.{FeedDone}
use Rattle.trace_run.specs.KeptBlocks.{held_in_shard}
use Rattle.trace_run.specs.Lines.{caller_of}
use Rattle.trace_run.specs.dbufs.ObjectLines.{OnObject, on_object}
use Rattle.trace_run.specs.dbufs.Objects.{Line, Work}
use Rattle.trace_run.specs.one_caller.OneCaller.{events_of_drops}
use Rattle.trace_run.specs.one_caller.Sequence.{AreInSequence, BetweenLines, DoesAnyLine, DoesOther, DoesOwn, EndsThere}
use Rattle.run_laws.specs.Alike.{OneRun, begun}
use Rattle.run_laws.proofs.Facts.{OfEachLine}

-- this was done to each shard, and it may have been
abbrev pub AreLegalShards : Trace → (shards : ℕ → List Event) → Type 0
AreLegalShards trace shards = (shard : ℕ) → shard < trace.config.shards → IsTrue (is_legal_history (opening_of trace.config) (shards shard))

-- so it is before a line and behind it
abbrev pub StandsLegal : {P D : Type 0} → Trace → Line → (from to : BetweenLines P D) → Type 0
StandsLegal trace l from to = AreLegalShards trace from.shards × AreLegalShards trace to.shards

less-is : (m n : ℕ) → nat_lt m n ≡ true → m < n
less-is m n test = grind (arith, nat_tests)

least-is : (m n : ℕ) → nat_lt m n ≡ false → n ≤ m
least-is m n test = grind (arith, nat_tests)

-- what is so of the items of all numbers is so of that of each of them
all-of-range : (Of : List Event → Type 0) (f : ℕ → List Event) (from n k : ℕ) → AllByRecursion Of (map f (range_with_len from n)) → from ≤ k → k < from + n → Of (f k)
all-of-range Of f from zero k all most less = absurd (omega (arith, most, less))
all-of-range Of f from (suc n) k all most less = elim (cases_Bool (nat_lt from k)) [
  | inl past ↦ let more : from < k = less-is from k past in all-of-range Of f (from + 1) n k all.1 (omega (arith, more)) (omega (arith, less))
  | inr here ↦ let same : k ≤ from = least-is from k here in subst (λ (x : ℕ). Of (f x)) (omega (arith, most, same)) all.0
]

module _ {P D : Type 0} (pools : Ghosts P) (devices : Devices D) (trace : Trace) where
  -- ---- what was done to a shard stays done

  -- of each shard this was done more
  abbrev GoesOnShards : (from to : BetweenLines P D) → Type 0
  GoesOnShards from to = (shard : ℕ) → (es : List Event) × (to.shards shard ≡ from.shards shard ++ es)

  own-shards : (on : Option OnObject) (l : Line) (from to : BetweenLines P D) → DoesOwn pools devices trace on l from to → GoesOnShards from to
  own-shards None l from to does shard = (_, does.goes_on.shards shard)
  own-shards (Some on) l from to does shard = (_, does.goes_on.shards shard)

  other-shards : (op : Op) (reply : Reply) (work : Work) (feeds : List FeedDone) (from to : BetweenLines P D) → DoesOther pools devices trace op reply work feeds from to → GoesOnShards from to
  other-shards ops.Feed reply work feeds from to does shard = (_, does.goes_on.shards shard)
  other-shards (ops.Txg t) reply work feeds from to does shard = (_, does.1.leaves.goes_on.shards shard)
  other-shards (ops.Cap c) reply work feeds from to does shard = (_, does.1.goes_on.shards shard)
  other-shards (ops.Read n t x window) reply work feeds from to does shard = absurd does
  other-shards (ops.Hold n t x) reply work feeds from to does shard = absurd does
  other-shards (ops.Drop n x) reply work feeds from to does shard = absurd does
  other-shards (ops.Get n t at window) reply work feeds from to does shard = absurd does
  other-shards (ops.Put n t at size fill) reply work feeds from to does shard = absurd does
  other-shards (ops.Patch n t at start bytes) reply work feeds from to does shard = absurd does
  other-shards (ops.Pin n t at) reply work feeds from to does shard = absurd does
  other-shards (ops.Unpin n at) reply work feeds from to does shard = absurd does

  line-shards : (by : Option ℕ) (l : Line) (feeds : List FeedDone) (from to : BetweenLines P D) → DoesAnyLine pools devices trace by l feeds from to → GoesOnShards from to
  line-shards (Some n) l feeds from to does shard = own-shards (on_object l.op) l from to does.1.did shard
  line-shards None l feeds from to does shard = other-shards l.op l.reply l.work feeds from to does shard

  -- a front of a legal history is legal
  legal-front : (from to : BetweenLines P D) → GoesOnShards from to → AreLegalShards trace to.shards → AreLegalShards trace from.shards
  legal-front from to goes legal shard below =
      prefix-legal (opening_of trace.config) (from.shards shard) (goes shard).0 (subst (λ (es : List Event). is_legal_history (opening_of trace.config) es ≡ true) (goes shard).1 (legal shard below))

  record AreLegalLines (ls : List Line) (feeds : List FeedDone) (from to : BetweenLines P D) (did : AreInSequence pools devices trace ls feeds from to) : Type 0 where
    pub first : AreLegalShards trace from.shards
    pub each : OfEachLine pools devices trace (StandsLegal trace) ls feeds from to did

  all-legal : (ls : List Line) (feeds : List FeedDone) (from to : BetweenLines P D) (did : AreInSequence pools devices trace ls feeds from to) → AreLegalShards trace to.shards → AreLegalLines ls feeds from to did
  all-legal [] feeds from to did legal = record { first = subst (λ (x : BetweenLines P D). AreLegalShards trace x.shards) did.1 legal; each = tt }
  all-legal (l ∷ ls) feeds from to did legal =
      let rest = all-legal ls did.2 did.0 to did.5 legal in
      let before : AreLegalShards trace from.shards = legal-front from did.0 (line-shards (caller_of l.op) l did.1 from did.0 did.4) rest.first in
      record { first = before; each = ((before, rest.first), rest.each) }

  -- ---- the run

  ended-legal : (replies : List Reply) (work : Work) (ending : Ending) (at : BetweenLines P D) (after : P) (to : BetweenLines P D) → EndsThere pools devices trace replies work ending at after to
      → AreLegalShards trace to.shards → AreLegalShards trace at.shards
  ended-legal replies work Whole at after to ends legal = subst (λ (x : BetweenLines P D). AreLegalShards trace x.shards) ends.2 legal
  ended-legal replies work Fork at after to ends legal = absurd ends
  ended-legal replies work Sync at after to ends legal = legal-front at to (λ shard. (_, ends.leaves.goes_on.shards shard)) legal
  ended-legal replies work (Full need left) at after to ends legal = legal-front at to (λ shard. (_, ends.leaves.goes_on.shards shard)) legal

  module _ (run : OneRun pools devices trace) where
    last-legal : AreLegalShards trace run.in_turn.last_line.shards
    last-legal shard below =
        let last = run.in_turn.last_line in
        let closed : ℕ → List Event = λ (k : ℕ). (last.shards k ++ events_of_drops 0 (held_in_shard trace.config k last.kept)) ++ events_there trace.config k run.run.work.ended in
        let Legal : List Event → Type 0 = λ es. is_legal_history (opening_of trace.config) es ≡ true in
        let all : AllByRecursion Legal (map closed (range_with_len 0 trace.config.shards)) = subst (AllByRecursion Legal) run.in_turn.closes.shards run.run.run.explained.legal in
        let whole : Legal (closed shard) = all-of-range Legal closed 0 trace.config.shards shard all (omega arith) (omega (arith, below)) in
        let drops : List Event = events_of_drops 0 (held_in_shard trace.config shard last.kept) in
        prefix-legal (opening_of trace.config) (last.shards shard) drops (prefix-legal (opening_of trace.config) (last.shards shard ++ drops) (events_there trace.config shard run.run.work.ended) whole)

    its-legal : AreLegalLines run.run.work.lines run.run.work.feeds (begun pools devices trace run) run.in_turn.reached run.in_turn.lines
    its-legal =
        all-legal run.run.work.lines run.run.work.feeds (begun pools devices trace run) run.in_turn.reached run.in_turn.lines
        (ended-legal run.report.replies run.run.work.stopped run.ending run.in_turn.reached run.after run.in_turn.last_line run.in_turn.ended last-legal)

    -- as the first line begins
    pub begun-legal : AreLegalShards trace (begun pools devices trace run).shards
    begun-legal = its-legal.first

    -- at each line of the run
    pub legal-lines : OfEachLine pools devices trace (StandsLegal trace) run.run.work.lines run.run.work.feeds (begun pools devices trace run) run.in_turn.reached run.in_turn.lines
    legal-lines = its-legal.each
