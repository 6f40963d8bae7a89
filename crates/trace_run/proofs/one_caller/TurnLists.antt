-- The lines of one caller, one after another: lists of them that stand one behind the other.
use Rattle.std.proofs.Common.{◌≡◌, List, [], ◌∷◌, ◌++◌, Some, sym, ap, ◌∙◌, subst, append_assoc}
use Rattle.std.specs.List.{AllByRecursion}
use Rattle.vdev_io.specs.declared.device.CacheDev.{Ghosts as Devices}
use Rattle.vdev_io.specs.declared.pool.Pool.{Ghosts}
use Rattle.trace_text.specs.declared.trace.Trace.{Trace}
use Rattle.trace_run.specs.Feeds.{FeedDone}
use Rattle.trace_run.specs.Lines.{caller_of}
use Rattle.trace_run.specs.dbufs.Objects.{Line}
use Rattle.trace_run.specs.one_caller.Sequence.{AreInSequence, BetweenLines}

-- these lines are the one caller's
abbrev pub AreMine : List Line → Type 0
AreMine = AllByRecursion (λ l. caller_of l.op ≡ Some 0)

-- lines that were done in sequence, and others behind them
pub sequence-append : {P D : Type 0} (pools : Ghosts P) (devices : Devices D) (trace : Trace) (ls ms : List Line) (fs gs : List FeedDone) (a b c : BetweenLines P D) → AreInSequence pools devices trace ls fs a b → AreInSequence pools devices trace ms gs b c
    → AreInSequence pools devices trace (ls ++ ms) (fs ++ gs) a c
sequence-append {P} {D} pools devices trace [] ms fs gs a b c first rest =
    subst (λ (x : List FeedDone × BetweenLines P D). AreInSequence pools devices trace ms (x.0 ++ gs) x.1 c) (λ i. (sym first.0 i, first.1 i)) rest
sequence-append pools devices trace (l ∷ ls) ms fs gs a b c (next, here, behind, split, does, more) rest =
    (next, here, behind ++ gs, ap (λ (x : List FeedDone). x ++ gs) split ∙ append_assoc here behind gs, does, sequence-append pools devices trace ls ms behind gs next b c more rest)
