-- What is shown of one run by itself, side by side for each of its lines, and the step of a line on an object among all lines: all that the law of two runs asks for.
use Rattle.std.proofs.Common.{◌≡◌, ℕ, List, [], ◌∷◌, length, Option, Some, inl, inr, refl, subst}
use Rattle.vdev_io.specs.declared.device.CacheDev.{Ghosts as Devices}
use Rattle.vdev_io.specs.declared.pool.Pool.{Ghosts}
use Rattle.trace_text.specs.Grammar.{IsFormed}
use Rattle.trace_text.specs.declared.op.Op.{Op}
use Rattle.trace_text.specs.declared.op.Op.TheVariants as ops
use Rattle.trace_text.specs.declared.reply.Reply.{Reply}
use Rattle.trace_text.specs.declared.trace.Trace.{Trace}
use Rattle.trace_run.specs.Feeds.{FeedDone}
use Rattle.trace_run.specs.Lines.{caller_of}
use Rattle.trace_run.specs.RunWork.{AllFit}
use Rattle.trace_run.specs.dbufs.Objects.{Line, Work}
use Rattle.trace_run.specs.one_caller.Sequence.{AreInSequence, BetweenLines, DoesAnyLine}
use Rattle.run_laws.specs.Alike.{OneRun, RunsAreAlike, begun}
use Rattle.run_laws.proofs.Facts.{OfEachLine}
use Rattle.run_laws.proofs.Law.{AllKnown, IsKnown, IsShown, runs-alike}
use Rattle.run_laws.proofs.LinesAlike.{Caps, Feeds, Objects, Reads, StepsAlike, Syncs, kind_of}
use Rattle.run_laws.proofs.ObjectStep.{IsOnObject, object-step}
use Rattle.run_laws.proofs.ReadStep.{line_of}
use Rattle.run_laws.proofs.Settled.{FitsOwn, StandsSettled, fits-lines, settled-lines}
use Rattle.run_laws.proofs.ShardsLegal.{StandsLegal, legal-lines}
use Rattle.run_laws.proofs.StepKinds.{unfed-cursors}
use Rattle.run_laws.proofs.ValidLoads.{FindsValid, valid-lines}

on-object : (op : Op) → kind_of op ≡ Objects → IsOnObject op
on-object (ops.Get n t at window) is = tt
on-object (ops.Put n t at size fill) is = tt
on-object (ops.Patch n t at start bytes) is = tt
on-object (ops.Pin n t at) is = tt
on-object (ops.Unpin n at) is = tt
on-object (ops.Read n t x window) is = let clash : Reads ≡ Objects = is in cc
on-object (ops.Hold n t x) is = let clash : Reads ≡ Objects = is in cc
on-object (ops.Drop n x) is = let clash : Reads ≡ Objects = is in cc
on-object ops.Feed is = let clash : Feeds ≡ Objects = is in cc
on-object (ops.Txg t) is = let clash : Syncs ≡ Objects = is in cc
on-object (ops.Cap c) is = let clash : Caps ≡ Objects = is in cc

-- a line on an object is a caller's
its-caller : (op : Op) → IsOnObject op → (n : ℕ) × (caller_of op ≡ Some n)
its-caller (ops.Get n t at window) on = (n, refl)
its-caller (ops.Put n t at size fill) on = (n, refl)
its-caller (ops.Patch n t at start bytes) on = (n, refl)
its-caller (ops.Pin n t at) on = (n, refl)
its-caller (ops.Unpin n at) on = (n, refl)
its-caller other on = absurd on

module _ {P D : Type 0} (pools : Ghosts P) (devices : Devices D) (pool_len : (p : P) (bytes : List ℕ) → pools.told p ≡ Some bytes → length bytes ≡ pools.size p) (trace : Trace) where
  -- the facts of each line
  all-known : (ls : List Line) (feeds : List FeedDone) (from to : BetweenLines P D) (did : AreInSequence pools devices trace ls feeds from to) → AllFit trace.config ls
      → OfEachLine pools devices trace (StandsSettled trace) ls feeds from to did → OfEachLine pools devices trace (FindsValid pools trace) ls feeds from to did
      → OfEachLine pools devices trace (FitsOwn trace) ls feeds from to did
      → OfEachLine pools devices trace (StandsLegal trace) ls feeds from to did → OfEachLine pools devices trace (IsKnown pools devices trace) ls feeds from to did
  all-known [] feeds from to did fits settled valid own legal = tt
  all-known (l ∷ ls) feeds from to did fits settled valid own legal = (
    record { fits = fits.0; settled = settled.0.0; then_settled = settled.0.1; valid = valid.0; own = own.0; legal = legal.0.1 },
    all-known ls did.2 did.0 to did.5 fits.1 settled.1 valid.1 own.1 legal.1,
  )

  -- a caller's line makes no feed
  caller-unfed : (op : Op) (n : ℕ) → caller_of op ≡ Some n → (r : Reply) (w : Work) (here : List FeedDone) (from to : BetweenLines P D) → DoesAnyLine pools devices trace (caller_of op) (line_of op r w) here from to → here ≡ []
  caller-unfed op n by r w here from to did =
      let does : DoesAnyLine pools devices trace (Some n) (line_of op r w) here from to = subst (λ (b : Option ℕ). DoesAnyLine pools devices trace b (line_of op r w) here from to) by did in
      does.0

  module _ (formed : IsFormed trace) (one_caller : trace.config.callers ≡ 1) where
    known : (run : OneRun pools devices trace) (image : List ℕ) → pools.told run.before ≡ Some image → AllKnown pools devices trace run
    known run image tells =
        all-known run.run.work.lines run.run.work.feeds (begun pools devices trace run) run.in_turn.reached run.in_turn.lines run.run.did.fits (settled-lines pools devices trace run)
        (valid-lines pools devices pool_len trace run image tells) (fits-lines pools devices trace run formed one_caller)
        (legal-lines pools devices trace run)

    objects-steps : StepsAlike pools devices trace (IsKnown pools devices trace) Objects
    objects-steps op is r q v w here there from to other other_to did other_did a b c d both =
        let on : IsOnObject op = on-object op is in
        let by = its-caller op on in
        elim (object-step pools devices pool_len trace formed.config op on r q v w here there from to other other_to did other_did (record {
          alike = both.alike;
          fits = both.holds.own by.0 by.1;
          other_fits = both.other_holds.own by.0 by.1;
          settled = both.holds.then_settled;
          other_settled = both.other_holds.then_settled;
          cached = both.holds.valid;
          legal = both.holds.legal;
          other_legal = both.other_holds.legal;
          pool = both.pool;
          device = both.device;
        })) [
          | inl step ↦ inl (step, unfed-cursors here there a b c d (caller-unfed op by.0 by.1 r v here from to did) (caller-unfed op by.0 by.1 q w there other other_to other_did) both.feeds both.other_feeds both.cursors)
          | inr parts ↦ inr parts
        ]

    pub shown : IsShown pools devices trace
    shown = record { objects = objects-steps; known = known }

-- Two runs of one trace by one caller, over the same bytes, of which the same calls failed, come to the same, or they may part.
pub law-holds : {P D : Type 0} (pools : Ghosts P) (devices : Devices D) → ((p : P) (bytes : List ℕ) → pools.told p ≡ Some bytes → length bytes ≡ pools.size p) → RunsAreAlike pools devices
law-holds pools devices pool_len trace one other formed one_caller begin fail = runs-alike pools devices pool_len trace formed (shown pools devices pool_len trace formed one_caller) one other begin fail
