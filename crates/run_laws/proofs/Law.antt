-- Two runs of one trace by one caller come to the same, or they may part: all lines, the sync that stopped, and the close.
use Rattle.std.proofs.Common.{◌≡◌, ℕ, zero, suc, List, [], ◌∷◌, ◌++◌, length, Option, None, Some, refl, sym, ap, ◌∙◌, subst, inl, inr, arith}
use Rattle.std.specs.Prelude.{◌⊎◌, slice_get}
use Rattle.std.proofs.lemmas.Option.{slice_get_within}
use Rattle.arc_core.specs.Config.{IsConfig}
use Rattle.vdev_io.specs.Calls.{Call}
use Rattle.vdev_io.specs.declared.device.CacheDev.{Ghosts as Devices}
use Rattle.vdev_io.specs.declared.pool.Pool.{Ghosts}
use Rattle.trace_text.specs.Grammar.{IsFormed}
use Rattle.trace_text.specs.declared.op.Op.{Op}
use Rattle.trace_text.specs.declared.op.Op.TheVariants as ops
use Rattle.trace_text.specs.declared.reply.Reply.{Reply}
use Rattle.trace_text.specs.declared.trace.Trace.{Trace}
use Rattle.trace_run.specs.declared.ran.Ending.{Ending}
use Rattle.trace_run.specs.declared.ran.Ending.TheVariants.{Fork, Full, Sync, Whole}
use Rattle.trace_run.specs.Lines.{caller_of}
use Rattle.trace_run.specs.RunWork.{FitsBy, IsSyncWork}
use Rattle.trace_run.specs.callers.Together.{StopsAtSync}
use Rattle.trace_run.specs.callers.WorkLines.{IsWorkOf}
use Rattle.trace_run.specs.dbufs.Objects.{Line, ops_of}
use Rattle.trace_run.specs.one_caller.Sequence.{BetweenLines, DoesAnyLine, DoesSync, EndsThere}
use Rattle.trace_run.proofs.callers.GroupLists.{some-same}
use Rattle.run_laws.specs.Alike.{AreAlikeSoFar, BeginAlike, ComeToTheSame, FailAlike, MayPart, OneRun, answers_at_stop, at_stop, begun, pool_answers_to}
use Rattle.run_laws.proofs.Begins.{start-same}
use Rattle.run_laws.proofs.Closing.{EndAlike, close-alike}
use Rattle.run_laws.proofs.EndedOrder.{ended-same}
use Rattle.run_laws.proofs.Facts.{AreCachedValid, AreSettled, OfEachLine}
use Rattle.run_laws.proofs.LinesAlike.{Caps, ComeTo, Feeds, GoesFurther, Kind, Objects, Reads, StepsAlike, Syncs, Together, kind_of, one_further, other_further, parted, together}
use Rattle.run_laws.proofs.Parting.{parts-may, replays-part, same-there}
use Rattle.run_laws.proofs.Runs.{its-replies, many-replies, ops-front, runs-come, whole-lines}
use Rattle.run_laws.proofs.ShardsLegal.{AreLegalShards}
use Rattle.run_laws.proofs.StepKinds.{caps-steps, feeds-steps, reads-steps, unfed-cursors}
use Rattle.run_laws.proofs.StopStep.{StopAlike, stop-step, stops-first}
use Rattle.run_laws.proofs.SyncCells.{CollidesIn}
use Rattle.run_laws.proofs.SyncStep.{sync-step}

-- ---- places of lines

get-op : (ls : List Line) (k : ℕ) (l : Line) → slice_get ls k ≡ Some l → slice_get (ops_of ls) k ≡ Some l.op
get-op [] k l at = absurd (let clash : ◌≡◌ {A = Option Line} None (Some l) = at in cc)
get-op (x ∷ ls) zero l at = ap (λ (y : Line). Some y.op) (some-same x l at)
get-op (x ∷ ls) (suc k) l at = get-op ls k l at

get-front : (xs ys : List Op) (k : ℕ) (x : Op) → slice_get xs k ≡ Some x → slice_get (xs ++ ys) k ≡ Some x
get-front [] ys k x at = absurd (let clash : ◌≡◌ {A = Option Op} None (Some x) = at in cc)
get-front (y ∷ xs) ys zero x at = at
get-front (y ∷ xs) ys (suc k) x at = get-front xs ys k x at

abbrev IsSyncLine : Op → Type 0
IsSyncLine (ops.Txg t) = Unit {0}
IsSyncLine (ops.Read n t x window) = ⊥
IsSyncLine (ops.Hold n t x) = ⊥
IsSyncLine (ops.Drop n x) = ⊥
IsSyncLine (ops.Get n t at window) = ⊥
IsSyncLine (ops.Put n t at size fill) = ⊥
IsSyncLine (ops.Patch n t at start bytes) = ⊥
IsSyncLine (ops.Pin n t at) = ⊥
IsSyncLine (ops.Unpin n at) = ⊥
IsSyncLine ops.Feed = ⊥
IsSyncLine (ops.Cap c) = ⊥

module _ {P D : Type 0} (pools : Ghosts P) (devices : Devices D) (trace : Trace) where
  -- What is known of a line of one run by itself: its work fits it; no eviction is left over before it and behind it; each block that is cached has a valid key; and what was done to each shard by then was legal.
  pub record IsKnown (l : Line) (from to : BetweenLines P D) : Type 0 where
    pub fits : FitsBy trace.config (caller_of l.op) l
    pub settled : AreSettled trace from.cells
    pub then_settled : AreSettled trace to.cells
    pub valid : AreCachedValid trace (pools.size from.outside.pool) from.cells
    pub own : (n : ℕ) → caller_of l.op ≡ Some n → IsWorkOf trace.config 0 l
    pub legal : AreLegalShards trace to.shards

  -- so it is of each line of a run
  abbrev pub AllKnown : OneRun pools devices trace → Type 0
  AllKnown run = OfEachLine pools devices trace IsKnown run.run.work.lines run.run.work.feeds (begun pools devices trace run) run.in_turn.reached run.in_turn.lines

  -- ---- what others show

  -- the step of lines on objects, and what is known of each run by itself
  pub record IsShown : Type 0 where
    pub objects : StepsAlike pools devices trace IsKnown Objects
    pub known : (run : OneRun pools devices trace) (image : List ℕ) → pools.told run.before ≡ Some image → AllKnown run

module _ {P D : Type 0} (pools : Ghosts P) (devices : Devices D) (pool_len : (p : P) (bytes : List ℕ) → pools.told p ≡ Some bytes → length bytes ≡ pools.size p) (trace : Trace) where
  -- ---- a sync is a step

  sync-line : (op : Op) → kind_of op ≡ Syncs → IsSyncLine op
  sync-line (ops.Txg t) is = tt
  sync-line (ops.Read n t x window) is = let clash : Reads ≡ Syncs = is in cc
  sync-line (ops.Hold n t x) is = let clash : Reads ≡ Syncs = is in cc
  sync-line (ops.Drop n x) is = let clash : Reads ≡ Syncs = is in cc
  sync-line (ops.Get n t at window) is = let clash : Objects ≡ Syncs = is in cc
  sync-line (ops.Put n t at size fill) is = let clash : Objects ≡ Syncs = is in cc
  sync-line (ops.Patch n t at start bytes) is = let clash : Objects ≡ Syncs = is in cc
  sync-line (ops.Pin n t at) is = let clash : Objects ≡ Syncs = is in cc
  sync-line (ops.Unpin n at) is = let clash : Objects ≡ Syncs = is in cc
  sync-line ops.Feed is = let clash : Feeds ≡ Syncs = is in cc
  sync-line (ops.Cap c) is = let clash : Caps ≡ Syncs = is in cc

  syncs-steps : IsConfig trace.config → StepsAlike pools devices trace (IsKnown pools devices trace) Syncs
  syncs-steps valid (ops.Txg t) is r q v w here there from to other other_to did other_did a b c d both =
      elim (sync-step pools devices trace t r q v w here there from to other other_to did other_did both.holds.fits.brought both.other_holds.fits.brought valid both.holds.legal both.alike) [
        | inl step ↦ inl (step, unfed-cursors here there a b c d did.0 other_did.0 both.feeds both.other_feeds both.cursors)
        | inr parts ↦ inr parts
      ]
  syncs-steps valid op is r q v w here there from to other other_to did other_did a b c d both = absurd (sync-line op is)

  -- ---- one run goes on where the other stopped

  module _ (run more : OneRun pools devices trace) (vs : List Call)
      (g : GoesFurther pools devices trace (IsKnown pools devices trace) run.run.work.lines more.run.work.lines (begun pools devices trace run) run.in_turn.reached (begun pools devices trace more) more.in_turn.reached (answers_at_stop run.ending run.run.work.stopped) vs) where
    -- the line behind the last one of the run is the trace's
    op-there : slice_get trace.ops (length run.run.work.lines) ≡ Some g.line.op
    op-there =
        let front = ops-front pools devices trace more in
        ap (λ (os : List Op). slice_get os (length run.run.work.lines)) front.1 ∙ get-front (ops_of more.run.work.lines) front.0 (length run.run.work.lines) g.line.op (get-op more.run.work.lines (length run.run.work.lines) g.line g.at)

    not-whole : run.ending ≡ Whole → ⊥
    not-whole whole =
        let many = whole-lines pools devices trace run whole in
        let within = slice_get_within trace.ops (length run.run.work.lines) g.line.op op-there in
        omega (arith, many, within)

    module _ (t : ℕ) (at : slice_get trace.ops (length run.report.replies) ≡ Some (ops.Txg t)) where
      is-sync : g.line.op ≡ ops.Txg t
      is-sync = some-same g.line.op (ops.Txg t) (sym op-there ∙ (sym (ap (λ (k : ℕ). slice_get trace.ops k) (many-replies pools devices trace run)) ∙ at))

      abbrev with_op : Op → Line
      with_op op = record { op = op; reply = g.line.reply; work = g.line.work }

      further-stops : (run.ending ≡ Whole → ⊥) → ⊥
      further-stops stopped =
          let does : (g.here ≡ []) × DoesSync pools devices trace t g.line.reply g.line.work g.from g.next = subst (λ (o : Op). DoesAnyLine pools devices trace (caller_of o) (with_op o) g.here g.from g.next) is-sync g.does in
          let fits : IsSyncWork trace.config g.line.work = subst (λ (o : Op). FitsBy trace.config (caller_of o) (with_op o)) is-sync g.holds.fits in
          let rows : AreAlikeSoFar (answers_at_stop run.ending run.run.work.stopped) (pool_answers_to (with_op (ops.Txg t)) ++ g.rest) = subst (λ (o : Op). AreAlikeSoFar (answers_at_stop run.ending run.run.work.stopped) (pool_answers_to (with_op o) ++ g.rest)) is-sync g.pool in
          stops-first pools devices pool_len trace run.report.replies run.run.work.stopped g.line.work run.ending t g.line.reply run.in_turn.reached run.in_turn.last_line g.from g.next run.after g.then run.in_turn.ended stopped does.1 fits.brought g.rest rows

    further-ends : (ending : Ending) → (ending ≡ Whole → ⊥) → EndsThere pools devices trace run.report.replies run.run.work.stopped ending run.in_turn.reached run.after run.in_turn.last_line → StopsAtSync trace run.report.replies
    further-ends Whole not ends = absurd (not refl)
    further-ends Fork not ends = absurd ends
    further-ends Sync not ends = ends.stops.behind
    further-ends (Full need left) not ends = ends.stops.behind

    -- so no run goes on where the other stopped
    further-part : ⊥
    further-part = let stop = further-ends run.ending not-whole run.in_turn.ended in further-stops stop.tick stop.at not-whole

  -- ---- the law

  module _ (formed : IsFormed trace) (shown : IsShown pools devices trace) where
    known-steps : (kind : Kind) → StepsAlike pools devices trace (IsKnown pools devices trace) kind
    known-steps Reads = reads-steps pools devices pool_len trace (IsKnown pools devices trace) formed.config (λ l from to known. known.legal)
    known-steps Objects = shown.objects
    known-steps Feeds = feeds-steps pools devices pool_len trace (IsKnown pools devices trace) formed.config (λ l from to known. known.legal) (λ l from to known. known.fits)
    known-steps Syncs = syncs-steps formed.config
    known-steps Caps = caps-steps pools devices pool_len trace (IsKnown pools devices trace) formed.config (λ l from to known. known.legal) (λ l from to known. known.fits)

    module _ (one other : OneRun pools devices trace) (begin : BeginAlike pools devices trace one other) (fail : FailAlike pools devices trace one other) where
      abbrev SameOrParts : Type 0
      SameOrParts = ComeToTheSame pools devices trace one other ⊎ MayPart pools devices trace one other

      module _ (t : Together pools devices trace one.run.work.lines other.run.work.lines (begun pools devices trace one) one.in_turn.reached (begun pools devices trace other) other.in_turn.reached (answers_at_stop one.ending one.run.work.stopped) (answers_at_stop other.ending other.run.work.stopped)) where
        replies-same : other.report.replies ≡ one.report.replies
        replies-same = sym (its-replies pools devices trace other) ∙ (t.replies ∙ its-replies pools devices trace one)

        other-ends : EndsThere pools devices trace one.report.replies other.run.work.stopped other.ending other.in_turn.reached other.after other.in_turn.last_line
        other-ends = subst (λ (rs : List Reply). EndsThere pools devices trace rs other.run.work.stopped other.ending other.in_turn.reached other.after other.in_turn.last_line) replies-same other.in_turn.ended

        abbrev StopsSame : Type 0
        StopsSame = StopAlike pools devices pool_len trace one.run.work.stopped other.run.work.stopped one.ending other.ending one.in_turn.last_line other.in_turn.last_line

        stops-same : StopsSame ⊎ CollidesIn trace one.in_turn.reached.cells one.run.work.stopped.noted other.run.work.stopped.noted
        stops-same = stop-step pools devices pool_len trace one.report.replies one.run.work.stopped other.run.work.stopped one.in_turn.reached one.in_turn.last_line other.in_turn.reached other.in_turn.last_line one.after other.after t.then
            one.ending other.ending one.in_turn.ended other-ends (λ whole. many-replies pools devices trace one ∙ whole-lines pools devices trace one whole)
            (λ whole. sym (ap (λ (rs : List Reply). length rs) replies-same) ∙ (many-replies pools devices trace other ∙ whole-lines pools devices trace other whole)) t.pool

        -- both have as many lines
        lines-many : length one.run.work.lines ≡ length other.run.work.lines
        lines-many = sym (many-replies pools devices trace one) ∙ (sym (ap (λ (rs : List Reply). length rs) replies-same) ∙ many-replies pools devices trace other)

        last-same : StopsSame → other.run.work.ended ≡ one.run.work.ended → EndAlike pools devices trace one other
        last-same last dropped = record {
          shards = last.shards;
          cells = last.cells;
          kept = last.kept;
          ending = last.ends;
          replies = replies-same;
          dropped = dropped;
        }

        close : StopsSame → SameOrParts
        close last =
            let dropped = ended-same pools devices trace formed.apart one other last.cells in
            inl (close-alike pools devices trace one other (last-same last dropped) (start-same pools devices trace one other begin fail).found)

        come-together : SameOrParts
        come-together = elim stops-same [
          | inl last ↦ close last
          | inr x ↦ inr (replays-part pools devices trace one other (length one.run.work.lines) one.in_turn.reached.cells (same-there pools devices trace one other (length one.run.work.lines) one.in_turn.reached.cells t.there) t.there.did
              x.i x.in_range x.bases x.other_bases x.state x.other_state x.leads x.other_leads x.collide (at_stop refl lines-many x.writes))
        ]

      come : ComeTo pools devices trace (IsKnown pools devices trace) one.run.work.lines other.run.work.lines one.run.work.feeds other.run.work.feeds (begun pools devices trace one) one.in_turn.reached
          (begun pools devices trace other) other.in_turn.reached one.in_turn.lines other.in_turn.lines (answers_at_stop one.ending one.run.work.stopped) (answers_at_stop other.ending other.run.work.stopped) → SameOrParts
      come (together t) = come-together t
      come (other_further g) = absurd (further-part one other (answers_at_stop other.ending other.run.work.stopped) g)
      come (one_further g) = absurd (further-part other one (answers_at_stop one.ending one.run.work.stopped) g)
      come (parted p) = inr (parts-may pools devices trace one other formed.config p)

      come-so : SameOrParts
      come-so = come (runs-come pools devices pool_len trace one other begin fail (IsKnown pools devices trace) (shown.known one begin.image begin.told) (shown.known other begin.image begin.other_told) formed.config (λ l from to known. known.legal) (λ l from to known. known.fits) known-steps)

    pub runs-alike : (one other : OneRun pools devices trace) → BeginAlike pools devices trace one other → FailAlike pools devices trace one other → ComeToTheSame pools devices trace one other ⊎ MayPart pools devices trace one other
    runs-alike one other begin fail = come-so one other begin fail
