-- Two runs of one caller as the law names them: how a report of `run` gives one, that they begin alike, and what all their lines come to.
use Rattle.std.proofs.Common.{◌≡◌, ◌≤◌, ℕ, zero, suc, true, false, List, [], ◌∷◌, length, take, Option, None, Some, refl, sym, ap, ◌∙◌, subst, inl, inr, arith, append-nil}
use Rattle.std.specs.List.{AllByRecursion}
use Rattle.std.proofs.lemmas.Bool.{cases_lt}
use Rattle.std.proofs.lemmas.List.{length-map}
use Rattle.blk_ptr.specs.declared.ptr.Ptr.{Ptr}
use Rattle.arc_core.specs.Config.{IsConfig}
use Rattle.arc_core.specs.declared.config.Config.{Config}
use Rattle.arc_core.specs.declared.event.Event.{Event}
use Rattle.arc_table.specs.Ended.{Ended}
use Rattle.arc_table.specs.Fronts.{StartsWith}
use Rattle.dbuf_cells.specs.Turns.{OnHeap}
use Rattle.l2_log.specs.Rules.{least_ring_end}
use Rattle.l2_ring.specs.declared.live.Written.{Written}
use Rattle.l2_dev.specs.Cursor.{CursorState}
use Rattle.l2_feed.specs.Alike.{AreCursorsAlike}
use Rattle.vdev_io.specs.Calls.{Call, DeviceCall}
use Rattle.vdev_io.specs.declared.device.CacheDev.{Ghosts as Devices}
use Rattle.vdev_io.specs.declared.pool.Pool.{Ghosts}
use Rattle.trace_text.proofs.FormedLemmas.{IsFormed-trace}
use Rattle.trace_text.specs.declared.op.Op.{Op}
use Rattle.trace_text.specs.declared.rebuilt.Rebuilt.{Rebuilt}
use Rattle.trace_text.specs.declared.reply.Reply.{Reply}
use Rattle.trace_text.specs.declared.report.Report.{Report}
use Rattle.trace_text.specs.declared.trace.Trace.{Trace}
use Rattle.trace_run.specs.Bounded.{device_len, with_bound}
use Rattle.trace_run.specs.Devices.{Finds, IsFoundOn, usable}
use Rattle.trace_run.specs.FeedSeries.{GoOn, WasFedFrom}
use Rattle.trace_run.specs.Feeds.{FeedDone}
use Rattle.trace_run.specs.Lines.{caller_of, has_further}
use Rattle.trace_run.specs.Outcome.{IsReport}
use Rattle.trace_run.specs.Restores.{found_keys, restores_in}
use Rattle.trace_run.specs.RunWork.{FitsBy}
use Rattle.trace_run.specs.States.{Handed}
use Rattle.trace_run.specs.callers.Together.{IsFirstPlace, answered_ops}
use Rattle.trace_run.specs.dbufs.Objects.{Line, ops_of, replies_of}
use Rattle.trace_run.specs.declared.ran.Ending.{Ending}
use Rattle.trace_run.specs.declared.ran.Ending.TheVariants.{Fork, Full, Sync, Whole}
use Rattle.trace_run.specs.declared.status.Status.{Status}
use Rattle.trace_run.specs.one_caller.Sequence.{AreInSequence, BetweenLines, shard_behind}
use Rattle.trace_run.proofs.theorem.LineAnswers.{lines-ops, lines-replies}
use Rattle.run_laws.specs.Alike.{AreAlike, AreAlikeSoFar, BeginAlike, FailAlike, GoOnFrom, OneRun, ReportsAreRuns, Starts, StartsSo, answers_at_stop, begun}
use Rattle.run_laws.proofs.Begins.{AreFirstAlike, AreStartedSame, start-same}
use Rattle.run_laws.proofs.BoundedTrace.{formed-bound}
use Rattle.run_laws.proofs.Facts.{OfEachLine}
use Rattle.run_laws.proofs.feeds.FeedPlaces.{PlacesLive}
use Rattle.run_laws.proofs.LinesAlike.{BothGo, ComeTo, Kind, StepsAlike, lines-alike}
use Rattle.run_laws.proofs.Rows.{so-far-front}
use Rattle.run_laws.proofs.ShardsLegal.{AreLegalShards, begun-legal}
use Rattle.run_laws.proofs.StartOne.{too-long}
use Rattle.run_laws.proofs.feeds.StartPlaces.{live_first, start-live}

-- ---- the place of the first sync: the greatest end of the declared blocks that a pool of this length has (spa_sync's first allocation)

-- neither place is behind the other
place-least : (len : ℕ) (blocks : List Ptr) (a b : ℕ) → IsFirstPlace len blocks a → IsFirstPlace len blocks b → a ≤ b
place-least len blocks a b first other = elim first.least [
  | inl none ↦ omega (arith, none)
  | inr end ↦ (let behind = other.behind end.0 end.1 end.2 end.3 in let is = end.4 in omega (arith, behind, is))
]

place-one : (len : ℕ) (blocks : List Ptr) (a b : ℕ) → IsFirstPlace len blocks a → IsFirstPlace len blocks b → b ≡ a
place-one len blocks a b first other = let up = place-least len blocks a b first other in let down = place-least len blocks b a other first in omega (arith, up, down)

-- ---- a run that came to a report

module _ {P D : Type 0} (pool : Ghosts P) (device : Devices D) where
  fed-from : (g : Config) (before started after : Option D) (first : Option CursorState) (found : Option Rebuilt) (feeds : List FeedDone) (histories : List (List Event)) → WasFedFrom device g before started after first found feeds histories → GoOnFrom first feeds
  fed-from g before started after None found feeds histories fed = fed
  fed-from g before started after (Some first) found feeds histories fed = (fed.8.last, fed.8.turn)

  -- the reads of a start
  started-so : (before after : D) (first : Option CursorState) (rebuilt : Rebuilt) → IsFoundOn device before after first rebuilt → (reads : List DeviceCall) × StartsSo device before after reads first rebuilt
  started-so before after first rebuilt f = elim (cases_lt (device.size before) least_ring_end) [
    | inl less ↦
        let s = f.short less in
        ([], record { short = λ also. (s.0, s.1, s.3, refl); long = λ most. absurd (too-long least_ring_end (device.size before) less most); only = f.only })
    | inr most ↦
        let r = f.reads most in
        (r.0, record { short = λ less. absurd (too-long least_ring_end (device.size before) less most); long = λ also. (r.1, r.2, r.3, r.4, r.5); only = f.only })
  ]

  its-start : (handed started : Option D) (first : Option CursorState) (rebuilt : Option Rebuilt) → Finds device handed started first rebuilt → (reads : List DeviceCall) × Starts device handed started reads first rebuilt
  its-start None started first rebuilt f = ([], (f.0, refl, f.1, f.2))
  its-start (Some before) None first rebuilt f = absurd f
  its-start (Some before) (Some after) first None f = absurd f
  its-start (Some before) (Some after) first (Some rebuilt) f = started-so before after first rebuilt f

  -- A report of `run` with one caller, of a trace with lines on objects, syncs or feeds, is one run of the trace with the bound of its device.
  one-run : (before after : Handed P D) (answer : Status) (closed : Ended OnHeap) (report : Report) (r : IsReport pool device before after answer closed report) → r.trace.config.callers ≡ 1 → has_further r.trace.ops ≡ true
      → OneRun pool device (with_bound r.trace (device_len device.size before.cache))
  one-run before after answer closed report r one further = record {
    before = before.pool;
    after = after.pool;
    lent = usable device r.started;
    back = usable device after.cache;
    ending = r.ending;
    closed = closed;
    report = report;
    run = r.run;
    callers = one;
    further = further;
    in_turn = r.run.run.in_turn one further;
    in_turn_is = refl;
    first = r.first;
    handed = before.cache;
    started = r.started;
    lent_is = refl;
    reads = (its-start before.cache r.started r.first report.rebuilt r.found).0;
    start = (its-start before.cache r.started r.first report.rebuilt r.found).1;
    fed = fed-from (with_bound r.trace (device_len device.size before.cache)).config before.cache r.started after.cache r.first report.rebuilt r.run.work.feeds report.histories r.fed;
    whole = r.whole;
  }

pub reports-are-runs : {P D : Type 0} (pool : Ghosts P) (device : Devices D) → ReportsAreRuns pool device
unfolding one-run
reports-are-runs pool device before after answer closed report r one further = (
  formed-bound r.trace (device_len device.size before.cache) (IsFormed-trace r.read.text r.trace r.read.is_trace),
  (one-run pool device before after answer closed report r one further, refl, refl, refl, refl, refl, refl, refl, refl, refl, refl),
)

-- ---- fronts of one list of operations

pub take-front : {X : Type 0} (k : ℕ) (xs : List X) → StartsWith xs (take k xs)
take-front zero xs = (xs, refl)
take-front (suc k) [] = ([], refl)
take-front (suc k) (x ∷ xs) = let r = take-front k xs in (r.0, λ i. x ∷ r.1 i)

so-far-refl : {X : Type 0} (xs : List X) → AreAlikeSoFar xs xs
so-far-refl [] = tt
so-far-refl (x ∷ xs) = (refl, so-far-refl xs)

fronts-alike : {X : Type 0} (xs us vs : List X) → StartsWith xs us → StartsWith xs vs → AreAlikeSoFar us vs
fronts-alike {X} xs us vs one other = so-far-front us one.0 vs other.0 (subst (λ (z : List X × List X). AreAlikeSoFar z.0 z.1) (λ i. (one.1 i, other.1 i)) (so-far-refl xs))

pub answered-front : (trace : Trace) (ending : Ending) (replies : List Reply) → StartsWith trace.ops (answered_ops trace ending replies)
answered-front trace Whole replies = ([], sym (append-nil trace.ops))
answered-front trace Fork replies = take-front (length replies) trace.ops
answered-front trace Sync replies = take-front (length replies) trace.ops
answered-front trace (Full need left) replies = take-front (length replies) trace.ops

-- ---- the ring

-- feeds of two runs that went on from one ring, whose log blocks are the same, and of whose live entries this holds
record Rings (Of : List Written → Type 0) (fs es : List FeedDone) : Type 0 where
  pub first : CursorState
  pub placed : Of first.ring.live
  pub last : CursorState
  pub other_first : CursorState
  pub other_last : CursorState
  pub feeds : GoOn fs first last
  pub other_feeds : GoOn es other_first other_last
  pub cursors : AreCursorsAlike first other_first

-- where there is no device any cursor stands for that of no feed
abbrev no_cursor : CursorState
no_cursor = record { ring = record { end = 0; hand = 0; evict = 0; top = 0; lap = 0; live = []; spare = 0 }; base = 0; newest = None; second = None; pending = []; ready = false }

rings : (Of : List Written → Type 0) (first other : Option CursorState) (fs es : List FeedDone) → Of (live_first first) → GoOnFrom first fs → GoOnFrom other es → AreFirstAlike first other → Rings Of fs es
rings Of None None fs es placed none other_none alike = record {
  first = no_cursor;
  placed = placed;
  last = no_cursor;
  other_first = no_cursor;
  other_last = no_cursor;
  feeds = subst (λ (l : List FeedDone). GoOn l no_cursor no_cursor) (sym none) refl;
  other_feeds = subst (λ (l : List FeedDone). GoOn l no_cursor no_cursor) (sym other_none) refl;
  cursors = record { ring = refl; newest = refl; second = refl };
}
rings Of None (Some other) fs es placed fed other_fed alike = absurd alike
rings Of (Some first) None fs es placed fed other_fed alike = absurd alike
rings Of (Some first) (Some other) fs es placed fed other_fed alike = record { first = first; placed = placed; last = fed.0; other_first = other; other_last = other_fed.0; feeds = fed.1; other_feeds = other_fed.1; cursors = alike }

-- ---- what is known of each line

module _ {P D : Type 0} (pools : Ghosts P) (devices : Devices D) (trace : Trace) where
  -- what holds of lines by themselves
  pub of-each-line : (Holds : Line → Type 0) (ls : List Line) (feeds : List FeedDone) (from to : BetweenLines P D) (did : AreInSequence pools devices trace ls feeds from to) → AllByRecursion Holds ls
      → OfEachLine pools devices trace (λ l before behind. Holds l) ls feeds from to did
  of-each-line Holds [] feeds from to did all = tt
  of-each-line Holds (l ∷ ls) feeds from to did all = (all.0, of-each-line Holds ls did.2 did.0 to did.5 all.1)

  -- two facts of each line are one
  pub of-each-both : (One Other Both : Line → (from to : BetweenLines P D) → Type 0) → ((l : Line) (from to : BetweenLines P D) → One l from to → Other l from to → Both l from to) → (ls : List Line) (feeds : List FeedDone) (from to : BetweenLines P D)
      → (did : AreInSequence pools devices trace ls feeds from to) → OfEachLine pools devices trace One ls feeds from to did → OfEachLine pools devices trace Other ls feeds from to did → OfEachLine pools devices trace Both ls feeds from to did
  of-each-both One Other Both join [] feeds from to did one other = tt
  of-each-both One Other Both join (l ∷ ls) feeds from to did one other = (join l from did.0 one.0 other.0, of-each-both One Other Both join ls did.2 did.0 to did.5 one.1 other.1)

-- ---- how many lines a run did

module _ {P D : Type 0} (pools : Ghosts P) (devices : Devices D) (trace : Trace) (run : OneRun pools devices trace) where
  pub its-replies : replies_of run.run.work.lines ≡ run.report.replies
  its-replies = lines-replies (answered_ops trace run.ending run.report.replies) run.report.replies run.run.work.lines run.run.did.lines

  pub many-replies : length run.report.replies ≡ length run.run.work.lines
  many-replies = sym (ap (λ (rs : List Reply). length rs) its-replies) ∙ length-map run.run.work.lines (λ (l : Line). l.reply)

  -- the operations that it answered are the first of the trace
  pub ops-front : StartsWith trace.ops (ops_of run.run.work.lines)
  ops-front = subst (StartsWith trace.ops) (sym (lines-ops (answered_ops trace run.ending run.report.replies) run.report.replies run.run.work.lines run.run.did.lines)) (answered-front trace run.ending run.report.replies)

  -- a whole run answered all operations
  pub whole-ops : run.ending ≡ Whole → ops_of run.run.work.lines ≡ trace.ops
  whole-ops whole = lines-ops (answered_ops trace run.ending run.report.replies) run.report.replies run.run.work.lines run.run.did.lines ∙ ap (λ (e : Ending). answered_ops trace e run.report.replies) whole

  pub whole-lines : run.ending ≡ Whole → length run.run.work.lines ≡ length trace.ops
  whole-lines whole = sym (length-map run.run.work.lines (λ (l : Line). l.op)) ∙ ap (λ (os : List Op). length os) (whole-ops whole)

-- ---- all lines of two runs

module _ {P D : Type 0} (pools : Ghosts P) (devices : Devices D) (pool_len : (p : P) (bytes : List ℕ) → pools.told p ≡ Some bytes → length bytes ≡ pools.size p) (trace : Trace) (one other : OneRun pools devices trace) (begin : BeginAlike pools devices trace one other) (fail : FailAlike pools devices trace one other) where
  -- both starts found the same
  abbrev start : AreStartedSame pools devices trace one other
  start = start-same pools devices trace one other begin fail

  -- both pools have one length
  sizes : pools.size other.before ≡ pools.size one.before
  sizes = sym (pool_len other.before begin.image begin.other_told) ∙ pool_len one.before begin.image begin.told

  pub begins-alike : AreAlike pools devices trace (begun pools devices trace one) (begun pools devices trace other)
  begins-alike = record {
    image = begin.image;
    told = begin.told;
    other_told = begin.other_told;
    group = refl;
    next = place-one (pools.size one.before) trace.blocks one.run.run.place other.run.run.place one.run.run.first (subst (λ (n : ℕ). IsFirstPlace n trace.blocks other.run.run.place) sizes other.run.run.first);
    device = start.device (shard_behind trace.config (begun pools devices trace one).shards);
    shards = λ shard. ap (λ (r : Option Rebuilt). restores_in trace.config (found_keys r) shard) start.found;
    cells = λ i is_cell. refl;
    kept = refl;
  }

  module _ (Holds : Line → (from to : BetweenLines P D) → Type 0) (holds : OfEachLine pools devices trace Holds one.run.work.lines one.run.work.feeds (begun pools devices trace one) one.in_turn.reached one.in_turn.lines)
      (other_holds : OfEachLine pools devices trace Holds other.run.work.lines other.run.work.feeds (begun pools devices trace other) other.in_turn.reached other.in_turn.lines) where
    abbrev stop : List Call
    stop = answers_at_stop one.ending one.run.work.stopped

    abbrev other_stop : List Call
    other_stop = answers_at_stop other.ending other.run.work.stopped

    abbrev Placed : List Written → Type 0
    Placed live = PlacesLive trace.config (shard_behind trace.config (begun pools devices trace one).shards) live

    both-begin : (r : Rings Placed one.run.work.feeds other.run.work.feeds) → BothGo pools devices trace Holds one.run.work.lines other.run.work.lines one.run.work.feeds other.run.work.feeds (begun pools devices trace one) one.in_turn.reached
        (begun pools devices trace other) other.in_turn.reached one.in_turn.lines other.in_turn.lines stop other_stop r.first r.last r.other_first r.other_last
    both-begin r = record {
      alike = begins-alike;
      same = fronts-alike trace.ops (ops_of one.run.work.lines) (ops_of other.run.work.lines) (ops-front pools devices trace one) (ops-front pools devices trace other);
      holds = holds;
      other_holds = other_holds;
      feeds = r.feeds;
      other_feeds = r.other_feeds;
      shapes = one.run.did.fed.shapes;
      other_shapes = other.run.did.fed.shapes;
      cursors = r.cursors;
      placed = r.placed;
      pool = fail.pool;
      device = start.device_rows;
    }

    -- all their lines come to the same, as far as both go; or they part
    pub runs-come : IsConfig trace.config → ((l : Line) (from to : BetweenLines P D) → Holds l from to → AreLegalShards trace to.shards) → ((l : Line) (from to : BetweenLines P D) → Holds l from to → FitsBy trace.config (caller_of l.op) l) → ((kind : Kind) → StepsAlike pools devices trace Holds kind)
        → ComeTo pools devices trace Holds one.run.work.lines other.run.work.lines one.run.work.feeds other.run.work.feeds (begun pools devices trace one) one.in_turn.reached (begun pools devices trace other) other.in_turn.reached
        one.in_turn.lines other.in_turn.lines stop other_stop
    runs-come valid legal fits steps =
        let placed : Placed (live_first one.first) = start-live devices trace valid one.handed one.started one.reads one.first one.report.rebuilt one.start (begun-legal pools devices trace one) in
        let r = rings Placed one.first other.first one.run.work.feeds other.run.work.feeds placed one.fed other.fed start.cursors in
        lines-alike pools devices trace Holds valid legal fits steps one.run.work.lines other.run.work.lines one.run.work.feeds other.run.work.feeds (begun pools devices trace one) one.in_turn.reached (begun pools devices trace other) other.in_turn.reached
        one.in_turn.lines other.in_turn.lines stop other_stop r.first r.last r.other_first r.other_last (both-begin r)
