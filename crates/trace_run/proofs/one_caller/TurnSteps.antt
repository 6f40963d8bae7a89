-- One caller, one step more: its own lines up to one that is no caller's, or that one.
use Rattle.std.proofs.Common.{◌≡◌, ◌≢◌, ℕ, zero, suc, ◌+◌, ◌<◌, ◌≤◌, true, false, Option, List, [], ◌∷◌, ◌++◌, Some, None, Result, Ok, Err, length, take, drop, refl, sym, ap, ◌∙◌, subst, arith, append-nil, length-append, inl, inr}
use Rattle.std.specs.Prelude.{count_by, filter, slice_get, slice_range}
use Rattle.std.specs.List.{AllByRecursion}
use Rattle.std.proofs.lemmas.Bool.{false≢true}
use Rattle.std.proofs.lemmas.Option.{get_or_from_slice_get, slice_get_within}
use Rattle.std.proofs.Math.Seq.{take-add, take-suc}
use lib.ListN.{get_elem?}
use Rattle.arc_core.specs.declared.config.Config.{Config}
use Rattle.arc_core.specs.declared.served.Restored.{Restored}
use Rattle.arc_table.specs.Cache.{Cache}
use Rattle.arc_table.specs.Geometry.{parties_of}
use Rattle.arc_table.specs.Seen.{seen_of}
use Rattle.arc_table.specs.declared.about.About.{About}
use Rattle.dbuf_cells.specs.Turns.{OnHeap, PartyPlace, dbuf_meanings}
use Rattle.trace_text.specs.Grammar.{IsFormed}
use Rattle.trace_text.specs.declared.op.Op.{Op}
use Rattle.trace_text.specs.declared.op.Op.TheVariants as ops
use Rattle.trace_text.specs.declared.reply.Reply.{Reply}
use Rattle.trace_text.specs.declared.trace.Trace.{Trace}
use Rattle.vdev_io.specs.Calls.{KeepsPool}
use Rattle.vdev_io.specs.Faults.{last_count}
use Rattle.vdev_io.specs.declared.device.CacheDev.{Ghosts as Devices}
use Rattle.vdev_io.specs.declared.pool.Pool.{Ghosts}
use Rattle.arc_table.specs.Items.{Meanings}
use Rattle.l2_dev.specs.declared.device.L2Dev.{L2Dev}
use Rattle.trace_run.specs.declared.device.Device.{Device}
use Rattle.trace_run.specs.declared.device.Device.TheVariants as device
use Rattle.trace_run.specs.declared.groups.Crew.{Crew}
use Rattle.trace_run.specs.declared.kept_blocks.KeptBlock.{KeptBlock}
use Rattle.trace_run.specs.declared.ran.Ending.{Ending}
use Rattle.trace_run.specs.declared.ran.Ending.TheVariants.{Fork, Full, Sync, Whole}
use Rattle.trace_run.specs.Acts.{events_of_feeder}
use Rattle.trace_run.specs.Answers.{is_pool_fault}
use Rattle.arc_core.specs.Operations.{Act}
use Rattle.trace_run.specs.Deeds.{Noted}
use Rattle.trace_run.specs.Devices.{IsHandedBack, WasLent, lent_in}
use Rattle.trace_run.specs.Meeting.{MayGoOn, Waits}
use Rattle.trace_run.specs.FeedEvents.{AreFeedsTold, is_fed}
use Rattle.trace_run.specs.FeedSeries.{AreMadeSoFar}
use Rattle.trace_run.specs.Feeds.{FeedDone, IsIdleFeeder, MadeFeedsOf, is_feed}
use Rattle.trace_run.specs.Lines.{caller_of, is_of_caller, replies_where}
use Rattle.trace_run.specs.dbufs.Objects.{Line, no_work, ops_of, replies_of}
use Rattle.trace_run.specs.Openings.{AllKnow, openings_of}
use Rattle.trace_run.specs.RunWork.{AllFit, FitsBy, RunWork, lines_of_caller}
use Rattle.trace_run.specs.callers.Group.{AllWorked, LeavesPool, WorkedAt}
use Rattle.trace_run.specs.callers.Looking.{HaveLooked}
use Rattle.trace_run.specs.callers.Groups.{AreEndLines, DidEndLine, HaveCome, HaveCounted, HaveReached, goes_on, stopped_line}
use Rattle.trace_run.specs.callers.InOrder.{AreInGroup}
use Rattle.trace_run.specs.callers.Together.{BetweenGroups, IsCutLast, between_groups, over_callers}
use Rattle.trace_run.specs.callers.WorkLines.{AreLinesOf, IsWorkOf, calls_of_lines}
use Rattle.trace_run.specs.one_caller.InTurn.{AreDoneInTurn, AreOwn, DidFeed, DidOtherLine, DidOwnLines, GoInSequence, HaveComeInTurn, IsOfTrace, StandAt, StepsInTurn}
use Rattle.trace_run.specs.one_caller.Sequence.{AreInSequence, BetweenLines, begins_so}
use Rattle.trace_run.proofs.RunLemmas.{calls-faults, calls-reads}
use Rattle.trace_run.proofs.callers.BesideLemmas.{fed-idle}
use Rattle.trace_run.proofs.callers.EndLineLemmas.{Halted, Turned, end-halted, end-turned}
use Rattle.trace_run.proofs.callers.EndedLemmas.{asked-gives, have-come-ended, have-come-stopped, made-sees, stopped-cut, with_end, with_stop}
use Rattle.trace_run.proofs.callers.GroupCounts.{over-zero}
use Rattle.trace_run.proofs.callers.GroupRunLemmas.{all-callers, may-resize}
use Rattle.trace_run.proofs.callers.FrontLemmas.{front-before, pool-front}
use Rattle.trace_run.proofs.callers.LineLists.{all-inside, calls-few, ends-nobody, lines-failed, lines-long, nobody-callers}
use Rattle.trace_run.proofs.callers.GroupsLemmas.{parted-at, parted-length}
use Rattle.trace_run.proofs.callers.LookedLemmas.{answered-looked, lines-looked, stop-behind}
use Rattle.trace_run.proofs.callers.MeetLemmas.{parted-waits}
use Rattle.trace_run.proofs.callers.MoreLemmas.{have-come-by, with_lines}
use Rattle.trace_run.proofs.callers.StepLemmas.{asked, counted-more, failed, range-at, told-of}
use Rattle.trace_run.proofs.callers.ToldLemmas.{told-front, told_then}
use Rattle.trace_run.proofs.feeds.FedLemmas.{HasFedMore, group-ends, made-shaped, ops-are, replies-told}
use Rattle.trace_run.proofs.feeds.SeriesLemmas.{moved-so-far}
use Rattle.trace_run.proofs.feeds.TurnFeeds.{joined-more, joined-so-far, parted-more, parted-so-far}
use Rattle.trace_run.proofs.one_caller.SequenceEnds.{halted-goes, turned-goes}
use Rattle.trace_run.proofs.one_caller.TurnBegins.{parted-know}
use Rattle.trace_run.proofs.one_caller.TurnLists.{AreMine, sequence-append}
use Rattle.trace_run.proofs.theorem.DeviceUsed.{back-same, back-then, lent-only}
use Rattle.trace_run.proofs.syncs.SyncTurned.{AreToldOf}

-- ---- lines of the one caller

-- none of them asks for a feed
not-feed : (op : Op) → caller_of op ≡ Some 0 → is_feed op ≡ false
not-feed (ops.Read n t x window) mine = refl
not-feed (ops.Hold n t x) mine = refl
not-feed (ops.Drop n x) mine = refl
not-feed (ops.Get n t at window) mine = refl
not-feed (ops.Put n t at size fill) mine = refl
not-feed (ops.Patch n t at from bytes) mine = refl
not-feed (ops.Pin n t at) mine = refl
not-feed (ops.Unpin n at) mine = refl
not-feed ops.Feed mine = cc
not-feed (ops.Txg t) mine = refl
not-feed (ops.Cap c) mine = refl

own-tail : (o : Op) (os : List Op) → AreOwn (o ∷ os) → AreOwn os
own-tail o os own k op there = own (suc k) op there

none-asks : (qs : List Op) (ss : List Reply) → AreOwn qs → (filter is_feed qs ≡ []) × (replies_where is_feed qs ss ≡ [])
none-asks [] ss own = (refl, refl)
none-asks (q ∷ qs) [] own = (rw (not-feed q (own 0 q refl)) (none-asks qs [] (own-tail q qs own)).0, refl)
none-asks (q ∷ qs) (s ∷ ss) own = let rest = none-asks qs ss (own-tail q qs own) in (rw (not-feed q (own 0 q refl)) rest.0, rw (not-feed q (own 0 q refl)) rest.1)

own-mine : (qs : List Op) (ss : List Reply) (ls : List Line) → AreOwn qs → AreLinesOf qs ss ls → AreMine ls
own-mine qs ss ls own are = mine-of ls (subst AreOwn (sym (ops-are qs ss ls are).0) own)
  where
    mine-of : (ls : List Line) → AreOwn (ops_of ls) → AreMine ls
    mine-of [] own = tt
    mine-of (l ∷ ls) own = (own 0 l.op refl, mine-of ls (own-tail l.op (ops_of ls) own))

own-lines-whole : (qs : List Op) (ss : List Reply) (ls : List Line) → AreOwn qs → AreLinesOf qs ss ls → lines_of_caller 0 ls ≡ ls
own-lines-whole qs ss ls own are = whole ls (own-mine qs ss ls own are)
  where
    whole : (ls : List Line) → AreMine ls → lines_of_caller 0 ls ≡ ls
    whole [] mine = refl
    whole (l ∷ ls) mine =
        let his : is_of_caller 0 l.op ≡ true = rw mine.0 refl in
        rw his (ap (λ (xs : List Line). l ∷ xs) (whole ls mine.1))

own-fits : (g : Config) (ls : List Line) → AreMine ls → AllByRecursion (IsWorkOf g 0) ls → AllFit g ls
own-fits g [] mine fits = tt
own-fits g (l ∷ ls) mine fits = (subst (λ (o : Option ℕ). FitsBy g o l) (sym mine.0) fits.0, own-fits g ls mine.1 fits.1)

own-group : (callers : ℕ) (qs : List Op) → 0 < callers → AreOwn qs → AreInGroup callers qs
own-group callers qs any own k op there = inl (0, own k op there, any)

-- a line is the one caller's where it is some caller's
only-caller : (o : Option ℕ) (callers : ℕ) → callers ≡ 1 → ((n : ℕ) → o ≡ Some n → n < callers) → o ≢ None → o ≡ Some 0
only-caller None callers one below is = absurd (is refl)
only-caller (Some n) callers one below is = let inside = below n refl in ap (λ (m : ℕ). Some m) (let z : n ≡ 0 = omega (arith, inside, one) in z)

pub range-own : (trace : Trace) → IsFormed trace → trace.config.callers ≡ 1 → (a b : ℕ) → ((k : ℕ) (op : Op) → a ≤ k → k < b → slice_get trace.ops k ≡ Some op → caller_of op ≢ None) → AreOwn (slice_range trace.ops a b)
range-own trace formed one a b inside k op at =
    let h = range-at trace.ops a b k op at in
    only-caller (caller_of op) trace.config.callers one (λ n of. all-callers trace formed (a + k) op h.1 n of) (inside (a + k) op (omega arith) h.0 h.1)

-- the pool, of which the caller made these reads, is what it was
keeps-leaves : {P : Type 0} (pools : Ghosts P) (a b : P) → KeepsPool pools a b → LeavesPool pools a b
keeps-leaves pools a b keeps = record { size = keeps.size; told = keeps.told; faults = let f = keeps.faults in omega (arith, f) }

only-one : (f : ℕ → ℕ) → over_callers 1 f ≡ f 0
only-one f = let z : 0 + f 0 ≡ f 0 = omega arith in z

ok-same : (a b : Reply) → ◌≡◌ {A = Result Reply Ending} (Ok a) (Ok b) → a ≡ b
ok-same a b is = cc

ok-err : (a : Reply) (e : Ending) → ◌≡◌ {A = Result Reply Ending} (Ok a) (Err e) → ⊥
ok-err a e is = cc

stops-in-turn : {P D : Type 0} (cache : Cache) (restored : List Restored) (pools : Ghosts P) (devices : Devices D) (trace : Trace) (start after : BetweenGroups P) (begun is : Device D) (replied replies : List Reply) (ending : Ending) (work : RunWork) (crew : Crew OnHeap) → goes_on ending ≡ false
    → AreDoneInTurn cache restored pools devices trace start after.pool begun is ending replies work crew → StepsInTurn cache restored pools devices trace start after begun is replied replies ending crew
stops-in-turn cache restored pools devices trace start after begun is replied replies Whole work crew stops over = absurd (false≢true (sym stops))
stops-in-turn cache restored pools devices trace start after begun is replied replies Fork work crew stops over = (work, over)
stops-in-turn cache restored pools devices trace start after begun is replied replies Sync work crew stops over = (work, over)
stops-in-turn cache restored pools devices trace start after begun is replied replies (Full need left) work crew stops over = (work, over)

none-before : (fs gs : List FeedDone) → fs ++ gs ≡ [] → fs ≡ []
none-before [] gs none = refl
none-before (f ∷ fs) gs none = cc

none-behind : (fs gs : List FeedDone) → fs ++ gs ≡ [] → gs ≡ []
none-behind [] gs none = none
none-behind (f ∷ fs) gs none = cc

-- a feed that was not made left the device as it was
made-back : {D : Type 0} (m : Meanings OnHeap) (devices : Devices D) (cache : Cache) (fs : List FeedDone) (a b : Device D) (p q : PartyPlace) → fs ≡ [] → MadeFeedsOf m devices cache fs a b p q → IsHandedBack devices (lent_in a) (lent_in b)
made-back m devices cache fs device.None device.None p q none made = tt
made-back m devices cache fs (device.Short a) (device.Short b) p q none made = tt
made-back {D} m devices cache fs (device.Ready a) (device.Ready b) p q none made = back-same devices (Some a.dev) (Some b.dev) (ap (λ (l : L2Dev D). Some l.dev) (made.0 none))
made-back m devices cache fs device.None (device.Short b) p q none made = absurd made
made-back m devices cache fs device.None (device.Ready b) p q none made = absurd made
made-back m devices cache fs (device.Short a) device.None p q none made = absurd made
made-back m devices cache fs (device.Short a) (device.Ready b) p q none made = absurd made
made-back m devices cache fs (device.Ready a) device.None p q none made = absurd made
made-back m devices cache fs (device.Ready a) (device.Short b) p q none made = absurd made

leaves-same : {P : Type 0} (pools : Ghosts P) (a : P) → LeavesPool pools a a
leaves-same pools a = record { size = refl; told = refl; faults = omega arith }

-- ---- one step

module _ {P D : Type 0} (cache : Cache) (restored : List Restored) (pools : Ghosts P) (devices : Devices D) (trace : Trace) (start was : BetweenGroups P) (begun a : Device D) (rs : List Reply) (w : RunWork) (old : Crew OnHeap)
    (few : length trace.ops ≤ 1000000) (config : cache.config ≡ trace.config) (one : cache.config.callers ≡ 1) (between : HaveComeInTurn cache restored pools devices trace start was begun a rs w old) (more : length rs < length trace.ops) where
  abbrev os : List Op
  os = take (length rs) trace.ops

  abbrev reached : HaveReached cache restored pools devices trace start was begun a Whole rs w old
  reached = between.reached

  abbrev begins : BetweenLines P D
  begins = begins_so trace.config restored start (lent_in begun)

  long : length w.lines ≡ length rs
  long = let l = lines-long os rs w.lines reached.come.did.lines in l.1 ∙ sym l.0

  idle : IsIdleFeeder cache old.feeder
  idle = fed-idle cache old.feeder.own.about.openings _ _ _ _ old.feeder reached.come.feeder

  of-trace : IsOfTrace cache trace old
  of-trace = record { config = config; callers = ap (λ (g : Config). g.callers) (sym config) ∙ one; knows = between.knows }

  stands-now : StandAt trace.config between.at old
  stands-now = subst (λ (g : Config). StandAt g between.at old) config between.stands

  goes-further : (ms : List Line) (fs : List FeedDone) (to : BetweenGroups P) (b : Device D) (new : Crew OnHeap) → GoInSequence pools devices trace ms fs was to (lent_in a) (lent_in b) old new
      → (next : BetweenLines P D) × (next.outside ≡ to) × (next.device ≡ lent_in b) × StandAt cache.config next new × AreInSequence pools devices trace (w.lines ++ ms) (w.feeds ++ fs) begins next
  goes-further ms fs to b new goes =
      let (next, pool, device, stands, lines) = goes between.at between.pool between.device stands-now in
      (next, pool, device, subst (λ (g : Config). StandAt g next new) (sym config) stands, sequence-append pools devices trace w.lines ms w.feeds fs begins between.at next between.lines lines)

  -- lines of one kind: the caller's own, or one of the feeder's
  module _ (qs : List Op) (ss : List Reply) (to : P) (b : Device D) (new : Crew OnHeap) (ms : List Line) (are : AreLinesOf qs ss ms) (fits : AllFit cache.config ms)
      (worked : AllWorked cache pools trace.blocks (length old.parties.items) was.pool (λ n. lines_of_caller n ms) old.kept.items old.parties.items new.kept.items new.parties.items)
      (feeds : List FeedDone) (fed : HasFedMore cache feeds old.feeder new.feeder) (told_more : AreFeedsTold cache.config qs ss feeds) (ends : AreEndLines qs ss) (so_far : AreMadeSoFar dbuf_meanings devices cache restored (w.feeds ++ feeds) begun b new.feeder)
      (own : AreInGroup cache.config.callers qs) (inside : length rs + length qs ≤ length trace.ops) (taken : take (length rs + length qs) trace.ops ≡ os ++ qs) (leaves : LeavesPool pools was.pool to)
      (reads : pools.reads was.pool + 16000000 ≤ last_count → pools.reads to ≡ pools.reads was.pool + over_callers cache.config.callers (asked ms))
      (faults : pools.faults was.pool + 16000000 ≤ last_count → pools.faults to ≡ pools.faults was.pool + over_callers cache.config.callers (failed ms))
      (knows : AllKnow (openings_of trace) (new.feeder ∷ new.parties.items))
      (goes : GoInSequence pools devices trace ms feeds was (between_groups to was.group was.next) (lent_in a) (lent_in b) old new) (unfed : feeds ≡ [] → IsHandedBack devices (lent_in a) (lent_in b)) where
    abbrev pub done : RunWork
    done = with_lines w ms feeds

    same-these : (length ss ≡ length qs) × (length ms ≡ length qs)
    same-these = lines-long qs ss ms are

    pub both-long : length (rs ++ ss) ≡ length rs + length qs
    both-long = omega (arith, length-append rs ss, same-these.0)

    all-taken : take (length (rs ++ ss)) trace.ops ≡ os ++ qs
    all-taken = ap (λ (k : ℕ). take k trace.ops) both-long ∙ taken

    come-lines : HaveCome cache restored (pools.size start.pool) (pools.told start.pool) start.next trace.blocks (os ++ qs) (rs ++ ss) done new
    come-lines =
        have-come-by cache restored pools devices (pools.size start.pool) (pools.told start.pool) start.next trace.blocks os qs rs ss w was.pool old new reached.come between.goes_on ms are fits worked feeds fed told_more ends own reached.first
        reached.counted.keeps.size reached.counted.keeps.told

    further : (next : BetweenLines P D) × (next.outside ≡ between_groups to was.group was.next) × (next.device ≡ lent_in b) × StandAt cache.config next new × AreInSequence pools devices trace (w.lines ++ ms) (w.feeds ++ feeds) begins next
    further = goes-further ms feeds (between_groups to was.group was.next) b new goes

    pub turn-more : HaveComeInTurn cache restored pools devices trace start (between_groups to was.group was.next) begun b (rs ++ ss) done new
    turn-more =
        let (next, pool, device, stands, lines) = further in
        record {
          reached = record {
            few = omega (arith, both-long, inside);
            come = subst (λ (l : List Op). HaveCome cache restored (pools.size start.pool) (pools.told start.pool) start.next trace.blocks l (rs ++ ss) done new) (sym all-taken) come-lines;
            knows = knows.0;
            first = reached.first;
            behind = reached.behind;
            counted = counted-more pools start.next cache.config.callers w.lines ms start.pool was.pool to (omega (arith, more, few, long)) (omega (arith, one)) reached.counted (pool-front pools start.next was.pool to leaves) reads faults;
            told = told_then reached.told (length w.lines) (pools.told was.pool);
            told_front = told-front reached.told (length w.lines) (pools.told was.pool) start.next (pools.told start.pool) reached.told_front reached.counted.keeps.told;
            groups = λ several. absurd (omega (arith, one, several));
            used = λ several. absurd (omega (arith, one, several));
            fed = so_far;
            looked = lines-looked pools cache restored (pools.size start.pool) (pools.told start.pool) start.next trace.blocks os rs w old new reached.come reached.told reached.looked ms (all-inside cache.config.callers qs ss ms own are) was.pool
                (subst (λ (k : ℕ). AllWorked cache pools trace.blocks k was.pool (λ n. lines_of_caller n ms) old.kept.items old.parties.items new.kept.items new.parties.items) reached.come.parties worked) reached.counted.keeps.size
                (pools.told was.pool) refl;
          };
          goes_on = refl;
          may_sync = record {
            born = between.may_sync.born;
            few = omega (arith, between.may_sync.few, both-long);
            aligned = between.may_sync.aligned;
            inside = omega (arith, between.may_sync.inside, leaves.size);
          };
          knows = knows;
          at = next;
          pool = pool;
          device = device;
          stands = stands;
          lines = lines;
          unfed = λ none. back-then devices (lent_in begun) (lent_in a) (lent_in b) (between.unfed (none-before w.feeds feeds none)) (unfed (none-behind w.feeds feeds none));
        }

  -- ---- the caller's own lines

  module _ (qs : List Op) (ss : List Reply) (to : P) (b : Device D) (new : Crew OnHeap) (own : AreOwn qs) (own_lines : DidOwnLines cache pools devices trace.blocks qs was.pool to (lent_in a) (lent_in b) old new ss) (keeps : KeepsPool pools was.pool to) (lent : WasLent devices a b)
      (inside : length rs + length qs ≤ length trace.ops) (here : take (length qs) (drop (length rs) trace.ops) ≡ qs) where
    abbrev ms : List Line
    ms = own_lines.lines

    mine : AreMine ms
    mine = own-mine qs ss ms own own_lines.are

    whole : lines_of_caller 0 ms ≡ ms
    whole = own-lines-whole qs ss ms own own_lines.are

    zero-only : (n : ℕ) → n < length old.parties.items → n ≡ 0
    zero-only n below = omega (arith, below, ap length own_lines.old_is.1)

    worked-zero : WorkedAt cache pools trace.blocks 0 was.pool to (lines_of_caller 0 ms) old.kept.items old.parties.items new.kept.items new.parties.items
    worked-zero = record {
      old = own_lines.had;
      from = own_lines.from;
      before = record { kept_at = ap (λ (l : List (List KeptBlock)). get_elem? l 0) own_lines.old_is.0; party_at = ap (λ (l : List PartyPlace). get_elem? l 0) own_lines.old_is.1 };
      new = own_lines.kept;
      to = own_lines.to;
      after = record { kept_at = ap (λ (l : List (List KeptBlock)). get_elem? l 0) own_lines.new_is.0; party_at = ap (λ (l : List PartyPlace). get_elem? l 0) own_lines.new_is.1 };
      worked = rw whole own_lines.worked;
    }

    own-worked : AllWorked cache pools trace.blocks (length old.parties.items) was.pool (λ n. lines_of_caller n ms) old.kept.items old.parties.items new.kept.items new.parties.items
    own-worked = record {
      kepts = ap length own_lines.new_is.0 ∙ sym (ap length own_lines.old_is.1);
      parties = ap length own_lines.new_is.1 ∙ sym (ap length own_lines.old_is.1);
      forks = λ n. was.pool;
      done = λ n. to;
      size = λ n below. refl;
      told = λ n below. refl;
      each = λ n below. subst (λ (m : ℕ). WorkedAt cache pools trace.blocks m was.pool to (lines_of_caller m ms) old.kept.items old.parties.items new.kept.items new.parties.items) (sym (zero-only n below)) worked-zero;
    }

    own-told : AreFeedsTold cache.config qs ss []
    own-told = record { told = ap (filter is_fed) (none-asks qs ss own).1; shapes = tt }

    own-ends : AreEndLines qs ss
    own-ends k op there none = absurd (not-both op (own k op there) none)
      where
        not-both : (op : Op) → caller_of op ≡ Some 0 → caller_of op ≡ None → ⊥
        not-both op his none = cc

    own-knows : AllKnow (openings_of trace) (new.feeder ∷ new.parties.items)
    own-knows =
        let had : AllKnow (openings_of trace) (own_lines.from ∷ []) = subst (AllKnow (openings_of trace)) own_lines.old_is.1 between.knows.1 in (
          ap (λ (x : About). x.openings) own_lines.parted.about ∙ between.knows.0,
          subst (AllKnow (openings_of trace)) (sym own_lines.new_is.1) (ap (λ (x : About). x.openings) own_lines.worked.cells.about ∙ had.0, tt),
        )

    few-here : length ms ≤ 1000000
    few-here = let l = lines-long qs ss ms own_lines.are in omega (arith, l.1, inside, few)

    reads-here : pools.reads was.pool + 16000000 ≤ last_count → pools.reads to ≡ pools.reads was.pool + over_callers cache.config.callers (asked ms)
    reads-here room =
        let most = calls-few ms in
        let count = calls-reads pools (calls_of_lines ms) was.pool to own_lines.worked.calls (omega (arith, room, most, few-here)) in
        let is : over_callers cache.config.callers (asked ms) ≡ length (calls_of_lines ms) = ap (λ (n : ℕ). over_callers n (asked ms)) one ∙ (only-one (asked ms) ∙ ap (λ (ls : List Line). length (calls_of_lines ls)) whole) in
        omega (arith, count, is)

    faults-here : pools.faults was.pool + 16000000 ≤ last_count → pools.faults to ≡ pools.faults was.pool + over_callers cache.config.callers (failed ms)
    faults-here room =
        let most = calls-few ms in
        let count = calls-faults pools (calls_of_lines ms) was.pool to own_lines.worked.calls (omega (arith, room, most, few-here)) in
        let is : over_callers cache.config.callers (failed ms) ≡ count_by is_pool_fault (replies_of ms) = ap (λ (n : ℕ). over_callers n (failed ms)) one ∙ (only-one (failed ms) ∙ ap (λ (ls : List Line). count_by is_pool_fault (replies_of ls)) whole) in
        omega (arith, count, is, lines-failed cache.config 0 ms own_lines.worked.fits)

    pub own-more : HaveComeInTurn cache restored pools devices trace start (between_groups to was.group was.next) begun b (rs ++ ss) (with_lines w ms []) new
    own-more =
        turn-more qs ss to b new ms own_lines.are (own-fits cache.config ms mine own_lines.worked.fits) own-worked [] (parted-more dbuf_meanings devices cache own_lines.seen old.feeder new.feeder idle own_lines.parted) own-told own-ends
        (parted-so-far dbuf_meanings devices cache own_lines.seen old.feeder new.feeder idle own_lines.parted restored w.feeds begun a b lent reached.fed) (own-group cache.config.callers qs (omega (arith, one)) own) inside
        (take-add (length rs) (length qs) trace.ops ∙ ap (λ (l : List Op). os ++ l) here) (keeps-leaves pools was.pool to keeps) reads-here faults-here own-knows (own_lines.sequence trace of-trace refl was.group was.next) (λ none. lent-only devices a b lent)

  -- ---- a feed

  module _ (at : slice_get trace.ops (length rs) ≡ Some ops.Feed) (fin : BetweenGroups P) (b : Device D) (new : Crew OnHeap) (came : Result Reply Ending) (f : DidFeed cache pools devices was fin a b old new came) where
    abbrev fed-line : Line
    fed-line = record { op = ops.Feed; reply = f.reply; work = no_work }

    room : length rs < length trace.ops
    room = slice_get_within trace.ops (length rs) ops.Feed at

    still-worked : (n : ℕ) → n < length old.parties.items → WorkedAt cache pools trace.blocks n was.pool was.pool [] old.kept.items old.parties.items new.kept.items new.parties.items
    still-worked n below =
        let c = reached.come.each n (omega (arith, below, reached.come.parties)) in
        let x = parted-at cache f.made.lines n old.parties.items new.parties.items c.party f.made.parted c.at.party_at in
        record {
          old = c.reads;
          from = c.party;
          before = c.at;
          new = c.reads;
          to = x.0;
          after = record { kept_at = ap (λ (l : List (List KeptBlock)). get_elem? l n) f.kept ∙ c.at.kept_at; party_at = x.1 };
          worked = record {
            fits = tt;
            waits = λ acts noted waits. subst (λ (y : List Act × List Noted). Waits cache n y.0 y.1 c.reads x.0) (λ i. (sym (append-nil acts) i, sym (append-nil noted) i)) (parted-waits cache f.made.lines c.party x.0 x.2 n acts noted c.reads waits);
            keeps = refl;
            cells = (x.2.same c.reads c.come.waits.stands).keeps;
            answers = λ acts noted told place. tt;
            looks = λ acts noted told. (x.2.same c.reads c.come.waits.stands).keeps.fronts;
            calls = refl;
          };
        }

    feed-worked : AllWorked cache pools trace.blocks (length old.parties.items) was.pool (λ n. lines_of_caller n (fed-line ∷ [])) old.kept.items old.parties.items new.kept.items new.parties.items
    feed-worked = record {
      kepts = ap length f.kept ∙ (reached.come.kepts ∙ sym reached.come.parties);
      parties = parted-length cache f.made.lines old.parties.items new.parties.items f.made.parted;
      forks = λ n. was.pool;
      done = λ n. was.pool;
      size = λ n below. refl;
      told = λ n below. refl;
      each = still-worked;
    }

    feed-told : AreFeedsTold cache.config (ops.Feed ∷ []) (f.reply ∷ []) f.fed.feeds
    feed-told = record { told = replies-told (lent_in a) (ops.Feed ∷ []) f.fed.feeds (f.reply ∷ []) f.fed.answered; shapes = made-shaped dbuf_meanings devices cache f.fed.feeds a b f.joined f.worked f.fed.made }

    feed-group : AreInGroup cache.config.callers (ops.Feed ∷ [])
    feed-group zero op there = inr (let is : op ≡ ops.Feed = cc in ap is_feed is)
    feed-group (suc k) op there = let never = slice_get_within {A = Op} [] k op there in absurd (omega (arith, never))

    feed-knows : AllKnow (openings_of trace) (new.feeder ∷ new.parties.items)
    feed-knows = (ap (λ (x : About). x.openings) f.made.about ∙ between.knows.0, parted-know cache (openings_of trace) f.made.lines old.parties.items new.parties.items f.made.parted between.knows.1)

    none-asked : over_callers cache.config.callers (asked (fed-line ∷ [])) ≡ 0
    none-asked = ap (λ (n : ℕ). over_callers n (asked (fed-line ∷ []))) one ∙ only-one (asked (fed-line ∷ []))

    none-failed : over_callers cache.config.callers (failed (fed-line ∷ [])) ≡ 0
    none-failed = ap (λ (n : ℕ). over_callers n (failed (fed-line ∷ []))) one ∙ only-one (failed (fed-line ∷ []))

    one-more : length rs + length (ops.Feed ∷ []) ≡ suc (length rs)
    one-more = omega arith

    taken-one : take (suc (length rs)) trace.ops ≡ os ++ ops.Feed ∷ []
    taken-one = take-suc trace.ops (length rs) ops.Feed room ∙ ap (λ (o : Op). os ++ o ∷ []) (get_or_from_slice_get trace.ops (length rs) ops.Feed ops.Feed at)

    pub fed-more-turn : HaveComeInTurn cache restored pools devices trace start was begun b (rs ++ f.reply ∷ []) (with_lines w (fed-line ∷ []) f.fed.feeds) new
    fed-more-turn =
        turn-more (ops.Feed ∷ []) (f.reply ∷ []) was.pool b new (fed-line ∷ []) (refl, refl, tt) (refl, tt) feed-worked f.fed.feeds
        (joined-more dbuf_meanings devices cache f.fed.feeds a b old.feeder new.feeder f.joined f.worked old.parties.items new.parties.items idle.number f.fed.made f.made f.met f.parted f.again) feed-told
        (group-ends (lent_in a) cache.config.callers (ops.Feed ∷ []) (f.reply ∷ []) f.fed.feeds feed-group refl f.fed.answered)
        (joined-so-far dbuf_meanings devices cache f.fed.feeds a b old.feeder new.feeder f.joined f.worked old.parties.items new.parties.items idle.number f.fed.made f.made f.met f.parted restored w.feeds begun ops.Feed (f.reply ∷ []) f.fed.answered reached.fed)
        feed-group (omega (arith, room)) (ap (λ (n : ℕ). take n trace.ops) one-more ∙ taken-one) (leaves-same pools was.pool) (λ full. omega (arith, none-asked)) (λ full. omega (arith, none-failed)) feed-knows
        (subst (λ (x : BetweenGroups P). GoInSequence pools devices trace (fed-line ∷ []) f.fed.feeds was x (lent_in a) (lent_in b) old new) f.stays (f.sequence trace of-trace))
        (λ none. made-back dbuf_meanings devices cache f.fed.feeds a b f.joined f.worked none f.fed.made)

  -- ---- a line that ends a group

  told-now : AreToldOf cache w.lines old
  told-now = told-of cache restored (pools.size start.pool) (pools.told start.pool) start.next trace.blocks os rs w old reached.come between.goes_on

  -- the caller may join the feeder
  pub turn-may : cache.row.parties ≡ parties_of cache.config → MayGoOn cache [] old.feeder old.parties.items
  turn-may rows = may-resize cache restored (pools.size start.pool) (pools.told start.pool) start.next trace.blocks os rs w old reached.come rows

  module _ (op : Op) (at : slice_get trace.ops (length rs) ≡ Some op) (last : Crew OnHeap) (fin : BetweenGroups P) where
    room-here : length rs < length trace.ops
    room-here = slice_get_within trace.ops (length rs) op at

    module _ (reply : Reply) (turn : Turned cache pools (openings_of trace) w.lines op reply was fin old last) where
      abbrev l : Line
      l = record { op = op; reply = reply; work = turn.work }

      nobody : caller_of op ≡ None
      nobody = (ends-nobody op turn.so.ends).0

      all-long : length (rs ++ reply ∷ []) ≡ suc (length rs)
      all-long = omega (arith, length-append rs (reply ∷ []))

      all-taken-end : take (length (rs ++ reply ∷ [])) trace.ops ≡ os ++ op ∷ []
      all-taken-end = ap (λ (k : ℕ). take k trace.ops) all-long ∙ (take-suc trace.ops (length rs) op room-here ∙ ap (λ (o : Op). os ++ o ∷ []) (get_or_from_slice_get trace.ops (length rs) op op at))

      not-read : (n : ℕ) → lines_of_caller n (l ∷ []) ≡ []
      not-read n = let his : is_of_caller n op ≡ false = nobody-callers n op nobody in rw his refl

      counted-end : HaveCounted pools start.next cache.config.callers (w.lines ++ l ∷ []) start.pool fin.pool
      counted-end =
          counted-more pools start.next cache.config.callers w.lines (l ∷ []) start.pool was.pool fin.pool (omega (arith, more, few, long)) (omega (arith, one)) reached.counted (front-before pools start.next was.next was.pool fin.pool reached.behind turn.leaves)
          (λ full. let none = over-zero cache.config.callers (asked (l ∷ [])) (λ n below. ap (λ (ls : List Line). length (calls_of_lines ls)) (not-read n)) in let same = turn.reads in omega (arith, none, same))
          (λ full. let none = over-zero cache.config.callers (failed (l ∷ [])) (λ n below. ap (λ (ls : List Line). count_by is_pool_fault (replies_of ls)) (not-read n)) in let same = turn.faults in omega (arith, none, same))

      further-end : (next : BetweenLines P D) × (next.outside ≡ fin) × (next.device ≡ lent_in a) × StandAt cache.config next last × AreInSequence pools devices trace (w.lines ++ l ∷ []) (w.feeds ++ []) begins next
      further-end = goes-further (l ∷ []) [] fin a last (turned-goes cache pools devices trace (openings_of trace) w.lines op reply was fin old last turn of-trace (lent_in a))

      end-knows : AllKnow (openings_of trace) (last.feeder ∷ last.parties.items)
      end-knows = (ap (λ (x : About). x.openings) turn.so.made.about ∙ between.knows.0, parted-know cache (openings_of trace) turn.so.made.lines old.parties.items last.parties.items turn.so.made.parted between.knows.1)

      pub ended-turn : HaveComeInTurn cache restored pools devices trace start fin begun a (rs ++ reply ∷ []) (with_end w l) last
      ended-turn = let (next, pool, device, stands, lines) = further-end in record {
        reached = record {
          few = omega (arith, all-long, room-here);
          come = subst (λ (x : List Op). HaveCome cache restored (pools.size start.pool) (pools.told start.pool) start.next trace.blocks x (rs ++ reply ∷ []) (with_end w l) last) (sym all-taken-end)
              (have-come-ended pools devices cache restored (pools.size start.pool) (pools.told start.pool) start.next trace.blocks os rs w turn.more old last reached.come between.goes_on l turn.so);
          knows = end-knows.0;
          first = reached.first;
          behind = omega (arith, reached.behind, turn.later);
          counted = counted-end;
          told = reached.told;
          told_front = reached.told_front;
          groups = λ several. absurd (omega (arith, one, several));
          used = λ several. absurd (omega (arith, one, several));
          fed = moved-so-far dbuf_meanings devices cache restored w.feeds begun a old.feeder last.feeder reached.fed
              (λ shard below. made-sees cache turn.work turn.more old last reached.come.feeder.number turn.so.made shard (events_of_feeder cache.config.callers op) (turn.so.feeds shard below) (asked-gives cache.config.callers op));
          looked = answered-looked pools cache restored (pools.size start.pool) (pools.told start.pool) start.next trace.blocks os rs w old last reached.come reached.told reached.looked l nobody turn.more turn.so.made
              (parted-length cache turn.so.made.lines old.parties.items last.parties.items turn.so.made.parted ∙ reached.come.parties) between.goes_on;
        };
        goes_on = refl;
        may_sync = record {
          born = let g = turn.group in omega (arith, g);
          few = let g = turn.group in omega (arith, g, between.may_sync.few, all-long);
          aligned = turn.aligned;
          inside = turn.inside;
        };
        knows = end-knows;
        at = next;
        pool = pool;
        device = device;
        stands = stands;
        lines = subst (λ (fs : List FeedDone). AreInSequence pools devices trace (w.lines ++ l ∷ []) fs begins next) (append-nil w.feeds) lines;
        unfed = between.unfed;
      }

    pub halted-turn : (ending : Ending) (h : Halted cache pools trace rs w ending was fin.pool old last) → AreDoneInTurn cache restored pools devices trace start fin.pool begun a ending rs (with_stop w h.work) last
    halted-turn ending h = let (then, device, stands, ends) = halted-goes cache pools devices trace rs w ending was fin.pool old last h of-trace (lent_in a) between.at between.pool between.device stands-now in record {
      done = record {
        now = was;
        reached = record {
          few = reached.few;
          come = have-come-stopped pools devices cache restored (pools.size start.pool) (pools.told start.pool) start.next trace.blocks os rs w h.more old last reached.come between.goes_on h.tick h.work h.so;
          knows = ap (λ (x : About). x.openings) h.so.made.about ∙ reached.knows;
          first = reached.first;
          behind = reached.behind;
          counted = reached.counted;
          told = reached.told;
          told_front = reached.told_front;
          groups = λ several. absurd (omega (arith, one, several));
          used = λ several. absurd (omega (arith, one, several));
          fed = moved-so-far dbuf_meanings devices cache restored w.feeds begun a old.feeder last.feeder reached.fed
              (λ shard below. made-sees cache h.work h.more old last reached.come.feeder.number h.so.made shard [] (h.so.none shard below) tt);
          looked = subst (λ (ls : List Line). HaveLooked cache.config (pools.size start.pool) reached.told ls last.parties.items) (sym (stop-behind ending (with_stop w h.work) (h.begun [])))
              (answered-looked pools cache restored (pools.size start.pool) (pools.told start.pool) start.next trace.blocks os rs w old last reached.come reached.told reached.looked (stopped_line (with_stop w h.work)) refl h.more h.so.made
              (parted-length cache h.so.made.lines old.parties.items last.parties.items h.so.made.parted ∙ reached.come.parties) between.goes_on);
        };
        ended = h.ended;
        last = λ t stopped shard below owner makers. subst (λ (tick : ℕ). IsCutLast cache.config restored trace.blocks shard owner tick (with_stop w h.work) (seen_of cache.config shard last.feeder)) (sym (h.ticks t stopped))
            (stopped-cut pools devices cache restored (pools.size start.pool) (pools.told start.pool) start.next trace.blocks os rs w h.more old last reached.come between.goes_on h.tick h.work h.so shard below owner makers);
      };
      at = between.at;
      lines = between.lines;
      last = then;
      ends = ends;
      device = device;
      stands = subst (λ (g : Config). StandAt g then last) (sym config) stands;
      unfed = between.unfed;
    }

  -- ---- what a step comes to

  pub step-own : (qs : List Op) (ss all : List Reply) (to : P) (b : Device D) (new : Crew OnHeap) → AreOwn qs → DidOwnLines cache pools devices trace.blocks qs was.pool to (lent_in a) (lent_in b) old new ss → KeepsPool pools was.pool to → WasLent devices a b
      → length rs + length qs ≤ length trace.ops → take (length qs) (drop (length rs) trace.ops) ≡ qs → 0 < length qs → all ≡ rs ++ ss
      → StepsInTurn cache restored pools devices trace start (between_groups to was.group was.next) begun b rs all Whole new
  step-own qs ss all to b new own did keeps lent inside here any is =
      let same = (lines-long qs ss did.lines did.are).0 in (
        with_lines w did.lines [],
        subst (λ (x : List Reply). HaveComeInTurn cache restored pools devices trace start (between_groups to was.group was.next) begun b x (with_lines w did.lines []) new) (sym is) (own-more qs ss to b new own did keeps lent inside here),
        omega (arith, any, same, ap length is, length-append rs ss),
      )

  -- a line that is no caller's, and its reply
  pub step-other : (op : Op) → slice_get trace.ops (length rs) ≡ Some op → (fin : BetweenGroups P) (b : Device D) (last : Crew OnHeap) (came : Result Reply Ending) (reply : Reply) (all : List Reply) → came ≡ Ok reply → DidOtherLine cache pools devices op was fin a b old last came → all ≡ rs ++ reply ∷ []
      → StepsInTurn cache restored pools devices trace start fin begun b rs all Whole last
  step-other op at fin b last came reply all told did is = elim did [
    | inl feed ↦
        let f = feed.1 in
        let same : all ≡ rs ++ f.reply ∷ [] = is ∙ ap (λ (r : Reply). rs ++ r ∷ []) (sym (ok-same f.reply reply (sym f.answer ∙ told))) in
        let work : RunWork = with_lines w (record { op = ops.Feed; reply = f.reply; work = no_work } ∷ []) f.fed.feeds in (
          work,
          subst (λ (x : List Reply × BetweenGroups P). HaveComeInTurn cache restored pools devices trace start x.1 begun b x.0 work last) (λ i. (sym same i, sym f.stays i)) (fed-more-turn (at ∙ ap (λ (o : Op). Some o) feed.0) fin b last came f),
          omega (arith, ap length same, length-append rs (f.reply ∷ [])),
        )
    | inr end ↦
        let ended = subst (DidEndLine cache pools op was fin old last) told end.0 in
        let turn = end-turned cache pools (openings_of trace) w.lines was fin old last told-now reached.knows ended.kept (length rs) between.may_sync op reply ended in (
          with_end w (record { op = op; reply = reply; work = turn.work }),
          subst (λ (x : List Reply × Device D). HaveComeInTurn cache restored pools devices trace start fin begun x.1 x.0 (with_end w (record { op = op; reply = reply; work = turn.work })) last) (λ i. (sym is i, sym end.1 i)) (ended-turn op at last fin reply turn),
          omega (arith, ap length is, length-append rs (reply ∷ [])),
        )
  ]

  -- or how the lines end there
  pub step-halted : (op : Op) → slice_get trace.ops (length rs) ≡ Some op → (fin : BetweenGroups P) (b : Device D) (last : Crew OnHeap) (came : Result Reply Ending) (ending : Ending) → came ≡ Err ending → DidOtherLine cache pools devices op was fin a b old last came
      → StepsInTurn cache restored pools devices trace start fin begun b rs rs ending last
  step-halted op at fin b last came ending told did = elim did [
    | inl feed ↦ absurd (ok-err feed.1.reply ending (sym feed.1.answer ∙ told))
    | inr end ↦
        let ended = subst (DidEndLine cache pools op was fin old last) told end.0 in
        let h = end-halted cache pools trace rs w was fin old last told-now reached.knows ended.kept op ending at ended in
        stops-in-turn cache restored pools devices trace start fin begun b rs rs ending (with_stop w h.work) last h.stops (subst (λ (d : Device D). AreDoneInTurn cache restored pools devices trace start fin.pool begun d ending rs (with_stop w h.work) last) (sym end.1) (halted-turn op at last fin ending h))
  ]

-- ---- all steps

pub all-in-turn : {P D : Type 0} (cache : Cache) (restored : List Restored) (pools : Ghosts P) (devices : Devices D) (trace : Trace) (start after : BetweenGroups P) (begun is : Device D) (replies : List Reply) (w : RunWork) (crew : Crew OnHeap)
    → HaveComeInTurn cache restored pools devices trace start after begun is replies w crew → length trace.ops ≤ length replies → AreDoneInTurn cache restored pools devices trace start after.pool begun is Whole replies w crew
all-in-turn {P} cache restored pools devices trace start after begun is replies w crew between all = record {
  done = record { now = after; reached = between.reached; ended = (between.goes_on, omega (arith, between.reached.few, all), refl); last = λ t never. absurd never };
  at = between.at;
  lines = between.lines;
  last = between.at;
  ends = (between.goes_on, ap (λ (x : BetweenGroups P). x.pool) (sym between.pool), refl);
  device = between.device;
  stands = between.stands;
  unfed = between.unfed;
}

-- what a step says where the lines go on, and where they don't
module _ {P D : Type 0} (cache : Cache) (restored : List Restored) (pools : Ghosts P) (devices : Devices D) (trace : Trace) (start after : BetweenGroups P) (begun is : Device D) (replied replies : List Reply) (crew : Crew OnHeap) where
  pub turn-stepped : (ending : Ending) → goes_on ending ≡ true → StepsInTurn cache restored pools devices trace start after begun is replied replies ending crew
      → (work : RunWork) × HaveComeInTurn cache restored pools devices trace start after begun is replies work crew × (length replied < length replies)
  turn-stepped Whole on step = step
  turn-stepped Fork on step = absurd (false≢true on)
  turn-stepped Sync on step = absurd (false≢true on)
  turn-stepped (Full need left) on step = absurd (false≢true on)

  pub turn-not-stepped : (ending : Ending) → goes_on ending ≡ false → StepsInTurn cache restored pools devices trace start after begun is replied replies ending crew
      → (work : RunWork) × AreDoneInTurn cache restored pools devices trace start after.pool begun is ending replies work crew
  turn-not-stepped Whole on step = absurd (false≢true (sym on))
  turn-not-stepped Fork on step = step
  turn-not-stepped Sync on step = step
  turn-not-stepped (Full need left) on step = step
