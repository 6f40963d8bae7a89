-- One group more of several callers: what their pool counts then, which groups were done, and what stands before the next one, or how the lines end.
use Rattle.std.proofs.Common.{◌≡◌, ℕ, zero, suc, ◌+◌, ◌%◌, ◌^◌, ◌<◌, ◌≤◌, Bool, true, false, Option, List, [], ◌∷◌, ◌++◌, Some, None, Result, Ok, Err, length, take, drop, refl, sym, ap, ◌∙◌, subst, arith, append_assoc, append-nil, length-append, ◌-◌, inl, inr, if◌then◌else◌, ◌||◌}
use Rattle.std.specs.Prelude.{count_by, filter, slice_get, slice_range}
use Rattle.std.specs.Option.{option_map}
use Rattle.std.proofs.lemmas.Bool.{false≢true}
use Rattle.std.proofs.lemmas.List.{length-drop, length-map, length-take-le, map-append}
use Rattle.std.proofs.lemmas.List.Elements.{filter-append}
use Rattle.std.proofs.lemmas.List.Sums.{count_by-le-length, length-filter, sum_by-append}
use Rattle.std.proofs.lemmas.Option.{get_or_from_slice_get, slice_get_within}
use Rattle.std.proofs.Math.Seq.{take-add, take-suc}
use Rattle.blk_ptr.specs.Size.{sector}
use Rattle.blk_ptr.specs.declared.ptr.Ptr.{Ptr}
use Rattle.arc_table.specs.declared.about.About.{About}
use Rattle.arc_core.specs.declared.served.Restored.{Restored}
use Rattle.arc_table.specs.Cache.{Cache}
use Rattle.arc_table.specs.Geometry.{parties_of, IsCell}
use Rattle.dbuf_cells.specs.Turns.{OnHeap, PartyPlace, dbuf_meanings}
use Rattle.arc_core.specs.declared.config.Config.{Config}
use Rattle.trace_text.specs.declared.op.Op.{Op}
use Rattle.trace_text.specs.declared.op.Op.TheVariants as ops
use Rattle.trace_text.specs.declared.reply.Reply.{Reply}
use Rattle.trace_text.specs.declared.trace.Trace.{Trace}
use Rattle.trace_text.specs.Grammar.{IsFormed}
use Rattle.vdev_io.specs.Faults.{last_count, sum_of_counts}
use Rattle.vdev_io.specs.declared.device.CacheDev.{Ghosts as Devices}
use Rattle.vdev_io.specs.declared.pool.Pool.{Ghosts}
use Rattle.trace_run.specs.declared.device.Device.{Device}
use Rattle.trace_run.specs.declared.groups.Crew.{Crew}
use Rattle.trace_run.specs.declared.ran.Ending.{Ending}
use Rattle.trace_run.specs.declared.ran.Ending.TheVariants.{Fork, Full, Sync, Whole}
use Rattle.trace_run.specs.declared.kept_blocks.KeptBlock.{KeptBlock}
use Rattle.trace_run.specs.Answers.{is_pool_fault}
use Rattle.trace_run.specs.Devices.{lent_in}
use Rattle.trace_run.specs.Acts.{events_of_feeder}
use Rattle.trace_run.specs.FeedSeries.{AreMadeSoFar}
use Rattle.trace_run.specs.Feeds.{AreFedReplies, IsIdleFeeder, is_feed}
use Rattle.trace_run.specs.Lines.{caller_of, is_of_caller, replies_where, has_sync, is_sync}
use Rattle.trace_run.specs.Meeting.{MadeJoined, MayGoOn}
use Rattle.trace_run.specs.dbufs.Objects.{Line, ops_of, replies_of, Work, no_work}
use Rattle.trace_run.specs.Opened.{AreOpened}
use Rattle.trace_run.specs.Openings.{Knows, openings_of}
use Rattle.trace_run.specs.Restores.{restores_in}
use Rattle.trace_run.specs.RunWork.{RunWork, lines_of_caller, plain_work, lines_of_feeder}
use Rattle.trace_run.specs.Tally.{AreDeclared}
use Rattle.trace_run.specs.callers.Beside.{WorksBeside}
use Rattle.trace_run.specs.callers.DeviceForks.{HaveRead, UsedAtOnce, UsedInGroups}
use Rattle.trace_run.specs.callers.Group.{AllWorked, HaveWorked, LeavesFront, LeavesPool}
use Rattle.trace_run.specs.callers.Groups.{AreBetween, AreDone, DidEndLine, DidLinesOfAll, DidLinesAtOnce, HaveCome, HaveCounted, HaveReached, KeepNothing, MaySync, StepsOn, StoodSo, goes_on, stopped_line}
use Rattle.trace_run.specs.callers.InOrder.{AreInGroup}
use Rattle.trace_run.specs.callers.Looking.{HaveLooked}
use Rattle.trace_run.specs.callers.Together.{BeginsGroup, EndsGroup, GroupLines, IsFirstPlace, OfCells, BetweenGroups, ToldAsBegun, WorkAtOnce, WorkInGroups, between_groups, ends_group, groups_done, groups_of, over_callers, IsCutLast, lines_with_end, with_first, ForkFailed}
use Rattle.trace_run.specs.callers.WorkLines.{HasFront, calls_of_lines, noted_of_work}
use Rattle.trace_run.proofs.callers.AbsorbLemmas.{leaves-then, over-few}
use Rattle.trace_run.proofs.callers.BesideLemmas.{fed-idle}
use Rattle.trace_run.proofs.callers.CallerActLemmas.{line-kind}
use Rattle.trace_run.proofs.callers.EndLineLemmas.{Halted, IsUnused, Turned, end-halted, end-turned}
use Rattle.trace_run.proofs.callers.EndedLemmas.{asked-gives, have-come-ended, have-come-stopped, made-sees, with_end, with_stop, stopped-cut}
use Rattle.trace_run.proofs.callers.FrontLemmas.{front-before, front-same, front-then, pool-front}
use Rattle.trace_run.proofs.callers.GroupCounts.{over-add, over-same, over-zero}
use Rattle.trace_run.proofs.callers.GroupLists.{EndsWhole, begun-append, group-begun, group-ended, group-last, groups-append, whole-of}
use Rattle.trace_run.proofs.callers.GroupRunLemmas.{all-callers, all-declared, may-resize}
use Rattle.trace_run.proofs.callers.GroupsLemmas.{have-restored, have-started, parted-length, restores-seen}
use Rattle.trace_run.proofs.callers.LineLists.{AreInside, all-inside, calls-append, calls-few, ends-nobody, lines-failed, lines-long, nobody-callers}
use Rattle.trace_run.proofs.callers.LookedLemmas.{answered-looked, lines-looked, stop-behind}
use Rattle.trace_run.proofs.callers.LookingLemmas.{none-looked}
use Rattle.trace_run.proofs.callers.MoreLemmas.{fed-about, have-come-more, lines-of, with_lines}
use Rattle.trace_run.proofs.callers.ToldLemmas.{told-early, told-front, told-late, told_then}
use Rattle.trace_run.proofs.feeds.FedLemmas.{ops-are, used-more, used-once, fed-beside}
use Rattle.trace_run.proofs.feeds.SeriesLemmas.{group-so-far, moved-so-far, none-so-far}
use Rattle.trace_run.proofs.RunLemmas.{calls-faults, calls-reads}
use Rattle.arc_lists.proofs.Tables.{cases_true}
use Rattle.arc_table.specs.Fronts.{StartsWith, front_of}
use Rattle.arc_table.specs.Seen.{seen_of}
use Rattle.trace_run.proofs.callers.SyncRun.{in-groups-as}
use Rattle.trace_run.proofs.syncs.SyncTurned.{AreToldOf, stood-more}
use Rattle.trace_run.specs.Deeds.{lines_of_cell}

-- ---- what callers read of the pool

-- how often a caller asked the pool by its lines, and how often it failed
abbrev pub asked : List Line → ℕ → ℕ
asked ls n = length (calls_of_lines (lines_of_caller n ls))

abbrev pub failed : List Line → ℕ → ℕ
failed ls n = count_by is_pool_fault (replies_of (lines_of_caller n ls))

his-few : (n : ℕ) (ls : List Line) → length (lines_of_caller n ls) ≤ length ls
his-few n ls = let his : Line → Bool = λ l. is_of_caller n l.op in let count = count_by-le-length his ls in let many = length-filter his ls in omega (arith, count, many)

asked-few : (ls : List Line) (n most : ℕ) → length ls ≤ most → asked ls n ≤ most
asked-few ls n most few = omega (arith, calls-few (lines_of_caller n ls), his-few n ls, few)

failed-few : (ls : List Line) (n most : ℕ) → length ls ≤ most → failed ls n ≤ most
failed-few ls n most few = omega (arith, count_by-le-length is_pool_fault (replies_of (lines_of_caller n ls)), length-map (lines_of_caller n ls) (λ (l : Line). l.reply), his-few n ls, few)

module _ (ls ms : List Line) (callers : ℕ) where
  asked-one : (n : ℕ) → asked (ls ++ ms) n ≡ asked ls n + asked ms n
  asked-one n =
      ap (λ (xs : List Line). length (calls_of_lines xs)) (filter-append _ ls ms)
      ∙ (ap length (calls-append (lines_of_caller n ls) (lines_of_caller n ms)) ∙ length-append (calls_of_lines (lines_of_caller n ls)) (calls_of_lines (lines_of_caller n ms)))

  failed-one : (n : ℕ) → failed (ls ++ ms) n ≡ failed ls n + failed ms n
  failed-one n =
      ap (λ (xs : List Line). count_by is_pool_fault (replies_of xs)) (filter-append _ ls ms)
      ∙ (ap (count_by is_pool_fault) (map-append (λ (l : Line). l.reply) (lines_of_caller n ls) (lines_of_caller n ms)) ∙ sum_by-append _ (replies_of (lines_of_caller n ls)) (replies_of (lines_of_caller n ms)))

  pub asked-more : over_callers callers (asked (ls ++ ms)) ≡ over_callers callers (asked ls) + over_callers callers (asked ms)
  asked-more = over-same callers (asked (ls ++ ms)) (λ n. asked ls n + asked ms n) (λ n below. asked-one n) ∙ over-add callers (asked ls) (asked ms)

  pub failed-more : over_callers callers (failed (ls ++ ms)) ≡ over_callers callers (failed ls) + over_callers callers (failed ms)
  failed-more = over-same callers (failed (ls ++ ms)) (λ n. failed ls n + failed ms n) (λ n below. failed-one n) ∙ over-add callers (failed ls) (failed ms)

-- ---- the pool

pub unused-leaves : {P : Type 0} (pools : Ghosts P) (callers : ℕ) (a b c : P) → IsUnused pools callers a b → LeavesPool pools b c → LeavesPool pools a c
unused-leaves pools callers a b c first second = record { size = second.size ∙ first.size; told = second.told ∙ first.told; faults = omega (arith, first.faults, second.faults) }

-- What callers who worked at once did to the pool. It was the same before their forks were made.
module _ {P : Type 0} (cache : Cache) (pools : Ghosts P) (blocks : List Ptr) (callers : ℕ) (was from to : P) (ms : List Line) (had : List (List KeptBlock)) (ps : List PartyPlace) (kept : List (List KeptBlock)) (xs : List PartyPlace)
    (unused : IsUnused pools callers was from) (w : HaveWorked cache pools blocks callers from to (λ n. lines_of_caller n ms) had ps kept xs) (some : 0 < callers) where
  pub at-once : (end : Option Line) → WorkAtOnce pools callers (record { lines = ms; end = end }) was to
  at-once end = record {
    forks = w.forks;
    done = w.done;
    size = λ n below. (w.fresh n below).size ∙ unused.size;
    told = λ n below. (w.fresh n below).told ∙ unused.told;
    fresh = λ n below. ((w.fresh n below).reads, (w.fresh n below).faults);
    works = λ n below. record { made = (w.each n below).worked.calls };
    reads = w.reads some ∙ ap (λ (k : ℕ). sum_of_counts k (over_callers callers (λ n. pools.reads (w.done n)))) unused.reads;
    faults = w.faults some ∙ ap (λ (k : ℕ). sum_of_counts k (over_callers callers (λ n. pools.faults (w.done n)))) unused.faults;
    others = w.others ∙ unused.others;
    keeps = (w.keeps.size ∙ unused.size, w.keeps.told ∙ unused.told);
  }

  module _ (few : length ms ≤ 1000000) (some_callers : callers ≤ 16) where
    reads-one : (n : ℕ) → n < callers → pools.reads (w.done n) ≡ asked ms n
    reads-one n below =
        let none = (w.fresh n below).reads in
        let most = asked-few ms n 1000000 few in
        omega (arith, none, calls-reads pools (calls_of_lines (lines_of_caller n ms)) (w.forks n) (w.done n) (w.each n below).worked.calls (omega (arith, none, most)))

    faults-one : (n : ℕ) → n < callers → pools.faults (w.done n) ≡ failed ms n
    faults-one n below =
        let none = (w.fresh n below).faults in
        let most = asked-few ms n 1000000 few in
        omega (arith, none, lines-failed cache.config n (lines_of_caller n ms) (w.each n below).worked.fits, calls-faults pools (calls_of_lines (lines_of_caller n ms)) (w.forks n) (w.done n) (w.each n below).worked.calls (omega (arith, none, most)))

    all-asked : over_callers callers (λ n. pools.reads (w.done n)) ≡ over_callers callers (asked ms)
    all-asked = over-same callers (λ n. pools.reads (w.done n)) (asked ms) reads-one

    all-failed : over_callers callers (λ n. pools.faults (w.done n)) ≡ over_callers callers (failed ms)
    all-failed = over-same callers (λ n. pools.faults (w.done n)) (failed ms) faults-one

    few-asked : over_callers callers (asked ms) ≤ 16000000
    few-asked = omega (arith, over-few callers (asked ms) 1000000 (λ n below. asked-few ms n 1000000 few), some_callers)

    few-failed : over_callers callers (failed ms) ≤ 16000000
    few-failed = omega (arith, over-few callers (failed ms) 1000000 (λ n below. failed-few ms n 1000000 few), some_callers)

    pub group-reads : pools.reads was + 16000000 ≤ last_count → pools.reads to ≡ pools.reads was + over_callers callers (asked ms)
    group-reads room = let same = unused.reads in omega (arith, same, all-asked, few-asked, room, w.reads some)

    pub group-faults : pools.faults was + 16000000 ≤ last_count → pools.faults to ≡ pools.faults was + over_callers callers (failed ms)
    group-faults room = let same = unused.faults in omega (arith, same, all-failed, few-failed, room, w.faults some)

module _ {P : Type 0} (pools : Ghosts P) (place callers : ℕ) (ls ms : List Line) (before was to : P) (few : length ls ≤ 1000000) (some_callers : callers ≤ 16) (so_far : HaveCounted pools place callers ls before was) where
  most-asked : over_callers callers (asked ls) ≤ 16000000
  most-asked = omega (arith, over-few callers (asked ls) 1000000 (λ n below. asked-few ls n 1000000 few), some_callers)

  most-failed : over_callers callers (failed ls) ≤ 16000000
  most-failed = omega (arith, over-few callers (failed ls) 1000000 (λ n below. failed-few ls n 1000000 few), some_callers)

  pub counted-more : LeavesFront pools place was to
      → (pools.reads was + 16000000 ≤ last_count → pools.reads to ≡ pools.reads was + over_callers callers (asked ms))
      → (pools.faults was + 16000000 ≤ last_count → pools.faults to ≡ pools.faults was + over_callers callers (failed ms)) → HaveCounted pools place callers (ls ++ ms) before to
  counted-more leaves reads faults = record {
    keeps = front-then pools place before was to so_far.keeps leaves;
    reads = λ room.
        let first = so_far.reads room in
        let small = most-asked in
        omega (arith, first, asked-more ls ms callers, reads (omega (arith, first, small, room)));
    faults = λ room.
        let first = so_far.faults room in
        let small = most-failed in
        omega (arith, first, failed-more ls ms callers, faults (omega (arith, first, small, room)));
  }

-- ---- groups that were done

-- the lines behind these groups, where these stand before them
abbrev after_groups : (before : List Line) → List GroupLines → List Line
after_groups before [] = before
after_groups before (g ∷ gs) = after_groups (lines_with_end (before ++ g.lines) g.end) gs

first-more : (before : List Line) (l : Line) (gs : List GroupLines) → after_groups before (with_first l gs) ≡ after_groups (before ++ l ∷ []) gs
first-more before l [] = refl
first-more before l (g ∷ gs) = ap (λ (ls : List Line). after_groups (lines_with_end ls g.end) gs) (sym (append_assoc before (l ∷ []) g.lines))

after-groups : (before ls : List Line) → after_groups before (groups_of ls) ≡ before ++ ls
after-groups before [] = sym (append-nil before)
after-groups before (l ∷ ls) = elim (cases_true (ends_group l.op)) [
  | inl ends ↦
      ap (after_groups before) (λ i. if ends i then (record { lines = []; end = Some l } ∷ groups_of ls) else with_first l (groups_of ls))
      ∙ (after-groups ((before ++ []) ++ l ∷ []) ls ∙ (ap (λ (x : List Line). (x ++ l ∷ []) ++ ls) (append-nil before) ∙ append_assoc before (l ∷ []) ls))
  | inr inside ↦
      ap (after_groups before) (λ i. if inside i then (record { lines = []; end = Some l } ∷ groups_of ls) else with_first l (groups_of ls))
      ∙ (first-more before l (groups_of ls) ∙ (after-groups (before ++ l ∷ []) ls ∙ append_assoc before (l ∷ []) ls))
]

in-groups-more : {P : Type 0} (pools : Ghosts P) (config : Config) (Cells : OfCells) (told : (k : ℕ) → Option (List ℕ)) (before : List Line) (gs : List GroupLines) (last : GroupLines) (a b c : BetweenGroups P) (worked : P) → WorkInGroups pools config Cells told before gs a b
    → WorkAtOnce pools config.callers last b.pool worked → EndsGroup pools config Cells (after_groups before gs ++ last.lines) last.end (between_groups worked b.group b.next) c → ToldAsBegun told (after_groups before gs) last.lines (pools.told b.pool)
    → WorkInGroups pools config Cells told before (gs ++ last ∷ []) a c
in-groups-more pools config Cells told before [] last a b c worked done once ends begun = (
  worked,
  c,
  subst (λ x. WorkAtOnce pools config.callers last x.pool worked) done once,
  subst (λ x. EndsGroup pools config Cells (before ++ last.lines) last.end (between_groups worked x.group x.next) c) done ends,
  subst (λ x. ToldAsBegun told before last.lines (pools.told x.pool)) done begun,
  refl,
)
in-groups-more pools config Cells told before (g ∷ gs) last a b c worked done once ends begun =
    (done.0, done.1, done.2, done.3, done.4, in-groups-more pools config Cells told (lines_with_end (before ++ g.lines) g.end) gs last done.1 b c worked done.5 once ends begun)

-- behind groups stand at least the lines before them
end-long : (ls : List Line) (end : Option Line) → length ls ≤ length (lines_with_end ls end)
end-long ls None = omega arith
end-long ls (Some l) = omega (arith, length-append ls (l ∷ []))

after-long : (before : List Line) (gs : List GroupLines) → length before ≤ length (after_groups before gs)
after-long before [] = omega arith
after-long before (g ∷ gs) =
    let rest = after-long (lines_with_end (before ++ g.lines) g.end) gs in
    let end = end-long (before ++ g.lines) g.end in
    omega (arith, rest, end, length-append before g.lines)

-- groups did so by what is told of their own lines
in-groups-told : {P : Type 0} (pools : Ghosts P) (config : Config) (Cells : OfCells) (told now : (k : ℕ) → Option (List ℕ)) (before : List Line) (gs : List GroupLines) (a b : BetweenGroups P) → ((k : ℕ) → k < length (after_groups before gs) → now k ≡ told k)
    → WorkInGroups pools config Cells told before gs a b → WorkInGroups pools config Cells now before gs a b
in-groups-told pools config Cells told now before [] a b same done = done
in-groups-told pools config Cells told now before (g ∷ gs) a b same done =
    let rest = after-long (lines_with_end (before ++ g.lines) g.end) gs in
    let end = end-long (before ++ g.lines) g.end in (
      done.0,
      done.1,
      done.2,
      done.3,
      λ j below. same (length before + j) (omega (arith, below, rest, end, length-append before g.lines)) ∙ done.4 j below,
      in-groups-told pools config Cells told now (lines_with_end (before ++ g.lines) g.end) gs done.1 b same done.5,
    )

-- what callers and feeder are told to have done to cells
pub told-of : (cache : Cache) (restored : List Restored) (len : ℕ) (image : Option (List ℕ)) (place : ℕ) (blocks : List Ptr) (os : List Op) (rs : List Reply) (w : RunWork) (crew : Crew OnHeap) → HaveCome cache restored len image place blocks os rs w crew → w.stopped ≡ no_work
    → AreToldOf cache w.lines crew
told-of cache restored len image place blocks os rs w crew come goes_on = record {
  number = come.feeder.number;
  callers = λ n below. let c = come.each n below in (c.party, c.at.party_at, c.come.waits.number, λ i range. c.come.waits.told.entries i range);
  feeder = λ i range. come.feeder.told.entries i range
      ∙ ap (lines_of_cell i) (ap (λ (x : Work). noted_of_work (lines_of_feeder w.lines) ++ x.noted) goes_on ∙ append-nil (noted_of_work (lines_of_feeder w.lines)));
}

-- ---- before the first group

pub between-none : {P D : Type 0} (cache : Cache) (restored : List Restored) (pools : Ghosts P) (devices : Devices D) (trace : Trace) (start : BetweenGroups P) (was : Device D) (crew : Crew OnHeap)
    → HaveCome cache restored (pools.size start.pool) (pools.told start.pool) start.next trace.blocks [] [] (plain_work [] []) crew → Knows (openings_of trace) crew.feeder → IsFirstPlace (pools.size start.pool) trace.blocks start.next → MaySync pools 0 start
    → ((shard : ℕ) → seen_of cache.config shard crew.feeder ≡ restores_in cache.config restored shard) → AreBetween cache restored pools devices trace start start was was [] (plain_work [] []) crew
between-none cache restored pools devices trace start was crew come knows place may seen = record {
  reached = record {
    few = omega arith;
    come = come;
    knows = knows;
    first = place;
    behind = omega arith;
    counted = record {
      keeps = front-same pools start.next start.pool;
      reads = λ room. let none = over-zero cache.config.callers (asked []) (λ n below. refl) in omega (arith, none);
      faults = λ room. let none = over-zero cache.config.callers (failed []) (λ n below. refl) in omega (arith, none);
    };
    told = λ k. pools.told start.pool;
    told_front = λ k. refl;
    groups = λ several. refl;
    used = λ several. (refl, refl);
    fed = none-so-far dbuf_meanings devices cache restored was crew.feeder seen;
    looked = none-looked cache.config (pools.size start.pool) (λ k. pools.told start.pool) crew.parties.items;
  };
  begins = λ more. tt;
  goes_on = refl;
  may_sync = may;
}

-- the first sync may be done
pub first-may : {P : Type 0} (pools : Ghosts P) (pool : P) (place len : ℕ) → place % sector ≡ 0 → place ≤ len → len ≡ pools.size pool → MaySync pools 0 (between_groups pool 1 place)
first-may pools pool place len aligned inside is = record { born = omega arith; few = omega arith; aligned = aligned; inside = subst (λ (n : ℕ). place ≤ n) is inside }

-- behind the restores
pub between-begun : {P D : Type 0} (cache : Cache) (restored : List Restored) (pools : Ghosts P) (devices : Devices D) (trace : Trace) (start : BetweenGroups P) (was : Device D) (whole : List PartyPlace) (old new : Crew OnHeap) → AreOpened cache whole
    → whole ≡ old.parties.items ++ old.feeder ∷ [] → KeepNothing old.kept.items → length old.kept.items ≡ length old.parties.items
    → MadeJoined cache (restores_in cache.config restored) old.feeder old.parties.items new.feeder new.parties.items → new.kept.items ≡ old.kept.items → Knows (openings_of trace) old.feeder → IsFirstPlace (pools.size start.pool) trace.blocks start.next → MaySync pools 0 start
    → AreBetween cache restored pools devices trace start start was was [] (plain_work [] []) new
between-begun cache restored pools devices trace start was whole old new opened is none many made kept knows place may =
    between-none cache restored pools devices trace start was new
    (have-restored cache restored (pools.size start.pool) (pools.told start.pool) start.next trace.blocks old new whole opened is
    (have-started cache whole old opened is none many (pools.size start.pool) (pools.told start.pool) start.next trace.blocks) made kept)
    (ap (λ (a : About). a.openings) made.about ∙ knows) place may
    (restores-seen cache restored (pools.size start.pool) (pools.told start.pool) start.next trace.blocks old new whole opened is
    (have-started cache whole old opened is none many (pools.size start.pool) (pools.told start.pool) start.next trace.blocks) made kept)

-- ---- one group

module _ {P D : Type 0} (cache : Cache) (restored : List Restored) (pools : Ghosts P) (devices : Devices D) (trace : Trace) (start was : BetweenGroups P) (begun : Device D) (from to : P) (a b : Device D) (rs ss : List Reply) (qs : List Op)
    (w : RunWork) (old new : Crew OnHeap) (few : length trace.ops ≤ 1000000) (some_callers : (0 < cache.config.callers) × (cache.config.callers ≤ 16)) (between : AreBetween cache restored pools devices trace start was begun a rs w old)
    (more : length rs < length trace.ops) (unused : IsUnused pools cache.config.callers was.pool from) (did : DidLinesAtOnce dbuf_meanings cache pools devices trace.blocks qs from to a b old new ss) (again : IsIdleFeeder cache new.feeder) (leaves : LeavesPool pools from to)
    (own : AreInGroup cache.config.callers qs) (inside : length rs + length qs ≤ length trace.ops) (here : take (length qs) (drop (length rs) trace.ops) ≡ qs) where
  abbrev callers : ℕ
  callers = cache.config.callers

  abbrev Cells : PartyPlace → OfCells
  Cells p = StoodSo (openings_of trace) cache.config p

  abbrev os : List Op
  os = take (length rs) trace.ops

  abbrev ms : List Line
  ms = did.lines

  abbrev reached : HaveReached cache restored pools devices trace start was begun a Whole rs w old
  reached = between.reached

  long : length w.lines ≡ length rs
  long = let l = lines-long os rs w.lines reached.come.did.lines in l.1 ∙ sym l.0

  same-these : (length ss ≡ length qs) × (length ms ≡ length qs)
  same-these = lines-long qs ss ms did.are

  pub both-long : length (rs ++ ss) ≡ length rs + length qs
  both-long = omega (arith, length-append rs ss, same-these.0)

  pub taken : take (length (rs ++ ss)) trace.ops ≡ os ++ qs
  taken = ap (λ (k : ℕ). take k trace.ops) both-long ∙ (take-add (length rs) (length qs) trace.ops ∙ ap (λ (l : List Op). os ++ l) here)

  whole-so-far : EndsWhole (ops_of w.lines)
  whole-so-far = subst EndsWhole (sym (ops-are os rs w.lines reached.come.did.lines).0) (whole-of trace.ops (length rs) reached.few (between.begins more))

  inside-these : AreInside ms
  inside-these = all-inside callers qs ss ms own did.are

  worked : HaveWorked cache pools trace.blocks callers from to (λ n. lines_of_caller n ms) old.kept.items old.parties.items new.kept.items new.parties.items
  worked = subst (λ (k : ℕ). HaveWorked cache pools trace.blocks k from to (λ n. lines_of_caller n ms) old.kept.items old.parties.items new.kept.items new.parties.items) reached.come.parties did.worked

  few-so-far : length w.lines ≤ 1000000
  few-so-far = omega (arith, more, few, long)

  few-here : length ms ≤ 1000000
  few-here = omega (arith, same-these.1, inside, few)

  once : (end : Option Line) → WorkAtOnce pools callers (record { lines = ms; end = end }) was.pool to
  once = at-once cache pools trace.blocks callers was.pool from to ms old.kept.items old.parties.items new.kept.items new.parties.items unused worked some_callers.0

  pub now-leaves : LeavesPool pools was.pool to
  now-leaves = unused-leaves pools callers was.pool from to unused leaves

  from-front : HasFront start.next (pools.told start.pool) (pools.told from)
  from-front = ap (option_map (take start.next)) unused.told ∙ reached.counted.keeps.told

  -- the work by then
  abbrev done : RunWork
  done = with_lines w ms did.beside.feeds

  counted-lines : HaveCounted pools start.next callers done.lines start.pool to
  counted-lines = counted-more pools start.next callers w.lines ms start.pool was.pool to few-so-far some_callers.1 reached.counted (pool-front pools start.next was.pool to now-leaves)
      (group-reads cache pools trace.blocks callers was.pool from to ms old.kept.items old.parties.items new.kept.items new.parties.items unused worked some_callers.0 few-here some_callers.1)
      (group-faults cache pools trace.blocks callers was.pool from to ms old.kept.items old.parties.items new.kept.items new.parties.items unused worked some_callers.0 few-here some_callers.1)

  abbrev did-lines : DidLinesOfAll dbuf_meanings cache pools devices trace.blocks qs from a b old new ss
  did-lines = lines-of dbuf_meanings cache pools devices trace.blocks qs from to a b old new ss did

  pub come-lines : HaveCome cache restored (pools.size start.pool) (pools.told start.pool) start.next trace.blocks (os ++ qs) (rs ++ ss) done new
  come-lines =
      have-come-more dbuf_meanings cache restored pools devices (pools.size start.pool) (pools.told start.pool) start.next trace.blocks os qs rs ss w from a b old new reached.come between.goes_on did-lines own again reached.first
      (unused.size ∙ reached.counted.keeps.size) from-front

  used-here : UsedAtOnce devices trace.blocks callers ms did.beside.feeds (lent_in a) (lent_in b)
  used-here =
      let are = ops-are qs ss ms did.are in
      let beside : WorksBeside dbuf_meanings devices cache trace.blocks (ops_of ms) callers (λ n. lines_of_caller n ms) (replies_where is_feed (ops_of ms) (replies_of ms)) a b old.feeder new.feeder = record {
        feeds = did.beside.feeds;
        used = did.beside.used;
        answered = subst (λ (x : List Op × List Reply). AreFedReplies (lent_in a) (filter is_feed x.0) did.beside.feeds (replies_where is_feed x.0 x.1)) (λ i. (sym are.0 i, sym are.1 i)) did.beside.answered;
        read = subst (λ (k : ℕ). HaveRead devices trace.blocks k (λ n. lines_of_caller n ms) (lent_in a) (lent_in did.beside.used.lent) (lent_in did.beside.used.later) (lent_in b)) reached.come.parties did.beside.read;
      } in
      used-once dbuf_meanings devices cache trace.blocks callers ms a b old.feeder new.feeder beside

  used-lines : 2 ≤ callers → (last : GroupLines) → last.lines ≡ ms → UsedInGroups devices trace.blocks callers (groups_of w.lines ++ last ∷ []) done.feeds (lent_in begun) (lent_in b)
  used-lines several last is = used-more devices trace.blocks callers (groups_of w.lines) last w.feeds did.beside.feeds (lent_in begun) (lent_in a) (lent_in b) (reached.used several) (subst (λ (ls : List Line). UsedAtOnce devices trace.blocks callers ls did.beside.feeds (lent_in a) (lent_in b)) (sym is) used-here)

  fed-lines : AreMadeSoFar dbuf_meanings devices cache restored done.feeds begun b new.feeder
  fed-lines = group-so-far dbuf_meanings devices cache restored w.feeds did.beside.feeds begun a b old.feeder new.feeder reached.come.feeder.stands reached.fed did.beside.used

  all-worked : AllWorked cache pools trace.blocks callers from (λ n. lines_of_caller n ms) old.kept.items old.parties.items new.kept.items new.parties.items
  all-worked = subst (λ (k : ℕ). AllWorked cache pools trace.blocks k from (λ n. lines_of_caller n ms) old.kept.items old.parties.items new.kept.items new.parties.items) reached.come.parties did-lines.worked

  -- what the pool told as each line's group began
  abbrev told_begun : (k : ℕ) → Option (List ℕ)
  told_begun = told_then reached.told (length w.lines) (pools.told was.pool)

  begun-front : (k : ℕ) → HasFront start.next (pools.told start.pool) (told_begun k)
  begun-front = told-front reached.told (length w.lines) (pools.told was.pool) start.next (pools.told start.pool) reached.told_front reached.counted.keeps.told

  begun-these : ToldAsBegun told_begun (after_groups [] (groups_of w.lines)) ms (pools.told was.pool)
  begun-these = subst (λ (ls : List Line). ToldAsBegun told_begun ls ms (pools.told was.pool)) (sym (after-groups [] w.lines))
      (λ j below. told-late reached.told (length w.lines) (pools.told was.pool) (length w.lines + j) (omega arith))

  -- how its lines on objects looked at cells
  looked-lines : HaveLooked cache.config (pools.size start.pool) told_begun done.lines new.parties.items
  looked-lines =
      lines-looked pools cache restored (pools.size start.pool) (pools.told start.pool) start.next trace.blocks os rs w old new reached.come reached.told reached.looked ms inside-these from all-worked (unused.size ∙ reached.counted.keeps.size)
      (pools.told was.pool) unused.told

  pub knows-new : Knows (openings_of trace) new.feeder
  knows-new = same ∙ reached.knows
    where
      same : new.feeder.own.about.openings ≡ old.feeder.own.about.openings
      same = ap (λ (x : About). x.openings) (fed-about dbuf_meanings devices cache qs (length old.parties.items) ss a b old.feeder new.feeder did-lines.beside (fed-idle cache old.feeder.own.about.openings _ _ _ _ old.feeder reached.come.feeder) again)

  -- it has seen of each cell what it had
  seen-grown : (i : ℕ) → IsCell cache.config i → StartsWith (front_of i new.feeder.own.seen) (front_of i old.feeder.own.seen)
  seen-grown = (fed-beside dbuf_meanings devices cache qs (length old.parties.items) ss a b old.feeder new.feeder did-lines.beside (fed-idle cache old.feeder.own.about.openings _ _ _ _ old.feeder reached.come.feeder) again).same.keeps.fronts

  groups-so-far : 2 ≤ callers → WorkInGroups pools cache.config (Cells new.feeder) told_begun [] (groups_of w.lines) start was
  groups-so-far several =
      in-groups-told pools cache.config (Cells new.feeder) reached.told told_begun [] (groups_of w.lines) start was
      (λ k below. told-early reached.told (length w.lines) (pools.told was.pool) k (subst (λ (ls : List Line). k < length ls) (after-groups [] w.lines) below))
      (in-groups-as pools cache.config (Cells old.feeder) (Cells new.feeder) (stood-more (openings_of trace) cache.config old.feeder new.feeder seen-grown) reached.told [] (groups_of w.lines) start was (reached.groups several))

  groups-behind : (last : Crew OnHeap) → ((i : ℕ) → IsCell cache.config i → StartsWith (front_of i last.feeder.own.seen) (front_of i new.feeder.own.seen)) → 2 ≤ callers → WorkInGroups pools cache.config (Cells last.feeder) told_begun [] (groups_of w.lines) start was
  groups-behind last grown several = in-groups-as pools cache.config (Cells new.feeder) (Cells last.feeder) (stood-more (openings_of trace) cache.config new.feeder last.feeder grown) told_begun [] (groups_of w.lines) start was (groups-so-far several)

  -- ---- the trace ends with these lines

  abbrev alone-group : GroupLines
  alone-group = record { lines = ms; end = None }

  pub between-last : length rs + length qs ≡ length trace.ops → AreBetween cache restored pools devices trace start (between_groups to was.group was.next) begun b (rs ++ ss) done new
  between-last all = record {
    reached = record {
      few = omega (arith, both-long, all);
      come = subst (λ (l : List Op). HaveCome cache restored (pools.size start.pool) (pools.told start.pool) start.next trace.blocks l (rs ++ ss) done new) (sym taken) come-lines;
      knows = knows-new;
      first = reached.first;
      behind = reached.behind;
      counted = counted-lines;
      told = told_begun;
      told_front = begun-front;
      groups = λ several. subst (λ (gs : List GroupLines). WorkInGroups pools cache.config (Cells new.feeder) told_begun [] gs start (between_groups to was.group was.next)) (sym groups-are)
          (in-groups-more pools cache.config (Cells new.feeder) told_begun [] (groups_of w.lines) alone-group start was (between_groups to was.group was.next) to (groups-so-far several) (once None) refl begun-these);
      used = λ several. subst (λ (gs : List GroupLines). UsedInGroups devices trace.blocks callers gs done.feeds (lent_in begun) (lent_in b)) (sym groups-are) (used-lines several alone-group refl);
      fed = fed-lines;
      looked = looked-lines;
    };
    begins = λ less. absurd (omega (arith, both-long, all, less));
    goes_on = refl;
    may_sync = record {
      born = between.may_sync.born;
      few = omega (arith, between.may_sync.few, both-long);
      aligned = between.may_sync.aligned;
      inside = omega (arith, between.may_sync.inside, now-leaves.size);
    };
  }
    where
      groups-are : groups_of (w.lines ++ ms) ≡ groups_of w.lines ++ alone-group ∷ []
      groups-are = groups-append w.lines ms whole-so-far ∙ ap (λ (gs : List GroupLines). groups_of w.lines ++ gs) (group-last ms inside-these (omega (arith, more, all, same-these.1)))

  -- ---- a sync stopped behind them

  pub done-halted : (ending : Ending) (last : Crew OnHeap) (fin : P) (h : Halted cache pools trace (rs ++ ss) done ending (between_groups to was.group was.next) fin new last)
      → AreDone cache restored pools devices trace start fin begun b ending (rs ++ ss) (with_stop done h.work) last
  done-halted ending last fin h = record {
    now = between_groups to was.group was.next;
    reached = record {
      few = omega (arith, both-long, inside);
      come = subst (λ (l : List Op). HaveCome cache restored (pools.size start.pool) (pools.told start.pool) start.next trace.blocks l (rs ++ ss) (with_stop done h.work) last) (sym taken)
          (have-come-stopped pools devices cache restored (pools.size start.pool) (pools.told start.pool) start.next trace.blocks (os ++ qs) (rs ++ ss) done h.more new last come-lines refl h.tick h.work h.so);
      knows = ap (λ (x : About). x.openings) h.so.made.about ∙ knows-new;
      first = reached.first;
      behind = reached.behind;
      counted = counted-lines;
      told = told_begun;
      told_front = begun-front;
      groups = λ several. subst (λ (gs : List GroupLines). WorkInGroups pools cache.config (Cells last.feeder) told_begun [] gs start (between_groups to was.group was.next)) (sym groups-are)
          (in-groups-more pools cache.config (Cells last.feeder) told_begun [] (groups_of w.lines) alone-group start was (between_groups to was.group was.next) to (groups-behind last h.so.made.keeps.fronts several) (once None) refl begun-these);
      used = λ several. subst (λ (gs : List GroupLines). UsedInGroups devices trace.blocks callers gs done.feeds (lent_in begun) (lent_in b)) (sym groups-are) (used-lines several alone-group refl);
      fed = moved-so-far dbuf_meanings devices cache restored done.feeds begun b new.feeder last.feeder fed-lines
          (λ shard below. made-sees cache h.work h.more new last come-lines.feeder.number h.so.made shard [] (h.so.none shard below) tt);
      looked = subst (λ (ls : List Line). HaveLooked cache.config (pools.size start.pool) told_begun ls last.parties.items) (sym (stop-behind ending (with_stop done h.work) (h.begun [])))
          (answered-looked pools cache restored (pools.size start.pool) (pools.told start.pool) start.next trace.blocks (os ++ qs) (rs ++ ss) done new last come-lines told_begun looked-lines (stopped_line (with_stop done h.work)) refl h.more h.so.made
          (parted-length cache h.so.made.lines new.parties.items last.parties.items h.so.made.parted ∙ come-lines.parties) refl);
    };
    ended = h.ended;
    last = λ t stopped shard below owner makers. subst (λ (tick : ℕ). IsCutLast cache.config restored trace.blocks shard owner tick (with_stop done h.work) (seen_of cache.config shard last.feeder)) (sym (h.ticks t stopped))
        (stopped-cut pools devices cache restored (pools.size start.pool) (pools.told start.pool) start.next trace.blocks (os ++ qs) (rs ++ ss) done h.more new last come-lines refl h.tick h.work h.so shard below owner makers);
  }
    where
      groups-are : groups_done ending (w.lines ++ ms) ≡ groups_of w.lines ++ alone-group ∷ []
      groups-are = h.begun (w.lines ++ ms) ∙ (begun-append w.lines ms whole-so-far ∙ ap (λ (gs : List GroupLines). groups_of w.lines ++ gs) (group-begun ms inside-these))

  -- ---- a line ends them

  module _ (op : Op) (reply : Reply) (last : Crew OnHeap) (fin : BetweenGroups P) (at : slice_get trace.ops (length rs + length qs) ≡ Some op) (turn : Turned cache pools (openings_of trace) done.lines op reply (between_groups to was.group was.next) fin new last) where
    abbrev l : Line
    l = record { op = op; reply = reply; work = turn.work }

    abbrev all-replies : List Reply
    all-replies = (rs ++ ss) ++ reply ∷ []

    all-long : length all-replies ≡ suc (length rs + length qs)
    all-long = omega (arith, length-append (rs ++ ss) (reply ∷ []), both-long)

    room : length rs + length qs < length trace.ops
    room = slice_get_within trace.ops (length rs + length qs) op at

    all-taken : take (length all-replies) trace.ops ≡ (os ++ qs) ++ op ∷ []
    all-taken =
        ap (λ (k : ℕ). take k trace.ops) all-long
        ∙ (take-suc trace.ops (length rs + length qs) op room
        ∙ (λ i. (sym (ap (λ (k : ℕ). take k trace.ops) both-long) ∙ taken) i ++ get_or_from_slice_get trace.ops (length rs + length qs) op op at i ∷ []))

    abbrev all-done : RunWork
    all-done = with_end done l

    not-read : (n : ℕ) → lines_of_caller n (l ∷ []) ≡ []
    not-read n = let his : is_of_caller n op ≡ false = nobody-callers n op (ends-nobody op turn.so.ends).0 in rw his refl

    counted-end : HaveCounted pools start.next callers (done.lines ++ l ∷ []) start.pool fin.pool
    counted-end =
        counted-more pools start.next callers done.lines (l ∷ []) start.pool to fin.pool (omega (arith, length-append w.lines ms, long, same-these.1, room, few)) some_callers.1 counted-lines
        (front-before pools start.next was.next to fin.pool reached.behind turn.leaves)
        (λ full. let none = over-zero callers (asked (l ∷ [])) (λ n below. ap (λ (ls : List Line). length (calls_of_lines ls)) (not-read n)) in let same = turn.reads in omega (arith, none, same))
        (λ full. let none = over-zero callers (failed (l ∷ [])) (λ n below. ap (λ (ls : List Line). count_by is_pool_fault (replies_of ls)) (not-read n)) in let same = turn.faults in omega (arith, none, same))

    abbrev ended-group : GroupLines
    ended-group = record { lines = ms; end = Some l }

    groups-ended : groups_of ((w.lines ++ ms) ++ l ∷ []) ≡ groups_of w.lines ++ ended-group ∷ []
    groups-ended =
        ap groups_of (append_assoc w.lines ms (l ∷ []))
        ∙ (groups-append w.lines (ms ++ l ∷ []) whole-so-far ∙ ap (λ (gs : List GroupLines). groups_of w.lines ++ gs) (group-ended ms l inside-these turn.so.ends))

    pub between-ended : AreBetween cache restored pools devices trace start fin begun b all-replies all-done last
    between-ended = record {
      reached = record {
        few = omega (arith, all-long, room);
        come = subst (λ (x : List Op). HaveCome cache restored (pools.size start.pool) (pools.told start.pool) start.next trace.blocks x all-replies all-done last) (sym all-taken)
            (have-come-ended pools devices cache restored (pools.size start.pool) (pools.told start.pool) start.next trace.blocks (os ++ qs) (rs ++ ss) done turn.more new last come-lines refl l turn.so);
        knows = ap (λ (x : About). x.openings) turn.so.made.about ∙ knows-new;
        first = reached.first;
        behind = omega (arith, reached.behind, turn.later);
        counted = counted-end;
        told = told_begun;
        told_front = begun-front;
        groups = λ several. subst (λ (gs : List GroupLines). WorkInGroups pools cache.config (Cells last.feeder) told_begun [] gs start fin) (sym groups-ended)
            (in-groups-more pools cache.config (Cells last.feeder) told_begun [] (groups_of w.lines) ended-group start was fin to (groups-behind last turn.so.made.keeps.fronts several) (once (Some l))
            (subst (λ (ls : List Line). EndsGroup pools cache.config (Cells last.feeder) (ls ++ ms) (Some l) (between_groups to was.group was.next) fin) (sym (after-groups [] w.lines)) turn.ends) begun-these);
        used = λ several. subst (λ (gs : List GroupLines). UsedInGroups devices trace.blocks callers gs done.feeds (lent_in begun) (lent_in b)) (sym groups-ended) (used-lines several ended-group refl);
        fed = moved-so-far dbuf_meanings devices cache restored done.feeds begun b new.feeder last.feeder fed-lines
            (λ shard below. made-sees cache turn.work turn.more new last come-lines.feeder.number turn.so.made shard (events_of_feeder callers op) (turn.so.feeds shard below) (asked-gives callers op));
        looked = answered-looked pools cache restored (pools.size start.pool) (pools.told start.pool) start.next trace.blocks (os ++ qs) (rs ++ ss) done new last come-lines told_begun looked-lines l (ends-nobody op turn.so.ends).0 turn.more turn.so.made
            (parted-length cache turn.so.made.lines new.parties.items last.parties.items turn.so.made.parted ∙ come-lines.parties) refl;
      };
      begins = λ less. subst (BeginsGroup trace.ops) (sym all-long) (op, at, turn.so.ends);
      goes_on = refl;
      may_sync = record {
        born = let g = turn.group in omega (arith, g);
        few = let g = turn.group in omega (arith, g, between.may_sync.few, all-long);
        aligned = turn.aligned;
        inside = turn.inside;
      };
    }

-- ---- what a step is where the lines don't go on

-- which endings say that a sync stopped
pub stops-on : {P D : Type 0} (cache : Cache) (restored : List Restored) (pools : Ghosts P) (devices : Devices D) (trace : Trace) (start after : BetweenGroups P) (begun is : Device D) (replied replies : List Reply) (ending : Ending) (work : RunWork) (crew : Crew OnHeap) → goes_on ending ≡ false
    → AreDone cache restored pools devices trace start after.pool begun is ending replies work crew → StepsOn cache restored pools devices trace start after begun is replied replies ending crew
stops-on cache restored pools devices trace start after begun is replied replies Whole work crew stops over = absurd (false≢true (sym stops))
stops-on cache restored pools devices trace start after begun is replied replies Fork work crew stops over = (work, over)
stops-on cache restored pools devices trace start after begun is replied replies Sync work crew stops over = (work, over)
stops-on cache restored pools devices trace start after begun is replied replies (Full need left) work crew stops over = (work, over)

-- where a fork failed, the groups are those before it
as-forked : {P D : Type 0} (cache : Cache) (restored : List Restored) (pools : Ghosts P) (devices : Devices D) (trace : Trace) (start was : BetweenGroups P) (begun is : Device D) (rs : List Reply) (w : RunWork) (crew : Crew OnHeap)
    → HaveReached cache restored pools devices trace start was begun is Whole rs w crew → HaveReached cache restored pools devices trace start was begun is Fork rs w crew
as-forked cache restored pools devices trace start was begun is rs w crew h = record { few = h.few; come = h.come; knows = h.knows; first = h.first; behind = h.behind; counted = h.counted; told = h.told; told_front = h.told_front; groups = h.groups; used = h.used; fed = h.fed; looked = h.looked }

feed-left : (op : Op) → caller_of op ≡ None → ends_group op ≡ false → is_feed op ≡ true
feed-left (ops.Read n t x window) none inside = cc
feed-left (ops.Hold n t x) none inside = cc
feed-left (ops.Drop n x) none inside = cc
feed-left (ops.Get n t at window) none inside = cc
feed-left (ops.Put n t at size fill) none inside = cc
feed-left (ops.Patch n t at from bytes) none inside = cc
feed-left (ops.Pin n t at) none inside = cc
feed-left (ops.Unpin n at) none inside = cc
feed-left ops.Feed none inside = refl
feed-left (ops.Txg t) none inside = absurd (false≢true (sym inside))
feed-left (ops.Cap c) none inside = absurd (false≢true (sym inside))

-- ---- the lines of the next group

module _ {X : Type 0} where
  dropped-at : (xs : List X) (a k : ℕ) → slice_get (drop a xs) k ≡ slice_get xs (a + k)
  dropped-at xs zero k = let z : k ≡ 0 + k = omega arith in ap (slice_get xs) z
  dropped-at [] (suc a) k = refl
  dropped-at (x ∷ xs) (suc a) k = let z : suc (a + k) ≡ suc a + k = omega arith in dropped-at xs a k ∙ ap (slice_get (x ∷ xs)) z

  taken-at : (xs : List X) (n k : ℕ) (x : X) → slice_get (take n xs) k ≡ Some x → (k < n) × (slice_get xs k ≡ Some x)
  taken-at xs zero k x at = absurd (none-there k at)
    where
      none-there : (k : ℕ) → slice_get {X = X} [] k ≡ Some x → ⊥
      none-there k is = cc
  taken-at [] (suc n) k x at = absurd (none-there k at)
    where
      none-there : (k : ℕ) → slice_get {X = X} [] k ≡ Some x → ⊥
      none-there k is = cc
  taken-at (y ∷ xs) (suc n) zero x at = (omega arith, at)
  taken-at (y ∷ xs) (suc n) (suc k) x at = let h = taken-at xs n k x at in (omega (arith, h.0), h.1)

  pub range-at : (xs : List X) (a b k : ℕ) (x : X) → slice_get (slice_range xs a b) k ≡ Some x → (a + k < b) × (slice_get xs (a + k) ≡ Some x)
  range-at xs a b k x at = let h = taken-at (drop a xs) (b - a) k x at in (omega (arith, h.0), sym (dropped-at xs a k) ∙ h.1)

  pub range-length : (xs : List X) (a b : ℕ) → a ≤ b → b ≤ length xs → a + length (slice_range xs a b) ≡ b
  range-length xs a b le inside = omega (arith, le, inside, length-drop a xs, length-take-le (b - a) (drop a xs) (omega (arith, inside, length-drop a xs)))

  pub range-here : (xs : List X) (a b : ℕ) → a ≤ b → b ≤ length xs → take (length (slice_range xs a b)) (drop a xs) ≡ slice_range xs a b
  range-here xs a b le inside = ap (λ (n : ℕ). take n (drop a xs)) (let long = range-length xs a b le inside in omega (arith, long))

module _ (trace : Trace) (formed : IsFormed trace) (a b : ℕ) where
  pub range-declared : AreDeclared (length trace.blocks) (slice_range trace.ops a b)
  range-declared k op at = all-declared trace formed (a + k) op (range-at trace.ops a b k op at).1

  pub range-group : ((k : ℕ) (op : Op) → a ≤ k → k < b → slice_get trace.ops k ≡ Some op → ends_group op ≡ false) → AreInGroup trace.config.callers (slice_range trace.ops a b)
  range-group inside k op at =
      let h = range-at trace.ops a b k op at in
      let within_group = inside (a + k) op (omega arith) h.0 h.1 in
      elim (line-kind op) [
        | inl caller ↦ inl (caller.0, caller.1, all-callers trace formed (a + k) op h.1 caller.0 caller.1)
        | inr none ↦ inr (feed-left op none within_group)
      ]

-- ---- one step of all groups

-- What the next group came to, whose lines are these of the trace: they are done at once, and then the line that ends them, where there is one.
module _ {P D : Type 0} (cache : Cache) (restored : List Restored) (pools : Ghosts P) (devices : Devices D) (trace : Trace) (formed : IsFormed trace) (config : cache.config ≡ trace.config) (start was : BetweenGroups P) (begun : Device D) (from to : P) (a b : Device D)
    (rs ss : List Reply) (w : RunWork) (old new : Crew OnHeap) (first end : ℕ) (bs : List Ptr) (os : List Op) (is_bs : bs ≡ trace.blocks) (is_os : os ≡ trace.ops) (is_first : first ≡ length rs) (le : first ≤ end) (few : end ≤ length os)
    (inside : (k : ℕ) (op : Op) → first ≤ k → k < end → slice_get os k ≡ Some op → ends_group op ≡ false) (between : AreBetween cache restored pools devices trace start was begun a rs w old) (more : length rs < length trace.ops)
    (unused : IsUnused pools cache.config.callers was.pool from) (did : DidLinesAtOnce dbuf_meanings cache pools devices bs (slice_range os first end) from to a b old new ss) (again : IsIdleFeeder cache new.feeder) (leaves : LeavesPool pools from to) where
  abbrev qs : List Op
  qs = slice_range trace.ops (length rs) end

  did-these : DidLinesAtOnce dbuf_meanings cache pools devices trace.blocks qs from to a b old new ss
  did-these = subst (λ (x : List Ptr × List Op × ℕ). DidLinesAtOnce dbuf_meanings cache pools devices x.0 (slice_range x.1 x.2 end) from to a b old new ss) (λ i. (is_bs i, is_os i, is_first i)) did

  few-callers : (0 < cache.config.callers) × (cache.config.callers ≤ 16)
  few-callers = subst (λ (g : Config). (0 < g.callers) × (g.callers ≤ 16)) (sym config) (omega (arith, formed.config.counts.callers.0), formed.config.counts.callers.1)

  own : AreInGroup cache.config.callers qs
  own = subst (λ (g : Config). AreInGroup g.callers qs) (sym config)
      (range-group trace formed (length rs) end (λ k op low high at. inside k op (omega (arith, is_first, low)) high (ap (λ (l : List Op). slice_get l k) is_os ∙ at)))

  few-lines : end ≤ length trace.ops
  few-lines = subst (λ (l : List Op). end ≤ length l) is_os few

  low : length rs ≤ end
  low = omega (arith, is_first, le)

  ends-at : length rs + length qs ≡ end
  ends-at = range-length trace.ops (length rs) end low few-lines

  within : length rs + length qs ≤ length trace.ops
  within = omega (arith, ends-at, few-lines)

  here : take (length qs) (drop (length rs) trace.ops) ≡ qs
  here = range-here trace.ops (length rs) end low few-lines

  come : HaveCome cache restored (pools.size start.pool) (pools.told start.pool) start.next trace.blocks (take (length rs) trace.ops ++ qs) (rs ++ ss) (with_lines w did-these.lines did-these.beside.feeds) new
  come = come-lines cache restored pools devices trace start was begun from to a b rs ss qs w old new formed.few_ops few-callers between more unused did-these again leaves own within here

  pub next-last : length os ≤ end → (all : List Reply) → all ≡ rs ++ ss → StepsOn cache restored pools devices trace start (between_groups to was.group was.next) begun b rs all Whole new
  next-last last all is =
      let long : length os ≡ length trace.ops = ap length is_os in
      let whole : length rs + length qs ≡ length trace.ops = omega (arith, ends-at, few-lines, last, long) in
      let size = ap length is in (
        with_lines w did-these.lines did-these.beside.feeds,
        subst (λ (l : List Reply). AreBetween cache restored pools devices trace start (between_groups to was.group was.next) begun b l (with_lines w did-these.lines did-these.beside.feeds) new) (sym is)
            (between-last cache restored pools devices trace start was begun from to a b rs ss qs w old new formed.few_ops few-callers between more unused did-these again leaves own within here whole),
        omega (arith, size, both-long cache restored pools devices trace start was begun from to a b rs ss qs w old new formed.few_ops few-callers between more unused did-these again leaves own within here, whole, more),
      )

  -- the callers may join the feeder
  pub next-may : cache.row.parties ≡ parties_of cache.config → MayGoOn cache [] new.feeder new.parties.items
  next-may rows = may-resize cache restored (pools.size start.pool) (pools.told start.pool) start.next trace.blocks (take (length rs) trace.ops ++ qs) (rs ++ ss) (with_lines w did-these.lines did-these.beside.feeds) new come rows

  told-now : AreToldOf cache (with_lines w did-these.lines did-these.beside.feeds).lines new
  told-now = told-of cache restored (pools.size start.pool) (pools.told start.pool) start.next trace.blocks (take (length rs) trace.ops ++ qs) (rs ++ ss) (with_lines w did-these.lines did-these.beside.feeds) new come refl

  pub next-number : new.feeder.number ≡ cache.config.callers
  next-number = come.feeder.number

  may-now : MaySync pools (length rs) (between_groups to was.group was.next)
  may-now = record {
    born = between.may_sync.born;
    few = between.may_sync.few;
    aligned = between.may_sync.aligned;
    inside = omega (arith, between.may_sync.inside, leaves.size, unused.size);
  }

  -- the sync that ends it may be done
  pub next-sync : (lines : ℕ) × (lines < 2 ^ 32) × MaySync pools lines (between_groups to was.group was.next)
  next-sync = (length rs, omega (arith, more, formed.few_ops), may-now)

  module _ (op : Op) (at : slice_get os end ≡ Some op) (last : Crew OnHeap) (fin : BetweenGroups P) where
    there : slice_get trace.ops (length rs + length qs) ≡ Some op
    there = ap (slice_get trace.ops) ends-at ∙ (ap (λ (l : List Op). slice_get l end) (sym is_os) ∙ at)

    knows : Knows (openings_of trace) new.feeder
    knows = knows-new cache restored pools devices trace start was begun from to a b rs ss qs w old new formed.few_ops few-callers between more unused did-these again leaves own within here

    pub next-ended : (came : Result Reply Ending) (reply : Reply) → came ≡ Ok reply → DidEndLine cache pools op (between_groups to was.group was.next) fin new last came → (so_far all : List Reply) → so_far ≡ rs ++ ss → all ≡ so_far ++ reply ∷ []
        → StepsOn cache restored pools devices trace start fin begun b rs all Whole last
    next-ended came reply told did_it so_far all is_far is =
        let ended = subst (DidEndLine cache pools op (between_groups to was.group was.next) fin new last) told did_it in
        let turn = end-turned cache pools (openings_of trace) (with_lines w did-these.lines did-these.beside.feeds).lines (between_groups to was.group was.next) fin new last told-now knows ended.kept (length rs) may-now op reply ended in
        let whole : all ≡ (rs ++ ss) ++ reply ∷ [] = is ∙ ap (λ (l : List Reply). l ++ reply ∷ []) is_far in
        let work : RunWork = with_end (with_lines w did-these.lines did-these.beside.feeds) (record { op = op; reply = reply; work = turn.work }) in
        let size = ap length whole in (
          work,
          subst (λ (l : List Reply). AreBetween cache restored pools devices trace start fin begun b l work last) (sym whole)
              (between-ended cache restored pools devices trace start was begun from to a b rs ss qs w old new formed.few_ops few-callers between more unused did-these again leaves own within here op reply last fin there turn),
          omega (arith, size, length-append (rs ++ ss) (reply ∷ []), length-append rs ss),
        )

    pub next-halted : (came : Result Reply Ending) (ending : Ending) → came ≡ Err ending → DidEndLine cache pools op (between_groups to was.group was.next) fin new last came → (all : List Reply) → all ≡ rs ++ ss
        → StepsOn cache restored pools devices trace start fin begun b rs all ending last
    next-halted came ending told did_it all is =
        let ended = subst (DidEndLine cache pools op (between_groups to was.group was.next) fin new last) told did_it in
        let at_line : slice_get trace.ops (length (rs ++ ss)) ≡ Some op =
        ap (slice_get trace.ops) (both-long cache restored pools devices trace start was begun from to a b rs ss qs w old new formed.few_ops few-callers between more unused did-these again leaves own within here) ∙ there in
        let h = end-halted cache pools trace (rs ++ ss) (with_lines w did-these.lines did-these.beside.feeds) (between_groups to was.group was.next) fin new last told-now knows ended.kept op ending at_line ended in
        let work : RunWork = with_stop (with_lines w did-these.lines did-these.beside.feeds) h.work in
        subst (λ (l : List Reply). StepsOn cache restored pools devices trace start fin begun b rs l ending last) (sym is)
        (stops-on cache restored pools devices trace start fin begun b rs (rs ++ ss) ending work last h.stops
        (done-halted cache restored pools devices trace start was begun from to a b rs ss qs w old new formed.few_ops few-callers between more unused did-these again leaves own within here ending last fin.pool h))

-- none of it was begun, since a fork failed
pub next-forked : {P D : Type 0} (cache : Cache) (restored : List Restored) (pools : Ghosts P) (devices : Devices D) (trace : Trace) (start was : BetweenGroups P) (begun is : Device D) (after : P) (rs : List Reply) (w : RunWork) (crew : Crew OnHeap)
    → AreBetween cache restored pools devices trace start was begun is rs w crew → length rs < length trace.ops → ForkFailed pools cache.config.callers was.pool after → StepsOn cache restored pools devices trace start (between_groups after was.group was.next) begun is rs rs Fork crew
next-forked cache restored pools devices trace start was begun is after rs w crew between more failed = (
  w,
  record {
    now = was;
    reached = as-forked cache restored pools devices trace start was begun is rs w crew between.reached;
    ended = (between.goes_on, more, between.begins more, failed);
    last = λ t never. absurd never;
  },
)

-- ---- where no line asks for a sync

pub none-at : (os : List Op) (k : ℕ) (op : Op) → has_sync os ≡ false → slice_get os k ≡ Some op → is_sync op ≡ false
none-at [] k op none at = cc
none-at (o ∷ os) zero op none at = elim (cases_true (is_sync o)) [
  | inl is ↦ absurd (false≢true (sym none ∙ (λ i. is i || has_sync os)))
  | inr not_it ↦ (let same : o ≡ op = cc in ap is_sync (sym same) ∙ not_it)
]
none-at (o ∷ os) (suc k) op none at = elim (cases_true (is_sync o)) [
  | inl is ↦ absurd (false≢true (sym none ∙ (λ i. is i || has_sync os)))
  | inr not_it ↦ none-at os k op ((λ i. sym not_it i || has_sync os) ∙ none) at
]

-- the pool tells what it told behind the next group
pub next-still : {P : Type 0} (pools : Ghosts P) (callers : ℕ) (trace : Trace) (os : List Op) → os ≡ trace.ops → (was from to fin : P) (end : ℕ) (op : Op) → slice_get os end ≡ Some op → IsUnused pools callers was from → LeavesPool pools from to
    → (is_sync op ≡ false → LeavesPool pools to fin) → has_sync trace.ops ≡ false → LeavesPool pools was fin
next-still pools callers trace os is_os was from to fin end op at unused leaves still none =
    leaves-then pools was to fin (unused-leaves pools callers was from to unused leaves) (still (none-at os end op (ap has_sync is_os ∙ none) at))

-- ---- all steps

pub all-stepped : {P D : Type 0} (cache : Cache) (restored : List Restored) (pools : Ghosts P) (devices : Devices D) (trace : Trace) (start after : BetweenGroups P) (begun is : Device D) (replies : List Reply) (w : RunWork) (crew : Crew OnHeap)
    → AreBetween cache restored pools devices trace start after begun is replies w crew → length trace.ops ≤ length replies → AreDone cache restored pools devices trace start after.pool begun is Whole replies w crew
all-stepped cache restored pools devices trace start after begun is replies w crew between all = record {
  now = after;
  reached = between.reached;
  ended = (between.goes_on, omega (arith, between.reached.few, all), refl);
  last = λ t never. absurd never;
}

-- what a step says where the lines go on, and where they don't
module _ {P D : Type 0} (cache : Cache) (restored : List Restored) (pools : Ghosts P) (devices : Devices D) (trace : Trace) (start after : BetweenGroups P) (begun is : Device D) (replied replies : List Reply) (crew : Crew OnHeap) where
  pub stepped : (ending : Ending) → goes_on ending ≡ true → StepsOn cache restored pools devices trace start after begun is replied replies ending crew
      → (work : RunWork) × AreBetween cache restored pools devices trace start after begun is replies work crew × (length replied < length replies)
  stepped Whole on step = step
  stepped Fork on step = absurd (false≢true on)
  stepped Sync on step = absurd (false≢true on)
  stepped (Full need left) on step = absurd (false≢true on)

  pub not-stepped : (ending : Ending) → goes_on ending ≡ false → StepsOn cache restored pools devices trace start after begun is replied replies ending crew
      → (work : RunWork) × AreDone cache restored pools devices trace start after.pool begun is ending replies work crew
  not-stepped Whole on step = absurd (false≢true (sym on))
  not-stepped Fork on step = step
  not-stepped Sync on step = step
  not-stepped (Full need left) on step = step
