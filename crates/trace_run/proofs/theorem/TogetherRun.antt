-- What the run of several callers came to, from what they were between its groups and how its cache closed.
use Rattle.std.proofs.Common.{◌≡◌, ℕ, zero, suc, ◌+◌, ◌*◌, ◌<◌, ◌≤◌, ◌^◌, ◌==◌, Bool, false, cond, List, [], ◌∷◌, ◌++◌, length, length-append, map, take, drop, min, Option, Some, inl, inr, refl, sym, ap, ◌∙◌, subst, arith}
use Rattle.std.specs.Prelude.{count_by, slice_get, slice_index_or, sum_by}
use Rattle.std.specs.List.{AllByRecursion}
use Rattle.std.specs.Option.{option_map_or}
use Rattle.std.proofs.lemmas.Bool.{cases_lt}
use Rattle.std.proofs.lemmas.List.{length-map, take-append-drop, take_all}
use Rattle.std.proofs.lemmas.List.Sums.{count_by-le-length, sum_by-cons}
use Rattle.std.proofs.lemmas.Option.{slice_get_within}
use mathlib.Core.Option.{some, some-injective, some-ne-none}
use lib.ListN.{get_elem?}
use Rattle.arc_lists.proofs.Tables.{cases_true}
use Rattle.arc_core.specs.Config.{IsConfig}
use Rattle.arc_core.specs.declared.config.Config.{Config}
use Rattle.arc_core.specs.declared.event.Event.{Event}
use Rattle.arc_core.specs.declared.served.Restored.{Restored}
use Rattle.arc_core.specs.declared.served.Served.TheVariants as served
use Rattle.arc_core.specs.Operations.{own_events, pool_reads}
use Rattle.arc_core.specs.ShardLog.{ShardLog}
use Rattle.arc_table.specs.Ended.{Ended}
use Rattle.arc_table.specs.Cache.{Cache}
use Rattle.arc_table.specs.Fronts.{StartsWith}
use Rattle.arc_table.specs.Seen.{seen_of}
use Rattle.arc_table.specs.TableLaws.{within}
use Rattle.arc_table.proofs.TableLaws.{there}
use Rattle.dbuf_cells.specs.Turns.{OnHeap, dbuf_meanings}
use Rattle.txg_sync.specs.Items.{SyncItem}
use Rattle.txg_sync.specs.declared.syncing.SyncFault.{SyncFault}
use Rattle.txg_sync.specs.declared.syncing.SyncFault.TheVariants as fault
use Rattle.vdev_io.specs.Faults.{CountsOne, Rose, last_count}
use Rattle.vdev_io.specs.declared.device.CacheDev.{Ghosts as Devices}
use Rattle.vdev_io.specs.declared.pool.Pool.{Ghosts}
use Rattle.trace_text.specs.declared.op.Op.{Op}
use Rattle.trace_text.specs.declared.reply.Reply.{Reply}
use Rattle.trace_text.specs.declared.trace.Trace.{Trace}
use Rattle.trace_text.specs.Grammar.{IsFormed}
use Rattle.trace_run.specs.declared.device.Device.{Device}
use Rattle.trace_run.specs.Devices.{lent_in}
use Rattle.trace_run.specs.Restores.{events_by_feeder, restores_in}
use Rattle.trace_run.proofs.feeds.LeftLemmas.{left-explained}
use Rattle.trace_run.specs.FeedSeries.{LeavesFed}
use Rattle.trace_run.specs.declared.groups.Crew.{Crew}
use Rattle.trace_run.specs.declared.ran.Ending.{Ending}
use Rattle.trace_run.specs.declared.ran.Ending.TheVariants.{Fork, Full, Sync, Whole}
use Rattle.trace_run.specs.Answers.{AnswersAll, is_pool_fault}
use Rattle.trace_run.specs.dbufs.CellEnds.{AreCellsOf, AreEndedSo}
use Rattle.trace_run.specs.Effects.{Answered, Effect, GivenBack, NoEffect, PoolRefused, calls_of}
use Rattle.trace_run.specs.Explaining.{Explain}
use Rattle.trace_run.specs.Lines.{caller_of, is_of_caller}
use Rattle.trace_run.specs.dbufs.ObjectAnswers.{AreAnsweredByCells}
use Rattle.trace_run.specs.dbufs.Objects.{Line, Work, replies_of}
use Rattle.trace_run.specs.Openings.{openings_of}
use Rattle.trace_run.specs.one_caller.Alone.{ends_in, histories_of}
use Rattle.trace_run.specs.RunWork.{IsRunWork, RunWork, lines_of_caller, noted_by}
use Rattle.trace_run.specs.callers.DeviceForks.{UsedInGroups}
use Rattle.trace_run.specs.callers.GroupRun.{HaveClosed, RanTogether}
use Rattle.trace_run.specs.callers.Groups.{AreDone, EndsLines, HaveCome, IsEndLine, StoodSo, lines_with_stop}
use Rattle.trace_run.specs.callers.Together.{AreCut, EndsRun, ForkFailed, IsCutLast, StoodThen, StopsSo, StopsSync, WorkInGroups, answered_ops, between_groups, faults_told, groups_done, over_callers, reads_of_caller}
use Rattle.trace_run.specs.callers.WorkLines.{calls_of_lines, effect_with}
use Rattle.trace_run.proofs.callers.AbsorbLemmas.{over-few}
use Rattle.trace_run.proofs.callers.CallerActLemmas.{line-kind}
use Rattle.trace_run.proofs.callers.GroupCounts.{over-add, over-one, over-same, over-zero}
use Rattle.trace_run.proofs.callers.GroupRunLemmas.{all-callers}
use Rattle.trace_run.proofs.callers.SyncRun.{in-groups-as, stood-then, stops-sync-as}
use Rattle.trace_run.proofs.theorem.LineAnswers.{EndsWell, IsOfOne, end-lines, lines-replies, own-lines-of}
use Rattle.trace_run.proofs.theorem.RunEnds.{HasStop, did-work, ended-work, feeder-begins, feeder-lines, lines-long, run-answers, run-cells, run-counted, run-cut, run-cut-last, run-explains, run-kept, run-objects, run-reads, since, HaveMade}

-- ---- what the callers' replies tell is what all replies tell

end-no-fault : (o : Op) (r : Reply) → IsEndLine o r → is_pool_fault r ≡ false
end-no-fault o r (inl cap) = ap is_pool_fault cap.2
end-no-fault o r (inr (inl sync)) = ap is_pool_fault sync.5
end-no-fault o r (inr (inr (feed, inl none))) = ap is_pool_fault none
end-no-fault o r (inr (inr (feed, inr report))) = ap is_pool_fault report.1

module _ (callers : ℕ) where
  abbrev faults-of : ℕ → List Line → ℕ
  faults-of n ls = count_by is_pool_fault (replies_of (lines_of_caller n ls))

  abbrev one-of : Reply → ℕ
  one-of r = cond {A = ℕ} (is_pool_fault r) 1 0

  one-line : (l : Line) (ls : List Line) (n : ℕ) → faults-of n (l ∷ ls) ≡ cond {A = ℕ} (is_of_caller n l.op) (one-of l.reply) 0 + faults-of n ls
  one-line l ls n = elim (cases_true (is_of_caller n l.op)) [
    | inl own ↦
        let mine : lines_of_caller n (l ∷ ls) ≡ l ∷ lines_of_caller n ls = rw own refl in
        let one : cond {A = ℕ} (is_of_caller n l.op) (one-of l.reply) 0 ≡ one-of l.reply = rw own refl in
        omega (arith, ap (λ (x : List Line). count_by is_pool_fault (replies_of x)) mine, sum_by-cons (λ x. cond {A = ℕ} (is_pool_fault x) 1 0) l.reply (replies_of (lines_of_caller n ls)), one)
    | inr other ↦
        let none : lines_of_caller n (l ∷ ls) ≡ lines_of_caller n ls = rw other refl in
        let zero_is : cond {A = ℕ} (is_of_caller n l.op) (one-of l.reply) 0 ≡ 0 = rw other refl in
        omega (arith, ap (λ (x : List Line). count_by is_pool_fault (replies_of x)) none, zero_is)
  ]

  -- the one reply to a line is its caller's; a line that is no caller's isn't counted
  over-line : (l : Line) → IsOfOne (λ n. n < callers) l → EndsWell l → over_callers callers (λ n. cond {A = ℕ} (is_of_caller n l.op) (one-of l.reply) 0) ≡ one-of l.reply
  over-line l below ended = elim (line-kind l.op) [
    | inl caller ↦
        over-same callers (λ n. cond {A = ℕ} (is_of_caller n l.op) (one-of l.reply) 0) (λ n. cond {A = ℕ} (caller.0 == n) (one-of l.reply) 0)
        (λ n lt. ap (λ (x : Option ℕ). cond {A = ℕ} (option_map_or (λ (m : ℕ). m == n) x false) (one-of l.reply) 0) caller.1)
        ∙ over-one callers caller.0 (one-of l.reply) (below caller.0 caller.1)
    | inr none ↦
        over-zero callers (λ n. cond {A = ℕ} (is_of_caller n l.op) (one-of l.reply) 0) (λ n lt. ap (λ (x : Option ℕ). cond {A = ℕ} (option_map_or (λ (m : ℕ). m == n) x false) (one-of l.reply) 0) none)
        ∙ sym (ap (λ (b : Bool). cond {A = ℕ} b 1 0) (end-no-fault l.op l.reply (ended none)))
  ]

  pub over-faults : (ls : List Line) → AllByRecursion EndsWell ls → AllByRecursion (IsOfOne (λ n. n < callers)) ls → over_callers callers (λ n. faults-of n ls) ≡ count_by is_pool_fault (replies_of ls)
  over-faults [] ended below = over-zero callers (λ n. 0) (λ n lt. refl)
  over-faults (l ∷ ls) ended below =
      let later = over-faults ls ended.1 below.1 in
      let each = over-same callers (λ n. faults-of n (l ∷ ls)) (λ n. cond {A = ℕ} (is_of_caller n l.op) (one-of l.reply) 0 + faults-of n ls) (λ n lt. one-line l ls n) in
      let split = over-add callers (λ n. cond {A = ℕ} (is_of_caller n l.op) (one-of l.reply) 0) (λ n. faults-of n ls) in
      let one = over-line l below.0 ended.0 in
      omega (arith, later, each, split, one, sum_by-cons (λ x. cond {A = ℕ} (is_pool_fault x) 1 0) l.reply (replies_of ls))

-- ---- few calls

one-call : (e : Effect) → length (calls_of e) ≤ 1
one-call (Answered served.Hit) = omega arith
one-call (Answered served.Pool) = omega arith
one-call (Answered served.L2) = omega arith
one-call (Answered served.Past) = omega arith
one-call GivenBack = omega arith
one-call (PoolRefused call) = omega arith
one-call NoEffect = omega arith

lines-few : (ls : List Line) → length (calls_of_lines ls) ≤ length ls
lines-few [] = omega arith
lines-few (l ∷ ls) = omega (arith, lines-few ls, one-call (effect_with l.work.brought l.reply), length-append (calls_of (effect_with l.work.brought l.reply)) (calls_of_lines ls))

own-few : (n : ℕ) (ls : List Line) → length (lines_of_caller n ls) ≤ length ls
own-few n [] = omega arith
own-few n (l ∷ ls) =
    let rest = own-few n ls in
    elim (cases_true (is_of_caller n l.op)) [
      | inl own ↦ rw own (omega (arith, rest))
      | inr other ↦ rw other (omega (arith, rest))
    ]

-- ---- what the run came to

rose-then : (start reached later : ℕ) → min start last_count ≤ reached → Rose reached later → Rose start later
rose-then start reached later least rose = omega (arith, least, rose)

one-rose : (before now : ℕ) → CountsOne before now → Rose before now
one-rose before now one = elim (cases_lt before last_count) [
  | inl room ↦ let more = one.more room in omega (arith, more, room)
  | inr full ↦ let same = one.full full in omega (arith, same, full)
]

pub index-history : (logs : List ShardLog) (i : ℕ) (l : ShardLog) → get_elem? logs i ≡ some l → slice_index_or (map (λ (log : ShardLog). log.history) logs) i [] ≡ l.history
index-history [] i l at = absurd (some-ne-none l (sym at))
index-history (x ∷ xs) zero l at = ap (λ (log : ShardLog). log.history) (some-injective x l at)
index-history (x ∷ xs) (suc i) l at = index-history xs i l at

-- the mappings of a trace are not looked at
abbrev mapped : (trace : Trace) (restored : List Restored) (work : RunWork) (rs : List Reply) (closed : Ended OnHeap) → Explain (record trace { objects = [] }) restored work rs (ends_in closed) (histories_of closed) → Explain trace restored work rs (ends_in closed) (histories_of closed)
mapped trace restored work rs closed e = record { shards = e.shards; legal = e.legal; ends = e.ends; at_rest = e.at_rest; begins = e.begins; every_call = e.every_call; owner = e.owner; made = e.made; ending = e.ending }

module _ {P D : Type 0} (cache : Cache) (pools : Ghosts P) (devices : Devices D) (before after : P) (place : ℕ) (trace : Trace) (formed : IsFormed trace) (config : cache.config ≡ trace.config) (valid : IsConfig cache.config)
    (was is : Device D) (ending : Ending) (restored : List Restored) (rs : List Reply) (work : RunWork) (crew : Crew OnHeap) (d : AreDone cache restored pools devices trace (between_groups before 1 place) after was is ending rs work crew)
    (closed : Ended OnHeap) (h : HaveClosed dbuf_meanings cache crew closed) where
  abbrev callers : ℕ
  callers = cache.config.callers

  abbrev os : List Op
  os = take (length rs) trace.ops

  abbrev more : List Op
  more = drop (length rs) trace.ops

  pub come : HaveCome cache restored (pools.size before) (pools.told before) place trace.blocks os rs work crew
  come = d.reached.come

  whole-ops : os ++ more ≡ trace.ops
  whole-ops = take-append-drop (length rs) trace.ops

  abbrev pub done-work : RunWork
  done-work = ended-work cache valid restored (pools.size before) (pools.told before) place trace.blocks os more rs work crew come closed h

  -- all are answered
  all-are : (e : Ending) → EndsLines pools cache trace rs crew.feeder work e d.now after → os ≡ answered_ops trace e rs
  all-are Whole ends = take_all (length rs) trace.ops (omega (arith, ends.1))
  all-are Fork ends = refl
  all-are Sync ends = refl
  all-are (Full need left) ends = refl

  below-all : (k : ℕ) (op : Op) → slice_get os k ≡ Some op → (n : ℕ) → caller_of op ≡ Some n → n < callers
  below-all k op at n of = subst (λ (c : ℕ). n < c) (sym (ap (λ (g : Config). g.callers) config))
      (all-callers trace formed k op (ap (λ (l : List Op). slice_get l k) (sym whole-ops) ∙ (get-left os more k (slice_get_within os k op at) ∙ at)) n of)
    where
      get-left : (xs ys : List Op) (k : ℕ) → k < length xs → slice_get (xs ++ ys) k ≡ slice_get xs k
      get-left [] ys k inside = absurd (omega (arith, inside))
      get-left (x ∷ xs) ys zero inside = refl
      get-left (x ∷ xs) ys (suc k) inside = get-left xs ys k (omega (arith, inside))

  pub cells-are : AreCellsOf trace (noted_by trace.config done-work) closed
  cells-are = subst (λ (g : Config). AreCellsOf trace (noted_by g done-work) closed) config (run-cells cache valid restored (pools.size before) (pools.told before) place trace.blocks os more rs work crew come closed h trace config d.reached.knows)

  kept-are : AreEndedSo trace.config 0 closed.cells done-work.ended
  kept-are = subst (λ (g : Config). AreEndedSo g 0 closed.cells done-work.ended) config (run-kept cache valid restored (pools.size before) (pools.told before) place trace.blocks os more rs work crew come closed h trace config d.reached.knows)

  abbrev Made : ((shard place : ℕ) → ℕ) → Type 0
  Made owner = HaveMade cache valid restored (pools.size before) (pools.told before) place trace.blocks os more rs work crew come closed h owner

  -- each party that closed the cache made what it is the owner of
  pub explained-made : (x : Explain trace restored done-work rs (ends_in closed) (histories_of closed)) × Made x.owner
  explained-made =
      let is = subst (λ (x : Config × List Op). (y : Explain (record { config = x.0; blocks = trace.blocks; objects = []; ops = x.1 }) restored done-work rs (ends_in closed) (histories_of closed)) × Made y.owner) (λ i. (config i, whole-ops i))
      (run-explains cache valid restored (pools.size before) (pools.told before) place trace.blocks os more rs work crew come closed h trace config d.reached.knows) in
      (mapped trace restored done-work rs closed is.0, is.1)

  abbrev pub explained : Explain trace restored done-work rs (ends_in closed) (histories_of closed)
  explained = explained-made.0

  counted-at : (n : ℕ) → n < callers → length (calls_of_lines (lines_of_caller n work.lines)) ≡ reads_of_caller n (histories_of closed)
  counted-at = run-counted cache valid restored (pools.size before) (pools.told before) place trace.blocks os more rs work crew come closed h

  all-reads-are : over_callers callers (λ n. length (calls_of_lines (lines_of_caller n work.lines))) ≡ sum_by pool_reads (histories_of closed)
  all-reads-are = over-same callers (λ n. length (calls_of_lines (lines_of_caller n work.lines))) (λ n. reads_of_caller n (histories_of closed)) counted-at
      ∙ run-reads cache valid restored (pools.size before) (pools.told before) place trace.blocks os more rs work crew come closed h

  all-faults-are : over_callers callers (λ n. count_by is_pool_fault (replies_of (lines_of_caller n work.lines))) ≡ count_by is_pool_fault rs
  all-faults-are = over-faults callers work.lines (end-lines os rs work.lines come.did.lines come.ended) (own-lines-of (λ n. n < callers) os rs work.lines come.did.lines below-all)
      ∙ ap (count_by is_pool_fault) (lines-replies os rs work.lines come.did.lines)

  few-callers : callers ≤ 16
  few-callers = valid.counts.callers.1

  few-replies : length rs ≤ 1000000
  few-replies = omega (arith, d.reached.few, formed.few_ops)

  few-lines : length work.lines ≤ 1000000
  few-lines = omega (arith, few-replies, ap length (lines-replies os rs work.lines come.did.lines), length-map work.lines (λ (l : Line). l.reply))

  reads-few : over_callers callers (λ n. length (calls_of_lines (lines_of_caller n work.lines))) ≤ callers * 1000000
  reads-few = over-few callers (λ n. length (calls_of_lines (lines_of_caller n work.lines))) 1000000 (λ n below. omega (arith, lines-few (lines_of_caller n work.lines), own-few n work.lines, few-lines))

  faults-few : count_by is_pool_fault rs ≤ 1000000
  faults-few = omega (arith, few-replies, count_by-le-length is_pool_fault rs)

  reached-reads : pools.reads before < 2 ^ 63 → pools.reads d.now.pool ≡ pools.reads before + sum_by pool_reads (histories_of closed)
  reached-reads room = omega (arith, d.reached.counted.reads room, all-reads-are)

  reached-faults : pools.faults before < 2 ^ 63 → pools.faults d.now.pool ≡ pools.faults before + count_by is_pool_fault rs
  reached-faults room = omega (arith, d.reached.counted.faults room, all-faults-are)

  after-reads : pools.reads before < 2 ^ 63 → pools.reads after ≡ pools.reads before + sum_by pool_reads (histories_of closed)
  after-reads room = go ending d.ended
    where
      go : (e : Ending) → EndsLines pools cache trace rs crew.feeder work e d.now after → pools.reads after ≡ pools.reads before + sum_by pool_reads (histories_of closed)
      go Whole ends = ap (λ (p : P). pools.reads p) ends.2 ∙ reached-reads room
      go Fork ends = ends.3.reads (omega (arith, room, d.reached.counted.reads room, reads-few, few-callers)) ∙ reached-reads room
      go Sync ends = ends.answer.outside.reads ∙ reached-reads room
      go (Full need left) ends = ends.answer.outside.reads ∙ reached-reads room

  after-faults : pools.faults before < 2 ^ 63 → pools.faults after ≡ pools.faults before + faults_told ending rs
  after-faults room = go ending d.ended
    where
      go : (e : Ending) → EndsLines pools cache trace rs crew.feeder work e d.now after → pools.faults after ≡ pools.faults before + faults_told e rs
      go Whole ends = ap (λ (p : P). pools.faults p) ends.2 ∙ reached-faults room
      go Fork ends = omega (arith, ends.3.faults (omega (arith, room, reached-faults room, faults-few)), reached-faults room)
      go Sync ends = omega (arith, ends.answer.outside.faults.more (omega (arith, room, reached-faults room, faults-few)), reached-faults room)
      go (Full need left) ends = ends.answer.outside.faults ∙ reached-faults room

  -- behind all lines stands the sync that stopped, where one did
  has-stop : (e : Ending) → EndsLines pools cache trace rs crew.feeder work e d.now after → HasStop work (lines_with_stop e work)
  has-stop Whole ends = inl (refl, ends.0)
  has-stop Fork ends = inl (refl, ends.0)
  has-stop Sync ends = inr refl
  has-stop (Full need left) ends = inr refl

  objects : AreAnsweredByCells cache.config (pools.size before) d.reached.told closed.cells work.lines
  objects = run-objects cache valid restored (pools.size before) (pools.told before) place trace.blocks os more rs work crew come closed h trace config d.reached.knows d.reached.told below-all (lines_with_stop ending work) (has-stop ending d.ended) d.reached.looked

  -- what its feeds leave of the cache device
  pub group-fed : LeavesFed devices trace.config restored done-work.feeds was is (histories_of closed)
  group-fed = left-explained dbuf_meanings devices cache valid trace config restored done-work rs (ends_in closed) (histories_of closed) explained was is crew.feeder d.reached.fed starts own
    where
      starts : (shard : ℕ) → shard < cache.config.shards → StartsWith (slice_index_or (histories_of closed) shard []) (seen_of cache.config shard crew.feeder)
      starts shard below =
          let l = there closed.shards shard (subst (λ (n : ℕ). shard < n) (sym h.ends.shards) below) in
          subst (λ (es : List Event). StartsWith es (seen_of cache.config shard crew.feeder)) (sym (index-history closed.shards shard l.0 l.1))
          (since cache valid restored (pools.size before) (pools.told before) place trace.blocks os more rs work crew come closed h shard l.0 l.1)

      own : (shard : ℕ) → shard < cache.config.shards → own_events cache.config.callers (seen_of cache.config shard crew.feeder) ≡ events_by_feeder cache.config restored trace.ops rs work.feeds shard
      own shard below =
          subst (λ (n : ℕ). own_events n (seen_of cache.config shard crew.feeder) ≡ events_by_feeder cache.config restored os rs work.feeds shard) come.feeder.number (come.feeder.fed shard below)
          ∙ (ap (λ (es : List Event). restores_in cache.config restored shard ++ es) (feeder-lines cache.config shard os more rs work.feeds (lines-long os rs work.lines come.did.lines))
          ∙ ap (λ (l : List Op). events_by_feeder cache.config restored l rs work.feeds shard) whole-ops)

  pub group-together : RanTogether pools devices before after (lent_in was) (lent_in is) trace ending restored rs done-work closed
  group-together = record {
    did = subst (λ (x : Config × List Op). IsRunWork x.0 x.1 rs done-work) (λ i. (config i, all-are ending d.ended i))
        (did-work cache valid restored (pools.size before) (pools.told before) place trace.blocks os more rs work crew come closed h);
    answers = subst (λ (l : List Op). AnswersAll (pools.size before) (pools.told before) trace.blocks l rs) (all-are ending d.ended)
        (run-answers cache valid restored (pools.size before) (pools.told before) place trace.blocks os more rs work crew come closed h below-all);
    place = place;
    first = d.reached.first;
    told = d.reached.told;
    told_front = d.reached.told_front;
    objects = subst (λ (g : Config). AreAnsweredByCells g (pools.size before) d.reached.told closed.cells work.lines) config objects;
    config = h.ends.config ∙ config;
    explained = explained;
    cells = cells-are;
    kept = kept-are;
    reads = after-reads;
    faults = after-faults;
    together = λ several rebuilt found. record {
      reached = d.now;
      groups = in-groups-as pools trace.config (StoodSo (openings_of trace) trace.config crew.feeder) (StoodThen trace closed.cells) stood d.reached.told [] (groups_done ending work.lines) (between_groups before 1 place) d.now
          (subst (λ (g : Config). WorkInGroups pools g (StoodSo (openings_of trace) g crew.feeder) d.reached.told [] (groups_done ending work.lines) (between_groups before 1 place) d.now) config (d.reached.groups (subst (λ (g : Config). 2 ≤ g.callers) (sym config) several)));
      ended = ends ending d.ended;
      counted = λ n below. counted-at n (subst (λ (g : Config). n < g.callers) (sym config) below);
      cut = λ shard below.
          let l = there closed.shards shard (subst (λ (n : ℕ). shard < n) (length-map closed.shards (λ (log : ShardLog). log.history)) below) in
          let here : slice_index_or (histories_of closed) shard [] ≡ l.0.history = index-history closed.shards shard l.0 l.1 in
          subst (λ (x : Config × List Event × List Restored). AreCut x.0 x.2 trace.blocks shard (explained.owner shard) done-work x.1) (λ i. (config i, sym here i, sym found i))
          (run-cut cache valid restored (pools.size before) (pools.told before) place trace.blocks os more rs work crew come closed h explained.owner explained-made.1 shard l.0 l.1);
      last = λ t stopped shard below.
          let l = there closed.shards shard (subst (λ (n : ℕ). shard < n) (length-map closed.shards (λ (log : ShardLog). log.history)) below) in
          let here : slice_index_or (histories_of closed) shard [] ≡ l.0.history = index-history closed.shards shard l.0 l.1 in
          let inside : shard < cache.config.shards = subst (λ (n : ℕ). shard < n) h.ends.shards (within closed.shards shard l.0 l.1) in
          subst (λ (x : Config × List Event × List Restored). IsCutLast x.0 x.2 trace.blocks shard (explained.owner shard) t done-work x.1) (λ i. (config i, sym here i, sym found i))
          (run-cut-last cache valid restored (pools.size before) (pools.told before) place trace.blocks os more rs work crew come closed h explained.owner explained-made.1 shard t l.0 l.1 (d.last t stopped shard inside (explained.owner shard)));
    };
    used = λ several. subst (λ (g : Config). UsedInGroups devices trace.blocks g.callers (groups_done ending work.lines) work.feeds (lent_in was) (lent_in is)) config (d.reached.used (subst (λ (g : Config). 2 ≤ g.callers) (sym config) several));
    stopped = stops ending d.ended;
  }
    where
      stood : (done : List Line) (tick : ℕ) (w : Work) (cells : List OnHeap) (xs : List SyncItem) → StoodSo (openings_of trace) trace.config crew.feeder done tick w cells xs → StoodThen trace closed.cells done tick w cells xs
      stood = stood-then trace (noted_by trace.config done-work) closed cells-are crew.feeder (feeder-begins cache valid restored (pools.size before) (pools.told before) place trace.blocks os more rs work crew come closed h)

      stops-as : (why : SyncFault) → StopsSync pools cache.config (StoodSo (openings_of trace) cache.config crew.feeder) trace rs work.lines work.stopped why d.now after
          → StopsSync pools trace.config (StoodThen trace closed.cells) trace rs work.lines work.stopped why d.now after
      stops-as why s = stops-sync-as pools trace.config (StoodSo (openings_of trace) trace.config crew.feeder) (StoodThen trace closed.cells) stood trace rs work.lines work.stopped why d.now after
          (subst (λ (g : Config). StopsSync pools g (StoodSo (openings_of trace) g crew.feeder) trace rs work.lines work.stopped why d.now after) config s)

      ends : (e : Ending) → EndsLines pools cache trace rs crew.feeder work e d.now after → EndsRun pools trace.config (StoodThen trace closed.cells) trace rs work.lines work.stopped e d.now after
      ends Whole ended = (ended.0, ended.2)
      ends Fork ended = (ended.0, subst (λ (g : Config). ForkFailed pools g.callers d.now.pool after) config ended.3)
      ends Sync ended = stops-as fault.PoolFault ended
      ends (Full need left) ended = stops-as (fault.PoolFull need left) ended

      stops : (e : Ending) → EndsLines pools cache trace rs crew.feeder work e d.now after → StopsSo pools before after trace rs e
      stops Whole ended = tt
      stops Fork ended = (rose-then (pools.faults before) (pools.faults d.now.pool) (pools.faults after) d.reached.counted.keeps.faults ended.3.rose, record { some = ended.1; begins = ended.2 })
      stops Sync ended = (rose-then (pools.faults before) (pools.faults d.now.pool) (pools.faults after) d.reached.counted.keeps.faults (one-rose (pools.faults d.now.pool) (pools.faults after) ended.answer.outside.faults), ended.behind)
      stops (Full need left) ended = ended.behind

  pub place-is : group-together.place ≡ place
  unfolding group-together
  place-is = refl

  -- and its owners
  pub owner-is : group-together.explained.owner ≡ explained.owner
  unfolding group-together
  owner-is = refl
