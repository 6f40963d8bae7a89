-- One caller's run is closed: behind what its lines did to the shards and to the cells stand the drops of what was still kept, and the cells' ends. That is all.
use Rattle.std.proofs.Common.{◌≡◌, ℕ, zero, suc, ◌+◌, ◌<◌, ◌≤◌, List, [], ◌∷◌, ◌++◌, length, map, Option, Some, append-nil, refl, sym, ap, ◌∙◌, subst, length-append, arith}
use Rattle.std.specs.Prelude.{slice_get}
use Rattle.std.specs.List.{AllByRecursion, range_with_len}
use mathlib.Core.Option.{some}
use lib.ListN.{get_elem?}
use Rattle.blk_ptr.specs.declared.ptr.Ptr.{Ptr}
use Rattle.arc_core.specs.Config.{IsConfig}
use Rattle.arc_core.specs.declared.config.Config.{Config}
use Rattle.arc_core.specs.declared.event.Event.{Event}
use Rattle.arc_core.specs.declared.served.Restored.{Restored}
use Rattle.arc_core.specs.ShardLog.{ShardLog}
use Rattle.arc_table.specs.Cache.{Cache}
use Rattle.arc_table.specs.Ended.{Ended}
use Rattle.arc_table.specs.Fronts.{front_of}
use Rattle.arc_table.specs.Geometry.{IsCell}
use Rattle.arc_table.specs.declared.view.Line.{Line as Seen}
use Rattle.dbuf_cells.specs.Turns.{OnHeap, dbuf_meanings}
use Rattle.dbuf_state.specs.Numbers.{opening_numbers}
use Rattle.dbuf_state.specs.Outline.{outline_after}
use Rattle.dbuf_state.specs.declared.event.CellEvent.{CellEvent}
use Rattle.dbuf_state.specs.declared.event.CellEvent.TheVariants.{End}
use Rattle.dbuf_state.specs.declared.state.Mapping.{Mapping}
use Rattle.trace_text.specs.declared.op.Op.{Op}
use Rattle.trace_text.specs.declared.reply.Reply.{Reply}
use Rattle.trace_text.specs.declared.trace.Trace.{Trace}
use Rattle.trace_run.specs.declared.groups.Crew.{Crew}
use Rattle.trace_run.specs.declared.kept_blocks.KeptBlock.{KeptBlock}
use Rattle.trace_run.specs.dbufs.CellEnds.{DropsKept, SeesEnd, SeesEnds, end_entry}
use Rattle.trace_run.specs.dbufs.Holders.{AreHolders}
use Rattle.trace_run.specs.Deeds.{events_there}
use Rattle.trace_run.specs.KeptBlocks.{held_in_shard, read_of}
use Rattle.trace_run.specs.KeptReads.{KeptRead}
use Rattle.trace_run.specs.Meeting.{drops_from}
use Rattle.trace_run.specs.Openings.{Knows, opening_map, openings_of}
use Rattle.trace_run.specs.RunWork.{RunWork}
use Rattle.trace_run.specs.Syncing.{lines_of}
use Rattle.trace_run.specs.callers.GroupRun.{HaveClosed}
use Rattle.trace_run.specs.callers.Groups.{HaveCome}
use Rattle.trace_run.specs.one_caller.Alone.{histories_of}
use Rattle.trace_run.specs.one_caller.InTurn.{StandAt}
use Rattle.trace_run.specs.one_caller.OneCaller.{events_of_drops}
use Rattle.trace_run.specs.one_caller.Sequence.{BetweenLines, ClosesThere, GivesAllKept, outline_behind}
use Rattle.trace_run.proofs.BeginLemmas.{counted-off}
use Rattle.trace_run.proofs.CellLemmas.{get-of, opening-at, opening-same}
use Rattle.trace_run.proofs.deeds.ClosedDeeds.{entries-read}
use Rattle.trace_run.proofs.theorem.AnsweredCells.{entries-two}
use Rattle.trace_run.proofs.theorem.RunEnds.{run-entries, run-gives, run-last, run-shards}

-- one caller drops what it keeps
one-drops : (g : Config) (shard : ℕ) (kept : List KeptRead) (all : List (List KeptBlock)) → length all ≡ 1 → AllByRecursion (λ reads. map read_of reads ≡ kept) all → drops_from g shard 0 all ≡ events_of_drops 0 (held_in_shard g shard kept)
one-drops g shard kept [] one are = absurd (omega (arith, one))
one-drops g shard kept (k ∷ []) one are = append-nil (events_of_drops 0 (held_in_shard g shard (map read_of k))) ∙ ap (λ (reads : List KeptRead). events_of_drops 0 (held_in_shard g shard reads)) are.0
one-drops g shard kept (k ∷ j ∷ ks) one are = absurd (omega (arith, one))

-- two lists that go on with one item are the same
snoc-same : {X : Type 0} (x : X) (xs ys : List X) → xs ++ x ∷ [] ≡ ys ++ x ∷ [] → xs ≡ ys
snoc-same x [] [] same = refl
snoc-same {X} x [] (y ∷ ys) same = absurd (let long : length (x ∷ []) ≡ length (y ∷ (ys ++ x ∷ [])) = ap (λ (l : List X). length l) same in let more = length-append ys (x ∷ []) in omega (arith, long, more))
snoc-same {X} x (z ∷ xs) [] same = absurd (let long : length (z ∷ (xs ++ x ∷ [])) ≡ length (x ∷ []) = ap (λ (l : List X). length l) same in let more = length-append xs (x ∷ []) in omega (arith, long, more))
snoc-same {X} x (z ∷ xs) (y ∷ ys) same =
    let both : ◌≡◌ {A = List X} (z ∷ (xs ++ x ∷ [])) (y ∷ (ys ++ x ∷ [])) = same in
    let first : z ≡ y = cc in
    let rest : xs ++ x ∷ [] ≡ ys ++ x ∷ [] = cc in
    let more = snoc-same x xs ys rest in
    (λ i. first i ∷ more i)

-- what is seen of the ends of cells, by what the lines did to them
module _ (trace : Trace) (seen : List (List Seen)) (cells : ℕ → List CellEvent) (last : (i : ℕ) → IsCell trace.config i → front_of i seen ≡ lines_of (cells i) ++ end_entry trace.config.callers i) where
  abbrev n : ℕ
  n = trace.config.callers

  gives-one : (i : ℕ) → IsCell trace.config i → (drops : List Event) → SeesEnd trace.config (openings_of trace) seen n i drops → DropsKept trace.config i (outline_behind trace cells i) (AreHolders (cells i)) drops
  gives-one i range drops e =
      let h : List CellEvent = e.before.value.history in
      let both : h ++ End n ∷ [] ≡ cells i ++ End n ∷ [] = entries-read (h ++ End n ∷ []) (cells i ++ End n ∷ []) (entries-two h (End n ∷ []) ∙ (sym e.last ∙ (last i range ∙ sym (entries-two (cells i) (End n ∷ []))))) in
      let history : h ≡ cells i = snoc-same (End n) h (cells i) both in
      let began = opening-same e.before.value.limit trace.config.dbuf_bytes e.before.value.opening (opening_map trace i)
      (e.opening ∙ (opening-at (λ k. opening_numbers trace.config.dbuf_bytes (opening_map trace k)) 0 trace.config.cells i range ∙ ap (λ k. opening_numbers trace.config.dbuf_bytes (opening_map trace k)) (let z : 0 + i ≡ i = omega arith in z))) in
      subst (λ (x : ℕ × List Mapping × List CellEvent). DropsKept trace.config i (outline_after x.0 x.1 x.2) (AreHolders x.2) drops) (λ z. (began.0 z, began.1 z, history z)) e.kept

  gives-from : (i count : ℕ) → i + count ≤ trace.config.cells → (es : List Event) → SeesEnds trace.config (openings_of trace) seen n i count es → GivesAllKept trace cells i count es
  gives-from i zero inside es ends = ends
  gives-from i (suc count) inside es ends = (ends.0, ends.1, ends.2, gives-one i (omega (arith, inside)) ends.0 ends.3, gives-from (suc i) count (omega (arith, inside)) ends.1 ends.4)

module _ {P D : Type 0} (cache : Cache) (valid : IsConfig cache.config) (restored : List Restored) (len : ℕ) (image : Option (List ℕ)) (place : ℕ) (blocks : List Ptr) (os more : List Op) (rs : List Reply) (work : RunWork) (crew : Crew OnHeap)
    (come : HaveCome cache restored len image place blocks os rs work crew) (closed : Ended OnHeap) (h : HaveClosed dbuf_meanings cache crew closed)
    (trace : Trace) (config : cache.config ≡ trace.config) (one : cache.config.callers ≡ 1) (knows : Knows (openings_of trace) crew.feeder) (at : BetweenLines P D) (stands : StandAt cache.config at crew) where
  abbrev g : Config
  g = cache.config

  abbrev closed-so : Config → (shard : ℕ) → List Event
  closed-so c shard = (at.shards shard ++ events_of_drops 0 (held_in_shard c shard at.kept)) ++ events_there c shard h.ended.ended.drops

  shard-is : (i : ℕ) (l : ShardLog) → get_elem? closed.shards i ≡ some l → l.history ≡ closed-so g i
  shard-is i l there = run-shards cache valid restored len image place blocks os more rs work crew come closed h stands.lines stands.level.0 stands.level.1 i l there
      ∙ (λ k. (stands.events i k ++ one-drops g i at.kept crew.kept.items (come.kepts ∙ one) stands.kept k) ++ events_there g i h.ended.ended.drops)

  shards-are : histories_of closed ≡ map (closed-so trace.config) (range_with_len 0 trace.config.shards)
  shards-are = counted-off (λ (log : ShardLog). log.history) (closed-so g) closed.shards 0 (λ i l there. shard-is i l there ∙ ap (closed-so g) (let z : i ≡ 0 + i = omega arith in z))
      ∙ (ap (λ (n : ℕ). map (closed-so g) (range_with_len 0 n)) h.ends.shards ∙ ap (λ (c : Config). map (closed-so c) (range_with_len 0 c.shards)) config)

  cell-is : (i : ℕ) (cell : OnHeap) → slice_get closed.cells i ≡ Some cell → cell.value.history ≡ at.cells i ++ End trace.config.callers ∷ []
  cell-is i cell there = entries-read cell.value.history (at.cells i ++ End trace.config.callers ∷ [])
      (run-entries cache valid restored len image place blocks os more rs work crew come closed h trace config knows (λ k. lines_of (at.cells k)) stands.entries.0 stands.entries.1 i cell (get-of closed.cells i cell there)
      ∙ (ap (λ (c : Config). lines_of (at.cells i) ++ end_entry c.callers i) config ∙ sym (entries-two (at.cells i) (End trace.config.callers ∷ []))))

  gives-are : GivesAllKept trace at.cells 0 trace.config.cells h.ended.ended.drops
  gives-are =
      let last : (i : ℕ) → IsCell trace.config i → front_of i h.ended.last.own.seen ≡ lines_of (at.cells i) ++ end_entry trace.config.callers i = λ i range.
      run-last cache valid restored len image place blocks os more rs work crew come closed h trace config knows (λ k. lines_of (at.cells k)) stands.entries.0 stands.entries.1 i (subst (λ (c : Config). i < c.cells) (sym config) range)
      ∙ ap (λ (c : Config). lines_of (at.cells i) ++ end_entry c.callers i) config in
      gives-from trace h.ended.last.own.seen at.cells last 0 trace.config.cells (omega arith) h.ended.ended.drops
      (subst (λ (c : Config). SeesEnds c (openings_of trace) h.ended.last.own.seen c.callers 0 c.cells h.ended.ended.drops) config
      (run-gives cache valid restored len image place blocks os more rs work crew come closed h trace config knows))

  pub closes-there : ClosesThere trace at h.ended.ended.drops closed.cells (histories_of closed)
  closes-there = record { shards = shards-are; gives = gives-are; cells = cell-is }
