-- A closed cache whose parties have given all back is at rest.
use Rattle.std.proofs.Common.{◌≡◌, ℕ, suc, ◌+◌, ◌-◌, ◌<◌, ◌≤◌, ◌==◌, true, IsTrue, List, [], ◌∷◌, ◌++◌, map, Option, Some, refl, sym, ap, ◌∙◌, subst, inl, inr, arith}
use Rattle.std.specs.Prelude.{slice_index, sum}
use Rattle.std.specs.List.{AllByRecursion, list_all}
use Rattle.std.specs.Option.{option_map_or}
use Rattle.std.proofs.lemmas.Bool.{cases_lt, false≢true}
use Rattle.std.proofs.lemmas.Bool.Decides.{nat_tests}
use Rattle.std.proofs.lemmas.List.Sums.{sum_by-cons}
use mathlib.Core.Option.{some}
use lib.ListN.{get_elem?}
use Rattle.blk_ptr.specs.declared.key.Key.{Key}
use Rattle.blk_ptr.specs.declared.ptr.Ptr.{Ptr}
use Rattle.arc_lists.proofs.Standing.{both}
use Rattle.arc_lists.proofs.Tables.{All-item, cases_true}
use Rattle.arc_core.specs.Config.{IsConfig}
use Rattle.arc_core.specs.declared.config.Config.{Config}
use Rattle.arc_core.specs.declared.entry.Entry.{Entry}
use Rattle.arc_core.specs.declared.entry.Phase.{Phase}
use Rattle.arc_core.specs.declared.entry.Phase.TheVariants.{Idle, Picking, Writing}
use Rattle.arc_core.specs.declared.entry.Picked.{Picked}
use Rattle.arc_core.specs.Operations.{IsAtRest}
use Rattle.arc_core.specs.PlainShard.{PlainShard, count_of, entry_key, entry_of, held_by, is_at_rest, is_free}
use Rattle.arc_core.specs.Replay.{is_legal_history, replay}
use Rattle.arc_core.specs.Sound.{IsSound, IsSoundEntry, fits_phase}
use Rattle.arc_core.specs.Keeps.{holds_on}
use Rattle.arc_core.specs.ShardLog.{ShardLog}
use Rattle.turn_table.specs.Board.{free}
use Rattle.turn_table.specs.Places.{Place}
use Rattle.arc_table.specs.declared.item.Item.{Item}
use Rattle.arc_table.specs.declared.item.Item.TheVariants as item
use Rattle.arc_table.specs.declared.view.Known.{Known}
use Rattle.arc_table.specs.declared.view.Ledger.{Ledger}
use Rattle.arc_table.specs.Cache.{Cache}
use Rattle.arc_table.specs.pact.Counted.{readings_of, shard_at}
use Rattle.arc_table.specs.Ended.{Ended, Ends}
use Rattle.arc_table.specs.Fronts.{list_at}
use Rattle.arc_table.specs.Geometry.{IsCell, IsShard, cell_number, numbers_of, parties_of, shard_turn}
use Rattle.arc_table.specs.Items.{Meanings, shard_in}
use Rattle.arc_table.specs.pact.Logged.{IsSoundLog}
use Rattle.arc_table.specs.pact.Scene.{Scene}
use Rattle.arc_table.proofs.OpeningLaws.{opening_sound}
use Rattle.arc_table.specs.Telling.{opening_of}
use Rattle.trace_run.specs.KeptBlocks.{IsIdle}
use Rattle.arc_table.specs.Seen.{turn_of}
use Rattle.arc_table.specs.TableLaws.{get_front, within}
use Rattle.arc_table.proofs.TableLaws.{there}
use Rattle.trace_run.proofs.theorem.CloseLemmas.{get-map, value-at}
use Rattle.trace_run.proofs.DropLemmas.{all-items}
use Rattle.trace_run.proofs.theorem.HistoryLemmas.{IsReadEvent, IsUnfed, all-unfed, none-counted, none-picked}

-- ---- a shard of which no number holds anything

unheld : (hs : List ℕ) → ((n : ℕ) → slice_index hs n ≡ 0) → list_all (λ count. count == 0) hs ≡ true
unheld [] none = refl
unheld (h ∷ hs) none =
    let first : h ≡ 0 = none 0 in
    let test : (h == 0) ≡ true = grind (arith, nat_tests, first) in
    both (h == 0) (list_all (λ count. count == 0) hs) test (unheld hs (λ n. none (suc n)))

nothing-held : (hs : List ℕ) → ((n : ℕ) → slice_index hs n ≡ 0) → sum hs ≡ 0
nothing-held [] none = refl
nothing-held (h ∷ hs) none = let first : h ≡ 0 = none 0 in let rest = nothing-held hs (λ n. none (suc n)) in omega (arith, sum_by-cons (λ (n : ℕ). n) h hs)

unread : (e : Entry) → IsSoundEntry e → sum e.holds ≡ 0 → is_at_rest e ≡ true
unread e sound none = elim (cases_true (is_at_rest e)) [
  | inl rest ↦ rest
  | inr reads ↦ absurd (false≢true (rw (reads, none) at sound.reading))
]

idle-phase : (phase : Phase) (picked : List Picked) → picked ≡ [] → IsTrue (fits_phase phase picked) → phase ≡ Idle
idle-phase Idle picked none fits = refl
idle-phase Picking picked none fits = absurd (false≢true (rw none at fits))
idle-phase Writing picked none fits = absurd (false≢true (rw none at fits))

pub rests-where-none : (s : PlainShard) → IsSound s → s.picked ≡ [] → ((n : ℕ) (k : Key) (e : Entry) → entry_of k s ≡ Some e → held_by n e ≡ 0) → IsAtRest s
rests-where-none s sound none counts = record {
  free = all-items (λ e. IsTrue (is_free e)) s.entries sound.tidy.once (λ k e item.
      let held : (n : ℕ) → slice_index e.holds n ≡ 0 = λ n. counts n k e item in
      both _ _ (unheld e.holds held) (unread e (All-item entry_key IsSoundEntry k s.entries e sound.tidy.entries item) (nothing-held e.holds held)));
  idle = idle-phase s.phase s.picked none sound.feed;
}

-- ---- a closed cache

-- a shard at its start is sound
opening-sound : (g : Config) → IsConfig g → IsSound (opening_of g)
opening-sound g valid = opening_sound g.c g.mintime g.bounds valid.amounts.c

-- a shard of a closed cache
module _ {C : Type 0} (m : Meanings C) (cache : Cache) (ps : List (Place (Known C))) (e : Ended C) (ends : Ends m cache ps e) (i : ℕ) (l : ShardLog) (at : get_elem? e.shards i ≡ some l)
    (config : ends.pact.scene.about.config ≡ cache.config) (sound : IsSoundLog cache.config l) where
  abbrev g : Config
  g = cache.config

  abbrev scene : Scene C
  scene = ends.pact.scene

  shard-now : scene.now (turn_of g i) ≡ item.Shard l
  shard-now = (ends.pact.attached.free (turn_of g i) (item.Shard l) (get-map free _ (turn_of g i) (item.Shard l) (value-at m cache ps e ends i l at))).0

  -- the shard has entries of its own keys alone
  own-key : (k : Key) (x : Entry) → entry_of k l.now ≡ Some x → turn_of g i ≡ shard_turn g k
  own-key k x is = subst (λ (c : Config). turn_of g i ≡ shard_turn c k) config
      (ends.pact.headed.own_entries (turn_of g i) k x (ap (λ (v : Item C). entry_of k (shard_in scene.about.config v)) shard-now ∙ is))

  shard-of-key : (k : Key) → turn_of g i ≡ shard_turn g k → shard_at scene k ≡ l.now
  shard-of-key k own = ap (λ (c : Config). shard_in c (scene.now (shard_turn c k))) config ∙ (ap (λ (x : ℕ). shard_in g (scene.now x)) (sym own) ∙ ap (shard_in g) shard-now)

  -- a party that has given all back holds nothing there
  party-none : (n : ℕ) (k : Key) → turn_of g i ≡ shard_turn g k → n < parties_of g → (w : Known C) × (get_elem? ends.views n ≡ some w) × IsIdle w.ledger → count_of n k l.now ≡ 0
  party-none n k own few h =
      let idle : IsIdle (scene.ledger n) = subst IsIdle (ends.pact.attached.views n h.0 h.1).ledger h.2 in
      let below : n < parties_of scene.about.config = subst (λ (c : Config). n < parties_of c) (sym config) few in
      ap (count_of n k) (sym (shard-of-key k own)) ∙ (ends.pact.counted.parties n k below
      ∙ subst (λ (x : List Ptr × List Key). holds_on k x.0 + readings_of k x.1 ≡ 0) (λ q. (sym idle.holds q, sym idle.readings q)) refl)

  -- nor does a cell that keeps nothing
  cell-none : (j : ℕ) (k : Key) → turn_of g i ≡ shard_turn g k → IsCell g j → ((c : C) → get_elem? e.cells j ≡ some c → m.holds c ≡ []) → count_of (cell_number g j) k l.now ≡ 0
  cell-none j k own below emptied =
      let c = there e.cells j (subst (λ (x : ℕ). j < x) (sym ends.cells) below) in
      let values : List (Item C) = map item.Cell e.cells ++ (map item.Bucket ends.buckets ++ map item.Shard e.shards) in
      let here : get_elem? values j ≡ some (item.Cell c.0) = get_front (map item.Cell e.cells) (map item.Bucket ends.buckets ++ map item.Shard e.shards) j (item.Cell c.0) (get-map item.Cell e.cells j c.0 c.1) in
      let kept : scene.kept j ≡ [] = (ends.pact.attached.free j (item.Cell c.0) (get-map free values j (item.Cell c.0) here)).1 ∙ emptied c.0 c.1 in
      ap (count_of (cell_number g j) k) (sym (shard-of-key k own))
      ∙ (ap (λ (x : Config). count_of (cell_number x j) k (shard_at scene k)) (sym config)
      ∙ (ends.pact.counted.cells j k (subst (λ (x : Config). IsCell x j) (sym config) below) ∙ ap (holds_on k) kept))

  -- where no number of the cache holds anything, and nothing is picked
  rests-by-counts : ((n : ℕ) (k : Key) → turn_of g i ≡ shard_turn g k → n < numbers_of g → count_of n k l.now ≡ 0) → l.now.picked ≡ [] → IsAtRest l.now
  rests-by-counts counts picked = rests-where-none l.now sound.replayed.sound picked
      (λ n k x is. ap (λ (o : Option Entry). option_map_or (held_by n) o 0) (sym is) ∙ no-count n k (own-key k x is))
    where
      no-count : (n : ℕ) (k : Key) → turn_of g i ≡ shard_turn g k → count_of n k l.now ≡ 0
      no-count n k own = elim (cases_lt n (numbers_of g)) [
        | inl below ↦ counts n k own below
        | inr none ↦
            let beyond : numbers_of scene.about.config ≤ n = subst (λ (c : Config). numbers_of c ≤ n) (sym config) none in
            ap (count_of n k) (sym (shard-of-key k own)) ∙ ends.pact.counted.others n k beyond
      ]

  -- Each party has given all back, each cell keeps nothing, and nothing is picked.
  pub closed-rests : ((n : ℕ) → n < parties_of g → (w : Known C) × (get_elem? ends.views n ≡ some w) × IsIdle w.ledger) → ((j : ℕ) (c : C) → get_elem? e.cells j ≡ some c → m.holds c ≡ [])
      → l.now.picked ≡ [] → IsAtRest l.now
  closed-rests idle emptied picked = rests-by-counts counts picked
    where
      counts : (n : ℕ) (k : Key) → turn_of g i ≡ shard_turn g k → n < numbers_of g → count_of n k l.now ≡ 0
      counts n k own below = elim (cases_lt n (parties_of g)) [
        | inl party ↦ party-none n k own party (idle n party)
        | inr above ↦
            let j : ℕ = n - parties_of g in
            let is : cell_number g j ≡ n = omega (arith, above) in
            let inside : IsCell g j = omega (arith, above, below) in
            subst (λ (x : ℕ). count_of x k l.now ≡ 0) is (cell-none j k own inside (emptied j))
      ]

  replay-is : replay (opening_of g) l.history ≡ l.now
  replay-is = ap (λ (s : PlainShard). replay s l.history) (sym sound.opening) ∙ sound.replayed.replayed

  -- the feeder has settled all that it picked there
  pub settled-picked : (w : Known C) → get_elem? ends.views g.callers ≡ some w → list_at (turn_of g i) w.ledger.picked ≡ [] → l.now.picked ≡ []
  settled-picked w shown settled =
      let inside : i < g.shards = subst (λ (n : ℕ). i < n) ends.shards (within e.shards i l at) in
      let is_shard : IsShard g (turn_of g i) = (omega arith, omega (arith, inside)) in
      ap (λ (v : Item C). (shard_in g v).picked) (sym shard-now)
      ∙ (subst (λ (c : Config). (shard_in c (scene.now (turn_of g i))).picked ≡ list_at (turn_of g i) (scene.ledger c.callers).picked) config (ends.pact.counted.picked (turn_of g i) (subst (λ (c : Config). IsShard c (turn_of g i)) (sym config) is_shard))
      ∙ (ap (λ (x : Ledger). list_at (turn_of g i) x.picked) (sym (ends.pact.attached.views g.callers w shown).ledger) ∙ settled))

  -- the feeder made no pick
  pub unfed-picked : AllByRecursion IsUnfed l.history → l.now.picked ≡ []
  unfed-picked unfed = ap (λ (s : PlainShard). s.picked) (sym replay-is) ∙ none-picked (opening_of g) l.history unfed refl

  -- Each caller has given all back, and the history is one of reads and passes, so no other number held anything.
  pub reads-rest : IsConfig g → ((n : ℕ) → n < g.callers → (w : Known C) × (get_elem? ends.views n ≡ some w) × IsIdle w.ledger) → AllByRecursion (IsReadEvent g.callers) l.history → IsAtRest l.now
  reads-rest valid idle reads = rests-by-counts counts (unfed-picked (all-unfed g.callers l.history reads))
    where
      lawful : IsTrue (is_legal_history (opening_of g) l.history)
      lawful = subst (λ (s : PlainShard). IsTrue (is_legal_history s l.history)) sound.opening sound.replayed.legal

      counts : (n : ℕ) (k : Key) → turn_of g i ≡ shard_turn g k → n < numbers_of g → count_of n k l.now ≡ 0
      counts n k own below = elim (cases_lt n g.callers) [
        | inl caller ↦ party-none n k own (omega (arith, caller)) (idle n caller)
        | inr above ↦
            let few : n < 33 = let a = valid.counts.callers.1 in let b = valid.counts.cells.1 in omega arith in
            subst (λ (s : PlainShard). count_of n k s ≡ 0) replay-is (none-counted g.callers n k (opening_of g) l.history above few (opening-sound g valid) lawful reads refl)
      ]
