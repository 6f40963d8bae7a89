-- Who reads a key that a read waits for: another party than the one that waits, and none that it keeps by a join, where these list no reading. So a party that
-- has every number, and lists no reading under any, never waits.
use Rattle.std.proofs.Common.{◌≡◌, ◌≢◌, ◌==◌, cond, ℕ, zero, suc, ◌+◌, ◌-◌, ◌<◌, ◌≤◌, List, [], ◌∷◌, Bool, true, false, Option, Some, refl, sym, ap, ◌∙◌, subst, ⊎_elim, arith}
use Rattle.std.specs.Prelude.{IsTrue, nat_lt, not}
use Rattle.std.proofs.lemmas.Bool.Decides.{nat_tests}
use mathlib.Core.Option.{some}
use lib.ListN.{get_elem?}
use Rattle.blk_ptr.specs.declared.key.Key.{Key}
use Rattle.blk_ptr.specs.declared.ptr.Ptr.{Ptr}
use Rattle.blk_ptr.specs.Order.{key_eq}
use Rattle.blk_ptr.proofs.Keys.{key_eq-is}
use Rattle.arc_core.specs.declared.config.Config.{Config}
use Rattle.arc_core.specs.Config.{IsConfig}
use Rattle.arc_core.specs.declared.entry.Entry.{Entry}
use Rattle.arc_core.specs.Keeps.{holds_on}
use Rattle.arc_core.specs.PlainShard.{count_of, entry_is, entry_of, held_by}
use Rattle.arc_core.specs.ShardLog.{ShardLog}
use Rattle.arc_core.specs.Step.{reads}
use Rattle.hash_chain.specs.Chain.{Chain}
use Rattle.turn_table.specs.Places.{AllShow, IsIn, Place}
use Rattle.turn_table.specs.declared.standing.Kept.{Kept}
use Rattle.arc_table.specs.declared.view.Known.{Known}
use Rattle.arc_table.specs.declared.view.Ledger.{Ledger}
use Rattle.arc_table.specs.pact.Attached.{IsShown}
use Rattle.arc_table.specs.Both.{TakesBoth}
use Rattle.arc_table.specs.pact.Counted.{Rests, readings_of, shard_at}
use Rattle.arc_table.specs.Geometry.{IsCell, cell_number, numbers_of, parties_of, shard_turn}
use Rattle.arc_table.specs.Items.{Meanings, shard_in}
use Rattle.arc_table.specs.Reading.{FindsReading, Waits}
use Rattle.arc_table.specs.pact.Scene.{Scene}
use Rattle.arc_table.specs.TableLaws.{within}
use Rattle.arc_table.specs.pact.Waiting.{HasAllIdle, NoneReads}
use Rattle.arc_table.proofs.Bookings.{holds_cons}
use Rattle.arc_table.proofs.reads.HitEvents.{passing}
use Rattle.arc_table.proofs.Reached.{before_shard, counted_there, knew, moment, reached, scene, scene_config, second, shard_is}
use Rattle.arc_table.proofs.Standings.{both_true}

some_is : {X : Type 0} (x y : X) → ◌≡◌ {A = Option X} (Some x) (Some y) → x ≡ y
some_is x y e = cc

-- where some hold is of the key, one is
one_of : (k : Key) (hs : List Ptr) → 0 < holds_on k hs → (j : ℕ) × (h : Ptr) × (get_elem? hs j ≡ some h) × (k ≡ h.key)
one_of k [] some_hold = absurd (let e : holds_on k [] ≡ 0 = refl in omega arith)
one_of k (x ∷ hs) some_hold = by_test (one_of k hs) (key_eq k x.key) refl
  where
    by_test : (0 < holds_on k hs → (j : ℕ) × (h : Ptr) × (get_elem? hs j ≡ some h) × (k ≡ h.key)) → (b : Bool) → key_eq k x.key ≡ b → (j : ℕ) × (h : Ptr) × (get_elem? (x ∷ hs) j ≡ some h) × (k ≡ h.key)
    by_test ih true here = (0, x, refl, key_eq-is k x.key here)
    by_test ih false far =
        let sum = holds_cons k x hs in
        let none : cond {A = ℕ} (key_eq k x.key) 1 0 ≡ 0 = ap (λ (b : Bool). cond {A = ℕ} b 1 0) far in
        let h = ih (omega arith) in (suc h.0, h.1, h.2, h.3)

not_zero : (x : ℕ) → not (x == 0) ≡ true → 0 < x
not_zero zero h = absurd (cc)
not_zero (suc x) h = omega arith

is_less : (x y : ℕ) → nat_lt x y ≡ true → x < y
is_less x y h = grind (arith, nat_tests)

is_not_less : (x y : ℕ) → nat_lt x y ≡ false → y ≤ x
is_not_less x y h = grind (arith, nat_tests)

module _ {C : Type 0} (m : Meanings C) (g : Config) (k : Key) (chain : Chain) (before : ShardLog) (p q : Place (Known C)) (t : TakesBoth m g k chain before p q) (same : p.own.about.config ≡ g) (valid : IsConfig g) where
  abbrev now : Scene C
  now = scene m g k chain before p q t same valid

  shard_same : shard_at now k ≡ before.now
  shard_same = ap (λ (c : Config). shard_in c (now.now (shard_turn c k))) (scene_config m g k chain before p q t same valid) ∙ ap (shard_in g) (shard_is m g k chain before p q t same valid)

  -- a party that lists no reading reads nothing
  reads_none : (n : ℕ) (w : Known C) → get_elem? (moment m g k chain before p q t).board.views n ≡ some w → w.ledger.readings ≡ [] → IsTrue (entry_is (reads n) k before.now) → ⊥
  reads_none n w knows none reading =
      let held = (moment m g k chain before p q t).held in
      let shown : IsShown now n w = held.attached.views n w knows in
      let e = passing (reads n) k before.now reading in
      let two = both_true e.entry.reading (not (held_by n e.entry == 0)) e.passes in
      let below : n < parties_of now.about.config = subst (λ (x : ℕ). n < x) held.attached.parties (within (moment m g k chain before p q t).board.views n w knows) in
      let count : count_of n k before.now ≡ holds_on k (now.ledger n).holds + readings_of k (now.ledger n).readings = ap (count_of n k) (sym shard_same) ∙ held.counted.parties n k below in
      let there : count_of n k before.now ≡ held_by n e.entry = counted_there n k before.now e.entry e.there in
      let no_reading : readings_of k (now.ledger n).readings ≡ 0 = ap (λ (l : Ledger). readings_of k l.readings) (sym shown.ledger) ∙ ap (readings_of k) none in
      let positive : 0 < held_by n e.entry = not_zero (held_by n e.entry) two.1 in
      let one = one_of k (now.ledger n).holds (omega arith) in
      let rests : Rests (shard_at now one.1.key) one.1 = held.counted.holds n one.0 one.1 below one.2 in
      let same_entry : e.entry ≡ rests.entry = some_is e.entry rests.entry (sym e.there ∙ (ap (entry_of k) (sym shard_same) ∙ ((λ z. entry_of (one.3 z) (shard_at now (one.3 z))) ∙ rests.there))) in
      let f : true ≡ false = sym two.0 ∙ (ap (λ (x : Entry). x.reading) same_entry ∙ rests.rest) in
      cc

  -- what reads the key counts on its entry
  counts : (n : ℕ) → IsTrue (entry_is (reads n) k before.now) → 0 < count_of n k (shard_at now k)
  counts n reading =
      let e = passing (reads n) k before.now reading in
      let two = both_true e.entry.reading (not (held_by n e.entry == 0)) e.passes in
      let there : count_of n k before.now ≡ held_by n e.entry = counted_there n k before.now e.entry e.there in
      let here : count_of n k (shard_at now k) ≡ count_of n k before.now = ap (count_of n k) shard_same in
      let positive : 0 < held_by n e.entry = not_zero (held_by n e.entry) two.1 in
      omega arith

  -- no hold on the key rests then
  no_rest : (n : ℕ) → IsTrue (entry_is (reads n) k before.now) → (h : Ptr) → k ≡ h.key → Rests (shard_at now h.key) h → ⊥
  no_rest n reading h is rests =
      let e = passing (reads n) k before.now reading in
      let two = both_true e.entry.reading (not (held_by n e.entry == 0)) e.passes in
      let same_entry : e.entry ≡ rests.entry = some_is e.entry rests.entry (sym e.there ∙ (ap (entry_of k) (sym shard_same) ∙ ((λ z. entry_of (is z) (shard_at now (is z))) ∙ rests.there))) in
      let f : true ≡ false = sym two.0 ∙ (ap (λ (x : Entry). x.reading) same_entry ∙ rests.rest) in
      cc

  -- a cell reads nothing: what it keeps is at rest
  no_cell : (i : ℕ) → IsCell now.about.config i → IsTrue (entry_is (reads (cell_number now.about.config i)) k before.now) → ⊥
  no_cell i in_range reading =
      let held = (moment m g k chain before p q t).held in
      let some_count : 0 < count_of (cell_number now.about.config i) k (shard_at now k) = counts (cell_number now.about.config i) reading in
      let is : count_of (cell_number now.about.config i) k (shard_at now k) ≡ holds_on k (now.kept i) = held.counted.cells i k in_range in
      let one = one_of k (now.kept i) (omega arith) in
      no_rest (cell_number now.about.config i) reading one.1 one.3 (held.counted.kept i one.0 one.1 in_range one.2)

  -- who reads the key is a party
  is_party : (n : ℕ) → IsTrue (entry_is (reads n) k before.now) → n < parties_of now.about.config
  is_party n reading = by_party (nat_lt n (parties_of now.about.config)) refl
    where
      by_cell : (b : Bool) → nat_lt n (numbers_of now.about.config) ≡ b → parties_of now.about.config ≤ n → ⊥
      by_cell true below above =
          let i : ℕ = n - parties_of now.about.config in
          let less : n < numbers_of now.about.config = is_less n (numbers_of now.about.config) below in
          let e : cell_number now.about.config i ≡ n = omega arith in
          let in_range : IsCell now.about.config i = omega arith in
          no_cell i in_range (subst (λ (x : ℕ). IsTrue (entry_is (reads x) k before.now)) (sym e) reading)
      by_cell false beyond above =
          let none : count_of n k (shard_at now k) ≡ 0 = (moment m g k chain before p q t).held.counted.others n k (is_not_less n (numbers_of now.about.config) beyond) in
          let some_count : 0 < count_of n k (shard_at now k) = counts n reading in
          omega arith

      by_party : (b : Bool) → nat_lt n (parties_of now.about.config) ≡ b → n < parties_of now.about.config
      by_party true below = is_less n (parties_of now.about.config) below
      by_party false above = absurd (by_cell (nat_lt n (numbers_of now.about.config)) refl (is_not_less n (parties_of now.about.config) above))

  pub is_party_of : (n : ℕ) → IsTrue (entry_is (reads n) k before.now) → n < parties_of g
  is_party_of n reading = subst (λ (c : Config). n < parties_of c) (scene_config m g k chain before p q t same valid) (is_party n reading)

  before_ledger : (before_shard m g k chain before p q t).own.ledger ≡ p.own.ledger
  before_ledger = (knew m g k chain before p q t).ledger ∙ (Rattle.arc_table.proofs.Reached.took_is m (Rattle.arc_table.specs.Geometry.bucket_turn g k) (Rattle.arc_table.specs.declared.item.Item.TheVariants.Bucket chain) p t.between t.bucket).ledger

  -- the party itself reads nothing
  pub not_own : p.own.ledger.readings ≡ [] → IsTrue (entry_is (reads p.number) k before.now) → ⊥
  not_own none reading =
      let first = Rattle.arc_table.proofs.Reached.took_is m (Rattle.arc_table.specs.Geometry.bucket_turn g k) (Rattle.arc_table.specs.declared.item.Item.TheVariants.Bucket chain) p t.between t.bucket in
      reads_none t.between.number (before_shard m g k chain before p q t).own (moment m g k chain before p q t).stands.shows.0
      (ap (λ (l : Ledger). l.readings) before_ledger ∙ none) (subst (λ (n : ℕ). IsTrue (entry_is (reads n) k before.now)) (sym first.number) reading)

  all_none : (n : ℕ) (ks : List (Kept (Known C))) → AllShow (moment m g k chain before p q t).board.views ks → (j : ℕ) (x : Kept (Known C)) → get_elem? ks j ≡ some x → x.view.ledger.readings ≡ [] → IsTrue (entry_is (reads x.number) k before.now) → ⊥
  all_none n [] all j x is none reading = absurd (mathlib.Core.Option.some-ne-none x (sym is))
  all_none n (y ∷ ks) all zero x is none reading =
      let same_kept = mathlib.Core.Option.some-injective y x is in
      reads_none x.number x.view (subst (λ (z : Kept (Known C)). get_elem? (moment m g k chain before p q t).board.views z.number ≡ some z.view) same_kept all.0) none reading
  all_none n (y ∷ ks) all (suc j) x is none reading = all_none n ks all.1 j x is none reading

  -- nor does a party that it keeps by a join
  pub not_joined : (j : ℕ) (x : Kept (Known C)) → get_elem? p.joined j ≡ some x → x.view.ledger.readings ≡ [] → IsTrue (entry_is (reads x.number) k before.now) → ⊥
  not_joined j x is none reading =
      let first = Rattle.arc_table.proofs.Reached.took_is m (Rattle.arc_table.specs.Geometry.bucket_turn g k) (Rattle.arc_table.specs.declared.item.Item.TheVariants.Bucket chain) p t.between t.bucket in
      all_none 0 t.between.joined (moment m g k chain before p q t).stands.shows.1 j x (subst (λ (l : List (Kept (Known C))). get_elem? l j ≡ some x) (sym first.joined) is) none reading

module _ {C : Type 0} where
  -- the party of a number among those that another keeps, none of which lists a reading
  among_joined : (n : ℕ) (ks : List (Kept (Known C))) → IsIn n ks → NoneReads ks → (j : ℕ) × (x : Kept (Known C)) × (get_elem? ks j ≡ some x) × (x.number ≡ n) × (x.view.ledger.readings ≡ [])
  among_joined n [] is none = absurd is
  among_joined n (y ∷ ks) is none = ⊎_elim (λ e. (0, y, refl, e, none.0)) (λ further. let r = among_joined n ks further none.1 in (suc r.0, r.1, r.2, r.3, r.4)) is

module _ {C : Type 0} (m : Meanings C) (g : Config) (valid : IsConfig g) (k : Key) (p q : Place (Known C)) (same : p.own.about.config ≡ g) (f : FindsReading m g k p q) where
  -- a party that lists no reading waits for another number
  pub waits_for_other : p.own.ledger.readings ≡ [] → f.owner ≢ p.number
  waits_for_other none is = not_own m g k f.does.chain f.does.before p f.does.reached f.does.takes same valid none (subst (λ (n : ℕ). IsTrue (entry_is (reads n) k f.does.before.now)) is f.reading)

  -- and for none of a party that it keeps by a join, and that lists none
  pub waits_for_no_joined : (j : ℕ) (x : Kept (Known C)) → get_elem? p.joined j ≡ some x → x.view.ledger.readings ≡ [] → f.owner ≢ x.number
  waits_for_no_joined j x at none is = not_joined m g k f.does.chain f.does.before p f.does.reached f.does.takes same valid j x at none (subst (λ (n : ℕ). IsTrue (entry_is (reads n) k f.does.before.now)) is f.reading)

  -- it waits for a party, so not where it has every number
  pub never_waits : HasAllIdle g p → ⊥
  never_waits none = ⊎_elim
      (λ own. waits_for_other none.own (sym own))
      (λ further. let r = among_joined f.owner p.joined further none.joined in waits_for_no_joined r.0 r.1 r.2 r.4 (sym r.3))
      (none.all f.owner (is_party_of m g k f.does.chain f.does.before p f.does.reached f.does.takes same valid f.owner f.reading))

module _ {C : Type 0} (m : Meanings C) (g : Config) (valid : IsConfig g) (k : Key) (p : Place (Known C)) (same : p.own.about.config ≡ g) (none : HasAllIdle g p) where
  no_wait : (times : ℕ) (r : Place (Known C)) → Waits m g k (suc times) p r → ⊥
  no_wait zero r w = never_waits m g valid k p r same (subst (λ (x : Place (Known C)). FindsReading m g k x r) w.1 w.2) none
  no_wait (suc times) r w = no_wait times w.0 w.1

  -- so it is as it was when it has its answer
  pub waits_not : (times : ℕ) (r : Place (Known C)) → Waits m g k times p r → r ≡ p
  waits_not zero r w = w
  waits_not (suc times) r w = absurd (no_wait times r w)
