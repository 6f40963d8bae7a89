-- A party that has every number, and brings nothing of a cell, finds no block there being brought: so it doesn't wait.
use mathlib.Core.Option.{some}
use lib.ListN.{get_elem?}
use Rattle.std.proofs.Common.{◌≡◌, ◌≢◌, ℕ, zero, suc, ◌<◌, ◌≤◌, Bool, true, false, nat_lt, if◌then◌else◌, List, [], ◌∷◌, ◌++◌, Option, Some, None, refl, sym, ap, ◌∙◌, subst, inl, inr, arith, eq-eqb}
use Rattle.std.proofs.lemmas.Bool.Decides.{nat_tests}
use Rattle.blk_ptr.specs.declared.ptr.Ptr.{Ptr}
use Rattle.arc_core.specs.Config.{IsConfig}
use Rattle.turn_table.specs.Places.{HasNumber, IsIn}
use Rattle.turn_table.specs.declared.standing.Kept.{Kept as Joined}
use Rattle.arc_table.specs.Both.{Takes}
use Rattle.arc_table.specs.Cache.{Cache, IsPartyOf}
use Rattle.arc_table.specs.Cells.{IsTakenCell}
use Rattle.arc_table.specs.Fronts.{list_at}
use Rattle.arc_table.specs.Geometry.{IsCell, parties_of}
use Rattle.arc_table.specs.declared.item.Item.TheVariants as item
use Rattle.arc_table.specs.declared.view.Known.{Known}
use Rattle.arc_table.specs.declared.view.Ledger.{Ledger}
use Rattle.arc_table.proofs.cell_lemmas.CellsInHand.{taken-cell}
use Rattle.arc_table.proofs.Reached.{Took, took_is}
use Rattle.dbuf_state.specs.Dbufs.{DbufHas, dbuf_at}
use Rattle.dbuf_state.specs.Numbers.{claim_in, claims_in, mapping_numbers}
use Rattle.dbuf_state.specs.declared.dbuf.Content.{Content}
use Rattle.dbuf_state.specs.declared.dbuf.Content.TheVariants as content
use Rattle.dbuf_state.specs.declared.dbuf.Dbuf.{Dbuf}
use Rattle.dbuf_state.specs.declared.oid.Oid.{Oid}
use Rattle.dbuf_state.specs.declared.state.DbState.{DbState}
use Rattle.dbuf_state.specs.declared.state.DbState.TheVariants as state
use Rattle.dbuf_state.specs.declared.state.Mapping.{Mapping}
use Rattle.dbuf_state.proofs.HandLemmas.{claims-change}
use Rattle.dbuf_cells.specs.Turns.{BringsNone, FindsBringing, OnHeap, PartyPlace, WaitsForDbuf, dbuf_meanings}
use Rattle.dbuf_cells.specs.declared.kept.Kept.{Kept}

-- ---- what is being brought is claimed

numbers-some : (front : List Mapping) (m : Mapping) (back : List Mapping) → mapping_numbers (front ++ (m ∷ []) ++ back) ≢ []
numbers-some [] m back e = cc
numbers-some (x ∷ xs) m back e = cc

read-claim : (n : ℕ) (at : Oid) (ptr : Ptr) (c : Content) (s : DbState) → c ≡ content.Clean ptr → s ≡ state.Read n → claim_in n at c s ≡ record { at = at; ptr = ptr } ∷ []
read-claim n at ptr c s clean reading = rw clean (rw reading (ap (λ (b : Bool). if b then record { at = at; ptr = ptr } ∷ [] else []) (eq-eqb n n refl)))

claimed-some : (n : ℕ) (at : Oid) (ptr : Ptr) (ds : List (Dbuf Kept)) (o : Option (Dbuf Kept)) → dbuf_at at ds ≡ o → DbufHas (λ d. (d.content ≡ content.Clean ptr) × (d.state ≡ state.Read n)) o → mapping_numbers (claims_in n ds) ≢ []
claimed-some n at ptr ds None there is none = absurd is
claimed-some n at ptr ds (Some d) there is none =
    let changed = claims-change at (λ (x : Dbuf Kept). x) n ds d there in
    let m : Mapping = record { at = d.at; ptr = ptr } in
    let one : claim_in n d.at d.content d.state ≡ m ∷ [] = read-claim n d.at ptr d.content d.state is.0 is.1 in
    numbers-some changed.front m changed.back (ap mapping_numbers (sym (changed.before ∙ ap (λ (l : List Mapping). changed.front ++ l ++ changed.back) one)) ∙ none)

-- ---- a number that a party has by a join

joined-at : (n : ℕ) (ks : List (Joined (Known OnHeap))) → IsIn n ks → (j : ℕ) × (k : Joined (Known OnHeap)) × (get_elem? ks j ≡ some k) × (k.number ≡ n)
joined-at n [] within = absurd within
joined-at n (k ∷ ks) (inl is) = (zero, k, refl, is)
joined-at n (k ∷ ks) (inr within) = let r = joined-at n ks within in (suc r.0, r.1, r.2, r.3)

below : (n m : ℕ) → nat_lt n m ≡ true → n < m
below n m few = grind (arith, nat_tests)

from : (n m : ℕ) → nat_lt n m ≡ false → m ≤ n
from n m many = grind (arith, nat_tests)

-- ---- waiting

module _ (cache : Cache) (i : ℕ) (at : Oid) (valid : IsConfig cache.config) (in_range : IsCell cache.config i) where
  -- nothing of the cell is claimed that it takes
  claims-none : (before : OnHeap) (p q : PartyPlace) → IsPartyOf cache p → BringsNone cache.config i p → Takes dbuf_meanings i (item.Cell before) p q → (n : ℕ) → mapping_numbers (claims_in n before.value.dbufs) ≡ []
  claims-none before p q party none t n = by (nat_lt n (parties_of cache.config)) refl
    where
      k : Took dbuf_meanings i (item.Cell before) p q
      k = took_is dbuf_meanings i (item.Cell before) p q t

      is : IsTakenCell dbuf_meanings cache.config i before p q
      is = subst (IsTakenCell dbuf_meanings cache.config i before p) (sym t.took) (taken-cell dbuf_meanings cache.config i before t.owners t.knew p valid party.config in_range t.lost t.free)

      go : HasNumber n p → mapping_numbers (claims_in n before.value.dbufs) ≡ []
      go (inl own) = ap (λ (x : ℕ). mapping_numbers (claims_in x before.value.dbufs)) (sym (k.number ∙ own)) ∙ (is.claims ∙ (ap (λ (l : Ledger). list_at i l.claims) k.ledger ∙ none.own))
      go (inr within) =
          let j = joined-at n p.joined within in
          ap (λ (x : ℕ). mapping_numbers (claims_in x before.value.dbufs)) (sym j.3)
          ∙ (is.joined j.0 j.1 (ap (λ (x : PartyPlace). get_elem? x.joined j.0) t.took ∙ j.2) ∙ none.joined j.0 j.1 j.2)

      by : (b : Bool) → nat_lt n (parties_of cache.config) ≡ b → mapping_numbers (claims_in n before.value.dbufs) ≡ []
      by true few = go (none.all n (below n (parties_of cache.config) few))
      by false many = is.no_claims n (from n (parties_of cache.config) many)

  finds-none : (p q : PartyPlace) → IsPartyOf cache p → BringsNone cache.config i p → FindsBringing cache.config i at p q → ⊥
  finds-none p q party none f = claimed-some f.owner at f.ptr f.before.value.dbufs (dbuf_at at f.before.value.dbufs) refl f.reading (claims-none f.before p f.turn.taken party none f.turn.takes f.owner)

  pub waits-none : (times : ℕ) (p q : PartyPlace) → IsPartyOf cache p → BringsNone cache.config i p → WaitsForDbuf cache.config i at times p q → times ≡ 0
  waits-none zero p q party none w = refl
  waits-none (suc times) p q party none w = absurd (finds-none p q party none (subst (λ (r : PartyPlace). FindsBringing cache.config i at r q) (same times w.0 w.1 (waits-none times p w.0 party none w.1)) w.2))
    where
      same : (n : ℕ) (r : PartyPlace) → WaitsForDbuf cache.config i at n p r → n ≡ 0 → r ≡ p
      same zero r w' e = w'
      same (suc n) r w' e = absurd (let clash : suc n ≡ 0 = e in omega arith)
