-- What a party claims of a cell, apart from one block and with it.
use mathlib.Core.Logic.{dite}
use native.Mathlib.Decide.{ℕ_discrete}
use Rattle.std.proofs.Common.{◌≡◌, ◌≢◌, ℕ, ◌==◌, Bool, true, false, not, if◌then◌else◌, List, [], ◌∷◌, ◌++◌, length, cond, Some, refl, sym, ap, ◌∙◌, inl, inr}
use Rattle.arc_table.specs.Cache.{Cache}
use Rattle.arc_table.specs.Fronts.{list_at}
use Rattle.dbuf_state.specs.CellLog.{CellLog}
use Rattle.dbuf_state.specs.Dbufs.{dbuf_at, dbuf_oid, with_dbuf}
use Rattle.dbuf_state.specs.Numbers.{claim_in, claims_in, mapping_numbers, mappings_in}
use Rattle.dbuf_state.specs.Oids.{has_item, is_distinct, oid_eq}
use Rattle.dbuf_state.specs.declared.dbuf.Content.{Content}
use Rattle.dbuf_state.specs.declared.dbuf.Content.TheVariants.{Clean, Dirty}
use Rattle.dbuf_state.specs.declared.dbuf.Dbuf.{Dbuf}
use Rattle.dbuf_state.specs.declared.oid.Oid.{Oid}
use Rattle.dbuf_state.specs.declared.state.DbState.{DbState}
use Rattle.dbuf_state.specs.declared.state.DbState.TheVariants as state
use Rattle.dbuf_state.specs.declared.state.Mapping.{Mapping}
use Rattle.dbuf_state.proofs.IndexLemmas.{and-parts, bool_cases}
use Rattle.dbuf_state.proofs.NumberLemmas.{mappings-read}
use Rattle.dbuf_cells.specs.InHand.{AreClaimedAlike, ClaimsAre, IsRoomier, TakesAtRest}
use Rattle.dbuf_cells.specs.Loading.{AreUnclaimed, KeepsOthers, other_claims}
use Rattle.dbuf_cells.specs.Turns.{KeepsClaims, OnHeap, PartyPlace}
use Rattle.dbuf_cells.specs.declared.kept.Kept.{Kept}
use Rattle.dbuf_cells.proofs.CellSteps.{oid-is}

abbrev drops : Oid → Mapping → Bool
drops at m = not (oid_eq at m.at)

others-append : (at : Oid) (xs ys : List Mapping) → other_claims at (xs ++ ys) ≡ other_claims at xs ++ other_claims at ys
others-append at [] ys = refl
others-append at (x ∷ xs) ys = go (others-append at xs ys) (drops at x)
  where
    go : other_claims at (xs ++ ys) ≡ other_claims at xs ++ other_claims at ys → (c : Bool) → cond c (x ∷ other_claims at (xs ++ ys)) (other_claims at (xs ++ ys)) ≡ cond c (x ∷ other_claims at xs) (other_claims at xs) ++ other_claims at ys
    go rest true = ap (λ (l : List Mapping). x ∷ l) rest
    go rest false = rest

-- what is claimed of one dbuf is of its Oid
one-other : (at a : Oid) (m : Mapping) (b : Bool) → m.at ≡ a → oid_eq at a ≡ false → other_claims at (if b then m ∷ [] else []) ≡ (if b then m ∷ [] else [])
one-other at a m true is far = ap (λ (c : Bool). cond (not c) (m ∷ []) []) (ap (oid_eq at) is ∙ far)
one-other at a m false is far = refl

one-same : (at a : Oid) (m : Mapping) (b : Bool) → m.at ≡ a → oid_eq at a ≡ true → other_claims at (if b then m ∷ [] else []) ≡ []
one-same at a m true is near = ap (λ (c : Bool). cond (not c) (m ∷ []) []) (ap (oid_eq at) is ∙ near)
one-same at a m false is near = refl

claim-other : (n : ℕ) (at a : Oid) (c : Content) (s : DbState) → oid_eq at a ≡ false → other_claims at (claim_in n a c s) ≡ claim_in n a c s
claim-other n at a (Dirty bytes) s far = refl
claim-other n at a (Clean ptr) state.Uncached far = refl
claim-other n at a (Clean ptr) (state.Read m) far = one-other at a (record { at = a; ptr = ptr }) (m == n) refl far
claim-other n at a (Clean ptr) state.Fill far = refl
claim-other n at a (Clean ptr) state.Cached far = refl
claim-other n at a (Clean ptr) state.Evicting far = refl

claim-same : (n : ℕ) (at a : Oid) (c : Content) (s : DbState) → oid_eq at a ≡ true → other_claims at (claim_in n a c s) ≡ []
claim-same n at a (Dirty bytes) s near = refl
claim-same n at a (Clean ptr) state.Uncached near = refl
claim-same n at a (Clean ptr) (state.Read m) near = one-same at a (record { at = a; ptr = ptr }) (m == n) refl near
claim-same n at a (Clean ptr) state.Fill near = refl
claim-same n at a (Clean ptr) state.Cached near = refl
claim-same n at a (Clean ptr) state.Evicting near = refl

-- a change of the block's dbuf leaves what is claimed of others
pub others-stay : (n : ℕ) (at : Oid) (f : Dbuf Kept → Dbuf Kept) → ((d : Dbuf Kept) → (f d).at ≡ d.at) → (ds : List (Dbuf Kept)) → other_claims at (claims_in n (with_dbuf at f ds)) ≡ other_claims at (claims_in n ds)
others-stay n at f keeps [] = refl
others-stay n at f keeps (d ∷ ds) = elim (bool_cases (oid_eq at d.at)) [
  | inl here ↦
      let now : other_claims at (claim_in n (f d).at (f d).content (f d).state) ≡ [] = claim-same n at (f d).at (f d).content (f d).state (ap (oid_eq at) (keeps d) ∙ here) in
      let was : other_claims at (claim_in n d.at d.content d.state) ≡ [] = claim-same n at d.at d.content d.state here in
      let a = others-append at (claim_in n (f d).at (f d).content (f d).state) (claims_in n ds) in
      let b = others-append at (claim_in n d.at d.content d.state) (claims_in n ds) in
      rw here (a ∙ (ap (λ (l : List Mapping). l ++ other_claims at (claims_in n ds)) (now ∙ sym was) ∙ sym b))
  | inr far ↦
      let r = others-stay n at f keeps ds in
      let a = others-append at (claim_in n d.at d.content d.state) (claims_in n (with_dbuf at f ds)) in
      let b = others-append at (claim_in n d.at d.content d.state) (claims_in n ds) in
      rw far (a ∙ (ap (λ (l : List Mapping). other_claims at (claim_in n d.at d.content d.state) ++ l) r ∙ sym b))
]

-- where the block isn't claimed, all is claimed of others
absent-others : (n : ℕ) (at : Oid) (ds : List (Dbuf Kept)) → has_item dbuf_oid at ds ≡ false → other_claims at (claims_in n ds) ≡ claims_in n ds
absent-others n at [] none = refl
absent-others n at (d ∷ ds) none = elim (bool_cases (oid_eq at d.at)) [
  | inl here ↦ let clash : true ≡ false = rw here at none in cc
  | inr far ↦
      let r = absent-others n at ds (rw far at none) in
      others-append at (claim_in n d.at d.content d.state) (claims_in n ds) ∙ (λ z. claim-other n at d.at d.content d.state far z ++ r z)
]

not-true : (b : Bool) → not b ≡ true → b ≡ false
not-true true h = sym h
not-true false h = refl

pub none-others : (n : ℕ) (at : Oid) (ds : List (Dbuf Kept)) → is_distinct dbuf_oid ds ≡ true → ((d : Dbuf Kept) → dbuf_at at ds ≡ Some d → claim_in n d.at d.content d.state ≡ []) → other_claims at (claims_in n ds) ≡ claims_in n ds
none-others n at [] once none = refl
none-others n at (d ∷ ds) once none = elim (bool_cases (oid_eq at d.at)) [
  | inl here ↦
      let gone : claim_in n d.at d.content d.state ≡ [] = none d (rw here refl) in
      let p = and-parts (not (has_item dbuf_oid d.at ds)) (is_distinct dbuf_oid ds) once in
      let absent : has_item dbuf_oid at ds ≡ false = ap (λ (a : Oid). has_item dbuf_oid a ds) (oid-is at d.at here) ∙ not-true (has_item dbuf_oid d.at ds) p.0 in
      ap (λ (l : List Mapping). other_claims at (l ++ claims_in n ds)) gone ∙ (absent-others n at ds absent ∙ ap (λ (l : List Mapping). l ++ claims_in n ds) (sym gone))
  | inr far ↦
      let p = and-parts (not (has_item dbuf_oid d.at ds)) (is_distinct dbuf_oid ds) once in
      let r = none-others n at ds p.1 (λ x found. none x (rw far found)) in
      others-append at (claim_in n d.at d.content d.state) (claims_in n ds) ∙ (λ z. claim-other n at d.at d.content d.state far z ++ r z)
]

-- a change behind which the block's dbuf is claimed by nobody leaves just what is claimed of others
pub loses-claim : (n : ℕ) (at : Oid) (f : Dbuf Kept → Dbuf Kept) (ds : List (Dbuf Kept)) → is_distinct dbuf_oid ds ≡ true → ((d : Dbuf Kept) → claim_in n (f d).at (f d).content (f d).state ≡ []) → claims_in n (with_dbuf at f ds) ≡ other_claims at (claims_in n ds)
loses-claim n at f [] once none = refl
loses-claim n at f (d ∷ ds) once none = elim (bool_cases (oid_eq at d.at)) [
  | inl here ↦
      let p = and-parts (not (has_item dbuf_oid d.at ds)) (is_distinct dbuf_oid ds) once in
      let absent : has_item dbuf_oid at ds ≡ false = ap (λ (a : Oid). has_item dbuf_oid a ds) (oid-is at d.at here) ∙ not-true (has_item dbuf_oid d.at ds) p.0 in
      let now : claims_in n (f d ∷ ds) ≡ claims_in n ds = ap (λ (l : List Mapping). l ++ claims_in n ds) (none d) in
      let was : other_claims at (claims_in n (d ∷ ds)) ≡ claims_in n ds =
      others-append at (claim_in n d.at d.content d.state) (claims_in n ds) ∙ (λ z. claim-same n at d.at d.content d.state here z ++ absent-others n at ds absent z) in
      rw here (now ∙ sym was)
  | inr far ↦
      let p = and-parts (not (has_item dbuf_oid d.at ds)) (is_distinct dbuf_oid ds) once in
      let r = loses-claim n at f ds p.1 none in
      let was : other_claims at (claims_in n (d ∷ ds)) ≡ claim_in n d.at d.content d.state ++ other_claims at (claims_in n ds) =
      others-append at (claim_in n d.at d.content d.state) (claims_in n ds) ∙ ap (λ (l : List Mapping). l ++ other_claims at (claims_in n ds)) (claim-other n at d.at d.content d.state far) in
      rw far (ap (λ (l : List Mapping). claim_in n d.at d.content d.state ++ l) r ∙ sym was)
]

-- ---- the lists of a party

-- a list of what is claimed is read back from its numbers
pub same-mappings : (xs ys : List Mapping) → mapping_numbers xs ≡ mapping_numbers ys → xs ≡ ys
same-mappings xs ys e = sym (mappings-read xs) ∙ (ap (λ (ns : List ℕ). mappings_in (length ns) ns) e ∙ mappings-read ys)

-- the block is claimed no more, and all else is
pub loses-others : (i n m : ℕ) (at : Oid) (mid now : List (Dbuf Kept)) (p q : PartyPlace) → list_at i p.own.ledger.claims ≡ mapping_numbers (claims_in n mid) → list_at i q.own.ledger.claims ≡ mapping_numbers (claims_in m now) → m ≡ n → AreUnclaimed at mid now → KeepsOthers i at p q
loses-others i n m at mid now p q was is same lost ms listed =
    is ∙ ap mapping_numbers (lost m ∙ ap (other_claims at) (ap (λ (k : ℕ). claims_in k mid) same ∙ same-mappings (claims_in n mid) ms (sym was ∙ listed)))

-- what is claimed of each cell is as before where it is of this one and of the others
pub keeps-claims : (i : ℕ) (p q : PartyPlace) → list_at i q.own.ledger.claims ≡ list_at i p.own.ledger.claims → ((j : ℕ) → j ≢ i → list_at j q.own.ledger.claims ≡ list_at j p.own.ledger.claims) → KeepsClaims p q
keeps-claims i p q here elsewhere j = dite (ℕ_discrete j i)
    (λ is. ap (λ (k : ℕ). list_at k q.own.ledger.claims) is ∙ (here ∙ ap (λ (k : ℕ). list_at k p.own.ledger.claims) (sym is)))
    (λ far. elsewhere j far)

-- so it is behind a turn whose cell is claimed as it was
pub claims-through : (i n m : ℕ) (old now : List (Dbuf Kept)) (p q : PartyPlace) → list_at i p.own.ledger.claims ≡ mapping_numbers (claims_in n old) → list_at i q.own.ledger.claims ≡ mapping_numbers (claims_in m now) → m ≡ n → AreClaimedAlike old now
    → ((j : ℕ) → j ≢ i → list_at j q.own.ledger.claims ≡ list_at j p.own.ledger.claims) → KeepsClaims p q
claims-through i n m old now p q was is same alike elsewhere =
    keeps-claims i p q (is ∙ (ap (λ (k : ℕ). mapping_numbers (claims_in k now)) same ∙ (ap mapping_numbers (alike n) ∙ sym was))) elsewhere

pub claims-then : (p q r : PartyPlace) → KeepsClaims p q → KeepsClaims q r → KeepsClaims p r
claims-then p q r a b j = b j ∙ a j

-- ---- behind a turn that began once nobody brought the block

pub roomy-claims : (old now : CellLog Kept) → IsRoomier old now → AreClaimedAlike old.dbufs now.dbufs
roomy-claims old now log n = ap (λ (x : CellLog Kept). claims_in n x.dbufs) log

pub rest-claims : (cache : Cache) (i : ℕ) (at : Oid) (p : PartyPlace) (before : OnHeap) (q : PartyPlace) (t : TakesAtRest cache i at p before q) (now : CellLog Kept) (r : PartyPlace) → AreClaimedAlike before.value.dbufs now.dbufs → ClaimsAre i r.number now r
    → r.number ≡ t.ready.number → ((j : ℕ) → j ≢ i → list_at j r.own.ledger.claims ≡ list_at j t.ready.own.ledger.claims) → KeepsClaims p r
rest-claims cache i at p before q t now r alike is number elsewhere =
    claims-then p t.ready r t.claims (claims-through i q.number r.number before.value.dbufs now.dbufs t.ready r t.claimed is (number ∙ sym t.begins.hand.party.number) alike elsewhere)
