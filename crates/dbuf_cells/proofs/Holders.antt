-- Which dbufs keep a hold: what a change of a dbuf leaves of it, and that each hold is of a block that is cached.
use Rattle.std.proofs.Common.{◌≡◌, ◌⊎◌, ℕ, ◌+◌, ◌&&◌, ◌++◌, map, cond, Bool, true, false, not, if◌then◌else◌, IsTrue, List, [], ◌∷◌, Option, Some, None, refl, sym, ap, ◌∙◌, subst, inl, inr, arith}
use Rattle.std.proofs.lemmas.Bool.Decides.{nat_tests}
use Rattle.std.specs.Prelude.{count_by}
use Rattle.std.proofs.lemmas.List.Sums.{sum_by-append, sum_by-cons}
use Rattle.blk_ptr.specs.Order.{key_eq}
use Rattle.arc_table.proofs.Bookings.{holds_cons}
use Rattle.std.specs.List.{AllByRecursion}
use Rattle.std.specs.Option.{option_map, option_map_or}
use Rattle.std.proofs.lemmas.Bool.{false≢true}
use Rattle.blk_ptr.specs.Ptr.{sha256_of}
use Rattle.blk_ptr.specs.declared.key.Key.{Key}
use Rattle.blk_ptr.specs.declared.ptr.Ptr.{Ptr}
use Rattle.arc_core.specs.Keeps.{holds_on}
use Rattle.arc_core.specs.declared.config.Config.{Config}
use Rattle.arc_core.specs.declared.event.Event.{Event}
use Rattle.dbuf_state.specs.CellLog.{CellLog, noted, touched}
use Rattle.dbuf_state.specs.Dbufs.{plain_block, plain_dbuf, DbufHas, Fits, IsFit, cached_with, dbuf_at, dbuf_is, dbuf_oid, is_cached, is_clean, is_clean_in, mapped_of, used_at, with_dbuf, standing_of}
use Rattle.dbuf_state.specs.Objects.{use_of}
use Rattle.dbuf_state.specs.Objects as plain
use Rattle.dbuf_state.specs.Oids.{has_item, is_distinct, item_at, oid_eq, with_change, with_item}
use Rattle.dbuf_state.specs.Outline.{Outline, OutlineDbuf, after, is_cached_at, mapped_at, mapped_in, outline_dbuf}
use Rattle.dbuf_state.specs.Outline as outline
use Rattle.dbuf_state.specs.Soundness.{hold_in, holds_in}
use Rattle.dbuf_state.specs.declared.dbuf.Content.{Content}
use Rattle.dbuf_state.specs.declared.dbuf.Content.TheVariants.{Clean, Dirty}
use Rattle.dbuf_state.specs.declared.dbuf.Dbuf.{Dbuf}
use Rattle.dbuf_state.specs.declared.event.CellEvent.{CellEvent}
use Rattle.dbuf_state.specs.declared.event.CellEvent.TheVariants.{Evict}
use Rattle.dbuf_state.specs.declared.oid.Oid.{Oid}
use Rattle.dbuf_state.specs.declared.state.DbState.{DbState}
use Rattle.dbuf_state.proofs.CellLemmas.{oid_eq-sym}
use Rattle.dbuf_state.proofs.IndexLemmas.{and-both, and-parts, bool_cases}
use Rattle.dbuf_state.proofs.OutlineLemmas.{cell-is-in-outline, block-cached}
use Rattle.dbuf_cells.specs.InHand.{HoldsStay, IsRoomier}
use Rattle.dbuf_cells.specs.Kept.{bytes_of, is_held, key_of}
use Rattle.dbuf_cells.specs.Loading.{AreHeldBut}
use Rattle.dbuf_cells.specs.Turns.{AreEvictions, HoldsStand, IsCachedAs, OnHeap, Operates, PartyPlace, drops_if, is_under, held_at, held_in, holds_of, outline_in}
use Rattle.dbuf_cells.specs.declared.kept.Kept.{Kept}
use Rattle.dbuf_cells.proofs.CellSteps.{oid-is}
use Rattle.dbuf_cells.proofs.HoldLists.{hold-counts, kept-one}
use Rattle.dbuf_state.specs.Standings.{none_kept}

-- the dbuf keeps a hold
abbrev pub keeps_hold : Dbuf Kept → Bool
keeps_hold d = option_map_or is_held d.kept false

abbrev pub is_there : Dbuf Kept → Bool
is_there = is_clean_in is_cached

oid-same : (a : Oid) → oid_eq a a ≡ true
oid-same a = grind (arith, nat_tests)

-- ---- a dbuf is changed

module _ (at : Oid) (f : Dbuf Kept → Dbuf Kept) (same : (d : Dbuf Kept) → (f d).at ≡ d.at) where
  -- a test that the change leaves as it is
  pub is-same : (test : Dbuf Kept → Bool) → ((d : Dbuf Kept) → test (f d) ≡ test d) → (b : Oid) (ds : List (Dbuf Kept)) → dbuf_is test b (with_dbuf at f ds) ≡ dbuf_is test b ds
  is-same test alike b [] = refl
  is-same test alike b (x ∷ ds) = go (is-same test alike b ds) (bool_cases (oid_eq at x.at)) (bool_cases (oid_eq b x.at))
    where
      go : dbuf_is test b (with_dbuf at f ds) ≡ dbuf_is test b ds → (oid_eq at x.at ≡ true) ⊎ (oid_eq at x.at ≡ false) → (oid_eq b x.at ≡ true) ⊎ (oid_eq b x.at ≡ false) → dbuf_is test b (with_dbuf at f (x ∷ ds)) ≡ dbuf_is test b (x ∷ ds)
      go rest (inl here) (inl mine) = let its : oid_eq b (f x).at ≡ true = ap (oid_eq b) (same x) ∙ mine in rw (here, its, mine) (alike x)
      go rest (inl here) (inr other) = let its : oid_eq b (f x).at ≡ false = ap (oid_eq b) (same x) ∙ other in rw (here, its, other) refl
      go rest (inr far) (inl mine) = rw (far, mine) refl
      go rest (inr far) (inr other) = rw (far, other) rest

  -- where it takes the block out, what is cached then was before, and keeps a hold where it did
  pub stays-out : ((d : Dbuf Kept) → is_there (f d) ≡ false) → (ds : List (Dbuf Kept)) → HoldsStay ds (with_dbuf at f ds)
  stays-out off [] b on = (on, refl)
  stays-out off (x ∷ ds) b on = go (λ h. stays-out off ds b h) (bool_cases (oid_eq at x.at)) (bool_cases (oid_eq b x.at))
    where
      go : (dbuf_is is_there b (with_dbuf at f ds) ≡ true → (dbuf_is is_there b ds ≡ true) × (held_at (with_dbuf at f ds) b ≡ held_at ds b)) → (oid_eq at x.at ≡ true) ⊎ (oid_eq at x.at ≡ false) → (oid_eq b x.at ≡ true) ⊎ (oid_eq b x.at ≡ false)
          → (dbuf_is is_there b (x ∷ ds) ≡ true) × (held_at (with_dbuf at f (x ∷ ds)) b ≡ held_at (x ∷ ds) b)
      go ih (inl here) (inl mine) =
          let its : oid_eq b (f x).at ≡ true = ap (oid_eq b) (same x) ∙ mine in
          let passes : is_there (f x) ≡ true = rw (here, its) at on in
          absurd (false≢true (sym (off x) ∙ passes))
      go ih (inl here) (inr other) =
          let its : oid_eq b (f x).at ≡ false = ap (oid_eq b) (same x) ∙ other in
          let passes : dbuf_is is_there b ds ≡ true = rw (here, its) at on in
          rw other (passes, rw (here, its) refl)
      go ih (inr far) (inl mine) =
          let passes : is_there x ≡ true = rw (far, mine) at on in
          rw mine (passes, rw (far, mine) refl)
      go ih (inr far) (inr other) =
          let rest = ih (rw (far, other) at on) in
          rw other (rest.0, rw (far, other) rest.1)

  -- the same where a dbuf may be added
  pub stays-new : ((d : Dbuf Kept) → is_there (f d) ≡ false) → (new : Dbuf Kept) → is_there new ≡ false → (ds : List (Dbuf Kept)) → HoldsStay ds (with_item dbuf_oid at f new ds)
  stays-new off new none [] b on = absurd (go (bool_cases (oid_eq b new.at)))
    where
      go : (oid_eq b new.at ≡ true) ⊎ (oid_eq b new.at ≡ false) → ⊥
      go (inl mine) = let passes : is_there new ≡ true = rw mine at on in false≢true (sym none ∙ passes)
      go (inr other) = let passes : false ≡ true = rw other at on in false≢true passes
  stays-new off new none (x ∷ ds) b on = go (λ h. stays-new off new none ds b h) (bool_cases (oid_eq at x.at)) (bool_cases (oid_eq b x.at))
    where
      go : (dbuf_is is_there b (with_item dbuf_oid at f new ds) ≡ true → (dbuf_is is_there b ds ≡ true) × (held_at (with_item dbuf_oid at f new ds) b ≡ held_at ds b)) → (oid_eq at x.at ≡ true) ⊎ (oid_eq at x.at ≡ false) → (oid_eq b x.at ≡ true) ⊎ (oid_eq b x.at ≡ false)
          → (dbuf_is is_there b (x ∷ ds) ≡ true) × (held_at (with_item dbuf_oid at f new (x ∷ ds)) b ≡ held_at (x ∷ ds) b)
      go ih (inl here) (inl mine) =
          let its : oid_eq b (f x).at ≡ true = ap (oid_eq b) (same x) ∙ mine in
          let passes : is_there (f x) ≡ true = rw (here, its) at on in
          absurd (false≢true (sym (off x) ∙ passes))
      go ih (inl here) (inr other) =
          let its : oid_eq b (f x).at ≡ false = ap (oid_eq b) (same x) ∙ other in
          let passes : dbuf_is is_there b ds ≡ true = rw (here, its) at on in
          rw other (passes, rw (here, its) refl)
      go ih (inr far) (inl mine) =
          let passes : is_there x ≡ true = rw (far, mine) at on in
          rw mine (passes, rw (far, mine) refl)
      go ih (inr far) (inr other) =
          let rest = ih (rw (far, other) at on) in
          rw other (rest.0, rw (far, other) rest.1)

  -- and where it changes nothing of what is kept
  pub stays-same : ((d : Dbuf Kept) → is_there (f d) ≡ is_there d) → ((d : Dbuf Kept) → keeps_hold (f d) ≡ keeps_hold d) → (ds : List (Dbuf Kept)) → HoldsStay ds (with_dbuf at f ds)
  stays-same there holds ds b on = (sym (is-same is_there there b ds) ∙ on, is-same keeps_hold holds b ds)

pub stays-all : (ds : List (Dbuf Kept)) → HoldsStay ds ds
stays-all ds b on = (on, refl)

pub stays-then : (xs ys zs : List (Dbuf Kept)) → HoldsStay xs ys → HoldsStay ys zs → HoldsStay xs zs
stays-then xs ys zs first second b on = let y = second b on in let x = first b y.0 in (x.0, y.1 ∙ x.1)

-- the last use says nothing of it
pub held-touched : (tick : ℕ) (used : Option Oid) (ds : List (Dbuf Kept)) (b : Oid) → held_at (touched tick used ds) b ≡ held_at ds b
held-touched tick None ds b = refl
held-touched tick (Some at) ds b = is-same at (used_at tick) (λ d. refl) keeps_hold (λ d. refl) b ds

pub stays-touched : (tick : ℕ) (used : Option Oid) (ds : List (Dbuf Kept)) → HoldsStay ds (touched tick used ds)
stays-touched tick None ds = stays-all ds
stays-touched tick (Some at) ds = stays-same at (used_at tick) (λ d. refl) (λ d. refl) (λ d. refl) ds

pub stays-noted : (e : CellEvent) (c : CellLog Kept) (ds : List (Dbuf Kept)) → HoldsStay ds c.dbufs → HoldsStay ds (noted e c).dbufs
stays-noted e c ds stay = stays-then ds c.dbufs (noted e c).dbufs stay (stays-touched _ (use_of e) c.dbufs)

-- a cell with more room
pub stays-roomy : (old roomy : CellLog Kept) → IsRoomier old roomy → HoldsStay old.dbufs roomy.dbufs
stays-roomy old roomy is = subst (λ (c : CellLog Kept). HoldsStay old.dbufs c.dbufs) (sym is) (stays-all old.dbufs)

-- what its dbuf keeps says it
pub held-as : (at : Oid) (k : Kept) (ds : List (Dbuf Kept)) → DbufHas (λ d. d.kept ≡ Some k) (dbuf_at at ds) → held_at ds at ≡ is_held k
held-as at k ds there = go (dbuf_at at ds) there
  where
    go : (o : Option (Dbuf Kept)) → DbufHas (λ d. d.kept ≡ Some k) o → option_map_or keeps_hold o false ≡ is_held k
    go None h = absurd h
    go (Some d) h = ap (λ (o : Option Kept). option_map_or is_held o false) h

-- ---- a block was loaded

if-true : (c : Bool) (x y : Bool) → c ≡ true → (if c then x else y) ≡ x
if-true true x y e = refl
if-true false x y e = absurd (false≢true e)

if-false : (c : Bool) (x y : Bool) → c ≡ false → (if c then x else y) ≡ y
if-false true x y e = absurd (false≢true (sym e))
if-false false x y e = refl

pub held-with : (P : Dbuf Kept → Type 0) (at : Oid) (k : Kept) (ds : List (Dbuf Kept)) → DbufHas P (dbuf_at at ds) → AreHeldBut at (is_held k) ds (with_dbuf at (cached_with k) ds)
held-with P at k [] there b = absurd there
held-with P at k (x ∷ ds) there b = go (λ h. held-with P at k ds h b) (bool_cases (oid_eq at x.at)) (bool_cases (oid_eq b x.at))
  where
    go : (DbufHas P (dbuf_at at ds) → held_at (with_dbuf at (cached_with k) ds) b ≡ (if oid_eq at b then is_held k else held_at ds b)) → (oid_eq at x.at ≡ true) ⊎ (oid_eq at x.at ≡ false) → (oid_eq b x.at ≡ true) ⊎ (oid_eq b x.at ≡ false)
        → held_at (with_dbuf at (cached_with k) (x ∷ ds)) b ≡ (if oid_eq at b then is_held k else held_at (x ∷ ds) b)
    go ih (inl here) (inl mine) =
        let near : oid_eq at b ≡ true = ap (oid_eq at) (oid-is b x.at mine) ∙ here in
        rw (here, mine) (sym (if-true (oid_eq at b) (is_held k) (keeps_hold x) near))
    go ih (inl here) (inr other) =
        let apart : oid_eq at b ≡ false = ap (λ (a : Oid). oid_eq a b) (oid-is at x.at here) ∙ (oid_eq-sym x.at b ∙ other) in
        rw (here, other) (sym (if-false (oid_eq at b) (is_held k) (held_at ds b) apart))
    go ih (inr far) (inl mine) =
        let apart : oid_eq at b ≡ false = ap (oid_eq at) (oid-is b x.at mine) ∙ far in
        rw (far, mine) (sym (if-false (oid_eq at b) (is_held k) (keeps_hold x) apart))
    go ih (inr far) (inr other) =
        rw (far, other) (ih (rw far at there))

-- ---- each hold is of a block that is cached

fit-found : (at : Oid) (ds : List (Dbuf Kept)) (d : Dbuf Kept) → AllByRecursion (IsFit key_of bytes_of) ds → dbuf_at at ds ≡ Some d → IsFit key_of bytes_of d
fit-found at [] d fit found = let clash : ◌≡◌ {A = Option (Dbuf Kept)} None (Some d) = found in cc
fit-found at (x ∷ ds) d fit found = elim (bool_cases (oid_eq at x.at)) [
  | inl here ↦
      let same : ◌≡◌ {A = Option (Dbuf Kept)} (Some x) (Some d) = rw here at found in
      let is : x ≡ d = cc in
      subst (IsFit key_of bytes_of) is fit.0
  | inr far ↦ fit-found at ds d fit.1 (rw far at found)
]

-- what is kept is of a clean block, which is cached
record IsOfClean (c : Content) (s : DbState) (k : Kept) : Type 0 where
  pub ptr : Ptr
  pub clean : c ≡ Clean ptr
  pub cached : is_cached s ≡ true
  pub key : key_of k ≡ ptr.key

of-clean : (c : Content) (s : DbState) (o : Option Kept) (k : Kept) → Fits key_of bytes_of c s o → o ≡ Some k → IsOfClean c s k
of-clean (Dirty bytes) s None k fit is = let clash : ◌≡◌ {A = Option Kept} None (Some k) = is in cc
of-clean (Dirty bytes) s (Some h) k fit is = absurd (false≢true (and-parts (is_cached s) false fit.0).1)
of-clean (Clean ptr) s None k fit is = let clash : ◌≡◌ {A = Option Kept} None (Some k) = is in cc
of-clean (Clean ptr) s (Some h) k fit is = let same : h ≡ k = cc in record { ptr = ptr; clean = refl; cached = fit.0; key = ap key_of (sym same) ∙ fit.1.key }

kept-cached : (b : OnHeap) (at : Oid) (d : Dbuf Kept) (k : Kept) → dbuf_at at b.value.dbufs ≡ Some d → IsFit key_of bytes_of d → d.kept ≡ Some k → IsCachedAs at (key_of k) (outline_in b)
kept-cached b at d k found fit kept =
    let of = of-clean d.content d.state d.kept k fit kept in
    let there = cell-is-in-outline plain.Never b.value at in
    record {
      ptr = of.ptr;
      mapped = sym there.mapped ∙ (ap (λ (o : Option (Dbuf Kept)). option_map (λ d. mapped_of d.content) o) found ∙ ap (λ (c : Content). Some (mapped_of c)) of.clean);
      cached = sym there.cached ∙ (ap (λ (o : Option (Dbuf Kept)). option_map_or is_there o false) found ∙ and-both (is_clean d.content) (is_cached d.state) (ap is_clean of.clean) of.cached);
      key = sym of.key;
    }

-- the dbuf that keeps a hold, and what it keeps
record Holds (at : Oid) (ds : List (Dbuf Kept)) : Type 0 where
  pub dbuf : Dbuf Kept
  pub kept : Kept
  pub found : dbuf_at at ds ≡ Some dbuf
  pub there : dbuf.kept ≡ Some kept
  pub held : is_held kept ≡ true

holder : (at : Oid) (ds : List (Dbuf Kept)) → held_at ds at ≡ true → Holds at ds
holder at ds held = go (dbuf_at at ds) refl held
  where
    one : (d : Dbuf Kept) (o : Option Kept) → dbuf_at at ds ≡ Some d → d.kept ≡ o → option_map_or is_held o false ≡ true → Holds at ds
    one d None found there h = absurd (false≢true h)
    one d (Some k) found there h = record { dbuf = d; kept = k; found = found; there = there; held = h }

    go : (o : Option (Dbuf Kept)) → dbuf_at at ds ≡ o → option_map_or keeps_hold o false ≡ true → Holds at ds
    go None found h = absurd (false≢true h)
    go (Some d) found h = one d d.kept found refl h

not-true : (b : Bool) → not b ≡ true → b ≡ false
not-true true h = absurd (false≢true h)
not-true false h = refl

and-true : (a : Bool) → (a && true) ≡ a
and-true true = refl
and-true false = refl

-- where no block is kept, none is held
none-holds : (d : Dbuf Kept) → IsFit key_of bytes_of d → (standing_of d).kept ≡ false → keeps_hold d ≡ false
none-holds d fit none = go d.kept refl
  where
    go : (o : Option Kept) → d.kept ≡ o → option_map_or is_held o false ≡ false
    go None is = refl
    go (Some k) is =
        let of = of-clean d.content d.state d.kept k fit is in
        absurd (false≢true (sym none ∙ (sym (block-cached d.content d.state) ∙ and-both (is_clean d.content) (is_cached d.state) (ap is_clean of.clean) of.cached)))

pub none-held : (ds : List (Dbuf Kept)) → AllByRecursion (IsFit key_of bytes_of) ds → none_kept (map standing_of ds) ≡ true → (at : Oid) → held_at ds at ≡ false
none-held [] fit none at = refl
none-held (d ∷ ds) fit none at =
    let parts = and-parts (not (standing_of d).kept) (none_kept (map standing_of ds)) none in
    go (none-holds d fit.0 (not-true (standing_of d).kept parts.0)) (none-held ds fit.1 parts.1 at) (bool_cases (oid_eq at d.at))
  where
    go : keeps_hold d ≡ false → held_at ds at ≡ false → (oid_eq at d.at ≡ true) ⊎ (oid_eq at d.at ≡ false) → held_at (d ∷ ds) at ≡ false
    go one rest (inl here) = rw here one
    go one rest (inr far) = rw far rest

-- ---- as many holds as there are such blocks

-- one dbuf
one-holds : (k : Key) (d : Dbuf Kept) → IsFit key_of bytes_of d
    → holds_on k (hold_in key_of bytes_of is_held d.kept) ≡ cond ((plain.is_cached (plain_block d.content d.state) && is_under k (mapped_in (plain_block d.content d.state))) && keeps_hold d) 1 0
one-holds k d fit = go d.content d.state d.kept fit
  where
    and-false : (a : Bool) → (a && false) ≡ false
    and-false true = refl
    and-false false = refl

    by : (ptr : Ptr) (h : Kept) (held : Bool) → key_of h ≡ ptr.key → holds_on k (if held then (record { key = key_of h; digest = sha256_of (bytes_of h) } ∷ []) else []) ≡ cond ((true && key_eq k ptr.key) && held) 1 0
    by ptr h true same =
        let one : holds_on k (record { key = key_of h; digest = sha256_of (bytes_of h) } ∷ []) ≡ cond (key_eq k (key_of h)) 1 0 + holds_on k [] = holds_cons k (record { key = key_of h; digest = sha256_of (bytes_of h) }) [] in
        let none : holds_on k [] ≡ 0 = refl in
        let mine : cond {A = ℕ} (key_eq k (key_of h)) 1 0 ≡ cond (key_eq k ptr.key) 1 0 = ap (λ (x : Key). cond {A = ℕ} (key_eq k x) 1 0) same in
        let its : cond {A = ℕ} (key_eq k ptr.key && true) 1 0 ≡ cond (key_eq k ptr.key) 1 0 = ap (λ (b : Bool). cond {A = ℕ} b 1 0) (and-true (key_eq k ptr.key)) in
        omega (arith, one, none, mine, its)
    by ptr h false same = sym (ap (λ (b : Bool). cond {A = ℕ} b 1 0) (and-false (true && key_eq k ptr.key)))

    go : (c : Content) (s : DbState) (o : Option Kept) → Fits key_of bytes_of c s o
        → holds_on k (hold_in key_of bytes_of is_held o) ≡ cond ((plain.is_cached (plain_block c s) && is_under k (mapped_in (plain_block c s))) && option_map_or is_held o false) 1 0
    go (Dirty bytes) s None fit = refl
    go (Dirty bytes) s (Some h) fit = absurd (false≢true (and-parts (is_cached s) false fit.0).1)
    go (Clean ptr) s None fit = sym (ap (λ (b : Bool). cond {A = ℕ} b 1 0) (and-false (plain.is_cached (plain_block (Clean ptr) s) && is_under k (mapped_in (plain_block (Clean ptr) s)))))
    go (Clean ptr) s (Some h) fit = let there : is_cached s ≡ true = fit.0 in rw there (by ptr h (is_held h) fit.1.key)

-- each dbuf of the list is the one of its Oid there
else-first : (x : Dbuf Kept) (ds : List (Dbuf Kept)) → has_item dbuf_oid x.at ds ≡ false → AllByRecursion (λ d. oid_eq d.at x.at ≡ false) ds
else-first x [] none = tt
else-first x (d ∷ ds) none = go (bool_cases (oid_eq x.at d.at)) (λ h. else-first x ds h)
  where
    go : (oid_eq x.at d.at ≡ true) ⊎ (oid_eq x.at d.at ≡ false) → (has_item dbuf_oid x.at ds ≡ false → AllByRecursion (λ d. oid_eq d.at x.at ≡ false) ds) → AllByRecursion (λ d. oid_eq d.at x.at ≡ false) (d ∷ ds)
    go (inl near) ih = let found : true ≡ false = rw near at none in absurd (false≢true (sym found))
    go (inr far) ih = (oid_eq-sym d.at x.at ∙ far, ih (rw far at none))

all-behind : (x : Dbuf Kept) (all : List (Dbuf Kept)) (ds : List (Dbuf Kept)) → AllByRecursion (λ d. oid_eq d.at x.at ≡ false) ds → AllByRecursion (λ d. held_at all d.at ≡ keeps_hold d) ds → AllByRecursion (λ d. held_at (x ∷ all) d.at ≡ keeps_hold d) ds
all-behind x all [] far each = tt
all-behind x all (d ∷ ds) far each = (let other : oid_eq d.at x.at ≡ false = far.0 in rw other each.0, all-behind x all ds far.1 each.1)

each-its : (ds : List (Dbuf Kept)) → is_distinct dbuf_oid ds ≡ true → AllByRecursion (λ d. held_at ds d.at ≡ keeps_hold d) ds
each-its [] once = tt
each-its (x ∷ ds) once =
    let parts = and-parts (not (has_item dbuf_oid x.at ds)) (is_distinct dbuf_oid ds) once in
    (let same : oid_eq x.at x.at ≡ true = oid-same x.at in rw same refl, all-behind x ds ds (else-first x ds (not-true (has_item dbuf_oid x.at ds) parts.0)) (each-its ds parts.1))

holds-count : (k : Key) (held : Oid → Bool) (ds : List (Dbuf Kept)) → AllByRecursion (IsFit key_of bytes_of) ds → AllByRecursion (λ d. held d.at ≡ keeps_hold d) ds
    → holds_on k (holds_in key_of bytes_of is_held ds) ≡ count_by (λ (d : OutlineDbuf). (d.cached && is_under k d.mapped) && held d.at) (map outline_dbuf (map plain_dbuf ds))
holds-count k held [] fit each = refl
holds-count k held (d ∷ ds) fit each =
    let rest = holds-count k held ds fit.1 each.1 in
    let test : OutlineDbuf → Bool = λ d. (d.cached && is_under k d.mapped) && held d.at in
    let both : holds_on k (hold_in key_of bytes_of is_held d.kept ++ holds_in key_of bytes_of is_held ds) ≡ holds_on k (hold_in key_of bytes_of is_held d.kept) + holds_on k (holds_in key_of bytes_of is_held ds)
    = sum_by-append (λ (h : Ptr). cond {A = ℕ} (key_eq k h.key) 1 0) (hold_in key_of bytes_of is_held d.kept) (holds_in key_of bytes_of is_held ds) in
    let more : count_by test (outline_dbuf (plain_dbuf d) ∷ map outline_dbuf (map plain_dbuf ds)) ≡ cond {A = ℕ} (test (outline_dbuf (plain_dbuf d))) 1 0 + count_by test (map outline_dbuf (map plain_dbuf ds))
    = sum_by-cons (λ (y : OutlineDbuf). cond {A = ℕ} (test y) 1 0) (outline_dbuf (plain_dbuf d)) (map outline_dbuf (map plain_dbuf ds)) in
    let one : holds_on k (hold_in key_of bytes_of is_held d.kept) ≡ cond {A = ℕ} (test (outline_dbuf (plain_dbuf d))) 1 0
    = one-holds k d fit.0 ∙ ap (λ (b : Bool). cond {A = ℕ} ((plain.is_cached (plain_block d.content d.state) && is_under k (mapped_in (plain_block d.content d.state))) && b) 1 0) (sym each.0) in
    omega (arith, rest, both, more, one)

pub holds-stand : (b : OnHeap) → AllByRecursion (IsFit key_of bytes_of) b.value.dbufs → IsTrue (is_distinct dbuf_oid b.value.dbufs) → HoldsStand b
holds-stand b fit once = record {
  of_held = λ at held.
      let h = holder at b.value.dbufs held in
      (key_of h.kept, kept-cached b at h.dbuf h.kept h.found (fit-found at b.value.dbufs h.dbuf fit h.found) h.there, hold-counts (holds_of b.value) _ (kept-one at b.value.dbufs h.dbuf h.kept h.found h.there h.held));
  count = λ k. holds-count k (held_in b) b.value.dbufs fit (each-its b.value.dbufs once);
}

-- ---- evictions by what dbufs keep

-- a block that is cached behind an eviction was cached before it
cached-among : (at b : Oid) (ds : List OutlineDbuf) → option_map_or (λ (d : OutlineDbuf). d.cached) (item_at outline.dbuf_oid b (with_change outline.dbuf_oid at (λ d. record d { cached = false }) ds)) false ≡ true
    → option_map_or (λ (d : OutlineDbuf). d.cached) (item_at outline.dbuf_oid b ds) false ≡ true
cached-among at b [] on = on
cached-among at b (x ∷ ds) on = go (λ h. cached-among at b ds h) (bool_cases (oid_eq at x.at)) (bool_cases (oid_eq b x.at))
  where
    go : (option_map_or (λ (d : OutlineDbuf). d.cached) (item_at outline.dbuf_oid b (with_change outline.dbuf_oid at (λ d. record d { cached = false }) ds)) false ≡ true → option_map_or (λ (d : OutlineDbuf). d.cached) (item_at outline.dbuf_oid b ds) false ≡ true)
        → (oid_eq at x.at ≡ true) ⊎ (oid_eq at x.at ≡ false) → (oid_eq b x.at ≡ true) ⊎ (oid_eq b x.at ≡ false) → option_map_or (λ (d : OutlineDbuf). d.cached) (item_at outline.dbuf_oid b (x ∷ ds)) false ≡ true
    go ih (inl here) (inl mine) = let passes : false ≡ true = rw (here, mine) at on in absurd (false≢true passes)
    go ih (inl here) (inr other) = let passes : option_map_or (λ (d : OutlineDbuf). d.cached) (item_at outline.dbuf_oid b ds) false ≡ true = rw (here, other) at on in rw other passes
    go ih (inr far) (inl mine) = let passes : x.cached ≡ true = rw (far, mine) at on in rw mine passes
    go ih (inr far) (inr other) = rw other (ih (rw (far, other) at on))

cached-behind : (o : Outline) (n : ℕ) (at b : Oid) → is_cached_at b (after o (Evict n at)) ≡ true → is_cached_at b o ≡ true
cached-behind o n at b on = cached-among at b o.dbufs on

-- a turn is the same by each function that says which dbufs keep a hold
pub operates-as : {g : Config} {i : ℕ} {before : OnHeap} {own : List CellEvent} {es : List Event} {p q : PartyPlace} (held other : Oid → Bool) → ((b : Oid) → held b ≡ other b) → Operates g i before held own es p q → Operates g i before other own es p q
operates-as {g} {i} {before} {own} {es} {p} {q} held other alike = subst (λ (h : Oid → Bool). Operates g i before h own es p q) (λ z b. alike b z)

-- evictions are the same by each function that says of what is cached which dbufs keep a hold
pub evictions-held : (n c : ℕ) (held other : Oid → Bool) (o : Outline) (evs : List CellEvent) (es : List Event) → ((b : Oid) → is_cached_at b o ≡ true → held b ≡ other b) → AreEvictions n c held o evs es → AreEvictions n c other o evs es
evictions-held n c held other o [] es alike are = are
evictions-held n c held other o (e ∷ evs) es alike are = (
  are.0,
  are.1,
  are.2,
  are.3,
  are.4,
  are.5,
  are.6,
  are.7,
  subst (λ (h : Bool). are.2 ≡ drops_if h c are.1.key) (alike are.0 are.6) are.8,
  evictions-held n c held other (after o e) evs are.3 (λ b on. alike b (cached-behind o n are.0 b (subst (λ (x : CellEvent). is_cached_at b (after o x) ≡ true) are.4 on))) are.9,
)
