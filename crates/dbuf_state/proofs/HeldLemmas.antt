-- Which dbufs keep a hold: as a history tells it that goes on, and what a change of a dbuf leaves of it.
use Rattle.std.proofs.Common.{◌≡◌, ◌⊎◌, ℕ, ◌+◌, ◌&&◌, Bool, true, false, if◌then◌else◌, List, [], ◌∷◌, ◌++◌, length, map, Option, Some, None, refl, sym, ap, ◌∙◌, inl, inr, arith}
use Rattle.std.proofs.lemmas.Bool.{false≢true}
use Rattle.std.proofs.lemmas.Bool.Decides.{nat_tests}
use Rattle.dbuf_state.specs.CellLog.{CellLog, fresh, noted, touched}
use Rattle.dbuf_state.specs.Dbufs.{DbufHas, dbuf_at, dbuf_is, dbuf_oid, used_at, with_dbuf}
use Rattle.dbuf_state.specs.Held.{MappedTells, TellsHolds, held_after, held_by, held_since, keeps_hold}
use Rattle.dbuf_state.specs.Objects.{use_of}
use Rattle.dbuf_state.specs.Oids.{has_item, oid_eq, with_item}
use Rattle.dbuf_state.specs.declared.dbuf.Content.TheVariants.{Clean}
use Rattle.dbuf_state.specs.declared.dbuf.Dbuf.{Dbuf}
use Rattle.dbuf_state.specs.declared.event.CellEvent.{CellEvent}
use Rattle.dbuf_state.specs.declared.oid.Oid.{Oid}
use Rattle.dbuf_state.specs.declared.state.DbState.TheVariants as state
use Rattle.dbuf_state.specs.declared.state.Mapping.{Mapping}
use Rattle.dbuf_state.proofs.CellLemmas.{oid_eq-sym}
use Rattle.dbuf_state.proofs.IndexLemmas.{bool_cases}

-- ---- histories

pub since-behind : (at : Oid) (before : Bool) (es fs : List CellEvent) → held_since at before (es ++ fs) ≡ held_since at (held_since at before es) fs
since-behind at before [] fs = refl
since-behind at before (e ∷ es) fs = since-behind at (held_after at before e) es fs

-- one event more
pub told-more : (at : Oid) (es : List CellEvent) (e : CellEvent) → held_by at (es ++ e ∷ []) ≡ held_after at (held_by at es) e
told-more at es e = since-behind at false es (e ∷ [])

-- ---- tests

oid-one : (a b : Oid) → oid_eq a b ≡ true → a ≡ b
oid-one a b h = grind (arith, nat_tests)

and-false : (a : Bool) → (a && false) ≡ false
and-false true = refl
and-false false = refl

and-true : (a : Bool) → (a && true) ≡ a
and-true true = refl
and-true false = refl

if-true : (c x y : Bool) → c ≡ true → (if c then x else y) ≡ x
if-true true x y e = refl
if-true false x y e = absurd (false≢true e)

if-false : (c x y : Bool) → c ≡ false → (if c then x else y) ≡ y
if-false true x y e = absurd (false≢true (sym e))
if-false false x y e = refl

if-same : (c x : Bool) → (if c then x else x) ≡ x
if-same true x = refl
if-same false x = refl

-- ---- a dbuf is changed

module _ {H : Type 0} (is_held : H → Bool) where
  abbrev holds : List (Dbuf H) → Oid → Bool
  holds ds b = dbuf_is (keeps_hold is_held) b ds

  module _ (at : Oid) (f : Dbuf H → Dbuf H) (same : (d : Dbuf H) → (f d).at ≡ d.at) where
    -- not in what it keeps
    pub held-same : ((d : Dbuf H) → keeps_hold is_held (f d) ≡ keeps_hold is_held d) → (ds : List (Dbuf H)) (b : Oid) → dbuf_is (keeps_hold is_held) b (with_dbuf at f ds) ≡ dbuf_is (keeps_hold is_held) b ds
    held-same alike [] b = refl
    held-same alike (x ∷ ds) b = go (held-same alike ds b) (bool_cases (oid_eq at x.at)) (bool_cases (oid_eq b x.at))
      where
        go : holds (with_dbuf at f ds) b ≡ holds ds b → (oid_eq at x.at ≡ true) ⊎ (oid_eq at x.at ≡ false) → (oid_eq b x.at ≡ true) ⊎ (oid_eq b x.at ≡ false) → holds (with_dbuf at f (x ∷ ds)) b ≡ holds (x ∷ ds) b
        go rest (inl here) (inl mine) = let its : oid_eq b (f x).at ≡ true = ap (oid_eq b) (same x) ∙ mine in rw (here, its, mine) (alike x)
        go rest (inl here) (inr other) = let its : oid_eq b (f x).at ≡ false = ap (oid_eq b) (same x) ∙ other in rw (here, its, other) refl
        go rest (inr far) (inl mine) = rw (far, mine) refl
        go rest (inr far) (inr other) = rw (far, other) rest

    -- whether a hold is kept then
    held-changed : (h : Bool) → ((d : Dbuf H) → keeps_hold is_held (f d) ≡ h) → (ds : List (Dbuf H)) (b : Oid) → holds (with_dbuf at f ds) b ≡ (if oid_eq b at then h && has_item dbuf_oid at ds else holds ds b)
    held-changed h is [] b = sym (ap (λ (x : Bool). if oid_eq b at then x else false) (and-false h) ∙ if-same (oid_eq b at) false)
    held-changed h is (x ∷ ds) b = go (held-changed h is ds b) (bool_cases (oid_eq at x.at)) (bool_cases (oid_eq b x.at))
      where
        go : holds (with_dbuf at f ds) b ≡ (if oid_eq b at then h && has_item dbuf_oid at ds else holds ds b) → (oid_eq at x.at ≡ true) ⊎ (oid_eq at x.at ≡ false) → (oid_eq b x.at ≡ true) ⊎ (oid_eq b x.at ≡ false)
            → holds (with_dbuf at f (x ∷ ds)) b ≡ (if oid_eq b at then h && has_item dbuf_oid at (x ∷ ds) else holds (x ∷ ds) b)
        go rest (inl here) (inl mine) =
            let its : oid_eq b (f x).at ≡ true = ap (oid_eq b) (same x) ∙ mine in
            let near : oid_eq b at ≡ true = ap (oid_eq b) (oid-one at x.at here) ∙ mine in
            rw (here, its, mine) (is x ∙ sym (if-true (oid_eq b at) (h && true) (keeps_hold is_held x) near ∙ and-true h))
        go rest (inl here) (inr other) =
            let its : oid_eq b (f x).at ≡ false = ap (oid_eq b) (same x) ∙ other in
            let apart : oid_eq b at ≡ false = ap (oid_eq b) (oid-one at x.at here) ∙ other in
            rw (here, its, other) (sym (if-false (oid_eq b at) (h && true) (holds ds b) apart))
        go rest (inr far) (inl mine) =
            let apart : oid_eq b at ≡ false = oid_eq-sym b at ∙ (ap (oid_eq at) (oid-one b x.at mine) ∙ far) in
            rw (far, mine) (sym (if-false (oid_eq b at) (h && has_item dbuf_oid at ds) (keeps_hold is_held x) apart))
        go rest (inr far) (inr other) = rw (far, other) rest

    -- it lets go what it kept
    pub held-cleared : ((d : Dbuf H) → keeps_hold is_held (f d) ≡ false) → (ds : List (Dbuf H)) (b : Oid) → dbuf_is (keeps_hold is_held) b (with_dbuf at f ds) ≡ (if oid_eq b at then false else dbuf_is (keeps_hold is_held) b ds)
    held-cleared = held-changed false

    -- it keeps something else
    pub held-set : (h : Bool) → ((d : Dbuf H) → keeps_hold is_held (f d) ≡ h) → (P : Dbuf H → Type 0) → (ds : List (Dbuf H)) → DbufHas P (dbuf_at at ds) → (b : Oid)
        → dbuf_is (keeps_hold is_held) b (with_dbuf at f ds) ≡ (if oid_eq b at then h else dbuf_is (keeps_hold is_held) b ds)
    held-set h is P ds there b = held-changed h is ds b ∙ ap (λ (x : Bool). if oid_eq b at then x else holds ds b) (go (dbuf_at at ds) refl there)
      where
        go : (o : Option (Dbuf H)) → dbuf_at at ds ≡ o → DbufHas P o → (h && has_item dbuf_oid at ds) ≡ h
        go None found has = absurd has
        go (Some d) found has = rw found (and-true h)

    -- the same where a dbuf may be added, which keeps none
    pub held-item : ((d : Dbuf H) → keeps_hold is_held (f d) ≡ false) → (new : Dbuf H) → new.at ≡ at → keeps_hold is_held new ≡ false → (ds : List (Dbuf H)) (b : Oid)
        → dbuf_is (keeps_hold is_held) b (with_item dbuf_oid at f new ds) ≡ (if oid_eq b at then false else dbuf_is (keeps_hold is_held) b ds)
    held-item off new its-oid none [] b = go (bool_cases (oid_eq b new.at))
      where
        go : (oid_eq b new.at ≡ true) ⊎ (oid_eq b new.at ≡ false) → holds (new ∷ []) b ≡ (if oid_eq b at then false else false)
        go (inl mine) = rw mine (none ∙ sym (if-same (oid_eq b at) false))
        go (inr other) = rw other (sym (if-same (oid_eq b at) false))
    held-item off new its-oid none (x ∷ ds) b = go (held-item off new its-oid none ds b) (bool_cases (oid_eq at x.at)) (bool_cases (oid_eq b x.at))
      where
        go : holds (with_item dbuf_oid at f new ds) b ≡ (if oid_eq b at then false else holds ds b) → (oid_eq at x.at ≡ true) ⊎ (oid_eq at x.at ≡ false) → (oid_eq b x.at ≡ true) ⊎ (oid_eq b x.at ≡ false)
            → holds (with_item dbuf_oid at f new (x ∷ ds)) b ≡ (if oid_eq b at then false else holds (x ∷ ds) b)
        go rest (inl here) (inl mine) =
            let its : oid_eq b (f x).at ≡ true = ap (oid_eq b) (same x) ∙ mine in
            let near : oid_eq b at ≡ true = ap (oid_eq b) (oid-one at x.at here) ∙ mine in
            rw (here, its, mine) (off x ∙ sym (if-true (oid_eq b at) false (keeps_hold is_held x) near))
        go rest (inl here) (inr other) =
            let its : oid_eq b (f x).at ≡ false = ap (oid_eq b) (same x) ∙ other in
            let apart : oid_eq b at ≡ false = ap (oid_eq b) (oid-one at x.at here) ∙ other in
            rw (here, its, other) (sym (if-false (oid_eq b at) false (holds ds b) apart))
        go rest (inr far) (inl mine) =
            let apart : oid_eq b at ≡ false = oid_eq-sym b at ∙ (ap (oid_eq at) (oid-one b x.at mine) ∙ far) in
            rw (far, mine) (sym (if-false (oid_eq b at) false (keeps_hold is_held x) apart))
        go rest (inr far) (inr other) = rw (far, other) rest

  -- the last use says nothing of it
  pub held-used : (tick : ℕ) (used : Option Oid) (ds : List (Dbuf H)) (b : Oid) → dbuf_is (keeps_hold is_held) b (touched tick used ds) ≡ dbuf_is (keeps_hold is_held) b ds
  held-used tick None ds b = refl
  held-used tick (Some at) ds b = held-same at (used_at tick) (λ d. refl) (λ d. refl) ds b

  -- every dbuf is changed, and none in what it keeps
  pub held-map : (f : Dbuf H → Dbuf H) → ((d : Dbuf H) → (f d).at ≡ d.at) → ((d : Dbuf H) → keeps_hold is_held (f d) ≡ keeps_hold is_held d) → (ds : List (Dbuf H)) (b : Oid)
      → dbuf_is (keeps_hold is_held) b (map f ds) ≡ dbuf_is (keeps_hold is_held) b ds
  held-map f same alike [] b = refl
  held-map f same alike (x ∷ ds) b = go (held-map f same alike ds b) (bool_cases (oid_eq b x.at))
    where
      go : holds (map f ds) b ≡ holds ds b → (oid_eq b x.at ≡ true) ⊎ (oid_eq b x.at ≡ false) → holds (map f (x ∷ ds)) b ≡ holds (x ∷ ds) b
      go rest (inl mine) = let its : oid_eq b (f x).at ≡ true = ap (oid_eq b) (same x) ∙ mine in rw (its, mine) (alike x)
      go rest (inr other) = let its : oid_eq b (f x).at ≡ false = ap (oid_eq b) (same x) ∙ other in rw (its, other) rest

  -- ---- cells

  -- An event more is told, where the dbufs keep what the event says.
  pub tells-more : (c : CellLog H) (e : CellEvent) (ds : List (Dbuf H)) → TellsHolds is_held c → ((b : Oid) → dbuf_is (keeps_hold is_held) b ds ≡ held_after b (dbuf_is (keeps_hold is_held) b c.dbufs) e)
      → TellsHolds is_held (noted e (record c { dbufs = ds }))
  tells-more c e ds tells step b =
      held-used (length c.history + 1) (use_of e) ds b ∙ (step b ∙ (ap (λ (h : Bool). held_after b h e) (tells b) ∙ sym (told-more b c.history e)))

  none-kept : (ms : List Mapping) (at : Oid) → dbuf_is (keeps_hold is_held) at (map (λ m. fresh {H = H} m.at (Clean m.ptr) state.Uncached) ms) ≡ false
  none-kept [] at = refl
  none-kept (m ∷ ms) at = elim (bool_cases (oid_eq at m.at)) [
    | inl here ↦ rw here refl
    | inr far ↦ rw far (none-kept ms at)
  ]

  -- a cell to which nothing was done but to map Oids
  pub mapped-tells : MappedTells is_held
  mapped-tells c first mapped at = rw (first, mapped) (none-kept c.opening at)
