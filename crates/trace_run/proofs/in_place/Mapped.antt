-- What the object map has of a block, event by event.
use Rattle.std.proofs.Common.{◌≡◌, ℕ, ◌+◌, ◌≤◌, Bool, true, false, List, [], ◌∷◌, map, Option, Some, None, IfSome, refl, sym, ap, ◌∙◌, inl, inr, arith, if◌then◌else◌}
use Rattle.std.specs.List.{list_any}
use Rattle.std.specs.Option.{option_map}
use Rattle.std.proofs.lemmas.Bool.Decides.{nat_tests}
use Rattle.arc_lists.proofs.Tables.{cases_true}
use Rattle.blk_ptr.specs.declared.ptr.Ptr.{Ptr}
use Rattle.dbuf_state.specs.Objects.{opened, opening_cell, use_of}
use Rattle.dbuf_state.specs.Oids.{item_at, oid_eq, with_item}
use Rattle.dbuf_state.specs.Outline.{Outline, OutlineDbuf, after, after_all, dirtied, mapped_at, mapped_size, outline_after, outline_dbuf, outline_of, touched}
use Rattle.dbuf_state.specs.Outline as outline
use Rattle.dbuf_state.specs.declared.event.CellEvent.{CellEvent}
use Rattle.dbuf_state.specs.declared.event.CellEvent.TheVariants.{Get, Put, Patch, Pin, Unpin, Load, Evict, Synced, End}
use Rattle.dbuf_state.specs.declared.oid.Oid.{Oid}
use Rattle.dbuf_state.specs.declared.state.Mapped.{Mapped}
use Rattle.dbuf_state.specs.declared.state.Mapped.TheVariants.{Clean, Dirty}
use Rattle.dbuf_state.specs.declared.state.Mapping.{Mapping}
use Rattle.dbuf_cells.specs.Laws.{is_put_of}
use Rattle.trace_run.specs.InPlace.{opened_ptr}

pub oid-is : (a b : Oid) → oid_eq a b ≡ true → a ≡ b
oid-is a b h = grind (arith, nat_tests)

abbrev mapped_in : Oid → List OutlineDbuf → Option Mapped
mapped_in at ds = option_map (λ (d : OutlineDbuf). d.mapped) (item_at outline.dbuf_oid at ds)

-- what it has of the block behind an event, where it had this
abbrev pub mapped_then : Oid → Option Mapped → CellEvent → Option Mapped
mapped_then at m (Put n b size fill) = if oid_eq at b then Some (Dirty size) else m
mapped_then at m (Patch n b from bytes) = if oid_eq at b then option_map (λ x. Dirty (mapped_size x)) m else m
mapped_then at m (Synced n b ptr held) = if oid_eq at b then option_map (λ x. Clean ptr) m else m
mapped_then at m (Get n b) = m
mapped_then at m (Pin n b) = m
mapped_then at m (Unpin n b) = m
mapped_then at m (Load n b held) = m
mapped_then at m (Evict n b) = m
mapped_then at m (End n) = m

abbrev pub mapped_through : Oid → Option Mapped → List CellEvent → Option Mapped
mapped_through at m [] = m
mapped_through at m (e ∷ es) = mapped_through at (mapped_then at m e) es

-- ---- one change

-- of a dbuf of some Oid, whose block becomes this
changes : (at b : Oid) (f : OutlineDbuf → OutlineDbuf) (g : Mapped → Mapped) → ((d : OutlineDbuf) → (f d).at ≡ d.at) → ((d : OutlineDbuf) → (f d).mapped ≡ g d.mapped) → (ds : List OutlineDbuf)
    → mapped_in at (outline.changed b f ds) ≡ (if oid_eq at b then option_map g (mapped_in at ds) else mapped_in at ds)
changes at b f g same maps [] = elim (cases_true (oid_eq at b)) [
  | inl here ↦ rw here refl
  | inr far ↦ rw far refl
]
changes at b f g same maps (d ∷ ds) = elim (cases_true (oid_eq b d.at)) [
  | inl here ↦
      let is : b ≡ d.at = oid-is b d.at here in
      elim (cases_true (oid_eq at d.at)) [
        | inl near ↦ rw here (rw (same d) (rw near (rw is (rw near (ap (λ (m : Mapped). Some m) (maps d))))))
        | inr far ↦ rw here (rw (same d) (rw far (rw is (rw far refl))))
      ]
  | inr past ↦
      let rest = changes at b f g same maps ds in
      elim (cases_true (oid_eq at d.at)) [
        | inl near ↦
            let is : at ≡ d.at = oid-is at d.at near in
            elim (cases_true (oid_eq at b)) [
              | inl both ↦ absurd (let e : at ≡ b = oid-is at b both in let clash : true ≡ false = sym near ∙ (ap (λ (x : Oid). oid_eq x d.at) e ∙ past) in cc)
              | inr other ↦ rw past (rw near (rw other refl))
            ]
        | inr far ↦ rw past (rw far rest)
      ]
]

-- whose block stays
stays : (at b : Oid) (f : OutlineDbuf → OutlineDbuf) → ((d : OutlineDbuf) → (f d).at ≡ d.at) → ((d : OutlineDbuf) → (f d).mapped ≡ d.mapped) → (ds : List OutlineDbuf) → mapped_in at (outline.changed b f ds) ≡ mapped_in at ds
stays at b f same maps [] = refl
stays at b f same maps (d ∷ ds) = elim (cases_true (oid_eq b d.at)) [
  | inl here ↦
      elim (cases_true (oid_eq at d.at)) [
        | inl near ↦ rw here (rw (same d) (rw near (ap (λ (m : Mapped). Some m) (maps d))))
        | inr far ↦ rw here (rw (same d) (rw far refl))
      ]
  | inr past ↦
      let rest = stays at b f same maps ds in
      elim (cases_true (oid_eq at d.at)) [
        | inl near ↦ rw past (rw near refl)
        | inr far ↦ rw past (rw far rest)
      ]
]

-- a whole write
written : (at b : Oid) (n : ℕ) (new : OutlineDbuf) → new.at ≡ b → new.mapped ≡ Dirty n → (ds : List OutlineDbuf)
    → mapped_in at (with_item outline.dbuf_oid b (dirtied n) new ds) ≡ (if oid_eq at b then Some (Dirty n) else mapped_in at ds)
written at b n new of sized [] = elim (cases_true (oid_eq at b)) [
  | inl here ↦ rw of (rw here (ap (λ (m : Mapped). Some m) sized))
  | inr far ↦ rw of (rw far refl)
]
written at b n new of sized (d ∷ ds) = elim (cases_true (oid_eq b d.at)) [
  | inl here ↦
      let is : b ≡ d.at = oid-is b d.at here in
      elim (cases_true (oid_eq at d.at)) [
        | inl near ↦ rw here (rw near (rw is (rw near refl)))
        | inr far ↦ rw here (rw far (rw is (rw far refl)))
      ]
  | inr past ↦
      let rest = written at b n new of sized ds in
      elim (cases_true (oid_eq at d.at)) [
        | inl near ↦
            let is : at ≡ d.at = oid-is at d.at near in
            elim (cases_true (oid_eq at b)) [
              | inl both ↦ absurd (let e : at ≡ b = oid-is at b both in let clash : true ≡ false = sym near ∙ (ap (λ (x : Oid). oid_eq x d.at) e ∙ past) in cc)
              | inr other ↦ rw past (rw near (rw other refl))
            ]
        | inr far ↦ rw past (rw far rest)
      ]
]

-- ---- one event

touches : (at : Oid) (tick : ℕ) (used : Option Oid) (ds : List OutlineDbuf) → mapped_in at (touched tick used ds) ≡ mapped_in at ds
touches at tick None ds = refl
touches at tick (Some b) ds = stays at b (λ d. record d { used = tick }) (λ d. refl) (λ d. refl) ds

ends : (at : Oid) (ds : List OutlineDbuf) → mapped_in at (map outline.ended ds) ≡ mapped_in at ds
ends at [] = refl
ends at (d ∷ ds) = elim (cases_true (oid_eq at d.at)) [
  | inl near ↦ rw near refl
  | inr far ↦ rw far (ends at ds)
]

effects : (at : Oid) (ds : List OutlineDbuf) (e : CellEvent) → mapped_in at (outline.effect ds e) ≡ mapped_then at (mapped_in at ds) e
effects at ds (Get n b) = refl
effects at ds (Put n b size fill) = written at b size _ refl refl ds
effects at ds (Patch n b from bytes) = changes at b (λ d. dirtied (mapped_size d.mapped) d) (λ m. Dirty (mapped_size m)) (λ d. refl) (λ d. refl) ds
effects at ds (Pin n b) = stays at b _ (λ d. refl) (λ d. refl) ds
effects at ds (Unpin n b) = stays at b _ (λ d. refl) (λ d. refl) ds
effects at ds (Load n b held) = stays at b _ (λ d. refl) (λ d. refl) ds
effects at ds (Evict n b) = stays at b _ (λ d. refl) (λ d. refl) ds
effects at ds (Synced n b ptr held) = changes at b (λ d. record d { mapped = Clean ptr; cached = true }) (λ m. Clean ptr) (λ d. refl) (λ d. refl) ds
effects at ds (End n) = ends at ds

-- ---- a history

pub mapped-after : (at : Oid) (o : Outline) (e : CellEvent) → mapped_at at (after o e) ≡ mapped_then at (mapped_at at o) e
mapped-after at o e = touches at (o.events + 1) (use_of e) (outline.effect o.dbufs e) ∙ effects at o.dbufs e

pub mapped-all : (at : Oid) (o : Outline) (es : List CellEvent) → mapped_at at (after_all o es) ≡ mapped_through at (mapped_at at o) es
mapped-all at o [] = refl
mapped-all at o (e ∷ es) =
    mapped-all at (after o e) es ∙ ap (λ (m : Option Mapped). mapped_through at m es) (mapped-after at o e)

-- what it has at first
abbrev pub opened_mapped : Oid → List Mapping → Option Mapped
opened_mapped at ms = option_map (λ (ptr : Ptr). Clean ptr) (opened_ptr at ms)

opens : (at : Oid) (ms : List Mapping) → mapped_in at (map outline_dbuf (map opened ms)) ≡ opened_mapped at ms
opens at [] = refl
opens at (m ∷ ms) = elim (cases_true (oid_eq at m.at)) [
  | inl here ↦ rw here refl
  | inr far ↦ rw far (opens at ms)
]

pub mapped-told : (at : Oid) (limit : ℕ) (opening : List Mapping) (es : List CellEvent) → mapped_at at (outline_after limit opening es) ≡ mapped_through at (opened_mapped at opening) es
mapped-told at limit opening es = mapped-all at (outline_of (opening_cell limit opening)) es ∙ ap (λ (m : Option Mapped). mapped_through at m es) (opens at opening)

-- ---- what there is once there is something

-- a sync noted that it wrote the block
abbrev pub is_synced : CellEvent → Bool
is_synced (Get n b) = false
is_synced (Put n b size fill) = false
is_synced (Patch n b from bytes) = false
is_synced (Pin n b) = false
is_synced (Unpin n b) = false
is_synced (Load n b held) = false
is_synced (Evict n b) = false
is_synced (Synced n b ptr held) = true
is_synced (End n) = false

-- once there is something, there is
then-some : (at : Oid) (m : Mapped) (e : CellEvent) → (x : Mapped) × (mapped_then at (Some m) e ≡ Some x)
then-some at m (Put n b size fill) = elim (cases_true (oid_eq at b)) [
  | inl here ↦ (Dirty size, rw here refl)
  | inr far ↦ (m, rw far refl)
]
then-some at m (Patch n b from bytes) = elim (cases_true (oid_eq at b)) [
  | inl here ↦ (Dirty (mapped_size m), rw here refl)
  | inr far ↦ (m, rw far refl)
]
then-some at m (Synced n b ptr held) = elim (cases_true (oid_eq at b)) [
  | inl here ↦ (Clean ptr, rw here refl)
  | inr far ↦ (m, rw far refl)
]
then-some at m (Get n b) = (m, refl)
then-some at m (Pin n b) = (m, refl)
then-some at m (Unpin n b) = (m, refl)
then-some at m (Load n b held) = (m, refl)
then-some at m (Evict n b) = (m, refl)
then-some at m (End n) = (m, refl)

pub through-some : (at : Oid) (m : Mapped) (es : List CellEvent) → mapped_through at (Some m) es ≡ None → ⊥
through-some at m [] is = let clash : ◌≡◌ {A = Option Mapped} (Some m) None = is in cc
through-some at m (e ∷ es) is = let s = then-some at m e in through-some at s.0 es (ap (λ (o : Option Mapped). mapped_through at o es) (sym s.1) ∙ is)

-- a whole write leaves the block dirty
put-dirty : (at : Oid) (m : Option Mapped) (e : CellEvent) → is_put_of at e ≡ true → (size : ℕ) × (mapped_then at m e ≡ Some (Dirty size))
put-dirty at m (Put n b size fill) is = (size, rw is refl)
put-dirty at m (Patch n b from bytes) is = absurd (let clash : false ≡ true = is in cc)
put-dirty at m (Synced n b ptr held) is = absurd (let clash : false ≡ true = is in cc)
put-dirty at m (Get n b) is = absurd (let clash : false ≡ true = is in cc)
put-dirty at m (Pin n b) is = absurd (let clash : false ≡ true = is in cc)
put-dirty at m (Unpin n b) is = absurd (let clash : false ≡ true = is in cc)
put-dirty at m (Load n b held) is = absurd (let clash : false ≡ true = is in cc)
put-dirty at m (Evict n b) is = absurd (let clash : false ≡ true = is in cc)
put-dirty at m (End n) is = absurd (let clash : false ≡ true = is in cc)

-- behind one the block is mapped
pub put-mapped : (at : Oid) (m : Option Mapped) (es : List CellEvent) → list_any (is_put_of at) es ≡ true → mapped_through at m es ≡ None → ⊥
put-mapped at m [] has is = let clash : false ≡ true = has in cc
put-mapped at m (e ∷ es) has is = elim (cases_true (is_put_of at e)) [
  | inl here ↦ let d = put-dirty at m e here in through-some at (Dirty d.0) es (ap (λ (o : Option Mapped). mapped_through at o es) (sym d.1) ∙ is)
  | inr other ↦ put-mapped at (mapped_then at m e) es (rw other at has) is
]

-- ---- its size

-- so many bytes end inside each whole write of the block
abbrev pub EndsInPut : (at : Oid) (last : ℕ) → CellEvent → Type 0
EndsInPut at last (Put n b size fill) = oid_eq at b ≡ true → last ≤ size
EndsInPut at last (Get n b) = Unit {0}
EndsInPut at last (Patch n b from bytes) = Unit {0}
EndsInPut at last (Pin n b) = Unit {0}
EndsInPut at last (Unpin n b) = Unit {0}
EndsInPut at last (Load n b held) = Unit {0}
EndsInPut at last (Evict n b) = Unit {0}
EndsInPut at last (Synced n b ptr held) = Unit {0}
EndsInPut at last (End n) = Unit {0}

abbrev pub EndsIn : (last : ℕ) → Option Mapped → Type 0
EndsIn last o = IfSome o (λ m. last ≤ mapped_size m)

-- and inside what a patch leaves
pub patched-in : (last : ℕ) (m : Option Mapped) → EndsIn last m → EndsIn last (option_map (λ x. Dirty (mapped_size x)) m)
patched-in last None ends = tt
patched-in last (Some m) ends = ends
