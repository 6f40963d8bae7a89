-- What is mapped, and its size, as the opening and the events tell it.
use Rattle.std.proofs.Common.{◌≡◌, ℕ, ◌+◌, Bool, true, false, not, nat_lt, IsTrue, if◌then◌else◌, List, [], ◌∷◌, map, count_by, Option, Some, None, refl, sym, ap, ◌∙◌, subst, inl, inr, arith}
use Rattle.std.proofs.lemmas.Bool.Decides.{nat_tests}
use Rattle.std.specs.List.{list_all}
use Rattle.std.specs.Option.{option_map, option_map_or}
use Rattle.blk_ptr.specs.declared.ptr.Ptr.{Ptr}
use Rattle.dbuf_state.specs.History.{Leads}
use Rattle.dbuf_state.specs.Objects.{Block, Cached, Dirty, Evicting, IsBase, IsLegal, IsWritten, IsWrittenAt, Never, PlainCell, PlainDbuf, Uncached, opened, opening_cell, use_of}
use Rattle.dbuf_state.specs.Objects as plain
use Rattle.dbuf_state.specs.Oids.{item_at, oid_eq, with_item}
use Rattle.dbuf_state.specs.Outline.{Outline, OutlineDbuf, after, dirtied, has_pin_at, is_end, is_pin_of, is_unpin_of, mapped_at, mapped_in, mapped_size, outline_after, outline_dbuf, outline_of, pins_at, touched}
use Rattle.dbuf_state.specs.Outline as outline
use Rattle.dbuf_state.specs.Soundness.{IsSound, plain_cell}
use Rattle.dbuf_state.specs.declared.event.CellEvent.{CellEvent}
use Rattle.dbuf_state.specs.declared.event.CellEvent.TheVariants.{Get, Put, Patch, Pin, Unpin, Load, Evict, Synced, End}
use Rattle.dbuf_state.specs.declared.oid.Oid.{Oid}
use Rattle.dbuf_state.specs.declared.state.Mapped.{Mapped}
use Rattle.dbuf_state.specs.declared.state.Mapped.TheVariants as mapped
use Rattle.dbuf_state.specs.declared.state.Mapping.{Mapping}
use Rattle.dbuf_state.proofs.Changes.{view-found}
use Rattle.dbuf_state.proofs.IndexLemmas.{and-both, and-parts, bool_cases}
use Rattle.dbuf_state.proofs.OutlineLemmas.{leads-outline, outline-follows}
use Rattle.dbuf_state.proofs.PinLemmas.{pins-are-counted}
use Rattle.dbuf_cells.specs.Laws.{CellsAreTold, MappedSizesPass, is_put_of, opened_size, put_size, size_after, size_at, told_size}
use Rattle.dbuf_cells.specs.Turns.{OnHeap, outline_in}
use Rattle.dbuf_cells.proofs.CellSteps.{oid-is}

-- the size of the block among these
abbrev size_in : Oid → List OutlineDbuf → Option ℕ
size_in at ds = option_map (λ (d : OutlineDbuf). mapped_size d.mapped) (item_at outline.dbuf_oid at ds)

-- ---- what leaves each size

-- a change of a dbuf that leaves its Oid and its size
keeps : (at b : Oid) (f : OutlineDbuf → OutlineDbuf) → ((d : OutlineDbuf) → (f d).at ≡ d.at) → (ds : List OutlineDbuf) → ((d : OutlineDbuf) → item_at outline.dbuf_oid b ds ≡ Some d → mapped_size (f d).mapped ≡ mapped_size d.mapped)
    → size_in at (outline.changed b f ds) ≡ size_in at ds
keeps at b f same [] size = refl
keeps at b f same (d ∷ ds) size = elim (bool_cases (oid_eq b d.at)) [
  | inl here ↦
      let sized : mapped_size (f d).mapped ≡ mapped_size d.mapped = size d (rw here refl) in
      elim (bool_cases (oid_eq at d.at)) [
        | inl near ↦ rw here (rw (same d) (rw near (ap (λ (n : ℕ). Some n) sized)))
        | inr far ↦ rw here (rw (same d) (rw far refl))
      ]
  | inr past ↦
      let rest = keeps at b f same ds (λ x found. size x (rw past found)) in
      elim (bool_cases (oid_eq at d.at)) [
        | inl near ↦ rw past (rw near refl)
        | inr far ↦ rw past (rw far rest)
      ]
]

keeps-touched : (at : Oid) (tick : ℕ) (used : Option Oid) (ds : List OutlineDbuf) → size_in at (touched tick used ds) ≡ size_in at ds
keeps-touched at tick None ds = refl
keeps-touched at tick (Some b) ds = keeps at b (λ d. record d { used = tick }) (λ d. refl) ds (λ d found. refl)

keeps-ended : (at : Oid) (ds : List OutlineDbuf) → size_in at (map outline.ended ds) ≡ size_in at ds
keeps-ended at [] = refl
keeps-ended at (d ∷ ds) = elim (bool_cases (oid_eq at d.at)) [
  | inl near ↦ rw near refl
  | inr far ↦ rw far (keeps-ended at ds)
]

-- ---- a whole write

written : (at b : Oid) (n : ℕ) (new : OutlineDbuf) → new.at ≡ b → mapped_size new.mapped ≡ n → (ds : List OutlineDbuf) → size_in at (with_item outline.dbuf_oid b (dirtied n) new ds) ≡ (if oid_eq at b then Some n else size_in at ds)
written at b n new of sized [] = elim (bool_cases (oid_eq at b)) [
  | inl here ↦ rw of (rw here (ap (λ (k : ℕ). Some k) sized))
  | inr far ↦ rw of (rw far refl)
]
written at b n new of sized (d ∷ ds) = elim (bool_cases (oid_eq b d.at)) [
  | inl here ↦
      let is : b ≡ d.at = oid-is b d.at here in
      elim (bool_cases (oid_eq at d.at)) [
        | inl near ↦ rw here (rw near (rw is (rw near refl)))
        | inr far ↦ rw here (rw far (rw is (rw far refl)))
      ]
  | inr past ↦
      let rest = written at b n new of sized ds in
      elim (bool_cases (oid_eq at d.at)) [
        | inl near ↦
            let is : at ≡ d.at = oid-is at d.at near in
            elim (bool_cases (oid_eq at b)) [
              | inl both ↦ absurd (let e : at ≡ b = oid-is at b both in let clash : true ≡ false = sym near ∙ (ap (λ (x : Oid). oid_eq x d.at) e ∙ past) in cc)
              | inr other ↦ rw past (rw near (rw other refl))
            ]
        | inr far ↦ rw past (rw far rest)
      ]
]

-- ---- one event

-- what a sync notes is the pointer of as many bytes as the block has
abbrev FitsSync : List OutlineDbuf → CellEvent → Type 0
FitsSync ds (Synced n b ptr held) = (d : OutlineDbuf) → item_at outline.dbuf_oid b ds ≡ Some d → ptr.key.size ≡ mapped_size d.mapped
FitsSync ds (Get n b) = Unit {0}
FitsSync ds (Put n b most fill) = Unit {0}
FitsSync ds (Patch n b from bytes) = Unit {0}
FitsSync ds (Pin n b) = Unit {0}
FitsSync ds (Unpin n b) = Unit {0}
FitsSync ds (Load n b held) = Unit {0}
FitsSync ds (Evict n b) = Unit {0}
FitsSync ds (End n) = Unit {0}

effect-size : (at : Oid) (ds : List OutlineDbuf) (e : CellEvent) → FitsSync ds e → size_in at (outline.effect ds e) ≡ size_after at (size_in at ds) e
effect-size at ds (Get n b) fits = refl
effect-size at ds (Put n b most fill) fits = written at b most _ refl refl ds
effect-size at ds (Patch n b from bytes) fits = keeps at b _ (λ d. refl) ds (λ d found. refl)
effect-size at ds (Pin n b) fits = keeps at b _ (λ d. refl) ds (λ d found. refl)
effect-size at ds (Unpin n b) fits = keeps at b _ (λ d. refl) ds (λ d found. refl)
effect-size at ds (Load n b held) fits = keeps at b _ (λ d. refl) ds (λ d found. refl)
effect-size at ds (Evict n b) fits = keeps at b _ (λ d. refl) ds (λ d found. refl)
effect-size at ds (Synced n b ptr held) fits = keeps at b (λ d. record d { mapped = mapped.Clean ptr; cached = true }) (λ d. refl) ds (λ d found. fits d found)
effect-size at ds (End n) fits = keeps-ended at ds

-- what is legal fits
block-size : (ptr : Ptr) (block : Block) → IsWritten ptr block → ptr.key.size ≡ mapped_size (mapped_in block)
block-size ptr (Uncached old) of = absurd of
block-size ptr (Cached old) of = absurd of
block-size ptr (Dirty bytes) of = sym of.size

synced-fits : (c : PlainCell) (b : Oid) (ptr : Ptr) → IsWrittenAt ptr (plain.dbuf_at b c) → (d : OutlineDbuf) → item_at outline.dbuf_oid b (outline_of c).dbufs ≡ Some d → ptr.key.size ≡ mapped_size d.mapped
synced-fits c b ptr of d found = go (plain.dbuf_at b c) of (sym (view-found plain.dbuf_oid outline.dbuf_oid outline_dbuf (λ x. refl) b c.dbufs) ∙ found)
  where
    some-is : (x y : OutlineDbuf) → ◌≡◌ {A = Option OutlineDbuf} (Some x) (Some y) → x ≡ y
    some-is x y e = cc

    go : (o : Option PlainDbuf) → IsWrittenAt ptr o → option_map outline_dbuf o ≡ Some d → ptr.key.size ≡ mapped_size d.mapped
    go None w e = absurd w
    go (Some x) w e = block-size ptr x.block w ∙ ap (λ (y : OutlineDbuf). mapped_size y.mapped) (some-is (outline_dbuf x) d e)

legal-fits : (c : PlainCell) (e : CellEvent) → IsLegal c e → FitsSync (outline_of c).dbufs e
legal-fits c (Get n b) legal = tt
legal-fits c (Put n b most fill) legal = tt
legal-fits c (Patch n b from bytes) legal = tt
legal-fits c (Pin n b) legal = tt
legal-fits c (Unpin n b) legal = tt
legal-fits c (Load n b held) legal = tt
legal-fits c (Evict n b) legal = tt
legal-fits c (Synced n b ptr held) legal = synced-fits c b ptr legal.1
legal-fits c (End n) legal = tt

after-size : (at : Oid) (c : PlainCell) (e : CellEvent) → IsLegal c e → size_in at (after (outline_of c) e).dbufs ≡ size_after at (size_in at (outline_of c).dbufs) e
after-size at c e legal = keeps-touched at (c.events + 1) (use_of e) (outline.effect (outline_of c).dbufs e) ∙ effect-size at (outline_of c).dbufs e (legal-fits c e legal)

-- ---- a history

leads-size : (at : Oid) (c : PlainCell) (es : List CellEvent) (bases : List (List ℕ)) (end : PlainCell) → Leads c es bases end → size_in at (outline_of end).dbufs ≡ told_size at (size_in at (outline_of c).dbufs) es
leads-size at c [] bases end leads = ap (λ (x : PlainCell). size_in at (outline_of x).dbufs) leads.1
leads-size at c (e ∷ es) bases end leads =
    leads-size at (plain.after leads.1.0 c e) es leads.1.1 end leads.1.4
    ∙ ap (λ (s : Option ℕ). told_size at s es) (ap (λ (o : Outline). size_in at o.dbufs) (outline-follows c e leads.1.0 leads.0 leads.1.3) ∙ after-size at c e leads.0)

opened-size : (at : Oid) (ms : List Mapping) → size_in at (map outline_dbuf (map opened ms)) ≡ opened_size at ms
opened-size at [] = refl
opened-size at (m ∷ ms) = elim (bool_cases (oid_eq at m.at)) [
  | inl here ↦ rw here refl
  | inr far ↦ rw far (opened-size at ms)
]

-- ---- a block that was never mapped

mapped-of : (at : Oid) (o : Outline) → size_at at o ≡ size_in at o.dbufs
mapped-of at o = go (item_at outline.dbuf_oid at o.dbufs)
  where
    go : (x : Option OutlineDbuf) → option_map mapped_size (option_map (λ (d : OutlineDbuf). d.mapped) x) ≡ option_map (λ (d : OutlineDbuf). mapped_size d.mapped) x
    go None = refl
    go (Some d) = refl

none-size : (at : Oid) (o : Outline) → size_at at o ≡ None → mapped_at at o ≡ None
none-size at o e = go (mapped_at at o) e
  where
    go : (x : Option Mapped) → option_map mapped_size x ≡ None → x ≡ None
    go None e = refl
    go (Some m) e = let clash : ◌≡◌ {A = Option ℕ} (Some (mapped_size m)) None = e in cc

size-none : (at : Oid) (o : Outline) → mapped_at at o ≡ None → size_at at o ≡ None
size-none at o e = ap (option_map mapped_size) e

opened-none : (at : Oid) (ms : List Mapping) → opened_size at ms ≡ None → IsTrue (list_all (λ m. not (oid_eq at m.at)) ms)
opened-none at [] e = refl
opened-none at (m ∷ ms) e = elim (bool_cases (oid_eq at m.at)) [
  | inl here ↦ absurd (let clash : ◌≡◌ {A = Option ℕ} (Some m.ptr.key.size) None = rw here at e in cc)
  | inr far ↦ and-both _ _ (ap not far) (opened-none at ms (rw far at e))
]

none-opened : (at : Oid) (ms : List Mapping) → IsTrue (list_all (λ m. not (oid_eq at m.at)) ms) → opened_size at ms ≡ None
none-opened at [] h = refl
none-opened at (m ∷ ms) h = elim (bool_cases (oid_eq at m.at)) [
  | inl here ↦ absurd (let clash : false ≡ true = sym (ap not here) ∙ (and-parts (not (oid_eq at m.at)) _ h).0 in cc)
  | inr far ↦ rw far (none-opened at ms (and-parts (not (oid_eq at m.at)) _ h).1)
]

-- once there is a size, there is one
after-some : (at : Oid) (n : ℕ) (e : CellEvent) → (k : ℕ) × (size_after at (Some n) e ≡ Some k)
after-some at n (Get m b) = (n, refl)
after-some at n (Put m b most fill) = elim (bool_cases (oid_eq at b)) [
  | inl here ↦ (most, rw here refl)
  | inr far ↦ (n, rw far refl)
]
after-some at n (Patch m b from bytes) = (n, refl)
after-some at n (Pin m b) = (n, refl)
after-some at n (Unpin m b) = (n, refl)
after-some at n (Load m b held) = (n, refl)
after-some at n (Evict m b) = (n, refl)
after-some at n (Synced m b ptr held) = (n, refl)
after-some at n (End m) = (n, refl)

told-some : (at : Oid) (n : ℕ) (es : List CellEvent) → told_size at (Some n) es ≡ None → ⊥
told-some at n [] e = let clash : ◌≡◌ {A = Option ℕ} (Some n) None = e in cc
told-some at n (x ∷ xs) e = let s = after-some at n x in told-some at s.0 xs (ap (λ (o : Option ℕ). told_size at o xs) (sym s.1) ∙ e)

after-none : (at : Oid) (e : CellEvent) → is_put_of at e ≡ false → size_after at None e ≡ None
after-none at (Get m b) other = refl
after-none at (Put m b most fill) other = rw other refl
after-none at (Patch m b from bytes) other = refl
after-none at (Pin m b) other = refl
after-none at (Unpin m b) other = refl
after-none at (Load m b held) other = refl
after-none at (Evict m b) other = refl
after-none at (Synced m b ptr held) other = refl
after-none at (End m) other = refl

put-some : (at : Oid) (o : Option ℕ) (e : CellEvent) → is_put_of at e ≡ true → (k : ℕ) × (size_after at o e ≡ Some k)
put-some at o (Get m b) is = absurd (let clash : false ≡ true = is in cc)
put-some at o (Put m b most fill) is = (most, rw is refl)
put-some at o (Patch m b from bytes) is = absurd (let clash : false ≡ true = is in cc)
put-some at o (Pin m b) is = absurd (let clash : false ≡ true = is in cc)
put-some at o (Unpin m b) is = absurd (let clash : false ≡ true = is in cc)
put-some at o (Load m b held) is = absurd (let clash : false ≡ true = is in cc)
put-some at o (Evict m b) is = absurd (let clash : false ≡ true = is in cc)
put-some at o (Synced m b ptr held) is = absurd (let clash : false ≡ true = is in cc)
put-some at o (End m) is = absurd (let clash : false ≡ true = is in cc)

told-none : (at : Oid) (o : Option ℕ) (es : List CellEvent) → told_size at o es ≡ None → (o ≡ None) × IsTrue (list_all (λ e. not (is_put_of at e)) es)
told-none at (Some n) es e = absurd (told-some at n es e)
told-none at None [] e = (refl, refl)
told-none at None (x ∷ xs) e = elim (bool_cases (is_put_of at x)) [
  | inl is ↦ absurd (let s = put-some at None x is in told-some at s.0 xs (ap (λ (o : Option ℕ). told_size at o xs) (sym s.1) ∙ e))
  | inr other ↦ let r = told-none at None xs (ap (λ (o : Option ℕ). told_size at o xs) (sym (after-none at x other)) ∙ e) in (refl, and-both _ _ (ap not other) r.1)
]

none-told : (at : Oid) (es : List CellEvent) → IsTrue (list_all (λ e. not (is_put_of at e)) es) → told_size at None es ≡ None
none-told at [] h = refl
none-told at (x ∷ xs) h = elim (bool_cases (is_put_of at x)) [
  | inl is ↦ absurd (let clash : false ≡ true = sym (ap not is) ∙ (and-parts (not (is_put_of at x)) _ h).0 in cc)
  | inr other ↦ ap (λ (o : Option ℕ). told_size at o xs) (after-none at x other) ∙ none-told at xs (and-parts (not (is_put_of at x)) _ h).1
]

-- ---- the laws

cell-size : (b : OnHeap) (at : Oid) → IsSound b.value → size_at at (outline_in b) ≡ told_size at (opened_size at b.value.opening) b.value.history
cell-size b at sound =
    mapped-of at (outline_in b) ∙ (leads-size at (opening_cell b.value.limit b.value.opening) b.value.history sound.bases (plain_cell sound.evicting b.value) sound.history.legal
    ∙ ap (λ (s : Option ℕ). told_size at s b.value.history) (opened-size at b.value.opening))

pins-told : (b : OnHeap) (at : Oid) → IsSound b.value → (n : ℕ) → IsTrue (list_all (λ e. not (is_end e)) b.value.history)
    → has_pin_at n at (outline_in b) ≡ nat_lt (count_by (is_unpin_of n at) b.value.history) (count_by (is_pin_of n at) b.value.history)
pins-told b at sound n goes =
    let counted = pins-are-counted b.value.limit b.value.opening b.value.history sound.bases (plain_cell sound.evicting b.value) n at sound.history.legal goes in
    let o = leads-outline (opening_cell b.value.limit b.value.opening) b.value.history sound.bases (plain_cell sound.evicting b.value) sound.history.legal in
    ap (λ (x : Outline). has_pin_at n at x) o ∙ (counted.some ∙ more (pins_at n at (outline_after b.value.limit b.value.opening b.value.history)) (count_by (is_unpin_of n at) b.value.history) (count_by (is_pin_of n at) b.value.history) counted.count)
  where
    more : (a u p : ℕ) → a + u ≡ p → nat_lt 0 a ≡ nat_lt u p
    more a u p e = grind (arith, nat_tests)

pub cells-told : CellsAreTold
cells-told b at sound = record {
  size = cell-size b at sound;
  none = (
    λ e. let t = told-none at (opened_size at b.value.opening) b.value.history (sym (cell-size b at sound) ∙ size-none at (outline_in b) e) in record { opening = opened-none at b.value.opening t.0; puts = t.1 },
    λ never. none-size at (outline_in b) (cell-size b at sound ∙ (ap (λ (s : Option ℕ). told_size at s b.value.history) (none-opened at b.value.opening never.opening) ∙ none-told at b.value.history never.puts)),
  );
  pins = pins-told b at sound;
}

-- ---- sizes that pass a test

abbrev Passes : (test : ℕ → Bool) → Option ℕ → Type 0
Passes test o = IsTrue (option_map_or test o true)

opened-pass : (test : ℕ → Bool) (at : Oid) (ms : List Mapping) → IsTrue (list_all (λ m. test m.ptr.key.size) ms) → Passes test (opened_size at ms)
opened-pass test at [] h = refl
opened-pass test at (m ∷ ms) h = elim (bool_cases (oid_eq at m.at)) [
  | inl here ↦ rw here (and-parts (test m.ptr.key.size) _ h).0
  | inr far ↦ rw far (opened-pass test at ms (and-parts (test m.ptr.key.size) _ h).1)
]

after-pass : (test : ℕ → Bool) (at : Oid) (o : Option ℕ) (e : CellEvent) → Passes test o → Passes test (put_size e) → Passes test (size_after at o e)
after-pass test at o (Get m b) h p = h
after-pass test at o (Put m b most fill) h p = elim (bool_cases (oid_eq at b)) [
  | inl here ↦ rw here p
  | inr far ↦ rw far h
]
after-pass test at o (Patch m b from bytes) h p = h
after-pass test at o (Pin m b) h p = h
after-pass test at o (Unpin m b) h p = h
after-pass test at o (Load m b held) h p = h
after-pass test at o (Evict m b) h p = h
after-pass test at o (Synced m b ptr held) h p = h
after-pass test at o (End m) h p = h

told-pass : (test : ℕ → Bool) (at : Oid) (o : Option ℕ) (es : List CellEvent) → Passes test o → IsTrue (list_all (λ e. option_map_or test (put_size e) true) es) → Passes test (told_size at o es)
told-pass test at o [] h all = h
told-pass test at o (e ∷ es) h all = let parts = and-parts (option_map_or test (put_size e) true) _ all in told-pass test at (size_after at o e) es (after-pass test at o e h parts.0) parts.1

pub mapped-sizes-pass : MappedSizesPass
mapped-sizes-pass test b at size sound pass is =
    subst (Passes test) (sym (cell-size b at sound) ∙ is) (told-pass test at (opened_size at b.value.opening) b.value.history (opened-pass test at b.value.opening pass.opening) pass.puts)
