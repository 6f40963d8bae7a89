-- Each eviction leaves one evictable entry less, and each drop one droppable entry less, so their turns suffice.
use Rattle.std.proofs.Common.{◌≡◌, ℕ, zero, suc, ◌+◌, ◌≤◌, Bool, true, false, ◌&&◌, List, [], ◌∷◌, length, Option, Some, None, is_some, inl, inr, refl, sym, ap, subst, ◌∙◌, arith}
use Rattle.std.specs.Option.{option_map_or}
use Rattle.blk_ptr.specs.declared.key.Key.{Key}
use Rattle.blk_ptr.specs.Order.{key_eq}
use Rattle.blk_ptr.specs.State.{is_cached}
use Rattle.arc_lists.specs.ByKey.{item_at, with_change, without}
use Rattle.arc_lists.proofs.Standing.{and_right}
use Rattle.arc_lists.proofs.Tables.{cases_true, some_is}
use Rattle.arc_core.specs.declared.entry.Entry.{Entry}
use Rattle.arc_core.specs.PlainShard.{PlainShard, entry_key, is_unheld}
use Rattle.arc_core.specs.Changes.{changed, off_sequence}
use Rattle.arc_core.specs.Edits.{is_droppable, is_evictable}
use Rattle.arc_core.specs.Rules.{dropped, evicted, evicted_entry, evicting, next_dropped, next_evicted, trimmed, trimming, with_room}
use Rattle.arc_core.specs.Search.{count}
use Rattle.arc_core.specs.Sound.{IsTidy}
use Rattle.arc_core.proofs.Evictions.{at_head-entries, dropped-gone, dropped-placed, entry_of-is, found, l2_only, next_dropped-is, next_evicted-is}
use Rattle.arc_core.proofs.Sparing.{sparing-dropped, sparing-evicted, uncached}

module _ (test : Entry → Bool) where
  pub count-le : (es : List Entry) → count test es ≤ length es
  count-le [] = omega arith
  count-le (e ∷ es) = elim (cases_true (test e)) [
    | inl passes ↦ rw passes (omega (arith, count-le es))
    | inr fails ↦ rw fails (omega (arith, count-le es))
  ]

  -- an entry that passes and is changed to one that doesn't, or leaves
  count-changed : (k : Key) (change : Entry → Entry) (es : List Entry) (e : Entry) → item_at entry_key k es ≡ Some e → test e ≡ true → test (change e) ≡ false
      → count test (with_change entry_key k change es) + 1 ≡ count test es
  count-changed k change [] e item passes fails = cc
  count-changed k change (x ∷ xs) e item passes fails = elim (cases_true (key_eq x.key k)) [
    | inl same ↦
        let is : e ≡ x = sym (some_is (rw same at item)) in
        rw (same, subst (λ z. test z ≡ true) is passes, subst (λ z. test (change z) ≡ false) is fails) (omega arith)
    | inr differs ↦ rw differs (omega (arith, count-changed k change xs e (rw differs at item) passes fails))
  ]

  count-without : (k : Key) (es : List Entry) (e : Entry) → item_at entry_key k es ≡ Some e → test e ≡ true → count test (without entry_key k es) + 1 ≡ count test es
  count-without k [] e item passes = cc
  count-without k (x ∷ xs) e item passes = elim (cases_true (key_eq x.key k)) [
    | inl same ↦
        let is : e ≡ x = sym (some_is (rw same at item)) in
        rw (same, subst (λ z. test z ≡ true) is passes) (omega arith)
    | inr differs ↦ rw differs (omega (arith, count-without k xs e (rw differs at item) passes))
  ]

-- ---- room

unevictable : (e : Entry) → is_cached e.state ≡ true → is_evictable (evicted_entry e) ≡ false
unevictable e cached = go (is_unheld e) (uncached e.state cached)
  where
    go : (u : Bool) → is_cached (evicted_entry e).state ≡ false → (u && is_cached (evicted_entry e).state) ≡ false
    go true off = off
    go false off = refl

-- an eviction leaves one evictable entry less
pub count-evicted : (k : Key) (z : ℕ) (s : PlainShard) → IsTidy s → next_evicted z s ≡ Some k → count is_evictable (evicted k s).entries + 1 ≡ count is_evictable s.entries
count-evicted k z s tidy chosen =
    let e = entry_of-is is_evictable k s (next_evicted-is z s k tidy chosen) in
    ap (λ es. count is_evictable es + 1) (at_head-entries k (changed k evicted_entry (off_sequence k s)))
    ∙ count-changed is_evictable k evicted_entry s.entries e.0 e.1 e.2 (unevictable e.0 (and_right (is_unheld e.0) _ e.2))

evicting-ends : (n z : ℕ) (s : PlainShard) → IsTidy s → count is_evictable s.entries ≤ n → next_evicted z (evicting n z s) ≡ None
evicting-ends zero z s tidy few = go (next_evicted z s) refl
  where
    go : (o : Option Key) → next_evicted z s ≡ o → next_evicted z s ≡ None
    go None is = is
    go (Some k) is = absurd (omega (arith, count-evicted k z s tidy is))
evicting-ends (suc n) z s tidy few = go (next_evicted z s) refl (λ k. evicting-ends n z (evicted k s))
  where
    go : (o : Option Key) → next_evicted z s ≡ o → ((k : Key) → IsTidy (evicted k s) → count is_evictable (evicted k s).entries ≤ n → next_evicted z (evicting n z (evicted k s)) ≡ None)
        → next_evicted z (option_map_or (λ k. evicting n z (evicted k s)) o s) ≡ None
    go None is rest = is
    go (Some k) is rest = rest k (sparing-evicted k k z s tidy is).tidy (omega (arith, count-evicted k z s tidy is))

pub room-ends : (s : PlainShard) (z : ℕ) → IsTidy s → next_evicted z (with_room z s) ≡ None
room-ends s z tidy = evicting-ends (length s.entries) z s tidy (count-le is_evictable s.entries)

-- ---- trim

undroppable : (u : Bool) → (u && false) ≡ false
undroppable true = refl
undroppable false = refl

-- a drop leaves one droppable entry less
pub count-dropped : (k : Key) (s : PlainShard) → IsTidy s → next_dropped s ≡ Some k → count is_droppable (dropped k s).entries + 1 ≡ count is_droppable s.entries
count-dropped k s tidy chosen =
    let e = entry_of-is is_droppable k s (next_dropped-is s k tidy chosen) in
    let key = (found k s e.0 tidy (sym e.1)).key in
    elim (cases_true (is_some e.0.place)) [
      | inl place ↦
          ap (λ (t : PlainShard). count is_droppable t.entries + 1) (dropped-placed k s e.0 e.1 place)
          ∙ ap (λ h. count is_droppable (with_change entry_key h (λ old. l2_only e.0) s.entries) + 1) key
          ∙ count-changed is_droppable k (λ old. l2_only e.0) s.entries e.0 e.1 e.2 (undroppable (is_unheld e.0))
      | inr none ↦
          ap (λ (t : PlainShard). count is_droppable t.entries + 1) (dropped-gone k s e.0 e.1 none)
          ∙ count-without is_droppable k s.entries e.0 e.1 e.2
    ]

trimming-ends : (n : ℕ) (s : PlainShard) → IsTidy s → count is_droppable s.entries ≤ n → next_dropped (trimming n s) ≡ None
trimming-ends zero s tidy few = go (next_dropped s) refl
  where
    go : (o : Option Key) → next_dropped s ≡ o → next_dropped s ≡ None
    go None is = is
    go (Some k) is = absurd (omega (arith, count-dropped k s tidy is))
trimming-ends (suc n) s tidy few = go (next_dropped s) refl (λ k. trimming-ends n (dropped k s))
  where
    go : (o : Option Key) → next_dropped s ≡ o → ((k : Key) → IsTidy (dropped k s) → count is_droppable (dropped k s).entries ≤ n → next_dropped (trimming n (dropped k s)) ≡ None)
        → next_dropped (option_map_or (λ k. trimming n (dropped k s)) o s) ≡ None
    go None is rest = is
    go (Some k) is rest = rest k (sparing-dropped k k s tidy is).tidy (omega (arith, count-dropped k s tidy is))

pub trim-ends : (s : PlainShard) → IsTidy s → next_dropped (trimmed s) ≡ None
trim-ends s tidy = trimming-ends (length s.entries) s tidy (count-le is_droppable s.entries)
