-- A scan that goes on as far as the keys are marked finds the first that isn't.
use Rattle.std.proofs.Common.{◌≡◌, ℕ, zero, suc, ◌+◌, ◌<◌, length, arith, true, false, List, [], ◌∷◌, ◌++◌, Option, Some, None, inl, inr, refl, sym, ap, subst, ◌∙◌, length-append}
use Rattle.std.specs.Option.{option_map_or}
use Rattle.blk_ptr.specs.declared.key.Key.{Key}
use Rattle.blk_ptr.specs.declared.state.State.{State}
use Rattle.blk_ptr.specs.declared.state.State.TheVariants.{Mru, MruGhost, Mfu, MfuGhost}
use Rattle.arc_lists.specs.Sequences.{is_distinct, stands_on, without_key}
use Rattle.arc_lists.specs.Walks.{first_of}
use Rattle.arc_lists.proofs.Tables.{some_is}
use Rattle.arc_core.specs.declared.table.scan.Kind.{Kind}
use Rattle.arc_core.specs.declared.table.scan.Scan.{Scan}
use Rattle.arc_core.specs.Cursor.{IsKindOf, IsScanOf, dropped_by, evicted_by, first_unmarked, size_by, with_size}
use Rattle.arc_core.specs.Edits.{is_droppable}
use Rattle.arc_core.specs.PlainShard.{PlainShard}
use Rattle.arc_core.specs.Rules.{dropped, evicted, evicting, next_dropped, next_evicted}
use Rattle.arc_core.specs.Scan.{PlainKind, PlainScan, from_next, going, going_but, kind_in}
use Rattle.arc_core.specs.Search.{AreLeft, AtRoom, AtTrim}
use Rattle.arc_core.specs.Sound.{IsTidy}
use Rattle.arc_core.specs.Sparing.{dropped_by_trim, drops, evictions}
use Rattle.arc_core.proofs.CursorSteps.{distinct-going, mfu-ghost, mfu-next, mru-ghost, mru-next}
use Rattle.arc_core.proofs.Ending.{count-dropped, count-evicted, count-le}
use Rattle.arc_core.proofs.Scan.{dropped-turn, evicted-turn, next_dropped-scan, next_evicted-scan, scan-dropped_mfu, scan-dropped_mru, scan-evicted_mfu, scan-evicted_mru, without-first}

module _ (about : Option Key) (s : PlainShard) (tidy : IsTidy s) where
  -- what is chosen by the cursor is what the shard chooses
  pub chosen-evicted : (z : ℕ) (x : Scan) (t : PlainShard) → IsScanOf about s x t → evicted_by z x ≡ next_evicted z t
  chosen-evicted z x t at =
      let mru = sym (mru-next about s tidy x t at) in
      let mfu = sym (mfu-next about s tidy x t at) in
      rw (at.c, at.p, at.anon, at.mru.size, at.mfu.size, mru, mfu) (sym (next_evicted-scan z t))

  pub chosen-dropped : (x : Scan) (t : PlainShard) → IsScanOf about s x t → dropped_by x ≡ next_dropped t
  chosen-dropped x t at =
      let mru = sym (mru-ghost about s tidy x t at) in
      let mfu = sym (mfu-ghost about s tidy x t at) in
      rw (at.c, at.mru.size, at.mru.ghost_size, at.mfu.ghost_size, mru, mfu) (sym (next_dropped-scan t))

-- ---- the keys that are left, counted by the cursor

-- what is still to be walked in a kind
abbrev pub left_in : (keys ghosts : List Key) → Kind → ℕ
left_in keys ghosts x = length (from_next x.next keys)

abbrev pub ghosts_left_in : (keys ghosts : List Key) → Kind → ℕ
ghosts_left_in keys ghosts x = length (from_next x.old_ghost ghosts) + length (from_next x.evicted keys)

abbrev pub left_of : Option Key → PlainShard → Scan → ℕ
left_of about s x = length (from_next x.mru.next (going_but about Mru s)) + length (from_next x.mfu.next (going_but about Mfu s))

abbrev pub ghosts_left_of : Option Key → PlainShard → Scan → ℕ
ghosts_left_of about s x = ghosts_left_in (going_but about Mru s) (going_but about MruGhost s) x.mru + ghosts_left_in (going_but about Mfu s) (going_but about MfuGhost s) x.mfu

left-is : (about : Option Key) (s : PlainShard) (x : Scan) (t : PlainShard) → IsScanOf about s x t → left_of about s x ≡ length (going Mru t) + length (going Mfu t)
left-is about s x t at = omega (arith, ap length at.mru.next, ap length at.mfu.next)

-- a key that heads distinct ones, taken out
one-less : (k : Key) (xs : List Key) → first_of xs ≡ Some k → (ys : List Key) × (xs ≡ k ∷ ys)
one-less k [] is = cc
one-less k (x ∷ xs) is = (xs, ap (λ h. h ∷ xs) (some_is is))

fewer-going : (state : State) (k : Key) (t : PlainShard) → IsTidy t → first_of (going state t) ≡ Some k → length (without_key k (going state t)) + 1 ≡ length (going state t)
fewer-going state k t tidy first =
    let ys = one-less k (going state t) first in
    let less : without_key k (going state t) ≡ ys.0 = ap (without_key k) ys.1 ∙ without-first k ys.0 (subst (λ l. is_distinct l ≡ true) ys.1 (distinct-going state t tidy)) in
    omega (arith, ap length less, ap length ys.1)

pub fewer-evicted : (about : Option Key) (s : PlainShard) (x y : Scan) (z : ℕ) (t : PlainShard) (k : Key) → IsScanOf about s x t → next_evicted z t ≡ Some k → IsScanOf about s y (evicted k t)
    → left_of about s y < left_of about s x
fewer-evicted about s x y z t k at chosen after = elim (evicted-turn z k t at.tidy chosen) [
  | inl turn ↦
      let is = scan-evicted_mru k t (evicted k t) turn.moves in
      omega (arith, left-is about s x t at, left-is about s y (evicted k t) after, ap (λ (v : PlainScan). length v.mru.keys) is, ap (λ (v : PlainScan). length v.mfu.keys) is, fewer-going Mru k t at.tidy turn.heads.first)
  | inr turn ↦
      let is = scan-evicted_mfu k t (evicted k t) turn.moves in
      omega (arith, left-is about s x t at, left-is about s y (evicted k t) after, ap (λ (v : PlainScan). length v.mru.keys) is, ap (λ (v : PlainScan). length v.mfu.keys) is, fewer-going Mfu k t at.tidy turn.heads.first)
]

ghosts-left-is : (keys ghosts : List Key) (x : Kind) (v : PlainKind) → IsKindOf keys ghosts x v → ghosts_left_in keys ghosts x ≡ length v.ghosts + length v.keys
ghosts-left-is keys ghosts x v at =
    omega (arith, ap length at.next, ap length at.line, ap length at.old, length-append at.gone (from_next x.next keys), length-append (from_next x.old_ghost ghosts) at.gone)

pub fewer-dropped : (about : Option Key) (s : PlainShard) (x y : Scan) (t : PlainShard) (k : Key) → IsScanOf about s x t → next_dropped t ≡ Some k → IsScanOf about s y (dropped k t)
    → ghosts_left_of about s y < ghosts_left_of about s x
fewer-dropped about s x y t k at chosen after =
    let mru = ghosts-left-is (going_but about Mru s) (going_but about MruGhost s) x.mru (kind_in Mru MruGhost t) at.mru in
    let mfu = ghosts-left-is (going_but about Mfu s) (going_but about MfuGhost s) x.mfu (kind_in Mfu MfuGhost t) at.mfu in
    let mru' = ghosts-left-is (going_but about Mru s) (going_but about MruGhost s) y.mru (kind_in Mru MruGhost (dropped k t)) after.mru in
    let mfu' = ghosts-left-is (going_but about Mfu s) (going_but about MfuGhost s) y.mfu (kind_in Mfu MfuGhost (dropped k t)) after.mfu in
    elim (dropped-turn k t at.tidy chosen) [
      | inl turn ↦
          let is = scan-dropped_mru k t (dropped k t) turn.moves in
          omega (arith, mru, mfu, mru', mfu', ap (λ (v : PlainScan). length v.mru.keys) is, ap (λ (v : PlainScan). length v.mru.ghosts) is, ap (λ (v : PlainScan). length v.mfu.keys) is, ap (λ (v : PlainScan). length v.mfu.ghosts) is, fewer-going MruGhost k t at.tidy turn.heads.first)
      | inr turn ↦
          let is = scan-dropped_mfu k t (dropped k t) turn.moves in
          omega (arith, mru, mfu, mru', mfu', ap (λ (v : PlainScan). length v.mru.keys) is, ap (λ (v : PlainScan). length v.mru.ghosts) is, ap (λ (v : PlainScan). length v.mfu.keys) is, ap (λ (v : PlainScan). length v.mfu.ghosts) is, fewer-going MfuGhost k t at.tidy turn.heads.first)
    ]

-- ---- a search through what room evicts

some-turn : (n : ℕ) → 0 < n → (m : ℕ) × (n ≡ suc m)
some-turn zero some = absurd (omega (arith, some))
some-turn (suc m) some = (m, refl)

module _ (about : Option Key) (s : PlainShard) (marked : List Key) (z : ℕ) (comes : State) (vs : List Key) (x : Scan) (on : AtRoom about s marked z comes vs x) where
  evictions-none : (m : ℕ) → next_evicted z on.at ≡ None → evictions m z on.at ≡ []
  evictions-none zero none = refl
  evictions-none (suc m) none = rw none refl

  evicting-none : (m : ℕ) → next_evicted z on.at ≡ None → evicting m z on.at ≡ on.at
  evicting-none zero none = refl
  evicting-none (suc m) none = rw none refl

  -- room is made
  pub room-made : next_evicted z on.at ≡ None → IsScanOf about s (with_size comes (size_by comes x + z) x) on.behind
  room-made none = on.enters x (subst (IsScanOf about s x) (sym (evicting-none on.turns none)) on.scan)

  pub room-left : next_evicted z on.at ≡ None → AreLeft marked vs (dropped_by_trim on.behind)
  room-left none = λ more covers. on.left more covers ∙ ap (λ l. first_unmarked more (l ++ dropped_by_trim on.behind)) (evictions-none on.turns none)

  pub room-ends : next_evicted z on.at ≡ None → AtTrim about s marked vs (with_size comes (size_by comes x + z) x)
  room-ends none = record {
    at = on.behind;
    turns = length on.behind.entries;
    scan = room-made none;
    enough = omega (arith, count-le is_droppable on.behind.entries);
    left = room-left none;
  }

  turn-left : (k : Key) → next_evicted z on.at ≡ Some k → (m : ℕ) × (on.turns ≡ suc m)
  turn-left k chosen = some-turn on.turns (omega (arith, on.enough, count-evicted k z on.at on.scan.tidy chosen))

  turn-is : (k : Key) (m : ℕ) → next_evicted z on.at ≡ Some k → on.turns ≡ suc m → evictions on.turns z on.at ≡ k ∷ evictions m z (evicted k on.at)
  turn-is k m chosen turns = ap (λ u. evictions u z on.at) turns ∙ ap (λ o. option_map_or (λ h. h ∷ evictions m z (evicted h on.at)) o []) chosen

  pub room-found : (k : Key) → next_evicted z on.at ≡ Some k → stands_on k marked ≡ false → Some k ≡ first_unmarked marked vs
  room-found k chosen unmarked =
      let m = turn-left k chosen in
      let here : first_unmarked marked ((k ∷ evictions m.0 z (evicted k on.at)) ++ dropped_by_trim on.behind) ≡ Some k = rw unmarked refl in
      sym (on.left marked (λ j there. there) ∙ ap (λ l. first_unmarked marked (l ++ dropped_by_trim on.behind)) (turn-is k m.0 chosen m.1) ∙ here)

  pub room-more : (y : Scan) (k : Key) → next_evicted z on.at ≡ Some k → stands_on k marked ≡ true → IsScanOf about s y (evicted k on.at) → AtRoom about s marked z comes vs y
  room-more y k chosen there after =
      let m = turn-left k chosen in
      let rest = evictions m.0 z (evicted k on.at) ++ dropped_by_trim on.behind in
      let over : (more : List Key) → stands_on k more ≡ true → first_unmarked more (k ∷ rest) ≡ first_unmarked more rest = λ more in_more. rw in_more refl in
      let whole : evicting on.turns z on.at ≡ evicting m.0 z (evicted k on.at) =
      ap (λ u. evicting u z on.at) m.1 ∙ ap (λ o. option_map_or (λ h. evicting m.0 z (evicted h on.at)) o on.at) chosen in
      record {
        at = evicted k on.at;
        turns = m.0;
        behind = on.behind;
        scan = after;
        enough = omega (arith, on.enough, m.1, count-evicted k z on.at on.scan.tidy chosen);
        left = λ more covers. on.left more covers ∙ ap (λ l. first_unmarked more (l ++ dropped_by_trim on.behind)) (turn-is k m.0 chosen m.1) ∙ over more (covers k there);
        enters = λ w at. on.enters w (subst (IsScanOf about s w) (sym whole) at);
      }

-- ---- a search through what trim drops

module _ (about : Option Key) (s : PlainShard) (marked vs : List Key) (x : Scan) (on : AtTrim about s marked vs x) where
  drops-none : (m : ℕ) → next_dropped on.at ≡ None → drops m on.at ≡ []
  drops-none zero none = refl
  drops-none (suc m) none = rw none refl

  pub trim-none : next_dropped on.at ≡ None → None ≡ first_unmarked marked vs
  trim-none none = sym (on.left marked (λ j there. there) ∙ ap (first_unmarked marked) (drops-none on.turns none))

  drop-left : (k : Key) → next_dropped on.at ≡ Some k → (m : ℕ) × (on.turns ≡ suc m)
  drop-left k chosen = some-turn on.turns (omega (arith, on.enough, count-dropped k on.at on.scan.tidy chosen))

  drop-is : (k : Key) (m : ℕ) → next_dropped on.at ≡ Some k → on.turns ≡ suc m → drops on.turns on.at ≡ k ∷ drops m (dropped k on.at)
  drop-is k m chosen turns = ap (λ u. drops u on.at) turns ∙ ap (λ o. option_map_or (λ h. h ∷ drops m (dropped h on.at)) o []) chosen

  pub trim-found : (k : Key) → next_dropped on.at ≡ Some k → stands_on k marked ≡ false → Some k ≡ first_unmarked marked vs
  trim-found k chosen unmarked =
      let m = drop-left k chosen in
      let here : first_unmarked marked (k ∷ drops m.0 (dropped k on.at)) ≡ Some k = rw unmarked refl in
      sym (on.left marked (λ j there. there) ∙ ap (first_unmarked marked) (drop-is k m.0 chosen m.1) ∙ here)

  pub trim-more : (y : Scan) (k : Key) → next_dropped on.at ≡ Some k → stands_on k marked ≡ true → IsScanOf about s y (dropped k on.at) → AtTrim about s marked vs y
  trim-more y k chosen there after =
      let m = drop-left k chosen in
      let over : (more : List Key) → stands_on k more ≡ true → first_unmarked more (k ∷ drops m.0 (dropped k on.at)) ≡ first_unmarked more (drops m.0 (dropped k on.at)) = λ more in_more. rw in_more refl in
      record {
        at = dropped k on.at;
        turns = m.0;
        scan = after;
        enough = omega (arith, on.enough, m.1, count-dropped k on.at on.scan.tidy chosen);
        left = λ more covers. on.left more covers ∙ ap (first_unmarked more) (drop-is k m.0 chosen m.1) ∙ over more (covers k there);
      }
