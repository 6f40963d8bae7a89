-- A scan follows a shard through evictions and drops.
use Rattle.std.proofs.Common.{◌≡◌, ℕ, ◌+◌, ◌^◌, ◌≤◌, ◌<◌, length, arith, Bool, true, false, not, if◌then◌else◌, is_some, IsTrue, List, [], ◌∷◌, map, Option, Some, None, MatchOption, ◌⊎◌, inl, inr, refl, sym, ap, subst, ◌∙◌}
use Rattle.std.specs.List.{AllByRecursion}
use Rattle.std.proofs.lemmas.Bool.{false≢true}
use Rattle.std.proofs.lemmas.Bool.Decides.{nat_tests}
use Rattle.std.proofs.lemmas.List.{length-map}
use Rattle.blk_ptr.specs.declared.key.Key.{Key}
use Rattle.blk_ptr.specs.declared.state.State.{State}
use Rattle.blk_ptr.specs.declared.state.State.TheVariants.{Mru, MruGhost, Mfu, MfuGhost}
use Rattle.blk_ptr.specs.Key.{is_well_formed}
use Rattle.blk_ptr.specs.Size.{largest_block}
use Rattle.blk_ptr.proofs.Keys.{key_eq-is, key_eq-same}
use Rattle.arc_lists.specs.ByKey.{with_change, without}
use Rattle.arc_lists.specs.Room.{or_else}
use Rattle.arc_lists.specs.Sequences.{is_distinct, sequence_of, stands_on}
use Rattle.arc_lists.specs.Walks.{first_of, oldest_first}
use Rattle.arc_lists.proofs.SizeSums.{size_of-le}
use Rattle.arc_lists.proofs.Tables.{cases_true, length-with_change, length-without}
use Rattle.arc_core.specs.declared.entry.Entry.{Entry}
use Rattle.arc_core.specs.declared.table.scan.Kind.{Kind}
use Rattle.arc_core.specs.declared.table.scan.Scan.{Scan}
use Rattle.arc_core.specs.Cursor.{IsKindOf, IsScanOf, behind_dropped, behind_evicted, is_at, is_same_key, oldest_ghost}
use Rattle.arc_core.specs.PlainShard.{PlainShard, entry_key, is_passed, member_of, size_in}
use Rattle.arc_core.specs.Changes.{changed, off_sequence}
use Rattle.arc_core.specs.Rules.{dropped, evicted, evicted_entry, next_dropped, next_evicted}
use Rattle.arc_core.specs.Scan.{PlainKind, PlainScan, going, going_but, kind_in, may_go}
use Rattle.arc_core.specs.Sound.{IsSoundEntry, IsTidy}
use Rattle.arc_core.proofs.Cursor.{ghost-first, kind-dropped, kind-evicted, next-first}
use Rattle.arc_core.proofs.Evictions.{at_head-entries, dropped-gone, dropped-placed, entry-le, l2_only}
use Rattle.arc_core.proofs.Scan.{Heads, distinct-filter, dropped-turn, evicted-turn, filter-stands, scan-dropped_mfu, scan-dropped_mru, scan-evicted_mfu, scan-evicted_mru}
use Rattle.arc_core.proofs.Scanning.{distinct-oldest, first-stands, oldest-in}
use Rattle.arc_core.proofs.Sparing.{sparing-dropped, sparing-evicted}

-- ---- sizes are within what u128 has

pub small-key : (k : Key) → IsTrue (is_well_formed k) → k.size ≤ largest_block
small-key k formed = grind (arith, nat_tests)

small-entries : (es : List Entry) → AllByRecursion IsSoundEntry es → AllByRecursion (λ m. m.key.size ≤ largest_block) (map member_of es)
small-entries [] all = tt
small-entries (e ∷ es) all = (small-key e.key all.0.key, small-entries es all.1)

pub size-small : (u : State) (t : PlainShard) → IsTidy t → length t.entries < 2 ^ 65 → size_in u t < 2 ^ 90
size-small u t tidy few = omega (arith, size_of-le u (map member_of t.entries) (small-entries t.entries tidy.entries), length-map t.entries member_of, few)

-- ---- keys that may go are distinct

pub distinct-going : (state : State) (t : PlainShard) → IsTidy t → is_distinct (going state t) ≡ true
distinct-going state t tidy = distinct-filter (λ k. not (is_passed t k)) (oldest_first state t.sequences) (distinct-oldest state t tidy)

pub distinct-going_but : (about : Option Key) (state : State) (s : PlainShard) → IsTidy s → is_distinct (going_but about state s) ≡ true
distinct-going_but about state s tidy = distinct-filter (may_go about s) (oldest_first state s.sequences) (distinct-oldest state s tidy)

-- ---- one eviction

is_at-is : (o : Option Key) (k : Key) → is_at o k ≡ true → o ≡ Some k
is_at-is None k at = absurd (false≢true at)
is_at-is (Some h) k at = ap (λ x. Some x) (key_eq-is h k at)

is-is_at : (o : Option Key) (k : Key) → o ≡ Some k → is_at o k ≡ true
is-is_at o k is = subst (λ p. is_at p k ≡ true) (sym is) (key_eq-same k)

-- a key that heads the keys of a state that may go stands on its sequence
head-stands : (state : State) (t : PlainShard) (k : Key) → first_of (going state t) ≡ Some k → stands_on k (sequence_of state t.sequences) ≡ true
head-stands state t k first = oldest-in state t k (filter-stands (λ x. not (is_passed t x)) k (oldest_first state t.sequences) (first-stands (going state t) k first))

pub length-evicted : (k : Key) (t : PlainShard) → length (evicted k t).entries ≡ length t.entries
length-evicted k t = ap length (at_head-entries k (changed k evicted_entry (off_sequence k t))) ∙ length-with_change entry_key k evicted_entry t.entries

pub length-dropped : (state : State) (k : Key) (t : PlainShard) → IsTidy t → Heads state k t → length (dropped k t).entries ≤ length t.entries
length-dropped state k t tidy h = elim (cases_true (is_some h.entry.place)) [
  | inl place ↦
      let is : length (dropped k t).entries ≡ length (with_change entry_key h.entry.key (λ old. l2_only h.entry) t.entries) = ap (λ (u : PlainShard). length u.entries) (dropped-placed k t h.entry h.item place) in
      omega (arith, is, length-with_change entry_key h.entry.key (λ old. l2_only h.entry) t.entries)
  | inr none ↦
      let is : length (dropped k t).entries ≡ length (without entry_key k t.entries) = ap (λ (u : PlainShard). length u.entries) (dropped-gone k t h.entry h.item none) in
      omega (arith, is, length-without entry_key k t.entries h.entry h.item)
]

module _ (about : Option Key) (s : PlainShard) (tidy : IsTidy s) where
  module _ (x : Scan) (t : PlainShard) (at : IsScanOf about s x t) where
    -- the first keys of each kind are where the cursor stands
    pub mru-next : first_of (going Mru t) ≡ x.mru.next
    mru-next = next-first (going_but about Mru s) (going_but about MruGhost s) (distinct-going_but about Mru s tidy) (distinct-going_but about MruGhost s tidy) x.mru (kind_in Mru MruGhost t) at.mru

    pub mfu-next : first_of (going Mfu t) ≡ x.mfu.next
    mfu-next = next-first (going_but about Mfu s) (going_but about MfuGhost s) (distinct-going_but about Mfu s tidy) (distinct-going_but about MfuGhost s tidy) x.mfu (kind_in Mfu MfuGhost t) at.mfu

    pub mru-ghost : first_of (going MruGhost t) ≡ oldest_ghost x.mru
    mru-ghost = ghost-first (going_but about Mru s) (going_but about MruGhost s) (distinct-going_but about Mru s tidy) (distinct-going_but about MruGhost s tidy) x.mru (kind_in Mru MruGhost t) at.mru

    pub mfu-ghost : first_of (going MfuGhost t) ≡ oldest_ghost x.mfu
    mfu-ghost = ghost-first (going_but about Mfu s) (going_but about MfuGhost s) (distinct-going_but about Mfu s tidy) (distinct-going_but about MfuGhost s tidy) x.mfu (kind_in Mfu MfuGhost t) at.mfu

  module _ (x : Scan) (t : PlainShard) (k : Key) (at : IsScanOf about s x t) where
    -- which kind a key is evicted from
    pub record FromMru (z : ℕ) : Type 0 where
      pub next : x.mru.next ≡ Some k
      pub le : k.size ≤ x.mru.size
      pub room : x.mru.ghost_size + k.size < 2 ^ 128
      pub scan : IsScanOf about s (record x { mru = behind_evicted k (going_but about Mru s) x.mru }) (evicted k t)

    pub record FromMfu (z : ℕ) : Type 0 where
      pub not_mru : is_at x.mru.next k ≡ false
      pub next : x.mfu.next ≡ Some k
      pub le : k.size ≤ x.mfu.size
      pub room : x.mfu.ghost_size + k.size < 2 ^ 128
      pub scan : IsScanOf about s (record x { mfu = behind_evicted k (going_but about Mfu s) x.mfu }) (evicted k t)

    head-le : (state : State) → Heads state k t → k.size ≤ size_in state t
    head-le state h = subst (λ u. k.size ≤ size_in u t) h.is (entry-le k t h.entry h.item)

    pub scan-evicted : (z : ℕ) → next_evicted z t ≡ Some k → FromMru z ⊎ FromMfu z
    scan-evicted z chosen =
        let after = (sparing-evicted k k z t at.tidy chosen).tidy in
        let few : length (evicted k t).entries < 2 ^ 65 = omega (arith, at.few, length-evicted k t) in
        elim (evicted-turn z k t at.tidy chosen) [
          | inl turn ↦
              let is = scan-evicted_mru k t (evicted k t) turn.moves in
              let next : x.mru.next ≡ Some k = sym (mru-next x t at) ∙ turn.heads.first in
              let le : k.size ≤ x.mru.size = omega (arith, head-le Mru turn.heads, at.mru.size) in
              inl (record {
                next = next;
                le = le;
                room = omega (arith, at.mru.ghost_size, size-small MruGhost t at.tidy at.few, le, at.mru.size, size-small Mru t at.tidy at.few);
                scan = record {
                  tidy = after;
                  few = few;
                  mru = subst (IsKindOf (going_but about Mru s) (going_but about MruGhost s) (behind_evicted k (going_but about Mru s) x.mru)) (sym (ap (λ (v : PlainScan). v.mru) is))
                      (kind-evicted (going_but about Mru s) (going_but about MruGhost s) (distinct-going_but about Mru s tidy) (distinct-going_but about MruGhost s tidy) x.mru (kind_in Mru MruGhost t) k at.mru (distinct-going Mru t at.tidy) next);
                  mfu = subst (IsKindOf (going_but about Mfu s) (going_but about MfuGhost s) x.mfu) (sym (ap (λ (v : PlainScan). v.mfu) is)) at.mfu;
                  anon = at.anon ∙ sym (ap (λ (v : PlainScan). v.anon) is);
                  c = at.c ∙ sym (ap (λ (v : PlainScan). v.c) is);
                  p = at.p ∙ sym (ap (λ (v : PlainScan). v.p) is);
                };
              })
          | inr turn ↦
              let is = scan-evicted_mfu k t (evicted k t) turn.moves in
              let next : x.mfu.next ≡ Some k = sym (mfu-next x t at) ∙ turn.heads.first in
              let le : k.size ≤ x.mfu.size = omega (arith, head-le Mfu turn.heads, at.mfu.size) in
              inr (record {
                not_mru = elim (cases_true (is_at x.mru.next k)) [
                  | inl mru ↦ absurd (false≢true (sym (turn.moves.off Mru refl) ∙ head-stands Mru t k (mru-next x t at ∙ is_at-is x.mru.next k mru)))
                  | inr other ↦ other
                ];
                next = next;
                le = le;
                room = omega (arith, at.mfu.ghost_size, size-small MfuGhost t at.tidy at.few, le, at.mfu.size, size-small Mfu t at.tidy at.few);
                scan = record {
                  tidy = after;
                  few = few;
                  mru = subst (IsKindOf (going_but about Mru s) (going_but about MruGhost s) x.mru) (sym (ap (λ (v : PlainScan). v.mru) is)) at.mru;
                  mfu = subst (IsKindOf (going_but about Mfu s) (going_but about MfuGhost s) (behind_evicted k (going_but about Mfu s) x.mfu)) (sym (ap (λ (v : PlainScan). v.mfu) is))
                      (kind-evicted (going_but about Mfu s) (going_but about MfuGhost s) (distinct-going_but about Mfu s tidy) (distinct-going_but about MfuGhost s tidy) x.mfu (kind_in Mfu MfuGhost t) k at.mfu (distinct-going Mfu t at.tidy) next);
                  anon = at.anon ∙ sym (ap (λ (v : PlainScan). v.anon) is);
                  c = at.c ∙ sym (ap (λ (v : PlainScan). v.c) is);
                  p = at.p ∙ sym (ap (λ (v : PlainScan). v.p) is);
                };
              })
        ]

    -- which kind it is, by the cursor
    pub from-mru : (z : ℕ) → next_evicted z t ≡ Some k → is_at x.mru.next k ≡ true → FromMru z
    from-mru z chosen here = elim (scan-evicted z chosen) [
      | inl mru ↦ mru
      | inr mfu ↦ absurd (false≢true (sym mfu.not_mru ∙ here))
    ]

    pub from-mfu : (z : ℕ) → next_evicted z t ≡ Some k → is_at x.mru.next k ≡ false → FromMfu z
    from-mfu z chosen other = elim (scan-evicted z chosen) [
      | inl mru ↦ absurd (false≢true (sym other ∙ is-is_at x.mru.next k mru.next))
      | inr mfu ↦ mfu
    ]

    -- ---- one drop

    pub record DropsMru : Type 0 where
      pub next : oldest_ghost x.mru ≡ Some k
      pub le : k.size ≤ x.mru.ghost_size
      pub scan : IsScanOf about s (record x { mru = behind_dropped k (going_but about Mru s) (going_but about MruGhost s) x.mru }) (dropped k t)

    pub record DropsMfu : Type 0 where
      pub not_mru : is_at (oldest_ghost x.mru) k ≡ false
      pub next : oldest_ghost x.mfu ≡ Some k
      pub le : k.size ≤ x.mfu.ghost_size
      pub scan : IsScanOf about s (record x { mfu = behind_dropped k (going_but about Mfu s) (going_but about MfuGhost s) x.mfu }) (dropped k t)

    pub scan-dropped : next_dropped t ≡ Some k → DropsMru ⊎ DropsMfu
    scan-dropped chosen =
        let after = (sparing-dropped k k t at.tidy chosen).tidy in
        elim (dropped-turn k t at.tidy chosen) [
          | inl turn ↦
              let few : length (dropped k t).entries < 2 ^ 65 = omega (arith, at.few, length-dropped MruGhost k t at.tidy turn.heads) in
              let is = scan-dropped_mru k t (dropped k t) turn.moves in
              let next : oldest_ghost x.mru ≡ Some k = sym (mru-ghost x t at) ∙ turn.heads.first in
              inl (record {
                next = next;
                le = omega (arith, head-le MruGhost turn.heads, at.mru.ghost_size);
                scan = record {
                  tidy = after;
                  few = few;
                  mru = subst (IsKindOf (going_but about Mru s) (going_but about MruGhost s) (behind_dropped k (going_but about Mru s) (going_but about MruGhost s) x.mru)) (sym (ap (λ (v : PlainScan). v.mru) is))
                      (kind-dropped (going_but about Mru s) (going_but about MruGhost s) (distinct-going_but about Mru s tidy) (distinct-going_but about MruGhost s tidy) x.mru (kind_in Mru MruGhost t) k at.mru (distinct-going MruGhost t at.tidy) next);
                  mfu = subst (IsKindOf (going_but about Mfu s) (going_but about MfuGhost s) x.mfu) (sym (ap (λ (v : PlainScan). v.mfu) is)) at.mfu;
                  anon = at.anon ∙ sym (ap (λ (v : PlainScan). v.anon) is);
                  c = at.c ∙ sym (ap (λ (v : PlainScan). v.c) is);
                  p = at.p ∙ sym (ap (λ (v : PlainScan). v.p) is);
                };
              })
          | inr turn ↦
              let few : length (dropped k t).entries < 2 ^ 65 = omega (arith, at.few, length-dropped MfuGhost k t at.tidy turn.heads) in
              let is = scan-dropped_mfu k t (dropped k t) turn.moves in
              let next : oldest_ghost x.mfu ≡ Some k = sym (mfu-ghost x t at) ∙ turn.heads.first in
              inr (record {
                not_mru = elim (cases_true (is_at (oldest_ghost x.mru) k)) [
                  | inl mru ↦ absurd (false≢true (sym (turn.moves.off MruGhost refl) ∙ head-stands MruGhost t k (mru-ghost x t at ∙ is_at-is (oldest_ghost x.mru) k mru)))
                  | inr other ↦ other
                ];
                next = next;
                le = omega (arith, head-le MfuGhost turn.heads, at.mfu.ghost_size);
                scan = record {
                  tidy = after;
                  few = few;
                  mru = subst (IsKindOf (going_but about Mru s) (going_but about MruGhost s) x.mru) (sym (ap (λ (v : PlainScan). v.mru) is)) at.mru;
                  mfu = subst (IsKindOf (going_but about Mfu s) (going_but about MfuGhost s) (behind_dropped k (going_but about Mfu s) (going_but about MfuGhost s) x.mfu)) (sym (ap (λ (v : PlainScan). v.mfu) is))
                      (kind-dropped (going_but about Mfu s) (going_but about MfuGhost s) (distinct-going_but about Mfu s tidy) (distinct-going_but about MfuGhost s tidy) x.mfu (kind_in Mfu MfuGhost t) k at.mfu (distinct-going MfuGhost t at.tidy) next);
                  anon = at.anon ∙ sym (ap (λ (v : PlainScan). v.anon) is);
                  c = at.c ∙ sym (ap (λ (v : PlainScan). v.c) is);
                  p = at.p ∙ sym (ap (λ (v : PlainScan). v.p) is);
                };
              })
        ]

    pub drops-mru : next_dropped t ≡ Some k → is_at (oldest_ghost x.mru) k ≡ true → DropsMru
    drops-mru chosen here = elim (scan-dropped chosen) [
      | inl mru ↦ mru
      | inr mfu ↦ absurd (false≢true (sym mfu.not_mru ∙ here))
    ]

    pub drops-mfu : next_dropped t ≡ Some k → is_at (oldest_ghost x.mru) k ≡ false → DropsMfu
    drops-mfu chosen other = elim (scan-dropped chosen) [
      | inl mru ↦ absurd (false≢true (sym other ∙ is-is_at (oldest_ghost x.mru) k mru.next))
      | inr mfu ↦ mfu
    ]

-- the ghost that is dropped stands where the cursor does
pub drop-on : (keys ghosts : List Key) (x : Kind) (v : PlainKind) (k : Key) → IsKindOf keys ghosts x v → oldest_ghost x ≡ Some k
    → MatchOption x.old_ghost (IsTrue (stands_on k keys)) (λ g. IsTrue (stands_on k ghosts))
drop-on keys ghosts x v k at is = go x.old_ghost refl is
  where
    go : (o : Option Key) → x.old_ghost ≡ o → or_else o (if is_same_key x.evicted x.next then None else x.evicted) ≡ Some k → MatchOption o (IsTrue (stands_on k keys)) (λ g. IsTrue (stands_on k ghosts))
    go None old found = at.evicted_on k (unless (is_same_key x.evicted x.next) x.evicted found)
      where
        unless : (b : Bool) (o : Option Key) → (if b then None else o) ≡ Some k → o ≡ Some k
        unless true o found = cc
        unless false o found = found
    go (Some g) old found = at.old_on k (old ∙ found)
