-- Room and trim spare what is held or being read, and keep a shard tidy.
use Rattle.std.proofs.Common.{◌≡◌, ℕ, zero, suc, ◌<◌, true, false, ◌&&◌, IsTrue, IsSome, length, Option, Some, None, is_some, inl, inr, refl, sym, ap, subst, ◌∙◌}
use Rattle.std.specs.Option.{option_map_or}
use Rattle.std.proofs.lemmas.Bool.{false≢true}
use Rattle.blk_ptr.specs.declared.key.Key.{Key}
use Rattle.blk_ptr.specs.declared.digest.Digest.{Digest}
use Rattle.blk_ptr.specs.declared.state.State.{State}
use Rattle.blk_ptr.specs.declared.state.State.TheVariants.{Anon, Mru, MruGhost, Mfu, MfuGhost, L2Only}
use Rattle.blk_ptr.specs.Order.{key_eq}
use Rattle.blk_ptr.specs.State.{is_cached, is_ghost}
use Rattle.arc_lists.specs.Sequences.{has_sequence}
use Rattle.blk_ptr.proofs.Keys.{key_eq-is, key_eq-sym}
use Rattle.arc_lists.specs.ByKey.{has_key}
use Rattle.arc_lists.proofs.Standing.{and_left, and_right, both}
use Rattle.arc_lists.proofs.Tables.{cases_true, item_at-with_item_other, item_at-with_item_same, item_at-without_other}
use Rattle.arc_core.specs.declared.entry.Entry.{Entry}
use Rattle.arc_core.specs.declared.event.Event.TheVariants.{Insert, Miss}
use Rattle.arc_core.specs.PlainShard.{PlainShard, entry_key, entry_of, is_at_rest, is_cell, is_free, is_unheld, numbers}
use Rattle.arc_core.specs.Changes.{come, gone}
use Rattle.arc_core.specs.Edits.{is_droppable, is_evictable, is_off, placed}
use Rattle.arc_core.specs.Rules.{dropped, evicted, evicted_entry, evicted_state, evicting, next_dropped, next_evicted, resized, trimming, with_room, with_target_for}
use Rattle.arc_core.specs.Sound.{IsSound, IsSoundEntry, IsTidy}
use Rattle.arc_core.specs.Sparing.{IsSpared, may_go}
use Rattle.arc_core.specs.Step.{after, fitted, legal, read_entry, taken_in, written_entry}
use Rattle.arc_core.proofs.Accesses.{IsSoundEntry-written, held-one_hold, off-held}
use Rattle.arc_core.proofs.Evictions.{Found, IsSoundEntry-evicted, IsSoundEntry-l2_only, absent-evicting, absent-gone, dropped-gone, dropped-placed, entry_of-is, evicted-placed, found, is_none_of, l2_only, next_dropped-is, next_evicted-is, unheld-rests}
use Rattle.arc_core.proofs.Legal.{cell-lt, miss-off, miss-sound, number-lt}
use Rattle.arc_core.proofs.Tables.{IsTidy-same}
use Rattle.arc_core.proofs.Tidy.{IsTidy-come, IsTidy-gone, IsTidy-placed, entry_of-placed_other, entry_of-placed_same}

-- ---- what is spared once and again is spared

pub spared-same : (o : Option Entry) → IsSpared o o
spared-same None = refl
spared-same (Some e) = inl refl

pub spared-then : (a b c : Option Entry) → IsSpared a b → IsSpared b c → IsSpared a c
spared-then None b c first second = subst (λ o. IsSpared o c) first second
spared-then (Some e) None c first second = subst (λ o. IsSpared (Some e) o) (sym second) first
spared-then (Some e) (Some f) None first second = elim first [
  | inl is ↦ subst (λ (x : Entry). IsTrue (may_go x) × (x.place ≡ None)) is second
  | inr lost ↦ (lost.0, sym (ap (λ (x : Entry). x.place) lost.2) ∙ second.1)
]
spared-then (Some e) (Some f) (Some g) first second = elim first [
  | inl is ↦ subst (λ x. IsSpared (Some x) (Some g)) is second
  | inr lost ↦ elim second [
    | inl is ↦ subst (λ x. IsSpared (Some e) (Some x)) (sym is) (inr lost)
    | inr more ↦ inr (lost.0, more.1, more.2 ∙ ap (λ (x : Entry). record x { state = g.state }) lost.2)
  ]
]

-- what is held or being read stays as it is
pub spared-held : (e : Entry) (o : Option Entry) → is_free e ≡ false → IsSpared (Some e) o → o ≡ Some e
spared-held e None held spared = absurd (false≢true (sym held ∙ and_left (is_free e) _ spared.0))
spared-held e (Some f) held spared = elim spared [
  | inl is ↦ ap (λ x. Some x) is
  | inr lost ↦ absurd (false≢true (sym held ∙ and_left (is_free e) _ lost.0))
]

-- ---- a tidy shard after a change that spares a key's entry

pub record Sparing (j : Key) (s t : PlainShard) : Type 0 where
  pub tidy : IsTidy t
  pub spared : IsSpared (entry_of j s) (entry_of j t)

pub sparing-same : (j : Key) (s : PlainShard) → IsTidy s → Sparing j s s
sparing-same j s tidy = record { tidy = tidy; spared = spared-same (entry_of j s) }

pub sparing-then : (j : Key) (s t u : PlainShard) → Sparing j s t → Sparing j t u → Sparing j s u
sparing-then j s t u first second = record { tidy = second.tidy; spared = spared-then (entry_of j s) (entry_of j t) (entry_of j u) first.spared second.spared }

-- a free entry is written over by one that is not cached, and is otherwise as it was
sparing-placed : (j k : Key) (s : PlainShard) (e f : Entry) → IsTidy s → Found k s e → f.key ≡ e.key → IsSoundEntry f → IsSpared (Some e) (Some f) → Sparing j s (placed f s)
sparing-placed j k s e f tidy at key sound spared =
    let there : IsSome (entry_of f.key s) = subst (λ h. IsSome (entry_of h s)) (sym key) at.there in
    record {
      tidy = IsTidy-placed f s there sound tidy;
      spared = elim (cases_true (key_eq j f.key)) [
        | inl same ↦
            let is : f.key ≡ j = sym (key_eq-is j f.key same) in
            let before : entry_of j s ≡ Some e = subst (λ h. entry_of h s ≡ Some e) (sym at.key ∙ sym key ∙ is) at.item in
            let now : entry_of j (placed f s) ≡ Some f = subst (λ h. entry_of h (placed f s) ≡ Some f) is (entry_of-placed_same f s there) in
            subst (λ o. IsSpared o (entry_of j (placed f s))) (sym before) (subst (λ o. IsSpared (Some e) o) (sym now) spared)
        | inr apart ↦ subst (λ o. IsSpared (entry_of j s) o) (sym (entry_of-placed_other f s there j apart)) (spared-same (entry_of j s))
      ];
    }

free : (k : Key) (s : PlainShard) (e : Entry) → Found k s e → is_unheld e ≡ true → is_free e ≡ true
free k s e at unheld = both _ _ unheld (unheld-rests e unheld at.sound.reading)

pub cached-has : (state : State) → is_cached state ≡ true → has_sequence state ≡ true
cached-has Mru cached = refl
cached-has Mfu cached = refl
cached-has Anon cached = absurd (false≢true cached)
cached-has MruGhost cached = refl
cached-has MfuGhost cached = refl
cached-has L2Only cached = absurd (false≢true cached)

pub ghost-has : (state : State) → is_ghost state ≡ true → has_sequence state ≡ true
ghost-has MruGhost ghost = refl
ghost-has MfuGhost ghost = refl
ghost-has Mru ghost = refl
ghost-has Mfu ghost = refl
ghost-has Anon ghost = absurd (false≢true ghost)
ghost-has L2Only ghost = absurd (false≢true ghost)

pub uncached : (state : State) → is_cached state ≡ true → is_cached (evicted_state state) ≡ false
uncached Mru cached = refl
uncached Mfu cached = refl
uncached Anon cached = absurd (false≢true cached)
uncached MruGhost cached = refl
uncached MfuGhost cached = refl
uncached L2Only cached = refl

pub sparing-evicted : (j k : Key) (z : ℕ) (s : PlainShard) → IsTidy s → next_evicted z s ≡ Some k → Sparing j s (evicted k s)
sparing-evicted j k z s tidy chosen =
    let e = entry_of-is is_evictable k s (next_evicted-is z s k tidy chosen) in
    let at = found k s e.0 tidy (sym e.1) in
    let unheld = and_left (is_unheld e.0) _ e.2 in
    let cached = and_right (is_unheld e.0) _ e.2 in
    let goes : may_go e.0 ≡ true = both _ _ (free k s e.0 at unheld) (cached-has e.0.state cached) in
    let spared : IsSpared (Some e.0) (Some (evicted_entry e.0)) = inr (goes, uncached e.0.state cached, refl) in
    subst (Sparing j s) (sym (evicted-placed k s e.0 e.1 unheld))
    (sparing-placed j k s e.0 (evicted_entry e.0) tidy at refl (IsSoundEntry-evicted e.0 e.2 at.sound) spared)

pub sparing-dropped : (j k : Key) (s : PlainShard) → IsTidy s → next_dropped s ≡ Some k → Sparing j s (dropped k s)
sparing-dropped j k s tidy chosen =
    let e = entry_of-is is_droppable k s (next_dropped-is s k tidy chosen) in
    let at = found k s e.0 tidy (sym e.1) in
    let goes : may_go e.0 ≡ true = both _ _ (free k s e.0 at (and_left (is_unheld e.0) _ e.2)) (ghost-has e.0.state (and_right (is_unheld e.0) _ e.2)) in
    let spared : IsSpared (Some e.0) (Some (l2_only e.0)) = inr (goes, refl, refl) in
    elim (cases_true (is_some e.0.place)) [
      | inl place ↦ subst (Sparing j s) (sym (dropped-placed k s e.0 e.1 place))
          (sparing-placed j k s e.0 (l2_only e.0) tidy at refl (IsSoundEntry-l2_only e.0 e.2 place at.sound) spared)
      | inr none ↦ subst (Sparing j s) (sym (dropped-gone k s e.0 e.1 none)) (record {
        tidy = IsTidy-gone k s tidy;
        spared = elim (cases_true (key_eq k j)) [
          | inl same ↦
              let is = key_eq-is k j same in
              let before : entry_of j s ≡ Some e.0 = subst (λ h. entry_of h s ≡ Some e.0) is e.1 in
              let now : entry_of j (gone k s) ≡ None = subst (λ h. entry_of h (gone k s) ≡ None) is (absent-gone k s tidy) in
              subst (λ o. IsSpared o (entry_of j (gone k s))) (sym before) (subst (λ o. IsSpared (Some e.0) o) (sym now) (goes, is_none_of e.0.place none))
          | inr apart ↦ subst (λ o. IsSpared (entry_of j s) o) (sym (item_at-without_other entry_key j k s.entries (key_eq-sym j k ∙ apart))) (spared-same (entry_of j s))
        ];
      })
    ]

pub sparing-evicting : (j : Key) (n z : ℕ) (s : PlainShard) → IsTidy s → Sparing j s (evicting n z s)
sparing-evicting j zero z s tidy = sparing-same j s tidy
sparing-evicting j (suc n) z s tidy = go (next_evicted z s) refl (λ k. sparing-evicting j n z (evicted k s))
  where
    go : (o : Option Key) → next_evicted z s ≡ o → ((k : Key) → IsTidy (evicted k s) → Sparing j (evicted k s) (evicting n z (evicted k s))) → Sparing j s (option_map_or (λ k. evicting n z (evicted k s)) o s)
    go None chosen rest = sparing-same j s tidy
    go (Some k) chosen rest =
        let first = sparing-evicted j k z s tidy chosen in
        sparing-then j s (evicted k s) (evicting n z (evicted k s)) first (rest k first.tidy)

pub sparing-trimming : (j : Key) (n : ℕ) (s : PlainShard) → IsTidy s → Sparing j s (trimming n s)
sparing-trimming j zero s tidy = sparing-same j s tidy
sparing-trimming j (suc n) s tidy = go (next_dropped s) refl (λ k. sparing-trimming j n (dropped k s))
  where
    go : (o : Option Key) → next_dropped s ≡ o → ((k : Key) → IsTidy (dropped k s) → Sparing j (dropped k s) (trimming n (dropped k s))) → Sparing j s (option_map_or (λ k. trimming n (dropped k s)) o s)
    go None chosen rest = sparing-same j s tidy
    go (Some k) chosen rest =
        let first = sparing-dropped j k s tidy chosen in
        sparing-then j s (dropped k s) (trimming n (dropped k s)) first (rest k first.tidy)

-- ---- an entry that comes in

-- the shard in which there is room for an entry, and the one in which it has come, before the ghosts are trimmed
abbrev pub roomy : Entry → PlainShard → PlainShard
roomy e s = with_room e.key.size (gone e.key s)

abbrev pub entered : Entry → PlainShard → PlainShard
entered e s = come e (roomy e s)

module _ (e : Entry) (s : PlainShard) (tidy : IsTidy s) where
  sparing-roomy : (j : Key) → Sparing j (gone e.key s) (roomy e s)
  sparing-roomy j = sparing-evicting j (length (gone e.key s).entries) e.key.size (gone e.key s) (IsTidy-gone e.key s tidy)

  pub absent-roomy : has_key entry_key e.key (roomy e s).entries ≡ false
  absent-roomy = ap is_some (absent-evicting e.key (length (gone e.key s).entries) e.key.size (gone e.key s) (absent-gone e.key s tidy))

  pub tidy-entered : IsTrue (is_off e) → IsSoundEntry e → IsTidy (entered e s)
  tidy-entered off sound = IsTidy-come e (roomy e s) absent-roomy off sound (sparing-roomy e.key).tidy

  pub tidy-taken_in : IsTrue (is_off e) → IsSoundEntry e → IsTidy (taken_in e s)
  tidy-taken_in off sound = (sparing-trimming e.key (length (entered e s).entries) (entered e s) (tidy-entered off sound)).tidy

  -- the entry of another key is spared, as room is made
  pub spared-entered : (j : Key) → key_eq j e.key ≡ false → IsSpared (entry_of j s) (entry_of j (entered e s))
  spared-entered j apart =
      let out : entry_of j (gone e.key s) ≡ entry_of j s = item_at-without_other entry_key j e.key s.entries apart in
      let into : entry_of j (entered e s) ≡ entry_of j (roomy e s) = item_at-with_item_other entry_key j e (roomy e s).entries (key_eq-sym e.key j ∙ apart) in
      let room : IsSpared (entry_of j s) (entry_of j (roomy e s)) = subst (λ o. IsSpared o (entry_of j (roomy e s))) out (sparing-roomy j).spared in
      subst (λ o. IsSpared (entry_of j s) o) (sym into) room

  -- and as ghosts are trimmed
  pub spared-taken_in : (j : Key) → IsTrue (is_off e) → IsSoundEntry e → key_eq j e.key ≡ false → IsSpared (entry_of j s) (entry_of j (taken_in e s))
  spared-taken_in j off sound apart =
      let trim = sparing-trimming j (length (entered e s).entries) (entered e s) (tidy-entered off sound) in
      spared-then (entry_of j s) (entry_of j (entered e s)) (entry_of j (taken_in e s)) (spared-entered j apart) trim.spared

  -- an entry that comes in held is there afterwards
  pub entry_of-taken_in : IsTrue (is_off e) → IsSoundEntry e → is_free e ≡ false → entry_of e.key (taken_in e s) ≡ Some e
  entry_of-taken_in off sound held =
      let into : entry_of e.key (entered e s) ≡ Some e = item_at-with_item_same entry_key e (roomy e s).entries absent-roomy in
      let trim = sparing-trimming e.key (length (entered e s).entries) (entered e s) (tidy-entered off sound) in
      spared-held e (entry_of e.key (taken_in e s)) held (subst (λ o. IsSpared o (entry_of e.key (taken_in e s))) into trim.spared)

-- ---- a miss

-- moving the target changes no entry and no sequence
pub tidy-target : (k : Key) (s : PlainShard) → IsTidy s → IsTidy (with_target_for k s)
tidy-target k s tidy = IsTidy-same s (with_target_for k s) refl refl tidy

pub spared-miss : (s : PlainShard) (n t : ℕ) (k j : Key) → IsSound s → IsTrue (legal s (Miss n k t)) → key_eq j k ≡ false
    → IsSpared (entry_of j s) (entry_of j (after s (Miss n k t)))
spared-miss s n t k j sound ok apart =
    spared-taken_in (read_entry n k t s) (with_target_for k s) (tidy-target k s sound.tidy) j (miss-off n k t s ok) (miss-sound n k t s ok) apart

pub entry_of-miss : (s : PlainShard) (n t : ℕ) (k : Key) → IsSound s → IsTrue (legal s (Miss n k t)) → entry_of k (after s (Miss n k t)) ≡ Some (read_entry n k t s)
entry_of-miss s n t k sound ok =
    let held : is_free (read_entry n k t s) ≡ false = ap (λ b. b && is_at_rest (read_entry n k t s)) (held-one_hold n (number-lt n (and_left _ _ ok))) in
    entry_of-taken_in (read_entry n k t s) (with_target_for k s) (tidy-target k s sound.tidy) (miss-off n k t s ok) (miss-sound n k t s ok) held

-- ---- an insertion

pub insert-off : (n : ℕ) (k : Key) (d : Digest) (t : ℕ) → n < numbers → IsTrue (is_off (written_entry n k d t))
insert-off n k d t lt = off-held (written_entry n k d t) (held-one_hold n lt)

pub spared-insert : (s : PlainShard) (n t : ℕ) (k j : Key) (d : Digest) → IsSound s → IsTrue (legal s (Insert n k d t)) → key_eq j k ≡ false
    → IsSpared (entry_of j s) (entry_of j (after s (Insert n k d t)))
spared-insert s n t k j d sound ok apart =
    spared-taken_in (written_entry n k d t) s sound.tidy j (insert-off n k d t (cell-lt n (and_left _ _ ok))) (IsSoundEntry-written n k d t (and_left _ _ (and_right (is_cell n) _ ok))) apart

pub entry_of-insert : (s : PlainShard) (n t : ℕ) (k : Key) (d : Digest) → IsSound s → IsTrue (legal s (Insert n k d t)) → entry_of k (after s (Insert n k d t)) ≡ Some (written_entry n k d t)
entry_of-insert s n t k d sound ok =
    let lt = cell-lt n (and_left _ _ ok) in
    let held : is_free (written_entry n k d t) ≡ false = ap (λ b. b && is_at_rest (written_entry n k d t)) (held-one_hold n lt) in
    entry_of-taken_in (written_entry n k d t) s sound.tidy (insert-off n k d t lt) (IsSoundEntry-written n k d t (and_left _ _ (and_right (is_cell n) _ ok))) held

-- ---- a resize

pub tidy-resized : (c : ℕ) (s : PlainShard) → IsTidy s → IsTidy (resized c s)
tidy-resized c s tidy = IsTidy-same s (resized c s) refl refl tidy

pub sparing-room : (j : Key) (z : ℕ) (s : PlainShard) → IsTidy s → Sparing j s (with_room z s)
sparing-room j z s tidy = sparing-evicting j (length s.entries) z s tidy

pub sparing-fitted : (j : Key) (s : PlainShard) → IsTidy s → Sparing j s (fitted s)
sparing-fitted j s tidy =
    let room = sparing-room j 0 s tidy in
    sparing-then j s (with_room 0 s) (fitted s) room (sparing-trimming j (length (with_room 0 s).entries) (with_room 0 s) room.tidy)
