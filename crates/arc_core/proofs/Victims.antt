-- Room and trim change the entries of their victims alone, and these are keys that stand on a sequence and were not passed.
use Rattle.std.proofs.Common.{◌≡◌, ℕ, zero, suc, ◌+◌, nat_lt, Bool, true, false, not, ◌&&◌, ◌||◌, if◌then◌else◌, IsTrue, List, [], ◌∷◌, ◌++◌, length, reverse, Option, Some, None, is_some, ◌⊎◌, inl, inr, refl, sym, ap, subst, ◌∙◌}
use Rattle.std.specs.List.{find}
use Rattle.std.specs.Option.{option_map_or}
use Rattle.std.proofs.lemmas.Bool.{false≢true}
use Rattle.blk_ptr.specs.declared.key.Key.{Key}
use Rattle.blk_ptr.specs.declared.state.State.{State}
use Rattle.blk_ptr.specs.declared.state.State.TheVariants.{Anon, Mru, MruGhost, Mfu, MfuGhost, L2Only}
use Rattle.blk_ptr.specs.Order.{key_eq}
use Rattle.blk_ptr.specs.State.{is_same_state}
use Rattle.blk_ptr.proofs.Keys.{key_eq-is, key_eq-sym}
use Rattle.arc_lists.specs.Room.{or_else}
use Rattle.arc_lists.specs.Sequences.{Sequences, has_sequence, oldest_unskipped, put_at_head, stands, stands_on}
use Rattle.arc_lists.proofs.Standing.{and_left, and_right, both, not_true_is, or_left_false, or_right_false}
use Rattle.arc_lists.proofs.Tables.{cases_true, item_at-with_change_other, item_at-with_item_other, item_at-with_item_same, item_at-without_other, item_at-without_same}
use Rattle.arc_core.specs.declared.entry.Entry.{Entry}
use Rattle.arc_core.specs.PlainShard.{PlainShard, entry_is, entry_key, entry_of, is_at_rest, is_free, is_passed, is_unheld, place_of, size_in}
use Rattle.arc_lists.specs.ByKey.{item_at}
use Rattle.arc_core.specs.Changes.{at_head, changed, given_back, gone, off_sequence, one_less}
use Rattle.arc_core.specs.Edits.{is_droppable, is_evictable, is_off}
use Rattle.arc_core.specs.Rules.{dropped, evicted, evicted_entry, evicting, next_dropped, next_evicted, trimming, with_room}
use Rattle.arc_core.specs.Sound.{IsSoundEntry, IsTidy, belongs_on}
use Rattle.arc_core.specs.Sparing.{IsSpared, dropped_by_trim, drops, evicted_for, evictions, may_go, victims_of_entry}
use Rattle.arc_core.specs.Step.{fitted, taken_in}
use Rattle.arc_core.proofs.Evictions.{at_head-entries, entry_of-is, next_dropped-is, next_evicted-is}
use Rattle.arc_core.proofs.Sparing.{absent-roomy, cached-has, entered, ghost-has, roomy, sparing-dropped, sparing-evicted, sparing-room, spared-entered, spared-same, tidy-entered}
use Rattle.arc_core.proofs.Tidy.{IsTidy-gone}

-- ---- a key stands on a sequence exactly where nobody holds its entry and its state has one

abbrev pub standing : Entry → Bool
standing e = is_unheld e && has_sequence e.state

on_one : (u : Bool) (state : State) → ((u && is_same_state state Mru) || ((u && is_same_state state MruGhost) || ((u && is_same_state state Mfu) || (u && is_same_state state MfuGhost)))) ≡ (u && has_sequence state)
on_one false state = refl
on_one true Anon = refl
on_one true Mru = refl
on_one true MruGhost = refl
on_one true Mfu = refl
on_one true MfuGhost = refl
on_one true L2Only = refl

pub stands-is : (k : Key) (s : PlainShard) → IsTidy s → stands k s.sequences ≡ entry_is standing k s
stands-is k s tidy =
    let any : (a b c d : Bool) → Bool = λ a b c d. a || (b || (c || d)) in
    ap (λ a. any a (stands_on k s.sequences.mru_ghost) (stands_on k s.sequences.mfu) (stands_on k s.sequences.mfu_ghost)) (tidy.mru.exact k)
    ∙ ap (λ b. any (entry_is (belongs_on Mru) k s) b (stands_on k s.sequences.mfu) (stands_on k s.sequences.mfu_ghost)) (tidy.mru_ghost.exact k)
    ∙ ap (λ c. any (entry_is (belongs_on Mru) k s) (entry_is (belongs_on MruGhost) k s) c (stands_on k s.sequences.mfu_ghost)) (tidy.mfu.exact k)
    ∙ ap (λ d. any (entry_is (belongs_on Mru) k s) (entry_is (belongs_on MruGhost) k s) (entry_is (belongs_on Mfu) k s) d) (tidy.mfu_ghost.exact k)
    ∙ go (entry_of k s)
  where
    go : (o : Option Entry)
        → (option_map_or (belongs_on Mru) o false || (option_map_or (belongs_on MruGhost) o false || (option_map_or (belongs_on Mfu) o false || option_map_or (belongs_on MfuGhost) o false)))
        ≡ option_map_or standing o false
    go None = refl
    go (Some e) = on_one (is_unheld e) e.state

standing-goes : (e : Entry) → may_go e ≡ true → standing e ≡ true
standing-goes e goes = both _ _ (and_left (is_unheld e) (is_at_rest e) (and_left (is_free e) _ goes)) (and_right (is_free e) _ goes)

-- what stands after it was spared stood before
pub stands-back : (k : Key) (s t : PlainShard) → IsTidy s → IsTidy t → IsSpared (entry_of k s) (entry_of k t) → stands k t.sequences ≡ true → stands k s.sequences ≡ true
stands-back k s t tidy after spared there =
    let f = entry_of-is standing k t (sym (stands-is k t after) ∙ there) in
    stands-is k s tidy ∙ go (entry_of k s) f.0 f.2 (subst (λ o. IsSpared (entry_of k s) o) f.1 spared)
  where
    go : (o : Option Entry) (f : Entry) → standing f ≡ true → IsSpared o (Some f) → option_map_or standing o false ≡ true
    go None f stood spared = cc
    go (Some e) f stood spared = elim spared [
      | inl same ↦ subst (λ x. standing x ≡ true) same stood
      | inr lost ↦ standing-goes e lost.0
    ]

-- a key whose entry doesn't stand stands on no sequence
off-entry : (k : Key) (s : PlainShard) (o : Option Entry) → IsTidy s → entry_of k s ≡ o → option_map_or standing o false ≡ false → stands k s.sequences ≡ false
off-entry k s o tidy is off = stands-is k s tidy ∙ ap (λ x. option_map_or standing x false) is ∙ off

-- ---- what a scan chooses stands, and was not passed

pub find-holds : (p : Key → Bool) (xs : List Key) (k : Key) → find p xs ≡ Some k → p k ≡ true
find-holds p [] k found = cc
find-holds p (x ∷ xs) k found = elim (cases_true (p x)) [
  | inl passes ↦ let is : Some x ≡ Some k = rw passes at found in subst (λ o. option_map_or p o false ≡ true) is passes
  | inr fails ↦ find-holds p xs k (rw fails at found)
]

pub oldest-unskipped : (skips : Key → Bool) (keys : List Key) (k : Key) → oldest_unskipped skips keys ≡ Some k → skips k ≡ false
oldest-unskipped skips keys k found = not_true_is _ (find-holds (λ x. not (skips x)) (reverse keys) k found)

pub first_of_two : (P : Key → Type 0) (a b : Option Key) (k : Key) → (a ≡ Some k → P k) → (b ≡ Some k → P k) → or_else a b ≡ Some k → P k
first_of_two P None b k first second chosen = second chosen
first_of_two P (Some x) b k first second chosen = first chosen

pub only_if : (c : Bool) (o : Option Key) (k : Key) → (if c then o else None) ≡ Some k → o ≡ Some k
only_if true o k chosen = chosen
only_if false o k chosen = cc

pub next_evicted-unpassed : (z : ℕ) (s : PlainShard) (k : Key) → next_evicted z s ≡ Some k → is_passed s k ≡ false
next_evicted-unpassed z s k chosen =
    let mru = oldest-unskipped (is_passed s) s.sequences.mru k in
    let mfu = oldest-unskipped (is_passed s) s.sequences.mfu k in
    first_of_two (λ j. is_passed s j ≡ false) _ _ k (λ h. mru (only_if _ _ k h)) (λ h. first_of_two (λ j. is_passed s j ≡ false) _ _ k mfu mru h) (only_if _ _ k chosen)

pub next_dropped-unpassed : (s : PlainShard) (k : Key) → next_dropped s ≡ Some k → is_passed s k ≡ false
next_dropped-unpassed s k chosen =
    let over_mru = nat_lt s.c (size_in Mru s + size_in MruGhost s) in
    let over_mfu = nat_lt s.c (size_in MruGhost s + size_in MfuGhost s) in
    let oldest_mru = oldest_unskipped (is_passed s) s.sequences.mru_ghost in
    let oldest_mfu = oldest_unskipped (is_passed s) s.sequences.mfu_ghost in
    first_of_two (λ j. is_passed s j ≡ false) (if over_mru then oldest_mru else None) (if over_mfu then oldest_mfu else None) k
    (λ h. oldest-unskipped (is_passed s) s.sequences.mru_ghost k (only_if over_mru oldest_mru k h))
    (λ h. oldest-unskipped (is_passed s) s.sequences.mfu_ghost k (only_if over_mfu oldest_mfu k h)) chosen

-- an entry that passes one test passes another
weaker : (p q : Entry → Bool) (k : Key) (s : PlainShard) → ((e : Entry) → p e ≡ true → q e ≡ true) → IsTrue (entry_is p k s) → entry_is q k s ≡ true
weaker p q k s f holds = go (entry_of k s) holds
  where
    go : (o : Option Entry) → option_map_or p o false ≡ true → option_map_or q o false ≡ true
    go None h = absurd (false≢true h)
    go (Some e) h = f e h

next_evicted-stands : (z : ℕ) (s : PlainShard) (k : Key) → IsTidy s → next_evicted z s ≡ Some k → stands k s.sequences ≡ true
next_evicted-stands z s k tidy chosen =
    stands-is k s tidy ∙ weaker is_evictable standing k s (λ e h. both _ _ (and_left _ _ h) (cached-has e.state (and_right (is_unheld e) _ h))) (next_evicted-is z s k tidy chosen)

next_dropped-stands : (s : PlainShard) (k : Key) → IsTidy s → next_dropped s ≡ Some k → stands k s.sequences ≡ true
next_dropped-stands s k tidy chosen =
    stands-is k s tidy ∙ weaker is_droppable standing k s (λ e h. both _ _ (and_left _ _ h) (ghost-has e.state (and_right (is_unheld e) _ h))) (next_dropped-is s k tidy chosen)

-- ---- what is read off a shard without its entries and sequences stays through room and trim

module _ {X : Type 0} (f : PlainShard → X) (blind : (s : PlainShard) (es : List Entry) (q : Sequences) → f (record s { entries = es; sequences = q }) ≡ f s) where
  kept-at_head : (k : Key) (s : PlainShard) → f (at_head k s) ≡ f s
  kept-at_head k s = go (entry_of k s)
    where
      go : (o : Option Entry) → f (option_map_or (λ e. record s { sequences = put_at_head e.state k s.sequences }) o s) ≡ f s
      go None = refl
      go (Some e) = blind s s.entries (put_at_head e.state k s.sequences)

  pub kept-evicted : (k : Key) (s : PlainShard) → f (evicted k s) ≡ f s
  kept-evicted k s =
      let off = changed k evicted_entry (off_sequence k s) in
      kept-at_head k off ∙ blind s off.entries off.sequences

  pub kept-dropped : (k : Key) (s : PlainShard) → f (dropped k s) ≡ f s
  kept-dropped k s = go (is_some (place_of k s))
    where
      go : (b : Bool) → f (if b then changed k (λ e. record e { state = L2Only }) (off_sequence k s) else gone k s) ≡ f s
      go true = blind s (changed k (λ e. record e { state = L2Only }) s).entries (off_sequence k s).sequences
      go false = blind s (gone k s).entries (gone k s).sequences

  pub kept-evicting : (n z : ℕ) (s : PlainShard) → f (evicting n z s) ≡ f s
  kept-evicting zero z s = refl
  kept-evicting (suc n) z s = go (next_evicted z s) (λ k. kept-evicting n z (evicted k s) ∙ kept-evicted k s)
    where
      go : (o : Option Key) → ((k : Key) → f (evicting n z (evicted k s)) ≡ f s) → f (option_map_or (λ k. evicting n z (evicted k s)) o s) ≡ f s
      go None rest = refl
      go (Some k) rest = rest k

  pub kept-trimming : (n : ℕ) (s : PlainShard) → f (trimming n s) ≡ f s
  kept-trimming zero s = refl
  kept-trimming (suc n) s = go (next_dropped s) (λ k. kept-trimming n (dropped k s) ∙ kept-dropped k s)
    where
      go : (o : Option Key) → ((k : Key) → f (trimming n (dropped k s)) ≡ f s) → f (option_map_or (λ k. trimming n (dropped k s)) o s) ≡ f s
      go None rest = refl
      go (Some k) rest = rest k

  pub kept-room : (z : ℕ) (s : PlainShard) → f (with_room z s) ≡ f s
  kept-room z s = kept-evicting (length s.entries) z s

  pub kept-entered : (e : Entry) (s : PlainShard) → f (entered e s) ≡ f s
  kept-entered e s = blind (roomy e s) (entered e s).entries (entered e s).sequences ∙ kept-room e.key.size (gone e.key s) ∙ blind s (gone e.key s).entries (gone e.key s).sequences

  pub kept-taken_in : (e : Entry) (s : PlainShard) → f (taken_in e s) ≡ f s
  kept-taken_in e s = kept-trimming (length (entered e s).entries) (entered e s) ∙ kept-entered e s

  pub kept-fitted : (s : PlainShard) → f (fitted s) ≡ f s
  kept-fitted s = kept-trimming (length (with_room 0 s).entries) (with_room 0 s) ∙ kept-room 0 s

  pub kept-given_back : (n : ℕ) (k : Key) (s : PlainShard) → f (given_back n k s) ≡ f s
  kept-given_back n k s = go (entry_is is_unheld k (changed k (one_less n) s))
    where
      less : PlainShard
      less = changed k (one_less n) s

      go : (b : Bool) → f (if b then at_head k less else less) ≡ f s
      go true = kept-at_head k less ∙ blind s less.entries less.sequences
      go false = blind s less.entries less.sequences

passed-same : (s t : PlainShard) (k : Key) → t.passed ≡ s.passed → is_passed t k ≡ is_passed s k
passed-same s t k same = ap (stands_on k) same

-- ---- victims stand, and were not passed

pub record Standing (k : Key) (s : PlainShard) : Type 0 where
  pub stood : stands k s.sequences ≡ true
  pub unpassed : is_passed s k ≡ false

standing-back : (k : Key) (s t : PlainShard) → IsTidy s → IsTidy t → IsSpared (entry_of k s) (entry_of k t) → t.passed ≡ s.passed → Standing k t → Standing k s
standing-back k s t tidy after spared passed there =
    record { stood = stands-back k s t tidy after spared there.stood; unpassed = sym (passed-same s t k passed) ∙ there.unpassed }

pub evictions-stand : (n z : ℕ) (s : PlainShard) (k : Key) → IsTidy s → stands_on k (evictions n z s) ≡ true → Standing k s
evictions-stand zero z s k tidy there = absurd (false≢true there)
evictions-stand (suc n) z s k tidy there = go (next_evicted z s) refl there (λ h. evictions-stand n z (evicted h s) k)
  where
    go : (o : Option Key) → next_evicted z s ≡ o → stands_on k (option_map_or (λ h. h ∷ evictions n z (evicted h s)) o []) ≡ true
        → ((h : Key) → IsTidy (evicted h s) → stands_on k (evictions n z (evicted h s)) ≡ true → Standing k (evicted h s)) → Standing k s
    go None chosen there rest = absurd (false≢true there)
    go (Some h) chosen there rest = elim (cases_true (key_eq h k)) [
      | inl same ↦ subst (λ j. Standing j s) (key_eq-is h k same)
          (record { stood = next_evicted-stands z s h tidy chosen; unpassed = next_evicted-unpassed z s h chosen })
      | inr other ↦
          let spared = sparing-evicted k h z s tidy chosen in
          standing-back k s (evicted h s) tidy spared.tidy spared.spared (kept-evicted (λ (t : PlainShard). t.passed) (λ t es q. refl) h s) (rest h spared.tidy (rw other at there))
    ]

pub drops-stand : (n : ℕ) (s : PlainShard) (k : Key) → IsTidy s → stands_on k (drops n s) ≡ true → Standing k s
drops-stand zero s k tidy there = absurd (false≢true there)
drops-stand (suc n) s k tidy there = go (next_dropped s) refl there (λ h. drops-stand n (dropped h s) k)
  where
    go : (o : Option Key) → next_dropped s ≡ o → stands_on k (option_map_or (λ h. h ∷ drops n (dropped h s)) o []) ≡ true
        → ((h : Key) → IsTidy (dropped h s) → stands_on k (drops n (dropped h s)) ≡ true → Standing k (dropped h s)) → Standing k s
    go None chosen there rest = absurd (false≢true there)
    go (Some h) chosen there rest = elim (cases_true (key_eq h k)) [
      | inl same ↦ subst (λ j. Standing j s) (key_eq-is h k same)
          (record { stood = next_dropped-stands s h tidy chosen; unpassed = next_dropped-unpassed s h chosen })
      | inr other ↦
          let spared = sparing-dropped k h s tidy chosen in
          standing-back k s (dropped h s) tidy spared.tidy spared.spared (kept-dropped (λ (t : PlainShard). t.passed) (λ t es q. refl) h s) (rest h spared.tidy (rw other at there))
    ]

-- of two lists, one has the key
pub in_one : (k : Key) (xs ys : List Key) → stands_on k (xs ++ ys) ≡ true → (stands_on k xs ≡ true) ⊎ (stands_on k ys ≡ true)
in_one k [] ys there = inr there
in_one k (x ∷ xs) ys there = elim (cases_true (key_eq x k)) [
  | inl same ↦ inl (rw same refl)
  | inr differs ↦ elim (in_one k xs ys (rw differs at there)) [
    | inl first ↦ inl (rw differs first)
    | inr second ↦ inr second
  ]
]

pub in_none : (k : Key) (xs ys : List Key) → stands_on k (xs ++ ys) ≡ false → (stands_on k xs ≡ false) × (stands_on k ys ≡ false)
in_none k [] ys off = (refl, off)
in_none k (x ∷ xs) ys off =
    let rest = in_none k xs ys (or_right_false (key_eq x k) _ off) in
    (rw (or_left_false (key_eq x k) _ off) rest.0, rest.1)

-- the victims of an entry that comes in held stand, and are of other keys
pub record OtherStanding (e : Entry) (k : Key) (s : PlainShard) : Type 0 where
  pub standing : Standing k s
  pub other : key_eq k e.key ≡ false

module _ (e : Entry) (s : PlainShard) (tidy : IsTidy s) (off : IsTrue (is_off e)) (sound : IsSoundEntry e) (held : is_unheld e ≡ false) where
  -- a key that stands is another one, where this one's entry doesn't stand
  apart : (k : Key) (t : PlainShard) (o : Option Entry) → IsTidy t → entry_of e.key t ≡ o → option_map_or standing o false ≡ false → stands k t.sequences ≡ true → key_eq k e.key ≡ false
  apart k t o tidy_t is off_t there = elim (cases_true (key_eq k e.key)) [
    | inl same ↦ absurd (false≢true (sym (off-entry e.key t o tidy_t is off_t) ∙ subst (λ j. stands j t.sequences ≡ true) (key_eq-is k e.key same) there))
    | inr differs ↦ differs
  ]

  pub victims-stand : (k : Key) → stands_on k (victims_of_entry e s) ≡ true → OtherStanding e k s
  victims-stand k there =
      let out = gone e.key s in
      let into = entered e s in
      let tidy_out = IsTidy-gone e.key s tidy in
      let tidy_in = tidy-entered e s tidy off sound in
      elim (in_one k (evicted_for e.key.size out) (dropped_by_trim into) there) [
        | inl evicted_first ↦
            let stood = evictions-stand (length out.entries) e.key.size out k tidy_out evicted_first in
            let differs = apart k out None tidy_out (item_at-without_same entry_key e.key s.entries tidy.once) refl stood.stood in
            let same : entry_of k out ≡ entry_of k s = item_at-without_other entry_key k e.key s.entries differs in
            record { standing = standing-back k s out tidy tidy_out (subst (λ o. IsSpared (entry_of k s) o) (sym same) (spared-same (entry_of k s))) refl stood; other = differs }
        | inr dropped_then ↦
            let stood = drops-stand (length into.entries) into k tidy_in dropped_then in
            let mine : entry_of e.key into ≡ Some e = item_at-with_item_same entry_key e (roomy e s).entries (absent-roomy e s tidy) in
            let differs = apart k into (Some e) tidy_in mine (ap (λ u. u && has_sequence e.state) held) stood.stood in
            record { standing = standing-back k s into tidy tidy_in (spared-entered e s tidy k differs) (kept-entered (λ (t : PlainShard). t.passed) (λ t es q. refl) e s) stood; other = differs }
      ]

pub fitting-stands : (s : PlainShard) (k : Key) → IsTidy s → stands_on k (evicted_for 0 s ++ dropped_by_trim (with_room 0 s)) ≡ true → Standing k s
fitting-stands s k tidy there =
    let room = sparing-room k 0 s tidy in
    elim (in_one k (evicted_for 0 s) (dropped_by_trim (with_room 0 s)) there) [
      | inl first ↦ evictions-stand (length s.entries) 0 s k tidy first
      | inr second ↦ standing-back k s (with_room 0 s) tidy room.tidy room.spared (kept-room (λ (t : PlainShard). t.passed) (λ t es q. refl) 0 s)
          (drops-stand (length (with_room 0 s).entries) (with_room 0 s) k room.tidy second)
    ]

-- ---- what is no victim keeps its entry

evicted-other : (j k : Key) (s : PlainShard) → key_eq j k ≡ false → entry_of j (evicted k s) ≡ entry_of j s
evicted-other j k s differs =
    ap (item_at entry_key j) (at_head-entries k (changed k evicted_entry (off_sequence k s))) ∙ item_at-with_change_other entry_key j k evicted_entry s.entries (λ x same. refl) differs

dropped-other : (j k : Key) (s : PlainShard) → key_eq j k ≡ false → entry_of j (dropped k s) ≡ entry_of j s
dropped-other j k s differs = go (is_some (place_of k s))
  where
    go : (b : Bool) → entry_of j (if b then changed k (λ e. record e { state = L2Only }) (off_sequence k s) else gone k s) ≡ entry_of j s
    go true = item_at-with_change_other entry_key j k (λ e. record e { state = L2Only }) s.entries (λ x same. refl) differs
    go false = item_at-without_other entry_key j k s.entries differs

pub evicting-others : (j : Key) (n z : ℕ) (s : PlainShard) → stands_on j (evictions n z s) ≡ false → entry_of j (evicting n z s) ≡ entry_of j s
evicting-others j zero z s off = refl
evicting-others j (suc n) z s off = go (next_evicted z s) off (λ h. evicting-others j n z (evicted h s))
  where
    go : (o : Option Key) → stands_on j (option_map_or (λ h. h ∷ evictions n z (evicted h s)) o []) ≡ false
        → ((h : Key) → stands_on j (evictions n z (evicted h s)) ≡ false → entry_of j (evicting n z (evicted h s)) ≡ entry_of j (evicted h s))
        → entry_of j (option_map_or (λ h. evicting n z (evicted h s)) o s) ≡ entry_of j s
    go None off rest = refl
    go (Some h) off rest = rest h (or_right_false (key_eq h j) _ off) ∙ evicted-other j h s (key_eq-sym j h ∙ or_left_false (key_eq h j) _ off)

pub trimming-others : (j : Key) (n : ℕ) (s : PlainShard) → stands_on j (drops n s) ≡ false → entry_of j (trimming n s) ≡ entry_of j s
trimming-others j zero s off = refl
trimming-others j (suc n) s off = go (next_dropped s) off (λ h. trimming-others j n (dropped h s))
  where
    go : (o : Option Key) → stands_on j (option_map_or (λ h. h ∷ drops n (dropped h s)) o []) ≡ false
        → ((h : Key) → stands_on j (drops n (dropped h s)) ≡ false → entry_of j (trimming n (dropped h s)) ≡ entry_of j (dropped h s))
        → entry_of j (option_map_or (λ h. trimming n (dropped h s)) o s) ≡ entry_of j s
    go None off rest = refl
    go (Some h) off rest = rest h (or_right_false (key_eq h j) _ off) ∙ dropped-other j h s (key_eq-sym j h ∙ or_left_false (key_eq h j) _ off)

pub taken_in-others : (e : Entry) (s : PlainShard) (j : Key) → key_eq j e.key ≡ false → stands_on j (victims_of_entry e s) ≡ false → entry_of j (taken_in e s) ≡ entry_of j s
taken_in-others e s j differs off =
    let out = gone e.key s in
    let into = entered e s in
    let parts = in_none j (evicted_for e.key.size out) (dropped_by_trim into) off in
    trimming-others j (length into.entries) into parts.1
    ∙ item_at-with_item_other entry_key j e (roomy e s).entries (key_eq-sym e.key j ∙ differs)
    ∙ evicting-others j (length out.entries) e.key.size out parts.0
    ∙ item_at-without_other entry_key j e.key s.entries differs

pub fitted-others : (s : PlainShard) (j : Key) → stands_on j (evicted_for 0 s ++ dropped_by_trim (with_room 0 s)) ≡ false → entry_of j (fitted s) ≡ entry_of j s
fitted-others s j off =
    let parts = in_none j (evicted_for 0 s) (dropped_by_trim (with_room 0 s)) off in
    trimming-others j (length (with_room 0 s).entries) (with_room 0 s) parts.1 ∙ evicting-others j (length s.entries) 0 s parts.0

-- where nothing unmarked is found, an unmarked key is not among what was looked at
pub unfound : (p : Key → Bool) (xs : List Key) (j : Key) → find p xs ≡ None → p j ≡ true → stands_on j xs ≡ false
unfound p [] j none passes = refl
unfound p (x ∷ xs) j none passes = elim (cases_true (key_eq x j)) [
  | inl same ↦
      let here : p x ≡ true = subst (λ h. p h ≡ true) (sym (key_eq-is x j same)) passes in
      let found : Some x ≡ None = rw here at none in
      cc
  | inr differs ↦ elim (cases_true (p x)) [
    | inl here ↦
        let found : Some x ≡ None = rw here at none in
        cc
    | inr fails ↦ rw differs (unfound p xs j (rw fails at none) passes)
  ]
]
