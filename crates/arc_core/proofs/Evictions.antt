-- What room evicts and trim drops: keys of sequences, whose entries are as their sequences say.
use Rattle.std.proofs.Common.{◌≡◌, ℕ, zero, suc, ◌+◌, ◌-◌, ◌<◌, ◌≤◌, Bool, true, false, not, ◌&&◌, ◌||◌, if◌then◌else◌, nat_lt, ◌==◌, IsTrue, List, [], ◌∷◌, ◌++◌, map, reverse, sum, Option, Some, None, is_some, is_none, IsSome, ◌⊎◌, inl, inr, refl, sym, ap, subst, ◌∙◌, arith, rules}
use Rattle.std.specs.List.{find, list_all}
use Rattle.std.specs.Option.{option_and_then, option_map_or}
use Rattle.std.proofs.lemmas.Bool.{false≢true}
use Rattle.std.proofs.lemmas.List.{reverse-append}
use Rattle.std.proofs.lemmas.List.Sums.{sum_by-cons}
use Rattle.std.proofs.lemmas.Bool.{eqb-true}
use Rattle.std.proofs.lemmas.Bool.Decides.{nat_tests}
use Rattle.blk_ptr.specs.declared.key.Key.{Key}
use Rattle.blk_ptr.specs.declared.state.State.{State}
use Rattle.blk_ptr.specs.declared.state.State.TheVariants.{Anon, Mru, MruGhost, Mfu, MfuGhost, L2Only}
use Rattle.blk_ptr.specs.Order.{key_eq}
use Rattle.blk_ptr.specs.State.{is_cached, is_ghost, is_same_state}
use Rattle.blk_ptr.proofs.Keys.{key_eq-same}
use Rattle.arc_lists.specs.ByKey.{item_at, with_change}
use Rattle.arc_lists.specs.Room.{or_else}
use Rattle.arc_lists.specs.Sequences.{Sequences, oldest_unskipped, put_at_head, sequence_of, stands_on, taken_off}
use Rattle.arc_lists.proofs.Standing.{and_left, and_right, both, not_true_is}
use Rattle.arc_lists.proofs.Tables.{cases_true, head_differs, item_at-without_same, without-absent, some_is, All-item, item_at-key, item_at-with_change_same, with_change-same}
use Rattle.arc_core.specs.declared.entry.Entry.{Entry}
use Rattle.blk_ptr.specs.Size.{IsBlockSize}
use Rattle.blk_ptr.specs.Key.{is_well_formed}
use Rattle.arc_lists.specs.Members.{member, size_of}
use Rattle.arc_lists.proofs.SizeSums.{member-le}
use Rattle.arc_core.proofs.Tables.{item_at-members}
use Rattle.arc_core.proofs.Tidy.{absent_fails, off_sequences}
use Rattle.arc_core.specs.PlainShard.{PlainShard, member_of, entry_is, entry_key, entry_of, holds_of, is_at_rest, is_passed, is_unheld, place_of, size_in}
use Rattle.arc_core.specs.Changes.{at_head, changed, gone, off_sequence}
use Rattle.arc_core.specs.Edits.{is_droppable, is_evictable, placed, with_standing}
use Rattle.arc_core.specs.Rules.{dropped, evicted, evicted_entry, evicted_state, evicting, next_dropped, next_evicted, trimming}
use Rattle.arc_core.specs.Sound.{IsSequence, IsSoundEntry, IsTidy, belongs_on, fits_reading, fits_state}

-- ---- a key that a scan found stands on the sequence

stands_on-append : (k : Key) (xs ys : List Key) → stands_on k ys ≡ true → stands_on k (xs ++ ys) ≡ true
stands_on-append k [] ys there = there
stands_on-append k (x ∷ xs) ys there = elim (cases_true (key_eq x k)) [
  | inl same ↦ rw same refl
  | inr differs ↦ rw differs (stands_on-append k xs ys there)
]

find-stands : (p : Key → Bool) (xs : List Key) (k : Key) → find p xs ≡ Some k → stands_on k xs ≡ true
find-stands p [] k found = cc
find-stands p (x ∷ xs) k found = elim (cases_true (p x)) [
  | inl passes ↦
      let is : x ≡ k = some_is (rw passes at found) in
      subst (λ h. (key_eq x h || stands_on h xs) ≡ true) is (rw (key_eq-same x) refl)
  | inr fails ↦ elim (cases_true (key_eq x k)) [
    | inl same ↦ rw same refl
    | inr differs ↦ rw differs (find-stands p xs k (rw fails at found))
  ]
]

stands_on-front : (k : Key) (xs ys : List Key) → stands_on k xs ≡ true → stands_on k (xs ++ ys) ≡ true
stands_on-front k [] ys there = absurd (false≢true there)
stands_on-front k (x ∷ xs) ys there = elim (cases_true (key_eq x k)) [
  | inl same ↦ rw same refl
  | inr differs ↦ rw differs (stands_on-front k xs ys (rw differs at there))
]

stands_on-split : (k : Key) (xs : List Key) (y : Key) → stands_on k (xs ++ y ∷ []) ≡ true → stands_on k (y ∷ xs) ≡ true
stands_on-split k [] y there = there
stands_on-split k (x ∷ xs) y there = elim (cases_true (key_eq y k)) [
  | inl same ↦ rw same refl
  | inr differs ↦ elim (cases_true (key_eq x k)) [
    | inl here ↦ rw (differs, here) refl
    | inr other ↦ rw (differs, other) (rw differs at (stands_on-split k xs y (rw other at there)))
  ]
]

stands_on-reverse : (k : Key) (xs : List Key) → stands_on k (reverse xs) ≡ true → stands_on k xs ≡ true
stands_on-reverse k [] there = there
stands_on-reverse k (x ∷ xs) there =
    let split : stands_on k (reverse xs ++ x ∷ []) ≡ true = subst (λ ys. stands_on k ys ≡ true) (reverse-append (x ∷ []) xs) there in
    elim (cases_true (key_eq x k)) [
      | inl same ↦ rw same refl
      | inr differs ↦ rw differs (stands_on-reverse k xs (rw differs at (stands_on-split k (reverse xs) x split)))
    ]

pub oldest-stands : (skips : Key → Bool) (keys : List Key) (k : Key) → oldest_unskipped skips keys ≡ Some k → stands_on k keys ≡ true
oldest-stands skips keys k found = stands_on-reverse k keys (find-stands (λ x. not (skips x)) (reverse keys) k found)

-- ---- what a scan chooses is as its sequence says

state_is : (u : Bool) (a b : State) (test : State → Bool) → test b ≡ true → (u && is_same_state a b) ≡ true → (u && test a) ≡ true
state_is false a b test holds same = same
state_is true Anon Anon test holds same = holds
state_is true Mru Mru test holds same = holds
state_is true MruGhost MruGhost test holds same = holds
state_is true Mfu Mfu test holds same = holds
state_is true MfuGhost MfuGhost test holds same = holds
state_is true L2Only L2Only test holds same = holds
state_is true a b test holds same = absurd (false≢true same)

option_passes : (p q : Entry → Bool) (o : Option Entry) → ((e : Entry) → p e ≡ true → q e ≡ true) → option_map_or p o false ≡ true → option_map_or q o false ≡ true
option_passes p q None f h = h
option_passes p q (Some e) f h = f e h

on_sequence : (state : State) (test : State → Bool) (s : PlainShard) (k : Key) → test state ≡ true → IsSequence state s → stands_on k (sequence_of state s.sequences) ≡ true → IsTrue (entry_is (λ e. is_unheld e && test e.state) k s)
on_sequence state test s k holds names there =
    option_passes (belongs_on state) (λ e. is_unheld e && test e.state) (entry_of k s) (λ e belongs. state_is (is_unheld e) e.state state test holds belongs) (sym (names.exact k) ∙ there)

or_else-cases : (a b : Option Key) (k : Key) → or_else a b ≡ Some k → (a ≡ Some k) ⊎ (b ≡ Some k)
or_else-cases None b k chosen = inr chosen
or_else-cases (Some x) b k chosen = inl chosen

if_some : (b : Bool) (o : Option Key) (k : Key) → (if b then o else None) ≡ Some k → o ≡ Some k
if_some true o k chosen = chosen
if_some false o k chosen = cc

pub next_evicted-is : (z : ℕ) (s : PlainShard) (k : Key) → IsTidy s → next_evicted z s ≡ Some k → IsTrue (entry_is is_evictable k s)
next_evicted-is z s k tidy chosen =
    let from_mru : oldest_unskipped (is_passed s) s.sequences.mru ≡ Some k → IsTrue (entry_is is_evictable k s) = λ h. on_sequence Mru is_cached s k refl tidy.mru (oldest-stands _ s.sequences.mru k h) in
    let from_mfu : oldest_unskipped (is_passed s) s.sequences.mfu ≡ Some k → IsTrue (entry_is is_evictable k s) = λ h. on_sequence Mfu is_cached s k refl tidy.mfu (oldest-stands _ s.sequences.mfu k h) in
    elim (or_else-cases _ _ k (if_some _ _ k chosen)) [
      | inl first ↦ from_mru (if_some _ _ k first)
      | inr rest ↦ elim (or_else-cases _ _ k rest) [
        | inl mfu ↦ from_mfu mfu
        | inr mru ↦ from_mru mru
      ]
    ]

pub next_dropped-is : (s : PlainShard) (k : Key) → IsTidy s → next_dropped s ≡ Some k → IsTrue (entry_is is_droppable k s)
next_dropped-is s k tidy chosen =
    let over_mru = nat_lt s.c (size_in Mru s + size_in MruGhost s) in
    let over_mfu = nat_lt s.c (size_in MruGhost s + size_in MfuGhost s) in
    let oldest_mru = oldest_unskipped (is_passed s) s.sequences.mru_ghost in
    let oldest_mfu = oldest_unskipped (is_passed s) s.sequences.mfu_ghost in
    elim (or_else-cases (if over_mru then oldest_mru else None) (if over_mfu then oldest_mfu else None) k chosen) [
      | inl mru ↦ on_sequence MruGhost is_ghost s k refl tidy.mru_ghost (oldest-stands (is_passed s) s.sequences.mru_ghost k (if_some over_mru oldest_mru k mru))
      | inr mfu ↦ on_sequence MfuGhost is_ghost s k refl tidy.mfu_ghost (oldest-stands (is_passed s) s.sequences.mfu_ghost k (if_some over_mfu oldest_mfu k mfu))
    ]

-- ---- an eviction and a drop are placings

-- the entry of which a test on a key's entry speaks
pub entry_of-is : (test : Entry → Bool) (k : Key) (s : PlainShard) → IsTrue (entry_is test k s) → (e : Entry) × (entry_of k s ≡ Some e) × (test e ≡ true)
entry_of-is test k s holds = go (entry_of k s) holds
  where
    go : (o : Option Entry) → option_map_or test o false ≡ true → (e : Entry) × (o ≡ Some e) × (test e ≡ true)
    go None h = absurd (false≢true h)
    go (Some e) h = (e, refl, h)

-- a change of a key's entry is writing the changed entry
pub changed-written : (k : Key) (change : Entry → Entry) (es : List Entry) (e : Entry) → item_at entry_key k es ≡ Some e → with_change entry_key k change es ≡ with_change entry_key k (λ old. change e) es
changed-written k change es e item = with_change-same entry_key k change (λ old. change e) es (λ x here. ap change (some_is (sym here ∙ item)))

-- a change of the key's entry, with the key taken off its sequence and put at the head of the new state's
at_head-changed : (change : Entry → Entry) (s : PlainShard) (e : Entry) → entry_of e.key s ≡ Some e → (change e).key ≡ e.key → is_unheld (change e) ≡ true
    → at_head e.key (changed e.key change (off_sequence e.key s)) ≡ placed (change e) s
at_head-changed change s e item key unheld =
    let k = e.key in
    let s1 = changed k change (off_sequence k s) in
    let here : entry_of k s1 ≡ Some (change e) = item_at-with_change_same entry_key k change s.entries e (subst (λ h. key_eq h k ≡ true) (sym key) (key_eq-same k)) item in
    let q = taken_off k s.sequences in
    let placing : (h : Key) (b : Bool) → PlainShard = λ (h : Key) (b : Bool). record s { entries = with_change entry_key h (λ old. change e) s.entries; sequences = if b then put_at_head (change e).state h (taken_off h s.sequences) else taken_off h s.sequences } in
    ap (λ o. option_map_or (λ x. record s1 { sequences = put_at_head x.state k s1.sequences }) o s1) here
    ∙ ap (λ es. record s { entries = es; sequences = put_at_head (change e).state k q }) (changed-written k change s.entries e item)
    ∙ ap (placing k) (sym unheld)
    ∙ ap (λ h. placing h (is_unheld (change e))) (sym key)

pub evicted-placed : (k : Key) (s : PlainShard) (e : Entry) → entry_of k s ≡ Some e → is_unheld e ≡ true → evicted k s ≡ placed (evicted_entry e) s
evicted-placed k s e item unheld =
    let is : e.key ≡ k = item_at-key entry_key k s.entries e item in
    subst (λ h. evicted h s ≡ placed (evicted_entry e) s) is (at_head-changed evicted_entry s e (subst (λ h. entry_of h s ≡ Some e) (sym is) item) refl unheld)

-- a change of the key's entry to one that stands on no sequence, with the key taken off its sequence
pub off-changed : (change : Entry → Entry) (s : PlainShard) (e : Entry) → entry_of e.key s ≡ Some e → (change e).key ≡ e.key → with_standing (change e) (taken_off e.key s.sequences) ≡ taken_off e.key s.sequences
    → changed e.key change (off_sequence e.key s) ≡ placed (change e) s
off-changed change s e item key off =
    ap (λ es. record s { entries = es; sequences = taken_off e.key s.sequences }) (changed-written e.key change s.entries e item)
    ∙ ap (λ q. record s { entries = with_change entry_key e.key (λ old. change e) s.entries; sequences = q }) (sym off)
    ∙ ap (λ h. record s { entries = with_change entry_key h (λ old. change e) s.entries; sequences = with_standing (change e) (taken_off h s.sequences) }) (sym key)

-- an L2-only entry stands on no sequence, held or not
standing-l2 : (b : Bool) (k : Key) (q : Sequences) → (if b then put_at_head L2Only k q else q) ≡ q
standing-l2 true k q = refl
standing-l2 false k q = refl

abbrev pub l2_only : Entry → Entry
l2_only e = record e { state = L2Only }

pub dropped-placed : (k : Key) (s : PlainShard) (e : Entry) → entry_of k s ≡ Some e → is_some e.place ≡ true → dropped k s ≡ placed (l2_only e) s
dropped-placed k s e item place =
    let is : e.key ≡ k = item_at-key entry_key k s.entries e item in
    let item' : entry_of e.key s ≡ Some e = subst (λ h. entry_of h s ≡ Some e) (sym is) item in
    let there : is_some (place_of e.key s) ≡ true = ap (λ o. is_some (option_and_then (λ (x : Entry). x.place) o)) item' ∙ place in
    subst (λ h. dropped h s ≡ placed (l2_only e) s) is
    (ap (λ b. if b then changed e.key l2_only (off_sequence e.key s) else gone e.key s) there
    ∙ off-changed l2_only s e item' refl (standing-l2 (is_unheld e) e.key (taken_off e.key s.sequences)))

pub dropped-gone : (k : Key) (s : PlainShard) (e : Entry) → entry_of k s ≡ Some e → is_some e.place ≡ false → dropped k s ≡ gone k s
dropped-gone k s e item place =
    let no_place : is_some (place_of k s) ≡ false = ap (λ o. is_some (option_and_then (λ (x : Entry). x.place) o)) item ∙ place in
    ap (λ b. if b then changed k l2_only (off_sequence k s) else gone k s) no_place

-- ---- evicted and dropped entries are sound

pub sum-none : (xs : List ℕ) → list_all (λ n. n == 0) xs ≡ true → sum xs ≡ 0
sum-none [] none = refl
sum-none (x ∷ xs) none = omega (arith, sum_by-cons (λ n. n) x xs, sum-none xs (and_right (x == 0) _ none), eqb-true x 0 (and_left (x == 0) _ none))

-- an unheld entry is at rest
pub unheld-rests : (e : Entry) → is_unheld e ≡ true → IsTrue (fits_reading e) → is_at_rest e ≡ true
unheld-rests e unheld fits = go e.reading (is_none e.digest) (holds_of e) (sum-none e.holds unheld) fits
  where
    go : (r d : Bool) (n : ℕ) → n ≡ 0 → (not r || (n == 1 && d)) ≡ true → not r ≡ true
    go false d n none fits = refl
    go true d n none fits = absurd (false≢true (rw none at fits))

pub or_other : (a b : Bool) → a ≡ false → (a || b) ≡ true → b ≡ true
or_other a b off h = rw off at h

fits-evicted : (state : State) (e : Entry) → is_cached state ≡ true → is_unheld e ≡ true → is_at_rest e ≡ true → fits_state state e ≡ true → fits_state (evicted_state state) (record e { state = evicted_state state }) ≡ true
fits-evicted Mru e cached unheld rest fits = both _ _ rest (both _ _ unheld (and_right (is_at_rest e) _ fits))
fits-evicted Mfu e cached unheld rest fits = both _ _ rest (both _ _ unheld (or_other e.reading _ (not_true_is _ rest) fits))
fits-evicted Anon e cached unheld rest fits = absurd (false≢true cached)
fits-evicted MruGhost e cached unheld rest fits = absurd (false≢true cached)
fits-evicted MfuGhost e cached unheld rest fits = absurd (false≢true cached)
fits-evicted L2Only e cached unheld rest fits = absurd (false≢true cached)

pub IsSoundEntry-evicted : (e : Entry) → is_evictable e ≡ true → IsSoundEntry e → IsSoundEntry (evicted_entry e)
IsSoundEntry-evicted e evictable sound =
    let unheld = and_left (is_unheld e) _ evictable in
    record {
      key = sound.key;
      state = fits-evicted e.state e (and_right (is_unheld e) _ evictable) unheld (unheld-rests e unheld sound.reading) sound.state;
      reading = sound.reading;
      numbers = sound.numbers;
    }

pub IsSoundEntry-l2_only : (e : Entry) → is_droppable e ≡ true → is_some e.place ≡ true → IsSoundEntry e → IsSoundEntry (l2_only e)
IsSoundEntry-l2_only e droppable place sound =
    let unheld = and_left (is_unheld e) _ droppable in
    record {
      key = sound.key;
      state = both _ _ (unheld-rests e unheld sound.reading) (both _ _ unheld place);
      reading = sound.reading;
      numbers = sound.numbers;
    }

-- ---- an entry that was found

pub record Found (k : Key) (s : PlainShard) (e : Entry) : Type 0 where
  pub item : entry_of k s ≡ Some e
  pub key : e.key ≡ k
  pub there : IsSome (entry_of e.key s)
  pub sound : IsSoundEntry e

pub found : (k : Key) (s : PlainShard) (e : Entry) → IsTidy s → Some e ≡ entry_of k s → Found k s e
found k s e tidy is =
    let item = sym is in
    let key = item_at-key entry_key k s.entries e item in
    record {
      item = item;
      key = key;
      there = subst (λ h. IsSome (entry_of h s)) (sym key) (rw item refl);
      sound = All-item entry_key IsSoundEntry k s.entries e tidy.entries item;
    }

-- what a test on a key's entry says of the entry
pub passes : (test : Entry → Bool) (k : Key) (s : PlainShard) (e : Entry) → entry_of k s ≡ Some e → IsTrue (entry_is test k s) → test e ≡ true
passes test k s e item holds = rw item at holds

-- ---- one turn of room, and of trim

turns_left : (n i : ℕ) → i < n → n - i ≡ suc (n - (i + 1))
turns_left n i lt = omega arith

pub evicting-more : (n i z : ℕ) (s : PlainShard) (k : Key) → i < n → next_evicted z s ≡ Some k → evicting (n - i) z s ≡ evicting (n - (i + 1)) z (evicted k s)
evicting-more n i z s k lt chosen = ap (λ m. evicting m z s) (turns_left n i lt) ∙ ap (λ o. option_map_or (λ k. evicting (n - (i + 1)) z (evicted k s)) o s) chosen

pub trimming-more : (n i : ℕ) (s : PlainShard) (k : Key) → i < n → next_dropped s ≡ Some k → trimming (n - i) s ≡ trimming (n - (i + 1)) (dropped k s)
trimming-more n i s k lt chosen = ap (λ m. trimming m s) (turns_left n i lt) ∙ ap (λ o. option_map_or (λ k. trimming (n - (i + 1)) (dropped k s)) o s) chosen

-- ---- a key that isn't there stays away

-- an absent key is no key of a sequence, and nothing of it can be taken out
pub gone-absent : (k : Key) (s : PlainShard) → IsTidy s → entry_of k s ≡ None → gone k s ≡ s
gone-absent k s tidy absent =
    let entries = without-absent entry_key k s.entries (ap is_some absent) in
    let sequences = off_sequences s k tidy (λ state has. absent_fails (belongs_on state) k s.entries (ap is_some absent)) in
    ap (λ es. record s { entries = es; sequences = taken_off k s.sequences }) entries ∙ ap (λ q. record s { sequences = q }) sequences

pub absent-changed : (j k : Key) (change : Entry → Entry) (es : List Entry) → ((x : Entry) → (change x).key ≡ x.key) → item_at entry_key j es ≡ None → item_at entry_key j (with_change entry_key k change es) ≡ None
absent-changed j k change [] keeps absent = refl
absent-changed j k change (x ∷ xs) keeps absent =
    let other = head_differs entry_key j x xs (ap is_some absent) in
    let rest : item_at entry_key j xs ≡ None = rw other at absent in
    elim (cases_true (key_eq x.key k)) [
      | inl same ↦ rw same (rw (keeps x, other) rest)
      | inr differs ↦ rw (differs, other) (absent-changed j k change xs keeps rest)
    ]

-- putting a key at a head changes no entry
pub at_head-entries : (k : Key) (s : PlainShard) → (at_head k s).entries ≡ s.entries
at_head-entries k s = go (entry_of k s)
  where
    go : (o : Option Entry) → (option_map_or (λ x. record s { sequences = put_at_head x.state k s.sequences }) o s).entries ≡ s.entries
    go None = refl
    go (Some e) = refl

absent-evicted : (j k : Key) (s : PlainShard) → entry_of j s ≡ None → entry_of j (evicted k s) ≡ None
absent-evicted j k s absent =
    ap (item_at entry_key j) (at_head-entries k (changed k evicted_entry (off_sequence k s))) ∙ absent-changed j k evicted_entry s.entries (λ x. refl) absent

pub absent-evicting : (j : Key) (n z : ℕ) (s : PlainShard) → entry_of j s ≡ None → entry_of j (evicting n z s) ≡ None
absent-evicting j zero z s absent = absent
absent-evicting j (suc n) z s absent = go (next_evicted z s) (λ k. absent-evicting j n z (evicted k s) (absent-evicted j k s absent))
  where
    go : (o : Option Key) → ((k : Key) → entry_of j (evicting n z (evicted k s)) ≡ None) → entry_of j (option_map_or (λ k. evicting n z (evicted k s)) o s) ≡ None
    go None rest = absent
    go (Some k) rest = rest k

pub absent-gone : (k : Key) (s : PlainShard) → IsTidy s → entry_of k (gone k s) ≡ None
absent-gone k s tidy = item_at-without_same entry_key k s.entries tidy.once

-- the size of an entry is within that of its state, and is no 0
pub entry-le : (k : Key) (s : PlainShard) (e : Entry) → entry_of k s ≡ Some e → k.size ≤ size_of e.state (map member_of s.entries)
entry-le k s e item =
    let key = item_at-key entry_key k s.entries e item in
    member-le k e.state (map member_of s.entries) (item_at-members k s.entries e item ∙ ap (λ h. Some (member h e.state)) key)

pub sized : (k : Key) → IsTrue (is_well_formed k) → 0 < k.size
sized k formed = grind (arith, nat_tests)

pub block-size : (k : Key) → IsTrue (is_well_formed k) → IsBlockSize k.size
block-size k formed = search rules

-- what is not there is nothing
pub is_none_of : {A : Type 0} (o : Option A) → is_some o ≡ false → o ≡ None
is_none_of None none = refl
is_none_of (Some a) none = absurd (false≢true (sym none))
