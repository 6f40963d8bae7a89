-- The entries that events write are sound, and writing them is what the events do.
use Rattle.std.proofs.Common.{◌≡◌, ℕ, zero, suc, ◌+◌, ◌<◌, Bool, true, false, not, ◌&&◌, ◌||◌, if◌then◌else◌, nat_lt, ◌==◌, IsTrue, List, [], ◌∷◌, length, sum, set, get_or, Option, Some, is_some, inl, inr, refl, sym, ap, subst, ◌∙◌, arith}
use Rattle.std.specs.List.{list_all}
use Rattle.std.specs.Option.{option_map_or}
use Rattle.std.proofs.lemmas.Bool.{false≢true}
use Rattle.std.proofs.lemmas.Bool.Decides.{nat_tests}
use Rattle.std.proofs.lemmas.List.Sums.{sum_by-set}
use Rattle.std.proofs.Math.ListN.{length-set}
use Rattle.std.proofs.lemmas.List.{get_or-replicate}
use Rattle.blk_ptr.specs.declared.key.Key.{Key}
use Rattle.blk_ptr.specs.declared.digest.Digest.{Digest}
use Rattle.blk_ptr.specs.declared.state.State.{State}
use Rattle.blk_ptr.specs.declared.state.State.TheVariants.{Anon, Mru, MruGhost, Mfu, MfuGhost, L2Only}
use Rattle.blk_ptr.specs.Key.{is_well_formed}
use Rattle.blk_ptr.proofs.Keys.{key_eq-same}
use Rattle.blk_ptr.specs.State.{is_cached, is_same_state}
use Rattle.arc_lists.specs.ByKey.{with_change}
use Rattle.arc_lists.specs.Sequences.{Sequences, has_sequence, put_at_head, taken_off}
use Rattle.arc_lists.proofs.Standing.{and_left, and_right, not_true_is}
use Rattle.arc_lists.proofs.Tables.{cases_true, item_at-key, item_at-with_change_same}
use Rattle.arc_core.specs.declared.entry.Entry.{Entry}
use Rattle.arc_core.specs.PlainShard.{PlainShard, entry_key, entry_of, held_by, is_at_rest, is_resident, is_unheld, no_holds, numbers, one_hold}
use Rattle.arc_core.specs.Changes.{changed, given_back, off_sequence, one_less, one_more}
use Rattle.arc_core.specs.Edits.{is_off, placed, with_standing}
use Rattle.arc_core.specs.Rules.{access, accessed, arrived_state}
use Rattle.arc_core.specs.Sound.{IsSoundEntry, IsTidy, belongs_on, fits_reading, fits_state}
use Rattle.arc_core.specs.Step.{arrived, hit_entry, read_entry, reads, restored_entry, written_entry}
use Rattle.arc_core.proofs.Evictions.{changed-written, off-changed}
use Rattle.arc_core.proofs.Tidy.{off_sequences}

-- ---- counts of holds

-- a count that is not 0 is a hold
pub held-set : (xs : List ℕ) (n v : ℕ) → n < length xs → 0 < v → list_all (λ x. x == 0) (set xs n v) ≡ false
held-set [] n v lt some = absurd (omega arith)
held-set (x ∷ xs) zero v lt some = rw (positive v some) refl
  where
    positive : (v : ℕ) → 0 < v → (v == 0) ≡ false
    positive v some = grind (arith, nat_tests)
held-set (x ∷ xs) (suc n) v lt some = elim (cases_true (x == 0)) [
  | inl none ↦ rw none (held-set xs n v (omega arith) some)
  | inr some_here ↦ rw some_here refl
]

pub held-get : (xs : List ℕ) (n : ℕ) → not (get_or xs n 0 == 0) ≡ true → list_all (λ x. x == 0) xs ≡ false
held-get [] n held = absurd (false≢true held)
held-get (x ∷ xs) zero held = rw (not_true_is _ held) refl
held-get (x ∷ xs) (suc n) held = elim (cases_true (x == 0)) [
  | inl none ↦ rw none (held-get xs n held)
  | inr some_here ↦ rw some_here refl
]

pub unheld-one_more : (n : ℕ) (e : Entry) → n < length e.holds → is_unheld (one_more n e) ≡ false
unheld-one_more n e lt = held-set e.holds n _ lt (omega arith)

pub unheld-held : (n : ℕ) (e : Entry) → not (held_by n e == 0) ≡ true → is_unheld e ≡ false
unheld-held n e held = held-get e.holds n held

-- ---- entries that stand on no sequence while they are held

-- a held entry takes no head
pub standing-held : (e : Entry) (q : Sequences) → is_unheld e ≡ false → with_standing e q ≡ q
standing-held e q held = ap (λ b. if b then put_at_head e.state e.key q else q) held

pub off-held : (e : Entry) → is_unheld e ≡ false → IsTrue (is_off e)
off-held e held = ap (λ b. not (b && has_sequence e.state)) held

-- a held entry's key stands on no sequence
pub off-taken : (k : Key) (s : PlainShard) (e : Entry) → IsTidy s → entry_of k s ≡ Some e → is_unheld e ≡ false → taken_off k s.sequences ≡ s.sequences
off-taken k s e tidy item held = off_sequences s k tidy (λ state has. ap (λ o. option_map_or (belongs_on state) o false) item ∙ ap (λ b. b && is_same_state e.state state) held)

-- a change of a held entry to a held one is writing it
pub changed-held : (change : Entry → Entry) (s : PlainShard) (e : Entry) → IsTidy s → entry_of e.key s ≡ Some e → (change e).key ≡ e.key → is_unheld e ≡ false → is_unheld (change e) ≡ false
    → placed (change e) s ≡ changed e.key change s
changed-held change s e tidy item key held still =
    sym (off-changed change s e item key (standing-held (change e) (taken_off e.key s.sequences) still))
    ∙ ap (λ q. record s { entries = with_change entry_key e.key change s.entries; sequences = q }) (off-taken e.key s e tidy item held)

-- ---- a hit

or_second : (a b : Bool) → b ≡ true → (a || b) ≡ true
or_second true b h = refl
or_second false b h = h

fits-hit : (state : State) (mintime t n : ℕ) (e : Entry) → is_cached state ≡ true → is_at_rest e ≡ true → fits_state state e ≡ true
    → fits_state (hit_entry n mintime t (record e { state = state })).state (hit_entry n mintime t (record e { state = state })) ≡ true
fits-hit Mru mintime t n e cached rest fits = elim (cases_true (nat_lt (e.last + mintime) t)) [
  | inl late ↦ rw late (or_second e.reading _ (and_right (is_at_rest e) _ fits))
  | inr early ↦ rw early fits
]
fits-hit Mfu mintime t n e cached rest fits = fits
fits-hit Anon mintime t n e cached rest fits = absurd (false≢true cached)
fits-hit MruGhost mintime t n e cached rest fits = absurd (false≢true cached)
fits-hit MfuGhost mintime t n e cached rest fits = absurd (false≢true cached)
fits-hit L2Only mintime t n e cached rest fits = absurd (false≢true cached)

-- what an access leaves as it was
pub record Accessed (e f : Entry) : Type 0 where
  pub key : f.key ≡ e.key
  pub holds : f.holds ≡ e.holds
  pub reading : f.reading ≡ e.reading
  pub digest : f.digest ≡ e.digest

pub accessed-keeps : (state : State) (mintime t : ℕ) (e : Entry) → Accessed e (access state mintime t e)
accessed-keeps Mru mintime t e = go (nat_lt (e.last + mintime) t)
  where
    go : (b : Bool) → Accessed e (if b then record e { state = Mfu; last = t } else e)
    go true = record { key = refl; holds = refl; reading = refl; digest = refl }
    go false = record { key = refl; holds = refl; reading = refl; digest = refl }
accessed-keeps Mfu mintime t e = record { key = refl; holds = refl; reading = refl; digest = refl }
accessed-keeps Anon mintime t e = record { key = refl; holds = refl; reading = refl; digest = refl }
accessed-keeps MruGhost mintime t e = record { key = refl; holds = refl; reading = refl; digest = refl }
accessed-keeps MfuGhost mintime t e = record { key = refl; holds = refl; reading = refl; digest = refl }
accessed-keeps L2Only mintime t e = record { key = refl; holds = refl; reading = refl; digest = refl }

at_rest-fits : (e : Entry) → is_at_rest e ≡ true → IsTrue (fits_reading e)
at_rest-fits e rest = rw rest refl

pub IsSoundEntry-hit : (n mintime t : ℕ) (e : Entry) → is_resident e ≡ true → IsSoundEntry e → IsSoundEntry (hit_entry n mintime t e)
IsSoundEntry-hit n mintime t e resident sound =
    let kept = accessed-keeps e.state mintime t e in
    let rest = and_right (is_cached e.state) _ resident in
    record {
      key = subst (λ k. IsTrue (is_well_formed k)) (sym kept.key) sound.key;
      state = fits-hit e.state mintime t n e (and_left _ _ resident) rest sound.state;
      reading = at_rest-fits (hit_entry n mintime t e) (ap not kept.reading ∙ rest);
      numbers = length-set (accessed mintime t e).holds n _ ∙ ap length kept.holds ∙ sound.numbers;
    }

pub hit-placed : (n t : ℕ) (k : Key) (s : PlainShard) (e : Entry) → entry_of k s ≡ Some e → n < numbers → IsSoundEntry e
    → placed (hit_entry n s.mintime t e) s ≡ changed k (hit_entry n s.mintime t) (off_sequence k s)
hit-placed n t k s e item lt sound =
    let is = item_at-key entry_key k s.entries e item in
    let kept = accessed-keeps e.state s.mintime t e in
    let held : is_unheld (hit_entry n s.mintime t e) ≡ false = unheld-one_more n (accessed s.mintime t e) (omega (arith, ap length kept.holds, sound.numbers)) in
    subst (λ h. placed (hit_entry n s.mintime t e) s ≡ changed h (hit_entry n s.mintime t) (off_sequence h s)) is
    (sym (off-changed (hit_entry n s.mintime t) s e (subst (λ h. entry_of h s ≡ Some e) (sym is) item) kept.key (standing-held (hit_entry n s.mintime t e) _ held)))

-- ---- an arrival

fits-arrived : (state : State) (d : Digest) (e : Entry) → e.reading ≡ true → fits_state state e ≡ true → fits_state (arrived_state state) (arrived d (record e { state = state })) ≡ true
fits-arrived Anon d e reads fits = refl
fits-arrived Mru d e reads fits = absurd (false≢true (sym (ap not reads) ∙ and_left _ _ fits))
fits-arrived MruGhost d e reads fits = absurd (false≢true (sym (ap not reads) ∙ and_left _ _ fits))
fits-arrived Mfu d e reads fits = refl
fits-arrived MfuGhost d e reads fits = absurd (false≢true (sym (ap not reads) ∙ and_left _ _ fits))
fits-arrived L2Only d e reads fits = absurd (false≢true (sym (ap not reads) ∙ and_left _ _ fits))

pub IsSoundEntry-arrived : (d : Digest) (e : Entry) → e.reading ≡ true → IsSoundEntry e → IsSoundEntry (arrived d e)
IsSoundEntry-arrived d e reading sound = record { key = sound.key; state = fits-arrived e.state d e reading sound.state; reading = refl; numbers = sound.numbers }

-- a change of a held entry that leaves its holds, or that leaves it held, is writing the changed entry
pub change-placed : (change : Entry → Entry) (k : Key) (s : PlainShard) (e : Entry) → IsTidy s → entry_of k s ≡ Some e → (change e).key ≡ e.key → is_unheld e ≡ false → is_unheld (change e) ≡ false
    → placed (change e) s ≡ changed k change s
change-placed change k s e tidy item key held still =
    let is = item_at-key entry_key k s.entries e item in
    subst (λ h. placed (change e) s ≡ changed h change s) is (changed-held change s e tidy (subst (λ h. entry_of h s ≡ Some e) (sym is) item) key held still)

-- ---- a hold given back

fits-held : (state : State) (counts : List ℕ) (e : Entry) → is_at_rest e ≡ true → is_unheld e ≡ false → fits_state state e ≡ true → fits_state state (record e { state = state; holds = counts }) ≡ true
fits-held Anon counts e rest held fits = fits
fits-held Mru counts e rest held fits = fits
fits-held Mfu counts e rest held fits = fits
fits-held MruGhost counts e rest held fits = absurd (false≢true (sym held ∙ and_left (is_unheld e) _ (and_right (is_at_rest e) _ fits)))
fits-held MfuGhost counts e rest held fits = absurd (false≢true (sym held ∙ and_left (is_unheld e) _ (and_right (is_at_rest e) _ fits)))
fits-held L2Only counts e rest held fits = absurd (false≢true (sym held ∙ and_left (is_unheld e) _ (and_right (is_at_rest e) _ fits)))

-- an entry at rest that is held may have any counts
pub IsSoundEntry-held : (counts : List ℕ) (e : Entry) → is_at_rest e ≡ true → is_unheld e ≡ false → length counts ≡ length e.holds → IsSoundEntry e → IsSoundEntry (record e { holds = counts })
IsSoundEntry-held counts e rest held same sound = record {
  key = sound.key;
  state = fits-held e.state counts e rest held sound.state;
  reading = at_rest-fits (record e { holds = counts }) rest;
  numbers = same ∙ sound.numbers;
}

pub given_back-placed : (n : ℕ) (k : Key) (s : PlainShard) (e : Entry) → IsTidy s → entry_of k s ≡ Some e → is_unheld e ≡ false → placed (one_less n e) s ≡ given_back n k s
given_back-placed n k s e tidy item held =
    let is : e.key ≡ k = item_at-key entry_key k s.entries e item in
    let item' : entry_of e.key s ≡ Some e = subst (λ h. entry_of h s ≡ Some e) (sym is) item in
    let h = e.key in
    let less = changed h (one_less n) s in
    let now : entry_of h less ≡ Some (one_less n e) = item_at-with_change_same entry_key h (one_less n) s.entries e (key_eq-same h) item' in
    let taken = off-taken h s e tidy item' held in
    let written = changed-written h (one_less n) s.entries e item' in
    let e' = one_less n e in
    let choose : (b : Bool) → record s { entries = with_change entry_key h (one_less n) s.entries; sequences = if b then put_at_head e'.state h s.sequences else s.sequences } ≡ (if b then record less { sequences = put_at_head e'.state h s.sequences } else less) = λ b. elim b as (λ b. record s { entries = with_change entry_key h (one_less n) s.entries; sequences = if b then put_at_head e'.state h s.sequences else s.sequences } ≡ (if b then record less { sequences = put_at_head e'.state h s.sequences } else less)) [ true ↦ refl | false ↦ refl ] in
    subst (λ j. placed e' s ≡ given_back n j s) is
    (ap (λ es. record s { entries = es; sequences = with_standing e' (taken_off h s.sequences) }) (sym written)
    ∙ ap (λ q. record s { entries = with_change entry_key h (one_less n) s.entries; sequences = with_standing e' q }) taken
    ∙ choose (is_unheld e')
    ∙ ap (λ o. if option_map_or is_unheld o false then option_map_or (λ x. record less { sequences = put_at_head x.state h less.sequences }) o less else less) (sym now))

-- ---- entries that come in

pub sum-one_hold : (n : ℕ) → n < numbers → sum (one_hold n) ≡ 1
sum-one_hold n lt = omega (arith, sum_by-set (λ x. x) no_holds n 1 0 lt, get_or-replicate {A = ℕ} numbers n 0 0 lt)

pub length-one_hold : (n : ℕ) → length (one_hold n) ≡ numbers
length-one_hold n = length-set no_holds n 1

pub held-one_hold : (n : ℕ) → n < numbers → list_all (λ x. x == 0) (one_hold n) ≡ false
held-one_hold n lt = held-set no_holds n 1 lt (omega arith)

pub IsSoundEntry-read : (n : ℕ) (k : Key) (t : ℕ) (s : PlainShard) → n < numbers → IsTrue (is_well_formed k) → IsSoundEntry (read_entry n k t s)
IsSoundEntry-read n k t s lt formed = record {
  key = formed;
  state = go (is_some (entry_of k s));
  reading = ap (λ m. m == 1 && true) (sum-one_hold n lt);
  numbers = length-one_hold n;
}
  where
    go : (b : Bool) → fits_state (if b then Mfu else Anon) (read_entry n k t s) ≡ true
    go true = refl
    go false = refl

pub IsSoundEntry-written : (n : ℕ) (k : Key) (d : Digest) (t : ℕ) → IsTrue (is_well_formed k) → IsSoundEntry (written_entry n k d t)
IsSoundEntry-written n k d t formed = record { key = formed; state = refl; reading = refl; numbers = length-one_hold n }

pub IsSoundEntry-restored : (k : Key) (place : ℕ) (d : Option Digest) → IsTrue (is_well_formed k) → IsSoundEntry (restored_entry k place d)
IsSoundEntry-restored k place d formed = record { key = formed; state = refl; reading = refl; numbers = refl }
