-- The walk of a feed stands where it stood as more is picked and passed.
use Rattle.std.proofs.Common.{◌≡◌, ℕ, IsTrue, subst, Bool, true, false, not, List, [], ◌∷◌, ◌++◌, Option, Some, None, is_some, inl, inr, refl, sym, ◌∙◌}
use Rattle.std.proofs.lemmas.Bool.{false≢true}
use Rattle.blk_ptr.specs.declared.key.Key.{Key}
use Rattle.blk_ptr.specs.declared.state.State.TheVariants.{Mfu}
use Rattle.blk_ptr.specs.Order.{key_eq}
use Rattle.arc_lists.specs.ByKey.{with_item}
use Rattle.arc_lists.specs.Room.{or_else}
use Rattle.arc_lists.specs.Sequences.{stands_on}
use Rattle.arc_lists.specs.Walks.{oldest_first}
use Rattle.arc_lists.proofs.Standing.{and_left, and_right, both, not_true, not_true_is, or_right_false}
use Rattle.arc_lists.proofs.Tables.{cases_true}
use Rattle.arc_core.specs.declared.entry.Phase.{Phase}
use Rattle.arc_core.specs.declared.entry.Picked.{Picked}
use Rattle.arc_core.specs.declared.event.Event.TheVariants.{Pass, Pick}
use Rattle.arc_core.specs.declared.table.walk.Walk.{Walk}
use Rattle.arc_core.specs.Candidate.{may_be_picked}
use Rattle.arc_core.specs.Changes.{pick_of}
use Rattle.arc_core.specs.FeedWalk.{IsWalk, IsWalkOf, Wants, chosen_by, chosen_from, walked_state}
use Rattle.arc_core.specs.PlainShard.{PlainShard, is_passed, place_of}
use Rattle.arc_core.specs.Step.{effect}
use Rattle.arc_core.proofs.Marking.{stands_on-with_key}

walk-same : (s : PlainShard) (passed : List Key) (phase : Phase) (picked : List Picked) (w : Walk)
    → ((k : Key) → may_be_picked (record s { passed = passed; phase = phase; picked = picked }) k ≡ true → may_be_picked s k ≡ true)
    → IsWalkOf s w → IsWalkOf (record s { passed = passed; phase = phase; picked = picked }) w
walk-same s passed phase picked w fewer on = record { within = on.within; stands = on.stands; rest = λ wanted wants. on.rest wanted (λ k is. fewer k (wants k is)) }

-- ---- a pick

some-before : (k : Key) (picks : List Picked) (p : Picked) → is_some (pick_of k (picks ++ p ∷ [])) ≡ false → is_some (pick_of k picks) ≡ false
some-before k [] p none = refl
some-before k (x ∷ xs) p none = elim (cases_true (key_eq x.key k)) [
  | inl same ↦ absurd (false≢true (sym (rw same at none)))
  | inr differs ↦ rw differs (some-before k xs p (rw differs at none))
]

pub walk-picked : (s : PlainShard) (n : ℕ) (j : Key) (w : Walk) → IsWalkOf s w → IsWalkOf (effect s (Pick n j)) w
walk-picked s n j w on = walk-same s s.passed (effect s (Pick n j)).phase (effect s (Pick n j)).picked w fewer on
  where
    fewer : (k : Key) → may_be_picked (effect s (Pick n j)) k ≡ true → may_be_picked s k ≡ true
    fewer k may =
        let t = effect s (Pick n j) in
        let rest = and_right (not (is_some (place_of k s))) _ may in
        let unpicked = not_true_is (is_some (pick_of k t.picked)) (and_left _ (not (is_passed s k)) rest) in
        both _ _ (and_left (not (is_some (place_of k s))) _ may) (both _ _ (not_true _ (some-before k s.picked _ unpicked)) (and_right (not (is_some (pick_of k t.picked))) _ rest))

-- ---- a pass

pub walk-passed : (s : PlainShard) (n : ℕ) (j : Key) (owner : ℕ) (o : Option Walk) → IsWalk s o → IsWalk (effect s (Pass n j owner)) o
walk-passed s n j owner None on = tt
walk-passed s n j owner (Some w) on = walk-same s (with_item (λ x. x) j s.passed) s.phase s.picked w fewer on
  where
    fewer : (k : Key) → may_be_picked (effect s (Pass n j owner)) k ≡ true → may_be_picked s k ≡ true
    fewer k may =
        let t = effect s (Pass n j owner) in
        let rest = and_right (not (is_some (place_of k s))) _ may in
        let unpassed : is_passed t k ≡ false = not_true_is (is_passed t k) (and_right (not (is_some (pick_of k s.picked))) _ rest) in
        both _ _ (and_left (not (is_some (place_of k s))) _ may)
        (both _ _ (and_left (not (is_some (pick_of k s.picked))) _ rest) (not_true _ (or_right_false (key_eq j k) (stands_on k s.passed) (sym (stands_on-with_key k s.passed j) ∙ unpassed))))

-- ---- where MFU has nothing more

pub none-first : (first second : Option Key) → first ≡ None → or_else first second ≡ second
none-first first second none = rw none refl

pub some-first : (k : Key) (first second : Option Key) → first ≡ Some k → or_else first second ≡ Some k
some-first k first second some = rw some refl

-- what may not be picked isn't wanted
pub unwanted : (s : PlainShard) (wanted : Key → Bool) (k : Key) → Wants s wanted → may_be_picked s k ≡ false → wanted k ≡ false
unwanted s wanted k wants may = elim (cases_true (wanted k)) [
  | inl is ↦ absurd (false≢true (sym may ∙ wants k is))
  | inr off ↦ off
]

-- a walk that is not done with MFU
pub record OnMfu (s : PlainShard) (w : Walk) : Type 0 where
  pub stands : (k : Key) → w.next ≡ Some k → IsTrue (stands_on k (oldest_first Mfu s.sequences))
  pub rest : (wanted : Key → Bool) → Wants s wanted → chosen_by s wanted ≡ chosen_from s false w.met w.next wanted

pub on-mfu : (s : PlainShard) (w : Walk) → w.on_mru ≡ false → IsWalkOf s w → OnMfu s w
on-mfu s w off on = record {
  stands = subst (λ b. (k : Key) → w.next ≡ Some k → IsTrue (stands_on k (oldest_first (walked_state b) s.sequences))) off on.stands;
  rest = subst (λ b. (wanted : Key → Bool) → Wants s wanted → chosen_by s wanted ≡ chosen_from s b w.met w.next wanted) off on.rest;
}
