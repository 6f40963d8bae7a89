-- Places on the cache device that entries gain and lose.
use Rattle.std.proofs.Common.{◌≡◌, ℕ, Bool, true, false, not, ◌||◌, if◌then◌else◌, IsTrue, IsSome, IsSomeAnd, Option, Some, None, is_some, refl, sym, ap, subst}
use Rattle.std.specs.Option.{option_map_or}
use Rattle.std.proofs.lemmas.Bool.{false≢true}
use Rattle.blk_ptr.specs.declared.key.Key.{Key}
use Rattle.blk_ptr.specs.declared.state.State.TheVariants.{L2Only}
use Rattle.blk_ptr.specs.State.{is_same_state}
use Rattle.arc_lists.proofs.Standing.{and_right, not_true}
use Rattle.arc_core.specs.declared.entry.Entry.{Entry}
use Rattle.arc_core.specs.declared.event.Event.TheVariants.{Clear, Set}
use Rattle.arc_core.specs.PlainShard.{PlainShard, entry_is, entry_of, is_number}
use Rattle.arc_core.specs.Changes.{changed, gone, may_have, with_place}
use Rattle.arc_core.specs.Edits.{HasAlike}
use Rattle.arc_core.specs.Sound.{IsSoundEntry}
use Rattle.arc_core.specs.Step.{cleared, is_writing, legal}
use Rattle.arc_core.proofs.Evictions.{Found, passes}
use Rattle.arc_core.proofs.Legal.{IsSoundEntry-place}
use Rattle.arc_core.proofs.Soundness.{placed-entry, settable}

own-item : (k : Key) (s : PlainShard) (e : Entry) → Found k s e → entry_of e.key s ≡ Some e
own-item k s e at = subst (λ h. entry_of h s ≡ Some e) (sym at.key) at.item

pub alike-place : (place : Option ℕ) (k : Key) (s : PlainShard) (e : Entry) → Found k s e → HasAlike (with_place place e) s
alike-place place k s e at = subst (λ o. IsSomeAnd o (λ old. (old.state ≡ e.state) × (old.holds ≡ e.holds))) (sym (own-item k s e at)) (refl, refl)

needs-place : (place l2 : Bool) → (place || not l2) ≡ true → l2 ≡ true → place ≡ true
needs-place true l2 h is = refl
needs-place false true h is = absurd (false≢true h)
needs-place false false h is = absurd (false≢true is)

pub sound-place : (place : Option ℕ) (k : Key) (s : PlainShard) (e : Entry) → Found k s e → IsTrue (entry_is (may_have place) k s) → IsSoundEntry (with_place place e)
sound-place place k s e at may = IsSoundEntry-place place e (needs-place (is_some place) (is_same_state e.state L2Only) (passes (may_have place) k s e at.item may)) at.sound

-- ---- a key that is set, and one that is cleared

pub set-has : (n : ℕ) (k : Key) (place : ℕ) (s : PlainShard) → IsTrue (legal s (Set n k place)) → IsTrue (entry_is (may_have (Some place)) k s)
set-has n k place s ok =
    let e = settable s k (and_right (is_writing s.phase) _ (and_right (is_number n) _ ok)) in
    subst (λ o. option_map_or (may_have (Some place)) o false ≡ true) (sym e.1) refl

pub clear-there : (n : ℕ) (k : Key) (s : PlainShard) → IsTrue (legal s (Clear n k)) → IsSome (entry_of k s)
clear-there n k s ok = let e = placed-entry s k (and_right (is_number n) _ ok) in subst (λ o. IsSome o) (sym e.1) refl

pub clear-has : (n : ℕ) (k : Key) (s : PlainShard) → IsTrue (legal s (Clear n k)) → entry_is (λ e. is_same_state e.state L2Only) k s ≡ false → IsTrue (entry_is (may_have None) k s)
clear-has n k s ok more =
    let e = placed-entry s k (and_right (is_number n) _ ok) in
    let apart : is_same_state e.0.state L2Only ≡ false = subst (λ o. option_map_or (λ (x : Entry). is_same_state x.state L2Only) o false ≡ false) e.1 more in
    subst (λ o. option_map_or (may_have None) o false ≡ true) (sym e.1) (not_true _ apart)

pub cleared-is : (k : Key) (s : PlainShard) (b : Bool) → entry_is (λ e. is_same_state e.state L2Only) k s ≡ b → (if b then gone k s else changed k (with_place None) s) ≡ cleared k s
cleared-is k s b is = ap (λ x. if x then gone k s else changed k (with_place None) s) (sym is)
