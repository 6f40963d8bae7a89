-- The sizes of the states, as members come and go.
use Rattle.std.proofs.Common.{◌≡◌, ◌+◌, ◌*◌, ◌≤◌, true, List, [], ◌∷◌, length, Some, inl, inr, refl, subst, arith}
use Rattle.std.specs.List.{AllByRecursion}
use Rattle.blk_ptr.specs.declared.key.Key.{Key}
use Rattle.blk_ptr.specs.declared.state.State.{State}
use Rattle.blk_ptr.specs.declared.state.State.TheVariants.{Anon, Mru, MruGhost, Mfu, MfuGhost, L2Only}
use Rattle.blk_ptr.specs.Order.{key_eq, key_lt}
use Rattle.blk_ptr.specs.Size.{largest_block}
use Rattle.blk_ptr.specs.State.{is_same_state}
use Rattle.arc_lists.specs.declared.member.Member.{Member}
use Rattle.arc_lists.specs.ByKey.{item_at, with_item, without}
use Rattle.arc_lists.specs.Members.{member, member_key, share_of, size_of}
use Rattle.arc_lists.proofs.Tables.{cases_true, some_is}

pub is_same_state-same : (s : State) → is_same_state s s ≡ true
is_same_state-same Anon = refl
is_same_state-same Mru = refl
is_same_state-same MruGhost = refl
is_same_state-same Mfu = refl
is_same_state-same MfuGhost = refl
is_same_state-same L2Only = refl

-- a member that comes in counts to its state
pub size_of-with_item : (t : State) (m : Member) (ms : List Member) → size_of t (with_item member_key m ms) ≡ share_of t m + size_of t ms
size_of-with_item t m [] = refl
size_of-with_item t m (x ∷ xs) = elim (cases_true (key_lt m.key x.key)) [
  | inl below ↦ rw below refl
  | inr other ↦ rw other (omega (arith, size_of-with_item t m xs))
]

-- one that leaves counted to it before
pub size_of-without : (t : State) (k : Key) (ms : List Member) (m : Member) → item_at member_key k ms ≡ Some m → size_of t (without member_key k ms) + share_of t m ≡ size_of t ms
size_of-without t k [] m item = cc
size_of-without t k (x ∷ xs) m item = elim (cases_true (key_eq x.key k)) [
  | inl same ↦ rw same (subst (λ z. size_of t xs + share_of t z ≡ share_of t x + size_of t xs) (some_is (rw same at item)) (omega arith))
  | inr differs ↦ rw differs (omega (arith, size_of-without t k xs m (rw differs at item)))
]

-- a size is within that of so many largest blocks
share_of-le : (t : State) (m : Member) → m.key.size ≤ largest_block → share_of t m ≤ largest_block
share_of-le t m small = elim (cases_true (is_same_state m.state t)) [
  | inl same ↦ rw same small
  | inr differs ↦ rw differs (omega arith)
]

pub size_of-le : (t : State) (ms : List Member) → AllByRecursion (λ m. m.key.size ≤ largest_block) ms → size_of t ms ≤ length ms * largest_block
size_of-le t [] small = omega arith
size_of-le t (m ∷ ms) small = omega (arith, share_of-le t m small.0, size_of-le t ms small.1)

-- the size of a member is within that of its state
pub member-le : (k : Key) (s : State) (ms : List Member) → item_at member_key k ms ≡ Some (member k s) → k.size ≤ size_of s ms
member-le k s ms item =
    let whole = size_of-without s k ms (member k s) item in
    let share : share_of s (member k s) ≡ k.size = rw (is_same_state-same s) refl in
    omega (arith, whole, share)
