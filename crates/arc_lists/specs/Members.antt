-- Members, who are in a state, and what they count to it.
use Rattle.std.specs.Prelude.{ℕ, ◌+◌, if◌then◌else◌, List, [], ◌∷◌}
use Rattle.blk_ptr.specs.declared.key.Key.{Key}
use Rattle.blk_ptr.specs.declared.state.State.{State}
use Rattle.blk_ptr.specs.State.{is_same_state}
use Rattle.arc_lists.specs.declared.member.Member.{Member}

-- the key of a member
abbrev pub member_key : Member → Key
member_key m = m.key

-- what a member counts to a state: its key's size, where that is its state
abbrev pub share_of : State → Member → ℕ
share_of s m = if is_same_state m.state s then m.key.size else 0

-- the size of a state: what its entries have together, whether they stand on a sequence or not (arcs_size)
abbrev pub size_of : State → List Member → ℕ
size_of s [] = 0
size_of s (m ∷ ms) = share_of s m + size_of s ms

-- a member of this key and state
abbrev pub member : Key → State → Member
member k s = record { key = k; state = s }
