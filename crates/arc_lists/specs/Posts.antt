-- Who is there, with the places of their nodes, as plain data.
use Rattle.std.specs.Prelude.{ℕ, List, map, Option}
use Rattle.blk_ptr.specs.declared.key.Key.{Key}
use Rattle.blk_ptr.specs.declared.state.State.{State}
use Rattle.arc_lists.specs.declared.member.Member.{Member}

-- the state of a key, and the place of its node on its state's sequence, where it stands there
pub record Standing : Type 0 where
  pub state : State
  pub at : Option ℕ

-- a key with its standing
pub record Post : Type 0 where
  pub key : Key
  pub standing : Standing

pub record Posts : Type 0 where
  -- each key that is there, with its state and the place of its node, in rising order of keys
  pub posts : List Post
  -- for how many more there is room
  pub spare : ℕ

abbrev pub post_key : Post → Key
post_key p = p.key

abbrev pub post : Key → Standing → Post
post k s = record { key = k; standing = s }

abbrev pub standing : State → Option ℕ → Standing
standing s at = record { state = s; at = at }

-- a post without its place
abbrev pub member_of : Post → Member
member_of p = record { key = p.key; state = p.standing.state }

abbrev pub members_of : List Post → List Member
members_of = map member_of
