-- A sequence walked from its oldest key on, toward its head.
use Rattle.std.specs.Prelude.{if◌then◌else◌, List, [], ◌∷◌, reverse, Option, Some, None}
use Rattle.blk_ptr.specs.declared.key.Key.{Key}
use Rattle.blk_ptr.specs.declared.state.State.{State}
use Rattle.blk_ptr.specs.Order.{key_eq}
use Rattle.arc_lists.specs.Sequences.{Sequences, sequence_of}

-- the keys of a state's sequence, the oldest first
abbrev pub oldest_first : State → Sequences → List Key
oldest_first s q = reverse (sequence_of s q)

-- the first of a list of keys
abbrev pub first_of : List Key → Option Key
first_of [] = None
first_of (k ∷ ks) = Some k

-- the key that comes next after a key
abbrev pub next_to : Key → List Key → Option Key
next_to k [] = None
next_to k (x ∷ xs) = if key_eq x k then first_of xs else next_to k xs

-- the key that comes before a key, or else this one
abbrev pub ahead_of : Option Key → Key → List Key → Option Key
ahead_of last k [] = None
ahead_of last k (x ∷ xs) = if key_eq x k then last else ahead_of (Some x) k xs
