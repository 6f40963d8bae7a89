-- The small changes of which the events are made.
use Rattle.std.specs.Prelude.{ℕ, ◌+◌, ◌-◌, Bool, not, ◌||◌, if◌then◌else◌, List, [], ◌∷◌, slice_index, slice_set, Option, is_some}
use Rattle.blk_ptr.specs.declared.state.State.TheVariants.{L2Only}
use Rattle.blk_ptr.specs.State.{is_same_state}
use Rattle.std.specs.Option.{option_map_or}
use Rattle.blk_ptr.specs.declared.key.Key.{Key}
use Rattle.arc_lists.specs.ByKey.{item_at, with_item, without, with_change}
use Rattle.arc_lists.specs.Sequences.{put_at_head, taken_off}
use Rattle.arc_core.specs.declared.entry.Entry.{Entry}
use Rattle.arc_core.specs.declared.entry.Picked.{Picked}
use Rattle.arc_core.specs.declared.entry.Phase.{Phase}
use Rattle.arc_core.specs.declared.entry.Phase.TheVariants.{Idle, Writing}
use Rattle.arc_core.specs.PlainShard.{PlainShard, entry_key, entry_is, entry_of, is_unheld}

-- the entry of the key is changed
abbrev pub changed : Key → (Entry → Entry) → PlainShard → PlainShard
changed k change s = record s { entries = with_change entry_key k change s.entries }

-- the key is taken off the sequence that it stands on
abbrev pub off_sequence : Key → PlainShard → PlainShard
off_sequence k s = record s { sequences = taken_off k s.sequences }

-- the key is put at the head of the sequence of its state, where that state has one
abbrev pub at_head : Key → PlainShard → PlainShard
at_head k s = option_map_or (λ e. record s { sequences = put_at_head e.state k s.sequences }) (entry_of k s) s

-- the entry of the key goes, its place on the cache device included
abbrev pub gone : Key → PlainShard → PlainShard
gone k s = record s { entries = without entry_key k s.entries; sequences = taken_off k s.sequences }

-- an entry comes in; a new entry is held or L2-only, and so stands on no sequence
abbrev pub come : Entry → PlainShard → PlainShard
come e s = record s { entries = with_item entry_key e s.entries }

-- the passed keys are forgotten
abbrev pub with_none_passed : PlainShard → PlainShard
with_none_passed s = record s { passed = [] }

-- ---- holds

-- a number has one hold more, or one less
abbrev pub one_more : ℕ → Entry → Entry
one_more n e = record e { holds = slice_set e.holds n (slice_index e.holds n + 1) }

abbrev pub one_less : ℕ → Entry → Entry
one_less n e = record e { holds = slice_set e.holds n (slice_index e.holds n - 1) }

-- a number gives one hold of the key back; where it was the last one, the key is put at its sequence's head (remove_reference)
abbrev pub given_back : ℕ → Key → PlainShard → PlainShard
given_back n k s =
    let less = changed k (one_less n) s in
    if entry_is is_unheld k less then at_head k less else less

-- ---- a place on the cache device

-- an entry with this place, or none
abbrev pub with_place : Option ℕ → Entry → Entry
with_place place e = record e { place = place }

-- an entry may have this place: an L2-only one has a place
abbrev pub may_have : Option ℕ → Entry → Bool
may_have place e = is_some place || not (is_same_state e.state L2Only)

-- ---- the picked list

-- the pick of the key
abbrev pub pick_of : Key → List Picked → Option Picked
pick_of = item_at (λ pick. pick.key)

-- a feed that writes goes on as long as a picked key is unsettled
abbrev pub writing_phase : List Picked → Phase
writing_phase [] = Idle
writing_phase (pick ∷ picks) = Writing

-- the picked list without a key
abbrev pub without_pick : Key → List Picked → List Picked
without_pick k picks = without (λ pick. pick.key) k picks

-- the key leaves the picked list, and where it was the last one, the feed has ended
abbrev pub settled : Key → PlainShard → PlainShard
settled k s = record s { picked = without_pick k s.picked; phase = writing_phase (without_pick k s.picked) }

-- no feed, and no passed key
abbrev pub unpicked : PlainShard → PlainShard
unpicked s = record s { passed = []; phase = Idle; picked = [] }
