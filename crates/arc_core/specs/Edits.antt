-- The edits of a shard's table of which its events are made.
use Rattle.std.specs.Prelude.{◌≡◌, Bool, not, ◌&&◌, if◌then◌else◌, IsSomeAnd}
use Rattle.blk_ptr.specs.State.{is_cached, is_ghost}
use Rattle.arc_lists.specs.ByKey.{with_change}
use Rattle.arc_lists.specs.Sequences.{Sequences, has_sequence, put_at_head, taken_off}
use Rattle.arc_core.specs.declared.entry.Entry.{Entry}
use Rattle.arc_core.specs.PlainShard.{PlainShard, entry_key, entry_of, is_unheld}

-- an entry that stands on no sequence: it is held, or its state has none
abbrev pub is_off : Entry → Bool
is_off e = not (is_unheld e && has_sequence e.state)

-- the sequences with an entry at the head of its state's, where nobody holds it
abbrev pub with_standing : Entry → Sequences → Sequences
with_standing e q = if is_unheld e then put_at_head e.state e.key q else q

-- an entry takes the place of its key's: it stands at its sequence's head where nobody holds it, and else on none
abbrev pub placed : Entry → PlainShard → PlainShard
placed e s = record s { entries = with_change entry_key e.key (λ old. e) s.entries; sequences = with_standing e (taken_off e.key s.sequences) }

-- an entry takes the place of its key's, and the key stays where it stands
abbrev pub amended : Entry → PlainShard → PlainShard
amended e s = record s { entries = with_change entry_key e.key (λ old. e) s.entries }

-- the key's entry has the state and the holds of this one
abbrev pub HasAlike : Entry → PlainShard → Type 0
HasAlike e s = IsSomeAnd (entry_of e.key s) (λ old. (old.state ≡ e.state) × (old.holds ≡ e.holds))

-- an unheld entry whose bytes are cached, which may be evicted
abbrev pub is_evictable : Entry → Bool
is_evictable e = is_unheld e && is_cached e.state

-- an unheld ghost, which may be dropped
abbrev pub is_droppable : Entry → Bool
is_droppable e = is_unheld e && is_ghost e.state
