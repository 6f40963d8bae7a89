-- The events that are owed: whatever is held, being read or picked is to end, and each end is an event.
use Rattle.std.specs.Prelude.{ℕ, ◌+◌, if◌then◌else◌, List, [], ◌∷◌, length}
use Rattle.arc_core.specs.declared.entry.Entry.{Entry}
use Rattle.arc_core.specs.declared.event.Event.{Event}
use Rattle.arc_core.specs.declared.event.Event.TheVariants.{Pass, Hit, Miss, Arrive, Fail, Drop, Past, Hand, Insert, Release, Pick, FeedEnd, Set, Leave, Clear, Restore, Resize}
use Rattle.arc_core.specs.PlainShard.{PlainShard, holds_of, is_absent}

-- what is owed for an entry
abbrev pub owed_by : Entry → ℕ
owed_by e = holds_of e + (if e.reading then 1 else 0)

-- what is owed for entries
abbrev pub owed_in : List Entry → ℕ
owed_in [] = 0
owed_in (e ∷ es) = owed_by e + owed_in es

abbrev pub owed_of : PlainShard → ℕ
owed_of s = owed_in s.entries + length s.picked

-- How much room an event takes beyond what is owed already: for itself, and for each hold, reading or pick that it begins; an event
-- that ends one of these was owed.
abbrev pub room_for : Event → ℕ
room_for (Pass n k owner) = 1
room_for (Hit n k t) = 2
room_for (Miss n k t) = 3
room_for (Arrive n k d from) = 0
room_for (Fail n k at) = 0
room_for (Drop n k) = 0
room_for (Past n k kept) = 1
room_for (Hand n k to) = 1
room_for (Insert n k d t) = 2
room_for (Release n k sole) = 0
room_for (Pick n k) = 2
room_for (FeedEnd n) = 1
room_for (Set n k place) = 0
room_for (Leave n k why) = 0
room_for (Clear n k) = 1
room_for (Restore n k place d) = 1
room_for (Resize n c) = 1

-- whether an event makes an entry
abbrev pub entries_for : PlainShard → Event → ℕ
entries_for s (Miss n k t) = if is_absent k s then 1 else 0
entries_for s (Insert n k d t) = if is_absent k s then 1 else 0
entries_for s (Restore n k place d) = 1
entries_for s _ = 0
