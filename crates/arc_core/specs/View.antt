-- What is shown of an entry.
use Rattle.std.specs.Prelude.{ℕ, ◌+◌, ◌==◌, if◌then◌else◌, List, [], ◌∷◌, Option, Some, None}
use Rattle.arc_core.specs.declared.entry.Entry.{Entry}
use Rattle.arc_core.specs.declared.shard.EntryView.{EntryView}
use Rattle.arc_core.specs.PlainShard.{holds_of}

-- the least number that has a hold, where the counts are those from a number on
abbrev pub first_holder : ℕ → List ℕ → Option ℕ
first_holder n [] = None
first_holder n (count ∷ counts) = if count == 0 then first_holder (n + 1) counts else Some n

abbrev pub holder_of : Entry → Option ℕ
holder_of e = first_holder 0 e.holds

-- an entry as it is shown: who reads it, and how many holds there are on it
abbrev pub view_of : Entry → EntryView
view_of e = record {
  state = e.state;
  reader = if e.reading then holder_of e else None;
  last = e.last;
  place = e.place;
  digest = e.digest;
  held = holds_of e;
}
