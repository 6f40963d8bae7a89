-- The entries as seats, linked lists and sizes. No public clause cites this module.
use Rattle.std.specs.Prelude.{◌≡◌, List}
use Rattle.std.specs.List.{AllByRecursion}
use Rattle.blk_ptr.specs.declared.state.State.{State}
use Rattle.arc_lists.specs.Kept.{ListsKeep, Parts}
use Rattle.arc_lists.specs.Queues.{sequences_in, size_at}
use Rattle.arc_core.specs.declared.entries.Entries.TheInside.{Inside}
use Rattle.arc_core.specs.Entries.{PlainEntries, bytes_in}
use Rattle.arc_core.specs.seats.Seats.{Seat, entries_in, posts_in}

abbrev pub entries : Inside → PlainEntries
entries t = record { items = entries_in t.rows.seats; sequences = sequences_in t.queues; p = t.p; c = t.c; spare = t.rows.spare }

-- what the lists know of the entries
abbrev pub parts : Inside → Parts
parts t = record { members = record { posts = posts_in t.rows.seats; spare = t.rows.spare }; queues = t.queues; sizes = t.sizes; p = t.p; c = t.c }

-- each row has the entry of its key
abbrev pub AreKeyed : List Seat → Type 0
AreKeyed = AllByRecursion (λ s. s.linked.entry.key ≡ s.key)

pub record EntriesKeep (t : Inside) : Type 0 where
  pub keyed : AreKeyed t.rows.seats
  pub lists : ListsKeep (parts t)
  -- each size that is counted along the way is the sum that it stands for
  pub sizes : (s : State) → size_at s t.sizes ≡ bytes_in s (entries t)
