-- The entries with the places of their nodes, as plain data.
use Rattle.std.specs.Prelude.{ℕ, List, [], map}
use Rattle.blk_ptr.specs.declared.key.Key.{Key}
use Rattle.arc_lists.specs.Posts.{Post, post, standing}
use Rattle.arc_core.specs.declared.entry.Entry.{Entry}
use Rattle.arc_core.specs.declared.rows.Linked.{Linked}

-- a key with its entry and the place of its node
pub record Seat : Type 0 where
  pub key : Key
  pub linked : Linked

pub record Seats : Type 0 where
  -- in rising order of keys
  pub seats : List Seat
  -- for how many more there is room
  pub spare : ℕ

-- there is none, and no room
abbrev pub no_seats : Seats
no_seats = record { seats = []; spare = 0 }

abbrev pub seat_key : Seat → Key
seat_key s = s.key

abbrev pub seat : Key → Linked → Seat
seat k l = record { key = k; linked = l }

-- the entry of a seat: the seat's key decides
abbrev pub entry_in : Seat → Entry
entry_in s = record s.linked.entry { key = s.key }

abbrev pub entries_in : List Seat → List Entry
entries_in = map entry_in

-- what the lists know of a seat
abbrev pub post_in : Seat → Post
post_in s = post s.key (standing s.linked.entry.state s.linked.at)

abbrev pub posts_in : List Seat → List Post
posts_in = map post_in
