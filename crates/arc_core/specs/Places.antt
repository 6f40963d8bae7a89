-- What events make of a key's place on the cache device, and of which events an entry with more than a place comes.
use Rattle.std.specs.Prelude.{◌≡◌, Bool, false, not, IsTrue, ◌⊎◌, List, None}
use Rattle.std.specs.List.{list_any}
use Rattle.blk_ptr.specs.declared.key.Key.{Key}
use Rattle.blk_ptr.specs.Order.{key_eq}
use Rattle.arc_core.specs.declared.event.Event.{Event}
use Rattle.arc_core.specs.declared.event.Event.TheVariants.{Miss, Insert, Set, Restore}
use Rattle.arc_core.specs.PlainShard.{PlainShard, place_of}
use Rattle.arc_core.specs.Replay.{is_legal_history, replay}
use Rattle.arc_core.specs.Sound.{IsSound}
use Rattle.arc_core.specs.Step.{after, is_new_here, legal}

-- the event gives this key a place: only a set and a restore do
abbrev pub gives_place : Key → Event → Bool
gives_place j (Set n k place) = key_eq j k
gives_place j (Restore n k place d) = key_eq j k
gives_place j _ = false

-- where an event gives a key no place, the key's place is as it was, or gone
abbrev pub IsTakingPlaces : Type 0
IsTakingPlaces = (s : PlainShard) (e : Event) (j : Key) → IsSound s → IsTrue (legal s e) → IsTrue (not (gives_place j e))
    → (place_of j (after s e) ≡ place_of j s) ⊎ (place_of j (after s e) ≡ None)

-- the event takes this key in: a miss or an insertion of it
abbrev pub takes_in : Key → Event → Bool
takes_in j (Miss n k t) = key_eq j k
takes_in j (Insert n k d t) = key_eq j k
takes_in j _ = false

-- where nothing, or only a place, was kept of a key, and more is kept of it after a history, that history took it in
abbrev pub IsTakenIn : Type 0
IsTakenIn = (s : PlainShard) (history : List Event) (j : Key) → IsSound s → IsTrue (is_legal_history s history) → IsTrue (is_new_here j s)
    → IsTrue (not (is_new_here j (replay s history))) → IsTrue (list_any (takes_in j) history)
