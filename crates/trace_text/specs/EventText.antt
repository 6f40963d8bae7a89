-- The line of an event in a report.
use Rattle.std.specs.Prelude.{ℕ, ◌+◌, Bool, true, false, List, [], ◌∷◌, ◌++◌, Option, Some, None, codes, decimal}
use Rattle.std.specs.List.{join_with_byte}
use Rattle.hex.specs.Hex.{encode_lower}
use Rattle.blk_ptr.specs.declared.key.Key.{Key}
use Rattle.blk_ptr.specs.declared.digest.Digest.{Digest}
use Rattle.arc_core.specs.declared.event.Event.{Event}
use Rattle.arc_core.specs.declared.event.Event.TheVariants.{Pass, Hit, Miss, Arrive, Fail, Drop, Past, Hand, Insert, Release, Pick, FeedEnd, Set, Leave, Clear, Restore, Resize}
use Rattle.arc_core.specs.declared.event.FailedAt.{FailedAt}
use Rattle.arc_core.specs.declared.event.FailedAt.TheVariants as failed
use Rattle.arc_core.specs.declared.event.Origin.{Origin}
use Rattle.arc_core.specs.declared.event.Origin.TheVariants as origins
use Rattle.arc_core.specs.declared.event.Why.{Why}
use Rattle.arc_core.specs.declared.event.Why.TheVariants as whys

-- where the bytes of a read came from
abbrev pub origin_word : Origin → List ℕ
origin_word origins.Pool = codes "pool"
origin_word origins.L2 = codes "l2"

-- where a read had come when it failed
abbrev pub failed_word : FailedAt → List ℕ
failed_word failed.Unread = codes "unread"
failed_word failed.Pool = codes "pool"

-- why a picked key gets no place
abbrev pub why_word : Why → List ℕ
why_word whys.Gone = codes "gone"
why_word whys.Device = codes "device"
why_word whys.Memory = codes "memory"

-- whether a hold that was given back was the only one
abbrev pub sole_word : Bool → List ℕ
sole_word true = codes "sole"
sole_word false = codes "shared"

-- a digest, where one is told
abbrev pub told_words : Option Digest → List ℕ
told_words (Some digest) = encode_lower digest.0
told_words None = codes "-"

-- words with a space between each two
abbrev pub spaced : List (List ℕ) → List ℕ
spaced words = join_with_byte 32 words

-- a key: its offset, its size and its birth
abbrev pub key_words : Key → List ℕ
key_words key = spaced (decimal key.offset ∷ decimal key.size ∷ decimal key.birth ∷ [])

-- the words of an event: its name, who made it, its key, and what else it tells
abbrev pub event_words : Event → List ℕ
event_words (Pass n key owner) = spaced (codes "pass" ∷ decimal n ∷ key_words key ∷ decimal owner ∷ [])
event_words (Hit n key t) = spaced (codes "hit" ∷ decimal n ∷ key_words key ∷ decimal t ∷ [])
event_words (Miss n key t) = spaced (codes "miss" ∷ decimal n ∷ key_words key ∷ decimal t ∷ [])
event_words (Arrive n key digest from) = spaced (codes "arrive" ∷ decimal n ∷ key_words key ∷ encode_lower digest.0 ∷ origin_word from ∷ [])
event_words (Fail n key at) = spaced (codes "fail" ∷ decimal n ∷ key_words key ∷ failed_word at ∷ [])
event_words (Drop n key) = spaced (codes "drop" ∷ decimal n ∷ key_words key ∷ [])
event_words (Past n key kept) = spaced (codes "past" ∷ decimal n ∷ key_words key ∷ encode_lower kept.0 ∷ [])
event_words (Hand n key to) = spaced (codes "hand" ∷ decimal n ∷ key_words key ∷ decimal to ∷ [])
event_words (Insert n key digest t) = spaced (codes "insert" ∷ decimal n ∷ key_words key ∷ encode_lower digest.0 ∷ decimal t ∷ [])
event_words (Release n key sole) = spaced (codes "release" ∷ decimal n ∷ key_words key ∷ sole_word sole ∷ [])
event_words (Pick n key) = spaced (codes "pick" ∷ decimal n ∷ key_words key ∷ [])
event_words (FeedEnd n) = spaced (codes "feedend" ∷ decimal n ∷ [])
event_words (Set n key place) = spaced (codes "set" ∷ decimal n ∷ key_words key ∷ decimal place ∷ [])
event_words (Leave n key why) = spaced (codes "leave" ∷ decimal n ∷ key_words key ∷ why_word why ∷ [])
event_words (Clear n key) = spaced (codes "clear" ∷ decimal n ∷ key_words key ∷ [])
event_words (Restore n key place told) = spaced (codes "restore" ∷ decimal n ∷ key_words key ∷ decimal place ∷ told_words told ∷ [])
event_words (Resize n c) = spaced (codes "resize" ∷ decimal n ∷ decimal c ∷ [])

-- the line of the event of this number, counted from 0, in this shard
abbrev pub event_line : ℕ → ℕ → Event → List ℕ
event_line shard i event = spaced (codes "e" ∷ decimal shard ∷ decimal i ∷ event_words event ∷ []) ++ codes "\n"

-- the lines of a shard's events, the first of which has this number
abbrev pub event_lines : ℕ → ℕ → List Event → List ℕ
event_lines shard i [] = []
event_lines shard i (event ∷ events) = event_line shard i event ++ event_lines shard (i + 1) events

-- the lines of the events of all shards, the first of which has this number
abbrev pub history_lines : ℕ → List (List Event) → List ℕ
history_lines shard [] = []
history_lines shard (events ∷ histories) = event_lines shard 0 events ++ history_lines (shard + 1) histories
