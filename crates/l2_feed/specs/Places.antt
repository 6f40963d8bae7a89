-- What a feed leaves of the places on the device: of those that it found and of those that it gave.
use Rattle.std.specs.Prelude.{◌≡◌, ◌⊎◌, ℕ, ◌<◌, List, [], ◌∷◌, Option, Some}
use Rattle.blk_ptr.specs.declared.key.Key.{Key}
use Rattle.blk_ptr.specs.Hash.{shard_of}
use Rattle.arc_core.specs.declared.config.Config.{Config}
use Rattle.arc_core.specs.PlainShard.{place_of}
use Rattle.arc_core.specs.Replay.{replay}
use Rattle.turn_table.specs.Places.{Place}
use Rattle.arc_table.specs.declared.view.Known.{Known}
use Rattle.arc_table.specs.Seen.{seen_of}
use Rattle.arc_table.specs.Telling.{opening_of}
use Rattle.l2_ring.specs.declared.live.Written.{Written}
use Rattle.l2_feed.specs.Acts.{Act, Cleared, Picked, Placed, Refused, keys_of}

-- the key's place in the replay of what the party has seen
abbrev pub place_seen : {C : Type 0} → Config → Place (Known C) → Key → Option ℕ
place_seen g p k = place_of k (replay (opening_of g) (seen_of g (shard_of g.shards k) p))

-- the place is live for the key
abbrev pub IsLive : Key → (place : ℕ) → List Written → Type 0
IsLive k x [] = ⊥
IsLive k x (w ∷ ws) = ((w.live.key ≡ k) × (w.live.place ≡ x)) ⊎ IsLive k x ws

-- the act is among these
abbrev pub IsAmongActs : Act → List Act → Type 0
IsAmongActs act [] = ⊥
IsAmongActs act (a ∷ acts) = (a ≡ act) ⊎ IsAmongActs act acts

-- the place was live for the key before, or the feed gave it to it
abbrev pub WasGiven : List Written → List Act → Key → ℕ → Type 0
WasGiven before acts k x = IsLive k x before ⊎ IsAmongActs (Placed k x) acts

-- A place that was live for its key before, or that the feed gave it, and that the key has in the replay of what the feeder q has seen, is live
-- for it still; but where memory was refused for taking it.
abbrev pub KeepsPlaces : {C : Type 0} → Config → List Act → (before after : List Written) → Place (Known C) → Type 0
KeepsPlaces g acts before after q = (k : Key) (x : ℕ) → WasGiven before acts k x → place_seen g q k ≡ Some x → IsLive k x after ⊎ IsAmongActs (Refused k x) acts

-- the place is live for the key, and no newer one is
abbrev pub IsNewest : Key → (place : ℕ) → List Written → Type 0
IsNewest k x [] = ⊥
IsNewest k x (w ∷ ws) = IsNewest k x ws ⊎ (((w.live.key ≡ k) × (w.live.place ≡ x)) × ((y : ℕ) → ¬ IsLive k y ws))

-- the place was the newest live one of the key before, or the feed gave it to it
abbrev pub WasNewest : List Written → List Act → Key → ℕ → Type 0
WasNewest before acts k x = IsNewest k x before ⊎ IsAmongActs (Placed k x) acts

-- the same of the newest live place of each key: it is the newest one still
abbrev pub KeepsNewest : {C : Type 0} → Config → List Act → (before after : List Written) → Place (Known C) → Type 0
KeepsNewest g acts before after q = (k : Key) (x : ℕ) → WasNewest before acts k x → place_seen g q k ≡ Some x → IsNewest k x after ⊎ IsAmongActs (Refused k x) acts

-- each place that was taken was live for its key before, or the feed had given it to it
abbrev pub TakesOwn : List Act → (before : List Written) → Type 0
TakesOwn acts before = (k : Key) (x : ℕ) → IsAmongActs (Cleared k x) acts → WasGiven before acts k x

-- the key is among these
abbrev pub IsAmongKeys : Key → List Key → Type 0
IsAmongKeys k [] = ⊥
IsAmongKeys k (j ∷ js) = (j ≡ k) ⊎ IsAmongKeys k js

-- the key is among those that were picked
abbrev pub WasPicked : Key → List Act → Type 0
WasPicked k [] = ⊥
WasPicked k (Picked shard blocks ∷ acts) = IsAmongKeys k (keys_of blocks) ⊎ WasPicked k acts
WasPicked k (_ ∷ acts) = WasPicked k acts

-- a place that was taken is live for its key afterwards only where the key was picked behind that; of a key of no bytes nothing is said
abbrev pub GivesAgain : List Act → (after : List Written) → Type 0
GivesAgain [] after = Unit {0}
GivesAgain (Cleared k x ∷ acts) after = (0 < k.size → IsLive k x after → WasPicked k acts) × GivesAgain acts after
GivesAgain (_ ∷ acts) after = GivesAgain acts after
