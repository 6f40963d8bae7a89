-- How a feed's acts stand in what the feeder has seen of the shards: each act by its events, one after another, and no other event of its own; and what the
-- device was asked for where a place was given.
use Rattle.std.specs.Prelude.{◌≡◌, ◌⊎◌, ℕ, ◌==◌, List, [], ◌∷◌, ◌++◌, map, filter, Some}
use Rattle.std.specs.List.{AllByRecursion}
use Rattle.blk_ptr.specs.declared.key.Key.{Key}
use Rattle.blk_ptr.specs.Hash.{shard_of}
use Rattle.vdev_io.specs.Calls.{DeviceCall, Gave, Write, answered}
use Rattle.arc_core.specs.declared.config.Config.{Config}
use Rattle.arc_core.specs.declared.event.Event.{Event}
use Rattle.arc_core.specs.declared.event.Event.TheVariants as event
use Rattle.arc_core.specs.Operations.{Moment, moments, own_moments}
use Rattle.arc_core.specs.PlainShard.{PlainShard, place_of}
use Rattle.turn_table.specs.Places.{Place}
use Rattle.arc_table.specs.declared.view.Known.{Known}
use Rattle.arc_table.specs.feeder.Picking.{IsBlockOf}
use Rattle.arc_table.specs.Seen.{seen_of}
use Rattle.arc_table.specs.Telling.{opening_of}
use Rattle.l2_feed.specs.Acts.{Act, Absent, Cleared, Left, Picked, Placed, Refused, Unpicked, keys_of}

-- the shard in which an act was done
abbrev pub shard_of_act : Config → Act → ℕ
shard_of_act g (Picked shard blocks) = shard
shard_of_act g (Unpicked shard) = shard
shard_of_act g (Cleared k place) = shard_of g.shards k
shard_of_act g (Absent k place) = shard_of g.shards k
shard_of_act g (Refused k place) = shard_of g.shards k
shard_of_act g (Placed k place) = shard_of g.shards k
shard_of_act g (Left k why) = shard_of g.shards k

-- the acts that were done in a shard
abbrev pub acts_at : Config → (shard : ℕ) → List Act → List Act
acts_at g shard = filter (λ act. shard_of_act g act == shard)

-- the events of an act of n
abbrev pub events_of : (n : ℕ) → Act → List Event
events_of n (Picked shard blocks) = map (event.Pick n) (keys_of blocks) ++ event.FeedEnd n ∷ []
events_of n (Unpicked shard) = []
events_of n (Cleared k place) = event.Clear n k ∷ []
events_of n (Absent k place) = []
events_of n (Refused k place) = []
events_of n (Placed k place) = event.Set n k place ∷ []
events_of n (Left k why) = event.Leave n k why ∷ []

-- the call is among these
abbrev pub IsAmongCalls : DeviceCall → List DeviceCall → Type 0
IsAmongCalls call [] = ⊥
IsAmongCalls call (c ∷ calls) = (c ≡ call) ⊎ IsAmongCalls call calls

-- One of these calls wrote the key's block at this place, and was done: bytes of the key's size, with the digest that its entry has in this shard.
pub record IsWrittenAt (calls : List DeviceCall) (k : Key) (place : ℕ) (s : PlainShard) : Type 0 where
  pub bytes : List ℕ
  pub block : IsBlockOf k s bytes
  pub call : IsAmongCalls (answered Gave (Write place bytes)) calls

-- A place that was taken was the key's when it was taken. Where one was given, the key's block, as its entry was when it was given, was written there.
abbrev pub FoundSo : List DeviceCall → Act → List Moment → Type 0
FoundSo calls (Cleared k place) ms = AllByRecursion (λ m. place_of k m.before ≡ Some place) ms
FoundSo calls (Placed k place) ms = AllByRecursion (λ m. IsWrittenAt calls k place m.before) ms
FoundSo calls _ ms = Unit {0}

-- these moments are those of the acts of n, which made these calls of the device, one act after another
abbrev pub TellActs : (n : ℕ) → List DeviceCall → List Act → List Moment → Type 0
TellActs n calls [] ms = ms ≡ []
TellActs n calls (act ∷ acts) ms = (front : List Moment) × (rest : List Moment) × (ms ≡ front ++ rest) × ((map (λ m. m.event) front ≡ events_of n act) × FoundSo calls act front) × TellActs n calls acts rest

-- In each shard the party's own moments are those that were its own before, and then those of the acts there.
abbrev pub AreTold : {C : Type 0} → Config → List DeviceCall → List Act → (p q : Place (Known C)) → Type 0
AreTold g calls acts p q = (shard : ℕ) → (ms : List Moment) × (own_moments p.number (moments (opening_of g) (seen_of g shard q)) ≡ own_moments p.number (moments (opening_of g) (seen_of g shard p)) ++ ms)
    × TellActs p.number calls (acts_at g shard acts) ms
