-- What a feeder does that meets nobody, since it has every number by a join: each act is one of the shards as they are then.
use Rattle.std.specs.Prelude.{◌≡◌, ℕ, ◌==◌, if◌then◌else◌, true, false, not, List, [], ◌∷◌, ◌++◌, map, Some}
use Rattle.blk_ptr.specs.declared.key.Key.{Key}
use Rattle.blk_ptr.specs.Hash.{shard_of}
use Rattle.blk_ptr.specs.Ptr.{sha256_of}
use Rattle.arc_core.specs.declared.config.Config.{Config}
use Rattle.arc_core.specs.declared.entry.Picked.{Picked as Pick_of}
use Rattle.arc_core.specs.declared.event.Event.{Event}
use Rattle.arc_core.specs.PlainShard.{PlainShard}
use Rattle.arc_core.specs.Replay.{replay}
use Rattle.arc_core.specs.Step.{is_gone, may_set}
use Rattle.turn_table.specs.Places.{Place}
use Rattle.arc_table.specs.declared.picks.Picked.{Picked as Block}
use Rattle.arc_table.specs.declared.view.Known.{Known}
use Rattle.arc_table.specs.Booking.{digest_at}
use Rattle.arc_table.specs.feeder.Feeding.{has_place}
use Rattle.arc_table.specs.feeder.Listing.{all_picks}
use Rattle.arc_table.specs.Seen.{seen_of}
use Rattle.arc_table.specs.Telling.{opening_of}
use Rattle.l2_feed.specs.Acts.{Act, Absent, Cleared, Left, Picked, Placed, Refused, Unpicked}
use Rattle.l2_feed.specs.Told.{events_of, shard_of_act}

-- a key with the digest that its entry has
abbrev pub listed_by : PlainShard → Key → Pick_of
listed_by s k = record { key = k; digest = digest_at k s }

-- what a feed picks of a shard that is so, which passes no key
abbrev pub picks_from : PlainShard → List Pick_of
picks_from s = map (listed_by s) (all_picks s)

-- a picked block as a key with its digest
abbrev pub pick_of_block : Block → Pick_of
pick_of_block b = record { key = b.key; digest = Some (sha256_of b.block.value) }

-- all shards, once an act of n was done
abbrev pub shards_after : Config → (n : ℕ) → (ℕ → PlainShard) → Act → ℕ → PlainShard
shards_after g n s act shard = if shard_of_act g act == shard then replay (s shard) (events_of n act) else s shard

-- The act is one of these shards: what may be picked is picked, a place is taken where the key has it, and a picked key gets its place, or is left as
-- gone, as the table of events says. Where memory was refused nothing is said.
abbrev pub IsOfShards : Config → (ℕ → PlainShard) → Act → Type 0
IsOfShards g s (Picked shard blocks) = map pick_of_block blocks ≡ picks_from (s shard)
IsOfShards g s (Unpicked shard) = Unit {0}
IsOfShards g s (Cleared k x) = has_place x k (s (shard_of g.shards k)) ≡ true
IsOfShards g s (Absent k x) = has_place x k (s (shard_of g.shards k)) ≡ false
IsOfShards g s (Refused k x) = Unit {0}
IsOfShards g s (Placed k x) = may_set k (s (shard_of g.shards k)) ≡ true
IsOfShards g s (Left k w) = is_gone w ≡ not (may_set k (s (shard_of g.shards k)))

-- each act of n is one of the shards as those before it left them
abbrev pub AreOfShards : Config → (n : ℕ) → (ℕ → PlainShard) → List Act → Type 0
AreOfShards g n s [] = Unit {0}
AreOfShards g n s (act ∷ acts) = IsOfShards g s act × AreOfShards g n (shards_after g n s act) acts

-- the events of acts of n in a shard
abbrev pub events_at : Config → (n shard : ℕ) → List Act → List Event
events_at g n shard [] = []
events_at g n shard (act ∷ acts) = (if shard_of_act g act == shard then events_of n act else []) ++ events_at g n shard acts

-- the shards as a party has seen them
abbrev pub shards_seen : {C : Type 0} → Config → Place (Known C) → ℕ → PlainShard
shards_seen g p shard = replay (opening_of g) (seen_of g shard p)

-- The acts are those of the shards as the party p has seen them, and of each shard q has seen just their events more.
pub record AreAlone {C : Type 0} (g : Config) (acts : List Act) (p q : Place (Known C)) : Type 0 where
  pub of_shards : AreOfShards g p.number (shards_seen g p) acts
  pub seen : (shard : ℕ) → seen_of g shard q ≡ seen_of g shard p ++ events_at g p.number shard acts
