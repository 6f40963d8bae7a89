-- When a feed may be made: what the feeder and the device are then, and again afterwards.
use Rattle.std.specs.Prelude.{◌≡◌, ◌≢◌, ℕ, ◌*◌, ◌-◌, ◌≤◌, List, []}
use Rattle.arc_core.specs.Config.{IsConfig}
use Rattle.arc_core.specs.declared.config.Config.{Config}
use Rattle.turn_table.specs.Places.{Place}
use Rattle.arc_table.specs.declared.picks.Picked.{Picked as Block}
use Rattle.arc_table.specs.declared.view.Known.{Known}
use Rattle.arc_table.specs.Cache.{Cache, IsPartyOf}
use Rattle.arc_table.specs.feeder.Feeding.{IsFeeder}
use Rattle.arc_table.specs.feeder.Listing.{picks_of}
use Rattle.arc_table.specs.Looking.{HasNoLook}
use Rattle.arc_table.specs.feeder.Picking.{ArePicksOf}
use Rattle.arc_table.specs.Seen.{HasSeenBy, IsNumberOrCell}
use Rattle.l2_log.specs.Rules.{ring_start}
use Rattle.l2_dev.specs.Cursor.{CursorState}

module _ {C : Type 0} where
  -- the party is the feeder of the cache, has no open look, and has seen all that it made, under its own number or a cell's
  pub record IsFeederOn (cache : Cache) (p : Place (Known C)) : Type 0 where
    pub valid : IsConfig cache.config
    pub of : IsPartyOf cache p
    pub feeder : IsFeeder cache p
    pub look : HasNoLook cache p
    pub seen : HasSeenBy (IsNumberOrCell cache.config) cache.config p

  -- and has no unsettled pick
  pub record IsFeederReady (cache : Cache) (p : Place (Known C)) : Type 0 where
    pub on : IsFeederOn cache p
    pub settled : (i : ℕ) → picks_of i p ≡ []

  -- and its unsettled picks are those of these blocks, of the shard of this turn
  pub record IsFeeding (cache : Cache) (turn : ℕ) (blocks : List Block) (p : Place (Known C)) : Type 0 where
    pub on : IsFeederOn cache p
    pub here : ArePicksOf cache.config turn (picks_of turn p) blocks
    pub others : (i : ℕ) → i ≢ turn → picks_of i p ≡ []

-- nothing is pending, the ring ends inside the device, and what one shard's feed picks is at most half of the ring
pub record IsDeviceReady (g : Config) (size : ℕ) (cursor : CursorState) : Type 0 where
  pub pending : cursor.pending ≡ []
  pub whole : cursor.ring.end ≤ size
  pub half : 2 * g.bounds.write_max ≤ cursor.ring.end - ring_start
