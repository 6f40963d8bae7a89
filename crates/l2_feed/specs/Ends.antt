-- What the end of a feed says of its acts, and what one feed leaves for the next.
use Rattle.std.specs.Prelude.{◌≡◌, ◌≢◌, ◌⊎◌, ℕ, ◌+◌, ◌≤◌, List, [], ◌∷◌, Some}
use Rattle.std.specs.List.{AllByRecursion, range_with_len}
use Rattle.vdev_io.specs.declared.device.CacheDev.{Ghosts}
use Rattle.vdev_io.specs.Calls.{DeviceCall}
use Rattle.blk_ptr.specs.declared.key.Key.{Key}
use Rattle.arc_core.specs.declared.config.Config.{Config}
use Rattle.arc_core.specs.declared.event.Why.TheVariants as why
use Rattle.turn_table.specs.Places.{Place}
use Rattle.arc_table.specs.declared.view.Known.{Known}
use Rattle.arc_table.specs.Cache.{Cache}
use Rattle.arc_table.specs.Items.{Meanings}
use Rattle.l2_ring.specs.declared.live.Written.{Written}
use Rattle.l2_dev.specs.declared.report.FeedReport.{FeedReport}
use Rattle.l2_dev.specs.declared.report.FeedStop.{FeedStop}
use Rattle.l2_dev.specs.declared.report.FeedStop.TheVariants as stop
use Rattle.l2_dev.specs.Cursor.{CursorState}
use Rattle.l2_feed.specs.Acts.{Act, Left, Picked}
use Rattle.l2_feed.specs.Fed.{HasFed}
use Rattle.l2_feed.specs.Places.{IsNewest, place_seen}
use Rattle.l2_feed.specs.Ready.{IsFeederReady}
use Rattle.l2_feed.specs.Shape.{AreFed, NoneRefused, why_of}

-- a key that is left is gone, or it is left for the reason of an end that came before its time
abbrev pub IsLeftFor : FeedStop → Act → Type 0
IsLeftFor end (Left k w) = (w ≡ why.Gone) ⊎ ((w ≡ why_of end) × (end ≢ stop.Done))
IsLeftFor end _ = Unit {0}

-- the shards of which something was picked, or of which there was nothing to pick, in the order of the feed
abbrev pub shards_picked : List Act → List ℕ
shards_picked [] = []
shards_picked (Picked shard blocks ∷ acts) = shard ∷ shards_picked acts
shards_picked (_ ∷ acts) = shards_picked acts

-- so a key is left since the device failed only where a feed ended so, and for want of memory only where a feed ended so
abbrev pub LeavesForItsEnd : Type 0
LeavesForItsEnd = (shard count : ℕ) (old new : CursorState) (acts : List Act) (calls : List DeviceCall) (end : FeedStop) → AreFed shard count old new acts calls end → AllByRecursion (IsLeftFor end) acts

-- a feed that was done was refused memory for no place, and it picked of each shard once, by rising number: the events of each pick end with the feed's end there
abbrev pub DoneIsWhole : Type 0
DoneIsWhole = (shard count : ℕ) (old new : CursorState) (acts : List Act) (calls : List DeviceCall) → AreFed shard count old new acts calls stop.Done → NoneRefused acts × (shards_picked acts ≡ range_with_len shard count)

-- the ring begins at most one lap for each shard
abbrev pub TakesFewLaps : Type 0
TakesFewLaps = (shard count : ℕ) (old new : CursorState) (acts : List Act) (calls : List DeviceCall) (end : FeedStop) → AreFed shard count old new acts calls end → new.ring.lap ≤ old.ring.lap + count

-- each place that a key has in the replay of what the party has seen is its newest live one
abbrev pub PlacesAreNewest : {C : Type 0} → Config → Place (Known C) → List Written → Type 0
PlacesAreNewest g p live = (k : Key) (x : ℕ) → place_seen g p k ≡ Some x → IsNewest k x live

-- so it is after a feed that was refused memory for no place, where it was so before
abbrev pub NewestStay : {C D : Type 0} → Meanings C → Ghosts D → Type 0
NewestStay {C} {D} m device = (cache : Cache) (was now : D) (old new : CursorState) (p q : Place (Known C)) (report : FeedReport) → IsFeederReady cache p → (fed : HasFed m cache.config device was now old new p q report) → NoneRefused fed.acts
    → PlacesAreNewest cache.config p old.ring.live → PlacesAreNewest cache.config q new.ring.live
