-- When two feeds come to the same: what the one wrote the other wrote, so that both leave the device alike.
use Rattle.std.specs.Prelude.{◌≡◌, ◌≢◌, ◌⊎◌, ℕ, List, map}
use Rattle.vdev_io.specs.Calls.{DeviceCall}
use Rattle.arc_core.specs.declared.config.Config.{Config}
use Rattle.arc_core.specs.PlainShard.{PlainShard}
use Rattle.arc_table.specs.declared.picks.Picked.{Picked as Block}
use Rattle.l2_dev.specs.declared.report.FeedStop.{FeedStop}
use Rattle.l2_dev.specs.declared.report.FeedStop.TheVariants as stop
use Rattle.l2_dev.specs.Cursor.{CursorState}
use Rattle.l2_feed.specs.Acts.{Act, Picked}
use Rattle.l2_feed.specs.Alone.{AreOfShards, pick_of_block}
use Rattle.l2_feed.specs.Places.{IsAmongActs}
use Rattle.l2_feed.specs.Plain.{answers_of, bare}
use Rattle.l2_feed.specs.Shape.{AreFed, NoneRefused}

-- the next feed finds the same ring, and its log blocks and headers name the same log blocks
pub record AreCursorsAlike (one other : CursorState) : Type 0 where
  pub ring : bare other.ring ≡ bare one.ring
  pub newest : other.newest ≡ one.newest
  pub second : other.second ≡ one.second

-- Of one shard both picked the same keys, each with the same digest, and other bytes: so some of them are two contents of one digest.
pub record PicksTwo (acts others : List Act) : Type 0 where
  pub shard : ℕ
  pub blocks : List Block
  pub other_blocks : List Block
  pub picked : IsAmongActs (Picked shard blocks) acts
  pub other_picked : IsAmongActs (Picked shard other_blocks) others
  pub same : map pick_of_block other_blocks ≡ map pick_of_block blocks
  pub differ : map (λ b. b.block.value) other_blocks ≢ map (λ b. b.block.value) blocks

-- They leave alike cursors, and both asked the device for the same, byte by byte.
pub record ComeToOne (new now : CursorState) (calls others : List DeviceCall) : Type 0 where
  pub cursors : AreCursorsAlike new now
  pub asked : others ≡ calls

-- So it is of two feeds of the same shards, over alike cursors, whose calls were answered the same and for which memory was refused nowhere; or two contents of one digest were picked.
abbrev pub FeedsComeToOne : Type 0
FeedsComeToOne = (g : Config) (n : ℕ) (s : ℕ → PlainShard) (old new before now : CursorState) (acts others : List Act) (calls other_calls : List DeviceCall) (end other_end : FeedStop)
    → AreFed 0 g.shards old new acts calls end → AreFed 0 g.shards before now others other_calls other_end → AreOfShards g n s acts → AreOfShards g n s others
    → end ≢ stop.NoMemory → other_end ≢ stop.NoMemory → NoneRefused acts → NoneRefused others → AreCursorsAlike old before → answers_of other_calls ≡ answers_of calls
    → ComeToOne new now calls other_calls ⊎ PicksTwo acts others
