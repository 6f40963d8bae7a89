-- Callers that do the lines of a group at once, and beside them the feeder, which has the cache device meanwhile.
use Rattle.std.specs.Prelude.{◌≡◌, ◌≤◌, ℕ, false, List, filter, length, min}
use Rattle.std.specs.List.{list_any}
use Rattle.blk_ptr.specs.declared.ptr.Ptr.{Ptr}
use Rattle.vdev_io.specs.declared.device.CacheDev.{Ghosts}
use Rattle.vdev_io.specs.Faults.{last_count}
use Rattle.turn_table.specs.Places.{Place}
use Rattle.arc_table.specs.declared.view.Known.{Known}
use Rattle.arc_table.specs.Cache.{Cache}
use Rattle.arc_table.specs.Items.{Meanings}
use Rattle.trace_text.specs.declared.op.Op.{Op}
use Rattle.trace_text.specs.declared.reply.Reply.{Reply}
use Rattle.trace_run.specs.declared.device.Device.{Device}
use Rattle.trace_run.specs.declared.device.Device.TheVariants as device
use Rattle.trace_run.specs.Devices.{WasLent, lent_in}
use Rattle.trace_run.specs.Feeds.{AreFedReplies, FeedDone, MadeFeedsOf, is_feed}
use Rattle.trace_run.specs.dbufs.Objects.{Line}
use Rattle.trace_run.specs.callers.DeviceForks.{HaveRead}

module _ {C D : Type 0} (m : Meanings C) (devices : Ghosts D) (cache : Cache) where
  -- The device was lent to callers; then these feeds were made, by the feeder's party, which was p and is q; and then it took back what was lent.
  pub record LendsAndFeeds (feeds : List FeedDone) (old new : Device D) (p q : Place (Known C)) : Type 0 where
    pub lent : Device D
    pub later : Device D
    pub gave : WasLent devices old lent
    pub made : MadeFeedsOf m devices cache feeds lent later p q
    pub took : WasLent devices later new

  -- so it was of these lines, whatever they came to: there are no more feeds than lines that ask for one
  pub record TriesBeside (ops : List Op) (old new : Device D) (p q : Place (Known C)) : Type 0 where
    pub feeds : List FeedDone
    pub few : length feeds ≤ length (filter is_feed ops)
    pub used : LendsAndFeeds feeds old new p q

  -- these feeds were made so, and the lines `feed` among these are answered by them
  pub record FeedsBeside (ops : List Op) (fed : List Reply) (old new : Device D) (p q : Place (Known C)) : Type 0 where
    pub feeds : List FeedDone
    pub used : LendsAndFeeds feeds old new p q
    pub answered : AreFedReplies (lent_in old) (filter is_feed ops) feeds fed

  -- Callers did their own lines, and asked the device for them; the lines `feed` among these are answered so, by these feeds.
  pub record WorksBeside (blocks : List Ptr) (ops : List Op) (callers : ℕ) (own : ℕ → List Line) (fed : List Reply) (old new : Device D) (p q : Place (Known C)) : Type 0 where
    pub feeds : List FeedDone
    pub used : LendsAndFeeds feeds old new p q
    pub answered : AreFedReplies (lent_in old) (filter is_feed ops) feeds fed
    pub read : HaveRead devices blocks callers own (lent_in old) (lent_in used.lent) (lent_in used.later) (lent_in new)

-- A device that was in use has its length and its kind, and its count of faults has not fallen, as far as a count goes; one that was not started is as it was.
abbrev pub HasItsKind : {D : Type 0} → Ghosts D → (old new : Device D) → Type 0
HasItsKind devices device.None device.None = Unit {0}
HasItsKind devices (device.Short old) (device.Short new) = new ≡ old
HasItsKind devices (device.Ready old) (device.Ready new) =
    (devices.size new.dev ≡ devices.size old.dev) × (devices.has_sectors new.dev ≡ devices.has_sectors old.dev) × (min (devices.faults old.dev) last_count ≤ devices.faults new.dev)
HasItsKind devices device.None (device.Short new) = ⊥
HasItsKind devices device.None (device.Ready new) = ⊥
HasItsKind devices (device.Short old) device.None = ⊥
HasItsKind devices (device.Short old) (device.Ready new) = ⊥
HasItsKind devices (device.Ready old) device.None = ⊥
HasItsKind devices (device.Ready old) (device.Short new) = ⊥

-- A device while these lines are done. Where none of them asks for a feed it is only lent.
pub record WasInUse {D : Type 0} (devices : Ghosts D) (ops : List Op) (old new : Device D) : Type 0 where
  pub kind : HasItsKind devices old new
  pub unfed : list_any is_feed ops ≡ false → WasLent devices old new
