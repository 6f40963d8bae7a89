-- What a run made of the cache device behind its start.
use Rattle.std.specs.Prelude.{◌≡◌, ◌≤◌, [], Option, None, filter}
use Rattle.vdev_io.specs.declared.device.CacheDev.{Ghosts}
use Rattle.trace_text.specs.declared.trace.Trace.{Trace}
use Rattle.trace_run.specs.declared.ran.Ending.{Ending}
use Rattle.trace_run.specs.Devices.{IsHandedBack, usable}
use Rattle.trace_run.specs.Feeds.{AreFedReplies, is_feed}
use Rattle.trace_run.specs.Lines.{replies_where}
use Rattle.trace_run.specs.dbufs.Objects.{ops_of, replies_of}
use Rattle.trace_run.specs.RunWork.{RunWork}
use Rattle.trace_run.specs.callers.DeviceForks.{UsedInGroups}
use Rattle.trace_run.specs.callers.Together.{groups_done}

module _ {D : Type 0} (devices : Ghosts D) where
  -- Several callers have forks of the device in each group that was done, beside them the feeder made the feeds, and it was asked for these and for nothing else; what one caller did with it, its run says.
  -- It is handed back: where no feed was made, with all that it tells and all that a crash may leave of it. One that is too short is as it was.
  pub record WasUsed (trace : Trace) (ending : Ending) (work : RunWork) (started after : Option D) : Type 0 where
    pub together : 2 ≤ trace.config.callers → UsedInGroups devices trace.blocks trace.config.callers (groups_done ending work.lines) work.feeds (usable devices started) (usable devices after)
    -- each line `feed` is answered by the report of its feed, or by none exactly where no device was started
    pub answered : AreFedReplies (usable devices started) (filter is_feed (ops_of work.lines)) work.feeds (replies_where is_feed (ops_of work.lines) (replies_of work.lines))
    pub back : work.feeds ≡ [] → IsHandedBack devices started after
    pub short : usable devices started ≡ None → after ≡ started
