-- The events that the feeder makes in each shard for the lines of a trace, by the feeds that were made.
use Rattle.std.specs.Prelude.{◌≡◌, ℕ, ◌&&◌, Bool, true, false, if◌then◌else◌, List, [], ◌∷◌, ◌++◌, drop, filter, length, map}
use Rattle.std.specs.List.{AllByRecursion}
use Rattle.arc_core.specs.declared.config.Config.{Config}
use Rattle.arc_core.specs.declared.event.Event.{Event}
use Rattle.vdev_io.specs.declared.device.CacheDev.{Ghosts}
use Rattle.turn_table.specs.Places.{Place}
use Rattle.arc_table.specs.declared.view.Known.{Known}
use Rattle.arc_table.specs.Cache.{Cache}
use Rattle.arc_table.specs.Items.{Meanings}
use Rattle.arc_table.specs.Seen.{HasAll, seen_of}
use Rattle.l2_feed.specs.Acts.{Act}
use Rattle.l2_feed.specs.Alone.{events_at}
use Rattle.trace_text.specs.declared.op.Op.{Op}
use Rattle.trace_text.specs.declared.op.Op.TheVariants.{Feed}
use Rattle.trace_text.specs.declared.reply.Reply.{Reply}
use Rattle.trace_text.specs.declared.reply.Reply.TheVariants as replies
use Rattle.trace_text.specs.declared.reply.Reply.TheVariants.{Fed}
use Rattle.trace_run.specs.declared.device.Device.{Device}
use Rattle.trace_run.specs.Acts.{events_of_feeder}
use Rattle.trace_run.specs.Feeds.{DoesFeeds, FeedDone, IsFeedOf, is_feed}
use Rattle.trace_run.specs.Lines.{replies_where}
use Rattle.trace_run.specs.Meeting.{MadeJoined}

-- the reply tells of a feed
abbrev pub is_fed : Reply → Bool
is_fed (replies.Read served digest shown) = false
is_fed (replies.Kept served) = false
is_fed replies.Dropped = false
is_fed (replies.Got size shown) = false
is_fed replies.Done = false
is_fed (replies.Fed report) = true
is_fed replies.FedNone = false
is_fed (replies.Synced group blocks bytes) = false
is_fed (replies.Capped c) = false
is_fed (replies.Refused refusal) = false

-- the line asked for a feed, and one was made
abbrev pub was_fed : Op → Reply → Bool
was_fed op reply = is_feed op && is_fed reply

-- the feeds that these lines were answered with
abbrev pub feeds_told : List Op → List Reply → ℕ
feeds_told ops replies = length (filter is_fed (replies_where is_feed ops replies))

-- the acts of the first of these feeds, where there is one
abbrev pub acts_of_first : List FeedDone → List Act
acts_of_first [] = []
acts_of_first (feed ∷ feeds) = feed.acts

-- What the feeder makes in a shard for a line that was answered: the events of the next feed, where one was made, or what else the line asks for.
abbrev pub events_of_line : Config → (shard : ℕ) → Op → Reply → List FeedDone → List Event
events_of_line g shard op reply feeds = if was_fed op reply then events_at g g.callers shard (acts_of_first feeds) else events_of_feeder g.callers op

-- the feeds behind it
abbrev pub feeds_behind : Op → Reply → List FeedDone → List FeedDone
feeds_behind op reply feeds = if was_fed op reply then drop 1 feeds else feeds

-- and for all lines that were answered, in their order
abbrev pub events_of_lines : Config → (shard : ℕ) → List Op → List Reply → List FeedDone → List Event
events_of_lines g shard [] replies feeds = []
events_of_lines g shard (op ∷ ops) [] feeds = []
events_of_lines g shard (op ∷ ops) (reply ∷ replies) feeds = events_of_line g shard op reply feeds ++ events_of_lines g shard ops replies (feeds_behind op reply feeds)

-- the events of these feeds in a shard, one feed after another
abbrev pub events_of_made : Config → (shard : ℕ) → List FeedDone → List Event
events_of_made g shard [] = []
events_of_made g shard (feed ∷ feeds) = events_at g g.callers shard feed.acts ++ events_of_made g shard feeds

-- These feeds are those that the lines are answered with, in their order, and the acts of each are those of a feed that its reply sums up.
pub record AreFeedsTold (config : Config) (ops : List Op) (replies : List Reply) (feeds : List FeedDone) : Type 0 where
  pub told : filter is_fed (replies_where is_feed ops replies) ≡ map (λ feed. Fed feed.report) feeds
  pub shapes : AllByRecursion (IsFeedOf config.shards) feeds

-- The feeder did a line `feed` while all others had joined it, so that it had every number; then they parted.
pub record FedJoined {C D : Type 0} (m : Meanings C) (devices : Ghosts D) (cache : Cache) (reply : Reply) (was now : Device D) (p : Place (Known C)) (olds : List (Place (Known C))) (q : Place (Known C)) (news : List (Place (Known C))) : Type 0 where
  -- its party then, before the feed and behind it
  pub joined : Place (Known C)
  pub worked : Place (Known C)
  pub number : joined.number ≡ cache.config.callers
  pub all : HasAll joined
  pub fed : DoesFeeds m devices cache (Feed ∷ []) (reply ∷ []) was now joined worked
  pub made : MadeJoined cache (λ shard. events_of_made cache.config shard fed.feeds) p olds q news
  pub met : (shard : ℕ) → seen_of cache.config shard joined ≡ made.front shard
  pub parted : (shard : ℕ) → seen_of cache.config shard worked ≡ seen_of cache.config shard q
