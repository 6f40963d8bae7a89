use Rattle.std.proofs.Common.{◌≡◌, ◌≤◌, take}
use Rattle.arc_table.specs.Cache.{IsPartyOf}
use Rattle.arc_table.specs.feeder.Picking.{IsFeeding, KeepsFeed, left_to_pick}
use Rattle.arc_table.proofs.arcs.Arcs.pick_all.Given as goal

abbrev pub invariant-loop-key : goal.invariant-loop-key
invariant-loop-key g l = record {
  party : IsPartyOf l.self l.party;
  kept : KeepsFeed l.fn.feed l.feed;
  feeding : IsFeeding l.self.config l.feed l.party l.out.items;
  front : take l.fn.feed.had l.out.items ≡ take l.fn.feed.had l.fn.out.items;
  room : 1 ≤ l.feed.shard.event_room;
}

abbrev pub decreases-loop-key : goal.decreases-loop-key
decreases-loop-key g l = left_to_pick l.feed.shard.now
