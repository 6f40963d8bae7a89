use Rattle.std.proofs.Common.{◌≡◌}
use Rattle.arc_table.specs.Cache.{IsPartyOf}
use Rattle.arc_table.specs.scans.Scanning.{AllPairs, AreApart, IsInHand, gave_all, pairs_of}
use Rattle.arc_table.proofs.arcs.Arcs.give_buckets.Given as goal

abbrev pub invariant-loop-taken : goal.invariant-loop-taken
invariant-loop-taken g l = record {
  place : gave_all (pairs_of l.taken-iterator.rest.items) l.party ≡ gave_all (pairs_of l.fn.buckets.items) l.fn.party;
  party : IsPartyOf l.self l.party;
  apart : AreApart (pairs_of l.taken-iterator.rest.items);
  held : AllPairs (IsInHand g.C.Keeps l.party) (pairs_of l.taken-iterator.rest.items);
}
