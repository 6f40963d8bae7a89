use Rattle.std.proofs.Common.{◌≡◌, Bool, IsSome, MatchOption, length, suc}
use Rattle.std.specs.Option.{option_map_or}
use Rattle.blk_ptr.specs.declared.key.Key.{Key}
use Rattle.arc_links.specs.PlainLinks.{element_at, elements, in_front}
use Rattle.arc_lists.specs.Sequences.{oldest_unskipped}
use Rattle.arc_lists.proofs.Oldest.{keys_up_to}
use Rattle.arc_lists.proofs.queues.oldest_unskipped.Given as goal

-- what is left to look at, from the head up to the node in hand, decides
abbrev pub invariant-loop-at : goal.invariant-loop-at
invariant-loop-at g l = record {
  there : MatchOption l.at (Unit {0}) (λ p. IsSome (element_at p l.sequence.nodes));
  rest : (skips : Key → Bool) → ((key : Key) (answer : Bool) → goal.F-post g l.skip key answer → answer ≡ skips key)
      → oldest_unskipped skips (keys_up_to l.at l.sequence.nodes) ≡ oldest_unskipped skips (elements l.sequence);
}

abbrev pub decreases-loop-at : goal.decreases-loop-at
decreases-loop-at g l = option_map_or (λ p. suc (length (in_front p l.sequence.nodes))) l.at 0
