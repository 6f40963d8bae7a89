use Rattle.std.proofs.Common.{◌≡◌, ℕ, List, length}
use Rattle.key_table.specs.Chains.{IsChain, IsShort, Stands, no_place, place_in_front, walk}
use Rattle.key_table.proofs.chain.place_in_front.Given as goal

-- the place stands on what is left of the chain, and what is left decides
abbrev pub invariant-loop-here : goal.invariant-loop-here
invariant-loop-here g l = record {
  rest : IsShort l.slots l.here;
  stands : (qs : List ℕ) → IsChain l.slots l.here qs → Stands l.at qs;
  decided : (ps qs : List ℕ) → IsChain l.slots l.head ps → IsChain l.slots l.here qs → place_in_front l.at no_place ps ≡ place_in_front l.at l.before qs;
}

abbrev pub decreases-loop-here : goal.decreases-loop-here
decreases-loop-here g l = length (walk (length l.slots.slots) l.slots.slots l.here)
