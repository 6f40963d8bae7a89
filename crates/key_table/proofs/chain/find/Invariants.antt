use Rattle.std.proofs.Common.{ℕ, List, length}
use Rattle.key_table.specs.Chains.{IsChain, IsShort, IsSlotOf, Stands, walk}
use Rattle.key_table.proofs.chain.find.Given as goal

-- what is left of the chain has every slot of the key that the whole chain has
abbrev pub invariant-loop-at : goal.invariant-loop-at
invariant-loop-at g l = record {
  rest : IsShort l.slots l.at;
  passed : (ps qs : List ℕ) → IsChain l.slots l.head ps → IsChain l.slots l.at qs → (p : ℕ) → Stands p ps → IsSlotOf l.key p l.slots → Stands p qs;
}

abbrev pub decreases-loop-at : goal.decreases-loop-at
decreases-loop-at g l = length (walk (length l.slots.slots) l.slots.slots l.at)
