use Rattle.std.proofs.Common.{arith, refl, length, None}
use Rattle.std.proofs.lemmas.List.{get_or_past}
use Rattle.key_table.specs.Chains.{no_place}
use Rattle.key_table.proofs.Tabled.{nowhere-indexed, raised}
use Rattle.key_table.proofs.chain.chain_all.Goals as goal

pub loop-at-init : goal.loop-at-init
loop-at-init g c = record {
  some = c.requires.some;
  indexed = nowhere-indexed g.K.Hashed.hash c.args.slots.now c.args.heads.now c.requires.nowhere;
  rows = refl;
  each = λ q. refl;
  len = refl;
  length = refl;
  capacity = refl;
}

pub returns-clause-indexed : goal.returns-clause-indexed
returns-clause-indexed g c =
    let kept = c.loop-at.invariant in
    raised g.K.Hashed.hash c.loop-at.slots c.loop-at.heads (length c.loop-at.heads) c.loop-at.at no_place kept.indexed (omega (arith, c.loop-at.auto.at-end, c.capacity-at-end.type_inv))
    (λ q below past. get_or_past c.loop-at.slots.slots q None (omega (arith, past, c.loop-at-test.false, c.capacity-at-end.ensures.slots, kept.length)))
