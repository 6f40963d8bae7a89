use Rattle.std.proofs.Common.{[], sym, subst, ◌∙◌}
use Rattle.std.proofs.lemmas.Bool.{false≢true}
use Rattle.key_table.proofs.Chained.{chain-one}
use Rattle.key_table.proofs.Searched.{ahead, passed-on, rest_short, smaller, there}
use Rattle.key_table.specs.Chains.{Stands}
use Rattle.key_table.proofs.chain.find.Goals as goal

pub loop-at-init : goal.loop-at-init
loop-at-init g c = record {
  rest = c.requires;
  passed = λ ps qs one two p stands has. subst (λ z. Stands p z) (chain-one c.args.slots.now c.args.head ps qs one two) stands;
}

pub index-slot-requires : goal.index-slot-requires
index-slot-requires g c = there c.args.slots.now c.loop-at.at c.loop-at.invariant.rest c.loop-at-test.true

pub returns-then-is-clause-found : goal.returns-then-is-clause-found
returns-then-is-clause-found g c = (c.index-slot.result.now, c.index-slot.ensures, c.is.ensures.0 c.if-is.true)

pub loop-at-smaller : goal.loop-at-smaller
loop-at-smaller g c =
    smaller c.args.slots.now c.loop-at.at c.index-slot.result.now (ahead c.args.slots.now c.loop-at.at c.index-slot.result.now c.loop-at.invariant.rest c.loop-at-test.true c.index-slot.ensures)

pub loop-at-preserved : goal.loop-at-preserved
loop-at-preserved g c =
    let a = ahead c.args.slots.now c.loop-at.at c.index-slot.result.now c.loop-at.invariant.rest c.loop-at-test.true c.index-slot.ensures in
    record {
      rest = rest_short c.args.slots.now c.loop-at.at c.index-slot.result.now a;
      passed = passed-on c.args.slots.now c.args.head c.loop-at.at c.args.key.now c.index-slot.result.now a c.index-slot.ensures (λ e. false≢true (sym c.if-is.false ∙ c.is.ensures.1 e)) c.loop-at.invariant.passed;
    }

pub returns-clause-none : goal.returns-clause-none
returns-clause-none g c ps chain p stands has = c.loop-at.invariant.passed ps [] chain c.loop-at-test.false p stands has
