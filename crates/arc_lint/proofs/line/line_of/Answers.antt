use Rattle.std.proofs.Common.{◌∙◌, sym, arith}
use Rattle.std.proofs.lemmas.Grind.{common_steps}
use Rattle.arc_lint.proofs.SplitLemmas.{next-found, next-missing}
use Rattle.arc_lint.proofs.line.line_of.Goals as goal

pub returns-in-None : goal.returns-in-None
returns-in-None c =
    next-missing c.args.text.now _ c.loop.at c.args.number c.loop.counter (grind (arith, common_steps)) c.in-None.ensures c.loop-test.true ∙ c.loop.invariant.line

pub loop-preserved : goal.loop-preserved
loop-preserved c =
    record {
      within = omega (arith, c.in-Some.ensures.0.high);
      line = sym (next-found c.args.text.now _ c.loop.at c.in-Some.place c.args.number c.loop.counter (grind (arith, common_steps)) c.in-Some.ensures c.loop-test.true) ∙ c.loop.invariant.line;
    }
