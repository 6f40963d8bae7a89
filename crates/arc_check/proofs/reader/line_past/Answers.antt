use Rattle.std.proofs.Common.{◌≤◌, length-take, arith}
use Rattle.arc_check.proofs.reader.line_past.Goals as goal

pub overflow_cast-result : goal.overflow_cast-result
overflow_cast-result c = let few : c.newlines_of.result ≤ 67108864 = omega (arith, simp length-take at c.newlines_of.ensures.bound) in omega arith

pub overflow_add-result : goal.overflow_add-result
overflow_add-result c = let few : c.newlines_of.result ≤ 67108864 = omega (arith, simp length-take at c.newlines_of.ensures.bound) in omega arith
