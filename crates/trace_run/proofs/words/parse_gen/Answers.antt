use Rattle.std.proofs.Common.{arith}
use Rattle.trace_run.specs.Words.{texts}
use Rattle.trace_run.proofs.theorem.WordLemmas.{hands_on, gen_seed, gen_blocks, gen_ops, gen_whole, gen_fifth}
use Rattle.trace_run.proofs.words.parse_gen.Goals as goal

pub returns-in_err-seed : goal.returns-in_err-seed
returns-in_err-seed c =
    let err = c.in_err-seed.ensures in
    hands_on (texts c.args.words.now) c.from_residual.result 1 (rw err.0 at c.from_residual.ensures.1)
    (gen_seed (texts c.args.words.now) c.requires err.1)

pub returns-in_err-blocks : goal.returns-in_err-blocks
returns-in_err-blocks c =
    let seed = c.in_ok-seed.ensures in
    let err = c.in_err-blocks.ensures in
    hands_on (texts c.args.words.now) c.from_residual-in_err-blocks.result 2 (rw err.0 at c.from_residual-in_err-blocks.ensures.1)
    (gen_blocks (texts c.args.words.now) _ c.requires seed.0 seed.2 err.1)

pub returns-in_err-ops : goal.returns-in_err-ops
returns-in_err-ops c =
    let seed = c.in_ok-seed.ensures in
    let blocks = c.in_ok-blocks.ensures in
    let err = c.in_err-ops.ensures in
    hands_on (texts c.args.words.now) c.from_residual-in_err-ops.result 3 (rw err.0 at c.from_residual-in_err-ops.ensures.1)
    (gen_ops (texts c.args.words.now) _ _ c.requires seed.0 seed.2 blocks.0 blocks.1 blocks.2 err.1)

pub returns-in-None : goal.returns-in-None
returns-in-None c =
    let seed = c.in_ok-seed.ensures in
    let blocks = c.in_ok-blocks.ensures in
    let ops = c.in_ok-ops.ensures in (
      gen_whole (texts c.args.words.now) c.in_ok-seed.seed c.in_ok-blocks.blocks c.in_ok-ops.ops c.requires seed.0 blocks.0 ops.0 c.in-None.ensures,
      (omega (arith, seed.2), blocks.1, blocks.2, ops.2),
    )

pub returns-in-Some : goal.returns-in-Some
returns-in-Some c =
    let seed = c.in_ok-seed.ensures in
    let blocks = c.in_ok-blocks.ensures in
    let ops = c.in_ok-ops.ensures in
    gen_fifth (texts c.args.words.now) c.in_ok-seed.seed c.in_ok-blocks.blocks c.in_ok-ops.ops c.in-Some.field-0.now c.requires seed.0 seed.2
    blocks.0 blocks.1 blocks.2 ops.0 ops.2 c.in-Some.ensures
