use Rattle.std.proofs.Common.{ap}
use Rattle.key_table.specs.Chains.{no_place, place_in_front}
use Rattle.key_table.proofs.Chained.{chain-one}
use Rattle.key_table.proofs.Searched.{ahead, decided-here, decided-on, front-some, rest_short, smaller, stands-on, there}
use Rattle.key_table.proofs.chain.place_in_front.Goals as goal

pub loop-here-init : goal.loop-here-init
loop-here-init g c = record {
  rest = c.requires.short;
  stands = c.requires.stands;
  decided = λ ps qs one two. ap (λ z. place_in_front c.args.at no_place z) (chain-one c.args.slots.now c.args.head ps qs one two);
}

pub index-requires : goal.index-requires
index-requires g c =
    let kept = c.loop-here.invariant in
    there c.args.slots.now c.loop-here.here kept.rest (front-some c.args.slots.now c.loop-here.here c.args.at kept.rest kept.stands)

pub loop-here-smaller : goal.loop-here-smaller
loop-here-smaller g c =
    let kept = c.loop-here.invariant in
    smaller c.args.slots.now c.loop-here.here c.index.result.now
    (ahead c.args.slots.now c.loop-here.here c.index.result.now kept.rest (front-some c.args.slots.now c.loop-here.here c.args.at kept.rest kept.stands) c.index.ensures)

pub loop-here-preserved : goal.loop-here-preserved
loop-here-preserved g c =
    let kept = c.loop-here.invariant in
    let slots = c.args.slots.now in
    let here = c.loop-here.here in
    let a = ahead slots here c.index.result.now kept.rest (front-some slots here c.args.at kept.rest kept.stands) c.index.ensures in
    record {
      rest = rest_short slots here c.index.result.now a;
      stands = stands-on slots here c.args.at c.index.result.now a c.loop-here-test.true kept.stands;
      decided = decided-on slots c.args.head c.loop-here.before here c.args.at c.index.result.now a c.loop-here-test.true kept.decided;
    }

pub returns : goal.returns
returns g c =
    let kept = c.loop-here.invariant in
    decided-here c.args.slots.now c.args.head c.loop-here.before c.loop-here.here c.args.at c.loop-here-test.false kept.rest kept.stands kept.decided
