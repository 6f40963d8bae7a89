use Rattle.std.proofs.Common.{◌≡◌, [], ◌∷◌, ◌++◌, List, length, ap, ◌∙◌, arith, refl}
use Rattle.dbuf_cells.specs.Turns.{PartyPlace}
use Rattle.trace_run.specs.declared.kept_blocks.KeptBlock.{KeptBlock}
use Rattle.trace_run.specs.Devices.{lent_in}
use Rattle.trace_run.proofs.one_caller.OwnLines.{one-starts}
use Rattle.trace_run.proofs.one_caller.OwnJoined.{meet-free, meet-row, met-stands, own-did, part-last}
use Rattle.trace_run.proofs.in_turn.own_lines.Goals as goal

pub join-requires-clause-row : goal.join-requires-clause-row
join-requires-clause-row g c =
    let one : length c.args.crew.parties.items ≡ 1 = let r = c.requires.one in let o = c.args.crew.parties.ok.0 in omega (arith, r, o) in
    let first =
    one-starts c.args.arcs.now c.args.blocks.now c.args.crew.kept.items c.args.crew.parties.items c.pop-2.new.self.items c.pop.new.self.items c.in-Some-pop.reads c.in-Some.party one c.requires.start c.in-Some-pop.ensures.items c.in-Some.ensures.items in
    meet-row c.args.arcs.now c.requires.callers c.requires.rows c.args.blocks.now c.in-Some-pop.reads c.in-Some.party c.args.crew.feeder first.2 c.requires.feeder

pub join-requires-clause-free : goal.join-requires-clause-free
join-requires-clause-free g c =
    let one : length c.args.crew.parties.items ≡ 1 = let r = c.requires.one in let o = c.args.crew.parties.ok.0 in omega (arith, r, o) in
    let first =
    one-starts c.args.arcs.now c.args.blocks.now c.args.crew.kept.items c.args.crew.parties.items c.pop-2.new.self.items c.pop.new.self.items c.in-Some-pop.reads c.in-Some.party one c.requires.start c.in-Some-pop.ensures.items c.in-Some.ensures.items in
    meet-free c.args.arcs.now c.requires.callers c.requires.rows c.args.blocks.now c.in-Some-pop.reads c.in-Some.party c.args.crew.feeder first.2 c.requires.feeder

pub lines_on-requires-clause-stands : goal.lines_on-requires-clause-stands
lines_on-requires-clause-stands g c κs within =
    let one : length c.args.crew.parties.items ≡ 1 = let r = c.requires.one in let o = c.args.crew.parties.ok.0 in omega (arith, r, o) in
    let first =
    one-starts c.args.arcs.now c.args.blocks.now c.args.crew.kept.items c.args.crew.parties.items c.pop-2.new.self.items c.pop.new.self.items c.in-Some-pop.reads c.in-Some.party one c.requires.start c.in-Some-pop.ensures.items c.in-Some.ensures.items in
    met-stands c.args.arcs.now c.requires.callers c.requires.rows c.args.blocks.now c.in-Some-pop.reads c.in-Some.party c.args.crew.feeder first.2 c.requires.feeder c.join.new.party (record { moment = c.join.ensures.moment; is = c.join.ensures.joined })

pub lines_on-requires-clause-named : goal.lines_on-requires-clause-named
lines_on-requires-clause-named g c κs within =
    let one : length c.args.crew.parties.items ≡ 1 = let r = c.requires.one in let o = c.args.crew.parties.ok.0 in omega (arith, r, o) in
    (one-starts c.args.arcs.now c.args.blocks.now c.args.crew.kept.items c.args.crew.parties.items c.pop-2.new.self.items c.pop.new.self.items c.in-Some-pop.reads c.in-Some.party one c.requires.start c.in-Some-pop.ensures.items c.in-Some.ensures.items).2.named

-- the feeder parts behind the lines
pub part-feeder-requires-clause-row : goal.part-feeder-requires-clause-row
part-feeder-requires-clause-row g c = c.in_ok-replies.ensures.stands.of

pub part-feeder-requires-clause-free : goal.part-feeder-requires-clause-free
part-feeder-requires-clause-free g c = c.in_ok-replies.ensures.stands.free

pub part-feeder-requires-clause-last : goal.part-feeder-requires-clause-last
part-feeder-requires-clause-last g c =
    let one : length c.args.crew.parties.items ≡ 1 = let r = c.requires.one in let o = c.args.crew.parties.ok.0 in omega (arith, r, o) in
    let first =
    one-starts c.args.arcs.now c.args.blocks.now c.args.crew.kept.items c.args.crew.parties.items c.pop-2.new.self.items c.pop.new.self.items c.in-Some-pop.reads c.in-Some.party one c.requires.start c.in-Some-pop.ensures.items c.in-Some.ensures.items in
    part-last c.args.arcs.now c.requires.callers c.requires.rows c.args.blocks.now c.in-Some-pop.reads c.in-Some.party c.args.crew.feeder first.2 c.requires.feeder c.join.new.party (record { moment = c.join.ensures.moment; is = c.join.ensures.joined })
    g.P.Pool g.D.CacheDev c.args.ops.now c.in_ok-replies.replies.items c.args.pool.now c.lines_on.new.pool (lent_in c.args.device.now) (lent_in c.lines_on.new.device) c.requires.own c.lines_on.new.kept c.lines_on.new.party c.in_ok-replies.ensures.stands c.in_ok-replies.ensures.did

pub returns-clause-did : goal.returns-clause-did
returns-clause-did g c =
    let one : length c.args.crew.parties.items ≡ 1 = let r = c.requires.one in let o = c.args.crew.parties.ok.0 in omega (arith, r, o) in
    let first =
    one-starts c.args.arcs.now c.args.blocks.now c.args.crew.kept.items c.args.crew.parties.items c.pop-2.new.self.items c.pop.new.self.items c.in-Some-pop.reads c.in-Some.party one c.requires.start c.in-Some-pop.ensures.items c.in-Some.ensures.items in
    own-did c.args.arcs.now c.requires.callers c.requires.rows c.args.blocks.now c.in-Some-pop.reads c.in-Some.party c.args.crew.feeder first.2 c.requires.feeder c.join.new.party (record { moment = c.join.ensures.moment; is = c.join.ensures.joined })
    g.P.Pool g.D.CacheDev c.args.ops.now c.in_ok-replies.replies.items c.args.pool.now c.lines_on.new.pool (lent_in c.args.device.now) (lent_in c.lines_on.new.device) c.requires.own c.lines_on.new.kept c.lines_on.new.party c.in_ok-replies.ensures.stands c.in_ok-replies.ensures.did
    c.args.crew (record { feeder = c.part-feeder.result; parties = c.push.new.self; kept = c.push-2.new.self }) refl
    (c.in-Some.ensures.items ∙ ap (λ (l : List PartyPlace). l ++ c.in-Some.party ∷ []) first.1) (c.in-Some-pop.ensures.items ∙ ap (λ (l : List (List KeptBlock)). l ++ c.in-Some-pop.reads ∷ []) first.0)
    c.part-feeder.new.party c.part-feeder.ensures.party c.part-feeder.ensures.result
    (c.in_ok-push.ensures.items ∙ ap (λ (l : List PartyPlace). l ++ c.part-feeder.new.party ∷ []) first.1) (c.in_ok-push-2.ensures.items ∙ ap (λ (l : List (List KeptBlock)). l ++ c.lines_on.new.kept ∷ []) first.0)
