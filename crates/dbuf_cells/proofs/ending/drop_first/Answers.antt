use Rattle.std.proofs.Common.{refl, ap, ◌+◌, ◌∙◌}
use Rattle.dbuf_state.specs.CellLog.{CellLog}
use Rattle.dbuf_state.specs.declared.state.DbState.TheVariants as state
use Rattle.dbuf_state.proofs.HandLemmas.{first-kept-is-cached}
use Rattle.dbuf_cells.specs.InHand.{kept_count}
use Rattle.dbuf_cells.specs.declared.kept.Kept.{Kept}
use Rattle.dbuf_cells.proofs.CellSteps.{kept-less-in}
use Rattle.dbuf_cells.proofs.Endings.{ends-one}
use Rattle.dbuf_cells.proofs.Evictions.{kept-held}
use Rattle.dbuf_cells.proofs.ending.drop_first.Goals as goal

pub unkeep-kept-requires : goal.unkeep-kept-requires
unkeep-kept-requires g c = first-kept-is-cached c.args.at c.args.cell.now.dbufs c.told.ensures.once c.requires.first

pub give_back-requires-clause-party : goal.give_back-requires-clause-party
give_back-requires-clause-party g c = c.requires.hand.2.party.party

pub give_back-requires-clause-look : goal.give_back-requires-clause-look
give_back-requires-clause-look g c = c.requires.hand.2.party.look

pub give_back-requires-clause-out : goal.give_back-requires-clause-out
give_back-requires-clause-out g c =
    let m = c.requires.hand in
    kept-held c.args.arcs.now c.args.i m.0 m.1 m.2.es c.args.cell.now c.args.party.now m.2.party m.2.holds c.args.at c.unkeep-kept.result c.unkeep-kept.ensures.kept

pub returns-clause-empties : goal.returns-clause-empties
returns-clause-empties g c p before h =
    ends-one c.args.arcs.now c.args.i p before c.args.cell.now c.unkeep-kept.new.self c.args.party.now c.give_back.new.party h c.args.at c.unkeep-kept.result c.told.ensures.once
    c.requires.first c.unkeep-kept.ensures.kept c.unkeep-kept.ensures.of c.give_back.ensures c.unkeep-kept.ensures.dbufs

pub returns-clause-kept : goal.returns-clause-kept
returns-clause-kept g c =
    ap (λ (x : CellLog Kept). kept_count x.dbufs + 1) c.unkeep-kept.ensures.dbufs
    ∙ kept-less-in state.Evicting refl c.args.at c.args.cell.now.dbufs (first-kept-is-cached c.args.at c.args.cell.now.dbufs c.told.ensures.once c.requires.first)
