use Rattle.std.proofs.Common.{◌≡◌, ℕ, sym, ap, ◌∙◌, subst}
use Rattle.dbuf_state.specs.CellLog.{CellLog}
use Rattle.dbuf_state.specs.Dbufs.{dbuf_is, is_clean_in, is_uncached, reading_by, with_dbuf}
use Rattle.dbuf_cells.specs.InHand.{ClaimsAre}
use Rattle.dbuf_cells.specs.declared.kept.Kept.{Kept}
use Rattle.dbuf_cells.proofs.Loads.{claims-mark, mark-gives, mark-may-give, marks-besides}
use Rattle.dbuf_cells.proofs.loading.begin_load.Goals as goal

pub reading-requires : goal.reading-requires
reading-requires c = ap (λ (x : CellLog Kept). dbuf_is (is_clean_in is_uncached) c.args.at x.dbufs) c.deref_mut.ensures.value ∙ c.requires.to_load.uncached

pub give-requires : goal.give-requires
give-requires c =
    let is = c.reading.ensures ∙ ap (λ (x : CellLog Kept). record x { dbufs = with_dbuf c.args.at (reading_by c.number-n.result) x.dbufs }) c.deref_mut.ensures.value in
    mark-may-give c.args.arcs.now c.args.i c.args.cell.value c.args.party.now c.number-n.result c.args.at c.args.ptr c.number-n.ensures c.requires.to_load c.reading.new.self is c.requires.hand

pub returns-clause-gives : goal.returns-clause-gives
returns-clause-gives c =
    let is = c.reading.ensures ∙ ap (λ (x : CellLog Kept). record x { dbufs = with_dbuf c.args.at (reading_by c.number-n.result) x.dbufs }) c.deref_mut.ensures.value in
    mark-gives c.args.arcs.now c.args.i c.args.cell.value c.args.party.now c.number-n.result c.args.at c.args.ptr c.number-n.ensures c.requires.to_load c.reading.new.self is c.give.new.party c.give.ensures.gives

pub returns-clause-besides : goal.returns-clause-besides
returns-clause-besides c =
    let is = c.reading.ensures ∙ ap (λ (x : CellLog Kept). record x { dbufs = with_dbuf c.args.at (reading_by c.number-n.result) x.dbufs }) c.deref_mut.ensures.value in
    let m = mark-may-give c.args.arcs.now c.args.i c.args.cell.value c.args.party.now c.number-n.result c.args.at c.args.ptr c.number-n.ensures c.requires.to_load c.reading.new.self is c.requires.hand in
    let given = c.give.ensures.gives m.from m.before m.evicting m.news m.es m.settled m.hand in
    let number : c.number-n.result ≡ c.give.new.party.number = sym (given.number ∙ (sym m.hand.party.number ∙ sym c.number-n.ensures)) in
    marks-besides c.args.i c.give.new.party.number c.args.at c.args.ptr c.reading.new.self c.args.cell.value.dbufs c.give.new.party c.requires.to_load c.requires.once
    (ap (λ (x : CellLog Kept). x.dbufs) is ∙ ap (λ (n : ℕ). with_dbuf c.args.at (reading_by n) c.args.cell.value.dbufs) number) c.give.ensures.claims

pub returns-clause-claims : goal.returns-clause-claims
returns-clause-claims c =
    let is = c.reading.ensures ∙ ap (λ (x : CellLog Kept). record x { dbufs = with_dbuf c.args.at (reading_by c.number-n.result) x.dbufs }) c.deref_mut.ensures.value in
    let m = mark-may-give c.args.arcs.now c.args.i c.args.cell.value c.args.party.now c.number-n.result c.args.at c.args.ptr c.number-n.ensures c.requires.to_load c.reading.new.self is c.requires.hand in
    let given = c.give.ensures.gives m.from m.before m.evicting m.news m.es m.settled m.hand in
    let number : c.give.new.party.number ≡ c.number-n.result = given.number ∙ (sym m.hand.party.number ∙ sym c.number-n.ensures) in
    claims-mark c.args.i c.number-n.result c.args.at c.args.ptr c.reading.new.self c.args.cell.value.dbufs c.give.new.party c.requires.to_load (ap (λ (x : CellLog Kept). x.dbufs) is)
    (subst (λ (n : ℕ). ClaimsAre c.args.i n c.reading.new.self c.give.new.party) number c.give.ensures.claims)
