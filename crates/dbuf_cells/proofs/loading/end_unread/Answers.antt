use Rattle.std.proofs.Common.{◌≡◌, refl, sym, ap, ◌∙◌, subst}
use Rattle.dbuf_state.specs.CellLog.{CellLog}
use Rattle.dbuf_state.specs.Dbufs.{DbufHas, dbuf_at, dbuf_is, is_clean_in, is_reading, unread, with_dbuf}
use Rattle.dbuf_state.specs.declared.state.DbState.TheVariants as state
use Rattle.dbuf_cells.specs.declared.kept.Kept.{Kept}
use Rattle.dbuf_cells.proofs.Claims.{loses-others}
use Rattle.dbuf_cells.proofs.Loads.{is-reading, is-unmarked, is-unread, unmarked-as, unread-unclaimed}
use Rattle.dbuf_cells.proofs.PartySteps.{as-given, as-may-give}
use Rattle.dbuf_cells.proofs.loading.end_unread.Goals as goal

pub unread-requires : goal.unread-requires
unread-requires g c =
    let k = c.retake-cell in
    ap (λ (x : CellLog Kept). dbuf_is (is_clean_in is_reading) c.args.at x.dbufs) c.deref_mut.ensures.value ∙ is-reading k.new.party.number c.args.at c.args.ptr k.result.value.dbufs k.ensures.reading

pub give-requires : goal.give-requires
give-requires g c =
    let k = c.retake-cell in
    as-may-give c.args.arcs.now c.args.i c.args.party.now k.result c.unread.new.self k.new.party
    (unmarked-as c.args.arcs.now c.args.i c.args.party.now k.result k.result.value c.deref_mut.result.now c.unread.new.self k.new.party c.args.at c.args.ptr k.ensures.begins c.deref_mut.ensures.value k.ensures.reading c.unread.ensures)

pub returns-clause-turn : goal.returns-clause-turn
returns-clause-turn g c =
    let k = c.retake-cell in (
      k.result,
      as-given c.args.arcs.now c.args.i c.args.party.now k.result c.unread.new.self k.new.party
          (unmarked-as c.args.arcs.now c.args.i c.args.party.now k.result k.result.value c.deref_mut.result.now c.unread.new.self k.new.party c.args.at c.args.ptr k.ensures.begins c.deref_mut.ensures.value k.ensures.reading c.unread.ensures)
          c.give.new.party c.give.ensures.gives,
    )

pub returns-clause-unmarked : goal.returns-clause-unmarked
returns-clause-unmarked g c =
    let k = c.retake-cell in
    let is = c.unread.ensures ∙ ap (λ (x : CellLog Kept). record x { dbufs = with_dbuf c.args.at unread x.dbufs }) c.deref_mut.ensures.value in
    is-unmarked c.args.i c.give.new.party.number c.args.at c.unread.new.self c.give.new.party c.give.ensures.once c.give.ensures.claims
    (subst (λ (x : CellLog Kept). DbufHas (λ d. d.state ≡ state.Uncached) (dbuf_at c.args.at x.dbufs)) (sym is) (is-unread k.new.party.number c.args.at c.args.ptr k.result.value.dbufs k.ensures.reading))

pub returns-clause-others : goal.returns-clause-others
returns-clause-others g c =
    let k = c.retake-cell in
    let given = as-given c.args.arcs.now c.args.i c.args.party.now k.result c.unread.new.self k.new.party
    (unmarked-as c.args.arcs.now c.args.i c.args.party.now k.result k.result.value c.deref_mut.result.now c.unread.new.self k.new.party c.args.at c.args.ptr k.ensures.begins c.deref_mut.ensures.value k.ensures.reading c.unread.ensures)
    c.give.new.party c.give.ensures.gives in
    let is = c.unread.ensures ∙ ap (λ (x : CellLog Kept). record x { dbufs = with_dbuf c.args.at unread x.dbufs }) c.deref_mut.ensures.value in
    loses-others c.args.i k.new.party.number c.give.new.party.number c.args.at k.result.value.dbufs c.unread.new.self.dbufs c.args.party.now c.give.new.party k.ensures.claimed c.give.ensures.claims (given.number ∙ sym k.ensures.begins.hand.party.number)
    (unread-unclaimed c.args.at k.result.value k.result.value c.unread.new.self refl k.ensures.once is)
