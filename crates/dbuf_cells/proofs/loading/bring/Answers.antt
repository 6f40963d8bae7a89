use Rattle.std.proofs.Common.{◌≡◌, IsTrue, refl, sym, ap, ◌∙◌, subst}
use Rattle.std.specs.List.{AllByRecursion}
use Rattle.std.specs.Option.{option_map_or}
use Rattle.arc_table.specs.Reading.{outside}
use Rattle.dbuf_state.specs.CellLog.{CellLog}
use Rattle.dbuf_state.specs.Dbufs.{IsFit, dbuf_at, dbuf_oid}
use Rattle.dbuf_state.specs.Oids.{is_distinct}
use Rattle.dbuf_state.specs.declared.state.DbState.TheVariants as state
use Rattle.dbuf_cells.specs.Kept.{bytes_of, key_of}
use Rattle.dbuf_cells.specs.Loading.{mapped_in, to_load}
use Rattle.dbuf_cells.specs.declared.kept.Kept.{Kept}
use Rattle.dbuf_cells.proofs.Bringings.{brought-here}
use Rattle.dbuf_cells.proofs.Loads.{has-bytes}
use Rattle.dbuf_cells.proofs.loading.bring.Goals as goal

pub returns-in-None-clause-brings : goal.returns-in-None-clause-brings
returns-in-None-clause-brings g c p taken free mine =
    let ds = c.args.cell.value.dbufs in
    let m : c.mapped-mapped.result ≡ mapped_in c.args.at ds = c.mapped-mapped.ensures ∙ ap (λ (x : CellLog Kept). mapped_in c.args.at x.dbufs) c.deref-2.ensures in
    let s : c.state-state.result ≡ option_map_or (λ d. d.state) (dbuf_at c.args.at ds) state.Uncached = c.state-state.ensures.state ∙ ap (λ (x : CellLog Kept). option_map_or (λ d. d.state) (dbuf_at c.args.at x.dbufs) state.Uncached) c.deref-3.ensures in
    brought-here g.P.Pool g.D.CacheDev c.args.arcs.now c.args.i c.args.at c.args.tick (outside c.args.pool.now c.args.cache.now) (outside c.args.pool.now c.args.cache.now) c.args.cell p c.args.party.now taken free refl
    (has-bytes c.args.at ds taken.hand.cell.rest c.requires.rests (subst (λ (x : CellLog Kept). AllByRecursion (IsFit key_of bytes_of) x.dbufs) c.deref.ensures c.told.ensures.fit) c.requires.mapped
    (sym (λ z. to_load (m z) (s z)) ∙ sym c.in-None.ensures)) mine

pub load-requires-clause-once : goal.load-requires-clause-once
load-requires-clause-once g c κs within = subst (λ (x : CellLog Kept). IsTrue (is_distinct dbuf_oid x.dbufs)) c.deref.ensures c.told.ensures.once
