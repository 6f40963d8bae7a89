use Rattle.std.proofs.Common.{◌<◌, length, get_or, sym, subst, ◌∙◌, arith}
use Rattle.dbuf_state.specs.declared.dbuf.Dbuf.{Dbuf}
use Rattle.dbuf_state.specs.CellLog.{CellLog}
use Rattle.dbuf_state.specs.Dbufs.{IsFit, applied}
use Rattle.dbuf_state.proofs.CellLemmas.{kept-fit, kept-index, kept-names, kept-once}
use Rattle.dbuf_state.proofs.cell.Cell.change.Goals as goal

pub invariant_of-self-2 : goal.invariant_of-self-2
invariant_of-self-2 g c =
    let ds = c.self.inside.dbufs.items in
    let read = c.index_mut-dbuf.ensures.value in
    let is = c.in_ok-given.ensures.ok in
    let within : c.args.place < length ds = subst (λ (log : CellLog g.row.H.Denot). c.args.place < length log.dbufs) (sym c.self.view_is) c.requires.within in
    record {
      names = c.self.invariant.names ∙ kept-names ds c.args.place c.index_mut-dbuf.result.now c.apply.new.dbuf c.args.change read is;
      index = kept-index c.self.inside.index.standings c.set.new.self.standings ds c.args.place c.apply.new.dbuf c.standing-stands.result c.self.invariant.index c.standing-stands.ensures c.set.ensures.standings;
      fit = kept-fit g.H.Shows.key_of g.H.Shows.bytes_of ds c.args.place c.index_mut-dbuf.result.now c.apply.new.dbuf c.args.change c.self.invariant.fit within read is
          (subst (λ (log : CellLog g.row.H.Denot). (e : Dbuf g.row.H.Denot) → IsFit g.H.Shows.key_of g.H.Shows.bytes_of (get_or log.dbufs c.args.place e) → IsFit g.H.Shows.key_of g.H.Shows.bytes_of (applied c.args.change (get_or log.dbufs c.args.place e))) (sym c.self.view_is) c.requires.fits);
      once = kept-once ds c.args.place c.index_mut-dbuf.result.now c.apply.new.dbuf c.args.change read is c.self.invariant.once;
      names_room = c.self.invariant.names_room;
      index_room = omega (arith, c.set.ensures.spare, c.self.invariant.index_room);
      dbufs_room = c.self.invariant.dbufs_room;
    }
