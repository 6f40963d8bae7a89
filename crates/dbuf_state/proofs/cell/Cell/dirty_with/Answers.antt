use Rattle.std.proofs.Common.{◌≡◌, false, List, length, refl, sym, ap, subst, ◌∙◌}
use Rattle.std.specs.Prelude.{ℕ}
use Rattle.blk_ptr.specs.Size.{IsBlockSize}
use Rattle.dbuf_state.specs.declared.dbuf.Content.TheVariants as content
use Rattle.dbuf_state.specs.declared.dbuf.Dbuf.{Dbuf}
use Rattle.dbuf_state.specs.declared.state.DbState.TheVariants as state
use Rattle.dbuf_state.specs.CellLog.{fresh}
use Rattle.dbuf_state.specs.Dbufs.{IsFit, dbuf_oid}
use Rattle.dbuf_state.specs.Oids.{has_item}
use Rattle.dbuf_state.proofs.FitLemmas.{dirtied-new, dirtied-there, item-has}
use Rattle.dbuf_state.proofs.cell.Cell.dirty_with.Goals as goal

pub done-requires-clause-inside : goal.done-requires-clause-inside
done-requires-clause-inside g c = item-has _ (λ d. tt) c.args.at c.args.self.now.dbufs (sym c.has.ensures ∙ c.if-has.true)

pub done-requires-clause-fits : goal.done-requires-clause-fits
done-requires-clause-fits g c = item-has _ (λ d fit. (refl, subst IsBlockSize (sym (ap length c.new-bytes.ensures)) c.requires.size)) c.args.at c.args.self.now.dbufs (sym c.has.ensures ∙ c.if-has.true)

pub add-requires-clause-absent : goal.add-requires-clause-absent
add-requires-clause-absent g c =
    subst (λ (d : Dbuf g.row.H.Denot). has_item dbuf_oid d.at c.args.self.now.dbufs ≡ false) (sym c.fresh-dbuf.ensures) (sym c.has.ensures ∙ c.if-has.false)

pub add-requires-clause-room : goal.add-requires-clause-room
add-requires-clause-room g c = c.requires.room (sym c.has.ensures ∙ c.if-has.false)

pub add-requires-clause-fits : goal.add-requires-clause-fits
add-requires-clause-fits g c =
    subst (IsFit g.H.Shows.key_of g.H.Shows.bytes_of) (sym c.fresh-dbuf.ensures) (refl, subst IsBlockSize (sym (ap length c.new-bytes.ensures)) c.requires.size)

pub returns-then-has : goal.returns-then-has
returns-then-has g c = dirtied-there c.args.self.now c.done.new.self c.args.at c.new-bytes.result c.args.bytes.items (sym c.has.ensures ∙ c.if-has.true) c.new-bytes.ensures c.done.ensures.dbufs

pub returns-else-has : goal.returns-else-has
returns-else-has g c =
    dirtied-new c.args.self.now c.add.new.self c.args.at c.fresh-dbuf.result c.args.bytes.items (sym c.has.ensures ∙ c.if-has.false)
    (c.fresh-dbuf.ensures ∙ ap (λ (bs : List ℕ). fresh c.args.at (content.Dirty bs) state.Cached) c.new-bytes.ensures) c.add.ensures
