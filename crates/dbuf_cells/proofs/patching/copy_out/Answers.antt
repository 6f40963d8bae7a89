use Rattle.std.proofs.Common.{◌≡◌, false, length, refl, sym, ap, ◌∙◌, subst}
use Rattle.std.proofs.lemmas.Bool.{false≢true}
use Rattle.blk_ptr.specs.Size.{IsBlockSize}
use Rattle.dbuf_state.specs.CellLog.{CellLog}
use Rattle.dbuf_state.specs.Dbufs.{DbufHas, IsOfContent, cached_with, dbuf_at, dbuf_is, dbuf_oid, is_cached, is_clean_in, is_evicting, may_dirty, with_dbuf}
use Rattle.dbuf_state.specs.Oids.{has_item}
use Rattle.dbuf_cells.specs.Kept.{bytes_of, key_of}
use Rattle.dbuf_cells.specs.declared.kept.Kept.{Kept}
use Rattle.dbuf_cells.proofs.Copies.{block-sized, dirty-else, put-back, taken-over, unkept-evicting, unkept-of, unkept-there}
use Rattle.dbuf_cells.proofs.PutSteps.{may-write-out, none-held}
use Rattle.dbuf_cells.proofs.patching.copy_out.Goals as goal

pub dirty_with-requires-clause-free : goal.dirty_with-requires-clause-free
dirty_with-requires-clause-free c = ap (λ (x : CellLog Kept). may_dirty c.args.at x.dbufs) c.unkeep-kept.ensures.dbufs ∙ may-write-out c.args.at c.args.cell.now.dbufs

pub dirty_with-requires-clause-size : goal.dirty_with-requires-clause-size
dirty_with-requires-clause-size c = subst IsBlockSize (sym (ap length c.in-Ok.ensures)) (block-sized c.unkeep-kept.result c.args.at c.args.cell.now.dbufs c.requires.sized c.unkeep-kept.ensures.of)

pub dirty_with-requires-clause-room : goal.dirty_with-requires-clause-room
dirty_with-requires-clause-room c absent =
    absurd (false≢true (sym absent ∙ (ap (λ (x : CellLog Kept). has_item dbuf_oid c.args.at x.dbufs) c.unkeep-kept.ensures.dbufs ∙ unkept-there c.unkeep-kept.result c.args.at c.args.cell.now.dbufs c.unkeep-kept.ensures.of)))

pub rekeep-requires-clause-evicting : goal.rekeep-requires-clause-evicting
rekeep-requires-clause-evicting c =
    ap (λ (x : CellLog Kept). dbuf_is (is_clean_in is_evicting) c.args.at x.dbufs) c.unkeep-kept.ensures.dbufs ∙ unkept-evicting c.args.at c.args.cell.now.dbufs (sym c.is_kept.ensures ∙ c.if-not-is_kept.false)

pub rekeep-requires-clause-of : goal.rekeep-requires-clause-of
rekeep-requires-clause-of c =
    subst (λ (x : CellLog Kept). DbufHas (λ d. IsOfContent key_of bytes_of c.unkeep-kept.result d.content) (dbuf_at c.args.at x.dbufs)) (sym c.unkeep-kept.ensures.dbufs)
    (unkept-of c.unkeep-kept.result c.args.at c.args.cell.now.dbufs c.unkeep-kept.ensures.of)

pub returns-then-not-is_kept-clause-ok : goal.returns-then-not-is_kept-clause-ok
returns-then-not-is_kept-clause-ok c =
    let none : dbuf_is (is_clean_in is_cached) c.args.at c.args.cell.now.dbufs ≡ false = sym c.is_kept.ensures ∙ c.if-not-is_kept.true in
    record {
      taken = tt;
      cached = tt;
      there = tt;
      of = tt;
      same = refl;
      dirty = dirty-else c.args.at c.args.cell.now.dbufs c.requires.cached none;
      loose = none-held c.args.at c.args.cell.now.dbufs c.told.ensures.fit none;
    }

pub returns-in-Ok-clause-ok : goal.returns-in-Ok-clause-ok
returns-in-Ok-clause-ok c = record {
  taken = taken-over c.unkeep-kept.result c.args.at c.args.cell.now c.unkeep-kept.new.self c.dirty_with.new.self c.in-Ok.bytes.items _ c.unkeep-kept.ensures.of c.unkeep-kept.ensures.dbufs c.in-Ok.ensures c.dirty_with.ensures;
  cached = sym c.is_kept.ensures ∙ c.if-not-is_kept.false;
  there = c.unkeep-kept.ensures.kept;
  of = c.unkeep-kept.ensures.of;
  same = tt;
  dirty = tt;
  loose = tt;
}

pub returns-in-Err-clause-err : goal.returns-in-Err-clause-err
returns-in-Err-clause-err c =
    c.rekeep.ensures ∙ (ap (λ (x : CellLog Kept). record x { dbufs = with_dbuf c.args.at (cached_with c.unkeep-kept.result) x.dbufs }) c.unkeep-kept.ensures.dbufs
    ∙ ap (λ ds. record c.args.cell.now { dbufs = ds }) (put-back c.unkeep-kept.result c.args.at c.args.cell.now.dbufs (sym c.is_kept.ensures ∙ c.if-not-is_kept.false) c.unkeep-kept.ensures.kept))
