use Rattle.std.proofs.Common.{◌≡◌, ℕ, List, length, Ok, refl, sym, ap, ◌∙◌, subst, Bool}
use Rattle.blk_ptr.specs.Ptr.{sha256_of}
use Rattle.blk_ptr.specs.declared.ptr.Ptr.{Ptr}
use Rattle.vdev_io.specs.Pool.{WritesOrRefuses}
use Rattle.dbuf_state.specs.CellLog.{CellLog, noted}
use Rattle.dbuf_state.specs.Dbufs.{IsKeptOf, synced_to, with_dbuf}
use Rattle.dbuf_state.specs.declared.event.CellEvent.TheVariants.{Synced}
use Rattle.dbuf_cells.specs.Kept.{bytes_of, key_of, is_held}
use Rattle.dbuf_cells.specs.declared.kept.Kept.{Kept}
use Rattle.txg_sync.specs.Items.{SyncItem}
use Rattle.txg_sync.specs.Writing.{KeepsItem, item_in}
use Rattle.txg_sync.proofs.Kept.{kept-of, wrote-told}
use Rattle.txg_sync.proofs.write.write_block.Goals as goal

pub synced-requires-clause-of : goal.synced-requires-clause-of
synced-requires-clause-of g c =
    let x : SyncItem = item_in c.args.group c.args.place c.args.i c.args.at c.args.cell.now (is_held c.in-Ok-keep.kept) in
    let bytes : c.bytes.result.now ≡ x.bytes = c.bytes.ensures ∙ (c.deref.ensures ∙ c.in-Ok.ensures.bytes) in
    let digest : c.digest.result ≡ sha256_of x.bytes = c.digest.ensures ∙ ap sha256_of (c.deref-2.ensures ∙ c.in-Ok.ensures.bytes) in
    let keeps : KeepsItem c.args.arcs.now.config c.args.tick x c.in-Ok-keep.kept c.args.party.now c.keep.new.party = c.in-Ok-keep.ensures.ok x refl (sym c.in-Ok.ensures.bytes) (λ z. record { offset = c.args.place; size = length (sym bytes z); birth = c.args.group }) record { digest = refl; size = refl } in
    let ptr : x.ptr ≡ record { key = record { offset = c.args.place; size = length c.bytes.result.now; birth = c.args.group }; digest = c.digest.result } = λ z. record { key = record { offset = c.args.place; size = length (sym bytes z); birth = c.args.group }; digest = sym digest z } in
    subst (IsKeptOf key_of bytes_of c.in-Ok-keep.kept) ptr (kept-of c.args.arcs.now.config c.args.tick x c.in-Ok-keep.kept c.args.party.now c.keep.new.party record { digest = refl; size = refl } keeps)

pub returns-clause-answer : goal.returns-clause-answer
returns-clause-answer g c =
    let x : SyncItem = item_in c.args.group c.args.place c.args.i c.args.at c.args.cell.now (is_held c.in-Ok-keep.kept) in
    let bytes : c.bytes.result.now ≡ x.bytes = c.bytes.ensures ∙ (c.deref.ensures ∙ c.in-Ok.ensures.bytes) in
    let digest : c.digest.result ≡ sha256_of x.bytes = c.digest.ensures ∙ ap sha256_of (c.deref-2.ensures ∙ c.in-Ok.ensures.bytes) in
    let wrote : c.bytes-2.result.now ≡ x.bytes = c.bytes-2.ensures ∙ (c.deref-3.ensures ∙ c.in-Ok.ensures.bytes) in
    let keeps : KeepsItem c.args.arcs.now.config c.args.tick x c.in-Ok-keep.kept c.args.party.now c.keep.new.party = c.in-Ok-keep.ensures.ok x refl (sym c.in-Ok.ensures.bytes) (λ z. record { offset = c.args.place; size = length (sym bytes z); birth = c.args.group }) record { digest = refl; size = refl } in
    let raw : Ptr = record { key = record { offset = c.args.place; size = length c.bytes.result.now; birth = c.args.group }; digest = c.digest.result } in
    let n = c.args.party.now.number in
    let ptr : raw ≡ x.ptr = λ z. record { key = record { offset = c.args.place; size = length (bytes z); birth = c.args.group }; digest = digest z } in
    record {
      fit = c.told.ensures.fit;
      size_is = ap (λ (l : List ℕ). length l) bytes;
      kept = c.in-Ok-keep.kept;
      keeps = keeps;
      synced = record {
        roomy = c.seal.new.cell;
        made = c.seal.ensures.roomier;
        noted_is = c.note.ensures ∙ (ap (λ (y : CellLog Kept). noted (Synced c.number-n.result c.args.at raw c.held-held.result) y) c.synced.ensures
            ∙ (ap (λ (h : Bool). noted (Synced c.number-n.result c.args.at raw h) (record c.seal.new.cell { dbufs = with_dbuf c.args.at (synced_to raw c.in-Ok-keep.kept) c.seal.new.cell.dbufs })) c.held-held.ensures
            ∙ (ap (λ (m : ℕ). noted (Synced m c.args.at raw (is_held c.in-Ok-keep.kept)) (record c.seal.new.cell { dbufs = with_dbuf c.args.at (synced_to raw c.in-Ok-keep.kept) c.seal.new.cell.dbufs })) c.number-n.ensures
            ∙ ap (λ (t : Ptr). noted (Synced n c.args.at t (is_held c.in-Ok-keep.kept)) (record c.seal.new.cell { dbufs = with_dbuf c.args.at (synced_to t c.in-Ok-keep.kept) c.seal.new.cell.dbufs })) ptr)));
      };
      told_is = wrote-told x (g.P.Pool.told c.args.pool.now) (g.P.Pool.told c.write.new.self) c.in_ok-write.field-0
          (subst (λ (l : List ℕ). WritesOrRefuses c.args.place l (g.P.Pool.told c.args.pool.now) (g.P.Pool.told c.write.new.self) (Ok c.in_ok-write.field-0)) wrote c.in_ok-write.ensures.told);
    }
