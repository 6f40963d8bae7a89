use Rattle.std.proofs.Common.{ℕ, List, refl, ap, sym, subst, ◌∙◌}
use Rattle.vdev_io.specs.Calls.{DeviceCall, MakesDeviceCalls}
use Rattle.std.proofs.lemmas.Result.{err_from_is_err_and}
use Rattle.l2_dev.specs.Chain.{bytes_at}
use Rattle.l2_dev.proofs.Walks.{visited, refused, refused_all, misfit, block_reads}
use Rattle.l2_dev.proofs.walk.visit.Goals as goal

pub returns-in_err-reach-clause-told : goal.returns-in_err-reach-clause-told
returns-in_err-reach-clause-told g c =
    let p = err_from_is_err_and c.from_residual.result c.from_residual.ensures.1 in
    λ image told. rw (p.1, p.2) (c.in_err-reach.ensures.stop image)

pub returns-in_err-block-clause-told : goal.returns-in_err-block-clause-told
returns-in_err-block-clause-told g c =
    let p = err_from_is_err_and c.from_residual-in_err-block.result c.from_residual-in_err-block.ensures.1 in
    λ image told.
    let same = c.in-Ok.ensures.bytes image told ∙ ap (λ (n : ℕ). bytes_at image c.args.ptr.place n) c.requires.len in
    rw (p.1, p.2) (refused_all image c.args.header.now c.args.walked c.args.ptr c.read_at.new.buf c.in_err-block.field-0.0 same c.in_ok-reach.ensures.reached c.in_err-block.ensures.stop)

pub returns-in-Ok-check_block-clause-told : goal.returns-in-Ok-check_block-clause-told
returns-in-Ok-check_block-clause-told g c =
    λ image told.
    let same = c.in-Ok.ensures.bytes image told ∙ ap (λ (n : ℕ). bytes_at image c.args.ptr.place n) c.requires.len in
    let read = c.in_ok-block.ensures.block in
    visited image c.args.header.now c.args.ptr c.in_ok-block.block c.read_at.new.buf same read.0 read.1 c.in-Ok-check_block.ensures

pub returns-in-Err-clause-told : goal.returns-in-Err-clause-told
returns-in-Err-clause-told g c =
    λ image told.
    let same = c.in-Ok.ensures.bytes image told ∙ ap (λ (n : ℕ). bytes_at image c.args.ptr.place n) c.requires.len in
    let read = c.in_ok-block.ensures.block in
    refused image c.args.header.now c.args.walked c.args.ptr c.read_at.new.buf c.in-Err.fault same c.in_ok-reach.ensures.reached
    (misfit c.args.header.now c.args.ptr c.in_ok-block.block c.read_at.new.buf c.in-Err.fault read.0 read.1 c.in-Err.ensures)

pub returns-in_err-reach-clause-reads : goal.returns-in_err-reach-clause-reads
returns-in_err-reach-clause-reads g c =
    let d = g.D.CacheDev in
    let p = err_from_is_err_and c.from_residual.result c.from_residual.ensures.1 in
    rw (p.1, p.2) (subst (λ (calls : List DeviceCall). MakesDeviceCalls d calls c.args.dev.now c.args.dev.now) (sym c.in_err-reach.ensures.unread) refl)

pub returns-in_err-block-clause-reads : goal.returns-in_err-block-clause-reads
returns-in_err-block-clause-reads g c =
    let d = g.D.CacheDev in
    let p = err_from_is_err_and c.from_residual-in_err-block.result c.from_residual-in_err-block.ensures.1 in
    rw (p.1, p.2) (
    subst (λ (calls : List DeviceCall). MakesDeviceCalls d calls c.args.dev.now c.read_at.new.dev) (sym (block_reads c.args.ptr _ c.in_err-block.field-0.0 c.in_err-block.ensures.stop))
    (rw c.requires.len at c.in-Ok.ensures.call))
