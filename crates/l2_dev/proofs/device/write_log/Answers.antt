use Rattle.std.proofs.Common.{◌≡◌, length, inr, refl, ◌∙◌, arith}
use Rattle.std.proofs.lemmas.Result.{err_from_is_err_and}
use Rattle.std.proofs.lemmas.List.{take_at}
use Rattle.vdev_io.specs.declared.fault.Failed.{Failed}
use Rattle.l2_log.specs.declared.pointer.LogPtr.{LogPtr}
use Rattle.l2_dev.specs.declared.fault.DevErr.{DevErr}
use Rattle.l2_dev.proofs.Commits.{block_of_reserved}
use Rattle.l2_dev.proofs.Puts.{written_err, written_ok}
use Rattle.l2_dev.proofs.device.write_log.Goals as goal

pub returns-in_err-reserve-clause-cause : goal.returns-in_err-reserve-clause-cause
returns-in_err-reserve-clause-cause g c =
    let p = err_from_is_err_and c.from_residual-in_err-reserve.result c.from_residual-in_err-reserve.ensures.1 in
    rw (p.1, p.2) record { kept = omega arith; rose = λ e. absurd (cc) }

pub returns-clause-cause : goal.returns-clause-cause
returns-clause-cause g c = record { kept = c.write_through.ensures.cause.never_falls; rose = λ e. absurd (cc) }

pub returns-in_err-write_through-clause-logged : goal.returns-in_err-write_through-clause-logged
returns-in_err-write_through-clause-logged g c =
    let d = g.D.CacheDev in
    let p = err_from_is_err_and c.from_residual-in_err-write_through.result c.from_residual-in_err-write_through.ensures.1 in
    let b = c.write_block-ptr.ensures.block in
    let whole = b.1.bytes_of.whole in
    let long : length c.write_block-ptr.new.out ≡ c.in_ok-bytes.bytes.len = omega (arith, whole, c.in_ok-bytes.ensures.len) in
    let same : c.deref.result.now ≡ c.write_block-ptr.new.out = c.deref.ensures.value ∙ take_at c.write_block-ptr.new.out _ c.in_ok-bytes.bytes.len long in
    let of = block_of_reserved c.args.cursor.now c.reserve.new.self _ _ _ c.reserve.ensures.reserved b.1 in
    rw (p.1, p.2) (inr (
      _,
      b.0,
      c.write_block-ptr.result,
      of,
      rw (same, c.requires.at) at c.write_through.ensures.wrote,
      refl,
      written_err (Unit {0}) Failed LogPtr DevErr c.args.cursor.now.ring.hand _ (d.told c.args.dev.now) (d.told c.write_through.new.dev) _ _ (rw (same, c.requires.at) at c.in_err-write_through.ensures.told),
    ))

pub returns-clause-logged : goal.returns-clause-logged
returns-clause-logged g c =
    let d = g.D.CacheDev in
    let b = c.write_block-ptr.ensures.block in
    let whole = b.1.bytes_of.whole in
    let long : length c.write_block-ptr.new.out ≡ c.in_ok-bytes.bytes.len = omega (arith, whole, c.in_ok-bytes.ensures.len) in
    let same : c.deref.result.now ≡ c.write_block-ptr.new.out = c.deref.ensures.value ∙ take_at c.write_block-ptr.new.out _ c.in_ok-bytes.bytes.len long in
    let of = block_of_reserved c.args.cursor.now c.reserve.new.self _ _ _ c.reserve.ensures.reserved b.1 in
    inr (
      _,
      b.0,
      c.write_block-ptr.result,
      of,
      rw (same, c.requires.at) at c.write_through.ensures.wrote,
      (refl, rw (same, c.requires.at) at c.in_ok-write_through.ensures.done),
      written_ok (Unit {0}) Failed LogPtr DevErr c.args.cursor.now.ring.hand _ (d.told c.args.dev.now) (d.told c.write_through.new.dev) _ _ (rw (same, c.requires.at) at c.in_ok-write_through.ensures.told),
    )

pub returns-in_err-write_through-clause-calls : goal.returns-in_err-write_through-clause-calls
returns-in_err-write_through-clause-calls g c =
    λ h.
    let p = err_from_is_err_and c.from_residual-in_err-write_through.result c.from_residual-in_err-write_through.ensures.1 in
    let b = c.write_block-ptr.ensures.block in
    let whole = b.1.bytes_of.whole in
    let long : length c.write_block-ptr.new.out ≡ c.in_ok-bytes.bytes.len = omega (arith, whole, c.in_ok-bytes.ensures.len) in
    let same : c.deref.result.now ≡ c.write_block-ptr.new.out = c.deref.ensures.value ∙ take_at c.write_block-ptr.new.out _ c.in_ok-bytes.bytes.len long in
    let of = block_of_reserved c.args.cursor.now c.reserve.new.self _ _ _ c.reserve.ensures.reserved b.1 in
    rw p.1 (_, b.0, c.write_block-ptr.result, of, tt, rw (same, c.requires.at) at c.in_err-write_through.ensures.calls)

pub returns-clause-calls : goal.returns-clause-calls
returns-clause-calls g c =
    λ h.
    let b = c.write_block-ptr.ensures.block in
    let whole = b.1.bytes_of.whole in
    let long : length c.write_block-ptr.new.out ≡ c.in_ok-bytes.bytes.len = omega (arith, whole, c.in_ok-bytes.ensures.len) in
    let same : c.deref.result.now ≡ c.write_block-ptr.new.out = c.deref.ensures.value ∙ take_at c.write_block-ptr.new.out _ c.in_ok-bytes.bytes.len long in
    let of = block_of_reserved c.args.cursor.now c.reserve.new.self _ _ _ c.reserve.ensures.reserved b.1 in
    (_, b.0, c.write_block-ptr.result, of, refl, rw (same, c.requires.at) at c.in_ok-write_through.ensures.calls)
