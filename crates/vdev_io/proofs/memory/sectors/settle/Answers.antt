use Rattle.std.proofs.Common.{◌≡◌, ◌-◌, ◌*◌, ◌≤◌, take, drop, Bool, false, if◌then◌else◌, List, ℕ, length, min, sym, subst, arith}
use Rattle.std.proofs.lemmas.Grind.{common_steps}
use Rattle.vdev_io.specs.Device.{put}
use Rattle.vdev_io.specs.SectorDisk.{IsSameSector, IsSameBut}
use Rattle.vdev_io.proofs.SettleLemmas.{settled, settled-others}
use Rattle.vdev_io.proofs.memory.sectors.settle.Goals as goal

pub returns-then-not-is_new-clause-sector : goal.returns-then-not-is_new-clause-sector
returns-then-not-is_new-clause-sector c =
    let m : ℕ = c.min.result in
    let e : m ≡ min 512 (length c.args.now.now.items - c.args.k * 512) = grind (arith, common_steps) in
    let le : c.args.k * 512 ≤ length c.args.now.now.items = omega (arith, c.requires.start, c.requires.inside) in
    let shape : c.put_bytes.new.image.items ≡ put (c.args.k * 512) (take m (drop (c.args.k * 512) c.args.flushed.now)) c.args.now.now.items = grind (arith, common_steps) in
    let off : c.args.is_new ≡ false = grind (arith, common_steps) in
    subst (λ (b : Bool). IsSameSector c.args.k c.put_bytes.new.image.items (if b then c.args.now.now.items else c.args.flushed.now)) (sym off)
    (subst (λ (image : List ℕ). IsSameSector c.args.k image c.args.flushed.now) (sym shape)
    (settled c.args.k m c.args.flushed.now c.args.now.now.items c.requires.len le e))

pub returns-then-not-is_new-clause-others : goal.returns-then-not-is_new-clause-others
returns-then-not-is_new-clause-others c =
    let m : ℕ = c.min.result in
    let e : m ≡ min 512 (length c.args.now.now.items - c.args.k * 512) = grind (arith, common_steps) in
    let le : c.args.k * 512 ≤ length c.args.now.now.items = omega (arith, c.requires.start, c.requires.inside) in
    let shape : c.put_bytes.new.image.items ≡ put (c.args.k * 512) (take m (drop (c.args.k * 512) c.args.flushed.now)) c.args.now.now.items = grind (arith, common_steps) in
    subst (λ (image : List ℕ). IsSameBut c.args.k c.args.now.now.items image) (sym shape)
    (settled-others c.args.k m c.args.flushed.now c.args.now.now.items c.requires.len le e)
