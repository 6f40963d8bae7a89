-- The image that the flags say is one that a crash may leave.
use Rattle.std.proofs.Common.{◌≡◌, List, ℕ, length, sym, ap, subst, ◌∙◌}
use Rattle.vdev_io.specs.SectorDisk.{SectorImages, IsCrash, images}
use Rattle.vdev_io.proofs.DiskLemmas.{kept_lens}
use Rattle.vdev_io.proofs.SettleLemmas.{by_flags}
use Rattle.vdev_io.proofs.memory.sectors.SectorDisk.crash.Goals as goal

pub put_back-requires : goal.put_back-requires
put_back-requires c =
    let lens = kept_lens c.self.inside.opening.items c.self.inside.journal.calls c.self.inside.flushed.items c.self.inside.now.items c.self.invariant in
    ap (λ (bytes : List ℕ). length bytes) c.deref.ensures.value ∙ lens.0 ∙ sym lens.1

pub returns-clause-allowed : goal.returns-clause-allowed
returns-clause-allowed c =
    let same : images c.args.self ≡ record { flushed = c.self.inside.flushed.items; now = c.self.inside.now.items } =
    ap images (sym c.self.view_is) ∙ c.self.invariant.images in
    let made : record { flushed = c.self.inside.flushed.items; now = c.self.inside.now.items } ≡ images c.args.self = sym same in
    subst (λ (d : SectorImages). IsCrash d c.put_back.new.now.items) made
    (subst (λ (flushed : List ℕ). IsCrash record { flushed = flushed; now = c.self.inside.now.items } c.put_back.new.now.items) c.deref.ensures.value
    (by_flags _ _ _ c.put_back.new.now.items c.put_back.ensures))
