-- A write that is not refused is recorded, and its bytes stand in the image that a read gives.
use Rattle.std.proofs.Common.{◌≡◌, ◌+◌, ◌≤◌, ◌∷◌, [], ◌++◌, List, ℕ, length, sym, ap, subst, ◌∙◌}
use Rattle.vdev_io.specs.Journal.{Recording}
use Rattle.vdev_io.specs.SectorDisk.{Disk, DiskCall, Write, SectorImages, images, KeepsImages}
use Rattle.vdev_io.proofs.DiskLemmas.{Records, kept_lens, keeps-write, told-write, size-write, crash-write}
use Rattle.vdev_io.proofs.memory.sectors.SectorDiskCacheDev.write.Goals as goal

pub put_bytes-requires : goal.put_bytes-requires
put_bytes-requires c =
    let same : images c.args.self.now ≡ record { flushed = c.self.inside.flushed.items; now = c.self.inside.now.items } =
    ap images (sym (c.self.view_is ∙ c.in_ok-begin_other.ensures.begun)) ∙ c.self.invariant.images in
    subst (λ (d : SectorImages). c.args.offset + length c.args.bytes.now ≤ length d.now) same c.requires.inside

pub invariant_of-self-2 : goal.invariant_of-self-2
invariant_of-self-2 c =
    let same : images c.args.self.now ≡ record { flushed = c.self.inside.flushed.items; now = c.self.inside.now.items } =
    ap images (sym (c.self.view_is ∙ c.in_ok-begin_other.ensures.begun)) ∙ c.self.invariant.images in
    let le : c.args.offset + length c.args.bytes.now ≤ length c.self.inside.now.items =
    subst (λ (d : SectorImages). c.args.offset + length c.args.bytes.now ≤ length d.now) same c.requires.inside in
    subst (λ (calls : List DiskCall). KeepsImages c.self.inside.opening.items calls c.self.inside.flushed.items c.put_bytes.new.image.items)
    (sym (ap (λ (r : Recording). r.calls) c.write.ensures))
    (subst (λ (image : List ℕ). KeepsImages c.self.inside.opening.items (c.self.inside.journal.calls ++ Write c.args.offset c.args.bytes.now ∷ []) c.self.inside.flushed.items image)
    (sym c.put_bytes.ensures)
    (keeps-write c.self.inside.opening.items c.self.inside.journal.calls c.self.inside.flushed.items c.self.inside.now.items c.args.offset c.args.bytes.now c.self.invariant le))

pub returns-clause-told : goal.returns-clause-told
returns-clause-told c =
    let e = c.self.view_is ∙ c.in_ok-begin_other.ensures.begun in
    let new : Disk = record {
      opening = c.self.inside.opening.items;
      calls = c.write.new.self.calls;
      tells = c.self.inside.tells;
      left = c.write.new.self.left;
      room = c.write.new.self.room;
      full = c.self.inside.full;
      faults = c.self.inside.faults;
      reads = c.self.inside.reads;
      other_calls = c.self.inside.other_calls;
    } in
    let r : Records c.args.self.now new (Write c.args.offset c.args.bytes.now) = record {
      opening = ap (λ (d : Disk). d.opening) e;
      tells = ap (λ (d : Disk). d.tells) e;
      calls = ap (λ (r : Recording). r.calls) c.write.ensures ∙ ap (λ (d : Disk). d.calls ++ Write c.args.offset c.args.bytes.now ∷ []) e;
    } in
    told-write _ _ _ c.args.self.now new c.args.offset c.args.bytes.now r

pub returns-clause-size : goal.returns-clause-size
returns-clause-size c =
    let e = c.self.view_is ∙ c.in_ok-begin_other.ensures.begun in
    let new : Disk = record {
      opening = c.self.inside.opening.items;
      calls = c.write.new.self.calls;
      tells = c.self.inside.tells;
      left = c.write.new.self.left;
      room = c.write.new.self.room;
      full = c.self.inside.full;
      faults = c.self.inside.faults;
      reads = c.self.inside.reads;
      other_calls = c.self.inside.other_calls;
    } in
    let r : Records c.args.self.now new (Write c.args.offset c.args.bytes.now) = record {
      opening = ap (λ (d : Disk). d.opening) e;
      tells = ap (λ (d : Disk). d.tells) e;
      calls = ap (λ (r : Recording). r.calls) c.write.ensures ∙ ap (λ (d : Disk). d.calls ++ Write c.args.offset c.args.bytes.now ∷ []) e;
    } in
    size-write c.args.self.now new c.args.offset c.args.bytes.now r c.requires.inside

pub returns-clause-crash : goal.returns-clause-crash
returns-clause-crash c =
    let e = c.self.view_is ∙ c.in_ok-begin_other.ensures.begun in
    let new : Disk = record {
      opening = c.self.inside.opening.items;
      calls = c.write.new.self.calls;
      tells = c.self.inside.tells;
      left = c.write.new.self.left;
      room = c.write.new.self.room;
      full = c.self.inside.full;
      faults = c.self.inside.faults;
      reads = c.self.inside.reads;
      other_calls = c.self.inside.other_calls;
    } in
    let r : Records c.args.self.now new (Write c.args.offset c.args.bytes.now) = record {
      opening = ap (λ (d : Disk). d.opening) e;
      tells = ap (λ (d : Disk). d.tells) e;
      calls = ap (λ (r : Recording). r.calls) c.write.ensures ∙ ap (λ (d : Disk). d.calls ++ Write c.args.offset c.args.bytes.now ∷ []) e;
    } in
    let same : images c.args.self.now ≡ record { flushed = c.self.inside.flushed.items; now = c.self.inside.now.items } =
    ap images (sym (c.self.view_is ∙ c.in_ok-begin_other.ensures.begun)) ∙ c.self.invariant.images in
    let lens = kept_lens c.self.inside.opening.items c.self.inside.journal.calls c.self.inside.flushed.items c.self.inside.now.items c.self.invariant in
    crash-write c.args.self.now new c.args.offset c.args.bytes.now r
    (subst (λ (d : SectorImages). length d.flushed ≡ length d.now) (sym same) (lens.0 ∙ sym lens.1)) c.requires.inside
