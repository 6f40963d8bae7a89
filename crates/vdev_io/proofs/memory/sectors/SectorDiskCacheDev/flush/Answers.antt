-- A flush that is not refused is recorded, and both images are one then.
use Rattle.std.proofs.Common.{◌∷◌, [], ◌++◌, List, ℕ, sym, ap, subst, ◌∙◌, arith}
use Rattle.std.proofs.lemmas.Grind.{common_steps}
use Rattle.vdev_io.specs.Journal.{Recording}
use Rattle.vdev_io.specs.SectorDisk.{Disk, DiskCall, Flush, KeepsImages}
use Rattle.vdev_io.proofs.DiskLemmas.{Records, kept_lens, keeps-flush, told-flush, size-flush, durable-flush, crash-flush}
use Rattle.vdev_io.proofs.memory.sectors.SectorDiskCacheDev.flush.Goals as goal

pub copy_from_slice-requires : goal.copy_from_slice-requires
copy_from_slice-requires c =
    let lens = kept_lens c.self.inside.opening.items c.self.inside.journal.calls c.self.inside.flushed.items c.self.inside.now.items c.self.invariant in
    grind (arith, common_steps, lens.0, lens.1)

pub invariant_of-self : goal.invariant_of-self
invariant_of-self c =
    subst (λ (calls : List DiskCall). KeepsImages c.self.inside.opening.items calls c.copy_from_slice.new.self.items c.self.inside.now.items)
    (sym (ap (λ (r : Recording). r.calls) c.flush.ensures))
    (subst (λ (image : List ℕ). KeepsImages c.self.inside.opening.items (c.self.inside.journal.calls ++ Flush ∷ []) image c.self.inside.now.items)
    (sym (c.copy_from_slice.ensures.items ∙ c.deref.ensures.value))
    (keeps-flush c.self.inside.opening.items c.self.inside.journal.calls c.self.inside.flushed.items c.self.inside.now.items c.self.invariant))

pub returns-clause-durable : goal.returns-clause-durable
returns-clause-durable c =
    let e = c.self.view_is ∙ c.in_ok-begin_other.ensures.begun in
    let new : Disk = record {
      opening = c.self.inside.opening.items;
      calls = c.flush.new.self.calls;
      tells = c.self.inside.tells;
      left = c.flush.new.self.left;
      room = c.flush.new.self.room;
      full = c.self.inside.full;
      faults = c.self.inside.faults;
      reads = c.self.inside.reads;
      other_calls = c.self.inside.other_calls;
    } in
    let r : Records c.args.self.now new Flush = record {
      opening = ap (λ (d : Disk). d.opening) e;
      tells = ap (λ (d : Disk). d.tells) e;
      calls = ap (λ (r : Recording). r.calls) c.flush.ensures ∙ ap (λ (d : Disk). d.calls ++ Flush ∷ []) e;
    } in
    durable-flush c.args.self.now new r

pub returns-clause-told : goal.returns-clause-told
returns-clause-told c =
    let e = c.self.view_is ∙ c.in_ok-begin_other.ensures.begun in
    let new : Disk = record {
      opening = c.self.inside.opening.items;
      calls = c.flush.new.self.calls;
      tells = c.self.inside.tells;
      left = c.flush.new.self.left;
      room = c.flush.new.self.room;
      full = c.self.inside.full;
      faults = c.self.inside.faults;
      reads = c.self.inside.reads;
      other_calls = c.self.inside.other_calls;
    } in
    let r : Records c.args.self.now new Flush = record {
      opening = ap (λ (d : Disk). d.opening) e;
      tells = ap (λ (d : Disk). d.tells) e;
      calls = ap (λ (r : Recording). r.calls) c.flush.ensures ∙ ap (λ (d : Disk). d.calls ++ Flush ∷ []) e;
    } in
    told-flush c.args.self.now new r

pub returns-clause-size : goal.returns-clause-size
returns-clause-size c =
    let e = c.self.view_is ∙ c.in_ok-begin_other.ensures.begun in
    let new : Disk = record {
      opening = c.self.inside.opening.items;
      calls = c.flush.new.self.calls;
      tells = c.self.inside.tells;
      left = c.flush.new.self.left;
      room = c.flush.new.self.room;
      full = c.self.inside.full;
      faults = c.self.inside.faults;
      reads = c.self.inside.reads;
      other_calls = c.self.inside.other_calls;
    } in
    let r : Records c.args.self.now new Flush = record {
      opening = ap (λ (d : Disk). d.opening) e;
      tells = ap (λ (d : Disk). d.tells) e;
      calls = ap (λ (r : Recording). r.calls) c.flush.ensures ∙ ap (λ (d : Disk). d.calls ++ Flush ∷ []) e;
    } in
    size-flush c.args.self.now new r

pub returns-clause-crash : goal.returns-clause-crash
returns-clause-crash c =
    let e = c.self.view_is ∙ c.in_ok-begin_other.ensures.begun in
    let new : Disk = record {
      opening = c.self.inside.opening.items;
      calls = c.flush.new.self.calls;
      tells = c.self.inside.tells;
      left = c.flush.new.self.left;
      room = c.flush.new.self.room;
      full = c.self.inside.full;
      faults = c.self.inside.faults;
      reads = c.self.inside.reads;
      other_calls = c.self.inside.other_calls;
    } in
    let r : Records c.args.self.now new Flush = record {
      opening = ap (λ (d : Disk). d.opening) e;
      tells = ap (λ (d : Disk). d.tells) e;
      calls = ap (λ (r : Recording). r.calls) c.flush.ensures ∙ ap (λ (d : Disk). d.calls ++ Flush ∷ []) e;
    } in
    crash-flush c.args.self.now new r
