use Rattle.std.proofs.Common.{[], ◌∷◌, ◌++◌, List, map, Option, Result, Err, refl, ap, sym, subst, ◌∙◌, arith}
use Rattle.std.proofs.lemmas.List.Elements.{All-same}
use Rattle.std.proofs.lemmas.Result.{IfOk-weaker}
use Rattle.vdev_io.specs.Calls.{DeviceCall, MakesDeviceCalls}
use Rattle.vdev_io.proofs.CallLemmas.{calls_behind}
use Rattle.l2_log.specs.declared.log_block.LogBlock.{LogBlock}
use Rattle.l2_log.specs.declared.pointer.LogPtr.{LogPtr}
use Rattle.l2_ring.specs.declared.live.Written.{Written}
use Rattle.l2_ring.specs.declared.plan.Plan.{Plan}
use Rattle.l2_dev.specs.declared.stop.Stop.{Stop}
use Rattle.l2_dev.specs.declared.stop.Stop.TheVariants as why
use Rattle.l2_dev.specs.declared.walk.WalkEnd.{WalkEnd}
use Rattle.l2_dev.specs.declared.walk.WalkEnd.TheVariants as ends
use Rattle.l2_dev.specs.Asking.{end_reads, visit_read}
use Rattle.l2_dev.specs.Chain.{IsHeld, IsStop, numbers_in}
use Rattle.l2_dev.proofs.ListLaws.{all_append}
use Rattle.l2_dev.specs.Restoring.{valid_of}
use Rattle.l2_dev.specs.Walking.{EndsWith, IsFit, IsOfRebuild, visit_of}
use Rattle.l2_dev.proofs.Walks.{come_nowhere, come_further, come_to_end, end_are_reads, ended_chain, ended_reads, fit_more, reads_err, same_len, rose_from, not_read, read_twice, visit_behind, visits_are_reads, whole_reads}
use Rattle.l2_dev.proofs.walk.walk.Goals as goal

pub loop-next-init : goal.loop-next-init
loop-next-init g c =
    let d = g.D.CacheDev in
    record {
      read = not_read d.size d.told d.has_sectors d.may_leave d.moment d.left_since d.faults c.args.dev.now;
      len = omega (arith, c.in_ok-bytes.ensures.len, c.in_ok-bytes.bytes.ok.0);
      short = omega arith;
      fit = rw c.new-found.ensures.items (λ k e lt. absurd (omega arith));
      come = ([], rw c.new-found.ensures.items (come_nowhere c.args.header.now), refl, λ image told. tt);
    }

pub loop-next-preserved : goal.loop-next-preserved
loop-next-preserved g c =
    let d = g.D.CacheDev in
    let inv = c.loop-next.invariant in
    let so_far = inv.come in
    let header = c.args.header.now in
    let v = visit_of c.in-Some.ptr c.in-Ok.block in
    let short = c.in-Ok.ensures.reached.short in
    let items = c.in_ok-extend_from_slice.ensures.items in
    let valid = c.in_ok-valid.ensures in
    record {
      read = read_twice d.size d.told d.has_sectors d.may_leave d.moment d.left_since d.faults c.args.dev.now c.loop-next.dev c.visit.new.dev inv.read c.visit.ensures.read;
      len = same_len c.loop-next.bytes.len c.visit.new.buf c.loop-next.bytes.items (omega (arith, c.loop-next.bytes.ok.0)) (omega (arith, c.loop-next.bytes.ok.0, c.visit.auto.buf, c.deref_mut.ensures.len, inv.len))
          ∙ omega (arith, c.loop-next.bytes.ok.0, inv.len);
      short = omega arith;
      fit = fit_more (numbers_in header) c.plan_of-plan.result c.loop-next.found.items c.in_ok-valid.valid.items c.deref.result.now c.extend_from_slice.new.self.items c.plan_of-plan.ensures items c.deref.ensures.value inv.fit valid.fit;
      come = (
        so_far.0 ++ v ∷ [],
        come_further header so_far.0 c.in-Some.ptr c.in-Ok.block c.loop-next.next c.loop-next.behind c.loop-next.walked c.loop-next.found.items c.extend_from_slice.new.self.items c.in-Some.is so_far.1
            c.in-Ok.ensures.passed
            (items ∙ ap (λ (ws : List Written). c.loop-next.found.items ++ ws) (c.deref.ensures.value ∙ valid.valid ∙ ap (λ (p : Plan). valid_of p v) c.plan_of-plan.ensures)),
        visit_behind d so_far.0 v c.args.dev.now c.loop-next.dev c.visit.new.dev so_far.2 c.in-Ok.ensures.reads,
        λ image told. all_append (IsHeld image) so_far.0 (v ∷ []) (so_far.3 image told) ((c.in-Ok.ensures.told image (inv.read.told ∙ told)).held, tt),
      );
    }

pub returns-in-Err-clause-chain : goal.returns-in-Err-clause-chain
returns-in-Err-clause-chain g c =
    let d = g.D.CacheDev in
    let inv = c.loop-next.invariant in
    let so_far = inv.come in
    let header = c.args.header.now in
    IfOk-weaker c.ended.result _ _
    (λ w h. (
      so_far.0,
      subst (λ (calls : List DeviceCall). MakesDeviceCalls d calls c.args.dev.now c.visit.new.dev)
          (ended_reads header so_far.0 c.loop-next.next c.loop-next.behind c.loop-next.walked c.loop-next.found.items c.in-Some.ptr c.in-Err.end w.stop so_far.1 c.in-Some.is h.0)
          (calls_behind d (map visit_read so_far.0) (end_reads c.in-Some.ptr c.in-Err.end) c.args.dev.now c.loop-next.dev c.visit.new.dev so_far.2 c.in-Err.ensures.reads),
      λ image told.
          ended_chain image header so_far.0 c.loop-next.next c.loop-next.behind c.loop-next.walked c.loop-next.found.items w.found.items c.in-Err.end w.stop inv.short so_far.1 (so_far.3 image told)
          (subst (λ (o : Option LogPtr). EndsWith (IsStop image header c.loop-next.walked o) c.in-Err.end) (sym c.in-Some.is) (c.in-Err.ensures.told image (inv.read.told ∙ told))) h.0 h.1,
    ))
    c.ended.ensures

pub returns-in-Err-clause-refused : goal.returns-in-Err-clause-refused
returns-in-Err-clause-refused g c =
    let d = g.D.CacheDev in
    let so_far = c.loop-next.invariant.come in
    reads_err d c.args.dev.now c.visit.new.dev c.ended.result (map visit_read so_far.0 ++ end_reads c.in-Some.ptr c.in-Err.end)
    (calls_behind d (map visit_read so_far.0) (end_reads c.in-Some.ptr c.in-Err.end) c.args.dev.now c.loop-next.dev c.visit.new.dev so_far.2 c.in-Err.ensures.reads)
    (end_are_reads so_far.0 c.in-Some.ptr c.in-Err.end)

pub returns-in-Err-clause-fit : goal.returns-in-Err-clause-fit
returns-in-Err-clause-fit g c =
    IfOk-weaker c.ended.result _ _ (λ w h. All-same (IsFit (numbers_in c.args.header.now)) w.found.items c.loop-next.found.items h.1 c.loop-next.invariant.fit) c.ended.ensures

pub returns-in-Err-clause-kind : goal.returns-in-Err-clause-kind
returns-in-Err-clause-kind g c =
    IfOk-weaker c.ended.result _ _ (λ w h. subst (EndsWith IsOfRebuild) h.0 c.in-Err.ensures.kind) c.ended.ensures

pub returns-in-Err-clause-read : goal.returns-in-Err-clause-read
returns-in-Err-clause-read g c =
    let d = g.D.CacheDev in
    read_twice d.size d.told d.has_sectors d.may_leave d.moment d.left_since d.faults c.args.dev.now c.loop-next.dev c.visit.new.dev c.loop-next.invariant.read c.visit.ensures.read

pub returns-in-Err-clause-cause : goal.returns-in-Err-clause-cause
returns-in-Err-clause-cause g c =
    let d = g.D.CacheDev in
    IfOk-weaker c.ended.result _ _
    (λ w h fault.
    rose_from (d.faults c.args.dev.now) (d.faults c.loop-next.dev) (d.faults c.visit.new.dev) c.loop-next.invariant.read.faults
    (c.in-Err.ensures.cause (ap (λ (e : WalkEnd). let r : Result LogBlock WalkEnd = Err e in r) (h.0 ∙ ap (λ (s : Stop). ends.Stop s) fault))))
    c.ended.ensures

pub returns-in_err-valid-clause-read : goal.returns-in_err-valid-clause-read
returns-in_err-valid-clause-read g c =
    let d = g.D.CacheDev in
    read_twice d.size d.told d.has_sectors d.may_leave d.moment d.left_since d.faults c.args.dev.now c.loop-next.dev c.visit.new.dev c.loop-next.invariant.read c.visit.ensures.read

pub returns-in_err-extend_from_slice-clause-read : goal.returns-in_err-extend_from_slice-clause-read
returns-in_err-extend_from_slice-clause-read g c =
    let d = g.D.CacheDev in
    read_twice d.size d.told d.has_sectors d.may_leave d.moment d.left_since d.faults c.args.dev.now c.loop-next.dev c.visit.new.dev c.loop-next.invariant.read c.visit.ensures.read

pub returns-in_err-valid-clause-refused : goal.returns-in_err-valid-clause-refused
returns-in_err-valid-clause-refused g c =
    let d = g.D.CacheDev in
    let so_far = c.loop-next.invariant.come in
    let v = visit_of c.in-Some.ptr c.in-Ok.block in
    reads_err d c.args.dev.now c.visit.new.dev c.from_residual-in_err-valid.result (map visit_read (so_far.0 ++ v ∷ []))
    (visit_behind d so_far.0 v c.args.dev.now c.loop-next.dev c.visit.new.dev so_far.2 c.in-Ok.ensures.reads) (visits_are_reads (so_far.0 ++ v ∷ []))

pub returns-in_err-extend_from_slice-clause-refused : goal.returns-in_err-extend_from_slice-clause-refused
returns-in_err-extend_from_slice-clause-refused g c =
    let d = g.D.CacheDev in
    let so_far = c.loop-next.invariant.come in
    let v = visit_of c.in-Some.ptr c.in-Ok.block in
    reads_err d c.args.dev.now c.visit.new.dev c.from_residual-in_err-extend_from_slice.result (map visit_read (so_far.0 ++ v ∷ []))
    (visit_behind d so_far.0 v c.args.dev.now c.loop-next.dev c.visit.new.dev so_far.2 c.in-Ok.ensures.reads) (visits_are_reads (so_far.0 ++ v ∷ []))

pub returns-in_err-bytes-clause-refused : goal.returns-in_err-bytes-clause-refused
returns-in_err-bytes-clause-refused g c = reads_err g.D.CacheDev c.args.dev.now c.args.dev.now c.from_residual.result [] refl tt

pub overflow_add-walked : goal.overflow_add-walked
overflow_add-walked g c = let short = c.in-Ok.ensures.reached.short in omega arith

pub returns-clause-chain : goal.returns-clause-chain
returns-clause-chain g c =
    let d = g.D.CacheDev in
    let inv = c.loop-next.invariant in
    let so_far = inv.come in (
      so_far.0,
      subst (λ (calls : List DeviceCall). MakesDeviceCalls d calls c.args.dev.now c.loop-next.dev) (whole_reads c.args.header.now so_far.0) so_far.2,
      λ image told.
          come_to_end image c.args.header.now so_far.0 c.loop-next.next c.loop-next.behind c.loop-next.walked c.loop-next.found.items why.Zero inv.short so_far.1 (so_far.3 image told) c.in_default.is,
    )
