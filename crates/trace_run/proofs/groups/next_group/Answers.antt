use Rattle.std.proofs.Common.{◌≡◌, ℕ, suc, ◌+◌, ◌<◌, ◌≤◌, List, Some, length, vec_len, refl, sym, ap, ◌∙◌, subst, arith, rules}
use Rattle.std.specs.Prelude.{slice_get, slice_range}
use Rattle.std.proofs.lemmas.Option.{slice_get_read}
use Rattle.blk_ptr.specs.declared.ptr.Ptr.{Ptr}
use Rattle.vdev_io.specs.Faults.{Rose, counted_more, last_count}
use Rattle.arc_core.specs.declared.config.Config.{Config}
use Rattle.dbuf_cells.specs.Turns.{dbuf_meanings}
use Rattle.trace_text.specs.declared.op.Op.{Op}
use Rattle.trace_run.specs.callers.Callers.{AreAtStart}
use Rattle.trace_run.specs.callers.InOrder.{AreInGroup}
use Rattle.trace_run.specs.callers.Together.{ForkFailed, between_groups}
use Rattle.trace_run.specs.Tally.{AreDeclared}
use Rattle.trace_run.proofs.callers.BesideLemmas.{fed-idle}
use Rattle.trace_run.proofs.callers.EndLineLemmas.{unused-by}
use Rattle.trace_run.proofs.callers.GroupRunLemmas.{come-named, may-start}
use Rattle.trace_run.proofs.callers.InUse.{tried-in-use}
use Rattle.trace_run.proofs.callers.StepLemmas.{next-ended, next-forked, next-halted, next-last, next-may, next-number, next-still, next-sync, range-declared, range-group}
use Rattle.trace_run.proofs.groups.next_group.Goals as goal

-- ---- the lines of the group

pub lines_at_once-requires-clause-start : goal.lines_at_once-requires-clause-start
lines_at_once-requires-clause-start g c κs within =
    let come = c.requires.between.4.reached.come in
    subst (λ (bs : List Ptr). AreAtStart c.args.arcs.now bs 0 c.args.crew.kept.items c.args.crew.parties.items) (sym c.as_slice-blocks.ensures)
    (may-start c.args.arcs.now _ _ _ _ c.args.trace.now.blocks _ _ _ c.args.crew come (come-named c.args.arcs.now _ _ _ _ c.args.trace.now.blocks _ _ _ c.args.crew come))

pub lines_at_once-requires-clause-declared : goal.lines_at_once-requires-clause-declared
lines_at_once-requires-clause-declared g c κs within =
    subst (λ (x : List Ptr × List Op). AreDeclared (length x.0) (slice_range x.1 c.len-first.result c.group_end-to.result)) (λ i. (sym c.as_slice-blocks.ensures i, sym c.as_slice-ops.ensures i))
    (range-declared c.args.trace.now c.requires.formed c.len-first.result c.group_end-to.result)

pub lines_at_once-requires-clause-group : goal.lines_at_once-requires-clause-group
lines_at_once-requires-clause-group g c κs within =
    let many : c.args.trace.now.config.callers ≡ vec_len c.args.crew.parties =
    let parties = c.requires.between.4.reached.come.parties in let long = c.args.crew.parties.ok.0 in let same = ap (λ (x : Config). x.callers) c.requires.config in omega (arith, parties, long, same) in
    subst (λ (x : ℕ × List Op). AreInGroup x.0 (slice_range x.1 c.len-first.result c.group_end-to.result)) (λ i. (many i, sym c.as_slice-ops.ensures i))
    (range-group c.args.trace.now c.requires.formed c.len-first.result c.group_end-to.result
    (λ k op low high here. c.group_end-to.ensures.inside k op low high (ap (λ (l : List Op). slice_get l k) c.as_slice-ops.ensures ∙ here)))

pub lines_at_once-requires-clause-feeder : goal.lines_at_once-requires-clause-feeder
lines_at_once-requires-clause-feeder g c κs within = fed-idle c.args.arcs.now c.args.crew.feeder.own.about.openings _ _ _ _ c.args.crew.feeder c.requires.between.4.reached.come.feeder

-- ---- the trace ends with them

pub returns-in_default-clause-did : goal.returns-in_default-clause-did
returns-in_default-clause-did g c = λ start restored was work between.
    let first : c.len-first.result ≡ length c.args.replies.now.items = let is = c.len-first.ensures in let long = c.args.replies.now.ok.0 in omega (arith, is, long) in
    let unused = unused-by g.P.Pool c.args.arcs.now.config c.args.trace.now.config c.args.pool.now c.forks.new.pool c.requires.config c.forks.ensures.pool c.in-Ok.ensures.unread c.in-Ok.ensures.unfailed c.in-Ok.ensures.others in
    next-last c.args.arcs.now restored g.P.Pool g.D.CacheDev c.args.trace.now c.requires.formed c.requires.config start (between_groups c.args.pool.now c.args.syncs.group c.args.syncs.next) was c.forks.new.pool c.lines_at_once.new.pool c.args.device.now c.lines_at_once.new.device
    c.args.replies.now.items c.in_ok-crew.answered.items work c.args.crew c.in_ok-crew.crew c.len-first.result c.group_end-to.result c.as_slice-blocks.result.now c.as_slice-ops.result.now c.as_slice-blocks.ensures c.as_slice-ops.ensures first
    c.group_end-to.ensures.range.0 c.group_end-to.ensures.range.1 c.group_end-to.ensures.inside between (let more = c.requires.more in let long = c.args.replies.now.ok.0 in omega (arith, more, long)) unused c.in_ok-crew.ensures.did c.in_ok-crew.ensures.feeder c.lines_at_once.ensures.pool c.in_default.ensures.lookup.3 c.append.new.replies.items c.in_ok-append.ensures

-- ---- the line that ends them

pub end_line-requires-clause-may : goal.end_line-requires-clause-may
end_line-requires-clause-may g c κs within =
    let first : c.len-first.result ≡ length c.args.replies.now.items = let is = c.len-first.ensures in let long = c.args.replies.now.ok.0 in omega (arith, is, long) in
    let unused = unused-by g.P.Pool c.args.arcs.now.config c.args.trace.now.config c.args.pool.now c.forks.new.pool c.requires.config c.forks.ensures.pool c.in-Ok.ensures.unread c.in-Ok.ensures.unfailed c.in-Ok.ensures.others in
    next-may c.args.arcs.now c.requires.between.1 g.P.Pool g.D.CacheDev c.args.trace.now c.requires.formed c.requires.config c.requires.between.0 (between_groups c.args.pool.now c.args.syncs.group c.args.syncs.next) c.requires.between.2 c.forks.new.pool c.lines_at_once.new.pool c.args.device.now c.lines_at_once.new.device
    c.args.replies.now.items c.in_ok-crew.answered.items c.requires.between.3 c.args.crew c.in_ok-crew.crew c.len-first.result c.group_end-to.result c.as_slice-blocks.result.now c.as_slice-ops.result.now c.as_slice-blocks.ensures c.as_slice-ops.ensures first
    c.group_end-to.ensures.range.0 c.group_end-to.ensures.range.1 c.group_end-to.ensures.inside c.requires.between.4 (let more = c.requires.more in let long = c.args.replies.now.ok.0 in omega (arith, more, long)) unused c.in_ok-crew.ensures.did c.in_ok-crew.ensures.feeder c.lines_at_once.ensures.pool c.requires.rows

pub end_line-requires-clause-feeder : goal.end_line-requires-clause-feeder
end_line-requires-clause-feeder g c κs within =
    let first : c.len-first.result ≡ length c.args.replies.now.items = let is = c.len-first.ensures in let long = c.args.replies.now.ok.0 in omega (arith, is, long) in
    let unused = unused-by g.P.Pool c.args.arcs.now.config c.args.trace.now.config c.args.pool.now c.forks.new.pool c.requires.config c.forks.ensures.pool c.in-Ok.ensures.unread c.in-Ok.ensures.unfailed c.in-Ok.ensures.others in
    next-number c.args.arcs.now c.requires.between.1 g.P.Pool g.D.CacheDev c.args.trace.now c.requires.formed c.requires.config c.requires.between.0 (between_groups c.args.pool.now c.args.syncs.group c.args.syncs.next) c.requires.between.2 c.forks.new.pool c.lines_at_once.new.pool c.args.device.now c.lines_at_once.new.device
    c.args.replies.now.items c.in_ok-crew.answered.items c.requires.between.3 c.args.crew c.in_ok-crew.crew c.len-first.result c.group_end-to.result c.as_slice-blocks.result.now c.as_slice-ops.result.now c.as_slice-blocks.ensures c.as_slice-ops.ensures first
    c.group_end-to.ensures.range.0 c.group_end-to.ensures.range.1 c.group_end-to.ensures.inside c.requires.between.4 (let more = c.requires.more in let long = c.args.replies.now.ok.0 in omega (arith, more, long)) unused c.in_ok-crew.ensures.did c.in_ok-crew.ensures.feeder c.lines_at_once.ensures.pool

pub end_line-requires-clause-ends : goal.end_line-requires-clause-ends
end_line-requires-clause-ends g c κs within =
    let here : slice_get c.as_slice-ops.result.now c.group_end-to.result ≡ Some c.in-Some.op.now = slice_get_read c.as_slice-ops.result.now _ c.group_end-to.result c.in-Some.op.now refl c.in-Some.ensures.lookup.3.0 c.in-Some.ensures.lookup.1 in
    c.group_end-to.ensures.end c.in-Some.op.now here

pub end_line-requires-clause-sync : goal.end_line-requires-clause-sync
end_line-requires-clause-sync g c κs within =
    let first : c.len-first.result ≡ length c.args.replies.now.items = let is = c.len-first.ensures in let long = c.args.replies.now.ok.0 in omega (arith, is, long) in
    let unused = unused-by g.P.Pool c.args.arcs.now.config c.args.trace.now.config c.args.pool.now c.forks.new.pool c.requires.config c.forks.ensures.pool c.in-Ok.ensures.unread c.in-Ok.ensures.unfailed c.in-Ok.ensures.others in
    next-sync c.args.arcs.now c.requires.between.1 g.P.Pool g.D.CacheDev c.args.trace.now c.requires.formed c.requires.config c.requires.between.0 (between_groups c.args.pool.now c.args.syncs.group c.args.syncs.next) c.requires.between.2 c.forks.new.pool c.lines_at_once.new.pool c.args.device.now c.lines_at_once.new.device
    c.args.replies.now.items c.in_ok-crew.answered.items c.requires.between.3 c.args.crew c.in_ok-crew.crew c.len-first.result c.group_end-to.result c.as_slice-blocks.result.now c.as_slice-ops.result.now c.as_slice-blocks.ensures c.as_slice-ops.ensures first
    c.group_end-to.ensures.range.0 c.group_end-to.ensures.range.1 c.group_end-to.ensures.inside c.requires.between.4 (let more = c.requires.more in let long = c.args.replies.now.ok.0 in omega (arith, more, long)) unused c.in_ok-crew.ensures.did c.in_ok-crew.ensures.feeder c.lines_at_once.ensures.pool

pub returns-in_ok-push-in-Ok-came-clause-did : goal.returns-in_ok-push-in-Ok-came-clause-did
returns-in_ok-push-in-Ok-came-clause-did g c = λ start restored was work between.
    let first : c.len-first.result ≡ length c.args.replies.now.items = let is = c.len-first.ensures in let long = c.args.replies.now.ok.0 in omega (arith, is, long) in
    let unused = unused-by g.P.Pool c.args.arcs.now.config c.args.trace.now.config c.args.pool.now c.forks.new.pool c.requires.config c.forks.ensures.pool c.in-Ok.ensures.unread c.in-Ok.ensures.unfailed c.in-Ok.ensures.others in
    let here : slice_get c.as_slice-ops.result.now c.group_end-to.result ≡ Some c.in-Some.op.now = slice_get_read c.as_slice-ops.result.now _ c.group_end-to.result c.in-Some.op.now refl c.in-Some.ensures.lookup.3.0 c.in-Some.ensures.lookup.1 in
    next-ended c.args.arcs.now restored g.P.Pool g.D.CacheDev c.args.trace.now c.requires.formed c.requires.config start (between_groups c.args.pool.now c.args.syncs.group c.args.syncs.next) was c.forks.new.pool c.lines_at_once.new.pool c.args.device.now c.lines_at_once.new.device
    c.args.replies.now.items c.in_ok-crew.answered.items work c.args.crew c.in_ok-crew.crew c.len-first.result c.group_end-to.result c.as_slice-blocks.result.now c.as_slice-ops.result.now c.as_slice-blocks.ensures c.as_slice-ops.ensures first
    c.group_end-to.ensures.range.0 c.group_end-to.ensures.range.1 c.group_end-to.ensures.inside between (let more = c.requires.more in let long = c.args.replies.now.ok.0 in omega (arith, more, long)) unused c.in_ok-crew.ensures.did c.in_ok-crew.ensures.feeder c.lines_at_once.ensures.pool
    c.in-Some.op.now here c.in_ok-crew-2.crew (between_groups c.end_line.new.pool c.in_ok-crew-2.syncs.group c.in_ok-crew-2.syncs.next) c.in_ok-crew-2.came c.in-Ok-came.reply c.in-Ok-came.is c.in_ok-crew-2.ensures.did c.append.new.replies.items c.push.new.self.items c.in_ok-append.ensures c.in_ok-push-in-Ok-came.ensures.items

pub returns-in-Err-clause-did : goal.returns-in-Err-clause-did
returns-in-Err-clause-did g c = λ start restored was work between.
    let first : c.len-first.result ≡ length c.args.replies.now.items = let is = c.len-first.ensures in let long = c.args.replies.now.ok.0 in omega (arith, is, long) in
    let unused = unused-by g.P.Pool c.args.arcs.now.config c.args.trace.now.config c.args.pool.now c.forks.new.pool c.requires.config c.forks.ensures.pool c.in-Ok.ensures.unread c.in-Ok.ensures.unfailed c.in-Ok.ensures.others in
    let here : slice_get c.as_slice-ops.result.now c.group_end-to.result ≡ Some c.in-Some.op.now = slice_get_read c.as_slice-ops.result.now _ c.group_end-to.result c.in-Some.op.now refl c.in-Some.ensures.lookup.3.0 c.in-Some.ensures.lookup.1 in
    next-halted c.args.arcs.now restored g.P.Pool g.D.CacheDev c.args.trace.now c.requires.formed c.requires.config start (between_groups c.args.pool.now c.args.syncs.group c.args.syncs.next) was c.forks.new.pool c.lines_at_once.new.pool c.args.device.now c.lines_at_once.new.device
    c.args.replies.now.items c.in_ok-crew.answered.items work c.args.crew c.in_ok-crew.crew c.len-first.result c.group_end-to.result c.as_slice-blocks.result.now c.as_slice-ops.result.now c.as_slice-blocks.ensures c.as_slice-ops.ensures first
    c.group_end-to.ensures.range.0 c.group_end-to.ensures.range.1 c.group_end-to.ensures.inside between (let more = c.requires.more in let long = c.args.replies.now.ok.0 in omega (arith, more, long)) unused c.in_ok-crew.ensures.did c.in_ok-crew.ensures.feeder c.lines_at_once.ensures.pool
    c.in-Some.op.now here c.in_ok-crew-2.crew (between_groups c.end_line.new.pool c.in_ok-crew-2.syncs.group c.in_ok-crew-2.syncs.next) c.in_ok-crew-2.came c.in-Err.ending c.in-Err.is c.in_ok-crew-2.ensures.did c.append.new.replies.items c.in_ok-append.ensures

-- ---- a fork failed

pub returns-in-Err-Failed-clause-did : goal.returns-in-Err-Failed-clause-did
returns-in-Err-Failed-clause-did g c = λ start restored was work between.
    let P = g.P.Pool in
    let old = c.args.pool.now in
    let new = c.forks.new.pool in
    let leaves = c.forks.ensures.pool in
    let reads : P.reads old ≤ last_count → P.reads new ≡ P.reads old = search rules in
    let faults : P.faults old < last_count → P.faults new ≡ P.faults old + 1 = search rules in
    let rose : Rose (P.faults old) (P.faults new) = search rules in
    let made : (made : ℕ) × (made < c.args.trace.now.config.callers) × (P.other_calls new ≡ counted_more (suc made) (P.other_calls old)) = search rules in
    let failed : ForkFailed P c.args.arcs.now.config.callers old new = record {
      size = leaves.size;
      told = leaves.told;
      reads = reads;
      faults = faults;
      rose = rose;
      made = made.0;
      some = let same = ap (λ (x : Config). x.callers) c.requires.config in let few = made.1 in omega (arith, same, few);
      others = made.2;
    } in
    next-forked c.args.arcs.now restored g.P.Pool g.D.CacheDev c.args.trace.now start (between_groups c.args.pool.now c.args.syncs.group c.args.syncs.next) was c.args.device.now c.forks.new.pool c.args.replies.now.items work c.args.crew between
    (let more = c.requires.more in let long = c.args.replies.now.ok.0 in omega (arith, more, long)) failed

-- ---- the device

pub returns-in_err-crew-clause-used : goal.returns-in_err-crew-clause-used
returns-in_err-crew-clause-used g c =
    let tried = c.lines_at_once.ensures.tried in
    tried-in-use dbuf_meanings g.D.CacheDev c.args.arcs.now c.args.trace.now.ops c.as_slice-ops.result.now c.as_slice-ops.ensures c.len-first.result c.group_end-to.result c.args.device.now c.lines_at_once.new.device c.args.crew.feeder tried.0 tried.1

pub returns-in_err-append-clause-used : goal.returns-in_err-append-clause-used
returns-in_err-append-clause-used g c =
    let tried = c.lines_at_once.ensures.tried in
    tried-in-use dbuf_meanings g.D.CacheDev c.args.arcs.now c.args.trace.now.ops c.as_slice-ops.result.now c.as_slice-ops.ensures c.len-first.result c.group_end-to.result c.args.device.now c.lines_at_once.new.device c.args.crew.feeder tried.0 tried.1

pub returns-in_default-clause-used : goal.returns-in_default-clause-used
returns-in_default-clause-used g c =
    let tried = c.lines_at_once.ensures.tried in
    tried-in-use dbuf_meanings g.D.CacheDev c.args.arcs.now c.args.trace.now.ops c.as_slice-ops.result.now c.as_slice-ops.ensures c.len-first.result c.group_end-to.result c.args.device.now c.lines_at_once.new.device c.args.crew.feeder tried.0 tried.1

pub returns-in_err-crew-2-clause-used : goal.returns-in_err-crew-2-clause-used
returns-in_err-crew-2-clause-used g c =
    let tried = c.lines_at_once.ensures.tried in
    tried-in-use dbuf_meanings g.D.CacheDev c.args.arcs.now c.args.trace.now.ops c.as_slice-ops.result.now c.as_slice-ops.ensures c.len-first.result c.group_end-to.result c.args.device.now c.lines_at_once.new.device c.args.crew.feeder tried.0 tried.1

pub returns-in_err-push-in-Ok-came-clause-used : goal.returns-in_err-push-in-Ok-came-clause-used
returns-in_err-push-in-Ok-came-clause-used g c =
    let tried = c.lines_at_once.ensures.tried in
    tried-in-use dbuf_meanings g.D.CacheDev c.args.arcs.now c.args.trace.now.ops c.as_slice-ops.result.now c.as_slice-ops.ensures c.len-first.result c.group_end-to.result c.args.device.now c.lines_at_once.new.device c.args.crew.feeder tried.0 tried.1

pub returns-in_ok-push-in-Ok-came-clause-used : goal.returns-in_ok-push-in-Ok-came-clause-used
returns-in_ok-push-in-Ok-came-clause-used g c =
    let tried = c.lines_at_once.ensures.tried in
    tried-in-use dbuf_meanings g.D.CacheDev c.args.arcs.now c.args.trace.now.ops c.as_slice-ops.result.now c.as_slice-ops.ensures c.len-first.result c.group_end-to.result c.args.device.now c.lines_at_once.new.device c.args.crew.feeder tried.0 tried.1

pub returns-in-Err-clause-used : goal.returns-in-Err-clause-used
returns-in-Err-clause-used g c =
    let tried = c.lines_at_once.ensures.tried in
    tried-in-use dbuf_meanings g.D.CacheDev c.args.arcs.now c.args.trace.now.ops c.as_slice-ops.result.now c.as_slice-ops.ensures c.len-first.result c.group_end-to.result c.args.device.now c.lines_at_once.new.device c.args.crew.feeder tried.0 tried.1

-- ---- the pool, where no sync is asked for

pub returns-in_ok-push-in-Ok-came-clause-still : goal.returns-in_ok-push-in-Ok-came-clause-still
returns-in_ok-push-in-Ok-came-clause-still g c =
    let unused = unused-by g.P.Pool c.args.arcs.now.config c.args.trace.now.config c.args.pool.now c.forks.new.pool c.requires.config c.forks.ensures.pool c.in-Ok.ensures.unread c.in-Ok.ensures.unfailed c.in-Ok.ensures.others in
    let here : slice_get c.as_slice-ops.result.now c.group_end-to.result ≡ Some c.in-Some.op.now = slice_get_read c.as_slice-ops.result.now _ c.group_end-to.result c.in-Some.op.now refl c.in-Some.ensures.lookup.3.0 c.in-Some.ensures.lookup.1 in
    next-still g.P.Pool c.args.arcs.now.config.callers c.args.trace.now c.as_slice-ops.result.now c.as_slice-ops.ensures c.args.pool.now c.forks.new.pool c.lines_at_once.new.pool c.end_line.new.pool c.group_end-to.result c.in-Some.op.now here unused c.lines_at_once.ensures.pool c.in_ok-crew-2.ensures.still

pub returns-in_err-push-in-Ok-came-clause-still : goal.returns-in_err-push-in-Ok-came-clause-still
returns-in_err-push-in-Ok-came-clause-still g c =
    let unused = unused-by g.P.Pool c.args.arcs.now.config c.args.trace.now.config c.args.pool.now c.forks.new.pool c.requires.config c.forks.ensures.pool c.in-Ok.ensures.unread c.in-Ok.ensures.unfailed c.in-Ok.ensures.others in
    let here : slice_get c.as_slice-ops.result.now c.group_end-to.result ≡ Some c.in-Some.op.now = slice_get_read c.as_slice-ops.result.now _ c.group_end-to.result c.in-Some.op.now refl c.in-Some.ensures.lookup.3.0 c.in-Some.ensures.lookup.1 in
    next-still g.P.Pool c.args.arcs.now.config.callers c.args.trace.now c.as_slice-ops.result.now c.as_slice-ops.ensures c.args.pool.now c.forks.new.pool c.lines_at_once.new.pool c.end_line.new.pool c.group_end-to.result c.in-Some.op.now here unused c.lines_at_once.ensures.pool c.in_ok-crew-2.ensures.still

pub returns-in-Err-clause-still : goal.returns-in-Err-clause-still
returns-in-Err-clause-still g c =
    let unused = unused-by g.P.Pool c.args.arcs.now.config c.args.trace.now.config c.args.pool.now c.forks.new.pool c.requires.config c.forks.ensures.pool c.in-Ok.ensures.unread c.in-Ok.ensures.unfailed c.in-Ok.ensures.others in
    let here : slice_get c.as_slice-ops.result.now c.group_end-to.result ≡ Some c.in-Some.op.now = slice_get_read c.as_slice-ops.result.now _ c.group_end-to.result c.in-Some.op.now refl c.in-Some.ensures.lookup.3.0 c.in-Some.ensures.lookup.1 in
    next-still g.P.Pool c.args.arcs.now.config.callers c.args.trace.now c.as_slice-ops.result.now c.as_slice-ops.ensures c.args.pool.now c.forks.new.pool c.lines_at_once.new.pool c.end_line.new.pool c.group_end-to.result c.in-Some.op.now here unused c.lines_at_once.ensures.pool c.in_ok-crew-2.ensures.still

pub returns-in_err-crew-2-clause-still : goal.returns-in_err-crew-2-clause-still
returns-in_err-crew-2-clause-still g c =
    let unused = unused-by g.P.Pool c.args.arcs.now.config c.args.trace.now.config c.args.pool.now c.forks.new.pool c.requires.config c.forks.ensures.pool c.in-Ok.ensures.unread c.in-Ok.ensures.unfailed c.in-Ok.ensures.others in
    let here : slice_get c.as_slice-ops.result.now c.group_end-to.result ≡ Some c.in-Some.op.now = slice_get_read c.as_slice-ops.result.now _ c.group_end-to.result c.in-Some.op.now refl c.in-Some.ensures.lookup.3.0 c.in-Some.ensures.lookup.1 in
    next-still g.P.Pool c.args.arcs.now.config.callers c.args.trace.now c.as_slice-ops.result.now c.as_slice-ops.ensures c.args.pool.now c.forks.new.pool c.lines_at_once.new.pool c.end_line.new.pool c.group_end-to.result c.in-Some.op.now here unused c.lines_at_once.ensures.pool c.in_err-crew-2.ensures.still
