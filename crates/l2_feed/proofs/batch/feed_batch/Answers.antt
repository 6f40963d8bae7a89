use Rattle.std.proofs.Common.{◌++◌, refl, arith}
use Rattle.l2_feed.proofs.Acted.{acts_append}
use Rattle.vdev_io.proofs.CallLemmas.{calls_behind}
use Rattle.l2_feed.proofs.Crashing.{keeps_then}
use Rattle.l2_feed.specs.Runs.{batch_len}
use Rattle.l2_feed.proofs.Batches.{batch_counts, batch_failed, batch_written, begun_room, clears_none, runs_none}
use Rattle.l2_feed.proofs.Counting.{left-none}
use Rattle.l2_feed.proofs.batch.feed_batch.Goals as goal

pub returns-in-Err-clause-acts : goal.returns-in-Err-clause-acts
returns-in-Err-clause-acts g c =
    let e = c.in-Err.ensures.acts in
    let l = c.leave_all.ensures.acts in
    let n = left-none _ c.args.blocks.now l.0 l.2 in
    let b = batch_failed c.args.l2.now.cursor c.begin_batch-begun.new.l2.cursor c.args.blocks.now e.0 l.0 e.1 c.in-Err.fault c.requires.some e.5 l.2 in (
      e.0,
      l.0,
      acts_append g.C.Keeps c.args.arcs.now.config e.0 l.0 c.args.party.now c.begin_batch-begun.new.party c.leave_all.new.party e.2 l.1,
      batch_counts e.0 l.0 c.args.report.now _ (clears_none _ _ _ e.0 _ _ e.5) (n.0, n.1) refl refl (let z = n.2 in omega arith) e.3,
      b.0,
      e.1,
      e.4,
      b.1,
    )

pub returns-clause-acts : goal.returns-clause-acts
returns-clause-acts g c =
    let e = c.in_default.ensures.acts in
    let r = c.write_runs.ensures.acts in
    let b = batch_written c.args.l2.now.cursor c.begin_batch-begun.new.l2.cursor c.write_runs.new.l2.cursor c.args.blocks.now e.0 r.0 e.1 r.4 _ _ e.5 r.3 r.6 in (
      e.0,
      r.0,
      acts_append g.C.Keeps c.args.arcs.now.config e.0 r.0 c.args.party.now c.begin_batch-begun.new.party c.write_runs.new.party e.2 r.1,
      batch_counts e.0 r.0 c.args.report.now _ (clears_none _ _ _ e.0 _ _ e.5) (runs_none _ _ c.args.blocks.now r.0 _ r.3) refl refl r.2 e.3,
      b.0,
      e.1 ++ r.4,
      calls_behind g.D.CacheDev e.1 r.4 c.args.l2.now.dev c.begin_batch-begun.new.l2.dev c.write_runs.new.l2.dev e.4 r.5,
      b.1,
    )

pub returns-in-Err-clause-crash : goal.returns-in-Err-clause-crash
returns-in-Err-clause-crash g c = c.in-Err.ensures.crash

pub returns-clause-crash : goal.returns-clause-crash
returns-clause-crash g c below =
    let d = g.D.CacheDev in
    let lap = c.write_runs.ensures.acts.3.numbers.lap in
    keeps_then d.told d.has_sectors d.may_leave c.args.l2.now.dev c.begin_batch-begun.new.l2.dev c.write_runs.new.l2.dev c.args.l2.now.cursor c.begin_batch-begun.new.l2.cursor c.write_runs.new.l2.cursor c.write_runs.result
    (c.in_default.ensures.crash (omega arith)) c.write_runs.ensures.crash

pub write_runs-requires-clause-room : goal.write_runs-requires-clause-room
write_runs-requires-clause-room g c = λ _ _. let e = c.in_default.ensures.acts in begun_room c.args.l2.now.cursor c.begin_batch-begun.new.l2.cursor (batch_len c.args.blocks.now) e.0 e.1 _ e.5
