use Rattle.std.proofs.Common.{◌≡◌, ◌*◌, ◌<◌, ◌≤◌, ◌+◌, ◌++◌, ℕ, List, length, drop, take, refl, sym, ap, ◌∙◌, subst, arith}
use Rattle.std.proofs.lemmas.List.{drop_all}
use Rattle.arc_table.specs.declared.picks.Picked.{Picked as Block}
use Rattle.l2_feed.specs.Ready.{IsFeeding}
use Rattle.l2_feed.specs.Runs.{AreLeft, AreSet, AreWhole, HasWritten, bytes_of, most, runs_of}
use Rattle.l2_log.specs.Rules.{log_len}
use Rattle.l2_feed.specs.Shape.{stop_of, why_of}
use Rattle.l2_feed.proofs.Asking.{no_runs_asked, runs_asked_end, runs_asked_more, runs_asked_stop}
use Rattle.l2_feed.specs.Asking.{AsksRun, LostCalls, all_gave}
use Rattle.vdev_io.specs.Calls.{Asked}
use Rattle.l2_feed.proofs.Crashing.{own_start, own_then, some_then}
use Rattle.l2_feed.proofs.Writing.{length-take-drop, run_few, run_room, run_whole, run_feeding, runs_end, runs_start, runs_stop, runs_turn}
use Rattle.l2_feed.proofs.batch.write_runs.Goals as goal

pub loop-number-init : goal.loop-number-init
loop-number-init g c = record {
  size = refl;
  faults = omega arith;
  asks = no_runs_asked g.D.CacheDev c.args.blocks.now c.args.l2.now.cursor c.args.l2.now.dev;
  crash = own_start g.D.CacheDev.told g.D.CacheDev.has_sectors g.D.CacheDev.may_leave c.args.l2.now.dev c.args.l2.now.cursor;
  so = runs_start g.C.Keeps c.args.arcs.now c.args.blocks.now c.args.written.now c.args.l2.now.cursor c.args.party.now c.requires.based c.requires.none c.requires.ready c.requires.formed c.requires.room;
}

pub set_run-requires-clause-feeding : goal.set_run-requires-clause-feeding
set_run-requires-clause-feeding g c =
    let m = g.C.Keeps in
    let below : c.loop-number.number < runs_of (length c.args.blocks.now) = (let t = c.loop-number-test.true in let e = c.runs_of-number-end.ensures in omega arith) in
    let left : c.left_after-left.result.now ≡ drop (c.loop-number.number * most) c.args.blocks.now = c.left_after-left.ensures in
    let run : c.run_of-run.result.now ≡ take most (drop (c.loop-number.number * most) c.args.blocks.now) = c.run_of-run.ensures ∙ ap (take most) left in (
      c.requires.feeding.0,
      drop most (drop (c.loop-number.number * most) c.args.blocks.now),
      subst (λ (bs : List Block). IsFeeding c.args.arcs.now c.requires.feeding.0 (bs ++ drop most (drop (c.loop-number.number * most) c.args.blocks.now)) c.loop-number.party) (sym run)
          (run_feeding m c.args.arcs.now c.args.blocks.now c.loop-number.number c.args.written.now c.loop-number.written c.args.l2.now.cursor c.loop-number.l2.cursor c.args.party.now c.loop-number.party below c.loop-number.invariant.so c.requires.feeding.0 c.requires.feeding.1),
    )

pub returns-in-Err-clause-acts : goal.returns-in-Err-clause-acts
returns-in-Err-clause-acts g c =
    let m = g.C.Keeps in
    let below : c.loop-number.number < runs_of (length c.args.blocks.now) = (let t = c.loop-number-test.true in let e = c.runs_of-number-end.ensures in omega arith) in
    let left : c.left_after-left.result.now ≡ drop (c.loop-number.number * most) c.args.blocks.now = c.left_after-left.ensures in
    let run : c.run_of-run.result.now ≡ take most (drop (c.loop-number.number * most) c.args.blocks.now) = c.run_of-run.ensures ∙ ap (take most) left in
    let l = c.leave_all.ensures.acts in
    let a = c.in-Err.ensures.asks in
    let s = runs_stop m c.args.arcs.now c.args.blocks.now c.loop-number.number c.args.written.now c.loop-number.written c.args.l2.now.cursor c.loop-number.l2.cursor c.args.party.now c.loop-number.party below c.loop-number.invariant.so c.write_run.new.l2.cursor c.leave_all.new.party c.in-Err.fault l.0 c.in-Err.ensures.written l.1 (subst (λ (bs : List Block). AreLeft (why_of (stop_of c.in-Err.fault)) bs l.0) left l.2) in
    let r = runs_asked_stop g.D.CacheDev c.args.blocks.now c.loop-number.number s.3.count c.args.l2.now.cursor c.loop-number.l2.cursor c.args.l2.now.dev c.loop-number.l2.dev c.write_run.new.l2.dev c.in-Err.fault s.4
    c.loop-number.invariant.asks a.0 a.1 (subst (λ (bs : List Block). LostCalls c.in-Err.fault c.loop-number.l2.cursor bs a.0) run a.2) in
    (s.0, s.1, s.2, s.3, r.0, r.1, r.2)

pub loop-number-preserved : goal.loop-number-preserved
loop-number-preserved g c =
    let m = g.C.Keeps in
    let below : c.loop-number.number < runs_of (length c.args.blocks.now) = (let t = c.loop-number-test.true in let e = c.runs_of-number-end.ensures in omega arith) in
    let left : c.left_after-left.result.now ≡ drop (c.loop-number.number * most) c.args.blocks.now = c.left_after-left.ensures in
    let run : c.run_of-run.result.now ≡ take most (drop (c.loop-number.number * most) c.args.blocks.now) = c.run_of-run.ensures ∙ ap (take most) left in
    let w = c.in-Ok.ensures.written in
    let s = c.set_run.ensures.acts in
    let a = c.in-Ok.ensures.asks in
    record {
      size = c.in-Ok.ensures.size ∙ c.loop-number.invariant.size;
      faults = (let a = c.in-Ok.ensures.cause.kept in let b = c.loop-number.invariant.faults in omega arith);
      asks = runs_asked_more g.D.CacheDev c.args.blocks.now c.loop-number.number c.args.l2.now.cursor c.loop-number.l2.cursor c.write_run.new.l2.cursor c.args.l2.now.dev c.loop-number.l2.dev c.write_run.new.l2.dev c.loop-number.invariant.asks
          (subst (λ (bs : List Block). HasWritten bs c.loop-number.l2.cursor c.write_run.new.l2.cursor) run w.1) a.0 a.1 (subst (λ (bs : List Block). (asked : List Asked) × AsksRun c.loop-number.l2.cursor bs asked × (a.0 ≡ all_gave asked)) run a.2);
      crash = own_then g.D.CacheDev.told g.D.CacheDev.has_sectors g.D.CacheDev.may_leave c.args.l2.now.dev c.loop-number.l2.dev c.write_run.new.l2.dev c.args.l2.now.cursor c.loop-number.l2.cursor c.write_run.new.l2.cursor c.loop-number.invariant.crash c.in-Ok.ensures.crash;
      so = runs_turn m c.args.arcs.now c.args.blocks.now c.loop-number.number c.args.written.now c.loop-number.written c.args.l2.now.cursor c.loop-number.l2.cursor c.args.party.now c.loop-number.party below c.loop-number.invariant.so c.write_run.new.l2.cursor c.set_run.new.party s.0 c.set_run.result
          (subst (λ (bs : List Block). HasWritten bs c.loop-number.l2.cursor c.write_run.new.l2.cursor) run w.1) s.1
          (subst (λ (x : ℕ × List Block). AreSet x.0 x.1 s.0) (λ i. (w.0 i, run i)) s.2) s.3 (let f = c.set_run.ensures.few in let e = ap length run in omega arith)
          (λ turn behind f. c.set_run.ensures.feeding turn behind (subst (λ (bs : List Block). IsFeeding c.args.arcs.now turn (bs ++ behind) c.loop-number.party) (sym run) f));
    }

pub returns-clause-acts : goal.returns-clause-acts
returns-clause-acts g c =
    let s = runs_end g.C.Keeps c.args.arcs.now c.args.blocks.now c.loop-number.number c.args.written.now c.loop-number.written c.args.l2.now.cursor c.loop-number.l2.cursor c.args.party.now c.loop-number.party
    (drop_all (c.loop-number.number * most) c.args.blocks.now (let t = c.loop-number-test.false in let e = c.runs_of-number-end.ensures in omega arith)) c.loop-number.invariant.so in
    let r = runs_asked_end g.D.CacheDev c.args.blocks.now c.loop-number.number s.3.count c.args.l2.now.cursor c.loop-number.l2.cursor c.args.l2.now.dev c.loop-number.l2.dev s.4 c.loop-number.invariant.asks in
    (s.0, s.1, s.2, s.3, r.0, r.1, r.2)

pub write_run-requires-clause-few : goal.write_run-requires-clause-few
write_run-requires-clause-few g c = λ _ _.
    let m = g.C.Keeps in
    let below : c.loop-number.number < runs_of (length c.args.blocks.now) = (let t = c.loop-number-test.true in let e = c.runs_of-number-end.ensures in omega arith) in
    let left : c.left_after-left.result.now ≡ drop (c.loop-number.number * most) c.args.blocks.now = c.left_after-left.ensures in
    let run : c.run_of-run.result.now ≡ take most (drop (c.loop-number.number * most) c.args.blocks.now) = c.run_of-run.ensures ∙ ap (take most) left in
    subst (λ (bs : List Block). length bs ≤ most) (sym run) (run_few m c.args.arcs.now c.args.blocks.now c.loop-number.number c.args.written.now c.loop-number.written c.args.l2.now.cursor c.loop-number.l2.cursor c.args.party.now c.loop-number.party below c.loop-number.invariant.so)

pub write_run-requires-clause-formed : goal.write_run-requires-clause-formed
write_run-requires-clause-formed g c = λ _ _.
    let m = g.C.Keeps in
    let below : c.loop-number.number < runs_of (length c.args.blocks.now) = (let t = c.loop-number-test.true in let e = c.runs_of-number-end.ensures in omega arith) in
    let left : c.left_after-left.result.now ≡ drop (c.loop-number.number * most) c.args.blocks.now = c.left_after-left.ensures in
    let run : c.run_of-run.result.now ≡ take most (drop (c.loop-number.number * most) c.args.blocks.now) = c.run_of-run.ensures ∙ ap (take most) left in
    subst AreWhole (sym run) (run_whole m c.args.arcs.now c.args.blocks.now c.loop-number.number c.args.written.now c.loop-number.written c.args.l2.now.cursor c.loop-number.l2.cursor c.args.party.now c.loop-number.party below c.loop-number.invariant.so)

pub write_run-requires-clause-room : goal.write_run-requires-clause-room
write_run-requires-clause-room g c = λ _ _.
    let m = g.C.Keeps in
    let below : c.loop-number.number < runs_of (length c.args.blocks.now) = (let t = c.loop-number-test.true in let e = c.runs_of-number-end.ensures in omega arith) in
    let left : c.left_after-left.result.now ≡ drop (c.loop-number.number * most) c.args.blocks.now = c.left_after-left.ensures in
    let run : c.run_of-run.result.now ≡ take most (drop (c.loop-number.number * most) c.args.blocks.now) = c.run_of-run.ensures ∙ ap (take most) left in
    subst (λ (bs : List Block). c.loop-number.l2.cursor.ring.hand + (bytes_of bs + log_len) ≤ c.loop-number.l2.cursor.ring.evict) (sym run) (run_room m c.args.arcs.now c.args.blocks.now c.loop-number.number c.args.written.now c.loop-number.written c.args.l2.now.cursor c.loop-number.l2.cursor c.args.party.now c.loop-number.party below c.loop-number.invariant.so)

pub set_run-requires-clause-few : goal.set_run-requires-clause-few
set_run-requires-clause-few g c =
    let m = g.C.Keeps in
    let below : c.loop-number.number < runs_of (length c.args.blocks.now) = (let t = c.loop-number-test.true in let e = c.runs_of-number-end.ensures in omega arith) in
    let left : c.left_after-left.result.now ≡ drop (c.loop-number.number * most) c.args.blocks.now = c.left_after-left.ensures in
    let run : c.run_of-run.result.now ≡ take most (drop (c.loop-number.number * most) c.args.blocks.now) = c.run_of-run.ensures ∙ ap (take most) left in
    subst (λ (bs : List Block). length bs ≤ most) (sym run) (run_few m c.args.arcs.now c.args.blocks.now c.loop-number.number c.args.written.now c.loop-number.written c.args.l2.now.cursor c.loop-number.l2.cursor c.args.party.now c.loop-number.party below c.loop-number.invariant.so)

pub overflow_add-written : goal.overflow_add-written
overflow_add-written g c =
    let m = g.C.Keeps in
    let below : c.loop-number.number < runs_of (length c.args.blocks.now) = (let t = c.loop-number-test.true in let e = c.runs_of-number-end.ensures in omega arith) in
    let left : c.left_after-left.result.now ≡ drop (c.loop-number.number * most) c.args.blocks.now = c.left_after-left.ensures in
    let run : c.run_of-run.result.now ≡ take most (drop (c.loop-number.number * most) c.args.blocks.now) = c.run_of-run.ensures ∙ ap (take most) left in
    let few = c.set_run.ensures.few in
    let e = ap length run in
    let t = length-take-drop most (drop (c.loop-number.number * most) c.args.blocks.now) in
    let n = c.loop-number.invariant.so.counted in
    let all = c.requires.counted in
    omega arith

pub returns-in-Err-clause-crash : goal.returns-in-Err-clause-crash
returns-in-Err-clause-crash g c =
    some_then g.D.CacheDev.told g.D.CacheDev.has_sectors g.D.CacheDev.may_leave c.args.l2.now.dev c.loop-number.l2.dev c.write_run.new.l2.dev c.args.l2.now.cursor c.loop-number.l2.cursor c.write_run.new.l2.cursor c.loop-number.invariant.crash c.in-Err.ensures.crash
