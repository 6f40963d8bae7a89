use Rattle.std.proofs.Common.{ℕ, List, ◌+◌, Ok, Err, Some, ap, ◌∙◌, arith}
use Rattle.std.proofs.lemmas.List.{drop_all}
use Rattle.std.proofs.lemmas.Result.{err_from_is_err_and}
use Rattle.blk_ptr.specs.Ptr.{sha256_of}
use Rattle.blk_ptr.specs.declared.key.Key.{Key}
use Rattle.arc_table.specs.declared.picks.Picked.{Picked as Block}
use Rattle.l2_feed.proofs.Asking.{puts_end, puts_more, puts_stop}
use Rattle.l2_feed.proofs.Crashing.{own_then, put_keeps, some_then}
use Rattle.l2_feed.proofs.Writing.{put_turn}
use Rattle.l2_feed.proofs.runs.put_all.Goals as goal

pub returns-in_err-put-clause-asks : goal.returns-in_err-put-clause-asks
returns-in_err-put-clause-asks g c =
    let d = g.D.CacheDev in
    let e = err_from_is_err_and c.from_residual.result c.from_residual.ensures.1 in
    rw (e.1, e.2) (puts_stop d c.args.run.now c.loop-picked.picked-index c.picked-item.result c.deref.result.now c.args.l2.now.cursor c.loop-picked.l2.cursor c.args.l2.now.dev c.loop-picked.l2.dev c.put.new.self.dev c.loop-picked-test.true
    (c.deref.ensures ∙ ap (λ (b : Block). b.block.value) c.picked-item.is) c.loop-picked.invariant.asks (Unit {0}) c.in_err-put.field-0.0 c.in_err-put.ensures.calls)

pub returns-in_err-put-clause-crash : goal.returns-in_err-put-clause-crash
returns-in_err-put-clause-crash g c =
    let d = g.D.CacheDev in
    let e = err_from_is_err_and c.from_residual.result c.from_residual.ensures.1 in
    rw e.1 (some_then d.told d.has_sectors d.may_leave c.args.l2.now.dev c.loop-picked.l2.dev c.put.new.self.dev c.args.l2.now.cursor c.loop-picked.l2.cursor c.put.new.self.cursor c.loop-picked.invariant.crash
    (put_keeps d.told d.has_sectors d.may_leave d.moment d.left_since c.loop-picked.l2.dev c.put.new.self.dev c.loop-picked.l2.cursor c.put.new.self.cursor c.picked-item.result.key c.deref.result.now (Err c.in_err-put.field-0.0) c.in_err-put.ensures.crash))

pub loop-picked-preserved : goal.loop-picked-preserved
loop-picked-preserved g c =
    let d = g.D.CacheDev in
    let was = c.loop-picked.invariant in
    let e = c.in_ok-put.ensures.pending in
    let is = c.picked-item.is in
    record {
      size = c.in_ok-put.ensures.size ∙ was.size;
      faults = (let a = c.in_ok-put.ensures.cause.kept in let b = was.faults in omega arith);
      asks = puts_more d c.args.run.now c.loop-picked.picked-index c.picked-item.result c.deref.result.now c.args.l2.now.cursor c.loop-picked.l2.cursor c.args.l2.now.dev c.loop-picked.l2.dev c.put.new.self.dev c.loop-picked-test.true
          (c.deref.ensures ∙ ap (λ (b : Block). b.block.value) is) was.asks c.put.new.self.cursor (e.4.hand ∙ ap (λ (k : Key). c.loop-picked.l2.cursor.ring.hand + k.size) (e.1 ∙ ap (λ (b : Block). b.key) is)) c.in_ok-put.ensures.calls;
      crash = own_then d.told d.has_sectors d.may_leave c.args.l2.now.dev c.loop-picked.l2.dev c.put.new.self.dev c.args.l2.now.cursor c.loop-picked.l2.cursor c.put.new.self.cursor was.crash
          (put_keeps d.told d.has_sectors d.may_leave d.moment d.left_since c.loop-picked.l2.dev c.put.new.self.dev c.loop-picked.l2.cursor c.put.new.self.cursor _ _ (Ok _) c.in_ok-put.ensures.crash);
      so = put_turn c.args.run.now c.loop-picked.picked-index c.picked-item.result c.args.l2.now.cursor c.loop-picked.l2.cursor c.loop-picked-test.true was.so c.put.new.self.cursor e.0
          (e.1 ∙ ap (λ (b : Block). b.key) is) e.2 (e.3 ∙ (ap (λ (bytes : List ℕ). Some (sha256_of bytes)) c.deref.ensures ∙ ap (λ (b : Block). Some (sha256_of b.block.value)) is)) e.4;
    }

pub returns-clause-asks : goal.returns-clause-asks
returns-clause-asks g c =
    puts_end g.D.CacheDev {T = Unit {0}} tt c.args.run.now c.loop-picked.picked-index c.args.l2.now.cursor c.loop-picked.l2.cursor c.args.l2.now.dev c.loop-picked.l2.dev (drop_all c.loop-picked.picked-index c.args.run.now c.loop-picked-test.false) c.loop-picked.invariant.asks
