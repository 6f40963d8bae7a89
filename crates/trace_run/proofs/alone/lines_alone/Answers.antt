use Rattle.std.proofs.Common.{◌≡◌, ◌<◌, ℕ, true, false, List, [], None, Some, map, take, refl, sym, ap, ◌∙◌, subst, arith}
use Rattle.std.specs.Prelude.{slice_get}
use Rattle.std.proofs.lemmas.Option.{slice_get_read}
use Rattle.blk_ptr.specs.declared.ptr.Ptr.{Ptr}
use Rattle.trace_text.specs.declared.op.Op.{Op}
use Rattle.trace_text.specs.declared.reply.Reply.{Reply}
use Rattle.trace_run.specs.callers.CallerLines.{DidLine, DidLines, at}
use Rattle.trace_run.specs.KeptBlocks.{read_of}
use Rattle.trace_run.specs.Lines.{caller_of, is_of_caller}
use Rattle.trace_run.specs.Openings.{openings_of}
use Rattle.trace_run.proofs.AnswerLemmas.{take_one}
use Rattle.trace_run.proofs.CapLemmas.{capped-line, feeder-after}
use Rattle.trace_run.proofs.LinesLemmas.{line-named, lines-all, lines-more}
use Rattle.trace_run.specs.Lines.{shard_of_line}
use Rattle.trace_run.specs.Reads.{now_of}
use Rattle.trace_run.specs.one_caller.Asking.{AsksLine, AsksLines}
use Rattle.trace_run.proofs.one_caller.AskingLemmas.{device-same, device-then}
use Rattle.trace_run.proofs.one_caller.AskingLines.{asks-line, capped-asks}
use Rattle.trace_run.proofs.RunLemmas.{keeps-then}
use Rattle.trace_run.proofs.FurtherLemmas.{nobody-else, off-objects, plain-there}
use Rattle.trace_run.proofs.WorkLemmas.{with-asks, with-plain}
use Rattle.trace_run.proofs.callers.GroupRunLemmas.{all-callers, all-declared}
use Rattle.trace_run.specs.dbufs.ObjectLines.{on_object}
use Rattle.trace_run.specs.callers.WorkLines.{at_work}
use Rattle.arc_table.specs.Reading.{outside}
use Rattle.trace_run.proofs.alone.lines_alone.Goals as goal

-- nothing is done yet
pub loop-number-init : goal.loop-number-init
loop-number-init g c =
    let config = c.args.arcs.now.config in
    let start = at c.args.party (map read_of c.args.kept.now) c.args.pool.now in
    record {
      stands = c.requires.stands;
      named = c.requires.named;
      number = c.requires.number;
      joined = c.requires.joined;
      did = subst (λ (rs : List Reply). DidLines config g.P.Pool c.args.trace.now.blocks [] rs start start) (sym c.new-replies.ensures.items) refl;
      asks = λ all. (
        [],
        subst (λ (rs : List Reply). AsksLines g.D.CacheDev config.shards c.args.trace.now.blocks (λ shard. now_of config shard c.args.party) (map read_of c.args.kept.now) [] rs [] c.args.device.now c.args.device.now)
            (sym c.new-replies.ensures.items) (refl, refl),
      );
      keeps = record { size = refl; told = refl; faults = omega arith; others = refl };
      left = device-same g.D.CacheDev c.args.device.now;
    }

-- a line that is no caller's
pub loop-number-preserved-then-not-is_of_caller : goal.loop-number-preserved-then-not-is_of_caller
loop-number-preserved-then-not-is_of_caller g c =
    let config = c.args.arcs.now.config in
    let was = c.loop-number.invariant in
    let blocks = c.args.trace.now.blocks in
    let ops = c.args.trace.now.ops in
    let op = c.index-ops-number.result in
    let reply = c.in_ok-after.reply in
    let replies = c.loop-number.replies.items in
    let kept = map read_of c.loop-number.kept in
    let here : slice_get ops c.loop-number.number ≡ Some op =
    ap (λ (l : List Op). slice_get l c.loop-number.number) (sym c.as_slice-ops.ensures) ∙ slice_get_read _ _ _ _ refl c.loop-number-test.true c.index-ops-number.is in
    let start = at c.args.party (map read_of c.args.kept.now) c.args.pool.now in
    let before = at c.loop-number.party kept c.loop-number.pool in
    let after = at c.in_ok-after.after kept c.loop-number.pool in
    let one : DidLine config g.P.Pool blocks op reply before after = capped-line config g.P.Pool blocks c.loop-number.party c.in_ok-after.after kept c.loop-number.pool op reply c.in_ok-after.ensures.did in
    record {
      stands = c.in_ok-after.ensures.stands c.loop-number.kept was.stands;
      named = was.named;
      number = one.did.number ∙ was.number;
      joined = c.in_ok-after.ensures.joined (openings_of c.args.trace.now) was.joined;
      did = subst (λ (x : List Op × List Reply). DidLines config g.P.Pool blocks x.0 x.1 start after) (λ i. (sym (take_one ops c.loop-number.number op here) i, sym c.in_ok-push.ensures.items i))
          (lines-more config g.P.Pool blocks (take c.loop-number.number ops) replies op reply start before after was.did one);
      asks = λ all.
          let so_far = was.asks all in
          asks-line g.D.CacheDev config g.P.Pool blocks (take c.loop-number.number ops) replies op reply _ c.in_ok-push.ensures.items start before (sym (take_one ops c.loop-number.number op here)) was.did all so_far.0 [] c.args.device.now c.loop-number.device c.loop-number.device so_far.1
          (capped-asks g.D.CacheDev blocks _ op reply c.in_ok-after.ensures.did c.loop-number.device);
      keeps = was.keeps;
      left = was.left;
    }

-- the caller's own line
pub loop-number-preserved : goal.loop-number-preserved
loop-number-preserved g c =
    let config = c.args.arcs.now.config in
    let was = c.loop-number.invariant in
    let blocks = c.args.trace.now.blocks in
    let ops = c.args.trace.now.ops in
    let op = c.index-ops-number.result in
    let reply = c.in_ok-reply.reply in
    let replies = c.loop-number.replies.items in
    let here : slice_get ops c.loop-number.number ≡ Some op =
    ap (λ (l : List Op). slice_get l c.loop-number.number) (sym c.as_slice-ops.ensures) ∙ slice_get_read _ _ _ _ refl c.loop-number-test.true c.index-ops-number.is in
    let his : is_of_caller 0 op ≡ true = ap (λ (k : ℕ). is_of_caller k op) (sym (c.number-caller.ensures ∙ c.requires.number)) ∙ (sym c.is_of_caller.ensures ∙ c.if-not-is_of_caller.false) in
    let plain : on_object op ≡ None = off-objects op (plain-there ops c.loop-number.number op c.requires.plain here) in
    let start = at c.args.party (map read_of c.args.kept.now) c.args.pool.now in
    let before = at c.loop-number.party (map read_of c.loop-number.kept) c.loop-number.pool in
    let after = at c.line.new.party (map read_of c.line.new.kept) c.line.new.pool in
    let work = at_work c.loop-number.party (map read_of c.loop-number.kept) (outside c.loop-number.pool c.loop-number.device) in
    let then = at_work c.line.new.party (map read_of c.line.new.kept) (outside c.line.new.pool c.line.new.device) in
    let one : DidLine config g.P.Pool blocks op reply before after = subst (λ (bs : List Ptr). DidLine config g.P.Pool bs op reply before after) c.as_slice-blocks.ensures
    (with-plain g.P.Pool g.D.CacheDev config c.as_slice-blocks.result.now op reply work then plain c.in_ok-reply.ensures.did) in
    record {
      stands = c.in_ok-reply.ensures.stands;
      named = line-named config g.P.Pool blocks op reply before after was.named one;
      number = one.did.number ∙ was.number;
      joined = feeder-after c.args.arcs.now (openings_of c.args.trace.now) g.P.Pool 0 blocks op reply before after his one was.joined;
      did = subst (λ (x : List Op × List Reply). DidLines config g.P.Pool blocks x.0 x.1 start after) (λ i. (sym (take_one ops c.loop-number.number op here) i, sym c.in_ok-push-2.ensures.items i))
          (lines-more config g.P.Pool blocks (take c.loop-number.number ops) replies op reply start before after was.did one);
      asks = λ all.
          let so_far = was.asks all in
          let mine = with-asks g.P.Pool g.D.CacheDev config c.as_slice-blocks.result.now op reply work then plain c.in_ok-reply.ensures.did (lines-all config g.P.Pool blocks (take c.loop-number.number ops) replies start before was.did all) in
          asks-line g.D.CacheDev config g.P.Pool blocks (take c.loop-number.number ops) replies op reply _ c.in_ok-push-2.ensures.items start before (sym (take_one ops c.loop-number.number op here)) was.did all so_far.0 mine.0 c.args.device.now c.loop-number.device c.line.new.device so_far.1
          (subst (λ (bs : List Ptr). AsksLine g.D.CacheDev bs (now_of config (shard_of_line config.shards bs op) c.loop-number.party) op reply mine.0 c.loop-number.device c.line.new.device) c.as_slice-blocks.ensures mine.1);
      left = device-then g.D.CacheDev c.args.device.now c.loop-number.device c.line.new.device was.left c.in_ok-reply.ensures.device;
      keeps = keeps-then g.P.Pool c.args.pool.now c.loop-number.pool c.line.new.pool was.keeps c.in_ok-reply.ensures.pool;
    }

pub line-requires-clause-sized : goal.line-requires-clause-sized
line-requires-clause-sized g c = λ _ _.
    let here : slice_get c.args.trace.now.ops c.loop-number.number ≡ Some c.index-ops-number.result =
    ap (λ (l : List Op). slice_get l c.loop-number.number) (sym c.as_slice-ops.ensures) ∙ slice_get_read _ _ _ _ refl c.loop-number-test.true c.index-ops-number.is in
    (all-declared c.args.trace.now c.requires.formed c.loop-number.number c.index-ops-number.result here).1

-- ---- a line that is no caller's is a capacity

pub other_line-requires-clause-nobody : goal.other_line-requires-clause-nobody
other_line-requires-clause-nobody g c =
    let op = c.index-ops-number.result in
    let here : slice_get c.args.trace.now.ops c.loop-number.number ≡ Some op =
    ap (λ (l : List Op). slice_get l c.loop-number.number) (sym c.as_slice-ops.ensures) ∙ slice_get_read _ _ _ _ refl c.loop-number-test.true c.index-ops-number.is in
    let other : is_of_caller 0 op ≡ false = ap (λ (k : ℕ). is_of_caller k op) (sym (c.number-caller.ensures ∙ c.requires.number)) ∙ (sym c.is_of_caller.ensures ∙ c.if-not-is_of_caller.true) in
    nobody-else (caller_of op) (λ n of. subst (λ (k : ℕ). n < k) c.requires.one (all-callers c.args.trace.now c.requires.formed c.loop-number.number op here n of)) other

pub other_line-requires-clause-plain : goal.other_line-requires-clause-plain
other_line-requires-clause-plain g c =
    let here : slice_get c.args.trace.now.ops c.loop-number.number ≡ Some c.index-ops-number.result =
    ap (λ (l : List Op). slice_get l c.loop-number.number) (sym c.as_slice-ops.ensures) ∙ slice_get_read _ _ _ _ refl c.loop-number-test.true c.index-ops-number.is in
    plain-there c.args.trace.now.ops c.loop-number.number c.index-ops-number.result c.requires.plain here
