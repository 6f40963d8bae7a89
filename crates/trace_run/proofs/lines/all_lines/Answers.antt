use Rattle.std.proofs.Common.{◌≡◌, ℕ, ◌≤◌, true, false, List, [], Some, map, take, take_all, length, refl, sym, ap, ◌∙◌, subst, arith}
use Rattle.std.specs.Prelude.{filter, slice_get}
use Rattle.std.proofs.lemmas.Option.{slice_get_read}
use Rattle.arc_table.specs.Reading.{outside}
use Rattle.trace_text.specs.declared.op.Op.{Op}
use Rattle.trace_text.specs.declared.reply.Reply.{Reply}
use Rattle.trace_run.specs.callers.WorkLines.{DidOps, DidWith, at_work}
use Rattle.trace_run.specs.KeptBlocks.{read_of}
use Rattle.trace_run.specs.Lines.{is_of_caller}
use Rattle.trace_run.proofs.LinesLemmas.{his-more, others-more}
use Rattle.trace_run.proofs.RunLemmas.{keeps-then}
use Rattle.trace_run.proofs.WorkLemmas.{ops-more, ops-none, with-named, with-number}
use Rattle.trace_run.proofs.one_caller.AskingLemmas.{device-same, device-then}
use Rattle.trace_run.proofs.lines.all_lines.Goals as goal

-- nothing is done yet
pub loop-number-init : goal.loop-number-init
loop-number-init g c =
    let start = at_work c.args.party.now (map read_of c.args.kept.now) (outside c.args.pool.now c.args.device.now) in
    record {
      stands = c.requires.stands;
      named = c.requires.named;
      number = refl;
      did = subst (λ (rs : List Reply). DidOps g.P.Pool g.D.CacheDev c.args.arcs.now.config c.args.blocks.now [] rs start start) (sym c.new-replies.ensures.items) (ops-none g.P.Pool g.D.CacheDev c.args.arcs.now.config c.args.blocks.now start);
      keeps = record { size = refl; told = refl; faults = omega arith; others = refl };
      device = device-same g.D.CacheDev c.args.device.now;
    }

pub line-requires-clause-declared : goal.line-requires-clause-declared
line-requires-clause-declared g c = λ _ _.
    let here : slice_get c.args.ops.now c.loop-number.number ≡ Some c.index-ops-number.result = slice_get_read _ _ _ _ refl c.loop-number-test.true c.index-ops-number.is in
    (c.requires.declared c.loop-number.number c.index-ops-number.result here).0

pub line-requires-clause-sized : goal.line-requires-clause-sized
line-requires-clause-sized g c = λ _ _.
    let here : slice_get c.args.ops.now c.loop-number.number ≡ Some c.index-ops-number.result = slice_get_read _ _ _ _ refl c.loop-number-test.true c.index-ops-number.is in
    (c.requires.declared c.loop-number.number c.index-ops-number.result here).1

-- a line of another caller
pub loop-number-preserved-then-not-is_of_caller : goal.loop-number-preserved-then-not-is_of_caller
loop-number-preserved-then-not-is_of_caller g c =
    let was = c.loop-number.invariant in
    let ops = c.args.ops.now in
    let n = c.args.party.now.number in
    let op = c.index-ops-number.result in
    let here : slice_get ops c.loop-number.number ≡ Some op = slice_get_read _ _ _ _ refl c.loop-number-test.true c.index-ops-number.is in
    let other : is_of_caller n op ≡ false = ap (λ (k : ℕ). is_of_caller k op) (sym c.number-caller.ensures) ∙ (sym c.is_of_caller.ensures ∙ c.if-not-is_of_caller.true) in
    record {
      stands = was.stands;
      named = was.named;
      number = was.number;
      did = subst (λ (os : List Op). DidOps g.P.Pool g.D.CacheDev c.args.arcs.now.config c.args.blocks.now os c.loop-number.replies.items
          (at_work c.args.party.now (map read_of c.args.kept.now) (outside c.args.pool.now c.args.device.now)) (at_work c.loop-number.party (map read_of c.loop-number.kept) (outside c.loop-number.pool c.loop-number.device)))
          (sym (others-more n ops c.loop-number.number op here other)) was.did;
      keeps = was.keeps;
      device = was.device;
    }

-- a line of its own
pub loop-number-preserved : goal.loop-number-preserved
loop-number-preserved g c =
    let pool = g.P.Pool in
    let devices = g.D.CacheDev in
    let config = c.args.arcs.now.config in
    let was = c.loop-number.invariant in
    let blocks = c.args.blocks.now in
    let ops = c.args.ops.now in
    let n = c.args.party.now.number in
    let op = c.index-ops-number.result in
    let reply = c.in_ok-reply.reply in
    let replies = c.loop-number.replies.items in
    let here : slice_get ops c.loop-number.number ≡ Some op = slice_get_read _ _ _ _ refl c.loop-number-test.true c.index-ops-number.is in
    let his : is_of_caller n op ≡ true = ap (λ (k : ℕ). is_of_caller k op) (sym c.number-caller.ensures) ∙ (sym c.is_of_caller.ensures ∙ c.if-not-is_of_caller.false) in
    let start = at_work c.args.party.now (map read_of c.args.kept.now) (outside c.args.pool.now c.args.device.now) in
    let before = at_work c.loop-number.party (map read_of c.loop-number.kept) (outside c.loop-number.pool c.loop-number.device) in
    let after = at_work c.line.new.party (map read_of c.line.new.kept) (outside c.line.new.pool c.line.new.device) in
    let one : DidWith pool devices config blocks op reply before after = c.in_ok-reply.ensures.did in
    record {
      stands = c.in_ok-reply.ensures.stands;
      named = with-named pool devices config blocks op reply before after one was.named;
      number = with-number pool devices config blocks op reply before after one ∙ was.number;
      did = subst (λ (x : List Op × List Reply). DidOps pool devices config blocks x.0 x.1 start after) (λ i. (sym (his-more n ops c.loop-number.number op here his) i, sym c.in_ok-push.ensures.items i))
          (ops-more pool devices config blocks (filter (is_of_caller n) (take c.loop-number.number ops)) replies op reply start before after was.did one);
      keeps = keeps-then pool c.args.pool.now c.loop-number.pool c.line.new.pool was.keeps c.in_ok-reply.ensures.pool;
      device = device-then devices c.args.device.now c.loop-number.device c.line.new.device was.device c.in_ok-reply.ensures.device;
    }

pub returns-clause-did : goal.returns-clause-did
returns-clause-did g c =
    let long : length c.args.ops.now ≤ c.loop-number.number = omega arith in
    subst (λ (os : List Op). DidOps g.P.Pool g.D.CacheDev c.args.arcs.now.config c.args.blocks.now (filter (is_of_caller c.args.party.now.number) os) c.loop-number.replies.items
    (at_work c.args.party.now (map read_of c.args.kept.now) (outside c.args.pool.now c.args.device.now)) (at_work c.loop-number.party (map read_of c.loop-number.kept) (outside c.loop-number.pool c.loop-number.device)))
    (take_all c.loop-number.number c.args.ops.now long) c.loop-number.invariant.did

-- the next line is this caller's
pub line-requires-clause-own : goal.line-requires-clause-own
line-requires-clause-own g c = λ _ _.
    ap (λ (k : ℕ). is_of_caller k c.index-ops-number.result) (c.loop-number.invariant.number ∙ sym c.number-caller.ensures) ∙ (sym c.is_of_caller.ensures ∙ c.if-not-is_of_caller.false)
