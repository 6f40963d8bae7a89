use Rattle.std.proofs.Common.{◌≡◌, Option, None, Some, map, refl, sym, ap, ◌∙◌, subst, inl, inr}
use Rattle.std.specs.Prelude.{IfOk, filter}
use Rattle.arc_table.specs.Reading.{outside}
use Rattle.trace_run.specs.callers.CallerLines.{at}
use Rattle.trace_run.specs.callers.WorkLines.{at_work}
use Rattle.trace_run.specs.Devices.{lent_in}
use Rattle.trace_run.specs.KeptBlocks.{read_of}
use Rattle.trace_run.specs.Lines.{is_of_caller}
use Rattle.trace_run.specs.one_caller.LinesGone.{CameAlone}
use Rattle.trace_run.proofs.one_caller.OwnGone.{alone-over, alone-without}
use Rattle.trace_run.proofs.in_turn.lines_on.Goals as goal

pub returns-in-Ready-clause-did : goal.returns-in-Ready-clause-did
returns-in-Ready-clause-did g c =
    let was : ◌≡◌ {A = Option g.row.D.Denot} (Some c.device.result.now) (lent_in c.args.device.now) = ap Some c.device.ensures.device ∙ sym (ap lent_in c.in-Ready.is) in
    subst
    (λ (o : Option g.row.D.Denot). IfOk c.all_lines.result (λ replies. CameAlone g.P.Pool g.D.CacheDev c.args.arcs.now.config c.args.blocks.now (filter (is_of_caller c.args.party.now.number) c.args.ops.now) replies.items
    (at c.args.party.now (map read_of c.args.kept.now) c.args.pool.now) (at c.all_lines.new.party (map read_of c.all_lines.new.kept) c.all_lines.new.pool) o (Some c.all_lines.new.device)))
    was
    (alone-over g.P.Pool g.D.CacheDev c.args.arcs.now.config c.args.blocks.now c.requires.stands.valid c.args.ops.now (at_work c.args.party.now (map read_of c.args.kept.now) (outside c.args.pool.now c.device.result.now))
    (at_work c.all_lines.new.party (map read_of c.all_lines.new.kept) (outside c.all_lines.new.pool c.all_lines.new.device)) c.all_lines.result c.all_lines.ensures.did)

-- with no device
pub returns-in-None-clause-did : goal.returns-in-None-clause-did
returns-in-None-clause-did g c =
    let none : lent_in c.args.device.now ≡ None = elim c.in-None.is [
      | inl is ↦ ap lent_in is
      | inr is ↦ ap lent_in is.1
    ] in
    subst
    (λ (o : Option g.row.D.Denot). IfOk c.all_lines-in-None.result (λ replies. CameAlone g.P.Pool g.D.CacheDev c.args.arcs.now.config c.args.blocks.now (filter (is_of_caller c.args.party.now.number) c.args.ops.now) replies.items
    (at c.args.party.now (map read_of c.args.kept.now) c.args.pool.now) (at c.all_lines-in-None.new.party (map read_of c.all_lines-in-None.new.kept) c.all_lines-in-None.new.pool) o o))
    (sym none)
    (alone-without g.P.Pool _ c.args.arcs.now.config c.args.blocks.now g.D.CacheDev c.requires.stands.valid c.args.ops.now (at_work c.args.party.now (map read_of c.args.kept.now) (outside c.args.pool.now _))
    (at_work c.all_lines-in-None.new.party (map read_of c.all_lines-in-None.new.kept) (outside c.all_lines-in-None.new.pool c.all_lines-in-None.new.device)) c.all_lines-in-None.result (λ d. refl) c.all_lines-in-None.ensures.did)
