use Rattle.std.proofs.Common.{sym, ◌∙◌, arith}
use Rattle.key_table.specs.PlainTable.{HasKey}
use Rattle.arc_core.specs.seats.KeyRows.{name}
use Rattle.arc_core.proofs.KeyRows.{found-has, found-none, listed-off, listed-past, shorter}
use Rattle.arc_core.proofs.keys.many.take_off.Goals as goal

pub returns-then-is_some-clause-listed : goal.returns-then-is_some-clause-listed
returns-then-is_some-clause-listed c = listed-off c.args.rows.now.rows c.remove.new.self.rows c.args.key c.args.order.now c.requires c.remove.ensures.apart c.remove.ensures.rows

pub returns-then-is_some-clause-room : goal.returns-then-is_some-clause-room
returns-then-is_some-clause-room c =
    let has : HasKey (name c.args.key) c.args.rows.now.rows =
    found-has c.get.result _ (HasKey (name c.args.key) c.args.rows.now.rows) (λ a among. (tt, among)) c.get.ensures.some (sym c.is_some.ensures ∙ c.if-is_some.true) in
    omega (arith, shorter c.args.rows.now.rows c.remove.new.self.rows c.args.key c.requires.apart c.remove.ensures.apart has c.remove.ensures.rows, c.remove.ensures.spare)

pub returns-else-is_some-clause-listed : goal.returns-else-is_some-clause-listed
returns-else-is_some-clause-listed c =
    listed-past c.args.rows.now.rows c.args.key c.args.order.now c.requires (found-none c.get.result (HasKey (name c.args.key) c.args.rows.now.rows → ⊥) c.get.ensures.none (sym c.is_some.ensures ∙ c.if-is_some.false))
