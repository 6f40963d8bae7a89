use Rattle.std.proofs.Common.{◌≡◌, ◌<◌, false, sym, subst, arith}
use Rattle.arc_lists.specs.Sequences.{stands_on}
use Rattle.arc_core.proofs.KeyRows.{key-comes, listed-comes, longer, named, no-name}
use Rattle.arc_core.proofs.keys.many.ManyKeys.add.Goals as goal

pub insert-requires-clause-absent : goal.insert-requires-clause-absent
insert-requires-clause-absent c =
    let rows = c.self.inside.rows.rows in
    no-name rows c.args.key c.self.invariant.listed.apart (subst (λ m. stands_on c.args.key m.items ≡ false) (sym c.self.view_is) c.requires.absent)

pub put_last-requires : goal.put_last-requires
put_last-requires c =
    let kept = c.self.invariant in
    let some : 0 < c.self.inside.rows.spare = subst (λ m. 0 < m.spare) (sym c.self.view_is) c.requires.room in
    omega (arith, kept.many, kept.room, some)

pub invariant_of-self : goal.invariant_of-self
invariant_of-self c =
    let rows = c.self.inside.rows.rows in
    let kept = c.self.invariant in
    let off : stands_on c.args.key (named rows) ≡ false = subst (λ m. stands_on c.args.key m.items ≡ false) (sym c.self.view_is) c.requires.absent in
    let some : 0 < c.self.inside.rows.spare = subst (λ m. 0 < m.spare) (sym c.self.view_is) c.requires.room in
    let more = longer rows c.insert.new.self.rows c.args.key kept.listed.apart c.insert.ensures.apart off c.insert.ensures.rows in
    record {
      listed = listed-comes rows c.insert.new.self.rows c.args.key c.self.inside.order.items c.put_last.new.order.items kept.listed c.insert.ensures.apart c.insert.ensures.rows c.put_last.ensures.items;
      many = omega (arith, kept.many, more, c.put_last.ensures.len);
      room = omega (arith, kept.room, more, c.insert.ensures.spare, some, c.put_last.ensures.capacity);
    }

pub returns-clause-items : goal.returns-clause-items
returns-clause-items c =
    let rows = c.self.inside.rows.rows in
    let off : stands_on c.args.key (named rows) ≡ false = subst (λ m. stands_on c.args.key m.items ≡ false) (sym c.self.view_is) c.requires.absent in
    rw (← c.self.view_is) (key-comes rows c.insert.new.self.rows c.args.key c.self.invariant.listed.apart c.insert.ensures.apart off c.insert.ensures.rows)
