use Rattle.std.proofs.Common.{◌∷◌, length, sym, ap, subst, ◌∙◌, arith, refl}
use Rattle.arc_core.specs.seats.KeyRows.{AreListed}
use Rattle.arc_core.proofs.KeyRows.{listed-none, none-left, listed-swap}
use Rattle.arc_core.proofs.keys.many.take_all.Goals as goal

pub loop-key-init : goal.loop-key-init
loop-key-init c = record { listed = c.requires; room = refl; capacity = refl }

pub take_off-requires : goal.take_off-requires
take_off-requires c =
    subst (λ l. AreListed c.loop-key.rows.rows (c.in-Some.key ∷ l)) (sym c.deref.ensures.value)
    (listed-swap c.loop-key.rows.rows c.loop-key.order.items c.pop.new.self.items c.in-Some.key c.in-Some.ensures.items c.loop-key.invariant.listed)

pub loop-key-preserved : goal.loop-key-preserved
loop-key-preserved c = record {
  listed = subst (AreListed c.take_off.new.rows.rows) c.deref.ensures.value c.take_off.ensures.listed;
  room = c.take_off.ensures.room ∙ c.loop-key.invariant.room;
  capacity = c.in-Some.ensures.capacity ∙ c.loop-key.invariant.capacity;
}

pub returns-clause-rows : goal.returns-clause-rows
returns-clause-rows c = listed-none c.loop-key.rows.rows (subst (AreListed c.loop-key.rows.rows) (none-left c.pop.result c.loop-key.order.items _ (omega (arith, c.loop-key.order.ok.0)) c.pop.ensures.variant.1 c.in_default.is) c.loop-key.invariant.listed)

pub returns-clause-spare : goal.returns-clause-spare
returns-clause-spare c =
    let none = listed-none c.loop-key.rows.rows (subst (AreListed c.loop-key.rows.rows) (none-left c.pop.result c.loop-key.order.items _ (omega (arith, c.loop-key.order.ok.0)) c.pop.ensures.variant.1 c.in_default.is) c.loop-key.invariant.listed) in
    omega (arith, c.loop-key.invariant.room, ap length none)

pub returns-clause-capacity : goal.returns-clause-capacity
returns-clause-capacity c = c.in_default.ensures.capacity ∙ c.loop-key.invariant.capacity
