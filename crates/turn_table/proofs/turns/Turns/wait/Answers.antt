use Rattle.std.proofs.Common.{ℕ, ◌<◌, arith, sym, subst}
use Rattle.turn_table.specs.Places.{Row}
use Rattle.turn_table.proofs.Homes.{at_home, has_room}
use Rattle.turn_table.proofs.turns.Turns.wait.Goals as goal

pub peek-requires : goal.peek-requires
peek-requires g c =
    let near : c.args.i < c.self.inside.turns = subst (λ (v : Row). c.args.i < v.turns) (sym c.self.view_is) c.requires in
    at_home c.self.invariant c.home-place.ensures (subst (λ (n : ℕ). c.args.i < n) (sym c.self.invariant.words) (let a = has_room c.self.inside.turns in omega arith))
