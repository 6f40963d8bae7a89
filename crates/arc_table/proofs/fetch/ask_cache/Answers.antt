use Rattle.std.proofs.Common.{ℕ, refl, subst, ⊎_elim}
use Rattle.arc_table.specs.Fetching.{IsNotToAsk, IsToAsk, faulty, other_bytes, unasked}
use Rattle.arc_table.proofs.fetch.ask_cache.Goals as goal

pub returns-in_default-clause-none : goal.returns-in_default-clause-none
returns-in_default-clause-none g c is = unasked (subst (λ (n : ℕ). IsNotToAsk c.args.ptr.now c.args.found n) c.len.ensures (c.in_default.ensures.none refl)) refl

pub returns-clause-none : goal.returns-clause-none
returns-clause-none g c is =
    let place = c.in-Some.place in
    let due = subst (λ (n : ℕ). IsToAsk c.args.ptr.now c.args.found n place) c.len.ensures c.in-Some.ensures.some in
    ⊎_elim (λ failed. faulty place record { due = due; calls = failed }) (λ other. other_bytes place record { due = due; calls = other.0 } other.1) (c.read_cache.ensures.none is)
