use Rattle.std.proofs.Common.{◌≡◌, ℕ, arith, ap, length, nat_eq, if◌then◌else◌, option_map, subst, sym, ◌∙◌}
use Rattle.std.proofs.lemmas.List.{get_or_default}
use Rattle.slab.specs.Slab.{get}
use Rattle.key_table.specs.Chains.{leading, no_place}
use Rattle.key_table.proofs.Tabled.{chained, raised}
use Rattle.key_table.proofs.chain.chain_one.Goals as goal

pub returns-in_default-clause-indexed : goal.returns-in_default-clause-indexed
returns-in_default-clause-indexed g c =
    raised g.K.Hashed.hash c.args.slots.now c.args.heads.now (length c.args.heads.now) c.args.at _ c.requires.indexed (omega arith) (λ q below past.
    let is : q ≡ c.args.at = omega (arith, below, past) in
    ap (get c.args.slots.now) is ∙ sym c.in_default.ensures)

pub returns-clause-indexed : goal.returns-clause-indexed
returns-clause-indexed g c =
    let heads = c.args.heads.now in
    let b = c.chain_of-chain.result in
    chained g.K.Hashed.hash c.args.slots.now c.set_next.new.slots heads c.args.at b c.in-Some.slot.now c.requires.indexed c.requires.place (sym c.in-Some.ensures)
    c.chain_of-chain.ensures.chain c.chain_of-chain.ensures.within
    (subst (λ z. (q : ℕ) → get c.set_next.new.slots q ≡ (if nat_eq q c.args.at then option_map (leading z) (get c.args.slots.now q) else get c.args.slots.now q))
    (get_or_default heads b _ no_place c.chain_of-chain.ensures.within) c.set_next.ensures.slots)
