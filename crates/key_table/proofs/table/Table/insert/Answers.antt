use Rattle.std.proofs.Common.{◌≡◌, ◌<◌, arith, ap, get_or, length, subst, sym, ◌∙◌}
use Rattle.std.proofs.lemmas.List.{get_or_default, length-set}
use Rattle.key_table.specs.Chains.{chain_of, no_place, rows_in}
use Rattle.key_table.specs.PlainTable.{HasKey}
use Rattle.key_table.proofs.Rows.{apart, gained}
use Rattle.key_table.proofs.Tables.{lengthened, single-more}
use Rattle.key_table.proofs.table.Table.insert.Goals as goal

pub invariant_of-self : goal.invariant_of-self
invariant_of-self g c =
    let hash = g.K.Hashed.hash in
    let t = c.self.inside in
    let kept = c.self.invariant in
    let b = c.chain_of-chain.result in
    let p = c.insert_reserved-at.result in
    let add = c.insert_reserved-at.ensures in
    let count : c.len.result ≡ length t.heads.items = omega (arith, c.len.ensures, t.heads.ok.0) in
    let within : b < length t.heads.items = omega (arith, c.chain_of-chain.ensures.within, count) in
    let is : b ≡ chain_of (hash c.args.key) (length t.heads.items) = c.chain_of-chain.ensures.chain ∙ ap (chain_of (hash c.args.key)) count in
    let link : get_or t.heads.items b no_place ≡ c.index-next.result.now = get_or_default t.heads.items b no_place c.index-next.result.now within ∙ sym c.index-next.ensures in
    let place : p < no_place = omega (arith, add.key_in_range, c.capacity-capacity.ensures.value, c.capacity-capacity.type_inv) in
    let absent : HasKey c.args.key (rows_in t.slots.slots) → ⊥ = subst (λ l. HasKey c.args.key l.rows → ⊥) (sym c.self.view_is) c.requires.absent in
    let some : 0 < t.spare = subst (λ l. 0 < l.spare) (sym c.self.view_is) c.requires.room in
    record {
      indexed = rw is (lengthened hash t c.insert_reserved-at.new.self p c.index-next.result.now _ kept (subst (λ z. z < length t.heads.items) is within) place add.was_vacant add.updates (subst (λ z. get_or t.heads.items z no_place ≡ c.index-next.result.now) is link));
      single = single-more hash t.slots c.insert_reserved-at.new.self p _ kept.single add.was_vacant add.updates absent;
      room = omega (arith, kept.room, add.len, add.capacity, some);
      fits = omega (arith, kept.fits, add.len, some);
      some = omega (arith, kept.some, add.len, some, length-set t.heads.items b p);
      within = omega (arith, c.capacity-capacity.ensures.slots, c.capacity-capacity.type_inv);
    }

pub returns-clause-rows : goal.returns-clause-rows
returns-clause-rows g c = rw (← c.self.view_is) (gained c.self.inside.slots c.insert_reserved-at.new.self c.insert_reserved-at.result _ c.insert_reserved-at.ensures.was_vacant c.insert_reserved-at.ensures.updates)

pub returns-clause-apart : goal.returns-clause-apart
returns-clause-apart g c =
    let absent : HasKey c.args.key (rows_in c.self.inside.slots.slots) → ⊥ = subst (λ l. HasKey c.args.key l.rows → ⊥) (sym c.self.view_is) c.requires.absent in
    apart c.insert_reserved-at.new.self
    (single-more g.K.Hashed.hash c.self.inside.slots c.insert_reserved-at.new.self c.insert_reserved-at.result _ c.self.invariant.single c.insert_reserved-at.ensures.was_vacant c.insert_reserved-at.ensures.updates absent)
