use Rattle.std.proofs.Common.{◌≡◌, ◌<◌, arith, ap, is_some, length, refl, subst, sym, ◌∙◌}
use Rattle.std.proofs.lemmas.List.{get_or_default}
use Rattle.slab.specs.Slab.{with_value}
use Rattle.slab.proofs.SlabLemmas.{Updates-with_value}
use Rattle.key_table.specs.declared.chain.Slot.{Slot}
use Rattle.key_table.specs.Chains.{no_place, rows_in}
use Rattle.key_table.specs.PlainTable.{Changes, HasKey, row}
use Rattle.key_table.proofs.Rows.{apart, changed}
use Rattle.key_table.proofs.Tables.{found-of, found-some, has-slot, row_read, same_key, set-table, short, slot-stands}
use Rattle.key_table.proofs.table.Table.set.Goals as goal

pub chain_of-chain-requires : goal.chain_of-chain-requires
chain_of-chain-requires g c =
    let has : HasKey c.args.key.now (rows_in c.self.inside.slots.slots) = subst (λ l. HasKey c.args.key.now l.rows) (sym c.self.view_is) c.requires in
    let slot = has-slot g.K.Hashed.hash c.self.inside c.args.key.now has in
    let at = slot-stands g.K.Hashed.hash c.self.inside c.args.key.now slot.0 c.self.invariant slot.1 in
    omega (arith, at.0, c.len.ensures, c.self.inside.heads.ok.0)

pub find-requires : goal.find-requires
find-requires g c =
    let heads = c.self.inside.heads in
    let b = c.chain_of-chain.result in
    let within : b < length heads.items = omega (arith, c.chain_of-chain.ensures.within, c.len.ensures, heads.ok.0) in
    short g.K.Hashed.hash c.self.inside b c.index.result.now c.self.invariant within (get_or_default heads.items b no_place c.index.result.now within ∙ sym c.index.ensures)

pub unwrap-at-requires : goal.unwrap-at-requires
unwrap-at-requires g c =
    let has : HasKey c.args.key.now (rows_in c.self.inside.slots.slots) = subst (λ l. HasKey c.args.key.now l.rows) (sym c.self.view_is) c.requires in
    found-some g.K.Hashed.hash c.self.inside c.args.key.now c.len.result c.chain_of-chain.result c.index.result.now c.self.invariant (omega (arith, c.len.ensures, c.self.inside.heads.ok.0))
    c.chain_of-chain.ensures.chain c.chain_of-chain.ensures.within c.index.ensures has c.find.result c.find.ensures.none

pub invariant_of-self : goal.invariant_of-self
invariant_of-self g c =
    let n = c.index_mut.result.now in
    set-table g.K.Hashed.hash c.self.inside c.unwrap-at.result n (record { key = n.key; value = c.replace.new.dest; next = n.next }) c.self.invariant c.index_mut.ensures.value refl refl

pub returns-clause-value : goal.returns-clause-value
returns-clause-value g c =
    let found = found-of g.K.Hashed.hash c.self.inside c.args.key.now c.len.result c.chain_of-chain.result c.index.result.now c.unwrap-at.result (omega (arith, c.len.ensures, c.self.inside.heads.ok.0))
    c.chain_of-chain.ensures.chain c.chain_of-chain.ensures.within c.index.ensures c.find.result c.unwrap-at.ensures c.find.ensures.found in
    rw (← c.self.view_is, c.replace.ensures.value) (row_read g.K.Hashed.hash c.self.inside c.args.key.now c.unwrap-at.result c.index_mut.result.now found.has c.index_mut.ensures.value)

pub returns-clause-rows : goal.returns-clause-rows
returns-clause-rows g c =
    let hash = g.K.Hashed.hash in
    let t = c.self.inside in
    let key = c.args.key.now in
    let found = found-of hash t key c.len.result c.chain_of-chain.result c.index.result.now c.unwrap-at.result (omega (arith, c.len.ensures, t.heads.ok.0))
    c.chain_of-chain.ensures.chain c.chain_of-chain.ensures.within c.index.ensures c.find.result c.unwrap-at.ensures c.find.ensures.found in
    let n = c.index_mut.result.now in
    let m : Slot g.row.K.Denot g.row.V.Denot = record { key = n.key; value = c.replace.new.dest; next = n.next } in
    let is : row n.key c.replace.new.dest ≡ row key c.args.value =
    ap (λ k. row k c.replace.new.dest) (same_key hash t key c.unwrap-at.result n found.has c.index_mut.ensures.value) ∙ ap (λ v. row key v) c.replace.ensures.after in
    rw (← c.self.view_is)
    (subst (λ r. Changes (rows_in t.slots.slots) (rows_in (with_value t.slots c.unwrap-at.result m).slots) r) is
    (changed t.slots (with_value t.slots c.unwrap-at.result m) c.unwrap-at.result n m c.self.invariant.single c.index_mut.ensures.value refl
    (Updates-with_value t.slots c.unwrap-at.result m (ap is_some c.index_mut.ensures.value))))

pub returns-clause-apart : goal.returns-clause-apart
returns-clause-apart g c =
    let n = c.index_mut.result.now in
    let m : Slot g.row.K.Denot g.row.V.Denot = record { key = n.key; value = c.replace.new.dest; next = n.next } in
    apart (with_value c.self.inside.slots c.unwrap-at.result m)
    (set-table g.K.Hashed.hash c.self.inside c.unwrap-at.result n m c.self.invariant c.index_mut.ensures.value refl refl).single
