use Rattle.std.proofs.Common.{◌≡◌, ◌<◌, arith, ap, is_some, length, option_map, refl, set, subst, sym, ◌∙◌, None}
use Rattle.std.proofs.lemmas.List.{get_or_default, length-set}
use Rattle.key_table.specs.Chains.{no_place, row_of, rows_in}
use Rattle.key_table.specs.Indexes.{IsIndexed}
use Rattle.key_table.specs.PlainTable.{HasKey, Loses}
use Rattle.key_table.proofs.Rows.{apart, lost}
use Rattle.key_table.proofs.Tabled.{single-kept}
use Rattle.key_table.proofs.Tables.{Shortened, removed-table, shortened_first, shortened_later, found-front, found-of, found-some, found-stands, front_there, has-slot, row_read, short, gone-there, keeps-rows, same_key, slot-stands}
use Rattle.key_table.proofs.table.Table.remove.Given.{Over}
use Rattle.key_table.proofs.table.Table.remove.Goals as goal
use Rattle.key_table.proofs.table.Table.remove.Goals.{then-before, else-before}

pub chain_of-chain-requires : goal.chain_of-chain-requires
chain_of-chain-requires g c =
    let has : HasKey c.args.key.now (rows_in c.self.inside.slots.slots) = subst (λ l. HasKey c.args.key.now l.rows) (sym c.self.view_is) c.requires in
    let slot = has-slot g.K.Hashed.hash c.self.inside c.args.key.now has in
    let at = slot-stands g.K.Hashed.hash c.self.inside c.args.key.now slot.0 c.self.invariant slot.1 in
    omega (arith, at.0, c.len.ensures, c.self.inside.heads.ok.0)

pub find-requires : goal.find-requires
find-requires g c =
    let heads = c.self.inside.heads in
    let b = c.chain_of-chain.result in
    let within : b < length heads.items = omega (arith, c.chain_of-chain.ensures.within, c.len.ensures, heads.ok.0) in
    short g.K.Hashed.hash c.self.inside b c.index.result.now c.self.invariant within (get_or_default heads.items b no_place c.index.result.now within ∙ sym c.index.ensures)

pub unwrap-at-requires : goal.unwrap-at-requires
unwrap-at-requires g c =
    let has : HasKey c.args.key.now (rows_in c.self.inside.slots.slots) = subst (λ l. HasKey c.args.key.now l.rows) (sym c.self.view_is) c.requires in
    found-some g.K.Hashed.hash c.self.inside c.args.key.now c.len.result c.chain_of-chain.result c.index.result.now c.self.invariant (omega (arith, c.len.ensures, c.self.inside.heads.ok.0))
    c.chain_of-chain.ensures.chain c.chain_of-chain.ensures.within c.index.ensures has c.find.result c.find.ensures.none

pub place_in_front-before-requires-clause-short : goal.place_in_front-before-requires-clause-short
place_in_front-before-requires-clause-short g c =
    let heads = c.self.inside.heads in
    let b = c.chain_of-chain.result in
    let within : b < length heads.items = omega (arith, c.chain_of-chain.ensures.within, c.len.ensures, heads.ok.0) in
    short g.K.Hashed.hash c.self.inside b c.index-2.result.now c.self.invariant within (get_or_default heads.items b no_place c.index-2.result.now within ∙ sym c.index-2.ensures)

pub place_in_front-before-requires-clause-stands : goal.place_in_front-before-requires-clause-stands
place_in_front-before-requires-clause-stands g c =
    let found = found-of g.K.Hashed.hash c.self.inside c.args.key.now c.len.result c.chain_of-chain.result c.index-2.result.now c.unwrap-at.result (omega (arith, c.len.ensures, c.self.inside.heads.ok.0))
    c.chain_of-chain.ensures.chain c.chain_of-chain.ensures.within c.index-2.ensures c.find.result c.unwrap-at.ensures c.find.ensures.found in
    found-stands g.K.Hashed.hash c.self.inside c.args.key.now c.chain_of-chain.result c.index-2.result.now c.unwrap-at.result c.self.invariant found

pub set_next-requires : goal.set_next-requires
set_next-requires g c =
    let found = found-of g.K.Hashed.hash c.self.inside c.args.key.now c.len.result c.chain_of-chain.result c.index-2.result.now c.unwrap-at.result (omega (arith, c.len.ensures, c.self.inside.heads.ok.0))
    c.chain_of-chain.ensures.chain c.chain_of-chain.ensures.within c.index-2.ensures c.find.result c.unwrap-at.ensures c.find.ensures.found in
    let front = found-front g.K.Hashed.hash c.self.inside c.args.key.now c.chain_of-chain.result c.index-2.result.now c.unwrap-at.result c.place_in_front-before.result c.self.invariant found c.place_in_front-before.ensures in
    let near = front_there g.K.Hashed.hash c.self.inside c.args.key.now c.unwrap-at.result c.place_in_front-before.result c.self.invariant found.has front c.if-before.false in
    ap (λ o. is_some o) (c.remove-next.ensures.updates.others c.place_in_front-before.result near.0) ∙ near.1

pub returns-clause-value : goal.returns-clause-value
returns-clause-value g c =
    let found = found-of g.K.Hashed.hash c.self.inside c.args.key.now c.len.result c.chain_of-chain.result c.index-2.result.now c.unwrap-at.result (omega (arith, c.len.ensures, c.self.inside.heads.ok.0))
    c.chain_of-chain.ensures.chain c.chain_of-chain.ensures.within c.index-2.ensures c.find.result c.unwrap-at.ensures c.find.ensures.found in
    rw (← c.self.view_is) (row_read g.K.Hashed.hash c.self.inside c.args.key.now c.unwrap-at.result c.remove-next.result found.has c.remove-next.ensures.value)

-- how the table stands once its key's chain is linked anew
left : (g : Over) (c : goal.After-self-2-1 g) → Shortened {K = g.row.K.Denot} {V = g.row.V.Denot} g.K.Hashed.hash c.self.inside c.remove-next.new.self c.if-before.self-inside c.unwrap-at.result
left g c =
    let hash = g.K.Hashed.hash in
    let t = c.self.inside in
    let key = c.args.key.now in
    let at = c.unwrap-at.result in
    let r = c.remove-next.new.self in
    let gone = c.remove-next.result in
    let before = c.place_in_front-before.result in
    let found = found-of hash t key c.len.result c.chain_of-chain.result c.index-2.result.now at (omega (arith, c.len.ensures, t.heads.ok.0))
    c.chain_of-chain.ensures.chain c.chain_of-chain.ensures.within c.index-2.ensures c.find.result c.unwrap-at.ensures c.find.ensures.found in
    let front = found-front hash t key c.chain_of-chain.result c.index-2.result.now at before c.self.invariant found c.place_in_front-before.ensures in
    let updates = c.remove-next.ensures.updates in
    let key_is : gone.key ≡ key = same_key hash t key at gone found.has c.remove-next.ensures.value in
    elim c.if-before.branch [
      | then-before w ↦ rw w.self-inside-is (record {
        indexed = subst (λ z. IsIndexed hash r (set t.heads.items z gone.next) (length (set t.heads.items z gone.next)) no_place) (sym found.chain)
            (shortened_first hash t r key at gone c.self.invariant c.remove-next.ensures.value key_is updates (front ∙ w.if-before.true));
        rows = refl;
        keeps = λ q differ. ap (λ o. option_map row_of o) (updates.others q differ);
        out = updates.changed;
        len = refl;
        capacity = refl;
        count = refl;
        heads = length-set t.heads.items c.chain_of-chain.result gone.next;
        spare = refl;
      })
      | else-before w ↦ rw w.self-inside-is (record {
        indexed = shortened_later hash t r w.set_next.new.slots key at before gone c.self.invariant c.remove-next.ensures.value key_is updates w.set_next.ensures.slots front w.if-before.false;
        rows = w.set_next.ensures.rows;
        keeps = keeps-rows hash t.slots r w.set_next.new.slots at before gone.next updates w.set_next.ensures.slots;
        out = gone-there hash t.slots r w.set_next.new.slots at before gone.next updates w.set_next.ensures.slots;
        len = w.set_next.ensures.len;
        capacity = w.set_next.ensures.capacity;
        count = w.set_next.ensures.length;
        heads = refl;
        spare = refl;
      })
    ]

pub invariant_of-self : goal.invariant_of-self
invariant_of-self g c =
    removed-table g.K.Hashed.hash c.self.inside c.remove-next.new.self c.if-before.self-inside c.unwrap-at.result c.self.invariant c.remove-next.ensures.len c.remove-next.ensures.capacity
    (ap (λ xs. length xs) c.remove-next.ensures.slots ∙ length-set c.self.inside.slots.slots c.unwrap-at.result None) (left g c)

pub returns-clause-rows : goal.returns-clause-rows
returns-clause-rows g c =
    let hash = g.K.Hashed.hash in
    let t = c.self.inside in
    let found = found-of hash t c.args.key.now c.len.result c.chain_of-chain.result c.index-2.result.now c.unwrap-at.result (omega (arith, c.len.ensures, t.heads.ok.0))
    c.chain_of-chain.ensures.chain c.chain_of-chain.ensures.within c.index-2.ensures c.find.result c.unwrap-at.ensures c.find.ensures.found in
    let key_is = same_key hash t c.args.key.now c.unwrap-at.result c.remove-next.result found.has c.remove-next.ensures.value in
    rw (← c.self.view_is, (left g c).rows)
    (subst (λ k. Loses (rows_in t.slots.slots) (rows_in c.remove-next.new.self.slots) k) key_is
    (lost t.slots c.remove-next.new.self c.unwrap-at.result c.remove-next.result c.self.invariant.single c.remove-next.ensures.value c.remove-next.ensures.updates))

pub returns-clause-apart : goal.returns-clause-apart
returns-clause-apart g c =
    apart c.if-before.self-inside.slots (single-kept g.K.Hashed.hash c.self.inside.slots c.if-before.self-inside.slots c.unwrap-at.result c.self.invariant.single (left g c).out (left g c).keeps)
