use Rattle.std.proofs.Common.{ap, is_some, refl, subst}
use Rattle.slab.specs.Slab.{with_value}
use Rattle.slab.proofs.SlabLemmas.{Updates-with_value}
use Rattle.key_table.specs.declared.chain.Slot.{Slot}
use Rattle.key_table.specs.Chains.{rows_in}
use Rattle.key_table.specs.PlainTable.{Changes, row}
use Rattle.key_table.proofs.Rows.{apart, changed}
use Rattle.key_table.proofs.Tables.{none-there, row_read, same_key, set-table}
use Rattle.key_table.proofs.table.Table.get_mut_near.Goals as goal

pub find_near-requires-clause-indexed : goal.find_near-requires-clause-indexed
find_near-requires-clause-indexed g c = rw c.deref.ensures.value c.self.invariant.indexed

pub returns-in-None : goal.returns-in-None
returns-in-None g c =
    let none = none-there g.K.Hashed.hash c.self.inside c.args.key.now c.in-None.ensures.none in
    ((refl, (λ w. tt), c.self.view_is), record { writes_back = tt; some = tt; none = rw (← c.self.view_is) none })

pub invariant_of-self-lent : goal.invariant_of-self-lent
invariant_of-self-lent g c w =
    let n = c.index_mut.result.now in
    set-table g.K.Hashed.hash c.self.inside c.in-Some.at n (record { key = n.key; value = w; next = n.next }) c.self.invariant c.index_mut.ensures.value refl refl

pub returns-in-Some : goal.returns-in-Some
returns-in-Some g c =
    let hash = g.K.Hashed.hash in
    let t = c.self.inside in
    let key = c.args.key.now in
    let at = c.in-Some.at in
    let n = c.index_mut.result.now in
    let m : g.row.V.Denot → Slot g.row.K.Denot g.row.V.Denot = λ w. record { key = n.key; value = w; next = n.next } in
    let read = c.index_mut.ensures.value in
    let is = same_key hash t key at n c.in-Some.ensures.found read in (
      (
        refl,
        λ w. record {
          rows = rw (← c.self.view_is)
              (subst (λ k. Changes (rows_in t.slots.slots) (rows_in (with_value t.slots at (m w)).slots) (row k w)) is
              (changed t.slots (with_value t.slots at (m w)) at n (m w) c.self.invariant.single read refl (Updates-with_value t.slots at (m w) (ap is_some read))));
          apart = apart (with_value t.slots at (m w)) (set-table hash t at n (m w) c.self.invariant read refl refl).single;
          spare = rw (← c.self.view_is) refl;
        },
        refl,
      ),
      record { writes_back = tt; some = rw (← c.self.view_is) (row_read hash t key at n c.in-Some.ensures.found read); none = tt },
    )
