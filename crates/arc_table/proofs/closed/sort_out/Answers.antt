use Rattle.std.proofs.Common.{◌≡◌, ◌++◌, ◌+◌, ◌≤◌, length, vec_len, vec_capacity, List, [], ◌∷◌, sym, ap, ◌∙◌, subst, arith}
use mathlib.Core.List.{append_assoc, append-nil}
use Rattle.arc_core.specs.ShardLog.{ShardLog}
use Rattle.arc_table.specs.declared.item.Item.{Item}
use Rattle.arc_table.specs.declared.item.Item.TheVariants as item
use Rattle.arc_table.specs.Ended.{cells_in, shards_in}
use Rattle.arc_table.proofs.Ends.{nothing_left}
use Rattle.arc_table.proofs.closed.sort_out.Goals as goal

pub loop-value-init : goal.loop-value-init
loop-value-init g c =
    let all : c.into_iter-value-iterator.result.rest.items ≡ c.args.values.items = c.into_iter-value-iterator.ensures.into_iter_gives.0 in
    record {
      cells = ap (λ (vs : List (Item g.row.C.Denot)). c.args.cells.now.items ++ cells_in vs) all;
      shards = ap (λ (vs : List (Item g.row.C.Denot)). c.args.shards.now.items ++ shards_in vs) all;
      cells_room = subst (λ (vs : List (Item g.row.C.Denot)). vec_len c.args.cells.now + length (cells_in vs) ≤ vec_capacity c.args.cells.now) (sym all) c.requires.cells;
      shards_room = subst (λ (vs : List (Item g.row.C.Denot)). vec_len c.args.shards.now + length (shards_in vs) ≤ vec_capacity c.args.shards.now) (sym all) c.requires.shards;
    }

pub push_reserved-requires : goal.push_reserved-requires
push_reserved-requires g c =
    let before = c.loop-value.invariant in
    let rest : c.loop-value.value-iterator.rest.items ≡ item.Cell c.in-Cell.cell ∷ c.next.new.self.rest.items = c.in-Some.ensures.steps.0 ∙ ap (λ v. v ∷ c.next.new.self.rest.items) c.in-Cell.is in
    let one = ap (λ (vs : List (Item g.row.C.Denot)). length (cells_in vs)) rest in
    let room = before.cells_room in
    omega arith

pub loop-value-preserved-in-Cell : goal.loop-value-preserved-in-Cell
loop-value-preserved-in-Cell g c =
    let before = c.loop-value.invariant in
    let rest' : List (Item g.row.C.Denot) = c.next.new.self.rest.items in
    let rest : c.loop-value.value-iterator.rest.items ≡ item.Cell c.in-Cell.cell ∷ rest' = c.in-Some.ensures.steps.0 ∙ ap (λ v. v ∷ rest') c.in-Cell.is in
    let one : length (cells_in c.loop-value.value-iterator.rest.items) ≡ length (c.in-Cell.cell ∷ cells_in rest') = ap (λ (vs : List (Item g.row.C.Denot)). length (cells_in vs)) rest in
    let room = before.cells_room in
    let pushed = c.push_reserved.ensures.len in
    let same = c.push_reserved.ensures.capacity in
    record {
      cells = ap (λ l. l ++ cells_in rest') c.push_reserved.ensures.items ∙ (append_assoc c.loop-value.cells.items (c.in-Cell.cell ∷ []) (cells_in rest')
          ∙ (ap (λ (vs : List (Item g.row.C.Denot)). c.loop-value.cells.items ++ cells_in vs) (sym rest) ∙ before.cells));
      shards = ap (λ (vs : List (Item g.row.C.Denot)). c.loop-value.shards.items ++ shards_in vs) (sym rest) ∙ before.shards;
      cells_room = omega arith;
      shards_room = subst (λ (vs : List (Item g.row.C.Denot)). vec_len c.loop-value.shards + length (shards_in vs) ≤ vec_capacity c.loop-value.shards) rest before.shards_room;
    }

pub loop-value-preserved-in-Bucket : goal.loop-value-preserved-in-Bucket
loop-value-preserved-in-Bucket g c =
    let before = c.loop-value.invariant in
    let rest' : List (Item g.row.C.Denot) = c.next.new.self.rest.items in
    let rest : c.loop-value.value-iterator.rest.items ≡ item.Bucket c.in-Bucket.bucket ∷ rest' = c.in-Some.ensures.steps.0 ∙ ap (λ v. v ∷ rest') c.in-Bucket.is in
    record {
      cells = ap (λ (vs : List (Item g.row.C.Denot)). c.loop-value.cells.items ++ cells_in vs) (sym rest) ∙ before.cells;
      shards = ap (λ (vs : List (Item g.row.C.Denot)). c.loop-value.shards.items ++ shards_in vs) (sym rest) ∙ before.shards;
      cells_room = subst (λ (vs : List (Item g.row.C.Denot)). vec_len c.loop-value.cells + length (cells_in vs) ≤ vec_capacity c.loop-value.cells) rest before.cells_room;
      shards_room = subst (λ (vs : List (Item g.row.C.Denot)). vec_len c.loop-value.shards + length (shards_in vs) ≤ vec_capacity c.loop-value.shards) rest before.shards_room;
    }

pub push_reserved-requires-in-Shard : goal.push_reserved-requires-in-Shard
push_reserved-requires-in-Shard g c =
    let before = c.loop-value.invariant in
    let rest : c.loop-value.value-iterator.rest.items ≡ item.Shard c.in-Shard.shard ∷ c.next.new.self.rest.items = c.in-Some.ensures.steps.0 ∙ ap (λ v. v ∷ c.next.new.self.rest.items) c.in-Shard.is in
    let one = ap (λ (vs : List (Item g.row.C.Denot)). length (shards_in vs)) rest in
    let room = before.shards_room in
    omega arith

pub loop-value-preserved : goal.loop-value-preserved
loop-value-preserved g c =
    let before = c.loop-value.invariant in
    let rest' : List (Item g.row.C.Denot) = c.next.new.self.rest.items in
    let rest : c.loop-value.value-iterator.rest.items ≡ item.Shard c.in-Shard.shard ∷ rest' = c.in-Some.ensures.steps.0 ∙ ap (λ v. v ∷ rest') c.in-Shard.is in
    let one : length (shards_in c.loop-value.value-iterator.rest.items) ≡ length (c.in-Shard.shard ∷ shards_in rest') = ap (λ (vs : List (Item g.row.C.Denot)). length (shards_in vs)) rest in
    let room = before.shards_room in
    let pushed = c.push_reserved-in-Shard.ensures.len in
    let same = c.push_reserved-in-Shard.ensures.capacity in
    record {
      cells = ap (λ (vs : List (Item g.row.C.Denot)). c.loop-value.cells.items ++ cells_in vs) (sym rest) ∙ before.cells;
      shards = ap (λ l. l ++ shards_in rest') (c.push_reserved-in-Shard.ensures.items ∙ ap (λ (l : ShardLog). c.loop-value.shards.items ++ l ∷ []) c.into_shard.ensures) ∙ (append_assoc c.loop-value.shards.items (c.in-Shard.shard ∷ []) (shards_in rest')
          ∙ (ap (λ (vs : List (Item g.row.C.Denot)). c.loop-value.shards.items ++ shards_in vs) (sym rest) ∙ before.shards));
      cells_room = subst (λ (vs : List (Item g.row.C.Denot)). vec_len c.loop-value.cells + length (cells_in vs) ≤ vec_capacity c.loop-value.cells) rest before.cells_room;
      shards_room = omega arith;
    }

pub returns-clause-cells : goal.returns-clause-cells
returns-clause-cells g c =
    let none : c.loop-value.value-iterator.rest.items ≡ [] = nothing_left c.loop-value.value-iterator.rest.items (let a = c.in-None.ensures.steps.0 in let b = c.loop-value.value-iterator.rest.ok in omega arith) in
    sym (append-nil c.loop-value.cells.items) ∙ (ap (λ (vs : List (Item g.row.C.Denot)). c.loop-value.cells.items ++ cells_in vs) (sym none) ∙ c.loop-value.invariant.cells)

pub returns-clause-shards : goal.returns-clause-shards
returns-clause-shards g c =
    let none : c.loop-value.value-iterator.rest.items ≡ [] = nothing_left c.loop-value.value-iterator.rest.items (let a = c.in-None.ensures.steps.0 in let b = c.loop-value.value-iterator.rest.ok in omega arith) in
    sym (append-nil c.loop-value.shards.items) ∙ (ap (λ (vs : List (Item g.row.C.Denot)). c.loop-value.shards.items ++ shards_in vs) (sym none) ∙ c.loop-value.invariant.shards)
