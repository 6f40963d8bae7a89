use Rattle.std.proofs.Common.{ℕ, refl, subst}
use Rattle.arc_lists.proofs.Standing.{and_left, and_right}
use Rattle.arc_core.specs.PlainShard.{is_cell}
use Rattle.arc_core.specs.Search.{Stands}
use Rattle.arc_core.specs.Sparing.{victims_of_entry}
use Rattle.arc_core.specs.Step.{written_entry}
use Rattle.arc_core.proofs.Accesses.{IsSoundEntry-written}
use Rattle.arc_core.proofs.Legal.{cell-lt}
use Rattle.arc_core.proofs.Sparing.{insert-off}
use Rattle.arc_core.proofs.table.Table.search_of_insert.Goals as goal

pub returns : goal.returns
returns c =
    let s = c.args.self.now.shard in
    let e = written_entry c.args.n c.args.key c.args.digest c.args.t in
    let off = insert-off c.args.n c.args.key c.args.digest c.args.t (cell-lt c.args.n (and_left _ _ c.requires)) in
    let sound = IsSoundEntry-written c.args.n c.args.key c.args.digest c.args.t (and_left _ _ (and_right (is_cell c.args.n) _ c.requires)) in
    subst (λ (p : ℕ). Stands s c.args.self.now.marked (victims_of_entry e (record s { p = p })) c.search_as_comes.result) c.p.ensures
    (c.search_as_comes.ensures e refl refl off sound)
