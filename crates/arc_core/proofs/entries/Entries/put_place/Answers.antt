use Rattle.std.proofs.Common.{IsSome, refl, sym, subst}
use Rattle.arc_lists.specs.ByKey.{item_at}
use Rattle.arc_lists.specs.Kept.{ListsKeep}
use Rattle.arc_core.specs.PlainShard.{entry_key}
use Rattle.arc_core.proofs.EntryRows.{entries-place, entries-same, keeps, keyed-at, keyed-changes, placed_at, posts-stay, seat-some}
use Rattle.arc_core.proofs.entries.Entries.put_place.Goals as goal

pub find_mut_near-linked-requires : goal.find_mut_near-linked-requires
find_mut_near-linked-requires c = seat-some c.self.inside.rows.seats c.args.key (subst (λ z. IsSome (item_at entry_key c.args.key z.items)) (sym c.self.view_is) c.requires)

pub invariant_of-self : goal.invariant_of-self
invariant_of-self c =
    let t = c.self.inside in
    let l = c.find_mut_near-linked.result.now in
    let item = c.find_mut_near-linked.ensures.linked in
    let made = placed_at c.args.place l in
    keeps _ (keyed-changes t.rows.seats c.args.key made (keyed-at t.rows.seats c.args.key l c.self.invariant.keyed item) c.self.invariant.keyed)
    (subst (λ ps. ListsKeep (record { members = record { posts = ps; spare = t.rows.spare }; queues = t.queues; sizes = t.sizes; p = t.p; c = t.c })) (sym (posts-stay t.rows.seats c.args.key l made item refl)) c.self.invariant.lists)

pub returns : goal.returns
returns c =
    let t = c.self.inside in
    rw (← c.self.view_is) (entries-same _ _ _ _ _ _ _ (entries-place t.rows.seats c.args.key c.find_mut_near-linked.result.now c.args.place c.find_mut_near-linked.ensures.linked) refl)
