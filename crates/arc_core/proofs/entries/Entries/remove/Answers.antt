use Rattle.std.proofs.Common.{◌≡◌, ◌+◌, IsSome, sym, ap, subst, ◌∙◌}
use Rattle.arc_lists.specs.ByKey.{item_at, without}
use Rattle.arc_lists.specs.Posts.{members_of, standing}
use Rattle.arc_lists.proofs.Changing.{posts_with}
use Rattle.arc_lists.proofs.Keeping.{ListsKeep-take_out, is-on, left-of}
use Rattle.arc_lists.proofs.Placing.{member-at}
use Rattle.arc_lists.proofs.SizeSums.{member-le}
use Rattle.arc_core.specs.seats.EntryRows.{AreKeyed, parts}
use Rattle.arc_core.specs.PlainShard.{entry_key}
use Rattle.arc_core.specs.seats.Seats.{Seats, posts_in, seat_key}
use Rattle.arc_core.proofs.EntryRows.{entries-go, entries-same, keeps, keyed-goes, post-at, posts-go, posts_of, seat-some}
use Rattle.arc_core.proofs.entries.Entries.remove.Goals as goal

pub remove-at-requires : goal.remove-at-requires
remove-at-requires c = seat-some c.self.inside.rows.seats c.args.key (subst (λ z. IsSome (item_at entry_key c.args.key z.items)) (sym c.self.view_is) c.requires)

pub take-requires : goal.take-requires
take-requires c =
    let ss = c.self.inside.rows.seats in
    let l = c.remove-at.result in
    rw (c.self.invariant.lists.sizes l.entry.state)
    (member-le c.args.key l.entry.state (members_of (posts_in ss)) (member-at c.args.key (posts_in ss) (standing l.entry.state l.at) (post-at ss c.args.key l c.remove-at.ensures.linked)))

pub leave-requires : goal.leave-requires
leave-requires c =
    let l = c.remove-at.result in
    is-on (parts c.self.inside) c.args.key (standing l.entry.state l.at) c.self.invariant.lists (post-at c.self.inside.rows.seats c.args.key l c.remove-at.ensures.linked)

pub invariant_of-self : goal.invariant_of-self
invariant_of-self c =
    let t = c.self.inside in
    let l = c.remove-at.result in
    let gone : c.remove-at.new.self.seats ≡ without seat_key c.args.key t.rows.seats = ap (λ (m : Seats). m.seats) c.remove-at.ensures.seats in
    keeps _ (subst AreKeyed (sym gone) (keyed-goes t.rows.seats c.args.key c.self.invariant.keyed))
    (ListsKeep-take_out (parts t) _ c.args.key (standing l.entry.state l.at) c.self.invariant.lists (post-at t.rows.seats c.args.key l c.remove-at.ensures.linked)
    (ap posts_of c.remove-at.ensures.seats ∙ ap (λ ps. posts_with ps (t.rows.spare + 1)) (posts-go t.rows.seats c.args.key)) c.take.ensures c.leave.ensures)

pub returns : goal.returns
returns c =
    let t = c.self.inside in
    let l = c.remove-at.result in
    rw (← c.self.view_is, c.remove-at.ensures.seats, c.leave.ensures)
    (entries-same _ _ _ _ _ _ _ (entries-go t.rows.seats c.args.key)
    (left-of (parts t) c.args.key (standing l.entry.state l.at) c.self.invariant.lists (post-at t.rows.seats c.args.key l c.remove-at.ensures.linked)).sequences)
