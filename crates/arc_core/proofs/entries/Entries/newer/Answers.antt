use Rattle.std.proofs.Common.{◌≡◌, Some, IsSome, ap, is_some, subst, sym, true, ◌∙◌}
use Rattle.blk_ptr.specs.declared.state.State.{State}
use Rattle.arc_links.specs.PlainLinks.{element_at}
use Rattle.arc_lists.specs.ByKey.{item_at}
use Rattle.arc_lists.specs.Posts.{members_of, standing}
use Rattle.arc_lists.specs.Queues.{nodes_of, sequences_in}
use Rattle.arc_lists.specs.Sequences.{sequence_of, stands, stands_on}
use Rattle.arc_lists.specs.Walks.{next_to, oldest_first}
use Rattle.arc_lists.proofs.InState.{stands-member}
use Rattle.arc_lists.proofs.Keeping.{on-place, post-of}
use Rattle.arc_lists.proofs.Tables.{some_is}
use Rattle.arc_lists.proofs.Walking.{newer-on}
use Rattle.arc_core.specs.seats.EntryRows.{parts}
use Rattle.arc_core.specs.seats.Seats.{posts_in, seat, seat_key}
use Rattle.arc_core.proofs.EntryRows.{post-at, post-some}
use Rattle.arc_core.proofs.SeatRows.{found-some, some-at}
use Rattle.arc_core.proofs.entries.Entries.newer.Goals as goal

pub returns-in-Some : goal.returns-in-Some
returns-in-Some c =
    let t = c.self.inside in
    let k = c.args.key in
    let found = c.in-Some.ensures.some in
    subst (λ z. (u : State) → stands_on k (sequence_of u z.sequences) ≡ true → c.in-Some.ahead ≡ next_to k (oldest_first u z.sequences)) c.self.view_is
    (λ u there. newer-on (parts t) k found.0 found.1.0 c.in-Some.ahead u c.self.invariant.lists found.1.1 found.1.2 there)

pub unwrap-linked-requires : goal.unwrap-linked-requires
unwrap-linked-requires c =
    let t = c.self.inside in
    let posts = posts_in t.rows.seats in
    let there = stands-member (members_of posts) c.args.key (sequences_in t.queues) c.self.invariant.lists.stated (subst (λ z. stands c.args.key z.sequences ≡ true) (sym c.self.view_is) c.requires) in
    let row : IsSome (item_at seat_key c.args.key t.rows.seats) = post-some t.rows.seats c.args.key (post-of posts c.args.key there) in
    found-some c.find.result (item_at seat_key c.args.key t.rows.seats) row c.find.ensures.none

pub unwrap-requires : goal.unwrap-requires
unwrap-requires c =
    let t = c.self.inside in
    let k = c.args.key in
    let l = c.unwrap-linked.result.now in
    let item = some-at c.find.result c.unwrap-linked.result (λ v. item_at seat_key k t.rows.seats ≡ Some (seat k v.now)) c.unwrap-linked.ensures c.find.ensures.some in
    let on = on-place (parts t) k (standing l.entry.state l.at) c.self.invariant.lists (post-at t.rows.seats k l item) (subst (λ z. stands k z.sequences ≡ true) (sym c.self.view_is) c.requires) in
    ap is_some on.at_is

pub key_ahead-requires-clause-there : goal.key_ahead-requires-clause-there
key_ahead-requires-clause-there c =
    let t = c.self.inside in
    let k = c.args.key in
    let l = c.unwrap-linked.result.now in
    let item = some-at c.find.result c.unwrap-linked.result (λ v. item_at seat_key k t.rows.seats ≡ Some (seat k v.now)) c.unwrap-linked.ensures c.find.ensures.some in
    let on = on-place (parts t) k (standing l.entry.state l.at) c.self.invariant.lists (post-at t.rows.seats k l item) (subst (λ z. stands k z.sequences ≡ true) (sym c.self.view_is) c.requires) in
    let same : on.place ≡ c.unwrap.result = some_is (sym on.at_is ∙ c.unwrap.ensures) in
    ap (λ p. is_some (element_at p (nodes_of l.entry.state t.queues))) (sym same) ∙ ap is_some on.node

pub returns : goal.returns
returns c =
    let t = c.self.inside in
    let k = c.args.key in
    let l = c.unwrap-linked.result.now in
    let kept = c.self.invariant.lists in
    let item = some-at c.find.result c.unwrap-linked.result (λ v. item_at seat_key k t.rows.seats ≡ Some (seat k v.now)) c.unwrap-linked.ensures c.find.ensures.some in
    let on = on-place (parts t) k (standing l.entry.state l.at) kept (post-at t.rows.seats k l item) (subst (λ z. stands k z.sequences ≡ true) (sym c.self.view_is) c.requires) in
    let same : on.place ≡ c.unwrap.result = some_is (sym on.at_is ∙ c.unwrap.ensures) in
    let node : element_at c.unwrap.result (nodes_of l.entry.state t.queues) ≡ Some k = ap (λ p. element_at p (nodes_of l.entry.state t.queues)) (sym same) ∙ on.node in
    subst (λ z. (u : State) → stands_on k (sequence_of u z.sequences) ≡ true → c.key_ahead.result ≡ next_to k (oldest_first u z.sequences)) c.self.view_is
    (λ u there. newer-on (parts t) k l.entry.state c.unwrap.result c.key_ahead.result u kept node c.key_ahead.ensures there)
