use Rattle.std.proofs.Common.{◌≡◌, Some, IsSome, refl, sym, ap, subst, arith}
use Rattle.std.specs.Fn.{FnOnceReturnsAtMut}
use Rattle.arc_lists.specs.ByKey.{item_at}
use Rattle.arc_lists.specs.Posts.{members_of, standing}
use Rattle.arc_lists.proofs.Changing.{ListsKeep-change_state, changed-sequences, posts_with, room_without}
use Rattle.arc_lists.proofs.Keeping.{is-on, size_at-lt}
use Rattle.arc_lists.proofs.Placing.{member-at}
use Rattle.arc_lists.proofs.SizeSums.{member-le}
use Rattle.arc_core.specs.declared.rows.Linked.{Linked}
use Rattle.arc_core.specs.seats.EntryRows.{parts}
use Rattle.arc_core.specs.PlainShard.{entry_key, is_unheld}
use Rattle.arc_core.specs.seats.Seats.{posts_in}
use Rattle.arc_core.proofs.EntryRows.{entries-change, entries-same, entry-at, keeps, keyed-changes, post-at, posts-change, seat-some}
use Rattle.arc_core.proofs.entries.Entries.change_near.Goals as goal

pub find_mut_near-linked-requires : goal.find_mut_near-linked-requires
find_mut_near-linked-requires g c = seat-some c.self.inside.rows.seats c.args.key (subst (λ z. IsSome (item_at entry_key c.args.key z.items)) (sym c.self.view_is) c.requires.there)

pub change-requires : goal.change-requires
change-requires g c =
    let e = c.find_mut_near-linked.result.now.entry in
    let there : item_at entry_key c.args.key c.args.self.now.items ≡ Some e =
    rw (← c.self.view_is) (entry-at c.self.inside.rows.seats c.args.key c.find_mut_near-linked.result.now c.self.invariant.keyed c.find_mut_near-linked.ensures.linked) in
    c.requires.takes e there _ refl

pub transfer-requires-clause-there : goal.transfer-requires-clause-there
transfer-requires-clause-there g c =
    let ss = c.self.inside.rows.seats in
    let l = c.find_mut_near-linked.result.now in
    rw (c.self.invariant.lists.sizes l.entry.state)
    (member-le c.args.key l.entry.state (members_of (posts_in ss))
    (member-at c.args.key (posts_in ss) (standing l.entry.state l.at) (post-at ss c.args.key l c.find_mut_near-linked.ensures.linked)))

pub transfer-requires-clause-room : goal.transfer-requires-clause-room
transfer-requires-clause-room g c =
    omega (arith, size_at-lt (parts c.self.inside) c.change.new.arg2.state c.args.key.size c.self.invariant.lists (omega (arith, c.requires.size.2)))

pub leave-requires : goal.leave-requires
leave-requires g c =
    let l = c.find_mut_near-linked.result.now in
    is-on (parts c.self.inside) c.args.key (standing l.entry.state l.at) c.self.invariant.lists (post-at c.self.inside.rows.seats c.args.key l c.find_mut_near-linked.ensures.linked)

pub enter-linked-requires : goal.enter-linked-requires
enter-linked-requires g c =
    let l = c.find_mut_near-linked.result.now in
    rw c.leave.ensures
    (room_without (parts c.self.inside) c.args.key (standing l.entry.state l.at) c.self.invariant.lists (post-at c.self.inside.rows.seats c.args.key l c.find_mut_near-linked.ensures.linked))

pub invariant_of-self : goal.invariant_of-self
invariant_of-self g c =
    let t = c.self.inside in
    let k = c.args.key in
    let l = c.find_mut_near-linked.result.now in
    let e = c.change.new.arg2 in
    let item = c.find_mut_near-linked.ensures.linked in
    let n : Linked = record { at = c.enter-linked.result; entry = e } in
    let there : item_at entry_key k c.args.self.now.items ≡ Some l.entry = rw (← c.self.view_is) (entry-at t.rows.seats k l c.self.invariant.keyed item) in
    let gave : FnOnceReturnsAtMut g.F.FnOnce c.args.change l.entry tt e = record { shown = _; shows = refl; left = _; met = c.change.ensures; leaves = refl } in
    let is : e.key ≡ k = c.requires.keeps l.entry e there gave in
    keeps _ (keyed-changes t.rows.seats k n is c.self.invariant.keyed)
    (ListsKeep-change_state (parts t) _ k (standing l.entry.state l.at) e.state c.enter-linked.result c.is_unheld-unheld.result c.self.invariant.lists (post-at t.rows.seats k l item) c.requires.size.2
    (ap (λ ps. posts_with ps t.rows.spare) (posts-change t.rows.seats k n)) c.transfer.ensures (rw c.leave.ensures at c.enter-linked.ensures))

pub returns : goal.returns
returns g c =
    let t = c.self.inside in
    let k = c.args.key in
    let l = c.find_mut_near-linked.result.now in
    let e = c.change.new.arg2 in
    let item = c.find_mut_near-linked.ensures.linked in
    let n : Linked = record { at = c.enter-linked.result; entry = e } in
    let there : item_at entry_key k c.args.self.now.items ≡ Some l.entry = rw (← c.self.view_is) (entry-at t.rows.seats k l c.self.invariant.keyed item) in
    let gave : FnOnceReturnsAtMut g.F.FnOnce c.args.change l.entry tt e = record { shown = _; shows = refl; left = _; met = c.change.ensures; leaves = refl } in
    let is : e.key ≡ k = c.requires.keeps l.entry e there gave in
    record {
      before = l.entry;
      after = e;
      there = there;
      made = gave;
      entries = rw (← c.self.view_is)
          (entries-same _ _ _ _ _ _ _ (entries-change t.rows.seats k n is)
          (changed-sequences (parts t) k (standing l.entry.state l.at) e.state c.enter-linked.result (is_unheld e) c.enter-linked.new.self c.self.invariant.lists (post-at t.rows.seats k l item)
          (rw (c.leave.ensures, c.is_unheld-unheld.ensures) at c.enter-linked.ensures)));
    }
