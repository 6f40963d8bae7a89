use Rattle.std.proofs.Common.{◌≡◌, ◌-◌, ◌<◌, None, false, refl, sym, ap, subst, ◌∙◌, arith}
use Rattle.arc_lists.specs.ByKey.{has_key, with_item}
use Rattle.arc_lists.proofs.Changing.{posts_with}
use Rattle.arc_lists.proofs.Keeping.{ListsKeep-put_held, size_at-lt}
use Rattle.arc_core.specs.declared.rows.Linked.{Linked}
use Rattle.arc_core.specs.seats.EntryRows.{AreKeyed, parts}
use Rattle.arc_core.specs.PlainShard.{entry_key}
use Rattle.arc_core.specs.seats.Seats.{Seats, seat, seat_key}
use Rattle.arc_core.proofs.EntryRows.{entries-come, entries-same, keeps, keyed-comes, no-post, no-seat, posts-come, posts_of}
use Rattle.arc_core.proofs.entries.Entries.add.Goals as goal

pub add-requires-clause-absent : goal.add-requires-clause-absent
add-requires-clause-absent c =
    no-seat c.self.inside.rows.seats c.args.entry.now.key (subst (λ z. has_key entry_key c.args.entry.now.key z.items ≡ false) (sym c.self.view_is) c.requires.absent)

pub add-requires-2 : goal.add-requires-2
add-requires-2 c = omega (arith, size_at-lt (parts c.self.inside) c.args.entry.now.state c.args.entry.now.key.size c.self.invariant.lists (omega (arith, c.requires.size.2)))

pub invariant_of-self : goal.invariant_of-self
invariant_of-self c =
    let t = c.self.inside in
    let e = c.args.entry.now in
    let l : Linked = record { at = None; entry = e } in
    let some : 0 < t.rows.spare = subst (λ z. 0 < z.spare) (sym c.self.view_is) c.requires.room in
    let absent = no-post t.rows.seats e.key (subst (λ z. has_key entry_key e.key z.items ≡ false) (sym c.self.view_is) c.requires.absent) in
    let come : c.add.new.self.seats ≡ with_item seat_key (seat e.key l) t.rows.seats = ap (λ (m : Seats). m.seats) c.add.ensures in
    keeps _ (subst AreKeyed (sym come) (keyed-comes t.rows.seats e.key l refl c.self.invariant.keyed))
    (ListsKeep-put_held (parts t) _ e.key e.state c.self.invariant.lists some absent c.requires.size.2
    (ap posts_of c.add.ensures ∙ ap (λ ps. posts_with ps (t.rows.spare - 1)) (posts-come t.rows.seats e.key l)) c.add-2.ensures refl)

pub returns : goal.returns
returns c =
    let t = c.self.inside in
    let e = c.args.entry.now in
    let l : Linked = record { at = None; entry = e } in
    rw (← c.self.view_is, c.add.ensures) (entries-same _ _ _ _ _ _ _ (entries-come t.rows.seats e.key l refl) refl)
