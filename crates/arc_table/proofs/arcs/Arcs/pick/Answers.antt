use Rattle.std.proofs.Common.{◌≡◌, ℕ, List, [], length, sym, ap, ◌∙◌, subst}
use Rattle.arc_core.specs.ShardLog.{ShardLog}
use Rattle.turn_table.specs.Places.{Place}
use Rattle.arc_table.specs.declared.item.Item.TheVariants as item
use Rattle.arc_table.specs.declared.picks.Picked.{Picked}
use Rattle.arc_table.specs.declared.view.Known.{Known}
use Rattle.arc_table.specs.Both.{Takes}
use Rattle.arc_table.specs.feeder.Picking.{Feeds, PicksAll}
use Rattle.arc_table.proofs.Afterwards.{stays_free}
use Rattle.arc_table.proofs.feeder.FeedEnds.{feeding_begins, feeds_end, feeds_stays, front_is, picks_all}
use Rattle.arc_table.proofs.arcs.Arcs.pick.Goals as goal

pub pick_all-requires-clause-feeding : goal.pick_all-requires-clause-feeding
pick_all-requires-clause-feeding g c =
    let b = c.begin_feed-feed in
    feeding_begins c.args.self.now.config b.result b.new.party c.args.out.now.items (b.ensures.had ∙ ap (λ (xs : List Picked). length xs) c.as_slice.ensures.value) b.ensures.scan b.ensures.picked

pub returns-in-Ok-clause-ok : goal.returns-in-Ok-clause-ok
returns-in-Ok-clause-ok g c =
    let m = g.C.Keeps in
    let config = c.args.self.now.config in
    let b = c.begin_feed-feed in
    let p = c.args.party.now in
    let f = c.pick_all.new.feed in
    let r = c.pick_all.new.party in
    let s = c.end_feed.new.party in
    let k = c.pick_all.ensures.kept in
    let h = c.pick_all.ensures.feeding in
    let began : f.began.value ≡ b.new.party = ap (λ x. x.value) k.began ∙ b.ensures.began in
    let takes : Takes m f.turn (item.Shard f.before.value) p f.began.value = subst (λ (x : ℕ × ShardLog × Place (Known g.row.C.Denot)). Takes m x.0 (item.Shard x.1) p x.2) (λ z. (sym k.turn z, ap (λ y. y.value) (sym k.before) z, sym began z)) b.ensures.takes in
    let number : r.number ≡ p.number = h.scan.tried.number ∙ (ap (λ (x : Place (Known g.row.C.Denot)). x.number) began ∙ b.ensures.number) in
    let own : r.own.number ≡ p.number = h.scan.tried.own_number ∙ (ap (λ (x : Place (Known g.row.C.Denot)). x.own.number) began ∙ (b.ensures.own ∙ b.ensures.number)) in
    let feeds : r.own.number ≡ r.own.about.config.callers = own ∙ (c.requires.feeder ∙ ap (λ x. x.callers) (sym c.pick_all.ensures.party.config)) in
    subst (λ (i : ℕ). PicksAll m config i p s c.args.out.now.items c.pick_all.new.out.items) (k.turn ∙ b.ensures.turn)
    (picks_all m config f p r s takes c.args.out.now.items c.pick_all.new.out.items h feeds number
    (front_is f.had c.args.out.now.items c.pick_all.new.out.items (k.had ∙ (b.ensures.had ∙ ap (λ (xs : List Picked). length xs) c.as_slice.ensures.value)) (subst (λ (n : ℕ). Rattle.std.proofs.Common.take n c.pick_all.new.out.items ≡ Rattle.std.proofs.Common.take n c.args.out.now.items) (sym k.had) c.pick_all.ensures.front)) c.end_feed.ensures)

pub returns-in-Ok-clause-free : goal.returns-in-Ok-clause-free
returns-in-Ok-clause-free g c =
    let m = g.C.Keeps in
    let d = returns-in-Ok-clause-ok g c in
    stays_free c.args.self.now c.args.party.now c.end_feed.new.party (feeds_stays m c.args.self.now.config _ _ c.args.party.now c.end_feed.new.party d.feeds) c.requires.look

pub returns-in-Err-clause-err : goal.returns-in-Err-clause-err
returns-in-Err-clause-err g c =
    let m = g.C.Keeps in
    let config = c.args.self.now.config in
    let b = c.begin_feed-feed in
    let p = c.args.party.now in
    let f = c.pick_all.new.feed in
    let r = c.pick_all.new.party in
    let s = c.end_unpicked.new.party in
    let k = c.pick_all.ensures.kept in
    let h = c.pick_all.ensures.feeding in
    let began : f.began.value ≡ b.new.party = ap (λ x. x.value) k.began ∙ b.ensures.began in
    let takes : Takes m f.turn (item.Shard f.before.value) p f.began.value = subst (λ (x : ℕ × ShardLog × Place (Known g.row.C.Denot)). Takes m x.0 (item.Shard x.1) p x.2) (λ z. (sym k.turn z, ap (λ y. y.value) (sym k.before) z, sym began z)) b.ensures.takes in
    subst (λ (i : ℕ). Feeds m config i [] p s) (k.turn ∙ b.ensures.turn) (feeds_end m config f p r s takes h.es h.scan [] [] c.end_unpicked.ensures)

pub returns-in-Err-clause-free : goal.returns-in-Err-clause-free
returns-in-Err-clause-free g c =
    let m = g.C.Keeps in
    stays_free c.args.self.now c.args.party.now c.end_unpicked.new.party (feeds_stays m c.args.self.now.config _ [] c.args.party.now c.end_unpicked.new.party (returns-in-Err-clause-err g c)) c.requires.look

pub returns-in-Ok-clause-held : goal.returns-in-Ok-clause-held
returns-in-Ok-clause-held g c =
    let m = g.C.Keeps in
    let d = returns-in-Ok-clause-ok g c in
    (feeds_stays m c.args.self.now.config _ _ c.args.party.now c.end_feed.new.party d.feeds).held

pub returns-in-Err-clause-held : goal.returns-in-Err-clause-held
returns-in-Err-clause-held g c =
    let m = g.C.Keeps in
    (feeds_stays m c.args.self.now.config _ [] c.args.party.now c.end_unpicked.new.party (returns-in-Err-clause-err g c)).held
