use Rattle.std.proofs.Common.{ℕ, ◌<◌, refl, sym, subst}
use Rattle.arc_core.specs.PlainShard.{numbers}
use Rattle.arc_core.specs.declared.event.Event.{Event}
use Rattle.arc_core.specs.declared.event.Event.TheVariants.{Resize}
use Rattle.turn_table.specs.Places.{Place}
use Rattle.arc_table.specs.declared.scan.Scan.{Scan}
use Rattle.arc_table.specs.declared.view.Known.{Known}
use Rattle.arc_table.specs.Cache.{IsPartyOf}
use Rattle.arc_table.specs.scans.Ending.{MakesRoomy}
use Rattle.arc_table.specs.InHand.{made_since}
use Rattle.arc_table.specs.Items.{Meanings}
use Rattle.arc_table.specs.Making.{IsMade}
use Rattle.arc_table.proofs.reads.MissEvents.{makes_roomy, may_taken, none_makes, none_roomier, scanned_party, scanned_replayed}
use Rattle.arc_table.proofs.OneEvent.{taken_few}
use Rattle.arc_table.proofs.CapacityEvents.{resize_legal, resize_made}
use Rattle.arc_table.proofs.Lent.{lent_legal, lent_makes}
use Rattle.arc_table.proofs.arcs.Arcs.resize_taken.Goals as goal

pub begin_scan-requires-clause-may : goal.begin_scan-requires-clause-may
begin_scan-requires-clause-may g c =
    let m : Meanings g.row.C.Denot = g.C.Keeps in
    may_taken m c.args.self.now.config c.args.key c.args.both c.args.party.now c.requires.taken c.requires.party.config c.requires.taken.kind.valid c.requires.others

pub begin_scan-requires-clause-new : goal.begin_scan-requires-clause-new
begin_scan-requires-clause-new g c = c.requires.taken.new

pub begin_scan-requires-clause-alone : goal.begin_scan-requires-clause-alone
begin_scan-requires-clause-alone g c = c.requires.taken.kind.alone

pub begin_scan-requires-clause-legal : goal.begin_scan-requires-clause-legal
begin_scan-requires-clause-legal g c =
    let m : Meanings g.row.C.Denot = g.C.Keeps in
    let few = taken_few m c.args.self.now.config c.args.key c.args.both c.args.party.now c.requires.taken c.requires.party.config c.requires.taken.kind.valid in
    resize_legal c.number-n.result c.args.c c.args.both.shard.now (subst (λ (n : ℕ). n < numbers) (sym c.number-n.ensures) few) c.requires.capacity

pub resize-requires-clause-legal : goal.resize-requires-clause-legal
resize-requires-clause-legal g c = lent_legal (Resize c.number-n.result c.args.c) c.deref_mut.ensures.value c.in-Ok.ensures.ok.legal

pub give_both-requires-clause-made : goal.give_both-requires-clause-made
give_both-requires-clause-made g c =
    let m : Meanings g.row.C.Denot = g.C.Keeps in
    let e = c.in-Err.ensures.err in
    subst (λ (q : Place (Known g.row.C.Denot)). IsMade m c.args.self.now.config c.args.key (made_since c.in-Err.both.hand.before.value c.in-Err.both.shard) c.in-Err.both q) (sym e.2)
    (none_roomier m c.args.self.now.config c.args.key c.args.both c.args.party.now c.requires.taken c.requires.party.config c.requires.taken.kind.valid c.in-Err.both e.0 e.1)

pub give_both-requires-clause-party : goal.give_both-requires-clause-party
give_both-requires-clause-party g c = subst (IsPartyOf c.args.self.now) (sym c.in-Err.ensures.err.2) c.requires.party

pub returns-in-Err-clause-err : goal.returns-in-Err-clause-err
returns-in-Err-clause-err g c =
    let m : Meanings g.row.C.Denot = g.C.Keeps in
    let e = c.in-Err.ensures.err in
    none_makes m c.args.self.now.config c.args.key c.args.both c.in-Err.both c.args.party.now c.begin_scan.new.party c.give_both.new.party e.0 c.requires.taken.new e.2 c.give_both.ensures

pub end_scan-requires-clause-party : goal.end_scan-requires-clause-party
end_scan-requires-clause-party g c =
    let m : Meanings g.row.C.Denot = g.C.Keeps in
    scanned_party m c.args.self.now.config c.args.both (Resize c.number-n.result c.args.c) c.args.self.now c.args.party.now c.begin_scan.new.party c.in-Ok.scan c.in-Ok.ensures.ok c.requires.party

pub end_scan-requires-clause-made : goal.end_scan-requires-clause-made
end_scan-requires-clause-made g c =
    let m : Meanings g.row.C.Denot = g.C.Keeps in
    let h = c.in-Ok.ensures.ok in
    let s : Scan = c.in-Ok.scan in (
      Resize c.number-n.result c.args.c,
      h.passes,
      c.args.party.now,
      s.both.shard,
      s.both.hand.own.bucket,
      resize_made m c.args.self.now.config c.args.both c.args.party.now c.begin_scan.new.party c.number-n.result c.args.c s c.resize.new.self h c.number-n.ensures c.requires.feeder (lent_makes c.deref_mut.ensures.value c.resize.ensures.makes),
    )

pub returns-clause-ok : goal.returns-clause-ok
returns-clause-ok g c =
    let m : Meanings g.row.C.Denot = g.C.Keeps in
    let h = c.in-Ok.ensures.ok in
    let s : Scan = c.in-Ok.scan in
    let s' : Scan = record { both = record { hand = s.both.hand; turn = s.both.turn; shard = c.resize.new.self }; marked = s.marked } in
    let e : Event = Resize c.number-n.result c.args.c in
    let made = makes_roomy m c.args.self.now.config c.args.key c.args.both c.args.party.now c.begin_scan.new.party c.end_scan.new.party c.requires.taken.kind.turn c.requires.taken.kind.own c.requires.taken.new
    e s s' h (scanned_replayed m c.args.self.now.config c.args.both e c.args.party.now c.begin_scan.new.party s h c.requires.taken.new) (lent_makes c.deref_mut.ensures.value c.resize.ensures.makes) refl refl refl refl c.end_scan.ensures in
    subst (λ (n : ℕ). MakesRoomy m c.args.self.now.config c.args.key c.args.both.shard (Resize n c.args.c) c.args.party.now c.end_scan.new.party) c.number-n.ensures made
