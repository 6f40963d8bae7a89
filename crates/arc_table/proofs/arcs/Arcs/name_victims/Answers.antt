use Rattle.std.proofs.Common.{◌≡◌, ◌<◌, List, sym, ap, subst, arith, ◌∙◌}
use Rattle.arc_core.specs.declared.event.Event.{Event}
use Rattle.arc_core.specs.Owed.{room_for}
use Rattle.arc_core.specs.ShardLog.{IsUnnamed, ShardLog}
use Rattle.turn_table.specs.Places.{Place}
use Rattle.arc_table.specs.declared.scan.Scan.{Scan}
use Rattle.arc_table.specs.declared.view.Known.{Known}
use Rattle.arc_table.specs.scans.Evicting.{HasScanRoom, IsScan, IsScanning, MayBegin, left_of}
use Rattle.arc_table.specs.Items.{Meanings}
use Rattle.arc_table.proofs.scans.ScanSteps.{keeps_none, keeps_then, legal_then, may_after, party_after, room_below}
use Rattle.arc_table.proofs.Lent.{lent_legal}
use Rattle.arc_table.proofs.arcs.Arcs.name_victims.Goals as goal

pub loop-key-init : goal.loop-key-init
loop-key-init g c = record {
  hand = keeps_none c.args.scan.now.both;
  party = c.requires.party;
  scan = λ p es may scan. (es, scan);
  room = c.requires.room;
  entry_room = omega arith;
}

pub victim-requires : goal.victim-requires
victim-requires g c =
    let m : Meanings g.row.C.Denot = g.C.Keeps in
    let r = c.requires.scan in
    let s = c.loop-key.invariant.scan r.from r.passes r.may r.scan in
    lent_legal c.args.event.now c.deref_mut.ensures.value
    (legal_then m c.args.self.now.config c.args.scan.now c.loop-key.scan c.args.event.now r.from c.args.party.now c.loop-key.party r.passes s.0 c.requires.event c.loop-key.invariant.hand r.scan s.1 c.requires.legal)

pub name_victim-requires-clause-party : goal.name_victim-requires-clause-party
name_victim-requires-clause-party g c = c.loop-key.invariant.party

pub name_victim-requires-clause-victim : goal.name_victim-requires-clause-victim
name_victim-requires-clause-victim g c = (c.args.event.now, subst (IsUnnamed c.in-Some.key c.args.event.now) (sym c.in-Some.ensures.log) c.in-Some.ensures.some)

pub name_victim-requires-clause-scan : goal.name_victim-requires-clause-scan
name_victim-requires-clause-scan g c =
    let m : Meanings g.row.C.Denot = g.C.Keeps in
    let r = c.requires.scan in
    let s = c.loop-key.invariant.scan r.from r.passes r.may r.scan in
    subst (λ (l : ShardLog). IsScanning m c.args.self.now.config (record { both = record { hand = c.loop-key.scan.both.hand; turn = c.loop-key.scan.both.turn; shard = l }; marked = c.loop-key.scan.marked }) c.loop-key.party) (sym (c.in-Some.ensures.log ∙ c.deref_mut.ensures.value))
    record { from = r.from; passes = s.0; may = may_after c.args.self.now.config c.args.scan.now.both c.loop-key.scan.both r.from c.loop-key.invariant.hand r.may; scan = s.1 }

pub name_victim-requires-clause-room : goal.name_victim-requires-clause-room
name_victim-requires-clause-room g c =
    subst (λ (l : ShardLog). HasScanRoom 0 (record { both = record { hand = c.loop-key.scan.both.hand; turn = c.loop-key.scan.both.turn; shard = l }; marked = c.loop-key.scan.marked })) (sym (c.in-Some.ensures.log ∙ c.deref_mut.ensures.value))
    (room_below (room_for c.args.event.now) c.loop-key.scan c.loop-key.invariant.room)

pub loop-key-smaller : goal.loop-key-smaller
loop-key-smaller g c =
    subst (λ (l : ShardLog). left_of c.name_victim.new.scan < left_of (record { both = record { hand = c.loop-key.scan.both.hand; turn = c.loop-key.scan.both.turn; shard = l }; marked = c.loop-key.scan.marked })) (c.in-Some.ensures.log ∙ c.deref_mut.ensures.value)
    c.name_victim.ensures.fewer

pub loop-key-preserved : goal.loop-key-preserved
loop-key-preserved g c =
    let m : Meanings g.row.C.Denot = g.C.Keeps in
    let cfg = c.args.self.now.config in
    let S : ShardLog → Scan = λ l. record { both = record { hand = c.loop-key.scan.both.hand; turn = c.loop-key.scan.both.turn; shard = l }; marked = c.loop-key.scan.marked } in
    let log : c.victim.new.self ≡ c.loop-key.scan.both.shard = (c.in-Some.ensures.log ∙ c.deref_mut.ensures.value) in
    let did = c.name_victim.ensures in
    let r = c.requires.scan in
    let before = c.loop-key.invariant in
    let step : (p : Place (Known g.row.C.Denot)) (es : List Event) → MayBegin cfg c.args.scan.now.both p → IsScan m cfg p c.args.party.now c.args.scan.now es → (more : List Event) × IsScan m cfg p c.name_victim.new.party c.name_victim.new.scan more =
    λ p es may scan. let s = before.scan p es may scan in
    subst (λ (l : ShardLog). IsScan m cfg p c.loop-key.party (S l) s.0 → (more : List Event) × IsScan m cfg p c.name_victim.new.party c.name_victim.new.scan more) log
    (did.scan p s.0 (may_after cfg c.args.scan.now.both (S c.victim.new.self).both p (record { turn = before.hand.turn; own = before.hand.own; before = before.hand.before }) may)) s.1 in
    let s = before.scan r.from r.passes r.may r.scan in
    let s' = step r.from r.passes r.may r.scan in
    record {
      hand = keeps_then c.args.scan.now.both (S c.victim.new.self).both c.name_victim.new.scan.both (record { turn = before.hand.turn; own = before.hand.own; before = before.hand.before }) did.hand;
      party = party_after m cfg r.from c.args.self.now c.args.party.now c.name_victim.new.party c.args.scan.now c.name_victim.new.scan r.passes s'.0
          (keeps_then c.args.scan.now.both (S c.victim.new.self).both c.name_victim.new.scan.both (record { turn = before.hand.turn; own = before.hand.own; before = before.hand.before }) did.hand) r.scan s'.1 c.requires.party;
      scan = step;
      room = did.room (room_for c.args.event.now) (subst (λ (l : ShardLog). HasScanRoom (room_for c.args.event.now) (S l)) (sym log) before.room);
      entry_room = let a = did.entry_room in let b = before.entry_room in let d : c.victim.new.self.entry_room ≡ c.loop-key.scan.both.shard.entry_room = ap (λ (l : ShardLog). l.entry_room) log in omega arith;
    }

pub returns-clause-hand : goal.returns-clause-hand
returns-clause-hand g c = let h = c.loop-key.invariant.hand in record { turn = h.turn; own = h.own; before = h.before }

pub returns-clause-scan : goal.returns-clause-scan
returns-clause-scan g c p es may scan =
    let m : Meanings g.row.C.Denot = g.C.Keeps in
    let s = c.loop-key.invariant.scan p es may scan in
    (s.0, subst (λ (l : ShardLog). IsScan m c.args.self.now.config p c.loop-key.party (record { both = record { hand = c.loop-key.scan.both.hand; turn = c.loop-key.scan.both.turn; shard = l }; marked = c.loop-key.scan.marked }) s.0) (sym (c.in_default.ensures.log ∙ c.deref_mut.ensures.value)) s.1)

pub returns-clause-room : goal.returns-clause-room
returns-clause-room g c =
    subst (λ (l : ShardLog). HasScanRoom (room_for c.args.event.now) (record { both = record { hand = c.loop-key.scan.both.hand; turn = c.loop-key.scan.both.turn; shard = l }; marked = c.loop-key.scan.marked })) (sym (c.in_default.ensures.log ∙ c.deref_mut.ensures.value))
    c.loop-key.invariant.room

pub returns-clause-entry_room : goal.returns-clause-entry_room
returns-clause-entry_room g c = let a = c.loop-key.invariant.entry_room in let d : c.victim.new.self.entry_room ≡ c.loop-key.scan.both.shard.entry_room = ap (λ (l : ShardLog). l.entry_room) (c.in_default.ensures.log ∙ c.deref_mut.ensures.value) in omega arith
