use Rattle.std.proofs.Common.{◌≡◌, ◌<◌, [], sym, ap, ◌∙◌, subst, arith}
use Rattle.arc_core.specs.ShardLog.{ShardLog}
use Rattle.arc_core.specs.Step.{legal}
use Rattle.arc_table.specs.declared.both.Both.{Both}
use Rattle.arc_table.specs.declared.in_hand.Taken.{Taken}
use Rattle.arc_table.specs.declared.scan.Scan.{Scan}
use Rattle.arc_table.specs.scans.Evicting.{MayBegin}
use Rattle.arc_table.specs.Items.{Meanings}
use Rattle.arc_table.proofs.scans.ScanBegins.{may_keeps, scan_begins}
use Rattle.arc_table.proofs.scans.ScanSteps.{legal_then, may_after}
use Rattle.arc_table.proofs.arcs.Arcs.begin_scan.Goals as goal

pub name_victims-requires-clause-scan : goal.name_victims-requires-clause-scan
name_victims-requires-clause-scan g c =
    let m : Meanings g.row.C.Denot = g.C.Keeps in
    let s : Scan = record { both = record { hand = c.reserve.new.both.hand; turn = c.reserve.new.both.turn; shard = c.unmark_all.new.self }; marked = c.in-Ok.marked } in
    let unmarked : c.unmark_all.new.self ≡ record c.reserve.new.both.shard { marked = [] } = c.unmark_all.ensures ∙ ap (λ (l : ShardLog). let x : ShardLog = record l { marked = [] } in x) c.deref_mut.ensures.value in
    let is : s.both ≡ record c.reserve.new.both { shard = record c.reserve.new.both.shard { marked = [] } } = ap (λ (l : ShardLog). let b : Both = record { hand = c.reserve.new.both.hand; turn = c.reserve.new.both.turn; shard = l } in b) unmarked in
    record {
      from = c.args.party.now;
      passes = [];
      may = (let h = may_keeps c.args.self.now.config c.args.both c.reserve.new.both c.args.party.now c.in-Ok.ensures.same c.requires.may in h);
      scan = scan_begins m c.args.self.now.config c.args.both c.reserve.new.both c.args.party.now s c.in-Ok.ensures.same c.requires.may c.requires.new c.requires.alone is;
    }

pub returns-clause-ok : goal.returns-clause-ok
returns-clause-ok g c =
    let m : Meanings g.row.C.Denot = g.C.Keeps in
    let cfg = c.args.self.now.config in
    let s : Scan = record { both = record { hand = c.reserve.new.both.hand; turn = c.reserve.new.both.turn; shard = c.unmark_all.new.self }; marked = c.in-Ok.marked } in
    let unmarked : c.unmark_all.new.self ≡ record c.reserve.new.both.shard { marked = [] } = c.unmark_all.ensures ∙ ap (λ (l : ShardLog). let x : ShardLog = record l { marked = [] } in x) c.deref_mut.ensures.value in
    let is : s.both ≡ record c.reserve.new.both { shard = record c.reserve.new.both.shard { marked = [] } } = ap (λ (l : ShardLog). let b : Both = record { hand = c.reserve.new.both.hand; turn = c.reserve.new.both.turn; shard = l } in b) unmarked in
    let k = c.in-Ok.ensures.same in
    let room = c.in-Ok.ensures.room.0 in
    let begun = scan_begins m cfg c.args.both c.reserve.new.both c.args.party.now s k c.requires.may c.requires.new c.requires.alone is in
    let may : MayBegin cfg s.both c.args.party.now = (let h = may_keeps cfg c.args.both c.reserve.new.both c.args.party.now k c.requires.may in h) in
    let did = c.name_victims.ensures in
    let scan = did.scan c.args.party.now [] may begun in
    let now : c.unmark_all.new.self.now ≡ c.args.both.shard.now = ap (λ (l : ShardLog). l.now) unmarked ∙ k.now in
    let entries : c.unmark_all.new.self.entry_room ≡ c.reserve.new.both.shard.entry_room = ap (λ (l : ShardLog). l.entry_room) unmarked in
    record {
      turn = did.hand.turn ∙ k.turn;
      own = ap (λ (t : Taken). t.turn) did.hand.own ∙ k.own;
      headers = ap (λ (t : Taken). t.bucket.headers) did.hand.own ∙ k.headers;
      before = did.hand.before ∙ k.before;
      header_room = subst (λ (t : Taken). 0 < t.bucket.spare) (sym did.hand.own) room.header;
      passes = scan.0;
      may = may_after cfg s.both c.name_victims.new.scan.both c.args.party.now did.hand may;
      scan = scan.1;
      room = did.room;
      entry_room = let a = did.entry_room in let b = room.entries in omega arith;
      named = did.named;
      legal = legal_then m cfg s c.name_victims.new.scan c.args.event.now c.args.party.now c.args.party.now c.name_victims.new.party [] scan.0 c.requires.event did.hand begun scan.1
          (ap (λ x. legal x c.args.event.now) now ∙ c.requires.legal);
    }
