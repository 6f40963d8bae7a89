use Rattle.std.proofs.Common.{◌≡◌, Some, refl, sym, ap, ◌∙◌, subst}
use Rattle.std.specs.Prelude.{MatchOption, length}
use Rattle.blk_ptr.specs.declared.digest.Digest.{Digest}
use Rattle.blk_ptr.specs.declared.key.Key.{Key}
use Rattle.blk_ptr.specs.Ptr.{sha256_of}
use Rattle.arc_core.specs.declared.event.Event.{Event}
use Rattle.arc_core.specs.declared.event.Event.TheVariants.{Insert}
use Rattle.turn_table.specs.Places.{Place}
use Rattle.arc_table.specs.declared.scan.Scan.{Scan}
use Rattle.arc_table.specs.declared.view.Known.{Known}
use Rattle.hash_chain.specs.Chain.{IsWith}
use Rattle.hash_chain.specs.declared.header.Header.{Header}
use Rattle.arc_table.specs.Cache.{IsPartyOf}
use Rattle.arc_table.specs.scans.Ending.{MakesRoomy}
use Rattle.arc_table.specs.InHand.{made_since}
use Rattle.arc_table.specs.Making.{IsMade}
use Rattle.arc_table.specs.Items.{Meanings}
use Rattle.arc_table.proofs.cell_lemmas.InsertEvents.{insert_legal, insert_made, insert_there, there_some}
use Rattle.arc_table.proofs.reads.MissEvents.{makes_roomy, may_taken, none_makes, none_roomier, scanned_party, scanned_replayed}
use Rattle.arc_table.proofs.Lent.{lent_legal, lent_makes}
use Rattle.arc_table.proofs.arcs.Arcs.insert_taken.Goals as goal

pub begin_scan-requires-clause-may : goal.begin_scan-requires-clause-may
begin_scan-requires-clause-may g c =
    let m : Meanings g.row.C.Denot = g.C.Keeps in
    may_taken m c.args.self.now.config c.args.key c.args.both c.args.party.now c.requires.taken c.requires.party.config c.requires.taken.kind.valid c.requires.others

pub begin_scan-requires-clause-new : goal.begin_scan-requires-clause-new
begin_scan-requires-clause-new g c = c.requires.taken.new

pub begin_scan-requires-clause-alone : goal.begin_scan-requires-clause-alone
begin_scan-requires-clause-alone g c = c.requires.taken.kind.alone

pub begin_scan-requires-clause-legal : goal.begin_scan-requires-clause-legal
begin_scan-requires-clause-legal g c =
    let m : Meanings g.row.C.Denot = g.C.Keeps in
    insert_legal c.args.self.now.config c.args.party.now c.args.n c.args.tick c.args.key c.digest-digest.result c.args.both.shard.now c.requires.taken.kind.valid c.requires.cell c.requires.formed c.requires.new

pub insert-requires-clause-legal : goal.insert-requires-clause-legal
insert-requires-clause-legal g c = lent_legal (Insert c.args.n c.args.key c.digest-digest.result c.args.tick) c.deref_mut-shard.ensures.value c.in-Ok.ensures.ok.legal

pub give_both-requires-clause-made : goal.give_both-requires-clause-made
give_both-requires-clause-made g c =
    let m : Meanings g.row.C.Denot = g.C.Keeps in
    let e = c.in-Err.ensures.err in
    subst (λ (q : Place (Known g.row.C.Denot)). IsMade m c.args.self.now.config c.args.key (made_since c.in-Err.both.hand.before.value c.in-Err.both.shard) c.in-Err.both q) (sym e.2)
    (none_roomier m c.args.self.now.config c.args.key c.args.both c.args.party.now c.requires.taken c.requires.party.config c.requires.taken.kind.valid c.in-Err.both e.0 e.1)

pub give_both-requires-clause-party : goal.give_both-requires-clause-party
give_both-requires-clause-party g c = subst (IsPartyOf c.args.self.now) (sym c.in-Err.ensures.err.2) c.requires.party

pub returns-in-Err-clause-err : goal.returns-in-Err-clause-err
returns-in-Err-clause-err g c =
    let m : Meanings g.row.C.Denot = g.C.Keeps in
    let e = c.in-Err.ensures.err in
    none_makes m c.args.self.now.config c.args.key c.args.both c.in-Err.both c.args.party.now c.begin_scan.new.party c.give_both.new.party e.0 c.requires.taken.new e.2 c.give_both.ensures

pub written_header-header-requires : goal.written_header-header-requires
written_header-header-requires g c =
    let h = c.in-Ok.ensures.ok in
    there_some (insert_there c.args.n c.args.tick c.args.key c.digest-digest.result c.in-Ok.scan.both.shard c.insert.new.self h.scan.replayed h.legal (lent_makes c.deref_mut-shard.ensures.value c.insert.ensures.makes))

pub end_scan-requires-clause-party : goal.end_scan-requires-clause-party
end_scan-requires-clause-party g c =
    let m : Meanings g.row.C.Denot = g.C.Keeps in
    scanned_party m c.args.self.now.config c.args.both (Insert c.args.n c.args.key c.digest-digest.result c.args.tick) c.args.self.now c.args.party.now c.begin_scan.new.party c.in-Ok.scan c.in-Ok.ensures.ok c.requires.party

pub end_scan-requires-clause-made : goal.end_scan-requires-clause-made
end_scan-requires-clause-made g c =
    let m : Meanings g.row.C.Denot = g.C.Keeps in
    let h = c.in-Ok.ensures.ok in
    let s : Scan = c.in-Ok.scan in
    let s' : Scan = record {
      both = record { hand = record { own = record { turn = s.both.hand.own.turn; bucket = c.put_header.new.bucket }; victims = s.both.hand.victims; before = s.both.hand.before }; turn = s.both.turn; shard = c.insert.new.self };
      marked = s.marked;
    } in
    let x = c.written_header-header.ensures in
    let o : Header = c.written_header-header.result in
    let key : o.key ≡ c.args.key = ap (λ (y : Header). y.key) x.2 in
    let with : IsWith c.args.key (Some o) s.both.hand.own.bucket.headers c.put_header.new.bucket.headers = subst (λ (y : Key). IsWith y (Some o) s.both.hand.own.bucket.headers c.put_header.new.bucket.headers) key c.put_header.ensures in
    let digest_is : sha256_of c.args.block.value ≡ c.digest-digest.result = ap sha256_of (sym c.deref.ensures) ∙ sym c.digest-digest.ensures in
    let block : MatchOption o.block ⊥ (λ b. (sha256_of b.block.value ≡ c.digest-digest.result) × (length b.block.value ≡ c.args.key.size)) =
    subst (λ (y : Header). MatchOption y.block ⊥ (λ b. (sha256_of b.block.value ≡ c.digest-digest.result) × (length b.block.value ≡ c.args.key.size))) (sym x.2) (digest_is, c.requires.size) in (
      Insert c.args.n c.args.key c.digest-digest.result c.args.tick,
      h.passes,
      c.args.party.now,
      s.both.shard,
      s.both.hand.own.bucket,
      insert_made m c.args.self.now.config c.args.key c.args.both c.args.party.now c.begin_scan.new.party c.args.n c.args.tick c.digest-digest.result s s' h c.requires.taken.kind.turn c.requires.taken.kind.own c.requires.cell
          (lent_makes c.deref_mut-shard.ensures.value c.insert.ensures.makes) refl refl refl refl refl x.0 x.1 o
          (ap (λ (y : Header). y.state) x.2, ap (λ (y : Header). y.reading) x.2, ap (λ (y : Header). y.place) x.2, ap (λ (y : Header). y.digest) x.2, block) with,
    )

pub returns-clause-ok : goal.returns-clause-ok
returns-clause-ok g c =
    let m : Meanings g.row.C.Denot = g.C.Keeps in
    let h = c.in-Ok.ensures.ok in
    let s : Scan = c.in-Ok.scan in
    let s' : Scan = record {
      both = record { hand = record { own = record { turn = s.both.hand.own.turn; bucket = c.put_header.new.bucket }; victims = s.both.hand.victims; before = s.both.hand.before }; turn = s.both.turn; shard = c.insert.new.self };
      marked = s.marked;
    } in
    let e : Event = Insert c.args.n c.args.key c.digest-digest.result c.args.tick in
    let made = makes_roomy m c.args.self.now.config c.args.key c.args.both c.args.party.now c.begin_scan.new.party c.end_scan.new.party c.requires.taken.kind.turn c.requires.taken.kind.own c.requires.taken.new
    e s s' h (scanned_replayed m c.args.self.now.config c.args.both e c.args.party.now c.begin_scan.new.party s h c.requires.taken.new) (lent_makes c.deref_mut-shard.ensures.value c.insert.ensures.makes) refl refl refl refl c.end_scan.ensures in
    subst (λ (d : Digest). MakesRoomy m c.args.self.now.config c.args.key c.args.both.shard (Insert c.args.n c.args.key d c.args.tick) c.args.party.now c.end_scan.new.party) (c.digest-digest.ensures ∙ ap sha256_of c.deref.ensures) made
