use Rattle.std.proofs.Common.{◌≡◌, ◌+◌, ℕ, length, [], false, refl, sym, ap, ◌∙◌, subst, inr}
use Rattle.std.specs.Prelude.{OnErr, Result, Ok, Err}
use Rattle.blk_ptr.specs.declared.digest.Digest.{Digest}
use Rattle.blk_ptr.specs.Ptr.{sha256_of}
use Rattle.arc_core.specs.declared.event.Event.TheVariants.{Insert}
use Rattle.arc_core.specs.Step.{is_new_here}
use Rattle.turn_table.specs.Board.{IsAmong}
use Rattle.arc_table.specs.Both.{Does}
use Rattle.arc_table.specs.Cache.{Cache}
use Rattle.arc_table.specs.scans.Ending.{MakesRoomy}
use Rattle.arc_table.specs.Geometry.{cell_number}
use Rattle.arc_table.specs.Holding.{IsListed}
use Rattle.arc_table.proofs.Afterwards.{does_stays, stays_free, stays_party}
use Rattle.arc_table.proofs.Reached.{cell_recorded, reached}
use Rattle.arc_table.proofs.scans.RoomyAfter.{does_roomy_stays}
use Rattle.arc_table.proofs.scans.RoomyGives.{inserted_listed, only_bucket}
use Rattle.arc_table.proofs.Taking.{tells}
use Rattle.arc_core.specs.ShardLog.{ShardLog}
use Rattle.arc_table.proofs.arcs.Arcs.insert.Goals as goal

pub insert_taken-requires-clause-others : goal.insert_taken-requires-clause-others
insert_taken-requires-clause-others g c =
    let m = g.C.Keeps in
    let b = c.take_both-both in
    only_bucket c.args.self.now.config c.args.key c.args.party.now.held b.new.party.held b.ensures.kind.valid
    (reached m c.args.self.now.config c.args.key b.result.hand.own.bucket b.result.shard c.args.party.now b.new.party b.ensures.takes).held c.requires.look

pub returns-then-not-is_new_here-clause-ok : goal.returns-then-not-is_new_here-clause-ok
returns-then-not-is_new_here-clause-ok g c =
    let m = g.C.Keeps in
    let b = c.take_both-both in
    let k = c.args.key in
    let config = c.args.self.now.config in
    let f = c.front_of-front in (
      record { chain = b.result.hand.own.bucket; before = b.result.shard; reached = b.new.party; takes = b.ensures.takes; makes = c.give_back.ensures },
      tells m (λ s. is_new_here k s ≡ false) config k b.result.hand.own.bucket b.result.shard c.args.party.now b.new.party c.give_back.new.party f.result b.ensures.takes c.requires.party.config b.ensures.kind.valid
          f.ensures.shard (f.ensures.len ∙ ap (λ (l : ShardLog). length l.history) c.deref-shard.ensures) c.give_back.ensures (sym (c.is_new_here.ensures ∙ ap (λ (l : ShardLog). is_new_here k l.now) c.deref-shard.ensures) ∙ c.if-not-is_new_here.true),
    )

pub returns-in_err-insert_taken-clause-err : goal.returns-in_err-insert_taken-clause-err
returns-in_err-insert_taken-clause-err g c =
    let m = g.C.Keeps in
    let b = c.take_both-both in
    on_err c.from_residual.result (Does m c.args.self.now.config c.args.key [] c.args.party.now c.insert_taken.new.party)
    record { chain = b.result.hand.own.bucket; before = b.result.shard; reached = b.new.party; takes = b.ensures.takes; makes = c.in_err-insert_taken.ensures.err }
  where
    on_err : {T E : Type 0} (r : Result T E) (P : Type 0) → P → OnErr r P
    on_err (Ok x) P h = tt
    on_err (Err e) P h = h

pub returns-clause-ok : goal.returns-clause-ok
returns-clause-ok g c =
    let m = g.C.Keeps in
    let b = c.take_both-both in
    let k = c.args.key in
    let q = b.new.party in
    let r = c.insert_taken.new.party in
    let config = c.args.self.now.config in
    let valid = b.ensures.kind.valid in
    let i : ℕ = c.args.cell in
    let owner : c.self.inside.config.callers + 1 + i ≡ cell_number config i = ap (λ (x : Cache). x.config.callers + 1 + i) c.self.view_is in
    let bytes : sha256_of c.in-Ok.shared.value ≡ sha256_of c.args.block.value = ap sha256_of c.in-Ok.ensures in
    let made : MakesRoomy m config k b.result.shard (Insert (cell_number config i) k (sha256_of c.args.block.value) c.args.tick) q r =
    subst (λ (x : ℕ × Digest). MakesRoomy m config k b.result.shard (Insert x.0 k x.1 c.args.tick) q r) (λ z. (owner z, bytes z)) c.in_ok-insert_taken.ensures.ok in
    let reach = reached m config k b.result.hand.own.bucket b.result.shard c.args.party.now q b.ensures.takes in
    let among : IsAmong i q.held = subst (IsAmong i) (sym reach.held) (inr (inr c.requires.cell.1)) in
    let there = cell_recorded m config k b.result.hand.own.bucket b.result.shard c.args.party.now q b.ensures.takes c.requires.party.config valid i c.requires.cell.1 c.requires.cell.0 in (
      record { chain = b.result.hand.own.bucket; before = b.result.shard; reached = q; takes = b.ensures.takes; makes = made },
      refl,
      owner,
      refl,
      subst (λ (n : ℕ). IsListed config r n record { key = k; digest = sha256_of c.args.block.value }) (sym owner)
          (inserted_listed m config k b.result.shard (sha256_of c.args.block.value) c.args.tick i q r there.0 valid b.ensures.party.config c.requires.cell.0 among there.1 made),
    )

pub returns-then-not-is_new_here-clause-party : goal.returns-then-not-is_new_here-clause-party
returns-then-not-is_new_here-clause-party g c =
    let m = g.C.Keeps in
    stays_party c.args.self.now c.args.party.now c.give_back.new.party (does_stays m c.args.self.now.config c.take_both-both.ensures.kind.valid c.args.key [] c.args.party.now c.give_back.new.party c.requires.party.config (returns-then-not-is_new_here-clause-ok g c).0) c.requires.party

pub returns-clause-party : goal.returns-clause-party
returns-clause-party g c =
    let m = g.C.Keeps in
    stays_party c.args.self.now c.args.party.now c.insert_taken.new.party (does_roomy_stays m c.args.self.now.config c.take_both-both.ensures.kind.valid c.args.key (Insert (cell_number c.args.self.now.config c.args.cell) c.args.key (sha256_of c.args.block.value) c.args.tick) c.args.party.now c.insert_taken.new.party c.requires.party.config (returns-clause-ok g c).0) c.requires.party

pub returns-in_err-insert_taken-clause-party : goal.returns-in_err-insert_taken-clause-party
returns-in_err-insert_taken-clause-party g c =
    let m = g.C.Keeps in
    let b = c.take_both-both in
    stays_party c.args.self.now c.args.party.now c.insert_taken.new.party (does_stays m c.args.self.now.config b.ensures.kind.valid c.args.key [] c.args.party.now c.insert_taken.new.party c.requires.party.config
    record { chain = b.result.hand.own.bucket; before = b.result.shard; reached = b.new.party; takes = b.ensures.takes; makes = c.in_err-insert_taken.ensures.err }) c.requires.party

pub returns-then-not-is_new_here-clause-free : goal.returns-then-not-is_new_here-clause-free
returns-then-not-is_new_here-clause-free g c =
    let m = g.C.Keeps in
    stays_free c.args.self.now c.args.party.now c.give_back.new.party (does_stays m c.args.self.now.config c.take_both-both.ensures.kind.valid c.args.key [] c.args.party.now c.give_back.new.party c.requires.party.config (returns-then-not-is_new_here-clause-ok g c).0) c.requires.look

pub returns-clause-free : goal.returns-clause-free
returns-clause-free g c =
    let m = g.C.Keeps in
    stays_free c.args.self.now c.args.party.now c.insert_taken.new.party (does_roomy_stays m c.args.self.now.config c.take_both-both.ensures.kind.valid c.args.key (Insert (cell_number c.args.self.now.config c.args.cell) c.args.key (sha256_of c.args.block.value) c.args.tick) c.args.party.now c.insert_taken.new.party c.requires.party.config (returns-clause-ok g c).0) c.requires.look

pub returns-in_err-insert_taken-clause-free : goal.returns-in_err-insert_taken-clause-free
returns-in_err-insert_taken-clause-free g c =
    let m = g.C.Keeps in
    let b = c.take_both-both in
    stays_free c.args.self.now c.args.party.now c.insert_taken.new.party (does_stays m c.args.self.now.config b.ensures.kind.valid c.args.key [] c.args.party.now c.insert_taken.new.party c.requires.party.config
    record { chain = b.result.hand.own.bucket; before = b.result.shard; reached = b.new.party; takes = b.ensures.takes; makes = c.in_err-insert_taken.ensures.err }) c.requires.look

pub returns-in_default-clause-free : goal.returns-in_default-clause-free
returns-in_default-clause-free g c =
    let m = g.C.Keeps in
    let b = c.take_both-both in
    stays_free c.args.self.now c.args.party.now c.give_back-in_default.new.party (does_stays m c.args.self.now.config b.ensures.kind.valid c.args.key [] c.args.party.now c.give_back-in_default.new.party c.requires.party.config
    record { chain = b.result.hand.own.bucket; before = b.result.shard; reached = b.new.party; takes = b.ensures.takes; makes = c.give_back-in_default.ensures }) c.requires.look
