use Rattle.std.proofs.Common.{◌≡◌, ◌<◌, Bool, ℕ, List, [], ◌∷◌, ◌++◌, false, true, Some, refl, sym, ap, ◌∙◌, subst, inl}
use Rattle.std.specs.Prelude.{IsTrue, not}
use Rattle.arc_core.specs.declared.event.Event.TheVariants.{Restore}
use Rattle.arc_core.specs.PlainShard.{entry_of, is_absent, numbers}
use Rattle.hash_chain.specs.Chain.{Chain, header_at}
use Rattle.hash_chain.specs.declared.header.Header.{Header}
use Rattle.arc_core.specs.ShardLog.{ShardLog}
use Rattle.arc_core.proofs.Others.{own-entry}
use Rattle.arc_core.specs.Step.{after}
use Rattle.arc_table.specs.Both.{Makes}
use Rattle.blk_ptr.specs.declared.key.Key.{Key}
use Rattle.hash_chain.specs.Chain.{IsWith}
use Rattle.arc_table.specs.Geometry.{shard_turn}
use Rattle.arc_table.specs.pact.Headed.{IsHead}
use Rattle.arc_table.specs.InHand.{made_since}
use Rattle.arc_table.specs.Making.{IsMade}
use Rattle.arc_table.proofs.feeder.FeedEvents.{no_header, none_there, restore_legal, restored_head, shown_there, feeder_is, number_few}
use Rattle.arc_table.proofs.OneEvent.{makes_these, none_made, one_made, some_is, taken_head, taken_sound}
use Rattle.arc_table.proofs.Reached.{reached}
use Rattle.arc_table.proofs.Taking.{tells}
use Rattle.arc_table.proofs.Lent.{lent, lent_taken, lent_takes}
use Rattle.arc_table.proofs.arcs.Arcs.restore_one.Goals as goal

pub returns-then-is_some-clause-answer : goal.returns-then-is_some-clause-answer
returns-then-is_some-clause-answer g c =
    let m = g.C.Keeps in
    let b = c.take_both-both in
    let q = b.new.party in
    let p = c.args.party.now in
    let k = c.args.restored.now.key in
    let config = c.args.self.now.config in
    let same = c.deref_mut-shard.ensures.value in
    let s = c.deref_mut-shard.result.now in
    let takes = lent_takes m config k b.result.hand.own.bucket b.result.shard s p q same b.ensures.takes in
    let valid = b.ensures.kind.valid in
    let f = c.front_of-front in (
      record { chain = b.result.hand.own.bucket; before = s; reached = q; takes = takes; makes = c.give_back.ensures },
      tells m (λ s. IsTrue (not (is_absent k s))) config k b.result.hand.own.bucket s p q c.give_back.new.party f.result takes c.requires.party.config valid f.ensures.shard f.ensures.len c.give_back.ensures
          (ap (λ (x : Bool). not (not x)) (shown_there k s.now c.entry.result true c.entry.ensures (sym c.if-is_some.true ∙ c.is_some.ensures))),
    )

pub give_both-requires-clause-made : goal.give_both-requires-clause-made
give_both-requires-clause-made g c =
    let m = g.C.Keeps in
    let b = c.take_both-both in
    let q = b.new.party in
    let p = c.args.party.now in
    let k = c.args.restored.now.key in
    let config = c.args.self.now.config in
    let same = c.deref_mut-shard.ensures.value in
    let s = c.deref_mut-shard.result.now in
    let takes = lent_takes m config k b.result.hand.own.bucket b.result.shard s p q same b.ensures.takes in
    let valid = b.ensures.kind.valid in
    let taken = lent_taken m config k b.result q s same record { kind = b.ensures.kind; new = b.ensures.new; from = p; takes = b.ensures.takes } in
    let log = c.reserve.ensures.log in
    subst (λ (x : Chain). IsMade m config k (made_since b.result.hand.before.value c.reserve.new.self) record { hand = record b.result.hand { own = record b.result.hand.own { bucket = x } }; turn = b.result.turn; shard = c.reserve.new.self } q) (sym c.in_default-reserve.ensures.err)
    (none_made m config k (lent b.result s) q taken b.ensures.party.config valid record { hand = b.result.hand; turn = b.result.turn; shard = c.reserve.new.self } refl refl (ap (λ (l : ShardLog). l.now) log) (ap (λ (l : ShardLog). l.history) log) (ap (λ (l : ShardLog). l.opening) log))

pub add-requires-clause-absent : goal.add-requires-clause-absent
add-requires-clause-absent g c =
    let m = g.C.Keeps in
    let b = c.take_both-both in
    let q = b.new.party in
    let p = c.args.party.now in
    let k = c.args.restored.now.key in
    let config = c.args.self.now.config in
    let same = c.deref_mut-shard.ensures.value in
    let s = c.deref_mut-shard.result.now in
    let takes = lent_takes m config k b.result.hand.own.bucket b.result.shard s p q same b.ensures.takes in
    let valid = b.ensures.kind.valid in
    let taken = lent_taken m config k b.result q s same record { kind = b.ensures.kind; new = b.ensures.new; from = p; takes = b.ensures.takes } in
    let absent = none_there (entry_of k s.now) (shown_there k s.now c.entry.result false c.entry.ensures (sym c.if-is_some.false ∙ c.is_some.ensures)) in
    ap (λ (h : Header). header_at h.key c.reserve-2.new.self.headers) c.restored_header.ensures ∙ (ap (header_at k) c.reserve-2.ensures.headers
    ∙ no_header (entry_of k s.now) (header_at k b.result.hand.own.bucket.headers) (taken_head m config k (lent b.result s) q taken b.ensures.party.config valid) absent)

pub give_both-requires-2-clause-made : goal.give_both-requires-2-clause-made
give_both-requires-2-clause-made g c =
    let m = g.C.Keeps in
    let b = c.take_both-both in
    let q = b.new.party in
    let p = c.args.party.now in
    let k = c.args.restored.now.key in
    let config = c.args.self.now.config in
    let same = c.deref_mut-shard.ensures.value in
    let s = c.deref_mut-shard.result.now in
    let takes = lent_takes m config k b.result.hand.own.bucket b.result.shard s p q same b.ensures.takes in
    let valid = b.ensures.kind.valid in
    let n = c.number.result in
    let few = subst (λ (x : ℕ). x < numbers) (sym c.number.ensures) (number_few m config k b.result.hand.own.bucket s p q takes c.requires.party.config valid c.requires.feeder) in
    let taken = lent_taken m config k b.result q s same record { kind = b.ensures.kind; new = b.ensures.new; from = p; takes = b.ensures.takes } in
    let absent = none_there (entry_of k s.now) (shown_there k s.now c.entry.result false c.entry.ensures (sym c.if-is_some.false ∙ c.is_some.ensures)) in
    let r = c.args.restored.now in
    let log = c.reserve.ensures.log in
    let made = c.restore.ensures.makes in
    let ok = restore_legal n r.place k r.digest s.now few c.requires.key absent in
    let now = made.now ∙ ap (λ (l : ShardLog). after l.now (Restore n k r.place r.digest)) log in
    one_made m config k (lent b.result s) q taken b.ensures.party.config valid (Restore n k r.place r.digest) record { hand = record b.result.hand { own = record b.result.hand.own { bucket = c.add.new.self } }; turn = b.result.turn; shard = c.restore.new.self }
    (Some c.restored_header.result) refl refl (refl, refl) refl refl ok now (made.history ∙ ap (λ (l : ShardLog). l.history ++ Restore n k r.place r.digest ∷ []) log) (made.opening ∙ ap (λ (l : ShardLog). l.opening) log)
    record { acts = inl c.number.ensures; fit = tt; feeder = λ e. c.number.ensures ∙ feeder_is m config k b.result.hand.own.bucket s p q takes c.requires.party.config valid c.requires.feeder; own = λ j e. ap (shard_turn config) (some_is k j e) }
    (subst (λ (x : Key × List Header). IsWith x.0 (Some c.restored_header.result) x.1 c.add.new.self.headers) (λ z. (ap (λ (h : Header). h.key) c.restored_header.ensures z, c.reserve-2.ensures.headers z)) c.add.ensures.map)
    (subst (λ (h : Header). IsHead (entry_of k c.restore.new.self.now) (Some h)) (sym c.restored_header.ensures)
    (restored_head r (entry_of k c.restore.new.self.now) (ap (entry_of k) now ∙ own-entry s.now (Restore n k r.place r.digest) k (taken_sound m config k (lent b.result s) q taken b.ensures.party.config valid) ok refl)))

pub returns-clause-answer : goal.returns-clause-answer
returns-clause-answer g c =
    let m = g.C.Keeps in
    let b = c.take_both-both in
    let q = b.new.party in
    let p = c.args.party.now in
    let k = c.args.restored.now.key in
    let config = c.args.self.now.config in
    let same = c.deref_mut-shard.ensures.value in
    let s = c.deref_mut-shard.result.now in
    let takes = lent_takes m config k b.result.hand.own.bucket b.result.shard s p q same b.ensures.takes in
    let valid = b.ensures.kind.valid in
    let n = c.number.result in
    let r = c.args.restored.now in
    let is : n ≡ p.number = c.number.ensures ∙ (reached m config k b.result.hand.own.bucket s p q takes).number in
    let makes = makes_these m config k b.result.hand.before.value s c.restore.new.self (Restore n k r.place r.digest ∷ []) q c.give_both-2.new.party (b.ensures.new ∙ sym same) (c.restore.ensures.makes.history ∙ ap (λ (l : ShardLog). l.history ++ Restore n k r.place r.digest ∷ []) c.reserve.ensures.log) c.give_both-2.ensures in
    record { chain = b.result.hand.own.bucket; before = s; reached = q; takes = takes; makes = subst (λ (x : ℕ). Makes m config k s (Restore x k r.place r.digest ∷ []) q c.give_both-2.new.party) is makes }
