use Rattle.std.proofs.Common.{◌≡◌, ℕ, Option, Some, IfSome, [], ◌∷◌, ◌++◌, refl, sym, ap, ◌∙◌, subst}
use Rattle.std.specs.Prelude.{IsTrue}
use Rattle.blk_ptr.specs.declared.ptr.Ptr.{Ptr}
use Rattle.arc_core.specs.declared.event.Event.TheVariants.{Hit}
use Rattle.hash_chain.specs.Chain.{Chain, IsAlikeTo, lent as kept_lent}
use Rattle.hash_chain.specs.declared.header.Header.{Header}
use Rattle.arc_core.specs.PlainShard.{PlainShard}
use Rattle.arc_core.specs.ShardLog.{ShardLog}
use Rattle.arc_core.specs.Step.{after, legal}
use Rattle.arc_table.specs.Both.{Makes}
use Rattle.arc_table.specs.Holding.{IsListed}
use Rattle.arc_table.specs.InHand.{made_since}
use Rattle.arc_table.specs.Making.{IsMade, IsTaken}
use Rattle.arc_table.proofs.reads.HitEvents.{block_of_it, found, hit_legal, hit_listed, hit_made, mfu_says}
use Rattle.arc_table.proofs.KeptHeads.{lent_at, own_with}
use Rattle.arc_table.proofs.OneEvent.{makes_these, none_made, none_since, some_is, taken_few}
use Rattle.arc_table.proofs.Lent.{lent, lent_taken}
use Rattle.arc_table.specs.pact.Standing.{IsCachedWith}
use Rattle.arc_table.proofs.arcs.Arcs.hit_taken.Goals as goal

pub give_back-requires-clause-taken : goal.give_back-requires-clause-taken
give_back-requires-clause-taken g c =
    let m = g.C.Keeps in
    let same = c.deref_mut-shard.ensures.value in
    let b = lent c.args.both c.deref_mut-shard.result.now in
    let taken = lent_taken m c.args.self.now.config c.args.ptr.key c.args.both c.args.party.now c.deref_mut-shard.result.now same c.requires.taken in
    subst (λ (l : ShardLog). IsTaken m c.args.self.now.config c.args.ptr.key record { hand = b.hand; turn = b.turn; shard = l } c.args.party.now) (sym c.in_default.ensures.err) taken

pub returns-in_default-clause-err : goal.returns-in_default-clause-err
returns-in_default-clause-err g c =
    let m = g.C.Keeps in
    let same = c.deref_mut-shard.ensures.value in
    subst (λ (l : ShardLog). Makes m c.args.self.now.config c.args.ptr.key l [] c.args.party.now c.give_back.new.party) (c.in_default.ensures.err ∙ same) c.give_back.ensures

pub hit_near-requires-clause-legal : goal.hit_near-requires-clause-legal
hit_near-requires-clause-legal g c =
    let m = g.C.Keeps in
    let same = c.deref_mut-shard.ensures.value in
    let b = lent c.args.both c.deref_mut-shard.result.now in
    let taken = lent_taken m c.args.self.now.config c.args.ptr.key c.args.both c.args.party.now c.deref_mut-shard.result.now same c.requires.taken in
    let here = subst (λ (l : ShardLog). IsCachedWith c.args.ptr l.now) (sym same) c.requires.here in
    let valid = taken.kind.valid in
    let f = found m c.args.self.now.config c.args.ptr b c.args.party.now taken c.requires.party.config valid here in
    subst (λ (x : ℕ × PlainShard). IsTrue (legal x.1 (Hit x.0 c.args.ptr.key c.args.tick))) (λ z. (sym c.number-owner.ensures z, (sym c.reserve.ensures.log z).now))
    (hit_legal c.args.party.now.number c.args.tick c.args.ptr.key b.shard.now f.entry (taken_few m c.args.self.now.config c.args.ptr.key b c.args.party.now taken c.requires.party.config valid) f.there f.resident)

-- no owner was to be had
pub give_both-requires-clause-made : goal.give_both-requires-clause-made
give_both-requires-clause-made g c =
    let m = g.C.Keeps in
    let same = c.deref_mut-shard.ensures.value in
    let b = lent c.args.both c.deref_mut-shard.result.now in
    let taken = lent_taken m c.args.self.now.config c.args.ptr.key c.args.both c.args.party.now c.deref_mut-shard.result.now same c.requires.taken in
    let log = c.reserve.ensures.log in
    subst (λ (x : Chain). IsMade m c.args.self.now.config c.args.ptr.key (made_since b.hand.before.value c.reserve.new.self) record { hand = record b.hand { own = record b.hand.own { bucket = x } }; turn = b.turn; shard = c.reserve.new.self } c.args.party.now) (sym c.in_default-take_block.ensures.err)
    (none_made m c.args.self.now.config c.args.ptr.key b c.args.party.now taken c.requires.party.config taken.kind.valid record { hand = b.hand; turn = b.turn; shard = c.reserve.new.self } refl refl (ap (λ (l : ShardLog). l.now) log) (ap (λ (l : ShardLog). l.history) log) (ap (λ (l : ShardLog). l.opening) log))

pub returns-in_default-take_block-clause-err : goal.returns-in_default-take_block-clause-err
returns-in_default-take_block-clause-err g c =
    let m = g.C.Keeps in
    let same = c.deref_mut-shard.ensures.value in
    let b = lent c.args.both c.deref_mut-shard.result.now in
    let taken = lent_taken m c.args.self.now.config c.args.ptr.key c.args.both c.args.party.now c.deref_mut-shard.result.now same c.requires.taken in
    let log = c.reserve.ensures.log in
    subst (λ (l : ShardLog). Makes m c.args.self.now.config c.args.ptr.key l [] c.args.party.now c.give_both.new.party) same
    (makes_these m c.args.self.now.config c.args.ptr.key b.hand.before.value b.shard c.reserve.new.self [] c.args.party.now c.give_both.new.party taken.new (ap (λ (l : ShardLog). l.history) log ∙ none_since b.shard) c.give_both.ensures)

pub follow_hit-requires-clause-range : goal.follow_hit-requires-clause-range
follow_hit-requires-clause-range g c =
    let m = g.C.Keeps in
    let same = c.deref_mut-shard.ensures.value in
    let b = lent c.args.both c.deref_mut-shard.result.now in
    let taken = lent_taken m c.args.self.now.config c.args.ptr.key c.args.both c.args.party.now c.deref_mut-shard.result.now same c.requires.taken in
    let here = subst (λ (l : ShardLog). IsCachedWith c.args.ptr l.now) (sym same) c.requires.here in
    let f = found m c.args.self.now.config c.args.ptr b c.args.party.now taken c.requires.party.config taken.kind.valid here in
    let at = lent_at c.args.ptr c.args.at b.hand.own.bucket c.take_block.new.self f.header c.requires.ready f.had c.in-Ok-take_block.ensures.ok c.in-Ok-take_block.ensures.map in
    at.within

pub follow_hit-requires-clause-found : goal.follow_hit-requires-clause-found
follow_hit-requires-clause-found g c =
    let m = g.C.Keeps in
    let same = c.deref_mut-shard.ensures.value in
    let b = lent c.args.both c.deref_mut-shard.result.now in
    let taken = lent_taken m c.args.self.now.config c.args.ptr.key c.args.both c.args.party.now c.deref_mut-shard.result.now same c.requires.taken in
    let here = subst (λ (l : ShardLog). IsCachedWith c.args.ptr l.now) (sym same) c.requires.here in
    let f = found m c.args.self.now.config c.args.ptr b c.args.party.now taken c.requires.party.config taken.kind.valid here in
    let at = lent_at c.args.ptr c.args.at b.hand.own.bucket c.take_block.new.self f.header c.requires.ready f.had c.in-Ok-take_block.ensures.ok c.in-Ok-take_block.ensures.map in
    own_with c.args.ptr.key (Some (kept_lent f.header)) b.hand.own.bucket.headers c.take_block.new.self.headers at.with ∙ sym at.place

pub follow_hit-requires-clause-key : goal.follow_hit-requires-clause-key
follow_hit-requires-clause-key g c =
    let m = g.C.Keeps in
    let same = c.deref_mut-shard.ensures.value in
    let b = lent c.args.both c.deref_mut-shard.result.now in
    let taken = lent_taken m c.args.self.now.config c.args.ptr.key c.args.both c.args.party.now c.deref_mut-shard.result.now same c.requires.taken in
    let here = subst (λ (l : ShardLog). IsCachedWith c.args.ptr l.now) (sym same) c.requires.here in
    let f = found m c.args.self.now.config c.args.ptr b c.args.party.now taken c.requires.party.config taken.kind.valid here in
    let at = lent_at c.args.ptr c.args.at b.hand.own.bucket c.take_block.new.self f.header c.requires.ready f.had c.in-Ok-take_block.ensures.ok c.in-Ok-take_block.ensures.map in
    subst (λ (o : Option Header). IfSome o (λ h. h.key ≡ c.args.ptr.key)) (sym at.place) at.key

pub follow_hit-requires-clause-mfu : goal.follow_hit-requires-clause-mfu
follow_hit-requires-clause-mfu g c h stands mfu =
    let m = g.C.Keeps in
    let same = c.deref_mut-shard.ensures.value in
    let b = lent c.args.both c.deref_mut-shard.result.now in
    let taken = lent_taken m c.args.self.now.config c.args.ptr.key c.args.both c.args.party.now c.deref_mut-shard.result.now same c.requires.taken in
    let here = subst (λ (l : ShardLog). IsCachedWith c.args.ptr l.now) (sym same) c.requires.here in
    let f = found m c.args.self.now.config c.args.ptr b c.args.party.now taken c.requires.party.config taken.kind.valid here in
    let at = lent_at c.args.ptr c.args.at b.hand.own.bucket c.take_block.new.self f.header c.requires.ready f.had c.in-Ok-take_block.ensures.ok c.in-Ok-take_block.ensures.map in
    mfu_says m c.args.self.now.config c.args.ptr b c.args.party.now taken c.requires.party.config taken.kind.valid here c.args.tick c.hit_near.new.self
    (c.hit_near.ensures.makes.now ∙ (λ z. after (c.reserve.ensures.log z).now (Hit (c.number-owner.ensures z) c.args.ptr.key c.args.tick))) h (some_is h (kept_lent f.header) (sym stands ∙ at.place)) mfu

pub give_both-requires-2-clause-made : goal.give_both-requires-2-clause-made
give_both-requires-2-clause-made g c =
    let m = g.C.Keeps in
    let same = c.deref_mut-shard.ensures.value in
    let b = lent c.args.both c.deref_mut-shard.result.now in
    let taken = lent_taken m c.args.self.now.config c.args.ptr.key c.args.both c.args.party.now c.deref_mut-shard.result.now same c.requires.taken in
    let here = subst (λ (l : ShardLog). IsCachedWith c.args.ptr l.now) (sym same) c.requires.here in
    let f = found m c.args.self.now.config c.args.ptr b c.args.party.now taken c.requires.party.config taken.kind.valid here in
    let at = lent_at c.args.ptr c.args.at b.hand.own.bucket c.take_block.new.self f.header c.requires.ready f.had c.in-Ok-take_block.ensures.ok c.in-Ok-take_block.ensures.map in
    hit_made m c.args.self.now.config c.args.ptr b c.args.party.now taken c.requires.party.config taken.kind.valid here c.args.tick c.hit_near.new.self
    (c.hit_near.ensures.makes.now ∙ (λ z. after (c.reserve.ensures.log z).now (Hit (c.number-owner.ensures z) c.args.ptr.key c.args.tick))) c.take_block.new.self c.follow_hit.new.bucket
    (c.hit_near.ensures.makes.history ∙ (λ z. (c.reserve.ensures.log z).history ++ Hit (c.number-owner.ensures z) c.args.ptr.key c.args.tick ∷ []))
    (c.hit_near.ensures.makes.opening ∙ ap (λ (l : ShardLog). l.opening) c.reserve.ensures.log) at.with c.follow_hit.ensures

pub returns-clause-ok : goal.returns-clause-ok
returns-clause-ok g c =
    let m = g.C.Keeps in
    let same = c.deref_mut-shard.ensures.value in
    let b = lent c.args.both c.deref_mut-shard.result.now in
    let taken = lent_taken m c.args.self.now.config c.args.ptr.key c.args.both c.args.party.now c.deref_mut-shard.result.now same c.requires.taken in
    let q = c.args.party.now in
    subst (λ (l : ShardLog). Makes m c.args.self.now.config c.args.ptr.key l (Hit q.number c.args.ptr.key c.args.tick ∷ []) c.args.party.now c.give_both-2.new.party) same
    (makes_these m c.args.self.now.config c.args.ptr.key b.hand.before.value b.shard c.hit_near.new.self (Hit q.number c.args.ptr.key c.args.tick ∷ []) q c.give_both-2.new.party taken.new
    (c.hit_near.ensures.makes.history ∙ (λ z. (c.reserve.ensures.log z).history ++ Hit (c.number-owner.ensures z) c.args.ptr.key c.args.tick ∷ [])) c.give_both-2.ensures)

pub invariant_of-result : goal.invariant_of-result
invariant_of-result g c =
    let m = g.C.Keeps in
    let alike = subst (λ (o : Option Header). IsAlikeTo o c.in-Ok-take_block.block.value) (sym c.requires.ready.found) c.in-Ok-take_block.ensures.alike in
    record { sized = (block_of_it m c.args.self.now.config c.args.ptr c.args.both c.args.party.now c.requires.taken c.requires.party.config c.requires.taken.kind.valid c.requires.here c.in-Ok-take_block.block.value alike).size }

pub returns-clause-hold : goal.returns-clause-hold
returns-clause-hold g c =
    let m = g.C.Keeps in
    let ptr = c.args.ptr in
    let q = c.args.party.now in
    let config = c.args.self.now.config in
    let valid = c.requires.taken.kind.valid in
    let of = block_of_it m config ptr c.args.both q c.requires.taken c.requires.party.config valid c.requires.here c.in-Ok-take_block.block.value (subst (λ (o : Option Header). IsAlikeTo o c.in-Ok-take_block.block.value) (sym c.requires.ready.found) c.in-Ok-take_block.ensures.alike) in (
      record { key = refl; owner_is = c.number-owner.ensures; block = of },
      subst (λ (x : ℕ × Ptr). IsListed config c.give_both-2.new.party x.0 x.1) (λ z. (sym c.number-owner.ensures z, record { key = ptr.key; digest = sym of.digest z }))
          (hit_listed m config ptr c.args.both q c.requires.taken c.requires.party.config valid c.requires.here c.args.tick c.give_both-2.new.party (returns-clause-ok g c)),
    )
