use Rattle.std.proofs.Common.{◌≡◌, ℕ, Option, Some, [], ◌∷◌, ◌++◌, length, refl, sym, ap, ◌∙◌, subst}
use Rattle.std.specs.Prelude.{IfSome, IsTrue, MatchOption}
use Rattle.blk_ptr.specs.declared.key.Key.{Key}
use Rattle.blk_ptr.specs.declared.ptr.Ptr.{Ptr}
use Rattle.blk_ptr.specs.Ptr.{sha256_of}
use Rattle.arc_core.specs.declared.event.Event.TheVariants.{Arrive}
use Rattle.arc_core.specs.Rules.{arrived_state}
use Rattle.arc_core.specs.Step.{after, arrived, legal}
use Rattle.hash_chain.specs.Chain.{IsWith, header_at}
use Rattle.hash_chain.specs.declared.header.Header.{Header}
use Rattle.arc_table.specs.Holding.{IsListed}
use Rattle.arc_table.proofs.reads.ArriveEvents.{arrive_listed, arrive_made, entry_now, header_says, may_arrive, taken_read}
use Rattle.arc_table.proofs.OneEvent.{makes_these}
use Rattle.arc_table.proofs.Lent.{lent, lent_taken}
use Rattle.arc_table.specs.Both.{Makes}
use Rattle.arc_core.specs.ShardLog.{ShardLog}
use Rattle.arc_core.specs.PlainShard.{entry_is}
use Rattle.arc_core.specs.Step.{may_come_from}
use Rattle.arc_table.proofs.arcs.Arcs.arrive_taken.Goals as goal

pub arrive-requires : goal.arrive-requires
arrive-requires g c =
    let m = g.C.Keeps in
    let same = c.deref_mut-shard.ensures.value in
    let b = lent c.args.both c.deref_mut-shard.result.now in
    let taken = lent_taken m c.args.self.now.config c.args.ptr.key c.args.both c.args.party.now c.deref_mut-shard.result.now same c.requires.taken in
    let comes = subst (λ (l : ShardLog). IsTrue (entry_is (may_come_from c.args.fetched.from) c.args.ptr.key l.now)) (sym same) c.requires.comes in
    let ptr = c.args.ptr in
    let from = c.args.fetched.from in
    subst (λ (x : ℕ). IsTrue (legal b.shard.now (Arrive x ptr.key ptr.digest from))) (sym c.number-owner.ensures)
    (may_arrive m c.args.self.now.config ptr.key b c.args.party.now taken c.requires.party.config taken.kind.valid c.requires.reading ptr.digest from comes)

pub give_both-requires-clause-made : goal.give_both-requires-clause-made
give_both-requires-clause-made g c =
    let m = g.C.Keeps in
    let same = c.deref_mut-shard.ensures.value in
    let b = lent c.args.both c.deref_mut-shard.result.now in
    let taken = lent_taken m c.args.self.now.config c.args.ptr.key c.args.both c.args.party.now c.deref_mut-shard.result.now same c.requires.taken in
    let comes = subst (λ (l : ShardLog). IsTrue (entry_is (may_come_from c.args.fetched.from) c.args.ptr.key l.now)) (sym same) c.requires.comes in
    let ptr = c.args.ptr in
    let k = ptr.key in
    let from = c.args.fetched.from in
    let made = c.arrive.ensures.makes in
    let number = c.number-owner.ensures in
    let now = made.now ∙ ap (λ (x : ℕ). after b.shard.now (Arrive x k ptr.digest from)) number in
    let history = made.history ∙ ap (λ (x : ℕ). b.shard.history ++ Arrive x k ptr.digest from ∷ []) number in
    let config = c.args.self.now.config in
    let valid = taken.kind.valid in
    let h : Header = c.at.result.now in
    let had : header_at k b.hand.own.bucket.headers ≡ Some h = c.requires.found ∙ c.at.ensures.place in
    let says = header_says m config k b c.args.party.now taken c.requires.party.config valid c.requires.reading h had in
    let e = taken_read m config k b c.args.party.now taken c.requires.party.config valid c.requires.reading in
    let there = entry_now m config k b c.args.party.now taken c.requires.party.config valid c.requires.reading ptr.digest from comes c.arrive.new.self now in
    let is = c.arrived_header-header.ensures in
    let o : Header = c.arrived_header-header.result in
    let key : o.key ≡ k = ap (λ (y : Header). y.key) is ∙ subst (λ (y : Option Header). IfSome y (λ z. z.key ≡ k)) c.at.ensures.place c.requires.key in
    let with : IsWith k (Some o) b.hand.own.bucket.headers c.change.new.self.headers = subst (λ (y : Key). IsWith y (Some o) b.hand.own.bucket.headers c.change.new.self.headers) key c.change.ensures.map in
    let of = c.requires.of in
    let shared = c.requires.shared in
    let block : MatchOption o.block ⊥ (λ d. (sha256_of d.block.value ≡ ptr.digest) × (length d.block.value ≡ k.size)) =
    subst (λ (y : Header). MatchOption y.block ⊥ (λ d. (sha256_of d.block.value ≡ ptr.digest) × (length d.block.value ≡ k.size))) (sym is) (ap sha256_of shared ∙ of.digest, ap length shared ∙ of.size) in
    arrive_made m config k b c.args.party.now taken c.requires.party.config valid c.requires.reading ptr.digest from comes c.arrive.new.self now c.change.new.self o history made.opening
    with (arrived ptr.digest e.entry) there
    (ap (λ (y : Header). y.state) is ∙ ap arrived_state says.state, ap (λ (y : Header). y.reading) is, ap (λ (y : Header). y.place) is ∙ says.place, ap (λ (y : Header). y.digest) is, block)

pub returns-clause-makes : goal.returns-clause-makes
returns-clause-makes g c =
    let m = g.C.Keeps in
    let same = c.deref_mut-shard.ensures.value in
    let b = lent c.args.both c.deref_mut-shard.result.now in
    let taken = lent_taken m c.args.self.now.config c.args.ptr.key c.args.both c.args.party.now c.deref_mut-shard.result.now same c.requires.taken in
    let ptr = c.args.ptr in
    let q = c.args.party.now in
    let from = c.args.fetched.from in
    subst (λ (l : ShardLog). Makes m c.args.self.now.config c.args.ptr.key l (Arrive q.number ptr.key ptr.digest from ∷ []) c.args.party.now c.give_both.new.party) same
    (makes_these m c.args.self.now.config ptr.key b.hand.before.value b.shard c.arrive.new.self (Arrive q.number ptr.key ptr.digest from ∷ []) q c.give_both.new.party taken.new
    (c.arrive.ensures.makes.history ∙ ap (λ (x : ℕ). b.shard.history ++ Arrive x ptr.key ptr.digest from ∷ []) c.number-owner.ensures) c.give_both.ensures)

pub returns-clause-hold : goal.returns-clause-hold
returns-clause-hold g c =
    let m = g.C.Keeps in
    let ptr = c.args.ptr in
    let q = c.args.party.now in
    let config = c.args.self.now.config in
    let of = c.requires.of in (
      record { key = refl; owner_is = c.number-owner.ensures; block = of },
      subst (λ (x : ℕ × Ptr). IsListed config c.give_both.new.party x.0 x.1) (λ z. (sym c.number-owner.ensures z, record { key = ptr.key; digest = sym of.digest z }))
          (arrive_listed m config ptr c.args.both q c.give_both.new.party c.args.fetched.from c.requires.taken c.requires.party.config c.requires.taken.kind.valid (returns-clause-makes g c)),
    )
