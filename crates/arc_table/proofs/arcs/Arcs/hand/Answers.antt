use Rattle.std.proofs.Math.Nat.{ℕ_set}
use Rattle.std.proofs.Common.{◌≡◌, ℕ, length, [], ◌∷◌, ◌++◌, refl, sym, ap, ◌∙◌, subst, inr}
use Rattle.std.specs.Prelude.{IsTrue, true}
use Rattle.arc_core.specs.declared.event.Event.TheVariants.{Hand}
use Rattle.arc_core.specs.PlainShard.{PlainShard, is_cell}
use Rattle.arc_core.specs.ShardLog.{ShardLog}
use Rattle.arc_core.specs.Step.{after, legal}
use Rattle.turn_table.specs.Board.{IsAmong}
use Rattle.arc_table.specs.Both.{Makes}
use Rattle.arc_table.specs.Geometry.{shard_turn}
use Rattle.arc_table.specs.Holding.{IsListed, ptr_of}
use Rattle.arc_table.proofs.HoldEvents.{acts_for, cell_is, hand_alike, hand_legal, handed_listed}
use Rattle.arc_table.proofs.OneEvent.{alike_made, makes_these, some_is, taken_holding, taken_sound}
use Rattle.arc_table.proofs.Reached.{listed_still, reached}
use Rattle.arc_table.proofs.Lent.{lent, lent_taken, lent_takes}
use Rattle.arc_table.proofs.arcs.Arcs.hand.Goals as goal

pub hand-requires-clause-legal : goal.hand-requires-clause-legal
hand-requires-clause-legal g c =
    let m = g.C.Keeps in
    let b = c.take_both-both in
    let h = c.args.hold in
    let config = c.args.self.now.config in
    let same = c.deref_mut-shard.ensures.value in
    let s = c.deref_mut-shard.result.now in
    let takes = lent_takes m config h.key b.result.hand.own.bucket b.result.shard s c.args.party.now b.new.party same b.ensures.takes in
    let taken = lent_taken m config h.key b.result b.new.party s same record { kind = b.ensures.kind; new = b.ensures.new; from = c.args.party.now; takes = b.ensures.takes } in
    let listed = listed_still m config h.key b.result.hand.own.bucket s c.args.party.now b.new.party takes c.requires.party.config b.ensures.kind.valid h.owner (ptr_of h) c.requires.hold in
    let to : is_cell c.args.to ≡ true = ap is_cell c.requires.cell.1 ∙ cell_is config c.requires.cell.0 b.ensures.kind.valid c.requires.cell.2 in
    subst (λ (s : PlainShard). IsTrue (legal s (Hand h.owner h.key c.args.to))) (sym (ap (λ (l : ShardLog). l.now) c.reserve.ensures.log))
    (hand_legal h.owner c.args.to (ptr_of h) s.now (taken_holding m config h.key (lent b.result s) b.new.party taken b.ensures.party.config b.ensures.kind.valid h.owner (ptr_of h) refl listed) to)

pub give_both-requires-clause-made : goal.give_both-requires-clause-made
give_both-requires-clause-made g c =
    let m = g.C.Keeps in
    let b = c.take_both-both in
    let h = c.args.hold in
    let q = b.new.party in
    let config = c.args.self.now.config in
    let same = c.deref_mut-shard.ensures.value in
    let s = c.deref_mut-shard.result.now in
    let takes = lent_takes m config h.key b.result.hand.own.bucket b.result.shard s c.args.party.now b.new.party same b.ensures.takes in
    let taken = lent_taken m config h.key b.result b.new.party s same record { kind = b.ensures.kind; new = b.ensures.new; from = c.args.party.now; takes = b.ensures.takes } in
    let listed = listed_still m config h.key b.result.hand.own.bucket s c.args.party.now q takes c.requires.party.config b.ensures.kind.valid h.owner (ptr_of h) c.requires.hold in
    let to : is_cell c.args.to ≡ true = ap is_cell c.requires.cell.1 ∙ cell_is config c.requires.cell.0 b.ensures.kind.valid c.requires.cell.2 in
    let ok = hand_legal h.owner c.args.to (ptr_of h) s.now (taken_holding m config h.key (lent b.result s) q taken b.ensures.party.config b.ensures.kind.valid h.owner (ptr_of h) refl listed) to in
    let made = c.hand.ensures.makes in
    let log = c.reserve.ensures.log in
    let among : IsAmong c.requires.cell.0 q.held = subst (IsAmong c.requires.cell.0) (sym (reached m config h.key b.result.hand.own.bucket s c.args.party.now q takes).held) (inr (inr c.requires.cell.3)) in
    alike_made m config h.key (lent b.result s) q taken b.ensures.party.config b.ensures.kind.valid (Hand h.owner h.key c.args.to) record { hand = b.result.hand; turn = b.result.turn; shard = c.hand.new.self } refl refl refl refl ok
    (made.now ∙ ap (λ (l : ShardLog). after l.now (Hand h.owner h.key c.args.to)) log) (made.history ∙ ap (λ (l : ShardLog). l.history ++ Hand h.owner h.key c.args.to ∷ []) log) (made.opening ∙ ap (λ (l : ShardLog). l.opening) log)
    record { acts = acts_for config q h.owner (ptr_of h) listed; fit = inr (c.requires.cell.0, c.requires.cell.1, c.requires.cell.2, among); feeder = λ e. absurd (cc); own = λ k e. ap (shard_turn config) (some_is h.key k e) }
    (hand_alike h.owner c.args.to h.key s.now (taken_sound m config h.key (lent b.result s) q taken b.ensures.party.config b.ensures.kind.valid) ok)

pub returns : goal.returns
returns g c =
    let m = g.C.Keeps in
    let b = c.take_both-both in
    let h = c.args.hold in
    let q = b.new.party in
    let config = c.args.self.now.config in
    let same = c.deref_mut-shard.ensures.value in
    let s = c.deref_mut-shard.result.now in
    let takes = lent_takes m config h.key b.result.hand.own.bucket b.result.shard s c.args.party.now b.new.party same b.ensures.takes in
    let taken = lent_taken m config h.key b.result b.new.party s same record { kind = b.ensures.kind; new = b.ensures.new; from = c.args.party.now; takes = b.ensures.takes } in
    let listed = listed_still m config h.key b.result.hand.own.bucket s c.args.party.now q takes c.requires.party.config b.ensures.kind.valid h.owner (ptr_of h) c.requires.hold in
    let holding = taken_holding m config h.key (lent b.result s) q taken b.ensures.party.config b.ensures.kind.valid h.owner (ptr_of h) refl listed in
    let makes : Makes m config h.key s (Hand h.owner h.key c.args.to ∷ []) q c.give_both.new.party =
    makes_these m config h.key b.result.hand.before.value s c.hand.new.self (Hand h.owner h.key c.args.to ∷ []) q c.give_both.new.party (b.ensures.new ∙ sym same)
    (c.hand.ensures.makes.history ∙ ap (λ (l : ShardLog). l.history ++ Hand h.owner h.key c.args.to ∷ []) c.reserve.ensures.log) c.give_both.ensures in
    let i = c.requires.cell.0 in (
      record { chain = b.result.hand.own.bucket; before = s; reached = q; takes = takes; makes = makes },
      (λ z. record { key = h.key; owner = c.args.to; block = h.block; sized = ℕ_set (length h.block.value) h.key.size c.result-1.given.0 h.sized z }),
      subst (λ (n : ℕ). IsListed config c.give_both.new.party n (ptr_of h)) (sym c.requires.cell.1)
          (handed_listed m config (ptr_of h) b.result.hand.own.bucket s c.args.party.now q c.give_both.new.party h.owner i takes c.requires.party.config b.ensures.kind.valid c.requires.cell.3 c.requires.cell.2 holding
          (subst (λ (n : ℕ). Makes m config h.key s (Hand h.owner h.key n ∷ []) q c.give_both.new.party) c.requires.cell.1 makes)),
    )
