use Rattle.std.proofs.Common.{rules, ◌≡◌, ◌≢◌, ◌<◌, ◌+◌, ◌-◌, ◌∷◌, ℕ, suc, arith, Some, sym, ap, ◌∙◌, subst}
use Rattle.atomic_table.specs.Table.{rest}
use Rattle.turn_table.specs.Board.{IsAmong}
use Rattle.turn_table.specs.Homes.{home}
use Rattle.turn_table.specs.Places.{Row, Place, Apart, IsOther}
use Rattle.turn_table.specs.Moments.{WasTaken}
use Rattle.turn_table.specs.Standings.{IsParty}
use Rattle.turn_table.proofs.Homes.{at_home, has_room}
use Rattle.turn_table.proofs.Moves.{tries}
use Rattle.turn_table.proofs.Parties.{is_seeing, is_taking}
use Rattle.turn_table.proofs.turns.Turns.try_take.Goals as goal

pub compare_exchange-found-requires : goal.compare_exchange-found-requires
compare_exchange-found-requires g c =
    let p = c.party.invariant in
    let t : c.party.inside.seat.table_id ≡ c.self.inside.table.shared.table_id = search rules in
    let not_held : ¬ IsAmong c.args.i c.party.inside.seat.me.0.held = subst (λ (v : Place g.row.R-View.Denot). ¬ IsAmong c.args.i v.held) (sym c.party.view_is) c.requires.not_held in
    let near : c.args.i < c.self.inside.turns = subst (λ (v : Row). c.args.i < v.turns) (sym c.self.view_is) c.requires.range in
    let same = c.self.invariant in
    let at : c.home-place.result ≡ home c.args.i = search rules in
    let mine : c.from-mine.result + 1 ≡ suc c.party.inside.seat.me.0.number = let a = c.from-mine.ensures in let b = p.numbered in omega arith in (
      t,
      at_home same at (subst (λ (n : ℕ). c.args.i < n) (sym same.words) (let a = has_room c.self.inside.turns in omega arith)),
      tries _ _ _ g.R.TurnRule.won g.R.TurnRule.lost g.R.TurnRule.keeps_won g.R.TurnRule.keeps_lost _ c.args.i c.party.inside.seat.id (c.from-mine.result + 1) c.party.inside.seat.me p.live not_held mine
          c.home-place.result at (subst (λ (n : ℕ). c.args.i < n) (sym same.count) near),
    )

-- the number found is one more than the owner's
before_suc : (n : ℕ) → n ≢ 0 → n ≡ suc (n - 1)
before_suc n h = omega arith

pub overflow_cast-result : goal.overflow_cast-result
overflow_cast-result g c =
    let h = (c.compare_exchange-found.ensures.2 c.args.i (search rules)).1 (c.compare_exchange-found.result - 1) (before_suc c.compare_exchange-found.result c.if-found-ne0.true) in
    let below = (h.0 c.party.inside.seat.table_id).other.0 in
    let few = c.party.invariant.parties in
    omega arith

pub invariant_of-party : goal.invariant_of-party
invariant_of-party g c =
    let h = (c.compare_exchange-found.ensures.2 c.args.i (search rules)).1 (c.compare_exchange-found.result - 1) (before_suc c.compare_exchange-found.result c.if-found-ne0.true) in
    subst (λ z. IsParty c.party.inside.number z.words c.compare_exchange-found.new.seat.me) (sym c.compare_exchange-found.ensures.0)
    (is_seeing c.party.inside.number c.party.inside.seat.table_id.words c.party.inside.seat.me c.compare_exchange-found.new.seat.me _ c.party.invariant h.1)

pub returns-then-found-ne0-clause-busy : goal.returns-then-found-ne0-clause-busy
returns-then-found-ne0-clause-busy g c =
    let m : ℕ = c.compare_exchange-found.result - 1 in
    let h = (c.compare_exchange-found.ensures.2 c.args.i (search rules)).1 m (before_suc c.compare_exchange-found.result c.if-found-ne0.true) in
    (subst (λ (v : Place g.row.R-View.Denot). WasTaken g.R.TurnRule.holds v c.args.i m) c.party.view_is (h.0 c.party.inside.seat.table_id), search rules)

pub returns-then-found-ne0-clause-owner : goal.returns-then-found-ne0-clause-owner
returns-then-found-ne0-clause-owner g c =
    let m : ℕ = c.compare_exchange-found.result - 1 in
    let h = (c.compare_exchange-found.ensures.2 c.args.i (search rules)).1 m (before_suc c.compare_exchange-found.result c.if-found-ne0.true) in
    let o = (h.0 c.party.inside.seat.table_id).other in
    subst (λ (k : ℕ). (m < k) × (m ≢ c.args.party.now.number) × Apart m c.args.party.now.joined) c.requires.row.1 (subst (λ (v : Place g.row.R-View.Denot). IsOther m v) c.party.view_is o)

pub exchange-requires : goal.exchange-requires
exchange-requires g c =
    let h = (c.compare_exchange-found.ensures.2 c.args.i (search rules)).0 (c.if-found-ne0.false) in
    let t : c.party.inside.seat.table_id ≡ c.self.inside.table.shared.table_id = search rules in
    (c.compare_exchange-found.ensures.0 ∙ t, (Some h.0, ap (λ m. m.1) h.2 ∙ ap (λ m. (c.home-place.result, Some h.0) ∷ rest m.1) (sym h.2)))

pub invariant_of-party-2 : goal.invariant_of-party-2
invariant_of-party-2 g c =
    let at : c.home-place.result ≡ home c.args.i = search rules in
    let h = (c.compare_exchange-found.ensures.2 c.args.i (sym at)).0 c.if-found-ne0.false in
    let t : c.party.inside.seat.table_id ≡ c.self.inside.table.shared.table_id = search rules in
    let near : c.args.i < c.self.inside.turns = subst (λ (v : Row). c.args.i < v.turns) (sym c.self.view_is) c.requires.range in
    let near_words : c.args.i < c.self.inside.table.shared.table_id.words = subst (λ (n : ℕ). c.args.i < n) (sym c.self.invariant.words) (let a = has_room c.self.inside.turns in omega arith) in
    subst (λ z. IsParty c.party.inside.number z.words c.exchange.new.seat.me) (sym (c.exchange.ensures.0 ∙ c.compare_exchange-found.ensures.0))
    (is_taking c.party.inside.number c.party.inside.seat.table_id.words c.args.i c.home-place.result c.party.inside.seat.me c.compare_exchange-found.new.seat.me c.exchange.new.seat.me (Some h.0) _ c.party.invariant
    (subst (λ z. c.args.i < z.words) (sym t) near_words) at h.2 c.exchange.ensures.3)
