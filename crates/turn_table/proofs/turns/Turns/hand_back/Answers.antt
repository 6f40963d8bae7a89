use Rattle.std.proofs.Common.{rules, ◌≡◌, ◌<◌, ◌∷◌, Some, sym, ap, ◌∙◌, subst}
use Rattle.atomic_table.specs.Seated.{TableId}
use Rattle.atomic_table.specs.Table.{rest}
use Rattle.turn_table.specs.Board.{IsAmong}
use Rattle.turn_table.specs.Homes.{home}
use Rattle.turn_table.specs.Places.{Place}
use Rattle.turn_table.specs.Moments.{MayGive}
use Rattle.turn_table.specs.Standings.{place_of, IsParty}
use Rattle.turn_table.specs.declared.standing.Standing.{Standing}
use Rattle.turn_table.proofs.Homes.{at_home}
use Rattle.turn_table.proofs.Rows.{below_at}
use Rattle.turn_table.proofs.Moves.{brings, gives_back}
use Rattle.turn_table.proofs.Parties.{given_me, is_giving}
use Rattle.turn_table.proofs.turns.Turns.hand_back.Goals as goal

pub load-requires : goal.load-requires
load-requires g c =
    let p = c.party.invariant in
    let t : c.party.inside.seat.table_id ≡ c.self.inside.table.shared.table_id = search rules in
    let among : IsAmong c.args.i c.party.inside.seat.me.0.held = subst (λ (v : Place g.row.R-View.Denot). IsAmong c.args.i v.held) (sym c.party.view_is) c.requires.held in
    let near = below_at c.party.inside.seat.table_id.words c.args.i _ p.below among in
    let at : c.home-place.result ≡ home c.args.i = search rules in
    (t, at_home c.self.invariant at (subst (λ z. c.args.i < z.words) t near), brings _ _ _ _ c.args.i c.home-place.result c.party.inside.seat.id c.party.inside.seat.me at p.out p.live among)

pub store-requires : goal.store-requires
store-requires g c =
    let p = c.party.invariant in
    let x : Standing g.row.R-View.Denot = c.party.inside.seat.me.0 in
    let swapped = c.exchange-empty.ensures.3 in
    let one : c.exchange-empty.new.seat.me.0 ≡ x = ap (λ m. m.0) swapped ∙ ap (λ m. m.0) (c.load.ensures.2 c.args.i (search rules)) in
    let out : c.exchange-empty.new.seat.me.1 ≡ (c.home-place.result, Some c.args.value) ∷ rest c.exchange-empty.new.seat.me.1 =
    ap (λ m. m.1) swapped ∙ ap (λ m. (c.home-place.result, Some c.args.value) ∷ rest m.1) (sym swapped) in
    let among : IsAmong c.args.i x.held = subst (λ (v : Place g.row.R-View.Denot). IsAmong c.args.i v.held) (sym c.party.view_is) c.requires.held in
    let rule = c.requires.rule in
    let table_at : c.party.inside.seat.table_id ≡ c.self.inside.table.shared.table_id = search rules in
    let swapped_at : c.exchange-empty.new.seat.table_id ≡ c.party.inside.seat.table_id = c.exchange-empty.ensures.0 ∙ c.load.ensures.0 in
    let at : c.home-place.result ≡ home c.args.i = search rules in
    let near_words = at_home c.self.invariant at (subst (λ z. c.args.i < z.words) table_at (below_at c.party.inside.seat.table_id.words c.args.i _ p.below among)) in
    let z : TableId = c.party.inside.seat.table_id in
    let may : MayGive g.R.TurnRule.holds (place_of z x) c.args.i c.args.value rule.0 = subst (λ (v : Place g.row.R-View.Denot). MayGive g.R.TurnRule.holds v c.args.i c.args.value rule.0) (sym c.party.view_is) rule.2 in (
      swapped_at ∙ table_at,
      near_words,
      gives_back _ _ _ _ c.args.i c.home-place.result c.exchange-empty.new.seat.id z c.exchange-empty.new.seat.me c.args.value rule.0 g.N.Next.next at out rule.1
          (ap (λ (y : Standing g.row.R-View.Denot). y.live) one ∙ p.live)
          (subst (λ (y : Standing g.row.R-View.Denot). IsAmong c.args.i y.held) (sym one) among)
          (subst (λ (y : Standing g.row.R-View.Denot). MayGive g.R.TurnRule.holds (place_of z y) c.args.i c.args.value rule.0) (sym one) may),
    )

pub invariant_of-party : goal.invariant_of-party
invariant_of-party g c =
    let rule = c.requires.rule in
    let at : home c.args.i ≡ c.home-place.result = search rules in
    let brought = c.load.ensures.2 c.args.i at in
    let all = given_me c.args.i c.home-place.result c.party.inside.seat.me c.load.new.seat.me c.exchange-empty.new.seat.me c.store.new.seat.me (Some c.args.value) rule.0 brought c.exchange-empty.ensures.3 (c.store.ensures.2 rule.0 rule.1 c.args.i at) in
    let at : c.party.inside.seat.table_id ≡ c.store.new.seat.table_id = sym (c.store.ensures.0 ∙ (c.exchange-empty.ensures.0 ∙ c.load.ensures.0)) in
    subst (λ z. IsParty c.party.inside.number z.words c.store.new.seat.me) at (is_giving c.party.inside.number c.party.inside.seat.table_id.words c.args.i c.party.inside.seat.me c.store.new.seat.me rule.0 c.party.invariant all)

pub returns : goal.returns
returns g c =
    let at : home c.args.i ≡ c.home-place.result = search rules in
    let brought = c.load.ensures.2 c.args.i at in
    let gave = λ (w : g.row.R-View.Denot) (e : g.N.Next.next ≡ Some w). c.store.ensures.2 w e c.args.i at in
    search rules
