use Rattle.std.proofs.Common.{◌≡◌, ◌<◌, length, arith, Option, Some, None, ℕ, List, ◌∷◌, ap, sym, ◌∙◌, subst}
use Rattle.std.proofs.lemmas.Option.{none-some}
use Rattle.hash_chain.specs.Chain.{Chain, IsWith, header_at}
use Rattle.arc_table.specs.declared.in_hand.Taken.{Taken}
use Rattle.arc_table.specs.scans.Scanning.{pairs_of}
use Rattle.arc_table.specs.scans.Sparing.{spared_header, turn_place}
use Rattle.arc_table.proofs.scans.Spares.{at_first, found_turn, no_turn, past_first, turn_below}
use Rattle.arc_table.proofs.spare.spare_in.Goals as goal

pub returns-then-hand-turn-clause-spared : goal.returns-then-hand-turn-clause-spared
returns-then-hand-turn-clause-spared c b e =
    let v : ℕ × Chain = (c.args.hand.now.own.turn, c.args.hand.now.own.bucket) in
    let new : Chain = c.spare.new.bucket in
    let f = at_first c.args.turn v (pairs_of c.args.hand.now.victims.items) b c.if-hand-turn.true e in
    (new, subst (λ (x : Chain). IsWith c.args.key (spared_header c.args.entry (header_at c.args.key x.headers)) x.headers new.headers) f.0 c.spare.ensures, f.1 new)

pub returns-in-Some-clause-spared : goal.returns-in-Some-clause-spared
returns-in-Some-clause-spared c b e =
    let v : ℕ × Chain = (c.args.hand.now.own.turn, c.args.hand.now.own.bucket) in
    let ts : List Taken = c.args.hand.now.victims.items in
    let new : Chain = c.spare-in-Some.new.bucket in
    let w : Taken = c.index_mut.result.now in
    let f = past_first c.args.turn v (pairs_of ts) b c.if-hand-turn.false e in
    let place : turn_place c.args.turn ts ≡ Some c.in-Some.at = ap (turn_place c.args.turn) (sym c.deref.ensures.value) ∙ (sym c.place_of.ensures ∙ c.in-Some.is) in
    let at = found_turn ts c.args.turn c.in-Some.at place w c.index_mut.ensures.value in
    let same : w.bucket ≡ b = is_same w.bucket b (sym at.0 ∙ f.0) in
    (new, subst (λ (x : Chain). IsWith c.args.key (spared_header c.args.entry (header_at c.args.key x.headers)) x.headers new.headers) same c.spare-in-Some.ensures, ap (λ (l : List (ℕ × Chain)). v ∷ l) (at.1 new) ∙ f.1 new)
  where
    is_same : (x y : Chain) → ◌≡◌ {A = Option Chain} (Some x) (Some y) → x ≡ y
    is_same x y q = cc

pub returns-in_default-clause-spared : goal.returns-in_default-clause-spared
returns-in_default-clause-spared c b e =
    let v : ℕ × Chain = (c.args.hand.now.own.turn, c.args.hand.now.own.bucket) in
    let ts : List Taken = c.args.hand.now.victims.items in
    let f = past_first c.args.turn v (pairs_of ts) b c.if-hand-turn.false e in
    let none : turn_place c.args.turn ts ≡ None = ap (turn_place c.args.turn) (sym c.deref.ensures.value) ∙ (sym c.place_of.ensures ∙ c.in_default.is) in
    absurd (none-some b (sym (no_turn ts 0 c.args.turn none) ∙ f.0))

pub index_mut-requires : goal.index_mut-requires
index_mut-requires c =
    let below : c.in-Some.at < length c.deref.result.now = turn_below c.deref.result.now c.args.turn c.in-Some.at (sym c.place_of.ensures ∙ c.in-Some.is) in
    let long = c.deref.ensures.len in
    omega arith
