use Rattle.std.proofs.Common.{◌≡◌, ◌<◌, ◌≤◌, ◌+◌, ℕ, List, [], ◌∷◌, ◌++◌, length, get_or, set, Bool, true, false, Option, Some, None, Vec, Global, refl, arith, sym, ap, ◌∙◌, subst}
use mathlib.Core.Option.{some}
use lib.ListN.{get_elem?}
use Rattle.std.specs.Prelude.{vec_capacity}
use Rattle.std.specs.Slots.{slots_items, slots_filled, slots_len, slots_counts}
use Rattle.turn_table.specs.Homes.{home, room, Laid}
use Rattle.turn_table.proofs.Homes.{home_twice, home_within, has_room}
use Rattle.turn_table.proofs.Ending.{gone_more, there_still, take_more, take_whole, is_value, is_spare}
use Rattle.turn_table.proofs.closing.take_values.Given.{Over}
use Rattle.turn_table.proofs.closing.take_values.Goals as goal
use Rattle.turn_table.proofs.closing.take_values.Goals.{After-slot_count-i-end, in-Some, in_default}

-- there are as many slots as places for the values
places : (g : Over) (c : After-slot_count-i-end g) (vs : List g.row.V.Denot) → Laid (slots_items c.args.closed.now.slots) vs → slots_len c.args.closed.now.slots ≡ room (length vs)
places g c vs laid = (slots_counts c.args.closed.now.slots).0 ∙ laid.long

near : (g : Over) (c : After-slot_count-i-end g) (k : ℕ) → k < slots_len c.args.closed.now.slots → home k < slots_len c.args.closed.now.slots
near g c k below =
    let l = c.requires.laid in
    let e = places g c l.0 l.1 in
    subst (λ (n : ℕ). home k < n) (sym e) (home_within (length l.0) k (subst (λ (n : ℕ). k < n) e below))

pub loop-i-init : goal.loop-i-init
loop-i-init g c = record {
  items = refl;
  len = refl;
  gone = λ k h. absurd (omega arith);
  there = λ k h below. c.requires.full (home k) (omega arith) (near g c k below);
  values = λ vs laid. c.requires.empty;
  room = refl;
}

pub loop-i-preserved : goal.loop-i-preserved
loop-i-preserved g c =
    let before = c.loop-i.invariant in
    let others = c.take.ensures.others in
    let i : ℕ = c.loop-i.i in
    let at : c.home.result ≡ home i = c.home.ensures in
    let filled : slots_filled c.take.new.self.slots ≡ set (slots_filled c.loop-i.closed.slots) (home i) false = others.1 ∙ ap (λ (j : ℕ). set (slots_filled c.loop-i.closed.slots) j false) at in
    record {
      items = others.0 ∙ before.items;
      len = others.2 ∙ before.len;
      gone = λ k h. subst (λ (l : List Bool). get_or l (home k) false ≡ false) (sym filled) (gone_more _ i k before.gone h);
      there = λ k h below. subst (λ (l : List Bool). get_or l (home k) false ≡ true) (sym filled) (there_still _ i k h ∙ before.there k (omega arith) (subst (λ (n : ℕ). k < n) others.2 below));
      values = λ vs laid.
          let here : i < room (length vs) = let a = places g (goal.at.loop-i-preserved g c).After-slot_count-i-end vs laid in let b = c.slot_count-i-end.ensures in let d = c.loop-i-test.true in omega arith in
          elim c.match-take.branch [
            | in-Some w ↦
                let v = w.in-Some.value in
                let found : get_elem? (slots_items c.args.closed.now.slots) (home i) ≡ some (Some v) = subst (λ (z : List (Option g.row.V.Denot) × ℕ). get_elem? z.0 z.1 ≡ some (Some v)) (λ k. (before.items k, at k)) w.in-Some.ensures.value in
                ap (λ (x : Vec g.row.V.Denot Global). x.items) w.values-is ∙ (w.push_reserved.ensures.items ∙ (ap (λ l. l ++ v ∷ []) (before.values vs laid) ∙ take_more vs i v (is_value (slots_items c.args.closed.now.slots) vs i v laid here found)))
            | in_default w ↦
                let found : get_elem? (slots_items c.args.closed.now.slots) (home i) ≡ some None = subst (λ (z : List (Option g.row.V.Denot) × ℕ). get_elem? z.0 z.1 ≡ some None) (λ k. (before.items k, at k)) w.in_default.ensures.value in
                let past : length vs ≤ i = is_spare (slots_items c.args.closed.now.slots) vs i laid found in
                ap (λ (x : Vec g.row.V.Denot Global). x.items) w.values-is ∙ (before.values vs laid ∙ (take_whole vs i past ∙ sym (take_whole vs (i + 1) (omega arith))))
          ];
      room = elim c.match-take.branch [
        | in-Some w ↦ ap (λ (x : Vec g.row.V.Denot Global). vec_capacity x) w.values-is ∙ (w.push_reserved.ensures.capacity ∙ before.room)
        | in_default w ↦ ap (λ (x : Vec g.row.V.Denot Global). vec_capacity x) w.values-is ∙ before.room
      ];
    }

pub returns-clause-values : goal.returns-clause-values
returns-clause-values g c = λ vs laid.
    let e = places g (goal.at.returns-clause-values g c).After-slot_count-i-end vs laid in
    let some = has_room (length vs) in
    let count = c.slot_count-i-end.ensures in
    let end = c.loop-i-test.false in
    c.loop-i.invariant.values vs laid ∙ take_whole vs c.loop-i.i (omega arith)

pub returns-clause-taken : goal.returns-clause-taken
returns-clause-taken g c = λ k below.
    let there = near g (goal.at.returns-clause-taken g c).After-slot_count-i-end k (subst (λ (n : ℕ). k < n) c.loop-i.invariant.len below) in
    let count = c.slot_count-i-end.ensures in
    let end = c.loop-i-test.false in
    subst (λ (j : ℕ). get_or (slots_filled c.loop-i.closed.slots) j false ≡ false) (home_twice k) (c.loop-i.invariant.gone (home k) (omega arith))
