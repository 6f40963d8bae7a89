use Rattle.std.proofs.Common.{rules, ◌≡◌, ℕ, ◌<◌, ◌≤◌, List, [], ◌∷◌, ◌++◌, length, map, get_or, Option, Some, None, Vec, Global, arith, sym, ap, ◌∙◌, subst}
use mathlib.Core.Option.{some}
use mathlib.Core.Logic.{dite}
use native.Mathlib.Decide.{ℕ_discrete}
use lib.ListN.{get_elem?}
use Rattle.turn_table.specs.Homes.{home, room}
use Rattle.turn_table.proofs.Homes.{home_twice, home_within, home_below, home_same}
use Rattle.turn_table.proofs.Rows.{within}
use Rattle.turn_table.proofs.Beginning.{read_home, read_past, get_any, get_beyond, get_else, at_left, at_last}
use Rattle.turn_table.proofs.opening.filled.Goals as goal
use Rattle.turn_table.proofs.opening.filled.Goals.{then-turn-len, else-turn-len}

pub loop-place-preserved : goal.loop-place-preserved
loop-place-preserved g c =
    let before = c.loop-place.invariant in
    let A = Option g.row.V.Denot in
    let i : ℕ = c.loop-place.place in
    let row : List (Option g.row.V.Denot) = c.loop-place.row.items in
    let slots : List (Option g.row.V.Denot) = c.loop-place.slots.items in
    let turn : ℕ = c.home-turn.result in
    let at : turn ≡ home i = c.home-turn.ensures in
    let long : c.len-in-loop-place.result ≡ length row = c.len-in-loop-place.ensures ∙ c.loop-place.row.ok.0 in
    let end : i ≡ length slots = sym before.count ∙ c.loop-place.slots.ok.0 in
    let slot : c.if-turn-len.slot ≡ get_or row (home i) None = elim c.if-turn-len.branch [
      | then-turn-len w ↦
          let below : turn < length row = let a = w.if-turn-len.true in omega arith in
          w.slot-is ∙ (w.take-slot.ensures.value ∙ (w.index_mut.ensures.value ∙ (get_any row turn w.index_mut.result.now None below ∙ ap (λ (j : ℕ). get_or row j None) at)))
      | else-turn-len w ↦
          let beyond : length row ≤ turn = let a = w.if-turn-len.false in omega arith in
          w.slot-is ∙ (sym (get_beyond row turn None beyond) ∙ ap (λ (j : ℕ). get_or row j None) at)
    ] in
    record {
      done = λ k below. ap (λ (l : List (Option g.row.V.Denot)). get_elem? l k) c.push_reserved.ensures.items ∙ dite (ℕ_discrete k i)
          (λ e. subst (λ (j : ℕ). get_elem? (slots ++ c.if-turn-len.slot ∷ []) j ≡ some (get_or (map (λ (v : g.row.V.Denot). Some v) c.args.values.items) (home j) None)) (sym e)
          (ap (λ (j : ℕ). get_elem? (slots ++ c.if-turn-len.slot ∷ []) j) end ∙ (at_last slots c.if-turn-len.slot ∙ ap some (slot ∙ before.left i (omega arith)))))
          (λ ne. at_left slots (c.if-turn-len.slot ∷ []) k (omega arith) ∙ before.done k (omega arith));
      left = λ k from. elim c.if-turn-len.branch [
        | then-turn-len w ↦
            let far : (home k ≡ turn) → ⊥ = λ q. let e : k ≡ i = home_same k i (q ∙ at) in absurd (omega arith) in
            ap (λ (x : Vec (Option g.row.V.Denot) Global). get_or x.items (home k) None) w.row-is ∙ (get_else row turn (home k) w.take-slot.new.self None far ∙ before.left k (omega arith))
        | else-turn-len w ↦ ap (λ (x : Vec (Option g.row.V.Denot) Global). get_or x.items (home k) None) w.row-is ∙ before.left k (omega arith)
      ];
      count = search rules;
      long = elim c.if-turn-len.branch [ then-turn-len w ↦ search rules | else-turn-len w ↦ search rules ];
      room = search rules;
    }

pub returns : goal.returns
returns g c =
    let loop = c.loop-place.invariant in
    let whole : c.loop-place.place ≡ room (length c.args.values.items) = search rules in record {
      long = sym c.loop-place.slots.ok.0 ∙ (loop.count ∙ whole);
      each = λ i v at. loop.done (home i) (subst (λ (n : ℕ). home i < n) (sym whole) (home_below (length c.args.values.items) i (within c.args.values.items i v at)))
          ∙ ap some (ap (λ (j : ℕ). get_or (map (λ (v : g.row.V.Denot). Some v) c.args.values.items) j None) (home_twice i) ∙ read_home c.args.values.items i v at);
      spare = λ i from below. loop.done (home i) (subst (λ (n : ℕ). home i < n) (sym whole) (home_within (length c.args.values.items) i below))
          ∙ ap some (ap (λ (j : ℕ). get_or (map (λ (v : g.row.V.Denot). Some v) c.args.values.items) j None) (home_twice i) ∙ read_past c.args.values.items i from);
    }
