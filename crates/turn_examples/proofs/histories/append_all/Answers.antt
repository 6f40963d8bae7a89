use Rattle.std.proofs.Common.{◌≡◌, ◌<◌, ◌++◌, ◌∷◌, ◌+◌, [], ℕ, List, length, take, get_or, length-take, length-append, sym, ap, ◌∙◌, arith}
use Rattle.std.proofs.lemmas.List.{take_more}
use Rattle.turn_table.specs.Places.{Place, saw}
use Rattle.turn_examples.specs.declared.histories.Writer.{Writer}
use Rattle.turn_examples.specs.declared.histories.Spot.{Spot}
use Rattle.turn_examples.specs.Histories.{spot, spots_at}
use Rattle.turn_examples.proofs.Settled.{spots_more}
use Rattle.turn_examples.proofs.histories.append_all.Goals as goal

pub loop-entry-preserved : goal.loop-entry-preserved
loop-entry-preserved g c =
    let before = c.loop-entry.invariant in
    let es : List ℕ = c.args.entries.now in
    let i : ℕ = c.loop-entry.entry-index in
    let ps : List ℕ = c.loop-entry.places.items in
    let x : ℕ = get_or es i 0 in
    let place : ℕ = c.in_ok-place.place in
    let near : i < length es = c.loop-entry-test.true in
    let long : length ps ≡ length (take i es) = let e = length-take i es in let f = before.2 in omega arith in
    let pushed : c.push.new.self.items ≡ ps ++ place ∷ [] = c.in_ok-push.ensures.items in
    let made : c.append.new.party.own.mine ≡ c.loop-entry.party.own.mine ++ spot 0 place x ∷ [] = c.in_ok-place.ensures.ok in (
      c.append.ensures.party ∙ ap (λ (v : Place Writer). saw v c.append.new.party.own) before.0,
      made ∙ (ap (λ (l : List Spot). l ++ spot 0 place x ∷ []) before.1 ∙ (spots_more ps (take i es) place x long ∙ (λ k. spots_at (sym pushed k) (sym (take_more es i 0 near) k)))),
      ap length pushed ∙ (length-append ps (place ∷ []) ∙ ap (λ n. n + 1) before.2),
    )
