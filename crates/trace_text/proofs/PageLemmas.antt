-- Pages, line by line.
use Rattle.std.proofs.Common.{◌≡◌, ℕ, ◌+◌, ◌≤◌, not, List, [], ◌∷◌, ◌++◌, length, map, refl, ap, sym, ◌∙◌, subst, arith, append_assoc, append-nil, length-append, eqb, inl, inr}
use Rattle.std.specs.Prelude.{decimal}
use Rattle.std.proofs.lemmas.Bool.{MatchBool-at_true, MatchBool-at_false, cases_Bool}
use Rattle.std.proofs.lemmas.List.{map-append}
use Rattle.std.proofs.lemmas.List.Elements.{All-nil, All-push, filter-append}
use Rattle.std.proofs.lemmas.List.Splits.{length-slice_split}
use Rattle.std.proofs.lemmas.List.Sums.{count_by-le-length}
use Rattle.trace_text.specs.Grammar.{is_passed_over, lines_of}
use Rattle.trace_text.specs.Pages.{AddsPage, ArePages, IsPage, counted_lines}

pub ArePages-none : ArePages [] []
ArePages-none = record { spelled = refl; ranged = All-nil IsPage; few = omega arith }

-- one more line
pub ArePages-more : (lines : List (List ℕ)) (line old new : List ℕ) → ArePages lines old → AddsPage old line new → ArePages (lines ++ line ∷ []) new
ArePages-more lines line old new are adds =
    let counts = λ (l : List ℕ). not (is_passed_over l) in
    let split : counted_lines (lines ++ line ∷ []) ≡ counted_lines lines ++ counted_lines (line ∷ []) = filter-append counts lines (line ∷ []) in
    elim (cases_Bool (is_passed_over line)) [
      | inl passed ↦
          let same : new ≡ old = MatchBool-at_true _ _ passed adds in
          let none : counted_lines (line ∷ []) ≡ [] = rw passed refl in
          subst (ArePages (lines ++ line ∷ [])) (sym same) (record {
            spelled = split ∙ ap (λ l. counted_lines lines ++ l) none ∙ append-nil (counted_lines lines) ∙ are.spelled;
            ranged = are.ranged;
            few = are.few;
          })
      | inr counted ↦
          let page = MatchBool-at_false _ _ counted adds in
          let x = page.0 in
          let one : counted_lines (line ∷ []) ≡ line ∷ [] = rw counted refl in
          subst (ArePages (lines ++ line ∷ [])) (sym page.4) (record {
            spelled = split ∙ ap (λ l. counted_lines lines ++ l) one ∙ ap (λ l. l ++ line ∷ []) are.spelled
                ∙ ap (λ l. map decimal old ++ l ∷ []) page.1 ∙ sym (map-append decimal old (x ∷ []));
            ranged = All-push IsPage old x are.ranged page.2;
            few = omega (arith, page.3, length-append old (x ∷ []));
          })
    ]

-- the lines that are read, and those that are left
pub record PageProgress (text : List ℕ) (left : List (List ℕ)) (number : ℕ) (pages : List ℕ) : Type 0 where
  pub front : List (List ℕ)
  pub parts : lines_of text ≡ front ++ left
  pub counted : number ≡ length front
  pub leads : ArePages front pages

pub PageProgress-more : (text : List ℕ) (left rest : List (List ℕ)) (line : List ℕ) (number : ℕ) (old new : List ℕ) → PageProgress text left number old
    → left ≡ line ∷ rest → AddsPage old line new → PageProgress text rest (number + 1) new
PageProgress-more text left rest line number old new p is adds = record {
  front = p.front ++ line ∷ [];
  parts = p.parts ∙ ap (λ lines. p.front ++ lines) is ∙ sym (append_assoc p.front (line ∷ []) rest);
  counted = omega (arith, p.counted, length-append p.front (line ∷ []));
  leads = ArePages-more p.front line old new p.leads adds;
}

pub PageProgress-bound : (text : List ℕ) (left rest : List (List ℕ)) (line : List ℕ) (number : ℕ) (pages : List ℕ) → PageProgress text left number pages
    → left ≡ line ∷ rest → number ≤ length text
PageProgress-bound text left rest line number pages p is =
    omega (arith, p.counted, ap length p.parts, length-append p.front left, ap length is, length-slice_split (λ b. eqb b 10) text, count_by-le-length (λ b. eqb b 10) text)
