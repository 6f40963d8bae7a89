-- Lines, one after the other.
use Rattle.std.proofs.Common.{◌≡◌, ℕ, ◌+◌, List, [], ◌∷◌, ◌++◌, length, refl, ap, sym, ◌∙◌, arith, append_assoc, length-append, ◌≤◌, eqb}
use Rattle.std.proofs.lemmas.List.Splits.{length-slice_split}
use Rattle.std.proofs.lemmas.List.Sums.{count_by-le-length}
use Rattle.trace_text.specs.Grammar.{lines_of}
use Rattle.arc_check.specs.LogText.{AddAllToLog, AddsToLog, LogContent, empty_log}

-- one more line
pub AddAll-push : (lines : List (List ℕ)) (line : List ℕ) (before mid after : LogContent) → AddAllToLog before lines mid → AddsToLog mid line after → AddAllToLog before (lines ++ line ∷ []) after
AddAll-push [] line before mid after all adds = (after, (rw (sym all) adds), refl)
AddAll-push (first ∷ lines) line before mid after all adds = (all.0, all.1, AddAll-push lines line all.0 mid after all.2 adds)

-- the lines that are read, and those that are left
pub record Progress (text : List ℕ) (left : List (List ℕ)) (number : ℕ) (said : LogContent) : Type 0 where
  pub front : List (List ℕ)
  pub parts : lines_of text ≡ front ++ left
  pub counted : number ≡ length front
  pub leads : AddAllToLog empty_log front said

-- one more line is read
pub Progress-more : (text : List ℕ) (left rest : List (List ℕ)) (line : List ℕ) (number : ℕ) (said more : LogContent) → Progress text left number said
    → left ≡ line ∷ rest → AddsToLog said line more → Progress text rest (number + 1) more
Progress-more text left rest line number said more p is adds = record {
  front = p.front ++ line ∷ [];
  parts = p.parts ∙ ap (λ lines. p.front ++ lines) is ∙ sym (append_assoc p.front (line ∷ []) rest);
  counted = omega (arith, p.counted, length-append p.front (line ∷ []));
  leads = AddAll-push p.front line empty_log said more p.leads adds;
}

-- a text has at most one line more than it has bytes
pub Progress-bound : (text : List ℕ) (left rest : List (List ℕ)) (line : List ℕ) (number : ℕ) (said : LogContent) → Progress text left number said
    → left ≡ line ∷ rest → number ≤ length text
Progress-bound text left rest line number said p is =
    omega (arith, p.counted, ap length p.parts, length-append p.front left, ap length is, length-slice_split (λ b. eqb b 10) text, count_by-le-length (λ b. eqb b 10) text)
