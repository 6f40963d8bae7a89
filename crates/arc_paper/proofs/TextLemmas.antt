-- The lines of pages, one after the other.
use Rattle.std.proofs.Common.{◌≡◌, ℕ, ◌+◌, cond, List, ◌∷◌, ◌++◌, append_assoc, sym, ◌∙◌, ap, arith}
use Rattle.arc_paper.specs.Arc.{Arc, after, hits, is_hit, step}
use Rattle.arc_paper.specs.Text.{page_line, page_lines}

pub page_lines-more : (c n x : ℕ) (pages rest text all more : List ℕ) (s : Arc) → pages ≡ x ∷ rest → more ≡ text ++ page_line n (is_hit x s)
    → text ++ page_lines c n pages s ≡ all → more ++ page_lines c (n + 1) rest (step c x s) ≡ all
page_lines-more c n x pages rest text all more s is written told =
    ap (λ l. l ++ page_lines c (n + 1) rest (step c x s)) written
    ∙ append_assoc text (page_line n (is_hit x s)) (page_lines c (n + 1) rest (step c x s))
    ∙ ap (λ l. text ++ page_lines c n l s) (sym is) ∙ told

pub after-more : (c x : ℕ) (pages rest : List ℕ) (s all : Arc) → pages ≡ x ∷ rest → after c pages s ≡ all → after c rest (step c x s) ≡ all
after-more c x pages rest s all is told = ap (λ l. after c l s) (sym is) ∙ told

pub hits-more : (c x n one all : ℕ) (pages rest : List ℕ) (s : Arc) → pages ≡ x ∷ rest → one ≡ cond (is_hit x s) 1 0 → n + hits c pages s ≡ all
    → n + one + hits c rest (step c x s) ≡ all
hits-more c x n one all pages rest s is told count =
    let e = ap (λ l. hits c l s) is in
    omega (arith, e, told, count)
