use Rattle.std.proofs.Common.{◌≡◌, ℕ, ◌+◌, ◌++◌, ◌∷◌, cond, drop, get_or, string_bytes, sym, ◌∙◌, ap, arith, drop-cons, add-one, add-zero}
use Rattle.arc_paper.specs.Arc.{is_hit, step}
use Rattle.arc_paper.specs.Cache.{Cache}
use Rattle.arc_paper.specs.Text.{page_line}
use Rattle.arc_paper.proofs.TextLemmas.{after-more, hits-more, page_lines-more}
use Rattle.arc_paper.proofs.text.write_pages.Goals as goal
use Rattle.arc_paper.proofs.text.write_pages.Goals.{then-hit, else-hit}

pub loop-number-preserved : goal.loop-number-preserved
loop-number-preserved c =
    let n = c.loop-number.number in
    let pages = c.args.pages.now in
    let x = get_or pages n 0 in
    let rest : drop n pages ≡ x ∷ drop (n + 1) pages = rw add-one (drop-cons pages n 0 c.loop-number-test.true) in
    let before = c.loop-number.invariant in
    let same : c.loop-number.paper.capacity ≡ c.args.paper.now.capacity = before.3 in
    let arc : c.page-hit.new.self.arc ≡ step c.args.paper.now.capacity x c.loop-number.paper.arc =
    ap (λ (s : Cache). s.arc) c.page-hit.ensures.moved ∙ ap (λ k. step k x c.loop-number.paper.arc) same in
    let written : string_bytes c.write_page.new.text ≡ string_bytes c.loop-number.text ++ page_line n (is_hit x c.loop-number.paper.arc) =
    c.in_ok-write_page.ensures ∙ ap (λ b. string_bytes c.loop-number.text ++ page_line n b) c.page-hit.ensures.hit in
    let counted : (one : ℕ) × (c.if-hit.hits ≡ c.loop-number.hits + one) × (one ≡ cond (is_hit x c.loop-number.paper.arc) 1 0) = elim c.if-hit.branch [
      | then-hit w ↦ (1, w.hits-is, ap (λ b. cond b 1 0) w.if-hit.ensures.hit)
      | else-hit w ↦ (0, w.hits-is ∙ sym (add-zero c.loop-number.hits), ap (λ b. cond b 1 0) w.if-hit.ensures.hit)
    ] in
    rw arc (
      page_lines-more _ n x _ _ _ _ _ c.loop-number.paper.arc rest written before.0,
      after-more _ x _ _ c.loop-number.paper.arc _ rest before.1,
      rw counted.1 (hits-more _ x c.loop-number.hits _ _ _ _ c.loop-number.paper.arc rest counted.2 before.2),
      ap (λ (s : Cache). s.capacity) c.page-hit.ensures.moved ∙ same,
      elim c.if-hit.branch [ then-hit w ↦ omega (arith, before.4) | else-hit w ↦ omega (arith, before.4) ],
    )
