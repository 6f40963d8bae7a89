use Rattle.std.proofs.Common.{◌≡◌, ◌≤◌, ◌+◌, ◌++◌, drop, string_bytes}
use Rattle.arc_paper.specs.Arc.{after, hits}
use Rattle.arc_paper.specs.Text.{page_lines}
use Rattle.arc_paper.proofs.text.write_pages.Given as goal

-- what was written and counted, and the pages to come, are all pages' lines and hits, and lead to where all pages lead
abbrev pub invariant-loop-number : goal.invariant-loop-number
invariant-loop-number l =
    let c = l.fn.paper.capacity in
    let rest = drop l.number l.pages in
    (string_bytes l.text ++ page_lines c l.number rest l.paper.arc ≡ string_bytes l.fn.text ++ page_lines c 0 l.pages l.fn.paper.arc)
    × (after c rest l.paper.arc ≡ after c l.pages l.fn.paper.arc)
    × (l.hits + hits c rest l.paper.arc ≡ hits c l.pages l.fn.paper.arc)
    × (l.paper.capacity ≡ c) × (l.hits ≤ l.number)
