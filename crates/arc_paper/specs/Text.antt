-- The output of the command `paper`.
use Rattle.std.specs.Prelude.{ℕ, ◌+◌, Bool, List, [], ◌∷◌, ◌++◌, length, codes, decimal, slice_index, if◌then◌else◌}
use Rattle.arc_paper.specs.Arc.{Arc, after, fresh, hits, is_hit, step}

-- what a page is, with its number
abbrev pub page_line : ℕ → Bool → List ℕ
page_line number hit = decimal number ++ codes " " ++ (if hit then codes "hit" else codes "miss") ++ codes "\n"

-- a line for each page, the first of which has this number
abbrev pub page_lines : ℕ → ℕ → List ℕ → Arc → List ℕ
page_lines c number [] s = []
page_lines c number (x ∷ pages) s = page_line number (is_hit x s) ++ page_lines c (number + 1) pages (step c x s)

-- the sizes of T1, T2, B1 and B2
abbrev pub sizes_words : List ℕ → List ℕ
sizes_words sizes =
    codes " t1 " ++ decimal (slice_index sizes 0) ++ codes " t2 " ++ decimal (slice_index sizes 1)
    ++ codes " b1 " ++ decimal (slice_index sizes 2) ++ codes " b2 " ++ decimal (slice_index sizes 3)

-- the target and the sizes at the end, and the hits
abbrev pub end_line : ℕ → Arc → ℕ → List ℕ
end_line c s hits =
    codes "paper c " ++ decimal c ++ codes " p " ++ decimal s.p
    ++ sizes_words (length s.t1 ∷ length s.t2 ∷ length s.b1 ∷ length s.b2 ∷ [])
    ++ codes " hits " ++ decimal hits ++ codes "\n"

-- the whole text
abbrev pub pages_text : ℕ → List ℕ → List ℕ
pages_text c pages = page_lines c 0 pages fresh ++ end_line c (after c pages fresh) (hits c pages fresh) ++ codes "end 0\n"
