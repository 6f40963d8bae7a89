-- What holds of the four lists after any pages (the publication's conditions on the directory).
use Rattle.std.specs.Prelude.{◌≡◌, ℕ, ◌+◌, ◌*◌, ◌<◌, ◌≤◌, ◌==◌, List, length, count_by}
use Rattle.arc_paper.specs.Arc.{Arc, after, fresh, total}

-- how often the page stands in a list, and in the four of them
abbrev pub times_in : ℕ → List ℕ → ℕ
times_in x pages = count_by (λ y. y == x) pages

abbrev pub times : ℕ → Arc → ℕ
times x s = times_in x s.t1 + times_in x s.t2 + times_in x s.b1 + times_in x s.b2

-- No page stands twice; T1 and B1 have at most c pages, so have T1 and T2, and all four at most twice as many; and the cache is full
-- where a ghost list isn't empty.
pub record IsBounded (c : ℕ) (s : Arc) : Type 0 where
  pub once : (x : ℕ) → times x s ≤ 1
  pub recent : length s.t1 + length s.b1 ≤ c
  pub cached : length s.t1 + length s.t2 ≤ c
  pub all : total s ≤ 2 * c
  pub full : 0 < length s.b1 + length s.b2 → length s.t1 + length s.t2 ≡ c
  pub target : s.p ≤ c

-- whatever the pages are
abbrev pub AreBoundsKept : Type 0
AreBoundsKept = (c : ℕ) (pages : List ℕ) → 0 < c → IsBounded c (after c pages fresh)
