-- The four lists as the directory keeps them.
use Rattle.std.specs.Prelude.{◌≡◌, ℕ, ◌+◌, ◌≤◌, true, List, [], ◌∷◌, ◌++◌, length, Option, Some, None}
use Rattle.arc_paper.specs.Arc.{Arc, but_last, last_of, stands_in, without}
use Rattle.arc_paper.specs.Bounds.{times_in}
use Rattle.arc_paper.specs.declared.queue.Queue.{Queue}
use Rattle.arc_paper.specs.declared.queue.Queue.TheVariants.{T1, T2, B1, B2}

-- the lists, and how many pages there is room for in all of them
pub record Lists : Type 0 where
  pub t1 : List ℕ
  pub t2 : List ℕ
  pub b1 : List ℕ
  pub b2 : List ℕ
  pub room : ℕ

abbrev pub no_pages : ℕ → Lists
no_pages room = record { t1 = []; t2 = []; b1 = []; b2 = []; room = room }

-- the lists with a target
abbrev pub arc_of : Lists → ℕ → Arc
arc_of d p = record { t1 = d.t1; t2 = d.t2; b1 = d.b1; b2 = d.b2; p = p }

abbrev pub pages_in : Queue → Lists → List ℕ
pages_in T1 d = d.t1
pages_in T2 d = d.t2
pages_in B1 d = d.b1
pages_in B2 d = d.b2

abbrev pub count_of : Lists → ℕ
count_of d = length d.t1 + length d.t2 + length d.b1 + length d.b2

-- how often a page stands in the four lists
abbrev pub copies : ℕ → Lists → ℕ
copies x d = times_in x d.t1 + times_in x d.t2 + times_in x d.b1 + times_in x d.b2

-- no page stands twice, and there is room for all
pub record IsDirectory (d : Lists) : Type 0 where
  pub once : (x : ℕ) → copies x d ≤ 1
  pub fits : count_of d ≤ d.room

-- the page goes from its list to the head of T2
abbrev pub promoted : Queue → ℕ → Lists → Lists
promoted T1 x d = record d { t1 = without x d.t1; t2 = x ∷ d.t2 }
promoted T2 x d = record d { t2 = x ∷ without x d.t2 }
promoted B1 x d = record d { b1 = without x d.b1; t2 = x ∷ d.t2 }
promoted B2 x d = record d { b2 = without x d.b2; t2 = x ∷ d.t2 }

-- a new page at the head of T1
abbrev pub admitted : ℕ → Lists → Lists
admitted x d = record d { t1 = x ∷ d.t1 }

-- the last page of T1 or T2 leaves it, and the ghost list of that begins with it; of a ghost list nothing goes
abbrev pub demoted : Queue → Lists → Lists
demoted T1 d = record d { t1 = but_last d.t1; b1 = last_of d.t1 ++ d.b1 }
demoted T2 d = record d { t2 = but_last d.t2; b2 = last_of d.t2 ++ d.b2 }
demoted B1 d = d
demoted B2 d = d

-- the last page of a list is deleted
abbrev pub shortened : Queue → Lists → Lists
shortened T1 d = record d { t1 = but_last d.t1 }
shortened T2 d = record d { t2 = but_last d.t2 }
shortened B1 d = record d { b1 = but_last d.b1 }
shortened B2 d = record d { b2 = but_last d.b2 }

-- the page stands in none of the lists
abbrev pub IsAbsent : ℕ → Lists → Type 0
IsAbsent x d = copies x d ≡ 0

-- the list in which the page stands
abbrev pub IsFound : ℕ → Lists → Option Queue → Type 0
IsFound x d None = IsAbsent x d
IsFound x d (Some queue) = stands_in (pages_in queue d) x ≡ true
