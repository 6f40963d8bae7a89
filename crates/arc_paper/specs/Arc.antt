-- ARC(c) as Megiddo and Modha published it (FAST 2003, figure 4): four lists of pages, and a target for the size of the first.
use Rattle.std.specs.Prelude.{ℕ, ◌+◌, ◌-◌, ◌*◌, ◌/◌, min, Bool, not, ◌&&◌, ◌||◌, ◌==◌, nat_lt, nat_le, if◌then◌else◌, List, [], ◌∷◌, ◌++◌, length, take, drop, filter}
use Rattle.std.specs.List.{list_any}

-- T1 and T2 list the pages that are cached, B1 and B2 those that were a while ago. In each the newest page comes first. The pages of T1
-- and B1 were asked for once, those of T2 and B2 at least twice. p is the target for T1's size.
pub record Arc : Type 0 where
  pub t1 : List ℕ
  pub t2 : List ℕ
  pub b1 : List ℕ
  pub b2 : List ℕ
  pub p : ℕ

-- before the first page
abbrev pub fresh : Arc
fresh = record { t1 = []; t2 = []; b1 = []; b2 = []; p = 0 }

-- ---- lists

-- the page stands in the list
abbrev pub stands_in : List ℕ → ℕ → Bool
stands_in pages x = list_any (λ y. y == x) pages

-- the list without the page
abbrev pub without : ℕ → List ℕ → List ℕ
without x = filter (λ y. not (y == x))

-- the list without its last page
abbrev pub but_last : List ℕ → List ℕ
but_last pages = take (length pages - 1) pages

-- its last page alone, or nothing of an empty list
abbrev pub last_of : List ℕ → List ℕ
last_of pages = drop (length pages - 1) pages

-- how many pages the four lists have
abbrev pub total : Arc → ℕ
total s = length s.t1 + length s.t2 + length s.b1 + length s.b2

-- ---- REPLACE

-- B1 begins with the page that was the last of T1
abbrev pub demote_t1 : Arc → Arc
demote_t1 s = record s { t1 = but_last s.t1; b1 = last_of s.t1 ++ s.b1 }

-- B2 begins with the page that was the last of T2
abbrev pub demote_t2 : Arc → Arc
demote_t2 s = record s { t2 = but_last s.t2; b2 = last_of s.t2 ++ s.b2 }

-- T1 isn't empty, and it is above its target, or at it while the page is in B2
abbrev pub takes_t1 : Bool → Arc → Bool
takes_t1 in_b2 s = nat_lt 0 (length s.t1) && (nat_lt s.p (length s.t1) || (in_b2 && (length s.t1 == s.p)))

abbrev pub replace : ℕ → Arc → Arc
replace x s = if takes_t1 (stands_in s.b2 x) s then demote_t1 s else demote_t2 s

-- ---- the four cases

-- how far the target moves for a page of a ghost list of this size, beside the other ghost list
abbrev pub move_of : ℕ → ℕ → ℕ
move_of own other = if nat_le other own then 1 else other / own

-- the target as of a page in B1, and as of one in B2
abbrev pub raised : ℕ → Arc → Arc
raised c s = record s { p = min c (s.p + move_of (length s.b1) (length s.b2)) }

-- the difference of a smaller and a greater number is 0
abbrev pub lowered : Arc → Arc
lowered s = record s { p = s.p - move_of (length s.b2) (length s.b1) }

-- I. The page is in T1 or T2.
abbrev pub case_cached : ℕ → Arc → Arc
case_cached x s = record s { t1 = without x s.t1; t2 = x ∷ without x s.t2 }

-- the page leaves B1, or B2, and T2 begins with it
abbrev pub from_b1 : ℕ → Arc → Arc
from_b1 x s = record s { b1 = without x s.b1; t2 = x ∷ s.t2 }

abbrev pub from_b2 : ℕ → Arc → Arc
from_b2 x s = record s { b2 = without x s.b2; t2 = x ∷ s.t2 }

-- II. The page is in B1.
abbrev pub case_b1 : ℕ → ℕ → Arc → Arc
case_b1 c x s = from_b1 x (replace x (raised c s))

-- III. The page is in B2.
abbrev pub case_b2 : ℕ → ℕ → Arc → Arc
case_b2 c x s = from_b2 x (replace x (lowered s))

-- IV. The page is in none. Room for it is made where T1 and B1 have c pages, or all four have c or more.
abbrev pub room_in_recent : ℕ → ℕ → Arc → Arc
room_in_recent c x s =
    if nat_lt (length s.t1) c then replace x (record s { b1 = but_last s.b1 }) else record s { t1 = but_last s.t1 }

abbrev pub room_in_all : ℕ → ℕ → Arc → Arc
room_in_all c x s = replace x (if total s == 2 * c then record s { b2 = but_last s.b2 } else s)

abbrev pub room_made : ℕ → ℕ → Arc → Arc
room_made c x s =
    if length s.t1 + length s.b1 == c then room_in_recent c x s
    else if nat_lt (length s.t1 + length s.b1) c && nat_le c (total s) then room_in_all c x s else s

abbrev pub to_t1 : ℕ → Arc → Arc
to_t1 x s = record s { t1 = x ∷ s.t1 }

abbrev pub case_new : ℕ → ℕ → Arc → Arc
case_new c x s = to_t1 x (room_made c x s)

-- ---- a page

-- a hit is a page that is cached
abbrev pub is_hit : ℕ → Arc → Bool
is_hit x s = stands_in s.t1 x || stands_in s.t2 x

-- what the lists and the target are after a page, with room for c pages
abbrev pub step : ℕ → ℕ → Arc → Arc
step c x s =
    if is_hit x s then case_cached x s
    else if stands_in s.b1 x then case_b1 c x s
    else if stands_in s.b2 x then case_b2 c x s
    else case_new c x s

-- and after these pages, in their order
abbrev pub after : ℕ → List ℕ → Arc → Arc
after c [] s = s
after c (x ∷ pages) s = after c pages (step c x s)

-- how many of these pages are hits
abbrev pub hits : ℕ → List ℕ → Arc → ℕ
hits c [] s = 0
hits c (x ∷ pages) s = (if is_hit x s then 1 else 0) + hits c pages (step c x s)
