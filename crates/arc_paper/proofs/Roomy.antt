-- The lists of the directory, as nodes go and come.
use Rattle.std.proofs.Common.{◌≡◌, ℕ, suc, ◌+◌, ◌-◌, ◌<◌, ◌≤◌, true, List, [], ◌∷◌, ◌++◌, length, Some, None, inl, inr, refl, sym, ap, subst, ◌∙◌, arith, length-append}
use Rattle.std.proofs.lemmas.Bool.{cases_Bool}
use Rattle.arc_links.specs.PlainLinks.{AreApart as ArePlacesApart, Placed, PlainLinks, element_at}
use Rattle.arc_links.proofs.Places.{length-without}
use Rattle.key_table.specs.PlainTable.{AreApart, HasKey, IsAmong, PlainTable, Row, row}
use Rattle.arc_paper.specs.Arc.{but_last, last_of, stands_in, without}
use Rattle.arc_paper.specs.Bounds.{times_in}
use Rattle.arc_paper.specs.Directory.{IsDirectory, Lists, admitted, copies, count_of, demoted, no_pages, pages_in, promoted, shortened}
use Rattle.arc_paper.specs.Indexed.{IsIndex, IsMoved, IsRoomy, lists_in, lists_of, spot, with_node, without_node}
use Rattle.arc_paper.specs.Queues.{links_in, nodes_in, pages_of, with_links}
use Rattle.arc_paper.specs.declared.directory.Directory.TheInside.{Inside}
use Rattle.arc_paper.specs.declared.queue.Queue.{Queue}
use Rattle.arc_paper.specs.declared.queue.Queue.TheVariants.{T1, T2, B1, B2}
use Rattle.arc_paper.specs.declared.queues.Queues.{Queues}
use Rattle.arc_paper.specs.declared.spot.Spot.{Spot}
use Rattle.arc_paper.proofs.Counting.{length-but_last, length-last_of, length-without as length-without_page, times_of_absent, times_of_standing}
use Rattle.arc_paper.proofs.Directories.{IsDirectory-admitted, IsDirectory-shortened}
use Rattle.arc_paper.proofs.Indexing.{cases_queue, links_in-other, links_in-same, row-one}
use Rattle.arc_paper.proofs.Placing.{IsLast, at-standing, pages-without, standing-at}

-- the lists with these pages in one of them
abbrev pub with_pages : Queue → List ℕ → Lists → Lists
with_pages T1 l d = record d { t1 = l }
with_pages T2 l d = record d { t2 = l }
with_pages B1 l d = record d { b1 = l }
with_pages B2 l d = record d { b2 = l }

lists_of-with : (queue : Queue) (l : PlainLinks ℕ) (q : Queues) (room : ℕ) → lists_of (with_links queue l q) room ≡ with_pages queue (pages_of l.nodes) (lists_of q room)
lists_of-with T1 l q room = refl
lists_of-with T2 l q room = refl
lists_of-with B1 l q room = refl
lists_of-with B2 l q room = refl

pub pages_in-lists : (queue : Queue) (q : Queues) (room : ℕ) → pages_in queue (lists_of q room) ≡ pages_of (nodes_in queue q)
pages_in-lists T1 q room = refl
pages_in-lists T2 q room = refl
pages_in-lists B1 q room = refl
pages_in-lists B2 q room = refl

times-in-le : (queue : Queue) (x : ℕ) (d : Lists) → times_in x (pages_in queue d) ≤ copies x d
times-in-le T1 x d = omega arith
times-in-le T2 x d = omega arith
times-in-le B1 x d = omega arith
times-in-le B2 x d = omega arith

count-one : (a : Queue) (d : Lists) → length (pages_in a d) ≤ count_of d
count-one T1 d = omega arith
count-one T2 d = omega arith
count-one B1 d = omega arith
count-one B2 d = omega arith

count-two : (a b : Queue) (d : Lists) → (a ≡ b → ⊥) → length (pages_in a d) + length (pages_in b d) ≤ count_of d
count-two T1 T1 d differs = absurd (differs refl)
count-two T1 T2 d differs = omega arith
count-two T1 B1 d differs = omega arith
count-two T1 B2 d differs = omega arith
count-two T2 T1 d differs = omega arith
count-two T2 T2 d differs = absurd (differs refl)
count-two T2 B1 d differs = omega arith
count-two T2 B2 d differs = omega arith
count-two B1 T1 d differs = omega arith
count-two B1 T2 d differs = omega arith
count-two B1 B1 d differs = absurd (differs refl)
count-two B1 B2 d differs = omega arith
count-two B2 T1 d differs = omega arith
count-two B2 T2 d differs = omega arith
count-two B2 B1 d differs = omega arith
count-two B2 B2 d differs = absurd (differs refl)

count-with : (queue : Queue) (l : List ℕ) (d : Lists) → count_of (with_pages queue l d) + length (pages_in queue d) ≡ count_of d + length l
count-with T1 l d = omega arith
count-with T2 l d = omega arith
count-with B1 l d = omega arith
count-with B2 l d = omega arith

pages_in-with : (queue : Queue) (l : List ℕ) (d : Lists) → pages_in queue (with_pages queue l d) ≡ l
pages_in-with T1 l d = refl
pages_in-with T2 l d = refl
pages_in-with B1 l d = refl
pages_in-with B2 l d = refl

pub promoted-with : (from : Queue) (x : ℕ) (d : Lists)
    → (let e : Lists = with_pages from (without x (pages_in from d)) d in with_pages T2 (x ∷ pages_in T2 e) e) ≡ promoted from x d
promoted-with T1 x d = refl
promoted-with T2 x d = refl
promoted-with B1 x d = refl
promoted-with B2 x d = refl

pub shortened-with : (queue : Queue) (d : Lists) → with_pages queue (but_last (pages_in queue d)) d ≡ shortened queue d
shortened-with T1 d = refl
shortened-with T2 d = refl
shortened-with B1 d = refl
shortened-with B2 d = refl

length-pages : (nodes : List (Placed ℕ)) → length (pages_of nodes) ≡ length nodes
length-pages [] = refl
length-pages (n ∷ ns) = ap suc (length-pages ns)

pub length-nodes : (queue : Queue) (q : Queues) (room : ℕ) → length (pages_in queue (lists_of q room)) ≡ length (nodes_in queue q)
length-nodes queue q room = ap length (pages_in-lists queue q room) ∙ length-pages (nodes_in queue q)

-- ---- a node goes

pub lists-removed : (q : Queues) (room : ℕ) (rows : List (Row ℕ Spot)) (s : Spot) (x : ℕ) → IsIndex q rows → IsDirectory (lists_of q room) → element_at s.at (nodes_in s.queue q) ≡ Some x
    → lists_of (without_node s q) room ≡ with_pages s.queue (without x (pages_in s.queue (lists_of q room))) (lists_of q room)
lists-removed q room rows s x index kept here =
    let d : Lists = lists_of q room in
    let once : times_in x (pages_of (nodes_in s.queue q)) ≤ 1 =
    subst (λ l. times_in x l ≤ 1) (pages_in-lists s.queue q room) (omega (arith, times-in-le s.queue x d, kept.once x)) in
    lists_of-with s.queue _ q room
    ∙ ap (λ l. with_pages s.queue l d) (pages-without s.at x (nodes_in s.queue q) (index.places s.queue) here once ∙ ap (without x) (sym (pages_in-lists s.queue q room)))

pub lists-last : (q : Queues) (room : ℕ) (s : Spot) (x : ℕ) → IsLast s.at x (nodes_in s.queue q)
    → lists_of (without_node s q) room ≡ with_pages s.queue (but_last (pages_in s.queue (lists_of q room))) (lists_of q room)
lists-last q room s x last =
    lists_of-with s.queue _ q room
    ∙ ap (λ l. with_pages s.queue l (lists_of q room)) (last.rest ∙ ap but_last (sym (pages_in-lists s.queue q room)))

-- ---- a node comes

pub lists-added : (q : Queues) (room : ℕ) (to : Queue) (at x : ℕ) → lists_of (with_node to at x q) room ≡ with_pages to (x ∷ pages_in to (lists_of q room)) (lists_of q room)
lists-added q room to at x =
    lists_of-with to _ q room ∙ ap (λ l. with_pages to (x ∷ l) (lists_of q room)) (sym (pages_in-lists to q room))

-- ---- room

-- how many nodes there are in a list, and may come
abbrev slack : Queue → Queues → ℕ
slack queue q = length (nodes_in queue q) + (links_in queue q).spare

pub slack-removed : (q : Queues) (rows : List (Row ℕ Spot)) (s : Spot) (x : ℕ) (queue : Queue) → IsIndex q rows → element_at s.at (nodes_in s.queue q) ≡ Some x
    → slack queue (without_node s q) ≡ slack queue q
slack-removed q rows s x queue index here = elim (cases_queue queue s.queue) [
  | inl same ↦ subst (λ k. slack k (without_node s q) ≡ slack k q) (sym same)
      (ap (λ (l : PlainLinks ℕ). length l.nodes + l.spare) (links_in-same s.queue _ q)
      ∙ omega (arith, length-without s.at (nodes_in s.queue q) x (index.places s.queue) here))
  | inr differs ↦ ap (λ (l : PlainLinks ℕ). length l.nodes + l.spare) (links_in-other s.queue queue _ q differs)
]

pub slack-added : (q : Queues) (to : Queue) (at x : ℕ) (queue : Queue) → 0 < (links_in to q).spare → slack queue (with_node to at x q) ≡ slack queue q
slack-added q to at x queue room = elim (cases_queue queue to) [
  | inl same ↦ subst (λ k. slack k (with_node to at x q) ≡ slack k q) (sym same)
      (ap (λ (l : PlainLinks ℕ). length l.nodes + l.spare) (links_in-same to _ q) ∙ omega arith)
  | inr differs ↦ ap (λ (l : PlainLinks ℕ). length l.nodes + l.spare) (links_in-other to queue _ q differs)
]

-- once a page is off its list there is room for it in any
pub spare-removed : (d : Inside) (s : Spot) (to : Queue) (x : ℕ) → IsRoomy d → element_at s.at (nodes_in s.queue d.queues) ≡ Some x
    → 0 < (links_in to (without_node s d.queues)).spare
spare-removed d s to x kept here =
    let l = lists_in d in
    let shorter = length-without s.at (nodes_in s.queue d.queues) x (kept.index.places s.queue) here in
    elim (cases_queue to s.queue) [
      | inl same ↦ subst (λ k. 0 < (links_in k (without_node s d.queues)).spare) (sym same)
          (subst (λ (p : PlainLinks ℕ). 0 < p.spare) (sym (links_in-same s.queue _ d.queues)) (omega arith))
      | inr differs ↦ subst (λ (p : PlainLinks ℕ). 0 < p.spare) (sym (links_in-other s.queue to _ d.queues differs))
          (omega (arith, count-two to s.queue l differs, kept.lists.fits, kept.nodes to, length-nodes to d.queues d.room, length-nodes s.queue d.queues d.room, shorter))
    ]

-- ---- what a move leaves

pub IsRoomy-moved : (old new : Inside) (s : Spot) (to : Queue) (d : Lists) → IsRoomy old → IsMoved s to old.queues new.queues → IsIndex new.queues new.table.rows
    → new.table.spare ≡ old.table.spare → new.room ≡ old.room → lists_in new ≡ d → IsDirectory d → count_of d ≡ count_of (lists_in old) → IsRoomy new
IsRoomy-moved old new s to d kept moved index spare room is lists same = record {
  lists = subst IsDirectory (sym is) lists;
  index = index;
  room = omega (arith, kept.room, room);
  nodes = λ queue.
      let gone = slack-removed old.queues old.table.rows s moved.page queue kept.index moved.was in
      let come = slack-added (without_node s old.queues) to moved.at moved.page queue (spare-removed old s to moved.page kept moved.was) in
      let now : slack queue new.queues ≡ slack queue old.queues = ap (slack queue) moved.moved ∙ come ∙ gone in
      omega (arith, now, kept.nodes queue, room);
  rows = let count : count_of (lists_in new) ≡ count_of (lists_in old) = ap count_of is ∙ same in omega (arith, count, spare, room, kept.rows);
}

-- ---- a page is found where it stands

pub found-in : (d : Inside) (x : ℕ) (s : Spot) → IsRoomy d → IsAmong (row x s) d.table.rows → stands_in (pages_in s.queue (lists_in d)) x ≡ true
found-in d x s kept among = subst (λ l. stands_in l x ≡ true) (sym (pages_in-lists s.queue d.queues d.room))
    (standing-at s.at x (nodes_in s.queue d.queues) (kept.index.found x s among))

pub found-from : (d : Inside) (x : ℕ) (s : Spot) (from : Queue) → IsRoomy d → IsAmong (row x s) d.table.rows → stands_in (pages_in from (lists_in d)) x ≡ true → s.queue ≡ from
found-from d x s from kept among here =
    let place = at-standing x (nodes_in from d.queues) (kept.index.places from) (subst (λ l. stands_in l x ≡ true) (pages_in-lists from d.queues d.room) here) in
    ap (λ (t : Spot). t.queue) (row-one d.table.rows x s (spot from place.0) kept.index.apart among (kept.index.listed from place.0 x place.1))

pub has-key : (d : Inside) (x : ℕ) (from : Queue) → IsRoomy d → stands_in (pages_in from (lists_in d)) x ≡ true → HasKey x d.table.rows
has-key d x from kept here =
    let place = at-standing x (nodes_in from d.queues) (kept.index.places from) (subst (λ l. stands_in l x ≡ true) (pages_in-lists from d.queues d.room) here) in
    (spot from place.0, kept.index.listed from place.0 x place.1)

-- ---- promoted, demoted

pub lists-promoted : (old new : Inside) (s : Spot) (from : Queue) (x : ℕ) → IsRoomy old → new.room ≡ old.room → IsMoved s T2 old.queues new.queues → IsAmong (row x s) old.table.rows
    → stands_in (pages_in from (lists_in old)) x ≡ true → lists_in new ≡ promoted from x (lists_in old)
lists-promoted old new s from x kept room moved among here =
    let same : s.queue ≡ from = found-from old x s from kept among here in
    let page : moved.page ≡ x = let e : Some moved.page ≡ Some x = sym moved.was ∙ kept.index.found x s among in cc in
    let d : Lists = lists_in old in
    let off : lists_of (without_node s old.queues) old.room ≡ with_pages from (without x (pages_in from d)) d =
    lists-removed old.queues old.room old.table.rows s moved.page kept.index kept.lists moved.was ∙ ap (λ k. with_pages k (without moved.page (pages_in k d)) d) same
    ∙ ap (λ y. with_pages from (without y (pages_in from d)) d) page in
    ap (lists_of new.queues) room ∙ ap (λ (q : Queues). lists_of q old.room) moved.moved ∙ lists-added (without_node s old.queues) old.room T2 moved.at moved.page
    ∙ ap (λ (e : Lists). with_pages T2 (moved.page ∷ pages_in T2 e) e) off
    ∙ ap (λ y. let e : Lists = with_pages from (without x (pages_in from d)) d in with_pages T2 (y ∷ pages_in T2 e) e) page
    ∙ promoted-with from x d

pub count-promoted : (from : Queue) (x : ℕ) (d : Lists) → stands_in (pages_in from d) x ≡ true → copies x d ≤ 1 → count_of (promoted from x d) ≡ count_of d
count-promoted T1 x d here once = omega (arith, once, times_of_standing x d.t1 here, length-without_page x d.t1)
count-promoted T2 x d here once = omega (arith, once, times_of_standing x d.t2 here, length-without_page x d.t2)
count-promoted B1 x d here once = omega (arith, once, times_of_standing x d.b1 here, length-without_page x d.b1)
count-promoted B2 x d here once = omega (arith, once, times_of_standing x d.b2 here, length-without_page x d.b2)

pub count-demoted : (queue : Queue) (d : Lists) → count_of (demoted queue d) ≡ count_of d
count-demoted T1 d = omega (arith, length-last_of d.t1, length-append (last_of d.t1) d.b1)
count-demoted T2 d = omega (arith, length-last_of d.t2, length-append (last_of d.t2) d.b2)
count-demoted B1 d = refl
count-demoted B2 d = refl

pub lists-demoted_t1 : (old new : Inside) (at x : ℕ) → new.room ≡ old.room → (moved : IsMoved (spot T1 at) B1 old.queues new.queues) → IsLast at x (nodes_in T1 old.queues)
    → lists_in new ≡ demoted T1 (lists_in old)
lists-demoted_t1 old new at x room moved last =
    let page : moved.page ≡ x = let e : Some moved.page ≡ Some x = sym moved.was ∙ last.there in cc in
    let d : Lists = lists_in old in
    ap (lists_of new.queues) room ∙ ap (λ (q : Queues). lists_of q old.room) moved.moved ∙ lists-added (without_node (spot T1 at) old.queues) old.room B1 moved.at moved.page
    ∙ ap (λ (e : Lists). with_pages B1 (moved.page ∷ pages_in B1 e) e) (lists-last old.queues old.room (spot T1 at) x last)
    ∙ ap (λ y. let e : Lists = record d { t1 = but_last d.t1; b1 = y ∷ d.b1 } in e) page
    ∙ ap (λ l. let e : Lists = record d { t1 = but_last d.t1; b1 = l ++ d.b1 } in e) (sym last.last)

pub lists-demoted_t2 : (old new : Inside) (at x : ℕ) → new.room ≡ old.room → (moved : IsMoved (spot T2 at) B2 old.queues new.queues) → IsLast at x (nodes_in T2 old.queues)
    → lists_in new ≡ demoted T2 (lists_in old)
lists-demoted_t2 old new at x room moved last =
    let page : moved.page ≡ x = let e : Some moved.page ≡ Some x = sym moved.was ∙ last.there in cc in
    let d : Lists = lists_in old in
    ap (lists_of new.queues) room ∙ ap (λ (q : Queues). lists_of q old.room) moved.moved ∙ lists-added (without_node (spot T2 at) old.queues) old.room B2 moved.at moved.page
    ∙ ap (λ (e : Lists). with_pages B2 (moved.page ∷ pages_in B2 e) e) (lists-last old.queues old.room (spot T2 at) x last)
    ∙ ap (λ y. let e : Lists = record d { t2 = but_last d.t2; b2 = y ∷ d.b2 } in e) page
    ∙ ap (λ l. let e : Lists = record d { t2 = but_last d.t2; b2 = l ++ d.b2 } in e) (sym last.last)

-- an empty list is as short as it can be
pub demoted-empty_t1 : (d : Lists) → d.t1 ≡ [] → demoted T1 d ≡ d
demoted-empty_t1 d none = ap (λ l. let e : Lists = record d { t1 = but_last l; b1 = last_of l ++ d.b1 } in e) none ∙ ap (λ l. let e : Lists = record d { t1 = l } in e) (sym none)

pub demoted-empty_t2 : (d : Lists) → d.t2 ≡ [] → demoted T2 d ≡ d
demoted-empty_t2 d none = ap (λ l. let e : Lists = record d { t2 = but_last l; b2 = last_of l ++ d.b2 } in e) none ∙ ap (λ l. let e : Lists = record d { t2 = l } in e) (sym none)

pub shortened-empty : (queue : Queue) (d : Lists) → pages_in queue d ≡ [] → shortened queue d ≡ d
shortened-empty T1 d none = ap (λ l. let e : Lists = record d { t1 = but_last l } in e) none ∙ ap (λ l. let e : Lists = record d { t1 = l } in e) (sym none)
shortened-empty T2 d none = ap (λ l. let e : Lists = record d { t2 = but_last l } in e) none ∙ ap (λ l. let e : Lists = record d { t2 = l } in e) (sym none)
shortened-empty B1 d none = ap (λ l. let e : Lists = record d { b1 = but_last l } in e) none ∙ ap (λ l. let e : Lists = record d { b1 = l } in e) (sym none)
shortened-empty B2 d none = ap (λ l. let e : Lists = record d { b2 = but_last l } in e) none ∙ ap (λ l. let e : Lists = record d { b2 = l } in e) (sym none)

pub count-shortened : (queue : Queue) (d : Lists) → 0 < length (pages_in queue d) → count_of (shortened queue d) + 1 ≡ count_of d
count-shortened T1 d some = omega (arith, length-but_last d.t1)
count-shortened T2 d some = omega (arith, length-but_last d.t2)
count-shortened B1 d some = omega (arith, length-but_last d.b1)
count-shortened B2 d some = omega (arith, length-but_last d.b2)

pub lists-none : (q : Queues) (room : ℕ) → ((queue : Queue) → links_in queue q ≡ record { nodes = []; spare = room }) → lists_of q room ≡ no_pages room
lists-none q room h =
    ap (λ (l : PlainLinks ℕ). let e : Lists = record (lists_of q room) { t1 = pages_of l.nodes } in e) (h T1)
    ∙ ap (λ (l : PlainLinks ℕ). let e : Lists = record { t1 = []; t2 = pages_of l.nodes; b1 = pages_of q.b1.nodes; b2 = pages_of q.b2.nodes; room = room } in e) (h T2)
    ∙ ap (λ (l : PlainLinks ℕ). let e : Lists = record { t1 = []; t2 = []; b1 = pages_of l.nodes; b2 = pages_of q.b2.nodes; room = room } in e) (h B1)
    ∙ ap (λ (l : PlainLinks ℕ). let e : Lists = record { t1 = []; t2 = []; b1 = []; b2 = pages_of l.nodes; room = room } in e) (h B2)

-- ---- a page that is found nowhere

pub absent-from : (d : Inside) (x : ℕ) → IsRoomy d → (HasKey x d.table.rows → ⊥) → copies x (lists_in d) ≡ 0
absent-from d x kept none =
    let l : Lists = lists_in d in
    let off : (queue : Queue) → times_in x (pages_in queue l) ≡ 0 = λ queue. elim (cases_Bool (stands_in (pages_in queue l) x)) [
      | inl here ↦ absurd (none (has-key d x queue kept here))
      | inr out ↦ times_of_absent x (pages_in queue l) out
    ] in
    omega (arith, off T1, off T2, off B1, off B2)

pub no-key : (d : Inside) (x : ℕ) → IsRoomy d → copies x (lists_in d) ≡ 0 → HasKey x d.table.rows → ⊥
no-key d x kept absent key =
    omega (arith, times_of_standing x (pages_in key.0.queue (lists_in d)) (found-in d x key.0 kept key.1), times-in-le key.0.queue x (lists_in d))

-- ---- a new page

pub spare-t1 : (d : Inside) → IsRoomy d → count_of (lists_in d) < d.room → 0 < (links_in T1 d.queues).spare
spare-t1 d kept room = omega (arith, kept.nodes T1, length-nodes T1 d.queues d.room, count-one T1 (lists_in d))

pub lists-admitted : (old new : Inside) (at x : ℕ) → new.room ≡ old.room → new.queues ≡ with_node T1 at x old.queues → lists_in new ≡ admitted x (lists_in old)
lists-admitted old new at x room come = ap (lists_of new.queues) room ∙ ap (λ (q : Queues). lists_of q old.room) come ∙ lists-added old.queues old.room T1 at x

pub IsRoomy-admitted : (old new : Inside) (at x : ℕ) → IsRoomy old → new.room ≡ old.room → new.queues ≡ with_node T1 at x old.queues → IsIndex new.queues new.table.rows
    → new.table.spare ≡ old.table.spare - 1 → copies x (lists_in old) ≡ 0 → count_of (lists_in old) < old.room → IsRoomy new
IsRoomy-admitted old new at x kept room come index spare absent less =
    let is : lists_in new ≡ admitted x (lists_in old) = lists-admitted old new at x room come in
    record {
      lists = subst IsDirectory (sym is) (IsDirectory-admitted x (lists_in old) absent less kept.lists);
      index = index;
      room = omega (arith, kept.room, room);
      nodes = λ queue.
          let now : slack queue new.queues ≡ slack queue old.queues = ap (slack queue) come ∙ slack-added old.queues T1 at x queue (spare-t1 old kept less) in
          omega (arith, now, kept.nodes queue, room);
      rows = let count = ap count_of is in omega (arith, count, spare, room, kept.rows);
    }

-- ---- a page that is deleted

pub lists-shortened : (old new : Inside) (s : Spot) (x : ℕ) → new.room ≡ old.room → new.queues ≡ without_node s old.queues → IsLast s.at x (nodes_in s.queue old.queues)
    → lists_in new ≡ shortened s.queue (lists_in old)
lists-shortened old new s x room gone last =
    ap (lists_of new.queues) room ∙ ap (λ (q : Queues). lists_of q old.room) gone ∙ lists-last old.queues old.room s x last ∙ shortened-with s.queue (lists_in old)

pub IsRoomy-shortened : (old new : Inside) (s : Spot) (x : ℕ) → IsRoomy old → new.room ≡ old.room → new.queues ≡ without_node s old.queues → IsLast s.at x (nodes_in s.queue old.queues)
    → IsIndex new.queues new.table.rows → new.table.spare ≡ old.table.spare + 1 → IsRoomy new
IsRoomy-shortened old new s x kept room gone last index spare =
    let is : lists_in new ≡ shortened s.queue (lists_in old) = lists-shortened old new s x room gone last in
    let one = ap length (ap last_of (pages_in-lists s.queue old.queues old.room) ∙ last.last) in
    let some : 0 < length (pages_in s.queue (lists_in old)) = omega (arith, one, length-last_of (pages_in s.queue (lists_in old))) in
    record {
      lists = subst IsDirectory (sym is) (IsDirectory-shortened s.queue (lists_in old) kept.lists);
      index = index;
      room = omega (arith, kept.room, room);
      nodes = λ queue.
          let now : slack queue new.queues ≡ slack queue old.queues = ap (slack queue) gone ∙ slack-removed old.queues old.table.rows s x queue kept.index last.there in
          omega (arith, now, kept.nodes queue, room);
      rows = let count = ap count_of is in omega (arith, count, count-shortened s.queue (lists_in old) some, spare, room, kept.rows);
    }

-- ---- before the first page

no_page : {A : Type 0} (a : A) → None ≡ Some a → ⊥
no_page a e = cc

pub IsRoomy-none : (d : Inside) → ((queue : Queue) → links_in queue d.queues ≡ record { nodes = []; spare = d.room }) → d.table ≡ record { rows = []; spare = d.room }
    → d.room ≤ 2147483648 → IsRoomy d
IsRoomy-none d h table room =
    let none : (queue : Queue) → nodes_in queue d.queues ≡ [] = λ queue. ap (λ (l : PlainLinks ℕ). l.nodes) (h queue) in
    let rows : d.table.rows ≡ [] = ap (λ (t : PlainTable ℕ Spot). t.rows) table in
    record {
      lists = subst IsDirectory (sym (lists-none d.queues d.room h)) (record { once = λ x. omega arith; fits = omega arith });
      index = record {
        places = λ queue. subst ArePlacesApart (sym (none queue)) tt;
        apart = subst AreApart (sym rows) tt;
        listed = λ queue at x e. absurd (no_page x (ap (element_at at) (sym (none queue)) ∙ e));
        found = λ x s among. absurd (subst (IsAmong (row x s)) rows among);
      };
      room = room;
      nodes = λ queue. let spare : (links_in queue d.queues).spare ≡ d.room = ap (λ (l : PlainLinks ℕ). l.spare) (h queue) in omega (arith, spare);
      rows = let spare : d.table.spare ≡ d.room = ap (λ (t : PlainTable ℕ Spot). t.spare) table in omega (arith, spare);
    }
