-- The seats of the entries, and what the lists know of them.
use Rattle.std.proofs.Common.{◌≡◌, ℕ, ◌≤◌, false, List, [], ◌∷◌, map, max, Option, Some, None, OnErr, OnOk, Result, Ok, Err, IsSome, is_some, option_map, inl, inr, refl, sym, ap, subst, ◌∙◌, arith}
use Rattle.blk_ptr.specs.declared.key.Key.{Key}
use Rattle.blk_ptr.specs.Order.{key_eq}
use Rattle.arc_lists.specs.ByKey.{has_key, item_at, with_change, with_item, without}
use Rattle.arc_lists.specs.Kept.{ListsKeep}
use Rattle.arc_lists.specs.Members.{size_of}
use Rattle.arc_lists.specs.Posts.{Posts, members_of, post, post_key, standing}
use Rattle.arc_lists.specs.Sequences.{Sequences}
use Rattle.arc_lists.proofs.Tables.{cases_true, some_is, item_at-map, map-with_change, map-with_item, map-without, All-item, All-with_change, All-with_item, All-without}
use Rattle.arc_core.specs.declared.entries.Entries.TheInside.{Inside}
use Rattle.arc_core.specs.declared.entry.Entry.{Entry}
use Rattle.arc_core.specs.declared.rows.Linked.{Linked}
use Rattle.arc_core.specs.Changes.{with_place}
use Rattle.arc_core.specs.Entries.{PlainEntries}
use Rattle.arc_core.specs.seats.EntryRows.{AreKeyed, EntriesKeep, parts}
use Rattle.arc_core.specs.PlainShard.{entry_key, member_of}
use Rattle.arc_core.specs.seats.Seats.{Seat, Seats, entries_in, entry_in, post_in, posts_in, seat, seat_key}

-- the lists know each entry's key and state
pub members-in : (ss : List Seat) → members_of (posts_in ss) ≡ map member_of (entries_in ss)
members-in [] = refl
members-in (s ∷ ss) = ap (λ ms. member_of (entry_in s) ∷ ms) (members-in ss)

pub keeps : (t : Inside) → AreKeyed t.rows.seats → ListsKeep (parts t) → EntriesKeep t
keeps t keyed lists = record { keyed = keyed; lists = lists; sizes = λ s. lists.sizes s ∙ ap (size_of s) (members-in t.rows.seats) }

-- ---- what is there of a key

-- a row's entry is its key's
entry-is : (k : Key) (e : Entry) → e.key ≡ k → record e { key = k } ≡ e
entry-is k e is = ap (λ j. record e { key = j }) (sym is)

module _ (ss : List Seat) (k : Key) where
  pub post-at : (l : Linked) → item_at seat_key k ss ≡ Some (seat k l) → item_at post_key k (posts_in ss) ≡ Some (post k (standing l.entry.state l.at))
  post-at l item = item_at-map seat_key post_key post_in (λ s. refl) k ss ∙ ap (option_map post_in) item

  pub keyed-at : (l : Linked) → AreKeyed ss → item_at seat_key k ss ≡ Some (seat k l) → l.entry.key ≡ k
  keyed-at l keyed item = All-item seat_key (λ s. s.linked.entry.key ≡ s.key) k ss (seat k l) keyed item

  pub entry-at : (l : Linked) → AreKeyed ss → item_at seat_key k ss ≡ Some (seat k l) → item_at entry_key k (entries_in ss) ≡ Some l.entry
  entry-at l keyed item =
      item_at-map seat_key entry_key entry_in (λ s. refl) k ss ∙ ap (option_map entry_in) item ∙ ap (λ e. Some e) (entry-is k l.entry (keyed-at l keyed item))

  pub entry-nowhere : item_at seat_key k ss ≡ None → item_at entry_key k (entries_in ss) ≡ None
  entry-nowhere none = item_at-map seat_key entry_key entry_in (λ s. refl) k ss ∙ ap (option_map entry_in) none

  pub seat-some : IsSome (item_at entry_key k (entries_in ss)) → IsSome (item_at seat_key k ss)
  seat-some there = go (item_at seat_key k ss) (subst IsSome (item_at-map seat_key entry_key entry_in (λ s. refl) k ss) there)
    where
      go : (o : Option Seat) → IsSome (option_map entry_in o) → IsSome o
      go None off = off
      go (Some s) on = refl

  pub post-some : IsSome (item_at post_key k (posts_in ss)) → IsSome (item_at seat_key k ss)
  post-some there = go (item_at seat_key k ss) (subst IsSome (item_at-map seat_key post_key post_in (λ s. refl) k ss) there)
    where
      go : (o : Option Seat) → IsSome (option_map post_in o) → IsSome o
      go None off = off
      go (Some s) on = refl

  pub no-seat : has_key entry_key k (entries_in ss) ≡ false → has_key seat_key k ss ≡ false
  no-seat absent = go (item_at seat_key k ss) (sym (ap is_some (item_at-map seat_key entry_key entry_in (λ s. refl) k ss)) ∙ absent)
    where
      go : (o : Option Seat) → is_some (option_map entry_in o) ≡ false → is_some o ≡ false
      go None off = refl
      go (Some s) on = on

  pub no-post : has_key entry_key k (entries_in ss) ≡ false → has_key post_key k (posts_in ss) ≡ false
  no-post absent = ap is_some (item_at-map seat_key post_key post_in (λ s. refl) k ss) ∙ go (item_at seat_key k ss) (no-seat absent)
    where
      go : (o : Option Seat) → is_some o ≡ false → is_some (option_map post_in o) ≡ false
      go None off = refl
      go (Some s) on = on

  -- ---- a seat that comes, goes or changes

  pub posts-come : (l : Linked) → posts_in (with_item seat_key (seat k l) ss) ≡ with_item post_key (post k (standing l.entry.state l.at)) (posts_in ss)
  posts-come l = map-with_item seat_key post_key post_in (λ s. refl) (seat k l) ss

  pub entries-come : (l : Linked) → l.entry.key ≡ k → entries_in (with_item seat_key (seat k l) ss) ≡ with_item entry_key l.entry (entries_in ss)
  entries-come l is = map-with_item seat_key entry_key entry_in (λ s. refl) (seat k l) ss ∙ ap (λ e. with_item entry_key e (entries_in ss)) (entry-is k l.entry is)

  pub keyed-comes : (l : Linked) → l.entry.key ≡ k → AreKeyed ss → AreKeyed (with_item seat_key (seat k l) ss)
  keyed-comes l is keyed = All-with_item seat_key (λ s. s.linked.entry.key ≡ s.key) (seat k l) ss is keyed

  pub posts-go : posts_in (without seat_key k ss) ≡ without post_key k (posts_in ss)
  posts-go = map-without seat_key post_key post_in (λ s. refl) k ss

  pub entries-go : entries_in (without seat_key k ss) ≡ without entry_key k (entries_in ss)
  entries-go = map-without seat_key entry_key entry_in (λ s. refl) k ss

  pub keyed-goes : AreKeyed ss → AreKeyed (without seat_key k ss)
  keyed-goes keyed = All-without seat_key (λ s. s.linked.entry.key ≡ s.key) k ss keyed

  pub posts-change : (l : Linked) → posts_in (with_change seat_key k (λ _. seat k l) ss) ≡ with_change post_key k (λ _. post k (standing l.entry.state l.at)) (posts_in ss)
  posts-change l = map-with_change seat_key post_key post_in (λ s. refl) k (λ _. seat k l) (λ _. post k (standing l.entry.state l.at)) ss (λ x item. refl)

  pub entries-change : (l : Linked) → l.entry.key ≡ k → entries_in (with_change seat_key k (λ _. seat k l) ss) ≡ with_change entry_key k (λ _. l.entry) (entries_in ss)
  entries-change l is = map-with_change seat_key entry_key entry_in (λ s. refl) k (λ _. seat k l) (λ _. l.entry) ss (λ x item. entry-is k l.entry is)

  pub keyed-changes : (l : Linked) → l.entry.key ≡ k → AreKeyed ss → AreKeyed (with_change seat_key k (λ _. seat k l) ss)
  keyed-changes l is keyed = All-with_change seat_key (λ s. s.linked.entry.key ≡ s.key) k (λ _. seat k l) ss (λ x item. is) keyed

-- ---- a seat with another place on the cache device

-- the row where its entry has another place
abbrev pub placed_at : Option ℕ → Linked → Linked
placed_at place l = record l { entry = with_place place l.entry }

pub entries-place : (ss : List Seat) (k : Key) (l : Linked) (place : Option ℕ) → item_at seat_key k ss ≡ Some (seat k l)
    → entries_in (with_change seat_key k (λ _. seat k (placed_at place l)) ss) ≡ with_change entry_key k (with_place place) (entries_in ss)
entries-place ss k l place item =
    map-with_change seat_key entry_key entry_in (λ s. refl) k (λ _. seat k (placed_at place l)) (with_place place) ss
    (λ x at. ap (λ s. with_place place (entry_in s)) (some_is (sym item ∙ at)))

pub posts-stay : (ss : List Seat) (k : Key) (l made : Linked) → item_at seat_key k ss ≡ Some (seat k l) → post_in (seat k made) ≡ post_in (seat k l)
    → posts_in (with_change seat_key k (λ _. seat k made) ss) ≡ posts_in ss
posts-stay [] k l made item alike = cc
posts-stay (s ∷ ss) k l made item alike = elim (cases_true (key_eq s.key k)) [
  | inl same ↦
      let is : s ≡ seat k l = some_is (rw same at item) in
      rw same (ap (λ p. p ∷ posts_in ss) (alike ∙ ap post_in (sym is)))
  | inr differs ↦ rw differs (ap (λ ps. post_in s ∷ ps) (posts-stay ss k l made (rw differs at item) alike))
]

-- ---- more room

-- a reserve leaves at most the room that was asked for
pub reserved-le : {A E : Type 0} (r : Result A E) (old new : Seats) (n : ℕ) → old.spare ≤ n → OnOk r (new.spare ≡ max old.spare n) → OnErr r (new ≡ old) → new.spare ≤ n
reserved-le (Ok a) old new n le ok err = omega (arith, ok)
reserved-le (Err e) old new n le ok err = omega (arith, ap (λ (z : Seats). z.spare) err)

-- ---- the view

abbrev pub made : List Entry → Sequences → ℕ → ℕ → ℕ → PlainEntries
made es q p c spare = record { items = es; sequences = q; p = p; c = c; spare = spare }

pub entries-same : (es es' : List Entry) (q q' : Sequences) (p c spare : ℕ) → es ≡ es' → q ≡ q' → made es q p c spare ≡ made es' q' p c spare
entries-same es es' q q' p c spare one two = ap (λ z. made z q p c spare) one ∙ ap (λ z. made es' z p c spare) two

-- what the lists know of some seats
abbrev pub posts_of : Seats → Posts
posts_of m = record { posts = posts_in m.seats; spare = m.spare }
