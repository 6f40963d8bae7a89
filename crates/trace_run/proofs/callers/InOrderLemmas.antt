-- The replies of several callers and of the feeder put together, one line after another from the last.
use Rattle.std.proofs.Common.{◌≡◌, ◌≢◌, ℕ, zero, suc, ◌+◌, ◌<◌, List, [], ◌∷◌, ◌++◌, length, get_or, take, drop, Some, None, refl, sym, ap, ◌∙◌, arith, add-one, append-nil, append_assoc, length-append, false, true}
use Rattle.std.proofs.Math.ListN.{set}
use Rattle.std.proofs.Math.Seq.{drop-cons}
use Rattle.std.specs.Prelude.{◌==◌, Option, filter, slice_get}
use Rattle.std.specs.Option.{option_map_or}
use Rattle.std.proofs.lemmas.List.{drop_all, get_or-set_other, get_or-set_same, length-set, take_all}
use Rattle.std.proofs.lemmas.List.Elements.{filter-append}
use Rattle.std.proofs.lemmas.Option.{get_or_from_slice_get, slice_get_within}
use mathlib.Core.Logic.{dite}
use mathlib.Core.Option.{some}
use native.Mathlib.Decide.{ℕ_discrete}
use lib.ListN.{get_elem?}
use Rattle.trace_text.specs.declared.op.Op.{Op}
use Rattle.trace_text.specs.declared.reply.Reply.{Reply}
use Rattle.trace_text.specs.declared.op.Op.TheVariants as ops
use Rattle.trace_run.specs.callers.InOrder.{AreInOrder, HaveReplies}
use Rattle.trace_run.specs.Feeds.{is_feed}
use Rattle.trace_run.proofs.callers.CallerActLemmas.{his-is, other-is}
use Rattle.trace_run.specs.Lines.{caller_of, is_of_caller, replies_where}
use Rattle.trace_run.proofs.AnswerLemmas.{take_one}

-- ---- an element by its number

module _ {X : Type 0} where
  pub at-of : (xs : List X) (n : ℕ) (x d : X) → get_elem? xs n ≡ some x → (n < length xs) × (get_or xs n d ≡ x)
  at-of [] n x d at = cc
  at-of (y ∷ ys) zero x d at = (omega arith, cc)
  at-of (y ∷ ys) (suc n) x d at = let rest = at-of ys n x d at in (omega arith, rest.1)

  drop_one : (xs : List X) (i : ℕ) (x : X) → slice_get xs i ≡ Some x → drop i xs ≡ x ∷ drop (i + 1) xs
  drop_one xs i x at = rw add-one (drop-cons xs i x (slice_get_within xs i x at) ∙ ap (λ (v : X). v ∷ drop (suc i) xs) (get_or_from_slice_get xs i x x at))

  none-left : (xs : List X) → length xs ≡ 0 → xs ≡ []
  none-left [] none = refl
  none-left (x ∷ xs) none = absurd (omega arith)

-- ---- the lines of one caller

module _ (n : ℕ) (op : Op) where
  -- a line of the caller has the first of its replies, and another line has none of them
  where-own : (ops : List Op) (r : Reply) (rs : List Reply) → is_of_caller n op ≡ true → replies_where (is_of_caller n) (op ∷ ops) (r ∷ rs) ≡ r ∷ replies_where (is_of_caller n) ops rs
  where-own ops r rs own = rw own refl

  where-other : (ops : List Op) (r : Reply) (rs : List Reply) → is_of_caller n op ≡ false → replies_where (is_of_caller n) (op ∷ ops) (r ∷ rs) ≡ replies_where (is_of_caller n) ops rs
  where-other ops r rs other = rw other refl

  count-own : (ops : List Op) → is_of_caller n op ≡ true → length (filter (is_of_caller n) (ops ++ op ∷ [])) ≡ length (filter (is_of_caller n) ops) + 1
  count-own ops own = ap length (filter-append (is_of_caller n) ops (op ∷ [])) ∙ (length-append (filter (is_of_caller n) ops) (filter (is_of_caller n) (op ∷ [])) ∙ rw own refl)

  count-other : (ops : List Op) → is_of_caller n op ≡ false → length (filter (is_of_caller n) (ops ++ op ∷ [])) ≡ length (filter (is_of_caller n) ops)
  count-other ops other = ap length (filter-append (is_of_caller n) ops (op ∷ []) ∙ rw other (append-nil (filter (is_of_caller n) ops)))

-- ---- the feeds

-- a caller's line asks for no feed
pub caller-no-feed : (op : Op) (n : ℕ) → caller_of op ≡ Some n → is_feed op ≡ false
caller-no-feed (ops.Read m t x window) n of = refl
caller-no-feed (ops.Hold m t x) n of = refl
caller-no-feed (ops.Drop m x) n of = refl
caller-no-feed (ops.Get m t at window) n of = refl
caller-no-feed (ops.Put m t at size fill) n of = refl
caller-no-feed (ops.Patch m t at from bytes) n of = refl
caller-no-feed (ops.Pin m t at) n of = refl
caller-no-feed (ops.Unpin m at) n of = refl
caller-no-feed ops.Feed n of = cc
caller-no-feed (ops.Txg t) n of = refl
caller-no-feed (ops.Cap c) n of = refl

-- and a line that asks for one is no caller's
pub feed-no-caller : (op : Op) → is_feed op ≡ true → caller_of op ≡ None
feed-no-caller (ops.Read n t x window) is = cc
feed-no-caller (ops.Hold n t x) is = cc
feed-no-caller (ops.Drop n x) is = cc
feed-no-caller (ops.Get n t at window) is = cc
feed-no-caller (ops.Put n t at size fill) is = cc
feed-no-caller (ops.Patch n t at from bytes) is = cc
feed-no-caller (ops.Pin n t at) is = cc
feed-no-caller (ops.Unpin n at) is = cc
feed-no-caller ops.Feed is = refl
feed-no-caller (ops.Txg t) is = cc
feed-no-caller (ops.Cap c) is = cc

-- its reply is the first of the feeder's, where the line asks for one, and else none of them
module _ (op : Op) where
  fed-own : (ops : List Op) (r : Reply) (rs : List Reply) → is_feed op ≡ true → replies_where is_feed (op ∷ ops) (r ∷ rs) ≡ r ∷ replies_where is_feed ops rs
  fed-own ops r rs own = rw own refl

  fed-other : (ops : List Op) (r : Reply) (rs : List Reply) → is_feed op ≡ false → replies_where is_feed (op ∷ ops) (r ∷ rs) ≡ replies_where is_feed ops rs
  fed-other ops r rs other = rw other refl

  feeds-own : (ops : List Op) → is_feed op ≡ true → length (filter is_feed (ops ++ op ∷ [])) ≡ length (filter is_feed ops) + 1
  feeds-own ops own = ap length (filter-append is_feed ops (op ∷ [])) ∙ (length-append (filter is_feed ops) (filter is_feed (op ∷ [])) ∙ rw own refl)

  feeds-other : (ops : List Op) → is_feed op ≡ false → length (filter is_feed (ops ++ op ∷ [])) ≡ length (filter is_feed ops)
  feeds-other ops other = ap length (filter-append is_feed ops (op ∷ []) ∙ rw other (append-nil (filter is_feed ops)))

-- no caller's reply is its reply
not-his : (n : ℕ) (op : Op) → caller_of op ≡ None → is_of_caller n op ≡ false
not-his n op none = ap (λ (o : Option ℕ). option_map_or (λ (m : ℕ). m == n) o false) none

-- ---- the replies that are placed

-- What is left to each caller and to the feeder is for their lines among the first so many, and the lines behind them have their replies.
pub record ArePlaced (ops : List Op) (first left : List (List Reply)) (fed rest_fed : List Reply) (lines : ℕ) (placed : List Reply) : Type 0 where
  pub count : length placed + lines ≡ length ops
  pub lists : length left ≡ length first
  pub parts : (n : ℕ) → n < length first → get_or first n [] ≡ get_or left n [] ++ replies_where (is_of_caller n) (drop lines ops) placed
  pub own : (n : ℕ) → n < length first → length (get_or left n []) ≡ length (filter (is_of_caller n) (take lines ops))
  pub feeds : fed ≡ rest_fed ++ replies_where is_feed (drop lines ops) placed
  pub asked : length rest_fed ≡ length (filter is_feed (take lines ops))

-- at first none is placed
pub placed-none : (ops : List Op) (first : List (List Reply)) (fed : List Reply) → HaveReplies ops first fed → ArePlaced ops first first fed fed (length ops) []
placed-none ops first fed has = record {
  count = omega arith;
  lists = refl;
  parts = λ n lt. rw (drop_all (length ops) ops (omega arith)) (sym (append-nil (get_or first n [])));
  own = λ n lt. let h = has.each n lt in ap length (at-of first n h.0 [] h.1).1 ∙ (h.2 ∙ ap (λ (l : List Op). length (filter (is_of_caller n) l)) (sym (take_all (length ops) ops (omega arith))));
  feeds = rw (drop_all (length ops) ops (omega arith)) (sym (append-nil fed));
  asked = has.feeds ∙ ap (λ (l : List Op). length (filter is_feed l)) (sym (take_all (length ops) ops (omega arith)));
}

module _ (ops : List Op) (first left : List (List Reply)) (fed rest_fed : List Reply) (k : ℕ) (placed : List Reply) (op : Op) (here : slice_get ops k ≡ Some op) (w : ℕ) (of : caller_of op ≡ Some w) (inside : w < length first) (are : ArePlaced ops first left fed rest_fed (k + 1) placed) where
  -- the caller of the last line that has no reply yet has one left
  pub one-left : length (get_or left w []) ≢ 0
  one-left none =
      let own = are.own w inside in
      let more = ap (λ (l : List Op). length (filter (is_of_caller w) l)) (take_one ops k op here) ∙ count-own w op (take k ops) (his-is w w op of refl) in
      omega arith

  -- it is the line's
  pub placed-more : (rest : List Reply) (r : Reply) → get_or left w [] ≡ rest ++ r ∷ [] → ArePlaced ops first (set left w rest) fed rest_fed k (r ∷ placed)
  placed-more rest r last = record {
    count = let c = are.count in omega arith;
    lists = length-set left w rest ∙ are.lists;
    parts = λ n lt. dite (ℕ_discrete w n)
        (λ mine.
        let now : get_or (set left w rest) n [] ≡ rest = ap (λ (m : ℕ). get_or (set left w rest) m []) (sym mine) ∙ get_or-set_same left w rest [] within in
        let was : get_or left n [] ≡ rest ++ r ∷ [] = ap (λ (m : ℕ). get_or left m []) (sym mine) ∙ last in
        are.parts n lt
        ∙ (ap (λ (l : List Reply). l ++ replies_where (is_of_caller n) (drop (k + 1) ops) placed) was
        ∙ (append_assoc rest (r ∷ []) (replies_where (is_of_caller n) (drop (k + 1) ops) placed)
        ∙ ((λ i. sym now i ++ sym (where-own n op (drop (k + 1) ops) r placed (his-is n w op of mine)) i)
        ∙ ap (λ (l : List Op). get_or (set left w rest) n [] ++ replies_where (is_of_caller n) l (r ∷ placed)) (sym (drop_one ops k op here))))))
        (λ other.
        are.parts n lt
        ∙ ((λ i. sym (get_or-set_other left w n rest [] (λ e. other (sym e))) i ++ sym (where-other n op (drop (k + 1) ops) r placed (other-is n w op of other)) i)
        ∙ ap (λ (l : List Op). get_or (set left w rest) n [] ++ replies_where (is_of_caller n) l (r ∷ placed)) (sym (drop_one ops k op here))));
    own = λ n lt.
        let was = are.own n lt ∙ ap (λ (l : List Op). length (filter (is_of_caller n) l)) (take_one ops k op here) in
        dite (ℕ_discrete w n)
        (λ mine.
        let now : get_or (set left w rest) n [] ≡ rest = ap (λ (m : ℕ). get_or (set left w rest) m []) (sym mine) ∙ get_or-set_same left w rest [] within in
        let long : length (get_or left n []) ≡ length (rest ++ r ∷ []) = ap (λ (m : ℕ). length (get_or left m [])) (sym mine) ∙ ap length last in
        let sum = length-append rest (r ∷ []) in
        let count = count-own n op (take k ops) (his-is n w op of mine) in
        let same = ap length now in
        omega arith)
        (λ other. ap length (get_or-set_other left w n rest [] (λ e. other (sym e))) ∙ (was ∙ count-other n op (take k ops) (other-is n w op of other)));
    feeds =
        are.feeds
        ∙ (ap (λ (l : List Reply). rest_fed ++ l) (sym (fed-other op (drop (k + 1) ops) r placed (caller-no-feed op w of)))
        ∙ ap (λ (l : List Op). rest_fed ++ replies_where is_feed l (r ∷ placed)) (sym (drop_one ops k op here)));
    asked = are.asked ∙ (ap (λ (l : List Op). length (filter is_feed l)) (take_one ops k op here) ∙ feeds-other op (take k ops) (caller-no-feed op w of));
  }
    where
      within : w < length left
      within = let l = are.lists in omega arith

-- the same of a feed
module _ (ops : List Op) (first left : List (List Reply)) (fed rest_fed : List Reply) (k : ℕ) (placed : List Reply) (op : Op) (here : slice_get ops k ≡ Some op) (asks : is_feed op ≡ true) (are : ArePlaced ops first left fed rest_fed (k + 1) placed) where
  pub one-fed-left : length rest_fed ≢ 0
  one-fed-left none =
      let asked = are.asked in
      let more = ap (λ (l : List Op). length (filter is_feed l)) (take_one ops k op here) ∙ feeds-own op (take k ops) asks in
      omega arith

  pub fed-more : (rest : List Reply) (r : Reply) → rest_fed ≡ rest ++ r ∷ [] → ArePlaced ops first left fed rest k (r ∷ placed)
  fed-more rest r last = record {
    count = let c = are.count in omega arith;
    lists = are.lists;
    parts = λ n lt.
        are.parts n lt
        ∙ (ap (λ (l : List Reply). get_or left n [] ++ l) (sym (where-other n op (drop (k + 1) ops) r placed (not-his n op nobody)))
        ∙ ap (λ (l : List Op). get_or left n [] ++ replies_where (is_of_caller n) l (r ∷ placed)) (sym (drop_one ops k op here)));
    own = λ n lt. are.own n lt ∙ (ap (λ (l : List Op). length (filter (is_of_caller n) l)) (take_one ops k op here) ∙ count-other n op (take k ops) (not-his n op nobody));
    feeds =
        are.feeds
        ∙ (ap (λ (l : List Reply). l ++ replies_where is_feed (drop (k + 1) ops) placed) last
        ∙ (append_assoc rest (r ∷ []) (replies_where is_feed (drop (k + 1) ops) placed)
        ∙ (ap (λ (l : List Reply). rest ++ l) (sym (fed-own op (drop (k + 1) ops) r placed asks))
        ∙ ap (λ (l : List Op). rest ++ replies_where is_feed l (r ∷ placed)) (sym (drop_one ops k op here)))));
    asked =
        let was = are.asked ∙ ap (λ (l : List Op). length (filter is_feed l)) (take_one ops k op here) in
        let long = ap length last in
        let sum = length-append rest (r ∷ []) in
        let count = feeds-own op (take k ops) asks in
        omega arith;
  }
    where
      nobody : caller_of op ≡ None
      nobody = feed-no-caller op asks

-- at last all are placed
pub placed-all : (ops : List Op) (first left : List (List Reply)) (fed rest_fed placed : List Reply) → ArePlaced ops first left fed rest_fed 0 placed → AreInOrder ops first fed placed
placed-all ops first left fed rest_fed placed are = record {
  all = let c = are.count in omega arith;
  each = λ n rs at.
      let there = at-of first n rs [] at in
      let none : get_or left n [] ≡ [] = none-left (get_or left n []) (are.own n there.0) in
      sym (sym there.1 ∙ (are.parts n there.0 ∙ ap (λ (l : List Reply). l ++ replies_where (is_of_caller n) ops placed) none));
  feeds = sym (are.feeds ∙ ap (λ (l : List Reply). l ++ replies_where is_feed ops placed) (none-left rest_fed are.asked));
}
