-- A history of reads and passes: nobody but callers holds anything behind it, and nothing is picked.
use Rattle.std.proofs.Common.{◌≡◌, ◌⊎◌, ℕ, zero, suc, ◌+◌, ◌<◌, ◌≤◌, true, false, ◌==◌, nat_le, IsTrue, List, [], ◌∷◌, map, inl, inr, refl, sym, ap, ◌∙◌, subst, eq-eqb, ne_eqb, arith}
use Rattle.std.specs.List.{AllByRecursion}
use Rattle.std.proofs.lemmas.Bool.{false≢true}
use Rattle.std.proofs.lemmas.Bool.Decides.{nat_tests}
use mathlib.Core.Option.{some, some-injective, some-ne-none}
use lib.ListN.{get_elem?}
use Rattle.blk_ptr.specs.declared.key.Key.{Key}
use Rattle.arc_lists.proofs.Standing.{and_left, and_right, both}
use Rattle.arc_lists.proofs.Tables.{cases_true}
use Rattle.arc_core.specs.declared.event.Event.{Event}
use Rattle.arc_core.specs.declared.event.Event.TheVariants.{Pass, Hit, Miss, Arrive, Fail, Drop, Past, Hand, Insert, Release, Pick, FeedEnd, Set, Leave, Clear, Restore, Resize}
use Rattle.arc_core.specs.Changing.{gained, hold_for}
use Rattle.arc_core.specs.Operations.{Moment, has_its_number, is_of_feed, is_pass, moments, number_of, own_moments}
use Rattle.arc_core.specs.PlainShard.{PlainShard, count_of, numbers}
use Rattle.arc_core.specs.Replay.{is_legal_history, replay}
use Rattle.arc_core.specs.Sound.{IsSound}
use Rattle.arc_core.specs.Step.{after, legal}
use Rattle.arc_core.proofs.Counting.{counting}
use Rattle.arc_core.specs.Rules.{resized}
use Rattle.arc_core.proofs.Others.{frame-kept}
use Rattle.arc_core.proofs.Frames.{frame-fitted}
use Rattle.arc_core.proofs.Soundness.{IsSound-after}
use Rattle.arc_table.specs.Seen.{pass_owner}
use Rattle.trace_run.proofs.one_caller.TellLemmas.{caller-number, is_given, is_of_reads}

-- an event of a caller's reads; or a pass of a caller or the feeder that names another; or a capacity that the feeder gives, or a key that it restores
abbrev pub IsReadEvent : (callers : ℕ) → Event → Type 0
IsReadEvent callers e =
    ((number_of e < callers) × (is_pass e ≡ false) × (is_of_reads e ≡ true))
    ⊎ ((is_pass e ≡ true) × (number_of e < callers + 1) × (pass_owner e < callers + 1))
    ⊎ ((number_of e ≡ callers) × (is_given e ≡ true))

-- ---- what is held behind it

hold-other : (n m : ℕ) (k j : Key) → n < m → hold_for n k m j ≡ 0
hold-other n m k j below = let other : (m == n) ≡ false = ne_eqb m n (λ e. absurd (omega arith)) in rw other refl

-- a number that no caller has gains nothing
none-gained : (callers m : ℕ) (j : Key) (e : Event) → callers ≤ m → IsReadEvent callers e → gained e m j ≡ 0
none-gained callers m j (Hit n k t) above (inl of) = let below : n < m = omega (arith, of.0) in hold-other n m k j below
none-gained callers m j (Hit n k t) above (inr (inl pass)) = absurd (false≢true pass.0)
none-gained callers m j (Hit n k t) above (inr (inr cap)) = absurd (false≢true cap.1)
none-gained callers m j (Miss n k t) above (inl of) = let below : n < m = omega (arith, of.0) in hold-other n m k j below
none-gained callers m j (Miss n k t) above (inr (inl pass)) = absurd (false≢true pass.0)
none-gained callers m j (Miss n k t) above (inr (inr cap)) = absurd (false≢true cap.1)
none-gained callers m j (Insert n k d t) above (inl of) = absurd (false≢true of.2)
none-gained callers m j (Insert n k d t) above (inr (inl pass)) = absurd (false≢true pass.0)
none-gained callers m j (Insert n k d t) above (inr (inr cap)) = absurd (false≢true cap.1)
none-gained callers m j (Hand n k to) above (inl of) = absurd (false≢true of.2)
none-gained callers m j (Hand n k to) above (inr (inl pass)) = absurd (false≢true pass.0)
none-gained callers m j (Hand n k to) above (inr (inr cap)) = absurd (false≢true cap.1)
none-gained callers m j (Pass n k owner) above is = refl
none-gained callers m j (Arrive n k d from) above is = refl
none-gained callers m j (Fail n k at) above is = refl
none-gained callers m j (Drop n k) above is = refl
none-gained callers m j (Past n k kept) above is = refl
none-gained callers m j (Release n k sole) above is = refl
none-gained callers m j (Pick n k) above is = refl
none-gained callers m j (FeedEnd n) above is = refl
none-gained callers m j (Set n k place) above is = refl
none-gained callers m j (Leave n k why) above is = refl
none-gained callers m j (Clear n k) above is = refl
none-gained callers m j (Restore n k place d) above is = refl
none-gained callers m j (Resize n c) above is = refl

pub none-counted : (callers m : ℕ) (j : Key) (s : PlainShard) (es : List Event) → callers ≤ m → m < numbers → IsSound s → IsTrue (is_legal_history s es) → AllByRecursion (IsReadEvent callers) es
    → count_of m j s ≡ 0 → count_of m j (replay s es) ≡ 0
none-counted callers m j s [] above below sound lawful reads none = none
none-counted callers m j s (e ∷ es) above below sound lawful reads none =
    let ok : IsTrue (legal s e) = and_left (legal s e) (is_legal_history (after s e) es) lawful in
    let counts = counting s e m j sound ok below in
    let gains = none-gained callers m j e above reads.0 in
    none-counted callers m j (after s e) es above below (IsSound-after s e sound ok) (and_right (legal s e) (is_legal_history (after s e) es) lawful) reads.1 (omega (arith, counts, gains, none))

-- ---- what is picked

-- It is none of a feed's, or a capacity that is given, or a key that is restored.
abbrev pub IsUnfed : Event → Type 0
IsUnfed e = (is_of_feed e ≡ false) ⊎ (is_given e ≡ true)

none-picked-by : (s : PlainShard) (e : Event) → IsUnfed e → s.picked ≡ [] → (after s e).picked ≡ []
none-picked-by s (Pick n k) (inl other) none = absurd (false≢true (sym other))
none-picked-by s (Pick n k) (inr given) none = absurd (false≢true given)
none-picked-by s (FeedEnd n) (inl other) none = absurd (false≢true (sym other))
none-picked-by s (FeedEnd n) (inr given) none = absurd (false≢true given)
none-picked-by s (Set n k place) (inl other) none = absurd (false≢true (sym other))
none-picked-by s (Set n k place) (inr given) none = absurd (false≢true given)
none-picked-by s (Leave n k why) (inl other) none = absurd (false≢true (sym other))
none-picked-by s (Leave n k why) (inr given) none = absurd (false≢true given)
none-picked-by s (Clear n k) (inl other) none = absurd (false≢true (sym other))
none-picked-by s (Clear n k) (inr given) none = absurd (false≢true given)
none-picked-by s (Restore n k place d) is none = none
none-picked-by s (Resize n c) is none = (frame-fitted (resized c s)).picked ∙ none
none-picked-by s (Pass n k owner) is none = (frame-kept s (Pass n k owner)).picked refl ∙ none
none-picked-by s (Hit n k t) is none = (frame-kept s (Hit n k t)).picked refl ∙ none
none-picked-by s (Miss n k t) is none = (frame-kept s (Miss n k t)).picked refl ∙ none
none-picked-by s (Arrive n k d from) is none = (frame-kept s (Arrive n k d from)).picked refl ∙ none
none-picked-by s (Fail n k at) is none = (frame-kept s (Fail n k at)).picked refl ∙ none
none-picked-by s (Drop n k) is none = (frame-kept s (Drop n k)).picked refl ∙ none
none-picked-by s (Past n k kept) is none = (frame-kept s (Past n k kept)).picked refl ∙ none
none-picked-by s (Hand n k to) is none = (frame-kept s (Hand n k to)).picked refl ∙ none
none-picked-by s (Insert n k d t) is none = (frame-kept s (Insert n k d t)).picked refl ∙ none
none-picked-by s (Release n k sole) is none = (frame-kept s (Release n k sole)).picked refl ∙ none

pub none-picked : (s : PlainShard) (es : List Event) → AllByRecursion IsUnfed es → s.picked ≡ [] → (replay s es).picked ≡ []
none-picked s [] all none = none
none-picked s (e ∷ es) all none = none-picked (after s e) es all.1 (none-picked-by s e all.0 none)

-- no event of reads is one of a feed, and neither is a pass
reads-unfed : (e : Event) → is_of_reads e ≡ true → is_of_feed e ≡ false
reads-unfed (Pass n k owner) is = absurd (false≢true is)
reads-unfed (Hit n k t) is = refl
reads-unfed (Miss n k t) is = refl
reads-unfed (Arrive n k d from) is = refl
reads-unfed (Fail n k at) is = refl
reads-unfed (Drop n k) is = refl
reads-unfed (Past n k kept) is = refl
reads-unfed (Hand n k to) is = absurd (false≢true is)
reads-unfed (Insert n k d t) is = absurd (false≢true is)
reads-unfed (Release n k sole) is = absurd (false≢true is)
reads-unfed (Pick n k) is = absurd (false≢true is)
reads-unfed (FeedEnd n) is = absurd (false≢true is)
reads-unfed (Set n k place) is = absurd (false≢true is)
reads-unfed (Leave n k why) is = absurd (false≢true is)
reads-unfed (Clear n k) is = absurd (false≢true is)
reads-unfed (Restore n k place d) is = absurd (false≢true is)
reads-unfed (Resize n c) is = absurd (false≢true is)

pub pass-unfed : (e : Event) → is_pass e ≡ true → is_of_feed e ≡ false
pass-unfed (Pass n k owner) is = refl
pass-unfed (Hit n k t) is = absurd (false≢true is)
pass-unfed (Miss n k t) is = absurd (false≢true is)
pass-unfed (Arrive n k d from) is = absurd (false≢true is)
pass-unfed (Fail n k at) is = absurd (false≢true is)
pass-unfed (Drop n k) is = absurd (false≢true is)
pass-unfed (Past n k kept) is = absurd (false≢true is)
pass-unfed (Hand n k to) is = absurd (false≢true is)
pass-unfed (Insert n k d t) is = absurd (false≢true is)
pass-unfed (Release n k sole) is = absurd (false≢true is)
pass-unfed (Pick n k) is = absurd (false≢true is)
pass-unfed (FeedEnd n) is = absurd (false≢true is)
pass-unfed (Set n k place) is = absurd (false≢true is)
pass-unfed (Leave n k why) is = absurd (false≢true is)
pass-unfed (Clear n k) is = absurd (false≢true is)
pass-unfed (Restore n k place d) is = absurd (false≢true is)
pass-unfed (Resize n c) is = absurd (false≢true is)

pub all-unfed : (callers : ℕ) (es : List Event) → AllByRecursion (IsReadEvent callers) es → AllByRecursion IsUnfed es
all-unfed callers [] all = tt
all-unfed callers (e ∷ es) all = (one all.0, all-unfed callers es all.1)
  where
    one : IsReadEvent callers e → IsUnfed e
    one (inl of) = inl (reads-unfed e of.2)
    one (inr (inl pass)) = inl (pass-unfed e pass.0)
    one (inr (inr given)) = inr given.1

-- ---- the number of an event

pub read-number : (callers cells : ℕ) (e : Event) → IsReadEvent callers e → IsTrue (has_its_number callers cells e)
read-number callers cells e (inl of) = caller-number callers cells (number_of e) e of.0 (refl, of.1, of.2)
read-number callers cells (Pass n k owner) (inr (inl pass)) =
    let mine : nat_le n callers ≡ true = grind (arith, nat_tests, pass.1) in
    let other : nat_le owner callers ≡ true = grind (arith, nat_tests, pass.2) in
    both (nat_le n callers) (nat_le owner callers) mine other
read-number callers cells (Resize n c) (inr (inr cap)) = eq-eqb n callers cap.0
read-number callers cells (Hit n k t) (inr (inl pass)) = absurd (false≢true pass.0)
read-number callers cells (Miss n k t) (inr (inl pass)) = absurd (false≢true pass.0)
read-number callers cells (Arrive n k d from) (inr (inl pass)) = absurd (false≢true pass.0)
read-number callers cells (Fail n k at) (inr (inl pass)) = absurd (false≢true pass.0)
read-number callers cells (Drop n k) (inr (inl pass)) = absurd (false≢true pass.0)
read-number callers cells (Past n k kept) (inr (inl pass)) = absurd (false≢true pass.0)
read-number callers cells (Hand n k to) (inr (inl pass)) = absurd (false≢true pass.0)
read-number callers cells (Insert n k d t) (inr (inl pass)) = absurd (false≢true pass.0)
read-number callers cells (Release n k sole) (inr (inl pass)) = absurd (false≢true pass.0)
read-number callers cells (Pick n k) (inr (inl pass)) = absurd (false≢true pass.0)
read-number callers cells (FeedEnd n) (inr (inl pass)) = absurd (false≢true pass.0)
read-number callers cells (Set n k place) (inr (inl pass)) = absurd (false≢true pass.0)
read-number callers cells (Leave n k why) (inr (inl pass)) = absurd (false≢true pass.0)
read-number callers cells (Clear n k) (inr (inl pass)) = absurd (false≢true pass.0)
read-number callers cells (Restore n k place d) (inr (inl pass)) = absurd (false≢true pass.0)
read-number callers cells (Resize n c) (inr (inl pass)) = absurd (false≢true pass.0)
read-number callers cells (Hit n k t) (inr (inr cap)) = absurd (false≢true cap.1)
read-number callers cells (Miss n k t) (inr (inr cap)) = absurd (false≢true cap.1)
read-number callers cells (Arrive n k d from) (inr (inr cap)) = absurd (false≢true cap.1)
read-number callers cells (Fail n k at) (inr (inr cap)) = absurd (false≢true cap.1)
read-number callers cells (Drop n k) (inr (inr cap)) = absurd (false≢true cap.1)
read-number callers cells (Past n k kept) (inr (inr cap)) = absurd (false≢true cap.1)
read-number callers cells (Hand n k to) (inr (inr cap)) = absurd (false≢true cap.1)
read-number callers cells (Insert n k d t) (inr (inr cap)) = absurd (false≢true cap.1)
read-number callers cells (Release n k sole) (inr (inr cap)) = absurd (false≢true cap.1)
read-number callers cells (Pick n k) (inr (inr cap)) = absurd (false≢true cap.1)
read-number callers cells (FeedEnd n) (inr (inr cap)) = absurd (false≢true cap.1)
read-number callers cells (Set n k place) (inr (inr cap)) = absurd (false≢true cap.1)
read-number callers cells (Leave n k why) (inr (inr cap)) = absurd (false≢true cap.1)
read-number callers cells (Clear n k) (inr (inr cap)) = absurd (false≢true cap.1)
read-number callers cells (Restore n k place d) (inr (inr cap)) = eq-eqb n callers cap.0
read-number callers cells (Pass n k owner) (inr (inr cap)) = absurd (false≢true cap.1)

-- ---- the events of acts of reads

pub all-events : (P : Event → Type 0) (ms : List Moment) → AllByRecursion P (map (λ m. m.event) ms) → AllByRecursion (λ m. P m.event) ms
all-events P [] all = tt
all-events P (m ∷ ms) all = (all.0, all-events P ms all.1)

-- ---- what is so of a number's own moments is so of its events that are no passes

module _ (P : Event → Type 0) (n : ℕ) where
  pub own-events : (s : PlainShard) (es : List Event) → AllByRecursion (λ m. P m.event) (own_moments n (moments s es))
      → (z : ℕ) (e : Event) → get_elem? es z ≡ some e → number_of e ≡ n → is_pass e ≡ false → P e
  own-events s [] all z e at his none = absurd (some-ne-none e (sym at))
  own-events s (x ∷ xs) all zero e at his none =
      let is : x ≡ e = some-injective x e at in
      let mine : (number_of x == n) ≡ true = eq-eqb (number_of x) n (ap number_of is ∙ his) in
      let no_pass : is_pass x ≡ false = ap is_pass is ∙ none in
      let here : P x × AllByRecursion (λ m. P m.event) (own_moments n (moments (after s x) xs)) = rw (mine, no_pass) at all in
      subst P is here.0
  own-events s (x ∷ xs) all (suc z) e at his none = own-events (after s x) xs (rest-of (cases_true (number_of x == n)) (cases_true (is_pass x))) z e at his none
    where
      rest-of : ((number_of x == n) ≡ true) ⊎ ((number_of x == n) ≡ false) → (is_pass x ≡ true) ⊎ (is_pass x ≡ false) → AllByRecursion (λ m. P m.event) (own_moments n (moments (after s x) xs))
      rest-of (inr other) pass = rw other at all
      rest-of (inl mine) (inl pass) = rw (mine, pass) at all
      rest-of (inl mine) (inr none) = let here : P x × AllByRecursion (λ m. P m.event) (own_moments n (moments (after s x) xs)) = rw (mine, none) at all in here.1
