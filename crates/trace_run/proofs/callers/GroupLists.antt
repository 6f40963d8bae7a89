-- Lines behind others: what cuts the histories still does, and which groups they are.
use Rattle.std.proofs.Common.{◌≡◌, ℕ, zero, suc, ◌+◌, ◌<◌, ◌≤◌, true, List, [], ◌∷◌, ◌++◌, Option, Some, None, length, map, take, refl, sym, ap, ◌∙◌, subst, inl, inr, arith, append_assoc}
use Rattle.std.specs.Prelude.{slice_get}
use Rattle.std.proofs.lemmas.List.{take-append-le}
use Rattle.arc_lists.proofs.Tables.{cases_true}
use Rattle.blk_ptr.specs.declared.ptr.Ptr.{Ptr}
use Rattle.arc_core.specs.declared.config.Config.{Config}
use Rattle.arc_core.specs.declared.event.Event.{Event}
use Rattle.arc_core.specs.declared.served.Restored.{Restored}
use Rattle.arc_table.specs.Fronts.{StartsWith}
use Rattle.trace_text.specs.declared.op.Op.{Op}
use Rattle.arc_core.specs.Operations.{Act}
use Rattle.trace_run.specs.FeedEvents.{feeds_told}
use Rattle.trace_run.specs.Feeds.{FeedDone}
use Rattle.trace_run.specs.dbufs.Objects.{Line, ops_of, replies_of}
use Rattle.trace_run.specs.Restores.{restores_in}
use Rattle.trace_run.specs.callers.Together.{BeginsGroup, GroupLines, IsCut, ends_group, events_at_end, groups_begun, groups_of, with_first}
use Rattle.trace_run.proofs.callers.LineLists.{AreInside}
use Rattle.trace_run.proofs.feeds.FedLemmas.{lines-enough, told-front}

-- ---- lists that were put together

module _ {X : Type 0} where
  pub get-left : (xs ys : List X) (k : ℕ) → k < length xs → slice_get (xs ++ ys) k ≡ slice_get xs k
  get-left [] ys k below = absurd (omega arith)
  get-left (x ∷ xs) ys zero below = refl
  get-left (x ∷ xs) ys (suc k) below = get-left xs ys k (omega arith)

  pub get-right : (xs ys : List X) (k : ℕ) → slice_get (xs ++ ys) (length xs + k) ≡ slice_get ys k
  get-right [] ys k = let same : 0 + k ≡ k = omega arith in ap (slice_get ys) same
  get-right (x ∷ xs) ys k = let same : suc (length xs) + k ≡ suc (length xs + k) = omega arith in ap (slice_get (x ∷ (xs ++ ys))) same ∙ get-right xs ys k

  pub slice-there : (xs : List X) (k : ℕ) → k < length xs → (x : X) × (slice_get xs k ≡ Some x)
  slice-there [] k lt = absurd (omega arith)
  slice-there (x ∷ xs) zero lt = (x, refl)
  slice-there (x ∷ xs) (suc k) lt = slice-there xs k (omega arith)

  pub some-same : (a b : X) → ◌≡◌ {A = Option X} (Some a) (Some b) → a ≡ b
  some-same a b is = cc

take-map : {X Y : Type 0} (f : X → Y) (k : ℕ) (xs : List X) → take k (map f xs) ≡ map f (take k xs)
take-map f zero xs = refl
take-map f (suc k) [] = refl
take-map f (suc k) (x ∷ xs) = ap (λ (ys : List _). f x ∷ ys) (take-map f k xs)

-- ---- what is cut stays cut

-- these lines cut the history, each behind those before it
abbrev pub Cuts : Config → List Restored → List Ptr → (shard : ℕ) → (owner : (place : ℕ) → ℕ) → List Line → List FeedDone → (history : List Event) → Type 0
Cuts config restored blocks shard owner ls fs history =
    (k : ℕ) (l : Line) → slice_get ls k ≡ Some l → ends_group l.op ≡ true → IsCut config restored blocks shard owner (take k ls) fs l.work.acts (events_at_end config shard l.op l.work.noted) history

module _ (config : Config) (restored : List Restored) (blocks : List Ptr) (shard : ℕ) (owner : (place : ℕ) → ℕ) where
  -- behind what the feeder had seen
  pub cut-more : (ls : List Line) (fs : List FeedDone) (acts : List Act) (here : List Event → List Event) (h g : List Event) → StartsWith g h → IsCut config restored blocks shard owner ls fs acts here h → IsCut config restored blocks shard owner ls fs acts here g
  cut-more ls fs acts here h g starts cut = record {
    front = cut.front;
    rest = cut.rest ++ starts.0;
    whole = starts.1
        ∙ (ap (λ (l : List Event). l ++ starts.0) cut.whole
        ∙ (append_assoc cut.front (here cut.front ++ cut.rest) starts.0 ∙ ap (λ (l : List Event). cut.front ++ l) (append_assoc (here cut.front) cut.rest starts.0)));
    callers = cut.callers;
    feeder = cut.feeder;
    cells = cut.cells;
    inserted = cut.inserted;
    quiet = cut.quiet;
  }

  pub cuts-more : (ls : List Line) (fs : List FeedDone) (h g : List Event) → StartsWith g h → Cuts config restored blocks shard owner ls fs h → Cuts config restored blocks shard owner ls fs g
  cuts-more ls fs h g starts cut k l at ends = cut-more (take k ls) fs l.work.acts (events_at_end config shard l.op l.work.noted) h g starts (cut k l at ends)

  -- where more feeds were made
  cut-fed : (ls : List Line) (fs gs : List FeedDone) (acts : List Act) (here : List Event → List Event) (h : List Event) → feeds_told (ops_of ls) (replies_of ls) ≤ length fs → IsCut config restored blocks shard owner ls fs acts here h
      → IsCut config restored blocks shard owner ls (fs ++ gs) acts here h
  cut-fed ls fs gs acts here h few cut = record {
    front = cut.front;
    rest = cut.rest;
    whole = cut.whole;
    callers = cut.callers;
    feeder = cut.feeder ∙ ap (λ (l : List Event). restores_in config restored shard ++ l) (sym (lines-enough config shard (ops_of ls) (replies_of ls) fs gs few));
    cells = cut.cells;
    inserted = cut.inserted;
    quiet = cut.quiet;
  }

  front-told : (k : ℕ) (ls : List Line) → feeds_told (ops_of (take k ls)) (replies_of (take k ls)) ≤ feeds_told (ops_of ls) (replies_of ls)
  front-told k ls = subst (λ (n : ℕ). n ≤ feeds_told (ops_of ls) (replies_of ls)) (λ i. feeds_told (take-map (λ (l : Line). l.op) k ls i) (take-map (λ (l : Line). l.reply) k ls i)) (told-front k (ops_of ls) (replies_of ls))

  -- by lines that stand before others
  pub cut-before : (ls ms : List Line) (fs gs : List FeedDone) (h : List Event) → feeds_told (ops_of ls) (replies_of ls) ≤ length fs → Cuts config restored blocks shard owner ls fs h
      → (k : ℕ) (l : Line) → slice_get (ls ++ ms) k ≡ Some l → ends_group l.op ≡ true → k < length ls
      → IsCut config restored blocks shard owner (take k (ls ++ ms)) (fs ++ gs) l.work.acts (events_at_end config shard l.op l.work.noted) h
  cut-before ls ms fs gs h told cut k l at ends below =
      subst (λ (x : List Line). IsCut config restored blocks shard owner x (fs ++ gs) l.work.acts (events_at_end config shard l.op l.work.noted) h) (sym (take-append-le k ls ms (omega (arith, below))))
      (cut-fed (take k ls) fs gs l.work.acts (events_at_end config shard l.op l.work.noted) h (omega (arith, told, front-told k ls)) (cut k l (sym (get-left ls ms k below) ∙ at) ends))

-- ---- groups

-- all these operations are of whole groups
abbrev pub EndsWhole : List Op → Type 0
EndsWhole [] = Unit {0}
EndsWhole (o ∷ []) = ends_group o ≡ true
EndsWhole (o ∷ (x ∷ xs)) = EndsWhole (x ∷ xs)

-- so many are, where a group begins behind them
pub whole-of : (os : List Op) (k : ℕ) → k ≤ length os → BeginsGroup os k → EndsWhole (take k os)
whole-of os zero few begins = tt
whole-of [] (suc k) few begins = absurd (omega (arith, few))
whole-of (o ∷ os) (suc zero) few begins = ap ends_group (some-same o begins.0 begins.1) ∙ begins.2
whole-of (o ∷ []) (suc (suc k)) few begins = absurd (omega (arith, few))
whole-of (o ∷ (x ∷ xs)) (suc (suc k)) few begins = whole-of (x ∷ xs) (suc k) (omega (arith, few)) begins

some-group : (l : Line) (ls : List Line) → (first : GroupLines) × (rest : List GroupLines) × (groups_of (l ∷ ls) ≡ first ∷ rest)
some-group l ls = elim (cases_true (ends_group l.op)) [
  | inl ends ↦ (record { lines = []; end = Some l }, groups_of ls, rw ends refl)
  | inr inside ↦ go (groups_of ls) (rw inside refl)
]
  where
    go : (gs : List GroupLines) → groups_of (l ∷ ls) ≡ with_first l gs → (first : GroupLines) × (rest : List GroupLines) × (groups_of (l ∷ ls) ≡ first ∷ rest)
    go [] is = (record { lines = l ∷ []; end = None }, [], is)
    go (g ∷ gs) is = (record { lines = l ∷ g.lines; end = g.end }, gs, is)

pub groups-append : (ls ms : List Line) → EndsWhole (ops_of ls) → groups_of (ls ++ ms) ≡ groups_of ls ++ groups_of ms
groups-append [] ms whole = refl
groups-append (l ∷ []) ms whole = rw whole refl
groups-append (l ∷ (x ∷ xs)) ms whole =
    let rest = groups-append (x ∷ xs) ms whole in
    elim (cases_true (ends_group l.op)) [
      | inl ends ↦ rw ends (ap (λ (gs : List GroupLines). record { lines = []; end = Some l } ∷ gs) rest)
      | inr inside ↦
          let some_of = some-group x xs in
          rw inside (ap (with_first l) rest ∙ (ap (λ (gs : List GroupLines). with_first l (gs ++ groups_of ms)) some_of.2 ∙ ap (λ (gs : List GroupLines). with_first l gs ++ groups_of ms) (sym some_of.2)))
    ]

pub begun-append : (ls ms : List Line) → EndsWhole (ops_of ls) → groups_begun (ls ++ ms) ≡ groups_of ls ++ groups_begun ms
begun-append [] ms whole = refl
begun-append (l ∷ []) ms whole = rw whole refl
begun-append (l ∷ (x ∷ xs)) ms whole =
    let rest = begun-append (x ∷ xs) ms whole in
    elim (cases_true (ends_group l.op)) [
      | inl ends ↦ rw ends (ap (λ (gs : List GroupLines). record { lines = []; end = Some l } ∷ gs) rest)
      | inr inside ↦
          let some_of = some-group x xs in
          rw inside (ap (with_first l) rest ∙ (ap (λ (gs : List GroupLines). with_first l (gs ++ groups_begun ms)) some_of.2 ∙ ap (λ (gs : List GroupLines). with_first l gs ++ groups_begun ms) (sym some_of.2)))
    ]

-- lines that end no group are one group, which the next line ends
pub group-ended : (ms : List Line) (l : Line) → AreInside ms → ends_group l.op ≡ true → groups_of (ms ++ l ∷ []) ≡ record { lines = ms; end = Some l } ∷ []
group-ended [] l inside ends = rw ends refl
group-ended (m ∷ ms) l inside ends = let here = inside.0 in rw here (ap (with_first m) (group-ended ms l inside.1 ends))

pub group-last : (ms : List Line) → AreInside ms → 0 < length ms → groups_of ms ≡ record { lines = ms; end = None } ∷ []
group-last [] inside some_of = absurd (omega arith)
group-last (m ∷ []) inside some_of = let here = inside.0 in rw here refl
group-last (m ∷ (x ∷ xs)) inside some_of = let here = inside.0 in rw here (ap (with_first m) (group-last (x ∷ xs) inside.1 (omega arith)))

-- or which no line ends
pub group-begun : (ms : List Line) → AreInside ms → groups_begun ms ≡ record { lines = ms; end = None } ∷ []
group-begun [] inside = refl
group-begun (m ∷ ms) inside = let here = inside.0 in rw here (ap (with_first m) (group-begun ms inside.1))
