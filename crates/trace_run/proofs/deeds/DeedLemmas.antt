-- How what a party did is told, once it did more.
use Rattle.std.proofs.Common.{◌≡◌, ◌≢◌, ◌⊎◌, ℕ, ◌==◌, true, false, List, [], ◌∷◌, ◌++◌, refl, sym, ap, ◌∙◌, subst, inl, inr, append-nil, append_assoc, ne_eqb}
use Rattle.std.specs.List.{AllByRecursion}
use Rattle.std.specs.Option.{option_map_or}
use Rattle.std.proofs.lemmas.Bool.{eqb-true}
use Rattle.std.proofs.lemmas.List.Elements.{filter-append}
use Rattle.arc_lists.proofs.Tables.{cases_true}
use Rattle.blk_ptr.specs.Hash.{shard_of}
use Rattle.blk_ptr.specs.declared.key.Key.{Key}
use Rattle.arc_core.specs.declared.config.Config.{Config}
use Rattle.arc_core.specs.declared.event.Event.{Event}
use Rattle.arc_core.specs.declared.event.Event.TheVariants.{Drop, Hand, Release}
use Rattle.arc_core.specs.Operations.{Act, GivesBack, MakesPrivate, actor_of, acts_in, event_key, number_of}
use Rattle.turn_table.specs.Places.{Place}
use Rattle.arc_table.specs.declared.view.Known.{Known}
use Rattle.arc_table.specs.Told.{IsTold}
use Rattle.trace_run.specs.Deeds.{HasAct, HasToldAll, HasToldOthers, Noted, SameMade, act_of_event, acts_of_events, events_there, with_number}
use Rattle.trace_run.proofs.deeds.TurnMakes.{AreTurnEvents, IsTurnEvent, there-append}

-- ---- acts

pub events-acts : (es fs : List Event) → acts_of_events (es ++ fs) ≡ acts_of_events es ++ acts_of_events fs
events-acts [] fs = refl
events-acts (e ∷ es) fs = ap (λ (l : List Act). act_of_event e ++ l) (events-acts es fs) ∙ sym (append_assoc (act_of_event e) (acts_of_events es) (acts_of_events fs))

pub acts-append : (f : Key → ℕ) (shard n : ℕ) (a b : List Act) → acts_in f shard n (a ++ b) ≡ acts_in f shard n a ++ acts_in f shard n b
acts-append f shard n a b = filter-append _ a b

-- acts of this number alone
abbrev pub AreActsBy : ℕ → List Act → Type 0
AreActsBy n = AllByRecursion (λ act. actor_of act ≡ n)

pub acts-of-none : (f : Key → ℕ) (shard n c : ℕ) (acts : List Act) → AreActsBy n acts → n ≢ c → acts_in f shard c acts ≡ []
acts-of-none f shard n c [] all differs = refl
acts-of-none f shard n c (act ∷ acts) all differs =
    let other : (actor_of act == c) ≡ false = ne_eqb (actor_of act) c (λ same. differs (sym all.0 ∙ same)) in
    rw other (acts-of-none f shard n c acts all.1 differs)

-- ---- what a turn's events stand for, under a cell's number

module _ (g : Config) where
  abbrev shard_is : Key → ℕ
  shard_is = shard_of g.shards

  -- one of them
  event-acts : (n d shard c : ℕ) (e : Event) → IsTurnEvent n d e → c ≢ n → acts_in shard_is shard c (act_of_event e) ≡ acts_of_events (with_number c (events_there g shard (e ∷ [])))
  event-acts n d shard c e (inl hand) other_number = subst (λ (x : Event). acts_in shard_is shard c (act_of_event x) ≡ acts_of_events (with_number c (events_there g shard (x ∷ [])))) (sym hand.1) (go (cases_true (shard_is hand.0 == shard)))
    where
      go : ((shard_is hand.0 == shard) ≡ true) ⊎ ((shard_is hand.0 == shard) ≡ false) → [] ≡ acts_of_events (with_number c (events_there g shard (Hand n hand.0 d ∷ [])))
      go (inl here) = let other : (n == c) ≡ false = ne_eqb n c (λ same. other_number (sym same)) in rw (here, other) refl
      go (inr out) = rw out refl
  event-acts n d shard c e (inr (inl drop)) other_number = subst (λ (x : Event). acts_in shard_is shard c (act_of_event x) ≡ acts_of_events (with_number c (events_there g shard (x ∷ [])))) (sym drop.1)
      (go (cases_true (d == c)) (cases_true (shard_is drop.0 == shard)))
    where
      go : ((d == c) ≡ true) ⊎ ((d == c) ≡ false) → ((shard_is drop.0 == shard) ≡ true) ⊎ ((shard_is drop.0 == shard) ≡ false)
          → acts_in shard_is shard c (GivesBack d drop.0 ∷ []) ≡ acts_of_events (with_number c (events_there g shard (Drop d drop.0 ∷ [])))
      go (inl own) (inl here) = rw (own, here, own) refl
      go (inl own) (inr out) = rw (own, out) refl
      go (inr other) (inl here) = rw (other, here, other) refl
      go (inr other) (inr out) = rw (other, out) refl
  event-acts n d shard c e (inr (inr release)) other_number = subst (λ (x : Event). acts_in shard_is shard c (act_of_event x) ≡ acts_of_events (with_number c (events_there g shard (x ∷ [])))) (sym release.2)
      (go (cases_true (d == c)) (cases_true (shard_is release.0 == shard)))
    where
      go : ((d == c) ≡ true) ⊎ ((d == c) ≡ false) → ((shard_is release.0 == shard) ≡ true) ⊎ ((shard_is release.0 == shard) ≡ false)
          → acts_in shard_is shard c (MakesPrivate d release.0 ∷ []) ≡ acts_of_events (with_number c (events_there g shard (Release d release.0 release.1 ∷ [])))
      go (inl own) (inl here) = rw (own, here, own) refl
      go (inl own) (inr out) = rw (own, out) refl
      go (inr other) (inl here) = rw (other, here, other) refl
      go (inr other) (inr out) = rw (other, out) refl

  -- all of them
  pub turn-acts : (n d shard c : ℕ) (es : List Event) → AreTurnEvents n d es → c ≢ n → acts_in shard_is shard c (acts_of_events es) ≡ acts_of_events (with_number c (events_there g shard es))
  turn-acts n d shard c [] kinds other_number = refl
  turn-acts n d shard c (e ∷ es) kinds other_number =
      acts-append shard_is shard c (act_of_event e) (acts_of_events es)
      ∙ ((λ i. event-acts n d shard c e kinds.0 other_number i ++ turn-acts n d shard c es kinds.1 other_number i)
      ∙ (sym (events-acts (with_number c (events_there g shard (e ∷ []))) (with_number c (events_there g shard es)))
      ∙ ap acts_of_events (sym (ap (with_number c) (there-append g shard (e ∷ []) es) ∙ filter-append _ (events_there g shard (e ∷ [])) (events_there g shard es)))))

pub all-both : {A : Type 0} (P : A → Type 0) (xs ys : List A) → AllByRecursion P xs → AllByRecursion P ys → AllByRecursion P (xs ++ ys)
all-both P [] ys a b = b
all-both P (x ∷ xs) ys a b = (a.0, all-both P xs ys a.1 b)

-- each of a turn's events with a cell's number stands for an act
pub turn-kinds : (g : Config) (n d shard c : ℕ) (es : List Event) → AreTurnEvents n d es → c ≢ n → AllByRecursion HasAct (with_number c (events_there g shard es))
turn-kinds g n d shard c [] kinds other_number = tt
turn-kinds g n d shard c (e ∷ es) kinds other_number =
    subst (AllByRecursion HasAct) (sym (ap (with_number c) (there-append g shard (e ∷ []) es) ∙ filter-append _ (events_there g shard (e ∷ [])) (events_there g shard es)))
    (all-both HasAct (with_number c (events_there g shard (e ∷ []))) (with_number c (events_there g shard es)) (one kinds.0) (turn-kinds g n d shard c es kinds.1 other_number))
  where
    some : (x : Event) → (number_of x ≡ c → HasAct x) → AllByRecursion HasAct (with_number c (events_there g shard (x ∷ [])))
    some x act = elim (cases_true (option_map_or (λ (k : Key). shard_of g.shards k == shard) (event_key x) false)) [
      | inl here ↦ elim (cases_true (number_of x == c)) [
        | inl own ↦ rw (here, own) (act (eqb-true (number_of x) c own), tt)
        | inr other ↦ rw (here, other) tt
      ]
      | inr out ↦ rw out tt
    ]

    one : IsTurnEvent n d e → AllByRecursion HasAct (with_number c (events_there g shard (e ∷ [])))
    one (inl hand) = some e (λ is. absurd (other_number (sym is ∙ ap number_of hand.1)))
    one (inr (inl drop)) = some e (λ is. (GivesBack d drop.0, ap act_of_event drop.1))
    one (inr (inr release)) = some e (λ is. (MakesPrivate d release.0, ap act_of_event release.2))

-- ---- telling

module _ {C : Type 0} (g : Config) where
  -- acts of the party's own number alone
  pub told-own : (did acts : List Act) (noted : List Noted) (p q : Place (Known C)) → AreActsBy p.number acts → IsTold g (did ++ acts) q → SameMade g p q → HasToldAll g did noted p → HasToldAll g (did ++ acts) noted q
  told-own did acts noted p q mine told same before = record {
    acts = told;
    cells = λ shard c other.
        let differs : c ≢ p.number = λ is. other (is ∙ sym same.number) in
        acts-append (shard_of g.shards) shard c did acts
        ∙ (ap (λ (l : List Act). acts_in (shard_of g.shards) shard c did ++ l) (acts-of-none (shard_of g.shards) shard p.number c acts mine (λ is. differs (sym is)))
        ∙ (append-nil (acts_in (shard_of g.shards) shard c did) ∙ (before.cells shard c differs ∙ ap acts_of_events (sym (same.cells shard c differs)))));
    kinds = λ shard c other. let differs : c ≢ p.number = λ is. other (is ∙ sym same.number) in subst (AllByRecursion HasAct) (sym (same.cells shard c differs)) (before.kinds shard c differs);
    entries = λ i in_range. same.entries i in_range ∙ before.entries i in_range;
  }

  -- nothing that is told
  pub told-still : (did : List Act) (noted : List Noted) (p q : Place (Known C)) → IsTold g did q → SameMade g p q → HasToldAll g did noted p → HasToldAll g did noted q
  told-still did noted p q told same before = record {
    acts = told;
    cells = λ shard c other. let differs : c ≢ p.number = λ is. other (is ∙ sym same.number) in before.cells shard c differs ∙ ap acts_of_events (sym (same.cells shard c differs));
    kinds = λ shard c other. let differs : c ≢ p.number = λ is. other (is ∙ sym same.number) in subst (AllByRecursion HasAct) (sym (same.cells shard c differs)) (before.kinds shard c differs);
    entries = λ i in_range. same.entries i in_range ∙ before.entries i in_range;
  }

  -- nothing more was made with other numbers, and nothing of a cell
  pub others-still : (did : List Act) (noted : List Noted) (p q : Place (Known C)) → SameMade g p q → HasToldOthers g did noted p → HasToldOthers g did noted q
  others-still did noted p q same h = record {
    cells = λ shard c other. let differs : c ≢ p.number = λ is. other (is ∙ sym same.number) in h.cells shard c differs ∙ ap acts_of_events (sym (same.cells shard c differs));
    kinds = λ shard c other. let differs : c ≢ p.number = λ is. other (is ∙ sym same.number) in subst (AllByRecursion HasAct) (sym (same.cells shard c differs)) (h.kinds shard c differs);
    entries = λ i in_range. same.entries i in_range ∙ h.entries i in_range;
  }
