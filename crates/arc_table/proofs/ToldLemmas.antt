-- What a party did stands in what it has seen, act by act.
use Rattle.std.proofs.Common.{◌≡◌, ◌≢◌, ℕ, List, [], ◌∷◌, ◌++◌, refl, sym, ap, ◌∙◌, subst, eq-eqb, ne_eqb, append_assoc, append-nil}
use Rattle.std.proofs.lemmas.List.Elements.{filter-append}
use mathlib.Core.Logic.{dite}
use native.Mathlib.Decide.{ℕ_discrete}
use Rattle.blk_ptr.specs.declared.key.Key.{Key}
use Rattle.blk_ptr.specs.Hash.{shard_of}
use Rattle.arc_core.specs.declared.config.Config.{Config}
use Rattle.arc_core.specs.declared.event.Event.{Event}
use Rattle.arc_core.specs.Operations.{Act, Moment, StandsFor, Tell, act_key, actor_of, acts_in, moments, own_moments}
use Rattle.turn_table.specs.Places.{Place}
use Rattle.arc_table.specs.declared.view.Known.{Known}
use Rattle.arc_table.specs.Telling.{opening_of}
use Rattle.arc_table.specs.Seen.{AddsAll, AddsOwn, seen_of}
use Rattle.arc_table.specs.Told.{IsTold}
use Rattle.arc_table.proofs.Tells.{Tell-append, Tell-one}

-- ---- one act more

acts-here : (f : Key → ℕ) (shard n : ℕ) (act : Act) → actor_of act ≡ n → f (act_key act) ≡ shard → acts_in f shard n (act ∷ []) ≡ act ∷ []
acts-here f shard n act his here = rw (eq-eqb (actor_of act) n his, eq-eqb (f (act_key act)) shard here) refl

acts-else : (f : Key → ℕ) (shard n : ℕ) (act : Act) → actor_of act ≡ n → f (act_key act) ≢ shard → acts_in f shard n (act ∷ []) ≡ []
acts-else f shard n act his else = rw (eq-eqb (actor_of act) n his, ne_eqb (f (act_key act)) shard else) refl

module _ {C : Type 0} (g : Config) where
  pub told-more : (acts : List Act) (act : Act) (ms : List Moment) (p q : Place (Known C)) → actor_of act ≡ p.number → IsTold g acts p
      → AddsOwn g (shard_of g.shards (act_key act)) ms p q → StandsFor act ms → IsTold g (acts ++ act ∷ []) q
  told-more acts act ms p q his told adds stands shard =
      let f : Key → ℕ = shard_of g.shards in
      subst (λ (n : ℕ). Tell (acts_in f shard n (acts ++ act ∷ [])) (own_moments n (moments (opening_of g) (seen_of g shard q)))) (sym adds.number)
      (subst (λ (l : List Act). Tell l (own_moments p.number (moments (opening_of g) (seen_of g shard q)))) (sym (filter-append _ acts (act ∷ [])))
      (dite (ℕ_discrete (f (act_key act)) shard)
      (λ is. subst (λ (x : List Act × List Moment). Tell (acts_in f shard p.number acts ++ x.0) x.1)
      (λ i. (sym (acts-here f shard p.number act his is) i, sym (subst (λ (x : ℕ). own_moments p.number (moments (opening_of g) (seen_of g x q)) ≡ own_moments p.number (moments (opening_of g) (seen_of g x p)) ++ ms) is adds.here) i))
      (Tell-append (acts_in f shard p.number acts) (act ∷ []) _ ms (told shard) (Tell-one act ms stands)))
      (λ differs. subst (λ (x : List Act × List Event). Tell (acts_in f shard p.number acts ++ x.0) (own_moments p.number (moments (opening_of g) x.1)))
      (λ i. (sym (acts-else f shard p.number act his differs) i, sym (adds.others shard (λ e. differs (sym e))) i))
      (subst (λ (l : List Act). Tell l (own_moments p.number (moments (opening_of g) (seen_of g shard p)))) (sym (append-nil (acts_in f shard p.number acts))) (told shard)))))

  -- ---- one call after another in one shard

  pub adds-own-then : (shard : ℕ) (ms ns : List Moment) (p q r : Place (Known C)) → AddsOwn g shard ms p q → AddsOwn g shard ns q r → AddsOwn g shard (ms ++ ns) p r
  adds-own-then shard ms ns p q r a b = record {
    number = b.number ∙ a.number;
    here =
        let again : own_moments p.number (moments (opening_of g) (seen_of g shard r)) ≡ own_moments p.number (moments (opening_of g) (seen_of g shard q)) ++ ns =
        subst (λ (n : ℕ). own_moments n (moments (opening_of g) (seen_of g shard r)) ≡ own_moments n (moments (opening_of g) (seen_of g shard q)) ++ ns) a.number b.here in
        again ∙ (ap (λ (l : List Moment). l ++ ns) a.here ∙ append_assoc (own_moments p.number (moments (opening_of g) (seen_of g shard p))) ms ns);
    others = λ j differs. b.others j differs ∙ a.others j differs;
  }

  pub adds-all-then : (shard : ℕ) (es fs : List Event) (p q r : Place (Known C)) → AddsAll g shard es p q → AddsAll g shard fs q r → AddsAll g shard (es ++ fs) p r
  adds-all-then shard es fs p q r a b = record {
    number = b.number ∙ a.number;
    here = b.here ∙ (ap (λ (l : List Event). l ++ fs) a.here ∙ append_assoc (seen_of g shard p) es fs);
    others = λ j differs. b.others j differs ∙ a.others j differs;
  }
