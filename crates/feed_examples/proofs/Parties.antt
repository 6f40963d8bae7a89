-- The parties of a new cache of one caller: its feeder is ready for a feed.
use Rattle.std.proofs.Common.{◌≡◌, ℕ, zero, suc, ◌<◌, List, inl, inr, [], ◌∷◌, ◌++◌, refl, sym, ap, ◌∙◌, subst, arith}
use mathlib.Core.Option.{some-ne-none}
use Rattle.turn_table.specs.Places.{Place, SomeHas, newcomers}
use Rattle.turn_table.specs.Places as places
use Rattle.arc_table.specs.declared.about.About.{About}
use Rattle.arc_table.specs.declared.view.Known.{Known}
use Rattle.arc_table.specs.Cache.{Cache, IsCache, all_newcomers}
use Rattle.arc_table.specs.Ended.{AreAtRest}
use Rattle.arc_table.specs.Geometry.{parties_of}
use Rattle.arc_table.specs.Views.{newcomer}
use Rattle.arc_examples.specs.Ready.{IsReady}
use Rattle.l2_feed.specs.Ready.{IsFeederReady}
use Rattle.feed_examples.specs.Scenes.{AreParties}

-- the last two of a list of two
last_two : {A : Type 0} → (xs rest : List A) (x y a b : A) → xs ++ x ∷ [] ≡ a ∷ b ∷ [] → xs ≡ rest ++ y ∷ [] → (x ≡ b) × (y ≡ a)
last_two xs [] x y a b whole front =
    let is : y ∷ x ∷ [] ≡ a ∷ b ∷ [] = subst (λ (l : List _). l ++ x ∷ [] ≡ a ∷ b ∷ []) front whole in
    (cc, cc)
last_two xs (z ∷ []) x y a b whole front =
    let is : z ∷ y ∷ x ∷ [] ≡ a ∷ b ∷ [] = subst (λ (l : List _). l ++ x ∷ [] ≡ a ∷ b ∷ []) front whole in
    cc
last_two xs (z ∷ w ∷ rest) x y a b whole front =
    let is : z ∷ w ∷ ((rest ++ y ∷ []) ++ x ∷ []) ≡ a ∷ b ∷ [] = subst (λ (l : List _). l ++ x ∷ [] ≡ a ∷ b ∷ []) front whole in
    let none : (rest ++ y ∷ []) ++ x ∷ [] ≡ [] = cc in
    absurd (some_behind (rest ++ y ∷ []) x none)
  where
    some_behind : {B : Type 0} → (l : List B) (v : B) → l ++ v ∷ [] ≡ [] → ⊥
    some_behind [] v is = cc
    some_behind (u ∷ l) v is = cc

module _ {C : Type 0} (cache : Cache) (is : IsCache cache.row cache.config) (about : About) (same : about.config ≡ cache.config) where
  -- the party of this number
  abbrev fresh : ℕ → Place (Known C)
  fresh n = places.newcomer cache.row.table (parties_of cache.config) n (newcomer about n)

  fresh_ready : (n : ℕ) → IsReady cache (fresh n)
  fresh_ready n = record { valid = is.valid; of = record { row = (refl, sym is.parties); config = same }; free = refl }

  fresh_feeder : (n : ℕ) → n ≡ cache.config.callers → IsFeederReady cache (fresh n)
  fresh_feeder n feeder = record {
    on = record {
      valid = is.valid;
      of = record { row = (refl, sym is.parties); config = same };
      feeder = feeder;
      look = λ i among. absurd among;
      seen = record { own = λ i j a at. absurd (some-ne-none a (sym at)); joined = tt };
    };
    settled = λ i. refl;
  }

  pub new_parties : cache.config.callers ≡ 1 → (all left rest : List (Place (Known C))) (feeder one : Place (Known C)) → all ≡ all_newcomers cache about → all ≡ left ++ feeder ∷ [] → left ≡ rest ++ one ∷ [] → AreParties cache feeder one
  new_parties callers all left rest feeder one new last before =
      let two : parties_of cache.config ≡ 2 = omega arith in
      let both : all ≡ fresh 0 ∷ fresh 1 ∷ [] = new ∙ ap (λ (k : ℕ). newcomers cache.row.table (parties_of cache.config) (newcomer about) 0 k) two in
      let are = last_two left rest feeder one (fresh 0) (fresh 1) (sym last ∙ both) before in
      record {
        callers = callers;
        feeder = subst (IsFeederReady cache) (sym are.0) (fresh_feeder 1 (sym callers));
        free = ap (λ (p : Place (Known C)). p.held) are.0;
        one = subst (IsReady cache) (sym are.1) (fresh_ready 0);
        number = ap (λ (p : Place (Known C)). p.number) are.1;
      }

-- between them the two have every number
pub all_there : {C : Type 0} (cache : Cache) (feeder one : Place (Known C)) → AreParties cache feeder one → (n : ℕ) → n < parties_of cache.config → SomeHas n (one ∷ feeder ∷ [])
all_there cache feeder one are zero below = inl (inl are.number)
all_there cache feeder one are (suc zero) below = inr (inl (inl (are.feeder.on.feeder ∙ are.callers)))
all_there cache feeder one are (suc (suc n)) below = let c = are.callers in absurd (omega arith)

pub at_rest : {C : Type 0} (cache : Cache) (feeder one : Place (Known C)) → AreParties cache feeder one → AreAtRest cache (one ∷ feeder ∷ [])
at_rest cache feeder one are = (are.one.of, are.one.free, (are.feeder.on.of, are.free, tt))
