-- That the live entries of a ring lie where their laps ask for.
use Rattle.std.proofs.Common.{◌≡◌, Bool, true, false, cond, List, [], ◌∷◌, refl}
use Rattle.std.specs.List.{All, filter}
use Rattle.std.proofs.lemmas.List.Elements.{All-nil, All-cons}
use Rattle.l2_ring.specs.declared.live.Written.{Written}
use Rattle.l2_ring.specs.declared.plan.Plan.{Plan}
use Rattle.l2_ring.specs.Stays.{stays, AreLive}

filtered_cons : {X : Type 0} (p : X → Bool) (x : X) (xs : List X) (b : Bool) → p x ≡ b → All (λ y. p y ≡ true) (filter p xs)
    → All (λ y. p y ≡ true) (cond b (x ∷ filter p xs) (filter p xs))
filtered_cons p x xs true e rest = All-cons (λ y. p y ≡ true) x (filter p xs) e rest
filtered_cons p x xs false e rest = rest

all_filtered : {X : Type 0} (p : X → Bool) (xs : List X) → All (λ y. p y ≡ true) (filter p xs)
all_filtered p [] = All-nil (λ y. p y ≡ true)
all_filtered p (x ∷ xs) = filtered_cons p x xs (p x) refl (all_filtered p xs)

-- what a plan keeps lies where the plan asks for
pub kept_are_live : (plan : Plan) (entries : List Written) → AreLive plan (filter (stays plan) entries)
kept_are_live plan entries = all_filtered (stays plan) entries
