-- A view of each item of a list, as its items are found, changed and added by their Oids.
use Rattle.std.proofs.Common.{◌≡◌, List, [], ◌∷◌, map, Some, inl, inr, refl, ap}
use Rattle.std.specs.Option.{option_map}
use Rattle.dbuf_state.specs.declared.oid.Oid.{Oid}
use Rattle.dbuf_state.specs.Oids.{item_at, oid_eq, with_change, with_item}
use Rattle.dbuf_state.proofs.IndexLemmas.{bool_cases}

module _ {X Y : Type 0} (oid_x : X → Oid) (oid_y : Y → Oid) (view : X → Y) (same : (x : X) → oid_y (view x) ≡ oid_x x) where
  -- the view of what is found
  pub view-found : (at : Oid) (xs : List X) → item_at oid_y at (map view xs) ≡ option_map view (item_at oid_x at xs)
  view-found at [] = refl
  view-found at (x ∷ xs) = elim (bool_cases (oid_eq at (oid_x x))) [
    | inl holds ↦ rw (same x, holds) refl
    | inr fails ↦ rw (same x, fails) (view-found at xs)
  ]

  -- a change of the item of an Oid is a change of its view
  pub view-change : (at : Oid) (f : X → X) (g : Y → Y) (xs : List X) → ((x : X) → item_at oid_x at xs ≡ Some x → view (f x) ≡ g (view x))
      → map view (with_change oid_x at f xs) ≡ with_change oid_y at g (map view xs)
  view-change at f g [] is = refl
  view-change at f g (x ∷ xs) is = elim (bool_cases (oid_eq at (oid_x x))) [
    | inl holds ↦ rw (same x, holds) (ap (λ (y : Y). y ∷ map view xs) (is x (rw holds refl)))
    | inr fails ↦ rw (same x, fails) (ap (λ (ys : List Y). view x ∷ ys) (view-change at f g xs (λ z found. is z (rw fails found))))
  ]

  pub view-item : (at : Oid) (f : X → X) (new : X) (g : Y → Y) (new_view : Y) → ((x : X) → view (f x) ≡ g (view x)) → view new ≡ new_view → (xs : List X)
      → map view (with_item oid_x at f new xs) ≡ with_item oid_y at g new_view (map view xs)
  view-item at f new g new_view each is [] = ap (λ (y : Y). y ∷ []) is
  view-item at f new g new_view each is (x ∷ xs) = elim (bool_cases (oid_eq at (oid_x x))) [
    | inl holds ↦ rw (same x, holds) (ap (λ (y : Y). y ∷ map view xs) (each x))
    | inr fails ↦ rw (same x, fails) (ap (λ (ys : List Y). view x ∷ ys) (view-item at f new g new_view each is xs))
  ]
