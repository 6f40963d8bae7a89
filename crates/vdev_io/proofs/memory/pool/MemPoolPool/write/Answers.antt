-- The bytes that are written to are those of the pool, whether they were shared or not: a copy has the same bytes.
use Rattle.std.proofs.Common.{◌≡◌, ℕ, List, [], ◌∷◌, inl, inr, refl, ap, arith}
use Rattle.std.specs.List.{AllZip}
use Rattle.std.proofs.lemmas.Grind.{common_steps}
use Rattle.vdev_io.proofs.memory.pool.MemPoolPool.write.Goals as goal

clones_are_same : (xs ys : List ℕ) → AllZip (λ x y. y ≡ x) xs ys → ys ≡ xs
clones_are_same [] [] h = refl
clones_are_same [] (y ∷ ys) h = elim h [ ]
clones_are_same (x ∷ xs) [] h = elim h [ ]
clones_are_same (x ∷ xs) (y ∷ ys) h = let rest = clones_are_same xs ys h.1 in cc

-- src/memory/pool.rt:91:5
pub returns-clause-written : goal.returns-clause-written
returns-clause-written c =
    let same : c.in_ok-held.held.now.items ≡ c.self.inside.bytes.value.items =
    elim c.in_ok-held.ensures.value [ inl whole ↦ ap (λ v. v.items) whole | inr clone ↦ clones_are_same _ _ clone.0 ] in
    grind (arith, common_steps, same)
