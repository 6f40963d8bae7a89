-- Segments of linked nodes: how they are cut, joined and kept.
use Rattle.std.proofs.Common.{◌≡◌, ◌≢◌, ℕ, zero, suc, ◌<◌, ◌≤◌, nat_eq, List, [], ◌∷◌, ◌++◌, length, Some, IsSome, inl, inr, refl, sym, ap, subst, ◌∙◌, arith}
use Rattle.std.proofs.lemmas.Bool.{eqb-true, false≢true}
use Rattle.slab.specs.Slab.{Slab, get}
use Rattle.arc_links.specs.declared.node.Node.{Node}
use Rattle.arc_links.specs.Linked.{IsSegment, walk}
use Rattle.arc_links.specs.Nodes.{no_place}
use Rattle.arc_links.specs.PlainLinks.{Placed, element_at, last_place}
use Rattle.arc_links.proofs.Places.{cases_true, element_at-head, ne_test, still_there}

module _ {T : Type 0} where
  -- a segment stays where its own nodes stay as they are
  pub segment-frame : (s t : Slab (Node T)) (b f : ℕ) (ns : List (Placed T)) (e k : ℕ)
      → ((q : ℕ) → IsSome (element_at q ns) → get t q ≡ get s q) → IsSegment s b f ns e k → IsSegment t b f ns e k
  segment-frame s t b f [] e k same seg = seg
  segment-frame s t b f (n ∷ ns) e k same seg = (
    seg.0,
    seg.1,
    seg.2,
    same n.place (rw (element_at-head n ns) refl) ∙ seg.3,
    segment-frame s t n.place seg.2 ns e k (λ q there. same q (still_there q n ns there)) seg.4,
  )

  pub segment-split : (s : Slab (Node T)) (b f : ℕ) (xs ys : List (Placed T)) (e k : ℕ) → IsSegment s b f (xs ++ ys) e k
      → (m : ℕ) × (l : ℕ) × IsSegment s b f xs m l × IsSegment s m l ys e k
  segment-split s b f [] ys e k seg = (b, f, (refl, refl), seg)
  segment-split s b f (x ∷ xs) ys e k seg =
      let rest = segment-split s x.place seg.2 xs ys e k seg.4 in
      (rest.0, rest.1, (seg.0, seg.1, seg.2, seg.3, rest.2), rest.3)

  pub segment-join : (s : Slab (Node T)) (b f : ℕ) (xs ys : List (Placed T)) (m l e k : ℕ) → IsSegment s b f xs m l → IsSegment s m l ys e k → IsSegment s b f (xs ++ ys) e k
  segment-join s b f [] ys m l e k first second = rw (first.0, first.1) second
  segment-join s b f (x ∷ xs) ys m l e k first second =
      (first.0, first.1, first.2, first.3, segment-join s x.place first.2 xs ys m l e k first.4 second)

  -- each node of a segment is one of the slab's
  pub segment-some : (s : Slab (Node T)) (b f : ℕ) (ns : List (Placed T)) (e k q : ℕ) → IsSegment s b f ns e k → IsSome (element_at q ns) → IsSome (get s q)
  segment-some s b f [] e k q seg there = absurd (false≢true there)
  segment-some s b f (n ∷ ns) e k q seg there = elim (cases_true (nat_eq n.place q)) [
    | inl same ↦ rw (sym (eqb-true _ _ same), seg.3) refl
    | inr differs ↦ segment-some s n.place seg.2 ns e k q seg.4 (rw differs at there)
  ]

  -- the end of a segment that has a node is the place of one
  pub segment-end : (s : Slab (Node T)) (b f : ℕ) (m : Placed T) (ms : List (Placed T)) (e k : ℕ) → IsSegment s b f (m ∷ ms) e k
      → IsSome (element_at e (m ∷ ms)) × (e < no_place) × (last_place (m ∷ ms) ≡ Some e)
  segment-end s b f m [] e k seg =
      let is : m.place ≡ e = seg.4.0 in
      (subst (λ q. IsSome (element_at q (m ∷ []))) is (rw (element_at-head m []) refl), subst (λ q. q < no_place) is seg.1, ap (λ q. Some q) is)
  segment-end s b f m (n ∷ ns) e k seg =
      let rest = segment-end s m.place seg.2 n ns e k seg.4 in
      (still_there e m (n ∷ ns) rest.0, rest.1, rest.2)

  -- what a walk meets
  pub walk-is : (s : Slab (Node T)) (b f : ℕ) (ns : List (Placed T)) (e : ℕ) (fuel : ℕ) → IsSegment s b f ns e no_place → length ns ≤ fuel → walk fuel s.slots f ≡ ns
  walk-is s b f [] e zero seg fits = refl
  walk-is s b f [] e (suc fuel) seg fits = rw seg.1 refl
  walk-is s b f (n ∷ ns) e zero seg fits = absurd (omega arith)
  walk-is s b f (n ∷ ns) e (suc fuel) seg fits =
      let apart : n.place ≢ no_place = omega (arith, seg.1) in
      let rest : walk fuel s.slots seg.2 ≡ ns = walk-is s n.place seg.2 ns e fuel seg.4 (omega (arith, fits)) in
      rw (seg.0, ne_test n.place no_place apart, seg.3) (ap (λ l. n ∷ l) rest)

  -- the places of a segment are places
  pub segment-place : (s : Slab (Node T)) (b f : ℕ) (ns : List (Placed T)) (e k q : ℕ) → IsSegment s b f ns e k → IsSome (element_at q ns) → q < no_place
  segment-place s b f [] e k q seg there = absurd (false≢true there)
  segment-place s b f (n ∷ ns) e k q seg there = elim (cases_true (nat_eq n.place q)) [
    | inl same ↦ subst (λ p. p < no_place) (eqb-true _ _ same) seg.1
    | inr differs ↦ segment-place s n.place seg.2 ns e k q seg.4 (rw differs at there)
  ]
