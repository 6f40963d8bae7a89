-- The index of the lists, as pages come and go.
use Rattle.std.proofs.Common.{◌≡◌, ℕ, true, false, not, eqb, List, [], ◌∷◌, Some, None, ◌⊎◌, inl, inr, refl, sym, ap, subst, ◌∙◌}
use Rattle.std.specs.List.{filter}
use Rattle.std.proofs.lemmas.Bool.{cases_Bool, cases_eq, eqb-true, eqb-false}
use Rattle.arc_links.specs.PlainLinks.{AreApart as ArePlacesApart, PlainLinks, element_at, placed, without_place}
use Rattle.arc_links.proofs.Places.{AreApart-without, element_at-head, element_at-other, element_at-without_other, element_at-without_same}
use Rattle.key_table.specs.PlainTable.{AreApart, Changes, Gains, IsAmong, Loses, Row, row}
use Rattle.arc_paper.specs.declared.queue.Queue.{Queue}
use Rattle.arc_paper.specs.declared.queue.Queue.TheVariants.{T1, T2, B1, B2}
use Rattle.arc_paper.specs.declared.queues.Queues.{Queues}
use Rattle.arc_paper.specs.declared.spot.Spot.{Spot}
use Rattle.arc_paper.specs.Indexed.{IsIndex, spot, with_node, without_node}
use Rattle.arc_paper.specs.Queues.{links_in, nodes_in, with_links}

-- ---- the names of the lists

pub cases_queue : (a b : Queue) → (a ≡ b) ⊎ (a ≡ b → ⊥)
cases_queue T1 T1 = inl refl
cases_queue T1 T2 = inr (λ e. cc)
cases_queue T1 B1 = inr (λ e. cc)
cases_queue T1 B2 = inr (λ e. cc)
cases_queue T2 T1 = inr (λ e. cc)
cases_queue T2 T2 = inl refl
cases_queue T2 B1 = inr (λ e. cc)
cases_queue T2 B2 = inr (λ e. cc)
cases_queue B1 T1 = inr (λ e. cc)
cases_queue B1 T2 = inr (λ e. cc)
cases_queue B1 B1 = inl refl
cases_queue B1 B2 = inr (λ e. cc)
cases_queue B2 T1 = inr (λ e. cc)
cases_queue B2 T2 = inr (λ e. cc)
cases_queue B2 B1 = inr (λ e. cc)
cases_queue B2 B2 = inl refl

pub links_in-same : (queue : Queue) (l : PlainLinks ℕ) (q : Queues) → links_in queue (with_links queue l q) ≡ l
links_in-same T1 l q = refl
links_in-same T2 l q = refl
links_in-same B1 l q = refl
links_in-same B2 l q = refl

pub links_in-other : (queue other : Queue) (l : PlainLinks ℕ) (q : Queues) → (other ≡ queue → ⊥) → links_in other (with_links queue l q) ≡ links_in other q
links_in-other T1 T1 l q differs = absurd (differs refl)
links_in-other T1 T2 l q differs = refl
links_in-other T1 B1 l q differs = refl
links_in-other T1 B2 l q differs = refl
links_in-other T2 T1 l q differs = refl
links_in-other T2 T2 l q differs = absurd (differs refl)
links_in-other T2 B1 l q differs = refl
links_in-other T2 B2 l q differs = refl
links_in-other B1 T1 l q differs = refl
links_in-other B1 T2 l q differs = refl
links_in-other B1 B1 l q differs = absurd (differs refl)
links_in-other B1 B2 l q differs = refl
links_in-other B2 T1 l q differs = refl
links_in-other B2 T2 l q differs = refl
links_in-other B2 B1 l q differs = refl
links_in-other B2 B2 l q differs = absurd (differs refl)

no_some : {A : Type 0} (a : A) → None ≡ Some a → ⊥
no_some a e = cc

some_is : {A : Type 0} {a b : A} → Some a ≡ Some b → a ≡ b
some_is e = cc

-- ---- rows

-- a page has one row
pub row-one : (rows : List (Row ℕ Spot)) (x : ℕ) (s t : Spot) → AreApart rows → IsAmong (row x s) rows → IsAmong (row x t) rows → s ≡ t
row-one [] x s t apart one other = absurd one
row-one (r ∷ rows) x s t apart (inl e) (inl f) = ap (λ (w : Row ℕ Spot). w.value) (sym e ∙ f)
row-one (r ∷ rows) x s t apart (inl e) (inr f) = absurd (apart.0 (t, subst (λ k. IsAmong (row k t) rows) (sym (ap (λ (w : Row ℕ Spot). w.key) e)) f))
row-one (r ∷ rows) x s t apart (inr e) (inl f) = absurd (apart.0 (s, subst (λ k. IsAmong (row k s) rows) (sym (ap (λ (w : Row ℕ Spot). w.key) f)) e))
row-one (r ∷ rows) x s t apart (inr e) (inr f) = row-one rows x s t apart.1 e f

-- the rows of other pages
abbrev other_rows : ℕ → List (Row ℕ Spot) → List (Row ℕ Spot)
other_rows x = filter (λ (r : Row ℕ Spot). not (eqb r.key x))

other_rows-same : (x : ℕ) (r : Row ℕ Spot) (rows : List (Row ℕ Spot)) → eqb r.key x ≡ true → other_rows x (r ∷ rows) ≡ other_rows x rows
other_rows-same x r rows same = rw same refl

other_rows-other : (x : ℕ) (r : Row ℕ Spot) (rows : List (Row ℕ Spot)) → eqb r.key x ≡ false → other_rows x (r ∷ rows) ≡ r ∷ other_rows x rows
other_rows-other x r rows differs = rw differs refl

among-other : (x : ℕ) (w : Row ℕ Spot) (rows : List (Row ℕ Spot)) → IsAmong w (other_rows x rows) → (w.key ≡ x → ⊥) × IsAmong w rows
among-other x w [] h = absurd h
among-other x w (r ∷ rows) h = elim (cases_Bool (eqb r.key x)) [
  | inl same ↦ let rest = among-other x w rows (subst (IsAmong w) (other_rows-same x r rows same) h) in (rest.0, inr rest.1)
  | inr differs ↦
      let here : IsAmong w (r ∷ other_rows x rows) = subst (IsAmong w) (other_rows-other x r rows differs) h in
      elim here [
        | inl e ↦ (λ k. eqb-false r.key x differs (ap (λ (v : Row ℕ Spot). v.key) e ∙ k), inl e)
        | inr more ↦ let rest = among-other x w rows more in (rest.0, inr rest.1)
      ]
]

other-among : (x : ℕ) (w : Row ℕ Spot) (rows : List (Row ℕ Spot)) → (w.key ≡ x → ⊥) → IsAmong w rows → IsAmong w (other_rows x rows)
other-among x w [] differs h = absurd h
other-among x w (r ∷ rows) differs (inl e) = elim (cases_Bool (eqb r.key x)) [
  | inl same ↦ absurd (differs (ap (λ (v : Row ℕ Spot). v.key) (sym e) ∙ eqb-true r.key x same))
  | inr apart ↦ subst (IsAmong w) (sym (other_rows-other x r rows apart)) (inl e)
]
other-among x w (r ∷ rows) differs (inr h) = elim (cases_Bool (eqb r.key x)) [
  | inl same ↦ subst (IsAmong w) (sym (other_rows-same x r rows same)) (other-among x w rows differs h)
  | inr apart ↦ subst (IsAmong w) (sym (other_rows-other x r rows apart)) (inr (other-among x w rows differs h))
]

AreApart-other : (x : ℕ) (rows : List (Row ℕ Spot)) → AreApart rows → AreApart (other_rows x rows)
AreApart-other x [] apart = tt
AreApart-other x (r ∷ rows) apart = elim (cases_Bool (eqb r.key x)) [
  | inl same ↦ subst AreApart (sym (other_rows-same x r rows same)) (AreApart-other x rows apart.1)
  | inr differs ↦ subst AreApart (sym (other_rows-other x r rows differs))
      (λ key. apart.0 (key.0, (among-other x (row r.key key.0) rows key.1).1), AreApart-other x rows apart.1)
]

Loses-other : (x : ℕ) (rows : List (Row ℕ Spot)) → Loses rows (other_rows x rows) x
Loses-other x rows = λ w. (among-other x w rows, λ (h : (w.key ≡ x → ⊥) × IsAmong w rows). other-among x w rows h.0 h.1)

Gains-changed : (x : ℕ) (s : Spot) (rows new : List (Row ℕ Spot)) → Changes rows new (row x s) → Gains (other_rows x rows) new (row x s)
Gains-changed x s rows new changed = λ w. (
  λ h. elim ((changed w).0 h) [ inl e ↦ inl e | inr kept ↦ inr (other-among x w rows kept.0 kept.1) ],
  λ (h : (w ≡ row x s) ⊎ IsAmong w (other_rows x rows)). elim h [ inl e ↦ (changed w).1 (inl e) | inr kept ↦ (changed w).1 (inr (among-other x w rows kept)) ],
)

-- ---- a page goes

nodes-without_same : (s : Spot) (q : Queues) → nodes_in s.queue (without_node s q) ≡ without_place s.at (nodes_in s.queue q)
nodes-without_same s q = ap (λ (l : PlainLinks ℕ). l.nodes) (links_in-same s.queue _ q)

nodes-without_other : (s : Spot) (other : Queue) (q : Queues) → (other ≡ s.queue → ⊥) → nodes_in other (without_node s q) ≡ nodes_in other q
nodes-without_other s other q differs = ap (λ (l : PlainLinks ℕ). l.nodes) (links_in-other s.queue other _ q differs)

pub IsIndex-removed : (q : Queues) (rows new : List (Row ℕ Spot)) (s : Spot) (x : ℕ) → IsIndex q rows → element_at s.at (nodes_in s.queue q) ≡ Some x
    → Loses rows new x → AreApart new → IsIndex (without_node s q) new
IsIndex-removed q rows new s x index here loses apart =
    let own : IsAmong (row x s) rows = index.listed s.queue s.at x here in
    record {
      places = λ queue. elim (cases_queue queue s.queue) [
        | inl same ↦ subst (λ k. ArePlacesApart (nodes_in k (without_node s q))) (sym same)
            (subst ArePlacesApart (sym (nodes-without_same s q)) (AreApart-without s.at (nodes_in s.queue q) (index.places s.queue)))
        | inr differs ↦ subst ArePlacesApart (sym (nodes-without_other s queue q differs)) (index.places queue)
      ];
      apart = apart;
      listed = λ queue at y e. elim (cases_queue queue s.queue) [
        | inl same ↦
            let there : element_at at (without_place s.at (nodes_in s.queue q)) ≡ Some y =
            ap (element_at at) (sym (nodes-without_same s q)) ∙ subst (λ k. element_at at (nodes_in k (without_node s q)) ≡ Some y) same e in
            elim (cases_eq at s.at) [
              | inl at_it ↦ absurd (no_some y (sym (element_at-without_same s.at (nodes_in s.queue q)) ∙ subst (λ k. element_at k (without_place s.at (nodes_in s.queue q)) ≡ Some y) at_it there))
              | inr other ↦
                  let was : element_at at (nodes_in s.queue q) ≡ Some y = sym (element_at-without_other at s.at (nodes_in s.queue q) other) ∙ there in
                  let among : IsAmong (row y (spot s.queue at)) rows = index.listed s.queue at y was in
                  let kept : IsAmong (row y (spot s.queue at)) new = (loses (row y (spot s.queue at))).1 (
                    λ e. other (ap (λ (t : Spot). t.at) (row-one rows x (spot s.queue at) s index.apart (subst (λ k. IsAmong (row k (spot s.queue at)) rows) e among) own)),
                    among,
                  ) in
                  subst (λ k. IsAmong (row y (spot k at)) new) (sym same) kept
            ]
        | inr differs ↦
            let was : element_at at (nodes_in queue q) ≡ Some y = ap (element_at at) (sym (nodes-without_other s queue q differs)) ∙ e in
            let among : IsAmong (row y (spot queue at)) rows = index.listed queue at y was in
            (loses (row y (spot queue at))).1 (
              λ e. differs (ap (λ (t : Spot). t.queue) (row-one rows x (spot queue at) s index.apart (subst (λ k. IsAmong (row k (spot queue at)) rows) e among) own)),
              among,
            )
      ];
      found = λ y t h.
          let kept = (loses (row y t)).0 h in
          let was : element_at t.at (nodes_in t.queue q) ≡ Some y = index.found y t kept.1 in
          elim (cases_queue t.queue s.queue) [
            | inl same ↦
                let there : element_at t.at (nodes_in s.queue q) ≡ Some y = subst (λ k. element_at t.at (nodes_in k q) ≡ Some y) same was in
                let other : t.at ≡ s.at → ⊥ = λ e. kept.0 (some_is (sym there ∙ ap (λ k. element_at k (nodes_in s.queue q)) e ∙ here)) in
                subst (λ k. element_at t.at (nodes_in k (without_node s q)) ≡ Some y) (sym same)
                (ap (element_at t.at) (nodes-without_same s q) ∙ element_at-without_other t.at s.at (nodes_in s.queue q) other ∙ there)
            | inr differs ↦ ap (element_at t.at) (nodes-without_other s t.queue q differs) ∙ was
          ];
    }

-- ---- a page comes

nodes-with_same : (queue : Queue) (at x : ℕ) (q : Queues) → nodes_in queue (with_node queue at x q) ≡ placed at x ∷ nodes_in queue q
nodes-with_same queue at x q = ap (λ (l : PlainLinks ℕ). l.nodes) (links_in-same queue _ q)

nodes-with_other : (queue other : Queue) (at x : ℕ) (q : Queues) → (other ≡ queue → ⊥) → nodes_in other (with_node queue at x q) ≡ nodes_in other q
nodes-with_other queue other at x q differs = ap (λ (l : PlainLinks ℕ). l.nodes) (links_in-other queue other _ q differs)

pub IsIndex-added : (q : Queues) (rows new : List (Row ℕ Spot)) (queue : Queue) (at x : ℕ) → IsIndex q rows → element_at at (nodes_in queue q) ≡ None
    → Gains rows new (row x (spot queue at)) → AreApart new → IsIndex (with_node queue at x q) new
IsIndex-added q rows new queue at x index free gains apart = record {
  places = λ k. elim (cases_queue k queue) [
    | inl same ↦ subst (λ k. ArePlacesApart (nodes_in k (with_node queue at x q))) (sym same)
        (subst ArePlacesApart (sym (nodes-with_same queue at x q)) (free, index.places queue))
    | inr differs ↦ subst ArePlacesApart (sym (nodes-with_other queue k at x q differs)) (index.places k)
  ];
  apart = apart;
  listed = λ k a y e. elim (cases_queue k queue) [
    | inl same ↦
        let there : element_at a (placed at x ∷ nodes_in queue q) ≡ Some y =
        ap (element_at a) (sym (nodes-with_same queue at x q)) ∙ subst (λ k. element_at a (nodes_in k (with_node queue at x q)) ≡ Some y) same e in
        let kept : IsAmong (row y (spot queue a)) new = elim (cases_eq at a) [
          | inl at_it ↦
              let page : x ≡ y = some_is (sym (element_at-head (placed at x) (nodes_in queue q)) ∙ ap (λ p. element_at p (placed at x ∷ nodes_in queue q)) at_it ∙ there) in
              subst (λ p. IsAmong (row y (spot queue p)) new) at_it (subst (λ p. IsAmong (row p (spot queue at)) new) page ((gains (row x (spot queue at))).1 (inl refl)))
          | inr other ↦
              let was : element_at a (nodes_in queue q) ≡ Some y = sym (element_at-other a (placed at x) (nodes_in queue q) other) ∙ there in
              (gains (row y (spot queue a))).1 (inr (index.listed queue a y was))
        ] in
        subst (λ k. IsAmong (row y (spot k a)) new) (sym same) kept
    | inr differs ↦
        let was : element_at a (nodes_in k q) ≡ Some y = ap (element_at a) (sym (nodes-with_other queue k at x q differs)) ∙ e in
        (gains (row y (spot k a))).1 (inr (index.listed k a y was))
  ];
  found = λ y t h. elim ((gains (row y t)).0 h) [
    | inl e ↦
        let page : y ≡ x = ap (λ (w : Row ℕ Spot). w.key) e in
        let place : t ≡ spot queue at = ap (λ (w : Row ℕ Spot). w.value) e in
        subst (λ (s : Spot). element_at s.at (nodes_in s.queue (with_node queue at x q)) ≡ Some y) (sym place)
        (ap (element_at at) (nodes-with_same queue at x q) ∙ element_at-head (placed at x) (nodes_in queue q) ∙ ap (λ p. Some p) (sym page))
    | inr among ↦
        let was : element_at t.at (nodes_in t.queue q) ≡ Some y = index.found y t among in
        elim (cases_queue t.queue queue) [
          | inl same ↦
              let there : element_at t.at (nodes_in queue q) ≡ Some y = subst (λ k. element_at t.at (nodes_in k q) ≡ Some y) same was in
              let other : at ≡ t.at → ⊥ = λ e. no_some y (sym free ∙ ap (λ p. element_at p (nodes_in queue q)) e ∙ there) in
              subst (λ k. element_at t.at (nodes_in k (with_node queue at x q)) ≡ Some y) (sym same)
              (ap (element_at t.at) (nodes-with_same queue at x q) ∙ element_at-other t.at (placed at x) (nodes_in queue q) other ∙ there)
          | inr differs ↦ ap (element_at t.at) (nodes-with_other queue t.queue at x q differs) ∙ was
        ]
  ];
}

-- ---- a page goes and comes

pub IsIndex-moved : (q : Queues) (rows new : List (Row ℕ Spot)) (s : Spot) (to : Queue) (at x : ℕ) → IsIndex q rows → element_at s.at (nodes_in s.queue q) ≡ Some x
    → element_at at (nodes_in to (without_node s q)) ≡ None → Changes rows new (row x (spot to at)) → AreApart new → IsIndex (with_node to at x (without_node s q)) new
IsIndex-moved q rows new s to at x index here free changed apart =
    let gone : IsIndex (without_node s q) (other_rows x rows) = IsIndex-removed q rows (other_rows x rows) s x index here (Loses-other x rows) (AreApart-other x rows index.apart) in
    IsIndex-added (without_node s q) (other_rows x rows) new to at x gone free (Gains-changed x (spot to at) rows new changed) apart
