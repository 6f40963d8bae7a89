-- The parties behind the ends of all cells, by their places: they have stopped, as they had before.
use Rattle.std.proofs.Common.{◌≡◌, ℕ, zero, suc, ◌+◌, List, [], ◌∷◌, ◌++◌, length, refl, sym, ap, ◌∙◌, subst, inl, inr, arith, length-append}
use mathlib.Core.Option.{some, some-injective, some-ne-none}
use lib.ListN.{get_elem?}
use Rattle.turn_table.specs.Places.{Place}
use Rattle.arc_table.specs.declared.view.Known.{Known}
use Rattle.arc_table.specs.declared.view.Line.{Line}
use Rattle.arc_table.specs.Cache.{Cache}
use Rattle.arc_table.specs.TableLaws.{get_front}
use Rattle.arc_table.proofs.TableLaws.{get_last, get_more}
use Rattle.dbuf_cells.specs.Turns.{PartyPlace}
use Rattle.trace_run.specs.dbufs.CellEnds.{EndedCells, EndedCrew}
use Rattle.trace_run.specs.callers.GroupRun.{HaveStopped}
use Rattle.trace_run.specs.KeptBlocks.{Stands}
use Rattle.trace_run.specs.Meeting.{HaveParted}

module _ {C : Type 0} (cache : Cache) where
  pub same-long : (lines : ℕ → List Line) (os xs : List (Place (Known C))) → HaveParted cache lines os xs → length xs ≡ length os
  same-long lines [] [] parted = refl
  same-long lines [] (x ∷ xs) parted = absurd parted
  same-long lines (o ∷ os) [] parted = absurd parted
  same-long lines (o ∷ os) (x ∷ xs) parted = ap suc (same-long lines os xs parted.1)

-- lists with one more at their ends
pub last-same : {A : Type 0} (xs ys : List A) (x y : A) → xs ++ x ∷ [] ≡ ys ++ y ∷ [] → (xs ≡ ys) × (x ≡ y)
last-same [] [] x y is = (refl, (let e : x ≡ y = cc in e))
last-same [] (b ∷ ys) x y is = let long : length {A = _} ((b ∷ ys) ++ y ∷ []) ≡ 1 = sym (ap length is) in absurd (omega (arith, long, length-append ys (y ∷ [])))
last-same (a ∷ xs) [] x y is = let long : length {A = _} ((a ∷ xs) ++ x ∷ []) ≡ 1 = ap length is in absurd (omega (arith, long, length-append xs (x ∷ [])))
last-same {A} (a ∷ xs) (b ∷ ys) x y is =
    let rest : xs ++ x ∷ [] ≡ ys ++ y ∷ [] = cc in
    let first : ◌≡◌ {A = A} a b = cc in
    let h = last-same xs ys x y rest in
    ((λ i. first i ∷ h.0 i), h.1)

-- ---- the feeder's party is the last

module _ (cache : Cache) (olds news : List PartyPlace) (e : EndedCrew cache olds news) where
  abbrev c : EndedCells cache e.feeder e.callers e.last e.parted
  c = e.ended

  pub crew-long : length news ≡ length olds
  crew-long = ap length e.then ∙ (length-append e.parted (e.last ∷ []) ∙ (ap (λ (n : ℕ). n + 1) (same-long cache c.lines e.callers e.parted c.parted)
      ∙ (sym (length-append e.callers (e.feeder ∷ [])) ∙ sym (ap length e.are))))

  -- they have stopped
  pub crew-stopped : HaveStopped cache olds → HaveStopped cache news
  crew-stopped stopped = record { count = crew-long ∙ stopped.count; each = λ n p at. each-stopped n p (ap (λ (l : List PartyPlace). get_elem? l n) (sym e.then) ∙ at) }
    where
      parted-at : (os xs : List PartyPlace) → HaveParted cache c.lines os xs → (base : ℕ) → ((n : ℕ) (o : PartyPlace) → get_elem? os n ≡ some o → (o.number ≡ base + n) × Stands cache o []) → (n : ℕ) (x : PartyPlace) → get_elem? xs n ≡ some x
          → (x.number ≡ base + n) × Stands cache x []
      parted-at [] [] parted base all n x at = absurd (some-ne-none x (sym at))
      parted-at [] (y ∷ ys) parted base all n x at = absurd parted
      parted-at (o ∷ os) [] parted base all n x at = absurd parted
      parted-at (o ∷ os) (y ∷ ys) parted base all zero x at =
          let h = all 0 o refl in
          subst (λ (z : PartyPlace). (z.number ≡ base + 0) × Stands cache z []) (some-injective y x at) (parted.0.number ∙ h.0, parted.0.stands [] h.1)
      parted-at (o ∷ os) (y ∷ ys) parted base all (suc n) x at =
          let h = parted-at os ys parted.1 (suc base) (λ k q at_k. let r = all (suc k) q at_k in (r.0 ∙ (let z : base + suc k ≡ suc base + k = omega arith in z), r.1)) n x at in
          (h.0 ∙ (let z : suc base + n ≡ base + suc n = omega arith in z), h.1)

      from-zero : (n : ℕ) (x : PartyPlace) → (x.number ≡ 0 + n) × Stands cache x [] → (x.number ≡ n) × Stands cache x []
      from-zero n x is = (is.0 ∙ (let z : 0 + n ≡ n = omega arith in z), is.1)

      each-stopped : (n : ℕ) (p : PartyPlace) → get_elem? (e.parted ++ e.last ∷ []) n ≡ some p → (p.number ≡ n) × Stands cache p []
      each-stopped n p at = elim (get_more e.parted e.last p n at) [
        | inl first ↦ from-zero n p (parted-at e.callers e.parted c.parted 0 (λ k o at_o. let h = stopped.each k o (ap (λ (l : List PartyPlace). get_elem? l k) e.are ∙ get_front e.callers (e.feeder ∷ []) k o at_o) in (h.0 ∙ (let z : k ≡ 0 + k = omega arith in z), h.1)) n p first)
        | inr is ↦
            let last = stopped.each (length e.callers) e.feeder (ap (λ (l : List PartyPlace). get_elem? l (length e.callers)) e.are ∙ get_last e.callers e.feeder) in
            subst (λ (z : PartyPlace). (z.number ≡ n) × Stands cache z []) is.1 (c.number ∙ (last.0 ∙ (sym (same-long cache c.lines e.callers e.parted c.parted) ∙ sym is.0)), c.stands)
      ]
