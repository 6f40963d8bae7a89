-- The one caller of a crew, and what its lines came to.
use Rattle.std.proofs.Common.{◌≡◌, ℕ, suc, ◌==◌, true, false, List, [], ◌∷◌, ◌++◌, Option, Some, length, refl, sym, ap, ◌∙◌, subst, arith, length-append}
use Rattle.std.specs.Prelude.{filter}
use Rattle.std.specs.List.{AllByRecursion}
use Rattle.std.specs.Option.{option_map_or}
use Rattle.blk_ptr.specs.declared.ptr.Ptr.{Ptr}
use Rattle.arc_table.specs.Cache.{Cache}
use Rattle.dbuf_cells.specs.Turns.{OnHeap, PartyPlace}
use Rattle.l2_dev.proofs.ListLaws.{filter_whole}
use Rattle.trace_text.specs.declared.op.Op.{Op}
use Rattle.trace_run.specs.declared.kept_blocks.KeptBlock.{KeptBlock}
use Rattle.trace_run.specs.Lines.{caller_of, is_of_caller}
use Rattle.trace_run.specs.callers.Callers.{AreAtStart, IsAtStart}
use Rattle.trace_run.specs.one_caller.InTurn.{AreOwn}

-- ---- the one caller of a crew

-- what stands last of one thing stands alone
last-alone : {X : Type 0} (rest : List X) (x : X) → length (rest ++ x ∷ []) ≡ 1 → rest ≡ []
last-alone [] x one = refl
last-alone (y ∷ ys) x one = absurd (omega (arith, one, length-append ys (x ∷ [])))

module _ (cache : Cache) (blocks : List Ptr) where
  none-starts : (n : ℕ) (rest : List (List KeptBlock)) (k : List KeptBlock) → AreAtStart {C = OnHeap} cache blocks n (rest ++ k ∷ []) [] → ⊥
  none-starts n [] k start = start
  none-starts n (x ∷ xs) k start = start

  starts-one : (ks : List (List KeptBlock)) (k : List KeptBlock) (p : PartyPlace) → AreAtStart cache blocks 0 (ks ++ k ∷ []) (p ∷ []) → (ks ≡ []) × IsAtStart cache blocks 0 k p
  starts-one [] k p start = (refl, start.0)
  starts-one (x ∷ xs) k p start = absurd (none-starts 1 xs k start.1)

  pub one-starts : (reads : List (List KeptBlock)) (parties : List PartyPlace) (ks : List (List KeptBlock)) (ps : List PartyPlace) (k : List KeptBlock) (p : PartyPlace) → length parties ≡ 1 → AreAtStart cache blocks 0 reads parties → reads ≡ ks ++ k ∷ [] → parties ≡ ps ++ p ∷ []
      → (ks ≡ []) × (ps ≡ []) × IsAtStart cache blocks 0 k p
  one-starts reads parties ks ps k p one start is_ks is_ps =
      let alone : ps ≡ [] = last-alone ps p (ap length (sym is_ps) ∙ one) in
      let first = starts-one ks k p (subst (λ (x : List (List KeptBlock) × List PartyPlace). AreAtStart cache blocks 0 x.0 x.1) (λ i. (is_ks i, (is_ps ∙ ap (λ (l : List PartyPlace). l ++ p ∷ []) alone) i)) start) in
      (first.0, alone, first.1)

-- ---- its lines

is-mine : (op : Op) → caller_of op ≡ Some 0 → is_of_caller 0 op ≡ true
is-mine op mine = ap (λ (c : Option ℕ). option_map_or (λ (m : ℕ). m == 0) c false) mine

all-mine : (os : List Op) → AreOwn os → AllByRecursion (λ op. is_of_caller 0 op ≡ true) os
all-mine [] own = tt
all-mine (o ∷ os) own = (is-mine o (own 0 o refl), all-mine os (λ k op there. own (suc k) op there))

pub own-whole : (os : List Op) → AreOwn os → filter (is_of_caller 0) os ≡ os
own-whole os own = filter_whole (is_of_caller 0) os (all-mine os own)
