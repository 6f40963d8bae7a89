-- What a party knows that has taken both copies.
use Rattle.std.proofs.Common.{◌≡◌, ℕ, zero, suc, List, [], ◌∷◌, map, length, Option, Some, None, Result, Ok, Err, IfOk, refl, sym, ap, ◌∙◌, subst, arith}
use mathlib.Core.Option.{some, some-injective, some-ne-none}
use lib.ListN.{get_elem?}
use Rattle.turn_table.specs.Board.{Turn, free, taken, opening}
use Rattle.turn_table.specs.Places.{Place, took, gave_back}
use Rattle.turn_table.specs.Moments.{WasFree, MayGive}
use Rattle.turn_examples.specs.declared.twins.Copies.{Copies}
use Rattle.turn_examples.specs.Twins.{copy_of, copies, renewed, NowIs, Agrees}
use Rattle.turn_examples.proofs.TwinLaws.{gives_both, gives_same}

-- the copy that a party has taken is the one that it finds free
pub same_copy : (p : Place Copies) (a s : ℕ) → copy_of 0 p.own.held ≡ Some a → WasFree Agrees p 1 s → a ≡ s
same_copy p a s c f =
    let n : ℕ = p.number in
    let w : Copies = p.own in
    let h = f.held in
    let mine = h.now 0 (taken n) (h.known n 0 a w f.stands.shows.0 c) in
    let one : mine.0 ≡ w = some-injective mine.0 w (sym mine.1 ∙ f.stands.shows.0) in
    let first : a ≡ h.number = some_same a h.number (sym c ∙ subst (λ (z : Copies). copy_of 0 z.held ≡ Some h.number) one mine.2) in
    first ∙ sym (h.now 1 (free s) f.turn)
  where
    some_same : (a b : ℕ) → ◌≡◌ {A = Option ℕ} (Some a) (Some b) → a ≡ b
    some_same a b q = cc

-- The party p0 with no copy takes the first (p1), takes the second (p2), and gives the first back with x (p3)
module _ (a s x : ℕ) (p0 p1 p2 : Place Copies) (one : p1 ≡ took p0 0 (copies ((0, a) ∷ p0.own.held))) (two : p2 ≡ took p1 1 (copies ((1, s) ∷ p1.own.held))) where
  pub first_known : copy_of 0 p1.own.held ≡ Some a
  first_known = ap (λ (p : Place Copies). copy_of 0 p.own.held) one

  both_held : p2.own.held ≡ (1, s) ∷ (0, a) ∷ p0.own.held
  both_held = ap (λ (p : Place Copies). p.own.held) two ∙ ap (λ (p : Place Copies). (1, s) ∷ p.own.held) one

  second_known : copy_of 1 p2.own.held ≡ Some s
  second_known = ap (copy_of 1) both_held

  pub gives_first : MayGive Agrees p2 0 x (copies (renewed 0 x p2.own.held))
  gives_first = gives_both p2 0 1 x s (λ e. absurd (omega arith)) (omega arith) (omega arith) second_known

  pub gives_second : (p3 : Place Copies) → p3 ≡ gave_back p2 0 (copies (renewed 0 x p2.own.held)) → MayGive Agrees p3 1 x (copies (renewed 1 x p3.own.held))
  gives_second p3 three = gives_same p3 1 x (ap (λ (p : Place Copies). copy_of 1 p.own.held) three ∙ ap (λ l. copy_of 1 (renewed 0 x l)) both_held)

-- two copies that nobody has taken
pub agree_at_first : (x : ℕ) → Agrees (opening (x ∷ x ∷ []) (copies [] ∷ copies [] ∷ []))
agree_at_first x = record { number = x; two = refl; now = now_at x; known = known_at x }
  where
    now_at : (x i : ℕ) (t : Turn ℕ) → get_elem? (map free (x ∷ x ∷ [])) i ≡ some t → NowIs (copies [] ∷ copies [] ∷ []) i t x
    now_at x zero t e = subst (λ s. NowIs (copies [] ∷ copies [] ∷ []) 0 s x) (some-injective (free x) t e) refl
    now_at x (suc zero) t e = subst (λ s. NowIs (copies [] ∷ copies [] ∷ []) 1 s x) (some-injective (free x) t e) refl
    now_at x (suc (suc i)) t e = absurd (some-ne-none t (sym e))

    none_known : (i y : ℕ) (w : Copies) → copies [] ≡ w → copy_of i w.held ≡ Some y → ⊥
    none_known i y w e c = let f : None ≡ Some y = subst (λ (z : Copies). copy_of i z.held ≡ Some y) (sym e) c in absurd (cc)

    known_at : (x n i y : ℕ) (w : Copies) → get_elem? (copies [] ∷ copies [] ∷ []) n ≡ some w → copy_of i w.held ≡ Some y → get_elem? (map free (x ∷ x ∷ [])) i ≡ some (taken n)
    known_at x zero i y w e c = absurd (none_known i y w (some-injective (copies []) w e) c)
    known_at x (suc zero) i y w e c = absurd (none_known i y w (some-injective (copies []) w e) c)
    known_at x (suc (suc n)) i y w e c = absurd (some-ne-none w (sym e))

-- what two free copies are
pub agree_at_last : (vs : List ℕ) (views : List Copies) → Agrees (opening vs views) → (x : ℕ) × (vs ≡ x ∷ x ∷ [])
agree_at_last vs views h = (h.number, same vs h.number h.two (λ i v e. h.now i (free v) e))
  where
    same : (vs : List ℕ) (x : ℕ) → length (map free vs) ≡ 2 → ((i v : ℕ) → get_elem? (map free vs) i ≡ some (free v) → v ≡ x) → vs ≡ x ∷ x ∷ []
    same [] x e h = absurd (omega arith)
    same (a ∷ []) x e h = absurd (omega arith)
    same (a ∷ b ∷ []) x e h = let p : a ≡ x = h 0 a refl in let q : b ≡ x = h 1 b refl in λ k. p k ∷ q k ∷ []
    same (a ∷ b ∷ c ∷ vs) x e h = absurd (omega arith)

pub if_ok : {A E : Type 0} (P Q : A → Type 0) → ((v : A) → P v → Q v) → (r : Result A E) → IfOk r P → IfOk r Q
if_ok P Q f (Ok v) h = f v h
if_ok P Q f (Err e) h = tt
