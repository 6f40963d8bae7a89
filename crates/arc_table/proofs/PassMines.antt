-- The lines that a party lists for events made, and the notes of its passes.
use Rattle.std.proofs.Common.{◌≡◌, ℕ, zero, suc, ◌+◌, ◌<◌, ◌≤◌, List, [], ◌∷◌, length, Option, Some, None, refl, sym, ap, ◌∙◌, subst, arith}
use Rattle.std.proofs.lemmas.Option.{none-some}
use mathlib.Core.Option.{some, some-injective, some-ne-none}
use lib.ListN.{get_elem?}
use Rattle.blk_ptr.specs.declared.key.Key.{Key}
use Rattle.arc_core.specs.declared.config.Config.{Config}
use Rattle.arc_core.specs.declared.event.Event.{Event}
use Rattle.arc_core.specs.declared.event.Event.TheVariants.{Pass}
use Rattle.arc_table.specs.declared.view.Line.TheVariants as line
use Rattle.arc_table.specs.declared.view.Mine.{Mine}
use Rattle.arc_table.specs.declared.view.Note.{Note}
use Rattle.arc_table.specs.Geometry.{bucket_turn}
use Rattle.arc_table.specs.pact.Passed.{IsPassNoted}
use Rattle.arc_table.specs.ShardGiving.{ArePassesNoted, mines_of}
use Rattle.arc_table.specs.Views.{note}
use Rattle.arc_table.proofs.Appending.{AreMines}

abbrev mine : ℕ → ℕ → Option ℕ → Mine
mine i p o = record { turn = i; place = p; note = o }

mines_long : (i p q : ℕ) (es : List Event) → length (mines_of i p q es) ≡ length es
mines_long i p q [] = refl
mines_long i p q (Pass n k owner ∷ es) = ap suc (mines_long i (suc p) (suc q) es)
mines_long i p q (_ ∷ es) = ap suc (mines_long i (suc p) q es)

head_at : (i p : ℕ) (o : Option ℕ) (a : Mine) → some (mine i p o) ≡ some a → (a.turn ≡ i) × (a.place ≡ p + zero)
head_at i p o a e = let is : mine i p o ≡ a = some-injective (mine i p o) a e in let h : p ≡ p + zero = omega arith in (ap (λ (y : Mine). y.turn) (sym is), ap (λ (y : Mine). y.place) (sym is) ∙ h)

mines_each : (i p q : ℕ) (es : List Event) (j : ℕ) (a : Mine) → get_elem? (mines_of i p q es) j ≡ some a → (a.turn ≡ i) × (a.place ≡ p + j)
mines_each i p q [] j a e = absurd (some-ne-none a (sym e))
mines_each i p q (Pass n k owner ∷ es) zero a e = head_at i p (Some q) a e
mines_each i p q (Pass n k owner ∷ es) (suc j) a e = let h = mines_each i (suc p) (suc q) es j a e in let f = h.1 in (h.0, omega arith)
mines_each i p q (_ ∷ es) zero a e = head_at i p None a e
mines_each i p q (_ ∷ es) (suc j) a e = let h = mines_each i (suc p) q es j a e in let f = h.1 in (h.0, omega arith)

pub mines_of_are : (i p q : ℕ) (es : List Event) → AreMines i p (length es) (mines_of i p q es)
mines_of_are i p q es = record { long = mines_long i p q es; each = mines_each i p q es }

-- the notes of the passes are numbered on, from the first one
note_is : (i p : ℕ) (o : Option ℕ) (a : Mine) (y : ℕ) → some (mine i p o) ≡ some a → a.note ≡ Some y → o ≡ Some y
note_is i p o a y e n = ap (λ (x : Mine). x.note) (some-injective (mine i p o) a e) ∙ n

same : (a b : ℕ) → ◌≡◌ {A = Option ℕ} (Some a) (Some b) → a ≡ b
same a b r = cc

pub notes_since : (i p q : ℕ) (es : List Event) (j y : ℕ) (a : Mine) → get_elem? (mines_of i p q es) j ≡ some a → a.note ≡ Some y → q ≤ y
notes_since i p q [] j y a e n = absurd (some-ne-none a (sym e))
notes_since i p q (Pass x k owner ∷ es) zero y a e n = let h = same q y (note_is i p (Some q) a y e n) in omega arith
notes_since i p q (Pass x k owner ∷ es) (suc j) y a e n = let h = notes_since i (suc p) (suc q) es j y a e n in omega arith
notes_since i p q (_ ∷ es) zero y a e n = absurd (none-some y (note_is i p None a y e n))
notes_since i p q (_ ∷ es) (suc j) y a e n = notes_since i (suc p) q es j y a e n

pub notes_rise : (i p q : ℕ) (es : List Event) (j j' y y' : ℕ) (a a' : Mine) → j < j' → get_elem? (mines_of i p q es) j ≡ some a → get_elem? (mines_of i p q es) j' ≡ some a' → a.note ≡ Some y → a'.note ≡ Some y' → y < y'
notes_rise i p q [] j j' y y' a a' less e f n n' = absurd (some-ne-none a (sym e))
notes_rise i p q (x ∷ es) j zero y y' a a' less e f n n' = absurd (omega arith)
notes_rise i p q (Pass x k owner ∷ es) zero (suc j') y y' a a' less e f n n' = let h = same q y (note_is i p (Some q) a y e n) in let g = notes_since i (suc p) (suc q) es j' y' a' f n' in omega arith
notes_rise i p q (Pass x k owner ∷ es) (suc j) (suc j') y y' a a' less e f n n' = notes_rise i (suc p) (suc q) es j j' y y' a a' (omega arith) e f n n'
notes_rise i p q (_ ∷ es) zero (suc j') y y' a a' less e f n n' = absurd (none-some y (note_is i p None a y e n))
notes_rise i p q (_ ∷ es) (suc j) (suc j') y y' a a' less e f n n' = notes_rise i (suc p) q es j j' y y' a a' (omega arith) e f n n'

-- the passes among these events are n's
abbrev pub ArePassesOf : ℕ → List Event → Type 0
ArePassesOf n [] = Unit {0}
ArePassesOf n (Pass a k o ∷ es) = (a ≡ n) × ArePassesOf n es
ArePassesOf n (_ ∷ es) = ArePassesOf n es

-- each line is noted as it should be
module _ (g : Config) (i len : ℕ) (notes : List Note) (owner : ℕ → ℕ) (n : ℕ) (mine_all : (x : ℕ) → len ≤ x → owner x ≡ n) where
  first_noted : (p q : ℕ) (k : Key) (by other : ℕ) (a : Mine) → len ≤ p → by ≡ n → get_elem? notes q ≡ some (note (bucket_turn g k) other (Some (i, len))) → some (mine i p (Some q)) ≡ some a → IsPassNoted g notes owner n a (line.Event (Pass by k other))
  first_noted p q k by other a above is there e = subst (λ (x : Mine). IsPassNoted g notes owner n x (line.Event (Pass by k other))) (some-injective (mine i p (Some q)) a e)
      (is, record { index = q; length = len; noted = refl; there = there; before = above; between = λ x low high. mine_all x low })

  pub mines_noted : (p q : ℕ) (es : List Event) → len ≤ p → ArePassesNoted g i len q notes es → ArePassesOf n es → (j : ℕ) (a : Mine) (e : Event) → get_elem? (mines_of i p q es) j ≡ some a → get_elem? es j ≡ some e
      → IsPassNoted g notes owner n a (line.Event e)
  mines_noted p q [] above noted own j a e f h = absurd (some-ne-none a (sym f))
  mines_noted p q (Pass by k other ∷ es) above noted own zero a e f h = subst (λ (x : Event). IsPassNoted g notes owner n a (line.Event x)) (some-injective (Pass by k other) e h) (first_noted p q k by other a above own.0 noted.0 f)
  mines_noted p q (Pass by k other ∷ es) above noted own (suc j) a e f h = mines_noted (suc p) (suc q) es (omega arith) noted.1 own.1 j a e f h
  mines_noted p q (x ∷ es) above noted own zero a e f h = subst (λ (z : Event). IsPassNoted g notes owner n a (line.Event z)) (some-injective x e h) (ap (λ (z : Mine). z.note) (sym (some-injective (mine i p None) a f)))
  mines_noted p q (x ∷ es) above noted own (suc j) a e f h = mines_noted (suc p) q es (omega arith) noted own j a e f h
