-- What a party made of a cell, as it takes it and gives it back; and what is each one's of a history in the end.
use Rattle.std.proofs.Common.{◌≡◌, ◌≢◌, ℕ, zero, suc, ◌+◌, ◌-◌, ◌<◌, ◌==◌, if◌then◌else◌, List, [], ◌∷◌, ◌++◌, length, map, refl, sym, ap, ◌∙◌, subst, inl, inr, arith, eq-eqb, ne_eqb, length-append}
use Rattle.std.proofs.lemmas.List.{map-append}
use mathlib.Core.Logic.{dite}
use native.Mathlib.Decide.{ℕ_discrete}
use mathlib.Core.Option.{some, some-injective, some-ne-none}
use lib.ListN.{get_elem?}
use Rattle.arc_lists.proofs.Tables.{cases_true}
use Rattle.std.specs.Option.{option_map_or}
use Rattle.std.specs.Prelude.{Option}
use Rattle.arc_core.specs.declared.config.Config.{Config}
use Rattle.turn_table.specs.Places.{Place, gave_back}
use Rattle.arc_table.specs.declared.item.Item.{Item}
use Rattle.arc_table.specs.declared.item.Item.TheVariants as item
use Rattle.arc_table.specs.declared.view.Known.{Known}
use Rattle.arc_table.specs.declared.view.Line.{Line}
use Rattle.arc_table.specs.declared.view.Line.TheVariants as line
use Rattle.arc_table.specs.declared.view.Mine.{Mine}
use Rattle.arc_table.specs.pact.Attached.{IsShown}
use Rattle.arc_table.specs.pact.Logged.{Logged}
use Rattle.arc_table.specs.pact.Scene.{Scene}
use Rattle.arc_table.specs.Fronts.{StartsWith, front_of}
use Rattle.arc_table.specs.Geometry.{IsCell}
use Rattle.arc_table.specs.Giving.{IsGivenCell}
use Rattle.arc_table.specs.Items.{Meanings, lines_in}
use Rattle.arc_table.specs.Seen.{HasSeenItsEntries}
use Rattle.arc_table.specs.TableLaws.{starts_whole}
use Rattle.arc_table.proofs.TableLaws.{front_else, front_here}
use Rattle.arc_table.specs.Views.{after_cell, mines_from, recorded}
use Rattle.arc_table.proofs.Reached.{Took}
use Rattle.trace_run.specs.MadeLines.{is_listed, made_from, made_of, owned_from}
use Rattle.trace_run.proofs.deeds.MadeLemmas.{AreBelow, at-listed, listed-none, made-else, made-grown, made-more}
use Rattle.trace_run.proofs.deeds.MakesLemmas.{entries-below}

-- ---- a cell that is taken

module _ {C : Type 0} (m : Meanings C) (g : Config) (i : ℕ) (c : C) (p q : Place (Known C)) (in_range : IsCell g i) (took : Took m i (item.Cell c) p q) where
  -- it made of the cell what it had
  pub took-made : StartsWith (map line.Entry (m.entries c)) (front_of i p.own.seen) → HasSeenItsEntries g p → made_of i q ≡ made_of i p
  took-made had own =
      (λ k. made_from i 0 (took.mine k) ((ap (front_of i) took.seen ∙ front_here i (map line.Entry (m.entries c)) p.own.seen) k))
      ∙ made-grown i p.own.mine (front_of i p.own.seen) (map line.Entry (m.entries c)) had (entries-below g p.number p.own.mine p.own.seen i in_range own.own)

  -- and of each other turn
  pub took-made-else : (j : ℕ) → j ≢ i → made_of j q ≡ made_of j p
  took-made-else j differs = λ k. made_from j 0 (took.mine k) ((ap (front_of j) took.seen ∙ front_else i j (map line.Entry (m.entries c)) p.own.seen differs) k)

-- ---- a cell that is given back

mines-at : (turn place count y : ℕ) (a : Mine) → get_elem? (mines_from turn place count) y ≡ some a → (a.turn ≡ turn) × (a.place ≡ place + y)
mines-at turn place zero y a at = absurd (some-ne-none a (sym at))
mines-at turn place (suc count) zero a at = (ap (λ (x : Mine). x.turn) (sym (some-injective _ a at)), ap (λ (x : Mine). x.place) (sym (some-injective _ a at)) ∙ (let e : place ≡ place + 0 = omega arith in e))
mines-at turn place (suc count) (suc y) a at = let h = mines-at turn (suc place) count y a at in (h.0, h.1 ∙ (let e : suc place + y ≡ place + suc y = omega arith in e))

mines-long : (turn place count : ℕ) → length (mines_from turn place count) ≡ count
mines-long turn place zero = refl
mines-long turn place (suc count) = ap suc (mines-long turn (suc place) count)

module _ {C : Type 0} (m : Meanings C) (g : Config) (i : ℕ) (d : C) (p : Place (Known C)) (in_range : IsCell g i) (given : IsGivenCell m p.number i d p.own) (front : front_of i p.own.seen ≡ map line.Entry (m.entries given.taken)) where
  abbrev back : Place (Known C)
  back = gave_back p i (after_cell m i (item.Cell d) p.own)

  abbrev had : List Line
  had = map line.Entry (m.entries given.taken)

  recorded-is : recorded m i p.own ≡ had
  recorded-is = ap (λ (o : Option (Item C)). option_map_or (lines_in m) o []) given.recorded

  lines-are : map line.Entry (m.entries d) ≡ had ++ map line.Entry given.more
  lines-are = ap (map line.Entry) given.entries ∙ map-append line.Entry (m.entries given.taken) given.more

  abbrev count : ℕ
  count = length (map line.Entry (m.entries d)) - length (recorded m i p.own)

  count-is : count ≡ length (map line.Entry given.more)
  count-is =
      let a : length (map line.Entry (m.entries d)) ≡ length had + length (map line.Entry given.more) = ap length lines-are ∙ length-append had (map line.Entry given.more) in
      let b : length (recorded m i p.own) ≡ length had = ap length recorded-is in
      omega arith

  -- it made of the cell what it did with it in hand more
  pub given-made : HasSeenItsEntries g p → made_of i back ≡ made_of i p ++ map line.Entry given.more
  given-made own =
      ap (made_from i 0 back.own.mine) (front_here i (map line.Entry (m.entries d)) p.own.seen ∙ lines-are)
      ∙ made-more i p.own.mine (mines_from i (length (recorded m i p.own)) count) (front_of i p.own.seen) had (map line.Entry given.more)
      (subst (λ (l : List Line). StartsWith l (front_of i p.own.seen)) front (starts_whole (front_of i p.own.seen)))
      (entries-below g p.number p.own.mine p.own.seen i in_range own.own)
      (λ y a at. let h = mines-at i (length (recorded m i p.own)) count y a at in (h.0, h.1 ∙ ap (λ (l : List Line). length l + y) recorded-is))
      (mines-long i (length (recorded m i p.own)) count ∙ count-is)

  -- and of each other turn what it had
  pub given-made-else : (j : ℕ) → j ≢ i → made_of j back ≡ made_of j p
  given-made-else j differs =
      ap (made_from j 0 back.own.mine) (front_else i j (map line.Entry (m.entries d)) p.own.seen differs)
      ∙ made-else j i p.own.mine (mines_from i (length (recorded m i p.own)) count) (front_of j p.own.seen) (λ e. differs (sym e)) (λ y a at. (mines-at i (length (recorded m i p.own)) count y a at).0)

-- ---- in the end

-- where just the lines of n are listed
pub listed-owned : (owner : ℕ → ℕ) (turn n place : ℕ) (mines : List Mine) (ls : List Line) → ((y : ℕ) → y < length ls → is_listed turn (place + y) mines ≡ (owner (place + y) == n)) → made_from turn place mines ls ≡ owned_from owner n place ls
listed-owned owner turn n place mines [] same = refl
listed-owned owner turn n place mines (l ∷ ls) same =
    let z : place + 0 ≡ place = omega arith in
    let here : is_listed turn place mines ≡ (owner place == n) = ap (λ (x : ℕ). is_listed turn x mines) (sym z) ∙ (same 0 (omega arith) ∙ ap (λ (x : ℕ). owner x == n) z) in
    let rest : made_from turn (suc place) mines ls ≡ owned_from owner n (suc place) ls = listed-owned owner turn n (suc place) mines ls (λ y below.
    let e : suc place + y ≡ place + suc y = omega arith in
    ap (λ (x : ℕ). is_listed turn x mines) e ∙ (same (suc y) (omega (arith, below)) ∙ ap (λ (x : ℕ). owner x == n) (sym e))) in
    (λ i. if here i then (l ∷ rest i) else rest i)

pub owned-map : {A B : Type 0} (f : A → B) (owner : ℕ → ℕ) (n place : ℕ) (xs : List A) → owned_from owner n place (map f xs) ≡ map f (owned_from owner n place xs)
owned-map f owner n place [] = refl
owned-map f owner n place (x ∷ xs) = elim (cases_true (owner place == n)) [
  | inl here ↦ rw here (ap (λ l. f x ∷ l) (owned-map f owner n (suc place) xs))
  | inr other ↦ rw other (owned-map f owner n (suc place) xs)
]

-- of each history a party made just the lines that are its own
module _ {C : Type 0} (m : Meanings C) (scene : Scene C) (logged : Logged m scene) (n : ℕ) (w : Known C) (shown : IsShown scene n w) (t : ℕ) (below : AreBelow t (length (front_of t w.seen)) w.mine) where
  abbrev lines : List Line
  lines = lines_in m (scene.now t)

  pub listed-is : (y : ℕ) → y < length lines → is_listed t (0 + y) w.mine ≡ (scene.owner t (0 + y) == n)
  listed-is y inside = dite (ℕ_discrete (scene.owner t (0 + y)) n)
      (λ is.
      let h = logged.places t (0 + y) (omega (arith, inside)) in
      let at : get_elem? w.mine h.index ≡ some h.line = ap (λ (l : List Mine). get_elem? l h.index) shown.mine ∙ (ap (λ (k : ℕ). get_elem? (scene.mine k) h.index) (sym is) ∙ h.at) in
      at-listed t (0 + y) w.mine h.index h.line at h.turn h.place ∙ sym (eq-eqb (scene.owner t (0 + y)) n is))
      (λ differs.
      listed-none t (0 + y) w.mine (λ j a at turn place.
      let s = logged.stand n j a (ap (λ (l : List Mine). get_elem? l j) (sym shown.mine) ∙ at) in
      differs ((λ i. scene.owner (sym turn i) (sym place i)) ∙ s.1))
      ∙ sym (ne_eqb (scene.owner t (0 + y)) n differs))

  pub made-owned : made_from t 0 w.mine (front_of t w.seen) ≡ owned_from (scene.owner t) n 0 lines
  made-owned =
      sym (made-grown t w.mine (front_of t w.seen) lines (subst (λ (s : List (List Line)). StartsWith lines (front_of t s)) (sym shown.seen) (logged.seen n t)) below)
      ∙ listed-owned (scene.owner t) t n 0 w.mine lines listed-is
