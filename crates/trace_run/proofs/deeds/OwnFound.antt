-- What a party finds of its own in a cell that it takes: just the entries that it made.
use Rattle.std.proofs.Common.{◌≡◌, ◌⊎◌, ℕ, suc, ◌+◌, ◌<◌, ◌==◌, true, false, List, [], ◌∷◌, map, refl, sym, ap, ◌∙◌, subst, inl, inr, arith, eq-eqb, ne_eqb}
use mathlib.Core.Logic.{dite}
use mathlib.Core.Option.{some, some-injective}
use native.Mathlib.Decide.{ℕ_discrete}
use lib.ListN.{get_elem?}
use Rattle.arc_lists.proofs.Tables.{cases_true}
use Rattle.arc_core.specs.declared.config.Config.{Config}
use Rattle.turn_table.specs.Moments.{WasFree}
use Rattle.arc_table.specs.declared.item.Item.TheVariants as item
use Rattle.arc_table.specs.declared.view.Line.{Line}
use Rattle.arc_table.specs.declared.view.Line.TheVariants as line
use Rattle.arc_table.specs.declared.view.Mine.{Mine}
use Rattle.arc_table.specs.Fronts.{StartsWith, front_of}
use Rattle.arc_table.specs.Geometry.{IsCell, parties_of}
use Rattle.arc_table.specs.Items.{lines_in, maker_of}
use Rattle.arc_table.specs.pact.Attached.{IsShown}
use Rattle.arc_table.specs.pact.Logged.{HasPlace}
use Rattle.arc_table.specs.pact.Rule.{Pact}
use Rattle.arc_table.specs.pact.Scene.{Scene}
use Rattle.arc_table.specs.Seen.{AreEntriesSeen, IsEntrySeen}
use Rattle.arc_table.specs.TableLaws.{get_front, within}
use Rattle.dbuf_cells.specs.Turns.{OnHeap, PartyPlace, dbuf_meanings}
use Rattle.dbuf_state.specs.Numbers.{event_numbers, number_of}
use Rattle.dbuf_state.specs.declared.event.CellEvent.{CellEvent}
use Rattle.dbuf_state.proofs.NumberLemmas.{events-numbered}
use Rattle.trace_run.specs.dbufs.CellEnds.{done_by}
use Rattle.trace_run.specs.MadeLines.{made_of, owned_from}
use Rattle.trace_run.proofs.deeds.MadeCells.{made-owned, owned-map}
use Rattle.trace_run.proofs.deeds.MakesLemmas.{entries-below}
use Rattle.trace_run.proofs.theorem.CloseLemmas.{get-map}

-- where what a number did is just what it owns
by-owner : (owner : ℕ → ℕ) (n place : ℕ) (h : List CellEvent) → ((x : ℕ) (e : CellEvent) → get_elem? h x ≡ some e → (owner (place + x) == n) ≡ (number_of e == n)) → done_by n h ≡ owned_from owner n place h
by-owner owner n place [] each = refl
by-owner owner n place (e ∷ h) each = go (cases_true (number_of e == n)) (by-owner owner n (suc place) h (λ x f at. let z : suc place + x ≡ place + suc x = omega arith in ap (λ (y : ℕ). owner y == n) z ∙ each (suc x) f at))
  where
    here : (owner place == n) ≡ (number_of e == n)
    here = ap (λ (y : ℕ). owner y == n) (let z : place ≡ place + 0 = omega arith in z) ∙ each 0 e refl

    go : ((number_of e == n) ≡ true) ⊎ ((number_of e == n) ≡ false) → done_by n h ≡ owned_from owner n (suc place) h → done_by n (e ∷ h) ≡ owned_from owner n place (e ∷ h)
    go (inl own) rest =
        let his : (owner place == n) ≡ true = here ∙ own in
        rw (own, his) (ap (λ (l : List CellEvent). e ∷ l) rest)
    go (inr other) rest =
        let none : (owner place == n) ≡ false = here ∙ other in
        rw (other, none) rest

numbers-same : (a b : List ℕ) → line.Entry a ≡ line.Entry b → a ≡ b
numbers-same a b is = cc

first-same : (a b : ℕ) (xs ys : List ℕ) → a ∷ xs ≡ b ∷ ys → a ≡ b
first-same a b xs ys is = cc

-- the maker of an entry is the number of what was done
maker-is : (ev : CellEvent) → maker_of (line.Entry (event_numbers ev)) ≡ number_of ev
maker-is ev = let h = events-numbered ev in ap (λ (l : List ℕ). maker_of (line.Entry l)) h.1

-- a party that could take the cell, which was so, and has seen its own entries
module _ (g : Config) (i : ℕ) (in_range : IsCell g i) (cell : OnHeap) (p : PartyPlace) (config : p.own.about.config ≡ g) (free : WasFree (Pact dbuf_meanings) p i (item.Cell cell)) (own : AreEntriesSeen g p.number p.own.mine p.own.seen) where
  abbrev scene : Scene OnHeap
  scene = free.held.scene

  abbrev owner : ℕ → ℕ
  owner = scene.owner i

  abbrev lines : List Line
  lines = lines_in dbuf_meanings (scene.now i)

  shown : IsShown scene p.number p.own
  shown = free.held.attached.views p.number p.own free.stands.shows.0

  lines-are : lines ≡ map line.Entry (map event_numbers cell.value.history)
  lines-are = ap (lines_in dbuf_meanings) (free.held.attached.free i (item.Cell cell) free.turn).0

  low : p.number < parties_of scene.about.config
  low = subst (λ (x : ℕ). p.number < x) free.held.attached.parties (within free.board.views p.number p.own free.stands.shows.0)

  starts : StartsWith lines (front_of i p.own.seen)
  starts = subst (λ (s : List (List Line)). StartsWith lines (front_of i s)) (sym shown.seen) (free.held.logged.seen p.number i)

  module _ (x : ℕ) (ev : CellEvent) (there : get_elem? cell.value.history x ≡ some ev) where
    line-at : get_elem? lines x ≡ some (line.Entry (event_numbers ev))
    line-at = ap (λ (l : List Line). get_elem? l x) lines-are ∙ get-map line.Entry (map event_numbers cell.value.history) x (event_numbers ev) (get-map event_numbers cell.value.history x ev there)

    place : HasPlace dbuf_meanings scene i x (owner x)
    place = free.held.logged.places i x (within lines x (line.Entry (event_numbers ev)) line-at)

    -- what the party made has its number
    its-number : owner x ≡ p.number → number_of ev ≡ p.number
    its-number is = first-same (number_of ev) p.number (events-numbered ev).0 entry.rest (sym (events-numbered ev).1 ∙ numbers-same (event_numbers ev) (p.number ∷ entry.rest) same)
      where
        listed : get_elem? p.own.mine place.index ≡ some place.line
        listed = ap (λ (l : List Mine). get_elem? l place.index) shown.mine ∙ (ap (λ (k : ℕ). get_elem? (scene.mine k) place.index) (sym is) ∙ place.at)

        entry : IsEntrySeen p.number (front_of i p.own.seen) place.line.place
        entry = own i place.index place.line in_range listed place.turn

        same : line.Entry (event_numbers ev) ≡ line.Entry (p.number ∷ entry.rest)
        same = some-injective (line.Entry (event_numbers ev)) (line.Entry (p.number ∷ entry.rest))
            (sym line-at ∙ (ap (λ (y : ℕ). get_elem? lines y) (sym place.place)
            ∙ (ap (λ (l : List Line). get_elem? l place.line.place) starts.1 ∙ get_front (front_of i p.own.seen) starts.0 place.line.place (line.Entry (p.number ∷ entry.rest)) entry.there)))

    -- and what has its number the party made
    its-own : number_of ev ≡ p.number → owner x ≡ p.number
    its-own is =
        let made = free.held.logged.own i x (line.Entry (event_numbers ev)) line-at in
        let maker : maker_of (line.Entry (event_numbers ev)) ≡ p.number = maker-is ev ∙ is in
        sym (made.maker (subst (λ (k : ℕ). k < parties_of scene.about.config) (sym maker) low)) ∙ maker

    owner-alike : (owner x == p.number) ≡ (number_of ev == p.number)
    owner-alike = dite (ℕ_discrete (owner x) p.number)
        (λ is. eq-eqb (owner x) p.number is ∙ sym (eq-eqb (number_of ev) p.number (its-number is)))
        (λ differs. ne_eqb (owner x) p.number differs ∙ sym (ne_eqb (number_of ev) p.number (λ is. differs (its-own is))))

  pub found-own : made_of i p ≡ map line.Entry (map event_numbers (done_by p.number cell.value.history))
  found-own =
      made-owned dbuf_meanings scene free.held.logged p.number p.own shown i (entries-below g p.number p.own.mine p.own.seen i in_range own)
      ∙ (ap (owned_from owner p.number 0) lines-are
      ∙ (owned-map line.Entry owner p.number 0 (map event_numbers cell.value.history)
      ∙ ap (map line.Entry) (owned-map event_numbers owner p.number 0 cell.value.history
      ∙ ap (map event_numbers) (sym (by-owner owner p.number 0 cell.value.history
      (λ x ev there. ap (λ (y : ℕ). owner y == p.number) (let z : 0 + x ≡ x = omega arith in z) ∙ owner-alike x ev there))))))
