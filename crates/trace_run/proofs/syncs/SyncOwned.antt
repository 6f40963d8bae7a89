-- What each party had done to a cell that a party with every number takes.
use Rattle.std.proofs.Common.{◌≡◌, ℕ, suc, ◌+◌, ◌<◌, List, [], ◌∷◌, map, sym, ap, ◌∙◌, subst, inl, inr, arith}
use Rattle.std.specs.List.{AllByRecursion}
use mathlib.Core.Option.{some, some-injective}
use lib.ListN.{get_elem?}
use Rattle.arc_core.specs.declared.config.Config.{Config}
use Rattle.turn_table.specs.declared.standing.Kept.{Kept}
use Rattle.turn_table.specs.Moments.{WasFree}
use Rattle.turn_table.specs.Places.{AllShow, HasNumber, IsIn}
use Rattle.arc_table.specs.declared.item.Item.TheVariants as item
use Rattle.arc_table.specs.declared.view.Known.{Known}
use Rattle.arc_table.specs.declared.view.Line.{Line}
use Rattle.arc_table.specs.declared.view.Line.TheVariants as line
use Rattle.arc_table.specs.declared.view.Mine.{Mine}
use Rattle.arc_table.specs.Fronts.{StartsWith, front_of}
use Rattle.arc_table.specs.Geometry.{IsCell}
use Rattle.arc_table.specs.Items.{lines_in}
use Rattle.arc_table.specs.pact.Logged.{HasPlace}
use Rattle.arc_table.specs.pact.Rule.{Pact}
use Rattle.arc_table.specs.pact.Scene.{Scene}
use Rattle.arc_table.specs.Seen.{AllEntriesSeen, AreEntriesSeen, HasAll, HasSeenItsEntries, IsEntrySeen}
use Rattle.arc_table.specs.TableLaws.{get_front, within}
use Rattle.dbuf_cells.specs.Turns.{OnHeap, PartyPlace, dbuf_meanings}
use Rattle.dbuf_state.specs.Numbers.{event_numbers, number_of}
use Rattle.dbuf_state.specs.declared.event.CellEvent.{CellEvent}
use Rattle.dbuf_state.proofs.NumberLemmas.{events-numbered}
use Rattle.trace_run.specs.dbufs.CellEnds.{done_by}
use Rattle.trace_run.specs.MadeLines.{made_from, made_of, owned_from}
use Rattle.trace_run.specs.Syncing.{lines_of}
use Rattle.trace_run.proofs.CellLemmas.{by-number}
use Rattle.trace_run.proofs.deeds.ClosedDeeds.{owned-entries}
use Rattle.trace_run.proofs.deeds.MadeCells.{made-owned}
use Rattle.trace_run.proofs.deeds.MakesLemmas.{entries-below}
use Rattle.trace_run.proofs.theorem.CloseLemmas.{get-map}

-- a cell that the party found so
module _ (g : Config) (i : ℕ) (in_range : IsCell g i) (c : OnHeap) (p : PartyPlace) (all : HasAll p) (made : HasSeenItsEntries g p) (free : WasFree (Pact dbuf_meanings) p i (item.Cell c)) where
  abbrev scene : Scene OnHeap
  scene = free.held.scene

  now-is : lines_in dbuf_meanings (scene.now i) ≡ lines_of c.value.history
  now-is = ap (lines_in dbuf_meanings) (free.held.attached.free i (item.Cell c) free.turn).0

  -- it has seen the entries of each party
  seen-of-kept : (n : ℕ) (ks : List (Kept (Known OnHeap))) → IsIn n ks → AllShow free.board.views ks → AllEntriesSeen g ks p.own.seen → AreEntriesSeen g n (scene.mine n) p.own.seen
  seen-of-kept n [] among shows each = absurd among
  seen-of-kept n (k ∷ ks) (inl is) shows each =
      subst (λ (x : ℕ). AreEntriesSeen g x (scene.mine x) p.own.seen) is (subst (λ (l : List Mine). AreEntriesSeen g k.number l p.own.seen) (free.held.attached.views k.number k.view shows.0).mine each.0)
  seen-of-kept n (k ∷ ks) (inr among) shows each = seen-of-kept n ks among shows.1 each.1

  seen-of-each : (n : ℕ) → HasNumber n p → AreEntriesSeen g n (scene.mine n) p.own.seen
  seen-of-each n (inl is) =
      subst (λ (x : ℕ). AreEntriesSeen g x (scene.mine x) p.own.seen) is (subst (λ (l : List Mine). AreEntriesSeen g p.number l p.own.seen) (free.held.attached.views p.number p.own free.stands.shows.0).mine made.own)
  seen-of-each n (inr among) = seen-of-kept n p.joined among free.stands.shows.1 made.joined

  starts : StartsWith (lines_in dbuf_meanings (scene.now i)) (front_of i p.own.seen)
  starts = subst (λ (s : List (List Line)). StartsWith (lines_in dbuf_meanings (scene.now i)) (front_of i s)) (sym (free.held.attached.views p.number p.own free.stands.shows.0).seen) (free.held.logged.seen p.number i)

  line-at : (x : ℕ) (e : CellEvent) → get_elem? c.value.history x ≡ some e → get_elem? (lines_in dbuf_meanings (scene.now i)) x ≡ some (line.Entry (event_numbers e))
  line-at x e there = ap (λ (l : List Line). get_elem? l x) now-is ∙ get-map line.Entry (map event_numbers c.value.history) x (event_numbers e) (get-map event_numbers c.value.history x e there)

  -- each entry has the number of the party whose it is
  owner-is : (x : ℕ) (e : CellEvent) → get_elem? c.value.history x ≡ some e → scene.owner i x ≡ number_of e
  owner-is x e there = head-is (events-numbered e)
    where
      owner : ℕ
      owner = scene.owner i x

      place : HasPlace dbuf_meanings scene i x owner
      place = free.held.logged.places i x (within (lines_in dbuf_meanings (scene.now i)) x (line.Entry (event_numbers e)) (line-at x e there))

      below : owner < p.parties
      below = subst (λ (n : ℕ). owner < n) (sym free.held.attached.parties ∙ free.stands.count) place.party

      entry : IsEntrySeen owner (front_of i p.own.seen) place.line.place
      entry = seen-of-each owner (all owner below) i place.index place.line in_range place.at place.turn

      same : line.Entry (event_numbers e) ≡ line.Entry (owner ∷ entry.rest)
      same = some-injective (line.Entry (event_numbers e)) (line.Entry (owner ∷ entry.rest))
          (sym (line-at x e there) ∙ (ap (λ (y : ℕ). get_elem? (lines_in dbuf_meanings (scene.now i)) y) (sym place.place)
          ∙ (ap (λ (l : List Line). get_elem? l place.line.place) starts.1 ∙ get_front (front_of i p.own.seen) starts.0 place.line.place (line.Entry (owner ∷ entry.rest)) entry.there)))

      numbers-same : (a b : List ℕ) → line.Entry a ≡ line.Entry b → a ≡ b
      numbers-same a b is = cc

      first-same : (a b : ℕ) (xs ys : List ℕ) → a ∷ xs ≡ b ∷ ys → a ≡ b
      first-same a b xs ys is = cc

      head-is : (rest : List ℕ) × (event_numbers e ≡ number_of e ∷ rest) → owner ≡ number_of e
      head-is h = sym (first-same (number_of e) owner h.0 entry.rest (sym h.1 ∙ numbers-same (event_numbers e) (owner ∷ entry.rest) same))

  -- what a party made of it is what has the party's number
  pub done-there : (k : ℕ) (v : Known OnHeap) → get_elem? free.board.views k ≡ some v → AreEntriesSeen g k v.mine v.seen → (did : List CellEvent) → made_from i 0 v.mine (front_of i v.seen) ≡ lines_of did → done_by k c.value.history ≡ did
  done-there k v shown own did made_is =
      by-number (scene.owner i) k 0 c.value.history (λ x e there. ap (scene.owner i) (let z : 0 + x ≡ x = omega arith in z) ∙ owner-is x e there)
      ∙ owned-entries (scene.owner i) k c.value.history did
      (ap (owned_from (scene.owner i) k 0) (sym now-is)
      ∙ (sym (made-owned dbuf_meanings scene free.held.logged k v (free.held.attached.views k v shown) i (entries-below g k v.mine v.seen i in_range own)) ∙ made_is))

-- ---- what is told of parties

-- What a party is told to have made of a cell is what it had done to it.
abbrev pub DidSo : (n : ℕ) → (made : List Line) → OnHeap → Type 0
DidSo n made c = (did : List CellEvent) → made ≡ lines_of did → done_by n c.value.history ≡ did

-- so it is of a party, and of those that it keeps by a join
pub record IsDone (g : Config) (i : ℕ) (p : PartyPlace) (c : OnHeap) : Type 0 where
  pub own : DidSo p.number (made_of i p) c
  pub joined : AllByRecursion (λ k. AreEntriesSeen g k.number k.view.mine k.view.seen → DidSo k.number (made_from i 0 k.view.mine (front_of i k.view.seen)) c) p.joined

-- of cells of the numbers from this one on
abbrev pub AreDoneFrom : Config → (i : ℕ) → PartyPlace → List OnHeap → Type 0
AreDoneFrom g i p [] = Unit {0}
AreDoneFrom g i p (c ∷ cs) = IsDone g i p c × AreDoneFrom g (suc i) p cs

-- where another has its number and those that it keeps, and made the same of cells
pub done-as : (g : Config) (i : ℕ) (cs : List OnHeap) (p r : PartyPlace) → r.number ≡ p.number → r.joined ≡ p.joined → ((j : ℕ) → made_of j r ≡ made_of j p) → AreDoneFrom g i r cs → AreDoneFrom g i p cs
done-as g i [] p r number joined same done = tt
done-as g i (c ∷ cs) p r number joined same done = (
  record {
    own = subst (λ (x : ℕ × List Line). DidSo x.0 x.1 c) (λ z. (number z, same i z)) done.0.own;
    joined = subst (AllByRecursion (λ k. AreEntriesSeen g k.number k.view.mine k.view.seen → DidSo k.number (made_from i 0 k.view.mine (front_of i k.view.seen)) c)) joined done.0.joined;
  },
  done-as g (suc i) cs p r number joined same done.1,
)

-- of a cell that was found so
module _ (g : Config) (i : ℕ) (in_range : IsCell g i) (c : OnHeap) (p : PartyPlace) (all : HasAll p) (made : HasSeenItsEntries g p) (free : WasFree (Pact dbuf_meanings) p i (item.Cell c)) where
  kept-done : (ks : List (Kept (Known OnHeap))) → AllShow free.board.views ks
      → AllByRecursion (λ k. AreEntriesSeen g k.number k.view.mine k.view.seen → DidSo k.number (made_from i 0 k.view.mine (front_of i k.view.seen)) c) ks
  kept-done [] shows = tt
  kept-done (k ∷ ks) shows = ((λ own did is. done-there g i in_range c p all made free k.number k.view shows.0 own did is), kept-done ks shows.1)

  pub found-done : IsDone g i p c
  found-done = record {
    own = λ did is. done-there g i in_range c p all made free p.number p.own free.stands.shows.0 made.own did is;
    joined = kept-done p.joined free.stands.shows.1;
  }
