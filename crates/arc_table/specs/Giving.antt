-- What a party owes when it gives a turn back.
use Rattle.std.specs.Prelude.{◌≡◌, ◌≢◌, ℕ, List, ◌∷◌, ◌++◌, Some}
use mathlib.Core.Option.{some}
use lib.ListN.{get_elem?}
use Rattle.blk_ptr.specs.declared.key.Key.{Key}
use Rattle.blk_ptr.specs.declared.ptr.Ptr.{Ptr}
use Rattle.arc_core.specs.Keeps.{holds_on}
use Rattle.arc_table.specs.declared.item.Item.{Item}
use Rattle.arc_table.specs.declared.item.Item.TheVariants as item
use Rattle.arc_table.specs.declared.view.Known.{Known}
use Rattle.arc_table.specs.Fronts.{item_at, list_at}
use Rattle.arc_table.specs.Items.{Meanings, holds_in}

-- these holds are those: as many on each key, and each of them is one of those
pub record AreHolds (holds listed : List Ptr) : Type 0 where
  pub count : (k : Key) → holds_on k holds ≡ holds_on k listed
  pub among : (j : ℕ) (h : Ptr) → get_elem? holds j ≡ some h → (q : ℕ) × (get_elem? listed q ≡ some h)

-- these entries are n's
abbrev pub AreEntriesOf : ℕ → List (List ℕ) → Type 0
AreEntriesOf n entries = (j : ℕ) (e : List ℕ) → get_elem? entries j ≡ some e → (ns : List ℕ) × (e ≡ n ∷ ns)

module _ {C : Type 0} (m : Meanings C) where
  -- the party has the turn i in hand as it found it
  pub record IsAsTaken (i : ℕ) (v : Item C) (w : Known C) : Type 0 where
    pub recorded : item_at i w.records ≡ Some v
    pub listed : list_at i w.listed ≡ holds_in m v

  -- The cell may be given back by n: it is sound, keeps just the holds that n lists for it, its entries are those that it had and then
  -- n's, and its opening and what others claim are as they were
  pub record IsGivenCell (n i : ℕ) (cell : C) (w : Known C) : Type 0 where
    pub taken : C
    pub recorded : item_at i w.records ≡ Some (item.Cell taken)
    pub sound : m.sound cell
    pub holds : AreHolds (m.holds cell) (list_at i w.listed)
    pub more : List (List ℕ)
    pub entries : m.entries cell ≡ m.entries taken ++ more
    pub own : AreEntriesOf n more
    pub opening : m.opening cell ≡ m.opening taken
    pub claims : (k : ℕ) → k ≢ n → m.claims cell k ≡ m.claims taken k
