-- What the calls on dbufs that bring no block come to for their party.
use Rattle.std.proofs.Common.{◌≡◌, ◌⊎◌, ℕ, ◌+◌, ◌<◌, ◌%◌, Bool, true, false, List, [], ◌∷◌, ◌++◌, refl, sym, ap, ◌∙◌, subst, inl, inr, arith}
use Rattle.std.specs.List.{AllByRecursion}
use Rattle.blk_ptr.specs.declared.key.Key.{Key}
use Rattle.blk_ptr.specs.declared.ptr.Ptr.{Ptr}
use Rattle.arc_core.specs.Config.{IsConfig}
use Rattle.arc_core.specs.declared.config.Config.{Config}
use Rattle.arc_core.specs.declared.event.Event.{Event}
use Rattle.arc_core.specs.declared.event.Event.TheVariants.{Drop, Release}
use Rattle.arc_table.specs.Cells.{SeesAll}
use Rattle.arc_table.specs.Geometry.{IsCell, cell_number}
use Rattle.dbuf_cells.specs.Places.{cell_of}
use Rattle.dbuf_cells.specs.Putting.{Releases, no_hold, one_hold}
use Rattle.dbuf_cells.specs.Turns.{AreEvictions, OnHeap, Operates, PartyPlace, drops_if}
use Rattle.dbuf_state.specs.Outline.{Outline, after}
use Rattle.dbuf_state.specs.declared.event.CellEvent.{CellEvent}
use Rattle.dbuf_state.specs.declared.oid.Oid.{Oid}
use Rattle.trace_run.proofs.deeds.CellsDone.{turn-done}
use Rattle.trace_run.specs.dbufs.DbufTurns.{CellsDone, held_through}
use Rattle.trace_run.specs.Deeds.{noted_in}
use Rattle.trace_run.proofs.deeds.TurnMakes.{AreTurnEvents, IsTurnEvent}

pub all-both : {A : Type 0} (P : A → Type 0) (xs ys : List A) → AllByRecursion P xs → AllByRecursion P ys → AllByRecursion P (xs ++ ys)
all-both P [] ys a b = b
all-both P (x ∷ xs) ys a b = (a.0, all-both P xs ys a.1 b)

-- ---- what the events of a turn are

drops-kinds : (n c : ℕ) (k : Key) (held : Bool) → AreTurnEvents n c (drops_if held c k)
drops-kinds n c k true = (inr (inl (k, refl)), tt)
drops-kinds n c k false = tt

pub evictions-kinds : (m n c : ℕ) (held : Oid → Bool) (o : Outline) (evs : List CellEvent) (es : List Event) → AreEvictions m c held o evs es → AreTurnEvents n c es
evictions-kinds m n c held o [] es none = subst (AreTurnEvents n c) (sym none) tt
evictions-kinds m n c held o (e ∷ evs) es a =
    let dropped : AreTurnEvents n c a.2 = subst (AreTurnEvents n c) (sym a.8) (drops-kinds n c a.1.key (held a.0)) in
    subst (AreTurnEvents n c) (sym a.7) (all-both (IsTurnEvent n c) a.2 a.3 dropped (evictions-kinds m n c held (after o e) evs a.3 a.9))

-- events with the cell's number leave what a party holds
pub held-same : (n c : ℕ) (es : List Event) (hs : List Ptr) → AllByRecursion (λ e. ((k : Key) × (e ≡ Drop c k)) ⊎ ((k : Key) × (sole : Bool) × (e ≡ Release c k sole))) es → held_through n es hs ≡ hs
held-same n c [] hs all = refl
held-same n c (e ∷ es) hs all = go all.0 (held-same n c es)
  where
    go : ((k : Key) × (e ≡ Drop c k)) ⊎ ((k : Key) × (sole : Bool) × (e ≡ Release c k sole)) → ((hs : List Ptr) → AllByRecursion (λ e. ((k : Key) × (e ≡ Drop c k)) ⊎ ((k : Key) × (sole : Bool) × (e ≡ Release c k sole))) es → held_through n es hs ≡ hs) → held_through n (e ∷ es) hs ≡ hs
    go (inl drop) rest = ap (λ (x : Event). held_through n (x ∷ es) hs) drop.1 ∙ rest hs all.1
    go (inr release) rest = ap (λ (x : Event). held_through n (x ∷ es) hs) release.2 ∙ rest hs all.1

-- events with the cell's number
abbrev pub AreOfCell : (c : ℕ) → List Event → Type 0
AreOfCell c = AllByRecursion (λ e. ((k : Key) × (e ≡ Drop c k)) ⊎ ((k : Key) × (sole : Bool) × (e ≡ Release c k sole)))

drops-of : (c : ℕ) (k : Key) (held : Bool) → AreOfCell c (drops_if held c k)
drops-of c k true = (inl (k, refl), tt)
drops-of c k false = tt

pub evictions-of : (m c : ℕ) (held : Oid → Bool) (o : Outline) (evs : List CellEvent) (es : List Event) → AreEvictions m c held o evs es → AreOfCell c es
evictions-of m c held o [] es none = subst (AreOfCell c) (sym none) tt
evictions-of m c held o (e ∷ evs) es a =
    let dropped : AreOfCell c a.2 = subst (AreOfCell c) (sym a.8) (drops-of c a.1.key (held a.0)) in
    subst (AreOfCell c) (sym a.7) (all-both (λ e. ((k : Key) × (e ≡ Drop c k)) ⊎ ((k : Key) × (sole : Bool) × (e ≡ Release c k sole))) a.2 a.3 dropped (evictions-of m c held (after o e) evs a.3 a.9))

pub release-of : (c : ℕ) (at : Oid) (held : Bool) (o : Outline) (es : List Event) → Releases c at held o es → AreOfCell c es
release-of c at held o es (no_hold loose none) = subst (AreOfCell c) (sym none) tt
release-of c at held o es (one_hold kept ptr sole there cached is) = subst (AreOfCell c) (sym is) (inr (ptr.key, sole, refl), tt)

pub both-of : (c : ℕ) (xs ys : List Event) → AreOfCell c xs → AreOfCell c ys → AreOfCell c (xs ++ ys)
both-of c xs ys a b = all-both (λ e. ((k : Key) × (e ≡ Drop c k)) ⊎ ((k : Key) × (sole : Bool) × (e ≡ Release c k sole))) xs ys a b

-- ---- an operation and its evictions

module _ (g : Config) (valid : IsConfig g) (i : ℕ) (in_range : IsCell g i) (before : OnHeap) (held : Oid → Bool) (own : List CellEvent) (es : List Event) (p q : PartyPlace) (config : p.own.about.config ≡ g) (sees : SeesAll g p)
    (kinds : AreTurnEvents p.number (cell_number g i) es) (o : Operates g i before held own es p q) where
  pub operates-done : CellsDone g (noted_in i (own ++ o.evictions)) (es ++ o.drops) p q
  operates-done = turn-done g valid i in_range before (own ++ o.evictions) (es ++ o.drops) p q config sees
      (all-both (IsTurnEvent p.number (cell_number g i)) es o.drops kinds (evictions-kinds p.number p.number (cell_number g i) held _ o.evictions o.drops o.evicted)) o.turn

-- the cell of a block is one of the cache's
pub cell-there : (g : Config) → IsConfig g → (at : Oid) → IsCell g (cell_of g.cells at)
cell-there g valid at = let some_cell = valid.counts.cells.0 in inside (at.object % g.cells + at.block % g.cells) g.cells (omega (arith, some_cell))
  where
    inside : (n m : ℕ) → 0 < m → n % m < m
    inside n m some_cells = omega (arith, some_cells)
