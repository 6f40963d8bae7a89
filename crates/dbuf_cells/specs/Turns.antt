-- A party takes a cell of dbufs, does things to it and makes events of shards meanwhile, and gives it back.
use Rattle.std.specs.Prelude.{◌≡◌, ◌≢◌, ℕ, zero, suc, ◌<◌, Bool, true, false, List, [], ◌∷◌, ◌++◌, ◌&&◌, count_by, map, Some}
use Rattle.std.specs.Option.{option_map_or}
use mathlib.Core.Option.{some}
use lib.ListN.{get_elem?}
use Rattle.std.specs.declared.alloc.Global.{Global}
use Rattle.std.specs.declared.boxed.Box.{Box}
use Rattle.blk_ptr.specs.Order.{key_eq}
use Rattle.blk_ptr.specs.declared.key.Key.{Key}
use Rattle.blk_ptr.specs.declared.ptr.Ptr.{Ptr}
use Rattle.arc_core.specs.Keeps.{holds_on}
use Rattle.arc_core.specs.Operations.{event_key}
use Rattle.arc_core.specs.declared.config.Config.{Config}
use Rattle.arc_core.specs.declared.event.Event.{Event}
use Rattle.arc_core.specs.declared.event.Event.TheVariants.{Drop}
use Rattle.turn_table.specs.Places.{HasNumber, Place, gave_back}
use Rattle.turn_table.specs.declared.standing.Kept.{Kept as Joined}
use Rattle.arc_table.specs.Both.{Does, Takes}
use Rattle.arc_table.specs.Fronts.{list_at}
use Rattle.arc_table.specs.Geometry.{cell_number, parties_of}
use Rattle.arc_table.specs.Giving.{IsGivenCell}
use Rattle.arc_table.specs.Items.{Meanings}
use Rattle.arc_table.specs.Views.{after_cell}
use Rattle.arc_table.specs.declared.item.Item.TheVariants as item
use Rattle.arc_table.specs.declared.view.Known.{Known}
use Rattle.dbuf_state.specs.CellLog.{CellLog}
use Rattle.dbuf_state.specs.Dbufs.{DbufHas, dbuf_at, dbuf_is}
use Rattle.dbuf_state.specs.Held.{IsSoundCell, held_by, keeps_hold}
use Rattle.dbuf_state.specs.History.{Leads}
use Rattle.dbuf_state.specs.Numbers.{claims_in, event_numbers, mapping_numbers, opening_numbers}
use Rattle.dbuf_state.specs.Objects.{Evicting, Never}
use Rattle.dbuf_state.specs.Outline.{Outline, after, after_all, is_cached_at, mapped_at, outline_of}
use Rattle.dbuf_state.specs.Soundness.{IsSound, holds_in, plain_cell}
use Rattle.dbuf_state.specs.declared.dbuf.Content.TheVariants as content
use Rattle.dbuf_state.specs.declared.dbuf.Dbuf.{Dbuf}
use Rattle.dbuf_state.specs.declared.event.CellEvent.{CellEvent}
use Rattle.dbuf_state.specs.declared.event.CellEvent.TheVariants.{Evict}
use Rattle.dbuf_state.specs.declared.oid.Oid.{Oid}
use Rattle.dbuf_state.specs.declared.state.DbState.TheVariants as state
use Rattle.dbuf_state.specs.declared.state.Mapped.{Mapped}
use Rattle.dbuf_state.specs.declared.state.Mapped.TheVariants.{Clean, Dirty}
use Rattle.dbuf_cells.specs.Places.{cell_of}
use Rattle.dbuf_cells.specs.Kept.{bytes_of, is_held, key_of}
use Rattle.dbuf_cells.specs.declared.kept.Kept.{Kept}

-- a cell on the heap
abbrev pub OnHeap : Type 0
OnHeap = Box (CellLog Kept) Global

-- a party of the cache whose cells these are
abbrev pub PartyPlace : Type 0
PartyPlace = Place (Known OnHeap)

-- the holds that a cell keeps
abbrev pub holds_of : CellLog Kept → List Ptr
holds_of c = holds_in key_of bytes_of is_held c.dbufs

-- what is mapped, cached and pinned in a cell
abbrev pub outline_in : OnHeap → Outline
outline_in b = outline_of (plain_cell Never b.value)

-- ---- which dbufs keep a hold

-- whether the dbuf of the Oid does
abbrev pub held_at : List (Dbuf Kept) → Oid → Bool
held_at ds at = dbuf_is (keeps_hold is_held) at ds

abbrev pub held_in : OnHeap → Oid → Bool
held_in b = held_at b.value.dbufs

-- the block is clean and cached, under this key
pub record IsCachedAs (at : Oid) (k : Key) (o : Outline) : Type 0 where
  pub ptr : Ptr
  pub mapped : mapped_at at o ≡ Some (Clean ptr)
  pub cached : is_cached_at at o ≡ true
  pub key : ptr.key ≡ k

-- what is mapped is a clean block of this key
abbrev pub is_under : Key → Mapped → Bool
is_under k (Clean ptr) = key_eq k ptr.key
is_under k (Dirty size) = false

-- how many blocks of an outline are cached under a key, and how many of these have a dbuf that keeps a hold
abbrev pub cached_under : Key → Outline → ℕ
cached_under k o = count_by (λ d. d.cached && is_under k d.mapped) o.dbufs

abbrev pub held_under : Key → (held : Oid → Bool) → Outline → ℕ
held_under k held o = count_by (λ d. (d.cached && is_under k d.mapped) && held d.at) o.dbufs

-- Where a dbuf keeps a hold, its block is cached under a key on which the cell has a hold. And of each key the cell has as many holds as blocks are cached under it whose dbuf keeps one.
pub record HoldsStand (b : OnHeap) : Type 0 where
  pub of_held : (at : Oid) → held_in b at ≡ true → (k : Key) × IsCachedAs at k (outline_in b) × (0 < holds_on k (holds_of b.value))
  pub count : (k : Key) → holds_on k (holds_of b.value) ≡ held_under k (held_in b) (outline_in b)

-- ---- what a cell means to the shared cache

abbrev pub dbuf_meanings : Meanings OnHeap
dbuf_meanings = record {
  holds = λ b. holds_of b.value;
  entries = λ b. map event_numbers b.value.history;
  opening = λ b. opening_numbers b.value.limit b.value.opening;
  claims = λ b n. mapping_numbers (claims_in n b.value.dbufs);
  sound = λ b. IsSoundCell is_held b.value;
}

-- the party took the bucket and the shard of a key, and gave both back without an event; so many times, with one key or another
abbrev pub LooksTimes : Config → (times : ℕ) → PartyPlace → PartyPlace → Type 0
LooksTimes g zero p q = q ≡ p
LooksTimes g (suc times) p q = (k : Key) × (r : PartyPlace) × LooksTimes g times p r × Does dbuf_meanings g k [] r q

abbrev pub Looks : Config → PartyPlace → PartyPlace → Type 0
Looks g p q = (times : ℕ) × LooksTimes g times p q

-- these events of shards were made, one after another, each by a call of its own; nothing else was done to shards but such looks
abbrev pub MakesAll : Config → List Event → PartyPlace → PartyPlace → Type 0
MakesAll g [] p q = Looks g p q
MakesAll g (e ∷ es) p q = (k : Key) × (r : PartyPlace) × (s : PartyPlace) × Looks g p r × (event_key e ≡ Some k) × Does dbuf_meanings g k (e ∷ []) r s × MakesAll g es s q

-- The party p took the cell i, which was so, and sound. With the cell in hand it did these things to it and made these events of shards, and it gave
-- the cell back: it is q. The things done lead from what the cell was to what it is. Its history had told which of its dbufs kept a hold.
pub record CellTurn (g : Config) (i : ℕ) (before : OnHeap) (news : List CellEvent) (es : List Event) (p q : PartyPlace) : Type 0 where
  pub after : OnHeap
  pub taken : PartyPlace
  pub worked : PartyPlace
  pub takes : Takes dbuf_meanings i (item.Cell before) p taken
  pub makes : MakesAll g es taken worked
  pub sound : IsSound before.value
  pub stands : HoldsStand before
  pub tells : (at : Oid) → held_in before at ≡ held_by at before.value.history
  pub history : after.value.history ≡ before.value.history ++ news
  pub evicting : Evicting
  pub bases : List (List ℕ)
  pub leads : Leads (plain_cell sound.evicting before.value) news bases (plain_cell evicting after.value)
  pub given : IsGivenCell dbuf_meanings worked.number i after worked.own
  pub gave : q ≡ gave_back worked i (after_cell dbuf_meanings i (item.Cell after) worked.own)

-- what the party claims of each cell is as before
abbrev pub KeepsClaims : PartyPlace → PartyPlace → Type 0
KeepsClaims p q = (j : ℕ) → list_at j q.own.ledger.claims ≡ list_at j p.own.ledger.claims

-- ---- waiting

-- the party took the cell and found a number bringing the bytes of the block, which was clean, and gave the cell back as it was
pub record FindsBringing (g : Config) (i : ℕ) (at : Oid) (p q : PartyPlace) : Type 0 where
  pub before : OnHeap
  pub turn : CellTurn g i before [] [] p q
  pub owner : ℕ
  pub ptr : Ptr
  pub reading : DbufHas (λ d. (d.content ≡ content.Clean ptr) × (d.state ≡ state.Read owner)) (dbuf_at at before.value.dbufs)

-- so it was so many times, one after the other
abbrev pub WaitsForDbuf : Config → (i : ℕ) → Oid → (times : ℕ) → PartyPlace → PartyPlace → Type 0
WaitsForDbuf g i at zero p q = q ≡ p
WaitsForDbuf g i at (suc times) p q = (r : PartyPlace) × WaitsForDbuf g i at times p r × FindsBringing g i at r q

-- The party has every number of a cache with this configuration, as its own or by a join, and under none of them it brings the bytes of a block of
-- the cell i.
pub record BringsNone (g : Config) (i : ℕ) (p : PartyPlace) : Type 0 where
  pub all : (n : ℕ) → n < parties_of g → HasNumber n p
  pub own : list_at i p.own.ledger.claims ≡ []
  pub joined : (j : ℕ) (k : Joined (Known OnHeap)) → get_elem? p.joined j ≡ some k → list_at i k.view.ledger.claims ≡ []

-- nobody brings the block's bytes just now
abbrev pub IsAtRest : Oid → List (Dbuf Kept) → Type 0
IsAtRest at ds = (n : ℕ) → option_map_or (λ d. d.state) (dbuf_at at ds) state.Uncached ≢ state.Read n

-- The party waited so often, and then, where the cell was so and nobody brought the block's bytes, this happened. A party that has every number
-- doesn't wait.
pub record OnceAtRest (g : Config) (at : Oid) (p q : PartyPlace) (Then : OnHeap → PartyPlace → PartyPlace → Type 0) : Type 0 where
  pub times : ℕ
  pub ready : PartyPlace
  pub before : OnHeap
  pub waits : WaitsForDbuf g (cell_of g.cells at) at times p ready
  pub rests : IsAtRest at before.value.dbufs
  pub happens : Then before ready q
  pub alone : BringsNone g (cell_of g.cells at) p → times ≡ 0

-- ---- evictions

-- with a cell's number c the hold on this key is dropped, where a dbuf kept one; a loose block goes without an event
abbrev pub drops_if : (held : Bool) → (c : ℕ) → Key → List Event
drops_if true c k = Drop c k ∷ []
drops_if false c k = []

-- From a cell of this outline on, whose dbufs keep holds so, the number n evicts these dbufs, and of each of them that kept one the hold is dropped.
abbrev pub AreEvictions : (n c : ℕ) → (held : Oid → Bool) → Outline → List CellEvent → List Event → Type 0
AreEvictions n c held o [] es = es ≡ []
AreEvictions n c held o (e ∷ evs) es = (at : Oid) × (ptr : Ptr) × (drops : List Event) × (rest : List Event) × (e ≡ Evict n at) × (mapped_at at o ≡ Some (Clean ptr)) × (is_cached_at at o ≡ true)
    × (es ≡ drops ++ rest) × (drops ≡ drops_if (held at) c ptr.key) × AreEvictions n c held (after o e) evs rest

-- A turn of a cell in which the party did these things and made these events, and then evicted what was over the limit. The dbufs that it evicted kept holds so.
pub record Operates (g : Config) (i : ℕ) (before : OnHeap) (held : Oid → Bool) (own : List CellEvent) (es : List Event) (p q : PartyPlace) : Type 0 where
  pub evictions : List CellEvent
  pub drops : List Event
  pub turn : CellTurn g i before (own ++ evictions) (es ++ drops) p q
  pub evicted : AreEvictions p.number (cell_number g i) held (after_all (outline_in before) own) evictions drops
