-- What the operations answer that bring a block.
use Rattle.std.specs.Prelude.{◌≡◌, ℕ, ◌+◌, ◌<◌, ◌≤◌, List, [], ◌∷◌, ◌++◌, Some, None, Result, Ok, Err}
use Rattle.blk_ptr.specs.Key.{IsFirstKeyFault}
use Rattle.blk_ptr.specs.declared.key.KeyFault.{KeyFault}
use Rattle.blk_ptr.specs.declared.ptr.Ptr.{Ptr}
use Rattle.vdev_io.specs.declared.device.CacheDev.{Ghosts as DeviceGhosts}
use Rattle.vdev_io.specs.declared.pool.Pool.{Ghosts as PoolGhosts}
use Rattle.arc_core.specs.declared.config.Config.{Config}
use Rattle.arc_core.specs.declared.event.Event.{Event}
use Rattle.arc_core.specs.declared.served.ReadFault.TheVariants as read
use Rattle.arc_table.specs.Reading.{Outside}
use Rattle.dbuf_state.specs.Answers.{IsAnswer}
use Rattle.dbuf_state.specs.Objects.{Never}
use Rattle.dbuf_state.specs.Outline.{mapped_at, mapped_size}
use Rattle.dbuf_state.specs.Soundness.{plain_cell}
use Rattle.dbuf_state.specs.declared.event.CellEvent.{CellEvent}
use Rattle.dbuf_state.specs.declared.event.CellEvent.TheVariants.{Get, Pin}
use Rattle.dbuf_state.specs.declared.fault.DbufFault.{DbufFault}
use Rattle.dbuf_state.specs.declared.fault.DbufFault.TheVariants as fault
use Rattle.dbuf_state.specs.declared.oid.Oid.{Oid}
use Rattle.dbuf_state.specs.declared.state.Mapped.{Mapped}
use Rattle.dbuf_state.specs.declared.state.Mapped.TheVariants.{Clean}
use Rattle.dbuf_state.specs.declared.window.Window.{Window}
use Rattle.dbuf_cells.specs.Bringing.{Brings, FailsToLoad, held_behind}
use Rattle.dbuf_cells.specs.Places.{cell_of}
use Rattle.dbuf_cells.specs.Turns.{CellTurn, OnHeap, OnceAtRest, Operates, PartyPlace, held_in, outline_in}

module _ {P D : Type 0} (pools : PoolGhosts P) (devices : DeviceGhosts D) (g : Config) (i : ℕ) (at : Oid) (t : ℕ) (before now : Outside P D) where
  -- The block's bytes were there, or were brought; and in one turn of the cell, right behind the Load where there is one, the operation's own
  -- event was made, where this is so of what the cell was, and then what was over the limit was evicted.
  pub record Acts (own : ℕ → CellEvent) (Fits : OnHeap → Type 0) (cell : OnHeap) (p q : PartyPlace) : Type 0 where
    pub back : PartyPlace
    pub mid : OnHeap
    pub loads : List CellEvent
    pub hands : List Event
    pub brings : Brings pools devices g i at t before now cell p back mid loads hands
    pub fits : Fits mid
    pub operates : Operates g i mid (held_behind at loads hands (held_in mid)) (loads ++ own p.number ∷ []) hands back q

  -- The block could not be brought. Or memory was refused once its bytes were there: the cell is as before, or it has the Load alone.
  pub data Refuses (cell : OnHeap) (p q : PartyPlace) (why : DbufFault) : Type 0 where
    not_loaded : FailsToLoad pools devices g i at t before now cell p q why → Refuses cell p q why
    no_room : (back : PartyPlace) (mid : OnHeap) (loads : List CellEvent) (hands : List Event) → why ≡ fault.NoMemory → Brings pools devices g i at t before now cell p back mid loads hands
        → CellTurn g i mid loads hands back q → Refuses cell p q why

  -- the object map has no such block, and the cell is as before
  pub record HasNoBlock (cell : OnHeap) (p q : PartyPlace) (named : Oid) : Type 0 where
    pub named_is : named ≡ at
    pub none : mapped_at at (outline_in cell) ≡ None
    pub turn : CellTurn g i cell [] [] p q
    pub outside : now ≡ before

  -- the range ends past the block, and the cell is as before
  pub record EndsPast (last : ℕ) (cell : OnHeap) (p q : PartyPlace) (end size : ℕ) : Type 0 where
    pub end_is : end ≡ last
    pub mapped : Mapped
    pub there : mapped_at at (outline_in cell) ≡ Some mapped
    pub size_is : size ≡ mapped_size mapped
    pub past : size < end
    pub turn : CellTurn g i cell [] [] p q
    pub outside : now ≡ before

  -- the object map has the block, and the range ends inside it
  pub record EndsInside (last : ℕ) (cell : OnHeap) : Type 0 where
    pub mapped : Mapped
    pub there : mapped_at at (outline_in cell) ≡ Some mapped
    pub inside : last ≤ mapped_size mapped

  -- the key of the clean block names none of the pool, and the cell is as before
  pub record HasNoKey (cell : OnHeap) (p q : PartyPlace) (why : KeyFault) : Type 0 where
    pub ptr : Ptr
    pub there : mapped_at at (outline_in cell) ≡ Some (Clean ptr)
    pub first : IsFirstKeyFault (pools.size before.pool) ptr.key why
    pub turn : CellTurn g i cell [] [] p q
    pub outside : now ≡ before

  -- Why a block is neither shown nor written: its key names none of the pool. Or its bytes could not be brought, or memory was refused.
  pub data NotAccessed (cell : OnHeap) (p q : PartyPlace) (why : DbufFault) : Type 0 where
    no_key : (key : KeyFault) → why ≡ fault.Read (read.Key key) → HasNoKey cell p q key → NotAccessed cell p q why
    no_bytes : Refuses cell p q why → NotAccessed cell p q why

  -- what `get` answers: the size and the window are an answer at what the cell was in the turn in which the Get was made
  abbrev pub Gets : Window → OnHeap → (p q : PartyPlace) → Result (ℕ × List ℕ) DbufFault → Type 0
  Gets w cell p q (Ok got) = Acts (λ n. Get n at) (λ b. IsAnswer (plain_cell Never b.value) at w got.0 got.1) cell p q
  Gets w cell p q (Err (fault.NoBlock named)) = HasNoBlock cell p q named
  Gets w cell p q (Err (fault.Range end size)) = EndsPast (w.at + w.len) cell p q end size
  Gets w cell p q (Err (fault.NoPin named)) = ⊥
  Gets w cell p q (Err (fault.Read why)) = EndsInside (w.at + w.len) cell × NotAccessed cell p q (fault.Read why)
  Gets w cell p q (Err fault.NoMemory) = EndsInside (w.at + w.len) cell × Refuses cell p q fault.NoMemory

  -- what `hold` answers
  abbrev pub Holds : {T : Type 0} → OnHeap → (p q : PartyPlace) → Result T DbufFault → Type 0
  Holds cell p q (Ok done) = Acts (λ n. Pin n at) (λ b. Unit {0}) cell p q
  Holds cell p q (Err (fault.NoBlock named)) = HasNoBlock cell p q named
  Holds cell p q (Err (fault.Range end size)) = ⊥
  Holds cell p q (Err (fault.NoPin named)) = ⊥
  Holds cell p q (Err (fault.Read why)) = EndsInside 0 cell × Refuses cell p q (fault.Read why)
  Holds cell p q (Err fault.NoMemory) = EndsInside 0 cell × Refuses cell p q fault.NoMemory

module _ {P D : Type 0} (pools : PoolGhosts P) (devices : DeviceGhosts D) (g : Config) (at : Oid) (t : ℕ) (before now : Outside P D) where
  -- the party waited so often, took the block's cell, which was so then, and had its answer
  abbrev pub AnswersGet : Window → (p q : PartyPlace) → Result (ℕ × List ℕ) DbufFault → Type 0
  AnswersGet w p q result = OnceAtRest g at p q (λ cell r s. Gets pools devices g (cell_of g.cells at) at t before now w cell r s result)

  abbrev pub AnswersHold : {T : Type 0} → (p q : PartyPlace) → Result T DbufFault → Type 0
  AnswersHold p q result = OnceAtRest g at p q (λ cell r s. Holds pools devices g (cell_of g.cells at) at t before now cell r s result)
