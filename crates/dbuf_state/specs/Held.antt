-- Which dbufs of a cell keep a hold on an entry of the cache, as the cell's history tells it.
use Rattle.std.specs.Prelude.{◌≡◌, Bool, false, if◌then◌else◌, List, [], ◌∷◌, map}
use Rattle.std.specs.Option.{option_map_or}
use Rattle.dbuf_state.specs.declared.dbuf.Content.TheVariants.{Clean}
use Rattle.dbuf_state.specs.declared.dbuf.Dbuf.{Dbuf}
use Rattle.dbuf_state.specs.declared.event.CellEvent.{CellEvent}
use Rattle.dbuf_state.specs.declared.event.CellEvent.TheVariants.{Get, Put, Patch, Pin, Unpin, Load, Evict, Synced, End}
use Rattle.dbuf_state.specs.declared.oid.Oid.{Oid}
use Rattle.dbuf_state.specs.declared.state.DbState.TheVariants as state
use Rattle.dbuf_state.specs.CellLog.{CellLog, fresh}
use Rattle.dbuf_state.specs.Dbufs.{dbuf_is}
use Rattle.dbuf_state.specs.Oids.{oid_eq}
use Rattle.dbuf_state.specs.Soundness.{IsSound}

-- ---- told by the events

-- whether the dbuf of the Oid keeps a hold behind an event, where it did so before it: a Load and a Synced say it of theirs, what is
-- written or evicted is let go, and the end lets all go
abbrev pub held_after : Oid → (before : Bool) → CellEvent → Bool
held_after at before (Get n b) = before
held_after at before (Put n b size fill) = if oid_eq at b then false else before
held_after at before (Patch n b from bytes) = if oid_eq at b then false else before
held_after at before (Pin n b) = before
held_after at before (Unpin n b) = before
held_after at before (Load n b held) = if oid_eq at b then held else before
held_after at before (Evict n b) = if oid_eq at b then false else before
held_after at before (Synced n b ptr held) = if oid_eq at b then held else before
held_after at before (End n) = false

abbrev pub held_since : Oid → (before : Bool) → List CellEvent → Bool
held_since at before [] = before
held_since at before (e ∷ es) = held_since at (held_after at before e) es

-- Since its opening, where no dbuf keeps a hold.
abbrev pub held_by : Oid → List CellEvent → Bool
held_by at es = held_since at false es

-- ---- so in a cell

module _ {H : Type 0} (is_held : H → Bool) where
  abbrev pub keeps_hold : Dbuf H → Bool
  keeps_hold d = option_map_or is_held d.kept false

  -- of each Oid the history tells whether its dbuf keeps a hold
  abbrev pub TellsHolds : CellLog H → Type 0
  TellsHolds c = (at : Oid) → dbuf_is keeps_hold at c.dbufs ≡ held_by at c.history

  -- What a cell is whenever its turn is free.
  pub record IsSoundCell (c : CellLog H) : Type 0 where
    pub sound : IsSound c
    pub tells : TellsHolds c

  -- a cell to which nothing was done but to map Oids tells it
  abbrev pub MappedTells : Type 0
  MappedTells = (c : CellLog H) → c.history ≡ [] → c.dbufs ≡ map (λ m. fresh m.at (Clean m.ptr) state.Uncached) c.opening → TellsHolds c
