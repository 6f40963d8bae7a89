-- What a cell is whenever its turn is free: the replay of its history.
use Rattle.std.specs.Prelude.{◌≡◌, ℕ, ◌++◌, if◌then◌else◌, not, Bool, IsTrue, List, [], ◌∷◌, length, map, Option, Some, None, is_some}
use Rattle.std.specs.List.{AllByRecursion, list_all}
use Rattle.blk_ptr.specs.Ptr.{sha256_of}
use Rattle.blk_ptr.specs.declared.key.Key.{Key}
use Rattle.blk_ptr.specs.declared.ptr.Ptr.{Ptr}
use Rattle.dbuf_state.specs.declared.dbuf.Dbuf.{Dbuf}
use Rattle.dbuf_state.specs.CellLog.{CellLog}
use Rattle.dbuf_state.specs.Dbufs.{is_cached, is_clean_in, is_passing, plain_dbuf}
use Rattle.dbuf_state.specs.History.{IsHistory}
use Rattle.dbuf_state.specs.Objects.{Evicting, PlainCell}

module _ {H : Type 0} where
  -- the plain cell of a cell's map, dbufs, pins and last uses
  abbrev pub plain_cell : Evicting → CellLog H → PlainCell
  plain_cell evicting c = record { limit = c.limit; dbufs = map plain_dbuf c.dbufs; events = length c.history; evicting = evicting }

  -- it keeps a block exactly where it is clean and cached
  abbrev pub KeepsWhereCached : Dbuf H → Type 0
  KeepsWhereCached d = is_some d.kept ≡ is_clean_in is_cached d

  pub record IsSound (c : CellLog H) : Type 0 where
    pub evicting : Evicting
    -- the history is legal from the opening, with these bases of its patches, and leads to the map, the dbufs, the pins and the last uses
    -- that are there
    pub bases : List (List ℕ)
    pub history : IsHistory c.limit c.opening c.history bases (plain_cell evicting c)
    -- no dbuf is being filled or evicted, and each keeps a block exactly where it is clean and cached
    pub at_rest : IsTrue (list_all (λ d. not (is_passing d.state)) c.dbufs)
    pub fit : AllByRecursion KeepsWhereCached c.dbufs

  module _ (key_of : H → Key) (bytes_of : H → List ℕ) (is_held : H → Bool) where
    -- the hold that is kept, with its block's digest
    abbrev pub hold_in : Option H → List Ptr
    hold_in None = []
    hold_in (Some kept) = if is_held kept then (record { key = key_of kept; digest = sha256_of (bytes_of kept) } ∷ []) else []

    -- the holds that the dbufs keep
    abbrev pub holds_in : List (Dbuf H) → List Ptr
    holds_in [] = []
    holds_in (d ∷ ds) = hold_in d.kept ++ holds_in ds
