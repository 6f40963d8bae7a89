-- What the fields of a cell mean, and what they keep.
use Rattle.std.specs.Prelude.{◌≡◌, ℕ, ◌+◌, ◌≤◌, IsTrue, List, map, vec_len, vec_capacity}
use Rattle.std.specs.List.{AllByRecursion}
use Rattle.indexmap.specs.IndexSet.{spare}
use Rattle.blk_ptr.specs.declared.key.Key.{Key}
use Rattle.dbuf_state.specs.declared.cell.Cell.TheInside.{Inside}
use Rattle.dbuf_state.specs.CellLog.{CellLog}
use Rattle.dbuf_state.specs.Dbufs.{IsFit, dbuf_oid, standing_of}
use Rattle.dbuf_state.specs.Oids.{is_distinct}

module _ {H : Type 0} where
  abbrev pub log_in : Inside H → CellLog H
  log_in c = record {
    limit = c.limit;
    opening = c.opening.items;
    dbufs = c.dbufs.items;
    history = c.history.events;
    dbuf_room = c.spare_dbufs;
    event_room = c.history.room;
  }

  pub record CellKeeps (key_of : H → Key) (bytes_of : H → List ℕ) (c : Inside H) : Type 0 where
    -- no two dbufs have one Oid; the names and the index have the dbufs in their order
    pub names : c.names.keys ≡ map dbuf_oid c.dbufs.items
    pub once : IsTrue (is_distinct dbuf_oid c.dbufs.items)
    pub index : c.index.standings ≡ map standing_of c.dbufs.items
    pub fit : AllByRecursion (IsFit key_of bytes_of) c.dbufs.items
    -- there is room for so many more dbufs
    pub names_room : c.spare_dbufs ≤ spare c.names
    pub index_room : c.spare_dbufs ≤ c.index.spare
    pub dbufs_room : vec_len c.dbufs + c.spare_dbufs ≤ vec_capacity c.dbufs
