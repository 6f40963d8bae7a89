-- Which dbufs are evicted (dbuf_evict_one of dbuf.c takes the one that was used longest ago): behind a legal history at most one is next, and so what is evicted follows from what is there.
use Rattle.std.specs.Prelude.{◌≡◌, ℕ, true, not, IsTrue, List, map}
use Rattle.dbuf_state.specs.History.{Leads}
use Rattle.dbuf_state.specs.Objects.{PlainCell, is_due, must_evict, opening_cell, standings}
use Rattle.dbuf_state.specs.Outline.{outline_of}
use Rattle.dbuf_state.specs.Standings.{is_evictable}
use Rattle.dbuf_state.specs.declared.event.CellEvent.{CellEvent}
use Rattle.dbuf_state.specs.declared.event.CellEvent.TheVariants.{Evict}
use Rattle.dbuf_state.specs.declared.oid.Oid.{Oid}
use Rattle.dbuf_state.specs.declared.state.Mapping.{Mapping}

-- behind a legal history at most one dbuf is the one to evict, since each use has a number of its own
abbrev pub IsDueOne : Type 0
IsDueOne = (limit : ℕ) (opening : List Mapping) (es : List CellEvent) (bases : List (List ℕ)) (c : PlainCell) (a b : Oid) → Leads (opening_cell limit opening) es bases c
    → IsTrue (is_evictable c.limit a (standings c)) → IsTrue (is_evictable c.limit b (standings c)) → a ≡ b

-- Two legal histories that go on from states of one outline by evictions alone, to states in which none is due, evict the same dbufs. The states may differ in the bytes of dirty blocks.
abbrev pub AreEvictionsOne : Type 0
AreEvictionsOne = (limit : ℕ) (opening : List Mapping) (es : List CellEvent) (bases : List (List ℕ)) (c d : PlainCell) → Leads (opening_cell limit opening) es bases c → outline_of d ≡ outline_of c
    → must_evict c.evicting ≡ true → (n : ℕ) (xs ys : List Oid) (us vs : List (List ℕ)) (c_end d_end : PlainCell) → Leads c (map (Evict n) xs) us c_end → Leads d (map (Evict n) ys) vs d_end
    → IsTrue (not (is_due c_end)) → IsTrue (not (is_due d_end)) → ys ≡ xs
