-- When nothing that a trace asks for is out of place, over a pool of some length that tells its bytes; and that nothing is refused then.
use Rattle.std.specs.Prelude.{◌≡◌, ◌⊎◌, ℕ, ◌+◌, ◌^◌, ◌<◌, ◌≤◌, ◌==◌, ◌&&◌, Bool, true, false, if◌then◌else◌, List, [], ◌∷◌, ◌++◌, count_by, length, max, sum_by, take, Option, Some, None, IfSome, slice_get}
use Rattle.std.specs.List.{list_any}
use Rattle.std.specs.Option.{option_map_or}
use Rattle.blk_ptr.specs.declared.ptr.Ptr.{Ptr}
use Rattle.blk_ptr.specs.Key.{IsValid}
use Rattle.blk_ptr.specs.Ptr.{IsOf, range_of}
use Rattle.vdev_io.specs.declared.device.CacheDev.{Ghosts as Devices}
use Rattle.vdev_io.specs.declared.pool.Pool.{Ghosts}
use Rattle.vdev_io.specs.Faults.{Rose}
use Rattle.arc_table.specs.Ended.{Ended}
use Rattle.dbuf_state.specs.Oids.{oid_eq}
use Rattle.dbuf_state.specs.declared.oid.Oid.{Oid}
use Rattle.dbuf_state.specs.declared.state.Mapping.{Mapping}
use Rattle.dbuf_cells.specs.Places.{cell_of}
use Rattle.dbuf_cells.specs.Turns.{OnHeap}
use Rattle.trace_text.specs.Grammar.{IsFormed}
use Rattle.trace_text.specs.declared.op.Op.{Op}
use Rattle.trace_text.specs.declared.op.Op.TheVariants as ops
use Rattle.trace_text.specs.declared.report.Report.{Report}
use Rattle.trace_text.specs.declared.trace.Trace.{Trace}
use Rattle.trace_run.specs.declared.ran.Ending.{Ending}
use Rattle.trace_run.specs.Answers.{IsInside}
use Rattle.trace_run.specs.Openings.{opening_map}
use Rattle.trace_run.specs.Outcome.{HasRun}
use Rattle.trace_run.specs.callers.Together.{IsFirstPlace, ends_group}

-- ---- holds

-- the line keeps a read of this block for this caller; and it drops one
abbrev pub is_hold_of : (n x : ℕ) → Op → Bool
is_hold_of n x (ops.Hold m t y) = m == n && y == x
is_hold_of n x other = false

abbrev pub is_drop_of : (n x : ℕ) → Op → Bool
is_drop_of n x (ops.Drop m y) = m == n && y == x
is_drop_of n x other = false

-- ---- pins

-- the line takes a pin of this block for this caller; and it takes one back
abbrev pub is_pin_by : (n : ℕ) → Oid → Op → Bool
is_pin_by n at (ops.Pin m t b) = m == n && oid_eq at b
is_pin_by n at other = false

abbrev pub is_unpin_by : (n : ℕ) → Oid → Op → Bool
is_unpin_by n at (ops.Unpin m b) = m == n && oid_eq at b
is_unpin_by n at other = false

-- ---- blocks of objects

-- the pointer with which a block of an object begins, where an `object` line gives it one
abbrev pub opened_ptr : Oid → List Mapping → Option Ptr
opened_ptr at [] = None
opened_ptr at (m ∷ ms) = if oid_eq at m.at then Some m.ptr else opened_ptr at ms

abbrev pub begins_with : Trace → Oid → Option Ptr
begins_with trace at = opened_ptr at (opening_map trace (cell_of trace.config.cells at))

-- so many bytes are inside every size that the trace gives the block: that of its first pointer, and that of each line that writes it whole
pub record EndsInAll (trace : Trace) (at : Oid) (last : ℕ) : Type 0 where
  pub opened : IfSome (begins_with trace at) (λ ptr. last ≤ ptr.key.size)
  pub puts : (k n t size fill : ℕ) → slice_get trace.ops k ≡ Some (ops.Put n t at size fill) → last ≤ size

-- a line that ends a group stands between these two places
pub record EndsBetween (lines : List Op) (from to : ℕ) : Type 0 where
  pub place : ℕ
  pub op : Op
  pub line : slice_get lines place ≡ Some op
  pub ends : ends_group op ≡ true
  pub after : from < place
  pub before : place < to

-- A line before the place k writes the block whole, and the caller n finds that there in every order of the callers' work: the line is n's own, or an earlier group's.
pub record IsPutBefore (lines : List Op) (k n : ℕ) (at : Oid) : Type 0 where
  pub place : ℕ
  pub writer : ℕ
  pub tick : ℕ
  pub size : ℕ
  pub fill : ℕ
  pub line : slice_get lines place ≡ Some (ops.Put writer tick at size fill)
  pub before : place < k
  pub found : (writer ≡ n) ⊎ EndsBetween lines place k

-- ---- what a line asks for

-- the pointer's key names a block of the pool, and the bytes that the pool tells there are of the pointer
pub record IsReadable (pool_len : ℕ) (image : List ℕ) (ptr : Ptr) : Type 0 where
  pub valid : IsValid pool_len ptr.key
  pub of : IsOf (range_of image ptr.key) ptr

module _ (pool_len : ℕ) (image : List ℕ) (trace : Trace) where
  -- the caller finds the block of an object: it was written whole before, or it begins with a pointer that can be read
  abbrev pub IsFound : (k n : ℕ) → Oid → Type 0
  IsFound k n at = IsPutBefore trace.ops k n at ⊎ ((ptr : Ptr) × (begins_with trace at ≡ Some ptr) × IsReadable pool_len image ptr)

  -- The line at the place k has what it asks for, by the lines before it.
  abbrev pub HasItsOwn : (k : ℕ) → Op → Type 0
  HasItsOwn k (ops.Read n t x window) = IfSome (slice_get trace.blocks x) (λ ptr. IsReadable pool_len image ptr × IsInside window ptr.key.size)
  HasItsOwn k (ops.Hold n t x) = IfSome (slice_get trace.blocks x) (IsReadable pool_len image)
  HasItsOwn k (ops.Drop n x) = count_by (is_drop_of n x) (take k trace.ops) < count_by (is_hold_of n x) (take k trace.ops)
  HasItsOwn k (ops.Get n t at window) = IsFound k n at × EndsInAll trace at (window.at + window.len)
  HasItsOwn k (ops.Patch n t at from bytes) = IsFound k n at × EndsInAll trace at (from + length bytes)
  HasItsOwn k (ops.Pin n t at) = IsFound k n at
  HasItsOwn k (ops.Unpin n at) = count_by (is_unpin_by n at) (take k trace.ops) < count_by (is_pin_by n at) (take k trace.ops)
  HasItsOwn k (ops.Put n t at size fill) = Unit {0}
  HasItsOwn k ops.Feed = Unit {0}
  HasItsOwn k (ops.Txg t) = Unit {0}
  HasItsOwn k (ops.Cap c) = Unit {0}

-- ---- room for syncs

-- the block that the line writes, whole or in part
abbrev pub block_written : Op → Option Oid
block_written (ops.Put n t at size fill) = Some at
block_written (ops.Patch n t at from bytes) = Some at
block_written (ops.Read n t x window) = None
block_written (ops.Hold n t x) = None
block_written (ops.Drop n x) = None
block_written (ops.Get n t at window) = None
block_written (ops.Pin n t at) = None
block_written (ops.Unpin n at) = None
block_written ops.Feed = None
block_written (ops.Txg t) = None
block_written (ops.Cap c) = None

-- with this block, where there is one and it isn't among them
abbrev pub with_block : Option Oid → List Oid → List Oid
with_block None ats = ats
with_block (Some at) ats = if list_any (oid_eq at) ats then ats else (at ∷ ats)

-- the blocks that lines write, each once
abbrev pub blocks_written : List Op → List Oid
blocks_written [] = []
blocks_written (op ∷ os) = with_block (block_written op) (blocks_written os)

-- the line writes this block whole
abbrev pub is_put_to : Oid → Op → Bool
is_put_to at (ops.Put n t b size fill) = oid_eq at b
is_put_to at (ops.Patch n t b from bytes) = false
is_put_to at (ops.Read n t x window) = false
is_put_to at (ops.Hold n t x) = false
is_put_to at (ops.Drop n x) = false
is_put_to at (ops.Get n t b window) = false
is_put_to at (ops.Pin n t b) = false
is_put_to at (ops.Unpin n b) = false
is_put_to at ops.Feed = false
is_put_to at (ops.Txg t) = false
is_put_to at (ops.Cap c) = false

-- the size that the line gives the block, which it writes whole; or 0
abbrev pub size_put : Oid → Op → ℕ
size_put at (ops.Put n t b size fill) = if oid_eq at b then size else 0
size_put at (ops.Patch n t b from bytes) = 0
size_put at (ops.Read n t x window) = 0
size_put at (ops.Hold n t x) = 0
size_put at (ops.Drop n x) = 0
size_put at (ops.Get n t b window) = 0
size_put at (ops.Pin n t b) = 0
size_put at (ops.Unpin n b) = 0
size_put at ops.Feed = 0
size_put at (ops.Txg t) = 0
size_put at (ops.Cap c) = 0

-- the greatest that lines give it
abbrev pub greatest_put : Oid → List Op → ℕ
greatest_put at [] = 0
greatest_put at (op ∷ os) = max (size_put at op) (greatest_put at os)

-- and with that of its first pointer
abbrev pub greatest_size : Trace → List Op → Oid → ℕ
greatest_size trace os at = max (option_map_or (λ (ptr : Ptr). ptr.key.size) (begins_with trace at) 0) (greatest_put at os)

-- The most bytes that a sync may write of a block, whatever the order of the callers' work: where lines since the sync before it write the block whole, it has a size that they give it; else one that it
-- had before them.
abbrev pub size_needed : Trace → (before since : List Op) → Oid → ℕ
size_needed trace before since at = if list_any (is_put_to at) since then greatest_put at since else greatest_size trace before at

-- as many bytes as a sync of what the lines since write may need
abbrev pub room_for : Trace → (before since : List Op) → ℕ
room_for trace before since = sum_by (size_needed trace before since) (blocks_written since)

-- Each sync of the lines that are left has room from this place of the pool on. Behind the lines before stands the last sync, or none, and behind that the lines since. The next sync writes behind it.
abbrev pub HaveRoom : Trace → (pool_len place : ℕ) → (before since left : List Op) → Type 0
HaveRoom trace pool_len place before since [] = Unit {0}
HaveRoom trace pool_len place before since (ops.Txg t ∷ left) =
    (place + room_for trace before since ≤ pool_len) × HaveRoom trace pool_len (place + room_for trace before since) (before ++ since) [] left
HaveRoom trace pool_len place before since (ops.Read n t x window ∷ left) = HaveRoom trace pool_len place before (since ++ ops.Read n t x window ∷ []) left
HaveRoom trace pool_len place before since (ops.Hold n t x ∷ left) = HaveRoom trace pool_len place before (since ++ ops.Hold n t x ∷ []) left
HaveRoom trace pool_len place before since (ops.Drop n x ∷ left) = HaveRoom trace pool_len place before (since ++ ops.Drop n x ∷ []) left
HaveRoom trace pool_len place before since (ops.Get n t at window ∷ left) = HaveRoom trace pool_len place before (since ++ ops.Get n t at window ∷ []) left
HaveRoom trace pool_len place before since (ops.Put n t at size fill ∷ left) = HaveRoom trace pool_len place before (since ++ ops.Put n t at size fill ∷ []) left
HaveRoom trace pool_len place before since (ops.Patch n t at from bytes ∷ left) = HaveRoom trace pool_len place before (since ++ ops.Patch n t at from bytes ∷ []) left
HaveRoom trace pool_len place before since (ops.Pin n t at ∷ left) = HaveRoom trace pool_len place before (since ++ ops.Pin n t at ∷ []) left
HaveRoom trace pool_len place before since (ops.Unpin n at ∷ left) = HaveRoom trace pool_len place before (since ++ ops.Unpin n at ∷ []) left
HaveRoom trace pool_len place before since (ops.Feed ∷ left) = HaveRoom trace pool_len place before (since ++ ops.Feed ∷ []) left
HaveRoom trace pool_len place before since (ops.Cap c ∷ left) = HaveRoom trace pool_len place before (since ++ ops.Cap c ∷ []) left

-- Each line has what it asks for, and each sync has room behind all declared blocks.
pub record IsInPlace (pool_len : ℕ) (image : List ℕ) (trace : Trace) : Type 0 where
  pub lines : (k : ℕ) (op : Op) → slice_get trace.ops k ≡ Some op → HasItsOwn pool_len image trace k op
  pub room : (place : ℕ) → IsFirstPlace pool_len trace.blocks place → HaveRoom trace pool_len place [] [] trace.ops

-- Where nothing is out of place, and the pool's count of faults does not rise, each line is answered, and no reply is a refusal. The cache device may fail
-- and have any bytes. (A run to which memory was refused has no report.)
abbrev pub RefusesNothing : {P D : Type 0} → Ghosts P → Devices D → Type 0
RefusesNothing {P} {D} pool device = (before after : P) (lent back : Option D) (trace : Trace) (ending : Ending) (closed : Ended OnHeap) (report : Report) (image : List ℕ)
    → HasRun pool device before after lent back trace ending closed report → IsFormed trace → pool.told before ≡ Some image → IsInPlace (pool.size before) image trace
    → pool.faults before < 2 ^ 63 → (Rose (pool.faults before) (pool.faults after) → ⊥) → (report.status ≡ 0) × (length report.replies ≡ length trace.ops)
