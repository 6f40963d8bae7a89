-- How far a scan has come, as the code keeps it. No public clause cites this module.
use Rattle.std.specs.Prelude.{◌≡◌, ℕ, ◌+◌, ◌-◌, ◌^◌, ◌<◌, Bool, true, false, if◌then◌else◌, nat_lt, List, ◌++◌, not, find, length, Option, Some, None}
use Rattle.std.specs.Option.{option_map_or}
use Rattle.blk_ptr.specs.declared.key.Key.{Key}
use Rattle.blk_ptr.specs.declared.state.State.{State}
use Rattle.blk_ptr.specs.declared.state.State.TheVariants.{Anon, Mru, MruGhost, Mfu, MfuGhost, L2Only}
use Rattle.blk_ptr.specs.Order.{key_eq}
use Rattle.arc_lists.specs.Room.{or_else}
use Rattle.arc_lists.specs.Sequences.{stands_on}
use Rattle.arc_core.specs.declared.table.scan.Kind.{Kind}
use Rattle.arc_core.specs.declared.table.scan.Scan.{Scan}
use Rattle.arc_lists.specs.Walks.{first_of, next_to}
use Rattle.arc_core.specs.PlainShard.{PlainShard, size_in}
use Rattle.arc_core.specs.Rules as Rules
use Rattle.arc_core.specs.Scan.{PlainKind, from_next, going_but, kind_in}
use Rattle.arc_core.specs.Sound.{IsTidy}

-- the two are one key, or neither is there
abbrev pub is_same_key : Option Key → Option Key → Bool
is_same_key None None = true
is_same_key (Some a) (Some b) = key_eq a b
is_same_key _ _ = false

-- there is a key, and it is this one
abbrev pub is_at : Option Key → Key → Bool
is_at at k = option_map_or (λ h. key_eq h k) at false

-- the ghost that is dropped next: one that was a ghost before, and else one that was evicted
abbrev pub oldest_ghost : Kind → Option Key
oldest_ghost x = or_else x.old_ghost (if is_same_key x.evicted x.next then None else x.evicted)

abbrev pub evicted_by : (z : ℕ) → Scan → Option Key
evicted_by z x =
    if nat_lt x.c (x.anon + x.mru.size + x.mfu.size + z)
    then or_else (if nat_lt x.p (x.anon + x.mru.size) then x.mru.next else None) (or_else x.mfu.next x.mru.next)
    else None

abbrev pub dropped_by : Scan → Option Key
dropped_by x =
    or_else
    (if nat_lt x.c (x.mru.size + x.mru.ghost_size) then oldest_ghost x.mru else None)
    (if nat_lt x.c (x.mru.ghost_size + x.mfu.ghost_size) then oldest_ghost x.mfu else None)

-- ---- what a cursor stands for, over the keys that may go as they were when the scan began

-- the cursor of a kind, where nothing is evicted or dropped yet
abbrev pub kind_at : Option Key → (state ghost : State) → PlainShard → Kind
kind_at about state ghost s = record {
  next = first_of (going_but about state s);
  old_ghost = first_of (going_but about ghost s);
  evicted = first_of (going_but about state s);
  size = size_in state s;
  ghost_size = size_in ghost s;
}

-- and a whole scan
abbrev pub scan_at : Option Key → (c p : ℕ) → PlainShard → Scan
scan_at about c p s = record { mru = kind_at about Mru MruGhost s; mfu = kind_at about Mfu MfuGhost s; anon = size_in Anon s; c = c; p = p }

-- the size that a scan has of a state
abbrev pub size_by : State → Scan → ℕ
size_by Anon x = x.anon
size_by Mru x = x.mru.size
size_by MruGhost x = x.mru.ghost_size
size_by Mfu x = x.mfu.size
size_by MfuGhost x = x.mfu.ghost_size
size_by L2Only x = 2 ^ 64

abbrev pub with_size : State → ℕ → Scan → Scan
with_size Anon size x = record x { anon = size }
with_size Mru size x = record x { mru = record x.mru { size = size } }
with_size MruGhost size x = record x { mru = record x.mru { ghost_size = size } }
with_size Mfu size x = record x { mfu = record x.mfu { size = size } }
with_size MfuGhost size x = record x { mfu = record x.mfu { ghost_size = size } }
with_size L2Only size x = x

-- the cursor behind an eviction, and behind a drop
abbrev pub behind_evicted : Key → (keys : List Key) → Kind → Kind
behind_evicted k keys x = record x { next = next_to k keys; size = x.size - k.size; ghost_size = x.ghost_size + k.size }

abbrev pub behind_dropped : Key → (keys ghosts : List Key) → Kind → Kind
behind_dropped k keys ghosts x =
    option_map_or
    (λ g. record x { old_ghost = next_to k ghosts; ghost_size = x.ghost_size - k.size })
    x.old_ghost
    (record x { evicted = next_to k keys; ghost_size = x.ghost_size - k.size })

-- the cursor stands where this kind does
pub record IsKindOf (keys ghosts : List Key) (x : Kind) (v : PlainKind) : Type 0 where
  -- what was evicted and not dropped, the oldest first
  pub gone : List Key
  pub next : v.keys ≡ from_next x.next keys
  pub line : from_next x.evicted keys ≡ gone ++ from_next x.next keys
  pub old : v.ghosts ≡ from_next x.old_ghost ghosts ++ gone
  pub size : x.size ≡ v.size
  pub ghost_size : x.ghost_size ≡ v.ghost_size
  pub next_on : (k : Key) → x.next ≡ Some k → stands_on k keys ≡ true
  pub evicted_on : (k : Key) → x.evicted ≡ Some k → stands_on k keys ≡ true
  pub old_on : (k : Key) → x.old_ghost ≡ Some k → stands_on k ghosts ≡ true

-- the scan of a shard stands where this other shard does
pub record IsScanOf (about : Option Key) (s : PlainShard) (x : Scan) (t : PlainShard) : Type 0 where
  pub tidy : IsTidy t
  pub few : length t.entries < 2 ^ 65
  pub mru : IsKindOf (going_but about Mru s) (going_but about MruGhost s) x.mru (kind_in Mru MruGhost t)
  pub mfu : IsKindOf (going_but about Mfu s) (going_but about MfuGhost s) x.mfu (kind_in Mfu MfuGhost t)
  pub anon : x.anon ≡ size_in Anon t
  pub c : x.c ≡ t.c
  pub p : x.p ≡ t.p

-- there is a shard where the scan stands, and this is the key that it evicts next, or drops next
pub record CanEvict (about : Option Key) (s : PlainShard) (x : Scan) (k : Key) : Type 0 where
  pub at : PlainShard
  pub z : ℕ
  pub scan : IsScanOf about s x at
  pub next : Rules.next_evicted z at ≡ Some k

pub record CanDrop (about : Option Key) (s : PlainShard) (x : Scan) (k : Key) : Type 0 where
  pub at : PlainShard
  pub scan : IsScanOf about s x at
  pub next : Rules.next_dropped at ≡ Some k

-- ---- a scan that goes on as far as the keys are marked

-- the first of these that isn't marked
abbrev pub first_unmarked : (marked : List Key) → List Key → Option Key
first_unmarked marked = find (λ k. not (stands_on k marked))
