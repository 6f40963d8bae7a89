-- Where the walk of a feed stands, as the code keeps it. No public clause cites this module.
use Rattle.std.specs.Prelude.{◌≡◌, ℕ, ◌*◌, ◌≤◌, Bool, true, false, IsTrue, reverse, Option, Some, None}
use Rattle.blk_ptr.specs.declared.key.Key.{Key}
use Rattle.blk_ptr.specs.declared.state.State.{State}
use Rattle.blk_ptr.specs.declared.state.State.TheVariants.{Mru, Mfu}
use Rattle.arc_lists.specs.Room.{or_else}
use Rattle.arc_lists.specs.Sequences.{stands_on}
use Rattle.arc_lists.specs.Walks.{oldest_first}
use Rattle.arc_core.specs.declared.table.walk.Walk.{Walk}
use Rattle.arc_core.specs.Candidate.{may_be_picked, walk}
use Rattle.arc_core.specs.PlainShard.{PlainShard}
use Rattle.arc_core.specs.Scan.{from_next}

-- how many bytes each walk may meet
abbrev pub limit_of : PlainShard → ℕ
limit_of s = s.bounds.write_max * s.bounds.headroom

-- the feed may pick what is wanted
abbrev pub Wants : PlainShard → (Key → Bool) → Type 0
Wants s wanted = (k : Key) → wanted k ≡ true → may_be_picked s k ≡ true

-- the first that is wanted, on MFU and else on MRU
abbrev pub chosen_by : PlainShard → (Key → Bool) → Option Key
chosen_by s wanted = or_else (walk (limit_of s) 0 wanted (reverse s.sequences.mfu)) (walk (limit_of s) 0 wanted (reverse s.sequences.mru))

-- the same, from where a walk stands on
abbrev pub chosen_from : PlainShard → (on_mru : Bool) → (met : ℕ) → (next : Option Key) → (Key → Bool) → Option Key
chosen_from s true met next wanted = walk (limit_of s) met wanted (from_next next (reverse s.sequences.mru))
chosen_from s false met next wanted =
    or_else (walk (limit_of s) met wanted (from_next next (reverse s.sequences.mfu))) (walk (limit_of s) 0 wanted (reverse s.sequences.mru))

-- the state over whose sequence it walks
abbrev pub walked_state : (on_mru : Bool) → State
walked_state true = Mru
walked_state false = Mfu

abbrev pub walk_at : (on_mru : Bool) → (met : ℕ) → (next : Option Key) → Walk
walk_at on_mru met next = record { on_mru = on_mru; met = met; next = next }

-- Nothing that the walk has left behind may be picked: whatever of what may be picked is wanted, it is chosen from here on. So the walk
-- stands still as more is picked and passed.
pub record IsWalkOf (s : PlainShard) (w : Walk) : Type 0 where
  pub within : w.met ≤ limit_of s
  pub stands : (k : Key) → w.next ≡ Some k → IsTrue (stands_on k (oldest_first (walked_state w.on_mru) s.sequences))
  pub rest : (wanted : Key → Bool) → Wants s wanted → chosen_by s wanted ≡ chosen_from s w.on_mru w.met w.next wanted

-- a walk, if it has begun
abbrev pub IsWalk : PlainShard → Option Walk → Type 0
IsWalk s None = Unit {0}
IsWalk s (Some w) = IsWalkOf s w
