-- What a sound shard is: facts that every event keeps.
use Rattle.std.specs.Prelude.{◌≡◌, ◌-◌, ◌≤◌, Bool, true, false, not, ◌&&◌, ◌||◌, ◌==◌, IsTrue, List, [], ◌∷◌, length, is_some, is_none}
use Rattle.std.specs.List.{AllByRecursion, list_all}
use Rattle.blk_ptr.specs.declared.key.Key.{Key}
use Rattle.blk_ptr.specs.declared.state.State.{State}
use Rattle.blk_ptr.specs.declared.state.State.TheVariants.{Anon, Mru, MruGhost, Mfu, MfuGhost, L2Only}
use Rattle.blk_ptr.specs.Key.{is_well_formed}
use Rattle.blk_ptr.specs.State.{is_same_state}
use Rattle.arc_lists.specs.Adapting.{least_target}
use Rattle.arc_lists.specs.ByKey.{IsRising}
use Rattle.arc_lists.specs.Sequences.{is_distinct, sequence_of, stands, stands_on}
use Rattle.arc_core.specs.declared.entry.Entry.{Entry}
use Rattle.arc_core.specs.declared.entry.Picked.{Picked}
use Rattle.arc_core.specs.declared.entry.Phase.{Phase}
use Rattle.arc_core.specs.declared.entry.Phase.TheVariants.{Idle, Picking, Writing}
use Rattle.arc_core.specs.PlainShard.{PlainShard, entry_key, entry_is, holds_of, is_at_rest, is_unheld, numbers}
use Rattle.arc_core.specs.Changes.{pick_of}

-- ---- an entry by itself

-- what may be known of an entry in its state: an anonymous one is being read; an MRU entry is at rest and has a digest; an MFU entry
-- too, unless it is being read; nobody holds or reads a ghost, which has a digest, nor an L2-only entry, which has a place
abbrev pub fits_state : State → Entry → Bool
fits_state Anon e = e.reading
fits_state Mru e = is_at_rest e && is_some e.digest
fits_state Mfu e = e.reading || is_some e.digest
fits_state MruGhost e = is_at_rest e && (is_unheld e && is_some e.digest)
fits_state MfuGhost e = is_at_rest e && (is_unheld e && is_some e.digest)
fits_state L2Only e = is_at_rest e && (is_unheld e && is_some e.place)

-- an entry that is being read has one hold in all and no digest
abbrev pub fits_reading : Entry → Bool
fits_reading e = is_at_rest e || (holds_of e == 1 && is_none e.digest)

pub record IsSoundEntry (e : Entry) : Type 0 where
  pub key : IsTrue (is_well_formed e.key)
  pub state : IsTrue (fits_state e.state e)
  pub reading : IsTrue (fits_reading e)
  pub numbers : length e.holds ≡ numbers

-- ---- the sequences

-- it has this state and no hold
abbrev pub belongs_on : State → Entry → Bool
belongs_on state e = is_unheld e && is_same_state e.state state

-- the sequence of a state: no key stands twice, and a key stands on it exactly where its entry has that state and no hold
pub record IsSequence (state : State) (s : PlainShard) : Type 0 where
  pub once : IsTrue (is_distinct (sequence_of state s.sequences))
  pub exact : (k : Key) → stands_on k (sequence_of state s.sequences) ≡ entry_is (belongs_on state) k s

-- ---- the feed

-- there is no pick exactly where there is no feed
abbrev pub fits_phase : Phase → List Picked → Bool
fits_phase Idle [] = true
fits_phase Picking (pick ∷ picks) = true
fits_phase Writing (pick ∷ picks) = true
fits_phase _ _ = false

-- no key is picked twice
abbrev pub are_distinct_picks : List Picked → Bool
are_distinct_picks [] = true
are_distinct_picks (pick ∷ picks) = not (is_some (pick_of pick.key picks)) && are_distinct_picks picks

-- ---- the shard

-- the entries and the sequences fit together
pub record IsTidy (s : PlainShard) : Type 0 where
  -- each key has one entry, and each entry is sound
  pub once : IsRising entry_key s.entries
  pub entries : AllByRecursion IsSoundEntry s.entries
  -- the sequence of a state has each of its entries that nobody holds, once, and no other key
  pub mru : IsSequence Mru s
  pub mru_ghost : IsSequence MruGhost s
  pub mfu : IsSequence Mfu s
  pub mfu_ghost : IsSequence MfuGhost s

pub record IsSound (s : PlainShard) : Type 0 where
  pub tidy : IsTidy s
  -- the target is at least c / 16 and at most c less that (arc_p_min_shift)
  pub target_low : least_target s.c ≤ s.p
  pub target_high : s.p ≤ s.c - least_target s.c
  -- the picked list is empty exactly where there is no feed, and its keys are distinct
  pub feed : IsTrue (fits_phase s.phase s.picked)
  pub picks : IsTrue (are_distinct_picks s.picked)
  -- every passed key stands on a sequence
  pub passed : IsTrue (list_all (λ k. stands k s.sequences) s.passed)
