-- What a rebuild finds: the valid entries of the chain, of each key the newest.
use Rattle.std.specs.Prelude.{◌≡◌, ◌≢◌, ℕ, ◌+◌, ◌⊎◌, ◌&&◌, nat_le, List, [], ◌∷◌, Bool, not, take, map, reverse}
use Rattle.std.specs.List.{filter, flat_map}
use Rattle.blk_ptr.specs.Order.{key_eq}
use Rattle.l2_log.specs.Rules.{header_len}
use Rattle.l2_log.specs.HeaderBytes.{IsHeader, IsFirstRefusal}
use Rattle.l2_log.specs.declared.entry.LogEntry.{LogEntry}
use Rattle.l2_log.specs.declared.header.DevHeader.{DevHeader}
use Rattle.l2_log.specs.declared.fault.LogFault.{LogFault}
use Rattle.l2_log.specs.declared.fault.LogFault.TheVariants as fault
use Rattle.l2_ring.specs.declared.live.Written.{Written}
use Rattle.l2_ring.specs.declared.plan.Plan.{Plan}
use Rattle.l2_ring.specs.Stays.{stays}
use Rattle.arc_core.specs.declared.served.Restored.{Restored}
use Rattle.l2_dev.specs.declared.stop.Stop.{Stop}
use Rattle.l2_dev.specs.declared.stop.Stop.TheVariants as stop
use Rattle.l2_dev.specs.Chain.{Visit, IsChain, numbers_in}

-- what an entry of a log block of this lap tells of
abbrev pub written_in : ℕ → LogEntry → Written
written_in lap entry = record { live = record { key = entry.key; place = entry.place; digest = entry.digest }; lap = lap }

-- what a log block tells of, from the last entry to the first
abbrev pub told_by : Visit → List Written
told_by visit = map (written_in visit.block.lap) (reverse visit.block.entries)

-- by the lap that it shares with its log block its range lies in the same part of the ring, and the log block stands behind it
abbrev pub is_valid : Plan → ℕ → Written → Bool
is_valid numbers place written = stays numbers written && nat_le (written.live.place + written.live.key.size) place

-- the valid entries of a log block, from the last to the first
abbrev pub valid_of : Plan → Visit → List Written
valid_of numbers visit = filter (is_valid numbers visit.ptr.place) (told_by visit)

-- the valid entries of log blocks, in the order in which these are walked
abbrev pub found_in : Plan → List Visit → List Written
found_in numbers visits = flat_map (valid_of numbers) visits

-- the two are of one key
abbrev pub is_same_key : Written → Written → Bool
is_same_key a b = key_eq a.live.key b.live.key

-- the entries whose key no earlier one has
abbrev pub firsts : List Written → List Written
firsts [] = []
firsts (written ∷ rest) = written ∷ filter (λ other. not (is_same_key other written)) (firsts rest)

-- the entry as it is told
abbrev pub restored_of : Written → Restored
restored_of written = record { key = written.live.key; place = written.live.place; digest = written.live.digest }

-- what is restored of these log blocks
abbrev pub restored_from : Plan → List Visit → List Restored
restored_from numbers visits = map restored_of (firsts (found_in numbers visits))

-- the first sector of an image
abbrev pub first_sector : List ℕ → List ℕ
first_sector image = take header_len image

-- the sector is this header, of a device whose ring ends here
pub record IsHeaderOf (end : ℕ) (sector : List ℕ) (header : DevHeader) : Type 0 where
  pub bytes : IsHeader sector header
  pub ends : header.end ≡ end

-- the sector is refused with this fault: as no header, or as one of a device of another length
abbrev pub IsRefused : ℕ → List ℕ → LogFault → Type 0
IsRefused end sector refusal =
    IsFirstRefusal sector refusal
    ⊎ ((refusal ≡ fault.Field 24) × (header : DevHeader) × IsHeader sector header × (header.end ≢ end))

-- no header was found, since the first sector is none of this device, or could not be read
abbrev pub IsUnread : ℕ → List ℕ → Stop → Type 0
IsUnread end image why =
    (why ≡ stop.DevFault) ⊎ ((refusal : LogFault) × (why ≡ stop.Header refusal) × IsRefused end (first_sector image) refusal)

-- so nothing was restored
abbrev pub IsBare : ℕ → List ℕ → List Restored → Stop → Type 0
IsBare end image restored why = (restored ≡ []) × IsUnread end image why

-- this was restored along the chain of the header
pub record IsWalked (end : ℕ) (image : List ℕ) (header : DevHeader) (visits : List Visit) (restored : List Restored) (why : Stop) : Type 0 where
  pub named : IsHeaderOf end (first_sector image) header
  pub chain : IsChain image header visits why
  pub list : restored ≡ restored_from (numbers_in header) visits

-- a rebuild of the image restores this, and stops so
abbrev pub IsRebuilt : ℕ → List ℕ → List Restored → Stop → Type 0
IsRebuilt end image restored why =
    IsBare end image restored why
    ⊎ ((header : DevHeader) × (visits : List Visit) × IsWalked end image header visits restored why)
