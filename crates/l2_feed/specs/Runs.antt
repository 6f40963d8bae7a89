-- How the picked blocks of one shard are written: in runs, each with its log block behind it, and how their keys are settled.
use Rattle.std.specs.Prelude.{◌≡◌, ◌⊎◌, ℕ, zero, suc, ◌+◌, ◌-◌, ◌*◌, ◌/◌, ◌<◌, List, [], ◌∷◌, ◌++◌, length, map, sum_by, take, drop, true, IsTrue, Option, Some}
use Rattle.std.specs.List.{AllByRecursion}
use Rattle.blk_ptr.specs.Key.{is_well_formed}
use Rattle.blk_ptr.specs.Ptr.{sha256_of}
use Rattle.arc_core.specs.declared.event.Why.{Why}
use Rattle.arc_core.specs.declared.event.Why.TheVariants as why
use Rattle.arc_table.specs.declared.picks.Picked.{Picked as Block}
use Rattle.l2_log.specs.declared.log_block.LogBlock.{LogBlock}
use Rattle.l2_log.specs.declared.pointer.LogPtr.{LogPtr}
use Rattle.l2_log.specs.Bytes.{AreBytes}
use Rattle.l2_log.specs.LogBytes.{IsLogBlock}
use Rattle.l2_log.specs.Rules.{log_len, most_with}
use Rattle.l2_ring.specs.declared.live.Live.{Live}
use Rattle.l2_ring.specs.declared.live.Written.{Written}
use Rattle.l2_dev.specs.Cursor.{CursorState}
use Rattle.l2_dev.specs.Restoring.{written_in}
use Rattle.l2_feed.specs.Acts.{Act, Absent, Cleared, Left, Placed, Refused}

-- the bytes of blocks
abbrev pub bytes_of : List Block → ℕ
bytes_of blocks = sum_by (λ b. b.key.size) blocks

-- the most blocks of one run: as many as one log block tells of
abbrev pub most : ℕ
most = most_with true

-- how many runs so many blocks are written in: all but the last are full
abbrev pub runs_of : (blocks : ℕ) → ℕ
runs_of blocks = (blocks + (most - 1)) / most

-- the bytes that a batch takes of the ring: those of its blocks, and a log block for each started run
abbrev pub batch_len : List Block → ℕ
batch_len blocks = bytes_of blocks + log_len * runs_of (length blocks)

-- the entries of blocks that lie side by side from this place on, each with the digest of its bytes, written in this lap
abbrev pub row_of : (lap place : ℕ) → List Block → List Written
row_of lap place [] = []
row_of lap place (b ∷ bs) = record { live = record { key = b.key; place = place; digest = Some (sha256_of b.block.value) }; lap = lap } ∷ row_of lap (place + b.key.size) bs

-- where the run of this number lies, if the first one lies at the hand: the runs before it are full, and each has its log block behind it
abbrev pub run_place : (hand number : ℕ) → List Block → ℕ
run_place hand number blocks = hand + (bytes_of (take (number * most) blocks) + log_len * number)

-- the pointer to the log block of a run that lies at this place, in the lap of this number: it tells of the run's entries, stands behind them, and goes on at the log block
-- before the last one
pub record IsLogOf (number at : ℕ) (second : Option LogPtr) (run : List Block) (ptr : LogPtr) : Type 0 where
  pub bytes : List ℕ
  pub block : LogBlock
  pub written : IsLogBlock bytes block
  pub are_bytes : AreBytes bytes
  pub version : block.version ≡ 2
  pub lap : block.lap ≡ number
  pub prev : block.prev ≡ second
  pub entries : map (written_in number) block.entries ≡ row_of number at run
  pub place : ptr.place ≡ at + bytes_of run
  pub count : ptr.count ≡ length run
  pub digest : ptr.digest ≡ sha256_of bytes

-- each block has the size of its key, whose numbers are in their ranges
abbrev pub AreWhole : List Block → Type 0
AreWhole = AllByRecursion (λ b. IsTrue (is_well_formed b.key) × (length b.block.value ≡ b.key.size))

-- these blocks were put side by side at the hand, and are pending
pub record HasPut (run : List Block) (old new : CursorState) : Type 0 where
  pub end : new.ring.end ≡ old.ring.end
  pub evict : new.ring.evict ≡ old.ring.evict
  pub top : new.ring.top ≡ old.ring.top
  pub lap : new.ring.lap ≡ old.ring.lap
  pub hand : new.ring.hand ≡ old.ring.hand + bytes_of run
  pub live : new.ring.live ≡ old.ring.live
  pub base : new.base ≡ old.base
  pub newest : new.newest ≡ old.newest
  pub second : new.second ≡ old.second
  pub many : length new.pending ≡ length run
  pub pending : map (written_in old.ring.lap) new.pending ≡ row_of old.ring.lap old.ring.hand run
  pub ready : new.ready ≡ true

-- a run was committed: its blocks lie at the hand, its log block stands behind them and is the newest one, and its entries are live
pub record HasWritten (run : List Block) (old new : CursorState) : Type 0 where
  pub end : new.ring.end ≡ old.ring.end
  pub evict : new.ring.evict ≡ old.ring.evict
  pub top : new.ring.top ≡ old.ring.top
  pub lap : new.ring.lap ≡ old.ring.lap
  pub hand : new.ring.hand ≡ old.ring.hand + (bytes_of run + log_len)
  pub live : new.ring.live ≡ old.ring.live ++ row_of old.ring.lap old.ring.hand run
  pub base : new.base ≡ new.ring.hand
  pub ptr : LogPtr
  pub log : IsLogOf old.ring.lap old.ring.hand old.second run ptr
  pub newest : new.newest ≡ Some ptr
  pub second : new.second ≡ old.newest
  pub pending : new.pending ≡ []
  pub ready : new.ready ≡ true

-- The keys of blocks that lie side by side from this place on were settled in their order: each got its own place, or was left since its entry
-- was gone.
abbrev pub AreSet : (place : ℕ) → List Block → List Act → Type 0
AreSet place [] [] = Unit {0}
AreSet place (b ∷ bs) (Placed k x ∷ acts) = ((k ≡ b.key) × (x ≡ place)) × AreSet (place + b.key.size) bs acts
AreSet place (b ∷ bs) (Left k w ∷ acts) = ((k ≡ b.key) × (w ≡ why.Gone)) × AreSet (place + b.key.size) bs acts
AreSet place _ _ = ⊥

-- these keys were left in their order, each for this reason or since its entry was gone
abbrev pub AreLeft : Why → List Block → List Act → Type 0
AreLeft reason [] [] = Unit {0}
AreLeft reason (b ∷ bs) (Left k w ∷ acts) = ((k ≡ b.key) × ((w ≡ reason) ⊎ (w ≡ why.Gone))) × AreLeft reason bs acts
AreLeft reason _ _ = ⊥

-- the places of these entries were asked back in their order, whatever was answered
abbrev pub AreCleared : List Live → List Act → Type 0
AreCleared [] [] = Unit {0}
AreCleared (l ∷ ls) (Cleared k x ∷ acts) = ((k ≡ l.key) × (x ≡ l.place)) × AreCleared ls acts
AreCleared (l ∷ ls) (Absent k x ∷ acts) = ((k ≡ l.key) × (x ≡ l.place)) × AreCleared ls acts
AreCleared (l ∷ ls) (Refused k x ∷ acts) = ((k ≡ l.key) × (x ≡ l.place)) × AreCleared ls acts
AreCleared _ _ = ⊥

-- So many runs of these blocks were committed from the hand on, and the keys of each were set behind its own commit: these are the acts, the
-- entries that they made live, and the blocks that are left.
abbrev pub AreRuns : (lap hand count : ℕ) → (blocks : List Block) → List Act → List Written → (left : List Block) → Type 0
AreRuns lap hand zero blocks acts entries left = (acts ≡ []) × (entries ≡ []) × (left ≡ blocks)
AreRuns lap hand (suc count) blocks acts entries left =
    let run = take most blocks in
    (0 < length blocks) × (sets : List Act) × (more : List Act) × (behind : List Written) × (acts ≡ sets ++ more) × (entries ≡ row_of lap hand run ++ behind)
    × AreSet hand run sets × AreRuns lap (hand + (bytes_of run + log_len)) count (drop most blocks) more behind left

-- Each of so many runs of these blocks has its log block, whose pointer is the newest one behind it: so the two pointers went from these to those.
abbrev pub AreLogs : (lap hand : ℕ) → List Block → (count : ℕ) → (old new : Option LogPtr × Option LogPtr) → Type 0
AreLogs lap hand blocks zero old new = new ≡ old
AreLogs lap hand blocks (suc count) old new = (was : Option LogPtr × Option LogPtr) × (ptr : LogPtr) × AreLogs lap hand blocks count old was
    × IsLogOf lap (run_place hand count blocks) was.1 (take most (drop (count * most) blocks)) ptr × (new ≡ (Some ptr, was.0))
