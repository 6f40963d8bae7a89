-- What callers that work at once are between the steps of their work.
use Rattle.std.specs.Prelude.{◌≡◌, ℕ, suc, List, [], ◌∷◌, filter, map, IfOk, Option, Vec, Ok, ◌++◌}
use Rattle.std.specs.declared.alloc.Global.{Global}
use Rattle.std.specs.List.{AllByRecursion}
use Rattle.blk_ptr.specs.declared.ptr.Ptr.{Ptr}
use Rattle.arc_core.specs.declared.config.Config.{Config}
use Rattle.arc_core.specs.Operations.{Act}
use Rattle.arc_table.specs.Cache.{Cache}
use Rattle.vdev_io.specs.Calls.{MakesCalls}
use Rattle.arc_table.specs.declared.view.Known.{Known}
use Rattle.turn_table.specs.Places.{Place}
use Rattle.trace_text.specs.declared.op.Op.{Op}
use Rattle.trace_text.specs.declared.reply.Reply.{Reply}
use Rattle.vdev_io.specs.declared.device.CacheDev.{Ghosts as Devices}
use Rattle.vdev_io.specs.declared.pool.Pool.{Ghosts}
use Rattle.vdev_io.specs.Faults.{sum_of_counts}
use Rattle.trace_run.specs.declared.group.Caller.{Caller}
use Rattle.trace_run.specs.declared.kept_blocks.KeptBlock.{KeptBlock}
use Rattle.trace_run.specs.callers.CallerLines.{At}
use Rattle.trace_run.specs.Deeds.{HasToldAll, KeepsCells, Noted}
use Rattle.trace_run.specs.KeptBlocks.{Stands, read_of}
use Rattle.trace_run.specs.Lines.{is_of_caller}
use Rattle.trace_run.specs.dbufs.Objects.{Line}
use Rattle.trace_run.specs.one_caller.OverShards.{AreNamed}
use Rattle.trace_run.specs.RunWork.{kept_after_lines}
use Rattle.trace_run.specs.callers.WorkLines.{AnswersLines, AreLinesOf, AsksGiven, IsWorkOf, LooksLines, acts_of_work, calls_of_lines, noted_of_work}

-- ---- forks that are taken back

module _ {P : Type 0} (pools : Ghosts P) where
  -- a fork was taken back, and the pool counts what it counted
  pub record Absorbs (fork old new : P) : Type 0 where
    pub size : pools.size new ≡ pools.size old
    pub told : pools.told new ≡ pools.told old
    pub reads : pools.reads new ≡ sum_of_counts (pools.reads old) (pools.reads fork)
    pub faults : pools.faults new ≡ sum_of_counts (pools.faults old) (pools.faults fork)
    pub others : pools.other_calls new ≡ pools.other_calls old

  -- these forks were, one after another
  abbrev pub AbsorbsAll : List P → (old new : P) → Type 0
  AbsorbsAll [] old new = new ≡ old
  AbsorbsAll (fork ∷ forks) old new = (next : P) × Absorbs fork old next × AbsorbsAll forks next new

-- ---- a caller's operations

-- What a caller's operations came to, over the cache device that it was given: they have these lines with their replies, each with its work. What these did is told, each has its answer,
-- and the pool and the device were read as they say and in no other way.
pub record CameTo {C P D : Type 0} (pools : Ghosts P) (devices : Devices D) (g : Config) (blocks : List Ptr) (ops_done : List Op) (replied : List Reply) (old new : At C P) (was now : Option D) : Type 0 where
  pub lines : List Line
  pub are : AreLinesOf ops_done replied lines
  pub fits : AllByRecursion (IsWorkOf g old.party.number) lines
  pub number : new.party.number ≡ old.party.number
  pub joined : new.party.joined ≡ old.party.joined
  pub cells : KeepsCells g old.party new.party
  pub kept : new.kept ≡ kept_after_lines blocks old.kept lines
  pub told : (did : List Act) (had : List Noted) → HasToldAll g did had old.party → HasToldAll g (did ++ acts_of_work g blocks old.kept lines) (had ++ noted_of_work lines) new.party
  pub answers : (did : List Act) (had : List Noted) → HasToldAll g did had old.party
      → (place : ℕ) → AnswersLines g (pools.size old.pool) (pools.told old.pool) place blocks old.party.own.about.openings new.party.own.seen old.party.number had old.kept lines
  pub looks : (did : List Act) (had : List Noted) → HasToldAll g did had old.party
      → LooksLines g (pools.size old.pool) (pools.told old.pool) old.party.own.about.openings old.party.own.seen new.party.own.seen old.party.number had lines
  pub calls : MakesCalls pools (calls_of_lines lines) old.pool new.pool
  pub asked : AsksGiven devices blocks lines was now

-- ---- before the lines

module _ {C : Type 0} where
  -- a party before the lines of its caller, which has this number and keeps these reads
  pub record IsAtStart (cache : Cache) (blocks : List Ptr) (n : ℕ) (kept : List KeptBlock) (p : Place (Known C)) : Type 0 where
    pub number : p.number ≡ n
    pub alone : p.joined ≡ []
    pub stands : Stands cache p kept
    pub named : AreNamed blocks (map read_of kept)

  -- parties, by their numbers from this one on
  abbrev pub AreAtStart : Cache → List Ptr → (n : ℕ) → List (List KeptBlock) → List (Place (Known C)) → Type 0
  AreAtStart cache blocks n [] [] = Unit {0}
  AreAtStart cache blocks n (k ∷ ks) (p ∷ ps) = IsAtStart cache blocks n k p × AreAtStart cache blocks (suc n) ks ps
  AreAtStart cache blocks n _ _ = ⊥

module _ {C P D : Type 0} where
  -- a caller was made of this party, these reads and this fork
  pub record IsEnlisted (p : Place (Known C)) (kept : List KeptBlock) (fork : P) (caller : Caller C P D) : Type 0 where
    pub party : caller.party ≡ p
    pub keeps : caller.kept ≡ kept
    pub pool : caller.pool ≡ fork

  -- these callers were made of these parties, reads and forks
  abbrev pub AreEnlisted : List (Place (Known C)) → List (List KeptBlock) → List P → List (Caller C P D) → Type 0
  AreEnlisted [] [] [] [] = Unit {0}
  AreEnlisted (p ∷ ps) (k ∷ ks) (fork ∷ forks) (caller ∷ callers) = IsEnlisted p k fork caller × AreEnlisted ps ks forks callers
  AreEnlisted _ _ _ _ = ⊥

  -- a caller that may begin
  pub record IsReady (cache : Cache) (blocks : List Ptr) (caller : Caller C P D) : Type 0 where
    pub alone : caller.party.joined ≡ []
    pub stands : Stands cache caller.party caller.kept
    pub named : AreNamed blocks (map read_of caller.kept)

  -- ---- after the lines

  -- A caller has done its lines, which were answered so, each with its work, and keeps what they say. Before them it was as this one, with the number n.
  pub record HasDone (cache : Cache) (pools : Ghosts P) (devices : Devices D) (blocks : List Ptr) (ops : List Op) (n : ℕ) (old new : Caller C P D) (replies : List Reply) : Type 0 where
    pub number : new.party.number ≡ n
    pub alone : new.party.joined ≡ []
    pub stands : Stands cache new.party new.kept
    pub lines : List Line
    pub are : AreLinesOf (filter (is_of_caller n) ops) replies lines
    pub fits : AllByRecursion (IsWorkOf cache.config n) lines
    pub kept : map read_of new.kept ≡ kept_after_lines blocks (map read_of old.kept) lines
    pub told : (before : List Act) (noted : List Noted) → HasToldAll cache.config before noted old.party
        → HasToldAll cache.config (before ++ acts_of_work cache.config blocks (map read_of old.kept) lines) (noted ++ noted_of_work lines) new.party
    pub cells : KeepsCells cache.config old.party new.party
    pub answers : (before : List Act) (noted : List Noted) → HasToldAll cache.config before noted old.party
        → (place : ℕ) → AnswersLines cache.config (pools.size old.pool) (pools.told old.pool) place blocks old.party.own.about.openings new.party.own.seen n noted (map read_of old.kept) lines
    pub looks : (before : List Act) (noted : List Noted) → HasToldAll cache.config before noted old.party
        → LooksLines cache.config (pools.size old.pool) (pools.told old.pool) old.party.own.about.openings old.party.own.seen new.party.own.seen n noted lines
    pub calls : MakesCalls pools (calls_of_lines lines) old.pool new.pool
    pub asked : AsksGiven devices blocks lines old.device new.device

  -- so it was, where memory was enough
  pub record HasTried (cache : Cache) (pools : Ghosts P) (devices : Devices D) (blocks : List Ptr) (ops : List Op) (old new : Caller C P D) : Type 0 where
    pub done : IfOk new.replies (λ replies. HasDone cache pools devices blocks ops old.party.number old new replies.items)

  -- its lines were answered so
  pub record Replied (caller : Caller C P D) (replies : List Reply) : Type 0 where
    pub all : Vec Reply Global
    pub replied : caller.replies ≡ Ok all
    pub replies_are : all.items ≡ replies

  abbrev pub AllReplied : List (Caller C P D) → List (List Reply) → Type 0
  AllReplied [] [] = Unit {0}
  AllReplied (caller ∷ callers) (replies ∷ rest) = Replied caller replies × AllReplied callers rest
  AllReplied _ _ = ⊥

  -- what callers that have done their lines come to: their replies, their parties, and what they keep
  pub record HaveComeBack (callers : List (Caller C P D)) (replies : List (List Reply)) (ps : List (Place (Known C))) (kept : List (List KeptBlock)) : Type 0 where
    pub replied : AllReplied callers replies
    pub parties : ps ≡ map (λ caller. caller.party) callers
    pub keeps : kept ≡ map (λ caller. caller.kept) callers
