-- What a read through the shared cache comes to for a caller between its lines.
use Rattle.std.specs.Prelude.{◌≡◌, ℕ, List, [], ◌∷◌, ◌++◌, Option, Result, Ok, Err}
use Rattle.blk_ptr.specs.declared.ptr.Ptr.{Ptr}
use Rattle.blk_ptr.specs.Hash.{shard_of}
use Rattle.blk_ptr.specs.Key.{IsValid, IsFirstKeyFault}
use Rattle.arc_core.specs.declared.config.Config.{Config}
use Rattle.arc_core.specs.declared.event.Event.{Event}
use Rattle.arc_core.specs.declared.served.ReadFault.{ReadFault}
use Rattle.arc_core.specs.declared.served.ReadFault.TheVariants as fault
use Rattle.arc_core.specs.declared.served.Served.{Served}
use Rattle.arc_core.specs.Operations.{Act, Fails, Keeps, Moment, StandsFor, act_key}
use Rattle.arc_core.specs.PlainShard.{PlainShard}
use Rattle.arc_core.specs.Replay.{replay}
use Rattle.vdev_io.specs.Calls.{Gave, Failed, MakesCalls}
use Rattle.dbuf_cells.specs.Kept.{bytes_of}
use Rattle.turn_table.specs.Places.{Place}
use Rattle.arc_table.specs.declared.view.Known.{Known}
use Rattle.vdev_io.specs.declared.pool.Pool.{Ghosts}
use Rattle.trace_text.specs.declared.reply.Refusal.{Refusal}
use Rattle.trace_text.specs.declared.reply.Refusal.TheVariants as refusals
use Rattle.trace_run.specs.declared.get.Got.{Got}
use Rattle.trace_run.specs.declared.kept_blocks.KeptBlock.{KeptBlock}
use Rattle.trace_run.specs.one_caller.Access.{Access, AsksPool, MayComeFrom, access_of, events_of_answered, events_of_refused}
use Rattle.trace_run.specs.Effects.{Effect, Answered, GivenBack, PoolRefused, NoEffect, calls_from}
use Rattle.arc_table.specs.Telling.{opening_of}
use Rattle.trace_run.specs.KeptBlocks.{read_of}
use Rattle.trace_run.specs.one_caller.OneCaller.{key_held_by}
use Rattle.trace_run.specs.KeptReads.{kept_read}
use Rattle.trace_run.specs.Read.{IsFromPool, IsMismatch, IsReadOf}
use Rattle.arc_table.specs.Seen.{AddsAll, AddsOwn, HasAll, seen_of}
use Rattle.trace_run.specs.Deeds.{HasToldAll, KeepsCells, Noted, SameCells, SameMade}

module _ {C : Type 0} where
  -- what a party that has every number finds of a shard: the replay of what it has seen
  abbrev pub now_of : Config → (shard : ℕ) → Place (Known C) → PlainShard
  now_of g shard p = replay (opening_of g) (seen_of g shard p)

  -- how its read finds its block there
  abbrev pub access_now : Config → Ptr → Place (Known C) → Access
  access_now g ptr p = access_of (now_of g (shard_of g.shards ptr.key) p) ptr

  -- The party did this act, once, with its own number. A party that is alone has seen just these events more; of cells it has seen what it had.
  pub record DidAct (g : Config) (act : Act) (es : List Event) (p q : Place (Known C)) : Type 0 where
    pub made : List Moment
    pub own : AddsOwn g (shard_of g.shards (act_key act)) made p q
    pub act_is : StandsFor act made
    pub same : SameMade g p q
    pub cells : SameCells g p q
    pub alone : HasAll p → AddsAll g (shard_of g.shards (act_key act)) es p q
    pub all : HasAll p → HasAll q
    pub joined : q.joined ≡ p.joined

  -- the read was answered, and its bytes came from here; or the pool was asked for them, and failed or gave others
  pub record DidAnswer (g : Config) (t : ℕ) (ptr : Ptr) (from : Served) (p q : Place (Known C)) : Type 0 where
    pub act : DidAct g (Keeps p.number t ptr from) (events_of_answered p.number t ptr from (access_now g ptr p)) p q
    pub source : HasAll p → MayComeFrom (access_now g ptr p) from

  pub record DidFail (g : Config) (t : ℕ) (ptr : Ptr) (p q : Place (Known C)) : Type 0 where
    pub act : DidAct g (Fails p.number t ptr) (events_of_refused p.number t ptr (access_now g ptr p)) p q
    pub asked : HasAll p → AsksPool (access_now g ptr p)

  -- In one shard the party's own number has these acts more. A party that is alone has seen just these events more, and in no other shard any; of cells it has seen what it had.
  pub record DidActs (g : Config) (shard : ℕ) (acts : List Act) (es : List Event) (p q : Place (Known C)) : Type 0 where
    pub number : q.number ≡ p.number
    pub told : (before : List Act) (noted : List Noted) → HasToldAll g before noted p → HasToldAll g (before ++ acts) noted q
    pub keeps : KeepsCells g p q
    pub cells : SameCells g p q
    pub alone : HasAll p → AddsAll g shard es p q
    pub all : HasAll p → HasAll q
    pub joined : q.joined ≡ p.joined

  -- What a read at this tick that came to this did. Of want of memory nothing is said.
  abbrev pub DidRead : Config → (t : ℕ) → Ptr → (p q : Place (Known C)) → Result Got ReadFault → Type 0
  DidRead g t ptr p q (Ok got) = DidAnswer g t ptr got.served p q
  DidRead g t ptr p q (Err (fault.PoolFault)) = DidFail g t ptr p q
  DidRead g t ptr p q (Err (fault.Mismatch found)) = DidFail g t ptr p q
  DidRead g t ptr p q (Err (fault.Key why)) = q ≡ p
  DidRead g t ptr p q (Err (fault.NoMemory)) = Unit {0}

-- what a caller keeps once a read is kept that came to this
abbrev pub kept_then : List KeptBlock → Result Got ReadFault → List KeptBlock
kept_then kept (Ok got) = kept ++ got.read ∷ []
kept_then kept (Err why) = kept

-- the bytes that a reply tells of came from the pool in this call
abbrev pub CameFromPool : Effect → Type 0
CameFromPool (Answered from) = IsFromPool from
CameFromPool GivenBack = ⊥
CameFromPool (PoolRefused call) = ⊥
CameFromPool NoEffect = ⊥

-- what was got: a read of this block, with the bytes that it may give
pub record IsGot (image : Option (List ℕ)) (block : ℕ) (ptr : Ptr) (got : Got) : Type 0 where
  pub read : IsReadOf image ptr got.served (bytes_of got.read.kept)
  pub kept : read_of got.read ≡ kept_read block (key_held_by ptr got.served)

-- why nothing was got
abbrev pub IsCauseOf : (pool_len : ℕ) → (image : Option (List ℕ)) → Ptr → ReadFault → Type 0
IsCauseOf pool_len image ptr (fault.PoolFault) = IsValid pool_len ptr.key
IsCauseOf pool_len image ptr (fault.Mismatch found) = IsValid pool_len ptr.key × IsMismatch image ptr found
IsCauseOf pool_len image ptr (fault.Key why) = IsFirstKeyFault pool_len ptr.key why
IsCauseOf pool_len image ptr (fault.NoMemory) = Unit {0}

-- The reads of the pool that were made for it. Of want of memory nothing is said.
abbrev pub CallsFor : {P : Type 0} → Ghosts P → (old new : P) → Result Got ReadFault → Type 0
CallsFor pool old new (Ok got) = MakesCalls pool (calls_from got.served) old new
CallsFor pool old new (Err (fault.PoolFault)) = MakesCalls pool (Failed ∷ []) old new
CallsFor pool old new (Err (fault.Mismatch found)) = MakesCalls pool (Gave ∷ []) old new
CallsFor pool old new (Err (fault.Key why)) = new ≡ old
CallsFor pool old new (Err (fault.NoMemory)) = Unit {0}

-- the refusal that tells this fault
abbrev pub IsRefused : ReadFault → Refusal → Type 0
IsRefused (fault.PoolFault) refusal = refusal ≡ refusals.PoolFault
IsRefused (fault.Mismatch found) refusal = refusal ≡ refusals.Mismatch found
IsRefused (fault.Key why) refusal = refusal ≡ refusals.Key why
IsRefused (fault.NoMemory) refusal = ⊥
