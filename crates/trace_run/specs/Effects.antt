-- What a reply says was done: each reply is classified here, and nowhere else.
use Rattle.std.specs.Prelude.{List, [], ◌∷◌, ◌++◌}
use Rattle.arc_core.specs.declared.served.Served.{Served}
use Rattle.arc_core.specs.declared.served.Served.TheVariants as served
use Rattle.trace_text.specs.declared.reply.Refusal.{Refusal}
use Rattle.trace_text.specs.declared.reply.Refusal.TheVariants as refusals
use Rattle.trace_text.specs.declared.reply.Reply.{Reply}
use Rattle.trace_text.specs.declared.reply.Reply.TheVariants as replies
use Rattle.vdev_io.specs.Calls.{Call, Gave, Failed}

pub data Effect : Type 0 where
  -- the read was answered, and its bytes came from here
  Answered : Served → Effect
  -- a kept read was given back
  GivenBack : Effect
  -- the pool was asked for the bytes, and failed or gave other ones
  PoolRefused : Call → Effect
  -- no read was made, and none given back
  NoEffect : Effect

abbrev pub effect_of_refusal : Refusal → Effect
effect_of_refusal refusals.PoolFault = PoolRefused Failed
effect_of_refusal (refusals.Mismatch found) = PoolRefused Gave
effect_of_refusal (refusals.Key fault) = NoEffect
effect_of_refusal refusals.NoMemory = NoEffect
effect_of_refusal (refusals.Range end size) = NoEffect
effect_of_refusal (refusals.NoBlock at) = NoEffect
effect_of_refusal (refusals.NoHold block) = NoEffect
effect_of_refusal (refusals.NoPin at) = NoEffect

-- whether an operation on an object has read its block, its reply does not tell
abbrev pub effect_of : Reply → Effect
effect_of (replies.Read served digest shown) = Answered served
effect_of (replies.Kept served) = Answered served
effect_of replies.Dropped = GivenBack
effect_of (replies.Got size shown) = NoEffect
effect_of replies.Done = NoEffect
effect_of (replies.Fed did) = NoEffect
effect_of replies.FedNone = NoEffect
effect_of (replies.Synced group blocks bytes) = NoEffect
effect_of (replies.Capped c) = NoEffect
effect_of (replies.Refused refusal) = effect_of_refusal refusal

-- the reads of the pool for bytes that came from here
abbrev pub calls_from : Served → List Call
calls_from served.Hit = []
calls_from served.Pool = Gave ∷ []
calls_from served.L2 = []
calls_from served.Past = Gave ∷ []

-- the reads of the pool that were made
abbrev pub calls_of : Effect → List Call
calls_of (Answered from) = calls_from from
calls_of GivenBack = []
calls_of (PoolRefused call) = call ∷ []
calls_of NoEffect = []

-- the reads of the pool for all replies, in their order
abbrev pub calls_of_all : List Reply → List Call
calls_of_all [] = []
calls_of_all (reply ∷ rest) = calls_of (effect_of reply) ++ calls_of_all rest
