-- That events keep a shard sound.
use Rattle.std.specs.Prelude.{IsTrue}
use Rattle.arc_core.specs.declared.event.Event.{Event}
use Rattle.arc_core.specs.PlainShard.{PlainShard}
use Rattle.arc_core.specs.Sound.{IsSound}
use Rattle.arc_core.specs.Step.{after, legal}

-- a sound shard is sound after each legal event
abbrev pub IsSoundAfter : Type 0
IsSoundAfter = (s : PlainShard) (e : Event) → IsSound s → IsTrue (legal s e) → IsSound (after s e)
