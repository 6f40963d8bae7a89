-- A new capacity of every shard.
use Rattle.std.specs.Prelude.{◌≡◌, ℕ, zero, suc, ◌<◌, [], Result, Ok, Err}
use Rattle.blk_ptr.specs.declared.key.Key.{Key}
use Rattle.arc_core.specs.declared.config.Config.{Config}
use Rattle.arc_core.specs.declared.event.Event.TheVariants.{Resize}
use Rattle.turn_table.specs.Places.{Place}
use Rattle.arc_table.specs.declared.resizes.ResizeStop.{ResizeStop}
use Rattle.arc_table.specs.declared.view.Known.{Known}
use Rattle.arc_table.specs.Both.{Does}
use Rattle.arc_table.specs.scans.Ending.{DoesRoomy}
use Rattle.arc_table.specs.Geometry.{shard_turn}
use Rattle.arc_table.specs.Items.{Meanings}
use Rattle.arc_table.specs.feeder.Picking.{nth_shard_turn}

-- A key of this shard, in its first bucket. No block has it, since its size is 0: by it a resize takes a bucket and then the shard, as
-- every call that makes room does
abbrev pub key_in : ℕ → Key
key_in s = record { offset = 0; size = 0; birth = s }

module _ {C : Type 0} (m : Meanings C) where
  -- the shard of this number has the capacity c from now on: one Resize by n, behind the passes of its scan
  pub record ResizesOne (g : Config) (n c s : ℕ) (p q : Place (Known C)) : Type 0 where
    pub own : shard_turn g (key_in s) ≡ nth_shard_turn g s
    pub does : DoesRoomy m g (key_in s) (Resize n c) p q

  -- so have the shards below this number, one after the other
  abbrev pub Resizes : Config → (n c shards : ℕ) → Place (Known C) → Place (Known C) → Type 0
  Resizes g n c zero p q = q ≡ p
  Resizes g n c (suc s) p q = (between : Place (Known C)) × Resizes g n c s p between × ResizesOne g n c s between q

  -- the shards below `done` were resized, and of the next one there is no event
  pub record ResizesUpTo (g : Config) (n c done : ℕ) (p q : Place (Known C)) : Type 0 where
    pub below : done < g.shards
    pub reached : Place (Known C)
    pub resized : Resizes g n c done p reached
    pub own : shard_turn g (key_in done) ≡ nth_shard_turn g done
    pub stopped : Does m g (key_in done) [] reached q

  -- `resize`: all shards were resized, or those below the one at which memory was refused
  abbrev pub AnswersResize : Config → (c : ℕ) → Place (Known C) → Place (Known C) → Result (Unit {0}) ResizeStop → Type 0
  AnswersResize g c p q (Ok u) = Resizes g p.number c g.shards p q
  AnswersResize g c p q (Err stop) = ResizesUpTo g p.number c stop.done p q
