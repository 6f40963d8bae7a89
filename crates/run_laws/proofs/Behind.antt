-- What stands behind a line of two runs is alike, where what stood before it was: the same events are done to shards, and the same is noted of cells.
use Rattle.std.proofs.Common.{◌≡◌, ℕ, List, [], ◌∷◌, ◌++◌, length, Option, None, Some, sym, ap, ◌∙◌}
use Rattle.arc_core.specs.Config.{IsConfig}
use Rattle.arc_core.specs.declared.config.Config.{Config}
use Rattle.arc_core.specs.declared.event.Event.{Event}
use Rattle.arc_core.specs.PlainShard.{PlainShard}
use Rattle.arc_core.specs.Replay.{replay}
use Rattle.arc_table.specs.Geometry.{IsCell}
use Rattle.arc_table.specs.Telling.{opening_of}
use Rattle.vdev_io.specs.declared.device.CacheDev.{Ghosts as Devices}
use Rattle.vdev_io.specs.declared.pool.Pool.{Ghosts}
use Rattle.trace_text.specs.declared.trace.Trace.{Trace}
use Rattle.trace_run.specs.Deeds.{Noted, events_of_cell}
use Rattle.trace_run.specs.dbufs.ObjectLines.{on_object}
use Rattle.trace_run.specs.dbufs.Objects.{Line}
use Rattle.trace_run.specs.callers.WorkLines.{calls_of_lines}
use Rattle.trace_run.specs.one_caller.Sequence.{BetweenLines, DoesLine, GoesOn, shard_behind}
use Rattle.trace_run.proofs.in_place.AloneStands.{calls-keep}
use Rattle.run_laws.specs.Alike.{AreAlike, AreDevicesAlike}
use Rattle.run_laws.proofs.feeds.PlacesGo.{PlacesGo, own-places}
use Rattle.run_laws.proofs.ShardsLegal.{AreLegalShards}

-- one more of each history
pub goes-shard : {P D : Type 0} (g : Config) (es fs : ℕ → List Event) (noted others : List Noted) (from to other other_to : BetweenLines P D) → GoesOn g es noted from to → GoesOn g fs others other other_to
    → (shard : ℕ) → other.shards shard ≡ from.shards shard → fs shard ≡ es shard → other_to.shards shard ≡ to.shards shard
goes-shard g es fs noted others from to other other_to goes other_goes shard before same =
    let both : other.shards shard ++ fs shard ≡ from.shards shard ++ es shard = λ h. before h ++ same h in
    other_goes.shards shard ∙ (both ∙ sym (goes.shards shard))

pub goes-cell : {P D : Type 0} (g : Config) (es fs : ℕ → List Event) (noted others : List Noted) (from to other other_to : BetweenLines P D) → GoesOn g es noted from to → GoesOn g fs others other other_to
    → (i : ℕ) → IsCell g i → other.cells i ≡ from.cells i → others ≡ noted → other_to.cells i ≡ to.cells i
goes-cell g es fs noted others from to other other_to goes other_goes i is before same =
    let both : other.cells i ++ events_of_cell i others ≡ from.cells i ++ events_of_cell i noted = λ h. before h ++ events_of_cell i (same h) in
    other_goes.cells i is ∙ (both ∙ sym (goes.cells i is))

module _ {P D : Type 0} (pools : Ghosts P) (devices : Devices D) (trace : Trace) where
  -- the shards that both found are the same
  pub same-shard : (from other : BetweenLines P D) → AreAlike pools devices trace from other → (shard : ℕ) → shard_behind trace.config other.shards shard ≡ shard_behind trace.config from.shards shard
  same-shard from other alike shard = ap (λ (es : List Event). replay (opening_of trace.config) es) (alike.shards shard)

  -- the length that the pool's bytes have is the pool's, and so the two pools have one length
  pub pool-size : ((p : P) (bytes : List ℕ) → pools.told p ≡ Some bytes → length bytes ≡ pools.size p) → (from other : BetweenLines P D) → AreAlike pools devices trace from other → pools.size other.outside.pool ≡ pools.size from.outside.pool
  pool-size pool_len from other alike = sym (pool_len other.outside.pool alike.image alike.other_told) ∙ pool_len from.outside.pool alike.image alike.told

  -- devices that are alike at the places of these shards are so at fewer places
  pub devices-go : (s t : ℕ → PlainShard) → PlacesGo trace.config s t → (one other : Option D) → AreDevicesAlike pools devices trace s one other → AreDevicesAlike pools devices trace t one other
  devices-go s t goes None None alike = tt
  devices-go s t goes None (Some other) alike = absurd alike
  devices-go s t goes (Some one) None alike = absurd alike
  devices-go s t goes (Some one) (Some other) alike = record {
    size = alike.size;
    image = alike.image;
    other_image = alike.other_image;
    told = alike.told;
    other_told = alike.other_told;
    long = alike.long;
    places = λ k x at. alike.places k x (goes k x at);
  }

  -- behind a line of the caller's, which only reads the pool
  pub caller-then : IsConfig trace.config → (l m : Line) (from to other other_to : BetweenLines P D) → AreAlike pools devices trace from other → DoesLine pools devices trace l from to → DoesLine pools devices trace m other other_to
      → AreLegalShards trace to.shards → AreDevicesAlike pools devices trace (shard_behind trace.config from.shards) to.device other_to.device → ((shard : ℕ) → other_to.shards shard ≡ to.shards shard) → ((i : ℕ) → IsCell trace.config i → other_to.cells i ≡ to.cells i)
      → other_to.kept ≡ to.kept → AreAlike pools devices trace to other_to
  caller-then valid l m from to other other_to alike does other_does legal device shards cells kept =
      let keeps = calls-keep pools (calls_of_lines (l ∷ [])) from.outside.pool to.outside.pool does.calls in
      let other_keeps = calls-keep pools (calls_of_lines (m ∷ [])) other.outside.pool other_to.outside.pool other_does.calls in
      record {
        image = alike.image;
        told = keeps.told ∙ alike.told;
        other_told = other_keeps.told ∙ alike.other_told;
        group = other_does.group ∙ (alike.group ∙ sym does.group);
        next = other_does.next ∙ (alike.next ∙ sym does.next);
        device = devices-go (shard_behind trace.config from.shards) (shard_behind trace.config to.shards) (own-places pools devices trace valid (on_object l.op) l from to does.did legal) to.device other_to.device device;
        shards = shards;
        cells = cells;
        kept = kept;
      }
