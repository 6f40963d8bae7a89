-- As the first line begins the keys that the start found have places, and no others: each of them stands in the ring (l2arc_rebuild of arc.c).
use Rattle.std.proofs.Common.{◌≡◌, ℕ, IsTrue, List, [], ◌∷◌, reverse, Option, None, Some, inl, inr, refl, sym, ap, subst, ⊎_elim, arith}
use Rattle.std.specs.Prelude.{◌==◌, if◌then◌else◌}
use Rattle.std.proofs.lemmas.Bool.{cases_lt}
use Rattle.blk_ptr.specs.Hash.{shard_of}
use Rattle.blk_ptr.specs.declared.key.Key.{Key}
use Rattle.arc_core.specs.Config.{IsConfig}
use Rattle.arc_core.specs.PlainShard.{place_of}
use Rattle.arc_core.specs.Replay.{is_legal_history, replay}
use Rattle.arc_core.specs.declared.config.Config.{Config}
use Rattle.arc_core.specs.declared.event.Event.{Event}
use Rattle.arc_core.specs.declared.event.Event.TheVariants.{Restore}
use Rattle.arc_core.specs.declared.served.Restored.{Restored}
use Rattle.arc_table.specs.Telling.{opening_of}
use Rattle.arc_table.proofs.OpeningLaws.{opening_sound}
use Rattle.l2_log.specs.Rules.{least_ring_end}
use Rattle.l2_ring.specs.declared.live.Written.{Written}
use Rattle.l2_dev.specs.Cursor.{CursorState}
use Rattle.l2_dev.specs.Rebuilding.{IsOpened}
use Rattle.l2_feed.specs.Series.{IsRestoredAt, restores_at}
use Rattle.l2_feed.proofs.InTurn.{live_back, live_restored, restores_give}
use Rattle.vdev_io.specs.Calls.{DeviceCall}
use Rattle.vdev_io.specs.declared.device.CacheDev.{Ghosts as Devices}
use Rattle.trace_text.specs.declared.rebuilt.Rebuilt.{Rebuilt}
use Rattle.trace_text.specs.declared.trace.Trace.{Trace}
use Rattle.trace_run.specs.Restores.{found_keys, restores_in}
use Rattle.trace_run.specs.one_caller.Sequence.{shard_behind}
use Rattle.run_laws.specs.Alike.{Starts, StartsSo}
use Rattle.run_laws.proofs.feeds.FeedPlaces.{PlacesLive}
use Rattle.run_laws.proofs.feeds.PlacesGo.{shard-below}
use Rattle.run_laws.proofs.ShardsLegal.{AreLegalShards}

-- what is live in the ring of a start, where a device was started
abbrev pub live_first : Option CursorState → List Written
live_first None = []
live_first (Some first) = first.ring.live

-- the feeder has the number that is behind the callers'
restores-same : (g : Config) (rs : List Restored) (shard : ℕ) → restores_in g rs shard ≡ restores_at g g.callers rs shard
restores-same g [] shard = refl
restores-same g (r ∷ rs) shard = ap (λ (es : List Event). if shard_of g.shards r.key == shard then (Restore g.callers r.key r.place r.digest ∷ es) else es) (restores-same g rs shard)

module _ (trace : Trace) (valid : IsConfig trace.config) (restored : List Restored) (legal : AreLegalShards trace (restores_in trace.config restored)) where
  abbrev g : Config
  g = trace.config

  -- each place is one that was restored
  was-restored : (k : Key) (x : ℕ) → place_of k (shard_behind g (restores_in g restored) (shard_of g.shards k)) ≡ Some x → IsRestoredAt k x restored
  was-restored k x at =
      let shard : ℕ = shard_of g.shards k in
      let some = valid.counts.shards.0 in
      let ok : IsTrue (is_legal_history (opening_of g) (restores_at g g.callers restored shard)) =
      subst (λ (es : List Event). IsTrue (is_legal_history (opening_of g) es)) (restores-same g restored shard) (legal shard (shard-below g.shards k (omega (arith, some)))) in
      let there : place_of k (replay (opening_of g) (restores_at g g.callers restored shard)) ≡ Some x = subst (λ (es : List Event). place_of k (replay (opening_of g) es) ≡ Some x) (restores-same g restored shard) at in
      ⊎_elim (λ (before : place_of k (opening_of g) ≡ Some x). cc) (λ (found : IsRestoredAt k x restored). found)
      (restores_give g g.callers shard restored (opening_of g) k x (opening_sound g.c g.mintime g.bounds valid.amounts.c) ok there)

  opened-live : (end : ℕ) (cursor : CursorState) → IsOpened end cursor restored → PlacesLive g (shard_behind g (restores_in g restored)) cursor.ring.live
  opened-live end cursor opened k x at =
      live_back k x cursor.ring.live (live_restored k x (reverse cursor.ring.live) (subst (IsRestoredAt k x) opened.live (was-restored k x at)))

  none-live : restored ≡ [] → PlacesLive g (shard_behind g (restores_in g restored)) []
  none-live none k x at = absurd (subst (IsRestoredAt k x) none (was-restored k x at))

module _ {D : Type 0} (devices : Devices D) (trace : Trace) (valid : IsConfig trace.config) where
  abbrev StartLive : (first : Option CursorState) → (restored : List Restored) → Type 0
  StartLive first restored = PlacesLive trace.config (shard_behind trace.config (restores_in trace.config restored)) (live_first first)

  so-live : (before after : D) (reads : List DeviceCall) (first : Option CursorState) (rebuilt : Rebuilt) → StartsSo devices before after reads first rebuilt → AreLegalShards trace (restores_in trace.config rebuilt.list) → StartLive first rebuilt.list
  so-live before after reads first rebuilt start legal = elim (cases_lt (devices.size before) least_ring_end) [
    | inl short ↦
        let s = start.short short in
        subst (λ (c : Option CursorState). StartLive c rebuilt.list) (sym s.2) (none-live trace valid rebuilt.list legal s.0)
    | inr long ↦
        let s = start.long long in
        subst (λ (c : Option CursorState). StartLive c rebuilt.list) (sym s.2) (opened-live trace valid rebuilt.list legal _ s.1 s.3)
  ]

  pub start-live : (handed started : Option D) (reads : List DeviceCall) (first : Option CursorState) (rebuilt : Option Rebuilt) → Starts devices handed started reads first rebuilt → AreLegalShards trace (restores_in trace.config (found_keys rebuilt))
      → StartLive first (found_keys rebuilt)
  start-live None started reads first rebuilt start legal =
      subst (λ (c : Option CursorState). StartLive c (found_keys rebuilt)) (sym start.2) (none-live trace valid (found_keys rebuilt) legal (ap found_keys start.3))
  start-live (Some before) None reads first rebuilt start legal = absurd start
  start-live (Some before) (Some after) reads first None start legal = absurd start
  start-live (Some before) (Some after) reads first (Some rebuilt) start legal = so-live before after reads first rebuilt start legal
