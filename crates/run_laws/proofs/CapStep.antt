-- A line `cap` of two runs that stand alike: each shard has the new capacity, the next group begins, and they stand alike again.
use Rattle.std.proofs.Common.{◌≡◌, ℕ, suc, List, [], length, Option, None, refl, sym, ap, ◌∙◌, subst}
use Rattle.arc_core.specs.Config.{IsConfig}
use Rattle.arc_core.specs.PlainShard.{PlainShard}
use Rattle.vdev_io.specs.declared.device.CacheDev.{Ghosts as Devices}
use Rattle.vdev_io.specs.declared.pool.Pool.{Ghosts}
use Rattle.trace_text.specs.declared.op.Op.TheVariants as ops
use Rattle.trace_text.specs.declared.reply.Reply.{Reply}
use Rattle.trace_text.specs.declared.trace.Trace.{Trace}
use Rattle.trace_run.specs.Feeds.{FeedDone}
use Rattle.trace_run.specs.Meeting.{resizes_in}
use Rattle.trace_run.specs.callers.Together.{BetweenGroups}
use Rattle.trace_run.specs.dbufs.Objects.{Work, no_work}
use Rattle.trace_run.specs.one_caller.Sequence.{BetweenLines, DoesAnyLine, DoesCap, shard_behind}
use Rattle.run_laws.specs.Alike.{AreAlike, AreDevicesAlike, feed_answers, pool_answers_to}
use Rattle.run_laws.proofs.Behind.{devices-go, goes-cell, goes-shard}
use Rattle.run_laws.proofs.feeds.PlacesGo.{cap-places}
use Rattle.run_laws.proofs.ReadStep.{line_of}
use Rattle.run_laws.proofs.ShardsLegal.{AreLegalShards}
use Rattle.run_laws.proofs.Steps.{StepAlike}

module _ {P D : Type 0} (pools : Ghosts P) (devices : Devices D) (trace : Trace) where
  cap-then : IsConfig trace.config → (c : ℕ) (r q : Reply) (from to other other_to : BetweenLines P D) → AreLegalShards trace to.shards → DoesCap pools devices trace c r from to → DoesCap pools devices trace c q other other_to → AreAlike pools devices trace from other
      → AreAlike pools devices trace to other_to
  cap-then valid c r q from to other other_to legal did other_did alike =
      let es = resizes_in trace.config.shards trace.config.callers c in
      let group : suc other.outside.group ≡ suc from.outside.group = ap (λ (n : ℕ). suc n) alike.group in
      let was : ℕ → PlainShard = shard_behind trace.config from.shards in
      let device : AreDevicesAlike pools devices trace was to.device other_to.device = subst (λ (x : Option D × Option D). AreDevicesAlike pools devices trace was x.0 x.1) (λ h. (sym did.device h, sym other_did.device h)) alike.device in
      record {
        image = alike.image;
        told = ap (λ (o : BetweenGroups P). pools.told o.pool) did.pool ∙ alike.told;
        other_told = ap (λ (o : BetweenGroups P). pools.told o.pool) other_did.pool ∙ alike.other_told;
        group = ap (λ (o : BetweenGroups P). o.group) other_did.pool ∙ (group ∙ sym (ap (λ (o : BetweenGroups P). o.group) did.pool));
        next = ap (λ (o : BetweenGroups P). o.next) other_did.pool ∙ (alike.next ∙ sym (ap (λ (o : BetweenGroups P). o.next) did.pool));
        device = devices-go pools devices trace was (shard_behind trace.config to.shards) (cap-places pools devices trace valid c r from to did legal) to.device other_to.device device;
        shards = λ shard. goes-shard trace.config es es [] [] from to other other_to did.goes_on other_did.goes_on shard (alike.shards shard) refl;
        cells = λ i is. goes-cell trace.config es es [] [] from to other other_to did.goes_on other_did.goes_on i is (alike.cells i is) refl;
        kept = other_did.kept ∙ (alike.kept ∙ sym did.kept);
      }

  -- its answer is one, and neither pool nor device is asked
  pub cap-step : IsConfig trace.config → (c : ℕ) (r q : Reply) (w v : Work) (here there : List FeedDone) (from to other other_to : BetweenLines P D) → AreLegalShards trace to.shards → w ≡ no_work → v ≡ no_work
      → (did : DoesAnyLine pools devices trace None (line_of (ops.Cap c) r w) here from to) (other_did : DoesAnyLine pools devices trace None (line_of (ops.Cap c) q v) there other other_to)
      → AreAlike pools devices trace from other → StepAlike pools devices trace (line_of (ops.Cap c) r w) (line_of (ops.Cap c) q v) here there from to other other_to did other_did
  cap-step valid c r q w v here there from to other other_to legal none other_none did other_did alike =
      let same : q ≡ r = other_did.1.replied ∙ sym did.1.replied in
      let work : v ≡ w = other_none ∙ sym none in
      let feeds : there ≡ here = other_did.0 ∙ sym did.0 in
      record {
        then = cap-then valid c r q from to other other_to legal did.1 other_did.1 alike;
        reply = same;
        pool = λ h. pool_answers_to (line_of (ops.Cap c) (same h) (work h));
        device = ap feed_answers feeds;
        many = ap (λ (fs : List FeedDone). length fs) (other_did.0 ∙ sym did.0);
      }
