use Rattle.std.proofs.Common.{◌++◌, ℕ, List, [], ◌∷◌, length, ◌+◌, inl, inr, refl, sym, ap, ◌∙◌, subst, arith}
use Rattle.arc_table.specs.declared.picks.Picked.{Picked as Block}
use Rattle.arc_table.specs.feeder.Listing.{picks_of}
use Rattle.arc_table.specs.feeder.Picking.{PicksAll, nth_shard_turn}
use Rattle.l2_dev.specs.declared.report.FeedReport.{FeedReport}
use Rattle.l2_feed.specs.Acts.{Picked, Unpicked}
use Rattle.l2_feed.specs.Ready.{IsFeeding}
use Rattle.l2_feed.proofs.Batches.{none_counts, picked_counts}
use Rattle.l2_feed.proofs.Beginning.{few_blocks}
use Rattle.l2_feed.proofs.Lists.{empty_is, some_is}
use Rattle.l2_feed.proofs.Picked.{picked_feeding, picked_few, picked_whole, ready_again, unpicked_ready}
use Rattle.l2_feed.proofs.batch.feed_shard.Goals as goal

pub returns-in_default-clause-feeder : goal.returns-in_default-clause-feeder
returns-in_default-clause-feeder g c = unpicked_ready g.C.Keeps c.args.arcs.now c.args.shard c.args.party.now c.pick.new.party c.requires.shard c.requires.feeder c.in_default.ensures.err

pub returns-in_default-clause-fed : goal.returns-in_default-clause-fed
returns-in_default-clause-fed g c = (Unpicked c.args.shard ∷ [], [], (c.pick.new.party, c.in_default.ensures.err, refl), none_counts (Unpicked c.args.shard) c.args.report.now refl refl refl, refl, inr (inl (refl, refl, refl, refl)))

pub returns-then-is_empty-clause-feeder : goal.returns-then-is_empty-clause-feeder
returns-then-is_empty-clause-feeder g c =
    let m = g.C.Keeps in
    let cache = c.args.arcs.now in
    let p = c.args.party.now in
    let q = c.pick.new.party in
    let turn : ℕ = nth_shard_turn cache.config c.args.shard in
    let a : PicksAll m cache.config turn p q [] c.as_slice-picked.result.now = subst (λ (x : List Block × List Block). PicksAll m cache.config turn p q x.0 x.1) (λ i. (c.new-blocks.ensures.items i, sym c.as_slice-picked.ensures.value i)) c.in-Ok.ensures.ok in
    let f = picked_feeding m cache c.args.shard p q c.requires.shard c.requires.feeder c.as_slice-picked.result.now a in
    ready_again cache turn q (subst (λ (bs : List Block). IsFeeding cache turn bs q) (empty_is c.as_slice-picked.result.now (sym c.is_empty.ensures ∙ c.if-is_empty.true)) f)

pub returns-then-is_empty-clause-fed : goal.returns-then-is_empty-clause-fed
returns-then-is_empty-clause-fed g c =
    let m = g.C.Keeps in
    let cache = c.args.arcs.now in
    let p = c.args.party.now in
    let q = c.pick.new.party in
    let turn : ℕ = nth_shard_turn cache.config c.args.shard in
    let a : PicksAll m cache.config turn p q [] c.as_slice-picked.result.now = subst (λ (x : List Block × List Block). PicksAll m cache.config turn p q x.0 x.1) (λ i. (c.new-blocks.ensures.items i, sym c.as_slice-picked.ensures.value i)) c.in-Ok.ensures.ok in
    let f = picked_feeding m cache c.args.shard p q c.requires.shard c.requires.feeder c.as_slice-picked.result.now a in
    let none = empty_is c.as_slice-picked.result.now (sym c.is_empty.ensures ∙ c.if-is_empty.true) in
    (Picked c.args.shard [] ∷ [], [], (q, ([], c.as_slice-picked.result.now, a, sym a.out ∙ none), refl), none_counts (Picked c.args.shard []) c.args.report.now refl refl refl, refl, inl (refl, refl, refl, refl))

pub bytes_of-bytes-requires : goal.bytes_of-bytes-requires
bytes_of-bytes-requires g c =
    let m = g.C.Keeps in
    let cache = c.args.arcs.now in
    let p = c.args.party.now in
    let q = c.pick.new.party in
    let turn : ℕ = nth_shard_turn cache.config c.args.shard in
    let a : PicksAll m cache.config turn p q [] c.as_slice-picked.result.now = subst (λ (x : List Block × List Block). PicksAll m cache.config turn p q x.0 x.1) (λ i. (c.new-blocks.ensures.items i, sym c.as_slice-picked.ensures.value i)) c.in-Ok.ensures.ok in
    let f = picked_feeding m cache c.args.shard p q c.requires.shard c.requires.feeder c.as_slice-picked.result.now a in
    let whole = picked_whole cache.config turn (picks_of turn q) c.as_slice-picked.result.now f.here in
    let most = picked_few m cache c.args.shard p q c.requires.shard c.requires.feeder c.as_slice-picked.result.now a in
    let bound = c.requires.feeder.on.valid.bounds.write_max.1 in
    let shards = c.requires.feeder.on.valid.counts.shards.1 in
    let many = few_blocks cache.config c.as_slice-picked.result.now c.requires.feeder.on.valid whole most in
    omega arith

pub overflow_cast-report : goal.overflow_cast-report
overflow_cast-report g c =
    let m = g.C.Keeps in
    let cache = c.args.arcs.now in
    let p = c.args.party.now in
    let q = c.pick.new.party in
    let turn : ℕ = nth_shard_turn cache.config c.args.shard in
    let a : PicksAll m cache.config turn p q [] c.as_slice-picked.result.now = subst (λ (x : List Block × List Block). PicksAll m cache.config turn p q x.0 x.1) (λ i. (c.new-blocks.ensures.items i, sym c.as_slice-picked.ensures.value i)) c.in-Ok.ensures.ok in
    let f = picked_feeding m cache c.args.shard p q c.requires.shard c.requires.feeder c.as_slice-picked.result.now a in
    let whole = picked_whole cache.config turn (picks_of turn q) c.as_slice-picked.result.now f.here in
    let most = picked_few m cache c.args.shard p q c.requires.shard c.requires.feeder c.as_slice-picked.result.now a in
    let bound = c.requires.feeder.on.valid.bounds.write_max.1 in
    let shards = c.requires.feeder.on.valid.counts.shards.1 in
    let many = few_blocks cache.config c.as_slice-picked.result.now c.requires.feeder.on.valid whole most in
    omega arith

pub overflow_add-report : goal.overflow_add-report
overflow_add-report g c =
    let m = g.C.Keeps in
    let cache = c.args.arcs.now in
    let p = c.args.party.now in
    let q = c.pick.new.party in
    let turn : ℕ = nth_shard_turn cache.config c.args.shard in
    let a : PicksAll m cache.config turn p q [] c.as_slice-picked.result.now = subst (λ (x : List Block × List Block). PicksAll m cache.config turn p q x.0 x.1) (λ i. (c.new-blocks.ensures.items i, sym c.as_slice-picked.ensures.value i)) c.in-Ok.ensures.ok in
    let f = picked_feeding m cache c.args.shard p q c.requires.shard c.requires.feeder c.as_slice-picked.result.now a in
    let whole = picked_whole cache.config turn (picks_of turn q) c.as_slice-picked.result.now f.here in
    let most = picked_few m cache c.args.shard p q c.requires.shard c.requires.feeder c.as_slice-picked.result.now a in
    let bound = c.requires.feeder.on.valid.bounds.write_max.1 in
    let shards = c.requires.feeder.on.valid.counts.shards.1 in
    let many = few_blocks cache.config c.as_slice-picked.result.now c.requires.feeder.on.valid whole most in
    let r = c.requires.room.picked in
    let s = c.requires.shard in
    omega arith

pub overflow_add-report-2 : goal.overflow_add-report-2
overflow_add-report-2 g c =
    let m = g.C.Keeps in
    let cache = c.args.arcs.now in
    let p = c.args.party.now in
    let q = c.pick.new.party in
    let turn : ℕ = nth_shard_turn cache.config c.args.shard in
    let a : PicksAll m cache.config turn p q [] c.as_slice-picked.result.now = subst (λ (x : List Block × List Block). PicksAll m cache.config turn p q x.0 x.1) (λ i. (c.new-blocks.ensures.items i, sym c.as_slice-picked.ensures.value i)) c.in-Ok.ensures.ok in
    let f = picked_feeding m cache c.args.shard p q c.requires.shard c.requires.feeder c.as_slice-picked.result.now a in
    let whole = picked_whole cache.config turn (picks_of turn q) c.as_slice-picked.result.now f.here in
    let most = picked_few m cache c.args.shard p q c.requires.shard c.requires.feeder c.as_slice-picked.result.now a in
    let bound = c.requires.feeder.on.valid.bounds.write_max.1 in
    let shards = c.requires.feeder.on.valid.counts.shards.1 in
    let many = few_blocks cache.config c.as_slice-picked.result.now c.requires.feeder.on.valid whole most in
    let e = c.bytes_of-bytes.ensures in
    let r = c.requires.room.bytes in
    let s = c.requires.shard in
    omega arith

pub feed_batch-requires-clause-feeding : goal.feed_batch-requires-clause-feeding
feed_batch-requires-clause-feeding g c = λ _ _.
    let m = g.C.Keeps in
    let cache = c.args.arcs.now in
    let p = c.args.party.now in
    let q = c.pick.new.party in
    let turn : ℕ = nth_shard_turn cache.config c.args.shard in
    let a : PicksAll m cache.config turn p q [] c.as_slice-picked.result.now = subst (λ (x : List Block × List Block). PicksAll m cache.config turn p q x.0 x.1) (λ i. (c.new-blocks.ensures.items i, sym c.as_slice-picked.ensures.value i)) c.in-Ok.ensures.ok in
    let f = picked_feeding m cache c.args.shard p q c.requires.shard c.requires.feeder c.as_slice-picked.result.now a in
    (turn, f)

pub feed_batch-requires-clause-formed : goal.feed_batch-requires-clause-formed
feed_batch-requires-clause-formed g c = λ _ _.
    let m = g.C.Keeps in
    let cache = c.args.arcs.now in
    let p = c.args.party.now in
    let q = c.pick.new.party in
    let turn : ℕ = nth_shard_turn cache.config c.args.shard in
    let a : PicksAll m cache.config turn p q [] c.as_slice-picked.result.now = subst (λ (x : List Block × List Block). PicksAll m cache.config turn p q x.0 x.1) (λ i. (c.new-blocks.ensures.items i, sym c.as_slice-picked.ensures.value i)) c.in-Ok.ensures.ok in
    let f = picked_feeding m cache c.args.shard p q c.requires.shard c.requires.feeder c.as_slice-picked.result.now a in
    picked_whole cache.config turn (picks_of turn q) c.as_slice-picked.result.now f.here

pub feed_batch-requires-clause-few : goal.feed_batch-requires-clause-few
feed_batch-requires-clause-few g c = λ _ _.
    let m = g.C.Keeps in
    let cache = c.args.arcs.now in
    let p = c.args.party.now in
    let q = c.pick.new.party in
    let turn : ℕ = nth_shard_turn cache.config c.args.shard in
    let a : PicksAll m cache.config turn p q [] c.as_slice-picked.result.now = subst (λ (x : List Block × List Block). PicksAll m cache.config turn p q x.0 x.1) (λ i. (c.new-blocks.ensures.items i, sym c.as_slice-picked.ensures.value i)) c.in-Ok.ensures.ok in
    let f = picked_feeding m cache c.args.shard p q c.requires.shard c.requires.feeder c.as_slice-picked.result.now a in
    let whole = picked_whole cache.config turn (picks_of turn q) c.as_slice-picked.result.now f.here in
    let most = picked_few m cache c.args.shard p q c.requires.shard c.requires.feeder c.as_slice-picked.result.now a in
    let bound = c.requires.feeder.on.valid.bounds.write_max.1 in
    let shards = c.requires.feeder.on.valid.counts.shards.1 in
    let many = few_blocks cache.config c.as_slice-picked.result.now c.requires.feeder.on.valid whole most in
    let e = c.bytes_of-bytes.ensures in
    omega arith

pub feed_batch-requires-clause-written : goal.feed_batch-requires-clause-written
feed_batch-requires-clause-written g c = λ _ _.
    let m = g.C.Keeps in
    let cache = c.args.arcs.now in
    let p = c.args.party.now in
    let q = c.pick.new.party in
    let turn : ℕ = nth_shard_turn cache.config c.args.shard in
    let a : PicksAll m cache.config turn p q [] c.as_slice-picked.result.now = subst (λ (x : List Block × List Block). PicksAll m cache.config turn p q x.0 x.1) (λ i. (c.new-blocks.ensures.items i, sym c.as_slice-picked.ensures.value i)) c.in-Ok.ensures.ok in
    let f = picked_feeding m cache c.args.shard p q c.requires.shard c.requires.feeder c.as_slice-picked.result.now a in
    let whole = picked_whole cache.config turn (picks_of turn q) c.as_slice-picked.result.now f.here in
    let most = picked_few m cache c.args.shard p q c.requires.shard c.requires.feeder c.as_slice-picked.result.now a in
    let bound = c.requires.feeder.on.valid.bounds.write_max.1 in
    let shards = c.requires.feeder.on.valid.counts.shards.1 in
    let many = few_blocks cache.config c.as_slice-picked.result.now c.requires.feeder.on.valid whole most in
    let r = c.requires.room.picked in
    let w = c.requires.room.written in
    let s = c.requires.shard in
    omega arith

pub returns-clause-feeder : goal.returns-clause-feeder
returns-clause-feeder g c =
    let m = g.C.Keeps in
    let cache = c.args.arcs.now in
    let p = c.args.party.now in
    let q = c.pick.new.party in
    let turn : ℕ = nth_shard_turn cache.config c.args.shard in
    let a : PicksAll m cache.config turn p q [] c.as_slice-picked.result.now = subst (λ (x : List Block × List Block). PicksAll m cache.config turn p q x.0 x.1) (λ i. (c.new-blocks.ensures.items i, sym c.as_slice-picked.ensures.value i)) c.in-Ok.ensures.ok in
    let f = picked_feeding m cache c.args.shard p q c.requires.shard c.requires.feeder c.as_slice-picked.result.now a in
    ready_again cache turn c.feed_batch.new.party (c.feed_batch.ensures.feeding turn f)

pub returns-clause-room : goal.returns-clause-room
returns-clause-room g c =
    let m = g.C.Keeps in
    let cache = c.args.arcs.now in
    let p = c.args.party.now in
    let q = c.pick.new.party in
    let turn : ℕ = nth_shard_turn cache.config c.args.shard in
    let a : PicksAll m cache.config turn p q [] c.as_slice-picked.result.now = subst (λ (x : List Block × List Block). PicksAll m cache.config turn p q x.0 x.1) (λ i. (c.new-blocks.ensures.items i, sym c.as_slice-picked.ensures.value i)) c.in-Ok.ensures.ok in
    let f = picked_feeding m cache c.args.shard p q c.requires.shard c.requires.feeder c.as_slice-picked.result.now a in
    let whole = picked_whole cache.config turn (picks_of turn q) c.as_slice-picked.result.now f.here in
    let most = picked_few m cache c.args.shard p q c.requires.shard c.requires.feeder c.as_slice-picked.result.now a in
    let bound = c.requires.feeder.on.valid.bounds.write_max.1 in
    let shards = c.requires.feeder.on.valid.counts.shards.1 in
    let many = few_blocks cache.config c.as_slice-picked.result.now c.requires.feeder.on.valid whole most in
    let same = c.feed_batch.ensures.same in
    let sum = c.bytes_of-bytes.ensures in
    let r = c.requires.room in
    let rp = r.picked in
    let rb = r.bytes in
    let rw_ = r.written in
    let wrote = c.feed_batch.ensures.written in
    let sp = same.0 in
    let sb = same.1 in
    record { picked = omega arith; bytes = omega arith; written = omega arith; cleared = c.feed_batch.ensures.cleared }

pub returns-clause-fed : goal.returns-clause-fed
returns-clause-fed g c =
    let m = g.C.Keeps in
    let cache = c.args.arcs.now in
    let p = c.args.party.now in
    let q = c.pick.new.party in
    let turn : ℕ = nth_shard_turn cache.config c.args.shard in
    let a : PicksAll m cache.config turn p q [] c.as_slice-picked.result.now = subst (λ (x : List Block × List Block). PicksAll m cache.config turn p q x.0 x.1) (λ i. (c.new-blocks.ensures.items i, sym c.as_slice-picked.ensures.value i)) c.in-Ok.ensures.ok in
    let f = picked_feeding m cache c.args.shard p q c.requires.shard c.requires.feeder c.as_slice-picked.result.now a in
    let e = c.feed_batch.ensures.acts in
    let r = c.args.report.now in
    let mid : FeedReport = record { picked = r.picked + length c.as_slice-picked.result.now; bytes = r.bytes + c.bytes_of-bytes.result; written = r.written; cleared = r.cleared; end = r.end } in (
      Picked c.args.shard c.as_slice-picked.result.now ∷ (e.0 ++ e.1),
      e.5,
      (q, ([], c.as_slice-picked.result.now, a, sym a.out), e.2),
      picked_counts c.args.shard c.as_slice-picked.result.now (e.0 ++ e.1) c.args.report.now mid c.feed_batch.new.report refl (ap (λ (n : ℕ). c.args.report.now.bytes + n) c.bytes_of-bytes.ensures) refl refl e.3,
      e.6,
      inr (inr record {
        blocks = c.as_slice-picked.result.now;
        some = some_is c.as_slice-picked.result.now (sym c.is_empty.ensures ∙ c.if-is_empty.false);
        whole = picked_whole cache.config turn (picks_of turn q) c.as_slice-picked.result.now f.here;
        clears = e.0;
        settles = e.1;
        acts_are = refl;
        written = e.4;
        asks = e.7;
      }),
    )
