-- A read, a hold or a drop of two runs that stand alike: it is answered the same, and they stand alike again; or a read shows two contents of one digest (arc_read of arc.c, for a single thread).
use Rattle.std.proofs.Common.{◌≡◌, ◌⊎◌, ℕ, List, [], ◌++◌, length, Option, Some, None, IfSome, inl, inr, refl, sym, ap, subst, ◌∙◌}
use Rattle.std.specs.Prelude.{slice_get}
use Rattle.std.specs.Option.{option_map_or}
use Rattle.blk_ptr.specs.Hash.{shard_of}
use Rattle.blk_ptr.specs.declared.ptr.Ptr.{Ptr}
use Rattle.arc_core.specs.Config.{IsConfig}
use Rattle.arc_core.specs.declared.event.Event.{Event}
use Rattle.arc_core.specs.PlainShard.{PlainShard}
use Rattle.dbuf_state.specs.declared.window.Window.{Window}
use Rattle.vdev_io.specs.declared.device.CacheDev.{Ghosts as Devices}
use Rattle.vdev_io.specs.declared.pool.Pool.{Ghosts}
use Rattle.vdev_io.specs.Calls.{Call}
use Rattle.trace_text.specs.declared.op.Op.{Op}
use Rattle.trace_text.specs.declared.op.Op.TheVariants as ops
use Rattle.trace_text.specs.declared.reply.Reply.{Reply}
use Rattle.trace_text.specs.declared.trace.Trace.{Trace}
use Rattle.trace_run.specs.Answers.{AnswersHold, AnswersRead}
use Rattle.trace_run.specs.Effects.{calls_of, effect_of}
use Rattle.trace_run.specs.Feeds.{FeedDone}
use Rattle.trace_run.specs.KeptReads.{KeptRead}
use Rattle.trace_run.specs.Lines.{caller_of, shard_of_line}
use Rattle.trace_run.specs.Tally.{AnswersNow}
use Rattle.trace_run.specs.callers.WorkLines.{effect_with}
use Rattle.trace_run.specs.dbufs.Objects.{Line, Work, no_work}
use Rattle.trace_run.specs.one_caller.Access.{access_of}
use Rattle.trace_run.specs.one_caller.OneCaller.{NamesSource, events_of_op_in, kept_after}
use Rattle.trace_run.specs.one_caller.Sequence.{BetweenLines, DoesAnyLine, DoesLine, DoesRead, IfLent, NotFromDevice, shard_behind}
use Rattle.run_laws.specs.Alike.{AreAlike, AreAlikeSoFar, AreDevicesAlike, device_answers_to, own_answers, pool_answers_to, writes_of}
use Rattle.run_laws.proofs.AskedAlike.{AsksByCalls, asked-alike, block_answers, source-alike}
use Rattle.run_laws.proofs.Behind.{caller-then, goes-cell, goes-shard, same-shard}
use Rattle.run_laws.proofs.ReadAlike.{ShowTwo, drops-alike, holds-alike, reads-alike}
use Rattle.run_laws.proofs.Rows.{common-next, so-far-front}
use Rattle.run_laws.proofs.ShardsLegal.{AreLegalShards}
use Rattle.run_laws.proofs.Steps.{PartsAt, StepAlike}

-- a line on a block that the trace declares, which asks for no object
abbrev pub IsOnBlock : Op → Type 0
IsOnBlock (ops.Read n t x window) = Unit {0}
IsOnBlock (ops.Hold n t x) = Unit {0}
IsOnBlock (ops.Drop n x) = Unit {0}
IsOnBlock (ops.Get n t at window) = ⊥
IsOnBlock (ops.Put n t at size fill) = ⊥
IsOnBlock (ops.Patch n t at start bytes) = ⊥
IsOnBlock (ops.Pin n t at) = ⊥
IsOnBlock (ops.Unpin n at) = ⊥
IsOnBlock ops.Feed = ⊥
IsOnBlock (ops.Txg t) = ⊥
IsOnBlock (ops.Cap c) = ⊥

-- the line of this operation that was answered so
abbrev pub line_of : Op → Reply → Work → Line
line_of op reply work = record { op = op; reply = reply; work = work }

-- such a line read the pool as its reply says, and did nothing else there
pool-answers : (op : Op) (r : Reply) (w : Work) → w ≡ no_work → pool_answers_to (line_of op r w) ≡ calls_of (effect_of r) ++ writes_of op no_work
pool-answers op r w none = λ h. calls_of (effect_with (none h).brought r) ++ writes_of op (none h)

-- so its calls are alike where its answers are
reads-so-far : (op : Op) (r q : Reply) (w v : Work) → w ≡ no_work → v ≡ no_work → AreAlikeSoFar (pool_answers_to (line_of op r w)) (pool_answers_to (line_of op q v)) → AreAlikeSoFar (calls_of (effect_of r)) (calls_of (effect_of q))
reads-so-far op r q w v none other_none rows =
    so-far-front (calls_of (effect_of r)) (writes_of op no_work) (calls_of (effect_of q)) (writes_of op no_work)
    (subst (λ (xs : List Call × List Call). AreAlikeSoFar xs.0 xs.1) (λ h. (pool-answers op r w none h, pool-answers op q v other_none h)) rows)

some-same : {X : Type 0} (x y : X) → Some x ≡ Some y → x ≡ y
some-same x y is = cc

-- what is so of the block that is there
of-there : {X : Type 0} (x : X) (Of : X → Type 0) → ((y : X) × (Some x ≡ Some y) × Of y) → Of x
of-there x Of found = subst Of (sym (some-same x found.0 found.1)) found.2

none-there : {X : Type 0} {x : X} → None ≡ Some x → ⊥
none-there is = cc

module _ {P D : Type 0} (pools : Ghosts P) (devices : Devices D) (pool_len : (p : P) (bytes : List ℕ) → pools.told p ≡ Some bytes → length bytes ≡ pools.size p) (trace : Trace) where
  -- ---- what was answered

  -- the answer goes by the bytes that both pools tell, and by the kept reads
  one-answers : (op : Op) (r : Reply) (w : Work) (from to other : BetweenLines P D) (alike : AreAlike pools devices trace from other) → DoesRead pools devices trace (line_of op r w) from to
      → AnswersNow (length alike.image) (Some alike.image) trace.blocks from.kept op r
  one-answers op r w from to other alike did =
      subst (λ (x : ℕ × Option (List ℕ)). AnswersNow x.0 x.1 trace.blocks from.kept op r) (λ h. (sym (pool_len from.outside.pool alike.image alike.told) h, alike.told h)) did.answer

  other-answers : (op : Op) (q : Reply) (v : Work) (from other other_to : BetweenLines P D) (alike : AreAlike pools devices trace from other) → DoesRead pools devices trace (line_of op q v) other other_to
      → AnswersNow (length alike.image) (Some alike.image) trace.blocks from.kept op q
  other-answers op q v from other other_to alike did =
      subst (λ (x : ℕ × Option (List ℕ) × List KeptRead). AnswersNow x.0 x.1 trace.blocks x.2 op q)
      (λ h. (sym (pool_len other.outside.pool alike.image alike.other_told) h, alike.other_told h, alike.kept h)) did.answer

  -- it is the shard of the block's key
  abbrev IsOfShard : (shards : ℕ → PlainShard) → (there : Option Ptr) → PlainShard → Type 0
  IsOfShard shards there s = IfSome there (λ ptr. s ≡ shards (shard_of trace.config.shards ptr.key))

  block-shard : (shards : ℕ → PlainShard) (there : Option Ptr) → IsOfShard shards there (shards (option_map_or (λ (ptr : Ptr). shard_of trace.config.shards ptr.key) there 0))
  block-shard shards None = tt
  block-shard shards (Some ptr) = refl

  -- a read of one block shows the same in both runs, or two contents of its pointer
  read-there : (shards : ℕ → PlainShard) (there : Option Ptr) (window : Window) (image : List ℕ) (s z : PlainShard) (r q : Reply) → IsOfShard shards there s → z ≡ s → ((ptr : Ptr) × (there ≡ Some ptr) × AnswersRead (length image) (Some image) ptr window r)
      → ((ptr : Ptr) × (there ≡ Some ptr) × AnswersRead (length image) (Some image) ptr window q) → IfSome there (λ ptr. NamesSource (access_of s ptr) (effect_of r)) → IfSome there (λ ptr. NamesSource (access_of z ptr) (effect_of q))
      → (old new other other_new : Option D) → AreDevicesAlike pools devices trace shards old other → (asks : IfLent (NotFromDevice (effect_of r)) (AsksByCalls pools devices trace s there (effect_of r)) old new)
      → (other_asks : IfLent (NotFromDevice (effect_of q)) (AsksByCalls pools devices trace z there (effect_of q)) other other_new)
      → AreAlikeSoFar (block_answers pools devices trace s there (effect_of r) old new asks) (block_answers pools devices trace z there (effect_of q) other other_new other_asks)
      → AreAlikeSoFar (calls_of (effect_of r)) (calls_of (effect_of q)) → (q ≡ r) ⊎ ((ptr : Ptr) × (there ≡ Some ptr) × ShowTwo ptr window r q)
  read-there shards None window image s z r q here same one two named other_named old new other other_new alike asks other_asks rows calls = absurd (none-there one.1)
  read-there shards (Some ptr) window image s z r q here same one two named other_named old new other other_new alike asks other_asks rows calls =
      let source = source-alike pools devices trace shards ptr s z (effect_of r) (effect_of q) here same named other_named old new other other_new alike asks other_asks rows in
      let call = common-next (calls_of (effect_of r)) (calls_of (effect_of q)) calls in
      let Of : Reply → Ptr → Type 0 = λ reply p. AnswersRead (length image) (Some image) p window reply in
      elim (reads-alike image ptr window source.0 r q call.0 (of-there ptr (Of r) one) (of-there ptr (Of q) two) source.1 source.2 call.1 call.2) [
        | inl equal ↦ inl equal
        | inr shows ↦ inr (ptr, refl, shows)
      ]

  -- and a hold is answered the same
  hold-there : (shards : ℕ → PlainShard) (there : Option Ptr) (image : List ℕ) (s z : PlainShard) (r q : Reply) → IsOfShard shards there s → z ≡ s → ((ptr : Ptr) × (there ≡ Some ptr) × AnswersHold (length image) (Some image) ptr r)
      → ((ptr : Ptr) × (there ≡ Some ptr) × AnswersHold (length image) (Some image) ptr q) → IfSome there (λ ptr. NamesSource (access_of s ptr) (effect_of r)) → IfSome there (λ ptr. NamesSource (access_of z ptr) (effect_of q))
      → (old new other other_new : Option D) → AreDevicesAlike pools devices trace shards old other → (asks : IfLent (NotFromDevice (effect_of r)) (AsksByCalls pools devices trace s there (effect_of r)) old new)
      → (other_asks : IfLent (NotFromDevice (effect_of q)) (AsksByCalls pools devices trace z there (effect_of q)) other other_new)
      → AreAlikeSoFar (block_answers pools devices trace s there (effect_of r) old new asks) (block_answers pools devices trace z there (effect_of q) other other_new other_asks)
      → AreAlikeSoFar (calls_of (effect_of r)) (calls_of (effect_of q)) → q ≡ r
  hold-there shards None image s z r q here same one two named other_named old new other other_new alike asks other_asks rows calls = absurd (none-there one.1)
  hold-there shards (Some ptr) image s z r q here same one two named other_named old new other other_new alike asks other_asks rows calls =
      let source = source-alike pools devices trace shards ptr s z (effect_of r) (effect_of q) here same named other_named old new other other_new alike asks other_asks rows in
      let call = common-next (calls_of (effect_of r)) (calls_of (effect_of q)) calls in
      let Of : Reply → Ptr → Type 0 = λ reply p. AnswersHold (length image) (Some image) p reply in
      holds-alike image ptr source.0 r q call.0 (of-there ptr (Of r) one) (of-there ptr (Of q) two) source.1 source.2 call.1 call.2

  -- ---- a line of either kind

  -- what is known of both runs at a line on a block
  record BothRead (op : Op) (r q : Reply) (w v : Work) (from to other other_to : BetweenLines P D) : Type 0 where
    pub did : DoesRead pools devices trace (line_of op r w) from to
    pub other_did : DoesRead pools devices trace (line_of op q v) other other_to
    pub alike : AreAlike pools devices trace from other
    pub calls : AreAlikeSoFar (calls_of (effect_of r)) (calls_of (effect_of q))
    pub rows : AreAlikeSoFar (own_answers pools devices trace None (line_of op r w) from to did) (own_answers pools devices trace None (line_of op q v) other other_to other_did)

  -- the reply is one
  read-reply : (n t x : ℕ) (window : Window) (r q : Reply) (w v : Work) (from to other other_to : BetweenLines P D) → BothRead (ops.Read n t x window) r q w v from to other other_to
      → (q ≡ r) ⊎ ((ptr : Ptr) × (slice_get trace.blocks x ≡ Some ptr) × ShowTwo ptr window r q)
  read-reply n t x window r q w v from to other other_to both =
      let op : Op = ops.Read n t x window in
      let shard : ℕ = shard_of_line trace.config.shards trace.blocks op in
      read-there (shard_behind trace.config from.shards) (slice_get trace.blocks x) window both.alike.image (shard_behind trace.config from.shards shard) (shard_behind trace.config other.shards shard) r q
      (block-shard (shard_behind trace.config from.shards) (slice_get trace.blocks x)) (same-shard pools devices trace from other both.alike shard)
      (one-answers op r w from to other both.alike both.did) (other-answers op q v from other other_to both.alike both.other_did) both.did.found both.other_did.found from.device to.device other.device other_to.device
      both.alike.device both.did.asks both.other_did.asks both.rows both.calls

  hold-reply : (n t x : ℕ) (r q : Reply) (w v : Work) (from to other other_to : BetweenLines P D) → BothRead (ops.Hold n t x) r q w v from to other other_to → q ≡ r
  hold-reply n t x r q w v from to other other_to both =
      let op : Op = ops.Hold n t x in
      let shard : ℕ = shard_of_line trace.config.shards trace.blocks op in
      hold-there (shard_behind trace.config from.shards) (slice_get trace.blocks x) both.alike.image (shard_behind trace.config from.shards shard) (shard_behind trace.config other.shards shard) r q
      (block-shard (shard_behind trace.config from.shards) (slice_get trace.blocks x)) (same-shard pools devices trace from other both.alike shard)
      (one-answers op r w from to other both.alike both.did) (other-answers op q v from other other_to both.alike both.other_did) both.did.found both.other_did.found from.device to.device other.device other_to.device
      both.alike.device both.did.asks both.other_did.asks both.rows both.calls

  drop-reply : (n x : ℕ) (r q : Reply) (w v : Work) (from to other other_to : BetweenLines P D) → BothRead (ops.Drop n x) r q w v from to other other_to → q ≡ r
  drop-reply n x r q w v from to other other_to both =
      drops-alike x from.kept r q (one-answers (ops.Drop n x) r w from to other both.alike both.did) (other-answers (ops.Drop n x) q v from other other_to both.alike both.other_did)

  -- of one reply, both devices were asked the same and tell the same behind it
  own-asked : (op : Op) → IsOnBlock op → (r q : Reply) (w v : Work) (from to other other_to : BetweenLines P D) (both : BothRead op r q w v from to other other_to) → q ≡ r
      → (own_answers pools devices trace None (line_of op q v) other other_to both.other_did ≡ own_answers pools devices trace None (line_of op r w) from to both.did) × AreDevicesAlike pools devices trace (shard_behind trace.config from.shards) to.device other_to.device
  own-asked (ops.Read n t x window) on r q w v from to other other_to both same =
      let shard : ℕ = shard_of_line trace.config.shards trace.blocks (ops.Read n t x window) in
      asked-alike pools devices trace (shard_behind trace.config from.shards) (slice_get trace.blocks x) (shard_behind trace.config from.shards shard) (shard_behind trace.config other.shards shard) (effect_of r) (effect_of q)
      (same-shard pools devices trace from other both.alike shard) (ap effect_of same) from.device to.device other.device other_to.device both.alike.device both.did.asks both.other_did.asks both.rows
  own-asked (ops.Hold n t x) on r q w v from to other other_to both same =
      let shard : ℕ = shard_of_line trace.config.shards trace.blocks (ops.Hold n t x) in
      asked-alike pools devices trace (shard_behind trace.config from.shards) (slice_get trace.blocks x) (shard_behind trace.config from.shards shard) (shard_behind trace.config other.shards shard) (effect_of r) (effect_of q)
      (same-shard pools devices trace from other both.alike shard) (ap effect_of same) from.device to.device other.device other_to.device both.alike.device both.did.asks both.other_did.asks both.rows
  own-asked (ops.Drop n x) on r q w v from to other other_to both same =
      let shard : ℕ = shard_of_line trace.config.shards trace.blocks (ops.Drop n x) in
      asked-alike pools devices trace (shard_behind trace.config from.shards) None (shard_behind trace.config from.shards shard) (shard_behind trace.config other.shards shard) (effect_of r) (effect_of q)
      (same-shard pools devices trace from other both.alike shard) (ap effect_of same) from.device to.device other.device other_to.device both.alike.device both.did.asks both.other_did.asks both.rows
  own-asked other on r q w v from to other_from other_to both same = absurd on

  -- and what stands behind the line is alike
  read-then : (op : Op) (r q : Reply) (w v : Work) (from to other other_to : BetweenLines P D) → BothRead op r q w v from to other other_to → q ≡ r → IsConfig trace.config → AreLegalShards trace to.shards
      → AreDevicesAlike pools devices trace (shard_behind trace.config from.shards) to.device other_to.device → DoesLine pools devices trace (line_of op r w) from to → DoesLine pools devices trace (line_of op q v) other other_to → AreAlike pools devices trace to other_to
  read-then op r q w v from to other other_to both same valid legal device does other_does =
      let alike = both.alike in
      let es : ℕ → List Event = λ shard. events_of_op_in trace.config.shards trace.blocks shard (shard_behind trace.config from.shards shard) from.kept op r in
      let fs : ℕ → List Event = λ shard. events_of_op_in trace.config.shards trace.blocks shard (shard_behind trace.config other.shards shard) other.kept op q in
      let made : (shard : ℕ) → fs shard ≡ es shard = λ shard h. events_of_op_in trace.config.shards trace.blocks shard (same-shard pools devices trace from other alike shard h) (alike.kept h) op (same h) in
      let kept : kept_after trace.blocks op q other.kept ≡ kept_after trace.blocks op r from.kept = λ h. kept_after trace.blocks op (same h) (alike.kept h) in
      caller-then pools devices trace valid (line_of op r w) (line_of op q v) from to other other_to alike does other_does legal device
      (λ shard. goes-shard trace.config es fs [] [] from to other other_to both.did.goes_on both.other_did.goes_on shard (alike.shards shard) (made shard))
      (λ i is. goes-cell trace.config es fs [] [] from to other other_to both.did.goes_on both.other_did.goes_on i is (alike.cells i is) refl)
      (both.other_did.kept ∙ (kept ∙ sym both.did.kept))

  -- what both pools were asked
  pool-same : (op : Op) (r q : Reply) (w v : Work) → w ≡ no_work → v ≡ no_work → q ≡ r → pool_answers_to (line_of op q v) ≡ pool_answers_to (line_of op r w)
  pool-same op r q w v none other_none same =
      let reads : calls_of (effect_of q) ++ writes_of op no_work ≡ calls_of (effect_of r) ++ writes_of op no_work = ap (λ (reply : Reply). calls_of (effect_of reply) ++ writes_of op no_work) same in
      pool-answers op q v other_none ∙ (reads ∙ sym (pool-answers op r w none))

  -- ---- the step

  abbrev Comes : (op : Op) (r q : Reply) (w v : Work) (here there : List FeedDone) (from to other other_to : BetweenLines P D) → DoesAnyLine pools devices trace (caller_of op) (line_of op r w) here from to
      → DoesAnyLine pools devices trace (caller_of op) (line_of op q v) there other other_to → Type 0
  Comes op r q w v here there from to other other_to did other_did =
      StepAlike pools devices trace (line_of op r w) (line_of op q v) here there from to other other_to did other_did ⊎ PartsAt pools devices trace from.cells (line_of op r w) (line_of op q v) here there

  -- a read, a hold or a drop
  pub block-step : (op : Op) → IsOnBlock op → (r q : Reply) (w v : Work) (here there : List FeedDone) (from to other other_to : BetweenLines P D) (did : DoesAnyLine pools devices trace (caller_of op) (line_of op r w) here from to)
      (other_did : DoesAnyLine pools devices trace (caller_of op) (line_of op q v) there other other_to) → IsConfig trace.config → AreLegalShards trace to.shards → AreAlike pools devices trace from other → AreAlikeSoFar (pool_answers_to (line_of op r w)) (pool_answers_to (line_of op q v))
      → AreAlikeSoFar (device_answers_to pools devices trace (caller_of op) (line_of op r w) here from to did) (device_answers_to pools devices trace (caller_of op) (line_of op q v) there other other_to other_did)
      → Comes op r q w v here there from to other other_to did other_did
  block-step (ops.Read n t x window) on r q w v here there from to other other_to did other_did valid legal alike pool rows =
      let op : Op = ops.Read n t x window in
      let d = did.1.did in
      let e = other_did.1.did in
      let both : BothRead op r q w v from to other other_to = record { did = d; other_did = e; alike = alike; calls = reads-so-far op r q w v d.work e.work pool; rows = rows } in
      elim (read-reply n t x window r q w v from to other other_to both) [
        | inl same ↦
            let asked = own-asked op tt r q w v from to other other_to both same in
            inl (record {
              then = read-then op r q w v from to other other_to both same valid legal asked.1 did.1 other_did.1;
              reply = same;
              pool = pool-same op r q w v d.work e.work same;
              device = asked.0;
              many = ap (λ (fs : List FeedDone). length fs) (other_did.0 ∙ sym did.0);
            })
        | inr shows ↦ inr (PartsAt.shows shows.0 shows.2.two (shows.1, (shows.2.from, shows.2.shown, shows.2.other_shown), shows.2.differ))
      ]
  block-step (ops.Hold n t x) on r q w v here there from to other other_to did other_did valid legal alike pool rows =
      let op : Op = ops.Hold n t x in
      let d = did.1.did in
      let e = other_did.1.did in
      let both : BothRead op r q w v from to other other_to = record { did = d; other_did = e; alike = alike; calls = reads-so-far op r q w v d.work e.work pool; rows = rows } in
      let same : q ≡ r = hold-reply n t x r q w v from to other other_to both in
      let asked = own-asked op tt r q w v from to other other_to both same in
      inl (record {
        then = read-then op r q w v from to other other_to both same valid legal asked.1 did.1 other_did.1;
        reply = same;
        pool = pool-same op r q w v d.work e.work same;
        device = asked.0;
        many = ap (λ (fs : List FeedDone). length fs) (other_did.0 ∙ sym did.0);
      })
  block-step (ops.Drop n x) on r q w v here there from to other other_to did other_did valid legal alike pool rows =
      let op : Op = ops.Drop n x in
      let d = did.1.did in
      let e = other_did.1.did in
      let both : BothRead op r q w v from to other other_to = record { did = d; other_did = e; alike = alike; calls = reads-so-far op r q w v d.work e.work pool; rows = rows } in
      let same : q ≡ r = drop-reply n x r q w v from to other other_to both in
      let asked = own-asked op tt r q w v from to other other_to both same in
      inl (record {
        then = read-then op r q w v from to other other_to both same valid legal asked.1 did.1 other_did.1;
        reply = same;
        pool = pool-same op r q w v d.work e.work same;
        device = asked.0;
        many = ap (λ (fs : List FeedDone). length fs) (other_did.0 ∙ sym did.0);
      })
  block-step other on r q w v here there from to other_from other_to did other_did valid legal alike pool rows = absurd on
