-- What one caller's lines asked the cache device for, one after another.
use Rattle.std.proofs.Common.{◌≡◌, ℕ, List, [], ◌∷◌, ◌++◌, map, Result, Ok, Err, refl, sym, ap, ◌∙◌, subst, append-nil, append_assoc}
use Rattle.std.specs.Prelude.{IfOk, Some, slice_get}
use Rattle.blk_ptr.specs.declared.memory.NoMemory.{NoMemory}
use Rattle.blk_ptr.specs.declared.ptr.Ptr.{Ptr}
use Rattle.blk_ptr.specs.Hash.{shard_of}
use Rattle.vdev_io.specs.declared.device.CacheDev.{Ghosts as DeviceGhosts}
use Rattle.vdev_io.specs.declared.pool.Pool.{Ghosts as PoolGhosts}
use Rattle.vdev_io.specs.Calls.{Call}
use Rattle.arc_core.specs.declared.config.Config.{Config}
use Rattle.arc_core.specs.PlainShard.{PlainShard}
use Rattle.turn_table.specs.Places.{Place}
use Rattle.arc_table.specs.declared.view.Known.{Known}
use Rattle.arc_table.specs.Seen.{HasAll}
use Rattle.trace_text.specs.declared.op.Op.{Op}
use Rattle.trace_text.specs.declared.op.Op.TheVariants as ops
use Rattle.trace_text.specs.declared.reply.Reply.{Reply}
use Rattle.trace_text.specs.declared.reply.Reply.TheVariants.{Capped}
use Rattle.dbuf_state.specs.declared.window.Window.{Window}
use Rattle.trace_run.specs.callers.CallerLines.{At, DidLines, HasFed, HasResized}
use Rattle.trace_run.specs.Effects.{effect_of}
use Rattle.trace_run.specs.KeptReads.{KeptRead}
use Rattle.trace_run.specs.Lines.{shard_of_line}
use Rattle.trace_run.specs.one_caller.Asking.{Asks, AsksLine, AsksLines}
use Rattle.trace_run.specs.one_caller.OneCaller.{kept_after}
use Rattle.trace_run.specs.one_caller.OverShards.{shards_after_op}
use Rattle.trace_run.specs.Reads.{now_of}
use Rattle.arc_core.specs.declared.event.Event.{Event}
use Rattle.arc_core.specs.declared.served.Restored.{Restored}
use Rattle.arc_core.specs.Replay.{replay}
use Rattle.arc_table.specs.Cache.{Cache}
use Rattle.arc_table.specs.Geometry.{parties_of}
use Rattle.arc_table.specs.Telling.{opening_of}
use Rattle.trace_run.specs.declared.kept_blocks.KeptBlock.{KeptBlock}
use Rattle.trace_run.specs.KeptBlocks.{read_of}
use Rattle.trace_run.specs.Opened.{HasJoined}
use Rattle.trace_run.specs.Restores.{restored_shard, restores_in}
use Rattle.trace_run.proofs.LinesLemmas.{line-now}
use Rattle.trace_run.proofs.OpenLemmas.{joined-all, new-seen}

-- ---- one line

module _ {C D : Type 0} (g : Config) (devices : DeviceGhosts D) (blocks : List Ptr) (p : Place (Known C)) (old new : D) where
  -- what a line on a block asked for, by its block's pointer
  abbrev pub AloneAsks : Op → Reply → Type 0
  AloneAsks op reply = HasAll p → (calls : List Call) × AsksLine devices blocks (now_of g (shard_of_line g.shards blocks op) p) op reply calls old new

  pub read-line-asks : (n t x : ℕ) (window : Window) (ptr : Ptr) (result : Result Reply NoMemory) → slice_get blocks x ≡ Some ptr
      → IfOk result (λ reply. HasAll p → Asks devices (now_of g (shard_of g.shards ptr.key) p) ptr (effect_of reply) old new) → IfOk result (AloneAsks (ops.Read n t x window))
  read-line-asks n t x window ptr (Err e) there asks = tt
  read-line-asks n t x window ptr (Ok reply) there asks = λ all. ((asks all).0, rw there (asks all).1)

  pub hold-line-asks : (n t x : ℕ) (ptr : Ptr) (result : Result Reply NoMemory) → slice_get blocks x ≡ Some ptr
      → IfOk result (λ reply. HasAll p → Asks devices (now_of g (shard_of g.shards ptr.key) p) ptr (effect_of reply) old new) → IfOk result (AloneAsks (ops.Hold n t x))
  hold-line-asks n t x ptr (Err e) there asks = tt
  hold-line-asks n t x ptr (Ok reply) there asks = λ all. ((asks all).0, rw there (asks all).1)

-- ---- all lines

-- the shards, and the reads that are kept, once all operations with these replies are done
abbrev pub shards_after_all : (shards : ℕ) → List Ptr → (ℕ → PlainShard) → List KeptRead → List Op → List Reply → ℕ → PlainShard
shards_after_all shards blocks s kept [] replies = s
shards_after_all shards blocks s kept (op ∷ ops) [] = s
shards_after_all shards blocks s kept (op ∷ ops) (reply ∷ replies) = shards_after_all shards blocks (shards_after_op shards blocks s kept op reply) (kept_after blocks op reply kept) ops replies

module _ {D : Type 0} (devices : DeviceGhosts D) (shards : ℕ) (blocks : List Ptr) where
  -- one line more
  pub asks-more : (s : ℕ → PlainShard) (kept : List KeptRead) (os : List Op) (rs : List Reply) (calls own : List Call) (o : Op) (r : Reply) (x y z : D) → AsksLines devices shards blocks s kept os rs calls x y
      → AsksLine devices blocks (shards_after_all shards blocks s kept os rs (shard_of_line shards blocks o)) o r own y z → AsksLines devices shards blocks s kept (os ++ o ∷ []) (rs ++ r ∷ []) (calls ++ own) x z
  asks-more s kept [] [] calls own o r x y z asks one =
      (own, [], z, (λ h. asks.0 h ++ own) ∙ sym (append-nil own), subst (λ (d : D). AsksLine devices blocks (s (shard_of_line shards blocks o)) o r own d z) asks.1 one, (refl, refl))
  asks-more s kept [] (q ∷ qs) calls own o r x y z asks one = absurd asks
  asks-more s kept (p ∷ ps) [] calls own o r x y z asks one = absurd asks
  asks-more s kept (p ∷ ps) (q ∷ qs) calls own o r x y z asks one =
      let first = asks.0 in
      let rest = asks.1 in (
        first,
        rest ++ own,
        asks.2,
        (λ h. asks.3 h ++ own) ∙ append_assoc first rest own,
        asks.4,
        asks-more (shards_after_op shards blocks s kept p q) (kept_after blocks p q kept) ps qs rest own o r asks.2 y z asks.5 one,
      )

-- a party that is alone finds those shards behind its lines
pub lines-now : {C P : Type 0} (g : Config) (pools : PoolGhosts P) (blocks : List Ptr) (os : List Op) (rs : List Reply) (a b : At C P) → DidLines g pools blocks os rs a b → HasAll a.party
    → (λ (i : ℕ). now_of g i b.party) ≡ shards_after_all g.shards blocks (λ i. now_of g i a.party) a.kept os rs
lines-now g pools blocks [] [] a b did all = λ h i. now_of g i (did h).party
lines-now g pools blocks [] (r ∷ rs) a b did all = absurd did
lines-now g pools blocks (o ∷ os) [] a b did all = absurd did
lines-now g pools blocks (o ∷ os) (r ∷ rs) a b did all =
    let next = did.0 in
    let one = did.1 in
    let same : (λ (i : ℕ). now_of g i next.party) ≡ shards_after_op g.shards blocks (λ i. now_of g i a.party) a.kept o r = λ h i. line-now g pools blocks o r a next one all i h in
    lines-now g pools blocks os rs next b did.2 (one.did.all all) ∙ (λ h. shards_after_all g.shards blocks (same h) (one.kept h) os rs)

-- a line that is no caller's asks nothing
pub capped-asks : {C D : Type 0} {g : Config} {p q : Place (Known C)} (devices : DeviceGhosts D) (blocks : List Ptr) (s : PlainShard) (op : Op) (reply : Reply) → (c : ℕ) × (op ≡ ops.Cap c) × (reply ≡ Capped c) × HasResized g c p q → (x : D)
    → AsksLine devices blocks s op reply [] x x
capped-asks devices blocks s op reply did x = subst (λ (o : Op). AsksLine devices blocks s o reply [] x x) (sym did.1) (refl, refl)

-- and so with all lines so far
pub asks-line : {C P D : Type 0} (devices : DeviceGhosts D) (g : Config) (pools : PoolGhosts P) (blocks : List Ptr) (os : List Op) (rs : List Reply) (o : Op) (r : Reply) (rs_then : List Reply) → rs_then ≡ rs ++ r ∷ []
    → (a b : At C P) {os_then : List Op} → os ++ o ∷ [] ≡ os_then → DidLines g pools blocks os rs a b → HasAll a.party → (calls own : List Call) (x y z : D)
    → AsksLines devices g.shards blocks (λ i. now_of g i a.party) a.kept os rs calls x y → AsksLine devices blocks (now_of g (shard_of_line g.shards blocks o) b.party) o r own y z
    → (calls : List Call) × AsksLines devices g.shards blocks (λ i. now_of g i a.party) a.kept os_then rs_then calls x z
asks-line devices g pools blocks os rs o r rs_then rs_is a b os_is did all calls own x y z asks one =
    let now = lines-now g pools blocks os rs a b did all in
    let here : AsksLine devices blocks (shards_after_all g.shards blocks (λ i. now_of g i a.party) a.kept os rs (shard_of_line g.shards blocks o)) o r own y z =
    subst (λ (s : ℕ → PlainShard). AsksLine devices blocks (s (shard_of_line g.shards blocks o)) o r own y z) now one in (
      calls ++ own,
      subst (λ (w : List Op × List Reply). AsksLines devices g.shards blocks (λ i. now_of g i a.party) a.kept w.0 w.1 (calls ++ own) x z) (λ h. (os_is h, sym rs_is h))
          (asks-more devices g.shards blocks (λ i. now_of g i a.party) a.kept os rs calls own o r x y z asks here),
    )

-- over shards that keys were restored to, for a caller that keeps nothing
pub asks-from : {D : Type 0} (devices : DeviceGhosts D) (g h : Config) → g ≡ h → (blocks : List Ptr) (restored : List Restored) (s : ℕ → PlainShard) → ((i : ℕ) → s i ≡ restored_shard g restored i) → (kept : List KeptBlock) → kept ≡ []
    → (os : List Op) (rs : List Reply) (calls : List Call) (x y : D) → AsksLines devices g.shards blocks s (map read_of kept) os rs calls x y → AsksLines devices h.shards blocks (restored_shard h restored) [] os rs calls x y
asks-from devices g h same blocks restored s opens kept none os rs calls x y asks =
    subst (λ (c : Config). AsksLines devices c.shards blocks (restored_shard c restored) [] os rs calls x y) same
    (subst (λ (z : (ℕ → PlainShard) × List KeptBlock). AsksLines devices g.shards blocks z.0 (map read_of z.1) os rs calls x y) (λ h. (λ i. opens i h, none h)) asks)

-- what a party finds to which keys were restored, and which has every number
pub begun-alone : {C : Type 0} (cache : Cache) (restored : List Restored) (new p : Place (Known C)) → HasJoined cache (parties_of cache.config) new → HasFed cache.config (restores_in cache.config restored) new p
    → HasAll p × ((shard : ℕ) → now_of cache.config shard p ≡ restored_shard cache.config restored shard)
begun-alone cache restored new p first fed =
    (fed.all (joined-all cache new first), λ shard. ap (replay (opening_of cache.config)) (fed.seen shard ∙ ap (λ (es : List Event). es ++ restores_in cache.config restored shard) (new-seen cache new first.new shard)))
