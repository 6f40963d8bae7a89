-- Lines on blocks, capacities and feeds among all lines of two runs. The first two make no feed, so the ring stays as it was.
use Rattle.std.proofs.Common.{◌≡◌, ℕ, List, [], length, Some, inl, inr, sym, subst}
use Rattle.arc_core.specs.Config.{IsConfig}
use Rattle.l2_dev.specs.Cursor.{CursorState}
use Rattle.l2_feed.specs.Alike.{AreCursorsAlike}
use Rattle.vdev_io.specs.declared.device.CacheDev.{Ghosts as Devices}
use Rattle.vdev_io.specs.declared.pool.Pool.{Ghosts}
use Rattle.trace_text.specs.declared.op.Op.{Op}
use Rattle.trace_text.specs.declared.op.Op.TheVariants as ops
use Rattle.trace_text.specs.declared.reply.Reply.{Reply}
use Rattle.trace_text.specs.declared.trace.Trace.{Trace}
use Rattle.trace_run.specs.FeedSeries.{GoOn}
use Rattle.trace_run.specs.Feeds.{FeedDone}
use Rattle.trace_run.specs.Lines.{caller_of}
use Rattle.trace_run.specs.RunWork.{FitsBy}
use Rattle.trace_run.specs.dbufs.Objects.{Line, Work}
use Rattle.trace_run.specs.one_caller.Sequence.{BetweenLines, DoesAnyLine}
use Rattle.run_laws.proofs.CapStep.{cap-step}
use Rattle.run_laws.proofs.feeds.FeedStep.{feed-step}
use Rattle.run_laws.proofs.LinesAlike.{Caps, Feeds, Objects, Reads, StepsAlike, Syncs, kind_of}
use Rattle.run_laws.proofs.ReadStep.{IsOnBlock, block-step, line_of}
use Rattle.run_laws.proofs.ShardsLegal.{AreLegalShards}

on-block : (op : Op) → kind_of op ≡ Reads → IsOnBlock op
on-block (ops.Read n t x window) is = tt
on-block (ops.Hold n t x) is = tt
on-block (ops.Drop n x) is = tt
on-block (ops.Get n t at window) is = let clash : Objects ≡ Reads = is in cc
on-block (ops.Put n t at size fill) is = let clash : Objects ≡ Reads = is in cc
on-block (ops.Patch n t at start bytes) is = let clash : Objects ≡ Reads = is in cc
on-block (ops.Pin n t at) is = let clash : Objects ≡ Reads = is in cc
on-block (ops.Unpin n at) is = let clash : Objects ≡ Reads = is in cc
on-block ops.Feed is = let clash : Feeds ≡ Reads = is in cc
on-block (ops.Txg t) is = let clash : Syncs ≡ Reads = is in cc
on-block (ops.Cap c) is = let clash : Caps ≡ Reads = is in cc

abbrev IsFeedLine : Op → Type 0
IsFeedLine ops.Feed = Unit {0}
IsFeedLine (ops.Read n t x window) = ⊥
IsFeedLine (ops.Hold n t x) = ⊥
IsFeedLine (ops.Drop n x) = ⊥
IsFeedLine (ops.Get n t at window) = ⊥
IsFeedLine (ops.Put n t at size fill) = ⊥
IsFeedLine (ops.Patch n t at start bytes) = ⊥
IsFeedLine (ops.Pin n t at) = ⊥
IsFeedLine (ops.Unpin n at) = ⊥
IsFeedLine (ops.Txg t) = ⊥
IsFeedLine (ops.Cap c) = ⊥

feed-line : (op : Op) → kind_of op ≡ Feeds → IsFeedLine op
feed-line ops.Feed is = tt
feed-line (ops.Read n t x window) is = let clash : Reads ≡ Feeds = is in cc
feed-line (ops.Hold n t x) is = let clash : Reads ≡ Feeds = is in cc
feed-line (ops.Drop n x) is = let clash : Reads ≡ Feeds = is in cc
feed-line (ops.Get n t at window) is = let clash : Objects ≡ Feeds = is in cc
feed-line (ops.Put n t at size fill) is = let clash : Objects ≡ Feeds = is in cc
feed-line (ops.Patch n t at start bytes) is = let clash : Objects ≡ Feeds = is in cc
feed-line (ops.Pin n t at) is = let clash : Objects ≡ Feeds = is in cc
feed-line (ops.Unpin n at) is = let clash : Objects ≡ Feeds = is in cc
feed-line (ops.Txg t) is = let clash : Syncs ≡ Feeds = is in cc
feed-line (ops.Cap c) is = let clash : Caps ≡ Feeds = is in cc

-- where neither run fed, the rings are alike behind the line as they were before it
pub unfed-cursors : (here there : List FeedDone) (a b c d : CursorState) → here ≡ [] → there ≡ [] → GoOn here a b → GoOn there c d → AreCursorsAlike a c → AreCursorsAlike b d
unfed-cursors here there a b c d none other_none on other_on alike =
    let stays : b ≡ a = subst (λ (fs : List FeedDone). GoOn fs a b) none on in
    let other_stays : d ≡ c = subst (λ (fs : List FeedDone). GoOn fs c d) other_none other_on in
    subst (λ (z : CursorState × CursorState). AreCursorsAlike z.0 z.1) (λ h. (sym stays h, sym other_stays h)) alike

module _ {P D : Type 0} (pools : Ghosts P) (devices : Devices D) (pool_len : (p : P) (bytes : List ℕ) → pools.told p ≡ Some bytes → length bytes ≡ pools.size p) (trace : Trace) where
  -- such a line makes no feed
  block-unfed : (op : Op) → IsOnBlock op → (r : Reply) (w : Work) (here : List FeedDone) (from to : BetweenLines P D) → DoesAnyLine pools devices trace (caller_of op) (line_of op r w) here from to → here ≡ []
  block-unfed (ops.Read n t x window) on r w here from to did = did.0
  block-unfed (ops.Hold n t x) on r w here from to did = did.0
  block-unfed (ops.Drop n x) on r w here from to did = did.0
  block-unfed other on r w here from to did = absurd on

  module _ (Holds : Line → (from to : BetweenLines P D) → Type 0) (valid : IsConfig trace.config) (legal : (l : Line) (from to : BetweenLines P D) → Holds l from to → AreLegalShards trace to.shards) where
    pub reads-steps : StepsAlike pools devices trace Holds Reads
    reads-steps op is r q v w here there from to other other_to did other_did a b c d both =
        let on : IsOnBlock op = on-block op is in
        elim (block-step pools devices pool_len trace op on r q v w here there from to other other_to did other_did valid (legal (line_of op r v) from to both.holds) both.alike both.pool both.device) [
          | inl step ↦ inl (step, unfed-cursors here there a b c d (block-unfed op on r v here from to did) (block-unfed op on q w there other other_to other_did) both.feeds both.other_feeds both.cursors)
          | inr parts ↦ inr parts
        ]

    module _ (fits : (l : Line) (from to : BetweenLines P D) → Holds l from to → FitsBy trace.config (caller_of l.op) l) where
      pub caps-steps : StepsAlike pools devices trace Holds Caps
      caps-steps (ops.Cap k) is r q v w here there from to other other_to did other_did a b c d both =
          inl (
            cap-step pools devices trace valid k r q v w here there from to other other_to (legal (line_of (ops.Cap k) r v) from to both.holds) (fits (line_of (ops.Cap k) r v) from to both.holds) (fits (line_of (ops.Cap k) q w) other other_to both.other_holds) did other_did both.alike,
            unfed-cursors here there a b c d did.0 other_did.0 both.feeds both.other_feeds both.cursors,
          )
      caps-steps (ops.Read n t x window) is r q v w here there from to other other_to did other_did a b c d both = absurd (let clash : Reads ≡ Caps = is in cc)
      caps-steps (ops.Hold n t x) is r q v w here there from to other other_to did other_did a b c d both = absurd (let clash : Reads ≡ Caps = is in cc)
      caps-steps (ops.Drop n x) is r q v w here there from to other other_to did other_did a b c d both = absurd (let clash : Reads ≡ Caps = is in cc)
      caps-steps (ops.Get n t at window) is r q v w here there from to other other_to did other_did a b c d both = absurd (let clash : Objects ≡ Caps = is in cc)
      caps-steps (ops.Put n t at size fill) is r q v w here there from to other other_to did other_did a b c d both = absurd (let clash : Objects ≡ Caps = is in cc)
      caps-steps (ops.Patch n t at start bytes) is r q v w here there from to other other_to did other_did a b c d both = absurd (let clash : Objects ≡ Caps = is in cc)
      caps-steps (ops.Pin n t at) is r q v w here there from to other other_to did other_did a b c d both = absurd (let clash : Objects ≡ Caps = is in cc)
      caps-steps (ops.Unpin n at) is r q v w here there from to other other_to did other_did a b c d both = absurd (let clash : Objects ≡ Caps = is in cc)
      caps-steps ops.Feed is r q v w here there from to other other_to did other_did a b c d both = absurd (let clash : Feeds ≡ Caps = is in cc)
      caps-steps (ops.Txg t) is r q v w here there from to other other_to did other_did a b c d both = absurd (let clash : Syncs ≡ Caps = is in cc)

      pub feeds-steps : StepsAlike pools devices trace Holds Feeds
      feeds-steps ops.Feed is r q v w here there from to other other_to did other_did a b c d both =
          feed-step pools devices trace r q v w here there from to other other_to did other_did (fits (record { op = ops.Feed; reply = r; work = v }) from to both.holds) (fits (record { op = ops.Feed; reply = q; work = w }) other other_to both.other_holds)
          valid (legal (record { op = ops.Feed; reply = r; work = v }) from to both.holds) both.alike a b c d both.feeds both.other_feeds both.shapes both.other_shapes both.cursors both.placed both.device
      feeds-steps op is r q v w here there from to other other_to did other_did a b c d both = absurd (feed-line op is)
