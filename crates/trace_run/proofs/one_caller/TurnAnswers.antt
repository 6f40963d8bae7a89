-- The lines `feed` of one caller's trace are answered by the feeds that were made.
use Rattle.std.proofs.Common.{◌≡◌, ℕ, true, false, Option, Some, None, List, [], ◌∷◌, ◌++◌, inl, inr, refl, sym, ap, ◌∙◌, subst}
use Rattle.std.specs.Prelude.{filter}
use Rattle.std.proofs.lemmas.Bool.{false≢true}
use Rattle.arc_lists.proofs.Tables.{cases_true}
use Rattle.vdev_io.specs.declared.device.CacheDev.{Ghosts}
use Rattle.vdev_io.specs.declared.pool.Pool.{Ghosts as Pools}
use Rattle.trace_text.specs.declared.op.Op.{Op}
use Rattle.trace_text.specs.declared.op.Op.TheVariants as ops
use Rattle.trace_text.specs.declared.reply.Reply.{Reply}
use Rattle.trace_text.specs.declared.trace.Trace.{Trace}
use Rattle.trace_run.specs.Feeds.{AreFedReplies, FeedDone, is_feed}
use Rattle.trace_run.specs.Lines.{caller_of, replies_where}
use Rattle.trace_run.specs.dbufs.ObjectLines.{OnObject, on_object}
use Rattle.trace_run.specs.dbufs.Objects.{Line, Work, ops_of, replies_of}
use Rattle.trace_run.specs.one_caller.Sequence.{AreInSequence, BetweenLines, DoesAnyLine, DoesFeed, DoesOther, DoesOwn, IfLent}
use Rattle.trace_run.proofs.feeds.FeedLemmas.{answered-then, none-answered}
use Rattle.trace_run.proofs.feeds.UsedLemmas.{IsAlso, also-answered, also-same, asks-also, feed_lines, ops-fed, replies-fed}

module _ {P D : Type 0} (pools : Pools P) (devices : Ghosts D) (trace : Trace) where
  lent-also : (none : Type 0) (asks : (old new : D) → Type 0) (a b : Option D) → IfLent none asks a b → IsAlso devices a b
  lent-also none asks None None so = tt
  lent-also none asks None (Some b) so = absurd so
  lent-also none asks (Some a) None so = absurd so
  lent-also none asks (Some a) (Some b) so = tt

  own-also : (on : Option OnObject) (l : Line) (a b : BetweenLines P D) → DoesOwn pools devices trace on l a b → IsAlso devices a.device b.device
  own-also None l a b did = lent-also _ _ a.device b.device did.asks
  own-also (Some on) l a b did = lent-also _ _ a.device b.device did.asks

  -- a line that asks for no feed makes none
  no-feeds : (op : Op) (reply : Reply) (work : Work) (fs : List FeedDone) (a b : BetweenLines P D) → is_feed op ≡ false → DoesOther pools devices trace op reply work fs a b → (fs ≡ []) × IsAlso devices a.device b.device
  no-feeds ops.Feed reply work fs a b other did = absurd (false≢true (sym other))
  no-feeds (ops.Txg t) reply work fs a b other did = (did.0, also-same devices a.device b.device did.1.leaves.device)
  no-feeds (ops.Cap c) reply work fs a b other did = (did.0, also-same devices a.device b.device did.1.device)
  no-feeds (ops.Read n t x window) reply work fs a b other never = absurd never
  no-feeds (ops.Hold n t x) reply work fs a b other never = absurd never
  no-feeds (ops.Drop n x) reply work fs a b other never = absurd never
  no-feeds (ops.Get n t at window) reply work fs a b other never = absurd never
  no-feeds (ops.Put n t at size fill) reply work fs a b other never = absurd never
  no-feeds (ops.Patch n t at from bytes) reply work fs a b other never = absurd never
  no-feeds (ops.Pin n t at) reply work fs a b other never = absurd never
  no-feeds (ops.Unpin n at) reply work fs a b other never = absurd never

  quiet : (o : Option ℕ) (l : Line) (fs : List FeedDone) (a b : BetweenLines P D) → is_feed l.op ≡ false → DoesAnyLine pools devices trace o l fs a b → (fs ≡ []) × IsAlso devices a.device b.device
  quiet (Some n) l fs a b other did = (did.0, own-also (on_object l.op) l a b did.1.did)
  quiet None l fs a b other did = no-feeds l.op l.reply l.work fs a b other did

  -- a feed
  loud : (op : Op) (l : Line) (fs : List FeedDone) (a b : BetweenLines P D) → l.op ≡ op → is_feed op ≡ true → DoesAnyLine pools devices trace (caller_of l.op) l fs a b → AreFedReplies a.device (l.op ∷ []) fs (l.reply ∷ []) × IsAlso devices a.device b.device
  loud ops.Feed l fs a b is feed did =
      let own : DoesFeed pools devices trace l.reply fs a b = subst (λ (o : Op). DoesAnyLine pools devices trace (caller_of o) (record { op = o; reply = l.reply; work = l.work }) fs a b) is did in
      (subst (λ (o : Op). AreFedReplies a.device (o ∷ []) fs (l.reply ∷ [])) (sym is) own.answered, asks-also devices fs a.device b.device own.asked)
  loud (ops.Txg t) l fs a b is feed did = absurd (false≢true feed)
  loud (ops.Cap c) l fs a b is feed did = absurd (false≢true feed)
  loud (ops.Read n t x window) l fs a b is feed did = absurd (false≢true feed)
  loud (ops.Hold n t x) l fs a b is feed did = absurd (false≢true feed)
  loud (ops.Drop n x) l fs a b is feed did = absurd (false≢true feed)
  loud (ops.Get n t at window) l fs a b is feed did = absurd (false≢true feed)
  loud (ops.Put n t at size fill) l fs a b is feed did = absurd (false≢true feed)
  loud (ops.Patch n t at from bytes) l fs a b is feed did = absurd (false≢true feed)
  loud (ops.Pin n t at) l fs a b is feed did = absurd (false≢true feed)
  loud (ops.Unpin n at) l fs a b is feed did = absurd (false≢true feed)

  lines-answered : (ls : List Line) (fs : List FeedDone) (a b : BetweenLines P D) → AreInSequence pools devices trace ls fs a b → AreFedReplies a.device (ops_of (feed_lines ls)) fs (replies_of (feed_lines ls))
  lines-answered [] fs a b done = subst (λ (l : List FeedDone). AreFedReplies a.device [] l []) (sym done.0) (none-answered a.device)
  lines-answered (l ∷ ls) fs a b (next, here, behind, split, does, more) = elim (cases_true (is_feed l.op)) [
    | inl feed ↦
        let one = loud l.op l here a next refl feed does in
        let rest = also-answered devices a.device next.device (ops_of (feed_lines ls)) behind (replies_of (feed_lines ls)) one.1 (lines-answered ls behind next b more) in
        rw feed (subst (λ (x : List FeedDone). AreFedReplies a.device (l.op ∷ ops_of (feed_lines ls)) x (l.reply ∷ replies_of (feed_lines ls))) (sym split) (answered-then a.device (l.op ∷ []) (ops_of (feed_lines ls)) here behind (l.reply ∷ []) (replies_of (feed_lines ls)) one.0 rest))
    | inr other ↦
        let one = quiet (caller_of l.op) l here a next other does in
        let same : fs ≡ behind = split ∙ ap (λ (x : List FeedDone). x ++ behind) one.0 in
        rw other (subst (λ (x : List FeedDone). AreFedReplies a.device (ops_of (feed_lines ls)) x (replies_of (feed_lines ls))) (sym same)
        (also-answered devices a.device next.device (ops_of (feed_lines ls)) behind (replies_of (feed_lines ls)) one.1 (lines-answered ls behind next b more)))
  ]

  pub turn-answered : (ls : List Line) (fs : List FeedDone) (a b : BetweenLines P D) → AreInSequence pools devices trace ls fs a b → AreFedReplies a.device (filter is_feed (ops_of ls)) fs (replies_where is_feed (ops_of ls) (replies_of ls))
  turn-answered ls fs a b done = subst (λ (x : List Op × List Reply). AreFedReplies a.device x.0 fs x.1) (λ i. (ops-fed ls i, replies-fed ls i)) (lines-answered ls fs a b done)
