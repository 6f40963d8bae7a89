use Rattle.std.proofs.Common.{◌≡◌, ◌+◌, ◌++◌, [], ◌∷◌, List, Some, Vec, Global, length, take, true, false, refl, sym, ap, ◌∙◌, subst}
use Rattle.std.specs.Prelude.{filter, slice_get}
use Rattle.std.proofs.lemmas.Option.{slice_get_read}
use Rattle.turn_table.specs.Places.{Place}
use Rattle.arc_table.specs.declared.view.Known.{Known}
use Rattle.trace_text.specs.declared.reply.Reply.{Reply}
use Rattle.trace_text.specs.declared.reply.Reply.TheVariants.{FedNone}
use Rattle.trace_run.specs.declared.device.Device.{Device}
use Rattle.trace_run.specs.Feeds.{DoesFeeds, IsIdleFeeder, MayBeFed, is_feed}
use Rattle.trace_run.proofs.feeds.FeedLemmas.{done-more, done-same, done-tried, few-lines, idle-settled, settled-idle}
use Rattle.trace_run.proofs.feeder.feed_lines.Goals as goal
use Rattle.trace_run.proofs.feeder.feed_lines.Goals.{then-is_feed+in_ok-push, else-is_feed}

pub feed_line-reply-requires-clause-feeder : goal.feed_line-reply-requires-clause-feeder
feed_line-reply-requires-clause-feeder g c κs within = idle-settled c.args.arcs.now c.loop-op.party c.loop-op.invariant.feeder

pub returns-in_err-push-clause-feeder : goal.returns-in_err-push-clause-feeder
returns-in_err-push-clause-feeder g c = settled-idle c.args.arcs.now c.feed_line-reply.new.party c.feed_line-reply.ensures.feeder (c.feed_line-reply.ensures.joined ∙ c.loop-op.invariant.feeder.alone)

pub returns-in_err-push-clause-tried : goal.returns-in_err-push-clause-tried
returns-in_err-push-clause-tried g c =
    let here : slice_get c.args.ops.now c.loop-op.op-index ≡ Some c.op-item.result = slice_get_read c.args.ops.now (length c.args.ops.now) c.loop-op.op-index c.op-item.result refl c.loop-op-test.true c.op-item.is in
    let asks : is_feed c.op-item.result ≡ true = sym c.is_feed.ensures ∙ c.if-is_feed.true in
    done-tried g.C.Keeps g.D.CacheDev c.args.arcs.now _ (filter is_feed c.args.ops.now) _ c.args.device.now c.feed_line-reply.new.device c.args.party.now c.feed_line-reply.new.party
    (few-lines c.args.ops.now c.loop-op.op-index c.op-item.result here)
    (done-more g.C.Keeps g.D.CacheDev c.args.arcs.now c.args.ops.now c.loop-op.op-index c.op-item.result here c.loop-op.replies.items (c.loop-op.replies.items ++ c.feed_line-reply.result ∷ []) c.feed_line-reply.result
    c.args.device.now c.loop-op.device c.feed_line-reply.new.device c.args.party.now c.loop-op.party c.feed_line-reply.new.party c.loop-op.invariant.done asks c.feed_line-reply.ensures.fed refl)

pub loop-op-preserved : goal.loop-op-preserved
loop-op-preserved g c =
    let here : slice_get c.args.ops.now c.loop-op.op-index ≡ Some c.op-item.result = slice_get_read c.args.ops.now (length c.args.ops.now) c.loop-op.op-index c.op-item.result refl c.loop-op-test.true c.op-item.is in
    elim c.if-is_feed.branch [
      | then-is_feed+in_ok-push w ↦
          let asks : is_feed c.op-item.result ≡ true = sym c.is_feed.ensures ∙ w.if-is_feed.true in
          record {
            feeder = subst (λ (x : Place (Known g.row.C.Denot)). IsIdleFeeder c.args.arcs.now x) (sym w.party-is) (settled-idle c.args.arcs.now w.feed_line-reply.new.party w.feed_line-reply.ensures.feeder (w.feed_line-reply.ensures.joined ∙ c.loop-op.invariant.feeder.alone));
            device = subst (λ (x : Device g.row.D.Denot). MayBeFed g.D.CacheDev c.args.arcs.now.config x) (sym w.device-is) w.feed_line-reply.ensures.device;
            done =
                subst (λ (x : Device g.row.D.Denot × Place (Known g.row.C.Denot)). DoesFeeds g.C.Keeps g.D.CacheDev c.args.arcs.now (filter is_feed (take (c.loop-op.op-index + 1) c.args.ops.now)) c.if-is_feed.replies.items c.args.device.now x.0 c.args.party.now x.1)
                (λ i. (sym w.device-is i, sym w.party-is i))
                (done-more g.C.Keeps g.D.CacheDev c.args.arcs.now c.args.ops.now c.loop-op.op-index c.op-item.result here c.loop-op.replies.items c.if-is_feed.replies.items w.feed_line-reply.result
                c.args.device.now c.loop-op.device w.feed_line-reply.new.device c.args.party.now c.loop-op.party w.feed_line-reply.new.party c.loop-op.invariant.done asks w.feed_line-reply.ensures.fed
                (ap (λ (v : Vec Reply Global). v.items) w.replies-is ∙ w.in_ok-push.ensures.items));
          }
      | else-is_feed w ↦
          let other : is_feed c.op-item.result ≡ false = sym c.is_feed.ensures ∙ w.if-is_feed.false in
          record {
            feeder = subst (λ (x : Place (Known g.row.C.Denot)). IsIdleFeeder c.args.arcs.now x) (sym w.party-is) c.loop-op.invariant.feeder;
            device = subst (λ (x : Device g.row.D.Denot). MayBeFed g.D.CacheDev c.args.arcs.now.config x) (sym w.device-is) c.loop-op.invariant.device;
            done =
                subst (λ (x : Device g.row.D.Denot × Place (Known g.row.C.Denot) × List Reply). DoesFeeds g.C.Keeps g.D.CacheDev c.args.arcs.now (filter is_feed (take (c.loop-op.op-index + 1) c.args.ops.now)) x.2 c.args.device.now x.0 c.args.party.now x.1)
                (λ i. (sym w.device-is i, sym w.party-is i, (sym w.replies-is i).items))
                (done-same g.C.Keeps g.D.CacheDev c.args.arcs.now c.args.ops.now c.loop-op.op-index c.op-item.result here c.loop-op.replies.items [] FedNone c.args.device.now c.loop-op.device c.loop-op.device c.args.party.now c.loop-op.party c.loop-op.party c.loop-op.invariant.done other);
          }
    ]
