use Rattle.std.proofs.Common.{[], ◌∷◌, sym, subst}
use Rattle.trace_text.specs.declared.op.Op.TheVariants as ops
use Rattle.trace_text.specs.declared.reply.Reply.TheVariants.{Fed}
use Rattle.trace_run.specs.declared.device.Device.{Device}
use Rattle.trace_run.specs.declared.device.Device.TheVariants as device
use Rattle.trace_run.specs.Feeds.{DoesFeeds}
use Rattle.trace_run.proofs.feeds.FeedLemmas.{one-done, settled-again}
use Rattle.trace_run.proofs.feeds.FeedStands.{settled-ready}
use Rattle.trace_run.proofs.feeder.feed_line.Goals as goal

pub feed-requires-clause-feeder : goal.feed-requires-clause-feeder
feed-requires-clause-feeder g c κs within = settled-ready c.args.arcs.now c.args.party.now c.requires.feeder

pub returns-in-Ready-clause-feeder : goal.returns-in-Ready-clause-feeder
returns-in-Ready-clause-feeder g c =
    let e = c.feed.ensures in
    settled-again g.C.Keeps g.D.CacheDev c.args.arcs.now _ _ _ _ c.args.party.now c.feed.new.party c.feed.result c.requires.feeder e.fed e.feeder

pub returns-in-Ready-clause-fed : goal.returns-in-Ready-clause-fed
returns-in-Ready-clause-fed g c =
    let e = c.feed.ensures in
    subst (λ (x : Device g.row.D.Denot). DoesFeeds g.C.Keeps g.D.CacheDev c.args.arcs.now (ops.Feed ∷ []) (Fed c.feed.result ∷ []) x (device.Ready c.feed.new.l2) c.args.party.now c.feed.new.party) (sym c.in-Ready.is)
    (one-done g.C.Keeps g.D.CacheDev c.args.arcs.now c.in-Ready.l2 c.feed.new.l2 c.args.party.now c.feed.new.party c.feed.result c.requires.feeder e.fed e.crash e.faults e.cause)
