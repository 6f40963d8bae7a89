use Rattle.std.proofs.Common.{List, sym, ◌∙◌, subst}
use Rattle.std.specs.Prelude.{filter}
use Rattle.trace_text.specs.declared.reply.Reply.{Reply}
use Rattle.dbuf_cells.specs.Turns.{dbuf_meanings}
use Rattle.trace_run.specs.Feeds.{DoesFeeds, is_feed}
use Rattle.trace_run.proofs.callers.BesideLemmas.{none-asked-done}
use Rattle.trace_run.proofs.group.work_and_feed.Goals as goal

pub returns-then-not-has_feed-clause-fed : goal.returns-then-not-has_feed-clause-fed
returns-then-not-has_feed-clause-fed g c =
    subst (λ (l : List Reply). DoesFeeds dbuf_meanings g.D.CacheDev c.args.arcs.now (filter is_feed c.args.ops.now) l c.args.device.now c.args.device.now c.args.feeder.now c.args.feeder.now) (sym c.new.ensures.items)
    (none-asked-done dbuf_meanings g.D.CacheDev c.args.arcs.now c.args.ops.now c.args.device.now c.args.feeder.now (sym c.has_feed.ensures ∙ c.if-not-has_feed.true))
