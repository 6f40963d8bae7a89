use Rattle.std.proofs.Common.{[], ◌∷◌, inl, sym, subst}
use Rattle.trace_text.specs.declared.op.Op.{Op}
use Rattle.trace_run.specs.callers.Beside.{WasInUse}
use Rattle.trace_run.specs.callers.Together.{between_groups}
use Rattle.trace_run.proofs.one_caller.FeedLine.{did-feed}
use Rattle.trace_run.proofs.in_turn.other_line.Goals as goal

pub returns-in_ok-crew-in-Feed-clause-did : goal.returns-in_ok-crew-in-Feed-clause-did
returns-in_ok-crew-in-Feed-clause-did g c =
    inl (c.in-Feed.is, did-feed c.args.arcs.now g.P.Pool g.D.CacheDev c.in_ok-crew-in-Feed.reply c.args.device.now c.feed_alone.new.device c.args.crew c.in_ok-crew-in-Feed.crew (between_groups c.args.pool.now c.args.syncs.group c.args.syncs.next) c.in_ok-crew-in-Feed.ensures.fed c.in_ok-crew-in-Feed.ensures.kept c.requires.feeder)

pub returns-in_ok-crew-in-Feed-clause-used : goal.returns-in_ok-crew-in-Feed-clause-used
returns-in_ok-crew-in-Feed-clause-used g c = subst (λ (o : Op). WasInUse g.D.CacheDev (o ∷ []) c.args.device.now c.feed_alone.new.device) (sym c.in-Feed.is) c.feed_alone.ensures.used

pub returns-in_err-crew-in-Feed-clause-used : goal.returns-in_err-crew-in-Feed-clause-used
returns-in_err-crew-in-Feed-clause-used g c = subst (λ (o : Op). WasInUse g.D.CacheDev (o ∷ []) c.args.device.now c.feed_alone.new.device) (sym c.in-Feed.is) c.feed_alone.ensures.used
