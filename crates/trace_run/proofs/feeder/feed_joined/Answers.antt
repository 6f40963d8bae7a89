use Rattle.std.proofs.Common.{[], ◌∷◌, map, ap, ◌∙◌}
use Rattle.turn_table.specs.Places.{Place}
use Rattle.arc_table.specs.declared.view.Known.{Known}
use Rattle.trace_text.specs.declared.op.Op.TheVariants as ops
use Rattle.trace_run.proofs.callers.InUse.{in-use-same}
use Rattle.trace_run.proofs.callers.TurnLemmas.{all-may, may-join}
use Rattle.trace_run.proofs.feeds.JoinedLemmas.{fed-joined, fed-last, joined-settled}
use Rattle.trace_run.proofs.one_caller.TurnUses.{fed-in-use}
use Rattle.trace_run.proofs.feeder.feed_joined.Goals as goal

pub join_all-requires-clause-party : goal.join_all-requires-clause-party
join_all-requires-clause-party g c = may-join c.args.arcs.now [] c.args.feeder c.requires.may.stands c.requires.may.alone

pub join_all-requires-clause-others : goal.join_all-requires-clause-others
join_all-requires-clause-others g c = all-may c.args.arcs.now c.args.callers.items c.requires.may.apart

pub feed_line-reply-requires-clause-feeder : goal.feed_line-reply-requires-clause-feeder
feed_line-reply-requires-clause-feeder g c κs within = joined-settled g.C.Keeps g.D.CacheDev c.args.arcs.now c.args.feeder c.args.callers.items c.requires.may c.requires.feeder c.join_all.new.party c.join_all.ensures

pub part_all-requires-clause-party : goal.part_all-requires-clause-party
part_all-requires-clause-party g c = (c.feed_line-reply.ensures.feeder.stands.of, c.feed_line-reply.ensures.feeder.stands.free)

pub part_all-requires-clause-numbers : goal.part_all-requires-clause-numbers
part_all-requires-clause-numbers g c =
    fed-last g.C.Keeps g.D.CacheDev c.args.arcs.now c.args.feeder c.args.callers.items c.requires.may c.requires.feeder c.join_all.new.party c.join_all.ensures
    c.feed_line-reply.result c.args.device.now c.feed_line-reply.new.device c.feed_line-reply.new.party c.feed_line-reply.ensures.feeder c.feed_line-reply.ensures.fed
    c.in_ok-numbers.numbers.items (c.in_ok-numbers.ensures ∙ ap (map (λ (p : Place (Known g.row.C.Denot)). p.number)) c.deref.ensures.value)

pub returns-clause-fed : goal.returns-clause-fed
returns-clause-fed g c =
    fed-joined g.C.Keeps g.D.CacheDev c.args.arcs.now c.args.feeder c.args.callers.items c.requires.may c.requires.feeder c.join_all.new.party c.join_all.ensures
    c.feed_line-reply.result c.args.device.now c.feed_line-reply.new.device c.feed_line-reply.new.party c.feed_line-reply.ensures.feeder c.feed_line-reply.ensures.fed
    c.in_ok-numbers.numbers.items (c.in_ok-numbers.ensures ∙ ap (map (λ (p : Place (Known g.row.C.Denot)). p.number)) c.deref.ensures.value) c.in_ok-callers.callers.items c.part_all.new.party c.in_ok-callers.ensures

-- ---- the device

pub returns-in_err-numbers-clause-used : goal.returns-in_err-numbers-clause-used
returns-in_err-numbers-clause-used g c = in-use-same g.D.CacheDev (ops.Feed ∷ []) c.args.device.now

pub returns-in_err-callers-clause-used : goal.returns-in_err-callers-clause-used
returns-in_err-callers-clause-used g c = fed-in-use g.C.Keeps g.D.CacheDev c.args.arcs.now c.args.device.now c.feed_line-reply.new.device c.join_all.new.party c.feed_line-reply.new.party c.feed_line-reply.result c.feed_line-reply.ensures.fed

pub returns-clause-used : goal.returns-clause-used
returns-clause-used g c = fed-in-use g.C.Keeps g.D.CacheDev c.args.arcs.now c.args.device.now c.feed_line-reply.new.device c.join_all.new.party c.feed_line-reply.new.party c.feed_line-reply.result c.feed_line-reply.ensures.fed
