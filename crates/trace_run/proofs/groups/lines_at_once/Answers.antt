use Rattle.std.proofs.Common.{◌≡◌, Vec, Global, length, map, vec_len, subst, arith}
use Rattle.std.specs.Prelude.{filter}
use Rattle.dbuf_cells.specs.Turns.{dbuf_meanings}
use Rattle.trace_text.specs.declared.reply.Reply.{Reply}
use Rattle.trace_run.specs.Devices.{lent_in}
use Rattle.trace_run.specs.callers.InOrder.{AreInGroup}
use Rattle.trace_run.specs.Feeds.{is_feed}
use Rattle.trace_run.proofs.feeds.FeedLemmas.{as-many}
use Rattle.trace_run.proofs.callers.MergedLines.{did-at-once, replies-may}
use Rattle.trace_run.proofs.groups.lines_at_once.Goals as goal

pub in_order-requires : goal.in_order-requires
in_order-requires g c =
    let many : vec_len c.args.crew.parties ≡ length c.args.crew.parties.items = let o = c.args.crew.parties.ok.0 in omega (arith, o) in
    let did = c.in_ok-worked.ensures.did in
    replies-may dbuf_meanings c.args.arcs.now g.P.Pool g.D.CacheDev c.args.blocks.now c.args.ops.now (length c.args.crew.parties.items) c.args.pool.now c.run_group.new.pool c.args.device.now c.run_group.new.device c.args.crew.kept.items c.args.crew.parties.items
    c.args.crew.feeder c.in_ok-worked.worked.kept.items c.in_ok-worked.worked.parties.items c.run_group.new.feeder (map (λ (v : Vec Reply Global). v.items) c.in_ok-worked.worked.replies.items) c.in_ok-worked.fed.items did
    (subst (λ (n : _). AreInGroup n c.args.ops.now) many c.requires.group) (as-many (lent_in c.args.device.now) (filter is_feed c.args.ops.now) did.beside.feeds c.in_ok-worked.fed.items did.beside.answered)

pub returns-clause-did : goal.returns-clause-did
returns-clause-did g c =
    let many : vec_len c.args.crew.parties ≡ length c.args.crew.parties.items = let o = c.args.crew.parties.ok.0 in omega (arith, o) in
    did-at-once dbuf_meanings c.args.arcs.now g.P.Pool g.D.CacheDev c.args.blocks.now c.args.ops.now c.args.pool.now c.run_group.new.pool c.args.device.now c.run_group.new.device c.args.crew
    (record { feeder = c.run_group.new.feeder; parties = c.in_ok-worked.worked.parties; kept = c.in_ok-worked.worked.kept }) (map (λ (v : Vec Reply Global). v.items) c.in_ok-worked.worked.replies.items) c.in_ok-worked.fed.items c.in_ok-replies.replies.items
    c.in_ok-worked.ensures.did (subst (λ (n : _). AreInGroup n c.args.ops.now) many c.requires.group) c.in_ok-replies.ensures

-- what was tried, whatever it came to
pub returns-in_err-worked-clause-tried : goal.returns-in_err-worked-clause-tried
returns-in_err-worked-clause-tried g c = (c.run_group.new.feeder, c.run_group.ensures.tried)

pub returns-in_err-replies-clause-tried : goal.returns-in_err-replies-clause-tried
returns-in_err-replies-clause-tried g c = (c.run_group.new.feeder, c.run_group.ensures.tried)

pub returns-clause-tried : goal.returns-clause-tried
returns-clause-tried g c = (c.run_group.new.feeder, c.run_group.ensures.tried)
