use Rattle.std.proofs.Common.{[], append-nil, sym, ◌∙◌, subst}
use Rattle.arc_table.proofs.feeder.FeedScan.{ended_since, feed_none_is, idle_picks, may_unpick, unended, unpicked_history, unpicked_now}
use Rattle.arc_core.specs.ShardLog.{IsUnpicked, MayUnpick, ShardLog}
use Rattle.arc_table.proofs.arcs.Arcs.end_unpicked.Goals as goal

pub unpick-requires : goal.unpick-requires
unpick-requires g c =
    let s = c.requires.scan in
    subst (λ (l : ShardLog). MayUnpick c.args.feed.len l) (sym c.deref_mut.ensures.value) (may_unpick c.args.self.now.config c.args.feed c.args.party.now s.0 s.1)

pub give_alone-requires-clause-given : goal.give_alone-requires-clause-given
give_alone-requires-clause-given g c =
    let f = c.args.feed in
    let s = c.requires.scan in
    let r = c.args.party.now in
    let config = c.args.self.now.config in
    let l = c.unpick.new.self in
    let u = subst (λ (x : ShardLog). IsUnpicked c.args.feed.len x c.unpick.new.self) c.deref_mut.ensures.value c.unpick.ensures in
    let now = unpicked_now config f r s.0 s.1 l u in
    let history = unpicked_history config f r s.0 s.1 l u in
    ended_since config f r s.0 s.1 l [] (history ∙ sym (append-nil f.before.value.history)) (unended config f r s.0 s.1 l now history (u.opening ∙ s.1.opening)) c.requires.party.config

pub returns : goal.returns
returns g c =
    let m = g.C.Keeps in
    let f = c.args.feed in
    let s = c.requires.scan in
    let r = c.args.party.now in
    let config = c.args.self.now.config in
    let l = c.unpick.new.self in
    let u = subst (λ (x : ShardLog). IsUnpicked c.args.feed.len x c.unpick.new.self) c.deref_mut.ensures.value c.unpick.ensures in
    feed_none_is m f r c.give_alone.new.party l (unpicked_now config f r s.0 s.1 l u) (unpicked_history config f r s.0 s.1 l u) (idle_picks config f r s.0 s.1) c.give_alone.ensures
