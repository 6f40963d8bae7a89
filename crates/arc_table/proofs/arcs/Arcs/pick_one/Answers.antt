use Rattle.std.proofs.Common.{◌≡◌, List, [], ◌∷◌, ◌++◌, refl, sym, ap, ◌∙◌, subst}
use Rattle.std.specs.Prelude.{IfOk}
use Rattle.arc_core.specs.ShardLog.{ShardLog}
use Rattle.arc_table.specs.declared.picks.Picked.{Picked}
use Rattle.arc_table.specs.feeder.Picking.{IsBlockOf, IsFeeding}
use Rattle.arc_table.proofs.feeder.PickSteps.{may_pass, passed, passed_fewer, picked, picked_fewer}
use Rattle.arc_table.proofs.Lent.{lent_legal, lent_makes}
use Rattle.arc_core.specs.declared.event.Event.TheVariants.{Pass}
use Rattle.arc_table.proofs.arcs.Arcs.pick_one.Goals as goal

pub pass-requires-clause-legal : goal.pass-requires-clause-legal
pass-requires-clause-legal g c =
    let l : ShardLog = c.reserve.new.self in
    let log = c.reserve.ensures.log in
    let now : l.now ≡ c.args.feed.now.shard.now = ap (λ (x : ShardLog). x.now) log ∙ ap (λ (x : ShardLog). x.now) c.deref_mut.ensures.value in
    let history : l.history ≡ c.args.feed.now.shard.history = ap (λ (x : ShardLog). x.history) log ∙ ap (λ (x : ShardLog). x.history) c.deref_mut.ensures.value in
    let opening : l.opening ≡ c.args.feed.now.shard.opening = ap (λ (x : ShardLog). x.opening) log ∙ ap (λ (x : ShardLog). x.opening) c.deref_mut.ensures.value in
    lent_legal (Pass c.number.result c.args.key c.in-Busy.owner) c.deref_mut-in-Busy.ensures.value
    (may_pass c.args.self.now.config c.args.feed.now c.args.party.now c.try_block.new.party c.args.out.now.items c.requires.feeding c.args.key c.requires.candidate l now history opening c.number.result c.number.ensures c.in-Busy.owner c.in-Busy.ensures.busy c.in-Busy.ensures.few c.in-Busy.ensures.owner.1)

pub returns-in-Busy-clause-feeding : goal.returns-in-Busy-clause-feeding
returns-in-Busy-clause-feeding g c =
    let l : ShardLog = c.reserve.new.self in
    let log = c.reserve.ensures.log in
    let now : l.now ≡ c.args.feed.now.shard.now = ap (λ (x : ShardLog). x.now) log ∙ ap (λ (x : ShardLog). x.now) c.deref_mut.ensures.value in
    let history : l.history ≡ c.args.feed.now.shard.history = ap (λ (x : ShardLog). x.history) log ∙ ap (λ (x : ShardLog). x.history) c.deref_mut.ensures.value in
    let opening : l.opening ≡ c.args.feed.now.shard.opening = ap (λ (x : ShardLog). x.opening) log ∙ ap (λ (x : ShardLog). x.opening) c.deref_mut.ensures.value in
    subst (λ (out : List Picked). IsFeeding c.args.self.now.config record c.args.feed.now { shard = c.pass.new.self } c.try_block.new.party out) (sym c.reserve-2.ensures.items)
    (passed c.args.self.now.config c.args.feed.now c.args.party.now c.try_block.new.party c.args.out.now.items c.requires.feeding c.args.key c.requires.candidate l now history opening c.number.result c.number.ensures c.in-Busy.owner c.in-Busy.ensures.busy c.pass.new.self c.in-Busy.ensures.few c.in-Busy.ensures.owner (lent_makes c.deref_mut-in-Busy.ensures.value c.pass.ensures.makes))

pub returns-in-Busy-clause-fewer : goal.returns-in-Busy-clause-fewer
returns-in-Busy-clause-fewer g c =
    let l : ShardLog = c.reserve.new.self in
    let log = c.reserve.ensures.log in
    let now : l.now ≡ c.args.feed.now.shard.now = ap (λ (x : ShardLog). x.now) log ∙ ap (λ (x : ShardLog). x.now) c.deref_mut.ensures.value in
    let history : l.history ≡ c.args.feed.now.shard.history = ap (λ (x : ShardLog). x.history) log ∙ ap (λ (x : ShardLog). x.history) c.deref_mut.ensures.value in
    let opening : l.opening ≡ c.args.feed.now.shard.opening = ap (λ (x : ShardLog). x.opening) log ∙ ap (λ (x : ShardLog). x.opening) c.deref_mut.ensures.value in
    passed_fewer c.args.self.now.config c.args.feed.now c.args.party.now c.try_block.new.party c.args.out.now.items c.requires.feeding c.args.key c.requires.candidate l now history opening c.number.result c.number.ensures c.in-Busy.owner c.in-Busy.ensures.busy c.pass.new.self (lent_makes c.deref_mut-in-Busy.ensures.value c.pass.ensures.makes)

pub returns-in_ok-block-in-Taken-clause-feeding : goal.returns-in_ok-block-in-Taken-clause-feeding
returns-in_ok-block-in-Taken-clause-feeding g c =
    let l : ShardLog = c.reserve.new.self in
    let log = c.reserve.ensures.log in
    let now : l.now ≡ c.args.feed.now.shard.now = ap (λ (x : ShardLog). x.now) log ∙ ap (λ (x : ShardLog). x.now) c.deref_mut.ensures.value in
    let history : l.history ≡ c.args.feed.now.shard.history = ap (λ (x : ShardLog). x.history) log ∙ ap (λ (x : ShardLog). x.history) c.deref_mut.ensures.value in
    let opening : l.opening ≡ c.args.feed.now.shard.opening = ap (λ (x : ShardLog). x.opening) log ∙ ap (λ (x : ShardLog). x.opening) c.deref_mut.ensures.value in
    let b : Picked = record { key = c.args.key; block = c.in_ok-block-in-Taken.block } in
    subst (λ (out : List Picked). IsFeeding c.args.self.now.config record c.args.feed.now { shard = c.pick.new.self } c.try_block.new.party out) (sym (c.push_reserved.ensures.items ∙ ap (λ (xs : List Picked). xs ++ b ∷ []) c.reserve-2.ensures.items))
    (picked c.args.self.now.config c.args.feed.now c.args.party.now c.try_block.new.party c.args.out.now.items c.requires.feeding c.args.key c.requires.candidate l now history opening c.number-in-Taken.result c.number-in-Taken.ensures c.in-Taken.ensures.taken b c.pick.new.self refl
    (subst (λ r. IfOk r (λ x. IsBlockOf c.args.key l.now x.value)) c.in_ok-block-in-Taken.was c.in-Taken.ensures.block) (lent_makes c.deref_mut-in-Taken.ensures.value c.pick.ensures.makes))

pub returns-in_ok-block-in-Taken-clause-fewer : goal.returns-in_ok-block-in-Taken-clause-fewer
returns-in_ok-block-in-Taken-clause-fewer g c =
    let l : ShardLog = c.reserve.new.self in
    let log = c.reserve.ensures.log in
    let now : l.now ≡ c.args.feed.now.shard.now = ap (λ (x : ShardLog). x.now) log ∙ ap (λ (x : ShardLog). x.now) c.deref_mut.ensures.value in
    let history : l.history ≡ c.args.feed.now.shard.history = ap (λ (x : ShardLog). x.history) log ∙ ap (λ (x : ShardLog). x.history) c.deref_mut.ensures.value in
    let opening : l.opening ≡ c.args.feed.now.shard.opening = ap (λ (x : ShardLog). x.opening) log ∙ ap (λ (x : ShardLog). x.opening) c.deref_mut.ensures.value in
    picked_fewer c.args.self.now.config c.args.feed.now c.args.party.now c.try_block.new.party c.args.out.now.items c.requires.feeding c.args.key c.requires.candidate l now history opening c.number-in-Taken.result c.number-in-Taken.ensures c.pick.new.self (lent_makes c.deref_mut-in-Taken.ensures.value c.pick.ensures.makes)
