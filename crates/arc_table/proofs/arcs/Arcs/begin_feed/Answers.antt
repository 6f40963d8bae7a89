use Rattle.std.proofs.Common.{◌≡◌, ℕ, ◌<◌, List, length, refl, sym, ap, ◌∙◌, subst}
use Rattle.turn_table.specs.Places.{saw}
use Rattle.arc_core.specs.declared.config.Config.{Config}
use Rattle.arc_core.specs.Config.{IsConfig}
use Rattle.arc_core.specs.declared.event.Event.{Event}
use Rattle.arc_core.specs.ShardLog.{ShardLog}
use Rattle.arc_table.specs.declared.about.About.{About}
use Rattle.arc_table.specs.declared.item.Item.{Item}
use Rattle.arc_table.specs.declared.item.Item.TheVariants as item
use Rattle.arc_table.specs.Both.{Takes}
use Rattle.arc_table.specs.Cache.{Cache}
use Rattle.arc_table.specs.Fronts.{list_at}
use Rattle.arc_table.specs.Geometry.{IsCell, IsShard}
use Rattle.arc_table.specs.feeder.Picking.{nth_shard_turn}
use Rattle.arc_table.proofs.Boards.{loses_about, shard_there}
use Rattle.arc_table.proofs.feeder.FeedBegins.{begins, not_cell, nth_range, own_number, picked_there}
use Rattle.arc_table.proofs.Reached.{took_is}
use Rattle.arc_table.proofs.arcs.Arcs.begin_feed.Goals as goal

pub take-requires-clause-not_held : goal.take-requires-clause-not_held
take-requires-clause-not_held g c among =
    let same = ap (λ (x : Cache). x.config) c.self.view_is in
    not_cell c.self.inside.config c.args.shard c.args.party.now.held (subst (λ (x : Config). c.args.shard < x.shards) (sym same) c.requires.shard) (λ i h. subst (λ (x : Config). IsCell x i) (sym same) (c.requires.look i h)) among

pub into_shard-shard-requires : goal.into_shard-shard-requires
into_shard-shard-requires g c =
    let m = g.C.Keeps in
    let same = ap (λ (x : Cache). x.config) c.self.view_is in
    let t = c.take.ensures in
    let p = c.args.party.now in
    let i = nth_shard_turn c.self.inside.config c.args.shard in
    let config = ap (λ (x : About). x.config) (loses_about m i t.0 p (saw p t.1) t.2) ∙ c.requires.party.config in
    shard_there m (saw p t.1) i c.take.result t.3
    (subst (λ (x : Config). IsShard x i) (same ∙ sym config) (nth_range c.self.inside.config c.args.shard (subst (λ (x : Config). c.args.shard < x.shards) (sym same) c.requires.shard)))

pub returns-clause-takes : goal.returns-clause-takes
returns-clause-takes g c =
    let m = g.C.Keeps in
    let t = c.take.ensures in
    let i = nth_shard_turn c.self.inside.config c.args.shard in
    let is : c.take.result ≡ item.Shard c.of.result.value = c.into_shard-shard.ensures ∙ ap (λ (l : ShardLog). let v : Item g.row.C.Denot = item.Shard l in v) (sym c.of.ensures) in
    subst (λ (x : Item g.row.C.Denot). Takes m i x c.args.party.now c.take.new.party) is record { owners = t.0; knew = t.1; lost = t.2; free = t.3; took = t.4 }

pub returns-clause-scan : goal.returns-clause-scan
returns-clause-scan g c =
    let m = g.C.Keeps in
    let same = ap (λ (x : Cache). x.config) c.self.view_is in
    let config = c.args.self.now.config in
    let p = c.args.party.now in
    let i = nth_shard_turn c.self.inside.config c.args.shard in
    let here : i ≡ nth_shard_turn config c.args.shard = ap (λ (x : Config). nth_shard_turn x c.args.shard) same in
    let l = c.into_shard-shard.result in
    let takes : Takes m i (item.Shard l) p c.take.new.party = subst (λ (x : ShardLog). Takes m i (item.Shard x) p c.take.new.party) c.of.ensures (returns-clause-takes g c) in
    let range : IsShard config i = subst (IsShard config) (sym here) (nth_range config c.args.shard c.requires.shard) in
    let none = picked_there m config i l p c.take.new.party takes c.requires.party.config (subst IsConfig same c.self.invariant.valid) range c.requires.look c.requires.feeder
    ∙ (ap (λ (x : ℕ). list_at x p.own.ledger.picked) here ∙ c.requires.settled) in
    begins m config i l p c.take.new.party takes c.requires.party.config (subst IsConfig same c.self.invariant.valid) range c.requires.look
    record { turn = i; shard = l; before = c.of.result; began = c.of-2.result; had = c.args.had; len = c.len.result }
    refl refl c.of.ensures c.of-2.ensures (c.len.ensures ∙ (ap (λ (h : List Event). length h) c.history.ensures.history ∙ ap (λ (l : ShardLog). length l.history) c.deref.ensures)) none

pub returns-clause-picked : goal.returns-clause-picked
returns-clause-picked g c =
    let m = g.C.Keeps in
    let same = ap (λ (x : Cache). x.config) c.self.view_is in
    let config = c.args.self.now.config in
    let p = c.args.party.now in
    let i = nth_shard_turn c.self.inside.config c.args.shard in
    let here : i ≡ nth_shard_turn config c.args.shard = ap (λ (x : Config). nth_shard_turn x c.args.shard) same in
    let l = c.into_shard-shard.result in
    let takes : Takes m i (item.Shard l) p c.take.new.party = subst (λ (x : ShardLog). Takes m i (item.Shard x) p c.take.new.party) c.of.ensures (returns-clause-takes g c) in
    picked_there m config i l p c.take.new.party takes c.requires.party.config (subst IsConfig same c.self.invariant.valid) (subst (IsShard config) (sym here) (nth_range config c.args.shard c.requires.shard)) c.requires.look c.requires.feeder
    ∙ (ap (λ (x : ℕ). list_at x p.own.ledger.picked) here ∙ c.requires.settled)

pub returns-clause-party : goal.returns-clause-party
returns-clause-party g c =
    let m = g.C.Keeps in
    let k = took_is m (nth_shard_turn c.self.inside.config c.args.shard) (item.Shard c.of.result.value) c.args.party.now c.take.new.party (returns-clause-takes g c) in
    record { row = (k.table ∙ c.requires.party.row.0, k.parties ∙ c.requires.party.row.1); config = ap (λ (a : About). a.config) k.about ∙ c.requires.party.config }

pub returns-clause-own : goal.returns-clause-own
returns-clause-own g c =
    let m = g.C.Keeps in
    let same = ap (λ (x : Cache). x.config) c.self.view_is in
    let config = c.args.self.now.config in
    let p = c.args.party.now in
    let i = nth_shard_turn c.self.inside.config c.args.shard in
    let here : i ≡ nth_shard_turn config c.args.shard = ap (λ (x : Config). nth_shard_turn x c.args.shard) same in
    own_number m config i c.of.result.value p c.take.new.party (returns-clause-takes g c) c.requires.party.config (subst IsConfig same c.self.invariant.valid) (subst (IsShard config) (sym here) (nth_range config c.args.shard c.requires.shard)) c.requires.look
