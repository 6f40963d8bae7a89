use Rattle.std.proofs.Common.{◌≡◌, ℕ, List, [], ◌∷◌, ◌++◌, sym, ap, ◌∙◌, subst}
use Rattle.arc_core.specs.declared.config.Config.{Config}
use Rattle.arc_core.specs.declared.event.Event.{Event}
use Rattle.arc_core.specs.ShardLog.{ShardLog}
use Rattle.hash_chain.specs.Chain.{Chain}
use Rattle.turn_table.specs.Places.{Place, gave_back}
use Rattle.arc_table.specs.declared.in_hand.Hand.{Hand}
use Rattle.arc_table.specs.declared.view.Known.{Known}
use Rattle.arc_table.specs.Cache.{Cache, IsPartyOf}
use Rattle.arc_table.specs.scans.Ending.{HasMade}
use Rattle.arc_table.specs.InHand.{buckets_of, made_since}
use Rattle.arc_table.specs.Items.{Meanings}
use Rattle.arc_table.specs.scans.Scanning.{AllPairs, IsInHand, gave_all, pairs_of}
use Rattle.arc_table.specs.ShardGiving.{IsGivenShard, after_shard}
use Rattle.arc_table.specs.Views.{after_same}
use Rattle.arc_table.proofs.scans.Scans.{all_in_hand_else, scan_among, scan_config}
use Rattle.arc_table.proofs.scans.ScanEnds.{all_heads, all_in_hand, gave_shard, hand_apart, made_events, marked_in_hand, may_give, still_apart}
use Rattle.arc_table.proofs.arcs.Arcs.end_scan.Goals as goal

pub spare_marked-requires-clause-apart : goal.spare_marked-requires-clause-apart
spare_marked-requires-clause-apart g c =
    let m : Meanings g.row.C.Denot = g.C.Keeps in
    let r = c.requires.made in
    hand_apart m c.args.self.now.config r.0 r.1 r.2 c.args.party.now r.3 r.4 c.args.scan r.5

pub spare_marked-requires-clause-in_hand : goal.spare_marked-requires-clause-in_hand
spare_marked-requires-clause-in_hand g c =
    let m : Meanings g.row.C.Denot = g.C.Keeps in
    let r = c.requires.made in
    let cfg : Config = c.self.inside.config in
    let h : HasMade m cfg r.0 r.1 r.2 c.args.party.now r.3 r.4 c.args.scan = subst (λ (x : Config). HasMade m x r.0 r.1 r.2 c.args.party.now r.3 r.4 c.args.scan) (sym (ap (λ (x : Cache). x.config) c.self.view_is)) r.5 in
    marked_in_hand m cfg r.0 r.1 r.2 c.args.party.now r.3 r.4 c.args.scan h

pub spare_marked-requires-clause-heads : goal.spare_marked-requires-clause-heads
spare_marked-requires-clause-heads g c =
    let m : Meanings g.row.C.Denot = g.C.Keeps in
    let r = c.requires.made in
    let cfg : Config = c.self.inside.config in
    let h : HasMade m cfg r.0 r.1 r.2 c.args.party.now r.3 r.4 c.args.scan = subst (λ (x : Config). HasMade m x r.0 r.1 r.2 c.args.party.now r.3 r.4 c.args.scan) (sym (ap (λ (x : Cache). x.config) c.self.view_is)) r.5 in
    all_heads m cfg r.0 r.1 r.2 c.args.party.now r.3 r.4 c.args.scan h

pub give_shard-requires-clause-range : goal.give_shard-requires-clause-range
give_shard-requires-clause-range g c = c.requires.made.5.may.range

pub give_shard-requires-clause-held : goal.give_shard-requires-clause-held
give_shard-requires-clause-held g c =
    let m : Meanings g.row.C.Denot = g.C.Keeps in
    let r = c.requires.made in
    let h : HasMade m c.args.self.now.config r.0 r.1 r.2 c.args.party.now r.3 r.4 c.args.scan = r.5 in
    scan_among m c.args.self.now.config c.args.scan.both.turn ((c.args.scan.both.hand.own.turn, r.4) ∷ []) c.args.scan.both.hand.before.value r.2 h.may c.args.party.now r.3 r.3.marked (pairs_of c.args.scan.both.hand.victims.items) r.1 h.scan

pub give_shard-requires-clause-given : goal.give_shard-requires-clause-given
give_shard-requires-clause-given g c =
    let m : Meanings g.row.C.Denot = g.C.Keeps in
    let r = c.requires.made in
    let cfg : Config = c.self.inside.config in
    let h : HasMade m cfg r.0 r.1 r.2 c.args.party.now r.3 r.4 c.args.scan = subst (λ (x : Config). HasMade m x r.0 r.1 r.2 c.args.party.now r.3 r.4 c.args.scan) (sym (ap (λ (x : Cache). x.config) c.self.view_is)) r.5 in
    let did = c.spare_marked.ensures in
    let hand : Hand = c.spare_marked.new.hand in
    let es : List Event = r.1 ++ r.0 ∷ [] in
    let give = may_give m cfg r.0 r.1 r.2 c.args.party.now r.3 r.4 c.args.scan h hand did.turns did.before did.heads in
    let same : c.args.party.now.own.about.config ≡ cfg = scan_config m cfg c.args.scan.both.turn ((c.args.scan.both.hand.own.turn, r.4) ∷ []) c.args.scan.both.hand.before.value r.2 h.may c.args.party.now r.3 r.3.marked (pairs_of c.args.scan.both.hand.victims.items) r.1 h.scan in
    let made : made_since c.args.scan.both.hand.before.value c.args.scan.both.shard ≡ es = made_events m cfg r.0 r.1 r.2 c.args.party.now r.3 r.4 c.args.scan h hand did.turns did.before did.heads in
    subst (λ (x : Config × ShardLog × List Event × ShardLog). IsGivenShard x.0 c.args.party.now c.args.scan.both.turn (buckets_of hand) x.1 x.2 x.3)
    (λ z. (
      sym same z,
      (sym did.before z).value,
      (sym made ∙ (ap (λ (b : Rattle.std.specs.declared.snapshot.Snapshot.Snapshot ShardLog). made_since b.value c.args.scan.both.shard) (sym did.before) ∙ ap (made_since hand.before.value) (sym did.shard))) z,
      sym did.shard z,
    )) give

pub give_bucket-requires-clause-party : goal.give_bucket-requires-clause-party
give_bucket-requires-clause-party g c =
    subst (IsPartyOf c.args.self.now) (sym c.give_shard.ensures) record { row = c.requires.party.row; config = c.requires.party.config }

pub give_bucket-requires-clause-held : goal.give_bucket-requires-clause-held
give_bucket-requires-clause-held g c =
    let m : Meanings g.row.C.Denot = g.C.Keeps in
    let r = c.requires.made in
    let cfg : Config = c.self.inside.config in
    let h : HasMade m cfg r.0 r.1 r.2 c.args.party.now r.3 r.4 c.args.scan = subst (λ (x : Config). HasMade m x r.0 r.1 r.2 c.args.party.now r.3 r.4 c.args.scan) (sym (ap (λ (x : Cache). x.config) c.self.view_is)) r.5 in
    let did = c.spare_marked.ensures in
    let hand : Hand = c.spare_marked.new.hand in
    let es : List Event = made_since c.args.scan.both.hand.before.value c.args.scan.both.shard in
    let all = all_in_hand m cfg r.0 r.1 r.2 c.args.party.now r.3 r.4 c.args.scan h hand did.turns did.before did.heads es in
    let place : Place (Known g.row.C.Denot) = gave_back c.args.party.now c.args.scan.both.turn (after_shard m (buckets_of hand) c.args.scan.both.turn c.args.scan.both.hand.before.value es c.args.scan.both.shard c.args.party.now.own) in
    let gave : c.give_shard.new.party ≡ place = gave_shard m c.args.party.now c.give_shard.new.party c.args.scan.both.turn (buckets_of hand) c.args.scan.both.hand.before.value hand.before.value c.args.scan.both.shard c.spare_marked.new.shard (ap (λ x. x.value) did.before) did.shard c.give_shard.ensures in
    subst (λ (x : Place (Known g.row.C.Denot)). IsInHand m x hand.own.turn hand.own.bucket) (sym gave) all.0

pub give_buckets-requires-clause-party : goal.give_buckets-requires-clause-party
give_buckets-requires-clause-party g c =
    subst (IsPartyOf c.args.self.now) (sym (c.give_bucket.ensures ∙ ap (λ (x : Place (Known g.row.C.Denot)). gave_back x c.spare_marked.new.hand.own.turn (after_same c.spare_marked.new.hand.own.turn x.own)) c.give_shard.ensures))
    record { row = c.requires.party.row; config = c.requires.party.config }

pub give_buckets-requires-clause-apart : goal.give_buckets-requires-clause-apart
give_buckets-requires-clause-apart g c =
    let m : Meanings g.row.C.Denot = g.C.Keeps in
    let r = c.requires.made in
    let cfg : Config = c.self.inside.config in
    let h : HasMade m cfg r.0 r.1 r.2 c.args.party.now r.3 r.4 c.args.scan = subst (λ (x : Config). HasMade m x r.0 r.1 r.2 c.args.party.now r.3 r.4 c.args.scan) (sym (ap (λ (x : Cache). x.config) c.self.view_is)) r.5 in
    let did = c.spare_marked.ensures in
    (still_apart m cfg r.0 r.1 r.2 c.args.party.now r.3 r.4 c.args.scan h c.spare_marked.new.hand did.turns did.before did.heads).1

pub give_buckets-requires-clause-held : goal.give_buckets-requires-clause-held
give_buckets-requires-clause-held g c =
    let m : Meanings g.row.C.Denot = g.C.Keeps in
    let r = c.requires.made in
    let cfg : Config = c.self.inside.config in
    let h : HasMade m cfg r.0 r.1 r.2 c.args.party.now r.3 r.4 c.args.scan = subst (λ (x : Config). HasMade m x r.0 r.1 r.2 c.args.party.now r.3 r.4 c.args.scan) (sym (ap (λ (x : Cache). x.config) c.self.view_is)) r.5 in
    let did = c.spare_marked.ensures in
    let hand : Hand = c.spare_marked.new.hand in
    let es : List Event = made_since c.args.scan.both.hand.before.value c.args.scan.both.shard in
    let all = all_in_hand m cfg r.0 r.1 r.2 c.args.party.now r.3 r.4 c.args.scan h hand did.turns did.before did.heads es in
    let apart = still_apart m cfg r.0 r.1 r.2 c.args.party.now r.3 r.4 c.args.scan h hand did.turns did.before did.heads in
    let place : Place (Known g.row.C.Denot) = gave_back c.args.party.now c.args.scan.both.turn (after_shard m (buckets_of hand) c.args.scan.both.turn c.args.scan.both.hand.before.value es c.args.scan.both.shard c.args.party.now.own) in
    let gave : c.give_shard.new.party ≡ place = gave_shard m c.args.party.now c.give_shard.new.party c.args.scan.both.turn (buckets_of hand) c.args.scan.both.hand.before.value hand.before.value c.args.scan.both.shard c.spare_marked.new.shard (ap (λ x. x.value) did.before) did.shard c.give_shard.ensures in
    subst (λ (x : Place (Known g.row.C.Denot)). AllPairs (IsInHand m x) (pairs_of hand.victims.items))
    (sym (c.give_bucket.ensures ∙ ap (λ (x : Place (Known g.row.C.Denot)). gave_back x hand.own.turn (after_same hand.own.turn x.own)) gave))
    (all_in_hand_else m place hand.own.turn (pairs_of hand.victims.items) apart.0 all.1)

pub returns : goal.returns
returns g c =
    let m : Meanings g.row.C.Denot = g.C.Keeps in
    let did = c.spare_marked.ensures in
    let hand : Hand = c.spare_marked.new.hand in
    let vs : List (ℕ × Chain) = pairs_of hand.victims.items in
    let es : List Event = made_since c.args.scan.both.hand.before.value c.args.scan.both.shard in
    let place : Place (Known g.row.C.Denot) = gave_back c.args.party.now c.args.scan.both.turn (after_shard m (buckets_of hand) c.args.scan.both.turn c.args.scan.both.hand.before.value es c.args.scan.both.shard c.args.party.now.own) in
    let gave : c.give_shard.new.party ≡ place = gave_shard m c.args.party.now c.give_shard.new.party c.args.scan.both.turn (buckets_of hand) c.args.scan.both.hand.before.value hand.before.value c.args.scan.both.shard c.spare_marked.new.shard (ap (λ x. x.value) did.before) did.shard c.give_shard.ensures in
    record {
      given = buckets_of hand;
      same = did.turns;
      gave = c.give_buckets.ensures ∙ ap (gave_all vs) (c.give_bucket.ensures ∙ ap (λ (x : Place (Known g.row.C.Denot)). gave_back x hand.own.turn (after_same hand.own.turn x.own)) gave);
    }
