-- A call that makes a legal event keeps the shard's invariant.
use Rattle.std.proofs.Common.{◌≡◌, List, refl, sym, subst, ◌+◌, IsTrue, [], ◌∷◌, ◌++◌, length}
use Rattle.blk_ptr.specs.declared.key.Key.{Key}
use Rattle.arc_lists.specs.declared.member.Member.{Member}
use Rattle.arc_lists.specs.Queues.{IsSequenceOf}
use Rattle.arc_core.specs.declared.shard.Shard.TheInside.{Inside}
use Rattle.arc_core.specs.declared.event.Event.{Event}
use Rattle.arc_core.specs.PlainShard.{PlainShard, members}
use Rattle.arc_core.specs.declared.shard.halts.Halts.{Halts}
use Rattle.arc_core.specs.FeedWalk.{IsWalk}
use Rattle.arc_core.specs.Halts.{AreForgotten, AreHalts, IsSoughtFor}
use Rattle.arc_core.specs.Owed.{room_for}
use Rattle.arc_core.specs.ShardModel.{ShardKeeps}
use Rattle.arc_core.specs.Step.{after, legal}
use Rattle.arc_core.proofs.Keeping.{ShardKeeps-step}
use Rattle.arc_core.proofs.Owing.{owed-after}
use Rattle.arc_core.proofs.Soundness.{IsSound-after}

pub made : (s n : Inside) (e : Event) → ShardKeeps s → IsTrue (legal s.table.shard e) → n.table.shard ≡ after s.table.shard e → n.opened ≡ s.opened
    → n.history.events ≡ s.history.events ++ e ∷ [] → length n.history.events ≡ length s.history.events + 1 → n.history.room + 1 ≡ s.history.room
    → n.spare_events + room_for e ≡ s.spare_events → IsSequenceOf (members n.table.shard) n.table.marked → AreHalts n.table.shard n.table.marked n.halts → ShardKeeps n
made s n e kept ok step opened history len capacity spare marked halts =
    let sound = kept.replayed.sound in
    ShardKeeps-step s n e kept ok step (rw step (IsSound-after s.table.shard e sound ok)) opened history len capacity spare marked halts (owed-after s.table.shard e sound ok)

-- where no key is marked, each marked one has an entry
pub none-marked : (ms : List Member) (ks : List Key) → ks ≡ [] → IsSequenceOf ms ks
none-marked ms ks none = rw none (record { once = refl; members = tt })

-- where no scan has begun, each stands where it was left
pub none-halted : (s : PlainShard) (ks : List Key) (h : Halts) → AreForgotten h → AreHalts s ks h
none-halted s ks h none = record {
  sought = subst (λ o. IsSoughtFor s ks o h.sought.search) (sym none.event) tt;
  walk = subst (λ w. IsWalk s w) (sym none.walk) tt;
}
