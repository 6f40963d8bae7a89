-- What the calls that never wait answer.
use Rattle.std.specs.Prelude.{◌≡◌, ◌≢◌, ℕ, IsTrue, [], ◌∷◌, ◌&&◌}
use Rattle.blk_ptr.specs.declared.key.Key.{Key}
use Rattle.blk_ptr.specs.declared.ptr.Ptr.{Ptr}
use Rattle.arc_core.specs.declared.config.Config.{Config}
use Rattle.arc_core.specs.declared.event.Event.TheVariants.{Hit, Drop}
use Rattle.arc_core.specs.PlainShard.{entry_is, is_resident, keeps_digest}
use Rattle.arc_core.specs.Step.{is_missing, reads}
use Rattle.hash_chain.specs.Chain.{Chain}
use Rattle.turn_table.specs.Moments.{WasFree, WasTaken}
use Rattle.turn_table.specs.Places.{IsOther, Place, gave_back, saw, took}
use Rattle.arc_table.specs.declared.drops.TryDrop.{TryDrop}
use Rattle.arc_table.specs.declared.drops.TryDrop.TheVariants as drops
use Rattle.arc_table.specs.declared.hits.TryHit.{TryHit}
use Rattle.arc_table.specs.declared.hits.TryHit.TheVariants as hits
use Rattle.arc_table.specs.declared.hold.Hold.{Hold}
use Rattle.arc_table.specs.declared.item.Item.TheVariants as item
use Rattle.arc_table.specs.declared.view.Known.{Known}
use Rattle.arc_table.specs.Both.{Does}
use Rattle.arc_table.specs.Geometry.{bucket_turn, shard_turn}
use Rattle.arc_table.specs.Holding.{IsHeld, IsHoldOf}
use Rattle.arc_table.specs.Items.{Meanings}
use Rattle.arc_table.specs.pact.Rule.{Pact}
use Rattle.arc_table.specs.Telling.{Tells}
use Rattle.arc_table.specs.Views.{after_lost, after_same, after_won}

-- a hold, or another party that has the bucket or the shard, or no memory: what a party may get that holds the block already
abbrev pub MayAnswerHolder : TryHit → Type 0
MayAnswerHolder (hits.Held hold) = Unit {0}
MayAnswerHolder (hits.NotHere front) = ⊥
MayAnswerHolder (hits.Other kept front) = ⊥
MayAnswerHolder (hits.Reading owner front) = ⊥
MayAnswerHolder (hits.Busy owner) = Unit {0}
MayAnswerHolder (hits.NoMemory) = Unit {0}

module _ {C : Type 0} (m : Meanings C) where
  -- The party p tried the bucket of the key, and where it was free its shard, and found one of them with the party n; the bucket it gave
  -- back. It is q.
  pub data FindsBusy (g : Config) (k : Key) (n : ℕ) (p q : Place (Known C)) : Type 0 where
    at_bucket : WasTaken (Pact m) p (bucket_turn g k) n → q ≡ saw p (after_lost (bucket_turn g k) n p.own) → FindsBusy g k n p q
    at_shard : (chain : Chain) (r : Place (Known C)) → WasFree (Pact m) p (bucket_turn g k) (item.Bucket chain)
        → r ≡ took p (bucket_turn g k) (after_won m (bucket_turn g k) (item.Bucket chain) p.own)
        → WasTaken (Pact m) r (shard_turn g k) n
        → q ≡ gave_back r (bucket_turn g k) (after_same (bucket_turn g k) (after_lost (shard_turn g k) n r.own)) → FindsBusy g k n p q

  -- what `try_drop` answers: the hold is given back, or it comes back with the number of who had the bucket or the shard
  abbrev pub AnswersDrop : Config → Hold → Place (Known C) → Place (Known C) → TryDrop → Type 0
  AnswersDrop g hold p q (drops.Done) = Does m g hold.key (Drop hold.owner hold.key ∷ []) p q
  AnswersDrop g hold p q (drops.Busy owner back) = (back ≡ hold) × FindsBusy g hold.key owner p q × IsOther owner p

  -- What `try_hit` answers. Held: the access was made, and the party lists the hold, whose block is of the pointer. NotHere, Other and
  -- Reading: the replay of the front says so, and no event was made. Busy: another party had the bucket or the shard.
  abbrev pub AnswersHit : Config → Ptr → (tick : ℕ) → Place (Known C) → Place (Known C) → TryHit → Type 0
  AnswersHit g ptr t p q (hits.Held hold) = Does m g ptr.key (Hit p.number ptr.key t ∷ []) p q × IsHoldOf ptr p.number hold × IsHeld g q hold
  AnswersHit g ptr t p q (hits.NotHere front) = Does m g ptr.key [] p q × Tells (λ s. IsTrue (is_missing ptr.key s)) g ptr.key p q front
  AnswersHit g ptr t p q (hits.Other kept front) = Does m g ptr.key [] p q × (kept ≢ ptr.digest)
      × Tells (λ s. IsTrue (entry_is (λ e. is_resident e && keeps_digest kept e) ptr.key s)) g ptr.key p q front
  AnswersHit g ptr t p q (hits.Reading owner front) = Does m g ptr.key [] p q × Tells (λ s. IsTrue (entry_is (reads owner) ptr.key s)) g ptr.key p q front
  AnswersHit g ptr t p q (hits.Busy owner) = FindsBusy g ptr.key owner p q × IsOther owner p
  AnswersHit g ptr t p q (hits.NoMemory) = Does m g ptr.key [] p q
