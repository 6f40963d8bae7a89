-- A bucket and a shard in hand: just taken, or with events made since, ready to be given back.
use Rattle.std.specs.Prelude.{◌≡◌, IsTrue, List, [], ◌∷◌, ◌++◌}
use Rattle.blk_ptr.specs.declared.key.Key.{Key}
use Rattle.arc_core.specs.declared.config.Config.{Config}
use Rattle.arc_core.specs.Config.{IsConfig}
use Rattle.arc_core.specs.declared.event.Event.{Event}
use Rattle.arc_core.specs.Replay.{is_legal_history, replay}
use Rattle.hash_chain.specs.Chain.{Chain}
use Rattle.turn_table.specs.Places.{Place}
use Rattle.arc_table.specs.declared.both.Both.{Both}
use Rattle.arc_table.specs.declared.view.Known.{Known}
use Rattle.arc_table.specs.Both.{TakesBoth}
use Rattle.arc_table.specs.Geometry.{bucket_turn, shard_turn}
use Rattle.arc_table.specs.Items.{Meanings}
use Rattle.arc_table.specs.ShardGiving.{IsGivenShard}
use Rattle.arc_table.specs.ShardGiving.{IsGivenShard}

-- these are the turns of the key's bucket and of its shard, and no other bucket is in hand
pub record IsOf (g : Config) (k : Key) (b : Both) : Type 0 where
  pub valid : IsConfig g
  pub own : b.hand.own.turn ≡ bucket_turn g k
  pub turn : b.turn ≡ shard_turn g k
  pub alone : b.hand.victims.items ≡ []

module _ {C : Type 0} (m : Meanings C) where
  -- the party q has just taken both
  pub record IsTaken (g : Config) (k : Key) (b : Both) (q : Place (Known C)) : Type 0 where
    pub kind : IsOf g k b
    pub new : b.hand.before.value ≡ b.shard
    pub from : Place (Known C)
    pub takes : TakesBoth m g k b.hand.own.bucket b.shard from q

  -- the party q took both, made these events of the shard since, and may give both back
  pub record IsMade (g : Config) (k : Key) (es : List Event) (b : Both) (q : Place (Known C)) : Type 0 where
    pub kind : IsOf g k b
    pub from : Place (Known C)
    pub chain : Chain
    pub takes : TakesBoth m g k chain b.hand.before.value from q
    pub legal : IsTrue (is_legal_history b.hand.before.value.now es)
    pub now : b.shard.now ≡ replay b.hand.before.value.now es
    pub history : b.shard.history ≡ b.hand.before.value.history ++ es
    pub given : IsGivenShard q.own.about.config q (shard_turn g k) ((bucket_turn g k, b.hand.own.bucket) ∷ []) b.hand.before.value es b.shard
