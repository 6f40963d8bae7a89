-- A party takes the bucket and the shard of a key, makes events of the shard, and gives both back.
use Rattle.std.specs.Prelude.{◌≡◌, ℕ, IsTrue, List, [], ◌∷◌, ◌++◌}
use Rattle.blk_ptr.specs.declared.key.Key.{Key}
use Rattle.arc_core.specs.declared.config.Config.{Config}
use Rattle.arc_core.specs.declared.event.Event.{Event}
use Rattle.arc_core.specs.Replay.{is_legal_history, replay}
use Rattle.arc_core.specs.ShardLog.{ShardLog}
use Rattle.hash_chain.specs.Chain.{Chain}
use Rattle.turn_table.specs.Moments.{Loses, WasFree}
use Rattle.turn_table.specs.Places.{Place, gave_back, saw, took}
use Rattle.arc_table.specs.declared.item.Item.{Item}
use Rattle.arc_table.specs.declared.item.Item.TheVariants as item
use Rattle.arc_table.specs.declared.view.Known.{Known}
use Rattle.arc_table.specs.Geometry.{bucket_turn, shard_turn}
use Rattle.arc_table.specs.Items.{Meanings}
use Rattle.arc_table.specs.pact.Rule.{Pact}
use Rattle.arc_table.specs.ShardGiving.{after_shard}
use Rattle.arc_table.specs.Views.{after_lost, after_same, after_won}

module _ {C : Type 0} (m : Meanings C) where
  -- The party p found the turn i with these owners, one after the other, and then free with the value v, and took it: it is q
  pub record Takes (i : ℕ) (v : Item C) (p q : Place (Known C)) : Type 0 where
    pub owners : List ℕ
    pub knew : Known C
    pub lost : Loses (Pact m) (λ _. after_lost) i owners p (saw p knew)
    pub free : WasFree (Pact m) (saw p knew) i v
    pub took : q ≡ took p i (after_won m i v knew)

  -- the party p took the bucket of the key, and then its shard: it is q
  pub record TakesBoth (g : Config) (k : Key) (chain : Chain) (before : ShardLog) (p q : Place (Known C)) : Type 0 where
    pub between : Place (Known C)
    pub bucket : Takes (bucket_turn g k) (item.Bucket chain) p between
    pub shard : Takes (shard_turn g k) (item.Shard before) between q

  -- a party that has both in hand, once it has given the shard back with these events made, and then the bucket
  abbrev pub gave_both : Config → Key → Chain → ShardLog → List Event → ShardLog → Place (Known C) → Place (Known C)
  gave_both g k given before es after q =
      let w = after_shard m ((bucket_turn g k, given) ∷ []) (shard_turn g k) before es after q.own in
      gave_back (gave_back q (shard_turn g k) w) (bucket_turn g k) (after_same (bucket_turn g k) w)

  -- The party q, with the key's bucket and its shard in hand, made these events of the shard, each legal when it came, and gave both
  -- back: it is r. The events are its own, at the end of what it has seen of the shard.
  pub record Makes (g : Config) (k : Key) (before : ShardLog) (es : List Event) (q r : Place (Known C)) : Type 0 where
    pub after : ShardLog
    pub given : Chain
    pub legal : IsTrue (is_legal_history before.now es)
    pub now : after.now ≡ replay before.now es
    pub history : after.history ≡ before.history ++ es
    pub gave : r ≡ gave_both g k given before es after q

  -- The party p took the bucket and the shard of the key, made these events of the shard, and gave both back: it is r
  pub record Does (g : Config) (k : Key) (es : List Event) (p r : Place (Known C)) : Type 0 where
    pub chain : Chain
    pub before : ShardLog
    pub reached : Place (Known C)
    pub takes : TakesBoth g k chain before p reached
    pub makes : Makes g k before es reached r
