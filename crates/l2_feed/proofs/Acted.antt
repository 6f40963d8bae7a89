-- What a feed did with the cache, put together; and what its calls leave of the feeder.
use Rattle.std.proofs.Common.{List, [], ◌∷◌, ◌++◌, refl, ◌∙◌, subst}
use Rattle.blk_ptr.specs.declared.key.Key.{Key}
use Rattle.blk_ptr.specs.Hash.{shard_of}
use Rattle.arc_core.specs.declared.config.Config.{Config}
use Rattle.arc_core.specs.declared.event.Event.{Event}
use Rattle.turn_table.specs.Places.{Place}
use Rattle.arc_table.specs.declared.view.Known.{Known}
use Rattle.arc_table.specs.Both.{Does}
use Rattle.arc_table.specs.Cache.{Cache}
use Rattle.arc_table.specs.Geometry.{parties_of}
use Rattle.arc_table.specs.Items.{Meanings}
use Rattle.arc_table.specs.feeder.Listing.{IsFeederOf}
use Rattle.arc_table.specs.Seen.{AreOwnBy, IsNumberOrCell}
use Rattle.arc_table.proofs.Afterwards.{does_stays, stays_free, stays_party}
use Rattle.arc_table.proofs.MadeLemmas.{does-made}
use Rattle.arc_table.proofs.OwnLemmas.{made-sees}
use Rattle.l2_feed.specs.Acts.{Act, DoesAct, DoesActs}
use Rattle.l2_feed.specs.Ready.{IsFeederOn}

module _ {C : Type 0} (m : Meanings C) (g : Config) where
  pub acts_append : (acts more : List Act) (p q r : Place (Known C)) → DoesActs m g acts p q → DoesActs m g more q r → DoesActs m g (acts ++ more) p r
  acts_append [] more p q r did then = subst (λ (x : Place (Known C)). DoesActs m g more x r) did then
  acts_append (act ∷ acts) more p q r did then = (did.0, did.1, acts_append acts more did.0 q r did.2 then)

  pub acts_then : (acts : List Act) (act : Act) (p q r : Place (Known C)) → DoesActs m g acts p q → DoesAct m g act q r → DoesActs m g (acts ++ act ∷ []) p r
  acts_then acts act p q r did then = acts_append acts (act ∷ []) p q r did (r, then, refl)

module _ {C : Type 0} (cache : Cache) where
  pub feeder_of : (p : Place (Known C)) → IsFeederOn cache p → IsFeederOf cache.config p
  feeder_of p on = (on.valid, on.of.config, on.feeder)

module _ {C : Type 0} (m : Meanings C) (cache : Cache) where
  abbrev g : Config
  g = cache.config

  pub does_on : (k : Key) (es : List Event) (p q : Place (Known C)) → IsFeederOn cache p → AreOwnBy (IsNumberOrCell cache.config) (parties_of cache.config) p.number es → Does m cache.config k es p q → IsFeederOn cache q
  does_on k es p q on own d =
      let s = does_stays m g on.valid k es p q on.of.config d in
      record {
        valid = on.valid;
        of = stays_party cache p q s on.of;
        feeder = s.number ∙ on.feeder;
        look = stays_free cache p q s on.look;
        seen = made-sees g (shard_of g.shards k) d.before es p q (does-made m g on.valid k es p q on.of.config on.seen own d) on.seen;
      }
