-- A read that was begun, and how it ends.
use Rattle.std.specs.Prelude.{◌≡◌, ℕ, [], None}
use mathlib.Core.Option.{some}
use lib.ListN.{get_elem?}
use Rattle.blk_ptr.specs.declared.key.Key.{Key}
use Rattle.arc_core.specs.declared.config.Config.{Config}
use Rattle.arc_core.specs.PlainShard.{place_of}
use Rattle.turn_table.specs.Places.{Place}
use Rattle.arc_table.specs.declared.view.Known.{Known}
use Rattle.arc_table.specs.Both.{Does}
use Rattle.arc_table.specs.Items.{Meanings}

module _ {C : Type 0} where
  -- the party has begun to read the key: it lists it among its readings
  abbrev pub IsReading : Key → Place (Known C) → Type 0
  IsReading k p = (q : ℕ) × (get_elem? p.own.ledger.readings q ≡ some k)

module _ {C : Type 0} (m : Meanings C) where
  -- the party p took the bucket and the shard of the key, found no place of it on the cache device, made no event and gave both back: it is q
  pub record FindsCleared (g : Config) (k : Key) (p q : Place (Known C)) : Type 0 where
    pub does : Does m g k [] p q
    pub cleared : place_of k does.before.now ≡ None
