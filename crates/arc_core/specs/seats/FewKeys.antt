-- A few keys beside those that are found by their hashes. No public clause cites this module.
use Rattle.std.specs.Prelude.{◌-◌, ◌≤◌, List, [], ◌∷◌, vec_len}
use Rattle.blk_ptr.specs.declared.key.Key.{Key}
use Rattle.arc_lists.specs.ByKey.{with_item}
use Rattle.arc_core.specs.declared.keys.Keys.TheInside.{Inside}
use Rattle.arc_core.specs.Keys.{PlainKeys}

-- the keys in rising order, and these few among them
abbrev pub beside : (few more : List Key) → List Key
beside [] more = more
beside (k ∷ few) more = with_item (λ j. j) k (beside few more)

-- there is room for so many as there is by their hashes, less those that are few
abbrev pub keys : Inside → PlainKeys
keys t = record { items = beside t.few.items t.more.items; spare = t.more.spare - vec_len t.few }

pub record KeysKeep (t : Inside) : Type 0 where
  pub room : vec_len t.few ≤ t.more.spare
