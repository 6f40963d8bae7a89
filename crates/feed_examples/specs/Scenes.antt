-- A cache of one caller that may be fed, read and closed.
use Rattle.std.specs.Prelude.{◌≡◌, ℕ, []}
use Rattle.turn_table.specs.Places.{Place}
use Rattle.arc_table.specs.declared.view.Known.{Known}
use Rattle.arc_table.specs.Cache.{Cache}
use Rattle.arc_examples.specs.Ready.{IsReady}
use Rattle.l2_dev.specs.Cursor.{CursorState}
use Rattle.l2_feed.specs.Ready.{IsDeviceReady, IsFeederReady}

module _ {C : Type 0} where
  -- these are the parties of a cache of one caller: p is its feeder, and q the caller
  pub record AreParties (cache : Cache) (p q : Place (Known C)) : Type 0 where
    pub callers : cache.config.callers ≡ 1
    pub feeder : IsFeederReady cache p
    pub free : p.held ≡ []
    pub one : IsReady cache q
    pub number : q.number ≡ 0

  -- and its device, of this size, may be fed
  pub record IsScene (cache : Cache) (p q : Place (Known C)) (size : ℕ) (cursor : CursorState) : Type 0 where
    pub parties : AreParties cache p q
    pub device : IsDeviceReady cache.config size cursor
