-- A party between calls, with a hold that it got, and once it has given it back.
use Rattle.std.specs.Prelude.{◌≡◌, ℕ, suc, List, [], ◌∷◌, ◌++◌, map, Option, Some, None}
use Rattle.blk_ptr.specs.declared.key.Key.{Key}
use Rattle.blk_ptr.specs.declared.ptr.Ptr.{Ptr}
use Rattle.arc_core.specs.declared.event.Event.{Event}
use Rattle.arc_core.specs.declared.event.Event.TheVariants.{Drop}
use Rattle.arc_core.specs.Config.{IsConfig}
use Rattle.turn_table.specs.Places.{Place}
use Rattle.arc_table.specs.declared.hold.Hold.{Hold}
use Rattle.arc_table.specs.declared.view.Known.{Known}
use Rattle.arc_table.specs.declared.view.Line.TheVariants as line
use Rattle.arc_table.specs.Cache.{Cache, IsPartyOf}
use Rattle.arc_table.specs.Fronts.{front_of}
use Rattle.arc_table.specs.Geometry.{shard_turn}
use Rattle.arc_table.specs.Holding.{IsHeld}
use Rattle.arc_table.specs.Looking.{HasNoLook}

-- the party is one of this cache, and holds no turn
pub record IsReady {C : Type 0} (cache : Cache) (p : Place (Known C)) : Type 0 where
  pub valid : IsConfig cache.config
  pub of : IsPartyOf cache p
  pub free : p.held ≡ []

-- it is so still, under its number
pub record IsReadyAs {C : Type 0} (cache : Cache) (p q : Place (Known C)) : Type 0 where
  pub ready : IsReady cache q
  pub number : q.number ≡ p.number

-- it is so still, and has the holds that it had
pub record IsAsBefore {C : Type 0} (cache : Cache) (p q : Place (Known C)) : Type 0 where
  pub ready : IsReady cache q
  pub number : q.number ≡ p.number
  pub holds : q.own.ledger.holds ≡ p.own.ledger.holds

module _ {C : Type 0} where
  -- the party has one hold on this key more
  pub record Gains (k : Key) (p q : Place (Known C)) : Type 0 where
    pub ptr : Ptr
    pub key : ptr.key ≡ k
    pub holds : q.own.ledger.holds ≡ ptr ∷ p.own.ledger.holds

  -- a hold on the key was got, and the party has it besides those that it had
  pub record HasGot (cache : Cache) (k : Key) (hold : Hold) (p q : Place (Known C)) : Type 0 where
    pub ready : IsReadyAs cache p q
    pub key : hold.key ≡ k
    pub held : IsHeld cache.config q hold
    pub gains : Gains k p q

  -- it was got, or nothing was
  abbrev pub Gets : Cache → Key → Place (Known C) → Place (Known C) → Option Hold → Type 0
  Gets cache k p q (Some hold) = HasGot cache k hold p q
  Gets cache k p q None = IsAsBefore cache p q

  -- a hold on the key was given back: the last event that the party has seen of the key's shard is its own Drop
  pub record HasGivenBack (cache : Cache) (k : Key) (p : Place (Known C)) : Type 0 where
    pub before : List Event
    pub seen : front_of (shard_turn cache.config k) p.own.seen ≡ map line.Event (before ++ Drop p.number k ∷ [])

module _ {C : Type 0} where
  -- the party of this number of a new cache: it has joined none, has picked and made nothing, and has no look open
  pub record IsNew (cache : Cache) (n : ℕ) (p : Place (Known C)) : Type 0 where
    pub ready : IsReady cache p
    pub number : p.number ≡ n
    pub joined : p.joined ≡ []
    pub picked : p.own.ledger.picked ≡ []
    pub mine : p.own.mine ≡ []
    pub look : HasNoLook cache p

  -- the parties of a new cache, from this number on
  abbrev pub AreNew : Cache → (first : ℕ) → List (Place (Known C)) → Type 0
  AreNew cache n [] = Unit {0}
  AreNew cache n (p ∷ ps) = IsNew cache n p × AreNew cache (suc n) ps
