-- What the feeder lists as picked of each shard, before and after its calls; and what it picks.
use Rattle.std.specs.Prelude.{◌≡◌, ◌≢◌, ℕ, zero, suc, ◌≤◌, Bool, IsTrue, List, [], ◌∷◌, map, sum_by, None}
use Rattle.std.specs.Option.{option_map_or}
use mathlib.Core.Option.{some}
use lib.ListN.{get_elem?}
use Rattle.blk_ptr.specs.declared.key.Key.{Key}
use Rattle.arc_core.specs.Config.{IsConfig}
use Rattle.arc_core.specs.declared.config.Config.{Config}
use Rattle.arc_core.specs.declared.entry.Picked.{Picked}
use Rattle.arc_core.specs.declared.event.Event.TheVariants.{Pick}
use Rattle.arc_core.specs.declared.event.Why.{Why}
use Rattle.arc_core.specs.declared.served.Restored.{Restored}
use Rattle.arc_core.specs.Candidate.{candidate}
use Rattle.arc_core.specs.Changes.{without_pick}
use Rattle.arc_core.specs.PlainShard.{PlainShard, place_of}
use Rattle.arc_core.specs.Sound.{are_distinct_picks}
use Rattle.arc_core.specs.Step.{picking}
use Rattle.turn_table.specs.Places.{Place}
use Rattle.arc_table.specs.declared.feeds.Cleared.{Cleared}
use Rattle.arc_table.specs.declared.picks.Picked.{Picked as Block}
use Rattle.arc_table.specs.declared.view.Known.{Known}
use Rattle.arc_table.specs.feeder.Feeding.{AnswersClear, AnswersSet, Leaves, Restores}
use Rattle.arc_table.specs.Fronts.{list_at}
use Rattle.arc_table.specs.Geometry.{shard_turn}
use Rattle.arc_table.specs.Items.{Meanings}
use Rattle.arc_table.specs.feeder.Picking.{PicksAll, left_to_pick}
use Rattle.arc_table.specs.Seen.{HasAll}

module _ {C : Type 0} where
  -- what the party lists as picked of the shard of this turn
  abbrev pub picks_of : (turn : ℕ) → Place (Known C) → List Picked
  picks_of i p = list_at i p.own.ledger.picked

  -- of this shard q lists these picks, and of all others what p listed
  pub record PicksAre (turn : ℕ) (picks : List Picked) (p q : Place (Known C)) : Type 0 where
    pub here : picks_of turn q ≡ picks
    pub others : (j : ℕ) → j ≢ turn → picks_of j q ≡ picks_of j p

  -- the party is the feeder of a cache with this configuration
  abbrev pub IsFeederOf : Config → Place (Known C) → Type 0
  IsFeederOf g p = IsConfig g × (p.own.about.config ≡ g) × (p.number ≡ g.callers)

-- a key that is set or left leaves the list of its shard
abbrev pub IsPickSet : {C : Type 0} → Meanings C → Type 0
IsPickSet {C} m = (g : Config) (k : Key) (place : ℕ) (p q : Place (Known C)) (result : Bool) → IsFeederOf g p
    → AnswersSet m g k place p q result → PicksAre (shard_turn g k) (without_pick k (picks_of (shard_turn g k) p)) p q

abbrev pub IsPickLeft : {C : Type 0} → Meanings C → Type 0
IsPickLeft {C} m = (g : Config) (k : Key) (reason : Why) (p q : Place (Known C)) → IsFeederOf g p
    → Leaves m g k reason p q → PicksAre (shard_turn g k) (without_pick k (picks_of (shard_turn g k) p)) p q

-- a place that is cleared changes no list, and neither do places that are restored
abbrev pub IsPickKeptByClear : {C : Type 0} → Meanings C → Type 0
IsPickKeptByClear {C} m = (g : Config) (k : Key) (place : ℕ) (p q : Place (Known C)) (result : Cleared) → IsFeederOf g p
    → AnswersClear m g k place p q result → (j : ℕ) → picks_of j q ≡ picks_of j p

abbrev pub IsPickKeptByRestore : {C : Type 0} → Meanings C → Type 0
IsPickKeptByRestore {C} m = (g : Config) (list : List Restored) (p q : Place (Known C)) → IsFeederOf g p
    → Restores m g p.number list p q → (j : ℕ) → picks_of j q ≡ picks_of j p

-- what is picked of one shard changes the list of no other
abbrev pub IsPickOfOne : {C : Type 0} → Meanings C → Type 0
IsPickOfOne {C} m = (g : Config) (i : ℕ) (p q : Place (Known C)) (old new : List Block)
    → PicksAll m g i p q old new → (j : ℕ) → j ≢ i → picks_of j q ≡ picks_of j p

-- ---- what one feed picks

-- What a feed has picked of a shard, which is s afterwards: it is within the bound of one feed, no key stands twice, and none has a place.
pub record AreFewPicks (write_max : ℕ) (s : PlainShard) (picks : List Picked) : Type 0 where
  pub within : sum_by (λ pick. pick.key.size) picks ≤ write_max
  pub apart : IsTrue (are_distinct_picks picks)
  pub placeless : (j : ℕ) (x : Picked) → get_elem? picks j ≡ some x → place_of x.key s ≡ None

abbrev pub IsPickFew : {C : Type 0} → Meanings C → Type 0
IsPickFew {C} m = (g : Config) (i : ℕ) (p q : Place (Known C)) (old new : List Block) → IsFeederOf g p
    → (a : PicksAll m g i p q old new) → AreFewPicks g.bounds.write_max a.feeds.after.now (picks_of i q)

-- the keys that a feed picks which passes none, at most so many: the candidate, and then the next one, until there is none
abbrev pub candidates_of : (most : ℕ) → PlainShard → List Key
candidates_of zero s = []
candidates_of (suc most) s = option_map_or (λ k. k ∷ candidates_of most (picking k s)) (candidate s) []

-- all of them: each is one entry less that may be picked
abbrev pub all_picks : PlainShard → List Key
all_picks s = candidates_of (left_to_pick s) s

-- a party that has every number picks just these
abbrev pub IsPickPlain : {C : Type 0} → Meanings C → Type 0
IsPickPlain {C} m = (g : Config) (i : ℕ) (p q : Place (Known C)) (old new : List Block) → IsFeederOf g p → HasAll p
    → (a : PicksAll m g i p q old new) → a.picks ≡ map (Pick p.number) (all_picks a.feeds.before.now)
