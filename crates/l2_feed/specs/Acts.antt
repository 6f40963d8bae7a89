-- What a feed did with the cache, call by call: a plain list that no code keeps.
use Rattle.std.specs.Prelude.{◌≡◌, ℕ, List, [], ◌∷◌, map, true}
use Rattle.blk_ptr.specs.declared.key.Key.{Key}
use Rattle.arc_core.specs.declared.config.Config.{Config}
use Rattle.arc_core.specs.declared.event.Event.TheVariants as event
use Rattle.arc_core.specs.declared.event.Why.{Why}
use Rattle.turn_table.specs.Places.{Place}
use Rattle.arc_table.specs.declared.feeds.Cleared.TheVariants as cleared
use Rattle.arc_table.specs.declared.front.Front.{Front}
use Rattle.arc_table.specs.declared.picks.Picked.{Picked as Block}
use Rattle.arc_table.specs.declared.view.Known.{Known}
use Rattle.arc_table.specs.Both.{Does}
use Rattle.arc_table.specs.feeder.Feeding.{AnswersClear, AnswersSet}
use Rattle.arc_table.specs.Items.{Meanings}
use Rattle.arc_table.specs.feeder.Picking.{Feeds, PicksAll, nth_shard_turn}

pub data Act : Type 0 where
  -- these blocks of the shard were picked, one after another, until there was none to pick: the feed's picks and its end there
  Picked : (shard : ℕ) → List Block → Act
  -- memory was refused for picking, and nothing was picked
  Unpicked : (shard : ℕ) → Act
  -- the key had this place on the device, and lost it
  Cleared : Key → (place : ℕ) → Act
  -- it had not this place any more
  Absent : Key → (place : ℕ) → Act
  -- memory was refused for taking the place
  Refused : Key → (place : ℕ) → Act
  -- the picked key was given this place
  Placed : Key → (place : ℕ) → Act
  -- the picked key was given none, for this reason
  Left : Key → Why → Act

-- the keys of blocks
abbrev pub keys_of : List Block → List Key
keys_of blocks = map (λ b. b.key) blocks

module _ {C : Type 0} (m : Meanings C) where
  -- the party p did this with the cache, by one call, and is q
  abbrev pub DoesAct : Config → Act → Place (Known C) → Place (Known C) → Type 0
  DoesAct g (Picked shard blocks) p q = (old : List Block) × (new : List Block) × (a : PicksAll m g (nth_shard_turn g shard) p q old new) × (a.gained ≡ blocks)
  DoesAct g (Unpicked shard) p q = Feeds m g (nth_shard_turn g shard) [] p q
  DoesAct g (Cleared k place) p q = AnswersClear m g k place p q cleared.Done
  DoesAct g (Absent k place) p q = (front : Front) × AnswersClear m g k place p q (cleared.Not front)
  DoesAct g (Refused k place) p q = Does m g k [] p q
  DoesAct g (Placed k place) p q = AnswersSet m g k place p q true
  DoesAct g (Left k why) p q = Does m g k (event.Leave p.number k why ∷ []) p q

  -- the party p did these, one after another, and is q
  abbrev pub DoesActs : Config → List Act → Place (Known C) → Place (Known C) → Type 0
  DoesActs g [] p q = q ≡ p
  DoesActs g (act ∷ acts) p q = (r : Place (Known C)) × DoesAct g act p r × DoesActs g acts r q
