-- What the feeder's calls on one key or on a list of them answer.
use Rattle.std.specs.Prelude.{◌≡◌, ◌⊎◌, ℕ, Bool, true, false, not, ◌==◌, IsTrue, List, [], ◌∷◌, Result, Ok, Err, take, is_some}
use Rattle.std.specs.Option.{option_map_or}
use mathlib.Core.Option.{some}
use lib.ListN.{get_elem?}
use Rattle.blk_ptr.specs.declared.key.Key.{Key}
use Rattle.arc_core.specs.declared.config.Config.{Config}
use Rattle.arc_core.specs.declared.event.Event.TheVariants.{Set, Leave, Clear, Restore}
use Rattle.arc_core.specs.declared.event.Why.{Why}
use Rattle.arc_core.specs.declared.event.Why.TheVariants as why
use Rattle.arc_core.specs.declared.served.Restored.{Restored}
use Rattle.arc_core.specs.Changes.{pick_of}
use Rattle.arc_core.specs.PlainShard.{PlainShard, is_absent, place_of}
use Rattle.turn_table.specs.Places.{Place}
use Rattle.arc_table.specs.declared.feeds.Cleared.{Cleared}
use Rattle.arc_table.specs.declared.feeds.Cleared.TheVariants as cleared
use Rattle.arc_table.specs.declared.restores.Refused.{Refused}
use Rattle.arc_table.specs.declared.restores.Refused.TheVariants as refused
use Rattle.arc_table.specs.declared.restores.RestoreStop.{RestoreStop}
use Rattle.arc_table.specs.declared.restores.RestoreStop.TheVariants as stop
use Rattle.arc_table.specs.declared.view.Known.{Known}
use Rattle.arc_table.specs.Both.{Does}
use Rattle.arc_table.specs.Cache.{Cache}
use Rattle.arc_table.specs.Fronts.{list_at}
use Rattle.arc_table.specs.Geometry.{shard_turn}
use Rattle.arc_table.specs.Items.{Meanings}
use Rattle.arc_table.specs.Telling.{Tells}

-- the key has this place
abbrev pub has_place : ℕ → Key → PlainShard → Bool
has_place place k s = option_map_or (λ x. x == place) (place_of k s) false

-- where a list stops at the key after so many
abbrev pub stop_after : Refused → ℕ → RestoreStop
stop_after (refused.NoMemory) done = stop.NoMemory done
stop_after (refused.There front) done = stop.There done front

module _ {C : Type 0} where
  -- the party is the feeder
  abbrev pub IsFeeder : Cache → Place (Known C) → Type 0
  IsFeeder cache p = p.number ≡ cache.config.callers

  -- the feeder lists a pick of the key
  abbrev pub IsPicked : Config → Place (Known C) → Key → Type 0
  IsPicked g p k = IsTrue (is_some (pick_of k (list_at (shard_turn g k) p.own.ledger.picked)))

module _ {C : Type 0} (m : Meanings C) where
  -- `set`: the key has the place; or Set wasn't legal, and the pick is left as gone. Each event is legal, so the answer is true exactly where Set is.
  abbrev pub AnswersSet : Config → Key → (place : ℕ) → Place (Known C) → Place (Known C) → Bool → Type 0
  AnswersSet g k place p q true = Does m g k (Set p.number k place ∷ []) p q
  AnswersSet g k place p q false = Does m g k (Leave p.number k why.Gone ∷ []) p q

  -- `leave`: the pick is left for this reason, or as gone; the event is legal, so it is gone exactly where Set wouldn't be
  abbrev pub Leaves : Config → Key → Why → Place (Known C) → Place (Known C) → Type 0
  Leaves g k reason p q = (w : Why) × ((w ≡ reason) ⊎ (w ≡ why.Gone)) × Does m g k (Leave p.number k w ∷ []) p q

  -- `clear`: the key had this place and lost it; or the replay of the front has it not, and there is no event
  abbrev pub AnswersClear : Config → Key → (place : ℕ) → Place (Known C) → Place (Known C) → Cleared → Type 0
  AnswersClear g k place p q (cleared.Done) = (d : Does m g k (Clear p.number k ∷ []) p q) × IsTrue (has_place place k d.before.now)
  AnswersClear g k place p q (cleared.Not front) = Does m g k [] p q × Tells (λ s. IsTrue (not (has_place place k s))) g k p q front

  -- one key is restored; or there is no event, since memory was refused or the key is there in the replay of the front
  abbrev pub AnswersOne : Config → Restored → Place (Known C) → Place (Known C) → Result (Unit {0}) Refused → Type 0
  AnswersOne g r p q (Ok u) = Does m g r.key (Restore p.number r.key r.place r.digest ∷ []) p q
  AnswersOne g r p q (Err refused.NoMemory) = Does m g r.key [] p q
  AnswersOne g r p q (Err (refused.There front)) = Does m g r.key [] p q × Tells (λ s. IsTrue (not (is_absent r.key s))) g r.key p q front

  -- the party p made these Restore events, one after another, and is q
  abbrev pub Restores : Config → (n : ℕ) → List Restored → Place (Known C) → Place (Known C) → Type 0
  Restores g n [] p q = q ≡ p
  Restores g n (r ∷ rs) p q = (between : Place (Known C)) × Does m g r.key (Restore n r.key r.place r.digest ∷ []) p between × Restores g n rs between q

  -- The party restored the first of these, so many, and stopped at the next one: there was no event for it, and this is so of it
  pub record StopsAt (Q : Restored → Place (Known C) → Place (Known C) → Type 0) (g : Config) (n : ℕ) (list : List Restored) (done : ℕ) (p q : Place (Known C)) : Type 0 where
    pub next : Restored
    pub reached : Place (Known C)
    pub at : get_elem? list done ≡ some next
    pub restored : Restores g n (take done list) p reached
    pub stopped : Does m g next.key [] reached q
    pub so : Q next reached q

  -- `restore`: all were restored; or memory was refused, or the key is there in the replay of the front, after so many
  abbrev pub AnswersRestore : Config → List Restored → Place (Known C) → Place (Known C) → Result (Unit {0}) RestoreStop → Type 0
  AnswersRestore g list p q (Ok u) = Restores g p.number list p q
  AnswersRestore g list p q (Err (stop.NoMemory done)) = StopsAt (λ r a b. Unit {0}) g p.number list done p q
  AnswersRestore g list p q (Err (stop.There done front)) = StopsAt (λ r a b. Tells (λ s. IsTrue (not (is_absent r.key s))) g r.key a b front) g p.number list done p q
