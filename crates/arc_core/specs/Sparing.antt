-- What room and trim may do to an entry, and which keys they do it to.
use Rattle.std.specs.Prelude.{◌≡◌, ℕ, zero, suc, Bool, false, not, ◌&&◌, IsTrue, ◌⊎◌, List, [], ◌∷◌, ◌++◌, length, find, Option, Some, None}
use Rattle.std.specs.Option.{option_map_or}
use Rattle.blk_ptr.specs.declared.key.Key.{Key}
use Rattle.blk_ptr.specs.State.{is_cached}
use Rattle.arc_lists.specs.Sequences.{has_sequence, stands, stands_on}
use Rattle.arc_core.specs.declared.entry.Entry.{Entry}
use Rattle.arc_core.specs.declared.event.Event.{Event}
use Rattle.arc_core.specs.declared.event.Event.TheVariants.{Miss, Insert, Resize}
use Rattle.arc_core.specs.PlainShard.{PlainShard, entry_of, is_free, is_passed}
use Rattle.arc_core.specs.Changes.{come, gone}
use Rattle.arc_core.specs.Rules.{dropped, evicted, next_dropped, next_evicted, resized, with_room, with_target_for}
use Rattle.arc_core.specs.Operations.{is_about}
use Rattle.arc_core.specs.Sound.{IsSound}
use Rattle.arc_core.specs.Step.{after, legal, read_entry, written_entry}

-- it stands on a sequence: nobody holds it or reads its bytes, and its state has one
abbrev pub may_go : Entry → Bool
may_go e = is_free e && has_sequence e.state

-- What an event may do to the entry of another key: nothing; or, where it stands on a sequence, its state becomes one without bytes
-- and nothing else of it changes; or it goes, where it has no place on the cache device either.
abbrev pub IsSpared : Option Entry → Option Entry → Type 0
IsSpared None new = new ≡ None
IsSpared (Some e) None = IsTrue (may_go e) × (e.place ≡ None)
IsSpared (Some e) (Some e') = (e' ≡ e) ⊎ (IsTrue (may_go e) × (is_cached e'.state ≡ false) × (e' ≡ record e { state = e'.state }))

-- ---- victims

-- the keys that room for z bytes evicts, in that order, where at most so many turns are made
abbrev pub evictions : (turns z : ℕ) → PlainShard → List Key
evictions zero z s = []
evictions (suc n) z s = option_map_or (λ k. k ∷ evictions n z (evicted k s)) (next_evicted z s) []

abbrev pub evicted_for : ℕ → PlainShard → List Key
evicted_for z s = evictions (length s.entries) z s

-- the keys that trim drops, in that order
abbrev pub drops : (turns : ℕ) → PlainShard → List Key
drops zero s = []
drops (suc n) s = option_map_or (λ k. k ∷ drops n (dropped k s)) (next_dropped s) []

abbrev pub dropped_by_trim : PlainShard → List Key
dropped_by_trim s = drops (length s.entries) s

-- the keys that are evicted and dropped as an entry comes in
abbrev pub victims_of_entry : Entry → PlainShard → List Key
victims_of_entry e s =
    let out = gone e.key s in
    evicted_for e.key.size out ++ dropped_by_trim (come e (with_room e.key.size out))

-- the keys that are evicted and dropped as a shard is fitted to its capacity
abbrev pub fitting_victims : PlainShard → List Key
fitting_victims s = evicted_for 0 s ++ dropped_by_trim (with_room 0 s)

-- the keys that an event evicts, and then those that it drops
abbrev pub victims : PlainShard → Event → List Key
victims s (Miss n k t) = victims_of_entry (read_entry n k t s) (with_target_for k s)
victims s (Insert n k d t) = victims_of_entry (written_entry n k d t) s
victims s (Resize n c) = fitting_victims (resized c s)
victims s _ = []

-- the first of them that isn't marked
abbrev pub next_victim : PlainShard → (marked : List Key) → Event → Option Key
next_victim s marked e = find (λ k. not (stands_on k marked)) (victims s e)

-- ---- laws

-- what an event may do to the entry of another key
abbrev pub IsSparing : Type 0
IsSparing = (s : PlainShard) (e : Event) (j : Key) → IsSound s → IsTrue (legal s e) → IsTrue (not (is_about j e)) → IsSpared (entry_of j s) (entry_of j (after s e))

-- what is no victim keeps its entry
abbrev pub IsSparingOthers : Type 0
IsSparingOthers = (s : PlainShard) (e : Event) (j : Key) → IsSound s → IsTrue (legal s e) → IsTrue (not (is_about j e)) → IsTrue (not (stands_on j (victims s e)))
    → entry_of j (after s e) ≡ entry_of j s

-- where every victim is marked, each other key that isn't marked keeps its entry
abbrev pub IsSparingUnmarked : Type 0
IsSparingUnmarked = (s : PlainShard) (marked : List Key) (e : Event) (j : Key) → IsSound s → IsTrue (legal s e) → IsTrue (not (is_about j e))
    → next_victim s marked e ≡ None → IsTrue (not (stands_on j marked)) → entry_of j (after s e) ≡ entry_of j s

-- a victim is another key that stands on a sequence and wasn't passed, so that it may be passed
abbrev pub IsStandingVictim : Type 0
IsStandingVictim = (s : PlainShard) (e : Event) (k : Key) → IsSound s → IsTrue (legal s e) → IsTrue (stands_on k (victims s e))
    → IsTrue (stands k s.sequences && (not (is_passed s k) && not (is_about k e)))
