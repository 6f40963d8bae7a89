-- What a party of the shared cache has seen of the shards, as plain histories.
use Rattle.std.specs.Prelude.{◌≡◌, ◌≢◌, ◌⊎◌, ℕ, suc, ◌+◌, ◌*◌, ◌<◌, ◌≤◌, false, IsTrue, List, [], ◌∷◌, ◌++◌, length, map}
use mathlib.Core.Option.{some}
use lib.ListN.{get_elem?}
use Rattle.arc_core.specs.declared.config.Config.{Config}
use Rattle.arc_core.specs.declared.event.Event.{Event}
use Rattle.arc_core.specs.declared.event.Event.TheVariants.{Pass}
use Rattle.arc_core.specs.Operations.{Moment, goes_on, is_of_feed, is_pass, moments, number_of, own_moments}
use Rattle.arc_core.specs.Replay.{replay}
use Rattle.arc_core.specs.ShardLog.{ShardLog}
use Rattle.turn_table.specs.declared.standing.Kept.{Kept}
use Rattle.turn_table.specs.Places.{HasNumber, Place}
use Rattle.arc_table.specs.declared.view.Known.{Known}
use Rattle.arc_table.specs.declared.view.Line.{Line}
use Rattle.arc_table.specs.declared.view.Line.TheVariants as line
use Rattle.arc_table.specs.declared.view.Mine.{Mine}
use Rattle.arc_table.specs.Fronts.{StartsWith, front_of}
use Rattle.arc_table.specs.Geometry.{IsCell, parties_of}
use Rattle.arc_table.specs.Items.{maker_of}
use Rattle.arc_table.specs.Telling.{opening_of}

-- the events among lines of histories
abbrev pub events_in : List Line → List Event
events_in [] = []
events_in (line.Event e ∷ ls) = e ∷ events_in ls
events_in (line.Entry ns ∷ ls) = events_in ls

-- the turn of the shard of this number
abbrev pub turn_of : Config → (shard : ℕ) → ℕ
turn_of g shard = g.cells + (g.shards * g.buckets + shard)

-- the owner that a pass names
abbrev pub pass_owner : Event → ℕ
pass_owner (Pass n k owner) = owner
pass_owner _ = 0

-- an event stands there with which n's scan goes on
abbrev pub GoesOnAt : (n : ℕ) → List Line → (place : ℕ) → Type 0
GoesOnAt n seen place = (e : Event) × (get_elem? seen place ≡ some (line.Event e)) × IsTrue (goes_on n e)

-- which numbers an event of n's may have: its own alone
abbrev pub IsNumberOf : (n number : ℕ) → Type 0
IsNumberOf n number = number ≡ n

-- or that of a cell too, where it has cells in hand
abbrev pub IsNumberOrCell : Config → (n number : ℕ) → Type 0
IsNumberOrCell g n number = (number ≡ n) ⊎ (parties_of g ≤ number)

-- an event that n made stands there; where it is a pass, it names one of so many parties, and n's scan goes on right behind it
pub record IsSeenBy (May : (n number : ℕ) → Type 0) (parties n : ℕ) (seen : List Line) (place : ℕ) : Type 0 where
  pub event : Event
  pub there : get_elem? seen place ≡ some (line.Event event)
  pub number : May n (number_of event)
  pub placed : IsTrue (is_pass event) → GoesOnAt n seen (suc place)
  pub named : IsTrue (is_pass event) → pass_owner event < parties

-- the same of an event with n's own number
abbrev pub IsSeen : (parties n : ℕ) → List Line → (place : ℕ) → Type 0
IsSeen = IsSeenBy IsNumberOf

-- these lines of shards stand in what was seen, and n made them
abbrev pub AreSeenBy : ((n number : ℕ) → Type 0) → Config → (n : ℕ) → List Mine → List (List Line) → Type 0
AreSeenBy May g n mines seen = (i j : ℕ) (a : Mine) → get_elem? mines j ≡ some a → a.turn ≡ turn_of g i → IsSeenBy May (parties_of g) n (front_of (turn_of g i) seen) a.place

abbrev pub AreSeen : Config → (n : ℕ) → List Mine → List (List Line) → Type 0
AreSeen = AreSeenBy IsNumberOf

-- n made these events; behind each pass n's scan goes on, and it names one of so many parties
abbrev pub AreOwnBy : ((n number : ℕ) → Type 0) → (parties n : ℕ) → List Event → Type 0
AreOwnBy May parties n es = (z : ℕ) (e : Event) → get_elem? es z ≡ some e
    → May n (number_of e) × (IsTrue (is_pass e) → (x : Event) × (get_elem? es (suc z) ≡ some x) × IsTrue (goes_on n x))
    × (IsTrue (is_pass e) → pass_owner e < parties)

abbrev pub AreOwn : (parties n : ℕ) → List Event → Type 0
AreOwn = AreOwnBy IsNumberOf

-- an entry that n made of a cell stands there: it begins with n
pub record IsEntrySeen (n : ℕ) (seen : List Line) (place : ℕ) : Type 0 where
  pub rest : List ℕ
  pub there : get_elem? seen place ≡ some (line.Entry (n ∷ rest))

-- these lines of cells stand in what was seen, and n made them
abbrev pub AreEntriesSeen : Config → (n : ℕ) → List Mine → List (List Line) → Type 0
AreEntriesSeen g n mines seen = (i j : ℕ) (a : Mine) → IsCell g i → get_elem? mines j ≡ some a → a.turn ≡ i → IsEntrySeen n (front_of i seen) a.place

module _ {C : Type 0} where
  -- what the party has seen of the history of the shard of this number
  abbrev pub seen_of : Config → (shard : ℕ) → Place (Known C) → List Event
  seen_of g shard p = events_in (front_of (turn_of g shard) p.own.seen)

  abbrev pub AllSeenBy : ((n number : ℕ) → Type 0) → Config → List (Kept (Known C)) → List (List Line) → Type 0
  AllSeenBy May g [] seen = Unit {0}
  AllSeenBy May g (k ∷ ks) seen = AreSeenBy May g k.number k.view.mine seen × AllSeenBy May g ks seen

  abbrev pub AllSeen : Config → List (Kept (Known C)) → List (List Line) → Type 0
  AllSeen = AllSeenBy IsNumberOf

  -- the party has seen all lines of shards that it made, under numbers that it may have, and those of the parties that it keeps by a join
  pub record HasSeenBy (May : (n number : ℕ) → Type 0) (g : Config) (p : Place (Known C)) : Type 0 where
    pub own : AreSeenBy May g p.number p.own.mine p.own.seen
    pub joined : AllSeenBy May g p.joined p.own.seen

  -- they all have its own number
  abbrev pub HasSeenItsOwn : Config → Place (Known C) → Type 0
  HasSeenItsOwn = HasSeenBy IsNumberOf

  abbrev pub AllEntriesSeen : Config → List (Kept (Known C)) → List (List Line) → Type 0
  AllEntriesSeen g [] seen = Unit {0}
  AllEntriesSeen g (k ∷ ks) seen = AreEntriesSeen g k.number k.view.mine seen × AllEntriesSeen g ks seen

  -- the party has seen all entries of cells that it made, and those of the parties that it keeps by a join
  pub record HasSeenItsEntries (g : Config) (p : Place (Known C)) : Type 0 where
    pub own : AreEntriesSeen g p.number p.own.mine p.own.seen
    pub joined : AllEntriesSeen g p.joined p.own.seen

  -- the party has every number of the cache, as its own or by a join
  abbrev pub HasAll : Place (Known C) → Type 0
  HasAll p = (n : ℕ) → n < p.parties → HasNumber n p

  -- What a party finds of a shard: what it had seen, and then events that are not its own, and where it is the feeder none of a feed's. A party that has every number finds no other events.
  pub record Finds (g : Config) (shard : ℕ) (p : Place (Known C)) (history : List Event) : Type 0 where
    pub rest : List Event
    pub whole : history ≡ seen_of g shard p ++ rest
    pub starts : StartsWith (map line.Event history) (front_of (turn_of g shard) p.own.seen)
    pub others : (y : ℕ) (e : Event) → get_elem? rest y ≡ some e → number_of e ≢ p.number
    pub unfed : p.number ≡ g.callers → (y : ℕ) (e : Event) → get_elem? rest y ≡ some e → is_of_feed e ≡ false
    pub alone : HasAll p → rest ≡ []

  -- Of this shard, q has these moments of its own more than p, and of no other shard has it seen more.
  pub record AddsOwn (g : Config) (shard : ℕ) (ms : List Moment) (p q : Place (Known C)) : Type 0 where
    pub number : q.number ≡ p.number
    pub here : own_moments p.number (moments (opening_of g) (seen_of g shard q)) ≡ own_moments p.number (moments (opening_of g) (seen_of g shard p)) ++ ms
    pub others : (j : ℕ) → j ≢ shard → seen_of g j q ≡ seen_of g j p

  -- Of this shard, q has seen these events more than p, and of no other shard has it seen more.
  pub record AddsAll (g : Config) (shard : ℕ) (es : List Event) (p q : Place (Known C)) : Type 0 where
    pub number : q.number ≡ p.number
    pub here : seen_of g shard q ≡ seen_of g shard p ++ es
    pub others : (j : ℕ) → j ≢ shard → seen_of g j q ≡ seen_of g j p

-- a party is the same to all others
pub record SameParty {C : Type 0} (p q : Place (Known C)) : Type 0 where
  pub number : q.number ≡ p.number
  pub parties : q.parties ≡ p.parties
  pub joined : q.joined ≡ p.joined
  pub about : q.own.about ≡ p.own.about

-- The party p found the shard so and made these events there, whatever call it was: it is q.
pub record MadeBy {C : Type 0} (May : (n number : ℕ) → Type 0) (g : Config) (shard : ℕ) (before : ShardLog) (es : List Event) (p q : Place (Known C)) : Type 0 where
  pub same : SameParty p q
  pub found : Finds g shard p before.history
  pub replayed : replay (opening_of g) before.history ≡ before.now
  pub here : front_of (turn_of g shard) q.own.seen ≡ map line.Event (before.history ++ es)
  pub others : (j : ℕ) → j ≢ shard → front_of (turn_of g j) q.own.seen ≡ front_of (turn_of g j) p.own.seen
  pub news : List Mine
  pub mine : q.own.mine ≡ p.own.mine ++ news
  pub each : (y : ℕ) (a : Mine) → get_elem? news y ≡ some a → (a.turn ≡ turn_of g shard) × (a.place ≡ length before.history + y) × (y < length es)
  pub own : AreOwnBy May (parties_of g) p.number es

-- the same where each event has the party's own number
abbrev pub Made : {C : Type 0} → (g : Config) (shard : ℕ) (before : ShardLog) (es : List Event) (p q : Place (Known C)) → Type 0
Made = MadeBy IsNumberOf

-- What a party finds of a cell: the entries that it had seen, and then entries that others made. A party that has every number finds no others.
pub record FindsEntries {C : Type 0} (i : ℕ) (p : Place (Known C)) (entries : List (List ℕ)) : Type 0 where
  pub rest : List (List ℕ)
  pub whole : map line.Entry entries ≡ front_of i p.own.seen ++ map line.Entry rest
  pub others : (y : ℕ) (e : List ℕ) → get_elem? rest y ≡ some e → maker_of (line.Entry e) ≢ p.number
  pub alone : HasAll p → rest ≡ []
