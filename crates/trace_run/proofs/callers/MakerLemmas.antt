-- Who made the lines of a shard: what holds of a party that has seen more held of it before, what it made by a cut, and what follows its passes there.
use Rattle.std.proofs.Common.{◌≡◌, ℕ, zero, suc, ◌+◌, ◌<◌, ◌≤◌, ◌==◌, IsTrue, true, List, [], ◌∷◌, ◌++◌, length, map, refl, sym, ap, ◌∙◌, subst, arith}
use Rattle.std.proofs.lemmas.List.{length-map, map-append}
use mathlib.Core.Option.{some, some-injective, some-ne-none}
use lib.ListN.{get_elem?}
use Rattle.arc_core.specs.declared.config.Config.{Config}
use Rattle.arc_core.specs.declared.event.Event.{Event}
use Rattle.arc_core.specs.Operations.{goes_on, is_pass}
use Rattle.turn_table.specs.Places.{Place}
use Rattle.arc_table.specs.declared.view.Known.{Known}
use Rattle.arc_table.specs.declared.view.Line.{Line}
use Rattle.arc_table.specs.declared.view.Line.TheVariants as line
use Rattle.arc_table.specs.Fronts.{StartsWith, front_of}
use Rattle.arc_table.specs.Geometry.{parties_of}
use Rattle.arc_table.specs.Seen.{IsNumberOrCell, IsSeenBy, events_in, seen_of, turn_of}
use Rattle.arc_table.specs.TableLaws.{get_front}
use Rattle.arc_table.proofs.SeenLemmas.{events-map}
use Rattle.trace_run.specs.Deeds.{KeepsCells, MakesFrom, MakesLater}
use Rattle.trace_run.specs.Making.{AreEventsSeen}
use Rattle.trace_run.specs.MadeLines.{IsMaker, OwnPasses, is_listed, made_in, owned_from}
use Rattle.trace_run.proofs.deeds.MadeCells.{listed-owned, owned-map}
use Rattle.trace_run.proofs.deeds.MadeLemmas.{AreBelow, listed-at, made-grown}
use Rattle.trace_run.proofs.deeds.MakesLemmas.{starts-long}

-- what goes on as events is events
pub events-front : (front rest : List Line) (h : List Event) → map line.Event h ≡ front ++ rest → front ≡ map line.Event (events_in front)
events-front [] rest h is = refl
events-front (l ∷ front) rest [] is = cc
events-front (line.Entry ns ∷ front) rest (e ∷ h) is = cc
events-front (line.Event y ∷ front) rest (e ∷ h) is = let tail : map line.Event h ≡ front ++ rest = cc in ap (λ (ls : List Line). line.Event y ∷ ls) (events-front front rest h tail)

pub events-few : (ls : List Line) → length (events_in ls) ≤ length ls
events-few [] = omega arith
events-few (line.Event e ∷ ls) = let h = events-few ls in omega (arith, h)
events-few (line.Entry ns ∷ ls) = let h = events-few ls in omega (arith, h)

-- lines that are events
pub event-same : (a b : Event) → line.Event a ≡ line.Event b → a ≡ b
event-same a b is = cc

pub event-back : (es : List Event) (x : ℕ) (y : Event) → get_elem? (map line.Event es) x ≡ some (line.Event y) → get_elem? es x ≡ some y
event-back [] x y is = absurd (some-ne-none (line.Event y) (sym is))
event-back (z ∷ zs) zero y is = ap some (event-same z y (some-injective (line.Event z) (line.Event y) is))
event-back (z ∷ zs) (suc x) y is = event-back zs x y is

-- what stands in a front stands in the whole
in-whole : (front whole : List Event) → StartsWith whole front → (x : ℕ) (e : Event) → get_elem? front x ≡ some e → get_elem? whole x ≡ some e
in-whole front whole starts x e at = ap (λ (es : List Event). get_elem? es x) starts.1 ∙ get_front front starts.0 x e at

-- passes of a front have the numbers that those of the whole have
pub passes-before : (g : Config) (owner : ℕ → ℕ) (front whole : List Event) → StartsWith whole front → OwnPasses g owner whole → OwnPasses g owner front
passes-before g owner front whole starts passes x e at pass = passes x e (in-whole front whole starts x e at) pass

-- n's scan goes on right behind this place of these events
abbrev pub GoesBehind : (n : ℕ) → List Event → (place : ℕ) → Type 0
GoesBehind n es place = (f : Event) × (get_elem? es (suc place) ≡ some f) × IsTrue (goes_on n f)

-- behind each pass of these events at a place of n's it does
abbrev pub GoesOnOf : (n : ℕ) → (es : List Event) → (owner : ℕ → ℕ) → Type 0
GoesOnOf n es owner = (x : ℕ) (e : Event) → get_elem? es x ≡ some e → is_pass e ≡ true → owner x ≡ n → GoesBehind n es x

module _ {C : Type 0} (g : Config) where
  -- what a party makes later than what it had seen is behind the events of that
  pub later-behind : (p q r : Place (Known C)) → q.own.mine ≡ p.own.mine → MakesLater g q r → MakesFrom g (λ shard. length (seen_of g shard q)) p r
  later-behind p q r same later shard place below =
      let few = events-few (front_of (turn_of g shard) q.own.seen) in
      later shard place (omega (arith, below, few)) ∙ ap (is_listed (turn_of g shard) place) same

  module _ (shard : ℕ) (owner : ℕ → ℕ) where
    pub maker-before : (n : ℕ) (p q : Place (Known C)) → KeepsCells g p q → IsMaker g shard owner n q → IsMaker g shard owner n p
    maker-before n p q keeps maker =
        let more = keeps.shards shard in
        let long = starts-long (front_of (turn_of g shard) q.own.seen) (front_of (turn_of g shard) p.own.seen) more in
        record {
          events = events-front (front_of (turn_of g shard) p.own.seen) more.0 (seen_of g shard q) (sym maker.events ∙ more.1);
          made = λ place below. sym (keeps.older shard place below) ∙ maker.made place (omega (arith, below, long));
        }

    -- n's events of a front that goes on from what the party had seen are those that it had made
    pub maker-owned : (n : ℕ) (p : Place (Known C)) (front : List Event) → front_of (turn_of g shard) p.own.seen ≡ map line.Event (seen_of g shard p) → AreBelow (turn_of g shard) (length (front_of (turn_of g shard) p.own.seen)) p.own.mine
        → StartsWith front (seen_of g shard p) → ((y : ℕ) → y < length front → is_listed (turn_of g shard) y p.own.mine ≡ (owner y == n)) → owned_from owner n 0 front ≡ made_in g shard p
    maker-owned n p front events below starts listed =
        let lines : List Line = front_of (turn_of g shard) p.own.seen in
        let more : StartsWith (map line.Event front) lines =
        (map line.Event starts.0, ap (map line.Event) starts.1 ∙ (map-append line.Event (seen_of g shard p) starts.0 ∙ ap (λ (ls : List Line). ls ++ map line.Event starts.0) (sym events))) in
        sym (events-map (owned_from owner n 0 front))
        ∙ ap events_in (sym (owned-map line.Event owner n 0 front)
        ∙ (sym (listed-owned owner (turn_of g shard) n 0 p.own.mine (map line.Event front) (λ y inside.
        let z : y ≡ 0 + y = omega arith in
        subst (λ (k : ℕ). is_listed (turn_of g shard) k p.own.mine ≡ (owner k == n)) z (listed y (omega (arith, inside, length-map front line.Event)))))
        ∙ made-grown (turn_of g shard) p.own.mine lines (map line.Event front) more below))

  -- a pass that a party made is followed, in what goes on from what the party had seen, by an event with which the party's scan goes on
  pub maker-goes : (shard n : ℕ) (p : Place (Known C)) (front : List Event) → front_of (turn_of g shard) p.own.seen ≡ map line.Event (seen_of g shard p) → AreEventsSeen g n p.own.mine p.own.seen → StartsWith front (seen_of g shard p)
      → (x : ℕ) (e : Event) → get_elem? front x ≡ some e → is_pass e ≡ true → is_listed (turn_of g shard) x p.own.mine ≡ true → GoesBehind n front x
  maker-goes shard n p front events seen starts x e at pass listed =
      let (j, a, there, turn, place) = listed-at (turn_of g shard) x p.own.mine listed in
      let s : IsSeenBy (IsNumberOrCell g) (parties_of g) n (front_of (turn_of g shard) p.own.seen) x = subst (IsSeenBy (IsNumberOrCell g) (parties_of g) n (front_of (turn_of g shard) p.own.seen)) place (seen shard j a there turn) in
      let back : (y : ℕ) (f : Event) → get_elem? (front_of (turn_of g shard) p.own.seen) y ≡ some (line.Event f) → get_elem? front y ≡ some f =
      λ y f is. in-whole (seen_of g shard p) front starts y f (event-back (seen_of g shard p) y f (ap (λ (ls : List Line). get_elem? ls y) (sym events) ∙ is)) in
      let same : s.event ≡ e = some-injective s.event e (sym (back x s.event s.there) ∙ at) in
      let next = s.placed (ap is_pass same ∙ pass) in
      (next.0, back (suc x) next.0 next.1, next.2)
