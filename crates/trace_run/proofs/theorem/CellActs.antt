-- What was done with the numbers of cells in the shards of a closed cache: which party made each event, and for which act it stands.
use Rattle.std.proofs.Common.{◌≡◌, ◌≢◌, ◌⊎◌, ℕ, zero, suc, ◌+◌, ◌<◌, ◌≤◌, ◌==◌, ◌&&◌, nat_le, Bool, true, false, IsTrue, List, [], ◌∷◌, ◌++◌, length, map, Some, refl, sym, ap, ◌∙◌, subst, inl, inr, arith, eq-eqb, ne_eqb}
use Rattle.std.specs.Prelude.{filter, slice_get}
use Rattle.std.specs.List.{AllByRecursion}
use Rattle.std.proofs.lemmas.Bool.{cases_lt, eqb-true, false≢true}
use Rattle.std.proofs.lemmas.Bool.Decides.{nat_tests}
use mathlib.Core.Option.{some, some-injective, some-ne-none}
use lib.ListN.{get_elem?}
use Rattle.arc_lists.proofs.Standing.{and_left, and_right}
use Rattle.arc_lists.proofs.Tables.{cases_true}
use Rattle.blk_ptr.specs.declared.key.Key.{Key}
use Rattle.blk_ptr.specs.Hash.{shard_of}
use Rattle.arc_core.specs.declared.config.Config.{Config}
use Rattle.arc_core.specs.declared.event.Event.{Event}
use Rattle.arc_core.specs.declared.event.Event.TheVariants.{Pass, Hit, Miss, Arrive, Fail, Drop, Past, Hand, Insert, Release, Pick, FeedEnd, Set, Leave, Clear, Restore, Resize}
use Rattle.arc_core.specs.Operations.{Act, Tell, act_key, actor_of, acts_in, goes_on, is_pass, moments, number_of, own_moments}
use Rattle.arc_core.specs.ShardLog.{ShardLog}
use Rattle.turn_table.specs.Board.{free}
use Rattle.turn_table.specs.Places.{Place}
use Rattle.arc_table.specs.declared.item.Item.TheVariants as item
use Rattle.arc_table.specs.declared.view.Known.{Known}
use Rattle.arc_table.specs.declared.view.Line.{Line}
use Rattle.arc_table.specs.declared.view.Line.TheVariants as line
use Rattle.arc_table.specs.declared.view.Mine.{Mine}
use Rattle.arc_table.specs.Cache.{Cache}
use Rattle.arc_table.specs.Ended.{Ended, Ends}
use Rattle.arc_table.specs.Fronts.{StartsWith, front_of}
use Rattle.arc_table.specs.Geometry.{cell_number, numbers_of, parties_of}
use Rattle.arc_table.specs.Items.{Meanings, lines_in}
use Rattle.arc_table.specs.pact.Logged.{HasPlace, IsOwn}
use Rattle.arc_table.specs.pact.Scene.{Scene}
use Rattle.arc_table.specs.Seen.{IsNumberOrCell, IsSeenBy, events_in, pass_owner, seen_of, turn_of}
use Rattle.arc_table.specs.TableLaws.{get_front, within}
use Rattle.arc_table.specs.Telling.{opening_of}
use Rattle.arc_table.proofs.SeenLemmas.{events-at, events-map}
use Rattle.trace_run.specs.Deeds.{HasAct, HasToldOthers, Noted, act_of_event, acts_of_events, with_number}
use Rattle.trace_run.specs.MadeLines.{made_in, owned_from, IsMaker, is_listed}
use Rattle.trace_run.specs.Making.{AreEventsSeen}
use Rattle.trace_run.specs.RunWork.{AreMadeBy}
use Rattle.trace_run.proofs.deeds.ClosedDeeds.{cell-told}
use Rattle.trace_run.proofs.deeds.MadeCells.{made-owned, owned-map, listed-is}
use Rattle.trace_run.proofs.deeds.MakesLemmas.{seen-below, starts-long}
use Rattle.trace_run.proofs.theorem.CloseLemmas.{get-map, value-at}
use Rattle.trace_run.proofs.callers.MakerLemmas.{event-back, event-same, events-front}

-- ---- lists of events

-- what is so of a party's events with the number c is so of each
owned-has : (P : Event → Type 0) (owner : ℕ → ℕ) (n c place : ℕ) (h : List Event) → AllByRecursion P (with_number c (owned_from owner n place h))
    → (x : ℕ) (ev : Event) → get_elem? h x ≡ some ev → owner (place + x) ≡ n → number_of ev ≡ c → P ev
owned-has P owner n c place [] all x ev at his number = absurd (some-ne-none ev (sym at))
owned-has P owner n c place (y ∷ h) all zero ev at his number =
    let is : y ≡ ev = some-injective y ev at in
    let z : place ≡ place + 0 = omega arith in
    let mine : (owner place == n) ≡ true = eq-eqb (owner place) n (ap owner z ∙ his) in
    let named : (number_of y == c) ≡ true = eq-eqb (number_of y) c (ap number_of is ∙ number) in
    let here : P y × AllByRecursion P (with_number c (owned_from owner n (suc place) h)) = rw (mine, named) at all in
    subst P is here.0
owned-has P owner n c place (y ∷ h) all (suc x) ev at his number =
    owned-has P owner n c (suc place) h (later (cases_true (owner place == n)) (cases_true (number_of y == c))) x ev at (ap owner (let z : suc place + x ≡ place + suc x = omega arith in z) ∙ his) number
  where
    later : ((owner place == n) ≡ true) ⊎ ((owner place == n) ≡ false) → ((number_of y == c) ≡ true) ⊎ ((number_of y == c) ≡ false) → AllByRecursion P (with_number c (owned_from owner n (suc place) h))
    later (inl mine) (inl named) = let here : P y × AllByRecursion P (with_number c (owned_from owner n (suc place) h)) = rw (mine, named) at all in here.1
    later (inl mine) (inr other) = rw (mine, other) at all
    later (inr other) named = rw other at all

-- what is so of each event with the number c is so of all
with-all : (P : Event → Type 0) (c : ℕ) (h : List Event) → ((x : ℕ) (ev : Event) → get_elem? h x ≡ some ev → number_of ev ≡ c → P ev) → AllByRecursion P (with_number c h)
with-all P c [] each = tt
with-all P c (y ∷ h) each = elim (cases_true (number_of y == c)) [
  | inl own ↦ rw own (each 0 y refl (eqb-true (number_of y) c own), with-all P c h (λ x ev at. each (suc x) ev at))
  | inr other ↦ rw other (with-all P c h (λ x ev at. each (suc x) ev at))
]

-- a pass stands for no act
pass-acts : (e : Event) → is_pass e ≡ true → act_of_event e ≡ []
pass-acts (Pass n k owner) pass = refl
pass-acts (Hit n k t) pass = absurd (false≢true pass)
pass-acts (Miss n k t) pass = absurd (false≢true pass)
pass-acts (Arrive n k d from) pass = absurd (false≢true pass)
pass-acts (Fail n k at) pass = absurd (false≢true pass)
pass-acts (Drop n k) pass = absurd (false≢true pass)
pass-acts (Past n k kept) pass = absurd (false≢true pass)
pass-acts (Hand n k to) pass = absurd (false≢true pass)
pass-acts (Insert n k d t) pass = absurd (false≢true pass)
pass-acts (Release n k sole) pass = absurd (false≢true pass)
pass-acts (Pick n k) pass = absurd (false≢true pass)
pass-acts (FeedEnd n) pass = absurd (false≢true pass)
pass-acts (Set n k place) pass = absurd (false≢true pass)
pass-acts (Leave n k why) pass = absurd (false≢true pass)
pass-acts (Clear n k) pass = absurd (false≢true pass)
pass-acts (Restore n k place d) pass = absurd (false≢true pass)
pass-acts (Resize n c) pass = absurd (false≢true pass)

no-pass-act : (e : Event) → is_pass e ≡ true → (act : Act) → act_of_event e ≡ act ∷ [] → ⊥
no-pass-act e pass act is = never (sym (pass-acts e pass) ∙ is)
  where
    never : ◌≡◌ {A = List Act} [] (act ∷ []) → ⊥
    never same = cc

event-at : (h : List Event) (x : ℕ) → x < length h → (ev : Event) × (get_elem? h x ≡ some ev)
event-at [] x inside = absurd (omega (arith, inside))
event-at (y ∷ h) zero inside = (y, refl)
event-at (y ∷ h) (suc x) inside = event-at h x (omega (arith, inside))

from-slice : (h : List Event) (x : ℕ) (ev : Event) → slice_get h x ≡ Some ev → get_elem? h x ≡ some ev
from-slice [] x ev at = cc
from-slice (y ∷ h) zero ev at = let is : y ≡ ev = cc in ap some is
from-slice (y ∷ h) (suc x) ev at = from-slice h x ev at

-- what passes a test is so of all that are picked by it
filter-fits : {A : Type 0} (test : A → Bool) (xs : List A) → AllByRecursion (λ x. test x ≡ true) (filter test xs)
filter-fits test [] = tt
filter-fits test (x ∷ xs) = elim (cases_true (test x)) [
  | inl is ↦ rw is (is, filter-fits test xs)
  | inr fails ↦ rw fails (filter-fits test xs)
]

-- what is so of the acts of events is so of those of each
acts-each : (P : Act → Type 0) (es : List Event) → AllByRecursion P (acts_of_events es) → AllByRecursion (λ e. AllByRecursion P (act_of_event e)) es
acts-each P [] all = tt
acts-each P (e ∷ es) all = let both = halves (act_of_event e) (acts_of_events es) all in (both.0, acts-each P es both.1)
  where
    halves : (xs ys : List Act) → AllByRecursion P (xs ++ ys) → AllByRecursion P xs × AllByRecursion P ys
    halves [] ys all = (tt, all)
    halves (x ∷ xs) ys all = let rest = halves xs ys all.1 in ((all.0, rest.0), rest.1)

neither : (a b : Bool) → b ≡ false → (a && b) ≡ false
neither true b is = is
neither false b is = refl

-- lines of a shard are events, as far as they were seen
front-long : (front rest : List Line) (h : List Event) → map line.Event h ≡ front ++ rest → length (events_in front) ≡ length front
front-long [] rest h is = refl
front-long (l ∷ front) rest [] is = cc
front-long (line.Entry ns ∷ front) rest (e ∷ h) is = cc
front-long (line.Event y ∷ front) rest (e ∷ h) is = let tail : map line.Event h ≡ front ++ rest = cc in ap suc (front-long front rest h tail)

-- ---- one shard of a closed cache

-- what is known of a party: it has seen the events that it made, and those with other numbers than its own are told
pub record HasMade {C : Type 0} (g : Config) (views : List (Known C)) (did : List Act) (noted : List Noted) (n : ℕ) : Type 0 where
  pub party : Place (Known C)
  pub number : party.number ≡ n
  pub shown : get_elem? views n ≡ some party.own
  pub seen : AreEventsSeen g n party.own.mine party.own.seen
  pub told : HasToldOthers g did noted party

module _ {C : Type 0} (m : Meanings C) (cache : Cache) (ps : List (Place (Known C))) (e : Ended C) (ends : Ends m cache ps e) (config : ends.pact.scene.about.config ≡ cache.config)
    (did : ℕ → List Act) (noted : ℕ → List Noted) (each : (n : ℕ) → n < parties_of cache.config → HasMade cache.config ends.views (did n) (noted n) n)
    (i : ℕ) (l : ShardLog) (at : get_elem? e.shards i ≡ some l) where
  abbrev g : Config
  g = cache.config

  abbrev scene : Scene C
  scene = ends.pact.scene

  abbrev owner : ℕ → ℕ
  owner x = scene.owner (turn_of g i) x

  now-there : lines_in m (scene.now (turn_of g i)) ≡ map line.Event l.history
  now-there = ap (lines_in m) (ends.pact.attached.free (turn_of g i) (item.Shard l) (get-map free _ (turn_of g i) (item.Shard l) (value-at m cache ps e ends i l at))).0

  line-there : (x : ℕ) (ev : Event) → get_elem? l.history x ≡ some ev → get_elem? (lines_in m (scene.now (turn_of g i))) x ≡ some (line.Event ev)
  line-there x ev there = ap (λ (k : List Line). get_elem? k x) now-there ∙ events-at (map line.Event l.history) l.history refl x ev there

  place-there : (x : ℕ) (ev : Event) → get_elem? l.history x ≡ some ev → HasPlace m scene (turn_of g i) x (owner x)
  place-there x ev there = ends.pact.logged.places (turn_of g i) x (within (lines_in m (scene.now (turn_of g i))) x (line.Event ev) (line-there x ev there))

  pub owner-party : (x : ℕ) (ev : Event) → get_elem? l.history x ≡ some ev → owner x < parties_of g
  owner-party x ev there = subst (λ (c : Config). owner x < parties_of c) config (place-there x ev there).party

  own-there : (x : ℕ) (ev : Event) → get_elem? l.history x ≡ some ev → IsOwn g (owner x) (line.Event ev)
  own-there x ev there = subst (λ (c : Config). IsOwn c (owner x) (line.Event ev)) config (ends.pact.logged.own (turn_of g i) x (line.Event ev) (line-there x ev there))

  -- an event has its party's number, or a cell's
  pub number-there : (x : ℕ) (ev : Event) → get_elem? l.history x ≡ some ev → number_of ev < numbers_of g
  number-there x ev there = (own-there x ev there).number

  pub own-number : (x : ℕ) (ev : Event) → get_elem? l.history x ≡ some ev → number_of ev < parties_of g → number_of ev ≡ owner x
  own-number x ev there below = (own-there x ev there).maker below

  -- what a party made there are its events of the history
  made-is : (n : ℕ) (below : n < parties_of g) → made_in g i (each n below).party ≡ owned_from owner n 0 l.history
  made-is n below =
      let h = each n below in
      let w : Known C = h.party.own in
      ap events_in (made-owned m scene ends.pact.logged n w (ends.pact.attached.views n w h.shown) (turn_of g i) (seen-below g n w.mine w.seen i h.seen)
      ∙ (ap (owned_from owner n 0) now-there ∙ owned-map line.Event owner n 0 l.history))
      ∙ events-map (owned_from owner n 0 l.history)

  differs-there : (n c : ℕ) (below : n < parties_of g) → parties_of g ≤ c → c ≢ (each n below).party.number
  differs-there n c below above same = let is = (each n below).number in omega (arith, same, is, below, above)

  -- an event with the number of a cell stands for an act of its party, whose key is of this shard
  pub stands-there : (x : ℕ) (ev : Event) → get_elem? l.history x ≡ some ev → parties_of g ≤ number_of ev → HasAct ev
  stands-there x ev there above =
      let below = owner-party x ev there in
      owned-has HasAct owner (owner x) (number_of ev) 0 l.history
      (subst (λ (es : List Event). AllByRecursion HasAct (with_number (number_of ev) es)) (made-is (owner x) below) ((each (owner x) below).told.kinds i (number_of ev) (differs-there (owner x) (number_of ev) below above)))
      x ev there (ap owner (let z : 0 + x ≡ x = omega arith in z)) refl

  -- so no pass has one
  pub pass-own : (x : ℕ) (ev : Event) → get_elem? l.history x ≡ some ev → is_pass ev ≡ true → number_of ev ≡ owner x
  pass-own x ev there pass = elim (cases_lt (number_of ev) (parties_of g)) [
    | inl below ↦ own-number x ev there below
    | inr above ↦ let has = stands-there x ev there above in absurd (no-pass-act ev pass has.0 has.1)
  ]

  pub made-by : AreMadeBy g i owner did l.history
  made-by = record {
    party = λ x inside. let ev = event-at l.history x inside in owner-party x ev.0 ev.1;
    own = λ x ev there below. sym (own-number x ev (from-slice l.history x ev there) below);
    acts = λ n j below range.
        ap (λ (es : List Event). acts_of_events (with_number (cell_number g j) es)) (sym (made-is n below))
        ∙ sym ((each n below).told.cells i (cell_number g j) (differs-there n (cell_number g j) below (omega arith)));
  }

  -- the acts of a cell's number are told in the history
  pub cell-tells : (c : ℕ) → parties_of g ≤ c → Tell (acts_of_events (with_number c l.history)) (own_moments c (moments (opening_of g) l.history))
  cell-tells c above = cell-told c (opening_of g) l.history (with-all HasAct c l.history (λ x ev there is. stands-there x ev there (subst (λ (k : ℕ). parties_of g ≤ k) (sym is) above)))

  -- ---- passes

  lines-seen : (n : ℕ) (below : n < parties_of g) → StartsWith (map line.Event l.history) (front_of (turn_of g i) (each n below).party.own.seen)
  lines-seen n below =
      let h = each n below in
      subst (λ (x : List Line × List (List Line)). StartsWith x.0 (front_of (turn_of g i) x.1)) (λ k. (now-there k, sym (ends.pact.attached.views n h.party.own h.shown).seen k)) (ends.pact.logged.seen n (turn_of g i))

  -- a party made just what it is the owner of
  pub maker-there : (n : ℕ) (below : n < parties_of g) → IsMaker g i owner n (each n below).party
  maker-there n below =
      let h = each n below in
      let w : Known C = h.party.own in
      let starts = lines-seen n below in
      let long = starts-long (map line.Event l.history) (front_of (turn_of g i) w.seen) starts in
      record {
        events = events-front (front_of (turn_of g i) w.seen) starts.0 l.history starts.1;
        made = λ place inside.
            let z : 0 + place ≡ place = omega arith in
            subst (λ (k : ℕ). is_listed (turn_of g i) k w.mine ≡ (owner k == n)) z
            (listed-is m scene ends.pact.logged n w (ends.pact.attached.views n w h.shown) (turn_of g i) (seen-below g n w.mine w.seen i h.seen) place (omega (arith, inside, long, ap length now-there)));
      }

  seen-there : (x : ℕ) (ev : Event) (there : get_elem? l.history x ≡ some ev)
      → IsSeenBy (IsNumberOrCell g) (parties_of g) (owner x) (front_of (turn_of g i) (each (owner x) (owner-party x ev there)).party.own.seen) x
  seen-there x ev there =
      let h = each (owner x) (owner-party x ev there) in
      let pl = place-there x ev there in
      let at_line : get_elem? h.party.own.mine pl.index ≡ some pl.line = ap (λ (k : List Mine). get_elem? k pl.index) (ends.pact.attached.views (owner x) h.party.own h.shown).mine ∙ pl.at in
      subst (IsSeenBy (IsNumberOrCell g) (parties_of g) (owner x) (front_of (turn_of g i) h.party.own.seen)) pl.place (h.seen i pl.index pl.line at_line pl.turn)

  same-there : (x : ℕ) (ev : Event) (there : get_elem? l.history x ≡ some ev) → (seen-there x ev there).event ≡ ev
  same-there x ev there =
      let below = owner-party x ev there in
      let s = seen-there x ev there in
      let starts = lines-seen (owner x) below in
      let front : List Line = front_of (turn_of g i) (each (owner x) below).party.own.seen in
      event-same s.event ev (some-injective (line.Event s.event) (line.Event ev)
      (sym (ap (λ (k : List Line). get_elem? k x) starts.1 ∙ get_front front starts.0 x (line.Event s.event) s.there) ∙ events-at (map line.Event l.history) l.history refl x ev there))

  pub pass-placed : (x : ℕ) (ev : Event) → get_elem? l.history x ≡ some ev → is_pass ev ≡ true → (y : Event) × (get_elem? l.history (suc x) ≡ some y) × IsTrue (goes_on (number_of ev) y)
  pass-placed x ev there pass =
      let below = owner-party x ev there in
      let s = seen-there x ev there in
      let starts = lines-seen (owner x) below in
      let front : List Line = front_of (turn_of g i) (each (owner x) below).party.own.seen in
      let next = s.placed (ap is_pass (same-there x ev there) ∙ pass) in (
        next.0,
        event-back l.history (suc x) next.0 (ap (λ (k : List Line). get_elem? k (suc x)) starts.1 ∙ get_front front starts.0 (suc x) (line.Event next.0) next.1),
        subst (λ (n : ℕ). IsTrue (goes_on n next.0)) (sym (pass-own x ev there pass)) next.2,
      )

  -- its party has seen it
  pub owner-seen : (x : ℕ) (ev : Event) (there : get_elem? l.history x ≡ some ev) → x < length (seen_of g i (each (owner x) (owner-party x ev there)).party)
  owner-seen x ev there =
      let below = owner-party x ev there in
      let front : List Line = front_of (turn_of g i) (each (owner x) below).party.own.seen in
      let s = seen-there x ev there in
      let starts = lines-seen (owner x) below in
      let inside : x < length front = within front x (line.Event s.event) s.there in
      omega (arith, inside, front-long front starts.0 l.history starts.1)

  pub pass-named : (x : ℕ) (ev : Event) → get_elem? l.history x ≡ some ev → is_pass ev ≡ true → pass_owner ev < parties_of g
  pass-named x ev there pass =
      let same = same-there x ev there in
      subst (λ (y : Event). pass_owner y < parties_of g) same ((seen-there x ev there).named (ap is_pass same ∙ pass))

  -- ---- the acts of all cells' numbers

  -- it stands for an act of its number, on a key of this shard
  pub record IsCellAct (ev : Event) : Type 0 where
    pub act : Act
    pub is : act_of_event ev ≡ act ∷ []
    pub by : actor_of act ≡ number_of ev
    pub there : shard_of g.shards (act_key act) ≡ i

  abbrev shard_is : Key → ℕ
  shard_is = shard_of g.shards

  pub cell-act : (x : ℕ) (ev : Event) → get_elem? l.history x ≡ some ev → parties_of g ≤ number_of ev → IsCellAct ev
  cell-act x ev there above =
      let has = stands-there x ev there above in
      let below = owner-party x ev there in
      let c : ℕ = number_of ev in
      let same : acts_of_events (with_number c (owned_from owner (owner x) 0 l.history)) ≡ acts_in shard_is i c (did (owner x)) =
      ap (λ (es : List Event). acts_of_events (with_number c es)) (sym (made-is (owner x) below)) ∙ sym ((each (owner x) below).told.cells i c (differs-there (owner x) c below above)) in
      let fits : AllByRecursion (λ act. (actor_of act == c && shard_is (act_key act) == i) ≡ true) (acts_of_events (with_number c (owned_from owner (owner x) 0 l.history))) =
      subst (AllByRecursion (λ act. (actor_of act == c && shard_is (act_key act) == i) ≡ true)) (sym same) (filter-fits (λ act. actor_of act == c && shard_is (act_key act) == i) (did (owner x))) in
      let of_ev : AllByRecursion (λ act. (actor_of act == c && shard_is (act_key act) == i) ≡ true) (act_of_event ev) =
      owned-has (λ y. AllByRecursion (λ act. (actor_of act == c && shard_is (act_key act) == i) ≡ true) (act_of_event y)) owner (owner x) c 0 l.history
      (acts-each (λ act. (actor_of act == c && shard_is (act_key act) == i) ≡ true) (with_number c (owned_from owner (owner x) 0 l.history)) fits) x ev there (ap owner (let z : 0 + x ≡ x = omega arith in z)) refl in
      let one = subst (AllByRecursion (λ act. (actor_of act == c && shard_is (act_key act) == i) ≡ true)) has.1 of_ev in
      record {
        act = has.0;
        is = has.1;
        by = eqb-true (actor_of has.0) c (and_left (actor_of has.0 == c) (shard_is (act_key has.0) == i) one.0);
        there = eqb-true (shard_is (act_key has.0)) i (and_right (actor_of has.0 == c) (shard_is (act_key has.0) == i) one.0);
      }

  -- so its acts are those of a history's events with that number, and in no other shard
  pub acts-here : (c : ℕ) → parties_of g ≤ c → acts_in shard_is i c (acts_of_events (filter (λ ev. nat_le (parties_of g) (number_of ev)) l.history)) ≡ acts_of_events (with_number c l.history)
  acts-here c above = go l.history (λ x ev there. cell-act x ev there)
    where
      step : (y : Event) (h : List Event) → ((nat_le (parties_of g) (number_of y)) ≡ true) ⊎ ((nat_le (parties_of g) (number_of y)) ≡ false) → ((number_of y == c) ≡ true) ⊎ ((number_of y == c) ≡ false)
          → (parties_of g ≤ number_of y → IsCellAct y)
          → acts_in shard_is i c (acts_of_events (filter (λ ev. nat_le (parties_of g) (number_of ev)) h)) ≡ acts_of_events (with_number c h)
          → acts_in shard_is i c (acts_of_events (filter (λ ev. nat_le (parties_of g) (number_of ev)) (y ∷ h))) ≡ acts_of_events (with_number c (y ∷ h))
      step y h (inl cell) (inl own) stands rest =
          let high : parties_of g ≤ number_of y = grind (arith, nat_tests, cell) in
          let a = stands high in
          let by : (actor_of a.act == c) ≡ true = eq-eqb (actor_of a.act) c (a.by ∙ eqb-true (number_of y) c own) in
          let there : (shard_is (act_key a.act) == i) ≡ true = eq-eqb (shard_is (act_key a.act)) i a.there in
          rw (cell, own, a.is, by, there) (ap (λ (acts : List Act). a.act ∷ acts) rest)
      step y h (inl cell) (inr other) stands rest =
          let high : parties_of g ≤ number_of y = grind (arith, nat_tests, cell) in
          let a = stands high in
          let by : (actor_of a.act == c) ≡ false = ap (λ (k : ℕ). k == c) a.by ∙ other in
          rw (cell, other, a.is, by) rest
      step y h (inr party) (inl own) stands rest =
          let is : number_of y ≡ c = eqb-true (number_of y) c own in
          let low : nat_le (parties_of g) (number_of y) ≡ true = grind (arith, nat_tests, is, above) in
          absurd (false≢true (sym party ∙ low))
      step y h (inr party) (inr other) stands rest = rw (party, other) rest

      go : (h : List Event) → ((x : ℕ) (ev : Event) → get_elem? h x ≡ some ev → parties_of g ≤ number_of ev → IsCellAct ev)
          → acts_in shard_is i c (acts_of_events (filter (λ ev. nat_le (parties_of g) (number_of ev)) h)) ≡ acts_of_events (with_number c h)
      go [] stands = refl
      go (y ∷ h) stands = step y h (cases_true (nat_le (parties_of g) (number_of y))) (cases_true (number_of y == c)) (stands 0 y refl) (go h (λ x ev there. stands (suc x) ev there))

  pub acts-else : (j c : ℕ) → j ≢ i → acts_in shard_is j c (acts_of_events (filter (λ ev. nat_le (parties_of g) (number_of ev)) l.history)) ≡ []
  acts-else j c differs = go l.history (λ x ev there. cell-act x ev there)
    where
      step : (y : Event) (h : List Event) → ((nat_le (parties_of g) (number_of y)) ≡ true) ⊎ ((nat_le (parties_of g) (number_of y)) ≡ false) → (parties_of g ≤ number_of y → IsCellAct y)
          → acts_in shard_is j c (acts_of_events (filter (λ ev. nat_le (parties_of g) (number_of ev)) h)) ≡ []
          → acts_in shard_is j c (acts_of_events (filter (λ ev. nat_le (parties_of g) (number_of ev)) (y ∷ h))) ≡ []
      step y h (inl cell) stands rest =
          let high : parties_of g ≤ number_of y = grind (arith, nat_tests, cell) in
          let a = stands high in
          let out : (shard_is (act_key a.act) == j) ≡ false = ne_eqb (shard_is (act_key a.act)) j (λ is. differs (sym is ∙ a.there)) in
          let none : (actor_of a.act == c && shard_is (act_key a.act) == j) ≡ false = neither (actor_of a.act == c) (shard_is (act_key a.act) == j) out in
          rw (cell, a.is, none) rest
      step y h (inr party) stands rest = rw party rest

      go : (h : List Event) → ((x : ℕ) (ev : Event) → get_elem? h x ≡ some ev → parties_of g ≤ number_of ev → IsCellAct ev)
          → acts_in shard_is j c (acts_of_events (filter (λ ev. nat_le (parties_of g) (number_of ev)) h)) ≡ []
      go [] stands = refl
      go (y ∷ h) stands = step y h (cases_true (nat_le (parties_of g) (number_of y))) (stands 0 y refl) (go h (λ x ev there. stands (suc x) ev there))

  -- and none is a party's
  pub acts-low : (j n : ℕ) → n < parties_of g → acts_in shard_is j n (acts_of_events (filter (λ ev. nat_le (parties_of g) (number_of ev)) l.history)) ≡ []
  acts-low j n low = go l.history (λ x ev there. cell-act x ev there)
    where
      step : (y : Event) (h : List Event) → ((nat_le (parties_of g) (number_of y)) ≡ true) ⊎ ((nat_le (parties_of g) (number_of y)) ≡ false) → (parties_of g ≤ number_of y → IsCellAct y)
          → acts_in shard_is j n (acts_of_events (filter (λ ev. nat_le (parties_of g) (number_of ev)) h)) ≡ []
          → acts_in shard_is j n (acts_of_events (filter (λ ev. nat_le (parties_of g) (number_of ev)) (y ∷ h))) ≡ []
      step y h (inl cell) stands rest =
          let high : parties_of g ≤ number_of y = grind (arith, nat_tests, cell) in
          let a = stands high in
          let other : (actor_of a.act == n) ≡ false = ne_eqb (actor_of a.act) n (λ is. let by = a.by in absurd (omega (arith, is, by, high, low))) in
          rw (cell, a.is, other) rest
      step y h (inr party) stands rest = rw party rest

      go : (h : List Event) → ((x : ℕ) (ev : Event) → get_elem? h x ≡ some ev → parties_of g ≤ number_of ev → IsCellAct ev)
          → acts_in shard_is j n (acts_of_events (filter (λ ev. nat_le (parties_of g) (number_of ev)) h)) ≡ []
      go [] stands = refl
      go (y ∷ h) stands = step y h (cases_true (nat_le (parties_of g) (number_of y))) (stands 0 y refl) (go h (λ x ev there. stands (suc x) ev there))
