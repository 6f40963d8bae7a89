-- What the feeder and the callers are behind events that it made while all had joined it; a new capacity of every shard is such.
use Rattle.std.proofs.Common.{◌≡◌, ◌≢◌, ◌⊎◌, ℕ, zero, suc, ◌<◌, ◌≤◌, nat_lt, Bool, true, false, if◌then◌else◌, IsTrue, List, [], ◌∷◌, ◌++◌, map, refl, sym, ap, ◌∙◌, subst, inl, inr, arith, append-nil, eq-eqb}
use Rattle.std.specs.List.{AllByRecursion}
use Rattle.std.proofs.lemmas.Bool.{cases_lt}
use Rattle.std.proofs.lemmas.Bool.Decides.{nat_tests}
use mathlib.Core.Option.{some, some-injective, some-ne-none}
use lib.ListN.{get_elem?}
use Rattle.blk_ptr.specs.Hash.{shard_of}
use Rattle.arc_core.specs.declared.config.Config.{Config}
use Rattle.arc_core.specs.declared.event.Event.{Event}
use Rattle.arc_core.specs.declared.event.Event.TheVariants.{Resize}
use Rattle.arc_core.specs.Operations.{Moment, goes_on, is_pass, moments, number_of, own_moments}
use Rattle.arc_core.specs.PlainShard.{PlainShard}
use Rattle.arc_core.specs.Replay.{replay}
use Rattle.turn_table.specs.declared.standing.Kept.{Kept}
use Rattle.turn_table.specs.Places.{Apart, IsIn, Place, SomeHas}
use Rattle.arc_table.specs.declared.view.Known.{Known}
use Rattle.arc_table.specs.declared.view.Ledger.{Ledger}
use Rattle.arc_table.specs.declared.view.Line.{Line}
use Rattle.arc_table.specs.declared.view.Mine.{Mine}
use Rattle.arc_table.specs.Cache.{Cache}
use Rattle.arc_table.specs.feeder.Listing.{picks_of}
use Rattle.arc_table.specs.Fronts.{StartsWith, front_of, list_at}
use Rattle.arc_table.specs.Geometry.{parties_of}
use Rattle.arc_table.specs.Items.{Meanings}
use Rattle.arc_table.specs.Resizing.{Resizes, ResizesOne, key_in}
use Rattle.arc_table.specs.Seen.{AddsAll, HasAll, events_in, seen_of, turn_of}
use Rattle.arc_table.specs.ShardGiving.{holds_through, readings_through}
use Rattle.arc_table.specs.TableLaws.{starts_whole}
use Rattle.arc_table.specs.Telling.{opening_of}
use Rattle.arc_table.proofs.Afterwards.{Stays, stays_party, stays_then}
use Rattle.arc_table.proofs.OwnLemmas.{grows, no-own-moments, own-append}
use Rattle.arc_table.proofs.scans.RoomyAfter.{does_roomy_ledger, does_roomy_stays}
use Rattle.arc_table.proofs.scans.ScanAlone.{scan-alone}
use Rattle.trace_run.specs.KeptBlocks.{AllQuiet, ClaimsNothing, Stands, times}
use Rattle.trace_run.specs.Meeting.{AreLast, HasLearned, HaveParted, IsApart, JoinAll, Joins, MadeJoined, PartAll, SeesEntries, resizes_in}
use Rattle.trace_run.proofs.CellsLeft.{LeavesCells, leaves-grow, leaves-same, leaves-seen, leaves-then, roomy-leaves}
use Rattle.trace_run.proofs.MoveLemmas.{Moves, roomy-made-own, roomy-moves}
use Rattle.trace_run.specs.Deeds.{SameMade}
use Rattle.trace_run.specs.Making.{AreEventsSeen}
use Rattle.trace_run.proofs.deeds.MakesLemmas.{grown-same, same-none, same-then}
use Rattle.trace_run.proofs.feeds.PickedLemmas.{resize-picked, roomy-picks}
use Rattle.trace_run.proofs.callers.MeetLemmas.{HaveJoined, all-level, have-met, all-parted, are-last, joined-front, joined_of, left_alone, parted-then, parted_from, starts-events, starts-then}
use Rattle.trace_run.proofs.callers.TurnLemmas.{joined, joined-all, joined-stands, left-stands}
use Rattle.trace_run.proofs.callers.MakerLemmas.{later-behind}

module _ {C : Type 0} (m : Meanings C) (cache : Cache) (c : ℕ) where
  abbrev gc : Config
  gc = cache.config

  -- The first so many shards have this capacity, and a party that has every number did that.
  pub record HasGiven (done : ℕ) (p q : Place (Known C)) : Type 0 where
    pub stays : Stays p q
    pub stands : Stands cache q []
    pub all : HasAll q
    pub below : (s : ℕ) → s < done → seen_of gc s q ≡ seen_of gc s p ++ Resize p.number c ∷ []
    pub beyond : (s : ℕ) → done ≤ s → seen_of gc s q ≡ seen_of gc s p
    pub starts : (i : ℕ) → StartsWith (front_of (turn_of gc i) q.own.seen) (front_of (turn_of gc i) p.own.seen)
    pub left : LeavesCells gc p q
    pub made : SameMade gc p q
    pub picks : p.number ≡ gc.callers → (i : ℕ) → picks_of i q ≡ picks_of i p

  -- ---- one shard

  module _ (s : ℕ) (p q : Place (Known C)) (stands : Stands cache p []) (all : HasAll p) (one : ResizesOne m gc p.number c s p q) where
    abbrev e : Event
    e = Resize p.number c

    fits : (number_of e ≡ p.number) × (is_pass e ≡ false) × IsTrue (goes_on p.number e)
    fits = (refl, refl, eq-eqb p.number p.number refl)

    none : one.does.makes.passes ≡ []
    none = scan-alone m gc (key_in s) e p q all one.does

    one-stays : Stays p q
    one-stays = does_roomy_stays m gc stands.valid (key_in s) e p q stands.of.config one.does

    moves : Moves gc (shard_of gc.shards (key_in s)) (own_moments p.number (moments one.does.before.now (one.does.makes.passes ++ e ∷ []))) (one.does.makes.passes ++ e ∷ []) p q
    moves = roomy-moves m gc stands.valid (key_in s) p q stands.of.config stands.seen e fits one.does

    here : shard_of gc.shards (key_in s) ≡ s
    here = let own = one.own in omega (arith, own)

    adds : AddsAll gc s (e ∷ []) p q
    adds = subst (λ (x : ℕ × List Event). AddsAll gc x.0 (x.1 ++ e ∷ []) p q) (λ i. (here i, none i)) (moves.alone all)

    one-holds : q.own.ledger.holds ≡ p.own.ledger.holds
    one-holds =
        ap (λ (l : Ledger). l.holds) (does_roomy_ledger m gc stands.valid (key_in s) e p q stands.of.config one.does)
        ∙ ap (λ (l : List Event). holds_through p.number one.does.before.now (l ++ e ∷ []) p.own.ledger.holds) none

    one-readings : q.own.ledger.readings ≡ p.own.ledger.readings
    one-readings =
        ap (λ (l : Ledger). l.readings) (does_roomy_ledger m gc stands.valid (key_in s) e p q stands.of.config one.does)
        ∙ ap (λ (l : List Event). readings_through p.number (l ++ e ∷ []) p.own.ledger.readings) none

    one-unclaimed : ClaimsNothing q.own.ledger
    one-unclaimed i = ap (λ (l : Ledger). list_at i l.claims) (does_roomy_ledger m gc stands.valid (key_in s) e p q stands.of.config one.does) ∙ stands.unclaimed i

    one-stands : Stands cache q []
    one-stands = record {
      valid = stands.valid;
      of = stays_party cache p q one-stays stands.of;
      free = one-stays.held ∙ stands.free;
      cells = leaves-seen gc p q (roomy-leaves m gc stands.valid (key_in s) e p q stands.of.config one.does) stands.cells;
      idle = one-readings ∙ stands.idle;
      unclaimed = one-unclaimed;
      seen = moves.seen;
      apart = subst (λ (x : ℕ × List (Kept (Known C))). Apart x.0 x.1) (λ i. (sym one-stays.number i, sym one-stays.joined i)) stands.apart;
      joined = subst AllQuiet (sym one-stays.joined) stands.joined;
      owned = tt;
      listed = λ x. ap (times x) one-holds ∙ stands.listed x;
    }

    one-starts : (i : ℕ) → StartsWith (front_of (turn_of gc i) q.own.seen) (front_of (turn_of gc i) p.own.seen)
    one-starts = grows gc (shard_of gc.shards (key_in s)) one.does.before (one.does.makes.passes ++ e ∷ []) p q (roomy-made-own m gc stands.valid (key_in s) p q stands.of.config stands.seen e fits one.does)

    one-picks : p.number ≡ gc.callers → (i : ℕ) → picks_of i q ≡ picks_of i p
    one-picks feeder =
        roomy-picks m gc (key_in s) e p q (stands.valid, stands.of.config, feeder) one.does
        (ap (λ (es : List Event). (replay one.does.before.now (es ++ e ∷ [])).picked) none ∙ resize-picked one.does.before.now p.number c)

  -- ---- all shards

  none-given : (p : Place (Known C)) → Stands cache p [] → HasAll p → HasGiven 0 p p
  none-given p stands all = record {
    stays = record { table = refl; parties = refl; number = refl; joined = refl; held = refl; about = refl };
    stands = stands;
    all = all;
    below = λ s lt. absurd (omega (arith, lt));
    beyond = λ s le. refl;
    starts = λ i. starts_whole (front_of (turn_of gc i) p.own.seen);
    left = leaves-same gc p p refl;
    made = same-none gc p;
    picks = λ feeder i. refl;
  }

  pub given-to : (done : ℕ) (p q : Place (Known C)) → Stands cache p [] → HasAll p → Resizes m gc p.number c done p q → HasGiven done p q
  given-to zero p q stands all is = subst (HasGiven 0 p) (sym is) (none-given p stands all)
  given-to (suc s) p q stands all did =
      let r = did.0 in
      let first = given-to s p r stands all did.1 in
      let number : r.number ≡ p.number = first.stays.number in
      let one : ResizesOne m gc r.number c s r q = subst (λ (n : ℕ). ResizesOne m gc n c s r q) (sym number) did.2 in
      let more = adds s r q first.stands first.all one in
      let later = one-starts s r q first.stands first.all one in
      record {
        stays = stays_then p r q first.stays (one-stays s r q first.stands first.all one);
        stands = one-stands s r q first.stands first.all one;
        all = (moves s r q first.stands first.all one).all first.all;
        below = λ t lt. elim (cases_lt t s) [
          | inl early ↦ more.others t (λ is. omega (arith, early, is)) ∙ first.below t early
          | inr late ↦
              let is : t ≡ s = omega (arith, late, lt) in
              subst (λ (k : ℕ). seen_of gc k q ≡ seen_of gc k p ++ Resize p.number c ∷ []) (sym is)
              (more.here ∙ (λ i. first.beyond s (omega arith) i ++ Resize (number i) c ∷ []))
        ];
        beyond = λ t le. more.others t (λ is. omega (arith, le, is)) ∙ first.beyond t (omega (arith, le));
        starts = λ i. starts-then (front_of (turn_of gc i) q.own.seen) (front_of (turn_of gc i) r.own.seen) (front_of (turn_of gc i) p.own.seen) (later i) (first.starts i);
        left = leaves-then gc p r q first.left (roomy-leaves m gc first.stands.valid (key_in s) (Resize r.number c) r q first.stands.of.config one.does);
        made = same-then gc p r q first.made (moves s r q first.stands first.all one).same;
        picks = λ feeder i. one-picks s r q first.stands first.all one (number ∙ feeder) i ∙ first.picks feeder i;
      }

-- ---- events of one number are no other's

other-events : (n k : ℕ) (s : PlainShard) (front more : List Event) → n ≢ k → AllByRecursion (λ e. number_of e ≡ n) more → own_moments k (moments s (front ++ more)) ≡ own_moments k (moments s front)
other-events n k s front more differs mine =
    own-append k s front more
    ∙ (ap (λ (l : List Moment). own_moments k (moments s front) ++ l) (no-own-moments k _ more (only more mine))
    ∙ append-nil (own_moments k (moments s front)))
  where
    only : (es : List Event) → AllByRecursion (λ e. number_of e ≡ n) es → (y : ℕ) (e : Event) → get_elem? es y ≡ some e → number_of e ≢ k
    only [] all y e at is = absurd (some-ne-none e (sym at))
    only (x ∷ es) all zero e at is = differs (sym all.0 ∙ (ap number_of (some-injective x e at) ∙ is))
    only (x ∷ es) all (suc y) e at is = only es all.1 y e at is

-- A party that keeps nothing and has every number made these events of each shard.
pub record HasMade {C : Type 0} (cache : Cache) (more : (shard : ℕ) → List Event) (p q : Place (Known C)) : Type 0 where
  pub stays : Stays p q
  pub stands : Stands cache q []
  pub all : HasAll q
  pub seen : (s : ℕ) → seen_of cache.config s q ≡ seen_of cache.config s p ++ more s
  pub starts : (i : ℕ) → StartsWith (front_of (turn_of cache.config i) q.own.seen) (front_of (turn_of cache.config i) p.own.seen)
  pub left : LeavesCells cache.config p q
  pub made : SameMade cache.config p q
  pub picks : p.number ≡ cache.config.callers → (i : ℕ) → picks_of i q ≡ picks_of i p

-- all shards have this capacity
resizes-made : {C : Type 0} (m : Meanings C) (cache : Cache) (n c : ℕ) (p q : Place (Known C)) → p.number ≡ n → HasGiven m cache c cache.config.shards p q → HasMade cache (resizes_in cache.config.shards n c) p q
resizes-made m cache n c p q number given = record {
  stays = given.stays;
  stands = given.stands;
  all = given.all;
  seen = λ s. elim (cases_lt s cache.config.shards) [
    | inl below ↦
        let here : nat_lt s cache.config.shards ≡ true = grind (arith, nat_tests, below) in
        given.below s below ∙ (λ i. seen_of cache.config s p ++ (if sym here i then Resize (number i) c ∷ [] else []))
    | inr beyond ↦
        let out : nat_lt s cache.config.shards ≡ false = grind (arith, nat_tests, beyond) in
        given.beyond s beyond ∙ (sym (append-nil (seen_of cache.config s p)) ∙ (λ i. seen_of cache.config s p ++ (if sym out i then Resize n c ∷ [] else [])))
  ];
  starts = given.starts;
  left = given.left;
  made = given.made;
  picks = given.picks;
}

resizes-mine : (shards n c : ℕ) (s : ℕ) → AllByRecursion (λ e. number_of e ≡ n) (resizes_in shards n c s)
resizes-mine shards n c s = go (nat_lt s shards)
  where
    go : (b : Bool) → AllByRecursion (λ e. number_of e ≡ n) (if b then Resize n c ∷ [] else [])
    go true = (refl, tt)
    go false = tt

-- ---- the whole step

module _ {C : Type 0} (m : Meanings C) (cache : Cache) (p : Place (Known C)) (others : List (Place (Known C))) (stands : Stands cache p []) (alone : p.joined ≡ [])
    (apart : AllByRecursion (IsApart cache) others) (everyone : (n : ℕ) → n < parties_of cache.config → SomeHas n (p ∷ others)) (count : p.parties ≡ parties_of cache.config)
    (differ : AllByRecursion (λ o. o.number ≢ p.number) others) (q : Place (Known C)) (joins : JoinAll m others p q) where
  abbrev g : Config
  g = cache.config

  have : HaveJoined m cache p others q
  have = joined m cache p [] others stands alone apart everyone count differ q joins

  pub q-stands : Stands cache q []
  q-stands = joined-stands m cache p [] others stands alone apart everyone count differ q joins

  pub q-all : HasAll q
  q-all = joined-all m cache p [] others stands alone apart everyone count differ q joins

  -- all numbers, where there are two parties
  two : (o : Place (Known C)) → others ≡ o ∷ [] → (n : ℕ) → n < parties_of g → (n ≡ p.number) ⊎ (n ≡ o.number)
  two o is n below = has (subst (λ (os : List (Place (Known C))). SomeHas n (p ∷ os)) is (everyone n below))
    where
      only : o.joined ≡ []
      only = (subst (AllByRecursion (IsApart cache)) is apart).0.2

      has : SomeHas n (p ∷ o ∷ []) → (n ≡ p.number) ⊎ (n ≡ o.number)
      has (inl (inl same)) = inl (sym same)
      has (inl (inr among)) = absurd (subst (IsIn n) alone among)
      has (inr (inl (inl same))) = inr (sym same)
      has (inr (inl (inr among))) = absurd (subst (IsIn n) only among)
      has (inr (inr never)) = absurd never

  -- where the one other has seen all, that is what both have seen
  one-front : (o : Place (Known C)) → others ≡ o ∷ [] → AreEventsSeen g p.number p.own.mine o.own.seen → (shard : ℕ) → seen_of g shard q ≡ seen_of g shard o
  one-front o is seen shard =
      let j = subst (λ (os : List (Place (Known C))). JoinAll m os p q) is joins in
      let of_o = (subst (AllByRecursion (IsApart cache)) is apart).0 in
      let step = subst (λ (x : Place (Known C)). Joins m o x q) j.1 j.2 in
      ap (λ (x : Place (Known C)). seen_of g shard x) step.is
      ∙ ap events_in (joined-front m g p o step.moment of_o.2 (two o is) stands.of.config of_o.1.seen.own seen shard)

  pub q-number : q.number ≡ p.number
  q-number = have.number

  module _ (more : (shard : ℕ) → List Event) (r : Place (Known C)) (given : HasMade cache more q r) (mine : (s : ℕ) → AllByRecursion (λ e. number_of e ≡ p.number) (more s)) where
    number : r.number ≡ p.number
    number = given.stays.number ∙ have.number

    kept-joined : r.joined ≡ joined_of others
    kept-joined = given.stays.joined ∙ have.joined

    abbrev lines : ℕ → List Line
    lines shard = front_of (turn_of g shard) r.own.seen

    unmade : (o : Place (Known C)) → o.number ≢ p.number → (shard : ℕ)
        → own_moments o.number (moments (opening_of g) (seen_of g shard r)) ≡ own_moments o.number (moments (opening_of g) (seen_of g shard q))
    unmade o other shard =
        ap (λ (es : List Event). own_moments o.number (moments (opening_of g) es)) (given.seen shard)
        ∙ other-events p.number o.number (opening_of g) (seen_of g shard q) (more shard) (λ is. other (sym is)) (mine shard)

    all-parted-from : (os : List (Place (Known C))) → AllByRecursion (λ o. HasLearned g o q) os → AllByRecursion (λ o. o.number ≢ p.number) os → HaveParted cache lines os (map (parted_from r) os)
    all-parted-from [] learned others_differ = tt
    all-parted-from (o ∷ os) learned others_differ = (parted-then cache q r o learned.0 given.stands.of given.starts (leaves-grow g q r given.left) (unmade o others_differ.0), all-parted-from os learned.1 others_differ.1)

    all-own : (shard : ℕ) (os : List (Place (Known C))) → AllByRecursion (λ o. HasLearned g o q) os
        → AllByRecursion (λ o. own_moments o.number (moments (opening_of g) (seen_of g shard q)) ≡ own_moments o.number (moments (opening_of g) (seen_of g shard o))) os
    all-own shard [] learned = tt
    all-own shard (o ∷ os) learned = (learned.0.own shard, all-own shard os learned.1)

    all-since : (shard : ℕ) (os : List (Place (Known C))) → AllByRecursion (λ o. HasLearned g o q) os → AllByRecursion (λ o. StartsWith (seen_of g shard q) (seen_of g shard o)) os
    all-since shard [] learned = tt
    all-since shard (o ∷ os) learned = (starts-events (front_of (turn_of g shard) q.own.seen) (front_of (turn_of g shard) o.own.seen) (learned.0.starts shard), all-since shard os learned.1)

    pub last-of : (numbers : List ℕ) → numbers ≡ map (λ o. o.number) others → AreLast numbers r.joined
    last-of numbers is = subst (λ (x : List ℕ × List (Kept (Known C))). AreLast x.0 x.1) (λ i. (sym is i, sym kept-joined i)) (are-last others)

    module _ (numbers : List ℕ) (numbers_are : numbers ≡ map (λ o. o.number) others) (xs : List (Place (Known C))) (z : Place (Known C)) (parts : PartAll numbers r xs z) where
      pub parted : (xs ≡ map (parted_from r) others) × (z ≡ left_alone r)
      parted = all-parted others numbers r xs z kept-joined (subst (λ (l : List ℕ). AreLast l (joined_of others)) (sym numbers_are) (are-last others)) parts

      pub left : MadeJoined cache more p others (left_alone r) (map (parted_from r) others)
      left = record {
        lines = lines;
        parted = all-parted-from others have.all differ;
        level = λ shard. refl;
        number = number;
        about = given.stays.about ∙ have.about;
        alone = refl;
        stands = left-stands cache [] r given.stands;
        met = have-met cache q r (leaves-grow g q r given.left) p others have.self.cells have.all;
        front = λ shard. seen_of g shard q;
        seen = given.seen;
        own = have.self.own;
        others = λ shard. all-own shard others have.all;
        since = λ shard. starts-events (front_of (turn_of g shard) q.own.seen) (front_of (turn_of g shard) p.own.seen) (have.self.starts shard);
        others_since = λ shard. all-since shard others have.all;
        behind = later-behind g p q r have.mine given.made.keeps.older;
        made =
            let first : SameMade g p q = grown-same g p q have.number have.about have.mine have.self.starts have.self.cells stands.seen stands.cells in
            let both : SameMade g p r = same-then g p q r first given.made in
            record { number = both.number; cells = both.cells; entries = both.entries; keeps = record { about = both.keeps.about; fronts = both.keeps.fronts; shards = both.keeps.shards; older = both.keeps.older } };
        settled = λ feeder settled i. given.picks (have.number ∙ feeder) i ∙ (ap (λ (l : Ledger). list_at i l.picked) have.ledger ∙ settled i);
        entries = λ none j a at range. none j a (subst (λ (l : List Mine). get_elem? l j ≡ some a) have.mine (given.left.mine j a range at)) range;
        one = one-front;
        same = λ before own rest shard. ap events_in (have.level before own rest shard);
        same_cells = λ entries own rest.
            let sees : SeesEntries g entries r = λ i in_range. given.left.fronts i in_range ∙ have.level_cells entries own rest i in_range in
            (sees, all-level cache q r (leaves-grow g q r given.left) entries sees others have.all);
      }

      -- the events before it are what the party had seen that all had joined
      pub left-front : (shard : ℕ) → seen_of g shard q ≡ left.front shard
      unfolding left
      left-front shard = refl

      pub made-joined : MadeJoined cache more p others z xs
      made-joined = subst (λ (x : Place (Known C) × List (Place (Known C))). MadeJoined cache more p others x.0 x.1) (λ i. (sym parted.1 i, sym parted.0 i)) left

  -- a new capacity
  module _ (n c : ℕ) (feeder : p.number ≡ n) (r : Place (Known C)) (did : Resizes m g q.number c g.shards q r) where
    all-given : HasMade cache (resizes_in g.shards n c) q r
    all-given = resizes-made m cache n c q r (have.number ∙ feeder) (given-to m cache c g.shards q r q-stands q-all did)

    all-mine : (s : ℕ) → AllByRecursion (λ e. number_of e ≡ p.number) (resizes_in g.shards n c s)
    all-mine s = subst (λ (k : ℕ). AllByRecursion (λ e. number_of e ≡ k) (resizes_in g.shards n c s)) (sym feeder) (resizes-mine g.shards n c s)

    pub resized-last : (numbers : List ℕ) → numbers ≡ map (λ o. o.number) others → AreLast numbers r.joined
    resized-last = last-of (resizes_in g.shards n c) r all-given all-mine

    pub resized : (numbers : List ℕ) → numbers ≡ map (λ o. o.number) others → (xs : List (Place (Known C))) (z : Place (Known C)) → PartAll numbers r xs z → MadeJoined cache (resizes_in g.shards n c) p others z xs
    resized = made-joined (resizes_in g.shards n c) r all-given all-mine
