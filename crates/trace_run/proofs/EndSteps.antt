-- The feeder ends all cells, while all other parties have joined it: what it and they are then.
use Rattle.std.proofs.Common.{◌≡◌, ◌≢◌, ◌⊎◌, ℕ, ◌<◌, List, [], ◌∷◌, ◌++◌, map, refl, sym, ap, ◌∙◌, subst, inl, inr, arith}
use Rattle.std.specs.List.{AllByRecursion}
use mathlib.Core.Option.{some}
use lib.ListN.{get_elem?}
use Rattle.arc_core.specs.declared.config.Config.{Config}
use Rattle.arc_core.specs.declared.event.Event.{Event}
use Rattle.arc_core.specs.Operations.{moments, own_moments}
use Rattle.turn_table.specs.declared.standing.Kept.{Kept}
use Rattle.turn_table.specs.Places.{IsIn, SomeHas}
use Rattle.arc_table.specs.declared.about.About.{About}
use Rattle.arc_table.specs.declared.view.Known.{Known}
use Rattle.arc_table.specs.declared.view.Ledger.{Ledger}
use Rattle.arc_table.specs.declared.view.Line.{Line}
use Rattle.arc_table.specs.declared.view.Mine.{Mine}
use Rattle.arc_table.specs.Cache.{Cache, IsPartyOf}
use Rattle.arc_table.specs.Fronts.{StartsWith, front_of, list_at}
use Rattle.arc_table.specs.Geometry.{IsCell, parties_of}
use Rattle.arc_table.specs.Seen.{AreEntriesSeen, AreSeen, HasAll, events_in, seen_of, turn_of}
use Rattle.arc_table.specs.Telling.{opening_of}
use Rattle.dbuf_cells.specs.Ending.{EndsFrom}
use Rattle.dbuf_cells.specs.Turns.{KeepsClaims, OnHeap, PartyPlace, dbuf_meanings}
use Rattle.trace_run.specs.dbufs.CellEnds.{EndedCells, EndedIdle, SeesEnds, end_entry, noted_ends}
use Rattle.trace_run.specs.Deeds.{HasToldOthers, Noted, acts_of_events, events_there, KeepsCells}
use Rattle.trace_run.specs.KeptBlocks.{Stands, times}
use Rattle.trace_run.specs.Making.{AreEventsSeen, AreNoEntries}
use Rattle.trace_run.specs.Meeting.{AreLast, HasLearned, HaveParted, IsApart, JoinAll, Joins, PartAll}
use Rattle.trace_run.proofs.CellsLeft.{entries-more}
use Rattle.trace_run.proofs.CellEnds.{HasEndedFrom, HasEndedSome, IsUntouched, NoneFrom, all-ended, cell-drops-there, drops-unmade}
use Rattle.trace_run.proofs.callers.MeetLemmas.{HaveJoined, all-parted, are-last, joined-front, joined_of, left_alone, own-seen-more, parted-then, parted_from, starts-then}
use Rattle.trace_run.proofs.deeds.MakesLemmas.{grown-same, later-same, later-then}
use Rattle.trace_run.proofs.deeds.DeedLemmas.{others-still}
use Rattle.trace_run.proofs.callers.TurnLemmas.{joined, joined-all, joined-stands}

module _ (cache : Cache) (p : PartyPlace) (others : List PartyPlace) (stands : Stands cache p []) (alone : p.joined ≡ [])
    (apart : AllByRecursion (IsApart cache) others) (everyone : (n : ℕ) → n < parties_of cache.config → SomeHas n (p ∷ others)) (count : p.parties ≡ parties_of cache.config)
    (differ : AllByRecursion (λ o. o.number ≢ p.number) others) (q : PartyPlace) (joins : JoinAll dbuf_meanings others p q) where
  abbrev g : Config
  g = cache.config

  pub have : HaveJoined dbuf_meanings cache p others q
  have = joined dbuf_meanings cache p [] others stands alone apart everyone count differ q joins

  pub q-stands : Stands cache q []
  q-stands = joined-stands dbuf_meanings cache p [] others stands alone apart everyone count differ q joins

  pub q-all : HasAll q
  q-all = joined-all dbuf_meanings cache p [] others stands alone apart everyone count differ q joins

  -- all numbers, where there are two parties
  two : (o : PartyPlace) → others ≡ o ∷ [] → (n : ℕ) → n < parties_of g → (n ≡ p.number) ⊎ (n ≡ o.number)
  two o is n below = has (subst (λ (os : List PartyPlace). SomeHas n (p ∷ os)) is (everyone n below))
    where
      only : o.joined ≡ []
      only = (subst (AllByRecursion (IsApart cache)) is apart).0.2

      has : SomeHas n (p ∷ o ∷ []) → (n ≡ p.number) ⊎ (n ≡ o.number)
      has (inl (inl same)) = inl (sym same)
      has (inl (inr among)) = absurd (subst (IsIn n) alone among)
      has (inr (inl (inl same))) = inr (sym same)
      has (inr (inl (inr among))) = absurd (subst (IsIn n) only among)
      has (inr (inr never)) = absurd never

  -- where the one other has seen all, that is what both have seen
  pub one-front : (o : PartyPlace) → others ≡ o ∷ [] → AreEventsSeen g p.number p.own.mine o.own.seen → (shard : ℕ) → seen_of g shard q ≡ seen_of g shard o
  one-front o is seen shard =
      let j = subst (λ (os : List PartyPlace). JoinAll dbuf_meanings os p q) is joins in
      let of_o = (subst (AllByRecursion (IsApart cache)) is apart).0 in
      let step = subst (λ (x : PartyPlace). Joins dbuf_meanings o x q) j.1 j.2 in
      ap (λ (x : PartyPlace). seen_of g shard x) step.is
      ∙ ap events_in (joined-front dbuf_meanings g p o step.moment of_o.2 (two o is) stands.of.config of_o.1.seen.own seen shard)

  -- nobody had done anything to a cell, where none of them had
  untouched-kept : (os : List PartyPlace) → AllByRecursion (λ o. AreNoEntries g o.own.mine) os → AllByRecursion (λ k. NoneFrom g 0 k.view.mine) (joined_of os)
  untouched-kept [] none = tt
  untouched-kept (o ∷ os) none = ((λ j a at range above. none.0 j a at range), untouched-kept os none.1)

  pub untouched : AreNoEntries g p.own.mine → AllByRecursion (λ o. AreNoEntries g o.own.mine) others → IsUntouched g 0 q
  untouched own rest = record {
    own = λ j a at range above. own j a (subst (λ (l : List Mine). get_elem? l j ≡ some a) have.mine at) range;
    joined = subst (AllByRecursion (λ k. NoneFrom g 0 k.view.mine)) (sym have.joined) (untouched-kept others rest);
  }

  -- what they are behind events with cells' numbers that the party made then
  module _ (es : List Event) (r : PartyPlace) (then : HasEndedSome g es q r) (of : IsPartyOf cache r) (free : r.held ≡ []) (claims : KeepsClaims q r) where
    pub number : r.number ≡ p.number
    number = then.number ∙ have.number

    kept-joined : r.joined ≡ joined_of others
    kept-joined = then.joined ∙ have.joined

    abbrev pub lines : ℕ → List Line
    lines shard = front_of (turn_of g shard) r.own.seen

    unmade : (n : ℕ) → n < parties_of g → (shard : ℕ) → own_moments n (moments (opening_of g) (seen_of g shard r)) ≡ own_moments n (moments (opening_of g) (seen_of g shard q))
    unmade n below shard = ap (λ (es : List Event). own_moments n (moments (opening_of g) es)) (then.shards shard)
        ∙ drops-unmade g n (opening_of g) (seen_of g shard q) (events_there g shard es) below (cell-drops-there g shard es then.drops)

    all-parted-from : (os : List PartyPlace) → AllByRecursion (λ o. HasLearned g o q) os → AllByRecursion (λ o. o.number < parties_of g) os → HaveParted cache lines os (map (parted_from r) os)
    all-parted-from [] learned below = tt
    all-parted-from (o ∷ os) learned below = (parted-then cache q r o learned.0 of then.starts then.cells (unmade o.number below.0), all-parted-from os learned.1 below.1)

    pub all-parted-then : HaveParted cache lines others (map (parted_from r) others)
    all-parted-then = all-parted-from others have.all have.below

    pub last-stands : Stands cache (left_alone r) []
    last-stands = record {
      valid = stands.valid;
      of = record { row = of.row; config = of.config };
      free = free;
      cells = record { own = then.entries.own; joined = tt };
      idle = then.readings ∙ q-stands.idle;
      unclaimed = λ i. claims i ∙ q-stands.unclaimed i;
      seen = record { own = then.sees.own; joined = tt };
      apart = tt;
      joined = tt;
      owned = tt;
      listed = λ x. ap (times x) then.holds ∙ q-stands.listed x;
    }

    -- it has seen what it had, and made nothing there later
    pub keeps-left : KeepsCells g p (left_alone r)
    keeps-left = record {
      about = then.about ∙ have.about;
      fronts = λ i range. starts-then (front_of i r.own.seen) (front_of i q.own.seen) (front_of i p.own.seen) (then.cells i range) (have.self.cells i range);
      shards = λ shard. starts-then (front_of (turn_of g shard) r.own.seen) (front_of (turn_of g shard) q.own.seen) (front_of (turn_of g shard) p.own.seen) (then.starts shard) (have.self.starts shard);
      older = later-then g p q r have.self.starts (later-same g p q have.mine) then.older;
    }

    pub last-from : (numbers : List ℕ) → numbers ≡ map (λ o. o.number) others → AreLast numbers r.joined
    last-from numbers is = subst (λ (x : List ℕ × List (Kept (Known OnHeap))). AreLast x.0 x.1) (λ i. (sym is i, sym kept-joined i)) (are-last others)

    pub parted : (numbers : List ℕ) → numbers ≡ map (λ o. o.number) others → (xs : List PartyPlace) (z : PartyPlace) → PartAll numbers r xs z → (xs ≡ map (parted_from r) others) × (z ≡ left_alone r)
    parted numbers numbers_are xs z parts = all-parted others numbers r xs z kept-joined (subst (λ (l : List ℕ). AreLast l (joined_of others)) (sym numbers_are) (are-last others)) parts

  module _ (r : PartyPlace) (did : EndsFrom g 0 g.cells q r) (of : IsPartyOf cache r) (free : r.held ≡ []) (claims : KeepsClaims q r) where
    ended : HasEndedFrom g stands.valid 0 g.cells q r
    ended = all-ended g stands.valid 0 g.cells q r (omega arith) q-stands.of.config q-stands.seen q-stands.cells q-all did

    abbrev then : HasEndedSome g ended.drops q r
    then = ended.some_ended

    -- what it comes to where nobody had done anything to a cell
    was-idle : AreNoEntries g p.own.mine → AllByRecursion (λ o. AreNoEntries g o.own.mine) others → EndedIdle cache ended.drops p (left_alone r)
    was-idle own rest =
        let idle = ended.idle (untouched own rest) in
        record {
          none = idle.none;
          ends = λ i range. idle.ends i range (omega arith) (omega (arith, range)) ∙ ap (λ (n : ℕ). end_entry n i) have.number;
          events = λ seen. idle.events (subst (λ (x : ℕ × List Mine). AreSeen g x.0 x.1 q.own.seen) (λ z. (sym have.number z, sym have.mine z))
              (own-seen-more g p.number p.own.mine p.own.seen q.own.seen have.self.starts seen));
        }

    pub last-of : (numbers : List ℕ) → numbers ≡ map (λ o. o.number) others → AreLast numbers r.joined
    last-of = last-from ended.drops r then of free claims

    all-entries : (os : List PartyPlace) → AllByRecursion (λ o. HasLearned g o q) os → AllByRecursion (IsApart cache) os → AllByRecursion (λ o. AreEntriesSeen g o.number o.own.mine r.own.seen) os
    all-entries [] learned each = tt
    all-entries (o ∷ os) learned each = (
      entries-more g o.number o.own.mine o.own.seen r.own.seen
          (λ i range. starts-then (front_of i r.own.seen) (front_of i q.own.seen) (front_of i o.own.seen) (then.cells i range) (learned.0.cells i range)) each.0.1.cells.own,
      all-entries os learned.1 each.1,
    )

    all-joined : (i : ℕ) → IsCell g i → (os : List PartyPlace) → AllByRecursion (λ o. HasLearned g o q) os → AllByRecursion (λ o. StartsWith (front_of i q.own.seen) (front_of i o.own.seen)) os
    all-joined i range [] learned = tt
    all-joined i range (o ∷ os) learned = (learned.0.cells i range, all-joined i range os learned.1)

    module _ (numbers : List ℕ) (numbers_are : numbers ≡ map (λ o. o.number) others) (xs : List PartyPlace) (z : PartyPlace) (parts : PartAll numbers r xs z) where
      left : EndedCells cache p others (left_alone r) (map (parted_from r) others)
      left = record {
        lines = lines ended.drops r then of free claims;
        parted = all-parted-then ended.drops r then of free claims;
        level = λ shard. refl;
        number = number ended.drops r then of free claims;
        about = then.about ∙ have.about;
        alone = refl;
        stands = last-stands ended.drops r then of free claims;
        own = λ shard. subst (λ (n : ℕ). own_moments n (moments (opening_of g) (seen_of g shard r)) ≡ own_moments n (moments (opening_of g) (seen_of g shard q))) have.number (then.own shard) ∙ have.self.own shard;
        drops = ended.drops;
        numbers = then.drops;
        told = λ did noted h.
            let q_told : HasToldOthers g did noted q = others-still g did noted p q (grown-same g p q have.number have.about have.mine have.self.starts have.self.cells stands.seen stands.cells) h in
            let r_told = ended.told did noted q_told in
            let is : noted ++ noted_ends q.number 0 g.cells ≡ noted ++ noted_ends p.number 0 g.cells = ap (λ (n : ℕ). noted ++ noted_ends n 0 g.cells) have.number in
            subst (λ (l : List Noted). HasToldOthers g (did ++ acts_of_events ended.drops) l (left_alone r)) is record { cells = r_told.cells; kinds = r_told.kinds; entries = r_told.entries };
        ends = λ i range. (
          front_of i q.own.seen,
          ended.last i range (omega arith) (omega (arith, range)) ∙ ap (λ (n : ℕ). front_of i q.own.seen ++ end_entry n i) have.number,
          all-joined i range others have.all,
        );
        entries = all-entries others have.all apart;
        keeps = keeps-left ended.drops r then of free claims;
        same = λ before own rest shard. then.shards shard ∙ ap (λ (l : List Line). events_in l ++ events_there g shard ended.drops) (have.level before own rest shard);
        same_cells = λ sees own rest i range. ended.last i range (omega arith) (omega (arith, range)) ∙ (λ z. have.level_cells sees own rest i range z ++ end_entry (have.number z) i);
        one = λ o is seen shard. then.shards shard ∙ ap (λ (l : List Event). l ++ events_there g shard ended.drops) (one-front o is seen shard);
        idle = was-idle;
        kept = subst (λ (x : ℕ × List (List ℕ)). SeesEnds g x.1 r.own.seen x.0 0 g.cells ended.drops) (λ i. (have.number i, (ap (λ (a : About). a.openings) have.about) i)) ended.kept;
        are = ended.are;
        settled = λ feeder settled i. then.picks (have.number ∙ feeder) i ∙ (ap (λ (l : Ledger). list_at i l.picked) have.ledger ∙ settled i);
      }

      pub ended-cells : EndedCells cache p others z xs
      ended-cells =
          let is = parted ended.drops r then of free claims numbers numbers_are xs z parts in
          subst (λ (x : PartyPlace × List PartyPlace). EndedCells cache p others x.0 x.1) (λ i. (sym is.1 i, sym is.0 i)) left
