-- One party gives back what it keeps, while all others have joined it: what it and they are then.
use Rattle.std.proofs.Common.{◌≡◌, ◌≢◌, ℕ, zero, suc, ◌<◌, List, [], ◌∷◌, ◌++◌, map, refl, sym, ap, ◌∙◌, subst, inl, inr, append-nil}
use Rattle.std.specs.List.{AllByRecursion}
use mathlib.Core.Option.{some, some-injective, some-ne-none}
use lib.ListN.{get_elem?}
use Rattle.arc_core.specs.declared.config.Config.{Config}
use Rattle.arc_core.specs.declared.event.Event.{Event}
use Rattle.arc_core.specs.Operations.{Act, Moment, Tell, acts_in, moments, own_events, own_moments}
use Rattle.arc_core.specs.PlainShard.{PlainShard}
use Rattle.blk_ptr.specs.Hash.{shard_of}
use Rattle.turn_table.specs.declared.standing.Kept.{Kept}
use Rattle.turn_table.specs.Places.{Apart, HasNumber, IsIn, Place, SomeHas}
use Rattle.arc_table.specs.declared.about.About.{About}
use Rattle.arc_table.specs.declared.view.Known.{Known}
use Rattle.arc_table.specs.declared.view.Ledger.{Ledger}
use Rattle.arc_table.specs.declared.view.Line.{Line}
use Rattle.arc_table.specs.Cache.{Cache}
use Rattle.arc_table.specs.Fronts.{StartsWith, front_of, list_at}
use Rattle.arc_table.specs.Geometry.{parties_of}
use Rattle.arc_table.specs.Items.{Meanings}
use Rattle.arc_table.specs.Seen.{HasAll, HasSeenItsEntries, events_in, seen_of, turn_of}
use Rattle.arc_table.specs.Telling.{opening_of}
use Rattle.trace_run.specs.Deeds.{HasToldAll, HasToldOthers, KeepsCells, Noted}
use Rattle.trace_run.proofs.deeds.DeedLemmas.{others-still, told-still}
use Rattle.trace_run.proofs.deeds.MakesLemmas.{grown-same, keeps-then, later-same}
use Rattle.arc_table.proofs.OwnLemmas.{no-own-moments, own-append}
use Rattle.trace_run.specs.declared.kept_blocks.KeptBlock.{KeptBlock}
use Rattle.trace_run.specs.Acts.{acts_of_drops}
use Rattle.trace_run.specs.KeptBlocks.{AllQuiet, GivesAll, IsOwnedBy, Stands, held_in_shard, read_of, times}
use Rattle.trace_run.specs.KeptReads.{KeptRead}
use Rattle.trace_run.specs.Meeting.{AreLast, GaveBackJoined, HasLearned, HaveParted, IsApart, IsFed, IsLevel, JoinAll, MayJoin, PartAll, SeesEntries, Waits}
use Rattle.trace_run.specs.one_caller.OneCaller.{events_of_drops}
use Rattle.trace_run.proofs.GiveLemmas.{all-alone, all-keep, all-leave, all-number, all-stand, all-told, all-keeps}
use Rattle.trace_run.proofs.CellsLeft.{LeavesCells, leaves-grow}
use Rattle.trace_run.proofs.callers.MeetLemmas.{HaveJoined, all-level, all-parted, are-last, have-joined, joined_of, left_alone, parted-then, parted_from, same-own-events, starts-events, starts-then}
use Rattle.trace_run.proofs.one_caller.TellLemmas.{IsMine, all-append, mine-drops}

-- ---- numbers

-- a number that one of these parties has, each by itself, is among those that are kept of them
pub number-kept : {C : Type 0} (cache : Cache) (n : ℕ) (os : List (Place (Known C))) → AllByRecursion (IsApart cache) os → SomeHas n os → IsIn n (joined_of os)
number-kept cache n [] apart has = has
number-kept cache n (o ∷ os) apart (inl (inl is)) = inl is
number-kept cache n (o ∷ os) apart (inl (inr among)) = absurd (subst (IsIn n) apart.0.2 among)
number-kept cache n (o ∷ os) apart (inr rest) = inr (number-kept cache n os apart.1 rest)

pub apart-kept : {C : Type 0} (n : ℕ) (os : List (Place (Known C))) → AllByRecursion (λ o. o.number ≢ n) os → Apart n (joined_of os)
apart-kept n [] differ = tt
apart-kept n (o ∷ os) differ = (differ.0, apart-kept n os differ.1)

pub quiet-kept : {C : Type 0} (cache : Cache) (os : List (Place (Known C))) → AllByRecursion (IsApart cache) os → AllQuiet (joined_of os)
quiet-kept cache [] apart = tt
quiet-kept cache (o ∷ os) apart = (apart.0.1.idle, apart.0.1.unclaimed, quiet-kept cache os apart.1)

pub may-join : {C : Type 0} (cache : Cache) (kept : List KeptBlock) (p : Place (Known C)) → Stands cache p kept → p.joined ≡ [] → MayJoin cache p
may-join cache kept p stands alone = record { of = stands.of; free = stands.free; alone = alone; seen = stands.seen }

pub all-may : {C : Type 0} (cache : Cache) (os : List (Place (Known C))) → AllByRecursion (IsApart cache) os → AllByRecursion (MayJoin cache) os
all-may cache [] apart = tt
all-may cache (o ∷ os) apart = (may-join cache apart.0.0 o apart.0.1 apart.0.2, all-may cache os apart.1)

all-cells : {C : Type 0} (cache : Cache) (os : List (Place (Known C))) → AllByRecursion (IsApart cache) os → AllByRecursion (HasSeenItsEntries cache.config) os
all-cells cache [] apart = tt
all-cells cache (o ∷ os) apart = (apart.0.1.cells, all-cells cache os apart.1)

-- a party stands as it did once all others have parted from it
pub left-stands : {C : Type 0} (cache : Cache) (kept : List KeptBlock) (r : Place (Known C)) → Stands cache r kept → Stands cache (left_alone r) kept
left-stands cache kept r stands = record {
  valid = stands.valid;
  of = record { row = stands.of.row; config = stands.of.config };
  free = stands.free;
  cells = record { own = stands.cells.own; joined = tt };
  idle = stands.idle;
  unclaimed = stands.unclaimed;
  seen = record { own = stands.seen.own; joined = tt };
  apart = tt;
  joined = tt;
  owned = stands.owned;
  listed = stands.listed;
}

-- ---- the drops of one number are no other's

all-at : {A : Type 0} (P : A → Type 0) (l : List A) → AllByRecursion P l → (i : ℕ) (a : A) → get_elem? l i ≡ some a → P a
all-at P [] all i a at = absurd (some-ne-none a (sym at))
all-at P (x ∷ xs) all zero a at = subst P (some-injective x a at) all.0
all-at P (x ∷ xs) all (suc i) a at = all-at P xs all.1 i a at

other-drops : (n k : ℕ) (s : PlainShard) (front : List Event) (reads : List KeptRead) → n ≢ k → own_moments k (moments s (front ++ events_of_drops n reads)) ≡ own_moments k (moments s front)
other-drops n k s front reads differs =
    own-append k s front (events_of_drops n reads)
    ∙ (ap (λ (l : List Moment). own_moments k (moments s front) ++ l) (no-own-moments k _ (events_of_drops n reads) (λ y e at is. differs (sym (all-at (IsMine n) (events_of_drops n reads) (mine-drops n reads) y e at).0 ∙ is)))
    ∙ append-nil (own_moments k (moments s front)))

-- ---- the step

module _ {C : Type 0} (m : Meanings C) (cache : Cache) (p : Place (Known C)) (kept : List KeptBlock) (others : List (Place (Known C))) (stands : Stands cache p kept) (alone : p.joined ≡ [])
    (apart : AllByRecursion (IsApart cache) others) (everyone : (n : ℕ) → n < parties_of cache.config → SomeHas n (p ∷ others)) (count : p.parties ≡ parties_of cache.config)
    (differ : AllByRecursion (λ o. o.number ≢ p.number) others) (q : Place (Known C)) (joins : JoinAll m others p q) where
  pub joined : HaveJoined m cache p others q
  joined = have-joined m cache p (may-join cache kept p stands alone) others q (all-may cache others apart) joins

  pub joined-stands : Stands cache q kept
  joined-stands = record {
    valid = stands.valid;
    of = joined.of;
    free = joined.held;
    cells = joined.cells stands.cells (all-cells cache others apart);
    idle = ap (λ (l : Ledger). l.readings) joined.ledger ∙ stands.idle;
    unclaimed = λ i. ap (λ (l : Ledger). list_at i l.claims) joined.ledger ∙ stands.unclaimed i;
    seen = joined.seen;
    apart = subst (λ (x : ℕ × List (Kept (Known C))). Apart x.0 x.1) (λ i. (sym joined.number i, sym joined.joined i)) (apart-kept p.number others differ);
    joined = subst AllQuiet (sym joined.joined) (quiet-kept cache others apart);
    owned = subst (λ (n : ℕ). AllByRecursion (λ b. IsOwnedBy n b.kept) kept) (sym joined.number) stands.owned;
    listed = λ x. ap (λ (l : Ledger). times x l.holds) joined.ledger ∙ stands.listed x;
  }

  pub joined-all : HasAll q
  joined-all n below = has (everyone n (subst (λ (k : ℕ). n < k) (joined.parties ∙ count) below))
    where
      has : SomeHas n (p ∷ others) → HasNumber n q
      has (inl (inl is)) = inl (joined.number ∙ is)
      has (inl (inr among)) = absurd (subst (IsIn n) alone among)
      has (inr rest) = inr (subst (IsIn n) (sym joined.joined) (number-kept cache n others apart rest))

module _ {C : Type 0} (m : Meanings C) (cache : Cache) (p : Place (Known C)) (kept : List KeptBlock) (others : List (Place (Known C))) (stands : Stands cache p kept) (alone : p.joined ≡ [])
    (apart : AllByRecursion (IsApart cache) others) (everyone : (n : ℕ) → n < parties_of cache.config → SomeHas n (p ∷ others)) (count : p.parties ≡ parties_of cache.config)
    (differ : AllByRecursion (λ o. o.number ≢ p.number) others) (q : Place (Known C)) (joins : JoinAll m others p q) where
  abbrev gk : Config
  gk = cache.config

  have : HaveJoined m cache p others q
  have = joined m cache p kept others stands alone apart everyone count differ q joins

  q-stands : Stands cache q kept
  q-stands = joined-stands m cache p kept others stands alone apart everyone count differ q joins

  q-all : HasAll q
  q-all = joined-all m cache p kept others stands alone apart everyone count differ q joins

  module _ (r : Place (Known C)) (gives : GivesAll m cache.config kept q r) where
    after : Stands cache r []
    after = all-stand m cache kept q r q-stands gives

    number : r.number ≡ p.number
    number = all-number m cache kept q r q-stands gives ∙ have.number

    about : r.own.about ≡ p.own.about
    about = (all-leave m cache kept q r q-stands gives).stays.about ∙ have.about

    kept-joined : r.joined ≡ joined_of others
    kept-joined = (all-keep m cache kept q r q-stands gives).0 ∙ have.joined

    more : (i : ℕ) → StartsWith (front_of (turn_of gk i) r.own.seen) (front_of (turn_of gk i) q.own.seen)
    more = (all-keep m cache kept q r q-stands gives).1

    left : LeavesCells gk q r
    left = all-leave m cache kept q r q-stands gives

    abbrev reads : List KeptRead
    reads = map read_of kept

    drops : (shard : ℕ) → seen_of gk shard r ≡ seen_of gk shard q ++ events_of_drops p.number (held_in_shard gk shard reads)
    drops shard = (all-alone m cache kept q r q-stands gives q-all).seen shard ∙ ap (λ (n : ℕ). seen_of gk shard q ++ events_of_drops n (held_in_shard gk shard reads)) have.number

    abbrev lines : ℕ → List Line
    lines shard = front_of (turn_of gk shard) r.own.seen

    -- the others, once they have parted
    unmade : (o : Place (Known C)) → o.number ≢ p.number → (shard : ℕ)
        → own_moments o.number (moments (opening_of gk) (seen_of gk shard r)) ≡ own_moments o.number (moments (opening_of gk) (seen_of gk shard q))
    unmade o other shard =
        ap (λ (es : List Event). own_moments o.number (moments (opening_of gk) es)) (drops shard)
        ∙ other-drops p.number o.number (opening_of gk) (seen_of gk shard q) (held_in_shard gk shard reads) (λ is. other (sym is))

    all-parted-from : (os : List (Place (Known C))) → AllByRecursion (λ o. HasLearned gk o q) os → AllByRecursion (λ o. o.number ≢ p.number) os → HaveParted cache lines os (map (parted_from r) os)
    all-parted-from [] learned others_differ = tt
    all-parted-from (o ∷ os) learned others_differ = (parted-then cache q r o learned.0 after.of more (leaves-grow gk q r left) (unmade o others_differ.0), all-parted-from os learned.1 others_differ.1)

    -- the party itself
    abbrev last : Place (Known C)
    last = left_alone r

    last-stands : Stands cache last []
    last-stands = left-stands cache [] r after

    last-cells : KeepsCells gk p last
    last-cells =
        let then = keeps-then gk p q r record { about = have.about; fronts = have.self.cells; shards = have.self.starts; older = later-same gk p q have.mine } (all-keeps m cache kept q r q-stands gives) in
        record { about = then.about; fronts = then.fronts; shards = then.shards; older = then.older }

    -- the feeder's, which kept nothing
    last-fed : (openings : List (List ℕ)) (fed since : (shard : ℕ) → List Event) (acts : List Act) (noted : List Noted) → kept ≡ [] → IsFed cache openings fed since acts noted p → IsFed cache openings fed since acts noted last
    last-fed openings fed since acts noted none is = record {
      number = number ∙ is.number;
      alone = refl;
      stands = last-stands;
      knows = ap (λ (a : About). a.openings) about ∙ is.knows;
      fed = λ shard below.
          ap (λ (k : ℕ). own_events k (seen_of gk shard r)) number
          ∙ (ap (own_events p.number) (drops shard ∙ (ap (λ (l : List KeptBlock). seen_of gk shard q ++ events_of_drops p.number (held_in_shard gk shard (map read_of l))) none ∙ append-nil (seen_of gk shard q)))
          ∙ (same-own-events gk p.number (seen_of gk shard p) (seen_of gk shard q) (have.self.own shard) ∙ is.fed shard below));
      since = λ shard.
          starts-then (seen_of gk shard r) (seen_of gk shard p) (since shard)
          (starts-events (lines shard) (front_of (turn_of gk shard) p.own.seen) (starts-then (lines shard) (front_of (turn_of gk shard) q.own.seen) (front_of (turn_of gk shard) p.own.seen) (more shard) (have.self.starts shard)))
          (is.since shard);
      told =
          let then : HasToldOthers gk acts noted r = subst (HasToldOthers gk acts noted) (sym (subst (λ (l : List KeptBlock). GivesAll m gk l q r) none gives))
          (others-still gk acts noted p q (grown-same gk p q have.number have.about have.mine have.self.starts have.self.cells is.stands.seen is.stands.cells) is.told) in
          record { cells = then.cells; kinds = then.kinds; entries = then.entries };
      settled = λ i.
          ap (λ (x : Place (Known C)). list_at i x.own.ledger.picked) (subst (λ (l : List KeptBlock). GivesAll m gk l q r) none gives)
          ∙ (ap (λ (l : Ledger). list_at i l.picked) have.ledger ∙ is.settled i);
    }

    joined-told : {n : ℕ} {acts : List Act} {noted : List Noted} → Waits cache n acts noted kept p → HasToldAll gk acts noted q
    joined-told {n} {acts} {noted} waits = told-still gk acts noted p q
        (λ s. subst (λ (k : ℕ). Tell (acts_in (shard_of gk.shards) s k acts) (own_moments k (moments (opening_of gk) (seen_of gk s q)))) (sym have.number)
        (subst (Tell (acts_in (shard_of gk.shards) s p.number acts)) (sym (have.self.own s)) (waits.told.acts s)))
        (grown-same gk p q have.number have.about have.mine have.self.starts have.self.cells waits.stands.seen waits.stands.cells) waits.told

    last-waits : (n : ℕ) (acts : List Act) (noted : List Noted) → Waits cache n acts noted kept p → Waits cache n (acts ++ acts_of_drops n reads) noted [] last
    last-waits n acts noted waits = record {
      number = number ∙ waits.number;
      alone = refl;
      stands = last-stands;
      told =
          let then : HasToldAll gk (acts ++ acts_of_drops n reads) noted r = subst (λ (k : ℕ). HasToldAll gk (acts ++ acts_of_drops k reads) noted r) (have.number ∙ waits.number) (all-told m cache kept q r q-stands gives acts noted (joined-told waits)) in
          record { acts = then.acts; cells = then.cells; kinds = then.kinds; entries = then.entries };
    }

    module _ (numbers : List ℕ) (numbers_are : numbers ≡ map (λ o. o.number) others) (xs : List (Place (Known C))) (z : Place (Known C)) (parts : PartAll numbers r xs z) where
      parted : (xs ≡ map (parted_from r) others) × (z ≡ last)
      parted = all-parted others numbers r xs z kept-joined (subst (λ (l : List ℕ). AreLast l (joined_of others)) (sym numbers_are) (are-last others)) parts

      pub gave-back : GaveBackJoined cache p kept others (xs ++ z ∷ [])
      gave-back = record {
        lines = lines;
        rest = xs;
        last = z;
        are = refl;
        parted = subst (HaveParted cache lines others) (sym parted.0) (all-parted-from others have.all differ);
        level = subst (IsLevel gk lines) (sym parted.1) (λ shard. refl);
        cells = subst (KeepsCells gk p) (sym parted.1) last-cells;
        gave = λ n acts noted waits. subst (Waits cache n (acts ++ acts_of_drops n reads) noted []) (sym parted.1) (last-waits n acts noted waits);
        fed = λ openings fed since acts noted none is. subst (IsFed cache openings fed since acts noted) (sym parted.1) (last-fed openings fed since acts noted none is);
        drops = λ before own rest shard. drops shard ∙ ap (λ (l : List Line). events_in l ++ events_of_drops p.number (held_in_shard gk shard reads)) (have.level before own rest shard);
        same_cells = λ entries own rest.
            let sees : SeesEntries gk entries r = λ i in_range. left.fronts i in_range ∙ have.level_cells entries own rest i in_range in
            all-append (SeesEntries gk entries) xs (z ∷ []) (subst (AllByRecursion (SeesEntries gk entries)) (sym parted.0) (all-level cache q r (leaves-grow gk q r left) entries sees others have.all)) (subst (SeesEntries gk entries) (sym parted.1) sees, tt);
      }

  pub last-numbers : (r : Place (Known C)) → GivesAll m cache.config kept q r → (numbers : List ℕ) → numbers ≡ map (λ o. o.number) others → AreLast numbers r.joined
  last-numbers r gives numbers is = subst (λ (x : List ℕ × List (Kept (Known C))). AreLast x.0 x.1) (λ i. (sym is i, sym (kept-joined r gives) i)) (are-last others)
