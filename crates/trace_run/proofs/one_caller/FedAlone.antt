-- What the feeder makes of the shards where there is one caller: its party joins the feeder's for that time, and behind it the feeder's joins again.
use Rattle.std.proofs.Common.{◌≡◌, ◌≢◌, ℕ, ◌<◌, List, [], ◌∷◌, ◌++◌, length, length-append, refl, sym, ap, ◌∙◌, subst, inl, inr, arith}
use Rattle.std.specs.List.{AllByRecursion}
use Rattle.std.proofs.lemmas.Bool.{cases_lt}
use Rattle.std.proofs.lemmas.List.{nil_from_length}
use Rattle.blk_ptr.specs.Hash.{shard_of}
use Rattle.arc_core.specs.declared.config.Config.{Config}
use Rattle.arc_core.specs.declared.event.Event.{Event}
use Rattle.arc_core.specs.Operations.{Tell, acts_in, moments, own_moments}
use Rattle.turn_table.specs.declared.standing.Kept.{Kept}
use Rattle.turn_table.specs.Places.{IsLast, Place, SomeHas, parted, rest_of, stayed}
use Rattle.turn_table.proofs.Histories.{front_both}
use Rattle.arc_table.specs.declared.about.About.{About}
use Rattle.arc_table.specs.declared.view.Known.{Known}
use Rattle.arc_table.specs.declared.view.Line.{Line}
use Rattle.arc_table.specs.Cache.{Cache, IsPartyOf}
use Rattle.arc_table.specs.Geometry.{parties_of}
use Rattle.arc_table.specs.Items.{Meanings}
use Rattle.arc_table.specs.Seen.{AllEntriesSeen, AreEntriesSeen, IsEntrySeen, IsNumberOrCell, IsSeenBy, events_in, seen_of, turn_of}
use Rattle.arc_table.specs.TableLaws.{starts_whole}
use Rattle.arc_table.specs.Fronts.{front_of}
use Rattle.trace_run.specs.Making.{AllEventsSeen, AreEventsSeen}
use Rattle.arc_table.specs.Telling.{opening_of}
use Rattle.arc_table.specs.Views.{after_learned}
use Rattle.trace_run.specs.declared.kept_blocks.KeptBlock.{KeptBlock}
use Rattle.trace_run.specs.callers.CallerLines.{HasFed}
use Rattle.trace_run.specs.Deeds.{SameMade}
use Rattle.trace_run.specs.KeptBlocks.{Stands}
use Rattle.trace_run.specs.Meeting.{HasFeeder, HasParted, IsApart, IsJoinedBy, IsLevel, JoinAll, Joins, MadeJoined, MayGoOn}
use Rattle.trace_run.proofs.callers.GroupsLemmas.{parted-length}
use Rattle.trace_run.proofs.callers.MeetLemmas.{HaveJoined, left_alone, parted_from}
use Rattle.trace_run.proofs.callers.TurnLemmas.{joined, joined-all, joined-stands, left-stands}
use Rattle.trace_run.proofs.deeds.DeedLemmas.{told-still}
use Rattle.trace_run.proofs.deeds.MakesLemmas.{grown-same, same-then}

module _ {C : Type 0} (cache : Cache) (more : (shard : ℕ) → List Event) (p : Place (Known C)) (one : cache.config.callers ≡ 1) (number : p.number ≡ 0) (rows : cache.row.parties ≡ parties_of cache.config) (openings : List (List ℕ)) (feeder : HasFeeder cache openings p) where
  abbrev g : Config
  g = cache.config

  abbrev pub o : Place (Known C)
  o = feeder.0

  pub by : IsJoinedBy cache openings o p
  by = feeder.1

  pub o-number : o.number ≡ 1
  o-number = by.number ∙ one

  -- the feeder's party and the caller's, once they have parted
  abbrev pub f1 : Place (Known C)
  f1 = parted_from p o

  abbrev pub p1 : Place (Known C)
  p1 = left_alone p

  pub parts-f : (f : Place (Known C)) → f ≡ parted (λ w. after_learned w p.own) p p.joined → f ≡ f1
  parts-f f is = is ∙ ap (λ (ks : List (Kept (Known C))). parted (λ w. after_learned w p.own) p ks) by.joined

  pub stays-p : (x : Place (Known C)) → x ≡ stayed p → x ≡ p1
  stays-p x is = is ∙ (λ i. record { table = p.table; parties = p.parties; number = p.number; own = p.own; joined = rest_of (by.joined i); held = p.held })

  pub part-last : IsLast 1 p.joined
  part-last = subst (IsLast 1) (sym by.joined) o-number

  module _ (had : List KeptBlock) (stands : Stands cache p had) where
    pub feeder-seen : AreEventsSeen g o.number o.own.mine p.own.seen
    feeder-seen = (subst (λ (ks : List (Kept (Known C))). AllEventsSeen g ks p.own.seen) by.joined stands.seen.joined).0

    f1-seen : AreEventsSeen g o.number o.own.mine f1.own.seen
    f1-seen i j a at is = elim (front_both (turn_of g i) o.own.seen p.own.seen) [
      | inl here ↦ subst (λ (l : List Line). IsSeenBy (IsNumberOrCell g) (parties_of g) o.number l a.place) (sym here) (by.stands.seen.own i j a at is)
      | inr here ↦ subst (λ (l : List Line). IsSeenBy (IsNumberOrCell g) (parties_of g) o.number l a.place) (sym here) (feeder-seen i j a at is)
    ]

    feeder-entries : AreEntriesSeen g o.number o.own.mine p.own.seen
    feeder-entries = (subst (λ (ks : List (Kept (Known C))). AllEntriesSeen g ks p.own.seen) by.joined stands.cells.joined).0

    f1-entries : AreEntriesSeen g o.number o.own.mine f1.own.seen
    f1-entries i j a in_range at is = elim (front_both i o.own.seen p.own.seen) [
      | inl here ↦ subst (λ (l : List Line). IsEntrySeen o.number l a.place) (sym here) (by.stands.cells.own i j a in_range at is)
      | inr here ↦ subst (λ (l : List Line). IsEntrySeen o.number l a.place) (sym here) (feeder-entries i j a in_range at is)
    ]

    pub f1-stands : Stands cache f1 []
    f1-stands = record {
      valid = stands.valid;
      of = record { row = stands.of.row; config = by.stands.of.config };
      free = refl;
      cells = record { own = f1-entries; joined = tt };
      idle = by.stands.idle;
      unclaimed = by.stands.unclaimed;
      seen = record { own = f1-seen; joined = tt };
      apart = tt;
      joined = tt;
      owned = tt;
      listed = by.stands.listed;
    }

    pub p1-stands : Stands cache p1 had
    p1-stands = left-stands cache had p stands

    -- there are just two numbers
    pub both-have : (a b : Place (Known C)) → a.number ≡ 0 → b.number ≡ 1 → (n : ℕ) → n < parties_of g → SomeHas n (a ∷ b ∷ [])
    both-have a b zero_is one_is n below = elim (cases_lt n 1) [
      | inl low ↦ inl (inl (zero_is ∙ omega (arith, low)))
      | inr high ↦ inr (inl (inl (one_is ∙ omega (arith, high, below, one))))
    ]

    swapped : (a b : Place (Known C)) (n : ℕ) → SomeHas n (a ∷ b ∷ []) → SomeHas n (b ∷ a ∷ [])
    swapped a b n (inl first) = inr (inl first)
    swapped a b n (inr (inl second)) = inl second
    swapped a b n (inr (inr never)) = absurd never

    pub may-feed-alone : MayGoOn cache [] f1 (p1 ∷ [])
    may-feed-alone = record {
      stands = f1-stands;
      alone = refl;
      count = stands.of.row.1 ∙ rows;
      apart = ((had, p1-stands, refl), tt);
      everyone = λ n below. swapped p1 f1 n (both-have p1 f1 number o-number n below);
      differ = ((λ is. absurd (omega (arith, is, number, o-number))), tt);
    }

    -- so it is with what parting gave
    pub may-feed-as : (f x : Place (Known C)) (l : List (Place (Known C))) → f ≡ parted (λ w. after_learned w p.own) p p.joined → x ≡ stayed p → l ≡ x ∷ [] → MayGoOn cache [] f l
    may-feed-as f x l is_f is_x is_l =
        subst (λ (y : Place (Known C) × List (Place (Known C))). MayGoOn cache [] y.0 y.1) (λ i. (sym (parts-f f is_f) i, (sym (ap (λ (z : Place (Known C)). z ∷ []) (stays-p x is_x)) ∙ sym is_l) i)) may-feed-alone

    -- and the caller's party is the one that comes back
    pub made-as : (f x f2 p2 : Place (Known C)) (l l2 rest : List (Place (Known C))) → f ≡ parted (λ w. after_learned w p.own) p p.joined → x ≡ stayed p → l ≡ x ∷ [] → MadeJoined cache more f l f2 l2 → l2 ≡ rest ++ p2 ∷ []
        → MadeJoined cache more f1 (p1 ∷ []) f2 (p2 ∷ [])
    made-as f x f2 p2 l l2 rest is_f is_x is_l r is =
        let here : MadeJoined cache more f1 (p1 ∷ []) f2 l2 =
        subst (λ (y : Place (Known C) × List (Place (Known C))). MadeJoined cache more y.0 y.1 f2 l2) (λ i. (parts-f f is_f i, (is_l ∙ ap (λ (z : Place (Known C)). z ∷ []) (stays-p x is_x)) i)) r in
        let long : length l2 ≡ 1 = parted-length cache here.lines (p1 ∷ []) l2 here.parted in
        let none : rest ≡ [] = nil_from_length rest (omega (arith, long, ap length is, length-append rest (p2 ∷ []))) in
        subst (MadeJoined cache more f1 (p1 ∷ []) f2) (is ∙ ap (λ (k : List (Place (Known C))). k ++ p2 ∷ []) none) here

    -- the feeder's may join it then
    module _ (f2 p2 : Place (Known C)) (r : MadeJoined cache more f1 (p1 ∷ []) f2 (p2 ∷ [])) where
      pub again-row : IsPartyOf cache p2 × IsPartyOf cache f2
      again-row = ((r.parted.0.stands had p1-stands).of, r.stands.of)

      pub again-free : (p2.held ≡ []) × (f2.held ≡ [])
      again-free = ((r.parted.0.stands had p1-stands).free, r.stands.free)

    -- behind it
    module _ (m : Meanings C) (f2 p2 q : Place (Known C)) (r : MadeJoined cache more f1 (p1 ∷ []) f2 (p2 ∷ [])) (joins : Joins m f2 p2 q) where
      p2-parted : HasParted cache r.lines p1 p2
      p2-parted = r.parted.0

      p2-stands : Stands cache p2 had
      p2-stands = p2-parted.stands had p1-stands

      p2-number : p2.number ≡ 0
      p2-number = p2-parted.number ∙ number

      f2-number : f2.number ≡ 1
      f2-number = r.number ∙ o-number

      apart2 : AllByRecursion (IsApart cache) (f2 ∷ [])
      apart2 = (([], r.stands, r.alone), tt)

      differ2 : AllByRecursion (λ x. x.number ≢ p2.number) (f2 ∷ [])
      differ2 = ((λ is. absurd (omega (arith, is, p2-number, f2-number))), tt)

      all-joins : JoinAll m (f2 ∷ []) p2 q
      all-joins = (p2, refl, joins)

      count2 : p2.parties ≡ parties_of g
      count2 = p2-stands.of.row.1 ∙ rows

      have2 : HaveJoined m cache p2 (f2 ∷ []) q
      have2 = joined m cache p2 had (f2 ∷ []) p2-stands p2-parted.alone apart2 (both-have p2 f2 p2-number f2-number) count2 differ2 q all-joins

      pub again-stands : Stands cache q had
      again-stands = joined-stands m cache p2 had (f2 ∷ []) p2-stands p2-parted.alone apart2 (both-have p2 f2 p2-number f2-number) count2 differ2 q all-joins

      pub again-feeder : HasFeeder cache openings q
      again-feeder = (f2, record { number = r.number ∙ by.number; stands = r.stands; knows = ap (λ (a : About). a.openings) r.about ∙ by.knows; alone = r.alone; joined = have2.joined; only = r.entries by.only })

      q-level : IsLevel g r.lines q
      q-level = have2.level r.lines p2-parted.level (r.level, tt)

      -- it has seen what the feeder has
      q-sees : (shard : ℕ) → seen_of g shard q ≡ seen_of g shard f2
      q-sees shard = ap events_in (q-level shard ∙ sym (r.level shard))

      front-is : (shard : ℕ) → r.front shard ≡ seen_of g shard p
      front-is shard = r.one p1 refl feeder-seen shard

      same-own : (shard : ℕ) → own_moments p.number (moments (opening_of g) (seen_of g shard q)) ≡ own_moments p.number (moments (opening_of g) (seen_of g shard p))
      same-own shard =
          subst (λ (n : ℕ). own_moments n (moments (opening_of g) (seen_of g shard q)) ≡ own_moments n (moments (opening_of g) (seen_of g shard p2))) p2-parted.number (have2.self.own shard)
          ∙ p2-parted.own shard

      -- and it made nothing more
      same-made : SameMade g p q
      same-made =
          let first : SameMade g p p1 = record { number = refl; cells = λ shard c other. refl; entries = λ i in_range. refl; keeps = record { about = refl; fronts = λ i in_range. starts_whole (front_of i p.own.seen); shards = λ shard. starts_whole (front_of (turn_of g shard) p.own.seen); older = λ shard place below. refl } } in
          same-then g p p1 q first
          (same-then g p1 p2 q (p2-parted.same had p1-stands) (grown-same g p2 q have2.number have2.about have2.mine have2.self.starts have2.self.cells p2-stands.seen p2-stands.cells))

      pub alone-fed : HasFed g more p q
      alone-fed = record {
        number = have2.number ∙ p2-parted.number;
        told = λ before noted told. told-still g before noted p q
            (λ shard.
            subst (λ (n : ℕ). Tell (acts_in (shard_of g.shards) shard n before) (own_moments n (moments (opening_of g) (seen_of g shard q)))) (sym (have2.number ∙ p2-parted.number))
            (subst (Tell (acts_in (shard_of g.shards) shard p.number before)) (sym (same-own shard)) (told.acts shard)))
            same-made told;
        seen = λ shard. q-sees shard ∙ (r.seen shard ∙ ap (λ (es : List Event). es ++ more shard) (front-is shard));
        all = λ all. joined-all m cache p2 had (f2 ∷ []) p2-stands p2-parted.alone apart2 (both-have p2 f2 p2-number f2-number) count2 differ2 q all-joins;
      }
