-- The feeder ends all cells of one caller's run: the caller's party joins it for that time, and behind it the feeder's joins again.
use Rattle.std.proofs.Common.{◌≡◌, ◌≢◌, ℕ, suc, ◌<◌, List, [], ◌∷◌, ◌++◌, length, length-append, refl, sym, ap, ◌∙◌, subst, arith}
use Rattle.std.specs.List.{AllByRecursion}
use Rattle.std.proofs.lemmas.List.{nil_from_length}
use Rattle.arc_core.specs.declared.config.Config.{Config}
use Rattle.turn_table.specs.Places.{IsLast, SomeHas, parted, stayed}
use Rattle.arc_table.specs.declared.about.About.{About}
use Rattle.arc_table.specs.declared.view.Line.{Line}
use Rattle.arc_table.specs.Cache.{Cache, IsPartyOf}
use Rattle.arc_table.specs.Geometry.{parties_of}
use Rattle.arc_table.specs.Seen.{events_in, seen_of}
use Rattle.arc_table.specs.Views.{after_learned}
use Rattle.dbuf_cells.specs.Turns.{PartyPlace, dbuf_meanings}
use Rattle.trace_run.specs.dbufs.CellEnds.{EndedCells, HasSeenEnds, SeesEnds, end_entry}
use Rattle.trace_run.specs.KeptBlocks.{Stands}
use Rattle.trace_run.specs.Making.{AreNoEntries}
use Rattle.trace_run.specs.Meeting.{HasFeeder, HasParted, HaveParted, IsApart, IsLevel, JoinAll, Joins, MayGoOn}
use Rattle.trace_run.proofs.callers.MeetLemmas.{HaveJoined}
use Rattle.trace_run.proofs.one_caller.FedAlone.{both-have, by, f1, feeder-seen, may-feed-as, o, o-number, p1, p1-stands, part-last, parts-f, stays-p}
use Rattle.trace_run.proofs.callers.TurnLemmas.{joined, joined-all, joined-stands}

with-length : (cache : Cache) (lines : ℕ → List Line) (os xs : List PartyPlace) → HaveParted cache lines os xs → length xs ≡ length os
with-length cache lines [] [] parted = refl
with-length cache lines [] (x ∷ xs) parted = absurd parted
with-length cache lines (o ∷ os) [] parted = absurd parted
with-length cache lines (o ∷ os) (x ∷ xs) parted = ap suc (with-length cache lines os xs parted.1)

module _ (cache : Cache) (p : PartyPlace) (one : cache.config.callers ≡ 1) (number : p.number ≡ 0) (rows : cache.row.parties ≡ parties_of cache.config) (openings : List (List ℕ)) (feeder : HasFeeder cache openings p)
    (stands : Stands cache p []) where
  abbrev g : Config
  g = cache.config

  abbrev a : PartyPlace
  a = f1 cache (λ shard. []) p one number rows openings feeder

  abbrev b : PartyPlace
  b = p1 cache (λ shard. []) p one number rows openings feeder

  pub end-last : IsLast 1 p.joined
  end-last = part-last cache (λ shard. []) p one number rows openings feeder

  pub may-end-as : (f x : PartyPlace) (l : List PartyPlace) → f ≡ parted (λ w. after_learned w p.own) p p.joined → x ≡ stayed p → l ≡ x ∷ [] → MayGoOn cache [] f l
  may-end-as = may-feed-as cache (λ shard. []) p one number rows openings feeder [] stands

  -- the caller's party is the one that comes back
  pub ended-as : (f x f2 p2 : PartyPlace) (l l2 rest : List PartyPlace) → f ≡ parted (λ w. after_learned w p.own) p p.joined → x ≡ stayed p → l ≡ x ∷ [] → EndedCells cache f l f2 l2 → l2 ≡ rest ++ p2 ∷ []
      → EndedCells cache a (b ∷ []) f2 (p2 ∷ [])
  ended-as f x f2 p2 l l2 rest is_f is_x is_l r is =
      let here : EndedCells cache a (b ∷ []) f2 l2 =
      subst (λ (y : PartyPlace × List PartyPlace). EndedCells cache y.0 y.1 f2 l2)
      (λ i. (parts-f cache (λ shard. []) p one number rows openings feeder f is_f i, (is_l ∙ ap (λ (z : PartyPlace). z ∷ []) (stays-p cache (λ shard. []) p one number rows openings feeder x is_x)) i)) r in
      let long : length l2 ≡ 1 = with-length cache here.lines (b ∷ []) l2 here.parted in
      let none : rest ≡ [] = nil_from_length rest (omega (arith, long, ap length is, length-append rest (p2 ∷ []))) in
      subst (EndedCells cache a (b ∷ []) f2) (is ∙ ap (λ (k : List PartyPlace). k ++ p2 ∷ []) none) here

  module _ (f2 p2 : PartyPlace) (r : EndedCells cache a (b ∷ []) f2 (p2 ∷ [])) where
    p2-parted : HasParted cache r.lines b p2
    p2-parted = r.parted.0

    p2-stands : Stands cache p2 []
    p2-stands = p2-parted.stands [] (p1-stands cache (λ shard. []) p one number rows openings feeder [] stands)

    pub again-row : IsPartyOf cache p2 × IsPartyOf cache f2
    again-row = (p2-stands.of, r.stands.of)

    pub again-free : (p2.held ≡ []) × (f2.held ≡ [])
    again-free = (p2-stands.free, r.stands.free)

    module _ (q : PartyPlace) (joins : Joins dbuf_meanings f2 p2 q) where
      p2-number : p2.number ≡ 0
      p2-number = p2-parted.number ∙ number

      f2-number : f2.number ≡ 1
      f2-number = r.number ∙ o-number cache (λ shard. []) p one number rows openings feeder

      apart2 : AllByRecursion (IsApart cache) (f2 ∷ [])
      apart2 = (([], r.stands, r.alone), tt)

      differ2 : AllByRecursion (λ x. x.number ≢ p2.number) (f2 ∷ [])
      differ2 = ((λ is. absurd (omega (arith, is, p2-number, f2-number))), tt)

      all-joins : JoinAll dbuf_meanings (f2 ∷ []) p2 q
      all-joins = (p2, refl, joins)

      count2 : p2.parties ≡ parties_of g
      count2 = p2-stands.of.row.1 ∙ rows

      everyone : (n : ℕ) → n < parties_of g → SomeHas n (p2 ∷ f2 ∷ [])
      everyone = both-have cache (λ shard. []) p one number rows openings feeder [] stands p2 f2 p2-number f2-number

      have2 : HaveJoined dbuf_meanings cache p2 (f2 ∷ []) q
      have2 = joined dbuf_meanings cache p2 [] (f2 ∷ []) p2-stands p2-parted.alone apart2 everyone count2 differ2 q all-joins

      q-level : IsLevel g r.lines q
      q-level = have2.level r.lines p2-parted.level (r.level, tt)

      q-sees : (shard : ℕ) → seen_of g shard q ≡ seen_of g shard f2
      q-sees shard = ap events_in (q-level shard ∙ sym (r.level shard))

      entries-are : a.number ≡ g.callers
      entries-are = (by cache (λ shard. []) p one number rows openings feeder).number

      pub seen-ends : HasSeenEnds cache openings p q
      seen-ends = record {
        number = have2.number ∙ p2-parted.number;
        parties = have2.parties ∙ (count2 ∙ sym (stands.of.row.1 ∙ rows));
        stands = joined-stands dbuf_meanings cache p2 [] (f2 ∷ []) p2-stands p2-parted.alone apart2 everyone count2 differ2 q all-joins;
        drops = r.drops;
        seen = λ shard. q-sees shard ∙ r.one b refl (feeder-seen cache (λ shard. []) p one number rows openings feeder [] stands) shard;
        all = joined-all dbuf_meanings cache p2 [] (f2 ∷ []) p2-stands p2-parted.alone apart2 everyone count2 differ2 q all-joins;
        feeder = f2;
        last = r.number ∙ entries-are;
        joined = have2.joined;
        knows = ap (λ (x : About). x.openings) r.about ∙ (by cache (λ shard. []) p one number rows openings feeder).knows;
        feeder_stands = r.stands;
        kept = subst (λ (x : ℕ × List (List ℕ)). SeesEnds g x.1 f2.own.seen x.0 0 g.cells r.drops) (λ i. (entries-are i, (by cache (λ shard. []) p one number rows openings feeder).knows i)) r.kept;
        idle = λ none.
            let idle = r.idle (by cache (λ shard. []) p one number rows openings feeder).only (none, tt) in (
              idle.none,
              subst (AreNoEntries g) (sym (have2.mine ∙ p2-parted.mine)) none,
              λ i in_range. idle.ends i in_range ∙ ap (λ (n : ℕ). end_entry n i) entries-are,
            );
      }
