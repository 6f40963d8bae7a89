-- The parties of several callers behind the ends of all cells: what they did is told, and all have seen the same, whatever was done to cells.
use Rattle.std.proofs.Common.{◌≡◌, ℕ, zero, suc, ◌<◌, ◌==◌, List, [], ◌∷◌, ◌++◌, length, map, refl, sym, ap, ◌∙◌, subst, inl, inr, arith}
use Rattle.std.specs.Prelude.{filter}
use Rattle.std.specs.List.{AllByRecursion}
use mathlib.Core.Option.{some, some-injective, some-ne-none}
use lib.ListN.{get_elem?}
use Rattle.blk_ptr.specs.Hash.{shard_of}
use Rattle.arc_core.specs.declared.config.Config.{Config}
use Rattle.arc_core.specs.declared.event.Event.{Event}
use Rattle.arc_core.specs.Operations.{Act, Moment, Tell, actor_of, acts_in, moments, own_events, own_moments}
use Rattle.arc_core.proofs.OwnEvents.{own-events-are}
use Rattle.arc_table.specs.declared.view.Line.{Line}
use Rattle.arc_table.specs.Cache.{Cache}
use Rattle.arc_table.specs.Seen.{events_in, seen_of}
use Rattle.arc_table.specs.Telling.{opening_of}
use Rattle.arc_table.specs.TableLaws.{get_front, within}
use Rattle.arc_table.proofs.TableLaws.{get_last, get_more}
use Rattle.dbuf_cells.specs.Turns.{PartyPlace}
use Rattle.trace_run.specs.dbufs.CellEnds.{EndedCrew, noted_ends}
use Rattle.trace_run.specs.Deeds.{HasToldAll, HasToldOthers, Noted, acts_of_events, events_there}
use Rattle.trace_run.specs.Meeting.{HasParted, HasSettled, HaveParted, IsLevel}
use Rattle.trace_run.specs.callers.GroupRun.{HaveStopped}
use Rattle.trace_run.proofs.callers.AfterEnds.{same-long}
use Rattle.trace_run.proofs.theorem.EndLemmas.{stands-idle}
use Rattle.trace_run.proofs.deeds.DeedLemmas.{others-still}
use Rattle.trace_run.proofs.theorem.ToldLemmas.{others-told}
use Rattle.trace_run.proofs.theorem.WorkEnds.{HasEndedWork, IsCallersAct}

module _ (cache : Cache) (olds news : List PartyPlace) (c : EndedCrew cache olds news) (stopped : HaveStopped cache olds) (many : length c.callers ≡ cache.config.callers) where
  abbrev g : Config
  g = cache.config

  abbrev z : PartyPlace
  z = c.last

  feeder-number : c.feeder.number ≡ g.callers
  feeder-number = (stopped.each (length c.callers) c.feeder (ap (λ (l : List PartyPlace). get_elem? l (length c.callers)) c.are ∙ get_last c.callers c.feeder)).0 ∙ many

  many-parted : length c.parted ≡ g.callers
  many-parted = same-long cache c.ended.lines c.callers c.parted c.ended.parted ∙ many

  parted-at : (os xs : List PartyPlace) → HaveParted cache c.ended.lines os xs → (n : ℕ) (x : PartyPlace) → get_elem? xs n ≡ some x
      → (o : PartyPlace) × (get_elem? os n ≡ some o) × HasParted cache c.ended.lines o x
  parted-at [] [] parted n x at = absurd (some-ne-none x (sym at))
  parted-at [] (y ∷ ys) parted n x at = absurd parted
  parted-at (o ∷ os) [] parted n x at = absurd parted
  parted-at (o ∷ os) (y ∷ ys) parted zero x at = (o, refl, subst (HasParted cache c.ended.lines o) (some-injective y x at) parted.0)
  parted-at (o ∷ os) (y ∷ ys) parted (suc n) x at = parted-at os ys parted.1 n x at

  -- a caller's party, and the feeder's
  each-closing : (fact : ℕ → PartyPlace → Type 0) → ((n : ℕ) (o x : PartyPlace) → n < g.callers → get_elem? c.callers n ≡ some o → HasParted cache c.ended.lines o x → fact n x) → fact g.callers z
      → (n : ℕ) (p : PartyPlace) → get_elem? news n ≡ some p → fact n p
  each-closing fact callers feeds n p at = elim (get_more c.parted z p n (ap (λ (l : List PartyPlace). get_elem? l n) (sym c.then) ∙ at)) [
    | inl first ↦
        let h = parted-at c.callers c.parted c.ended.parted n p first in
        callers n h.0 p (subst (λ (k : ℕ). n < k) many (within c.callers n h.0 h.1)) h.1 h.2
    | inr is ↦ subst (λ (x : ℕ × PartyPlace). fact x.0 x.1) (λ k. ((sym many-parted ∙ sym is.0) k, is.1 k)) feeds
  ]

  -- all have seen the same, where they had before: what was dropped with the cells' numbers more
  pub crew-level : (before : ℕ → List Line) → AllByRecursion (IsLevel g before) c.callers → IsLevel g before c.feeder → (n : ℕ) (p : PartyPlace) → get_elem? news n ≡ some p
      → (shard : ℕ) → seen_of g shard p ≡ events_in (before shard) ++ events_there g shard c.ended.drops
  crew-level before rest own = each-closing (λ n p. (shard : ℕ) → seen_of g shard p ≡ events_in (before shard) ++ events_there g shard c.ended.drops)
      (λ n o x below at parted shard. ap events_in (parted.level shard) ∙ c.ended.same before own rest shard)
      (λ shard. ap events_in (c.ended.level shard) ∙ c.ended.same before own rest shard)

  module _ (did : ℕ → List Act) (noted : ℕ → List Noted) (feeds : (shard : ℕ) → List Event) (callers : (n : ℕ) (o : PartyPlace) → get_elem? c.callers n ≡ some o → HasToldAll g (did n) (noted n) o)
      (acts : (n : ℕ) → n < g.callers → AllByRecursion (IsCallersAct g) (filter (λ act. actor_of act == n) (did n)))
      (made : List Act) (had : List Noted) (told : HasToldOthers g made had c.feeder) (settled : HasSettled c.feeder) (fed : (shard : ℕ) → shard < g.shards → own_events g.callers (seen_of g shard c.feeder) ≡ feeds shard)
      (did-is : did g.callers ≡ made ++ acts_of_events c.ended.drops) (noted-is : noted g.callers ≡ had ++ noted_ends g.callers 0 g.cells) where
    caller-ended : (n : ℕ) (o x : PartyPlace) → n < g.callers → get_elem? c.callers n ≡ some o → HasParted cache c.ended.lines o x → HasEndedWork g (did n) (noted n) feeds n x
    caller-ended n o x below at parted =
        let s = stopped.each n o (ap (λ (l : List PartyPlace). get_elem? l n) c.are ∙ get_front c.callers (c.feeder ∷ []) n o at) in
        let stands = parted.stands [] s.1 in
        let all = callers n o at in
        record {
          number = parted.number ∙ s.0;
          config = stands.of.config;
          seen = stands.seen.own;
          idle = stands-idle cache x stands;
          told = λ _ shard.
              subst (λ (k : ℕ × List Moment). Tell (acts_in (shard_of g.shards) shard k.0 (did n)) k.1)
              (λ i. (sym parted.number i, (sym (parted.own shard) ∙ ap (λ (k : ℕ). own_moments k (moments (opening_of g) (seen_of g shard x))) (sym parted.number)) i)) (all.acts shard);
          acts = acts n;
          fed = λ is shard inside. absurd (omega (arith, is, below));
          others = others-still g (did n) (noted n) o x (parted.same [] s.1) (others-told g (did n) (noted n) o all);
          settled = λ is. absurd (omega (arith, is, below));
        }

    feeder-ended : HasEndedWork g (did g.callers) (noted g.callers) feeds g.callers z
    feeder-ended =
        let number : z.number ≡ g.callers = c.ended.number ∙ feeder-number in
        record {
          number = number;
          config = c.ended.stands.of.config;
          seen = c.ended.stands.seen.own;
          idle = stands-idle cache z c.ended.stands;
          told = λ below. absurd (omega (arith, below));
          acts = λ below. absurd (omega (arith, below));
          fed = λ _ shard inside.
              let own : own_moments g.callers (moments (opening_of g) (seen_of g shard z)) ≡ own_moments g.callers (moments (opening_of g) (seen_of g shard c.feeder)) =
              subst (λ (k : ℕ). own_moments k (moments (opening_of g) (seen_of g shard z)) ≡ own_moments k (moments (opening_of g) (seen_of g shard c.feeder))) feeder-number (c.ended.own shard) in
              sym (own-events-are g.callers (opening_of g) (seen_of g shard z))
              ∙ (ap (map (λ (x : Moment). x.event)) own ∙ (own-events-are g.callers (opening_of g) (seen_of g shard c.feeder) ∙ fed shard inside));
          others = subst (λ (x : List Act × List Noted). HasToldOthers g x.0 x.1 z)
              (λ i. (sym did-is i, (ap (λ (n : ℕ). had ++ noted_ends n 0 g.cells) feeder-number ∙ sym noted-is) i)) (c.ended.told made had told);
          settled = λ _. c.ended.settled feeder-number settled;
        }

    pub crew-ended : (n : ℕ) (p : PartyPlace) → get_elem? news n ≡ some p → HasEndedWork g (did n) (noted n) feeds n p
    crew-ended = each-closing (λ n p. HasEndedWork g (did n) (noted n) feeds n p) caller-ended feeder-ended
