-- A new crew, and behind the restores of the keys that were found: what its callers and its feeder have come to before the first group.
use Rattle.std.proofs.Common.{◌≡◌, ℕ, zero, suc, ◌+◌, ◌<◌, List, [], ◌∷◌, ◌++◌, Option, Some, length, refl, sym, ap, ◌∙◌, subst, arith, append-nil, length-append}
use Rattle.std.specs.Prelude.{slice_get}
use Rattle.std.specs.List.{AllByRecursion}
use Rattle.std.proofs.lemmas.Option.{slice_get_within}
use mathlib.Core.Option.{some, some-injective, some-ne-none}
use lib.ListN.{get_elem?}
use Rattle.blk_ptr.specs.declared.ptr.Ptr.{Ptr}
use Rattle.arc_core.specs.declared.config.Config.{Config}
use Rattle.arc_core.specs.declared.event.Event.{Event}
use Rattle.arc_core.specs.declared.served.Restored.{Restored}
use Rattle.arc_core.specs.Operations.{own_events}
use Rattle.turn_table.specs.Places.{Place}
use Rattle.arc_table.specs.declared.view.Known.{Known}
use Rattle.arc_table.specs.declared.view.Ledger.{Ledger}
use Rattle.arc_table.specs.declared.view.Line.{Line}
use Rattle.arc_table.specs.Cache.{Cache}
use Rattle.arc_table.specs.Fronts.{StartsWith, front_of, list_at}
use Rattle.arc_table.specs.Seen.{seen_of, turn_of}
use Rattle.arc_table.specs.TableLaws.{starts_whole}
use Rattle.arc_table.proofs.TableLaws.{there}
use Rattle.trace_text.specs.declared.op.Op.{Op}
use Rattle.trace_run.specs.declared.groups.Crew.{Crew}
use Rattle.trace_run.specs.declared.kept_blocks.KeptBlock.{KeptBlock}
use Rattle.trace_run.specs.callers.Groups.{ComesAt, HaveCome, KeepNothing}
use Rattle.trace_run.specs.Meeting.{HasParted, HaveParted, IsLevel, MadeJoined}
use Rattle.trace_run.specs.dbufs.Objects.{Line as AnsweredLine}
use Rattle.trace_run.specs.Opened.{AreOpened, IsOpened}
use Rattle.trace_run.specs.Restores.{restores_in}
use Rattle.trace_run.specs.RunWork.{IsRunWork, plain_work}
use Rattle.trace_run.proofs.FeederLemmas.{own-restores}
use Rattle.trace_run.proofs.callers.MeetLemmas.{parted-waits}
use Rattle.trace_run.proofs.OpenLemmas.{new-seen}
use Rattle.trace_run.proofs.deeds.DeedLemmas.{others-still}
use Rattle.trace_run.proofs.theorem.ToldLemmas.{others-told}

-- ---- no line

none-done : (g : Config) → IsRunWork g [] [] (plain_work [] [])
none-done g = record {
  lines = tt;
  fits = tt;
  stopped = record { brought = refl; synced = tt; inserted = tt };
  fed = record { told = refl; shapes = tt };
  ended = tt;
}

none-cut : {l : AnsweredLine} (k : ℕ) → slice_get {X = AnsweredLine} [] k ≡ Some l → ⊥
none-cut k at = let inside = slice_get_within {A = AnsweredLine} [] k _ at in absurd (omega (arith, inside))

-- ---- a new crew

-- what is so of each party that has done nothing yet
pub all-opened : {C : Type 0} (cache : Cache) (whole : List (Place (Known C))) (crew : Crew C) → AreOpened cache whole → whole ≡ crew.parties.items ++ crew.feeder ∷ [] → (P : Place (Known C) → Type 0) → ((n : ℕ) (p : Place (Known C)) → IsOpened cache n p → P p)
    → AllByRecursion P crew.parties.items × P crew.feeder
all-opened {C} cache whole crew opened is P so = from crew.parties.items crew.feeder (λ n p at. (n, opened.each n p (ap (λ (l : List (Place (Known C))). get_elem? l n) is ∙ at)))
  where
    from : (ps : List (Place (Known C))) (p : Place (Known C)) → ((n : ℕ) (x : Place (Known C)) → get_elem? (ps ++ p ∷ []) n ≡ some x → (m : ℕ) × IsOpened cache m x) → AllByRecursion P ps × P p
    from [] p each = let h = each 0 p refl in (tt, so h.0 p h.1)
    from (x ∷ ps) p each = let h = each 0 x refl in let rest = from ps p (λ n y at. each (suc n) y at) in ((so h.0 x h.1, rest.0), rest.1)

module _ {C : Type 0} (cache : Cache) (whole : List (Place (Known C))) (crew : Crew C) (opened : AreOpened cache whole) (is : whole ≡ crew.parties.items ++ crew.feeder ∷ []) (none : KeepNothing crew.kept.items) (count : length crew.kept.items ≡ length crew.parties.items) where
  opened-at : (n : ℕ) (p : Place (Known C)) → get_elem? (crew.parties.items ++ crew.feeder ∷ []) n ≡ some p → IsOpened cache n p
  opened-at n p at = opened.each n p (ap (λ (l : List (Place (Known C))). get_elem? l n) is ∙ at)

  pub crew-count : length crew.parties.items ≡ cache.config.callers
  crew-count =
      let all : length (crew.parties.items ++ crew.feeder ∷ []) ≡ cache.config.callers + 1 = sym (ap length is) ∙ opened.count in
      let long : length (crew.parties.items ++ crew.feeder ∷ []) ≡ length crew.parties.items + 1 = length-append crew.parties.items (crew.feeder ∷ []) in
      omega (arith, all, long)

  front-at : (ps rest : List (Place (Known C))) (n : ℕ) (p : Place (Known C)) → get_elem? ps n ≡ some p → get_elem? (ps ++ rest) n ≡ some p
  front-at [] rest n p at = absurd (some-ne-none p (sym at))
  front-at (q ∷ ps) rest zero p at = at
  front-at (q ∷ ps) rest (suc n) p at = front-at ps rest n p at

  last-at : (ps : List (Place (Known C))) (p : Place (Known C)) → get_elem? (ps ++ p ∷ []) (length ps) ≡ some p
  last-at [] p = refl
  last-at (q ∷ ps) p = last-at ps p

  nothing-at : (ks : List (List KeptBlock)) (n : ℕ) → KeepNothing ks → n < length ks → get_elem? ks n ≡ some []
  nothing-at [] n all below = absurd (omega arith)
  nothing-at (k ∷ ks) zero all below = ap some all.0
  nothing-at (k ∷ ks) (suc n) all below = nothing-at ks n all.1 (omega arith)

  feeder-new : IsOpened cache cache.config.callers crew.feeder
  feeder-new = subst (λ (n : ℕ). IsOpened cache n crew.feeder) crew-count (opened-at (length crew.parties.items) crew.feeder (last-at crew.parties.items crew.feeder))

  -- how many parties there are
  pub crew-rows : cache.row.parties ≡ cache.config.callers + 1
  crew-rows = sym feeder-new.new.stands.of.row.1 ∙ feeder-new.new.parties

  pub have-started : (len : ℕ) (image : Option (List ℕ)) (place : ℕ) (blocks : List Ptr) → HaveCome cache [] len image place blocks [] [] (plain_work [] []) crew
  have-started len image place blocks = record {
    did = none-done cache.config;
    unended = refl;
    kepts = count ∙ crew-count;
    parties = crew-count;
    each = λ n below.
        let inside : n < length crew.parties.items = omega (arith, below, crew-count) in
        let p = there crew.parties.items n inside in
        let h = opened-at n p.0 (front-at crew.parties.items (crew.feeder ∷ []) n p.0 p.1) in
        record {
          reads = [];
          party = p.0;
          at = record { kept_at = nothing-at crew.kept.items n none (omega (arith, inside, count)); party_at = p.1 };
          come = record { waits = record { number = h.number; alone = h.joined; stands = h.new.stands; told = h.new.told }; keeps = refl; answers = tt };
        };
    ended = λ k op at none. let inside = slice_get_within {A = Op} [] k op at in absurd (omega (arith, inside));
    feeder = record {
      number = feeder-new.number;
      alone = feeder-new.joined;
      stands = feeder-new.new.stands;
      knows = refl;
      fed = λ shard below. none-own shard;
      since = λ shard. starts_whole (seen_of cache.config shard crew.feeder);
      told = others-told cache.config [] [] crew.feeder feeder-new.new.told;
      settled = λ i. ap (λ (l : Ledger). list_at i l.picked) feeder-new.new.begun;
    };
    begun = λ shard below. (seen_of cache.config shard crew.feeder, refl);
    cut = λ shard below owner makers k l at ends. absurd (none-cut k at);
  }
    where
      none-own : (shard : ℕ) → own_events crew.feeder.number (seen_of cache.config shard crew.feeder) ≡ []
      none-own shard = no-own (seen_of cache.config shard crew.feeder) (new-none shard)
        where
          new-none : (shard : ℕ) → seen_of cache.config shard crew.feeder ≡ []
          new-none shard = new-seen cache crew.feeder feeder-new.new shard

          no-own : (es : List Event) → es ≡ [] → own_events crew.feeder.number es ≡ []
          no-own es is = ap (own_events crew.feeder.number) is

-- ---- parties that have parted

pub parted-at : {C : Type 0} (cache : Cache) (lines : ℕ → List Line) (n : ℕ) (os xs : List (Place (Known C))) (o : Place (Known C)) → HaveParted cache lines os xs → get_elem? os n ≡ some o → (x : Place (Known C)) × (get_elem? xs n ≡ some x) × HasParted cache lines o x
parted-at cache lines n [] xs o parted at = absurd (some-ne-none o (sym at))
parted-at cache lines n (p ∷ os) [] o parted at = absurd parted
parted-at {C} cache lines zero (p ∷ os) (x ∷ xs) o parted at = (x, refl, subst (λ (y : Place (Known C)). HasParted cache lines y x) (some-injective p o at) parted.0)
parted-at cache lines (suc n) (p ∷ os) (x ∷ xs) o parted at = parted-at cache lines n os xs o parted.1 at

pub parted-length : {C : Type 0} (cache : Cache) (lines : ℕ → List Line) (os xs : List (Place (Known C))) → HaveParted cache lines os xs → length xs ≡ length os
parted-length cache lines [] [] parted = refl
parted-length cache lines [] (x ∷ xs) parted = absurd parted
parted-length cache lines (o ∷ os) [] parted = absurd parted
parted-length cache lines (o ∷ os) (x ∷ xs) parted = ap suc (parted-length cache lines os xs parted.1)

-- ---- the keys that were found on the cache device

module _ {C : Type 0} (cache : Cache) (restored : List Restored) (len : ℕ) (image : Option (List ℕ)) (place : ℕ) (blocks : List Ptr) (old new : Crew C) (whole : List (Place (Known C))) (opened : AreOpened cache whole)
    (is : whole ≡ old.parties.items ++ old.feeder ∷ []) (before : HaveCome cache [] len image place blocks [] [] (plain_work [] []) old)
    (made : MadeJoined cache (restores_in cache.config restored) old.feeder old.parties.items new.feeder new.parties.items) (kept : new.kept.items ≡ old.kept.items) where
  -- nobody had seen anything
  all-level : AllByRecursion (IsLevel cache.config (λ shard. [])) old.parties.items × IsLevel cache.config (λ shard. []) old.feeder
  all-level = all-opened cache whole old opened is (IsLevel cache.config (λ shard. [])) (λ n p new_one shard. ap (front_of (turn_of cache.config shard)) new_one.new.seen)

  -- so they have seen the restores, and nothing else
  pub restores-seen : (shard : ℕ) → seen_of cache.config shard new.feeder ≡ restores_in cache.config restored shard
  restores-seen shard = made.seen shard ∙ ap (λ (es : List Event). es ++ restores_in cache.config restored shard) (made.same (λ s. []) all-level.1 all-level.0 shard)

  restored-come : (n : ℕ) → n < cache.config.callers → ComesAt cache len image place blocks n [] new
  restored-come n below =
      let b = before.each n below in
      let x = parted-at cache made.lines n old.parties.items new.parties.items b.party made.parted b.at.party_at in
      record {
        reads = b.reads;
        party = x.0;
        at = record { kept_at = ap (λ (l : List (List KeptBlock)). get_elem? l n) kept ∙ b.at.kept_at; party_at = x.1 };
        come = record { waits = parted-waits cache made.lines b.party x.0 x.2 n [] [] b.reads b.come.waits; keeps = b.come.keeps; answers = tt };
      }

  pub have-restored : HaveCome cache restored len image place blocks [] [] (plain_work [] []) new
  have-restored = record {
    did = none-done cache.config;
    unended = refl;
    kepts = ap length kept ∙ before.kepts;
    parties = parted-length cache made.lines old.parties.items new.parties.items made.parted ∙ before.parties;
    each = restored-come;
    ended = before.ended;
    feeder = record {
      number = made.number ∙ before.feeder.number;
      alone = made.alone;
      stands = made.stands;
      knows = refl;
      fed = λ shard below.
          ap (own_events new.feeder.number) (restores-seen shard)
          ∙ (own-restores cache.config new.feeder.number (sym (made.number ∙ before.feeder.number)) restored shard ∙ sym (append-nil (restores_in cache.config restored shard)));
      since = λ shard. starts_whole (seen_of cache.config shard new.feeder);
      told = others-still cache.config [] [] old.feeder new.feeder made.made before.feeder.told;
      settled = made.settled before.feeder.number before.feeder.settled;
    };
    begun = λ shard below. subst (λ (es : List Event). StartsWith es (restores_in cache.config restored shard)) (sym (restores-seen shard)) (starts_whole (restores_in cache.config restored shard));
    cut = λ shard below owner makers k l at ends. absurd (none-cut k at);
  }
