-- The callers give back what they keep, one after another, each as the first of the parties, which is the last then.
use Rattle.std.proofs.Common.{◌≡◌, ◌≢◌, ℕ, suc, ◌+◌, ◌<◌, ◌≤◌, List, [], ◌∷◌, ◌++◌, length, length-append, get_or, map, refl, sym, ap, ◌∙◌, subst, inl, inr, arith, append-nil, append_assoc}
use Rattle.std.specs.List.{AllByRecursion, remove}
use Rattle.std.proofs.lemmas.Bool.{cases_lt}
use Rattle.arc_core.specs.declared.config.Config.{Config}
use Rattle.arc_core.specs.declared.event.Event.{Event}
use Rattle.arc_core.specs.Operations.{Act}
use Rattle.turn_table.specs.Places.{Place, SomeHas}
use Rattle.arc_table.specs.declared.view.Known.{Known}
use Rattle.arc_table.specs.declared.view.Line.{Line}
use Rattle.arc_table.specs.Cache.{Cache}
use Rattle.arc_table.specs.Geometry.{parties_of}
use Rattle.arc_table.specs.Seen.{events_in}
use Rattle.trace_run.specs.declared.kept_blocks.KeptBlock.{KeptBlock}
use Rattle.trace_run.specs.Acts.{acts_of_drops}
use Rattle.trace_run.specs.KeptBlocks.{held_in_shard, read_of}
use Rattle.trace_run.specs.Deeds.{KeepsCells, Noted}
use Rattle.trace_run.specs.Meeting.{AllGave, AllKeepCells, AreWaiting, FirstGaveBack, FirstMayGoOn, GaveBackJoined, HasParted, HaveGivenBack, HaveParted, IsApart, IsFed, IsLevel, MayGoOn, SeesEntries, Waits, drops_from}
use Rattle.trace_run.specs.one_caller.OneCaller.{events_of_drops}
use Rattle.trace_run.proofs.callers.AfterEnds.{last-same}
use Rattle.trace_run.proofs.callers.MeetLemmas.{parted-fed, parted-level, parted-waits}
use Rattle.trace_run.proofs.deeds.MakesLemmas.{keeps-then}

-- ---- the first of the parties

module _ {C : Type 0} (cache : Cache) (kept : List KeptBlock) where
  pub first-some : (ps : List (Place (Known C))) → FirstMayGoOn cache kept ps → 0 < length ps
  first-some [] may = absurd may
  first-some (p ∷ ps) may = omega arith

  pub first-goes : (ps : List (Place (Known C))) (p : Place (Known C)) (rest : List (Place (Known C))) → FirstMayGoOn cache kept ps → p ≡ get_or ps 0 p → rest ≡ remove ps 0 → MayGoOn cache kept p rest
  first-goes [] p rest may first others = absurd may
  first-goes (x ∷ xs) p rest may first others = subst (λ (l : Place (Known C) × List (Place (Known C))). MayGoOn cache kept l.0 l.1) (λ i. (sym first i, sym others i)) may

  pub first-gave : (ps news : List (Place (Known C))) (p : Place (Known C)) (rest : List (Place (Known C))) → FirstMayGoOn cache kept ps → p ≡ get_or ps 0 p → rest ≡ remove ps 0 → GaveBackJoined cache p kept rest news → FirstGaveBack cache kept ps news
  first-gave [] news p rest may first others gave = absurd may
  first-gave (x ∷ xs) news p rest may first others gave = subst (λ (l : Place (Known C) × List (Place (Known C))). GaveBackJoined cache l.0 kept l.1 news) (λ i. (first i, others i)) gave

-- ---- lists of parties

module _ {X : Type 0} (P : X → Type 0) where
  all-append : (xs ys : List X) → AllByRecursion P xs → AllByRecursion P ys → AllByRecursion P (xs ++ ys)
  all-append [] ys a b = b
  all-append (x ∷ xs) ys a b = (a.0, all-append xs ys a.1 b)

module _ {C : Type 0} where
  has-left : (n : ℕ) (xs ys : List (Place (Known C))) → SomeHas n xs → SomeHas n (xs ++ ys)
  has-left n [] ys has = absurd has
  has-left n (x ∷ xs) ys (inl has) = inl has
  has-left n (x ∷ xs) ys (inr has) = inr (has-left n xs ys has)

  has-right : (n : ℕ) (xs ys : List (Place (Known C))) → SomeHas n ys → SomeHas n (xs ++ ys)
  has-right n [] ys has = has
  has-right n (x ∷ xs) ys has = inr (has-right n xs ys has)

-- ---- the drops

drops-last : (g : Config) (shard n m : ℕ) (ks : List (List KeptBlock)) (k : List KeptBlock) → m ≡ n + length ks → drops_from g shard n (ks ++ k ∷ []) ≡ drops_from g shard n ks ++ events_of_drops m (held_in_shard g shard (map read_of k))
drops-last g shard n m [] k is = append-nil (events_of_drops n (held_in_shard g shard (map read_of k))) ∙ ap (λ (x : ℕ). events_of_drops x (held_in_shard g shard (map read_of k))) (let same : n ≡ m = omega (arith, is) in same)
drops-last g shard n m (j ∷ ks) k is =
    let mine : List Event = events_of_drops n (held_in_shard g shard (map read_of j)) in
    ap (λ (l : List Event). mine ++ l) (drops-last g shard (suc n) m ks k (is ∙ omega arith)) ∙ sym (append_assoc mine (drops_from g shard (suc n) ks) (events_of_drops m (held_in_shard g shard (map read_of k))))

-- how many there are, where one more is left
number-there : (all gone : List (List KeptBlock)) (k : List KeptBlock) (ks : List (List KeptBlock)) → all ≡ gone ++ k ∷ ks → length all ≡ length gone + suc (length ks)
number-there all gone k ks is = ap length is ∙ length-append gone (k ∷ ks)

-- ---- what is known of cells

module _ {C : Type 0} (g : Config) where
  all-keep-then : (ps qs xs : List (Place (Known C))) → AllKeepCells g ps qs → AllKeepCells g qs xs → AllKeepCells g ps xs
  all-keep-then [] [] [] first second = tt
  all-keep-then [] [] (x ∷ xs) first second = absurd second
  all-keep-then [] (q ∷ qs) xs first second = absurd first
  all-keep-then (p ∷ ps) [] xs first second = absurd first
  all-keep-then (p ∷ ps) (q ∷ qs) [] first second = absurd second
  all-keep-then (p ∷ ps) (q ∷ qs) (x ∷ xs) first second = (keeps-then g p q x first.0 second.0, all-keep-then ps qs xs first.1 second.1)

  all-keep-two : (ps xs qs ys : List (Place (Known C))) → AllKeepCells g ps xs → AllKeepCells g qs ys → AllKeepCells g (ps ++ qs) (xs ++ ys)
  all-keep-two [] [] qs ys first second = second
  all-keep-two [] (x ∷ xs) qs ys first second = absurd first
  all-keep-two (p ∷ ps) [] qs ys first second = absurd first
  all-keep-two (p ∷ ps) (x ∷ xs) qs ys first second = (first.0, all-keep-two ps xs qs ys first.1 second)

  none-keeps : (ps : List (Place (Known C))) → AllKeepCells g ps [] → ps ≡ []
  none-keeps [] keeps = refl
  none-keeps (p ∷ ps) keeps = absurd keeps

  -- Parties were these at first, of callers and of the feeder: the callers that have given back and are these, and those that wait and are these. Each knows and has seen of cells at least what it had.
  pub record Keeping (olds : List (Place (Known C))) (old : Place (Known C)) (waiting : List (Place (Known C))) (feeder : Place (Known C)) (done : List (Place (Known C))) : Type 0 where
    pub went : List (Place (Known C))
    pub behind : List (Place (Known C))
    pub were : olds ≡ went ++ behind
    pub behind_cells : AllKeepCells g behind waiting
    pub gone_cells : AllKeepCells g went done
    pub fed_cells : KeepsCells g old feeder

  keeping-then : (olds : List (Place (Known C))) (old p last : Place (Known C)) (waiting left done gone : List (Place (Known C))) (feeder fed : Place (Known C)) → KeepsCells g p last → AllKeepCells g waiting left → AllKeepCells g done gone → KeepsCells g feeder fed
      → Keeping olds old (p ∷ waiting) feeder done → Keeping olds old left fed (gone ++ last ∷ [])
  keeping-then olds old p last waiting left done gone feeder fed one others before its k = go k.behind k.were k.behind_cells
    where
      go : (behind : List (Place (Known C))) → olds ≡ k.went ++ behind → AllKeepCells g behind (p ∷ waiting) → Keeping olds old left fed (gone ++ last ∷ [])
      go [] were cells = absurd cells
      go (o ∷ os) were cells = record {
        went = k.went ++ o ∷ [];
        behind = os;
        were = were ∙ sym (append_assoc k.went (o ∷ []) os);
        behind_cells = all-keep-then os waiting left cells.1 others;
        gone_cells = all-keep-two k.went gone (o ∷ []) (last ∷ []) (all-keep-then k.went done gone k.gone_cells before) (keeps-then g o p last cells.0 one, tt);
        fed_cells = keeps-then g old feeder fed k.fed_cells its;
      }

module _ {C : Type 0} (cache : Cache) (acts : ℕ → List Act) (noted : ℕ → List Noted) (openings : List (List ℕ)) (feeds since : (shard : ℕ) → List Event) (inserted : List Act) (synced : List Noted) (olds : List (Place (Known C))) (old : Place (Known C)) where
  -- ---- callers that wait, by their numbers

  waiting-apart : (n : ℕ) (ks : List (List KeptBlock)) (ps : List (Place (Known C))) → AreWaiting cache acts noted n ks ps → AllByRecursion (IsApart cache) ps
  waiting-apart n [] [] waits = tt
  waiting-apart n [] (p ∷ ps) waits = absurd waits
  waiting-apart n (k ∷ ks) [] waits = absurd waits
  waiting-apart n (k ∷ ks) (p ∷ ps) waits = ((k, waits.0.stands, waits.0.alone), waiting-apart (suc n) ks ps waits.1)

  waiting-above : (n m : ℕ) (ks : List (List KeptBlock)) (ps : List (Place (Known C))) → m < n → AreWaiting cache acts noted n ks ps → AllByRecursion (λ o. o.number ≢ m) ps
  waiting-above n m [] [] above waits = tt
  waiting-above n m [] (p ∷ ps) above waits = absurd waits
  waiting-above n m (k ∷ ks) [] above waits = absurd waits
  waiting-above n m (k ∷ ks) (p ∷ ps) above waits = ((λ is. let number = waits.0.number in absurd (omega (arith, is, number, above))), waiting-above (suc n) m ks ps (omega (arith, above)) waits.1)

  waiting-has : (n m : ℕ) (ks : List (List KeptBlock)) (ps : List (Place (Known C))) → n ≤ m → m < n + length ks → AreWaiting cache acts noted n ks ps → SomeHas m ps
  waiting-has n m [] ps low high waits = absurd (omega (arith, low, high))
  waiting-has n m (k ∷ ks) [] low high waits = absurd waits
  waiting-has n m (k ∷ ks) (p ∷ ps) low high waits = elim (cases_lt n m) [
    | inl more ↦ inr (waiting-has (suc n) m ks ps more (omega (arith, high)) waits.1)
    | inr same ↦ inl (inl (waits.0.number ∙ omega (arith, low, same)))
  ]

  -- ---- callers that have given back

  gave-apart : (n : ℕ) (ks : List (List KeptBlock)) (ps : List (Place (Known C))) → AllGave cache acts noted n ks ps → AllByRecursion (IsApart cache) ps
  gave-apart n [] [] gave = tt
  gave-apart n [] (p ∷ ps) gave = absurd gave
  gave-apart n (k ∷ ks) [] gave = absurd gave
  gave-apart n (k ∷ ks) (p ∷ ps) gave = (([], gave.0.stands, gave.0.alone), gave-apart (suc n) ks ps gave.1)

  gave-below : (n m : ℕ) (ks : List (List KeptBlock)) (ps : List (Place (Known C))) → n + length ks ≤ m → AllGave cache acts noted n ks ps → AllByRecursion (λ o. o.number ≢ m) ps
  gave-below n m [] [] below gave = tt
  gave-below n m [] (p ∷ ps) below gave = absurd gave
  gave-below n m (k ∷ ks) [] below gave = absurd gave
  gave-below n m (k ∷ ks) (p ∷ ps) below gave = ((λ is. let number = gave.0.number in absurd (omega (arith, is, number, below))), gave-below (suc n) m ks ps (omega (arith, below)) gave.1)

  gave-has : (n m : ℕ) (ks : List (List KeptBlock)) (ps : List (Place (Known C))) → n ≤ m → m < n + length ks → AllGave cache acts noted n ks ps → SomeHas m ps
  gave-has n m [] ps low high gave = absurd (omega (arith, low, high))
  gave-has n m (k ∷ ks) [] low high gave = absurd gave
  gave-has n m (k ∷ ks) (p ∷ ps) low high gave = elim (cases_lt n m) [
    | inl more ↦ inr (gave-has (suc n) m ks ps more (omega (arith, high)) gave.1)
    | inr same ↦ inl (inl (gave.0.number ∙ omega (arith, low, same)))
  ]

  gave-last : (n m : ℕ) (ks : List (List KeptBlock)) (ps : List (Place (Known C))) (k : List KeptBlock) (p : Place (Known C)) → m ≡ n + length ks → AllGave cache acts noted n ks ps → Waits cache m (acts m ++ acts_of_drops m (map read_of k)) (noted m) [] p
      → AllGave cache acts noted n (ks ++ k ∷ []) (ps ++ p ∷ [])
  gave-last n m [] [] k p is gave one = (subst (λ (x : ℕ). Waits cache x (acts x ++ acts_of_drops x (map read_of k)) (noted x) [] p) (is ∙ omega arith) one, tt)
  gave-last n m [] (q ∷ ps) k p is gave one = absurd gave
  gave-last n m (j ∷ ks) [] k p is gave one = absurd gave
  gave-last n m (j ∷ ks) (q ∷ ps) k p is gave one = (gave.0, gave-last (suc n) m ks ps k p (is ∙ omega arith) gave.1 one)

  -- ---- parties that parted are in their order

  parted-waiting : (lines : ℕ → List Line) (n : ℕ) (ks : List (List KeptBlock)) (os xs : List (Place (Known C))) → HaveParted cache lines os xs → AreWaiting cache acts noted n ks os → AreWaiting cache acts noted n ks xs
  parted-waiting lines n [] [] [] parted waits = tt
  parted-waiting lines n ks [] (x ∷ xs) parted waits = absurd parted
  parted-waiting lines n ks (o ∷ os) [] parted waits = absurd parted
  parted-waiting lines n (k ∷ ks) [] [] parted waits = absurd waits
  parted-waiting lines n [] (o ∷ os) (x ∷ xs) parted waits = absurd waits
  parted-waiting lines n (k ∷ ks) (o ∷ os) (x ∷ xs) parted waits = (parted-waits cache lines o x parted.0 n (acts n) (noted n) k waits.0, parted-waiting lines (suc n) ks os xs parted.1 waits.1)

  parted-gave : (lines : ℕ → List Line) (n : ℕ) (ks : List (List KeptBlock)) (os xs : List (Place (Known C))) → HaveParted cache lines os xs → AllGave cache acts noted n ks os → AllGave cache acts noted n ks xs
  parted-gave lines n [] [] [] parted gave = tt
  parted-gave lines n ks [] (x ∷ xs) parted gave = absurd parted
  parted-gave lines n ks (o ∷ os) [] parted gave = absurd parted
  parted-gave lines n (k ∷ ks) [] [] parted gave = absurd gave
  parted-gave lines n [] (o ∷ os) (x ∷ xs) parted gave = absurd gave
  parted-gave lines n (k ∷ ks) (o ∷ os) (x ∷ xs) parted gave = (parted-waits cache lines o x parted.0 n (acts n ++ acts_of_drops n (map read_of k)) (noted n) [] gave.0, parted-gave lines (suc n) ks os xs parted.1 gave.1)

  -- and each knows and has seen of cells at least what it had
  parted-cells : (lines : ℕ → List Line) (os xs : List (Place (Known C))) → HaveParted cache lines os xs → AllByRecursion (IsApart cache) os → AllKeepCells cache.config os xs
  parted-cells lines [] [] parted apart = tt
  parted-cells lines [] (x ∷ xs) parted apart = absurd parted
  parted-cells lines (o ∷ os) [] parted apart = absurd parted
  parted-cells lines (o ∷ os) (x ∷ xs) parted apart = ((parted.0.same apart.0.0 apart.0.1).keeps, parted-cells lines os xs parted.1 apart.1)

  parted-split : (lines : ℕ → List Line) (os : List (Place (Known C))) (o : Place (Known C)) (us xs : List (Place (Known C))) → HaveParted cache lines (os ++ o ∷ us) xs
      → (ys : List (Place (Known C))) × (y : Place (Known C)) × (zs : List (Place (Known C))) × (xs ≡ ys ++ y ∷ zs) × HaveParted cache lines os ys × HasParted cache lines o y × HaveParted cache lines us zs
  parted-split lines [] o us [] parted = absurd parted
  parted-split lines [] o us (x ∷ xs) parted = ([], x, xs, refl, tt, parted.0, parted.1)
  parted-split lines (p ∷ os) o us [] parted = absurd parted
  parted-split lines (p ∷ os) o us (x ∷ xs) parted =
      let h = parted-split lines os o us xs parted.1 in
      (x ∷ h.0, h.1, h.2, ap (λ (l : List (Place (Known C))). x ∷ l) h.3, (parted.0, h.4), h.5, h.6)

  -- ---- between two callers

  -- where all had seen the same of each shard, this is it
  abbrev StoodSame : (ℕ → List Event) → Type 0
  StoodSame first = (before : ℕ → List Line) → IsLevel cache.config before old → AllByRecursion (IsLevel cache.config before) olds → (shard : ℕ) → first shard ≡ events_in (before shard)

  -- where all had seen the same of each cell, these have
  abbrev SeeSame : List (Place (Known C)) → Type 0
  SeeSame ps = (entries : ℕ → List Line) → SeesEntries cache.config entries old → AllByRecursion (SeesEntries cache.config entries) olds → AllByRecursion (SeesEntries cache.config entries) ps

  -- So many callers have given back, and these are left.
  pub record Turning (all left : List (List KeptBlock)) (ps : List (Place (Known C))) : Type 0 where
    pub gone : List (List KeptBlock)
    pub parts : all ≡ gone ++ left
    pub waiting : List (Place (Known C))
    pub feeder : Place (Known C)
    pub done : List (Place (Known C))
    pub are : ps ≡ waiting ++ feeder ∷ done
    pub waits : AreWaiting cache acts noted (length gone) left waiting
    pub fed : IsFed cache openings feeds since inserted synced feeder
    pub gave : AllGave cache acts noted 0 gone done
    pub keeps : Keeping cache.config olds old waiting feeder done
    pub first : ℕ → List Event
    pub lines : ℕ → List Line
    pub level : AllByRecursion (IsLevel cache.config lines) ps
    pub drops : (shard : ℕ) → events_in (lines shard) ≡ first shard ++ drops_from cache.config shard 0 gone
    pub same : StoodSame first
    pub same_cells : SeeSame ps

  pub turning-some : (all left : List (List KeptBlock)) (ps : List (Place (Known C))) → Turning all left ps → 0 < length ps
  turning-some all left ps t = let long = ap length t.are ∙ length-append t.waiting (t.feeder ∷ t.done) in omega arith

  module _ (rows : cache.row.parties ≡ parties_of cache.config) where
    -- the feeder may begin, which keeps nothing
    pub may-begin : (all : List (List KeptBlock)) (ps : List (Place (Known C))) (feeder : Place (Known C)) → length all ≡ cache.config.callers → AreWaiting cache acts noted 0 all ps → IsFed cache openings feeds since inserted synced feeder → MayGoOn cache [] feeder ps
    may-begin all ps feeder count waits fed = record {
      stands = fed.stands;
      alone = fed.alone;
      count = fed.stands.of.row.1 ∙ rows;
      apart = waiting-apart 0 all ps waits;
      everyone = λ n below. elim (cases_lt n cache.config.callers) [
        | inl caller ↦ inr (waiting-has 0 n all ps (omega arith) (omega (arith, caller, count)) waits)
        | inr same ↦ inl (inl (fed.number ∙ omega (arith, below, same)))
      ];
      differ = waiting-below 0 feeder.number all ps (omega (arith, count, fed.number)) waits;
    }
      where
        waiting-below : (n m : ℕ) (ks : List (List KeptBlock)) (ps : List (Place (Known C))) → n + length ks ≤ m → AreWaiting cache acts noted n ks ps → AllByRecursion (λ o. o.number ≢ m) ps
        waiting-below n m [] [] below waits = tt
        waiting-below n m [] (p ∷ ps) below waits = absurd waits
        waiting-below n m (k ∷ ks) [] below waits = absurd waits
        waiting-below n m (k ∷ ks) (p ∷ ps) below waits = ((λ is. let number = waits.0.number in absurd (omega (arith, is, number, below))), waiting-below (suc n) m ks ps (omega (arith, below)) waits.1)

    -- behind all of it the feeder may go on, with whom all have given back
    pub may-end : (all : List (List KeptBlock)) (ps rest : List (Place (Known C))) (feeder : Place (Known C)) → length all ≡ cache.config.callers → ps ≡ rest ++ feeder ∷ [] → HaveGivenBack cache acts noted openings feeds since inserted synced olds old all ps → MayGoOn cache [] feeder rest
    may-end all ps rest feeder count are gone = subst (λ (x : List (Place (Known C)) × Place (Known C)). MayGoOn cache [] x.1 x.0) (λ i. (sym same.0 i, sym same.1 i)) record {
      stands = gone.fed.stands;
      alone = gone.fed.alone;
      count = gone.fed.stands.of.row.1 ∙ rows;
      apart = gave-apart 0 all gone.callers gone.gave;
      everyone = λ n below. elim (cases_lt n cache.config.callers) [
        | inl caller ↦ inr (gave-has 0 n all gone.callers (omega arith) (omega (arith, caller, count)) gone.gave)
        | inr high ↦ inl (inl (gone.fed.number ∙ omega (arith, below, high)))
      ];
      differ = gave-below 0 gone.feeder.number all gone.callers (omega (arith, count, gone.fed.number)) gone.gave;
    }
      where
        same : (rest ≡ gone.callers) × (feeder ≡ gone.feeder)
        same = last-same rest gone.callers feeder gone.feeder (sym are ∙ gone.are)

    pub begun : (all : List (List KeptBlock)) (news : List (Place (Known C))) → length all ≡ cache.config.callers → AreWaiting cache acts noted 0 all olds → IsFed cache openings feeds since inserted synced old
        → GaveBackJoined cache old [] olds news → Turning all all news
    begun all news count waits fed b = record {
      gone = [];
      parts = refl;
      waiting = b.rest;
      feeder = b.last;
      done = [];
      are = b.are;
      waits = parted-waiting b.lines 0 all olds b.rest b.parted waits;
      fed = b.fed openings feeds since inserted synced refl fed;
      gave = tt;
      keeps = record { went = []; behind = olds; were = refl; behind_cells = parted-cells b.lines olds b.rest b.parted (waiting-apart 0 all olds waits); gone_cells = tt; fed_cells = b.cells };
      first = λ shard. events_in (b.lines shard);
      lines = b.lines;
      level = subst (AllByRecursion (IsLevel cache.config b.lines)) (sym b.are) (all-append (IsLevel cache.config b.lines) b.rest (b.last ∷ []) (parted-level cache b.lines olds b.rest b.parted) (b.level, tt));
      drops = λ shard. sym (append-nil (events_in (b.lines shard)));
      same = λ before own rest shard. b.drops before own rest shard ∙ append-nil (events_in (before shard));
      same_cells = b.same_cells;
    }

    -- the first that is left may give back
    module _ (all : List (List KeptBlock)) (k : List KeptBlock) (ks : List (List KeptBlock)) (count : length all ≡ cache.config.callers) where
      next-may : (p : Place (Known C)) (waiting : List (Place (Known C))) (gone : List (List KeptBlock)) (feeder : Place (Known C)) (done : List (Place (Known C))) → all ≡ gone ++ k ∷ ks → Waits cache (length gone) (acts (length gone)) (noted (length gone)) k p
          → AreWaiting cache acts noted (suc (length gone)) ks waiting → IsFed cache openings feeds since inserted synced feeder → AllGave cache acts noted 0 gone done → MayGoOn cache k p (waiting ++ feeder ∷ done)
      next-may p waiting gone feeder done is one waits fed gave = record {
        stands = one.stands;
        alone = one.alone;
        count = one.stands.of.row.1 ∙ rows;
        apart = all-append (IsApart cache) waiting (feeder ∷ done) (waiting-apart (suc (length gone)) ks waiting waits) (([], fed.stands, fed.alone), gave-apart 0 gone done gave);
        everyone = λ n below. elim (cases_lt n (length gone)) [
          | inl before ↦ inr (has-right n waiting (feeder ∷ done) (inr (gave-has 0 n gone done (omega arith) (omega (arith, before)) gave)))
          | inr after ↦ elim (cases_lt (length gone) n) [
            | inl behind ↦ elim (cases_lt n (length all)) [
              | inl caller ↦ inr (has-left n waiting (feeder ∷ done) (waiting-has (suc (length gone)) n ks waiting behind (omega (arith, caller, number-there all gone k ks is)) waits))
              | inr last ↦ inr (has-right n waiting (feeder ∷ done) (inl (inl (fed.number ∙ omega (arith, last, below, count)))))
            ]
            | inr same ↦ inl (inl (one.number ∙ omega (arith, after, same)))
          ]
        ];
        differ = all-append (λ o. o.number ≢ p.number) waiting (feeder ∷ done)
            (waiting-above (suc (length gone)) p.number ks waiting (omega (arith, one.number)) waits)
            ((λ same. let a = fed.number in let b = one.number in let c = number-there all gone k ks is in absurd (omega (arith, same, a, b, c, count))), gave-below 0 p.number gone done (omega (arith, one.number)) gave);
      }

      pub may-turn : (ps : List (Place (Known C))) → Turning all (k ∷ ks) ps → FirstMayGoOn cache k ps
      may-turn ps t = subst (FirstMayGoOn cache k) (sym t.are) (go t.waiting t.waits)
        where
          go : (waiting : List (Place (Known C))) → AreWaiting cache acts noted (length t.gone) (k ∷ ks) waiting → FirstMayGoOn cache k (waiting ++ t.feeder ∷ t.done)
          go [] waits = absurd waits
          go (p ∷ waiting) waits = next-may p waiting t.gone t.feeder t.done t.parts waits.0 waits.1 t.fed t.gave

      next-then : (gone : List (List KeptBlock)) (p : Place (Known C)) (waiting : List (Place (Known C))) (feeder : Place (Known C)) (done news : List (Place (Known C))) (first : ℕ → List Event) (lines : ℕ → List Line)
          → all ≡ gone ++ k ∷ ks → Waits cache (length gone) (acts (length gone)) (noted (length gone)) k p → AreWaiting cache acts noted (suc (length gone)) ks waiting → IsFed cache openings feeds since inserted synced feeder → AllGave cache acts noted 0 gone done
          → IsLevel cache.config lines p → AllByRecursion (IsLevel cache.config lines) (waiting ++ feeder ∷ done) → ((shard : ℕ) → events_in (lines shard) ≡ first shard ++ drops_from cache.config shard 0 gone)
          → StoodSame first → SeeSame (p ∷ waiting ++ feeder ∷ done) → Keeping cache.config olds old (p ∷ waiting) feeder done → GaveBackJoined cache p k (waiting ++ feeder ∷ done) news → Turning all ks news
      next-then gone p waiting feeder done news first lines is one waits fed gave own_level level drops same sees keeps b =
          let h = parted-split b.lines waiting feeder done b.rest b.parted in
          let number : ℕ = length gone in
          record {
            gone = gone ++ k ∷ [];
            parts = is ∙ sym (append_assoc gone (k ∷ []) ks);
            waiting = h.0;
            feeder = h.1;
            done = h.2 ++ b.last ∷ [];
            are = b.are ∙ (ap (λ (l : List (Place (Known C))). l ++ b.last ∷ []) h.3 ∙ append_assoc h.0 (h.1 ∷ h.2) (b.last ∷ []));
            waits = subst (λ (n : ℕ). AreWaiting cache acts noted n ks h.0) (let n : suc number ≡ length (gone ++ k ∷ []) = omega (arith, length-append gone (k ∷ [])) in n) (parted-waiting b.lines (suc number) ks waiting h.0 h.4 waits);
            fed = parted-fed cache b.lines feeder h.1 h.5 openings feeds since inserted synced fed;
            gave = gave-last 0 number gone h.2 k b.last (omega arith) (parted-gave b.lines 0 gone done h.2 h.6 gave) (b.gave number (acts number) (noted number) one);
            keeps = keeping-then cache.config olds old p b.last waiting h.0 done h.2 feeder h.1 b.cells (parted-cells b.lines waiting h.0 h.4 (waiting-apart (suc number) ks waiting waits)) (parted-cells b.lines done h.2 h.6 (gave-apart 0 gone done gave))
                (h.5.same [] fed.stands).keeps keeps;
            first = first;
            lines = b.lines;
            level = subst (AllByRecursion (IsLevel cache.config b.lines)) (sym b.are) (all-append (IsLevel cache.config b.lines) b.rest (b.last ∷ []) (parted-level cache b.lines (waiting ++ feeder ∷ done) b.rest b.parted) (b.level, tt));
            drops = λ shard.
                let mine : List Event = events_of_drops number (held_in_shard cache.config shard (map read_of k)) in
                b.drops lines own_level level shard
                ∙ ((λ i. drops shard i ++ events_of_drops (one.number i) (held_in_shard cache.config shard (map read_of k)))
                ∙ (append_assoc (first shard) (drops_from cache.config shard 0 gone) mine ∙ ap (λ (l : List Event). first shard ++ l) (sym (drops-last cache.config shard 0 number gone k (omega arith)))));
            same = same;
            same_cells = λ entries own rest. let each = sees entries own rest in b.same_cells entries each.0 each.1;
          }

      pub turned : (ps news : List (Place (Known C))) → Turning all (k ∷ ks) ps → FirstGaveBack cache k ps news → Turning all ks news
      turned ps news t gave = go t.waiting t.waits t.keeps (subst (AllByRecursion (IsLevel cache.config t.lines)) t.are t.level) (subst SeeSame t.are t.same_cells) (subst (λ (l : List (Place (Known C))). FirstGaveBack cache k l news) t.are gave)
        where
          go : (waiting : List (Place (Known C))) → AreWaiting cache acts noted (length t.gone) (k ∷ ks) waiting → Keeping cache.config olds old waiting t.feeder t.done → AllByRecursion (IsLevel cache.config t.lines) (waiting ++ t.feeder ∷ t.done) → SeeSame (waiting ++ t.feeder ∷ t.done)
              → FirstGaveBack cache k (waiting ++ t.feeder ∷ t.done) news → Turning all ks news
          go [] waits keeps level sees gave = absurd waits
          go (p ∷ waiting) waits keeps level sees gave = next-then t.gone p waiting t.feeder t.done news t.first t.lines t.parts waits.0 waits.1 t.fed t.gave level.0 level.1 t.drops t.same sees keeps gave

  -- the feeder's party goes behind the callers'
  pub turned-all : (all : List (List KeptBlock)) (ps rest news : List (Place (Known C))) (feeder : Place (Known C)) → Turning all [] ps → feeder ≡ get_or ps 0 feeder → rest ≡ remove ps 0 → news ≡ rest ++ feeder ∷ []
      → HaveGivenBack cache acts noted openings feeds since inserted synced olds old all news
  turned-all all ps rest news feeder t first_is rest_are are = go t.waiting t.waits t.keeps t.are
    where
      whole : t.gone ≡ all
      whole = sym (append-nil t.gone) ∙ sym t.parts

      go : (waiting : List (Place (Known C))) → AreWaiting cache acts noted (length t.gone) [] waiting → Keeping cache.config olds old waiting t.feeder t.done → ps ≡ waiting ++ t.feeder ∷ t.done
          → HaveGivenBack cache acts noted openings feeds since inserted synced olds old all news
      go (p ∷ waiting) waits keeps is = absurd waits
      go [] waits keeps is =
          let all_went : olds ≡ keeps.went = keeps.were ∙ (ap (λ (l : List (Place (Known C))). keeps.went ++ l) (none-keeps cache.config keeps.behind keeps.behind_cells) ∙ append-nil keeps.went) in
          let f : feeder ≡ t.feeder = first_is ∙ ap (λ (l : List (Place (Known C))). get_or l 0 feeder) is in
          let r : rest ≡ t.done = rest_are ∙ ap (λ (l : List (Place (Known C))). remove l 0) is in
          let level = subst (AllByRecursion (IsLevel cache.config t.lines)) is t.level in
          let n : news ≡ t.done ++ t.feeder ∷ [] = are ∙ (λ i. r i ++ f i ∷ []) in
          record {
            callers = t.done;
            feeder = t.feeder;
            are = n;
            gave = subst (λ (l : List (List KeptBlock)). AllGave cache acts noted 0 l t.done) whole t.gave;
            fed = t.fed;
            cells = subst (λ (l : List (Place (Known C))). AllKeepCells cache.config l t.done) (sym all_went) keeps.gone_cells;
            fed_cells = keeps.fed_cells;
            first = t.first;
            lines = t.lines;
            level = subst (AllByRecursion (IsLevel cache.config t.lines)) (sym n) (all-append (IsLevel cache.config t.lines) t.done (t.feeder ∷ []) level.1 (level.0, tt));
            drops = λ shard. t.drops shard ∙ ap (λ (l : List (List KeptBlock)). t.first shard ++ drops_from cache.config shard 0 l) whole;
            same = t.same;
            same_cells = λ entries own others.
                let each = subst (AllByRecursion (SeesEntries cache.config entries)) is (t.same_cells entries own others) in
                subst (AllByRecursion (SeesEntries cache.config entries)) (sym n) (all-append (SeesEntries cache.config entries) t.done (t.feeder ∷ []) each.1 (each.0, tt));
          }
