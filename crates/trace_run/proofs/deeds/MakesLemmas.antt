-- What a call adds to what its party made of each history.
use Rattle.std.proofs.Common.{◌≡◌, ◌≢◌, ℕ, suc, ◌+◌, ◌<◌, ◌≤◌, ◌==◌, false, List, [], ◌∷◌, ◌++◌, length, map, length-append, append-nil, append_assoc, refl, sym, ap, ◌∙◌, subst, arith, ne_eqb}
use Rattle.std.specs.List.{AllByRecursion}
use Rattle.std.proofs.lemmas.List.Elements.{filter-append}
use mathlib.Core.Logic.{dite}
use native.Mathlib.Decide.{ℕ_discrete}
use Rattle.std.proofs.lemmas.List.{length-map, map-append}
use mathlib.Core.Option.{some}
use lib.ListN.{get_elem?}
use Rattle.blk_ptr.specs.declared.key.Key.{Key}
use Rattle.blk_ptr.specs.Hash.{shard_of}
use Rattle.arc_core.specs.Config.{IsConfig}
use Rattle.arc_core.specs.declared.config.Config.{Config}
use Rattle.arc_core.specs.declared.event.Event.{Event}
use Rattle.arc_core.specs.Operations.{number_of}
use Rattle.arc_core.specs.ShardLog.{ShardLog}
use Rattle.turn_table.specs.Places.{Place}
use Rattle.arc_table.specs.declared.view.Known.{Known}
use Rattle.arc_table.specs.declared.view.Line.{Line}
use Rattle.arc_table.specs.declared.view.Line.TheVariants as line
use Rattle.arc_table.specs.declared.view.Mine.{Mine}
use Rattle.arc_table.specs.Both.{Does}
use Rattle.arc_table.specs.Fronts.{StartsWith, front_of}
use Rattle.arc_table.specs.Geometry.{IsCell, shard_turn}
use Rattle.arc_table.specs.Items.{Meanings}
use Rattle.arc_table.specs.scans.Ending.{DoesRoomy}
use Rattle.arc_table.specs.Seen.{AreEntriesSeen, AreOwn, AreSeenBy, HasSeenItsEntries, MadeBy, events_in, turn_of}
use Rattle.arc_table.specs.ShardGiving.{mines_of}
use Rattle.arc_table.specs.TableLaws.{starts_whole, within}
use Rattle.arc_table.proofs.Afterwards.{does_mine}
use Rattle.arc_table.proofs.OwnLemmas.{grows}
use Rattle.arc_table.proofs.PassMines.{mines_of_are}
use Rattle.arc_table.proofs.scans.RoomyAfter.{does_roomy_mine}
use Rattle.arc_table.proofs.SeenLemmas.{events-append, events-map}
use Rattle.trace_run.specs.Deeds.{CellsGrow, KeepsCells, MakesLater, SameMade, with_number}
use Rattle.trace_run.specs.MadeLines.{is_listed, made_from, made_in, made_of}
use Rattle.trace_run.specs.Making.{HasSeenItsEvents}
use Rattle.trace_run.proofs.CellsLeft.{LeavesCells, leaves-grow}
use Rattle.trace_run.proofs.deeds.MadeLemmas.{AreBelow, listed-both, listed-none, made-else, made-grown, made-more}

-- lines that are seen stand in what was seen
pub seen-below : {May : (n number : ℕ) → Type 0} (g : Config) (n : ℕ) (mines : List Mine) (seen : List (List Line)) (shard : ℕ) → AreSeenBy May g n mines seen → AreBelow (turn_of g shard) (length (front_of (turn_of g shard) seen)) mines
seen-below g n mines seen shard own j a at is = let h = own shard j a at is in within (front_of (turn_of g shard) seen) a.place (line.Event h.event) h.there

pub entries-below : (g : Config) (n : ℕ) (mines : List Mine) (seen : List (List Line)) (i : ℕ) → IsCell g i → AreEntriesSeen g n mines seen → AreBelow i (length (front_of i seen)) mines
entries-below g n mines seen i in_range own j a at is = let h = own i j a in_range at is in within (front_of i seen) a.place (line.Entry (n ∷ h.rest)) h.there

-- ---- what a party makes later

pub starts-long : {A : Type 0} (more front : List A) → StartsWith more front → length front ≤ length more
starts-long more front starts = omega (arith, ap length starts.1, length-append front starts.0)

module _ {C : Type 0} (g : Config) where
  pub later-same : (p q : Place (Known C)) → q.own.mine ≡ p.own.mine → MakesLater g p q
  later-same p q same shard place below = ap (is_listed (turn_of g shard) place) same

  pub later-then : (p q r : Place (Known C)) → ((shard : ℕ) → StartsWith (front_of (turn_of g shard) q.own.seen) (front_of (turn_of g shard) p.own.seen)) → MakesLater g p q → MakesLater g q r → MakesLater g p r
  later-then p q r starts a b shard place below =
      let long = starts-long (front_of (turn_of g shard) q.own.seen) (front_of (turn_of g shard) p.own.seen) (starts shard) in
      b shard place (omega (arith, below, long)) ∙ a shard place below

  -- events of a shard stand behind all that was there
  pub made-later : {May : (n number : ℕ) → Type 0} (shard : ℕ) (before : ShardLog) (es : List Event) (p q : Place (Known C)) → MadeBy May g shard before es p q → MakesLater g p q
  made-later shard before es p q made j place below =
      ap (is_listed (turn_of g j) place) made.mine
      ∙ listed-both (turn_of g j) place p.own.mine made.news (listed-none (turn_of g j) place made.news (λ y a at t is.
      let h = made.each y a at in
      let here : place < length (front_of (turn_of g shard) p.own.seen) = subst (λ (turn : ℕ). place < length (front_of turn p.own.seen)) (sym t ∙ h.0) below in
      let long = starts-long (map line.Event before.history) (front_of (turn_of g shard) p.own.seen) made.found.starts in
      let there = h.1 in
      omega (arith, here, long, length-map before.history line.Event, there, is)))

module _ {C : Type 0} (g : Config) where
  -- Of this shard the party made these events more, and of no other and of no cell anything.
  pub record MakesMore (shard : ℕ) (es : List Event) (p q : Place (Known C)) : Type 0 where
    pub here : made_of (turn_of g shard) q ≡ made_of (turn_of g shard) p ++ map line.Event es
    pub others : (j : ℕ) → j ≢ shard → made_of (turn_of g j) q ≡ made_of (turn_of g j) p
    pub cells : (i : ℕ) → IsCell g i → made_of i q ≡ made_of i p
    pub starts : (j : ℕ) → StartsWith (front_of (turn_of g j) q.own.seen) (front_of (turn_of g j) p.own.seen)
    pub older : MakesLater g p q

  module _ {May : (n number : ℕ) → Type 0} (shard : ℕ) (before : ShardLog) (es : List Event) (p q : Place (Known C)) (made : MadeBy May g shard before es p q) (long : length made.news ≡ length es)
      (own : AreSeenBy May g p.number p.own.mine p.own.seen) (fronts : (i : ℕ) → IsCell g i → front_of i q.own.seen ≡ front_of i p.own.seen) where
    new-place : (y : ℕ) (a : Mine) → get_elem? made.news y ≡ some a → (a.turn ≡ turn_of g shard) × (a.place ≡ length (map line.Event before.history) + y)
    new-place y a at = let h = made.each y a at in (h.0, h.1 ∙ ap (λ (n : ℕ). n + y) (sym (length-map before.history line.Event)))

    pub makes-more : MakesMore shard es p q
    makes-more = record {
      here =
          (λ i. made_from (turn_of g shard) 0 (made.mine i) ((made.here ∙ map-append line.Event before.history es) i))
          ∙ made-more (turn_of g shard) p.own.mine made.news (front_of (turn_of g shard) p.own.seen) (map line.Event before.history) (map line.Event es) made.found.starts
          (seen-below g p.number p.own.mine p.own.seen shard own) new-place (long ∙ sym (length-map es line.Event));
      others = λ j differs.
          (λ i. made_from (turn_of g j) 0 (made.mine i) (made.others j differs i))
          ∙ made-else (turn_of g j) (turn_of g shard) p.own.mine made.news (front_of (turn_of g j) p.own.seen) (λ e. differs (omega (arith, e))) (λ y a at. (made.each y a at).0);
      cells = λ i in_range.
          (λ k. made_from i 0 (made.mine k) (fronts i in_range k))
          ∙ made-else i (turn_of g shard) p.own.mine made.news (front_of i p.own.seen) (λ e. let b = in_range in omega (arith, e, b)) (λ y a at. (made.each y a at).0);
      starts = grows g shard before es p q made;
      older = made-later g shard before es p q made;
    }

same-length : {A : Type 0} (mines xs ys whole : List A) → whole ≡ mines ++ xs → whole ≡ mines ++ ys → length xs ≡ length ys
same-length mines xs ys whole a b = omega (arith, ap length a, ap length b, length-append mines xs, length-append mines ys)

module _ {C : Type 0} {May : (n number : ℕ) → Type 0} (m : Meanings C) (g : Config) (valid : IsConfig g) (k : Key) (p q : Place (Known C)) (config : p.own.about.config ≡ g) where
  pub does-long : (es : List Event) (d : Does m g k es p q) (made : MadeBy May g (shard_of g.shards k) d.before es p q) → length made.news ≡ length es
  does-long es d made =
      same-length p.own.mine made.news (mines_of (shard_turn g k) _ _ es) q.own.mine made.mine (does_mine m g valid k es p q d) ∙ (mines_of_are (shard_turn g k) _ _ es).long

  pub roomy-long : (e : Event) (d : DoesRoomy m g k e p q) (made : MadeBy May g (shard_of g.shards k) d.before (d.makes.passes ++ e ∷ []) p q) → length made.news ≡ length (d.makes.passes ++ e ∷ [])
  roomy-long e d made =
      same-length p.own.mine made.news (mines_of (shard_turn g k) _ _ (d.makes.passes ++ e ∷ [])) q.own.mine made.mine (does_roomy_mine m g valid k e p q config d) ∙ (mines_of_are (shard_turn g k) _ _ (d.makes.passes ++ e ∷ [])).long

-- ---- events of the party's own number alone

-- events of another number
none-numbered : (n c : ℕ) (es : List Event) → AllByRecursion (λ e. number_of e ≡ n) es → n ≢ c → with_number c es ≡ []
none-numbered n c [] all differs = refl
none-numbered n c (e ∷ es) all differs =
    let other : (number_of e == c) ≡ false = ne_eqb (number_of e) c (λ same. differs (sym all.0 ∙ same)) in
    rw other (none-numbered n c es all.1 differs)

-- whose events these are
pub numbers-of : (b n : ℕ) (es : List Event) → AreOwn b n es → AllByRecursion (λ e. number_of e ≡ n) es
numbers-of b n [] own = tt
numbers-of b n (e ∷ es) own = ((own 0 e refl).0, numbers-of b n es (λ z x at. later z x at))
  where
    later : AreOwn b n es
    later z x at = own (suc z) x at

module _ {C : Type 0} (g : Config) where
  -- what was made of a shard more
  pub in-more : (shard : ℕ) (es : List Event) (p q : Place (Known C)) → made_of (turn_of g shard) q ≡ made_of (turn_of g shard) p ++ map line.Event es → made_in g shard q ≡ made_in g shard p ++ es
  in-more shard es p q more = ap events_in more ∙ (events-append (made_of (turn_of g shard) p) (map line.Event es) ∙ ap (λ (l : List Event). made_in g shard p ++ l) (events-map es))

  pub own-same : (shard : ℕ) (es : List Event) (p q : Place (Known C)) → q.number ≡ p.number → AllByRecursion (λ e. number_of e ≡ p.number) es → MakesMore g shard es p q → LeavesCells g p q → SameMade g p q
  own-same shard es p q number mine more left = record {
    number = number;
    cells = λ j c other. dite (ℕ_discrete j shard)
        (λ is. subst (λ (s : ℕ). with_number c (made_in g s q) ≡ with_number c (made_in g s p)) (sym is)
        (ap (with_number c) (in-more shard es p q more.here)
        ∙ (filter-append _ (made_in g shard p) es
        ∙ (ap (λ (l : List Event). with_number c (made_in g shard p) ++ l) (none-numbered p.number c es mine (λ same. other (sym same))) ∙ append-nil (with_number c (made_in g shard p))))))
        (λ differs. ap (λ (l : List Line). with_number c (events_in l)) (more.others j differs));
    entries = more.cells;
    keeps = record { about = left.stays.about; fronts = leaves-grow g p q left; shards = more.starts; older = more.older };
  }

  pub keeps-none : (p : Place (Known C)) → KeepsCells g p p
  keeps-none p = record { about = refl; fronts = λ i in_range. starts_whole (front_of i p.own.seen); shards = λ shard. starts_whole (front_of (turn_of g shard) p.own.seen); older = later-same g p p refl }

  pub keeps-then : (p q r : Place (Known C)) → KeepsCells g p q → KeepsCells g q r → KeepsCells g p r
  keeps-then p q r a b = record {
    about = b.about ∙ a.about;
    fronts = λ i in_range.
        let x = a.fronts i in_range in
        let y = b.fronts i in_range in
        (x.0 ++ y.0, y.1 ∙ (ap (λ (l : List Line). l ++ y.0) x.1 ∙ append_assoc (front_of i p.own.seen) x.0 y.0));
    shards = λ shard.
        let x = a.shards shard in
        let y = b.shards shard in
        (x.0 ++ y.0, y.1 ∙ (ap (λ (l : List Line). l ++ y.0) x.1 ∙ append_assoc (front_of (turn_of g shard) p.own.seen) x.0 y.0));
    older = later-then g p q r a.shards a.older b.older;
  }

  pub same-none : (p : Place (Known C)) → SameMade g p p
  same-none p = record { number = refl; cells = λ shard c other. refl; entries = λ i in_range. refl; keeps = keeps-none p }

  pub same-then : (p q r : Place (Known C)) → SameMade g p q → SameMade g q r → SameMade g p r
  same-then p q r a b = record {
    number = b.number ∙ a.number;
    cells = λ shard c other. b.cells shard c (λ is. other (is ∙ a.number)) ∙ a.cells shard c other;
    entries = λ i in_range. b.entries i in_range ∙ a.entries i in_range;
    keeps = keeps-then p q r a.keeps b.keeps;
  }

  -- a party that has seen more of each history, and made nothing more
  pub grown-same : (p q : Place (Known C)) → q.number ≡ p.number → q.own.about ≡ p.own.about → q.own.mine ≡ p.own.mine → ((i : ℕ) → StartsWith (front_of (turn_of g i) q.own.seen) (front_of (turn_of g i) p.own.seen))
      → CellsGrow g p.own.seen q.own.seen → HasSeenItsEvents g p → HasSeenItsEntries g p → SameMade g p q
  grown-same p q number about mine starts grow events entries = record {
    number = number;
    keeps = record { about = about; fronts = grow; shards = starts; older = later-same g p q mine };
    cells = λ shard c other. ap (λ (l : List Line). with_number c (events_in l))
        ((λ k. made_from (turn_of g shard) 0 (mine k) (front_of (turn_of g shard) q.own.seen))
        ∙ made-grown (turn_of g shard) p.own.mine (front_of (turn_of g shard) p.own.seen) (front_of (turn_of g shard) q.own.seen) (starts shard) (seen-below g p.number p.own.mine p.own.seen shard events.own));
    entries = λ i in_range.
        (λ k. made_from i 0 (mine k) (front_of i q.own.seen))
        ∙ made-grown i p.own.mine (front_of i p.own.seen) (front_of i q.own.seen) (grow i in_range) (entries-below g p.number p.own.mine p.own.seen i in_range entries.own);
  }
