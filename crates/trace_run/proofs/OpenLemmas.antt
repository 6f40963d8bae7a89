-- What a party of a new cache is, and one that others have joined before anything was done.
use Rattle.std.proofs.Common.{◌≡◌, ◌≢◌, ◌⊎◌, ℕ, zero, suc, ◌+◌, ◌<◌, List, [], ◌∷◌, ◌++◌, length, get_or, refl, sym, ap, ◌∙◌, subst, inl, inr, arith}
use Rattle.std.specs.List.{remove}
use Rattle.std.specs.declared.alloc.Global.{Global}
use Rattle.std.specs.declared.boxed.Box.{Box}
use mathlib.Core.Logic.{dite}
use mathlib.Core.Option.{some, some-injective, some-ne-none}
use native.Mathlib.Decide.{ℕ_discrete}
use lib.ListN.{get_elem?}
use Rattle.arc_core.specs.Config.{IsConfig}
use Rattle.arc_core.specs.declared.config.Config.{Config}
use Rattle.arc_core.specs.Operations.{moments, own_moments}
use Rattle.dbuf_cells.specs.declared.kept.Kept.{Kept}
use Rattle.dbuf_state.specs.CellLog.{CellLog}
use Rattle.turn_table.specs.declared.standing.Kept.{Kept as Joined}
use Rattle.turn_table.specs.Places.{Apart, HasNumber, IsIn, Place, kept, met, newcomer, newcomers}
use Rattle.arc_table.specs.declared.about.About.{About}
use Rattle.arc_table.specs.declared.view.Known.{Known}
use Rattle.arc_table.specs.declared.view.Ledger.{Ledger}
use Rattle.arc_table.specs.declared.view.Line.{Line}
use Rattle.arc_table.specs.Cache.{Cache, all_newcomers}
use Rattle.arc_table.specs.Fronts.{StartsWith, front_of, seen_by_both}
use Rattle.arc_table.specs.Geometry.{IsCell, parties_of}
use Rattle.arc_table.proofs.TableLaws.{there}
use Rattle.arc_table.specs.Views.{after_learned, newcomer as known}
use Rattle.arc_table.specs.Telling.{opening_of}
use Rattle.arc_table.specs.TableLaws.{starts_whole}
use Rattle.trace_run.specs.KeptBlocks.{AllQuiet, Stands}
use Rattle.trace_run.proofs.CellsLeft.{all-entries-as, entries-as}
use Rattle.trace_run.specs.Opened.{AreOpened, HasJoined, IsNew, IsOpened}
use Rattle.trace_run.specs.Openings.{AllKnow, Knows}
use Rattle.arc_table.specs.Seen.{AllEntriesSeen, AreEntriesSeen, AreSeen, AreSeenBy, HasAll, IsNumberOf, IsNumberOrCell, events_in, seen_of, turn_of}
use Rattle.trace_run.specs.Deeds.{HasToldAll, with_number}
use Rattle.trace_run.specs.MadeLines.{made_from}
use Rattle.trace_run.specs.Making.{AllEventsSeen, AreEventsSeen, HasSeenItsEvents, MadeItsOwn}
use Rattle.trace_run.proofs.deeds.DeedLemmas.{told-still}

-- ---- a party at the start

no-mine : (May : (n number : ℕ) → Type 0) (g : Config) (n : ℕ) (seen : List (List Line)) → AreSeenBy May g n [] seen
no-mine May g n seen i j a at is = absurd (some-ne-none a (sym at))

no-entries : (g : Config) (n : ℕ) (seen : List (List Line)) → AreEntriesSeen g n [] seen
no-entries g n seen i j a in_range at is = absurd (some-ne-none a (sym at))

module _ (C : Type 0) (cache : Cache) (about : About) (is : about.config ≡ cache.config) (row : cache.row.parties ≡ parties_of cache.config) (valid : IsConfig cache.config) where
  abbrev one : ℕ → Place (Known C)
  one n = newcomer cache.row.table (parties_of cache.config) n (known about n)

  pub newcomer-stands : (n : ℕ) → Stands cache (one n) []
  newcomer-stands n = record {
    valid = valid;
    of = record { row = (refl, sym row); config = is };
    free = refl;
    cells = record { own = no-entries cache.config n []; joined = tt };
    idle = refl;
    unclaimed = λ i. refl;
    seen = record { own = no-mine (IsNumberOrCell cache.config) cache.config n []; joined = tt };
    apart = tt;
    joined = tt;
    owned = tt;
    listed = λ x. refl;
  }

  pub newcomer-told : (n : ℕ) → HasToldAll cache.config [] [] (one n)
  newcomer-told n = record { acts = λ shard. refl; cells = λ shard c other. refl; kinds = λ shard c other. tt; entries = λ i in_range. refl }

  newcomer-only : (n : ℕ) → MadeItsOwn cache.config (one n)
  newcomer-only n = record { events = no-mine IsNumberOf cache.config n []; entries = λ j a at in_range. absurd (some-ne-none a (sym at)) }

  pub newcomer-new : (n : ℕ) → IsOpened cache n (one n)
  newcomer-new n = record {
    number = refl;
    joined = refl;
    new = record { parties = refl; begun = refl; seen = refl; stands = newcomer-stands n; told = newcomer-told n; only = newcomer-only n };
  }

  newcomers-count : (n k : ℕ) → length (newcomers cache.row.table (parties_of cache.config) (known {C = C} about) n k) ≡ k
  newcomers-count n zero = refl
  newcomers-count n (suc k) = ap suc (newcomers-count (suc n) k)

  newcomer-at : (n k j : ℕ) (p : Place (Known C)) → get_elem? (newcomers cache.row.table (parties_of cache.config) (known about) n k) j ≡ some p → p ≡ one (n + j)
  newcomer-at n zero j p at = absurd (some-ne-none p (sym at))
  newcomer-at n (suc k) zero p at = sym (some-injective (one n) p at) ∙ ap one (omega arith)
  newcomer-at n (suc k) (suc j) p at = newcomer-at (suc n) k j p at ∙ ap one (omega arith)

  newcomers-opened : AreOpened cache (all_newcomers {C = C} cache about)
  newcomers-opened = record {
    count = newcomers-count 0 (parties_of cache.config);
    each = λ n p at. subst (IsOpened cache n) (sym (newcomer-at 0 (parties_of cache.config) n p at ∙ ap one (omega arith))) (newcomer-new n);
  }

-- the parties of a cache that was given so
pub all-opened : {C : Type 0} (given cache : Cache) (about : About) (ps : List (Place (Known C))) → ps ≡ all_newcomers given about → cache ≡ given → about.config ≡ cache.config
    → cache.row.parties ≡ parties_of cache.config → IsConfig cache.config → AreOpened cache ps
all-opened {C} given cache about ps all same is row valid =
    subst (AreOpened cache) (sym (all ∙ ap (λ (x : Cache). all_newcomers x about) (sym same))) (newcomers-opened C cache about is row valid)

-- ---- parties that are taken out of the row

at-place : {A : Type 0} (l : List A) (n : ℕ) (a d : A) → get_elem? l n ≡ some a → get_or l n d ≡ a
at-place [] n a d at = absurd (some-ne-none a (sym at))
at-place (x ∷ xs) zero a d at = some-injective x a at
at-place (x ∷ xs) (suc n) a d at = at-place xs n a d at

pub front-stays : {A : Type 0} (l : List A) (d : A) → 1 < length l → get_or (remove l 1) 0 d ≡ get_or l 0 d
front-stays [] d long = absurd (omega arith)
front-stays (x ∷ xs) d long = refl

pub opened-at : {C : Type 0} (cache : Cache) (ps : List (Place (Known C))) → AreOpened cache ps → (n : ℕ) (p : Place (Known C)) → n < length ps → p ≡ get_or ps n p → IsOpened cache n p
opened-at cache ps opened n p inside is =
    let h = there ps n inside in
    subst (IsOpened cache n) (sym (is ∙ at-place ps n h.0 p h.1)) (opened.each n h.0 h.1)

-- what all know one of them knows
pub known-at : {C : Type 0} (openings : List (List ℕ)) (ps : List (Place (Known C))) (n : ℕ) (p : Place (Known C)) → AllKnow openings ps → n < length ps → p ≡ get_or ps n p → Knows openings p
known-at openings [] n p all inside is = absurd (omega (arith, inside))
known-at openings (x ∷ xs) zero p all inside is = subst (Knows openings) (sym is) all.0
known-at openings (x ∷ xs) (suc n) p all inside is = known-at openings xs n p all.1 (omega (arith, inside)) is

pub last-knows : {C : Type 0} (openings : List (List ℕ)) (ps : List (Place (Known C))) (p : Place (Known C)) → AllKnow openings (ps ++ p ∷ []) → Knows openings p
last-knows openings [] p all = all.0
last-knows openings (x ∷ xs) p all = last-knows openings xs p all.1

-- the first and the second of two parties, where the second was taken out first
pub two-opened : {C : Type 0} (cache : Cache) (ps rest : List (Place (Known C))) (p q : Place (Known C)) → cache.config.callers ≡ 1 → AreOpened cache ps → q ≡ get_or ps 1 q → rest ≡ remove ps 1 → p ≡ get_or rest 0 p
    → IsOpened cache 0 p × IsOpened cache 1 q
two-opened {C} cache ps rest p q one opened second left first =
    let count = opened.count in
    let long : 1 < length ps = omega arith in
    (opened-at cache ps opened 0 p (omega arith) (first ∙ (ap (λ (l : List (Place (Known C))). get_or l 0 p) left ∙ front-stays ps p long)), opened-at cache ps opened 1 q long second)

-- ---- one party joins another before anything was done

module _ {C : Type 0} (cache : Cache) where
  pub first-joined : (p : Place (Known C)) → IsOpened cache 0 p → HasJoined cache 1 p
  first-joined p opened = record {
    number = opened.number;
    has = λ n below. inl (opened.number ∙ omega arith);
    low = λ n has. below n has;
    new = opened.new;
  }
    where
      below : (n : ℕ) → HasNumber n p → n < 1
      below n (inl own) = let zero_is = opened.number in omega arith
      below n (inr among) = absurd (subst (IsIn n) opened.joined among)

  -- a party of a number that the first does not have joins it
  module _ (count : ℕ) (p q : Place (Known C)) (first : HasJoined cache count p) (next : IsOpened cache count q) where
    abbrev then : Place (Known C)
    then = met p q (after_learned p.own q.own)

    seen-none : then.own.seen ≡ []
    seen-none = ap (λ (x : List (List Line) × List (List Line)). seen_by_both x.0 x.1) (λ i. (first.new.seen i, next.new.seen i))

    joined-is : then.joined ≡ kept q.number q.own 0 ∷ p.joined
    joined-is = ap (λ (ks : List (Joined (Known C))). (kept q.number q.own (length ks) ∷ ks) ++ p.joined) next.joined

    has-then : (n : ℕ) → HasNumber n p ⊎ (n ≡ count) → HasNumber n then
    has-then n (inl (inl own)) = inl own
    has-then n (inl (inr among)) = inr (subst (IsIn n) (sym joined-is) (inr among))
    has-then n (inr is) = inr (subst (IsIn n) (sym joined-is) (inl (next.number ∙ sym is)))

    low-then : (n : ℕ) → HasNumber n then → n < suc count
    low-then n (inl own) = let h = first.low n (inl own) in omega arith
    low-then n (inr among) = go (subst (IsIn n) joined-is among)
      where
        go : IsIn n (kept q.number q.own 0 ∷ p.joined) → n < suc count
        go (inl is) = let number = next.number in omega arith
        go (inr rest) = let h = first.low n (inr rest) in omega arith

    some-count : 0 < count
    some-count = first.low 0 (inl first.number)

    apart-then : Apart then.number then.joined
    apart-then = subst (Apart p.number) (sym joined-is)
        ((λ (same : q.number ≡ p.number). let a = next.number in let b = first.number in let c = some-count in omega arith), first.new.stands.apart)

    quiet-then : AllQuiet then.joined
    quiet-then = subst AllQuiet (sym joined-is) (ap (λ (l : Ledger). l.readings) next.new.begun, next.new.stands.unclaimed, first.new.stands.joined)

    same-seen : q.own.seen ≡ then.own.seen
    same-seen = next.new.seen ∙ sym seen-none

    own-seen : HasSeenItsEvents cache.config then
    own-seen = record {
      own = subst (AreEventsSeen cache.config p.number p.own.mine) (first.new.seen ∙ sym seen-none) first.new.stands.seen.own;
      joined = subst (λ (ks : List (Joined (Known C))). AllEventsSeen cache.config ks then.own.seen) (sym joined-is) (
        subst (AreEventsSeen cache.config q.number q.own.mine) same-seen next.new.stands.seen.own,
        subst (AllEventsSeen cache.config p.joined) (first.new.seen ∙ sym seen-none) first.new.stands.seen.joined,
      );
    }

    told-then : HasToldAll cache.config [] [] then
    told-then = told-still cache.config [] [] p then (λ shard. ap (λ (s : List (List Line)). own_moments p.number (moments (opening_of cache.config) (events_in (front_of (turn_of cache.config shard) s)))) seen-none)
        record {
          number = refl;
          cells = λ shard c other. ap (λ (s : List (List Line)). with_number c (events_in (made_from (turn_of cache.config shard) 0 p.own.mine (front_of (turn_of cache.config shard) s)))) (seen-none ∙ sym first.new.seen);
          entries = λ i in_range. ap (λ (s : List (List Line)). made_from i 0 p.own.mine (front_of i s)) (seen-none ∙ sym first.new.seen);
          keeps = record {
            about = refl;
            fronts = λ i in_range. subst (λ (s : List (List Line)). StartsWith (front_of i s) (front_of i p.own.seen)) (sym (seen-none ∙ sym first.new.seen)) (starts_whole (front_of i p.own.seen));
            shards = λ shard. subst (λ (s : List (List Line)). StartsWith (front_of (turn_of cache.config shard) s) (front_of (turn_of cache.config shard) p.own.seen)) (sym (seen-none ∙ sym first.new.seen)) (starts_whole (front_of (turn_of cache.config shard) p.own.seen));
            older = λ shard place below. refl;
          };
        }
        first.new.told

    only-then : MadeItsOwn cache.config then
    only-then = record { events = subst (AreSeen cache.config p.number p.own.mine) (first.new.seen ∙ sym seen-none) first.new.only.events; entries = first.new.only.entries }

    same-first : (i : ℕ) → IsCell cache.config i → front_of i then.own.seen ≡ front_of i p.own.seen
    same-first i in_range = ap (front_of i) (seen-none ∙ sym first.new.seen)

    stands-then : Stands cache then []
    stands-then = record {
      valid = first.new.stands.valid;
      of = record { row = first.new.stands.of.row; config = first.new.stands.of.config };
      free = first.new.stands.free;
      cells = record {
        own = entries-as cache.config p.number p.own.mine p.own.seen then.own.seen same-first first.new.stands.cells.own;
        joined = subst (λ (ks : List (Joined (Known C))). AllEntriesSeen cache.config ks then.own.seen) (sym joined-is) (
          entries-as cache.config q.number q.own.mine q.own.seen then.own.seen (λ i in_range. ap (front_of i) (sym same-seen)) next.new.stands.cells.own,
          all-entries-as cache.config p.joined p.own.seen then.own.seen same-first first.new.stands.cells.joined,
        );
      };
      idle = first.new.stands.idle;
      unclaimed = first.new.stands.unclaimed;
      seen = own-seen;
      apart = apart-then;
      joined = quiet-then;
      owned = tt;
      listed = first.new.stands.listed;
    }

    pub next-joined : HasJoined cache (suc count) then
    next-joined = record {
      number = first.number;
      has = λ n below. has-then n (which n below);
      low = low-then;
      new = record { parties = first.new.parties; begun = first.new.begun; seen = seen-none; stands = stands-then; told = told-then; only = only-then };
    }
      where
        less : (n c : ℕ) → n < suc c → n ≢ c → n < c
        less n c below differs = omega arith

        which : (n : ℕ) → n < suc count → HasNumber n p ⊎ (n ≡ count)
        which n below = dite (ℕ_discrete n count) (λ same. inr same) (λ differs. inl (first.has n (less n count below differs)))

-- a party that all others have joined has every number
module _ {C : Type 0} (cache : Cache) (p : Place (Known C)) where
  pub joined-all : HasJoined cache (parties_of cache.config) p → HasAll p
  joined-all joined n below = joined.has n (subst (λ (k : ℕ). n < k) joined.new.parties below)

  -- a party that has seen nothing has seen no event of any shard
  pub new-seen : IsNew cache p → (shard : ℕ) → seen_of cache.config shard p ≡ []
  new-seen new shard = ap (λ (s : List (List Line)). events_in (front_of (turn_of cache.config shard) s)) new.seen

-- ---- cells

-- a cell on the heap
abbrev pub HeapCell : Type 0
HeapCell = Box (CellLog Kept) Global

-- the parties of a new cache know how its cells began
pub all-known : {C : Type 0} (given : Cache) (about : About) (openings : List (List ℕ)) (ps : List (Place (Known C))) → ps ≡ all_newcomers given about → about.openings ≡ openings → AllKnow openings ps
all-known {C} given about openings ps all is = subst (AllKnow openings) (sym all) (go 0 (parties_of given.config))
  where
    go : (n k : ℕ) → AllKnow openings (newcomers given.row.table (parties_of given.config) (known {C = C} about) n k)
    go n zero = tt
    go n (suc k) = (is, go (suc n) k)
