-- What a party did once the block's bytes are there that its line asks for: nothing, or an access whose hold it is about to hand to the cell; or the access was refused.
use Rattle.std.proofs.Common.{◌≡◌, ◌≢◌, ℕ, ◌<◌, ◌==◌, if◌then◌else◌, List, [], ◌∷◌, ◌++◌, map, Some, Result, Ok, Err, refl, sym, ap, ◌∙◌, subst, inl, inr, append-nil, append_assoc, eq-eqb, ne_eqb}
use Rattle.std.specs.List.{AllByRecursion}
use Rattle.std.proofs.lemmas.List.{map-append}
use mathlib.Core.Logic.{dite}
use native.Mathlib.Decide.{ℕ_discrete}
use Rattle.blk_ptr.specs.Hash.{shard_of}
use Rattle.blk_ptr.specs.declared.key.Key.{Key}
use Rattle.blk_ptr.specs.declared.ptr.Ptr.{Ptr}
use Rattle.blk_ptr.proofs.Keys.{key_eq-same}
use Rattle.vdev_io.specs.declared.device.CacheDev.{Ghosts as DeviceGhosts}
use Rattle.vdev_io.specs.declared.pool.Pool.{Ghosts as PoolGhosts}
use Rattle.arc_core.specs.Config.{IsConfig}
use Rattle.arc_core.specs.declared.config.Config.{Config}
use Rattle.arc_core.specs.declared.event.Event.{Event}
use Rattle.arc_core.specs.declared.event.Event.TheVariants.{Hand}
use Rattle.arc_core.specs.declared.served.ReadFault.{ReadFault}
use Rattle.arc_core.specs.declared.served.ReadFault.TheVariants as fault
use Rattle.arc_core.specs.declared.served.Served.{Served}
use Rattle.arc_core.specs.declared.served.Served.TheVariants as served
use Rattle.arc_core.specs.Operations.{Act, Fails, IsHonest, IsServed, Loads, Moment, StandsFor, Tell, act_key, actor_of, acts_in, moments, own_events, own_moments}
use Rattle.arc_core.specs.Replay.{replay}
use Rattle.arc_table.specs.declared.hold.Hold.{Hold}
use Rattle.arc_table.specs.declared.read.Read.{Read}
use Rattle.arc_table.specs.declared.read.Read.TheVariants as gave
use Rattle.arc_table.specs.Cells.{SeesAll}
use Rattle.arc_table.specs.Geometry.{parties_of}
use Rattle.arc_table.specs.Reading.{AnswersRead, Outside}
use Rattle.arc_table.specs.Seen.{HasAll, HasSeenItsEntries, seen_of}
use Rattle.arc_table.specs.Telling.{opening_of}
use Rattle.arc_table.specs.Told.{IsTold}
use Rattle.arc_table.proofs.Tells.{Tell-append, Tell-one}
use Rattle.dbuf_cells.specs.Bringing.{handed}
use Rattle.dbuf_cells.specs.Turns.{PartyPlace, dbuf_meanings}
use Rattle.trace_run.specs.dbufs.DbufTurns.{CellsDone, held_through}
use Rattle.trace_run.specs.Deeds.{SameMade, events_there, with_number}
use Rattle.trace_run.specs.MadeLines.{made_in, made_of}
use Rattle.trace_run.specs.dbufs.ObjectLines.{CameFrom, brought_there, events_of_bringing, events_of_hand}
use Rattle.trace_run.specs.dbufs.Objects.{Brought, Nothing, Loaded, Refused, acts_of_bringing}
use Rattle.trace_run.specs.one_caller.Access as access
use Rattle.trace_run.specs.one_caller.Access.{Access, AsksPool, MayComeFrom, access_of, events_of_answered, events_of_refused, held_by_access}
use Rattle.trace_run.specs.Reads.{access_now, now_of}
use Rattle.trace_run.proofs.CellsLeft.{leaves-seen}
use Rattle.trace_run.proofs.MoveLemmas.{Moves}
use Rattle.trace_run.proofs.ReadLemmas.{AddsFailed, AddsRead, AddsServed, read-adds}
use Rattle.trace_run.proofs.ReadStands.{ListsAnswer, read-lists}
use Rattle.trace_run.proofs.deeds.CellFound.{LeavesSeen, seen-done, seen-left, seen-then}
use Rattle.trace_run.proofs.deeds.DeedLemmas.{acts-append}
use Rattle.trace_run.proofs.deeds.MakesLemmas.{in-more, same-then}
use Rattle.trace_run.proofs.deeds.ReadSame.{OnlyOwn, read-only}

-- what the party makes in the next turn of the cell, so that its own events are those of its acts
pub record MakesOwn (g : Config) (hands : List Event) (q r : PartyPlace) (n shard : ℕ) : Type 0 where
  pub ms : List Moment
  pub more : own_moments n (moments (opening_of g) (seen_of g shard r)) ≡ own_moments n (moments (opening_of g) (seen_of g shard q)) ++ ms
  pub events : map (λ (m : Moment). m.event) ms ≡ own_events n (events_there g shard hands)

-- The party did what it did for the block that was brought for its line; what it hands to the cell of the number c it will hand in the cell's next turn.
pub record BringDone (g : Config) (t c : ℕ) (brought : Brought) (hands : List Event) (p q : PartyPlace) : Type 0 where
  pub seen : LeavesSeen g p q
  pub sees : SeesAll g q
  pub same : SameMade g p q
  pub holds : held_through p.number hands q.own.ledger.holds ≡ p.own.ledger.holds
  pub readings : q.own.ledger.readings ≡ p.own.ledger.readings
  pub source : HasAll p → CameFrom g p brought
  pub alone : HasAll p → (shard : ℕ) → seen_of g shard q ++ events_there g shard hands
      ≡ seen_of g shard p ++ brought_there g.shards shard brought (events_of_bringing (now_of g shard p) p.number t c brought)
  pub told : (did : List Act) (r : PartyPlace) → r.number ≡ p.number → ((shard : ℕ) → MakesOwn g hands q r p.number shard) → IsTold g did p → IsTold g (did ++ acts_of_bringing p.number t c brought) r

-- ---- nothing

no-moments : (ms : List Moment) → map (λ (m : Moment). m.event) ms ≡ [] → ms ≡ []
no-moments [] none = refl
no-moments (m ∷ ms) none = absurd (never none)
  where
    never : m.event ∷ map (λ (x : Moment). x.event) ms ≡ [] → ⊥
    never is = cc

module _ (g : Config) (es : List Event) (p q : PartyPlace) (none : es ≡ []) (d : CellsDone g [] es p q) where
  made-same : SameMade g p q
  made-same = record {
    number = d.number;
    cells = λ shard c other. ap (with_number c) (in-more g shard (events_there g shard es) p q (d.made shard)
        ∙ (ap (λ (l : List Event). made_in g shard p ++ events_there g shard l) none ∙ append-nil (made_in g shard p)));
    entries = λ i in_range. d.entries i in_range ∙ append-nil (made_of i p);
    keeps = record { about = d.about; fronts = d.cells; shards = d.starts; older = d.older };
  }

  seen-same : HasAll p → (shard : ℕ) → seen_of g shard q ≡ seen_of g shard p
  seen-same all shard = d.alone all shard ∙ (ap (λ (l : List Event). seen_of g shard p ++ events_there g shard l) none ∙ append-nil (seen_of g shard p))

  own-same : (shard : ℕ) → own_moments p.number (moments (opening_of g) (seen_of g shard q)) ≡ own_moments p.number (moments (opening_of g) (seen_of g shard p))
  own-same shard =
      let u = d.own shard in
      let empty : u.0 ≡ [] = no-moments u.0 (u.2 ∙ ap (λ (l : List Event). own_events p.number (events_there g shard l)) none) in
      u.1 ∙ (ap (λ (l : List Moment). own_moments p.number (moments (opening_of g) (seen_of g shard p)) ++ l) empty ∙ append-nil (own_moments p.number (moments (opening_of g) (seen_of g shard p))))

came-same : (g : Config) (m p : PartyPlace) → ((shard : ℕ) → seen_of g shard m ≡ seen_of g shard p) → (brought : Brought) → CameFrom g m brought → CameFrom g p brought
came-same g m p same Nothing came = tt
came-same g m p same (Loaded ptr from) came = subst (λ (l : List Event). MayComeFrom (access_of (replay (opening_of g) l) ptr) from) (same (shard_of g.shards ptr.key)) came
came-same g m p same (Refused ptr) came = subst (λ (l : List Event). AsksPool (access_of (replay (opening_of g) l) ptr)) (same (shard_of g.shards ptr.key)) came

module _ (g : Config) (t c : ℕ) where
  -- calls that did nothing before
  pub bring-then : (brought : Brought) (hands : List Event) (p m q : PartyPlace) → CellsDone g [] [] p m → BringDone g t c brought hands m q → BringDone g t c brought hands p q
  bring-then brought hands p m q d b = record {
    seen = seen-then g p m q (seen-done g [] p m d) b.seen;
    sees = b.sees;
    same = same-then g p m q (made-same g [] p m refl d) b.same;
    holds = (λ i. held_through (sym d.number i) hands q.own.ledger.holds) ∙ (b.holds ∙ d.holds);
    readings = b.readings ∙ d.readings;
    source = λ all. came-same g m p (seen-same g [] p m refl d all) brought (b.source (d.all all));
    alone = λ all shard. b.alone (d.all all) shard
        ∙ (λ i. seen-same g [] p m refl d all shard i ++ brought_there g.shards shard brought (events_of_bringing (replay (opening_of g) (seen-same g [] p m refl d all shard i)) (d.number i) t c brought));
    told = λ did r number more told.
        subst (λ (n : ℕ). IsTold g (did ++ acts_of_bringing n t c brought) r) d.number
        (b.told did r (number ∙ sym d.number) (λ shard. subst (λ (n : ℕ). MakesOwn g hands q r n shard) (sym d.number) (more shard))
        (λ shard. subst (λ (x : ℕ). Tell (acts_in (shard_of g.shards) shard x did) (own_moments x (moments (opening_of g) (seen_of g shard m)))) (sym d.number)
        (subst (λ (l : List Moment). Tell (acts_in (shard_of g.shards) shard p.number did) l) (sym (own-same g [] p m refl d shard)) (told shard))));
  }

  -- the bytes were there
  pub nothing-brought : (p q : PartyPlace) → CellsDone g [] [] p q → BringDone g t c Nothing [] p q
  nothing-brought p q d = record {
    seen = seen-done g [] p q d;
    sees = d.sees;
    same = made-same g [] p q refl d;
    holds = d.holds;
    readings = d.readings;
    source = λ all. tt;
    alone = λ all shard. ap (λ (l : List Event). l ++ []) (seen-same g [] p q refl d all shard);
    told = λ did r number more told shard.
        let w = more shard in
        let empty : w.ms ≡ [] = no-moments w.ms w.events in
        subst (λ (n : ℕ). Tell (acts_in (shard_of g.shards) shard n (did ++ [])) (own_moments n (moments (opening_of g) (seen_of g shard r)))) (sym number)
        (subst (λ (x : List Act × List Moment). Tell x.0 x.1)
        (λ i. (
          acts_in (shard_of g.shards) shard p.number (sym (append-nil did) i),
          (sym (w.more ∙ (ap (λ (l : List Moment). own_moments p.number (moments (opening_of g) (seen_of g shard q)) ++ l) empty
              ∙ (append-nil (own_moments p.number (moments (opening_of g) (seen_of g shard q))) ∙ own-same g [] p q refl d shard)))) i,
        ))
        (told shard));
  }

-- ---- an access

-- what goes to the cell of the number c of an access that was served from here
abbrev pub hands_of : (n c : ℕ) → Ptr → Served → List Event
hands_of n c ptr served.Past = []
hands_of n c ptr served.Hit = Hand n ptr.key c ∷ []
hands_of n c ptr served.Pool = Hand n ptr.key c ∷ []
hands_of n c ptr served.L2 = Hand n ptr.key c ∷ []

-- it is what a party that is alone hands
hand-of : (n c : ℕ) (ptr : Ptr) (a : Access) (from : Served) → MayComeFrom a from → events_of_hand n c (held_by_access ptr a) ≡ hands_of n c ptr from
hand-of n c ptr access.Hit from is = ap (hands_of n c ptr) (sym is)
hand-of n c ptr (access.Past kept) from is = ap (hands_of n c ptr) (sym is)
hand-of n c ptr access.Miss from (inl is) = ap (hands_of n c ptr) (sym is)
hand-of n c ptr access.Miss from (inr is) = ap (hands_of n c ptr) (sym is)

-- the events of a load are those of its access, and then the hand
load-events : (n t c : ℕ) (ptr : Ptr) (from : Served) (es fs : List Event) → IsServed n t ptr from [] es → fs ≡ hands_of n c ptr from → IsServed n t ptr from (Hand n ptr.key c ∷ []) (es ++ fs)
load-events n t c ptr served.Hit es fs a b = λ i. a i ++ b i
load-events n t c ptr served.Pool es fs a b = λ i. a i ++ b i
load-events n t c ptr served.L2 es fs a b = λ i. a i ++ b i
load-events n t c ptr served.Past es fs a b = (a.0, λ i. a.1 i ++ b i)

-- a hand is fair to whatever was asked for
one-honest : (d : Ptr) (n c : ℕ) (k : Key) (ms : List Moment) → map (λ (m : Moment). m.event) ms ≡ Hand n k c ∷ [] → AllByRecursion (IsHonest (Some d.digest)) ms
one-honest d n c k [] is = absurd (never is)
  where
    never : [] ≡ Hand n k c ∷ [] → ⊥
    never e = cc
one-honest d n c k (m ∷ ms) is =
    let first : m.event ≡ Hand n k c = cc in
    let rest : map (λ (x : Moment). x.event) ms ≡ [] = cc in
    (subst (λ (e : Event). IsHonest (Some d.digest) (record { before = m.before; event = e })) (sym first) tt, subst (AllByRecursion (IsHonest (Some d.digest))) (sym (no-moments ms rest)) tt)

hands-honest : (d : Ptr) (n c : ℕ) (from : Served) (ms : List Moment) → map (λ (m : Moment). m.event) ms ≡ hands_of n c d from → AllByRecursion (IsHonest (Some d.digest)) ms
hands-honest d n c served.Hit ms is = one-honest d n c d.key ms is
hands-honest d n c served.Pool ms is = one-honest d n c d.key ms is
hands-honest d n c served.L2 ms is = one-honest d n c d.key ms is
hands-honest d n c served.Past ms is = subst (AllByRecursion (IsHonest (Some d.digest))) (sym (no-moments ms is)) tt

all-both : {A : Type 0} (P : A → Type 0) (xs ys : List A) → AllByRecursion P xs → AllByRecursion P ys → AllByRecursion P (xs ++ ys)
all-both P [] ys a b = b
all-both P (x ∷ xs) ys a b = (a.0, all-both P xs ys a.1 b)

-- where the hands stand
module _ (g : Config) (n c : ℕ) (ptr : Ptr) where
  here-hands : (shard : ℕ) (from : Served) → shard_of g.shards ptr.key ≡ shard → events_there g shard (hands_of n c ptr from) ≡ hands_of n c ptr from
  here-hands shard served.Hit is = rw (eq-eqb (shard_of g.shards ptr.key) shard is) refl
  here-hands shard served.Pool is = rw (eq-eqb (shard_of g.shards ptr.key) shard is) refl
  here-hands shard served.L2 is = rw (eq-eqb (shard_of g.shards ptr.key) shard is) refl
  here-hands shard served.Past is = refl

  else-hands : (shard : ℕ) (from : Served) → shard_of g.shards ptr.key ≢ shard → events_there g shard (hands_of n c ptr from) ≡ []
  else-hands shard served.Hit differs = rw (ne_eqb (shard_of g.shards ptr.key) shard differs) refl
  else-hands shard served.Pool differs = rw (ne_eqb (shard_of g.shards ptr.key) shard differs) refl
  else-hands shard served.L2 differs = rw (ne_eqb (shard_of g.shards ptr.key) shard differs) refl
  else-hands shard served.Past differs = refl

  own-hands : (from : Served) → own_events n (hands_of n c ptr from) ≡ hands_of n c ptr from
  own-hands served.Hit = rw (eq-eqb n n refl) refl
  own-hands served.Pool = rw (eq-eqb n n refl) refl
  own-hands served.L2 = rw (eq-eqb n n refl) refl
  own-hands served.Past = refl

-- One act of the party's own, told in the shard of its key by the moments of its access and those of the hands behind it
module _ (g : Config) (act : Act) (shard : ℕ) (hands : List Event) (ms : List Moment) (es : List Event) (p q : PartyPlace) (his : actor_of act ≡ p.number) (there : shard_of g.shards (act_key act) ≡ shard)
    (moves : Moves g shard ms es p q) (stands : (ns : List Moment) → map (λ (m : Moment). m.event) ns ≡ own_events p.number (events_there g shard hands) → StandsFor act (ms ++ ns))
    (off : (j : ℕ) → j ≢ shard → events_there g j hands ≡ []) where
  abbrev f : Key → ℕ
  f = shard_of g.shards

  act-here : acts_in f shard p.number (act ∷ []) ≡ act ∷ []
  act-here = rw (eq-eqb (actor_of act) p.number his, eq-eqb (f (act_key act)) shard there) refl

  act-else : (j : ℕ) → j ≢ shard → acts_in f j p.number (act ∷ []) ≡ []
  act-else j differs = rw (eq-eqb (actor_of act) p.number his, ne_eqb (f (act_key act)) j (λ e. differs (sym e ∙ there))) refl

  abbrev own : PartyPlace → ℕ → List Moment
  own x j = own_moments p.number (moments (opening_of g) (seen_of g j x))

  at-shard : (did : List Act) (r : PartyPlace) → MakesOwn g hands q r p.number shard → IsTold g did p → Tell (acts_in f shard p.number (did ++ act ∷ [])) (own r shard)
  at-shard did r w told =
      let all : own r shard ≡ own p shard ++ (ms ++ w.ms) = w.more ∙ (ap (λ (l : List Moment). l ++ w.ms) moves.own.here ∙ append_assoc (own p shard) ms w.ms) in
      subst (λ (x : List Act × List Moment). Tell x.0 x.1) (λ i. (sym (acts-append f shard p.number did (act ∷ []) ∙ ap (λ (l : List Act). acts_in f shard p.number did ++ l) act-here) i, sym all i))
      (Tell-append (acts_in f shard p.number did) (act ∷ []) (own p shard) (ms ++ w.ms) (told shard) (Tell-one act (ms ++ w.ms) (stands w.ms w.events)))

  off-shard : (j : ℕ) → j ≢ shard → (did : List Act) (r : PartyPlace) → MakesOwn g hands q r p.number j → IsTold g did p → Tell (acts_in f j p.number (did ++ act ∷ [])) (own r j)
  off-shard j differs did r w told =
      let empty : w.ms ≡ [] = no-moments w.ms (w.events ∙ ap (own_events p.number) (off j differs)) in
      let all : own r j ≡ own p j = w.more ∙ (ap (λ (l : List Moment). own q j ++ l) empty ∙ (append-nil (own q j) ∙ ap (λ (l : List Event). own_moments p.number (moments (opening_of g) l)) (moves.own.others j differs))) in
      subst (λ (x : List Act × List Moment). Tell x.0 x.1)
      (λ i. (sym (acts-append f j p.number did (act ∷ []) ∙ (ap (λ (l : List Act). acts_in f j p.number did ++ l) (act-else j differs) ∙ append-nil (acts_in f j p.number did))) i, sym all i)) (told j)

  pub act-told : (did : List Act) (r : PartyPlace) → r.number ≡ p.number → ((j : ℕ) → MakesOwn g hands q r p.number j) → IsTold g did p → IsTold g (did ++ act ∷ []) r
  act-told did r number more told j = subst (λ (n : ℕ). Tell (acts_in f j n (did ++ act ∷ [])) (own_moments n (moments (opening_of g) (seen_of g j r)))) (sym number)
      (dite (ℕ_discrete j shard)
      (λ is. subst (λ (x : ℕ). Tell (acts_in f x p.number (did ++ act ∷ [])) (own r x)) (sym is) (at-shard did r (more shard) told))
      (λ differs. off-shard j differs did r (more j) told))

module _ {P D : Type 0} (g : Config) (valid : IsConfig g) (pools : PoolGhosts P) (devices : DeviceGhosts D) (ptr : Ptr) (t c : ℕ) (p q : PartyPlace) (only : OnlyOwn g p q) (entries : HasSeenItsEntries g p) where
  abbrev shard : ℕ
  shard = shard_of g.shards ptr.key

  -- the access was served from here
  module _ (from : Served) (hands : List Event) (are : hands ≡ hands_of p.number c ptr from) (a : AddsServed dbuf_meanings g valid pools devices ptr t from p q) where
    there-are : (j : ℕ) → shard ≡ j → events_there g j hands ≡ hands_of p.number c ptr from
    there-are j is = ap (events_there g j) are ∙ here-hands g p.number c ptr j from is

    none-are : (j : ℕ) → j ≢ shard → events_there g j hands ≡ []
    none-are j differs = ap (events_there g j) are ∙ else-hands g p.number c ptr j from (λ e. differs (sym e))

    stands-for : (ns : List Moment) → map (λ (m : Moment). m.event) ns ≡ own_events p.number (events_there g shard hands) → StandsFor (Loads p.number t ptr from c) (a.ms ++ ns)
    stands-for ns is =
        let his : map (λ (m : Moment). m.event) ns ≡ hands_of p.number c ptr from = is ∙ (ap (own_events p.number) (there-are shard refl) ∙ own-hands g p.number c ptr from) in
        record {
          events = subst (λ (l : List Event). IsServed p.number t ptr from (Hand p.number ptr.key c ∷ []) l) (sym (map-append (λ (m : Moment). m.event) a.ms ns)) (load-events p.number t c ptr from _ _ a.events his);
          digests = all-both (IsHonest (Some ptr.digest)) a.ms ns a.digests (hands-honest ptr p.number c from ns his);
        }

    pub served-done : held_through p.number hands q.own.ledger.holds ≡ p.own.ledger.holds → q.own.ledger.readings ≡ p.own.ledger.readings → BringDone g t c (Loaded ptr from) hands p q
    served-done holds readings = record {
      seen = seen-left g p q only.left only.same.entries;
      sees = (only.sees, leaves-seen g p q only.left entries);
      same = only.same;
      holds = holds;
      readings = readings;
      source = λ all. (a.alone all).1;
      alone = λ all j. there-alone all j;
      told = act-told g (Loads p.number t ptr from c) shard hands a.ms a.es p q refl refl a.moves stands-for none-are;
    }
      where
        there-alone : HasAll p → (j : ℕ) → seen_of g j q ++ events_there g j hands
            ≡ seen_of g j p ++ (if shard == j then events_of_answered p.number t ptr from (access_of (now_of g j p) ptr) ++ events_of_hand p.number c (held_by_access ptr (access_of (now_of g j p) ptr)) else [])
        there-alone all j = dite (ℕ_discrete shard j)
            (λ same. subst (λ (x : ℕ). seen_of g x q ++ events_there g x hands
            ≡ seen_of g x p ++ (if shard == x then events_of_answered p.number t ptr from (access_of (now_of g x p) ptr) ++ events_of_hand p.number c (held_by_access ptr (access_of (now_of g x p) ptr)) else [])) same
            (rw (eq-eqb shard shard refl)
            (ap (λ (l : List Event). l ++ events_there g shard hands) (a.moves.alone all).here
            ∙ (append_assoc (seen_of g shard p) a.es (events_there g shard hands)
            ∙ ap (λ (l : List Event). seen_of g shard p ++ l) (λ i. (a.alone all).0 i ++ (there-are shard refl ∙ sym (hand-of p.number c ptr (access_now g ptr p) from (a.alone all).1)) i)))))
            (λ differs. rw (ne_eqb shard j differs)
            ((λ i. (a.moves.alone all).others j (λ e. differs (sym e)) i ++ none-are j (λ e. differs (sym e)) i)))

  -- the pool failed, or gave other bytes
  pub failed-done : AddsFailed dbuf_meanings g valid pools devices ptr t p q → q.own.ledger.holds ≡ p.own.ledger.holds → q.own.ledger.readings ≡ p.own.ledger.readings → BringDone g t c (Refused ptr) [] p q
  failed-done a holds readings = record {
    seen = seen-left g p q only.left only.same.entries;
    sees = (only.sees, leaves-seen g p q only.left entries);
    same = only.same;
    holds = holds;
    readings = readings;
    source = λ all. (a.alone all).1;
    alone = there-alone;
    told = act-told g (Fails p.number t ptr) shard [] a.ms a.es p q refl refl a.moves stands-for (λ j differs. refl);
  }
    where
      stands-for : (ns : List Moment) → map (λ (m : Moment). m.event) ns ≡ [] → StandsFor (Fails p.number t ptr) (a.ms ++ ns)
      stands-for ns is = subst (λ (l : List Moment). StandsFor (Fails p.number t ptr) (a.ms ++ l)) (sym (no-moments ns is))
          (subst (StandsFor (Fails p.number t ptr)) (sym (append-nil a.ms)) record { events = a.events; digests = a.digests })

      there-alone : HasAll p → (j : ℕ) → seen_of g j q ++ [] ≡ seen_of g j p ++ (if shard == j then events_of_refused p.number t ptr (access_of (now_of g j p) ptr) else [])
      there-alone all j = dite (ℕ_discrete shard j)
          (λ same. subst (λ (x : ℕ). seen_of g x q ++ [] ≡ seen_of g x p ++ (if shard == x then events_of_refused p.number t ptr (access_of (now_of g x p) ptr) else [])) same
          (rw (eq-eqb shard shard refl) (append-nil (seen_of g shard q) ∙ ((a.moves.alone all).here ∙ ap (λ (l : List Event). seen_of g shard p ++ l) (a.alone all).0))))
          (λ differs. rw (ne_eqb shard j differs) (ap (λ (l : List Event). l ++ []) ((a.moves.alone all).others j (λ e. differs (sym e)))))

-- ---- by the answer of the read

-- where the bytes came from
abbrev pub source_of_read : Read → Served
source_of_read (gave.Held hold from) = from
source_of_read (gave.Past block kept) = served.Past

held-hands : (n c : ℕ) (ptr : Ptr) (hold : Hold) (from : Served) → hold.key ≡ ptr.key → from ≢ served.Past → handed n c (gave.Held hold from) ≡ hands_of n c ptr from
held-hands n c ptr hold served.Hit key other = ap (λ (k : Key). Hand n k c ∷ []) key
held-hands n c ptr hold served.Pool key other = ap (λ (k : Key). Hand n k c ∷ []) key
held-hands n c ptr hold served.L2 key other = ap (λ (k : Key). Hand n k c ∷ []) key
held-hands n c ptr hold served.Past key other = absurd (other refl)

-- a hold that was just listed is handed
hand-holds : (n c : ℕ) (ptr : Ptr) (hold : Hold) (from : Served) (hs : List Ptr) → hold.key ≡ ptr.key → held_through n (handed n c (gave.Held hold from)) (ptr ∷ hs) ≡ hs
hand-holds n c ptr hold from hs key = subst (λ (k : Key). held_through n (Hand n k c ∷ []) (ptr ∷ hs) ≡ hs) (sym key) (rw (eq-eqb n n refl, key_eq-same ptr.key) refl)

module _ {P D : Type 0} (g : Config) (valid : IsConfig g) (pools : PoolGhosts P) (devices : DeviceGhosts D) (ptr : Ptr) (t c : ℕ) (before now : Outside P D) (p q : PartyPlace) (low : p.number < parties_of g)
    (config : p.own.about.config ≡ g) (sees : SeesAll g p) where
  only-own : (result : Result Read ReadFault) → AnswersRead dbuf_meanings pools devices g ptr t before now p q result → OnlyOwn g p q
  only-own result answer = read-only dbuf_meanings g valid pools devices ptr t before now p q result low config sees.0 answer

  adds-of : (result : Result Read ReadFault) → AnswersRead dbuf_meanings pools devices g ptr t before now p q result → AddsRead dbuf_meanings g valid pools devices ptr t p q result
  adds-of result answer = read-adds dbuf_meanings g valid pools devices ptr t before now p q result config sees.0 answer

  lists-of : (result : Result Read ReadFault) → AnswersRead dbuf_meanings pools devices g ptr t before now p q result → ListsAnswer ptr p q result
  lists-of result answer = read-lists dbuf_meanings g valid pools devices ptr t before now p q result config answer

  -- a hold is of no read past the cache
  pub held-source : (hold : Hold) (from : Served) → AnswersRead dbuf_meanings pools devices g ptr t before now p q (Ok (gave.Held hold from)) → from ≢ served.Past
  held-source hold from answer = (lists-of (Ok (gave.Held hold from)) answer).2

  pub read-brings : (got : Read) → AnswersRead dbuf_meanings pools devices g ptr t before now p q (Ok got) → BringDone g t c (Loaded ptr (source_of_read got)) (handed p.number c got) p q
  read-brings (gave.Held hold from) answer =
      let lists = lists-of (Ok (gave.Held hold from)) answer in
      served-done g valid pools devices ptr t c p q (only-own (Ok (gave.Held hold from)) answer) sees.1 from (handed p.number c (gave.Held hold from)) (held-hands p.number c ptr hold from lists.1.key lists.2)
      (adds-of (Ok (gave.Held hold from)) answer)
      (ap (held_through p.number (handed p.number c (gave.Held hold from))) lists.0.holds ∙ hand-holds p.number c ptr hold from p.own.ledger.holds lists.1.key) lists.0.readings
  read-brings (gave.Past block kept) answer =
      let lists = lists-of (Ok (gave.Past block kept)) answer in
      served-done g valid pools devices ptr t c p q (only-own (Ok (gave.Past block kept)) answer) sees.1 served.Past [] refl (adds-of (Ok (gave.Past block kept)) answer) lists.holds lists.readings

  pub pool-refuses : AnswersRead dbuf_meanings pools devices g ptr t before now p q (Err fault.PoolFault) → BringDone g t c (Refused ptr) [] p q
  pool-refuses answer =
      let lists = lists-of (Err fault.PoolFault) answer in
      failed-done g valid pools devices ptr t c p q (only-own (Err fault.PoolFault) answer) sees.1 (adds-of (Err fault.PoolFault) answer) lists.holds lists.readings

  pub bytes-refuse : (found : _) → AnswersRead dbuf_meanings pools devices g ptr t before now p q (Err (fault.Mismatch found)) → BringDone g t c (Refused ptr) [] p q
  bytes-refuse found answer =
      let lists = lists-of (Err (fault.Mismatch found)) answer in
      failed-done g valid pools devices ptr t c p q (only-own (Err (fault.Mismatch found)) answer) sees.1 (adds-of (Err (fault.Mismatch found)) answer) lists.holds lists.readings
