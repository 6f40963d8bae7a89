-- One call after another of a party in one shard: what they add to what it has seen, where it may have made events with a cell's number before.
use Rattle.std.proofs.Common.{◌≡◌, ℕ, zero, suc, false, IsTrue, List, [], ◌∷◌, ◌++◌, length, refl, sym, ap, ◌∙◌, subst, inl, inr, append-nil}
use mathlib.Core.Option.{some, some-injective, some-ne-none}
use lib.ListN.{get_elem?}
use Rattle.blk_ptr.specs.declared.key.Key.{Key}
use Rattle.blk_ptr.specs.Hash.{shard_of}
use Rattle.arc_core.specs.Config.{IsConfig}
use Rattle.arc_core.specs.declared.config.Config.{Config}
use Rattle.arc_core.specs.declared.event.Event.{Event}
use Rattle.arc_core.specs.declared.event.Event.TheVariants.{Pass, Hit, Miss, Arrive, Fail, Drop, Past, Hand, Insert, Release, Pick, FeedEnd, Set, Leave, Clear, Restore, Resize}
use Rattle.arc_core.specs.Operations.{Moment, goes_on, is_pass, moments, number_of, own_moments}
use Rattle.arc_core.specs.Replay.{replay}
use Rattle.arc_core.specs.ShardLog.{ShardLog}
use Rattle.turn_table.specs.Places.{HasNumber, Place}
use Rattle.arc_table.specs.declared.view.Known.{Known}
use Rattle.arc_table.specs.Both.{Does}
use Rattle.arc_table.specs.scans.Ending.{DoesRoomy}
use Rattle.arc_table.specs.scans.Scanning.{ArePasses}
use Rattle.arc_table.specs.Geometry.{parties_of, shard_turn}
use Rattle.arc_table.specs.Items.{Meanings}
use Rattle.arc_table.specs.Telling.{opening_of}
use Rattle.arc_table.specs.Seen.{AddsAll, AddsOwn, AreOwn, AreOwnBy, AreSeen, HasAll, IsNumberOf, IsNumberOrCell, MadeBy, seen_of}
use Rattle.arc_table.proofs.MadeLemmas.{does-made}
use Rattle.arc_table.proofs.OwnLemmas.{made-all, made-alone, made-now, made-own, made-sees}
use Rattle.arc_table.proofs.Reached.{reached}
use Rattle.arc_table.proofs.reads.ReadMoments.{moment, own-one, own-single}
use Rattle.arc_table.proofs.scans.RoomyLemmas.{roomy-made}
use Rattle.arc_table.proofs.ToldLemmas.{adds-all-then, adds-own-then}
use Rattle.trace_run.specs.Deeds.{SameCells, SameMade}
use Rattle.trace_run.specs.Making.{HasSeenItsEvents, MadeItsOwn}
use Rattle.trace_run.proofs.CellsLeft.{LeavesCells, does-leaves, roomy-leaves}
use Rattle.trace_run.proofs.deeds.MakesLemmas.{does-long, makes-more, numbers-of, own-same, roomy-long, same-none, same-then}

-- ---- what is one's own

-- events of one's own number are of one's own or a cell's
pub own-wider : (g : Config) {b : ℕ} (n : ℕ) (es : List Event) → AreOwn b n es → AreOwnBy (IsNumberOrCell g) b n es
own-wider g n es own z e at = let h = own z e at in (inl h.0, h.1, h.2)

scan-first : (g : Config) (n turn : ℕ) (x : Event) (xs : List Event) → ArePasses g n turn (x ∷ xs) → (number_of x ≡ n) × ArePasses g n turn xs
scan-first g n turn (Pass a k owner) xs all = (all.0.0, all.1)
scan-first g n turn (Hit a k t) xs all = absurd all
scan-first g n turn (Miss a k t) xs all = absurd all
scan-first g n turn (Arrive a k d from) xs all = absurd all
scan-first g n turn (Fail a k at) xs all = absurd all
scan-first g n turn (Drop a k) xs all = absurd all
scan-first g n turn (Past a k kept) xs all = absurd all
scan-first g n turn (Hand a k to) xs all = absurd all
scan-first g n turn (Insert a k d t) xs all = absurd all
scan-first g n turn (Release a k sole) xs all = absurd all
scan-first g n turn (Pick a k) xs all = absurd all
scan-first g n turn (FeedEnd a) xs all = absurd all
scan-first g n turn (Set a k place) xs all = absurd all
scan-first g n turn (Leave a k why) xs all = absurd all
scan-first g n turn (Clear a k) xs all = absurd all
scan-first g n turn (Restore a k place d) xs all = absurd all
scan-first g n turn (Resize a c) xs all = absurd all

-- the passes of a scan and the event behind them have its number
scan-number : (g : Config) (n turn : ℕ) (passes : List Event) (e : Event) → ArePasses g n turn passes → number_of e ≡ n → (z : ℕ) (x : Event) → get_elem? (passes ++ e ∷ []) z ≡ some x → number_of x ≡ n
scan-number g n turn [] e all his zero x at = ap number_of (sym (some-injective e x at)) ∙ his
scan-number g n turn [] e all his (suc z) x at = absurd (some-ne-none x (sym at))
scan-number g n turn (y ∷ ys) e all his zero x at = ap number_of (sym (some-injective y x at)) ∙ (scan-first g n turn y ys all).0
scan-number g n turn (y ∷ ys) e all his (suc z) x at = scan-number g n turn ys e (scan-first g n turn y ys all).1 his z x at

module _ {C : Type 0} (g : Config) where
  -- the party by itself
  abbrev bare : Place (Known C) → Place (Known C)
  bare p = record { table = p.table; parties = p.parties; number = p.number; own = p.own; joined = []; held = p.held }

  -- where it made events with its own number alone, and now these, it still did
  pub made-only : {May : (n number : ℕ) → Type 0} (shard : ℕ) (before : ShardLog) (es : List Event) (p q : Place (Known C)) → MadeBy May g shard before es p q → AreOwn (parties_of g) p.number es
      → AreSeen g p.number p.own.mine p.own.seen → AreSeen g q.number q.own.mine q.own.seen
  made-only shard before es p q made own seen = (made-sees g shard before es (bare p) (bare q) by-itself record { own = seen; joined = tt }).own
    where
      by-itself : MadeBy IsNumberOf g shard before es (bare p) (bare q)
      by-itself = record {
        same = record { number = made.same.number; parties = made.same.parties; joined = refl; about = made.same.about };
        found = record {
          rest = made.found.rest;
          whole = made.found.whole;
          starts = made.found.starts;
          others = made.found.others;
          unfed = made.found.unfed;
          alone = λ all. made.found.alone (λ n below. wider n (all n below));
        };
        replayed = made.replayed;
        here = made.here;
        others = made.others;
        news = made.news;
        mine = made.mine;
        each = made.each;
        own = own;
      }
        where
          wider : (n : ℕ) → HasNumber n (bare p) → HasNumber n p
          wider n (inl is) = inl is
          wider n (inr among) = absurd among

  -- a party that made its own alone still did, where it left cells
  pub only-then : (p q : Place (Known C)) → LeavesCells g p q → (AreSeen g p.number p.own.mine p.own.seen → AreSeen g q.number q.own.mine q.own.seen) → MadeItsOwn g p → MadeItsOwn g q
  only-then p q left events only = record {
    events = events only.events;
    entries = λ j a at in_range. only.entries j a (left.mine j a in_range at) in_range;
  }

-- In this shard the party p made these moments, of these events: it is q.
pub record Moves {C : Type 0} (g : Config) (shard : ℕ) (ms : List Moment) (es : List Event) (p q : Place (Known C)) : Type 0 where
  pub own : AddsOwn g shard ms p q
  pub alone : HasAll p → AddsAll g shard es p q
  pub all : HasAll p → HasAll q
  pub joined : q.joined ≡ p.joined
  pub seen : HasSeenItsEvents g q
  pub config : q.own.about.config ≡ g
  pub only : MadeItsOwn g p → MadeItsOwn g q
  pub same : SameMade g p q
  pub cells : SameCells g p q

module _ {C : Type 0} (g : Config) (shard : ℕ) where
  pub moves-none : (p : Place (Known C)) → p.own.about.config ≡ g → HasSeenItsEvents g p → Moves g shard [] [] p p
  moves-none p config seen = record {
    own = record { number = refl; here = sym (append-nil (own_moments p.number (moments (opening_of g) (seen_of g shard p)))); others = λ j differs. refl };
    alone = λ all. record { number = refl; here = sym (append-nil (seen_of g shard p)); others = λ j differs. refl };
    all = λ all. all;
    joined = refl;
    seen = seen;
    config = config;
    only = λ only. only;
    same = same-none g p;
    cells = λ i in_range. refl;
  }

  pub moves-then : (ms ns : List Moment) (es fs : List Event) (p q r : Place (Known C)) → Moves g shard ms es p q → Moves g shard ns fs q r → Moves g shard (ms ++ ns) (es ++ fs) p r
  moves-then ms ns es fs p q r a b = record {
    own = adds-own-then g shard ms ns p q r a.own b.own;
    alone = λ all. adds-all-then g shard es fs p q r (a.alone all) (b.alone (a.all all));
    all = λ all. b.all (a.all all);
    joined = b.joined ∙ a.joined;
    seen = b.seen;
    config = b.config;
    only = λ only. b.only (a.only only);
    same = same-then g p q r a.same b.same;
    cells = λ i in_range. b.cells i in_range ∙ a.cells i in_range;
  }

  made-moves : (before : ShardLog) (es : List Event) (p q : Place (Known C)) → p.own.about.config ≡ g → HasSeenItsEvents g p → LeavesCells g p q → AreOwn (parties_of g) p.number es → (made : MadeBy (IsNumberOrCell g) g shard before es p q)
      → length made.news ≡ length es → Moves g shard (own_moments p.number (moments before.now es)) es p q
  made-moves before es p q config seen left mine made long = record {
    own = made-own g shard before es p q made;
    alone = made-alone g shard before es p q made;
    all = made-all g shard before es p q made;
    joined = made.same.joined;
    seen = made-sees g shard before es p q made seen;
    config = ap (λ a. a.config) made.same.about ∙ config;
    only = only-then g p q left (made-only g shard before es p q made mine);
    same = own-same g shard es p q made.same.number (numbers-of (parties_of g) p.number es mine) (makes-more g shard before es p q made long seen.own left.fronts) left;
    cells = left.fronts;
  }

module _ {C : Type 0} (m : Meanings C) (g : Config) (valid : IsConfig g) (k : Key) (p q : Place (Known C)) (config : p.own.about.config ≡ g) (seen : HasSeenItsEvents g p) where
  pub does-made-own : (es : List Event) → AreOwn (parties_of g) p.number es → (d : Does m g k es p q) → MadeBy (IsNumberOrCell g) g (shard_of g.shards k) d.before es p q
  does-made-own es mine d = does-made m g valid k es p q config seen (own-wider g p.number es mine) d

  pub does-moves : (es : List Event) → AreOwn (parties_of g) p.number es → (d : Does m g k es p q) → Moves g (shard_of g.shards k) (own_moments p.number (moments d.before.now es)) es p q
  does-moves es mine d =
      let made = does-made-own es mine d in
      made-moves g (shard_of g.shards k) d.before es p q config seen (does-leaves m g valid k es p q config d) mine made (does-long m g valid k p q config es d made)

  pub roomy-made-own : (e : Event) → (number_of e ≡ p.number) × (is_pass e ≡ false) × IsTrue (goes_on p.number e) → (d : DoesRoomy m g k e p q) → MadeBy (IsNumberOrCell g) g (shard_of g.shards k) d.before (d.makes.passes ++ e ∷ []) p q
  roomy-made-own e fits d = roomy-made m g valid k e p q config seen (inl refl) (inl fits.0, fits.1, fits.2) d

  pub roomy-mine : (e : Event) → (number_of e ≡ p.number) × (is_pass e ≡ false) × IsTrue (goes_on p.number e) → (d : DoesRoomy m g k e p q) → AreOwn (parties_of g) p.number (d.makes.passes ++ e ∷ [])
  roomy-mine e fits d z x at =
      let r = reached m g k d.chain d.before p d.reached d.takes in
      let h = (roomy-made-own e fits d).own z x at in
      (scan-number g p.number (shard_turn g k) d.makes.passes e (subst (λ (n : ℕ). ArePasses g n (shard_turn g k) d.makes.passes) r.number d.makes.own) fits.0 z x at, h.1, h.2)

  pub roomy-moves : (e : Event) → (number_of e ≡ p.number) × (is_pass e ≡ false) × IsTrue (goes_on p.number e) → (d : DoesRoomy m g k e p q)
      → Moves g (shard_of g.shards k) (own_moments p.number (moments d.before.now (d.makes.passes ++ e ∷ []))) (d.makes.passes ++ e ∷ []) p q
  roomy-moves e fits d =
      let made = roomy-made-own e fits d in
      made-moves g (shard_of g.shards k) d.before (d.makes.passes ++ e ∷ []) p q config seen (roomy-leaves m g valid k e p q config d) (roomy-mine e fits d) made (roomy-long m g valid k p q config e d made)

  -- what a party finds that has every number
  pub does-now : (es : List Event) → AreOwn (parties_of g) p.number es → (d : Does m g k es p q) → HasAll p → d.before.now ≡ replay (opening_of g) (seen_of g (shard_of g.shards k) p)
  does-now es mine d = made-now g (shard_of g.shards k) d.before es p q (does-made-own es mine d)

  pub roomy-now : (e : Event) → (number_of e ≡ p.number) × (is_pass e ≡ false) × IsTrue (goes_on p.number e) → (d : DoesRoomy m g k e p q) → HasAll p
      → d.before.now ≡ replay (opening_of g) (seen_of g (shard_of g.shards k) p)
  roomy-now e fits d = made-now g (shard_of g.shards k) d.before (d.makes.passes ++ e ∷ []) p q (roomy-made-own e fits d)

  -- one event that is no pass
  pub one-moves : (e : Event) → number_of e ≡ p.number → is_pass e ≡ false → (d : Does m g k (e ∷ []) p q) → Moves g (shard_of g.shards k) (moment d.before.now e ∷ []) (e ∷ []) p q
  one-moves e his none d = subst (λ (ms : List Moment). Moves g (shard_of g.shards k) ms (e ∷ []) p q) (own-one p.number d.before.now e his none) (does-moves (e ∷ []) (own-single p.number e his none) d)
