-- One call after another of a party in one shard: what they add to what it has seen.
use Rattle.std.proofs.Common.{◌≡◌, ℕ, false, IsTrue, List, [], ◌∷◌, ◌++◌, refl, sym, ap, ◌∙◌, subst, append-nil}
use Rattle.blk_ptr.specs.declared.key.Key.{Key}
use Rattle.blk_ptr.specs.Hash.{shard_of}
use Rattle.arc_core.specs.Config.{IsConfig}
use Rattle.arc_core.specs.declared.config.Config.{Config}
use Rattle.arc_core.specs.declared.event.Event.{Event}
use Rattle.arc_core.specs.Operations.{Moment, goes_on, is_pass, moments, number_of, own_moments}
use Rattle.arc_core.specs.Replay.{replay}
use Rattle.arc_core.specs.ShardLog.{ShardLog}
use Rattle.turn_table.specs.Places.{Place}
use Rattle.arc_table.specs.declared.view.Known.{Known}
use Rattle.arc_table.specs.Both.{Does}
use Rattle.arc_table.specs.scans.Ending.{DoesRoomy}
use Rattle.arc_table.specs.Geometry.{parties_of}
use Rattle.arc_table.specs.Items.{Meanings}
use Rattle.arc_table.specs.Telling.{opening_of}
use Rattle.arc_table.specs.Seen.{AddsAll, AddsOwn, AreOwn, HasAll, HasSeenItsOwn, Made, seen_of}
use Rattle.arc_table.proofs.MadeLemmas.{does-made}
use Rattle.arc_table.proofs.OwnLemmas.{made-all, made-alone, made-now, made-own, made-sees}
use Rattle.arc_table.proofs.reads.ReadMoments.{moment, own-one, own-single}
use Rattle.arc_table.proofs.scans.RoomyLemmas.{roomy-made}
use Rattle.arc_table.proofs.ToldLemmas.{adds-all-then, adds-own-then}

-- In this shard the party p made these moments, of these events: it is q.
pub record Moves {C : Type 0} (g : Config) (shard : ℕ) (ms : List Moment) (es : List Event) (p q : Place (Known C)) : Type 0 where
  pub own : AddsOwn g shard ms p q
  pub alone : HasAll p → AddsAll g shard es p q
  pub all : HasAll p → HasAll q
  pub joined : q.joined ≡ p.joined
  pub seen : HasSeenItsOwn g q
  pub config : q.own.about.config ≡ g

module _ {C : Type 0} (g : Config) (shard : ℕ) where
  pub moves-none : (p : Place (Known C)) → p.own.about.config ≡ g → HasSeenItsOwn g p → Moves g shard [] [] p p
  moves-none p config seen = record {
    own = record { number = refl; here = sym (append-nil (own_moments p.number (moments (opening_of g) (seen_of g shard p)))); others = λ j differs. refl };
    alone = λ all. record { number = refl; here = sym (append-nil (seen_of g shard p)); others = λ j differs. refl };
    all = λ all. all;
    joined = refl;
    seen = seen;
    config = config;
  }

  pub moves-then : (ms ns : List Moment) (es fs : List Event) (p q r : Place (Known C)) → Moves g shard ms es p q → Moves g shard ns fs q r → Moves g shard (ms ++ ns) (es ++ fs) p r
  moves-then ms ns es fs p q r a b = record {
    own = adds-own-then g shard ms ns p q r a.own b.own;
    alone = λ all. adds-all-then g shard es fs p q r (a.alone all) (b.alone (a.all all));
    all = λ all. b.all (a.all all);
    joined = b.joined ∙ a.joined;
    seen = b.seen;
    config = b.config;
  }

  made-moves : (before : ShardLog) (es : List Event) (p q : Place (Known C)) → p.own.about.config ≡ g → HasSeenItsOwn g p → Made g shard before es p q → Moves g shard (own_moments p.number (moments before.now es)) es p q
  made-moves before es p q config seen made = record {
    own = made-own g shard before es p q made;
    alone = made-alone g shard before es p q made;
    all = made-all g shard before es p q made;
    joined = made.same.joined;
    seen = made-sees g shard before es p q made seen;
    config = ap (λ a. a.config) made.same.about ∙ config;
  }

module _ {C : Type 0} (m : Meanings C) (g : Config) (valid : IsConfig g) (k : Key) (p q : Place (Known C)) (config : p.own.about.config ≡ g) (seen : HasSeenItsOwn g p) where
  pub does-moves : (es : List Event) → AreOwn (parties_of g) p.number es → (d : Does m g k es p q) → Moves g (shard_of g.shards k) (own_moments p.number (moments d.before.now es)) es p q
  does-moves es mine d = made-moves g (shard_of g.shards k) d.before es p q config seen (does-made m g valid k es p q config seen mine d)

  pub roomy-moves : (e : Event) → (number_of e ≡ p.number) × (is_pass e ≡ false) × IsTrue (goes_on p.number e) → (d : DoesRoomy m g k e p q)
      → Moves g (shard_of g.shards k) (own_moments p.number (moments d.before.now (d.makes.passes ++ e ∷ []))) (d.makes.passes ++ e ∷ []) p q
  roomy-moves e fits d = made-moves g (shard_of g.shards k) d.before (d.makes.passes ++ e ∷ []) p q config seen (roomy-made m g valid k e p q config seen refl fits d)

  -- what a party finds that has every number
  pub does-now : (es : List Event) → AreOwn (parties_of g) p.number es → (d : Does m g k es p q) → HasAll p → d.before.now ≡ replay (opening_of g) (seen_of g (shard_of g.shards k) p)
  does-now es mine d = made-now g (shard_of g.shards k) d.before es p q (does-made m g valid k es p q config seen mine d)

  pub roomy-now : (e : Event) → (number_of e ≡ p.number) × (is_pass e ≡ false) × IsTrue (goes_on p.number e) → (d : DoesRoomy m g k e p q) → HasAll p
      → d.before.now ≡ replay (opening_of g) (seen_of g (shard_of g.shards k) p)
  roomy-now e fits d = made-now g (shard_of g.shards k) d.before (d.makes.passes ++ e ∷ []) p q (roomy-made m g valid k e p q config seen refl fits d)

  -- one event that is no pass
  pub one-moves : (e : Event) → number_of e ≡ p.number → is_pass e ≡ false → (d : Does m g k (e ∷ []) p q) → Moves g (shard_of g.shards k) (moment d.before.now e ∷ []) (e ∷ []) p q
  one-moves e his none d = subst (λ (ms : List Moment). Moves g (shard_of g.shards k) ms (e ∷ []) p q) (own-one p.number d.before.now e his none) (does-moves (e ∷ []) (own-single p.number e his none) d)
