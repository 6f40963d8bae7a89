-- A call with a scan is one that a party makes of what it finds: the passes of the scan, and then its event.
use Rattle.std.proofs.Common.{◌≡◌, ◌≢◌, ℕ, ◌-◌, ◌<◌, false, IsTrue, List, [], ◌∷◌, ◌++◌, length, map, refl, sym, ap, ◌∙◌, subst, arith}
use Rattle.std.specs.List.{AllByRecursion}
use Rattle.blk_ptr.specs.declared.key.Key.{Key}
use Rattle.blk_ptr.specs.Hash.{shard_of}
use Rattle.arc_core.specs.Config.{IsConfig}
use Rattle.arc_core.specs.declared.config.Config.{Config}
use Rattle.arc_core.specs.declared.event.Event.{Event}
use Rattle.arc_core.specs.declared.event.Event.TheVariants.{Pass}
use Rattle.arc_core.specs.Operations.{goes_on, is_pass, number_of}
use Rattle.arc_core.specs.PlainShard.{PlainShard}
use Rattle.arc_core.specs.Replay.{replay}
use Rattle.hash_chain.specs.Chain.{Chain}
use Rattle.turn_table.specs.Places.{Place, gave_back}
use Rattle.arc_table.specs.declared.view.Known.{Known}
use Rattle.arc_table.specs.declared.view.Line.TheVariants as line
use Rattle.arc_table.specs.declared.view.Mine.{Mine}
use Rattle.arc_table.specs.scans.Ending.{DoesRoomy}
use Rattle.arc_table.specs.Fronts.{front_of}
use Rattle.arc_table.specs.Geometry.{IsBucket, bucket_turn, parties_of, shard_turn}
use Rattle.arc_table.specs.Items.{Meanings}
use Rattle.arc_table.specs.scans.Scanning.{AllPairs, AreOfOthers, ArePasses, after_scan, gave_all, won_all}
use Rattle.arc_table.specs.ShardGiving.{after_shard, mines_of, passes_in}
use Rattle.arc_table.specs.TableLaws.{within}
use Rattle.arc_table.proofs.TableLaws.{front_else, front_here}
use Rattle.arc_table.specs.Views.{after_same}
use Rattle.arc_table.proofs.PassMines.{mines_of_are}
use Rattle.arc_table.proofs.Reached.{reached, sound_log}
use Rattle.arc_table.specs.Seen.{HasSeenBy, MadeBy, pass_owner, turn_of}
use Rattle.arc_table.proofs.reads.ReadMoments.{own-scan}
use Rattle.arc_table.proofs.SeenLemmas.{finds, parties-then, shard-is-above}

-- a party that is the same to all others, has seen as much and has made as much
record SameSeen {C : Type 0} (p q : Place (Known C)) : Type 0 where
  pub number : q.number ≡ p.number
  pub parties : q.parties ≡ p.parties
  pub joined : q.joined ≡ p.joined
  pub seen : q.own.seen ≡ p.own.seen
  pub mine : q.own.mine ≡ p.own.mine
  pub about : q.own.about ≡ p.own.about
  pub ledger : q.own.ledger ≡ p.own.ledger

module _ {C : Type 0} where
  gave-same : (vs : List (ℕ × Chain)) (p : Place (Known C)) → SameSeen p (gave_all vs p)
  gave-same [] p = record { number = refl; parties = refl; joined = refl; seen = refl; mine = refl; about = refl; ledger = refl }
  gave-same (v ∷ vs) p = let h = gave-same vs (gave_back p v.0 (after_same v.0 p.own)) in record { number = h.number; parties = h.parties; joined = h.joined; seen = h.seen; mine = h.mine; about = h.about; ledger = h.ledger }

  -- the passes of a scan name parties
  named-others : (b : ℕ) (g : Config) (n turn : ℕ) (r : Place (Known C)) (es : List Event) → r.parties ≡ b → ArePasses g n turn es → AreOfOthers r es → AllByRecursion (λ x. pass_owner x < b) es
  named-others b g n turn r [] is passes others = tt
  named-others b g n turn r (Pass a k owner ∷ es) is passes others = (subst (λ (x : ℕ). owner < x) is others.0.0, named-others b g n turn r es is passes.1 others.1)
  named-others b g n turn r (_ ∷ es) is passes others = absurd passes

module _ {C : Type 0} (m : Meanings C) (g : Config) where
  won-mine : (vs : List (ℕ × Chain)) (w : Known C) → (won_all m vs w).mine ≡ w.mine
  won-mine [] w = refl
  won-mine (v ∷ vs) w = won-mine vs _

  won-about : (vs : List (ℕ × Chain)) (w : Known C) → (won_all m vs w).about ≡ w.about
  won-about [] w = refl
  won-about (v ∷ vs) w = won-about vs _

  won-seen : (vs : List (ℕ × Chain)) (w : Known C) (j : ℕ) → AllPairs (λ i b. IsBucket g i) vs → front_of (turn_of g j) (won_all m vs w).seen ≡ front_of (turn_of g j) w.seen
  won-seen [] w j all = refl
  won-seen (v ∷ vs) w j all =
      let apart : turn_of g j ≢ v.0 = λ e. let b = all.0.1 in omega arith in
      won-seen vs _ j all.1 ∙ front_else v.0 (turn_of g j) [] w.seen apart

module _ {C : Type 0} {May : (n number : ℕ) → Type 0} (m : Meanings C) (g : Config) (valid : IsConfig g) (k : Key) (e : Event) (p q : Place (Known C)) (config : p.own.about.config ≡ g)
    (own : HasSeenBy May g p) (itself : May p.number p.number) (fits : May p.number (number_of e) × (is_pass e ≡ false) × IsTrue (goes_on p.number e)) (d : DoesRoomy m g k e p q) where
  abbrev events : List Event
  events = d.makes.passes ++ e ∷ []

  -- the party behind its scan, and once it has given the shard back
  abbrev scanned : Place (Known C)
  scanned = after_scan m g (shard_turn g k) (length d.before.history) d.makes.won d.makes.passes d.reached

  abbrev given : Place (Known C)
  given = gave_back scanned (shard_turn g k) (after_shard m d.makes.gives.given (shard_turn g k) d.before events d.makes.after scanned.own)

  same : SameSeen given q
  same = subst (SameSeen given) (sym d.makes.gives.gave) (gave-same d.makes.gives.given given)

  apart : (j : ℕ) → j ≢ shard_of g.shards k → turn_of g j ≢ turn_of g (shard_of g.shards k)
  apart j differs is = differs (omega arith)

  scanned-seen : (j : ℕ) → front_of (turn_of g j) scanned.own.seen ≡ front_of (turn_of g j) d.reached.own.seen
  scanned-seen j = won-seen m g d.makes.won d.reached.own j d.makes.buckets

  pub roomy-made : MadeBy May g (shard_of g.shards k) d.before (d.makes.passes ++ e ∷ []) p q
  roomy-made =
      let r = reached m g k d.chain d.before p d.reached d.takes in
      let sound = sound_log m g k d.chain d.before p d.reached d.takes config valid in
      let news = mines_of_are (shard_turn g k) (length d.before.history) (length scanned.own.notes - passes_in events) events in
      record {
        same = record { number = same.number ∙ r.number; parties = same.parties ∙ r.parties; joined = same.joined ∙ r.joined; about = same.about ∙ (won-about m g d.makes.won d.reached.own ∙ r.about) };
        found = finds m g valid k d.chain d.before p d.reached d.takes config own;
        replayed = ap (λ (x : PlainShard). replay x d.before.history) (sym sound.opening) ∙ sound.replayed.replayed;
        here = ap (front_of (turn_of g (shard_of g.shards k))) same.seen
            ∙ (front_here (shard_turn g k) (map line.Event d.makes.after.history) scanned.own.seen ∙ ap (map line.Event) d.makes.history);
        others = λ j differs.
            ap (front_of (turn_of g j)) same.seen
            ∙ (front_else (shard_turn g k) (turn_of g j) (map line.Event d.makes.after.history) scanned.own.seen (apart j differs)
            ∙ (scanned-seen j
            ∙ (ap (front_of (turn_of g j)) r.seen
            ∙ (front_else (shard_turn g k) (turn_of g j) (map line.Event d.before.history) _ (apart j differs)
            ∙ front_else (bucket_turn g k) (turn_of g j) [] p.own.seen (shard-is-above m g valid k j)))));
        news = mines_of (shard_turn g k) (length d.before.history) (length scanned.own.notes - passes_in events) events;
        mine = same.mine ∙ ap (λ (l : List Mine). l ++ mines_of (shard_turn g k) (length d.before.history) (length scanned.own.notes - passes_in events) events)
            (won-mine m g d.makes.won d.reached.own ∙ r.mine);
        each = λ y a at.
            let each = news.each y a at in
            (each.0, each.1, (let w = within _ y a at in let l = news.long in omega arith));
        own = own-scan May (parties_of g) g p.number (shard_turn g k) d.makes.passes e itself (subst (λ (n : ℕ). ArePasses g n (shard_turn g k) d.makes.passes) r.number d.makes.own)
            (named-others (parties_of g) g d.reached.number (shard_turn g k) d.reached d.makes.passes (r.parties ∙ parties-then m g valid k d.chain d.before p d.reached d.takes config) d.makes.own d.makes.others) fits;
      }
