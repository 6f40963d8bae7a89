-- A feed's picks are events that the feeder makes of what it finds: picks and passes, and then the feed's end.
use Rattle.std.proofs.Common.{◌≡◌, ◌≢◌, ℕ, zero, suc, ◌-◌, ◌<◌, IsTrue, List, [], ◌∷◌, ◌++◌, length, map, refl, sym, ap, ◌∙◌, subst, eq-eqb, arith}
use Rattle.std.specs.List.{AllByRecursion}
use mathlib.Core.Option.{some, some-injective}
use lib.ListN.{get_elem?}
use Rattle.arc_core.specs.declared.config.Config.{Config}
use Rattle.arc_core.specs.declared.event.Event.{Event}
use Rattle.arc_core.specs.declared.event.Event.TheVariants.{FeedEnd, Pass, Pick}
use Rattle.arc_core.specs.Operations.{goes_on, number_of}
use Rattle.arc_core.specs.PlainShard.{PlainShard}
use Rattle.arc_core.specs.Replay.{replay}
use Rattle.turn_table.specs.Moments.{WasFree}
use Rattle.turn_table.specs.Places.{Place, saw}
use Rattle.arc_table.specs.declared.about.About.{About}
use Rattle.arc_table.specs.declared.item.Item.TheVariants as item
use Rattle.arc_table.specs.declared.view.Known.{Known}
use Rattle.arc_table.specs.declared.view.Line.{Line}
use Rattle.arc_table.specs.declared.view.Line.TheVariants as line
use Rattle.arc_table.specs.declared.view.Mine.{Mine}
use Rattle.arc_table.specs.Fronts.{StartsWith, front_of}
use Rattle.arc_table.specs.Geometry.{IsBucket, parties_of}
use Rattle.arc_table.specs.Items.{Meanings}
use Rattle.arc_table.specs.pact.Logged.{IsSoundItem, IsSoundLog}
use Rattle.arc_table.specs.feeder.Picking.{ArePicks, Feeds}
use Rattle.arc_table.specs.pact.Rule.{Pact}
use Rattle.arc_table.specs.scans.Scanning.{AreOfOthers}
use Rattle.arc_table.specs.Seen.{AreOwnBy, Finds, HasSeenBy, IsSeenBy, MadeBy, events_in, pass_owner, turn_of}
use Rattle.arc_table.specs.ShardGiving.{mines_of, passes_in}
use Rattle.arc_table.specs.TableLaws.{within}
use Rattle.arc_table.proofs.TableLaws.{front_else, front_here}
use Rattle.arc_table.proofs.HandHeads.{config_then, shard_then}
use Rattle.arc_table.proofs.PassMines.{mines_of_are}
use Rattle.arc_table.proofs.reads.ReadMoments.{own-single-by}
use Rattle.arc_table.proofs.Reached.{SameButNotes, Took, loses_same, took_is}
use Rattle.arc_table.proofs.SeenLemmas.{all-seen-as, finds-then}

-- ---- whose the picks are

-- the first of them goes on, or the feed's end does
first-goes-on : (g : Config) (n turn : ℕ) (picks : List Event) → ArePicks g n turn picks → (x : Event) × (get_elem? (picks ++ FeedEnd n ∷ []) 0 ≡ some x) × IsTrue (goes_on n x)
first-goes-on g n turn [] all = (FeedEnd n, refl, eq-eqb n n refl)
first-goes-on g n turn (Pass a k owner ∷ es) all = (Pass a k owner, refl, eq-eqb a n all.0.0)
first-goes-on g n turn (Pick a k ∷ es) all = (Pick a k, refl, eq-eqb a n all.0.0)
first-goes-on g n turn (_ ∷ es) all = absurd all

pick-is : (g : Config) (n turn : ℕ) (x : Event) (xs : List Event) → ArePicks g n turn (x ∷ xs) → (number_of x ≡ n) × ArePicks g n turn xs
pick-is g n turn (Pass a k owner) xs all = (all.0.0, all.1)
pick-is g n turn (Pick a k) xs all = (all.0.0, all.1)
pick-is g n turn _ xs all = absurd all

own-picks : (May : (n number : ℕ) → Type 0) (b : ℕ) (g : Config) (n turn : ℕ) (picks : List Event) → May n n → ArePicks g n turn picks → AllByRecursion (λ x. pass_owner x < b) picks → AreOwnBy May b n (picks ++ FeedEnd n ∷ [])
own-picks May b g n turn [] itself all named z x at = own-single-by May n (FeedEnd n) itself refl z x at
own-picks May b g n turn (y ∷ ys) itself all named zero x at =
    let is : y ≡ x = some-injective y x at in
    let h = pick-is g n turn y ys all in
    (subst (May n) (sym (ap number_of (sym is) ∙ h.0)) itself, (λ pass. first-goes-on g n turn ys h.1), (λ pass. subst (λ (v : Event). pass_owner v < b) is named.0))
own-picks May b g n turn (y ∷ ys) itself all named (suc z) x at = own-picks May b g n turn ys itself (pick-is g n turn y ys all).1 named.1 z x at

-- passes name parties, and a pick names none
named-picks : {C : Type 0} (b : ℕ) (g : Config) (n turn : ℕ) (r : Place (Known C)) (es : List Event) → r.parties ≡ b → 0 < b → ArePicks g n turn es → AreOfOthers r es → AllByRecursion (λ x. pass_owner x < b) es
named-picks b g n turn r [] is few picks others = tt
named-picks b g n turn r (Pass a k owner ∷ es) is few picks others = (subst (λ (x : ℕ). owner < x) is others.0.0, named-picks b g n turn r es is few picks.1 others.1)
named-picks b g n turn r (Pick a k ∷ es) is few picks others = (few, named-picks b g n turn r es is few picks.1 others)
named-picks b g n turn r (_ ∷ es) is few picks others = absurd picks

-- ---- what a feed made

module _ {C : Type 0} {May : (n number : ℕ) → Type 0} (m : Meanings C) (g : Config) (shard : ℕ) (es : List Event) (p q : Place (Known C)) (config : p.own.about.config ≡ g) (own : HasSeenBy May g p) (f : Feeds m g (turn_of g shard) es p q) where
  abbrev turn : ℕ
  turn = turn_of g shard

  knew : SameButNotes p.own f.takes.knew
  knew = loses_same m turn f.takes.owners p (saw p f.takes.knew) f.takes.lost

  took : Took m turn (item.Shard f.before) p f.reached
  took = took_is m turn (item.Shard f.before) p f.reached f.takes

  abbrev then : Place (Known C)
  then = saw p f.takes.knew

  config-before : then.own.about.config ≡ g
  config-before = ap (λ (a : About). a.config) knew.about ∙ config

  seen-before : (j : ℕ) → front_of (turn_of g j) then.own.seen ≡ front_of (turn_of g j) p.own.seen
  seen-before j = ap (front_of (turn_of g j)) knew.seen

  own-before : HasSeenBy May g then
  own-before = record {
    own = λ i j a at is. subst (λ (l : List Line). IsSeenBy May (parties_of g) p.number l a.place) (sym (seen-before i)) (own.own i j a (subst (λ (l : List Mine). get_elem? l j ≡ some a) knew.mine at) is);
    joined = all-seen-as g May p.joined p.own.seen then.own.seen seen-before own.joined;
  }

  found : Finds g shard p f.before.history
  found =
      let h = finds-then m g then shard f.before f.takes.free own-before config-before in record {
        rest = h.rest;
        starts = subst (λ (l : List Line). StartsWith (map line.Event f.before.history) l) (seen-before shard) h.starts;
        whole = h.whole ∙ ap (λ (l : List Line). events_in l ++ h.rest) (seen-before shard);
        others = h.others;
        unfed = h.unfed;
        alone = h.alone;
      }

  sound : IsSoundLog g f.before
  sound =
      let free : WasFree (Pact m) then turn (item.Shard f.before) = f.takes.free in
      subst (λ (c : Config). IsSoundLog c f.before) (config_then m then turn f.before free ∙ config-before)
      (subst (IsSoundItem m free.held.scene.about turn) (shard_then m then turn f.before free) (free.held.logged.sound turn))

  is-shard : (j : ℕ) → ¬ IsBucket g (turn_of g j)
  is-shard j bucket = let b = bucket in omega arith

  pub feeds_made : AreOwnBy May (parties_of g) p.number es → MadeBy May g shard f.before es p q
  feeds_made mine =
      let news = mines_of_are turn (length f.before.history) (length f.tried.own.notes - passes_in es) es in
      record {
        same = record {
          number = ap (λ (x : Place (Known C)). x.number) f.gave ∙ (f.tries.number ∙ took.number);
          parties = ap (λ (x : Place (Known C)). x.parties) f.gave ∙ (f.tries.parties ∙ took.parties);
          joined = ap (λ (x : Place (Known C)). x.joined) f.gave ∙ (f.tries.joined ∙ took.joined);
          about = ap (λ (x : Place (Known C)). x.own.about) f.gave ∙ (f.tries.about ∙ took.about);
        };
        found = found;
        replayed = ap (λ (x : PlainShard). replay x f.before.history) (sym sound.opening) ∙ sound.replayed.replayed;
        here = ap (λ (x : Place (Known C)). front_of turn x.own.seen) f.gave ∙ (front_here turn (map line.Event f.after.history) f.tried.own.seen ∙ ap (map line.Event) f.history);
        others = λ j differs.
            let apart : turn_of g j ≢ turn = λ is. differs (omega arith) in
            ap (λ (x : Place (Known C)). front_of (turn_of g j) x.own.seen) f.gave
            ∙ (front_else turn (turn_of g j) (map line.Event f.after.history) f.tried.own.seen apart
            ∙ (f.tries.seen (turn_of g j) (is-shard j)
            ∙ (ap (front_of (turn_of g j)) took.seen ∙ front_else turn (turn_of g j) (map line.Event f.before.history) p.own.seen apart)));
        news = mines_of turn (length f.before.history) (length f.tried.own.notes - passes_in es) es;
        mine = ap (λ (x : Place (Known C)). x.own.mine) f.gave
            ∙ ap (λ (l : List Mine). l ++ mines_of turn (length f.before.history) (length f.tried.own.notes - passes_in es) es) (f.tries.mine ∙ took.mine);
        each = λ y a at.
            let each = news.each y a at in
            (each.0, each.1, (let w = within _ y a at in let l = news.long in omega arith));
        own = mine;
      }

module _ {C : Type 0} {May : (n number : ℕ) → Type 0} (m : Meanings C) (g : Config) (shard : ℕ) (p q : Place (Known C)) (parties : p.parties ≡ parties_of g) (config : p.own.about.config ≡ g) (own : HasSeenBy May g p) (itself : May p.number p.number) where
  -- what `pick` did is such
  pub picks_made : (picks : List Event) (scan : ArePicks g p.number (turn_of g shard) picks) (f : Feeds m g (turn_of g shard) (picks ++ FeedEnd p.number ∷ []) p q) → AreOfOthers f.reached picks
      → MadeBy May g shard f.before (picks ++ FeedEnd p.number ∷ []) p q
  picks_made picks scan f others =
      let took = took_is m (turn_of g shard) (item.Shard f.before) p f.reached f.takes in
      feeds_made m g shard (picks ++ FeedEnd p.number ∷ []) p q config own f
      (own-picks May (parties_of g) g p.number (turn_of g shard) picks itself scan (named-picks (parties_of g) g p.number (turn_of g shard) f.reached picks (took.parties ∙ parties) (omega arith) scan others))
