-- A feed's scan is over: what `pick` answers.
use Rattle.std.proofs.Common.{◌≡◌, if◌then◌else◌, ℕ, zero, suc, ◌≤◌, List, [], ◌∷◌, ◌++◌, length, take, Bool, true, false, Some, refl, sym, ap, ◌∙◌, subst, append-nil, eq-eqb, arith}
use Rattle.std.specs.Prelude.{is_some}
use mathlib.Core.Option.{some, some-injective, some-ne-none}
use lib.ListN.{get_elem?}
use Rattle.blk_ptr.specs.declared.key.Key.{Key}
use Rattle.blk_ptr.specs.Order.{key_eq}
use Rattle.blk_ptr.proofs.Keys.{key_eq-same}
use Rattle.arc_core.specs.declared.config.Config.{Config}
use Rattle.arc_core.specs.declared.entry.Picked.{Picked}
use Rattle.arc_core.specs.declared.event.Event.{Event}
use Rattle.arc_core.specs.declared.event.Event.TheVariants.{FeedEnd}
use Rattle.arc_core.specs.Changes.{pick_of}
use Rattle.turn_table.specs.Board.{without}
use Rattle.turn_table.specs.Places.{Place}
use Rattle.arc_table.specs.declared.item.Item.TheVariants as item
use Rattle.arc_table.specs.declared.picks.Feed.{Feed}
use Rattle.arc_table.specs.declared.picks.Picked.{Picked as Block}
use Rattle.arc_table.specs.declared.view.Known.{Known}
use Rattle.arc_table.specs.Both.{Takes}
use Rattle.arc_table.specs.Fronts.{list_at}
use Rattle.arc_table.specs.Geometry.{shard_turn}
use Rattle.arc_table.specs.Items.{Meanings}
use Rattle.arc_table.specs.feeder.Picking.{ArePicks, ArePicksOf, EndsFeed, Feeds, HasPicked, IsFeeding, PicksAll}
use Rattle.arc_table.specs.scans.Scanning.{notes_of}
use Rattle.arc_table.specs.TableLaws.{list_here}
use Rattle.arc_table.proofs.Afterwards.{Stays}
use Rattle.arc_table.proofs.Reached.{took_is}

take_whole : {A : Type 0} (xs : List A) → take (length xs) xs ≡ xs
take_whole [] = refl
take_whole {A} (x ∷ xs) = ap (λ (l : List A). x ∷ l) (take_whole xs)

-- nothing is picked yet
pub feeding_begins : {C : Type 0} (g : Config) (f : Feed C) (r : Place (Known C)) (out : List Block) → f.had ≡ length out → HasPicked g f r [] → f.shard.now.picked ≡ [] → IsFeeding g f r out
feeding_begins g f r out had has none = record {
  es = [];
  scan = has;
  gained = [];
  had = subst (λ (n : ℕ). n ≤ length out) (sym had) (omega arith);
  out_is = sym (ap (λ (n : ℕ). take n out ++ []) had ∙ (append-nil (take (length out) out) ∙ take_whole out));
  blocks = subst (λ (ps : List Picked). ArePicksOf g f.turn ps []) (sym none) tt;
}

-- what had been there is there still
pub front_is : (had : ℕ) (out out' : List Block) → had ≡ length out → take had out' ≡ take had out → take had out' ≡ out
front_is had out out' is front = front ∙ (ap (λ (n : ℕ). take n out) is ∙ take_whole out)

-- a block that was gained is of a key that is picked
gained_there : (g : Config) (i : ℕ) (ps : List Picked) (xs : List Block) (j : ℕ) (x : Block) → ArePicksOf g i ps xs → get_elem? xs j ≡ some x → (i ≡ shard_turn g x.key) × (is_some (pick_of x.key ps) ≡ true)
gained_there g i [] [] j x h at = absurd (some-ne-none x (sym at))
gained_there g i [] (y ∷ ys) j x h at = absurd h
gained_there g i (p ∷ ps) [] j x h at = absurd h
gained_there g i (p ∷ ps) (y ∷ ys) zero x h at = subst (λ (z : Block). (i ≡ shard_turn g z.key) × (is_some (pick_of z.key (p ∷ ps)) ≡ true)) (some-injective y x at)
    (h.0.own, ap (λ (b : Bool). is_some (if b then Some p else pick_of y.key ps)) (ap (λ (z : Key). key_eq z y.key) (sym h.0.key) ∙ key_eq-same y.key))
gained_there g i (p ∷ ps) (y ∷ ys) (suc j) x h at =
    let ih = gained_there g i ps ys j x h.1 at in
    (ih.0, past (key_eq p.key x.key) ih.1)
  where
    past : (b : Bool) → is_some (pick_of x.key ps) ≡ true → is_some (if b then Some p else pick_of x.key ps) ≡ true
    past true e = refl
    past false e = e

module _ {C : Type 0} (m : Meanings C) (g : Config) (f : Feed C) (p r s : Place (Known C)) (takes : Takes m f.turn (item.Shard f.before.value) p f.began.value) where
  -- with these events, or with none
  pub feeds_end : (es : List Event) → HasPicked g f r es → (es' : List Event) (picked : List Picked) → EndsFeed m f es' picked r s → Feeds m g f.turn es' p s
  feeds_end es has es' picked e = record {
    before = f.before.value;
    after = e.after;
    reached = f.began.value;
    tried = r;
    more = notes_of g f.turn (length f.before.value.history) es;
    takes = takes;
    tries = has.tried;
    legal = e.legal;
    now = e.now;
    history = e.history;
    gave = e.gave;
  }

  picked_listed : r.own.number ≡ r.own.about.config.callers → (es' : List Event) (picked : List Picked) → EndsFeed m f es' picked r s → list_at f.turn s.own.ledger.picked ≡ picked
  picked_listed feeds es' picked e = ap (λ (x : Place (Known C)). list_at f.turn x.own.ledger.picked) e.gave
      ∙ (ap (λ (b : Bool). list_at f.turn (if b then ((f.turn, e.after.now.picked) ∷ r.own.ledger.picked) else r.own.ledger.picked)) (eq-eqb r.own.number r.own.about.config.callers feeds)
      ∙ (list_here f.turn e.after.now.picked r.own.ledger.picked ∙ e.picked_is))

  pub picks_all : (out out' : List Block) (h : IsFeeding g f r out') → r.own.number ≡ r.own.about.config.callers → r.number ≡ p.number → take f.had out' ≡ out
      → ((es : List Event) → HasPicked g f r es → EndsFeed m f (es ++ FeedEnd r.number ∷ []) f.shard.now.picked r s) → PicksAll m g f.turn p s out out'
  picks_all out out' h feeds number front ends =
      let ended : EndsFeed m f (h.es ++ FeedEnd p.number ∷ []) f.shard.now.picked r s = subst (λ (n : ℕ). EndsFeed m f (h.es ++ FeedEnd n ∷ []) f.shard.now.picked r s) number (ends h.es h.scan) in
      let listed : list_at f.turn s.own.ledger.picked ≡ f.shard.now.picked = picked_listed feeds (h.es ++ FeedEnd p.number ∷ []) f.shard.now.picked ended in
      let blocks : ArePicksOf g f.turn (list_at f.turn s.own.ledger.picked) h.gained = subst (λ (ps : List Picked). ArePicksOf g f.turn ps h.gained) (sym listed) h.blocks in record {
        picks = h.es;
        scan = subst (λ (n : ℕ). ArePicks g n f.turn h.es) (sym h.scan.tried.number ∙ number) h.scan.picks;
        feeds = record {
          before = f.before.value;
          after = ended.after;
          reached = f.began.value;
          tried = r;
          more = notes_of g f.turn (length f.before.value.history) h.es;
          takes = takes;
          tries = h.scan.tried;
          legal = ended.legal;
          now = ended.now;
          history = ended.history;
          gave = ended.gave;
        };
        others = h.scan.others;
        notes = refl;
        gained = h.gained;
        out = h.out_is ∙ ap (λ (l : List Block). l ++ h.gained) front;
        blocks = blocks;
        listed = λ j x at. let t = gained_there g f.turn (list_at f.turn s.own.ledger.picked) h.gained j x blocks at in
            subst (λ (i : ℕ). is_some (pick_of x.key (list_at i s.own.ledger.picked)) ≡ true) t.0 t.1;
      }

-- ---- what the party is afterwards

module _ {C : Type 0} (m : Meanings C) (g : Config) (i : ℕ) where
  -- a feed leaves the party what it was to the cache
  pub feeds_stays : (es : List Event) (p s : Place (Known C)) → Feeds m g i es p s → Stays p s
  feeds_stays es p s d =
      let r = took_is m i (item.Shard d.before) p d.reached d.takes in record {
        table = ap (λ (x : Place (Known C)). x.table) d.gave ∙ (d.tries.table ∙ r.table);
        parties = ap (λ (x : Place (Known C)). x.parties) d.gave ∙ (d.tries.parties ∙ r.parties);
        number = ap (λ (x : Place (Known C)). x.number) d.gave ∙ (d.tries.number ∙ r.number);
        joined = ap (λ (x : Place (Known C)). x.joined) d.gave ∙ (d.tries.joined ∙ r.joined);
        held = ap (λ (x : Place (Known C)). x.held) d.gave ∙ (ap (without i) (d.tries.held ∙ r.held) ∙ ap (λ (b : Bool). if b then p.held else (i ∷ without i p.held)) (eq-eqb i i refl));
        about = ap (λ (x : Place (Known C)). x.own.about) d.gave ∙ (d.tries.about ∙ r.about);
      }
