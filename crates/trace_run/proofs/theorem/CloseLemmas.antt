-- What a closed cache has: the histories are what its parties saw and did, and no others' events.
use Rattle.std.proofs.Common.{◌≡◌, ℕ, zero, suc, ◌+◌, ◌*◌, IsTrue, List, [], ◌∷◌, ◌++◌, length, map, sym, ap, ◌∙◌, subst, append-nil}
use Rattle.std.proofs.lemmas.List.{length-map}
use mathlib.Core.Option.{some, some-injective, some-ne-none}
use lib.ListN.{get_elem?}
use Rattle.blk_ptr.specs.Hash.{shard_of}
use Rattle.arc_core.specs.declared.config.Config.{Config}
use Rattle.arc_core.specs.declared.event.Event.{Event}
use Rattle.arc_core.specs.Operations.{Act, Moment, Tell, acts_in, moments, own_moments}
use Rattle.arc_core.specs.Replay.{is_legal_history, replay}
use Rattle.arc_core.specs.ShardLog.{ShardLog}
use Rattle.turn_table.specs.Board.{free, opening}
use Rattle.turn_table.specs.Moments.{WasFree}
use Rattle.turn_table.specs.Places.{AllHeld, AllOnce, Apart, Place, Shows}
use Rattle.arc_table.specs.declared.item.Item.{Item}
use Rattle.arc_table.specs.declared.item.Item.TheVariants as item
use Rattle.arc_table.specs.declared.view.Known.{Known}
use Rattle.arc_table.specs.Cache.{Cache}
use Rattle.arc_table.specs.Ended.{Ended, Ends}
use Rattle.arc_table.specs.Geometry.{parties_of}
use Rattle.arc_table.specs.Items.{Meanings}
use Rattle.arc_table.specs.pact.Logged.{IsSoundItem, IsSoundLog}
use Rattle.arc_table.specs.pact.Rule.{Pact}
use Rattle.arc_table.proofs.HandHeads.{config_then, shard_then}
use Rattle.arc_table.specs.Telling.{opening_of}
use Rattle.arc_table.specs.Seen.{Finds, HasAll, HasSeenBy, seen_of, turn_of}
use Rattle.arc_table.specs.Told.{IsTold}
use Rattle.arc_table.proofs.OwnLemmas.{no-own-moments, own-append}
use Rattle.arc_table.proofs.SeenLemmas.{finds-then, get-behind}

pub get-map : {A B : Type 0} (f : A → B) (l : List A) (i : ℕ) (a : A) → get_elem? l i ≡ some a → get_elem? (map f l) i ≡ some (f a)
get-map f [] i a at = absurd (some-ne-none a (sym at))
get-map f (x ∷ xs) zero a at = ap (λ y. some (f y)) (some-injective x a at)
get-map f (x ∷ xs) (suc i) a at = get-map f xs i a at

module _ {C : Type 0} (m : Meanings C) (cache : Cache) (ps : List (Place (Known C))) (e : Ended C) (ends : Ends m cache ps e) (i : ℕ) (l : ShardLog) (at : get_elem? e.shards i ≡ some l) where
  abbrev g : Config
  g = cache.config

  abbrev values : List (Item C)
  values = map item.Cell e.cells ++ (map item.Bucket ends.buckets ++ map item.Shard e.shards)

  pub value-at : get_elem? values (turn_of g i) ≡ some (item.Shard l)
  value-at =
      let cells : length (map item.Cell e.cells) ≡ g.cells = length-map e.cells item.Cell ∙ ends.cells in
      let buckets : length (map item.Bucket ends.buckets) ≡ g.shards * g.buckets = length-map ends.buckets item.Bucket ∙ ends.chains in
      ap (λ (n : ℕ × ℕ). get_elem? values (n.0 + (n.1 + i))) (λ h. (sym cells h, sym buckets h))
      ∙ (get-behind (map item.Cell e.cells) (map item.Bucket ends.buckets ++ map item.Shard e.shards) (length (map item.Bucket ends.buckets) + i)
      ∙ (get-behind (map item.Bucket ends.buckets) (map item.Shard e.shards) i
      ∙ get-map item.Shard e.shards i l at))

  module _ (p : Place (Known C)) (shows : Shows ends.views p) (parties : p.parties ≡ parties_of cache.config) (held : p.held ≡ []) (apart : Apart p.number p.joined) where
    -- at the end the shard was free, as it is told
    abbrev pub last : WasFree (Pact m) p (turn_of g i) (item.Shard l)
    last = record {
      board = opening values ends.views;
      held = ends.pact;
      stands = record {
        count = ends.parties ∙ sym parties;
        shows = shows;
        apart = apart;
        held = subst (λ (is : List ℕ). AllHeld (map free values) p.number is) (sym held) tt;
        once = subst AllOnce (sym held) tt;
      };
      turn = get-map free values (turn_of g i) (item.Shard l) value-at;
    }

    module _ {May : (n number : ℕ) → Type 0} (config : p.own.about.config ≡ g) (seen : HasSeenBy May g p) where
      pub closed-finds : Finds g i p l.history
      closed-finds = finds-then m g p i l last seen config

      pub closed-sound : IsSoundLog g l
      closed-sound = subst (λ (c : Config). IsSoundLog c l) (config_then m p (turn_of g i) l last ∙ config)
          (subst (IsSoundItem m last.held.scene.about (turn_of g i)) (shard_then m p (turn_of g i) l last) (last.held.logged.sound (turn_of g i)))

      pub closed-legal : IsTrue (is_legal_history (opening_of g) l.history)
      closed-legal = subst (λ s. IsTrue (is_legal_history s l.history)) closed-sound.opening closed-sound.replayed.legal

      pub closed-now : replay (opening_of g) l.history ≡ l.now
      closed-now = ap (λ s. replay s l.history) (sym closed-sound.opening) ∙ closed-sound.replayed.replayed

      own-same : own_moments p.number (moments (opening_of g) l.history) ≡ own_moments p.number (moments (opening_of g) (seen_of g i p))
      own-same =
          ap (λ (es : List Event). own_moments p.number (moments (opening_of g) es)) closed-finds.whole
          ∙ (own-append p.number (opening_of g) (seen_of g i p) closed-finds.rest
          ∙ (ap (λ (ms : List Moment). own_moments p.number (moments (opening_of g) (seen_of g i p)) ++ ms) (no-own-moments p.number _ closed-finds.rest closed-finds.others)
          ∙ append-nil (own_moments p.number (moments (opening_of g) (seen_of g i p)))))

      -- what the party did stands in the history, each act once
      pub closed-told : (acts : List Act) → IsTold g acts p → Tell (acts_in (shard_of g.shards) i p.number acts) (own_moments p.number (moments (opening_of g) l.history))
      closed-told acts told = subst (Tell (acts_in (shard_of g.shards) i p.number acts)) (sym own-same) (told i)

      -- where the party has every number, the history is what it has seen
      pub closed-alone : HasAll p → l.history ≡ seen_of g i p
      closed-alone all = closed-finds.whole ∙ (ap (λ (es : List Event). seen_of g i p ++ es) (closed-finds.alone all) ∙ append-nil (seen_of g i p))
