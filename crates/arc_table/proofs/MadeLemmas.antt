-- Each call of the shared cache that makes events is one that a party makes of what it finds.
use Rattle.std.proofs.Common.{◌≡◌, ◌≢◌, ℕ, ◌-◌, List, [], length, map, sym, ap, ◌∙◌, arith}
use Rattle.blk_ptr.specs.declared.key.Key.{Key}
use Rattle.blk_ptr.specs.Hash.{shard_of}
use Rattle.arc_core.specs.Config.{IsConfig}
use Rattle.arc_core.specs.declared.config.Config.{Config}
use Rattle.arc_core.specs.declared.event.Event.{Event}
use Rattle.arc_core.specs.PlainShard.{PlainShard}
use Rattle.arc_core.specs.Replay.{replay}
use Rattle.turn_table.specs.Places.{Place}
use Rattle.arc_table.specs.declared.view.Known.{Known}
use Rattle.arc_table.specs.declared.view.Line.TheVariants as line
use Rattle.arc_table.specs.Both.{Does}
use Rattle.arc_table.specs.Fronts.{front_of}
use Rattle.arc_table.specs.Geometry.{bucket_turn, parties_of, shard_turn}
use Rattle.arc_table.specs.Items.{Meanings}
use Rattle.arc_table.specs.ShardGiving.{mines_of, passes_in}
use Rattle.arc_table.specs.TableLaws.{within}
use Rattle.arc_table.proofs.TableLaws.{front_else}
use Rattle.arc_table.proofs.Afterwards.{does_mine, does_seen, does_stays}
use Rattle.arc_table.proofs.PassMines.{mines_of_are}
use Rattle.arc_table.proofs.Reached.{reached, sound_log}
use Rattle.arc_table.specs.Seen.{AreOwnBy, HasSeenBy, MadeBy, turn_of}
use Rattle.arc_table.proofs.SeenLemmas.{finds, shard-is-above}

module _ {C : Type 0} {May : (n number : ℕ) → Type 0} (m : Meanings C) (g : Config) (valid : IsConfig g) (k : Key) (es : List Event) (p q : Place (Known C)) (config : p.own.about.config ≡ g)
    (own : HasSeenBy May g p) (mine : AreOwnBy May (parties_of g) p.number es) (d : Does m g k es p q) where
  apart : (j : ℕ) → j ≢ shard_of g.shards k → turn_of g j ≢ turn_of g (shard_of g.shards k)
  apart j differs is = differs (omega arith)

  -- an event or some of one key
  pub does-made : MadeBy May g (shard_of g.shards k) d.before es p q
  does-made =
      let r = reached m g k d.chain d.before p d.reached d.takes in
      let stays = does_stays m g valid k es p q config d in
      let sound = sound_log m g k d.chain d.before p d.reached d.takes config valid in
      let news = mines_of_are (shard_turn g k) (length d.before.history) (length d.reached.own.notes - passes_in es) es in
      record {
        same = record { number = stays.number; parties = stays.parties; joined = stays.joined; about = stays.about };
        found = finds m g valid k d.chain d.before p d.reached d.takes config own;
        replayed = ap (λ (x : PlainShard). replay x d.before.history) (sym sound.opening) ∙ sound.replayed.replayed;
        here = does_seen m g valid k es p q d;
        others = λ j differs.
            ap (λ (x : Place (Known C)). front_of (turn_of g j) x.own.seen) d.makes.gave
            ∙ (front_else (shard_turn g k) (turn_of g j) (map line.Event d.makes.after.history) d.reached.own.seen (apart j differs)
            ∙ (ap (front_of (turn_of g j)) r.seen
            ∙ (front_else (shard_turn g k) (turn_of g j) (map line.Event d.before.history) _ (apart j differs)
            ∙ front_else (bucket_turn g k) (turn_of g j) [] p.own.seen (shard-is-above m g valid k j))));
        news = mines_of (shard_turn g k) (length d.before.history) (length d.reached.own.notes - passes_in es) es;
        mine = does_mine m g valid k es p q d;
        each = λ y a at.
            let each = news.each y a at in
            (each.0, each.1, (let w = within _ y a at in let l = news.long in omega arith));
        own = mine;
      }
