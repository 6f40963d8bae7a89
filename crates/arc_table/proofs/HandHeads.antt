-- What a party that has a bucket in hand knows of it once it has taken the bucket's shard: its headers are the heads of the shard's entries.
use Rattle.std.proofs.Common.{◌≡◌, ℕ, Option, Some, sym, ap, ◌∙◌, subst}
use mathlib.Core.Option.{some-injective}
use Rattle.blk_ptr.specs.declared.key.Key.{Key}
use Rattle.arc_core.specs.declared.config.Config.{Config}
use Rattle.arc_core.specs.declared.entry.Entry.{Entry}
use Rattle.arc_core.specs.PlainShard.{entry_of}
use Rattle.arc_core.specs.ShardLog.{ShardLog}
use Rattle.hash_chain.specs.Chain.{Chain, header_at}
use Rattle.hash_chain.specs.declared.header.Header.{Header}
use Rattle.turn_table.specs.Board.{IsAmong}
use Rattle.turn_table.specs.Places.{Place}
use Rattle.turn_table.specs.Moments.{WasFree}
use Rattle.turn_table.proofs.Moments.{taken_at}
use Rattle.arc_table.specs.declared.item.Item.{Item}
use Rattle.arc_table.specs.declared.item.Item.TheVariants as item
use Rattle.arc_table.specs.declared.view.Known.{Known}
use Rattle.arc_table.specs.Fronts.{item_at}
use Rattle.arc_table.specs.Geometry.{bucket_turn, shard_turn}
use Rattle.arc_table.specs.pact.Headed.{IsHead}
use Rattle.arc_table.specs.Items.{Meanings, headers_in, shard_in}
use Rattle.arc_table.specs.pact.Rule.{Pact}

module _ {C : Type 0} (m : Meanings C) (p : Place (Known C)) (i : ℕ) (l : ShardLog) (f : WasFree (Pact m) p i (item.Shard l)) where
  -- the configuration that the party knows is the one of that moment
  pub config_then : f.held.scene.about.config ≡ p.own.about.config
  config_then = ap (λ a. a.config) (sym (f.held.attached.views p.number p.own f.stands.shows.0).about)

  pub shard_then : f.held.scene.now i ≡ item.Shard l
  shard_then = (f.held.attached.free i (item.Shard l) f.turn).0

  -- a bucket that the party has in hand is, at that moment, what the party's record says
  pub bucket_then : (j : ℕ) (b : Chain) → IsAmong j p.held → item_at j p.own.records ≡ Some (item.Bucket b) → f.held.scene.now j ≡ item.Bucket b
  bucket_then j b among is =
      let h = f.held.attached.taken j p.number (taken_at f.board p j f.stands among) in
      let same : h.0 ≡ p.own = some-injective h.0 p.own (sym h.1 ∙ f.stands.shows.0) in
      one (f.held.scene.now j) (item.Bucket b) (sym h.2 ∙ (ap (λ (w : Known C). item_at j w.records) same ∙ is))
    where
      one : (x y : Item C) → ◌≡◌ {A = Option (Item C)} (Some x) (Some y) → x ≡ y
      one x y q = cc

  -- so its headers are the heads of the shard's entries
  pub hand_heads : (b : Chain) (k : Key) → IsAmong (bucket_turn p.own.about.config k) p.held → item_at (bucket_turn p.own.about.config k) p.own.records ≡ Some (item.Bucket b) → i ≡ shard_turn p.own.about.config k
      → IsHead (entry_of k l.now) (header_at k b.headers)
  hand_heads b k among is own =
      let g : Config = p.own.about.config in
      let P : Config → Type 0 = λ c. IsHead (entry_of k (shard_in c (f.held.scene.now (shard_turn c k)))) (header_at k (headers_in (f.held.scene.now (bucket_turn c k)))) in
      let here : P g = subst P config_then (f.held.headed.heads k) in
      let shard : f.held.scene.now (shard_turn g k) ≡ item.Shard l = ap f.held.scene.now (sym own) ∙ shard_then in
      let bucket : f.held.scene.now (bucket_turn g k) ≡ item.Bucket b = bucket_then (bucket_turn g k) b among is in
      subst (λ (z : Item C × Item C). IsHead (entry_of k (shard_in g z.0)) (header_at k (headers_in z.1))) (λ j. (shard j, bucket j)) here

  -- the bucket has the headers of its own keys alone, and the shard the entries of its own
  pub hand_headers : (j : ℕ) (b : Chain) (k : Key) (h : Header) → IsAmong j p.held → item_at j p.own.records ≡ Some (item.Bucket b) → header_at k b.headers ≡ Some h → j ≡ bucket_turn p.own.about.config k
  hand_headers j b k h among is there =
      subst (λ (c : Config). j ≡ bucket_turn c k) config_then (f.held.headed.own_headers j k h (ap (λ (v : Item C). header_at k (headers_in v)) (bucket_then j b among is) ∙ there))

  pub hand_entries : (k : Key) (e : Entry) → entry_of k l.now ≡ Some e → i ≡ shard_turn p.own.about.config k
  hand_entries k e there =
      subst (λ (c : Config). i ≡ shard_turn c k) config_then (f.held.headed.own_entries i k e (ap (λ (v : Item C). entry_of k (shard_in f.held.scene.about.config v)) shard_then ∙ there))
