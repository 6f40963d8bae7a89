-- Taking the bucket and the shard of a key, and giving both back.
use Rattle.std.proofs.Common.{◌≡◌, ℕ, List, [], ◌∷◌, map, length, Some, append-nil, sym, ap, ◌∙◌, subst, inl, inr, arith}
use Rattle.std.specs.Prelude.{IsTrue}
use Rattle.arc_core.specs.Replay.{is_legal_history, replay}
use Rattle.blk_ptr.specs.declared.key.Key.{Key}
use Rattle.blk_ptr.specs.Hash.{shard_of}
use Rattle.arc_core.specs.declared.config.Config.{Config}
use Rattle.arc_core.specs.Config.{IsConfig}
use Rattle.arc_core.specs.declared.event.Event.{Event}
use Rattle.arc_core.specs.PlainShard.{PlainShard}
use Rattle.arc_core.specs.ShardLog.{ShardLog}
use Rattle.hash_chain.specs.Chain.{Chain}
use Rattle.turn_table.specs.Board.{IsAmong}
use Rattle.turn_table.specs.Moments.{WasFree, WasTaken}
use Rattle.turn_table.specs.Places.{Place, gave_back, saw, took}
use Rattle.arc_table.specs.declared.about.About.{About}
use Rattle.arc_table.specs.declared.both.Both.{Both}
use Rattle.arc_table.specs.declared.front.Front.{Front}
use Rattle.arc_table.specs.declared.in_hand.Taken.{Taken}
use Rattle.arc_table.specs.declared.item.Item.{Item}
use Rattle.arc_table.specs.declared.item.Item.TheVariants as item
use Rattle.arc_table.specs.declared.view.Known.{Known}
use Rattle.arc_table.specs.declared.view.Line.TheVariants as line
use Rattle.arc_table.specs.Both.{Makes, Takes, TakesBoth}
use Rattle.arc_table.specs.Cache.{Cache, IsPartyOf}
use Rattle.arc_table.specs.Fronts.{front_of}
use Rattle.arc_table.specs.Geometry.{IsCell, IsShard, bucket_turn, shard_turn}
use Rattle.arc_table.specs.Giving.{IsAsTaken}
use Rattle.arc_table.specs.InHand.{buckets_of}
use Rattle.arc_table.specs.Items.{Meanings, holds_in}
use Rattle.arc_table.specs.Making.{IsMade}
use Rattle.arc_table.specs.ShardGiving.{after_shard}
use Rattle.arc_table.specs.pact.Rule.{Pact}
use Rattle.arc_table.specs.TableLaws.{item_here, list_here}
use Rattle.arc_table.proofs.TableLaws.{front_here}
use Rattle.arc_table.specs.Telling.{Tells}
use Rattle.arc_table.specs.Trying.{FindsBusy, at_shard}
use Rattle.arc_table.specs.Views.{after_lost, after_same, after_won}
use Rattle.arc_table.proofs.Ranges.{bucket_range, shard_range}
use Rattle.arc_table.proofs.Reached.{bucket_as_taken, bucket_below, bucket_stays, had_seen, reached, sound_log, took_is}

-- who holds cells alone has neither
pub no_bucket : (g : Config) (k : Key) (held : List ℕ) → IsConfig g → ((i : ℕ) → IsAmong i held → IsCell g i) → ¬ IsAmong (bucket_turn g k) held
no_bucket g k held valid cells among = let a = cells (bucket_turn g k) among in let b = (bucket_range g k valid).0 in omega arith

pub no_shard : (g : Config) (k : Key) (held : List ℕ) → IsConfig g → ((i : ℕ) → IsAmong i held → IsCell g i) → ¬ IsAmong (shard_turn g k) (bucket_turn g k ∷ held)
no_shard g k held valid cells (inl e) = bucket_below g k valid e
no_shard g k held valid cells (inr among) = let a = cells (shard_turn g k) among in let b = (shard_range g k valid).0 in omega arith

module _ {C : Type 0} (m : Meanings C) where
  -- a party of the cache is still one that has taken a turn
  pub took_party : (cache : Cache) (i : ℕ) (v : Item C) (p q : Place (Known C)) → Takes m i v p q → IsPartyOf cache p → IsPartyOf cache q
  took_party cache i v p q t of = let r = took_is m i v p q t in record {
    row = (r.table ∙ of.row.0, r.parties ∙ of.row.1);
    config = ap (λ (a : About). a.config) r.about ∙ of.config;
  }

  -- who has taken the bucket of a key, and had cells alone, hasn't its shard
  pub no_shard_yet : (g : Config) (k : Key) (v : Item C) (p q : Place (Known C)) → IsConfig g → Takes m (bucket_turn g k) v p q → ((i : ℕ) → IsAmong i p.held → IsCell g i) → ¬ IsAmong (shard_turn g k) q.held
  no_shard_yet g k v p q valid t cells among = no_shard g k p.held valid cells (subst (IsAmong (shard_turn g k)) (took_is m (bucket_turn g k) v p q t).held among)

  -- the bucket was taken, and then the shard
  pub both_taken : (g : Config) (k : Key) (own : Taken) (b : Both) (p q r : Place (Known C)) → b.hand.own ≡ own → Takes m (bucket_turn g k) (item.Bucket own.bucket) p q → Takes m (shard_turn g k) (item.Shard b.shard) q r
      → TakesBoth m g k b.hand.own.bucket b.shard p r
  both_taken g k own b p q r is bucket shard = record {
    between = q;
    bucket = subst (λ (x : Taken). Takes m (bucket_turn g k) (item.Bucket x.bucket) p q) (sym is) bucket;
    shard = shard;
  }

  -- and one that has taken both
  pub still_party : (cache : Cache) (k : Key) (chain : Chain) (before : ShardLog) (p q : Place (Known C)) → TakesBoth m cache.config k chain before p q → IsPartyOf cache p → IsPartyOf cache q
  still_party cache k chain before p q t of = let r = reached m cache.config k chain before p q t in record {
    row = (r.table ∙ of.row.0, r.parties ∙ of.row.1);
    config = ap (λ (a : About). a.config) r.about ∙ of.config;
  }

  module _ (g : Config) (k : Key) (es : List Event) (b : Both) (q : Place (Known C)) (made : IsMade m g k es b q) (same : q.own.about.config ≡ g) where
    same_from : made.from.own.about.config ≡ g
    same_from = ap (λ (a : About). a.config) (sym (reached m g k made.chain b.hand.before.value made.from q made.takes).about) ∙ same

    pub in_range : IsShard g b.turn
    in_range = subst (IsShard g) (sym made.kind.turn) (shard_range g k made.kind.valid)

    hand_is : buckets_of b.hand ≡ (bucket_turn g k, b.hand.own.bucket) ∷ []
    hand_is = λ z. (made.kind.own z, b.hand.own.bucket) ∷ map (λ t. (t.turn, t.bucket)) (made.kind.alone z)

    given_is : (r : Place (Known C)) → r ≡ gave_back q b.turn (after_shard m (buckets_of b.hand) b.turn b.hand.before.value es b.shard q.own)
        → r ≡ gave_back q (shard_turn g k) (after_shard m ((bucket_turn g k, b.hand.own.bucket) ∷ []) (shard_turn g k) b.hand.before.value es b.shard q.own)
    given_is r e = e ∙ (λ z. gave_back q (made.kind.turn z) (after_shard m (hand_is z) (made.kind.turn z) b.hand.before.value es b.shard q.own))

    pub still_taken : (r : Place (Known C)) → r ≡ gave_back q b.turn (after_shard m (buckets_of b.hand) b.turn b.hand.before.value es b.shard q.own)
        → IsAmong b.hand.own.turn r.held × IsAsTaken m b.hand.own.turn (item.Bucket b.hand.own.bucket) r.own
    still_taken r e = subst (λ (x : ℕ × Place (Known C)). IsAmong x.0 x.1.held × IsAsTaken m x.0 (item.Bucket b.hand.own.bucket) x.1.own) (λ z. (sym made.kind.own z, sym (given_is r e) z)) (
      bucket_stays m g k made.chain b.hand.before.value made.from q made.takes same_from made.kind.valid,
      bucket_as_taken m g k made.chain b.hand.before.value made.from q made.takes same_from made.kind.valid b.hand.own.bucket es b.shard,
    )

    pub makes_is : (r s : Place (Known C)) → r ≡ gave_back q b.turn (after_shard m (buckets_of b.hand) b.turn b.hand.before.value es b.shard q.own)
        → s ≡ gave_back r b.hand.own.turn (after_same b.hand.own.turn r.own) → Makes m g k b.hand.before.value es q s
    makes_is r s e f = record {
      after = b.shard;
      given = b.hand.own.bucket;
      legal = made.legal;
      now = made.now;
      history = made.history;
      gave = f ∙ (λ z. gave_back (given_is r e z) (made.kind.own z) (after_same (made.kind.own z) (given_is r e z).own));
    }

-- ---- a try that finds the shard with another

module _ {C : Type 0} (m : Meanings C) where
  -- a turn that was taken is so still, after a lost try on another one
  pub lost_as_taken : (i : ℕ) (u v : Item C) (j n : ℕ) (p q r : Place (Known C)) → u ≡ v → q ≡ took p i (after_won m i u p.own) → r ≡ saw q (after_lost j n q.own) → IsAsTaken m i v r.own
  lost_as_taken i u v j n p q r is won lost = subst (λ (x : Place (Known C)). IsAsTaken m i v x.own) (sym (lost ∙ (λ z. saw (won z) (after_lost j n (won z).own)))) record {
    recorded = item_here i u p.own.records ∙ ap (λ (x : Item C). Some x) is;
    listed = list_here i (holds_in m u) p.own.listed ∙ ap (holds_in m) is;
  }

  pub busy_at_shard : (g : Config) (k : Key) (i j : ℕ) (chain : Chain) (u : Item C) (n : ℕ) (p q r s : Place (Known C)) → i ≡ bucket_turn g k → j ≡ shard_turn g k → u ≡ item.Bucket chain
      → WasFree (Pact m) p i u → q ≡ took p i (after_won m i u p.own) → WasTaken (Pact m) q j n → r ≡ saw q (after_lost j n q.own) → s ≡ gave_back r i (after_same i r.own) → FindsBusy m g k n p s
  busy_at_shard g k i j chain u n p q r s bucket shard is free won taken lost gave =
      at_shard chain q (subst (λ (x : ℕ × Item C). WasFree (Pact m) p x.0 x.1) (λ z. (bucket z, is z)) free)
      (won ∙ (λ z. took p (bucket z) (after_won m (bucket z) (is z) p.own)))
      (subst (λ (x : ℕ). WasTaken (Pact m) q x n) shard taken)
      (gave ∙ ((λ z. gave_back (lost z) i (after_same i (lost z).own)) ∙ (λ z. gave_back q (bucket z) (after_same (bucket z) (after_lost (shard z) n q.own)))))

  -- ---- a front

  -- all that the shard's history was when the party took it is a front of the party's, which tells what was so of the shard then
  pub tells : (P : PlainShard → Type 0) (g : Config) (k : Key) (chain : Chain) (before : ShardLog) (p q r : Place (Known C)) (front : Front) → TakesBoth m g k chain before p q → p.own.about.config ≡ g → IsConfig g
      → front.shard ≡ shard_of g.shards k → front.len ≡ length before.history → Makes m g k before [] q r → P before.now → Tells P g k p r front
  tells P g k chain before p q r front t same valid shard len made so =
      let log = sound_log m g k chain before p q t same valid in
      let all : made.after.history ≡ before.history = made.history ∙ append-nil before.history in record {
        events = before.history;
        shard = shard;
        len = len;
        seen = ap (λ (x : Place (Known C)). front_of (shard_turn g k) x.own.seen) made.gave ∙ (front_here (shard_turn g k) (map line.Event made.after.history) q.own.seen ∙ ap (map line.Event) all);
        had = had_seen m g k chain before p q t same valid;
        legal = subst (λ (s : PlainShard). IsTrue (is_legal_history s before.history)) log.opening log.replayed.legal;
        so = subst P (sym (ap (λ (s : PlainShard). replay s before.history) (sym log.opening) ∙ log.replayed.replayed)) so;
      }
