-- A feed's scan tries the bucket of its candidate.
use Rattle.std.proofs.Common.{◌≡◌, ℕ, List, [], ◌∷◌, ◌++◌, length, true, false, Option, Some, None, refl, sym, ap, ◌∙◌, subst}
use Rattle.std.specs.Prelude.{IsSome, IfOk, Result, Ok, Err, ◌&&◌}
use Rattle.std.specs.Option.{option_and_then, option_map_or}
use Rattle.blk_ptr.specs.declared.digest.Digest.{Digest}
use Rattle.blk_ptr.specs.declared.key.Key.{Key}
use Rattle.blk_ptr.specs.declared.ptr.Ptr.{Ptr}
use Rattle.blk_ptr.specs.Order.{digest_eq}
use Rattle.std.proofs.lemmas.Slice.Eq.{bytes_eq-Decides}
use Rattle.arc_lists.specs.ByKey as by_key
use Rattle.arc_core.specs.declared.config.Config.{Config}
use Rattle.arc_core.specs.declared.entry.Entry.{Entry}
use Rattle.arc_core.specs.declared.event.Event.{Event}
use Rattle.arc_core.specs.Candidate.{candidate}
use Rattle.arc_core.specs.PlainShard.{entry_key, entry_of, is_resident, keeps_digest}
use Rattle.hash_chain.specs.Chain.{Chain, header_at}
use Rattle.turn_table.specs.Board.{IsAmong}
use Rattle.turn_table.specs.Moments.{WasFree}
use Rattle.turn_table.specs.Places.{Place, gave_back, saw, took}
use Rattle.arc_table.specs.declared.item.Item.{Item}
use Rattle.arc_table.specs.declared.item.Item.TheVariants as item
use Rattle.arc_table.specs.declared.picks.Feed.{Feed}
use Rattle.arc_table.specs.declared.view.Known.{Known}
use Rattle.arc_table.specs.Geometry.{IsBucket, bucket_turn, shard_turn}
use Rattle.arc_table.specs.Giving.{IsAsTaken}
use Rattle.arc_table.specs.pact.Headed.{IsHead}
use Rattle.arc_table.specs.Items.{Meanings, holds_in}
use Rattle.arc_table.specs.feeder.Picking.{HasNoted, HasPicked, HasTried, IsBlockOf}
use Rattle.arc_table.specs.pact.Rule.{Pact}
use Rattle.arc_table.specs.scans.Scanning.{notes_of}
use Rattle.arc_table.specs.pact.Standing.{bytes_at}
use Rattle.arc_table.specs.TableLaws.{item_here, list_here}
use Rattle.arc_table.specs.Views.{after_lost, after_same, after_won, note}
use Rattle.arc_table.proofs.feeder.Candidates.{IsCandidate, candidate_is}
use Rattle.arc_table.proofs.feeder.FeedScan.{own_key}
use Rattle.arc_table.proofs.reads.HitEvents.{Cached, cached, passes_at}
use Rattle.arc_table.proofs.Ranges.{bucket_range}
use Rattle.arc_table.proofs.Tries.{tried_lost, tried_won, won_head}

digest_same : (d : Digest) → digest_eq d d ≡ true
digest_same d = (bytes_eq-Decides d.0 d.0).1 refl

module _ {C : Type 0} (m : Meanings C) (g : Config) (f : Feed C) (r : Place (Known C)) (es : List Event) (has : HasPicked g f r es) (k : Key) (is : candidate f.shard.now ≡ Some k) where
  pub entry : IsCandidate f.shard.now k
  entry = candidate_is f.shard.now k has.replayed.sound is

  pub own : f.turn ≡ shard_turn g k
  own = own_key g f r es has k entry.entry entry.there

  -- the party has no bucket in hand
  pub not_held : ¬ IsAmong (bucket_turn g k) r.held
  not_held among = none (has.may.others (bucket_turn g k) (subst (IsAmong (bucket_turn g k)) has.tried.held among) (bucket_range g k has.valid))
    where
      none : IsSome {T = Chain} None → ⊥
      none h = let f : false ≡ true = h in cc

  pub config : r.own.about.config ≡ g
  config = ap (λ a. a.config) has.tried.about ∙ has.may.config

  module _ (b : Chain) (free : WasFree (Pact m) r (bucket_turn g k) (item.Bucket b)) where
    head : IsHead (entry_of k f.shard.now) (header_at k b.headers)
    head = subst (λ (xs : List Entry). IsHead (by_key.item_at entry_key k xs) (header_at k b.headers)) (sym has.entries)
        (won_head m g k f.turn f.before.value r b config (subst (IsAmong f.turn) (sym has.tried.held) has.may.among) has.tried.recorded own free)

    abbrev ptr : Ptr
    ptr = record { key = k; digest = entry.digest }

    pub there : Cached ptr f.shard.now b.headers
    there = cached ptr f.shard.now b.headers (passes_at (λ e. is_resident e && keeps_digest entry.digest e) k f.shard.now entry.entry entry.there
        (λ z. entry.resident z && (ap (λ (o : Option Digest). option_map_or (λ kept. digest_eq kept entry.digest) o false) entry.digest_is ∙ digest_same entry.digest) z)) head

    pub block_is : (bytes : List ℕ) → bytes_at k b.headers ≡ Some bytes → IsBlockOf k f.shard.now bytes
    block_is bytes e =
        let same : there.bytes ≡ bytes = some_is there.bytes bytes (sym there.kept ∙ e) in
        subst (IsBlockOf k f.shard.now) same record {
          digest = ap (option_and_then (λ (y : Entry). y.digest)) entry.there ∙ (entry.digest_is ∙ ap Some (sym there.of.digest));
          size = there.of.size;
        }
      where
        some_is : (x y : List ℕ) → ◌≡◌ {A = Option (List ℕ)} (Some x) (Some y) → x ≡ y
        some_is x y e = cc

  -- the bucket was won, and is given back
  pub won_as_taken : (j : ℕ) (v : Item C) (b : Chain) (s : Place (Known C)) → v ≡ item.Bucket b → s ≡ took r j (after_won m j v r.own) → IsAsTaken m j (item.Bucket b) s.own
  won_as_taken j v b s v_is won = subst (λ (x : Place (Known C)). IsAsTaken m j (item.Bucket b) x.own) (sym won) record {
    recorded = item_here j v r.own.records ∙ ap (λ (x : Item C). Some x) v_is;
    listed = list_here j (holds_in m v) r.own.listed ∙ ap (holds_in m) v_is;
  }

  pub still_picked : (j : ℕ) (v : Item C) (b : Chain) (s t : Place (Known C)) → j ≡ bucket_turn g k → v ≡ item.Bucket b → s ≡ took r j (after_won m j v r.own) → t ≡ gave_back s j (after_same j s.own)
      → (xs : List Event) → HasPicked g f r xs → HasPicked g f t xs
  still_picked j v b s t j_is v_is won gave xs h = record {
    valid = h.valid;
    may = h.may;
    idle = h.idle;
    tried = tried_won m g f.turn f.before.value h.may.range j (subst (IsBucket g) (sym j_is) (bucket_range g k h.valid)) (notes_of g f.turn (length f.before.value.history) xs) f.began.value r s t v b v_is h.tried won gave;
    picks = h.picks;
    others = h.others;
    legal = h.legal;
    now = h.now;
    history = h.history;
    opening = h.opening;
    replayed = h.replayed;
    entries = h.entries;
    phase = h.phase;
    long = h.long;
  }

  -- another party has it
  pub noted : (j owner : ℕ) (t : Place (Known C)) → j ≡ bucket_turn g k → t ≡ saw r (after_lost j owner r.own) → (xs : List Event) → HasPicked g f r xs → HasNoted g f t k owner xs
  noted j owner t j_is lost xs h = record {
    scan = (r, h);
    tried = subst (λ (x : ℕ). HasTried g f.turn f.before.value (notes_of g f.turn (length f.before.value.history) xs ++ note x owner (Some (f.turn, length f.before.value.history)) ∷ []) f.began.value t) j_is
        (tried_lost m g f.turn f.before.value h.may.range j (subst (IsBucket g) (sym j_is) (bucket_range g k h.valid)) (notes_of g f.turn (length f.before.value.history) xs) f.began.value r t owner h.tried lost);
  }

-- the block that was found is of the entry
pub block_if : {C : Type 0} {X E : Type 0} (m : Meanings C) (g : Config) (f : Feed C) (r : Place (Known C)) (es : List Event) (has : HasPicked g f r es) (k : Key) (is : candidate f.shard.now ≡ Some k) (b : Chain) (free : WasFree (Pact m) r (bucket_turn g k) (item.Bucket b))
    (value : X → List ℕ) (result : Result X E) → IfOk result (λ x. bytes_at k b.headers ≡ Some (value x)) → IfOk result (λ x. IsBlockOf k f.shard.now (value x))
block_if m g f r es has k is b free value (Ok x) h = block_is m g f r es has k is b free (value x) h
block_if m g f r es has k is b free value (Err e) h = tt
