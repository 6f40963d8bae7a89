-- A party that holds a shard alone tries buckets, and gives those that it wins back at once.
use Rattle.std.proofs.Common.{◌≡◌, ◌≢◌, ◌==◌, if◌then◌else◌, ℕ, List, [], ◌∷◌, ◌++◌, length, Bool, true, false, Option, Some, refl, sym, ap, ◌∙◌, subst, eq-eqb, ne_eqb, append_assoc, arith}
use mathlib.Core.Option.{some-injective}
use Rattle.blk_ptr.specs.declared.key.Key.{Key}
use Rattle.arc_core.specs.declared.config.Config.{Config}
use Rattle.arc_core.specs.PlainShard.{entry_of}
use Rattle.arc_core.specs.ShardLog.{ShardLog}
use Rattle.hash_chain.specs.Chain.{Chain, header_at}
use Rattle.turn_table.specs.Board.{IsAmong, without}
use Rattle.turn_table.specs.Moments.{WasFree}
use Rattle.turn_table.specs.Places.{Place, gave_back, saw, took}
use Rattle.turn_table.proofs.Moments.{taken_at}
use Rattle.arc_table.specs.declared.item.Item.{Item}
use Rattle.arc_table.specs.declared.item.Item.TheVariants as item
use Rattle.arc_table.specs.declared.view.Known.{Known}
use Rattle.arc_table.specs.declared.view.Note.{Note}
use Rattle.arc_table.specs.Fronts.{item_at, without_item}
use Rattle.arc_table.specs.Geometry.{IsBucket, IsCell, IsShard, bucket_turn, shard_turn}
use Rattle.arc_table.specs.pact.Headed.{IsHead}
use Rattle.arc_table.specs.Items.{Meanings, headers_in, shard_in}
use Rattle.arc_table.specs.feeder.Picking.{HasTried}
use Rattle.arc_table.specs.pact.Rule.{Pact}
use Rattle.arc_table.specs.TableLaws.{list_else}
use Rattle.arc_table.proofs.TableLaws.{front_else, without_else}
use Rattle.arc_table.specs.Views.{after_lost, after_same, after_won, note, under_of}

-- ---- records without a bucket

without_here : {X : Type 0} (i : ℕ) (x : X) (ps : List (ℕ × X)) → without_item i ((i, x) ∷ ps) ≡ without_item i ps
without_here i x ps = ap (λ (b : Bool). if b then without_item i ps else ((i, x) ∷ without_item i ps)) (eq-eqb i i refl)

some_pair : (a b c d : ℕ) → ◌≡◌ {A = Option (ℕ × ℕ)} (Some (a, b)) (Some (c, d)) → a ≡ c
some_pair a b c d e = ap (λ (x : ℕ × ℕ). x.0) (some_is (a, b) (c, d) e)
  where
    some_is : (x y : ℕ × ℕ) → ◌≡◌ {A = Option (ℕ × ℕ)} (Some x) (Some y) → x ≡ y
    some_is x y e = cc

-- the shard in hand stays the first one among the records
under_without : {C : Type 0} (j i n : ℕ) (rs : List (ℕ × Item C)) → j ≢ i → under_of rs ≡ Some (i, n) → under_of (without_item j rs) ≡ Some (i, n)
under_without j i n [] far e = e
under_without {C} j i n ((k, item.Shard l) ∷ rs) far e =
    let same : k ≡ i = some_pair k (length l.history) i n e in
    let r : ℕ × Item C = (k, item.Shard l) in
    subst (λ (b : Bool). under_of (if b then without_item j rs else (r ∷ without_item j rs)) ≡ Some (i, n)) (sym (ne_eqb j k (λ q. far (q ∙ same)))) e
under_without {C} j i n ((k, item.Cell c) ∷ rs) far e = by_test (under_without j i n rs far e) (j == k)
  where
    by_test : under_of (without_item j rs) ≡ Some (i, n) → (b : Bool) → under_of (if b then without_item j rs else (let r : ℕ × Item C = (k, item.Cell c) in r ∷ without_item j rs)) ≡ Some (i, n)
    by_test ih true = ih
    by_test ih false = ih
under_without {C} j i n ((k, item.Bucket b) ∷ rs) far e = by_test (under_without j i n rs far e) (j == k)
  where
    by_test : under_of (without_item j rs) ≡ Some (i, n) → (t : Bool) → under_of (if t then without_item j rs else (let r : ℕ × Item C = (k, item.Bucket b) in r ∷ without_item j rs)) ≡ Some (i, n)
    by_test ih true = ih
    by_test ih false = ih

module _ {C : Type 0} (m : Meanings C) (g : Config) (i : ℕ) (before : ShardLog) (shard : IsShard g i) (j : ℕ) (bucket : IsBucket g j) where
  far_shard : i ≢ j
  far_shard e = let a = bucket.1 in let b = shard.0 in omega arith

  -- a bucket is won and given back
  pub tried_won : (more : List Note) (q r s t : Place (Known C)) (v : Item C) (b : Chain) → v ≡ item.Bucket b → HasTried g i before more q r → s ≡ took r j (after_won m j v r.own) → t ≡ gave_back s j (after_same j s.own) → HasTried g i before more q t
  tried_won more q r s t v b is h won gave = let e : t ≡ gave_back (took r j (after_won m j (item.Bucket b) r.own)) j (after_same j (after_won m j (item.Bucket b) r.own)) = gave ∙ ((λ z. gave_back (won z) j (after_same j (won z).own)) ∙ (λ z. gave_back (took r j (after_won m j (is z) r.own)) j (after_same j (after_won m j (is z) r.own)))) in
      subst (HasTried g i before more q) (sym e) record {
        table = h.table;
        parties = h.parties;
        number = h.number;
        joined = h.joined;
        held = ap (λ (c : Bool). if c then r.held else j ∷ without j r.held) (eq-eqb j j refl) ∙ h.held;
        own_number = h.own_number;
        about = h.about;
        mine = h.mine;
        ledger = h.ledger;
        recorded = items i far_shard ∙ h.recorded;
        under = ap under_of (without_here j (item.Bucket b) r.own.records) ∙ under_without j i (length before.history) r.own.records (λ x. far_shard (sym x)) h.under;
        listed = list_else j i [] r.own.listed far_shard ∙ h.listed;
        records = λ k cell. items k (far_cell k cell) ∙ h.records k cell;
        lists = λ k cell. list_else j k [] r.own.listed (far_cell k cell) ∙ h.lists k cell;
        seen = λ k other. front_else j k [] r.own.seen (λ x. other (subst (IsBucket g) (sym x) bucket)) ∙ h.seen k other;
        notes = h.notes;
      }
    where
      items : (k : ℕ) → k ≢ j → item_at k (without_item j ((j, item.Bucket b) ∷ r.own.records)) ≡ item_at k r.own.records
      items k far = ap (item_at k) (without_here j (item.Bucket b) r.own.records) ∙ without_else j k r.own.records far

      far_cell : (k : ℕ) → IsCell g k → k ≢ j
      far_cell k cell x = let a = bucket.0 in omega arith

  -- another party has it
  pub tried_lost : (more : List Note) (q r t : Place (Known C)) (owner : ℕ) → HasTried g i before more q r → t ≡ saw r (after_lost j owner r.own) → HasTried g i before (more ++ note j owner (Some (i, length before.history)) ∷ []) q t
  tried_lost more q r t owner h lost = subst (HasTried g i before (more ++ note j owner (Some (i, length before.history)) ∷ []) q) (sym lost) record {
    table = h.table;
    parties = h.parties;
    number = h.number;
    joined = h.joined;
    held = h.held;
    own_number = h.own_number;
    about = h.about;
    mine = h.mine;
    ledger = h.ledger;
    recorded = h.recorded;
    under = h.under;
    listed = h.listed;
    records = h.records;
    lists = h.lists;
    seen = h.seen;
    notes = (λ z. h.notes z ++ note j owner (h.under z) ∷ []) ∙ append_assoc q.own.notes more (note j owner (Some (i, length before.history)) ∷ []);
  }

-- ---- a bucket that is free while the party holds its shard

-- its headers say what the shard's entries did when the party took it
pub won_head : {C : Type 0} (m : Meanings C) (g : Config) (k : Key) (i : ℕ) (before : ShardLog) (r : Place (Known C)) (b : Chain) → r.own.about.config ≡ g → IsAmong i r.held → item_at i r.own.records ≡ Some (item.Shard before) → i ≡ shard_turn g k
    → WasFree (Pact m) r (bucket_turn g k) (item.Bucket b) → IsHead (entry_of k before.now) (header_at k b.headers)
won_head {C} m g k i before r b config among recorded own f =
    let s = f.held.scene in
    let shown = f.held.attached.views r.number r.own f.stands.shows.0 in
    let same : s.about.config ≡ g = ap (λ a. a.config) (sym shown.about) ∙ config in
    let h = f.held.attached.taken i r.number (taken_at f.board r i f.stands among) in
    let who : h.0 ≡ r.own = some-injective h.0 r.own (sym h.1 ∙ f.stands.shows.0) in
    let shard_now : s.now i ≡ item.Shard before = one (s.now i) (item.Shard before) (sym h.2 ∙ (ap (λ (w : Known C). item_at i w.records) who ∙ recorded)) in
    let shard_is : s.now (shard_turn g k) ≡ item.Shard before = ap s.now (sym own) ∙ shard_now in
    let bucket_is : s.now (bucket_turn g k) ≡ item.Bucket b = (f.held.attached.free (bucket_turn g k) (item.Bucket b) f.turn).0 in
    subst (λ (z : Item C × Item C). IsHead (entry_of k (shard_in g z.0)) (header_at k (headers_in z.1))) (λ z. (shard_is z, bucket_is z))
    (subst (λ (c : Config). IsHead (entry_of k (shard_in c (s.now (shard_turn c k)))) (header_at k (headers_in (s.now (bucket_turn c k))))) same (f.held.headed.heads k))
  where
    one : (x y : Item C) → ◌≡◌ {A = Option (Item C)} (Some x) (Some y) → x ≡ y
    one x y q = cc
