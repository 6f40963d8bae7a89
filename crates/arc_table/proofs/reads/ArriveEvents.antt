-- The end of a read: what a party reads is being read and held by it, so that its bytes may arrive, and it may fail.
use Rattle.std.proofs.Common.{◌≡◌, ◌==◌, if◌then◌else◌, cond, ℕ, zero, suc, ◌<◌, List, [], ◌∷◌, ◌++◌, length, Bool, true, false, Option, Some, None, refl, sym, ap, ◌∙◌, subst, inl, eq-eqb, arith}
use Rattle.std.specs.Prelude.{IsTrue, ◌&&◌, not, nat_lt, is_some, MatchOption}
use Rattle.std.specs.Option.{option_and_then, option_map, option_map_or}
use Rattle.std.proofs.lemmas.Bool.Decides.{nat_tests}
use mathlib.Core.Option.{some, some-injective, some-ne-none}
use lib.ListN.{get_elem?}
use Rattle.blk_ptr.specs.declared.digest.Digest.{Digest}
use Rattle.blk_ptr.specs.declared.key.Key.{Key}
use Rattle.blk_ptr.specs.declared.ptr.Ptr.{Ptr}
use Rattle.blk_ptr.specs.declared.state.State.{State}
use Rattle.blk_ptr.specs.declared.state.State.TheVariants.{Anon, Mru, MruGhost, Mfu, MfuGhost, L2Only}
use Rattle.blk_ptr.specs.Order.{key_eq}
use Rattle.blk_ptr.specs.Ptr.{sha256_of}
use Rattle.blk_ptr.specs.State.{is_cached}
use Rattle.blk_ptr.proofs.Keys.{key_eq-same}
use Rattle.arc_lists.proofs.Tables.{item_at-key}
use Rattle.arc_core.specs.declared.config.Config.{Config}
use Rattle.arc_core.specs.Config.{IsConfig}
use Rattle.arc_core.specs.declared.entry.Entry.{Entry}
use Rattle.arc_core.specs.declared.event.Event.TheVariants.{Arrive, Fail}
use Rattle.arc_core.specs.declared.event.FailedAt.{FailedAt}
use Rattle.arc_core.specs.declared.event.Origin.{Origin}
use Rattle.arc_core.specs.declared.event.Origin.TheVariants as origin
use Rattle.arc_core.specs.PlainShard.{PlainShard, entry_is, entry_key, entry_of, held_by, is_resident, numbers, place_of}
use Rattle.arc_core.specs.Rules.{arrived_state}
use Rattle.arc_core.specs.ShardLog.{ShardLog}
use Rattle.arc_core.specs.Sound.{IsSound, fits_state}
use Rattle.arc_core.specs.Step.{after, arrived, legal, may_come_from, reads}
use Rattle.arc_core.proofs.Others.{own-entry}
use Rattle.hash_chain.specs.Chain.{Chain, IsWith, header_at}
use Rattle.hash_chain.specs.declared.header.Header.{Header}
use Rattle.turn_table.specs.Places.{Place}
use Rattle.arc_table.specs.declared.about.About.{About}
use Rattle.arc_table.specs.declared.both.Both.{Both}
use Rattle.arc_table.specs.declared.view.Known.{Known}
use Rattle.arc_table.specs.Arriving.{IsReading}
use Rattle.arc_table.specs.Booking.{holds_after, with_hold}
use Rattle.arc_table.specs.Both.{Makes, TakesBoth}
use Rattle.arc_table.specs.pact.Counted.{readings_of}
use Rattle.arc_table.specs.Geometry.{shard_turn}
use Rattle.arc_table.specs.pact.Headed.{IsHead, Says}
use Rattle.arc_table.specs.Holding.{IsListed, own}
use Rattle.arc_table.specs.InHand.{made_since}
use Rattle.arc_table.specs.Items.{Meanings}
use Rattle.arc_table.specs.Making.{IsMade, IsTaken}
use Rattle.arc_table.specs.pact.Standing.{Follows}
use Rattle.arc_table.proofs.Bookings.{readings_cons}
use Rattle.arc_table.proofs.FollowEvents.{IsLikeIf, follow_made, header_there, like_none}
use Rattle.arc_table.proofs.reads.HitEvents.{head_there, passes_at}
use Rattle.arc_table.proofs.OneEvent.{one_made, some_is, taken_few, taken_head, taken_number, taken_sound}
use Rattle.arc_table.proofs.Reached.{counted, counted_there, is_read, reached}
use Rattle.arc_table.proofs.ShardGives.{entry_sound}
use Rattle.arc_table.proofs.Standings.{both_true}

-- ---- what a party reads

one_reads : (k : Key) (ks : List Key) (q : ℕ) → get_elem? ks q ≡ some k → 0 < readings_of k ks
one_reads k [] q e = absurd (some-ne-none k (sym e))
one_reads k (x ∷ ks) zero e =
    let here : key_eq k x ≡ true = ap (key_eq k) (some-injective x k e) ∙ key_eq-same k in
    let sum = readings_cons k x ks in
    let one : cond {A = ℕ} (key_eq k x) 1 0 ≡ 1 = ap (λ (b : Bool). cond {A = ℕ} b 1 0) here in
    omega arith
one_reads k (x ∷ ks) (suc q) e = let ih = one_reads k ks q e in let sum = readings_cons k x ks in omega arith

-- the number n reads the key
pub record IsReadBy (n : ℕ) (k : Key) (s : PlainShard) : Type 0 where
  pub entry : Entry
  pub there : entry_of k s ≡ Some entry
  pub reading : entry.reading ≡ true
  pub held : 0 < held_by n entry

pub read_by : {C : Type 0} (m : Meanings C) (g : Config) (k : Key) (chain : Chain) (before : ShardLog) (p q : Place (Known C)) → TakesBoth m g k chain before p q → p.own.about.config ≡ g → IsConfig g → IsReading k q → IsReadBy q.number k before.now
read_by {C} m g k chain before p q t same valid one =
    let r = is_read m g k chain before p q t same valid k refl one in
    let c = counted m g k chain before p q t same valid k refl in
    let some_reading = one_reads k q.own.ledger.readings one.0 one.1 in
    let there = counted_there q.number k before.now r.entry r.there in
    record { entry = r.entry; there = r.there; reading = r.reading; held = omega arith }

-- a party that took both reads what it read
pub reading_taken : {C : Type 0} (m : Meanings C) (g : Config) (k : Key) (chain : Chain) (before : ShardLog) (p q : Place (Known C)) → TakesBoth m g k chain before p q → (j : Key) → IsReading j p → IsReading j q
reading_taken m g k chain before p q t j one = (one.0, ap (λ l. get_elem? l.readings one.0) (reached m g k chain before p q t).ledger ∙ one.1)

-- ---- the events are legal

below : (x y : ℕ) → x < y → nat_lt x y ≡ true
below x y h = grind (arith, nat_tests)

not_zero : (x : ℕ) → 0 < x → not (x == 0) ≡ true
not_zero x h = grind (arith, nat_tests)

and_true : (a b : Bool) → a ≡ true → b ≡ true → (a && b) ≡ true
and_true a b h k = λ z. h z && k z

read_passes : (n : ℕ) (k : Key) (s : PlainShard) (r : IsReadBy n k s) → reads n r.entry ≡ true
read_passes n k s r = and_true r.entry.reading (not (held_by n r.entry == 0)) r.reading (not_zero (held_by n r.entry) r.held)

test_there : (test : Entry → Bool) (k : Key) (s : PlainShard) (e : Entry) → entry_of k s ≡ Some e → IsTrue (entry_is test k s) → test e ≡ true
test_there test k s e there h = sym (ap (λ (o : Option Entry). option_map_or test o false) there) ∙ h

pub arrive_legal : (n : ℕ) (k : Key) (d : Digest) (from : Origin) (s : PlainShard) → n < numbers → IsReadBy n k s → IsTrue (entry_is (may_come_from from) k s) → IsTrue (legal s (Arrive n k d from))
arrive_legal n k d from s few r comes = and_true _ _ (below n numbers few)
    (passes_at (λ e. reads n e && may_come_from from e) k s r.entry r.there (and_true _ _ (read_passes n k s r) (test_there (may_come_from from) k s r.entry r.there comes)))

-- bytes that may not arrive are the device's, of an entry that has no place there
pub not_come : (n : ℕ) (k : Key) (from : Origin) (s : PlainShard) → IsReadBy n k s → entry_is (may_come_from from) k s ≡ false → (from ≡ origin.L2) × (place_of k s ≡ None)
not_come n k from s r h = by_origin from (sym (ap (λ (o : Option Entry). option_map_or (may_come_from from) o false) r.there) ∙ h)
  where
    no_place : (o : Option ℕ) → is_some o ≡ false → o ≡ None
    no_place None f = refl
    no_place (Some p) f = absurd (cc)

    by_origin : (x : Origin) → may_come_from x r.entry ≡ false → (x ≡ origin.L2) × (place_of k s ≡ None)
    by_origin origin.Pool f = absurd (cc)
    by_origin origin.L2 f = (refl, ap (option_and_then (λ (e : Entry). e.place)) r.there ∙ no_place r.entry.place f)

pub fail_legal : (n : ℕ) (k : Key) (at : FailedAt) (s : PlainShard) → n < numbers → IsReadBy n k s → IsTrue (legal s (Fail n k at))
fail_legal n k at s few r = and_true _ _ (below n numbers few) (passes_at (reads n) k s r.entry r.there (read_passes n k s r))

-- ---- what they make of the entry

-- bytes that arrive are cached: an entry that is being read is anonymous or MFU
arrived_cached : (e : Entry) (state : State) → e.reading ≡ true → IsTrue (fits_state state e) → is_cached (arrived_state state) ≡ true
arrived_cached e Anon reading fits = refl
arrived_cached e Mru reading fits = refl
arrived_cached e Mfu reading fits = refl
arrived_cached e MruGhost reading fits = let f : false ≡ true = ap not (sym reading) ∙ (both_true _ _ fits).0 in absurd (cc)
arrived_cached e MfuGhost reading fits = let f : false ≡ true = ap not (sym reading) ∙ (both_true _ _ fits).0 in absurd (cc)
arrived_cached e L2Only reading fits = let f : false ≡ true = ap not (sym reading) ∙ (both_true _ _ fits).0 in absurd (cc)

pub entry_arrived : (n : ℕ) (k : Key) (d : Digest) (from : Origin) (s : PlainShard) (e : Entry) → IsSound s → IsTrue (legal s (Arrive n k d from)) → entry_of k s ≡ Some e → entry_of k (after s (Arrive n k d from)) ≡ Some (arrived d e)
entry_arrived n k d from s e sound ok there = own-entry s (Arrive n k d from) k sound ok refl ∙ ap (option_map (arrived d)) there

arrived_resident : (k : Key) (d : Digest) (s : PlainShard) (e : Entry) → IsSound s → entry_of k s ≡ Some e → e.reading ≡ true → is_resident (arrived d e) ≡ true
arrived_resident k d s e sound there reading = and_true _ _ (arrived_cached e e.state reading (entry_sound k s.entries e sound.tidy.entries there).state) refl

-- a header that has the block says what the entry does once its bytes have arrived
pub arrived_says : (k : Key) (d : Digest) (e x : Entry) (o : Header) → x ≡ arrived d e → e.key ≡ k → is_resident (arrived d e) ≡ true
    → (o.state ≡ x.state) × (o.reading ≡ false) × (o.place ≡ x.place) × (o.digest ≡ x.digest) × MatchOption o.block ⊥ (λ c. (sha256_of c.block.value ≡ d) × (length c.block.value ≡ k.size)) → Says x o
arrived_says k d e x o is key resident h = record {
  state = h.0;
  reading = h.1 ∙ ap (λ (z : Entry). z.reading) (sym is);
  place = h.2;
  digest = h.3;
  block = (elim o.block as (λ c. MatchOption c ⊥ (λ b. (sha256_of b.block.value ≡ d) × (length b.block.value ≡ k.size)) → MatchOption c (is_resident x ≡ false) (λ b. (is_resident x ≡ true) × (x.digest ≡ Some (sha256_of b.block.value)) × (length b.block.value ≡ x.key.size))) [
    | None ↦ λ f. absurd f
    | Some c ↦ λ f. (
      ap is_resident is ∙ resident,
      ap (λ (z : Entry). z.digest) is ∙ ap (λ (z : Digest). let v : Option Digest = Some z in v) (sym f.0),
      f.1 ∙ (ap (λ (z : Key). z.size) (sym key) ∙ ap (λ (z : Entry). z.key.size) (sym is)),
    )
  ]) h.4;
}

module _ {C : Type 0} (m : Meanings C) (g : Config) (k : Key) (b : Both) (q : Place (Known C)) (taken : IsTaken m g k b q) (same : q.own.about.config ≡ g) (valid : IsConfig g) (reading : IsReading k q) where
  from_config : taken.from.own.about.config ≡ g
  from_config = ap (λ (a : About). a.config) (sym (reached m g k b.hand.own.bucket b.shard taken.from q taken.takes).about) ∙ same

  pub taken_read : IsReadBy q.number k b.shard.now
  taken_read = read_by m g k b.hand.own.bucket b.shard taken.from q taken.takes from_config valid reading

  few : q.number < numbers
  few = taken_few m g k b q taken same valid

  sound : IsSound b.shard.now
  sound = taken_sound m g k b q taken same valid

  pub may_arrive : (d : Digest) (from : Origin) → IsTrue (entry_is (may_come_from from) k b.shard.now) → IsTrue (legal b.shard.now (Arrive q.number k d from))
  may_arrive d from comes = arrive_legal q.number k d from b.shard.now few taken_read comes

  -- what the header of the key says of the entry that is being read
  pub header_says : (h : Header) → header_at k b.hand.own.bucket.headers ≡ Some h → Says taken_read.entry h
  header_says h had =
      let x = head_there (entry_of k b.shard.now) (header_at k b.hand.own.bucket.headers) taken_read.entry (taken_head m g k b q taken same valid) taken_read.there in
      subst (Says taken_read.entry) (some_is x.0 h (sym x.1 ∙ had)) x.2

  -- whether bytes may come is told by the place that it says
  pub comes_by : (from : Origin) (h : Header) (answer : Bool) → header_at k b.hand.own.bucket.headers ≡ Some h → ((e : Entry) → h.place ≡ e.place → answer ≡ may_come_from from e) → answer ≡ entry_is (may_come_from from) k b.shard.now
  comes_by from h answer had told = told taken_read.entry (header_says h had).place ∙ sym (ap (λ (o : Option Entry). option_map_or (may_come_from from) o false) taken_read.there)

  pub may_fail : (at : FailedAt) → IsTrue (legal b.shard.now (Fail q.number k at))
  may_fail at = fail_legal q.number k at b.shard.now few taken_read

  module _ (d : Digest) (from : Origin) (comes : IsTrue (entry_is (may_come_from from) k b.shard.now)) (l : ShardLog) (now : l.now ≡ after b.shard.now (Arrive q.number k d from)) where
    pub entry_now : entry_of k l.now ≡ Some (arrived d taken_read.entry)
    entry_now = ap (entry_of k) now ∙ entry_arrived q.number k d from b.shard.now taken_read.entry sound (may_arrive d from comes) taken_read.there

    -- the bytes arrive, and the key has this header
    pub arrive_made : (given : Chain) (o : Header) → l.history ≡ b.shard.history ++ Arrive q.number k d from ∷ [] → l.opening ≡ b.shard.opening → IsWith k (Some o) b.hand.own.bucket.headers given.headers
        → (x : Entry) → entry_of k l.now ≡ Some x → (o.state ≡ x.state) × (o.reading ≡ false) × (o.place ≡ x.place) × (o.digest ≡ x.digest) × MatchOption o.block ⊥ (λ c. (sha256_of c.block.value ≡ d) × (length c.block.value ≡ k.size))
        → IsMade m g k (made_since b.hand.before.value l) record { hand = record b.hand { own = record b.hand.own { bucket = given } }; turn = b.turn; shard = l } q
    arrive_made given o history opening with x there is =
        let e = taken_read.entry in
        let same_entry : x ≡ arrived d e = one_entry x (arrived d e) (sym there ∙ entry_now) in
        one_made m g k b q taken same valid (Arrive q.number k d from) record { hand = record b.hand { own = record b.hand.own { bucket = given } }; turn = b.turn; shard = l } (Some o)
        refl refl (refl, refl) refl refl (may_arrive d from comes) now history opening
        record { acts = inl refl; fit = tt; feeder = λ f. absurd (cc); own = λ j f. ap (shard_turn g) (some_is k j f) } with
        (subst (λ (y : Option Entry). IsHead y (Some o)) (sym there)
        (arrived_says k d e x o same_entry (item_at-key entry_key k b.shard.now.entries e taken_read.there) (arrived_resident k d b.shard.now e sound taken_read.there taken_read.reading) is))
      where
        one_entry : (x y : Entry) → ◌≡◌ {A = Option Entry} (Some x) (Some y) → x ≡ y
        one_entry x y r = cc

  -- the read has failed, and the header goes
  pub fail_made : (at : FailedAt) (l : ShardLog) (given : Chain) → l.now ≡ after b.shard.now (Fail q.number k at) → l.history ≡ b.shard.history ++ Fail q.number k at ∷ [] → l.opening ≡ b.shard.opening
      → Follows k l.now b.hand.own.bucket.headers given.headers
      → IsMade m g k (made_since b.hand.before.value l) record { hand = record b.hand { own = record b.hand.own { bucket = given } }; turn = b.turn; shard = l } q
  fail_made at l given now history opening f =
      follow_made m g k b q taken same valid (Fail q.number k at) l given refl refl (may_fail at) now history opening
      record { acts = inl refl; fit = tt; feeder = λ e. absurd (cc); own = λ j e. ap (shard_turn g) (some_is k j e) }
      (λ x there. subst (IsLikeIf x) (sym (own-entry b.shard.now (Fail q.number k at) k sound (may_fail at) refl)) (like_none x)) f

  -- its header is there
  pub header_read : (h : Header) × (header_at k b.hand.own.bucket.headers ≡ Some h)
  header_read = header_there m g k b q taken same valid taken_read.entry taken_read.there

-- the hold is listed then
pub arrive_listed : {C : Type 0} (m : Meanings C) (g : Config) (ptr : Ptr) (b : Both) (q r : Place (Known C)) (from : Origin) → IsTaken m g ptr.key b q → q.own.about.config ≡ g → IsConfig g
    → Makes m g ptr.key b.shard (Arrive q.number ptr.key ptr.digest from ∷ []) q r → IsListed g r q.number ptr
arrive_listed {C} m g ptr b q r from taken same valid made =
    let holds : r.own.ledger.holds ≡ ptr ∷ q.own.ledger.holds = ap (λ (x : Place (Known C)). x.own.ledger.holds) made.gave
    ∙ (ap (λ (n : ℕ). holds_after n b.shard.now (Arrive q.number ptr.key ptr.digest from) q.own.ledger.holds) (taken_number m g ptr.key b q taken same valid)
    ∙ ap (λ (c : Bool). if c then with_hold ptr.key (Some ptr.digest) q.own.ledger.holds else q.own.ledger.holds) (eq-eqb q.number q.number refl)) in
    own (sym (ap (λ (x : Place (Known C)). x.number) made.gave)) (0, ap (λ (hs : List Ptr). get_elem? hs 0) holds)
