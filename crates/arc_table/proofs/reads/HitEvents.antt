-- Events that change what the header of their key says: a hit, and a place that is gained or lost.
use Rattle.std.proofs.Common.{◌≡◌, if◌then◌else◌, ℕ, ◌+◌, ◌<◌, List, [], ◌∷◌, ◌++◌, length, Bool, true, false, Option, Some, None, refl, sym, ap, ◌∙◌, subst, inl, eq-eqb, arith}
use Rattle.std.specs.Prelude.{IsTrue, ◌&&◌, not, nat_lt, IfSome, IsSome, MatchOption}
use Rattle.std.specs.Option.{option_and_then, option_map, option_map_or}
use Rattle.std.proofs.lemmas.Bool.Decides.{nat_tests}
use Rattle.std.proofs.lemmas.Option.{none-some}
use Rattle.std.proofs.lemmas.Slice.Eq.{bytes_eq-Decides}
use lib.ListN.{get_elem?}
use Rattle.blk_ptr.specs.declared.digest.Digest.{Digest}
use Rattle.blk_ptr.specs.declared.key.Key.{Key}
use Rattle.blk_ptr.specs.declared.ptr.Ptr.{Ptr}
use Rattle.blk_ptr.specs.declared.state.State.{State}
use Rattle.blk_ptr.specs.declared.state.State.TheVariants.{Anon, Mru, MruGhost, Mfu, MfuGhost, L2Only}
use Rattle.blk_ptr.specs.Order.{digest_eq}
use Rattle.blk_ptr.specs.Ptr.{IsOf, sha256_of}
use Rattle.blk_ptr.specs.State.{is_cached}
use Rattle.arc_lists.proofs.Tables.{item_at-key}
use Rattle.arc_core.specs.declared.config.Config.{Config}
use Rattle.arc_core.specs.Config.{IsConfig}
use Rattle.arc_core.specs.declared.entry.Entry.{Entry}
use Rattle.arc_core.specs.declared.event.Event.TheVariants.{Hit}
use Rattle.arc_core.specs.PlainShard.{PlainShard, entry_is, entry_key, entry_of, is_at_rest, is_resident, keeps_digest, numbers}
use Rattle.arc_core.specs.Rules.{access}
use Rattle.arc_core.specs.ShardLog.{ShardLog}
use Rattle.arc_core.specs.Sound.{IsSound}
use Rattle.arc_core.specs.Step.{after, hit_entry, legal}
use Rattle.arc_core.proofs.Accesses.{accessed-keeps}
use Rattle.arc_core.proofs.Others.{own-entry}
use Rattle.hash_chain.specs.Alike.{AreAlike}
use Rattle.hash_chain.specs.Chain.{Chain, IsAlikeTo, IsWith, header_at, lent}
use Rattle.hash_chain.proofs.Alike.{alike_is_of}
use Rattle.hash_chain.specs.declared.header.Header.{Header}
use Rattle.turn_table.specs.Places.{Place}
use Rattle.arc_table.specs.declared.both.Both.{Both}
use Rattle.arc_table.specs.declared.view.Known.{Known}
use Rattle.arc_table.specs.Booking.{digest_at, holds_after, with_hold}
use Rattle.arc_table.specs.Both.{Makes}
use Rattle.arc_table.specs.Geometry.{shard_turn}
use Rattle.arc_table.specs.pact.Headed.{IsHead, Says}
use Rattle.arc_table.specs.Holding.{IsListed, own}
use Rattle.arc_table.specs.InHand.{made_since}
use Rattle.arc_table.specs.Items.{Meanings}
use Rattle.arc_table.specs.Making.{IsMade, IsTaken}
use Rattle.arc_table.specs.pact.Standing.{Follows, bytes_at, bytes_of, followed, IsCachedWith}
use Rattle.arc_table.proofs.KeptHeads.{own_with, says_lent, with_again}
use Rattle.arc_table.proofs.OneEvent.{one_made, taken_few, taken_head, taken_number, taken_sound}
use Rattle.arc_table.proofs.Standings.{both_true}

some_is : {X : Type 0} (x y : X) → ◌≡◌ {A = Option X} (Some x) (Some y) → x ≡ y
some_is x y e = cc

-- ---- an entry that passes a test

pub record Passes (test : Entry → Bool) (k : Key) (s : PlainShard) : Type 0 where
  pub entry : Entry
  pub there : entry_of k s ≡ Some entry
  pub passes : test entry ≡ true

pub passing : (test : Entry → Bool) (k : Key) (s : PlainShard) → IsTrue (entry_is test k s) → Passes test k s
passing test k s h = by_entry (entry_of k s) refl h
  where
    by_entry : (o : Option Entry) → entry_of k s ≡ o → option_map_or test o false ≡ true → Passes test k s
    by_entry None e h = absurd (cc)
    by_entry (Some x) e h = record { entry = x; there = e; passes = h }

pub passes_at : (test : Entry → Bool) (k : Key) (s : PlainShard) (e : Entry) → entry_of k s ≡ Some e → test e ≡ true → IsTrue (entry_is test k s)
passes_at test k s e there h = ap (λ (o : Option Entry). option_map_or test o false) there ∙ h

-- ---- the header follows its entry

-- it says what the entry does that has another state and place and is otherwise alike
pub says_changed : (e e' : Entry) (h : Header) → Says e h → e'.key ≡ e.key → e'.reading ≡ e.reading → e'.digest ≡ e.digest → is_resident e' ≡ is_resident e → Says e' record h { state = e'.state; place = e'.place }
says_changed e e' h says key reading digest resident = record {
  state = refl;
  reading = says.reading ∙ sym reading;
  place = refl;
  digest = says.digest ∙ sym digest;
  block = let P : Bool × Option Digest × Key → Type 0 = λ x. MatchOption h.block (x.0 ≡ false) (λ kept. (x.0 ≡ true) × (x.1 ≡ Some (sha256_of kept.block.value)) × (length kept.block.value ≡ x.2.size)) in
      subst P (λ z. (sym resident z, sym digest z, sym key z)) says.block;
}

pub follow_head : (e e' : Entry) (h h' : Header) (o : Option Entry) → Says e h → h ≡ h' → o ≡ Some e' → e'.key ≡ e.key → e'.reading ≡ e.reading → e'.digest ≡ e.digest → is_resident e' ≡ is_resident e → IsHead o (followed h' o)
follow_head e e' h h' o says is there key reading digest resident =
    subst (λ (x : Header × Option Entry). IsHead x.1 (followed x.0 x.1)) (λ z. (is z, sym there z)) (says_changed e e' h says key reading digest resident)

-- a header that says what an entry does stands where the entry does
pub head_there : (o : Option Entry) (h : Option Header) (e : Entry) → IsHead o h → o ≡ Some e → (x : Header) × (h ≡ Some x) × Says e x
head_there None h e head is = absurd (none-some e is)
head_there (Some x) None e head is = absurd head
head_there (Some x) (Some h) e head is = (h, refl, subst (λ (y : Entry). Says y h) (some_is x e is) head)

-- ---- a hit

digest_is : (a b : Digest) → digest_eq a b ≡ true → a ≡ b
digest_is a b same = ap (λ (bytes : List ℕ). record { 0 = bytes }) ((bytes_eq-Decides a.0 b.0).0 same)

pub kept_is : (o : Option Digest) (d : Digest) → option_map_or (λ kept. digest_eq kept d) o false ≡ true → o ≡ Some d
kept_is None d h = absurd (cc)
kept_is (Some x) d h = ap Some (digest_is x d h)

-- an entry whose bytes are cached with the pointer's digest, and its header
pub record Cached (ptr : Ptr) (s : PlainShard) (hs : List Header) : Type 0 where
  pub entry : Entry
  pub there : entry_of ptr.key s ≡ Some entry
  pub resident : is_resident entry ≡ true
  pub digest : entry.digest ≡ Some ptr.digest
  pub header : Header
  pub had : header_at ptr.key hs ≡ Some header
  pub says : Says entry header
  pub bytes : List ℕ
  pub kept : bytes_at ptr.key hs ≡ Some bytes
  pub of : IsOf bytes ptr

pub cached : (ptr : Ptr) (s : PlainShard) (hs : List Header) → IsCachedWith ptr s → IsHead (entry_of ptr.key s) (header_at ptr.key hs) → Cached ptr s hs
cached ptr s hs here head =
    let p = passing (λ e. is_resident e && keeps_digest ptr.digest e) ptr.key s here in
    let two = both_true (is_resident p.entry) (keeps_digest ptr.digest p.entry) p.passes in
    let d = kept_is p.entry.digest ptr.digest two.1 in
    let h = head_there (entry_of ptr.key s) (header_at ptr.key hs) p.entry head p.there in
    let b = block_there p.entry h.0.block (λ kept. kept.block.value) two.0 d (item_at-key entry_key ptr.key s.entries p.entry p.there) h.2.block in record {
      entry = p.entry;
      there = p.there;
      resident = two.0;
      digest = d;
      header = h.0;
      had = h.1;
      says = h.2;
      bytes = b.0;
      kept = ap (λ (o : Option Header). option_map (λ kept. kept.block.value) (option_and_then (λ (y : Header). y.block) o)) h.1 ∙ b.1;
      of = b.2;
    }
  where
    block_there : (e : Entry) {A : Type 0} (o : Option A) (value : A → List ℕ) → is_resident e ≡ true → e.digest ≡ Some ptr.digest → e.key ≡ ptr.key
        → MatchOption o (is_resident e ≡ false) (λ block. (is_resident e ≡ true) × (e.digest ≡ Some (sha256_of (value block))) × (length (value block) ≡ e.key.size))
        → (bytes : List ℕ) × (option_map value o ≡ Some bytes) × IsOf bytes ptr
    block_there e None value resident d key h = let f : false ≡ true = sym h ∙ resident in absurd (cc)
    block_there e (Some x) value resident d key h = (
      value x,
      refl,
      record {
        size = h.2 ∙ ap (λ (k : Key). k.size) key;
        digest = some_is (sha256_of (value x)) ptr.digest (sym h.1 ∙ d);
      },
    )

-- bytes that are alike to the block of a header, if there is one, are alike to its bytes
alike_bytes : (bytes : List ℕ) (o : Option Header) → IsAlikeTo o bytes → IfSome (bytes_of o) (AreAlike bytes)
alike_bytes bytes None alike = tt
alike_bytes bytes (Some h) alike = by_block h.block (λ kept. kept.block.value) alike
  where
    by_block : {A : Type 0} (o : Option A) (value : A → List ℕ) → IfSome o (λ block. AreAlike bytes (value block)) → IfSome (option_map value o) (AreAlike bytes)
    by_block None value alike = tt
    by_block (Some block) value alike = alike

-- the header of an MFU entry says after a hit what it said before
mfu_header : (n mintime t : ℕ) (e : Entry) (h : Header) → Says e h → h.state ≡ Mfu → record h { state = (hit_entry n mintime t e).state; place = (hit_entry n mintime t e).place } ≡ h
mfu_header n mintime t e h says mfu =
    subst (λ (s : State). record h { state = (access s mintime t e).state; place = (access s mintime t e).place } ≡ h) (sym mfu ∙ says.state)
    (λ z. record h { state = sym says.state z; place = sym says.place z })

pub hit_legal : (n t : ℕ) (k : Key) (s : PlainShard) (e : Entry) → n < numbers → entry_of k s ≡ Some e → is_resident e ≡ true → IsTrue (legal s (Hit n k t))
hit_legal n t k s e number there resident = λ z. below n numbers number z && passes_at is_resident k s e there resident z
  where
    below : (x y : ℕ) → x < y → nat_lt x y ≡ true
    below x y h = grind (arith, nat_tests)

cached_still : (mintime t : ℕ) (e : Entry) (state : State) → e.state ≡ state → is_cached state ≡ true → is_cached (access state mintime t e).state ≡ true
cached_still mintime t e Mru is h = go (nat_lt (e.last + mintime) t)
  where
    go : (b : Bool) → is_cached (if b then record e { state = Mfu; last = t } else e).state ≡ true
    go true = refl
    go false = ap is_cached is
cached_still mintime t e Mfu is h = ap is_cached is
cached_still mintime t e Anon is h = absurd (cc)
cached_still mintime t e MruGhost is h = absurd (cc)
cached_still mintime t e MfuGhost is h = absurd (cc)
cached_still mintime t e L2Only is h = absurd (cc)

hit_resident : (n mintime t : ℕ) (e : Entry) → is_resident e ≡ true → is_resident (hit_entry n mintime t e) ≡ true
hit_resident n mintime t e resident =
    let two = both_true (is_cached e.state) (is_at_rest e) resident in
    let kept = accessed-keeps e.state mintime t e in
    λ z. cached_still mintime t e e.state refl two.0 z && (ap not kept.reading ∙ two.1) z

pub entry_hit : (n t : ℕ) (k : Key) (s : PlainShard) (e : Entry) → IsSound s → n < numbers → entry_of k s ≡ Some e → is_resident e ≡ true → entry_of k (after s (Hit n k t)) ≡ Some (hit_entry n s.mintime t e)
entry_hit n t k s e sound number there resident =
    own-entry s (Hit n k t) k sound (hit_legal n t k s e number there resident) refl ∙ ap (option_map (hit_entry n s.mintime t)) there

module _ {C : Type 0} (m : Meanings C) (g : Config) (ptr : Ptr) (b : Both) (q : Place (Known C)) (taken : IsTaken m g ptr.key b q) (same : q.own.about.config ≡ g) (valid : IsConfig g) (here : IsCachedWith ptr b.shard.now) where
  pub found : Cached ptr b.shard.now b.hand.own.bucket.headers
  found = cached ptr b.shard.now b.hand.own.bucket.headers here (taken_head m g ptr.key b q taken same valid)

  module _ (t : ℕ) (l : ShardLog) (now : l.now ≡ after b.shard.now (Hit q.number ptr.key t)) where
    few : q.number < numbers
    few = taken_few m g ptr.key b q taken same valid

    pub entry_now : entry_of ptr.key l.now ≡ Some (hit_entry q.number b.shard.now.mintime t found.entry)
    entry_now = ap (entry_of ptr.key) now ∙ entry_hit q.number t ptr.key b.shard.now found.entry (taken_sound m g ptr.key b q taken same valid) few found.there found.resident

    -- the header has lent its spare owner
    pub mfu_says : (h : Header) → h ≡ lent found.header → h.state ≡ Mfu → followed h (entry_of ptr.key l.now) ≡ Some h
    mfu_says h is mfu = ap (followed h) entry_now ∙ ap Some (mfu_header q.number b.shard.now.mintime t found.entry h (subst (Says found.entry) (sym is) (says_lent found.entry found.header found.says)) mfu)

    pub hit_made : (between given : Chain) → l.history ≡ b.shard.history ++ Hit q.number ptr.key t ∷ [] → l.opening ≡ b.shard.opening
        → IsWith ptr.key (Some (lent found.header)) b.hand.own.bucket.headers between.headers → Follows ptr.key l.now between.headers given.headers
        → IsMade m g ptr.key (made_since b.hand.before.value l) record { hand = record b.hand { own = record b.hand.own { bucket = given } }; turn = b.turn; shard = l } q
    hit_made between given history opening with f =
        let e = found.entry in
        let e' = hit_entry q.number b.shard.now.mintime t e in
        let kept = accessed-keeps e.state b.shard.now.mintime t e in
        let o = followed f.header (entry_of ptr.key l.now) in
        let had : lent found.header ≡ f.header = some_is (lent found.header) f.header (sym (own_with ptr.key (Some (lent found.header)) b.hand.own.bucket.headers between.headers with) ∙ f.had) in
        one_made m g ptr.key b q taken same valid (Hit q.number ptr.key t) record { hand = record b.hand { own = record b.hand.own { bucket = given } }; turn = b.turn; shard = l }
        o refl refl (refl, refl) refl refl
        (hit_legal q.number t ptr.key b.shard.now e few found.there found.resident) now history opening
        record { acts = inl refl; fit = tt; feeder = λ x. absurd (cc); own = λ k x. ap (shard_turn g) (some_is ptr.key k x) }
        (with_again ptr.key (Some (lent found.header)) o b.hand.own.bucket.headers between.headers given.headers with f.with)
        (follow_head e e' (lent found.header) f.header (entry_of ptr.key l.now) (says_lent e found.header found.says) had entry_now kept.key kept.reading kept.digest
        (hit_resident q.number b.shard.now.mintime t e found.resident ∙ sym found.resident))

  -- a block alike to the one that the header has is of the pointer
  pub block_of_it : (bytes : List ℕ) → IsAlikeTo (header_at ptr.key b.hand.own.bucket.headers) bytes → IsOf bytes ptr
  block_of_it bytes alike =
      alike_is_of bytes found.bytes ptr (subst (λ (o : Option (List ℕ)). IfSome o (AreAlike bytes)) found.kept (alike_bytes bytes (header_at ptr.key b.hand.own.bucket.headers) alike)) found.of

  -- the hold is listed then
  pub hit_listed : (t : ℕ) (r : Place (Known C)) → Makes m g ptr.key b.shard (Hit q.number ptr.key t ∷ []) q r → IsListed g r q.number ptr
  hit_listed t r made =
      let holds : r.own.ledger.holds ≡ ptr ∷ q.own.ledger.holds = ap (λ (x : Place (Known C)). x.own.ledger.holds) made.gave
      ∙ (ap (λ (n : ℕ). holds_after n b.shard.now (Hit q.number ptr.key t) q.own.ledger.holds) (taken_number m g ptr.key b q taken same valid)
      ∙ (ap (λ (c : Bool). if c then with_hold ptr.key (digest_at ptr.key b.shard.now) q.own.ledger.holds else q.own.ledger.holds) (eq-eqb q.number q.number refl)
      ∙ ap (λ (o : Option Digest). with_hold ptr.key o q.own.ledger.holds) (ap (option_and_then (λ (y : Entry). y.digest)) found.there ∙ found.digest))) in
      own (sym (ap (λ (x : Place (Known C)). x.number) made.gave)) (0, ap (λ (hs : List Ptr). get_elem? hs 0) holds)

pub some_there : {A : Type 0} {o : Option A} {a : A} → o ≡ Some a → IsSome o
some_there {A} {o} {a} e = subst IsSome (sym e) refl
