-- One victim of a scan is named: its bucket was in hand, or was won, or another party has it.
use Rattle.std.proofs.Common.{◌≡◌, ◌≢◌, ◌⊎◌, ◌==◌, ℕ, zero, suc, ◌+◌, ◌<◌, ◌≤◌, List, [], ◌∷◌, ◌++◌, map, Bool, true, false, Option, Some, None, refl, sym, ap, ◌∙◌, subst, inl, inr, ⊎_elim, arith}
use Rattle.std.specs.Prelude.{IsTrue, IsSome, ◌||◌, not, nat_le, nat_lt, vec_len, vec_capacity}
use Rattle.std.proofs.lemmas.Bool.Decides.{nat_tests}
use Rattle.blk_ptr.specs.declared.key.Key.{Key}
use Rattle.blk_ptr.specs.Order.{key_eq}
use Rattle.blk_ptr.proofs.Keys.{key_eq-is}
use Rattle.arc_lists.specs.Sequences.{stands_on}
use Rattle.arc_lists.proofs.Standing.{both}
use Rattle.arc_core.specs.declared.config.Config.{Config}
use Rattle.arc_core.specs.Config.{IsConfig}
use Rattle.arc_core.specs.declared.entry.Entry.{Entry}
use Rattle.arc_core.specs.declared.event.Event.{Event}
use Rattle.arc_core.specs.declared.event.Event.TheVariants.{Pass}
use Rattle.arc_core.specs.PlainShard.{PlainShard, entry_of, is_number}
use Rattle.arc_core.specs.ShardLog.{HasRoom, IsUnnamed, Makes, ShardLog}
use Rattle.arc_core.specs.Step.{legal}
use Rattle.hash_chain.specs.Chain.{Chain}
use Rattle.turn_table.specs.Board.{IsAmong}
use Rattle.turn_table.specs.Moments.{WasFree}
use Rattle.turn_table.specs.Places.{IsOther, Place, saw, took}
use Rattle.arc_table.specs.declared.both.Both.{Both}
use Rattle.arc_table.specs.declared.in_hand.Taken.{Taken}
use Rattle.arc_table.specs.declared.scan.Scan.{Scan}
use Rattle.arc_table.specs.declared.item.Item.TheVariants as item
use Rattle.arc_table.specs.declared.view.Known.{Known}
use Rattle.arc_table.specs.Cache.{Cache, IsPartyOf}
use Rattle.arc_table.specs.scans.Evicting.{HasScanRoom, IsScan, IsScanning, KeepsHand, MayBegin, first_of, left_of}
use Rattle.arc_table.specs.Fronts.{item_at}
use Rattle.arc_table.specs.Geometry.{IsBucket, bucket_turn, parties_of, shard_turn}
use Rattle.arc_table.specs.InHand.{buckets_of}
use Rattle.arc_table.specs.Items.{Meanings}
use Rattle.arc_table.specs.pact.Rule.{Pact}
use Rattle.arc_table.specs.scans.Scanning.{takes_room, IsBucketOf, MayScan, Scans, pairs_of}
use Rattle.arc_table.specs.Views.{after_lost, after_won}
use Rattle.arc_table.proofs.Boards.{bucket_there}
use Rattle.arc_table.proofs.Ranges.{bucket_range}
use Rattle.arc_table.proofs.scans.Scans.{not_in_hand, scan_config, scan_marked, scan_number, scan_party, scan_passed, scan_won, still_legal, won_bucket}
use Rattle.arc_table.proofs.scans.ScanRoom.{fewer_marked, fewer_passed}

pairs_more : (ts : List Taken) (t : Taken) → pairs_of (ts ++ t ∷ []) ≡ pairs_of ts ++ (t.turn, t.bucket) ∷ []
pairs_more [] t = refl
pairs_more (x ∷ ts) t = ap (λ (l : List (ℕ × Chain)). (x.turn, x.bucket) ∷ l) (pairs_more ts t)

stands_last : (k key : Key) (ks : List Key) → stands_on k (ks ++ key ∷ []) ≡ (key_eq key k || stands_on k ks)
stands_last k key [] = refl
stands_last k key (x ∷ ks) = ap (λ (b : Bool). key_eq x k || b) (stands_last k key ks) ∙ swap (key_eq x k) (key_eq key k) (stands_on k ks)
  where
    swap : (a b c : Bool) → (a || (b || c)) ≡ (b || (a || c))
    swap true true c = refl
    swap true false c = refl
    swap false true c = refl
    swap false false c = refl

or_one : (a b : Bool) → (a || b) ≡ true → (a ≡ true) ⊎ (b ≡ true)
or_one true b h = inl refl
or_one false b h = inr h

-- what is so of the keys once one is marked
only_one : (key : Key) (old new : List Key) → ((j : Key) → stands_on j new ≡ (key_eq key j || stands_on j old)) → (k : Key) → IsTrue (stands_on k new) → (key ≡ k) ⊎ IsTrue (stands_on k old)
only_one key old new more k h = ⊎_elim (λ (a : key_eq key k ≡ true). inl (key_eq-is key k a)) (λ (b : stands_on k old ≡ true). inr b) (or_one (key_eq key k) (stands_on k old) (sym (more k) ∙ h))

-- the keys at hand are those that the shard has marked
marked_more : (key : Key) (s : Scan) (n : ℕ) (keys new : List Key) → HasScanRoom n s → keys ≡ s.marked.items ++ key ∷ [] → ((j : Key) → stands_on j new ≡ (key_eq key j || stands_on j s.both.shard.marked)) → (k : Key) → stands_on k keys ≡ stands_on k new
marked_more key s n keys new room is more k = ap (stands_on k) is ∙ (stands_last k key s.marked.items ∙ (ap (λ (b : Bool). key_eq key k || b) (room.marked k) ∙ sym (more k)))

-- a party's number is one of a shard's
small_number : (g : Config) (n : ℕ) → IsConfig g → n < parties_of g → (nat_lt n 33 ≡ true) × (nat_le n 16 ≡ true)
small_number g n valid below = let c = valid.counts.callers.1 in (search (nat_tests, arith), search (nat_tests, arith))

module _ {C : Type 0} (m : Meanings C) (g : Config) (valid : IsConfig g) (key : Key) (e : Event) (s : Scan) (u : IsUnnamed key e s.both.shard) where
  there : (x : Entry) × (entry_of key s.both.shard.now ≡ Some x)
  there = some_entry (entry_of key s.both.shard.now) u.there
    where
      some_entry : (o : Option Entry) → IsSome o → (x : Entry) × (o ≡ Some x)
      some_entry None h = absurd (cc)
      some_entry (Some x) h = (x, refl)

  -- the key is the shard's own
  own_key : (p q : Place (Known C)) (es : List Event) → MayBegin g s.both p → IsScan m g p q s es → s.both.turn ≡ shard_turn g key
  own_key p q es may scan = may.entries key there.0 (sym (ap (entry_of key) scan.now) ∙ there.1)

  -- ---- the bucket was in hand

  module _ (s' : Scan) (same : s'.both ≡ record s.both { shard = record s.both.shard { marked = s'.both.shard.marked } })
      (more : (j : Key) → stands_on j s'.both.shard.marked ≡ (key_eq key j || stands_on j s.both.shard.marked))
      (keys : s'.marked.items ≡ s.marked.items ++ key ∷ []) (len : vec_len s'.marked ≡ vec_len s.marked + 1) (capacity : vec_capacity s'.marked ≡ vec_capacity s.marked) where
    pub marked_step : (p q : Place (Known C)) (es : List Event) → MayBegin g s.both p → IsScan m g p q s es → IsSome (item_at (bucket_turn g key) (buckets_of s.both.hand)) → IsScan m g p q s' es
    marked_step p q es may scan hand =
        let M : List Key = s'.both.shard.marked in
        subst (λ (b : Both). Scans m g b.turn (first_of b) b.hand.before.value p q b.shard M (pairs_of b.hand.victims.items) es) (sym same)
        (scan_marked m g s.both.turn (first_of s.both) s.both.hand.before.value p may q s.both.shard s.both.shard.marked (pairs_of s.both.hand.victims.items) es scan
        record s.both.shard { marked = M } M key refl refl refl (only_one key s.both.shard.marked M more) hand)

    pub marked_fewer : left_of s' < left_of s
    marked_fewer = fewer_marked s.both.shard.now s'.both.shard.now s.both.shard.marked s'.both.shard.marked key there.0 (ap (λ (b : Both). b.shard.now) same) more there.1 u.unmarked u.unpassed

    pub marked_room : (n : ℕ) → HasScanRoom n s → HasScanRoom n s'
    marked_room n room =
        let less = marked_fewer in
        let a : s'.both.shard.event_room ≡ s.both.shard.event_room = ap (λ (b : Both). b.shard.event_room) same in
        let b : vec_len s'.both.hand.victims ≡ vec_len s.both.hand.victims = ap (λ (b : Both). vec_len b.hand.victims) same in
        let d : vec_capacity s'.both.hand.victims ≡ vec_capacity s.both.hand.victims = ap (λ (b : Both). vec_capacity b.hand.victims) same in
        let r1 = room.events in let r2 = room.victims in let r3 = room.keys in record {
          events = omega arith;
          victims = omega arith;
          keys = omega arith;
          marked = marked_more key s n s'.marked.items s'.both.shard.marked room keys more;
        }

    pub marked_hand : KeepsHand s.both s'.both
    marked_hand = record { turn = ap (λ (b : Both). b.turn) same; own = ap (λ (b : Both). b.hand.own) same; before = ap (λ (b : Both). b.hand.before) same }

  -- ---- another party has it

  module _ (l' : ShardLog) (n owner : ℕ) (makes : Makes (Pass n key owner) s.both.shard l') where
    abbrev passed_scan : Scan
    passed_scan = record { both = record { hand = s.both.hand; turn = s.both.turn; shard = l' }; marked = s.marked }

    pub passed_fewer : left_of passed_scan < left_of s
    passed_fewer = subst (λ (ks : List Key). Rattle.arc_table.specs.scans.Scanning.open_entries l'.now ks < left_of s) (sym makes.marked)
        (fewer_passed s.both.shard.now l'.now s.both.shard.marked n owner key there.0 makes.now there.1 u.unmarked u.unpassed)

    pub passed_room : (k : ℕ) → HasScanRoom k s → HasScanRoom k passed_scan
    passed_room k room =
        let less = passed_fewer in
        let a = makes.event_room in
        let r1 = room.events in let r2 = room.victims in let r3 = room.keys in record {
          events = omega arith;
          victims = omega arith;
          keys = omega arith;
          marked = λ j. room.marked j ∙ ap (stands_on j) (sym makes.marked);
        }

    pub passed_step : (p q : Place (Known C)) (es : List Event) → MayBegin g s.both p → IsScan m g p q s es → n ≡ q.number → IsTrue (legal s.both.shard.now (Pass n key owner)) → IsOther owner q
        → (more : List Event) × IsScan m g p (saw q (after_lost (bucket_turn g key) owner q.own)) passed_scan more
    passed_step p q es may scan number ok other =
        let num : n ≡ p.number = number ∙ scan_number m g s.both.turn (first_of s.both) s.both.hand.before.value p may q s.both.shard s.both.shard.marked (pairs_of s.both.hand.victims.items) es scan in
        let made : Makes (Pass p.number key owner) s.both.shard l' = subst (λ (z : ℕ). Makes (Pass z key owner) s.both.shard l') num makes in (
          es ++ Pass p.number key owner ∷ [],
          scan_passed m g s.both.turn (first_of s.both) s.both.hand.before.value p may q s.both.shard s.both.shard.marked (pairs_of s.both.hand.victims.items) es scan
              l' l'.marked key owner (subst (λ (z : ℕ). IsTrue (legal s.both.shard.now (Pass z key owner))) num ok) made.now made.history made.opening made.marked (own_key p q es may scan) other,
        )

  -- a pass may be made
  pub pass_legal : (q : Place (Known C)) (n owner : ℕ) → IsScanning m g s q → n ≡ q.number → owner < parties_of g → owner ≢ q.number → IsTrue (legal s.both.shard.now (Pass n key owner))
  pass_legal q n owner scanning number below other =
      let num : n ≡ scanning.from.number = number ∙ scan_number m g s.both.turn (first_of s.both) s.both.hand.before.value scanning.from scanning.may q s.both.shard s.both.shard.marked (pairs_of s.both.hand.victims.items) scanning.passes scanning.scan in
      let low : n < parties_of g = let a = scanning.may.number in omega arith in
      let apart : (owner == n) ≡ false = Rattle.std.proofs.Common.ne_eqb owner n (λ is. other (is ∙ number)) in
      both (is_number n) _ (small_number g n valid low).0
      (both _ _ u.stands (both _ _ (ap not u.unpassed) (both _ _ (ap not apart) (small_number g owner valid below).1)))

  pub pass_room : (n owner : ℕ) → HasScanRoom 0 s → HasRoom (Pass n key owner) s.both.shard
  pass_room n owner room = let a = room.events in let some : 0 < left_of s = some_left in record { events = omega arith; entries = omega arith }
    where
      some_left : 0 < left_of s
      some_left = let less = fewer_passed s.both.shard.now (Rattle.arc_core.specs.Step.after s.both.shard.now (Pass n key owner)) s.both.shard.marked n owner key there.0 refl there.1 u.unmarked u.unpassed in omega arith

  pub mark_room : HasScanRoom 0 s → (vec_len s.marked < vec_capacity s.marked) × (vec_len s.both.hand.victims < vec_capacity s.both.hand.victims)
  mark_room room =
      let less = fewer_passed s.both.shard.now (Rattle.arc_core.specs.Step.after s.both.shard.now (Pass 0 key 0)) s.both.shard.marked 0 0 key there.0 refl there.1 u.unmarked u.unpassed in
      let a = room.keys in let b = room.victims in
      (omega arith, omega arith)

  -- ---- its bucket was free

  pub free_not_held : (q : Place (Known C)) → IsScanning m g s q → item_at (bucket_turn g key) (buckets_of s.both.hand) ≡ None → ¬ IsAmong (bucket_turn g key) q.held
  free_not_held q scanning none = not_in_hand m g s.both.turn (first_of s.both) s.both.hand.before.value scanning.from scanning.may q s.both.shard s.both.shard.marked (pairs_of s.both.hand.victims.items) scanning.passes scanning.scan
      (bucket_turn g key) (bucket_range g key valid) none

  pub free_bucket : (q : Place (Known C)) (v : Rattle.arc_table.specs.declared.item.Item.Item C) → IsScanning m g s q → WasFree (Pact m) q (bucket_turn g key) v → (b : Chain) × (v ≡ item.Bucket b)
  free_bucket q v scanning free = bucket_there m q (bucket_turn g key) v free
      (subst (λ (c : Config). IsBucket c (bucket_turn g key)) (sym (scan_config m g s.both.turn (first_of s.both) s.both.hand.before.value scanning.from scanning.may q s.both.shard s.both.shard.marked (pairs_of s.both.hand.victims.items) scanning.passes scanning.scan)) (bucket_range g key valid))

  module _ (b : Chain) (V : List Taken) (s' : Scan) (victims : V ≡ s.both.hand.victims.items ++ record { turn = bucket_turn g key; bucket = b } ∷ []) (items : s'.both.hand.victims.items ≡ V)
      (turn : s'.both.turn ≡ s.both.turn) (own : s'.both.hand.own ≡ s.both.hand.own) (before : s'.both.hand.before ≡ s.both.hand.before)
      (now : s'.both.shard.now ≡ s.both.shard.now) (history : s'.both.shard.history ≡ s.both.shard.history) (opening : s'.both.shard.opening ≡ s.both.shard.opening)
      (more : (j : Key) → stands_on j s'.both.shard.marked ≡ (key_eq key j || stands_on j s.both.shard.marked)) where
    pub won_step : (p q : Place (Known C)) (es : List Event) → MayBegin g s.both p → IsScan m g p q s es → item_at (bucket_turn g key) (buckets_of s.both.hand) ≡ None
        → WasFree (Pact m) q (bucket_turn g key) (item.Bucket b) → IsScan m g p (took q (bucket_turn g key) (after_won m (bucket_turn g key) (item.Bucket b) q.own)) s' es
    won_step p q es may scan none free =
        let q' : Place (Known C) = took q (bucket_turn g key) (after_won m (bucket_turn g key) (item.Bucket b) q.own) in
        let vs : List (ℕ × Chain) = pairs_of s.both.hand.victims.items in
        let bucket = won_bucket m g s.both.turn (first_of s.both) s.both.hand.before.value p may q s.both.shard s.both.shard.marked vs es scan key b valid (own_key p q es may scan) free in
        let step = scan_won m g s.both.turn (first_of s.both) s.both.hand.before.value p may q s.both.shard s.both.shard.marked vs es scan s'.both.shard s'.both.shard.marked key b now history opening
        (only_one key s.both.shard.marked s'.both.shard.marked more) none bucket in
        let pairs : pairs_of s'.both.hand.victims.items ≡ vs ++ (bucket_turn g key, b) ∷ [] = ap pairs_of (items ∙ victims) ∙ pairs_more s.both.hand.victims.items record { turn = bucket_turn g key; bucket = b } in
        subst (λ (x : ℕ × (List (ℕ × Chain)) × ShardLog × (List (ℕ × Chain))). Scans m g x.0 x.1 x.2 p q' s'.both.shard s'.both.shard.marked x.3 es)
        (λ z. (sym turn z, (let o : Taken = sym own z in (o.turn, o.bucket) ∷ []), (sym before z).value, sym pairs z)) step

    pub won_fewer : left_of s' < left_of s
    won_fewer = fewer_marked s.both.shard.now s'.both.shard.now s.both.shard.marked s'.both.shard.marked key there.0 now more there.1 u.unmarked u.unpassed

    pub won_room : (n : ℕ) → HasScanRoom n s → s'.both.shard.event_room ≡ s.both.shard.event_room → vec_len s'.both.hand.victims ≡ vec_len s.both.hand.victims + 1 → vec_capacity s'.both.hand.victims ≡ vec_capacity s.both.hand.victims
        → s'.marked.items ≡ s.marked.items ++ key ∷ [] → vec_len s'.marked ≡ vec_len s.marked + 1 → vec_capacity s'.marked ≡ vec_capacity s.marked → HasScanRoom n s'
    won_room n room a len' cap' keys len cap =
        let less = won_fewer in
        let r1 = room.events in let r2 = room.victims in let r3 = room.keys in record {
          events = omega arith;
          victims = omega arith;
          keys = omega arith;
          marked = marked_more key s n s'.marked.items s'.both.shard.marked room keys more;
        }

-- ---- what a scan leaves in hand

pub keeps_none : (a : Both) → KeepsHand a a
keeps_none a = record { turn = refl; own = refl; before = refl }

pub keeps_then : (a b c : Both) → KeepsHand a b → KeepsHand b c → KeepsHand a c
keeps_then a b c h k = record { turn = k.turn ∙ h.turn; own = k.own ∙ h.own; before = k.before ∙ h.before }

pub may_after : {C : Type 0} (g : Config) (b b' : Both) (p : Place (Known C)) → KeepsHand b b' → MayBegin g b p → MayBegin g b' p
may_after g b b' p k may = subst (λ (x : ℕ × (List (ℕ × Chain)) × ShardLog). MayScan g x.0 x.1 x.2 p)
    (λ z. (sym k.turn z, (let o : Taken = sym k.own z in (o.turn, o.bucket) ∷ []), (sym k.before z).value)) may

pub room_below : (n : ℕ) (s : Scan) → HasScanRoom n s → HasScanRoom 0 s
room_below n s room = let a = room.events in record { events = omega arith; victims = room.victims; keys = room.keys; marked = room.marked }

-- an event that takes room is legal behind passes
pub legal_then : {C : Type 0} (m : Meanings C) (g : Config) (s s' : Scan) (e : Event) (p q q' : Place (Known C)) (es es' : List Event) → IsTrue (takes_room e) → KeepsHand s.both s'.both
    → IsScan m g p q s es → IsScan m g p q' s' es' → IsTrue (legal s.both.shard.now e) → IsTrue (legal s'.both.shard.now e)
legal_then m g s s' e p q q' es es' room keeps scan scan' ok =
    let before : PlainShard = s.both.hand.before.value.now in
    let first : legal s.both.shard.now e ≡ legal before e = ap (λ (x : PlainShard). legal x e) scan.now ∙ still_legal before s.both.shard.now.passed e room in
    let second : legal s'.both.shard.now e ≡ legal s'.both.hand.before.value.now e = ap (λ (x : PlainShard). legal x e) scan'.now ∙ still_legal s'.both.hand.before.value.now s'.both.shard.now.passed e room in
    second ∙ (ap (λ (x : PlainShard). legal x e) (λ z. (keeps.before z).value.now) ∙ (sym first ∙ ok))

-- the party is one of the cache still
pub party_after : {C : Type 0} (m : Meanings C) (g : Config) (p : Place (Known C)) (cache : Cache) (q q' : Place (Known C)) (s s' : Scan) (es es' : List Event) → KeepsHand s.both s'.both
    → IsScan m g p q s es → IsScan m g p q' s' es' → IsPartyOf cache q → IsPartyOf cache q'
party_after {C} m g p cache q q' s s' es es' keeps scan scan' of =
    let here : IsScan m g p q s es = scan in
    let there = subst (λ (x : ℕ × (List (ℕ × Chain)) × ShardLog). Scans m g x.0 x.1 x.2 p q' s'.both.shard s'.both.shard.marked (pairs_of s'.both.hand.victims.items) es')
    (λ z. (keeps.turn z, (let o : Taken = keeps.own z in (o.turn, o.bucket) ∷ []), (keeps.before z).value)) scan' in
    scan_party m g s.both.turn (first_of s.both) s.both.hand.before.value p cache q q' s.both.shard s'.both.shard s.both.shard.marked s'.both.shard.marked
    (pairs_of s.both.hand.victims.items) (pairs_of s'.both.hand.victims.items) es es' here there of
