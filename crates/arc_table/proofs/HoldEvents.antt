-- The events of holds: each is legal where the party lists the hold, is the party's own to make, and is one of which no header says anything.
use Rattle.std.proofs.Common.{◌≡◌, ◌==◌, if◌then◌else◌, ℕ, ◌<◌, ◌≤◌, List, [], ◌∷◌, Bool, true, false, Option, Some, None, refl, sym, ap, ◌∙◌, subst, inl, inr, eq-eqb, arith}
use Rattle.std.specs.Prelude.{IsTrue, ◌&&◌, length, not, nat_le, nat_lt, IfSome, MatchOption}
use Rattle.std.specs.Option.{option_and_then, option_map, option_map_or}
use Rattle.std.proofs.lemmas.Bool.Decides.{nat_tests}
use lib.ListN.{get_elem?}
use Rattle.blk_ptr.specs.declared.digest.Digest.{Digest}
use Rattle.blk_ptr.specs.declared.key.Key.{Key}
use Rattle.blk_ptr.specs.declared.ptr.Ptr.{Ptr}
use Rattle.blk_ptr.specs.Ptr.{sha256_of}
use Rattle.arc_lists.proofs.Tables.{item_at-key}
use Rattle.arc_core.specs.declared.config.Config.{Config}
use Rattle.arc_core.specs.Config.{IsConfig}
use Rattle.arc_core.specs.declared.entry.Entry.{Entry}
use Rattle.arc_core.specs.declared.event.Event.{Event}
use Rattle.arc_core.specs.declared.event.Event.TheVariants.{Drop, Hand, Release}
use Rattle.arc_core.specs.Changes.{one_less}
use Rattle.arc_core.specs.Changing.{handed}
use Rattle.arc_core.specs.PlainShard.{PlainShard, entry_is, entry_key, entry_of, held_by, holds_of, is_at_rest, is_cell, is_resident, numbers}
use Rattle.arc_core.specs.ShardLog.{ShardLog}
use Rattle.arc_core.specs.Sound.{IsSound}
use Rattle.arc_core.specs.Step.{after, agree, holds, legal}
use Rattle.arc_core.proofs.Others.{own-entry}
use Rattle.hash_chain.specs.Alike.{AreAlike}
use Rattle.hash_chain.specs.Chain.{Chain, IsAlikeTo, header_at}
use Rattle.hash_chain.specs.declared.header.Header.{Header}
use Rattle.turn_table.specs.Board.{IsAmong}
use Rattle.turn_table.specs.Places.{Place}
use Rattle.arc_table.specs.declared.about.About.{About}
use Rattle.arc_table.specs.declared.view.Known.{Known}
use Rattle.arc_table.specs.Booking.{digest_at, with_hold, without_hold}
use Rattle.arc_table.specs.Both.{Makes, TakesBoth}
use Rattle.arc_table.specs.Fronts.{list_at}
use Rattle.arc_table.specs.Geometry.{IsCell, cell_number}
use Rattle.arc_table.specs.pact.Headed.{IsHead}
use Rattle.arc_table.specs.Holding.{IsListed, own, cell}
use Rattle.arc_table.specs.Items.{Meanings}
use Rattle.arc_table.specs.ShardGiving.{ActsFor, SameHead, holds_through, listed_after}
use Rattle.arc_table.proofs.OneEvent.{some_is}
use Rattle.arc_table.proofs.Reached.{IsHolding, cell_recorded, held_again, reached}
use Rattle.arc_table.proofs.ShardGives.{listed_at}

below : (x y : ℕ) → x < y → nat_lt x y ≡ true
below x y h = grind (arith, nat_tests)

not_zero : (x : ℕ) → 0 < x → not (x == 0) ≡ true
not_zero x h = grind (arith, nat_tests)

and_true : (a b : Bool) → a ≡ true → b ≡ true → (a && b) ≡ true
and_true a b h k = λ z. h z && k z

-- the entry passes a test
entry_passes : (test : Entry → Bool) (k : Key) (s : PlainShard) (e : Entry) → entry_of k s ≡ Some e → test e ≡ true → IsTrue (entry_is test k s)
entry_passes test k s e there h = ap (λ (o : Option Entry). option_map_or test o false) there ∙ h

held : (n : ℕ) (x : Ptr) (s : PlainShard) (h : IsHolding n x s) → holds n h.entry ≡ true
held n x s h = and_true (is_at_rest h.entry) (not (held_by n h.entry == 0)) (ap not h.rest) (not_zero (held_by n h.entry) h.held)

-- ---- legal

pub drop_legal : (n : ℕ) (x : Ptr) (s : PlainShard) → IsHolding n x s → IsTrue (legal s (Drop n x.key))
drop_legal n x s h = and_true _ _ (below n numbers h.number) (entry_passes (holds n) x.key s h.entry h.there (held n x s h))

pub hand_legal : (n to : ℕ) (x : Ptr) (s : PlainShard) → IsHolding n x s → is_cell to ≡ true → IsTrue (legal s (Hand n x.key to))
hand_legal n to x s h to_cell = and_true _ _ (below n numbers h.number) (and_true _ _ to_cell (entry_passes (holds n) x.key s h.entry h.there (held n x s h)))

pub release_legal : (n : ℕ) (x : Ptr) (s : PlainShard) (h : IsHolding n x s) (sole : Bool) → sole ≡ (holds_of h.entry == 1) → IsTrue (legal s (Release n x.key sole))
release_legal n x s h sole is = and_true _ _ (below n numbers h.number)
    (entry_passes (λ e. holds n e && agree sole (holds_of e == 1)) x.key s h.entry h.there (and_true _ _ (held n x s h) (agreed sole (holds_of h.entry == 1) is)))
  where
    agreed : (a b : Bool) → a ≡ b → agree a b ≡ true
    agreed true b e = sym e
    agreed false b e = ap not (sym e)

-- ---- who makes them

-- who lists a hold under a number acts for it
pub acts_for : {C : Type 0} (g : Config) (p : Place (Known C)) (n : ℕ) (x : Ptr) → IsListed g p n x → ActsFor g p.number p.held n
acts_for g p n x (own is one) = inl is
acts_for g p n x (cell j is in_range among one) = inr (j, is, in_range, among)

-- ---- what the headers say

-- an entry of which one hold changed
alike : (f : Entry → Entry) → ((e : Entry) → SameHead (Some e) (Some (f e))) → (o : Option Entry) → SameHead o (option_map f o)
alike f each None = tt
alike f each (Some e) = each e

less_alike : (n : ℕ) (e : Entry) → SameHead (Some e) (Some (one_less n e))
less_alike n e = record { key = refl; state = refl; reading = refl; place = refl; digest = refl }

handed_alike : (n to : ℕ) (e : Entry) → SameHead (Some e) (Some (handed n to e))
handed_alike n to e = record { key = refl; state = refl; reading = refl; place = refl; digest = refl }

pub drop_alike : (n : ℕ) (k : Key) (s : PlainShard) → IsSound s → IsTrue (legal s (Drop n k)) → SameHead (entry_of k s) (entry_of k (after s (Drop n k)))
drop_alike n k s sound ok = subst (SameHead (entry_of k s)) (sym (own-entry s (Drop n k) k sound ok refl)) (alike (one_less n) (less_alike n) (entry_of k s))

pub hand_alike : (n to : ℕ) (k : Key) (s : PlainShard) → IsSound s → IsTrue (legal s (Hand n k to)) → SameHead (entry_of k s) (entry_of k (after s (Hand n k to)))
hand_alike n to k s sound ok = subst (SameHead (entry_of k s)) (sym (own-entry s (Hand n k to) k sound ok refl)) (alike (handed n to) (handed_alike n to) (entry_of k s))

pub release_alike : (n : ℕ) (k : Key) (s : PlainShard) → IsSound s → IsTrue (legal s (Release n k false)) → SameHead (entry_of k s) (entry_of k (after s (Release n k false)))
release_alike n k s sound ok = subst (SameHead (entry_of k s)) (sym (own-entry s (Release n k false) k sound ok refl)) (alike (one_less n) (less_alike n) (entry_of k s))

-- ---- a hold of a cell's

pub cell_is : (g : Config) (i : ℕ) → IsConfig g → IsCell g i → is_cell (cell_number g i) ≡ true
cell_is g i valid in_range =
    let a = valid.counts.callers.0 in let b = valid.counts.callers.1 in let c = valid.counts.cells.1 in
    and_true _ _ (at_least 2 (cell_number g i) (omega arith)) (below (cell_number g i) numbers (omega arith))
  where
    at_least : (x y : ℕ) → x ≤ y → nat_le x y ≡ true
    at_least x y h = grind (arith, nat_tests)

module _ {C : Type 0} (m : Meanings C) (g : Config) (k : Key) (chain : Chain) (before : ShardLog) (p q : Place (Known C)) (t : TakesBoth m g k chain before p q) (same : p.own.about.config ≡ g) (valid : IsConfig g)
    (es : List Event) (r : Place (Known C)) (made : Makes m g k before es q r) where
  -- the party has the turns that it had
  pub held_after : r.held ≡ p.held
  held_after = ap (λ (x : Place (Known C)). x.held) made.gave ∙ held_again m g k chain before p q t same valid

  -- what it lists for a cell in hand follows the events
  pub listed_now : (j : ℕ) → IsAmong j p.held → IsCell g j → list_at j r.own.listed ≡ holds_through (cell_number g j) before.now es (list_at j q.own.listed)
  listed_now j among in_range =
      let config : q.own.about.config ≡ g = ap (λ (a : About). a.config) (reached m g k chain before p q t).about ∙ same in
      let there = cell_recorded m g k chain before p q t same valid j among in_range in
      ap (λ (x : Place (Known C)). list_at j x.own.listed) made.gave
      ∙ (listed_at q.own.about.config before.now es j q.own.records there.0 q.own.listed q.own.listed there.1
      ∙ (ap (λ (c : Config). listed_after c before.now es j (list_at j q.own.listed)) config
      ∙ ap (λ (b : Bool). if b then holds_through (cell_number g j) before.now es (list_at j q.own.listed) else list_at j q.own.listed) (below j g.cells in_range)))

-- a hold that was handed to a cell is listed there
pub handed_listed : {C : Type 0} (m : Meanings C) (g : Config) (x : Ptr) (chain : Chain) (before : ShardLog) (p q r : Place (Known C)) (n i : ℕ) → TakesBoth m g x.key chain before p q → p.own.about.config ≡ g → IsConfig g
    → IsAmong i p.held → IsCell g i → IsHolding n x before.now → Makes m g x.key before (Hand n x.key (cell_number g i) ∷ []) q r → IsListed g r (cell_number g i) x
handed_listed {C} m g x chain before p q r n i t same valid among in_range h made =
    let hs = list_at i q.own.listed in
    let to = cell_number g i in
    let left : List Ptr = if to == n then without_hold x.key hs else hs in
    let list : list_at i r.own.listed ≡ x ∷ left = listed_now m g x.key chain before p q t same valid (Hand n x.key to ∷ []) r made i among in_range
    ∙ (ap (λ (b : Bool). if b then with_hold x.key (digest_at x.key before.now) left else left) (eq-eqb to to refl)
    ∙ ap (λ (o : Option Digest). with_hold x.key o left) (ap (option_and_then (λ (y : Entry). y.digest)) h.there ∙ h.digest)) in
    cell i refl in_range (subst (IsAmong i) (sym (held_after m g x.key chain before p q t same valid (Hand n x.key to ∷ []) r made)) among) (0, ap (λ (l : List Ptr). get_elem? l 0) list)

-- ---- the block of a hold

-- it is alike to the one that the key's header has
pub held_alike : (n : ℕ) (x : Ptr) (s : PlainShard) (hs : List Header) (bytes : List ℕ) → IsHolding n x s → IsHead (entry_of x.key s) (header_at x.key hs)
    → length bytes ≡ x.key.size → sha256_of bytes ≡ x.digest → IsAlikeTo (header_at x.key hs) bytes
held_alike n x s hs bytes h head size digest = by_header (header_at x.key hs) (subst (λ (o : Option Entry). IsHead o (header_at x.key hs)) h.there head)
  where
    by_block : {A : Type 0} (o : Option A) (value : A → List ℕ)
        → MatchOption o (is_resident h.entry ≡ false) (λ block. (is_resident h.entry ≡ true) × (h.entry.digest ≡ Some (sha256_of (value block))) × (length (value block) ≡ h.entry.key.size))
        → IfSome o (λ block. AreAlike bytes (value block))
    by_block None value has = tt
    by_block (Some block) value has = record {
      size = size ∙ sym (has.2 ∙ ap (λ (k : Key). k.size) (item_at-key entry_key x.key s.entries h.entry h.there));
      digest = digest ∙ some_is x.digest (sha256_of (value block)) (sym h.digest ∙ has.1);
    }

    by_header : (o : Option Header) → IsHead (Some h.entry) o → IsAlikeTo o bytes
    by_header None head = tt
    by_header (Some header) head = by_block header.block (λ kept. kept.block.value) head.block
