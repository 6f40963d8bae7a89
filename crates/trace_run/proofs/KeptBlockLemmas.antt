-- What a party lists for the reads that its caller keeps, and what is left once one of them is given back.
use Rattle.std.proofs.Common.{◌≡◌, ℕ, suc, ◌+◌, ◌<◌, cond, true, false, List, [], ◌∷◌, ◌++◌, Option, Some, refl, sym, ap, ◌∙◌, subst, inl, inr, arith, eq-eqb, append_assoc}
use Rattle.std.specs.List.{AllByRecursion}
use Rattle.std.proofs.lemmas.Bool.{false≢true}
use Rattle.std.proofs.lemmas.List.Sums.{sum_by-append, sum_by-cons}
use mathlib.Core.Option.{some}
use lib.ListN.{get_elem?}
use Rattle.blk_ptr.specs.declared.key.Key.{Key}
use Rattle.blk_ptr.specs.declared.digest.Digest.{Digest}
use Rattle.blk_ptr.specs.declared.ptr.Ptr.{Ptr}
use Rattle.blk_ptr.specs.Hash.{shard_of}
use Rattle.blk_ptr.specs.Order.{digest_eq, key_eq}
use Rattle.blk_ptr.specs.Ptr.{sha256_of}
use Rattle.blk_ptr.proofs.Keys.{key_eq-is, key_eq-same}
use Rattle.arc_lists.proofs.Tables.{cases_true}
use Rattle.arc_core.specs.Config.{IsConfig}
use Rattle.arc_core.specs.declared.config.Config.{Config}
use Rattle.arc_core.specs.declared.entry.Entry.{Entry}
use Rattle.arc_core.specs.declared.event.Event.TheVariants.{Drop}
use Rattle.arc_core.specs.Operations.{GivesBack as GivenBack, Moment, moments, own_moments}
use Rattle.arc_core.specs.PlainShard.{entry_of}
use Rattle.dbuf_cells.specs.declared.kept.Kept.{Kept}
use Rattle.dbuf_cells.specs.declared.kept.Kept.TheVariants.{Held, Loose}
use Rattle.turn_table.specs.declared.standing.Kept.{Kept as Joined}
use Rattle.turn_table.specs.Places.{Apart, Place}
use Rattle.arc_table.specs.declared.hold.Hold.{Hold}
use Rattle.arc_table.specs.declared.view.Known.{Known}
use Rattle.arc_table.specs.declared.view.Ledger.{Ledger}
use Rattle.arc_table.specs.Booking.{without_hold}
use Rattle.arc_table.specs.Both.{Does}
use Rattle.arc_table.specs.Cache.{Cache}
use Rattle.arc_table.specs.pact.Counted.{Rests}
use Rattle.arc_table.specs.Geometry.{parties_of, shard_turn}
use Rattle.arc_table.specs.Holding.{IsHeld, IsOneOf, own, ptr_of}
use Rattle.arc_table.specs.Items.{Meanings}
use Rattle.arc_table.specs.ShardGiving.{ledger_through}
use Rattle.arc_table.proofs.Afterwards.{does_ledger, does_stays, stays_party}
use Rattle.arc_table.proofs.Reached.{reached, rests}
use Rattle.trace_run.specs.declared.kept_blocks.KeptBlock.{KeptBlock}
use Rattle.trace_run.specs.KeptBlocks.{Adds, AllQuiet, Drops, GivesKeptBack, IsOwnedBy, Stands, held_key, is_ptr, listed_all, listed_for, times}
use Rattle.arc_table.specs.Fronts.{StartsWith, front_of, list_at}
use Rattle.arc_table.specs.Seen.{AddsAll, AddsOwn, AreOwn, IsNumberOrCell, MadeBy, turn_of}
use Rattle.arc_table.specs.TableLaws.{starts_whole}
use Rattle.trace_run.specs.one_caller.Access.{events_of_drop}
use Rattle.trace_run.specs.Acts.{acts_of_drop}
use Rattle.trace_run.proofs.CacheLemmas.{digest_eq-is}
use Rattle.trace_run.proofs.MoveLemmas.{does-made-own, does-moves}
use Rattle.trace_run.proofs.deeds.DeedLemmas.{told-own}
use Rattle.arc_table.proofs.OwnLemmas.{grows, made-all, made-alone, made-own, made-sees}
use Rattle.arc_table.proofs.reads.ReadMoments.{own-single}
use Rattle.trace_run.proofs.one_caller.TellLemmas.{digest_eq-same}
use Rattle.trace_run.proofs.CellsLeft.{LeavesCells, does-leaves, leaves-same, leaves-seen}
use Rattle.arc_table.proofs.ToldLemmas.{told-more}

-- ---- pointers counted

pub is_ptr-same : (x : Ptr) → is_ptr x x ≡ true
is_ptr-same x = rw (key_eq-same x.key, digest_eq-same x.digest) refl

pub is_ptr-is : (x y : Ptr) → is_ptr x y ≡ true → x ≡ y
is_ptr-is x y is = elim (cases_true (key_eq x.key y.key)) [
  | inl key ↦
      let digest : digest_eq x.digest y.digest ≡ true = rw key at is in
      let keys : x.key ≡ y.key = key_eq-is x.key y.key key in
      let digests : x.digest ≡ y.digest = digest_eq-is x.digest y.digest digest in
      λ i. record { key = keys i; digest = digests i }
  | inr differs ↦
      let never : false ≡ true = rw differs at is in
      absurd (false≢true never)
]

pub times-append : (x : Ptr) (a b : List Ptr) → times x (a ++ b) ≡ times x a + times x b
times-append x a b = sum_by-append (λ y. cond (is_ptr x y) 1 0) a b

pub times-cons : (x y : Ptr) (ys : List Ptr) → times x (y ∷ ys) ≡ cond (is_ptr x y) 1 0 + times x ys
times-cons x y ys = sum_by-cons (λ z. cond (is_ptr x z) 1 0) y ys

pub one-of : (x : Ptr) (xs : List Ptr) → 0 < times x xs → IsOneOf x xs
one-of x [] some_of = absurd (omega arith)
one-of x (y ∷ ys) some_of = elim (cases_true (is_ptr x y)) [
  | inl same ↦ (0, ap some (sym (is_ptr-is x y same)))
  | inr other ↦
      let left : 0 < times x ys = let c = times-cons x y ys in let none : ◌≡◌ {A = ℕ} (cond (is_ptr x y) 1 0) 0 = rw other refl in omega arith in
      let later = one-of x ys left in (suc later.0, later.1)
]

-- one hold of a key less is this pointer less, where all holds of the key have its digest
without-one : (k : Key) (d : Digest) (hs : List Ptr) → ((j : ℕ) (h : Ptr) → get_elem? hs j ≡ some h → key_eq k h.key ≡ true → h.digest ≡ d)
    → 0 < times (record { key = k; digest = d }) hs → (x : Ptr) → times x hs ≡ times x (record { key = k; digest = d } ∷ []) + times x (without_hold k hs)
without-one k d [] all some_of x = absurd (omega arith)
without-one k d (h ∷ hs) all some_of x = elim (cases_true (key_eq k h.key)) [
  | inl same ↦
      let keys : k ≡ h.key = key_eq-is k h.key same in
      let digests : d ≡ h.digest = sym (all 0 h refl same) in
      let this : Ptr = record { key = k; digest = d } in
      let is : this ≡ h = λ i. record { key = keys i; digest = digests i } in
      rw same (subst (λ (y : Ptr). times x (h ∷ hs) ≡ times x (y ∷ []) + times x hs) (sym is) (let a = times-cons x h hs in let b = times-cons x h [] in omega arith))
  | inr other ↦
      let this : Ptr = record { key = k; digest = d } in
      let none : ◌≡◌ {A = ℕ} (cond (is_ptr this h) 1 0) 0 = rw other refl in
      let left : 0 < times this hs = let c = times-cons this h hs in omega arith in
      let rest = without-one k d hs (λ j y at is. all (suc j) y at is) left x in
      rw other (let a = times-cons x h hs in let b = times-cons x h (without_hold k hs) in omega arith)
]

-- ---- what is listed for the kept reads

listed-append : (a b : List KeptBlock) → listed_all (a ++ b) ≡ listed_all a ++ listed_all b
listed-append [] b = refl
listed-append (x ∷ xs) b = ap (λ (l : List Ptr). listed_for x.kept ++ l) (listed-append xs b) ∙ sym (append_assoc (listed_for x.kept) (listed_all xs) (listed_all b))

pub times-middle : (x : Ptr) (front rest : List KeptBlock) (read : KeptBlock)
    → times x (listed_all (front ++ read ∷ rest)) ≡ times x (listed_for read.kept) + times x (listed_all (front ++ rest))
times-middle x front rest read =
    let a = ap (times x) (listed-append front (read ∷ rest)) in
    let b = times-append x (listed_all front) (listed_for read.kept ++ listed_all rest) in
    let c = times-append x (listed_for read.kept) (listed_all rest) in
    let d = ap (times x) (listed-append front rest) in
    let e = times-append x (listed_all front) (listed_all rest) in
    omega arith

module _ {X : Type 0} (P : X → Type 0) where
  all-middle : (front rest : List X) (x : X) → AllByRecursion P (front ++ x ∷ rest) → P x × AllByRecursion P (front ++ rest)
  all-middle [] rest x all = (all.0, all.1)
  all-middle (y ∷ ys) rest x all = let h = all-middle ys rest x all.1 in (h.0, (all.0, h.1))

-- ---- one read is given back

-- the parties that joined it are as before, and it has seen all that it had
abbrev pub KeepsJoined : {C : Type 0} → Config → (p q : Place (Known C)) → Type 0
KeepsJoined g p q = (q.joined ≡ p.joined) × ((i : ℕ) → StartsWith (front_of (turn_of g i) q.own.seen) (front_of (turn_of g i) p.own.seen))

pub keeps-same : {C : Type 0} (g : Config) (p q : Place (Known C)) → q ≡ p → KeepsJoined g p q
keeps-same g p q is = subst (KeepsJoined g p) (sym is) (refl, λ i. starts_whole (front_of (turn_of g i) p.own.seen))

module _ {C : Type 0} (cache : Cache) (p : Place (Known C)) (front rest : List KeptBlock) (read : KeptBlock) (stands : Stands cache p (front ++ read ∷ rest)) where
  owned-one : IsOwnedBy p.number read.kept
  owned-one = (all-middle (λ b. IsOwnedBy p.number b.kept) front rest read stands.owned).0

  -- a hold that is kept is listed
  pub kept-held : (hold : Hold) → read.kept ≡ Held hold → IsHeld cache.config p hold
  kept-held hold is =
      let owner : hold.owner ≡ p.number = subst (λ (k : Kept). IsOwnedBy p.number k) is owned-one in
      let x = ptr_of hold in
      let one : 0 < times x p.own.ledger.holds =
      let a = stands.listed x in
      let b = times-middle x front rest read in
      let c : times x (listed_for read.kept) ≡ times x (x ∷ []) = ap (λ (k : Kept). times x (listed_for k)) is in
      let d = times-cons x x [] in
      let e : ◌≡◌ {A = ℕ} (cond (is_ptr x x) 1 0) 1 = rw (is_ptr-same x) refl in
      omega arith in
      own owner (one-of x p.own.ledger.holds one)

module _ {C : Type 0} (m : Meanings C) (cache : Cache) (p q : Place (Known C)) (front rest : List KeptBlock) (read : KeptBlock)
    (stands : Stands cache p (front ++ read ∷ rest)) where
  abbrev g : Config
  g = cache.config

  abbrev valid : IsConfig cache.config
  valid = stands.valid

  owned-rest : AllByRecursion (λ b. IsOwnedBy p.number b.kept) (front ++ rest)
  owned-rest = (all-middle (λ b. IsOwnedBy p.number b.kept) front rest read stands.owned).1

  module _ (hold : Hold) (is : read.kept ≡ Held hold) (d : Does m cache.config hold.key (Drop hold.owner hold.key ∷ []) p q) where
    config : p.own.about.config ≡ g
    config = stands.of.config

    owner : hold.owner ≡ p.number
    owner = subst (λ (k : Kept). IsOwnedBy p.number k) is (owned-one cache p front rest read stands)

    mine : AreOwn (parties_of g) p.number (Drop hold.owner hold.key ∷ [])
    mine = own-single p.number (Drop hold.owner hold.key) owner refl

    made : MadeBy (IsNumberOrCell g) g (shard_of g.shards hold.key) d.before (Drop hold.owner hold.key ∷ []) p q
    made = does-made-own m g valid hold.key p q config stands.seen (Drop hold.owner hold.key ∷ []) mine d

    listed-one : (x : Ptr) → times x p.own.ledger.holds ≡ times x (ptr_of hold ∷ []) + times x (listed_all (front ++ rest))
    listed-one x = stands.listed x ∙ (times-middle x front rest read ∙ ap (λ (k : Kept). times x (listed_for k) + times x (listed_all (front ++ rest))) is)

    listed-once : 0 < times (ptr_of hold) p.own.ledger.holds
    listed-once =
        let x = ptr_of hold in
        let a = listed-one x in
        let b = times-cons x x [] in
        let e : ◌≡◌ {A = ℕ} (cond (is_ptr x x) 1 0) 1 = rw (is_ptr-same x) refl in
        omega arith

    -- all holds of the key have the digest of its entry
    ledger-then : d.reached.own.ledger ≡ p.own.ledger
    ledger-then = (reached m g hold.key d.chain d.before p d.reached d.takes).ledger

    rests-of : (x : Ptr) → x.key ≡ hold.key → IsOneOf x p.own.ledger.holds → Rests d.before.now x
    rests-of x same one = rests m g hold.key d.chain d.before p d.reached d.takes config valid x (ap (shard_turn g) same) (subst (λ (l : Ledger). IsOneOf x l.holds) (sym ledger-then) one)

    same-digest : (j : ℕ) (h : Ptr) → get_elem? p.own.ledger.holds j ≡ some h → key_eq hold.key h.key ≡ true → h.digest ≡ sha256_of hold.block.value
    same-digest j h at same =
        let keys : h.key ≡ hold.key = sym (key_eq-is hold.key h.key same) in
        let a = rests-of h keys (j, at) in
        let b = rests-of (ptr_of hold) refl (one-of (ptr_of hold) p.own.ledger.holds listed-once) in
        let entries : a.entry ≡ b.entry = entry-one a.entry b.entry (sym a.there ∙ (ap (λ (k : Key). entry_of k d.before.now) keys ∙ b.there)) in
        digest-one h.digest (sha256_of hold.block.value) (sym a.digest ∙ (ap (λ (e : Entry). e.digest) entries ∙ b.digest))
      where
        entry-one : (x y : Entry) → ◌≡◌ {A = Option Entry} (Some x) (Some y) → x ≡ y
        entry-one x y e = cc

        digest-one : (x y : Digest) → ◌≡◌ {A = Option Digest} (Some x) (Some y) → x ≡ y
        digest-one x y e = cc

    ledger-is : q.own.ledger ≡ ledger_through g.callers p.number (shard_turn g hold.key) d.before.now (Drop hold.owner hold.key ∷ []) d.makes.after.now p.own.ledger
    ledger-is = does_ledger m g valid hold.key (Drop hold.owner hold.key ∷ []) p q config d

    holds-are : q.own.ledger.holds ≡ without_hold hold.key p.own.ledger.holds
    holds-are = ap (λ (l : Ledger). l.holds) ledger-is ∙ rw (eq-eqb p.number hold.owner (sym owner)) refl

    pub held-stands : Stands cache q (front ++ rest)
    held-stands =
        let stays = does_stays m g valid hold.key (Drop hold.owner hold.key ∷ []) p q config d in
        record {
          valid = stands.valid;
          of = stays_party cache p q stays stands.of;
          free = stays.held ∙ stands.free;
          cells = leaves-seen g p q (does-leaves m g valid hold.key (Drop hold.owner hold.key ∷ []) p q config d) stands.cells;
          idle = ap (λ (l : Ledger). l.readings) ledger-is ∙ stands.idle;
          unclaimed = λ i. ap (λ (l : Ledger). list_at i l.claims) ledger-is ∙ stands.unclaimed i;
          seen = made-sees g (shard_of g.shards hold.key) d.before (Drop hold.owner hold.key ∷ []) p q made stands.seen;
          apart = subst (λ (x : ℕ × List (Joined (Known C))). Apart x.0 x.1) (λ i. (sym stays.number i, sym stays.joined i)) stands.apart;
          joined = subst AllQuiet (sym stays.joined) stands.joined;
          owned = subst (λ (n : ℕ). AllByRecursion (λ b. IsOwnedBy n b.kept) (front ++ rest)) (sym stays.number) owned-rest;
          listed = λ x.
              let a = without-one hold.key (sha256_of hold.block.value) p.own.ledger.holds same-digest listed-once x in
              let b = listed-one x in
              let c = ap (times x) holds-are in
              omega arith;
        }

    moments-are : own_moments p.number (moments d.before.now (Drop hold.owner hold.key ∷ [])) ≡ record { before = d.before.now; event = Drop p.number hold.key } ∷ []
    moments-are = subst (λ (n : ℕ). own_moments p.number (moments d.before.now (Drop n hold.key ∷ [])) ≡ record { before = d.before.now; event = Drop p.number hold.key } ∷ []) (sym owner)
        (rw (eq-eqb p.number p.number refl) refl)

    pub held-adds : Adds g (shard_of g.shards hold.key) (acts_of_drop p.number (Some hold.key)) (events_of_drop p.number (Some hold.key)) p q
    held-adds = record {
      number = made.same.number;
      told = λ before noted told. told-own g before (acts_of_drop p.number (Some hold.key)) noted p q (refl, tt)
          (told-more g before (GivenBack p.number hold.key) (record { before = d.before.now; event = Drop p.number hold.key } ∷ []) p q refl told.acts
          (subst (λ (ms : List Moment). AddsOwn g (shard_of g.shards hold.key) ms p q) moments-are (made-own g (shard_of g.shards hold.key) d.before (Drop hold.owner hold.key ∷ []) p q made))
          (record { events = refl; digests = (tt, tt) }))
          (does-moves m g valid hold.key p q config stands.seen (Drop hold.owner hold.key ∷ []) mine d).same told;
      keeps = (does-moves m g valid hold.key p q config stands.seen (Drop hold.owner hold.key ∷ []) mine d).same.keeps;
      cells = (does-moves m g valid hold.key p q config stands.seen (Drop hold.owner hold.key ∷ []) mine d).cells;
      alone = λ all. subst (λ (n : ℕ). AddsAll g (shard_of g.shards hold.key) (Drop n hold.key ∷ []) p q) owner (made-alone g (shard_of g.shards hold.key) d.before (Drop hold.owner hold.key ∷ []) p q made all);
      all = λ all. made-all g (shard_of g.shards hold.key) d.before (Drop hold.owner hold.key ∷ []) p q made all;
      joined = made.same.joined;
    }

    pub held-keeps : KeepsJoined g p q
    held-keeps = (made.same.joined, grows g (shard_of g.shards hold.key) d.before (Drop hold.owner hold.key ∷ []) p q made)

  pub given-keeps : (kept : Kept) → read.kept ≡ kept → GivesKeptBack m g kept p q → KeepsJoined g p q
  given-keeps (Held hold) is d = held-keeps hold is d
  given-keeps (Loose key block) is same = keeps-same g p q same

  -- what is left of the kept reads is held
  pub given-stands : (kept : Kept) → read.kept ≡ kept → GivesKeptBack m g kept p q → Stands cache q (front ++ rest)
  given-stands (Held hold) is d = held-stands hold is d
  given-stands (Loose key block) is same = subst (λ (x : Place (Known C)). Stands cache x (front ++ rest)) (sym same)
      record {
        valid = stands.valid;
        of = stands.of;
        free = stands.free;
        cells = stands.cells;
        idle = stands.idle;
        unclaimed = stands.unclaimed;
        seen = stands.seen;
        apart = stands.apart;
        joined = stands.joined;
        owned = owned-rest;
        listed = λ x. let a = stands.listed x in let b = times-middle x front rest read in let c : times x (listed_for read.kept) ≡ 0 = ap (λ (k : Kept). times x (listed_for k)) is in omega arith;
      }

  pub given-drops : (kept : Kept) → read.kept ≡ kept → GivesKeptBack m g kept p q → Drops g (held_key kept) p q
  given-drops (Held hold) is d = held-adds hold is d
  given-drops (Loose key block) is same = same

-- a read that is given back leaves cells as they were
pub given-leaves : {C : Type 0} (m : Meanings C) (g : Config) → IsConfig g → (p q : Place (Known C)) → p.own.about.config ≡ g → (kept : Kept) → GivesKeptBack m g kept p q → LeavesCells g p q
given-leaves m g valid p q config (Held hold) d = does-leaves m g valid hold.key (Drop hold.owner hold.key ∷ []) p q config d
given-leaves m g valid p q config (Loose key block) same = leaves-same g p q same
