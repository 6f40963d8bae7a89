-- The holds that a party lists once a block is got, and once it is given back.
use Rattle.std.proofs.Common.{◌≡◌, ℕ, if◌then◌else◌, List, [], ◌∷◌, ◌++◌, Bool, true, Option, Some, None, refl, sym, ap, ◌∙◌, subst, eq-eqb}
use Rattle.std.specs.Prelude.{option_and_then}
use Rattle.blk_ptr.specs.declared.digest.Digest.{Digest}
use Rattle.blk_ptr.specs.declared.key.Key.{Key}
use Rattle.blk_ptr.specs.declared.ptr.Ptr.{Ptr}
use Rattle.blk_ptr.specs.Order.{key_eq}
use Rattle.blk_ptr.proofs.Keys.{key_eq-same}
use Rattle.arc_core.specs.Config.{IsConfig}
use Rattle.arc_core.specs.declared.config.Config.{Config}
use Rattle.arc_core.specs.declared.entry.Entry.{Entry}
use Rattle.arc_core.specs.declared.event.Event.{Event}
use Rattle.arc_core.specs.declared.event.Event.TheVariants.{Arrive, Drop, Hit, Miss, Pass}
use Rattle.arc_core.specs.declared.event.Origin.{Origin}
use Rattle.arc_core.specs.PlainShard.{PlainShard, entry_of}
use Rattle.arc_core.specs.Step.{after}
use Rattle.turn_table.specs.Board.{IsAmong}
use Rattle.turn_table.specs.Places.{Place}
use Rattle.arc_table.specs.declared.hold.Hold.{Hold}
use Rattle.arc_table.specs.declared.view.Known.{Known}
use Rattle.arc_table.specs.declared.view.Ledger.{Ledger}
use Rattle.arc_table.specs.Booking.{digest_at, with_hold, without_hold}
use Rattle.arc_table.specs.Both.{Does}
use Rattle.arc_table.specs.pact.Counted.{Rests}
use Rattle.arc_table.specs.scans.Ending.{DoesRoomy}
use Rattle.arc_table.specs.Geometry.{shard_turn}
use Rattle.arc_table.specs.Holding.{IsHeld, IsOneOf, cell, own, ptr_of}
use Rattle.arc_table.specs.Items.{Meanings}
use Rattle.arc_table.specs.scans.Scanning.{ArePasses}
use Rattle.arc_table.specs.ShardGiving.{holds_through}
use Rattle.arc_table.proofs.Afterwards.{does_ledger, does_stays}
use Rattle.arc_table.proofs.Reached.{reached, rests}
use Rattle.arc_table.proofs.scans.RoomyAfter.{does_roomy_ledger}
use Rattle.arc_examples.specs.Ready.{Gains}

-- a scan and its miss give no hold
misses-hold : (g : Config) (n i t : ℕ) (k : Key) (s : PlainShard) (es : List Event) (hs : List Ptr) → ArePasses g n i es → holds_through n s (es ++ Miss n k t ∷ []) hs ≡ hs
misses-hold g n i t k s [] hs all = refl
misses-hold g n i t k s (Pass a x owner ∷ es) hs all = misses-hold g n i t k (after s (Pass a x owner)) es hs all.1
misses-hold g n i t k s (_ ∷ es) hs all = absurd all

pub without-first : (k : Key) (x : Ptr) (hs : List Ptr) → x.key ≡ k → without_hold k (x ∷ hs) ≡ hs
without-first k x hs is = ap (λ (b : Bool). if b then hs else (x ∷ without_hold k hs)) (subst (λ (j : Key). key_eq k j ≡ true) (sym is) (key_eq-same k))

no-digest : (d : Digest) → ◌≡◌ {A = Option Digest} None (Some d) → ⊥
no-digest d e = cc

module _ {C : Type 0} where
  pub same-gains : (k : Key) (p r q : Place (Known C)) → r.own.ledger.holds ≡ p.own.ledger.holds → Gains k r q → Gains k p q
  same-gains k p r q same a = record { ptr = a.ptr; key = a.key; holds = a.holds ∙ ap (λ (hs : List Ptr). a.ptr ∷ hs) same }

  -- what was gained is given back
  pub gained-back : (k : Key) (p r q : Place (Known C)) → Gains k p r → q.own.ledger.holds ≡ without_hold k r.own.ledger.holds → q.own.ledger.holds ≡ p.own.ledger.holds
  gained-back k p r q a back = back ∙ (ap (without_hold k) a.holds ∙ without-first k a.ptr p.own.ledger.holds a.key)

  -- a party that has no turn in hand has a hold under its own number
  pub own-hold : (g : Config) (p : Place (Known C)) (h : Hold) → p.held ≡ [] → IsHeld g p h → (h.owner ≡ p.number) × IsOneOf (ptr_of h) p.own.ledger.holds
  own-hold g p h free (own is one) = (is, one)
  own-hold g p h free (cell j is range among one) = absurd (subst (IsAmong j) free among)

module _ {C : Type 0} (m : Meanings C) (g : Config) (valid : IsConfig g) where
  pub none-holds : (k : Key) (p q : Place (Known C)) → p.own.about.config ≡ g → Does m g k [] p q → q.own.ledger.holds ≡ p.own.ledger.holds
  none-holds k p q config d = ap (λ (l : Ledger). l.holds) (does_ledger m g valid k [] p q config d)

  pub drop-holds : (h : Hold) (p q : Place (Known C)) → p.own.about.config ≡ g → h.owner ≡ p.number → Does m g h.key (Drop h.owner h.key ∷ []) p q → q.own.ledger.holds ≡ without_hold h.key p.own.ledger.holds
  drop-holds h p q config owner d = ap (λ (l : Ledger). l.holds) (does_ledger m g valid h.key (Drop h.owner h.key ∷ []) p q config d) ∙ rw (eq-eqb p.number h.owner (sym owner)) refl

  pub miss-holds : (k : Key) (t : ℕ) (p r : Place (Known C)) → p.own.about.config ≡ g → DoesRoomy m g k (Miss p.number k t) p r → r.own.ledger.holds ≡ p.own.ledger.holds
  miss-holds k t p r config d =
      let own : ArePasses g p.number (shard_turn g k) d.makes.passes = subst (λ (n : ℕ). ArePasses g n (shard_turn g k) d.makes.passes) (reached m g k d.chain d.before p d.reached d.takes).number d.makes.own in
      ap (λ (l : Ledger). l.holds) (does_roomy_ledger m g valid k (Miss p.number k t) p r config d) ∙ misses-hold g p.number (shard_turn g k) t k d.before.now d.makes.passes p.own.ledger.holds own

  pub arrive-gains : (ptr : Ptr) (from : Origin) (p q : Place (Known C)) → p.own.about.config ≡ g → Does m g ptr.key (Arrive p.number ptr.key ptr.digest from ∷ []) p q → Gains ptr.key p q
  arrive-gains ptr from p q config d = record {
    ptr = ptr;
    key = refl;
    holds = ap (λ (l : Ledger). l.holds) (does_ledger m g valid ptr.key (Arrive p.number ptr.key ptr.digest from ∷ []) p q config d) ∙ rw (eq-eqb p.number p.number refl) refl;
  }

  -- a hit gives a hold on the key, since the entry has a digest: that of the hold
  module _ (k : Key) (t : ℕ) (h : Hold) (p q : Place (Known C)) (config : p.own.about.config ≡ g) (free : p.held ≡ []) (key : h.key ≡ k) (held : IsHeld g q h) (d : Does m g k (Hit p.number k t ∷ []) p q) where
    hit-lists : q.own.ledger.holds ≡ with_hold k (digest_at k d.before.now) p.own.ledger.holds
    hit-lists = ap (λ (l : Ledger). l.holds) (does_ledger m g valid k (Hit p.number k t ∷ []) p q config d) ∙ rw (eq-eqb p.number p.number refl) refl

    there : IsOneOf (ptr_of h) p.own.ledger.holds → Rests d.before.now (ptr_of h)
    there one = rests m g k d.chain d.before p d.reached d.takes config valid (ptr_of h) (ap (shard_turn g) key)
        (subst (λ (l : Ledger). IsOneOf (ptr_of h) l.holds) (sym (reached m g k d.chain d.before p d.reached d.takes).ledger) one)

    has-digest : (r : Rests d.before.now (ptr_of h)) → digest_at k d.before.now ≡ Some (ptr_of h).digest
    has-digest r = ap (option_and_then (λ (e : Entry). e.digest)) (ap (λ (x : Key). entry_of x d.before.now) (sym key) ∙ r.there) ∙ r.digest

    by-digest : (o : Option Digest) → digest_at k d.before.now ≡ o → Gains k p q
    by-digest (Some x) is = record { ptr = record { key = k; digest = x }; key = refl; holds = hit-lists ∙ ap (λ (y : Option Digest). with_hold k y p.own.ledger.holds) is }
    by-digest None is =
        let same : q.own.ledger.holds ≡ p.own.ledger.holds = hit-lists ∙ ap (λ (y : Option Digest). with_hold k y p.own.ledger.holds) is in
        let after = does_stays m g valid k (Hit p.number k t ∷ []) p q config d in
        let one = (own-hold g q h (after.held ∙ free) held).1 in
        absurd (no-digest (ptr_of h).digest (sym is ∙ has-digest (there (subst (IsOneOf (ptr_of h)) same one))))

    pub hit-gains : Gains k p q
    hit-gains = by-digest (digest_at k d.before.now) refl
