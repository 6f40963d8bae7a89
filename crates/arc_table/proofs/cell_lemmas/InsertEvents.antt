-- A cell puts a block in.
use Rattle.std.proofs.Common.{◌≡◌, ℕ, length, true, false, Option, Some, None, refl, sym, ap, ◌∙◌, subst, inr}
use Rattle.std.specs.Prelude.{IsTrue, IsSome, MatchOption}
use Rattle.blk_ptr.specs.declared.digest.Digest.{Digest}
use Rattle.blk_ptr.specs.declared.key.Key.{Key}
use Rattle.blk_ptr.specs.Key.{is_well_formed}
use Rattle.blk_ptr.specs.Ptr.{sha256_of}
use Rattle.arc_lists.proofs.Standing.{both as both_true}
use Rattle.arc_core.specs.declared.config.Config.{Config}
use Rattle.arc_core.specs.Config.{IsConfig}
use Rattle.arc_core.specs.declared.entry.Entry.{Entry}
use Rattle.arc_core.specs.declared.event.Event.{Event}
use Rattle.arc_core.specs.declared.event.Event.TheVariants.{Insert}
use Rattle.arc_core.specs.PlainShard.{PlainShard, entry_of, is_cell, is_resident}
use Rattle.arc_core.specs.ShardLog.{IsReplayed, Makes as makes_one, ShardLog}
use Rattle.arc_core.specs.Step.{is_new_here, legal, written_entry}
use Rattle.arc_core.proofs.Others.{own-entry}
use Rattle.hash_chain.specs.Chain.{IsWith}
use Rattle.hash_chain.specs.declared.header.Header.{Header}
use Rattle.turn_table.specs.Board.{IsAmong}
use Rattle.turn_table.specs.Places.{Place}
use Rattle.arc_table.specs.declared.both.Both.{Both}
use Rattle.arc_table.specs.declared.scan.Scan.{Scan}
use Rattle.arc_table.specs.declared.view.Known.{Known}
use Rattle.arc_table.specs.scans.Ending.{HasMade}
use Rattle.arc_table.specs.scans.Evicting.{HasScanned}
use Rattle.arc_table.specs.Geometry.{bucket_turn, shard_turn}
use Rattle.arc_table.specs.Handing.{IsCellInHand}
use Rattle.arc_table.specs.pact.Headed.{IsHead, Says}
use Rattle.arc_table.specs.Items.{Meanings}
use Rattle.arc_table.specs.scans.Scanning.{pairs_of}
use Rattle.arc_table.proofs.HoldEvents.{cell_is}
use Rattle.arc_table.proofs.reads.MissEvents.{event_made}
use Rattle.arc_table.proofs.scans.Scans.{added_among}

pub insert_legal : {C : Type 0} (g : Config) (q : Place (Known C)) (n tick : ℕ) (k : Key) (d : Digest) (s : PlainShard) → IsConfig g → IsCellInHand g q n → IsTrue (is_well_formed k) → IsTrue (is_new_here k s) → IsTrue (legal s (Insert n k d tick))
insert_legal g q n tick k d s valid cell formed new = both_true (is_cell n) _ (ap is_cell cell.1 ∙ cell_is g cell.0 valid cell.2) (both_true _ _ formed new)

pub insert_there : (n tick : ℕ) (k : Key) (d : Digest) (l l' : ShardLog) → IsReplayed l → IsTrue (legal l.now (Insert n k d tick)) → makes_one (Insert n k d tick) l l' → entry_of k l'.now ≡ Some (written_entry n k d tick)
insert_there n tick k d l l' replayed ok makes = ap (entry_of k) makes.now ∙ own-entry l.now (Insert n k d tick) k replayed.sound ok refl

pub there_some : {o : Option Entry} {x : Entry} → o ≡ Some x → IsSome o
there_some {o} {x} e = subst (λ (z : Option Entry). IsSome z) (sym e) refl

pub insert_made : {C : Type 0} (m : Meanings C) (g : Config) (k : Key) (b : Both) (q q' : Place (Known C)) (n tick : ℕ) (d : Digest) (s s' : Scan) (h : HasScanned m g b (Insert n k d tick) q q' s) → b.turn ≡ shard_turn g k → b.hand.own.turn ≡ bucket_turn g k
    → IsCellInHand g q n → makes_one (Insert n k d tick) s.both.shard s'.both.shard → s'.both.turn ≡ s.both.turn → s'.both.hand.own.turn ≡ s.both.hand.own.turn → s'.both.hand.victims ≡ s.both.hand.victims
    → s'.both.hand.before ≡ s.both.hand.before → s'.marked ≡ s.marked → (x : Entry) → entry_of k s'.both.shard.now ≡ Some x → (o : Header)
    → (o.state ≡ x.state) × (o.reading ≡ false) × (o.place ≡ x.place) × (o.digest ≡ x.digest) × MatchOption o.block ⊥ (λ c. (sha256_of c.block.value ≡ d) × (length c.block.value ≡ k.size))
    → IsWith k (Some o) s.both.hand.own.bucket.headers s'.both.hand.own.bucket.headers → HasMade m g (Insert n k d tick) h.passes q q' s.both.shard s.both.hand.own.bucket s'
insert_made {C} m g k b q q' n tick d s s' h kind own cell makes turn first victims before marked x there o is with =
    let e : Event = Insert n k d tick in
    let entry : x ≡ written_entry n k d tick = one_entry x (written_entry n k d tick) (sym there ∙ insert_there n tick k d s.both.shard s'.both.shard h.scan.replayed h.legal makes) in
    let among : IsAmong cell.0 q'.held = subst (λ (y : Place (Known C)). IsAmong cell.0 y.held) (sym h.scan.place) (added_among (pairs_of s.both.hand.victims.items) q.held cell.0 cell.3) in
    event_made m g k b e q q' s s' h kind own refl refl record { acts = inr (cell.0, cell.1, cell.2, among); fit = tt; feeder = λ f. absurd (cc); own = λ j r. ap (shard_turn g) (one k j r) } makes turn first victims before marked o
    (subst (λ (y : Option Entry). IsHead y (Some o)) (sym there) (subst (λ (y : Entry). Says y o) (sym entry) (says o (written_entry n k d tick) refl
    (is.0 ∙ ap (λ (y : Entry). y.state) entry) is.1 (is.2 ∙ ap (λ (y : Entry). y.place) entry) (is.3 ∙ ap (λ (y : Entry). y.digest) entry) is.4))) with
  where
    one : (x y : Key) → ◌≡◌ {A = Option Key} (Some x) (Some y) → x ≡ y
    one x y r = cc

    one_entry : (x y : Entry) → ◌≡◌ {A = Option Entry} (Some x) (Some y) → x ≡ y
    one_entry x y r = cc

    says : (o : Header) (y : Entry) → y ≡ written_entry n k d tick → o.state ≡ y.state → o.reading ≡ false → o.place ≡ y.place → o.digest ≡ y.digest
        → MatchOption o.block ⊥ (λ c. (sha256_of c.block.value ≡ d) × (length c.block.value ≡ k.size)) → Says y o
    says o y is state reading place digest block = record {
      state = state;
      reading = reading ∙ ap (λ (z : Entry). z.reading) (sym is);
      place = place;
      digest = digest;
      block = (elim o.block as (λ c. MatchOption c ⊥ (λ b. (sha256_of b.block.value ≡ d) × (length b.block.value ≡ k.size)) → MatchOption c (is_resident y ≡ false) (λ b. (is_resident y ≡ true) × (y.digest ≡ Some (sha256_of b.block.value)) × (length b.block.value ≡ y.key.size))) [
        | None ↦ λ h. absurd h
        | Some c ↦ λ h. (ap is_resident is, ap (λ (z : Entry). z.digest) is ∙ ap (λ (z : Digest). let v : Option Digest = Some z in v) (sym h.0), h.1 ∙ ap (λ (z : Entry). z.key.size) (sym is))
      ]) block;
    }
