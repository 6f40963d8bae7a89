-- A party that holds a block: the entry's bytes are cached, at rest, with the digest of the hold.
use Rattle.std.proofs.Common.{◌≡◌, ◌==◌, ℕ, zero, suc, ◌<◌, List, [], ◌∷◌, true, false, Option, Some, refl, sym, ap, ◌∙◌, arith}
use Rattle.std.specs.Prelude.{◌&&◌, slice_index}
use Rattle.std.specs.List.{list_all}
use Rattle.std.specs.Option.{option_map_or}
use Rattle.std.proofs.lemmas.Bool.Decides.{nat_tests}
use Rattle.blk_ptr.specs.declared.digest.Digest.{Digest}
use Rattle.blk_ptr.specs.declared.ptr.Ptr.{Ptr}
use Rattle.blk_ptr.specs.declared.state.State.{State}
use Rattle.blk_ptr.specs.declared.state.State.TheVariants.{Anon, Mru, MruGhost, Mfu, MfuGhost, L2Only}
use Rattle.arc_core.specs.declared.config.Config.{Config}
use Rattle.arc_core.specs.Config.{IsConfig}
use Rattle.arc_core.specs.declared.entry.Entry.{Entry}
use Rattle.arc_core.specs.PlainShard.{PlainShard, entry_of, held_by, is_at_rest, is_resident, is_unheld, keeps_digest}
use Rattle.arc_core.specs.ShardLog.{ShardLog}
use Rattle.arc_core.specs.Sound.{IsSound, fits_state}
use Rattle.arc_core.specs.Step.{is_without_bytes, reads}
use Rattle.hash_chain.specs.Chain.{Chain}
use Rattle.turn_table.specs.Places.{Place}
use Rattle.arc_table.specs.declared.hits.Standing.{Standing}
use Rattle.arc_table.specs.declared.hits.Standing.TheVariants as standing
use Rattle.arc_table.specs.declared.view.Known.{Known}
use Rattle.arc_table.specs.Both.{TakesBoth}
use Rattle.arc_table.specs.Holding.{IsListed}
use Rattle.arc_table.specs.Items.{Meanings}
use Rattle.arc_table.specs.pact.Standing.{StandsSo}
use Rattle.arc_table.proofs.reads.HitEvents.{kept_is, passing}
use Rattle.arc_table.proofs.Reached.{IsHolding, holding, listed_still, sound_log}
use Rattle.arc_table.proofs.ShardGives.{entry_sound}
use Rattle.arc_table.proofs.Standings.{both_true}

none_at : (xs : List ℕ) (n : ℕ) → list_all (λ count. count == 0) xs ≡ true → slice_index xs n ≡ 0
none_at [] n h = refl
none_at (x ∷ xs) zero h = is_zero x (both_true (x == 0) _ h).0
  where
    is_zero : (x : ℕ) → (x == 0) ≡ true → x ≡ 0
    is_zero x h = grind (arith, nat_tests)
none_at (x ∷ xs) (suc n) h = none_at xs n (both_true (x == 0) _ h).1

-- an entry with a hold, at rest, keeps its bytes
held_cached : (n : ℕ) (e : Entry) → 0 < held_by n e → e.reading ≡ false → fits_state e.state e ≡ true → is_without_bytes e.state ≡ false
held_cached n e held rest = by_state e.state
  where
    not_unheld : is_unheld e ≡ true → ⊥
    not_unheld h = let z : held_by n e ≡ 0 = none_at e.holds n h in omega arith

    by_state : (s : State) → fits_state s e ≡ true → is_without_bytes s ≡ false
    by_state Anon h = refl
    by_state Mru h = refl
    by_state Mfu h = refl
    by_state MruGhost h = absurd (not_unheld (both_true (is_unheld e) _ (both_true (is_at_rest e) _ h).1).0)
    by_state MfuGhost h = absurd (not_unheld (both_true (is_unheld e) _ (both_true (is_at_rest e) _ h).1).0)
    by_state L2Only h = absurd (not_unheld (both_true (is_unheld e) _ (both_true (is_at_rest e) _ h).1).0)

-- what a shard says of the pointer of such a block: it is here
abbrev pub IsHere : Standing → Type 0
IsHere (standing.Here) = Unit {0}
IsHere _ = ⊥

same_entry : (s : PlainShard) (x : Ptr) (e f : Entry) → entry_of x.key s ≡ Some e → entry_of x.key s ≡ Some f → e ≡ f
same_entry s x e f a b = one e f (sym a ∙ b)
  where
    one : (x y : Entry) → ◌≡◌ {A = Option Entry} (Some x) (Some y) → x ≡ y
    one x y q = cc

pub held_here : (n : ℕ) (x : Ptr) (s : PlainShard) → IsSound s → IsHolding n x s → (st : Standing) → StandsSo x s st → IsHere st
held_here n x s sound h (standing.Here) so = tt
held_here n x s sound h (standing.Missing) so =
    let bytes = held_cached n h.entry h.held h.rest (entry_sound x.key s.entries h.entry sound.tidy.entries h.there).state in
    let missing : is_without_bytes h.entry.state ≡ true = ap (λ (o : Option Entry). option_map_or (λ e. is_without_bytes e.state) o true) (sym h.there) ∙ so in
    let f : false ≡ true = sym bytes ∙ missing in cc
held_here n x s sound h (standing.Reading owner) so =
    let p = passing (reads owner) x.key s so in
    let same = same_entry s x p.entry h.entry p.there h.there in
    let reading : p.entry.reading ≡ true = (both_true p.entry.reading _ p.passes).0 in
    let f : false ≡ true = sym h.rest ∙ (ap (λ (e : Entry). e.reading) (sym same) ∙ reading) in cc
held_here n x s sound h (standing.Other kept) so =
    let p = passing (λ e. is_resident e && keeps_digest kept e) x.key s so.1 in
    let same = same_entry s x p.entry h.entry p.there h.there in
    let digest : p.entry.digest ≡ Some kept = kept_is p.entry.digest kept (both_true (is_resident p.entry) _ p.passes).1 in
    absurd (so.0 (one kept x.digest (sym digest ∙ (ap (λ (e : Entry). e.digest) same ∙ h.digest))))
  where
    one : (x y : Digest) → ◌≡◌ {A = Option Digest} (Some x) (Some y) → x ≡ y
    one x y q = cc

-- so it is still when the party has taken the bucket and the shard
pub held_still : {C : Type 0} (m : Meanings C) (g : Config) (chain : Chain) (before : ShardLog) (x : Ptr) (p q : Place (Known C)) (t : TakesBoth m g x.key chain before p q) → p.own.about.config ≡ g → IsConfig g
    → (n : ℕ) → IsListed g p n x → (st : Standing) → StandsSo x before.now st → IsHere st
held_still m g chain before x p q t same valid n listed st so =
    held_here n x before.now (sound_log m g x.key chain before p q t same valid).replayed.sound
    (holding m g x.key chain before p q t same valid n x refl (listed_still m g x.key chain before p q t same valid n x listed)) st so
