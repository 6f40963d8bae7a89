-- What each of the simple events leaves at its own key and at every other, and that they leave the feed as it was.
use Rattle.std.proofs.Common.{◌≡◌, ℕ, Bool, true, false, if◌then◌else◌, Option, Some, None, refl, sym, ap, subst, ◌∙◌}
use Rattle.std.specs.Option.{option_map}
use Rattle.blk_ptr.specs.declared.key.Key.{Key}
use Rattle.blk_ptr.specs.declared.digest.Digest.{Digest}
use Rattle.blk_ptr.specs.Order.{key_eq}
use Rattle.blk_ptr.proofs.Keys.{key_eq-same}
use Rattle.arc_lists.specs.ByKey.{item_at}
use Rattle.arc_lists.proofs.Tables.{item_at-key, item_at-with_change_other, item_at-with_change_same, item_at-without_other, item_at-without_same}
use Rattle.arc_core.specs.declared.entry.Entry.{Entry}
use Rattle.arc_core.specs.declared.event.Event.TheVariants.{Hit, Miss, Arrive, Fail, Drop, Past}
use Rattle.arc_core.specs.declared.event.FailedAt.{FailedAt}
use Rattle.arc_core.specs.declared.event.Origin.{Origin}
use Rattle.arc_core.specs.PlainShard.{PlainShard, entry_is, entry_key, entry_of, is_unheld}
use Rattle.arc_core.specs.Changes.{at_head, changed, given_back, one_less}
use Rattle.arc_core.specs.Rules.{with_target_for}
use Rattle.arc_core.specs.Sound.{IsSound}
use Rattle.arc_core.specs.Step.{after, arrived, hit_entry, read_entry}
use Rattle.arc_core.proofs.Accesses.{accessed-keeps}
use Rattle.arc_core.proofs.Evictions.{absent-changed, at_head-entries}
use Rattle.arc_core.proofs.Frames.{frame-given_back, frame-taken_in}

-- ---- a change of one entry that keeps its key

module _ (change : Entry → Entry) (keeps : (x : Entry) → (change x).key ≡ x.key) where
  pub changed-same : (k : Key) (s : PlainShard) (e : Entry) → entry_of k s ≡ Some e → entry_of k (changed k change s) ≡ Some (change e)
  changed-same k s e item =
      let is : (change e).key ≡ k = keeps e ∙ item_at-key entry_key k s.entries e item in
      item_at-with_change_same entry_key k change s.entries e (subst (λ h. key_eq h k ≡ true) (sym is) (key_eq-same k)) item

  pub changed-other : (j k : Key) (s : PlainShard) → key_eq j k ≡ false → entry_of j (changed k change s) ≡ entry_of j s
  changed-other j k s apart = item_at-with_change_other entry_key j k change s.entries (λ x same. keeps x) apart

  -- the same, whether there is an entry or not
  pub own-changed : (k : Key) (s : PlainShard) → entry_of k (changed k change s) ≡ option_map change (entry_of k s)
  own-changed k s = go (entry_of k s) refl
    where
      go : (o : Option Entry) → entry_of k s ≡ o → entry_of k (changed k change s) ≡ option_map change o
      go None is = absent-changed k k change s.entries keeps is
      go (Some e) is = changed-same k s e is

-- giving a hold back changes the entry as one hold less does, wherever the key then stands
pub given_back-entries : (n : ℕ) (k : Key) (s : PlainShard) → (given_back n k s).entries ≡ (changed k (one_less n) s).entries
given_back-entries n k s = go (entry_is is_unheld k (changed k (one_less n) s))
  where
    go : (b : Bool) → (if b then at_head k (changed k (one_less n) s) else changed k (one_less n) s).entries ≡ (changed k (one_less n) s).entries
    go true = at_head-entries k (changed k (one_less n) s)
    go false = refl

pub hit-key : (n mintime t : ℕ) (e : Entry) → (hit_entry n mintime t e).key ≡ e.key
hit-key n mintime t e = (accessed-keeps e.state mintime t e).key

-- ---- at the event's key, and at every other

pub entry_of-hit : (s : PlainShard) (n t : ℕ) (k : Key) (e : Entry) → entry_of k s ≡ Some e → entry_of k (after s (Hit n k t)) ≡ Some (hit_entry n s.mintime t e)
entry_of-hit s n t k e item = changed-same (hit_entry n s.mintime t) (hit-key n s.mintime t) k s e item

pub entry_of-hit_other : (s : PlainShard) (n t : ℕ) (k j : Key) → key_eq j k ≡ false → entry_of j (after s (Hit n k t)) ≡ entry_of j s
entry_of-hit_other s n t k j apart = changed-other (hit_entry n s.mintime t) (hit-key n s.mintime t) j k s apart

pub entry_of-arrive : (s : PlainShard) (n : ℕ) (k : Key) (d : Digest) (from : Origin) (e : Entry) → entry_of k s ≡ Some e → entry_of k (after s (Arrive n k d from)) ≡ Some (arrived d e)
entry_of-arrive s n k d from e item = changed-same (arrived d) (λ x. refl) k s e item

pub entry_of-arrive_other : (s : PlainShard) (n : ℕ) (k j : Key) (d : Digest) (from : Origin) → key_eq j k ≡ false → entry_of j (after s (Arrive n k d from)) ≡ entry_of j s
entry_of-arrive_other s n k j d from apart = changed-other (arrived d) (λ x. refl) j k s apart

pub entry_of-drop : (s : PlainShard) (n : ℕ) (k : Key) (e : Entry) → entry_of k s ≡ Some e → entry_of k (after s (Drop n k)) ≡ Some (one_less n e)
entry_of-drop s n k e item = ap (item_at entry_key k) (given_back-entries n k s) ∙ changed-same (one_less n) (λ x. refl) k s e item

pub entry_of-drop_other : (s : PlainShard) (n : ℕ) (k j : Key) → key_eq j k ≡ false → entry_of j (after s (Drop n k)) ≡ entry_of j s
entry_of-drop_other s n k j apart = ap (item_at entry_key j) (given_back-entries n k s) ∙ changed-other (one_less n) (λ x. refl) j k s apart

pub entry_of-fail : (s : PlainShard) (n : ℕ) (k : Key) (at : FailedAt) → IsSound s → entry_of k (after s (Fail n k at)) ≡ None
entry_of-fail s n k at sound = item_at-without_same entry_key k s.entries sound.tidy.once

pub entry_of-fail_other : (s : PlainShard) (n : ℕ) (k j : Key) (at : FailedAt) → key_eq j k ≡ false → entry_of j (after s (Fail n k at)) ≡ entry_of j s
entry_of-fail_other s n k j at apart = item_at-without_other entry_key j k s.entries apart

pub entry_of-past : (s : PlainShard) (n : ℕ) (k j : Key) (kept : Digest) → entry_of j (after s (Past n k kept)) ≡ entry_of j s
entry_of-past s n k j kept = refl

-- ---- how far a feed has come

pub phase-hit : (s : PlainShard) (n t : ℕ) (k : Key) → (after s (Hit n k t)).phase ≡ s.phase
phase-hit s n t k = refl

pub phase-miss : (s : PlainShard) (n t : ℕ) (k : Key) → (after s (Miss n k t)).phase ≡ s.phase
phase-miss s n t k = (frame-taken_in (read_entry n k t s) (with_target_for k s)).phase

pub phase-arrive : (s : PlainShard) (n : ℕ) (k : Key) (d : Digest) (from : Origin) → (after s (Arrive n k d from)).phase ≡ s.phase
phase-arrive s n k d from = refl

pub phase-fail : (s : PlainShard) (n : ℕ) (k : Key) (at : FailedAt) → (after s (Fail n k at)).phase ≡ s.phase
phase-fail s n k at = refl

pub phase-drop : (s : PlainShard) (n : ℕ) (k : Key) → (after s (Drop n k)).phase ≡ s.phase
phase-drop s n k = (frame-given_back n k s).phase

pub phase-past : (s : PlainShard) (n : ℕ) (k : Key) (kept : Digest) → (after s (Past n k kept)).phase ≡ s.phase
phase-past s n k kept = refl
