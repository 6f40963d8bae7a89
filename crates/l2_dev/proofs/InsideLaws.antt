-- A crash at any moment of a begin, a put or a commit leaves an image that these calls made, and a rebuild of it finds no more than
-- one of the headers restores, unless two contents have one digest.
use Rattle.std.specs.Prelude.{◌≡◌, ◌≢◌, ℕ, ◌⊎◌, List, [], ◌∷◌, Bool, Option, Some}
use Rattle.std.proofs.Common.{inl, inr, sym, ◌∙◌}
use Rattle.std.specs.List.{AllByRecursion}
use Rattle.l2_log.specs.declared.log_block.LogBlock.{LogBlock}
use Rattle.arc_core.specs.declared.served.Restored.{Restored}
use Rattle.l2_dev.specs.declared.stop.Stop.{Stop}
use Rattle.l2_dev.specs.declared.stop.Stop.TheVariants as stop
use Rattle.l2_dev.specs.Restoring.{IsRebuilt}
use Rattle.l2_dev.specs.Standing.{Candidate, IsCandidate, IsLeftBy, Rebuilds, AnyOf, restored_by}
use Rattle.l2_dev.proofs.RebuildLaws.{any_weaker}
use Rattle.l2_dev.specs.Promise.{LeftAmong, LeavesOnlyWith}
use Rattle.l2_dev.specs.Ends.{EndsAt, HasCollision}
use Rattle.l2_dev.proofs.EndLaws.{all_ends, begin_ends, commit_header_ends, made_among, more_collides}
use Rattle.l2_dev.specs.InsideLaws.{AreFoundSince, BeginCrashes, CommitCrashes, PutCrashes}

-- The log blocks that were ever written to the device.
module _ (Made : LogBlock → Type 0) where
  found_among : (end : ℕ) (image : List ℕ) (ks : List Candidate) (restored : List Restored) (why : Stop) → AnyOf (IsLeftBy image) ks → AllByRecursion (IsCandidate end) ks → AllByRecursion (EndsAt Made end) ks
      → IsRebuilt end image restored why → why ≢ stop.DevFault → AnyOf (λ (k : Candidate). restored ≡ restored_by k) ks ⊎ HasCollision Made image
  found_among end image [] restored why any good ends is well = absurd any
  found_among end image (k ∷ ks) restored why (inl here) good ends is well = elim (more_collides Made end image k restored why good.0 here ends.0 is well) [
    | inl same ↦ inl (inl same)
    | inr met ↦ inr met
  ]
  found_among end image (k ∷ ks) restored why (inr there) good ends is well = elim (found_among end image ks restored why there good.1 ends.1 is well) [
    | inl same ↦ inl (inr same)
    | inr met ↦ inr met
  ]

  module _ {D : Type 0} (tells : D → Option (List ℕ)) (has_sectors : D → Bool) (leaves : D → List ℕ → Type 0) (moment : D → ℕ) (since : D → ℕ → List ℕ → Type 0) where
    found_since : (end : ℕ) (ks : List Candidate) (old new : D) → AllByRecursion (IsCandidate end) ks → AllByRecursion (EndsAt Made end) ks → LeavesOnlyWith moment since old new (LeftAmong end ks)
        → (AreFoundSince Made tells has_sectors leaves moment since) end ks old new
    found_since end ks old new good ends crash = λ image left.
        let any : AnyOf (IsLeftBy image) ks = any_weaker (λ (k : Candidate). IsLeftBy image k × Rebuilds end image k) (IsLeftBy image) ks (λ k h. h.0) (crash.each image left) in
        record {
          made = made_among Made end image ks any good ends;
          rebuilt = λ restored why is well. found_among end image ks restored why any good ends is well;
        }

    pub begin_crashes : ((d : D) (image : List ℕ) → tells d ≡ Some image → leaves d image) → (BeginCrashes Made tells has_sectors leaves moment since)
    begin_crashes told_left n old new cursor after p k kept at h below left all =
        let ends = begin_ends Made tells has_sectors leaves moment since told_left n old new cursor after p k kept at h below left all in
        found_since after.ring.end (k ∷ p.candidates) old new left.good.each ends.1.headers left.crash

    pub put_crashes : (PutCrashes Made tells has_sectors leaves moment since)
    put_crashes old new cursor p kept all crash = found_since cursor.ring.end p.candidates old new kept.good.each all.headers crash

    pub commit_crashes : (CommitCrashes Made tells has_sectors leaves moment since)
    commit_crashes old new cursor after p v k is made left all =
        let end : cursor.ring.end ≡ after.ring.end = sym left.such.end ∙ left.named.named.ends in
        found_since after.ring.end (k ∷ p.candidates) old new left.good.each
        (commit_header_ends Made tells has_sectors leaves moment since old new cursor after p v k is made left all, all_ends Made cursor.ring.end after.ring.end p.candidates end all.headers) left.crash
