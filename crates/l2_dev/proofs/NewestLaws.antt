-- That a rebuild restores the newest live entry of each key, where every header that a crash may leave was written with what is live now.
use Rattle.std.specs.Prelude.{◌≡◌, ◌≢◌, ℕ, ◌++◌, List, [], ◌∷◌, map, reverse, Bool, Option}
use Rattle.std.proofs.Common.{inl, inr, sym, ap, ◌∙◌}
use Rattle.std.proofs.lemmas.List.{reverse-reverse}
use Rattle.std.specs.List.{AllByRecursion}
use Rattle.l2_ring.specs.declared.live.Written.{Written}
use Rattle.arc_core.specs.declared.served.Restored.{Restored}
use Rattle.l2_dev.specs.declared.stop.Stop.{Stop}
use Rattle.l2_dev.specs.declared.stop.Stop.TheVariants as stop
use Rattle.l2_dev.specs.Restoring.{IsRebuilt, firsts, restored_of}
use Rattle.l2_dev.specs.Standing.{Candidate, Kept, written_of}
use Rattle.l2_dev.specs.Promise.{Promise, IsOf, LeftAmong}
use Rattle.l2_dev.proofs.StepLaws.{left_among}
use Rattle.l2_dev.specs.NewestLaws.{NewestIsRestored}

among : (end : ℕ) (image : List ℕ) (p : Promise) (ks : List Candidate) (restored : List Restored) (why : Stop) → LeftAmong end ks image → AllByRecursion (IsOf p.blocks p.kept) ks
    → IsRebuilt end image restored why → why ≢ stop.DevFault → (more : List Restored) × (restored ≡ map restored_of (firsts (map written_of p.kept)) ++ more)
among end image p [] restored why any of is well = absurd any
among end image p (k ∷ ks) restored why (inl here) of is well =
    let found = here.1 restored why is well in
    (found.0, found.1.list ∙ ap (λ (kept : List Kept). map restored_of (firsts (map written_of kept)) ++ found.0) of.0.entries)
among end image p (k ∷ ks) restored why (inr there) of is well = among end image p ks restored why there of.1 is well

pub newest_is_restored : {D : Type 0} (tells : D → Option (List ℕ)) (has_sectors : D → Bool) (leaves : D → List ℕ → Type 0) → NewestIsRestored tells has_sectors leaves
newest_is_restored tells has_sectors leaves device cursor p kept of image left restored why is well =
    let found = among cursor.ring.end image p p.candidates restored why (left_among cursor.ring.end p.candidates image kept.good.each (kept.backed image left).left) of is well in
    let same : map written_of p.kept ≡ reverse cursor.ring.live = sym (reverse-reverse (map written_of p.kept)) ∙ ap (λ (ws : List Written). reverse ws) (sym kept.upheld.live) in
    (found.0, found.1 ∙ ap (λ (ws : List Written). map restored_of (firsts ws) ++ found.0) same)
