-- The oldest read of a block, taken out of a queue of kept reads and out of the plain list of them.
use Rattle.std.proofs.Common.{◌≡◌, ℕ, List, [], ◌∷◌, ◌++◌, map, Option, Some, None, refl, sym, ap, ◌∙◌, subst, eq-eqb, ne_eqb}
use Rattle.std.specs.Prelude.{MatchOption}
use Rattle.std.specs.List.{AllByRecursion}
use Rattle.std.proofs.lemmas.List.{map-append}
use Rattle.key_queue.specs.Pairs.{IsTaken, Lacks}
use Rattle.trace_run.specs.declared.kept_blocks.KeptBlock.{KeptBlock}
use Rattle.trace_run.specs.KeptBlocks.{AreOfOthers, IsTakenOut, read_of}
use Rattle.trace_run.specs.KeptQueue.{IsUnderItsBlock, read_in}
use Rattle.trace_run.specs.KeptReads.{KeptRead}
use Rattle.trace_run.specs.one_caller.OneCaller.{oldest_kept, without_oldest}

module _ {X : Type 0} (P : X → Type 0) where
  all-front : (front rest : List X) → AllByRecursion P (front ++ rest) → AllByRecursion P front
  all-front [] rest all = tt
  all-front (x ∷ front) rest all = (all.0, all-front front rest all.1)

  all-there : (front rest : List X) (x : X) → AllByRecursion P (front ++ x ∷ rest) → P x
  all-there [] rest x all = all.0
  all-there (y ∷ front) rest x all = all-there front rest x all.1

  all-left : (front rest : List X) (x : X) → AllByRecursion P (front ++ x ∷ rest) → AllByRecursion P (front ++ rest)
  all-left [] rest x all = all.1
  all-left (y ∷ front) rest x all = (all.0, all-left front rest x all.1)

lacking : (n : ℕ) (xs : List (ℕ × KeptBlock)) → Lacks n xs → AllByRecursion IsUnderItsBlock xs → AreOfOthers n (map read_in xs)
lacking n [] lacks under = tt
lacking n (x ∷ xs) lacks under = (λ same. lacks.0 (sym under.0 ∙ same), lacking n xs lacks.1 under.1)

module _ (n : ℕ) (old new : List (ℕ × KeptBlock)) (under : AllByRecursion IsUnderItsBlock old) where
  -- each is still under its block
  pub still-under : (r : Option KeptBlock) → MatchOption r (Lacks n old × (new ≡ old)) (λ v. IsTaken n v old new) → AllByRecursion IsUnderItsBlock new
  still-under None same = subst (AllByRecursion IsUnderItsBlock) (sym same.1) under
  still-under (Some v) t = subst (AllByRecursion IsUnderItsBlock) (sym t.after) (all-left IsUnderItsBlock t.front t.back (n, v) (subst (AllByRecursion IsUnderItsBlock) t.before under))

  -- what is taken of a number is the oldest read of that block
  pub taken-out : (r : Option KeptBlock) → MatchOption r (Lacks n old × (new ≡ old)) (λ v. IsTaken n v old new)
      → MatchOption r (AreOfOthers n (map read_in old) × (map read_in new ≡ map read_in old)) (λ read. IsTakenOut n read (map read_in old) (map read_in new))
  taken-out None same = (lacking n old same.0 under, ap (map read_in) same.1)
  taken-out (Some v) t =
      let all : AllByRecursion IsUnderItsBlock (t.front ++ (n, v) ∷ t.back) = subst (AllByRecursion IsUnderItsBlock) t.before under in
      record {
        front = map read_in t.front;
        rest = map read_in t.back;
        before = ap (map read_in) t.before ∙ map-append read_in t.front ((n, v) ∷ t.back);
        after = ap (map read_in) t.after ∙ map-append read_in t.front t.back;
        oldest = lacking n t.front t.oldest (all-front IsUnderItsBlock t.front ((n, v) ∷ t.back) all);
        block = all-there IsUnderItsBlock t.front t.back (n, v) all;
      }

-- ---- the plain list

pub not-kept : (n : ℕ) (kept : List KeptBlock) → AreOfOthers n kept → (oldest_kept n (map read_of kept) ≡ None) × (without_oldest n (map read_of kept) ≡ map read_of kept)
not-kept n [] others = (refl, refl)
not-kept n (b ∷ bs) others =
    let rest = not-kept n bs others.1 in
    let differs = ne_eqb b.block n others.0 in
    (rw differs rest.0, rw differs (ap (λ (l : List KeptRead). read_of b ∷ l) rest.1))

module _ (n : ℕ) (read : KeptBlock) (rest : List KeptBlock) (is : read.block ≡ n) where
  oldest-there : (front : List KeptBlock) → AreOfOthers n front
      → (oldest_kept n (map read_of (front ++ read ∷ rest)) ≡ Some (read_of read)) × (without_oldest n (map read_of (front ++ read ∷ rest)) ≡ map read_of (front ++ rest))
  oldest-there [] others = let same = eq-eqb read.block n is in (rw same refl, rw same refl)
  oldest-there (b ∷ bs) others =
      let later = oldest-there bs others.1 in
      let differs = ne_eqb b.block n others.0 in
      (rw differs later.0, rw differs (ap (λ (l : List KeptRead). read_of b ∷ l) later.1))

-- the read that was taken out is the oldest one, and the others are left
pub oldest-taken : (n : ℕ) (read : KeptBlock) (old new : List KeptBlock) → IsTakenOut n read old new
    → (oldest_kept n (map read_of old) ≡ Some (read_of read)) × (map read_of new ≡ without_oldest n (map read_of old))
oldest-taken n read old new t =
    let there = oldest-there n read t.rest t.block t.front t.oldest in
    let was : map read_of old ≡ map read_of (t.front ++ read ∷ t.rest) = ap (map read_of) t.before in
    (ap (oldest_kept n) was ∙ there.0, ap (map read_of) t.after ∙ (sym there.1 ∙ ap (without_oldest n) (sym was)))
