-- Lists and keys: small facts that the loops go by.
use Rattle.std.proofs.Common.{◌≡◌, ℕ, zero, suc, ◌+◌, ◌<◌, true, false, IsTrue, List, [], ◌∷◌, length, get_or, drop, take, refl, sym, ap, ◌∙◌, arith, add-one, inl, inr, min, take_all, ◌-◌}
use Rattle.std.specs.Prelude.{◌==◌, sum_by}
use Rattle.std.proofs.Math.Seq.{drop-cons}
use Rattle.std.proofs.lemmas.Bool.Decides.{nat_tests}
use Rattle.std.proofs.lemmas.List.{length-drop, take-append-drop}
use Rattle.std.proofs.lemmas.Bool.{cases_lt, eqb-true}
use Rattle.std.proofs.lemmas.List.Sums.{sum_by-append, sum_by-cons}
use Rattle.blk_ptr.specs.declared.key.Key.{Key}
use Rattle.blk_ptr.specs.Key.{IsWellFormed, is_well_formed}
use Rattle.arc_table.specs.declared.picks.Picked.{Picked as Block}
use Rattle.l2_feed.specs.Acts.{keys_of}
use Rattle.l2_feed.specs.Runs.{bytes_of, most}

module _ {X : Type 0} where
  pub drop_one : (xs : List X) (i : ℕ) (d : X) → i < length xs → drop i xs ≡ get_or xs i d ∷ drop (i + 1) xs
  drop_one xs i d below = rw add-one (drop-cons xs i d below)

  -- the item of a loop, and those behind it
  pub drop_at : (xs : List X) (i : ℕ) (x : X) → i < length xs → x ≡ get_or xs i x → drop i xs ≡ x ∷ drop (i + 1) xs
  drop_at xs i x below is = drop_one xs i x below ∙ ap (λ (v : X). v ∷ drop (i + 1) xs) (sym is)

  pub item_is : (xs : List X) (i : ℕ) (d : X) → i < length xs → get_or xs i d ≡ get_or xs i (get_or xs i d)
  item_is [] i d below = absurd (omega arith)
  item_is (x ∷ xs) zero d below = refl
  item_is (x ∷ xs) (suc i) d below = later xs i d (get_or xs i d) (omega arith)
    where
      later : (xs : List X) (i : ℕ) (d e : X) → i < length xs → get_or xs i d ≡ get_or xs i e
      later [] i d e below = absurd (omega arith)
      later (x ∷ xs) zero d e below = refl
      later (x ∷ xs) (suc i) d e below = later xs i d e (omega arith)

  pub take_min : (n : ℕ) (xs : List X) → take (min (length xs) n) xs ≡ take n xs
  take_min n xs = elim (cases_lt n (length xs)) [
    | inl less ↦ ap (λ (k : ℕ). take k xs) (let e : min (length xs) n ≡ n = omega arith in e)
    | inr most ↦
        let e : min (length xs) n ≡ length xs = omega arith in
        ap (λ (k : ℕ). take k xs) e ∙ (take_all (length xs) xs (omega arith) ∙ sym (take_all n xs most))
  ]

  pub rest_all : (n : ℕ) (xs : List X) → take (length xs - n) (drop n xs) ≡ drop n xs
  rest_all n xs = take_all (length xs - n) (drop n xs) (let e = length-drop n xs in omega arith)

  pub some_there : (xs : List X) → 0 < length xs → (x : X) × (rest : List X) × (xs ≡ x ∷ rest)
  some_there [] some = absurd (omega arith)
  some_there (x ∷ xs) some = (x, xs, refl)

module _ {X : Type 0} where
  pub empty_is : (xs : List X) → (length xs == 0) ≡ true → xs ≡ []
  empty_is [] is = refl
  empty_is (x ∷ xs) is = let e = eqb-true (length (x ∷ xs)) 0 is in absurd (omega arith)

  pub some_is : (xs : List X) → (length xs == 0) ≡ false → 0 < length xs
  some_is [] is = cc
  some_is (x ∷ xs) is = omega arith

pub formed_is : (k : Key) → IsTrue (is_well_formed k) → IsWellFormed k
formed_is k formed = grind (arith, nat_tests)

pub bytes_split : (n : ℕ) (bs : List Block) → bytes_of bs ≡ bytes_of (take n bs) + bytes_of (drop n bs)
bytes_split n bs = ap bytes_of (sym (take-append-drop n bs)) ∙ sum_by-append (λ (b : Block). b.key.size) (take n bs) (drop n bs)

pub bytes_cons : (b : Block) (bs : List Block) → bytes_of (b ∷ bs) ≡ b.key.size + bytes_of bs
bytes_cons b bs = sum_by-cons (λ (x : Block). x.key.size) b bs

pub bytes_keys : (bs : List Block) → sum_by (λ (k : Key). k.size) (keys_of bs) ≡ bytes_of bs
bytes_keys [] = refl
bytes_keys (b ∷ bs) = sum_by-cons (λ (k : Key). k.size) b.key (keys_of bs) ∙ (ap (λ (n : ℕ). b.key.size + n) (bytes_keys bs) ∙ sym (bytes_cons b bs))
