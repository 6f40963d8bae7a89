-- Powers of two: a number in which one bit is set, and a division by such a number.
use Rattle.std.proofs.Common.{◌≡◌, ℕ, zero, suc, ◌-◌, ◌/◌, ◌%◌, ◌^◌, ◌<◌, true, bit_and, count_ones, refl, sym, ap, ◌∙◌, arith}
use Rattle.std.proofs.Math.Nat.{pow-suc}
use Rattle.std.proofs.lemmas.Bool.Decides.{nat_tests}
use Rattle.std.proofs.lemmas.Nat.{and_mask, zero_from_ones}
use Rattle.std.specs.Int.{is_power_of_two}
use lib.Count.{count_trailing_zeros, ones_step, ones-le, under}

-- a number in which one bit is set, by its lowest bit
by_lowest : (n bit t : ℕ) → bit ≡ n % 2 → count_ones n ≡ 1 → (count_ones (n / 2) ≡ 1 → n / 2 ≡ 2 ^ t) → n ≡ 2 ^ under bit t
by_lowest n zero t is one rest =
    let half : n / 2 ≡ 2 ^ t = rest (omega (arith, ones_step n)) in
    omega (arith, pow-suc 2 t)
by_lowest n (suc bit) t is one rest =
    let none : n / 2 ≡ 0 = zero_from_ones (n / 2) (omega (arith, ones_step n)) in
    omega arith

-- it is the power that its trailing zeros say
power_of_zeros : (k n : ℕ) → n < 2 ^ k → count_ones n ≡ 1 → n ≡ 2 ^ count_trailing_zeros k n
unfolding count_trailing_zeros
power_of_zeros zero n fits one = absurd (omega (arith, ones-le 0 n fits))
power_of_zeros (suc k) n fits one = by_lowest n (n % 2) (count_trailing_zeros k (n / 2)) refl one (power_of_zeros k (n / 2) (omega (arith, pow-suc 2 k)))

power : (n : ℕ) → n < 2 ^ 32 → true ≡ is_power_of_two n → n ≡ 2 ^ count_trailing_zeros 32 n
power n fits is = power_of_zeros 32 n fits (one is)
  where
    one : true ≡ is_power_of_two n → count_ones n ≡ 1
    one is = grind (arith, nat_tests)

-- a shift by its zeros divides by it
pub shifted : (hash n : ℕ) → n < 2 ^ 32 → true ≡ is_power_of_two n → hash / 2 ^ count_trailing_zeros 32 n ≡ hash / n
shifted hash n fits is = ap (λ m. hash / m) (sym (power n fits is))

-- and the bits below its own are what is left
pub masked : (hash n mask : ℕ) → n < 2 ^ 32 → true ≡ is_power_of_two n → mask ≡ n - 1 → bit_and hash mask ≡ hash % n
masked hash n mask fits is below =
    let same = power n fits is in
    ap (bit_and hash) (below ∙ ap (λ m. m - 1) same) ∙ and_mask hash (count_trailing_zeros 32 n) ∙ ap (λ m. hash % m) (sym same)
