-- The order of keys: laws of `key_eq` and `key_lt`.
use Rattle.std.proofs.Common.{◌≡◌, ℕ, ◌<◌, ◌≤◌, Bool, true, false, ◌⊎◌, refl, arith}
use Rattle.std.proofs.lemmas.Bool.Decides.{nat_tests}
use Rattle.blk_ptr.specs.declared.key.Key.{Key}
use Rattle.blk_ptr.specs.Order.{key_eq, key_cmp, key_lt}

pub key_eq-same : (a : Key) → key_eq a a ≡ true
key_eq-same a = grind (arith, nat_tests)

pub key_lt-same : (a : Key) → key_lt a a ≡ false
key_lt-same a = grind (arith, nat_tests)

pub key_eq-sym : (a b : Key) → key_eq a b ≡ key_eq b a
key_eq-sym a b = grind (arith, nat_tests)

pub key_lt-flip : (a b : Key) → key_lt a b ≡ true → key_lt b a ≡ false
key_lt-flip a b lt = grind (arith, nat_tests)

pub key_eq-lt : (a b : Key) → key_lt a b ≡ true → key_eq a b ≡ false
key_eq-lt a b lt = grind (arith, nat_tests)

pub key_lt-apart : (a b : Key) → key_lt a b ≡ false → key_eq a b ≡ false → key_lt b a ≡ true
key_lt-apart a b ge ne = grind (arith, nat_tests)

pub key_lt-trans : (a b c : Key) → key_lt a b ≡ true → key_lt b c ≡ true → key_lt a c ≡ true
key_lt-trans a b c ab bc = grind (arith, nat_tests)

-- keys that compare alike are one
pub key_eq-is : (a b : Key) → key_eq a b ≡ true → a ≡ b
key_eq-is a b e = grind (arith, nat_tests)
