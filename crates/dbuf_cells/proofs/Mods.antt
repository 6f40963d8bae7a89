-- What a division leaves is less than the divisor.
use Rattle.std.proofs.Common.{ℕ, ◌<◌, ◌%◌}
use Rattle.std.proofs.Math.Nat.{mod-lt}

pub mod_below : (n m : ℕ) → 0 < m → n % m < m
mod_below n m some = mod-lt n some
