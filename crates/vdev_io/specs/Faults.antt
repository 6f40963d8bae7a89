-- When a count of faults or of calls has risen. A count that stands at the last value of its type stands still.
use Rattle.std.specs.Prelude.{◌≡◌, ℕ, zero, suc, ◌+◌, ◌-◌, ◌^◌, ◌<◌, ◌≤◌, min, Result, Ok, Err, OnErr, IsErrOf}
use Rattle.vdev_io.specs.declared.fault.IoFault.{IoFault}
use Rattle.vdev_io.specs.declared.fault.IoFault.TheVariants.{Failed, NoMemory}

-- where a count kept in 64 bits stands still
abbrev pub last_count : ℕ
last_count = 2 ^ 64 - 1

-- the count is greater now than before, or stands at its last value
abbrev pub Rose : ℕ → ℕ → Type 0
Rose before now = min (before + 1) last_count ≤ now

-- the count didn't fall, and an error was answered only where it rose
pub record HasCause {T E : Type 0} (before now : ℕ) (result : Result T E) : Type 0 where
  pub never_falls : before ≤ now
  pub rose : OnErr result (Rose before now)

-- the count didn't fall, and the outside's failure was answered only where it rose
pub record HasIoCause {T : Type 0} (before now : ℕ) (result : Result T IoFault) : Type 0 where
  pub never_falls : before ≤ now
  pub rose : IsErrOf result Failed → Rose before now

-- the sum of two counts, where there is room for it
abbrev pub sum_of_counts : ℕ → ℕ → ℕ
sum_of_counts a b = min (a + b) last_count

-- a count once so many more were counted, one by one, where there is room for each
abbrev pub counted_more : (n before : ℕ) → ℕ
counted_more zero before = before
counted_more (suc n) before = sum_of_counts (counted_more n before) 1

-- one more was counted, where there was room for it
pub record CountsOne (before now : ℕ) : Type 0 where
  pub more : before < last_count → now ≡ before + 1
  pub full : last_count ≤ before → now ≡ before

-- one more was counted exactly where an error was answered
abbrev pub CountsFault : {T E : Type 0} → (before now : ℕ) → Result T E → Type 0
CountsFault before now (Ok value) = now ≡ before
CountsFault before now (Err error) = CountsOne before now

-- one more was counted exactly where the outside failed, and none where memory was refused
abbrev pub CountsIoFault : {T : Type 0} → (before now : ℕ) → Result T IoFault → Type 0
CountsIoFault before now (Ok value) = now ≡ before
CountsIoFault before now (Err NoMemory) = now ≡ before
CountsIoFault before now (Err Failed) = CountsOne before now
