-- What a try gave.
use Rattle.std.specs.Prelude.{ℕ}
use Rattle.turn_table.specs.declared.take.Take.{Take}
use Rattle.turn_table.specs.declared.take.Take.TheVariants.{Taken, Busy}

-- the fact P of the value that was taken
abbrev pub IfTaken : {V : Type 0} → Take V → (V → Type 0) → Type 0
IfTaken (Taken v) P = P v
IfTaken (Busy n) P = Unit {0}

-- the fact P of the owner that was found
abbrev pub IfBusy : {V : Type 0} → Take V → (ℕ → Type 0) → Type 0
IfBusy (Taken v) P = Unit {0}
IfBusy (Busy n) P = P n
