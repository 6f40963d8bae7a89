use Rattle.std.proofs.Common.{◌≡◌, ◌<◌, ◌^◌, take}
use Rattle.std.specs.Str.Parse.{AllDigits, digits_value}
use Rattle.trace_text.proofs.fields.digits_value.Given as goal

-- the bytes so far are digits, and write the number
abbrev pub invariant-loop-place : goal.invariant-loop-place
invariant-loop-place l = AllDigits 10 (take l.place l.field) × (l.value ≡ digits_value 10 (take l.place l.field)) × (l.value < 2 ^ 64)
