-- The first place at which a rule is broken.
use Rattle.std.specs.Prelude.{ℕ, ◌<◌, ◌≤◌}
use Rattle.l2_log.specs.declared.fault.LogFault.{LogFault}
use Rattle.l2_log.specs.declared.fault.LogFault.TheVariants as fault

-- the rule of this place is broken, and those of all places below are kept
pub record IsFirstBroken (Rule : ℕ → Type 0) (at : ℕ) : Type 0 where
  pub broken : ¬ Rule at
  pub kept : (k : ℕ) → k < at → Rule k

-- the fault names the first place at which the rule is broken, which lies in this range
pub record IsBrokenIn (from to : ℕ) (Rule : ℕ → Type 0) (at : ℕ) : Type 0 where
  pub least : from ≤ at
  pub below : at < to
  pub first : IsFirstBroken Rule at

-- the fault is a field's, and names the first place of the range at which the rule is broken
abbrev pub IsFieldFault : ℕ → ℕ → (ℕ → Type 0) → LogFault → Type 0
IsFieldFault from to Rule (fault.Field at) = IsBrokenIn from to Rule at
IsFieldFault from to Rule _ = ⊥
