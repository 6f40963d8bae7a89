use Rattle.std.proofs.Common.{◌≡◌, ◌<◌, length}
use Rattle.std.specs.Prelude.{◌↔◌}
use Rattle.std.specs.List.{AllByRecursion}
use Rattle.trace_text.specs.Grammar.{fields_of}
use Rattle.arc_check.specs.LogText.{HasFields}
use Rattle.arc_check.proofs.forms.has_fields.Given as goal

-- the fields that are left must be as many as are still wanted, and none empty
abbrev pub invariant-loop-field : goal.invariant-loop-field
invariant-loop-field l = HasFields l.fn.count (fields_of l.line) ↔ ((length l.fields ≡ l.wanted) × AllByRecursion (λ field. 0 < length field) l.fields)

abbrev pub decreases-loop-field : goal.decreases-loop-field
decreases-loop-field l = length l.fields
