-- Why a source's text is not run.
use Rattle.std.proofs.Common.{◌≡◌, ℕ, List, Result, Err, ap, ◌∙◌, subst}
use Rattle.std.specs.Prelude.{IfErr}
use Rattle.trace_text.specs.Grammar.{IsCause, IsFirstFault, longest_text}
use Rattle.trace_text.specs.declared.fault.Kind.{Kind}
use Rattle.trace_text.specs.declared.fault.TraceFault.{TraceFault}
use Rattle.trace_text.specs.declared.fault.TraceFault.TheVariants.{Bad}
use Rattle.trace_text.specs.declared.trace.Trace.{Trace}
use Rattle.trace_run.specs.Outcome.{IsBadTrace}
use Rattle.vdev_io.specs.Streams.{NoneFailed, StreamState}
use Rattle.vdev_io.specs.Streams.{Gives}

-- it is no trace
pub faulty-trace : (before after : StreamState) (text shown : List ℕ) (line : ℕ) (kind : Kind) (r : Result Trace TraceFault) (e : TraceFault) → Gives before.told after.told longest_text text
    → NoneFailed before after → shown ≡ text → r ≡ Err e → e ≡ Bad line kind → IfErr r (IsCause shown) → IsBadTrace before after line kind
faulty-trace before after text shown line kind r e given unfailed same is bad cause =
    let whole : r ≡ Err (Bad line kind) = is ∙ ap (λ (f : TraceFault). let told : Result Trace TraceFault = Err f in told) bad in
    let first : IsFirstFault shown line kind = subst (λ (x : Result Trace TraceFault). IfErr x (IsCause shown)) whole cause in
    record {
      text = text;
      given = given;
      unfailed = unfailed;
      fault = subst (λ (t : List ℕ). IsFirstFault t line kind) same first;
    }
