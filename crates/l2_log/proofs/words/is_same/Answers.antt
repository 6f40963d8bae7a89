use Rattle.std.proofs.Common.{List, ℕ, ap, sym, ◌∙◌}
use Rattle.std.proofs.lemmas.Slice.Eq.{bytes_eq-Decides}
use Rattle.blk_ptr.specs.declared.digest.Digest.{Digest}
use Rattle.l2_log.proofs.words.is_same.Goals as goal

digest_of : List ℕ → Digest
digest_of bytes = record { 0 = bytes }

pub returns : goal.returns
unfolding digest_of
returns c =
    let decides = bytes_eq-Decides c.args.a.0 c.args.b.0 in
    (λ t. ap digest_of (decides.0 (sym c.eq.ensures ∙ t)), λ e. c.eq.ensures ∙ decides.1 (ap (λ d. d.0) e))
