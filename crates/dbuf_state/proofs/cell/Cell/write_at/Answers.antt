use Rattle.std.proofs.Common.{◌≤◌, ◌+◌, List, length, sym, subst, ◌∙◌}
use Rattle.std.specs.Prelude.{ℕ}
use Rattle.dbuf_state.specs.Dbufs.{size_of}
use Rattle.dbuf_state.proofs.FitLemmas.{fits-written, from-has}
use Rattle.dbuf_state.proofs.cell.Cell.write_at.Goals as goal

pub done-requires-clause-inside : goal.done-requires-clause-inside
done-requires-clause-inside g c =
    from-has (λ d. c.args.from + length c.args.bytes.now ≤ size_of d.content) _
    (λ d h. subst (λ (bs : List ℕ). c.args.from + length bs ≤ size_of d.content) (sym (c.of.ensures ∙ c.bytes.ensures.shown)) h) c.args.at c.args.self.now.dbufs c.requires.inside

pub done-requires-clause-fits : goal.done-requires-clause-fits
done-requires-clause-fits g c =
    from-has (λ d. c.args.from + length c.args.bytes.now ≤ size_of d.content) _
    (λ d h fit. fits-written g.H.Shows.key_of g.H.Shows.bytes_of c.args.from c.of.result d
    (subst (λ (bs : List ℕ). c.args.from + length bs ≤ size_of d.content) (sym (c.of.ensures ∙ c.bytes.ensures.shown)) h) fit) c.args.at c.args.self.now.dbufs c.requires.inside
