use Rattle.std.proofs.Common.{◌≡◌, IsTrue, not, subst, arith}
use Rattle.std.specs.Prelude.{Option}
use Rattle.dbuf_state.specs.declared.rank.Rank.{Rank}
use Rattle.dbuf_state.specs.IndexRow.{IndexRow}
use Rattle.dbuf_state.specs.Ranks.{IsLeast}
use Rattle.dbuf_state.specs.Standings.{candidate_bytes, is_evictable, is_over}
use Rattle.dbuf_state.proofs.IndexLemmas.{evictable-is, no-candidates, not_over}
use Rattle.dbuf_state.proofs.index.Index.evictable.Goals as goal

pub returns-then-self-from : goal.returns-then-self-from
returns-then-self-from c =
    subst (λ (r : IndexRow). IsTrue (not (is_over c.args.limit r.standings))) c.self.view_is
    (not_over c.args.limit c.self.inside.standings.items (omega (arith, c.self.invariant.bytes)))

pub unreachable-requires : goal.unreachable-requires
unreachable-requires c =
    let least = subst (λ (z : Option Rank). IsLeast z c.self.inside.oldest) c.in-None.is c.least.ensures in
    let none : candidate_bytes c.self.inside.standings.items ≡ 0 = no-candidates c.self.inside.oldest c.self.inside.standings.items least c.self.invariant.oldest in
    omega (arith, none, c.self.invariant.bytes)

pub returns : goal.returns
returns c =
    let least = subst (λ (z : Option Rank). IsLeast z c.self.inside.oldest) c.in-Some.is c.least.ensures in
    subst (λ (r : IndexRow). IsTrue (is_evictable c.args.limit c.in-Some.rank.at r.standings)) c.self.view_is
    (evictable-is c.args.limit c.in-Some.rank c.self.inside.oldest c.self.inside.standings.items (omega (arith, c.self.invariant.bytes)) least c.self.invariant.oldest)
