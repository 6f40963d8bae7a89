use Rattle.std.proofs.Common.{IsTrue, not, subst}
use Rattle.std.specs.List.{list_all}
use Rattle.std.specs.Prelude.{Option}
use Rattle.dbuf_state.specs.declared.rank.Rank.{Rank}
use Rattle.dbuf_state.specs.IndexRow.{IndexRow}
use Rattle.dbuf_state.specs.Ranks.{IsLeast}
use Rattle.dbuf_state.specs.Standings.{is_first_kept}
use Rattle.dbuf_state.proofs.IndexLemmas.{first-is, none-kept}
use Rattle.dbuf_state.proofs.index.Index.first_kept.Goals as goal

pub returns-in-Some : goal.returns-in-Some
returns-in-Some c =
    let least = subst (λ (z : Option Rank). IsLeast z c.self.inside.first) c.in-Some.is c.least.ensures in
    subst (λ (r : IndexRow). IsTrue (is_first_kept c.in-Some.rank.at r.standings)) c.self.view_is
    (first-is c.in-Some.rank c.self.inside.first c.self.inside.standings.items least c.self.invariant.first)

pub returns-in-None : goal.returns-in-None
returns-in-None c =
    let least = subst (λ (z : Option Rank). IsLeast z c.self.inside.first) c.in-None.is c.least.ensures in
    subst (λ (r : IndexRow). IsTrue (list_all (λ s. not s.kept) r.standings)) c.self.view_is
    (none-kept c.self.inside.first c.self.inside.standings.items least c.self.invariant.first)
