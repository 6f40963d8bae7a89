use Rattle.std.proofs.Common.{List, IsTrue, ◌↔◌, subst}
use Rattle.key_table.specs.PlainTable.{HasKey, IsAmong, row}
use Rattle.trace_text.specs.declared.mapping.Mapping.{Mapping}
use Rattle.trace_text.specs.Grammar.{IsMapped}
use Rattle.trace_text.specs.Taken.{name}
use Rattle.trace_text.proofs.TakenLemmas.{found-iff}
use Rattle.trace_text.proofs.mappings.Mappings.has.Goals as goal

pub returns : goal.returns
returns c =
    let rows = c.self.inside.taken.rows in
    subst (λ (mappings : List Mapping). IsTrue c.is_some.result ↔ IsMapped c.args.at mappings) c.self.view_is
    (found-iff c.get.result (λ v. IsAmong (row (name c.args.at) v.now) rows) (HasKey (name c.args.at) rows) (IsMapped c.args.at c.self.inside.list.items) c.is_some.result c.is_some.ensures
    (λ v p. (v.now, p)) c.get.ensures.some c.get.ensures.none (c.self.invariant c.args.at))
