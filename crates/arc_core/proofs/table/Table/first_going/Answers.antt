use Rattle.std.proofs.Common.{sym, ap, ◌∙◌}
use Rattle.std.specs.List.{filter}
use Rattle.arc_lists.specs.Walks.{first_of, oldest_first}
use Rattle.arc_core.specs.Scan.{from_next, may_go}
use Rattle.arc_core.proofs.Scanning.{first-stands, from-first}
use Rattle.arc_core.proofs.table.Table.first_going.Goals as goal

pub going_from-requires : goal.going_from-requires
going_from-requires c k is =
    let all = oldest_first c.args.state c.args.self.now.shard.sequences in
    first-stands all k (sym (c.oldest.ensures ∙ ap (λ t. first_of (oldest_first c.args.state t.shard.sequences)) c.self.view_is) ∙ is)

pub returns : goal.returns
returns c =
    let s = c.args.self.now.shard in
    let all = oldest_first c.args.state s.sequences in
    let first = c.oldest.ensures ∙ ap (λ t. first_of (oldest_first c.args.state t.shard.sequences)) c.self.view_is in
    c.going_from.ensures ∙ ap (λ o. first_of (filter (may_go c.args.about s) (from_next o all))) first ∙ ap (λ l. first_of (filter (may_go c.args.about s) l)) (from-first all)
