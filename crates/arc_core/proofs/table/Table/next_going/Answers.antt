use Rattle.std.proofs.Common.{◌≡◌, IsTrue, true, sym, ap, subst, ◌∙◌}
use Rattle.std.specs.List.{filter}
use Rattle.arc_lists.specs.Sequences.{sequence_of, stands, stands_on}
use Rattle.arc_lists.specs.Walks.{first_of, next_to, oldest_first}
use Rattle.arc_core.specs.Scan.{from_next, may_go}
use Rattle.arc_core.specs.Sound.{IsTidy}
use Rattle.arc_core.proofs.Scan.{filter-passes, filter-stands, next-filter}
use Rattle.arc_core.proofs.Scanning.{distinct-oldest, next-stands, oldest-in, sequence-stands}
use Rattle.arc_core.proofs.table.Table.next_going.Goals as goal

pub newer-requires : goal.newer-requires
newer-requires c =
    let s = c.args.self.now.shard in
    let there = filter-stands (may_go c.args.about s) c.args.key (oldest_first c.args.state s.sequences) c.requires in
    subst (λ t. IsTrue (stands c.args.key t.shard.sequences)) (sym c.self.view_is) (sequence-stands c.args.state s c.args.key (oldest-in c.args.state s c.args.key there))

pub going_from-requires : goal.going_from-requires
going_from-requires c k is =
    let s = c.args.self.now.shard in
    let all = oldest_first c.args.state s.sequences in
    let there = filter-stands (may_go c.args.about s) c.args.key all c.requires in
    let next : c.newer.result ≡ next_to c.args.key all = subst (λ t. stands_on c.args.key (sequence_of c.args.state t.shard.sequences) ≡ true → c.newer.result ≡ next_to c.args.key (oldest_first c.args.state t.shard.sequences)) c.self.view_is
    (c.newer.ensures c.args.state) (oldest-in c.args.state s c.args.key there) in
    next-stands c.args.key k all (sym next ∙ is)

pub returns : goal.returns
returns c =
    let s = c.args.self.now.shard in
    let all = oldest_first c.args.state s.sequences in
    let tidy = subst (λ t. IsTidy t.shard) c.self.view_is c.self.invariant.tidy in
    let there = filter-stands (may_go c.args.about s) c.args.key all c.requires in
    let next : c.newer.result ≡ next_to c.args.key all = subst (λ t. stands_on c.args.key (sequence_of c.args.state t.shard.sequences) ≡ true → c.newer.result ≡ next_to c.args.key (oldest_first c.args.state t.shard.sequences)) c.self.view_is
    (c.newer.ensures c.args.state) (oldest-in c.args.state s c.args.key there) in
    c.going_from.ensures ∙ ap (λ o. first_of (filter (may_go c.args.about s) (from_next o all))) next
    ∙ sym (next-filter (may_go c.args.about s) c.args.key all (distinct-oldest c.args.state s tidy) there (filter-passes (may_go c.args.about s) c.args.key all c.requires))
