use Rattle.std.proofs.Common.{◌≡◌, ◌∷◌, IsTrue, List, Option, length, true, refl, sym, ap, subst, ◌∙◌, arith}
use Rattle.std.specs.List.{filter}
use Rattle.blk_ptr.specs.declared.key.Key.{Key}
use Rattle.arc_lists.specs.Sequences.{sequence_of, stands, stands_on}
use Rattle.arc_lists.specs.Walks.{first_of, next_to, oldest_first}
use Rattle.arc_core.specs.Scan.{from_next, may_go}
use Rattle.arc_core.specs.Sound.{IsTidy}
use Rattle.arc_core.proofs.Scanning.{distinct-oldest, from-next, next-stands, oldest-in, sequence-stands}
use Rattle.arc_core.proofs.table.Table.going_from.Goals as goal

pub loop-next-init : goal.loop-next-init
loop-next-init c = record { rest = refl; stands = c.requires }

pub returns-then-may_go : goal.returns-then-may_go
returns-then-may_go c =
    let s = c.args.self.now.shard in
    let first_in : List Key → Option Key = λ l. first_of (filter (may_go c.args.about s) l) in
    let all = oldest_first c.args.state s.sequences in
    let tidy = subst (λ t. IsTidy t.shard) c.self.view_is c.self.invariant.tidy in
    let key = c.in-Some.key in
    let here = ap (λ o. from_next o all) c.in-Some.is ∙ from-next key all (distinct-oldest c.args.state s tidy) (c.loop-next.invariant.stands key c.in-Some.is) in
    let passes : may_go c.args.about s key ≡ true = sym c.may_go.ensures ∙ c.if-may_go.true in
    sym (sym c.loop-next.invariant.rest ∙ ap first_in here ∙ rw passes refl)

pub newer-next-requires : goal.newer-next-requires
newer-next-requires c =
    let s = c.args.self.now.shard in
    let key = c.in-Some.key in
    subst (λ t. IsTrue (stands key t.shard.sequences)) (sym c.self.view_is)
    (sequence-stands c.args.state s key (oldest-in c.args.state s key (c.loop-next.invariant.stands key c.in-Some.is)))

pub loop-next-preserved : goal.loop-next-preserved
loop-next-preserved c =
    let s = c.args.self.now.shard in
    let first_in : List Key → Option Key = λ l. first_of (filter (may_go c.args.about s) l) in
    let all = oldest_first c.args.state s.sequences in
    let tidy = subst (λ t. IsTidy t.shard) c.self.view_is c.self.invariant.tidy in
    let key = c.in-Some.key in
    let there = c.loop-next.invariant.stands key c.in-Some.is in
    let here = ap (λ o. from_next o all) c.in-Some.is ∙ from-next key all (distinct-oldest c.args.state s tidy) there in
    let next : c.newer-next.result ≡ next_to key all = subst (λ t. stands_on key (sequence_of c.args.state t.shard.sequences) ≡ true → c.newer-next.result ≡ next_to key (oldest_first c.args.state t.shard.sequences)) c.self.view_is
    (c.newer-next.ensures c.args.state) (oldest-in c.args.state s key there) in
    let fails = sym c.may_go.ensures ∙ c.if-may_go.false in
    let over : first_in (key ∷ from_next (next_to key all) all) ≡ first_in (from_next (next_to key all) all) = rw fails refl in
    record {
      rest = ap (λ o. first_in (from_next o all)) next ∙ sym over ∙ sym (ap first_in here) ∙ c.loop-next.invariant.rest;
      stands = λ k is. next-stands key k all (sym next ∙ is);
    }

pub loop-next-smaller : goal.loop-next-smaller
loop-next-smaller c =
    let s = c.args.self.now.shard in
    let all = oldest_first c.args.state s.sequences in
    let tidy = subst (λ t. IsTidy t.shard) c.self.view_is c.self.invariant.tidy in
    let key = c.in-Some.key in
    let there = c.loop-next.invariant.stands key c.in-Some.is in
    let here = ap (λ o. from_next o all) c.in-Some.is ∙ from-next key all (distinct-oldest c.args.state s tidy) there in
    let next : c.newer-next.result ≡ next_to key all = subst (λ t. stands_on key (sequence_of c.args.state t.shard.sequences) ≡ true → c.newer-next.result ≡ next_to key (oldest_first c.args.state t.shard.sequences)) c.self.view_is
    (c.newer-next.ensures c.args.state) (oldest-in c.args.state s key there) in
    omega (arith, ap length here, ap (λ o. length (from_next o all)) next)
