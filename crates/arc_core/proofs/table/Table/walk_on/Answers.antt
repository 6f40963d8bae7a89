use Rattle.std.proofs.Common.{◌≡◌, ◌+◌, ◌≤◌, IsTrue, length, true, refl, sym, ap, subst, ◌∙◌, arith}
use Rattle.arc_lists.specs.Sequences.{sequence_of, stands, stands_on}
use Rattle.arc_lists.specs.Walks.{next_to, oldest_first}
use Rattle.arc_core.specs.Candidate.{may_be_picked, walk}
use Rattle.arc_core.specs.Scan.{from_next}
use Rattle.arc_core.specs.Sound.{IsTidy}
use Rattle.arc_core.proofs.FeedWalks.{unwanted}
use Rattle.arc_core.proofs.Scanning.{distinct-oldest, from-next, next-stands, oldest-in, sequence-stands, walk-here, walk-on, walk-over}
use Rattle.arc_core.proofs.table.Table.walk_on.Goals as goal

pub loop-next-init : goal.loop-next-init
loop-next-init c = record { rest = λ wanted wants. refl; stands = c.requires.stands; within = c.requires.within }

pub returns-then-more-limit-clause-rest : goal.returns-then-more-limit-clause-rest
returns-then-more-limit-clause-rest c wanted wants =
    let s = c.args.self.now.shard in
    let all = oldest_first c.args.state s.sequences in
    let tidy = subst (λ t. IsTidy t.shard) c.self.view_is c.self.invariant.tidy in
    let key = c.in-Some.key in
    let there = c.loop-next.invariant.stands key c.in-Some.is in
    let here = ap (λ o. from_next o all) c.in-Some.is ∙ from-next key all (distinct-oldest c.args.state s tidy) there in
    c.loop-next.invariant.rest wanted wants ∙ ap (walk c.args.limit c.loop-next.met wanted) here ∙ walk-over c.args.limit c.loop-next.met wanted key _ (omega (arith, c.if-more-limit.true, c.from.ensures))

pub returns-then-more-limit-clause-value : goal.returns-then-more-limit-clause-value
returns-then-more-limit-clause-value c =
    let s = c.args.self.now.shard in
    let all = oldest_first c.args.state s.sequences in
    let tidy = subst (λ t. IsTidy t.shard) c.self.view_is c.self.invariant.tidy in
    let key = c.in-Some.key in
    let there = c.loop-next.invariant.stands key c.in-Some.is in
    let here = ap (λ o. from_next o all) c.in-Some.is ∙ from-next key all (distinct-oldest c.args.state s tidy) there in
    let wanted = may_be_picked s in
    c.loop-next.invariant.rest wanted (λ k is. is) ∙ ap (walk c.args.limit c.loop-next.met wanted) here ∙ walk-over c.args.limit c.loop-next.met wanted key _ (omega (arith, c.if-more-limit.true, c.from.ensures))

pub returns-then-may_be_picked-clause-stands : goal.returns-then-may_be_picked-clause-stands
returns-then-may_be_picked-clause-stands c k is = c.loop-next.invariant.stands k (c.in-Some.is ∙ is)

pub returns-then-may_be_picked-clause-rest : goal.returns-then-may_be_picked-clause-rest
returns-then-may_be_picked-clause-rest c wanted wants =
    let all = oldest_first c.args.state c.args.self.now.shard.sequences in
    c.loop-next.invariant.rest wanted wants ∙ ap (λ o. walk c.args.limit c.loop-next.met wanted (from_next o all)) c.in-Some.is

pub returns-then-may_be_picked-clause-value : goal.returns-then-may_be_picked-clause-value
returns-then-may_be_picked-clause-value c =
    let s = c.args.self.now.shard in
    let all = oldest_first c.args.state s.sequences in
    let tidy = subst (λ t. IsTidy t.shard) c.self.view_is c.self.invariant.tidy in
    let key = c.in-Some.key in
    let there = c.loop-next.invariant.stands key c.in-Some.is in
    let here = ap (λ o. from_next o all) c.in-Some.is ∙ from-next key all (distinct-oldest c.args.state s tidy) there in
    let wanted = may_be_picked s in
    c.loop-next.invariant.rest wanted (λ k is. is) ∙ ap (walk c.args.limit c.loop-next.met wanted) here
    ∙ walk-here c.args.limit c.loop-next.met wanted key _ (omega (arith, c.if-more-limit.false, c.from.ensures)) (sym c.may_be_picked.ensures ∙ c.if-may_be_picked.true)

pub newer-next-requires : goal.newer-next-requires
newer-next-requires c =
    let s = c.args.self.now.shard in
    let key = c.in-Some.key in
    subst (λ t. IsTrue (stands key t.shard.sequences)) (sym c.self.view_is)
    (sequence-stands c.args.state s key (oldest-in c.args.state s key (c.loop-next.invariant.stands key c.in-Some.is)))

pub loop-next-preserved : goal.loop-next-preserved
loop-next-preserved c =
    let s = c.args.self.now.shard in
    let all = oldest_first c.args.state s.sequences in
    let tidy = subst (λ t. IsTidy t.shard) c.self.view_is c.self.invariant.tidy in
    let key = c.in-Some.key in
    let there = c.loop-next.invariant.stands key c.in-Some.is in
    let here = ap (λ o. from_next o all) c.in-Some.is ∙ from-next key all (distinct-oldest c.args.state s tidy) there in
    let next : c.newer-next.result ≡ next_to key all = subst (λ t. stands_on key (sequence_of c.args.state t.shard.sequences) ≡ true → c.newer-next.result ≡ next_to key (oldest_first c.args.state t.shard.sequences)) c.self.view_is
    (c.newer-next.ensures c.args.state) (oldest-in c.args.state s key there) in
    let within : c.loop-next.met + key.size ≤ c.args.limit = omega (arith, c.if-more-limit.false, c.from.ensures) in
    let off = sym c.may_be_picked.ensures ∙ c.if-may_be_picked.false in
    record {
      rest = λ wanted wants. c.loop-next.invariant.rest wanted wants ∙ ap (walk c.args.limit c.loop-next.met wanted) here
          ∙ walk-on c.args.limit c.loop-next.met wanted key (from_next (next_to key all) all) within (unwanted s wanted key wants off)
          ∙ ap (λ o. walk c.args.limit (c.loop-next.met + key.size) wanted (from_next o all)) (sym next)
          ∙ ap (λ n. walk c.args.limit (c.loop-next.met + n) wanted (from_next c.newer-next.result all)) (sym c.from.ensures);
      stands = λ k is. next-stands key k all (sym next ∙ is);
      within = omega (arith, within, c.from.ensures);
    }

pub loop-next-smaller : goal.loop-next-smaller
loop-next-smaller c =
    let s = c.args.self.now.shard in
    let all = oldest_first c.args.state s.sequences in
    let tidy = subst (λ t. IsTidy t.shard) c.self.view_is c.self.invariant.tidy in
    let key = c.in-Some.key in
    let there = c.loop-next.invariant.stands key c.in-Some.is in
    let here = ap (λ o. from_next o all) c.in-Some.is ∙ from-next key all (distinct-oldest c.args.state s tidy) there in
    let next : c.newer-next.result ≡ next_to key all = subst (λ t. stands_on key (sequence_of c.args.state t.shard.sequences) ≡ true → c.newer-next.result ≡ next_to key (oldest_first c.args.state t.shard.sequences)) c.self.view_is
    (c.newer-next.ensures c.args.state) (oldest-in c.args.state s key there) in
    omega (arith, ap length here, ap (λ o. length (from_next o all)) next)

pub returns-clause-rest : goal.returns-clause-rest
returns-clause-rest c wanted wants =
    let all = oldest_first c.args.state c.args.self.now.shard.sequences in
    c.loop-next.invariant.rest wanted wants ∙ ap (λ o. walk c.args.limit c.loop-next.met wanted (from_next o all)) c.in_default.is

pub returns-clause-value : goal.returns-clause-value
returns-clause-value c =
    let s = c.args.self.now.shard in
    let all = oldest_first c.args.state s.sequences in
    c.loop-next.invariant.rest (may_be_picked s) (λ k is. is) ∙ ap (λ o. walk c.args.limit c.loop-next.met (may_be_picked s) (from_next o all)) c.in_default.is
