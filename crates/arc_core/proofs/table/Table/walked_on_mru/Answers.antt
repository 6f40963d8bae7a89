use Rattle.std.proofs.Common.{◌≡◌, sym, subst, ◌∙◌, arith}
use Rattle.arc_lists.specs.Walks.{oldest_first}
use Rattle.blk_ptr.specs.declared.state.State.TheVariants.{Mru}
use Rattle.arc_core.specs.Candidate.{may_be_picked, walk}
use Rattle.arc_core.specs.Scan.{from_next}
use Rattle.arc_core.proofs.table.Table.walked_on_mru.Goals as goal

pub walk_on-met-requires-clause-within : goal.walk_on-met-requires-clause-within
walk_on-met-requires-clause-within c = omega (arith, c.requires.within, c.limit.ensures.value)

pub walk_on-met-requires-clause-stands : goal.walk_on-met-requires-clause-stands
walk_on-met-requires-clause-stands c = c.requires.stands

pub returns-clause-walk : goal.returns-clause-walk
returns-clause-walk c = record {
  within = omega (arith, c.walk_on-met.ensures.within, c.limit.ensures.value);
  stands = c.walk_on-met.ensures.stands;
  rest = λ wanted wants. c.requires.rest wanted wants
      ∙ subst (λ n. walk n c.args.met wanted (from_next c.args.from (oldest_first Mru c.args.self.now.shard.sequences)) ≡ walk n c.walk_on-met.result.0 wanted (from_next c.walk_on-met.result.1 (oldest_first Mru c.args.self.now.shard.sequences))) c.limit.ensures.value
      (c.walk_on-met.ensures.rest wanted wants);
}

pub returns-clause-next : goal.returns-clause-next
returns-clause-next c =
    let s = c.args.self.now.shard in
    sym (c.requires.rest (may_be_picked s) (λ k is. is)
    ∙ subst (λ n. walk n c.args.met (may_be_picked s) (from_next c.args.from (oldest_first Mru s.sequences)) ≡ c.walk_on-met.result.1) c.limit.ensures.value c.walk_on-met.ensures.value)
