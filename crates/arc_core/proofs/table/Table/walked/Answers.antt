use Rattle.std.proofs.Common.{◌≡◌, Some, sym, ap, subst, ◌∙◌, arith, reverse}
use Rattle.arc_lists.specs.Room.{or_else}
use Rattle.arc_lists.specs.Walks.{first_of, oldest_first}
use Rattle.blk_ptr.specs.declared.state.State.TheVariants.{Mru, Mfu}
use Rattle.arc_core.specs.Candidate.{may_be_picked, walk}
use Rattle.arc_core.specs.FeedWalk.{IsWalkOf, limit_of}
use Rattle.arc_core.specs.Scan.{from_next}
use Rattle.arc_core.proofs.FeedWalks.{none-first, on-mfu, some-first}
use Rattle.arc_core.proofs.Scanning.{first-stands, from-first}
use Rattle.arc_core.proofs.table.Table.walked.Goals as goal

pub walked_on_mru-requires : goal.walked_on_mru-requires
walked_on_mru-requires c = subst (λ b. IsWalkOf c.args.self.now.shard (record { on_mru = b; met = c.args.walk.met; next = c.args.walk.next })) c.if-walk.true c.requires

pub walk_on-met-requires-clause-within : goal.walk_on-met-requires-clause-within
walk_on-met-requires-clause-within c = omega (arith, c.requires.within, c.limit.ensures.value)

pub walk_on-met-requires-clause-stands : goal.walk_on-met-requires-clause-stands
walk_on-met-requires-clause-stands c = (on-mfu c.args.self.now.shard c.args.walk c.if-walk.false c.requires).stands

pub returns-in-Some-clause-walk : goal.returns-in-Some-clause-walk
returns-in-Some-clause-walk c =
    let s = c.args.self.now.shard in
    let on = on-mfu s c.args.walk c.if-walk.false c.requires in
    let all = oldest_first Mfu s.sequences in
    record {
      within = omega (arith, c.walk_on-met.ensures.within, c.limit.ensures.value);
      stands = λ k is. c.walk_on-met.ensures.stands k (c.in-Some.is ∙ is);
      rest = λ wanted wants. on.rest wanted wants
          ∙ ap (λ o. or_else o (walk (limit_of s) 0 wanted (reverse s.sequences.mru)))
          (subst (λ n. walk n c.args.walk.met wanted (from_next c.args.walk.next all) ≡ walk n c.walk_on-met.result.0 wanted (from_next c.walk_on-met.result.1 all)) c.limit.ensures.value (c.walk_on-met.ensures.rest wanted wants)
          ∙ ap (λ o. walk (limit_of s) c.walk_on-met.result.0 wanted (from_next o all)) c.in-Some.is);
    }

pub returns-in-Some-clause-next : goal.returns-in-Some-clause-next
returns-in-Some-clause-next c =
    let s = c.args.self.now.shard in
    let on = on-mfu s c.args.walk c.if-walk.false c.requires in
    let all = oldest_first Mfu s.sequences in
    let first : walk (limit_of s) c.args.walk.met (may_be_picked s) (from_next c.args.walk.next all) ≡ Some c.in-Some.key =
    subst (λ n. walk n c.args.walk.met (may_be_picked s) (from_next c.args.walk.next all) ≡ c.walk_on-met.result.1) c.limit.ensures.value c.walk_on-met.ensures.value ∙ c.in-Some.is in
    sym (on.rest (may_be_picked s) (λ k is. is) ∙ some-first c.in-Some.key _ _ first)

pub walked_on_mru-requires-in-None : goal.walked_on_mru-requires-in-None
walked_on_mru-requires-in-None c =
    let s = c.args.self.now.shard in
    let on = on-mfu s c.args.walk c.if-walk.false c.requires in
    let all = oldest_first Mfu s.sequences in
    let mru = oldest_first Mru s.sequences in
    let oldest : c.oldest.result ≡ first_of mru = c.oldest.ensures ∙ ap (λ t. first_of (oldest_first Mru t.shard.sequences)) c.self.view_is in
    record {
      within = omega arith;
      stands = λ k is. first-stands mru k (sym oldest ∙ is);
      rest = λ wanted wants. on.rest wanted wants
          ∙ none-first _ _ (subst (λ n. walk n c.args.walk.met wanted (from_next c.args.walk.next all) ≡ walk n c.walk_on-met.result.0 wanted (from_next c.walk_on-met.result.1 all)) c.limit.ensures.value (c.walk_on-met.ensures.rest wanted wants)
          ∙ ap (λ o. walk (limit_of s) c.walk_on-met.result.0 wanted (from_next o all)) c.in-None.is)
          ∙ ap (walk (limit_of s) 0 wanted) (sym (from-first mru)) ∙ ap (λ o. walk (limit_of s) 0 wanted (from_next o mru)) (sym oldest);
    }
