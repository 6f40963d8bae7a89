use Rattle.std.proofs.Common.{◌≡◌, sym, ap, subst, ◌∙◌, arith}
use Rattle.blk_ptr.specs.declared.state.State.TheVariants.{Mfu}
use Rattle.arc_lists.specs.Room.{or_else}
use Rattle.arc_lists.specs.Walks.{first_of, oldest_first}
use Rattle.std.proofs.Common.{reverse}
use Rattle.arc_core.specs.Candidate.{walk}
use Rattle.arc_core.specs.FeedWalk.{IsWalk, limit_of}
use Rattle.arc_core.specs.Scan.{from_next}
use Rattle.arc_core.proofs.Scanning.{first-stands, from-first}
use Rattle.arc_core.proofs.table.Table.walk_from.Goals as goal

pub returns-in-Some : goal.returns-in-Some
returns-in-Some c = subst (IsWalk c.args.self.now.shard) c.in-Some.is c.requires

pub returns-in-None : goal.returns-in-None
returns-in-None c =
    let s = c.args.self.now.shard in
    let mfu = oldest_first Mfu s.sequences in
    let oldest : c.oldest.result ≡ first_of mfu = c.oldest.ensures ∙ ap (λ t. first_of (oldest_first Mfu t.shard.sequences)) c.self.view_is in
    record {
      within = omega arith;
      stands = λ k is. first-stands mfu k (sym oldest ∙ is);
      rest = λ wanted wants. ap (λ l. or_else (walk (limit_of s) 0 wanted l) (walk (limit_of s) 0 wanted (reverse s.sequences.mru)))
          (sym (from-first mfu) ∙ ap (λ o. from_next o mfu) (sym oldest));
    }
