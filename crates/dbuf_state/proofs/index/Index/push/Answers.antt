use Rattle.std.proofs.Common.{◌≡◌, ◌<◌, ◌^◌, List, length, sym, ap, subst, arith, length-set}
use Rattle.std.specs.List.{AllByRecursion}
use Rattle.dbuf_state.specs.declared.standing.Standing.{Standing}
use Rattle.dbuf_state.specs.Index.{kept_rank, use_rank}
use Rattle.dbuf_state.specs.Standings.{candidate_bytes, candidate_size}
use Rattle.dbuf_state.proofs.IndexLemmas.{bytes-le, bytes-push, pushed, sized-push}
use Rattle.dbuf_state.proofs.index.Index.push.Goals as goal

pub overflow_add-self : goal.overflow_add-self
overflow_add-self c = omega (arith, bytes-le c.self.inside.standings.items c.self.invariant.sized, c.self.invariant.bytes, c.self.inside.standings.ok.0)

pub invariant_of-self : goal.invariant_of-self
invariant_of-self c =
    let ss = c.self.inside.standings.items in
    let len : c.len-place.result ≡ length ss = omega (arith, c.self.inside.standings.ok.0) in
    let room : 0 < c.self.inside.spare = subst (λ r. 0 < r.spare) (sym c.self.view_is) c.requires in
    record {
      oldest = pushed use_rank c.self.inside.oldest c.set.new.self ss c.append.new.items.items c.args.s c.use_rank.result c.len-place.result c.self.invariant.oldest len (omega arith) c.use_rank.ensures c.set.ensures c.append.ensures.items;
      first = pushed kept_rank c.self.inside.first c.set-2.new.self ss c.append.new.items.items c.args.s c.kept_rank.result c.len-place.result c.self.invariant.first len (omega arith) c.kept_rank.ensures c.set-2.ensures c.append.ensures.items;
      bytes = omega (arith, c.self.invariant.bytes, bytes-push ss c.args.s, ap candidate_bytes c.append.ensures.items);
      sized = subst (λ (z : List Standing). AllByRecursion (λ s. candidate_size s < 2 ^ 64) z) (sym c.append.ensures.items) (sized-push ss c.args.s (subst (λ n. n < 2 ^ 64) c.candidate_size.ensures c.candidate_size.type_inv) c.self.invariant.sized);
      room = omega arith;
      places = omega arith;
      oldest_places = omega (arith, ap length c.set.ensures, length-set c.self.inside.oldest c.len-place.result c.use_rank.result);
      first_places = omega (arith, ap length c.set-2.ensures, length-set c.self.inside.first c.len-place.result c.kept_rank.result);
    }
