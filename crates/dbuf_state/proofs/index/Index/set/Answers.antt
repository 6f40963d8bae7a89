use Rattle.std.proofs.Common.{◌<◌, ◌^◌, ◌∙◌, length, set, refl, sym, ap, subst, arith, length-set}
use Rattle.dbuf_state.specs.Index.{kept_rank, use_rank}
use Rattle.dbuf_state.proofs.IndexLemmas.{bytes-le, bytes-set, rank-of, rewritten, size-le, sized-set}
use Rattle.dbuf_state.proofs.index.Index.set.Goals as goal

pub overflow_add-self : goal.overflow_add-self
overflow_add-self c = omega (arith, bytes-le c.self.inside.standings.items c.self.invariant.sized, c.self.invariant.bytes, c.self.inside.standings.ok.0)

pub overflow_sub-self : goal.overflow_sub-self
overflow_sub-self c =
    let inside : c.args.place < length c.self.inside.standings.items = subst (λ r. c.args.place < length r.standings) (sym c.self.view_is) c.requires in
    omega (arith, size-le c.self.inside.standings.items c.args.place c.index-before.result.now inside c.index-before.ensures, c.self.invariant.bytes)

pub write_kept-requires : goal.write_kept-requires
write_kept-requires c =
    let ss = c.self.inside.standings.items in
    let inside : c.args.place < length ss = subst (λ r. c.args.place < length r.standings) (sym c.self.view_is) c.requires in
    record {
      within = omega (arith, inside, c.self.inside.standings.ok.0);
      there = rank-of kept_rank c.self.inside.first ss c.args.place c.index-before.result.now c.self.invariant.first inside c.index-before.ensures;
    }

pub invariant_of-self : goal.invariant_of-self
invariant_of-self c =
    let ss = c.self.inside.standings.items in
    let inside : c.args.place < length ss = subst (λ r. c.args.place < length r.standings) (sym c.self.view_is) c.requires in
    let fits : c.args.place < c.self.inside.places = omega (arith, c.self.inside.standings.ok.0) in
    let read = c.index-before.ensures in
    record {
      oldest = rewritten use_rank c.self.inside.oldest c.set.new.self ss _ c.args.s c.use_rank.result c.args.place c.self.invariant.oldest inside (omega arith) c.use_rank.ensures c.set.ensures refl;
      first = λ k. c.write_kept.ensures.ranks k ∙ rewritten kept_rank c.self.inside.first (set c.self.inside.first c.args.place (kept_rank c.args.s)) ss _ c.args.s (kept_rank c.args.s) c.args.place c.self.invariant.first inside (omega arith) refl refl refl k;
      bytes = omega (arith, c.self.invariant.bytes, bytes-set ss c.args.place c.args.s c.index-before.result.now inside read, size-le ss c.args.place c.index-before.result.now inside read);
      sized = sized-set ss c.args.place c.args.s (subst (λ n. n < 2 ^ 64) c.candidate_size-2.ensures c.candidate_size-2.type_inv) c.self.invariant.sized;
      room = omega arith;
      places = omega arith;
      oldest_places = omega (arith, ap length c.set.ensures, length-set c.self.inside.oldest c.args.place c.use_rank.result);
      first_places = omega (arith, c.write_kept.ensures.len);
    }
