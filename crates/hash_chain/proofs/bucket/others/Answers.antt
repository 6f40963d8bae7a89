use Rattle.std.proofs.Common.{◌≡◌, ◌<◌, eqb, length, map, sym, ap, ◌∙◌, arith, w8}
use Rattle.std.specs.Simd.Lanes.{mask_l}
use Rattle.std.proofs.lemmas.Simd.{bitmask_splat, length-chunk, run_in_chunk_le, trailing_mask_l}
use lib.Count.{count_trailing_zeros}
use lib.Lanes.{chunk}
use Rattle.hash_chain.proofs.Tags.{no_tag, before_tag}
use Rattle.hash_chain.proofs.bucket.others.Goals as goal

pub returns-then-same-eq0-clause-others : goal.returns-then-same-eq0-clause-others
returns-then-same-eq0-clause-others c =
    let ts = c.args.tags.now in
    let at = c.args.at in
    let long : length (chunk at 16 ts) ≡ 16 = length-chunk at 16 ts c.requires in
    no_tag ts at c.args.tag c.requires (sym (bitmask_splat w8 eqb (chunk at 16 ts) 16 c.args.tag long (omega arith)) ∙ c.if-same-eq0.true)

pub returns-else-same-eq0-clause-most : goal.returns-else-same-eq0-clause-most
returns-else-same-eq0-clause-most c =
    let ts = c.args.tags.now in
    let at = c.args.at in
    let t = c.args.tag in
    let long : length (chunk at 16 ts) ≡ 16 = length-chunk at 16 ts c.requires in
    let mask = bitmask_splat w8 eqb (chunk at 16 ts) 16 t long (omega arith) in
    let some : 0 < mask_l (map (λ x. eqb x t) (chunk at 16 ts)) = omega (arith, mask, c.if-same-eq0.false) in
    run_in_chunk_le (λ x. eqb x t) ts at 16 _ 0 c.requires (ap (count_trailing_zeros 64) mask ∙ trailing_mask_l (λ x. eqb x t) 64 (chunk at 16 ts) (omega arith) some)

pub returns-else-same-eq0-clause-others : goal.returns-else-same-eq0-clause-others
returns-else-same-eq0-clause-others c =
    let ts = c.args.tags.now in
    let at = c.args.at in
    let t = c.args.tag in
    let long : length (chunk at 16 ts) ≡ 16 = length-chunk at 16 ts c.requires in
    let mask = bitmask_splat w8 eqb (chunk at 16 ts) 16 t long (omega arith) in
    let some : 0 < mask_l (map (λ x. eqb x t) (chunk at 16 ts)) = omega (arith, mask, c.if-same-eq0.false) in
    before_tag ts at t _ c.requires (ap (count_trailing_zeros 64) mask ∙ trailing_mask_l (λ x. eqb x t) 64 (chunk at 16 ts) (omega arith) some)
