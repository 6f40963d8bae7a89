use Rattle.std.proofs.Common.{◌≡◌, ℕ, ◌+◌, List, length, map, ap, ◌∙◌, arith}
use Rattle.std.proofs.lemmas.List.{length-map}
use Rattle.hash_chain.specs.declared.header.Header.{Header}
use Rattle.hash_chain.specs.Kept.{keys_of, tag_of_key}
use Rattle.hash_chain.proofs.Tags.{none_more, no_header, is_header}
use Rattle.hash_chain.proofs.bucket.place_of.Goals as goal

-- there are as many tags as headers
as_many : (ts : List ℕ) (hs : List Header) → ts ≡ map tag_of_key (keys_of hs) → length ts ≡ length hs
as_many ts hs tags = ap length tags ∙ (length-map (keys_of hs) tag_of_key ∙ length-map hs (λ (h : Header). h.key))

pub returns-then-eq : goal.returns-then-eq
returns-then-eq c =
    let ts = c.args.tags.now in
    let n = as_many ts c.args.headers.now c.requires in
    is_header c.args.headers.now c.args.key _ (c.loop-from.from + c.others-ahead.result) (omega arith) c.if-eq.ensures
    (none_more ts (keys_of c.args.headers.now) c.args.key c.tag_of-tag.result c.loop-from.from _ c.requires c.tag_of-tag.ensures c.loop-from.invariant.1 c.others-ahead.ensures.others)

pub loop-from-preserved-then-ahead-lt-LANES : goal.loop-from-preserved-then-ahead-lt-LANES
loop-from-preserved-then-ahead-lt-LANES c =
    let ts = c.args.tags.now in
    let n = as_many ts c.args.headers.now c.requires in (
      omega arith,
      no_header c.args.headers.now c.args.key _ (c.loop-from.from + c.others-ahead.result) (omega arith) c.if-eq.ensures
          (none_more ts (keys_of c.args.headers.now) c.args.key c.tag_of-tag.result c.loop-from.from _ c.requires c.tag_of-tag.ensures c.loop-from.invariant.1 c.others-ahead.ensures.others),
    )

pub loop-from-preserved : goal.loop-from-preserved
loop-from-preserved c =
    let ts = c.args.tags.now in (
      omega arith,
      none_more ts (keys_of c.args.headers.now) c.args.key c.tag_of-tag.result c.loop-from.from _ c.requires c.tag_of-tag.ensures c.loop-from.invariant.1 c.others-ahead.ensures.others,
    )
