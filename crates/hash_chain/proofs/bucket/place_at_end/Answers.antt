use Rattle.std.proofs.Common.{◌≡◌, ℕ, ◌+◌, get_or, subst, arith}
use Rattle.std.proofs.lemmas.List.{length-map}
use Rattle.hash_chain.specs.declared.header.Header.{Header}
use Rattle.hash_chain.specs.Kept.{keys_of}
use Rattle.hash_chain.proofs.Tags.{none_more, no_header, is_header, is_nowhere}
use Rattle.hash_chain.proofs.bucket.place_at_end.Goals as goal
use Rattle.hash_chain.proofs.bucket.place_at_end.Goals.{then-tags-place+else-eq, else-tags-place}

pub loop-place-init : goal.loop-place-init
loop-place-init c = none_more c.args.tags.now (keys_of c.args.headers.now) c.args.key c.tag_of-tag.result c.args.from c.start_at_end-start.result c.requires.tags c.tag_of-tag.ensures c.requires.passed c.start_at_end-start.ensures

pub returns-then-eq : goal.returns-then-eq
returns-then-eq c = is_header c.args.headers.now c.args.key _ c.loop-place.place c.loop-place-test.true c.if-eq.ensures c.loop-place.invariant

pub loop-place-preserved : goal.loop-place-preserved
loop-place-preserved c = elim c.if-tags-place.branch [
  | then-tags-place+else-eq w ↦ no_header c.args.headers.now c.args.key _ c.loop-place.place c.loop-place-test.true w.if-eq.ensures c.loop-place.invariant
  | else-tags-place w ↦ none_more c.args.tags.now (keys_of c.args.headers.now) c.args.key c.tag_of-tag.result c.loop-place.place (c.loop-place.place + 1) c.requires.tags c.tag_of-tag.ensures c.loop-place.invariant
      (λ j low below same. let here : j ≡ c.loop-place.place = omega (arith, low, below) in w.if-tags-place.false (subst (λ (i : ℕ). get_or c.args.tags.now i 0 ≡ c.tag_of-tag.result) here same))
]

pub returns : goal.returns
returns c = is_nowhere (keys_of c.args.headers.now) c.args.key c.loop-place.place (let n = length-map c.args.headers.now (λ (h : Header). h.key) in omega arith) c.loop-place.invariant
