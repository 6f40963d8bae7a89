use Rattle.std.proofs.Common.{◌≡◌, ℕ, ◌<◌, ◌∙◌, List, length, set, slice_get, Option, Some, None, IfSome, sym, ap, subst}
use Rattle.std.specs.Option.{option_map}
use Rattle.std.proofs.lemmas.List.{get_or-set_same, length-set}
use Rattle.std.proofs.lemmas.Option.{slice_get-get_or}
use Rattle.hash_chain.specs.declared.header.Header.{Header}
use Rattle.hash_chain.specs.Alike.{AreAlike}
use Rattle.hash_chain.specs.Chain.{Chain, IsAlikeTo, lent}
use Rattle.hash_chain.specs.Keeping.{KeptBlock, without_spare}
use Rattle.cache_tests.proofs.buckets.lend.Goals as goal

-- bytes alike to a header's block are so when its spare owner was taken
still_alike : (bytes : List ℕ) (h : Header) → IsAlikeTo (Some h) bytes → IsAlikeTo (Some (lent h)) bytes
still_alike bytes h alike = by_kept h.block alike
  where
    by_kept : (o : Option KeptBlock) → IfSome o (λ kept. AreAlike bytes kept.block.value) → IfSome (option_map without_spare o) (λ kept. AreAlike bytes kept.block.value)
    by_kept None alike = tt
    by_kept (Some kept) alike = alike

pub give_block-requires-clause-range : goal.give_block-requires-clause-range
give_block-requires-clause-range c =
    let h : Header = c.at.result.now in
    let now = ap (λ (x : Chain). x.headers) (c.in-Ok.ensures.ok h c.at.ensures.place) in
    subst (λ n. c.in_ok-at.at < n) (sym (ap length now ∙ length-set c.args.bucket.now.headers c.in_ok-at.at (lent h))) c.in_ok-at.ensures.found.0

pub give_block-requires-clause-alike : goal.give_block-requires-clause-alike
give_block-requires-clause-alike c =
    let h : Header = c.at.result.now in
    let at = c.in_ok-at.at in
    let hs : List Header = c.args.bucket.now.headers in
    let within = c.in_ok-at.ensures.found.0 in
    let now = ap (λ (x : Chain). x.headers) (c.in-Ok.ensures.ok h c.at.ensures.place) in
    let place : slice_get (set hs at (lent h)) at ≡ Some (lent h) =
    slice_get-get_or (set hs at (lent h)) at (lent h) (subst (λ n. at < n) (sym (length-set hs at (lent h))) within) ∙ ap Some (get_or-set_same hs at (lent h) (lent h) within) in
    subst (λ (o : Option Header). IsAlikeTo o c.in-Ok.owner.value) (sym (ap (λ (gs : List Header). slice_get gs at) now ∙ place))
    (still_alike c.in-Ok.owner.value h (subst (λ (o : Option Header). IsAlikeTo o c.in-Ok.owner.value) c.at.ensures.place c.in-Ok.ensures.alike))
