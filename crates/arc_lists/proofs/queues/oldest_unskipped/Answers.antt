use Rattle.std.proofs.Common.{◌≡◌, ◌<◌, IsSome, ap, false, is_some, length, suc, subst, sym, true, ◌∙◌}
use Rattle.std.specs.Option.{option_map_or}
use Rattle.arc_links.specs.PlainLinks.{element_at, in_front}
use Rattle.arc_lists.specs.Sequences.{oldest_unskipped}
use Rattle.arc_lists.proofs.Oldest.{chosen, fewer, init-keys, keys_up_to, next-keys, skipped, there-front, there-last}
use Rattle.arc_lists.proofs.queues.oldest_unskipped.Goals as goal

pub loop-at-init : goal.loop-at-init
loop-at-init g c =
    let ns = c.args.sequence.now.nodes in
    record {
      there = there-last ns c.last-at.result c.requires.apart c.last-at.ensures;
      rest = λ skips says. ap (oldest_unskipped skips) (init-keys ns c.last-at.result c.requires.apart c.last-at.ensures);
    }

pub returns-then-not-skip : goal.returns-then-not-skip
returns-then-not-skip g c skips says =
    let ns = c.args.sequence.now.nodes in
    let no : skips c.key_at-key.result ≡ false = sym (says c.key_at-key.result c.skip.result c.skip.ensures) ∙ c.if-not-skip.true in
    sym (chosen skips ns c.in-Some.place c.key_at-key.result c.key_at-key.ensures no) ∙ ap (λ o. oldest_unskipped skips (keys_up_to o ns)) (sym c.in-Some.is) ∙ c.loop-at.invariant.rest skips says

pub loop-at-smaller : goal.loop-at-smaller
loop-at-smaller g c =
    let ns = c.args.sequence.now.nodes in
    let there : IsSome (element_at c.in-Some.place ns) = ap is_some c.key_at-key.ensures in
    subst (λ z. option_map_or (λ p. suc (length (in_front p ns))) c.toward_head-at.result 0 < option_map_or (λ p. suc (length (in_front p ns))) z 0) (sym c.in-Some.is)
    (fewer ns c.in-Some.place c.toward_head-at.result c.requires.apart there c.toward_head-at.ensures)

pub loop-at-preserved : goal.loop-at-preserved
loop-at-preserved g c =
    let ns = c.args.sequence.now.nodes in
    let there : IsSome (element_at c.in-Some.place ns) = ap is_some c.key_at-key.ensures in
    record {
      there = there-front ns c.in-Some.place c.toward_head-at.result c.requires.apart there c.toward_head-at.ensures;
      rest = λ skips says.
          let yes : skips c.key_at-key.result ≡ true = sym (says c.key_at-key.result c.skip.result c.skip.ensures) ∙ c.if-not-skip.false in
          ap (oldest_unskipped skips) (next-keys ns c.in-Some.place c.toward_head-at.result c.requires.apart there c.toward_head-at.ensures)
          ∙ sym (skipped skips ns c.in-Some.place c.key_at-key.result c.key_at-key.ensures yes) ∙ ap (λ o. oldest_unskipped skips (keys_up_to o ns)) (sym c.in-Some.is) ∙ c.loop-at.invariant.rest skips says;
    }
