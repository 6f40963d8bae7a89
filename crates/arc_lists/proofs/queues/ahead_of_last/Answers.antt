use Rattle.std.proofs.Common.{◌≡◌, ◌≢◌, ◌∙◌, Bool, false, IfNone, None, Option, Some, subst, sym}
use Rattle.std.proofs.lemmas.Bool.{false≢true}
use Rattle.blk_ptr.specs.declared.key.Key.{Key}
use Rattle.blk_ptr.specs.Order.{key_eq}
use Rattle.blk_ptr.proofs.Keys.{key_eq-same}
use Rattle.arc_lists.specs.LastKeys.{last_key}
use Rattle.arc_lists.proofs.Oldest.{last-there, last_key-is, last_key-none}
use Rattle.arc_lists.proofs.Tables.{some_is}
use Rattle.arc_lists.proofs.queues.ahead_of_last.Goals as goal

pub key_at-requires : goal.key_at-requires
key_at-requires c = (last-there c.args.sequence.now.nodes c.in_ok-last.last c.requires (sym c.in_ok-last.ensures)).0

pub returns-in_err-last-clause-none : goal.returns-in_err-last-clause-none
returns-in_err-last-clause-none c =
    subst (λ (r : Option (Option Key)). IfNone r (last_key c.args.sequence.now.nodes ≢ Some c.args.key)) (sym c.from_residual.ensures)
    (λ is. let clash : ◌≡◌ {A = Option Key} None (Some c.args.key) = sym (last_key-none c.args.sequence.now.nodes (sym c.in_err-last.ensures)) ∙ is in cc)

pub returns-else-eq-clause-none : goal.returns-else-eq-clause-none
returns-else-eq-clause-none c is =
    let same : c.key_at.result ≡ c.args.key = some_is (sym (last_key-is c.args.sequence.now.nodes c.in_ok-last.last c.key_at.result c.requires (sym c.in_ok-last.ensures) c.key_at.ensures) ∙ is) in
    let differ : key_eq c.key_at.result c.args.key ≡ false = sym c.eq.ensures ∙ c.if-eq.false in
    false≢true (sym (subst (λ (k : Key). key_eq c.key_at.result k ≡ false) (sym same) differ) ∙ key_eq-same c.key_at.result)
