use Rattle.std.proofs.Common.{[], ◌∷◌, Global, Vec, map, refl, ap, ◌∙◌}
use Rattle.std.proofs.lemmas.List.{map-append}
use Rattle.trace_text.specs.declared.reply.Reply.{Reply}
use Rattle.trace_run.proofs.group.take_back.Goals as goal

pub returns-clause-replied : goal.returns-clause-replied
returns-clause-replied g c =
    let replies : Vec Reply Global = c.in_ok-replies.replies in (
      replies.items,
      ap (map (λ (v : Vec Reply Global). v.items)) c.in_ok-push-3.ensures.items ∙ map-append (λ (v : Vec Reply Global). v.items) c.args.worked.now.replies.items (replies ∷ []),
      record { all = replies; replied = c.in_ok-replies.was; replies_are = refl },
    )
