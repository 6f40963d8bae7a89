use Rattle.std.proofs.Common.{sym, ap, ◌∙◌}
use Rattle.arc_lists.specs.Queues.{sequences_in}
use Rattle.arc_lists.specs.Walks.{first_of, oldest_first}
use Rattle.arc_lists.proofs.Oldest.{last-first}
use Rattle.arc_lists.proofs.queues.Queues.oldest.Goals as goal

pub returns-in-Mru : goal.returns-in-Mru
returns-in-Mru c = c.last_of.ensures ∙ last-first c.args.self.now.mru.nodes ∙ ap (λ s. first_of (oldest_first s (sequences_in c.args.self.now))) (sym c.in-Mru.is)

pub returns-in-MruGhost : goal.returns-in-MruGhost
returns-in-MruGhost c = c.last_of-in-MruGhost.ensures ∙ last-first c.args.self.now.mru_ghost.nodes ∙ ap (λ s. first_of (oldest_first s (sequences_in c.args.self.now))) (sym c.in-MruGhost.is)

pub returns-in-Mfu : goal.returns-in-Mfu
returns-in-Mfu c = c.last_of-in-Mfu.ensures ∙ last-first c.args.self.now.mfu.nodes ∙ ap (λ s. first_of (oldest_first s (sequences_in c.args.self.now))) (sym c.in-Mfu.is)

pub returns-in-MfuGhost : goal.returns-in-MfuGhost
returns-in-MfuGhost c = c.last_of-in-MfuGhost.ensures ∙ last-first c.args.self.now.mfu_ghost.nodes ∙ ap (λ s. first_of (oldest_first s (sequences_in c.args.self.now))) (sym c.in-MfuGhost.is)
