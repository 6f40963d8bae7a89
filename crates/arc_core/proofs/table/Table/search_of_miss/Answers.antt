use Rattle.std.proofs.Common.{◌≡◌, ℕ, if◌then◌else◌, Option, Some, None, option_map, is_some, refl, sym, ap, subst, ◌∙◌}
use Rattle.blk_ptr.specs.declared.state.State.{State}
use Rattle.arc_core.specs.PlainShard.{entry_of}
use Rattle.arc_core.specs.Search.{Stands}
use Rattle.arc_core.specs.Sparing.{victims_of_entry}
use Rattle.arc_core.specs.Step.{read_entry}
use Rattle.arc_core.proofs.Legal.{miss-off, miss-sound}
use Rattle.arc_core.proofs.table.Table.search_of_miss.Goals as goal

is_some-seen : {A B : Type 0} (f : A → B) (o : Option A) → is_some (option_map f o) ≡ is_some o
is_some-seen f None = refl
is_some-seen f (Some a) = refl

pub returns : goal.returns
returns c =
    let s = c.args.self.now.shard in
    let e = read_entry c.args.n c.args.key c.args.t s in
    let there : c.is_some.result ≡ is_some (entry_of c.args.key s) = c.is_some.ensures ∙ sym (is_some-seen (λ r. r.now) c.find-found.result) ∙ ap is_some c.find-found.ensures.value in
    let comes : c.read_state-comes.result ≡ e.state = c.read_state-comes.ensures ∙ ap (λ b. if b then State.Mfu else State.Anon) there in
    let off = miss-off c.args.n c.args.key c.args.t s c.requires in
    let sound = miss-sound c.args.n c.args.key c.args.t s c.requires in
    subst (λ (p : ℕ). Stands s c.args.self.now.marked (victims_of_entry e (record s { p = p })) c.search_as_comes.result) c.target_after.ensures
    (c.search_as_comes.ensures e refl (sym comes) off sound)
