use Rattle.std.specs.Prelude.{IsTrue}
use Rattle.l2_dev.proofs.EndLaws.{begin_ends, commit_ends, crashes_are_made, put_ends, start_ends}
use Rattle.l2_dev.proofs.laws.lists_have_ends.Goals as goal

pub returns-clause-start : goal.returns-clause-start
returns-clause-start g c = λ made. start_ends (λ block. IsTrue (made block))

pub returns-clause-begin : goal.returns-clause-begin
returns-clause-begin g c =
    λ made.
    let d = g.D.CacheDev in
    let laws = g.met.D.CacheDev g.world.𝓛 g.world.𝓜 g.world.𝓡 ((λ s x. x), (λ x. x), (λ x. x), λ x. x) in
    begin_ends (λ block. IsTrue (made block)) d.told d.has_sectors d.may_leave d.moment d.left_since laws.leaves_told

pub returns-clause-put : goal.returns-clause-put
returns-clause-put g c = λ made. put_ends (λ block. IsTrue (made block))

pub returns-clause-commit : goal.returns-clause-commit
returns-clause-commit g c =
    λ made.
    let d = g.D.CacheDev in
    commit_ends (λ block. IsTrue (made block)) d.told d.has_sectors d.may_leave d.moment d.left_since

pub returns-clause-crash : goal.returns-clause-crash
returns-clause-crash g c =
    λ made.
    let d = g.D.CacheDev in
    crashes_are_made (λ block. IsTrue (made block)) d.told d.has_sectors d.may_leave d.moment d.left_since
