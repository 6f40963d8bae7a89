use Rattle.std.specs.Prelude.{IsTrue}
use Rattle.l2_dev.proofs.InsideLaws.{begin_crashes, commit_crashes, put_crashes}
use Rattle.l2_dev.proofs.laws.crashes_inside_calls.Goals as goal

pub returns-clause-begin : goal.returns-clause-begin
returns-clause-begin g c =
    λ made.
    let d = g.D.CacheDev in
    let laws = g.met.D.CacheDev g.world.𝓛 g.world.𝓜 g.world.𝓡 ((λ s x. x), (λ x. x), (λ x. x), λ x. x) in
    begin_crashes (λ block. IsTrue (made block)) d.told d.has_sectors d.may_leave d.moment d.left_since laws.leaves_told

pub returns-clause-put : goal.returns-clause-put
returns-clause-put g c =
    λ made.
    let d = g.D.CacheDev in
    put_crashes (λ block. IsTrue (made block)) d.told d.has_sectors d.may_leave d.moment d.left_since

pub returns-clause-commit : goal.returns-clause-commit
returns-clause-commit g c =
    λ made.
    let d = g.D.CacheDev in
    commit_crashes (λ block. IsTrue (made block)) d.told d.has_sectors d.may_leave d.moment d.left_since
