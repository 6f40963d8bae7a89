use Rattle.std.proofs.Common.{ℕ, Ok, Err, ap, ◌∙◌}
use Rattle.l2_ring.specs.Ring.{RingState}
use Rattle.std.proofs.lemmas.Result.{err_from_is_err_and}
use Rattle.l2_feed.proofs.Asking.{commit_calls, puts_lost}
use Rattle.l2_feed.proofs.Crashing.{commit_keeps, own_then, some_then}
use Rattle.l2_feed.proofs.Writing.{committed, put_some}
use Rattle.l2_feed.proofs.runs.write_run.Goals as goal

pub commit-requires-clause-some : goal.commit-requires-clause-some
commit-requires-clause-some g c = λ _ _. put_some c.args.run.now c.args.l2.now.cursor c.put_all.new.l2.cursor c.requires.some c.in_ok-put_all.ensures.put

pub returns-clause-asks : goal.returns-clause-asks
returns-clause-asks g c =
    commit_calls g.D.CacheDev c.args.run.now c.args.l2.now.cursor c.put_all.new.l2.cursor c.args.l2.now.dev c.put_all.new.l2.dev c.commit.new.self.dev c.in_ok-put_all.ensures.put c.in_ok-put_all.ensures.asks (Ok _) c.in_ok-commit.ensures.refused c.in_ok-commit.ensures.calls

pub returns-clause-crash : goal.returns-clause-crash
returns-clause-crash g c =
    let d = g.D.CacheDev in
    own_then d.told d.has_sectors d.may_leave c.args.l2.now.dev c.put_all.new.l2.dev c.commit.new.self.dev c.args.l2.now.cursor c.put_all.new.l2.cursor c.commit.new.self.cursor c.in_ok-put_all.ensures.crash
    (commit_keeps d.told d.has_sectors d.may_leave d.moment d.left_since c.put_all.new.l2.dev c.commit.new.self.dev c.put_all.new.l2.cursor c.commit.new.self.cursor (Ok _) c.in_ok-commit.ensures.crash)

pub returns-in_err-commit-clause-asks : goal.returns-in_err-commit-clause-asks
returns-in_err-commit-clause-asks g c =
    let e = err_from_is_err_and c.from_residual-in_err-commit.result c.from_residual-in_err-commit.ensures.1 in
    rw (e.1, e.2) (commit_calls g.D.CacheDev c.args.run.now c.args.l2.now.cursor c.put_all.new.l2.cursor c.args.l2.now.dev c.put_all.new.l2.dev c.commit.new.self.dev c.in_ok-put_all.ensures.put c.in_ok-put_all.ensures.asks {T = Unit {0}} (Err c.in_err-commit.field-0.0) c.in_err-commit.ensures.refused c.in_err-commit.ensures.calls)

pub returns-in_err-commit-clause-crash : goal.returns-in_err-commit-clause-crash
returns-in_err-commit-clause-crash g c =
    let d = g.D.CacheDev in
    let e = err_from_is_err_and c.from_residual-in_err-commit.result c.from_residual-in_err-commit.ensures.1 in
    rw e.1 (some_then d.told d.has_sectors d.may_leave c.args.l2.now.dev c.put_all.new.l2.dev c.commit.new.self.dev c.args.l2.now.cursor c.put_all.new.l2.cursor c.commit.new.self.cursor c.in_ok-put_all.ensures.crash
    (commit_keeps d.told d.has_sectors d.may_leave d.moment d.left_since c.put_all.new.l2.dev c.commit.new.self.dev c.put_all.new.l2.cursor c.commit.new.self.cursor (Err c.in_err-commit.field-0.0) c.in_err-commit.ensures.crash))

pub returns-clause-written : goal.returns-clause-written
returns-clause-written g c =
    let s = c.in_ok-commit.ensures.settled in (
      c.hand-place.ensures.hand ∙ ap (λ (r : RingState). r.hand) c.ring.ensures.ring,
      committed c.args.run.now c.args.l2.now.cursor c.put_all.new.l2.cursor c.commit.new.self.cursor s.0 (g.D.CacheDev.told c.put_all.new.l2.dev) (g.D.CacheDev.told c.commit.new.self.dev) c.in_ok-put_all.ensures.put s.1 s.2,
    )

pub returns-in_err-put_all-clause-asks : goal.returns-in_err-put_all-clause-asks
returns-in_err-put_all-clause-asks g c =
    let e = err_from_is_err_and c.from_residual.result c.from_residual.ensures.1 in
    let a = c.in_err-put_all.ensures.asks in
    rw (e.1, e.2) (a.0, a.1, puts_lost g.D.CacheDev (Unit {0}) ℕ c.in_err-put_all.field-0.0 c.args.l2.now.cursor c.args.run.now a.0 a.2)
