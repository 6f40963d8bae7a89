use Rattle.std.proofs.Common.{◌≡◌, ℕ, ◌++◌, ◌∷◌, inr, inl, sym, subst, arith}
use Rattle.l2_dev.proofs.Commits.{log_failed, logged_of, commit_failed, commit_kept, header_reserved, forgotten_reserved, settled_from, commit_written, log_refused, log_left, header_left, header_asks, log_asks_err, no_refusal, no_refusal_of}
use Rattle.l2_log.specs.declared.pointer.LogPtr.{LogPtr}
use Rattle.l2_dev.proofs.Puts.{forgotten_of}
use Rattle.l2_dev.specs.Calls.{LeavesWith}
use Rattle.l2_dev.specs.Planned.{IsHeaderWith}
use Rattle.l2_dev.specs.declared.fault.DevErr.TheVariants.{DevFault, NoMemory}
use Rattle.l2_dev.proofs.device.L2Dev.commit.Goals as goal

pub write_log-requires-clause-inside : goal.write_log-requires-clause-inside
write_log-requires-clause-inside g c =
    let room = c.ring.ensures.kept.room c.requires.some in
    let evict = c.ring.ensures.kept.sound.evict_in.to in
    omega (arith, c.requires.whole)

pub returns-in-Err-clause-crash : goal.returns-in-Err-clause-crash
returns-in-Err-clause-crash g c =
    λ p kept.
    let d = g.D.CacheDev in
    let laws = g.met.D.CacheDev g.world.𝓛 g.world.𝓜 g.world.𝓡 ((λ s x. x), (λ x. x), (λ x. x), λ x. x) in
    let dev = c.args.self.now.dev in
    let cursor = c.args.self.now.cursor in
    let is = c.ring.ensures.kept in
    let end = is.sound.ends.long in
    inl (log_failed d.told d.has_sectors d.may_leave d.moment d.left_since dev c.write_log.new.dev cursor c.forget.new.self p c.write_log.result kept is c.requires.some
    record {
      told_left = laws.leaves_told dev;
      now_only = λ x yes left. laws.only_now dev x yes left;
      long = λ x left. let n = laws.leaves_len dev x left in omega (arith, n, c.requires.whole);
    }
    (forgotten_of cursor c.forget.new.self (forgotten_reserved cursor c.write_log.new.cursor c.forget.new.self c.write_log.ensures.cursor c.forget.ensures.forgotten)) c.write_log.ensures.logged)

pub returns-in-Err-write_header-clause-crash : goal.returns-in-Err-write_header-clause-crash
returns-in-Err-write_header-clause-crash g c =
    λ p kept.
    let d = g.D.CacheDev in
    let laws = g.met.D.CacheDev g.world.𝓛 g.world.𝓜 g.world.𝓡 ((λ s x. x), (λ x. x), (λ x. x), λ x. x) in
    let dev = c.args.self.now.dev in
    let mid = c.write_log.new.dev in
    let cursor = c.args.self.now.cursor in
    let back = c.forget-in-Err-write_header.new.self in
    let is = c.ring.ensures.kept in
    let end = is.sound.ends.long in
    let evict = is.sound.evict_in.to in
    let room = is.room c.requires.some in
    let f = forgotten_of cursor back (forgotten_reserved cursor c.write_log.new.cursor back c.write_log.ensures.cursor c.forget-in-Err-write_header.ensures.forgotten) in
    let l = logged_of d.told d.has_sectors d.may_leave d.moment d.left_since dev mid cursor kept.image c.in-Ok.ptr is c.requires.some
    record {
      told_left = laws.leaves_told dev;
      now_only = λ x yes left. laws.only_now dev x yes left;
      long = λ x left. let n = laws.leaves_len dev x left in omega (arith, n, c.requires.whole);
    } kept.told (let n = laws.told_len dev kept.image kept.told in omega (arith, n, c.requires.whole)) c.in-Ok.ensures.logged in
    let r = commit_failed d.told d.has_sectors d.may_leave d.moment d.left_since dev mid c.write_header.new.dev cursor back p kept.image l.0 c.in-Ok.ptr l.1 c.header_with-header.result _ kept l.2
    (header_reserved cursor c.write_log.new.cursor c.in-Ok.ptr c.header_with-header.result c.write_log.ensures.cursor c.header_with-header.ensures.header) c.write_header.ensures.written
    record {
      told_left = laws.leaves_told mid;
      now_only = λ x yes left. laws.only_now mid x yes left;
      long = λ x left. let n = laws.leaves_len mid x left in omega (arith, n, c.requires.whole, c.write_log.ensures.size);
    } f in
    inr (r.0, r.1, r.2, subst (λ (e : ℕ). LeavesWith d.moment d.left_since (IsHeaderWith cursor r.0.ptr) e dev c.write_header.new.dev p (r.0 ∷ p.blocks) (p.pending ++ p.kept) p.kept r.1) (sym f.end) r.3, r.4)

pub returns-clause-settled : goal.returns-clause-settled
returns-clause-settled g c =
    let d = g.D.CacheDev in
    let cursor = c.args.self.now.cursor in (
      c.in-Ok.ptr,
      settled_from cursor c.write_log.new.cursor c.settle.new.self c.in-Ok.ptr c.write_log.ensures.cursor c.settle.ensures.settled,
      commit_written d.told d.has_sectors d.may_leave d.moment d.left_since c.args.self.now.dev c.write_log.new.dev c.write_header.new.dev cursor c.in-Ok.ptr c.header_with-header.result _ c.in-Ok.ensures.logged
          (header_reserved cursor c.write_log.new.cursor c.in-Ok.ptr c.header_with-header.result c.write_log.ensures.cursor c.header_with-header.ensures.header) c.in_default.ensures.written c.in_default.ensures.written.done,
    )

pub returns-clause-crash : goal.returns-clause-crash
returns-clause-crash g c =
    λ p kept.
    let d = g.D.CacheDev in
    let laws = g.met.D.CacheDev g.world.𝓛 g.world.𝓜 g.world.𝓡 ((λ s x. x), (λ x. x), (λ x. x), λ x. x) in
    let dev = c.args.self.now.dev in
    let mid = c.write_log.new.dev in
    let cursor = c.args.self.now.cursor in
    let is = c.ring.ensures.kept in
    let end = is.sound.ends.long in
    let evict = is.sound.evict_in.to in
    let room = is.room c.requires.some in
    let h = settled_from cursor c.write_log.new.cursor c.settle.new.self c.in-Ok.ptr c.write_log.ensures.cursor c.settle.ensures.settled in
    let l = logged_of d.told d.has_sectors d.may_leave d.moment d.left_since dev mid cursor kept.image c.in-Ok.ptr is c.requires.some
    record {
      told_left = laws.leaves_told dev;
      now_only = λ x yes left. laws.only_now dev x yes left;
      long = λ x left. let n = laws.leaves_len dev x left in omega (arith, n, c.requires.whole);
    } kept.told (let n = laws.told_len dev kept.image kept.told in omega (arith, n, c.requires.whole)) c.in-Ok.ensures.logged in
    let r = commit_kept d.told d.has_sectors d.may_leave d.moment d.left_since dev mid c.write_header.new.dev cursor c.settle.new.self p kept.image l.0 c.in-Ok.ptr l.1 c.header_with-header.result _ kept l.2
    (header_reserved cursor c.write_log.new.cursor c.in-Ok.ptr c.header_with-header.result c.write_log.ensures.cursor c.header_with-header.ensures.header) c.in_default.ensures.written
    record {
      told_left = laws.leaves_told mid;
      now_only = λ x yes left. laws.only_now mid x yes left;
      long = λ x left. let n = laws.leaves_len mid x left in omega (arith, n, c.requires.whole, c.write_log.ensures.size);
    } c.in_default.ensures.written.done h in
    (r.0, r.1, r.2, subst (λ (e : ℕ). LeavesWith d.moment d.left_since (IsHeaderWith cursor r.0.ptr) e dev c.write_header.new.dev p (r.0 ∷ p.blocks) (p.pending ++ p.kept) p.kept r.1) (sym h.end) r.3, r.4)

pub returns-in-Err-clause-refused : goal.returns-in-Err-clause-refused
returns-in-Err-clause-refused g c =
    λ e.
    let d = g.D.CacheDev in
    let is : c.in-Err.fault ≡ NoMemory = cc in
    log_refused d.told d.has_sectors d.may_leave d.moment d.left_since c.args.self.now.dev c.write_log.new.dev c.args.self.now.cursor c.in-Err.fault c.in-Err.ensures.logged is

pub returns-in-Err-clause-left : goal.returns-in-Err-clause-left
returns-in-Err-clause-left g c =
    λ e.
    let d = g.D.CacheDev in
    let is : c.in-Err.fault ≡ DevFault = cc in
    log_left d.told d.has_sectors d.may_leave d.moment d.left_since c.args.self.now.dev c.write_log.new.dev c.args.self.now.cursor c.in-Err.fault c.in-Err.ensures.logged is

pub returns-in-Err-write_header-clause-left : goal.returns-in-Err-write_header-clause-left
returns-in-Err-write_header-clause-left g c =
    λ e.
    let d = g.D.CacheDev in
    header_left d.told d.has_sectors d.may_leave d.moment d.left_since c.args.self.now.dev c.write_log.new.dev c.write_header.new.dev c.args.self.now.cursor c.in-Ok.ptr c.header_with-header.result _
    c.in-Ok.ensures.logged c.in-Err-write_header.ensures.written

pub returns-in-Err-clause-calls : goal.returns-in-Err-clause-calls
returns-in-Err-clause-calls g c =
    λ h. log_asks_err g.D.CacheDev (Unit {0}) c.args.self.now.dev c.write_log.new.dev c.args.self.now.cursor c.in-Err.fault h (c.in-Err.ensures.calls (no_refusal_of (Unit {0}) LogPtr c.in-Err.fault h))

pub returns-in-Err-write_header-clause-calls : goal.returns-in-Err-write_header-clause-calls
returns-in-Err-write_header-clause-calls g c =
    λ h.
    let w = c.in-Err-write_header.ensures.calls in
    header_asks g.D.CacheDev c.args.self.now.dev c.write_log.new.dev c.write_header.new.dev c.args.self.now.cursor c.in-Ok.ptr c.header_with-header.result _ (c.in-Ok.ensures.calls (λ e. no_refusal c.in-Ok.ptr e))
    (header_reserved c.args.self.now.cursor c.write_log.new.cursor c.in-Ok.ptr c.header_with-header.result c.write_log.ensures.cursor c.header_with-header.ensures.header) w.0 w.1 w.2

pub returns-clause-calls : goal.returns-clause-calls
returns-clause-calls g c =
    λ h.
    let w = c.in_default.ensures.calls in
    header_asks g.D.CacheDev c.args.self.now.dev c.write_log.new.dev c.write_header.new.dev c.args.self.now.cursor c.in-Ok.ptr c.header_with-header.result _ (c.in-Ok.ensures.calls (λ e. no_refusal c.in-Ok.ptr e))
    (header_reserved c.args.self.now.cursor c.write_log.new.cursor c.in-Ok.ptr c.header_with-header.result c.write_log.ensures.cursor c.header_with-header.ensures.header) w.0 w.1 w.2
