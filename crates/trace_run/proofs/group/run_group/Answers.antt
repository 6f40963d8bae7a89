use Rattle.std.proofs.Common.{◌≡◌, ℕ, List, Vec, Global, length, map, Option, subst, arith}
use Rattle.std.specs.Prelude.{IfOk, Result, filter}
use Rattle.blk_ptr.specs.declared.memory.NoMemory.{NoMemory}
use Rattle.trace_text.specs.declared.reply.Reply.{Reply}
use Rattle.dbuf_cells.specs.Turns.{OnHeap, dbuf_meanings}
use Rattle.trace_run.specs.Devices.{lent_in}
use Rattle.trace_run.specs.Feeds.{DoesFeeds, is_feed}
use Rattle.trace_run.specs.callers.DeviceForks.{AllAsk, HaveRead}
use Rattle.trace_run.specs.declared.group.Caller.{Caller}
use Rattle.trace_run.proofs.callers.AbsorbLemmas.{absorbed-leaves}
use Rattle.trace_run.proofs.callers.BesideLemmas.{lent-fed, tries-beside, tries-none, works-beside}
use Rattle.trace_run.proofs.callers.GroupLemmas.{did-own, enlisted-ready, start-length}
use Rattle.trace_run.proofs.group.run_group.Goals as goal

pub work_and_feed-fed-requires-clause-ready : goal.work_and_feed-fed-requires-clause-ready
work_and_feed-fed-requires-clause-ready g c κs within =
    enlisted-ready c.args.arcs.now g.P.Pool g.D.CacheDev c.args.blocks.now c.args.ops.now c.args.pool.now c.args.parties.items c.args.kept.items c.args.forks.items c.in_ok-callers.callers.items c.requires.parties c.requires.forks c.in_ok-callers.ensures.enlisted

pub work_and_feed-fed-requires-clause-device : goal.work_and_feed-fed-requires-clause-device
work_and_feed-fed-requires-clause-device g c κs within = lent-fed g.D.CacheDev c.args.arcs.now.config c.args.device.now c.device_forks.new.device c.in_ok-devices.ensures.device c.requires.device

-- what the callers did, and asked the device, which has their forks back; and the feeds meanwhile
pub returns-clause-did : goal.returns-clause-did
returns-clause-did g c =
    let olds : List (Caller OnHeap g.row.P.Denot g.row.D.Denot) = c.in_ok-callers.callers.items in
    let news : List (Caller OnHeap g.row.P.Denot g.row.D.Denot) = c.work_and_feed-fed.new.callers.items in
    let replies : List (List Reply) = map (λ (v : Vec Reply Global). v.items) c.in_ok-worked.worked.replies.items in
    let given : List (Option g.row.D.Denot) = c.in_ok-devices.devices.items in
    let left : List (Option g.row.D.Denot) = map (λ (x : Caller OnHeap g.row.P.Denot g.row.D.Denot). x.device) news in
    let many : ℕ = length c.args.parties.items in
    let count : length given ≡ many = let a = c.in_ok-devices.ensures.count in let b = c.in_ok-devices.devices.ok.0 in let l = c.len.ensures in let o = c.args.parties.ok.0 in omega (arith, a, b, l, o) in
    let own = did-own c.args.arcs.now g.P.Pool g.D.CacheDev c.args.blocks.now c.args.ops.now c.args.pool.now c.take_all_back.new.pool c.args.parties.items c.args.kept.items c.args.forks.items olds news
    replies c.in_ok-worked.worked.kept.items c.in_ok-worked.worked.parties.items c.requires.parties c.requires.forks c.in_ok-callers.ensures.enlisted c.work_and_feed-fed.ensures.worked c.take_all_back.ensures.absorbs c.in_ok-worked.ensures.came in
    let read : HaveRead g.D.CacheDev c.args.blocks.now many own.own (lent_in c.args.device.now) (lent_in c.device_forks.new.device) (lent_in c.work_and_feed-fed.new.device) (lent_in c.take_all_back.new.device) = record {
      forks = given;
      count = count;
      given = c.in_ok-devices.ensures.given;
      done = left;
      asked = subst (λ (l : List (Option g.row.D.Denot)). AllAsk g.D.CacheDev c.args.blocks.now own.own 0 l left) c.in_ok-callers.ensures.devices own.asked;
      back = c.take_all_back.ensures.back;
    } in
    record {
      own = own.own;
      replied = own.replied;
      are = own.are;
      worked = own.worked;
      beside = works-beside dbuf_meanings g.D.CacheDev c.args.arcs.now c.args.blocks.now c.args.ops.now many own.own c.in_ok-fed.fed.items c.args.device.now c.device_forks.new.device c.work_and_feed-fed.new.device c.take_all_back.new.device c.args.feeder.now
          c.work_and_feed-fed.new.feeder c.in_ok-devices.ensures.device
          (subst (λ (r : Result (Vec Reply Global) NoMemory). IfOk r (λ replies. DoesFeeds dbuf_meanings g.D.CacheDev c.args.arcs.now (filter is_feed c.args.ops.now) replies.items c.device_forks.new.device c.work_and_feed-fed.new.device c.args.feeder.now c.work_and_feed-fed.new.feeder)) c.in_ok-fed.was c.work_and_feed-fed.ensures.fed)
          c.take_all_back.ensures.device read;
    }

-- what was tried, whatever it came to
pub returns-in_err-devices-clause-tried : goal.returns-in_err-devices-clause-tried
returns-in_err-devices-clause-tried g c = tries-none dbuf_meanings g.D.CacheDev c.args.arcs.now c.args.ops.now c.args.device.now c.device_forks.new.device c.args.feeder.now c.device_forks.ensures.device

pub returns-in_err-callers-clause-tried : goal.returns-in_err-callers-clause-tried
returns-in_err-callers-clause-tried g c = tries-none dbuf_meanings g.D.CacheDev c.args.arcs.now c.args.ops.now c.args.device.now c.device_forks.new.device c.args.feeder.now c.in_ok-devices.ensures.device

pub returns-in_err-worked-clause-tried : goal.returns-in_err-worked-clause-tried
returns-in_err-worked-clause-tried g c =
    tries-beside dbuf_meanings g.D.CacheDev c.args.arcs.now c.args.ops.now c.args.device.now c.device_forks.new.device c.work_and_feed-fed.new.device c.take_all_back.new.device c.args.feeder.now c.work_and_feed-fed.new.feeder
    c.in_ok-devices.ensures.device c.work_and_feed-fed.ensures.tried c.take_all_back.ensures.device

pub returns-in_err-fed-clause-tried : goal.returns-in_err-fed-clause-tried
returns-in_err-fed-clause-tried g c =
    tries-beside dbuf_meanings g.D.CacheDev c.args.arcs.now c.args.ops.now c.args.device.now c.device_forks.new.device c.work_and_feed-fed.new.device c.take_all_back.new.device c.args.feeder.now c.work_and_feed-fed.new.feeder
    c.in_ok-devices.ensures.device c.work_and_feed-fed.ensures.tried c.take_all_back.ensures.device

pub returns-clause-tried : goal.returns-clause-tried
returns-clause-tried g c =
    tries-beside dbuf_meanings g.D.CacheDev c.args.arcs.now c.args.ops.now c.args.device.now c.device_forks.new.device c.work_and_feed-fed.new.device c.take_all_back.new.device c.args.feeder.now c.work_and_feed-fed.new.feeder
    c.in_ok-devices.ensures.device c.work_and_feed-fed.ensures.tried c.take_all_back.ensures.device

-- the device may be fed again
pub returns-in_err-devices-clause-device : goal.returns-in_err-devices-clause-device
returns-in_err-devices-clause-device g c = lent-fed g.D.CacheDev c.args.arcs.now.config c.args.device.now c.device_forks.new.device c.device_forks.ensures.device c.requires.device

pub returns-in_err-callers-clause-device : goal.returns-in_err-callers-clause-device
returns-in_err-callers-clause-device g c = lent-fed g.D.CacheDev c.args.arcs.now.config c.args.device.now c.device_forks.new.device c.in_ok-devices.ensures.device c.requires.device

pub returns-in_err-worked-clause-device : goal.returns-in_err-worked-clause-device
returns-in_err-worked-clause-device g c = lent-fed g.D.CacheDev c.args.arcs.now.config c.work_and_feed-fed.new.device c.take_all_back.new.device c.take_all_back.ensures.device c.work_and_feed-fed.ensures.device

pub returns-in_err-fed-clause-device : goal.returns-in_err-fed-clause-device
returns-in_err-fed-clause-device g c = lent-fed g.D.CacheDev c.args.arcs.now.config c.work_and_feed-fed.new.device c.take_all_back.new.device c.take_all_back.ensures.device c.work_and_feed-fed.ensures.device

pub returns-clause-device : goal.returns-clause-device
returns-clause-device g c = lent-fed g.D.CacheDev c.args.arcs.now.config c.work_and_feed-fed.new.device c.take_all_back.new.device c.take_all_back.ensures.device c.work_and_feed-fed.ensures.device

-- and the pool has what it had
pub returns-in_err-worked-clause-pool : goal.returns-in_err-worked-clause-pool
returns-in_err-worked-clause-pool g c = absorbed-leaves g.P.Pool (map (λ caller. caller.pool) c.work_and_feed-fed.new.callers.items) c.args.pool.now c.take_all_back.new.pool c.take_all_back.ensures.absorbs

pub returns-in_err-fed-clause-pool : goal.returns-in_err-fed-clause-pool
returns-in_err-fed-clause-pool g c = absorbed-leaves g.P.Pool (map (λ caller. caller.pool) c.work_and_feed-fed.new.callers.items) c.args.pool.now c.take_all_back.new.pool c.take_all_back.ensures.absorbs

pub returns-clause-pool : goal.returns-clause-pool
returns-clause-pool g c = absorbed-leaves g.P.Pool (map (λ caller. caller.pool) c.work_and_feed-fed.new.callers.items) c.args.pool.now c.take_all_back.new.pool c.take_all_back.ensures.absorbs

pub enlist-requires-clause-kept : goal.enlist-requires-clause-kept
enlist-requires-clause-kept g c κs within =
    let same = start-length c.args.arcs.now c.args.blocks.now 0 c.args.kept.items c.args.parties.items c.requires.parties in
    let a = c.args.kept.ok.0 in
    let b = c.args.parties.ok.0 in
    omega (arith, same, a, b)
