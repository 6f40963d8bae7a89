-- A line that ends a group of several callers: what the feeder did for it, and what it leaves of the pool and of what stands between two groups.
use Rattle.std.proofs.Common.{◌≡◌, ◌⊎◌, ◌%◌, ◌≤◌, ◌++◌, ℕ, suc, false, List, [], length, Option, Some, Result, Ok, Err, refl, sym, ap, ◌∙◌, subst, inl, inr, arith}
use Rattle.std.specs.Prelude.{slice_get}
use Rattle.blk_ptr.specs.Size.{sector}
use Rattle.arc_core.specs.declared.config.Config.{Config}
use Rattle.arc_core.specs.declared.event.Event.{Event}
use Rattle.arc_table.specs.Cache.{Cache}
use Rattle.arc_table.specs.declared.view.Line.{Line as Seen}
use Rattle.arc_table.specs.Geometry.{IsCell}
use Rattle.dbuf_cells.specs.Turns.{OnHeap}
use Rattle.dbuf_state.specs.declared.event.CellEvent.{CellEvent}
use Rattle.txg_sync.specs.Items.{SyncItem}
use Rattle.txg_sync.specs.Turns.{synced_in}
use Rattle.txg_sync.specs.declared.syncing.SyncFault.{SyncFault}
use Rattle.txg_sync.specs.declared.syncing.SyncFault.TheVariants as fault
use Rattle.txg_sync.specs.declared.syncing.Synced.{Synced as SyncAnswer}
use Rattle.trace_text.specs.declared.op.Op.{Op}
use Rattle.trace_text.specs.declared.op.Op.TheVariants as ops
use Rattle.trace_text.specs.declared.reply.Reply.{Reply}
use Rattle.trace_text.specs.declared.reply.Reply.TheVariants.{Capped, Synced}
use Rattle.trace_text.specs.declared.trace.Trace.{Trace}
use Rattle.vdev_io.specs.declared.pool.Pool.{Ghosts}
use Rattle.trace_run.specs.declared.groups.Crew.{Crew}
use Rattle.trace_run.specs.declared.ran.Ending.{Ending}
use Rattle.trace_run.specs.declared.ran.Ending.TheVariants.{Fork, Full, Sync, Whole}
use Rattle.trace_run.specs.dbufs.CellEnds.{done_by}
use Rattle.trace_run.specs.Deeds.{HasToldOthers, acts_of_events, events_of_cell}
use Rattle.trace_run.specs.Meeting.{resizes_in}
use Rattle.trace_run.specs.dbufs.Objects.{Line, Work, no_work}
use Rattle.trace_run.specs.Openings.{Knows, openings_of}
use Rattle.trace_run.specs.RunWork.{RunWork}
use Rattle.trace_run.specs.Syncing.{SyncedJoined, SyncsJoined, inserts_in, lines_of, noted_of}
use Rattle.trace_run.specs.callers.Group.{LeavesFront, LeavesPool}
use Rattle.vdev_io.specs.Faults.{counted_more}
use Rattle.trace_run.specs.callers.Groups.{DidCap, DidEndLine, DidSync, EndsLines, MaySync, StoodSo, TellsSync, goes_on}
use Rattle.trace_run.specs.callers.Together.{EndsGroup, BetweenGroups, OfCells, StoppedAt, StopsSync, SyncsGroup, groups_begun, groups_done}
use Rattle.trace_run.proofs.callers.EndedLemmas.{EndsSo, JoinedCell, MadeWork, StopsSo, cap-ends, with_stop}
use Rattle.trace_run.proofs.callers.FrontLemmas.{front-same}
use Rattle.trace_run.proofs.callers.GroupLists.{slice-there}
use Rattle.trace_run.proofs.syncs.SyncTold.{noted-there}
use Rattle.trace_run.proofs.syncs.SyncTurned.{AreToldOf, more-acts, more-noted, none-own, sync-of, sync-stood, sync_work, work-fits}

-- The pool is as it was, and has counted nothing since but one fork for each caller.
pub record IsUnused {P : Type 0} (pools : Ghosts P) (callers : ℕ) (old now : P) : Type 0 where
  pub size : pools.size now ≡ pools.size old
  pub told : pools.told now ≡ pools.told old
  pub reads : pools.reads now ≡ pools.reads old
  pub faults : pools.faults now ≡ pools.faults old
  pub others : pools.other_calls now ≡ counted_more callers (pools.other_calls old)

pub unused-by : {P : Type 0} (pools : Ghosts P) (g h : Config) (old now : P) → g ≡ h → LeavesPool pools old now → pools.reads now ≡ pools.reads old → pools.faults now ≡ pools.faults old
    → pools.other_calls now ≡ counted_more h.callers (pools.other_calls old) → IsUnused pools g.callers old now
unused-by pools g h old now same leaves reads faults others =
    record { size = leaves.size; told = leaves.told; reads = reads; faults = faults; others = others ∙ ap (λ (x : Config). counted_more x.callers (pools.other_calls old)) (sym same) }

-- just these cells and these blocks, which are this work
abbrev pub JustThese : Work → List OnHeap → List SyncItem → OfCells
JustThese work cells xs before tick v cs ys = (v ≡ work) × (cs ≡ cells) × (ys ≡ xs)

-- A sync of this tick took these cells, and noted and inserted these blocks, which are this work.
pub record SyncedThese (cache : Cache) (t : ℕ) (work : Work) (old new : Crew OnHeap) : Type 0 where
  pub cells : List OnHeap
  pub xs : List SyncItem
  pub joined : SyncsJoined cache t old.feeder old.parties.items new.feeder new.parties.items cells xs
  pub number : old.feeder.number ≡ cache.config.callers
  pub noted : work.noted ≡ noted_of cache.config.callers xs

-- the line was answered: it gave a capacity, or it is a sync that was done
abbrev pub AnsweredAs : {P : Type 0} → Cache → Ghosts P → Op → Reply → Work → (from to : BetweenGroups P) → (old new : Crew OnHeap) → Type 0
AnsweredAs cache pools op reply work from to old new =
    ((c : ℕ) × (op ≡ ops.Cap c) × (reply ≡ Capped c) × DidCap cache c from to old new (Ok reply))
    ⊎ ((t : ℕ) × (op ≡ ops.Txg t) × (these : SyncedThese cache t work old new) × SyncsGroup pools cache.config (JustThese work these.cells these.xs) [] t reply work from to)

-- the line is a sync that stopped for this reason
abbrev pub StoppedAs : {P : Type 0} → Ghosts P → Config → OfCells → Trace → List Reply → Work → Ending → (from : BetweenGroups P) → (after : P) → Type 0
StoppedAs pools config Cells trace replies work Whole from after = ⊥
StoppedAs pools config Cells trace replies work Fork from after = ⊥
StoppedAs pools config Cells trace replies work Sync from after = StopsSync pools config Cells trace replies [] work fault.PoolFault from after
StoppedAs pools config Cells trace replies work (Full need left) from after = StopsSync pools config Cells trace replies [] work (fault.PoolFull need left) from after

-- What a line that ends a group comes to where it is answered, behind these lines: what the feeder did for it, and what stands before the next group.
pub record Turned {P : Type 0} (cache : Cache) (pools : Ghosts P) (openings : List (List ℕ)) (before : List Line) (op : Op) (reply : Reply) (from to : BetweenGroups P) (old new : Crew OnHeap) : Type 0 where
  pub work : Work
  pub more : (shard : ℕ) → List Event
  pub so : EndsSo cache (record { op = op; reply = reply; work = work }) more old new
  pub leaves : LeavesFront pools from.next from.pool to.pool
  pub reads : pools.reads to.pool ≡ pools.reads from.pool
  pub faults : pools.faults to.pool ≡ pools.faults from.pool
  pub group : to.group ≡ suc from.group
  pub later : from.next ≤ to.next
  pub aligned : to.next % sector ≡ 0
  pub inside : to.next ≤ pools.size to.pool
  pub ends : EndsGroup pools cache.config (StoodSo openings cache.config new.feeder) before (Some (record { op = op; reply = reply; work = work })) from to
  pub is : AnsweredAs cache pools op reply work from to old new

-- And where it is a sync that stopped, so that the lines end before it.
pub record Halted {P : Type 0} (cache : Cache) (pools : Ghosts P) (trace : Trace) (replies : List Reply) (done : RunWork) (ending : Ending) (from : BetweenGroups P) (after : P) (old new : Crew OnHeap) : Type 0 where
  pub tick : ℕ
  pub work : Work
  pub more : (shard : ℕ) → List Event
  pub so : StopsSo cache tick work more old new
  pub stops : goes_on ending ≡ false
  pub begun : (ls : List Line) → groups_done ending ls ≡ groups_begun ls
  pub ended : EndsLines pools cache trace replies new.feeder (with_stop done work) ending from after
  pub ticks : (t : ℕ) → StoppedAt trace replies ending t → t ≡ tick
  pub these : SyncedThese cache tick work old new
  pub is : StoppedAs pools cache.config (JustThese work these.cells these.xs) trace replies work ending from after

-- ---- what a sync made

module _ (cache : Cache) (old new : Crew OnHeap) (number : old.feeder.number ≡ cache.config.callers) (kept : new.kept.items ≡ old.kept.items) (t : ℕ) (cells : List OnHeap) (xs : List SyncItem)
    (j : SyncsJoined cache t old.feeder old.parties.items new.feeder new.parties.items cells xs) where
  -- what all had seen of a cell as they joined is what the sync took
  sync-joined : (i : ℕ) → IsCell cache.config i → (all : List Seen) × JoinedCell cache.config i (sync_work cache.config.callers xs j.inserts) old new all
  sync-joined i range =
      let c = slice-there cells i (let n = j.count in omega (arith, range, n)) in
      let h : List CellEvent = c.0.value.history in (
        lines_of h,
        record {
          olds = j.known i c.0 c.1;
          level = j.noted i c.0 c.1 ∙ ap (λ (es : List CellEvent). lines_of h ++ lines_of es) (ap (λ (n : ℕ). synced_in n i xs) number ∙ sym (noted-there cache.config cache.config.callers i xs));
          fed = inr (h, refl, λ noted made. subst (λ (n : ℕ). done_by n h ≡ events_of_cell i noted) number (j.did.0 noted made i c.0 c.1));
        },
      )

  abbrev sync-made : MadeWork cache (sync_work cache.config.callers xs j.inserts) (λ shard. inserts_in cache.config t xs shard (j.front shard)) old new
  sync-made = record {
    lines = j.lines;
    parted = j.parted;
    level = j.level;
    kept = kept;
    number = j.number;
    about = j.about;
    alone = j.alone;
    stands = j.stands;
    settled = j.settled number;
    front = j.front;
    seen = j.seen;
    own = j.own;
    others = j.others;
    since = j.since;
    others_since = j.others_since;
    behind = j.behind;
    told = λ acts noted told. subst (λ (n : ℕ). HasToldOthers cache.config (acts ++ acts_of_events j.inserts) (noted ++ noted_of n xs) new.feeder) number (j.told acts noted told);
    met = j.met;
    joined = sync-joined;
    keeps = j.keeps;
    inserted = more-acts cache t old.feeder old.parties.items new.feeder new.parties.items cells xs j;
  }

-- ---- the line

module _ {P : Type 0} (cache : Cache) (pools : Ghosts P) (openings : List (List ℕ)) (before : List Line) (from to : BetweenGroups P) (old new : Crew OnHeap) (so_far : AreToldOf cache before old) (knows : Knows openings old.feeder) (kept : new.kept.items ≡ old.kept.items) (lines : ℕ) (may : MaySync pools lines from) where
  cap-turned : (c : ℕ) (reply : Reply) → reply ≡ Capped c → DidCap cache c from to old new (Ok reply) → Turned cache pools openings before (ops.Cap c) reply from to old new
  cap-turned c reply is d =
      let pool : to.pool ≡ from.pool = ap (λ (s : BetweenGroups P). s.pool) d.stays in
      let next : to.next ≡ from.next = ap (λ (s : BetweenGroups P). s.next) d.stays in
      subst (λ (r : Reply). Turned cache pools openings before (ops.Cap c) r from to old new) (sym is) record {
        work = no_work;
        more = resizes_in cache.config.shards cache.config.callers c;
        so = cap-ends cache c old new so_far.number d.resized kept;
        leaves = subst (LeavesFront pools from.next from.pool) (sym pool) (front-same pools from.next from.pool);
        reads = ap pools.reads pool;
        faults = ap pools.faults pool;
        group = ap (λ (s : BetweenGroups P). s.group) d.stays;
        later = omega (arith, next);
        aligned = ap (λ (n : ℕ). n % sector) next ∙ may.aligned;
        inside = let size : pools.size to.pool ≡ pools.size from.pool = ap pools.size pool in omega (arith, next, size, may.inside);
        ends = d.stays;
        is = inl (c, refl, refl, subst (λ (r : Reply). DidCap cache c from to old new (Ok r)) is d);
      }

  ok-is : (a b : Reply) → ◌≡◌ {A = Result Reply Ending} (Ok a) (Ok b) → a ≡ b
  ok-is a b is = cc

  never-both : (a : Reply) (b : Ending) → ◌≡◌ {A = Result Reply Ending} (Ok a) (Err b) → ⊥
  never-both a b is = cc

  sync-turned : (t : ℕ) (reply : Reply) → DidSync cache pools t from to old new (Ok reply) → Turned cache pools openings before (ops.Txg t) reply from to old new
  sync-turned t reply did = go did.sync did.synced did.told
    where
      go : (sync : Result SyncAnswer SyncFault) → SyncedJoined pools cache from.group t from.next from.pool to.pool old.feeder old.parties.items new.feeder new.parties.items sync → TellsSync from to sync (Ok reply)
          → Turned cache pools openings before (ops.Txg t) reply from to old new
      go (Ok done) s told =
          let o = sync-of pools cache from.group t from.next from.pool to.pool old.feeder old.parties.items new.feeder new.parties.items (Ok done) refl s in
          let j = o.joined in
          let need = s.next_is in
          let fits = s.fits in
          let size = s.outside.size in
          let work = sync_work cache.config.callers o.xs j.inserts in
          subst (λ (r : Reply). Turned cache pools openings before (ops.Txg t) r from to old new) (sym (ok-is reply (Synced from.group done.blocks done.bytes) told.0)) record {
            work = work;
            more = λ shard. inserts_in cache.config t o.xs shard (j.front shard);
            so = record {
              made = sync-made cache old new so_far.number kept t o.cells o.xs j;
              end = inr (inl (t, from.group, done.blocks, done.bytes, refl, refl));
              ends = refl;
              fits = work-fits cache t old.feeder old.parties.items new.feeder new.parties.items o.cells o.xs j;
              feeds = λ shard below. none-own cache t old.feeder old.parties.items new.feeder new.parties.items o.cells o.xs j shard;
              here = λ shard below. more-noted cache t old.feeder old.parties.items new.feeder new.parties.items o.cells o.xs j shard;
            };
            leaves = did.leaves;
            reads = s.outside.reads;
            faults = s.outside.faults;
            group = told.1;
            later = omega (arith, told.2, need);
            aligned = ap (λ (n : ℕ). n % sector) told.2 ∙ told.3;
            inside = omega (arith, told.2, need, fits, size, may.inside);
            ends = record {
              done = done;
              answer = o.answers (StoodSo openings cache.config new.feeder before t (sync_work cache.config.callers o.xs j.inserts)) (sync-stood cache openings before old so_far knows t new.feeder new.parties.items o.cells o.xs j);
              replied = refl;
              group = told.1;
              next = told.2;
            };
            is = inr (
              t,
              refl,
              record { cells = o.cells; xs = o.xs; joined = j; number = so_far.number; noted = refl },
              record { done = done; answer = o.answers (JustThese work o.cells o.xs [] t work) (refl, refl, refl); replied = refl; group = told.1; next = told.2 },
            );
          }
      go (Err fault.PoolFault) s told = absurd (never-both reply Sync told)
      go (Err (fault.PoolFull need left)) s told = absurd (never-both reply (Full need left) told)
      go (Err fault.NoMemory) s told = absurd told

  pub end-turned : (op : Op) (reply : Reply) → DidEndLine cache pools op from to old new (Ok reply) → Turned cache pools openings before op reply from to old new
  end-turned op reply ended = go ended.did
    where
      go : ((c : ℕ) × (op ≡ ops.Cap c) × DidCap cache c from to old new (Ok reply)) ⊎ ((t : ℕ) × (op ≡ ops.Txg t) × DidSync cache pools t from to old new (Ok reply)) → Turned cache pools openings before op reply from to old new
      go (inl cap) = subst (λ (o : Op). Turned cache pools openings before o reply from to old new) (sym cap.1) (cap-turned cap.0 reply (ok-is reply (Capped cap.0) cap.2.answer) cap.2)
      go (inr sync) = subst (λ (o : Op). Turned cache pools openings before o reply from to old new) (sym sync.1) (sync-turned sync.0 reply sync.2)

module _ {P : Type 0} (cache : Cache) (pools : Ghosts P) (trace : Trace) (replies : List Reply) (done : RunWork) (from to : BetweenGroups P) (old new : Crew OnHeap) (so_far : AreToldOf cache done.lines old) (knows : Knows (openings_of trace) old.feeder) (kept : new.kept.items ≡ old.kept.items) where
  err-is : (a b : Ending) → ◌≡◌ {A = Result Reply Ending} (Err a) (Err b) → a ≡ b
  err-is a b is = cc

  never-ok : (a : Reply) (b : Ending) → ◌≡◌ {A = Result Reply Ending} (Err b) (Ok a) → ⊥
  never-ok a b is = cc

  tick-is : (a b : ℕ) → ◌≡◌ {A = Option Op} (Some (ops.Txg a)) (Some (ops.Txg b)) → a ≡ b
  tick-is a b is = cc

  module _ (t : ℕ) (at : slice_get trace.ops (length replies) ≡ Some (ops.Txg t)) (cells : List OnHeap) (xs : List SyncItem) (j : SyncsJoined cache t old.feeder old.parties.items new.feeder new.parties.items cells xs) where
    abbrev did-work : Work
    did-work = sync_work cache.config.callers xs j.inserts

    sync-stops : StopsSo cache t did-work (λ shard. inserts_in cache.config t xs shard (j.front shard)) old new
    sync-stops = record {
      made = sync-made cache old new so_far.number kept t cells xs j;
      fits = work-fits cache t old.feeder old.parties.items new.feeder new.parties.items cells xs j;
      none = λ shard below. none-own cache t old.feeder old.parties.items new.feeder new.parties.items cells xs j shard;
      here = λ shard below. more-noted cache t old.feeder old.parties.items new.feeder new.parties.items cells xs j shard;
    }

    abbrev synced-these : SyncedThese cache t did-work old new
    synced-these = record { cells = cells; xs = xs; joined = j; number = so_far.number; noted = refl }

    abbrev Just : List OnHeap → List SyncItem → Type 0
    Just = JustThese did-work cells xs [] t did-work

    abbrev So : List OnHeap → List SyncItem → Type 0
    So = StoodSo (openings_of trace) cache.config new.feeder done.lines t did-work

    stood : So cells xs
    stood = sync-stood cache (openings_of trace) done.lines old so_far knows t new.feeder new.parties.items cells xs j

  sync-halted : (t : ℕ) (ending : Ending) → slice_get trace.ops (length replies) ≡ Some (ops.Txg t) → DidSync cache pools t from to old new (Err ending) → Halted cache pools trace replies done ending from to.pool old new
  sync-halted t ending at did = go did.sync did.synced did.told
    where
      go : (sync : Result SyncAnswer SyncFault) → SyncedJoined pools cache from.group t from.next from.pool to.pool old.feeder old.parties.items new.feeder new.parties.items sync → TellsSync from to sync (Err ending)
          → Halted cache pools trace replies done ending from to.pool old new
      go (Ok answer) s told = absurd (never-ok (Synced from.group answer.blocks answer.bytes) ending told.0)
      go (Err fault.PoolFault) s told =
          let o = sync-of pools cache from.group t from.next from.pool to.pool old.feeder old.parties.items new.feeder new.parties.items (Err fault.PoolFault) refl s in
          subst (λ (e : Ending). Halted cache pools trace replies done e from to.pool old new) (sym (err-is ending Sync told)) record {
            tick = t;
            work = did-work t at o.cells o.xs o.joined;
            more = λ shard. inserts_in cache.config t o.xs shard (o.joined.front shard);
            so = sync-stops t at o.cells o.xs o.joined;
            stops = refl;
            begun = λ ls. refl;
            ended = record { behind = record { tick = t; at = at }; answer = o.answers (So t at o.cells o.xs o.joined) (stood t at o.cells o.xs o.joined) };
            ticks = λ u is. tick-is u t (sym is ∙ at);
            these = synced-these t at o.cells o.xs o.joined;
            is = record { behind = record { tick = t; at = at }; answer = o.answers (Just t at o.cells o.xs o.joined) (refl, refl, refl) };
          }
      go (Err (fault.PoolFull need left)) s told =
          let o = sync-of pools cache from.group t from.next from.pool to.pool old.feeder old.parties.items new.feeder new.parties.items (Err (fault.PoolFull need left)) refl s in
          subst (λ (e : Ending). Halted cache pools trace replies done e from to.pool old new) (sym (err-is ending (Full need left) told)) record {
            tick = t;
            work = did-work t at o.cells o.xs o.joined;
            more = λ shard. inserts_in cache.config t o.xs shard (o.joined.front shard);
            so = sync-stops t at o.cells o.xs o.joined;
            stops = refl;
            begun = λ ls. refl;
            ended = record { behind = record { tick = t; at = at }; answer = o.answers (So t at o.cells o.xs o.joined) (stood t at o.cells o.xs o.joined) };
            ticks = λ u is. tick-is u t (sym is ∙ at);
            these = synced-these t at o.cells o.xs o.joined;
            is = record { behind = record { tick = t; at = at }; answer = o.answers (Just t at o.cells o.xs o.joined) (refl, refl, refl) };
          }
      go (Err fault.NoMemory) s told = absurd told

  pub end-halted : (op : Op) (ending : Ending) → slice_get trace.ops (length replies) ≡ Some op → DidEndLine cache pools op from to old new (Err ending) → Halted cache pools trace replies done ending from to.pool old new
  end-halted op ending at ended = go ended.did
    where
      go : ((c : ℕ) × (op ≡ ops.Cap c) × DidCap cache c from to old new (Err ending)) ⊎ ((t : ℕ) × (op ≡ ops.Txg t) × DidSync cache pools t from to old new (Err ending)) → Halted cache pools trace replies done ending from to.pool old new
      go (inl cap) = absurd (never-ok (Capped cap.0) ending cap.2.answer)
      go (inr sync) = sync-halted sync.0 ending (at ∙ ap (λ (o : Op). Some o) sync.1) sync.2
