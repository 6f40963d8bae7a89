-- The run of one caller, line by line: what its report says of the pool and of the cache device.
use Rattle.std.proofs.Common.{◌≡◌, ℕ, ◌<◌, List, [], length, take, drop, Option, sym, subst, arith}
use Rattle.std.specs.Prelude.{slice_index_or}
use Rattle.std.proofs.lemmas.List.{length-map}
use Rattle.arc_core.specs.Config.{IsConfig}
use Rattle.arc_core.specs.declared.config.Config.{Config}
use Rattle.arc_core.specs.declared.event.Event.{Event}
use Rattle.arc_core.specs.declared.served.Restored.{Restored}
use Rattle.arc_core.specs.ShardLog.{ShardLog}
use Rattle.arc_table.specs.Ended.{Ended}
use Rattle.arc_table.specs.Cache.{Cache}
use Rattle.arc_table.specs.TableLaws.{within}
use Rattle.arc_table.proofs.TableLaws.{there}
use Rattle.dbuf_cells.specs.Turns.{OnHeap, dbuf_meanings}
use Rattle.vdev_io.specs.declared.device.CacheDev.{Ghosts as Devices}
use Rattle.vdev_io.specs.declared.pool.Pool.{Ghosts}
use Rattle.trace_text.specs.declared.op.Op.{Op}
use Rattle.trace_text.specs.declared.reply.Reply.{Reply}
use Rattle.trace_text.specs.declared.trace.Trace.{Trace}
use Rattle.trace_text.specs.Grammar.{IsFormed}
use Rattle.trace_run.specs.declared.device.Device.{Device}
use Rattle.trace_run.specs.Devices.{lent_in}
use Rattle.trace_run.specs.Restores.{found_keys}
use Rattle.trace_run.specs.declared.groups.Crew.{Crew}
use Rattle.trace_run.specs.declared.ran.Ending.{Ending}
use Rattle.trace_run.specs.one_caller.Alone.{histories_of}
use Rattle.trace_run.specs.RunWork.{RunWork}
use Rattle.trace_run.specs.callers.GroupRun.{HaveClosed}
use Rattle.trace_run.specs.callers.Groups.{HaveCome}
use Rattle.trace_run.specs.callers.Together.{report_of_closed, AreCut, IsCutLast, between_groups}
use Rattle.trace_run.proofs.theorem.RunEnds.{ended-work, run-counted, run-cut, run-cut-last, HaveMade}
use Rattle.trace_text.specs.declared.rebuilt.Rebuilt.{Rebuilt}
use Rattle.trace_run.specs.one_caller.InTurn.{AreDoneInTurn, RunsInTurn}
use Rattle.trace_run.specs.one_caller.Sequence.{AreInSequence, begins_so}
use Rattle.trace_run.proofs.theorem.SequenceClose.{closes-there}
use Rattle.trace_run.proofs.theorem.TogetherRun.{group-together, index-history, place-is, explained, explained-made, owner-is}

module _ {P D : Type 0} (cache : Cache) (pools : Ghosts P) (devices : Devices D) (before after : P) (place : ℕ) (trace : Trace) (formed : IsFormed trace) (config : cache.config ≡ trace.config) (valid : IsConfig cache.config) (one : cache.config.callers ≡ 1)
    (was is : Device D) (ending : Ending) (restored : List Restored) (rs : List Reply) (work : RunWork) (crew : Crew OnHeap) (d : AreDoneInTurn cache restored pools devices trace (between_groups before 1 place) after was is ending rs work crew)
    (closed : Ended OnHeap) (h : HaveClosed dbuf_meanings cache crew closed) where
  abbrev os : List Op
  os = take (length rs) trace.ops

  abbrev more : List Op
  more = drop (length rs) trace.ops

  abbrev come : HaveCome cache restored (pools.size before) (pools.told before) place trace.blocks os rs work crew
  come = d.done.reached.come

  abbrev pub done-work : RunWork
  done-work = ended-work cache valid restored (pools.size before) (pools.told before) place trace.blocks os more rs work crew come closed h

  -- the owners of events, and that each party made what it is the owner of
  abbrev owner : (shard place : ℕ) → ℕ
  owner = (explained cache pools devices before after place trace formed config valid was is ending restored rs work crew d.done closed h).owner

  made : HaveMade cache valid restored (pools.size before) (pools.told before) place trace.blocks os more rs work crew come closed h owner
  made = (explained-made cache pools devices before after place trace formed config valid was is ending restored rs work crew d.done closed h).1

  pub runs-in-turn : (rebuilt : Option Rebuilt) → found_keys rebuilt ≡ restored → RunsInTurn pools devices before after (lent_in was) (lent_in is) place trace ending done-work owner closed.cells (report_of_closed ending rebuilt rs closed)
  runs-in-turn rebuilt found = record {
    reached = d.at;
    lines = subst (λ (l : List Restored). AreInSequence pools devices trace work.lines work.feeds (begins_so trace.config l (between_groups before 1 place) (lent_in was)) d.at) (sym found) d.lines;
    last_line = d.last;
    ended = d.ends;
    handed_back = d.device;
    closes = closes-there cache valid restored (pools.size before) (pools.told before) place trace.blocks os more rs work crew come closed h trace config one d.done.reached.knows d.last d.stands;
    unfed = d.unfed;
    counted = run-counted cache valid restored (pools.size before) (pools.told before) place trace.blocks os more rs work crew come closed h 0 (omega (arith, one));
    cut = λ shard below.
        let l = there closed.shards shard (subst (λ (n : ℕ). shard < n) (length-map closed.shards (λ (log : ShardLog). log.history)) below) in
        let here : slice_index_or (histories_of closed) shard [] ≡ l.0.history = index-history closed.shards shard l.0 l.1 in
        subst (λ (x : Config × List Event × List Restored). AreCut x.0 x.2 trace.blocks shard (owner shard) done-work x.1) (λ i. (config i, sym here i, sym found i))
        (run-cut cache valid restored (pools.size before) (pools.told before) place trace.blocks os more rs work crew come closed h owner made shard l.0 l.1);
    last = λ t stopped shard below.
        let l = there closed.shards shard (subst (λ (n : ℕ). shard < n) (length-map closed.shards (λ (log : ShardLog). log.history)) below) in
        let here : slice_index_or (histories_of closed) shard [] ≡ l.0.history = index-history closed.shards shard l.0 l.1 in
        let inside : shard < cache.config.shards = subst (λ (n : ℕ). shard < n) h.ends.shards (within closed.shards shard l.0 l.1) in
        subst (λ (x : Config × List Event × List Restored). IsCutLast x.0 x.2 trace.blocks shard (owner shard) t done-work x.1) (λ i. (config i, sym here i, sym found i))
        (run-cut-last cache valid restored (pools.size before) (pools.told before) place trace.blocks os more rs work crew come closed h owner made shard t l.0 l.1 (d.done.last t stopped shard inside (owner shard)));
  }

  -- with the place that the run names
  pub runs-at : (rebuilt : Option Rebuilt) → found_keys rebuilt ≡ restored
      → RunsInTurn pools devices before after (lent_in was) (lent_in is) (group-together cache pools devices before after place trace formed config valid was is ending restored rs work crew d.done closed h).place trace ending done-work (group-together cache pools devices before after place trace formed config valid was is ending restored rs work crew d.done closed h).explained.owner closed.cells (report_of_closed ending rebuilt rs closed)
  runs-at rebuilt found = subst (λ (x : ℕ × ((shard place : ℕ) → ℕ)). RunsInTurn pools devices before after (lent_in was) (lent_in is) x.0 trace ending done-work x.1 closed.cells (report_of_closed ending rebuilt rs closed))
      (λ i. (sym (place-is cache pools devices before after place trace formed config valid was is ending restored rs work crew d.done closed h) i, sym (owner-is cache pools devices before after place trace formed config valid was is ending restored rs work crew d.done closed h) i)) (runs-in-turn rebuilt found)
