-- One caller before its first line: all parties have seen the restores of the keys that were found, and nothing else.
use Rattle.std.proofs.Common.{◌≡◌, ℕ, List, [], ◌∷◌, ◌++◌, length, map, refl, ap, ◌∙◌, subst}
use Rattle.std.specs.List.{AllByRecursion}
use Rattle.vdev_io.specs.declared.device.CacheDev.{Ghosts as Devices}
use Rattle.vdev_io.specs.declared.pool.Pool.{Ghosts}
use Rattle.arc_core.specs.declared.config.Config.{Config}
use Rattle.arc_core.specs.declared.served.Restored.{Restored}
use Rattle.arc_table.specs.Cache.{Cache}
use Rattle.arc_table.specs.Fronts.{front_of}
use Rattle.arc_table.specs.Seen.{turn_of}
use Rattle.arc_table.specs.declared.about.About.{About}
use Rattle.arc_table.specs.declared.view.Line.{Line as Seen}
use Rattle.dbuf_cells.specs.Turns.{OnHeap, PartyPlace}
use Rattle.trace_text.specs.declared.trace.Trace.{Trace}
use Rattle.trace_run.specs.declared.device.Device.{Device}
use Rattle.trace_run.specs.declared.groups.Crew.{Crew}
use Rattle.trace_run.specs.declared.kept_blocks.KeptBlock.{KeptBlock}
use Rattle.trace_run.specs.Devices.{lent_in}
use Rattle.trace_run.specs.KeptBlocks.{read_of}
use Rattle.trace_run.specs.Meeting.{HaveParted, IsLevel, MadeJoined, SeesEntries}
use Rattle.trace_run.specs.Opened.{AreOpened}
use Rattle.trace_run.specs.Openings.{AllKnow, Knows, openings_of}
use Rattle.trace_run.specs.Restores.{restores_in}
use Rattle.trace_run.specs.RunWork.{plain_work}
use Rattle.trace_run.specs.callers.Groups.{AreBetween, KeepNothing, MaySync}
use Rattle.trace_run.specs.callers.Together.{BetweenGroups, IsFirstPlace}
use Rattle.trace_run.specs.one_caller.InTurn.{HaveComeInTurn, StandAt}
use Rattle.trace_run.specs.one_caller.Sequence.{BetweenLines, begins_so}
use Rattle.trace_run.proofs.callers.GroupsLemmas.{all-opened}
use Rattle.trace_run.proofs.callers.MeetLemmas.{all-before}
use Rattle.trace_run.proofs.callers.StepLemmas.{between-begun}
use Rattle.trace_run.proofs.one_caller.StandLemmas.{stand-behind}
use Rattle.trace_run.proofs.theorem.DeviceUsed.{back-same}

-- what all knew they know once they have parted
pub parted-know : (cache : Cache) (openings : List (List ℕ)) (lines : ℕ → List Seen) (os xs : List PartyPlace) → HaveParted cache lines os xs → AllKnow openings os → AllKnow openings xs
parted-know cache openings lines [] [] parted know = tt
parted-know cache openings lines [] (x ∷ xs) parted know = absurd parted
parted-know cache openings lines (o ∷ os) [] parted know = absurd parted
parted-know cache openings lines (o ∷ os) (x ∷ xs) parted know = (ap (λ (a : About). a.openings) parted.0.about ∙ know.0, parted-know cache openings lines os xs parted.1 know.1)

keep-none : (ks : List (List KeptBlock)) → KeepNothing ks → AllByRecursion (λ reads. map read_of reads ≡ []) ks
keep-none [] none = tt
keep-none (k ∷ ks) none = (ap (map read_of) none.0, keep-none ks none.1)

module _ {P D : Type 0} (cache : Cache) (restored : List Restored) (pools : Ghosts P) (devices : Devices D) (trace : Trace) (start : BetweenGroups P) (was : Device D) (whole : List PartyPlace) (old new : Crew OnHeap) (opened : AreOpened cache whole)
    (is : whole ≡ old.parties.items ++ old.feeder ∷ []) (none : KeepNothing old.kept.items) (many : length old.kept.items ≡ length old.parties.items)
    (made : MadeJoined cache (restores_in cache.config restored) old.feeder old.parties.items new.feeder new.parties.items) (kept : new.kept.items ≡ old.kept.items) (knows : AllKnow (openings_of trace) whole) where
  -- before the restores
  abbrev nothing : BetweenLines P D
  nothing = record { outside = start; device = lent_in was; shards = λ shard. []; cells = λ i. []; kept = [] }

  stands-new : StandAt cache.config nothing old
  stands-new =
      let level = all-opened cache whole old opened is (IsLevel cache.config (λ shard. [])) (λ n p new_one shard. ap (front_of (turn_of cache.config shard)) new_one.new.seen) in
      let entries = all-opened cache whole old opened is (SeesEntries cache.config (λ i. [])) (λ n p new_one i in_range. ap (front_of i) new_one.new.seen) in
      record { lines = λ shard. []; events = λ shard. refl; level = (level.1, level.0); entries = (entries.1, entries.0); kept = keep-none old.kept.items none }

  stands-begun : StandAt cache.config (begins_so cache.config restored start (lent_in was)) new
  stands-begun = stand-behind cache (restores_in cache.config restored) old new made nothing stands-new (begins_so cache.config restored start (lent_in was)) (λ shard. refl) (λ i in_range. refl) refl kept

  all-knew : AllKnow (openings_of trace) old.parties.items × Knows (openings_of trace) old.feeder
  all-knew = all-before (Knows (openings_of trace)) old.parties.items old.feeder (subst (AllKnow (openings_of trace)) is knows)

  pub turn-begun : IsFirstPlace (pools.size start.pool) trace.blocks start.next → MaySync pools 0 start → cache.config ≡ trace.config → HaveComeInTurn cache restored pools devices trace start start was was [] (plain_work [] []) new
  turn-begun place may config =
      let between : AreBetween cache restored pools devices trace start start was was [] (plain_work [] []) new = between-begun cache restored pools devices trace start was whole old new opened is none many made kept all-knew.1 place may in
      record {
        reached = between.reached;
        goes_on = refl;
        may_sync = between.may_sync;
        knows = (ap (λ (a : About). a.openings) made.about ∙ all-knew.1, parted-know cache (openings_of trace) made.lines old.parties.items new.parties.items made.parted all-knew.0);
        at = begins_so trace.config restored start (lent_in was);
        pool = refl;
        device = refl;
        stands = subst (λ (g : Config). StandAt cache.config (begins_so g restored start (lent_in was)) new) config stands-begun;
        lines = (refl, refl);
        unfed = λ none. back-same devices (lent_in was) (lent_in was) refl;
      }
