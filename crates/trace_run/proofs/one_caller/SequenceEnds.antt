-- A line that ends a group, in one caller's sequence: a capacity, a sync, and a sync that stopped.
use Rattle.std.proofs.Common.{◌≡◌, ◌⊎◌, ℕ, suc, ◌+◌, ◌<◌, List, [], ◌∷◌, ◌++◌, map, Option, Some, Ok, refl, sym, ap, ◌∙◌, subst, inl, inr, arith, append-nil}
use Rattle.std.specs.Prelude.{slice_get, slice_index_or}
use Rattle.std.specs.List.{AllByRecursion}
use Rattle.std.proofs.lemmas.Option.{slice_get_within}
use Rattle.arc_core.specs.declared.config.Config.{Config}
use Rattle.arc_core.specs.declared.event.Event.{Event}
use Rattle.arc_table.specs.Cache.{Cache}
use Rattle.arc_table.specs.Fronts.{front_of}
use Rattle.arc_table.specs.Geometry.{IsCell}
use Rattle.arc_table.specs.Seen.{events_in}
use Rattle.arc_table.specs.declared.view.Line.{Line as Seen}
use Rattle.dbuf_cells.specs.Turns.{OnHeap, PartyPlace}
use Rattle.dbuf_state.specs.Numbers.{opening_numbers}
use Rattle.txg_sync.specs.Items.{SyncItem}
use Rattle.txg_sync.specs.Turns.{synced_in}
use Rattle.txg_sync.specs.declared.syncing.SyncFault.{SyncFault}
use Rattle.txg_sync.specs.declared.syncing.SyncFault.TheVariants as fault
use Rattle.vdev_io.specs.declared.device.CacheDev.{Ghosts as Devices}
use Rattle.vdev_io.specs.declared.pool.Pool.{Ghosts}
use Rattle.trace_text.specs.declared.op.Op.{Op}
use Rattle.trace_text.specs.declared.op.Op.TheVariants as ops
use Rattle.trace_text.specs.declared.reply.Reply.{Reply}
use Rattle.trace_text.specs.declared.reply.Reply.TheVariants.{Capped}
use Rattle.trace_text.specs.declared.trace.Trace.{Trace}
use Rattle.trace_run.specs.declared.groups.Crew.{Crew}
use Rattle.trace_run.specs.declared.kept_blocks.KeptBlock.{KeptBlock}
use Rattle.trace_run.specs.declared.ran.Ending.{Ending}
use Rattle.trace_run.specs.declared.ran.Ending.TheVariants.{Fork, Full, Sync, Whole}
use Rattle.trace_run.specs.Deeds.{Noted, events_of_cell}
use Rattle.trace_run.specs.KeptBlocks.{read_of}
use Rattle.trace_run.specs.Meeting.{Resized, SeesEntries, resizes_in}
use Rattle.trace_run.specs.dbufs.Objects.{Line, Work}
use Rattle.trace_run.specs.Openings.{Knows, opening_map, openings_of}
use Rattle.trace_run.specs.RunWork.{RunWork}
use Rattle.trace_run.specs.Syncing.{SyncsJoined, inserts_in, inserts_noted, lines_of, noted_of, AreHeldNew}
use Rattle.trace_run.specs.callers.Groups.{DidCap}
use Rattle.trace_run.specs.callers.Together.{BetweenGroups, StoppedAt, StopsSync, SyncsGroup, between_groups}
use Rattle.trace_run.specs.one_caller.InTurn.{GoInSequence, IsOfTrace, StandAt}
use Rattle.trace_run.specs.one_caller.Sequence.{BetweenLines, EndsThere, GoesOn, LeavesSynced, StopsThere, TakesCells, TheseCells}
use Rattle.trace_run.proofs.CellLemmas.{opening-at, opening-same}
use Rattle.trace_run.proofs.callers.EndLineLemmas.{Halted, JustThese, StoppedAs, SyncedThese, Turned}
use Rattle.trace_run.proofs.callers.MeetLemmas.{parted-level}
use Rattle.trace_run.proofs.callers.SyncRun.{lines-both, stops-sync-as, sync-as}
use Rattle.trace_run.proofs.deeds.ClosedDeeds.{entries-read}
use Rattle.trace_run.proofs.callers.GroupLists.{slice-there}
use Rattle.trace_run.proofs.syncs.SyncTold.{noted-there}
use Rattle.trace_run.proofs.syncs.SyncTurned.{noted-inserts}

-- ---- parties that stand level

-- of each cell all have seen this
all-entries : (g : Config) (entries : ℕ → List Seen) (xs : List PartyPlace) → ((i : ℕ) → IsCell g i → AllByRecursion (λ x. front_of i x.own.seen ≡ entries i) xs) → AllByRecursion (SeesEntries g entries) xs
all-entries g entries [] each = tt
all-entries g entries (x ∷ xs) each = ((λ i in_range. (each i in_range).0), all-entries g entries xs (λ i in_range. (each i in_range).1))

module _ {P D : Type 0} (trace : Trace) (cache : Cache) (config : cache.config ≡ trace.config) (old new : Crew OnHeap) (kept : new.kept.items ≡ old.kept.items) (at : BetweenLines P D) (stands : StandAt cache.config at old) where
  abbrev g : Config
  g = cache.config

  abbrev had : ℕ → List Seen
  had i = lines_of (at.cells i)

  same-kept : AllByRecursion (λ (reads : List KeptBlock). map read_of reads ≡ at.kept) new.kept.items
  same-kept = subst (AllByRecursion (λ (reads : List KeptBlock). map read_of reads ≡ at.kept)) (sym kept) stands.kept

  -- ---- a capacity

  module _ (c : ℕ) (r : Resized cache c old.feeder old.parties.items new.feeder new.parties.items) where
    abbrev capped : BetweenLines P D
    capped = record {
      outside = between_groups at.outside.pool (suc at.outside.group) at.outside.next;
      device = at.device;
      shards = λ shard. at.shards shard ++ resizes_in trace.config.shards trace.config.callers c shard;
      cells = at.cells;
      kept = at.kept;
    }

    capped-stands : StandAt cache.config capped new
    capped-stands = record {
      lines = r.lines;
      events = λ shard. ap events_in (sym (r.level shard)) ∙ (r.seen shard ∙ (λ i. (r.same stands.lines stands.level.0 stands.level.1 shard ∙ stands.events shard) i ++ resizes_in (config i).shards (config i).callers c shard));
      level = (r.level, parted-level cache r.lines old.parties.items new.parties.items r.parted);
      entries = r.same_cells had stands.entries.0 stands.entries.1;
      kept = same-kept;
    }

    capped-goes : GoesOn trace.config (resizes_in trace.config.shards trace.config.callers c) [] at capped
    capped-goes = record { shards = λ shard. refl; cells = λ i in_range. sym (append-nil (at.cells i)) }

  -- ---- a sync

  module _ (knows : Knows (openings_of trace) old.feeder) (t : ℕ) (work : Work) (these : SyncedThese cache t work old new) where
    abbrev xs : List SyncItem
    xs = these.xs

    abbrev j : SyncsJoined cache t old.feeder old.parties.items new.feeder new.parties.items these.cells these.xs
    j = these.joined

    abbrev synced : BetweenGroups P → BetweenLines P D
    synced pool = record {
      outside = pool;
      device = at.device;
      shards = λ shard. at.shards shard ++ inserts_noted trace.config t work.noted shard (at.shards shard);
      cells = λ i. at.cells i ++ events_of_cell i work.noted;
      kept = at.kept;
    }

    -- what it took of each cell is what the lines before it had done to it
    was-there : (i : ℕ) (c : OnHeap) → slice_get these.cells i ≡ Some c → lines_of c.value.history ≡ had i
    was-there = j.same_cells had stands.entries.0 stands.entries.1

    front : (shard : ℕ) → j.front shard ≡ at.shards shard
    front shard = j.same stands.lines stands.level.0 stands.level.1 shard ∙ stands.events shard

    inserts : (shard : ℕ) → inserts_in g t xs shard (at.shards shard) ≡ inserts_noted trace.config t work.noted shard (at.shards shard)
    inserts shard = sym (noted-inserts g t g.callers xs shard (at.shards shard)) ∙ (λ i. inserts_noted (config i) t (sym these.noted i) shard (at.shards shard))

    noted-is : (i : ℕ) → synced_in old.feeder.number i xs ≡ events_of_cell i work.noted
    noted-is i = ap (λ (n : ℕ). synced_in n i xs) these.number ∙ (sym (noted-there g g.callers i xs) ∙ ap (events_of_cell i) (sym these.noted))

    cell-there : (i : ℕ) → IsCell g i → (c : OnHeap) × (slice_get these.cells i ≡ Some c)
    cell-there i in_range = slice-there these.cells i (let n = j.count in omega (arith, in_range, n))

    feeder-sees : (i : ℕ) → IsCell g i → front_of i new.feeder.own.seen ≡ lines_of (at.cells i ++ events_of_cell i work.noted)
    feeder-sees i in_range =
        let c = cell-there i in_range in
        j.noted i c.0 c.1 ∙ ((λ k. was-there i c.0 c.1 k ++ lines_of (noted-is i k)) ∙ sym (lines-both (at.cells i) (events_of_cell i work.noted)))

    synced-stands : (pool : BetweenGroups P) → StandAt cache.config (synced pool) new
    synced-stands pool = record {
      lines = j.lines;
      events = λ shard. ap events_in (sym (j.level shard)) ∙ (j.seen shard ∙ ((λ i. front shard i ++ inserts_in g t xs shard (front shard i)) ∙ ap (λ (es : List Event). at.shards shard ++ es) (inserts shard)));
      level = (j.level, parted-level cache j.lines old.parties.items new.parties.items j.parted);
      entries = all-entries g (λ i. lines_of (at.cells i ++ events_of_cell i work.noted)) (new.feeder ∷ new.parties.items) (λ i in_range.
          let met = j.met i in_range in
          subst (λ (l : List Seen). AllByRecursion (λ (x : PartyPlace). front_of i x.own.seen ≡ l) (new.feeder ∷ new.parties.items)) (sym met.2.0 ∙ feeder-sees i in_range) met.2);
      kept = same-kept;
    }

    synced-leaves : (pool : BetweenGroups P) → LeavesSynced trace.config t work at (synced pool)
    synced-leaves pool = record {
      goes_on = record { shards = λ shard. refl; cells = λ i in_range. refl };
      held = λ shard.
          let noted : noted_of old.feeder.number xs ≡ work.noted = ap (λ (n : ℕ). noted_of n xs) these.number ∙ sym these.noted in
          subst (λ (y : Config × List Noted × List Event). AreHeldNew y.0 t y.1 shard y.2) (λ i. (config i, noted i, front shard i)) (j.held shard);
      device = refl;
      kept = refl;
    }

    takes : TakesCells trace at.cells work these.cells xs
    takes = record {
      many = j.count ∙ ap (λ (h : Config). h.cells) config;
      limit = λ i c is. (began i c is).0;
      opening = λ i c is. (began i c is).1;
      sound = j.sound;
      history = λ i c is. entries-read c.value.history (at.cells i) (was-there i c is);
      noted = these.noted ∙ ap (λ (h : Config). noted_of h.callers xs) config;
    }
      where
        opening : ℕ → List ℕ
        opening k = opening_numbers trace.config.dbuf_bytes (opening_map trace k)

        began : (i : ℕ) (c : OnHeap) → slice_get these.cells i ≡ Some c → (c.value.limit ≡ trace.config.dbuf_bytes) × (c.value.opening ≡ opening_map trace i)
        began i c is =
            let inside : i < trace.config.cells = subst (λ (h : Config). i < h.cells) config (let w = slice_get_within these.cells i c is in let n = j.count in omega (arith, w, n)) in
            let z : 0 + i ≡ i = omega arith in
            opening-same c.value.limit trace.config.dbuf_bytes c.value.opening (opening_map trace i) (j.began i c is ∙ (ap (λ (os : List (List ℕ)). slice_index_or os i []) knows ∙ (opening-at opening 0 trace.config.cells i inside ∙ ap opening z)))

    -- whoever says that it took just these cells says that it took those that stand there
    these-cells : (before : List Line) (tick : ℕ) (v : Work) (cs : List OnHeap) (ys : List SyncItem) → JustThese work these.cells xs before tick v cs ys → TheseCells trace at.cells before tick v cs ys
    these-cells before tick v cs ys is = subst (λ (x : Work × List OnHeap × List SyncItem). TakesCells trace at.cells x.0 x.1 x.2) (λ i. (sym is.0 i, sym is.1 i, sym is.2 i)) takes

-- ---- in its place

module _ {P D : Type 0} (cache : Cache) (pools : Ghosts P) (devices : Devices D) (trace : Trace) where
  -- where the parties stood is told of the trace's configuration
  of-cache : (at : BetweenLines P D) (crew : Crew OnHeap) → cache.config ≡ trace.config → StandAt trace.config at crew → StandAt cache.config at crew
  of-cache at crew config = subst (λ (h : Config). StandAt h at crew) (sym config)

  of-trace : (at : BetweenLines P D) (crew : Crew OnHeap) → cache.config ≡ trace.config → StandAt cache.config at crew → StandAt trace.config at crew
  of-trace at crew config = subst (λ (h : Config). StandAt h at crew) config

  module _ (openings : List (List ℕ)) (before : List Line) (op : Op) (reply : Reply) (from to : BetweenGroups P) (old new : Crew OnHeap) (turn : Turned cache pools openings before op reply from to old new) (is : IsOfTrace cache trace old) (lent : Option D) where
    abbrev Goes : Op → Type 0
    Goes o = GoInSequence pools devices trace (record { op = o; reply = reply; work = turn.work } ∷ []) [] from to lent lent old new

    kept-then : new.kept.items ≡ old.kept.items
    kept-then = turn.so.made.kept

    cap-goes : (c : ℕ) → reply ≡ Capped c → DidCap cache c from to old new (Ok reply) → Goes (ops.Cap c)
    cap-goes c replied did at pool device stood =
        let stands = of-cache at old is.config stood in
        let next = capped trace cache is.config old new kept-then at stands c did.resized in
        let stays : next.outside ≡ to = ap (λ (b : BetweenGroups P). between_groups b.pool (suc b.group) b.next) pool ∙ sym did.stays in (
          next,
          stays,
          device,
          of-trace next new is.config (capped-stands trace cache is.config old new kept-then at stands c did.resized),
          (next, [], [], refl, (refl, record { replied = replied; goes_on = capped-goes trace cache is.config old new kept-then at stands c did.resized; pool = refl; device = refl; kept = refl }), (refl, refl)),
        )

    sync-goes : (t : ℕ) (these : SyncedThese cache t turn.work old new) → SyncsGroup pools cache.config (JustThese turn.work these.cells these.xs) [] t reply turn.work from to → Goes (ops.Txg t)
    sync-goes t these did at pool device stood =
        let stands = of-cache at old is.config stood in
        let next = synced trace cache is.config old new kept-then at stands is.knows.0 t turn.work these to in
        let group = subst (λ (x : Config × BetweenGroups P). SyncsGroup pools x.0 (JustThese turn.work these.cells these.xs) [] t reply turn.work x.1 to) (λ i. (is.config i, sym pool i)) did in (
          next,
          refl,
          device,
          of-trace next new is.config (synced-stands trace cache is.config old new kept-then at stands is.knows.0 t turn.work these to),
          (
            next,
            [],
            [],
            refl,
            (
              refl,
              record {
                synced = sync-as pools trace.config (JustThese turn.work these.cells these.xs) (TheseCells trace at.cells) (these-cells trace cache is.config old new kept-then at stands is.knows.0 t turn.work these) [] t reply turn.work at.outside to group;
                leaves = synced-leaves trace cache is.config old new kept-then at stands is.knows.0 t turn.work these to;
              },
            ),
            (refl, refl),
          ),
        )

    pub turned-goes : Goes op
    turned-goes = go turn.is
      where
        go : ((c : ℕ) × (op ≡ ops.Cap c) × (reply ≡ Capped c) × DidCap cache c from to old new (Ok reply))
            ⊎ ((t : ℕ) × (op ≡ ops.Txg t) × (these : SyncedThese cache t turn.work old new) × SyncsGroup pools cache.config (JustThese turn.work these.cells these.xs) [] t reply turn.work from to) → Goes op
        go (inl cap) = subst Goes (sym cap.1) (cap-goes cap.0 cap.2 cap.3)
        go (inr sync) = subst Goes (sym sync.1) (sync-goes sync.0 sync.2 sync.3)

  module _ (replies : List Reply) (done : RunWork) (ending : Ending) (from : BetweenGroups P) (after : P) (old new : Crew OnHeap) (h : Halted cache pools trace replies done ending from after old new) (is : IsOfTrace cache trace old) (lent : Option D)
      (at : BetweenLines P D) (pool : at.outside ≡ from) (device : at.device ≡ lent) (stood : StandAt trace.config at old) where
    kept-there : new.kept.items ≡ old.kept.items
    kept-there = h.so.made.kept

    stands-there : StandAt cache.config at old
    stands-there = of-cache at old is.config stood

    abbrev last : BetweenLines P D
    last = synced trace cache is.config old new kept-there at stands-there is.knows.0 h.tick h.work h.these at.outside

    abbrev Just : List Line → ℕ → Work → List OnHeap → List SyncItem → Type 0
    Just = JustThese h.work h.these.cells h.these.xs

    -- it stopped for this reason
    stops-there : (why : SyncFault) (s : StopsSync pools cache.config Just trace replies [] h.work why from after) → s.behind.tick ≡ h.tick → StopsThere pools devices trace replies h.work why at after last
    stops-there why s tick =
        let there = subst (λ (x : Config × BetweenGroups P). StopsSync pools x.0 Just trace replies [] h.work why x.1 after) (λ i. (is.config i, sym pool i)) s in
        let same = stops-sync-as pools trace.config Just (TheseCells trace at.cells) (these-cells trace cache is.config old new kept-there at stands-there is.knows.0 h.tick h.work h.these) trace replies [] h.work why at.outside after there in
        record {
          stops = record { behind = s.behind; answer = same.answer };
          leaves = subst (λ (t : ℕ). LeavesSynced trace.config t h.work at last) (sym tick) (synced-leaves trace cache is.config old new kept-there at stands-there is.knows.0 h.tick h.work h.these at.outside);
        }

    pub halted-goes : (last : BetweenLines P D) × (last.device ≡ lent) × StandAt trace.config last new × EndsThere pools devices trace replies h.work ending at after last
    halted-goes = (last, device, of-trace last new is.config (synced-stands trace cache is.config old new kept-there at stands-there is.knows.0 h.tick h.work h.these at.outside), go ending h.is h.ticks)
      where
        go : (e : Ending) → StoppedAs pools cache.config Just trace replies h.work e from after → ((t : ℕ) → StoppedAt trace replies e t → t ≡ h.tick) → EndsThere pools devices trace replies h.work e at after last
        go Whole never ticks = absurd never
        go Fork never ticks = absurd never
        go Sync s ticks = stops-there fault.PoolFault s (ticks s.behind.tick s.behind.at)
        go (Full need left) s ticks = stops-there (fault.PoolFull need left) s (ticks s.behind.tick s.behind.at)
