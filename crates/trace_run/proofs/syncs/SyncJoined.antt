-- The feeder syncs while all other parties have joined it: what it and they are then. And where no line made a block dirty, nothing is written.
use Rattle.std.proofs.Common.{◌≡◌, ◌≢◌, ◌⊎◌, ℕ, zero, suc, ◌+◌, ◌<◌, true, false, List, [], ◌∷◌, ◌++◌, length, map, Option, Some, None, Result, Ok, Err, refl, sym, ap, ◌∙◌, subst, inl, inr, arith, Bool}
use Rattle.std.specs.Prelude.{slice_get, slice_index_or}
use Rattle.std.specs.List.{AllByRecursion}
use Rattle.std.proofs.lemmas.Bool.{false≢true}
use Rattle.std.proofs.lemmas.List.Elements.{All-from_recursion, recursion_from_All}
use Rattle.std.proofs.lemmas.List.Sorted.{All-permutation}
use Rattle.std.proofs.lemmas.Option.{slice_get_within}
use Rattle.arc_core.specs.declared.config.Config.{Config}
use Rattle.arc_core.specs.Operations.{Act, moments, own_moments}
use Rattle.turn_table.specs.Places.{SomeHas}
use Rattle.arc_table.specs.declared.view.Ledger.{Ledger}
use Rattle.arc_table.specs.declared.view.Line.{Line}
use Rattle.arc_table.specs.Cache.{Cache, IsPartyOf}
use Rattle.arc_table.specs.Fronts.{list_at, front_of, StartsWith}
use Rattle.arc_table.specs.Geometry.{IsCell, parties_of}
use Rattle.arc_table.specs.Seen.{HasAll, events_in, seen_of, turn_of, AreEntriesSeen}
use Rattle.arc_table.specs.Telling.{opening_of}
use Rattle.dbuf_cells.specs.Turns.{KeepsClaims, OnHeap, PartyPlace, dbuf_meanings}
use Rattle.dbuf_cells.specs.declared.kept.Kept.{Kept as Block}
use Rattle.dbuf_state.specs.Dbufs.{dirty_oids, is_clean, plain_block, plain_dbuf}
use Rattle.dbuf_state.specs.History.{Leads}
use Rattle.dbuf_state.specs.Objects.{PlainCell, PlainDbuf, opened, opening_cell}
use Rattle.dbuf_state.specs.Objects.{Uncached}
use Rattle.dbuf_state.specs.Soundness.{IsSound, plain_cell}
use Rattle.dbuf_state.specs.declared.dbuf.Content.{Content}
use Rattle.dbuf_state.specs.declared.dbuf.Content.TheVariants.{Clean, Dirty}
use Rattle.dbuf_state.specs.declared.dbuf.Dbuf.{Dbuf}
use Rattle.dbuf_state.specs.declared.event.CellEvent.{CellEvent}
use Rattle.dbuf_state.specs.declared.oid.Oid.{Oid}
use Rattle.dbuf_state.specs.declared.state.DbState.{DbState}
use Rattle.dbuf_state.specs.declared.state.Mapping.{Mapping}
use Rattle.txg_sync.specs.Items.{SyncItem, bytes_of_due, due_in, dues_from, items_from, need_of, tells_written}
use Rattle.txg_sync.specs.Syncing.{AnswersSync, AnswersWith, AreAllDirty, IsFull, IsUnharmed, RefusedAt, RefusedFirst, Same, StopsAt}
use Rattle.txg_sync.specs.declared.syncing.SyncFault.{SyncFault}
use Rattle.txg_sync.specs.declared.syncing.SyncFault.TheVariants as fault
use Rattle.txg_sync.specs.declared.syncing.Synced.{Synced}
use Rattle.vdev_io.specs.declared.pool.Pool.{Ghosts}
use Rattle.txg_sync.specs.Turns.{SyncsCells, synced_in}
use Rattle.txg_sync.specs.declared.due.Due.{Due}
use Rattle.trace_run.specs.callers.Group.{LeavesPool}
use Rattle.trace_run.specs.Deeds.{HasToldOthers, Noted, events_of_cell}
use Rattle.trace_run.specs.KeptBlocks.{Stands}
use Rattle.trace_run.specs.Making.{AreNoEntries}
use Rattle.trace_run.specs.Meeting.{AreLast, HasLearned, IsApart, JoinAll, PartAll}
use Rattle.trace_run.specs.Syncing.{SyncedJoined, SyncsJoined, inserts_in, lines_of, wants_memory, HasDoneTo, AreHeldNew, noted_of}
use Rattle.trace_run.proofs.CellEnds.{HasEndedSome, nothing-from}
use Rattle.trace_run.proofs.deeds.DeedLemmas.{all-both, others-still}
use Rattle.trace_run.proofs.deeds.MakesLemmas.{grown-same}
use Rattle.trace_run.proofs.EndSteps.{all-parted-then, have, last-from, last-stands, lines, one-front, parted, q-all, q-stands, untouched as untouched-by, keeps-left}
use Rattle.trace_run.proofs.syncs.SyncInserts.{HasInserted}
use Rattle.trace_run.proofs.syncs.SyncSteps.{AreFound, HasTaken, IsFound, all-taken}
use Rattle.trace_run.proofs.syncs.SyncWrites.{all-synced, cell-front, inserts, synced-cells, synced-front, synced-made, synced-mine, synced-picks, synced-shards, taken}
use Rattle.trace_run.proofs.syncs.SyncTold.{others-synced}
use Rattle.trace_run.proofs.callers.MeetLemmas.{HaveJoined, have-met, left_alone, parted_from, starts-events, joined_of}
use Rattle.trace_run.proofs.syncs.SyncOwned.{AreDoneFrom, DidSo, IsDone}
use Rattle.trace_run.specs.MadeLines.{made_from}
use Rattle.trace_run.specs.dbufs.CellEnds.{done_by}
use Rattle.trace_run.proofs.callers.MakerLemmas.{later-behind}

-- ---- cells to which nothing was done have no dirty block

clean-block : (c : Content) (s : DbState) (m : Mapping) → plain_block c s ≡ Uncached m.ptr → is_clean c ≡ true
clean-block (Clean ptr) s m is = refl
clean-block (Dirty bytes) s m is = cc

none-dirty : (ds : List (Dbuf Block)) (ms : List Mapping) → map plain_dbuf ds ≡ map opened ms → dirty_oids ds ≡ []
none-dirty [] ms is = refl
none-dirty (d ∷ ds) [] is = cc
none-dirty (d ∷ ds) (m ∷ ms) is =
    let first : plain_dbuf d ≡ opened m = cc in
    let rest : map plain_dbuf ds ≡ map opened ms = cc in
    rw (clean-block d.content d.state m (ap (λ (x : PlainDbuf). x.block) first)) (none-dirty ds ms rest)

-- of a sound cell with no history
pub none-dirty-in : (c : OnHeap) → IsSound c.value → c.value.history ≡ [] → dirty_oids c.value.dbufs ≡ []
none-dirty-in c sound none =
    let legal = subst (λ (h : List CellEvent). Leads (opening_cell c.value.limit c.value.opening) h sound.bases (plain_cell sound.evicting c.value)) none sound.history.legal in
    none-dirty c.value.dbufs c.value.opening (ap (λ (x : PlainCell). x.dbufs) legal.1)

no-dues : (i : ℕ) (cs : List OnHeap) (p : PartyPlace) → AreFound i p cs → AllByRecursion (λ c. c.value.history ≡ []) cs → dues_from i cs ≡ []
no-dues i [] p found none = refl
no-dues i (c ∷ cs) p found none = (λ z. map (due_in i) (none-dirty-in c found.0.sound none.0 z) ++ no-dues (suc i) cs p found.1 none.1 z)

pub none-among : (cells : List OnHeap) (dues : List Due) → dues_from 0 cells ≡ [] → AreAllDirty cells dues → dues ≡ []
none-among cells dues none dirty = nothing-from (dues_from 0 cells) dues none dirty.all

-- ---- the sync

-- each dirty block is of one of these cells
below-from : (i : ℕ) (cs : List OnHeap) → AllByRecursion (λ due. due.cell < i + length cs) (dues_from i cs)
below-from i [] = tt
below-from i (c ∷ cs) =
    let z : suc i + length cs ≡ i + suc (length cs) = omega arith in
    all-both (λ due. due.cell < i + length (c ∷ cs)) (map (due_in i) (dirty_oids c.value.dbufs)) (dues_from (suc i) cs) (here (dirty_oids c.value.dbufs))
    (subst (λ (n : ℕ). AllByRecursion (λ due. due.cell < n) (dues_from (suc i) cs)) z (below-from (suc i) cs))
  where
    here : (oids : List Oid) → AllByRecursion (λ due. due.cell < i + suc (length cs)) (map (due_in i) oids)
    here [] = tt
    here (at ∷ oids) = (omega arith, here oids)

-- each of these blocks is of one of the cells
module _ (g : Config) (cells : List OnHeap) (all : length cells ≡ g.cells) where
  dues-inside : (dues : List Due) → AreAllDirty cells dues → AllByRecursion (λ due. IsCell g due.cell) dues
  dues-inside dues dirty =
      let z : 0 + length cells ≡ length cells = omega arith in
      let below = subst (λ (n : ℕ). AllByRecursion (λ due. due.cell < n) (dues_from 0 cells)) z (below-from 0 cells) in
      subst (λ (n : ℕ). AllByRecursion (λ due. due.cell < n) dues) all
      (recursion_from_All (λ due. due.cell < length cells) dues (All-permutation (λ due. due.cell < length cells) (dues_from 0 cells) dues dirty.all (All-from_recursion (λ due. due.cell < length cells) (dues_from 0 cells) below)))

  front-inside : (done rest : List Due) → AllByRecursion (λ due. IsCell g due.cell) (done ++ rest) → AllByRecursion (λ due. IsCell g due.cell) done
  front-inside [] rest each = tt
  front-inside (due ∷ done) rest each = (each.0, front-inside done rest each.1)

  items-inside : (held : Due → Bool) (group place : ℕ) (dues : List Due) → AllByRecursion (λ due. IsCell g due.cell) dues → AllByRecursion (λ x. IsCell g x.due.cell) (items_from held group place cells dues)
  items-inside held group place [] each = tt
  items-inside held group place (due ∷ dues) each = (each.0, items-inside held group (place + length (bytes_of_due cells due)) dues each.1)

module _ (cache : Cache) (p : PartyPlace) (others : List PartyPlace) (stands : Stands cache p []) (alone : p.joined ≡ [])
    (apart : AllByRecursion (IsApart cache) others) (everyone : (n : ℕ) → n < parties_of cache.config → SomeHas n (p ∷ others)) (count : p.parties ≡ parties_of cache.config)
    (differ : AllByRecursion (λ o. o.number ≢ p.number) others) (q : PartyPlace) (joins : JoinAll dbuf_meanings others p q) where
  abbrev g : Config
  g = cache.config

  stood : Stands cache q []
  stood = q-stands cache p others stands alone apart everyone count differ q joins

  has-all : HasAll q
  has-all = q-all cache p others stands alone apart everyone count differ q joins

  abbrev met : HaveJoined dbuf_meanings cache p others q
  met = have cache p others stands alone apart everyone count differ q joins

  -- ---- whatever is dirty

  module _ (feeder : p.number ≡ g.callers) (r : PartyPlace) (of : IsPartyOf cache r) (free : r.held ≡ []) (claims : KeepsClaims q r) (numbers : List ℕ) (numbers_are : numbers ≡ map (λ o. o.number) others) (tick : ℕ) where
    low : q.number < parties_of g
    low = let n = met.number in omega (arith, n, feeder)

    found-at : (i k : ℕ) (cs : List OnHeap) (c : OnHeap) → AreFound i q cs → slice_get cs k ≡ Some c → IsFound (i + k) q c
    found-at i k [] c found at = cc
    found-at i zero (x ∷ cs) c found at =
        let is : x ≡ c = cc in
        let z : i ≡ i + zero = omega arith in
        subst (λ (y : ℕ × OnHeap). IsFound y.0 q y.1) (λ w. (z w, is w)) found.0
    found-at i (suc k) (x ∷ cs) c found at =
        let z : suc i + k ≡ i + suc k = omega arith in
        subst (λ (n : ℕ). IsFound n q c) z (found-at (suc i) k cs c found.1 at)

    done-at : (i k : ℕ) (cs : List OnHeap) (c : OnHeap) → AreDoneFrom g i q cs → slice_get cs k ≡ Some c → IsDone g (i + k) q c
    done-at i k [] c done at = cc
    done-at i zero (x ∷ cs) c done at =
        let is : x ≡ c = cc in
        let z : i ≡ i + zero = omega arith in
        subst (λ (y : ℕ × OnHeap). IsDone g y.0 q y.1) (λ w. (z w, is w)) done.0
    done-at i (suc k) (x ∷ cs) c done at =
        let z : suc i + k ≡ i + suc k = omega arith in
        subst (λ (n : ℕ). IsDone g n q c) z (done-at (suc i) k cs c done.1 at)

    -- what those had done that joined
    all-done : (cells : List OnHeap) (os : List PartyPlace) → AllByRecursion (IsApart cache) os
        → ((i : ℕ) (c : OnHeap) → slice_get cells i ≡ Some c → IsCell g i × AllByRecursion (λ k. AreEntriesSeen g k.number k.view.mine k.view.seen → DidSo k.number (made_from i 0 k.view.mine (front_of i k.view.seen)) c) (joined_of os))
        → AllByRecursion (HasDoneTo g cells) os
    all-done cells [] apart each = tt
    all-done cells (o ∷ os) apart each = (
      (λ noted made i c at. let h = each i c at in h.1.0 apart.0.1.cells.own (events_of_cell i noted) (made i h.0)),
      all-done cells os apart.1 (λ i c at. let h = each i c at in (h.0, h.1.1)),
    )

    none-at : (k : ℕ) (cs : List OnHeap) (c : OnHeap) → AllByRecursion (λ x. x.value.history ≡ []) cs → slice_get cs k ≡ Some c → c.value.history ≡ []
    none-at k [] c none at = cc
    none-at zero (x ∷ cs) c none at = let is : x ≡ c = cc in subst (λ (y : OnHeap). y.value.history ≡ []) is none.0
    none-at (suc k) (x ∷ cs) c none at = none-at k cs c none.1 at

    index-at : (k : ℕ) (cs : List OnHeap) (c : OnHeap) → slice_get cs k ≡ Some c → slice_index_or cs k c ≡ c
    index-at k [] c at = cc
    index-at zero (x ∷ cs) c at = cc
    index-at (suc k) (x ∷ cs) c at = index-at k cs c at

    all-own : (shard : ℕ) (os : List PartyPlace) → AllByRecursion (λ o. HasLearned g o q) os
        → AllByRecursion (λ o. own_moments o.number (moments (opening_of g) (seen_of g shard q)) ≡ own_moments o.number (moments (opening_of g) (seen_of g shard o))) os
    all-own shard [] learned = tt
    all-own shard (o ∷ os) learned = (learned.0.own shard, all-own shard os learned.1)

    all-since : (shard : ℕ) (os : List PartyPlace) → AllByRecursion (λ o. HasLearned g o q) os → AllByRecursion (λ o. StartsWith (seen_of g shard q) (seen_of g shard o)) os
    all-since shard [] learned = tt
    all-since shard (o ∷ os) learned = (starts-events (front_of (turn_of g shard) q.own.seen) (front_of (turn_of g shard) o.own.seen) (learned.0.starts shard), all-since shard os learned.1)

    all-cells : (i : ℕ) (lines : List Line) → IsCell g i → front_of i q.own.seen ≡ lines → (os : List PartyPlace) → AllByRecursion (λ o. HasLearned g o q) os → AllByRecursion (λ o. StartsWith lines (front_of i o.own.seen)) os
    all-cells i lines in_range is [] learned = tt
    all-cells i lines in_range is (o ∷ os) learned = (subst (λ (l : List Line). StartsWith l (front_of i o.own.seen)) is (learned.0.cells i in_range), all-cells i lines in_range is os learned.1)

    -- to have joined is nothing that is told
    met-told : (did : List Act) (had : List Noted) → HasToldOthers g did had p → HasToldOthers g did had q
    met-told did had before = others-still g did had p q (grown-same g p q met.number met.about met.mine met.self.starts met.self.cells stands.seen stands.cells) before

    module _ (cells : List OnHeap) (xs : List SyncItem) (s : SyncsCells g tick cells xs Same q r) (inside : AllByRecursion (λ x. IsCell g x.due.cell) xs) where
      abbrev t : HasTaken g stands.valid 0 cells q s.taken
      t = taken g stands.valid tick cells xs q r stood.of.config low stood.seen has-all stood.cells s inside

      abbrev wrote : HasInserted g stands.valid tick xs s.taken s.reached
      wrote = inserts g stands.valid tick cells xs q r stood.of.config low stood.seen has-all stood.cells s inside

      then : HasEndedSome g wrote.events q r
      then = all-synced g stands.valid tick cells xs q r stood.of.config low stood.seen has-all stood.cells s inside

      pub synced-last : AreLast numbers r.joined
      synced-last = last-from cache p others stands alone apart everyone count differ q joins wrote.events r then of free claims numbers numbers_are

      still-mine : xs ≡ [] → r.own.mine ≡ p.own.mine
      still-mine nothing = synced-mine g stands.valid tick cells xs q r stood.of.config low stood.seen has-all stood.cells s inside nothing ∙ met.mine

      done-here : (i : ℕ) (c : OnHeap) → slice_get cells i ≡ Some c → IsCell g i × IsDone g i q c
      done-here i c at =
          let within = slice_get_within cells i c at in
          let w : 0 + i ≡ i = omega arith in
          let inside : IsCell g i = let e = s.all in omega (arith, within, e) in
          (inside, subst (λ (k : ℕ). IsDone g k q c) w (done-at 0 i cells c t.done at))

      all-did : AllByRecursion (HasDoneTo g cells) (p ∷ others)
      all-did = (
        (λ noted made i c at.
            let h = done-here i c at in
            let same = (grown-same g p q met.number met.about met.mine met.self.starts met.self.cells stands.seen stands.cells).entries i h.0 in
            subst (λ (n : ℕ). done_by n c.value.history ≡ events_of_cell i noted) met.number (h.1.own (events_of_cell i noted) (same ∙ made i h.0))),
        all-done cells others apart (λ i c at. let h = done-here i c at in (h.0, subst (AllByRecursion (λ k. AreEntriesSeen g k.number k.view.mine k.view.seen → DidSo k.number (made_from i 0 k.view.mine (front_of i k.view.seen)) c)) met.joined h.1.joined)),
      )

      joined-alone : SyncsJoined cache tick p others (left_alone r) (map (parted_from r) others) cells xs
      joined-alone = record {
        lines = lines cache p others stands alone apart everyone count differ q joins wrote.events r then of free claims;
        parted = all-parted-then cache p others stands alone apart everyone count differ q joins wrote.events r then of free claims;
        level = λ shard. refl;
        number = then.number ∙ met.number;
        about = then.about ∙ met.about;
        alone = refl;
        stands = last-stands cache p others stands alone apart everyone count differ q joins wrote.events r then of free claims;
        front = λ shard. seen_of g shard q;
        seen = synced-shards g stands.valid tick cells xs q r stood.of.config low stood.seen has-all stood.cells s inside;
        held = λ shard. subst (AreHeldNew g tick (noted_of p.number xs) shard) (t.quiet.shards shard) (wrote.held p.number shard);
        own = met.self.own;
        others = λ shard. all-own shard others met.all;
        since = λ shard. starts-events (front_of (turn_of g shard) q.own.seen) (front_of (turn_of g shard) p.own.seen) (met.self.starts shard);
        others_since = λ shard. all-since shard others met.all;
        behind = later-behind g p q r met.mine then.older;
        settled = λ last settled i. synced-picks g stands.valid tick cells xs q r stood.of.config low stood.seen has-all stood.cells s inside (met.number ∙ last) i ∙ (ap (λ (l : Ledger). list_at i l.picked) met.ledger ∙ settled i);
        one = one-front cache p others stands alone apart everyone count differ q joins;
        same = λ before own rest shard. ap events_in (met.level before own rest shard);
        same_cells = λ entries own rest i c at.
            let within = slice_get_within cells i c at in
            let in_range : IsCell g i = let e = s.all in omega (arith, within, e) in
            sym (cell-front g stands.valid tick cells xs q r stood.of.config low stood.seen has-all stood.cells s inside i c within ∙ ap (λ (x : OnHeap). lines_of x.value.history) (index-at i cells c at))
            ∙ met.level_cells entries own rest i in_range;
        known = λ i c at.
            let within = slice_get_within cells i c at in
            let in_range : IsCell g i = let e = s.all in omega (arith, within, e) in
            all-cells i (lines_of c.value.history) in_range
            (cell-front g stands.valid tick cells xs q r stood.of.config low stood.seen has-all stood.cells s inside i c within ∙ ap (λ (x : OnHeap). lines_of x.value.history) (index-at i cells c at)) others met.all;
        count = s.all;
        sound = λ i c at. (found-at 0 i cells c t.found at).sound;
        began = λ i c at.
            let f = found-at 0 i cells c t.found at in
            let w : 0 + i ≡ i = omega arith in
            f.began ∙ (λ k. slice_index_or (met.about k).openings (w k) []);
        noted = λ i c at.
            let within = slice_get_within cells i c at in
            let in_range : IsCell g i = let e = s.all in omega (arith, within, e) in
            synced-front g stands.valid tick cells xs q r stood.of.config low stood.seen has-all stood.cells s inside i in_range
            ∙ ((λ k. cell-front g stands.valid tick cells xs q r stood.of.config low stood.seen has-all stood.cells s inside i c within k ++ lines_of (synced_in (met.number k) i xs))
            ∙ ap (λ (x : OnHeap). lines_of x.value.history ++ lines_of (synced_in p.number i xs)) (index-at i cells c at));
        met = have-met cache q r then.cells p others met.self.cells met.all;
        keeps = keeps-left cache p others stands alone apart everyone count differ q joins wrote.events r then of free claims;
        did = all-did;
        fresh = λ own rest i c at. none-at i cells c (t.fresh (untouched-by cache p others stands alone apart everyone count differ q joins own rest)) at;
        inserts = wrote.events;
        are = λ shard. wrote.are shard ∙ ap (inserts_in g tick xs shard) (t.quiet.shards shard);
        inside = inside;
        kinds = wrote.kinds;
        told = λ did had before.
            let h = others-synced g did had wrote.events xs p.number q r (sym met.number) then.number wrote.kinds
            (synced-made g stands.valid tick cells xs q r stood.of.config low stood.seen has-all stood.cells s inside) (synced-cells g stands.valid tick cells xs q r stood.of.config low stood.seen has-all stood.cells s inside) (met-told did had before) in
            record { cells = h.cells; kinds = h.kinds; entries = h.entries };
        entries = λ nothing none. subst (AreNoEntries g) (sym (still-mine nothing)) none;
      }

      pub syncs-joined : (news : List PartyPlace) (z : PartyPlace) → PartAll numbers r news z → SyncsJoined cache tick p others z news cells xs
      syncs-joined news z parts =
          let is = parted cache p others stands alone apart everyone count differ q joins wrote.events r then of free claims numbers numbers_are news z parts in
          subst (λ (x : PartyPlace × List PartyPlace). SyncsJoined cache tick p others x.0 x.1 cells xs) (λ i. (sym is.1 i, sym is.0 i)) joined-alone

    -- ---- the answers

    module _ {P : Type 0} (pools : Ghosts P) (group next : ℕ) (before now : P) where
      abbrev Cells : List OnHeap → List SyncItem → (PartyPlace → PartyPlace → Type 0) → Type 0
      Cells cells xs Besides = SyncsCells g tick cells xs Besides q r

      -- memory was not refused
      some-answer : (came : Result Synced SyncFault) → wants_memory came ≡ false → AnswersSync pools g group tick next before now q r came → AnswersWith pools group next before now g Cells came
      some-answer came other (inl answer) = answer
      some-answer came other (inr none) = absurd (false≢true (sym other ∙ ap wants_memory none.0))

      done-inside : (held : Due → Bool) (cells : List OnHeap) (dues : List Due) → length cells ≡ g.cells → AreAllDirty cells dues → AllByRecursion (λ x. IsCell g x.due.cell) (items_from held group next cells dues)
      done-inside held cells dues all dirty = items-inside g cells all held group next dues (dues-inside g cells all dues dirty)

      part-inside : (held : Due → Bool) (cells : List OnHeap) (done rest : List Due) → length cells ≡ g.cells → AreAllDirty cells (done ++ rest) → AllByRecursion (λ x. IsCell g x.due.cell) (items_from held group next cells done)
      part-inside held cells done rest all dirty = items-inside g cells all held group next done (front-inside g cells all done rest (dues-inside g cells all (done ++ rest) dirty))

      came-last : (came : Result Synced SyncFault) → wants_memory came ≡ false → AnswersWith pools group next before now g Cells came → AreLast numbers r.joined
      came-last (Ok done) other w = synced-last w.cells _ w.turns (done-inside w.held w.cells w.dues w.turns.all w.dirty)
      came-last (Err fault.PoolFault) other f = synced-last f.stops.cells _ f.stops.turns (part-inside f.stops.held f.stops.cells f.stops.done (f.stops.due ∷ f.stops.rest) f.stops.turns.all f.stops.dirty)
      came-last (Err (fault.PoolFull need left)) other f = synced-last f.cells [] f.turns tt
      came-last (Err fault.NoMemory) other f = absurd (false≢true (sym other))

      pub sync-last : (came : Result Synced SyncFault) → wants_memory came ≡ false → AnswersSync pools g group tick next before now q r came → AreLast numbers r.joined
      sync-last came other answer = came-last came other (some-answer came other answer)

      module _ (news : List PartyPlace) (z : PartyPlace) (parts : PartAll numbers r news z) where
        came-joined : (came : Result Synced SyncFault) → wants_memory came ≡ false → AnswersWith pools group next before now g Cells came → SyncedJoined pools cache group tick next before now p others z news came
        came-joined (Ok done) other w = record {
          cells = w.cells;
          dues = w.dues;
          dirty = w.dirty;
          sized = w.sized;
          fits = w.fits;
          held = w.held;
          turns = syncs-joined w.cells _ w.turns (done-inside w.held w.cells w.dues w.turns.all w.dirty) news z parts;
          told = w.told;
          outside = w.outside;
          others = w.others;
          blocks = w.blocks;
          bytes = w.bytes;
          next_is = w.next_is;
        }
        came-joined (Err fault.PoolFault) other f = record {
          stops = record {
            cells = f.stops.cells;
            done = f.stops.done;
            due = f.stops.due;
            rest = f.stops.rest;
            dirty = f.stops.dirty;
            fits = f.stops.fits;
            held = f.stops.held;
            turns = syncs-joined f.stops.cells _ f.stops.turns (part-inside f.stops.held f.stops.cells f.stops.done (f.stops.due ∷ f.stops.rest) f.stops.turns.all f.stops.dirty) news z parts;
            told = f.stops.told;
          };
          outside = f.outside;
          others = f.others;
        }
        came-joined (Err (fault.PoolFull need left)) other f = record {
          cells = f.cells;
          dues = f.dues;
          dirty = f.dirty;
          need_is = f.need_is;
          left_is = f.left_is;
          full = f.full;
          turns = syncs-joined f.cells [] f.turns tt news z parts;
          told = f.told;
          outside = f.outside;
          others = f.others;
        }
        came-joined (Err fault.NoMemory) other f = absurd (false≢true (sym other))

        pub sync-joined : (came : Result Synced SyncFault) → wants_memory came ≡ false → AnswersSync pools g group tick next before now q r came → SyncedJoined pools cache group tick next before now p others z news came
        sync-joined came other answer = came-joined came other (some-answer came other answer)

  -- ---- where no party had done anything to a cell

  module _ (unwritten : AllByRecursion (λ o. AreNoEntries g o.own.mine) (p ∷ others)) (tick : ℕ) (cells : List OnHeap) (xs : List SyncItem) (Besides : PartyPlace → PartyPlace → Type 0) (r : PartyPlace) (s : SyncsCells g tick cells xs Besides q r) where
    no-history : AllByRecursion (λ c. c.value.history ≡ []) cells
    no-history = (all-taken g stands.valid 0 cells q s.taken (let e = s.all in omega arith) stood.of.config stood.seen has-all stood.cells s.takes).fresh
        (untouched-by cache p others stands alone apart everyone count differ q joins unwritten.0 unwritten.1)

    -- no block is dirty
    nothing-written : (dues : List Due) → AreAllDirty cells dues → dues ≡ []
    nothing-written dues dirty = none-among cells dues (no-dues 0 cells q (all-taken g stands.valid 0 cells q s.taken (let e = s.all in omega arith) stood.of.config stood.seen has-all stood.cells s.takes).found no-history) dirty

  -- so the pool is as it was
  module _ {P : Type 0} (pools : Ghosts P) (group tick next : ℕ) (before now : P) (r : PartyPlace) (unwritten : AllByRecursion (λ o. AreNoEntries g o.own.mine) (p ∷ others)) where
    abbrev Answer : Result Synced SyncFault → Type 0
    Answer = AnswersSync pools g group tick next before now q r

    written-none : (told : Option (List ℕ)) → tells_written [] told ≡ told
    written-none None = refl
    written-none (Some image) = refl

    some-due : (done : List Due) (due : Due) (rest : List Due) → done ++ due ∷ rest ≡ [] → ⊥
    some-due [] due rest is = cc
    some-due (d ∷ done) due rest is = cc

    unharmed : IsUnharmed pools before now → pools.told now ≡ pools.told before → LeavesPool pools before now
    unharmed u told = record { size = u.size; told = told; faults = let f = u.faults in omega arith }

    never-stops : (T : SyncItem → Option (List ℕ) → Type 0) (B : SyncItem → PartyPlace → PartyPlace → Type 0) → StopsAt pools group next before now g (λ cells xs Besides. SyncsCells g tick cells xs Besides q r) T B → ⊥
    never-stops T B s = some-due s.done s.due s.rest (nothing-written unwritten tick s.cells _ _ r s.turns (s.done ++ s.due ∷ s.rest) s.dirty)

    never-full : (need left : ℕ) → IsFull pools group next before now g (λ cells xs Besides. SyncsCells g tick cells xs Besides q r) need left → ⊥
    never-full need left f =
        let none = nothing-written unwritten tick f.cells [] Same r f.turns f.dues f.dirty in
        let zero_is : need ≡ 0 = f.need_is ∙ ap (need_of f.cells) none in
        omega (arith, zero_is, f.full)

    leaves-with : (came : Result Synced SyncFault) → AnswersWith pools group next before now g (λ cells xs Besides. SyncsCells g tick cells xs Besides q r) came → LeavesPool pools before now
    leaves-with (Ok done) w =
        let nothing = ap (items_from w.held group next w.cells) (nothing-written unwritten tick w.cells _ Same r w.turns w.dues w.dirty) in
        unharmed w.outside (w.told ∙ (ap (λ (l : List SyncItem). tells_written l (pools.told before)) nothing ∙ written-none (pools.told before)))
    leaves-with (Err fault.PoolFault) f = absurd (never-stops _ _ f.stops)
    leaves-with (Err (fault.PoolFull need left)) f = absurd (never-full need left f)
    leaves-with (Err fault.NoMemory) f = unharmed f.outside (told f.stops)
      where
        told : RefusedFirst pools group next before now g (λ cells xs Besides. SyncsCells g tick cells xs Besides q r) ⊎ RefusedAt pools group next before now g (λ cells xs Besides. SyncsCells g tick cells xs Besides q r) → pools.told now ≡ pools.told before
        told (inl first) = first.told
        told (inr (inl stop)) = absurd (never-stops _ _ stop)
        told (inr (inr stop)) = absurd (never-stops _ _ stop)

    pub sync-leaves : (came : Result Synced SyncFault) → Answer came → LeavesPool pools before now
    sync-leaves came (inl answer) = leaves-with came answer
    sync-leaves came (inr none) = subst (LeavesPool pools before) (sym none.1.pool) (record { size = refl; told = refl; faults = omega arith })
