-- How the lines of two runs end: where one run has no room for a sync, or a write of it fails, the other has none or fails at the same block. Where a write of both failed, one history may have led a cell to two states (spa_sync for a
-- single thread).
use Rattle.std.proofs.Common.{◌≡◌, ◌⊎◌, ◌+◌, ◌-◌, ◌<◌, ◌≤◌, ℕ, suc, List, [], ◌∷◌, ◌++◌, length, length-append, map, Option, Some, refl, sym, ap, ◌∙◌, subst, inl, inr, arith, Bool}
use Rattle.std.proofs.lemmas.Bool.{cases_lt}
use Rattle.std.proofs.lemmas.Option.{slice_get_within}
use Rattle.arc_core.specs.declared.config.Config.{Config}
use Rattle.arc_core.specs.declared.event.Event.{Event}
use Rattle.arc_table.specs.Geometry.{IsCell}
use Rattle.dbuf_cells.specs.Turns.{OnHeap}
use Rattle.vdev_io.specs.Calls.{Call, Failed, Gave}
use Rattle.vdev_io.specs.declared.device.CacheDev.{Ghosts as Devices}
use Rattle.vdev_io.specs.declared.pool.Pool.{Ghosts}
use Rattle.txg_sync.specs.Items.{SyncItem, bytes_of_due, items_from, need_of}
use Rattle.txg_sync.specs.Syncing.{AreAllDirty}
use Rattle.txg_sync.specs.declared.due.Due.{Due}
use Rattle.txg_sync.specs.declared.syncing.SyncFault.TheVariants as sync_fault
use Rattle.trace_text.specs.declared.op.Op.{Op}
use Rattle.trace_text.specs.declared.op.Op.TheVariants as ops
use Rattle.trace_text.specs.declared.reply.Reply.{Reply}
use Rattle.trace_text.specs.declared.trace.Trace.{Trace}
use Rattle.trace_run.specs.declared.ran.Ending.{Ending}
use Rattle.trace_run.specs.declared.ran.Ending.TheVariants.{Fork, Full, Sync, Whole}
use Rattle.trace_run.specs.Deeds.{Noted}
use Rattle.trace_run.specs.Effects.{calls_of}
use Rattle.trace_run.specs.Syncing.{AreHeldNew, inserts_noted, noted_of}
use Rattle.trace_run.specs.callers.Together.{StopsAtSync}
use Rattle.trace_run.specs.callers.WorkLines.{effect_with}
use Rattle.trace_run.specs.dbufs.Objects.{Nothing, Work}
use Rattle.trace_run.specs.one_caller.Sequence.{BetweenLines, DoesSync, EndsThere, LeavesSynced, StopsThere}
use Rattle.run_laws.specs.Alike.{AreAlike, AreAlikeSoFar, answers_at_stop, pool_answers_to}
use Rattle.run_laws.proofs.Behind.{goes-cell, goes-shard, pool-size}
use Rattle.run_laws.proofs.LinesAlike.{alike-sym}
use Rattle.run_laws.proofs.PlainDues.{even-or-apart, views_of}
use Rattle.run_laws.proofs.Rows.{given-failed, so-far-sym}
use Rattle.run_laws.proofs.SyncCells.{CollidesIn, apart-collides, dirty-one, views-alike}
use Rattle.run_laws.proofs.SyncStep.{need-one, sync_line, written-one}

-- ---- lists

-- of one list two fronts of one length are one
front-same : (xs ys us vs : List Due) → length xs ≡ length ys → xs ++ us ≡ ys ++ vs → xs ≡ ys
front-same [] [] us vs many is = refl
front-same [] (y ∷ ys) us vs many is = absurd (omega (arith, many))
front-same (x ∷ xs) [] us vs many is = absurd (omega (arith, many))
front-same (x ∷ xs) (y ∷ ys) us vs many is =
    let both : x ∷ (xs ++ us) ≡ y ∷ (ys ++ vs) = is in
    let first : x ≡ y = cc in
    let behind : xs ++ us ≡ ys ++ vs = cc in
    let rest : xs ≡ ys = front-same xs ys us vs (omega (arith, many)) behind in
    λ i. first i ∷ rest i

-- one note for each block
many-noted : (held : Due → Bool) (n group place : ℕ) (cells : List OnHeap) (dues : List Due) → length (noted_of n (items_from held group place cells dues)) ≡ length dues
many-noted held n group place cells [] = refl
many-noted held n group place cells (due ∷ dues) = ap suc (many-noted held n group (place + length (bytes_of_due cells due)) cells dues)

-- rows that failed behind what they gave are alike only where they gave as often
given-same : (xs ys : List Noted) → AreAlikeSoFar (map (λ x. Gave) xs ++ Failed ∷ []) (map (λ y. Gave) ys ++ Failed ∷ []) → length ys ≡ length xs
given-same xs ys alike = elim (cases_lt (length ys) (length xs)) [
  | inl less ↦ absurd (given-failed xs ys (Failed ∷ []) [] less alike)
  | inr least ↦ elim (cases_lt (length xs) (length ys)) [
    | inl more ↦ absurd (given-failed ys xs (Failed ∷ []) [] more (so-far-sym (map (λ x. Gave) xs ++ Failed ∷ []) (map (λ y. Gave) ys ++ Failed ∷ []) alike))
    | inr most ↦ omega (arith, least, most)
  ]
]

-- what finds room in one run finds it in the other
fits-full : (cells others : List OnHeap) (dues ends : List Due) (room other_room : ℕ) → views_of others ≡ views_of cells → AreAllDirty cells dues → AreAllDirty others ends → other_room ≡ room → need_of cells dues ≤ room → other_room < need_of others ends → ⊥
fits-full cells others dues ends room other_room same dirty other_dirty rooms fits full =
    let needs = need-one cells others dues ends same (dirty-one cells others dues ends same dirty other_dirty) in
    omega (arith, needs, rooms, fits, full)

full-fits : (cells others : List OnHeap) (dues ends : List Due) (room other_room : ℕ) → views_of others ≡ views_of cells → AreAllDirty cells dues → AreAllDirty others ends → other_room ≡ room → room < need_of cells dues → need_of others ends ≤ other_room → ⊥
full-fits cells others dues ends room other_room same dirty other_dirty rooms full fits =
    let needs = need-one cells others dues ends same (dirty-one cells others dues ends same dirty other_dirty) in
    omega (arith, needs, rooms, fits, full)

same-tick : (trace : Trace) (replies : List Reply) (a b : StopsAtSync trace replies) → b.tick ≡ a.tick
same-tick trace replies a b =
    let both : ◌≡◌ {A = Option Op} (Some (ops.Txg b.tick)) (Some (ops.Txg a.tick)) = sym b.at ∙ a.at in
    cc

-- ---- two ends

module _ {P D : Type 0} (pools : Ghosts P) (devices : Devices D) (pool_len : (p : P) (bytes : List ℕ) → pools.told p ≡ Some bytes → length bytes ≡ pools.size p) (trace : Trace) where
  abbrev g : Config
  g = trace.config

  -- the runs end the same: the sync that stopped, where one did, noted the same blocks; and what they leave of shards, cells and kept reads is alike
  pub record StopAlike (v w : Work) (ending other_ending : Ending) (to other_to : BetweenLines P D) : Type 0 where
    pub ends : other_ending ≡ ending
    pub noted : w.noted ≡ v.noted
    pub shards : (shard : ℕ) → other_to.shards shard ≡ to.shards shard
    pub cells : (i : ℕ) → IsCell trace.config i → other_to.cells i ≡ to.cells i
    pub kept : other_to.kept ≡ to.kept

  room-same : (at other : BetweenLines P D) → AreAlike pools devices trace at other → pools.size other.outside.pool - other.outside.next ≡ pools.size at.outside.pool - at.outside.next
  room-same at other like = λ i. pool-size pools devices trace pool_len at other like i - like.next i

  leaves-alike : (t u : ℕ) (v w : Work) (at to other other_to : BetweenLines P D) (ending other_ending : Ending) → LeavesSynced g t v at to → LeavesSynced g u w other other_to → AreAlike pools devices trace at other → u ≡ t → other_ending ≡ ending
      → w.noted ≡ v.noted → StopAlike v w ending other_ending to other_to
  leaves-alike t u v w at to other other_to ending other_ending leaves other_leaves like ticks ends noted =
      let es : ℕ → List Event = λ shard. inserts_noted g t v.noted shard (at.shards shard) in
      let fs : ℕ → List Event = λ shard. inserts_noted g u w.noted shard (other.shards shard) in
      record {
        ends = ends;
        noted = noted;
        shards = λ shard. goes-shard g es fs v.noted w.noted at to other other_to leaves.goes_on other_leaves.goes_on shard (like.shards shard) (λ i. inserts_noted g (ticks i) (noted i) shard (like.shards shard i));
        cells = λ i is_cell. goes-cell g es fs v.noted w.noted at to other other_to leaves.goes_on other_leaves.goes_on i is_cell (like.cells i is_cell) noted;
        kept = other_leaves.kept ∙ (like.kept ∙ sym leaves.kept);
      }

  module _ (replies : List Reply) (v w : Work) (at to other other_to : BetweenLines P D) (after other_after : P) (like : AreAlike pools devices trace at other) where
    -- a write of each failed
    both-fail : StopsThere pools devices trace replies v sync_fault.PoolFault at after to → StopsThere pools devices trace replies w sync_fault.PoolFault other other_after other_to
        → AreAlikeSoFar (answers_at_stop Sync v) (answers_at_stop Sync w) → StopAlike v w Sync Sync to other_to ⊎ CollidesIn trace at.cells v.noted w.noted
    both-fail one two rows =
        let a = one.stops.answer.stops in
        let b = two.stops.answer.stops in
        let xs : List SyncItem = items_from a.held at.outside.group at.outside.next a.cells a.done in
        let ys : List SyncItem = items_from b.held other.outside.group other.outside.next b.cells b.done in
        let same : views_of b.cells ≡ views_of a.cells = views-alike trace at.cells other.cells like.cells v w a.cells b.cells xs ys a.turns b.turns in
        let whole : b.done ++ b.due ∷ b.rest ≡ a.done ++ a.due ∷ a.rest = dirty-one a.cells b.cells (a.done ++ a.due ∷ a.rest) (b.done ++ b.due ∷ b.rest) same a.dirty b.dirty in
        let first : length v.noted ≡ length a.done = ap length a.turns.noted ∙ many-noted a.held g.callers at.outside.group at.outside.next a.cells a.done in
        let second : length w.noted ≡ length b.done = ap length b.turns.noted ∙ many-noted b.held g.callers other.outside.group other.outside.next b.cells b.done in
        let many : length b.done ≡ length a.done = sym second ∙ (given-same v.noted w.noted rows ∙ first) in
        let done : b.done ≡ a.done = front-same b.done a.done (b.due ∷ b.rest) (a.due ∷ a.rest) many whole in
        elim (even-or-apart a.cells b.cells a.done) [
          | inl even ↦
              let items : ys ≡ xs = written-one g one.stops.behind.tick g.callers v.noted w.noted a.cells b.cells a.held b.held a.done b.done at.outside.group other.outside.group at.outside.next other.outside.next at.shards other.shards
              even done like.group like.next like.shards a.turns.noted b.turns.noted one.leaves.held (subst (λ (t : ℕ). (shard : ℕ) → AreHeldNew g t w.noted shard (other.shards shard)) (same-tick trace replies one.stops.behind two.stops.behind) two.leaves.held) in
              let noted : w.noted ≡ v.noted = b.turns.noted ∙ (ap (noted_of g.callers) items ∙ sym a.turns.noted) in
              inl (leaves-alike one.stops.behind.tick two.stops.behind.tick v w at to other other_to Sync Sync one.leaves two.leaves like (same-tick trace replies one.stops.behind two.stops.behind) refl noted)
          | inr x ↦ inr (apart-collides trace at.cells other.cells like.cells v w a.cells b.cells xs ys a.turns b.turns a.held b.held at.outside.group at.outside.next other.outside.group other.outside.next a.done b.done done a.turns.noted b.turns.noted x)
        ]

    -- neither had room
    both-full : (need left other_need other_left : ℕ) → StopsThere pools devices trace replies v (sync_fault.PoolFull need left) at after to → StopsThere pools devices trace replies w (sync_fault.PoolFull other_need other_left) other other_after other_to
        → StopAlike v w (Full need left) (Full other_need other_left) to other_to
    both-full need left other_need other_left one two =
        let a = one.stops.answer in
        let b = two.stops.answer in
        let same : views_of b.cells ≡ views_of a.cells = views-alike trace at.cells other.cells like.cells v w a.cells b.cells [] [] a.turns b.turns in
        let listed : b.dues ≡ a.dues = dirty-one a.cells b.cells a.dues b.dues same a.dirty b.dirty in
        let needs : other_need ≡ need = b.need_is ∙ (need-one a.cells b.cells a.dues b.dues same listed ∙ sym a.need_is) in
        let lefts : other_left ≡ left = b.left_is ∙ (room-same at other like ∙ sym a.left_is) in
        leaves-alike one.stops.behind.tick two.stops.behind.tick v w at to other other_to (Full need left) (Full other_need other_left) one.leaves two.leaves like (same-tick trace replies one.stops.behind two.stops.behind)
        (λ i. Full (needs i) (lefts i)) (b.turns.noted ∙ sym a.turns.noted)

    -- one had room where the other had none
    fail-full : (need left : ℕ) → StopsThere pools devices trace replies v sync_fault.PoolFault at after to → StopsThere pools devices trace replies w (sync_fault.PoolFull need left) other other_after other_to → ⊥
    fail-full need left one two =
        let a = one.stops.answer.stops in
        let b = two.stops.answer in
        let same : views_of b.cells ≡ views_of a.cells = views-alike trace at.cells other.cells like.cells v w a.cells b.cells (items_from a.held at.outside.group at.outside.next a.cells a.done) [] a.turns b.turns in
        let full : pools.size other.outside.pool - other.outside.next < need_of b.cells b.dues = (let x = b.full in let y = b.need_is in let z = b.left_is in omega (arith, x, y, z)) in
        fits-full a.cells b.cells (a.done ++ a.due ∷ a.rest) b.dues (pools.size at.outside.pool - at.outside.next) (pools.size other.outside.pool - other.outside.next) same a.dirty b.dirty (room-same at other like) a.fits full

    full-fail : (need left : ℕ) → StopsThere pools devices trace replies v (sync_fault.PoolFull need left) at after to → StopsThere pools devices trace replies w sync_fault.PoolFault other other_after other_to → ⊥
    full-fail need left one two =
        let a = one.stops.answer in
        let b = two.stops.answer.stops in
        let same : views_of b.cells ≡ views_of a.cells = views-alike trace at.cells other.cells like.cells v w a.cells b.cells [] (items_from b.held other.outside.group other.outside.next b.cells b.done) a.turns b.turns in
        let full : pools.size at.outside.pool - at.outside.next < need_of a.cells a.dues = (let x = a.full in let y = a.need_is in let z = a.left_is in omega (arith, x, y, z)) in
        full-fits a.cells b.cells a.dues (b.done ++ b.due ∷ b.rest) (pools.size at.outside.pool - at.outside.next) (pools.size other.outside.pool - other.outside.next) same a.dirty b.dirty (room-same at other like) full b.fits

    both-whole : EndsThere pools devices trace replies v Whole at after to → EndsThere pools devices trace replies w Whole other other_after other_to → StopAlike v w Whole Whole to other_to
    both-whole one two = record {
      ends = refl;
      noted = ap (λ (x : Work). x.noted) two.0 ∙ sym (ap (λ (x : Work). x.noted) one.0);
      shards = λ shard. ap (λ (x : BetweenLines P D). x.shards shard) two.2 ∙ (like.shards shard ∙ sym (ap (λ (x : BetweenLines P D). x.shards shard) one.2));
      cells = λ i is_cell. ap (λ (x : BetweenLines P D). x.cells i) two.2 ∙ (like.cells i is_cell ∙ sym (ap (λ (x : BetweenLines P D). x.cells i) one.2));
      kept = ap (λ (x : BetweenLines P D). x.kept) two.2 ∙ (like.kept ∙ sym (ap (λ (x : BetweenLines P D). x.kept) one.2));
    }

    -- a sync stands behind the replies only where they are not all
    not-whole : length replies ≡ length trace.ops → StopsAtSync trace replies → ⊥
    not-whole all stops = let within = slice_get_within trace.ops (length replies) (ops.Txg stops.tick) stops.at in omega (arith, all, within)

    -- where all lines are done there are as many replies as operations
    pub stop-step : (ending other_ending : Ending) → EndsThere pools devices trace replies v ending at after to → EndsThere pools devices trace replies w other_ending other other_after other_to
        → (ending ≡ Whole → length replies ≡ length trace.ops) → (other_ending ≡ Whole → length replies ≡ length trace.ops) → AreAlikeSoFar (answers_at_stop ending v) (answers_at_stop other_ending w)
        → StopAlike v w ending other_ending to other_to ⊎ CollidesIn trace at.cells v.noted w.noted
    stop-step Whole Whole one two all other_all rows = inl (both-whole one two)
    stop-step Whole Fork one two all other_all rows = absurd two
    stop-step Whole Sync one two all other_all rows = absurd (not-whole (all refl) two.stops.behind)
    stop-step Whole (Full need left) one two all other_all rows = absurd (not-whole (all refl) two.stops.behind)
    stop-step Fork other_ending one two all other_all rows = absurd one
    stop-step Sync Whole one two all other_all rows = absurd (not-whole (other_all refl) one.stops.behind)
    stop-step Sync Fork one two all other_all rows = absurd two
    stop-step Sync Sync one two all other_all rows = both-fail one two rows
    stop-step Sync (Full need left) one two all other_all rows = absurd (fail-full need left one two)
    stop-step (Full need left) Whole one two all other_all rows = absurd (not-whole (other_all refl) one.stops.behind)
    stop-step (Full need left) Fork one two all other_all rows = absurd two
    stop-step (Full need left) Sync one two all other_all rows = absurd (full-fail need left one two)
    stop-step (Full need left) (Full other_need other_left) one two all other_all rows = inl (both-full need left other_need other_left one two)

  -- ---- one run goes on where the other stops

  module _ (t : ℕ) (r : Reply) (v w : Work) (at to other other_to : BetweenLines P D) (replies : List Reply) (other_after : P) (like : AreAlike pools devices trace at other) (did : DoesSync pools devices trace t r v at to) where
    on-fail : StopsThere pools devices trace replies w sync_fault.PoolFault other other_after other_to → (us : List Call) → AreAlikeSoFar (map (λ note. Gave) v.noted ++ us) (map (λ note. Gave) w.noted ++ Failed ∷ []) → ⊥
    on-fail two us rows =
        let a = did.synced.answer in
        let b = two.stops.answer.stops in
        let same : views_of b.cells ≡ views_of a.cells = views-alike trace at.cells other.cells like.cells v w a.cells b.cells (items_from a.held at.outside.group at.outside.next a.cells a.dues)
        (items_from b.held other.outside.group other.outside.next b.cells b.done) a.turns b.turns in
        let whole : b.done ++ b.due ∷ b.rest ≡ a.dues = dirty-one a.cells b.cells a.dues (b.done ++ b.due ∷ b.rest) same a.dirty b.dirty in
        let first : length v.noted ≡ length a.dues = ap length a.turns.noted ∙ many-noted a.held g.callers at.outside.group at.outside.next a.cells a.dues in
        let second : length w.noted ≡ length b.done = ap length b.turns.noted ∙ many-noted b.held g.callers other.outside.group other.outside.next b.cells b.done in
        let split = length-append b.done (b.due ∷ b.rest) in
        let long = ap length whole in
        given-failed v.noted w.noted us [] (omega (arith, first, second, split, long)) rows

    on-full : (need left : ℕ) → StopsThere pools devices trace replies w (sync_fault.PoolFull need left) other other_after other_to → ⊥
    on-full need left two =
        let a = did.synced.answer in
        let b = two.stops.answer in
        let same : views_of b.cells ≡ views_of a.cells = views-alike trace at.cells other.cells like.cells v w a.cells b.cells (items_from a.held at.outside.group at.outside.next a.cells a.dues) [] a.turns b.turns in
        let full : pools.size other.outside.pool - other.outside.next < need_of b.cells b.dues = (let x = b.full in let y = b.need_is in let z = b.left_is in omega (arith, x, y, z)) in
        fits-full a.cells b.cells a.dues b.dues (pools.size at.outside.pool - at.outside.next) (pools.size other.outside.pool - other.outside.next) same a.dirty b.dirty (room-same at other like) a.fits full

    -- the pool was asked for a write of each block that it noted
    sync-answers : v.brought ≡ Nothing → pool_answers_to (sync_line pools devices trace t r v) ≡ map (λ note. Gave) v.noted
    sync-answers none = λ i. calls_of (effect_with (none i) (did.synced.replied i)) ++ map (λ note. Gave) v.noted

    -- one run did the sync at which the other stopped
    pub stops-second : (ending : Ending) → EndsThere pools devices trace replies w ending other other_after other_to → (ending ≡ Whole → ⊥) → v.brought ≡ Nothing → (us : List Call)
        → AreAlikeSoFar (pool_answers_to (sync_line pools devices trace t r v) ++ us) (answers_at_stop ending w) → ⊥
    stops-second Whole two some none us rows = absurd (some refl)
    stops-second Fork two some none us rows = absurd two
    stops-second Sync two some none us rows = on-fail two us (subst (λ (cs : List Call). AreAlikeSoFar (cs ++ us) (map (λ note. Gave) w.noted ++ Failed ∷ [])) (sync-answers none) rows)
    stops-second (Full need left) two some none us rows = on-full need left two

  -- the other run did the sync at which the one stopped
  pub stops-first : (replies : List Reply) (v w : Work) (ending : Ending) (t : ℕ) (q : Reply) (at to other other_to : BetweenLines P D) (after : P) → AreAlike pools devices trace at other → EndsThere pools devices trace replies v ending at after to → (ending ≡ Whole → ⊥)
      → DoesSync pools devices trace t q w other other_to → w.brought ≡ Nothing → (us : List Call) → AreAlikeSoFar (answers_at_stop ending v) (pool_answers_to (sync_line pools devices trace t q w) ++ us) → ⊥
  stops-first replies v w ending t q at to other other_to after like one some did none us rows =
      let back = alike-sym pools devices trace at other like in
      stops-second t q w v other other_to at to replies after back did ending one some none us (so-far-sym (answers_at_stop ending v) (pool_answers_to (sync_line pools devices trace t q w) ++ us) rows)
