-- The step of a line `txg` of two runs: both write the same blocks to the same places, and what stands behind the line is alike again; or one history led a cell to two states (spa_sync for a single thread).
use Rattle.std.proofs.Common.{◌≡◌, ◌⊎◌, ◌+◌, ℕ, Bool, suc, List, [], ◌∷◌, ◌++◌, length, map, Option, refl, sym, ap, ◌∙◌, subst, inl, inr}
use Rattle.std.specs.List.{AllByRecursion}
use Rattle.blk_ptr.specs.Hash.{shard_of}
use Rattle.blk_ptr.specs.declared.ptr.Ptr.{Ptr}
use Rattle.arc_core.specs.Config.{IsConfig}
use Rattle.arc_core.specs.PlainShard.{PlainShard}
use Rattle.arc_core.specs.declared.config.Config.{Config}
use Rattle.arc_core.specs.declared.event.Event.{Event}
use Rattle.dbuf_cells.specs.Turns.{OnHeap}
use Rattle.dbuf_state.specs.declared.event.CellEvent.TheVariants.{Synced as WasSynced}
use Rattle.vdev_io.specs.Calls.{Gave}
use Rattle.vdev_io.specs.declared.device.CacheDev.{Ghosts as Devices}
use Rattle.vdev_io.specs.declared.pool.Pool.{Ghosts}
use Rattle.txg_sync.specs.Items.{SyncItem, bytes_of_due, items_from, ptr_at, need_of, tells_written, written_over}
use Rattle.txg_sync.specs.declared.due.Due.{Due}
use Rattle.trace_text.specs.declared.op.Op.TheVariants as ops
use Rattle.trace_text.specs.declared.reply.Reply.{Reply}
use Rattle.trace_text.specs.declared.reply.Reply.TheVariants.{Synced}
use Rattle.trace_text.specs.declared.trace.Trace.{Trace}
use Rattle.trace_run.specs.Deeds.{Noted}
use Rattle.trace_run.specs.Effects.{calls_of}
use Rattle.trace_run.specs.Feeds.{FeedDone}
use Rattle.trace_run.specs.Syncing.{AreHeldNew, insert_noted, inserts_noted, noted_of}
use Rattle.trace_run.specs.callers.WorkLines.{effect_with}
use Rattle.trace_run.specs.dbufs.Objects.{Line, Nothing, Work}
use Rattle.trace_run.specs.one_caller.Sequence.{BetweenLines, DoesSync, shard_behind}
use Rattle.run_laws.specs.Alike.{AreAlike, AreDevicesAlike, feed_answers}
use Rattle.run_laws.proofs.Behind.{devices-go, goes-cell, goes-shard}
use Rattle.run_laws.proofs.feeds.PlacesGo.{sync-places}
use Rattle.run_laws.proofs.PlainDues.{DueApart, IsEven, even-or-apart, items-same, need-same, sizes-same, views_of}
use Rattle.run_laws.proofs.ShardsLegal.{AreLegalShards}
use Rattle.run_laws.proofs.Steps.{PartsAt, StepAlike, replays}
use Rattle.run_laws.proofs.SyncCells.{CollidesIn, apart-collides, dirty-one, views-alike}

-- the same blocks of the same bytes, from one place on
items-one : (held : Due → Bool) (cells others : List OnHeap) (dues ends : List Due) (group other_group next other_next : ℕ) → AllByRecursion (IsEven cells others) dues → ends ≡ dues → other_group ≡ group → other_next ≡ next
    → items_from held other_group other_next others ends ≡ items_from held group next cells dues
items-one held cells others dues ends group other_group next other_next even listed groups places = (λ i. items_from held (groups i) (places i) others (listed i)) ∙ items-same cells others held group next dues even

-- The dbufs of these blocks keep the same holds in both, since their keys are new in both, or in neither: the shards stood alike.
held-one : (g : Config) (tick n group : ℕ) (cells : List OnHeap) (held other_held : Due → Bool) (place : ℕ) (dues : List Due) (shards : ℕ → List Event)
    → ((shard : ℕ) → AreHeldNew g tick (noted_of n (items_from held group place cells dues)) shard (shards shard)) → ((shard : ℕ) → AreHeldNew g tick (noted_of n (items_from other_held group place cells dues)) shard (shards shard))
    → items_from other_held group place cells dues ≡ items_from held group place cells dues
held-one g tick n group cells held other_held place [] shards one other = refl
held-one g tick n group cells held other_held place (due ∷ dues) shards one other =
    let bytes : List ℕ = bytes_of_due cells due in
    let ptr : Ptr = ptr_at group place bytes in
    let own : ℕ = shard_of g.shards ptr.key in
    let here : other_held due ≡ held due = (other own).0 refl ∙ sym ((one own).0 refl) in
    let rest = held-one g tick n group cells held other_held (place + length bytes) dues (λ shard. shards shard ++ insert_noted g tick due.cell shard (shards shard) (WasSynced n due.at ptr (held due))) (λ shard. (one shard).1) (λ shard. (other shard).1) in
    λ i. record { due = due; bytes = bytes; ptr = ptr; held = here i } ∷ rest i

-- so two syncs write the same
pub written-one : (g : Config) (tick n : ℕ) (noted other_noted : List Noted) (cells others : List OnHeap) (held other_held : Due → Bool) (dues ends : List Due) (group other_group next other_next : ℕ) (shards other_shards : ℕ → List Event)
    → AllByRecursion (IsEven cells others) dues → ends ≡ dues → other_group ≡ group → other_next ≡ next → ((shard : ℕ) → other_shards shard ≡ shards shard)
    → noted ≡ noted_of n (items_from held group next cells dues) → other_noted ≡ noted_of n (items_from other_held other_group other_next others ends)
    → ((shard : ℕ) → AreHeldNew g tick noted shard (shards shard)) → ((shard : ℕ) → AreHeldNew g tick other_noted shard (other_shards shard))
    → items_from other_held other_group other_next others ends ≡ items_from held group next cells dues
written-one g tick n noted other_noted cells others held other_held dues ends group other_group next other_next shards other_shards even listed groups places same are others_are new other_new =
    let there = items-one other_held cells others dues ends group other_group next other_next even listed groups places in
    let mine = λ (shard : ℕ). subst (λ (ns : List Noted). AreHeldNew g tick ns shard (shards shard)) are (new shard) in
    let its = λ (shard : ℕ). subst (λ (z : List Noted × List Event). AreHeldNew g tick z.0 shard z.1) (λ i. ((others_are ∙ ap (noted_of n) there) i, same shard i)) (other_new shard) in
    there ∙ held-one g tick n group cells held other_held next dues shards mine its

pub need-one : (cells others : List OnHeap) (dues ends : List Due) → views_of others ≡ views_of cells → ends ≡ dues → need_of others ends ≡ need_of cells dues
need-one cells others dues ends same listed = ap (need_of others) listed ∙ need-same cells others (sizes-same cells others same) dues

module _ {P D : Type 0} (pools : Ghosts P) (devices : Devices D) (trace : Trace) where
  abbrev g : Config
  g = trace.config

  -- devices that are as they were are alike still
  pub devices-still : (s : ℕ → PlainShard) (was other_was now other_now : Option D) → now ≡ was → other_now ≡ other_was → AreDevicesAlike pools devices trace s was other_was → AreDevicesAlike pools devices trace s now other_now
  devices-still s was other_was now other_now same other_same alike = subst (λ (x : Option D × Option D). AreDevicesAlike pools devices trace s x.0 x.1) (λ i. (sym same i, sym other_same i)) alike

  abbrev pub sync_line : ℕ → Reply → Work → Line
  sync_line t r v = record { op = ops.Txg t; reply = r; work = v }

  module _ (t : ℕ) (r q : Reply) (v w : Work) (from to other other_to : BetweenLines P D) (did : DoesSync pools devices trace t r v from to) (other_did : DoesSync pools devices trace t q w other other_to) (like : AreAlike pools devices trace from other) where
    abbrev cells : List OnHeap
    cells = did.synced.answer.cells

    abbrev others : List OnHeap
    others = other_did.synced.answer.cells

    abbrev dues : List Due
    dues = did.synced.answer.dues

    abbrev ends : List Due
    ends = other_did.synced.answer.dues

    abbrev xs : List SyncItem
    xs = items_from did.synced.answer.held from.outside.group from.outside.next cells dues

    abbrev ys : List SyncItem
    ys = items_from other_did.synced.answer.held other.outside.group other.outside.next others ends

    same : views_of others ≡ views_of cells
    same = views-alike trace from.cells other.cells like.cells v w cells others xs ys did.synced.answer.turns other_did.synced.answer.turns

    listed : ends ≡ dues
    listed = dirty-one cells others dues ends same did.synced.answer.dirty other_did.synced.answer.dirty

    -- a block of which they have other bytes is of a cell that has come to two states
    sync-apart : DueApart cells others dues → CollidesIn trace from.cells v.noted w.noted
    sync-apart = apart-collides trace from.cells other.cells like.cells v w cells others xs ys did.synced.answer.turns other_did.synced.answer.turns did.synced.answer.held other_did.synced.answer.held from.outside.group from.outside.next other.outside.group other.outside.next dues ends listed
        did.synced.answer.turns.noted other_did.synced.answer.turns.noted

    module _ (even : AllByRecursion (IsEven cells others) dues) where
      items : ys ≡ xs
      items = written-one g t trace.config.callers v.noted w.noted cells others did.synced.answer.held other_did.synced.answer.held dues ends from.outside.group other.outside.group from.outside.next other.outside.next from.shards other.shards
          even listed like.group like.next like.shards did.synced.answer.turns.noted other_did.synced.answer.turns.noted did.leaves.held other_did.leaves.held

      needs : need_of others ends ≡ need_of cells dues
      needs = need-one cells others dues ends same listed

      noted : w.noted ≡ v.noted
      noted = other_did.synced.answer.turns.noted ∙ (ap (noted_of trace.config.callers) items ∙ sym did.synced.answer.turns.noted)

      replied : q ≡ r
      replied =
          let blocks : other_did.synced.done.blocks ≡ did.synced.done.blocks = other_did.synced.answer.blocks ∙ (ap length listed ∙ sym did.synced.answer.blocks) in
          let bytes : other_did.synced.done.bytes ≡ did.synced.done.bytes = other_did.synced.answer.bytes ∙ (needs ∙ sym did.synced.answer.bytes) in
          other_did.synced.replied ∙ ((λ i. Synced (like.group i) (blocks i) (bytes i)) ∙ sym did.synced.replied)

      inserted : (shard : ℕ) → inserts_noted g t w.noted shard (other.shards shard) ≡ inserts_noted g t v.noted shard (from.shards shard)
      inserted shard = λ i. inserts_noted g t (noted i) shard (like.shards shard i)

      sync-then : IsConfig trace.config → AreLegalShards trace to.shards → AreAlike pools devices trace to other_to
      sync-then valid legal =
          let was : ℕ → PlainShard = shard_behind trace.config from.shards in
          let es : ℕ → List Event = λ shard. inserts_noted g t v.noted shard (from.shards shard) in
          let fs : ℕ → List Event = λ shard. inserts_noted g t w.noted shard (other.shards shard) in
          let next : other.outside.next + need_of others ends ≡ from.outside.next + need_of cells dues = λ i. like.next i + needs i in
          record {
            image = written_over xs like.image;
            told = did.synced.answer.told ∙ ap (tells_written xs) like.told;
            other_told = other_did.synced.answer.told ∙ (λ i. tells_written (items i) (like.other_told i));
            group = other_did.synced.group ∙ (ap suc like.group ∙ sym did.synced.group);
            next = other_did.synced.next ∙ (other_did.synced.answer.next_is ∙ (next ∙ sym (did.synced.next ∙ did.synced.answer.next_is)));
            device = devices-go pools devices trace was (shard_behind trace.config to.shards) (sync-places pools devices trace valid t r v from to did legal) to.device other_to.device
                (devices-still was from.device other.device to.device other_to.device did.leaves.device other_did.leaves.device like.device);
            shards = λ shard. goes-shard g es fs v.noted w.noted from to other other_to did.leaves.goes_on other_did.leaves.goes_on shard (like.shards shard) (inserted shard);
            cells = λ i is_cell. goes-cell g es fs v.noted w.noted from to other other_to did.leaves.goes_on other_did.leaves.goes_on i is_cell (like.cells i is_cell) noted;
            kept = other_did.leaves.kept ∙ (like.kept ∙ sym did.leaves.kept);
          }

  -- no bytes were brought, since the line is a sync's
  pub sync-step : (t : ℕ) (r q : Reply) (v w : Work) (here there : List FeedDone) (from to other other_to : BetweenLines P D) (did : (here ≡ []) × DoesSync pools devices trace t r v from to)
      (other_did : (there ≡ []) × DoesSync pools devices trace t q w other other_to) → v.brought ≡ Nothing → w.brought ≡ Nothing → IsConfig trace.config → AreLegalShards trace to.shards → AreAlike pools devices trace from other
      → StepAlike pools devices trace (sync_line t r v) (sync_line t q w) here there from to other other_to did other_did ⊎ PartsAt pools devices trace from.cells (sync_line t r v) (sync_line t q w) here there
  sync-step t r q v w here there from to other other_to did other_did none other_none valid legal like =
      let one = did.1.synced.answer in
      let two = other_did.1.synced.answer in
      elim (even-or-apart one.cells two.cells one.dues) [
        | inl same ↦
            let reply : q ≡ r = replied t r q v w from to other other_to did.1 other_did.1 like same in
            let notes : w.noted ≡ v.noted = noted t r q v w from to other other_to did.1 other_did.1 like same in
            let brought : w.brought ≡ v.brought = other_none ∙ sym none in
            inl (record {
              then = sync-then t r q v w from to other other_to did.1 other_did.1 like same valid legal;
              reply = reply;
              pool = λ i. calls_of (effect_with (brought i) (reply i)) ++ map (λ note. Gave) (notes i);
              device = ap feed_answers (other_did.0 ∙ sym did.0);
              many = ap (λ (fs : List FeedDone). length fs) (other_did.0 ∙ sym did.0);
            })
        | inr x ↦
            let apart : CollidesIn trace from.cells v.noted w.noted = sync-apart t r q v w from to other other_to did.1 other_did.1 like x in
            inr (replays apart.i apart.in_range apart.bases apart.other_bases apart.state apart.other_state apart.leads apart.other_leads apart.collide apart.writes)
      ]
