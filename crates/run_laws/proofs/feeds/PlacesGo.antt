-- A line that feeds no device gives no key a place there: each place that a key has behind the line it had before it.
use Rattle.std.proofs.Common.{◌≡◌, ◌<◌, ◌++◌, ℕ, Bool, true, false, IsTrue, List, [], ◌∷◌, Option, None, Some, refl, sym, ap, ◌∙◌, subst, arith}
use Rattle.std.specs.Prelude.{◌==◌, ◌&&◌, if◌then◌else◌, nat_lt, slice_get}
use Rattle.std.specs.List.{AllByRecursion}
use Rattle.std.specs.Option.{option_map_or}
use Rattle.blk_ptr.specs.Hash.{shard_of}
use Rattle.blk_ptr.specs.declared.key.Key.{Key}
use Rattle.blk_ptr.specs.declared.ptr.Ptr.{Ptr}
use Rattle.arc_core.specs.Config.{IsConfig}
use Rattle.arc_core.specs.declared.config.Config.{Config}
use Rattle.arc_core.specs.declared.event.Event.{Event}
use Rattle.arc_core.specs.declared.event.Event.TheVariants.{Pass, Hit, Miss, Arrive, Fail, Drop, Past, Hand, Insert, Release, Pick, FeedEnd, Set, Leave, Clear, Restore, Resize}
use Rattle.arc_core.specs.declared.served.Served.{Served}
use Rattle.arc_core.specs.Operations.{Act, event_key}
use Rattle.arc_core.specs.PlainShard.{PlainShard, place_of}
use Rattle.arc_core.specs.Replay.{is_legal_history, replay}
use Rattle.arc_core.specs.Step.{is_new_here}
use Rattle.arc_core.proofs.Stepping.{replay-append}
use Rattle.arc_table.specs.Geometry.{cell_number}
use Rattle.arc_table.specs.Telling.{opening_of}
use Rattle.arc_table.proofs.OpeningLaws.{opening_sound}
use Rattle.dbuf_state.specs.declared.event.CellEvent.{CellEvent}
use Rattle.dbuf_state.specs.declared.event.CellEvent.TheVariants as cell_event
use Rattle.l2_feed.specs.Series.{GivesNone}
use Rattle.l2_feed.proofs.Between.{give_none}
use Rattle.l2_feed.proofs.Stepped.{sound_front, taking}
use Rattle.vdev_io.specs.declared.device.CacheDev.{Ghosts as Devices}
use Rattle.vdev_io.specs.declared.pool.Pool.{Ghosts}
use Rattle.trace_text.specs.declared.op.Op.{Op}
use Rattle.trace_text.specs.declared.op.Op.TheVariants as ops
use Rattle.trace_text.specs.declared.reply.Reply.{Reply}
use Rattle.trace_text.specs.declared.trace.Trace.{Trace}
use Rattle.trace_run.specs.Deeds.{HasAct, Noted, events_there}
use Rattle.trace_run.specs.Effects.{Answered, Effect, GivenBack, NoEffect, PoolRefused, effect_of}
use Rattle.trace_run.specs.KeptReads.{KeptRead}
use Rattle.trace_run.specs.Lines.{is_in_shard}
use Rattle.trace_run.specs.Syncing.{insert_noted, inserts_noted}
use Rattle.trace_run.specs.dbufs.ObjectLines.{OnObject, brought_there, events_of_bringing, events_of_hand}
use Rattle.trace_run.specs.dbufs.Objects.{Brought, Line, Loaded, Nothing, Refused, Work}
use Rattle.trace_run.specs.one_caller.Access.{Access, Hit as IsHit, Miss as IsMiss, Past as IsPast, access_of, events_of_answered, events_of_drop, events_of_refused, held_by_access}
use Rattle.trace_run.specs.one_caller.OneCaller.{events_of_dropping, events_of_hold, events_of_op, events_of_read, oldest_key}
use Rattle.trace_run.specs.one_caller.Sequence.{BetweenLines, DoesCap, DoesOwn, DoesSync, shard_behind}
use Rattle.trace_run.proofs.one_caller.TellLemmas.{all-append}
use Rattle.run_laws.proofs.ShardsLegal.{AreLegalShards}

-- none of these events gives a key a place
abbrev pub GiveNone : List Event → Type 0
GiveNone = AllByRecursion GivesNone

-- each place that a key has in the shards t it has in s
abbrev pub PlacesGo : Config → (s t : ℕ → PlainShard) → Type 0
PlacesGo g s t = (k : Key) (x : ℕ) → place_of k (t (shard_of g.shards k)) ≡ Some x → place_of k (s (shard_of g.shards k)) ≡ Some x

two-give : (xs ys : List Event) → GiveNone xs → GiveNone ys → GiveNone (xs ++ ys)
two-give xs ys one other = all-append GivesNone xs ys one other

pub if-gives : (b : Bool) (es : List Event) → GiveNone es → GiveNone (if b then es else [])
if-gives true es none = none
if-gives false es none = tt

if-more : (b : Bool) (e : Event) (es : List Event) → GivesNone e → GiveNone es → GiveNone (if b then (e ∷ es) else es)
if-more true e es one none = (one, none)
if-more false e es one none = none

-- ---- events of a read

answered-gives : (n t : ℕ) (ptr : Ptr) (from : Served) (a : Access) → GiveNone (events_of_answered n t ptr from a)
answered-gives n t ptr from IsHit = ((λ j. refl), tt)
answered-gives n t ptr from (IsPast kept) = ((λ j. refl), tt)
answered-gives n t ptr from IsMiss = ((λ j. refl), ((λ j. refl), tt))

refused-gives : (n t : ℕ) (ptr : Ptr) (a : Access) → GiveNone (events_of_refused n t ptr a)
refused-gives n t ptr IsHit = tt
refused-gives n t ptr (IsPast kept) = ((λ j. refl), tt)
refused-gives n t ptr IsMiss = ((λ j. refl), ((λ j. refl), tt))

drop-gives : (n : ℕ) (held : Option Key) → GiveNone (events_of_drop n held)
drop-gives n None = tt
drop-gives n (Some key) = ((λ j. refl), tt)

hand-gives : (n c : ℕ) (held : Option Key) → GiveNone (events_of_hand n c held)
hand-gives n c None = tt
hand-gives n c (Some key) = ((λ j. refl), tt)

read-gives : (n t : ℕ) (s : PlainShard) (ptr : Ptr) (e : Effect) → GiveNone (events_of_read n t s ptr e)
read-gives n t s ptr (Answered from) = two-give (events_of_answered n t ptr from (access_of s ptr)) (events_of_drop n (held_by_access ptr (access_of s ptr))) (answered-gives n t ptr from (access_of s ptr)) (drop-gives n (held_by_access ptr (access_of s ptr)))
read-gives n t s ptr GivenBack = tt
read-gives n t s ptr (PoolRefused call) = refused-gives n t ptr (access_of s ptr)
read-gives n t s ptr NoEffect = tt

hold-gives : (n t : ℕ) (s : PlainShard) (ptr : Ptr) (e : Effect) → GiveNone (events_of_hold n t s ptr e)
hold-gives n t s ptr (Answered from) = answered-gives n t ptr from (access_of s ptr)
hold-gives n t s ptr GivenBack = tt
hold-gives n t s ptr (PoolRefused call) = refused-gives n t ptr (access_of s ptr)
hold-gives n t s ptr NoEffect = tt

dropping-gives : (n x : ℕ) (kept : List KeptRead) (e : Effect) → GiveNone (events_of_dropping n x kept e)
dropping-gives n x kept (Answered from) = tt
dropping-gives n x kept GivenBack = drop-gives n (oldest_key x kept)
dropping-gives n x kept (PoolRefused call) = tt
dropping-gives n x kept NoEffect = tt

of-block : (o : Option Ptr) (make : Ptr → List Event) → ((ptr : Ptr) → GiveNone (make ptr)) → GiveNone (option_map_or make o [])
of-block None make none = tt
of-block (Some ptr) make none = none ptr

op-gives : (blocks : List Ptr) (s : PlainShard) (kept : List KeptRead) (op : Op) (r : Reply) → GiveNone (events_of_op blocks s kept op r)
op-gives blocks s kept (ops.Read n t x window) r = of-block (slice_get blocks x) (λ ptr. events_of_read n t s ptr (effect_of r)) (λ ptr. read-gives n t s ptr (effect_of r))
op-gives blocks s kept (ops.Hold n t x) r = of-block (slice_get blocks x) (λ ptr. events_of_hold n t s ptr (effect_of r)) (λ ptr. hold-gives n t s ptr (effect_of r))
op-gives blocks s kept (ops.Drop n x) r = dropping-gives n x kept (effect_of r)
op-gives blocks s kept (ops.Cap c) r = ((λ j. refl), tt)
op-gives blocks s kept (ops.Get n t at window) r = tt
op-gives blocks s kept (ops.Put n t at size fill) r = tt
op-gives blocks s kept (ops.Patch n t at start bytes) r = tt
op-gives blocks s kept (ops.Pin n t at) r = tt
op-gives blocks s kept (ops.Unpin n at) r = tt
op-gives blocks s kept ops.Feed r = tt
op-gives blocks s kept (ops.Txg t) r = tt

-- ---- events of a line on an object

bringing-gives : (s : PlainShard) (n t c : ℕ) (brought : Brought) → GiveNone (events_of_bringing s n t c brought)
bringing-gives s n t c Nothing = tt
bringing-gives s n t c (Loaded ptr from) = two-give (events_of_answered n t ptr from (access_of s ptr)) (events_of_hand n c (held_by_access ptr (access_of s ptr))) (answered-gives n t ptr from (access_of s ptr)) (hand-gives n c (held_by_access ptr (access_of s ptr)))
bringing-gives s n t c (Refused ptr) = refused-gives n t ptr (access_of s ptr)

there-gives : (shards shard : ℕ) (brought : Brought) (es : List Event) → GiveNone es → GiveNone (brought_there shards shard brought es)
there-gives shards shard Nothing es none = tt
there-gives shards shard (Loaded ptr from) es none = if-gives (shard_of shards ptr.key == shard) es none
there-gives shards shard (Refused ptr) es none = if-gives (shard_of shards ptr.key == shard) es none

no-act : (act : Act) → ◌≡◌ {A = List Act} [] (act ∷ []) → ⊥
no-act act is = cc

act-gives : (e : Event) → HasAct e → GivesNone e
act-gives (Set n k place) has j = absurd (no-act has.0 has.1)
act-gives (Restore n k place d) has j = absurd (no-act has.0 has.1)
act-gives (Pass n k owner) has j = refl
act-gives (Hit n k t) has j = refl
act-gives (Miss n k t) has j = refl
act-gives (Arrive n k d from) has j = refl
act-gives (Fail n k at) has j = refl
act-gives (Drop n k) has j = refl
act-gives (Past n k kept) has j = refl
act-gives (Hand n k to) has j = refl
act-gives (Insert n k d t) has j = refl
act-gives (Release n k sole) has j = refl
act-gives (Pick n k) has j = refl
act-gives (FeedEnd n) has j = refl
act-gives (Leave n k why) has j = refl
act-gives (Clear n k) has j = refl
act-gives (Resize n c) has j = refl

made-gives : (g : Config) (shard : ℕ) (es : List Event) → AllByRecursion HasAct es → GiveNone (events_there g shard es)
made-gives g shard [] all = tt
made-gives g shard (e ∷ es) all = if-more (option_map_or (λ k. shard_of g.shards k == shard) (event_key e) false) e (events_there g shard es) (act-gives e all.0) (made-gives g shard es all.1)

-- ---- events of a sync and of a capacity

insert-gives : (g : Config) (tick i shard : ℕ) (history : List Event) (e : CellEvent) → GiveNone (insert_noted g tick i shard history e)
insert-gives g tick i shard history (cell_event.Synced n at ptr keeps) =
    if-gives (shard_of g.shards ptr.key == shard && is_new_here ptr.key (replay (opening_of g) history)) (Insert (cell_number g i) ptr.key ptr.digest tick ∷ []) ((λ j. refl), tt)
insert-gives g tick i shard history (cell_event.Get n at) = tt
insert-gives g tick i shard history (cell_event.Put n at size fill) = tt
insert-gives g tick i shard history (cell_event.Patch n at from bytes) = tt
insert-gives g tick i shard history (cell_event.Pin n at) = tt
insert-gives g tick i shard history (cell_event.Unpin n at) = tt
insert-gives g tick i shard history (cell_event.Load n at keeps) = tt
insert-gives g tick i shard history (cell_event.Evict n at) = tt
insert-gives g tick i shard history (cell_event.End n) = tt

inserts-give : (g : Config) (tick : ℕ) (noted : List Noted) (shard : ℕ) (history : List Event) → GiveNone (inserts_noted g tick noted shard history)
inserts-give g tick [] shard history = tt
inserts-give g tick (note ∷ noted) shard history =
    two-give (insert_noted g tick note.cell shard history note.event) (inserts_noted g tick noted shard (history ++ insert_noted g tick note.cell shard history note.event)) (insert-gives g tick note.cell shard history note.event)
    (inserts-give g tick noted shard (history ++ insert_noted g tick note.cell shard history note.event))

-- ---- what a line makes of places

-- each key has its shard
pub shard-below : (shards : ℕ) → (k : Key) → 0 < shards → shard_of shards k < shards
shard-below shards k some = omega (arith, some)

-- a history that went on by events that give no place
history-goes : (g : Config) → IsConfig g → (front es : List Event) → IsTrue (is_legal_history (opening_of g) (front ++ es)) → GiveNone es → (k : Key) (x : ℕ) → place_of k (replay (opening_of g) (front ++ es)) ≡ Some x
    → place_of k (replay (opening_of g) front) ≡ Some x
history-goes g valid front es legal none k x at =
    let parts = sound_front (opening_of g) front es (opening_sound g.c g.mintime g.bounds valid.amounts.c) legal in
    taking (replay (opening_of g) front) es k x parts.0 parts.1 (give_none k es none) (sym (ap (place_of k) (replay-append (opening_of g) front es)) ∙ at)

module _ {P D : Type 0} (pools : Ghosts P) (devices : Devices D) (trace : Trace) where
  -- of each shard more was done, by events that give no place
  abbrev GoesByNone : (from to : BetweenLines P D) → Type 0
  GoesByNone from to = (shard : ℕ) → (es : List Event) × (to.shards shard ≡ from.shards shard ++ es) × GiveNone es

  own-none : (on : Option OnObject) (l : Line) (from to : BetweenLines P D) → DoesOwn pools devices trace on l from to → GoesByNone from to
  own-none None l from to does shard = (
    _,
    does.goes_on.shards shard,
    if-gives (is_in_shard trace.config.shards trace.blocks shard l.op) (events_of_op trace.blocks (shard_behind trace.config from.shards shard) from.kept l.op l.reply)
        (op-gives trace.blocks (shard_behind trace.config from.shards shard) from.kept l.op l.reply),
  )
  own-none (Some on) l from to does shard = (
    _,
    does.goes_on.shards shard,
    two-give _ (events_there trace.config shard does.made)
        (there-gives trace.config.shards shard l.work.brought _ (bringing-gives (shard_behind trace.config from.shards shard) 0 on.tick _ l.work.brought)) (made-gives trace.config shard does.made does.kinds),
  )

  module _ (valid : IsConfig trace.config) where
    -- so each place that a key has behind was its own before
    goes-places : (from to : BetweenLines P D) → GoesByNone from to → AreLegalShards trace to.shards → PlacesGo trace.config (shard_behind trace.config from.shards) (shard_behind trace.config to.shards)
    goes-places from to goes legal k x at =
        let shard : ℕ = shard_of trace.config.shards k in
        let some = valid.counts.shards.0 in
        let here : IsTrue (is_legal_history (opening_of trace.config) (to.shards shard)) = legal shard (shard-below trace.config.shards k (omega (arith, some))) in
        let g = goes shard in
        history-goes trace.config valid (from.shards shard) g.0 (subst (λ (es : List Event). IsTrue (is_legal_history (opening_of trace.config) es)) g.1 here) g.2 k x
        (subst (λ (es : List Event). place_of k (replay (opening_of trace.config) es) ≡ Some x) g.1 at)

    -- behind a line of the caller's
    pub own-places : (on : Option OnObject) (l : Line) (from to : BetweenLines P D) → DoesOwn pools devices trace on l from to → AreLegalShards trace to.shards
        → PlacesGo trace.config (shard_behind trace.config from.shards) (shard_behind trace.config to.shards)
    own-places on l from to does legal = goes-places from to (own-none on l from to does) legal

    -- behind a sync or a capacity
    pub sync-places : (t : ℕ) (reply : Reply) (work : Work) (from to : BetweenLines P D) → DoesSync pools devices trace t reply work from to → AreLegalShards trace to.shards
        → PlacesGo trace.config (shard_behind trace.config from.shards) (shard_behind trace.config to.shards)
    sync-places t reply work from to does legal = goes-places from to (λ shard. (_, does.leaves.goes_on.shards shard, inserts-give trace.config t work.noted shard (from.shards shard))) legal

    pub cap-places : (c : ℕ) (reply : Reply) (from to : BetweenLines P D) → DoesCap pools devices trace c reply from to → AreLegalShards trace to.shards
        → PlacesGo trace.config (shard_behind trace.config from.shards) (shard_behind trace.config to.shards)
    cap-places c reply from to does legal =
        goes-places from to (λ shard. (_, does.goes_on.shards shard, if-gives (nat_lt shard trace.config.shards) (Resize trace.config.callers c ∷ []) ((λ j. refl), tt))) legal
