-- What a line on an object was answered, and what it did beside its reply, by the cell that its party found: as the contract of its call says it.
use Rattle.std.proofs.Common.{◌≡◌, ◌⊎◌, ℕ, Bool, List, [], ◌∷◌, ◌++◌, map, Option, inl, inr, refl, sym, ap, ◌∙◌, subst, append-nil}
use Rattle.std.specs.List.{AllByRecursion}
use Rattle.blk_ptr.specs.declared.key.Key.{Key}
use Rattle.blk_ptr.specs.declared.key.KeyFault.{KeyFault}
use Rattle.blk_ptr.specs.declared.ptr.Ptr.{Ptr}
use Rattle.vdev_io.specs.declared.device.CacheDev.{Ghosts as DeviceGhosts}
use Rattle.vdev_io.specs.declared.pool.Pool.{Ghosts as PoolGhosts}
use Rattle.arc_core.specs.Config.{IsConfig}
use Rattle.arc_core.specs.declared.config.Config.{Config}
use Rattle.arc_core.specs.declared.event.Event.{Event}
use Rattle.arc_core.specs.declared.event.Event.TheVariants.{Drop, Release}
use Rattle.arc_core.specs.Operations.{Act, GivesBack, MakesPrivate}
use Rattle.arc_table.specs.declared.view.Line.{Line as Seen}
use Rattle.arc_table.specs.Geometry.{cell_number}
use Rattle.arc_table.specs.Reading.{Outside}
use Rattle.arc_table.specs.Seen.{HasAll}
use Rattle.dbuf_cells.specs.Places.{cell_of}
use Rattle.dbuf_cells.specs.Turns.{AreEvictions, OnHeap, PartyPlace, held_in, outline_in}
use Rattle.dbuf_state.proofs.OutlineLemmas.{leads-outline}
use Rattle.dbuf_state.specs.Objects.{Evicting, Never, opening_cell}
use Rattle.dbuf_state.specs.Outline.{Outline, OutlineDbuf, after_all, has_pin_at, is_cached_at, mapped_at, outline_after}
use Rattle.dbuf_state.specs.Soundness.{IsSound, plain_cell}
use Rattle.dbuf_state.specs.declared.event.CellEvent.{CellEvent}
use Rattle.dbuf_state.specs.declared.event.CellEvent.TheVariants as events
use Rattle.dbuf_state.specs.declared.oid.Oid.{Oid}
use Rattle.trace_text.specs.declared.op.Op.{Op}
use Rattle.trace_text.specs.declared.reply.Refusal.TheVariants as refusals
use Rattle.trace_text.specs.declared.reply.Reply.{Reply}
use Rattle.trace_run.specs.callers.WorkLines.{AsksBrought, DidAlone}
use Rattle.trace_run.specs.dbufs.CellEnds.{done_by}
use Rattle.trace_run.specs.Deeds.{HasAct, HasToldAll, Noted, acts_of_events, events_of_cell, noted_in}
use Rattle.trace_run.specs.dbufs.Holders.{AreHolders}
use Rattle.trace_run.specs.dbufs.ObjectLines.{Did, DidNot, EndsInside, FindsCell, IsBrought, ReleasesFor, SpentOn, TellsBrought, WasToBring, cell_lines}
use Rattle.trace_run.specs.dbufs.ObjectReplies.{ActsAt, ActsFor, AnswersObject, BringsAt, LooksFrom}
use Rattle.trace_run.specs.dbufs.Objects.{AnswersKey, AnswersNoBlock, AnswersRange, Brought, Line, Loaded, NotesNothing, Nothing, Refused, Work, held_once, loads_of, own_event}
use Rattle.trace_run.specs.Reads.{now_of}
use Rattle.trace_run.proofs.deeds.ClosedDeeds.{entries-read}
use Rattle.trace_run.proofs.deeds.OperatesDone.{AreOfCell, both-of, cell-there, evictions-of, release-of}
use Rattle.trace_run.proofs.deeds.OutlineFound.{after-so, evictions-so, releases-so}

-- the dbufs of a sound cell are as its history tells
pub dbufs-so : (cell : OnHeap) → IsSound cell.value → (outline_in cell).dbufs ≡ (outline_after cell.value.limit cell.value.opening cell.value.history).dbufs
dbufs-so cell sound = ap (λ (o : Outline). o.dbufs) (leads-outline (opening_cell cell.value.limit cell.value.opening) cell.value.history sound.bases (plain_cell sound.evicting cell.value) sound.history.legal)

-- what two outlines with the same dbufs tell of a block
module _ (at : Oid) (o x : Outline) (same : o.dbufs ≡ x.dbufs) where
  abbrev along : (ds : List OutlineDbuf) → Outline
  along ds = record { limit = 0; dbufs = ds; events = 0; evicting = Never }

  same-mapped : mapped_at at x ≡ mapped_at at o
  same-mapped = λ i. mapped_at at (along (sym same i))

  same-cached : is_cached_at at x ≡ is_cached_at at o
  same-cached = λ i. is_cached_at at (along (sym same i))

  pub same-pin : (n : ℕ) → has_pin_at n at x ≡ has_pin_at n at o
  same-pin n = λ i. has_pin_at n at (along (sym same i))

  pub no-block : (named : Oid) → AnswersNoBlock at named o → AnswersNoBlock at named x
  no-block named w = (w.0, same-mapped ∙ w.1)

  pub past-it : (last end size : ℕ) → AnswersRange at last end size o → AnswersRange at last end size x
  past-it last end size w = record { end_is = w.end_is; mapped = w.mapped; there = same-mapped ∙ w.there; size_is = w.size_is; past = w.past }

  pub inside-it : (last : ℕ) → EndsInside at last o → EndsInside at last x
  inside-it last w = record { mapped = w.mapped; there = same-mapped ∙ w.there; inside = w.inside }

  pub to-bring : (ptr : Ptr) → WasToBring at ptr o → WasToBring at ptr x
  to-bring ptr w = record { pointer = same-mapped ∙ w.pointer; uncached = same-cached ∙ w.uncached }

  pub bad-key : (len : ℕ) (why : KeyFault) → AnswersKey len at o (refusals.Key why) → AnswersKey len at x (refusals.Key why)
  bad-key len why w = (w.0, same-mapped ∙ w.1, w.2)

-- the outline that was found, by what had been done
abbrev pub found_outline : OnHeap → Outline
found_outline cell = outline_after cell.value.limit cell.value.opening cell.value.history

-- ---- what a line did

-- each event of a cell's number stands for an act
of-have : (c : ℕ) (es : List Event) → AreOfCell c es → AllByRecursion HasAct es
of-have c [] all = tt
of-have c (e ∷ es) all = (one all.0, of-have c es all.1)
  where
    one : ((k : Key) × (e ≡ Drop c k)) ⊎ ((k : Key) × (sole : Bool) × (e ≡ Release c k sole)) → HasAct e
    one (inl drop) = subst HasAct (sym drop.1) (GivesBack c drop.0, refl)
    one (inr release) = subst HasAct (sym release.2) (MakesPrivate c release.0, refl)

-- what an operation lets go are events of the cell's number
released-of : (c : ℕ) (held : Oid → Bool) (own : CellEvent) (o : Outline) (es : List Event) → ReleasesFor c held own o es → AreOfCell c es
released-of c held (events.Put n at size fill) o es r = release-of c at (held at) o es r
released-of c held (events.Patch n at from bytes) o es r = release-of c at (held at) o es r
released-of c held (events.Get n at) o es r = subst (AreOfCell c) (sym r) tt
released-of c held (events.Pin n at) o es r = subst (AreOfCell c) (sym r) tt
released-of c held (events.Unpin n at) o es r = subst (AreOfCell c) (sym r) tt
released-of c held (events.Load n at bit) o es r = subst (AreOfCell c) (sym r) tt
released-of c held (events.Evict n at) o es r = subst (AreOfCell c) (sym r) tt
released-of c held (events.Synced n at ptr bit) o es r = subst (AreOfCell c) (sym r) tt
released-of c held (events.End n) o es r = subst (AreOfCell c) (sym r) tt

-- what a refused line did: at most the access that was refused
abbrev pub tried : Brought → Work
tried brought = record { brought = brought; noted = []; acts = [] }

module _ (g : Config) (at : Oid) (t : ℕ) (p q : PartyPlace) (own : CellEvent) (brought : Brought) (Fits : OnHeap → Type 0) (d : Did g at t p q own brought Fits) where
  abbrev pub did-work : Work
  did-work = record {
    brought = brought;
    noted = noted_in (cell_of g.cells at) (loads_of p.number at brought ++ own ∷ map (events.Evict p.number) d.evicted);
    acts = acts_of_events (d.released ++ d.drops);
  }

  abbrev c : ℕ
  c = cell_number g (cell_of g.cells at)

  abbrev loads : List CellEvent
  loads = loads_of p.number at brought

  abbrev o : Outline
  o = outline_in d.cell

  abbrev due : Evicting
  due = d.found.sound.evicting

  -- which dbufs had a hold behind the Load
  abbrev held : Oid → Bool
  held = held_once at brought (held_in d.cell)

  -- all that it made with the cell's number
  pub made-of : AreOfCell c (d.released ++ d.drops)
  made-of = both-of c d.released d.drops (released-of c held own _ d.released d.releases) (evictions-of p.number c held _ (map (events.Evict p.number) d.evicted) d.drops d.evictions)

  pub acts-at : (AreHeld : (Oid → Bool) → Type 0) → AreHeld (held_in d.cell) → ActsAt g p.number AreHeld (record { at = at; event = own }) (found_outline d.cell) did-work
  acts-at AreHeld are = subst (λ (x : Outline). ActsAt g p.number AreHeld (record { at = at; event = own }) x did-work)
      (leads-outline (opening_cell d.cell.value.limit d.cell.value.opening) d.cell.value.history d.found.sound.bases (plain_cell due d.cell.value) d.found.sound.history.legal) record {
        held = held_in d.cell;
        are_held = are;
        evictions = d.evicted;
        noted = refl;
        released = d.released;
        drops = d.drops;
        releases =
            let s = after-so o due loads in
            subst (λ (x : Outline). ReleasesFor c held own x d.released) (sym s.1) (releases-so c held own (after_all o loads) s.0 d.released d.releases);
        evicted =
            let s = after-so o due (loads ++ own ∷ []) in
            subst (λ (x : Outline). AreEvictions p.number c held x (map (events.Evict p.number) d.evicted) d.drops) (sym s.1)
            (evictions-so p.number c held (after_all o (loads ++ own ∷ [])) s.0 (map (events.Evict p.number) d.evicted) d.drops d.evictions);
        acts = refl;
      }

-- ---- what it was answered

module _ {P D : Type 0} (pools : PoolGhosts P) (devices : DeviceGhosts D) (g : Config) (before now : Outside P D) (p q : PartyPlace) where
  abbrev pub len : ℕ
  len = pools.size before.pool

  abbrev pub image : Option (List ℕ)
  image = pools.told before.pool

  -- whatever the party has told, where the numbers are a configuration; and all of it where the party has every number
  abbrev pub From : Oid → (tick : ℕ) → Line → Type 0
  From at t l = (IsConfig g → (did : List Act) (had : List Noted) → HasToldAll g did had p → LooksFrom g len image p.own.about.openings p.own.seen q.own.seen p.number had at l)
      × (HasAll p → DidAlone pools devices g before now p q (record { at = at; tick = t }) l)

  abbrev pub By : OnHeap → Brought → Op → Reply → Type 0
  By cell brought op reply = AnswersObject len image cell.value.limit cell.value.opening cell.value.history brought op reply

  -- what it had told of the cell is all that it had done there
  told-is : IsConfig g → (at : Oid) (cell : OnHeap) → FindsCell g (cell_of g.cells at) cell p q → (did : List Act) (had : List Noted) → HasToldAll g did had p → done_by p.number cell.value.history ≡ events_of_cell (cell_of g.cells at) had
  told-is valid at cell f did had told_all = entries-read (done_by p.number cell.value.history) (events_of_cell (cell_of g.cells at) had) (sym f.mine ∙ told_all.entries (cell_of g.cells at) (cell-there g valid at))

  -- what was brought for an answered line
  pub brings-so : (at : Oid) (brought : Brought) (reply : Reply) (cell : OnHeap) → IsSound cell.value → IsBrought at (outline_in cell) brought → SpentOn pools devices g p before now brought reply → BringsAt len at (found_outline cell) brought
  brings-so at Nothing reply cell sound is spent = tt
  brings-so at (Loaded ptr from) reply cell sound is spent = (to-bring at (outline_in cell) (found_outline cell) (dbufs-so cell sound) ptr is, spent.valid)
  brings-so at (Refused ptr) reply cell sound is spent = absurd is

  -- what the device was asked for by a party that has every number
  asks-so : (brought : Brought) (reply : Reply) → SpentOn pools devices g p before now brought reply → HasAll p → AsksBrought devices g (λ shard. now_of g shard p) brought reply before.device now.device
  asks-so Nothing reply spent all = ap (λ (x : Outside P D). x.device) spent
  asks-so (Loaded ptr from) reply spent all = spent.asks all
  asks-so (Refused ptr) reply spent all = spent.asks all

  -- what the pool tells there of what it gave
  range-so : (brought : Brought) (reply : Reply) → SpentOn pools devices g p before now brought reply → TellsBrought image brought
  range-so Nothing reply spent = tt
  range-so (Loaded ptr from) reply spent = spent.range
  range-so (Refused ptr) reply spent = tt

  -- a line that was done, and one that was refused
  pub from-done : (at : Oid) (t : ℕ) (own : CellEvent) (brought : Brought) (Fits : OnHeap → Type 0) (op : Op) (reply : Reply) (d : Did g at t p q own brought Fits)
      → ((AreHeld : (Oid → Bool) → Type 0) → ActsAt g p.number AreHeld (record { at = at; event = own }) (found_outline d.cell) (did-work g at t p q own brought Fits d)
      → ActsFor g p.number AreHeld (own_event op) (found_outline d.cell) (did-work g at t p q own brought Fits d) reply)
      → BringsAt len at (found_outline d.cell) brought → By d.cell brought op reply → SpentOn pools devices g p before now brought reply
      → From at t (record { op = op; reply = reply; work = did-work g at t p q own brought Fits d })
  from-done at t own brought Fits op reply d so brings answer spent = (
    λ valid did had told_all. record {
      from = record {
        cell = d.cell;
        sound = d.found.sound;
        opening = d.found.opening;
        mine = told-is valid at d.cell d.found did had told_all;
        front = d.placed;
        brought = brings;
        acts = so (AreHolders d.cell.value.history) (acts-at g at t p q own brought Fits d (AreHolders d.cell.value.history) d.holders);
        answer = answer;
        range = range-so brought reply spent;
      };
      since = d.found.had;
    },
    λ all. record {
      cell = d.cell;
      sound = d.found.sound;
      opening = d.found.opening;
      seen = d.found.alone all;
      brought = brings;
      found = d.work.source all;
      acts = so (AreHolders d.cell.value.history) (acts-at g at t p q own brought Fits d (AreHolders d.cell.value.history) d.holders);
      answer = answer;
      made = d.released ++ d.drops;
      kinds = of-have (cell_number g (cell_of g.cells at)) (d.released ++ d.drops) (made-of g at t p q own brought Fits d);
      are = refl;
      events = d.work.alone all;
      cells = d.work.cells_alone all;
      all = d.work.all all;
      asks = asks-so brought reply spent all;
    },
  )

  pub from-not : (at : Oid) (t : ℕ) (brought : Brought) (Why : OnHeap → Type 0) (op : Op) (reply : Reply) (d : DidNot g at t p q brought Why)
      → ((AreHeld : (Oid → Bool) → Type 0) → NotesNothing (tried brought) → ActsFor g p.number AreHeld (own_event op) (found_outline d.cell) (tried brought) reply) → BringsAt len at (found_outline d.cell) brought → By d.cell brought op reply → SpentOn pools devices g p before now brought reply
      → From at t (record { op = op; reply = reply; work = tried brought })
  from-not at t brought Why op reply d so brings answer spent = (
    λ valid did had told_all. record {
      from = record {
        cell = d.cell;
        sound = d.found.sound;
        opening = d.found.opening;
        mine = told-is valid at d.cell d.found did had told_all;
        front = (d.found.seen.0, d.found.seen.1 ∙ ap (λ (l : List Seen). l ++ d.found.seen.0) (sym (append-nil (cell_lines d.cell))));
        brought = brings;
        acts = so (AreHolders d.cell.value.history) (refl, refl);
        answer = answer;
        range = range-so brought reply spent;
      };
      since = d.found.had;
    },
    λ all. record {
      cell = d.cell;
      sound = d.found.sound;
      opening = d.found.opening;
      seen = d.found.alone all;
      brought = brings;
      found = d.work.source all;
      acts = so (AreHolders d.cell.value.history) (refl, refl);
      answer = answer;
      made = [];
      kinds = tt;
      are = refl;
      events = d.work.alone all;
      cells = d.work.cells_alone all;
      all = d.work.all all;
      asks = asks-so brought reply spent all;
    },
  )
