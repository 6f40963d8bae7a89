-- One caller's lines go in sequence, where its party has every number: each finds all that the lines before it did.
use Rattle.std.proofs.Common.{◌≡◌, ℕ, ◌+◌, true, List, [], ◌∷◌, ◌++◌, Option, Some, None, refl, sym, ap, ◌∙◌, subst, arith, append-nil}
use Rattle.std.specs.Prelude.{IfSome, slice_index_or}
use Rattle.std.specs.List.{AllByRecursion}
use Rattle.blk_ptr.specs.declared.ptr.Ptr.{Ptr}
use Rattle.vdev_io.specs.Calls.{Call, MakesCalls}
use Rattle.vdev_io.specs.declared.device.CacheDev.{Ghosts as Devices}
use Rattle.vdev_io.specs.declared.pool.Pool.{Ghosts}
use Rattle.arc_core.specs.Config.{IsConfig}
use Rattle.arc_core.specs.PlainShard.{PlainShard}
use Rattle.arc_core.specs.declared.config.Config.{Config}
use Rattle.arc_table.specs.Fronts.{front_of}
use Rattle.arc_table.specs.Geometry.{IsCell, cell_number}
use Rattle.arc_table.specs.Seen.{HasAll, seen_of}
use Rattle.arc_table.specs.declared.about.About.{About}
use Rattle.arc_table.specs.declared.view.Line.{Line as Seen}
use Rattle.dbuf_cells.specs.Places.{cell_of}
use Rattle.dbuf_cells.specs.Turns.{PartyPlace}
use Rattle.dbuf_state.specs.Numbers.{opening_numbers}
use Rattle.dbuf_state.specs.Outline.{outline_after}
use Rattle.dbuf_state.specs.declared.event.CellEvent.{CellEvent}
use Rattle.dbuf_state.specs.declared.state.Mapping.{Mapping}
use Rattle.trace_text.specs.declared.op.Op.{Op}
use Rattle.trace_text.specs.declared.reply.Reply.{Reply}
use Rattle.trace_text.specs.declared.trace.Trace.{Trace}
use Rattle.trace_run.specs.Deeds.{events_of_cell, events_there}
use Rattle.trace_run.specs.DeviceReads.{AsksFor, LineAsks}
use Rattle.trace_run.specs.Effects.{calls_of, effect_of}
use Rattle.trace_run.specs.Lines.{is_of_caller}
use Rattle.trace_run.specs.dbufs.Holders.{AreHolders}
use Rattle.trace_run.specs.dbufs.ObjectLines.{CameFrom, OnObject, TellsBrought, brought_there, events_of_bringing, on_object}
use Rattle.trace_run.specs.dbufs.ObjectReplies.{ActsFor, AnswersObject, BringsAt}
use Rattle.trace_run.specs.dbufs.Objects.{Brought, Line, Loaded, Nothing, Refused, Work, own_event}
use Rattle.trace_run.specs.Openings.{opening_map, openings_of}
use Rattle.trace_run.specs.Reads.{now_of}
use Rattle.trace_run.specs.Syncing.{lines_of}
use Rattle.trace_run.specs.callers.Together.{between_groups}
use Rattle.trace_run.specs.callers.WorkLines.{AsksBrought, AtWork, DidAlone, DidAll, DidLineBy, effect_with, size_brought}
use Rattle.trace_run.specs.one_caller.Asking.{AsksLine}
use Rattle.trace_run.specs.one_caller.LinesGone.{Gone, IsThere}
use Rattle.trace_run.specs.one_caller.Sequence.{AreInSequence, BetweenLines, DoesAnyLine, DoesLine, DoesObject, DoesOwn, IfLent, IsFoundIn, NotFromDevice}
use Rattle.trace_run.proofs.CapLemmas.{his-some}
use Rattle.trace_run.proofs.CellLemmas.{opening-at, opening-same}
use Rattle.trace_run.proofs.DeviceReadLemmas.{none-asked}
use Rattle.trace_run.proofs.WorkLemmas.{by-calls, by-keeps, by-number}
use Rattle.trace_run.proofs.callers.CallerActLemmas.{caller-is}
use Rattle.trace_run.proofs.deeds.ClosedDeeds.{entries-read}
use Rattle.trace_run.proofs.deeds.OperatesDone.{cell-there}
use Rattle.trace_run.proofs.syncs.SyncWrites.{lines-both}

module _ {P D E : Type 0} (pools : Ghosts P) (devices : Devices D) (given : Devices E) (trace : Trace) (lend : D → Option E) where
  abbrev g : Config
  g = trace.config

  abbrev blocks : List Ptr
  blocks = trace.blocks

  -- what lines asked of the device over which they were run they asked of the one that was lent
  record Lends : Type 0 where
    pub plain : (op : Op) (reply : Reply) (s : PlainShard) (a b : D) → LineAsks devices blocks op reply a b → (calls : List Call) × AsksLine devices blocks s op reply calls a b
        → IfLent (NotFromDevice (effect_of reply)) (λ old new. (calls : List Call) × AsksLine given blocks s op reply calls old new) (lend a) (lend b)
    pub object : (brought : Brought) (reply : Reply) (s : ℕ → PlainShard) (a b : D) → AsksFor devices (size_brought brought) (effect_with brought reply) a b → AsksBrought devices g s brought reply a b
        → IfLent (NotFromDevice (effect_with brought reply)) (AsksBrought given g s brought reply) (lend a) (lend b)

  module _ (lends : Lends) (valid : IsConfig g) (group next : ℕ) where
    -- where this caller is, whose party has seen so much of cells
    abbrev standing : AtWork P D → (ℕ → List CellEvent) → BetweenLines P E
    standing a cells = record { outside = between_groups a.outside.pool group next; device = lend a.outside.device; shards = λ shard. seen_of g shard a.party; cells = cells; kept = a.kept }

    abbrev SeesThese : AtWork P D → (ℕ → List CellEvent) → Type 0
    SeesThese a cells = (i : ℕ) → IsCell g i → front_of i a.party.own.seen ≡ lines_of (cells i)

    -- what was done to cells with a line
    abbrev with_line : (ℕ → List CellEvent) → Line → ℕ → List CellEvent
    with_line cells l i = cells i ++ events_of_cell i l.work.noted

    -- where the bytes of what was brought came from
    found-in : (p : PartyPlace) (brought : Brought) → CameFrom g p brought → IsFoundIn g (λ shard. now_of g shard p) brought
    found-in p Nothing came = came
    found-in p (Loaded ptr from) came = came
    found-in p (Refused ptr) came = came

    module _ (l : Line) (a b : AtWork P D) (cells : ℕ → List CellEvent) (number : a.party.number ≡ 0) (his : is_of_caller 0 l.op ≡ true) (all : HasAll a.party) (openings : a.party.own.about.openings ≡ openings_of trace) (sees : SeesThese a cells) where
      -- what the line leaves
      record Left : Type 0 where
        pub does : DoesOwn pools given trace (on_object l.op) l (standing a cells) (standing b (with_line cells l))
        pub has_all : HasAll b.party
        pub sees_then : SeesThese b (with_line cells l)

      none-more : (work : Work) → work.noted ≡ [] → (i : ℕ) → cells i ++ events_of_cell i work.noted ≡ cells i ++ []
      none-more work none i = ap (λ ns. cells i ++ events_of_cell i ns) none

      -- a line on no object
      left-plain : on_object l.op ≡ None → DidLineBy pools devices g blocks None l a b → Left
      left-plain plain d =
          let none = ap (λ (w : Work). w.noted) d.0 in
          record {
            does = subst (λ (o : Option OnObject). DoesOwn pools given trace o l (standing a cells) (standing b (with_line cells l))) (sym plain) record {
              answer = d.1.answer;
              found = d.1.found all;
              range = d.1.range;
              work = d.0;
              goes_on = record { shards = d.1.did.alone all; cells = λ i in_range. none-more l.work none i };
              kept = d.1.kept;
              asks = lends.plain l.op l.reply _ a.outside.device b.outside.device d.2 (d.3 all);
            };
            has_all = d.1.did.all all;
            sees_then = λ i in_range. d.1.did.cells (his-some 0 l.op his) i in_range ∙ (sees i in_range ∙ ap lines_of (sym (append-nil (cells i)) ∙ sym (none-more l.work none i)));
          }

      -- a line on an object
      module _ (on : OnObject) (x : DidAlone pools devices g a.outside b.outside a.party b.party on l) where
        abbrev i : ℕ
        i = cell_of g.cells on.at

        history : x.cell.value.history ≡ cells i
        history = entries-read x.cell.value.history (cells i) (x.seen ∙ sees i (cell-there g valid on.at))

        began : (x.cell.value.limit ≡ g.dbuf_bytes) × (x.cell.value.opening ≡ opening_map trace i)
        began = opening-same x.cell.value.limit g.dbuf_bytes x.cell.value.opening (opening_map trace i)
            (x.opening ∙ (ap (λ (os : List (List ℕ)). slice_index_or os i []) openings
            ∙ (opening-at (λ k. opening_numbers g.dbuf_bytes (opening_map trace k)) 0 g.cells i (cell-there g valid on.at) ∙ ap (λ k. opening_numbers g.dbuf_bytes (opening_map trace k)) (let z : 0 + i ≡ i = omega arith in z))))

        -- what is so by the cell that was found is so by what the lines before did there
        by-cell : (F : ℕ → List Mapping → List CellEvent → Type 0) → F x.cell.value.limit x.cell.value.opening x.cell.value.history → F g.dbuf_bytes (opening_map trace i) (cells i)
        by-cell F f = subst (λ (z : ℕ × List Mapping × List CellEvent). F z.0 z.1 z.2) (λ k. (began.0 k, began.1 k, history k)) f

        does-object : AsksFor devices (size_brought l.work.brought) (effect_with l.work.brought l.reply) a.outside.device b.outside.device
            → TellsBrought (pools.told a.outside.pool) l.work.brought → b.kept ≡ a.kept → DoesObject pools given trace on.at on.tick l (standing a cells) (standing b (with_line cells l))
        does-object asked told kept = record {
          brought = by-cell (λ limit opening h. BringsAt (pools.size a.outside.pool) on.at (outline_after limit opening h) l.work.brought) x.brought;
          found = found-in a.party l.work.brought x.found;
          range = told;
          acts = subst (λ (n : ℕ). ActsFor g n (AreHolders (cells i)) (own_event l.op) (outline_after g.dbuf_bytes (opening_map trace i) (cells i)) l.work l.reply) number
              (by-cell (λ limit opening h. ActsFor g a.party.number (AreHolders h) (own_event l.op) (outline_after limit opening h) l.work l.reply) x.acts);
          answer = by-cell (λ limit opening h. AnswersObject (pools.size a.outside.pool) (pools.told a.outside.pool) limit opening h l.work.brought l.op l.reply) x.answer;
          made = x.made;
          kinds = x.kinds;
          are = x.are;
          goes_on = record {
            shards = λ shard. subst (λ (n : ℕ). seen_of g shard b.party ≡ seen_of g shard a.party
                ++ (brought_there g.shards shard l.work.brought (events_of_bringing (now_of g shard a.party) n on.tick (cell_number g i) l.work.brought) ++ events_there g shard x.made)) number (x.events shard);
            cells = λ j in_range. refl;
          };
          kept = kept;
          asks = lends.object l.work.brought l.reply (λ shard. now_of g shard a.party) a.outside.device b.outside.device asked x.asks;
        }

      left-object : (on : OnObject) → on_object l.op ≡ Some on → DidLineBy pools devices g blocks (Some on) l a b → Left
      left-object on is d =
          let x = subst (λ (o : Option OnObject). IfSome o (λ on. DidAlone pools devices g a.outside b.outside a.party b.party on l)) is (d.1.alone all) in
          record {
            does = subst (λ (o : Option OnObject). DoesOwn pools given trace o l (standing a cells) (standing b (with_line cells l))) (sym is) (does-object on x d.1.asked d.1.range d.0);
            has_all = x.all;
            sees_then = λ j in_range. x.cells j in_range ∙ (ap (λ (s : List Seen). s ++ lines_of (events_of_cell j l.work.noted)) (sees j in_range) ∙ sym (lines-both (cells j) (events_of_cell j l.work.noted)));
          }

      left : (o : Option OnObject) → on_object l.op ≡ o → DidLineBy pools devices g blocks o l a b → Left
      left None is d = left-plain is d
      left (Some on) is d = left-object on is d

      -- the line, and what was read of the pool
      does-line : (w : Left) → DidLineBy pools devices g blocks (on_object l.op) l a b → DoesLine pools given trace l (standing a cells) (standing b (with_line cells l))
      does-line w d = record {
        did = w.does;
        calls = subst (λ (cs : List Call). MakesCalls pools cs a.outside.pool b.outside.pool) (sym (append-nil (calls_of (effect_with l.work.brought l.reply)))) (by-calls pools devices g blocks (on_object l.op) l a b d);
        group = refl;
        next = refl;
      }

    -- ---- all lines

    -- they lead on from there
    abbrev LeadOn : List Line → (ℕ → List CellEvent) → (a b : AtWork P D) → Type 0
    LeadOn ls cells a b = (then : ℕ → List CellEvent) × SeesThese b then × HasAll b.party × AreInSequence pools given trace ls [] (standing a cells) (standing b then)

    lead-on : (ls : List Line) (a b : AtWork P D) → DidAll pools devices g blocks ls a b → AllByRecursion (λ (l : Line). is_of_caller 0 l.op ≡ true) ls → a.party.number ≡ 0 → HasAll a.party → a.party.own.about.openings ≡ openings_of trace
        → (cells : ℕ → List CellEvent) → SeesThese a cells → LeadOn ls cells a b
    lead-on [] a b d his number all openings cells sees = (
      cells,
      subst (λ (x : AtWork P D). SeesThese x cells) (sym d) sees,
      subst (λ (x : AtWork P D). HasAll x.party) (sym d) all,
      (refl, ap (λ (x : AtWork P D). standing x cells) d),
    )
    lead-on (l ∷ ls) a b d his number all openings cells sees =
        let m = d.0 in
        let w = left l a m cells number his.0 all openings sees (on_object l.op) refl d.1 in
        let about = (by-keeps pools devices g blocks (on_object l.op) 0 l a m his.0 d.1).0.about in
        let rest = lead-on ls m b d.2 his.1 (by-number pools devices g blocks (on_object l.op) l a m d.1 ∙ number) w.has_all (ap (λ (x : About). x.openings) about ∙ openings) (with_line cells l) w.sees_then in (
          rest.0,
          rest.1,
          rest.2,
          (
            standing m (with_line cells l),
            [],
            [],
            refl,
            subst (λ (o : Option ℕ). DoesAnyLine pools given trace o l [] (standing a cells) (standing m (with_line cells l))) (sym (caller-is 0 l.op his.0)) (refl, does-line l a m cells number his.0 all openings sees w d.1),
            rest.3,
          ),
        )

  -- from where the party is
  goes : Lends → IsConfig g → (ls : List Line) (a b : AtWork P D) → DidAll pools devices g blocks ls a b → AllByRecursion (λ (l : Line). is_of_caller 0 l.op ≡ true) ls → HasAll a.party → a.party.number ≡ 0
      → a.party.own.about.openings ≡ openings_of trace → (at : BetweenLines P E) → IsThere g at a.party a.kept a.outside.pool (lend a.outside.device) → Gone pools given trace g ls at b.party b.kept b.outside.pool (lend b.outside.device)
  goes lends valid ls a b d his all number openings at there =
      let here = standing lends valid at.outside.group at.outside.next a at.cells in
      let is : at ≡ here = λ k. record {
        outside = record { pool = there.pool k; group = at.outside.group; next = at.outside.next };
        device = there.device k;
        shards = λ shard. sym (there.shards shard) k;
        cells = at.cells;
        kept = there.kept k;
      } in
      let r = lead-on lends valid at.outside.group at.outside.next ls a b d his number all openings at.cells there.cells in
      record {
        next = standing lends valid at.outside.group at.outside.next b r.0;
        there = record { shards = λ shard. refl; cells = r.1; kept = refl; pool = refl; device = refl };
        group = refl;
        next_group = refl;
        all = r.2;
        lines = subst (λ (x : BetweenLines P E). AreInSequence pools given trace ls [] x (standing lends valid at.outside.group at.outside.next b r.0)) (sym is) r.3;
      }

  -- by what is the trace's
  goes-as : Lends → (h : Config) (bs : List Ptr) → IsConfig h → h ≡ g → bs ≡ blocks → (ls : List Line) (a b : AtWork P D) → DidAll pools devices h bs ls a b → AllByRecursion (λ (l : Line). is_of_caller 0 l.op ≡ true) ls → HasAll a.party
      → a.party.number ≡ 0 → a.party.own.about.openings ≡ openings_of trace → (at : BetweenLines P E) → IsThere h at a.party a.kept a.outside.pool (lend a.outside.device) → Gone pools given trace h ls at b.party b.kept b.outside.pool (lend b.outside.device)
  goes-as lends h bs valid config is ls a b d his all number openings at there =
      subst (λ (x : Config × List Ptr). IsConfig x.0 → DidAll pools devices x.0 x.1 ls a b → IsThere x.0 at a.party a.kept a.outside.pool (lend a.outside.device) → Gone pools given trace x.0 ls at b.party b.kept b.outside.pool (lend b.outside.device))
      (λ k. (sym config k, sym is k)) (λ valid d there. goes lends valid ls a b d his all number openings at there) valid d there

-- over the device that was given
pub lines-over : {P D : Type 0} (pools : Ghosts P) (devices : Devices D) (trace : Trace) (g : Config) (blocks : List Ptr) → IsConfig g → g ≡ trace.config → blocks ≡ trace.blocks → (lines : List Line) (old new : AtWork P D)
    → DidAll pools devices g blocks lines old new → AllByRecursion (λ (l : Line). is_of_caller 0 l.op ≡ true) lines → HasAll old.party → old.party.number ≡ 0 → old.party.own.about.openings ≡ openings_of trace
    → (at : BetweenLines P D) → IsThere g at old.party old.kept old.outside.pool (Some old.outside.device) → Gone pools devices trace g lines at new.party new.kept new.outside.pool (Some new.outside.device)
lines-over pools devices trace = goes-as pools devices devices trace (λ d. Some d) record { plain = λ op reply s a b asked asks. asks; object = λ brought reply s a b asked asks. asks }

-- over a device without bytes, as where none was given
pub lines-without : {P D E : Type 0} (pools : Ghosts P) (devices : Devices D) (given : Devices E) (trace : Trace) (g : Config) (blocks : List Ptr) → ((d : D) → devices.size d ≡ 0) → IsConfig g → g ≡ trace.config → blocks ≡ trace.blocks
    → (lines : List Line) (old new : AtWork P D) → DidAll pools devices g blocks lines old new → AllByRecursion (λ (l : Line). is_of_caller 0 l.op ≡ true) lines → HasAll old.party → old.party.number ≡ 0
    → old.party.own.about.openings ≡ openings_of trace → (at : BetweenLines P E) → IsThere g at old.party old.kept old.outside.pool None → Gone pools given trace g lines at new.party new.kept new.outside.pool None
lines-without pools devices given trace g blocks empty = goes-as pools devices given trace (λ d. None) record {
  plain = λ op reply s a b asked asks. none-asked devices trace.blocks _ (effect_of reply) a b (empty a) asked;
  object = λ brought reply s a b asked asks. none-asked devices trace.blocks _ (effect_with brought reply) a b (empty a) asked;
} g blocks
