-- All lines of two runs of one trace: as far as both go each line comes to the same in both, and what stands between two lines is alike; or the runs part at a line.
use Rattle.std.proofs.Common.{◌≡◌, ℕ, suc, List, [], ◌∷◌, ◌++◌, length, take, Option, None, Some, refl, sym, ap, ◌∙◌, subst, inl, inr, append_assoc, append-nil}
use Rattle.std.specs.Prelude.{◌⊎◌, slice_get}
use Rattle.std.specs.List.{AllByRecursion}
use Rattle.blk_ptr.specs.Hash.{shard_of}
use Rattle.arc_core.specs.Config.{IsConfig}
use Rattle.arc_core.specs.PlainShard.{PlainShard, place_of}
use Rattle.arc_table.specs.Geometry.{IsCell}
use Rattle.dbuf_state.specs.declared.event.CellEvent.{CellEvent}
use Rattle.l2_dev.specs.Cursor.{CursorState}
use Rattle.l2_dev.proofs.ListLaws.{all_left, all_right}
use Rattle.l2_feed.specs.Alike.{AreCursorsAlike}
use Rattle.vdev_io.specs.Calls.{Call}
use Rattle.vdev_io.specs.declared.device.CacheDev.{Ghosts as Devices}
use Rattle.vdev_io.specs.declared.pool.Pool.{Ghosts}
use Rattle.trace_text.specs.declared.op.Op.{Op}
use Rattle.trace_text.specs.declared.op.Op.TheVariants as ops
use Rattle.trace_text.specs.declared.reply.Reply.{Reply}
use Rattle.trace_text.specs.declared.trace.Trace.{Trace}
use Rattle.trace_run.specs.Deeds.{events_of_cell}
use Rattle.trace_run.specs.FeedSeries.{GoOn}
use Rattle.trace_run.specs.Feeds.{FeedDone, IsFeedOf}
use Rattle.trace_run.specs.Lines.{caller_of}
use Rattle.trace_run.specs.RunWork.{FitsBy}
use Rattle.trace_run.specs.dbufs.Objects.{Line, Work, ops_of, replies_of}
use Rattle.trace_run.specs.one_caller.Sequence.{AreInSequence, BetweenLines, DoesAnyLine, shard_behind}
use Rattle.run_laws.specs.Alike.{AreAlike, AreAlikeSoFar, AreDevicesAlike, device_answers, device_answers_to, feeds_at, front_at, pool_answers, pool_answers_to}
use Rattle.run_laws.proofs.Behind.{same-shard}
use Rattle.run_laws.proofs.Facts.{OfEachLine}
use Rattle.run_laws.proofs.feeds.LinePlaces.{line-live}
use Rattle.run_laws.proofs.feeds.FeedPlaces.{PlacesLive}
use Rattle.run_laws.proofs.Rows.{so-far-front, so-far-rest, so-far-sym}
use Rattle.run_laws.proofs.Settled.{NotesAll, line-notes}
use Rattle.run_laws.proofs.ShardsLegal.{AreLegalShards}
use Rattle.run_laws.proofs.Steps.{PartsAt, StepAlike, memory}

-- ---- kinds of lines

pub data Kind : Type 0 where
  -- a read, a hold or a drop
  Reads : Kind
  -- a line on an object
  Objects : Kind
  Feeds : Kind
  Syncs : Kind
  Caps : Kind

abbrev pub kind_of : Op → Kind
kind_of (ops.Read n t x window) = Reads
kind_of (ops.Hold n t x) = Reads
kind_of (ops.Drop n x) = Reads
kind_of (ops.Get n t at window) = Objects
kind_of (ops.Put n t at size fill) = Objects
kind_of (ops.Patch n t at start bytes) = Objects
kind_of (ops.Pin n t at) = Objects
kind_of (ops.Unpin n at) = Objects
kind_of ops.Feed = Feeds
kind_of (ops.Txg t) = Syncs
kind_of (ops.Cap c) = Caps

-- ---- lists

-- feeds that went on from one cursor to another came by a cursor between any two of them
go-on-cut : (here behind : List FeedDone) (a b : CursorState) → GoOn (here ++ behind) a b → (mid : CursorState) × GoOn here a mid × GoOn behind mid b
go-on-cut [] behind a b on = (a, refl, on)
go-on-cut (feed ∷ here) behind a b on = let r = go-on-cut here behind feed.after b on.1 in (r.0, (on.0, r.1), r.2)

module _ {P D : Type 0} (pools : Ghosts P) (devices : Devices D) (trace : Trace) where
  -- ---- which of two runs is named first

  devices-sym : (s z : ℕ → PlainShard) → ((shard : ℕ) → z shard ≡ s shard) → (one other : Option D) → AreDevicesAlike pools devices trace s one other → AreDevicesAlike pools devices trace z other one
  devices-sym s z same None None alike = tt
  devices-sym s z same None (Some other) alike = absurd alike
  devices-sym s z same (Some one) None alike = absurd alike
  devices-sym s z same (Some one) (Some other) alike = record {
    size = sym alike.size;
    image = alike.other_image;
    other_image = alike.image;
    told = alike.other_told;
    other_told = alike.told;
    long = sym alike.long;
    places = λ k x at. sym (alike.places k x (sym (ap (place_of k) (same (shard_of trace.config.shards k))) ∙ at));
  }

  pub alike-sym : (one other : BetweenLines P D) → AreAlike pools devices trace one other → AreAlike pools devices trace other one
  alike-sym one other alike = record {
    image = alike.image;
    told = alike.other_told;
    other_told = alike.told;
    group = sym alike.group;
    next = sym alike.next;
    device = devices-sym (shard_behind trace.config one.shards) (shard_behind trace.config other.shards) (same-shard pools devices trace one other alike) one.device other.device alike.device;
    shards = λ shard. sym (alike.shards shard);
    cells = λ i is_cell. sym (alike.cells i is_cell);
    kept = sym alike.kept;
  }

  -- ---- the lines before a place

  -- The lines of both before this place are answered the same, and led from these cells to those.
  pub record ComeThere (ls ms : List Line) (from other : BetweenLines P D) (place : ℕ) (cells : ℕ → List CellEvent) : Type 0 where
    pub replies : take place (replies_of ms) ≡ take place (replies_of ls)
    pub did : (i : ℕ) → IsCell trace.config i → cells i ≡ from.cells i ++ front_at ls place i
    pub other_did : (i : ℕ) → IsCell trace.config i → cells i ≡ other.cells i ++ front_at ms place i

  -- before the first line
  there-now : (ls ms : List Line) (from other : BetweenLines P D) → AreAlike pools devices trace from other → ComeThere ls ms from other 0 from.cells
  there-now ls ms from other alike =
      record { replies = refl; did = λ i is_cell. sym (append-nil (from.cells i)); other_did = λ i is_cell. sym (alike.cells i is_cell) ∙ sym (append-nil (other.cells i)) }

  -- a line more before them
  led-more : (l : Line) (ls : List Line) (from next : BetweenLines P D) (place : ℕ) (cells : ℕ → List CellEvent) → NotesAll pools devices trace l.work from next → ((i : ℕ) → IsCell trace.config i → cells i ≡ next.cells i ++ front_at ls place i)
      → (i : ℕ) → IsCell trace.config i → cells i ≡ from.cells i ++ front_at (l ∷ ls) (suc place) i
  led-more l ls from next place cells notes did i is_cell =
      did i is_cell ∙ (ap (λ (es : List CellEvent). es ++ front_at ls place i) (notes i is_cell) ∙ append_assoc (from.cells i) (events_of_cell i l.work.noted) (front_at ls place i))

  -- the line at the place did the same in both
  module _ (l m : Line) (from next other other_next : BetweenLines P D) (reply : m.reply ≡ l.reply) (notes : NotesAll pools devices trace l.work from next) (other_notes : NotesAll pools devices trace m.work other other_next) where
    there-more : (ls ms : List Line) (place : ℕ) (cells : ℕ → List CellEvent) → ComeThere ls ms next other_next place cells → ComeThere (l ∷ ls) (m ∷ ms) from other (suc place) cells
    there-more ls ms place cells h = record {
      replies = λ j. reply j ∷ h.replies j;
      did = led-more l ls from next place cells notes h.did;
      other_did = led-more m ms other other_next place cells other_notes h.other_did;
    }

  -- ---- what all lines come to

  -- All lines of both are done, with the same replies, and have come to the same.
  pub record Together (ls ms : List Line) (from to other other_to : BetweenLines P D) (us vs : List Call) : Type 0 where
    pub then : AreAlike pools devices trace to other_to
    pub replies : replies_of ms ≡ replies_of ls
    pub pool : AreAlikeSoFar us vs
    pub there : ComeThere ls ms from other (length ls) to.cells

  -- The runs part at a line of both, whose cells had come to this by then.
  pub record PartsSomewhere (ls ms : List Line) (fs es : List FeedDone) (from to other other_to : BetweenLines P D) (did : AreInSequence pools devices trace ls fs from to) (other_did : AreInSequence pools devices trace ms es other other_to) : Type 0 where
    pub place : ℕ
    pub line : Line
    pub other_line : Line
    pub at : slice_get ls place ≡ Some line
    pub other_at : slice_get ms place ≡ Some other_line
    pub same : other_line.op ≡ line.op
    pub cells : ℕ → List CellEvent
    pub there : ComeThere ls ms from other place cells
    pub parts : PartsAt pools devices trace cells line other_line (feeds_at pools devices trace ls fs from to did place) (feeds_at pools devices trace ms es other other_to other_did place)

  -- ---- one line

  module _ (Holds : Line → (from to : BetweenLines P D) → Type 0) where
    -- A line was done in both runs, which had come to the same; the same of its calls failed; its feeds went on from the same ring, in which each place stands that a key has; and what is known of each run by itself holds of it.
    pub record BothDo (l m : Line) (here there : List FeedDone) (from to other other_to : BetweenLines P D) (did : DoesAnyLine pools devices trace (caller_of l.op) l here from to)
        (other_did : DoesAnyLine pools devices trace (caller_of m.op) m there other other_to) (a b c d : CursorState) : Type 0 where
      pub alike : AreAlike pools devices trace from other
      pub holds : Holds l from to
      pub other_holds : Holds m other other_to
      pub feeds : GoOn here a b
      pub other_feeds : GoOn there c d
      pub shapes : AllByRecursion (IsFeedOf trace.config.shards) here
      pub other_shapes : AllByRecursion (IsFeedOf trace.config.shards) there
      pub cursors : AreCursorsAlike a c
      pub placed : PlacesLive trace.config (shard_behind trace.config from.shards) a.ring.live
      pub pool : AreAlikeSoFar (pool_answers_to l) (pool_answers_to m)
      pub device : AreAlikeSoFar (device_answers_to pools devices trace (caller_of l.op) l here from to did) (device_answers_to pools devices trace (caller_of m.op) m there other other_to other_did)

    -- It came to the same in both, and so did the ring; or the runs part there.
    abbrev pub AlikeOrParts : (l m : Line) (here there : List FeedDone) (from to other other_to : BetweenLines P D) (did : DoesAnyLine pools devices trace (caller_of l.op) l here from to)
        (other_did : DoesAnyLine pools devices trace (caller_of m.op) m there other other_to) (b d : CursorState) → Type 0
    AlikeOrParts l m here there from to other other_to did other_did b d =
        (StepAlike pools devices trace l m here there from to other other_to did other_did × AreCursorsAlike b d) ⊎ PartsAt pools devices trace from.cells l m here there

    -- so it is of each line of this kind
    abbrev pub StepsAlike : Kind → Type 0
    StepsAlike kind = (op : Op) → kind_of op ≡ kind → (r q : Reply) (v w : Work) (here there : List FeedDone) (from to other other_to : BetweenLines P D)
        → (did : DoesAnyLine pools devices trace (caller_of op) (record { op = op; reply = r; work = v }) here from to) → (other_did : DoesAnyLine pools devices trace (caller_of op) (record { op = op; reply = q; work = w }) there other other_to)
        → (a b c d : CursorState) → BothDo (record { op = op; reply = r; work = v }) (record { op = op; reply = q; work = w }) here there from to other other_to did other_did a b c d
        → AlikeOrParts (record { op = op; reply = r; work = v }) (record { op = op; reply = q; work = w }) here there from to other other_to did other_did b d

    -- ---- all lines

    -- What is known before these lines of both runs: they had come to the same, the lines are as far as both go of the same operations, the same of their calls failed, with those that follow, and each place that a key has stands in the ring.
    pub record BothGo (ls ms : List Line) (fs es : List FeedDone) (from to other other_to : BetweenLines P D) (did : AreInSequence pools devices trace ls fs from to) (other_did : AreInSequence pools devices trace ms es other other_to)
        (us vs : List Call) (a b c d : CursorState) : Type 0 where
      pub alike : AreAlike pools devices trace from other
      pub same : AreAlikeSoFar (ops_of ls) (ops_of ms)
      pub holds : OfEachLine pools devices trace Holds ls fs from to did
      pub other_holds : OfEachLine pools devices trace Holds ms es other other_to other_did
      pub feeds : GoOn fs a b
      pub other_feeds : GoOn es c d
      pub shapes : AllByRecursion (IsFeedOf trace.config.shards) fs
      pub other_shapes : AllByRecursion (IsFeedOf trace.config.shards) es
      pub cursors : AreCursorsAlike a c
      pub placed : PlacesLive trace.config (shard_behind trace.config from.shards) a.ring.live
      pub pool : AreAlikeSoFar (pool_answers ls ++ us) (pool_answers ms ++ vs)
      pub device : AreAlikeSoFar (device_answers pools devices trace ls fs from to did) (device_answers pools devices trace ms es other other_to other_did)

    -- All lines of the one are done, and it had come to the same as the other before its next line.
    pub record GoesFurther (ls ms : List Line) (was to other_was other_to : BetweenLines P D) (us vs : List Call) : Type 0 where
      pub line : Line
      pub at : slice_get ms (length ls) ≡ Some line
      pub here : List FeedDone
      pub from : BetweenLines P D
      pub next : BetweenLines P D
      pub does : DoesAnyLine pools devices trace (caller_of line.op) line here from next
      pub holds : Holds line from next
      pub then : AreAlike pools devices trace to from
      pub rest : List Call
      pub pool : AreAlikeSoFar us (pool_answers_to line ++ rest)
      pub there : ComeThere ls ms was other_was (length ls) to.cells

    pub data ComeTo (ls ms : List Line) (fs es : List FeedDone) (from to other other_to : BetweenLines P D) (did : AreInSequence pools devices trace ls fs from to) (other_did : AreInSequence pools devices trace ms es other other_to)
        (us vs : List Call) : Type 0 where
      together : Together ls ms from to other other_to us vs → ComeTo ls ms fs es from to other other_to did other_did us vs
      other_further : GoesFurther ls ms from to other other_to us vs → ComeTo ls ms fs es from to other other_to did other_did us vs
      one_further : GoesFurther ms ls other other_to from to vs us → ComeTo ls ms fs es from to other other_to did other_did us vs
      parted : PartsSomewhere ls ms fs es from to other other_to did other_did → ComeTo ls ms fs es from to other other_to did other_did us vs

    -- the lines of one are done, and those of the other are not
    further-here : (m : Line) (ms : List Line) (es : List FeedDone) (to other other_to : BetweenLines P D) (other_did : AreInSequence pools devices trace (m ∷ ms) es other other_to) (us vs : List Call)
        → OfEachLine pools devices trace Holds (m ∷ ms) es other other_to other_did → AreAlike pools devices trace to other → AreAlikeSoFar us (pool_answers (m ∷ ms) ++ vs) → GoesFurther [] (m ∷ ms) to to other other_to us vs
    further-here m ms es to other other_to other_did us vs holds alike pool = record {
      line = m;
      at = refl;
      here = other_did.1;
      from = other;
      next = other_did.0;
      does = other_did.4;
      holds = holds.0;
      then = alike;
      rest = pool_answers ms ++ vs;
      pool = subst (AreAlikeSoFar us) (append_assoc (pool_answers_to m) (pool_answers ms) vs) pool;
      there = there-now [] (m ∷ ms) to other alike;
    }

    -- ---- a line of both, and those behind it

    module _ (l m : Line) (ls ms : List Line) (fs es : List FeedDone) (from to other other_to : BetweenLines P D) (did : AreInSequence pools devices trace (l ∷ ls) fs from to) (other_did : AreInSequence pools devices trace (m ∷ ms) es other other_to)
        (us vs : List Call) (a b c d : CursorState) (both : BothGo (l ∷ ls) (m ∷ ms) fs es from to other other_to did other_did us vs a b c d) where
      cut : (mid : CursorState) × GoOn did.1 a mid × GoOn did.2 mid b
      cut = go-on-cut did.1 did.2 a b (subst (λ (x : List FeedDone). GoOn x a b) did.3 both.feeds)

      other_cut : (mid : CursorState) × GoOn other_did.1 c mid × GoOn other_did.2 mid d
      other_cut = go-on-cut other_did.1 other_did.2 c d (subst (λ (x : List FeedDone). GoOn x c d) other_did.3 both.other_feeds)

      pool-rows : AreAlikeSoFar (pool_answers_to l ++ (pool_answers ls ++ us)) (pool_answers_to m ++ (pool_answers ms ++ vs))
      pool-rows = subst (λ (z : List Call × List Call). AreAlikeSoFar z.0 z.1) (λ i. (append_assoc (pool_answers_to l) (pool_answers ls) us i, append_assoc (pool_answers_to m) (pool_answers ms) vs i)) both.pool

      both-do : BothDo l m did.1 other_did.1 from did.0 other other_did.0 did.4 other_did.4 a cut.0 c other_cut.0
      both-do = record {
        alike = both.alike;
        holds = both.holds.0;
        other_holds = both.other_holds.0;
        feeds = cut.1;
        other_feeds = other_cut.1;
        shapes = all_left (IsFeedOf trace.config.shards) did.1 did.2 (subst (AllByRecursion (IsFeedOf trace.config.shards)) did.3 both.shapes);
        other_shapes = all_left (IsFeedOf trace.config.shards) other_did.1 other_did.2 (subst (AllByRecursion (IsFeedOf trace.config.shards)) other_did.3 both.other_shapes);
        cursors = both.cursors;
        placed = both.placed;
        pool = so-far-front (pool_answers_to l) (pool_answers ls ++ us) (pool_answers_to m) (pool_answers ms ++ vs) pool-rows;
        device = so-far-front (device_answers_to pools devices trace (caller_of l.op) l did.1 from did.0 did.4) _ (device_answers_to pools devices trace (caller_of m.op) m other_did.1 other other_did.0 other_did.4) _ both.device;
      }

      both-go-on : StepAlike pools devices trace l m did.1 other_did.1 from did.0 other other_did.0 did.4 other_did.4 → AreCursorsAlike cut.0 other_cut.0 → PlacesLive trace.config (shard_behind trace.config did.0.shards) cut.0.ring.live
          → BothGo ls ms did.2 other_did.2 did.0 to other_did.0 other_to did.5 other_did.5 us vs cut.0 b other_cut.0 d
      both-go-on s cursors placed = record {
        alike = s.then;
        same = both.same.1;
        holds = both.holds.1;
        other_holds = both.other_holds.1;
        feeds = cut.2;
        other_feeds = other_cut.2;
        shapes = all_right (IsFeedOf trace.config.shards) did.1 did.2 (subst (AllByRecursion (IsFeedOf trace.config.shards)) did.3 both.shapes);
        other_shapes = all_right (IsFeedOf trace.config.shards) other_did.1 other_did.2 (subst (AllByRecursion (IsFeedOf trace.config.shards)) other_did.3 both.other_shapes);
        cursors = cursors;
        placed = placed;
        pool = so-far-rest (pool_answers_to l) (pool_answers ls ++ us) (pool_answers_to m) (pool_answers ms ++ vs) s.pool pool-rows;
        device = so-far-rest (device_answers_to pools devices trace (caller_of l.op) l did.1 from did.0 did.4) _ (device_answers_to pools devices trace (caller_of m.op) m other_did.1 other other_did.0 other_did.4) _ s.device both.device;
      }

      parts-here : PartsAt pools devices trace from.cells l m did.1 other_did.1 → PartsSomewhere (l ∷ ls) (m ∷ ms) fs es from to other other_to did other_did
      parts-here p = record {
        place = 0;
        line = l;
        other_line = m;
        at = refl;
        other_at = refl;
        same = sym both.same.0;
        cells = from.cells;
        there = there-now (l ∷ ls) (m ∷ ms) from other both.alike;
        parts = p;
      }

      -- behind a line that did the same in both
      module _ (reply : m.reply ≡ l.reply) (notes : NotesAll pools devices trace l.work from did.0) (other_notes : NotesAll pools devices trace m.work other other_did.0) where
        parts-more : PartsSomewhere ls ms did.2 other_did.2 did.0 to other_did.0 other_to did.5 other_did.5 → PartsSomewhere (l ∷ ls) (m ∷ ms) fs es from to other other_to did other_did
        parts-more p = record {
          place = suc p.place;
          line = p.line;
          other_line = p.other_line;
          at = p.at;
          other_at = p.other_at;
          same = p.same;
          cells = p.cells;
          there = there-more l m from did.0 other other_did.0 reply notes other_notes ls ms p.place p.cells p.there;
          parts = p.parts;
        }

        together-more : Together ls ms did.0 to other_did.0 other_to us vs → Together (l ∷ ls) (m ∷ ms) from to other other_to us vs
        together-more t = record { then = t.then; replies = λ j. reply j ∷ t.replies j; pool = t.pool; there = there-more l m from did.0 other other_did.0 reply notes other_notes ls ms (length ls) to.cells t.there }

        other-more : GoesFurther ls ms did.0 to other_did.0 other_to us vs → GoesFurther (l ∷ ls) (m ∷ ms) from to other other_to us vs
        other-more g = record {
          line = g.line;
          at = g.at;
          here = g.here;
          from = g.from;
          next = g.next;
          does = g.does;
          holds = g.holds;
          then = g.then;
          rest = g.rest;
          pool = g.pool;
          there = there-more l m from did.0 other other_did.0 reply notes other_notes ls ms (length ls) to.cells g.there;
        }

        one-more : GoesFurther ms ls other_did.0 other_to did.0 to vs us → GoesFurther (m ∷ ms) (l ∷ ls) other other_to from to vs us
        one-more g = record {
          line = g.line;
          at = g.at;
          here = g.here;
          from = g.from;
          next = g.next;
          does = g.does;
          holds = g.holds;
          then = g.then;
          rest = g.rest;
          pool = g.pool;
          there = there-more m l other other_did.0 from did.0 (sym reply) other_notes notes ms ls (length ms) other_to.cells g.there;
        }

        come-more : ComeTo ls ms did.2 other_did.2 did.0 to other_did.0 other_to did.5 other_did.5 us vs → ComeTo (l ∷ ls) (m ∷ ms) fs es from to other other_to did other_did us vs
        come-more (together t) = together (together-more t)
        come-more (other_further g) = other_further (other-more g)
        come-more (one_further g) = one_further (one-more g)
        come-more (parted p) = parted (parts-more p)

    module _ (valid : IsConfig trace.config) (legal : (l : Line) (from to : BetweenLines P D) → Holds l from to → AreLegalShards trace to.shards) (fits : (l : Line) (from to : BetweenLines P D) → Holds l from to → FitsBy trace.config (caller_of l.op) l) (steps : (kind : Kind) → StepsAlike kind) where
      -- one operation is named by both
      step : (l m : Line) → m.op ≡ l.op → (here there : List FeedDone) (from to other other_to : BetweenLines P D) (did : DoesAnyLine pools devices trace (caller_of l.op) l here from to)
          → (other_did : DoesAnyLine pools devices trace (caller_of m.op) m there other other_to) → (a b c d : CursorState) → BothDo l m here there from to other other_to did other_did a b c d
          → AlikeOrParts l m here there from to other other_to did other_did b d
      step l m same here there from to other other_to did other_did a b c d both =
          subst (λ (o : Op). (x : DoesAnyLine pools devices trace (caller_of o) (record { op = o; reply = m.reply; work = m.work }) there other other_to)
          → BothDo l (record { op = o; reply = m.reply; work = m.work }) here there from to other other_to did x a b c d → AlikeOrParts l (record { op = o; reply = m.reply; work = m.work }) here there from to other other_to did x b d)
          (sym same) (λ x. steps (kind_of l.op) l.op refl l.reply m.reply l.work m.work here there from to other other_to did x a b c d) other_did both

      pub lines-alike : (ls ms : List Line) (fs es : List FeedDone) (from to other other_to : BetweenLines P D) (did : AreInSequence pools devices trace ls fs from to) (other_did : AreInSequence pools devices trace ms es other other_to)
          (us vs : List Call) (a b c d : CursorState) → BothGo ls ms fs es from to other other_to did other_did us vs a b c d → ComeTo ls ms fs es from to other other_to did other_did us vs
      lines-alike [] [] fs es from to other other_to did other_did us vs a b c d both =
          let here : Together [] [] from from other other us vs = record { then = both.alike; replies = refl; pool = both.pool; there = there-now [] [] from other both.alike } in
          together (subst (λ (z : BetweenLines P D × BetweenLines P D). Together [] [] from z.0 other z.1 us vs) (λ i. (sym did.1 i, sym other_did.1 i)) here)
      lines-alike [] (m ∷ ms) fs es from to other other_to did other_did us vs a b c d both =
          other_further (subst (λ (x : BetweenLines P D). GoesFurther [] (m ∷ ms) from x other other_to us vs) (sym did.1) (further-here m ms es from other other_to other_did us vs both.other_holds both.alike both.pool))
      lines-alike (l ∷ ls) [] fs es from to other other_to did other_did us vs a b c d both =
          one_further (subst (λ (x : BetweenLines P D). GoesFurther [] (l ∷ ls) other x from to vs us) (sym other_did.1)
          (further-here l ls fs other from to did vs us both.holds (alike-sym from other both.alike) (so-far-sym (pool_answers (l ∷ ls) ++ us) vs both.pool)))
      lines-alike (l ∷ ls) (m ∷ ms) fs es from to other other_to did other_did us vs a b c d both =
          let first = cut l m ls ms fs es from to other other_to did other_did us vs a b c d both in
          let second = other_cut l m ls ms fs es from to other other_to did other_did us vs a b c d both in
          let do_both = both-do l m ls ms fs es from to other other_to did other_did us vs a b c d both in
          elim (line-live pools devices trace valid (caller_of l.op) l did.1 from did.0 a first.0 did.4 (legal l from did.0 both.holds.0) do_both.shapes first.1 both.placed) [
            | inl wants ↦ parted (parts-here l m ls ms fs es from to other other_to did other_did us vs a b c d both (memory (inl wants)))
            | inr placed ↦ (elim (step l m (sym both.same.0) did.1 other_did.1 from did.0 other other_did.0 did.4 other_did.4 a first.0 c second.0 do_both) [
              | inl s ↦ come-more l m ls ms fs es from to other other_to did other_did us vs a b c d both s.0.reply
                  (line-notes pools devices trace (caller_of l.op) l did.1 from did.0 (fits l from did.0 both.holds.0) did.4)
                  (line-notes pools devices trace (caller_of m.op) m other_did.1 other other_did.0 (fits m other other_did.0 both.other_holds.0) other_did.4)
                  (lines-alike ls ms did.2 other_did.2 did.0 to other_did.0 other_to did.5 other_did.5 us vs first.0 b second.0 d
                  (both-go-on l m ls ms fs es from to other other_to did other_did us vs a b c d both s.0 s.1 placed))
              | inr p ↦ parted (parts-here l m ls ms fs es from to other other_to did other_did us vs a b c d both p)
            ])
          ]
