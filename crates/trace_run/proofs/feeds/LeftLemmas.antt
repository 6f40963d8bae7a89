-- What the feeds of a run leave of the cache device: from the histories of the closed cache, also where none was made; and from what a start found.
use Rattle.std.proofs.Common.{◌≡◌, ◌≢◌, ◌<◌, ◌≤◌, ℕ, zero, suc, IsTrue, List, [], ◌∷◌, ◌++◌, Option, Some, None, length, map, refl, sym, ap, ◌∙◌, subst, inl, inr, arith, append-nil}
use Rattle.std.specs.Prelude.{slice_index_or}
use Rattle.std.specs.List.{AllByRecursion}
use Rattle.std.proofs.lemmas.Bool.{cases_lt}
use Rattle.arc_lists.proofs.Tables.{cases_true}
use Rattle.vdev_io.specs.declared.device.CacheDev.{Ghosts}
use Rattle.l2_log.specs.Rules.{least_ring_end}
use Rattle.arc_core.specs.Config.{IsConfig}
use Rattle.arc_core.specs.declared.config.Config.{Config}
use Rattle.arc_core.specs.declared.event.Event.{Event}
use Rattle.arc_core.specs.declared.served.Restored.{Restored}
use Rattle.arc_core.specs.Operations.{has_its_number, own_events}
use Rattle.arc_core.specs.Replay.{is_legal_history}
use Rattle.turn_table.specs.Places.{Place}
use Rattle.arc_table.specs.declared.view.Known.{Known}
use Rattle.arc_table.specs.declared.view.Line.{Line as Seen}
use Rattle.arc_table.specs.declared.view.Line.TheVariants as line
use Rattle.arc_table.specs.Cache.{Cache}
use Rattle.arc_table.specs.Fronts.{StartsWith, front_of, put}
use Rattle.arc_table.specs.Items.{Meanings}
use Rattle.arc_table.specs.Seen.{events_in, seen_of, turn_of}
use Rattle.arc_table.specs.TableLaws.{front_else, front_here}
use Rattle.arc_table.specs.Telling.{opening_of}
use Rattle.arc_table.specs.Views.{newcomer}
use Rattle.arc_table.proofs.SeenLemmas.{events-map}
use Rattle.dbuf_cells.specs.Turns.{OnHeap, dbuf_meanings}
use Rattle.l2_dev.specs.Cursor.{CursorState}
use Rattle.l2_dev.specs.Rebuilding.{IsOpened, ring_end_of}
use Rattle.l2_feed.specs.Series.{GivesNone}
use Rattle.trace_text.specs.declared.op.Op.{Op}
use Rattle.trace_text.specs.declared.rebuilt.Rebuilt.{Rebuilt}
use Rattle.trace_text.specs.declared.reply.Reply.{Reply}
use Rattle.trace_text.specs.declared.ends.ShardEnd.{ShardEnd}
use Rattle.trace_text.specs.declared.trace.Trace.{Trace}
use Rattle.trace_run.specs.declared.device.Device.{Device}
use Rattle.trace_run.specs.declared.device.Device.TheVariants as device
use Rattle.trace_run.specs.Acts.{events_of_feeder}
use Rattle.trace_run.specs.Devices.{Finds, IsRightKind, WasLent, cursor_in, device_of}
use Rattle.trace_run.specs.Explaining.{Explain}
use Rattle.trace_run.specs.FeedEvents.{events_of_lines, was_fed}
use Rattle.trace_run.specs.FeedSeries.{AreInTurnOf, AreMadeSoFar, LeavesFed, SeesMore, WasFedFrom}
use Rattle.trace_run.specs.Feeds.{FeedDone}
use Rattle.trace_run.specs.Restores.{events_by_feeder, found_keys, restores_in}
use Rattle.trace_run.specs.RunWork.{RunWork}
use Rattle.trace_run.proofs.FeederLemmas.{own-restores}
use Rattle.trace_run.proofs.callers.EndedLemmas.{asked-gives}
use Rattle.trace_run.proofs.feeds.SeriesLemmas.{GoesTo, left-fed, read-lent, restores-none, sees-by, sees-same}
use Rattle.trace_run.proofs.one_caller.TellLemmas.{all-append}
use Rattle.trace_run.proofs.theorem.WorkLemmas.{all-index}

-- ---- from the histories of a closed cache

module _ {C D : Type 0} (m : Meanings C) (devices : Ghosts D) (cache : Cache) (valid : IsConfig cache.config) (trace : Trace) (config : cache.config ≡ trace.config) (restored : List Restored) (work : RunWork) (replies : List Reply) (ends : List ShardEnd) (histories : List (List Event)) (e : Explain trace restored work replies ends histories) where
  abbrev history : ℕ → List Event
  history shard = slice_index_or histories shard []

  inside : (shard : ℕ) → shard < cache.config.shards → shard < length histories
  inside shard below = let many = e.shards in let same = ap (λ (g : Config). g.shards) config in omega (arith, below, many, same)

  -- what a party has seen begins each
  pub explained-to : (q : Place (Known C)) → ((shard : ℕ) → shard < cache.config.shards → StartsWith (history shard) (seen_of cache.config shard q)) → GoesTo m devices cache q history
  explained-to q starts = record {
    starts = starts;
    legal = λ shard below. subst (λ (g : Config). IsTrue (is_legal_history (opening_of g) (history shard))) (sym config) (all-index (λ (h : List Event). IsTrue (is_legal_history (opening_of trace.config) h)) histories shard e.legal (inside shard below));
    numbers = λ shard below. subst (λ (g : Config). AllByRecursion (λ ev. IsTrue (has_its_number g.callers g.cells ev)) (history shard)) (sym config)
        (all-index (AllByRecursion (λ ev. IsTrue (has_its_number trace.config.callers trace.config.cells ev))) histories shard e.every_call.numbers (inside shard below));
  }

  own-is : (shard : ℕ) → shard < cache.config.shards → own_events cache.config.callers (history shard) ≡ events_by_feeder cache.config restored trace.ops replies work.feeds shard
  own-is shard below = subst (λ (g : Config). own_events g.callers (history shard) ≡ events_by_feeder g restored trace.ops replies work.feeds shard) (sym config) (e.every_call.fed shard (inside shard below))

  -- the feeder, which has made its own events by then, made no more
  pub left-explained : (a b : Device D) (q : Place (Known C)) → AreMadeSoFar m devices cache restored work.feeds a b q → ((shard : ℕ) → shard < cache.config.shards → StartsWith (history shard) (seen_of cache.config shard q))
      → ((shard : ℕ) → shard < cache.config.shards → own_events cache.config.callers (seen_of cache.config shard q) ≡ events_by_feeder cache.config restored trace.ops replies work.feeds shard) → LeavesFed devices trace.config restored work.feeds a b histories
  left-explained a b q so_far starts own =
      subst (λ (g : Config). LeavesFed devices g restored work.feeds a b histories) config
      (left-fed m devices cache valid restored work.feeds a b q histories so_far (explained-to q starts)
      (λ shard below. sees-by cache.config (seen_of cache.config shard q) (history shard) [] (starts shard below) (own-is shard below ∙ (sym (own shard below) ∙ sym (append-nil (own_events cache.config.callers (seen_of cache.config shard q))))) tt))

-- ---- where no feed was made

module _ (g : Config) (restored : List Restored) where
  -- what shards have after the restores, by turn
  fronts : (shards : ℕ) → List (List Seen)
  fronts zero = []
  fronts (suc n) = put (turn_of g n) (map line.Event (restores_in g restored n)) (fronts n)

  apart : (j n : ℕ) → j ≢ n → turn_of g j ≢ turn_of g n
  apart j n differs same = differs (omega (arith, same))

  front-far : (n j : ℕ) → n ≤ j → front_of (turn_of g j) (fronts n) ≡ []
  unfolding fronts
  front-far zero j far = refl
  front-far (suc n) j far = front_else (turn_of g n) (turn_of g j) (map line.Event (restores_in g restored n)) (fronts n) (apart j n (λ same. absurd (omega (arith, same, far)))) ∙ front-far n j (omega (arith, far))

  front-in : (n j : ℕ) → j < n → front_of (turn_of g j) (fronts n) ≡ map line.Event (restores_in g restored j)
  unfolding fronts
  front-in zero j below = absurd (omega (arith, below))
  front-in (suc n) j below = elim (cases_lt j n) [
    | inl less ↦ front_else (turn_of g n) (turn_of g j) (map line.Event (restores_in g restored n)) (fronts n) (apart j n (λ same. absurd (omega (arith, same, less)))) ∙ front-in n j less
    | inr at ↦
        let is : j ≡ n = omega (arith, at, below) in
        subst (λ (k : ℕ). front_of (turn_of g k) (fronts (suc n)) ≡ map line.Event (restores_in g restored k)) (sym is) (front_here (turn_of g n) (map line.Event (restores_in g restored n)) (fronts n))
  ]

  -- a party that has seen just the restores
  abbrev one_who_saw : Place (Known OnHeap)
  one_who_saw = record {
    table = record { words = 0; slots = 0; views_name = 0; atom = 0; block = 0; offset = 0; slot_names = [] };
    parties = 0;
    number = 0;
    own = record (newcomer (record { config = g; openings = [] }) 0) { seen = fronts g.shards };
    joined = [];
    held = [];
  }

-- what lines ask of the feeder without a feed gives no place
unfed-gives : (g : Config) (shard : ℕ) (os : List Op) (rs : List Reply) → AllByRecursion GivesNone (events_of_lines g shard os rs [])
unfed-gives g shard [] rs = tt
unfed-gives g shard (o ∷ os) [] = tt
unfed-gives g shard (o ∷ os) (r ∷ rs) = elim (cases_true (was_fed o r)) [
  | inl fed ↦ rw fed (unfed-gives g shard os rs)
  | inr other ↦ rw other (all-append GivesNone (events_of_feeder g.callers o) (events_of_lines g shard os rs []) (asked-gives g.callers o) (unfed-gives g shard os rs))
]

module _ {D : Type 0} (devices : Ghosts D) (trace : Trace) (valid : IsConfig trace.config) (restored : List Restored) (work : RunWork) (replies : List Reply) (ends : List ShardEnd) (histories : List (List Event)) (e : Explain trace restored work replies ends histories) (none : work.feeds ≡ []) where
  abbrev g : Config
  g = trace.config

  abbrev cache : Cache
  cache = record { row = record { table = record { words = 0; slots = 0; views_name = 0; atom = 0; block = 0; offset = 0; slot_names = [] }; turns = 0; parties = 0 }; config = g }

  abbrev p : Place (Known OnHeap)
  p = one_who_saw g restored

  begun : (shard : ℕ) → seen_of g shard p ≡ restores_in g restored shard
  begun shard = elim (cases_lt shard g.shards) [
    | inl below ↦ ap events_in (front-in g restored g.shards shard below) ∙ events-map (restores_in g restored shard)
    | inr far ↦ ap events_in (front-far g restored g.shards shard (omega (arith, far))) ∙ sym (restores-none dbuf_meanings devices cache valid restored shard (omega (arith, far)))
  ]

  starts : (shard : ℕ) → shard < g.shards → StartsWith (slice_index_or histories shard []) (seen_of g shard p)
  starts shard below =
      let many = e.shards in
      subst (StartsWith (slice_index_or histories shard [])) (sym (begun shard)) (e.begins shard (omega (arith, below, many)))

  sees : (shard : ℕ) → shard < g.shards → SeesMore g (seen_of g shard p) (slice_index_or histories shard [])
  sees shard below =
      let many = e.shards in
      let seen-own : own_events g.callers (seen_of g shard p) ≡ restores_in g restored shard = ap (own_events g.callers) (begun shard) ∙ own-restores g g.callers refl restored shard in
      sees-by g (seen_of g shard p) (slice_index_or histories shard []) (events_of_lines g shard trace.ops replies []) (starts shard below)
      (e.every_call.fed shard (omega (arith, below, many)) ∙ (λ i. sym seen-own i ++ events_of_lines g shard trace.ops replies (none i))) (unfed-gives g shard trace.ops replies)

  so-far : (a b : Device D) → WasLent devices a b → AreMadeSoFar dbuf_meanings devices cache restored [] a b p
  so-far a b lent = record { first = p; begun = begun; turn = turn a b lent }
    where
      turn : (x y : Device D) → WasLent devices x y → AreInTurnOf dbuf_meanings devices cache [] x y p p
      turn device.None device.None lent = refl
      turn (device.Short x) (device.Short y) lent = refl
      turn (device.Ready x) (device.Ready y) lent = record { cursor = lent.0; lent = read-lent dbuf_meanings devices cache x.dev y.dev lent.2; sees = λ shard below. sees-same g (seen_of g shard p) }
      turn device.None (device.Short y) lent = absurd lent
      turn device.None (device.Ready y) lent = absurd lent
      turn (device.Short x) device.None lent = absurd lent
      turn (device.Short x) (device.Ready y) lent = absurd lent
      turn (device.Ready x) device.None lent = absurd lent
      turn (device.Ready x) (device.Short y) lent = absurd lent

  pub unfed-left : (a b : Device D) → WasLent devices a b → LeavesFed devices g restored work.feeds a b histories
  unfed-left a b lent =
      subst (λ (l : List FeedDone). LeavesFed devices g restored l a b histories) (sym none)
      (left-fed dbuf_meanings devices cache valid restored [] a b p histories (so-far a b lent) (explained-to dbuf_meanings devices cache valid trace refl restored work replies ends histories e p starts) sees)

-- ---- from what a start found

some-same : {X : Type 0} (a b : X) → ◌≡◌ {A = Option X} (Some a) (Some b) → a ≡ b
some-same a b is = cc

module _ {D : Type 0} (devices : Ghosts D) where
  pub left-from : (g : Config) (before : Option D) (a b : Device D) (rebuilt : Option Rebuilt) (feeds : List FeedDone) (histories : List (List Event)) → IsRightKind devices a → Finds devices before (device_of a) (cursor_in a) rebuilt
      → LeavesFed devices g (found_keys rebuilt) feeds a b histories → WasFedFrom devices g before (device_of a) (device_of b) (cursor_in a) rebuilt feeds histories
  left-from g before device.None device.None rebuilt feeds histories kind found left = left
  left-from g before (device.Short a) (device.Short b) rebuilt feeds histories kind found left = left
  left-from g None (device.Ready a) (device.Ready b) rebuilt feeds histories kind found left = absurd (none-is found.0)
    where
      none-is : ◌≡◌ {A = Option D} (Some a.dev) None → ⊥
      none-is is = cc
  left-from g (Some d) (device.Ready a) (device.Ready b) None feeds histories kind found left = absurd found
  left-from g (Some d) (device.Ready a) (device.Ready b) (Some rebuilt) feeds histories kind found left =
      let long : least_ring_end ≤ devices.size d = let same = found.only.size in omega (arith, kind, same) in
      let reads = found.reads long in
      let at : a.cursor ≡ reads.2 = some-same a.cursor reads.2 reads.3 in
      let opened : IsOpened (ring_end_of (devices.size d)) a.cursor rebuilt.list = subst (λ (x : CursorState). IsOpened (ring_end_of (devices.size d)) x rebuilt.list) (sym at) reads.4 in
      (d, a.dev, b.dev, rebuilt, refl, refl, refl, refl, left d rebuilt.stop opened found.keys (found.crash a.cursor refl))
  left-from g before device.None (device.Short b) rebuilt feeds histories kind found left = absurd left
  left-from g before device.None (device.Ready b) rebuilt feeds histories kind found left = absurd left
  left-from g before (device.Short a) device.None rebuilt feeds histories kind found left = absurd left
  left-from g before (device.Short a) (device.Ready b) rebuilt feeds histories kind found left = absurd left
  left-from g before (device.Ready a) device.None rebuilt feeds histories kind found left = absurd left
  left-from g before (device.Ready a) (device.Short b) rebuilt feeds histories kind found left = absurd left
