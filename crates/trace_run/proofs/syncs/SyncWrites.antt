-- A party that has every number syncs, whatever is dirty: what it has seen then of shards and of cells.
use Rattle.std.proofs.Common.{◌≡◌, ℕ, zero, suc, ◌+◌, ◌<◌, List, [], ◌∷◌, ◌++◌, length, map, sym, ap, ◌∙◌, subst, inl, inr, arith, append-nil}
use Rattle.std.specs.Prelude.{slice_index_or}
use Rattle.std.specs.List.{AllByRecursion}
use Rattle.std.proofs.lemmas.List.{map-append}
use Rattle.arc_core.specs.Config.{IsConfig}
use Rattle.arc_core.specs.declared.config.Config.{Config}
use Rattle.arc_core.specs.declared.event.Event.{Event}
use Rattle.arc_core.specs.Operations.{moments, own_moments}
use Rattle.arc_table.specs.declared.about.About.{About}
use Rattle.arc_table.specs.declared.view.Line.{Line}
use Rattle.arc_table.specs.declared.view.Line.TheVariants as line
use Rattle.arc_table.specs.feeder.Listing.{picks_of}
use Rattle.arc_table.specs.Fronts.{front_of, list_at}
use Rattle.arc_table.specs.Geometry.{IsCell, parties_of}
use Rattle.arc_table.specs.Seen.{HasAll, HasSeenItsEntries, seen_of, turn_of}
use Rattle.arc_table.specs.Telling.{opening_of}
use Rattle.dbuf_cells.specs.Turns.{OnHeap, PartyPlace}
use Rattle.dbuf_state.specs.Numbers.{event_numbers}
use Rattle.dbuf_state.specs.declared.event.CellEvent.{CellEvent}
use Rattle.txg_sync.specs.Items.{SyncItem}
use Rattle.txg_sync.specs.Syncing.{Same}
use Rattle.txg_sync.specs.Turns.{GivesFrom, InsertsAll, SyncsCells, synced_in}
use Rattle.trace_run.specs.Deeds.{events_there}
use Rattle.trace_run.specs.MadeLines.{made_of}
use Rattle.trace_run.specs.Making.{HasSeenItsEvents}
use Rattle.trace_run.specs.Syncing.{inserts_in, lines_of}
use Rattle.trace_run.proofs.CellEnds.{HasDropped, HasEndedSome, cell-drops-there, drops-unmade}
use Rattle.trace_run.proofs.CellsLeft.{leaves-seen}
use Rattle.trace_run.proofs.syncs.SyncInserts.{HasInserted, all-inserted}
use Rattle.trace_run.proofs.syncs.SyncSteps.{AreInHand, HasGivenCells, HasTaken, HaveNews, HaveSameHistories, all-given, all-taken, in-hand-as}
use Rattle.trace_run.proofs.callers.MeetLemmas.{starts-then}
use Rattle.trace_run.proofs.deeds.MakesLemmas.{later-then}

pub lines-both : (xs ys : List CellEvent) → lines_of (xs ++ ys) ≡ lines_of xs ++ lines_of ys
lines-both xs ys = ap (map line.Entry) (map-append event_numbers xs ys) ∙ map-append line.Entry (map event_numbers xs) (map event_numbers ys)

hand-at : (i k : ℕ) (cs : List OnHeap) (d : OnHeap) (x : PartyPlace) → AreInHand i cs x → k < length cs → front_of (i + k) x.own.seen ≡ lines_of (slice_index_or cs k d).value.history
hand-at i k [] d x hand below = absurd (omega (arith, below))
hand-at i zero (c ∷ cs) d x hand below = let z : i + zero ≡ i = omega arith in ap (λ (n : ℕ). front_of n x.own.seen) z ∙ hand.0.seen
hand-at i (suc k) (c ∷ cs) d x hand below = let z : i + suc k ≡ suc i + k = omega arith in ap (λ (n : ℕ). front_of n x.own.seen) z ∙ hand-at (suc i) k cs d x hand.1 (omega (arith, below))

some-cell : (cs : List OnHeap) (i : ℕ) → i < length cs → OnHeap
some-cell [] i below = absurd (omega (arith, below))
some-cell (c ∷ cs) i below = c

module _ (g : Config) (valid : IsConfig g) (tick : ℕ) (cells : List OnHeap) (xs : List SyncItem) (p r : PartyPlace) (config : p.own.about.config ≡ g) (low : p.number < parties_of g)
    (sees : HasSeenItsEvents g p) (all : HasAll p) (entries : HasSeenItsEntries g p) (s : SyncsCells g tick cells xs Same p r)
    (inside : AllByRecursion (λ x. IsCell g x.due.cell) xs) where
  pub taken : HasTaken g valid 0 cells p s.taken
  taken = all-taken g valid 0 cells p s.taken (let e = s.all in omega arith) config sees all entries s.takes

  -- the blocks' insertions
  pub inserts : HasInserted g valid tick xs s.taken s.reached
  inserts = all-inserted g valid tick xs s.taken s.reached (ap (λ (a : About). a.config) taken.quiet.about ∙ config) (subst (λ (n : ℕ). n < parties_of g) (sym taken.quiet.number) low) taken.quiet.sees taken.quiet.all
      (λ j in_range. taken.held j (inl (omega arith, (let e = s.all in omega (arith, in_range))))) inside s.inserts

  abbrev did : HasDropped g inserts.events s.taken s.reached
  did = inserts.did

  many : length cells ≡ length s.afters
  many = sym s.count

  hand : AreInHand 0 cells s.reached
  hand = in-hand-as 0 cells s.taken s.reached (λ j low high.
      let in_range : IsCell g j = let e = s.all in omega (arith, high) in
      (did.recorded j in_range, did.left.fronts j in_range)) taken.hand

  given : HasGivenCells g valid 0 cells s.afters s.reached r
  given = all-given g valid 0 cells s.afters s.reached r many (let e = s.all in let f = s.count in omega arith) did.sees did.all (leaves-seen g s.taken s.reached did.left taken.made) hand
      (subst (λ (x : PartyPlace). GivesFrom 0 s.afters x r) s.besides s.gives)

  -- what the party had seen of each cell
  pub cell-front : (i : ℕ) (d : OnHeap) → i < length cells → front_of i p.own.seen ≡ lines_of (slice_index_or cells i d).value.history
  cell-front i d below =
      let z : 0 + i ≡ i = omega arith in
      sym (taken.fronts i) ∙ subst (λ (n : ℕ). front_of n s.taken.own.seen ≡ lines_of (slice_index_or cells i d).value.history) z (hand-at 0 i cells d s.taken taken.hand below)

  -- each cell has what it had, and then what was noted
  pub synced-front : (i : ℕ) → IsCell g i → front_of i r.own.seen ≡ front_of i p.own.seen ++ lines_of (synced_in p.number i xs)
  synced-front i in_range =
      let below : i < length cells = let e = s.all in omega (arith, in_range) in
      let d : OnHeap = some-cell cells i below in
      let z : 0 + i ≡ i = omega arith in
      let after : front_of i r.own.seen ≡ lines_of (slice_index_or s.afters i d).value.history =
      subst (λ (n : ℕ). front_of n r.own.seen ≡ lines_of (slice_index_or s.afters i d).value.history) z (given.each i d (let f = s.count in omega (arith, below))) in
      after
      ∙ (ap lines_of (s.synced i d below).history
      ∙ (lines-both (slice_index_or cells i d).value.history (synced_in p.number i xs)
      ∙ ap (λ (l : List Line). l ++ lines_of (synced_in p.number i xs)) (sym (cell-front i d below))))

  shards-then : (shard : ℕ) → seen_of g shard r ≡ seen_of g shard p ++ events_there g shard inserts.events
  shards-then shard = given.quiet.shards shard ∙ (did.shards shard ∙ ap (λ (l : List Event). l ++ events_there g shard inserts.events) (taken.quiet.shards shard))

  -- they are all that it has seen of shards more
  pub all-synced : HasEndedSome g inserts.events p r
  all-synced = record {
    table = given.quiet.table ∙ (did.left.stays.table ∙ taken.quiet.table);
    parties = given.quiet.parties ∙ (did.left.stays.parties ∙ taken.quiet.parties);
    number = given.quiet.number ∙ (did.left.stays.number ∙ taken.quiet.number);
    joined = given.quiet.joined ∙ (did.left.stays.joined ∙ taken.quiet.joined);
    about = given.quiet.about ∙ (did.left.stays.about ∙ taken.quiet.about);
    holds = given.quiet.holds ∙ (did.holds ∙ taken.quiet.holds);
    readings = given.quiet.readings ∙ (did.readings ∙ taken.quiet.readings);
    sees = given.quiet.sees;
    entries = given.made;
    all = given.quiet.all;
    drops = inserts.cells;
    picks = λ feeder i. ap (list_at i) given.quiet.picked ∙ (inserts.picks (taken.quiet.number ∙ feeder) i ∙ ap (list_at i) taken.quiet.picked);
    shards = shards-then;
    own = λ shard. ap (λ (es : List Event). own_moments p.number (moments (opening_of g) es)) (shards-then shard)
        ∙ drops-unmade g p.number (opening_of g) (seen_of g shard p) (events_there g shard inserts.events) low (cell-drops-there g shard inserts.events inserts.cells);
    starts = λ i. starts-then (front_of (turn_of g i) r.own.seen) (front_of (turn_of g i) s.reached.own.seen) (front_of (turn_of g i) p.own.seen) (given.quiet.starts i)
        (starts-then (front_of (turn_of g i) s.reached.own.seen) (front_of (turn_of g i) s.taken.own.seen) (front_of (turn_of g i) p.own.seen) (did.starts i) (taken.quiet.starts i));
    older = later-then g p s.taken r taken.quiet.starts taken.quiet.older (later-then g s.taken s.reached r did.starts did.older given.quiet.older);
    cells = λ i in_range. (lines_of (synced_in p.number i xs), synced-front i in_range);
  }

  -- of each shard just the Inserts of the blocks that are new there
  pub synced-shards : (shard : ℕ) → seen_of g shard r ≡ seen_of g shard p ++ inserts_in g tick xs shard (seen_of g shard p)
  synced-shards shard = shards-then shard ∙ ap (λ (l : List Event). seen_of g shard p ++ l) (inserts.are shard ∙ ap (inserts_in g tick xs shard) (taken.quiet.shards shard))

  pub synced-picks : p.number ≡ g.callers → (i : ℕ) → picks_of i r ≡ picks_of i p
  synced-picks feeder i = all-synced.picks feeder i

  -- what it made of histories more: these Inserts, and in each cell what was noted
  pub synced-made : (shard : ℕ) → made_of (turn_of g shard) r ≡ made_of (turn_of g shard) p ++ map line.Event (events_there g shard inserts.events)
  synced-made shard =
      given.mades (turn_of g shard) (inr (omega arith)) ∙ (inserts.made shard ∙ ap (λ (l : List Line). l ++ map line.Event (events_there g shard inserts.events)) (taken.mades (turn_of g shard)))

  have-news : (i : ℕ) (bs afters : List OnHeap) → length bs ≡ length afters → ((k : ℕ) (d : OnHeap) → k < length bs → (slice_index_or afters k d).value.history ≡ (slice_index_or bs k d).value.history ++ synced_in p.number (i + k) xs)
      → HaveNews g valid (λ j. synced_in p.number j xs) i bs afters
  have-news i [] [] long each = tt
  have-news i [] (a ∷ afters) long each = absurd (omega (arith, long))
  have-news i (b ∷ bs) [] long each = absurd (omega (arith, long))
  have-news i (b ∷ bs) (a ∷ afters) long each =
      let z : i + 0 ≡ i = omega arith in (
        each 0 b (omega arith) ∙ ap (λ (n : ℕ). b.value.history ++ synced_in p.number n xs) z,
        have-news (suc i) bs afters (omega (arith, long)) (λ k d below.
            let y : i + suc k ≡ suc i + k = omega arith in
            each (suc k) d (omega (arith, below)) ∙ ap (λ (n : ℕ). (slice_index_or bs k d).value.history ++ synced_in p.number n xs) y),
      )

  pub synced-cells : (i : ℕ) → IsCell g i → made_of i r ≡ made_of i p ++ lines_of (synced_in p.number i xs)
  synced-cells i in_range =
      let z : 0 + i ≡ i = omega arith in
      subst (λ (n : ℕ). made_of n r ≡ made_of n s.reached ++ lines_of (synced_in p.number n xs)) z
      (given.news_made (λ j. synced_in p.number j xs)
      (have-news 0 cells s.afters many (λ k d below.
      let y : k ≡ 0 + k = omega arith in
      (s.synced k d below).history ∙ ap (λ (n : ℕ). (slice_index_or cells k d).value.history ++ synced_in p.number n xs) y))
      i (let e = s.all in let f = s.count in omega (arith, in_range, e, f)))
      ∙ ap (λ (l : List Line). l ++ lines_of (synced_in p.number i xs)) (inserts.cells_made i in_range ∙ taken.mades i)

  -- where there is no block, it made nothing
  module _ (nothing : xs ≡ []) where
    same-history : (i : ℕ) (d : OnHeap) → i < length cells → (slice_index_or s.afters i d).value.history ≡ (slice_index_or cells i d).value.history
    same-history i d below = (s.synced i d below).history ∙ (ap (λ (l : List SyncItem). (slice_index_or cells i d).value.history ++ synced_in p.number i l) nothing ∙ append-nil (slice_index_or cells i d).value.history)

    same-from : (bs afters : List OnHeap) → length bs ≡ length afters → ((i : ℕ) (d : OnHeap) → i < length bs → (slice_index_or afters i d).value.history ≡ (slice_index_or bs i d).value.history)
        → HaveSameHistories g valid bs afters
    same-from [] [] long each = tt
    same-from [] (a ∷ afters) long each = absurd (omega (arith, long))
    same-from (b ∷ bs) [] long each = absurd (omega (arith, long))
    same-from (b ∷ bs) (a ∷ afters) long each = (each 0 b (omega arith), same-from bs afters (omega (arith, long)) (λ i d below. each (suc i) d (omega (arith, below))))

    reached-is : s.reached ≡ s.taken
    reached-is = subst (λ (l : List SyncItem). InsertsAll g tick l s.taken s.reached) nothing s.inserts

    pub synced-mine : r.own.mine ≡ p.own.mine
    synced-mine = given.mine (same-from cells s.afters many same-history) ∙ (ap (λ (x : PartyPlace). x.own.mine) reached-is ∙ taken.mine)
