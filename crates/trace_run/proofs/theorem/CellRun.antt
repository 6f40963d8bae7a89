-- The cells of a run's closed cache: each began with the trace's lines, and was ended by the feeder.
use Rattle.std.proofs.Common.{◌≡◌, ℕ, zero, suc, ◌+◌, ◌<◌, ◌==◌, true, false, List, [], ◌∷◌, ◌++◌, append-nil, length, map, refl, sym, ap, ◌∙◌, subst, inl, inr, arith, eq-eqb, ne_eqb}
use Rattle.std.specs.List.{AllByRecursion}
use Rattle.std.proofs.lemmas.Bool.{cases_lt}
use mathlib.Core.Logic.{dite}
use mathlib.Core.Option.{some, some-injective, some-ne-none}
use native.Mathlib.Decide.{ℕ_discrete}
use lib.ListN.{get_elem?}
use Rattle.std.specs.Prelude.{slice_index_or}
use Rattle.arc_core.specs.declared.config.Config.{Config}
use Rattle.arc_core.specs.declared.event.Event.{Event}
use Rattle.arc_core.specs.Operations.{Act}
use Rattle.turn_table.specs.Places.{AllShow, kept as as_kept}
use Rattle.arc_table.specs.declared.about.About.{About}
use Rattle.arc_table.specs.declared.view.Known.{Known}
use Rattle.arc_table.specs.declared.view.Line.{Line}
use Rattle.arc_table.specs.declared.view.Line.TheVariants as line
use Rattle.arc_table.specs.declared.view.Mine.{Mine}
use Rattle.arc_table.specs.Cache.{Cache}
use Rattle.arc_table.specs.Ended.{Ended, Ends}
use Rattle.arc_table.specs.Fronts.{front_of}
use Rattle.arc_table.specs.Geometry.{IsCell, parties_of}
use Rattle.arc_table.specs.Seen.{AreEntriesSeen, seen_of}
use Rattle.arc_table.specs.TableLaws.{get_front, within}
use Rattle.arc_table.proofs.TableLaws.{get_last, get_more, there}
use Rattle.dbuf_cells.specs.Turns.{OnHeap, PartyPlace, dbuf_meanings}
use Rattle.dbuf_state.specs.Numbers.{event_numbers, number_of}
use Rattle.dbuf_state.specs.declared.event.CellEvent.{CellEvent}
use Rattle.dbuf_state.specs.declared.event.CellEvent.TheVariants.{End}
use Rattle.trace_text.specs.declared.trace.Trace.{Trace}
use Rattle.trace_run.specs.dbufs.CellEnds.{AreCellsOf, AreEndedSo, EndedCrew, HasSeenEnds, IsCellOf, SeesEnds, done_by, end_entry, noted_ends}
use Rattle.trace_run.specs.RunWork.{only_ended}
use Rattle.trace_run.specs.Deeds.{HasToldOthers, Noted, events_of_cell, events_there, lines_of_cell}
use Rattle.trace_run.specs.MadeLines.{made_from, made_of}
use Rattle.trace_run.specs.callers.GroupRun.{HaveStopped}
use Rattle.trace_run.specs.Making.{AreNoEntries}
use Rattle.trace_run.specs.Meeting.{HasParted, HaveParted}
use Rattle.trace_run.specs.Openings.{Knows, openings_of}
use Rattle.trace_run.proofs.callers.AfterEnds.{crew-long, same-long}
use Rattle.trace_run.proofs.CellLemmas.{all-cells-of, by-parties, cell-of, done-is, ends-one, entries-are, events-same, opened-so}
use Rattle.trace_run.proofs.theorem.EndLemmas.{shown-at}
use Rattle.trace_run.proofs.theorem.KeptEnds.{IsSeenWhole, ended-so}

-- ---- cells with any history

-- What a party is to the cells of a closed cache, where one party has seen all that was done to cells: that one has seen the entries that this one made, as it has itself, and
-- they are those of its notes.
pub record HasNoted (g : Config) (s : List (List Line)) (k : ℕ) (v : Known OnHeap) (noted : List Noted) : Type 0 where
  pub seen : AreEntriesSeen g k v.mine s
  pub own : AreEntriesSeen g k v.mine v.seen
  pub made : (i : ℕ) → IsCell g i → made_from i 0 v.mine (front_of i v.seen) ≡ lines_of_cell i noted

module _ (cache : Cache) (ps : List PartyPlace) (e : Ended OnHeap) (ends : Ends dbuf_meanings cache ps e) (trace : Trace) (config : cache.config ≡ trace.config) where
  -- One party knew how the cells began; another has seen the ends, and with them all that anybody did to cells.
  module _ (noted : ℕ → List Noted) (n : ℕ) (w : Known OnHeap) (knows : get_elem? ends.views n ≡ some w) (opening : w.about.openings ≡ openings_of trace) (m : ℕ) (u : Known OnHeap) (sees : get_elem? ends.views m ≡ some u) (own : u.about.config ≡ cache.config)
      (fronts : (i : ℕ) → IsCell cache.config i → (before : List Line) × (front_of i u.seen ≡ before ++ end_entry cache.config.callers i))
      (each : (k : ℕ) → k < parties_of cache.config → (v : Known OnHeap) × (get_elem? ends.views k ≡ some v) × HasNoted cache.config u.seen k v (noted k)) where
    settled : ends.pact.scene.about.config ≡ cache.config
    settled = ap (λ (a : About). a.config) (sym (ends.pact.attached.views m u sees).about) ∙ own

    all-seen : (k : ℕ) → k < parties_of ends.pact.scene.about.config → (v : Known OnHeap) × (get_elem? ends.views k ≡ some v) × AreEntriesSeen ends.pact.scene.about.config k v.mine u.seen
    all-seen k below = let h = each k (subst (λ (g : Config). k < parties_of g) settled below) in (h.0, h.1, subst (λ (g : Config). AreEntriesSeen g k h.0.mine u.seen) (sym settled) h.2.seen)

    module _ (i : ℕ) (c : OnHeap) (at : get_elem? e.cells i ≡ some c) where
      inside : i < cache.config.cells
      inside = subst (λ (k : ℕ). i < k) ends.cells (within e.cells i c at)

      range : IsCell ends.pact.scene.about.config i
      range = subst (λ (g : Config). IsCell g i) (sym settled) inside

      pub seen-whole : IsSeenWhole (openings_of trace) u.seen i c
      seen-whole = record {
        entries = entries-are cache ps e ends i c at (front_of i u.seen) u.seen refl range m u sees refl all-seen;
        opening = opened-so cache ps e ends i c at n w knows ∙ ap (λ (os : List (List ℕ)). slice_index_or os i []) opening;
      }

      one-cell : IsCellOf trace noted i c
      one-cell =
          let front = fronts i inside in
          cell-of cache ps e ends i c at trace (subst (λ (g : Config). i < g.cells) config inside) seen-whole.opening
          noted front.0
          (seen-whole.entries ∙ (front.1 ∙ ap (λ (g : Config). front.0 ++ end_entry g.callers i) config))
          (subst (λ (g : Config). AllByRecursion (λ ev. number_of ev < parties_of g) c.value.history) (settled ∙ config) (by-parties cache ps e ends i c at u.seen m u sees refl range all-seen))
          (λ k below.
          let h = each k (subst (λ (g : Config). k < parties_of g) (sym config) below) in
          done-is cache ps e ends i c at u.seen m u sees refl range all-seen k h.0 h.1 (subst (λ (g : Config). AreEntriesSeen g k h.0.mine h.0.seen) (sym settled) h.2.own) (events_of_cell i (noted k)) (h.2.made i inside))

    pub cells-of-run : AreCellsOf trace noted e
    cells-of-run = all-cells-of trace noted e (ends.cells ∙ ap (λ (g : Config). g.cells) config) one-cell

-- ---- cells to which nothing was done but their ends

-- lines of which none is of a cell are seen, whatever was
none-seen : (g : Config) (n : ℕ) (mines : List Mine) (seen : List (List Line)) → AreNoEntries g mines → AreEntriesSeen g n mines seen
none-seen g n mines seen none i j a in_range at is = absurd (none j a at (subst (IsCell g) (sym is) in_range))

-- one caller's run
pub ends-idle : (cache : Cache) (openings : List (List ℕ)) (p q : PartyPlace) → HasSeenEnds cache openings p q → AreNoEntries cache.config p.own.mine → (shard : ℕ) → seen_of cache.config shard q ≡ seen_of cache.config shard p
ends-idle cache openings p q h none shard =
    h.seen shard ∙ (ap (λ (es : List Event). seen_of cache.config shard p ++ events_there cache.config shard es) (h.idle none).0 ∙ append-nil (seen_of cache.config shard p))

module _ (cache : Cache) (ps : List PartyPlace) (e : Ended OnHeap) (ends : Ends dbuf_meanings cache ps e) (trace : Trace) (config : cache.config ≡ trace.config) where
  -- One party knew how the cells began; another has seen just the ends, and with them all parties have seen all that they made.
  idle-cells : (n : ℕ) (w : Known OnHeap) → get_elem? ends.views n ≡ some w → w.about.openings ≡ openings_of trace
      → (m : ℕ) (u : Known OnHeap) → get_elem? ends.views m ≡ some u → u.about.config ≡ cache.config → ((i : ℕ) → IsCell cache.config i → front_of i u.seen ≡ end_entry cache.config.callers i)
      → ((k : ℕ) → k < parties_of cache.config → (v : Known OnHeap) × (get_elem? ends.views k ≡ some v) × AreEntriesSeen cache.config k v.mine u.seen)
      → AreCellsOf trace (only_ended trace.config) e
  idle-cells n w knows opening m u sees own fronts each = all-cells-of trace (only_ended trace.config) e (ends.cells ∙ ap (λ (g : Config). g.cells) config) one
    where
      settled : ends.pact.scene.about.config ≡ cache.config
      settled = ap (λ (a : About). a.config) (sym (ends.pact.attached.views m u sees).about) ∙ own

      only-end : (i : ℕ) (h : List CellEvent) → i < trace.config.cells → h ≡ End trace.config.callers ∷ [] → (k : ℕ) → done_by k h ≡ events_of_cell i (only_ended trace.config k)
      only-end i h inside is k = ap (done_by k) is ∙ dite (ℕ_discrete k trace.config.callers)
          (λ same.
          let here : (trace.config.callers == k) ≡ true = eq-eqb trace.config.callers k (sym same) in
          let test : (k == trace.config.callers) ≡ true = eq-eqb k trace.config.callers same in
          rw (here, test) (ap (λ (x : ℕ). End x ∷ []) (sym same) ∙ sym (ends-one k i 0 trace.config.cells (omega arith) (omega (arith, inside)))))
          (λ differs.
          let here : (trace.config.callers == k) ≡ false = ne_eqb trace.config.callers k (λ is. differs (sym is)) in
          let test : (k == trace.config.callers) ≡ false = ne_eqb k trace.config.callers differs in
          rw (here, test) refl)

      one : (i : ℕ) (c : OnHeap) → get_elem? e.cells i ≡ some c → IsCellOf trace (only_ended trace.config) i c
      one i c at =
          let inside : i < cache.config.cells = subst (λ (k : ℕ). i < k) ends.cells (within e.cells i c at) in
          let entries : map line.Entry (map event_numbers c.value.history) ≡ end_entry trace.config.callers i =
          entries-are cache ps e ends i c at (end_entry cache.config.callers i) u.seen (fronts i inside) (subst (λ (g : Config). IsCell g i) (sym settled) inside) m u sees (fronts i inside)
          (λ k below. let h = each k (subst (λ (g : Config). k < parties_of g) settled below) in (h.0, h.1, subst (λ (g : Config). AreEntriesSeen g k h.0.mine u.seen) (sym settled) h.2))
          ∙ ap (λ (g : Config). end_entry g.callers i) config in
          let is : c.value.history ≡ End trace.config.callers ∷ [] = events-same c.value.history (End trace.config.callers) entries in
          let below : i < trace.config.cells = subst (λ (g : Config). i < g.cells) config inside in
          let alone : AllByRecursion (λ ev. number_of ev < parties_of trace.config) (End trace.config.callers ∷ []) = (omega arith, tt) in
          cell-of cache ps e ends i c at trace below
          (opened-so cache ps e ends i c at n w knows ∙ ap (λ (os : List (List ℕ)). slice_index_or os i []) opening)
          (only_ended trace.config) [] entries
          (subst (AllByRecursion (λ ev. number_of ev < parties_of trace.config)) (sym is) alone)
          (λ k few. only-end i c.value.history below is k)

pub alone-cells : (cache : Cache) (p q : PartyPlace) (given : Cache) (ps : List PartyPlace) (e : Ended OnHeap) (trace : Trace) → cache.config ≡ trace.config → cache.config.callers ≡ 1 → given ≡ cache → ps ≡ q ∷ []
    → Ends dbuf_meanings given ps e → p.number ≡ 0 → HasSeenEnds cache (openings_of trace) p q → AreNoEntries cache.config p.own.mine → AreCellsOf trace (only_ended trace.config) e
alone-cells cache p q given ps e trace config one same listed ends number h none =
    idle-cells cache (q ∷ []) e whole trace config h.feeder.number h.feeder.own joined-shown.0 h.knows h.feeder.number h.feeder.own joined-shown.0 h.feeder_stands.of.config idle.2 each
  where
    whole : Ends dbuf_meanings cache (q ∷ []) e
    whole = subst (λ (x : Cache × List PartyPlace). Ends dbuf_meanings x.0 x.1 e) (λ i. (same i, listed i)) ends

    joined-shown : AllShow whole.views (as_kept h.feeder.number h.feeder.own 0 ∷ [])
    joined-shown = subst (AllShow whole.views) h.joined whole.shown.0.1

    idle : (h.drops ≡ []) × AreNoEntries cache.config q.own.mine × ((i : ℕ) → IsCell cache.config i → front_of i h.feeder.own.seen ≡ end_entry cache.config.callers i)
    idle = h.idle none

    each : (k : ℕ) → k < parties_of cache.config → (v : Known OnHeap) × (get_elem? whole.views k ≡ some v) × AreEntriesSeen cache.config k v.mine h.feeder.own.seen
    each k below = elim (cases_lt k 1) [
      | inl first ↦
          let is : q.number ≡ k = h.number ∙ (number ∙ omega (arith, first)) in
          (q.own, subst (λ (n : ℕ). get_elem? whole.views n ≡ some q.own) is whole.shown.0.0, none-seen cache.config k q.own.mine h.feeder.own.seen idle.1)
      | inr second ↦
          let is : h.feeder.number ≡ k = h.last ∙ (one ∙ omega (arith, second, below, one)) in
          (h.feeder.own, subst (λ (n : ℕ). get_elem? whole.views n ≡ some h.feeder.own) is joined-shown.0, subst (λ (n : ℕ). AreEntriesSeen cache.config n h.feeder.own.mine h.feeder.own.seen) is h.feeder_stands.cells.own)
    ]

-- several callers' run: the feeder's party, which ended the cells, is the last
module _ (cache : Cache) (olds news : List PartyPlace) (c : EndedCrew cache olds news) (stopped : HaveStopped cache olds) (e : Ended OnHeap) (ends : Ends dbuf_meanings cache news e) (trace : Trace) (config : cache.config ≡ trace.config)
    (noted : ℕ → List Noted) (knows : Knows (openings_of trace) c.last) (many : length c.callers ≡ cache.config.callers)
    (callers : (n : ℕ) (o : PartyPlace) → get_elem? c.callers n ≡ some o → (i : ℕ) → IsCell cache.config i → made_of i o ≡ lines_of_cell i (noted n))
    (did : List Act) (had : List Noted) (fed : HasToldOthers cache.config did had c.feeder) (ended : noted cache.config.callers ≡ had ++ noted_ends cache.config.callers 0 cache.config.cells) where
  abbrev g : Config
  g = cache.config

  abbrev z : PartyPlace
  z = c.last

  feeder-at : get_elem? olds (length c.callers) ≡ some c.feeder
  feeder-at = ap (λ (l : List PartyPlace). get_elem? l (length c.callers)) c.are ∙ get_last c.callers c.feeder

  feeder-number : c.feeder.number ≡ g.callers
  feeder-number = (stopped.each (length c.callers) c.feeder feeder-at).0 ∙ many

  last-number : z.number ≡ g.callers
  last-number = c.ended.number ∙ feeder-number

  -- a caller's party, as it was and as it is
  record WasCaller (n : ℕ) (x : PartyPlace) : Type 0 where
    pub old : PartyPlace
    pub at : get_elem? c.callers n ≡ some old
    pub parted : HasParted cache c.ended.lines old x
    pub seen : AreEntriesSeen g old.number old.own.mine z.own.seen

  parted-at : (os xs : List PartyPlace) → HaveParted cache c.ended.lines os xs → AllByRecursion (λ o. AreEntriesSeen g o.number o.own.mine z.own.seen) os → (n : ℕ) (x : PartyPlace) → get_elem? xs n ≡ some x
      → (o : PartyPlace) × (get_elem? os n ≡ some o) × HasParted cache c.ended.lines o x × AreEntriesSeen g o.number o.own.mine z.own.seen
  parted-at [] [] parted seen n x at = absurd (some-ne-none x (sym at))
  parted-at [] (y ∷ ys) parted seen n x at = absurd parted
  parted-at (o ∷ os) [] parted seen n x at = absurd parted
  parted-at (o ∷ os) (y ∷ ys) parted seen zero x at = (o, refl, subst (HasParted cache c.ended.lines o) (some-injective y x at) parted.0, seen.0)
  parted-at (o ∷ os) (y ∷ ys) parted seen (suc n) x at = parted-at os ys parted.1 seen.1 n x at

  was-caller : (n : ℕ) (x : PartyPlace) → get_elem? c.parted n ≡ some x → WasCaller n x
  was-caller n x at = let h = parted-at c.callers c.parted c.ended.parted c.ended.entries n x at in record { old = h.0; at = h.1; parted = h.2; seen = h.3 }

  caller-noted : (n : ℕ) (x : PartyPlace) → get_elem? c.parted n ≡ some x → (x.number ≡ n) × HasNoted g z.own.seen n x.own (noted n)
  caller-noted n x at =
      let w = was-caller n x at in
      let s = stopped.each n w.old (ap (λ (l : List PartyPlace). get_elem? l n) c.are ∙ get_front c.callers (c.feeder ∷ []) n w.old w.at) in
      let stands = w.parted.stands [] s.1 in
      let number : x.number ≡ n = w.parted.number ∙ s.0 in (
        number,
        record {
          seen = subst (λ (y : ℕ × List Mine). AreEntriesSeen g y.0 y.1 z.own.seen) (λ k. (s.0 k, sym w.parted.mine k)) w.seen;
          own = subst (λ (y : ℕ). AreEntriesSeen g y x.own.mine x.own.seen) number stands.cells.own;
          made = λ i range. (w.parted.same [] s.1).entries i range ∙ callers n w.old w.at i range;
        },
      )

  last-noted : HasNoted g z.own.seen g.callers z.own (noted g.callers)
  last-noted =
      let told = c.ended.told did had fed in
      let own : AreEntriesSeen g g.callers z.own.mine z.own.seen = subst (λ (y : ℕ). AreEntriesSeen g y z.own.mine z.own.seen) last-number c.ended.stands.cells.own in
      record {
        seen = own;
        own = own;
        made = λ i range. told.entries i range ∙ ap (lines_of_cell i) (ap (λ (n : ℕ). had ++ noted_ends n 0 g.cells) feeder-number ∙ sym ended);
      }

  shown : (n : ℕ) (x : PartyPlace) → get_elem? news n ≡ some x → x.number ≡ n → get_elem? ends.views n ≡ some x.own
  shown n x at number = subst (λ (k : ℕ). get_elem? ends.views k ≡ some x.own) number (shown-at ends.views news n x at ends.shown)

  last-at : get_elem? news (length c.parted) ≡ some z
  last-at = ap (λ (l : List PartyPlace). get_elem? l (length c.parted)) c.then ∙ get_last c.parted z

  many-parted : length c.parted ≡ g.callers
  many-parted = same-long cache c.ended.lines c.callers c.parted c.ended.parted ∙ many

  last-shown : get_elem? ends.views g.callers ≡ some z.own
  last-shown = shown g.callers z (subst (λ (n : ℕ). get_elem? news n ≡ some z) many-parted last-at) last-number

  each : (k : ℕ) → k < parties_of g → (v : Known OnHeap) × (get_elem? ends.views k ≡ some v) × HasNoted g z.own.seen k v (noted k)
  each k below =
      let x = there news k (subst (λ (n : ℕ). k < n) (sym (crew-long cache olds news c ∙ stopped.count)) below) in
      elim (get_more c.parted z x.0 k (ap (λ (l : List PartyPlace). get_elem? l k) (sym c.then) ∙ x.1)) [
        | inl first ↦ let h = caller-noted k x.0 first in (x.0.own, shown k x.0 x.1 h.0, h.1)
        | inr is ↦
            let same : g.callers ≡ k = sym many-parted ∙ sym is.0 in
            subst (λ (n : ℕ). (v : Known OnHeap) × (get_elem? ends.views n ≡ some v) × HasNoted g z.own.seen n v (noted n)) same (z.own, last-shown, last-noted)
      ]

  pub crew-cells : AreCellsOf trace noted e
  crew-cells = cells-of-run cache news e ends trace config noted g.callers z.own last-shown knows g.callers z.own last-shown c.ended.stands.of.config
      (λ i range. let h = c.ended.ends i range in (h.0, h.1 ∙ ap (λ (n : ℕ). h.0 ++ end_entry n i) feeder-number)) each

  -- the feeder's party has seen all that was done to them
  all-whole : (k : ℕ) (x : OnHeap) → get_elem? e.cells k ≡ some x → IsSeenWhole (openings_of trace) z.own.seen k x
  all-whole k x at = seen-whole cache news e ends trace config noted g.callers z.own last-shown knows g.callers z.own last-shown c.ended.stands.of.config
      (λ i range. let h = c.ended.ends i range in (h.0, h.1 ∙ ap (λ (n : ℕ). h.0 ++ end_entry n i) feeder-number)) each k x at

  pub crew-seen : (k : ℕ) (x : OnHeap) → get_elem? e.cells k ≡ some x → map line.Entry (map event_numbers x.value.history) ≡ front_of k z.own.seen
  crew-seen k x at = (all-whole k x at).entries

  -- what the cells still kept was given back
  pub crew-kept : AreEndedSo g 0 e.cells c.ended.drops
  crew-kept = ended-so (openings_of trace) z.own.seen g 0 e.cells c.ended.drops
      (λ k x at. subst (λ (n : ℕ). IsSeenWhole (openings_of trace) z.own.seen n x) (let same : k ≡ 0 + k = omega arith in same) (all-whole k x at))
      (subst (λ (x : List (List ℕ) × ℕ × ℕ). SeesEnds g x.0 z.own.seen x.1 0 x.2 c.ended.drops) (λ i. ((ap (λ (a : About). a.openings) (sym c.ended.about) ∙ knows) i, feeder-number i, sym ends.cells i)) c.ended.kept)
