-- What the closed cache of several callers' run explains: their lines with their work, the feeder's syncs and feeds, and the cells' ends.
use Rattle.std.proofs.Common.{◌≡◌, ◌⊎◌, ℕ, zero, suc, ◌+◌, ◌<◌, ◌==◌, Bool, true, false, List, [], ◌∷◌, ◌++◌, length, get_or, map, take, Option, Some, append-nil, append_assoc, refl, sym, ap, ◌∙◌, subst, inl, inr, arith, eq-eqb, ne_eqb}
use Rattle.std.specs.Prelude.{filter, slice_get, sum_by}
use Rattle.std.specs.List.{AllByRecursion}
use Rattle.std.proofs.lemmas.Bool.{eqb-true}
use Rattle.std.proofs.lemmas.List.{length-map}
use Rattle.std.proofs.lemmas.List.Elements.{filter-append}
use Rattle.std.proofs.lemmas.Option.{slice_get_within}
use mathlib.Core.Option.{some, some-injective, some-ne-none}
use lib.ListN.{get_elem?}
use Rattle.arc_lists.proofs.Tables.{cases_true}
use Rattle.blk_ptr.specs.Hash.{shard_of}
use Rattle.blk_ptr.specs.declared.ptr.Ptr.{Ptr}
use Rattle.arc_core.specs.Config.{IsConfig}
use Rattle.arc_core.specs.declared.config.Config.{Config}
use Rattle.arc_core.specs.declared.event.Event.{Event}
use Rattle.arc_core.specs.declared.served.Restored.{Restored}
use Rattle.arc_core.specs.Operations.{Act, Fails, GivesBack, Keeps, Loads, MakesPrivate, Reads, RunsOut, RunsOutAtDbuf, Tell, Writes, actor_of, moments, own_events, own_moments, pool_reads}
use Rattle.arc_core.specs.ShardLog.{ShardLog}
use Rattle.arc_table.specs.declared.about.About.{About}
use Rattle.arc_table.specs.declared.view.Known.{Known}
use Rattle.arc_table.specs.declared.view.Line.{Line as Seen}
use Rattle.arc_table.specs.declared.view.Line.TheVariants as line
use Rattle.arc_table.specs.Ended.{Ended}
use Rattle.arc_table.specs.Cache.{Cache}
use Rattle.arc_table.specs.Fronts.{StartsWith, front_of}
use Rattle.arc_table.specs.Geometry.{IsCell, parties_of}
use Rattle.arc_table.specs.Seen.{events_in, seen_of, turn_of}
use Rattle.arc_table.specs.TableLaws.{get_front, within}
use Rattle.arc_table.specs.Telling.{opening_of}
use Rattle.arc_table.proofs.TableLaws.{get_last}
use Rattle.dbuf_cells.specs.Turns.{OnHeap, PartyPlace, dbuf_meanings}
use Rattle.dbuf_state.specs.Numbers.{event_numbers}
use Rattle.dbuf_state.specs.declared.event.CellEvent.TheVariants.{End}
use Rattle.trace_text.specs.declared.op.Op.{Op}
use Rattle.trace_text.specs.declared.reply.Reply.{Reply}
use Rattle.trace_text.specs.declared.trace.Trace.{Trace}
use Rattle.trace_run.specs.declared.groups.Crew.{Crew}
use Rattle.trace_run.specs.declared.kept_blocks.KeptBlock.{KeptBlock}
use Rattle.trace_run.specs.Acts.{acts_of_drops}
use Rattle.trace_run.specs.Answers.{AnswersAll}
use Rattle.trace_run.specs.dbufs.CellEnds.{AreCellsOf, AreEndedSo, EndedCrew, SeesEnds, done_by, end_entry, noted_ends}
use Rattle.trace_run.specs.Deeds.{HasToldAll, HasToldOthers, KeepsCells, Noted, acts_of_events, events_of_cell, events_there}
use Rattle.trace_run.specs.Explaining.{BeginsWithEvents, EndsWith, Explain, drops_at_end}
use Rattle.trace_run.specs.FeedEvents.{events_of_line, events_of_lines, feeds_behind}
use Rattle.trace_run.specs.Feeds.{FeedDone}
use Rattle.trace_run.specs.KeptBlocks.{Stands, held_in_shard, read_of}
use Rattle.trace_run.specs.KeptReads.{KeptRead}
use Rattle.trace_run.specs.Lines.{caller_of, is_of_caller, replies_where}
use Rattle.trace_run.specs.dbufs.ObjectAnswers.{AreAnsweredByCells}
use Rattle.trace_run.specs.Meeting.{AllKeepCells, HasSettled, HaveGivenBack, HaveParted, IsLevel, SeesEntries, Waits, drops_from}
use Rattle.trace_run.specs.callers.Looking.{HaveLooked}
use Rattle.trace_run.specs.dbufs.Objects.{Line, Work, no_work}
use Rattle.trace_run.specs.one_caller.Alone.{ends_in, histories_of}
use Rattle.trace_run.specs.one_caller.OneCaller.{events_of_drops, kept_after, kept_after_all}
use Rattle.trace_run.specs.Openings.{Knows, openings_of}
use Rattle.trace_run.specs.Restores.{events_by_feeder, restores_in}
use Rattle.trace_run.specs.RunWork.{AllFit, FitsBy, IsRunWork, RunWork, acts_by, acts_of_caller_lines, acts_of_syncs, kept_after_lines, lines_of_caller, lines_of_feeder, noted_by, noted_of_syncs}
use Rattle.trace_run.specs.callers.GroupRun.{HaveClosed, HaveStopped}
use Rattle.trace_run.specs.callers.Groups.{HaveCome, AreMakers, stopped_line}
use Rattle.trace_run.specs.Syncing.{inserts_noted}
use Rattle.trace_run.specs.callers.Together.{AreCut, IsCut, IsCutLast, events_at_end, over_callers, reads_of_caller}
use Rattle.trace_run.specs.callers.WorkLines.{AnswersLines, AreLinesOf, calls_of_lines, noted_of_work}
use Rattle.trace_run.proofs.CellLemmas.{all-empty, ends-one, get-of}
use Rattle.trace_run.proofs.callers.AfterEnds.{crew-long, last-same, same-long}
use Rattle.trace_run.proofs.callers.CallerActLemmas.{caller-is}
use Rattle.trace_run.proofs.callers.EndedLemmas.{all-at}
use Rattle.trace_run.proofs.callers.GroupCounts.{IsLineAct, acts-counted, reads_of_act}
use Rattle.trace_run.proofs.callers.GroupRunLemmas.{come-wait, gave-at, gone-long, gone-stopped, lines-acts, lines-noted}
use Rattle.trace_run.proofs.callers.LineLists.{noted-append}
use Rattle.trace_run.proofs.callers.MeetLemmas.{all-before, starts-then}
use Rattle.trace_run.proofs.deeds.CellsDone.{cell-append}
use Rattle.trace_run.proofs.one_caller.TellLemmas.{all-append, all-map}
use Rattle.trace_run.proofs.theorem.CellRun.{crew-cells, crew-kept, crew-seen}
use Rattle.trace_run.proofs.theorem.CrewEnds.{crew-ended, crew-level}
use Rattle.trace_run.proofs.theorem.LineActs.{Own, caller-own, own-fits}
use Rattle.trace_run.proofs.theorem.AnsweredCells.{EndsFrom, all-by-cells, goes-on, slice-of}
use Rattle.trace_run.proofs.theorem.AnsweredFronts.{front-answered}
use Rattle.trace_run.proofs.theorem.EndLemmas.{shown-at}
use Rattle.trace_run.proofs.theorem.LineAnswers.{IsOfOne, lines-answered, own-lines-of}
use Rattle.trace_run.proofs.theorem.WorkEnds.{HasEndedWork, IsCallersAct, acts-same, own-told, reads-counted, work-explains, work-level}
use Rattle.trace_run.proofs.deeds.MakesLemmas.{later-then}
use Rattle.trace_run.specs.MadeLines.{IsMaker, OwnPasses}
use Rattle.trace_run.proofs.callers.MakerLemmas.{maker-before, passes-before}

-- these are the lines that were answered; where a sync stopped, it stands behind them
abbrev pub HasStop : RunWork → List Line → Type 0
HasStop work ls = ((ls ≡ work.lines) × (work.stopped ≡ no_work)) ⊎ (ls ≡ work.lines ++ stopped_line work ∷ [])

-- ---- lines that are not answered add nothing

none-where : (test : Op → Bool) (l : List Op) → replies_where test l [] ≡ []
none-where test [] = refl
none-where test (o ∷ l) = refl

none-kept : (blocks : List Ptr) (kept : List KeptRead) (l : List Op) → kept_after_all blocks kept l [] ≡ kept
none-kept blocks kept [] = refl
none-kept blocks kept (o ∷ l) = refl

-- what a caller keeps behind its lines is what the replies say
pub kept-lines : (blocks : List Ptr) (n : ℕ) (kept : List KeptRead) (os more : List Op) (rs : List Reply) (ls : List Line) → AreLinesOf os rs ls
    → kept_after_lines blocks kept (lines_of_caller n ls) ≡ kept_after_all blocks kept (filter (is_of_caller n) (os ++ more)) (replies_where (is_of_caller n) (os ++ more) rs)
kept-lines blocks n kept [] more [] [] are = sym (ap (kept_after_all blocks kept (filter (is_of_caller n) more)) (none-where (is_of_caller n) more) ∙ none-kept blocks kept (filter (is_of_caller n) more))
kept-lines blocks n kept [] more [] (l ∷ ls) are = absurd are
kept-lines blocks n kept [] more (r ∷ rs) ls are = absurd are
kept-lines blocks n kept (o ∷ os) more [] ls are = absurd are
kept-lines blocks n kept (o ∷ os) more (r ∷ rs) [] are = absurd are
kept-lines blocks n kept (o ∷ os) more (r ∷ rs) (l ∷ ls) are = elim (cases_true (is_of_caller n o)) [
  | inl own ↦
      let mine : is_of_caller n l.op ≡ true = ap (is_of_caller n) are.0 ∙ own in
      rw (mine, own) (kept-lines blocks n (kept_after blocks l.op l.reply kept) os more rs ls are.2
      ∙ (λ i. kept_after_all blocks (kept_after blocks (are.0 i) (are.1 i) kept) (filter (is_of_caller n) (os ++ more)) (replies_where (is_of_caller n) (os ++ more) rs)))
  | inr other ↦
      let none : is_of_caller n l.op ≡ false = ap (is_of_caller n) are.0 ∙ other in
      rw (none, other) (kept-lines blocks n kept os more rs ls are.2)
]

none-events : (g : Config) (shard : ℕ) (l : List Op) (feeds : List FeedDone) → events_of_lines g shard l [] feeds ≡ []
none-events g shard [] feeds = refl
none-events g shard (o ∷ l) feeds = refl

pub feeder-lines : (g : Config) (shard : ℕ) (os more : List Op) (rs : List Reply) (feeds : List FeedDone) → length rs ≡ length os → events_of_lines g shard os rs feeds ≡ events_of_lines g shard (os ++ more) rs feeds
feeder-lines g shard [] more [] feeds long = sym (none-events g shard more feeds)
feeder-lines g shard [] more (r ∷ rs) feeds long = absurd (omega (arith, long))
feeder-lines g shard (o ∷ os) more [] feeds long = absurd (omega (arith, long))
feeder-lines g shard (o ∷ os) more (r ∷ rs) feeds long = ap (λ (l : List Event). events_of_line g shard o r feeds ++ l) (feeder-lines g shard os more rs (feeds_behind o r feeds) (omega (arith, long)))

pub lines-long : (os : List Op) (rs : List Reply) (ls : List Line) → AreLinesOf os rs ls → length rs ≡ length os
lines-long [] [] [] are = refl
lines-long [] [] (l ∷ ls) are = absurd are
lines-long [] (r ∷ rs) ls are = absurd are
lines-long (o ∷ os) [] ls are = absurd are
lines-long (o ∷ os) (r ∷ rs) [] are = absurd are
lines-long (o ∷ os) (r ∷ rs) (l ∷ ls) are = ap suc (lines-long os rs ls are.2)

-- ---- the drops of all callers, by what each keeps

drops-are : (g : Config) (blocks : List Ptr) (shard n : ℕ) (ks : List (List KeptBlock)) (os : List Op) (rs : List Reply)
    → ((k : ℕ) (x : List KeptBlock) → get_elem? ks k ≡ some x → map read_of x ≡ kept_after_all blocks [] (filter (is_of_caller (n + k)) os) (replies_where (is_of_caller (n + k)) os rs))
    → drops_at_end g blocks shard n os rs ++ drops_from g shard n ks ≡ drops_at_end g blocks shard (n + length ks) os rs
drops-are g blocks shard n [] os rs each = append-nil (drops_at_end g blocks shard n os rs) ∙ ap (λ (c : ℕ). drops_at_end g blocks shard c os rs) (let z : n ≡ n + length {A = List KeptBlock} [] = omega arith in z)
drops-are g blocks shard n (k ∷ ks) os rs each =
    let z : n + 0 ≡ n = omega arith in
    let mine : map read_of k ≡ kept_after_all blocks [] (filter (is_of_caller n) os) (replies_where (is_of_caller n) os rs) =
    each 0 k refl ∙ ap (λ (c : ℕ). kept_after_all blocks [] (filter (is_of_caller c) os) (replies_where (is_of_caller c) os rs)) z in
    let now : List Event = events_of_drops n (held_in_shard g shard (map read_of k)) in
    let more : suc n + length ks ≡ n + length (k ∷ ks) = omega arith in
    sym (append_assoc (drops_at_end g blocks shard n os rs) now (drops_from g shard (suc n) ks))
    ∙ (ap (λ (l : List KeptRead). (drops_at_end g blocks shard n os rs ++ events_of_drops n (held_in_shard g shard l)) ++ drops_from g shard (suc n) ks) mine
    ∙ (drops-are g blocks shard (suc n) ks os rs
    (λ j x at. let y : n + suc j ≡ suc n + j = omega arith in subst (λ (c : ℕ). map read_of x ≡ kept_after_all blocks [] (filter (is_of_caller c) os) (replies_where (is_of_caller c) os rs)) y (each (suc j) x at))
    ∙ ap (λ (c : ℕ). drops_at_end g blocks shard c os rs) more))

-- ---- cuts of a front are cuts of the whole

pub one-cut-more : (g : Config) (restored : List Restored) (blocks : List Ptr) (shard : ℕ) (owner : (place : ℕ) → ℕ) (lines : List Line) (fs : List FeedDone) (acts : List Act) (here : List Event → List Event) (front history : List Event) → StartsWith history front
    → IsCut g restored blocks shard owner lines fs acts here front → IsCut g restored blocks shard owner lines fs acts here history
one-cut-more g restored blocks shard owner lines fs acts here front history starts c = record {
  front = c.front;
  rest = c.rest ++ starts.0;
  whole = starts.1 ∙ (ap (λ (es : List Event). es ++ starts.0) c.whole
      ∙ (append_assoc c.front (here c.front ++ c.rest) starts.0 ∙ ap (λ (es : List Event). c.front ++ es) (append_assoc (here c.front) c.rest starts.0)));
  callers = c.callers;
  feeder = c.feeder;
  cells = c.cells;
  inserted = c.inserted;
  quiet = c.quiet;
}

-- ---- acts

line-act : (g : Config) (act : Act) → IsCallersAct g act → IsLineAct act
line-act g (Reads n t ptr from) is = tt
line-act g (Keeps n t ptr from) is = tt
line-act g (GivesBack n k) is = tt
line-act g (Loads n t ptr from cell) is = tt
line-act g (Fails n t ptr) is = tt
line-act g (RunsOut n t ptr) is = absurd is
line-act g (RunsOutAtDbuf n t ptr cell) is = absurd is
line-act g (MakesPrivate cell k) is = absurd is
line-act g (Writes cell t ptr) is = absurd is

all-of : (n : ℕ) (acts : List Act) → AllByRecursion (λ act. actor_of act ≡ n) (filter (λ act. actor_of act == n) acts)
all-of n [] = tt
all-of n (act ∷ acts) = elim (cases_true (actor_of act == n)) [
  | inl own ↦ rw own (eqb-true (actor_of act) n own, all-of n acts)
  | inr other ↦ rw other (all-of n acts)
]

-- ---- the closed cache

module _ (cache : Cache) (valid : IsConfig cache.config) (restored : List Restored) (len : ℕ) (image : Option (List ℕ)) (place : ℕ) (blocks : List Ptr) (os more : List Op) (rs : List Reply) (work : RunWork) (crew : Crew OnHeap)
    (come : HaveCome cache restored len image place blocks os rs work crew) (closed : Ended OnHeap) (h : HaveClosed dbuf_meanings cache crew closed) where
  abbrev g : Config
  g = cache.config

  abbrev c : EndedCrew cache h.parties h.closing
  c = h.ended

  -- the work of the run, with what was dropped as the cells were ended
  abbrev pub ended-work : RunWork
  ended-work = record work { ended = c.ended.drops }

  abbrev pub acts : ℕ → List Act
  acts n = acts_by g blocks ended-work n

  abbrev pub noted : ℕ → List Noted
  noted n = noted_by g ended-work n

  abbrev feeds : (shard : ℕ) → List Event
  feeds = events_by_feeder g restored (os ++ more) rs work.feeds

  -- ---- the parties that gave back

  gave : HaveGivenBack cache (lines-acts cache restored len image place blocks os rs work crew come) (lines-noted cache restored len image place blocks os rs work crew come) crew.feeder.own.about.openings (events_by_feeder g restored os rs work.feeds)
      (λ shard. seen_of g shard crew.feeder) (acts_of_syncs g blocks work) (noted_of_syncs work) crew.parties.items crew.feeder crew.kept.items h.parties
  gave = h.gave (lines-acts cache restored len image place blocks os rs work crew come) (lines-noted cache restored len image place blocks os rs work crew come) (come-wait cache restored len image place blocks os rs work crew come)
      crew.feeder.own.about.openings (events_by_feeder g restored os rs work.feeds) (λ shard. seen_of g shard crew.feeder) (acts_of_syncs g blocks work) (noted_of_syncs work) come.feeder

  stopped : HaveStopped cache h.parties
  stopped = gone-stopped cache _ _ _ _ _ _ _ _ _ crew.kept.items h.parties come.kepts gave

  many-gave : length gave.callers ≡ g.callers
  many-gave = gone-long cache _ _ _ _ _ _ _ _ _ crew.kept.items h.parties come.kepts gave

  same-parties : (c.callers ≡ gave.callers) × (c.feeder ≡ gave.feeder)
  same-parties = last-same c.callers gave.callers c.feeder gave.feeder (sym c.are ∙ gave.are)

  many : length c.callers ≡ g.callers
  many = ap length same-parties.0 ∙ many-gave

  -- what a caller's number did in all
  caller-acts : (n : ℕ) → n < g.callers → acts n ≡ acts_of_caller_lines g blocks n (lines_of_caller n work.lines)
  caller-acts n below = let other : (n == g.callers) ≡ false = ne_eqb n g.callers (λ is. omega (arith, is, below)) in rw other refl

  caller-noted : (n : ℕ) → n < g.callers → noted n ≡ noted_of_work (lines_of_caller n work.lines)
  caller-noted n below = let other : (n == g.callers) ≡ false = ne_eqb n g.callers (λ is. omega (arith, is, below)) in rw other refl

  feeder-acts : acts g.callers ≡ acts_of_syncs g blocks work ++ acts_of_events c.ended.drops
  feeder-acts = let here : (g.callers == g.callers) ≡ true = eq-eqb g.callers g.callers refl in rw here refl

  feeder-noted : noted g.callers ≡ noted_of_syncs work ++ noted_ends g.callers 0 g.cells
  feeder-noted = let here : (g.callers == g.callers) ≡ true = eq-eqb g.callers g.callers refl in rw here refl

  -- each caller, once it has given back
  caller-waits : (n : ℕ) (o : PartyPlace) → get_elem? c.callers n ≡ some o → (n < g.callers) × Waits cache n (acts n) (noted n) [] o
  caller-waits n o at =
      let at_gave : get_elem? gave.callers n ≡ some o = ap (λ (l : List PartyPlace). get_elem? l n) (sym same-parties.0) ∙ at in
      let inside : n < g.callers = subst (λ (x : ℕ). n < x) many-gave (within gave.callers n o at_gave) in
      let b = come.each n inside in
      let k = gave-at cache (lines-acts cache restored len image place blocks os rs work crew come) (lines-noted cache restored len image place blocks os rs work crew come) 0 crew.kept.items gave.callers n o gave.gave at_gave in
      let same : k.0 ≡ b.reads = some-injective k.0 b.reads (sym k.1 ∙ b.at.kept_at) in
      let z : 0 + n ≡ n = omega arith in
      let waits = subst (λ (x : ℕ). Waits cache x (lines-acts cache restored len image place blocks os rs work crew come x ++ acts_of_drops x (map read_of k.0)) (lines-noted cache restored len image place blocks os rs work crew come x) [] o) z k.2 in
      let own : List KeptRead → List Act = λ x. lines-acts cache restored len image place blocks os rs work crew come n ++ acts_of_drops n x in
      (inside, subst (λ (x : List Act × List Noted). Waits cache n x.0 x.1 [] o) (λ i. ((ap own (ap (map read_of) same ∙ b.come.keeps) ∙ sym (caller-acts n inside)) i, sym (caller-noted n inside) i)) waits)

  caller-tells : (n : ℕ) (o : PartyPlace) → get_elem? c.callers n ≡ some o → HasToldAll g (acts n) (noted n) o
  caller-tells n o at = (caller-waits n o at).1.told

  -- ---- a caller's own acts

  -- a caller's party, as it was between the groups
  abbrev party-at : ℕ → PartyPlace
  party-at n = get_or crew.parties.items n crew.feeder

  party-is : (n : ℕ) (below : n < g.callers) → (come.each n below).party ≡ party-at n
  party-is n below = at-or crew.parties.items n crew.feeder (come.each n below).party (come.each n below).at.party_at
    where
      at-or : (xs : List PartyPlace) (k : ℕ) (d x : PartyPlace) → get_elem? xs k ≡ some x → x ≡ get_or xs k d
      at-or [] k d x at = absurd (some-ne-none x (sym at))
      at-or (y ∷ ys) zero d x at = sym (some-injective y x at)
      at-or (y ∷ ys) (suc k) d x at = at-or ys k d x at

  line-answers : (n : ℕ) → n < g.callers → AnswersLines g len image place blocks (party-at n).own.about.openings (party-at n).own.seen n [] [] (lines_of_caller n work.lines)
  line-answers n below = subst (λ (p : PartyPlace). AnswersLines g len image place blocks p.own.about.openings p.own.seen n [] [] (lines_of_caller n work.lines)) (party-is n below) (come.each n below).come.answers

  caller-owns : (n : ℕ) (below : n < g.callers) → Own g valid n below (acts_of_caller_lines g blocks n (lines_of_caller n work.lines)) (length (calls_of_lines (lines_of_caller n work.lines)))
  caller-owns n below = caller-own g valid n below len image place blocks (party-at n).own.about.openings (party-at n).own.seen (lines_of_caller n work.lines) (own-fits g n work.lines come.did.fits) (line-answers n below)

  own-kinds : (n : ℕ) → n < g.callers → AllByRecursion (IsCallersAct g) (filter (λ act. actor_of act == n) (acts n))
  own-kinds n below = subst (λ (l : List Act). AllByRecursion (IsCallersAct g) (filter (λ act. actor_of act == n) l)) (sym (caller-acts n below)) (caller-owns n below).kinds

  -- ---- the parties that close the cache

  long : length rs ≡ length os
  long = lines-long os rs work.lines come.did.lines

  same-feeder-number : gave.feeder.number ≡ g.callers
  same-feeder-number = gave.fed.number

  ended : (n : ℕ) (p : PartyPlace) → get_elem? h.closing n ≡ some p → HasEndedWork g (acts n) (noted n) feeds n p
  ended = crew-ended cache h.parties h.closing c stopped many acts noted feeds caller-tells own-kinds (acts_of_syncs g blocks work) (noted_of_syncs work)
      (subst (HasToldOthers g (acts_of_syncs g blocks work) (noted_of_syncs work)) (sym same-parties.1) gave.fed.told) (subst HasSettled (sym same-parties.1) gave.fed.settled)
      (λ shard inside. subst (λ (p : PartyPlace). own_events g.callers (seen_of g shard p) ≡ feeds shard) (sym same-parties.1)
      (subst (λ (n : ℕ). own_events n (seen_of g shard gave.feeder) ≡ feeds shard) gave.fed.number
      (gave.fed.fed shard inside ∙ ap (λ (l : List Event). restores_in g restored shard ++ l) (feeder-lines g shard os more rs work.feeds long))))
      feeder-acts feeder-noted

  count : length h.closing ≡ parties_of g
  count = crew-long cache h.parties h.closing c ∙ stopped.count

  levels : AllByRecursion (IsLevel g gave.lines) c.callers × IsLevel g gave.lines c.feeder
  levels = all-before (IsLevel g gave.lines) c.callers c.feeder (subst (AllByRecursion (IsLevel g gave.lines)) c.are gave.level)

  abbrev fronts : ℕ → List Event
  fronts shard = events_in (gave.lines shard) ++ events_there g shard c.ended.drops

  all-level : (n : ℕ) (p : PartyPlace) → get_elem? h.closing n ≡ some p → (shard : ℕ) → seen_of g shard p ≡ fronts shard
  all-level = crew-level cache h.parties h.closing c stopped many gave.lines levels.0 levels.1

  -- each history is what all have seen
  history-is : (i : ℕ) (l : ShardLog) → get_elem? closed.shards i ≡ some l → l.history ≡ fronts i
  history-is i l at = work-level dbuf_meanings cache restored blocks (os ++ more) ended-work rs h.closing closed h.ends count ended fronts all-level i l at

  -- where all parties had seen the same between the groups, behind it stand the drops, and nothing else
  pub run-shards : (before : ℕ → List Seen) → IsLevel g before crew.feeder → AllByRecursion (IsLevel g before) crew.parties.items → (i : ℕ) (l : ShardLog) → get_elem? closed.shards i ≡ some l
      → l.history ≡ (events_in (before i) ++ drops_from g i 0 crew.kept.items) ++ events_there g i h.ended.ended.drops
  run-shards before own rest i l at = history-is i l at
      ∙ ap (λ (es : List Event). es ++ events_there g i c.ended.drops) (gave.drops i ∙ ap (λ (es : List Event). es ++ drops_from g i 0 crew.kept.items) (gave.same before own rest i))

  -- what the feeder had seen between the groups begins it
  pub since : (i : ℕ) (l : ShardLog) → get_elem? closed.shards i ≡ some l → StartsWith l.history (seen_of g i crew.feeder)
  since i l at =
      let same : seen_of g i gave.feeder ≡ events_in (gave.lines i) = ap (λ (p : PartyPlace). seen_of g i p) (sym same-parties.1) ∙ ap events_in (levels.1 i) in
      let first : StartsWith l.history (seen_of g i gave.feeder) = (events_there g i c.ended.drops, history-is i l at ∙ ap (λ (es : List Event). es ++ events_there g i c.ended.drops) (sym same)) in
      starts-then l.history (seen_of g i gave.feeder) (seen_of g i crew.feeder) first (gave.fed.since i)

  begins-at : (i : ℕ) (l : ShardLog) → get_elem? closed.shards i ≡ some l → BeginsWithEvents l.history (restores_in g restored i)
  begins-at i l at =
      let inside : i < g.shards = subst (λ (k : ℕ). i < k) h.ends.shards (within closed.shards i l at) in
      starts-then l.history (seen_of g i crew.feeder) (restores_in g restored i) (since i l at) (come.begun i inside)

  kept-at : (k : ℕ) (x : List KeptBlock) → get_elem? crew.kept.items k ≡ some x → map read_of x ≡ kept_after_all blocks [] (filter (is_of_caller (0 + k)) (os ++ more)) (replies_where (is_of_caller (0 + k)) (os ++ more) rs)
  kept-at k x at =
      let b = come.each k (subst (λ (n : ℕ). k < n) come.kepts (within crew.kept.items k x at)) in
      let z : k ≡ 0 + k = omega arith in
      subst (λ (n : ℕ). map read_of x ≡ kept_after_all blocks [] (filter (is_of_caller n) (os ++ more)) (replies_where (is_of_caller n) (os ++ more) rs)) z
      (ap (map read_of) (some-injective x b.reads (sym at ∙ b.at.kept_at)) ∙ (b.come.keeps ∙ kept-lines blocks k [] os more rs work.lines come.did.lines))

  ends-at : (i : ℕ) (l : ShardLog) → get_elem? closed.shards i ≡ some l → EndsWith l.history (drops_at_end g blocks i g.callers (os ++ more) rs ++ events_there g i ended-work.ended)
  ends-at i l at =
      let z : 0 + length crew.kept.items ≡ g.callers = omega (arith, come.kepts) in
      let drops : drops_from g i 0 crew.kept.items ≡ drops_at_end g blocks i g.callers (os ++ more) rs =
      drops-are g blocks i 0 crew.kept.items (os ++ more) rs kept-at ∙ ap (λ (n : ℕ). drops_at_end g blocks i n (os ++ more) rs) z in (
        gave.first i,
        history-is i l at ∙ (ap (λ (es : List Event). es ++ events_there g i c.ended.drops) (gave.drops i ∙ ap (λ (es : List Event). gave.first i ++ es) drops)
            ∙ append_assoc (gave.first i) (drops_at_end g blocks i g.callers (os ++ more) rs) (events_there g i c.ended.drops)),
      )

  -- ---- the work is that of the lines

  pub did-work : IsRunWork g os rs ended-work
  did-work = record { lines = come.did.lines; fits = come.did.fits; stopped = come.did.stopped; fed = come.did.fed; ended = c.ended.are }

  -- each party that closed the cache made what it is the owner of, and the passes of a history have their owners' numbers
  abbrev pub HaveMade : ((shard place : ℕ) → ℕ) → Type 0
  HaveMade owner = (i : ℕ) (l : ShardLog) → get_elem? closed.shards i ≡ some l → ((n : ℕ) (p : PartyPlace) → get_elem? h.closing n ≡ some p → IsMaker g i (owner i) n p) × OwnPasses g (owner i) l.history

  -- ---- the cells

  module _ (trace : Trace) (config : g ≡ trace.config) (knows : Knows (openings_of trace) crew.feeder) where
    knows-last : Knows (openings_of trace) c.last
    knows-last = ap (λ (a : About). a.openings) c.ended.about ∙ (ap (λ (p : PartyPlace). p.own.about.openings) same-parties.1 ∙ (gave.fed.knows ∙ knows))

    pub run-cells : AreCellsOf trace noted closed
    run-cells = crew-cells cache h.parties h.closing c stopped closed h.ends trace config noted knows-last many (λ n o at i range. (caller-tells n o at).entries i range)
        (acts_of_syncs g blocks work) (noted_of_syncs work) (subst (HasToldOthers g (acts_of_syncs g blocks work) (noted_of_syncs work)) (sym same-parties.1) gave.fed.told) feeder-noted

    -- what they still kept was given back
    pub run-kept : AreEndedSo g 0 closed.cells ended-work.ended
    run-kept = crew-kept cache h.parties h.closing c stopped closed h.ends trace config noted knows-last many (λ n o at i range. (caller-tells n o at).entries i range)
        (acts_of_syncs g blocks work) (noted_of_syncs work) (subst (HasToldOthers g (acts_of_syncs g blocks work) (noted_of_syncs work)) (sym same-parties.1) gave.fed.told) feeder-noted

    -- the feeder has seen all that was done to cells
    run-whole : (i : ℕ) (x : OnHeap) → get_elem? closed.cells i ≡ some x → map line.Entry (map event_numbers x.value.history) ≡ front_of i c.last.own.seen
    run-whole = crew-seen cache h.parties h.closing c stopped closed h.ends trace config noted knows-last many (λ n o at i range. (caller-tells n o at).entries i range)
        (acts_of_syncs g blocks work) (noted_of_syncs work) (subst (HasToldOthers g (acts_of_syncs g blocks work) (noted_of_syncs work)) (sym same-parties.1) gave.fed.told) feeder-noted

    -- what they kept was given back as they were ended, one after the other
    pub run-gives : SeesEnds g (openings_of trace) h.ended.last.own.seen g.callers 0 g.cells h.ended.ended.drops
    run-gives = subst (λ (x : List (List ℕ) × ℕ). SeesEnds g x.0 c.last.own.seen x.1 0 g.cells c.ended.drops)
        (λ z. ((ap (λ (p : PartyPlace). p.own.about.openings) same-parties.1 ∙ (gave.fed.knows ∙ knows)) z, (ap (λ (p : PartyPlace). p.number) same-parties.1 ∙ same-feeder-number) z)) c.ended.kept

    pub run-last : (entries : ℕ → List Seen) → SeesEntries g entries crew.feeder → AllByRecursion (SeesEntries g entries) crew.parties.items → (i : ℕ) → IsCell g i → front_of i h.ended.last.own.seen ≡ entries i ++ end_entry g.callers i
    run-last entries own rest i range =
        let all = all-before (SeesEntries g entries) c.callers c.feeder (subst (AllByRecursion (SeesEntries g entries)) c.are (gave.same_cells entries own rest)) in
        c.ended.same_cells entries all.1 all.0 i range ∙ ap (λ (n : ℕ). entries i ++ end_entry n i) (ap (λ (p : PartyPlace). p.number) same-parties.1 ∙ same-feeder-number)

    -- where all parties had seen the same of cells between the groups, behind it stand their ends, and nothing else
    pub run-entries : (entries : ℕ → List Seen) → SeesEntries g entries crew.feeder → AllByRecursion (SeesEntries g entries) crew.parties.items → (i : ℕ) (x : OnHeap) → get_elem? closed.cells i ≡ some x
        → map line.Entry (map event_numbers x.value.history) ≡ entries i ++ end_entry g.callers i
    run-entries entries own rest i x at =
        let range : IsCell g i = subst (λ (k : ℕ). i < k) h.ends.cells (within closed.cells i x at) in
        run-whole i x at ∙ run-last entries own rest i range

    emptied : (j : ℕ) (x : OnHeap) → get_elem? closed.cells j ≡ some x → dbuf_meanings.holds x ≡ []
    emptied = all-empty cache h.closing closed h.ends trace noted run-cells

    -- The histories explain the replies and the work, where each party that closed the cache made what it is the owner of.
    pub run-explains : (x : Explain (record { config = g; blocks = blocks; objects = []; ops = os ++ more }) restored ended-work rs (ends_in closed) (histories_of closed)) × HaveMade (λ i. x.owner i)
    run-explains = work-explains dbuf_meanings cache restored blocks (os ++ more) ended-work rs h.closing closed h.ends count ended emptied begins-at ends-at

  -- ---- the reads of the pool

  pub run-reads : over_callers g.callers (λ n. reads_of_caller n (histories_of closed)) ≡ sum_by pool_reads (histories_of closed)
  run-reads = reads-counted dbuf_meanings cache restored blocks (os ++ more) ended-work rs h.closing closed h.ends count ended

  line-acts : (acts : List Act) → AllByRecursion (IsCallersAct g) acts → AllByRecursion IsLineAct acts
  line-acts acts kinds = all-map (IsCallersAct g) IsLineAct acts (line-act g) kinds

  pub run-counted : (n : ℕ) → n < g.callers → length (calls_of_lines (lines_of_caller n work.lines)) ≡ reads_of_caller n (histories_of closed)
  run-counted n below =
      let own : List Act = filter (λ act. actor_of act == n) (acts n) in
      let his : AllByRecursion (λ act. actor_of act ≡ n) own = all-of n (acts n) in
      let all : sum_by reads_of_act own ≡ reads_of_caller n (histories_of closed) =
      acts-counted g n own (histories_of closed) valid (length-map closed.shards (λ (log : ShardLog). log.history) ∙ h.ends.shards) (line-acts own (own-kinds n below)) his
      (λ i es at. subst (λ (l : List Act). Tell l (own_moments n (moments (opening_of g) es))) (sym (acts-same (shard_of g.shards) i n (acts n)))
      (own-told dbuf_meanings cache restored blocks (os ++ more) ended-work rs h.closing closed h.ends count ended n below i es at)) in
      sym (ap (λ (l : List Act). sum_by reads_of_act (filter (λ act. actor_of act == n) l)) (caller-acts n below) ∙ (caller-owns n below).count) ∙ all

  -- ---- answers

  pub run-answers : ((k : ℕ) (op : Op) → slice_get os k ≡ Some op → (n : ℕ) → caller_of op ≡ Some n → n < g.callers) → AnswersAll len image blocks os rs
  run-answers below = lines-answered g len image place blocks (λ n. (party-at n).own.about.openings) (λ n. (party-at n).own.seen) (λ n. n < g.callers) os rs work.lines come.did.lines below come.ended line-answers

  -- ---- what the parties had seen of cells

  starts-cells : (p q r : PartyPlace) → KeepsCells g p q → KeepsCells g q r → KeepsCells g p r
  starts-cells p q r first second = record {
    about = second.about ∙ first.about;
    fronts = λ i range. starts-then (front_of i r.own.seen) (front_of i q.own.seen) (front_of i p.own.seen) (second.fronts i range) (first.fronts i range);
    shards = λ shard. starts-then (front_of (turn_of g shard) r.own.seen) (front_of (turn_of g shard) q.own.seen) (front_of (turn_of g shard) p.own.seen) (second.shards shard) (first.shards shard);
    older = later-then g p q r first.shards first.older second.older;
  }

  kept-cells : (olds news : List PartyPlace) (n : ℕ) (p : PartyPlace) → AllKeepCells g olds news → get_elem? olds n ≡ some p → (q : PartyPlace) × (get_elem? news n ≡ some q) × KeepsCells g p q
  kept-cells [] [] n p all at = absurd (some-ne-none p (sym at))
  kept-cells [] (x ∷ xs) n p all at = absurd all
  kept-cells (o ∷ os) [] n p all at = absurd all
  kept-cells (o ∷ os) (x ∷ xs) zero p all at = (x, refl, subst (λ (y : PartyPlace). KeepsCells g y x) (some-injective o p at) all.0)
  kept-cells (o ∷ os) (x ∷ xs) (suc n) p all at = kept-cells os xs n p all.1 at

  parted-cells : (olds news : List PartyPlace) (n : ℕ) (p : PartyPlace) → HaveParted cache c.ended.lines olds news → ((k : ℕ) (o : PartyPlace) → get_elem? olds k ≡ some o → Stands cache o []) → get_elem? olds n ≡ some p
      → (q : PartyPlace) × (get_elem? news n ≡ some q) × KeepsCells g p q
  parted-cells [] [] n p parted stand at = absurd (some-ne-none p (sym at))
  parted-cells [] (x ∷ xs) n p parted stand at = absurd parted
  parted-cells (o ∷ os) [] n p parted stand at = absurd parted
  parted-cells (o ∷ os) (x ∷ xs) zero p parted stand at = (x, refl, subst (λ (y : PartyPlace). KeepsCells g y x) (some-injective o p at) (parted.0.same [] (stand 0 o refl)).keeps)
  parted-cells (o ∷ os) (x ∷ xs) (suc n) p parted stand at = parted-cells os xs n p parted.1 (λ k q is. stand (suc k) q is) at

  -- ---- cuts

  last-at : get_elem? h.closing g.callers ≡ some c.last
  last-at = ap (λ (l : List PartyPlace). get_elem? l g.callers) c.then ∙ (ap (get_elem? (c.parted ++ c.last ∷ [])) (sym many-parted) ∙ get_last c.parted c.last)
    where
      many-parted : length c.parted ≡ g.callers
      many-parted = same-long cache c.ended.lines c.callers c.parted c.ended.parted ∙ many

  -- what a party that closed the cache made of what it had seen between the groups it had made by then
  makers-then : (owner : (shard place : ℕ) → ℕ) → HaveMade owner → (i : ℕ) (l : ShardLog) → get_elem? closed.shards i ≡ some l → AreMakers g i (owner i) crew
  makers-then owner made i l at = record {
    callers = λ n p is.
        let q = kept-cells crew.parties.items gave.callers n p gave.cells is in
        let there_is : get_elem? c.callers n ≡ some q.0 = ap (λ (l : List PartyPlace). get_elem? l n) same-parties.0 ∙ q.1 in
        let r = parted-cells c.callers c.parted n q.0 c.ended.parted (λ k o at. (caller-waits k o at).1.stands) there_is in
        let last : get_elem? h.closing n ≡ some r.0 = ap (λ (l : List PartyPlace). get_elem? l n) c.then ∙ get_front c.parted (c.last ∷ []) n r.0 r.1 in
        maker-before g i (owner i) n p r.0 (starts-cells p q.0 r.0 q.2 r.2) ((made i l at).0 n r.0 last);
    feeder =
        let keeps : KeepsCells g crew.feeder c.feeder = subst (KeepsCells g crew.feeder) (sym same-parties.1) gave.fed_cells in
        maker-before g i (owner i) g.callers crew.feeder c.last (starts-cells crew.feeder c.feeder c.last keeps c.ended.keeps) ((made i l at).0 g.callers c.last last-at);
    passes = passes-before g (owner i) (seen_of g i crew.feeder) l.history (since i l at) (made i l at).1;
  }

  pub run-cut : (owner : (shard place : ℕ) → ℕ) → HaveMade owner → (i : ℕ) (l : ShardLog) → get_elem? closed.shards i ≡ some l → AreCut g restored blocks i (owner i) ended-work l.history
  run-cut owner made i l at =
      let inside : i < g.shards = subst (λ (k : ℕ). i < k) h.ends.shards (within closed.shards i l at) in
      λ k x there_is ends. one-cut-more g restored blocks i (owner i) (take k work.lines) work.feeds x.work.acts (events_at_end g i x.op x.work.noted) (seen_of g i crew.feeder) l.history (since i l at)
      (come.cut i inside (owner i) (makers-then owner made i l at) k x there_is ends)

  pub run-cut-last : (owner : (shard place : ℕ) → ℕ) → HaveMade owner → (i t : ℕ) (l : ShardLog) → get_elem? closed.shards i ≡ some l → (AreMakers g i (owner i) crew → IsCutLast g restored blocks i (owner i) t work (seen_of g i crew.feeder))
      → IsCutLast g restored blocks i (owner i) t ended-work l.history
  run-cut-last owner made i t l at last =
      one-cut-more g restored blocks i (owner i) work.lines work.feeds work.stopped.acts (inserts_noted g t work.stopped.noted i) (seen_of g i crew.feeder) l.history (since i l at) (last (makers-then owner made i l at))

  -- the cache was closed with parties that have seen of cells at least what callers had
  caller-ends : (n : ℕ) → n < g.callers → (w : Known OnHeap) × (get_elem? h.ends.views n ≡ some w) × EndsFrom g (party-at n).own.about.openings (party-at n).own.seen w
  caller-ends n below =
      let p : PartyPlace = (come.each n below).party in
      let q = kept-cells crew.parties.items gave.callers n p gave.cells (come.each n below).at.party_at in
      let there_is : get_elem? c.callers n ≡ some q.0 = ap (λ (l : List PartyPlace). get_elem? l n) same-parties.0 ∙ q.1 in
      let r = parted-cells c.callers c.parted n q.0 c.ended.parted (λ k o at. (caller-waits k o at).1.stands) there_is in
      let last : get_elem? h.closing n ≡ some r.0 = ap (λ (l : List PartyPlace). get_elem? l n) c.then ∙ get_front c.parted (c.last ∷ []) n r.0 r.1 in
      let shown : get_elem? h.ends.views n ≡ some r.0.own = subst (λ (k : ℕ). get_elem? h.ends.views k ≡ some r.0.own) (ended n r.0 last).number (shown-at h.ends.views h.closing n r.0 last h.ends.shown) in
      let all = starts-cells p q.0 r.0 q.2 r.2 in (
        r.0.own,
        shown,
        subst (λ (x : PartyPlace). EndsFrom g x.own.about.openings x.own.seen r.0.own) (party-is n below) (record { about = ap (λ (a : About). a.openings) all.about; fronts = all.fronts }),
      )

  -- what goes on from all that the callers had seen of a cell once they had given back goes on from what each had seen of it between the groups
  ended-behind : (i : ℕ) → IsCell g i → (before : List Seen) → AllByRecursion (λ o. StartsWith before (front_of i o.own.seen)) c.callers → (n : ℕ) → n < g.callers → StartsWith before (front_of i (party-at n).own.seen)
  ended-behind i range before all n below =
      let p : PartyPlace = (come.each n below).party in
      let q = kept-cells crew.parties.items gave.callers n p gave.cells (come.each n below).at.party_at in
      let there_is : get_elem? c.callers n ≡ some q.0 = ap (λ (l : List PartyPlace). get_elem? l n) same-parties.0 ∙ q.1 in
      subst (λ (x : PartyPlace). StartsWith before (front_of i x.own.seen)) (party-is n below)
      (starts-then before (front_of i q.0.own.seen) (front_of i p.own.seen) (all-at (λ o. StartsWith before (front_of i o.own.seen)) c.callers n q.0 all there_is) (q.2.fronts i range))

  -- All lines of callers on objects are answered by the closed cells.
  module _ (trace : Trace) (config : g ≡ trace.config) (knows : Knows (openings_of trace) crew.feeder) (told : (k : ℕ) → Option (List ℕ)) (below : (k : ℕ) (op : Op) → slice_get os k ≡ Some op → (n : ℕ) → caller_of op ≡ Some n → n < g.callers) where
    -- the feeder ended each cell behind all that callers had seen there
    behind-all : (i : ℕ) (x : OnHeap) → get_elem? closed.cells i ≡ some x → (before : List Seen) × (map line.Entry (map event_numbers x.value.history) ≡ before ++ end_entry g.callers i)
        × ((n : ℕ) (few : n < g.callers) → StartsWith before (front_of i (party-at n).own.seen))
    behind-all i x at =
        let range : IsCell g i = subst (λ (k : ℕ). i < k) h.ends.cells (within closed.cells i x at) in
        let end = c.ended.ends i range in (
          end.0,
          run-whole trace config knows i x at ∙ (end.1 ∙ ap (λ (n : ℕ). end.0 ++ end_entry n i) (ap (λ (p : PartyPlace). p.number) same-parties.1 ∙ same-feeder-number)),
          ended-behind i range end.0 end.2,
        )

    own-at : (ls : List Line) → AllByRecursion (IsOfOne (λ n. n < g.callers)) ls → (k : ℕ) (l : Line) → slice_get ls k ≡ Some l → (n : ℕ) → caller_of l.op ≡ Some n → n < g.callers
    own-at [] all k l at n is = cc
    own-at (x ∷ ls) all zero l at n is = let same : x ≡ l = cc in all.0 n (ap (λ (y : Line). caller_of y.op) same ∙ is)
    own-at (x ∷ ls) all (suc k) l at n is = own-at ls all.1 k l at n is

    lines-own : AllByRecursion (IsOfOne (λ n. n < g.callers)) work.lines
    lines-own = own-lines-of (λ n. n < g.callers) os rs work.lines come.did.lines below

    -- by lines that have of each caller, and of the feeder, what was done
    module _ (ls : List Line) (fits : AllFit g ls) (own : AllByRecursion (IsOfOne (λ n. n < g.callers)) ls) (callers_same : (m : ℕ) → lines_of_caller m ls ≡ lines_of_caller m work.lines) (feeder_same : noted_of_work (lines_of_feeder ls) ≡ noted_of_syncs work) where
      caller-did : (i : ℕ) (x : OnHeap) → get_elem? closed.cells i ≡ some x → (m : ℕ) → m < g.callers → done_by m x.value.history ≡ events_of_cell i (noted_of_work (lines_of_caller m ls))
      caller-did i x at m less =
          ((run-cells trace config knows).each i x (slice-of closed.cells i x at)).did m (subst (λ (y : Config). m < parties_of y) config (omega (arith, less)))
          ∙ ap (events_of_cell i) (caller-noted m less ∙ ap noted_of_work (sym (callers_same m)))

      feeder-did : (i : ℕ) (x : OnHeap) → get_elem? closed.cells i ≡ some x → done_by g.callers x.value.history ≡ events_of_cell i (noted_of_work (lines_of_feeder ls)) ++ End g.callers ∷ []
      feeder-did i x at =
          let inside : i < g.cells = subst (λ (k : ℕ). i < k) h.ends.cells (within closed.cells i x at) in
          ((run-cells trace config knows).each i x (slice-of closed.cells i x at)).did g.callers (subst (λ (y : Config). g.callers < parties_of y) config (omega arith))
          ∙ (ap (events_of_cell i) feeder-noted ∙ (cell-append i (noted_of_syncs work) (noted_ends g.callers 0 g.cells)
          ∙ (λ z. events_of_cell i (sym feeder_same z) ++ ends-one g.callers i 0 g.cells (omega arith) (omega (arith, inside)) z)))

      objects-by : HaveLooked g len told ls crew.parties.items → AreAnsweredByCells g len told closed.cells ls
      objects-by looked =
          all-by-cells cache valid h.closing closed h.ends len told ls crew.parties.items looked fits caller-did feeder-did
          (λ n few. let p = caller-ends n few in (party-at n, subst (λ (x : PartyPlace). get_elem? crew.parties.items n ≡ some x) (party-is n few) (come.each n few).at.party_at, p.0, p.1, p.2)) behind-all
          (λ n l k at his. own-at ls own k l at n (caller-is n l.op his))

    abbrev noted_lines : List Noted
    noted_lines = noted_of_work (lines_of_feeder work.lines)

    pub run-objects : (ls : List Line) → HasStop work ls → HaveLooked g len told ls crew.parties.items → AreAnsweredByCells g len told closed.cells work.lines
    run-objects ls (inl none) looked =
        objects-by work.lines come.did.fits lines-own (λ m. refl) (sym (ap (λ (x : Work). noted_lines ++ x.noted) none.1 ∙ append-nil noted_lines))
        (subst (λ (ys : List Line). HaveLooked g len told ys crew.parties.items) none.0 looked)
    run-objects ls (inr stops) looked =
        let l : Line = stopped_line work in
        front-answered g len told closed.cells work.lines l refl
        (objects-by (work.lines ++ l ∷ []) (all-append (λ x. FitsBy g (caller_of x.op) x) work.lines (l ∷ []) come.did.fits (come.did.stopped, tt)) (all-append (IsOfOne (λ n. n < g.callers)) work.lines (l ∷ []) lines-own ((λ n is. cc), tt))
        (λ m. filter-append _ work.lines (l ∷ []) ∙ append-nil (lines_of_caller m work.lines))
        (ap noted_of_work (filter-append _ work.lines (l ∷ [])) ∙ (noted-append (lines_of_feeder work.lines) (l ∷ []) ∙ ap (λ (ns : List Noted). noted_lines ++ ns) (append-nil work.stopped.noted)))
        (subst (λ (ys : List Line). HaveLooked g len told ys crew.parties.items) stops looked))

  -- A closed cell goes on from what the feeder had seen of it between the groups.
  pub feeder-begins : (i : ℕ) (x : OnHeap) → slice_get closed.cells i ≡ Some x → StartsWith (map line.Entry (map event_numbers x.value.history)) (front_of i crew.feeder.own.seen)
  feeder-begins i x at =
      let range : IsCell g i = subst (λ (k : ℕ). i < k) h.ends.cells (slice_get_within closed.cells i x at) in
      let shown : get_elem? h.ends.views g.callers ≡ some c.last.own = subst (λ (k : ℕ). get_elem? h.ends.views k ≡ some c.last.own) (ended g.callers c.last last-at).number (shown-at h.ends.views h.closing g.callers c.last last-at h.ends.shown) in
      let feeder_front : StartsWith (front_of i c.feeder.own.seen) (front_of i crew.feeder.own.seen) = subst (λ (p : PartyPlace). StartsWith (front_of i p.own.seen) (front_of i crew.feeder.own.seen)) (sym same-parties.1) (gave.fed_cells.fronts i range) in
      starts-then (map line.Entry (map event_numbers x.value.history)) (front_of i c.last.own.seen) (front_of i crew.feeder.own.seen) (goes-on cache valid h.closing closed h.ends i x (get-of closed.cells i x at) g.callers c.last.own shown)
      (starts-then (front_of i c.last.own.seen) (front_of i c.feeder.own.seen) (front_of i crew.feeder.own.seen) (c.ended.keeps.fronts i range) feeder_front)
