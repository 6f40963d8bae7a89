-- Several callers behind what the feeder did for the line that ends their group, while all had joined it: the line is answered, or a sync stopped there.
use Rattle.std.proofs.Common.{◌≡◌, ◌⊎◌, ℕ, zero, suc, ◌==◌, ◌<◌, ◌≤◌, nat_lt, Bool, true, false, if◌then◌else◌, List, [], ◌∷◌, ◌++◌, Option, None, length, take, refl, sym, ap, ◌∙◌, subst, inl, inr, arith, append-nil, append_assoc, length-append, eq-eqb, ◌+◌, ne_eqb}
use Rattle.std.specs.Prelude.{slice_get}
use Rattle.std.specs.List.{AllByRecursion}
use Rattle.std.proofs.lemmas.Bool.{cases_lt, false≢true}
use Rattle.std.proofs.lemmas.Bool.Decides.{nat_tests}
use Rattle.std.proofs.lemmas.List.Elements.{filter-append}
use Rattle.std.proofs.lemmas.Option.{slice_get_within}
use Rattle.std.proofs.Math.Seq.{take-append_seam}
use mathlib.Core.Option.{some, some-injective, some-ne-none}
use lib.ListN.{get_elem?}
use Rattle.arc_lists.proofs.Tables.{cases_true}
use Rattle.blk_ptr.specs.declared.ptr.Ptr.{Ptr}
use Rattle.blk_ptr.specs.Hash.{shard_of}
use Rattle.vdev_io.specs.declared.device.CacheDev.{Ghosts as Devices}
use Rattle.vdev_io.specs.declared.pool.Pool.{Ghosts}
use Rattle.arc_core.specs.declared.config.Config.{Config}
use Rattle.arc_core.specs.declared.event.Event.{Event}
use Rattle.arc_core.specs.declared.event.Event.TheVariants.{Resize}
use Rattle.arc_core.specs.declared.served.Restored.{Restored}
use Rattle.arc_core.specs.Operations.{Act, Tell, acts_in, moments, number_of, own_events, own_moments}
use Rattle.arc_table.specs.Cache.{Cache}
use Rattle.arc_table.specs.declared.view.Line.{Line as Seen}
use Rattle.arc_table.specs.Fronts.{StartsWith, front_of}
use Rattle.arc_table.specs.Geometry.{IsCell, cell_number, parties_of}
use Rattle.arc_table.specs.Seen.{seen_of, turn_of}
use Rattle.arc_table.specs.TableLaws.{get_front, starts_whole, within}
use Rattle.arc_table.specs.Telling.{opening_of}
use Rattle.dbuf_cells.specs.Turns.{OnHeap}
use Rattle.dbuf_state.specs.declared.event.CellEvent.{CellEvent}
use Rattle.l2_feed.specs.Series.{GivesNone}
use Rattle.trace_text.specs.declared.op.Op.{Op}
use Rattle.trace_text.specs.declared.op.Op.TheVariants as ops
use Rattle.trace_text.specs.declared.reply.Reply.{Reply}
use Rattle.trace_text.specs.declared.reply.Reply.TheVariants.{Capped}
use Rattle.trace_run.specs.declared.groups.Crew.{Crew}
use Rattle.trace_run.specs.declared.kept_blocks.KeptBlock.{KeptBlock}
use Rattle.trace_run.specs.Acts.{events_of_feeder}
use Rattle.trace_run.specs.dbufs.CellEnds.{done_by}
use Rattle.trace_run.specs.Deeds.{HasToldOthers, Noted, acts_of_events, events_of_cell, lines_of_cell, with_number, KeepsCells, MakesFrom}
use Rattle.trace_run.specs.FeedEvents.{events_of_lines, feeds_told}
use Rattle.trace_run.specs.FeedSeries.{SeesMore}
use Rattle.trace_run.specs.Feeds.{FeedDone, is_feed}
use Rattle.trace_run.specs.KeptBlocks.{Stands}
use Rattle.trace_run.specs.KeptReads.{KeptRead}
use Rattle.trace_run.specs.Lines.{caller_of, is_of_caller}
use Rattle.trace_run.specs.Meeting.{HasSettled, HaveMet, HaveParted, IsFed, Resized, resizes_in, IsLevel}
use Rattle.trace_run.specs.dbufs.Objects.{Line, Work, no_work, ops_of, replies_of}
use Rattle.trace_run.specs.Restores.{events_by_feeder, restores_in}
use Rattle.trace_run.specs.RunWork.{FitsBy, FitsFeeder, IsSyncWork, RunWork, acts_of_syncs, lines_of_caller, lines_of_feeder, noted_of_syncs, lines_of_party}
use Rattle.trace_run.specs.Syncing.{inserts_noted, lines_of}
use Rattle.trace_run.specs.callers.Groups.{AreEndLines, ComesAt, HaveCome, IsEndLine, AreMakers}
use Rattle.trace_run.specs.callers.Together.{AreCut, IsCut, IsCutLast, ends_group, events_at_end}
use Rattle.trace_run.specs.callers.WorkLines.{acts_of_work, acts_with, acts_with_op, noted_of_work}
use Rattle.trace_run.proofs.callers.GroupLists.{cut-before, cuts-more, get-right, some-same}
use Rattle.trace_run.proofs.callers.GroupsLemmas.{parted-at, parted-length}
use Rattle.trace_run.proofs.callers.LineLists.{acts-lines, are-append, ends-nobody, is_of_feeder, lines-long, nobody-callers, nobody-feeders, noted-append}
use Rattle.trace_run.proofs.callers.MeetLemmas.{parted-waits, same-own-events, starts-then}
use Rattle.trace_run.proofs.callers.MoreLemmas.{answers-grown, ends-append, none-synced}
use Rattle.trace_run.proofs.deeds.DeedLemmas.{others-still}
use Rattle.trace_run.proofs.feeds.FedLemmas.{as-told, lines-append, one-asked, ops-are, told-still}
use Rattle.trace_run.proofs.feeds.SeriesLemmas.{sees-by}
use Rattle.trace_run.proofs.one_caller.TellLemmas.{all-append}
use Rattle.trace_run.specs.Making.{AreEventsSeen}
use Rattle.trace_run.specs.MadeLines.{IsMaker, is_listed, made_in, made_of, owned_from}
use Rattle.trace_run.proofs.callers.MakerLemmas.{GoesBehind, GoesOnOf, events-few, maker-before, maker-goes, maker-owned, passes-before}
use Rattle.trace_run.proofs.theorem.PlacedLemmas.{EachGoesOn, placed-of}
use Rattle.trace_run.proofs.deeds.MakesLemmas.{seen-below}

-- ---- the work so far, and more

-- a line that ends a group
abbrev pub with_end : RunWork → Line → RunWork
with_end w l = record { lines = w.lines ++ l ∷ []; stopped = no_work; feeds = w.feeds; ended = [] }

-- a sync that stopped
abbrev pub with_stop : RunWork → Work → RunWork
with_stop w work = record { lines = w.lines; stopped = work; feeds = w.feeds; ended = [] }

-- ---- what the feeder did

-- Of a cell all had seen this as they joined, and the entries of this work stand right behind it. Where the work is one, the cell was taken so: the feeder had done to it just what it is told.
pub record JoinedCell (g : Config) (i : ℕ) (work : Work) (old new : Crew OnHeap) (all : List Seen) : Type 0 where
  pub olds : AllByRecursion (λ o. StartsWith all (front_of i o.own.seen)) old.parties.items
  pub level : front_of i new.feeder.own.seen ≡ all ++ lines_of_cell i work.noted
  pub fed : (work ≡ no_work)
      ⊎ ((es : List CellEvent) × (all ≡ lines_of es) × ((noted : List Noted) → ((j : ℕ) → IsCell g j → made_of j old.feeder ≡ lines_of_cell j noted) → done_by g.callers es ≡ events_of_cell i noted))

-- While all callers had joined it, the feeder made these events of each shard, behind all that anybody had done there, and with other numbers than its own it did this work.
-- Then they parted, and all have seen it.
pub record MadeWork (cache : Cache) (work : Work) (more : (shard : ℕ) → List Event) (old new : Crew OnHeap) : Type 0 where
  pub lines : ℕ → List Seen
  pub parted : HaveParted cache lines old.parties.items new.parties.items
  pub level : IsLevel cache.config lines new.feeder
  pub kept : new.kept.items ≡ old.kept.items
  pub number : new.feeder.number ≡ old.feeder.number
  pub about : new.feeder.own.about ≡ old.feeder.own.about
  pub alone : new.feeder.joined ≡ []
  pub stands : Stands cache new.feeder []
  pub settled : HasSettled old.feeder → HasSettled new.feeder
  pub front : ℕ → List Event
  pub seen : (shard : ℕ) → seen_of cache.config shard new.feeder ≡ front shard ++ more shard
  pub own : (shard : ℕ) → own_moments old.feeder.number (moments (opening_of cache.config) (front shard)) ≡ own_moments old.feeder.number (moments (opening_of cache.config) (seen_of cache.config shard old.feeder))
  pub others : (shard : ℕ)
      → AllByRecursion (λ o. own_moments o.number (moments (opening_of cache.config) (front shard)) ≡ own_moments o.number (moments (opening_of cache.config) (seen_of cache.config shard o))) old.parties.items
  pub since : (shard : ℕ) → StartsWith (front shard) (seen_of cache.config shard old.feeder)
  pub others_since : (shard : ℕ) → AllByRecursion (λ o. StartsWith (front shard) (seen_of cache.config shard o)) old.parties.items
  pub behind : MakesFrom cache.config (λ shard. length (front shard)) old.feeder new.feeder
  pub told : (acts : List Act) (noted : List Noted) → HasToldOthers cache.config acts noted old.feeder → HasToldOthers cache.config (acts ++ work.acts) (noted ++ work.noted) new.feeder
  -- of each cell all have seen the same
  pub met : HaveMet cache.config (old.feeder ∷ old.parties.items) (new.feeder ∷ new.parties.items)
  -- and before that all had seen this
  pub joined : (i : ℕ) → IsCell cache.config i → (all : List Seen) × JoinedCell cache.config i work old new all
  -- it has seen of each cell and of each shard what it had, and its acts with the numbers of cells are those of these events
  pub keeps : KeepsCells cache.config old.feeder new.feeder
  pub inserted : (shard i : ℕ) → IsCell cache.config i → acts_in (shard_of cache.config.shards) shard (cell_number cache.config i) work.acts ≡ acts_of_events (with_number (cell_number cache.config i) (more shard))

-- A line that ends a group was done so: of its own number the feeder made just what the line asks of it.
pub record EndsSo (cache : Cache) (l : Line) (more : (shard : ℕ) → List Event) (old new : Crew OnHeap) : Type 0 where
  pub made : MadeWork cache l.work more old new
  pub end : IsEndLine l.op l.reply
  pub ends : ends_group l.op ≡ true
  pub fits : FitsFeeder cache.config l.op l.work
  pub feeds : (shard : ℕ) → shard < cache.config.shards → own_events cache.config.callers (more shard) ≡ events_of_feeder cache.config.callers l.op
  pub here : (shard : ℕ) → shard < cache.config.shards → more shard ≡ events_at_end cache.config shard l.op l.work.noted (made.front shard)

-- A sync of this tick stopped, which did this work: of its own number the feeder made nothing.
pub record StopsSo (cache : Cache) (tick : ℕ) (work : Work) (more : (shard : ℕ) → List Event) (old new : Crew OnHeap) : Type 0 where
  pub made : MadeWork cache work more old new
  pub fits : IsSyncWork cache.config work
  pub none : (shard : ℕ) → shard < cache.config.shards → own_events cache.config.callers (more shard) ≡ []
  pub here : (shard : ℕ) → shard < cache.config.shards → more shard ≡ inserts_noted cache.config tick work.noted shard (made.front shard)

-- ---- what the feeder has seen behind it

-- what a line asks of the feeder gives no place
pub asked-gives : (n : ℕ) (op : Op) → AllByRecursion GivesNone (events_of_feeder n op)
asked-gives n (ops.Cap c) = ((λ k. refl), tt)
asked-gives n (ops.Txg t) = tt
asked-gives n ops.Feed = tt
asked-gives n (ops.Read m t x window) = tt
asked-gives n (ops.Hold m t x) = tt
asked-gives n (ops.Drop m x) = tt
asked-gives n (ops.Get m t at window) = tt
asked-gives n (ops.Put m t at size fill) = tt
asked-gives n (ops.Patch m t at from bytes) = tt
asked-gives n (ops.Pin m t at) = tt
asked-gives n (ops.Unpin m at) = tt

pub made-sees : (cache : Cache) (work : Work) (more : (shard : ℕ) → List Event) (old new : Crew OnHeap) → old.feeder.number ≡ cache.config.callers → MadeWork cache work more old new → (shard : ℕ) (asked : List Event) → own_events cache.config.callers (more shard) ≡ asked
    → AllByRecursion GivesNone asked → SeesMore cache.config (seen_of cache.config shard old.feeder) (seen_of cache.config shard new.feeder)
made-sees cache work more old new number made shard asked is none =
    let g : Config = cache.config in
    let front = same-own-events g g.callers (seen_of g shard old.feeder) (made.front shard)
    (subst (λ (n : ℕ). own_moments n (moments (opening_of g) (made.front shard)) ≡ own_moments n (moments (opening_of g) (seen_of g shard old.feeder))) number (made.own shard)) in
    sees-by g (seen_of g shard old.feeder) (seen_of g shard new.feeder) asked
    (starts-then (seen_of g shard new.feeder) (made.front shard) (seen_of g shard old.feeder) (more shard, made.seen shard) (made.since shard))
    (ap (own_events g.callers) (made.seen shard) ∙ (filter-append _ (made.front shard) (more shard) ∙ (λ i. front i ++ is i))) none

-- ---- small steps

pub all-at : {X : Type 0} (P : X → Type 0) (xs : List X) (n : ℕ) (x : X) → AllByRecursion P xs → get_elem? xs n ≡ some x → P x
all-at P [] n x all at = absurd (some-ne-none x (sym at))
all-at P (y ∷ ys) zero x all at = subst P (some-injective y x at) all.0
all-at P (y ∷ ys) (suc n) x all at = all-at P ys n x all.1 at

-- the acts of a line that ends a group are those of its work
ends-acts : (g : Config) (blocks : List Ptr) (kept : List KeptRead) (op : Op) (reply : Reply) (work : Work) → ends_group op ≡ true → FitsFeeder g op work → acts_with_op g blocks kept op reply work ≡ work.acts
ends-acts g blocks kept (ops.Txg t) reply work ends fits = refl
ends-acts g blocks kept (ops.Cap c) reply work ends fits = sym (ap (λ (w : Work). w.acts) fits)
ends-acts g blocks kept ops.Feed reply work ends fits = absurd (false≢true ends)
ends-acts g blocks kept (ops.Read n t x window) reply work ends fits = absurd fits
ends-acts g blocks kept (ops.Hold n t x) reply work ends fits = absurd fits
ends-acts g blocks kept (ops.Drop n x) reply work ends fits = absurd fits
ends-acts g blocks kept (ops.Get n t at window) reply work ends fits = absurd fits
ends-acts g blocks kept (ops.Put n t at size fill) reply work ends fits = absurd fits
ends-acts g blocks kept (ops.Patch n t at from bytes) reply work ends fits = absurd fits
ends-acts g blocks kept (ops.Pin n t at) reply work ends fits = absurd fits
ends-acts g blocks kept (ops.Unpin n at) reply work ends fits = absurd fits

-- ---- behind it

module _ {P D : Type 0} (pools : Ghosts P) (devices : Devices D) (cache : Cache) (restored : List Restored) (len : ℕ) (image : Option (List ℕ)) (place : ℕ) (blocks : List Ptr) (os : List Op) (rs : List Reply) (w : RunWork) (more : (shard : ℕ) → List Event) (old new : Crew OnHeap)
    (before : HaveCome cache restored len image place blocks os rs w old) (goes_on : w.stopped ≡ no_work) where
  abbrev g : Config
  g = cache.config

  feeder-number : old.feeder.number ≡ g.callers
  feeder-number = before.feeder.number

  long : length rs ≡ length os
  long = (lines-long os rs w.lines before.did.lines).0

  told : feeds_told os rs ≡ length w.feeds
  told = as-told g os rs w.feeds before.did.fed

  module _ (work : Work) (made : MadeWork cache work more old new) where
    -- the callers
    behind-come : (n : ℕ) → n < g.callers → ComesAt cache len image place blocks n (lines_of_caller n w.lines) new
    behind-come n below =
        let b = before.each n below in
        let x = parted-at cache made.lines n old.parties.items new.parties.items b.party made.parted b.at.party_at in
        let same = x.2.same b.reads b.come.waits.stands in
        record {
          reads = b.reads;
          party = x.0;
          at = record { kept_at = ap (λ (l : List (List KeptBlock)). get_elem? l n) made.kept ∙ b.at.kept_at; party_at = x.1 };
          come = record {
            waits = parted-waits cache made.lines b.party x.0 x.2 n (acts_of_work g blocks [] (lines_of_caller n w.lines)) (noted_of_work (lines_of_caller n w.lines)) b.reads b.come.waits;
            keeps = b.come.keeps;
            answers = answers-grown pools devices g b.come.waits.stands.valid blocks len image place b.party x.0 same.keeps n (lines_of_caller n w.lines) b.come.answers;
          };
        }

    -- what the feeder had made
    front-own : (shard : ℕ) → shard < g.shards → own_events g.callers (made.front shard) ≡ events_by_feeder g restored os rs w.feeds shard
    front-own shard below = subst (λ (n : ℕ). own_events n (made.front shard) ≡ events_by_feeder g restored os rs w.feeds shard) feeder-number
        (same-own-events g old.feeder.number (seen_of g shard old.feeder) (made.front shard) (made.own shard) ∙ before.feeder.fed shard below)

    grown : (shard : ℕ) → StartsWith (seen_of g shard new.feeder) (seen_of g shard old.feeder)
    grown shard = starts-then (seen_of g shard new.feeder) (made.front shard) (seen_of g shard old.feeder) (more shard, made.seen shard) (made.since shard)

    makers-old : (shard : ℕ) (owner : (place : ℕ) → ℕ) → AreMakers g shard owner new → AreMakers g shard owner old
    makers-old shard owner makers = record {
      callers = λ n p at.
          let few = within old.parties.items n p at in
          let b = before.each n (omega (arith, few, before.parties)) in
          let x = parted-at cache made.lines n old.parties.items new.parties.items b.party made.parted b.at.party_at in
          subst (IsMaker g shard owner n) (some-injective b.party p (sym b.at.party_at ∙ at)) (maker-before g shard owner n b.party x.0 (x.2.same b.reads b.come.waits.stands).keeps (makers.callers n x.0 x.1));
      feeder = maker-before g shard owner g.callers old.feeder new.feeder made.keeps makers.feeder;
      passes = passes-before g owner (seen_of g shard old.feeder) (seen_of g shard new.feeder) (grown shard) makers.passes;
    }

    -- what each party had done with the numbers of cells stands before it
    module _ (shard : ℕ) (owner : (place : ℕ) → ℕ) (makers : AreMakers g shard owner new) where
      front-few : length (made.front shard) ≤ length (made.lines shard)
      front-few =
          let long : length (seen_of g shard new.feeder) ≡ length (made.front shard) + length (more shard) = ap length (made.seen shard) ∙ length-append (made.front shard) (more shard) in
          let few = events-few (front_of (turn_of g shard) new.feeder.own.seen) in
          let same = ap length (made.level shard) in
          omega (arith, long, few, same)

      caller-cells : (n i : ℕ) → n < g.callers → IsCell g i → acts_of_events (with_number (cell_number g i) (owned_from owner n 0 (made.front shard)))
          ≡ acts_in (shard_of g.shards) shard (cell_number g i) (acts_of_work g blocks [] (lines_of_caller n w.lines))
      caller-cells n i caller range =
          let b = before.each n caller in
          let x = parted-at cache made.lines n old.parties.items new.parties.items b.party made.parted b.at.party_at in
          let was = (makers-old shard owner makers).callers n b.party b.at.party_at in
          let is = makers.callers n x.0 x.1 in
          let same = ap length (x.2.level shard) in
          let owned : owned_from owner n 0 (made.front shard) ≡ made_in g shard b.party =
          maker-owned g shard owner n b.party (made.front shard) was.events (seen-below g b.party.number b.party.own.mine b.party.own.seen shard b.come.waits.stands.seen.own)
          (all-at _ old.parties.items n b.party (made.others_since shard) b.at.party_at)
          (λ y inside. ap (is_listed (turn_of g shard) y) (sym x.2.mine) ∙ is.made y (let few = front-few in omega (arith, inside, few, same))) in
          ap (λ (es : List Event). acts_of_events (with_number (cell_number g i) es)) owned
          ∙ sym (b.come.waits.told.cells shard (cell_number g i) (λ same. let number = b.come.waits.number in omega (arith, same, number, caller)))

      feeder-cells : (i : ℕ) → IsCell g i → acts_of_events (with_number (cell_number g i) (owned_from owner g.callers 0 (made.front shard)))
          ≡ acts_in (shard_of g.shards) shard (cell_number g i) (acts_of_work g blocks [] (lines_of_feeder w.lines))
      feeder-cells i range =
          let was = (makers-old shard owner makers).feeder in
          let same = ap length (made.level shard) in
          let owned : owned_from owner g.callers 0 (made.front shard) ≡ made_in g shard old.feeder =
          maker-owned g shard owner g.callers old.feeder (made.front shard) was.events (seen-below g old.feeder.number old.feeder.own.mine old.feeder.own.seen shard before.feeder.stands.seen.own) (made.since shard)
          (λ y inside. sym (made.behind shard y inside) ∙ makers.feeder.made y (let few = front-few in omega (arith, inside, few, same))) in
          let acts : List Act = acts_of_work g blocks [] (lines_of_feeder w.lines) in
          ap (λ (es : List Event). acts_of_events (with_number (cell_number g i) es)) owned
          ∙ (sym (before.feeder.told.cells shard (cell_number g i) (λ same. let number = feeder-number in omega (arith, same, number)))
          ∙ ap (acts_in (shard_of g.shards) shard (cell_number g i)) (ap (λ (x : Work). acts ++ x.acts) goes_on ∙ append-nil acts))

      party-cells : (n i : ℕ) → n < parties_of g → IsCell g i → acts_of_events (with_number (cell_number g i) (owned_from owner n 0 (made.front shard)))
          ≡ acts_in (shard_of g.shards) shard (cell_number g i) (acts_of_work g blocks [] (lines_of_party g n w.lines))
      party-cells n i party range = elim (cases_lt n g.callers) [
        | inl caller ↦
            let other : (n == g.callers) ≡ false = ne_eqb n g.callers (λ is. omega (arith, is, caller)) in
            rw other (caller-cells n i caller range)
        | inr above ↦
            let last : n ≡ g.callers = omega (arith, above, party) in
            let here : (n == g.callers) ≡ true = eq-eqb n g.callers last in
            rw here (subst (λ (k : ℕ). acts_of_events (with_number (cell_number g i) (owned_from owner k 0 (made.front shard)))
            ≡ acts_in (shard_of g.shards) shard (cell_number g i) (acts_of_work g blocks [] (lines_of_feeder w.lines))) (sym last) (feeder-cells i range))
      ]

      -- a pass that a party made before it is followed there by an event with which the party's scan goes on
      caller-quiet : (n : ℕ) → n < g.callers → GoesOnOf n (made.front shard) owner
      caller-quiet n caller place e at pass his =
          let b = before.each n caller in
          let x = parted-at cache made.lines n old.parties.items new.parties.items b.party made.parted b.at.party_at in
          let was = (makers-old shard owner makers).callers n b.party b.at.party_at in
          let is = makers.callers n x.0 x.1 in
          let same = ap length (x.2.level shard) in
          let inside = within (made.front shard) place e at in
          maker-goes g shard n b.party (made.front shard) was.events (subst (λ (k : ℕ). AreEventsSeen g k b.party.own.mine b.party.own.seen) b.come.waits.number b.come.waits.stands.seen.own)
          (all-at _ old.parties.items n b.party (made.others_since shard) b.at.party_at) place e at pass
          (ap (is_listed (turn_of g shard) place) (sym x.2.mine) ∙ (is.made place (let few = front-few in omega (arith, inside, few, same)) ∙ eq-eqb (owner place) n his))

      feeder-quiet : GoesOnOf g.callers (made.front shard) owner
      feeder-quiet place e at pass his =
          let was = (makers-old shard owner makers).feeder in
          let same = ap length (made.level shard) in
          let inside = within (made.front shard) place e at in
          maker-goes g shard g.callers old.feeder (made.front shard) was.events (subst (λ (k : ℕ). AreEventsSeen g k old.feeder.own.mine old.feeder.own.seen) feeder-number before.feeder.stands.seen.own)
          (made.since shard) place e at pass
          (sym (made.behind shard place inside) ∙ (makers.feeder.made place (let few = front-few in omega (arith, inside, few, same)) ∙ eq-eqb (owner place) g.callers his))

      -- each pass that stands before it is followed there by what it was passed for
      front-quiet : EachGoesOn (made.front shard)
      front-quiet place e at pass =
          let own = makers.passes place e (ap (λ (es : List Event). get_elem? es place) (made.seen shard) ∙ get_front (made.front shard) (more shard) place e at) pass in
          let goes : (n : ℕ) → GoesOnOf n (made.front shard) owner → owner place ≡ n → GoesBehind (number_of e) (made.front shard) place =
          λ n each his. subst (λ (k : ℕ). GoesBehind k (made.front shard) place) (sym (own.0 ∙ his)) (each place e at pass his) in
          elim (cases_lt (owner place) g.callers) [
            | inl caller ↦ goes (owner place) (caller-quiet (owner place) caller) refl
            | inr above ↦ goes g.callers feeder-quiet (let party = own.1 in omega (arith, above, party))
          ]

    -- what stands before it
    cut-at : (shard : ℕ) → shard < g.shards → (owner : (place : ℕ) → ℕ) → AreMakers g shard owner new → (here : List Event → List Event) → more shard ≡ here (made.front shard) → IsCut g restored blocks shard owner w.lines w.feeds work.acts here (seen_of g shard new.feeder)
    cut-at shard below owner makers here is =
        let are = ops-are os rs w.lines before.did.lines in
        record {
          front = made.front shard;
          rest = [];
          whole = made.seen shard ∙ ap (λ (es : List Event). made.front shard ++ es) (is ∙ sym (append-nil (here (made.front shard))));
          callers = λ n lt.
              let b = before.each n lt in
              let same = all-at _ old.parties.items n b.party (made.others shard) b.at.party_at in
              let acts : List Act = acts_of_work g blocks [] (lines_of_caller n w.lines) in
              subst (λ (k : ℕ). Tell (acts_in (shard_of g.shards) shard k acts) (own_moments k (moments (opening_of g) (made.front shard)))) b.come.waits.number
              (subst (Tell (acts_in (shard_of g.shards) shard b.party.number acts)) (sym same) (b.come.waits.told.acts shard));
          feeder = front-own shard below ∙ sym (λ i. events_by_feeder g restored (are.0 i) (are.1 i) w.feeds shard);
          cells = party-cells shard owner makers;
          inserted = λ i range. made.inserted shard i range ∙ ap (λ (es : List Event). acts_of_events (with_number (cell_number g i) es)) is;
          quiet = placed-of (made.front shard) (front-quiet shard owner makers);
        }

    -- it has made these events more, which the lines ask of it
    module _ (asked : (shard : ℕ) → List Event) (feeds : (shard : ℕ) → shard < g.shards → own_events g.callers (more shard) ≡ asked shard) (ops_now : List Op) (replies_now : List Reply)
        (grows : (shard : ℕ) → events_by_feeder g restored ops_now replies_now w.feeds shard ≡ events_by_feeder g restored os rs w.feeds shard ++ asked shard) (acts : List Act) (noted : List Noted) (told_then : HasToldOthers g acts noted new.feeder) where
      behind-fed : IsFed cache new.feeder.own.about.openings (events_by_feeder g restored ops_now replies_now w.feeds) (λ shard. seen_of g shard new.feeder) acts noted new.feeder
      behind-fed = record {
        number = made.number ∙ feeder-number;
        alone = made.alone;
        stands = made.stands;
        knows = refl;
        fed = λ shard below.
            ap (λ (n : ℕ). own_events n (seen_of g shard new.feeder)) (made.number ∙ feeder-number)
            ∙ (ap (own_events g.callers) (made.seen shard)
            ∙ (filter-append _ (made.front shard) (more shard)
            ∙ ((λ i. front-own shard below i ++ feeds shard below i) ∙ sym (grows shard))));
        since = λ shard. starts_whole (seen_of g shard new.feeder);
        told = told_then;
        settled = made.settled before.feeder.settled;
      }

  -- ---- a sync that stopped

  module _ (tick : ℕ) (work : Work) (so : StopsSo cache tick work more old new) where
    abbrev stopped : RunWork
    stopped = with_stop w work

    stopped-told : HasToldOthers g (acts_of_syncs g blocks stopped) (noted_of_syncs stopped) new.feeder
    stopped-told =
        let acts : List Act = acts_of_work g blocks [] (lines_of_feeder w.lines) in
        let noted : List Noted = noted_of_work (lines_of_feeder w.lines) in
        subst (λ (x : List Act × List Noted). HasToldOthers g (x.0 ++ work.acts) (x.1 ++ work.noted) new.feeder)
        (λ i. ((ap (λ (x : Work). acts ++ x.acts) goes_on ∙ append-nil acts) i, (ap (λ (x : Work). noted ++ x.noted) goes_on ∙ append-nil noted) i))
        (so.made.told (acts_of_syncs g blocks w) (noted_of_syncs w) before.feeder.told)

    pub have-come-stopped : HaveCome cache restored len image place blocks os rs stopped new
    have-come-stopped = record {
      did = record { lines = before.did.lines; fits = before.did.fits; stopped = so.fits; fed = before.did.fed; ended = tt };
      unended = refl;
      kepts = ap length so.made.kept ∙ before.kepts;
      parties = parted-length cache so.made.lines old.parties.items new.parties.items so.made.parted ∙ before.parties;
      each = behind-come work so.made;
      ended = before.ended;
      feeder = behind-fed work so.made (λ shard. []) so.none os rs (λ shard. sym (append-nil (events_by_feeder g restored os rs w.feeds shard))) (acts_of_syncs g blocks stopped) (noted_of_syncs stopped) stopped-told;
      begun = λ shard below. starts-then (seen_of g shard new.feeder) (seen_of g shard old.feeder) (restores_in g restored shard) (grown work so.made shard) (before.begun shard below);
      cut = λ shard below owner makers. cuts-more g restored blocks shard owner w.lines w.feeds (seen_of g shard old.feeder) (seen_of g shard new.feeder) (grown work so.made shard) (before.cut shard below owner (makers-old work so.made shard owner makers));
    }

    pub stopped-cut : (shard : ℕ) → shard < g.shards → (owner : (place : ℕ) → ℕ) → AreMakers g shard owner new → IsCutLast g restored blocks shard owner tick stopped (seen_of g shard new.feeder)
    stopped-cut shard below owner makers = cut-at work so.made shard below owner makers (inserts_noted g tick work.noted shard) (so.here shard below)

  -- ---- a line that was answered

  module _ (l : Line) (so : EndsSo cache l more old new) where
    abbrev asked : List Event
    asked = events_of_feeder g.callers l.op

    nobody : caller_of l.op ≡ None
    nobody = (ends-nobody l.op so.ends).0

    no-feed : is_feed l.op ≡ false
    no-feed = (ends-nobody l.op so.ends).1

    abbrev answered : RunWork
    answered = with_end w l

    lines-same : (n : ℕ) → lines_of_caller n (w.lines ++ l ∷ []) ≡ lines_of_caller n w.lines
    lines-same n =
        let his : is_of_caller n l.op ≡ false = nobody-callers n l.op nobody in
        filter-append _ w.lines (l ∷ []) ∙ (ap (λ (ls : List Line). lines_of_caller n w.lines ++ ls) (rw his refl) ∙ append-nil (lines_of_caller n w.lines))

    -- the feeder's lines are one more
    feeders : lines_of_feeder (w.lines ++ l ∷ []) ≡ lines_of_feeder w.lines ++ l ∷ []
    feeders =
        let its : is_of_feeder l.op ≡ true = nobody-feeders l.op nobody in
        filter-append _ w.lines (l ∷ []) ∙ ap (λ (ls : List Line). lines_of_feeder w.lines ++ ls) (rw its refl)

    answered-told : HasToldOthers g (acts_of_syncs g blocks answered) (noted_of_syncs answered) new.feeder
    answered-told =
        let f0 : List Line = lines_of_feeder w.lines in
        let acts : List Act = acts_of_work g blocks [] f0 in
        let noted : List Noted = noted_of_work f0 in
        let acts_are : acts_of_syncs g blocks w ++ l.work.acts ≡ acts_of_syncs g blocks answered =
        ap (λ (x : List Act). x ++ l.work.acts) (ap (λ (x : Work). acts ++ x.acts) goes_on ∙ append-nil acts)
        ∙ (ap (λ (x : List Act). acts ++ x) (sym (append-nil (acts_with g blocks _ l) ∙ ends-acts g blocks _ l.op l.reply l.work so.ends so.fits))
        ∙ (sym (acts-lines g blocks [] f0 (l ∷ [])) ∙ (ap (acts_of_work g blocks []) (sym feeders) ∙ sym (append-nil (acts_of_work g blocks [] (lines_of_feeder (w.lines ++ l ∷ []))))))) in
        let noted_are : noted_of_syncs w ++ l.work.noted ≡ noted_of_syncs answered =
        ap (λ (x : List Noted). x ++ l.work.noted) (ap (λ (x : Work). noted ++ x.noted) goes_on ∙ append-nil noted)
        ∙ (ap (λ (x : List Noted). noted ++ x) (sym (append-nil l.work.noted))
        ∙ (sym (noted-append f0 (l ∷ [])) ∙ (ap noted_of_work (sym feeders) ∙ sym (append-nil (noted_of_work (lines_of_feeder (w.lines ++ l ∷ []))))))) in
        subst (λ (x : List Act × List Noted). HasToldOthers g x.0 x.1 new.feeder) (λ i. (acts_are i, noted_are i)) (so.made.told (acts_of_syncs g blocks w) (noted_of_syncs w) before.feeder.told)

    feeds-more : (shard : ℕ) → events_by_feeder g restored (os ++ l.op ∷ []) (rs ++ l.reply ∷ []) w.feeds shard ≡ events_by_feeder g restored os rs w.feeds shard ++ asked
    feeds-more shard =
        ap (λ (es : List Event). restores_in g restored shard ++ es)
        (ap (λ (fs : List FeedDone). events_of_lines g shard (os ++ l.op ∷ []) (rs ++ l.reply ∷ []) fs) (sym (append-nil w.feeds))
        ∙ (lines-append g shard os (l.op ∷ []) rs (l.reply ∷ []) w.feeds [] long told ∙ ap (λ (es : List Event). events_of_lines g shard os rs w.feeds ++ es) (one-asked g shard l.op l.reply no-feed)))
        ∙ sym (append_assoc (restores_in g restored shard) (events_of_lines g shard os rs w.feeds) asked)

    -- what stands before it
    cut-here : (shard : ℕ) → shard < g.shards → (owner : (place : ℕ) → ℕ) → AreMakers g shard owner new → IsCut g restored blocks shard owner w.lines w.feeds l.work.acts (events_at_end g shard l.op l.work.noted) (seen_of g shard new.feeder)
    cut-here shard below owner makers = cut-at l.work so.made shard below owner makers (events_at_end g shard l.op l.work.noted) (so.here shard below)

    all-cut : (shard : ℕ) → shard < g.shards → (owner : (place : ℕ) → ℕ) → AreMakers g shard owner new → AreCut g restored blocks shard owner answered (seen_of g shard new.feeder)
    all-cut shard below owner makers k x at ends = elim (cases_lt k (length w.lines)) [
      | inl early ↦
          subst (λ (fs : List FeedDone). IsCut g restored blocks shard owner (take k (w.lines ++ l ∷ [])) fs x.work.acts (events_at_end g shard x.op x.work.noted) (seen_of g shard new.feeder)) (append-nil w.feeds)
          (cut-before g restored blocks shard owner w.lines (l ∷ []) w.feeds [] (seen_of g shard new.feeder) few
          (cuts-more g restored blocks shard owner w.lines w.feeds (seen_of g shard old.feeder) (seen_of g shard new.feeder) (grown l.work so.made shard) (before.cut shard below owner (makers-old l.work so.made shard owner makers))) k x at ends early)
      | inr late ↦
          let inside = slice_get_within (w.lines ++ l ∷ []) k x at in
          let last : k ≡ length w.lines = omega (arith, late, inside, length-append w.lines (l ∷ [])) in
          let is : x ≡ l = some-same x l (sym at ∙ (ap (slice_get (w.lines ++ l ∷ [])) (last ∙ omega arith) ∙ get-right w.lines (l ∷ []) 0)) in
          subst (λ (y : List Line × Line). IsCut g restored blocks shard owner y.0 w.feeds y.1.work.acts (events_at_end g shard y.1.op y.1.work.noted) (seen_of g shard new.feeder))
          (λ i. (sym (ap (λ (n : ℕ). take n (w.lines ++ l ∷ [])) last ∙ take-append_seam w.lines (l ∷ [])) i, sym is i)) (cut-here shard below owner makers)
    ]
      where
        few : feeds_told (ops_of w.lines) (replies_of w.lines) ≤ length w.feeds
        few =
            let are = ops-are os rs w.lines before.did.lines in
            let same : feeds_told (ops_of w.lines) (replies_of w.lines) ≡ length w.feeds = (λ i. feeds_told (are.0 i) (are.1 i)) ∙ told in
            omega (arith, same)

    one-ended : AreEndLines (l.op ∷ []) (l.reply ∷ [])
    one-ended zero op at none = (l.reply, refl, subst (λ (y : Op). IsEndLine y l.reply) (some-same l.op op at) so.end)
    one-ended (suc k) op at none = let never = slice_get_within (l.op ∷ []) (suc k) op at in absurd (omega (arith, never))

    pub have-come-ended : HaveCome cache restored len image place blocks (os ++ l.op ∷ []) (rs ++ l.reply ∷ []) answered new
    have-come-ended = record {
      did = record {
        lines = are-append os (l.op ∷ []) rs (l.reply ∷ []) w.lines (l ∷ []) before.did.lines (refl, refl, tt);
        fits = all-append (λ x. FitsBy g (caller_of x.op) x) w.lines (l ∷ []) before.did.fits (subst (λ (o : Option ℕ). FitsBy g o l) (sym nobody) so.fits, tt);
        stopped = none-synced g;
        fed = told-still g os rs w.feeds l.op l.reply long no-feed before.did.fed;
        ended = tt;
      };
      unended = refl;
      kepts = ap length so.made.kept ∙ before.kepts;
      parties = parted-length cache so.made.lines old.parties.items new.parties.items so.made.parted ∙ before.parties;
      each = λ n below. subst (λ (ls : List Line). ComesAt cache len image place blocks n ls new) (sym (lines-same n)) (behind-come l.work so.made n below);
      ended = ends-append os (l.op ∷ []) rs (l.reply ∷ []) long before.ended one-ended;
      feeder = behind-fed l.work so.made (λ shard. asked) so.feeds (os ++ l.op ∷ []) (rs ++ l.reply ∷ []) feeds-more (acts_of_syncs g blocks answered) (noted_of_syncs answered) answered-told;
      begun = λ shard below. starts-then (seen_of g shard new.feeder) (seen_of g shard old.feeder) (restores_in g restored shard) (grown l.work so.made shard) (before.begun shard below);
      cut = all-cut;
    }

-- ---- a capacity

-- a Resize stands for no act
none-inserted : (n c d : ℕ) (b : Bool) → acts_of_events (with_number d (if b then (Resize n c ∷ []) else [])) ≡ []
none-inserted n c d true = elim (cases_true (n == d)) [
  | inl is ↦ rw is refl
  | inr differs ↦ rw differs refl
]
none-inserted n c d false = refl

pub cap-ends : (cache : Cache) (c : ℕ) (old new : Crew OnHeap) → old.feeder.number ≡ cache.config.callers → Resized cache c old.feeder old.parties.items new.feeder new.parties.items → new.kept.items ≡ old.kept.items
    → EndsSo cache (record { op = ops.Cap c; reply = Capped c; work = no_work }) (resizes_in cache.config.shards cache.config.callers c) old new
cap-ends cache c old new number resized kept = record {
  made = record {
    lines = resized.lines;
    parted = resized.parted;
    level = resized.level;
    kept = kept;
    number = resized.number;
    about = resized.about;
    alone = resized.alone;
    stands = resized.stands;
    settled = resized.settled number;
    front = resized.front;
    seen = resized.seen;
    own = resized.own;
    others = resized.others;
    since = resized.since;
    others_since = resized.others_since;
    behind = resized.behind;
    told = λ acts noted told. subst (λ (x : List Act × List Noted). HasToldOthers cache.config x.0 x.1 new.feeder) (λ i. (sym (append-nil acts) i, sym (append-nil noted) i))
        (others-still cache.config acts noted old.feeder new.feeder resized.made told);
    met = resized.met;
    joined = λ i range. let m = resized.met i range in (m.0, record { olds = m.1.1; level = m.2.0 ∙ sym (append-nil m.0); fed = inl refl });
    keeps = resized.made.keeps;
    inserted = λ shard i range. sym (none-inserted cache.config.callers c (cell_number cache.config i) (nat_lt shard cache.config.shards));
  };
  end = inl (c, refl, refl);
  ends = refl;
  fits = refl;
  feeds = λ shard below. ap (own_events cache.config.callers) (here shard below) ∙ own-resize cache.config.callers;
  here = λ shard below. here shard below;
}
  where
    here : (shard : ℕ) → shard < cache.config.shards → resizes_in cache.config.shards cache.config.callers c shard ≡ Resize cache.config.callers c ∷ []
    here shard below =
        let inside : nat_lt shard cache.config.shards ≡ true = grind (arith, nat_tests, below) in
        ap (λ (b : Bool). if b then Resize cache.config.callers c ∷ [] else []) inside

    own-resize : (n : ℕ) → own_events n (Resize n c ∷ []) ≡ Resize n c ∷ []
    own-resize n = rw (eq-eqb n n refl) refl
