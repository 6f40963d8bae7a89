-- Several callers behind the lines of one group more: what they and the feeder have come to.
use Rattle.std.proofs.Common.{◌≡◌, ℕ, zero, suc, ◌+◌, ◌-◌, ◌<◌, ◌≤◌, false, List, [], ◌∷◌, ◌++◌, Option, Some, length, map, refl, sym, ap, ◌∙◌, subst, inl, inr, arith, append-nil}
use Rattle.std.specs.Prelude.{slice_get}
use Rattle.std.proofs.lemmas.Bool.{cases_lt, false≢true}
use Rattle.std.proofs.lemmas.List.Elements.{filter-append}
use Rattle.std.proofs.lemmas.Option.{slice_get_within}
use mathlib.Core.Option.{some-injective}
use Rattle.blk_ptr.specs.declared.ptr.Ptr.{Ptr}
use Rattle.vdev_io.specs.declared.device.CacheDev.{Ghosts as Devices}
use Rattle.vdev_io.specs.declared.pool.Pool.{Ghosts}
use Rattle.arc_core.specs.Config.{IsConfig}
use Rattle.arc_core.specs.declared.config.Config.{Config}
use Rattle.arc_core.specs.declared.served.Restored.{Restored}
use Rattle.arc_core.specs.Operations.{Act}
use Rattle.arc_table.specs.declared.about.About.{About}
use Rattle.arc_table.specs.Cache.{Cache}
use Rattle.arc_table.specs.Items.{Meanings}
use Rattle.arc_table.specs.Seen.{seen_of}
use Rattle.dbuf_cells.specs.Turns.{OnHeap, PartyPlace}
use Rattle.trace_text.specs.declared.op.Op.{Op}
use Rattle.trace_text.specs.declared.reply.Reply.{Reply}
use Rattle.trace_run.specs.declared.device.Device.{Device}
use Rattle.trace_run.specs.declared.groups.Crew.{Crew}
use Rattle.trace_run.specs.declared.kept_blocks.KeptBlock.{KeptBlock}
use Rattle.trace_run.specs.Deeds.{KeepsCells, Noted}
use Rattle.trace_run.specs.FeedEvents.{AreFeedsTold, feeds_told}
use Rattle.trace_run.specs.Feeds.{FeedDone, IsIdleFeeder, is_feed}
use Rattle.trace_run.specs.KeptBlocks.{read_of}
use Rattle.trace_run.specs.KeptReads.{KeptRead}
use Rattle.trace_run.specs.Lines.{caller_of, replies_where}
use Rattle.trace_run.specs.Meeting.{IsFed, Waits}
use Rattle.trace_run.specs.dbufs.ObjectLines.{on_object}
use Rattle.trace_run.specs.dbufs.Objects.{Line, Work, no_work, ops_of, replies_of}
use Rattle.trace_run.specs.Restores.{events_by_feeder, restores_in}
use Rattle.trace_run.specs.RunWork.{AllFit, FitsBy, IsSyncWork, RunWork, acts_of_syncs, kept_after_lines, lines_of_caller, lines_of_feeder, noted_of_syncs}
use Rattle.trace_run.specs.callers.Beside.{FeedsBeside}
use Rattle.trace_run.specs.callers.Group.{AllWorked, HasWorked}
use Rattle.trace_run.specs.callers.Groups.{AreEndLines, ComesAt, DidLinesOfAll, DidLinesAtOnce, HaveCome, AreMakers}
use Rattle.trace_run.specs.callers.InOrder.{AreInGroup}
use Rattle.trace_run.specs.callers.Together.{AreCut, IsFirstPlace, ends_group}
use Rattle.trace_run.specs.callers.WorkLines.{AnswersLines, HasFront, acts_of_work, noted_of_work, AreLinesOf}
use Rattle.trace_run.proofs.WorkLemmas.{still-answers}
use Rattle.trace_run.proofs.callers.BesideLemmas.{fed-idle}
use Rattle.trace_run.proofs.callers.FrontLemmas.{answers-front}
use Rattle.trace_run.proofs.callers.GroupLists.{cut-before, cuts-more, get-left, get-right}
use Rattle.trace_run.proofs.callers.LineLists.{AreInside, acts-lines, all-inside, answers-lines, are-append, kept-lines, lines-long, lines-still, noted-append}
use Rattle.trace_run.proofs.callers.MeetLemmas.{starts-then}
use Rattle.trace_run.proofs.feeds.FedLemmas.{HasFedMore, as-told, ends-beside, fed-again, fed-beside, group-acts, group-noted, ops-are, told-beside, told-then}
use Rattle.trace_run.proofs.one_caller.TellLemmas.{all-append}
use Rattle.trace_run.specs.MadeLines.{IsMaker}
use Rattle.trace_run.proofs.callers.MakerLemmas.{maker-before, passes-before}
use Rattle.arc_table.specs.TableLaws.{within}

-- ---- the work so far, and more

-- the lines of a group, and the feeds that were made beside them
abbrev pub with_lines : RunWork → List Line → List FeedDone → RunWork
with_lines w ms fs = record { lines = w.lines ++ ms; stopped = no_work; feeds = w.feeds ++ fs; ended = [] }

-- ---- small steps

pub none-synced : (g : Config) → IsSyncWork g no_work
none-synced g = record { brought = refl; synced = tt; inserted = tt }

-- lines that are no caller's, one list behind the other
pub ends-append : (os qs : List Op) (rs ss : List Reply) → length rs ≡ length os → AreEndLines os rs → AreEndLines qs ss → AreEndLines (os ++ qs) (rs ++ ss)
ends-append os qs rs ss long first rest k op at none = elim (cases_lt k (length os)) [
  | inl below ↦
      let given = first k op (sym (get-left os qs k below) ∙ at) none in
      (given.0, get-left rs ss k (omega (arith, below, long)) ∙ given.1, given.2)
  | inr above ↦
      let there : k ≡ length os + (k - length os) = omega (arith, above) in
      let given = rest (k - length os) op (sym (get-right os qs (k - length os)) ∙ (ap (slice_get (os ++ qs)) (sym there) ∙ at)) none in
      (given.0, ap (slice_get (rs ++ ss)) (there ∙ ap (λ (n : ℕ). n + (k - length os)) (sym long)) ∙ (get-right rs ss (k - length os) ∙ given.1), given.2)
]

pub inside-at : (ms : List Line) → AreInside ms → (k : ℕ) (l : Line) → slice_get ms k ≡ Some l → ends_group l.op ≡ false
inside-at [] inside k l at = let never = slice_get_within {A = Line} [] k l at in absurd (omega (arith, never))
inside-at (m ∷ ms) inside zero l at = subst (λ (x : Line). ends_group x.op ≡ false) (some-line m l at) inside.0
  where
    some-line : (a b : Line) → ◌≡◌ {A = Option Line} (Some a) (Some b) → a ≡ b
    some-line a b is = cc
inside-at (m ∷ ms) inside (suc k) l at = inside-at ms inside.1 k l at

-- a caller's lines have their answers still, where its party has seen more
module _ {P D : Type 0} (pools : Ghosts P) (devices : Devices D) (g : Config) (valid : IsConfig g) (blocks : List Ptr) (len : ℕ) (image : Option (List ℕ)) (place : ℕ) where
  pub answers-grown : (p q : PartyPlace) → KeepsCells g p q → (n : ℕ) (ls : List Line) → AnswersLines g len image place blocks p.own.about.openings p.own.seen n [] [] ls → AnswersLines g len image place blocks q.own.about.openings q.own.seen n [] [] ls
  answers-grown p q keeps n ls answers =
      subst (λ (os : List (List ℕ)). AnswersLines g len image place blocks os q.own.seen n [] [] ls) (sym (ap (λ (a : About). a.openings) keeps.about))
      (lines-still g blocks len image place p.own.about.openings n p.own.seen q.own.seen (λ l had kept answer. still-answers pools devices g blocks valid place len image n had (on_object l.op) l kept p p q keeps answer) [] [] ls answers)

-- the feeder knows what it knew
pub fed-about : {D : Type 0} (m : Meanings OnHeap) (devices : Devices D) (cache : Cache) (qs : List Op) (callers : ℕ) (ss : List Reply) (a b : Device D) (p q : PartyPlace) → FeedsBeside m devices cache qs (replies_where is_feed qs ss) a b p q
    → IsIdleFeeder cache p → IsIdleFeeder cache q → q.own.about ≡ p.own.about
fed-about m devices cache qs callers ss a b p q works idle again = (fed-beside m devices cache qs callers ss a b p q works idle again).same.keeps.about

-- what callers and the feeder did at once, without what it cost the pool and the device
abbrev pub lines-of : {P D : Type 0} (m : Meanings OnHeap) (cache : Cache) (pools : Ghosts P) (devices : Devices D) (blocks : List Ptr) (qs : List Op) (from to : P) (a b : Device D) (old new : Crew OnHeap) (ss : List Reply) → DidLinesAtOnce m cache pools devices blocks qs from to a b old new ss
    → DidLinesOfAll m cache pools devices blocks qs from a b old new ss
lines-of m cache pools devices blocks qs from to a b old new ss did = record {
  lines = did.lines;
  are = did.are;
  fits = did.fits;
  worked = record {
    kepts = did.worked.kepts;
    parties = did.worked.parties;
    forks = did.worked.forks;
    done = did.worked.done;
    size = λ n below. (did.worked.fresh n below).size;
    told = λ n below. (did.worked.fresh n below).told;
    each = did.worked.each;
  };
  beside = record { feeds = did.beside.feeds; used = did.beside.used; answered = did.beside.answered };
}

-- ---- the lines of a group

module _ {P D : Type 0} (cache : Cache) (restored : List Restored) (pools : Ghosts P) (devices : Devices D) (len : ℕ) (image : Option (List ℕ)) (place : ℕ) (blocks : List Ptr) (os qs : List Op) (rs ss : List Reply) (w : RunWork)
    (from : P) (old new : Crew OnHeap) (before : HaveCome cache restored len image place blocks os rs w old) (goes_on : w.stopped ≡ no_work) (ms : List Line) (are : AreLinesOf qs ss ms) (fits : AllFit cache.config ms)
    (worked : AllWorked cache pools blocks (length old.parties.items) from (λ n. lines_of_caller n ms) old.kept.items old.parties.items new.kept.items new.parties.items)
    (feeds : List FeedDone) (fed : HasFedMore cache feeds old.feeder new.feeder) (told_more : AreFeedsTold cache.config qs ss feeds) (ends : AreEndLines qs ss)
    (own : AreInGroup cache.config.callers qs) (first : IsFirstPlace len blocks place) (size : pools.size from ≡ len) (front : HasFront place image (pools.told from)) where
  abbrev g : Config
  g = cache.config

  abbrev after : RunWork
  after = with_lines w ms feeds

  long : (length rs ≡ length os) × (length w.lines ≡ length os)
  long = lines-long os rs w.lines before.did.lines

  same-length : (length ss ≡ length qs) × (length ms ≡ length qs)
  same-length = lines-long qs ss ms are

  callers-are : length old.parties.items ≡ g.callers
  callers-are = before.parties

  inside-group : AreInside ms
  inside-group = all-inside g.callers qs ss ms own are

  own-lines : AreInGroup g.callers (ops_of ms)
  own-lines = subst (AreInGroup g.callers) (sym (ops-are qs ss ms are).0) own

  -- ---- a caller

  module _ (n : ℕ) (below : n < g.callers) where
    abbrev c : ComesAt cache len image place blocks n (lines_of_caller n w.lines) old
    c = before.each n below

    inside : n < length old.parties.items
    inside = omega (arith, below, callers-are)

    abbrev l0 : List Line
    l0 = lines_of_caller n w.lines

    abbrev l1 : List Line
    l1 = lines_of_caller n ms

    lines-two : lines_of_caller n (w.lines ++ ms) ≡ l0 ++ l1
    lines-two = filter-append _ w.lines ms

    come-at : ComesAt cache len image place blocks n (lines_of_caller n (w.lines ++ ms)) new
    come-at =
        let h = worked.each n inside in
        let same_reads : h.old ≡ c.reads = some-injective h.old c.reads (sym h.before.kept_at ∙ c.at.kept_at) in
        let same_party : h.from ≡ c.party = some-injective h.from c.party (sym h.before.party_at ∙ c.at.party_at) in
        let his : HasWorked cache pools blocks n (worked.forks n) (worked.done n) l1 c.reads c.party h.new h.to =
        subst (λ (x : List KeptBlock × PartyPlace). HasWorked cache pools blocks n (worked.forks n) (worked.done n) l1 x.0 x.1 h.new h.to) (λ i. (same_reads i, same_party i)) h.worked in
        let left : map read_of c.reads ≡ kept_after_lines blocks [] l0 = c.come.keeps in
        subst (λ (ls : List Line). ComesAt cache len image place blocks n ls new) (sym lines-two) record {
          reads = h.new;
          party = h.to;
          at = h.after;
          come = record {
            waits = subst (λ (x : List Act × List Noted). Waits cache n x.0 x.1 h.new h.to)
                (λ i. (
                  (ap (λ (ks : List KeptRead). acts_of_work g blocks [] l0 ++ acts_of_work g blocks ks l1) left ∙ sym (acts-lines g blocks [] l0 l1)) i,
                  sym (noted-append l0 l1) i,
                ))
                (his.waits (acts_of_work g blocks [] l0) (noted_of_work l0) c.come.waits);
            keeps = his.keeps ∙ (ap (λ (ks : List KeptRead). kept_after_lines blocks ks l1) left ∙ sym (kept-lines g blocks [] l0 l1));
            answers = answers-lines g blocks len image place h.to.own.about.openings n h.to.own.seen [] [] l0 l1
                (answers-grown pools devices g c.come.waits.stands.valid blocks len image place c.party h.to his.cells n l0 c.come.answers)
                (answers-front g len image (pools.told from) place blocks first front h.to.own.about.openings h.to.own.seen n (noted_of_work l0) (kept_after_lines blocks [] l0) l1
                (subst (λ (x : ℕ × Option (List ℕ) × List KeptRead × List (List ℕ)). AnswersLines g x.0 x.1 place blocks x.3 h.to.own.seen n (noted_of_work l0) x.2 l1)
                (λ i. ((worked.size n inside ∙ size) i, worked.told n inside i, left i, sym (ap (λ (x : About). x.openings) his.cells.about) i)) (his.answers (acts_of_work g blocks [] l0) (noted_of_work l0) c.come.waits.told place)));
          };
        }

  -- ---- the feeder

  acts-same : acts_of_syncs g blocks w ≡ acts_of_syncs g blocks after
  acts-same =
      let f0 : List Line = lines_of_feeder w.lines in
      let f1 : List Line = lines_of_feeder ms in
      ap (λ (x : Work). acts_of_work g blocks [] f0 ++ x.acts) goes_on
      ∙ ap (λ (l : List Act). l ++ [])
      (sym (ap (acts_of_work g blocks []) (filter-append _ w.lines ms)
      ∙ (acts-lines g blocks [] f0 f1 ∙ (ap (λ (l : List Act). acts_of_work g blocks [] f0 ++ l) (group-acts g blocks g.callers (kept_after_lines blocks [] f0) ms own-lines) ∙ append-nil (acts_of_work g blocks [] f0)))))

  noted-same : noted_of_syncs w ≡ noted_of_syncs after
  noted-same =
      let f0 : List Line = lines_of_feeder w.lines in
      let f1 : List Line = lines_of_feeder ms in
      ap (λ (x : Work). noted_of_work f0 ++ x.noted) goes_on
      ∙ ap (λ (l : List Noted). l ++ [])
      (sym (ap noted_of_work (filter-append _ w.lines ms)
      ∙ (noted-append f0 f1 ∙ (ap (λ (l : List Noted). noted_of_work f0 ++ l) (group-noted g blocks g.callers ms own-lines fits) ∙ append-nil (noted_of_work f0)))))

  feeder-more : IsFed cache new.feeder.own.about.openings (events_by_feeder g restored (os ++ qs) (rs ++ ss) (w.feeds ++ feeds)) (λ shard. seen_of g shard new.feeder) (acts_of_syncs g blocks after) (noted_of_syncs after) new.feeder
  feeder-more =
      subst (λ (x : List (List ℕ) × List Act × List Noted). IsFed cache x.0 (events_by_feeder g restored (os ++ qs) (rs ++ ss) (w.feeds ++ feeds)) (λ shard. seen_of g shard new.feeder) x.1 x.2 new.feeder)
      (λ i. (sym (ap (λ (x : About). x.openings) fed.same.keeps.about) i, acts-same i, noted-same i))
      (fed-again cache old.feeder.own.about.openings restored os qs rs ss w.feeds feeds (acts_of_syncs g blocks w) (noted_of_syncs w) old.feeder new.feeder g.callers long.0 before.did.fed told_more own same-length.0 before.feeder fed)

  -- ---- the cuts

  feeds-few : feeds_told (ops_of w.lines) (replies_of w.lines) ≤ length w.feeds
  feeds-few =
      let are = ops-are os rs w.lines before.did.lines in
      let same : feeds_told (ops_of w.lines) (replies_of w.lines) ≡ length w.feeds = (λ i. feeds_told (are.0 i) (are.1 i)) ∙ as-told g os rs w.feeds before.did.fed in
      omega (arith, same)

  makers-old : (shard : ℕ) (owner : (place : ℕ) → ℕ) → AreMakers g shard owner new → AreMakers g shard owner old
  makers-old shard owner makers = record {
    callers = λ n p at.
        let h = worked.each n (within old.parties.items n p at) in
        subst (IsMaker g shard owner n) (some-injective h.from p (sym h.before.party_at ∙ at)) (maker-before g shard owner n h.from h.to h.worked.cells (makers.callers n h.to h.after.party_at));
    feeder = maker-before g shard owner g.callers old.feeder new.feeder fed.same.keeps makers.feeder;
    passes = passes-before g owner (seen_of g shard old.feeder) (seen_of g shard new.feeder) (fed.starts shard) makers.passes;
  }

  cut-lines : (shard : ℕ) → shard < g.shards → (owner : (place : ℕ) → ℕ) → AreMakers g shard owner new → AreCut g restored blocks shard owner after (seen_of g shard new.feeder)
  cut-lines shard below owner makers k l at ends = elim (cases_lt k (length w.lines)) [
    | inl early ↦
        cut-before g restored blocks shard owner w.lines ms w.feeds feeds (seen_of g shard new.feeder) feeds-few
        (cuts-more g restored blocks shard owner w.lines w.feeds (seen_of g shard old.feeder) (seen_of g shard new.feeder) (fed.starts shard) (before.cut shard below owner (makers-old shard owner makers))) k l at ends early
    | inr late ↦
        let there : k ≡ length w.lines + (k - length w.lines) = omega (arith, late) in
        absurd (false≢true (sym (inside-at ms inside-group (k - length w.lines) l (sym (get-right w.lines ms (k - length w.lines)) ∙ (ap (slice_get (w.lines ++ ms)) (sym there) ∙ at))) ∙ ends))
  ]

  pub have-come-by : HaveCome cache restored len image place blocks (os ++ qs) (rs ++ ss) after new
  have-come-by = record {
    did = record {
      lines = are-append os qs rs ss w.lines ms before.did.lines are;
      fits = all-append (λ l. FitsBy g (caller_of l.op) l) w.lines ms before.did.fits fits;
      stopped = none-synced g;
      fed = told-then g os qs rs ss w.feeds feeds long.0 before.did.fed told_more;
      ended = tt;
    };
    unended = refl;
    kepts = worked.kepts ∙ callers-are;
    parties = worked.parties ∙ callers-are;
    each = come-at;
    ended = ends-append os qs rs ss long.0 before.ended ends;
    feeder = feeder-more;
    begun = λ shard below. starts-then (seen_of g shard new.feeder) (seen_of g shard old.feeder) (restores_in g restored shard) (fed.starts shard) (before.begun shard below);
    cut = cut-lines;
  }

-- the lines of a group, beside which the feeder did its own alone
module _ {P D : Type 0} (m : Meanings OnHeap) (cache : Cache) (restored : List Restored) (pools : Ghosts P) (devices : Devices D) (len : ℕ) (image : Option (List ℕ)) (place : ℕ) (blocks : List Ptr) (os qs : List Op) (rs ss : List Reply) (w : RunWork)
    (from : P) (a b : Device D) (old new : Crew OnHeap) (before : HaveCome cache restored len image place blocks os rs w old) (goes_on : w.stopped ≡ no_work) (did : DidLinesOfAll m cache pools devices blocks qs from a b old new ss)
    (own : AreInGroup cache.config.callers qs) (again : IsIdleFeeder cache new.feeder) (first : IsFirstPlace len blocks place) (size : pools.size from ≡ len) (front : HasFront place image (pools.told from)) where
  pub have-come-more : HaveCome cache restored len image place blocks (os ++ qs) (rs ++ ss) (with_lines w did.lines did.beside.feeds) new
  have-come-more =
      let idle : IsIdleFeeder cache old.feeder = fed-idle cache old.feeder.own.about.openings _ _ _ _ old.feeder before.feeder in
      have-come-by cache restored pools devices len image place blocks os qs rs ss w from old new before goes_on did.lines did.are did.fits did.worked did.beside.feeds
      (fed-beside m devices cache qs (length old.parties.items) ss a b old.feeder new.feeder did.beside idle again)
      (told-beside m devices cache qs (length old.parties.items) ss a b old.feeder new.feeder did.beside)
      (ends-beside m devices cache qs (length old.parties.items) ss a b old.feeder new.feeder did.beside (subst (λ (k : ℕ). AreInGroup k qs) (sym before.parties) own) (lines-long qs ss did.lines did.are).0)
      own first size front
