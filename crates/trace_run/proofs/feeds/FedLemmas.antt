-- The events of feeds: those of a group's lines are those of the feeds that were made, and the feeder's party has seen them behind what it had. And what the cache device was asked for by a group with feeds.
use Rattle.std.proofs.Common.{◌≡◌, ◌<◌, ◌≤◌, ℕ, zero, suc, Bool, true, false, List, [], ◌∷◌, ◌++◌, Option, Some, None, length, take, refl, sym, ap, ◌∙◌, subst, inl, inr, arith, append-nil, append_assoc}
use Rattle.std.specs.Prelude.{◌⊎◌, filter, map, slice_get}
use Rattle.std.proofs.lemmas.Bool.{false≢true}
use Rattle.std.specs.List.{AllByRecursion}
use Rattle.std.proofs.lemmas.List.{length-map, map-append}
use Rattle.std.proofs.lemmas.List.Elements.{filter-append}
use Rattle.arc_lists.proofs.Tables.{cases_true}
use Rattle.blk_ptr.specs.declared.ptr.Ptr.{Ptr}
use Rattle.vdev_io.specs.declared.device.CacheDev.{Ghosts}
use Rattle.vdev_io.specs.Calls.{DeviceCall, MakesDeviceCalls}
use Rattle.arc_core.specs.declared.config.Config.{Config}
use Rattle.arc_core.specs.declared.event.Event.{Event}
use Rattle.arc_core.specs.declared.served.Restored.{Restored}
use Rattle.arc_core.specs.Operations.{own_events}
use Rattle.arc_core.specs.Operations.{Act as CacheAct}
use Rattle.turn_table.specs.Places.{Place}
use Rattle.arc_table.specs.declared.view.Known.{Known}
use Rattle.arc_table.specs.Cache.{Cache}
use Rattle.arc_table.specs.Fronts.{StartsWith, front_of}
use Rattle.arc_table.specs.Items.{Meanings}
use Rattle.arc_table.specs.Seen.{seen_of, turn_of}
use Rattle.arc_table.specs.TableLaws.{starts_whole}
use Rattle.l2_dev.specs.Cursor.{CursorState}
use Rattle.l2_feed.specs.Acts.{Act}
use Rattle.l2_feed.specs.Alone.{events_at}
use Rattle.l2_feed.specs.Shape.{AreFed}
use Rattle.l2_feed.specs.Sums.{IsSummary}
use Rattle.l2_feed.proofs.Between.{make_events}
use Rattle.trace_text.specs.declared.op.Op.{Op}
use Rattle.trace_text.specs.declared.op.Op.TheVariants as ops
use Rattle.trace_text.specs.declared.reply.Reply.{Reply}
use Rattle.trace_text.specs.declared.reply.Reply.TheVariants.{Fed, FedNone}
use Rattle.trace_run.specs.declared.device.Device.{Device}
use Rattle.trace_run.specs.declared.device.Device.TheVariants as device
use Rattle.trace_run.specs.Acts.{events_of_feeder, events_of_feeds}
use Rattle.trace_run.specs.Answers.{AnswersFeed}
use Rattle.trace_run.specs.Deeds.{Noted, SameMade}
use Rattle.trace_run.specs.Devices.{lent_in}
use Rattle.trace_run.specs.FeedEvents.{AreFeedsTold, events_of_lines, events_of_made, feeds_told, is_fed, was_fed}
use Rattle.trace_run.specs.Feeds.{AreFedReplies, AsksForFeeds, AsksOfFeeds, FeedDone, IsFeedOf, IsIdleFeeder, MadeFeeds, MadeFeedsOf, is_feed}
use Rattle.trace_run.specs.KeptBlocks.{Stands}
use Rattle.trace_run.specs.Lines.{caller_of, replies_where}
use Rattle.trace_run.specs.Meeting.{IsFed}
use Rattle.trace_run.specs.dbufs.Objects.{Line, no_work, ops_of, replies_of}
use Rattle.trace_run.specs.Restores.{events_by_feeder, restores_in}
use Rattle.trace_run.specs.RunWork.{AllFit, FitsBy, lines_of_caller, lines_of_feeder}
use Rattle.trace_run.specs.KeptReads.{KeptRead}
use Rattle.trace_run.specs.callers.Beside.{FeedsBeside, WorksBeside}
use Rattle.trace_run.specs.callers.DeviceForks.{UsedAtOnce, UsedInGroups}
use Rattle.trace_run.specs.callers.Groups.{AreEndLines}
use Rattle.trace_run.specs.callers.InOrder.{AreInGroup}
use Rattle.trace_run.specs.callers.Together.{GroupLines}
use Rattle.trace_run.specs.callers.WorkLines.{AreLinesOf, acts_of_work, acts_with_op, noted_of_work}
use Rattle.trace_run.specs.one_caller.OneCaller.{kept_after}
use Rattle.trace_run.proofs.callers.MeetLemmas.{starts-events}
use Rattle.trace_run.proofs.deeds.DeedLemmas.{others-still}
use Rattle.trace_run.proofs.one_caller.TellLemmas.{all-append}
use Rattle.trace_run.proofs.feeds.FeedLemmas.{feed-is}
use Rattle.trace_run.proofs.feeds.FeedStands.{StandsStill, acts-still, still-same, still-then}

-- ---- which lines were fed

-- a line that asks for no feed was not
other-unfed : (op : Op) (reply : Reply) → is_feed op ≡ false → was_fed op reply ≡ false
other-unfed op reply other = rw other refl

asked-fed : (op : Op) (reply : Reply) → is_feed op ≡ true → was_fed op reply ≡ is_fed reply
asked-fed op reply asks = rw asks refl

-- ---- the lines behind others

module _ (g : Config) (shard : ℕ) where
  lines-other : (op : Op) (reply : Reply) (os : List Op) (rs : List Reply) (fs : List FeedDone) → was_fed op reply ≡ false → events_of_lines g shard (op ∷ os) (reply ∷ rs) fs ≡ events_of_feeder g.callers op ++ events_of_lines g shard os rs fs
  lines-other op reply os rs fs other = rw other refl

  lines-fed : (op : Op) (reply : Reply) (os : List Op) (rs : List Reply) (f : FeedDone) (fs : List FeedDone) → was_fed op reply ≡ true
      → events_of_lines g shard (op ∷ os) (reply ∷ rs) (f ∷ fs) ≡ events_at g g.callers shard f.acts ++ events_of_lines g shard os rs fs
  lines-fed op reply os rs f fs fed = rw fed refl

-- how many lines of these were fed
module _ (op : Op) (reply : Reply) (os : List Op) (rs : List Reply) where
  told-other : was_fed op reply ≡ false → feeds_told (op ∷ os) (reply ∷ rs) ≡ feeds_told os rs
  told-other other = elim (cases_true (is_feed op)) [
    | inl asks ↦
        let no : is_fed reply ≡ false = sym (asked-fed op reply asks) ∙ other in
        rw asks (rw no refl)
    | inr none ↦ rw none refl
  ]

  told-fed : was_fed op reply ≡ true → feeds_told (op ∷ os) (reply ∷ rs) ≡ suc (feeds_told os rs)
  told-fed fed = elim (cases_true (is_feed op)) [
    | inl asks ↦
        let yes : is_fed reply ≡ true = sym (asked-fed op reply asks) ∙ fed in
        rw asks (rw yes refl)
    | inr none ↦ absurd (false≢true (sym (other-unfed op reply none) ∙ fed))
  ]

-- the feeds of some lines and then those of others
pub lines-append : (g : Config) (shard : ℕ) (os qs : List Op) (rs ss : List Reply) (fs gs : List FeedDone) → length rs ≡ length os → feeds_told os rs ≡ length fs
    → events_of_lines g shard (os ++ qs) (rs ++ ss) (fs ++ gs) ≡ events_of_lines g shard os rs fs ++ events_of_lines g shard qs ss gs
lines-append g shard [] qs [] ss [] gs same told = refl
lines-append g shard [] qs [] ss (f ∷ fs) gs same told = absurd (omega (arith, told))
lines-append g shard [] qs (r ∷ rs) ss fs gs same told = absurd (omega arith)
lines-append g shard (o ∷ os) qs [] ss fs gs same told = absurd (omega arith)
lines-append g shard (o ∷ os) qs (r ∷ rs) ss [] gs same told = elim (cases_true (was_fed o r)) [
  | inl fed ↦ let many = told-fed o r os rs fed in absurd (omega (arith, many, told))
  | inr other ↦
      lines-other g shard o r (os ++ qs) (rs ++ ss) gs other
      ∙ (ap (λ (l : List Event). events_of_feeder g.callers o ++ l) (lines-append g shard os qs rs ss [] gs (omega (arith, same)) (sym (told-other o r os rs other) ∙ told))
      ∙ (sym (append_assoc (events_of_feeder g.callers o) (events_of_lines g shard os rs []) (events_of_lines g shard qs ss gs))
      ∙ ap (λ (l : List Event). l ++ events_of_lines g shard qs ss gs) (sym (lines-other g shard o r os rs [] other))))
]
lines-append g shard (o ∷ os) qs (r ∷ rs) ss (f ∷ fs) gs same told = elim (cases_true (was_fed o r)) [
  | inl fed ↦
      let rest : feeds_told os rs ≡ length fs = let many = told-fed o r os rs fed in omega (arith, many, told) in
      lines-fed g shard o r (os ++ qs) (rs ++ ss) f (fs ++ gs) fed
      ∙ (ap (λ (l : List Event). events_at g g.callers shard f.acts ++ l) (lines-append g shard os qs rs ss fs gs (omega (arith, same)) rest)
      ∙ (sym (append_assoc (events_at g g.callers shard f.acts) (events_of_lines g shard os rs fs) (events_of_lines g shard qs ss gs))
      ∙ ap (λ (l : List Event). l ++ events_of_lines g shard qs ss gs) (sym (lines-fed g shard o r os rs f fs fed))))
  | inr other ↦
      lines-other g shard o r (os ++ qs) (rs ++ ss) (f ∷ (fs ++ gs)) other
      ∙ (ap (λ (l : List Event). events_of_feeder g.callers o ++ l) (lines-append g shard os qs rs ss (f ∷ fs) gs (omega (arith, same)) (sym (told-other o r os rs other) ∙ told))
      ∙ (sym (append_assoc (events_of_feeder g.callers o) (events_of_lines g shard os rs (f ∷ fs)) (events_of_lines g shard qs ss gs))
      ∙ ap (λ (l : List Event). l ++ events_of_lines g shard qs ss gs) (sym (lines-other g shard o r os rs (f ∷ fs) other))))
]

-- lines take no more feeds than they were answered with
pub lines-enough : (g : Config) (shard : ℕ) (os : List Op) (rs : List Reply) (fs gs : List FeedDone) → feeds_told os rs ≤ length fs → events_of_lines g shard os rs (fs ++ gs) ≡ events_of_lines g shard os rs fs
lines-enough g shard [] rs fs gs few = refl
lines-enough g shard (o ∷ os) [] fs gs few = refl
lines-enough g shard (o ∷ os) (r ∷ rs) [] gs few = elim (cases_true (was_fed o r)) [
  | inl fed ↦ let many = told-fed o r os rs fed in absurd (omega (arith, many, few))
  | inr other ↦
      lines-other g shard o r os rs gs other
      ∙ (ap (λ (l : List Event). events_of_feeder g.callers o ++ l) (lines-enough g shard os rs [] gs (let same = told-other o r os rs other in omega (arith, few, same)))
      ∙ sym (lines-other g shard o r os rs [] other))
]
lines-enough g shard (o ∷ os) (r ∷ rs) (f ∷ fs) gs few = elim (cases_true (was_fed o r)) [
  | inl fed ↦
      lines-fed g shard o r os rs f (fs ++ gs) fed
      ∙ (ap (λ (l : List Event). events_at g g.callers shard f.acts ++ l) (lines-enough g shard os rs fs gs (let many = told-fed o r os rs fed in omega (arith, many, few)))
      ∙ sym (lines-fed g shard o r os rs f fs fed))
  | inr other ↦
      lines-other g shard o r os rs (f ∷ (fs ++ gs)) other
      ∙ (ap (λ (l : List Event). events_of_feeder g.callers o ++ l) (lines-enough g shard os rs (f ∷ fs) gs (let same = told-other o r os rs other in omega (arith, few, same)))
      ∙ sym (lines-other g shard o r os rs (f ∷ fs) other))
]

-- fewer lines were fed no more often
pub told-front : (k : ℕ) (os : List Op) (rs : List Reply) → feeds_told (take k os) (take k rs) ≤ feeds_told os rs
told-front zero os rs = omega arith
told-front (suc k) [] rs = omega arith
told-front (suc k) (o ∷ os) [] = omega arith
told-front (suc k) (o ∷ os) (r ∷ rs) =
    let rest = told-front k os rs in
    elim (cases_true (was_fed o r)) [
      | inl fed ↦ let a = told-fed o r os rs fed in let b = told-fed o r (take k os) (take k rs) fed in omega (arith, rest, a, b)
      | inr other ↦ let a = told-other o r os rs other in let b = told-other o r (take k os) (take k rs) other in omega (arith, rest, a, b)
    ]

-- where no feed was made, lines ask for what they say alone
pub lines-unfed : (g : Config) (shard : ℕ) (os : List Op) (rs : List Reply) → feeds_told os rs ≡ 0 → events_of_lines g shard os rs [] ≡ events_of_feeds g.callers os rs
lines-unfed g shard [] rs none = refl
lines-unfed g shard (o ∷ os) [] none = refl
lines-unfed g shard (o ∷ os) (r ∷ rs) none = elim (cases_true (was_fed o r)) [
  | inl fed ↦ let many = told-fed o r os rs fed in absurd (omega (arith, many, none))
  | inr other ↦ lines-other g shard o r os rs [] other ∙ ap (λ (l : List Event). events_of_feeder g.callers o ++ l) (lines-unfed g shard os rs (sym (told-other o r os rs other) ∙ none))
]

-- ---- the lines of a group

caller-asks-none : (n : ℕ) (op : Op) (m : ℕ) → caller_of op ≡ Some m → events_of_feeder n op ≡ []
caller-asks-none n (ops.Read k t x window) m of = refl
caller-asks-none n (ops.Hold k t x) m of = refl
caller-asks-none n (ops.Drop k x) m of = refl
caller-asks-none n (ops.Get k t at window) m of = refl
caller-asks-none n (ops.Put k t at size fill) m of = refl
caller-asks-none n (ops.Patch k t at from bytes) m of = refl
caller-asks-none n (ops.Pin k t at) m of = refl
caller-asks-none n (ops.Unpin k at) m of = refl
caller-asks-none n ops.Feed m of = cc
caller-asks-none n (ops.Txg t) m of = cc
caller-asks-none n (ops.Cap c) m of = cc

feed-asks-none : (n : ℕ) (op : Op) → is_feed op ≡ true → events_of_feeder n op ≡ []
feed-asks-none n (ops.Read k t x window) is = absurd (false≢true is)
feed-asks-none n (ops.Hold k t x) is = absurd (false≢true is)
feed-asks-none n (ops.Drop k x) is = absurd (false≢true is)
feed-asks-none n (ops.Get k t at window) is = absurd (false≢true is)
feed-asks-none n (ops.Put k t at size fill) is = absurd (false≢true is)
feed-asks-none n (ops.Patch k t at from bytes) is = absurd (false≢true is)
feed-asks-none n (ops.Pin k t at) is = absurd (false≢true is)
feed-asks-none n (ops.Unpin k at) is = absurd (false≢true is)
feed-asks-none n ops.Feed is = refl
feed-asks-none n (ops.Txg t) is = absurd (false≢true is)
feed-asks-none n (ops.Cap c) is = absurd (false≢true is)

asks-none : (callers n : ℕ) (op : Op) → ((m : ℕ) × (caller_of op ≡ Some m) × (m < callers)) ⊎ (is_feed op ≡ true) → events_of_feeder n op ≡ []
asks-none callers n op (inl his) = caller-asks-none n op his.0 his.1
asks-none callers n op (inr is) = feed-asks-none n op is

-- The lines of a group ask for feeds alone.
pub group-made : (g : Config) (shard callers : ℕ) (qs : List Op) (ss : List Reply) (gs : List FeedDone) → AreInGroup callers qs → length ss ≡ length qs → feeds_told qs ss ≡ length gs → events_of_lines g shard qs ss gs ≡ events_of_made g shard gs
group-made g shard callers [] ss [] own same told = refl
group-made g shard callers [] ss (x ∷ gs) own same told = absurd (omega (arith, told))
group-made g shard callers (q ∷ qs) [] gs own same told = absurd (omega arith)
group-made g shard callers (q ∷ qs) (s ∷ ss) [] own same told = elim (cases_true (was_fed q s)) [
  | inl fed ↦ let many = told-fed q s qs ss fed in absurd (omega (arith, many, told))
  | inr other ↦
      lines-other g shard q s qs ss [] other
      ∙ ((λ i. asks-none callers g.callers q (own 0 q refl) i ++ events_of_lines g shard qs ss [])
      ∙ group-made g shard callers qs ss [] (λ k op at. own (suc k) op at) (omega (arith, same)) (sym (told-other q s qs ss other) ∙ told))
]
group-made g shard callers (q ∷ qs) (s ∷ ss) (x ∷ gs) own same told = elim (cases_true (was_fed q s)) [
  | inl fed ↦
      lines-fed g shard q s qs ss x gs fed
      ∙ ap (λ (l : List Event). events_at g g.callers shard x.acts ++ l)
      (group-made g shard callers qs ss gs (λ k op at. own (suc k) op at) (omega (arith, same)) (let many = told-fed q s qs ss fed in omega (arith, many, told)))
  | inr other ↦
      lines-other g shard q s qs ss (x ∷ gs) other
      ∙ ((λ i. asks-none callers g.callers q (own 0 q refl) i ++ events_of_lines g shard qs ss (x ∷ gs))
      ∙ group-made g shard callers qs ss (x ∷ gs) (λ k op at. own (suc k) op at) (omega (arith, same)) (sym (told-other q s qs ss other) ∙ told))
]

-- what else a line asks for stands behind the feeds
pub one-asked : (g : Config) (shard : ℕ) (op : Op) (reply : Reply) → is_feed op ≡ false → events_of_lines g shard (op ∷ []) (reply ∷ []) [] ≡ events_of_feeder g.callers op
one-asked g shard op reply other = lines-other g shard op reply [] [] [] (other-unfed op reply other) ∙ append-nil (events_of_feeder g.callers op)

-- ---- what is told

nones-told : (ls : List Op) → filter is_fed (map (λ line. FedNone) ls) ≡ []
nones-told [] = refl
nones-told (l ∷ ls) = nones-told ls

all-told : (fs : List FeedDone) → filter is_fed (map (λ feed. Fed feed.report) fs) ≡ map (λ feed. Fed feed.report) fs
all-told [] = refl
all-told (f ∷ fs) = ap (λ (l : List Reply). Fed f.report ∷ l) (all-told fs)

pub replies-told : {D : Type 0} (o : Option D) (ls : List Op) (fs : List FeedDone) (rs : List Reply) → AreFedReplies o ls fs rs → filter is_fed rs ≡ map (λ feed. Fed feed.report) fs
replies-told None ls fs rs so = ap (filter is_fed) so.1 ∙ (nones-told ls ∙ sym (ap (map (λ (feed : FeedDone). Fed feed.report)) so.0))
replies-told (Some d) ls fs rs so = ap (filter is_fed) so.1 ∙ all-told fs

pub as-told : (g : Config) (os : List Op) (rs : List Reply) (fs : List FeedDone) → AreFeedsTold g os rs fs → feeds_told os rs ≡ length fs
as-told g os rs fs told = ap length told.told ∙ length-map fs (λ (feed : FeedDone). Fed feed.report)

pub where-two : (test : Op → Bool) (os qs : List Op) (rs ss : List Reply) → length rs ≡ length os → replies_where test (os ++ qs) (rs ++ ss) ≡ replies_where test os rs ++ replies_where test qs ss
where-two test [] qs [] ss same = refl
where-two test [] qs (r ∷ rs) ss same = absurd (omega arith)
where-two test (o ∷ os) qs [] ss same = absurd (omega arith)
where-two test (o ∷ os) qs (r ∷ rs) ss same =
    let rest = where-two test os qs rs ss (omega (arith, same)) in
    elim (cases_true (test o)) [
      | inl own ↦ rw own (ap (λ (l : List Reply). r ∷ l) rest)
      | inr other ↦ rw other rest
    ]

pub told-then : (g : Config) (os qs : List Op) (rs ss : List Reply) (fs gs : List FeedDone) → length rs ≡ length os → AreFeedsTold g os rs fs → AreFeedsTold g qs ss gs → AreFeedsTold g (os ++ qs) (rs ++ ss) (fs ++ gs)
told-then g os qs rs ss fs gs same first rest = record {
  told = ap (filter is_fed) (where-two is_feed os qs rs ss same)
      ∙ (filter-append is_fed (replies_where is_feed os rs) (replies_where is_feed qs ss)
      ∙ ((λ i. first.told i ++ rest.told i) ∙ sym (map-append (λ (feed : FeedDone). Fed feed.report) fs gs)));
  shapes = all-append (IsFeedOf g.shards) fs gs first.shapes rest.shapes;
}

where-still : (test : Op → Bool) (os : List Op) (rs : List Reply) (op : Op) (reply : Reply) → length rs ≡ length os → test op ≡ false → replies_where test (os ++ op ∷ []) (rs ++ reply ∷ []) ≡ replies_where test os rs
where-still test os rs op reply same other = where-two test os (op ∷ []) rs (reply ∷ []) same ∙ (ap (λ (l : List Reply). replies_where test os rs ++ l) none ∙ append-nil (replies_where test os rs))
  where
    none : replies_where test (op ∷ []) (reply ∷ []) ≡ []
    none = rw other refl

-- a line that asks for no feed adds none
pub told-still : (g : Config) (os : List Op) (rs : List Reply) (fs : List FeedDone) (op : Op) (reply : Reply) → length rs ≡ length os → is_feed op ≡ false → AreFeedsTold g os rs fs → AreFeedsTold g (os ++ op ∷ []) (rs ++ reply ∷ []) fs
told-still g os rs fs op reply same other told = record {
  told = ap (filter is_fed) (where-still is_feed os rs op reply same other) ∙ told.told;
  shapes = told.shapes;
}

-- ---- a group's lines

module _ (P : Reply → Type 0) (test : Op → Bool) where
  -- the replies to the lines that pass a test
  where-at : (os : List Op) (rs : List Reply) (k : ℕ) (op : Op) (reply : Reply) → AllByRecursion P (replies_where test os rs) → slice_get os k ≡ Some op → test op ≡ true → slice_get rs k ≡ Some reply → P reply
  where-at [] rs k op reply all at is there = cc
  where-at (o ∷ os) [] k op reply all at is there = cc
  where-at (o ∷ os) (r ∷ rs) zero op reply all at is there =
      let own : test o ≡ true = ap test (some-is o op at) ∙ is in
      subst P (some-is r reply there) (subst (AllByRecursion P) (first own) all).0
    where
      some-is : {X : Type 0} (a b : X) → ◌≡◌ {A = Option X} (Some a) (Some b) → a ≡ b
      some-is a b same = cc

      first : test o ≡ true → replies_where test (o ∷ os) (r ∷ rs) ≡ r ∷ replies_where test os rs
      first own = rw own refl
  where-at (o ∷ os) (r ∷ rs) (suc k) op reply all at is there = where-at os rs k op reply (rest (cases_true (test o))) at is there
    where
      rest : (test o ≡ true) ⊎ (test o ≡ false) → AllByRecursion P (replies_where test os rs)
      rest (inl own) = (subst (AllByRecursion P) (taken own) all).1
        where
          taken : test o ≡ true → replies_where test (o ∷ os) (r ∷ rs) ≡ r ∷ replies_where test os rs
          taken own = rw own refl
      rest (inr other) = subst (AllByRecursion P) (left other) all
        where
          left : test o ≡ false → replies_where test (o ∷ os) (r ∷ rs) ≡ replies_where test os rs
          left other = rw other refl

reply-at : (rs : List Reply) (os : List Op) (k : ℕ) (op : Op) → length rs ≡ length os → slice_get os k ≡ Some op → (reply : Reply) × (slice_get rs k ≡ Some reply)
reply-at [] [] k op same at = cc
reply-at [] (o ∷ os) k op same at = absurd (omega (arith, same))
reply-at (r ∷ rs) [] k op same at = cc
reply-at (r ∷ rs) (o ∷ os) zero op same at = (r, refl)
reply-at (r ∷ rs) (o ∷ os) (suc k) op same at = reply-at rs os k op (omega (arith, same)) at

none-answers : (ls : List Op) → AllByRecursion AnswersFeed (map (λ line. FedNone) ls)
none-answers [] = tt
none-answers (l ∷ ls) = (inl refl, none-answers ls)

all-answers : (fs : List FeedDone) → AllByRecursion AnswersFeed (map (λ feed. Fed feed.report) fs)
all-answers [] = tt
all-answers (f ∷ fs) = (inr (f.report, refl), all-answers fs)

-- each reply is one to a line `feed`
pub fed-answers : {D : Type 0} (o : Option D) (ls : List Op) (fs : List FeedDone) (rs : List Reply) → AreFedReplies o ls fs rs → AllByRecursion AnswersFeed rs
fed-answers None ls fs rs so = subst (AllByRecursion AnswersFeed) (sym so.1) (none-answers ls)
fed-answers (Some d) ls fs rs so = subst (AllByRecursion AnswersFeed) (sym so.1) (all-answers fs)

-- the lines of a group that are no caller's ask for feeds, and are answered so
pub group-ends : {D : Type 0} (o : Option D) (callers : ℕ) (qs : List Op) (ss : List Reply) (fs : List FeedDone) → AreInGroup callers qs → length ss ≡ length qs → AreFedReplies o (filter is_feed qs) fs (replies_where is_feed qs ss) → AreEndLines qs ss
group-ends o callers qs ss fs own same so k op at none =
    let r = reply-at ss qs k op same at in
    let is = asks (own k op at) none in
    (r.0, r.1, inr (inr (feed-is op is, where-at AnswersFeed is_feed qs ss k op r.0 (fed-answers o (filter is_feed qs) fs (replies_where is_feed qs ss) so) at is r.1)))
  where
    asks : ((n : ℕ) × (caller_of op ≡ Some n) × (n < callers)) ⊎ (is_feed op ≡ true) → caller_of op ≡ None → is_feed op ≡ true
    asks (inl his) none = let a = his.1 in cc
    asks (inr is) none = is

module _ (g : Config) (blocks : List Ptr) where
  -- the feeder's lines of a group did nothing beside their replies
  feeder-line : (l : Line) → FitsBy g (caller_of l.op) l → is_feed l.op ≡ true → l.work ≡ no_work
  feeder-line l fits is = go l.op (feed-is l.op is) fits
    where
      go : (op : Op) → op ≡ ops.Feed → FitsBy g (caller_of op) (record { op = op; reply = l.reply; work = l.work }) → l.work ≡ no_work
      go op at fits = subst (λ (o : Op). FitsBy g (caller_of o) (record { op = o; reply = l.reply; work = l.work })) at fits

  his-line : (n : ℕ) (l : Line) (ls : List Line) → caller_of l.op ≡ Some n → lines_of_feeder (l ∷ ls) ≡ lines_of_feeder ls
  his-line n l ls of = rw of refl

  no-caller : (op : Op) → is_feed op ≡ true → caller_of op ≡ None
  no-caller op is = ap caller_of (feed-is op is)

  feeder-takes : (l : Line) (ls : List Line) → caller_of l.op ≡ None → lines_of_feeder (l ∷ ls) ≡ l ∷ lines_of_feeder ls
  feeder-takes l ls none = rw none refl

  feed-acts : (kept : List KeptRead) (l : Line) → is_feed l.op ≡ true → acts_with_op g blocks kept l.op l.reply l.work ≡ []
  feed-acts kept l is = ap (λ (o : Op). acts_with_op g blocks kept o l.reply l.work) (feed-is l.op is)

  pub group-acts : (callers : ℕ) (kept : List KeptRead) (ls : List Line) → AreInGroup callers (ops_of ls) → acts_of_work g blocks kept (lines_of_feeder ls) ≡ []
  group-acts callers kept [] own = refl
  group-acts callers kept (l ∷ ls) own = go (λ reads. group-acts callers reads ls (λ k op at. own (suc k) op at)) (own 0 l.op refl)
    where
      go : ((reads : List KeptRead) → acts_of_work g blocks reads (lines_of_feeder ls) ≡ []) → ((n : ℕ) × (caller_of l.op ≡ Some n) × (n < callers)) ⊎ (is_feed l.op ≡ true) → acts_of_work g blocks kept (lines_of_feeder (l ∷ ls)) ≡ []
      go rest (inl his) = ap (acts_of_work g blocks kept) (his-line his.0 l ls his.1) ∙ rest kept
      go rest (inr is) =
          ap (acts_of_work g blocks kept) (feeder-takes l ls (no-caller l.op is))
          ∙ ((λ i. feed-acts kept l is i ++ acts_of_work g blocks (kept_after blocks l.op l.reply kept) (lines_of_feeder ls)) ∙ rest (kept_after blocks l.op l.reply kept))

  pub group-noted : (callers : ℕ) (ls : List Line) → AreInGroup callers (ops_of ls) → AllFit g ls → noted_of_work (lines_of_feeder ls) ≡ []
  group-noted callers [] own fits = refl
  group-noted callers (l ∷ ls) own fits = go (group-noted callers ls (λ k op at. own (suc k) op at) fits.1) (own 0 l.op refl)
    where
      go : noted_of_work (lines_of_feeder ls) ≡ [] → ((n : ℕ) × (caller_of l.op ≡ Some n) × (n < callers)) ⊎ (is_feed l.op ≡ true) → noted_of_work (lines_of_feeder (l ∷ ls)) ≡ []
      go rest (inl his) = ap noted_of_work (his-line his.0 l ls his.1) ∙ rest
      go rest (inr is) =
          ap noted_of_work (feeder-takes l ls (no-caller l.op is)) ∙ ((λ i. (feeder-line l fits.0 is i).noted ++ noted_of_work (lines_of_feeder ls)) ∙ rest)

-- the operations of lines, and the replies to them
pub ops-are : (os : List Op) (rs : List Reply) (ls : List Line) → AreLinesOf os rs ls → (ops_of ls ≡ os) × (replies_of ls ≡ rs)
ops-are [] [] [] are = (refl, refl)
ops-are [] [] (l ∷ ls) are = absurd are
ops-are [] (r ∷ rs) ls are = absurd are
ops-are (o ∷ os) [] ls are = absurd are
ops-are (o ∷ os) (r ∷ rs) [] are = absurd are
ops-are (o ∷ os) (r ∷ rs) (l ∷ ls) are =
    let rest = ops-are os rs ls are.2 in
    ((λ i. are.0 i ∷ rest.0 i), (λ i. are.1 i ∷ rest.1 i))

-- ---- the feeder

-- The feeder's party is idle again behind these feeds, and has seen their events behind what it had, and maybe others'.
pub record HasFedMore {C : Type 0} (cache : Cache) (feeds : List FeedDone) (p q : Place (Known C)) : Type 0 where
  pub idle : IsIdleFeeder cache q
  pub same : SameMade cache.config p q
  pub events : (shard : ℕ) → own_events cache.config.callers (seen_of cache.config shard q) ≡ own_events cache.config.callers (seen_of cache.config shard p) ++ events_of_made cache.config shard feeds
  pub starts : (shard : ℕ) → StartsWith (seen_of cache.config shard q) (seen_of cache.config shard p)

module _ {C D : Type 0} (m : Meanings C) (devices : Ghosts D) (cache : Cache) where
  feeds-still : (fs : List FeedDone) (was now : D) (old new : CursorState) (p q : Place (Known C)) → Stands cache p [] → MadeFeeds m devices cache fs was now old new p q → StandsStill m cache p q
  feeds-still [] was now old new p q stands made = still-same m cache p q stands made.2
  feeds-still (f ∷ fs) was now old new p q stands (next, r, same, one, rest) =
      let still = acts-still m cache one.made.fed.acts p r stands one.made.fed.did in
      still-then m cache p r q still (feeds-still fs next now f.after new r q still.stands rest)

  -- several feeds leave the party so that it stands still
  pub made-still : (fs : List FeedDone) (a b : Device D) (p q : Place (Known C)) → Stands cache p [] → MadeFeedsOf m devices cache fs a b p q → StandsStill m cache p q
  made-still fs device.None device.None p q stands made = still-same m cache p q stands made.1
  made-still fs (device.Short a) (device.Short b) p q stands made = still-same m cache p q stands made.2
  made-still fs (device.Ready a) (device.Ready b) p q stands made = feeds-still fs a.dev b.dev a.cursor b.cursor p q stands made.1
  made-still fs device.None (device.Short b) p q stands made = absurd made
  made-still fs device.None (device.Ready b) p q stands made = absurd made
  made-still fs (device.Short a) device.None p q stands made = absurd made
  made-still fs (device.Short a) (device.Ready b) p q stands made = absurd made
  made-still fs (device.Ready a) device.None p q stands made = absurd made
  made-still fs (device.Ready a) (device.Short b) p q stands made = absurd made

  series-events : (fs : List FeedDone) (was now : D) (old new : CursorState) (p q : Place (Known C)) → MadeFeeds m devices cache fs was now old new p q → (shard : ℕ)
      → own_events cache.config.callers (seen_of cache.config shard q) ≡ own_events cache.config.callers (seen_of cache.config shard p) ++ events_of_made cache.config shard fs
  series-events [] was now old new p q made shard = ap (λ (x : Place (Known C)). own_events cache.config.callers (seen_of cache.config shard x)) made.2 ∙ sym (append-nil (own_events cache.config.callers (seen_of cache.config shard p)))
  series-events (f ∷ fs) was now old new p q (next, r, same, one, rest) shard =
      let first : own_events cache.config.callers (seen_of cache.config shard r) ≡ own_events cache.config.callers (seen_of cache.config shard p) ++ events_at cache.config cache.config.callers shard f.acts =
      subst (λ (x : ℕ × List Act). own_events x.0 (seen_of cache.config shard r) ≡ own_events x.0 (seen_of cache.config shard p) ++ events_at cache.config x.0 shard x.1) (λ i. (one.made.ready.on.feeder i, one.acts i))
      (make_events m devices cache.config was next f.before f.after p r f.report one.made.fed shard) in
      series-events fs next now f.after new r q rest shard
      ∙ (ap (λ (es : List Event). es ++ events_of_made cache.config shard fs) first ∙ append_assoc (own_events cache.config.callers (seen_of cache.config shard p)) (events_at cache.config cache.config.callers shard f.acts) (events_of_made cache.config shard fs))

  none-made : (fs : List FeedDone) (p q : Place (Known C)) → fs ≡ [] → q ≡ p → (shard : ℕ) → own_events cache.config.callers (seen_of cache.config shard q) ≡ own_events cache.config.callers (seen_of cache.config shard p) ++ events_of_made cache.config shard fs
  none-made fs p q none is shard =
      ap (λ (x : Place (Known C)). own_events cache.config.callers (seen_of cache.config shard x)) is
      ∙ (sym (append-nil (own_events cache.config.callers (seen_of cache.config shard p))) ∙ ap (λ (l : List FeedDone). own_events cache.config.callers (seen_of cache.config shard p) ++ events_of_made cache.config shard l) (sym none))

  -- the party's own events are those of the feeds, whoever has joined it
  pub made-events : (fs : List FeedDone) (a b : Device D) (p q : Place (Known C)) → MadeFeedsOf m devices cache fs a b p q → (shard : ℕ)
      → own_events cache.config.callers (seen_of cache.config shard q) ≡ own_events cache.config.callers (seen_of cache.config shard p) ++ events_of_made cache.config shard fs
  made-events fs device.None device.None p q made = none-made fs p q made.0 made.1
  made-events fs (device.Short a) (device.Short b) p q made = none-made fs p q made.0 made.2
  made-events fs (device.Ready a) (device.Ready b) p q made = series-events fs a.dev b.dev a.cursor b.cursor p q made.1
  made-events fs device.None (device.Short b) p q made = absurd made
  made-events fs device.None (device.Ready b) p q made = absurd made
  made-events fs (device.Short a) device.None p q made = absurd made
  made-events fs (device.Short a) (device.Ready b) p q made = absurd made
  made-events fs (device.Ready a) device.None p q made = absurd made
  made-events fs (device.Ready a) (device.Short b) p q made = absurd made

  feeds-shaped : (fs : List FeedDone) (was now : D) (old new : CursorState) (p q : Place (Known C)) → MadeFeeds m devices cache fs was now old new p q → AllByRecursion (IsFeedOf cache.config.shards) fs
  feeds-shaped [] was now old new p q made = tt
  feeds-shaped (f ∷ fs) was now old new p q made =
      let one = made.3 in (
        record {
          fed = subst (λ (x : List Act × List DeviceCall). AreFed 0 cache.config.shards f.before f.after x.0 x.1 f.report.end) (λ i. (one.acts i, one.calls i)) one.made.fed.fed;
          sums = subst (λ (l : List Act). IsSummary l f.report) one.acts one.made.fed.sums;
        },
        feeds-shaped fs made.0 now f.after new made.1 q made.4,
      )

  -- each has the form of a feed
  pub made-shaped : (fs : List FeedDone) (a b : Device D) (p q : Place (Known C)) → MadeFeedsOf m devices cache fs a b p q → AllByRecursion (IsFeedOf cache.config.shards) fs
  made-shaped fs device.None device.None p q made = subst (AllByRecursion (IsFeedOf cache.config.shards)) (sym made.0) tt
  made-shaped fs (device.Short a) (device.Short b) p q made = subst (AllByRecursion (IsFeedOf cache.config.shards)) (sym made.0) tt
  made-shaped fs (device.Ready a) (device.Ready b) p q made = feeds-shaped fs a.dev b.dev a.cursor b.cursor p q made.1
  made-shaped fs device.None (device.Short b) p q made = absurd made
  made-shaped fs device.None (device.Ready b) p q made = absurd made
  made-shaped fs (device.Short a) device.None p q made = absurd made
  made-shaped fs (device.Short a) (device.Ready b) p q made = absurd made
  made-shaped fs (device.Ready a) device.None p q made = absurd made
  made-shaped fs (device.Ready a) (device.Short b) p q made = absurd made

  pub fed-more : (fs : List FeedDone) (a b : Device D) (p q : Place (Known C)) → IsIdleFeeder cache p → IsIdleFeeder cache q → MadeFeedsOf m devices cache fs a b p q → HasFedMore cache fs p q
  fed-more fs a b p q idle again made =
      let still = made-still fs a b p q idle.stands made in
      record {
        idle = again;
        same = still.same;
        events = made-events fs a b p q made;
        starts = λ shard. starts-events (front_of (turn_of cache.config shard) q.own.seen) (front_of (turn_of cache.config shard) p.own.seen) (still.starts shard);
      }

  -- ---- a group with feeds

  module _ (qs : List Op) (callers : ℕ) (ss : List Reply) (a b : Device D) (p q : Place (Known C)) (w : FeedsBeside m devices cache qs (replies_where is_feed qs ss) a b p q) where
    pub fed-beside : IsIdleFeeder cache p → IsIdleFeeder cache q → HasFedMore cache w.feeds p q
    fed-beside idle again = fed-more w.feeds w.used.lent w.used.later p q idle again w.used.made

    -- the feeds are those that the lines are answered with
    pub told-beside : AreFeedsTold cache.config qs ss w.feeds
    told-beside = record {
      told = replies-told (lent_in a) (filter is_feed qs) w.feeds (replies_where is_feed qs ss) w.answered;
      shapes = made-shaped w.feeds w.used.lent w.used.later p q w.used.made;
    }

    pub ends-beside : AreInGroup callers qs → length ss ≡ length qs → AreEndLines qs ss
    ends-beside group same = group-ends (lent_in a) callers qs ss w.feeds group same w.answered

  asks-for : (fs : List FeedDone) (was now : D) (old new : CursorState) (p q : Place (Known C)) → MadeFeeds m devices cache fs was now old new p q → AsksForFeeds devices fs was now
  asks-for [] was now old new p q made = made.0
  asks-for (f ∷ fs) was now old new p q made =
      let one = made.3 in (made.0, subst (λ (calls : List DeviceCall). MakesDeviceCalls devices calls was made.0) one.calls one.made.fed.made, asks-for fs made.0 now f.after new made.1 q made.4)

  -- the device was asked for the calls of the feeds
  pub asks-of : (fs : List FeedDone) (a b : Device D) (p q : Place (Known C)) → MadeFeedsOf m devices cache fs a b p q → AsksOfFeeds devices fs (lent_in a) (lent_in b)
  asks-of fs device.None device.None p q made = made.0
  asks-of fs (device.Short a) (device.Short b) p q made = made.0
  asks-of fs (device.Ready a) (device.Ready b) p q made = asks-for fs a.dev b.dev a.cursor b.cursor p q made.1
  asks-of fs device.None (device.Short b) p q made = absurd made
  asks-of fs device.None (device.Ready b) p q made = absurd made
  asks-of fs (device.Short a) device.None p q made = absurd made
  asks-of fs (device.Short a) (device.Ready b) p q made = absurd made
  asks-of fs (device.Ready a) device.None p q made = absurd made
  asks-of fs (device.Ready a) (device.Short b) p q made = absurd made

  -- so a group asked the device for its callers' reads and for its feeds
  pub used-once : (blocks : List Ptr) (callers : ℕ) (lines : List Line) (a b : Device D) (p q : Place (Known C)) (w : WorksBeside m devices cache blocks (ops_of lines) callers (λ n. lines_of_caller n lines) (replies_where is_feed (ops_of lines) (replies_of lines)) a b p q)
      → UsedAtOnce devices blocks callers lines w.feeds (lent_in a) (lent_in b)
  used-once blocks callers lines a b p q w = record {
    lent = lent_in w.used.lent;
    later = lent_in w.used.later;
    read = w.read;
    fed = asks-of w.feeds w.used.lent w.used.later p q w.used.made;
    answered = w.answered;
  }

-- one group more
pub used-more : {D : Type 0} (devices : Ghosts D) (blocks : List Ptr) (callers : ℕ) (gs : List GroupLines) (last : GroupLines) (fs here : List FeedDone) (a b c : Option D) → UsedInGroups devices blocks callers gs fs a b
    → UsedAtOnce devices blocks callers last.lines here b c → UsedInGroups devices blocks callers (gs ++ last ∷ []) (fs ++ here) a c
used-more {D} devices blocks callers [] last fs here a b c done once = (
  c,
  here,
  [],
  ap (λ (l : List FeedDone). l ++ here) done.0 ∙ sym (append-nil here),
  subst (λ (x : Option D). UsedAtOnce devices blocks callers last.lines here x c) done.1 once,
  (refl, refl),
)
used-more devices blocks callers (g ∷ gs) last fs here a b c done once = (
  done.0,
  done.1,
  done.2 ++ here,
  ap (λ (l : List FeedDone). l ++ here) done.3 ∙ append_assoc done.1 done.2 here,
  done.4,
  used-more devices blocks callers gs last done.2 here done.0 b c done.5 once,
)

-- The feeder behind a group, whose lines ask for feeds alone: it has made their events, and nothing else.
pub fed-again : {C : Type 0} (cache : Cache) (openings : List (List ℕ)) (restored : List Restored) (os qs : List Op) (rs ss : List Reply) (fs gs : List FeedDone) (acts : List CacheAct) (noted : List Noted) (p q : Place (Known C)) (callers : ℕ) → length rs ≡ length os
    → AreFeedsTold cache.config os rs fs → AreFeedsTold cache.config qs ss gs → AreInGroup callers qs → length ss ≡ length qs
    → IsFed cache openings (events_by_feeder cache.config restored os rs fs) (λ shard. seen_of cache.config shard p) acts noted p → HasFedMore cache gs p q
    → IsFed cache openings (events_by_feeder cache.config restored (os ++ qs) (rs ++ ss) (fs ++ gs)) (λ shard. seen_of cache.config shard q) acts noted q
fed-again cache openings restored os qs rs ss fs gs acts noted p q callers long told more own same fed feeds = record {
  number = feeds.idle.number;
  alone = feeds.idle.alone;
  stands = feeds.idle.stands;
  knows = ap (λ a. a.openings) feeds.same.keeps.about ∙ fed.knows;
  fed = λ shard below.
      ap (λ (n : ℕ). own_events n (seen_of cache.config shard q)) feeds.idle.number
      ∙ (feeds.events shard
      ∙ ((λ i. had shard below i ++ sym (group-made cache.config shard callers qs ss gs own same (as-told cache.config qs ss gs more)) i)
      ∙ (append_assoc (restores_in cache.config restored shard) (events_of_lines cache.config shard os rs fs) (events_of_lines cache.config shard qs ss gs)
      ∙ ap (λ (l : List Event). restores_in cache.config restored shard ++ l) (sym (lines-append cache.config shard os qs rs ss fs gs long (as-told cache.config os rs fs told))))));
  since = λ shard. starts_whole (seen_of cache.config shard q);
  told = others-still cache.config acts noted p q feeds.same fed.told;
  settled = feeds.idle.settled;
}
  where
    had : (shard : ℕ) → shard < cache.config.shards → own_events cache.config.callers (seen_of cache.config shard p) ≡ events_by_feeder cache.config restored os rs fs shard
    had shard below = ap (λ (n : ℕ). own_events n (seen_of cache.config shard p)) (sym fed.number) ∙ fed.fed shard below
