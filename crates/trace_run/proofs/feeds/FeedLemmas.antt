-- The lines `feed`, one after another: what they are answered, and what was done for them.
use Rattle.std.proofs.Common.{◌≡◌, ◌<◌, ◌≤◌, ◌+◌, ℕ, true, false, List, [], ◌∷◌, ◌++◌, Option, Some, None, length, take, drop, refl, sym, ap, ◌∙◌, subst, arith, append-nil, length-append}
use Rattle.std.specs.Prelude.{filter, slice_get}
use Rattle.std.proofs.lemmas.Bool.{false≢true}
use Rattle.std.proofs.lemmas.List.{length-map, map-append, take-append-drop}
use Rattle.std.proofs.lemmas.List.Elements.{filter-append}
use Rattle.vdev_io.specs.declared.device.CacheDev.{Ghosts}
use Rattle.vdev_io.specs.Faults.{Rose}
use Rattle.turn_table.specs.Places.{Place}
use Rattle.arc_table.specs.declared.view.Known.{Known}
use Rattle.arc_table.specs.Cache.{Cache}
use Rattle.arc_table.specs.Items.{Meanings}
use Rattle.l2_ring.specs.Ring.{last_lap}
use Rattle.l2_dev.specs.declared.report.FeedReport.{FeedReport}
use Rattle.l2_dev.specs.declared.report.FeedStop.TheVariants as stop
use Rattle.l2_dev.specs.Cursor.{CursorState}
use Rattle.l2_dev.specs.declared.device.L2Dev.{L2Dev}
use Rattle.l2_feed.specs.Crashes.{FeedKeeps}
use Rattle.l2_feed.specs.Fed.{HasFed}
use Rattle.l2_feed.specs.Ready.{IsFeederReady}
use Rattle.trace_text.specs.declared.op.Op.{Op}
use Rattle.trace_text.specs.declared.op.Op.TheVariants as ops
use Rattle.trace_text.specs.declared.reply.Reply.{Reply}
use Rattle.trace_text.specs.declared.reply.Reply.TheVariants.{Fed, FedNone}
use Rattle.trace_run.specs.declared.device.Device.{Device}
use Rattle.trace_run.specs.declared.device.Device.TheVariants as device
use Rattle.trace_run.specs.Devices.{lent_in}
use Rattle.trace_run.specs.Feeds.{AreFedReplies, DoesFeeds, FeedDone, IsIdleFeeder, IsSettledFeeder, MadeFeeds, MadeFeedsOf, TriesFeeds, is_feed}
use Rattle.trace_run.proofs.AnswerLemmas.{take_one}
use Rattle.trace_run.proofs.feeds.FeedStands.{acts-still, settled-ready}

-- ---- the lines among others

pub feed-is : (op : Op) → is_feed op ≡ true → op ≡ ops.Feed
feed-is (ops.Read n t x window) is = absurd (false≢true is)
feed-is (ops.Hold n t x) is = absurd (false≢true is)
feed-is (ops.Drop n x) is = absurd (false≢true is)
feed-is (ops.Get n t at window) is = absurd (false≢true is)
feed-is (ops.Put n t at size fill) is = absurd (false≢true is)
feed-is (ops.Patch n t at from bytes) is = absurd (false≢true is)
feed-is (ops.Pin n t at) is = absurd (false≢true is)
feed-is (ops.Unpin n at) is = absurd (false≢true is)
feed-is ops.Feed is = refl
feed-is (ops.Txg t) is = absurd (false≢true is)
feed-is (ops.Cap c) is = absurd (false≢true is)

module _ (os : List Op) (k : ℕ) (op : Op) (at : slice_get os k ≡ Some op) where
  -- one line more
  pub lines-more : is_feed op ≡ true → filter is_feed (take (k + 1) os) ≡ filter is_feed (take k os) ++ ops.Feed ∷ []
  lines-more is = ap (filter is_feed) (take_one os k op at) ∙ (filter-append is_feed (take k os) (op ∷ []) ∙ ap (λ (l : List Op). filter is_feed (take k os) ++ l) (rw is (ap (λ (o : Op). o ∷ []) (feed-is op is))))

  pub few-lines : length (filter is_feed (take (k + 1) os)) ≤ length (filter is_feed os)
  few-lines =
      let whole = ap (λ (l : List Op). length (filter is_feed l)) (sym (take-append-drop (k + 1) os)) ∙ ap length (filter-append is_feed (take (k + 1) os) (drop (k + 1) os)) in
      omega (arith, whole, length-append (filter is_feed (take (k + 1) os)) (filter is_feed (drop (k + 1) os)))

  pub lines-same : is_feed op ≡ false → filter is_feed (take (k + 1) os) ≡ filter is_feed (take k os)
  lines-same is = ap (filter is_feed) (take_one os k op at) ∙ (filter-append is_feed (take k os) (op ∷ []) ∙ rw is (append-nil (filter is_feed (take k os))))

-- ---- what was done

no-two : {X : Type 0} (xs ys : List X) → xs ++ ys ≡ [] → (xs ≡ []) × (ys ≡ [])
no-two [] ys none = (refl, none)
no-two (x ∷ xs) ys none = cc

module _ {C D : Type 0} (m : Meanings C) (devices : Ghosts D) (cache : Cache) where
  made-then : (fs gs : List FeedDone) (was mid now : D) (old between new : CursorState) (p q r : Place (Known C)) → MadeFeeds m devices cache fs was mid old between p q → MadeFeeds m devices cache gs mid now between new q r
      → MadeFeeds m devices cache (fs ++ gs) was now old new p r
  made-then [] gs was mid now old between new p q r first rest =
      subst (λ (x : D × CursorState × Place (Known C)). MadeFeeds m devices cache gs x.0 now x.1 new x.2 r) (λ i. (first.0 i, first.1 i, first.2 i)) rest
  made-then (f ∷ fs) gs was mid now old between new p q r first rest = (first.0, first.1, first.2, first.3, made-then fs gs first.0 mid now f.after between new first.1 q r first.4 rest)

  pub made-of-then : (fs gs : List FeedDone) (a b c : Device D) (p q r : Place (Known C)) → MadeFeedsOf m devices cache fs a b p q → MadeFeedsOf m devices cache gs b c q r → MadeFeedsOf m devices cache (fs ++ gs) a c p r
  made-of-then fs gs device.None device.None device.None p q r first rest = ((λ i. first.0 i ++ rest.0 i), rest.1 ∙ first.1)
  made-of-then fs gs (device.Short a) (device.Short b) (device.Short c) p q r first rest = ((λ i. first.0 i ++ rest.0 i), rest.1 ∙ first.1, rest.2 ∙ first.2)
  made-of-then fs gs (device.Ready a) (device.Ready b) (device.Ready c) p q r first rest = ((λ none. let both = no-two fs gs none in rest.0 both.1 ∙ first.0 both.0), made-then fs gs a.dev b.dev c.dev a.cursor b.cursor c.cursor p q r first.1 rest.1)
  made-of-then fs gs device.None (device.Short b) c p q r first rest = absurd first
  made-of-then fs gs device.None (device.Ready b) c p q r first rest = absurd first
  made-of-then fs gs (device.Short a) device.None c p q r first rest = absurd first
  made-of-then fs gs (device.Short a) (device.Ready b) c p q r first rest = absurd first
  made-of-then fs gs (device.Ready a) device.None c p q r first rest = absurd first
  made-of-then fs gs (device.Ready a) (device.Short b) c p q r first rest = absurd first
  made-of-then fs gs device.None device.None (device.Short c) p q r first rest = absurd rest
  made-of-then fs gs device.None device.None (device.Ready c) p q r first rest = absurd rest
  made-of-then fs gs (device.Short a) (device.Short b) device.None p q r first rest = absurd rest
  made-of-then fs gs (device.Short a) (device.Short b) (device.Ready c) p q r first rest = absurd rest
  made-of-then fs gs (device.Ready a) (device.Ready b) device.None p q r first rest = absurd rest
  made-of-then fs gs (device.Ready a) (device.Ready b) (device.Short c) p q r first rest = absurd rest

  -- no feed
  pub made-none : (a : Device D) (p : Place (Known C)) → MadeFeedsOf m devices cache [] a a p p
  made-none device.None p = (refl, refl)
  made-none (device.Short a) p = (refl, refl, refl)
  made-none (device.Ready a) p = ((λ none. refl), (refl, refl, refl))

  -- a device stays one that was started, or none
  pub still-lent : (fs : List FeedDone) (a b : Device D) (p q : Place (Known C)) → MadeFeedsOf m devices cache fs a b p q → (lines : List Op) (feeds : List FeedDone) (replies : List Reply) → AreFedReplies (lent_in b) lines feeds replies → AreFedReplies (lent_in a) lines feeds replies
  still-lent fs device.None device.None p q made lines feeds replies so = so
  still-lent fs (device.Short a) (device.Short b) p q made lines feeds replies so = so
  still-lent fs (device.Ready a) (device.Ready b) p q made lines feeds replies so = so
  still-lent fs device.None (device.Short b) p q made lines feeds replies so = absurd made
  still-lent fs device.None (device.Ready b) p q made lines feeds replies so = absurd made
  still-lent fs (device.Short a) device.None p q made lines feeds replies so = absurd made
  still-lent fs (device.Short a) (device.Ready b) p q made lines feeds replies so = absurd made
  still-lent fs (device.Ready a) device.None p q made lines feeds replies so = absurd made
  still-lent fs (device.Ready a) (device.Short b) p q made lines feeds replies so = absurd made

-- ---- what is answered

pub none-answered : {D : Type 0} (o : Option D) → AreFedReplies o [] [] []
none-answered None = (refl, refl)
none-answered (Some d) = (refl, refl)

pub answered-then : {D : Type 0} (o : Option D) (ls ms : List Op) (fs gs : List FeedDone) (rs ss : List Reply) → AreFedReplies o ls fs rs → AreFedReplies o ms gs ss → AreFedReplies o (ls ++ ms) (fs ++ gs) (rs ++ ss)
answered-then None ls ms fs gs rs ss first rest = (
  (λ i. first.0 i ++ rest.0 i),
  (λ i. first.1 i ++ rest.1 i) ∙ sym (map-append (λ line. FedNone) ls ms),
)
answered-then (Some d) ls ms fs gs rs ss first rest = (
  omega (arith, length-append fs gs, length-append ls ms, first.0, rest.0),
  (λ i. first.1 i ++ rest.1 i) ∙ sym (map-append (λ (feed : FeedDone). Fed feed.report) fs gs),
)

-- there are no more feeds than lines that ask for one
pub few-fed : {D : Type 0} (o : Option D) (ls : List Op) (fs : List FeedDone) (rs : List Reply) → AreFedReplies o ls fs rs → length fs ≤ length ls
few-fed None ls fs rs so = omega (arith, ap length so.0)
few-fed (Some d) ls fs rs so = omega (arith, so.0)

-- there is a reply to each line
pub as-many : {D : Type 0} (o : Option D) (ls : List Op) (fs : List FeedDone) (rs : List Reply) → AreFedReplies o ls fs rs → length rs ≡ length ls
as-many None ls fs rs so = ap length so.1 ∙ length-map ls (λ line. FedNone)
as-many (Some d) ls fs rs so = ap length so.1 ∙ (length-map fs (λ (feed : FeedDone). Fed feed.report) ∙ so.0)

-- ---- the feeder between its lines

module _ {C : Type 0} (cache : Cache) (p : Place (Known C)) where
  pub idle-settled : IsIdleFeeder cache p → IsSettledFeeder cache p
  idle-settled idle = record { number = idle.number; stands = idle.stands; settled = idle.settled }

  pub settled-idle : IsSettledFeeder cache p → p.joined ≡ [] → IsIdleFeeder cache p
  settled-idle settled alone = record { number = settled.number; alone = alone; stands = settled.stands; settled = settled.settled }

-- ---- one line

module _ {C D : Type 0} (m : Meanings C) (devices : Ghosts D) (cache : Cache) (was now : D) (old new : CursorState) (p q : Place (Known C)) (report : FeedReport) (settled : IsSettledFeeder cache p) (fed : HasFed m cache.config devices was now old new p q report) where
  -- the feeder has settled all again
  pub settled-again : IsFeederReady cache q → IsSettledFeeder cache q
  settled-again ready =
      let still = acts-still m cache fed.acts p q settled.stands fed.did in
      record {
        number = still.left.stays.number ∙ settled.number;
        stands = still.stands;
        settled = ready.settled;
      }

  abbrev pub this-feed : FeedDone
  this-feed = record { acts = fed.acts; calls = fed.calls; before = old; after = new; report = report }

  pub one-made : (new.ring.lap < last_lap → FeedKeeps devices.told devices.has_sectors devices.may_leave was now old new report.end) → devices.faults was ≤ devices.faults now → (report.end ≡ stop.DevFault → Rose (devices.faults was) (devices.faults now))
      → MadeFeeds m devices cache (this-feed ∷ []) was now old new p q
  one-made crash faults cause = (now, q, refl, record { made = record { ready = settled-ready cache p settled; fed = fed; crash = crash; faults = faults; cause = cause }; acts = refl; calls = refl }, (refl, refl, refl))

pub one-done : {C D : Type 0} (m : Meanings C) (devices : Ghosts D) (cache : Cache) (old new : L2Dev D) (p q : Place (Known C)) (report : FeedReport) → IsSettledFeeder cache p → HasFed m cache.config devices old.dev new.dev old.cursor new.cursor p q report
    → (new.cursor.ring.lap < last_lap → FeedKeeps devices.told devices.has_sectors devices.may_leave old.dev new.dev old.cursor new.cursor report.end) → devices.faults old.dev ≤ devices.faults new.dev
    → (report.end ≡ stop.DevFault → Rose (devices.faults old.dev) (devices.faults new.dev)) → DoesFeeds m devices cache (ops.Feed ∷ []) (Fed report ∷ []) (device.Ready old) (device.Ready new) p q
one-done m devices cache old new p q report settled fed crash faults cause = record {
  feeds = this-feed m devices cache old.dev new.dev old.cursor new.cursor p q report settled fed ∷ [];
  answered = (refl, refl);
  made = ((λ none. cc), one-made m devices cache old.dev new.dev old.cursor new.cursor p q report settled fed crash faults cause);
}

-- ---- lines, one after another

module _ {C D : Type 0} (m : Meanings C) (devices : Ghosts D) (cache : Cache) where
  pub none-done : (a : Device D) (p : Place (Known C)) → DoesFeeds m devices cache [] [] a a p p
  none-done a p = record { feeds = []; answered = none-answered (lent_in a); made = made-none m devices cache a p }

  pub done-then : (ls ms : List Op) (rs ss : List Reply) (a b c : Device D) (p q r : Place (Known C)) → DoesFeeds m devices cache ls rs a b p q → DoesFeeds m devices cache ms ss b c q r → DoesFeeds m devices cache (ls ++ ms) (rs ++ ss) a c p r
  done-then ls ms rs ss a b c p q r first rest = record {
    feeds = first.feeds ++ rest.feeds;
    answered = answered-then (lent_in a) ls ms first.feeds rest.feeds rs ss first.answered (still-lent m devices cache first.feeds a b p q first.made ms rest.feeds ss rest.answered);
    made = made-of-then m devices cache first.feeds rest.feeds a b c p q r first.made rest.made;
  }

  pub done-tried : (ls ms : List Op) (rs : List Reply) (a b : Device D) (p q : Place (Known C)) → length ls ≤ length ms → DoesFeeds m devices cache ls rs a b p q → TriesFeeds m devices cache ms a b p q
  done-tried ls ms rs a b p q fewer d = record { feeds = d.feeds; few = omega (arith, fewer, few-fed (lent_in a) ls d.feeds rs d.answered); made = d.made }

  -- one line more
  module _ (os : List Op) (k : ℕ) (op : Op) (at : slice_get os k ≡ Some op) (replies more : List Reply) (reply : Reply) (a b c : Device D) (p q r : Place (Known C)) (done : DoesFeeds m devices cache (filter is_feed (take k os)) replies a b p q) where
    pub done-more : is_feed op ≡ true → DoesFeeds m devices cache (ops.Feed ∷ []) (reply ∷ []) b c q r → more ≡ replies ++ reply ∷ [] → DoesFeeds m devices cache (filter is_feed (take (k + 1) os)) more a c p r
    done-more asks one pushed =
        subst (λ (x : List Op × List Reply). DoesFeeds m devices cache x.0 x.1 a c p r) (λ i. (sym (lines-more os k op at asks) i, sym pushed i))
        (done-then (filter is_feed (take k os)) (ops.Feed ∷ []) replies (reply ∷ []) a b c p q r done one)

    pub done-same : is_feed op ≡ false → DoesFeeds m devices cache (filter is_feed (take (k + 1) os)) replies a b p q
    done-same other = subst (λ (l : List Op). DoesFeeds m devices cache l replies a b p q) (sym (lines-same os k op at other)) done
