-- A line `feed` that the feeder does while all others have joined it: what it made of the shards, and what all have seen behind it.
use Rattle.std.proofs.Common.{◌≡◌, ℕ, ◌<◌, ◌==◌, List, [], ◌∷◌, ◌++◌, map, refl, sym, ap, ◌∙◌, subst, inl, inr, append-nil, append_assoc}
use Rattle.std.specs.Prelude.{◌⊎◌}
use Rattle.std.specs.List.{AllByRecursion}
use Rattle.arc_lists.proofs.Tables.{cases_true}
use Rattle.blk_ptr.specs.declared.key.Key.{Key}
use Rattle.vdev_io.specs.declared.device.CacheDev.{Ghosts}
use Rattle.arc_core.specs.declared.config.Config.{Config}
use Rattle.arc_core.specs.declared.event.Event.{Event}
use Rattle.arc_core.specs.declared.event.Event.TheVariants.{FeedEnd, Pick}
use Rattle.arc_core.specs.Operations.{number_of}
use Rattle.turn_table.specs.declared.standing.Kept.{Kept}
use Rattle.turn_table.specs.Places.{IsIn, Place}
use Rattle.arc_table.specs.declared.picks.Picked.{Picked as Block}
use Rattle.arc_table.specs.declared.view.Known.{Known}
use Rattle.arc_table.specs.declared.view.Ledger.{Ledger}
use Rattle.arc_table.specs.Cache.{Cache}
use Rattle.arc_table.specs.Fronts.{list_at}
use Rattle.arc_table.specs.Items.{Meanings}
use Rattle.arc_table.specs.Seen.{HasAll, seen_of}
use Rattle.arc_table.proofs.Afterwards.{Stays}
use Rattle.l2_dev.specs.Cursor.{CursorState}
use Rattle.l2_feed.specs.Acts.{Absent, Act, Cleared, Left, Picked, Placed, Refused, Unpicked}
use Rattle.l2_feed.specs.Alone.{events_at}
use Rattle.l2_feed.specs.Told.{events_of, shard_of_act}
use Rattle.trace_text.specs.declared.op.Op.TheVariants.{Feed}
use Rattle.trace_text.specs.declared.reply.Reply.{Reply}
use Rattle.trace_run.specs.declared.device.Device.{Device}
use Rattle.trace_run.specs.declared.device.Device.TheVariants as device
use Rattle.trace_run.specs.FeedEvents.{FedJoined, events_of_made}
use Rattle.trace_run.specs.Feeds.{DoesFeeds, FeedDone, IsIdleFeeder, IsSettledFeeder, MadeFeeds, MadeFeedsOf}
use Rattle.trace_run.specs.KeptBlocks.{Stands}
use Rattle.trace_run.specs.Meeting.{AreLast, JoinAll, MayGoOn, PartAll}
use Rattle.trace_run.proofs.ResizeLemmas.{HasMade, last-of, left, left-front, parted, q-all, q-stands}
use Rattle.trace_run.proofs.callers.MeetLemmas.{HaveJoined}
use Rattle.trace_run.proofs.callers.TurnLemmas.{joined}
use Rattle.trace_run.proofs.feeds.FedLemmas.{made-still}
use Rattle.trace_run.proofs.feeds.FeedStands.{acts-still}
use Rattle.trace_run.proofs.one_caller.TellLemmas.{all-append}

-- ---- the events of feeds have the feeder's number

picks-mine : (n : ℕ) (keys : List Key) → AllByRecursion (λ e. number_of e ≡ n) (map (Pick n) keys)
picks-mine n [] = tt
picks-mine n (k ∷ keys) = (refl, picks-mine n keys)

act-mine : (n : ℕ) (act : Act) → AllByRecursion (λ e. number_of e ≡ n) (events_of n act)
act-mine n (Picked shard blocks) = all-append (λ e. number_of e ≡ n) (map (Pick n) (map (λ (b : Block). b.key) blocks)) (FeedEnd n ∷ []) (picks-mine n (map (λ (b : Block). b.key) blocks)) (refl, tt)
act-mine n (Unpicked shard) = tt
act-mine n (Cleared k place) = (refl, tt)
act-mine n (Absent k place) = tt
act-mine n (Refused k place) = tt
act-mine n (Placed k place) = (refl, tt)
act-mine n (Left k why) = (refl, tt)

acts-mine : (g : Config) (n shard : ℕ) (acts : List Act) → AllByRecursion (λ e. number_of e ≡ n) (events_at g n shard acts)
acts-mine g n shard [] = tt
acts-mine g n shard (act ∷ acts) = elim (cases_true (shard_of_act g act == shard)) [
  | inl here ↦ rw here (all-append (λ e. number_of e ≡ n) (events_of n act) (events_at g n shard acts) (act-mine n act) (acts-mine g n shard acts))
  | inr out ↦ rw out (acts-mine g n shard acts)
]

made-mine : (g : Config) (shard : ℕ) (feeds : List FeedDone) → AllByRecursion (λ e. number_of e ≡ g.callers) (events_of_made g shard feeds)
made-mine g shard [] = tt
made-mine g shard (feed ∷ feeds) = all-append (λ e. number_of e ≡ g.callers) (events_at g g.callers shard feed.acts) (events_of_made g shard feeds) (acts-mine g g.callers shard feed.acts) (made-mine g shard feeds)

-- ---- a feeder that has every number has seen just these events more

-- a party that is still what it was has all numbers that it had
all-still : {C : Type 0} (p q : Place (Known C)) → Stays p q → HasAll p → HasAll q
all-still {C} p q stays all n below =
    subst (λ (x : ℕ × List (Kept (Known C))). (x.0 ≡ n) ⊎ IsIn n x.1) (λ i. (sym stays.number i, sym stays.joined i)) (all n (subst (λ (k : ℕ). n < k) stays.parties below))

module _ {C D : Type 0} (m : Meanings C) (devices : Ghosts D) (cache : Cache) where
  abbrev g : Config
  g = cache.config

  feeds-seen : (fs : List FeedDone) (was now : D) (old new : CursorState) (p q : Place (Known C)) → Stands cache p [] → p.number ≡ g.callers → HasAll p → MadeFeeds m devices cache fs was now old new p q
      → (shard : ℕ) → seen_of g shard q ≡ seen_of g shard p ++ events_of_made g shard fs
  feeds-seen [] was now old new p q stands number all made shard = ap (λ (x : Place (Known C)). seen_of g shard x) made.2 ∙ sym (append-nil (seen_of g shard p))
  feeds-seen (f ∷ fs) was now old new p q stands number all made shard =
      let r : Place (Known C) = made.1 in
      let one = made.3 in
      let still = acts-still m cache one.made.fed.acts p r stands one.made.fed.did in
      let first : seen_of g shard r ≡ seen_of g shard p ++ events_at g g.callers shard f.acts = (one.made.fed.alone all).seen shard ∙ (λ i. seen_of g shard p ++ events_at g (number i) shard (one.acts i)) in
      feeds-seen fs made.0 now f.after new r q still.stands (still.left.stays.number ∙ number) (all-still p r still.left.stays all) made.4 shard
      ∙ (ap (λ (l : List Event). l ++ events_of_made g shard fs) first ∙ append_assoc (seen_of g shard p) (events_at g g.callers shard f.acts) (events_of_made g shard fs))

  none-seen : (fs : List FeedDone) (p q : Place (Known C)) → fs ≡ [] → q ≡ p → (shard : ℕ) → seen_of g shard q ≡ seen_of g shard p ++ events_of_made g shard fs
  none-seen fs p q none is shard =
      ap (λ (x : Place (Known C)). seen_of g shard x) is ∙ (sym (append-nil (seen_of g shard p)) ∙ ap (λ (l : List FeedDone). seen_of g shard p ++ events_of_made g shard l) (sym none))

  made-seen : (fs : List FeedDone) (a b : Device D) (p q : Place (Known C)) → Stands cache p [] → p.number ≡ g.callers → HasAll p → MadeFeedsOf m devices cache fs a b p q → (shard : ℕ) → seen_of g shard q ≡ seen_of g shard p ++ events_of_made g shard fs
  made-seen fs device.None device.None p q stands number all made = none-seen fs p q made.0 made.1
  made-seen fs (device.Short a) (device.Short b) p q stands number all made = none-seen fs p q made.0 made.2
  made-seen fs (device.Ready a) (device.Ready b) p q stands number all made = feeds-seen fs a.dev b.dev a.cursor b.cursor p q stands number all made.1
  made-seen fs device.None (device.Short b) p q stands number all made = absurd made
  made-seen fs device.None (device.Ready b) p q stands number all made = absurd made
  made-seen fs (device.Short a) device.None p q stands number all made = absurd made
  made-seen fs (device.Short a) (device.Ready b) p q stands number all made = absurd made
  made-seen fs (device.Ready a) device.None p q stands number all made = absurd made
  made-seen fs (device.Ready a) (device.Short b) p q stands number all made = absurd made

  feeds-made : (fs : List FeedDone) (a b : Device D) (p q : Place (Known C)) → IsSettledFeeder cache p → IsSettledFeeder cache q → HasAll p → MadeFeedsOf m devices cache fs a b p q → HasMade cache (λ shard. events_of_made g shard fs) p q
  feeds-made fs a b p q before after all made =
      let still = made-still m devices cache fs a b p q before.stands made in
      record {
        stays = still.left.stays;
        stands = still.stands;
        all = all-still p q still.left.stays all;
        seen = made-seen fs a b p q before.stands before.number all made;
        starts = still.starts;
        left = still.left;
        made = still.same;
        picks = λ feeder i. after.settled i ∙ sym (before.settled i);
      }

  -- ---- the whole step

  module _ (p : Place (Known C)) (others : List (Place (Known C))) (may : MayGoOn cache [] p others) (idle : IsIdleFeeder cache p) (q : Place (Known C)) (joins : JoinAll m others p q) where
    have : HaveJoined m cache p others q
    have = joined m cache p [] others may.stands may.alone may.apart may.everyone may.count may.differ q joins

    has-all : HasAll q
    has-all = q-all m cache p others may.stands may.alone may.apart may.everyone may.count may.differ q joins

    pub joined-settled : IsSettledFeeder cache q
    joined-settled = record {
      number = have.number ∙ idle.number;
      stands = q-stands m cache p others may.stands may.alone may.apart may.everyone may.count may.differ q joins;
      settled = λ i. ap (λ (l : Ledger). list_at i l.picked) have.ledger ∙ idle.settled i;
    }

    module _ (reply : Reply) (a b : Device D) (r : Place (Known C)) (after : IsSettledFeeder cache r) (fed : DoesFeeds m devices cache (Feed ∷ []) (reply ∷ []) a b q r) where
      abbrev more : (shard : ℕ) → List Event
      more shard = events_of_made g shard fed.feeds

      has-made : HasMade cache more q r
      has-made = feeds-made fed.feeds a b q r joined-settled after has-all fed.made

      more-mine : (shard : ℕ) → AllByRecursion (λ e. number_of e ≡ p.number) (more shard)
      more-mine shard = subst (λ (n : ℕ). AllByRecursion (λ e. number_of e ≡ n) (more shard)) (sym idle.number) (made-mine g shard fed.feeds)

      pub fed-last : (numbers : List ℕ) → numbers ≡ map (λ o. o.number) others → AreLast numbers r.joined
      fed-last = last-of m cache p others may.stands may.alone may.apart may.everyone may.count may.differ q joins more r has-made more-mine

      pub fed-joined : (numbers : List ℕ) → numbers ≡ map (λ o. o.number) others → (xs : List (Place (Known C))) (z : Place (Known C)) → PartAll numbers r xs z → FedJoined m devices cache reply a b p others z xs
      fed-joined numbers are xs z parts =
          let apart = parted m cache p others may.stands may.alone may.apart may.everyone may.count may.differ q joins more r has-made more-mine numbers are xs z parts in
          subst (λ (x : Place (Known C) × List (Place (Known C))). FedJoined m devices cache reply a b p others x.0 x.1) (λ i. (sym apart.1 i, sym apart.0 i)) (record {
            joined = q;
            worked = r;
            number = have.number ∙ idle.number;
            all = has-all;
            fed = fed;
            made = left m cache p others may.stands may.alone may.apart may.everyone may.count may.differ q joins more r has-made more-mine numbers are xs z parts;
            met = left-front m cache p others may.stands may.alone may.apart may.everyone may.count may.differ q joins more r has-made more-mine numbers are xs z parts;
            parted = λ shard. refl;
          })
