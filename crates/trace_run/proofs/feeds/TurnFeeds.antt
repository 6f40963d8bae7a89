-- The feeder's party while one caller does its lines, which it joined for that time; and a feed, for which the caller joined it: what it has made then, and what it has seen.
use Rattle.std.proofs.Common.{◌≡◌, ℕ, List, [], ◌∷◌, ◌++◌, sym, ap, ◌∙◌, subst, append-nil}
use Rattle.vdev_io.specs.declared.device.CacheDev.{Ghosts}
use Rattle.arc_core.specs.declared.config.Config.{Config}
use Rattle.arc_core.specs.declared.event.Event.{Event}
use Rattle.arc_core.specs.declared.served.Restored.{Restored}
use Rattle.arc_core.specs.Operations.{moments, own_events, own_moments}
use Rattle.turn_table.specs.Places.{Place}
use Rattle.arc_table.specs.declared.view.Known.{Known}
use Rattle.arc_table.specs.declared.view.Ledger.{Ledger}
use Rattle.arc_table.specs.declared.view.Line.{Line as Seen}
use Rattle.arc_table.specs.Cache.{Cache}
use Rattle.arc_table.specs.Fronts.{StartsWith, list_at}
use Rattle.arc_table.specs.Items.{Meanings}
use Rattle.arc_table.specs.Seen.{seen_of}
use Rattle.arc_table.specs.Telling.{opening_of}
use Rattle.trace_text.specs.declared.op.Op.{Op}
use Rattle.trace_text.specs.declared.reply.Reply.{Reply}
use Rattle.trace_run.specs.declared.device.Device.{Device}
use Rattle.trace_run.specs.Devices.{WasLent, lent_in}
use Rattle.trace_run.specs.FeedEvents.{events_of_made}
use Rattle.trace_run.specs.FeedSeries.{AreMadeSoFar, SeesMore}
use Rattle.trace_run.specs.Feeds.{AreFedReplies, FeedDone, IsIdleFeeder, MadeFeedsOf}
use Rattle.trace_run.specs.Meeting.{HasParted, MadeJoined}
use Rattle.trace_run.proofs.DeviceLemmas.{lent-same}
use Rattle.trace_run.proofs.callers.MeetLemmas.{same-own-events, starts-then}
use Rattle.trace_run.proofs.feeds.FedLemmas.{HasFedMore, made-events}
use Rattle.trace_run.proofs.feeds.FeedLemmas.{made-none}
use Rattle.trace_run.proofs.feeds.SeriesLemmas.{group-so-far, moved-so-far, one-so-far, sees-by, sees-same}

module _ {C D : Type 0} (m : Meanings C) (devices : Ghosts D) (cache : Cache) where
  abbrev g : Config
  g = cache.config

  -- ---- it had joined the caller

  module _ (lines : ℕ → List Seen) (p q : Place (Known C)) (idle : IsIdleFeeder cache p) (parted : HasParted cache lines p q) where
    still-own : (shard : ℕ) → own_events g.callers (seen_of g shard q) ≡ own_events g.callers (seen_of g shard p) ++ []
    still-own shard =
        same-own-events g g.callers (seen_of g shard p) (seen_of g shard q)
        (subst (λ (n : ℕ). own_moments n (moments (opening_of g) (seen_of g shard q)) ≡ own_moments n (moments (opening_of g) (seen_of g shard p))) idle.number (parted.own shard))
        ∙ sym (append-nil (own_events g.callers (seen_of g shard p)))

    -- it has made nothing
    pub parted-more : HasFedMore cache [] p q
    parted-more = record {
      idle = record {
        number = parted.number ∙ idle.number;
        alone = parted.alone;
        stands = parted.stands [] idle.stands;
        settled = λ i. ap (λ (l : Ledger). list_at i l.picked) parted.ledger ∙ idle.settled i;
      };
      same = parted.same [] idle.stands;
      events = still-own;
      starts = parted.starts;
    }

    pub parted-so-far : (restored : List Restored) (fs : List FeedDone) (a b c : Device D) → WasLent devices b c → AreMadeSoFar m devices cache restored fs a b p → AreMadeSoFar m devices cache restored (fs ++ []) a c q
    parted-so-far restored fs a b c lent so_far =
        moved-so-far m devices cache restored (fs ++ []) a c p q
        (group-so-far m devices cache restored fs [] a b c p p idle.stands so_far (record { lent = c; later = c; gave = lent; made = made-none m devices cache c p; took = lent-same devices c }))
        (λ shard below. sees-by g (seen_of g shard p) (seen_of g shard q) [] (parted.starts shard) (still-own shard) tt)

  -- ---- the caller had joined it

  module _ (fs : List FeedDone) (a b : Device D) (p q joined worked : Place (Known C)) (olds news : List (Place (Known C))) (number : p.number ≡ g.callers) (made : MadeFeedsOf m devices cache fs a b joined worked)
      (met : MadeJoined cache (λ shard. events_of_made g shard fs) p olds q news) (before : (shard : ℕ) → seen_of g shard joined ≡ met.front shard) (behind : (shard : ℕ) → seen_of g shard worked ≡ seen_of g shard q) where
    front-own : (shard : ℕ) → own_events g.callers (met.front shard) ≡ own_events g.callers (seen_of g shard p)
    front-own shard = same-own-events g g.callers (seen_of g shard p) (met.front shard)
        (subst (λ (n : ℕ). own_moments n (moments (opening_of g) (met.front shard)) ≡ own_moments n (moments (opening_of g) (seen_of g shard p))) number (met.own shard))

    front-starts : (shard : ℕ) → StartsWith (seen_of g shard q) (met.front shard)
    front-starts shard = (events_of_made g shard fs, met.seen shard)

    pub joined-more : IsIdleFeeder cache q → HasFedMore cache fs p q
    joined-more again = record {
      idle = again;
      same = met.made;
      events = λ shard.
          ap (own_events g.callers) (sym (behind shard))
          ∙ (made-events m devices cache fs a b joined worked made shard ∙ ap (λ (es : List Event). es ++ events_of_made g shard fs) (ap (own_events g.callers) (before shard) ∙ front-own shard));
      starts = λ shard. starts-then (seen_of g shard q) (met.front shard) (seen_of g shard p) (front-starts shard) (met.since shard);
    }

    sees-joined : (shard : ℕ) → SeesMore g (seen_of g shard p) (seen_of g shard joined)
    sees-joined shard = subst (SeesMore g (seen_of g shard p)) (sym (before shard))
        (sees-by g (seen_of g shard p) (met.front shard) [] (met.since shard) (front-own shard ∙ sym (append-nil (own_events g.callers (seen_of g shard p)))) tt)

    starts-worked : (shard : ℕ) → StartsWith (seen_of g shard worked) (seen_of g shard joined)
    starts-worked shard = subst (λ (x : List Event × List Event). StartsWith x.0 x.1) (λ i. (sym (behind shard) i, sym (before shard) i)) (front-starts shard)

    pub joined-so-far : (restored : List Restored) (gs : List FeedDone) (x : Device D) (line : Op) (rs : List Reply) → AreFedReplies (lent_in a) (line ∷ []) fs rs → AreMadeSoFar m devices cache restored gs x a p → AreMadeSoFar m devices cache restored (gs ++ fs) x b q
    joined-so-far restored gs x line rs answered so_far =
        moved-so-far m devices cache restored (gs ++ fs) x b worked q
        (one-so-far m devices cache restored gs fs x a b joined worked line rs answered (λ shard below. starts-worked shard) made
        (moved-so-far m devices cache restored gs x a p joined so_far (λ shard below. sees-joined shard)))
        (λ shard below. subst (SeesMore g (seen_of g shard worked)) (behind shard) (sees-same g (seen_of g shard worked)))
