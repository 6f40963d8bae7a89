-- The feeder beside the callers: what was tried, and what was done, from what each call says.
use Rattle.std.proofs.Common.{◌≡◌, ℕ, false, List, [], ◌∷◌, refl, sym, ◌∙◌, subst, inl, inr, arith}
use Rattle.std.specs.Prelude.{filter}
use Rattle.std.specs.List.{list_any}
use Rattle.std.proofs.lemmas.Bool.{false≢true}
use Rattle.arc_lists.proofs.Tables.{cases_true}
use Rattle.blk_ptr.specs.declared.ptr.Ptr.{Ptr}
use Rattle.vdev_io.specs.declared.device.CacheDev.{Ghosts}
use Rattle.arc_core.specs.declared.config.Config.{Config}
use Rattle.arc_core.specs.Operations.{Act}
use Rattle.arc_core.specs.declared.event.Event.{Event}
use Rattle.l2_dev.specs.Cursor.{CursorState}
use Rattle.turn_table.specs.Places.{Place}
use Rattle.arc_table.specs.declared.view.Known.{Known}
use Rattle.arc_table.specs.Cache.{Cache}
use Rattle.arc_table.specs.Items.{Meanings}
use Rattle.l2_feed.specs.Ready.{IsDeviceReady}
use Rattle.trace_text.specs.declared.op.Op.{Op}
use Rattle.trace_text.specs.declared.reply.Reply.{Reply}
use Rattle.trace_run.specs.declared.device.Device.{Device}
use Rattle.trace_run.specs.declared.device.Device.TheVariants as device
use Rattle.trace_run.specs.Deeds.{Noted}
use Rattle.trace_run.specs.Devices.{WasLent, lent_in}
use Rattle.trace_run.specs.Feeds.{AreFedReplies, DoesFeeds, FeedDone, IsIdleFeeder, MayBeFed, TriesFeeds, is_feed}
use Rattle.trace_run.specs.Meeting.{IsFed}
use Rattle.trace_run.specs.callers.Beside.{TriesBeside, WorksBeside}
use Rattle.trace_run.specs.callers.DeviceForks.{HaveRead}
use Rattle.trace_run.specs.dbufs.Objects.{Line}
use Rattle.trace_run.proofs.DeviceLemmas.{lent-same}
use Rattle.trace_run.proofs.feeds.FeedLemmas.{made-none, none-done}

-- lines of which none is found to ask for a feed ask for none
pub none-found : (os : List Op) → list_any is_feed os ≡ false → filter is_feed os ≡ []
none-found [] none = refl
none-found (o ∷ os) none = elim (cases_true (is_feed o)) [
  | inl asks ↦ absurd (false≢true (sym none ∙ rw asks refl))
  | inr other ↦ rw other (none-found os (rw other at none))
]

-- ---- the device

module _ {D : Type 0} (devices : Ghosts D) (g : Config) where
  -- one that was lent may be fed still
  pub lent-fed : (a b : Device D) → WasLent devices a b → MayBeFed devices g a → MayBeFed devices g b
  lent-fed device.None device.None lent may = tt
  lent-fed device.None (device.Short b) lent may = absurd lent
  lent-fed device.None (device.Ready b) lent may = absurd lent
  lent-fed (device.Short a) device.None lent may = absurd lent
  lent-fed (device.Short a) (device.Short b) lent may = tt
  lent-fed (device.Short a) (device.Ready b) lent may = absurd lent
  lent-fed (device.Ready a) device.None lent may = absurd lent
  lent-fed (device.Ready a) (device.Short b) lent may = absurd lent
  lent-fed (device.Ready a) (device.Ready b) lent may = subst (λ (x : ℕ × CursorState). IsDeviceReady g x.0 x.1) (λ i. (sym lent.2.size i, sym lent.0 i)) may

-- the feeder between groups may do its lines
pub fed-idle : {C : Type 0} (cache : Cache) (openings : List (List ℕ)) (feeds begun : (shard : ℕ) → List Event) (acts : List Act) (noted : List Noted) (p : Place (Known C)) → IsFed cache openings feeds begun acts noted p → IsIdleFeeder cache p
fed-idle cache openings feeds begun acts noted p fed = record { number = fed.number; alone = fed.alone; stands = fed.stands; settled = fed.settled }

-- ---- callers and feeder at once

module _ {C D : Type 0} (m : Meanings C) (devices : Ghosts D) (cache : Cache) where
  -- no feed was tried
  pub tries-none : (os : List Op) (a b : Device D) (p : Place (Known C)) → WasLent devices a b → TriesBeside m devices cache os a b p p
  tries-none os a b p lent = record {
    feeds = [];
    few = omega arith;
    used = record { lent = b; later = b; gave = lent; made = made-none m devices cache b p; took = lent-same devices b };
  }

  pub none-asked-done : (os : List Op) (a : Device D) (p : Place (Known C)) → list_any is_feed os ≡ false → DoesFeeds m devices cache (filter is_feed os) [] a a p p
  none-asked-done os a p none = subst (λ (l : List Op). DoesFeeds m devices cache l [] a a p p) (sym (none-found os none)) (none-done m devices cache a p)

  pub tries-beside : (os : List Op) (a b c d : Device D) (p q : Place (Known C)) → WasLent devices a b → TriesFeeds m devices cache (filter is_feed os) b c p q → WasLent devices c d → TriesBeside m devices cache os a d p q
  tries-beside os a b c d p q gave tried took = record { feeds = tried.feeds; few = tried.few; used = record { lent = b; later = c; gave = gave; made = tried.made; took = took } }

  answered-as : (a b : Device D) (ls : List Op) (fs : List FeedDone) (rs : List Reply) → WasLent devices a b → AreFedReplies (lent_in b) ls fs rs → AreFedReplies (lent_in a) ls fs rs
  answered-as device.None device.None ls fs rs lent so = so
  answered-as (device.Short a) (device.Short b) ls fs rs lent so = so
  answered-as (device.Ready a) (device.Ready b) ls fs rs lent so = so
  answered-as device.None (device.Short b) ls fs rs lent so = absurd lent
  answered-as device.None (device.Ready b) ls fs rs lent so = absurd lent
  answered-as (device.Short a) device.None ls fs rs lent so = absurd lent
  answered-as (device.Short a) (device.Ready b) ls fs rs lent so = absurd lent
  answered-as (device.Ready a) device.None ls fs rs lent so = absurd lent
  answered-as (device.Ready a) (device.Short b) ls fs rs lent so = absurd lent

  pub works-beside : (blocks : List Ptr) (os : List Op) (callers : ℕ) (own : ℕ → List Line) (fed : List Reply) (a b c d : Device D) (p q : Place (Known C)) → WasLent devices a b → DoesFeeds m devices cache (filter is_feed os) fed b c p q
      → WasLent devices c d → HaveRead devices blocks callers own (lent_in a) (lent_in b) (lent_in c) (lent_in d) → WorksBeside m devices cache blocks os callers own fed a d p q
  works-beside blocks os callers own fed a b c d p q gave done took read = record {
    feeds = done.feeds;
    used = record { lent = b; later = c; gave = gave; made = done.made; took = took };
    answered = answered-as a b (filter is_feed os) done.feeds fed gave done.answered;
    read = read;
  }
