-- That the feeds of a run stand in the histories of the shards, each by what it did and by what it asked the cache device for.
use Rattle.std.proofs.Common.{◌≡◌, ◌<◌, ℕ, List, [], ◌∷◌, ◌++◌, refl, sym, ap, ◌∙◌, subst, append_assoc}
use Rattle.vdev_io.specs.declared.device.CacheDev.{Ghosts}
use Rattle.vdev_io.specs.Calls.{DeviceCall}
use Rattle.arc_core.specs.declared.config.Config.{Config}
use Rattle.arc_core.specs.declared.event.Event.{Event}
use Rattle.arc_core.specs.Operations.{Moment, moments, own_moments}
use Rattle.arc_core.specs.Replay.{replay}
use Rattle.turn_table.specs.Places.{Place}
use Rattle.arc_table.specs.declared.view.Known.{Known}
use Rattle.arc_table.specs.Cache.{Cache}
use Rattle.arc_table.specs.Items.{Meanings}
use Rattle.arc_table.specs.Seen.{seen_of}
use Rattle.arc_table.specs.Telling.{opening_of}
use Rattle.arc_table.proofs.OwnLemmas.{own-append}
use Rattle.l2_dev.specs.Cursor.{CursorState}
use Rattle.l2_feed.specs.Acts.{Act}
use Rattle.l2_feed.specs.Told.{TellActs, acts_at}
use Rattle.trace_run.specs.FeedSeries.{AreInTurn, SeesMore, TellFeeds}
use Rattle.trace_run.specs.Feeds.{FeedDone}

-- ---- moments among others

module _ (g : Config) (shard : ℕ) where
  -- behind others, and before others
  tell-front : (fs : List FeedDone) (first ms : List Moment) → TellFeeds g shard fs ms → TellFeeds g shard fs (first ++ ms)
  tell-front [] first ms tell = tt
  tell-front (f ∷ fs) first ms (others, here, rest, is, acts, more) = (first ++ others, here, rest, ap (λ (l : List Moment). first ++ l) is ∙ sym (append_assoc first others (here ++ rest)), acts, more)

  tell-behind : (fs : List FeedDone) (ms last : List Moment) → TellFeeds g shard fs ms → TellFeeds g shard fs (ms ++ last)
  tell-behind [] ms last tell = tt
  tell-behind (f ∷ fs) ms last (others, here, rest, is, acts, more) = (
    others,
    here,
    rest ++ last,
    ap (λ (l : List Moment). l ++ last) is ∙ (append_assoc others (here ++ rest) last ∙ ap (λ (l : List Moment). others ++ l) (append_assoc here rest last)),
    acts,
    tell-behind fs rest last more,
  )

-- ---- feeds one after another

module _ {C D : Type 0} (m : Meanings C) (devices : Ghosts D) (cache : Cache) (shard : ℕ) (below : shard < cache.config.shards) where
  abbrev g : Config
  g = cache.config

  -- the feeder's own moments of these events
  abbrev own-in : List Event → List Moment
  own-in es = own_moments g.callers (moments (opening_of g) es)

  abbrev own-of : Place (Known C) → List Moment
  own-of p = own-in (seen_of g shard p)

  -- those of what came behind
  abbrev own-rest : (seen now : List Event) → SeesMore g seen now → List Moment
  own-rest seen now sees = own_moments g.callers (moments (replay (opening_of g) seen) sees.rest)

  own-then : (seen now : List Event) (sees : SeesMore g seen now) → own-in now ≡ own-in seen ++ own-rest seen now sees
  own-then seen now sees = ap own-in sees.whole ∙ own-append g.callers (opening_of g) seen sees.rest

  four : (a b c d : List Moment) → ((a ++ b) ++ c) ++ d ≡ a ++ (b ++ (c ++ d))
  four a b c d = append_assoc (a ++ b) c d ∙ append_assoc a b (c ++ d)

  -- what the feeder has seen more of the shard behind these feeds tells of them
  turn-told : (fs : List FeedDone) (a b : D) (x y : CursorState) (p q : Place (Known C)) → AreInTurn m devices cache fs a b x y p q → (ms : List Moment) × (own-of q ≡ own-of p ++ ms) × TellFeeds g shard fs ms
  turn-told [] a b x y p q turn = (own-rest (seen_of g shard p) (seen_of g shard q) (turn.sees shard below), own-then (seen_of g shard p) (seen_of g shard q) (turn.sees shard below), tt)
  turn-told (f ∷ fs) a b x y p q (from, to, r, s, between, was, rest) =
      let one = was.made.made in
      let number : r.number ≡ g.callers = one.ready.on.feeder in
      let t = one.fed.told shard in
      let sees = between.sees shard below in
      let others : List Moment = own-rest (seen_of g shard p) (seen_of g shard r) sees in
      let here : own-of s ≡ own-of r ++ t.0 =
      subst (λ (n : ℕ). own_moments n (moments (opening_of g) (seen_of g shard s)) ≡ own_moments n (moments (opening_of g) (seen_of g shard r)) ++ t.0) number t.1 in
      let told : TellActs g.callers f.calls (acts_at g shard f.acts) t.0 =
      subst (λ (x : ℕ × List DeviceCall × List Act). TellActs x.0 x.1 (acts_at g shard x.2) t.0) (λ i. (number i, was.made.calls i, was.made.acts i)) t.2 in
      let then = turn-told fs to b f.after y s q rest in (
        others ++ (t.0 ++ then.0),
        then.1 ∙ (ap (λ (l : List Moment). l ++ then.0) (here ∙ ap (λ (l : List Moment). l ++ t.0) (own-then (seen_of g shard p) (seen_of g shard r) sees)) ∙ four (own-of p) others t.0 then.0),
        (others, t.0, then.0, refl, told, then.2),
      )

  -- so does the history of the closed cache, which goes on behind that
  pub feeds-written : (fs : List FeedDone) (a b : D) (x y : CursorState) (p q : Place (Known C)) (history : List Event) → AreInTurn m devices cache fs a b x y p q → SeesMore g (seen_of g shard q) history → TellFeeds g shard fs (own-in history)
  feeds-written fs a b x y p q history turn closed =
      let t = turn-told fs a b x y p q turn in
      let last : List Moment = own-rest (seen_of g shard q) history closed in
      let is : own-in history ≡ (own-of p ++ t.0) ++ last = own-then (seen_of g shard q) history closed ∙ ap (λ (l : List Moment). l ++ last) t.1 in
      subst (TellFeeds g shard fs) (sym is) (tell-behind g shard fs (own-of p ++ t.0) last (tell-front g shard fs (own-of p) t.0 t.2))
