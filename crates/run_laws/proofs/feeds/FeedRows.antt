-- Two feeds of the same shards over alike cursors, of which the same calls failed: they make the same events, leave alike cursors and have the same report, and they asked the device for the same; or they picked two
-- contents of one digest (l2arc_feed_thread for a single thread).
use Rattle.std.proofs.Common.{◌≡◌, ◌≢◌, ◌⊎◌, ◌==◌, ℕ, true, false, if◌then◌else◌, List, [], ◌∷◌, ◌++◌, map, refl, sym, ap, ◌∙◌, inl, inr, append-nil}
use Rattle.std.proofs.lemmas.Bool.{cases_Bool}
use Rattle.arc_core.specs.declared.config.Config.{Config}
use Rattle.arc_core.specs.declared.event.Event.{Event}
use Rattle.arc_core.specs.PlainShard.{PlainShard}
use Rattle.vdev_io.specs.Calls.{Call, DeviceCall}
use Rattle.l2_ring.specs.Ring.{RingState}
use Rattle.l2_dev.specs.declared.report.FeedReport.{FeedReport}
use Rattle.l2_dev.specs.declared.report.FeedStop.{FeedStop}
use Rattle.l2_dev.specs.declared.report.FeedStop.TheVariants as stop
use Rattle.l2_feed.specs.Acts.{Act, Absent, Cleared, Left, Picked, Placed, Refused, Unpicked}
use Rattle.l2_feed.specs.Alike.{AreCursorsAlike, PicksTwo}
use Rattle.l2_feed.specs.Alone.{events_at}
use Rattle.l2_feed.specs.Plain.{IsPlainFeed, PlainFed, all_after, answers_of, bare, fed_of, report_of, told_of}
use Rattle.l2_feed.specs.Shape.{IsRefusal, NoneRefused}
use Rattle.l2_feed.specs.Told.{events_of, shard_of_act}
use Rattle.l2_feed.proofs.Alike.{come_to_one}
use Rattle.trace_run.specs.Feeds.{FeedDone, IsFeedOf}
use Rattle.trace_run.specs.one_caller.Sequence.{IsFeedHere}
use Rattle.run_laws.specs.Alike.{AreAlikeSoFar, FeedsPickTwo, WantsMemory}
use Rattle.run_laws.proofs.Rows.{so-far-longer}

-- ---- the events of a feed, shard by shard

-- of events with their shards those of this one
abbrev there : (shard : ℕ) → List (ℕ × Event) → List Event
there shard [] = []
there shard (x ∷ xs) = if x.0 == shard then (x.1 ∷ there shard xs) else there shard xs

there-both : (shard : ℕ) (xs ys : List (ℕ × Event)) → there shard (xs ++ ys) ≡ there shard xs ++ there shard ys
there-both shard [] ys = refl
there-both shard (x ∷ xs) ys = elim (cases_Bool (x.0 == shard)) [
  | inl here ↦ rw here (ap (λ (es : List Event). x.1 ∷ es) (there-both shard xs ys))
  | inr other ↦ rw other (there-both shard xs ys)
]

there-of : (shard at : ℕ) (es : List Event) → there shard (map (λ e. (at, e)) es) ≡ (if at == shard then es else [])
there-of shard at es = elim (cases_Bool (at == shard)) [
  | inl here ↦ rw here (own es here)
  | inr other ↦ rw other (none es other)
]
  where
    own : (es : List Event) → (at == shard) ≡ true → there shard (map (λ e. (at, e)) es) ≡ es
    own [] here = refl
    own (e ∷ es) here = rw here (ap (λ (l : List Event). e ∷ l) (own es here))

    none : (es : List Event) → (at == shard) ≡ false → there shard (map (λ e. (at, e)) es) ≡ []
    none [] other = refl
    none (e ∷ es) other = rw other (none es other)

events-there : (g : Config) (n shard : ℕ) (acts : List Act) → events_at g n shard acts ≡ there shard (told_of g n acts)
events-there g n shard [] = refl
events-there g n shard (act ∷ acts) =
    let first : List (ℕ × Event) = map (λ e. (shard_of_act g act, e)) (events_of n act) in
    ap (λ (es : List Event). (if shard_of_act g act == shard then events_of n act else []) ++ es) (events-there g n shard acts)
    ∙ (ap (λ (es : List Event). es ++ there shard (told_of g n acts)) (sym (there-of shard (shard_of_act g act) (events_of n act))) ∙ sym (there-both shard first (told_of g n acts)))

-- acts with the same events, each with its shard, make the same of each shard
pub told-at : (g : Config) (n shard : ℕ) (acts deeds : List Act) → told_of g n acts ≡ told_of g n deeds → events_at g n shard acts ≡ events_at g n shard deeds
told-at g n shard acts deeds same = events-there g n shard acts ∙ (ap (there shard) same ∙ sym (events-there g n shard deeds))

-- ---- two feeds

-- both were answered so, and made the same events of the shards, left one ring and have one report
pub record AreUsedAlike (g : Config) (n : ℕ) (acts deeds : List Act) (xs ys : List DeviceCall) (new now : RingState) (r q : FeedReport) : Type 0 where
  pub answers : answers_of ys ≡ answers_of xs
  pub told : told_of g n deeds ≡ told_of g n acts
  pub ring : bare now ≡ bare new
  pub report : q ≡ r

flipped : (g : Config) (n : ℕ) (acts deeds : List Act) (xs ys : List DeviceCall) (new now : RingState) (r q : FeedReport) → AreUsedAlike g n deeds acts ys xs now new q r → AreUsedAlike g n acts deeds xs ys new now r q
flipped g n acts deeds xs ys new now r q a = record { answers = sym a.answers; told = sym a.told; ring = sym a.ring; report = sym a.report }

module _ (g : Config) (n : ℕ) (s : ℕ → PlainShard) where
  -- the plain feed over this ring, where calls are answered so
  abbrev fed_with : RingState → List Call → PlainFed
  fed_with ring answers = fed_of g n record { shards = s; ring = ring; answers = answers }

  -- what these acts were, which left this ring and these answers
  abbrev fed_as : List Act → RingState → List Call → FeedStop → PlainFed
  fed_as acts ring answers end = record { events = told_of g n acts; at = record { shards = all_after g n s acts; ring = ring; answers = answers }; end = end }

  -- the plain feed uses up the answers that a feed was given, so that one which was given more was given no more
  used-more : (old before new now : RingState) (acts deeds : List Act) (xs ys : List DeviceCall) (r q : FeedReport) → bare before ≡ bare old → IsPlainFeed g n s old new acts xs r → IsPlainFeed g n s before now deeds ys q
      → (zs : List Call) → answers_of ys ≡ answers_of xs ++ zs → AreUsedAlike g n acts deeds xs ys new now r q
  used-more old before new now acts deeds xs ys r q rings one other zs more =
      let first = one zs in
      let second = other [] in
      let row : answers_of ys ++ [] ≡ answers_of xs ++ zs = append-nil (answers_of ys) ∙ more in
      let same : fed_with (bare before) (answers_of ys ++ []) ≡ fed_with (bare old) (answers_of xs ++ zs) = λ i. fed_with (rings i) (row i) in
      let joined : fed_as deeds (bare now) [] q.end ≡ fed_as acts (bare new) zs r.end = sym second.0 ∙ (same ∙ first.0) in
      let none : [] ≡ zs = ap (λ (fed : PlainFed). fed.at.answers) joined in
      record {
        answers = more ∙ (ap (λ (cs : List Call). answers_of xs ++ cs) (sym none) ∙ append-nil (answers_of xs));
        told = ap (λ (fed : PlainFed). fed.events) joined;
        ring = ap (λ (fed : PlainFed). fed.at.ring) joined;
        report = sym second.1 ∙ (ap report_of same ∙ first.1);
      }

  pub used-alike : (old before new now : RingState) (acts deeds : List Act) (xs ys : List DeviceCall) (r q : FeedReport) → bare before ≡ bare old → IsPlainFeed g n s old new acts xs r → IsPlainFeed g n s before now deeds ys q
      → AreAlikeSoFar (answers_of xs) (answers_of ys) → AreUsedAlike g n acts deeds xs ys new now r q
  used-alike old before new now acts deeds xs ys r q rings one other alike = elim (so-far-longer (answers_of xs) (answers_of ys) alike) [
    | inl more ↦ used-more old before new now acts deeds xs ys r q rings one other more.0 more.1
    | inr more ↦ flipped g n acts deeds xs ys new now r q (used-more before old now new deeds acts ys xs q r (sym rings) other one more.0 more.1)
  ]

-- ---- where memory was refused

refusal-known : (act : Act) → IsRefusal act ⊎ (¬ IsRefusal act)
refusal-known (Refused k place) = inl tt
refusal-known (Picked shard blocks) = inr (λ h. h)
refusal-known (Unpicked shard) = inr (λ h. h)
refusal-known (Cleared k place) = inr (λ h. h)
refusal-known (Absent k place) = inr (λ h. h)
refusal-known (Placed k place) = inr (λ h. h)
refusal-known (Left k why) = inr (λ h. h)

none-known : (acts : List Act) → NoneRefused acts ⊎ (¬ NoneRefused acts)
none-known [] = inl tt
none-known (act ∷ acts) = elim (refusal-known act) [
  | inl is ↦ inr (λ none. none.0 is)
  | inr other ↦ elim (none-known acts) [
    | inl none ↦ inl (other, none)
    | inr some ↦ inr (λ none. some none.1)
  ]
]

end-known : (end : FeedStop) → (end ≡ stop.NoMemory) ⊎ (end ≢ stop.NoMemory)
end-known stop.NoMemory = inl refl
end-known stop.Done = inr (λ is. absurd (let clash : stop.Done ≡ stop.NoMemory = is in cc))
end-known stop.DevFault = inr (λ is. absurd (let clash : stop.DevFault ≡ stop.NoMemory = is in cc))

-- memory was refused for the feed or for a place in it, or it is the plain one of its shards
pub plain-known : (feed : FeedDone) → WantsMemory (feed ∷ []) ⊎ ((feed.report.end ≢ stop.NoMemory) × NoneRefused feed.acts)
plain-known feed = elim (end-known feed.report.end) [
  | inl is ↦ inl (record { place = 0; feed = feed; at = refl; wants = inl is })
  | inr other ↦ elim (none-known feed.acts) [
    | inl none ↦ inr (other, none)
    | inr some ↦ inl (record { place = 0; feed = feed; at = refl; wants = inr some })
  ]
]

-- two feeds of one trace's line `feed`
pub record AreFedAlike (g : Config) (feed fed : FeedDone) : Type 0 where
  pub used : AreUsedAlike g g.callers feed.acts fed.acts feed.calls fed.calls feed.after.ring fed.after.ring feed.report fed.report
  pub cursors : AreCursorsAlike feed.after fed.after
  pub calls : fed.calls ≡ feed.calls
  pub plain : (feed.report.end ≢ stop.NoMemory) × NoneRefused feed.acts

-- both are the plain one, so what they wrote is one too; or they picked two contents of one digest
plain-alike : (g : Config) (s : ℕ → PlainShard) (feed fed : FeedDone) → IsFeedHere g s feed → IsFeedHere g s fed → IsFeedOf g.shards feed → IsFeedOf g.shards fed → AreCursorsAlike feed.before fed.before
    → AreAlikeSoFar (answers_of feed.calls) (answers_of fed.calls) → (feed.report.end ≢ stop.NoMemory) × NoneRefused feed.acts → (fed.report.end ≢ stop.NoMemory) × NoneRefused fed.acts → AreFedAlike g feed fed ⊎ PicksTwo feed.acts fed.acts
plain-alike g s feed fed one other shape other_shape cursors alike plain other_plain =
    let used = used-alike g g.callers s feed.before.ring fed.before.ring feed.after.ring fed.after.ring feed.acts fed.acts feed.calls fed.calls feed.report fed.report cursors.ring (one.plain plain.0 plain.1) (other.plain other_plain.0 other_plain.1) alike in
    elim (come_to_one g g.callers s feed.before feed.after fed.before fed.after feed.acts fed.acts feed.calls fed.calls feed.report.end fed.report.end shape.fed other_shape.fed one.of_shards other.of_shards
    plain.0 other_plain.0 plain.1 other_plain.1 cursors used.answers) [
      | inl come ↦ inl (record { used = used; cursors = come.cursors; calls = come.asked; plain = plain })
      | inr two ↦ inr two
    ]

pub feeds-alike : (g : Config) (s : ℕ → PlainShard) (feed fed : FeedDone) → IsFeedHere g s feed → IsFeedHere g s fed → IsFeedOf g.shards feed → IsFeedOf g.shards fed → AreCursorsAlike feed.before fed.before
    → AreAlikeSoFar (answers_of feed.calls) (answers_of fed.calls) → AreFedAlike g feed fed ⊎ (FeedsPickTwo (feed ∷ []) (fed ∷ []) ⊎ (WantsMemory (feed ∷ []) ⊎ WantsMemory (fed ∷ [])))
feeds-alike g s feed fed one other shape other_shape cursors alike = elim (plain-known feed) [
  | inl wants ↦ inr (inr (inl wants))
  | inr plain ↦ elim (plain-known fed) [
    | inl wants ↦ inr (inr (inr wants))
    | inr other_plain ↦ elim (plain-alike g s feed fed one other shape other_shape cursors alike plain other_plain) [
      | inl same ↦ inl same
      | inr two ↦ inr (inl (record { place = 0; feed = feed; other = fed; at = refl; other_at = refl; picks = two }))
    ]
  ]
]
