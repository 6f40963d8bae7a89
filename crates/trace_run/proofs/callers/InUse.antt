-- The cache device while groups are done: it has its length and its kind, and no fewer faults are counted; where no line asks for a feed it is only lent.
use Rattle.std.proofs.Common.{◌≡◌, ◌-◌, ◌≤◌, ℕ, zero, suc, min, Bool, false, List, [], ◌∷◌, drop, take, refl, sym, ap, subst, ◌∙◌, inl, inr, arith}
use Rattle.std.specs.Prelude.{slice_range}
use Rattle.std.specs.List.{list_any}
use Rattle.std.proofs.lemmas.Bool.{cases_lt, false≢true}
use Rattle.arc_lists.proofs.Tables.{cases_true}
use Rattle.vdev_io.specs.declared.device.CacheDev.{Ghosts}
use Rattle.vdev_io.specs.Calls.{Call, CountsCall, DeviceCall, Failed, Gave, MakesDeviceCalls}
use Rattle.vdev_io.specs.Faults.{last_count}
use Rattle.l2_dev.specs.Cursor.{CursorState}
use Rattle.turn_table.specs.Places.{Place}
use Rattle.arc_table.specs.declared.view.Known.{Known}
use Rattle.arc_table.specs.Cache.{Cache}
use Rattle.arc_table.specs.Items.{Meanings}
use Rattle.trace_text.specs.declared.op.Op.{Op}
use Rattle.trace_run.specs.declared.device.Device.{Device}
use Rattle.trace_run.specs.declared.device.Device.TheVariants as device
use Rattle.trace_run.specs.Devices.{WasLent}
use Rattle.trace_run.specs.Feeds.{FeedDone, MadeFeeds, MadeFeedsOf, is_feed}
use Rattle.trace_run.specs.callers.Beside.{HasItsKind, TriesBeside, WasInUse}
use Rattle.trace_run.proofs.DeviceLemmas.{lent-same, lent-then}
use Rattle.trace_run.proofs.feeds.UsedLemmas.{unasked-lent}

-- lines none of which asks for a feed, and some of them
module _ {X : Type 0} (test : X → Bool) where
  none-left : (n : ℕ) (xs : List X) → list_any test xs ≡ false → list_any test (take n xs) ≡ false
  none-left zero xs none = refl
  none-left (suc n) [] none = refl
  none-left (suc n) (x ∷ xs) none = elim (cases_true (test x)) [
    | inl is ↦ absurd (false≢true (sym none ∙ rw is refl))
    | inr other ↦ rw other (none-left n xs (rw other at none))
  ]

  none-right : (n : ℕ) (xs : List X) → list_any test xs ≡ false → list_any test (drop n xs) ≡ false
  none-right zero xs none = none
  none-right (suc n) [] none = refl
  none-right (suc n) (x ∷ xs) none = elim (cases_true (test x)) [
    | inl is ↦ absurd (false≢true (sym none ∙ rw is refl))
    | inr other ↦ none-right n xs (rw other at none)
  ]

none-within : (ops : List Op) (first end : ℕ) → list_any is_feed ops ≡ false → list_any is_feed (slice_range ops first end) ≡ false
none-within ops first end none = none-left is_feed (end - first) (drop first ops) (none-right is_feed first ops none)

module _ {D : Type 0} (devices : Ghosts D) where
  abbrev IsAlike : (a b : D) → Type 0
  IsAlike a b = (devices.size b ≡ devices.size a) × (devices.has_sectors b ≡ devices.has_sectors a) × (min (devices.faults a) last_count ≤ devices.faults b)

  alike-same : (a b : D) → b ≡ a → IsAlike a b
  alike-same a b is = subst (IsAlike a) (sym is) (refl, refl, omega arith)

  alike-then : (a b c : D) → IsAlike a b → IsAlike b c → IsAlike a c
  alike-then a b c first second = (second.0 ∙ first.0, second.1 ∙ first.1, omega (arith, first.2, second.2))

  counted : (answer : Call) (a b : D) → CountsCall answer (devices.faults a) (devices.faults b) → min (devices.faults a) last_count ≤ devices.faults b
  counted Gave a b count = omega (arith, count)
  counted Failed a b count = elim (cases_lt (devices.faults a) last_count) [
    | inl room ↦ let more = count.more room in omega (arith, more, room)
    | inr full ↦ let same = count.full (omega (arith, full)) in omega (arith, same, full)
  ]

  calls-alike : (cs : List DeviceCall) (a b : D) → MakesDeviceCalls devices cs a b → IsAlike a b
  calls-alike [] a b made = alike-same a b made
  calls-alike (c ∷ cs) a b made = alike-then a made.0 b (made.1.size, made.1.kind, counted c.answer a made.0 made.1.faults) (calls-alike cs made.0 b made.2)

  kind-same : (a : Device D) → HasItsKind devices a a
  kind-same device.None = tt
  kind-same (device.Short a) = refl
  kind-same (device.Ready a) = alike-same a.dev a.dev refl

  kind-then : (a b c : Device D) → HasItsKind devices a b → HasItsKind devices b c → HasItsKind devices a c
  kind-then device.None device.None device.None first second = tt
  kind-then (device.Short a) (device.Short b) (device.Short c) first second = second ∙ first
  kind-then (device.Ready a) (device.Ready b) (device.Ready c) first second = alike-then a.dev b.dev c.dev first second
  kind-then device.None (device.Short b) c first second = absurd first
  kind-then device.None (device.Ready b) c first second = absurd first
  kind-then (device.Short a) device.None c first second = absurd first
  kind-then (device.Short a) (device.Ready b) c first second = absurd first
  kind-then (device.Ready a) device.None c first second = absurd first
  kind-then (device.Ready a) (device.Short b) c first second = absurd first
  kind-then device.None device.None (device.Short c) first second = absurd second
  kind-then device.None device.None (device.Ready c) first second = absurd second
  kind-then (device.Short a) (device.Short b) device.None first second = absurd second
  kind-then (device.Short a) (device.Short b) (device.Ready c) first second = absurd second
  kind-then (device.Ready a) (device.Ready b) device.None first second = absurd second
  kind-then (device.Ready a) (device.Ready b) (device.Short c) first second = absurd second

  pub lent-kind : (a b : Device D) → WasLent devices a b → HasItsKind devices a b
  lent-kind device.None device.None lent = tt
  lent-kind (device.Short a) (device.Short b) lent = lent
  lent-kind (device.Ready a) (device.Ready b) lent = (lent.2.size, lent.2.kind, lent.2.faults)
  lent-kind device.None (device.Short b) lent = absurd lent
  lent-kind device.None (device.Ready b) lent = absurd lent
  lent-kind (device.Short a) device.None lent = absurd lent
  lent-kind (device.Short a) (device.Ready b) lent = absurd lent
  lent-kind (device.Ready a) device.None lent = absurd lent
  lent-kind (device.Ready a) (device.Short b) lent = absurd lent

  -- while these lines are done
  pub in-use-same : (os : List Op) (a : Device D) → WasInUse devices os a a
  in-use-same os a = record { kind = kind-same a; unfed = λ none. lent-same devices a }

  pub in-use-then : (os : List Op) (a b c : Device D) → WasInUse devices os a b → WasInUse devices os b c → WasInUse devices os a c
  in-use-then os a b c first second = record { kind = kind-then a b c first.kind second.kind; unfed = λ none. lent-then devices a b c (first.unfed none) (second.unfed none) }

module _ {C D : Type 0} (m : Meanings C) (devices : Ghosts D) (cache : Cache) where
  feeds-alike : (fs : List FeedDone) (was now : D) (old new : CursorState) (p q : Place (Known C)) → MadeFeeds m devices cache fs was now old new p q → IsAlike devices was now
  feeds-alike [] was now old new p q made = alike-same devices was now made.0
  feeds-alike (f ∷ fs) was now old new p q made =
      let one = calls-alike devices made.3.made.fed.calls was made.0 made.3.made.fed.made in
      let rest = feeds-alike fs made.0 now f.after new made.1 q made.4 in
      alike-then devices was made.0 now one rest

  pub fed-kind : (fs : List FeedDone) (a b : Device D) (p q : Place (Known C)) → MadeFeedsOf m devices cache fs a b p q → HasItsKind devices a b
  fed-kind fs device.None device.None p q made = tt
  fed-kind fs (device.Short a) (device.Short b) p q made = made.1
  fed-kind fs (device.Ready a) (device.Ready b) p q made = feeds-alike fs a.dev b.dev a.cursor b.cursor p q made.1
  fed-kind fs device.None (device.Short b) p q made = absurd made
  fed-kind fs device.None (device.Ready b) p q made = absurd made
  fed-kind fs (device.Short a) device.None p q made = absurd made
  fed-kind fs (device.Short a) (device.Ready b) p q made = absurd made
  fed-kind fs (device.Ready a) device.None p q made = absurd made
  fed-kind fs (device.Ready a) (device.Short b) p q made = absurd made

  -- those of these lines that were done
  pub tried-in-use : (ops os : List Op) → os ≡ ops → (first end : ℕ) (a b : Device D) (p q : Place (Known C)) → TriesBeside m devices cache (slice_range os first end) a b p q → WasInUse devices ops a b
  tried-in-use ops os is first end a b p q tried =
      let u = tried.used in
      record {
        kind = kind-then devices a u.lent b (lent-kind devices a u.lent u.gave) (kind-then devices u.lent u.later b (fed-kind tried.feeds u.lent u.later p q u.made) (lent-kind devices u.later b u.took));
        unfed = λ none. unasked-lent m devices cache (slice_range os first end) a b p q (none-within os first end (ap (list_any is_feed) is ∙ none)) tried;
      }
