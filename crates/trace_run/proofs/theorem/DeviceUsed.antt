-- What a run made of the cache device, once it is handed back.
use Rattle.std.proofs.Common.{◌≡◌, ◌≤◌, ℕ, List, [], ◌∷◌, ◌++◌, Option, None, Some, refl, sym, ap, ◌∙◌, subst, arith}
use Rattle.std.specs.Prelude.{filter}
use Rattle.blk_ptr.specs.declared.ptr.Ptr.{Ptr}
use Rattle.l2_dev.specs.Cursor.{CursorState}
use Rattle.vdev_io.specs.declared.device.CacheDev.{Ghosts}
use Rattle.trace_text.specs.declared.rebuilt.Rebuilt.{Rebuilt}
use Rattle.trace_text.specs.declared.trace.Trace.{Trace}
use Rattle.trace_run.specs.declared.device.Device.{Device}
use Rattle.trace_run.specs.declared.device.Device.TheVariants as device
use Rattle.trace_run.specs.declared.ran.Ending.{Ending}
use Rattle.trace_run.specs.callers.Beside.{HasItsKind}
use Rattle.trace_run.specs.callers.DeviceForks.{GivesFork, GivesForks, TakesForkBack, TakesForksBack, UsedAtOnce, UsedInGroups}
use Rattle.trace_run.specs.callers.Together.{GroupLines, groups_done}
use Rattle.trace_run.specs.Devices.{Finds, IsHandedBack, IsRightKind, MayLose, MayLoseUnfed, WasLent, device_of, lent_in, usable}
use Rattle.trace_run.specs.DeviceUse.{WasUsed}
use Rattle.trace_run.specs.Feeds.{AreFedReplies, AsksOfFeeds, FeedDone, is_feed}
use Rattle.trace_run.specs.Lines.{replies_where}
use Rattle.trace_run.specs.dbufs.Objects.{ops_of, replies_of}
use Rattle.trace_run.specs.RunWork.{RunWork}
use Rattle.trace_run.proofs.DeviceLemmas.{lent-back, only-same, only-then, usable-lent}

module _ {D : Type 0} (devices : Ghosts D) where
  -- ---- a device that is not fed

  pub back-same : (a b : Option D) → b ≡ a → IsHandedBack devices a b
  back-same a b same = subst (IsHandedBack devices a) (sym same) (go a)
    where
      go : (x : Option D) → IsHandedBack devices x x
      go None = tt
      go (Some d) = only-same devices d

  pub back-then : (a b c : Option D) → IsHandedBack devices a b → IsHandedBack devices b c → IsHandedBack devices a c
  back-then None None None first second = tt
  back-then None None (Some c) first second = absurd second
  back-then None (Some b) c first second = absurd first
  back-then (Some a) None c first second = absurd first
  back-then (Some a) (Some b) None first second = absurd second
  back-then (Some a) (Some b) (Some c) first second = only-then devices a b c first second

  gives-back : (forks : List (Option D)) (a b : Option D) → GivesForks devices forks a b → IsHandedBack devices a b
  gives-back [] a b same = back-same a b same
  gives-back (fork ∷ forks) a b gave = back-then a gave.0 b (one fork a gave.0 gave.1) (gives-back forks gave.0 b gave.2)
    where
      one : (f x y : Option D) → GivesFork devices f x y → IsHandedBack devices x y
      one f None None once = tt
      one f None (Some y) once = absurd once
      one f (Some x) None once = absurd once
      one f (Some x) (Some y) once = once.2.keeps

  takes-back : (forks : List (Option D)) (a b : Option D) → TakesForksBack devices forks a b → IsHandedBack devices a b
  takes-back [] a b same = back-same a b same
  takes-back (fork ∷ forks) a b took = back-then a took.0 b (one fork a took.0 took.1) (takes-back forks took.0 b took.2)
    where
      one : (f x y : Option D) → TakesForkBack devices f x y → IsHandedBack devices x y
      one f None None once = tt
      one f None (Some y) once = absurd once
      one f (Some x) None once = absurd once
      one None (Some x) (Some y) once = back-same (Some x) (Some y) (ap (λ (d : D). Some d) once)
      one (Some f) (Some x) (Some y) once = once.keeps

  unfed-back : (fs : List FeedDone) (a b : Option D) → fs ≡ [] → AsksOfFeeds devices fs a b → IsHandedBack devices a b
  unfed-back [] None None none asked = tt
  unfed-back [] None (Some b) none asked = absurd asked
  unfed-back [] (Some a) None none asked = absurd asked
  unfed-back [] (Some a) (Some b) none asked = back-same (Some a) (Some b) (ap (λ (d : D). Some d) asked)
  unfed-back (f ∷ fs) a b none asked = cc

  none-first : (here behind feeds : List FeedDone) → feeds ≡ here ++ behind → feeds ≡ [] → here ≡ []
  none-first [] behind feeds is none = refl
  none-first (f ∷ here) behind feeds is none = cc

  none-last : (here behind feeds : List FeedDone) → feeds ≡ here ++ behind → feeds ≡ [] → behind ≡ []
  none-last [] behind feeds is none = sym is ∙ none
  none-last (f ∷ here) behind feeds is none = cc

  once-back : (blocks : List Ptr) (callers : ℕ) (group : GroupLines) (fs : List FeedDone) (a b : Option D) → fs ≡ [] → UsedAtOnce devices blocks callers group.lines fs a b → IsHandedBack devices a b
  once-back blocks callers group fs a b none u =
      back-then a u.lent b (gives-back u.read.forks a u.lent u.read.given) (back-then u.lent u.later b (unfed-back fs u.lent u.later none u.fed) (takes-back u.read.done u.later b u.read.back))

  -- groups that make no feed only read it
  pub groups-back : (blocks : List Ptr) (callers : ℕ) (gs : List GroupLines) (fs : List FeedDone) (a b : Option D) → fs ≡ [] → UsedInGroups devices blocks callers gs fs a b → IsHandedBack devices a b
  groups-back blocks callers [] fs a b none u = back-same a b u.1
  groups-back blocks callers (g ∷ gs) fs a b none u =
      back-then a u.0 b (once-back blocks callers g u.1 a u.0 (none-first u.1 u.2 fs u.3 none) u.4) (groups-back blocks callers gs u.2 u.0 b (none-last u.1 u.2 fs u.3 none) u.5)

  -- one that was lent is handed back so
  pub lent-only : (x y : Device D) → WasLent devices x y → IsHandedBack devices (lent_in x) (lent_in y)
  lent-only device.None device.None lent = tt
  lent-only device.None (device.Short b) lent = absurd lent
  lent-only device.None (device.Ready b) lent = absurd lent
  lent-only (device.Short a) device.None lent = absurd lent
  lent-only (device.Short a) (device.Short b) lent = tt
  lent-only (device.Short a) (device.Ready b) lent = absurd lent
  lent-only (device.Ready a) device.None lent = absurd lent
  lent-only (device.Ready a) (device.Short b) lent = absurd lent
  lent-only (device.Ready a) (device.Ready b) lent = lent.2

  -- ---- a device in use

  kind-kept : (x y : Device D) → HasItsKind devices x y → IsRightKind devices x → IsRightKind devices y
  kind-kept device.None device.None used kind = tt
  kind-kept device.None (device.Short b) used kind = absurd used
  kind-kept device.None (device.Ready b) used kind = absurd used
  kind-kept (device.Short a) device.None used kind = absurd used
  kind-kept (device.Short a) (device.Short b) used kind = let same = ap (λ (d : D). devices.size d) used in omega (arith, same, kind)
  kind-kept (device.Short a) (device.Ready b) used kind = absurd used
  kind-kept (device.Ready a) device.None used kind = absurd used
  kind-kept (device.Ready a) (device.Short b) used kind = absurd used
  kind-kept (device.Ready a) (device.Ready b) used kind = let same = used.0 in omega (arith, same, kind)

  -- what callers may read in the end is what was lent
  pub usable-kept : (x y : Device D) → HasItsKind devices x y → IsRightKind devices x → usable devices (device_of y) ≡ lent_in y
  usable-kept x y used kind = usable-lent devices y (kind-kept x y used kind)

  -- one that callers may not read is as it was
  unlent-same : (x y : Device D) → HasItsKind devices x y → lent_in x ≡ None → device_of y ≡ device_of x
  unlent-same device.None device.None used none = refl
  unlent-same device.None (device.Short b) used none = absurd used
  unlent-same device.None (device.Ready b) used none = absurd used
  unlent-same (device.Short a) device.None used none = absurd used
  unlent-same (device.Short a) (device.Short b) used none = ap (λ (d : D). Some d) used
  unlent-same (device.Short a) (device.Ready b) used none = absurd used
  unlent-same (device.Ready a) y used none = cc

  -- where what was lent was only read, all of it was
  all-back : (x y : Device D) → HasItsKind devices x y → IsHandedBack devices (lent_in x) (lent_in y) → IsHandedBack devices (device_of x) (device_of y)
  all-back device.None device.None used back = tt
  all-back device.None (device.Short b) used back = absurd used
  all-back device.None (device.Ready b) used back = absurd used
  all-back (device.Short a) device.None used back = absurd used
  all-back (device.Short a) (device.Short b) used back = back-same (Some a) (Some b) (ap (λ (d : D). Some d) used)
  all-back (device.Short a) (device.Ready b) used back = absurd used
  all-back (device.Ready a) device.None used back = absurd used
  all-back (device.Ready a) (device.Short b) used back = absurd used
  all-back (device.Ready a) (device.Ready b) used back = back

  -- one that was found, and was in use, is not lost
  pub found-kept : (before : Option D) (x y : Device D) (first : Option CursorState) (rebuilt : Option Rebuilt) → Finds devices before (device_of x) first rebuilt → HasItsKind devices x y → MayLose devices before (device_of y)
  found-kept before x device.None first rebuilt is used = go before
    where
      go : (o : Option D) → MayLose devices o None
      go None = tt
      go (Some a) = tt
  found-kept before device.None (device.Short b) first rebuilt is used = absurd used
  found-kept before device.None (device.Ready b) first rebuilt is used = absurd used
  found-kept before (device.Short a) (device.Ready b) first rebuilt is used = absurd used
  found-kept before (device.Ready a) (device.Short b) first rebuilt is used = absurd used
  found-kept None (device.Short a) (device.Short b) first rebuilt is used = cc
  found-kept None (device.Ready a) (device.Ready b) first rebuilt is used = cc
  found-kept (Some d) (device.Short a) (device.Short b) first None is used = absurd is
  found-kept (Some d) (device.Ready a) (device.Ready b) first None is used = absurd is
  found-kept (Some d) (device.Short a) (device.Short b) first (Some rebuilt) is used =
      (ap (λ (x : D). devices.size x) used ∙ is.only.size, ap (λ (x : D). devices.has_sectors x) used ∙ is.only.kind, (let f = is.only.faults in let same = ap (λ (x : D). devices.faults x) used in omega (arith, f, same)))
  found-kept (Some d) (device.Ready a) (device.Ready b) first (Some rebuilt) is used = (used.0 ∙ is.only.size, used.1 ∙ is.only.kind, omega (arith, is.only.faults, used.2))

  -- one that was only lent was only read
  pub lent-unfed : (before : Option D) (x y : Device D) (first : Option CursorState) (rebuilt : Option Rebuilt) → Finds devices before (device_of x) first rebuilt → WasLent devices x y → MayLoseUnfed devices before (device_of y)
  lent-unfed before x y first rebuilt found lent = go before (device_of x) (device_of y) rebuilt found (lent-back devices x y lent)
    where
      go : (b s a : Option D) (r : Option Rebuilt) → Finds devices b s first r → IsHandedBack devices s a → MayLoseUnfed devices b a
      go b s None r is back = tt
      go None None (Some a) r is back = absurd back
      go None (Some s) (Some a) r is back = cc
      go (Some b) None (Some a) r is back = absurd back
      go (Some b) (Some s) (Some a) None is back = absurd is
      go (Some b) (Some s) (Some a) (Some r) is back = only-then devices b s a is.only back

  -- one that isn't touched was not fed
  pub nothing-fed : (cache : Option D) → MayLoseUnfed devices cache cache
  nothing-fed None = tt
  nothing-fed (Some d) = only-same devices d

  -- what was made of the device that was started so, and ended so
  pub was-used : (trace : Trace) (ending : Ending) (work : RunWork) (begun ended : Device D) (after : Option D) → after ≡ device_of ended → IsRightKind devices begun → HasItsKind devices begun ended
      → (2 ≤ trace.config.callers → UsedInGroups devices trace.blocks trace.config.callers (groups_done ending work.lines) work.feeds (lent_in begun) (lent_in ended))
      → (work.feeds ≡ [] → IsHandedBack devices (lent_in begun) (lent_in ended))
      → AreFedReplies (lent_in begun) (filter is_feed (ops_of work.lines)) work.feeds (replies_where is_feed (ops_of work.lines) (replies_of work.lines)) → WasUsed devices trace ending work (device_of begun) after
  was-used trace ending work begun ended after is kind used together unfed answered = subst (WasUsed devices trace ending work (device_of begun)) (sym is) (record {
    together = λ two.
        subst (λ (x : Option D × Option D). UsedInGroups devices trace.blocks trace.config.callers (groups_done ending work.lines) work.feeds x.0 x.1)
        (λ i. (sym (usable-lent devices begun kind) i, sym (usable-kept begun ended used kind) i)) (together two);
    answered = subst (λ (o : Option D). AreFedReplies o (filter is_feed (ops_of work.lines)) work.feeds (replies_where is_feed (ops_of work.lines) (replies_of work.lines))) (sym (usable-lent devices begun kind)) answered;
    back = λ none. all-back begun ended used (unfed none);
    short = λ none. unlent-same begun ended used (sym (usable-lent devices begun kind) ∙ none);
  })
