-- A cache device that was only read, lent and forked stays so, step by step.
use Rattle.std.proofs.Common.{◌≡◌, ◌++◌, ◌∷◌, [], List, Option, None, Some, refl, sym, ◌∙◌, subst, arith}
use Rattle.vdev_io.specs.declared.device.CacheDev.{Ghosts}
use Rattle.std.specs.Prelude.{nat_lt, true, false}
use Rattle.std.proofs.lemmas.Bool.Decides.{nat_tests}
use Rattle.l2_log.specs.Rules.{least_ring_end}
use Rattle.l2_dev.specs.Reading.{OnlyRead}
use Rattle.trace_run.specs.declared.device.Device.{Device}
use Rattle.trace_run.specs.declared.device.Device.TheVariants as device
use Rattle.trace_run.specs.Devices.{IsHandedBack, IsRightKind, MayLose, WasLent, WasOnlyRead, device_of, lent_in, usable}
use Rattle.trace_run.specs.callers.DeviceForks.{GivesFork, GivesForks}

module _ {D : Type 0} (devices : Ghosts D) where
  -- ---- only read

  pub only-same : (d : D) → WasOnlyRead devices d d
  only-same d = record {
    size = refl;
    told = refl;
    kind = refl;
    crash = λ c. ((λ x. x), λ x. x);
    time = record { later = omega arith; same = λ t c le. ((λ x. x), λ x. x) };
    faults = omega arith;
  }

  pub only-then : (a b c : D) → WasOnlyRead devices a b → WasOnlyRead devices b c → WasOnlyRead devices a c
  only-then a b c first second = record {
    size = second.size ∙ first.size;
    told = second.told ∙ first.told;
    kind = second.kind ∙ first.kind;
    crash = λ i. ((λ x. (second.crash i).0 ((first.crash i).0 x)), λ x. (first.crash i).1 ((second.crash i).1 x));
    time = record {
      later = omega (arith, first.time.later, second.time.later);
      same = λ t i le.
          let one = first.time.same t i le in
          let two = second.time.same t i (omega (arith, le, first.time.later)) in
          ((λ x. two.0 (one.0 x)), λ x. one.1 (two.1 x));
    };
    faults = omega (arith, first.faults, second.faults);
  }

  -- ---- lent

  pub lent-same : (x : Device D) → WasLent devices x x
  lent-same device.None = tt
  lent-same (device.Short dev) = refl
  lent-same (device.Ready l2) = (refl, refl, only-same l2.dev)

  pub lent-then : (x y z : Device D) → WasLent devices x y → WasLent devices y z → WasLent devices x z
  lent-then device.None device.None device.None first second = tt
  lent-then device.None device.None (device.Short c) first second = absurd second
  lent-then device.None device.None (device.Ready c) first second = absurd second
  lent-then device.None (device.Short b) z first second = absurd first
  lent-then device.None (device.Ready b) z first second = absurd first
  lent-then (device.Short a) device.None z first second = absurd first
  lent-then (device.Short a) (device.Short b) device.None first second = absurd second
  lent-then (device.Short a) (device.Short b) (device.Short c) first second = second ∙ first
  lent-then (device.Short a) (device.Short b) (device.Ready c) first second = absurd second
  lent-then (device.Short a) (device.Ready b) z first second = absurd first
  lent-then (device.Ready a) device.None z first second = absurd first
  lent-then (device.Ready a) (device.Short b) z first second = absurd first
  lent-then (device.Ready a) (device.Ready b) device.None first second = absurd second
  lent-then (device.Ready a) (device.Ready b) (device.Short c) first second = absurd second
  lent-then (device.Ready a) (device.Ready b) (device.Ready c) first second = (second.0 ∙ first.0, second.1 ∙ first.1, only-then a.dev b.dev c.dev first.2 second.2)

  -- ---- handed back

  pub only-of : (a b : D) → OnlyRead devices.size devices.told devices.has_sectors devices.may_leave devices.moment devices.left_since devices.faults a b → WasOnlyRead devices a b
  only-of a b read = record { size = read.size; told = read.told; kind = read.kind; crash = read.crash; time = read.time; faults = let more = read.faults in omega (arith, more) }

  pub lent-back : (x y : Device D) → WasLent devices x y → IsHandedBack devices (device_of x) (device_of y)
  lent-back device.None device.None lent = tt
  lent-back device.None (device.Short b) lent = absurd lent
  lent-back device.None (device.Ready b) lent = absurd lent
  lent-back (device.Short a) device.None lent = absurd lent
  lent-back (device.Short a) (device.Short b) lent = subst (WasOnlyRead devices a) (sym lent) (only-same a)
  lent-back (device.Short a) (device.Ready b) lent = absurd lent
  lent-back (device.Ready a) device.None lent = absurd lent
  lent-back (device.Ready a) (device.Short b) lent = absurd lent
  lent-back (device.Ready a) (device.Ready b) lent = lent.2

  -- what callers may read is what is lent
  pub usable-lent : (x : Device D) → IsRightKind devices x → usable devices (device_of x) ≡ lent_in x
  usable-lent device.None kind = refl
  usable-lent (device.Short dev) kind = let short : nat_lt (devices.size dev) least_ring_end ≡ true = grind (arith, nat_tests, kind) in rw short refl
  usable-lent (device.Ready l2) kind = let long : nat_lt (devices.size l2.dev) least_ring_end ≡ false = grind (arith, nat_tests, kind) in rw long refl

  -- one that isn't touched is none that is lost
  pub nothing-lost : (cache : Option D) → MayLose devices cache cache
  nothing-lost None = tt
  nothing-lost (Some d) = (refl, refl, omega arith)

  -- ---- forks, one after another

  pub gives-more : (forks : List (Option D)) (fork : Option D) (a b c : Option D) → GivesForks devices forks a b → GivesFork devices fork b c → GivesForks devices (forks ++ fork ∷ []) a c
  gives-more [] fork a b c gave once = (c, subst (λ (x : Option D). GivesFork devices fork x c) gave once, refl)
  gives-more (f ∷ forks) fork a b c gave once = (gave.0, gave.1, gives-more forks fork gave.0 b c gave.2 once)
