-- Two runs over the same bytes begin alike: their starts found the same on the cache device and left alike rings, and what stands before the first line is one.
use Rattle.std.proofs.Common.{◌≡◌, ◌<◌, ◌≤◌, ◌++◌, ℕ, List, Option, None, Some, inl, inr, refl, sym, ap, ◌∙◌, subst}
use Rattle.std.specs.Prelude.{IfSome, nat_lt}
use Rattle.std.proofs.lemmas.Bool.{cases_lt, cases_Bool}
use Rattle.vdev_io.specs.Calls.{Call, DeviceCall}
use Rattle.vdev_io.specs.declared.device.CacheDev.{Ghosts as Devices}
use Rattle.vdev_io.specs.declared.pool.Pool.{Ghosts}
use Rattle.arc_core.specs.PlainShard.{PlainShard}
use Rattle.l2_log.specs.Rules.{least_ring_end}
use Rattle.l2_dev.specs.Cursor.{CursorState}
use Rattle.l2_dev.specs.Rebuilding.{IsStarted, ring_end_of}
use Rattle.l2_dev.specs.declared.stop.Stop.TheVariants as stops
use Rattle.l2_feed.specs.Alike.{AreCursorsAlike}
use Rattle.l2_feed.specs.Plain.{answers_of}
use Rattle.trace_text.specs.declared.rebuilt.Rebuilt.{Rebuilt}
use Rattle.trace_text.specs.declared.trace.Trace.{Trace}
use Rattle.trace_run.specs.Devices.{WasOnlyRead, usable}
use Rattle.run_laws.specs.Alike.{AreAlikeSoFar, AreDevicesAlike, BeginAlike, FailAlike, OneRun, Starts, StartsSo, TellTheSame, begun, device_answers}
use Rattle.run_laws.proofs.Rows.{so-far-rest}
use Rattle.run_laws.proofs.StartOne.{starts-one}

-- the first feeds find the same ring, and name the same log blocks; or there is none, since no device was started
abbrev pub AreFirstAlike : (one other : Option CursorState) → Type 0
AreFirstAlike None None = Unit {0}
AreFirstAlike None (Some other) = ⊥
AreFirstAlike (Some one) None = ⊥
AreFirstAlike (Some one) (Some other) = AreCursorsAlike one other

-- what is known where it is told
if-told : {X : Type 0} (o : Option X) (Of : X → Type 0) (x : X) → o ≡ Some x → IfSome o Of → Of x
if-told {X} o Of x is known = subst (λ (p : Option X). IfSome p Of) is known

rebuilts-one : (one other : Rebuilt) → other.list ≡ one.list → other.stop ≡ one.stop → ◌≡◌ {A = Option Rebuilt} (Some other) (Some one)
rebuilts-one one other list stop = λ i. Some (record { list = list i; stop = stop i })

module _ {D : Type 0} (devices : Devices D) where
  -- ---- the devices behind their starts

  -- what was only read tells what it told
  read-same : (one one_now other other_now : D) → TellTheSame devices (Some one) (Some other) → WasOnlyRead devices one one_now → WasOnlyRead devices other other_now → TellTheSame devices (Some one_now) (Some other_now)
  read-same one one_now other other_now same read other_read = (other_read.size ∙ (same.0 ∙ sym read.size), (same.1.0, read.told ∙ same.1.1, other_read.told ∙ same.1.2))

  -- one that is too short is lent in neither run
  usable-same : (one other : Option D) → TellTheSame devices one other → TellTheSame devices (usable devices one) (usable devices other)
  usable-same None None same = tt
  usable-same None (Some other) same = absurd same
  usable-same (Some one) None same = absurd same
  usable-same (Some one) (Some other) same =
      let sizes : nat_lt (devices.size other) least_ring_end ≡ nat_lt (devices.size one) least_ring_end = ap (λ (n : ℕ). nat_lt n least_ring_end) same.0 in
      elim (cases_Bool (nat_lt (devices.size one) least_ring_end)) [
        | inl short ↦ rw short (rw (sizes ∙ short) tt)
        | inr long ↦ rw long (rw (sizes ∙ long) same)
      ]

  -- ---- what both starts found

  pub record AreFoundSame (started other_started : Option D) (reads others : List DeviceCall) (first other_first : Option CursorState) (rebuilt other_rebuilt : Option Rebuilt) : Type 0 where
    pub device : TellTheSame devices started other_started
    pub answers : answers_of others ≡ answers_of reads
    pub cursors : AreFirstAlike first other_first
    pub found : other_rebuilt ≡ rebuilt

  module _ (one one_now other other_now : D) (reads others : List DeviceCall) (first other_first : Option CursorState) (rebuilt other_rebuilt : Rebuilt) (same : TellTheSame devices (Some one) (Some other))
      (start : StartsSo devices one one_now reads first rebuilt) (other_start : StartsSo devices other other_now others other_first other_rebuilt) (us vs : List Call) (rows : AreAlikeSoFar (answers_of reads ++ us) (answers_of others ++ vs)) where
    abbrev FoundSame : Type 0
    FoundSame = AreFoundSame (Some one_now) (Some other_now) reads others first other_first (Some rebuilt) (Some other_rebuilt)

    -- both devices are too short
    short-same : devices.size one < least_ring_end → FoundSame
    short-same short =
        let s = start.short short in
        let t = other_start.short (subst (λ (n : ℕ). n < least_ring_end) (sym same.0) short) in
        record {
          device = read-same one one_now other other_now same start.only other_start.only;
          answers = ap answers_of (t.3 ∙ sym s.3);
          cursors = subst (λ (z : Option CursorState × Option CursorState). AreFirstAlike z.0 z.1) (λ i. (sym s.2 i, sym t.2 i)) tt;
          found = rebuilts-one rebuilt other_rebuilt (t.0 ∙ sym s.0) (t.1 ∙ (ap (λ (n : ℕ). stops.Short n) same.0 ∙ sym s.1));
        }

    long-same : least_ring_end ≤ devices.size one → FoundSame
    long-same long =
        let s = start.long long in
        let t = other_start.long (subst (λ (n : ℕ). least_ring_end ≤ n) (sym same.0) long) in
        let end : ℕ = ring_end_of (devices.size one) in
        let x : IsStarted end same.1.0 reads s.1 rebuilt.list rebuilt.stop = if-told (devices.told one) (λ image. IsStarted end image reads s.1 rebuilt.list rebuilt.stop) same.1.0 same.1.1 s.4 in
        let y : IsStarted end same.1.0 others t.1 other_rebuilt.list other_rebuilt.stop =
        subst (λ (n : ℕ). IsStarted (ring_end_of n) same.1.0 others t.1 other_rebuilt.list other_rebuilt.stop) same.0
        (if-told (devices.told other) (λ image. IsStarted (ring_end_of (devices.size other)) image others t.1 other_rebuilt.list other_rebuilt.stop) same.1.0 same.1.2 t.4) in
        let both = starts-one end same.1.0 reads others s.1 t.1 rebuilt.list other_rebuilt.list rebuilt.stop other_rebuilt.stop us vs x y rows in
        record {
          device = read-same one one_now other other_now same start.only other_start.only;
          answers = ap answers_of both.reads;
          cursors = subst (λ (z : Option CursorState × Option CursorState). AreFirstAlike z.0 z.1) (λ i. (sym s.2 i, sym t.2 i)) both.cursors;
          found = rebuilts-one rebuilt other_rebuilt both.list both.stop;
        }

    found-same : FoundSame
    found-same = elim (cases_lt (devices.size one) least_ring_end) [
      | inl short ↦ short-same short
      | inr long ↦ long-same long
    ]

  starts-same : (handed started other_handed other_started : Option D) (reads others : List DeviceCall) (first other_first : Option CursorState) (rebuilt other_rebuilt : Option Rebuilt) → TellTheSame devices handed other_handed
      → Starts devices handed started reads first rebuilt → Starts devices other_handed other_started others other_first other_rebuilt → (us vs : List Call) → AreAlikeSoFar (answers_of reads ++ us) (answers_of others ++ vs)
      → AreFoundSame started other_started reads others first other_first rebuilt other_rebuilt
  starts-same None started None other_started reads others first other_first rebuilt other_rebuilt same start other_start us vs rows = record {
    device = subst (λ (z : Option D × Option D). TellTheSame devices z.0 z.1) (λ i. (sym start.0 i, sym other_start.0 i)) tt;
    answers = ap answers_of (other_start.1 ∙ sym start.1);
    cursors = subst (λ (z : Option CursorState × Option CursorState). AreFirstAlike z.0 z.1) (λ i. (sym start.2 i, sym other_start.2 i)) tt;
    found = other_start.3 ∙ sym start.3;
  }
  starts-same None started (Some other) other_started reads others first other_first rebuilt other_rebuilt same start other_start us vs rows = absurd same
  starts-same (Some one) started None other_started reads others first other_first rebuilt other_rebuilt same start other_start us vs rows = absurd same
  starts-same (Some one) None (Some other) other_started reads others first other_first rebuilt other_rebuilt same start other_start us vs rows = absurd start
  starts-same (Some one) (Some one_now) (Some other) None reads others first other_first rebuilt other_rebuilt same start other_start us vs rows = absurd other_start
  starts-same (Some one) (Some one_now) (Some other) (Some other_now) reads others first other_first None other_rebuilt same start other_start us vs rows = absurd start
  starts-same (Some one) (Some one_now) (Some other) (Some other_now) reads others first other_first (Some rebuilt) None same start other_start us vs rows = absurd other_start
  starts-same (Some one) (Some one_now) (Some other) (Some other_now) reads others first other_first (Some rebuilt) (Some other_rebuilt) same start other_start us vs rows =
      found-same one one_now other other_now reads others first other_first rebuilt other_rebuilt same start other_start us vs rows

-- ---- two runs

module _ {P D : Type 0} (pools : Ghosts P) (devices : Devices D) (trace : Trace) where
  devices-alike : (s : ℕ → PlainShard) (one other : Option D) → TellTheSame devices one other → AreDevicesAlike pools devices trace s one other
  devices-alike s None None same = tt
  devices-alike s None (Some other) same = absurd same
  devices-alike s (Some one) None same = absurd same
  devices-alike s (Some one) (Some other) same =
      record { size = same.0; image = same.1.0; other_image = same.1.0; told = same.1.1; other_told = same.1.2; long = refl; places = λ k x at. refl }

  module _ (one other : OneRun pools devices trace) where
    -- what two runs have found as their first lines begin
    pub record AreStartedSame : Type 0 where
      pub found : other.report.rebuilt ≡ one.report.rebuilt
      pub cursors : AreFirstAlike one.first other.first
      pub device : (s : ℕ → PlainShard) → AreDevicesAlike pools devices trace s one.lent other.lent
      pub device_rows : AreAlikeSoFar (device_answers pools devices trace one.run.work.lines one.run.work.feeds (begun pools devices trace one) one.in_turn.reached one.in_turn.lines)
          (device_answers pools devices trace other.run.work.lines other.run.work.feeds (begun pools devices trace other) other.in_turn.reached other.in_turn.lines)

    pub start-same : BeginAlike pools devices trace one other → FailAlike pools devices trace one other → AreStartedSame
    start-same begin fail =
        let rest : List Call = device_answers pools devices trace one.run.work.lines one.run.work.feeds (begun pools devices trace one) one.in_turn.reached one.in_turn.lines in
        let other_rest : List Call = device_answers pools devices trace other.run.work.lines other.run.work.feeds (begun pools devices trace other) other.in_turn.reached other.in_turn.lines in
        let f = starts-same devices one.handed one.started other.handed other.started one.reads other.reads one.first other.first one.report.rebuilt other.report.rebuilt begin.device one.start other.start rest other_rest fail.device in
        let lent : TellTheSame devices one.lent other.lent = subst (λ (z : Option D × Option D). TellTheSame devices z.0 z.1) (λ i. (sym one.lent_is i, sym other.lent_is i)) (usable-same devices one.started other.started f.device) in
        record {
          found = f.found;
          cursors = f.cursors;
          device = λ s. devices-alike s one.lent other.lent lent;
          device_rows = so-far-rest (answers_of one.reads) rest (answers_of other.reads) other_rest f.answers fail.device;
        }
