-- What a look at a text answers, by how it ended.
use Rattle.std.specs.Prelude.{◌≡◌, ℕ, List, Bool, true, false}
use Rattle.std.specs.Io.KnownBytes.{Appends}
use Rattle.trace_text.specs.Grammar.{longest_text}
use Rattle.arc_lint.specs.declared.ended.Ended.{Ended}
use Rattle.arc_lint.specs.declared.ended.Ended.TheVariants.{Fine, Usage, Faulty, SourceFault, SinkFault, NoMemory}
use Rattle.arc_lint.specs.declared.verdict.Format.{Format}
use Rattle.arc_lint.specs.declared.verdict.Verdict.{Verdict}
use Rattle.arc_lint.specs.declared.verdict.Verdict.TheVariants.{Trace, Pages, Log, Bad}
use Rattle.vdev_io.specs.Streams.{AppendsFront, Gives, NoneFailed, OneFailed, StreamState}
use Rattle.arc_lint.specs.Told.{verdict_text}
use Rattle.arc_lint.specs.Verdict.{IsVerdict}

-- the verdict is a fault
abbrev pub is_fault : Verdict → Bool
is_fault (Trace declared) = false
is_fault (Pages count) = false
is_fault (Log config count) = false
is_fault (Bad line kind) = true

-- The source gave this text, all that it had as far as it tells, by calls of which none failed, and this is the verdict on it.
pub record WasSeen (format : Format) (before after : StreamState) (text : List ℕ) (verdict : Verdict) : Type 0 where
  pub given : Gives before.told after.told longest_text text
  pub unfailed : NoneFailed before after
  pub right : IsVerdict format text verdict

-- The source was read and its verdict written, by calls of which none failed. The verdict is a fault or not, as is said here.
pub record Tells (format : Format) (source_before source_after sink_before sink_after : StreamState) (faulty : Bool) : Type 0 where
  pub text : List ℕ
  pub verdict : Verdict
  pub seen : WasSeen format source_before source_after text verdict
  pub told : is_fault verdict ≡ faulty
  pub written : Appends sink_before.told sink_after.told (verdict_text format text verdict)
  pub unfailed : NoneFailed sink_before sink_after

-- The source was read, and a front of its verdict written before a call of the sink failed.
pub record TellsFront (format : Format) (source_before source_after sink_before sink_after : StreamState) : Type 0 where
  pub text : List ℕ
  pub verdict : Verdict
  pub seen : WasSeen format source_before source_after text verdict
  pub written : AppendsFront sink_before.told sink_after.told (verdict_text format text verdict)
  pub failed : OneFailed sink_before sink_after

-- What was read and written: the verdict, or a front of it where the sink failed, and else nothing. A look never ends for its words.
abbrev pub Answers : Format → (source_before source_after sink_before sink_after : StreamState) → Ended → Type 0
Answers format source_before source_after sink_before sink_after Fine = Tells format source_before source_after sink_before sink_after false
Answers format source_before source_after sink_before sink_after Faulty = Tells format source_before source_after sink_before sink_after true
Answers format source_before source_after sink_before sink_after SourceFault = OneFailed source_before source_after × (sink_after ≡ sink_before)
Answers format source_before source_after sink_before sink_after SinkFault = TellsFront format source_before source_after sink_before sink_after
Answers format source_before source_after sink_before sink_after NoMemory = NoneFailed source_before source_after × (sink_after ≡ sink_before)
Answers format source_before source_after sink_before sink_after Usage = ⊥
