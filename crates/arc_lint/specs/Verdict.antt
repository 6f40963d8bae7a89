-- What a text is found to be.
use Rattle.std.specs.Prelude.{◌≡◌, ℕ, List, length, sum_by}
use Rattle.arc_check.specs.LogText.{IsLogText}
use Rattle.arc_check.specs.LogText.{IsFirstLogFault}
use Rattle.arc_check.specs.declared.log.Log.{Log}
use Rattle.arc_core.specs.declared.config.Config.{Config}
use Rattle.trace_text.specs.Grammar.{IsFirstFault, IsTraceText}
use Rattle.trace_text.specs.Pages.{IsFirstPageFault, IsPageText}
use Rattle.trace_text.specs.declared.trace.Trace.{Trace}
use Rattle.arc_lint.specs.declared.verdict.Declared.{Declared}
use Rattle.arc_lint.specs.declared.verdict.Format.{Format}
use Rattle.arc_lint.specs.declared.verdict.Format.TheVariants as formats
use Rattle.arc_lint.specs.declared.verdict.Verdict.{Verdict}
use Rattle.arc_lint.specs.declared.verdict.Verdict.TheVariants as verdicts

-- the text is a trace, which declares this
pub record Declares (text : List ℕ) (declared : Declared) : Type 0 where
  pub trace : Trace
  pub read : IsTraceText text trace
  pub config : declared.config ≡ trace.config
  pub blocks : declared.blocks ≡ length trace.blocks
  pub objects : declared.objects ≡ length trace.objects
  pub ops : declared.ops ≡ length trace.ops

-- the text is a list of so many pages
pub record HasPages (text : List ℕ) (count : ℕ) : Type 0 where
  pub pages : List ℕ
  pub read : IsPageText text pages
  pub counted : count ≡ length pages

-- the text is a log of so many events, of a cache of these sizes
pub record HasEvents (text : List ℕ) (config : Config) (count : ℕ) : Type 0 where
  pub log : Log
  pub read : IsLogText text log
  pub sizes : config ≡ log.config
  pub counted : count ≡ sum_by length log.histories

-- The text is what it is to be, and this is what it declares; or it is not, and this is its first line at fault with the kind, as the program tells them.
abbrev pub IsVerdict : Format → List ℕ → Verdict → Type 0
IsVerdict formats.Trace text (verdicts.Trace declared) = Declares text declared
IsVerdict formats.Trace text (verdicts.Bad line kind) = IsFirstFault text line kind
IsVerdict formats.Trace text (verdicts.Pages count) = ⊥
IsVerdict formats.Trace text (verdicts.Log config count) = ⊥
IsVerdict formats.Pages text (verdicts.Pages count) = HasPages text count
IsVerdict formats.Pages text (verdicts.Bad line kind) = IsFirstPageFault text line kind
IsVerdict formats.Pages text (verdicts.Trace declared) = ⊥
IsVerdict formats.Pages text (verdicts.Log config count) = ⊥
IsVerdict formats.Log text (verdicts.Log config count) = HasEvents text config count
IsVerdict formats.Log text (verdicts.Bad line kind) = IsFirstLogFault text line kind
IsVerdict formats.Log text (verdicts.Trace declared) = ⊥
IsVerdict formats.Log text (verdicts.Pages count) = ⊥
