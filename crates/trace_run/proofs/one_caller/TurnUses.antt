-- The cache device behind a line of one caller's trace that the feeder does.
use Rattle.std.proofs.Common.{◌≡◌, ℕ, zero, suc, Bool, false, ◌||◌, List, [], ◌∷◌, Some, inl, inr, sym, ap, ◌∙◌}
use Rattle.std.specs.Prelude.{slice_get}
use Rattle.std.specs.List.{list_any}
use Rattle.std.proofs.lemmas.Bool.{false≢true}
use Rattle.arc_lists.proofs.Tables.{cases_true}
use Rattle.vdev_io.specs.declared.device.CacheDev.{Ghosts}
use Rattle.turn_table.specs.Places.{Place}
use Rattle.arc_table.specs.Cache.{Cache}
use Rattle.arc_table.specs.Items.{Meanings}
use Rattle.arc_table.specs.declared.view.Known.{Known}
use Rattle.trace_text.specs.declared.op.Op.{Op}
use Rattle.trace_text.specs.declared.op.Op.TheVariants as ops
use Rattle.trace_text.specs.declared.reply.Reply.{Reply}
use Rattle.trace_run.specs.declared.device.Device.{Device}
use Rattle.trace_run.specs.Feeds.{DoesFeeds, is_feed}
use Rattle.trace_run.specs.callers.Beside.{WasInUse}
use Rattle.trace_run.proofs.callers.InUse.{fed-kind}

pub fed-in-use : {C D : Type 0} (m : Meanings C) (devices : Ghosts D) (cache : Cache) (a b : Device D) (p q : Place (Known C)) (reply : Reply) → DoesFeeds m devices cache (ops.Feed ∷ []) (reply ∷ []) a b p q → WasInUse devices (ops.Feed ∷ []) a b
fed-in-use m devices cache a b p q reply fed = record { kind = fed-kind m devices cache fed.feeds a b p q fed.made; unfed = λ none. absurd (false≢true (sym none)) }

unasked-at : (os : List Op) (k : ℕ) (op : Op) → list_any is_feed os ≡ false → slice_get os k ≡ Some op → is_feed op ≡ false
unasked-at [] k op none at = cc
unasked-at (o ∷ os) zero op none at = elim (cases_true (is_feed o)) [
  | inl is ↦ absurd (false≢true (sym none ∙ (λ i. is i || list_any is_feed os)))
  | inr not_it ↦ (let same : o ≡ op = cc in ap is_feed (sym same) ∙ not_it)
]
unasked-at (o ∷ os) (suc k) op none at = elim (cases_true (is_feed o)) [
  | inl is ↦ absurd (false≢true (sym none ∙ (λ i. is i || list_any is_feed os)))
  | inr not_it ↦ unasked-at os k op ((λ i. sym not_it i || list_any is_feed os) ∙ none) at
]

-- what was so of one line is so of all
pub line-in-use : {D : Type 0} (devices : Ghosts D) (os : List Op) (k : ℕ) (op : Op) (a b : Device D) → slice_get os k ≡ Some op → WasInUse devices (op ∷ []) a b → WasInUse devices os a b
line-in-use devices os k op a b at use_of = record { kind = use_of.kind; unfed = λ none. use_of.unfed (ap (λ (x : Bool). x || false) (unasked-at os k op none at)) }
