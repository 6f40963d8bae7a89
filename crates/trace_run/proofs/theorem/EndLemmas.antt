-- What is told of a closed cache's parties, by their places, and of its shards' histories.
use Rattle.std.proofs.Common.{◌≡◌, ℕ, zero, suc, ◌<◌, Bool, cond, List, [], ◌∷◌, length, map, refl, sym, ap, ◌∙◌, subst, arith}
use Rattle.std.specs.Prelude.{slice_index_or}
use Rattle.std.specs.List.{AllByRecursion}
use mathlib.Core.Option.{some, some-injective, some-ne-none}
use lib.ListN.{get_elem?}
use Rattle.blk_ptr.specs.declared.ptr.Ptr.{Ptr}
use Rattle.arc_core.specs.declared.config.Config.{Config}
use Rattle.arc_core.specs.declared.event.Event.{Event}
use Rattle.arc_core.specs.Replay.{replay}
use Rattle.arc_core.specs.ShardLog.{ShardLog}
use Rattle.turn_table.specs.Places.{Place, ShowAll}
use Rattle.arc_table.specs.declared.view.Known.{Known}
use Rattle.arc_table.specs.Cache.{Cache}
use Rattle.arc_table.specs.Telling.{opening_of}
use Rattle.arc_check.specs.Judging.{end_of}
use Rattle.trace_text.specs.declared.ends.ShardEnd.{ShardEnd}
use Rattle.trace_run.specs.Ends.{ends_of}
use Rattle.trace_run.specs.KeptBlocks.{IsIdle, Stands, is_ptr, times}
use Rattle.trace_run.proofs.KeptBlockLemmas.{is_ptr-same, times-cons}

-- what a party knew at the end, by its number
module _ {C : Type 0} where
  pub shown-at : (views : List (Known C)) (ps : List (Place (Known C))) (k : ℕ) (p : Place (Known C)) → get_elem? ps k ≡ some p → ShowAll views ps → get_elem? views p.number ≡ some p.own
  shown-at views [] k p at shown = absurd (some-ne-none p (sym at))
  shown-at views (x ∷ xs) zero p at shown = subst (λ (y : Place (Known C)). get_elem? views y.number ≡ some y.own) (some-injective x p at) shown.0.0
  shown-at views (x ∷ xs) (suc k) p at shown = shown-at views xs k p at shown.1

-- ---- lists of histories

pub all-logs : (P : List Event → Type 0) (logs : List ShardLog) → ((i : ℕ) (l : ShardLog) → get_elem? logs i ≡ some l → P l.history) → AllByRecursion P (map (λ log. log.history) logs)
all-logs P [] each = tt
all-logs P (x ∷ xs) each = (each 0 x refl, all-logs P xs (λ i l at. each (suc i) l at))

pub ends-of-logs : (g : Config) (logs : List ShardLog) → ((i : ℕ) (l : ShardLog) → get_elem? logs i ≡ some l → replay (opening_of g) l.history ≡ l.now)
    → map (λ log. end_of log.now) logs ≡ ends_of g (map (λ log. log.history) logs)
ends-of-logs g [] each = refl
ends-of-logs g (x ∷ xs) each =
    ap (λ (s : ShardEnd). s ∷ map (λ log. end_of log.now) xs) (ap end_of (sym (each 0 x refl)))
    ∙ ap (λ (l : List ShardEnd). end_of (replay (opening_of g) x.history) ∷ l) (ends-of-logs g xs (λ i l at. each (suc i) l at))

pub log-at : (logs : List ShardLog) (i : ℕ) → i < length (map (λ (log : ShardLog). log.history) logs)
    → (l : ShardLog) × (get_elem? logs i ≡ some l) × (slice_index_or (map (λ (log : ShardLog). log.history) logs) i [] ≡ l.history)
log-at [] i inside = absurd (omega arith)
log-at (x ∷ xs) zero inside = (x, refl, refl)
log-at (x ∷ xs) (suc i) inside = log-at xs i (omega arith)

pub history-of : (logs : List ShardLog) (i : ℕ) (h : List Event) → get_elem? (map (λ (log : ShardLog). log.history) logs) i ≡ some h → (l : ShardLog) × (get_elem? logs i ≡ some l) × (l.history ≡ h)
history-of [] i h at = absurd (some-ne-none h (sym at))
history-of (x ∷ xs) zero h at = (x, refl, some-injective x.history h at)
history-of (x ∷ xs) (suc i) h at = history-of xs i h at

-- ---- a party at the end of a run

-- nothing is listed where each pointer is listed no times
none-listed : (hs : List Ptr) → ((x : Ptr) → times x hs ≡ 0) → hs ≡ []
none-listed [] none = refl
none-listed (h ∷ hs) none =
    let one : cond {A = ℕ} (is_ptr h h) 1 0 ≡ 1 = ap (λ (b : Bool). cond {A = ℕ} b 1 0) (is_ptr-same h) in
    absurd (omega (arith, none h, times-cons h h hs, one))

pub stands-idle : {C : Type 0} (cache : Cache) (p : Place (Known C)) → Stands cache p [] → IsIdle p.own.ledger
stands-idle cache p stands = record { holds = none-listed p.own.ledger.holds stands.listed; readings = stands.idle }
