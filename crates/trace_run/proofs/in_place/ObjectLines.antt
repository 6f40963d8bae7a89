-- A line on a block of an object that its caller finds, and of which what is asked for ends inside every size, is refused only by a fault of the pool.
use Rattle.std.proofs.Common.{◌≡◌, ◌⊎◌, ℕ, ◌+◌, ◌≤◌, ◌==◌, true, false, List, [], ◌∷◌, ◌++◌, Option, Some, None, IfSome, refl, sym, ap, ◌∙◌, subst, inl, inr, arith}
use Rattle.std.specs.Prelude.{slice_get}
use Rattle.std.specs.List.{AllByRecursion, list_any}
use Rattle.std.specs.Option.{option_map, option_map_or}
use Rattle.arc_lists.proofs.Tables.{cases_true}
use Rattle.blk_ptr.specs.declared.ptr.Ptr.{Ptr}
use Rattle.dbuf_state.specs.History.{Leads}
use Rattle.dbuf_state.specs.Objects.{PlainCell, opening_cell}
use Rattle.dbuf_state.specs.Oids.{oid_eq}
use Rattle.dbuf_state.specs.Outline.{mapped_at, mapped_size, outline_after, outline_of}
use Rattle.dbuf_state.specs.declared.event.CellEvent.{CellEvent}
use Rattle.dbuf_state.specs.declared.event.CellEvent.TheVariants as events
use Rattle.dbuf_state.specs.declared.oid.Oid.{Oid}
use Rattle.dbuf_state.specs.declared.state.Mapped.{Mapped}
use Rattle.dbuf_state.specs.declared.state.Mapped.TheVariants.{Clean}
use Rattle.dbuf_state.specs.declared.state.Mapping.{Mapping}
use Rattle.dbuf_state.specs.declared.window.Window.{Window}
use Rattle.dbuf_state.proofs.OutlineLemmas.{leads-outline}
use Rattle.dbuf_cells.specs.Laws.{is_put_of}
use Rattle.dbuf_cells.specs.Places.{cell_of}
use Rattle.trace_text.specs.declared.mapping.Mapping.{Mapping as ObjectLine}
use Rattle.trace_text.specs.declared.op.Op.TheVariants as ops
use Rattle.trace_text.specs.declared.reply.Refusal.{Refusal}
use Rattle.trace_text.specs.declared.reply.Refusal.TheVariants as refusals
use Rattle.trace_text.specs.declared.reply.Reply.{Reply}
use Rattle.trace_text.specs.declared.reply.Reply.TheVariants as replies
use Rattle.trace_text.specs.declared.trace.Trace.{Trace}
use Rattle.trace_run.specs.Answers.{is_pool_fault, is_refusal}
use Rattle.trace_run.specs.InPlace.{EndsInAll, IsReadable, begins_with, opened_ptr}
use Rattle.trace_run.specs.Openings.{mapping_of, mappings_in, opening_map}
use Rattle.trace_run.specs.callers.Together.{IsFirstPlace}
use Rattle.trace_run.specs.callers.WorkLines.{HasFront}
use Rattle.trace_run.specs.dbufs.ObjectReplies.{AnswersDone, AnswersWindow, RefusesAt, RefusesWhole}
use Rattle.trace_run.specs.dbufs.Objects.{Brought}
use Rattle.trace_run.proofs.one_caller.TellLemmas.{all-map}
use Rattle.trace_run.proofs.in_place.EventLines.{IsOfLines}
use Rattle.trace_run.proofs.in_place.Mapped.{EndsIn, EndsInPut, mapped-told, mapped_through, oid-is, opened_mapped, put-mapped, through-some}
use Rattle.trace_run.proofs.in_place.ReadableFront.{IsThereIn, is_unread, leads-in, readable-front}

-- ---- the pointer with which a block begins is a declared one

abbrev of_ptr : ObjectLine → Option Ptr → List Mapping
of_ptr line o = option_map_or (λ ptr. record { at = line.at; ptr = ptr } ∷ []) o []

module _ (cells i : ℕ) (blocks : List Ptr) (at : Oid) (ptr : Ptr) where
  abbrev pub IsDeclaredPtr : Type 0
  IsDeclaredPtr = (k : ℕ) × (slice_get blocks k ≡ Some ptr)

  some-ptr : (a b : Ptr) → ◌≡◌ {A = Option Ptr} (Some a) (Some b) → a ≡ b
  some-ptr a b is = cc

  one-declared : (line : ObjectLine) (o : Option Ptr) (rest : List Mapping) → slice_get blocks line.block ≡ o → (opened_ptr at rest ≡ Some ptr → IsDeclaredPtr)
      → opened_ptr at (of_ptr line o ++ rest) ≡ Some ptr → IsDeclaredPtr
  one-declared line None rest here later is = later is
  one-declared line (Some p) rest here later is = elim (cases_true (oid_eq at line.at)) [
    | inl near ↦ (line.block, here ∙ (let found : ◌≡◌ {A = Option Ptr} (Some p) (Some ptr) = rw near at is in found))
    | inr far ↦ later (rw far at is)
  ]

  pub opened-declared : (objects : List ObjectLine) → opened_ptr at (mappings_in cells i blocks objects) ≡ Some ptr → IsDeclaredPtr
  opened-declared [] is = absurd (let clash : ◌≡◌ {A = Option Ptr} None (Some ptr) = is in cc)
  opened-declared (line ∷ lines) is = elim (cases_true (cell_of cells line.at == i)) [
    | inl here ↦ one-declared line (slice_get blocks line.block) (mappings_in cells i blocks lines) refl (opened-declared lines)
        (let found : opened_ptr at (mapping_of blocks line ++ mappings_in cells i blocks lines) ≡ Some ptr = rw here at is in found)
    | inr other ↦ opened-declared lines (rw other at is)
  ]

-- ---- what the caller finds

module _ (len : ℕ) (image : List ℕ) (trace : Trace) (at : Oid) (es : List CellEvent) where
  -- the block was written whole, or it begins with a pointer that can be read
  abbrev pub IsThere : Type 0
  IsThere = (list_any (is_put_of at) es ≡ true) ⊎ ((ptr : Ptr) × (begins_with trace at ≡ Some ptr) × IsReadable len image ptr)

  module _ (limit : ℕ) (opening : List Mapping) (opens : opening ≡ opening_map trace (cell_of trace.config.cells at)) where
    first-is : (ptr : Ptr) → begins_with trace at ≡ Some ptr → opened_mapped at opening ≡ Some (Clean ptr)
    first-is ptr begins = ap (λ (ms : List Mapping). opened_mapped at ms) opens ∙ ap (option_map (λ (p : Ptr). Clean p)) begins

    pub not-none : IsThere → mapped_at at (outline_after limit opening es) ≡ None → ⊥
    not-none (inl put) none = put-mapped at (opened_mapped at opening) es put (sym (mapped-told at limit opening es) ∙ none)
    not-none (inr begins) none =
        through-some at (Clean begins.0) es (ap (λ (m : Option Mapped). mapped_through at m es) (sym (first-is begins.0 begins.1)) ∙ (sym (mapped-told at limit opening es) ∙ none))

    -- a pointer with which it begins is a declared one, whose bytes are told still
    pub there-now : (place : ℕ) (now : List ℕ) → IsFirstPlace len trace.blocks place → HasFront place (Some image) (Some now) → IsThere → IsThereIn len now at opening es
    there-now place now is_place front (inl put) = inl put
    there-now place now is_place front (inr begins) =
        let declared = opened-declared trace.config.cells (cell_of trace.config.cells at) trace.blocks at begins.0 trace.objects begins.1 in
        let behind = is_place.behind declared.0 begins.0 declared.1 begins.2.valid in
        inr (begins.0, ap (opened_ptr at) opens ∙ begins.1, readable-front len place image now begins.0 front behind begins.2)

    -- what ends inside every size ends inside the block
    put-ends : (last : ℕ) → EndsInAll trace at last → (e : CellEvent) → IsOfLines trace.config.callers trace.ops e → EndsInPut at last e
    put-ends last ends (events.Put n b size fill) is = λ same.
        let line : slice_get trace.ops is.0 ≡ Some (ops.Put n is.1 at size fill) = subst (λ (x : Oid). slice_get trace.ops is.0 ≡ Some (ops.Put n is.1 x size fill)) (sym (oid-is at b same)) is.2 in
        ends.puts is.0 n is.1 size fill line
    put-ends last ends (events.Get n b) is = tt
    put-ends last ends (events.Patch n b from bytes) is = tt
    put-ends last ends (events.Pin n b) is = tt
    put-ends last ends (events.Unpin n b) is = tt
    put-ends last ends (events.Load n b held) is = tt
    put-ends last ends (events.Evict n b) is = tt
    put-ends last ends (events.Synced n b ptr held) is = tt
    put-ends last ends (events.End n) is = tt

    opened-ends : (last : ℕ) (o : Option Ptr) → IfSome o (λ ptr. last ≤ ptr.key.size) → EndsIn last (option_map (λ (p : Ptr). Clean p) o)
    opened-ends last None ends = tt
    opened-ends last (Some p) ends = ends

    pub inside : (bases : List (List ℕ)) (end : PlainCell) → Leads (opening_cell limit opening) es bases end → AllByRecursion (IsOfLines trace.config.callers trace.ops) es
        → (last : ℕ) → EndsInAll trace at last → (m : Mapped) → mapped_at at (outline_after limit opening es) ≡ Some m → last ≤ mapped_size m
    inside bases end leads all last ends m is =
        let start : PlainCell = opening_cell limit opening in
        let opened : EndsIn last (opened_mapped at opening) = subst (λ (ms : List Mapping). EndsIn last (opened_mapped at ms)) (sym opens) (opened-ends last (begins_with trace at) ends.opened) in
        let begun : EndsIn last (mapped_at at (outline_of start)) = subst (EndsIn last) (sym (mapped-told at limit opening [])) opened in
        let ended = leads-in at last start es bases end leads (all-map (IsOfLines trace.config.callers trace.ops) (EndsInPut at last) es (put-ends last ends) all) begun in
        let told : mapped_at at (outline_of end) ≡ mapped_at at (outline_after limit opening es) = ap (mapped_at at) (leads-outline start es bases end leads) in
        subst (EndsIn last) (told ∙ is) ended

    -- ---- so it is not refused, where its key and its bytes are not

    module _ (now : Option (List ℕ)) (brought : Brought) (there : IsThere) where
      pub refuse-at : (last : ℕ) → ((m : Mapped) → mapped_at at (outline_after limit opening es) ≡ Some m → last ≤ mapped_size m) → (refusal : Refusal) → (is_unread refusal ≡ true → ⊥) → RefusesAt len now limit opening es brought at last refusal
          → is_pool_fault (replies.Refused refusal) ≡ true
      refuse-at last ends (refusals.NoBlock named) read is = absurd (not-none there is.1)
      refuse-at last ends (refusals.Range end size) read is = absurd (
          let a = ends is.mapped is.there in let b = is.end_is in let c = is.size_is in let d = is.past in omega (arith, a, b, c, d))
      refuse-at last ends (refusals.Key why) read is = absurd (read refl)
      refuse-at last ends refusals.PoolFault read is = refl
      refuse-at last ends (refusals.Mismatch found) read is = absurd (read refl)
      refuse-at last ends (refusals.NoHold block) read is = absurd is
      refuse-at last ends (refusals.NoPin named) read is = absurd is
      refuse-at last ends refusals.NoMemory read is = absurd is

      nothing-inside : (m : Mapped) → mapped_at at (outline_after limit opening es) ≡ Some m → 0 ≤ mapped_size m
      nothing-inside m is = omega arith

      pub refuse-whole : (refusal : Refusal) → (is_unread refusal ≡ true → ⊥) → RefusesWhole len now limit opening es brought at refusal → is_pool_fault (replies.Refused refusal) ≡ true
      refuse-whole (refusals.NoBlock named) read is = refuse-at 0 nothing-inside (refusals.NoBlock named) read is
      refuse-whole (refusals.Key why) read is = absurd (read refl)
      refuse-whole refusals.PoolFault read is = refl
      refuse-whole (refusals.Mismatch found) read is = absurd (read refl)
      refuse-whole (refusals.Range end size) read is = absurd is
      refuse-whole (refusals.NoHold block) read is = absurd is
      refuse-whole (refusals.NoPin named) read is = absurd is
      refuse-whole refusals.NoMemory read is = absurd is

-- why a block is not there is the same where no range is asked for
pub whole-at : (len : ℕ) (now : Option (List ℕ)) (limit : ℕ) (opening : List Mapping) (es : List CellEvent) (brought : Brought) (at : Oid) (refusal : Refusal) → RefusesWhole len now limit opening es brought at refusal → RefusesAt len now limit opening es brought at 0 refusal
whole-at len now limit opening es brought at (refusals.NoBlock named) is = is
whole-at len now limit opening es brought at (refusals.Key why) is = is
whole-at len now limit opening es brought at refusals.PoolFault is = is
whole-at len now limit opening es brought at (refusals.Mismatch found) is = is
whole-at len now limit opening es brought at (refusals.Range end size) is = absurd is
whole-at len now limit opening es brought at (refusals.NoHold block) is = absurd is
whole-at len now limit opening es brought at (refusals.NoPin named) is = absurd is
whole-at len now limit opening es brought at refusals.NoMemory is = absurd is

-- ---- by the reply

-- what is done is not refused, or for such a cause
pub done-fine : (len : ℕ) (now : Option (List ℕ)) (limit : ℕ) (opening : List Mapping) (es : List CellEvent) (brought : Brought) (Why : Refusal → Type 0) (reply : Reply)
    → ((refusal : Refusal) → reply ≡ replies.Refused refusal → Why refusal → is_pool_fault (replies.Refused refusal) ≡ true) → AnswersDone len now limit opening es brought Why reply → is_pool_fault reply ≡ false → is_refusal reply ≡ false
done-fine len now limit opening es brought Why replies.Done why is none = refl
done-fine len now limit opening es brought Why (replies.Refused refusal) why is none = sym (why refusal refl is) ∙ none
done-fine len now limit opening es brought Why (replies.Got size shown) why is none = absurd is
done-fine len now limit opening es brought Why (replies.Read served digest shown) why is none = absurd is
done-fine len now limit opening es brought Why (replies.Kept served) why is none = absurd is
done-fine len now limit opening es brought Why replies.Dropped why is none = absurd is
done-fine len now limit opening es brought Why (replies.Fed report) why is none = absurd is
done-fine len now limit opening es brought Why replies.FedNone why is none = absurd is
done-fine len now limit opening es brought Why (replies.Synced group blocks bytes) why is none = absurd is
done-fine len now limit opening es brought Why (replies.Capped c) why is none = absurd is

pub is-done : (len : ℕ) (now : Option (List ℕ)) (limit : ℕ) (opening : List Mapping) (es : List CellEvent) (brought : Brought) (reply : Reply) → AnswersDone len now limit opening es brought (λ refusal. ⊥) reply → reply ≡ replies.Done
is-done len now limit opening es brought replies.Done is = refl
is-done len now limit opening es brought (replies.Refused refusal) is = absurd is
is-done len now limit opening es brought (replies.Got size shown) is = absurd is
is-done len now limit opening es brought (replies.Read served digest shown) is = absurd is
is-done len now limit opening es brought (replies.Kept served) is = absurd is
is-done len now limit opening es brought replies.Dropped is = absurd is
is-done len now limit opening es brought (replies.Fed report) is = absurd is
is-done len now limit opening es brought replies.FedNone is = absurd is
is-done len now limit opening es brought (replies.Synced group blocks bytes) is = absurd is
is-done len now limit opening es brought (replies.Capped c) is = absurd is

pub window-fine : (len : ℕ) (now : Option (List ℕ)) (limit : ℕ) (opening : List Mapping) (es : List CellEvent) (brought : Brought) (at : Oid) (w : Window) (reply : Reply)
    → ((refusal : Refusal) → reply ≡ replies.Refused refusal → RefusesAt len now limit opening es brought at (w.at + w.len) refusal → is_pool_fault (replies.Refused refusal) ≡ true) → AnswersWindow len now limit opening es brought at w reply → is_pool_fault reply ≡ false
    → is_refusal reply ≡ false
window-fine len now limit opening es brought at w (replies.Got size shown) why is none = refl
window-fine len now limit opening es brought at w (replies.Refused refusal) why is none = sym (why refusal refl is) ∙ none
window-fine len now limit opening es brought at w replies.Done why is none = absurd is
window-fine len now limit opening es brought at w (replies.Read served digest shown) why is none = absurd is
window-fine len now limit opening es brought at w (replies.Kept served) why is none = absurd is
window-fine len now limit opening es brought at w replies.Dropped why is none = absurd is
window-fine len now limit opening es brought at w (replies.Fed report) why is none = absurd is
window-fine len now limit opening es brought at w replies.FedNone why is none = absurd is
window-fine len now limit opening es brought at w (replies.Synced group blocks bytes) why is none = absurd is
window-fine len now limit opening es brought at w (replies.Capped c) why is none = absurd is
