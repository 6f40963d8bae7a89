-- The acts of a caller's lines with its own number: of which kinds they are, and how many reads of the pool they stand for.
use Rattle.std.proofs.Common.{◌≡◌, ℕ, ◌+◌, ◌<◌, ◌==◌, nat_le, nat_lt, true, false, List, [], ◌∷◌, ◌++◌, length, length-append, Option, Some, refl, sym, ap, ◌∙◌, subst, inl, inr, arith, eq-eqb, ne_eqb}
use Rattle.std.specs.Prelude.{filter, sum_by}
use Rattle.std.specs.List.{AllByRecursion}
use Rattle.std.proofs.lemmas.Bool.Decides.{nat_tests}
use Rattle.std.proofs.lemmas.List.Elements.{filter-append}
use Rattle.std.proofs.lemmas.List.Sums.{sum_by-append}
use Rattle.std.proofs.lemmas.Nat.{mod_below}
use Rattle.arc_lists.proofs.Standing.{both}
use Rattle.arc_lists.proofs.Tables.{cases_true}
use Rattle.blk_ptr.specs.declared.ptr.Ptr.{Ptr}
use Rattle.arc_core.specs.Config.{IsConfig}
use Rattle.arc_core.specs.declared.config.Config.{Config}
use Rattle.arc_core.specs.declared.served.Served.{Served}
use Rattle.arc_core.specs.Operations.{Act, Fails, GivesBack, Keeps, Loads, MakesPrivate, Reads, RunsOut, RunsOutAtDbuf, Writes, actor_of, is_cell_of}
use Rattle.arc_table.specs.declared.view.Line.{Line as Seen}
use Rattle.arc_table.specs.Geometry.{cell_number}
use Rattle.dbuf_cells.specs.Places.{cell_of}
use Rattle.dbuf_state.specs.declared.event.CellEvent.{CellEvent}
use Rattle.dbuf_state.specs.declared.oid.Oid.{Oid}
use Rattle.dbuf_state.specs.declared.state.Mapping.{Mapping}
use Rattle.trace_text.specs.declared.op.Op.{Op}
use Rattle.trace_text.specs.declared.op.Op.TheVariants as ops
use Rattle.trace_text.specs.declared.reply.Refusal.{Refusal}
use Rattle.trace_text.specs.declared.reply.Refusal.TheVariants as refusals
use Rattle.trace_text.specs.declared.reply.Reply.{Reply}
use Rattle.trace_text.specs.declared.reply.Reply.TheVariants as replies
use Rattle.trace_run.specs.Acts.{acts_of, acts_of_drops}
use Rattle.trace_run.specs.Deeds.{Noted}
use Rattle.trace_run.specs.Effects.{calls_of, effect_of}
use Rattle.trace_run.specs.KeptReads.{KeptRead}
use Rattle.trace_run.specs.Lines.{caller_of, is_of_caller}
use Rattle.trace_run.specs.dbufs.ObjectLines.{on_object}
use Rattle.trace_run.specs.dbufs.ObjectReplies.{AnswersObject}
use Rattle.trace_run.specs.dbufs.Objects.{Brought, IsDoneWith, IsGotWith, IsRefusedWith, Line, Loaded, Nothing, OwnEvent, Refused, Work, acts_of_bringing, no_work}
use Rattle.trace_run.specs.RunWork.{AllFit, FitsBy, acts_of_caller_lines, kept_after_lines, lines_of_caller}
use Rattle.trace_run.specs.callers.WorkLines.{AnswersLine, AnswersLines, IsWorkOf, NotesLine, acts_of_work, acts_on, acts_with, acts_with_op, calls_of_lines, effect_with}
use Rattle.trace_run.specs.one_caller.OneCaller.{kept_after}
use Rattle.trace_run.specs.Tally.{AnswersNow}
use Rattle.trace_run.proofs.callers.CallerActLemmas.{caller-is}
use Rattle.trace_run.proofs.callers.GroupCounts.{Stand, reads_of_act, stand-drops, stand-line}
use Rattle.trace_run.proofs.one_caller.TellLemmas.{IsActOf, act-drops, act-of, all-append, all-map, filter-all}
use Rattle.trace_run.proofs.theorem.WorkEnds.{IsCallersAct}

-- ---- a caller's own lines

-- of all lines that fit, a caller's are its own
pub own-fits : (g : Config) (n : ℕ) (ls : List Line) → AllFit g ls → AllByRecursion (λ l. (caller_of l.op ≡ Some n) × IsWorkOf g n l) (lines_of_caller n ls)
own-fits g n [] fits = tt
own-fits g n (l ∷ ls) fits = elim (cases_true (is_of_caller n l.op)) [
  | inl his ↦ let is = caller-is n l.op his in rw his ((is, subst (λ (o : Option ℕ). FitsBy g o l) is fits.0), own-fits g n ls fits.1)
  | inr other ↦ rw other (own-fits g n ls fits.1)
]

some-is : (a b : ℕ) → ◌≡◌ {A = Option ℕ} (Some a) (Some b) → a ≡ b
some-is a b is = cc

-- ---- what was brought for a line

-- an answer reads nothing of the pool beside what was brought
abbrev Bring : Reply → Brought → Type 0
Bring reply brought = (n t cell : ℕ) → sum_by reads_of_act (acts_of_bringing n t cell brought) ≡ length (calls_of (effect_with brought reply))

refused-brings : (r : Refusal) (b : Brought) → IsRefusedWith r b → Bring (replies.Refused r) b
refused-brings refusals.PoolFault b is n t cell = subst (λ (x : Brought). sum_by reads_of_act (acts_of_bringing n t cell x) ≡ length (calls_of (effect_with x (replies.Refused refusals.PoolFault)))) (sym is.1) refl
refused-brings (refusals.Mismatch found) b is n t cell = subst (λ (x : Brought). sum_by reads_of_act (acts_of_bringing n t cell x) ≡ length (calls_of (effect_with x (replies.Refused (refusals.Mismatch found))))) (sym is.1) refl
refused-brings (refusals.Key why) b is n t cell = subst (λ (x : Brought). sum_by reads_of_act (acts_of_bringing n t cell x) ≡ length (calls_of (effect_with x (replies.Refused (refusals.Key why))))) (sym is) refl
refused-brings (refusals.Range end size) b is n t cell = subst (λ (x : Brought). sum_by reads_of_act (acts_of_bringing n t cell x) ≡ length (calls_of (effect_with x (replies.Refused (refusals.Range end size))))) (sym is) refl
refused-brings (refusals.NoBlock at) b is n t cell = subst (λ (x : Brought). sum_by reads_of_act (acts_of_bringing n t cell x) ≡ length (calls_of (effect_with x (replies.Refused (refusals.NoBlock at))))) (sym is) refl
refused-brings (refusals.NoHold block) b is n t cell = absurd is
refused-brings (refusals.NoPin at) b is n t cell = absurd is
refused-brings refusals.NoMemory b is n t cell = absurd is

loaded-brings : (reply : Reply) (ptr : Ptr) (from : Served) → Bring reply (Loaded ptr from)
loaded-brings reply ptr from n t cell = omega arith

done-brings : (reply : Reply) (b : Brought) → IsDoneWith reply b → Bring reply b
done-brings replies.Done Nothing is n t cell = refl
done-brings replies.Done (Loaded ptr from) is n t cell = loaded-brings replies.Done ptr from n t cell
done-brings replies.Done (Refused ptr) is n t cell = absurd is
done-brings (replies.Refused r) b is n t cell = refused-brings r b is n t cell
done-brings (replies.Read served digest shown) b is n t cell = absurd is
done-brings (replies.Kept served) b is n t cell = absurd is
done-brings replies.Dropped b is n t cell = absurd is
done-brings (replies.Got size shown) b is n t cell = absurd is
done-brings (replies.Fed report) b is n t cell = absurd is
done-brings replies.FedNone b is n t cell = absurd is
done-brings (replies.Synced group blocks bytes) b is n t cell = absurd is
done-brings (replies.Capped c) b is n t cell = absurd is

got-brings : (reply : Reply) (b : Brought) → IsGotWith reply b → Bring reply b
got-brings (replies.Got size shown) Nothing is n t cell = refl
got-brings (replies.Got size shown) (Loaded ptr from) is n t cell = loaded-brings (replies.Got size shown) ptr from n t cell
got-brings (replies.Got size shown) (Refused ptr) is n t cell = absurd is
got-brings (replies.Refused r) b is n t cell = refused-brings r b is n t cell
got-brings (replies.Read served digest shown) b is n t cell = absurd is
got-brings (replies.Kept served) b is n t cell = absurd is
got-brings replies.Dropped b is n t cell = absurd is
got-brings replies.Done b is n t cell = absurd is
got-brings (replies.Fed report) b is n t cell = absurd is
got-brings replies.FedNone b is n t cell = absurd is
got-brings (replies.Synced group blocks bytes) b is n t cell = absurd is
got-brings (replies.Capped c) b is n t cell = absurd is

-- a line that asks for no bytes reads nothing of the pool
put-quiet : (len : ℕ) (now : Option (List ℕ)) (limit : ℕ) (opening : List Mapping) (front : List CellEvent) (brought : Brought) (m t : ℕ) (at : Oid) (size fill : ℕ) (reply : Reply) → AnswersObject len now limit opening front brought (ops.Put m t at size fill) reply → length (calls_of (effect_of reply)) ≡ 0
put-quiet len now limit opening front brought m t at size fill replies.Done answer = refl
put-quiet len now limit opening front brought m t at size fill (replies.Refused r) answer = absurd answer
put-quiet len now limit opening front brought m t at size fill (replies.Got size_got shown) answer = absurd answer
put-quiet len now limit opening front brought m t at size fill (replies.Read served digest shown) answer = absurd answer
put-quiet len now limit opening front brought m t at size fill (replies.Kept served) answer = absurd answer
put-quiet len now limit opening front brought m t at size fill replies.Dropped answer = absurd answer
put-quiet len now limit opening front brought m t at size fill (replies.Fed report) answer = absurd answer
put-quiet len now limit opening front brought m t at size fill replies.FedNone answer = absurd answer
put-quiet len now limit opening front brought m t at size fill (replies.Synced group blocks bytes) answer = absurd answer
put-quiet len now limit opening front brought m t at size fill (replies.Capped c) answer = absurd answer

unpin-quiet : (len : ℕ) (now : Option (List ℕ)) (limit : ℕ) (opening : List Mapping) (front : List CellEvent) (brought : Brought) (m : ℕ) (at : Oid) (reply : Reply) → AnswersObject len now limit opening front brought (ops.Unpin m at) reply → length (calls_of (effect_of reply)) ≡ 0
unpin-quiet len now limit opening front brought m at replies.Done answer = refl
unpin-quiet len now limit opening front brought m at (replies.Refused (refusals.NoPin named)) answer = refl
unpin-quiet len now limit opening front brought m at (replies.Refused refusals.PoolFault) answer = absurd answer
unpin-quiet len now limit opening front brought m at (replies.Refused (refusals.Mismatch found)) answer = absurd answer
unpin-quiet len now limit opening front brought m at (replies.Refused (refusals.Key why)) answer = absurd answer
unpin-quiet len now limit opening front brought m at (replies.Refused (refusals.Range end size)) answer = absurd answer
unpin-quiet len now limit opening front brought m at (replies.Refused (refusals.NoBlock named)) answer = absurd answer
unpin-quiet len now limit opening front brought m at (replies.Refused (refusals.NoHold block)) answer = absurd answer
unpin-quiet len now limit opening front brought m at (replies.Refused refusals.NoMemory) answer = absurd answer
unpin-quiet len now limit opening front brought m at (replies.Got size shown) answer = absurd answer
unpin-quiet len now limit opening front brought m at (replies.Read served digest shown) answer = absurd answer
unpin-quiet len now limit opening front brought m at (replies.Kept served) answer = absurd answer
unpin-quiet len now limit opening front brought m at replies.Dropped answer = absurd answer
unpin-quiet len now limit opening front brought m at (replies.Fed report) answer = absurd answer
unpin-quiet len now limit opening front brought m at replies.FedNone answer = absurd answer
unpin-quiet len now limit opening front brought m at (replies.Synced group blocks bytes) answer = absurd answer
unpin-quiet len now limit opening front brought m at (replies.Capped c) answer = absurd answer

-- ---- acts of one caller's number

module _ (g : Config) (valid : IsConfig g) (n : ℕ) (few : n < g.callers) where
  abbrev pub own : List Act → List Act
  own acts = filter (λ act. actor_of act == n) acts

  -- Acts of which those with this number are a caller's, and stand for so many reads of the pool.
  pub record Own (acts : List Act) (reads : ℕ) : Type 0 where
    pub kinds : AllByRecursion (IsCallersAct g) (own acts)
    pub count : sum_by reads_of_act (own acts) ≡ reads

  own-two : (xs ys : List Act) (a b : ℕ) → Own xs a → Own ys b → Own (xs ++ ys) (a + b)
  own-two xs ys a b first second =
      let split = filter-append (λ act. actor_of act == n) xs ys in
      record {
        kinds = subst (AllByRecursion (IsCallersAct g)) (sym split) (all-append (IsCallersAct g) (own xs) (own ys) first.kinds second.kinds);
        count = ap (sum_by reads_of_act) split ∙ omega (arith, first.count, second.count, sum-two reads_of_act (own xs) (own ys));
      }
    where
      sum-two : (f : Act → ℕ) (us vs : List Act) → sum_by f (us ++ vs) ≡ sum_by f us + sum_by f vs
      sum-two f us vs = sum_by-append f us vs

  -- acts that are all of reads, with this number
  all-own : (acts : List Act) (reads : ℕ) → AllByRecursion (IsActOf n) acts → Stand acts reads → Own acts reads
  all-own acts reads his stand =
      let same : own acts ≡ acts = filter-all (λ act. actor_of act == n) acts (all-map (IsActOf n) (λ act. (actor_of act == n) ≡ true) acts (λ act is. eq-eqb (actor_of act) n is.0) his) in
      record {
        kinds = subst (AllByRecursion (IsCallersAct g)) (sym same) (all-map (IsActOf n) (IsCallersAct g) acts callers his);
        count = ap (sum_by reads_of_act) same ∙ stand.count;
      }
    where
      callers : (act : Act) → IsActOf n act → IsCallersAct g act
      callers (Reads m t ptr from) is = subst (λ (k : ℕ). k < g.callers) (sym is.0) few
      callers (Keeps m t ptr from) is = subst (λ (k : ℕ). k < g.callers) (sym is.0) few
      callers (GivesBack m k) is = subst (λ (x : ℕ). x < g.callers) (sym is.0) few
      callers (Fails m t ptr) is = subst (λ (k : ℕ). k < g.callers) (sym is.0) few
      callers (Loads m t ptr from cell) is = absurd is.1
      callers (RunsOut m t ptr) is = absurd is.1
      callers (RunsOutAtDbuf m t ptr cell) is = absurd is.1
      callers (MakesPrivate cell k) is = absurd is.1
      callers (Writes cell t ptr) is = absurd is.1

  -- acts with a cell's number
  none-own : (acts : List Act) (cell : ℕ) → AllByRecursion (λ act. actor_of act ≡ cell_number g cell) acts → Own acts 0
  none-own acts cell apart = let none = drops-out acts apart in record { kinds = subst (AllByRecursion (IsCallersAct g)) (sym none) tt; count = ap (sum_by reads_of_act) none }
    where
      drops-out : (acts : List Act) → AllByRecursion (λ act. actor_of act ≡ cell_number g cell) acts → own acts ≡ []
      drops-out [] apart = refl
      drops-out (act ∷ acts) apart =
          let number = apart.0 in
          let other : (actor_of act == n) ≡ false = ne_eqb (actor_of act) n (λ is. omega (arith, is, number, few)) in
          rw other (drops-out acts apart.1)

  nothing-own : (acts : List Act) → acts ≡ [] → Own acts 0
  nothing-own acts none = subst (λ (l : List Act). Own l 0) (sym none) (record { kinds = tt; count = refl })

  -- an access for a cell
  brought-own : (t : ℕ) (at : Oid) (reply : Reply) (b : Brought) → Bring reply b → Own (acts_of_bringing n t (cell_number g (cell_of g.cells at)) b) (length (calls_of (effect_with b reply)))
  brought-own t at reply b brings =
      let cell : ℕ = cell_number g (cell_of g.cells at) in
      let same = mine b in
      record { kinds = subst (AllByRecursion (IsCallersAct g)) (sym same) (kinds b); count = ap (sum_by reads_of_act) same ∙ brings n t cell }
    where
      test : (n == n) ≡ true
      test = eq-eqb n n refl

      mine : (b : Brought) → own (acts_of_bringing n t (cell_number g (cell_of g.cells at)) b) ≡ acts_of_bringing n t (cell_number g (cell_of g.cells at)) b
      mine Nothing = refl
      mine (Loaded ptr from) = rw test refl
      mine (Refused ptr) = rw test refl

      is-cell : is_cell_of g.callers g.cells (cell_number g (cell_of g.cells at)) ≡ true
      is-cell =
          let some_cells : 0 < g.cells = let a = valid.counts.cells.0 in omega arith in
          let inside : cell_of g.cells at < g.cells = mod_below _ g.cells some_cells in
          let first : nat_lt g.callers (cell_number g (cell_of g.cells at)) ≡ true = grind (arith, nat_tests) in
          let last : nat_le (cell_number g (cell_of g.cells at)) (g.callers + g.cells) ≡ true = grind (arith, nat_tests, inside) in
          both (nat_lt g.callers (cell_number g (cell_of g.cells at))) (nat_le (cell_number g (cell_of g.cells at)) (g.callers + g.cells)) first last

      kinds : (b : Brought) → AllByRecursion (IsCallersAct g) (acts_of_bringing n t (cell_number g (cell_of g.cells at)) b)
      kinds Nothing = tt
      kinds (Loaded ptr from) = ((few, is-cell), tt)
      kinds (Refused ptr) = (few, tt)

  -- the acts of the cell
  noted-own : (event : OwnEvent) (work : Work) (reply : Reply) → NotesLine g n event work reply → Own work.acts 0
  noted-own event work (replies.Got size shown) notes = none-own work.acts (cell_of g.cells event.at) notes.acts
  noted-own event work replies.Done notes = none-own work.acts (cell_of g.cells event.at) notes.acts
  noted-own event work (replies.Refused refusal) notes = nothing-own work.acts notes.1
  noted-own event work (replies.Read served digest shown) notes = absurd notes
  noted-own event work (replies.Kept served) notes = absurd notes
  noted-own event work replies.Dropped notes = absurd notes
  noted-own event work (replies.Fed report) notes = absurd notes
  noted-own event work replies.FedNone notes = absurd notes
  noted-own event work (replies.Synced group blocks bytes) notes = absurd notes
  noted-own event work (replies.Capped c) notes = absurd notes

  -- a line for which a block may be brought
  object-own : (m t : ℕ) (at : Oid) (event : OwnEvent) (reply : Reply) (work : Work) → m ≡ n → Bring reply work.brought → NotesLine g n event work reply → Own (acts_on g m t at work) (length (calls_of (effect_with work.brought reply)))
  object-own m t at event reply work is brings notes =
      let added : length (calls_of (effect_with work.brought reply)) + 0 ≡ length (calls_of (effect_with work.brought reply)) = omega arith in
      subst (λ (x : ℕ × ℕ). Own (acts_on g x.0 t at work) x.1) (λ i. (sym is i, added i))
      (own-two (acts_of_bringing n t (cell_number g (cell_of g.cells at)) work.brought) work.acts _ 0 (brought-own t at reply work.brought brings) (noted-own event work reply notes))

  -- ---- the lines of the caller

  module _ (len : ℕ) (image : Option (List ℕ)) (place : ℕ) (blocks : List Ptr) (openings : List (List ℕ)) (seen : List (List Seen)) where
    -- a line that is on no object
    plain-own : (kept : List KeptRead) (op : Op) (reply : Reply) (work : Work) → caller_of op ≡ Some n → work ≡ no_work → AnswersNow len image blocks kept op reply → Own (acts_of blocks kept op reply) (length (calls_of (effect_with work.brought reply)))
    plain-own kept op reply work his none answer =
        subst (λ (x : Work). Own (acts_of blocks kept op reply) (length (calls_of (effect_with x.brought reply)))) (sym none)
        (all-own (acts_of blocks kept op reply) _ (act-of blocks kept op reply n his) (stand-line len image blocks kept op reply answer))

    -- a line that does something to a cell, and brings nothing
    bare-own : (event : OwnEvent) (reply : Reply) (work : Work) → work.brought ≡ Nothing → length (calls_of (effect_of reply)) ≡ 0 → NotesLine g n event work reply → Own work.acts (length (calls_of (effect_with work.brought reply)))
    bare-own event reply work none quiet notes =
        subst (Own work.acts) (sym (ap (λ (b : Brought). length (calls_of (effect_with b reply))) none ∙ quiet)) (noted-own event work reply notes)

    pub line-own : (had : List Noted) (kept : List KeptRead) (op : Op) (reply : Reply) (work : Work) → caller_of op ≡ Some n → IsWorkOf g n (record { op = op; reply = reply; work = work })
        → AnswersLine g len image place blocks openings seen n had kept (on_object op) (record { op = op; reply = reply; work = work }) → Own (acts_with_op g blocks kept op reply work) (length (calls_of (effect_with work.brought reply)))
    line-own had kept (ops.Read m t x window) reply work his fits answer = plain-own kept (ops.Read m t x window) reply work his fits.notes answer
    line-own had kept (ops.Hold m t x) reply work his fits answer = plain-own kept (ops.Hold m t x) reply work his fits.notes answer
    line-own had kept (ops.Drop m x) reply work his fits answer = plain-own kept (ops.Drop m x) reply work his fits.notes answer
    line-own had kept (ops.Get m t at window) reply work his fits answer = object-own m t at _ reply work (some-is m n his) (got-brings reply work.brought fits.together) fits.notes
    line-own had kept (ops.Patch m t at from bytes) reply work his fits answer = object-own m t at _ reply work (some-is m n his) (done-brings reply work.brought fits.together) fits.notes
    line-own had kept (ops.Pin m t at) reply work his fits answer = object-own m t at _ reply work (some-is m n his) (done-brings reply work.brought fits.together) fits.notes
    line-own had kept (ops.Put m t at size fill) reply work his fits answer = bare-own _ reply work fits.together (put-quiet len answer.0 answer.2.cell.value.limit answer.2.cell.value.opening answer.2.cell.value.history work.brought m t at size fill reply answer.2.answer) fits.notes
    line-own had kept (ops.Unpin m at) reply work his fits answer = bare-own _ reply work fits.together (unpin-quiet len answer.0 answer.2.cell.value.limit answer.2.cell.value.opening answer.2.cell.value.history work.brought m at reply answer.2.answer) fits.notes
    line-own had kept ops.Feed reply work his fits answer = cc
    line-own had kept (ops.Txg t) reply work his fits answer = cc
    line-own had kept (ops.Cap c) reply work his fits answer = cc

    pub lines-own : (had : List Noted) (kept : List KeptRead) (ls : List Line) → AllByRecursion (λ l. (caller_of l.op ≡ Some n) × IsWorkOf g n l) ls → AnswersLines g len image place blocks openings seen n had kept ls
        → Own (acts_of_work g blocks kept ls) (length (calls_of_lines ls))
    lines-own had kept [] fits answers = record { kinds = tt; count = refl }
    lines-own had kept (l ∷ ls) fits answers =
        subst (Own (acts_of_work g blocks kept (l ∷ ls))) (sym (length-append (calls_of (effect_with l.work.brought l.reply)) (calls_of_lines ls)))
        (own-two (acts_with g blocks kept l) (acts_of_work g blocks (kept_after blocks l.op l.reply kept) ls) _ _ (line-own had kept l.op l.reply l.work fits.0.0 fits.0.1 answers.0) (lines-own (had ++ l.work.noted) (kept_after blocks l.op l.reply kept) ls fits.1 answers.1))

    -- and what it still keeps is dropped
    pub caller-own : (ls : List Line) → AllByRecursion (λ l. (caller_of l.op ≡ Some n) × IsWorkOf g n l) ls → AnswersLines g len image place blocks openings seen n [] [] ls
        → Own (acts_of_caller_lines g blocks n ls) (length (calls_of_lines ls))
    caller-own ls fits answers =
        subst (Own (acts_of_caller_lines g blocks n ls)) (add-zero (length (calls_of_lines ls)))
        (own-two (acts_of_work g blocks [] ls) (acts_of_drops n (kept_after_lines blocks [] ls)) _ 0 (lines-own [] [] ls fits answers)
        (all-own (acts_of_drops n (kept_after_lines blocks [] ls)) 0 (act-drops n (kept_after_lines blocks [] ls)) (stand-drops len image blocks n (kept_after_lines blocks [] ls))))
      where
        add-zero : (k : ℕ) → k + 0 ≡ k
        add-zero k = omega arith
