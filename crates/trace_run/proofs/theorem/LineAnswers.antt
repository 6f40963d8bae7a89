-- All lines of a run have their answers, where those of each caller have them, and where each other line ends as it should.
use Rattle.std.proofs.Common.{◌≡◌, ℕ, suc, ◌+◌, ◌<◌, ◌==◌, true, false, IfSome, List, [], ◌∷◌, ◌++◌, length, take, Option, Some, None, refl, sym, ap, ◌∙◌, subst, arith, append-nil, append_assoc, length-append, inl, inr}
use Rattle.std.specs.Prelude.{slice_get}
use Rattle.std.specs.List.{AllByRecursion}
use Rattle.std.proofs.lemmas.List.{length-map, length-take-le}
use Rattle.std.proofs.lemmas.Option.{slice_get_within}
use Rattle.arc_lists.proofs.Tables.{cases_true}
use Rattle.blk_ptr.specs.declared.ptr.Ptr.{Ptr}
use Rattle.arc_core.specs.declared.config.Config.{Config}
use Rattle.arc_table.specs.declared.view.Line.{Line as Seen}
use Rattle.trace_text.specs.declared.op.Op.{Op}
use Rattle.trace_text.specs.declared.op.Op.TheVariants as ops
use Rattle.trace_text.specs.declared.reply.Reply.{Reply}
use Rattle.trace_run.specs.Answers.{Answers, AnswersAll, drops, drops_one, keeps, keeps_one}
use Rattle.trace_run.specs.Deeds.{Noted}
use Rattle.trace_run.specs.Effects.{Answered, Effect, GivenBack, NoEffect, PoolRefused, effect_of}
use Rattle.trace_run.specs.KeptReads.{KeptRead}
use Rattle.trace_run.specs.Lines.{caller_of, is_of_caller}
use Rattle.trace_run.specs.dbufs.ObjectLines.{on_object}
use Rattle.trace_run.specs.dbufs.Objects.{Line, Work, ops_of, replies_of}
use Rattle.trace_run.specs.RunWork.{lines_of_caller}
use Rattle.trace_run.specs.Tally.{IsTally}
use Rattle.trace_run.specs.callers.Groups.{AreEndLines, IsEndLine}
use Rattle.trace_run.specs.callers.WorkLines.{AnswersLine, AnswersLines, AreLinesOf}
use Rattle.trace_run.specs.one_caller.OneCaller.{kept_after}
use Rattle.trace_run.proofs.AnswerLemmas.{EachAnswers, dropped_reads-snoc, kept_reads-snoc, more_answers, more_tally, take_one, to_answer}
use Rattle.trace_run.proofs.callers.CallerActLemmas.{his-is, line-kind, same-caller}

-- ---- lines of these operations and replies

pub lines-ops : (os : List Op) (rs : List Reply) (ls : List Line) → AreLinesOf os rs ls → ops_of ls ≡ os
lines-ops [] [] [] are = refl
lines-ops [] [] (l ∷ ls) are = absurd are
lines-ops [] (r ∷ rs) ls are = absurd are
lines-ops (o ∷ os) [] ls are = absurd are
lines-ops (o ∷ os) (r ∷ rs) [] are = absurd are
lines-ops (o ∷ os) (r ∷ rs) (l ∷ ls) are = λ i. are.0 i ∷ lines-ops os rs ls are.2 i

pub lines-replies : (os : List Op) (rs : List Reply) (ls : List Line) → AreLinesOf os rs ls → replies_of ls ≡ rs
lines-replies [] [] [] are = refl
lines-replies [] [] (l ∷ ls) are = absurd are
lines-replies [] (r ∷ rs) ls are = absurd are
lines-replies (o ∷ os) [] ls are = absurd are
lines-replies (o ∷ os) (r ∷ rs) [] are = absurd are
lines-replies (o ∷ os) (r ∷ rs) (l ∷ ls) are = λ i. are.1 i ∷ lines-replies os rs ls are.2 i

-- a line that is no caller's
abbrev pub EndsWell : Line → Type 0
EndsWell l = caller_of l.op ≡ None → IsEndLine l.op l.reply

-- one that is some caller's is one of these
abbrev pub IsOfOne : (ℕ → Type 0) → Line → Type 0
IsOfOne who l = (n : ℕ) → caller_of l.op ≡ Some n → who n

some-reply : (a b : Reply) → ◌≡◌ {A = Option Reply} (Some a) (Some b) → a ≡ b
some-reply a b is = cc

pub end-lines : (os : List Op) (rs : List Reply) (ls : List Line) → AreLinesOf os rs ls → AreEndLines os rs → AllByRecursion EndsWell ls
end-lines [] [] [] are ended = tt
end-lines [] [] (l ∷ ls) are ended = absurd are
end-lines [] (r ∷ rs) ls are ended = absurd are
end-lines (o ∷ os) [] ls are ended = absurd are
end-lines (o ∷ os) (r ∷ rs) [] are ended = absurd are
end-lines (o ∷ os) (r ∷ rs) (l ∷ ls) are ended = (
  λ none.
      let given = ended 0 o refl (sym (ap caller_of are.0) ∙ none) in
      subst (λ (x : Op × Reply). IsEndLine x.0 x.1) (λ i. (sym are.0 i, (sym (some-reply r given.0 given.1) ∙ sym are.1) i)) given.2,
  end-lines os rs ls are.2 (λ k op at none. ended (suc k) op at none),
)

pub own-lines-of : (who : ℕ → Type 0) (os : List Op) (rs : List Reply) (ls : List Line) → AreLinesOf os rs ls → ((k : ℕ) (op : Op) → slice_get os k ≡ Some op → (n : ℕ) → caller_of op ≡ Some n → who n) → AllByRecursion (IsOfOne who) ls
own-lines-of who [] [] [] are own = tt
own-lines-of who [] [] (l ∷ ls) are own = absurd are
own-lines-of who [] (r ∷ rs) ls are own = absurd are
own-lines-of who (o ∷ os) [] ls are own = absurd are
own-lines-of who (o ∷ os) (r ∷ rs) [] are own = absurd are
own-lines-of who (o ∷ os) (r ∷ rs) (l ∷ ls) are own = ((λ n is. own 0 o refl n (sym (ap caller_of are.0) ∙ is)), own-lines-of who os rs ls are.2 (λ k op at. own (suc k) op at))

-- ---- a line that keeps and drops nothing of a caller's

keeps-none : (e : Effect) → keeps_one e false ≡ 0
keeps-none (Answered from) = refl
keeps-none GivenBack = refl
keeps-none (PoolRefused call) = refl
keeps-none NoEffect = refl

drops-none : (e : Effect) → drops_one e false ≡ 0
drops-none (Answered from) = refl
drops-none GivenBack = refl
drops-none (PoolRefused call) = refl
drops-none NoEffect = refl

other-keeps : (n x : ℕ) (o : Op) (r : Reply) → is_of_caller n o ≡ false → keeps n x o r ≡ 0
other-keeps n x (ops.Hold m t y) r other = let differs : (m == n) ≡ false = other in rw differs (keeps-none (effect_of r))
other-keeps n x op r other = refl

other-drops : (n x : ℕ) (o : Op) (r : Reply) → is_of_caller n o ≡ false → drops n x o r ≡ 0
other-drops n x (ops.Drop m y) r other = let differs : (m == n) ≡ false = other in rw differs (drops-none (effect_of r))
other-drops n x op r other = refl

quiet-tally : (n : ℕ) (all : List Op) (replied : List Reply) (kept : List KeptRead) (o : Op) (r : Reply) → slice_get all (length replied) ≡ Some o → ((x : ℕ) → keeps n x o r ≡ 0) → ((x : ℕ) → drops n x o r ≡ 0)
    → IsTally n (take (length replied) all) replied kept → IsTally n (take (length replied + 1) all) (replied ++ r ∷ []) kept
quiet-tally n all replied kept o r here keeps_none drops_none tally = record {
  each = λ x.
      let inside : length replied < length all = slice_get_within all (length replied) o here in
      let front : take (length replied + 1) all ≡ take (length replied) all ++ o ∷ [] = take_one all (length replied) o here in
      let size : length replied ≡ length (take (length replied) all) = sym (length-take-le (length replied) all (omega arith)) in
      let was = tally.each x in
      let none_kept = keeps_none x in
      let none_dropped = drops_none x in
      let more_kept = kept_reads-snoc n x (take (length replied) all) replied o r size in
      let more_dropped = dropped_reads-snoc n x (take (length replied) all) replied o r size in
      rw front (omega (arith, was, none_kept, none_dropped, more_kept, more_dropped));
}

get-after : {X : Type 0} (done os : List X) (o : X) → slice_get (done ++ o ∷ os) (length done) ≡ Some o
get-after [] os o = refl
get-after (x ∷ xs) os o = get-after xs os o

-- ---- one line after another

module _ (g : Config) (len : ℕ) (image : Option (List ℕ)) (place : ℕ) (blocks : List Ptr) (openings : ℕ → List (List ℕ)) (seen : ℕ → List (List Seen)) where
  -- Behind these lines the caller keeps these reads, by all that was replied, and its own lines among what is left have their answers.
  record IsAnswered (n : ℕ) (earlier : List Op) (replied : List Reply) (ls : List Line) : Type 0 where
    pub had : List Noted
    pub kept : List KeptRead
    pub tally : IsTally n earlier replied kept
    pub answers : AnswersLines g len image place blocks (openings n) (seen n) n had kept (lines_of_caller n ls)

  -- a caller's line has its answer
  line-answer : (n : ℕ) (had : List Noted) (kept : List KeptRead) (earlier : List Op) (replied : List Reply) (op : Op) (reply : Reply) (work : Work) → IsTally n earlier replied kept → IfSome (caller_of op) (λ m. m ≡ n)
      → AnswersLine g len image place blocks (openings n) (seen n) n had kept (on_object op) (record { op = op; reply = reply; work = work }) → Answers len image blocks earlier replied op reply
  line-answer n had kept earlier replied (ops.Read m t x window) reply work tally same answer = to_answer len image blocks n earlier replied kept (ops.Read m t x window) reply tally same answer
  line-answer n had kept earlier replied (ops.Hold m t x) reply work tally same answer = to_answer len image blocks n earlier replied kept (ops.Hold m t x) reply tally same answer
  line-answer n had kept earlier replied (ops.Drop m x) reply work tally same answer = to_answer len image blocks n earlier replied kept (ops.Drop m x) reply tally same answer
  line-answer n had kept earlier replied (ops.Get m t at window) reply work tally same answer = tt
  line-answer n had kept earlier replied (ops.Put m t at size fill) reply work tally same answer = tt
  line-answer n had kept earlier replied (ops.Patch m t at from bytes) reply work tally same answer = tt
  line-answer n had kept earlier replied (ops.Pin m t at) reply work tally same answer = tt
  line-answer n had kept earlier replied (ops.Unpin m at) reply work tally same answer = tt
  line-answer n had kept earlier replied ops.Feed reply work tally same answer = absurd answer
  line-answer n had kept earlier replied (ops.Txg t) reply work tally same answer = absurd answer
  line-answer n had kept earlier replied (ops.Cap c) reply work tally same answer = answer

  -- and the tally goes on
  line-tally : (n : ℕ) (had : List Noted) (kept : List KeptRead) (all : List Op) (replied : List Reply) (op : Op) (reply : Reply) (work : Work) → slice_get all (length replied) ≡ Some op → IsTally n (take (length replied) all) replied kept
      → IfSome (caller_of op) (λ m. m ≡ n) → AnswersLine g len image place blocks (openings n) (seen n) n had kept (on_object op) (record { op = op; reply = reply; work = work })
      → IsTally n (take (length replied + 1) all) (replied ++ reply ∷ []) (kept_after blocks op reply kept)
  line-tally n had kept all replied (ops.Read m t x window) reply work here tally same answer = more_tally len image blocks n all replied kept (ops.Read m t x window) reply here tally same answer
  line-tally n had kept all replied (ops.Hold m t x) reply work here tally same answer = more_tally len image blocks n all replied kept (ops.Hold m t x) reply here tally same answer
  line-tally n had kept all replied (ops.Drop m x) reply work here tally same answer = more_tally len image blocks n all replied kept (ops.Drop m x) reply here tally same answer
  line-tally n had kept all replied (ops.Get m t at window) reply work here tally same answer = quiet-tally n all replied kept (ops.Get m t at window) reply here (λ x. refl) (λ x. refl) tally
  line-tally n had kept all replied (ops.Put m t at size fill) reply work here tally same answer = quiet-tally n all replied kept (ops.Put m t at size fill) reply here (λ x. refl) (λ x. refl) tally
  line-tally n had kept all replied (ops.Patch m t at from bytes) reply work here tally same answer = quiet-tally n all replied kept (ops.Patch m t at from bytes) reply here (λ x. refl) (λ x. refl) tally
  line-tally n had kept all replied (ops.Pin m t at) reply work here tally same answer = quiet-tally n all replied kept (ops.Pin m t at) reply here (λ x. refl) (λ x. refl) tally
  line-tally n had kept all replied (ops.Unpin m at) reply work here tally same answer = quiet-tally n all replied kept (ops.Unpin m at) reply here (λ x. refl) (λ x. refl) tally
  line-tally n had kept all replied ops.Feed reply work here tally same answer = absurd answer
  line-tally n had kept all replied (ops.Txg t) reply work here tally same answer = absurd answer
  line-tally n had kept all replied (ops.Cap c) reply work here tally same answer = quiet-tally n all replied kept (ops.Cap c) reply here (λ x. refl) (λ x. refl) tally

  -- a line that is no caller's has its answer
  end-answer : (earlier : List Op) (replied : List Reply) (o : Op) (r : Reply) → IsEndLine o r → Answers len image blocks earlier replied o r
  end-answer earlier replied o r (inl cap) = subst (λ (x : Op). Answers len image blocks earlier replied x r) (sym cap.1) cap.2
  end-answer earlier replied o r (inr (inl sync)) = subst (λ (x : Op). Answers len image blocks earlier replied x r) (sym sync.4) (sync.1, sync.2, sync.3, sync.5)
  end-answer earlier replied o r (inr (inr feed)) = subst (λ (x : Op). Answers len image blocks earlier replied x r) (sym feed.0) feed.1

  module _ (n : ℕ) (all : List Op) (replied : List Reply) (l : Line) (ls : List Line) (here : slice_get all (length replied) ≡ Some l.op) (are : IsAnswered n (take (length replied) all) replied (l ∷ ls)) where
    own-now : is_of_caller n l.op ≡ true
        → AnswersLine g len image place blocks (openings n) (seen n) n are.had are.kept (on_object l.op) l × AnswersLines g len image place blocks (openings n) (seen n) n (are.had ++ l.work.noted) (kept_after blocks l.op l.reply are.kept) (lines_of_caller n ls)
    own-now own = rw own at are.answers

    own-then : is_of_caller n l.op ≡ true → IsAnswered n (take (length replied + 1) all) (replied ++ l.reply ∷ []) ls
    own-then own = record {
      had = are.had ++ l.work.noted;
      kept = kept_after blocks l.op l.reply are.kept;
      tally = line-tally n are.had are.kept all replied l.op l.reply l.work here are.tally (same-caller n l.op own) (own-now own).0;
      answers = (own-now own).1;
    }

    other-then : is_of_caller n l.op ≡ false → IsAnswered n (take (length replied + 1) all) (replied ++ l.reply ∷ []) ls
    other-then other = record {
      had = are.had;
      kept = are.kept;
      tally = quiet-tally n all replied are.kept l.op l.reply here (λ x. other-keeps n x l.op l.reply other) (λ x. other-drops n x l.op l.reply other) are.tally;
      answers = rw other at are.answers;
    }

  -- the answers so far, and those to what is left
  each-line : (who : ℕ → Type 0) (all done : List Op) (replied : List Reply) (ls : List Line) → all ≡ done ++ ops_of ls → length replied ≡ length done → AllByRecursion EndsWell ls → AllByRecursion (IsOfOne who) ls
      → EachAnswers len image blocks all replied → ((n : ℕ) → who n → IsAnswered n (take (length replied) all) replied ls) → EachAnswers len image blocks all (replied ++ replies_of ls)
  each-line who all done replied [] is count ended own each are = subst (EachAnswers len image blocks all) (sym (append-nil replied)) each
  each-line who all done replied (l ∷ ls) is count ended own each are =
      let here : slice_get all (length replied) ≡ Some l.op = ap (λ (x : List Op). slice_get x (length replied)) is ∙ (ap (slice_get (done ++ l.op ∷ ops_of ls)) count ∙ get-after done (ops_of ls) l.op) in
      let answer : Answers len image blocks (take (length replied) all) replied l.op l.reply =
      elim (line-kind l.op) [
        | inl caller ↦
            let mine = are caller.0 (own.0 caller.0 caller.1) in
            let his : is_of_caller caller.0 l.op ≡ true = his-is caller.0 caller.0 l.op caller.1 refl in
            line-answer caller.0 mine.had mine.kept (take (length replied) all) replied l.op l.reply l.work mine.tally (same-caller caller.0 l.op his) (own-now caller.0 all replied l ls here mine his).0
        | inr none ↦ end-answer (take (length replied) all) replied l.op l.reply (ended.0 none)
      ] in
      let now : EachAnswers len image blocks all (replied ++ l.reply ∷ []) = more_answers len image blocks all replied l.op l.reply here each answer in
      let more : length replied + 1 ≡ length (replied ++ l.reply ∷ []) = let x = length-append replied (l.reply ∷ []) in omega arith in
      let then : (n : ℕ) → who n → IsAnswered n (take (length (replied ++ l.reply ∷ [])) all) (replied ++ l.reply ∷ []) ls =
      λ n is_one. subst (λ (m : ℕ). IsAnswered n (take m all) (replied ++ l.reply ∷ []) ls) more
      (elim (cases_true (is_of_caller n l.op)) [
        | inl mine ↦ own-then n all replied l ls here (are n is_one) mine
        | inr other ↦ other-then n all replied l ls here (are n is_one) other
      ]) in
      subst (EachAnswers len image blocks all) (append_assoc replied (l.reply ∷ []) (replies_of ls))
      (each-line who all (done ++ l.op ∷ []) (replied ++ l.reply ∷ []) ls (is ∙ sym (append_assoc done (l.op ∷ []) (ops_of ls)))
      (let x = length-append replied (l.reply ∷ []) in let y = length-append done (l.op ∷ []) in omega arith) ended.1 own.1 now then)

  -- All lines have their answers, where they are of these callers and the lines of each have them, or are no caller's.
  pub lines-answered : (who : ℕ → Type 0) (os : List Op) (rs : List Reply) (ls : List Line) → AreLinesOf os rs ls → ((k : ℕ) (op : Op) → slice_get os k ≡ Some op → (n : ℕ) → caller_of op ≡ Some n → who n) → AreEndLines os rs
      → ((n : ℕ) → who n → AnswersLines g len image place blocks (openings n) (seen n) n [] [] (lines_of_caller n ls)) → AnswersAll len image blocks os rs
  lines-answered who os rs ls are own ended answers = subst (λ (x : List Op × List Reply). AnswersAll len image blocks x.0 x.1) (λ i. (lines-ops os rs ls are i, lines-replies os rs ls are i)) record {
    all = length-map ls (λ (l : Line). l.reply) ∙ sym (length-map ls (λ (l : Line). l.op));
    each = each-line who (ops_of ls) [] [] ls refl refl (end-lines os rs ls are ended) (own-lines-of who os rs ls are own) (λ k op reply at there. nothing-there k reply there)
        (λ n is_one. record { had = []; kept = []; tally = record { each = λ x. refl }; answers = answers n is_one });
  }
    where
      nothing-there : {X : Type 0} (k : ℕ) (reply : Reply) → slice_get {X = Reply} [] k ≡ Some reply → X
      nothing-there k reply there = cc
