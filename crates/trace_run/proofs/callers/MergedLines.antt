-- The lines of callers, each with its work, put together with the feeder's in the order of the trace's lines.
use Rattle.std.proofs.Common.{◌≡◌, ℕ, suc, ◌+◌, ◌<◌, true, false, List, [], ◌∷◌, Option, Some, inl, inr, length, refl, sym, ap, ◌∙◌, subst, arith, eq-eqb, ne_eqb}
use Rattle.std.specs.Prelude.{◌==◌, filter, if◌then◌else◌}
use Rattle.std.specs.List.{AllByRecursion}
use mathlib.Core.Logic.{dite}
use native.Mathlib.Decide.{ℕ_discrete}
use Rattle.blk_ptr.specs.declared.ptr.Ptr.{Ptr}
use Rattle.vdev_io.specs.declared.device.CacheDev.{Ghosts as Devices}
use Rattle.vdev_io.specs.declared.pool.Pool.{Ghosts}
use Rattle.arc_core.specs.declared.config.Config.{Config}
use Rattle.arc_table.specs.Cache.{Cache}
use Rattle.arc_table.specs.Items.{Meanings}
use Rattle.dbuf_cells.specs.Turns.{OnHeap, PartyPlace}
use Rattle.trace_text.specs.declared.op.Op.{Op}
use Rattle.trace_text.specs.declared.op.Op.TheVariants as ops
use Rattle.trace_text.specs.declared.reply.Reply.{Reply}
use Rattle.trace_run.specs.declared.device.Device.{Device}
use Rattle.trace_run.specs.declared.groups.Crew.{Crew}
use Rattle.trace_run.specs.declared.kept_blocks.KeptBlock.{KeptBlock}
use Rattle.trace_run.specs.Devices.{lent_in}
use Rattle.trace_run.specs.Feeds.{AreFedReplies, is_feed}
use Rattle.trace_run.specs.Lines.{caller_of, is_of_caller, replies_where}
use Rattle.trace_run.specs.dbufs.Objects.{Line, no_work}
use Rattle.trace_run.specs.RunWork.{AllFit, FitsBy, FitsFeeder, lines_of_caller}
use Rattle.trace_run.specs.callers.Beside.{WorksBeside}
use Rattle.trace_run.specs.callers.DeviceForks.{AllAsk, HaveRead}
use Rattle.trace_run.specs.callers.Group.{DidGroup, HaveWorked, WorkedAt}
use Rattle.trace_run.specs.callers.Groups.{DidLinesAtOnce}
use Rattle.trace_run.specs.callers.InOrder.{AreInGroup, AreInOrder, HaveReplies}
use Rattle.trace_run.specs.callers.WorkLines.{AreLinesOf, AsksGiven, IsWorkOf}
use Rattle.trace_run.proofs.callers.CallerActLemmas.{his-is, other-is}
use Rattle.trace_run.proofs.callers.InOrderLemmas.{feed-no-caller}

-- ---- lines of operations

pub lines-length : (os : List Op) (rs : List Reply) (ls : List Line) → AreLinesOf os rs ls → length rs ≡ length os
lines-length [] [] [] are = refl
lines-length [] [] (l ∷ ls) are = absurd are
lines-length [] (r ∷ rs) ls are = absurd are
lines-length (o ∷ os) [] ls are = absurd are
lines-length (o ∷ os) (r ∷ rs) [] are = absurd are
lines-length (o ∷ os) (r ∷ rs) (l ∷ ls) are = ap suc (lines-length os rs ls are.2)

-- the first of them, and those behind it
record FirstLine (o : Op) (os : List Op) (r : Reply) (rs : List Reply) (ls : List Line) : Type 0 where
  pub first : Line
  pub rest : List Line
  pub is : ls ≡ first ∷ rest
  pub op : first.op ≡ o
  pub reply : first.reply ≡ r
  pub are : AreLinesOf os rs rest

first-line : (o : Op) (os : List Op) (r : Reply) (rs : List Reply) (ls : List Line) → AreLinesOf (o ∷ os) (r ∷ rs) ls → FirstLine o os r rs ls
first-line o os r rs [] are = absurd are
first-line o os r rs (l ∷ ls) are = record { first = l; rest = ls; is = refl; op = are.0; reply = are.1; are = are.2 }

-- ---- one list of all

-- each of so many callers has these lines among the operations
abbrev Owns : (callers : ℕ) → List Op → List Reply → (own : ℕ → List Line) → Type 0
Owns callers os rs own = (n : ℕ) → n < callers → AreLinesOf (filter (is_of_caller n) os) (replies_where (is_of_caller n) os rs) (own n)

-- one list with those of each caller, and with no work of any other line
pub record Merged (g : Config) (callers : ℕ) (os : List Op) (rs : List Reply) (own : ℕ → List Line) : Type 0 where
  pub lines : List Line
  pub are : AreLinesOf os rs lines
  pub fits : AllFit g lines
  pub each : (n : ℕ) → n < callers → lines_of_caller n lines ≡ own n

-- what is left to each caller behind a line of w's
abbrev left_to : (own : ℕ → List Line) → (w : ℕ) → List Line → ℕ → List Line
left_to own w rest n = if w == n then rest else own n

module _ (g : Config) (callers : ℕ) where
  -- behind a line of a caller
  module _ (o : Op) (os : List Op) (r : Reply) (rs : List Reply) (own : ℕ → List Line) (w : ℕ) (of : caller_of o ≡ Some w) (inside : w < callers) (owns : Owns callers (o ∷ os) (r ∷ rs) own)
      (fits : (n : ℕ) → n < callers → AllByRecursion (IsWorkOf g n) (own n)) where
    his : FirstLine o (filter (is_of_caller w) os) r (replies_where (is_of_caller w) os rs) (own w)
    his =
        let test : is_of_caller w o ≡ true = his-is w w o of refl in
        first-line o (filter (is_of_caller w) os) r (replies_where (is_of_caller w) os rs) (own w) (rw test at (owns w inside))

    left-his : (n : ℕ) → w ≡ n → left_to own w his.rest n ≡ his.rest
    left-his n same = rw (eq-eqb w n same) refl

    left-other : (n : ℕ) → (w ≡ n → ⊥) → left_to own w his.rest n ≡ own n
    left-other n differs = rw (ne_eqb w n differs) refl

    owns-left : Owns callers os rs (left_to own w his.rest)
    owns-left n lt = dite (ℕ_discrete w n)
        (λ same. subst (AreLinesOf (filter (is_of_caller n) os) (replies_where (is_of_caller n) os rs)) (sym (left-his n same)) (subst (λ (m : ℕ). AreLinesOf (filter (is_of_caller m) os) (replies_where (is_of_caller m) os rs) his.rest) same his.are))
        (λ differs.
        let test : is_of_caller n o ≡ false = other-is n w o of differs in
        subst (AreLinesOf (filter (is_of_caller n) os) (replies_where (is_of_caller n) os rs)) (sym (left-other n differs)) (rw test at (owns n lt)))

    fits-first : AllByRecursion (IsWorkOf g w) (his.first ∷ his.rest)
    fits-first = subst (AllByRecursion (IsWorkOf g w)) his.is (fits w inside)

    fits-left : (n : ℕ) → n < callers → AllByRecursion (IsWorkOf g n) (left_to own w his.rest n)
    fits-left n lt = dite (ℕ_discrete w n)
        (λ same. subst (AllByRecursion (IsWorkOf g n)) (sym (left-his n same)) (subst (λ (m : ℕ). AllByRecursion (IsWorkOf g m) his.rest) same fits-first.1))
        (λ differs. subst (AllByRecursion (IsWorkOf g n)) (sym (left-other n differs)) (fits n lt))

    merged-his : Merged g callers os rs (left_to own w his.rest) → Merged g callers (o ∷ os) (r ∷ rs) own
    merged-his rest = record {
      lines = his.first ∷ rest.lines;
      are = (his.op, his.reply, rest.are);
      fits = (subst (λ (c : Option ℕ). FitsBy g c his.first) (sym (ap caller_of his.op ∙ of)) fits-first.0, rest.fits);
      each = λ n lt. dite (ℕ_discrete w n)
          (λ same.
          let test : is_of_caller n his.first.op ≡ true = ap (is_of_caller n) his.op ∙ his-is n w o of same in
          rw test (ap (λ (l : List Line). his.first ∷ l) (rest.each n lt ∙ left-his n same) ∙ (sym his.is ∙ ap own same)))
          (λ differs.
          let test : is_of_caller n his.first.op ≡ false = ap (is_of_caller n) his.op ∙ other-is n w o of differs in
          rw test (rest.each n lt ∙ left-other n differs));
    }

  -- behind a feed
  feed-fits : (o : Op) → is_feed o ≡ true → FitsFeeder g o no_work
  feed-fits (ops.Read n t x window) is = cc
  feed-fits (ops.Hold n t x) is = cc
  feed-fits (ops.Drop n x) is = cc
  feed-fits (ops.Get n t at window) is = cc
  feed-fits (ops.Put n t at size fill) is = cc
  feed-fits (ops.Patch n t at from bytes) is = cc
  feed-fits (ops.Pin n t at) is = cc
  feed-fits (ops.Unpin n at) is = cc
  feed-fits ops.Feed is = refl
  feed-fits (ops.Txg t) is = cc
  feed-fits (ops.Cap c) is = refl

  module _ (o : Op) (os : List Op) (r : Reply) (rs : List Reply) (own : ℕ → List Line) (asks : is_feed o ≡ true) where
    no-his : (n : ℕ) → is_of_caller n o ≡ false
    no-his n = rw (feed-no-caller o asks) refl

    owns-behind : Owns callers (o ∷ os) (r ∷ rs) own → Owns callers os rs own
    owns-behind owns n lt = let test = no-his n in rw test at (owns n lt)

    merged-feed : Merged g callers os rs own → Merged g callers (o ∷ os) (r ∷ rs) own
    merged-feed rest = record {
      lines = record { op = o; reply = r; work = no_work } ∷ rest.lines;
      are = (refl, refl, rest.are);
      fits = (subst (λ (c : Option ℕ). FitsBy g c (record { op = o; reply = r; work = no_work })) (sym (feed-no-caller o asks)) (feed-fits o asks), rest.fits);
      each = λ n lt. let test = no-his n in rw test (rest.each n lt);
    }

  pub merge-lines : (os : List Op) (rs : List Reply) (own : ℕ → List Line) → length rs ≡ length os → AreInGroup callers os → Owns callers os rs own → ((n : ℕ) → n < callers → AllByRecursion (IsWorkOf g n) (own n)) → Merged g callers os rs own
  merge-lines [] [] own long group owns fits = record { lines = []; are = tt; fits = tt; each = λ n lt. none-of (own n) (owns n lt) }
    where
      none-of : (ls : List Line) → AreLinesOf [] [] ls → [] ≡ ls
      none-of [] are = refl
      none-of (l ∷ ls) are = absurd are
  merge-lines [] (r ∷ rs) own long group owns fits = absurd (omega arith)
  merge-lines (o ∷ os) [] own long group owns fits = absurd (omega arith)
  merge-lines (o ∷ os) (r ∷ rs) own long group owns fits = elim (group 0 o refl) [
    | inl his-line ↦
        merged-his o os r rs own his-line.0 his-line.1 his-line.2 owns fits
        (merge-lines os rs (left_to own his-line.0 (his o os r rs own his-line.0 his-line.1 his-line.2 owns fits).rest) (omega arith) (λ k op at. group (suc k) op at)
        (owns-left o os r rs own his-line.0 his-line.1 his-line.2 owns fits) (fits-left o os r rs own his-line.0 his-line.1 his-line.2 owns fits))
    | inr asks ↦ merged-feed o os r rs own asks (merge-lines os rs own (omega arith) (λ k op at. group (suc k) op at) (owns-behind o os r rs own asks owns) fits)
  ]

-- ---- a group by them

module _ {P D : Type 0} (m : Meanings OnHeap) (cache : Cache) (pools : Ghosts P) (devices : Devices D) (blocks : List Ptr) (os : List Op) (callers : ℕ) (before after : P) (was now : Device D) (had : List (List KeptBlock)) (ps : List PartyPlace) (p : PartyPlace)
    (kept : List (List KeptBlock)) (qs : List PartyPlace) (q : PartyPlace) (replies : List (List Reply)) (fed : List Reply) (did : DidGroup m cache pools devices blocks os callers before after was now had ps p kept qs q replies fed) (group : AreInGroup callers os) where
  -- the replies may be put in order
  pub replies-may : length fed ≡ length (filter is_feed os) → HaveReplies os replies fed
  replies-may feeds = record {
    own = subst (λ (n : ℕ). AreInGroup n os) (sym did.replied) group;
    each = λ n lt.
        let h = did.are n (let r = did.replied in omega (arith, lt, r)) in
        (h.own, h.own_at, lines-length (filter (is_of_caller n) os) h.own (did.own n) h.are);
    feeds = feeds;
  }

  -- each caller's lines by their places in the one list
  worked-as : (own : ℕ → List Line) → ((n : ℕ) → n < callers → own n ≡ did.own n) → HaveWorked cache pools blocks callers before after own had ps kept qs
  worked-as own are =
      let w = did.worked in
      record {
        kepts = w.kepts;
        parties = w.parties;
        forks = w.forks;
        done = w.done;
        fresh = w.fresh;
        each = λ n lt. subst (λ (ls : List Line). WorkedAt cache pools blocks n (w.forks n) (w.done n) ls had ps kept qs) (sym (are n lt)) (w.each n lt);
        reads = w.reads;
        faults = w.faults;
        others = w.others;
        keeps = w.keeps;
      }

  asked-as : (own : ℕ → List Line) (n : ℕ) (forks left : List (Option D)) → ((k : ℕ) → k < n + length forks → own k ≡ did.own k) → AllAsk devices blocks did.own n forks left → AllAsk devices blocks own n forks left
  asked-as own n [] [] are asked = tt
  asked-as own n [] (l ∷ ls) are asked = absurd asked
  asked-as own n (f ∷ fs) [] are asked = absurd asked
  asked-as own n (f ∷ fs) (l ∷ ls) are asked =
      (subst (λ (x : List Line). AsksGiven devices blocks x f l) (sym (are n (omega arith))) asked.0, asked-as own (suc n) fs ls (λ k lt. are k (omega (arith, lt))) asked.1)

  read-as : (own : ℕ → List Line) → ((n : ℕ) → n < callers → own n ≡ did.own n) → (a b c d : Option D) → HaveRead devices blocks callers did.own a b c d → HaveRead devices blocks callers own a b c d
  read-as own are a b c d read = record {
    forks = read.forks;
    count = read.count;
    given = read.given;
    done = read.done;
    asked = asked-as own 0 read.forks read.done (λ k lt. are k (let n = read.count in omega (arith, lt, n))) read.asked;
    back = read.back;
  }

  beside-as : (own : ℕ → List Line) → ((n : ℕ) → n < callers → own n ≡ did.own n) → (rs : List Reply) → replies_where is_feed os rs ≡ fed → WorksBeside m devices cache blocks os callers own (replies_where is_feed os rs) was now p q
  beside-as own are rs same =
      let b = did.beside in
      record {
        feeds = b.feeds;
        used = b.used;
        answered = subst (AreFedReplies (lent_in was) (filter is_feed os) b.feeds) (sym same) b.answered;
        read = read-as own are (lent_in was) (lent_in b.used.lent) (lent_in b.used.later) (lent_in now) b.read;
      }

  -- the lines of the group in their order
  module _ (rs : List Reply) (ordered : AreInOrder os replies fed rs) where
    owns : Owns callers os rs did.own
    owns n lt =
        let h = did.are n lt in
        subst (λ (l : List Reply). AreLinesOf (filter (is_of_caller n) os) l (did.own n)) (sym (ordered.each n h.own h.own_at)) h.are

    pub merged : Merged cache.config callers os rs did.own
    merged = merge-lines cache.config callers os rs did.own ordered.all group owns (λ n lt. (did.worked.each n lt).worked.fits)

    pub merged-worked : HaveWorked cache pools blocks callers before after (λ n. lines_of_caller n merged.lines) had ps kept qs
    merged-worked = worked-as (λ n. lines_of_caller n merged.lines) merged.each

    pub merged-beside : WorksBeside m devices cache blocks os callers (λ n. lines_of_caller n merged.lines) (replies_where is_feed os rs) was now p q
    merged-beside = beside-as (λ n. lines_of_caller n merged.lines) merged.each rs ordered.feeds

-- what a group of a crew came to
pub did-at-once : {P D : Type 0} (m : Meanings OnHeap) (cache : Cache) (pools : Ghosts P) (devices : Devices D) (blocks : List Ptr) (os : List Op) (before after : P) (was now : Device D) (old new : Crew OnHeap) (replies : List (List Reply)) (fed rs : List Reply)
    → DidGroup m cache pools devices blocks os (length old.parties.items) before after was now old.kept.items old.parties.items old.feeder new.kept.items new.parties.items new.feeder replies fed
    → AreInGroup (length old.parties.items) os → AreInOrder os replies fed rs → DidLinesAtOnce m cache pools devices blocks os before after was now old new rs
did-at-once m cache pools devices blocks os before after was now old new replies fed rs did group ordered =
    let one = merged m cache pools devices blocks os (length old.parties.items) before after was now old.kept.items old.parties.items old.feeder new.kept.items new.parties.items new.feeder replies fed did group rs ordered in
    record {
      lines = one.lines;
      are = one.are;
      fits = one.fits;
      worked = merged-worked m cache pools devices blocks os (length old.parties.items) before after was now old.kept.items old.parties.items old.feeder new.kept.items new.parties.items new.feeder replies fed did group rs ordered;
      beside = merged-beside m cache pools devices blocks os (length old.parties.items) before after was now old.kept.items old.parties.items old.feeder new.kept.items new.parties.items new.feeder replies fed did group rs ordered;
    }
