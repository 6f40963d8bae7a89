-- Each caller read its fork of the pool once for each of its events that stands for a read of it, and no event that does is another's.
use Rattle.std.proofs.Common.{◌≡◌, ℕ, zero, suc, ◌+◌, ◌<◌, ◌==◌, ◌&&◌, not, cond, Bool, true, false, List, [], ◌∷◌, ◌++◌, length, length-append, get_or, map, Option, Some, None, inl, inr, refl, sym, ap, ◌∙◌, subst, arith, eq-eqb, ne_eqb}
use Rattle.std.specs.Prelude.{count_by, filter, sum_by}
use Rattle.std.specs.List.{AllByRecursion}
use Rattle.std.proofs.lemmas.Bool.{false≢true}
use Rattle.std.proofs.lemmas.List.Sums.{sum_by-append, sum_by-cons}
use Rattle.std.proofs.lemmas.Nat.{mod_below}
use mathlib.Core.Logic.{dite}
use mathlib.Core.Option.{some}
use lib.ListN.{get_elem?}
use native.Mathlib.Decide.{ℕ_discrete}
use Rattle.arc_lists.proofs.Tables.{cases_true}
use Rattle.blk_ptr.specs.declared.key.Key.{Key}
use Rattle.blk_ptr.specs.declared.ptr.Ptr.{Ptr}
use Rattle.blk_ptr.specs.Hash.{hash_of_key, shard_of}
use Rattle.arc_core.specs.Config.{IsConfig}
use Rattle.arc_core.specs.declared.config.Config.{Config}
use Rattle.arc_core.specs.declared.event.Event.{Event}
use Rattle.arc_core.specs.declared.event.Event.TheVariants as event
use Rattle.arc_core.specs.declared.event.Origin.TheVariants as origin
use Rattle.arc_core.specs.declared.served.Served.{Served}
use Rattle.arc_core.specs.declared.served.Served.TheVariants as served
use Rattle.arc_core.specs.Operations.{Act, AreEvents, Fails, GivesBack, IsPast, IsServed, Keeps, Loads, MakesPrivate, Moment, Reads, RunsOut, RunsOutAtDbuf, Tell, Writes, act_key, actor_of, acts_in, is_pass, is_pool_read, moments, number_of, own_moments, pool_reads}
use Rattle.arc_core.specs.PlainShard.{PlainShard}
use Rattle.arc_core.specs.Step.{after}
use Rattle.trace_text.specs.declared.op.Op.{Op}
use Rattle.trace_text.specs.declared.op.Op.TheVariants as ops
use Rattle.trace_text.specs.declared.reply.Refusal.TheVariants as refusal
use Rattle.trace_text.specs.declared.reply.Reply.{Reply}
use Rattle.trace_text.specs.declared.reply.Reply.TheVariants as replies
use Rattle.trace_run.specs.KeptReads.{KeptRead}
use Rattle.trace_run.specs.Acts.{acts_of, acts_of_all, acts_of_caller, acts_of_drop, acts_of_dropping, acts_of_drops, acts_of_hold, acts_of_read}
use Rattle.trace_run.specs.Answers.{AnswersDrop}
use Rattle.trace_run.specs.Effects.{Answered, Effect, GivenBack, NoEffect, PoolRefused, calls_from, calls_of, calls_of_all, effect_of}
use Rattle.arc_table.specs.Telling.{opening_of}
use Rattle.trace_run.specs.Lines.{is_of_caller}
use Rattle.trace_run.specs.one_caller.OneCaller.{kept_after, kept_after_all, oldest_key}
use Rattle.trace_run.specs.Tally.{AnswersNow, AreAnswered, kept_of_block}
use Rattle.trace_run.specs.callers.Together.{over_callers, reads_of_caller}
use Rattle.trace_run.proofs.callers.AbsorbLemmas.{over-sum}
use Rattle.trace_run.proofs.callers.CallerActLemmas.{own-lines}
use Rattle.trace_run.proofs.RunLemmas.{pool_reads-append}
use Rattle.trace_run.proofs.one_caller.TellLemmas.{act-caller}

-- ---- the reads that an act stands for

-- what the acts of a caller's lines with its own number may be
abbrev pub IsLineAct : Act → Type 0
IsLineAct (Reads n t ptr from) = Unit {0}
IsLineAct (Keeps n t ptr from) = Unit {0}
IsLineAct (GivesBack n k) = Unit {0}
IsLineAct (Loads n t ptr from cell) = Unit {0}
IsLineAct (Fails n t ptr) = Unit {0}
IsLineAct (RunsOut n t ptr) = ⊥
IsLineAct (RunsOutAtDbuf n t ptr cell) = ⊥
IsLineAct (MakesPrivate cell k) = ⊥
IsLineAct (Writes cell t ptr) = ⊥

-- how many reads of the pool each stands for
abbrev pub reads_of_act : Act → ℕ
reads_of_act (Reads n t ptr from) = length (calls_from from)
reads_of_act (Keeps n t ptr from) = length (calls_from from)
reads_of_act (GivesBack n k) = 0
reads_of_act (Loads n t ptr from cell) = length (calls_from from)
reads_of_act (Fails n t ptr) = 1
reads_of_act (RunsOut n t ptr) = 0
reads_of_act (RunsOutAtDbuf n t ptr cell) = 0
reads_of_act (MakesPrivate cell k) = 0
reads_of_act (Writes cell t ptr) = 0

past-reads : (n : ℕ) (ptr : Ptr) (es : List Event) → IsPast n ptr es → pool_reads es ≡ 1
past-reads n ptr es past = ap pool_reads past.1

served-reads : (n t : ℕ) (ptr : Ptr) (from : Served) (rest es : List Event) → pool_reads rest ≡ 0 → IsServed n t ptr from rest es → pool_reads es ≡ length (calls_from from)
served-reads n t ptr served.Hit rest es none is = ap pool_reads is ∙ omega (arith, none, pool_reads-append (event.Hit n ptr.key t ∷ []) rest)
served-reads n t ptr served.Pool rest es none is = ap pool_reads is ∙ omega (arith, none, pool_reads-append (event.Miss n ptr.key t ∷ event.Arrive n ptr.key ptr.digest origin.Pool ∷ []) rest)
served-reads n t ptr served.L2 rest es none is = ap pool_reads is ∙ omega (arith, none, pool_reads-append (event.Miss n ptr.key t ∷ event.Arrive n ptr.key ptr.digest origin.L2 ∷ []) rest)
served-reads n t ptr served.Past rest es none is = past-reads n ptr es is

act-reads : (act : Act) (es : List Event) → IsLineAct act → AreEvents act es → pool_reads es ≡ reads_of_act act
act-reads (Reads n t ptr from) es line are = served-reads n t ptr from (event.Drop n ptr.key ∷ []) es refl are
act-reads (Keeps n t ptr from) es line are = served-reads n t ptr from [] es refl are
act-reads (GivesBack n k) es line are = ap pool_reads are
act-reads (Fails n t ptr) es line (inl is) = ap pool_reads is
act-reads (Fails n t ptr) es line (inr past) = past-reads n ptr es past
act-reads (Loads n t ptr from cell) es line are = served-reads n t ptr from (event.Hand n ptr.key cell ∷ []) es refl are
act-reads (RunsOut n t ptr) es line are = absurd line
act-reads (RunsOutAtDbuf n t ptr cell) es line are = absurd line
act-reads (MakesPrivate cell k) es line are = absurd line
act-reads (Writes cell t ptr) es line are = absurd line

events-append : (ms ns : List Moment) → map (λ (m : Moment). m.event) (ms ++ ns) ≡ map (λ (m : Moment). m.event) ms ++ map (λ (m : Moment). m.event) ns
events-append [] ns = refl
events-append (m ∷ ms) ns = ap (λ (es : List Event). m.event ∷ es) (events-append ms ns)

-- the acts that moments tell
tell-reads : (acts : List Act) (ms : List Moment) → AllByRecursion IsLineAct acts → Tell acts ms → pool_reads (map (λ m. m.event) ms) ≡ sum_by reads_of_act acts
tell-reads [] ms line told = ap (λ (l : List Moment). pool_reads (map (λ m. m.event) l)) told
tell-reads (act ∷ acts) ms line told =
    let front = told.0 in
    let rest = told.1 in
    let split : pool_reads (map (λ m. m.event) ms) ≡ pool_reads (map (λ m. m.event) front ++ map (λ m. m.event) rest) =
    ap (λ (l : List Moment). pool_reads (map (λ m. m.event) l)) told.2 ∙ ap pool_reads (events-append front rest) in
    omega (
      arith,
      split,
      pool_reads-append (map (λ m. m.event) front) (map (λ m. m.event) rest),
      act-reads act (map (λ m. m.event) front) line.0 told.3.events,
      tell-reads acts rest line.1 told.4,
      sum_by-cons reads_of_act act acts,
    )

-- ---- the reads that a number's events stand for

abbrev pub reads_by : (n : ℕ) → List Event → ℕ
reads_by n es = count_by (λ e. is_pool_read e && number_of e == n) es

pub read-no-pass : (e : Event) → is_pool_read e ≡ true → is_pass e ≡ false
read-no-pass (event.Pass n k owner) is = absurd (false≢true is)
read-no-pass e is = refl

-- one event more among those that are a number's own, and that are no passes
own-more : (his pass read : Bool) (e : Event) (ms : List Moment) (s : PlainShard) (count : ℕ) → is_pool_read e ≡ read → (read ≡ true → pass ≡ false) → pool_reads (map (λ m. m.event) ms) ≡ count
    → pool_reads (map (λ m. m.event) (cond (his && not pass) (record { before = s; event = e } ∷ ms) ms)) ≡ cond (read && his) 1 0 + count
own-more true true true e ms s count is never rest = absurd (false≢true (sym (never refl)))
own-more true true false e ms s count is never rest = omega (arith, rest)
own-more true false true e ms s count is never rest = omega (arith, rest, sum_by-cons (λ x. cond (is_pool_read x) 1 0) e (map (λ m. m.event) ms), ap {B = ℕ} (λ b. cond b 1 0) is)
own-more true false false e ms s count is never rest = omega (arith, rest, sum_by-cons (λ x. cond (is_pool_read x) 1 0) e (map (λ m. m.event) ms), ap {B = ℕ} (λ b. cond b 1 0) is)
own-more false true true e ms s count is never rest = omega (arith, rest)
own-more false true false e ms s count is never rest = omega (arith, rest)
own-more false false true e ms s count is never rest = omega (arith, rest)
own-more false false false e ms s count is never rest = omega (arith, rest)

own-reads : (n : ℕ) (s : PlainShard) (es : List Event) → pool_reads (map (λ m. m.event) (own_moments n (moments s es))) ≡ reads_by n es
own-reads n s [] = refl
own-reads n s (e ∷ es) =
    own-more (number_of e == n) (is_pass e) (is_pool_read e) e (own_moments n (moments (after s e) es)) s (reads_by n es) refl (read-no-pass e) (own-reads n (after s e) es)
    ∙ sym (sum_by-cons (λ x. cond (is_pool_read x && number_of x == n) 1 0) e es)

-- ---- sums over numbers

pub over-same : (k : ℕ) (f g : ℕ → ℕ) → ((n : ℕ) → n < k → f n ≡ g n) → over_callers k f ≡ over_callers k g
over-same zero f g same = refl
over-same (suc k) f g same = omega (arith, over-same k f g (λ n lt. same n (omega (arith, lt))), same k (omega arith))

pub over-zero : (k : ℕ) (f : ℕ → ℕ) → ((n : ℕ) → n < k → f n ≡ 0) → over_callers k f ≡ 0
over-zero zero f none = refl
over-zero (suc k) f none = omega (arith, over-zero k f (λ n lt. none n (omega (arith, lt))), none k (omega arith))

pub over-add : (k : ℕ) (f g : ℕ → ℕ) → over_callers k (λ n. f n + g n) ≡ over_callers k f + over_callers k g
over-add zero f g = refl
over-add (suc k) f g = omega (arith, over-add k f g)

-- of one number alone
pub over-one : (k j x : ℕ) → j < k → over_callers k (λ n. cond (j == n) x 0) ≡ x
over-one zero j x below = absurd (omega arith)
over-one (suc k) j x below = dite (ℕ_discrete j k)
    (λ same.
    let none : over_callers k (λ n. cond (j == n) x 0) ≡ 0 = over-zero k (λ n. cond (j == n) x 0) (λ n lt. ap (λ b. cond b x 0) (ne_eqb j n (λ e. absurd (omega (arith, lt, same, e))))) in
    omega (arith, none, ap (λ b. cond b x 0) (eq-eqb j k same)))
    (λ differs. omega (arith, over-one k j x (below-less j k below differs), ap (λ b. cond b x 0) (ne_eqb j k differs)))
  where
    below-less : (j k : ℕ) → j < suc k → (j ≡ k → ⊥) → j < k
    below-less j k below differs = omega arith

-- the acts of one number, shard by shard
shards-acts : (f : Key → ℕ) (k n : ℕ) (acts : List Act) → AllByRecursion (λ act. actor_of act ≡ n) acts → ((key : Key) → f key < k) → over_callers k (λ i. sum_by reads_of_act (acts_in f i n acts)) ≡ sum_by reads_of_act acts
shards-acts f k n [] own below = over-zero k (λ i. 0) (λ i lt. refl)
shards-acts f k n (act ∷ acts) own below =
    let rest = shards-acts f k n acts own.1 below in
    let here : ℕ = f (act_key act) in
    let each : over_callers k (λ i. sum_by reads_of_act (acts_in f i n (act ∷ acts))) ≡ over_callers k (λ i. cond (here == i) (reads_of_act act) 0 + sum_by reads_of_act (acts_in f i n acts)) =
    over-same k _ _ (λ i lt. one i (acts_in f i n acts) (here == i) (eq-eqb (actor_of act) n own.0)) in
    omega (arith, each, over-add k (λ i. cond (here == i) (reads_of_act act) 0) (λ i. sum_by reads_of_act (acts_in f i n acts)), over-one k here (reads_of_act act) (below (act_key act)), rest, sum_by-cons reads_of_act act acts)
  where
    one : (i : ℕ) (more : List Act) (there : Bool) → (actor_of act == n) ≡ true
        → sum_by reads_of_act (cond ((actor_of act == n) && there) (act ∷ more) more) ≡ cond there (reads_of_act act) 0 + sum_by reads_of_act more
    one i more true his = rw his (sum_by-cons reads_of_act act more)
    one i more false his = rw his (omega arith)

-- ---- the reads of a caller's lines

all-two : (P : Act → Type 0) (xs ys : List Act) → AllByRecursion P xs → AllByRecursion P ys → AllByRecursion P (xs ++ ys)
all-two P [] ys first second = second
all-two P (x ∷ xs) ys first second = (first.0, all-two P xs ys first.1 second)

-- acts of lines, which stand for so many reads of the pool
pub record Stand (acts : List Act) (reads : ℕ) : Type 0 where
  pub line : AllByRecursion IsLineAct acts
  pub count : sum_by reads_of_act acts ≡ reads

pub stand-two : (xs ys : List Act) (a b : ℕ) → Stand xs a → Stand ys b → Stand (xs ++ ys) (a + b)
stand-two xs ys a b first second = record { line = all-two IsLineAct xs ys first.line second.line; count = omega (arith, first.count, second.count, sum_by-append reads_of_act xs ys) }

stand-drop : (n : ℕ) (held : Option Key) → Stand (acts_of_drop n held) 0
stand-drop n None = record { line = tt; count = refl }
stand-drop n (Some key) = record { line = (tt, tt); count = refl }

stand-read : (n t : ℕ) (ptr : Ptr) (e : Effect) → Stand (acts_of_read n t ptr e) (length (calls_of e))
stand-read n t ptr (Answered from) = record { line = (tt, tt); count = omega arith }
stand-read n t ptr GivenBack = record { line = tt; count = refl }
stand-read n t ptr (PoolRefused call) = record { line = (tt, tt); count = refl }
stand-read n t ptr NoEffect = record { line = tt; count = refl }

stand-hold : (n t : ℕ) (ptr : Ptr) (e : Effect) → Stand (acts_of_hold n t ptr e) (length (calls_of e))
stand-hold n t ptr (Answered from) = record { line = (tt, tt); count = omega arith }
stand-hold n t ptr GivenBack = record { line = tt; count = refl }
stand-hold n t ptr (PoolRefused call) = record { line = (tt, tt); count = refl }
stand-hold n t ptr NoEffect = record { line = tt; count = refl }

stand-dropping : (n x had gave : ℕ) (kept : List KeptRead) (reply : Reply) → AnswersDrop had gave x reply → Stand (acts_of_dropping n x kept (effect_of reply)) (length (calls_of (effect_of reply)))
stand-dropping n x had gave kept replies.Dropped answer = stand-drop n (oldest_key x kept)
stand-dropping n x had gave kept (replies.Refused (refusal.NoHold block)) answer = record { line = tt; count = refl }
stand-dropping n x had gave kept (replies.Refused other) answer = absurd answer
stand-dropping n x had gave kept other answer = absurd answer

module _ (len : ℕ) (image : Option (List ℕ)) (blocks : List Ptr) where
  pub stand-line : (kept : List KeptRead) (op : Op) (reply : Reply) → AnswersNow len image blocks kept op reply → Stand (acts_of blocks kept op reply) (length (calls_of (effect_of reply)))
  stand-line kept (ops.Read n t x window) reply answer = rw answer.1 (stand-read n t answer.0 (effect_of reply))
  stand-line kept (ops.Hold n t x) reply answer = rw answer.1 (stand-hold n t answer.0 (effect_of reply))
  stand-line kept (ops.Drop n x) reply answer = stand-dropping n x (kept_of_block x kept) 0 kept reply answer
  stand-line kept (ops.Cap c) reply answer = subst (λ (r : Reply). Stand [] (length (calls_of (effect_of r)))) (sym answer) (record { line = tt; count = refl })
  stand-line kept other reply answer = absurd answer

  stand-lines : (kept : List KeptRead) (os : List Op) (rs : List Reply) → AreAnswered len image blocks kept os rs → Stand (acts_of_all blocks kept os rs) (length (calls_of_all rs))
  stand-lines kept [] [] answers = record { line = tt; count = refl }
  stand-lines kept [] (r ∷ rs) answers = absurd answers
  stand-lines kept (o ∷ os) [] answers = absurd answers
  stand-lines kept (o ∷ os) (r ∷ rs) answers =
      subst (Stand (acts_of_all blocks kept (o ∷ os) (r ∷ rs))) (sym (length-append (calls_of (effect_of r)) (calls_of_all rs)))
      (stand-two (acts_of blocks kept o r) (acts_of_all blocks (kept_after blocks o r kept) os rs) _ _ (stand-line kept o r answers.0) (stand-lines (kept_after blocks o r kept) os rs answers.1))

  pub stand-drops : (n : ℕ) (kept : List KeptRead) → Stand (acts_of_drops n kept) 0
  stand-drops n [] = record { line = tt; count = refl }
  stand-drops n (read ∷ reads) = stand-two (acts_of_drop n read.held) (acts_of_drops n reads) 0 0 (stand-drop n read.held) (stand-drops n reads)

  stand-caller : (n : ℕ) (os : List Op) (rs : List Reply) → AreAnswered len image blocks [] os rs → Stand (acts_of_caller blocks n os rs) (length (calls_of_all rs))
  stand-caller n os rs answers =
      subst (Stand (acts_of_caller blocks n os rs)) (add-zero (length (calls_of_all rs)))
      (stand-two (acts_of_all blocks [] os rs) (acts_of_drops n (kept_after_all blocks [] os rs)) _ 0 (stand-lines [] os rs answers) (stand-drops n (kept_after_all blocks [] os rs)))
    where
      add-zero : (k : ℕ) → k + 0 ≡ k
      add-zero k = omega arith

-- ---- the histories of a closed cache

get-there : {X : Type 0} (xs : List X) (k : ℕ) (d : X) → k < length xs → get_elem? xs k ≡ some (get_or xs k d)
get-there [] k d lt = absurd (omega arith)
get-there (x ∷ xs) zero d lt = refl
get-there (x ∷ xs) (suc k) d lt = get-there xs k d (omega arith)

-- A caller whose acts the histories tell has as many events that stand for reads of the pool as its acts stand for.
pub acts-counted : (g : Config) (n : ℕ) (acts : List Act) (histories : List (List Event)) → IsConfig g → length histories ≡ g.shards → AllByRecursion IsLineAct acts → AllByRecursion (λ act. actor_of act ≡ n) acts
    → ((i : ℕ) (h : List Event) → get_elem? histories i ≡ some h → Tell (acts_in (shard_of g.shards) i n acts) (own_moments n (moments (opening_of g) h))) → sum_by reads_of_act acts ≡ reads_of_caller n histories
acts-counted g n acts histories valid long line own told =
    let f : Key → ℕ = shard_of g.shards in
    let below : (key : Key) → f key < g.shards = λ key. mod_below (hash_of_key key) g.shards (let a = valid.counts.shards.0 in omega arith) in
    let each : (i : ℕ) → i < length histories → reads_by n (get_or histories i []) ≡ sum_by reads_of_act (acts_in f i n acts) = λ i lt.
    sym (own-reads n (opening_of g) (get_or histories i []))
    ∙ tell-reads (acts_in f i n acts) _ (all-filter (λ act. actor_of act == n && f (act_key act) == i) acts line) (told i (get_or histories i []) (get-there histories i [] lt)) in
    sym (shards-acts f g.shards n acts own below)
    ∙ (ap (λ (k : ℕ). over_callers k (λ i. sum_by reads_of_act (acts_in f i n acts))) (sym long)
    ∙ (sym (over-same (length histories) (λ i. reads_by n (get_or histories i [])) (λ i. sum_by reads_of_act (acts_in f i n acts)) each)
    ∙ over-sum (reads_by n) histories []))
  where
    all-filter : (test : Act → Bool) (xs : List Act) → AllByRecursion IsLineAct xs → AllByRecursion IsLineAct (filter test xs)
    all-filter test [] line = tt
    all-filter test (x ∷ xs) line = elim (cases_true (test x)) [
      | inl passes ↦ rw passes (line.0, all-filter test xs line.1)
      | inr fails ↦ rw fails (all-filter test xs line.1)
    ]

-- A caller whose lines were answered, and whose acts the histories tell, read its fork once for each of its events that stands for a read of the pool.
pub caller-reads : (g : Config) (len : ℕ) (image : Option (List ℕ)) (blocks : List Ptr) (n : ℕ) (all : List Op) (rs : List Reply) (histories : List (List Event)) → IsConfig g → length histories ≡ g.shards
    → AreAnswered len image blocks [] (filter (is_of_caller n) all) rs
    → ((i : ℕ) (h : List Event) → get_elem? histories i ≡ some h → Tell (acts_in (shard_of g.shards) i n (acts_of_caller blocks n (filter (is_of_caller n) all) rs)) (own_moments n (moments (opening_of g) h)))
    → length (calls_of_all rs) ≡ reads_of_caller n histories
caller-reads g len image blocks n all rs histories valid long answers told =
    let stand = stand-caller len image blocks n (filter (is_of_caller n) all) rs answers in
    sym stand.count ∙ acts-counted g n (acts_of_caller blocks n (filter (is_of_caller n) all) rs) histories valid long stand.line (act-caller blocks n (filter (is_of_caller n) all) rs (own-lines n all)) told

-- ---- no other's

-- an event that stands for a read of the pool is one of so many callers'
abbrev pub IsReadOfCaller : (callers : ℕ) → Event → Type 0
IsReadOfCaller callers e = is_pool_read e ≡ true → number_of e < callers

one-event : (callers : ℕ) (e : Event) → IsReadOfCaller callers e → over_callers callers (λ n. cond (is_pool_read e && number_of e == n) 1 0) ≡ cond (is_pool_read e) 1 0
one-event callers e his = split (is_pool_read e) refl
  where
    split : (b : Bool) → is_pool_read e ≡ b → over_callers callers (λ n. cond (b && number_of e == n) 1 0) ≡ cond b 1 0
    split true is = over-one callers (number_of e) 1 (his is)
    split false is = over-zero callers (λ n. 0) (λ n lt. refl)

one-history : (callers : ℕ) (es : List Event) → AllByRecursion (IsReadOfCaller callers) es → over_callers callers (λ n. reads_by n es) ≡ pool_reads es
one-history callers [] all = over-zero callers (λ n. 0) (λ n lt. refl)
one-history callers (e ∷ es) all =
    let each : over_callers callers (λ n. reads_by n (e ∷ es)) ≡ over_callers callers (λ n. cond (is_pool_read e && number_of e == n) 1 0 + reads_by n es) =
    over-same callers _ _ (λ n lt. sum_by-cons (λ x. cond (is_pool_read x && number_of x == n) 1 0) e es) in
    omega (
      arith,
      each,
      over-add callers (λ n. cond (is_pool_read e && number_of e == n) 1 0) (λ n. reads_by n es),
      one-event callers e all.0,
      one-history callers es all.1,
      sum_by-cons (λ x. cond (is_pool_read x) 1 0) e es,
    )

-- the reads of all callers are all that the histories stand for
pub all-reads : (callers : ℕ) (histories : List (List Event)) → AllByRecursion (λ es. AllByRecursion (IsReadOfCaller callers) es) histories
    → over_callers callers (λ n. reads_of_caller n histories) ≡ sum_by pool_reads histories
all-reads callers [] all = over-zero callers (λ n. 0) (λ n lt. refl)
all-reads callers (es ∷ histories) all =
    let each : over_callers callers (λ n. reads_of_caller n (es ∷ histories)) ≡ over_callers callers (λ n. reads_by n es + reads_of_caller n histories) = over-same callers _ _ (λ n lt. sum_by-cons (reads_by n) es histories) in
    omega (
      arith,
      each,
      over-add callers (λ n. reads_by n es) (λ n. reads_of_caller n histories),
      one-history callers es all.0,
      all-reads callers histories all.1,
      sum_by-cons pool_reads es histories,
    )
