-- Lines with their work, one behind the other: what they come to together, and what the lines of a group ask of the feeder.
use Rattle.std.proofs.Common.{◌≡◌, ◌⊎◌, ℕ, suc, ◌+◌, ◌<◌, ◌≤◌, ◌==◌, Bool, true, false, cond, List, [], ◌∷◌, ◌++◌, Option, Some, None, length, refl, sym, ap, ◌∙◌, subst, inl, inr, arith, append-nil, append_assoc, length-append}
use Rattle.std.specs.Prelude.{count_by}
use Rattle.std.specs.List.{AllByRecursion}
use Rattle.std.specs.Option.{option_map_or}
use Rattle.std.proofs.lemmas.Bool.{false≢true}
use Rattle.std.proofs.lemmas.List.Sums.{sum_by-append, sum_by-cons}
use Rattle.blk_ptr.specs.declared.ptr.Ptr.{Ptr}
use Rattle.vdev_io.specs.Calls.{Call, is_failed}
use Rattle.arc_core.specs.declared.config.Config.{Config}
use Rattle.arc_core.specs.declared.served.Served.{Served}
use Rattle.arc_core.specs.Operations.{Act}
use Rattle.arc_table.specs.declared.view.Line.{Line as Seen}
use Rattle.trace_text.specs.declared.op.Op.{Op}
use Rattle.trace_text.specs.declared.op.Op.TheVariants as ops
use Rattle.trace_text.specs.declared.reply.Refusal.{Refusal}
use Rattle.trace_text.specs.declared.reply.Refusal.TheVariants as refusals
use Rattle.trace_text.specs.declared.reply.Reply.{Reply}
use Rattle.trace_text.specs.declared.reply.Reply.TheVariants as replies
use Rattle.trace_run.specs.Answers.{is_pool_fault}
use Rattle.trace_run.specs.Deeds.{Noted}
use Rattle.trace_run.specs.Effects.{Answered, calls_of, effect_of}
use Rattle.trace_run.specs.Feeds.{is_feed}
use Rattle.trace_run.specs.KeptReads.{KeptRead}
use Rattle.trace_run.specs.Lines.{caller_of, is_of_caller}
use Rattle.trace_run.specs.dbufs.Objects.{Brought, GoesTogether, IsDoneWith, IsGotWith, IsRefusedWith, Line, Loaded, Nothing, Refused, replies_of}
use Rattle.trace_run.specs.dbufs.ObjectLines.{on_object}
use Rattle.trace_run.specs.one_caller.OneCaller.{kept_after}
use Rattle.trace_run.specs.RunWork.{kept_after_lines}
use Rattle.trace_run.specs.callers.InOrder.{AreInGroup}
use Rattle.trace_run.specs.callers.Together.{ends_group}
use Rattle.trace_run.specs.callers.WorkLines.{AnswersLine, AnswersLines, AreLinesOf, IsWorkOf, acts_of_work, acts_with, calls_of_lines, effect_with, noted_of_work}
use Rattle.trace_run.proofs.RunLemmas.{calls-few-one, failed-one}
use Rattle.trace_run.proofs.feeds.FeedLemmas.{feed-is}

-- ---- operations and replies of lines

pub lines-long : (os : List Op) (rs : List Reply) (ls : List Line) → AreLinesOf os rs ls → (length rs ≡ length os) × (length ls ≡ length os)
lines-long [] [] [] are = (refl, refl)
lines-long [] [] (l ∷ ls) are = absurd are
lines-long [] (r ∷ rs) ls are = absurd are
lines-long (o ∷ os) [] ls are = absurd are
lines-long (o ∷ os) (r ∷ rs) [] are = absurd are
lines-long (o ∷ os) (r ∷ rs) (l ∷ ls) are = let rest = lines-long os rs ls are.2 in (ap suc rest.0, ap suc rest.1)

pub are-append : (os qs : List Op) (rs ss : List Reply) (ls ms : List Line) → AreLinesOf os rs ls → AreLinesOf qs ss ms → AreLinesOf (os ++ qs) (rs ++ ss) (ls ++ ms)
are-append [] qs [] ss [] ms first rest = rest
are-append [] qs [] ss (l ∷ ls) ms first rest = absurd first
are-append [] qs (r ∷ rs) ss ls ms first rest = absurd first
are-append (o ∷ os) qs [] ss ls ms first rest = absurd first
are-append (o ∷ os) qs (r ∷ rs) ss [] ms first rest = absurd first
are-append (o ∷ os) qs (r ∷ rs) ss (l ∷ ls) ms first rest = (first.0, first.1, are-append os qs rs ss ls ms first.2 rest)

-- ---- one behind the other

pub noted-append : (ls ms : List Line) → noted_of_work (ls ++ ms) ≡ noted_of_work ls ++ noted_of_work ms
noted-append [] ms = refl
noted-append (l ∷ ls) ms = ap (λ (ns : List Noted). l.work.noted ++ ns) (noted-append ls ms) ∙ sym (append_assoc l.work.noted (noted_of_work ls) (noted_of_work ms))

pub calls-append : (ls ms : List Line) → calls_of_lines (ls ++ ms) ≡ calls_of_lines ls ++ calls_of_lines ms
calls-append [] ms = refl
calls-append (l ∷ ls) ms =
    let here : List Call = calls_of (effect_with l.work.brought l.reply) in
    ap (λ (cs : List Call). here ++ cs) (calls-append ls ms) ∙ sym (append_assoc here (calls_of_lines ls) (calls_of_lines ms))

module _ (g : Config) (blocks : List Ptr) where
  pub kept-lines : (kept : List KeptRead) (ls ms : List Line) → kept_after_lines blocks kept (ls ++ ms) ≡ kept_after_lines blocks (kept_after_lines blocks kept ls) ms
  kept-lines kept [] ms = refl
  kept-lines kept (l ∷ ls) ms = kept-lines (kept_after blocks l.op l.reply kept) ls ms

  pub acts-lines : (kept : List KeptRead) (ls ms : List Line) → acts_of_work g blocks kept (ls ++ ms) ≡ acts_of_work g blocks kept ls ++ acts_of_work g blocks (kept_after_lines blocks kept ls) ms
  acts-lines kept [] ms = refl
  acts-lines kept (l ∷ ls) ms =
      let next : List KeptRead = kept_after blocks l.op l.reply kept in
      ap (λ (rest : List Act). acts_with g blocks kept l ++ rest) (acts-lines next ls ms)
      ∙ sym (append_assoc (acts_with g blocks kept l) (acts_of_work g blocks next ls) (acts_of_work g blocks (kept_after_lines blocks next ls) ms))

  module _ (len : ℕ) (image : Option (List ℕ)) (place : ℕ) (openings : List (List ℕ)) (n : ℕ) where
    pub answers-lines : (seen : List (List Seen)) (had : List Noted) (kept : List KeptRead) (ls ms : List Line) → AnswersLines g len image place blocks openings seen n had kept ls
        → AnswersLines g len image place blocks openings seen n (had ++ noted_of_work ls) (kept_after_lines blocks kept ls) ms → AnswersLines g len image place blocks openings seen n had kept (ls ++ ms)
    answers-lines seen had kept [] ms first rest = subst (λ (ns : List Noted). AnswersLines g len image place blocks openings seen n ns kept ms) (append-nil had) rest
    answers-lines seen had kept (l ∷ ls) ms first rest = (
      first.0,
      answers-lines seen (had ++ l.work.noted) (kept_after blocks l.op l.reply kept) ls ms first.1
          (subst (λ (ns : List Noted). AnswersLines g len image place blocks openings seen n ns (kept_after_lines blocks (kept_after blocks l.op l.reply kept) ls) ms) (sym (append_assoc had l.work.noted (noted_of_work ls))) rest),
    )

    -- where each stands while more is seen
    pub lines-still : (s t : List (List Seen)) → ((l : Line) (had : List Noted) (kept : List KeptRead) → AnswersLine g len image place blocks openings s n had kept (on_object l.op) l → AnswersLine g len image place blocks openings t n had kept (on_object l.op) l)
        → (had : List Noted) (kept : List KeptRead) (ls : List Line) → AnswersLines g len image place blocks openings s n had kept ls → AnswersLines g len image place blocks openings t n had kept ls
    lines-still s t one had kept [] answers = tt
    lines-still s t one had kept (l ∷ ls) answers = (one l had kept answers.0, lines-still s t one (had ++ l.work.noted) (kept_after blocks l.op l.reply kept) ls answers.1)

-- ---- the lines of a group

-- none of them ends one
abbrev pub AreInside : List Line → Type 0
AreInside = AllByRecursion (λ l. ends_group l.op ≡ false)

caller-inside : (o : Op) (n : ℕ) → caller_of o ≡ Some n → ends_group o ≡ false
caller-inside (ops.Read m t x window) n of = refl
caller-inside (ops.Hold m t x) n of = refl
caller-inside (ops.Drop m x) n of = refl
caller-inside (ops.Get m t at window) n of = refl
caller-inside (ops.Put m t at size fill) n of = refl
caller-inside (ops.Patch m t at from bytes) n of = refl
caller-inside (ops.Pin m t at) n of = refl
caller-inside (ops.Unpin m at) n of = refl
caller-inside ops.Feed n of = refl
caller-inside (ops.Txg t) n of = cc
caller-inside (ops.Cap c) n of = cc

group-inside : (o : Op) (callers : ℕ) → ((n : ℕ) × (caller_of o ≡ Some n) × (n < callers)) ⊎ (is_feed o ≡ true) → ends_group o ≡ false
group-inside o callers (inl his) = caller-inside o his.0 his.1
group-inside o callers (inr asks) = ap ends_group (feed-is o asks)

pub all-inside : (callers : ℕ) (qs : List Op) (ss : List Reply) (ms : List Line) → AreInGroup callers qs → AreLinesOf qs ss ms → AreInside ms
all-inside callers [] [] [] own are = tt
all-inside callers [] [] (m ∷ ms) own are = absurd are
all-inside callers [] (s ∷ ss) ms own are = absurd are
all-inside callers (q ∷ qs) [] ms own are = absurd are
all-inside callers (q ∷ qs) (s ∷ ss) [] own are = absurd are
all-inside callers (q ∷ qs) (s ∷ ss) (m ∷ ms) own are = (ap ends_group are.0 ∙ group-inside q callers (own 0 q refl), all-inside callers qs ss ms (λ k op at. own (suc k) op at) are.2)

-- a line that ends a group is no caller's, and asks for no feed
pub ends-nobody : (op : Op) → ends_group op ≡ true → (caller_of op ≡ None) × (is_feed op ≡ false)
ends-nobody (ops.Read n t x window) is = absurd (false≢true is)
ends-nobody (ops.Hold n t x) is = absurd (false≢true is)
ends-nobody (ops.Drop n x) is = absurd (false≢true is)
ends-nobody (ops.Get n t at window) is = absurd (false≢true is)
ends-nobody (ops.Put n t at size fill) is = absurd (false≢true is)
ends-nobody (ops.Patch n t at from bytes) is = absurd (false≢true is)
ends-nobody (ops.Pin n t at) is = absurd (false≢true is)
ends-nobody (ops.Unpin n at) is = absurd (false≢true is)
ends-nobody ops.Feed is = absurd (false≢true is)
ends-nobody (ops.Txg t) is = (refl, refl)
ends-nobody (ops.Cap c) is = (refl, refl)

-- whether the feeder does a line
abbrev pub is_of_feeder : Op → Bool
is_of_feeder op = option_map_or (λ (n : ℕ). false) (caller_of op) true

pub nobody-feeders : (op : Op) → caller_of op ≡ None → is_of_feeder op ≡ true
nobody-feeders op none = ap (λ (o : Option ℕ). option_map_or (λ (n : ℕ). false) o true) none

pub nobody-callers : (n : ℕ) (op : Op) → caller_of op ≡ None → is_of_caller n op ≡ false
nobody-callers n op none = ap (λ (o : Option ℕ). option_map_or (λ (m : ℕ). m == n) o false) none

-- ---- what lines read of the pool

pub calls-few : (ls : List Line) → length (calls_of_lines ls) ≤ length ls
calls-few [] = omega arith
calls-few (l ∷ ls) =
    let here : List Call = calls_of (effect_with l.work.brought l.reply) in
    omega (arith, length-append here (calls_of_lines ls), calls-few-one (effect_with l.work.brought l.reply), calls-few ls)

-- a block that was brought whole is no fault of the pool
refused-not : (why : Refusal) (ptr : Ptr) (from : Served) → IsRefusedWith why (Loaded ptr from) → is_pool_fault (replies.Refused why) ≡ false
refused-not refusals.PoolFault ptr from with_it = absurd (other with_it.0 with_it.1)
  where
    other : (x : Ptr) → ◌≡◌ {A = Brought} (Loaded ptr from) (Refused x) → ⊥
    other x is = cc
refused-not (refusals.Mismatch found) ptr from with_it = refl
refused-not (refusals.Key why) ptr from with_it = refl
refused-not (refusals.Range end size) ptr from with_it = refl
refused-not (refusals.NoBlock at) ptr from with_it = refl
refused-not (refusals.NoHold block) ptr from with_it = refl
refused-not (refusals.NoPin at) ptr from with_it = refl
refused-not refusals.NoMemory ptr from with_it = refl

done-not : (reply : Reply) (ptr : Ptr) (from : Served) → IsDoneWith reply (Loaded ptr from) → is_pool_fault reply ≡ false
done-not replies.Done ptr from with_it = refl
done-not (replies.Refused why) ptr from with_it = refused-not why ptr from with_it
done-not (replies.Read served digest shown) ptr from with_it = absurd with_it
done-not (replies.Kept served) ptr from with_it = absurd with_it
done-not replies.Dropped ptr from with_it = absurd with_it
done-not (replies.Got size shown) ptr from with_it = absurd with_it
done-not (replies.Fed report) ptr from with_it = absurd with_it
done-not replies.FedNone ptr from with_it = absurd with_it
done-not (replies.Synced group count bytes) ptr from with_it = absurd with_it
done-not (replies.Capped c) ptr from with_it = absurd with_it

got-not : (reply : Reply) (ptr : Ptr) (from : Served) → IsGotWith reply (Loaded ptr from) → is_pool_fault reply ≡ false
got-not (replies.Got size shown) ptr from with_it = refl
got-not (replies.Refused why) ptr from with_it = refused-not why ptr from with_it
got-not (replies.Read served digest shown) ptr from with_it = absurd with_it
got-not (replies.Kept served) ptr from with_it = absurd with_it
got-not replies.Dropped ptr from with_it = absurd with_it
got-not replies.Done ptr from with_it = absurd with_it
got-not (replies.Fed report) ptr from with_it = absurd with_it
got-not replies.FedNone ptr from with_it = absurd with_it
got-not (replies.Synced group count bytes) ptr from with_it = absurd with_it
got-not (replies.Capped c) ptr from with_it = absurd with_it

loaded-not : (o : Op) (reply : Reply) (ptr : Ptr) (from : Served) → GoesTogether o reply (Loaded ptr from) → is_pool_fault reply ≡ false
loaded-not (ops.Get n t at w) reply ptr from together = got-not reply ptr from together
loaded-not (ops.Patch n t at start bytes) reply ptr from together = done-not reply ptr from together
loaded-not (ops.Pin n t at) reply ptr from together = done-not reply ptr from together
loaded-not (ops.Put n t at size fill) reply ptr from together = cc
loaded-not (ops.Unpin n at) reply ptr from together = cc
loaded-not (ops.Read n t x window) reply ptr from together = cc
loaded-not (ops.Hold n t x) reply ptr from together = cc
loaded-not (ops.Drop n x) reply ptr from together = cc
loaded-not ops.Feed reply ptr from together = cc
loaded-not (ops.Txg t) reply ptr from together = cc
loaded-not (ops.Cap c) reply ptr from together = cc

line-failed : (b : Brought) (o : Op) (reply : Reply) → GoesTogether o reply b → count_by is_failed (calls_of (effect_with b reply)) ≡ cond (is_pool_fault reply) 1 0
line-failed Nothing o reply together = failed-one (effect_of reply)
line-failed (Refused ptr) o reply together = failed-one (effect_of reply)
line-failed (Loaded ptr from) o reply together = failed-one (Answered from) ∙ sym (ap (λ (b : Bool). cond b 1 0) (loaded-not o reply ptr from together))

-- the reads that failed are those that are answered so
pub lines-failed : (g : Config) (n : ℕ) (ls : List Line) → AllByRecursion (IsWorkOf g n) ls → count_by is_failed (calls_of_lines ls) ≡ count_by is_pool_fault (replies_of ls)
lines-failed g n [] fits = refl
lines-failed g n (l ∷ ls) fits =
    let here : List Call = calls_of (effect_with l.work.brought l.reply) in
    let parts : count_by is_failed (here ++ calls_of_lines ls) ≡ count_by is_failed here + count_by is_failed (calls_of_lines ls) = sum_by-append _ here (calls_of_lines ls) in
    omega (arith, parts, line-failed l.work.brought l.op l.reply fits.0.together, lines-failed g n ls fits.1, sum_by-cons (λ r. cond (is_pool_fault r) 1 0) l.reply (replies_of ls))
