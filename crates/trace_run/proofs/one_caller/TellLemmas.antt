-- The events of one caller's history are its own, and so are its acts.
use Rattle.std.proofs.Common.{◌≡◌, ◌⊎◌, ℕ, ◌<◌, Bool, true, false, ◌||◌, nat_lt, IsTrue, IfSome, List, [], ◌∷◌, ◌++◌, Option, Some, None, inl, inr, refl, sym, ap, subst, arith}
use Rattle.std.specs.Prelude.{filter, slice_get}
use Rattle.std.specs.List.{AllByRecursion}
use Rattle.std.specs.Option.{option_map_or}
use Rattle.std.proofs.lemmas.Bool.{false≢true}
use Rattle.std.proofs.lemmas.Bool.Decides.{nat_tests}
use Rattle.std.proofs.lemmas.Slice.Eq.{bytes_eq-Decides}
use Rattle.blk_ptr.specs.declared.digest.Digest.{Digest}
use Rattle.blk_ptr.specs.declared.key.Key.{Key}
use Rattle.blk_ptr.specs.declared.ptr.Ptr.{Ptr}
use Rattle.blk_ptr.specs.Order.{digest_eq}
use Rattle.arc_core.specs.declared.event.Event.{Event}
use Rattle.arc_core.specs.declared.event.Event.TheVariants as event
use Rattle.arc_core.specs.Operations.{Act, Reads, Keeps, GivesBack, Fails, actor_of, are_passes_placed, has_its_number, is_pass, number_of}
use Rattle.arc_core.specs.declared.served.Served.{Served}
use Rattle.arc_core.specs.PlainShard.{PlainShard}
use Rattle.arc_core.specs.Replay.{replay}
use Rattle.trace_text.specs.declared.op.Op.{Op}
use Rattle.trace_text.specs.declared.op.Op.TheVariants as ops
use Rattle.trace_text.specs.declared.reply.Reply.{Reply}
use Rattle.trace_run.specs.one_caller.Access as access
use Rattle.trace_run.specs.KeptReads.{KeptRead}
use Rattle.trace_run.specs.one_caller.Access.{Access, access_of, events_of_answered, events_of_drop, events_of_refused, held_by_access}
use Rattle.trace_run.specs.Acts.{acts_of, acts_of_all, acts_of_caller, acts_of_drop, acts_of_dropping, acts_of_drops, acts_of_hold, acts_of_read}
use Rattle.trace_run.specs.one_caller.OneCaller.{events_of_op, events_of_all, events_of_dropping, events_of_drops, events_of_hold, events_of_read, kept_after, kept_after_all, oldest_key, one_caller_history, only_feeder}
use Rattle.trace_run.specs.Effects.{Effect, Answered, GivenBack, PoolRefused, NoEffect, effect_of}
use Rattle.trace_run.specs.Lines.{caller_of}

-- ---- what an access says of digests

pub digest_eq-same : (d : Digest) → digest_eq d d ≡ true
digest_eq-same d = (bytes_eq-Decides d.0 d.0).1 refl

-- ---- whose they are

-- an event that reads make
abbrev pub is_of_reads : Event → Bool
is_of_reads (event.Hit n k t) = true
is_of_reads (event.Miss n k t) = true
is_of_reads (event.Arrive n k d from) = true
is_of_reads (event.Fail n k at) = true
is_of_reads (event.Drop n k) = true
is_of_reads (event.Past n k kept) = true
is_of_reads _ = false

pub some-number : (n m : ℕ) → ◌≡◌ {A = Option ℕ} (Some n) (Some m) → n ≡ m
some-number n m is = cc

abbrev pub IsMine : ℕ → Event → Type 0
IsMine n e = (number_of e ≡ n) × (is_pass e ≡ false) × (is_of_reads e ≡ true)

pub all-append : {X : Type 0} (P : X → Type 0) (xs ys : List X) → AllByRecursion P xs → AllByRecursion P ys → AllByRecursion P (xs ++ ys)
all-append P [] ys first rest = rest
all-append P (x ∷ xs) ys first rest = (first.0, all-append P xs ys first.1 rest)

pub filter-all : {X : Type 0} (p : X → Bool) (xs : List X) → AllByRecursion (λ x. p x ≡ true) xs → filter p xs ≡ xs
filter-all p [] all = refl
filter-all {X} p (x ∷ xs) all = rw all.0 (ap (λ (l : List X). x ∷ l) (filter-all p xs all.1))

pub all-map : {X : Type 0} (P Q : X → Type 0) (xs : List X) → ((x : X) → P x → Q x) → AllByRecursion P xs → AllByRecursion Q xs
all-map P Q [] f all = tt
all-map P Q (x ∷ xs) f all = (f x all.0, all-map P Q xs f all.1)

mine-drop : (n : ℕ) (held : Option Key) → AllByRecursion (IsMine n) (events_of_drop n held)
mine-drop n None = tt
mine-drop n (Some key) = ((refl, refl, refl), tt)

pub mine-answered : (n t : ℕ) (ptr : Ptr) (from : Served) (a : Access) → AllByRecursion (IsMine n) (events_of_answered n t ptr from a)
mine-answered n t ptr from access.Hit = ((refl, refl, refl), tt)
mine-answered n t ptr from (access.Past kept) = ((refl, refl, refl), tt)
mine-answered n t ptr from access.Miss = ((refl, refl, refl), ((refl, refl, refl), tt))

pub mine-refused : (n t : ℕ) (ptr : Ptr) (a : Access) → AllByRecursion (IsMine n) (events_of_refused n t ptr a)
mine-refused n t ptr access.Hit = tt
mine-refused n t ptr (access.Past kept) = ((refl, refl, refl), tt)
mine-refused n t ptr access.Miss = ((refl, refl, refl), ((refl, refl, refl), tt))

mine-read : (n t : ℕ) (s : PlainShard) (ptr : Ptr) (e : Effect) → AllByRecursion (IsMine n) (events_of_read n t s ptr e)
mine-read n t s ptr (Answered from) = all-append (IsMine n) (events_of_answered n t ptr from (access_of s ptr)) _ (mine-answered n t ptr from (access_of s ptr)) (mine-drop n (held_by_access ptr (access_of s ptr)))
mine-read n t s ptr GivenBack = tt
mine-read n t s ptr (PoolRefused call) = mine-refused n t ptr (access_of s ptr)
mine-read n t s ptr NoEffect = tt

mine-hold : (n t : ℕ) (s : PlainShard) (ptr : Ptr) (e : Effect) → AllByRecursion (IsMine n) (events_of_hold n t s ptr e)
mine-hold n t s ptr (Answered from) = mine-answered n t ptr from (access_of s ptr)
mine-hold n t s ptr GivenBack = tt
mine-hold n t s ptr (PoolRefused call) = mine-refused n t ptr (access_of s ptr)
mine-hold n t s ptr NoEffect = tt

mine-dropping : (n x : ℕ) (kept : List KeptRead) (e : Effect) → AllByRecursion (IsMine n) (events_of_dropping n x kept e)
mine-dropping n x kept (Answered from) = tt
mine-dropping n x kept GivenBack = mine-drop n (oldest_key x kept)
mine-dropping n x kept (PoolRefused call) = tt
mine-dropping n x kept NoEffect = tt

pub mine-of : (blocks : List Ptr) (s : PlainShard) (kept : List KeptRead) (op : Op) (reply : Reply) (n : ℕ) → caller_of op ≡ Some n → AllByRecursion (IsMine n) (events_of_op blocks s kept op reply)
mine-of blocks s kept (ops.Read n t x window) reply m his = subst (λ (k : ℕ). AllByRecursion (IsMine k) (events_of_op blocks s kept (ops.Read n t x window) reply)) (some-number n m his) (go (slice_get blocks x))
  where
    go : (o : Option Ptr) → AllByRecursion (IsMine n) (option_map_or (λ ptr. events_of_read n t s ptr (effect_of reply)) o [])
    go None = tt
    go (Some ptr) = mine-read n t s ptr (effect_of reply)
mine-of blocks s kept (ops.Hold n t x) reply m his = subst (λ (k : ℕ). AllByRecursion (IsMine k) (events_of_op blocks s kept (ops.Hold n t x) reply)) (some-number n m his) (go (slice_get blocks x))
  where
    go : (o : Option Ptr) → AllByRecursion (IsMine n) (option_map_or (λ ptr. events_of_hold n t s ptr (effect_of reply)) o [])
    go None = tt
    go (Some ptr) = mine-hold n t s ptr (effect_of reply)
mine-of blocks s kept (ops.Drop n x) reply m his = subst (λ (k : ℕ). AllByRecursion (IsMine k) (events_of_op blocks s kept (ops.Drop n x) reply)) (some-number n m his) (mine-dropping n x kept (effect_of reply))
mine-of blocks s kept (ops.Cap c) reply m his = cc
mine-of blocks s kept other reply m his = tt

-- a new capacity, or a key that is restored
abbrev pub is_given : Event → Bool
is_given (event.Resize n c) = true
is_given (event.Restore n k place d) = true
is_given _ = false

-- an event of the one caller, or one of the feeder: a capacity that it gives, or a key that it restores
abbrev pub IsAloneEvent : Event → Type 0
IsAloneEvent e = IsMine 0 e ⊎ ((number_of e ≡ only_feeder) × (is_given e ≡ true))

-- the operation is the one caller's, where it is a caller's
abbrev pub IsAloneOp : Op → Type 0
IsAloneOp op = IfSome (caller_of op) (λ n. n ≡ 0)

alone-of : (blocks : List Ptr) (s : PlainShard) (kept : List KeptRead) (op : Op) (reply : Reply) → IsAloneOp op → AllByRecursion IsAloneEvent (events_of_op blocks s kept op reply)
alone-of blocks s kept (ops.Read n t x window) reply own = all-map (IsMine 0) IsAloneEvent _ (λ e is. inl is) (mine-of blocks s kept (ops.Read n t x window) reply 0 (ap (λ (k : ℕ). Some k) own))
alone-of blocks s kept (ops.Hold n t x) reply own = all-map (IsMine 0) IsAloneEvent _ (λ e is. inl is) (mine-of blocks s kept (ops.Hold n t x) reply 0 (ap (λ (k : ℕ). Some k) own))
alone-of blocks s kept (ops.Drop n x) reply own = all-map (IsMine 0) IsAloneEvent _ (λ e is. inl is) (mine-of blocks s kept (ops.Drop n x) reply 0 (ap (λ (k : ℕ). Some k) own))
alone-of blocks s kept (ops.Cap c) reply own = (inr (refl, refl), tt)
alone-of blocks s kept other reply own = tt

alone-all : (blocks : List Ptr) (s : PlainShard) (kept : List KeptRead) (os : List Op) (replies : List Reply) → AllByRecursion IsAloneOp os
    → AllByRecursion IsAloneEvent (events_of_all blocks s kept os replies)
alone-all blocks s kept [] replies own = tt
alone-all blocks s kept (op ∷ os) [] own = tt
alone-all blocks s kept (op ∷ os) (reply ∷ replies) own =
    all-append IsAloneEvent (events_of_op blocks s kept op reply) _ (alone-of blocks s kept op reply own.0) (alone-all blocks (replay s (events_of_op blocks s kept op reply)) (kept_after blocks op reply kept) os replies own.1)

pub mine-drops : (n : ℕ) (kept : List KeptRead) → AllByRecursion (IsMine n) (events_of_drops n kept)
mine-drops n [] = tt
mine-drops n (read ∷ reads) = all-append (IsMine n) (events_of_drop n read.held) _ (mine-drop n read.held) (mine-drops n reads)

-- ---- the acts of one caller are its own, and of reads

-- an act that a read or a drop of a trace stands for
abbrev pub IsReadAct : Act → Type 0
IsReadAct (Reads n t ptr from) = Unit {0}
IsReadAct (Keeps n t ptr from) = Unit {0}
IsReadAct (GivesBack n k) = Unit {0}
IsReadAct (Fails n t ptr) = Unit {0}
IsReadAct _ = ⊥

abbrev pub IsActOf : ℕ → Act → Type 0
IsActOf n act = (actor_of act ≡ n) × IsReadAct act

act-drop : (n : ℕ) (held : Option Key) → AllByRecursion (IsActOf n) (acts_of_drop n held)
act-drop n None = tt
act-drop n (Some key) = ((refl, tt), tt)

act-read : (n t : ℕ) (ptr : Ptr) (e : Effect) → AllByRecursion (IsActOf n) (acts_of_read n t ptr e)
act-read n t ptr (Answered from) = ((refl, tt), tt)
act-read n t ptr GivenBack = tt
act-read n t ptr (PoolRefused call) = ((refl, tt), tt)
act-read n t ptr NoEffect = tt

act-hold : (n t : ℕ) (ptr : Ptr) (e : Effect) → AllByRecursion (IsActOf n) (acts_of_hold n t ptr e)
act-hold n t ptr (Answered from) = ((refl, tt), tt)
act-hold n t ptr GivenBack = tt
act-hold n t ptr (PoolRefused call) = ((refl, tt), tt)
act-hold n t ptr NoEffect = tt

act-dropping : (n x : ℕ) (kept : List KeptRead) (e : Effect) → AllByRecursion (IsActOf n) (acts_of_dropping n x kept e)
act-dropping n x kept (Answered from) = tt
act-dropping n x kept GivenBack = act-drop n (oldest_key x kept)
act-dropping n x kept (PoolRefused call) = tt
act-dropping n x kept NoEffect = tt

pub act-of : (blocks : List Ptr) (kept : List KeptRead) (op : Op) (reply : Reply) (n : ℕ) → caller_of op ≡ Some n → AllByRecursion (IsActOf n) (acts_of blocks kept op reply)
act-of blocks kept (ops.Read n t x window) reply m his = subst (λ (k : ℕ). AllByRecursion (IsActOf k) (acts_of blocks kept (ops.Read n t x window) reply)) (some-number n m his) (go (slice_get blocks x))
  where
    go : (o : Option Ptr) → AllByRecursion (IsActOf n) (option_map_or (λ ptr. acts_of_read n t ptr (effect_of reply)) o [])
    go None = tt
    go (Some ptr) = act-read n t ptr (effect_of reply)
act-of blocks kept (ops.Hold n t x) reply m his = subst (λ (k : ℕ). AllByRecursion (IsActOf k) (acts_of blocks kept (ops.Hold n t x) reply)) (some-number n m his) (go (slice_get blocks x))
  where
    go : (o : Option Ptr) → AllByRecursion (IsActOf n) (option_map_or (λ ptr. acts_of_hold n t ptr (effect_of reply)) o [])
    go None = tt
    go (Some ptr) = act-hold n t ptr (effect_of reply)
act-of blocks kept (ops.Drop n x) reply m his = subst (λ (k : ℕ). AllByRecursion (IsActOf k) (acts_of blocks kept (ops.Drop n x) reply)) (some-number n m his) (act-dropping n x kept (effect_of reply))
act-of blocks kept other reply m his = tt

act-all : (n : ℕ) (blocks : List Ptr) (kept : List KeptRead) (os : List Op) (replies : List Reply) → AllByRecursion (λ op. caller_of op ≡ Some n) os
    → AllByRecursion (IsActOf n) (acts_of_all blocks kept os replies)
act-all n blocks kept [] replies own = tt
act-all n blocks kept (op ∷ os) [] own = tt
act-all n blocks kept (op ∷ os) (reply ∷ replies) own =
    all-append (IsActOf n) (acts_of blocks kept op reply) _ (act-of blocks kept op reply n own.0) (act-all n blocks (kept_after blocks op reply kept) os replies own.1)

pub act-drops : (n : ℕ) (kept : List KeptRead) → AllByRecursion (IsActOf n) (acts_of_drops n kept)
act-drops n [] = tt
act-drops n (read ∷ reads) = all-append (IsActOf n) (acts_of_drop n read.held) _ (act-drop n read.held) (act-drops n reads)

pub acts-caller : (blocks : List Ptr) (n : ℕ) (os : List Op) (replies : List Reply) → AllByRecursion (λ op. caller_of op ≡ Some n) os → AllByRecursion (IsActOf n) (acts_of_caller blocks n os replies)
acts-caller blocks n os replies own = all-append (IsActOf n) (acts_of_all blocks [] os replies) _ (act-all n blocks [] os replies own) (act-drops n (kept_after_all blocks [] os replies))

pub act-caller : (blocks : List Ptr) (n : ℕ) (os : List Op) (replies : List Reply) → AllByRecursion (λ op. caller_of op ≡ Some n) os → AllByRecursion (λ act. actor_of act ≡ n) (acts_of_caller blocks n os replies)
act-caller blocks n os replies own = all-map (IsActOf n) (λ act. actor_of act ≡ n) _ (λ act is. is.0) (acts-caller blocks n os replies own)

-- the history of the one caller has its own events, and the capacities that the feeder gives
pub alone-events : (blocks : List Ptr) (s : PlainShard) (os : List Op) (replies : List Reply) → AllByRecursion IsAloneOp os → AllByRecursion IsAloneEvent (one_caller_history blocks 0 s os replies)
alone-events blocks s os replies own =
    all-append IsAloneEvent (events_of_all blocks s [] os replies) _ (alone-all blocks s [] os replies own)
    (all-map (IsMine 0) IsAloneEvent _ (λ e is. inl is) (mine-drops 0 (kept_after_all blocks [] os replies)))

-- ---- the numbers of events, and no passes

-- a caller's number is one that an event of reads may have
pub caller-number : (callers cells n : ℕ) (e : Event) → n < callers → IsMine n e → IsTrue (has_its_number callers cells e)
caller-number callers cells n e lt mine = go e mine.2 (subst (λ m. nat_lt m callers ≡ true) (sym mine.0) is_caller)
  where
    is_caller : nat_lt n callers ≡ true
    is_caller = grind (arith, nat_tests)

    either : (a b : Bool) → a ≡ true → (a || b) ≡ true
    either a b h = rw h refl

    go : (e : Event) → is_of_reads e ≡ true → nat_lt (number_of e) callers ≡ true → has_its_number callers cells e ≡ true
    go (event.Hit n k t) of lt = lt
    go (event.Miss n k t) of lt = lt
    go (event.Arrive n k d from) of lt = lt
    go (event.Fail n k at) of lt = lt
    go (event.Drop n k) of lt = either (nat_lt n callers) _ lt
    go (event.Past n k kept) of lt = lt
    go (event.Pass n k owner) of lt = absurd (false≢true of)
    go (event.Hand n k to) of lt = absurd (false≢true of)
    go (event.Insert n k d t) of lt = absurd (false≢true of)
    go (event.Release n k sole) of lt = absurd (false≢true of)
    go (event.Pick n k) of lt = absurd (false≢true of)
    go (event.FeedEnd n) of lt = absurd (false≢true of)
    go (event.Set n k place) of lt = absurd (false≢true of)
    go (event.Leave n k why) of lt = absurd (false≢true of)
    go (event.Clear n k) of lt = absurd (false≢true of)
    go (event.Restore n k place d) of lt = absurd (false≢true of)
    go (event.Resize n c) of lt = absurd (false≢true of)

-- none of them is a pass
pub alone-no-pass : (e : Event) → IsAloneEvent e → is_pass e ≡ false
alone-no-pass e (inl mine) = mine.1
alone-no-pass (event.Pass n k owner) (inr is) = absurd (false≢true is.1)
alone-no-pass (event.Hit n k t) (inr is) = refl
alone-no-pass (event.Miss n k t) (inr is) = refl
alone-no-pass (event.Arrive n k d from) (inr is) = refl
alone-no-pass (event.Fail n k at) (inr is) = refl
alone-no-pass (event.Drop n k) (inr is) = refl
alone-no-pass (event.Past n k kept) (inr is) = refl
alone-no-pass (event.Hand n k to) (inr is) = refl
alone-no-pass (event.Insert n k d t) (inr is) = refl
alone-no-pass (event.Release n k sole) (inr is) = refl
alone-no-pass (event.Pick n k) (inr is) = refl
alone-no-pass (event.FeedEnd n) (inr is) = refl
alone-no-pass (event.Set n k place) (inr is) = refl
alone-no-pass (event.Leave n k why) (inr is) = refl
alone-no-pass (event.Clear n k) (inr is) = refl
alone-no-pass (event.Restore n k place d) (inr is) = refl
alone-no-pass (event.Resize n c) (inr is) = refl

-- without passes each stands where it may
pub no-passes : (es : List Event) → AllByRecursion IsAloneEvent es → are_passes_placed es ≡ true
no-passes [] all = refl
no-passes (e ∷ es) all = rw (alone-no-pass e all.0) (no-passes es all.1)
