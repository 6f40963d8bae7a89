-- The lines of a caller that is alone, over a pool and a cache device that tell their bytes: its report is that of the plain run, but that a block which
-- did not come from the pool may be another content of its digest.
use Rattle.std.proofs.Common.{◌≡◌, ℕ, ◌+◌, ◌<◌, Bool, true, false, if◌then◌else◌, List, [], ◌∷◌, ◌++◌, length, drop, Option, Some, None, IfSome, inl, inr, refl, sym, ap, subst, ◌∙◌, arith}
use Rattle.std.specs.Prelude.{nat_le, option_and_then, slice_get}
use Rattle.std.specs.List.{AllByRecursion}
use Rattle.std.specs.Option.{option_map_or}
use Rattle.std.proofs.lemmas.Bool.{eqb-true}
use Rattle.std.proofs.lemmas.Bool.Decides.{nat_tests}
use Rattle.blk_ptr.specs.declared.digest.Digest.{Digest}
use Rattle.blk_ptr.specs.declared.ptr.Ptr.{Ptr}
use Rattle.blk_ptr.specs.Key.{IsValid}
use Rattle.vdev_io.specs.declared.device.CacheDev.{Ghosts as DeviceGhosts}
use Rattle.vdev_io.specs.declared.pool.Pool.{Ghosts}
use Rattle.vdev_io.specs.Calls as io
use Rattle.vdev_io.specs.Calls.{Asked, Call, Gave, IsToldAfter, MakesDeviceCall, MakesDeviceCalls, answered}
use Rattle.arc_core.specs.declared.config.Config.{Config}
use Rattle.arc_core.specs.declared.entry.Entry.{Entry}
use Rattle.arc_core.specs.declared.served.Restored.{Restored}
use Rattle.arc_core.specs.declared.served.Served.{Served}
use Rattle.arc_core.specs.PlainShard.{PlainShard, entry_of}
use Rattle.arc_core.specs.Replay.{replay}
use Rattle.arc_table.specs.Seen.{HasAll}
use Rattle.arc_table.specs.Telling.{opening_of}
use Rattle.trace_text.specs.declared.op.Op.{Op}
use Rattle.trace_text.specs.declared.op.Op.TheVariants as ops
use Rattle.trace_text.specs.declared.reply.Refusal.{Refusal}
use Rattle.trace_text.specs.declared.reply.Refusal.TheVariants as refusal
use Rattle.trace_text.specs.declared.reply.Reply.{Reply}
use Rattle.trace_text.specs.declared.reply.Reply.TheVariants.{Read, Kept, Refused}
use Rattle.trace_text.specs.declared.trace.Trace.{Trace}
use Rattle.dbuf_state.specs.declared.window.Window.{Window}
use Rattle.trace_run.specs.one_caller.Access as access
use Rattle.trace_run.specs.one_caller.Access.{Access, access_of}
use Rattle.trace_run.specs.one_caller.Asking.{AsksBlock, AsksLine, AsksLines, AsksRead, CameFromDevice, NamesServed, answered_all, asked_by, asked_by_read, next_call, place_asked, place_in, place_on, read_on, serves, source_at, source_of}
use Rattle.trace_run.specs.KeptReads.{KeptRead}
use Rattle.trace_run.specs.Answering.{IsReadOfImage}
use Rattle.trace_run.specs.Answers.{AnswersHold, AnswersRead, IsReadRefusal, IsWindowRefusal}
use Rattle.trace_run.specs.callers.CallerLines.{At, DidLine, DidLines}
use Rattle.trace_run.specs.Effects.{Effect, Answered, GivenBack, PoolRefused, NoEffect, calls_of, calls_of_all, effect_of, effect_of_refusal}
use Rattle.trace_run.specs.Lines.{is_in_shard, shard_of_block, shard_of_line}
use Rattle.trace_run.specs.one_caller.OneCaller.{IsFoundAs, NamesSource, events_of_op, kept_after}
use Rattle.trace_run.specs.one_caller.OverShards.{shards_after_op}
use Rattle.trace_run.specs.one_caller.PlainReport.{ArePlainReplies, IsPlainReply}
use Rattle.trace_run.specs.one_caller.PlainRun.{Contents, Images, contents_after, contents_with, images, no_contents, replies_to, reply_to}
use Rattle.trace_run.specs.Read.{IsFromPool}
use Rattle.trace_run.specs.Reads.{now_of}
use Rattle.trace_run.specs.Restores.{restored_shard, restores_in}
use Rattle.trace_run.specs.Tally.{AnswersNow}
use Rattle.trace_run.proofs.LinesLemmas.{line-now}
use Rattle.trace_run.proofs.one_caller.PlainLemmas.{drop-front, next-is}
use Rattle.trace_run.proofs.one_caller.PlainReplyLemmas.{IsNamed, IsPlainlyServed, line-brings, line-grows, line-plain}
use Rattle.trace_run.proofs.one_caller.PlainReportLemmas.{alike-events, alike-kept, plain-alike}
use Rattle.trace_run.proofs.one_caller.ResidentLemmas.{AreTold, Brings, all-restores, told-replay, told-restores}

-- ---- where no call was made of the device

-- the same is named however a call would be answered
named-any : (size : ℕ) (image : List ℕ) (s : PlainShard) (ptr : Ptr) (e : Effect) (call : Call) → length (asked_by_read size s ptr e) ≡ 0 → NamesServed (source_at size image s ptr Gave) e
    → NamesServed (source_at size image s ptr call) e
named-any size image s ptr (Answered from) call none named = go (place_asked size ptr s) none named
  where
    go : (o : Option ℕ) → length (read_on ptr.key o) ≡ 0 → from ≡ source_of (access_of s ptr) (serves image ptr o Gave) → from ≡ source_of (access_of s ptr) (serves image ptr o call)
    go None none named = named
    go (Some place) none named = absurd (omega (arith, none))
named-any size image s ptr GivenBack call none named = tt
named-any size image s ptr (PoolRefused c) call none named = go (place_asked size ptr s) none named
  where
    go : (o : Option ℕ) → length (read_on ptr.key o) ≡ 0 → IsFromPool (source_of (access_of s ptr) (serves image ptr o Gave)) → IsFromPool (source_of (access_of s ptr) (serves image ptr o call))
    go None none named = named
    go (Some place) none named = absurd (omega (arith, none))
named-any size image s ptr NoEffect call none named = tt

-- so the next call may be any, where it made none
named-next : (size : ℕ) (image : List ℕ) (s : PlainShard) (ptr : Ptr) (e : Effect) (own rest : List Call) → length own ≡ length (asked_by_read size s ptr e) → NamesServed (source_at size image s ptr (next_call own)) e
    → NamesServed (source_at size image s ptr (next_call (own ++ rest))) e
named-next size image s ptr e [] rest many named = named-any size image s ptr e (next_call rest) (sym many) named
named-next size image s ptr e (call ∷ calls) rest many named = named

-- ---- what is known of each line

-- the calls that a line made of the device, and that it names where its bytes come from
record IsAskedSo (from : Images) (blocks : List Ptr) (s : PlainShard) (o : Op) (r : Reply) (own rest : List Call) : Type 0 where
  pub many : length own ≡ length (asked_by (length from.device) blocks s o r)
  pub named : IsNamed from blocks s o r (next_call (own ++ rest))

-- only reads are asked for
abbrev IsRead : Asked → Type 0
IsRead (io.Read place n) = Unit {0}
IsRead (io.Write place bytes) = ⊥
IsRead io.Flush = ⊥

reads-only : (size : ℕ) (s : PlainShard) (ptr : Ptr) (e : Effect) → AllByRecursion IsRead (asked_by_read size s ptr e)
reads-only size s ptr (Answered from) = go (place_asked size ptr s)
  where
    go : (o : Option ℕ) → AllByRecursion IsRead (read_on ptr.key o)
    go None = tt
    go (Some place) = (tt, tt)
reads-only size s ptr GivenBack = tt
reads-only size s ptr (PoolRefused c) = go (place_asked size ptr s)
  where
    go : (o : Option ℕ) → AllByRecursion IsRead (read_on ptr.key o)
    go None = tt
    go (Some place) = (tt, tt)
reads-only size s ptr NoEffect = tt

module _ {D : Type 0} (devices : DeviceGhosts D) (from : Images) (blocks : List Ptr) where
  -- the device as it is told
  abbrev IsTold : D → Type 0
  IsTold x = (devices.size x ≡ length from.device) × (devices.told x ≡ Some from.device)

  read-asked : (s : PlainShard) (there : Option Ptr) (e : Effect) (own rest : List Call) (x y : D) → IsTold x → AsksBlock devices s there e own x y
      → (length own ≡ length (option_map_or (λ ptr. asked_by_read (length from.device) s ptr e) there []))
      × IfSome there (λ ptr. NamesServed (source_at (length from.device) from.device s ptr (next_call (own ++ rest))) e)
  read-asked s None e own rest x y told asks = (ap length asks.0, tt)
  read-asked s (Some ptr) e own rest x y told asks =
      let many : length own ≡ length (asked_by_read (length from.device) s ptr e) = asks.many ∙ ap (λ (n : ℕ). length (asked_by_read n s ptr e)) told.0 in
      let served : IfSome (Some from.device) (λ image. NamesServed (source_at (devices.size x) image s ptr (next_call own)) e) = subst (λ (o : Option (List ℕ)). IfSome o (λ image. NamesServed (source_at (devices.size x) image s ptr (next_call own)) e)) told.1 asks.served in
      (many, named-next (length from.device) from.device s ptr e own rest many (subst (λ (n : ℕ). NamesServed (source_at n from.device s ptr (next_call own)) e) told.0 served))

  line-asked : (s : PlainShard) (o : Op) (r : Reply) (own rest : List Call) (x y : D) → IsTold x → AsksLine devices blocks s o r own x y → IsAskedSo from blocks s o r own rest
  line-asked s (ops.Read n t b window) r own rest x y told asks = let both = read-asked s (slice_get blocks b) (effect_of r) own rest x y told asks in record { many = both.0; named = both.1 }
  line-asked s (ops.Hold n t b) r own rest x y told asks = let both = read-asked s (slice_get blocks b) (effect_of r) own rest x y told asks in record { many = both.0; named = both.1 }
  line-asked s other r own rest x y told asks = record { many = ap length asks.0; named = tt }

  -- what a line asks leaves what it tells
  call-told : (a : Asked) (c : Call) (x y : D) → IsRead a → IsTold x → MakesDeviceCall devices (answered c a) x y → IsTold y
  call-told (io.Read place n) c x y is told made = (made.size ∙ told.0, go (devices.told x) (devices.told y) told.1 made.told)
    where
      go : (o p : Option (List ℕ)) → o ≡ Some from.device → IsToldAfter (io.Read place n) c o p → p ≡ Some from.device
      go None p is after = cc
      go (Some old) None is after = absurd after
      go (Some old) (Some new) is after = ap (λ (l : List ℕ). Some l) after ∙ is
  call-told (io.Write place bytes) c x y is told made = absurd is
  call-told io.Flush c x y is told made = absurd is

  calls-told : (asked : List Asked) (calls : List Call) (x y : D) → AllByRecursion IsRead asked → IsTold x → MakesDeviceCalls devices (answered_all calls asked) x y → IsTold y
  calls-told asked [] x y reads told made = subst IsTold (sym made) told
  calls-told [] (c ∷ cs) x y reads told made = subst IsTold (sym made) told
  calls-told (it ∷ asked) (c ∷ cs) x y reads told made = calls-told asked cs made.0 y reads.1 (call-told it c x made.0 reads.0 told made.1) made.2

  block-told : (s : PlainShard) (there : Option Ptr) (e : Effect) (own : List Call) (x y : D) → IsTold x → AsksBlock devices s there e own x y → IsTold y
  block-told s None e own x y told asks = subst IsTold (sym asks.1) told
  block-told s (Some ptr) e own x y told asks = calls-told (asked_by_read (devices.size x) s ptr e) own x y (reads-only (devices.size x) s ptr e) told asks.made

  line-told : (s : PlainShard) (o : Op) (r : Reply) (own : List Call) (x y : D) → IsTold x → AsksLine devices blocks s o r own x y → IsTold y
  line-told s (ops.Read n t b window) r own x y told asks = block-told s (slice_get blocks b) (effect_of r) own x y told asks
  line-told s (ops.Hold n t b) r own x y told asks = block-told s (slice_get blocks b) (effect_of r) own x y told asks
  line-told s other r own x y told asks = subst IsTold (sym asks.1) told

-- each line is answered as the plain run may answer it, with the calls that it made of the device; these are all that were made
abbrev AllServed : Images → (shards : ℕ) → List Ptr → (ℕ → PlainShard) → List KeptRead → List Op → List Reply → List Call → Type 0
AllServed from shards blocks s kept [] [] calls = Unit {0}
AllServed from shards blocks s kept [] (r ∷ rs) calls = ⊥
AllServed from shards blocks s kept (o ∷ os) [] calls = ⊥
AllServed from shards blocks s kept (o ∷ os) (r ∷ rs) calls =
    (own rest : List Call) × (calls ≡ own ++ rest) × (length own ≡ length (asked_by (length from.device) blocks (s (shard_of_line shards blocks o)) o r))
    × IsPlainlyServed from blocks (s (shard_of_line shards blocks o)) kept o r (next_call calls)
    × AllServed from shards blocks (shards_after_op shards blocks s kept o r) (kept_after blocks o r kept) os rs rest

module _ {C P D : Type 0} (g : Config) (pools : Ghosts P) (devices : DeviceGhosts D) (blocks : List Ptr) (from : Images) where
  line-served : (o : Op) (r : Reply) (a b : At C P) (own rest calls : List Call) (x y : D) → calls ≡ own ++ rest → DidLine g pools blocks o r a b → pools.size a.pool ≡ length from.pool → pools.told a.pool ≡ Some from.pool
      → IsTold devices from blocks x → AsksLine devices blocks (now_of g (shard_of_line g.shards blocks o) a.party) o r own x y
      → (length own ≡ length (asked_by (length from.device) blocks (now_of g (shard_of_line g.shards blocks o) a.party) o r)) × IsPlainlyServed from blocks (now_of g (shard_of_line g.shards blocks o) a.party) a.kept o r (next_call calls)
  line-served o r a b own rest calls x y is did size told there asks =
      let s = now_of g (shard_of_line g.shards blocks o) a.party in
      let asked = line-asked devices from blocks s o r own rest x y there asks in (
        asked.many,
        record {
          answer = subst (λ (x : ℕ × Option (List ℕ)). AnswersNow x.0 x.1 blocks a.kept o r) (λ h. (size h, told h)) did.answer;
          named = subst (λ (cs : List Call). IsNamed from blocks s o r (next_call cs)) (sym is) asked.named;
          range = λ came. subst (λ (x : Option (List ℕ)). IfSome x (λ l. IsReadOfImage l blocks o r)) told (did.range came);
        },
      )

  lines-served : (os : List Op) (rs : List Reply) (a b : At C P) (calls : List Call) (x y : D) → DidLines g pools blocks os rs a b → HasAll a.party → pools.size a.pool ≡ length from.pool → pools.told a.pool ≡ Some from.pool
      → IsTold devices from blocks x → AsksLines devices g.shards blocks (λ i. now_of g i a.party) a.kept os rs calls x y
      → AllServed from g.shards blocks (λ i. now_of g i a.party) a.kept os rs calls
  lines-served [] [] a b calls x y did alone size told there asks = tt
  lines-served [] (r ∷ rs) a b calls x y did alone size told there asks = absurd did
  lines-served (o ∷ os) [] a b calls x y did alone size told there asks = absurd did
  lines-served (o ∷ os) (r ∷ rs) a b calls x y did alone size told there asks =
      let next = did.0 in
      let one = did.1 in
      let own = asks.0 in
      let rest = asks.1 in
      let here = line-served o r a next own rest calls x asks.2 asks.3 one size told there asks.4 in
      let same : (λ (i : ℕ). now_of g i next.party) ≡ shards_after_op g.shards blocks (λ i. now_of g i a.party) a.kept o r = λ h i. line-now g pools blocks o r a next one alone i h in
      let goes = lines-served os rs next b rest asks.2 y did.2 (one.did.all alone) (one.keeps.size ∙ size) (one.keeps.told ∙ told)
      (line-told devices from blocks (now_of g (shard_of_line g.shards blocks o) a.party) o r own x asks.2 there asks.4)
      (subst (λ (z : (ℕ → PlainShard) × List KeptRead). AsksLines devices g.shards blocks z.0 z.1 os rs rest asks.2 y) (λ h. (sym same h, sym one.kept h)) asks.5) in
      (own, rest, asks.3, here.0, here.1, subst (λ (z : (ℕ → PlainShard) × List KeptRead). AllServed from g.shards blocks z.0 z.1 os rs rest) (λ h. (same h, one.kept h)) goes)

-- ---- over no device

-- a block whose key is accepted has no place on it
none-on : (ptr : Ptr) (s : PlainShard) (len : ℕ) → IsValid len ptr.key → place_asked 0 ptr s ≡ None
none-on ptr s len valid = of_access (access_of s ptr)
  where
    some-size : 0 < ptr.key.size
    some-size = let most = valid.formed.sized.1 in omega arith

    past-end : (place : ℕ) → nat_le (place + ptr.key.size) 0 ≡ false
    past-end place = let more = some-size in grind (arith, nat_tests, more)

    of_place : (known : Option Digest) (o : Option ℕ) → option_and_then (place_in 0 ptr known) o ≡ None
    of_place known None = refl
    of_place known (Some place) = rw (past-end place) refl

    of_entry : (o : Option Entry) → option_and_then (λ e. option_and_then (place_in 0 ptr e.digest) e.place) o ≡ None
    of_entry None = refl
    of_entry (Some e) = of_place e.digest e.place

    of_access : (a : Access) → place_on 0 ptr s a ≡ None
    of_access access.Hit = refl
    of_access (access.Past kept) = refl
    of_access access.Miss = of_entry (entry_of ptr.key s)

-- what a read names that the device did not serve
pub named-pool : (a : Access) (e : Effect) → NamesSource a e → (CameFromDevice e → ⊥) → NamesServed (source_of a false) e
named-pool access.Hit (Answered from) named other = named
named-pool (access.Past kept) (Answered from) named other = named
named-pool access.Miss (Answered from) named other = elim named [
  | inl pool ↦ pool
  | inr l2 ↦ absurd (other (subst (λ (f : Served). CameFromDevice (Answered f)) (sym l2) tt))
]
named-pool a GivenBack named other = tt
named-pool access.Hit (PoolRefused c) named other = absurd named
named-pool (access.Past kept) (PoolRefused c) named other = tt
named-pool access.Miss (PoolRefused c) named other = tt
named-pool a NoEffect named other = tt

-- an answered read, or one that the pool refused, has a key that is accepted
abbrev Touches : Effect → Type 0
Touches (Answered from) = Unit {0}
Touches GivenBack = ⊥
Touches (PoolRefused call) = Unit {0}
Touches NoEffect = ⊥

refused-valid : (len : ℕ) (image : Option (List ℕ)) (ptr : Ptr) (r : Refusal) → IsReadRefusal len image ptr r → Touches (effect_of_refusal r) → IsValid len ptr.key
refused-valid len image ptr refusal.PoolFault answer touches = answer
refused-valid len image ptr (refusal.Mismatch found) answer touches = answer.0
refused-valid len image ptr other answer touches = absurd touches

window-valid : (len : ℕ) (image : Option (List ℕ)) (ptr : Ptr) (window : Window) (r : Refusal) → IsWindowRefusal len image ptr window r → Touches (effect_of_refusal r) → IsValid len ptr.key
window-valid len image ptr window refusal.PoolFault answer touches = answer.1
window-valid len image ptr window (refusal.Mismatch found) answer touches = answer.1.0
window-valid len image ptr window other answer touches = absurd touches

read-valid : (len : ℕ) (image : Option (List ℕ)) (ptr : Ptr) (window : Window) (reply : Reply) → AnswersRead len image ptr window reply → Touches (effect_of reply) → IsValid len ptr.key
read-valid len image ptr window (Read from digest shown) answer touches = answer.1
read-valid len image ptr window (Refused r) answer touches = window-valid len image ptr window r answer touches
read-valid len image ptr window other answer touches = absurd answer

hold-valid : (len : ℕ) (image : Option (List ℕ)) (ptr : Ptr) (reply : Reply) → AnswersHold len image ptr reply → Touches (effect_of reply) → IsValid len ptr.key
hold-valid len image ptr (Kept from) answer touches = answer.0
hold-valid len image ptr (Refused r) answer touches = refused-valid len image ptr r answer touches
hold-valid len image ptr other answer touches = absurd answer

module _ {D : Type 0} (devices : DeviceGhosts D) where
  -- a read of an accepted key asks nothing
  asks-none : (s : PlainShard) (ptr : Ptr) (e : Effect) (own : List Call) (x y : D) (len : ℕ) → (Touches e → IsValid len ptr.key) → devices.size x ≡ 0 → AsksRead devices s ptr e own x y → (asked_by_read 0 s ptr e ≡ []) × (own ≡ [])
  asks-none s ptr e own x y len valid short asks = let none = nothing e valid in (none, no-call own (asks.many ∙ ap (λ (n : ℕ). length (asked_by_read n s ptr e)) short ∙ ap length none))
    where
      nothing : (e : Effect) → (Touches e → IsValid len ptr.key) → asked_by_read 0 s ptr e ≡ []
      nothing (Answered from) valid = ap (read_on ptr.key) (none-on ptr s len (valid tt))
      nothing GivenBack valid = refl
      nothing (PoolRefused c) valid = ap (read_on ptr.key) (none-on ptr s len (valid tt))
      nothing NoEffect valid = refl

      no-call : (cs : List Call) → length cs ≡ 0 → cs ≡ []
      no-call [] none = refl
      no-call (c ∷ cs) none = absurd (omega (arith, none))

  -- so it names the pool, where it is no hit
  names-pool : (s : PlainShard) (ptr : Ptr) (e : Effect) (own : List Call) (x y : D) (len : ℕ) (image : List ℕ) → (Touches e → IsValid len ptr.key) → devices.size x ≡ 0 → AsksRead devices s ptr e own x y → NamesSource (access_of s ptr) e
      → NamesServed (source_at 0 image s ptr Gave) e
  names-pool s ptr e own x y len image valid short asks named = go e valid named (λ came. let one = asks.gave came in let none = (asks-none s ptr e own x y len valid short asks).1 in let never : [] ≡ Gave ∷ [] = sym none ∙ one in cc)
    where
      source : IsValid len ptr.key → source_at 0 image s ptr Gave ≡ source_of (access_of s ptr) false
      source ok = ap (λ (o : Option ℕ). source_of (access_of s ptr) (serves image ptr o Gave)) (none-on ptr s len ok)

      go : (e : Effect) → (Touches e → IsValid len ptr.key) → NamesSource (access_of s ptr) e → (CameFromDevice e → ⊥) → NamesServed (source_at 0 image s ptr Gave) e
      go (Answered from) valid named other = subst (λ (f : Served). NamesServed f (Answered from)) (sym (source (valid tt))) (named-pool (access_of s ptr) (Answered from) named other)
      go GivenBack valid named other = tt
      go (PoolRefused c) valid named other = subst (λ (f : Served). NamesServed f (PoolRefused c)) (sym (source (valid tt))) (named-pool (access_of s ptr) (PoolRefused c) named other)
      go NoEffect valid named other = tt

  -- what is so of a line
  still : (s : PlainShard) (ptr : Ptr) (e : Effect) (own : List Call) (x y : D) → own ≡ [] → devices.size x ≡ 0 → AsksRead devices s ptr e own x y → devices.size y ≡ 0
  still s ptr e own x y none short asks =
      let same : y ≡ x = subst (λ (cs : List Call). MakesDeviceCalls devices (answered_all cs (asked_by_read (devices.size x) s ptr e)) x y) none asks.made in
      ap devices.size same ∙ short

  line-unlent : (blocks : List Ptr) (pool : List ℕ) (s : PlainShard) (kept : List KeptRead) (o : Op) (r : Reply) (own : List Call) (x y : D) → devices.size x ≡ 0 → AnswersNow (length pool) (Some pool) blocks kept o r → IsFoundAs blocks s o r
      → AsksLine devices blocks s o r own x y → (own ≡ []) × (devices.size y ≡ 0) × (asked_by 0 blocks s o r ≡ []) × IsNamed (images pool []) blocks s o r Gave
  line-unlent blocks pool s kept (ops.Read n t b window) r own x y short answer found asks =
      let at = answer.1 in
      let ptr = answer.0 in
      let one : AsksRead devices s ptr (effect_of r) own x y = rw at at asks in
      let ok = read-valid (length pool) (Some pool) ptr window r answer.2 in
      let none = asks-none s ptr (effect_of r) own x y (length pool) ok short one in
      (none.1, still s ptr (effect_of r) own x y none.1 short one, rw at none.0, rw at (names-pool s ptr (effect_of r) own x y (length pool) [] ok short one (rw at at found)))
  line-unlent blocks pool s kept (ops.Hold n t b) r own x y short answer found asks =
      let at = answer.1 in
      let ptr = answer.0 in
      let one : AsksRead devices s ptr (effect_of r) own x y = rw at at asks in
      let ok = hold-valid (length pool) (Some pool) ptr r answer.2 in
      let none = asks-none s ptr (effect_of r) own x y (length pool) ok short one in
      (none.1, still s ptr (effect_of r) own x y none.1 short one, rw at none.0, rw at (names-pool s ptr (effect_of r) own x y (length pool) [] ok short one (rw at at found)))
  line-unlent blocks pool s kept other r own x y short answer found asks = (asks.0, ap devices.size asks.1 ∙ short, refl, tt)

module _ {C P D : Type 0} (g : Config) (pools : Ghosts P) (devices : DeviceGhosts D) (blocks : List Ptr) (pool : List ℕ) where
  lines-unlent : (os : List Op) (rs : List Reply) (a b : At C P) (calls : List Call) (x y : D) → DidLines g pools blocks os rs a b → HasAll a.party → pools.size a.pool ≡ length pool → pools.told a.pool ≡ Some pool
      → devices.size x ≡ 0 → AsksLines devices g.shards blocks (λ i. now_of g i a.party) a.kept os rs calls x y
      → AllServed (images pool []) g.shards blocks (λ i. now_of g i a.party) a.kept os rs []
  lines-unlent [] [] a b calls x y did alone size told short asks = tt
  lines-unlent [] (r ∷ rs) a b calls x y did alone size told short asks = absurd did
  lines-unlent (o ∷ os) [] a b calls x y did alone size told short asks = absurd did
  lines-unlent (o ∷ os) (r ∷ rs) a b calls x y did alone size told short asks =
      let next = did.0 in
      let one = did.1 in
      let s = now_of g (shard_of_line g.shards blocks o) a.party in
      let answer : AnswersNow (length pool) (Some pool) blocks a.kept o r = subst (λ (x : ℕ × Option (List ℕ)). AnswersNow x.0 x.1 blocks a.kept o r) (λ h. (size h, told h)) one.answer in
      let here = line-unlent devices blocks pool s a.kept o r asks.0 x asks.2 short answer (one.found alone) asks.4 in
      let same : (λ (i : ℕ). now_of g i next.party) ≡ shards_after_op g.shards blocks (λ i. now_of g i a.party) a.kept o r = λ h i. line-now g pools blocks o r a next one alone i h in
      let goes = lines-unlent os rs next b asks.1 asks.2 y did.2 (one.did.all alone) (one.keeps.size ∙ size) (one.keeps.told ∙ told) here.1
      (subst (λ (z : (ℕ → PlainShard) × List KeptRead). AsksLines devices g.shards blocks z.0 z.1 os rs asks.1 asks.2 y) (λ h. (sym same h, sym one.kept h)) asks.5) in (
        [],
        [],
        refl,
        sym (ap length here.2),
        record { answer = answer; named = here.3; range = λ came. subst (λ (x : Option (List ℕ)). IfSome x (λ l. IsReadOfImage l blocks o r)) told (one.range came) },
        subst (λ (z : (ℕ → PlainShard) × List KeptRead). AllServed (images pool []) g.shards blocks z.0 z.1 os rs []) (λ h. (same h, one.kept h)) goes,
      )

-- ---- all replies

-- what a line asks the device for, and what it brings, goes by what it did
alike-asked : (size : ℕ) (blocks : List Ptr) (s : PlainShard) (op : Op) (a b : Reply) → effect_of a ≡ effect_of b → asked_by size blocks s op a ≡ asked_by size blocks s op b
alike-asked size blocks s (ops.Read n t x window) a b same = ap (λ (e : Effect). option_map_or (λ ptr. asked_by_read size s ptr e) (slice_get blocks x) []) same
alike-asked size blocks s (ops.Hold n t x) a b same = ap (λ (e : Effect). option_map_or (λ ptr. asked_by_read size s ptr e) (slice_get blocks x) []) same
alike-asked size blocks s other a b same = refl

alike-contents : (from : Images) (blocks : List Ptr) (s : PlainShard) (contents : Contents) (op : Op) (a b : Reply) → effect_of a ≡ effect_of b → contents_after from blocks s op a contents ≡ contents_after from blocks s op b contents
alike-contents from blocks s contents (ops.Read n t x window) a b same = ap (λ (e : Effect). option_map_or (λ ptr. contents_with from contents s ptr e) (slice_get blocks x) contents) same
alike-contents from blocks s contents (ops.Hold n t x) a b same = ap (λ (e : Effect). option_map_or (λ ptr. contents_with from contents s ptr e) (slice_get blocks x) contents) same
alike-contents from blocks s contents other a b same = refl

module _ (from : Images) (shards : ℕ) (blocks : List Ptr) where
  -- a line on a block of a shard brings nothing else there; a capacity brings nothing into any
  brings-in : (s : ℕ → PlainShard) (kept : List KeptRead) (contents : Contents) (o : Op) (r : Reply) (call : Call) → IsPlainlyServed from blocks (s (shard_of_line shards blocks o)) kept o r call → (i : ℕ) → is_in_shard shards blocks i o ≡ true
      → AllByRecursion (Brings (contents_after from blocks (s (shard_of_line shards blocks o)) o r contents)) (events_of_op blocks (s i) kept o r)
  brings-in s kept contents (ops.Read n t x window) r call is i in_it =
      let here = shard_of_block shards blocks x in
      subst (λ (j : ℕ). AllByRecursion (Brings (contents_after from blocks (s here) (ops.Read n t x window) r contents)) (events_of_op blocks (s j) kept (ops.Read n t x window) r)) (eqb-true here i in_it)
      (line-brings from contents blocks (s here) kept (ops.Read n t x window) r call is)
  brings-in s kept contents (ops.Hold n t x) r call is i in_it =
      let here = shard_of_block shards blocks x in
      subst (λ (j : ℕ). AllByRecursion (Brings (contents_after from blocks (s here) (ops.Hold n t x) r contents)) (events_of_op blocks (s j) kept (ops.Hold n t x) r)) (eqb-true here i in_it)
      (line-brings from contents blocks (s here) kept (ops.Hold n t x) r call is)
  brings-in s kept contents (ops.Drop n x) r call is i in_it =
      let here = shard_of_block shards blocks x in
      subst (λ (j : ℕ). AllByRecursion (Brings contents) (events_of_op blocks (s j) kept (ops.Drop n x) r)) (eqb-true here i in_it)
      (line-brings from contents blocks (s here) kept (ops.Drop n x) r call is)
  brings-in s kept contents (ops.Cap c) r call is i in_it = (tt, tt)
  brings-in s kept contents other r call is i in_it = tt

  -- each digest that a shard keeps has its bytes, also after a line
  told-shards : (s : ℕ → PlainShard) (kept : List KeptRead) (contents : Contents) (o : Op) (r : Reply) (call : Call) → IsPlainlyServed from blocks (s (shard_of_line shards blocks o)) kept o r call
      → ((i : ℕ) → AreTold contents (s i).entries) → (i : ℕ) → AreTold (contents_after from blocks (s (shard_of_line shards blocks o)) o r contents) (shards_after_op shards blocks s kept o r i).entries
  told-shards s kept contents o r call is told i = go (is_in_shard shards blocks i o) refl
    where
      cached : Contents
      cached = contents_after from blocks (s (shard_of_line shards blocks o)) o r contents

      still : AreTold cached (s i).entries
      still = line-grows from contents blocks (s (shard_of_line shards blocks o)) kept o r call is (s i).entries (told i)

      go : (t : Bool) → is_in_shard shards blocks i o ≡ t → AreTold cached (replay (s i) (if t then events_of_op blocks (s i) kept o r else [])).entries
      go true in_it = told-replay cached (s i) (events_of_op blocks (s i) kept o r) (brings-in s kept contents o r call is i in_it) still
      go false in_it = still

  pub plain-replies : (s : ℕ → PlainShard) (kept : List KeptRead) (contents : Contents) (os : List Op) (rs : List Reply) (device_calls : List Call) → ((i : ℕ) → AreTold contents (s i).entries)
      → AllServed from shards blocks s kept os rs device_calls → ArePlainReplies blocks os (replies_to from shards blocks s kept contents os (calls_of_all rs) device_calls) rs
  plain-replies s kept contents [] [] device_calls told lines = tt
  plain-replies s kept contents [] (r ∷ rs) device_calls told lines = absurd lines
  plain-replies s kept contents (o ∷ os) [] device_calls told lines = absurd lines
  plain-replies s kept contents (o ∷ os) (r ∷ rs) device_calls told lines =
      let own = calls_of (effect_of r) in
      let rest = calls_of_all rs in
      let call : Call = next_call (own ++ rest) in
      let asked_own = lines.0 in
      let asked_rest = lines.1 in
      let is = lines.4 in
      let here : PlainShard = s (shard_of_line shards blocks o) in
      let p : Reply = reply_to from blocks here kept contents o call (next_call device_calls) in
      let first : IsPlainReply blocks o p r = line-plain from contents blocks here kept o r call (next_call device_calls) is (told (shard_of_line shards blocks o)) (next-is own rest) in
      let alike : effect_of p ≡ effect_of r = (plain-alike blocks o p r first).effect in
      let after : shards_after_op shards blocks s kept o p ≡ shards_after_op shards blocks s kept o r =
      λ h j. replay (s j) (if is_in_shard shards blocks j o then alike-events blocks (s j) kept o p r alike h else []) in
      let left : kept_after blocks o p kept ≡ kept_after blocks o r kept = alike-kept blocks kept o p r alike in
      let cached : contents_after from blocks here o p contents ≡ contents_after from blocks here o r contents = alike-contents from blocks here contents o p r alike in
      let gone : drop (length (calls_of (effect_of p))) (own ++ rest) ≡ rest = (λ h. drop (length (calls_of (alike h))) (own ++ rest)) ∙ drop-front own rest in
      let asked_gone : drop (length (asked_by (length from.device) blocks here o p)) device_calls ≡ asked_rest =
      (λ h. drop (length (alike-asked (length from.device) blocks here o p r alike h)) (lines.2 h)) ∙ ((λ h. drop (sym lines.3 h) (asked_own ++ asked_rest)) ∙ drop-front asked_own asked_rest) in
      let goes = plain-replies (shards_after_op shards blocks s kept o r) (kept_after blocks o r kept) (contents_after from blocks here o r contents) os rs asked_rest (told-shards s kept contents o r (next_call device_calls) is told) lines.5 in
      (first, subst (λ (l : List Reply). ArePlainReplies blocks os l rs) (sym (λ h. replies_to from shards blocks (after h) (left h) (cached h) os (gone h) (asked_gone h))) goes)

-- ---- the run

module _ {C P D : Type 0} (pools : Ghosts P) (devices : DeviceGhosts D) (trace : Trace) (restored : List Restored) (replies : List Reply) (a b : At C P) (device_calls : List Call) (x y : D)
    (did : DidLines trace.config pools trace.blocks trace.ops replies a b) (alone : HasAll a.party) (none : a.kept ≡ []) (opens : (i : ℕ) → now_of trace.config i a.party ≡ restored_shard trace.config restored i)
    (asks : AsksLines devices trace.config.shards trace.blocks (restored_shard trace.config restored) [] trace.ops replies device_calls x y) (pool : List ℕ) (told : pools.told a.pool ≡ Some pool) (sized : length pool ≡ pools.size a.pool) where
  abbrev start : ℕ → PlainShard
  start = restored_shard trace.config restored

  abbrev state-is : ((ℕ → PlainShard) × List KeptRead) → Type 0
  state-is z = ◌≡◌ {A = (ℕ → PlainShard) × List KeptRead} (λ i. now_of trace.config i a.party, a.kept) z

  begins : state-is (start, [])
  begins = λ h. (λ i. opens i h, none h)

  there : AsksLines devices trace.config.shards trace.blocks (λ i. now_of trace.config i a.party) a.kept trace.ops replies device_calls x y
  there = subst (λ (z : (ℕ → PlainShard) × List KeptRead). AsksLines devices trace.config.shards trace.blocks z.0 z.1 trace.ops replies device_calls x y) (sym begins) asks

  served-plain : (from : Images) (calls : List Call) → AllServed from trace.config.shards trace.blocks (λ i. now_of trace.config i a.party) a.kept trace.ops replies calls
      → ArePlainReplies trace.blocks trace.ops (replies_to from trace.config.shards trace.blocks start [] no_contents trace.ops (calls_of_all replies) calls) replies
  served-plain from calls served =
      plain-replies from trace.config.shards trace.blocks start [] no_contents trace.ops replies calls
      (λ i. told-restores no_contents (opening_of trace.config) (restores_in trace.config restored i) (all-restores trace.config restored i) tt)
      (subst (λ (z : (ℕ → PlainShard) × List KeptRead). AllServed from trace.config.shards trace.blocks z.0 z.1 trace.ops replies calls) begins served)

  -- A caller that is alone and kept nothing, over shards to which keys were restored, and over a device that tells its bytes: its replies are those of the
  -- plain run, but for other contents of one digest.
  pub plain-alone : (bytes : List ℕ) → devices.told x ≡ Some bytes → length bytes ≡ devices.size x
      → ArePlainReplies trace.blocks trace.ops (replies_to (images pool bytes) trace.config.shards trace.blocks start [] no_contents trace.ops (calls_of_all replies) device_calls) replies
  plain-alone bytes device_told device_sized =
      served-plain (images pool bytes) device_calls (lines-served trace.config pools devices trace.blocks (images pool bytes) trace.ops replies a b device_calls x y did alone (sym sized) told (sym device_sized, device_told) there)

  -- the same over no device, which was not asked
  pub plain-unlent : devices.size x ≡ 0 → ArePlainReplies trace.blocks trace.ops (replies_to (images pool []) trace.config.shards trace.blocks start [] no_contents trace.ops (calls_of_all replies) []) replies
  plain-unlent short = served-plain (images pool []) [] (lines-unlent trace.config pools devices trace.blocks pool trace.ops replies a b device_calls x y did alone (sym sized) told short there)
