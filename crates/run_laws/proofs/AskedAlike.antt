-- What two runs asked the cache device for to one read of a block: over devices that tell the same bytes at each place that a key has, and of which the same calls failed, the bytes come from one source, and the devices tell then what they told.
use Rattle.std.proofs.Common.{◌≡◌, ◌+◌, ◌&&◌, ℕ, Bool, true, false, List, [], ◌∷◌, ◌++◌, length, Option, Some, None, IfSome, inl, inr, refl, sym, ap, subst, ◌∙◌, arith}
use Rattle.std.specs.Prelude.{if◌then◌else◌, nat_le}
use Rattle.std.specs.List.{AllByRecursion}
use Rattle.std.specs.Option.{option_and_then, option_map_or}
use Rattle.blk_ptr.specs.Hash.{shard_of}
use Rattle.blk_ptr.specs.Order.{digest_eq}
use Rattle.blk_ptr.specs.Ptr.{sha256_of}
use Rattle.blk_ptr.specs.declared.digest.Digest.{Digest}
use Rattle.blk_ptr.specs.declared.ptr.Ptr.{Ptr}
use Rattle.arc_core.specs.declared.served.Served.{Served}
use Rattle.arc_core.specs.declared.served.Served.TheVariants as served
use Rattle.arc_core.specs.PlainShard.{PlainShard, entry_of, place_of}
use Rattle.arc_core.specs.declared.entry.Entry.{Entry}
use Rattle.arc_table.specs.Fetching.{bytes_from}
use Rattle.vdev_io.specs.declared.device.CacheDev.{Ghosts as Devices}
use Rattle.vdev_io.specs.declared.pool.Pool.{Ghosts}
use Rattle.vdev_io.specs.Calls as io
use Rattle.vdev_io.specs.Calls.{Asked, Call, Failed, Gave, IsToldAfter, MakesDeviceCall, MakesDeviceCalls, answered}
use Rattle.trace_text.specs.declared.trace.Trace.{Trace}
use Rattle.trace_run.specs.Effects.{Answered, Effect, GivenBack, NoEffect, PoolRefused}
use Rattle.trace_run.specs.Read.{IsFromPool}
use Rattle.trace_run.specs.one_caller.Access.{Access, Hit, Miss, Past, access_of}
use Rattle.trace_run.specs.one_caller.Asking.{AsksBlock, AsksRead, CameFromDevice, NamesServed, answered_all, asked_by_read, next_call, place_asked, place_in, place_on, read_on, serves, source_at, source_of}
use Rattle.trace_run.specs.one_caller.OneCaller.{NamesSource}
use Rattle.trace_run.specs.one_caller.Sequence.{IfLent, NotFromDevice}
use Rattle.trace_run.proofs.one_caller.AlonePlainLemmas.{named-pool}
use Rattle.run_laws.specs.Alike.{AreAlikeSoFar, AreDevicesAlike, lent_answers}
use Rattle.run_laws.proofs.Rows.{so-far-longer, so-far-same}

-- ---- the source, however a call would be answered that was not made

named-any : (size : ℕ) (image : List ℕ) (s : PlainShard) (ptr : Ptr) (e : Effect) (call : Call) → length (asked_by_read size s ptr e) ≡ 0 → NamesServed (source_at size image s ptr Gave) e
    → NamesServed (source_at size image s ptr call) e
named-any size image s ptr (Answered from) call none named = go (place_asked size ptr s) none named
  where
    go : (o : Option ℕ) → length (read_on ptr.key o) ≡ 0 → from ≡ source_of (access_of s ptr) (serves image ptr o Gave) → from ≡ source_of (access_of s ptr) (serves image ptr o call)
    go None none named = named
    go (Some place) none named = absurd (omega (arith, none))
named-any size image s ptr GivenBack call none named = tt
named-any size image s ptr (PoolRefused c) call none named = go (place_asked size ptr s) none named
  where
    go : (o : Option ℕ) → length (read_on ptr.key o) ≡ 0 → IsFromPool (source_of (access_of s ptr) (serves image ptr o Gave)) → IsFromPool (source_of (access_of s ptr) (serves image ptr o call))
    go None none named = named
    go (Some place) none named = absurd (omega (arith, none))
named-any size image s ptr NoEffect call none named = tt

-- so more calls may follow
named-next : (size : ℕ) (image : List ℕ) (s : PlainShard) (ptr : Ptr) (e : Effect) (own rest : List Call) → length own ≡ length (asked_by_read size s ptr e) → NamesServed (source_at size image s ptr (next_call own)) e
    → NamesServed (source_at size image s ptr (next_call (own ++ rest))) e
named-next size image s ptr e [] rest many named = named-any size image s ptr e (next_call rest) (sym many) named
named-next size image s ptr e (call ∷ calls) rest many named = named

-- one source for both
both-named : (size : ℕ) (image : List ℕ) (s : PlainShard) (ptr : Ptr) (e f : Effect) (own others : List Call) → length own ≡ length (asked_by_read size s ptr e) → length others ≡ length (asked_by_read size s ptr f)
    → NamesServed (source_at size image s ptr (next_call own)) e → NamesServed (source_at size image s ptr (next_call others)) f → AreAlikeSoFar own others
    → (source : Served) × NamesServed source e × NamesServed source f
both-named size image s ptr e f own others many other_many named other_named rows = elim (so-far-longer own others rows) [
  | inl more ↦ (
    source_at size image s ptr (next_call others),
    subst (λ (cs : List Call). NamesServed (source_at size image s ptr (next_call cs)) e) (sym more.1) (named-next size image s ptr e own more.0 many named),
    other_named,
  )
  | inr more ↦ (
    source_at size image s ptr (next_call own),
    named,
    subst (λ (cs : List Call). NamesServed (source_at size image s ptr (next_call cs)) f) (sym more.1) (named-next size image s ptr f others more.0 other_many other_named),
  )
]

-- ---- what is told behind the calls

-- only reads are asked for
abbrev IsRead : Asked → Type 0
IsRead (io.Read place n) = Unit {0}
IsRead (io.Write place bytes) = ⊥
IsRead io.Flush = ⊥

reads-only : (size : ℕ) (s : PlainShard) (ptr : Ptr) (e : Effect) → AllByRecursion IsRead (asked_by_read size s ptr e)
reads-only size s ptr (Answered from) = go (place_asked size ptr s)
  where
    go : (o : Option ℕ) → AllByRecursion IsRead (read_on ptr.key o)
    go None = tt
    go (Some place) = (tt, tt)
reads-only size s ptr GivenBack = tt
reads-only size s ptr (PoolRefused c) = go (place_asked size ptr s)
  where
    go : (o : Option ℕ) → AllByRecursion IsRead (read_on ptr.key o)
    go None = tt
    go (Some place) = (tt, tt)
reads-only size s ptr NoEffect = tt

module _ {D : Type 0} (devices : Devices D) (size : ℕ) (image : List ℕ) where
  -- a device of this length tells this image
  abbrev pub TellsImage : D → Type 0
  TellsImage x = (devices.size x ≡ size) × (devices.told x ≡ Some image)

  call-told : (a : Asked) (c : Call) (x y : D) → IsRead a → TellsImage x → MakesDeviceCall devices (answered c a) x y → TellsImage y
  call-told (io.Read place n) c x y is told made = (made.size ∙ told.0, go (devices.told x) (devices.told y) told.1 made.told)
    where
      go : (o p : Option (List ℕ)) → o ≡ Some image → IsToldAfter (io.Read place n) c o p → p ≡ Some image
      go None p is after = cc
      go (Some old) None is after = absurd after
      go (Some old) (Some new) is after = ap (λ (l : List ℕ). Some l) after ∙ is
  call-told (io.Write place bytes) c x y is told made = absurd is
  call-told io.Flush c x y is told made = absurd is

  calls-told : (asked : List Asked) (calls : List Call) (x y : D) → AllByRecursion IsRead asked → TellsImage x → MakesDeviceCalls devices (answered_all calls asked) x y → TellsImage y
  calls-told asked [] x y reads told made = subst TellsImage (sym made) told
  calls-told [] (c ∷ cs) x y reads told made = subst TellsImage (sym made) told
  calls-told (it ∷ asked) (c ∷ cs) x y reads told made = calls-told asked cs made.0 y reads.1 (call-told it c x made.0 reads.0 told made.1) made.2

  -- it tells it still behind a read
  pub read-told : (s : PlainShard) (ptr : Ptr) (e : Effect) (calls : List Call) (x y : D) → TellsImage x → AsksRead devices s ptr e calls x y → TellsImage y
  read-told s ptr e calls x y told asks = calls-told (asked_by_read (devices.size x) s ptr e) calls x y (reads-only (devices.size x) s ptr e) told asks.made

  pub block-told : (s : PlainShard) (there : Option Ptr) (e : Effect) (calls : List Call) (x y : D) → TellsImage x → AsksBlock devices s there e calls x y → TellsImage y
  block-told s None e calls x y told asks = subst TellsImage (sym asks.1) told
  block-told s (Some ptr) e calls x y told asks = read-told s ptr e calls x y told asks

  -- as many calls as the read asks for, and the source is named
  pub read-many : (s : PlainShard) (ptr : Ptr) (e : Effect) (calls : List Call) (x y : D) → TellsImage x → AsksRead devices s ptr e calls x y → length calls ≡ length (asked_by_read size s ptr e)
  read-many s ptr e calls x y told asks = asks.many ∙ ap (λ (n : ℕ). length (asked_by_read n s ptr e)) told.0

  read-named : (s : PlainShard) (ptr : Ptr) (e : Effect) (calls : List Call) (x y : D) → TellsImage x → AsksRead devices s ptr e calls x y → NamesServed (source_at size image s ptr (next_call calls)) e
  read-named s ptr e calls x y told asks =
      let named : NamesServed (source_at (devices.size x) image s ptr (next_call calls)) e = subst (λ (o : Option (List ℕ)). IfSome o (λ image. NamesServed (source_at (devices.size x) image s ptr (next_call calls)) e)) told.1 asks.served in
      subst (λ (n : ℕ). NamesServed (source_at n image s ptr (next_call calls)) e) told.0 named

-- bytes that did not come from a device
not-device : (e : Effect) → NotFromDevice e → CameFromDevice e → ⊥
not-device (Answered served.L2) none came = none refl
not-device (Answered served.Hit) none came = came
not-device (Answered served.Pool) none came = came
not-device (Answered served.Past) none came = came
not-device GivenBack none came = came
not-device (PoolRefused call) none came = came
not-device NoEffect none came = came

-- ---- where it is asked

-- a read asks a device only at the place that the key has
asked-place : (size : ℕ) (s : PlainShard) (ptr : Ptr) (place : ℕ) → place_asked size ptr s ≡ Some place → place_of ptr.key s ≡ Some place
asked-place size s ptr place is = by-access (access_of s ptr) is
  where
    by-range : (b : Bool) (at : ℕ) → (if b then Some at else None) ≡ Some place → ◌≡◌ {A = Option ℕ} (Some at) (Some place)
    by-range true at is = is
    by-range false at is = cc

    by-place : (known : Option Digest) (o : Option ℕ) → option_and_then (place_in size ptr known) o ≡ Some place → o ≡ Some place
    by-place known None is = cc
    by-place known (Some at) is = by-range (nat_le (at + ptr.key.size) size && option_map_or (λ d. digest_eq d ptr.digest) known true) at is

    by-entry : (o : Option Entry) → option_and_then (λ (e : Entry). option_and_then (place_in size ptr e.digest) e.place) o ≡ Some place → option_and_then (λ (e : Entry). e.place) o ≡ Some place
    by-entry None is = cc
    by-entry (Some e) is = by-place e.digest e.place is

    by-access : (a : Access) → place_on size ptr s a ≡ Some place → place_of ptr.key s ≡ Some place
    by-access Hit is = cc
    by-access (Past kept) is = cc
    by-access Miss is = by-entry (entry_of ptr.key s) is

-- so images that are the same there serve it alike
source-same : (size : ℕ) (image other : List ℕ) (s : PlainShard) (ptr : Ptr) (call : Call) → ((place : ℕ) → place_of ptr.key s ≡ Some place → bytes_from other place ptr.key ≡ bytes_from image place ptr.key)
    → source_at size other s ptr call ≡ source_at size image s ptr call
source-same size image other s ptr call same = ap (λ (b : Bool). source_of (access_of s ptr) b) (go (place_asked size ptr s) refl)
  where
    serve : (place : ℕ) (c : Call) → place_of ptr.key s ≡ Some place → serves other ptr (Some place) c ≡ serves image ptr (Some place) c
    serve place Failed at = refl
    serve place Gave at = ap (λ (bytes : List ℕ). digest_eq (sha256_of bytes) ptr.digest) (same place at)

    go : (o : Option ℕ) → place_asked size ptr s ≡ o → serves other ptr o call ≡ serves image ptr o call
    go None is = refl
    go (Some place) is = serve place call (asked-place size s ptr place is)

module _ {P D : Type 0} (pools : Ghosts P) (devices : Devices D) (trace : Trace) where
  -- what a device was asked for to a read of a block, or to a line that reads none, and how the calls were answered
  abbrev pub AsksByCalls : PlainShard → Option Ptr → Effect → (old new : D) → Type 0
  AsksByCalls s there e old new = (calls : List Call) × AsksBlock devices s there e calls old new

  abbrev pub block_answers : (s : PlainShard) (there : Option Ptr) (e : Effect) (old new : Option D) → IfLent (NotFromDevice e) (AsksByCalls s there e) old new → List Call
  block_answers s there e old new asks = lent_answers (NotFromDevice e) (AsksByCalls s there e) (λ old new asks. asks.0) old new asks

  -- the bytes of one block come from one source in both runs, whose shards are the same
  pub source-alike : (shards : ℕ → PlainShard) (ptr : Ptr) (s z : PlainShard) (e f : Effect) → s ≡ shards (shard_of trace.config.shards ptr.key) → z ≡ s → NamesSource (access_of s ptr) e → NamesSource (access_of z ptr) f → (old new other other_new : Option D)
      → AreDevicesAlike pools devices trace shards old other → (asks : IfLent (NotFromDevice e) (AsksByCalls s (Some ptr) e) old new) → (other_asks : IfLent (NotFromDevice f) (AsksByCalls z (Some ptr) f) other other_new)
      → AreAlikeSoFar (block_answers s (Some ptr) e old new asks) (block_answers z (Some ptr) f other other_new other_asks) → (source : Served) × NamesServed source e × NamesServed source f
  source-alike shards ptr s z e f here same named other_named None None None None alike asks other_asks rows = (
    source_of (access_of s ptr) false,
    named-pool (access_of s ptr) e named (not-device e asks),
    named-pool (access_of s ptr) f (subst (λ (x : PlainShard). NamesSource (access_of x ptr) f) same other_named) (not-device f other_asks),
  )
  source-alike shards ptr s z e f here same named other_named None None None (Some y) alike asks other_asks rows = absurd other_asks
  source-alike shards ptr s z e f here same named other_named None None (Some x) other_new alike asks other_asks rows = absurd alike
  source-alike shards ptr s z e f here same named other_named None (Some x) other other_new alike asks other_asks rows = absurd asks
  source-alike shards ptr s z e f here same named other_named (Some x) None other other_new alike asks other_asks rows = absurd asks
  source-alike shards ptr s z e f here same named other_named (Some x) (Some y) None other_new alike asks other_asks rows = absurd alike
  source-alike shards ptr s z e f here same named other_named (Some x) (Some y) (Some v) None alike asks other_asks rows = absurd other_asks
  source-alike shards ptr s z e f here same named other_named (Some x) (Some y) (Some v) (Some w) alike asks other_asks rows =
      let size : ℕ = devices.size x in
      let told : TellsImage devices size alike.image x = (refl, alike.told) in
      let other_told : TellsImage devices size alike.other_image v = (alike.size, alike.other_told) in
      let there : (place : ℕ) → place_of ptr.key s ≡ Some place → bytes_from alike.other_image place ptr.key ≡ bytes_from alike.image place ptr.key = λ place at. alike.places ptr.key place (sym (ap (place_of ptr.key) here) ∙ at) in
      let its : NamesServed (source_at size alike.other_image s ptr (next_call other_asks.0)) f =
      subst (λ (k : PlainShard). NamesServed (source_at size alike.other_image k ptr (next_call other_asks.0)) f) same (read-named devices size alike.other_image z ptr f other_asks.0 v w other_told other_asks.1) in
      both-named size alike.image s ptr e f asks.0 other_asks.0 (read-many devices size alike.image s ptr e asks.0 x y told asks.1)
      (subst (λ (k : PlainShard). length other_asks.0 ≡ length (asked_by_read size k ptr f)) same (read-many devices size alike.other_image z ptr f other_asks.0 v w other_told other_asks.1))
      (read-named devices size alike.image s ptr e asks.0 x y told asks.1)
      (subst (λ (source : Served). NamesServed source f) (source-same size alike.image alike.other_image s ptr (next_call other_asks.0) there) its) rows

  -- of one effect, both were asked and answered the same
  calls-same : (size : ℕ) (image other_image : List ℕ) (s z : PlainShard) (there : Option Ptr) (e f : Effect) → z ≡ s → f ≡ e → (x y v w : D) → TellsImage devices size image x → TellsImage devices size other_image v
      → (asks : AsksByCalls s there e x y) → (other_asks : AsksByCalls z there f v w) → AreAlikeSoFar asks.0 other_asks.0 → other_asks.0 ≡ asks.0
  calls-same size image other_image s z None e f same one x y v w told other_told asks other_asks rows = other_asks.1.0 ∙ sym asks.1.0
  calls-same size image other_image s z (Some ptr) e f same one x y v w told other_told asks other_asks rows =
      let many : length asks.0 ≡ length (asked_by_read size s ptr e) = read-many devices size image s ptr e asks.0 x y told asks.1 in
      let other_many : length other_asks.0 ≡ length (asked_by_read size z ptr f) = read-many devices size other_image z ptr f other_asks.0 v w other_told other_asks.1 in
      let both : length (asked_by_read size z ptr f) ≡ length (asked_by_read size s ptr e) = λ h. length (asked_by_read size (same h) ptr (one h)) in
      sym (so-far-same asks.0 other_asks.0 (many ∙ sym (other_many ∙ both)) rows)

  -- and so they tell what they told behind it
  pub asked-alike : (shards : ℕ → PlainShard) (there : Option Ptr) (s z : PlainShard) (e f : Effect) → z ≡ s → f ≡ e → (old new other other_new : Option D) → AreDevicesAlike pools devices trace shards old other
      → (asks : IfLent (NotFromDevice e) (AsksByCalls s there e) old new) → (other_asks : IfLent (NotFromDevice f) (AsksByCalls z there f) other other_new)
      → AreAlikeSoFar (block_answers s there e old new asks) (block_answers z there f other other_new other_asks)
      → (block_answers z there f other other_new other_asks ≡ block_answers s there e old new asks) × AreDevicesAlike pools devices trace shards new other_new
  asked-alike shards there s z e f same one None None None None alike asks other_asks rows = (refl, tt)
  asked-alike shards there s z e f same one None None None (Some y) alike asks other_asks rows = absurd other_asks
  asked-alike shards there s z e f same one None None (Some x) other_new alike asks other_asks rows = absurd alike
  asked-alike shards there s z e f same one None (Some x) other other_new alike asks other_asks rows = absurd asks
  asked-alike shards there s z e f same one (Some x) None other other_new alike asks other_asks rows = absurd asks
  asked-alike shards there s z e f same one (Some x) (Some y) None other_new alike asks other_asks rows = absurd alike
  asked-alike shards there s z e f same one (Some x) (Some y) (Some v) None alike asks other_asks rows = absurd other_asks
  asked-alike shards there s z e f same one (Some x) (Some y) (Some v) (Some w) alike asks other_asks rows =
      let size : ℕ = devices.size x in
      let told : TellsImage devices size alike.image x = (refl, alike.told) in
      let other_told : TellsImage devices size alike.other_image v = (alike.size, alike.other_told) in
      let behind = block-told devices size alike.image s there e asks.0 x y told asks.1 in
      let other_behind = block-told devices size alike.other_image z there f other_asks.0 v w other_told other_asks.1 in (
        calls-same size alike.image alike.other_image s z there e f same one x y v w told other_told asks other_asks rows,
        record { size = other_behind.0 ∙ sym behind.0; image = alike.image; other_image = alike.other_image; told = behind.1; other_told = other_behind.1; long = alike.long; places = alike.places },
      )
