-- A read through the shared cache, as its caller gets it: what it stands with then, what was done, what was got and which reads of the pool were made.
use Rattle.std.proofs.Common.{◌≡◌, ℕ, ◌+◌, List, [], ◌∷◌, ◌++◌, length, Option, Some, None, IfSome, Result, Ok, Err, refl, sym, ap, ◌∙◌, subst, append-nil}
use Rattle.std.specs.List.{AllByRecursion}
use Rattle.blk_ptr.specs.declared.digest.Digest.{Digest}
use Rattle.blk_ptr.specs.declared.key.Key.{Key}
use Rattle.blk_ptr.specs.declared.ptr.Ptr.{Ptr}
use Rattle.blk_ptr.specs.Hash.{shard_of}
use Rattle.blk_ptr.specs.Key.{IsFirstKeyFault, IsValid}
use Rattle.blk_ptr.specs.Ptr.{IsOf, IsPlainRead, range_of, sha256_of}
use Rattle.vdev_io.specs.declared.device.CacheDev.{Ghosts as DeviceGhosts}
use Rattle.vdev_io.specs.declared.pool.Pool.{Ghosts as PoolGhosts}
use Rattle.arc_core.specs.Config.{IsConfig}
use Rattle.arc_core.specs.declared.config.Config.{Config}
use Rattle.arc_core.specs.declared.event.Event.{Event}
use Rattle.arc_core.specs.declared.served.ReadFault.{ReadFault}
use Rattle.arc_core.specs.declared.served.ReadFault.TheVariants as fault
use Rattle.arc_core.specs.declared.served.Served.{Served}
use Rattle.arc_core.specs.declared.served.Served.TheVariants as served
use Rattle.arc_core.specs.declared.shard.EntryView.{EntryView}
use Rattle.arc_core.specs.PlainShard.{PlainShard}
use Rattle.dbuf_cells.specs.declared.kept.Kept.{Kept}
use Rattle.dbuf_cells.specs.declared.kept.Kept.TheVariants.{Held}
use Rattle.dbuf_cells.specs.Kept.{bytes_of}
use Rattle.turn_table.specs.declared.standing.Kept.{Kept as Joined}
use Rattle.turn_table.specs.Places.{Apart, Place}
use Rattle.arc_table.specs.declared.hold.Hold.{Hold}
use Rattle.arc_table.specs.declared.read.Read.{Read}
use Rattle.arc_table.specs.declared.read.Read.TheVariants as gave
use Rattle.arc_table.specs.declared.view.Known.{Known}
use Rattle.arc_table.specs.Cache.{Cache}
use Rattle.arc_table.specs.Fronts.{list_at}
use Rattle.arc_table.specs.Holding.{IsHoldOf, ptr_of}
use Rattle.arc_table.specs.Items.{Meanings}
use Rattle.vdev_io.specs.Calls.{Failed, MakesCall, MakesCalls}
use Rattle.arc_table.specs.Reading.{Answers, AnswersRead, EndsAtPool, EndsMiss, EndsPast, GivesBlock, GivesOthers, GoesToPool, Outside, answered, from_device, from_none, from_pool, hit, missed, no_memory, past, read, refused, unread}
use Rattle.arc_table.proofs.Afterwards.{Stays, stays_party}
use Rattle.trace_run.specs.declared.kept_blocks.KeptBlock.{KeptBlock}
use Rattle.trace_run.specs.Effects.{calls_from}
use Rattle.trace_run.specs.KeptBlocks.{AllQuiet, IsOwnedBy, Stands, held_key, listed_all, listed_for, times}
use Rattle.trace_run.specs.KeptReads.{kept_read}
use Rattle.trace_run.specs.Read.{IsFromPool, IsMismatch, TellsBlock}
use Rattle.trace_run.specs.Reads.{CallsFor, DidAnswer, DidFail, DidRead, IsCauseOf, IsGot, now_of}
use Rattle.arc_table.specs.Seen.{AddsAll, HasAll}
use Rattle.trace_run.specs.Making.{HasSeenItsEvents}
use Rattle.trace_run.proofs.CellsLeft.{LeavesCells, leaves-seen, read-leaves}
use Rattle.trace_run.proofs.KeptBlockLemmas.{times-append, times-middle}
use Rattle.trace_run.proofs.ReadLemmas.{AddsFailed, AddsRead, AddsServed, read-adds, read-seen}
use Rattle.trace_run.proofs.ReadStands.{Lists, ListsAnswer, read-lists}
use Rattle.trace_run.proofs.ServeLemmas.{read-of}
use Rattle.trace_run.proofs.one_caller.AskingLemmas.{AsksFor, read-asks}
use Rattle.trace_run.specs.one_caller.Asking.{AsksGot}

-- ---- what the caller stands with

pub all-last : {X : Type 0} (P : X → Type 0) (xs : List X) (x : X) → AllByRecursion P xs → P x → AllByRecursion P (xs ++ x ∷ [])
all-last P [] x all last = (last, tt)
all-last P (y ∷ ys) x all last = (all.0, all-last P ys x all.1 last)

-- a hold of a pointer is listed as the pointer
pub hold-ptr : (ptr : Ptr) (n : ℕ) (hold : Hold) → IsHoldOf ptr n hold → ptr ≡ ptr_of hold
hold-ptr ptr n hold h = λ i. record { key = sym h.key i; digest = sym h.block.digest i }

module _ {C : Type 0} (cache : Cache) (p q : Place (Known C)) (kept : List KeptBlock) (stands : Stands cache p kept) (left : LeavesCells cache.config p q) (seen : HasSeenItsEvents cache.config q) where
  abbrev stays : Stays p q
  stays = left.stays

  pub stands-same : Lists [] p q → Stands cache q kept
  stands-same lists = record {
    valid = stands.valid;
    of = stays_party cache p q stays stands.of;
    free = stays.held ∙ stands.free;
    cells = leaves-seen cache.config p q left stands.cells;
    idle = lists.readings ∙ stands.idle;
    unclaimed = λ i. ap (list_at i) lists.claims ∙ stands.unclaimed i;
    seen = seen;
    apart = subst (λ (x : ℕ × List (Joined (Known C))). Apart x.0 x.1) (λ i. (sym stays.number i, sym stays.joined i)) stands.apart;
    joined = subst AllQuiet (sym stays.joined) stands.joined;
    owned = subst (λ (n : ℕ). AllByRecursion (λ b. IsOwnedBy n b.kept) kept) (sym stays.number) stands.owned;
    listed = λ x. ap (times x) lists.holds ∙ stands.listed x;
  }

  pub stands-more : (b : KeptBlock) → IsOwnedBy p.number b.kept → Lists (listed_for b.kept) p q → Stands cache q (kept ++ b ∷ [])
  stands-more b owned lists = record {
    valid = stands.valid;
    of = stays_party cache p q stays stands.of;
    free = stays.held ∙ stands.free;
    cells = leaves-seen cache.config p q left stands.cells;
    idle = lists.readings ∙ stands.idle;
    unclaimed = λ i. ap (list_at i) lists.claims ∙ stands.unclaimed i;
    seen = seen;
    apart = subst (λ (x : ℕ × List (Joined (Known C))). Apart x.0 x.1) (λ i. (sym stays.number i, sym stays.joined i)) stands.apart;
    joined = subst AllQuiet (sym stays.joined) stands.joined;
    owned = subst (λ (n : ℕ). AllByRecursion (λ b. IsOwnedBy n b.kept) (kept ++ b ∷ [])) (sym stays.number) (all-last (λ b. IsOwnedBy p.number b.kept) kept b stands.owned owned);
    listed = λ x.
        ap (times x) lists.holds
        ∙ (times-append x (listed_for b.kept) p.own.ledger.holds
        ∙ (ap (λ (n : ℕ). times x (listed_for b.kept) + n) (stands.listed x ∙ ap (λ (l : List KeptBlock). times x (listed_all l)) (sym (append-nil kept)))
        ∙ sym (times-middle x kept [] b)));
  }

  pub stands-held : (block : ℕ) (ptr : Ptr) (hold : Hold) → IsHoldOf ptr p.number hold → Lists (ptr ∷ []) p q → Stands cache q (kept ++ record { block = block; kept = Held hold } ∷ [])
  stands-held block ptr hold h lists = stands-more (record { block = block; kept = Held hold }) h.owner_is (subst (λ (x : Ptr). Lists (x ∷ []) p q) (hold-ptr ptr p.number hold h) lists)

-- ---- what was done

module _ {C P D : Type 0} (m : Meanings C) (g : Config) (valid : IsConfig g) (pools : PoolGhosts P) (devices : DeviceGhosts D) (ptr : Ptr) (t : ℕ) (p q : Place (Known C)) where
  pub did-answer : (from : Served) → AddsServed m g valid pools devices ptr t from p q → DidAnswer g t ptr from p q
  did-answer from a = record {
    act = record {
      made = a.ms;
      own = a.moves.own;
      act_is = record { events = a.events; digests = a.digests };
      alone = λ x. subst (λ (es : List Event). AddsAll g _ es p q) (a.alone x).0 (a.moves.alone x);
      all = a.moves.all;
      joined = a.moves.joined;
      same = a.moves.same;
      cells = a.moves.cells;
    };
    source = λ x. (a.alone x).1;
  }

  pub did-fail : AddsFailed m g valid pools devices ptr t p q → DidFail g t ptr p q
  did-fail a = record {
    act = record {
      made = a.ms;
      own = a.moves.own;
      act_is = record { events = a.events; digests = a.digests };
      alone = λ x. subst (λ (es : List Event). AddsAll g _ es p q) (a.alone x).0 (a.moves.alone x);
      all = a.moves.all;
      joined = a.moves.joined;
      same = a.moves.same;
      cells = a.moves.cells;
    };
    asked = λ x. (a.alone x).1;
  }

-- ---- what was got

module _ {P : Type 0} (pools : PoolGhosts P) (ptr : Ptr) where
  -- by what a read came to: what the pool did for it, and that its block is of the pointer
  abbrev pub PoolDid : (old new : P) → Result Read ReadFault → Type 0
  PoolDid old new (Ok (gave.Held hold served.Hit)) = (new ≡ old) × IsOf hold.block.value ptr
  PoolDid old new (Ok (gave.Held hold served.L2)) = (new ≡ old) × IsOf hold.block.value ptr
  PoolDid old new (Ok (gave.Held hold served.Pool)) = GivesBlock pools ptr old new hold.block.value
  PoolDid old new (Ok (gave.Held hold served.Past)) = ⊥
  PoolDid old new (Ok (gave.Past block kept)) = GivesBlock pools ptr old new block.value
  PoolDid old new (Err (fault.PoolFault)) = MakesCall pools Failed old new × IsValid (pools.size old) ptr.key
  PoolDid old new (Err (fault.Mismatch found)) = GivesOthers pools ptr old new found × IsValid (pools.size old) ptr.key
  PoolDid old new (Err (fault.Key why)) = (new ≡ old) × IsFirstKeyFault (pools.size old) ptr.key why
  PoolDid old new (Err (fault.NoMemory)) = Unit {0}

module _ {C P D : Type 0} (m : Meanings C) (pools : PoolGhosts P) (devices : DeviceGhosts D) (g : Config) (ptr : Ptr) (t : ℕ) where
  end-did : (old new : P) (p q : Place (Known C)) (result : Result Read ReadFault) → IsValid (pools.size old) ptr.key → EndsAtPool m pools g ptr old new p q result → PoolDid pools ptr old new result
  end-did old new p q (Ok (gave.Held hold served.Pool)) ok h = h.2
  end-did old new p q (Ok (gave.Held hold served.Hit)) ok h = absurd h
  end-did old new p q (Ok (gave.Held hold served.L2)) ok h = absurd h
  end-did old new p q (Ok (gave.Held hold served.Past)) ok h = absurd h
  end-did old new p q (Ok (gave.Past block kept)) ok h = absurd h
  end-did old new p q (Err (fault.PoolFault)) ok h = (h.1, ok)
  end-did old new p q (Err (fault.Mismatch found)) ok h = (h.1, ok)
  end-did old new p q (Err (fault.Key why)) ok h = absurd h
  end-did old new p q (Err (fault.NoMemory)) ok h = tt

  goes-did : (old new : P) (p q : Place (Known C)) (result : Result Read ReadFault) → IsValid (pools.size old) ptr.key → GoesToPool m pools g ptr old new p q result → PoolDid pools ptr old new result
  goes-did old new p q result ok (read ends) = end-did old new p q result ok ends
  goes-did old new p q result ok (unread f) = subst (PoolDid pools ptr old new) (sym f.answer) tt

  miss-did : (found : Option EntryView) (before now : Outside P D) (p q : Place (Known C)) (result : Result Read ReadFault) → IsValid (pools.size before.pool) ptr.key
      → EndsMiss m pools devices g ptr found before now p q result → PoolDid pools ptr before.pool now.pool result
  miss-did found before now p q result ok (from_device hold is a) = subst (PoolDid pools ptr before.pool now.pool) (sym is) (a.none, a.bytes.of)
  miss-did found before now p q result ok (from_pool back turns goes) = goes-did before.pool now.pool back q result ok goes
  miss-did found before now p q result ok (from_none asked f) = subst (PoolDid pools ptr before.pool now.pool) (sym f.answer) tt

  past-pool : (old new : P) (kept : Digest) (result : Result Read ReadFault) → IsValid (pools.size old) ptr.key → EndsPast pools ptr kept old new result → PoolDid pools ptr old new result
  past-pool old new kept (Ok (gave.Past block digest)) ok h = h.1
  past-pool old new kept (Ok (gave.Held hold from)) ok h = absurd h
  past-pool old new kept (Err (fault.PoolFault)) ok h = (h, ok)
  past-pool old new kept (Err (fault.Mismatch found)) ok h = (h, ok)
  past-pool old new kept (Err (fault.Key why)) ok h = absurd h
  past-pool old new kept (Err (fault.NoMemory)) ok h = tt

  answer-did : (before now : Outside P D) (p q : Place (Known C)) (result : Result Read ReadFault) → IsValid (pools.size before.pool) ptr.key → Answers m pools devices g ptr t before now p q result
      → PoolDid pools ptr before.pool now.pool result
  answer-did before now p q result ok (hit hold is d cached held same) = subst (PoolDid pools ptr before.pool now.pool) (sym is) (ap (λ (x : Outside P D). x.pool) same, held.0.block)
  answer-did before now p q result ok (missed r d missing ends) = miss-did _ before now r q result ok ends
  answer-did before now p q result ok (past kept other d cached device ends) = past-pool before.pool now.pool kept result ok ends
  answer-did before now p q result ok (no_memory is d same) = subst (PoolDid pools ptr before.pool now.pool) (sym is) tt

  pub pool-did : (before now : Outside P D) (p q : Place (Known C)) (result : Result Read ReadFault) → AnswersRead m pools devices g ptr t before now p q result → PoolDid pools ptr before.pool now.pool result
  pool-did before now p q result (refused why is first same none) = subst (PoolDid pools ptr before.pool now.pool) (sym is) (ap (λ (x : Outside P D). x.pool) none, first)
  pool-did before now p q result (answered ok times r waits answer) = answer-did before now r q result ok answer

  -- a read is answered only where the key is accepted
  pub ok-valid : (before now : Outside P D) (p q : Place (Known C)) (result : Result Read ReadFault) (got : Read) → result ≡ Ok got → AnswersRead m pools devices g ptr t before now p q result
      → IsValid (pools.size before.pool) ptr.key
  ok-valid before now p q result got is (refused why fails first same none) = let never : ◌≡◌ {A = Result Read ReadFault} (Ok got) (Err (fault.Key why)) = sym is ∙ fails in cc
  ok-valid before now p q result got is (answered ok looks r waits answer) = ok

-- ---- what the pool did, as the call tells it

module _ {P : Type 0} (pools : PoolGhosts P) (ptr : Ptr) (old new : P) where
  pub held-calls : (hold : Hold) (from : Served) → PoolDid pools ptr old new (Ok (gave.Held hold from)) → MakesCalls pools (calls_from from) old new
  held-calls hold served.Hit d = d.0
  held-calls hold served.L2 d = d.0
  held-calls hold served.Pool d = (new, d.call, refl)
  held-calls hold served.Past d = absurd d

  -- where the pool gave the block, the bytes that it tells in the key's range are of the pointer
  pub block-told : (bytes : List ℕ) → GivesBlock pools ptr old new bytes → TellsBlock (pools.told old) ptr
  block-told bytes d = go (pools.told old) d.told
    where
      go : (image : Option (List ℕ)) → IfSome image (λ told. bytes ≡ range_of told ptr.key) → TellsBlock image ptr
      go None told = tt
      go (Some image) told = subst (λ (l : List ℕ). IsOf l ptr) told d.of

  pub held-told : (hold : Hold) (from : Served) → PoolDid pools ptr old new (Ok (gave.Held hold from)) → IsFromPool from → TellsBlock (pools.told old) ptr
  held-told hold served.Hit d came = absurd came
  held-told hold served.L2 d came = absurd came
  held-told hold served.Pool d came = block-told hold.block.value d
  held-told hold served.Past d came = absurd d

  pub past-got : (block : ℕ) (kept : Kept) → held_key kept ≡ None → GivesBlock pools ptr old new (bytes_of kept)
      → IsGot (pools.told old) block ptr (record { served = served.Past; read = record { block = block; kept = kept } })
  past-got block kept loose d = record { read = read-of (pools.told old) ptr served.Past (bytes_of kept) d.of (λ from_pool. d.told); kept = ap (kept_read block) loose }

  mismatch : (found : Digest) → GivesOthers pools ptr old new found → IsMismatch (pools.told old) ptr found
  mismatch found d = record { bytes = d.bytes.bytes; size = d.bytes.size; digest = d.bytes.digest; other = d.other; plain = go (pools.told old) d.told }
    where
      go : (image : Option (List ℕ)) → IfSome image (λ told. found ≡ sha256_of (range_of told ptr.key)) → IfSome image (λ told. IsPlainRead told ptr (Err found))
      go None told = tt
      go (Some image) told = (told, λ of. d.other (told ∙ of.digest))

  pub fault-cause : (why : ReadFault) → PoolDid pools ptr old new (Err why) → IsCauseOf (pools.size old) (pools.told old) ptr why
  fault-cause (fault.PoolFault) d = d.1
  fault-cause (fault.Mismatch found) d = (d.1, mismatch found d.0)
  fault-cause (fault.Key why) d = d.1
  fault-cause (fault.NoMemory) d = tt

  pub fault-calls : (why : ReadFault) → PoolDid pools ptr old new (Err why) → CallsFor pools old new (Err why)
  fault-calls (fault.PoolFault) d = (new, d.0, refl)
  fault-calls (fault.Mismatch found) d = (new, d.0.call, refl)
  fault-calls (fault.Key why) d = d.0
  fault-calls (fault.NoMemory) d = tt

-- ---- the call

module _ {C P D : Type 0} (m : Meanings C) (cache : Cache) (pools : PoolGhosts P) (devices : DeviceGhosts D) (ptr : Ptr) (t block : ℕ) (before now : Outside P D) (p q : Place (Known C)) (kept : List KeptBlock)
    (stands : Stands cache p kept) (result : Result Read ReadFault) (answer : AnswersRead m pools devices cache.config ptr t before now p q result) where
  abbrev size : ℕ
  size = devices.size before.device

  left : LeavesCells cache.config p q
  left = read-leaves m cache.config stands.valid pools devices ptr t before now p q result stands.of.config answer

  pub adds : AddsRead m cache.config stands.valid pools devices ptr t p q result
  adds = read-adds m cache.config stands.valid pools devices ptr t before now p q result stands.of.config stands.seen answer

  seen : HasSeenItsEvents cache.config q
  seen = read-seen m cache.config stands.valid pools devices ptr t p q result stands.seen adds

  pub lists : ListsAnswer ptr p q result
  lists = read-lists m cache.config stands.valid pools devices ptr t before now p q result stands.of.config answer

  -- what a party that is alone asked the device for
  module _ (law : (dev : D) (image : List ℕ) → devices.told dev ≡ Some image → length image ≡ devices.size dev) (all : HasAll p) where
    abbrev there : PlainShard
    there = now_of cache.config (shard_of cache.config.shards ptr.key) p

    asks : AsksFor m cache.config stands.valid pools devices law ptr t there result before.device now.device
    asks = read-asks m cache.config stands.valid pools devices law ptr t before now p q result stands.of.config stands.seen all answer

    pub got-asks : (r : Result Read ReadFault) → result ≡ r → AsksFor m cache.config stands.valid pools devices law ptr t there r before.device now.device
    got-asks r is = subst (λ (x : Result Read ReadFault). AsksFor m cache.config stands.valid pools devices law ptr t there x before.device now.device) is asks

    pub alone-fault-asks : (why : ReadFault) → result ≡ Err why → AsksGot devices there ptr (Err why) before.device now.device
    alone-fault-asks why is = go why (got-asks (Err why) is)
      where
        go : (w : ReadFault) → AsksFor m cache.config stands.valid pools devices law ptr t there (Err w) before.device now.device → AsksGot devices there ptr (Err w) before.device now.device
        go (fault.PoolFault) a = a
        go (fault.Mismatch found) a = a
        go (fault.Key key) a = a
        go (fault.NoMemory) a = a

  module _ (hold : Hold) (from : Served) (is : result ≡ Ok (gave.Held hold from)) where
    held-lists : ListsAnswer ptr p q (Ok (gave.Held hold from))
    held-lists = subst (ListsAnswer ptr p q) is lists

    pub held-stands : Stands cache q (kept ++ record { block = block; kept = Held hold } ∷ [])
    held-stands = stands-held cache p q kept stands left seen block ptr hold held-lists.1 held-lists.0

    pub held-did : DidAnswer cache.config t ptr from p q
    held-did = did-answer m cache.config stands.valid pools devices ptr t p q from (subst (AddsRead m cache.config stands.valid pools devices ptr t p q) is adds)

    pub held-got : IsGot (pools.told before.pool) block ptr (record { served = from; read = record { block = block; kept = Held hold } })
    held-got = go from (subst (PoolDid pools ptr before.pool now.pool) is (pool-did m pools devices cache.config ptr t before now p q result answer))
      where
        key : hold.key ≡ ptr.key
        key = held-lists.1.key

        go : (f : Served) → PoolDid pools ptr before.pool now.pool (Ok (gave.Held hold f)) → IsGot (pools.told before.pool) block ptr (record { served = f; read = record { block = block; kept = Held hold } })
        go served.Hit d = record { read = read-of (pools.told before.pool) ptr served.Hit hold.block.value d.1 (λ none. absurd none); kept = ap (λ (k : Key). kept_read block (Some k)) key }
        go served.L2 d = record { read = read-of (pools.told before.pool) ptr served.L2 hold.block.value d.1 (λ none. absurd none); kept = ap (λ (k : Key). kept_read block (Some k)) key }
        go served.Pool d = record { read = read-of (pools.told before.pool) ptr served.Pool hold.block.value d.of (λ from_pool. d.told); kept = ap (λ (k : Key). kept_read block (Some k)) key }
        go served.Past d = absurd d

  pub past-stands : Lists [] p q → (b : KeptBlock) → listed_for b.kept ≡ [] → IsOwnedBy p.number b.kept → Stands cache q (kept ++ b ∷ [])
  past-stands same b none owned = stands-more cache p q kept stands left seen b owned (subst (λ (l : List Ptr). Lists l p q) (sym none) same)

  pub past-did : AddsServed m cache.config stands.valid pools devices ptr t served.Past p q → DidAnswer cache.config t ptr served.Past p q
  past-did a = did-answer m cache.config stands.valid pools devices ptr t p q served.Past a

  pub fault-stands : (why : ReadFault) → result ≡ Err why → Stands cache q kept
  fault-stands why is = stands-same cache p q kept stands left seen (subst (ListsAnswer ptr p q) is lists)

  pub fault-did : (why : ReadFault) → result ≡ Err why → DidRead cache.config t ptr p q (Err why)
  fault-did why is = go why (subst (AddsRead m cache.config stands.valid pools devices ptr t p q) is adds)
    where
      go : (w : ReadFault) → AddsRead m cache.config stands.valid pools devices ptr t p q (Err w) → DidRead cache.config t ptr p q (Err w)
      go (fault.PoolFault) a = did-fail m cache.config stands.valid pools devices ptr t p q a
      go (fault.Mismatch found) a = did-fail m cache.config stands.valid pools devices ptr t p q a
      go (fault.Key why) a = a
      go (fault.NoMemory) a = tt
