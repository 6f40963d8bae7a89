-- Each digest that a shard keeps, but of what only the cache device has, is that of the bytes that are cached for its key, where each that came in was.
use Rattle.std.proofs.Common.{◌≡◌, ℕ, zero, suc, ◌==◌, ◌&&◌, Bool, true, false, if◌then◌else◌, List, [], ◌∷◌, length, Option, Some, None, is_some, inl, inr, refl, sym, ap, subst, ◌∙◌}
use Rattle.std.specs.List.{AllByRecursion}
use Rattle.std.proofs.lemmas.Bool.{false≢true}
use Rattle.std.specs.Option.{option_map_or}
use Rattle.blk_ptr.specs.declared.digest.Digest.{Digest}
use Rattle.blk_ptr.specs.declared.key.Key.{Key}
use Rattle.blk_ptr.specs.Hash.{shard_of}
use Rattle.blk_ptr.specs.declared.state.State.{State}
use Rattle.blk_ptr.specs.declared.state.State.TheVariants.{Anon, Mru, MruGhost, Mfu, MfuGhost, L2Only}
use Rattle.blk_ptr.specs.declared.ptr.Ptr.{Ptr}
use Rattle.blk_ptr.specs.Order.{digest_eq, key_eq}
use Rattle.blk_ptr.specs.Ptr.{IsOf}
use Rattle.blk_ptr.proofs.Keys.{key_eq-is, key_eq-same}
use Rattle.blk_ptr.specs.State.{is_cached, is_same_state}
use Rattle.arc_lists.specs.ByKey.{with_change}
use Rattle.arc_lists.proofs.Standing.{and_left, and_right}
use Rattle.arc_lists.proofs.Tables.{All-item, All-with_change, All-with_item, All-without, cases_true, item_at-key, some_is}
use Rattle.arc_core.specs.declared.config.Config.{Config}
use Rattle.arc_core.specs.declared.entry.Entry.{Entry}
use Rattle.arc_core.specs.declared.event.Event.{Event}
use Rattle.arc_core.specs.declared.event.Event.TheVariants.{Pass, Hit, Miss, Arrive, Fail, Drop, Past, Hand, Insert, Release, Pick, FeedEnd, Set, Leave, Clear, Restore, Resize}
use Rattle.arc_core.specs.declared.served.Restored.{Restored}
use Rattle.arc_core.specs.Changes.{changed, come, gone, off_sequence, one_less}
use Rattle.arc_core.specs.PlainShard.{PlainShard, entry_key, entry_of, is_at_rest, is_resident, place_of, resident_digest}
use Rattle.arc_core.specs.Replay.{replay}
use Rattle.arc_core.specs.Rules.{access, dropped, evicted, evicted_entry, evicted_state, evicting, next_dropped, next_evicted, resized, trimming, with_room, with_target_for}
use Rattle.arc_core.specs.Step.{after, arrived, fitted, hit_entry, read_entry, restored_entry, taken_in}
use Rattle.arc_core.proofs.Accesses.{accessed-keeps}
use Rattle.arc_core.proofs.EntriesAfter.{given_back-entries, hit-key}
use Rattle.arc_core.proofs.Evictions.{at_head-entries}
use Rattle.arc_table.specs.Reading.{ptr_with}
use Rattle.trace_run.specs.one_caller.PlainRun.{Contents, with_bytes}
use Rattle.trace_run.specs.Restores.{restores_in}
use Rattle.trace_run.proofs.CacheLemmas.{digest_eq-is, resident-entry}
use Rattle.trace_run.proofs.one_caller.TellLemmas.{digest_eq-same}

-- ---- what only the cache device has

-- an entry that only the device has stays one of its kind
evicted-else : (s : State) → is_same_state (evicted_state s) L2Only ≡ false → is_same_state s L2Only ≡ false
evicted-else Anon out = refl
evicted-else Mru out = refl
evicted-else MruGhost out = refl
evicted-else Mfu out = refl
evicted-else MfuGhost out = refl
evicted-else L2Only out = out

access-else : (s : State) (mintime t : ℕ) (e : Entry) → e.state ≡ s → is_same_state (access s mintime t e).state L2Only ≡ false → is_same_state e.state L2Only ≡ false
access-else Anon mintime t e is out = ap (λ (s : State). is_same_state s L2Only) is
access-else Mru mintime t e is out = ap (λ (s : State). is_same_state s L2Only) is
access-else MruGhost mintime t e is out = ap (λ (s : State). is_same_state s L2Only) is
access-else Mfu mintime t e is out = ap (λ (s : State). is_same_state s L2Only) is
access-else MfuGhost mintime t e is out = ap (λ (s : State). is_same_state s L2Only) is
access-else L2Only mintime t e is out = out

-- one whose bytes are cached is none
cached-else : (s : State) → is_cached s ≡ true → is_same_state s L2Only ≡ false
cached-else Anon cached = refl
cached-else Mru cached = refl
cached-else MruGhost cached = refl
cached-else Mfu cached = refl
cached-else MfuGhost cached = refl
cached-else L2Only cached = absurd (false≢true cached)

resident-else : (e : Entry) → is_resident e ≡ true → is_same_state e.state L2Only ≡ false
resident-else e resident = cached-else e.state (and_left (is_cached e.state) (is_at_rest e) resident)

-- a key that is restored
abbrev IsRestored : Event → Type 0
IsRestored (Restore n k place d) = Unit {0}
IsRestored _ = ⊥

pub all-restores : (g : Config) (list : List Restored) (shard : ℕ) → AllByRecursion IsRestored (restores_in g list shard)
all-restores g [] shard = tt
all-restores g (r ∷ rs) shard = go (shard_of g.shards r.key == shard) (all-restores g rs shard)
  where
    go : (b : Bool) → AllByRecursion IsRestored (restores_in g rs shard) → AllByRecursion IsRestored (if b then (Restore g.callers r.key r.place r.digest ∷ restores_in g rs shard) else restores_in g rs shard)
    go true rest = (tt, rest)
    go false rest = rest

module _ (contents : Contents) where
  -- the bytes of the pointer are of it
  abbrev pub HasBytes : Key → Digest → Type 0
  HasBytes k d = IsOf (contents (ptr_with k d)) (ptr_with k d)

  -- a digest that an entry keeps has its bytes, where not the cache device alone has it
  abbrev pub IsToldEntry : Entry → Type 0
  IsToldEntry e = is_same_state e.state L2Only ≡ false → (d : Digest) → e.digest ≡ Some d → HasBytes e.key d

  abbrev pub AreTold : List Entry → Type 0
  AreTold es = AllByRecursion IsToldEntry es

  -- the event is one of a caller's reads or drops, or a new capacity; and what it brings has its bytes
  abbrev pub Brings : Event → Type 0
  Brings (Pass n k owner) = ⊥
  Brings (Hit n k t) = Unit {0}
  Brings (Miss n k t) = Unit {0}
  Brings (Arrive n k d from) = HasBytes k d
  Brings (Fail n k at) = Unit {0}
  Brings (Drop n k) = Unit {0}
  Brings (Past n k kept) = Unit {0}
  Brings (Hand n k to) = ⊥
  Brings (Insert n k d t) = ⊥
  Brings (Release n k sole) = ⊥
  Brings (Pick n k) = ⊥
  Brings (FeedEnd n) = ⊥
  Brings (Set n k place) = ⊥
  Brings (Leave n k why) = ⊥
  Brings (Clear n k) = ⊥
  Brings (Restore n k place d) = ⊥
  Brings (Resize n c) = Unit {0}

  -- ---- an entry is changed, comes or goes

  told-same : (e f : Entry) → f.key ≡ e.key → f.digest ≡ e.digest → (is_same_state f.state L2Only ≡ false → is_same_state e.state L2Only ≡ false) → IsToldEntry e → IsToldEntry f
  told-same e f key digest state told else_where d is = subst (λ (k : Key). HasBytes k d) (sym key) (told (state else_where) d (sym digest ∙ is))

  told-changed : (k : Key) (change : Entry → Entry) (es : List Entry) → ((e : Entry) → (change e).key ≡ e.key) → ((e : Entry) → (change e).digest ≡ e.digest)
      → ((e : Entry) → is_same_state (change e).state L2Only ≡ false → is_same_state e.state L2Only ≡ false) → AreTold es → AreTold (with_change entry_key k change es)
  told-changed k change es key digest state told =
      All-with_change entry_key IsToldEntry k change es (λ e item. told-same e (change e) (key e) (digest e) (state e) (All-item entry_key IsToldEntry k es e told item)) told

  told-arrived : (k : Key) (d : Digest) (es : List Entry) → HasBytes k d → AreTold es → AreTold (with_change entry_key k (arrived d) es)
  told-arrived k d es is told =
      All-with_change entry_key IsToldEntry k (arrived d) es (λ e item out x there. subst (λ (z : Key × Digest). HasBytes z.0 z.1) (λ h. (sym (item_at-key entry_key k es e item) h, some_is there h)) is) told

  told-read : (n t : ℕ) (k : Key) (s : PlainShard) → IsToldEntry (read_entry n k t s)
  told-read n t k s out d is = let nothing : None ≡ Some d = is in cc

  -- ---- room and trim

  told-evicted : (k : Key) (s : PlainShard) → AreTold s.entries → AreTold (evicted k s).entries
  told-evicted k s told =
      subst AreTold (sym (at_head-entries k (changed k evicted_entry (off_sequence k s)))) (told-changed k evicted_entry s.entries (λ e. refl) (λ e. refl) (λ e. evicted-else e.state) told)

  told-evicting : (n z : ℕ) (s : PlainShard) → AreTold s.entries → AreTold (evicting n z s).entries
  told-evicting zero z s told = told
  told-evicting (suc n) z s told = go (next_evicted z s) (λ k. told-evicting n z (evicted k s) (told-evicted k s told))
    where
      go : (o : Option Key) → ((k : Key) → AreTold (evicting n z (evicted k s)).entries) → AreTold (option_map_or (λ k. evicting n z (evicted k s)) o s).entries
      go None rest = told
      go (Some k) rest = rest k

  told-dropped : (k : Key) (s : PlainShard) → AreTold s.entries → AreTold (dropped k s).entries
  told-dropped k s told = go (is_some (place_of k s))
    where
      go : (b : Bool) → AreTold (if b then changed k (λ e. record e { state = L2Only }) (off_sequence k s) else gone k s).entries
      go true = told-changed k (λ e. record e { state = L2Only }) s.entries (λ e. refl) (λ e. refl) (λ e out. absurd (false≢true (sym out))) told
      go false = All-without entry_key IsToldEntry k s.entries told

  told-trimming : (n : ℕ) (s : PlainShard) → AreTold s.entries → AreTold (trimming n s).entries
  told-trimming zero s told = told
  told-trimming (suc n) s told = go (next_dropped s) (λ k. told-trimming n (dropped k s) (told-dropped k s told))
    where
      go : (o : Option Key) → ((k : Key) → AreTold (trimming n (dropped k s)).entries) → AreTold (option_map_or (λ k. trimming n (dropped k s)) o s).entries
      go None rest = told
      go (Some k) rest = rest k

  told-taken_in : (e : Entry) (s : PlainShard) → IsToldEntry e → AreTold s.entries → AreTold (taken_in e s).entries
  told-taken_in e s own told =
      let out = gone e.key s in
      let roomy = with_room e.key.size out in
      let room : AreTold roomy.entries = told-evicting (length out.entries) e.key.size out (All-without entry_key IsToldEntry e.key s.entries told) in
      told-trimming (length (come e roomy).entries) (come e roomy) (All-with_item entry_key IsToldEntry e roomy.entries own room)

  told-fitted : (s : PlainShard) → AreTold s.entries → AreTold (fitted s).entries
  told-fitted s told = told-trimming _ (with_room 0 s) (told-evicting _ 0 s told)

  -- ---- an event, and a history

  pub told-after : (s : PlainShard) (e : Event) → Brings e → AreTold s.entries → AreTold (after s e).entries
  told-after s (Hit n k t) brings told =
      told-changed k (hit_entry n s.mintime t) s.entries (hit-key n s.mintime t) (λ e. (accessed-keeps e.state s.mintime t e).digest) (λ e. access-else e.state s.mintime t e refl) told
  told-after s (Miss n k t) brings told = told-taken_in (read_entry n k t s) (with_target_for k s) (told-read n t k s) told
  told-after s (Arrive n k d from) brings told = told-arrived k d s.entries brings told
  told-after s (Fail n k at) brings told = All-without entry_key IsToldEntry k s.entries told
  told-after s (Drop n k) brings told =
      subst AreTold (sym (given_back-entries n k s)) (told-changed k (one_less n) s.entries (λ e. refl) (λ e. refl) (λ e out. out) told)
  told-after s (Past n k kept) brings told = told
  told-after s (Pass n k owner) brings told = absurd brings
  told-after s (Hand n k to) brings told = absurd brings
  told-after s (Insert n k d t) brings told = absurd brings
  told-after s (Release n k sole) brings told = absurd brings
  told-after s (Pick n k) brings told = absurd brings
  told-after s (FeedEnd n) brings told = absurd brings
  told-after s (Set n k place) brings told = absurd brings
  told-after s (Leave n k why) brings told = absurd brings
  told-after s (Clear n k) brings told = absurd brings
  told-after s (Restore n k place d) brings told = absurd brings
  told-after s (Resize n c) brings told = told-fitted (resized c s) told

  pub told-replay : (s : PlainShard) (es : List Event) → AllByRecursion Brings es → AreTold s.entries → AreTold (replay s es).entries
  told-replay s [] brings told = told
  told-replay s (e ∷ es) brings told = told-replay (after s e) es brings.1 (told-after s e brings.0 told)

  -- keys that are restored bring nothing that is cached
  pub told-restores : (s : PlainShard) (es : List Event) → AllByRecursion IsRestored es → AreTold s.entries → AreTold (replay s es).entries
  told-restores s [] restores told = told
  told-restores s (e ∷ es) restores told = told-restores (after s e) es restores.1 (one e restores.0)
    where
      one : (e : Event) → IsRestored e → AreTold (after s e).entries
      one (Restore n k place d) is = All-with_item entry_key IsToldEntry (restored_entry k place d) s.entries (λ out. absurd (false≢true (sym out))) told
      one (Pass n k owner) is = absurd is
      one (Hit n k t) is = absurd is
      one (Miss n k t) is = absurd is
      one (Arrive n k d from) is = absurd is
      one (Fail n k at) is = absurd is
      one (Drop n k) is = absurd is
      one (Past n k kept) is = absurd is
      one (Hand n k to) is = absurd is
      one (Insert n k d t) is = absurd is
      one (Release n k sole) is = absurd is
      one (Pick n k) is = absurd is
      one (FeedEnd n) is = absurd is
      one (Set n k place) is = absurd is
      one (Leave n k why) is = absurd is
      one (Clear n k) is = absurd is
      one (Resize n c) is = absurd is

  -- the digest of a cached block has its bytes
  pub told-resident : (s : PlainShard) (k : Key) (d : Digest) → AreTold s.entries → resident_digest k s ≡ Some d → HasBytes k d
  told-resident s k d told there =
      let some = resident-entry (entry_of k s) d there in
      subst (λ (h : Key). HasBytes h d) (item_at-key entry_key k s.entries some.0 some.1)
      (All-item entry_key IsToldEntry k s.entries some.0 told some.1 (resident-else some.0 some.2) d some.3)

-- ---- bytes are cached for one pointer more

-- they are its own then, and all others are as they were
pub with-own : (ptr : Ptr) (bytes : List ℕ) (contents : Contents) → with_bytes ptr bytes contents ptr ≡ bytes
with-own ptr bytes contents = rw (key_eq-same ptr.key, digest_eq-same ptr.digest) refl

has-more : (ptr : Ptr) (bytes : List ℕ) (contents : Contents) → IsOf bytes ptr → (k : Key) (d : Digest) → HasBytes contents k d → HasBytes (with_bytes ptr bytes contents) k d
has-more ptr bytes contents of k d had = elim (cases_true (key_eq k ptr.key && digest_eq d ptr.digest)) [
  | inl same ↦
      let key : k ≡ ptr.key = key_eq-is k ptr.key (and_left (key_eq k ptr.key) (digest_eq d ptr.digest) same) in
      let digest : d ≡ ptr.digest = digest_eq-is d ptr.digest (and_right (key_eq k ptr.key) (digest_eq d ptr.digest) same) in
      rw same (subst (λ (z : Key × Digest). IsOf bytes (ptr_with z.0 z.1)) (λ h. (sym key h, sym digest h)) of)
  | inr other ↦ rw other had
]

pub told-more : (ptr : Ptr) (bytes : List ℕ) (contents : Contents) → IsOf bytes ptr → (es : List Entry) → AreTold contents es → AreTold (with_bytes ptr bytes contents) es
told-more ptr bytes contents of [] told = tt
told-more ptr bytes contents of (e ∷ es) told = (λ out d is. has-more ptr bytes contents of e.key d (told.0 out d is), told-more ptr bytes contents of es told.1)
