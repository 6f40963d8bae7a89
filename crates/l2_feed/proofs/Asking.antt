-- Which calls of the device a feed makes: what `begin`, `put` and `commit` tell of theirs, and one part behind another.
use Rattle.std.proofs.Common.{◌≡◌, ◌⊎◌, ℕ, zero, suc, ◌+◌, ◌*◌, ◌<◌, List, [], ◌∷◌, ◌++◌, take, drop, length, get_or, Result, Ok, Err, inl, inr, refl, sym, ap, ◌∙◌, subst, arith, append_assoc, append-nil}
use Rattle.std.specs.Prelude.{IsErrOf}
use Rattle.std.proofs.lemmas.List.{map-append}
use Rattle.vdev_io.specs.declared.device.CacheDev.{Ghosts}
use Rattle.vdev_io.specs.Calls.{Asked, DeviceCall, Failed, Gave, MakesAll, MakesDeviceCalls, MakesUpTo, Write, answered}
use Rattle.vdev_io.proofs.CallLemmas.{all_behind, calls_behind, up_to_behind, up_to_wider}
use Rattle.arc_table.specs.declared.picks.Picked.{Picked as Block}
use Rattle.l2_log.specs.Rules.{log_len}
use Rattle.l2_log.specs.HeaderBytes.{SpellsHeader}
use Rattle.l2_log.specs.declared.header.DevHeader.{DevHeader}
use Rattle.l2_log.specs.declared.log_block.LogBlock.{LogBlock}
use Rattle.l2_log.specs.declared.pointer.LogPtr.{LogPtr}
use Rattle.l2_dev.specs.declared.fault.DevErr.{DevErr}
use Rattle.l2_dev.specs.declared.fault.DevErr.TheVariants as err
use Rattle.l2_dev.specs.declared.report.FeedStop.{FeedStop}
use Rattle.l2_dev.specs.declared.report.FeedStop.TheVariants as stop
use Rattle.l2_dev.specs.Asking.{AsksFor, BeginAsks, CommitAsks, header_calls, log_calls}
use Rattle.l2_dev.specs.Cursor.{CursorState}
use Rattle.l2_dev.specs.Planned.{IsBlockOf, IsHeaderWith}
use Rattle.l2_feed.specs.Acts.{Act}
use Rattle.l2_feed.specs.Asking.{AskRuns, AsksLog, AsksRun, BatchCalls, EndCalls, LostCalls, NamesLog, PutsCalls, RunCalls, RunsCalls, UpToFailed, all_gave, puts_of}
use Rattle.l2_feed.specs.Crashes.{FeedAsks}
use Rattle.l2_feed.specs.Runs.{HasPut, HasWritten, bytes_of, most}
use Rattle.l2_feed.specs.Shape.{AreFed, FedShard, IsUnwritten, IsWritten, WrittenCalls, stop_of}
use Rattle.l2_feed.proofs.Beginning.{BegunCalls}
use Rattle.l2_feed.proofs.Lists.{drop_one}
use Rattle.l2_feed.proofs.Running.{drop_more}
use Rattle.l2_feed.proofs.Writing.{log_is}

-- the header behind a commit, by the cursor before the puts
names_log : (run : List Block) (old now : CursorState) (ptr : LogPtr) (header : DevHeader) → HasPut run old now → IsHeaderWith now ptr header → NamesLog old (old.ring.hand + (bytes_of run + log_len)) ptr header
names_log run old now ptr header put is =
    let hand : now.ring.hand + log_len ≡ old.ring.hand + (bytes_of run + log_len) = (let h = put.hand in omega arith) in
    record {
      end = is.end ∙ put.end;
      numbers = is.numbers ∙ (λ i. record { hand = hand i; evict = put.evict i; top = put.top i; lap = put.lap i });
      newest = is.newest;
      second = is.second ∙ put.newest;
      version = is.version;
    }

module _ {D : Type 0} (device : Ghosts D) where
  -- calls that were made up to one that failed
  up_to : (asked : List Asked) (a b : D) → MakesUpTo device asked a b → (calls : List DeviceCall) × MakesDeviceCalls device calls a b × UpToFailed asked calls
  up_to asked a b made = (
    all_gave made.done ++ answered Failed made.failed ∷ [],
    made.calls,
    record { done = made.done; failed = made.failed; left = made.left; whole = made.whole; calls_are = refl },
  )

  -- ---- a begin

  pub begin_calls : (after : CursorState) (a b : D) (result : Result (Unit {0}) DevErr) → (IsErrOf result err.NoMemory → b ≡ a) → ((¬ IsErrOf result err.NoMemory) → BeginAsks device after a b result)
      → (calls : List DeviceCall) × MakesDeviceCalls device calls a b × BegunCalls result after calls
  begin_calls after a b (Ok u) same asks =
      let k = asks (λ is. cc) in
      (all_gave (header_calls k.0), k.4, ((λ is. cc), (λ no. (header_calls k.0, record { sector = k.0; header = k.1; is = k.2; from = k.3; asked_are = refl }, refl))))
  begin_calls after a b (Err err.DevFault) same asks =
      let k = asks (λ is. cc) in
      let made = up_to (header_calls k.0) a b k.4 in
      (made.0, made.1, ((λ is. cc), (λ no. (header_calls k.0, record { sector = k.0; header = k.1; is = k.2; from = k.3; asked_are = refl }, made.2))))
  begin_calls after a b (Err err.NoMemory) same asks = ([], same refl, ((λ is. refl), (λ no. absurd (no refl))))

  -- ---- the puts of a run

  -- so many blocks were written, and those that are left would follow
  abbrev pub PutsAsked : (run : List Block) (i : ℕ) (old now : CursorState) (a b : D) → Type 0
  PutsAsked run i old now a b = (asked : List Asked) × MakesAll device asked a b × (asked ++ puts_of now.ring.hand (drop i run) ≡ puts_of old.ring.hand run)

  pub no_puts : (run : List Block) (old : CursorState) (a : D) → PutsAsked run 0 old old a a
  no_puts run old a = ([], refl, refl)

  module _ (run : List Block) (i : ℕ) (d : Block) (bytes : List ℕ) (old now : CursorState) (a b c : D) (below : i < length run) (is : bytes ≡ (get_or run i d).block.value) (was : PutsAsked run i old now a b) where
    abbrev next : Block
    next = get_or run i d

    abbrev put : Asked
    put = Write now.ring.hand bytes

    follows : (was.0 ++ put ∷ []) ++ puts_of (now.ring.hand + next.key.size) (drop (i + 1) run) ≡ puts_of old.ring.hand run
    follows =
        append_assoc was.0 (put ∷ []) (puts_of (now.ring.hand + next.key.size) (drop (i + 1) run))
        ∙ (ap (λ (l : List ℕ). was.0 ++ Write now.ring.hand l ∷ puts_of (now.ring.hand + next.key.size) (drop (i + 1) run)) is
        ∙ (ap (λ (bs : List Block). was.0 ++ puts_of now.ring.hand bs) (sym (drop_one run i d below)) ∙ was.2))

    pub puts_more : (new : CursorState) → new.ring.hand ≡ now.ring.hand + next.key.size → MakesAll device (put ∷ []) b c → PutsAsked run (i + 1) old new a c
    puts_more new hand made = (
      was.0 ++ put ∷ [],
      all_behind device was.0 (put ∷ []) a b c was.1 made,
      ap (λ (n : ℕ). (was.0 ++ put ∷ []) ++ puts_of n (drop (i + 1) run)) hand ∙ follows,
    )

    pub puts_stop : (T : Type 0) (fault : DevErr) → AsksFor {T = ℕ} device (put ∷ []) (put ∷ []) b c (Err fault) → (calls : List DeviceCall) × MakesDeviceCalls device calls a c × PutsCalls {T = T} (Err fault) old run calls
    puts_stop T err.DevFault asks =
        up_to (puts_of old.ring.hand run) a c (subst (λ (l : List Asked). MakesUpTo device l a c) follows
        (up_to_wider device (was.0 ++ put ∷ []) (puts_of (now.ring.hand + next.key.size) (drop (i + 1) run)) a c (up_to_behind device was.0 (put ∷ []) a b c was.1 asks)))
    puts_stop T err.NoMemory asks = (
      all_gave (was.0 ++ put ∷ []),
      all_behind device was.0 (put ∷ []) a b c was.1 asks,
      record { done = was.0 ++ put ∷ []; left = puts_of (now.ring.hand + next.key.size) (drop (i + 1) run); whole = sym follows; calls_are = refl },
    )

  pub puts_end : {T : Type 0} (value : T) (run : List Block) (i : ℕ) (old now : CursorState) (a b : D) → drop i run ≡ [] → PutsAsked run i old now a b
      → (calls : List DeviceCall) × MakesDeviceCalls device calls a b × PutsCalls (Ok value) old run calls
  puts_end value run i old now a b none was = (
    all_gave was.0,
    was.1,
    ap all_gave (sym (append-nil was.0) ∙ (ap (λ (bs : List Block). was.0 ++ puts_of now.ring.hand bs) (sym none) ∙ was.2)),
  )

  -- ---- a commit behind them

  module _ (run : List Block) (old now : CursorState) (a b c : D) (put : HasPut run old now) (puts : (calls : List DeviceCall) × MakesDeviceCalls device calls a b × (calls ≡ all_gave (puts_of old.ring.hand run))) where
    abbrev asked : List Asked
    asked = puts_of old.ring.hand run

    first : MakesAll device asked a b
    first = subst (λ (calls : List DeviceCall). MakesDeviceCalls device calls a b) puts.2 puts.1

    -- the log block's calls, and the header's
    abbrev logs : List ℕ → List Asked
    logs bytes = log_calls (old.ring.hand + bytes_of run) bytes

    abbrev asks_log : (bytes : List ℕ) (block : LogBlock) (ptr : LogPtr) → IsBlockOf now bytes ptr block → AsksLog old run (asked ++ logs bytes)
    asks_log bytes block ptr is = record { ptr = ptr; log = log_is run old now bytes ptr block put is; asked_are = refl }

    asks_run : (bytes : List ℕ) (block : LogBlock) (ptr : LogPtr) → IsBlockOf now bytes ptr block
        → (whole : (sector : List ℕ) × (header : DevHeader) × SpellsHeader sector header × IsHeaderWith now ptr header) → AsksRun old run ((asked ++ logs bytes) ++ header_calls whole.0)
    asks_run bytes block ptr is whole = record {
      front = asked ++ logs bytes;
      log = asks_log bytes block ptr is;
      sector = whole.0;
      header = whole.1;
      is = whole.2;
      names = names_log run old now ptr whole.1 put whole.3;
      asked_are = refl;
    }

    at_hand : (bytes : List ℕ) → log_calls now.ring.hand bytes ≡ logs bytes
    at_hand bytes = ap (λ (n : ℕ). log_calls n bytes) put.hand

    pub commit_calls : {T : Type 0} (result : Result T DevErr) → (IsErrOf result err.NoMemory → c ≡ b) → ((¬ IsErrOf result err.NoMemory) → CommitAsks device now b c result)
        → (calls : List DeviceCall) × MakesDeviceCalls device calls a c × RunCalls result old run calls
    commit_calls {T} (Ok value) same asks = go (asks (λ is. cc))
      where
        go : CommitAsks {T = T} device now b c (Ok value) → (calls : List DeviceCall) × MakesDeviceCalls device calls a c × RunCalls {T = T} (Ok value) old run calls
        go (bytes, block, ptr, is, inl logged) = let no = logged.0 in cc
        go (bytes, block, ptr, is, inr whole) =
            let all : List Asked = (asked ++ logs bytes) ++ header_calls whole.0 in (
              all_gave all,
              subst (λ (l : List Asked). MakesAll device l a c) (ap (λ (l : List Asked). asked ++ (l ++ header_calls whole.0)) (at_hand bytes) ∙ sym (append_assoc asked (logs bytes) (header_calls whole.0)))
                  (all_behind device asked (log_calls now.ring.hand bytes ++ header_calls whole.0) a b c first whole.4),
              (all, asks_run bytes block ptr is (whole.0, whole.1, whole.2, whole.3), refl),
            )
    commit_calls {T} (Err err.DevFault) same asks = go (asks (λ is. cc))
      where
        go : CommitAsks {T = T} device now b c (Err err.DevFault) → (calls : List DeviceCall) × MakesDeviceCalls device calls a c × RunCalls {T = T} (Err err.DevFault) old run calls
        go (bytes, block, ptr, is, inl logged) =
            let made = up_to (asked ++ logs bytes) a c (subst (λ (l : List Asked). MakesUpTo device (asked ++ l) a c) (at_hand bytes) (up_to_behind device asked (log_calls now.ring.hand bytes) a b c first logged.1)) in
            (made.0, made.1, (asked ++ logs bytes, inr (inl (asks_log bytes block ptr is)), made.2))
        go (bytes, block, ptr, is, inr whole) =
            let all : List Asked = (asked ++ logs bytes) ++ header_calls whole.0 in
            let made = up_to all a c (subst (λ (l : List Asked). MakesUpTo device l a c) (ap (λ (l : List Asked). asked ++ (l ++ header_calls whole.0)) (at_hand bytes) ∙ sym (append_assoc asked (logs bytes) (header_calls whole.0)))
            (up_to_behind device asked (log_calls now.ring.hand bytes ++ header_calls whole.0) a b c first whole.4)) in
            (made.0, made.1, (all, inr (inr (asks_run bytes block ptr is (whole.0, whole.1, whole.2, whole.3))), made.2))
    commit_calls (Err err.NoMemory) same asks = (
      all_gave asked,
      subst (λ (d : D). MakesAll device asked a d) (sym (same refl)) first,
      record { done = asked; left = []; whole = sym (append-nil asked); calls_are = refl },
    )

  -- puts that were answered with a fault are all that was asked for of their run
  pub puts_lost : (T U : Type 0) (fault : DevErr) (old : CursorState) (run : List Block) (calls : List DeviceCall) → PutsCalls {T = T} (Err fault) old run calls → RunCalls {T = U} (Err fault) old run calls
  puts_lost T U err.DevFault old run calls puts = (puts_of old.ring.hand run, inl refl, puts)
  puts_lost T U err.NoMemory old run calls puts = puts

  -- ---- run after run

  -- so many runs were written, and what is asked for of those that are left would follow
  abbrev pub RunsAsked : (blocks : List Block) (i : ℕ) (old now : CursorState) (a b : D) → Type 0
  RunsAsked blocks i old now a b = (asked : List Asked) × MakesAll device asked a b
      × ((n : ℕ) (later : CursorState) (more : List Asked) → AskRuns n (drop (i * most) blocks) now later more → AskRuns (i + n) blocks old later (asked ++ more))

  pub no_runs_asked : (blocks : List Block) (old : CursorState) (a : D) → RunsAsked blocks 0 old old a a
  no_runs_asked blocks old a = ([], refl, (λ n later more runs. subst (λ (k : ℕ). AskRuns k blocks old later more) (let e : n ≡ 0 + n = omega arith in e) runs))

  module _ (blocks : List Block) (i : ℕ) (old now new : CursorState) (a b c : D) (was : RunsAsked blocks i old now a b) where
    abbrev rest : List Block
    rest = drop (i * most) blocks

    beyond : drop most rest ≡ drop ((i + 1) * most) blocks
    beyond = drop_more (i * most) most blocks ∙ ap (λ (n : ℕ). drop n blocks) (let e : i * most + most ≡ (i + 1) * most = omega arith in e)

    pub runs_asked_more : HasWritten (take most rest) now new → (calls : List DeviceCall) → MakesDeviceCalls device calls b c → (asked : List Asked) × AsksRun now (take most rest) asked × (calls ≡ all_gave asked)
        → RunsAsked blocks (i + 1) old new a c
    runs_asked_more wrote calls made asks = (
      was.0 ++ asks.0,
      all_behind device was.0 asks.0 a b c was.1 (subst (λ (l : List DeviceCall). MakesDeviceCalls device l b c) asks.2 made),
      λ n later more runs.
          let whole = was.2 (suc n) later (asks.0 ++ more) (new, asks.0, more, refl, wrote, asks.1, subst (λ (bs : List Block). AskRuns n bs new later more) (sym beyond) runs) in
          let count : i + suc n ≡ i + 1 + n = omega arith in
          subst (λ (x : ℕ × List Asked). AskRuns x.0 blocks old later x.1) (λ z. (count z, sym (append_assoc was.0 asks.0 more) z)) whole,
    )

  none_more : (i : ℕ) → i ≡ i + 0
  none_more i = omega arith

  -- a run was lost
  pub runs_asked_stop : (blocks : List Block) (i count : ℕ) (old now : CursorState) (a b c : D) (fault : DevErr) → count ≡ i → RunsAsked blocks i old now a b → (calls : List DeviceCall) → MakesDeviceCalls device calls b c
      → LostCalls fault now (take most (drop (i * most) blocks)) calls → (all : List DeviceCall) × MakesDeviceCalls device all a c × RunsCalls old blocks count (stop_of fault) all
  runs_asked_stop blocks i count old now a b c fault is was calls made lost = (
    all_gave was.0 ++ calls,
    calls_behind device (all_gave was.0) calls a b c was.1 made,
    subst (λ (n : ℕ). RunsCalls old blocks n (stop_of fault) (all_gave was.0 ++ calls)) (sym is) record {
      now = now;
      asked = was.0;
      last = calls;
      whole = subst (λ (x : ℕ × List Asked). AskRuns x.0 blocks old now x.1) (λ z. (sym (none_more i) z, append-nil was.0 z)) (was.2 0 now [] (refl, refl));
      ended = ends fault lost;
      calls_are = refl;
    },
  )
    where
      ends : (e : DevErr) → LostCalls e now (take most (drop (i * most) blocks)) calls → EndCalls (stop_of e) now (take most (drop (i * most) blocks)) calls
      ends err.DevFault l = l
      ends err.NoMemory l = l

  -- all were written
  pub runs_asked_end : (blocks : List Block) (i count : ℕ) (old now : CursorState) (a b : D) → count ≡ i → RunsAsked blocks i old now a b → (all : List DeviceCall) × MakesDeviceCalls device all a b × RunsCalls old blocks count stop.Done all
  runs_asked_end blocks i count old now a b is was = (
    all_gave was.0,
    was.1,
    subst (λ (n : ℕ). RunsCalls old blocks n stop.Done (all_gave was.0)) (sym is) record {
      now = now;
      asked = was.0;
      last = [];
      whole = subst (λ (x : ℕ × List Asked). AskRuns x.0 blocks old now x.1) (λ z. (sym (none_more i) z, append-nil was.0 z)) (was.2 0 now [] (refl, refl));
      ended = refl;
      calls_are = sym (append-nil (all_gave was.0));
    },
  )

-- ---- how the calls of a feed were answered

-- each was done, or the last one failed, as the end says
abbrev AnsweredSo : FeedStop → List DeviceCall → Type 0
AnsweredSo stop.Done calls = (asked : List Asked) × (calls ≡ all_gave asked)
AnsweredSo stop.DevFault calls = (done : List Asked) × (failed : Asked) × (calls ≡ all_gave done ++ answered Failed failed ∷ [])
AnsweredSo stop.NoMemory calls = (asked : List Asked) × (calls ≡ all_gave asked)

gave_then : (first more : List Asked) → all_gave first ++ all_gave more ≡ all_gave (first ++ more)
gave_then first more = sym (map-append (answered Gave) first more)

answered_then : (end : FeedStop) (asked : List Asked) (calls : List DeviceCall) → AnsweredSo end calls → AnsweredSo end (all_gave asked ++ calls)
answered_then stop.Done asked calls so = (asked ++ so.0, ap (λ (l : List DeviceCall). all_gave asked ++ l) so.1 ∙ gave_then asked so.0)
answered_then stop.DevFault asked calls so = (
  asked ++ so.0,
  so.1,
  ap (λ (l : List DeviceCall). all_gave asked ++ l) so.2 ∙ (sym (append_assoc (all_gave asked) (all_gave so.0) (answered Failed so.1 ∷ [])) ∙ ap (λ (l : List DeviceCall). l ++ answered Failed so.1 ∷ []) (gave_then asked so.0)),
)
answered_then stop.NoMemory asked calls so = (asked ++ so.0, ap (λ (l : List DeviceCall). all_gave asked ++ l) so.1 ∙ gave_then asked so.0)

end_answered : (end : FeedStop) (cursor : CursorState) (run : List Block) (calls : List DeviceCall) → EndCalls end cursor run calls → AnsweredSo end calls
end_answered stop.Done cursor run calls so = ([], so)
end_answered stop.DevFault cursor run calls so = (so.2.done, so.2.failed, so.2.calls_are)
end_answered stop.NoMemory cursor run calls so = (so.done, so.calls_are)

batch_answered : (begun : CursorState) (blocks : List Block) (count : ℕ) (end : FeedStop) (calls : List DeviceCall) → BatchCalls begun blocks count end calls → AnsweredSo end calls
batch_answered begun blocks count end calls (inl (is, none, front, header, up)) = subst (λ (e : FeedStop). AnsweredSo e calls) (sym is) (up.done, up.failed, up.calls_are)
batch_answered begun blocks count end calls (inr (front, more, header, runs, is)) =
    subst (AnsweredSo end) (sym is) (answered_then end front more (subst (AnsweredSo end) (sym runs.calls_are) (answered_then end runs.asked runs.last (end_answered end _ _ runs.last runs.ended))))

none_answered : (end : FeedStop) (calls : List DeviceCall) → (end ≡ stop.Done) ⊎ (end ≡ stop.NoMemory) → calls ≡ [] → AnsweredSo end calls
none_answered end calls (inl is) none = subst (λ (e : FeedStop). AnsweredSo e calls) (sym is) ([], none)
none_answered end calls (inr is) none = subst (λ (e : FeedStop). AnsweredSo e calls) (sym is) ([], none)

shard_answered : (shard : ℕ) (old new : CursorState) (acts : List Act) (calls : List DeviceCall) (end : FeedStop) → FedShard shard old new acts calls end → AnsweredSo end calls
shard_answered shard old new acts calls end (inl f) = none_answered end calls (inl f.2) f.3
shard_answered shard old new acts calls end (inr (inl f)) = none_answered end calls (inr f.2) f.3
shard_answered shard old new acts calls end (inr (inr f)) = go f.written f.asks
  where
    go : (w : IsWritten old new f.blocks f.clears f.settles end ⊎ IsUnwritten old new f.blocks f.clears f.settles end) → WrittenCalls w calls → AnsweredSo end calls
    go (inl w) asks = batch_answered w.begun f.blocks w.ran.count end calls asks
    go (inr u) asks = none_answered end calls (inr u.ended) asks

fed_answered : (shard count : ℕ) (old new : CursorState) (acts : List Act) (calls : List DeviceCall) (end : FeedStop) → AreFed shard count old new acts calls end → AnsweredSo end calls
fed_answered shard zero old new acts calls end fed = none_answered end calls (inl fed.2) fed.3
fed_answered shard (suc n) old new acts calls end (inl ends) = shard_answered shard old new acts calls end ends.1
fed_answered shard (suc n) old new acts calls end (inr (first, more, between, front, behind, is, asked, one, rest)) =
    let a = shard_answered shard old between first front stop.Done one in
    subst (AnsweredSo end) (ap (λ (l : List DeviceCall). l ++ behind) (sym a.1) ∙ sym asked) (answered_then end a.0 behind (fed_answered (suc shard) n between new more behind end rest))

-- all calls of a feed were done, or all but the last one
pub fails_last : (shard count : ℕ) (old new : CursorState) (acts : List Act) (calls : List DeviceCall) (end : FeedStop) → AreFed shard count old new acts calls end
    → ((asked : List Asked) × (calls ≡ all_gave asked)) ⊎ ((done : List Asked) × (last : Asked) × (calls ≡ all_gave done ++ answered Failed last ∷ []))
fails_last shard count old new acts calls end fed = go end (fed_answered shard count old new acts calls end fed)
  where
    go : (e : FeedStop) → AnsweredSo e calls → ((asked : List Asked) × (calls ≡ all_gave asked)) ⊎ ((done : List Asked) × (last : Asked) × (calls ≡ all_gave done ++ answered Failed last ∷ []))
    go stop.Done so = inl so
    go stop.DevFault so = inr so
    go stop.NoMemory so = inl so

pub feed_asks : {D : Type 0} (device : Ghosts D) (shard count : ℕ) (old new : CursorState) (acts : List Act) (calls : List DeviceCall) (end : FeedStop) (a b : D) → MakesDeviceCalls device calls a b → AreFed shard count old new acts calls end → FeedAsks device a b end
feed_asks device shard count old new acts calls end a b made fed = go end (fed_answered shard count old new acts calls end fed)
  where
    go : (e : FeedStop) → AnsweredSo e calls → FeedAsks device a b e
    go stop.Done so = (so.0, subst (λ (l : List DeviceCall). MakesDeviceCalls device l a b) so.1 made)
    go stop.DevFault so = (
      so.0 ++ so.1 ∷ [],
      record { done = so.0; failed = so.1; left = []; whole = refl; calls = subst (λ (l : List DeviceCall). MakesDeviceCalls device l a b) so.2 made },
    )
    go stop.NoMemory so = (so.0, subst (λ (l : List DeviceCall). MakesDeviceCalls device l a b) so.1 made)
