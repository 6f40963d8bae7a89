-- Where a feed writes: each call of it that failed lies beside every range that is live behind it, and where it gave a key a place, it wrote a block of the key's size there (l2arc_write_buffers and l2arc_log_blk_commit).
use Rattle.std.proofs.Common.{◌≡◌, ◌⊎◌, ◌<◌, ◌≤◌, ◌+◌, ◌*◌, ◌-◌, ◌++◌, ℕ, zero, suc, true, List, [], ◌∷◌, length, take, drop, inl, inr, refl, sym, ap, ◌∙◌, subst, ⊎_elim, arith}
use Rattle.std.specs.List.{AllByRecursion, filter}
use Rattle.std.proofs.lemmas.Bool.{cases_Bool, cases_lt}
use Rattle.std.proofs.lemmas.List.{length-drop, map-append}
use Rattle.blk_ptr.specs.declared.key.Key.{Key}
use Rattle.arc_table.specs.declared.picks.Picked.{Picked as Block}
use Rattle.l2_log.specs.Rules.{header_len, log_len, ring_start}
use Rattle.l2_ring.specs.declared.live.Written.{Written}
use Rattle.l2_ring.specs.declared.plan.Plan.{Plan}
use Rattle.l2_ring.specs.Ranges.{Stays, range_of}
use Rattle.l2_ring.specs.Ring.{IsPlanFor, IsSound, RingState}
use Rattle.l2_ring.specs.Stays.{stays}
use Rattle.l2_ring.proofs.PlanLaws.{stays_tells}
use Rattle.l2_dev.specs.Asking.{header_calls, log_calls}
use Rattle.l2_dev.specs.Cursor.{CursorState}
use Rattle.l2_dev.specs.declared.report.FeedStop.{FeedStop}
use Rattle.l2_dev.specs.declared.report.FeedStop.TheVariants as stop
use Rattle.l2_dev.proofs.ListLaws.{all_right}
use Rattle.l2_feed.specs.Acts.{Act, Left, Picked, Placed, Unpicked}
use Rattle.l2_feed.specs.Asking.{AskRuns, AsksHeader, AsksLog, AsksSome, BatchCalls, EndCalls, FirstGave, UpToFailed, all_gave, puts_of}
use Rattle.l2_feed.specs.Places.{IsAmongActs, IsLive}
use Rattle.l2_feed.specs.Runs.{AreRuns, AreSet, AreWhole, batch_len, bytes_of, most, row_of, runs_of}
use Rattle.l2_feed.specs.Shape.{AreFed, FedBatch, FedShard, IsUnwritten, IsWritten, LeavesSome, WrittenCalls, why_of}
use Rattle.l2_feed.specs.Told.{IsAmongCalls}
use Rattle.l2_feed.proofs.Keeping.{clears_give_none, in_either, key_in, lefts_give_none, live_after, live_either, place_in}
use Rattle.l2_feed.proofs.Lists.{bytes_cons, bytes_split}
use Rattle.l2_feed.proofs.Running.{drop_more}
use Rattle.vdev_io.specs.Calls.{Asked, DeviceCall, Failed, Gave, Write, answered}
use Rattle.trace_run.proofs.one_caller.TellLemmas.{all-append}
use Rattle.run_laws.proofs.feeds.FeedWrites.{FailBeside, IsBeside, WroteIn}
use Rattle.run_laws.proofs.Rows.{gave-not-failed}

-- ---- calls beside a range

abbrev AllBeside : (x n : ℕ) → List Asked → Type 0
AllBeside x n = AllByRecursion (IsBeside x n)

two-beside : (x n : ℕ) (a b : List DeviceCall) → FailBeside x n a → FailBeside x n b → FailBeside x n (a ++ b)
two-beside x n a b one other = all-append (λ (call : DeviceCall). call.answer ≡ Failed → IsBeside x n call.asked) a b one other

gave-beside : (x n : ℕ) (asked : List Asked) → FailBeside x n (all_gave asked)
gave-beside x n [] = tt
gave-beside x n (a ∷ asked) = ((λ failed. absurd (gave-not-failed failed)), gave-beside x n asked)

up-beside : (x n : ℕ) (asked : List Asked) (calls : List DeviceCall) → AllBeside x n asked → UpToFailed asked calls → FailBeside x n calls
up-beside x n asked calls all up =
    let last : AllBeside x n (up.failed ∷ up.left) = all_right (IsBeside x n) up.done (up.failed ∷ up.left) (subst (AllBeside x n) up.whole all) in
    subst (FailBeside x n) (sym up.calls_are) (two-beside x n (all_gave up.done) (answered Failed up.failed ∷ []) (gave-beside x n up.done) ((λ failed. last.0), tt))

first-beside : (x n : ℕ) (asked : List Asked) (calls : List DeviceCall) → FirstGave asked calls → FailBeside x n calls
first-beside x n asked calls first = subst (FailBeside x n) (sym first.calls_are) (gave-beside x n first.done)

header-beside : (x n : ℕ) (sector : List ℕ) → length sector ≡ header_len → ring_start ≤ x → AllBeside x n (header_calls sector)
header-beside x n sector long from = (inr (omega (arith, long, from)), (tt, tt))

-- the range ends at this place or before, or begins so many bytes behind it or later
abbrev IsOff : (x n place len : ℕ) → Type 0
IsOff x n place len = (x + n ≤ place) ⊎ (place + len ≤ x)

log-beside : (x n place : ℕ) (bytes : List ℕ) → length bytes ≡ log_len → IsOff x n place log_len → AllBeside x n (log_calls place bytes)
log-beside x n place bytes long (inl below) = (inl below, (tt, tt))
log-beside x n place bytes long (inr above) = (inr (omega (arith, long, above)), (tt, tt))

puts-beside : (x n place : ℕ) (bs : List Block) → AreWhole bs → IsOff x n place (bytes_of bs) → AllBeside x n (puts_of place bs)
puts-beside x n place [] whole off = tt
puts-beside x n place (b ∷ bs) whole (inl below) = (inl below, puts-beside x n (place + b.key.size) bs whole.1 (inl (omega (arith, below))))
puts-beside x n place (b ∷ bs) whole (inr above) =
    let long : length b.block.value ≡ b.key.size = whole.0.1 in
    (inr (omega (arith, above, long, bytes_cons b bs)), puts-beside x n (place + b.key.size) bs whole.1 (inr (omega (arith, above, bytes_cons b bs))))

module _ (x n : ℕ) (now : CursorState) (run : List Block) (whole : AreWhole run) (from : ring_start ≤ x) (off : IsOff x n now.ring.hand (bytes_of run + log_len)) where
  puts-off : IsOff x n now.ring.hand (bytes_of run)
  puts-off = go off
    where
      go : IsOff x n now.ring.hand (bytes_of run + log_len) → IsOff x n now.ring.hand (bytes_of run)
      go (inl below) = inl below
      go (inr above) = inr (omega (arith, above))

  log-off : IsOff x n (now.ring.hand + bytes_of run) log_len
  log-off = go off
    where
      go : IsOff x n now.ring.hand (bytes_of run + log_len) → IsOff x n (now.ring.hand + bytes_of run) log_len
      go (inl below) = inl (omega (arith, below))
      go (inr above) = inr (omega (arith, above))

  written-beside : (asked : List Asked) → AsksLog now run asked → AllBeside x n asked
  written-beside asked asks =
      subst (AllBeside x n) (sym asks.asked_are)
      (all-append (IsBeside x n) (puts_of now.ring.hand run) (log_calls (now.ring.hand + bytes_of run) asks.log.bytes) (puts-beside x n now.ring.hand run whole puts-off) (log-beside x n (now.ring.hand + bytes_of run) asks.log.bytes asks.log.written.whole log-off))

  -- however far a run came that was lost
  some-beside : (asked : List Asked) → AsksSome now run asked → AllBeside x n asked
  some-beside asked (inl puts) = subst (AllBeside x n) (sym puts) (puts-beside x n now.ring.hand run whole puts-off)
  some-beside asked (inr (inl log)) = written-beside asked log
  some-beside asked (inr (inr asks)) =
      subst (AllBeside x n) (sym asks.asked_are) (all-append (IsBeside x n) asks.front (header_calls asks.sector) (written-beside asks.front asks.log) (header-beside x n asks.sector asks.is.is.whole from))

-- ---- lists of blocks

whole-front : (n : ℕ) (bs : List Block) → AreWhole bs → AreWhole (take n bs)
whole-front zero bs whole = tt
whole-front (suc n) [] whole = tt
whole-front (suc n) (b ∷ bs) whole = (whole.0, whole-front n bs whole.1)

whole-behind : (n : ℕ) (bs : List Block) → AreWhole bs → AreWhole (drop n bs)
whole-behind zero bs whole = whole
whole-behind (suc n) [] whole = tt
whole-behind (suc n) (b ∷ bs) whole = whole-behind n bs whole.1

-- the blocks behind so many runs
beyond : (count : ℕ) (bs : List Block) → drop (suc count * most) bs ≡ drop (count * most) (drop most bs)
beyond count bs = ap (λ (k : ℕ). drop k bs) (let e : suc count * most ≡ most + count * most = omega arith in e) ∙ sym (drop_more most (count * most) bs)

-- ---- runs

row-lies : (lap place : ℕ) (k : Key) (x : ℕ) (bs : List Block) → IsLive k x (row_of lap place bs) → (place ≤ x) × (x + k.size ≤ place + bytes_of bs)
row-lies lap place k x [] live = absurd live
row-lies lap place k x (b ∷ bs) (inl is) =
    let at : place ≡ x = is.1 in
    let size : b.key.size ≡ k.size = ap (λ (j : Key). j.size) is.0 in
    (omega (arith, at), omega (arith, at, size, bytes_cons b bs))
row-lies lap place k x (b ∷ bs) (inr live) =
    let rest = row-lies lap (place + b.key.size) k x bs live in
    let from = rest.0 in
    let to = rest.1 in
    (omega (arith, from), omega (arith, to, bytes_cons b bs))

-- the entries of runs lie from the hand on, and before what is left of the batch
runs-lie : (lap hand count : ℕ) (k : Key) (x : ℕ) (bs : List Block) (acts : List Act) (ws : List Written) (left : List Block) → AreRuns lap hand count bs acts ws left → IsLive k x ws
    → (hand ≤ x) × (x + k.size + bytes_of (drop (count * most) bs) ≤ hand + (bytes_of bs + log_len * count))
runs-lie lap hand zero k x bs acts ws left are live = absurd (subst (IsLive k x) are.1 live)
runs-lie lap hand (suc count) k x bs acts ws left (some, sets, more, behind, is, entries, set, rest) live =
    let run : List Block = take most bs in
    let hand_then : ℕ = hand + (bytes_of run + log_len) in
    let parts : bytes_of bs ≡ bytes_of run + bytes_of (drop most bs) = bytes_split most bs in
    let behind_it : bytes_of (drop (suc count * most) bs) ≡ bytes_of (drop (count * most) (drop most bs)) = ap bytes_of (beyond count bs) in
    let fewer : bytes_of (drop most bs) ≡ bytes_of (take (count * most) (drop most bs)) + bytes_of (drop (count * most) (drop most bs)) = bytes_split (count * most) (drop most bs) in
    ⊎_elim
    (λ (here : IsLive k x (row_of lap hand run)).
    let r = row-lies lap hand k x run here in
    let from = r.0 in
    let to = r.1 in
    (from, omega (arith, to, parts, behind_it, fewer)))
    (λ (there : IsLive k x behind).
    let r = runs-lie lap hand_then count k x (drop most bs) more behind left rest there in
    let from = r.0 in
    let to = r.1 in
    (omega (arith, from), omega (arith, to, parts, behind_it)))
    (live_either k x (row_of lap hand run) behind (subst (IsLive k x) entries live))

-- where the hand stands behind them
runs-hand : (count : ℕ) (bs : List Block) (old now : CursorState) (asked : List Asked) → AskRuns count bs old now asked → now.ring.hand + bytes_of (drop (count * most) bs) ≡ old.ring.hand + (bytes_of bs + log_len * count)
runs-hand zero bs old now asked asks = let same : now.ring.hand ≡ old.ring.hand = ap (λ (c : CursorState). c.ring.hand) asks.0 in omega (arith, same)
runs-hand (suc count) bs old now asked (next, first, more, is, wrote, run, rest) =
    let later = runs-hand count (drop most bs) next now more rest in
    let hand : next.ring.hand ≡ old.ring.hand + (bytes_of (take most bs) + log_len) = wrote.hand in
    let parts : bytes_of bs ≡ bytes_of (take most bs) + bytes_of (drop most bs) = bytes_split most bs in
    let behind_it : bytes_of (drop (suc count * most) bs) ≡ bytes_of (drop (count * most) (drop most bs)) = ap bytes_of (beyond count bs) in
    omega (arith, later, hand, parts, behind_it)

runs-left : (lap hand count : ℕ) (bs : List Block) (acts : List Act) (ws : List Written) (left : List Block) → AreRuns lap hand count bs acts ws left → left ≡ drop (count * most) bs
runs-left lap hand zero bs acts ws left are = are.2
runs-left lap hand (suc count) bs acts ws left (some, sets, more, behind, is, entries, set, rest) = runs-left lap (hand + (bytes_of (take most bs) + log_len)) count (drop most bs) more behind left rest ∙ sym (beyond count bs)

-- ---- a plan

-- where its hand and its evict mark lie
record LiesSo (plan : Plan) (n : ℕ) : Type 0 where
  pub hand : ring_start ≤ plan.hand
  pub evict : ring_start ≤ plan.evict
  pub room : plan.hand + n ≤ plan.evict

plan-lies : (ring : RingState) (n : ℕ) (plan : Plan) → IsSound ring → IsPlanFor ring n plan → LiesSo plan n
plan-lies ring n plan sound is = elim (cases_lt ring.end (ring.hand + n)) [
  | inl far ↦ subst (λ (p : Plan). LiesSo p n) (sym (is.wrapped far)) (record { hand = omega arith; evict = omega arith; room = omega arith })
  | inr near ↦
      let hand = sound.hand_in.from in
      let evict = sound.evict_in.from in
      subst (λ (p : Plan). LiesSo p n) (sym (is.straight near)) (record { hand = hand; evict = omega (arith, evict); room = omega arith })
]

kept-stays : (plan : Plan) (k : Key) (x : ℕ) (ws : List Written) → IsLive k x (filter (stays plan) ws) → (w : Written) × (stays plan w ≡ true) × (w.live.key ≡ k) × (w.live.place ≡ x)
kept-stays plan k x [] live = absurd live
kept-stays plan k x (w ∷ ws) live = elim (cases_Bool (stays plan w)) [
  | inl keeps ↦ ⊎_elim (λ (is : (w.live.key ≡ k) × (w.live.place ≡ x)). (w, keeps, is.0, is.1)) (λ (more : IsLive k x (filter (stays plan) ws)). kept-stays plan k x ws more) (rw keeps at live)
  | inr drops ↦ kept-stays plan k x ws (rw drops at live)
]

-- ---- a batch

-- a range of so many bytes that is live behind a batch: it lies before the hand, or from the evict mark on
record LiesLive (x n hand evict behind total : ℕ) : Type 0 where
  pub from : ring_start ≤ x
  pub part : (x + n + behind ≤ hand + total) ⊎ (evict ≤ x)

module _ (old new : CursorState) (blocks : List Block) (clears settles : List Act) (end : FeedStop) (w : IsWritten old new blocks clears settles end) (whole : AreWhole blocks) where
  abbrev behind_runs : ℕ
  behind_runs = bytes_of (drop (w.ran.count * most) blocks)

  abbrev total_runs : ℕ
  total_runs = bytes_of blocks + log_len * w.ran.count

  abbrev Lies : (k : Key) (x : ℕ) → Type 0
  Lies k x = LiesLive x k.size w.begun.ring.hand w.begun.ring.evict behind_runs total_runs

  plan-so : LiesSo w.planned.plan (batch_len blocks)
  plan-so = plan-lies old.ring (batch_len blocks) w.planned.plan w.sound w.planned.plan_for

  stayed-lies : (k : Key) (x : ℕ) (v : Written) → v.live.key ≡ k → v.live.place ≡ x → Stays w.planned.plan (range_of v) → Lies k x
  stayed-lies k x v key place (inl lower) =
      let size : v.live.key.size ≡ k.size = ap (λ (j : Key). j.size) key in
      let from = lower.0.begins in
      let to = lower.0.ends in
      let hand : w.begun.ring.hand ≡ w.planned.plan.hand = w.planned.numbers.hand in
      let parts = bytes_split (w.ran.count * most) blocks in
      record { from = omega (arith, from, place); part = inl (omega (arith, to, place, size, hand, parts)) }
  stayed-lies k x v key place (inr upper) =
      let from = upper.0.begins in
      let evict : w.begun.ring.evict ≡ w.planned.plan.evict = w.planned.numbers.evict in
      let start = plan-so.evict in
      record { from = omega (arith, from, place, start); part = inr (omega (arith, from, place, evict)) }

  entry-lies : (k : Key) (x : ℕ) → IsLive k x w.ran.entries → Lies k x
  entry-lies k x live =
      let r = runs-lie w.begun.ring.lap w.begun.ring.hand w.ran.count k x blocks w.ran.sets w.ran.entries w.ran.left w.ran.runs live in
      let from = r.0 in
      let to = r.1 in
      let start = plan-so.hand in
      let hand : w.begun.ring.hand ≡ w.planned.plan.hand = w.planned.numbers.hand in
      record { from = omega (arith, from, start, hand); part = inl to }

  live-lies : (k : Key) (x : ℕ) → IsLive k x new.ring.live → Lies k x
  live-lies k x live = ⊎_elim
      (λ (kept : IsLive k x (filter (stays w.planned.plan) old.ring.live)).
      let v = kept-stays w.planned.plan k x old.ring.live kept in
      stayed-lies k x v.0 v.2 v.3 (stays_tells w.planned.plan (range_of v.0) v.1))
      (λ (entry : IsLive k x w.ran.entries). entry-lies k x entry)
      (live_either k x (filter (stays w.planned.plan) old.ring.live) w.ran.entries (subst (IsLive k x) (live_after w) live))

  module _ (k : Key) (x : ℕ) (lies : Lies k x) where
    -- the run where the device failed lies beside it
    lost-off : (now : CursorState) → now.ring.hand + behind_runs ≡ w.begun.ring.hand + total_runs → 0 < length (drop (w.ran.count * most) blocks) → IsOff x k.size now.ring.hand (bytes_of (take most (drop (w.ran.count * most) blocks)) + log_len)
    lost-off now at some = go lies.part
      where
        go : (x + k.size + behind_runs ≤ w.begun.ring.hand + total_runs) ⊎ (w.begun.ring.evict ≤ x) → IsOff x k.size now.ring.hand (bytes_of (take most (drop (w.ran.count * most) blocks)) + log_len)
        go (inl before) = inl (omega (arith, before, at))
        go (inr after_it) =
            let parts = bytes_split most (drop (w.ran.count * most) blocks) in
            let many : length (drop (w.ran.count * most) blocks) ≡ length blocks - w.ran.count * most = length-drop (w.ran.count * most) blocks in
            let runs : w.ran.count + 1 ≤ runs_of (length blocks) = omega (arith, some, many) in
            let room = plan-so.room in
            let hand : w.begun.ring.hand ≡ w.planned.plan.hand = w.planned.numbers.hand in
            let evict : w.begun.ring.evict ≡ w.planned.plan.evict = w.planned.numbers.evict in
            inr (omega (arith, after_it, at, parts, runs, room, hand, evict))

    last-beside : (e : FeedStop) → LeavesSome e w.ran.left → (now : CursorState) (last : List DeviceCall) → now.ring.hand + behind_runs ≡ w.begun.ring.hand + total_runs → EndCalls e now (take most (drop (w.ran.count * most) blocks)) last → FailBeside x k.size last
    last-beside stop.Done some now last at ends = subst (FailBeside x k.size) (sym ends) tt
    last-beside stop.NoMemory some now last at ends = first-beside x k.size (puts_of now.ring.hand (take most (drop (w.ran.count * most) blocks))) last ends
    last-beside stop.DevFault some now last at (asked, asks, up) =
        let left : 0 < length (drop (w.ran.count * most) blocks) = subst (λ (bs : List Block). 0 < length bs) (runs-left w.begun.ring.lap w.begun.ring.hand w.ran.count blocks w.ran.sets w.ran.entries w.ran.left w.ran.runs) some in
        let run : List Block = take most (drop (w.ran.count * most) blocks) in
        up-beside x k.size asked last (some-beside x k.size now run (whole-front most (drop (w.ran.count * most) blocks) (whole-behind (w.ran.count * most) blocks whole)) lies.from (lost-off now at left) asked asks) up

    its-header : (asked : List Asked) → AsksHeader w.begun asked → AllBeside x k.size asked
    its-header asked header = subst (AllBeside x k.size) (sym header.asked_are) (header-beside x k.size header.sector header.is.is.whole lies.from)

    batch-beside : (calls : List DeviceCall) → BatchCalls w.begun blocks w.ran.count end calls → FailBeside x k.size calls
    batch-beside calls (inl (ended, none, asked, header, up)) = up-beside x k.size asked calls (its-header asked header) up
    batch-beside calls (inr (asked, more, header, runs, is)) =
        let at = runs-hand w.ran.count blocks w.begun runs.now runs.asked runs.whole in
        let last : FailBeside x k.size runs.last = last-beside end w.ran.some runs.now runs.last at runs.ended in
        let rest : FailBeside x k.size more = subst (FailBeside x k.size) (sym runs.calls_are) (two-beside x k.size (all_gave runs.asked) runs.last (gave-beside x k.size runs.asked) last) in
        subst (FailBeside x k.size) (sym is) (two-beside x k.size (all_gave asked) more (gave-beside x k.size asked) rest)

-- ---- a feed

done-not-fault : stop.Done ≡ stop.DevFault → ⊥
done-not-fault is = let clash : stop.Done ≡ stop.DevFault = is in cc

done-not-memory : stop.Done ≡ stop.NoMemory → ⊥
done-not-memory is = let clash : stop.Done ≡ stop.NoMemory = is in cc

-- the calls of a shard that was fed to its end were all done
shard-done : (x n shard : ℕ) (old new : CursorState) (acts : List Act) (calls : List DeviceCall) → FedShard shard old new acts calls stop.Done → FailBeside x n calls
shard-done x n shard old new acts calls (inl f) = subst (FailBeside x n) (sym f.3) tt
shard-done x n shard old new acts calls (inr (inl f)) = absurd (done-not-memory f.2)
shard-done x n shard old new acts calls (inr (inr f)) = go f.written f.asks
  where
    batch-done : (begun : CursorState) (count : ℕ) → BatchCalls begun f.blocks count stop.Done calls → FailBeside x n calls
    batch-done begun count (inl failed) = absurd (done-not-fault failed.0)
    batch-done begun count (inr (asked, more, header, runs, is)) =
        let last : FailBeside x n runs.last = subst (FailBeside x n) (sym runs.ended) tt in
        let rest : FailBeside x n more = subst (FailBeside x n) (sym runs.calls_are) (two-beside x n (all_gave runs.asked) runs.last (gave-beside x n runs.asked) last) in
        subst (FailBeside x n) (sym is) (two-beside x n (all_gave asked) more (gave-beside x n asked) rest)

    go : (written : IsWritten old new f.blocks f.clears f.settles stop.Done ⊎ IsUnwritten old new f.blocks f.clears f.settles stop.Done) → WrittenCalls written calls → FailBeside x n calls
    go (inl w) asks = batch-done w.begun w.ran.count asks
    go (inr u) asks = absurd (done-not-memory u.ended)

shard-beside : (shard : ℕ) (old new : CursorState) (acts : List Act) (calls : List DeviceCall) (end : FeedStop) → FedShard shard old new acts calls end → (k : Key) (x : ℕ) → IsLive k x new.ring.live → FailBeside x k.size calls
shard-beside shard old new acts calls end (inl f) k x live = subst (FailBeside x k.size) (sym f.3) tt
shard-beside shard old new acts calls end (inr (inl f)) k x live = subst (FailBeside x k.size) (sym f.3) tt
shard-beside shard old new acts calls end (inr (inr f)) k x live = go f.written f.asks
  where
    go : (written : IsWritten old new f.blocks f.clears f.settles end ⊎ IsUnwritten old new f.blocks f.clears f.settles end) → WrittenCalls written calls → FailBeside x k.size calls
    go (inl w) asks = batch-beside old new f.blocks f.clears f.settles end w f.whole k x (live-lies old new f.blocks f.clears f.settles end w f.whole k x live) calls asks
    go (inr u) asks = subst (FailBeside x k.size) (sym asks) tt

-- each call that failed lies beside what is live behind the feed
pub fed-beside : (shard count : ℕ) (old new : CursorState) (acts : List Act) (calls : List DeviceCall) (end : FeedStop) → AreFed shard count old new acts calls end → (k : Key) (x : ℕ) → IsLive k x new.ring.live → FailBeside x k.size calls
fed-beside shard zero old new acts calls end fed k x live = subst (FailBeside x k.size) (sym fed.3) tt
fed-beside shard (suc count) old new acts calls end (inl ends) k x live = shard-beside shard old new acts calls end ends.1 k x live
fed-beside shard (suc count) old new acts calls end (inr (first, more, between, front, behind, is, asked, one, rest)) k x live =
    subst (FailBeside x k.size) (sym asked)
    (two-beside x k.size front behind (shard-done x k.size shard old between first front one) (fed-beside (suc shard) count between new more behind end rest k x live))

-- ---- what was written where a place was given

among-front : (c : DeviceCall) (a b : List DeviceCall) → IsAmongCalls c a → IsAmongCalls c (a ++ b)
among-front c [] b among = absurd among
among-front c (d ∷ a) b (inl is) = inl is
among-front c (d ∷ a) b (inr among) = inr (among-front c a b among)

among-behind : (c : DeviceCall) (a b : List DeviceCall) → IsAmongCalls c b → IsAmongCalls c (a ++ b)
among-behind c [] b among = among
among-behind c (d ∷ a) b among = inr (among-behind c a b among)

wrote-front : (x n : ℕ) (a b : List DeviceCall) → WroteIn x n a → WroteIn x n (a ++ b)
wrote-front x n a b (bytes, long, among) = (bytes, long, among-front (answered Gave (Write x bytes)) a b among)

wrote-behind : (x n : ℕ) (a b : List DeviceCall) → WroteIn x n b → WroteIn x n (a ++ b)
wrote-behind x n a b (bytes, long, among) = (bytes, long, among-behind (answered Gave (Write x bytes)) a b among)

-- calls of which each was done
gave-two : (a b : List Asked) → all_gave (a ++ b) ≡ all_gave a ++ all_gave b
gave-two a b = map-append (answered Gave) a b

wrote-first : (x n : ℕ) (a b : List Asked) → WroteIn x n (all_gave a) → WroteIn x n (all_gave (a ++ b))
wrote-first x n a b wrote = subst (WroteIn x n) (sym (gave-two a b)) (wrote-front x n (all_gave a) (all_gave b) wrote)

wrote-rest : (x n : ℕ) (a b : List Asked) → WroteIn x n (all_gave b) → WroteIn x n (all_gave (a ++ b))
wrote-rest x n a b wrote = subst (WroteIn x n) (sym (gave-two a b)) (wrote-behind x n (all_gave a) (all_gave b) wrote)

wrote-more : (x n : ℕ) (c : DeviceCall) (cs : List DeviceCall) → WroteIn x n cs → WroteIn x n (c ∷ cs)
wrote-more x n c cs (bytes, long, among) = (bytes, long, inr among)

set-wrote : (place : ℕ) (k : Key) (x : ℕ) (bs : List Block) (acts : List Act) → AreWhole bs → AreSet place bs acts → IsAmongActs (Placed k x) acts → WroteIn x k.size (all_gave (puts_of place bs))
set-wrote place k x [] [] whole are among = absurd among
set-wrote place k x (b ∷ bs) (Placed j y ∷ acts) whole are (inl is) =
    let key : b.key ≡ k = sym are.0.0 ∙ ap (λ (a : Act). key_in a) is in
    let at : place ≡ x = sym are.0.1 ∙ ap (λ (a : Act). place_in a) is in
    (b.block.value, whole.0.1 ∙ ap (λ (i : Key). i.size) key, inl (λ i. answered Gave (Write (at i) b.block.value)))
set-wrote place k x (b ∷ bs) (Placed j y ∷ acts) whole are (inr among) = wrote-more x k.size (answered Gave (Write place b.block.value)) (all_gave (puts_of (place + b.key.size) bs)) (set-wrote (place + b.key.size) k x bs acts whole.1 are.1 among)
set-wrote place k x (b ∷ bs) (Left j w ∷ acts) whole are (inl is) = cc
set-wrote place k x (b ∷ bs) (Left j w ∷ acts) whole are (inr among) = wrote-more x k.size (answered Gave (Write place b.block.value)) (all_gave (puts_of (place + b.key.size) bs)) (set-wrote (place + b.key.size) k x bs acts whole.1 are.1 among)
set-wrote place k x [] (a ∷ acts) whole are among = absurd are
set-wrote place k x (b ∷ bs) [] whole are among = absurd are
set-wrote place k x (b ∷ bs) (other ∷ acts) whole are among = absurd are

runs-wrote : (lap hand count : ℕ) (k : Key) (x : ℕ) (bs : List Block) (acts : List Act) (ws : List Written) (left : List Block) (old now : CursorState) (asked : List Asked) → AreWhole bs → AreRuns lap hand count bs acts ws left → old.ring.hand ≡ hand
    → AskRuns count bs old now asked → IsAmongActs (Placed k x) acts → WroteIn x k.size (all_gave asked)
runs-wrote lap hand zero k x bs acts ws left old now asked whole are at asks among = absurd (subst (IsAmongActs (Placed k x)) are.0 among)
runs-wrote lap hand (suc count) k x bs acts ws left old now asked whole (some, sets, more, behind, is, entries, set, rest) at (next, first, later, asked_are, put, asks, others) among =
    let run : List Block = take most bs in
    let hand_then : next.ring.hand ≡ hand + (bytes_of run + log_len) = put.hand ∙ ap (λ (y : ℕ). y + (bytes_of run + log_len)) at in
    let puts : List Asked = puts_of old.ring.hand run in
    subst (λ (l : List Asked). WroteIn x k.size (all_gave l)) (sym asked_are)
    (⊎_elim
    (λ (here : IsAmongActs (Placed k x) sets).
    let wrote : WroteIn x k.size (all_gave puts) = subst (λ (y : ℕ). WroteIn x k.size (all_gave (puts_of y run))) (sym at) (set-wrote hand k x run sets (whole-front most bs whole) set here) in
    let log : WroteIn x k.size (all_gave asks.front) = subst (λ (l : List Asked). WroteIn x k.size (all_gave l)) (sym asks.log.asked_are) (wrote-first x k.size puts (log_calls (old.ring.hand + bytes_of run) asks.log.log.bytes) wrote) in
    wrote-first x k.size first later (subst (λ (l : List Asked). WroteIn x k.size (all_gave l)) (sym asks.asked_are) (wrote-first x k.size asks.front (header_calls asks.sector) log)))
    (λ (there : IsAmongActs (Placed k x) more).
    wrote-rest x k.size first later (runs-wrote lap (hand + (bytes_of run + log_len)) count k x (drop most bs) more behind left next now later (whole-behind most bs whole) rest hand_then others there))
    (in_either (Placed k x) sets more (subst (IsAmongActs (Placed k x)) is among)))

none-among : (a : Act) (k : Key) (x : ℕ) → (a ≡ Placed k x → ⊥) → IsAmongActs (Placed k x) (a ∷ []) → ⊥
none-among a k x not (inl is) = not is
none-among a k x not (inr among) = among

not-placed : (shard : ℕ) (bs : List Block) (k : Key) (x : ℕ) → Picked shard bs ≡ Placed k x → ⊥
not-placed shard bs k x is = cc

module _ (shard : ℕ) (old new : CursorState) (acts : List Act) (calls : List DeviceCall) (end : FeedStop) (f : FedBatch shard old new acts calls end) (k : Key) (x : ℕ) where
  -- by the runs of a batch that was written
  written-wrote : (w : IsWritten old new f.blocks f.clears f.settles end) → BatchCalls w.begun f.blocks w.ran.count end calls → IsAmongActs (Placed k x) w.ran.sets → WroteIn x k.size calls
  written-wrote w (inl (ended, none, asked, header, up)) set =
      let runs : AreRuns w.begun.ring.lap w.begun.ring.hand 0 f.blocks w.ran.sets w.ran.entries w.ran.left = subst (λ (n : ℕ). AreRuns w.begun.ring.lap w.begun.ring.hand n f.blocks w.ran.sets w.ran.entries w.ran.left) none w.ran.runs in
      absurd (subst (IsAmongActs (Placed k x)) runs.0 set)
  written-wrote w (inr (asked, more, header, runs, is)) set =
      let wrote : WroteIn x k.size (all_gave runs.asked) = runs-wrote w.begun.ring.lap w.begun.ring.hand w.ran.count k x f.blocks w.ran.sets w.ran.entries w.ran.left w.begun runs.now runs.asked f.whole w.ran.runs refl runs.whole set in
      let rest : WroteIn x k.size more = subst (WroteIn x k.size) (sym runs.calls_are) (wrote-front x k.size (all_gave runs.asked) runs.last wrote) in
      subst (WroteIn x k.size) (sym is) (wrote-behind x k.size (all_gave asked) more rest)

  batch-wrote : IsAmongActs (Placed k x) acts → WroteIn x k.size calls
  batch-wrote among = go f.written f.asks (subst (IsAmongActs (Placed k x)) f.acts_are among)
    where
      settled : (w : IsWritten old new f.blocks f.clears f.settles end) → BatchCalls w.begun f.blocks w.ran.count end calls → IsAmongActs (Placed k x) f.clears ⊎ IsAmongActs (Placed k x) f.settles → WroteIn x k.size calls
      settled w asks (inl clear) = absurd (clears_give_none k x _ f.clears w.cleared clear)
      settled w asks (inr settle) = ⊎_elim
          (λ (set : IsAmongActs (Placed k x) w.ran.sets). written-wrote w asks set)
          (λ (leave : IsAmongActs (Placed k x) w.ran.leaves). absurd (lefts_give_none (why_of end) k x w.ran.left w.ran.leaves w.ran.lefts leave))
          (in_either (Placed k x) w.ran.sets w.ran.leaves (subst (IsAmongActs (Placed k x)) w.ran.settled settle))

      unsettled : (u : IsUnwritten old new f.blocks f.clears f.settles end) → IsAmongActs (Placed k x) f.clears ⊎ IsAmongActs (Placed k x) f.settles → ⊥
      unsettled u (inl clear) = subst (IsAmongActs (Placed k x)) u.none clear
      unsettled u (inr settle) = lefts_give_none _ k x f.blocks f.settles u.lefts settle

      go : (written : IsWritten old new f.blocks f.clears f.settles end ⊎ IsUnwritten old new f.blocks f.clears f.settles end) → WrittenCalls written calls → IsAmongActs (Placed k x) (Picked shard f.blocks ∷ (f.clears ++ f.settles)) → WroteIn x k.size calls
      go written asks (inl is) = absurd (not-placed shard f.blocks k x is)
      go (inl w) asks (inr more) = settled w asks (in_either (Placed k x) f.clears f.settles more)
      go (inr u) asks (inr more) = absurd (unsettled u (in_either (Placed k x) f.clears f.settles more))

shard-wrote : (shard : ℕ) (old new : CursorState) (acts : List Act) (calls : List DeviceCall) (end : FeedStop) → FedShard shard old new acts calls end → (k : Key) (x : ℕ) → IsAmongActs (Placed k x) acts → WroteIn x k.size calls
shard-wrote shard old new acts calls end (inl f) k x among = absurd (none-among (Picked shard []) k x (λ is. cc) (subst (IsAmongActs (Placed k x)) f.0 among))
shard-wrote shard old new acts calls end (inr (inl f)) k x among = absurd (none-among (Unpicked shard) k x (λ is. cc) (subst (IsAmongActs (Placed k x)) f.0 among))
shard-wrote shard old new acts calls end (inr (inr f)) k x among = batch-wrote shard old new acts calls end f k x among

-- where a feed gave a key a place it wrote as many bytes there as the key's block has
pub fed-wrote : (shard count : ℕ) (old new : CursorState) (acts : List Act) (calls : List DeviceCall) (end : FeedStop) → AreFed shard count old new acts calls end → (k : Key) (x : ℕ) → IsAmongActs (Placed k x) acts → WroteIn x k.size calls
fed-wrote shard zero old new acts calls end fed k x among = absurd (subst (IsAmongActs (Placed k x)) fed.0 among)
fed-wrote shard (suc count) old new acts calls end (inl ends) k x among = shard-wrote shard old new acts calls end ends.1 k x among
fed-wrote shard (suc count) old new acts calls end (inr (first, more, between, front, behind, is, asked, one, rest)) k x among =
    subst (WroteIn x k.size) (sym asked)
    (⊎_elim
    (λ (here : IsAmongActs (Placed k x) first). wrote-front x k.size front behind (shard-wrote shard old between first front stop.Done one k x here))
    (λ (there : IsAmongActs (Placed k x) more). wrote-behind x k.size front behind (fed-wrote (suc shard) count between new more behind end rest k x there))
    (in_either (Placed k x) first more (subst (IsAmongActs (Placed k x)) is among)))
