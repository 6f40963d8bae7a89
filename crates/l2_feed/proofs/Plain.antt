-- That a feed of a party which meets nobody is the plain one.
use Rattle.std.proofs.Common.{◌≡◌, ◌≢◌, ◌⊎◌, ℕ, zero, suc, ◌+◌, ◌*◌, ◌<◌, ◌≤◌, Bool, true, false, not, List, [], ◌∷◌, ◌++◌, length, map, take, drop, Some, inl, inr, refl, sym, ap, ◌∙◌, subst, arith, append_assoc, append-nil, length-append, cond}
use Rattle.std.specs.Prelude.{if◌then◌else◌, ◌==◌, count_by, sum_by}
use Rattle.std.specs.List.{filter}
use Rattle.std.proofs.lemmas.List.{drop-map, length-map, map-append, take-map}
use Rattle.std.proofs.lemmas.Bool.{cases_lt, le-leb, lt-leb}
use Rattle.std.proofs.lemmas.List.Sums.{sum_by-append, sum_by-cons}
use Rattle.vdev_io.specs.Calls.{Asked, Call, DeviceCall, Failed, Gave, answered}
use Rattle.blk_ptr.specs.declared.key.Key.{Key}
use Rattle.blk_ptr.specs.Hash.{shard_of}
use Rattle.blk_ptr.specs.Ptr.{sha256_of}
use Rattle.arc_core.specs.declared.config.Config.{Config}
use Rattle.arc_core.specs.declared.entry.Picked.{Picked as Pick_of}
use Rattle.arc_core.specs.declared.event.Event.{Event}
use Rattle.arc_core.specs.declared.event.Event.TheVariants as event
use Rattle.arc_core.specs.declared.event.Why.{Why}
use Rattle.arc_core.specs.declared.event.Why.TheVariants as why
use Rattle.arc_core.specs.PlainShard.{PlainShard}
use Rattle.arc_core.specs.Replay.{replay}
use Rattle.arc_core.specs.Step.{is_gone, may_set}
use Rattle.arc_table.specs.declared.picks.Picked.{Picked as Block}
use Rattle.arc_table.specs.feeder.Feeding.{has_place}
use Rattle.l2_log.specs.Rules.{log_len}
use Rattle.l2_ring.specs.declared.live.Live.{Live}
use Rattle.l2_ring.specs.declared.live.Written.{Written}
use Rattle.l2_ring.specs.declared.plan.Plan.{Plan}
use Rattle.l2_ring.specs.Ring.{IsPlanFor, RingState}
use Rattle.l2_ring.specs.Stays.{falls, live_of}
use Rattle.l2_dev.specs.declared.report.FeedReport.{FeedReport}
use Rattle.l2_dev.specs.declared.report.FeedStop.{FeedStop}
use Rattle.l2_dev.specs.declared.report.FeedStop.TheVariants as stop
use Rattle.l2_dev.specs.Asking.{header_calls, log_calls}
use Rattle.l2_dev.specs.Cursor.{CursorState}
use Rattle.l2_feed.specs.Acts.{Act, Absent, Cleared, Left, Picked, Placed, Refused, Unpicked, keys_of}
use Rattle.l2_feed.specs.Alone.{AreOfShards, pick_of_block, picks_from, shards_after}
use Rattle.l2_feed.specs.Asking.{AskRuns, AsksLog, AsksRun, AsksSome, BatchCalls, EndCalls, UpToFailed, all_gave, puts_of}
use Rattle.l2_feed.specs.Plain.{IsPlainFeed, PlainFed, Settled, Standing, all_after, all_done, answers_behind, answers_of, bare, batch_from, batch_if_some, clears_of, entries_of, fed_from, is_clear, is_set, leaves_of, left_all, nothing_more, picked_by, picking_events, plan_for, report_of, runs_from, sets_of, shard_from, size_of, then_fed, told_of, unless_ended, with_plan, with_run}
use Rattle.l2_feed.specs.Runs.{AreCleared, AreLeft, AreRuns, AreSet, batch_len, bytes_of, most, row_of, run_place, runs_of}
use Rattle.l2_feed.specs.Shape.{AreFed, FedBatch, FedShard, HaveRun, IsUnwritten, IsWritten, LeavesSome, NoneRefused, WrittenCalls, why_of}
use Rattle.l2_feed.specs.Told.{events_of, shard_of_act}
use Rattle.l2_feed.specs.Sums.{IsSummary, is_cleared, is_placed, picked_in}
use Rattle.l2_feed.proofs.Counting.{cleared-append, placed-append}
use Rattle.l2_feed.proofs.Lists.{bytes_cons, bytes_split}
use Rattle.l2_feed.proofs.Running.{drop_more, no_runs, runs_behind}
use Rattle.l2_feed.proofs.Writing.{length-take-drop, some_front}

abbrev picks_of : List Block → List Pick_of
picks_of blocks = map pick_of_block blocks

-- ---- the device's answers

same_pred : (m n : ℕ) → suc m ≡ suc n → m ≡ n
same_pred m n is = omega arith

-- calls that were all done
gave : (asked : List Asked) (k : ℕ) (later : List Call) → length asked ≡ k → (all_done k (answers_of (all_gave asked) ++ later) ≡ true) × (answers_behind k (answers_of (all_gave asked) ++ later) ≡ later)
gave [] zero later is = (refl, refl)
gave [] (suc k) later is = absurd (omega arith)
gave (a ∷ asked) zero later is = absurd (omega arith)
gave (a ∷ asked) (suc k) later is = gave asked k later (same_pred (length asked) k is)

-- and calls of which the last one failed
failed : (done : List Asked) (f : Asked) (k : ℕ) (later : List Call) → length done < k
    → (all_done k (answers_of (all_gave done ++ answered Failed f ∷ []) ++ later) ≡ false) × (answers_behind k (answers_of (all_gave done ++ answered Failed f ∷ []) ++ later) ≡ later)
failed done f zero later few = absurd (omega arith)
failed [] f (suc k) later few = (refl, refl)
failed (a ∷ done) f (suc k) later few = failed done f k later (omega arith)

up_failed : (asked : List Asked) (calls : List DeviceCall) (k : ℕ) (later : List Call) → UpToFailed asked calls → length asked ≤ k → (all_done k (answers_of calls ++ later) ≡ false) × (answers_behind k (answers_of calls ++ later) ≡ later)
up_failed asked calls k later up few =
    let n = ap length up.whole ∙ length-append up.done (up.failed ∷ up.left) in
    subst (λ (l : List DeviceCall). (all_done k (answers_of l ++ later) ≡ false) × (answers_behind k (answers_of l ++ later) ≡ later)) (sym up.calls_are)
    (failed up.done up.failed k later (omega arith))

puts_many : (place : ℕ) (bs : List Block) → length (puts_of place bs) ≡ length bs
puts_many place [] = refl
puts_many place (b ∷ bs) = let e = puts_many (place + b.key.size) bs in omega arith

log_many : (cursor : CursorState) (run : List Block) (asked : List Asked) → AsksLog cursor run asked → length asked ≡ length run + 2
log_many cursor run asked log =
    let n = ap length log.asked_are ∙ length-append (puts_of cursor.ring.hand run) (log_calls (cursor.ring.hand + bytes_of run) log.log.bytes) in
    let p = puts_many cursor.ring.hand run in
    omega arith

run_many : (cursor : CursorState) (run : List Block) (asked : List Asked) → AsksRun cursor run asked → length asked ≡ length run + 4
run_many cursor run asked r =
    let n = ap length r.asked_are ∙ length-append r.front (header_calls r.sector) in
    let l = log_many cursor run r.front r.log in
    omega arith

some_many : (cursor : CursorState) (run : List Block) (asked : List Asked) → AsksSome cursor run asked → length asked ≤ length run + 4
some_many cursor run asked (inl is) = let n = ap length is in let p = puts_many cursor.ring.hand run in omega arith
some_many cursor run asked (inr (inl log)) = let n = log_many cursor run asked log in omega arith
some_many cursor run asked (inr (inr r)) = let n = run_many cursor run asked r in omega arith

pub answers_two : (a b : List DeviceCall) (later : List Call) → answers_of (a ++ b) ++ later ≡ answers_of a ++ (answers_of b ++ later)
answers_two a b later = ap (λ (l : List Call). l ++ later) (map-append (λ (c : DeviceCall). c.answer) a b) ∙ append_assoc (answers_of a) (answers_of b) later

-- ---- acts

module _ (g : Config) (n : ℕ) where
  pub after_two : (s : ℕ → PlainShard) (a b : List Act) → all_after g n s (a ++ b) ≡ all_after g n (all_after g n s a) b
  after_two s [] b = refl
  after_two s (x ∷ a) b = after_two (shards_after g n s x) a b

  pub of_two : (s : ℕ → PlainShard) (a b : List Act) → AreOfShards g n s (a ++ b) → AreOfShards g n s a × AreOfShards g n (all_after g n s a) b
  of_two s [] b are = (tt, are)
  of_two s (x ∷ a) b are = let r = of_two (shards_after g n s x) a b are.1 in ((are.0, r.0), r.1)

  -- one act, and then those that follow it
  act_first : (a b : Act) (acts : List Act) (rest : Act → List Act) → a ≡ b → acts ≡ rest a → a ∷ acts ≡ b ∷ rest b
  act_first a b acts rest is more = ap (λ (l : List Act). a ∷ l) more ∙ ap (λ (x : Act). x ∷ rest x) is

  abbrev there : (ℕ → PlainShard) → Key → PlainShard
  there s k = s (shard_of g.shards k)

  clears_are : (s : ℕ → PlainShard) (ls : List Live) (acts : List Act) → AreCleared ls acts → NoneRefused acts → AreOfShards g n s acts → acts ≡ clears_of g n s ls
  clears_are s [] [] are none of = refl
  clears_are s [] (a ∷ acts) are none of = absurd are
  clears_are s (l ∷ ls) [] are none of = absurd are
  clears_are s (l ∷ ls) (Cleared k x ∷ acts) are none of =
      let has : has_place l.place l.key (there s l.key) ≡ true = subst (λ (z : ℕ × Key). has_place z.0 z.1 (there s z.1) ≡ true) (λ i. (are.0.1 i, are.0.0 i)) of.0 in
      rw has (act_first (Cleared k x) (Cleared l.key l.place) acts (λ act. clears_of g n (shards_after g n s act) ls) (λ i. Cleared (are.0.0 i) (are.0.1 i)) (clears_are (shards_after g n s (Cleared k x)) ls acts are.1 none.1 of.1))
  clears_are s (l ∷ ls) (Absent k x ∷ acts) are none of =
      let has : has_place l.place l.key (there s l.key) ≡ false = subst (λ (z : ℕ × Key). has_place z.0 z.1 (there s z.1) ≡ false) (λ i. (are.0.1 i, are.0.0 i)) of.0 in
      rw has (act_first (Absent k x) (Absent l.key l.place) acts (λ act. clears_of g n (shards_after g n s act) ls) (λ i. Absent (are.0.0 i) (are.0.1 i)) (clears_are (shards_after g n s (Absent k x)) ls acts are.1 none.1 of.1))
  clears_are s (l ∷ ls) (Refused k x ∷ acts) are none of = absurd (none.0 tt)
  clears_are s (l ∷ ls) (Picked i bs ∷ acts) are none of = absurd are
  clears_are s (l ∷ ls) (Unpicked i ∷ acts) are none of = absurd are
  clears_are s (l ∷ ls) (Placed k x ∷ acts) are none of = absurd are
  clears_are s (l ∷ ls) (Left k w ∷ acts) are none of = absurd are

  sets_are : (s : ℕ → PlainShard) (place : ℕ) (bs : List Block) (acts : List Act) → AreSet place bs acts → AreOfShards g n s acts → acts ≡ sets_of g n s place (picks_of bs)
  sets_are s place [] [] are of = refl
  sets_are s place [] (a ∷ acts) are of = absurd are
  sets_are s place (b ∷ bs) [] are of = absurd are
  sets_are s place (b ∷ bs) (Placed k x ∷ acts) are of =
      let may : may_set b.key (there s b.key) ≡ true = subst (λ (z : Key). may_set z (there s z) ≡ true) are.0.0 of.0 in
      rw may (act_first (Placed k x) (Placed b.key place) acts (λ act. sets_of g n (shards_after g n s act) (place + b.key.size) (picks_of bs)) (λ i. Placed (are.0.0 i) (are.0.1 i))
      (sets_are (shards_after g n s (Placed k x)) (place + b.key.size) bs acts are.1 of.1))
  sets_are s place (b ∷ bs) (Left k w ∷ acts) are of =
      let may : may_set b.key (there s b.key) ≡ false = is_false (may_set b.key (there s b.key)) (subst (λ (z : Why × Key). is_gone z.0 ≡ not (may_set z.1 (there s z.1))) (λ i. (are.0.1 i, are.0.0 i)) of.0) in
      rw may (act_first (Left k w) (Left b.key why.Gone) acts (λ act. sets_of g n (shards_after g n s act) (place + b.key.size) (picks_of bs)) (λ i. Left (are.0.0 i) (are.0.1 i))
      (sets_are (shards_after g n s (Left k w)) (place + b.key.size) bs acts are.1 of.1))
    where
      is_false : (t : Bool) → true ≡ not t → t ≡ false
      is_false false is = refl
      is_false true is = cc
  sets_are s place (b ∷ bs) (Picked i cs ∷ acts) are of = absurd are
  sets_are s place (b ∷ bs) (Unpicked i ∷ acts) are of = absurd are
  sets_are s place (b ∷ bs) (Cleared k x ∷ acts) are of = absurd are
  sets_are s place (b ∷ bs) (Absent k x ∷ acts) are of = absurd are
  sets_are s place (b ∷ bs) (Refused k x ∷ acts) are of = absurd are

  -- the reason of a key that is left
  reason_is : (may : Bool) (w : Why) → (w ≡ why.Device) ⊎ (w ≡ why.Gone) → is_gone w ≡ not may → w ≡ (if may then why.Device else why.Gone)
  reason_is true w (inl is) gone = is
  reason_is true w (inr is) gone = let e = ap is_gone is in cc
  reason_is false w (inl is) gone = let e = ap is_gone is in cc
  reason_is false w (inr is) gone = is

  leaves_are : (s : ℕ → PlainShard) (bs : List Block) (acts : List Act) → AreLeft why.Device bs acts → AreOfShards g n s acts → acts ≡ leaves_of g n s (picks_of bs)
  leaves_are s [] [] are of = refl
  leaves_are s [] (a ∷ acts) are of = absurd are
  leaves_are s (b ∷ bs) [] are of = absurd are
  leaves_are s (b ∷ bs) (Left k w ∷ acts) are of =
      let reason : w ≡ (if may_set b.key (there s b.key) then why.Device else why.Gone) = reason_is (may_set b.key (there s b.key)) w are.0.1 (subst (λ (z : Key). is_gone w ≡ not (may_set z (there s z))) are.0.0 of.0) in
      act_first (Left k w) (Left b.key (if may_set b.key (there s b.key) then why.Device else why.Gone)) acts (λ act. leaves_of g n (shards_after g n s act) (picks_of bs)) (λ i. Left (are.0.0 i) (reason i))
      (leaves_are (shards_after g n s (Left k w)) bs acts are.1 of.1)
  leaves_are s (b ∷ bs) (Placed k x ∷ acts) are of = absurd are
  leaves_are s (b ∷ bs) (Picked i cs ∷ acts) are of = absurd are
  leaves_are s (b ∷ bs) (Unpicked i ∷ acts) are of = absurd are
  leaves_are s (b ∷ bs) (Cleared k x ∷ acts) are of = absurd are
  leaves_are s (b ∷ bs) (Absent k x ∷ acts) are of = absurd are
  leaves_are s (b ∷ bs) (Refused k x ∷ acts) are of = absurd are

  none_left : (bs : List Block) (w : Why) (acts : List Act) → bs ≡ [] → AreLeft w bs acts → acts ≡ []
  none_left [] w [] is are = refl
  none_left [] w (a ∷ acts) is are = absurd are
  none_left (b ∷ bs) w acts is are = cc

-- ---- the ring

sizes_are : (bs : List Block) → size_of (picks_of bs) ≡ bytes_of bs
sizes_are [] = refl
sizes_are (b ∷ bs) = sum_by-cons (λ (x : Pick_of). x.key.size) (pick_of_block b) (picks_of bs) ∙ (ap (λ (k : ℕ). b.key.size + k) (sizes_are bs) ∙ sym (bytes_cons b bs))

entries_are : (lap place : ℕ) (bs : List Block) → entries_of lap place (picks_of bs) ≡ row_of lap place bs
entries_are lap place [] = refl
entries_are lap place (b ∷ bs) = ap (λ (ws : List Written). record { live = record { key = b.key; place = place; digest = Some (sha256_of b.block.value) }; lap = lap } ∷ ws) (entries_are lap (place + b.key.size) bs)

pub plan_is : (ring : RingState) (k : ℕ) (plan : Plan) → IsPlanFor ring k plan → plan ≡ plan_for (bare ring) k
plan_is ring k plan is = elim (cases_lt ring.end (ring.hand + k)) [
  | inl far ↦ rw (lt-leb (ring.hand + k) ring.end far) (is.wrapped far)
  | inr near ↦ let le : ring.hand + k ≤ ring.end = omega arith in rw (le-leb (ring.hand + k) ring.end le) (is.straight le)
]

-- ---- run after run

-- what was settled, with the ring as this one, but for its hand and what is live
abbrev settled_as : Config → (n : ℕ) → (ℕ → PlainShard) → RingState → List Call → FeedStop → (acts : List Act) → (hand : ℕ) → List Written → Settled
settled_as g n s ring later end acts hand live = record { acts = acts; at = record { shards = all_after g n s acts; ring = record ring { hand = hand; live = live }; answers = later }; end = end }

run_length : (bs : List Block) → length (take most (picks_of bs)) ≡ length (take most bs)
run_length bs = ap length (take-map pick_of_block most bs) ∙ length-map (take most bs) pick_of_block

beyond : (count : ℕ) (bs : List Block) → drop (suc count * most) bs ≡ drop (count * most) (drop most bs)
beyond count bs = ap (λ (k : ℕ). drop k bs) (let e : suc count * most ≡ most + count * most = omega arith in e) ∙ sym (drop_more most (count * most) bs)

module _ (g : Config) (n : ℕ) where
  none_from : (runs : ℕ) (st : Standing) → runs_from g n runs [] st ≡ nothing_more st
  none_from zero st = refl
  none_from (suc runs) st = refl

  -- the first run was lost, or there is none
  first_lost : (runs : ℕ) (blocks : List Block) (now : CursorState) (leaves : List Act) (last : List DeviceCall) (end : FeedStop) (s : ℕ → PlainShard) (ring : RingState) (later answers : List Call)
      → length blocks ≤ runs → end ≢ stop.NoMemory → EndCalls end now (take most blocks) last → AreLeft (why_of end) blocks leaves → LeavesSome end blocks → AreOfShards g n s leaves → answers ≡ answers_of last ++ later
      → runs_from g n runs (picks_of blocks) record { shards = s; ring = ring; answers = answers } ≡ settled_as g n s ring later end leaves ring.hand ring.live
  first_lost runs blocks now leaves last stop.NoMemory s ring later answers few ended calls left some of is = absurd (ended refl)
  first_lost runs [] now leaves last stop.Done s ring later answers few ended calls left some of is =
      none_from runs record { shards = s; ring = ring; answers = answers }
      ∙ ap (λ (x : List Act × List Call). settled_as g n s ring x.1 stop.Done x.0 ring.hand ring.live)
      (λ i. (sym (none_left g n [] (why_of stop.Done) leaves refl left) i, (is ∙ ap (λ (l : List DeviceCall). answers_of l ++ later) calls) i))
  first_lost runs (b ∷ bs) now leaves last stop.Done s ring later answers few ended calls left some of is = cc
  first_lost runs [] now leaves last stop.DevFault s ring later answers few ended calls left some of is = absurd (omega arith)
  first_lost zero (b ∷ bs) now leaves last stop.DevFault s ring later answers few ended calls left some of is = absurd (omega arith)
  first_lost (suc runs) (b ∷ bs) now leaves last stop.DevFault s ring later answers few ended (asked, asks, up) left some of is =
      let k = length (take most (picks_of (b ∷ bs))) + 4 in
      let fits : length asked ≤ k = (let m = some_many now (take most (b ∷ bs)) asked asks in let l = run_length (b ∷ bs) in omega arith) in
      let f = up_failed asked last k later up fits in
      let none : all_done k answers ≡ false = ap (all_done k) is ∙ f.0 in
      let behind : answers_behind k answers ≡ later = ap (answers_behind k) is ∙ f.1 in
      rw none (ap (λ (x : List Act × List Call). settled_as g n s ring x.1 stop.DevFault x.0 ring.hand ring.live) (λ i. (sym (leaves_are g n s (b ∷ bs) leaves left of) i, behind i)))

  runs_are : (runs count : ℕ) (blocks : List Block) (old now : CursorState) (sets : List Act) (entries : List Written) (left : List Block) (leaves : List Act) (asked : List Asked) (last : List DeviceCall) (end : FeedStop) (s : ℕ → PlainShard)
      (ring : RingState) (later answers : List Call) → length blocks ≤ runs → end ≢ stop.NoMemory → AreRuns ring.lap ring.hand count blocks sets entries left → AskRuns count blocks old now asked
      → EndCalls end now (take most (drop (count * most) blocks)) last → AreLeft (why_of end) left leaves → LeavesSome end left → AreOfShards g n s (sets ++ leaves) → answers ≡ answers_of (all_gave asked) ++ (answers_of last ++ later)
      → runs_from g n runs (picks_of blocks) record { shards = s; ring = ring; answers = answers } ≡ settled_as g n s ring later end (sets ++ leaves) (run_place ring.hand count blocks) (ring.live ++ entries)
  runs_are runs zero blocks old now sets entries left leaves asked last end s ring later answers few ended are asks calls lefts some of is =
      let acts : sets ++ leaves ≡ leaves = ap (λ (l : List Act). l ++ leaves) are.0 in
      first_lost runs blocks now leaves last end s ring later answers few ended calls (subst (λ (bs : List Block). AreLeft (why_of end) bs leaves) are.2 lefts) (subst (LeavesSome end) are.2 some) (subst (AreOfShards g n s) acts of)
      (is ∙ ap (λ (l : List Asked). answers_of (all_gave l) ++ (answers_of last ++ later)) asks.1)
      ∙ ap (λ (x : List Act × (ℕ × List Written)). settled_as g n s ring later end x.0 x.1.0 x.1.1)
      (λ i. (sym acts i, (sym (no_runs ring.hand blocks) i, (sym (append-nil ring.live) ∙ ap (λ (ws : List Written). ring.live ++ ws) (sym are.1)) i)))
  runs_are zero (suc count) blocks old now sets entries left leaves asked last end s ring later answers few ended (there, sets1, more, ws, acts, rows, set, rest) asks calls lefts some of is = absurd (omega arith)
  runs_are (suc runs) (suc count) [] old now sets entries left leaves asked last end s ring later answers few ended (there, sets1, more, ws, acts, rows, set, rest) asks calls lefts some of is = absurd (omega arith)
  runs_are (suc runs) (suc count) (b ∷ bs) old now sets entries left leaves asked last end s ring later answers few ended (there, sets1, more, ws, acts, rows, set, rest) (next, first, others, whole, wrote, run_asks, rest_asks) calls lefts some of is =
      let blocks : List Block = b ∷ bs in
      let run : List Block = take most blocks in
      let k = length (take most (picks_of blocks)) + 4 in
      let tail : List Call = answers_of (all_gave others) ++ (answers_of last ++ later) in
      let all : sets ++ leaves ≡ sets1 ++ (more ++ leaves) = ap (λ (l : List Act). l ++ leaves) acts ∙ append_assoc sets1 more leaves in
      let cut = of_two g n s sets1 (more ++ leaves) (subst (AreOfShards g n s) all of) in
      let splits : answers ≡ answers_of (all_gave first) ++ tail =
      is ∙ (ap (λ (l : List DeviceCall). answers_of l ++ (answers_of last ++ later)) (ap all_gave whole ∙ map-append (answered Gave) first others) ∙ answers_two (all_gave first) (all_gave others) (answers_of last ++ later)) in
      let fits : length first ≡ k = (let m = run_many old run first run_asks in let l = run_length blocks in omega arith) in
      let f = gave first k tail fits in
      let yes : all_done k answers ≡ true = ap (all_done k) splits ∙ f.0 in
      let behind : answers_behind k answers ≡ tail = ap (answers_behind k) splits ∙ f.1 in
      let less : length (drop most blocks) ≤ runs = (let e = length-take-drop most blocks in let o = some_front 680 blocks there in omega arith) in
      let sets_is : sets1 ≡ sets_of g n s ring.hand (picks_of run) = sets_are g n s ring.hand run sets1 set cut.0 in
      let ring1 : RingState = with_run ring (picks_of run) in
      let hand1 : ring.hand + (bytes_of run + log_len) ≡ ring1.hand = ap (λ (x : ℕ). ring.hand + (x + log_len)) (sym (sizes_are run)) in
      let ih = runs_are runs count (drop most blocks) next now more ws left leaves others last end (all_after g n s sets1) ring1 later tail less ended
      (subst (λ (h : ℕ). AreRuns ring.lap h count (drop most blocks) more ws left) hand1 rest) rest_asks (subst (λ (l : List Block). EndCalls end now (take most l) last) (beyond count blocks) calls) lefts some cut.1 refl in
      let with_sets : (r d : List Pick_of) (a : List Call) (sets2 : List Act) → Settled = λ r d a sets2.
      let m = runs_from g n runs d record { shards = all_after g n s sets2; ring = with_run ring r; answers = a } in record { acts = sets2 ++ m.acts; at = m.at; end = m.end } in
      let hand2 : run_place ring1.hand count (drop most blocks) ≡ run_place ring.hand (suc count) blocks =
      (let a = runs_behind ring1.hand count (drop most blocks) in let c = runs_behind ring.hand (suc count) blocks in let d = ap bytes_of (beyond count blocks) in let e = bytes_split most blocks in let h = hand1 in omega arith) in
      let live2 : ring1.live ++ ws ≡ ring.live ++ entries =
      append_assoc ring.live (entries_of ring.lap ring.hand (picks_of run)) ws ∙ ap (λ (l : List Written). ring.live ++ l) (ap (λ (l : List Written). l ++ ws) (entries_are ring.lap ring.hand run) ∙ sym rows) in
      let shards2 : all_after g n (all_after g n s sets1) (more ++ leaves) ≡ all_after g n s (sets ++ leaves) = sym (after_two g n s sets1 (more ++ leaves)) ∙ ap (all_after g n s) (sym all) in
      rw yes
      (ap (λ (x : List Pick_of × (List Pick_of × List Call)). with_sets x.0 x.1.0 x.1.1 (sets_of g n s ring.hand x.0)) (λ i. (take-map pick_of_block most blocks i, (drop-map pick_of_block most blocks i, behind i)))
      ∙ (ap (with_sets (picks_of run) (picks_of (drop most blocks)) tail) (sym sets_is)
      ∙ (ap (λ (m : Settled). record { acts = sets1 ++ m.acts; at = m.at; end = m.end }) ih
      ∙ (λ i. record { acts = sym all i; at = record { shards = shards2 i; ring = record { end = ring.end; hand = hand2 i; evict = ring.evict; top = ring.top; lap = ring.lap; live = live2 i; spare = ring.spare }; answers = later }; end = end }))))

  -- ---- a batch

  -- what the plain batch does with this plan and these clears
  abbrev batch_with : List Pick_of → (ℕ → PlainShard) → RingState → List Call → Plan → List Act → Settled
  batch_with picks s ring answers plan clears =
      let begun : Standing = record { shards = all_after g n s clears; ring = with_plan ring plan; answers = answers_behind 2 answers } in
      let rest = if all_done 2 answers then runs_from g n (length picks) picks begun else left_all g n picks begun in
      record { acts = clears ++ rest.acts; at = rest.at; end = rest.end }

  header_many : (asked : List Asked) (sector : List ℕ) → asked ≡ header_calls sector → length asked ≡ 2
  header_many asked sector is = ap length is

  module _ {old new : CursorState} {blocks : List Block} {clears settles : List Act} {end : FeedStop} (w : IsWritten old new blocks clears settles end) (ended : end ≢ stop.NoMemory) (s : ℕ → PlainShard)
      (of : AreOfShards g n s (clears ++ settles)) (none : NoneRefused clears) (later : List Call) where
    abbrev plan : Plan
    plan = w.planned.plan

    abbrev ran : HaveRun w.begun new blocks settles end
    ran = w.ran

    abbrev ring1 : RingState
    ring1 = with_plan (bare old.ring) plan

    cut : AreOfShards g n s clears × AreOfShards g n (all_after g n s clears) settles
    cut = of_two g n s clears settles of

    behind : AreOfShards g n (all_after g n s clears) (ran.sets ++ ran.leaves)
    behind = subst (AreOfShards g n (all_after g n s clears)) ran.settled cut.1

    clears_is : clears ≡ clears_of g n s (map live_of (filter (falls plan) old.ring.live))
    clears_is = clears_are g n s (map live_of (filter (falls plan) old.ring.live)) clears w.cleared none cut.0

    hand_is : ring1.hand ≡ w.begun.ring.hand
    hand_is = sym w.planned.numbers.hand

    -- the ring behind the batch
    new_ring : record ring1 { hand = run_place ring1.hand ran.count blocks; live = ring1.live ++ ran.entries } ≡ bare new.ring
    new_ring = λ i. record {
      end = (sym w.planned.numbers.end ∙ sym ran.numbers.end) i;
      hand = (ap (λ (h : ℕ). run_place h ran.count blocks) hand_is ∙ sym ran.numbers.hand) i;
      evict = (sym w.planned.numbers.evict ∙ sym ran.numbers.evict) i;
      top = (sym w.planned.numbers.top ∙ sym ran.numbers.top) i;
      lap = (sym w.planned.numbers.lap ∙ sym ran.numbers.lap) i;
      live = (ap (λ (ws : List Written). ws ++ ran.entries) (sym w.planned.live) ∙ sym ran.live_is) i;
      spare = 0;
    }

    abbrev whole : Settled
    whole = record { acts = clears ++ settles; at = record { shards = all_after g n s (clears ++ settles); ring = bare new.ring; answers = later }; end = end }

    -- what the runs came to is what the batch does
    runs_whole : record { acts = clears ++ (ran.sets ++ ran.leaves); at = (settled_as g n (all_after g n s clears) ring1 later end (ran.sets ++ ran.leaves) (run_place ring1.hand ran.count blocks) (ring1.live ++ ran.entries)).at; end = end } ≡ whole
    runs_whole = λ i. record {
      acts = clears ++ sym ran.settled i;
      at = record { shards = (ap (all_after g n (all_after g n s clears)) (sym ran.settled) ∙ sym (after_two g n s clears settles)) i; ring = new_ring i; answers = later };
      end = end;
    }

    ends_with : (calls : List DeviceCall) → BatchCalls w.begun blocks ran.count end calls → batch_with (picks_of blocks) s (bare old.ring) (answers_of calls ++ later) plan clears ≡ whole
    ends_with calls (inl (is, zero_runs, asked, header, up)) =
        let few : length asked ≤ 2 = (let e = header_many asked header.sector header.asked_are in omega arith) in
        let f = up_failed asked calls 2 later up few in
        let runs : AreRuns w.begun.ring.lap w.begun.ring.hand 0 blocks ran.sets ran.entries ran.left = subst (λ (c : ℕ). AreRuns w.begun.ring.lap w.begun.ring.hand c blocks ran.sets ran.entries ran.left) zero_runs ran.runs in
        let lefts : AreLeft why.Device blocks ran.leaves = subst (λ (x : FeedStop × List Block). AreLeft (why_of x.0) x.1 ran.leaves) (λ i. (is i, runs.2 i)) ran.lefts in
        let only : ran.sets ++ ran.leaves ≡ ran.leaves = ap (λ (l : List Act). l ++ ran.leaves) runs.0 in
        let leaves_is : ran.leaves ≡ leaves_of g n (all_after g n s clears) (picks_of blocks) = leaves_are g n (all_after g n s clears) blocks ran.leaves lefts (subst (AreOfShards g n (all_after g n s clears)) only behind) in
        let acts_is : leaves_of g n (all_after g n s clears) (picks_of blocks) ≡ ran.sets ++ ran.leaves = sym leaves_is ∙ sym only in
        rw f.0 ((λ i. record {
          acts = clears ++ acts_is i;
          at = record {
            shards = all_after g n (all_after g n s clears) (acts_is i);
            ring = record ring1 {
              hand = (sym (no_runs ring1.hand blocks) ∙ ap (λ (c : ℕ). run_place ring1.hand c blocks) (sym zero_runs)) i;
              live = (sym (append-nil ring1.live) ∙ ap (λ (ws : List Written). ring1.live ++ ws) (sym runs.1)) i;
            };
            answers = f.1 i;
          };
          end = sym is i;
        }) ∙ runs_whole)
    ends_with calls (inr (asked, more, header, runs, is)) =
        let splits : answers_of calls ++ later ≡ answers_of (all_gave asked) ++ (answers_of more ++ later) = ap (λ (l : List DeviceCall). answers_of l ++ later) is ∙ answers_two (all_gave asked) more later in
        let f = gave asked 2 (answers_of more ++ later) (header_many asked header.sector header.asked_are) in
        let yes : all_done 2 (answers_of calls ++ later) ≡ true = ap (all_done 2) splits ∙ f.0 in
        let rest : answers_behind 2 (answers_of calls ++ later) ≡ answers_of (all_gave runs.asked) ++ (answers_of runs.last ++ later) =
        ap (answers_behind 2) splits ∙ (f.1 ∙ (ap (λ (l : List DeviceCall). answers_of l ++ later) runs.calls_are ∙ answers_two (all_gave runs.asked) runs.last later)) in
        let few : length blocks ≤ length (picks_of blocks) = (let e = length-map blocks pick_of_block in omega arith) in
        let are : AreRuns ring1.lap ring1.hand ran.count blocks ran.sets ran.entries ran.left = subst (λ (x : ℕ × ℕ). AreRuns x.0 x.1 ran.count blocks ran.sets ran.entries ran.left) (λ i. (w.planned.numbers.lap i, w.planned.numbers.hand i)) ran.runs in
        let r = runs_are (length (picks_of blocks)) ran.count blocks w.begun runs.now ran.sets ran.entries ran.left ran.leaves runs.asked runs.last end (all_after g n s clears) ring1 later (answers_behind 2 (answers_of calls ++ later)) few ended are
        runs.whole runs.ended ran.lefts ran.some behind rest in
        rw yes (ap (λ (m : Settled). record { acts = clears ++ m.acts; at = m.at; end = m.end }) r ∙ runs_whole)

    pub batch_is : (calls : List DeviceCall) → BatchCalls w.begun blocks ran.count end calls → batch_from g n (picks_of blocks) record { shards = s; ring = bare old.ring; answers = answers_of calls ++ later } ≡ whole
    batch_is calls asks =
        let many : size_of (picks_of blocks) + log_len * runs_of (length (picks_of blocks)) ≡ batch_len blocks = λ i. sizes_are blocks i + log_len * runs_of (length-map blocks pick_of_block i) in
        let plans : plan_for (bare old.ring) (size_of (picks_of blocks) + log_len * runs_of (length (picks_of blocks))) ≡ plan = ap (plan_for (bare old.ring)) many ∙ sym (plan_is old.ring (batch_len blocks) plan w.planned.plan_for) in
        ap (λ (x : Plan). batch_with (picks_of blocks) s (bare old.ring) (answers_of calls ++ later) x (clears_of g n s (map live_of (filter (falls x) old.ring.live)))) plans
        ∙ (ap (batch_with (picks_of blocks) s (bare old.ring) (answers_of calls ++ later) plan) (sym clears_is) ∙ ends_with calls asks)

-- ---- one shard, and all of them

pub none_two : (a b : List Act) → NoneRefused (a ++ b) → NoneRefused a × NoneRefused b
none_two [] b none = (tt, none)
none_two (x ∷ a) b none = let r = none_two a b none.1 in ((none.0, r.0), r.1)

picking_is : (n shard : ℕ) (blocks : List Block) → picking_events n (picks_of blocks) ≡ events_of n (Picked shard blocks)
picking_is n shard [] = refl
picking_is n shard (b ∷ bs) = ap (λ (es : List Event). event.Pick n b.key ∷ es) (picking_is n shard bs)

module _ (g : Config) (n : ℕ) where
  told_two : (a b : List Act) → told_of g n (a ++ b) ≡ told_of g n a ++ told_of g n b
  told_two [] b = refl
  told_two (x ∷ a) b = ap (λ (l : List (ℕ × Event)). map (λ (e : Event). (shard_of_act g x, e)) (events_of n x) ++ l) (told_two a b)
      ∙ sym (append_assoc (map (λ (e : Event). (shard_of_act g x, e)) (events_of n x)) (told_of g n a) (told_of g n b))

  -- what is fed, by its acts
  abbrev pub fed_as : (ℕ → PlainShard) → RingState → List Call → FeedStop → List Act → PlainFed
  fed_as s ring later end acts = record { events = told_of g n acts; at = record { shards = all_after g n s acts; ring = bare ring; answers = later }; end = end }

  -- the shard with these events, and then the batch of these picks
  abbrev shard_with : (shard : ℕ) → Standing → List Pick_of → List Event → PlainFed
  shard_with shard st picks events =
      let rest = batch_if_some g n picks record st { shards = λ (other : ℕ). if shard == other then replay (st.shards other) events else st.shards other } in
      record { events = map (λ (e : Event). (shard, e)) events ++ told_of g n rest.acts; at = rest.at; end = rest.end }

  some_batch : (blocks : List Block) (st : Standing) → 0 < length blocks → batch_if_some g n (picks_of blocks) st ≡ batch_from g n (picks_of blocks) st
  some_batch [] st some = absurd (omega arith)
  some_batch (b ∷ bs) st some = refl

  module _ (shard : ℕ) (old new : CursorState) (acts : List Act) (calls : List DeviceCall) (end : FeedStop) (s : ℕ → PlainShard) (later : List Call) where
    abbrev st : Standing
    st = record { shards = s; ring = bare old.ring; answers = answers_of calls ++ later }

    none_fed : acts ≡ Picked shard [] ∷ [] → new ≡ old → end ≡ stop.Done → calls ≡ [] → AreOfShards g n s acts → shard_from g n shard st ≡ fed_as s new.ring later end acts
    none_fed is same done none of =
        let picks : picks_from (s shard) ≡ [] = sym (subst (AreOfShards g n s) is of).0 in
        ap (λ (ps : List Pick_of). shard_with shard st ps (picking_events n ps)) picks
        ∙ (λ i. record {
          events = told_of g n (sym is i);
          at = record { shards = all_after g n s (sym is i); ring = bare (sym same i).ring; answers = ap (λ (l : List DeviceCall). answers_of l ++ later) none i };
          end = sym done i;
        })

    batch_fed : FedBatch shard old new acts calls end → end ≢ stop.NoMemory → NoneRefused acts → AreOfShards g n s acts → shard_from g n shard st ≡ fed_as s new.ring later end acts
    batch_fed f ended none of = go f.written f.asks
      where
        all : AreOfShards g n s (Picked shard f.blocks ∷ (f.clears ++ f.settles))
        all = subst (AreOfShards g n s) f.acts_are of

        unrefused : NoneRefused f.clears
        unrefused = (none_two f.clears f.settles (subst NoneRefused f.acts_are none).1).0

        go : (w : IsWritten old new f.blocks f.clears f.settles end ⊎ IsUnwritten old new f.blocks f.clears f.settles end) → WrittenCalls w calls → shard_from g n shard st ≡ fed_as s new.ring later end acts
        go (inr u) asks = absurd (ended u.ended)
        go (inl w) asks =
            ap (λ (ps : List Pick_of). shard_with shard st ps (picking_events n ps)) (sym all.0)
            ∙ (ap (shard_with shard st (picks_of f.blocks)) (picking_is n shard f.blocks)
            ∙ (ap (λ (m : Settled). record { events = map (λ (e : Event). (shard, e)) (events_of n (Picked shard f.blocks)) ++ told_of g n m.acts; at = m.at; end = m.end })
            (some_batch f.blocks record { shards = shards_after g n s (Picked shard f.blocks); ring = bare old.ring; answers = answers_of calls ++ later } f.some ∙ batch_is g n w ended (shards_after g n s (Picked shard f.blocks)) all.1 unrefused later calls asks)
            ∙ ap (fed_as s new.ring later end) (sym f.acts_are)))

    pub shard_fed : FedShard shard old new acts calls end → end ≢ stop.NoMemory → NoneRefused acts → AreOfShards g n s acts → shard_from g n shard st ≡ fed_as s new.ring later end acts
    shard_fed (inl f) ended none of = none_fed f.0 f.1 f.2 f.3 of
    shard_fed (inr (inl f)) ended none of = absurd (ended f.2)
    shard_fed (inr (inr f)) ended none of = batch_fed f ended none of

  all_fed : (shard count : ℕ) (old new : CursorState) (acts : List Act) (calls : List DeviceCall) (end : FeedStop) (s : ℕ → PlainShard) (later : List Call) → AreFed shard count old new acts calls end → end ≢ stop.NoMemory → NoneRefused acts
      → AreOfShards g n s acts → fed_from g n shard count record { shards = s; ring = bare old.ring; answers = answers_of calls ++ later } ≡ fed_as s new.ring later end acts
  all_fed shard zero old new acts calls end s later fed ended none of =
      λ i. record {
        events = told_of g n (sym fed.0 i);
        at = record { shards = all_after g n s (sym fed.0 i); ring = bare (sym fed.1 i).ring; answers = ap (λ (l : List DeviceCall). answers_of l ++ later) fed.3 i };
        end = sym fed.2 i;
      }
  all_fed shard (suc count) old new acts calls stop.Done s later (inl ends) ended none of = absurd (ends.0 refl)
  all_fed shard (suc count) old new acts calls stop.NoMemory s later (inl ends) ended none of = absurd (ended refl)
  all_fed shard (suc count) old new acts calls stop.DevFault s later (inl ends) ended none of =
      let one = shard_fed shard old new acts calls stop.DevFault s later ends.1 ended none of in
      ap (λ (x : PlainFed). unless_ended x.end (then_fed x (fed_from g n (suc shard) count x.at)) x) one
  all_fed shard (suc count) old new acts calls end s later (inr (first, more, between, front, behind, is, asked, one, rest)) ended none of =
      let cut = none_two first more (subst NoneRefused is none) in
      let parts = of_two g n s first more (subst (AreOfShards g n s) is of) in
      let tail : List Call = answers_of behind ++ later in
      let split : answers_of calls ++ later ≡ answers_of front ++ tail = ap (λ (l : List DeviceCall). answers_of l ++ later) asked ∙ answers_two front behind later in
      let never : stop.Done ≡ stop.NoMemory → ⊥ = λ no. cc in
      let a = shard_fed shard old between first front stop.Done s tail one never cut.0 parts.0 in
      let b = all_fed (suc shard) count between new more behind end (all_after g n s first) later rest ended cut.1 parts.1 in
      ap (λ (l : List Call). fed_from g n shard (suc count) record { shards = s; ring = bare old.ring; answers = l }) split
      ∙ (ap (λ (x : PlainFed). unless_ended x.end (then_fed x (fed_from g n (suc shard) count x.at)) x) a
      ∙ (ap (then_fed (fed_as s between.ring tail stop.Done first)) b
      ∙ (λ i. record {
        events = (sym (told_two first more) ∙ ap (told_of g n) (sym is)) i;
        at = record { shards = (sym (after_two g n s first more) ∙ ap (all_after g n s) (sym is)) i; ring = bare new.ring; answers = later };
        end = end;
      })))

-- ---- the report

keys_two : (a b : List (ℕ × Event)) → picked_by (a ++ b) ≡ picked_by a ++ picked_by b
keys_two [] b = refl
keys_two ((i, event.Pick n k) ∷ a) b = ap (λ (l : List Key). k ∷ l) (keys_two a b)
keys_two ((i, event.Pass n k owner) ∷ a) b = keys_two a b
keys_two ((i, event.Hit n k t) ∷ a) b = keys_two a b
keys_two ((i, event.Miss n k t) ∷ a) b = keys_two a b
keys_two ((i, event.Arrive n k d from) ∷ a) b = keys_two a b
keys_two ((i, event.Fail n k at) ∷ a) b = keys_two a b
keys_two ((i, event.Drop n k) ∷ a) b = keys_two a b
keys_two ((i, event.Past n k kept) ∷ a) b = keys_two a b
keys_two ((i, event.Hand n k to) ∷ a) b = keys_two a b
keys_two ((i, event.Insert n k d t) ∷ a) b = keys_two a b
keys_two ((i, event.Release n k sole) ∷ a) b = keys_two a b
keys_two ((i, event.FeedEnd n) ∷ a) b = keys_two a b
keys_two ((i, event.Set n k place) ∷ a) b = keys_two a b
keys_two ((i, event.Leave n k w) ∷ a) b = keys_two a b
keys_two ((i, event.Clear n k) ∷ a) b = keys_two a b
keys_two ((i, event.Restore n k place d) ∷ a) b = keys_two a b
keys_two ((i, event.Resize n c) ∷ a) b = keys_two a b

abbrev at_shard : ℕ → Event → ℕ × Event
at_shard shard e = (shard, e)

count_two : (test : ℕ × Event → Bool) (a b : List (ℕ × Event)) → count_by test (a ++ b) ≡ count_by test a + count_by test b
count_two test a b = sum_by-append (λ x. cond {A = ℕ} (test x) 1 0) a b

picks_keys : (n shard : ℕ) (ks : List Key) → picked_by (map (at_shard shard) (map (event.Pick n) ks ++ event.FeedEnd n ∷ [])) ≡ ks
picks_keys n shard [] = refl
picks_keys n shard (k ∷ ks) = ap (λ (l : List Key). k ∷ l) (picks_keys n shard ks)

picks_count : (test : Event → Bool) (n shard : ℕ) (ks : List Key) → ((k : Key) → test (event.Pick n k) ≡ false) → test (event.FeedEnd n) ≡ false
    → count_by (λ (x : ℕ × Event). test x.1) (map (at_shard shard) (map (event.Pick n) ks ++ event.FeedEnd n ∷ [])) ≡ 0
picks_count test n shard [] pick end = rw end refl
picks_count test n shard (k ∷ ks) pick end =
    let e = count_two (λ (x : ℕ × Event). test x.1) (at_shard shard (event.Pick n k) ∷ []) (map (at_shard shard) (map (event.Pick n) ks ++ event.FeedEnd n ∷ [])) in
    let one : count_by (λ (x : ℕ × Event). test x.1) (at_shard shard (event.Pick n k) ∷ []) ≡ 0 = rw (pick k) refl in
    let ih = picks_count test n shard ks pick end in
    omega arith

module _ (g : Config) (n : ℕ) where
  told_keys : (acts : List Act) → picked_by (told_of g n acts) ≡ picked_in acts
  told_keys [] = refl
  told_keys (Picked shard blocks ∷ acts) = keys_two (map (at_shard shard) (events_of n (Picked shard blocks))) (told_of g n acts) ∙ (λ i. picks_keys n shard (keys_of blocks) i ++ told_keys acts i)
  told_keys (Unpicked shard ∷ acts) = told_keys acts
  told_keys (Cleared k x ∷ acts) = told_keys acts
  told_keys (Absent k x ∷ acts) = told_keys acts
  told_keys (Refused k x ∷ acts) = told_keys acts
  told_keys (Placed k x ∷ acts) = told_keys acts
  told_keys (Left k w ∷ acts) = told_keys acts

  told_sets : (acts : List Act) → count_by (λ (x : ℕ × Event). is_set x.1) (told_of g n acts) ≡ count_by is_placed acts
  told_sets [] = refl
  told_sets (Picked shard blocks ∷ acts) =
      let e = count_two (λ (x : ℕ × Event). is_set x.1) (map (at_shard shard) (events_of n (Picked shard blocks))) (told_of g n acts) in
      let p = picks_count is_set n shard (keys_of blocks) (λ k. refl) refl in let ih = told_sets acts in let one = placed-append (Picked shard blocks ∷ []) acts in omega arith
  told_sets (Unpicked shard ∷ acts) = told_sets acts
  told_sets (Cleared k x ∷ acts) = told_sets acts
  told_sets (Absent k x ∷ acts) = told_sets acts
  told_sets (Refused k x ∷ acts) = told_sets acts
  told_sets (Placed k x ∷ acts) =
      let e = count_two (λ (x : ℕ × Event). is_set x.1) ((shard_of_act g (Placed k x), event.Set n k x) ∷ []) (told_of g n acts) in let ih = told_sets acts in let one = placed-append (Placed k x ∷ []) acts in omega arith
  told_sets (Left k w ∷ acts) = told_sets acts

  told_clears : (acts : List Act) → count_by (λ (x : ℕ × Event). is_clear x.1) (told_of g n acts) ≡ count_by is_cleared acts
  told_clears [] = refl
  told_clears (Picked shard blocks ∷ acts) =
      let e = count_two (λ (x : ℕ × Event). is_clear x.1) (map (at_shard shard) (events_of n (Picked shard blocks))) (told_of g n acts) in
      let p = picks_count is_clear n shard (keys_of blocks) (λ k. refl) refl in let ih = told_clears acts in let one = cleared-append (Picked shard blocks ∷ []) acts in omega arith
  told_clears (Unpicked shard ∷ acts) = told_clears acts
  told_clears (Cleared k x ∷ acts) =
      let e = count_two (λ (x : ℕ × Event). is_clear x.1) ((shard_of_act g (Cleared k x), event.Clear n k) ∷ []) (told_of g n acts) in let ih = told_clears acts in let one = cleared-append (Cleared k x ∷ []) acts in omega arith
  told_clears (Absent k x ∷ acts) = told_clears acts
  told_clears (Refused k x ∷ acts) = told_clears acts
  told_clears (Placed k x ∷ acts) = told_clears acts
  told_clears (Left k w ∷ acts) = told_clears acts

  told_report : (acts : List Act) (report : FeedReport) (at : Standing) → IsSummary acts report → report_of record { events = told_of g n acts; at = at; end = report.end } ≡ report
  told_report acts report at sums = λ i. record {
    picked = (ap length (told_keys acts) ∙ sym sums.picked) i;
    bytes = (ap (sum_by (λ (k : Key). k.size)) (told_keys acts) ∙ sym sums.bytes) i;
    written = (told_sets acts ∙ sym sums.written) i;
    cleared = (told_clears acts ∙ sym sums.cleared) i;
    end = report.end;
  }

pub fed_plain : (g : Config) (n : ℕ) (s : ℕ → PlainShard) (old new : CursorState) (acts : List Act) (calls : List DeviceCall) (report : FeedReport) → AreFed 0 g.shards old new acts calls report.end → IsSummary acts report
    → report.end ≢ stop.NoMemory → NoneRefused acts → AreOfShards g n s acts → IsPlainFeed g n s old.ring new.ring acts calls report
fed_plain g n s old new acts calls report fed sums ended none of later =
    let is = all_fed g n 0 g.shards old new acts calls report.end s later fed ended none of in
    (is, ap report_of is ∙ told_report g n acts report record { shards = all_after g n s acts; ring = bare new.ring; answers = later } sums)
