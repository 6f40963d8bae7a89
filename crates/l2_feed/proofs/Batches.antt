-- What a batch comes to, by what its plan and its runs came to.
use Rattle.std.proofs.Common.{◌≡◌, ◌⊎◌, ℕ, ◌+◌, ◌<◌, ◌≤◌, false, List, [], ◌∷◌, ◌++◌, length, take, Result, Ok, Err, inl, inr, refl, sym, ap, ◌∙◌, arith, append-nil, length-append}
use Rattle.std.specs.Prelude.{count_by, sum_by}
use Rattle.std.proofs.lemmas.Bool.{cases_lt}
use Rattle.std.proofs.lemmas.List.{length-map}
use Rattle.std.proofs.lemmas.List.Sums.{sum_by-append}
use Rattle.blk_ptr.specs.declared.key.Key.{Key}
use Rattle.arc_table.specs.declared.picks.Picked.{Picked as Block}
use Rattle.vdev_io.specs.Calls.{DeviceCall}
use Rattle.l2_ring.specs.declared.plan.Plan.{Plan}
use Rattle.l2_ring.specs.Ring.{IsPlanFor}
use Rattle.l2_dev.specs.declared.fault.DevErr.{DevErr}
use Rattle.l2_dev.specs.declared.fault.DevErr.TheVariants as err
use Rattle.l2_dev.specs.declared.report.FeedReport.{FeedReport}
use Rattle.l2_dev.specs.declared.report.FeedStop.{FeedStop}
use Rattle.l2_dev.specs.declared.report.FeedStop.TheVariants as stop
use Rattle.l2_dev.specs.Cursor.{CursorState}
use Rattle.l2_feed.specs.Acts.{Act, Picked, keys_of}
use Rattle.l2_feed.specs.Asking.{BatchCalls, PlanCalls, RunsCalls, all_gave, puts_of}
use Rattle.l2_feed.specs.Runs.{AreLeft, batch_len, bytes_of, most}
use Rattle.l2_feed.specs.Shape.{HasBegun, HaveRun, IsUnwritten, IsWritten, WrittenCalls, stop_of, why_of}
use Rattle.l2_feed.specs.Sums.{CountsMore, is_cleared, is_placed, picked_in}
use Rattle.l2_feed.proofs.Counting.{cleared-append, cleared-none, left-none, picked-append, placed-append, runs-none}
use Rattle.l2_feed.proofs.Lists.{bytes_keys}
use Rattle.l2_feed.proofs.Running.{no_runs}
use Rattle.l2_feed.proofs.Writing.{leaves_some}

-- ---- a plan that was not begun, or whose clears were refused

abbrev failed : DevErr → Result (Unit {0}) DevErr
failed e = Err e

never : failed err.DevFault ≡ failed err.NoMemory → ⊥
never is = cc

unwritten : (fault : DevErr) (old new : CursorState) (blocks : List Block) (clears leaves : List Act) → failed fault ≡ failed err.NoMemory → new ≡ old → clears ≡ [] → AreLeft (why_of (stop_of fault)) blocks leaves
    → IsUnwritten old new blocks clears leaves (stop_of fault)
unwritten err.NoMemory old new blocks clears leaves is same none left = record { same = same; none = none; lefts = left; ended = refl }
unwritten err.DevFault old new blocks clears leaves is same none left = absurd (never is)

pub not_done : (fault : DevErr) → stop_of fault ≡ stop.Done → ⊥
not_done err.NoMemory is = cc
not_done err.DevFault is = cc

-- what became of a batch, and its calls
abbrev pub BecomesBatch : (old new : CursorState) (blocks : List Block) (clears leaves : List Act) (calls : List DeviceCall) (end : FeedStop) → Type 0
BecomesBatch old new blocks clears leaves calls end = (w : IsWritten old new blocks clears leaves end ⊎ IsUnwritten old new blocks clears leaves end) × WrittenCalls w calls

-- no run was begun
none_begun : (begun : CursorState) (blocks : List Block) (calls : List DeviceCall) (fault : DevErr) → PlanCalls {T = Unit {0}} (Err fault) begun calls → BatchCalls begun blocks 0 (stop_of fault) calls
none_begun begun blocks calls err.DevFault asks = inl (refl, refl, asks.0, asks.1, asks.2)
none_begun begun blocks calls err.NoMemory asks = inr (
  asks.0,
  [],
  asks.1,
  record {
    now = begun;
    asked = [];
    last = [];
    whole = (refl, refl);
    ended = record { done = []; left = puts_of begun.ring.hand (take most blocks); whole = refl; calls_are = refl };
    calls_are = refl;
  },
  asks.2 ∙ sym (append-nil (all_gave asks.0)),
)

pub batch_failed : (old new : CursorState) (blocks : List Block) (clears leaves : List Act) (calls : List DeviceCall) (fault : DevErr) → 0 < length blocks → HasBegun old new (batch_len blocks) clears calls (Err fault)
    → AreLeft (why_of (stop_of fault)) blocks leaves → BecomesBatch old new blocks clears leaves calls (stop_of fault)
batch_failed old new blocks clears leaves calls fault some (inl b) left = (inr (unwritten fault old new blocks clears leaves b.2 b.0 b.1 left), b.3)
batch_failed old new blocks clears leaves calls fault some (inr t) left =
    let w : IsWritten old new blocks clears leaves (stop_of fault) = record {
      sound = t.sound;
      placed = t.placed;
      begun = new;
      planned = t.planned;
      cleared = t.cleared;
      refused = inr (refl, not_done fault);
      ran = record {
        count = 0;
        sets = [];
        entries = [];
        left = blocks;
        runs = (refl, refl, refl);
        leaves = leaves;
        lefts = left;
        settled = refl;
        some = leaves_some fault blocks some;
        live_is = sym (append-nil new.ring.live);
        numbers = record { end = refl; hand = sym (no_runs new.ring.hand blocks); evict = refl; top = refl; lap = refl };
        base = t.planned.base ∙ sym t.planned.numbers.hand;
        logs = refl;
        pending = t.planned.pending;
      };
    } in
    (inl w, none_begun new blocks calls fault t.asks)

pub batch_written : (old mid new : CursorState) (blocks : List Block) (clears settles : List Act) (calls more : List DeviceCall) (u : Unit {0}) (end : FeedStop) → HasBegun old mid (batch_len blocks) clears calls (Ok u)
    → (ran : HaveRun mid new blocks settles end) → RunsCalls mid blocks ran.count end more → BecomesBatch old new blocks clears settles (calls ++ more) end
batch_written old mid new blocks clears settles calls more u end (inl b) ran asks = let is = b.2 in cc
batch_written old mid new blocks clears settles calls more u end (inr t) ran asks =
    let w : IsWritten old new blocks clears settles end = record {
      sound = t.sound;
      placed = t.placed;
      begun = mid;
      planned = t.planned;
      cleared = t.cleared;
      ran = ran;
      refused = inl t.opened.0;
    } in
    (inl w, inr (t.asks.0, more, t.asks.1, asks, ap (λ (l : List DeviceCall). l ++ more) t.asks.2))

-- a batch fits before what the plan may not write over
plan_room : (old : CursorState) (n : ℕ) (plan : Plan) → IsPlanFor old.ring n plan → plan.hand + n ≤ plan.evict
plan_room old n plan is = elim (cases_lt old.ring.end (old.ring.hand + n)) [
  | inl far ↦ let w = is.wrapped far in let h = ap (λ (x : Plan). x.hand) w in let e = ap (λ (x : Plan). x.evict) w in omega arith
  | inr near ↦ let w = is.straight (omega arith) in let h = ap (λ (x : Plan). x.hand) w in let e = ap (λ (x : Plan). x.evict) w in omega arith
]

pub begun_room : (old mid : CursorState) (n : ℕ) (acts : List Act) (calls : List DeviceCall) (u : Unit {0}) → HasBegun old mid n acts calls (Ok u) → mid.ring.hand + n ≤ mid.ring.evict
begun_room old mid n acts calls u (inl b) = let is = b.2 in cc
begun_room old mid n acts calls u (inr t) =
    let room = plan_room old n t.planned.plan t.planned.plan_for in let h = t.planned.numbers.hand in let e = t.planned.numbers.evict in omega arith

-- ---- what they count

pub clears_none : (old new : CursorState) (n : ℕ) (clears : List Act) (calls : List DeviceCall) (result : Result (Unit {0}) DevErr) → HasBegun old new n clears calls result → (picked_in clears ≡ []) × (count_by is_placed clears ≡ 0)
clears_none old new n clears calls result (inl b) = (ap picked_in b.1, ap (count_by is_placed) b.1)
clears_none old new n clears calls result (inr t) = cleared-none _ clears t.cleared

pub runs_none : (old new : CursorState) (blocks : List Block) (acts : List Act) (end : FeedStop) → HaveRun old new blocks acts end → (picked_in acts ≡ []) × (count_by is_cleared acts ≡ 0)
runs_none old new blocks acts end h =
    let a = runs-none old.ring.lap old.ring.hand h.count blocks h.sets h.entries h.left h.runs in
    let b = left-none (why_of end) h.left h.leaves h.lefts in (
      ap picked_in h.settled ∙ (picked-append h.sets h.leaves ∙ (ap (λ (l : List Key). l ++ picked_in h.leaves) a.0 ∙ b.0)),
      (let x = a.1 in let y = b.1 in let e = cleared-append h.sets h.leaves in let s = ap (count_by is_cleared) h.settled in omega arith),
    )

pub batch_counts : (clears settles : List Act) (old new : FeedReport) → (picked_in clears ≡ []) × (count_by is_placed clears ≡ 0) → (picked_in settles ≡ []) × (count_by is_cleared settles ≡ 0)
    → new.picked ≡ old.picked → new.bytes ≡ old.bytes → new.written ≡ old.written + count_by is_placed settles → new.cleared ≡ old.cleared + count_by is_cleared clears → CountsMore (clears ++ settles) old new
batch_counts clears settles old new none other picked bytes written cleared =
    let no : picked_in (clears ++ settles) ≡ [] = picked-append clears settles ∙ (ap (λ (l : List Key). l ++ picked_in settles) none.0 ∙ other.0) in
    record {
      picked = (let e = ap length no in let p = picked in omega arith);
      bytes = (let e = ap (sum_by (λ (k : Key). k.size)) no in let b = bytes in omega arith);
      written = (let e = placed-append clears settles in let z = none.1 in let w = written in omega arith);
      cleared = (let e = cleared-append clears settles in let z = other.1 in let c = cleared in omega arith);
    }

pub none_counts : (act : Act) (report : FeedReport) → picked_in (act ∷ []) ≡ [] → is_placed act ≡ false → is_cleared act ≡ false → CountsMore (act ∷ []) report report
none_counts act report none given taken = record {
  picked = (let e = ap length none in omega arith);
  bytes = (let e = ap (sum_by (λ (k : Key). k.size)) none in omega arith);
  written = rw given (let e : report.written ≡ report.written + 0 = omega arith in e);
  cleared = rw taken (let e : report.cleared ≡ report.cleared + 0 = omega arith in e);
}

pub picked_counts : (shard : ℕ) (blocks : List Block) (rest : List Act) (old mid new : FeedReport) → mid.picked ≡ old.picked + length blocks → mid.bytes ≡ old.bytes + bytes_of blocks → mid.written ≡ old.written → mid.cleared ≡ old.cleared
    → CountsMore rest mid new → CountsMore (Picked shard blocks ∷ rest) old new
picked_counts shard blocks rest old mid new picked bytes written cleared more = record {
  picked = (let e = length-append (keys_of blocks) (picked_in rest) in let k = length-map blocks (λ (b : Block). b.key) in let m = more.picked in let p = picked in omega arith);
  bytes = (let e = sum_by-append (λ (k : Key). k.size) (keys_of blocks) (picked_in rest) in let k = bytes_keys blocks in let m = more.bytes in let b = bytes in omega arith);
  written = more.written ∙ ap (λ (n : ℕ). n + count_by is_placed rest) written;
  cleared = more.cleared ∙ ap (λ (n : ℕ). n + count_by is_cleared rest) cleared;
}
