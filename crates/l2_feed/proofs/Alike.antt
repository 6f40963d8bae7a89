-- That two feeds of the same shards over alike cursors come to one, part by part: a log block and its run, the runs, a batch, a shard, and all of them; or two contents of one digest were picked.
use Rattle.std.proofs.Common.{◌≡◌, ◌≢◌, ◌⊎◌, ℕ, zero, suc, ◌+◌, ◌*◌, ◌<◌, ◌≤◌, List, [], ◌∷◌, ◌++◌, length, map, take, drop, Option, Some, inl, inr, refl, sym, ap, ◌∙◌, subst, arith, append_assoc}
use Rattle.std.proofs.lemmas.Bool.{cases_Bool, cases_lt, false≢true}
use Rattle.std.proofs.lemmas.List.{map-append}
use Rattle.std.proofs.lemmas.Slice.Eq.{bytes_eq-Decides}
use Rattle.std.specs.Str.{bytes_eq}
use Rattle.vdev_io.specs.Calls.{Asked, Call, DeviceCall, Failed, Gave, answered}
use Rattle.arc_core.specs.declared.config.Config.{Config}
use Rattle.arc_core.specs.declared.entry.Picked.{Picked as Pick_of}
use Rattle.arc_core.specs.PlainShard.{PlainShard}
use Rattle.arc_table.specs.declared.picks.Picked.{Picked as Block}
use Rattle.l2_log.specs.declared.pointer.LogPtr.{LogPtr}
use Rattle.l2_log.specs.Rules.{log_len}
use Rattle.l2_ring.specs.declared.plan.Plan.{Plan}
use Rattle.l2_ring.specs.Ring.{RingState, numbers_of, with_hand}
use Rattle.l2_dev.specs.declared.report.FeedStop.{FeedStop}
use Rattle.l2_dev.specs.declared.report.FeedStop.TheVariants as stop
use Rattle.l2_dev.specs.Asking.{header_calls, log_calls}
use Rattle.l2_dev.specs.Cursor.{CursorState}
use Rattle.l2_feed.specs.Acts.{Act, Picked}
use Rattle.l2_feed.specs.Alike.{AreCursorsAlike, ComeToOne, FeedsComeToOne, PicksTwo}
use Rattle.l2_feed.specs.Alone.{AreOfShards, pick_of_block, picks_from}
use Rattle.l2_feed.specs.Asking.{AskRuns, AsksHeader, AsksLog, AsksRun, AsksSome, BatchCalls, UpToFailed, all_gave, puts_of}
use Rattle.l2_feed.specs.Places.{IsAmongActs}
use Rattle.l2_feed.specs.Plain.{PlainFed, all_after, answers_of, bare, plan_for, shard_from}
use Rattle.l2_feed.specs.Runs.{AreLogs, HasWritten, batch_len, bytes_of, most, run_place, runs_of}
use Rattle.l2_feed.specs.Shape.{AreFed, FedBatch, FedShard, IsUnwritten, IsWritten, NoneRefused, WrittenCalls}
use Rattle.l2_feed.proofs.Keeping.{in_left, in_right}
use Rattle.l2_feed.proofs.Lists.{bytes_cons}
use Rattle.l2_feed.proofs.Plain.{answers_two, fed_as, none_two, of_two, plan_is, shard_fed}
use Rattle.l2_feed.proofs.Spelled.{AreHeadersAlike, AreSameBlocks, cons-first, cons-rest, logs-alike, no-cons, same-blocks, same-bytes, same-front, same-many, same-puts, same-rest, sectors-alike}

-- ---- bytes are the same, or others

bytes-known : (xs ys : List ℕ) → (xs ≡ ys) ⊎ (xs ≢ ys)
bytes-known xs ys = elim (cases_Bool (bytes_eq xs ys)) [
  | inl same ↦ inl ((bytes_eq-Decides xs ys).0 same)
  | inr differ ↦ inr (λ same. false≢true (sym differ ∙ (bytes_eq-Decides xs ys).1 same))
]

lists-known : (xs ys : List (List ℕ)) → (xs ≡ ys) ⊎ (xs ≢ ys)
lists-known [] [] = inl refl
lists-known [] (y ∷ ys) = inr (λ same. no-cons y ys (sym same))
lists-known (x ∷ xs) [] = inr (λ same. no-cons x xs same)
lists-known (x ∷ xs) (y ∷ ys) = elim (bytes-known x y) [
  | inl first ↦ elim (lists-known xs ys) [
    | inl rest ↦ inl (λ i. first i ∷ rest i)
    | inr differ ↦ inr (λ same. differ (cons-rest x y xs ys same))
  ]
  | inr differ ↦ inr (λ same. differ (cons-first x y xs ys same))
]

-- ---- calls up to one that failed

-- as far as both go they are the same
abbrev AreSoFar : List Asked → List Asked → Type 0
AreSoFar [] ys = Unit {0}
AreSoFar (x ∷ xs) [] = Unit {0}
AreSoFar (x ∷ xs) (y ∷ ys) = (y ≡ x) × AreSoFar xs ys

so-far-sym : (xs ys : List Asked) → AreSoFar xs ys → AreSoFar ys xs
so-far-sym [] [] s = tt
so-far-sym [] (y ∷ ys) s = tt
so-far-sym (x ∷ xs) [] s = tt
so-far-sym (x ∷ xs) (y ∷ ys) s = (sym s.0, so-far-sym xs ys s.1)

so-far-front : (xs more : List Asked) → AreSoFar xs (xs ++ more)
so-far-front [] more = tt
so-far-front (x ∷ xs) more = (refl, so-far-front xs more)

so-far-refl : (xs : List Asked) → AreSoFar xs xs
so-far-refl [] = tt
so-far-refl (x ∷ xs) = (refl, so-far-refl xs)

so-far-same : (xs ys : List Asked) → ys ≡ xs → AreSoFar xs ys
so-far-same xs ys same = subst (AreSoFar xs) (sym same) (so-far-refl xs)

so-far-behind : (xs ys zs : List Asked) → AreSoFar ys zs → AreSoFar (xs ++ ys) (xs ++ zs)
so-far-behind [] ys zs s = s
so-far-behind (x ∷ xs) ys zs s = (refl, so-far-behind xs ys zs s)

gave-failed : Gave ≡ Failed → ⊥
gave-failed is = let clash : Gave ≡ Failed = is in cc

failed-one : (done others : List Asked) (f h : Asked) (left more : List Asked) (us vs : List Call) → AreSoFar (done ++ f ∷ left) (others ++ h ∷ more)
    → answers_of (all_gave others ++ answered Failed h ∷ []) ++ vs ≡ answers_of (all_gave done ++ answered Failed f ∷ []) ++ us → all_gave others ++ answered Failed h ∷ [] ≡ all_gave done ++ answered Failed f ∷ []
failed-one [] [] f h left more us vs s row = λ i. answered Failed (s.0 i) ∷ []
failed-one [] (b ∷ others) f h left more us vs s row = absurd (gave-failed (cons-first Gave Failed (answers_of (all_gave others ++ answered Failed h ∷ []) ++ vs) us row))
failed-one (a ∷ done) [] f h left more us vs s row = absurd (gave-failed (sym (cons-first Failed Gave vs (answers_of (all_gave done ++ answered Failed f ∷ []) ++ us) row)))
failed-one (a ∷ done) (b ∷ others) f h left more us vs s row =
    let rest = failed-one done others f h left more us vs s.1 (cons-rest Gave Gave (answers_of (all_gave others ++ answered Failed h ∷ []) ++ vs) (answers_of (all_gave done ++ answered Failed f ∷ []) ++ us) row) in
    λ i. answered Gave (s.0 i) ∷ rest i

-- where both ask for the same as far as they go, and were answered the same, the same one failed
up-one : (asked others : List Asked) (xs ys : List DeviceCall) (us vs : List Call) → AreSoFar asked others → UpToFailed asked xs → UpToFailed others ys → answers_of ys ++ vs ≡ answers_of xs ++ us → ys ≡ xs
up-one asked others xs ys us vs s x y row =
    let so_far : AreSoFar (x.done ++ x.failed ∷ x.left) (y.done ++ y.failed ∷ y.left) = subst (λ (z : List Asked × List Asked). AreSoFar z.0 z.1) (λ i. (x.whole i, y.whole i)) s in
    let rows : answers_of (all_gave y.done ++ answered Failed y.failed ∷ []) ++ vs ≡ answers_of (all_gave x.done ++ answered Failed x.failed ∷ []) ++ us =
    ap (λ (l : List DeviceCall). answers_of l ++ vs) (sym y.calls_are) ∙ (row ∙ ap (λ (l : List DeviceCall). answers_of l ++ us) x.calls_are) in
    y.calls_are ∙ (failed-one x.done y.done x.failed y.failed x.left y.left us vs so_far rows ∙ sym x.calls_are)

up-behind : (front asked : List Asked) (xs : List DeviceCall) → UpToFailed asked xs → UpToFailed (front ++ asked) (all_gave front ++ xs)
up-behind front asked xs x = record {
  done = front ++ x.done;
  failed = x.failed;
  left = x.left;
  whole = ap (λ (l : List Asked). front ++ l) x.whole ∙ sym (append_assoc front x.done (x.failed ∷ x.left));
  calls_are =
      ap (λ (l : List DeviceCall). all_gave front ++ l) x.calls_are
      ∙ (sym (append_assoc (all_gave front) (all_gave x.done) (answered Failed x.failed ∷ [])) ∙ ap (λ (l : List DeviceCall). l ++ answered Failed x.failed ∷ []) (sym (map-append (answered Gave) front x.done)));
}

-- the header, the runs that were committed, and the one that was lost
up-whole : (headers runs lost : List Asked) (last more calls : List DeviceCall) → UpToFailed lost last → more ≡ all_gave runs ++ last → calls ≡ all_gave headers ++ more → UpToFailed (headers ++ (runs ++ lost)) calls
up-whole headers runs lost last more calls up is are =
    let whole : all_gave headers ++ (all_gave runs ++ last) ≡ calls = sym (are ∙ ap (λ (l : List DeviceCall). all_gave headers ++ l) is) in
    subst (UpToFailed (headers ++ (runs ++ lost))) whole (up-behind headers (runs ++ lost) (all_gave runs ++ last) (up-behind runs lost last up))

-- what a run begins with, however far it came
puts-then-log : (cursor : CursorState) (run : List Block) (xs : List Asked) → AsksLog cursor run xs → AreSoFar (puts_of cursor.ring.hand run) xs
puts-then-log cursor run xs x = subst (AreSoFar (puts_of cursor.ring.hand run)) (sym x.asked_are) (so-far-front (puts_of cursor.ring.hand run) (log_calls (cursor.ring.hand + bytes_of run) x.log.bytes))

log-then-run : (cursor : CursorState) (run : List Block) (xs : List Asked) → (x : AsksRun cursor run xs) → AreSoFar x.front xs
log-then-run cursor run xs x = subst (AreSoFar x.front) (sym x.asked_are) (so-far-front x.front (header_calls x.sector))

puts-then-run : (cursor : CursorState) (run : List Block) (xs : List Asked) → AsksRun cursor run xs → AreSoFar (puts_of cursor.ring.hand run) xs
puts-then-run cursor run xs x =
    let puts : List Asked = puts_of cursor.ring.hand run in
    let logs : List Asked = log_calls (cursor.ring.hand + bytes_of run) x.log.log.bytes in
    let all : xs ≡ puts ++ (logs ++ header_calls x.sector) = x.asked_are ∙ (ap (λ (l : List Asked). l ++ header_calls x.sector) x.log.asked_are ∙ append_assoc puts logs (header_calls x.sector)) in
    subst (AreSoFar puts) (sym all) (so-far-front puts (logs ++ header_calls x.sector))

-- ---- one run

-- the numbers of both rings are the same, and so are the log blocks that they name
pub record StandAlike (one other : CursorState) : Type 0 where
  pub end : other.ring.end ≡ one.ring.end
  pub numbers : numbers_of other.ring ≡ numbers_of one.ring
  pub newest : other.newest ≡ one.newest
  pub second : other.second ≡ one.second

abbrev named : LogPtr → Option LogPtr
named ptr = Some ptr

module _ (one other : CursorState) (run runs : List Block) (s : StandAlike one other) (same : AreSameBlocks run runs) where
  hands : other.ring.hand ≡ one.ring.hand
  hands = ap (λ (p : Plan). p.hand) s.numbers

  laps : other.ring.lap ≡ one.ring.lap
  laps = ap (λ (p : Plan). p.lap) s.numbers

  behinds : other.ring.hand + (bytes_of runs + log_len) ≡ one.ring.hand + (bytes_of run + log_len)
  behinds = λ i. hands i + (same-bytes run runs same i + log_len)

  puts-asked : puts_of other.ring.hand runs ≡ puts_of one.ring.hand run
  puts-asked = ap (λ (h : ℕ). puts_of h runs) hands ∙ same-puts one.ring.hand run runs same

  log-asked : (xs ys : List Asked) → (x : AsksLog one run xs) → (y : AsksLog other runs ys) → (ys ≡ xs) × (y.ptr ≡ x.ptr)
  log-asked xs ys x y =
      let log = logs-alike one.ring.lap other.ring.lap one.ring.hand other.ring.hand one.second other.second run runs x.ptr y.ptr laps hands s.second same x.log y.log in
      let bytes = same-bytes run runs same in
      let calls : puts_of other.ring.hand runs ++ log_calls (other.ring.hand + bytes_of runs) y.log.bytes ≡ puts_of one.ring.hand run ++ log_calls (one.ring.hand + bytes_of run) x.log.bytes =
      λ i. puts-asked i ++ log_calls (hands i + bytes i) (log.0 i) in
      (y.asked_are ∙ (calls ∙ sym x.asked_are), log.1)

  run-asked : (xs ys : List Asked) → AsksRun one run xs → AsksRun other runs ys → ys ≡ xs
  run-asked xs ys x y =
      let log = log-asked x.front y.front x.log y.log in
      let numbers : with_hand (numbers_of other.ring) (other.ring.hand + (bytes_of runs + log_len)) ≡ with_hand (numbers_of one.ring) (one.ring.hand + (bytes_of run + log_len)) = λ i. with_hand (s.numbers i) (behinds i) in
      let headers : AreHeadersAlike x.header y.header = record {
        end = y.names.end ∙ (s.end ∙ sym x.names.end);
        numbers = y.names.numbers ∙ (numbers ∙ sym x.names.numbers);
        newest = y.names.newest ∙ (ap named log.1 ∙ sym x.names.newest);
        second = y.names.second ∙ (s.newest ∙ sym x.names.second);
        version = y.names.version ∙ sym x.names.version;
      } in
      let sectors = sectors-alike x.header y.header x.sector y.sector headers x.is y.is in
      y.asked_are ∙ ((λ i. log.0 i ++ header_calls (sectors i)) ∙ sym x.asked_are)

  -- a run that was lost, however far it came
  some-asked : (xs ys : List Asked) → AsksSome one run xs → AsksSome other runs ys → AreSoFar xs ys
  some-asked xs ys (inl x) (inl y) = so-far-same xs ys (y ∙ (puts-asked ∙ sym x))
  some-asked xs ys (inl x) (inr (inl y)) = subst (λ (l : List Asked). AreSoFar l ys) (puts-asked ∙ sym x) (puts-then-log other runs ys y)
  some-asked xs ys (inl x) (inr (inr y)) = subst (λ (l : List Asked). AreSoFar l ys) (puts-asked ∙ sym x) (puts-then-run other runs ys y)
  some-asked xs ys (inr (inl x)) (inl y) = so-far-sym ys xs (subst (λ (l : List Asked). AreSoFar l xs) (sym (y ∙ puts-asked)) (puts-then-log one run xs x))
  some-asked xs ys (inr (inl x)) (inr (inl y)) = so-far-same xs ys (log-asked xs ys x y).0
  some-asked xs ys (inr (inl x)) (inr (inr y)) = subst (λ (l : List Asked). AreSoFar l ys) (log-asked xs y.front x y.log).0 (log-then-run other runs ys y)
  some-asked xs ys (inr (inr x)) (inl y) = so-far-sym ys xs (subst (λ (l : List Asked). AreSoFar l xs) (sym (y ∙ puts-asked)) (puts-then-run one run xs x))
  some-asked xs ys (inr (inr x)) (inr (inl y)) = so-far-sym ys xs (subst (λ (l : List Asked). AreSoFar l xs) (sym (log-asked x.front ys x.log y).0) (log-then-run one run xs x))
  some-asked xs ys (inr (inr x)) (inr (inr y)) = so-far-same xs ys (run-asked xs ys x y)

  -- behind it
  run-written : (next after : CursorState) → HasWritten run one next → HasWritten runs other after → StandAlike next after
  run-written next after x y =
      let log = logs-alike one.ring.lap other.ring.lap one.ring.hand other.ring.hand one.second other.second run runs x.ptr y.ptr laps hands s.second same x.log y.log in
      record {
        end = y.end ∙ (s.end ∙ sym x.end);
        numbers = λ i. record {
          hand = (y.hand ∙ (behinds ∙ sym x.hand)) i;
          evict = (y.evict ∙ (ap (λ (p : Plan). p.evict) s.numbers ∙ sym x.evict)) i;
          top = (y.top ∙ (ap (λ (p : Plan). p.top) s.numbers ∙ sym x.top)) i;
          lap = (y.lap ∙ (laps ∙ sym x.lap)) i;
        };
        newest = y.newest ∙ (ap named log.1 ∙ sym x.newest);
        second = y.second ∙ (s.newest ∙ sym x.second);
      }

-- ---- run after run

runs-asked : (count : ℕ) (blocks others : List Block) (old now before after : CursorState) (xs ys : List Asked) → StandAlike old before → AreSameBlocks blocks others → AskRuns count blocks old now xs → AskRuns count others before after ys
    → (ys ≡ xs) × StandAlike now after
runs-asked zero blocks others old now before after xs ys s same x y = (y.1 ∙ sym x.1, subst (λ (z : CursorState × CursorState). StandAlike z.0 z.1) (λ i. (sym x.0 i, sym y.0 i)) s)
runs-asked (suc count) blocks others old now before after xs ys s same (next, first, more, whole, wrote, asks, rest) (other_next, other_first, other_more, other_whole, other_wrote, other_asks, other_rest) =
    let run = same-front most blocks others same in
    let one = run-asked old before (take most blocks) (take most others) s run first other_first asks other_asks in
    let on = run-written old before (take most blocks) (take most others) s run next other_next wrote other_wrote in
    let behind = runs-asked count (drop most blocks) (drop most others) next now other_next after more other_more on (same-rest most blocks others same) rest other_rest in
    (other_whole ∙ ((λ i. one i ++ behind.0 i) ∙ sym whole), behind.1)

-- where the run of a number lies
places-same : (a b count : ℕ) (blocks others : List Block) → b ≡ a → AreSameBlocks blocks others → run_place b count others ≡ run_place a count blocks
places-same a b count blocks others hands same = λ i. hands i + (same-bytes (take (count * most) blocks) (take (count * most) others) (same-front (count * most) blocks others same) i + log_len * count)

-- the two pointers behind so many runs
pointers-same : (n m a b : ℕ) (blocks others : List Block) (count : ℕ) (old new was now : Option LogPtr × Option LogPtr) → m ≡ n → b ≡ a → AreSameBlocks blocks others → was ≡ old → AreLogs n a blocks count old new → AreLogs m b others count was now → now ≡ new
pointers-same n m a b blocks others zero old new was now same_lap same_hand same is x y = y ∙ (is ∙ sym x)
pointers-same n m a b blocks others (suc count) old new was now same_lap same_hand same is (mid, ptr, rest, log, are) (other_mid, other_ptr, other_rest, other_log, other_are) =
    let before : other_mid ≡ mid = pointers-same n m a b blocks others count old mid was other_mid same_lap same_hand same is rest other_rest in
    let behind = same-rest (count * most) blocks others same in
    let run = same-front most (drop (count * most) blocks) (drop (count * most) others) behind in
    let one = logs-alike n m (run_place a count blocks) (run_place b count others) mid.1 other_mid.1 (take most (drop (count * most) blocks)) (take most (drop (count * most) others)) ptr other_ptr same_lap
    (places-same a b count blocks others same_hand same) (ap (λ (x : Option LogPtr × Option LogPtr). x.1) before) run log other_log in
    let both : ◌≡◌ {A = Option LogPtr × Option LogPtr} (Some other_ptr, other_mid.0) (Some ptr, mid.0) = λ i. (named (one.1 i), (before i).0) in
    other_are ∙ (both ∙ sym are)

front-bytes : (m n : ℕ) (blocks : List Block) → m ≤ n → bytes_of (take m blocks) ≤ bytes_of (take n blocks)
front-bytes zero n blocks few = omega arith
front-bytes (suc m) zero blocks few = absurd (omega arith)
front-bytes (suc m) (suc n) [] few = omega arith
front-bytes (suc m) (suc n) (b ∷ blocks) few = let e = bytes_cons b (take m blocks) in let f = bytes_cons b (take n blocks) in let more = front-bytes m n blocks (omega arith) in omega arith

places-rise : (hand a b : ℕ) (blocks : List Block) → a < b → run_place hand a blocks < run_place hand b blocks
places-rise hand a b blocks less = let e = front-bytes (a * most) (b * most) blocks (omega arith) in omega arith

counts-one : (hand a b : ℕ) (blocks : List Block) → run_place hand a blocks ≡ run_place hand b blocks → a ≡ b
counts-one hand a b blocks same = elim (cases_lt a b) [
  | inl less ↦ let e = places-rise hand a b blocks less in absurd (omega arith)
  | inr not_less ↦ elim (cases_lt b a) [
    | inl more ↦ let e = places-rise hand b a blocks more in absurd (omega arith)
    | inr not_more ↦ omega arith
  ]
]

-- ---- a batch

module _ {old new before now : CursorState} {blocks others : List Block} {clears settles other_clears other_settles : List Act} {end other_end : FeedStop} (w : IsWritten old new blocks clears settles end)
    (v : IsWritten before now others other_clears other_settles other_end) (like : AreCursorsAlike old before) (same : AreSameBlocks blocks others) where
  plans : v.planned.plan ≡ w.planned.plan
  plans =
      let bytes : batch_len others ≡ batch_len blocks = λ i. same-bytes blocks others same i + log_len * runs_of (same-many blocks others same i) in
      plan_is before.ring (batch_len others) v.planned.plan v.planned.plan_for ∙ ((λ i. plan_for (like.ring i) (bytes i)) ∙ sym (plan_is old.ring (batch_len blocks) w.planned.plan w.planned.plan_for))

  begun-alike : StandAlike w.begun v.begun
  begun-alike = record {
    end = v.planned.numbers.end ∙ (ap (λ (r : RingState). r.end) like.ring ∙ sym w.planned.numbers.end);
    numbers = λ i. record {
      hand = (v.planned.numbers.hand ∙ (ap (λ (p : Plan). p.hand) plans ∙ sym w.planned.numbers.hand)) i;
      evict = (v.planned.numbers.evict ∙ (ap (λ (p : Plan). p.evict) plans ∙ sym w.planned.numbers.evict)) i;
      top = (v.planned.numbers.top ∙ (ap (λ (p : Plan). p.top) plans ∙ sym w.planned.numbers.top)) i;
      lap = (v.planned.numbers.lap ∙ (ap (λ (p : Plan). p.lap) plans ∙ sym w.planned.numbers.lap)) i;
    };
    newest = v.planned.newest ∙ (like.newest ∙ sym w.planned.newest);
    second = v.planned.second ∙ (like.second ∙ sym w.planned.second);
  }

  header-asked : (xs ys : List Asked) → AsksHeader w.begun xs → AsksHeader v.begun ys → ys ≡ xs
  header-asked xs ys x y =
      let bases : v.begun.base ≡ w.begun.base = v.planned.base ∙ (ap (λ (p : Plan). p.hand) plans ∙ sym w.planned.base) in
      let numbers : with_hand (numbers_of v.begun.ring) v.begun.base ≡ with_hand (numbers_of w.begun.ring) w.begun.base = λ i. with_hand (begun-alike.numbers i) (bases i) in
      let headers : AreHeadersAlike x.header y.header = record {
        end = y.from.end ∙ (begun-alike.end ∙ sym x.from.end);
        numbers = y.from.numbers ∙ (numbers ∙ sym x.from.numbers);
        newest = y.from.newest ∙ (begun-alike.newest ∙ sym x.from.newest);
        second = y.from.second ∙ (begun-alike.second ∙ sym x.from.second);
        version = y.from.version ∙ sym x.from.version;
      } in
      y.asked_are ∙ (ap header_calls (sectors-alike x.header y.header x.sector y.sector headers x.is y.is) ∙ sym x.asked_are)

  begun-hands : v.begun.ring.hand ≡ w.begun.ring.hand
  begun-hands = ap (λ (p : Plan). p.hand) begun-alike.numbers

  -- both wrote as many runs, since the hand stands behind them
  counts-same : bare now.ring ≡ bare new.ring → v.ran.count ≡ w.ran.count
  counts-same rings =
      let hands : now.ring.hand ≡ new.ring.hand = ap (λ (r : RingState). r.hand) rings in
      let places : run_place w.begun.ring.hand v.ran.count blocks ≡ run_place w.begun.ring.hand w.ran.count blocks =
      sym (places-same w.begun.ring.hand v.begun.ring.hand v.ran.count blocks others begun-hands same) ∙ (sym v.ran.numbers.hand ∙ (hands ∙ w.ran.numbers.hand)) in
      counts-one w.begun.ring.hand v.ran.count w.ran.count blocks places

  batch-cursors : bare now.ring ≡ bare new.ring → AreCursorsAlike new now
  batch-cursors rings =
      let logs : AreLogs v.begun.ring.lap v.begun.ring.hand others w.ran.count (v.begun.newest, v.begun.second) (now.newest, now.second) =
      subst (λ (k : ℕ). AreLogs v.begun.ring.lap v.begun.ring.hand others k (v.begun.newest, v.begun.second) (now.newest, now.second)) (counts-same rings) v.ran.logs in
      let first : ◌≡◌ {A = Option LogPtr × Option LogPtr} (v.begun.newest, v.begun.second) (w.begun.newest, w.begun.second) = λ i. (begun-alike.newest i, begun-alike.second i) in
      let last : ◌≡◌ {A = Option LogPtr × Option LogPtr} (now.newest, now.second) (new.newest, new.second) =
      pointers-same w.begun.ring.lap v.begun.ring.lap w.begun.ring.hand v.begun.ring.hand blocks others w.ran.count (w.begun.newest, w.begun.second) (new.newest, new.second) (v.begun.newest, v.begun.second) (now.newest, now.second)
      (ap (λ (p : Plan). p.lap) begun-alike.numbers) begun-hands same first w.ran.logs logs in
      record { ring = rings; newest = ap (λ (x : Option LogPtr × Option LogPtr). x.0) last; second = ap (λ (x : Option LogPtr × Option LogPtr). x.1) last }

  -- all were done
  batch-done : (k : ℕ) (xs ys : List DeviceCall) → BatchCalls w.begun blocks k stop.Done xs → BatchCalls v.begun others k stop.Done ys → ys ≡ xs
  batch-done k xs ys (inl lost) asks = absurd (let clash : stop.Done ≡ stop.DevFault = lost.0 in cc)
  batch-done k xs ys (inr all) (inl lost) = absurd (let clash : stop.Done ≡ stop.DevFault = lost.0 in cc)
  batch-done k xs ys (inr (asked, more, header, runs, are)) (inr (other_asked, other_more, other_header, other_runs, other_are)) =
      let headers : other_asked ≡ asked = header-asked asked other_asked header other_header in
      let all = runs-asked k blocks others w.begun runs.now v.begun other_runs.now runs.asked other_runs.asked begun-alike same runs.whole other_runs.whole in
      let none : other_runs.last ≡ runs.last = other_runs.ended ∙ sym runs.ended in
      let behind : other_more ≡ more = other_runs.calls_are ∙ ((λ i. all_gave (all.0 i) ++ none i) ∙ sym runs.calls_are) in
      other_are ∙ ((λ i. all_gave (headers i) ++ behind i) ∙ sym are)

  -- one failed: at the header, or at a run
  batch-lost : (k : ℕ) (xs ys : List DeviceCall) (us vs : List Call) → answers_of ys ++ vs ≡ answers_of xs ++ us → BatchCalls w.begun blocks k stop.DevFault xs → BatchCalls v.begun others k stop.DevFault ys → ys ≡ xs
  batch-lost k xs ys us vs row (inl (is, none, asked, header, up)) (inl (other_is, other_none, other_asked, other_header, other_up)) =
      up-one asked other_asked xs ys us vs (so-far-same asked other_asked (header-asked asked other_asked header other_header)) up other_up row
  batch-lost k xs ys us vs row (inl (is, none, asked, header, up)) (inr (other_asked, other_more, other_header, other_runs, other_are)) =
      let lost = other_runs.ended in
      let rest : List Asked = other_runs.asked ++ lost.0 in
      let so_far : AreSoFar asked (other_asked ++ rest) = subst (λ (l : List Asked). AreSoFar l (other_asked ++ rest)) (header-asked asked other_asked header other_header) (so-far-front other_asked rest) in
      up-one asked (other_asked ++ rest) xs ys us vs so_far up (up-whole other_asked other_runs.asked lost.0 other_runs.last other_more ys lost.2 other_runs.calls_are other_are) row
  batch-lost k xs ys us vs row (inr (asked, more, header, runs, are)) (inl (other_is, other_none, other_asked, other_header, other_up)) =
      let lost = runs.ended in
      let rest : List Asked = runs.asked ++ lost.0 in
      let so_far : AreSoFar other_asked (asked ++ rest) = subst (λ (l : List Asked). AreSoFar l (asked ++ rest)) (sym (header-asked asked other_asked header other_header)) (so-far-front asked rest) in
      up-one (asked ++ rest) other_asked xs ys us vs (so-far-sym other_asked (asked ++ rest) so_far) (up-whole asked runs.asked lost.0 runs.last more xs lost.2 runs.calls_are are) other_up row
  batch-lost k xs ys us vs row (inr (asked, more, header, runs, are)) (inr (other_asked, other_more, other_header, other_runs, other_are)) =
      let lost = runs.ended in
      let other_lost = other_runs.ended in
      let headers : other_asked ≡ asked = header-asked asked other_asked header other_header in
      let all = runs-asked k blocks others w.begun runs.now v.begun other_runs.now runs.asked other_runs.asked begun-alike same runs.whole other_runs.whole in
      let run = same-front most (drop (k * most) blocks) (drop (k * most) others) (same-rest (k * most) blocks others same) in
      let some = some-asked runs.now other_runs.now (take most (drop (k * most) blocks)) (take most (drop (k * most) others)) all.1 run lost.0 other_lost.0 lost.1 other_lost.1 in
      let so_far : AreSoFar (asked ++ (runs.asked ++ lost.0)) (other_asked ++ (other_runs.asked ++ other_lost.0)) =
      subst (λ (z : List Asked × List Asked). AreSoFar (asked ++ (runs.asked ++ lost.0)) (z.0 ++ (z.1 ++ other_lost.0))) (λ i. (sym headers i, sym all.0 i))
      (so-far-behind asked (runs.asked ++ lost.0) (runs.asked ++ other_lost.0) (so-far-behind runs.asked lost.0 other_lost.0 some)) in
      up-one (asked ++ (runs.asked ++ lost.0)) (other_asked ++ (other_runs.asked ++ other_lost.0)) xs ys us vs so_far (up-whole asked runs.asked lost.0 runs.last more xs lost.2 runs.calls_are are)
      (up-whole other_asked other_runs.asked other_lost.0 other_runs.last other_more ys other_lost.2 other_runs.calls_are other_are) row

  batch-by-end : (e : FeedStop) (k : ℕ) (xs ys : List DeviceCall) (us vs : List Call) → e ≢ stop.NoMemory → answers_of ys ++ vs ≡ answers_of xs ++ us → BatchCalls w.begun blocks k e xs → BatchCalls v.begun others k e ys → ys ≡ xs
  batch-by-end stop.Done k xs ys us vs ended row asks other_asks = batch-done k xs ys asks other_asks
  batch-by-end stop.DevFault k xs ys us vs ended row asks other_asks = batch-lost k xs ys us vs row asks other_asks
  batch-by-end stop.NoMemory k xs ys us vs ended row asks other_asks = absurd (ended refl)

  batch-calls : (e : FeedStop) (xs ys : List DeviceCall) (us vs : List Call) → e ≢ stop.NoMemory → answers_of ys ++ vs ≡ answers_of xs ++ us → bare now.ring ≡ bare new.ring → BatchCalls w.begun blocks w.ran.count e xs
      → BatchCalls v.begun others v.ran.count e ys → ys ≡ xs
  batch-calls e xs ys us vs ended row rings asks other_asks = batch-by-end e w.ran.count xs ys us vs ended row asks (subst (λ (k : ℕ). BatchCalls v.begun others k e ys) (counts-same rings) other_asks)

-- ---- one shard

none-picked : (picks : List Pick_of) (blocks : List Block) → [] ≡ picks → map pick_of_block blocks ≡ picks → 0 < length blocks → ⊥
none-picked picks [] none are some = omega arith
none-picked picks (b ∷ blocks) none are some = no-cons (pick_of_block b) (map pick_of_block blocks) (are ∙ sym none)

same-cursors : (old new before now : CursorState) → new ≡ old → now ≡ before → AreCursorsAlike old before → AreCursorsAlike new now
same-cursors old new before now is other_is like =
    subst (λ (x : CursorState × CursorState). AreCursorsAlike x.0 x.1) (λ i. (sym is i, sym other_is i)) like

module _ (g : Config) (n : ℕ) where
  batch-comes : (shard : ℕ) (old new before now : CursorState) (acts others : List Act) (xs ys : List DeviceCall) (end : FeedStop) (s : ℕ → PlainShard) (us vs : List Call) → end ≢ stop.NoMemory → FedBatch shard old new acts xs end → FedBatch shard before now others ys end
      → AreOfShards g n s acts → AreOfShards g n s others → AreCursorsAlike old before → bare now.ring ≡ bare new.ring → answers_of ys ++ vs ≡ answers_of xs ++ us → ComeToOne new now xs ys ⊎ PicksTwo acts others
  batch-comes shard old new before now acts others xs ys end s us vs ended f h of other_of like rings row = elim (lists-known (map (λ (b : Block). b.block.value) h.blocks) (map (λ (b : Block). b.block.value) f.blocks)) [
    | inl bytes ↦ inl (go (same-blocks f.blocks h.blocks picks bytes) f.written f.asks h.written h.asks)
    | inr differ ↦ inr (record {
      shard = shard;
      blocks = f.blocks;
      other_blocks = h.blocks;
      picked = subst (IsAmongActs (Picked shard f.blocks)) (sym f.acts_are) (inl refl);
      other_picked = subst (IsAmongActs (Picked shard h.blocks)) (sym h.acts_are) (inl refl);
      same = picks;
      differ = differ;
    })
  ]
    where
      all : AreOfShards g n s (Picked shard f.blocks ∷ (f.clears ++ f.settles))
      all = subst (AreOfShards g n s) f.acts_are of

      other_all : AreOfShards g n s (Picked shard h.blocks ∷ (h.clears ++ h.settles))
      other_all = subst (AreOfShards g n s) h.acts_are other_of

      picks : map pick_of_block h.blocks ≡ map pick_of_block f.blocks
      picks = other_all.0 ∙ sym all.0

      go : AreSameBlocks f.blocks h.blocks → (w : IsWritten old new f.blocks f.clears f.settles end ⊎ IsUnwritten old new f.blocks f.clears f.settles end) → WrittenCalls w xs
          → (v : IsWritten before now h.blocks h.clears h.settles end ⊎ IsUnwritten before now h.blocks h.clears h.settles end) → WrittenCalls v ys → ComeToOne new now xs ys
      go same (inr u) asks v other_asks = absurd (ended u.ended)
      go same (inl w) asks (inr u) other_asks = absurd (ended u.ended)
      go same (inl w) asks (inl v) other_asks = record {
        cursors = batch-cursors w v like same rings;
        asked = batch-calls w v like same end xs ys us vs ended row rings asks other_asks;
      }

  shard-comes : (shard : ℕ) (old new before now : CursorState) (acts others : List Act) (xs ys : List DeviceCall) (end : FeedStop) (s : ℕ → PlainShard) (us vs : List Call) → end ≢ stop.NoMemory → FedShard shard old new acts xs end → FedShard shard before now others ys end
      → AreOfShards g n s acts → AreOfShards g n s others → AreCursorsAlike old before → bare now.ring ≡ bare new.ring → answers_of ys ++ vs ≡ answers_of xs ++ us → ComeToOne new now xs ys ⊎ PicksTwo acts others
  shard-comes shard old new before now acts others xs ys end s us vs ended (inl f) (inl h) of other_of like rings row = inl (record { cursors = same-cursors old new before now f.1 h.1 like; asked = h.3 ∙ sym f.3 })
  shard-comes shard old new before now acts others xs ys end s us vs ended (inl f) (inr (inl h)) of other_of like rings row = absurd (ended h.2)
  shard-comes shard old new before now acts others xs ys end s us vs ended (inl f) (inr (inr h)) of other_of like rings row =
      absurd (none-picked (picks_from (s shard)) h.blocks (subst (AreOfShards g n s) f.0 of).0 (subst (AreOfShards g n s) h.acts_are other_of).0 h.some)
  shard-comes shard old new before now acts others xs ys end s us vs ended (inr (inl f)) h of other_of like rings row = absurd (ended f.2)
  shard-comes shard old new before now acts others xs ys end s us vs ended (inr (inr f)) (inl h) of other_of like rings row =
      absurd (none-picked (picks_from (s shard)) f.blocks (subst (AreOfShards g n s) h.0 other_of).0 (subst (AreOfShards g n s) f.acts_are of).0 f.some)
  shard-comes shard old new before now acts others xs ys end s us vs ended (inr (inr f)) (inr (inl h)) of other_of like rings row = absurd (ended h.2)
  shard-comes shard old new before now acts others xs ys end s us vs ended (inr (inr f)) (inr (inr h)) of other_of like rings row = batch-comes shard old new before now acts others xs ys end s us vs ended f h of other_of like rings row

  -- ---- all of them

  two-front : (acts first more others other_first other_more : List Act) → acts ≡ first ++ more → others ≡ other_first ++ other_more → PicksTwo first other_first → PicksTwo acts others
  two-front acts first more others other_first other_more is other_is p = record {
    shard = p.shard;
    blocks = p.blocks;
    other_blocks = p.other_blocks;
    picked = subst (IsAmongActs (Picked p.shard p.blocks)) (sym is) (in_left (Picked p.shard p.blocks) first more p.picked);
    other_picked = subst (IsAmongActs (Picked p.shard p.other_blocks)) (sym other_is) (in_left (Picked p.shard p.other_blocks) other_first other_more p.other_picked);
    same = p.same;
    differ = p.differ;
  }

  two-behind : (acts first more others other_first other_more : List Act) → acts ≡ first ++ more → others ≡ other_first ++ other_more → PicksTwo more other_more → PicksTwo acts others
  two-behind acts first more others other_first other_more is other_is p = record {
    shard = p.shard;
    blocks = p.blocks;
    other_blocks = p.other_blocks;
    picked = subst (IsAmongActs (Picked p.shard p.blocks)) (sym is) (in_right (Picked p.shard p.blocks) first more p.picked);
    other_picked = subst (IsAmongActs (Picked p.shard p.other_blocks)) (sym other_is) (in_right (Picked p.shard p.other_blocks) other_first other_more p.other_picked);
    same = p.same;
    differ = p.differ;
  }

  never-full : stop.Done ≢ stop.NoMemory
  never-full is = let clash : stop.Done ≡ stop.NoMemory = is in cc

  -- the answers to calls of two parts
  row_of_two : (front behind all : List DeviceCall) (later : List Call) → all ≡ front ++ behind → answers_of all ++ later ≡ answers_of front ++ (answers_of behind ++ later)
  row_of_two front behind all later is = ap (λ (l : List DeviceCall). answers_of l ++ later) is ∙ answers_two front behind later

  -- one shard is fed in both, whatever is answered behind it
  shards-joined : (shard : ℕ) (old new before now : CursorState) (acts others : List Act) (xs ys : List DeviceCall) (end other_end : FeedStop) (s : ℕ → PlainShard) (us vs : List Call) → FedShard shard old new acts xs end → FedShard shard before now others ys other_end
      → end ≢ stop.NoMemory → other_end ≢ stop.NoMemory → NoneRefused acts → NoneRefused others → AreOfShards g n s acts → AreOfShards g n s others → AreCursorsAlike old before → answers_of ys ++ vs ≡ answers_of xs ++ us
      → fed_as g n s now.ring vs other_end others ≡ fed_as g n s new.ring us end acts
  shards-joined shard old new before now acts others xs ys end other_end s us vs f h ended other_ended none other_none of other_of like row =
      sym (shard_fed g n shard before now others ys other_end s vs h other_ended other_none other_of)
      ∙ ((λ i. shard_from g n shard record { shards = s; ring = like.ring i; answers = row i }) ∙ shard_fed g n shard old new acts xs end s us f ended none of)

  feeds-come : (shard count : ℕ) (old new before now : CursorState) (acts others : List Act) (xs ys : List DeviceCall) (end other_end : FeedStop) (s : ℕ → PlainShard) (us vs : List Call) → AreFed shard count old new acts xs end
      → AreFed shard count before now others ys other_end → end ≢ stop.NoMemory → other_end ≢ stop.NoMemory → NoneRefused acts → NoneRefused others → AreOfShards g n s acts → AreOfShards g n s others → AreCursorsAlike old before
      → answers_of ys ++ vs ≡ answers_of xs ++ us → ComeToOne new now xs ys ⊎ PicksTwo acts others
  feeds-come shard zero old new before now acts others xs ys end other_end s us vs f h ended other_ended none other_none of other_of like row = inl (record { cursors = same-cursors old new before now f.1 h.1 like; asked = h.3 ∙ sym f.3 })
  feeds-come shard (suc count) old new before now acts others xs ys end other_end s us vs (inl f) (inl h) ended other_ended none other_none of other_of like row =
      let joined = shards-joined shard old new before now acts others xs ys end other_end s us vs f.1 h.1 ended other_ended none other_none of other_of like row in
      let ends : other_end ≡ end = ap (λ (fed : PlainFed). fed.end) joined in
      shard-comes shard old new before now acts others xs ys end s us vs ended f.1 (subst (FedShard shard before now others ys) ends h.1) of other_of like (ap (λ (fed : PlainFed). fed.at.ring) joined) row
  feeds-come shard (suc count) old new before now acts others xs ys end other_end s us vs (inl f) (inr (first, more, between, front, behind, is, asked, one, rest)) ended other_ended none other_none of other_of like row =
      let cut = none_two first more (subst NoneRefused is other_none) in
      let parts = of_two g n s first more (subst (AreOfShards g n s) is other_of) in
      let rows = row_of_two front behind ys vs asked in
      let joined = shards-joined shard old new before between acts first xs front end stop.Done s us (answers_of behind ++ vs) f.1 one ended never-full none cut.0 of parts.0 like (sym rows ∙ row) in
      absurd (f.0 (sym (ap (λ (fed : PlainFed). fed.end) joined)))
  feeds-come shard (suc count) old new before now acts others xs ys end other_end s us vs (inr (first, more, between, front, behind, is, asked, one, rest)) (inl h) ended other_ended none other_none of other_of like row =
      let cut = none_two first more (subst NoneRefused is none) in
      let parts = of_two g n s first more (subst (AreOfShards g n s) is of) in
      let rows = row_of_two front behind xs us asked in
      let joined = shards-joined shard old between before now first others front ys stop.Done other_end s (answers_of behind ++ us) vs one h.1 never-full other_ended cut.0 other_none parts.0 other_of like (row ∙ rows) in
      absurd (h.0 (ap (λ (fed : PlainFed). fed.end) joined))
  feeds-come shard (suc count) old new before now acts others xs ys end other_end s us vs (inr (first, more, between, front, behind, is, asked, one, rest))
      (inr (other_first, other_more, other_between, other_front, other_behind, other_is, other_asked, other_one, other_rest)) ended other_ended none other_none of other_of like row =
      let cut = none_two first more (subst NoneRefused is none) in
      let other_cut = none_two other_first other_more (subst NoneRefused other_is other_none) in
      let parts = of_two g n s first more (subst (AreOfShards g n s) is of) in
      let other_parts = of_two g n s other_first other_more (subst (AreOfShards g n s) other_is other_of) in
      let rows : answers_of other_front ++ (answers_of other_behind ++ vs) ≡ answers_of front ++ (answers_of behind ++ us) = sym (row_of_two other_front other_behind ys vs other_asked) ∙ (row ∙ row_of_two front behind xs us asked) in
      let joined = shards-joined shard old between before other_between first other_first front other_front stop.Done stop.Done s (answers_of behind ++ us) (answers_of other_behind ++ vs) one other_one never-full never-full cut.0 other_cut.0
      parts.0 other_parts.0 like rows in
      let shards : all_after g n s other_first ≡ all_after g n s first = ap (λ (fed : PlainFed). fed.at.shards) joined in
      elim (shard-comes shard old between before other_between first other_first front other_front stop.Done s (answers_of behind ++ us) (answers_of other_behind ++ vs) never-full one other_one parts.0 other_parts.0 like
      (ap (λ (fed : PlainFed). fed.at.ring) joined) rows) [
        | inr two ↦ inr (two-front acts first more others other_first other_more is other_is two)
        | inl here ↦ elim (feeds-come (suc shard) count between new other_between now more other_more behind other_behind end other_end (all_after g n s first) us vs rest other_rest ended other_ended cut.1 other_cut.1 parts.1
            (subst (λ (t : ℕ → PlainShard). AreOfShards g n t other_more) shards other_parts.1) here.cursors (ap (λ (fed : PlainFed). fed.at.answers) joined)) [
              | inr two ↦ inr (two-behind acts first more others other_first other_more is other_is two)
              | inl last ↦ inl (record { cursors = last.cursors; asked = other_asked ∙ ((λ i. here.asked i ++ last.asked i) ∙ sym asked) })
            ]
      ]

pub come_to_one : FeedsComeToOne
come_to_one g n s old new before now acts others xs ys end other_end f h of other_of ended other_ended none other_none like row =
    feeds-come g n 0 g.shards old new before now acts others xs ys end other_end s [] [] f h ended other_ended none other_none of other_of like (ap (λ (l : List Call). l ++ []) row)
