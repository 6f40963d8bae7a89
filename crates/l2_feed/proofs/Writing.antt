-- What is so as the blocks of a run are put, and as run after run is written and set.
use Rattle.std.proofs.Common.{◌≡◌, ℕ, zero, suc, ◌+◌, ◌*◌, ◌<◌, ◌≤◌, true, List, [], ◌∷◌, ◌++◌, length, get_or, drop, take, map, Option, Some, refl, sym, ap, ◌∙◌, subst, arith, add-one, append_assoc, append-nil}
use Rattle.std.specs.Prelude.{count_by}
use Rattle.std.proofs.lemmas.List.{length-drop, length-map, map-append, take-append-drop}
use Rattle.blk_ptr.specs.Ptr.{sha256_of}
use Rattle.turn_table.specs.Places.{Place}
use Rattle.arc_table.specs.declared.picks.Picked.{Picked as Block}
use Rattle.arc_table.specs.declared.view.Known.{Known}
use Rattle.arc_table.specs.Cache.{Cache}
use Rattle.arc_table.specs.Items.{Meanings}
use Rattle.l2_log.specs.Rules.{log_len}
use Rattle.l2_log.specs.declared.entry.LogEntry.{LogEntry}
use Rattle.l2_log.specs.declared.log_block.LogBlock.{LogBlock}
use Rattle.l2_log.specs.declared.pointer.LogPtr.{LogPtr}
use Rattle.l2_ring.specs.declared.live.Written.{Written}
use Rattle.l2_ring.specs.Ring.{HasPlan, numbers_of, with_hand}
use Rattle.l2_dev.specs.declared.fault.DevErr.{DevErr}
use Rattle.l2_dev.specs.declared.fault.DevErr.TheVariants as err
use Rattle.l2_dev.specs.declared.report.FeedStop.TheVariants as stop
use Rattle.l2_dev.specs.Calls.{HasCommitWritten}
use Rattle.l2_dev.specs.Cursor.{CursorState}
use Rattle.l2_dev.specs.Planned.{HasPushed, HasSettled, IsBlockOf, IsForgotten}
use Rattle.l2_dev.specs.Restoring.{written_in}
use Rattle.l2_feed.specs.Acts.{Act, DoesActs}
use Rattle.l2_feed.specs.Ready.{IsFeeding}
use Rattle.l2_feed.specs.Runs.{AreLeft, AreLogs, AreRuns, AreSet, AreWhole, HasPut, HasWritten, IsLogOf, bytes_of, most, row_of, run_place, runs_of}
use Rattle.l2_feed.specs.Shape.{HaveRun, LeavesSome, stop_of, why_of}
use Rattle.l2_feed.specs.Sums.{is_placed}
use Rattle.l2_feed.proofs.Acted.{acts_append}
use Rattle.l2_feed.proofs.Counting.{left-none, placed-append}
use Rattle.l2_feed.proofs.Lists.{bytes_cons, bytes_split, drop_one}
use Rattle.l2_feed.proofs.Running.{drop_more, no_runs, runs_behind, runs_step}

-- ---- the blocks of one run

length-last : {X : Type 0} (xs : List X) (x : X) → length (xs ++ x ∷ []) ≡ length xs + 1
length-last [] x = refl
length-last (y ∷ xs) x = let e = length-last xs x in omega arith

pub record PutSo (run : List Block) (i : ℕ) (old now : CursorState) : Type 0 where
  pub end : now.ring.end ≡ old.ring.end
  pub evict : now.ring.evict ≡ old.ring.evict
  pub top : now.ring.top ≡ old.ring.top
  pub lap : now.ring.lap ≡ old.ring.lap
  pub live : now.ring.live ≡ old.ring.live
  pub base : now.base ≡ old.base
  pub newest : now.newest ≡ old.newest
  pub second : now.second ≡ old.second
  pub ready : now.ready ≡ true
  pub hand : now.ring.hand + bytes_of (drop i run) ≡ old.ring.hand + bytes_of run
  pub many : length now.pending ≡ i
  pub whole : AreWhole (drop i run)
  pub pending : map (written_in old.ring.lap) now.pending ++ row_of old.ring.lap now.ring.hand (drop i run) ≡ row_of old.ring.lap old.ring.hand run

pub put_start : (run : List Block) (old : CursorState) → old.ready ≡ true → old.pending ≡ [] → AreWhole run → PutSo run 0 old old
put_start run old ready none whole = record {
  end = refl;
  evict = refl;
  top = refl;
  lap = refl;
  live = refl;
  base = refl;
  newest = refl;
  second = refl;
  ready = ready;
  hand = refl;
  many = ap length none;
  whole = whole;
  pending = ap (λ (es : List LogEntry). map (written_in old.ring.lap) es ++ row_of old.ring.lap old.ring.hand run) none;
}

module _ (run : List Block) (i : ℕ) (d : Block) (old now : CursorState) (below : i < length run) (so : PutSo run i old now) where
  abbrev b : Block
  b = get_or run i d

  next : drop i run ≡ b ∷ drop (i + 1) run
  next = drop_one run i d below

  pub next_whole : AreWhole (b ∷ drop (i + 1) run)
  next_whole = subst AreWhole next so.whole

  pub next_room : now.ring.hand + (b.key.size + bytes_of (drop (i + 1) run)) ≡ old.ring.hand + bytes_of run
  next_room = let e = ap bytes_of next ∙ bytes_cons b (drop (i + 1) run) in let h = so.hand in omega arith

  pub put_turn : (new : CursorState) (entry : LogEntry) → entry.key ≡ b.key → entry.place ≡ now.ring.hand → entry.digest ≡ Some (sha256_of b.block.value) → HasPushed entry now new → PutSo run (i + 1) old new
  put_turn new entry key place digest pushed =
      let lap : ℕ = old.ring.lap in
      let behind : List Written = row_of lap new.ring.hand (drop (i + 1) run) in
      let told : written_in lap entry ≡ record { live = record { key = b.key; place = now.ring.hand; digest = Some (sha256_of b.block.value) }; lap = lap } =
      λ z. record { live = record { key = key z; place = place z; digest = digest z }; lap = lap } in
      let hand : new.ring.hand ≡ now.ring.hand + b.key.size = pushed.hand ∙ ap (λ k. now.ring.hand + k) (ap (λ k. k.size) key) in
      record {
        end = pushed.end ∙ so.end;
        evict = pushed.evict ∙ so.evict;
        top = pushed.top ∙ so.top;
        lap = pushed.lap ∙ so.lap;
        live = pushed.live ∙ so.live;
        base = pushed.base ∙ so.base;
        newest = pushed.newest ∙ so.newest;
        second = pushed.second ∙ so.second;
        ready = pushed.ready ∙ so.ready;
        hand = (let e = next_room in omega arith);
        many = (let e = ap length pushed.pending in let m = so.many in let l = length-last now.pending entry in omega arith);
        whole = next_whole.1;
        pending =
            ap (λ (es : List LogEntry). map (written_in lap) es ++ behind) pushed.pending
            ∙ (ap (λ (ws : List Written). ws ++ behind) (map-append (written_in lap) now.pending (entry ∷ []))
            ∙ (append_assoc (map (written_in lap) now.pending) (written_in lap entry ∷ []) behind
            ∙ (ap (λ (x : Written × ℕ). map (written_in lap) now.pending ++ (x.0 ∷ row_of lap x.1 (drop (i + 1) run))) (λ z. (told z, hand z))
            ∙ (ap (λ (bs : List Block). map (written_in lap) now.pending ++ row_of lap now.ring.hand bs) (sym next) ∙ so.pending))));
      }

length_row : (lap place : ℕ) (bs : List Block) → length (row_of lap place bs) ≡ length bs
length_row lap place [] = refl
length_row lap place (b ∷ bs) = let e = length_row lap (place + b.key.size) bs in omega arith

pub put_end : (run : List Block) (i : ℕ) (old now : CursorState) → drop i run ≡ [] → PutSo run i old now → HasPut run old now
put_end run i old now none so =
    let told : map (written_in old.ring.lap) now.pending ≡ row_of old.ring.lap old.ring.hand run =
    sym (append-nil (map (written_in old.ring.lap) now.pending))
    ∙ (ap (λ (bs : List Block). map (written_in old.ring.lap) now.pending ++ row_of old.ring.lap now.ring.hand bs) (sym none) ∙ so.pending) in
    record {
      end = so.end;
      evict = so.evict;
      top = so.top;
      lap = so.lap;
      hand = (let e = ap bytes_of none in let h = so.hand in omega arith);
      live = so.live;
      base = so.base;
      newest = so.newest;
      second = so.second;
      many = sym (length-map now.pending (written_in old.ring.lap)) ∙ (ap length told ∙ length_row old.ring.lap old.ring.hand run);
      pending = told;
      ready = so.ready;
    }

-- what is forgotten of a run is forgotten of the cursor before it
pub put_lost : (run : List Block) (i : ℕ) (old now new : CursorState) → PutSo run i old now → IsForgotten now new → IsForgotten old new
put_lost run i old now new so f = record {
  pending = f.pending;
  hand = f.hand ∙ so.base;
  end = f.end ∙ so.end;
  evict = f.evict ∙ so.evict;
  top = f.top ∙ so.top;
  lap = f.lap ∙ so.lap;
  live = f.live ∙ so.live;
  base = f.base ∙ so.base;
  newest = f.newest ∙ so.newest;
  second = f.second ∙ so.second;
  ready = f.ready;
}

pub commit_lost : (run : List Block) (old now new : CursorState) → HasPut run old now → IsForgotten now new → IsForgotten old new
commit_lost run old now new so f = record {
  pending = f.pending;
  hand = f.hand ∙ so.base;
  end = f.end ∙ so.end;
  evict = f.evict ∙ so.evict;
  top = f.top ∙ so.top;
  lap = f.lap ∙ so.lap;
  live = f.live ∙ so.live;
  base = f.base ∙ so.base;
  newest = f.newest ∙ so.newest;
  second = f.second ∙ so.second;
  ready = f.ready;
}

-- the log block of a commit is that of the run
abbrev pub log_is : (run : List Block) (old now : CursorState) (bytes : List ℕ) (ptr : LogPtr) (block : LogBlock) → HasPut run old now → IsBlockOf now bytes ptr block → IsLogOf old.ring.lap old.ring.hand old.second run ptr
log_is run old now bytes ptr block so b = record {
  bytes = bytes;
  block = block;
  written = b.bytes_of;
  are_bytes = b.are_bytes;
  version = b.version;
  lap = b.lap ∙ so.lap;
  prev = b.prev ∙ so.second;
  entries = ap (map (written_in old.ring.lap)) b.entries ∙ so.pending;
  place = b.place ∙ so.hand;
  count = b.count ∙ so.many;
  digest = b.digest;
}

pub committed : (run : List Block) (old now new : CursorState) (ptr : LogPtr) (before told : Option (List ℕ)) → HasPut run old now → HasSettled ptr now new → HasCommitWritten before told now ptr → HasWritten run old new
committed run old now new ptr before told so s w = record {
  end = s.end ∙ so.end;
  evict = s.evict ∙ so.evict;
  top = s.top ∙ so.top;
  lap = s.lap ∙ so.lap;
  hand = (let h = s.hand in let g = so.hand in omega arith);
  live = s.live ∙ (λ z. so.live z ++ (ap (λ (n : ℕ). map (written_in n) now.pending) so.lap ∙ so.pending) z);
  base = s.base;
  ptr = ptr;
  log = log_is run old now w.0 ptr w.1 so w.4;
  newest = s.newest;
  second = s.second ∙ so.newest;
  pending = s.pending;
  ready = s.ready ∙ so.ready;
}

some_pending : (lap hand : ℕ) (run : List Block) (es : List LogEntry) → 0 < length run → map (written_in lap) es ≡ row_of lap hand run → 0 < length es
some_pending lap hand [] es none is = absurd (omega arith)
some_pending lap hand (b ∷ bs) [] some is = cc
some_pending lap hand (b ∷ bs) (e ∷ es) some is = omega arith

pub put_some : (run : List Block) (old now : CursorState) → 0 < length run → HasPut run old now → 0 < length now.pending
put_some run old now some so = some_pending old.ring.lap old.ring.hand run now.pending some so.pending

-- ---- run after run

length_front : (n : ℕ) (bs : List Block) → length (take n bs) ≤ n
length_front zero bs = omega arith
length_front (suc n) [] = omega arith
length_front (suc n) (x ∷ bs) = let e = length_front n bs in omega arith

pub some_front : (n : ℕ) (bs : List Block) → 0 < length bs → 0 < length (take (suc n) bs)
some_front n [] some = absurd (omega arith)
some_front n (x ∷ bs) some = omega arith

pub length-take-drop : (n : ℕ) (bs : List Block) → length (take n bs) + length (drop n bs) ≡ length bs
length-take-drop zero bs = omega arith
length-take-drop (suc n) [] = refl
length-take-drop (suc n) (x ∷ bs) = let e = length-take-drop n bs in omega arith

pub leaves_some : (fault : DevErr) (left : List Block) → 0 < length left → LeavesSome (stop_of fault) left
leaves_some err.DevFault left some = some
leaves_some err.NoMemory left some = some

pub add-zero : (n : ℕ) → n ≡ n + 0
add-zero n = omega arith

module _ {C : Type 0} (m : Meanings C) (cache : Cache) where
  pub record RunsSo (blocks : List Block) (i written now : ℕ) (old new : CursorState) (p q : Place (Known C)) : Type 0 where
    pub feeding : (turn : ℕ) → IsFeeding cache turn blocks p → IsFeeding cache turn (drop (i * most) blocks) q
    pub end : new.ring.end ≡ old.ring.end
    pub evict : new.ring.evict ≡ old.ring.evict
    pub top : new.ring.top ≡ old.ring.top
    pub lap : new.ring.lap ≡ old.ring.lap
    pub hand : new.ring.hand ≡ run_place old.ring.hand i blocks
    pub base : new.base ≡ new.ring.hand
    pub logs : AreLogs old.ring.lap old.ring.hand blocks i (old.newest, old.second) (new.newest, new.second)
    pub pending : new.pending ≡ []
    pub ready : new.ready ≡ true
    pub whole : AreWhole (drop (i * most) blocks)
    pub room : new.ring.hand + (bytes_of (drop (i * most) blocks) + log_len * runs_of (length blocks)) ≤ new.ring.evict + log_len * i
    pub counted : now + length (drop (i * most) blocks) ≤ written + length blocks
    pub did : (acts : List Act) × (entries : List Written) × DoesActs m cache.config acts p q × (now ≡ written + count_by is_placed acts) × (new.ring.live ≡ old.ring.live ++ entries)
        × ((n : ℕ) (more : List Act) (behind : List Written) (left : List Block) → AreRuns old.ring.lap new.ring.hand n (drop (i * most) blocks) more behind left
        → AreRuns old.ring.lap old.ring.hand (i + n) blocks (acts ++ more) (entries ++ behind) left)

  pub runs_start : (blocks : List Block) (written : ℕ) (old : CursorState) (p : Place (Known C)) → old.base ≡ old.ring.hand → old.pending ≡ [] → old.ready ≡ true → AreWhole blocks
      → old.ring.hand + (bytes_of blocks + log_len * runs_of (length blocks)) ≤ old.ring.evict → RunsSo blocks 0 written written old old p p
  runs_start blocks written old p base pending ready whole room = record {
    feeding = λ turn f. f;
    end = refl;
    evict = refl;
    top = refl;
    lap = refl;
    hand = sym (no_runs old.ring.hand blocks);
    base = base;
    logs = refl;
    pending = pending;
    ready = ready;
    whole = whole;
    room = (let r = room in omega arith);
    counted = omega arith;
    did = ([], [], refl, omega arith, sym (append-nil old.ring.live), (λ n more behind left are. subst (λ (k : ℕ). AreRuns old.ring.lap old.ring.hand k blocks more behind left) (let e : n ≡ 0 + n = omega arith in e) are));
  }

  whole_front : (n : ℕ) (bs : List Block) → AreWhole bs → AreWhole (take n bs)
  whole_front zero bs whole = tt
  whole_front (suc n) [] whole = tt
  whole_front (suc n) (b ∷ bs) whole = (whole.0, whole_front n bs whole.1)

  whole_behind : (n : ℕ) (bs : List Block) → AreWhole bs → AreWhole (drop n bs)
  whole_behind zero bs whole = whole
  whole_behind (suc n) [] whole = tt
  whole_behind (suc n) (b ∷ bs) whole = whole_behind n bs whole.1

  module _ (blocks : List Block) (i written now : ℕ) (old mid : CursorState) (p r : Place (Known C)) (below : i < runs_of (length blocks)) (so : RunsSo blocks i written now old mid p r) where
    abbrev rest : List Block
    rest = drop (i * most) blocks

    abbrev run : List Block
    run = take most rest

    -- some are left, and the run has some
    pub rest_some : 0 < length rest
    rest_some = let e = length-drop (i * most) blocks in omega arith

    pub run_whole : AreWhole run
    run_whole = whole_front most rest so.whole

    pub run_room : mid.ring.hand + (bytes_of run + log_len) ≤ mid.ring.evict
    run_room = let e = bytes_split most rest in let h = so.room in omega arith

    -- the picks of the run, and those behind it
    pub run_feeding : (turn : ℕ) → IsFeeding cache turn blocks p → IsFeeding cache turn (run ++ drop most rest) r
    run_feeding turn f = subst (λ (bs : List Block). IsFeeding cache turn bs r) (sym (take-append-drop most rest)) (so.feeding turn f)

    pub run_few : length run ≤ most
    run_few = length_front most rest

    pub run_some : 0 < length run
    run_some = some_front 680 rest rest_some

    beyond : drop most rest ≡ drop ((i + 1) * most) blocks
    beyond = drop_more (i * most) most blocks ∙ ap (λ (n : ℕ). drop n blocks) (let e : i * most + most ≡ (i + 1) * most = omega arith in e)

    pub runs_turn : (new : CursorState) (q : Place (Known C)) (sets : List Act) (more : ℕ) → HasWritten run mid new → DoesActs m cache.config sets r q → AreSet mid.ring.hand run sets → more ≡ count_by is_placed sets → more ≤ length run
        → ((turn : ℕ) (behind : List Block) → IsFeeding cache turn (run ++ behind) r → IsFeeding cache turn behind q) → RunsSo blocks (i + 1) written (now + more) old new p q
    runs_turn new q sets more wrote did set counts few feeds =
        let acts = so.did.0 in
        let entries = so.did.1 in
        record {
          feeding = λ turn f. subst (λ (bs : List Block). IsFeeding cache turn bs q) beyond (feeds turn (drop most rest) (subst (λ (bs : List Block). IsFeeding cache turn bs r) (sym (take-append-drop most rest)) (so.feeding turn f)));
          end = wrote.end ∙ so.end;
          evict = wrote.evict ∙ so.evict;
          top = wrote.top ∙ so.top;
          lap = wrote.lap ∙ so.lap;
          hand = (let a = runs_behind old.ring.hand i blocks in let b = runs_behind old.ring.hand (i + 1) blocks in let e = bytes_split most rest in let f = ap bytes_of beyond in let h = so.hand in let w = wrote.hand in omega arith);
          base = wrote.base;
          logs = subst (λ (n : ℕ). AreLogs old.ring.lap old.ring.hand blocks n (old.newest, old.second) (new.newest, new.second)) (sym (add-one i)) (
            (mid.newest, mid.second),
            wrote.ptr,
            so.logs,
            subst (λ (x : ℕ × ℕ). IsLogOf x.0 x.1 mid.second run wrote.ptr) (λ z. (so.lap z, so.hand z)) wrote.log,
            (λ z. (wrote.newest z, wrote.second z)),
          );
          pending = wrote.pending;
          ready = wrote.ready;
          whole = subst AreWhole beyond (whole_behind most rest so.whole);
          room = (let e = bytes_split most rest in let b = ap bytes_of beyond in let h = so.room in let w = wrote.hand in let v = wrote.evict in omega arith);
          counted = (let c = so.counted in let e = ap length beyond in let l = length-drop most rest in let t = length-take-drop most rest in omega arith);
          did = (
            acts ++ sets,
            entries ++ row_of old.ring.lap mid.ring.hand run,
            acts_append m cache.config acts sets p r q so.did.2 did,
            (let c = so.did.3 in let e = placed-append acts sets in omega arith),
            wrote.live ∙ (ap (λ (ws : List Written). ws ++ row_of mid.ring.lap mid.ring.hand run) so.did.4 ∙ (append_assoc old.ring.live entries (row_of mid.ring.lap mid.ring.hand run)
                ∙ ap (λ (n : ℕ). old.ring.live ++ (entries ++ row_of n mid.ring.hand run)) so.lap)),
            λ n next behind left are.
                let further = subst (λ (x : ℕ × List Block). AreRuns old.ring.lap x.0 n x.1 next behind left) (λ z. (wrote.hand z, sym beyond z)) are in
                let whole = so.did.5 (suc n) (sets ++ next) (row_of old.ring.lap mid.ring.hand run ++ behind) left (runs_step old.ring.lap mid.ring.hand n rest sets next behind left rest_some set further) in
                let count : i + suc n ≡ i + 1 + n = omega arith in
                subst (λ (x : ℕ × (List Act × List Written)). AreRuns old.ring.lap old.ring.hand x.0 blocks x.1.0 x.1.1 left)
                (λ z. (count z, (sym (append_assoc acts sets next) z, sym (append_assoc entries (row_of old.ring.lap mid.ring.hand run) behind) z))) whole,
          );
        }

    -- where the run is lost, it and all behind it are left
    pub runs_stop : (new : CursorState) (q : Place (Known C)) (fault : DevErr) (leaves : List Act) → IsForgotten mid new → DoesActs m cache.config leaves r q → AreLeft (why_of (stop_of fault)) rest leaves
        → (acts : List Act) × DoesActs m cache.config acts p q × (now ≡ written + count_by is_placed acts) × (ran : HaveRun old new blocks acts (stop_of fault)) × (ran.count ≡ i)
    runs_stop new q fault leaves lost did left =
        let acts = so.did.0 in
        let entries = so.did.1 in (
          acts ++ leaves,
          acts_append m cache.config acts leaves p r q so.did.2 did,
          (let c = so.did.3 in let e = placed-append acts leaves in let n = (left-none (why_of (stop_of fault)) rest leaves left).2 in omega arith),
          record {
            count = i + 0;
            sets = acts ++ [];
            entries = entries ++ [];
            left = rest;
            runs = so.did.5 0 [] [] rest (refl, refl, refl);
            leaves = leaves;
            lefts = left;
            settled = ap (λ (l : List Act). l ++ leaves) (sym (append-nil acts));
            some = leaves_some fault rest rest_some;
            live_is = lost.live ∙ (so.did.4 ∙ ap (λ (ws : List Written). old.ring.live ++ ws) (sym (append-nil entries)));
            numbers = subst (λ (n : ℕ). HasPlan (with_hand (numbers_of old.ring) (run_place old.ring.hand n blocks)) old.ring new.ring) (add-zero i) (record {
              end = lost.end ∙ so.end;
              hand = lost.hand ∙ (so.base ∙ so.hand);
              evict = lost.evict ∙ so.evict;
              top = lost.top ∙ so.top;
              lap = lost.lap ∙ so.lap;
            });
            base = lost.base ∙ sym lost.hand;
            logs = subst (λ (n : ℕ). AreLogs old.ring.lap old.ring.hand blocks n (old.newest, old.second) (new.newest, new.second)) (add-zero i)
                (subst (λ (x : Option LogPtr × Option LogPtr). AreLogs old.ring.lap old.ring.hand blocks i (old.newest, old.second) x) (λ z. (sym lost.newest z, sym lost.second z)) so.logs);
            pending = lost.pending;
          },
          sym (add-zero i),
        )

  -- all runs were written
  pub runs_end : (blocks : List Block) (i written now : ℕ) (old new : CursorState) (p q : Place (Known C)) → drop (i * most) blocks ≡ [] → RunsSo blocks i written now old new p q
      → (acts : List Act) × DoesActs m cache.config acts p q × (now ≡ written + count_by is_placed acts) × (ran : HaveRun old new blocks acts stop.Done) × (ran.count ≡ i)
  runs_end blocks i written now old new p q none so =
      let acts = so.did.0 in
      let entries = so.did.1 in (
        acts,
        so.did.2,
        so.did.3,
        record {
          count = i + 0;
          sets = acts ++ [];
          entries = entries ++ [];
          left = [];
          runs = so.did.5 0 [] [] [] (refl, refl, sym none);
          leaves = [];
          lefts = tt;
          settled = sym (append-nil (acts ++ []) ∙ append-nil acts);
          some = refl;
          live_is = so.did.4 ∙ ap (λ (ws : List Written). old.ring.live ++ ws) (sym (append-nil entries));
          numbers = subst (λ (n : ℕ). HasPlan (with_hand (numbers_of old.ring) (run_place old.ring.hand n blocks)) old.ring new.ring) (add-zero i) (record { end = so.end; hand = so.hand; evict = so.evict; top = so.top; lap = so.lap });
          base = so.base;
          logs = subst (λ (n : ℕ). AreLogs old.ring.lap old.ring.hand blocks n (old.newest, old.second) (new.newest, new.second)) (add-zero i) so.logs;
          pending = so.pending;
        },
        sym (add-zero i),
      )
