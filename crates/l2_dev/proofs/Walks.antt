-- The steps of a walk.
use Rattle.std.proofs.Common.{◌≡◌, ℕ, ◌+◌, ◌*◌, ◌≤◌, List, [], ◌∷◌, ◌++◌, length, map, reverse, take, drop, Bool, true, Option, None, Some, Result, Ok, Err, refl, inl, inr, sym, ap, subst, ◌∙◌, append_assoc, length-append, length-drop, length-take, arith}
use Rattle.std.specs.Option.{IfSome}
use Rattle.std.specs.Prelude.{OnErr}
use Rattle.std.specs.List.{All, AllByRecursion}
use Rattle.std.proofs.lemmas.Bool.{and_parts}
use Rattle.std.proofs.lemmas.List.{append-nil, map-append, reverse-append}
use Rattle.std.proofs.lemmas.List.Concat.{flat_map-append}
use Rattle.std.proofs.lemmas.List.Elements.{All-from_recursion, recursion_from_All, All-same, All-append}
use Rattle.blk_ptr.specs.Key.{IsWellFormed}
use Rattle.vdev_io.specs.Faults.{Rose}
use Rattle.vdev_io.specs.declared.device.CacheDev.{Ghosts}
use Rattle.vdev_io.specs.Calls.{Gave, Read, DeviceCall, answered, MakesDeviceCalls}
use Rattle.vdev_io.proofs.CallLemmas.{calls_behind}
use Rattle.arc_core.specs.declared.served.Restored.{Restored}
use Rattle.l2_dev.specs.Asking.{AreReads, end_reads, header_read, last_read, read_log, unread_answer, visit_read, walk_reads}
use Rattle.l2_dev.specs.Cursor.{CursorState}
use Rattle.l2_dev.specs.Rebuilding.{IsBuilt, IsFresh, IsStarted}
use Rattle.l2_log.specs.Rules.{header_len, log_len}
use Rattle.l2_log.specs.declared.entry.LogEntry.{LogEntry}
use Rattle.l2_log.specs.declared.pointer.LogPtr.{LogPtr}
use Rattle.l2_log.specs.declared.log_block.LogBlock.{LogBlock}
use Rattle.l2_log.specs.declared.header.DevHeader.{DevHeader}
use Rattle.l2_ring.specs.declared.live.Written.{Written}
use Rattle.l2_ring.specs.declared.plan.Plan.{Plan}
use Rattle.l2_dev.specs.declared.stop.Stop.{Stop}
use Rattle.l2_dev.specs.declared.stop.Stop.TheVariants as stop
use Rattle.l2_dev.specs.declared.walk.WalkEnd.{WalkEnd}
use Rattle.l2_dev.specs.declared.walk.WalkEnd.TheVariants as ends
use Rattle.l2_log.specs.LogBytes.{IsLogBlock}
use Rattle.l2_log.specs.declared.fault.LogFault.{LogFault}
use Rattle.l2_log.specs.declared.fault.LogFault.TheVariants as fault
use Rattle.blk_ptr.specs.Ptr.{sha256_of}
use Rattle.l2_dev.specs.Chain.{Visit, IsStop, IsMisfit, IsBlockFault, bytes_at, IsPassed, IsHeld, IsLinked, IsReached, pointer_behind, numbers_in, ring_len}
use Rattle.l2_dev.specs.Restoring.{IsUnread, written_in, told_by, is_valid, valid_of, found_in, firsts, restored_of, first_sector, IsHeaderOf}
use Rattle.l2_dev.proofs.ListLaws.{filter_all, all_passes, all_append, all_two, firsts_all}
use Rattle.l2_dev.specs.Reading.{OnlyRead}
use Rattle.l2_dev.specs.Walking.{EndsWith, HasCome, HasWalked, IsFit, IsVisited, visit_of}

-- a fact of what is told, where it is told
pub if_told : {A : Type 0} (P : A → Type 0) (o : Option A) (x : A) → o ≡ Some x → IfSome o P → P x
if_told {A} P o x e h = subst (λ (p : Option A). IfSome p P) e h

formed_in : (lap : ℕ) (es : List LogEntry) → AllByRecursion (λ (w : Written). IsWellFormed w.live.key) (map (written_in lap) es)
formed_in lap [] = tt
formed_in lap (e ∷ es) = (e.formed, formed_in lap es)

all_reverse : {X : Type 0} (P : X → Type 0) (xs : List X) → AllByRecursion P xs → AllByRecursion P (reverse xs)
all_reverse P [] all = tt
all_reverse P (x ∷ xs) all = subst (λ ys. AllByRecursion P ys) (sym (reverse-append (x ∷ []) xs)) (all_append P (reverse xs) (x ∷ []) (all_reverse P xs all.1) (all.0, tt))

-- a valid entry may be live
pub valid_fit : (plan : Plan) (v : Visit) → All (IsFit plan) (valid_of plan v)
valid_fit plan v =
    All-from_recursion (IsFit plan) (valid_of plan v)
    (all_two (λ (w : Written). is_valid plan v.ptr.place w ≡ true) (λ (w : Written). IsWellFormed w.live.key) (IsFit plan) (valid_of plan v)
    (λ w valid formed. record { stays = (and_parts _ _ valid).0; formed = formed })
    (all_passes (is_valid plan v.ptr.place) (told_by v))
    (filter_all (λ (w : Written). IsWellFormed w.live.key) (is_valid plan v.ptr.place) (told_by v) (formed_in v.block.lap (reverse v.block.entries))))

-- the bytes that were read are the log block of the pointer
pub visited : (image : List ℕ) (header : DevHeader) (ptr : LogPtr) (block : LogBlock) (bytes : List ℕ) → bytes ≡ bytes_at image ptr.place log_len
    → sha256_of bytes ≡ ptr.digest → IsLogBlock bytes block → IsPassed header (visit_of ptr block) → IsVisited image header (visit_of ptr block)
visited image header ptr block bytes same digest is passed = record {
  passed = passed;
  held = record {
    digest = subst (λ (bs : List ℕ). sha256_of bs ≡ ptr.digest) same digest;
    bytes = subst (λ (bs : List ℕ). IsLogBlock bs block) same is;
  };
}

-- they are refused
pub refused : (image : List ℕ) (header : DevHeader) (walked : ℕ) (ptr : LogPtr) (bytes : List ℕ) (f : LogFault) → bytes ≡ bytes_at image ptr.place log_len
    → IsReached header walked ptr → IsBlockFault header ptr bytes f → IsStop image header walked (Some ptr) (stop.Block f)
refused image header walked ptr bytes f same reached is = (ptr, refl, reached, subst (λ (bs : List ℕ). IsBlockFault header ptr bs f) same is)

-- they are a log block that the header or the pointer refuses
pub misfit : (header : DevHeader) (ptr : LogPtr) (block : LogBlock) (bytes : List ℕ) (f : LogFault) → sha256_of bytes ≡ ptr.digest → IsLogBlock bytes block → IsMisfit header ptr block f → IsBlockFault header ptr bytes f
misfit header ptr block bytes (fault.Field at) digest is m = (digest, inr (block, is, m))
misfit header ptr block bytes (fault.Digest kept found) digest is m = absurd m
misfit header ptr block bytes (fault.Length len) digest is m = absurd m
misfit header ptr block bytes fault.Magic digest is m = absurd m
misfit header ptr block bytes fault.Version digest is m = absurd m

-- what the bytes say by themselves
pub refused_all : (image : List ℕ) (header : DevHeader) (walked : ℕ) (ptr : LogPtr) (bytes : List ℕ) (e : WalkEnd) → bytes ≡ bytes_at image ptr.place log_len → IsReached header walked ptr
    → EndsWith (λ why. (f : LogFault) × (why ≡ stop.Block f) × ((h : DevHeader) → IsBlockFault h ptr bytes f)) e → EndsWith (IsStop image header walked (Some ptr)) e
refused_all image header walked ptr bytes (ends.Stop why) same reached t =
    subst (λ (w : Stop). IsStop image header walked (Some ptr) w) (sym t.1) (refused image header walked ptr bytes t.0 same reached (t.2 header))
refused_all image header walked ptr bytes ends.NoMemory same reached t = tt

-- a walk that has visited nothing
pub come_nowhere : (header : DevHeader) → HasCome header [] header.newest header.second 0 []
come_nowhere header = record {
  linked = λ rest linked. linked;
  leads = λ rest. refl;
  passed = tt;
  bytes = refl;
  entries = refl;
}

-- a walk that visits one more log block
pub come_further : (header : DevHeader) (visits : List Visit) (ptr : LogPtr) (block : LogBlock) (next behind : Option LogPtr) (walked : ℕ) (found more : List Written)
    → next ≡ Some ptr → HasCome header visits next behind walked found → IsPassed header (visit_of ptr block) → more ≡ found ++ valid_of (numbers_in header) (visit_of ptr block)
    → HasCome header (visits ++ visit_of ptr block ∷ []) behind block.prev (walked + log_len) more
come_further header visits ptr block next behind walked found more at come passed grown =
    let one : List Visit = visit_of ptr block ∷ [] in
    let len = length-append visits one in
    let bytes = come.bytes in
    record {
      linked = λ rest linked. subst (λ (vs : List Visit). IsLinked header.newest header.second vs) (sym (append_assoc visits one rest)) (come.linked (visit_of ptr block ∷ rest) (at, linked));
      leads = λ rest. ap (λ (vs : List Visit). pointer_behind header.newest header.second vs) (append_assoc visits one rest) ∙ come.leads (visit_of ptr block ∷ rest);
      passed = all_append (IsPassed header) visits one come.passed (passed, tt);
      bytes = omega (arith, len, bytes);
      entries = grown ∙ ap (λ (ws : List Written). ws ++ valid_of (numbers_in header) (visit_of ptr block)) come.entries
          ∙ ap (λ (ws : List Written). found_in (numbers_in header) visits ++ ws) (sym (append-nil (valid_of (numbers_in header) (visit_of ptr block))))
          ∙ sym (flat_map-append (valid_of (numbers_in header)) visits one);
    }

-- it stands at its next pointer
pub behind_visits : (header : DevHeader) (visits : List Visit) (next behind : Option LogPtr) (walked : ℕ) (found : List Written) → HasCome header visits next behind walked found
    → pointer_behind header.newest header.second visits ≡ next
behind_visits header visits next behind walked found come =
    ap (λ (vs : List Visit). pointer_behind header.newest header.second vs) (sym (append-nil visits)) ∙ come.leads []

-- the reads of a walk that went no further from there
pub ended_reads : (header : DevHeader) (visits : List Visit) (next behind : Option LogPtr) (walked : ℕ) (found : List Written) (ptr : LogPtr) (e : WalkEnd) (why : Stop)
    → HasCome header visits next behind walked found → next ≡ Some ptr → e ≡ ends.Stop why → map visit_read visits ++ end_reads ptr e ≡ walk_reads header visits why
ended_reads header visits next behind walked found ptr e why come at is =
    ap (λ (w : WalkEnd). map visit_read visits ++ end_reads ptr w) is
    ∙ ap (λ (p : Option LogPtr). map visit_read visits ++ last_read why p) (sym (behind_visits header visits next behind walked found come ∙ at))

-- the reads of a walk to the end of the chain
pub whole_reads : (header : DevHeader) (visits : List Visit) → map visit_read visits ≡ walk_reads header visits stop.Zero
whole_reads header visits = sym (append-nil (map visit_read visits))

-- one log block more was read
pub more_reads : (visits : List Visit) (v : Visit) → map visit_read visits ++ visit_read v ∷ [] ≡ map visit_read (visits ++ v ∷ [])
more_reads visits v = sym (map-append visit_read visits (v ∷ []))

-- what the bytes say by themselves is read
pub block_reads : (ptr : LogPtr) (P : LogFault → Type 0) (e : WalkEnd) → EndsWith (λ why. (f : LogFault) × (why ≡ stop.Block f) × P f) e → end_reads ptr e ≡ read_log Gave ptr ∷ []
block_reads ptr P (ends.Stop why) t = ap (λ (w : Stop). last_read w (Some ptr)) t.1
block_reads ptr P ends.NoMemory t = refl

reads_more : (at n : ℕ) (calls : List DeviceCall) → AreReads calls → AreReads (answered Gave (Read at n) ∷ calls)
reads_more at n [] are = (at, n, refl)
reads_more at n (call ∷ calls) are = ((at, n, refl), are)

last_reads : (why : Stop) (pointer : Option LogPtr) → AreReads (last_read why pointer)
last_reads (stop.Block fault) (Some ptr) = (ptr.place, log_len, refl)
last_reads stop.DevFault (Some ptr) = (ptr.place, log_len, refl)
last_reads (stop.Block fault) None = tt
last_reads stop.DevFault None = tt
last_reads stop.Zero pointer = tt
last_reads (stop.Short len) pointer = tt
last_reads (stop.Header fault) pointer = tt
last_reads (stop.Outside place) pointer = tt
last_reads (stop.Evicted place) pointer = tt
last_reads (stop.Length bytes) pointer = tt

visit_reads : (visits : List Visit) (calls : List DeviceCall) → AreReads calls → AreReads (map visit_read visits ++ calls)
visit_reads [] calls are = are
visit_reads (v ∷ visits) calls are = reads_more v.ptr.place log_len (map visit_read visits ++ calls) (visit_reads visits calls are)

-- the reads of a walk, and with that of the header before them
pub walk_are_reads : (header : DevHeader) (visits : List Visit) (why : Stop) → AreReads (walk_reads header visits why)
walk_are_reads header visits why = visit_reads visits (last_read why (pointer_behind header.newest header.second visits)) (last_reads why (pointer_behind header.newest header.second visits))

pub header_and_reads : (calls : List DeviceCall) → AreReads calls → AreReads (header_read Gave ∷ calls)
header_and_reads calls are = reads_more 0 header_len calls are

pub visits_are_reads : (visits : List Visit) → AreReads (map visit_read visits)
visits_are_reads visits = subst (λ (calls : List DeviceCall). AreReads calls) (append-nil (map visit_read visits)) (visit_reads visits [] tt)

pub end_are_reads : (visits : List Visit) (ptr : LogPtr) (e : WalkEnd) → AreReads (map visit_read visits ++ end_reads ptr e)
end_are_reads visits ptr (ends.Stop why) = visit_reads visits (last_read why (Some ptr)) (last_reads why (Some ptr))
end_are_reads visits ptr ends.NoMemory = visit_reads visits (read_log Gave ptr ∷ []) (ptr.place, log_len, refl)

-- a walk that ends at its next pointer
pub come_to_end : (image : List ℕ) (header : DevHeader) (visits : List Visit) (next behind : Option LogPtr) (walked : ℕ) (found : List Written) (why : Stop)
    → walked ≤ ring_len header → HasCome header visits next behind walked found → AllByRecursion (IsHeld image) visits → IsStop image header walked next why → HasWalked image header visits found why
come_to_end image header visits next behind walked found why short come held stops =
    let bytes = come.bytes in
    let there : pointer_behind header.newest header.second visits ≡ next = behind_visits header visits next behind walked found come in (
      record {
        linked = subst (λ (vs : List Visit). IsLinked header.newest header.second vs) (append-nil visits) (come.linked [] tt);
        passed = come.passed;
        held = held;
        short = omega (arith, bytes);
        stops = subst (λ (p : Option LogPtr). IsStop image header (log_len * length visits) p why) (sym there) (subst (λ (n : ℕ). IsStop image header n next why) bytes stops);
      },
      come.entries,
    )

-- a walk's entries with those of one more log block
pub fit_more : (p q : Plan) (found valid part more : List Written) → q ≡ p → more ≡ found ++ part → part ≡ valid → All (IsFit p) found → All (IsFit q) valid → All (IsFit p) more
fit_more p q found valid part more same grown is old new =
    All-same (IsFit p) more (found ++ valid) (grown ∙ ap (λ (ws : List Written). found ++ ws) is)
    (All-append (IsFit p) found valid old (subst (λ (r : Plan). All (IsFit r) valid) same new))

-- a buffer keeps its length when all of it is written
pub same_len : (n : ℕ) (xs ys : List ℕ) → n ≡ length ys → length xs ≡ n → length (take n (xs ++ drop (length xs) ys)) ≡ n
same_len n xs ys whole full =
    let all = length-append xs (drop (length xs) ys) in
    let rest = length-drop (length xs) ys in
    let taken = length-take n (xs ++ drop (length xs) ys) in
    omega (arith, all, rest, taken)

pub rose_from : (a b c : ℕ) → a ≤ b → Rose b c → Rose a c
rose_from a b c le rose = omega (arith, rose)

-- what a rebuild finds where no header was found
pub started_bare : (end : ℕ) (image : List ℕ) (why told : Stop) (cursor : CursorState) (restored : List Restored) → IsUnread end image why → IsFresh end cursor → restored ≡ [] → told ≡ why
    → IsStarted end image (header_read (unread_answer why) ∷ []) cursor restored told
started_bare end image why told cursor restored unread fresh none same =
    subst (λ (s : Stop). IsStarted end image (header_read (unread_answer why) ∷ []) cursor restored s) (sym same) (inl (unread, fresh, none, refl))

-- what a rebuild finds along the chain of a header
pub started_along : (end : ℕ) (image : List ℕ) (header : DevHeader) (visits : List Visit) (found : List Written) (why : Stop) (cursor : CursorState) (restored : List Restored)
    → IsHeaderOf end (first_sector image) header → HasWalked image header visits found why → IsBuilt header found cursor restored
    → IsStarted end image (header_read Gave ∷ walk_reads header visits why) cursor restored why
started_along end image header visits found why cursor restored named walked b =
    let same : found ≡ found_in (numbers_in header) visits = walked.1 in
    inr (
      header,
      visits,
      record { named = named; chain = walked.0; list = b.list ∙ ap (λ (ws : List Written). map restored_of (firsts ws)) same },
      record {
        end = b.end;
        numbers = b.numbers;
        live = b.live ∙ ap (λ (ws : List Written). reverse (firsts ws)) same;
        newest = b.newest;
        second = b.second;
      },
      refl,
    )

-- what is added to the ring is what was found, of each key the first, the last first
pub fit_live : (p q : Plan) (found first entries : List Written) → p ≡ q → first ≡ firsts found → entries ≡ reverse first → All (IsFit q) found → All (IsFit p) entries
fit_live p q found first entries same is back fit =
    let recursion : AllByRecursion (IsFit p) (reverse (firsts found)) =
    all_reverse (IsFit p) (firsts found) (firsts_all (IsFit p) found (recursion_from_All (IsFit p) found (subst (λ (r : Plan). All (IsFit r) found) (sym same) fit))) in
    All-same (IsFit p) entries (reverse (firsts found)) (back ∙ ap (λ (ws : List Written). reverse ws) is) (All-from_recursion (IsFit p) (reverse (firsts found)) recursion)

-- what a walk answers, from the step that ended it
pub ended_chain : (image : List ℕ) (header : DevHeader) (visits : List Visit) (next behind : Option LogPtr) (walked : ℕ) (found told : List Written) (e : WalkEnd) (why : Stop)
    → walked ≤ ring_len header → HasCome header visits next behind walked found → AllByRecursion (IsHeld image) visits → EndsWith (IsStop image header walked next) e → e ≡ ends.Stop why → told ≡ found
    → HasWalked image header visits told why
ended_chain image header visits next behind walked found told e why short come held stops is same =
    subst (λ (ws : List Written). HasWalked image header visits ws why) (sym same)
    (come_to_end image header visits next behind walked found why short come held (subst (λ (w : WalkEnd). EndsWith (IsStop image header walked next) w) is stops))

module _ {D : Type 0} (size : D → ℕ) (tells : D → Option (List ℕ)) (has_sectors : D → Bool) (leaves : D → List ℕ → Type 0) (moment : D → ℕ) (since : D → ℕ → List ℕ → Type 0) (faults : D → ℕ) where
  -- a device that was not touched
  pub not_read : (dev : D) → OnlyRead size tells has_sectors leaves moment since faults dev dev
  not_read dev = record {
    size = refl;
    told = refl;
    kind = refl;
    crash = λ c. (λ left. left, λ left. left);
    time = record { later = omega arith; same = λ t c le. (λ left. left, λ left. left) };
    faults = omega arith;
  }

  -- two reads, one after the other
  pub read_twice : (old mid new : D) → OnlyRead size tells has_sectors leaves moment since faults old mid → OnlyRead size tells has_sectors leaves moment since faults mid new → OnlyRead size tells has_sectors leaves moment since faults old new
  read_twice old mid new a b =
      let later = a.time.later in
      let then = b.time.later in
      let less = a.faults in
      let more = b.faults in
      record {
        size = b.size ∙ a.size;
        told = b.told ∙ a.told;
        kind = b.kind ∙ a.kind;
        crash = λ c. (λ left. (b.crash c).0 ((a.crash c).0 left), λ left. (a.crash c).1 ((b.crash c).1 left));
        time = record {
          later = omega arith;
          same = λ t c le.
              (λ left. (b.time.same t c (omega arith)).0 ((a.time.same t c le).0 left), λ left. (a.time.same t c le).1 ((b.time.same t c (omega arith)).1 left));
        };
        faults = omega arith;
      }

-- what was read, whatever was answered
pub reads_err : {D T E : Type 0} (device : Ghosts D) (old new : D) (result : Result T E) (reads : List DeviceCall) → MakesDeviceCalls device reads old new → AreReads reads
    → OnErr result ((calls : List DeviceCall) × MakesDeviceCalls device calls old new × AreReads calls)
reads_err device old new (Ok value) reads made are = tt
reads_err device old new (Err error) reads made are = (reads, made, are)

-- one log block more was read, behind those that were
pub visit_behind : {D : Type 0} (device : Ghosts D) (visits : List Visit) (v : Visit) (old mid new : D) → MakesDeviceCalls device (map visit_read visits) old mid → MakesDeviceCalls device (visit_read v ∷ []) mid new
    → MakesDeviceCalls device (map visit_read (visits ++ v ∷ [])) old new
visit_behind device visits v old mid new so_far read =
    subst (λ (calls : List DeviceCall). MakesDeviceCalls device calls old new) (more_reads visits v) (calls_behind device (map visit_read visits) (visit_read v ∷ []) old mid new so_far read)
