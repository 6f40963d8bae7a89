-- That what a feed writes of its own has one spelling: a header by its numbers and pointers, and a log block by the blocks of its run.
use Rattle.std.proofs.Common.{◌≡◌, Bool, ℕ, ◌+◌, ◌*◌, List, [], ◌∷◌, length, map, take, drop, Option, Some, refl, sym, ap, ◌∙◌, subst}
use Rattle.std.proofs.lemmas.List.{drop-map, length-map, take-map}
use Rattle.blk_ptr.specs.declared.key.Key.{Key}
use Rattle.blk_ptr.specs.Ptr.{sha256_of}
use Rattle.vdev_io.specs.Calls.{Write}
use Rattle.arc_core.specs.declared.entry.Picked.{Picked as Pick_of}
use Rattle.arc_table.specs.declared.picks.Picked.{Picked as Block}
use Rattle.l2_log.specs.declared.entry.LogEntry.{LogEntry}
use Rattle.l2_log.specs.declared.header.DevHeader.{DevHeader}
use Rattle.l2_log.specs.declared.log_block.LogBlock.{LogBlock}
use Rattle.l2_log.specs.declared.pointer.LogPtr.{LogPtr}
use Rattle.l2_log.specs.Bytes.{AreZero}
use Rattle.l2_log.specs.EntryBytes.{AreEntries, IsDigestIfAny}
use Rattle.l2_log.specs.HeaderBytes.{IsHeader, SpellsHeader}
use Rattle.l2_log.specs.LogBytes.{IsLogBlock}
use Rattle.l2_log.specs.PointerBytes.{IsPointerOrNone}
use Rattle.l2_log.specs.Rules.{entry_len, first_entry, has_digests, log_len, most_with, stored_version}
use Rattle.l2_log.specs.Values.{same_ptr}
use Rattle.l2_log.proofs.Headers.{one_header}
use Rattle.l2_log.proofs.Logs.{one_log_block}
use Rattle.l2_ring.specs.declared.live.Written.{Written}
use Rattle.l2_ring.specs.declared.plan.Plan.{Plan}
use Rattle.l2_dev.specs.Chain.{numbers_in}
use Rattle.l2_dev.specs.Restoring.{written_in}
use Rattle.l2_feed.specs.Alone.{pick_of_block}
use Rattle.l2_feed.specs.Asking.{puts_of}
use Rattle.l2_feed.specs.Runs.{IsLogOf, bytes_of, row_of}
use Rattle.l2_feed.proofs.Lists.{bytes_cons}

-- ---- lists of one and another

pub cons-first : {X : Type 0} (x y : X) (xs ys : List X) → x ∷ xs ≡ y ∷ ys → x ≡ y
cons-first {X} x y xs ys same = ap (first x) same
  where
    first : X → List X → X
    first d [] = d
    first d (z ∷ zs) = z

pub cons-rest : {X : Type 0} (x y : X) (xs ys : List X) → x ∷ xs ≡ y ∷ ys → xs ≡ ys
cons-rest {X} x y xs ys same = ap rest same
  where
    rest : List X → List X
    rest [] = []
    rest (z ∷ zs) = zs

pub no-cons : {X : Type 0} (x : X) (xs : List X) → x ∷ xs ≡ [] → ⊥
no-cons {X} x xs same = let clash : ◌≡◌ {A = List X} (x ∷ xs) [] = same in cc

-- ---- blocks by their keys and bytes

-- all that is written of a block
abbrev pub written_of : Block → Key × List ℕ
written_of b = (b.key, b.block.value)

-- both are the same keys with the same bytes
pub record AreSameBlocks (blocks others : List Block) : Type 0 where
  pub same : map written_of others ≡ map written_of blocks

front-blocks : (k : ℕ) (blocks others : List Block) → AreSameBlocks blocks others → map written_of (take k others) ≡ map written_of (take k blocks)
front-blocks k blocks others s = sym (take-map written_of k others) ∙ (ap (take k) s.same ∙ take-map written_of k blocks)

rest-blocks : (k : ℕ) (blocks others : List Block) → AreSameBlocks blocks others → map written_of (drop k others) ≡ map written_of (drop k blocks)
rest-blocks k blocks others s = sym (drop-map written_of k others) ∙ (ap (drop k) s.same ∙ drop-map written_of k blocks)

pub same-front : (k : ℕ) (blocks others : List Block) → AreSameBlocks blocks others → AreSameBlocks (take k blocks) (take k others)
same-front k blocks others s = record { same = front-blocks k blocks others s }

pub same-rest : (k : ℕ) (blocks others : List Block) → AreSameBlocks blocks others → AreSameBlocks (drop k blocks) (drop k others)
same-rest k blocks others s = record { same = rest-blocks k blocks others s }

many-of : (blocks others : List Block) → map written_of others ≡ map written_of blocks → length others ≡ length blocks
many-of blocks others same = sym (length-map others written_of) ∙ (ap length same ∙ length-map blocks written_of)

pub same-many : (blocks others : List Block) → AreSameBlocks blocks others → length others ≡ length blocks
same-many blocks others s = many-of blocks others s.same

bytes-same : (blocks others : List Block) → map written_of others ≡ map written_of blocks → bytes_of others ≡ bytes_of blocks
bytes-same [] [] same = refl
bytes-same [] (c ∷ others) same = absurd (no-cons (written_of c) (map written_of others) same)
bytes-same (b ∷ blocks) [] same = absurd (no-cons (written_of b) (map written_of blocks) (sym same))
bytes-same (b ∷ blocks) (c ∷ others) same =
    let first : written_of c ≡ written_of b = cons-first (written_of c) (written_of b) (map written_of others) (map written_of blocks) same in
    let rest = bytes-same blocks others (cons-rest (written_of c) (written_of b) (map written_of others) (map written_of blocks) same) in
    bytes_cons c others ∙ ((λ i. (first i).0.size + rest i) ∙ sym (bytes_cons b blocks))

pub same-bytes : (blocks others : List Block) → AreSameBlocks blocks others → bytes_of others ≡ bytes_of blocks
same-bytes blocks others s = bytes-same blocks others s.same

puts-same : (place : ℕ) (blocks others : List Block) → map written_of others ≡ map written_of blocks → puts_of place others ≡ puts_of place blocks
puts-same place [] [] same = refl
puts-same place [] (c ∷ others) same = absurd (no-cons (written_of c) (map written_of others) same)
puts-same place (b ∷ blocks) [] same = absurd (no-cons (written_of b) (map written_of blocks) (sym same))
puts-same place (b ∷ blocks) (c ∷ others) same =
    let first : written_of c ≡ written_of b = cons-first (written_of c) (written_of b) (map written_of others) (map written_of blocks) same in
    let rest = puts-same (place + b.key.size) blocks others (cons-rest (written_of c) (written_of b) (map written_of others) (map written_of blocks) same) in
    let more : puts_of (place + c.key.size) others ≡ puts_of (place + b.key.size) blocks = ap (λ (x : Key × List ℕ). puts_of (place + x.0.size) others) first ∙ rest in
    λ i. Write place ((first i).1) ∷ more i

pub same-puts : (place : ℕ) (blocks others : List Block) → AreSameBlocks blocks others → puts_of place others ≡ puts_of place blocks
same-puts place blocks others s = puts-same place blocks others s.same

row-same : (lap place : ℕ) (blocks others : List Block) → map written_of others ≡ map written_of blocks → row_of lap place others ≡ row_of lap place blocks
row-same lap place [] [] same = refl
row-same lap place [] (c ∷ others) same = absurd (no-cons (written_of c) (map written_of others) same)
row-same lap place (b ∷ blocks) [] same = absurd (no-cons (written_of b) (map written_of blocks) (sym same))
row-same lap place (b ∷ blocks) (c ∷ others) same =
    let first : written_of c ≡ written_of b = cons-first (written_of c) (written_of b) (map written_of others) (map written_of blocks) same in
    let rest = row-same lap (place + b.key.size) blocks others (cons-rest (written_of c) (written_of b) (map written_of others) (map written_of blocks) same) in
    let more : row_of lap (place + c.key.size) others ≡ row_of lap (place + b.key.size) blocks = ap (λ (x : Key × List ℕ). row_of lap (place + x.0.size) others) first ∙ rest in
    λ i. record { live = record { key = (first i).0; place = place; digest = Some (sha256_of ((first i).1)) }; lap = lap } ∷ more i

-- picks of the same keys with the same digests, and the same bytes
picks-and-bytes : (blocks others : List Block) → map pick_of_block others ≡ map pick_of_block blocks → map (λ b. b.block.value) others ≡ map (λ b. b.block.value) blocks → map written_of others ≡ map written_of blocks
picks-and-bytes [] [] picks bytes = refl
picks-and-bytes [] (c ∷ others) picks bytes = absurd (no-cons (pick_of_block c) (map pick_of_block others) picks)
picks-and-bytes (b ∷ blocks) [] picks bytes = absurd (no-cons (pick_of_block b) (map pick_of_block blocks) (sym picks))
picks-and-bytes (b ∷ blocks) (c ∷ others) picks bytes =
    let pick : pick_of_block c ≡ pick_of_block b = cons-first (pick_of_block c) (pick_of_block b) (map pick_of_block others) (map pick_of_block blocks) picks in
    let key : c.key ≡ b.key = ap (λ (p : Pick_of). p.key) pick in
    let value : c.block.value ≡ b.block.value = cons-first c.block.value b.block.value (map (λ (x : Block). x.block.value) others) (map (λ (x : Block). x.block.value) blocks) bytes in
    let rest = picks-and-bytes blocks others (cons-rest (pick_of_block c) (pick_of_block b) (map pick_of_block others) (map pick_of_block blocks) picks)
    (cons-rest c.block.value b.block.value (map (λ (x : Block). x.block.value) others) (map (λ (x : Block). x.block.value) blocks) bytes) in
    λ i. (key i, value i) ∷ rest i

pub same-blocks : (blocks others : List Block) → map pick_of_block others ≡ map pick_of_block blocks → map (λ b. b.block.value) others ≡ map (λ b. b.block.value) blocks → AreSameBlocks blocks others
same-blocks blocks others picks bytes = record { same = picks-and-bytes blocks others picks bytes }

-- ---- headers

-- both have the same numbers, and name the same log blocks
pub record AreHeadersAlike (one other : DevHeader) : Type 0 where
  pub end : other.end ≡ one.end
  pub numbers : numbers_in other ≡ numbers_in one
  pub newest : other.newest ≡ one.newest
  pub second : other.second ≡ one.second
  pub version : other.version ≡ one.version

header-as : (bytes : List ℕ) (one other : DevHeader) → AreHeadersAlike one other → IsHeader bytes other → IsHeader bytes one
header-as bytes one other same is = record {
  whole = is.whole;
  magic = is.magic;
  version = is.version ∙ same.version;
  start = is.start;
  end = is.end ∙ same.end;
  hand = is.hand ∙ ap (λ (p : Plan). p.hand) same.numbers;
  evict = is.evict ∙ ap (λ (p : Plan). p.evict) same.numbers;
  top = is.top ∙ ap (λ (p : Plan). p.top) same.numbers;
  lap = is.lap ∙ ap (λ (p : Plan). p.lap) same.numbers;
  most = is.most ∙ ap (λ (v : ℕ). most_with (has_digests v)) same.version;
  zeros = is.zeros;
  newest = subst (IsPointerOrNone bytes 128) same.newest is.newest;
  second = subst (IsPointerOrNone bytes 192) same.second is.second;
  zeros_behind = is.zeros_behind;
  sealed = is.sealed;
}

pub sectors-alike : (one other : DevHeader) (xs ys : List ℕ) → AreHeadersAlike one other → SpellsHeader xs one → SpellsHeader ys other → ys ≡ xs
sectors-alike one other xs ys same x y = one_header one ys xs y.are_bytes x.are_bytes (header-as ys one other same y.is) x.is

-- ---- log blocks

entries-as : (d : Bool) (bytes : List ℕ) (at lap : ℕ) (es fs : List LogEntry) → map (written_in lap) fs ≡ map (written_in lap) es → AreEntries d bytes at fs → AreEntries d bytes at es
entries-as d bytes at lap [] [] same are = tt
entries-as d bytes at lap [] (f ∷ fs) same are = absurd (no-cons (written_in lap f) (map (written_in lap) fs) same)
entries-as d bytes at lap (e ∷ es) [] same are = absurd (no-cons (written_in lap e) (map (written_in lap) es) (sym same))
entries-as d bytes at lap (e ∷ es) (f ∷ fs) same are =
    let first : written_in lap f ≡ written_in lap e = cons-first (written_in lap f) (written_in lap e) (map (written_in lap) fs) (map (written_in lap) es) same in
    let rest = cons-rest (written_in lap f) (written_in lap e) (map (written_in lap) fs) (map (written_in lap) es) same in
    let digest : f.digest ≡ e.digest = ap (λ (w : Written). w.live.digest) first in (
      record {
        offset = are.0.offset ∙ ap (λ (w : Written). w.live.key.offset) first;
        size = are.0.size ∙ ap (λ (w : Written). w.live.key.size) first;
        birth = are.0.birth ∙ ap (λ (w : Written). w.live.key.birth) first;
        place = are.0.place ∙ ap (λ (w : Written). w.live.place) first;
        digest = subst (IsDigestIfAny bytes (at + 32)) digest are.0.digest;
        zeros = are.0.zeros;
      },
      entries-as d bytes (at + entry_len d) lap es fs rest are.1,
    )

log-as : (bytes : List ℕ) (one other : LogBlock) (number : ℕ) → other.version ≡ one.version → other.lap ≡ one.lap → other.prev ≡ one.prev → map (written_in number) other.entries ≡ map (written_in number) one.entries → IsLogBlock bytes other → IsLogBlock bytes one
log-as bytes one other number version lap prev entries is =
    let digests : has_digests other.version ≡ has_digests one.version = ap has_digests version in
    let many : length other.entries ≡ length one.entries = sym (length-map other.entries (written_in number)) ∙ (ap length entries ∙ length-map one.entries (written_in number)) in
    record {
      whole = is.whole;
      magic = is.magic;
      lap = is.lap ∙ lap;
      count = is.count ∙ many;
      version = is.version ∙ ap stored_version digests;
      zeros = is.zeros;
      prev = subst (IsPointerOrNone bytes 64) prev is.prev;
      entries = entries-as (has_digests one.version) bytes first_entry number one.entries other.entries entries (subst (λ (d : Bool). AreEntries d bytes first_entry other.entries) digests is.entries);
      zeros_behind = subst (λ (x : Bool × ℕ). AreZero (first_entry + entry_len x.0 * x.1) log_len bytes) (λ i. (digests i, many i)) is.zeros_behind;
    }

-- the log block of the same run, at the same place, in the same lap and behind the same log block: its bytes and its pointer
pub logs-alike : (n m a b : ℕ) (s t : Option LogPtr) (run runs : List Block) (p q : LogPtr) → m ≡ n → b ≡ a → t ≡ s → AreSameBlocks run runs → (x : IsLogOf n a s run p) → (y : IsLogOf m b t runs q) → (y.bytes ≡ x.bytes) × (q ≡ p)
logs-alike n m a b s t run runs p q laps places seconds same x y =
    let entries : map (written_in n) y.block.entries ≡ row_of n a runs = subst (λ (z : ℕ × ℕ). map (written_in z.0) y.block.entries ≡ row_of z.0 z.1 runs) (λ i. (laps i, places i)) y.entries in
    let rows : row_of n a runs ≡ row_of n a run = row-same n a run runs same.same in
    let likewise : IsLogBlock y.bytes x.block = log-as y.bytes x.block y.block n (y.version ∙ sym x.version) (y.lap ∙ (laps ∙ sym x.lap)) (y.prev ∙ (seconds ∙ sym x.prev)) (entries ∙ (rows ∙ sym x.entries)) y.written in
    let bytes : y.bytes ≡ x.bytes = one_log_block x.block y.bytes x.bytes y.are_bytes x.are_bytes likewise x.written in
    let place : b + bytes_of runs ≡ a + bytes_of run = λ i. places i + same-bytes run runs same i in
    (bytes, same_ptr q p (y.place ∙ (place ∙ sym x.place)) (y.count ∙ (same-many run runs same ∙ sym x.count)) (y.digest ∙ (ap sha256_of bytes ∙ sym x.digest)))
