-- The parts of a log block, and which of their rules speak of which places.
use Rattle.std.proofs.Common.{◌≡◌, ℕ, ◌+◌, ◌*◌, ◌⊎◌, inl, inr, ap, eqb, Bool, true, false, refl, Result, Ok, Err, MatchResult, List, length, sym, ◌∙◌, arith}
use Rattle.l2_log.specs.declared.log_block.LogBlock.{LogBlock}
use Rattle.l2_log.specs.declared.fault.LogFault.{LogFault}
use Rattle.l2_log.specs.declared.fault.LogFault.TheVariants as fault
use Rattle.l2_log.specs.declared.fault.LogReadFault.{LogReadFault}
use Rattle.l2_log.specs.declared.fault.LogReadFault.TheVariants as refusal
use Rattle.l2_log.specs.declared.entry.LogEntry.{LogEntry}
use Rattle.std.proofs.lemmas.Bool.{eq-eqb}
use Rattle.l2_log.specs.Rules.{first_entry, entry_len, log_len, stored_version, has_digests}
use Rattle.l2_log.specs.Bytes.{word, AreZero, AreSame, AreBytes, IsZeroIn}
use Rattle.l2_log.specs.Places.{IsFieldFault}
use Rattle.l2_log.specs.PointerBytes.{PointerRule}
use Rattle.l2_log.specs.EntryBytes.{AreEntries}
use Rattle.l2_log.specs.Values.{HaveDigests}
use Rattle.l2_log.specs.LogBytes.{IsLogBlock, IsLogFront, IsEntryRefusal, LogRule, IsFirstLogFault, IsLogRefusal, tells_digests}
use Rattle.l2_log.specs.Values.{same_log_block_of_bytes}
use Rattle.l2_log.proofs.Numbers.{word_only, same_joined, zeros_same, same_whole}
use Rattle.l2_log.proofs.Pointers.{pointer_only, pointer_rule}
use Rattle.l2_log.proofs.EntryRules.{entries_rule, entries_only}

-- the first entry that is broken, where all before the entries is whole
pub broken_entries : (bytes : List ℕ) (count : ℕ) (r : LogReadFault) → count ≡ word bytes 16 → IsLogFront bytes → AreZero 32 64 bytes
    → ((k : ℕ) → PointerRule bytes 64 k) → IsEntryRefusal (tells_digests bytes) bytes count r → IsLogRefusal bytes r
broken_entries bytes count (refusal.Fault (fault.Field at)) same front zeros prev b =
    let span : entry_len (tells_digests bytes) * count ≡ entry_len (tells_digests bytes) * word bytes 16 = ap (λ (n : ℕ). entry_len (tells_digests bytes) * n) same in (
      front.whole,
      front.magic,
      record {
        broken = λ rule. b.first.broken (λ i lt. rule.entries i (omega arith));
        kept = λ k lt. let below = b.below in record {
          lap = λ e. front.lap;
          count = λ e. front.count;
          version = λ e. front.version;
          zeros = zeros k;
          prev = prev k;
          entries = λ i ilt. b.first.kept k lt i (omega arith);
          zeros_behind = λ ge klt. absurd (omega arith);
        };
      },
    )
broken_entries bytes count (refusal.Fault _) same front zeros prev b = absurd b
broken_entries bytes count refusal.NoMemory same front zeros prev b = tt

-- a byte behind the entries that is not zero, where all before it is whole
pub broken_log_end : (bytes : List ℕ) (es : List LogEntry) (from : ℕ) (f : LogFault) → length es ≡ word bytes 16 → from ≡ first_entry + entry_len (tells_digests bytes) * word bytes 16
    → IsLogFront bytes → AreZero 32 64 bytes → ((k : ℕ) → PointerRule bytes 64 k) → HaveDigests (tells_digests bytes) es → AreEntries (tells_digests bytes) bytes first_entry es
    → IsFieldFault from log_len (IsZeroIn from log_len bytes) f → IsFirstLogFault bytes f
broken_log_end bytes es from (fault.Field at) count place front zeros prev have entries b = (
  front.whole,
  front.magic,
  record {
    broken = λ rule. b.first.broken (λ ge lt. rule.zeros_behind (omega arith) lt);
    kept = λ k lt. record {
      lap = λ e. front.lap;
      count = λ e. front.count;
      version = λ e. front.version;
      zeros = zeros k;
      prev = prev k;
      entries = λ i ilt. entries_rule (tells_digests bytes) bytes first_entry es have entries i (first_entry + entry_len (tells_digests bytes) * i) (omega arith) refl k;
      zeros_behind = λ ge klt. b.first.kept k lt (omega arith) klt;
    };
  },
)
broken_log_end bytes es from _ count place front zeros prev have entries b = absurd b

stored_tells : (digests : Bool) (n : ℕ) → n ≡ stored_version digests → (eqb n 2 ≡ digests) × ((n ≡ 0) ⊎ (n ≡ 2))
stored_tells true n e = (eq-eqb n 2 e, inr e)
stored_tells false n e = (ap (λ (m : ℕ). eqb m 2) e, inl e)

-- place 24 tells whether there are digests
pub block_tells : (bytes : List ℕ) (block : LogBlock) → IsLogBlock bytes block → tells_digests bytes ≡ has_digests block.version
block_tells bytes block is = (stored_tells (has_digests block.version) (word bytes 24) is.version).0

log_rule : (bytes : List ℕ) (block : LogBlock) → IsLogBlock bytes block → (k : ℕ) → LogRule bytes k
log_rule bytes block is k =
    let d : Bool = has_digests block.version in
    let tells = block_tells bytes block is in
    let count = is.count in
    record {
      lap = λ e. rw is.lap block.lapped;
      count = λ e. rw (tells, is.count) block.counted;
      version = λ e. (stored_tells (has_digests block.version) (word bytes 24) is.version).1;
      zeros = is.zeros k;
      prev = pointer_rule bytes 64 block.prev is.prev k;
      entries = λ i lt. rw tells (entries_rule d bytes first_entry block.entries block.told is.entries i (first_entry + entry_len d * i) (omega arith) refl k);
      zeros_behind = rw (tells, is.count) (is.zeros_behind k);
    }

-- a log block is not refused
pub log_not_refused : (bytes : List ℕ) (block : LogBlock) (f : LogFault) → IsLogBlock bytes block → IsFirstLogFault bytes f → ⊥
log_not_refused bytes block (fault.Length len) is r = r.1 is.whole
log_not_refused bytes block fault.Magic is r = r.1 is.magic
log_not_refused bytes block (fault.Field at) is r = r.2.broken (log_rule bytes block is at)
log_not_refused bytes block _ is r = r

-- a reader that is exact reads each log block, unless memory was refused
pub log_complete : (bytes : List ℕ) (r : Result LogBlock LogReadFault) → MatchResult r (λ block. IsLogBlock bytes block) (λ f. IsLogRefusal bytes f)
    → (block : LogBlock) → IsLogBlock bytes block → MatchResult r (λ read. read ≡ block) (λ f. f ≡ refusal.NoMemory)
log_complete bytes (Ok read) exact block is = same_log_block_of_bytes bytes read block exact is
log_complete bytes (Err (refusal.Fault f)) exact block is = absurd (log_not_refused bytes block f is exact)
log_complete bytes (Err refusal.NoMemory) exact block is = refl

-- the bytes of a log block are given by it
pub one_log_block : (block : LogBlock) (xs ys : List ℕ) → AreBytes xs → AreBytes ys → IsLogBlock xs block → IsLogBlock ys block → xs ≡ ys
one_log_block block xs ys bx by x y =
    let d : Bool = has_digests block.version in
    let n = length block.entries in
    let s8 : AreSame 0 8 xs ys = word_only 0 xs ys bx by (x.magic ∙ sym y.magic) in
    let s16 = same_joined 0 8 16 xs ys s8 (word_only 8 xs ys bx by (x.lap ∙ sym y.lap)) in
    let s24 = same_joined 0 16 24 xs ys s16 (word_only 16 xs ys bx by (x.count ∙ sym y.count)) in
    let s32 = same_joined 0 24 32 xs ys s24 (word_only 24 xs ys bx by (x.version ∙ sym y.version)) in
    let s64 = same_joined 0 32 64 xs ys s32 (zeros_same 32 64 xs ys x.zeros y.zeros) in
    let s128 = same_joined 0 64 128 xs ys s64 (pointer_only 64 block.prev xs ys bx by x.prev y.prev) in
    let entries = same_joined 0 128 (first_entry + entry_len d * n) xs ys s128
    (entries_only d first_entry (first_entry + entry_len d * n) block.entries xs ys refl bx by block.told x.entries y.entries) in
    let whole = same_joined 0 (first_entry + entry_len d * n) log_len xs ys entries
    (zeros_same (first_entry + entry_len d * n) log_len xs ys x.zeros_behind y.zeros_behind) in
    same_whole log_len xs ys x.whole y.whole whole
