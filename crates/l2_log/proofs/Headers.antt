-- The parts of a header, and which of their rules speak of which places.
use Rattle.std.proofs.Common.{◌≡◌, ℕ, ◌≤◌, Result, Ok, Err, MatchResult, List, length, ap, sym, ◌∙◌, arith}
use Rattle.blk_ptr.specs.Ptr.{sha256_of}
use Rattle.l2_log.specs.declared.header.DevHeader.{DevHeader}
use Rattle.l2_log.specs.declared.fault.LogFault.{LogFault}
use Rattle.l2_log.specs.declared.fault.LogFault.TheVariants as fault
use Rattle.l2_log.specs.Bytes.{digest_at, AreZero, AreSame, AreBytes, IsZeroIn}
use Rattle.l2_log.specs.Places.{IsFieldFault}
use Rattle.l2_log.specs.PointerBytes.{PointerRule}
use Rattle.l2_log.specs.HeaderBytes.{IsHeader, IsHeaderFront, IsSealed, NumberRule, HeaderRule, IsFirstRefusal}
use Rattle.l2_log.specs.Values.{same_header_of_bytes}
use Rattle.l2_log.proofs.Numbers.{word_only, same_joined, zeros_same, part_same, front_same, same_whole}
use Rattle.l2_log.proofs.Pointers.{pointer_only, pointer_rule, pointer_below}

numbers_behind : (bytes : List ℕ) (k : ℕ) → 72 ≤ k → NumberRule bytes k
numbers_behind bytes k h = record {
  start = λ e. absurd (omega arith);
  end = λ e. absurd (omega arith);
  hand = λ e. absurd (omega arith);
  evict = λ e. absurd (omega arith);
  top = λ e. absurd (omega arith);
  lap = λ e. absurd (omega arith);
  most = λ e. absurd (omega arith);
}

pub broken_numbers : (bytes : List ℕ) (f : LogFault) → IsHeaderFront bytes → IsSealed bytes → IsFieldFault 16 72 (NumberRule bytes) f → IsFirstRefusal bytes f
broken_numbers bytes (fault.Field at) front sealed b = (
  front,
  sealed,
  record {
    broken = λ rule. b.first.broken rule.numbers;
    kept = λ k lt. let to = b.below in record {
      numbers = b.first.kept k lt;
      zeros = λ ge below. absurd (omega arith);
      newest = pointer_below bytes 128 k (omega arith);
      second = pointer_below bytes 192 k (omega arith);
      zeros_behind = λ ge below. absurd (omega arith);
    };
  },
)
broken_numbers bytes _ front sealed b = absurd b

pub broken_zeros : (bytes : List ℕ) (f : LogFault) → IsHeaderFront bytes → IsSealed bytes → ((k : ℕ) → NumberRule bytes k)
    → IsFieldFault 72 128 (IsZeroIn 72 128 bytes) f → IsFirstRefusal bytes f
broken_zeros bytes (fault.Field at) front sealed numbers b = (
  front,
  sealed,
  record {
    broken = λ rule. b.first.broken rule.zeros;
    kept = λ k lt. let to = b.below in record {
      numbers = numbers k;
      zeros = b.first.kept k lt;
      newest = pointer_below bytes 128 k (omega arith);
      second = pointer_below bytes 192 k (omega arith);
      zeros_behind = λ ge below. absurd (omega arith);
    };
  },
)
broken_zeros bytes _ front sealed numbers b = absurd b

pub broken_newest : (bytes : List ℕ) (f : LogFault) → IsHeaderFront bytes → IsSealed bytes → ((k : ℕ) → NumberRule bytes k) → AreZero 72 128 bytes
    → IsFieldFault 128 192 (PointerRule bytes 128) f → IsFirstRefusal bytes f
broken_newest bytes (fault.Field at) front sealed numbers zeros b = (
  front,
  sealed,
  record {
    broken = λ rule. b.first.broken rule.newest;
    kept = λ k lt. let to = b.below in record {
      numbers = numbers k;
      zeros = zeros k;
      newest = b.first.kept k lt;
      second = pointer_below bytes 192 k (omega arith);
      zeros_behind = λ ge below. absurd (omega arith);
    };
  },
)
broken_newest bytes _ front sealed numbers zeros b = absurd b

pub broken_second : (bytes : List ℕ) (f : LogFault) → IsHeaderFront bytes → IsSealed bytes → ((k : ℕ) → NumberRule bytes k) → AreZero 72 128 bytes
    → ((k : ℕ) → PointerRule bytes 128 k) → IsFieldFault 192 256 (PointerRule bytes 192) f → IsFirstRefusal bytes f
broken_second bytes (fault.Field at) front sealed numbers zeros newest b = (
  front,
  sealed,
  record {
    broken = λ rule. b.first.broken rule.second;
    kept = λ k lt. let to = b.below in record {
      numbers = numbers k;
      zeros = zeros k;
      newest = newest k;
      second = b.first.kept k lt;
      zeros_behind = λ ge below. absurd (omega arith);
    };
  },
)
broken_second bytes _ front sealed numbers zeros newest b = absurd b

pub broken_behind : (bytes : List ℕ) (f : LogFault) → IsHeaderFront bytes → IsSealed bytes → ((k : ℕ) → NumberRule bytes k) → AreZero 72 128 bytes
    → ((k : ℕ) → PointerRule bytes 128 k) → ((k : ℕ) → PointerRule bytes 192 k) → IsFieldFault 256 480 (IsZeroIn 256 480 bytes) f → IsFirstRefusal bytes f
broken_behind bytes (fault.Field at) front sealed numbers zeros newest second b = (
  front,
  sealed,
  record {
    broken = λ rule. b.first.broken rule.zeros_behind;
    kept = λ k lt. record {
      numbers = numbers k;
      zeros = zeros k;
      newest = newest k;
      second = second k;
      zeros_behind = b.first.kept k lt;
    };
  },
)
broken_behind bytes _ front sealed numbers zeros newest second b = absurd b

-- a header keeps every rule
header_rule : (bytes : List ℕ) (header : DevHeader) → IsHeader bytes header → (k : ℕ) → HeaderRule bytes k
header_rule bytes header is k = record {
  numbers = record {
    start = λ e. is.start;
    end = λ e. rw is.end header.ends;
    hand = λ e. rw (is.end, is.hand) header.hand_in;
    evict = λ e. (rw (is.end, is.evict) header.evict_in, rw (is.hand, is.evict) header.order);
    top = λ e. rw (is.end, is.top) header.top_in;
    lap = λ e. rw is.lap header.lapped;
    most = λ e. rw is.version is.most;
  };
  zeros = is.zeros k;
  newest = pointer_rule bytes 128 header.newest is.newest k;
  second = pointer_rule bytes 192 header.second is.second k;
  zeros_behind = is.zeros_behind k;
}

-- a header is not refused
pub header_not_refused : (bytes : List ℕ) (header : DevHeader) (f : LogFault) → IsHeader bytes header → IsFirstRefusal bytes f → ⊥
header_not_refused bytes header (fault.Length len) is r = r.1 is.whole
header_not_refused bytes header fault.Magic is r = r.1 is.magic
header_not_refused bytes header fault.Version is r = r.2 (rw is.version header.versioned)
header_not_refused bytes header (fault.Digest kept found) is r = r.3 is.sealed
header_not_refused bytes header (fault.Field at) is r = r.2.broken (header_rule bytes header is at)

-- a reader that is exact reads each header
pub read_complete : (bytes : List ℕ) (r : Result DevHeader LogFault) → MatchResult r (λ header. IsHeader bytes header) (λ f. IsFirstRefusal bytes f)
    → (header : DevHeader) → IsHeader bytes header → r ≡ Ok header
read_complete bytes (Ok read) exact header is = ap Ok (same_header_of_bytes bytes read header exact is)
read_complete bytes (Err f) exact header is = absurd (header_not_refused bytes header f is exact)

-- the bytes of a header are given by it
pub one_header : (header : DevHeader) (xs ys : List ℕ) → AreBytes xs → AreBytes ys → IsHeader xs header → IsHeader ys header → xs ≡ ys
one_header header xs ys bx by x y =
    let s8 : AreSame 0 8 xs ys = word_only 0 xs ys bx by (x.magic ∙ sym y.magic) in
    let s16 = same_joined 0 8 16 xs ys s8 (word_only 8 xs ys bx by (x.version ∙ sym y.version)) in
    let s24 = same_joined 0 16 24 xs ys s16 (word_only 16 xs ys bx by (x.start ∙ sym y.start)) in
    let s32 = same_joined 0 24 32 xs ys s24 (word_only 24 xs ys bx by (x.end ∙ sym y.end)) in
    let s40 = same_joined 0 32 40 xs ys s32 (word_only 32 xs ys bx by (x.hand ∙ sym y.hand)) in
    let s48 = same_joined 0 40 48 xs ys s40 (word_only 40 xs ys bx by (x.evict ∙ sym y.evict)) in
    let s56 = same_joined 0 48 56 xs ys s48 (word_only 48 xs ys bx by (x.top ∙ sym y.top)) in
    let s64 = same_joined 0 56 64 xs ys s56 (word_only 56 xs ys bx by (x.lap ∙ sym y.lap)) in
    let s72 = same_joined 0 64 72 xs ys s64 (word_only 64 xs ys bx by (x.most ∙ sym y.most)) in
    let s128 = same_joined 0 72 128 xs ys s72 (zeros_same 72 128 xs ys x.zeros y.zeros) in
    let s192 = same_joined 0 128 192 xs ys s128 (pointer_only 128 header.newest xs ys bx by x.newest y.newest) in
    let s256 = same_joined 0 192 256 xs ys s192 (pointer_only 192 header.second xs ys bx by x.second y.second) in
    let s480 = same_joined 0 256 480 xs ys s256 (zeros_same 256 480 xs ys x.zeros_behind y.zeros_behind) in
    let len : length xs ≡ length ys = x.whole ∙ sym y.whole in
    let digests : digest_at xs 480 ≡ digest_at ys 480 =
    x.sealed ∙ ap (λ (bytes : List ℕ). sha256_of bytes) (front_same 480 xs ys len s480) ∙ sym y.sealed in
    let s512 = same_joined 0 480 512 xs ys s480 (part_same 480 32 xs ys (ap (λ d. d.0) digests)) in
    same_whole 512 xs ys x.whole y.whole s512
