-- That bytes are one value at most: two headers of the same bytes are one header, and likewise two log blocks.
use Rattle.std.specs.Prelude.{◌≡◌, ◌≢◌, ℕ, zero, suc, ◌+◌, ◌≤◌, ◌%◌, List, [], ◌∷◌, length, get_or, Option, None, Some, Bool, true, false}
use Rattle.std.proofs.lemmas.Bool.{false≢true, eqb-true, eqb-false}
use Rattle.std.proofs.Common.{refl, sym, ap, subst, ◌∙◌, arith}
use Rattle.std.proofs.Props.{props}
use Rattle.byteorder.specs.Endian.{little_from}
use Rattle.blk_ptr.specs.Size.{sector}
use Rattle.blk_ptr.specs.Key.{IsWellFormed}
use Rattle.blk_ptr.specs.declared.digest.Digest.{Digest}
use Rattle.std.specs.List.{All}
use Rattle.std.proofs.lemmas.List.Elements.{All-head, All-tail}
use Rattle.l2_log.specs.Rules.{IsVersion, IsCount, IsCountWith, IsRingEnd, IsRingPlace, has_digests, is_there, largest_with, stored_version, entry_len, first_entry}
use Rattle.l2_log.specs.Bytes.{word, AreZero}
use Rattle.l2_log.specs.declared.pointer.LogPtr.{LogPtr}
use Rattle.l2_log.specs.declared.entry.LogEntry.{LogEntry}
use Rattle.l2_log.specs.declared.header.DevHeader.{DevHeader}
use Rattle.l2_log.specs.declared.log_block.LogBlock.{LogBlock}
use Rattle.l2_log.specs.PointerBytes.{IsPointerOrNone}
use Rattle.l2_log.specs.EntryBytes.{IsEntry, IsDigestIfAny, AreEntries}
use Rattle.l2_log.specs.HeaderBytes.{IsHeader}
use Rattle.l2_log.specs.LogBytes.{IsLogBlock}

ptr_of : (t : ℕ × ℕ × Digest) → IsCount t.1 → LogPtr
ptr_of t counted = record { place = t.0; count = t.1; digest = t.2; counted = counted }

count_prop : (n : ℕ) (a b : IsCount n) → a ≡ b
count_prop n a b = let p : IsProp (IsCount n) = hlevel props in p a b

same_ptr_of : (s t : ℕ × ℕ × Digest) → s ≡ t → (a : IsCount s.1) (b : IsCount t.1) → ptr_of s a ≡ ptr_of t b
same_ptr_of s t e a =
    subst (λ (t : ℕ × ℕ × Digest). (b : IsCount t.1) → ptr_of s a ≡ ptr_of t b) e (λ b. ap (ptr_of s) (count_prop s.1 a b))

-- the same place, count and digest are the same pointer
pub same_ptr : (a b : LogPtr) → a.place ≡ b.place → a.count ≡ b.count → a.digest ≡ b.digest → a ≡ b
unfolding ptr_of
same_ptr a b p c d =
    let e : (a.place, a.count, a.digest) ≡ (b.place, b.count, b.digest) = cc in
    same_ptr_of (a.place, a.count, a.digest) (b.place, b.count, b.digest) e a.counted b.counted

little_from-zero : (n i : ℕ) (xs : List ℕ) → AreZero i (i + n) xs → little_from i n xs ≡ 0
little_from-zero zero i xs z = refl
little_from-zero (suc n) i xs z =
    let first : get_or xs i 0 ≡ 0 = z i (omega arith) (omega arith) in
    let rest = little_from-zero n (suc i) xs (λ k ge lt. z k (omega arith) (omega arith)) in
    omega arith

no_length : (bytes : List ℕ) (at : ℕ) → AreZero at (at + 64) bytes → word bytes (at + 8) ≡ 65536 → ⊥
unfolding word
no_length bytes at z e =
    let none = little_from-zero 8 (at + 8) bytes (λ k ge lt. z k (omega arith) (omega arith)) in
    absurd (omega (arith, none, e))

-- bytes are one pointer at most
pub same_pointer_of_bytes : (bytes : List ℕ) (at : ℕ) (p q : Option LogPtr) → IsPointerOrNone bytes at p → IsPointerOrNone bytes at q → p ≡ q
same_pointer_of_bytes bytes at None None x y = refl
same_pointer_of_bytes bytes at None (Some q) x y = absurd (no_length bytes at x y.length)
same_pointer_of_bytes bytes at (Some p) None x y = absurd (no_length bytes at y x.length)
same_pointer_of_bytes bytes at (Some p) (Some q) x y =
    ap (λ (ptr : LogPtr). let o : Option LogPtr = Some ptr in o) (same_ptr p q (sym x.place ∙ y.place) (sym x.count ∙ y.count) (sym x.digest ∙ y.digest))

abbrev pub HeaderFields : Type 0
HeaderFields = ℕ × ℕ × ℕ × ℕ × ℕ × Option LogPtr × Option LogPtr × ℕ

record HeaderRules (t : HeaderFields) : Type 0 where
  versioned : IsVersion t.7
  ends : IsRingEnd t.0
  hand_in : IsRingPlace t.0 t.1
  evict_in : IsRingPlace t.0 t.2
  top_in : IsRingPlace t.0 t.3
  order : t.1 ≤ t.2
  lapped : 1 ≤ t.4

header_of : (t : HeaderFields) → HeaderRules t → DevHeader
header_of t r = record {
  version = t.7;
  end = t.0;
  hand = t.1;
  evict = t.2;
  top = t.3;
  lap = t.4;
  newest = t.5;
  second = t.6;
  versioned = r.versioned;
  ends = r.ends;
  hand_in = r.hand_in;
  evict_in = r.evict_in;
  top_in = r.top_in;
  order = r.order;
  lapped = r.lapped;
}

header_prop : (t : HeaderFields) (a b : HeaderRules t) → a ≡ b
header_prop t a b = let p : IsProp (HeaderRules t) = hlevel props in p a b

same_header_of : (s t : HeaderFields) → s ≡ t → (a : HeaderRules s) (b : HeaderRules t) → header_of s a ≡ header_of t b
same_header_of s t e a =
    subst (λ (t : HeaderFields). (b : HeaderRules t) → header_of s a ≡ header_of t b) e (λ b. ap (header_of s) (header_prop s a b))

fields_of : DevHeader → HeaderFields
fields_of h = (h.end, h.hand, h.evict, h.top, h.lap, h.newest, h.second, h.version)

rules_of : (h : DevHeader) → HeaderRules (fields_of h)
unfolding fields_of
rules_of h = record { versioned = h.versioned; ends = h.ends; hand_in = h.hand_in; evict_in = h.evict_in; top_in = h.top_in; order = h.order; lapped = h.lapped }

-- bytes are one header at most
pub same_header_of_bytes : (bytes : List ℕ) (a b : DevHeader) → IsHeader bytes a → IsHeader bytes b → a ≡ b
unfolding header_of fields_of rules_of
same_header_of_bytes bytes a b x y =
    let version : a.version ≡ b.version = sym x.version ∙ y.version in
    let end : a.end ≡ b.end = sym x.end ∙ y.end in
    let hand : a.hand ≡ b.hand = sym x.hand ∙ y.hand in
    let evict : a.evict ≡ b.evict = sym x.evict ∙ y.evict in
    let top : a.top ≡ b.top = sym x.top ∙ y.top in
    let lap : a.lap ≡ b.lap = sym x.lap ∙ y.lap in
    let newest : a.newest ≡ b.newest = same_pointer_of_bytes bytes 128 a.newest b.newest x.newest y.newest in
    let second : a.second ≡ b.second = same_pointer_of_bytes bytes 192 a.second b.second x.second y.second in
    let e : fields_of a ≡ fields_of b = cc in
    same_header_of (fields_of a) (fields_of b) e (rules_of a) (rules_of b)

abbrev pub EntryFields : Type 0
EntryFields = ℕ × ℕ × ℕ × ℕ × Option Digest

record EntryRules (t : EntryFields) : Type 0 where
  formed : IsWellFormed record { offset = t.0; size = t.1; birth = t.2 }
  aligned : t.3 % sector ≡ 0
  sized : t.1 ≤ largest_with (is_there t.4)

entry_of : (t : EntryFields) → EntryRules t → LogEntry
entry_of t r = record {
  key = record { offset = t.0; size = t.1; birth = t.2 };
  place = t.3;
  digest = t.4;
  formed = r.formed;
  aligned = r.aligned;
  sized = r.sized;
}

entry_prop : (t : EntryFields) (a b : EntryRules t) → a ≡ b
entry_prop t a b = let p : IsProp (EntryRules t) = hlevel props in p a b

same_entry_of : (s t : EntryFields) → s ≡ t → (a : EntryRules s) (b : EntryRules t) → entry_of s a ≡ entry_of t b
same_entry_of s t e a =
    subst (λ (t : EntryFields). (b : EntryRules t) → entry_of s a ≡ entry_of t b) e (λ b. ap (entry_of s) (entry_prop s a b))

same_digest : (bytes : List ℕ) (at : ℕ) (digests : Bool) (p q : Option Digest) → is_there p ≡ digests → is_there q ≡ digests
    → IsDigestIfAny bytes at p → IsDigestIfAny bytes at q → p ≡ q
same_digest bytes at digests None None hp hq x y = refl
same_digest bytes at digests None (Some b) hp hq x y = absurd (false≢true (hp ∙ sym hq))
same_digest bytes at digests (Some a) None hp hq x y = absurd (false≢true (hq ∙ sym hp))
same_digest bytes at digests (Some a) (Some b) hp hq x y = ap (λ (d : Digest). let o : Option Digest = Some d in o) (sym x ∙ y)

same_entry : (digests : Bool) (bytes : List ℕ) (at : ℕ) (a b : LogEntry) → is_there a.digest ≡ digests → is_there b.digest ≡ digests
    → IsEntry digests bytes at a → IsEntry digests bytes at b → a ≡ b
unfolding entry_of
same_entry digests bytes at a b ha hb x y =
    let offset : a.key.offset ≡ b.key.offset = sym x.offset ∙ y.offset in
    let size : a.key.size ≡ b.key.size = sym x.size ∙ y.size in
    let birth : a.key.birth ≡ b.key.birth = sym x.birth ∙ y.birth in
    let place : a.place ≡ b.place = sym x.place ∙ y.place in
    let digest : a.digest ≡ b.digest = same_digest bytes (at + 32) digests a.digest b.digest ha hb x.digest y.digest in
    let e : (a.key.offset, a.key.size, a.key.birth, a.place, a.digest) ≡ (b.key.offset, b.key.size, b.key.birth, b.place, b.digest) = cc in
    same_entry_of (a.key.offset, a.key.size, a.key.birth, a.place, a.digest) (b.key.offset, b.key.size, b.key.birth, b.place, b.digest) e
    record { formed = a.formed; aligned = a.aligned; sized = a.sized } record { formed = b.formed; aligned = b.aligned; sized = b.sized }

-- each of these entries has a digest, or none has
abbrev pub HaveDigests : Bool → List LogEntry → Type 0
HaveDigests digests es = All (λ entry. is_there entry.digest ≡ digests) es

-- bytes are one list of so many entries at most
pub same_entries_of_bytes : (digests : Bool) (bytes : List ℕ) (at : ℕ) (es fs : List LogEntry) → length es ≡ length fs → HaveDigests digests es → HaveDigests digests fs
    → AreEntries digests bytes at es → AreEntries digests bytes at fs → es ≡ fs
same_entries_of_bytes digests bytes at [] [] len he hf x y = refl
same_entries_of_bytes digests bytes at [] (b ∷ fs) len he hf x y = absurd (omega arith)
same_entries_of_bytes digests bytes at (a ∷ es) [] len he hf x y = absurd (omega arith)
same_entries_of_bytes digests bytes at (a ∷ es) (b ∷ fs) len he hf x y =
    let P : LogEntry → Type 0 = λ entry. is_there entry.digest ≡ digests in
    let first = same_entry digests bytes at a b (All-head P a es he) (All-head P b fs hf) x.0 y.0 in
    let rest = same_entries_of_bytes digests bytes (at + entry_len digests) es fs (omega arith) (All-tail P a es he) (All-tail P b fs hf) x.1 y.1 in
    cc (first, rest)

abbrev pub LogFields : Type 0
LogFields = ℕ × Option LogPtr × List LogEntry × ℕ

record LogRules (t : LogFields) : Type 0 where
  lapped : 1 ≤ t.0
  versioned : IsVersion t.3
  counted : IsCountWith (has_digests t.3) (length t.2)
  told : All (λ entry. is_there entry.digest ≡ has_digests t.3) t.2

log_of : (t : LogFields) → LogRules t → LogBlock
log_of t r = record {
  version = t.3;
  lap = t.0;
  prev = t.1;
  entries = t.2;
  lapped = r.lapped;
  versioned = r.versioned;
  counted = r.counted;
  told = r.told;
}

log_prop : (t : LogFields) (a b : LogRules t) → a ≡ b
log_prop t a b = let p : IsProp (LogRules t) = hlevel props in p a b

same_log_of : (s t : LogFields) → s ≡ t → (a : LogRules s) (b : LogRules t) → log_of s a ≡ log_of t b
same_log_of s t e a =
    subst (λ (t : LogFields). (b : LogRules t) → log_of s a ≡ log_of t b) e (λ b. ap (log_of s) (log_prop s a b))

same_version_if : (a b : ℕ) (s t : Bool) → IsVersion a → IsVersion b → has_digests a ≡ s → has_digests b ≡ t → stored_version s ≡ stored_version t → a ≡ b
same_version_if a b true true va vb ha hb e = eqb-true a 2 ha ∙ sym (eqb-true b 2 hb)
same_version_if a b true false va vb ha hb e = absurd (omega arith)
same_version_if a b false true va vb ha hb e = absurd (omega arith)
same_version_if a b false false va vb ha hb e =
    let na : a ≢ 2 = eqb-false a 2 ha in
    let nb : b ≢ 2 = eqb-false b 2 hb in
    let la = va.most in
    let lb = vb.most in
    let fa = va.least in
    let fb = vb.least in
    omega arith

same_version : (a b : ℕ) → IsVersion a → IsVersion b → stored_version (has_digests a) ≡ stored_version (has_digests b) → a ≡ b
same_version a b va vb e = same_version_if a b (has_digests a) (has_digests b) va vb refl refl e

-- bytes are one log block at most
pub same_log_block_of_bytes : (bytes : List ℕ) (a b : LogBlock) → IsLogBlock bytes a → IsLogBlock bytes b → a ≡ b
unfolding log_of
same_log_block_of_bytes bytes a b x y =
    let version : a.version ≡ b.version = same_version a.version b.version a.versioned b.versioned (sym x.version ∙ y.version) in
    let lap : a.lap ≡ b.lap = sym x.lap ∙ y.lap in
    let prev : a.prev ≡ b.prev = same_pointer_of_bytes bytes 64 a.prev b.prev x.prev y.prev in
    let other : HaveDigests (has_digests a.version) b.entries = subst (λ (v : ℕ). HaveDigests (has_digests v) b.entries) (sym version) b.told in
    let there : AreEntries (has_digests a.version) bytes first_entry b.entries =
    subst (λ (v : ℕ). AreEntries (has_digests v) bytes first_entry b.entries) (sym version) y.entries in
    let entries : a.entries ≡ b.entries =
    same_entries_of_bytes (has_digests a.version) bytes first_entry a.entries b.entries (sym x.count ∙ y.count) a.told other x.entries there in
    let e : (a.lap, a.prev, a.entries, a.version) ≡ (b.lap, b.prev, b.entries, b.version) = cc in
    same_log_of (a.lap, a.prev, a.entries, a.version) (b.lap, b.prev, b.entries, b.version) e
    record { lapped = a.lapped; versioned = a.versioned; counted = a.counted; told = a.told }
    record { lapped = b.lapped; versioned = b.versioned; counted = b.counted; told = b.told }
