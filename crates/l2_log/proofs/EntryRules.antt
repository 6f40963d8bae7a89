-- Entries at places.
use Rattle.std.proofs.Common.{◌≡◌, ℕ, ◌+◌, ◌*◌, ◌<◌, ◌≤◌, zero, suc, refl, inl, inr, List, [], ◌∷◌, ◌++◌, length, Bool, true, false, Option, None, Some, ap, subst, sym, ◌∙◌, arith}
use Rattle.std.proofs.lemmas.Bool.{cases_lt, cases_order, false≢true}
use Rattle.std.proofs.lemmas.List.Elements.{All-head, All-tail}
use Rattle.blk_ptr.specs.declared.digest.Digest.{Digest}
use Rattle.l2_log.specs.declared.entry.LogEntry.{LogEntry}
use Rattle.l2_log.specs.declared.fault.LogFault.{LogFault}
use Rattle.l2_log.specs.declared.fault.LogFault.TheVariants as fault
use Rattle.l2_log.specs.Rules.{first_entry, entry_len, fields_len, is_there}
use Rattle.l2_log.specs.Bytes.{AreSame, AreBytes, AreZero, IsKeptOutside}
use Rattle.l2_log.specs.Places.{IsFieldFault}
use Rattle.l2_log.specs.EntryBytes.{IsEntry, IsDigestIfAny, AreEntries, EntryRule}
use Rattle.l2_log.specs.LogBytes.{IsEntriesFault}
use Rattle.l2_log.specs.Values.{HaveDigests}
use Rattle.l2_log.proofs.Numbers.{kept_word, kept_zeros, kept_zeros_behind, word_only, same_joined, part_same, part_from_same}

-- the lengths of the fields and of the whole entry
pub record EntryLens (digests : Bool) : Type 0 where
  pub least : 32 ≤ fields_len digests
  pub most : fields_len digests ≤ entry_len digests

pub entry_lens : (digests : Bool) → EntryLens digests
entry_lens true = record { least = omega arith; most = omega arith }
entry_lens false = record { least = omega arith; most = omega arith }

-- the place behind one entry more
pub next_place : (digests : Bool) (at i : ℕ) → at + entry_len digests * (i + 1) ≡ at + entry_len digests * i + entry_len digests
next_place true at i = omega arith
next_place false at i = omega arith

-- the same, with the entry in front
pub place_behind : (digests : Bool) (at i : ℕ) → at + entry_len digests * suc i ≡ at + entry_len digests + entry_len digests * i
place_behind true at i = omega arith
place_behind false at i = omega arith

pub place_none : (digests : Bool) (at : ℕ) → at + entry_len digests * 0 ≡ at
place_none true at = omega arith
place_none false at = omega arith

-- an entry ends before one further on begins
pub places_in_order : (digests : Bool) (at i n : ℕ) → i < n → at + entry_len digests * i + entry_len digests ≤ at + entry_len digests * n
places_in_order true at i n lt = omega arith
places_in_order false at i n lt = omega arith

kept_digest : {from to : ℕ} {xs ys : List ℕ} (at : ℕ) (d : Option Digest) → IsKeptOutside from to xs ys → at + 32 ≤ from → IsDigestIfAny xs at d → IsDigestIfAny ys at d
kept_digest at None kept h is = tt
kept_digest {xs = xs} {ys = ys} at (Some d) kept h is =
    ap (λ (bytes : List ℕ). let d : Digest = record { 0 = bytes } in d)
    (sym (part_from_same at 32 xs ys (λ k ge lt. kept.before k (omega arith) (omega arith)) kept.len)) ∙ is

kept_entry_digest : {from to : ℕ} {xs ys : List ℕ} (digests : Bool) (at : ℕ) (d : Option Digest) → IsKeptOutside from to xs ys → at + entry_len digests ≤ from
    → is_there d ≡ digests → IsDigestIfAny xs (at + 32) d → IsDigestIfAny ys (at + 32) d
kept_entry_digest digests at None kept h there is = tt
kept_entry_digest true at (Some d) kept h there is = kept_digest (at + 32) (Some d) kept (omega arith) is
kept_entry_digest false at (Some d) kept h there is = absurd (false≢true (sym there))

kept_entry : {from to : ℕ} {xs ys : List ℕ} (digests : Bool) (at : ℕ) (e : LogEntry) → IsKeptOutside from to xs ys → at + entry_len digests ≤ from
    → is_there e.digest ≡ digests → IsEntry digests xs at e → IsEntry digests ys at e
kept_entry digests at e kept h there is =
    let lens = entry_lens digests in
    let least = lens.least in
    let most = lens.most in
    record {
      offset = kept_word at _ kept (omega arith) is.offset;
      size = kept_word (at + 8) _ kept (omega arith) is.size;
      birth = kept_word (at + 16) _ kept (omega arith) is.birth;
      place = kept_word (at + 24) _ kept (omega arith) is.place;
      digest = kept_entry_digest digests at e.digest kept h there is.digest;
      zeros = kept_zeros (at + fields_len digests) (at + entry_len digests) kept h is.zeros;
    }

-- entries outside the range of a change
pub kept_entries : {from to : ℕ} {xs ys : List ℕ} (digests : Bool) (at : ℕ) (es : List LogEntry) → IsKeptOutside from to xs ys → at + entry_len digests * length es ≤ from
    → HaveDigests digests es → AreEntries digests xs at es → AreEntries digests ys at es
kept_entries digests at [] kept h have is = tt
kept_entries digests at (e ∷ es) kept h have is =
    let P : LogEntry → Type 0 = λ entry. is_there entry.digest ≡ digests in
    let behind = place_behind digests at (length es) in (
      kept_entry digests at e kept (omega arith) (All-head P e es have) is.0,
      kept_entries digests (at + entry_len digests) es kept (omega arith) (All-tail P e es have) is.1,
    )

-- one more entry behind the others
pub entries_more : (digests : Bool) (bytes : List ℕ) (at n : ℕ) (es : List LogEntry) (e : LogEntry) → n ≡ at + entry_len digests * length es → AreEntries digests bytes at es
    → IsEntry digests bytes n e → AreEntries digests bytes at (es ++ e ∷ [])
entries_more digests bytes at n [] e h is last =
    let none = place_none digests at in (subst (λ (m : ℕ). IsEntry digests bytes m e) (h ∙ none) last, tt)
entries_more digests bytes at n (first ∷ es) e h is last =
    (is.0, entries_more digests bytes (at + entry_len digests) n es e (h ∙ place_behind digests at (length es)) is.1 last)

digest_only : (digests : Bool) (at : ℕ) (d : Option Digest) (xs ys : List ℕ) → is_there d ≡ digests → IsDigestIfAny xs (at + 32) d → IsDigestIfAny ys (at + 32) d
    → AreSame (at + 32) (at + fields_len digests) xs ys
digest_only true at None xs ys there x y = absurd (false≢true there)
digest_only true at (Some d) xs ys there x y = λ k ge lt. part_same (at + 32) 32 xs ys (ap (λ d. d.0) (x ∙ sym y)) k ge (omega arith)
digest_only false at d xs ys there x y = λ k ge lt. absurd (omega arith)

entry_only : (digests : Bool) (at : ℕ) (e : LogEntry) (xs ys : List ℕ) → AreBytes xs → AreBytes ys → is_there e.digest ≡ digests
    → IsEntry digests xs at e → IsEntry digests ys at e → AreSame at (at + entry_len digests) xs ys
entry_only digests at e xs ys bx by there x y =
    let offset : AreSame at (at + 8) xs ys = word_only at xs ys bx by (x.offset ∙ sym y.offset) in
    let size : AreSame (at + 8) (at + 8 + 8) xs ys = word_only (at + 8) xs ys bx by (x.size ∙ sym y.size) in
    let birth : AreSame (at + 16) (at + 16 + 8) xs ys = word_only (at + 16) xs ys bx by (x.birth ∙ sym y.birth) in
    let place : AreSame (at + 24) (at + 24 + 8) xs ys = word_only (at + 24) xs ys bx by (x.place ∙ sym y.place) in
    let digest = digest_only digests at e.digest xs ys there x.digest y.digest in
    λ k ge lt.
    elim (cases_lt k (at + 8)) [
      | inl a ↦ offset k ge a
      | inr a ↦ elim (cases_lt k (at + 16)) [
        | inl b ↦ size k a (omega arith)
        | inr b ↦ elim (cases_lt k (at + 24)) [
          | inl d ↦ birth k b (omega arith)
          | inr d ↦ elim (cases_lt k (at + 32)) [
            | inl f ↦ place k d (omega arith)
            | inr f ↦ elim (cases_lt k (at + fields_len digests)) [
              | inl g ↦ digest k f g
              | inr g ↦ x.zeros k g lt ∙ sym (y.zeros k g lt)
            ]
          ]
        ]
      ]
    ]

-- the same entries are the same bytes
pub entries_only : (digests : Bool) (at n : ℕ) (es : List LogEntry) (xs ys : List ℕ) → n ≡ at + entry_len digests * length es → AreBytes xs → AreBytes ys → HaveDigests digests es
    → AreEntries digests xs at es → AreEntries digests ys at es → AreSame at n xs ys
entries_only digests at n [] xs ys h bx by have x y = λ k ge lt. let none = place_none digests at in absurd (omega arith)
entries_only digests at n (e ∷ es) xs ys h bx by have x y =
    let P : LogEntry → Type 0 = λ entry. is_there entry.digest ≡ digests in
    same_joined at (at + entry_len digests) n xs ys (entry_only digests at e xs ys bx by (All-head P e es have) x.0 y.0)
    (entries_only digests (at + entry_len digests) n es xs ys (h ∙ place_behind digests at (length es)) bx by (All-tail P e es have) x.1 y.1)

entry_rule : (digests : Bool) (bytes : List ℕ) (at : ℕ) (e : LogEntry) → is_there e.digest ≡ digests → IsEntry digests bytes at e → (k : ℕ) → EntryRule digests bytes at k
entry_rule digests bytes at e there is k = record {
  offset = λ p. rw is.offset e.formed.aligned;
  size = λ p. rw is.size record { block = e.formed.sized; most = rw there at e.sized };
  birth = λ p. rw is.birth e.formed.born;
  place = λ p. rw is.place e.aligned;
  zeros = is.zeros k;
}

-- entries keep the rule of each
pub entries_rule : (digests : Bool) (bytes : List ℕ) (at : ℕ) (es : List LogEntry) → HaveDigests digests es → AreEntries digests bytes at es → (i n : ℕ) → i < length es
    → n ≡ at + entry_len digests * i → (k : ℕ) → EntryRule digests bytes n k
entries_rule digests bytes at [] have is i n lt h k = absurd (omega arith)
entries_rule digests bytes at (e ∷ es) have is zero n lt h k =
    let none = place_none digests at in
    let same : n ≡ at = h ∙ none in
    rw same (entry_rule digests bytes at e (All-head (λ entry. is_there entry.digest ≡ digests) e es have) is.0 k)
entries_rule digests bytes at (e ∷ es) have is (suc i) n lt h k =
    entries_rule digests bytes (at + entry_len digests) es (All-tail (λ entry. is_there entry.digest ≡ digests) e es have) is.1 i n (omega arith) (h ∙ place_behind digests at i) k

-- the rule of an entry says nothing of the places before it
pub entry_below : (digests : Bool) (bytes : List ℕ) (at k : ℕ) → k < at → EntryRule digests bytes at k
entry_below digests bytes at k lt = record {
  offset = λ p. absurd (omega arith);
  size = λ p. absurd (omega arith);
  birth = λ p. absurd (omega arith);
  place = λ p. absurd (omega arith);
  zeros = λ ge below. absurd (omega arith);
}

-- the zeros behind the fields, once the digest was written
pub put_pad : (at : ℕ) (d : Option Digest) (xs ys : List ℕ) → IsKeptOutside (at + 32) (at + 32 + 32) xs ys → (is_there d ≡ false → ys ≡ xs)
    → AreZero (at + fields_len (is_there d)) (at + entry_len (is_there d)) xs → AreZero (at + fields_len (is_there d)) (at + entry_len (is_there d)) ys
put_pad at None xs ys kept none zeros = rw (none refl) zeros
put_pad at (Some d) xs ys kept none zeros = kept_zeros_behind (at + 64) (at + 96) kept (omega arith) zeros

-- the first entry that is broken
pub broken_entry : (digests : Bool) (bytes : List ℕ) (count i : ℕ) (es : List LogEntry) (f : LogFault) → i < count → length es ≡ i → HaveDigests digests es
    → AreEntries digests bytes first_entry es
    → IsFieldFault (first_entry + entry_len digests * i) (first_entry + entry_len digests * i + entry_len digests) (EntryRule digests bytes (first_entry + entry_len digests * i)) f
    → IsEntriesFault digests bytes count f
broken_entry digests bytes count i es (fault.Field at) lt len have are b =
    let least = b.least in
    let below = b.below in
    let behind = places_in_order digests first_entry i count lt in
    record {
      least = omega arith;
      below = omega arith;
      first = record {
        broken = λ rule. b.first.broken (rule i lt);
        kept = λ k klt j jlt. elim (cases_order j i) [
          | inl same ↦ rw same (b.first.kept k klt)
          | inr apart ↦ elim apart [
            | inl before ↦ entries_rule digests bytes first_entry es have are j (first_entry + entry_len digests * j) (omega arith) refl k
            | inr further ↦ let order = places_in_order digests first_entry i j further in
                entry_below digests bytes (first_entry + entry_len digests * j) k (omega arith)
          ]
        ];
      };
    }
broken_entry digests bytes count i es _ lt len have are b = absurd b
