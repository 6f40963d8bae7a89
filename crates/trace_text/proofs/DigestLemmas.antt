-- Digests and other bytes, and their hex digits.
use Rattle.std.proofs.Common.{◌≡◌, ℕ, zero, suc, ◌<◌, List, [], ◌∷◌, length, Ok, refl, ap, sym, ◌∙◌, arith}
use Rattle.hex.specs.Hex.{IsBytes, decode_sized, encode_lower, lower_digits}
use Rattle.hex.proofs.HexLemmas.{decode_sized-encode_lower, length-encode_with}
use Rattle.blk_ptr.specs.declared.digest.Digest.{Digest}
use Rattle.trace_text.specs.Grammar.{IsDigest, IsPatchBytes}

-- what is decoded from a field is the only digest that the field may spell
digest-only : (bytes field : List ℕ) (digest : Digest) → decode_sized field 32 ≡ Ok bytes → IsDigest digest → field ≡ encode_lower digest.0 → bytes ≡ digest.0
digest-only bytes field digest read fits is =
    let again = ap (λ text. decode_sized text 32) is ∙ decode_sized-encode_lower digest.0 32 fits.sized fits.bytes in cc

-- two digests with one spelling are one
pub digest-injective : (a b : Digest) → IsDigest a → IsDigest b → encode_lower a.0 ≡ encode_lower b.0 → a ≡ b
digest-injective a b fits_a fits_b e =
    let same = digest-only a.0 (encode_lower a.0) b (decode_sized-encode_lower a.0 32 fits_a.sized fits_a.bytes) fits_b e in
    ap (λ (bytes : List ℕ). let digest : Digest = record { 0 = bytes } in digest) same

-- two runs of bytes with one spelling are one
pub bytes-injective : (a b : List ℕ) → IsBytes a → IsBytes b → encode_lower a ≡ encode_lower b → a ≡ b
bytes-injective a b fits_a fits_b e =
    let size : length a ≡ length b = omega (arith, length-encode_with lower_digits a, length-encode_with lower_digits b, ap length e) in
    let one = decode_sized-encode_lower a (length a) refl fits_a in
    let other = decode_sized-encode_lower b (length a) (sym size) fits_b in
    let again = ap (λ text. decode_sized text (length a)) e in
    let same = sym one ∙ (again ∙ other) in
    cc

pub run-injective : (a b : List ℕ) → IsPatchBytes a → IsPatchBytes b → encode_lower a ≡ encode_lower b → a ≡ b
run-injective a b p q e = bytes-injective a b p.bytes q.bytes e

-- a byte alone
IsBytes-one : (b : ℕ) → b < 256 → IsBytes (b ∷ [])
IsBytes-one b lt zero = lt
IsBytes-one b lt (suc k) = omega arith

pub byte-injective : (a b : ℕ) → a < 256 → b < 256 → encode_lower (a ∷ []) ≡ encode_lower (b ∷ []) → a ≡ b
byte-injective a b p q e = let same = bytes-injective (a ∷ []) (b ∷ []) (IsBytes-one a p) (IsBytes-one b q) e in cc
