-- Fields, one after another.
use Rattle.std.proofs.Common.{◌≡◌, ℕ, ◌<◌, ◌^◌, List, ◌∷◌, ◌∙◌, sym, subst, arith}
use Rattle.std.specs.Prelude.{decimal}
use Rattle.std.proofs.lemmas.Fmt.{decimal_injective}
use Rattle.blk_ptr.specs.declared.key.Key.{Key}
use Rattle.blk_ptr.specs.declared.key.KeyFault.{KeyFault}
use Rattle.blk_ptr.specs.declared.key.KeyFault.TheVariants.{Unaligned, Size, OutOfPool, BirthZero}
use Rattle.blk_ptr.specs.Key.{IsFirstKeyFault, IsValid}
use Rattle.arc_check.specs.LogText.{IsLogKey}

-- what comes after the first field
pub next-fields : {fields rest others : List (List ℕ)} {a b : List ℕ} → fields ≡ a ∷ rest → fields ≡ b ∷ others → rest ≡ others
next-fields e f = let joined = sym e ∙ f in cc

-- the first field
pub first-field : {fields rest others : List (List ℕ)} {a b : List ℕ} → fields ≡ a ∷ rest → fields ≡ b ∷ others → a ≡ b
first-field e f = let joined = sym e ∙ f in cc

-- the number in the first field
pub same-number : {fields rest others : List (List ℕ)} (a b : ℕ) → a < 2 ^ 64 → b < 2 ^ 64 → fields ≡ decimal a ∷ rest → fields ≡ decimal b ∷ others → a ≡ b
same-number a b low_a low_b e f = decimal_injective a b low_a low_b (first-field e f)

-- a key with a fault names no block
pub faulty-key : (pool : ℕ) (key : Key) (fault : KeyFault) → IsFirstKeyFault pool key fault → IsValid pool key → ⊥
faulty-key pool key Unaligned f valid = f valid.formed.aligned
faulty-key pool key Size f valid = f.1 valid.formed.sized
faulty-key pool key (OutOfPool end len) f valid = let inside = valid.inside in omega (arith, f.4, inside)
faulty-key pool key BirthZero f valid = let born = valid.formed.born in omega (arith, f.3, born)

-- fields that are a key with a fault are no key without
pub faulty-fields : (f0 f1 f2 f3 rest : List (List ℕ)) (o s b : ℕ) (key : Key) (fault : KeyFault) → f0 ≡ decimal o ∷ f1 → f1 ≡ decimal s ∷ f2 → f2 ≡ decimal b ∷ f3
    → o < 2 ^ 64 → s < 2 ^ 64 → b < 2 ^ 64 → IsFirstKeyFault (2 ^ 63) (record { offset = o; size = s; birth = b }) fault → IsLogKey key
    → f0 ≡ decimal key.offset ∷ decimal key.size ∷ decimal key.birth ∷ rest → ⊥
faulty-fields f0 f1 f2 f3 rest o s b key fault e0 e1 e2 low_o low_s low_b first ranged is =
    let inside = ranged.valid.inside in
    let is_1 = next-fields e0 is in
    let is_2 = next-fields e1 is_1 in
    let same_o : o ≡ key.offset = same-number o key.offset low_o (omega (arith, inside)) e0 is in
    let same_s : s ≡ key.size = same-number s key.size low_s (omega (arith, inside)) e1 is_1 in
    let same_b : b ≡ key.birth = same-number b key.birth low_b ranged.birth e2 is_2 in
    let to_key : (ℕ × (ℕ × ℕ)) → Key = λ p. record { offset = p.0; size = p.1.0; birth = p.1.1 } in
    let moved : IsFirstKeyFault (2 ^ 63) (to_key (key.offset, (key.size, key.birth))) fault =
    subst (λ (p : ℕ × (ℕ × ℕ)). IsFirstKeyFault (2 ^ 63) (to_key p) fault) (λ i. (same_o i, (same_s i, same_b i))) first in
    faulty-key (2 ^ 63) (to_key (key.offset, (key.size, key.birth))) fault moved ranged.valid
