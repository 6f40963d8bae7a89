-- Decimal numbers with no leading zero.
use Rattle.std.proofs.Common.{◌≡◌, ℕ, zero, suc, ◌+◌, ◌*◌, ◌<◌, ◌≤◌, ◌^◌, List, ◌∷◌, length, take, get_or, refl, ◌∙◌, sym, arith, Bool, false, IsTrue, Option, Some, ap, subst}
use Rattle.std.specs.Prelude.{SomeIff}
use Rattle.std.proofs.lemmas.Bool.{false≢true}
use Rattle.std.specs.Char.{digit_value}
use Rattle.std.specs.Fmt.{decimal}
use Rattle.std.specs.Str.Parse.{AllDigits, digits_value}
use Rattle.std.proofs.lemmas.Fmt.{decimal-digits_value, decimal_digit, decimal_injective, decimal_is_IsNumeral, decimal_nonempty, digits_value-decimal, first_decimal}
use Rattle.std.proofs.lemmas.List.{take_all}
use Rattle.std.proofs.lemmas.Int.Digits.{digits_more, digits_value_more}
use Rattle.std.proofs.lemmas.Str.{digit_value_digit}
use Rattle.std.proofs.lemmas.Str.Parse.{IsNumeralModel, digit_at, digits_value-take-le, numerals_by_value, tells_digits}
use Rattle.trace_text.specs.Reading.{BeginsAsNumber}

own : IsNumeralModel (AllDigits 10) (digits_value 10)
own = numerals_by_value (AllDigits 10) tells_digits

-- a printed number begins as a number may
pub BeginsAsNumber-decimal : (n : ℕ) → n < 2 ^ 64 → BeginsAsNumber (decimal n)
BeginsAsNumber-decimal zero h = let e = decimal_digit 0 (omega arith) in rw e (omega arith, (λ p. omega arith), λ _. refl)
BeginsAsNumber-decimal (suc n) h =
    let longer = decimal_nonempty (suc n) h in
    let first = first_decimal (suc n) (omega arith) h in
    let digit = digit_at (decimal (suc n)) 0 (decimal_is_IsNumeral (suc n) h).0.1 longer in
    (longer, (λ p. omega (arith, digit.0)), λ p. absurd (omega arith))

-- digits that begin as a number may are the number that they write
pub digits-spell : (bs : List ℕ) (v : ℕ) → (AllDigits 10 bs × (digits_value 10 bs < 2 ^ 64)) × (v ≡ digits_value 10 bs) → BeginsAsNumber bs → bs ≡ decimal v
digits-spell bs v h begins = sym (rw h.1 (decimal-digits_value own bs h.0.0 begins.0 begins.2 h.0.1))

-- a number's text is of digits, which write it
pub decimal-digits : (bs : List ℕ) (n : ℕ) → n < 2 ^ 64 → bs ≡ decimal n → AllDigits 10 bs × (digits_value 10 bs ≡ n)
decimal-digits bs n h is = rw is ((decimal_is_IsNumeral n h).0.1, digits_value-decimal own n h)

-- a result that is there
pub some-iff : {P : Type 0} (r : Option ℕ) (w v : ℕ) → r ≡ Some w → SomeIff r P v → P × (w ≡ v)
some-iff r w v is h = rw is at h

-- one digit more
pub digits-more : (bs : List ℕ) (i v w : ℕ) → i < length bs → AllDigits 10 (take i bs) → v ≡ digits_value 10 (take i bs)
    → digit_value (get_or bs i 0) < 10 → w ≡ v * 10 + digit_value (get_or bs i 0)
    → AllDigits 10 (take (i + 1) bs) × (w ≡ digits_value 10 (take (i + 1) bs))
digits-more bs i v w lt digits is digit next =
    let more = digits_value_more 10 bs i lt in
    (digits_more 10 bs i lt digits digit, omega (arith, more))

-- all digits
pub digits-all : (bs : List ℕ) (i v : ℕ) → length bs ≤ i → v < 2 ^ 64 → AllDigits 10 (take i bs) → v ≡ digits_value 10 (take i bs)
    → (AllDigits 10 bs × (digits_value 10 bs < 2 ^ 64)) × (v ≡ digits_value 10 bs)
digits-all bs i v all below digits is =
    let whole : take i bs ≡ bs = take_all i bs all in
    let same : v ≡ digits_value 10 bs = is ∙ ap (digits_value 10) whole in
    ((subst (AllDigits 10) whole digits, omega (arith, same, below)), same)

-- a byte that is no digit, or one with which the number is too large
pub digits-stuck : (bs : List ℕ) (i v : ℕ) → i < length bs → v ≡ digits_value 10 (take i bs)
    → ((digit_value (get_or bs i 0) < 10) × (v * 10 + digit_value (get_or bs i 0) < 2 ^ 64) → ⊥)
    → AllDigits 10 bs × (digits_value 10 bs < 2 ^ 64) → ⊥
digits-stuck bs i v lt is none h =
    let range = digit_at bs i h.0 lt in
    let digit = digit_value_digit (get_or bs i 0) range in
    let more = digits_value_more 10 bs i lt in
    let less = digits_value-take-le 10 bs (i + 1) (omega arith) in
    none (omega (arith, digit, range), omega (arith, more, less, h.1))

-- a text that does not begin as a number may is no number
pub decimal-misbegun : (bs : List ℕ) (b : Bool) → ((IsTrue b → BeginsAsNumber bs) × (BeginsAsNumber bs → IsTrue b)) → b ≡ false → (n : ℕ) → n < 2 ^ 64 → bs ≡ decimal n → ⊥
decimal-misbegun bs b h e n fits is = false≢true (sym e ∙ h.1 (rw is (BeginsAsNumber-decimal n fits)))

-- fields that begin with a number that is not below this limit begin with none that is
pub decimal-above : (fields rest others : List (List ℕ)) (m n limit : ℕ) → fields ≡ decimal m ∷ rest → fields ≡ decimal n ∷ others
    → m < 2 ^ 64 → limit < 2 ^ 64 → limit ≤ m → n < limit → ⊥
decimal-above fields rest others m n limit is also fits_m fits_limit above below =
    let joined = sym is ∙ also in
    let same : decimal m ≡ decimal n = cc in
    let e = decimal_injective m n fits_m (omega arith) same in
    omega arith
