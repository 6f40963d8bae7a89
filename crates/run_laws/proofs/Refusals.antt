-- Bytes that are refused as a header or as a log block are refused with one fault.
use Rattle.std.proofs.Common.{◌≡◌, ◌≢◌, ◌⊎◌, ℕ, List, inl, inr, refl, sym, ap, ◌∙◌, subst, arith}
use Rattle.std.proofs.lemmas.Bool.{cases_lt}
use Rattle.blk_ptr.specs.Ptr.{sha256_of}
use Rattle.blk_ptr.specs.declared.digest.Digest.{Digest}
use Rattle.l2_log.specs.HeaderBytes.{HeaderRule, IsFirstRefusal}
use Rattle.l2_log.specs.LogBytes.{IsFirstLogFault, IsLogBlock, LogRule}
use Rattle.l2_log.specs.Places.{IsFirstBroken}
use Rattle.l2_log.specs.Values.{same_log_block_of_bytes}
use Rattle.l2_log.specs.declared.fault.LogFault.{LogFault}
use Rattle.l2_log.specs.declared.fault.LogFault.TheVariants as fault
use Rattle.l2_log.specs.declared.header.DevHeader.{DevHeader}
use Rattle.l2_log.specs.declared.log_block.LogBlock.{LogBlock}
use Rattle.l2_log.specs.declared.pointer.LogPtr.{LogPtr}
use Rattle.l2_log.proofs.Headers.{header_not_refused}
use Rattle.l2_log.proofs.Logs.{log_not_refused}
use Rattle.l2_dev.specs.Chain.{IsBlockFault, IsMisfit}
use Rattle.l2_dev.specs.Restoring.{IsRefused}

-- the first place at which a rule is broken is one
broken-one : (Rule : ℕ → Type 0) (a b : ℕ) → IsFirstBroken Rule a → IsFirstBroken Rule b → b ≡ a
broken-one Rule a b x y = elim (cases_lt a b) [
  | inl less ↦ absurd (x.broken (y.kept a less))
  | inr least ↦ (elim (cases_lt b a) [
    | inl less ↦ absurd (y.broken (x.kept b less))
    | inr most ↦ omega (arith, least, most)
  ])
]

-- ---- headers

first-refusal-one : (bytes : List ℕ) (f h : LogFault) → IsFirstRefusal bytes f → IsFirstRefusal bytes h → h ≡ f
first-refusal-one bytes (fault.Length len) (fault.Length n) x y = ap (λ (k : ℕ). fault.Length k) (y.0 ∙ sym x.0)
first-refusal-one bytes (fault.Length len) fault.Magic x y = absurd (x.1 y.0)
first-refusal-one bytes (fault.Length len) fault.Version x y = absurd (x.1 y.0)
first-refusal-one bytes (fault.Length len) (fault.Digest kept found) x y = absurd (x.1 y.0.whole)
first-refusal-one bytes (fault.Length len) (fault.Field at) x y = absurd (x.1 y.0.whole)
first-refusal-one bytes fault.Magic (fault.Length n) x y = absurd (y.1 x.0)
first-refusal-one bytes fault.Magic fault.Magic x y = refl
first-refusal-one bytes fault.Magic fault.Version x y = absurd (x.1 y.1)
first-refusal-one bytes fault.Magic (fault.Digest kept found) x y = absurd (x.1 y.0.magic)
first-refusal-one bytes fault.Magic (fault.Field at) x y = absurd (x.1 y.0.magic)
first-refusal-one bytes fault.Version (fault.Length n) x y = absurd (y.1 x.0)
first-refusal-one bytes fault.Version fault.Magic x y = absurd (y.1 x.1)
first-refusal-one bytes fault.Version fault.Version x y = refl
first-refusal-one bytes fault.Version (fault.Digest kept found) x y = absurd (x.2 y.0.version)
first-refusal-one bytes fault.Version (fault.Field at) x y = absurd (x.2 y.0.version)
first-refusal-one bytes (fault.Digest kept found) (fault.Length n) x y = absurd (y.1 x.0.whole)
first-refusal-one bytes (fault.Digest kept found) fault.Magic x y = absurd (y.1 x.0.magic)
first-refusal-one bytes (fault.Digest kept found) fault.Version x y = absurd (y.2 x.0.version)
first-refusal-one bytes (fault.Digest kept found) (fault.Digest d e) x y = λ i. fault.Digest ((y.1 ∙ sym x.1) i) ((y.2 ∙ sym x.2) i)
first-refusal-one bytes (fault.Digest kept found) (fault.Field at) x y = absurd (x.3 y.1)
first-refusal-one bytes (fault.Field at) (fault.Length n) x y = absurd (y.1 x.0.whole)
first-refusal-one bytes (fault.Field at) fault.Magic x y = absurd (y.1 x.0.magic)
first-refusal-one bytes (fault.Field at) fault.Version x y = absurd (y.2 x.0.version)
first-refusal-one bytes (fault.Field at) (fault.Digest d e) x y = absurd (y.3 x.1)
first-refusal-one bytes (fault.Field at) (fault.Field other) x y = ap (λ (k : ℕ). fault.Field k) (broken-one (HeaderRule bytes) at other x.2 y.2)

-- the first sector is refused with one fault
pub refused-one : (end : ℕ) (sector : List ℕ) (f h : LogFault) → IsRefused end sector f → IsRefused end sector h → h ≡ f
refused-one end sector f h (inl x) (inl y) = first-refusal-one sector f h x y
refused-one end sector f h (inl x) (inr y) = absurd (header_not_refused sector y.1 f y.2 x)
refused-one end sector f h (inr x) (inl y) = absurd (header_not_refused sector x.1 h x.2 y)
refused-one end sector f h (inr x) (inr y) = y.0 ∙ sym x.0

-- ---- log blocks

log-fault-one : (bytes : List ℕ) (f h : LogFault) → IsFirstLogFault bytes f → IsFirstLogFault bytes h → h ≡ f
log-fault-one bytes (fault.Length len) (fault.Length n) x y = ap (λ (k : ℕ). fault.Length k) (y.0 ∙ sym x.0)
log-fault-one bytes (fault.Length len) fault.Magic x y = absurd (x.1 y.0)
log-fault-one bytes (fault.Length len) (fault.Field at) x y = absurd (x.1 y.0)
log-fault-one bytes (fault.Length len) fault.Version x y = absurd y
log-fault-one bytes (fault.Length len) (fault.Digest kept found) x y = absurd y
log-fault-one bytes fault.Magic (fault.Length n) x y = absurd (y.1 x.0)
log-fault-one bytes fault.Magic fault.Magic x y = refl
log-fault-one bytes fault.Magic (fault.Field at) x y = absurd (x.1 y.1)
log-fault-one bytes fault.Magic fault.Version x y = absurd y
log-fault-one bytes fault.Magic (fault.Digest kept found) x y = absurd y
log-fault-one bytes (fault.Field at) (fault.Length n) x y = absurd (y.1 x.0)
log-fault-one bytes (fault.Field at) fault.Magic x y = absurd (y.1 x.1)
log-fault-one bytes (fault.Field at) (fault.Field other) x y = ap (λ (k : ℕ). fault.Field k) (broken-one (LogRule bytes) at other x.2 y.2)
log-fault-one bytes (fault.Field at) fault.Version x y = absurd y
log-fault-one bytes (fault.Field at) (fault.Digest kept found) x y = absurd y
log-fault-one bytes fault.Version h x y = absurd x
log-fault-one bytes (fault.Digest kept found) h x y = absurd x

-- what the header and the pointer refuse
fields-one : (header : DevHeader) (ptr : LogPtr) (block : LogBlock) (a b : ℕ) → IsMisfit header ptr block (fault.Field a) → IsMisfit header ptr block (fault.Field b) → b ≡ a
fields-one header ptr block a b (inl x) (inl y) = y.0 ∙ sym x.0
fields-one header ptr block a b (inl x) (inr (inl y)) = let late = x.1 in let least = y.1 in absurd (omega (arith, late, least))
fields-one header ptr block a b (inl x) (inr (inr y)) = let late = x.1 in let least = y.1 in absurd (omega (arith, late, least))
fields-one header ptr block a b (inr (inl x)) (inl y) = let late = y.1 in let least = x.1 in absurd (omega (arith, late, least))
fields-one header ptr block a b (inr (inl x)) (inr (inl y)) = y.0 ∙ sym x.0
fields-one header ptr block a b (inr (inl x)) (inr (inr y)) = absurd (x.2 y.2)
fields-one header ptr block a b (inr (inr x)) (inl y) = let late = y.1 in let least = x.1 in absurd (omega (arith, late, least))
fields-one header ptr block a b (inr (inr x)) (inr (inl y)) = absurd (y.2 x.2)
fields-one header ptr block a b (inr (inr x)) (inr (inr y)) = y.0 ∙ sym x.0

misfit-one : (header : DevHeader) (ptr : LogPtr) (block : LogBlock) (f h : LogFault) → IsMisfit header ptr block f → IsMisfit header ptr block h → h ≡ f
misfit-one header ptr block (fault.Field a) (fault.Field b) x y = ap (λ (k : ℕ). fault.Field k) (fields-one header ptr block a b x y)
misfit-one header ptr block (fault.Field a) fault.Magic x y = absurd y
misfit-one header ptr block (fault.Field a) fault.Version x y = absurd y
misfit-one header ptr block (fault.Field a) (fault.Digest kept found) x y = absurd y
misfit-one header ptr block (fault.Field a) (fault.Length len) x y = absurd y
misfit-one header ptr block fault.Magic h x y = absurd x
misfit-one header ptr block fault.Version h x y = absurd x
misfit-one header ptr block (fault.Digest kept found) h x y = absurd x
misfit-one header ptr block (fault.Length len) h x y = absurd x

-- by what the bytes say, or by the header and the pointer
abbrev IsOfBytes : DevHeader → LogPtr → List ℕ → LogFault → Type 0
IsOfBytes header ptr bytes f = IsFirstLogFault bytes f ⊎ ((block : LogBlock) × IsLogBlock bytes block × IsMisfit header ptr block f)

of-bytes-one : (header : DevHeader) (ptr : LogPtr) (bytes : List ℕ) (f h : LogFault) → IsOfBytes header ptr bytes f → IsOfBytes header ptr bytes h → h ≡ f
of-bytes-one header ptr bytes f h (inl x) (inl y) = log-fault-one bytes f h x y
of-bytes-one header ptr bytes f h (inl x) (inr y) = absurd (log_not_refused bytes y.0 f y.1 x)
of-bytes-one header ptr bytes f h (inr x) (inl y) = absurd (log_not_refused bytes x.0 h x.1 y)
of-bytes-one header ptr bytes f h (inr x) (inr y) =
    misfit-one header ptr x.0 f h x.2 (subst (λ (b : LogBlock). IsMisfit header ptr b h) (same_log_block_of_bytes bytes y.0 x.0 y.1 x.1) y.2)

-- another digest
record IsOfDigest (ptr : LogPtr) (bytes : List ℕ) (f : LogFault) : Type 0 where
  pub kept : Digest
  pub found : Digest
  pub is : f ≡ fault.Digest kept found
  pub asked : kept ≡ ptr.digest
  pub had : found ≡ sha256_of bytes
  pub differ : kept ≢ found

cause : (header : DevHeader) (ptr : LogPtr) (bytes : List ℕ) (f : LogFault) → IsBlockFault header ptr bytes f → IsOfDigest ptr bytes f ⊎ ((sha256_of bytes ≡ ptr.digest) × IsOfBytes header ptr bytes f)
cause header ptr bytes (fault.Digest kept found) x = inl record { kept = kept; found = found; is = refl; asked = x.0; had = x.1; differ = x.2 }
cause header ptr bytes (fault.Field at) x = inr x
cause header ptr bytes fault.Magic x = inr x
cause header ptr bytes fault.Version x = inr x
cause header ptr bytes (fault.Length len) x = inr x

digest-clash : (ptr : LogPtr) (bytes : List ℕ) (f : LogFault) → IsOfDigest ptr bytes f → sha256_of bytes ≡ ptr.digest → ⊥
digest-clash ptr bytes f x same = x.differ (x.asked ∙ (sym same ∙ sym x.had))

-- the bytes of a log block are refused with one fault
pub block-fault-one : (header : DevHeader) (ptr : LogPtr) (bytes : List ℕ) (f h : LogFault) → IsBlockFault header ptr bytes f → IsBlockFault header ptr bytes h → h ≡ f
block-fault-one header ptr bytes f h x y = go (cause header ptr bytes f x) (cause header ptr bytes h y)
  where
    go : IsOfDigest ptr bytes f ⊎ ((sha256_of bytes ≡ ptr.digest) × IsOfBytes header ptr bytes f) → IsOfDigest ptr bytes h ⊎ ((sha256_of bytes ≡ ptr.digest) × IsOfBytes header ptr bytes h) → h ≡ f
    go (inl u) (inl v) = v.is ∙ ((λ i. fault.Digest ((v.asked ∙ sym u.asked) i) ((v.had ∙ sym u.had) i)) ∙ sym u.is)
    go (inl u) (inr v) = absurd (digest-clash ptr bytes f u v.0)
    go (inr u) (inl v) = absurd (digest-clash ptr bytes h v u.0)
    go (inr u) (inr v) = of-bytes-one header ptr bytes f h u.1 v.1
