-- The flags of a crash: an image that a crash of the disk of sectors may leave is the one that some flags say.
use Rattle.std.proofs.Common.{◌≡◌, ℕ, zero, suc, ◌+◌, ◌-◌, ◌*◌, ◌<◌, ◌≤◌, ◌⊎◌, inl, inr, Bool, true, false, not, ◌||◌, List, [], ◌∷◌, ◌++◌, length, get_or, refl, sym, ap, subst, ◌∙◌, arith, if◌then◌else◌}
use Rattle.std.specs.Prelude.{fold}
use Rattle.std.proofs.lemmas.List.{get_or_past, length-append, get_or_append_left, get_or-append_right}
use Rattle.std.proofs.lemmas.Bool.{cases_lt}
use Rattle.std.proofs.lemmas.Bool.Decides.{nat_tests}
use Rattle.vdev_io.specs.Device.{put}
use Rattle.vdev_io.specs.SectorDisk.{DiskCall, Write, Flush, SectorImages, after_call, after_calls, AreInside, IsSameSector, HasFlags, touches, written_after, is_written, written_before, flag_of, is_new}
use Rattle.vdev_io.proofs.SectorLaws.{put_length, put_before, put_behind}

-- both images keep the length of the disk
pub images_len : (n : ℕ) (disk : SectorImages) (calls : List DiskCall) → AreInside n calls → length disk.flushed ≡ n → length disk.now ≡ n
    → (length (after_calls disk calls).flushed ≡ n) × (length (after_calls disk calls).now ≡ n)
images_len n disk [] inside flushed now = (flushed, now)
images_len n disk (Write at bytes ∷ calls) inside flushed now =
    images_len n (after_call disk (Write at bytes)) calls inside.1 flushed (put_length at bytes disk.now (subst (λ m. at + length bytes ≤ m) (sym now) inside.0) ∙ now)
images_len n disk (Flush ∷ calls) inside flushed now = images_len n (after_call disk Flush) calls inside now now

-- a write that doesn't touch a sector leaves it
untouched : (k at : ℕ) (bytes now : List ℕ) → at + length bytes ≤ length now → touches (k * 512) at (length bytes) ≡ false → IsSameSector k now (put at bytes now)
untouched k at bytes now inside none i ge lt =
    elim (cases_lt i at) [
      | inl before ↦ sym (put_before at bytes now i inside before)
      | inr from ↦ elim (cases_lt i (at + length bytes)) [
        | inl within ↦ absurd (grind (arith, nat_tests))
        | inr behind ↦ sym (put_behind at bytes now i inside behind)
      ]
    ]

or_left : (a b : Bool) → (a || b) ≡ false → a ≡ false
or_left false b e = refl
or_left true b e = e

or_right : (a b : Bool) → (a || b) ≡ false → b ≡ false
or_right false b e = e
or_right true b e = elim b as (λ v. v ≡ false) [ false ↦ refl | true ↦ e ]

-- a sector that was not written since the last flush is the same in both images
pub unwritten_same : (n k : ℕ) (disk : SectorImages) (b : Bool) (calls : List DiskCall) → AreInside n calls → length disk.flushed ≡ n → length disk.now ≡ n
    → (b ≡ false → IsSameSector k disk.flushed disk.now) → fold (written_after k) b calls ≡ false
    → IsSameSector k (after_calls disk calls).flushed (after_calls disk calls).now
unwritten_same n k disk b [] inside flushed now same e = same e
unwritten_same n k disk b (Write at bytes ∷ calls) inside flushed now same e =
    let fits : at + length bytes ≤ length disk.now = subst (λ m. at + length bytes ≤ m) (sym now) inside.0 in
    unwritten_same n k (after_call disk (Write at bytes)) (b || touches (k * 512) at (length bytes)) calls inside.1 flushed (put_length at bytes disk.now fits ∙ now)
    (λ none i ge lt. same (or_left b (touches (k * 512) at (length bytes)) none) i ge lt
    ∙ untouched k at bytes disk.now fits (or_right b (touches (k * 512) at (length bytes)) none) i ge lt) e
unwritten_same n k disk b (Flush ∷ calls) inside flushed now same e =
    unwritten_same n k (after_call disk Flush) false calls inside now now (λ _ i ge lt. refl) e

-- the flags of the written sectors before the n-th, by rising place
add_flag : Bool → Bool → List Bool → List Bool
add_flag true flag flags = flags ++ flag ∷ []
add_flag false flag flags = flags

flags_before : (ℕ → Bool) → List DiskCall → ℕ → List Bool
flags_before choice calls zero = []
flags_before choice calls (suc n) = add_flag (is_written calls n) (choice n) (flags_before choice calls n)

add_flag_len : (w flag : Bool) (flags : List Bool) → length (add_flag w flag flags) ≡ length flags + (if w then 1 else 0)
unfolding add_flag
add_flag_len true flag flags = length-append flags (flag ∷ [])
add_flag_len false flag flags = omega arith

flags_len : (choice : ℕ → Bool) (calls : List DiskCall) (n : ℕ) → length (flags_before choice calls n) ≡ written_before calls n
unfolding flags_before
flags_len choice calls zero = refl
flags_len choice calls (suc n) =
    add_flag_len (is_written calls n) (choice n) (flags_before choice calls n) ∙ ap (λ m. m + (if is_written calls n then 1 else 0)) (flags_len choice calls n)

-- of two sectors the later one has no fewer written ones before it, and more where the first was written
counted_one : (w : Bool) → w ≡ true → let n : ℕ = (if w then 1 else 0) in n ≡ 1
counted_one true e = refl
counted_one false e = cc

before_rises : (calls : List DiskCall) (k n : ℕ) → k < n → is_written calls k ≡ true → written_before calls k < written_before calls n
before_rises calls k zero lt w = absurd (omega arith)
before_rises calls k (suc n) lt w =
    elim (cases_lt k n) [
      | inl below ↦ omega (arith, before_rises calls k n below w)
      | inr here ↦
          let same : k ≡ n = omega arith in
          let one = counted_one (is_written calls n) (subst (λ m. is_written calls m ≡ true) same w) in
          subst (λ m. written_before calls m < written_before calls (suc n)) (sym same) (omega (arith, one))
    ]

add_flag_old : (w flag : Bool) (flags : List Bool) (i : ℕ) → i < length flags → get_or (add_flag w flag flags) i false ≡ get_or flags i false
unfolding add_flag
add_flag_old true flag flags i lt = get_or_append_left flags (flag ∷ []) false i lt
add_flag_old false flag flags i lt = refl

add_flag_new : (w flag : Bool) (flags : List Bool) (i : ℕ) → w ≡ true → i ≡ length flags → get_or (add_flag w flag flags) i false ≡ flag
unfolding add_flag
add_flag_new true flag flags i e here =
    let none : i - length flags ≡ 0 = omega arith in
    get_or-append_right flags (flag ∷ []) (length flags) i false refl (omega arith) ∙ ap (λ m. get_or (flag ∷ []) m false) none
add_flag_new false flag flags i e here = cc

-- each written sector finds its flag
flag_there : (choice : ℕ → Bool) (calls : List DiskCall) (n k : ℕ) → k < n → is_written calls k ≡ true
    → get_or (flags_before choice calls n) (written_before calls k) false ≡ choice k
unfolding flags_before
flag_there choice calls zero k lt w = absurd (omega arith)
flag_there choice calls (suc n) k lt w =
    let len = flags_len choice calls n in
    elim (cases_lt k n) [
      | inl below ↦
          add_flag_old (is_written calls n) (choice n) (flags_before choice calls n) (written_before calls k) (omega (arith, len, before_rises calls k n below w))
          ∙ flag_there choice calls n k below w
      | inr here ↦
          let same : k ≡ n = omega arith in
          add_flag_new (is_written calls n) (choice n) (flags_before choice calls n) (written_before calls k) (subst (λ m. is_written calls m ≡ true) same w) (ap (written_before calls) same ∙ sym len)
          ∙ ap choice (sym same)
    ]

-- which image a sector of the crash is from
is_second : {A B : Type 0} → A ⊎ B → Bool
is_second (inl a) = false
is_second (inr b) = true

by_choice : (k : ℕ) (c flushed now : List ℕ) (s : IsSameSector k c flushed ⊎ IsSameSector k c now) → IsSameSector k c (if is_second s then now else flushed)
unfolding is_second
by_choice k c flushed now (inl same) = same
by_choice k c flushed now (inr same) = same

when_same : (k : ℕ) (c flushed now : List ℕ) → IsSameSector k flushed now → IsSameSector k c flushed ⊎ IsSameSector k c now → IsSameSector k c now
when_same k c flushed now both (inl same) i ge lt = same i ge lt ∙ both i ge lt
when_same k c flushed now both (inr same) i ge lt = same i ge lt

pub new_if_unwritten : (w flag : Bool) → w ≡ false → (not w || flag) ≡ true
new_if_unwritten false flag e = refl
new_if_unwritten true flag e = cc

pub new_if_written : (w flag choice : Bool) → w ≡ true → flag ≡ choice → (not w || flag) ≡ choice
new_if_written true flag choice e same = same
new_if_written false flag choice e same = cc

written_or_not : (b : Bool) → (b ≡ true) ⊎ (b ≡ false)
written_or_not true = inl refl
written_or_not false = inr refl

-- behind its end an image has no byte that could differ
pub past_end : (k : ℕ) (c image : List ℕ) → length image ≡ length c → length c ≤ k * 512 → IsSameSector k c image
past_end k c image len past i ge lt = get_or_past c i 0 (omega arith) ∙ sym (get_or_past image i 0 (omega arith))

pub either_image : (b : Bool) (k : ℕ) (c flushed now : List ℕ) → IsSameSector k c flushed → IsSameSector k c now → IsSameSector k c (if b then now else flushed)
either_image true k c flushed now f n = n
either_image false k c flushed now f n = f

pub crash_has_flags : HasFlags
crash_has_flags opening calls c inside crash =
    let n : ℕ = length opening in
    let disk : SectorImages = after_calls record { flushed = opening; now = opening } calls in
    let lens = images_len n record { flushed = opening; now = opening } calls inside refl refl in
    let s : (k : ℕ) → IsSameSector k c disk.flushed ⊎ IsSameSector k c disk.now = crash.sectors in
    let choice : ℕ → Bool = λ k. is_second (s k) in
    let last : ℕ = length c + 1 in
    let kept : List Bool = flags_before choice calls last in (
      kept,
      record {
        len = crash.len;
        sectors = λ k. elim (written_or_not (is_written calls k)) [
          | inl written ↦ elim (cases_lt k last) [
            | inl below ↦
                subst (λ b. IsSameSector k c (if b then disk.now else disk.flushed))
                (sym (new_if_written (is_written calls k) (flag_of calls kept k) (choice k) written (flag_there choice calls last k below written)))
                (by_choice k c disk.flushed disk.now (s k))
            | inr past ↦
                let len = crash.len in
                either_image (is_new calls kept k) k c disk.flushed disk.now
                (past_end k c disk.flushed (omega (arith, lens.0, lens.1, len)) (omega arith))
                (past_end k c disk.now (omega (arith, len)) (omega arith))
          ]
          | inr kept_on ↦
              subst (λ b. IsSameSector k c (if b then disk.now else disk.flushed))
              (sym (new_if_unwritten (is_written calls k) (flag_of calls kept k) kept_on))
              (when_same k c disk.flushed disk.now (unwritten_same n k record { flushed = opening; now = opening } false calls inside refl refl (λ _ i ge lt. refl) kept_on) (s k))
        ];
      },
    )
