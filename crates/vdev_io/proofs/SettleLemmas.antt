-- A sector whose old content is put back, and a crash made sector by sector.
use Rattle.std.proofs.Common.{◌≡◌, ℕ, suc, ◌+◌, ◌-◌, ◌*◌, ◌<◌, ◌≤◌, ◌⊎◌, inl, inr, min, Bool, true, false, List, length, take, drop, get_or, refl, sym, ap, subst, ◌∙◌, arith, if◌then◌else◌}
use Rattle.std.proofs.lemmas.List.{get_or_past, get_or-take, get_or-drop, length-take, length-drop}
use Rattle.std.proofs.lemmas.Bool.{cases_lt}
use Rattle.vdev_io.specs.Device.{put}
use Rattle.vdev_io.specs.SectorDisk.{DiskCall, IsSameSector, IsSameBut, IsCrash, IsCrashBy, SectorImages, is_new, is_written, flag_of, written_before}
use Rattle.vdev_io.proofs.CrashLaws.{past_end, either_image, new_if_unwritten, new_if_written}
use Rattle.vdev_io.proofs.SectorLaws.{put_length, put_before, put_inside, put_behind}

-- how long the sector's part of the image is
part_len : (s m : ℕ) (flushed old : List ℕ) → length flushed ≡ length old → s ≤ length old → m ≡ min 512 (length old - s)
    → (length (take m (drop s flushed)) ≡ m) × (s + length (take m (drop s flushed)) ≤ length old)
part_len s m flushed old same le e =
    let len = length-take m (drop s flushed) in
    let rest = length-drop s flushed in
    (omega (arith, len, rest, same, e), omega (arith, len, rest, same, e))

pub settled : (k m : ℕ) (flushed old : List ℕ) → length flushed ≡ length old → k * 512 ≤ length old → m ≡ min 512 (length old - k * 512)
    → IsSameSector k (put (k * 512) (take m (drop (k * 512) flushed)) old) flushed
settled k m flushed old same le e i ge lt =
    let part = part_len (k * 512) m flushed old same le e in
    let len = put_length (k * 512) (take m (drop (k * 512) flushed)) old part.1 in
    elim (cases_lt i (length old)) [
      | inl below ↦
          let near : i - k * 512 < m = omega (arith, e) in
          let place : k * 512 + (i - k * 512) ≡ i = omega arith in
          put_inside (k * 512) (take m (drop (k * 512) flushed)) old i part.1 ge (omega (arith, part.0))
          ∙ get_or-take m (drop (k * 512) flushed) (i - k * 512) 0 near
          ∙ get_or-drop (k * 512) flushed (i - k * 512) 0 ∙ ap (λ (j : ℕ). get_or flushed j 0) place
      | inr past ↦
          get_or_past (put (k * 512) (take m (drop (k * 512) flushed)) old) i 0 (omega (arith, len)) ∙ sym (get_or_past flushed i 0 (omega (arith, same)))
    ]

pub settled-len : (k m : ℕ) (flushed old : List ℕ) → length flushed ≡ length old → k * 512 ≤ length old → m ≡ min 512 (length old - k * 512)
    → length (put (k * 512) (take m (drop (k * 512) flushed)) old) ≡ length old
settled-len k m flushed old same le e =
    let part = part_len (k * 512) m flushed old same le e in
    put_length (k * 512) (take m (drop (k * 512) flushed)) old part.1

pub settled-others : (k m : ℕ) (flushed old : List ℕ) → length flushed ≡ length old → k * 512 ≤ length old → m ≡ min 512 (length old - k * 512)
    → IsSameBut k old (put (k * 512) (take m (drop (k * 512) flushed)) old)
settled-others k m flushed old same le e i where_ =
    let part = part_len (k * 512) m flushed old same le e in
    elim where_ [
      | inl before ↦ put_before (k * 512) (take m (drop (k * 512) flushed)) old i part.1 before
      | inr behind ↦ put_behind (k * 512) (take m (drop (k * 512) flushed)) old i part.1 (omega (arith, part.0, e))
    ]

pub new_unwritten : (calls : List DiskCall) (kept : List Bool) (k : ℕ) → is_written calls k ≡ false → is_new calls kept k ≡ true
new_unwritten calls kept k e = new_if_unwritten (is_written calls k) (flag_of calls kept k) e

pub new_written : (calls : List DiskCall) (kept : List Bool) (k : ℕ) → is_written calls k ≡ true → is_new calls kept k ≡ flag_of calls kept k
new_written calls kept k e = new_if_written (is_written calls k) (flag_of calls kept k) (flag_of calls kept k) e refl

one_if : (b : Bool) → b ≡ true → let n : ℕ = (if b then 1 else 0) in n ≡ 1
one_if true e = refl
one_if false e = cc

none_if : (b : Bool) → b ≡ false → let n : ℕ = (if b then 1 else 0) in n ≡ 0
none_if true e = cc
none_if false e = refl

next : (calls : List DiskCall) (k : ℕ) → let n : ℕ = (if is_written calls k then 1 else 0) in written_before calls (k + 1) ≡ written_before calls k + n
next calls k = let e : k + 1 ≡ suc k = omega arith in ap (written_before calls) e

pub next_written : (calls : List DiskCall) (k : ℕ) → is_written calls k ≡ true → written_before calls (k + 1) ≡ written_before calls k + 1
next_written calls k e = next calls k ∙ ap (λ (n : ℕ). written_before calls k + n) (one_if (is_written calls k) e)

pub next_unwritten : (calls : List DiskCall) (k : ℕ) → is_written calls k ≡ false → written_before calls (k + 1) ≡ written_before calls k
next_unwritten calls k e = next calls k ∙ ap (λ (n : ℕ). written_before calls k + n) (none_if (is_written calls k) e) ∙ omega arith

here : (b : Bool) (k : ℕ) (after old initial flushed : List ℕ) → ((i : ℕ) → k * 512 ≤ i → get_or old i 0 ≡ get_or initial i 0)
    → IsSameSector k after (if b then old else flushed) → IsSameSector k after (if b then initial else flushed)
here true k after old initial flushed rest same i ge lt = same i ge lt ∙ rest i ge
here false k after old initial flushed rest same i ge lt = same i ge lt

-- one sector more is as the flags say
pub done_more : (calls : List DiskCall) (kept : List Bool) (k : ℕ) (b : Bool) (after old initial flushed : List ℕ) → b ≡ is_new calls kept k
    → ((j : ℕ) → j < k → IsSameSector j old (if is_new calls kept j then initial else flushed))
    → ((i : ℕ) → k * 512 ≤ i → get_or old i 0 ≡ get_or initial i 0)
    → IsSameSector k after (if b then old else flushed) → IsSameBut k old after
    → (j : ℕ) → j < k + 1 → IsSameSector j after (if is_new calls kept j then initial else flushed)
done_more calls kept k b after old initial flushed e done rest same others j lt =
    elim (cases_lt j k) [
      | inl below ↦ λ i ge most. others i (inl (omega arith)) ∙ done j below i ge most
      | inr at ↦
          let is : k ≡ j = omega arith in
          subst (λ (n : ℕ). IsSameSector n after (if is_new calls kept n then initial else flushed)) is
          (subst (λ (x : Bool). IsSameSector k after (if x then initial else flushed)) e (here b k after old initial flushed rest same))
    ]

-- the sectors behind the last one have no bytes
pub done_all : (calls : List DiskCall) (kept : List Bool) (k : ℕ) (after initial flushed : List ℕ) → length after ≡ length initial → length flushed ≡ length initial
    → length initial ≤ k * 512 → ((j : ℕ) → j < k → IsSameSector j after (if is_new calls kept j then initial else flushed))
    → (j : ℕ) → IsSameSector j after (if is_new calls kept j then initial else flushed)
done_all calls kept k after initial flushed len same end done j =
    elim (cases_lt j k) [
      | inl below ↦ done j below
      | inr past ↦ either_image (is_new calls kept j) j after flushed initial
          (past_end j after flushed (same ∙ sym len) (omega (arith, len)))
          (past_end j after initial (sym len) (omega (arith, len)))
    ]

either : (b : Bool) (k : ℕ) (c flushed now : List ℕ) → IsSameSector k c (if b then now else flushed) → IsSameSector k c flushed ⊎ IsSameSector k c now
either true k c flushed now same = inr same
either false k c flushed now same = inl same

-- the image that some flags say is one that a crash may leave
pub by_flags : (disk : SectorImages) (calls : List DiskCall) (kept : List Bool) (c : List ℕ) → IsCrashBy disk calls kept c → IsCrash disk c
by_flags disk calls kept c by = record {
  len = by.len;
  sectors = λ k. either (is_new calls kept k) k c disk.flushed disk.now (by.sectors k);
}
