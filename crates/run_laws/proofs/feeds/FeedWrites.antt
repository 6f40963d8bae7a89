-- What the same calls leave of two images: a range that was the same in both is the same still, and so is one that a call wrote that was done, where each write that failed lay beside it.
use Rattle.std.proofs.Common.{◌≡◌, ◌⊎◌, ◌<◌, ◌≤◌, ◌+◌, ◌-◌, ◌++◌, ℕ, List, [], ◌∷◌, length, take, drop, get_or, min, Option, None, Some, inl, inr, refl, sym, ap, ◌∙◌, subst, arith}
use Rattle.std.specs.List.{AllByRecursion}
use Rattle.std.proofs.lemmas.Bool.{cases_lt}
use Rattle.std.proofs.lemmas.List.{get_or-append_right, get_or-drop, get_or-take, get_or_append_left, get_or_past, length-append, length-drop, length-take}
use Rattle.l2_log.proofs.Numbers.{part_from_same, part_same}
use Rattle.l2_dev.proofs.TornLaws.{IsAside, bytes_aside}
use Rattle.l2_feed.specs.Told.{IsAmongCalls}
use Rattle.vdev_io.specs.Calls.{Asked, Call, DeviceCall, Failed, Flush, Gave, IsImageAfter, IsToldAfter, MakesDeviceCalls, Read, Write, answered}
use Rattle.vdev_io.specs.Device.{put}
use Rattle.vdev_io.specs.declared.device.CacheDev.{Ghosts as Devices}
use Rattle.trace_run.proofs.callers.GroupLists.{some-same}

-- ---- one write that was done

-- Both images have what was written, and beside that what they had.
put-agrees : (at : ℕ) (bytes i j : List ℕ) (k : ℕ) → length j ≡ length i → ((k < at) ⊎ (at + length bytes ≤ k) → get_or j k 0 ≡ get_or i k 0) → get_or (put at bytes j) k 0 ≡ get_or (put at bytes i) k 0
put-agrees at bytes i j k long beside = elim (cases_lt k (length (take at i ++ bytes))) [
  | inl less ↦ (
      get_or_append_left (take at j ++ bytes) (drop (at + length bytes) j) 0 k (omega (arith, less, fronts))
      ∙ (in-front less ∙ sym (get_or_append_left (take at i ++ bytes) (drop (at + length bytes) i) 0 k less))
      )
  | inr most ↦ (
      get_or-append_right (take at j ++ bytes) (drop (at + length bytes) j) (length (take at i ++ bytes)) k 0 fronts most
      ∙ (get_or-drop (at + length bytes) j (k - length (take at i ++ bytes)) 0 ∙ (behind most
      ∙ sym (get_or-append_right (take at i ++ bytes) (drop (at + length bytes) i) (length (take at i ++ bytes)) k 0 refl most ∙ get_or-drop (at + length bytes) i (k - length (take at i ++ bytes)) 0)))
      )
]
  where
    takes : length (take at j) ≡ length (take at i)
    takes = length-take at j ∙ (ap (λ (n : ℕ). min at n) long ∙ sym (length-take at i))

    fronts : length (take at j ++ bytes) ≡ length (take at i ++ bytes)
    fronts = length-append (take at j) bytes ∙ (ap (λ (n : ℕ). n + length bytes) takes ∙ sym (length-append (take at i) bytes))

    before : k < length (take at i) → get_or (take at j ++ bytes) k 0 ≡ get_or (take at i ++ bytes) k 0
    before less =
        let below : k < at = omega (arith, less, length-take at i) in
        get_or_append_left (take at j) bytes 0 k (omega (arith, less, takes))
        ∙ (get_or-take at j k 0 below ∙ (beside (inl below) ∙ sym (get_or_append_left (take at i) bytes 0 k less ∙ get_or-take at i k 0 below)))

    in-front : k < length (take at i ++ bytes) → get_or (take at j ++ bytes) k 0 ≡ get_or (take at i ++ bytes) k 0
    in-front less = elim (cases_lt k (length (take at i))) [
      | inl first ↦ before first
      | inr rest ↦ get_or-append_right (take at j) bytes (length (take at i)) k 0 takes rest ∙ sym (get_or-append_right (take at i) bytes (length (take at i)) k 0 refl rest)
    ]

    behind : length (take at i ++ bytes) ≤ k → get_or j (at + length bytes + (k - length (take at i ++ bytes))) 0 ≡ get_or i (at + length bytes + (k - length (take at i ++ bytes))) 0
    behind most = elim (cases_lt (length i) at) [
      | inl far ↦ get_or_past j (at + length bytes + (k - length (take at i ++ bytes))) 0 (omega (arith, far, long)) ∙ sym (get_or_past i (at + length bytes + (k - length (take at i ++ bytes))) 0 (omega (arith, far)))
      | inr near ↦
          let its : length (take at i ++ bytes) ≡ at + length bytes = omega (arith, near, length-append (take at i) bytes, length-take at i) in
          let place : at + length bytes + (k - length (take at i ++ bytes)) ≡ k = omega (arith, its, most) in
          ap (λ (m : ℕ). get_or j m 0) place ∙ (beside (inr (omega (arith, its, most))) ∙ sym (ap (λ (m : ℕ). get_or i m 0) place))
    ]

put-lengths : (at : ℕ) (bytes i j : List ℕ) → length j ≡ length i → length (put at bytes j) ≡ length (put at bytes i)
put-lengths at bytes i j long = omega (
  arith,
  long,
  length-append (take at i ++ bytes) (drop (at + length bytes) i),
  length-append (take at i) bytes,
  length-take at i,
  length-drop (at + length bytes) i,
  length-append (take at j ++ bytes) (drop (at + length bytes) j),
  length-append (take at j) bytes,
  length-take at j,
  length-drop (at + length bytes) j,
)

-- ---- one call

-- both images have the same bytes from x on, n of them
abbrev pub SameIn : (x n : ℕ) → (image other : List ℕ) → Type 0
SameIn x n image other = take n (drop x other) ≡ take n (drop x image)

-- a write lies beside this range
abbrev pub IsBeside : (x n : ℕ) → Asked → Type 0
IsBeside x n (Write at bytes) = IsAside at (length bytes) x n
IsBeside x n (Read at m) = Unit {0}
IsBeside x n Flush = Unit {0}

-- each of these calls that failed lies beside it
abbrev pub FailBeside : (x n : ℕ) → List DeviceCall → Type 0
FailBeside x n = AllByRecursion (λ call. call.answer ≡ Failed → IsBeside x n call.asked)

-- one of them wrote the range, and was done
abbrev pub WroteIn : (x n : ℕ) → List DeviceCall → Type 0
WroteIn x n calls = (bytes : List ℕ) × (length bytes ≡ n) × IsAmongCalls (answered Gave (Write x bytes)) calls

call-lengths : (asked : Asked) (answer : Call) (i j later other : List ℕ) → IsImageAfter asked answer i later → IsImageAfter asked answer j other → length j ≡ length i → length other ≡ length later
call-lengths (Read at n) answer i j later other is other_is long = ap length other_is ∙ (long ∙ sym (ap length is))
call-lengths (Write at bytes) Gave i j later other is other_is long = ap length other_is ∙ (put-lengths at bytes i j long ∙ sym (ap length is))
call-lengths (Write at bytes) Failed i j later other is other_is long = other_is.len ∙ (long ∙ sym is.len)
call-lengths Flush answer i j later other is other_is long = ap length other_is ∙ (long ∙ sym (ap length is))

call-keeps : (x n : ℕ) (asked : Asked) (answer : Call) (i j later other : List ℕ) → IsImageAfter asked answer i later → IsImageAfter asked answer j other → length j ≡ length i → (answer ≡ Failed → IsBeside x n asked) → SameIn x n i j
    → SameIn x n later other
call-keeps x n (Read at m) answer i j later other is other_is long beside same = ap (λ (l : List ℕ). take n (drop x l)) other_is ∙ (same ∙ sym (ap (λ (l : List ℕ). take n (drop x l)) is))
call-keeps x n Flush answer i j later other is other_is long beside same = ap (λ (l : List ℕ). take n (drop x l)) other_is ∙ (same ∙ sym (ap (λ (l : List ℕ). take n (drop x l)) is))
call-keeps x n (Write at bytes) Gave i j later other is other_is long beside same =
    let whole : SameIn x n (put at bytes i) (put at bytes j) = part_from_same x n (put at bytes j) (put at bytes i) (λ k from to. put-agrees at bytes i j k long (λ out. part_same x n j i same k from to)) (put-lengths at bytes i j long) in
    ap (λ (l : List ℕ). take n (drop x l)) other_is ∙ (whole ∙ sym (ap (λ (l : List ℕ). take n (drop x l)) is))
call-keeps x n (Write at bytes) Failed i j later other is other_is long beside same =
    bytes_aside at (length bytes) x n j other other_is (beside refl) ∙ (same ∙ sym (bytes_aside at (length bytes) x n i later is (beside refl)))

-- a write that was done of just this range
call-writes : (x : ℕ) (bytes i j later other : List ℕ) → IsImageAfter (Write x bytes) Gave i later → IsImageAfter (Write x bytes) Gave j other → length j ≡ length i → SameIn x (length bytes) later other
call-writes x bytes i j later other is other_is long =
    let inside : (k : ℕ) → x ≤ k → k < x + length bytes → (k < x) ⊎ (x + length bytes ≤ k) → get_or j k 0 ≡ get_or i k 0 = λ k from to out. outside k from to out in
    let whole : SameIn x (length bytes) (put x bytes i) (put x bytes j) = part_from_same x (length bytes) (put x bytes j) (put x bytes i) (λ k from to. put-agrees x bytes i j k long (inside k from to)) (put-lengths x bytes i j long) in
    ap (λ (l : List ℕ). take (length bytes) (drop x l)) other_is ∙ (whole ∙ sym (ap (λ (l : List ℕ). take (length bytes) (drop x l)) is))
  where
    outside : (k : ℕ) → x ≤ k → k < x + length bytes → (k < x) ⊎ (x + length bytes ≤ k) → get_or j k 0 ≡ get_or i k 0
    outside k from to (inl below) = absurd (omega (arith, from, below))
    outside k from to (inr above) = absurd (omega (arith, to, above))

-- ---- the calls of two devices

-- what a device tells that told this image
pub record TellsNext (asked : Asked) (answer : Call) (image : List ℕ) (new : Option (List ℕ)) : Type 0 where
  pub later : List ℕ
  pub tells : new ≡ Some later
  pub is : IsImageAfter asked answer image later

told-next : (asked : Asked) (answer : Call) (old new : Option (List ℕ)) → IsToldAfter asked answer old new → (image : List ℕ) → old ≡ Some image → TellsNext asked answer image new
told-next asked answer None new after image is = absurd (let clash : ◌≡◌ {A = Option (List ℕ)} None (Some image) = is in cc)
told-next asked answer (Some old) None after image is = absurd after
told-next asked answer (Some old) (Some new) after image is = record { later = new; tells = refl; is = subst (λ (x : List ℕ). IsImageAfter asked answer x new) (some-same old image is) after }

module _ {D : Type 0} (devices : Devices D) where
  -- both tell images of one length behind the same calls
  pub record TellBoth (now other_now : D) : Type 0 where
    pub image : List ℕ
    pub other_image : List ℕ
    pub told : devices.told now ≡ Some image
    pub other_told : devices.told other_now ≡ Some other_image
    pub long : length other_image ≡ length image

  pub calls-tell : (calls : List DeviceCall) (was now other_was other_now : D) → MakesDeviceCalls devices calls was now → MakesDeviceCalls devices calls other_was other_now → TellBoth was other_was → TellBoth now other_now
  calls-tell [] was now other_was other_now made other_made b = subst (λ (z : D × D). TellBoth z.0 z.1) (λ i. (sym made i, sym other_made i)) b
  calls-tell (call ∷ calls) was now other_was other_now made other_made b =
      let next = told-next call.asked call.answer (devices.told was) (devices.told made.0) made.1.told b.image b.told in
      let other = told-next call.asked call.answer (devices.told other_was) (devices.told other_made.0) other_made.1.told b.other_image b.other_told in
      calls-tell calls made.0 now other_made.0 other_now made.2 other_made.2
      (record { image = next.later; other_image = other.later; told = next.tells; other_told = other.tells; long = call-lengths call.asked call.answer b.image b.other_image next.later other.later next.is other.is b.long })

  -- A range is the same behind them that was so before, or that was written.
  pub calls-keep : (x n : ℕ) (calls : List DeviceCall) (was now other_was other_now : D) → MakesDeviceCalls devices calls was now → MakesDeviceCalls devices calls other_was other_now → FailBeside x n calls → (b : TellBoth was other_was)
      → SameIn x n b.image b.other_image ⊎ WroteIn x n calls → (later other : List ℕ) → devices.told now ≡ Some later → devices.told other_now ≡ Some other → SameIn x n later other
  calls-keep x n [] was now other_was other_now made other_made beside b (inr wrote) later other told other_told = absurd wrote.2
  calls-keep x n [] was now other_was other_now made other_made beside b (inl same) later other told other_told =
      let one : b.image ≡ later = some-same b.image later (sym (ap devices.told made ∙ b.told) ∙ told) in
      let two : b.other_image ≡ other = some-same b.other_image other (sym (ap devices.told other_made ∙ b.other_told) ∙ other_told) in
      subst (λ (z : List ℕ × List ℕ). SameIn x n z.0 z.1) (λ i. (one i, two i)) same
  calls-keep x n (call ∷ calls) was now other_was other_now made other_made beside b before later other told other_told =
      let next = told-next call.asked call.answer (devices.told was) (devices.told made.0) made.1.told b.image b.told in
      let its = told-next call.asked call.answer (devices.told other_was) (devices.told other_made.0) other_made.1.told b.other_image b.other_told in
      let both : TellBoth made.0 other_made.0 = record {
        image = next.later;
        other_image = its.later;
        told = next.tells;
        other_told = its.tells;
        long = call-lengths call.asked call.answer b.image b.other_image next.later its.later next.is its.is b.long;
      } in
      calls-keep x n calls made.0 now other_made.0 other_now made.2 other_made.2 beside.1 both (go next its before) later other told other_told
    where
      go : (next : TellsNext call.asked call.answer b.image (devices.told made.0)) (its : TellsNext call.asked call.answer b.other_image (devices.told other_made.0)) → SameIn x n b.image b.other_image ⊎ WroteIn x n (call ∷ calls)
          → SameIn x n next.later its.later ⊎ WroteIn x n calls
      go next its (inl same) = inl (call-keeps x n call.asked call.answer b.image b.other_image next.later its.later next.is its.is b.long beside.0 same)
      go next its (inr (bytes, long, inl is)) =
          let one : IsImageAfter (Write x bytes) Gave b.image next.later = subst (λ (c : DeviceCall). IsImageAfter c.asked c.answer b.image next.later) is next.is in
          let two : IsImageAfter (Write x bytes) Gave b.other_image its.later = subst (λ (c : DeviceCall). IsImageAfter c.asked c.answer b.other_image its.later) is its.is in
          inl (subst (λ (m : ℕ). SameIn x m next.later its.later) long (call-writes x bytes b.image b.other_image next.later its.later one two b.long))
      go next its (inr (bytes, long, inr among)) = inr (bytes, long, among)
