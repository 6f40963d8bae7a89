-- What a rebuild of an image restores that a candidate header left, and that it restores what was live.
use Rattle.std.specs.Prelude.{◌≡◌, ℕ, ◌*◌, ◌≤◌, ◌⊎◌, List, [], ◌∷◌, ◌++◌, length, Bool, true, false, not, cond, map, Some}
use Rattle.std.proofs.Common.{inl, inr, refl, sym, ap, subst, ◌∙◌, ◌&&◌, eqb, arith, append_assoc}
use Rattle.std.proofs.lemmas.Bool.{eqb-true, eq-eqb, eqb-false, and_parts, and_from, false≢true}
use Rattle.std.proofs.lemmas.List.{map-append, append-nil}
use Rattle.std.proofs.lemmas.List.Concat.{flat_map-append}
use Rattle.std.specs.List.{AllByRecursion, filter}
use Rattle.blk_ptr.specs.Order.{key_eq}
use Rattle.blk_ptr.specs.declared.key.Key.{Key}
use Rattle.l2_log.specs.Rules.{log_len}
use Rattle.l2_log.specs.Values.{same_header_of_bytes}
use Rattle.l2_log.proofs.Headers.{header_not_refused}
use Rattle.l2_log.specs.declared.header.DevHeader.{DevHeader}
use Rattle.l2_log.specs.declared.fault.LogFault.{LogFault}
use Rattle.l2_ring.specs.declared.live.Written.{Written}
use Rattle.l2_ring.specs.declared.plan.Plan.{Plan}
use Rattle.arc_core.specs.declared.served.Restored.{Restored}
use Rattle.l2_dev.specs.declared.stop.Stop.{Stop}
use Rattle.l2_dev.specs.Chain.{Visit, IsHeld, IsChain, numbers_in, pointer_behind, ring_len}
use Rattle.l2_dev.proofs.ChainLaws.{begins_with, linked_next}
use Rattle.l2_dev.specs.Restoring.{found_in, valid_of, firsts, is_same_key, restored_of, restored_from, IsHeaderOf, IsRefused, IsBare}
use Rattle.l2_dev.specs.Standing.{Candidate, Kept, written_of, IsCandidate, IsLeftBy, IsRestoredBy, Rebuilds, restored_by, AnyOf}
use Rattle.l2_dev.proofs.StandingLaws.{standing_fits, block_stays}
use Rattle.l2_dev.proofs.ListLaws.{firsts_prefix, all_right}

-- what is restored of log blocks that begin with others
restored_front : (numbers : Plan) (vs rest : List Visit) → (more : List Restored) × (restored_from numbers (vs ++ rest) ≡ restored_from numbers vs ++ more)
restored_front numbers vs rest =
    let p = firsts_prefix (found_in numbers vs) (found_in numbers rest) in (
      map restored_of p.0,
      ap (λ (ws : List Written). map restored_of (firsts ws)) (flat_map-append (valid_of numbers) vs rest)
          ∙ ap (λ (ws : List Written). map restored_of ws) p.1
          ∙ map-append restored_of (firsts (found_in numbers vs)) p.0,
    )

header_of_both : (end : ℕ) (sector : List ℕ) (a b : DevHeader) → IsHeaderOf end sector a → IsHeaderOf end sector b → a ≡ b
header_of_both end sector a b x y = same_header_of_bytes sector a b x.bytes y.bytes

-- a header that stands in the first sector is not refused
pub not_refused : (end : ℕ) (sector : List ℕ) (header : DevHeader) (f : LogFault) → IsHeaderOf end sector header → IsRefused end sector f → ⊥
not_refused end sector header f named (inl first) = header_not_refused sector header f named.bytes first
not_refused end sector header f named (inr other) =
    other.3 (ap (λ (h : DevHeader). h.end) (same_header_of_bytes sector other.1 header other.2 named.bytes) ∙ named.ends)

-- what a rebuild restores along log blocks that begin with the candidate's
beyond : (end : ℕ) (image : List ℕ) (candidate : Candidate) (header : DevHeader) (rest : List Visit) (restored : List Restored) (why : Stop)
    → IsHeaderOf end candidate.sector header → restored_from (numbers_in header) candidate.blocks ≡ restored_by candidate
    → IsChain image header (candidate.blocks ++ rest) why → restored ≡ restored_from (numbers_in header) (candidate.blocks ++ rest)
    → (more : List Restored) × IsRestoredBy end image candidate restored more
beyond end image candidate header [] restored why named same chain list = (
  [],
  record {
    list = list ∙ ap (λ (vs : List Visit). restored_from (numbers_in header) vs) (append-nil candidate.blocks) ∙ same ∙ sym (append-nil (restored_by candidate));
    beyond = inl refl;
  },
)
beyond end image candidate header (w ∷ rest) restored why named same chain list =
    let p = restored_front (numbers_in header) candidate.blocks (w ∷ rest) in
    let next : pointer_behind header.newest header.second candidate.blocks ≡ Some w.ptr = linked_next header.newest header.second candidate.blocks w rest chain.linked in
    let held : AllByRecursion (IsHeld image) (w ∷ rest) = all_right (IsHeld image) candidate.blocks (w ∷ rest) chain.held in (
      p.0,
      record {
        list = list ∙ p.1 ∙ ap (λ (rs : List Restored). rs ++ p.0) same;
        beyond = inr (header, named, w.ptr, record { next = next; digest = held.0.digest });
      },
    )

bare_rebuilds : (end : ℕ) (image : List ℕ) (candidate : Candidate) (restored : List Restored) (why : Stop) → restored_by candidate ≡ []
    → IsBare end image restored why → (more : List Restored) × IsRestoredBy end image candidate restored more
bare_rebuilds end image candidate restored why none bare =
    ([], record { list = bare.0 ∙ sym none ∙ sym (append-nil (restored_by candidate)); beyond = inl refl })

-- each rebuild of the image that a candidate left restores what the candidate restores, and then perhaps more
pub left_rebuilds : (end : ℕ) (image : List ℕ) (candidate : Candidate) → IsCandidate end candidate → IsLeftBy image candidate → Rebuilds end image candidate
left_rebuilds end image candidate (inl named) left restored why (inl bare) well =
    elim bare.1 [
      | inl failed ↦ absurd (well failed)
      | inr refused ↦ absurd (not_refused end candidate.sector named.0 refused.0 named.1.named (subst (λ (s : List ℕ). IsRefused end s refused.0) left.sector refused.2))
    ]
left_rebuilds end image candidate (inl named) left restored why (inr walked) well =
    let header : DevHeader = named.0 in
    let other : IsHeaderOf end candidate.sector walked.0 = subst (λ (s : List ℕ). IsHeaderOf end s walked.0) left.sector walked.2.named in
    let same : walked.0 ≡ header = header_of_both end candidate.sector walked.0 header other named.1.named in
    let chain : IsChain image header walked.1 why = subst (λ (h : DevHeader). IsChain image h walked.1 why) same walked.2.chain in
    let list : restored ≡ restored_from (numbers_in header) walked.1 = walked.2.list ∙ ap (λ (h : DevHeader). restored_from (numbers_in h) walked.1) same in
    let standing = named.1.standing in
    let fits : log_len * length candidate.blocks ≤ ring_len header = standing_fits header candidate.blocks (block_stays header candidate.blocks standing.passed) standing.ordered in
    let begins = begins_with image header (log_len * length walked.1) header.newest header.second candidate.blocks walked.1 why
    standing.linked standing.passed left.blocks chain.linked chain.held (omega arith) well chain.stops in
    beyond end image candidate header begins.0 restored why named.1.named (ap (λ (ws : List Written). map restored_of ws) named.1.same)
    (subst (λ (vs : List Visit). IsChain image header vs why) begins.1 chain) (list ∙ ap (λ (vs : List Visit). restored_from (numbers_in header) vs) begins.1)
left_rebuilds end image candidate (inr none) left restored why (inl bare) well =
    bare_rebuilds end image candidate restored why (ap (λ (ks : List Kept). map restored_of (firsts (map written_of ks))) none.1) bare
left_rebuilds end image candidate (inr none) left restored why (inr walked) well =
    let header : DevHeader = walked.0 in
    let other : IsHeaderOf end candidate.sector header = subst (λ (s : List ℕ). IsHeaderOf end s header) left.sector walked.2.named in
    let empty : candidate.blocks ≡ [] = none.0 in
    let kept : restored_by candidate ≡ [] = ap (λ (ks : List Kept). map restored_of (firsts (map written_of ks))) none.1 in
    let whole : walked.1 ≡ candidate.blocks ++ walked.1 = ap (λ (vs : List Visit). vs ++ walked.1) (sym empty) in
    beyond end image candidate header walked.1 restored why other (ap (λ (vs : List Visit). restored_from (numbers_in header) vs) empty ∙ sym kept)
    (subst (λ (vs : List Visit). IsChain image header vs why) whole walked.2.chain)
    (walked.2.list ∙ ap (λ (vs : List Visit). restored_from (numbers_in header) vs) whole)

same_key_of : (a b : Key) → key_eq a b ≡ true → a ≡ b
same_key_of a b e =
    let p = and_parts (eqb a.offset b.offset) (eqb a.size b.size && eqb a.birth b.birth) e in
    let q = and_parts (eqb a.size b.size) (eqb a.birth b.birth) p.1 in
    let offset = eqb-true a.offset b.offset p.0 in
    let size = eqb-true a.size b.size q.0 in
    let birth = eqb-true a.birth b.birth q.1 in
    ap (λ (n : ℕ). let k : Key = record { offset = n; size = a.size; birth = a.birth } in k) offset
    ∙ ap (λ (n : ℕ). let k : Key = record { offset = b.offset; size = n; birth = a.birth } in k) size
    ∙ ap (λ (n : ℕ). let k : Key = record { offset = b.offset; size = b.size; birth = n } in k) birth

any_left : {X : Type 0} (P : X → Type 0) (xs ys : List X) → AnyOf P xs → AnyOf P (xs ++ ys)
any_left P [] ys any = absurd any
any_left P (x ∷ xs) ys (inl h) = inl h
any_left P (x ∷ xs) ys (inr h) = inr (any_left P xs ys h)

pub any_weaker : {X : Type 0} (P Q : X → Type 0) (xs : List X) → ((x : X) → P x → Q x) → AnyOf P xs → AnyOf Q xs
any_weaker P Q [] f any = any
any_weaker P Q (x ∷ xs) f (inl h) = inl (f x h)
any_weaker P Q (x ∷ xs) f (inr h) = inr (any_weaker P Q xs f h)

any_filter_if : {X : Type 0} (P : X → Type 0) (p : X → Bool) (x : X) (xs : List X) (b : Bool) → p x ≡ b → (P x → p x ≡ true) → P x ⊎ AnyOf P (filter p xs)
    → AnyOf P (cond b (x ∷ filter p xs) (filter p xs))
any_filter_if P p x xs true e f any = any
any_filter_if P p x xs false e f (inl h) = absurd (false≢true (sym e ∙ f h))
any_filter_if P p x xs false e f (inr h) = h

-- what passes is still among those that pass
pub any_filter : {X : Type 0} (P : X → Type 0) (p : X → Bool) (xs : List X) → ((x : X) → P x → p x ≡ true) → AnyOf P xs → AnyOf P (filter p xs)
any_filter P p [] f any = any
any_filter P p (x ∷ xs) f (inl h) = any_filter_if P p x xs (p x) refl (f x) (inl h)
any_filter P p (x ∷ xs) f (inr h) = any_filter_if P p x xs (p x) refl (f x) (inr (any_filter P p xs f h))

-- it restores the key of the entry: at this entry's place, or as one of the later ones
abbrev pub IsRestoredAs : List Kept → Written → Written → Type 0
IsRestoredAs late entry found = (is_same_key found entry ≡ true) × ((found ≡ entry) ⊎ AnyOf (λ (k : Kept). k.written ≡ found) late)

later : (k : Kept) (late : List Kept) (entry found : Written) → IsRestoredAs late entry found → IsRestoredAs (k ∷ late) entry found
later k late entry found (same, inl e) = (same, inl e)
later k late entry found (same, inr any) = (same, inr (inr any))

eqb_swap_if : (m n : ℕ) (b c : Bool) → eqb m n ≡ b → eqb n m ≡ c → b ≡ c
eqb_swap_if m n true true x y = refl
eqb_swap_if m n true false x y = absurd (eqb-false n m y (sym (eqb-true m n x)))
eqb_swap_if m n false true x y = absurd (eqb-false m n x (sym (eqb-true n m y)))
eqb_swap_if m n false false x y = refl

eqb_swap : (m n : ℕ) → eqb m n ≡ eqb n m
eqb_swap m n = eqb_swap_if m n (eqb m n) (eqb n m) refl refl

key_eq_swap : (a b : Key) → key_eq a b ≡ key_eq b a
key_eq_swap a b =
    ap (λ (t : Bool). t && (eqb a.size b.size && eqb a.birth b.birth)) (eqb_swap a.offset b.offset)
    ∙ ap (λ (t : Bool). eqb b.offset a.offset && (t && eqb a.birth b.birth)) (eqb_swap a.size b.size)
    ∙ ap (λ (t : Bool). eqb b.offset a.offset && (eqb b.size a.size && t)) (eqb_swap a.birth b.birth)

other_key : (entry k found : Written) → is_same_key k entry ≡ false → is_same_key found entry ≡ true → not (is_same_key found k) ≡ true
other_key entry k found apart same =
    let e : found.live.key ≡ entry.live.key = same_key_of found.live.key entry.live.key same in
    ap not (ap (λ (key : Key). key_eq key k.live.key) e ∙ key_eq_swap entry.live.key k.live.key ∙ apart)

in_front_if : (k : Kept) (late : List Kept) (rest : List Written) (entry : Written) (b : Bool) → is_same_key k.written entry ≡ b
    → AnyOf (IsRestoredAs late entry) (firsts rest) → AnyOf (IsRestoredAs (k ∷ late) entry) (firsts (k.written ∷ rest))
in_front_if k late rest entry true e any = inl (e, inr (inl refl))
in_front_if k late rest entry false e any =
    inr (any_filter (IsRestoredAs (k ∷ late) entry) (λ y. not (is_same_key y k.written)) (firsts rest) (λ found h. other_key entry k.written found e h.0)
    (any_weaker (IsRestoredAs late entry) (IsRestoredAs (k ∷ late) entry) (firsts rest) (later k late entry) any))

-- behind later entries the key of each newest live entry is restored, at that entry's place or as a later one
behind_later : (late : List Kept) (rest : List Written) (entry : Written) → AnyOf (IsRestoredAs [] entry) (firsts rest)
    → AnyOf (IsRestoredAs late entry) (firsts (map written_of late ++ rest))
behind_later [] rest entry any = any
behind_later (k ∷ late) rest entry any =
    in_front_if k late (map written_of late ++ rest) entry (is_same_key k.written entry) refl (behind_later late rest entry any)

eqb_same : (n : ℕ) → eqb n n ≡ true
eqb_same n = eq-eqb n n refl

same_itself : (w : Written) → is_same_key w w ≡ true
same_itself w = and_from (eqb w.live.key.offset w.live.key.offset) (eqb w.live.key.size w.live.key.size && eqb w.live.key.birth w.live.key.birth)
    (eqb_same w.live.key.offset) (and_from (eqb w.live.key.size w.live.key.size) (eqb w.live.key.birth w.live.key.birth) (eqb_same w.live.key.size) (eqb_same w.live.key.birth))

-- of each key that has a live entry, what is restored of a list with later entries in front and older ones behind
pub live_restored : (late live older : List Kept) (entry : Written) → AnyOf (λ (w : Written). w ≡ entry) (firsts (map written_of live))
    → AnyOf (IsRestoredAs late entry) (firsts (map written_of (late ++ live ++ older)))
live_restored late live older entry any =
    let p = firsts_prefix (map written_of live) (map written_of older) in
    let here : AnyOf (IsRestoredAs [] entry) (firsts (map written_of live)) =
    any_weaker (λ (w : Written). w ≡ entry) (IsRestoredAs [] entry) (firsts (map written_of live))
    (λ w e. (ap (λ (u : Written). is_same_key u entry) e ∙ same_itself entry, inl e)) any in
    let there : AnyOf (IsRestoredAs [] entry) (firsts (map written_of live ++ map written_of older)) =
    subst (λ (ws : List Written). AnyOf (IsRestoredAs [] entry) ws) (sym p.1) (any_left (IsRestoredAs [] entry) (firsts (map written_of live)) p.0 here) in
    let whole : map written_of (late ++ live ++ older) ≡ map written_of late ++ (map written_of live ++ map written_of older) =
    ap (λ (ks : List Kept). map written_of ks) (append_assoc late live older)
    ∙ map-append written_of late (live ++ older) ∙ ap (λ (ws : List Written). map written_of late ++ ws) (map-append written_of live older) in
    subst (λ (ws : List Written). AnyOf (IsRestoredAs late entry) (firsts ws)) (sym whole)
    (behind_later late (map written_of live ++ map written_of older) entry there)
