-- What room and trim take next is decided by the keys that may go and the sizes, and how these change is told step by step.
use Rattle.std.proofs.Common.{◌≡◌, ℕ, ◌+◌, ◌-◌, arith, nat_lt, Bool, true, false, not, ◌&&◌, if◌then◌else◌, List, [], ◌∷◌, ◌++◌, map, reverse, Some, None, is_some, ◌⊎◌, inl, inr, refl, sym, ap, subst, ◌∙◌}
use Rattle.std.specs.List.{filter, find}
use Rattle.std.proofs.lemmas.Bool.{false≢true}
use Rattle.std.proofs.lemmas.List.{reverse-append}
use Rattle.blk_ptr.specs.declared.key.Key.{Key}
use Rattle.blk_ptr.specs.declared.state.State.{State}
use Rattle.blk_ptr.specs.declared.state.State.TheVariants.{Anon, Mru, MruGhost, Mfu, MfuGhost, L2Only}
use Rattle.blk_ptr.specs.Order.{key_eq}
use Rattle.blk_ptr.specs.State.{is_same_state}
use Rattle.blk_ptr.proofs.Keys.{key_eq-is, key_eq-same}
use Rattle.arc_lists.specs.ByKey.{item_at, with_change, without}
use Rattle.arc_lists.specs.Members.{member_key, share_of, size_of}
use Rattle.arc_lists.specs.Sequences.{is_distinct, oldest_unskipped, put_at_head, sequence_of, stands_on, taken_off, without_key}
use Rattle.arc_lists.specs.Walks.{first_of, next_to}
use Rattle.arc_lists.proofs.SizeSums.{size_of-without}
use Rattle.arc_lists.proofs.Standing.{and_left, and_right, both, not_true, not_true_is, or_left_false, or_right_false, without_key-absent}
use Rattle.arc_lists.proofs.Tables.{cases_true, map-without, some_is}
use Rattle.arc_core.specs.declared.entry.Entry.{Entry}
use Rattle.arc_core.specs.PlainShard.{PlainShard, entry_is, entry_key, entry_of, is_passed, is_unheld, member_of, size_in}
use Rattle.arc_core.specs.Changes.{gone}
use Rattle.arc_core.specs.Edits.{placed}
use Rattle.arc_core.specs.Rules.{dropped, evicted, evicted_entry, evicted_state, next_dropped, next_evicted}
use Rattle.arc_core.specs.Scan.{dropped_next, dropping_from, evicted_next, evicting_from, from_next, going, scan_in}
use Rattle.arc_core.specs.Sound.{IsSequence, IsTidy, belongs_on}
use Rattle.arc_core.proofs.Evictions.{dropped-gone, dropped-placed, entry_of-is, evicted-placed, found, l2_only, oldest-stands}
use Rattle.arc_core.proofs.Scanning.{behind, first-stands, from-first, next-stands}
use Rattle.arc_core.proofs.Tables.{item_at-members}
use Rattle.arc_core.proofs.Victims.{first_of_two, oldest-unskipped, only_if}

-- ---- lists

pub first-find : (p : Key → Bool) (xs : List Key) → find p xs ≡ first_of (filter p xs)
first-find p [] = refl
first-find p (x ∷ xs) = elim (cases_true (p x)) [
  | inl passes ↦ rw passes refl
  | inr fails ↦ rw fails (first-find p xs)
]

filter-append : (p : Key → Bool) (xs ys : List Key) → filter p (xs ++ ys) ≡ filter p xs ++ filter p ys
filter-append p [] ys = refl
filter-append p (x ∷ xs) ys = elim (cases_true (p x)) [
  | inl passes ↦ rw passes (ap (λ l. x ∷ l) (filter-append p xs ys))
  | inr fails ↦ rw fails (filter-append p xs ys)
]

-- a key taken out before or after a test
without-filter : (p : Key → Bool) (k : Key) (xs : List Key) → filter p (without_key k xs) ≡ without_key k (filter p xs)
without-filter p k [] = refl
without-filter p k (x ∷ xs) = elim (cases_true (key_eq x k)) [
  | inl same ↦ elim (cases_true (p x)) [
    | inl passes ↦ rw (same, passes) (rw same (without-filter p k xs))
    | inr fails ↦ rw (same, fails) (without-filter p k xs)
  ]
  | inr differs ↦ elim (cases_true (p x)) [
    | inl passes ↦ rw (differs, passes) (rw differs (ap (λ l. x ∷ l) (without-filter p k xs)))
    | inr fails ↦ rw (differs, fails) (without-filter p k xs)
  ]
]

without-append : (k : Key) (xs ys : List Key) → without_key k (xs ++ ys) ≡ without_key k xs ++ without_key k ys
without-append k xs ys = filter-append (λ x. not (key_eq x k)) xs ys

pub without-reverse : (k : Key) (xs : List Key) → reverse (without_key k xs) ≡ without_key k (reverse xs)
without-reverse k [] = refl
without-reverse k (x ∷ xs) = elim (cases_true (key_eq x k)) [
  | inl same ↦
      let alone : without_key k (x ∷ []) ≡ [] = rw same refl in
      rw same (without-reverse k xs ∙ sym (append-nil (without_key k (reverse xs))) ∙ ap (λ l. without_key k (reverse xs) ++ l) (sym alone)
      ∙ sym (without-append k (reverse xs) (x ∷ [])) ∙ ap (without_key k) (sym (reverse-append (x ∷ []) xs)))
  | inr differs ↦
      let alone : without_key k (x ∷ []) ≡ x ∷ [] = rw differs refl in
      rw differs (reverse-append (x ∷ []) (without_key k xs) ∙ ap (λ l. l ++ x ∷ []) (without-reverse k xs) ∙ ap (λ l. without_key k (reverse xs) ++ l) (sym alone)
      ∙ sym (without-append k (reverse xs) (x ∷ [])) ∙ ap (without_key k) (sym (reverse-append (x ∷ []) xs)))
]
  where
    append-nil : (xs : List Key) → xs ++ [] ≡ xs
    append-nil [] = refl
    append-nil (x ∷ xs) = ap (λ l. x ∷ l) (append-nil xs)

-- the oldest keys that may go, where a key was taken off, and where one was put at the head
going-off : (p : Key → Bool) (k : Key) (xs : List Key) → filter p (reverse (without_key k xs)) ≡ without_key k (filter p (reverse xs))
going-off p k xs = ap (filter p) (without-reverse k xs) ∙ without-filter p k (reverse xs)

going-head : (p : Key → Bool) (k : Key) (xs : List Key) → p k ≡ true → filter p (reverse (k ∷ xs)) ≡ filter p (reverse xs) ++ k ∷ []
going-head p k xs passes = ap (filter p) (reverse-append (k ∷ []) xs) ∙ filter-append p (reverse xs) (k ∷ []) ∙ ap (λ l. filter p (reverse xs) ++ l) alone
  where
    alone : filter p (k ∷ []) ≡ k ∷ []
    alone = rw passes refl

-- two tests in one
pub filter-both : (p q : Key → Bool) (xs : List Key) → filter (λ x. p x && q x) xs ≡ filter p (filter q xs)
filter-both p q [] = refl
filter-both p q (x ∷ xs) = elim (cases_true (q x)) [
  | inl second ↦ elim (cases_true (p x)) [
    | inl first ↦ rw (first, second) (rw first (ap (λ l. x ∷ l) (filter-both p q xs)))
    | inr fails ↦ rw (fails, second) (rw fails (filter-both p q xs))
  ]
  | inr fails ↦ elim (cases_true (p x)) [
    | inl first ↦ rw (first, fails) (filter-both p q xs)
    | inr other ↦ rw (other, fails) (filter-both p q xs)
  ]
]

pub filter-same : (p q : Key → Bool) (xs : List Key) → ((x : Key) → p x ≡ q x) → filter p xs ≡ filter q xs
filter-same p q [] same = refl
filter-same p q (x ∷ xs) same = elim (cases_true (q x)) [
  | inl passes ↦ rw (same x ∙ passes, passes) (ap (λ l. x ∷ l) (filter-same p q xs same))
  | inr fails ↦ rw (same x ∙ fails, fails) (filter-same p q xs same)
]

stands-filter : (p : Key → Bool) (j : Key) (xs : List Key) → stands_on j xs ≡ false → stands_on j (filter p xs) ≡ false
stands-filter p j [] off = refl
stands-filter p j (x ∷ xs) off = elim (cases_true (p x)) [
  | inl passes ↦ rw passes (rw (or_left_false (key_eq x j) _ off) (stands-filter p j xs (or_right_false (key_eq x j) _ off)))
  | inr fails ↦ rw fails (stands-filter p j xs (or_right_false (key_eq x j) _ off))
]

pub distinct-filter : (p : Key → Bool) (xs : List Key) → is_distinct xs ≡ true → is_distinct (filter p xs) ≡ true
distinct-filter p [] once = refl
distinct-filter p (x ∷ xs) once = elim (cases_true (p x)) [
  | inl passes ↦ rw passes (both _ _ (not_true _ (stands-filter p x xs (not_true_is _ (and_left _ _ once)))) (distinct-filter p xs (and_right (not (stands_on x xs)) _ once)))
  | inr fails ↦ rw fails (distinct-filter p xs (and_right (not (stands_on x xs)) _ once))
]

-- the first key of distinct ones taken out
pub without-first : (k : Key) (xs : List Key) → is_distinct (k ∷ xs) ≡ true → without_key k (k ∷ xs) ≡ xs
without-first k xs once = rw key_eq-same (without_key-absent k xs (not_true_is _ (and_left _ _ once)))

-- what comes next among the keys that pass is the first that passes of what comes next
pub next-filter : (p : Key → Bool) (k : Key) (xs : List Key) → is_distinct xs ≡ true → stands_on k xs ≡ true → p k ≡ true → next_to k (filter p xs) ≡ first_of (filter p (from_next (next_to k xs) xs))
next-filter p k [] once there passes = absurd (false≢true there)
next-filter p k (x ∷ xs) once there passes =
    let off : stands_on x xs ≡ false = not_true_is _ (and_left _ _ once) in
    elim (cases_true (key_eq x k)) [
      | inl same ↦
          let mine : p x ≡ true = ap p (key_eq-is x k same) ∙ passes in
          let rest : from_next (first_of xs) (x ∷ xs) ≡ xs = behind x xs (first_of xs) off (λ j is. first-stands xs j is) ∙ from-first xs in
          rw mine (rw same (ap (λ l. first_of (filter p l)) (sym rest)))
      | inr differs ↦
          let here : stands_on k xs ≡ true = rw differs at there in
          let more = next-filter p k xs (and_right (not (stands_on x xs)) _ once) here passes in
          let rest : from_next (next_to k xs) (x ∷ xs) ≡ from_next (next_to k xs) xs = behind x xs (next_to k xs) off (λ j is. next-stands k j xs is) in
          elim (cases_true (p x)) [
            | inl mine ↦ rw mine (rw differs (more ∙ ap (λ l. first_of (filter p l)) (sym rest)))
            | inr other ↦ rw other (rw differs (more ∙ ap (λ l. first_of (filter p l)) (sym rest)))
          ]
    ]

-- ---- a key that moves from one state to another

size-changed : (u : State) (k : Key) (f : Entry) (es : List Entry) (e : Entry) → item_at entry_key k es ≡ Some e
    → size_of u (map member_of (with_change entry_key k (λ old. f) es)) + share_of u (member_of e) ≡ size_of u (map member_of es) + share_of u (member_of f)
size-changed u k f [] e item = cc
size-changed u k f (x ∷ xs) e item = elim (cases_true (key_eq x.key k)) [
  | inl same ↦ rw same (subst (λ (y : Entry). share_of u (member_of f) + size_of u (map member_of xs) + share_of u (member_of y) ≡ share_of u (member_of x) + size_of u (map member_of xs) + share_of u (member_of f)) (some_is (rw same at item)) (omega arith))
  | inr differs ↦ rw differs (omega (arith, size-changed u k f xs e (rw differs at item)))
]

-- what a key counts to a state
abbrev share : State → Key → State → ℕ
share state k u = if is_same_state state u then k.size else 0

-- a key that may go leaves the sequence of its state, and is put at the head of another's, where that state has one
pub record Moves (k : Key) (from to : State) (s t : PlainShard) : Type 0 where
  pub sizes : (u : State) → is_same_state L2Only u ≡ false → size_in u t + share from k u ≡ size_in u s + share to k u
  pub sequences : t.sequences ≡ put_at_head to k (taken_off k s.sequences)
  pub passed : t.passed ≡ s.passed
  pub c : t.c ≡ s.c
  pub p : t.p ≡ s.p
  pub off : (u : State) → is_same_state from u ≡ false → stands_on k (sequence_of u s.sequences) ≡ false
  pub unpassed : is_passed s k ≡ false

module _ (k : Key) (s : PlainShard) where
  abbrev open_now : Key → Bool
  open_now x = not (is_passed s x)

  stays : (xs : List Key) → stands_on k xs ≡ false → filter open_now (reverse (without_key k xs)) ≡ filter open_now (reverse xs)
  stays xs off = ap (λ l. filter open_now (reverse l)) (without_key-absent k xs off)

  comes : (xs : List Key) → is_passed s k ≡ false → stands_on k xs ≡ false → filter open_now (reverse (k ∷ without_key k xs)) ≡ filter open_now (reverse xs) ++ k ∷ []
  comes xs unpassed off = going-head open_now k (without_key k xs) (not_true _ unpassed) ∙ ap (λ l. l ++ k ∷ []) (stays xs off)

pub scan-evicted_mru : (k : Key) (s t : PlainShard) → Moves k Mru MruGhost s t → scan_in t ≡ record (scan_in s) { mru = evicting_from k (scan_in s).mru }
scan-evicted_mru k s t m =
    let q = s.sequences in
    let mru : size_in Mru t ≡ size_in Mru s - k.size = omega (arith, m.sizes Mru refl) in
    let mru_ghost : size_in MruGhost t ≡ size_in MruGhost s + k.size = omega (arith, m.sizes MruGhost refl) in
    let mfu : size_in Mfu t ≡ size_in Mfu s = omega (arith, m.sizes Mfu refl) in
    let mfu_ghost : size_in MfuGhost t ≡ size_in MfuGhost s = omega (arith, m.sizes MfuGhost refl) in
    let anon : size_in Anon t ≡ size_in Anon s = omega (arith, m.sizes Anon refl) in
    rw (mru, mru_ghost, mfu, mfu_ghost, anon, m.sequences, m.passed, m.c, m.p)
    (rw (going-off (open_now k s) k q.mru, comes k s q.mru_ghost m.unpassed (m.off MruGhost refl), stays k s q.mfu (m.off Mfu refl), stays k s q.mfu_ghost (m.off MfuGhost refl)) refl)

pub scan-evicted_mfu : (k : Key) (s t : PlainShard) → Moves k Mfu MfuGhost s t → scan_in t ≡ record (scan_in s) { mfu = evicting_from k (scan_in s).mfu }
scan-evicted_mfu k s t m =
    let q = s.sequences in
    let mru : size_in Mru t ≡ size_in Mru s = omega (arith, m.sizes Mru refl) in
    let mru_ghost : size_in MruGhost t ≡ size_in MruGhost s = omega (arith, m.sizes MruGhost refl) in
    let mfu : size_in Mfu t ≡ size_in Mfu s - k.size = omega (arith, m.sizes Mfu refl) in
    let mfu_ghost : size_in MfuGhost t ≡ size_in MfuGhost s + k.size = omega (arith, m.sizes MfuGhost refl) in
    let anon : size_in Anon t ≡ size_in Anon s = omega (arith, m.sizes Anon refl) in
    rw (mru, mru_ghost, mfu, mfu_ghost, anon, m.sequences, m.passed, m.c, m.p)
    (rw (going-off (open_now k s) k q.mfu, comes k s q.mfu_ghost m.unpassed (m.off MfuGhost refl), stays k s q.mru (m.off Mru refl), stays k s q.mru_ghost (m.off MruGhost refl)) refl)

pub scan-dropped_mru : (k : Key) (s t : PlainShard) → Moves k MruGhost L2Only s t → scan_in t ≡ record (scan_in s) { mru = dropping_from k (scan_in s).mru }
scan-dropped_mru k s t m =
    let q = s.sequences in
    let mru : size_in Mru t ≡ size_in Mru s = omega (arith, m.sizes Mru refl) in
    let mru_ghost : size_in MruGhost t ≡ size_in MruGhost s - k.size = omega (arith, m.sizes MruGhost refl) in
    let mfu : size_in Mfu t ≡ size_in Mfu s = omega (arith, m.sizes Mfu refl) in
    let mfu_ghost : size_in MfuGhost t ≡ size_in MfuGhost s = omega (arith, m.sizes MfuGhost refl) in
    let anon : size_in Anon t ≡ size_in Anon s = omega (arith, m.sizes Anon refl) in
    rw (mru, mru_ghost, mfu, mfu_ghost, anon, m.sequences, m.passed, m.c, m.p)
    (rw (going-off (open_now k s) k q.mru_ghost, stays k s q.mru (m.off Mru refl), stays k s q.mfu (m.off Mfu refl), stays k s q.mfu_ghost (m.off MfuGhost refl)) refl)

pub scan-dropped_mfu : (k : Key) (s t : PlainShard) → Moves k MfuGhost L2Only s t → scan_in t ≡ record (scan_in s) { mfu = dropping_from k (scan_in s).mfu }
scan-dropped_mfu k s t m =
    let q = s.sequences in
    let mru : size_in Mru t ≡ size_in Mru s = omega (arith, m.sizes Mru refl) in
    let mru_ghost : size_in MruGhost t ≡ size_in MruGhost s = omega (arith, m.sizes MruGhost refl) in
    let mfu : size_in Mfu t ≡ size_in Mfu s = omega (arith, m.sizes Mfu refl) in
    let mfu_ghost : size_in MfuGhost t ≡ size_in MfuGhost s - k.size = omega (arith, m.sizes MfuGhost refl) in
    let anon : size_in Anon t ≡ size_in Anon s = omega (arith, m.sizes Anon refl) in
    rw (mru, mru_ghost, mfu, mfu_ghost, anon, m.sequences, m.passed, m.c, m.p)
    (rw (going-off (open_now k s) k q.mfu_ghost, stays k s q.mru (m.off Mru refl), stays k s q.mfu (m.off Mfu refl), stays k s q.mru_ghost (m.off MruGhost refl)) refl)

-- ---- an eviction and a drop move a key

-- a key's entry stands on no sequence but that of its state
off-others : (k : Key) (s : PlainShard) (e : Entry) → IsTidy s → entry_of k s ≡ Some e → (u : State) → is_same_state e.state u ≡ false → stands_on k (sequence_of u s.sequences) ≡ false
off-others k s e tidy item u other = go u other
  where
    fails : (u : State) → is_same_state e.state u ≡ false → entry_is (belongs_on u) k s ≡ false
    fails u other = rw item (last (is_unheld e) other)
      where
        last : (b : Bool) → is_same_state e.state u ≡ false → (b && is_same_state e.state u) ≡ false
        last true off = off
        last false off = refl

    go : (u : State) → is_same_state e.state u ≡ false → stands_on k (sequence_of u s.sequences) ≡ false
    go Anon other = refl
    go Mru other = tidy.mru.exact k ∙ fails Mru other
    go MruGhost other = tidy.mru_ghost.exact k ∙ fails MruGhost other
    go Mfu other = tidy.mfu.exact k ∙ fails Mfu other
    go MfuGhost other = tidy.mfu_ghost.exact k ∙ fails MfuGhost other
    go L2Only other = refl

moves-placed : (k : Key) (to : State) (s t : PlainShard) (e f : Entry) → IsTidy s → entry_of k s ≡ Some e → e.key ≡ k → f.key ≡ k → f.state ≡ to → is_unheld f ≡ true → is_passed s k ≡ false
    → t ≡ placed f s → t.passed ≡ s.passed → t.c ≡ s.c → t.p ≡ s.p → Moves k e.state to s t
moves-placed k to s t e f tidy item key key' state unheld unpassed is passed c p = record {
  sizes = λ u other.
      let sum = size-changed u k f s.entries e item in
      let es : size_in u t ≡ size_of u (map member_of (with_change entry_key k (λ old. f) s.entries)) = ap (size_in u) is ∙ ap (λ h. size_of u (map member_of (with_change entry_key h (λ old. f) s.entries))) key' in
      let before : share_of u (member_of e) ≡ share e.state k u = ap (λ (h : Key). if is_same_state e.state u then h.size else 0) key in
      let after : share_of u (member_of f) ≡ share to k u = ap (λ (h : Key). if is_same_state f.state u then h.size else 0) key' ∙ ap (λ st. if is_same_state st u then k.size else 0) state in
      omega (arith, sum, es, before, after);
  sequences = ap (λ (x : PlainShard). x.sequences) is ∙ ap (λ b. if b then put_at_head f.state f.key (taken_off f.key s.sequences) else taken_off f.key s.sequences) unheld
      ∙ ap (λ h. put_at_head f.state h (taken_off h s.sequences)) key' ∙ ap (λ st. put_at_head st k (taken_off k s.sequences)) state;
  passed = passed;
  c = c;
  p = p;
  off = off-others k s e tidy item;
  unpassed = unpassed;
}

moves-gone : (k : Key) (s t : PlainShard) (e : Entry) → IsTidy s → entry_of k s ≡ Some e → e.key ≡ k → is_passed s k ≡ false → t ≡ gone k s → Moves k e.state L2Only s t
moves-gone k s t e tidy item key unpassed is = record {
  sizes = λ u other.
      let sum = size_of-without u k (map member_of s.entries) (member_of e) (item_at-members k s.entries e item) in
      let es : size_in u t ≡ size_of u (without member_key k (map member_of s.entries)) = ap (size_in u) is ∙ ap (size_of u) (map-without entry_key member_key member_of (λ x. refl) k s.entries) in
      let before : share_of u (member_of e) ≡ share e.state k u = ap (λ (h : Key). if is_same_state e.state u then h.size else 0) key in
      let after : share L2Only k u ≡ 0 = rw other refl in
      omega (arith, sum, es, before, after);
  sequences = ap (λ (x : PlainShard). x.sequences) is;
  passed = ap (λ (x : PlainShard). x.passed) is;
  c = ap (λ (x : PlainShard). x.c) is;
  p = ap (λ (x : PlainShard). x.p) is;
  off = off-others k s e tidy item;
  unpassed = unpassed;
}

pub same_state-is : (a b : State) → is_same_state a b ≡ true → a ≡ b
same_state-is Anon Anon same = refl
same_state-is Mru Mru same = refl
same_state-is MruGhost MruGhost same = refl
same_state-is Mfu Mfu same = refl
same_state-is MfuGhost MfuGhost same = refl
same_state-is L2Only L2Only same = refl
same_state-is a b same = absurd (false≢true same)

-- the first of the keys that may go stands on the sequence, and its entry has its state
pub record Heads (state : State) (k : Key) (s : PlainShard) : Type 0 where
  pub first : first_of (going state s) ≡ Some k
  pub stands : stands_on k (sequence_of state s.sequences) ≡ true
  pub entry : Entry
  pub item : entry_of k s ≡ Some entry
  pub unheld : is_unheld entry ≡ true
  pub is : entry.state ≡ state
  pub key : entry.key ≡ k
  pub unpassed : is_passed s k ≡ false

heads : (state : State) (k : Key) (s : PlainShard) → IsTidy s → IsSequence state s → oldest_unskipped (is_passed s) (sequence_of state s.sequences) ≡ Some k → Heads state k s
heads state k s tidy names chosen =
    let there = oldest-stands (is_passed s) (sequence_of state s.sequences) k chosen in
    let e = entry_of-is (belongs_on state) k s (sym (names.exact k) ∙ there) in
    record {
      first = sym (first-find (λ x. not (is_passed s x)) (reverse (sequence_of state s.sequences))) ∙ chosen;
      stands = there;
      entry = e.0;
      item = e.1;
      unheld = and_left (is_unheld e.0) _ e.2;
      is = same_state-is e.0.state state (and_right (is_unheld e.0) _ e.2);
      key = (found k s e.0 tidy (sym e.1)).key;
      unpassed = oldest-unskipped (is_passed s) (sequence_of state s.sequences) k chosen;
    }

-- what moves the oldest key of a state
pub record Turn (from to : State) (k : Key) (s t : PlainShard) : Type 0 where
  pub heads : Heads from k s
  pub moves : Moves k from to s t

evict-from : (state to : State) (k : Key) (s : PlainShard) → IsTidy s → Heads state k s → evicted_state state ≡ to → Turn state to k s (evicted k s)
evict-from state to k s tidy h ghost =
    let is : evicted k s ≡ placed (evicted_entry h.entry) s = evicted-placed k s h.entry h.item h.unheld in
    record {
      heads = h;
      moves = subst (λ st. Moves k st to s (evicted k s)) h.is
          (moves-placed k to s (evicted k s) h.entry (evicted_entry h.entry) tidy h.item h.key h.key (ap evicted_state h.is ∙ ghost) h.unheld h.unpassed is
          (ap (λ (x : PlainShard). x.passed) is) (ap (λ (x : PlainShard). x.c) is) (ap (λ (x : PlainShard). x.p) is));
    }

pub evicted-turn : (z : ℕ) (k : Key) (s : PlainShard) → IsTidy s → next_evicted z s ≡ Some k → Turn Mru MruGhost k s (evicted k s) ⊎ Turn Mfu MfuGhost k s (evicted k s)
evicted-turn z k s tidy chosen =
    let mru : oldest_unskipped (is_passed s) s.sequences.mru ≡ Some k → Turn Mru MruGhost k s (evicted k s) ⊎ Turn Mfu MfuGhost k s (evicted k s) =
    λ h. inl (evict-from Mru MruGhost k s tidy (heads Mru k s tidy tidy.mru h) refl) in
    let mfu : oldest_unskipped (is_passed s) s.sequences.mfu ≡ Some k → Turn Mru MruGhost k s (evicted k s) ⊎ Turn Mfu MfuGhost k s (evicted k s) =
    λ h. inr (evict-from Mfu MfuGhost k s tidy (heads Mfu k s tidy tidy.mfu h) refl) in
    let P : Key → Type 0 = λ j. Turn Mru MruGhost j s (evicted j s) ⊎ Turn Mfu MfuGhost j s (evicted j s) in
    first_of_two P _ _ k (λ h. mru (only_if _ _ k h)) (λ h. first_of_two P _ _ k mfu mru h) (only_if _ _ k chosen)

drop-from : (state : State) (k : Key) (s : PlainShard) → IsTidy s → Heads state k s → Turn state L2Only k s (dropped k s)
drop-from state k s tidy h = elim (cases_true (is_some h.entry.place)) [
  | inl place ↦
      let is : dropped k s ≡ placed (l2_only h.entry) s = dropped-placed k s h.entry h.item place in
      record {
        heads = h;
        moves = subst (λ st. Moves k st L2Only s (dropped k s)) h.is
            (moves-placed k L2Only s (dropped k s) h.entry (l2_only h.entry) tidy h.item h.key h.key refl h.unheld h.unpassed is
            (ap (λ (x : PlainShard). x.passed) is) (ap (λ (x : PlainShard). x.c) is) (ap (λ (x : PlainShard). x.p) is));
      }
  | inr none ↦ record {
    heads = h;
    moves = subst (λ st. Moves k st L2Only s (dropped k s)) h.is (moves-gone k s (dropped k s) h.entry tidy h.item h.key h.unpassed (dropped-gone k s h.entry h.item none));
  }
]

pub dropped-turn : (k : Key) (s : PlainShard) → IsTidy s → next_dropped s ≡ Some k → Turn MruGhost L2Only k s (dropped k s) ⊎ Turn MfuGhost L2Only k s (dropped k s)
dropped-turn k s tidy chosen =
    let P : Key → Type 0 = λ j. Turn MruGhost L2Only j s (dropped j s) ⊎ Turn MfuGhost L2Only j s (dropped j s) in
    let over_mru = nat_lt s.c (size_in Mru s + size_in MruGhost s) in
    let over_mfu = nat_lt s.c (size_in MruGhost s + size_in MfuGhost s) in
    first_of_two P (if over_mru then oldest_unskipped (is_passed s) s.sequences.mru_ghost else None) (if over_mfu then oldest_unskipped (is_passed s) s.sequences.mfu_ghost else None) k
    (λ h. inl (drop-from MruGhost k s tidy (heads MruGhost k s tidy tidy.mru_ghost (only_if over_mru _ k h))))
    (λ h. inr (drop-from MfuGhost k s tidy (heads MfuGhost k s tidy tidy.mfu_ghost (only_if over_mfu _ k h)))) chosen

-- a key that heads one state heads no other
pub heads-apart : (a b : State) (k : Key) (s : PlainShard) → Heads a k s → Heads b k s → a ≡ b
heads-apart a b k s h g = sym h.is ∙ ap (λ (e : Entry). e.state) (some_is (sym h.item ∙ g.item)) ∙ g.is

-- ---- what is chosen

pub next_evicted-scan : (z : ℕ) (s : PlainShard) → next_evicted z s ≡ evicted_next z (scan_in s)
next_evicted-scan z s =
    let goes : Key → Bool = λ x. not (is_passed s x) in
    rw (first-find goes (reverse s.sequences.mru), first-find goes (reverse s.sequences.mfu)) refl

pub next_dropped-scan : (s : PlainShard) → next_dropped s ≡ dropped_next (scan_in s)
next_dropped-scan s =
    let goes : Key → Bool = λ x. not (is_passed s x) in
    rw (first-find goes (reverse s.sequences.mru_ghost), first-find goes (reverse s.sequences.mfu_ghost)) refl

-- a key that a test leaves stands on the list, and passes
pub filter-stands : (p : Key → Bool) (k : Key) (xs : List Key) → stands_on k (filter p xs) ≡ true → stands_on k xs ≡ true
filter-stands p k [] there = there
filter-stands p k (x ∷ xs) there = elim (cases_true (key_eq x k)) [
  | inl same ↦ rw same refl
  | inr differs ↦ rw differs (elim (cases_true (p x)) [
    | inl passes ↦ filter-stands p k xs (rw differs at (rw passes at there))
    | inr fails ↦ filter-stands p k xs (rw fails at there)
  ])
]

pub filter-passes : (p : Key → Bool) (k : Key) (xs : List Key) → stands_on k (filter p xs) ≡ true → p k ≡ true
filter-passes p k [] there = absurd (false≢true there)
filter-passes p k (x ∷ xs) there = elim (cases_true (p x)) [
  | inl passes ↦ elim (cases_true (key_eq x k)) [
    | inl same ↦ ap p (sym (key_eq-is x k same)) ∙ passes
    | inr differs ↦ filter-passes p k xs (rw differs at (rw passes at there))
  ]
  | inr fails ↦ filter-passes p k xs (rw fails at there)
]
