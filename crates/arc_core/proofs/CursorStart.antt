-- Where a scan begins, and where it goes on as an entry comes in.
use Rattle.std.proofs.Common.{◌≡◌, ℕ, ◌+◌, ◌-◌, ◌^◌, ◌≤◌, ◌<◌, length, arith, Bool, true, false, not, ◌&&◌, if◌then◌else◌, List, [], ◌∷◌, ◌++◌, map, reverse, Option, Some, None, inl, inr, refl, sym, ap, subst, ◌∙◌}
use Rattle.std.specs.List.{filter}
use Rattle.std.proofs.lemmas.Bool.{false≢true}
use Rattle.blk_ptr.specs.declared.key.Key.{Key}
use Rattle.blk_ptr.specs.declared.state.State.{State}
use Rattle.blk_ptr.specs.declared.state.State.TheVariants.{Anon, Mru, MruGhost, Mfu, MfuGhost, L2Only}
use Rattle.blk_ptr.specs.Order.{key_eq}
use Rattle.blk_ptr.specs.State.{is_same_state}
use Rattle.arc_lists.specs.Adapting.{clamped_target}
use Rattle.arc_lists.specs.ByKey.{without}
use Rattle.arc_lists.specs.Members.{member_key, share_of, size_of}
use Rattle.arc_lists.specs.Sequences.{Sequences, sequence_of, taken_off, without_key}
use Rattle.arc_lists.specs.Walks.{first_of, oldest_first}
use Rattle.arc_lists.proofs.SizeSums.{size_of-with_item, size_of-without}
use Rattle.arc_lists.proofs.Tables.{cases_true, length-with_item, length-without, map-with_item, map-without}
use Rattle.arc_core.specs.declared.entry.Entry.{Entry}
use Rattle.arc_core.specs.declared.table.scan.Kind.{Kind}
use Rattle.arc_core.specs.declared.table.scan.Scan.{Scan}
use Rattle.arc_core.specs.Changes.{come, gone}
use Rattle.arc_core.specs.Cursor.{IsKindOf, IsScanOf, scan_at, size_by, with_size}
use Rattle.arc_core.specs.PlainShard.{PlainShard, entry_key, entry_of, is_passed, member_of, size_in}
use Rattle.arc_core.specs.Rules.{resized}
use Rattle.arc_core.specs.Scan.{PlainKind, from_next, going, going_but, kind_in, may_go}
use Rattle.arc_core.specs.Sound.{IsTidy}
use Rattle.arc_core.proofs.CursorSteps.{small-key}
use Rattle.arc_core.proofs.Evictions.{entry-le, found, gone-absent}
use Rattle.arc_core.proofs.Scan.{filter-both, filter-same, same_state-is, without-reverse}
use Rattle.arc_core.proofs.Scanning.{first-stands, from-first}
use Rattle.arc_core.proofs.Sparing.{tidy-resized}
use Rattle.arc_core.proofs.Tables.{IsTidy-same, item_at-members}
use Rattle.arc_core.proofs.Tidy.{IsTidy-gone}

true≢false : true ≡ false → ⊥
true≢false is = false≢true (sym is)

-- ---- sizes of a scan

pub record SameCursor (x y : Scan) : Type 0 where
  pub mru_next : y.mru.next ≡ x.mru.next
  pub mru_old : y.mru.old_ghost ≡ x.mru.old_ghost
  pub mru_evicted : y.mru.evicted ≡ x.mru.evicted
  pub mfu_next : y.mfu.next ≡ x.mfu.next
  pub mfu_old : y.mfu.old_ghost ≡ x.mfu.old_ghost
  pub mfu_evicted : y.mfu.evicted ≡ x.mfu.evicted
  pub c : y.c ≡ x.c
  pub p : y.p ≡ x.p

pub with_size-same : (state : State) (n : ℕ) (x : Scan) → SameCursor x (with_size state n x)
with_size-same Anon n x = record { mru_next = refl; mru_old = refl; mru_evicted = refl; mfu_next = refl; mfu_old = refl; mfu_evicted = refl; c = refl; p = refl }
with_size-same Mru n x = record { mru_next = refl; mru_old = refl; mru_evicted = refl; mfu_next = refl; mfu_old = refl; mfu_evicted = refl; c = refl; p = refl }
with_size-same MruGhost n x = record { mru_next = refl; mru_old = refl; mru_evicted = refl; mfu_next = refl; mfu_old = refl; mfu_evicted = refl; c = refl; p = refl }
with_size-same Mfu n x = record { mru_next = refl; mru_old = refl; mru_evicted = refl; mfu_next = refl; mfu_old = refl; mfu_evicted = refl; c = refl; p = refl }
with_size-same MfuGhost n x = record { mru_next = refl; mru_old = refl; mru_evicted = refl; mfu_next = refl; mfu_old = refl; mfu_evicted = refl; c = refl; p = refl }
with_size-same L2Only n x = record { mru_next = refl; mru_old = refl; mru_evicted = refl; mfu_next = refl; mfu_old = refl; mfu_evicted = refl; c = refl; p = refl }

pub size_by-with : (state u : State) (n : ℕ) (x : Scan) → is_same_state L2Only u ≡ false → size_by u (with_size state n x) ≡ (if is_same_state state u then n else size_by u x)
size_by-with Anon Anon n x other = refl
size_by-with Anon Mru n x other = refl
size_by-with Anon MruGhost n x other = refl
size_by-with Anon Mfu n x other = refl
size_by-with Anon MfuGhost n x other = refl
size_by-with Mru Anon n x other = refl
size_by-with Mru Mru n x other = refl
size_by-with Mru MruGhost n x other = refl
size_by-with Mru Mfu n x other = refl
size_by-with Mru MfuGhost n x other = refl
size_by-with MruGhost Anon n x other = refl
size_by-with MruGhost Mru n x other = refl
size_by-with MruGhost MruGhost n x other = refl
size_by-with MruGhost Mfu n x other = refl
size_by-with MruGhost MfuGhost n x other = refl
size_by-with Mfu Anon n x other = refl
size_by-with Mfu Mru n x other = refl
size_by-with Mfu MruGhost n x other = refl
size_by-with Mfu Mfu n x other = refl
size_by-with Mfu MfuGhost n x other = refl
size_by-with MfuGhost Anon n x other = refl
size_by-with MfuGhost Mru n x other = refl
size_by-with MfuGhost MruGhost n x other = refl
size_by-with MfuGhost Mfu n x other = refl
size_by-with MfuGhost MfuGhost n x other = refl
size_by-with L2Only Anon n x other = refl
size_by-with L2Only Mru n x other = refl
size_by-with L2Only MruGhost n x other = refl
size_by-with L2Only Mfu n x other = refl
size_by-with L2Only MfuGhost n x other = refl
size_by-with state L2Only n x other = absurd (true≢false other)

-- ---- a kind in which nothing but sizes changed

pub kind-same : (keys ghosts : List Key) (x y : Kind) (v w : PlainKind) → IsKindOf keys ghosts x v → y.next ≡ x.next → y.old_ghost ≡ x.old_ghost → y.evicted ≡ x.evicted
    → w.keys ≡ v.keys → w.ghosts ≡ v.ghosts → y.size ≡ w.size → y.ghost_size ≡ w.ghost_size → IsKindOf keys ghosts y w
kind-same keys ghosts x y v w at next old evicted same_keys same_ghosts size ghost_size = record {
  gone = at.gone;
  next = same_keys ∙ at.next ∙ ap (λ o. from_next o keys) (sym next);
  line = ap (λ o. from_next o keys) evicted ∙ at.line ∙ ap (λ o. at.gone ++ from_next o keys) (sym next);
  old = same_ghosts ∙ at.old ∙ ap (λ o. from_next o ghosts ++ at.gone) (sym old);
  size = size;
  ghost_size = ghost_size;
  next_on = λ k is. at.next_on k (sym next ∙ is);
  evicted_on = λ k is. at.evicted_on k (sym evicted ∙ is);
  old_on = λ k is. at.old_on k (sym old ∙ is);
}

append-nil : (xs : List Key) → xs ++ [] ≡ xs
append-nil [] = refl
append-nil (x ∷ xs) = ap (λ l. x ∷ l) (append-nil xs)

-- a kind where nothing is evicted or dropped yet
kind-start : (keys ghosts : List Key) (x : Kind) (v : PlainKind) → x.next ≡ first_of keys → x.old_ghost ≡ first_of ghosts → x.evicted ≡ first_of keys
    → v.keys ≡ keys → v.ghosts ≡ ghosts → x.size ≡ v.size → x.ghost_size ≡ v.ghost_size → IsKindOf keys ghosts x v
kind-start keys ghosts x v next old evicted are_keys are_ghosts size ghost_size =
    let all : from_next x.next keys ≡ keys = ap (λ o. from_next o keys) next ∙ from-first keys in
    record {
      gone = [];
      next = are_keys ∙ sym all;
      line = ap (λ o. from_next o keys) (evicted ∙ sym next);
      old = are_ghosts ∙ sym (from-first ghosts) ∙ ap (λ o. from_next o ghosts) (sym old) ∙ sym (append-nil (from_next x.old_ghost ghosts));
      size = size;
      ghost_size = ghost_size;
      next_on = λ k is. first-stands keys k (sym next ∙ is);
      evicted_on = λ k is. first-stands keys k (sym evicted ∙ is);
      old_on = λ k is. first-stands ghosts k (sym old ∙ is);
    }

pub scan-start : (about : Option Key) (s t : PlainShard) (x : Scan) (c p : ℕ) → IsTidy t → length t.entries < 2 ^ 65 → ((state : State) → going state t ≡ going_but about state s)
    → SameCursor (scan_at about c p s) x → ((u : State) → is_same_state L2Only u ≡ false → size_by u x ≡ size_in u t) → c ≡ t.c → p ≡ t.p → IsScanOf about s x t
scan-start about s t x c p tidy few goes same sizes is_c is_p = record {
  tidy = tidy;
  few = few;
  mru = kind-start (going_but about Mru s) (going_but about MruGhost s) x.mru (kind_in Mru MruGhost t) same.mru_next same.mru_old same.mru_evicted (goes Mru) (goes MruGhost) (sizes Mru refl) (sizes MruGhost refl);
  mfu = kind-start (going_but about Mfu s) (going_but about MfuGhost s) x.mfu (kind_in Mfu MfuGhost t) same.mfu_next same.mfu_old same.mfu_evicted (goes Mfu) (goes MfuGhost) (sizes Mfu refl) (sizes MfuGhost refl);
  anon = sizes Anon refl;
  c = same.c ∙ is_c;
  p = same.p ∙ is_p;
}

-- ---- the keys that may go where a key was taken out, and where none was

sequence-off : (state : State) (k : Key) (q : Sequences) → sequence_of state (taken_off k q) ≡ without_key k (sequence_of state q)
sequence-off Anon k q = refl
sequence-off Mru k q = refl
sequence-off MruGhost k q = refl
sequence-off Mfu k q = refl
sequence-off MfuGhost k q = refl
sequence-off L2Only k q = refl

pub going-gone : (state : State) (k : Key) (p : ℕ) (s : PlainShard) → going state (record (gone k s) { p = p }) ≡ going_but (Some k) state s
going-gone state k p s =
    ap (λ l. filter (λ x. not (is_passed s x)) (reverse l)) (sequence-off state k s.sequences)
    ∙ ap (filter (λ x. not (is_passed s x))) (without-reverse k (sequence_of state s.sequences))
    ∙ sym (filter-both (λ x. not (is_passed s x)) (λ x. not (key_eq x k)) (oldest_first state s.sequences))

pub going-all : (state : State) (c : ℕ) (s : PlainShard) → going state (resized c s) ≡ going_but None state s
going-all state c s = filter-same (λ x. not (is_passed s x)) (may_go None s) (oldest_first state s.sequences) (λ x. sym (and-true (not (is_passed s x))))
  where
    and-true : (b : Bool) → (b && true) ≡ b
    and-true true = refl
    and-true false = refl

-- ---- where a key is taken out

scan-at-sizes : (about : Option Key) (c p : ℕ) (s : PlainShard) (u : State) → is_same_state L2Only u ≡ false → size_by u (scan_at about c p s) ≡ size_in u s
scan-at-sizes about c p s Anon other = refl
scan-at-sizes about c p s Mru other = refl
scan-at-sizes about c p s MruGhost other = refl
scan-at-sizes about c p s Mfu other = refl
scan-at-sizes about c p s MfuGhost other = refl
scan-at-sizes about c p s L2Only other = absurd (true≢false other)

same-cursor : (x : Scan) → SameCursor x x
same-cursor x = record { mru_next = refl; mru_old = refl; mru_evicted = refl; mfu_next = refl; mfu_old = refl; mfu_evicted = refl; c = refl; p = refl }

tidy-at : (s : PlainShard) (k : Key) (p : ℕ) → IsTidy s → IsTidy (record (gone k s) { p = p })
tidy-at s k p tidy = IsTidy-same (gone k s) (record (gone k s) { p = p }) refl refl (IsTidy-gone k s tidy)

pub scan-without-none : (s : PlainShard) (k : Key) (p : ℕ) → IsTidy s → length s.entries < 2 ^ 65 → entry_of k s ≡ None
    → IsScanOf (Some k) s (scan_at (Some k) s.c p s) (record (gone k s) { p = p })
scan-without-none s k p tidy few none =
    let same = gone-absent k s tidy none in
    scan-start (Some k) s (record (gone k s) { p = p }) (scan_at (Some k) s.c p s) s.c p (tidy-at s k p tidy) (omega (arith, few, ap (λ (t : PlainShard). length t.entries) same)) (λ state. going-gone state k p s)
    (same-cursor (scan_at (Some k) s.c p s)) (λ u other. scan-at-sizes (Some k) s.c p s u other ∙ ap (size_in u) (sym same)) refl refl

pub scan-without-some : (s : PlainShard) (k : Key) (p : ℕ) (e : Entry) → IsTidy s → length s.entries < 2 ^ 65 → entry_of k s ≡ Some e
    → IsScanOf (Some k) s (with_size e.state (size_by e.state (scan_at (Some k) s.c p s) - k.size) (scan_at (Some k) s.c p s)) (record (gone k s) { p = p })
scan-without-some s k p e tidy few item =
    let x = scan_at (Some k) s.c p s in
    let key = (found k s e tidy (sym item)).key in
    let y = with_size e.state (size_by e.state x - k.size) x in
    let sizes : (u : State) → is_same_state L2Only u ≡ false → size_by u y ≡ size_in u (gone k s) = λ u other.
    let sum = size_of-without u k (map member_of s.entries) (member_of e) (item_at-members k s.entries e item) in
    let is : size_in u (gone k s) ≡ size_of u (without member_key k (map member_of s.entries)) = ap (size_of u) (map-without entry_key member_key member_of (λ z. refl) k s.entries) in
    let before : share_of u (member_of e) ≡ (if is_same_state e.state u then k.size else 0) = ap (λ (h : Key). if is_same_state e.state u then h.size else 0) key in
    size_by-with e.state u (size_by e.state x - k.size) x other ∙ elim (cases_true (is_same_state e.state u)) [
      | inl same ↦
          let st = same_state-is e.state u same in
          let from : size_by e.state x ≡ size_in u s = ap (λ w. size_by w x) st ∙ scan-at-sizes (Some k) s.c p s u other in
          let less : share_of u (member_of e) ≡ k.size = before ∙ ap (λ b. if b then k.size else 0) same in
          rw same (omega (arith, sum, is, less, from))
      | inr differs ↦
          let none : share_of u (member_of e) ≡ 0 = before ∙ ap (λ b. if b then k.size else 0) differs in
          rw differs (omega (arith, sum, is, none, scan-at-sizes (Some k) s.c p s u other))
    ] in
    scan-start (Some k) s (record (gone k s) { p = p }) y s.c p (tidy-at s k p tidy) (omega (arith, few, length-without entry_key k s.entries e item)) (λ state. going-gone state k p s)
    (with_size-same e.state (size_by e.state x - k.size) x) sizes refl refl

-- ---- where the capacity changes

pub scan-resized : (s : PlainShard) (c p : ℕ) → IsTidy s → length s.entries < 2 ^ 65 → p ≡ clamped_target c s.p → IsScanOf None s (scan_at None c p s) (resized c s)
scan-resized s c p tidy few target =
    scan-start None s (resized c s) (scan_at None c p s) c p (tidy-resized c s tidy) few (λ state. going-all state c s) (same-cursor (scan_at None c p s)) (scan-at-sizes None c p s) refl target

-- what was taken out counted to its state
pub scan-at-le : (s : PlainShard) (k : Key) (c p : ℕ) (e : Entry) → IsTidy s → entry_of k s ≡ Some e → k.size ≤ size_by e.state (scan_at (Some k) c p s)
scan-at-le s k c p e tidy item = go e.state (entry-le k s e item)
  where
    go : (state : State) → k.size ≤ size_in state s → k.size ≤ size_by state (scan_at (Some k) c p s)
    go Anon le = le
    go Mru le = le
    go MruGhost le = le
    go Mfu le = le
    go MfuGhost le = le
    go L2Only le = let at = found k s e tidy (sym item) in subst (λ (h : Key). h.size ≤ 2 ^ 64) at.key (omega (arith, small-key e.key at.sound.key))

-- ---- where an entry comes in

pub scan-come : (about : Option Key) (s t : PlainShard) (x : Scan) (e : Entry) → IsScanOf about s x t → IsTidy (come e t) → length t.entries + 1 < 2 ^ 65
    → IsScanOf about s (with_size e.state (size_by e.state x + e.key.size) x) (come e t)
scan-come about s t x e at tidy few =
    let y = with_size e.state (size_by e.state x + e.key.size) x in
    let same = with_size-same e.state (size_by e.state x + e.key.size) x in
    let before : (u : State) → is_same_state L2Only u ≡ false → size_by u x ≡ size_in u t = λ u other. go u other in
    let sizes : (u : State) → is_same_state L2Only u ≡ false → size_by u y ≡ size_in u (come e t) = λ u other.
    let sum : size_in u (come e t) ≡ share_of u (member_of e) + size_in u t = ap (size_of u) (map-with_item entry_key member_key member_of (λ z. refl) e t.entries) ∙ size_of-with_item u (member_of e) (map member_of t.entries) in
    size_by-with e.state u (size_by e.state x + e.key.size) x other ∙ elim (cases_true (is_same_state e.state u)) [
      | inl is ↦
          let st = same_state-is e.state u is in
          let from : size_by e.state x ≡ size_in u t = ap (λ w. size_by w x) st ∙ before u other in
          let more : share_of u (member_of e) ≡ e.key.size = rw is refl in
          rw is (omega (arith, sum, more, from))
      | inr differs ↦
          let none : share_of u (member_of e) ≡ 0 = rw differs refl in
          rw differs (omega (arith, sum, none, before u other))
    ] in
    record {
      tidy = tidy;
      few = omega (arith, few, length-with_item entry_key e t.entries);
      mru = kind-same (going_but about Mru s) (going_but about MruGhost s) x.mru y.mru (kind_in Mru MruGhost t) (kind_in Mru MruGhost (come e t)) at.mru same.mru_next same.mru_old same.mru_evicted refl refl (sizes Mru refl) (sizes MruGhost refl);
      mfu = kind-same (going_but about Mfu s) (going_but about MfuGhost s) x.mfu y.mfu (kind_in Mfu MfuGhost t) (kind_in Mfu MfuGhost (come e t)) at.mfu same.mfu_next same.mfu_old same.mfu_evicted refl refl (sizes Mfu refl) (sizes MfuGhost refl);
      anon = sizes Anon refl;
      c = same.c ∙ at.c;
      p = same.p ∙ at.p;
    }
  where
    go : (u : State) → is_same_state L2Only u ≡ false → size_by u x ≡ size_in u t
    go Anon other = at.anon
    go Mru other = at.mru.size
    go MruGhost other = at.mru.ghost_size
    go Mfu other = at.mfu.size
    go MfuGhost other = at.mfu.ghost_size
    go L2Only other = absurd (true≢false other)
