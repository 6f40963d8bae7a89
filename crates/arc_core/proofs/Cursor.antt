-- A cursor follows a kind through evictions and drops.
use Rattle.std.proofs.Common.{◌≡◌, ◌+◌, ◌-◌, length, arith, Bool, true, false, if◌then◌else◌, List, [], ◌∷◌, ◌++◌, Option, Some, None, inl, inr, refl, sym, ap, subst, ◌∙◌, append_assoc, length-append}
use Rattle.std.specs.Option.{option_map_or}
use Rattle.std.proofs.lemmas.Bool.{false≢true}
use Rattle.blk_ptr.specs.declared.key.Key.{Key}
use Rattle.blk_ptr.proofs.Keys.{key_eq-is, key_eq-same}
use Rattle.arc_lists.specs.Room.{or_else}
use Rattle.arc_lists.specs.Sequences.{is_distinct, stands_on, without_key}
use Rattle.arc_lists.specs.Walks.{first_of, next_to}
use Rattle.arc_lists.proofs.Tables.{cases_true, some_is}
use Rattle.arc_core.specs.declared.table.scan.Kind.{Kind}
use Rattle.arc_core.specs.Cursor.{IsKindOf, behind_dropped, behind_evicted, is_same_key, oldest_ghost}
use Rattle.arc_core.specs.Scan.{PlainKind, dropping_from, evicting_from, from_next}
use Rattle.arc_core.proofs.Scan.{without-first}
use Rattle.arc_core.proofs.Scanning.{from-next, next-stands}

-- the first of the keys from one on is that one
pub from-first-is : (o : Option Key) (xs : List Key) → is_distinct xs ≡ true → ((k : Key) → o ≡ Some k → stands_on k xs ≡ true) → first_of (from_next o xs) ≡ o
from-first-is None xs once on = refl
from-first-is (Some k) xs once on = ap first_of (from-next k xs once (on k refl))

same_key-is : (a b : Option Key) → is_same_key a b ≡ true → a ≡ b
same_key-is None None same = refl
same_key-is (Some a) (Some b) same = ap (λ k. Some k) (key_eq-is a b same)
same_key-is None (Some b) same = absurd (false≢true same)
same_key-is (Some a) None same = absurd (false≢true same)

is-same_key : (a b : Option Key) → a ≡ b → is_same_key a b ≡ true
is-same_key None b is = subst (λ o. is_same_key None o ≡ true) is refl
is-same_key (Some a) b is = subst (λ o. is_same_key (Some a) o ≡ true) is (key_eq-same a)

-- nothing is put in front of a list by which it stays the same
nothing_more : (xs ys : List Key) → ys ≡ xs ++ ys → xs ≡ []
nothing_more [] ys is = refl
nothing_more (x ∷ xs) ys is = absurd (omega (arith, ap length is, length-append (x ∷ xs) ys))

module _ (keys ghosts : List Key) (once : is_distinct keys ≡ true) (once_ghosts : is_distinct ghosts ≡ true) where
  pub next-first : (x : Kind) (v : PlainKind) → IsKindOf keys ghosts x v → first_of v.keys ≡ x.next
  next-first x v at = ap first_of at.next ∙ from-first-is x.next keys once at.next_on

  pub ghost-first : (x : Kind) (v : PlainKind) → IsKindOf keys ghosts x v → first_of v.ghosts ≡ oldest_ghost x
  ghost-first x v at = ap first_of at.old ∙ go x.old_ghost at.old_on
    where
      gone-first : (gone : List Key) → from_next x.evicted keys ≡ gone ++ from_next x.next keys → first_of gone ≡ (if is_same_key x.evicted x.next then None else x.evicted)
      gone-first [] line =
          let is : x.evicted ≡ x.next = sym (from-first-is x.evicted keys once at.evicted_on) ∙ ap first_of line ∙ from-first-is x.next keys once at.next_on in
          let same = is-same_key x.evicted x.next is in
          rw same refl
      gone-first (g ∷ gone) line = elim (cases_true (is_same_key x.evicted x.next)) [
        | inl same ↦
            let is = same_key-is x.evicted x.next same in
            let none : g ∷ gone ≡ [] = nothing_more (g ∷ gone) (from_next x.next keys) (ap (λ o. from_next o keys) (sym is) ∙ line) in
            cc
        | inr differs ↦
            let first : x.evicted ≡ Some g = sym (from-first-is x.evicted keys once at.evicted_on) ∙ ap first_of line in
            rw differs (sym first)
      ]

      go : (o : Option Key) → ((k : Key) → o ≡ Some k → stands_on k ghosts ≡ true) → first_of (from_next o ghosts ++ at.gone) ≡ or_else o (if is_same_key x.evicted x.next then None else x.evicted)
      go None on = gone-first at.gone at.line
      go (Some g) on = ap (λ l. first_of (l ++ at.gone)) (from-next g ghosts once_ghosts (on g refl))

  -- a key is evicted
  pub kind-evicted : (x : Kind) (v : PlainKind) (k : Key) → IsKindOf keys ghosts x v → is_distinct v.keys ≡ true → x.next ≡ Some k
      → IsKindOf keys ghosts (behind_evicted k keys x) (evicting_from k v)
  kind-evicted x v k at distinct is =
      let here : from_next x.next keys ≡ k ∷ from_next (next_to k keys) keys = ap (λ o. from_next o keys) is ∙ from-next k keys once (at.next_on k is) in
      let whole : v.keys ≡ k ∷ from_next (next_to k keys) keys = at.next ∙ here in
      record {
        gone = at.gone ++ k ∷ [];
        next = ap (without_key k) whole ∙ without-first k (from_next (next_to k keys) keys) (subst (λ l. is_distinct l ≡ true) whole distinct);
        line = at.line ∙ ap (λ l. at.gone ++ l) here ∙ sym (append_assoc at.gone (k ∷ []) (from_next (next_to k keys) keys));
        old = ap (λ l. l ++ k ∷ []) at.old ∙ append_assoc (from_next x.old_ghost ghosts) at.gone (k ∷ []);
        size = ap (λ n. n - k.size) at.size;
        ghost_size = ap (λ n. n + k.size) at.ghost_size;
        next_on = λ j next. next-stands k j keys next;
        evicted_on = at.evicted_on;
        old_on = at.old_on;
      }

  -- a ghost is dropped
  pub kind-dropped : (x : Kind) (v : PlainKind) (k : Key) → IsKindOf keys ghosts x v → is_distinct v.ghosts ≡ true → oldest_ghost x ≡ Some k
      → IsKindOf keys ghosts (behind_dropped k keys ghosts x) (dropping_from k v)
  kind-dropped x v k at distinct is = go x.old_ghost refl is
    where
      go : (o : Option Key) → x.old_ghost ≡ o → or_else o (if is_same_key x.evicted x.next then None else x.evicted) ≡ Some k
          → IsKindOf keys ghosts (option_map_or (λ g. record x { old_ghost = next_to k ghosts; ghost_size = x.ghost_size - k.size }) o (record x { evicted = next_to k keys; ghost_size = x.ghost_size - k.size })) (dropping_from k v)
      go (Some g) old found =
          let same : g ≡ k = some_is found in
          let mine : x.old_ghost ≡ Some k = old ∙ found in
          let here : from_next x.old_ghost ghosts ≡ k ∷ from_next (next_to k ghosts) ghosts = ap (λ o. from_next o ghosts) mine ∙ from-next k ghosts once_ghosts (at.old_on k mine) in
          let whole : v.ghosts ≡ k ∷ (from_next (next_to k ghosts) ghosts ++ at.gone) = at.old ∙ ap (λ l. l ++ at.gone) here in
          record {
            gone = at.gone;
            next = at.next;
            line = at.line;
            old = ap (without_key k) whole ∙ without-first k (from_next (next_to k ghosts) ghosts ++ at.gone) (subst (λ l. is_distinct l ≡ true) whole distinct);
            size = at.size;
            ghost_size = ap (λ n. n - k.size) at.ghost_size;
            next_on = at.next_on;
            evicted_on = at.evicted_on;
            old_on = λ j next. next-stands k j ghosts next;
          }
      go None old found =
          let mine : x.evicted ≡ Some k = unless (is_same_key x.evicted x.next) x.evicted found in
          let here : from_next x.evicted keys ≡ k ∷ from_next (next_to k keys) keys = ap (λ o. from_next o keys) mine ∙ from-next k keys once (at.evicted_on k mine) in
          let ghosts_are : v.ghosts ≡ at.gone = at.old ∙ ap (λ o. from_next o ghosts ++ at.gone) old in
          let some = first-is at.gone k (sym (ap first_of ghosts_are) ∙ ghost-first x v at ∙ ap (λ o. or_else o (if is_same_key x.evicted x.next then None else x.evicted)) old ∙ found) in
          let whole : v.ghosts ≡ k ∷ some.0 = ghosts_are ∙ some.1 in
          let rest : from_next (next_to k keys) keys ≡ some.0 ++ from_next x.next keys = tail-is (sym here ∙ at.line ∙ ap (λ l. l ++ from_next x.next keys) some.1) in
          record {
            gone = some.0;
            next = at.next;
            line = rest;
            old = ap (without_key k) whole ∙ without-first k some.0 (subst (λ l. is_distinct l ≡ true) whole distinct) ∙ ap (λ o. from_next o ghosts ++ some.0) (sym old);
            size = at.size;
            ghost_size = ap (λ n. n - k.size) at.ghost_size;
            next_on = at.next_on;
            evicted_on = λ j next. next-stands k j keys next;
            old_on = at.old_on;
          }
        where
          unless : (b : Bool) (o : Option Key) → (if b then None else o) ≡ Some k → o ≡ Some k
          unless true o found = cc
          unless false o found = found

          first-is : (xs : List Key) (k : Key) → first_of xs ≡ Some k → (ys : List Key) × (xs ≡ k ∷ ys)
          first-is [] k is = cc
          first-is (x ∷ xs) k is = (xs, ap (λ h. h ∷ xs) (some_is is))

          tail-is : {xs ys : List Key} → k ∷ xs ≡ k ∷ ys → xs ≡ ys
          tail-is is = cc
