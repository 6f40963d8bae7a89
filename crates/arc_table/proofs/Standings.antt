-- What a shard says of a pointer.
use Rattle.std.proofs.Common.{◌≡◌, ◌≢◌, ◌==◌, if◌then◌else◌, ℕ, zero, suc, ◌+◌, ◌-◌, ◌<◌, ◌≤◌, List, [], ◌∷◌, Bool, true, false, Option, Some, None, refl, sym, ap, ◌∙◌, subst, ne_eqb, arith, get_or}
use Rattle.std.specs.Prelude.{IsTrue, ◌&&◌, ◌||◌, not, is_some, sum}
use Rattle.std.specs.Option.{option_map, option_map_or}
use Rattle.std.proofs.lemmas.Bool.Decides.{nat_tests}
use Rattle.std.proofs.lemmas.Option.{none-some}
use Rattle.std.proofs.lemmas.Slice.Eq.{bytes_eq-Decides}
use Rattle.blk_ptr.specs.declared.digest.Digest.{Digest}
use Rattle.blk_ptr.specs.declared.key.Key.{Key}
use Rattle.blk_ptr.specs.declared.state.State.{State}
use Rattle.blk_ptr.specs.declared.state.State.TheVariants.{Anon, Mru, MruGhost, Mfu, MfuGhost, L2Only}
use Rattle.blk_ptr.specs.Order.{digest_eq}
use Rattle.blk_ptr.specs.State.{is_cached}
use Rattle.arc_core.specs.declared.entry.Entry.{Entry}
use Rattle.arc_core.specs.declared.shard.EntryView.{EntryView}
use Rattle.arc_core.specs.PlainShard.{PlainShard, entry_is, entry_of, held_by, holds_of, is_at_rest, is_resident, keeps_digest}
use Rattle.arc_core.specs.Sound.{IsSound, fits_reading, fits_state}
use Rattle.arc_core.specs.Step.{is_missing, is_without_bytes, reads}
use Rattle.arc_core.specs.View.{first_holder, holder_of, view_of}
use Rattle.arc_table.proofs.ShardGives.{entry_sound}

some_is : {X : Type 0} (x y : X) → ◌≡◌ {A = Option X} (Some x) (Some y) → x ≡ y
some_is x y e = cc

pub both_true : (a b : Bool) → (a && b) ≡ true → (a ≡ true) × (b ≡ true)
both_true true b h = (refl, h)
both_true false b h = absurd (cc)

pub or_false : (a b : Bool) → a ≡ false → (a || b) ≡ true → b ≡ true
or_false false b q h = h
or_false true b q h = absurd (cc)

-- ---- the first holder

positive : (m c : ℕ) (o : Option ℕ) → (if suc c == 0 then o else Some m) ≡ Some m
positive m c o = ap (λ (b : Bool). if b then o else Some m) (ne_eqb (suc c) 0 (λ e. omega arith))

-- the first holder has a hold; and where there is any hold there is one
first_holds : (n m : ℕ) (counts : List ℕ) → first_holder m counts ≡ Some n → (m ≤ n) × (0 < get_or counts (n - m) 0)
first_holds n m [] e = absurd (none-some n e)
first_holds n m (zero ∷ counts) e = let h = first_holds n (m + 1) counts e in let a = h.0 in let b = h.1 in
    (omega arith, subst (λ (x : ℕ). 0 < get_or (0 ∷ counts) x 0) (let c : suc (n - (m + 1)) ≡ n - m = omega arith in c) b)
first_holds n m (suc c ∷ counts) e = let same : m ≡ n = some_is m n (sym (positive m c (first_holder (m + 1) counts)) ∙ e) in
    (omega arith, subst (λ (x : ℕ). 0 < get_or (suc c ∷ counts) x 0) (let d : 0 ≡ n - m = omega arith in d) (omega arith))

some_holder : (m : ℕ) (counts : List ℕ) → first_holder m counts ≡ None → sum counts ≡ 0
some_holder m [] e = refl
some_holder m (zero ∷ counts) e = let h = some_holder (m + 1) counts e in let s = Rattle.std.proofs.lemmas.List.Sums.sum_by-cons (λ x. x) 0 counts in omega arith
some_holder m (suc c ∷ counts) e = absurd (none-some m (sym e ∙ positive m c (first_holder (m + 1) counts)))

-- ---- an entry as it is shown

-- an entry that is shown so
pub record IsShownAs (k : Key) (s : PlainShard) (v : EntryView) : Type 0 where
  pub entry : Entry
  pub there : entry_of k s ≡ Some entry
  pub is : view_of entry ≡ v

pub shown_entry : (k : Key) (s : PlainShard) (v : EntryView) → Some v ≡ option_map view_of (entry_of k s) → IsShownAs k s v
shown_entry k s v shown = by_entry (entry_of k s) refl shown
  where
    by_entry : (o : Option Entry) → entry_of k s ≡ o → Some v ≡ option_map view_of o → IsShownAs k s v
    by_entry None e h = absurd (none-some v (sym h))
    by_entry (Some x) e h = record { entry = x; there = e; is = some_is (view_of x) v (sym h) }

-- where nothing is shown, the key is missing
pub none_missing : (k : Key) (s : PlainShard) → None ≡ option_map view_of (entry_of k s) → IsTrue (is_missing k s)
none_missing k s shown = by_entry (entry_of k s) shown
  where
    by_entry : (o : Option Entry) → None ≡ option_map view_of o → option_map_or (λ e. is_without_bytes e.state) o true ≡ true
    by_entry None h = refl
    by_entry (Some x) h = absurd (none-some (view_of x) h)

-- ---- who reads

-- the one who is shown as reading reads
pub shown_reader : (k : Key) (s : PlainShard) (v : EntryView) (n : ℕ) → Some v ≡ option_map view_of (entry_of k s) → v.reader ≡ Some n → IsTrue (entry_is (reads n) k s)
shown_reader k s v n shown reader = by_entry (entry_of k s) shown
  where
    not_zero : (x : ℕ) → 0 < x → not (x == 0) ≡ true
    not_zero x h = grind (arith, nat_tests)

    by_reading : (e : Entry) (b : Bool) → e.reading ≡ b → (if b then holder_of e else None) ≡ Some n → reads n e ≡ true
    by_reading e true r h = let f : 0 < get_or e.holds (n - 0) 0 = (first_holds n 0 e.holds h).1 in let same : n - 0 ≡ n = omega arith in
        λ z. r z && not_zero (held_by n e) (subst (λ (x : ℕ). 0 < get_or e.holds x 0) same f) z
    by_reading e false r h = absurd (none-some n h)

    by_entry : (o : Option Entry) → Some v ≡ option_map view_of o → option_map_or (reads n) o false ≡ true
    by_entry None e = absurd (none-some v (sym e))
    by_entry (Some e) is = by_reading e e.reading refl (ap (λ (x : EntryView). x.reader) (some_is (view_of e) v (sym is)) ∙ reader)

-- an entry that is shown without a reader is at rest
at_rest : (e : Entry) → fits_reading e ≡ true → (b : Bool) → e.reading ≡ b → (if b then holder_of e else None) ≡ None → e.reading ≡ false
at_rest e fits false r h = r
at_rest e fits true r h =
    let none : holds_of e ≡ 0 = some_holder 0 e.holds h in
    let held : (holds_of e == 1) ≡ true = (both_true (holds_of e == 1) _ (or_false (is_at_rest e) _ (ap not r) fits)).0 in
    let zero_is : (holds_of e == 1) ≡ false = ap (λ (x : ℕ). x == 1) none in
    let f : false ≡ true = sym zero_is ∙ held in absurd (cc)

-- ---- an entry that nobody reads

pub digest_same : (d : Digest) → digest_eq d d ≡ true
digest_same d = (bytes_eq-Decides d.0 d.0).1 refl

pub digest_other : (a b : Digest) → digest_eq a b ≡ false → a ≢ b
digest_other a b other same = let f : false ≡ true = sym other ∙ (bytes_eq-Decides a.0 b.0).1 (ap (λ (d : Digest). d.0) same) in absurd (cc)

-- its state is of bytes that are cached, or of none
uncached_state : (e : Entry) (state : State) → e.reading ≡ false → fits_state state e ≡ true → is_cached state ≡ false → is_without_bytes state ≡ true
uncached_state e Anon rest fits h = let f : false ≡ true = sym rest ∙ fits in absurd (cc)
uncached_state e Mru rest fits h = absurd (cc)
uncached_state e Mfu rest fits h = absurd (cc)
uncached_state e MruGhost rest fits h = refl
uncached_state e MfuGhost rest fits h = refl
uncached_state e L2Only rest fits h = refl

-- cached bytes have a digest
cached_digest : (e : Entry) (state : State) → e.reading ≡ false → fits_state state e ≡ true → is_cached state ≡ true → is_some e.digest ≡ true
cached_digest e Mru rest fits h = (both_true (is_at_rest e) _ fits).1
cached_digest e Mfu rest fits h = or_false e.reading _ rest fits
cached_digest e Anon rest fits h = absurd (cc)
cached_digest e MruGhost rest fits h = absurd (cc)
cached_digest e MfuGhost rest fits h = absurd (cc)
cached_digest e L2Only rest fits h = absurd (cc)

module _ (k : Key) (s : PlainShard) (v : EntryView) (sound : IsSound s) (shown : Some v ≡ option_map view_of (entry_of k s)) (reader : v.reader ≡ None) where
  x : IsShownAs k s v
  x = shown_entry k s v shown

  rest : x.entry.reading ≡ false
  rest = at_rest x.entry (entry_sound k s.entries x.entry sound.tidy.entries x.there).reading x.entry.reading refl (ap (λ (y : EntryView). y.reader) x.is ∙ reader)

  fits : fits_state x.entry.state x.entry ≡ true
  fits = (entry_sound k s.entries x.entry sound.tidy.entries x.there).state

  -- where no bytes are shown as cached either, the key is missing
  pub shown_missing : is_cached v.state ≡ false → IsTrue (is_missing k s)
  shown_missing uncached = ap (λ (o : Option Entry). option_map_or (λ e. is_without_bytes e.state) o true) x.there
      ∙ uncached_state x.entry x.entry.state rest fits (ap (λ (y : EntryView). is_cached y.state) x.is ∙ uncached)

  -- where bytes are shown as cached, with a digest that is this one, they are
  pub shown_resident : (kept asked : Digest) → is_cached v.state ≡ true → v.digest ≡ Some kept → digest_eq kept asked ≡ true → IsTrue (entry_is (λ e. is_resident e && keeps_digest asked e) k s)
  shown_resident kept asked cached digest same =
      let state : is_cached x.entry.state ≡ true = ap (λ (y : EntryView). is_cached y.state) x.is ∙ cached in
      let kept_is : keeps_digest asked x.entry ≡ true = ap (λ (o : Option Digest). option_map_or (λ d. digest_eq d asked) o false) (ap (λ (y : EntryView). y.digest) x.is ∙ digest) ∙ same in
      ap (λ (o : Option Entry). option_map_or (λ e. is_resident e && keeps_digest asked e) o false) x.there ∙ (λ z. (state z && not (rest z)) && kept_is z)

  -- they have a digest
  pub shown_digest : is_cached v.state ≡ true → v.digest ≡ None → ⊥
  shown_digest cached none = no_digest v.digest (sym (ap (λ (y : EntryView). is_some y.digest) x.is) ∙ cached_digest x.entry x.entry.state rest fits (ap (λ (y : EntryView). is_cached y.state) x.is ∙ cached)) none
    where
      no_digest : (o : Option Digest) → is_some o ≡ true → o ≡ None → ⊥
      no_digest None h e = let f : false ≡ true = h in cc
      no_digest (Some d) h e = none-some d (sym e)
