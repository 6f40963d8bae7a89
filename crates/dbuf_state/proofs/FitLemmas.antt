-- That each change of a dbuf leaves it fit: it keeps a block exactly where it is clean and cached.
use Rattle.std.proofs.Common.{◌≡◌, if◌then◌else◌, ℕ, zero, suc, ◌+◌, ◌-◌, ◌<◌, ◌≤◌, Bool, true, false, not, ◌&&◌, ◌==◌, IsTrue, List, [], ◌∷◌, ◌++◌, length, map, take, drop, set, get_or, Option, Some, None, refl, sym, ap, subst, ◌∙◌, inl, inr, arith, length-append, length-drop}
use Rattle.std.proofs.lemmas.Bool.Decides.{nat_tests}
use Rattle.std.proofs.lemmas.List.{length-take}
use Rattle.std.specs.List.{AllByRecursion, list_any}
use Rattle.std.specs.Option.{option_map_or}
use Rattle.std.specs.Prelude.{is_some}
use Rattle.blk_ptr.specs.Size.{IsBlockSize}
use Rattle.blk_ptr.specs.declared.key.Key.{Key}
use Rattle.dbuf_state.specs.declared.dbuf.Content.{Content}
use Rattle.dbuf_state.specs.declared.dbuf.Content.TheVariants.{Clean, Dirty}
use Rattle.dbuf_state.specs.declared.dbuf.Dbuf.{Dbuf}
use Rattle.dbuf_state.specs.declared.oid.Oid.{Oid}
use Rattle.dbuf_state.specs.declared.state.DbState.{DbState}
use Rattle.dbuf_state.specs.declared.state.DbState.TheVariants.{Uncached, Read, Fill, Cached, Evicting}
use Rattle.dbuf_state.specs.Dbufs.{DbufHas, Fits, IsFit, IsKeptOf, IsOfContent, dbuf_at, dbuf_is, dbuf_oid, dirty_with, emptied, is_cached, is_clean, is_clean_in, is_reading, is_uncached, cleared, size_of, standing_of, unpinned_by, with_dbuf, written}
use Rattle.dbuf_state.specs.CellLog.{CellLog, fresh}
use Rattle.dbuf_state.specs.Dbufs.{plain_block}
use Rattle.dbuf_state.specs.declared.pins.PinCount.{PinCount}
use Rattle.dbuf_state.specs.Pins.{has_pin, unpinned}
use Rattle.dbuf_state.specs.Objects.{patched}
use Rattle.dbuf_state.specs.Objects as objects
use Rattle.dbuf_state.specs.Oids.{has_item, is_distinct, oid_eq, with_item}
use Rattle.dbuf_state.specs.Standings.{is_candidate, is_evictable, is_oldest, is_oldest_use, none_kept}
use Rattle.dbuf_state.specs.declared.standing.Standing.{Standing}
use Rattle.dbuf_state.proofs.IndexLemmas.{and-parts, bool_cases}

-- ---- what a test says of a dbuf

module _ {H : Type 0} where
  of-option : (test : Dbuf H → Bool) (P : Dbuf H → Type 0) → ((d : Dbuf H) → test d ≡ true → P d) → (o : Option (Dbuf H)) → option_map_or test o false ≡ true → DbufHas P o
  of-option test P says None h = cc
  of-option test P says (Some d) h = says d h

  pub from-test : (test : Dbuf H → Bool) (P : Dbuf H → Type 0) → ((d : Dbuf H) → test d ≡ true → P d) → (at : Oid) (ds : List (Dbuf H)) → dbuf_is test at ds ≡ true → DbufHas P (dbuf_at at ds)
  from-test test P says at ds h = of-option test P says (dbuf_at at ds) h

  more-option : (P Q : Dbuf H → Type 0) → ((d : Dbuf H) → P d → Q d) → (o : Option (Dbuf H)) → DbufHas P o → DbufHas Q o
  more-option P Q more None h = h
  more-option P Q more (Some d) h = more d h

  pub from-has : (P Q : Dbuf H → Type 0) → ((d : Dbuf H) → P d → Q d) → (at : Oid) (ds : List (Dbuf H)) → DbufHas P (dbuf_at at ds) → DbufHas Q (dbuf_at at ds)
  from-has P Q more at ds h = more-option P Q more (dbuf_at at ds) h

  both-option : (P Q R : Dbuf H → Type 0) → ((d : Dbuf H) → P d → Q d → R d) → (o : Option (Dbuf H)) → DbufHas P o → DbufHas Q o → DbufHas R o
  both-option P Q R more None h k = h
  both-option P Q R more (Some d) h k = more d h k

  pub from-both : (P Q R : Dbuf H → Type 0) → ((d : Dbuf H) → P d → Q d → R d) → (at : Oid) (ds : List (Dbuf H)) → DbufHas P (dbuf_at at ds) → DbufHas Q (dbuf_at at ds) → DbufHas R (dbuf_at at ds)
  from-both P Q R more at ds h k = both-option P Q R more (dbuf_at at ds) h k

  -- what holds of every dbuf holds of the one that is found
  pub all-found : (P : Dbuf H → Type 0) (test : Dbuf H → Bool) (at : Oid) (ds : List (Dbuf H)) → AllByRecursion P ds → dbuf_is test at ds ≡ true → DbufHas P (dbuf_at at ds)
  all-found P test at [] all h = cc
  all-found P test at (d ∷ ds) all h = elim (bool_cases (oid_eq at d.at)) [
    | inl holds ↦ rw holds all.0
    | inr fails ↦ rw fails (all-found P test at ds all.1 (rw fails at h))
  ]

  pub has-found : (P : Dbuf H → Type 0) (at : Oid) (ds : List (Dbuf H)) → DbufHas P (dbuf_at at ds) → has_item dbuf_oid at ds ≡ true
  has-found P at ds h = go (dbuf_at at ds) h
    where
      go : (o : Option (Dbuf H)) → DbufHas P o → is_some o ≡ true
      go None h = absurd h
      go (Some d) h = refl

-- ---- states

uncached-not : (s : DbState) → is_uncached s ≡ true → is_cached s ≡ false
uncached-not Uncached h = refl
uncached-not (Read n) h = refl
uncached-not Fill h = refl
uncached-not Cached h = sym h
uncached-not Evicting h = refl

reading-not : (s : DbState) → is_reading s ≡ true → is_cached s ≡ false
reading-not Uncached h = refl
reading-not (Read n) h = refl
reading-not Fill h = refl
reading-not Cached h = sym h
reading-not Evicting h = refl

module _ {H : Type 0} (key_of : H → Key) (bytes_of : H → List ℕ) where
  -- a clean dbuf that keeps nothing goes from one state to another, neither of which is cached
  moved : (content : Content) (from to : DbState) (kept : Option H) → is_clean content ≡ true → is_cached from ≡ false → is_cached to ≡ false → Fits key_of bytes_of content from kept → Fits key_of bytes_of content to kept
  moved (Dirty bytes) from to kept clean f t h = cc
  moved (Clean ptr) from to None clean f t h = ap not t
  moved (Clean ptr) from to (Some kept) clean f t h = absurd (no (is_cached from) f h.0)
    where
      no : (b : Bool) → b ≡ false → IsTrue b → ⊥
      no true f h = cc
      no false f h = cc

  pub fits-reading : (n : ℕ) (d : Dbuf H) → is_clean_in is_uncached d ≡ true → IsFit key_of bytes_of d → Fits key_of bytes_of d.content (Read n) d.kept
  fits-reading n d h fit = let parts = and-parts (is_clean d.content) (is_uncached d.state) h in moved d.content d.state (Read n) d.kept parts.0 (uncached-not d.state parts.1) refl fit

  pub fits-unread : (d : Dbuf H) → is_clean_in is_reading d ≡ true → IsFit key_of bytes_of d → Fits key_of bytes_of d.content Uncached d.kept
  fits-unread d h fit = let parts = and-parts (is_clean d.content) (is_reading d.state) h in moved d.content d.state Uncached d.kept parts.0 (reading-not d.state parts.1) refl fit

  pub fits-keep : (kept : H) (d : Dbuf H) → IsOfContent key_of bytes_of kept d.content → Fits key_of bytes_of d.content Cached (Some kept)
  fits-keep kept d h = go d.content h
    where
      go : (content : Content) → IsOfContent key_of bytes_of kept content → Fits key_of bytes_of content Cached (Some kept)
      go (Clean ptr) h = (refl, h)
      go (Dirty bytes) h = absurd h

  pub fits-unkeep : (state : DbState) → is_cached state ≡ false → (d : Dbuf H) → is_clean_in is_cached d ≡ true → Fits key_of bytes_of d.content state None
  fits-unkeep state out d h = go d.content (and-parts (is_clean d.content) (is_cached d.state) h).0
    where
      go : (content : Content) → is_clean content ≡ true → Fits key_of bytes_of content state None
      go (Clean ptr) h = ap not out
      go (Dirty bytes) h = cc

  -- a clean and cached dbuf keeps something
  pub keeps-some : (d : Dbuf H) → is_clean_in is_cached d ≡ true → IsFit key_of bytes_of d → d.kept ≡ None → ⊥
  keeps-some d h fit none = let parts = and-parts (is_clean d.content) (is_cached d.state) h in go d.content d.state d.kept parts.0 parts.1 fit none
    where
      go : (content : Content) (state : DbState) (kept : Option H) → is_clean content ≡ true → is_cached state ≡ true → Fits key_of bytes_of content state kept → kept ≡ None → ⊥
      go (Dirty bytes) state kept clean cached fit none = cc
      go (Clean ptr) state (Some kept) clean cached fit none = cc
      go (Clean ptr) state None clean cached fit none = no (is_cached state) cached fit
        where
          no : (b : Bool) → b ≡ true → IsTrue (not b) → ⊥
          no true c h = cc
          no false c h = cc

  length-patched : (from : ℕ) (bytes old : List ℕ) → from + length bytes ≤ length old → length (patched from bytes old) ≡ length old
  length-patched from bytes old inside =
      omega (arith, length-append (take from old ++ bytes) (drop (from + length bytes) old), length-append (take from old) bytes, length-take from old, length-drop (from + length bytes) old)

  pub fits-written : (from : ℕ) (bytes : List ℕ) (d : Dbuf H) → from + length bytes ≤ size_of d.content → IsFit key_of bytes_of d → Fits key_of bytes_of (written from bytes d.content) d.state d.kept
  fits-written from bytes d inside fit = go d.content inside fit
    where
      go : (content : Content) → from + length bytes ≤ size_of content → Fits key_of bytes_of content d.state d.kept → Fits key_of bytes_of (written from bytes content) d.state d.kept
      go (Clean ptr) inside fit = fit
      go (Dirty old) inside fit = (fit.0, subst IsBlockSize (sym (length-patched from bytes old inside)) fit.1)

  -- a dbuf that keeps nothing is emptied
  pub fits-clear : (d : Dbuf H) → (standing_of d).kept ≡ false → IsFit key_of bytes_of d → Fits key_of bytes_of d.content (emptied d.content d.state) d.kept
  fits-clear d none fit = go d.content d.state d.kept none fit
    where
      go : (content : Content) (state : DbState) (kept : Option H) → objects.is_cached (plain_block content state) ≡ false → Fits key_of bytes_of content state kept → Fits key_of bytes_of content (emptied content state) kept
      go (Dirty bytes) state kept none fit = fit
      go (Clean ptr) Uncached kept none fit = fit
      go (Clean ptr) (Read n) kept none fit = fit
      go (Clean ptr) Fill None none fit = refl
      go (Clean ptr) Fill (Some kept) none fit = cc
      go (Clean ptr) Cached kept none fit = cc
      go (Clean ptr) Evicting None none fit = refl
      go (Clean ptr) Evicting (Some kept) none fit = cc

-- ---- the one to evict is clean and cached

module _ {H : Type 0} where
  candidate-cached : (d : Dbuf H) → is_candidate (standing_of d) ≡ true → is_clean_in is_cached d ≡ true
  candidate-cached d h = go d.content d.state (and-parts ((standing_of d).kept) _ h).0
    where
      go : (content : Content) (state : DbState) → objects.is_cached (plain_block content state) ≡ true → (is_clean content && is_cached state) ≡ true
      go (Dirty bytes) state h = cc
      go (Clean ptr) Uncached h = cc
      go (Clean ptr) (Read n) h = cc
      go (Clean ptr) Fill h = cc
      go (Clean ptr) Cached h = refl
      go (Clean ptr) Evicting h = cc

  -- where some standing passes and its Oid is this one, the Oid's dbuf passes
  any-has : (test : Standing → Bool) (at : Oid) (ds : List (Dbuf H)) → list_any (λ s. oid_eq at s.at && test s) (map standing_of ds) ≡ true → has_item dbuf_oid at ds ≡ true
  any-has test at [] h = cc
  any-has test at (d ∷ ds) h = elim (bool_cases (oid_eq at d.at)) [
    | inl holds ↦ rw holds refl
    | inr fails ↦ rw fails (any-has test at ds (rw fails at h))
  ]

  has-same : (a b : Oid) (ds : List (Dbuf H)) → oid_eq a b ≡ true → has_item dbuf_oid a ds ≡ has_item dbuf_oid b ds
  has-same a b ds e = ap (λ (at : Oid). has_item dbuf_oid at ds) (oid_eq-is a b e)
    where
      oid_eq-is : (x y : Oid) → oid_eq x y ≡ true → x ≡ y
      oid_eq-is x y e = grind (arith, nat_tests)

  pub any-found : (test : Standing → Bool) (at : Oid) (ds : List (Dbuf H)) → is_distinct dbuf_oid ds ≡ true → list_any (λ s. oid_eq at s.at && test s) (map standing_of ds) ≡ true → dbuf_is (λ d. test (standing_of d)) at ds ≡ true
  any-found test at [] once h = cc
  any-found test at (d ∷ ds) once h = elim (bool_cases (oid_eq at d.at)) [
    | inl holds ↦
        let parts = and-parts (not (has_item dbuf_oid d.at ds)) (is_distinct dbuf_oid ds) once in
        elim (bool_cases (test (standing_of d))) [
          | inl passes ↦ rw holds passes
          | inr refused ↦
              let h' : list_any (λ s. oid_eq at s.at && test s) (map standing_of ds) ≡ true = rw (holds, refused) at h in
              let there : has_item dbuf_oid d.at ds ≡ true = sym (has-same at d.at ds holds) ∙ any-has test at ds h' in
              let not_there : not true ≡ true = ap not (sym there) ∙ parts.0 in
              cc
        ]
    | inr fails ↦ rw fails (any-found test at ds (and-parts (not (has_item dbuf_oid d.at ds)) (is_distinct dbuf_oid ds) once).1 (rw fails at h))
  ]

  pub evictable-cached : (limit : ℕ) (at : Oid) (ds : List (Dbuf H)) → is_distinct dbuf_oid ds ≡ true → is_evictable limit at (map standing_of ds) ≡ true → dbuf_is (is_clean_in is_cached) at ds ≡ true
  evictable-cached limit at ds once h =
      let ss : List Standing = map standing_of ds in
      let oldest = (and-parts _ (is_oldest at ss) h).1 in
      let found = any-found (λ s. is_candidate s && is_oldest_use s.used ss) at ds once oldest in
      more (λ d. is_candidate (standing_of d) && is_oldest_use d.used ss) (is_clean_in is_cached) (λ d k. candidate-cached d (and-parts (is_candidate (standing_of d)) _ k).0) (dbuf_at at ds) found
    where
      more : (p q : Dbuf H → Bool) → ((d : Dbuf H) → p d ≡ true → q d ≡ true) → (o : Option (Dbuf H)) → option_map_or p o false ≡ true → option_map_or q o false ≡ true
      more p q says None h = h
      more p q says (Some d) h = says d h

  -- ---- the dbuf is added where the Oid has none

  pub item-changed : (at : Oid) (change : Dbuf H → Dbuf H) (new : Dbuf H) (ds : List (Dbuf H)) → has_item dbuf_oid at ds ≡ true → with_item dbuf_oid at change new ds ≡ with_dbuf at change ds
  item-changed at change new [] h = cc
  item-changed at change new (d ∷ ds) h = elim (bool_cases (oid_eq at d.at)) [
    | inl holds ↦ rw holds refl
    | inr fails ↦ rw fails (ap (λ (xs : List (Dbuf H)). d ∷ xs) (item-changed at change new ds (rw fails at h)))
  ]

  pub item-added : (at : Oid) (change : Dbuf H → Dbuf H) (new : Dbuf H) (ds : List (Dbuf H)) → has_item dbuf_oid at ds ≡ false → with_item dbuf_oid at change new ds ≡ ds ++ new ∷ []
  item-added at change new [] h = refl
  item-added at change new (d ∷ ds) h = elim (bool_cases (oid_eq at d.at)) [
    | inl holds ↦ let h' : true ≡ false = rw holds at h in cc
    | inr fails ↦ rw fails (ap (λ (xs : List (Dbuf H)). d ∷ xs) (item-added at change new ds (rw fails at h)))
  ]

  -- an Oid without a dbuf changes nothing
  pub unchanged-absent : (at : Oid) (change : Dbuf H → Dbuf H) (ds : List (Dbuf H)) → has_item dbuf_oid at ds ≡ false → with_dbuf at change ds ≡ ds
  unchanged-absent at change [] h = refl
  unchanged-absent at change (d ∷ ds) h = elim (bool_cases (oid_eq at d.at)) [
    | inl holds ↦ let h' : true ≡ false = rw holds at h in cc
    | inr fails ↦ rw fails (ap (λ (xs : List (Dbuf H)). d ∷ xs) (unchanged-absent at change ds (rw fails at h)))
  ]

-- ---- pins

unpinned-same : (n : ℕ) (ps : List PinCount) → has_pin n ps ≡ false → unpinned n ps ≡ ps
unpinned-same n [] h = refl
unpinned-same n (p ∷ ps) h = elim (bool_cases (p.n == n)) [
  | inl holds ↦ let h' : true ≡ false = rw holds at h in cc
  | inr fails ↦ rw fails (ap (λ (qs : List PinCount). p ∷ qs) (unpinned-same n ps (rw fails at h)))
]

pub clash : (b : Bool) → b ≡ true → b ≡ false → ⊥
clash true t f = cc
clash false t f = cc

module _ {H : Type 0} where
  pub item-has : (P : Dbuf H → Type 0) → ((d : Dbuf H) → P d) → (at : Oid) (ds : List (Dbuf H)) → has_item dbuf_oid at ds ≡ true → DbufHas P (dbuf_at at ds)
  item-has P each at ds h = go (dbuf_at at ds) h
    where
      go : (o : Option (Dbuf H)) → is_some o ≡ true → DbufHas P o
      go None h = cc
      go (Some d) h = each d

  nobody-has : (o : Option (Dbuf H)) → DbufHas (λ d. ⊥) o → ⊥
  nobody-has None h = h
  nobody-has (Some d) h = h

  -- what is taken out of a clean and cached dbuf is there
  pub taken-some : (key_of : H → Key) (bytes_of : H → List ℕ) (at : Oid) (ds : List (Dbuf H)) (r : Option H) → AllByRecursion (IsFit key_of bytes_of) ds
      → dbuf_is (is_clean_in is_cached) at ds ≡ true → DbufHas (λ d. r ≡ d.kept) (dbuf_at at ds) → r ≡ None → ⊥
  taken-some key_of bytes_of at ds r all cached given none =
      let fit = all-found (IsFit key_of bytes_of) (is_clean_in is_cached) at ds all cached in
      let test = from-test (is_clean_in is_cached) (λ d. is_clean_in is_cached d ≡ true) (λ d h. h) at ds cached in
      let both = from-both (λ d. is_clean_in is_cached d ≡ true) (IsFit key_of bytes_of) (λ d. d.kept ≡ None → ⊥) (λ d h k. keeps-some key_of bytes_of d h k) at ds test fit in
      nobody-has (dbuf_at at ds) (from-both (λ d. r ≡ d.kept) (λ d. d.kept ≡ None → ⊥) (λ d. ⊥) (λ d h k. k (sym h ∙ none)) at ds given both)

  kept-of : (key_of : H → Key) (bytes_of : H → List ℕ) (d : Dbuf H) (kept : H) → IsFit key_of bytes_of d → is_clean_in is_cached d ≡ true → d.kept ≡ Some kept → IsOfContent key_of bytes_of kept d.content
  kept-of key_of bytes_of d kept fit clean there = go d.content d.state d.kept fit (and-parts (is_clean d.content) (is_cached d.state) clean).0 there
    where
      go : (content : Content) (state : DbState) (o : Option H) → Fits key_of bytes_of content state o → is_clean content ≡ true → o ≡ Some kept → IsOfContent key_of bytes_of kept content
      go (Dirty bytes) state o fit clean there = cc
      go (Clean ptr) state None fit clean there = cc
      go (Clean ptr) state (Some k) fit clean there = subst (λ (h : H). IsKeptOf key_of bytes_of h ptr) (some-is k there) fit.1
        where
          some-is : (k : H) → Some k ≡ Some kept → k ≡ kept
          some-is k e = cc

  -- what is taken out of a clean and cached dbuf is of its pointer
  pub taken-of : (key_of : H → Key) (bytes_of : H → List ℕ) (at : Oid) (ds : List (Dbuf H)) (kept : H) → AllByRecursion (IsFit key_of bytes_of) ds
      → dbuf_is (is_clean_in is_cached) at ds ≡ true → DbufHas (λ d. d.kept ≡ Some kept) (dbuf_at at ds) → DbufHas (λ d. IsOfContent key_of bytes_of kept d.content) (dbuf_at at ds)
  taken-of key_of bytes_of at ds kept all cached there =
      let fit = all-found (IsFit key_of bytes_of) (is_clean_in is_cached) at ds all cached in
      let both = from-test (is_clean_in is_cached) (λ d. is_clean_in is_cached d ≡ true) (λ d h. h) at ds cached in
      let two = from-both (λ d. is_clean_in is_cached d ≡ true) (IsFit key_of bytes_of) (λ d. d.kept ≡ Some kept → IsOfContent key_of bytes_of kept d.content) (λ d h k there. kept-of key_of bytes_of d kept k h there) at ds both fit in
      from-both (λ d. d.kept ≡ Some kept) (λ d. d.kept ≡ Some kept → IsOfContent key_of bytes_of kept d.content) (λ d. IsOfContent key_of bytes_of kept d.content) (λ d h k. k h) at ds there two

  pub dirtied-there : (log new : CellLog H) (at : Oid) (b bytes : List ℕ) → has_item dbuf_oid at log.dbufs ≡ true → b ≡ bytes
      → new ≡ record log { dbufs = with_dbuf at (dirty_with b) log.dbufs }
      → new ≡ record log {
        dbufs = with_item dbuf_oid at (dirty_with bytes) (fresh at (Dirty bytes) Cached) log.dbufs;
        dbuf_room = if has_item dbuf_oid at log.dbufs then log.dbuf_room else (log.dbuf_room - 1);
      }
  dirtied-there log new at b bytes there same is =
      rw (item-changed at (dirty_with bytes) (fresh at (Dirty bytes) Cached) log.dbufs there, there)
      (is ∙ ap (λ (bs : List ℕ). record log { dbufs = with_dbuf at (dirty_with bs) log.dbufs }) same)

  pub dirtied-new : (log new : CellLog H) (at : Oid) (d : Dbuf H) (bytes : List ℕ) → has_item dbuf_oid at log.dbufs ≡ false → d ≡ fresh at (Dirty bytes) Cached
      → new ≡ record log { dbufs = log.dbufs ++ d ∷ []; dbuf_room = log.dbuf_room - 1 }
      → new ≡ record log {
        dbufs = with_item dbuf_oid at (dirty_with bytes) (fresh at (Dirty bytes) Cached) log.dbufs;
        dbuf_room = if has_item dbuf_oid at log.dbufs then log.dbuf_room else (log.dbuf_room - 1);
      }
  dirtied-new log new at d bytes absent same is =
      rw (item-added at (dirty_with bytes) (fresh at (Dirty bytes) Cached) log.dbufs absent, absent)
      (is ∙ ap (λ (e : Dbuf H). record log { dbufs = log.dbufs ++ e ∷ []; dbuf_room = log.dbuf_room - 1 }) same)

  pub unpin-same : (n : ℕ) (at : Oid) (ds : List (Dbuf H)) → dbuf_is (λ d. has_pin n d.pins) at ds ≡ false → with_dbuf at (unpinned_by n) ds ≡ ds
  unpin-same n at [] h = refl
  unpin-same n at (d ∷ ds) h = elim (bool_cases (oid_eq at d.at)) [
    | inl holds ↦ rw holds (ap (λ (ps : List PinCount). record d { pins = ps } ∷ ds) (unpinned-same n d.pins (rw holds at h)))
    | inr fails ↦ rw fails (ap (λ (xs : List (Dbuf H)). d ∷ xs) (unpin-same n at ds (rw fails at h)))
  ]

-- ---- a list whose first items are changed

module _ {X : Type 0} (f : X → X) where
  abbrev pub part : ℕ → List X → List X
  part zero xs = xs
  part (suc k) [] = []
  part (suc k) (x ∷ xs) = f x ∷ part k xs

  pub part-length : (k : ℕ) (xs : List X) → length (part k xs) ≡ length xs
  part-length zero xs = refl
  part-length (suc k) [] = refl
  part-length (suc k) (x ∷ xs) = ap suc (part-length k xs)

  pub part-read : (k : ℕ) (xs : List X) (d : X) → get_or (part k xs) k d ≡ get_or xs k d
  part-read zero xs d = refl
  part-read (suc k) [] d = refl
  part-read (suc k) (x ∷ xs) d = part-read k xs d

  part-suc : (k : ℕ) (xs : List X) (d : X) → k < length xs → set (part k xs) k (f (get_or xs k d)) ≡ part (suc k) xs
  part-suc k [] d within = absurd (omega arith)
  part-suc zero (x ∷ xs) d within = refl
  part-suc (suc k) (x ∷ xs) d within = ap (λ (ys : List X). f x ∷ ys) (part-suc k xs d (omega arith))

  pub part-more : (k : ℕ) (xs : List X) (d : X) → k < length xs → set (part k xs) k (f (get_or (part k xs) k d)) ≡ part (k + 1) xs
  part-more k xs d within =
      ap (λ (y : X). set (part k xs) k (f y)) (part-read k xs d) ∙ (part-suc k xs d within ∙ ap (λ n. part n xs) (let e : suc k ≡ k + 1 = omega arith in e))

  pub part-all : (xs : List X) → part (length xs) xs ≡ map f xs
  part-all [] = refl
  part-all (x ∷ xs) = ap (λ (ys : List X). f x ∷ ys) (part-all xs)

module _ {H : Type 0} where
  pub none-kept-at : (ds : List (Dbuf H)) (k : ℕ) (d : Dbuf H) → k < length ds → none_kept (map standing_of ds) ≡ true → (standing_of (get_or ds k d)).kept ≡ false
  none-kept-at [] k d within h = absurd (omega arith)
  none-kept-at (x ∷ ds) zero d within h = not-true (standing_of x).kept (and-parts (not (standing_of x).kept) (none_kept (map standing_of ds)) h).0
    where
      not-true : (b : Bool) → not b ≡ true → b ≡ false
      not-true true h = cc
      not-true false h = refl
  none-kept-at (x ∷ ds) (suc k) d within h = none-kept-at ds k d (omega arith) (and-parts (not (standing_of x).kept) (none_kept (map standing_of ds)) h).1

  -- the first k dbufs of a cell are emptied
  pub record IsEmptying (k end : ℕ) (before now : CellLog H) : Type 0 where
    pub log : now ≡ record before { dbufs = part cleared k before.dbufs }
    pub within : k ≤ length before.dbufs
    pub end_is : end ≡ length before.dbufs
    pub none : none_kept (map standing_of before.dbufs) ≡ true

  pub emptying-within : (k end : ℕ) (before now : CellLog H) → IsEmptying k end before now → k < end → k < length now.dbufs
  emptying-within k end before now h lt = omega (arith, ap (λ (log : CellLog H). length log.dbufs) h.log, part-length cleared k before.dbufs, h.end_is)

  pub emptying-none : (k end : ℕ) (before now : CellLog H) → IsEmptying k end before now → k < end → (d : Dbuf H) → (standing_of (get_or now.dbufs k d)).kept ≡ false
  emptying-none k end before now h lt d =
      ap (λ (x : Dbuf H). (standing_of x).kept) (ap (λ (log : CellLog H). get_or log.dbufs k d) h.log ∙ part-read cleared k before.dbufs d)
      ∙ none-kept-at before.dbufs k d (omega (arith, h.end_is)) h.none

  pub emptying-more : (k end : ℕ) (before now next : CellLog H) → IsEmptying k end before now → k < end
      → ((d : Dbuf H) → next ≡ record now { dbufs = set now.dbufs k (cleared (get_or now.dbufs k d)) }) → IsEmptying (k + 1) end before next
  emptying-more k end before now next h lt is = record {
    log = is (first before.dbufs (omega (arith, h.end_is)))
        ∙ (ap (λ (log : CellLog H). record log { dbufs = set log.dbufs k (cleared (get_or log.dbufs k (first before.dbufs (omega (arith, h.end_is))))) }) h.log
        ∙ ap (λ (ds : List (Dbuf H)). record before { dbufs = ds }) (part-more cleared k before.dbufs (first before.dbufs (omega (arith, h.end_is))) (omega (arith, h.end_is))));
    within = omega (arith, h.end_is);
    end_is = h.end_is;
    none = h.none;
  }
    where
      first : (ds : List (Dbuf H)) → k < length ds → Dbuf H
      first [] within = absurd (omega arith)
      first (d ∷ ds) within = d

  pub emptying-done : (k end : ℕ) (before now : CellLog H) → IsEmptying k end before now → end ≤ k → now ≡ record before { dbufs = map cleared before.dbufs }
  emptying-done k end before now h past =
      let all : k ≡ length before.dbufs = omega (arith, h.end_is, h.within) in
      h.log ∙ ap (λ (ds : List (Dbuf H)). record before { dbufs = ds }) (ap (λ n. part cleared n before.dbufs) all ∙ part-all cleared before.dbufs)
