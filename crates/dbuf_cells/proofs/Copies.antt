-- A clean block's bytes are copied: what is taken out of its dbuf, and put back.
use Rattle.std.proofs.Common.{◌≡◌, ◌≤◌, ℕ, Bool, true, false, not, ◌&&◌, List, [], ◌∷◌, length, Option, Some, None, refl, sym, ap, ◌∙◌, subst, inl, inr}
use Rattle.std.specs.Option.{option_map, option_map_or}
use Rattle.std.proofs.lemmas.Bool.{false≢true}
use Rattle.blk_ptr.specs.Size.{IsBlockSize}
use Rattle.blk_ptr.specs.declared.ptr.Ptr.{Ptr}
use Rattle.dbuf_state.specs.CellLog.{CellLog, fresh}
use Rattle.dbuf_state.specs.Dbufs.{DbufHas, IsOfContent, cached_with, dbuf_at, dbuf_is, dbuf_oid, dirty_with, is_cached, is_clean, is_clean_in, is_dirty, is_evicting, mapped_of, size_of, with_dbuf, without_kept}
use Rattle.dbuf_state.specs.Oids.{has_item, oid_eq, with_item}
use Rattle.dbuf_state.specs.declared.dbuf.Content.{Content}
use Rattle.dbuf_state.specs.declared.dbuf.Content.TheVariants.{Clean, Dirty}
use Rattle.dbuf_state.specs.declared.dbuf.Dbuf.{Dbuf}
use Rattle.dbuf_state.specs.declared.oid.Oid.{Oid}
use Rattle.dbuf_state.specs.declared.state.DbState.{DbState}
use Rattle.dbuf_state.specs.declared.state.DbState.TheVariants as state
use Rattle.dbuf_state.specs.declared.state.Mapped.TheVariants as mapped
use Rattle.dbuf_state.proofs.FitLemmas.{from-both, from-has, from-test, has-found, item-changed}
use Rattle.dbuf_state.proofs.HandLemmas.{dirty-hides-unkept, rekept-is-there}
use Rattle.dbuf_state.proofs.IndexLemmas.{and-both, and-parts, bool_cases}
use Rattle.dbuf_cells.specs.Kept.{bytes_of, key_of}
use Rattle.dbuf_cells.specs.Patching.{IsSizedIn}
use Rattle.dbuf_cells.specs.declared.kept.Kept.{Kept}
use Rattle.dbuf_cells.proofs.Evictions.{is-dbuf}

-- a cached block that isn't clean is dirty
pub dirty-else : (at : Oid) (ds : List (Dbuf Kept)) → dbuf_is (λ d. is_cached d.state) at ds ≡ true → dbuf_is (is_clean_in is_cached) at ds ≡ false → dbuf_is is_dirty at ds ≡ true
dirty-else at ds cached none = go (dbuf_at at ds) cached none
  where
    one : (c : Content) (s : DbState) → is_cached s ≡ true → (is_clean c && is_cached s) ≡ false → not (is_clean c) ≡ true
    one (Dirty bytes) s c n = refl
    one (Clean ptr) s c n = absurd (false≢true (sym n ∙ c))

    go : (o : Option (Dbuf Kept)) → option_map_or (λ d. is_cached d.state) o false ≡ true → option_map_or (is_clean_in is_cached) o false ≡ false → option_map_or is_dirty o false ≡ true
    go None c n = absurd (false≢true c)
    go (Some d) c n = one d.content d.state c n

-- what is kept has as many bytes as the pointer says
pub block-sized : (k : Kept) (at : Oid) (ds : List (Dbuf Kept)) → IsSizedIn at ds → DbufHas (λ d. IsOfContent key_of bytes_of k d.content) (dbuf_at at ds) → IsBlockSize (length (bytes_of k))
block-sized k at ds sized of = go (dbuf_at at ds) sized of
  where
    one : (c : Content) → ((ptr : Ptr) → Some (mapped_of c) ≡ Some (mapped.Clean ptr) → IsBlockSize ptr.key.size) → IsOfContent key_of bytes_of k c → IsBlockSize (length (bytes_of k))
    one (Clean ptr) s of = subst IsBlockSize (sym of.bytes.size) (s ptr refl)
    one (Dirty bytes) s of = absurd of

    go : (o : Option (Dbuf Kept)) → ((ptr : Ptr) → option_map (λ d. mapped_of d.content) o ≡ Some (mapped.Clean ptr) → IsBlockSize ptr.key.size) → DbufHas (λ d. IsOfContent key_of bytes_of k d.content) o → IsBlockSize (length (bytes_of k))
    go None s of = absurd of
    go (Some d) s of = one d.content s of

-- ---- the dbuf while its block is out

unkept-has : (P : Dbuf Kept → Type 0) (at : Oid) (ds : List (Dbuf Kept)) → DbufHas (λ d. P (without_kept state.Evicting d)) (dbuf_at at ds) → DbufHas P (dbuf_at at (with_dbuf at (without_kept state.Evicting) ds))
unkept-has P at [] h = absurd h
unkept-has P at (x ∷ ds) h = elim (bool_cases (oid_eq at x.at)) [
  | inl here ↦ let has : P (without_kept state.Evicting x) = rw here at h in rw (here, here) has
  | inr far ↦ let rest = unkept-has P at ds (rw far at h) in rw (far, far) rest
]

has-test : (test : Dbuf Kept → Bool) (o : Option (Dbuf Kept)) → DbufHas (λ d. test d ≡ true) o → option_map_or test o false ≡ true
has-test test None h = absurd h
has-test test (Some d) h = h

pub unkept-evicting : (at : Oid) (ds : List (Dbuf Kept)) → dbuf_is (is_clean_in is_cached) at ds ≡ true → dbuf_is (is_clean_in is_evicting) at (with_dbuf at (without_kept state.Evicting) ds) ≡ true
unkept-evicting at ds clean = has-test (is_clean_in is_evicting) (dbuf_at at (with_dbuf at (without_kept state.Evicting) ds))
    (unkept-has (λ d. is_clean_in is_evicting d ≡ true) at ds (from-test (is_clean_in is_cached) (λ d. is_clean_in is_evicting (without_kept state.Evicting d) ≡ true) (λ d t. and-both (is_clean d.content) true (and-parts (is_clean d.content) _ t).0 refl) at ds clean))

pub unkept-of : (k : Kept) (at : Oid) (ds : List (Dbuf Kept)) → DbufHas (λ d. IsOfContent key_of bytes_of k d.content) (dbuf_at at ds) → DbufHas (λ d. IsOfContent key_of bytes_of k d.content) (dbuf_at at (with_dbuf at (without_kept state.Evicting) ds))
unkept-of k at ds of = unkept-has (λ d. IsOfContent key_of bytes_of k d.content) at ds of

pub unkept-there : (k : Kept) (at : Oid) (ds : List (Dbuf Kept)) → DbufHas (λ d. IsOfContent key_of bytes_of k d.content) (dbuf_at at ds) → has_item dbuf_oid at (with_dbuf at (without_kept state.Evicting) ds) ≡ true
unkept-there k at ds of = has-found (λ d. IsOfContent key_of bytes_of k d.content) at (with_dbuf at (without_kept state.Evicting) ds) (unkept-of k at ds of)

-- what was put back was there all the time
pub put-back : (k : Kept) (at : Oid) (ds : List (Dbuf Kept)) → dbuf_is (is_clean_in is_cached) at ds ≡ true → DbufHas (λ d. d.kept ≡ Some k) (dbuf_at at ds) → with_dbuf at (cached_with k) (with_dbuf at (without_kept state.Evicting) ds) ≡ ds
put-back k at ds clean there =
    let d = is-dbuf (λ x. x.kept ≡ Some k) (dbuf_at at ds) there in
    let t : is_clean_in is_cached d.dbuf ≡ true = ap (λ (o : Option (Dbuf Kept)). option_map_or (is_clean_in is_cached) o false) (sym d.there) ∙ clean in
    rekept-is-there at ds d.dbuf state.Evicting k d.there d.has (cached-state d.dbuf.state (and-parts (is_clean d.dbuf.content) (is_cached d.dbuf.state) t).1)
  where
    cached-state : (s : DbState) → is_cached s ≡ true → s ≡ state.Cached
    cached-state state.Uncached h = absurd (false≢true h)
    cached-state (state.Read n) h = absurd (false≢true h)
    cached-state state.Fill h = absurd (false≢true h)
    cached-state state.Cached h = refl
    cached-state state.Evicting h = absurd (false≢true h)

-- the cell with a copy in the place of what was taken out
pub taken-over : (k : Kept) (at : Oid) (old out new : CellLog Kept) (bytes : List ℕ) (room : ℕ) → DbufHas (λ d. IsOfContent key_of bytes_of k d.content) (dbuf_at at old.dbufs) → out ≡ record old { dbufs = with_dbuf at (without_kept state.Evicting) old.dbufs }
    → bytes ≡ bytes_of k → new ≡ record out { dbufs = with_item dbuf_oid at (dirty_with bytes) (fresh at (Dirty bytes) state.Cached) out.dbufs; dbuf_room = room }
    → new ≡ record old { dbufs = with_dbuf at (dirty_with (bytes_of k)) old.dbufs; dbuf_room = new.dbuf_room }
taken-over k at old out new bytes room of one same two =
    let there = has-found (λ d. IsOfContent key_of bytes_of k d.content) at old.dbufs of in
    let dbufs : new.dbufs ≡ with_dbuf at (dirty_with (bytes_of k)) old.dbufs =
    ap (λ (x : CellLog Kept). x.dbufs) two ∙ (ap (λ (x : CellLog Kept). with_item dbuf_oid at (dirty_with bytes) (fresh at (Dirty bytes) state.Cached) x.dbufs) one
    ∙ (dirty-hides-unkept at old.dbufs state.Evicting bytes (fresh at (Dirty bytes) state.Cached) ∙ (item-changed at (dirty_with bytes) (fresh at (Dirty bytes) state.Cached) old.dbufs there
    ∙ ap (λ (bs : List ℕ). with_dbuf at (dirty_with bs) old.dbufs) same))) in
    rest-same ∙ ap (λ (ds : List (Dbuf Kept)). record old { dbufs = ds; dbuf_room = new.dbuf_room }) dbufs
  where
    rest-same : new ≡ record old { dbufs = new.dbufs; dbuf_room = new.dbuf_room }
    rest-same = let a : new ≡ record out { dbufs = new.dbufs; dbuf_room = new.dbuf_room } = subst (λ (x : CellLog Kept). x ≡ record out { dbufs = x.dbufs; dbuf_room = x.dbuf_room }) (sym two) refl in
        a ∙ ap (λ (x : CellLog Kept). record x { dbufs = new.dbufs; dbuf_room = new.dbuf_room }) one

-- a dirty block's copy is as long as the block was
dirtied-has : (P : Dbuf Kept → Type 0) (at : Oid) (bytes : List ℕ) (ds : List (Dbuf Kept)) → DbufHas (λ d. P (dirty_with bytes d)) (dbuf_at at ds) → DbufHas P (dbuf_at at (with_dbuf at (dirty_with bytes) ds))
dirtied-has P at bytes [] h = absurd h
dirtied-has P at bytes (x ∷ ds) h = elim (bool_cases (oid_eq at x.at)) [
  | inl here ↦ let has : P (dirty_with bytes x) = rw here at h in rw (here, here) has
  | inr far ↦ let rest = dirtied-has P at bytes ds (rw far at h) in rw (far, far) rest
]

pub dirtied-dirty : (k : Kept) (at : Oid) (ds : List (Dbuf Kept)) → DbufHas (λ d. IsOfContent key_of bytes_of k d.content) (dbuf_at at ds) → dbuf_is is_dirty at (with_dbuf at (dirty_with (bytes_of k)) ds) ≡ true
dirtied-dirty k at ds of = has-test is_dirty (dbuf_at at (with_dbuf at (dirty_with (bytes_of k)) ds)) (dirtied-has (λ d. is_dirty d ≡ true) at (bytes_of k) ds (from-has (λ d. IsOfContent key_of bytes_of k d.content) (λ d. true ≡ true) (λ d o. refl) at ds of))

pub dirtied-inside : (last : ℕ) (k : Kept) (at : Oid) (ds : List (Dbuf Kept)) → DbufHas (λ d. IsOfContent key_of bytes_of k d.content) (dbuf_at at ds) → DbufHas (λ d. last ≤ size_of d.content) (dbuf_at at ds)
    → DbufHas (λ d. last ≤ size_of d.content) (dbuf_at at (with_dbuf at (dirty_with (bytes_of k)) ds))
dirtied-inside last k at ds of inside = dirtied-has (λ d. last ≤ size_of d.content) at (bytes_of k) ds
    (from-both (λ d. IsOfContent key_of bytes_of k d.content) (λ d. last ≤ size_of d.content) (λ d. last ≤ length (bytes_of k)) (λ d o l. one d.content o l) at ds of inside)
  where
    one : (c : Content) → IsOfContent key_of bytes_of k c → last ≤ size_of c → last ≤ length (bytes_of k)
    one (Clean ptr) o l = subst (λ (n : ℕ). last ≤ n) (sym o.bytes.size) l
    one (Dirty bytes) o l = absurd o
