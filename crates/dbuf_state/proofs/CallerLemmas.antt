-- What the answers of a cell's reading calls say of its dbufs.
use Rattle.std.proofs.Common.{◌≡◌, ℕ, Bool, true, false, not, ◌&&◌, ◌||◌, List, Option, Some, None, refl, sym, ap, subst}
use Rattle.std.specs.Option.{option_map_or}
use Rattle.std.specs.Prelude.{option_map, is_some}
use Rattle.blk_ptr.specs.declared.key.Key.{Key}
use Rattle.blk_ptr.specs.declared.ptr.Ptr.{Ptr}
use Rattle.dbuf_state.specs.declared.dbuf.Content.{Content}
use Rattle.dbuf_state.specs.declared.dbuf.Content.TheVariants.{Clean, Dirty}
use Rattle.dbuf_state.specs.declared.dbuf.Dbuf.{Dbuf}
use Rattle.dbuf_state.specs.declared.oid.Oid.{Oid}
use Rattle.dbuf_state.specs.declared.state.DbState.{DbState}
use Rattle.dbuf_state.specs.declared.state.DbState.TheVariants as state
use Rattle.dbuf_state.specs.declared.state.Mapped.{Mapped}
use Rattle.dbuf_state.specs.declared.state.Mapped.TheVariants as mapped
use Rattle.dbuf_state.specs.Dbufs.{DbufHas, IsKeptOf, IsOfContent, dbuf_at, dbuf_is, dbuf_oid, is_clean, is_clean_in, is_dirty, is_evicting, is_uncached, mapped_of, may_dirty, size_of}
use Rattle.dbuf_state.specs.Oids.{has_item}

module _ {H : Type 0} where
  abbrev pub mapped_at : Oid → List (Dbuf H) → Option Mapped
  mapped_at at ds = option_map (λ d. mapped_of d.content) (dbuf_at at ds)

  abbrev pub state_at : Oid → List (Dbuf H) → DbState
  state_at at ds = option_map_or (λ d. d.state) (dbuf_at at ds) state.Uncached

  -- a clean block whose dbuf is in a state that passes
  pub clean-in : (test : DbState → Bool) (at : Oid) (ds : List (Dbuf H)) (ptr : Ptr) → mapped_at at ds ≡ Some (mapped.Clean ptr) → test (state_at at ds) ≡ true → dbuf_is (is_clean_in test) at ds ≡ true
  clean-in test at ds ptr clean passes = go (dbuf_at at ds) clean passes
    where
      content : (k : Content) (t : Bool) → Some (mapped_of k) ≡ Some (mapped.Clean ptr) → t ≡ true → (is_clean k && t) ≡ true
      content (Clean p) t e h = h
      content (Dirty bytes) t e h = cc

      go : (o : Option (Dbuf H)) → option_map (λ d. mapped_of d.content) o ≡ Some (mapped.Clean ptr) → test (option_map_or (λ d. d.state) o state.Uncached) ≡ true → option_map_or (is_clean_in test) o false ≡ true
      go None e h = cc
      go (Some d) e h = content d.content (test d.state) e h

  -- a clean block has this pointer
  pub clean-ptr : (at : Oid) (ds : List (Dbuf H)) (ptr : Ptr) → mapped_at at ds ≡ Some (mapped.Clean ptr) → DbufHas (λ d. d.content ≡ Clean ptr) (dbuf_at at ds)
  clean-ptr at ds ptr e = go (dbuf_at at ds) e
    where
      content : (k : Content) → Some (mapped_of k) ≡ Some (mapped.Clean ptr) → k ≡ Clean ptr
      content (Clean p) e = let same : p ≡ ptr = cc in ap (λ (q : Ptr). Clean q) same
      content (Dirty bytes) e = cc

      go : (o : Option (Dbuf H)) → option_map (λ d. mapped_of d.content) o ≡ Some (mapped.Clean ptr) → DbufHas (λ d. d.content ≡ Clean ptr) o
      go None e = cc
      go (Some d) e = content d.content e

  -- a kept value that is of the pointer is of the clean block
  pub of-clean : (key_of : H → Key) (bytes_of : H → List ℕ) (kept : H) (at : Oid) (ds : List (Dbuf H)) (ptr : Ptr) → mapped_at at ds ≡ Some (mapped.Clean ptr) → IsKeptOf key_of bytes_of kept ptr
      → DbufHas (λ d. IsOfContent key_of bytes_of kept d.content) (dbuf_at at ds)
  of-clean key_of bytes_of kept at ds ptr e of = go (dbuf_at at ds) (clean-ptr at ds ptr e)
    where
      go : (o : Option (Dbuf H)) → DbufHas (λ d. d.content ≡ Clean ptr) o → DbufHas (λ d. IsOfContent key_of bytes_of kept d.content) o
      go None h = h
      go (Some d) h = subst (λ (k : Content). IsOfContent key_of bytes_of kept k) (sym h) of

  pub dirty-in : (at : Oid) (ds : List (Dbuf H)) (size : ℕ) → mapped_at at ds ≡ Some (mapped.Dirty size) → dbuf_is is_dirty at ds ≡ true
  dirty-in at ds size e = go (dbuf_at at ds) e
    where
      content : (k : Content) → Some (mapped_of k) ≡ Some (mapped.Dirty size) → not (is_clean k) ≡ true
      content (Clean p) e = cc
      content (Dirty bytes) e = refl

      go : (o : Option (Dbuf H)) → option_map (λ d. mapped_of d.content) o ≡ Some (mapped.Dirty size) → option_map_or is_dirty o false ≡ true
      go None e = cc
      go (Some d) e = content d.content e

  -- where the Oid isn't mapped, it has no dbuf
  pub unmapped : (at : Oid) (ds : List (Dbuf H)) → mapped_at at ds ≡ None → has_item dbuf_oid at ds ≡ false
  unmapped at ds e = go (dbuf_at at ds) e
    where
      go : (o : Option (Dbuf H)) → option_map (λ d. mapped_of d.content) o ≡ None → is_some o ≡ false
      go None e = refl
      go (Some d) e = cc

  pub dirties-unmapped : (at : Oid) (ds : List (Dbuf H)) → mapped_at at ds ≡ None → may_dirty at ds ≡ true
  dirties-unmapped at ds e = go (dbuf_at at ds) e
    where
      go : (o : Option (Dbuf H)) → option_map (λ d. mapped_of d.content) o ≡ None → option_map_or (λ d. not (is_clean d.content) || (is_uncached d.state || is_evicting d.state)) o true ≡ true
      go None e = refl
      go (Some d) e = cc

  -- a mapped block whose dbuf is in a state that passes
  pub state-in : (test : DbState → Bool) (at : Oid) (ds : List (Dbuf H)) (m : Mapped) → mapped_at at ds ≡ Some m → test (state_at at ds) ≡ true → dbuf_is (λ d. test d.state) at ds ≡ true
  state-in test at ds m e passes = go (dbuf_at at ds) e passes
    where
      go : (o : Option (Dbuf H)) → option_map (λ d. mapped_of d.content) o ≡ Some m → test (option_map_or (λ d. d.state) o state.Uncached) ≡ true → option_map_or (λ d. test d.state) o false ≡ true
      go None e h = cc
      go (Some d) e h = h

  -- a dirty block has so many bytes
  pub dirty-size : (at : Oid) (ds : List (Dbuf H)) (size : ℕ) → mapped_at at ds ≡ Some (mapped.Dirty size) → DbufHas (λ d. size_of d.content ≡ size) (dbuf_at at ds)
  dirty-size at ds size e = go (dbuf_at at ds) e
    where
      content : (k : Content) → Some (mapped_of k) ≡ Some (mapped.Dirty size) → size_of k ≡ size
      content (Clean p) e = cc
      content (Dirty bytes) e = cc

      go : (o : Option (Dbuf H)) → option_map (λ d. mapped_of d.content) o ≡ Some (mapped.Dirty size) → DbufHas (λ d. size_of d.content ≡ size) o
      go None e = cc
      go (Some d) e = content d.content e
