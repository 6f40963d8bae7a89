-- What a read of bytes that are of the pointer gives.
use Rattle.std.proofs.Common.{◌≡◌, ℕ, List, Option, Some, None, Ok, IfSome, inl, inr, sym, ◌∙◌}
use Rattle.std.proofs.lemmas.Bool.{false≢true}
use Rattle.std.proofs.lemmas.Slice.Eq.{bytes_eq-Decides}
use Rattle.std.specs.Str.{bytes_eq}
use Rattle.blk_ptr.specs.declared.ptr.Ptr.{Ptr}
use Rattle.blk_ptr.specs.Ptr.{range_of, IsOf, IsPlainRead, IsSameOrCollides}
use Rattle.arc_lists.proofs.Tables.{cases_true}
use Rattle.arc_core.specs.declared.served.Served.{Served}
use Rattle.trace_run.specs.Read.{IsFromPool, IsReadOf}

-- two contents of one pointer are the same, or they share a digest
pub same-or-collides : (ptr : Ptr) (a b : List ℕ) → IsOf a ptr → IsOf b ptr → IsSameOrCollides a b
same-or-collides ptr a b one other = elim (cases_true (bytes_eq a b)) [
  | inl same ↦ inl ((bytes_eq-Decides a b).0 same)
  | inr differs ↦ inr (λ equal. false≢true (sym differs ∙ (bytes_eq-Decides a b).1 equal), one.digest ∙ sym other.digest)
]

-- bytes that are of the pointer serve it, which are the told ones where they come from the pool
pub read-of : (image : Option (List ℕ)) (ptr : Ptr) (from : Served) (bytes : List ℕ) → IsOf bytes ptr → (IsFromPool from → IfSome image (λ told. bytes ≡ range_of told ptr.key)) → IsReadOf image ptr from bytes
read-of image ptr from bytes one range = record { of = one; range = range; plain = go image }
  where
    go : (o : Option (List ℕ)) → IfSome o (λ told. (others : List ℕ) → IsPlainRead told ptr (Ok others) → IsSameOrCollides bytes others)
    go None = tt
    go (Some told) = λ others plain. same-or-collides ptr bytes others one plain.1
