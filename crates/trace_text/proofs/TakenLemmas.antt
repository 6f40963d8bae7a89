-- The blocks that are mapped, and one more.
use Rattle.std.proofs.Common.{◌≡◌, ◌↔◌, ◌⊎◌, inl, inr, Bool, IsTrue, is_some, List, [], ◌∷◌, ◌++◌, Option, Some, None, IfNone, IfSome, ap, sym, ◌∙◌}
use Rattle.std.proofs.lemmas.Bool.{false≢true}
use Rattle.key_table.specs.PlainTable.{Gains, Row, row}
use Rattle.dbuf_state.specs.declared.oid.Oid.{Oid}
use Rattle.trace_text.specs.declared.mapping.Mapping.{Mapping}
use Rattle.trace_text.specs.declared.mappings.Name.{Name}
use Rattle.trace_text.specs.Grammar.{IsMapped}
use Rattle.trace_text.specs.Taken.{AreTaken, name}

-- a row that is found, or not
pub found-iff : {V : Type 0} (o : Option V) (P : V → Type 0) (Has Is : Type 0) (b : Bool) → b ≡ is_some o → ((v : V) → P v → Has) → IfSome o P → IfNone o (Has → ⊥) → (Has ↔ Is) → IsTrue b ↔ Is
found-iff None P Has Is b is any some none iff = (λ t. absurd (false≢true (sym is ∙ t)), λ i. absurd (none (iff.1 i)))
found-iff (Some v) P Has Is b is any some none iff = (λ t. iff.0 (any v some), λ i. is)

-- a block that is mapped by one more
pub mapped-push : (mappings : List Mapping) (m : Mapping) (at : Oid) → IsMapped at (mappings ++ m ∷ []) → IsMapped at mappings ⊎ (m.at ≡ at)
mapped-push [] m at (inl same) = inr same
mapped-push [] m at (inr none) = absurd none
mapped-push (first ∷ mappings) m at (inl same) = inl (inl same)
mapped-push (first ∷ mappings) m at (inr there) = elim (mapped-push mappings m at there) [
  | inl before ↦ inl (inr before)
  | inr last ↦ inr last
]

mapped-before : (mappings : List Mapping) (m : Mapping) (at : Oid) → IsMapped at mappings → IsMapped at (mappings ++ m ∷ [])
mapped-before [] m at is = absurd is
mapped-before (first ∷ mappings) m at (inl same) = inl same
mapped-before (first ∷ mappings) m at (inr there) = inr (mapped-before mappings m at there)

mapped-last : (mappings : List Mapping) (m : Mapping) (at : Oid) → m.at ≡ at → IsMapped at (mappings ++ m ∷ [])
mapped-last [] m at same = inl same
mapped-last (first ∷ mappings) m at same = inr (mapped-last mappings m at same)

-- one more row for one more mapping
pub taken-more : (old new : List (Row Name (Unit {0}))) (mappings : List Mapping) (m : Mapping) → AreTaken old mappings → Gains old new (row (name m.at) tt) → AreTaken new (mappings ++ m ∷ [])
taken-more old new mappings m taken gains = λ at. (
  λ has. elim ((gains (row (name at) has.0)).0 has.1) [
    | inl same ↦ mapped-last mappings m at (ap (λ (r : Row Name (Unit {0})). r.key.0) (sym same))
    | inr before ↦ mapped-before mappings m at ((taken at).0 (has.0, before))
  ],
  λ is. elim (mapped-push mappings m at is) [
    | inl before ↦ let has = (taken at).1 before in (has.0, (gains (row (name at) has.0)).1 (inr has.1))
    | inr same ↦ (tt, (gains (row (name at) tt)).1 (inl (ap (λ (a : Oid). row (name a) tt) (sym same))))
  ],
)
