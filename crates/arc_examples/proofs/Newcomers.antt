-- The parties of a new cache.
use Rattle.std.proofs.Common.{◌≡◌, ℕ, zero, suc, ◌+◌, List, [], ◌∷◌, ◌++◌, length, refl, sym, ap, ◌∙◌, subst, arith}
use Rattle.turn_table.specs.Places.{Place, newcomers}
use Rattle.arc_table.specs.declared.about.About.{About}
use Rattle.arc_table.specs.declared.view.Known.{Known}
use Rattle.arc_table.specs.Cache.{Cache, IsCache, all_newcomers}
use Rattle.arc_table.specs.Geometry.{parties_of}
use Rattle.arc_table.specs.Views.{newcomer}
use Rattle.arc_examples.specs.Ready.{AreNew, IsNew}

some-new : (C : Type 0) (cache : Cache) (is : IsCache cache.row cache.config) (about : About) → about.config ≡ cache.config → (n k : ℕ) → AreNew {C = C} cache n (newcomers cache.row.table (parties_of cache.config) (newcomer about) n k)
some-new C cache is about same n zero = tt
some-new C cache is about same n (suc k) = (
  record {
    ready = record { valid = is.valid; of = record { row = (refl, sym is.parties); config = same }; free = refl };
    number = refl;
    joined = refl;
    picked = refl;
    mine = refl;
    look = λ i among. absurd among;
  },
  some-new C cache is about same (suc n) k,
)

module _ {C : Type 0} (cache : Cache) where
  -- the parties that a new cache has
  pub all-new : (is : IsCache cache.row cache.config) (about : About) (ps : List (Place (Known C))) → about.config ≡ cache.config → ps ≡ all_newcomers cache about → AreNew cache 0 ps
  all-new is about ps same e = subst (AreNew cache 0) (sym e) (some-new C cache is about same 0 (parties_of cache.config))

  pub new-split : (ps : List (Place (Known C))) (p : Place (Known C)) (n : ℕ) → AreNew cache n (ps ++ p ∷ []) → AreNew cache n ps × IsNew cache (n + length ps) p
  new-split [] p n a = (tt, subst (λ (i : ℕ). IsNew cache i p) (omega arith) a.0)
  new-split (q ∷ ps) p n a = let r = new-split ps p (suc n) a.1 in ((a.0, r.0), subst (λ (i : ℕ). IsNew cache i p) (omega arith) r.1)

  pub new-last : (ps : List (Place (Known C))) (p : Place (Known C)) → AreNew cache 0 (ps ++ p ∷ []) → IsNew cache (length ps) p
  new-last ps p a = subst (λ (i : ℕ). IsNew cache i p) (omega arith) (new-split ps p 0 a).1

length-newcomers : {C : Type 0} → (cache : Cache) (f : ℕ → Known C) (n k : ℕ) → length (newcomers cache.row.table (parties_of cache.config) f n k) ≡ k
length-newcomers cache f n zero = refl
length-newcomers cache f n (suc k) = ap suc (length-newcomers cache f (suc n) k)

pub count-new : {C : Type 0} → (cache : Cache) (about : About) (ps : List (Place (Known C))) → ps ≡ all_newcomers cache about → length ps ≡ parties_of cache.config
count-new cache about ps e = ap length e ∙ length-newcomers cache (newcomer about) 0 (parties_of cache.config)
