-- A cell that only maps blocks may move into a cache.
use Rattle.std.proofs.Common.{◌≡◌, ℕ, zero, suc, List, [], ◌∷◌, ◌++◌, map, length, refl, sym, ap, ◌∙◌, subst}
use Rattle.std.specs.List.{AllByRecursion}
use mathlib.Core.Option.{some, some-injective, some-ne-none}
use lib.ListN.{get_elem?}
use Rattle.blk_ptr.specs.declared.ptr.Ptr.{Ptr}
use Rattle.arc_core.specs.declared.config.Config.{Config}
use Rattle.arc_table.specs.opening.Opening.{AreFreshCells, IsFreshCell}
use Rattle.dbuf_state.specs.CellLog.{CellLog, fresh}
use Rattle.dbuf_state.specs.Numbers.{claims_in, event_numbers, mapping_numbers}
use Rattle.dbuf_state.specs.Soundness.{holds_in}
use Rattle.dbuf_state.specs.declared.dbuf.Content.TheVariants.{Clean}
use Rattle.dbuf_state.specs.declared.dbuf.Dbuf.{Dbuf}
use Rattle.dbuf_state.specs.declared.event.CellEvent.{CellEvent}
use Rattle.dbuf_state.specs.declared.state.DbState.TheVariants.{Uncached}
use Rattle.dbuf_state.specs.declared.state.Mapping.{Mapping}
use Rattle.dbuf_state.proofs.HeldLemmas.{mapped-tells}
use Rattle.dbuf_state.proofs.StepLemmas.{mapped-is-sound}
use Rattle.dbuf_cells.specs.Kept.{bytes_of, is_held, key_of}
use Rattle.dbuf_cells.specs.Turns.{OnHeap, dbuf_meanings}
use Rattle.dbuf_cells.specs.declared.kept.Kept.{Kept}
use Rattle.dbuf_examples.specs.Mapped.{IsMapped}

fresh-holds : (ms : List Mapping) → holds_in {H = Kept} key_of bytes_of is_held (map (λ m. fresh m.at (Clean m.ptr) Uncached) ms) ≡ []
fresh-holds [] = refl
fresh-holds (m ∷ ms) = fresh-holds ms

fresh-claims : (n : ℕ) (ms : List Mapping) → claims_in {H = Kept} n (map (λ m. fresh m.at (Clean m.ptr) Uncached) ms) ≡ []
fresh-claims n [] = refl
fresh-claims n (m ∷ ms) = fresh-claims n ms

is-fresh : (c : OnHeap) → IsMapped c.value → IsFreshCell dbuf_meanings c
is-fresh c h = record {
  sound = record { sound = mapped-is-sound c.value h.history h.dbufs; tells = mapped-tells is_held c.value h.history h.dbufs };
  holds = ap (λ (ds : List (Dbuf Kept)). holds_in key_of bytes_of is_held ds) h.dbufs ∙ fresh-holds c.value.opening;
  entries = ap (λ (es : List CellEvent). map event_numbers es) h.history;
  claims = λ n. ap mapping_numbers (ap (λ (ds : List (Dbuf Kept)). claims_in n ds) h.dbufs ∙ fresh-claims n c.value.opening);
}

each-fresh : (cs : List OnHeap) → AllByRecursion (λ c. IsMapped c.value) cs → (i : ℕ) (c : OnHeap) → get_elem? cs i ≡ some c → IsFreshCell dbuf_meanings c
each-fresh [] all i c at = absurd (some-ne-none c (sym at))
each-fresh (x ∷ xs) all zero c at = subst (IsFreshCell dbuf_meanings) (some-injective x c at) (is-fresh x all.0)
each-fresh (x ∷ xs) all (suc i) c at = each-fresh xs all.1 i c at

pub all-fresh : (g : Config) (cs : List OnHeap) → length cs ≡ g.cells → AllByRecursion (λ c. IsMapped c.value) cs → AreFreshCells dbuf_meanings g cs
all-fresh g cs count all = record { count = count; each = each-fresh cs all }

-- one cell more
pub mapped-more : (cs : List OnHeap) (c : OnHeap) → AllByRecursion (λ x. IsMapped x.value) cs → IsMapped c.value → AllByRecursion (λ x. IsMapped x.value) (cs ++ c ∷ [])
mapped-more [] c all one = (one, tt)
mapped-more (x ∷ xs) c all one = (all.0, mapped-more xs c all.1 one)
