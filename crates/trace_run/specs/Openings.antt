-- How the cells of a run begin.
use Rattle.std.specs.Prelude.{◌≡◌, ◌==◌, ℕ, if◌then◌else◌, List, [], ◌∷◌, ◌++◌, map, slice_get}
use Rattle.std.specs.List.{AllByRecursion, range_with_len}
use Rattle.std.specs.Option.{option_map_or}
use Rattle.blk_ptr.specs.declared.ptr.Ptr.{Ptr}
use Rattle.arc_table.specs.declared.view.Known.{Known}
use Rattle.dbuf_cells.specs.Places.{cell_of}
use Rattle.dbuf_state.specs.Numbers.{opening_numbers}
use Rattle.dbuf_state.specs.declared.state.Mapping.{Mapping}
use Rattle.trace_text.specs.declared.mapping.Mapping.{Mapping as ObjectLine}
use Rattle.trace_text.specs.declared.trace.Trace.{Trace}
use Rattle.turn_table.specs.Places.{Place}

-- what a line says, with the pointer of its block
abbrev pub mapping_of : List Ptr → ObjectLine → List Mapping
mapping_of blocks line = option_map_or (λ ptr. record { at = line.at; ptr = ptr } ∷ []) (slice_get blocks line.block) []

-- what these lines say of the Oids that stand in the cell of this number, of so many, in the order of the lines
abbrev pub mappings_in : (cells i : ℕ) → List Ptr → List ObjectLine → List Mapping
mappings_in cells i blocks [] = []
mappings_in cells i blocks (line ∷ lines) =
    if cell_of cells line.at == i then mapping_of blocks line ++ mappings_in cells i blocks lines else mappings_in cells i blocks lines

-- how the cell of this number begins: it maps what the trace's lines say of its Oids
abbrev pub opening_map : Trace → (i : ℕ) → List Mapping
opening_map trace i = mappings_in trace.config.cells i trace.blocks trace.objects

-- the same as numbers, by the numbers of the cells, with the configuration's bytes of clean dbufs
abbrev pub openings_of : Trace → List (List ℕ)
openings_of trace = map (λ i. opening_numbers trace.config.dbuf_bytes (opening_map trace i)) (range_with_len 0 trace.config.cells)

-- the parties know that the cells began so
abbrev pub Knows : {C : Type 0} → List (List ℕ) → Place (Known C) → Type 0
Knows openings p = p.own.about.openings ≡ openings

abbrev pub AllKnow : {C : Type 0} → List (List ℕ) → List (Place (Known C)) → Type 0
AllKnow openings = AllByRecursion (Knows openings)
