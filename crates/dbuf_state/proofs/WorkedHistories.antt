-- Worked histories, computed from the definitions alone.
use Rattle.std.proofs.Common.{ℕ, ◌*◌, List, [], ◌∷◌, map, refl, true}
use Rattle.blk_ptr.specs.declared.ptr.Ptr.{Ptr}
use Rattle.blk_ptr.specs.Ptr.{IsOf}
use Rattle.dbuf_state.specs.declared.event.CellEvent.{CellEvent}
use Rattle.dbuf_state.specs.declared.event.CellEvent.TheVariants.{Get, Patch, Load, Evict, End}
use Rattle.dbuf_state.specs.declared.oid.Oid.{Oid}
use Rattle.dbuf_state.specs.declared.state.Mapping.{Mapping}
use Rattle.dbuf_state.specs.Objects.{Block, Dirty, Uncached, PlainCell, opening_cell, patched, Must, Never}
use Rattle.dbuf_state.specs.History.{Leads}

abbrev oid : ℕ → ℕ → Oid
oid object block = record { object = object; block = block }

abbrev ptr : ℕ → Ptr
ptr i = record { key = record { offset = 512 * i; size = 512; birth = 1 }; digest = record { 0 = 0 ∷ [] } }

abbrev mapping : ℕ → Mapping
mapping i = record { at = oid 7 i; ptr = ptr i }

abbrev blocks : PlainCell → List Block
blocks c = map (λ d. d.block) c.dbufs

-- two blocks under a limit of one, read in turn: each load puts the other out
abbrev turns : List CellEvent
turns = Load 0 (oid 7 0) true ∷ (Get 0 (oid 7 0) ∷ (Load 0 (oid 7 1) true ∷ (Get 0 (oid 7 1) ∷ (Evict 0 (oid 7 0) ∷ (Load 0 (oid 7 0) true ∷ (Get 0 (oid 7 0) ∷ (Evict 0 (oid 7 1) ∷ (End 1 ∷ []))))))))

abbrev turns_end : PlainCell
turns_end = record {
  limit = 512;
  dbufs = record { at = oid 7 0; block = Uncached (ptr 0); pins = []; used = 7 } ∷ (record { at = oid 7 1; block = Uncached (ptr 1); pins = []; used = 4 } ∷ []);
  events = 9;
  evicting = Never;
}

two_in_turn : Leads (opening_cell 512 (mapping 0 ∷ (mapping 1 ∷ []))) turns [] turns_end
two_in_turn = (refl, ([], [], refl, tt, (refl, ([], [], refl, tt, (refl, ([], [], refl, tt, (refl, ([], [], refl, tt, (refl, ([], [], refl, tt, (refl, ([], [], refl, tt, (refl, ([], [], refl, tt, (refl, ([], [], refl, tt, (refl, ([], [], refl, tt, (refl, refl)))))))))))))))))))

-- a block is read, patched and read again: the patch makes it dirty, and no event tells the bytes that it starts from
abbrev edits : List CellEvent
edits = Load 0 (oid 7 0) true ∷ (Get 0 (oid 7 0) ∷ (Patch 0 (oid 7 0) 0 (255 ∷ []) ∷ (Get 0 (oid 7 0) ∷ [])))

abbrev edits_end : List ℕ → PlainCell
edits_end base = record {
  limit = 4096;
  dbufs = record { at = oid 7 0; block = Dirty (patched 0 (255 ∷ []) base); pins = []; used = 4 } ∷ [];
  events = 4;
  evicting = Must;
}

one_patched : (base : List ℕ) → IsOf base (ptr 0) → Leads (opening_cell 4096 (mapping 0 ∷ [])) edits (base ∷ []) (edits_end base)
one_patched base of = (refl, ([], base ∷ [], refl, tt, (refl, ([], base ∷ [], refl, tt, (refl, (base, [], refl, of, (refl, ([], [], refl, tt, (refl, refl)))))))))
