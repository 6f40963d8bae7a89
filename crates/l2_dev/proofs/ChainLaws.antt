-- Where an image holds a standing list, a walk begins with that list, whatever stands elsewhere.
use Rattle.std.specs.Prelude.{◌≡◌, ◌≢◌, ℕ, ◌+◌, ◌*◌, ◌≤◌, ◌⊎◌, List, [], ◌∷◌, ◌++◌, length, Option, None, Some}
use Rattle.std.proofs.Common.{inl, inr, refl, sym, ap, subst, ◌∙◌, arith}
use Rattle.std.specs.List.{AllByRecursion}
use Rattle.l2_log.specs.Rules.{log_len}
use Rattle.l2_log.specs.LogBytes.{IsLogBlock, IsFirstLogFault}
use Rattle.l2_log.specs.Values.{same_log_block_of_bytes}
use Rattle.l2_log.proofs.Logs.{log_not_refused}
use Rattle.l2_log.specs.declared.pointer.LogPtr.{LogPtr}
use Rattle.l2_log.specs.declared.log_block.LogBlock.{LogBlock}
use Rattle.l2_log.specs.declared.header.DevHeader.{DevHeader}
use Rattle.l2_log.specs.declared.fault.LogFault.{LogFault}
use Rattle.l2_log.specs.declared.fault.LogFault.TheVariants as fault
use Rattle.l2_ring.specs.Ranges.{Stays}
use Rattle.l2_dev.specs.declared.stop.Stop.{Stop}
use Rattle.l2_dev.specs.declared.stop.Stop.TheVariants as stop
use Rattle.l2_dev.specs.Chain.{Visit, IsStop, IsMisfit, IsBlockFault, IsInRing, IsInPart, IsPassed, IsHeld, IsLinked, pointer_behind, numbers_in, log_range, bytes_at, ring_len}

same_some : (p q : LogPtr) (o : Option LogPtr) → o ≡ Some p → o ≡ Some q → p ≡ q
same_some p q o a b = let e : Some p ≡ Some q = sym a ∙ b in cc

no_some : (p : LogPtr) (o : Option LogPtr) → o ≡ Some p → o ≡ None → ⊥
no_some p o a b = let e : Some p ≡ None = sym a ∙ b in cc

-- a range that lies where its lap asks for lies in a part
in_part : (header : DevHeader) (ptr : LogPtr) (lap : ℕ) → Stays (numbers_in header) (log_range ptr lap) → IsInPart (numbers_in header) ptr
in_part header ptr lap (inl low) = inl record { begins = low.0.begins; ends = low.0.ends }
in_part header ptr lap (inr up) = inr record { begins = up.0.begins; ends = up.0.ends }

no_misfit : (header : DevHeader) (visit : Visit) (block : LogBlock) (f : LogFault) → visit.block ≡ block → IsPassed header visit → IsMisfit header visit.ptr block f → ⊥
no_misfit header visit block (fault.Field at) same passed (inl late) =
    let v = passed.version in let l = late.1 in let e : visit.block.version ≡ block.version = ap (λ (b : LogBlock). b.version) same in omega arith
no_misfit header visit block (fault.Field at) same passed (inr (inl lap)) =
    lap.2 (subst (λ (b : LogBlock). Stays (numbers_in header) (log_range visit.ptr b.lap)) same passed.placed.part)
no_misfit header visit block (fault.Field at) same passed (inr (inr count)) =
    count.3 (ap (λ (b : LogBlock). length b.entries) (sym same) ∙ passed.placed.count)
no_misfit header visit block fault.Magic same passed m = m
no_misfit header visit block fault.Version same passed m = m
no_misfit header visit block (fault.Digest kept found) same passed m = m
no_misfit header visit block (fault.Length len) same passed m = m

-- a log block that is held and passed has no fault
no_fault_of_bytes : (image : List ℕ) (header : DevHeader) (visit : Visit) (f : LogFault) → IsPassed header visit → IsHeld image visit
    → (IsFirstLogFault (bytes_at image visit.ptr.place log_len) f ⊎ ((block : LogBlock) × IsLogBlock (bytes_at image visit.ptr.place log_len) block × IsMisfit header visit.ptr block f)) → ⊥
no_fault_of_bytes image header visit f passed held (inl first) = log_not_refused (bytes_at image visit.ptr.place log_len) visit.block f held.bytes first
no_fault_of_bytes image header visit f passed held (inr misfit) =
    no_misfit header visit misfit.0 f (same_log_block_of_bytes (bytes_at image visit.ptr.place log_len) visit.block misfit.0 held.bytes misfit.1) passed misfit.2

no_block_fault : (image : List ℕ) (header : DevHeader) (visit : Visit) (f : LogFault) → IsPassed header visit → IsHeld image visit
    → IsBlockFault header visit.ptr (bytes_at image visit.ptr.place log_len) f → ⊥
no_block_fault image header visit (fault.Digest kept found) passed held b = b.2 (b.0 ∙ sym held.digest ∙ sym b.1)
no_block_fault image header visit (fault.Field at) passed held b = no_fault_of_bytes image header visit (fault.Field at) passed held b.1
no_block_fault image header visit fault.Magic passed held b = no_fault_of_bytes image header visit fault.Magic passed held b.1
no_block_fault image header visit fault.Version passed held b = no_fault_of_bytes image header visit fault.Version passed held b.1
no_block_fault image header visit (fault.Length len) passed held b = no_fault_of_bytes image header visit (fault.Length len) passed held b.1

-- the walk does not stop at a log block that is held and passed, as long as there is room for it, unless the device failed
goes_on : (image : List ℕ) (header : DevHeader) (walked : ℕ) (pointer : Option LogPtr) (visit : Visit) (why : Stop) → pointer ≡ Some visit.ptr
    → IsPassed header visit → IsHeld image visit → walked + log_len ≤ ring_len header → why ≢ stop.DevFault → IsStop image header walked pointer why → ⊥
goes_on image header walked pointer visit stop.Zero at passed held room well s = no_some visit.ptr pointer at s
goes_on image header walked pointer visit (stop.Outside place) at passed held room well s =
    s.3 (subst (λ (p : LogPtr). IsInRing header.end p) (same_some visit.ptr s.0 pointer at s.1) passed.placed.ring)
goes_on image header walked pointer visit (stop.Evicted place) at passed held room well s =
    s.4 (subst (λ (p : LogPtr). IsInPart (numbers_in header) p) (same_some visit.ptr s.0 pointer at s.1) (in_part header visit.ptr visit.block.lap passed.placed.part))
goes_on image header walked pointer visit (stop.Length bytes) at passed held room well s = let long = s.5 in omega arith
goes_on image header walked pointer visit (stop.Block f) at passed held room well s =
    no_block_fault image header visit f passed held
    (subst (λ (p : LogPtr). IsBlockFault header p (bytes_at image p.place log_len) f) (sym (same_some visit.ptr s.0 pointer at s.1)) s.3)
goes_on image header walked pointer visit stop.DevFault at passed held room well s = well refl
goes_on image header walked pointer visit (stop.Short len) at passed held room well s = s
goes_on image header walked pointer visit (stop.Header f) at passed held room well s = s

same_parts : (v w : Visit) → v.ptr ≡ w.ptr → v.block ≡ w.block → v ≡ w
same_parts v w ptr block =
    ap (λ (p : LogPtr). let u : Visit = record { ptr = p; block = v.block } in u) ptr
    ∙ ap (λ (b : LogBlock). let u : Visit = record { ptr = w.ptr; block = b } in u) block

-- one image holds one log block at a pointer
same_visit : (image : List ℕ) (pointer : Option LogPtr) (v w : Visit) → pointer ≡ Some v.ptr → pointer ≡ Some w.ptr → IsHeld image v → IsHeld image w → v ≡ w
same_visit image pointer v w a b x y =
    let ptr : v.ptr ≡ w.ptr = same_some v.ptr w.ptr pointer a b in
    let there : IsLogBlock (bytes_at image v.ptr.place log_len) w.block = subst (λ (p : LogPtr). IsLogBlock (bytes_at image p.place log_len) w.block) (sym ptr) y.bytes in
    same_parts v w ptr (same_log_block_of_bytes (bytes_at image v.ptr.place log_len) v.block w.block x.bytes there)

-- of two walks over one image from the same pointers, the one that ends for a reason goes as far as the other, whose log
-- blocks pass the tests: it begins with them
pub begins_with : (image : List ℕ) (header : DevHeader) (walked : ℕ) (a b : Option LogPtr) (vs ws : List Visit) (why : Stop)
    → IsLinked a b vs → AllByRecursion (IsPassed header) vs → AllByRecursion (IsHeld image) vs
    → IsLinked a b ws → AllByRecursion (IsHeld image) ws
    → walked + log_len * length vs ≤ log_len * length ws + ring_len header
    → why ≢ stop.DevFault → IsStop image header walked (pointer_behind a b ws) why
    → (rest : List Visit) × (ws ≡ vs ++ rest)
begins_with image header walked a b [] ws why lv pv hv lw hw room well s = (ws, refl)
begins_with image header walked a b (v ∷ vs) [] why lv pv hv lw hw room well s =
    absurd (goes_on image header walked a v why lv.0 pv.0 hv.0 (omega arith) well s)
begins_with image header walked a b (v ∷ vs) (w ∷ ws) why lv pv hv lw hw room well s =
    let same : v ≡ w = same_visit image a v w lv.0 lw.0 hv.0 hw.0 in
    let linked : IsLinked b w.block.prev vs = subst (λ (u : Visit). IsLinked b u.block.prev vs) same lv.1 in
    let rest = begins_with image header walked b w.block.prev vs ws why linked pv.1 hv.1 lw.1 hw.1 (omega arith) well s in
    (rest.0, ap (λ (us : List Visit). w ∷ us) rest.1 ∙ ap (λ (u : Visit). u ∷ vs ++ rest.0) (sym same))

-- behind the first log blocks the walk stands at the pointer to the next
pub linked_next : (a b : Option LogPtr) (vs : List Visit) (w : Visit) (rest : List Visit) → IsLinked a b (vs ++ w ∷ rest) → pointer_behind a b vs ≡ Some w.ptr
linked_next a b [] w rest linked = linked.0
linked_next a b (v ∷ vs) w rest linked = linked_next b v.block.prev vs w rest linked.1
