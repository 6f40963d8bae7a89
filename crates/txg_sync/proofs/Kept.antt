-- What an insertion gave is what a cell keeps of the block.
use Rattle.std.proofs.Common.{◌≡◌, ℕ, List, [], ◌∷◌, false, Option, Some, None, Ok, sym, ap, ◌∙◌, subst}
use Rattle.blk_ptr.specs.Ptr.{IsOf, sha256_of}
use Rattle.blk_ptr.specs.declared.digest.Digest.{Digest}
use Rattle.blk_ptr.specs.declared.key.Key.{Key}
use Rattle.arc_core.specs.declared.config.Config.{Config}
use Rattle.arc_core.specs.declared.event.Event.TheVariants.{Insert}
use Rattle.arc_core.specs.Step.{is_new_here}
use Rattle.arc_table.specs.Both.{Does}
use Rattle.arc_table.specs.scans.Ending.{DoesRoomy}
use Rattle.arc_table.specs.Geometry.{cell_number}
use Rattle.arc_table.specs.Inserting.{AnswersInsert}
use Rattle.arc_table.specs.Telling.{Tells}
use Rattle.arc_table.specs.declared.front.Front.{Front}
use Rattle.arc_table.specs.declared.hold.Hold.{Hold}
use Rattle.arc_table.specs.declared.inserts.Inserted.TheVariants as inserts
use Rattle.dbuf_state.specs.Dbufs.{IsKeptOf}
use Rattle.vdev_io.specs.Pool.{WritesOrRefuses}
use Rattle.dbuf_cells.specs.Kept.{bytes_of, key_of}
use Rattle.dbuf_cells.specs.declared.kept.Kept.{Kept}
use Rattle.dbuf_cells.specs.Turns.{PartyPlace, dbuf_meanings}
use Rattle.dbuf_cells.specs.declared.kept.Kept.TheVariants.{Held, Loose}
use Rattle.txg_sync.specs.Items.{SyncItem, tells_written}
use Rattle.txg_sync.specs.Writing.{IsSealed, KeepsItem}

pub held-keeps : (g : Config) (tick : ℕ) (x : SyncItem) (p q : PartyPlace) (i : ℕ) (key : Key) (block shared : List ℕ) (hold : Hold) → x.due.cell ≡ i → x.bytes ≡ block → x.ptr.key ≡ key → IsSealed x → shared ≡ block
    → AnswersInsert dbuf_meanings g i key shared tick p q (inserts.Held hold) → KeepsItem g tick x (Held hold) p q
held-keeps g tick x p q i key block shared hold cell bytes is sealed same a = (
  subst (λ (k : Key). DoesRoomy dbuf_meanings g k (Insert (cell_number g x.due.cell) k x.ptr.digest tick) p q) (sym is)
      (subst (λ (n : ℕ). DoesRoomy dbuf_meanings g key (Insert (cell_number g n) key x.ptr.digest tick) p q) (sym cell)
      (subst (λ (d : Digest). DoesRoomy dbuf_meanings g key (Insert (cell_number g i) key d tick) p q) (ap sha256_of (same ∙ sym bytes) ∙ sym sealed.digest) a.0)),
  a.1 ∙ sym is,
  a.3 ∙ (same ∙ sym bytes),
)

pub loose-keeps : (g : Config) (tick : ℕ) (x : SyncItem) (p q : PartyPlace) (i : ℕ) (key : Key) (block shared : List ℕ) (front : Front) → x.bytes ≡ block → x.ptr.key ≡ key → AnswersInsert dbuf_meanings g i key shared tick p q (inserts.There front)
    → Does dbuf_meanings g x.ptr.key [] p q × ((front : Front) × Tells (λ s. is_new_here x.ptr.key s ≡ false) g x.ptr.key p q front) × (key ≡ x.ptr.key) × (block ≡ x.bytes)
loose-keeps g tick x p q i key block shared front bytes is a = (
  subst (λ (k : Key). Does dbuf_meanings g k [] p q) (sym is) a.0,
  (front, subst (λ (k : Key). Tells (λ s. is_new_here k s ≡ false) g k p q front) (sym is) a.1),
  sym is,
  sym bytes,
)

-- it is of the block's pointer
pub kept-of : (g : Config) (tick : ℕ) (x : SyncItem) (kept : Kept) (p q : PartyPlace) → IsSealed x → KeepsItem g tick x kept p q → IsKeptOf key_of bytes_of kept x.ptr
kept-of g tick x (Held hold) p q sealed k = record { key = k.1; bytes = subst (λ (l : List ℕ). IsOf l x.ptr) (sym k.2) record { size = sym sealed.size; digest = sym sealed.digest } }
kept-of g tick x (Loose key block) p q sealed k = record { key = k.2; bytes = subst (λ (l : List ℕ). IsOf l x.ptr) (sym k.3) record { size = sym sealed.size; digest = sym sealed.digest } }

-- what a pool tells behind a write that was done
pub wrote-told : {T : Type 0} (x : SyncItem) (old new : Option (List ℕ)) (value : T) → WritesOrRefuses x.ptr.key.offset x.bytes old new (Ok value) → new ≡ tells_written (x ∷ []) old
wrote-told x None new value w = w
wrote-told x (Some old) None value w = absurd w
wrote-told x (Some old) (Some new) value w = ap (λ (l : List ℕ). let v : Option (List ℕ) = Some l in v) w
