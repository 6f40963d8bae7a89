-- A cell notes that one of its blocks was written, and keeps what has the block's bytes.
use Rattle.std.proofs.Common.{◌≡◌, ℕ, ◌+◌, not, IsTrue, List, [], ◌∷◌, ◌++◌, cond, Option, Some, None, refl, sym, ap, ◌∙◌, subst, inl, inr, ⊎_elim, arith}
use Rattle.std.specs.Prelude.{option_map}
use mathlib.Core.Option.{some-ne-none}
use Rattle.blk_ptr.specs.Order.{key_eq}
use Rattle.blk_ptr.specs.Ptr.{IsOf}
use Rattle.blk_ptr.specs.declared.key.Key.{Key}
use Rattle.blk_ptr.specs.declared.ptr.Ptr.{Ptr}
use Rattle.arc_core.specs.Keeps.{holds_on}
use Rattle.arc_table.specs.Giving.{AreHolds}
use Rattle.arc_table.specs.Holding.{IsOneOf, ptr_of}
use Rattle.arc_table.proofs.Bookings.{holds_cons}
use Rattle.dbuf_state.specs.CellLog.{CellLog, noted}
use Rattle.dbuf_state.specs.Dbufs.{DbufHas, cached_with, dbuf_at, plain_block, plain_dbuf, synced_to, with_dbuf}
use Rattle.dbuf_state.specs.Numbers.{claim_in, claims_in}
use Rattle.dbuf_state.specs.Objects.{Evicting, IsLegal, IsWritten, IsWrittenAt, Never, is_due}
use Rattle.dbuf_state.specs.Oids.{oid_eq}
use Rattle.dbuf_state.specs.Soundness.{hold_in, holds_in, plain_cell}
use Rattle.dbuf_state.specs.declared.dbuf.Content.{Content}
use Rattle.dbuf_state.specs.declared.dbuf.Content.TheVariants.{Dirty}
use Rattle.dbuf_state.specs.declared.dbuf.Dbuf.{Dbuf}
use Rattle.dbuf_state.specs.declared.event.CellEvent.{CellEvent}
use Rattle.dbuf_state.specs.declared.event.CellEvent.TheVariants.{Synced}
use Rattle.dbuf_state.specs.declared.oid.Oid.{Oid}
use Rattle.dbuf_state.proofs.HandLemmas.{claims-stay, plain-dbuf-is, rest-stays}
use Rattle.dbuf_state.proofs.IndexLemmas.{bool_cases}
use Rattle.dbuf_state.proofs.StepLemmas.{synced-follows}
use Rattle.dbuf_cells.specs.InHand.{HasDone}
use Rattle.dbuf_cells.specs.Kept.{bytes_of, is_held, key_of}
use Rattle.dbuf_cells.specs.declared.kept.Kept.{Kept}
use Rattle.dbuf_cells.specs.declared.kept.Kept.TheVariants.{Held, Loose}
use Rattle.dbuf_cells.proofs.CellSteps.{done-more}
use Rattle.dbuf_cells.proofs.Evictions.{has-of}
use Rattle.dbuf_cells.proofs.HoldLists.{first-or-later, one-more}
use Rattle.dbuf_cells.proofs.Loads.{put-among, put-count}
use Rattle.dbuf_state.proofs.HeldLemmas.{held-set}

nothing : (x : Ptr) → IsOneOf x [] → ⊥
nothing x one = some-ne-none x (sym one.1)

-- ---- the holds

-- what the dbufs hold goes by what they keep
same-holds : (at : Oid) (ptr : Ptr) (k : Kept) (ds : List (Dbuf Kept)) → holds_in key_of bytes_of is_held (with_dbuf at (synced_to ptr k) ds) ≡ holds_in key_of bytes_of is_held (with_dbuf at (cached_with k) ds)
same-holds at ptr k [] = refl
same-holds at ptr k (d ∷ ds) = elim (bool_cases (oid_eq at d.at)) [
  | inl here ↦ rw here refl
  | inr far ↦ rw far (ap (λ (l : List Ptr). hold_in key_of bytes_of is_held d.kept ++ l) (same-holds at ptr k ds))
]

module _ (at : Oid) (ds : List (Dbuf Kept)) (d : Dbuf Kept) (found : dbuf_at at ds ≡ Some d) (none : d.kept ≡ None) (listed : List Ptr) (are : AreHolds (holds_in key_of bytes_of is_held ds) listed) where
  one-of : (x : Ptr) (j : Key) → holds_on j (x ∷ []) ≡ cond (key_eq j x.key) 1 0
  one-of x j = let a = holds_cons j x [] in let z : holds_on j [] ≡ 0 = refl in omega arith

  kept-more : (k : Kept) → AreHolds (holds_in key_of bytes_of is_held (with_dbuf at (cached_with k) ds)) (hold_in key_of bytes_of is_held (Some k) ++ listed)
  kept-more (Held hold) = one-more (ptr_of hold) (holds_in key_of bytes_of is_held ds) (holds_in key_of bytes_of is_held (with_dbuf at (cached_with (Held hold)) ds)) listed are
      (λ j. put-count at (Held hold) ds d found none j ∙ ap (λ (n : ℕ). n + holds_on j (holds_in key_of bytes_of is_held ds)) (one-of (ptr_of hold) j))
      (λ x one. ⊎_elim (λ mine. ⊎_elim (λ is. inl is) (λ no. absurd (nothing x no)) (first-or-later x (ptr_of hold) [] mine)) (λ rest. inr rest) (put-among at (Held hold) x ds one))
  kept-more (Loose key block) = record {
    count = λ j.
        let a = put-count at (Loose key block) ds d found none j in
        let b : holds_on j (hold_in key_of bytes_of is_held (Some (Loose key block))) ≡ 0 = refl in
        let c = are.count j in
        omega arith;
    among = λ j x at'. ⊎_elim (λ mine. absurd (nothing x mine)) (λ one. are.among one.0 x one.1) (put-among at (Loose key block) x ds (j, at'));
  }

  pub synced-holds : (ptr : Ptr) (k : Kept) (tick : ℕ) → AreHolds (holds_in key_of bytes_of is_held (with_dbuf at (synced_to ptr k) ds)) (hold_in key_of bytes_of is_held (Some k) ++ listed)
  synced-holds ptr k tick = subst (λ (l : List Ptr). AreHolds l (hold_in key_of bytes_of is_held (Some k) ++ listed)) (sym (same-holds at ptr k ds)) (kept-more k)

-- ---- the history

module _ (n : ℕ) (before old : CellLog Kept) (evicting : Evicting) (news : List CellEvent) (h : HasDone n before evicting news old) (settled : IsTrue (not (is_due (plain_cell evicting old))))
    (at : Oid) (ptr : Ptr) (k : Kept) (bytes : List ℕ) (dirty : DbufHas (λ d. d.content ≡ Dirty bytes) (dbuf_at at old.dbufs)) (of : IsOf bytes ptr) where
  written : IsLegal (plain_cell evicting old) (Synced n at ptr (is_held k))
  written = (settled, subst (IsWrittenAt ptr) (sym (plain-dbuf-is evicting old at)) (go (dbuf_at at old.dbufs) dirty))
    where
      go : (o : Option (Dbuf Kept)) → DbufHas (λ d. d.content ≡ Dirty bytes) o → IsWrittenAt ptr (option_map plain_dbuf o)
      go None b = absurd b
      go (Some d) b = subst (λ (c : Content). IsWritten ptr (plain_block c d.state)) (sym b) of

  pub done-synced : HasDone n before Never (news ++ Synced n at ptr (is_held k) ∷ []) (noted (Synced n at ptr (is_held k)) (record old { dbufs = with_dbuf at (synced_to ptr k) old.dbufs }))
  done-synced = done-more n before old evicting news h (Synced n at ptr (is_held k)) [] (with_dbuf at (synced_to ptr k) old.dbufs) written tt (synced-follows old n at ptr (is_held k) k) refl
      (rest-stays at (synced_to ptr k) old.dbufs (λ d found. refl) h.rest)
      (λ m other. claims-stay at (synced_to ptr k) m old.dbufs (λ d found. sym (ap (λ (c : Content). claim_in m d.at c d.state) (has-of (λ x. x.content ≡ Dirty bytes) (dbuf_at at old.dbufs) d dirty found))))
      (held-set is_held at (synced_to ptr k) (λ d. refl) (is_held k) (λ d. refl) (λ d. d.content ≡ Dirty bytes) old.dbufs dirty)

  -- what is claimed of the cell stays
  pub synced-claims : (m : ℕ) → claims_in m (with_dbuf at (synced_to ptr k) old.dbufs) ≡ claims_in m old.dbufs
  synced-claims m = claims-stay at (synced_to ptr k) m old.dbufs (λ d found. sym (ap (λ (c : Content). claim_in m d.at c d.state) (has-of (λ x. x.content ≡ Dirty bytes) (dbuf_at at old.dbufs) d dirty found)))
