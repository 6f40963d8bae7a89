-- What is so of a cell in hand whose pin is taken back.
use Rattle.std.proofs.Common.{◌≡◌, ℕ, ◌-◌, ◌≤◌, true, false, [], ◌∷◌, length, refl, ap, ◌∙◌, subst, sym, arith, ◌+◌, Some}
use Rattle.arc_table.specs.Cache.{Cache}
use Rattle.dbuf_state.specs.CellLog.{CellLog}
use Rattle.dbuf_state.specs.Dbufs.{dbuf_is, unpinned_by, with_dbuf}
use Rattle.dbuf_state.specs.Objects.{Must}
use Rattle.dbuf_state.specs.Outline.{has_pin_at}
use Rattle.dbuf_state.specs.Pins.{has_pin}
use Rattle.dbuf_state.specs.declared.event.CellEvent.TheVariants.{Unpin}
use Rattle.dbuf_state.specs.declared.fault.DbufFault.{DbufFault}
use Rattle.dbuf_state.specs.declared.fault.DbufFault.TheVariants as fault
use Rattle.dbuf_state.specs.declared.oid.Oid.{Oid}
use Rattle.dbuf_cells.specs.InHand.{AsTaken, Finishes, Gives, HasFinished, HasGiven, HoldsStay, InHand, IsNotUnpinned, IsRoomier, IsUnpinned, MayEvict, MayGive, TakesAtRest, AreClaimedAlike}
use Rattle.dbuf_cells.specs.Turns.{OnHeap, Operates, PartyPlace, held_in, outline_in}
use Rattle.dbuf_cells.specs.Unholding.{NotUnholds}
use Rattle.dbuf_cells.specs.declared.kept.Kept.{Kept}
use Rattle.dbuf_cells.proofs.CellSteps.{length-change}
use Rattle.dbuf_cells.proofs.Holders.{stays-noted, stays-roomy, stays-same, stays-then}
use Rattle.dbuf_cells.proofs.Operations.{as-taken-room, hand-unpin, no-pin, operates}
use Rattle.dbuf_cells.proofs.PartySteps.{as-given, as-may-give}
use Rattle.dbuf_state.specs.Numbers.{claims_in}
use Rattle.dbuf_state.proofs.HandLemmas.{claims-stay, claims-stay-by-note}

module _ (cache : Cache) (i : ℕ) (at : Oid) (p : PartyPlace) (before : OnHeap) (q : PartyPlace) (t : TakesAtRest cache i at p before q) where
  pub number-is : q.number ≡ t.ready.number
  number-is = t.begins.hand.party.number

  -- a cell with more room is as it was taken
  pub at-room : (c : CellLog Kept) → IsRoomier before.value c → AsTaken cache i t.ready before c q
  at-room c log = as-taken-room cache i t.ready before before.value c q t.begins log

  pub room-gives : (c : CellLog Kept) → IsRoomier before.value c → MayGive cache i c q
  room-gives c log = as-may-give cache i t.ready before c q (at-room c log)

  pub room-given : (c : CellLog Kept) (r : PartyPlace) → IsRoomier before.value c → Gives cache i c q r → HasGiven cache i t.ready before [] [] r
  room-given c r log gives = as-given cache i t.ready before c q (at-room c log) r gives

module _ (cache : Cache) (i : ℕ) (at : Oid) (p : PartyPlace) (before : OnHeap) (q : PartyPlace) (t : TakesAtRest cache i at p before q) (n : ℕ) (who : n ≡ q.number) where
  -- why no pin was taken back
  pub not-unpinned : (why : DbufFault) (r : PartyPlace) → IsNotUnpinned n at before.value why → HasGiven cache i t.ready before [] [] r → NotUnholds cache.config i at before t.ready r why
  not-unpinned (fault.NoPin named) r told given = (told.0, given.turn, subst (λ (m : ℕ). has_pin_at m at (outline_in before) ≡ false) (who ∙ number-is cache i at p before q t) (no-pin before n at told.1))
  not-unpinned fault.NoMemory r told given = given.turn
  not-unpinned (fault.NoBlock named) r told given = absurd told
  not-unpinned (fault.Range end size) r told given = absurd told
  not-unpinned (fault.Read cause) r told given = absurd told

  pub unpins : (c : CellLog Kept) → IsUnpinned n at before.value c → InHand cache i t.ready before Must (Unpin t.ready.number at ∷ []) [] c q
  unpins c u =
      let a = at-room cache i at p before q t u.roomy u.made in
      let has : dbuf_is (λ d. has_pin n d.pins) at u.roomy.dbufs ≡ true = ap (λ (x : CellLog Kept). dbuf_is (λ d. has_pin n d.pins) at x.dbufs) u.made ∙ u.pinned in
      subst (λ (m : ℕ). InHand cache i t.ready before Must (Unpin m at ∷ []) [] c q) (who ∙ number-is cache i at p before q t)
      (hand-unpin cache i t.ready before a.evicting [] [] u.roomy q a.hand n at c who u.noted_is a.settled has)

  pub unpin-evicts : (c : CellLog Kept) → IsUnpinned n at before.value c → MayEvict cache i c q
  unpin-evicts c u = record { from = t.ready; before = before; evicting = Must; news = Unpin t.ready.number at ∷ []; es = []; hand = unpins c u; may = refl }

  pub unpin-finished : (c : CellLog Kept) (r : PartyPlace) → IsUnpinned n at before.value c → Finishes cache i c q r → HasFinished cache i t.ready before Must (Unpin t.ready.number at ∷ []) [] c q r
  unpin-finished c r u finishes = finishes t.ready before Must (Unpin t.ready.number at ∷ []) [] refl (unpins c u)

  pub unpin-operates : (c : CellLog Kept) (r : PartyPlace) → IsUnpinned n at before.value c → Finishes cache i c q r → Operates cache.config i before (held_in before) (Unpin t.ready.number at ∷ []) [] t.ready r
  unpin-operates c r u finishes = operates cache i t.ready before Must (Unpin t.ready.number at ∷ []) [] c q (unpins c u) (held_in before) (λ b on. (stay b on).1) r (unpin-finished c r u finishes)
    where
      stay : HoldsStay before.value.dbufs c.dbufs
      stay = subst (λ (x : CellLog Kept). HoldsStay before.value.dbufs x.dbufs) (sym u.noted_is)
          (stays-noted (Unpin n at) (record u.roomy { dbufs = with_dbuf at (unpinned_by n) u.roomy.dbufs }) before.value.dbufs
          (stays-then before.value.dbufs u.roomy.dbufs (with_dbuf at (unpinned_by n) u.roomy.dbufs) (stays-roomy before.value u.roomy u.made) (stays-same at (unpinned_by n) (λ d. refl) (λ d. refl) (λ d. refl) u.roomy.dbufs)))

-- a cell has room for the evictions behind its event
pub unpin-room : (n : ℕ) (at : Oid) (old c : CellLog Kept) → IsUnpinned n at old c → length c.dbufs ≤ c.event_room
unpin-room n at old c u =
    let a : length c.dbufs ≡ length (with_dbuf at (unpinned_by n) u.roomy.dbufs) = ap (λ (x : CellLog Kept). length x.dbufs) u.noted_is ∙ length-change at _ (with_dbuf at (unpinned_by n) u.roomy.dbufs) in
    let b : length (with_dbuf at (unpinned_by n) u.roomy.dbufs) ≡ length u.roomy.dbufs = length-change at (unpinned_by n) u.roomy.dbufs in
    let d : length u.roomy.dbufs ≡ length old.dbufs = ap (λ (x : CellLog Kept). length x.dbufs) u.made in
    let e : c.event_room ≡ u.roomy.event_room - 1 = ap (λ (x : CellLog Kept). x.event_room) u.noted_is in
    let f = u.room in
    omega arith

-- what is claimed stays
pub unpin-claims : (n : ℕ) (at : Oid) (old c : CellLog Kept) → IsUnpinned n at old c → AreClaimedAlike old.dbufs c.dbufs
unpin-claims n at old c u k =
    ap (λ (x : CellLog Kept). claims_in k x.dbufs) u.noted_is
    ∙ (claims-stay-by-note k (length u.roomy.history + 1) (Some at) (with_dbuf at (unpinned_by n) u.roomy.dbufs)
    ∙ (claims-stay at (unpinned_by n) k u.roomy.dbufs (λ d found. refl) ∙ ap (λ (x : CellLog Kept). claims_in k x.dbufs) u.made))
