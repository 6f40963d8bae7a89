-- The second turn of a load: what was read is the cell's, or it was given back.
use Rattle.std.proofs.Common.{◌≡◌, ℕ, IsTrue, List, [], refl, sym, ap, ◌∙◌, subst}
use Rattle.blk_ptr.specs.declared.ptr.Ptr.{Ptr}
use Rattle.turn_table.specs.Board.{IsAmong}
use Rattle.arc_table.specs.Cache.{Cache}
use Rattle.arc_table.specs.Geometry.{cell_number}
use Rattle.arc_table.specs.Fronts.{list_at}
use Rattle.arc_table.specs.Looking.{HasNoLook}
use Rattle.arc_table.specs.declared.read.Read.{Read}
use Rattle.arc_table.proofs.Afterwards.{stays_party}
use Rattle.dbuf_state.specs.CellLog.{CellLog}
use Rattle.dbuf_state.specs.Dbufs.{dbuf_oid}
use Rattle.dbuf_state.specs.Numbers.{claims_in}
use Rattle.dbuf_state.specs.Oids.{is_distinct}
use Rattle.dbuf_state.specs.declared.dbuf.Dbuf.{Dbuf}
use Rattle.dbuf_state.specs.declared.fault.DbufFault.TheVariants as fault
use Rattle.dbuf_state.specs.declared.oid.Oid.{Oid}
use Rattle.dbuf_cells.specs.Bringing.{DropsRead, handed, is_some_made}
use Rattle.dbuf_cells.specs.InHand.{AsTaken, ClaimsAre, Gives, HasGiven, MayGive}
use Rattle.dbuf_cells.specs.Loading.{AreHeldBut, AreUnclaimed, EndsKept, EndsUnkept, HasUnread, IsBroughtBy, IsReadOf, Keeps, SomeTaken, other_claims}
use Rattle.dbuf_cells.specs.Turns.{OnHeap, PartyPlace}
use Rattle.dbuf_cells.specs.declared.kept.Kept.{Kept}
use Rattle.dbuf_cells.proofs.Bringings.{brought-clean, drops-claims, drops-stays, in-outline, mapped-clean, read-still}
use Rattle.dbuf_cells.proofs.Claims.{loses-others}
use Rattle.dbuf_cells.proofs.Loads.{is-unmarked}
use Rattle.dbuf_cells.proofs.PartySteps.{as-given, as-may-give}

-- who holds no turn has no open look
pub no-look : (cache : Cache) (p : PartyPlace) → p.held ≡ [] → HasNoLook cache p
no-look cache p free j among = absurd (subst (IsAmong j) free among)

module _ (cache : Cache) (i : ℕ) (at : Oid) (ptr : Ptr) (read : Read) (p : PartyPlace) (mid : OnHeap) (q : PartyPlace) (old : CellLog Kept) (same : old ≡ mid.value) (t : AsTaken cache i p mid mid.value q)
    (brought : IsBroughtBy q.number at ptr mid.value.dbufs) (claimed : ClaimsAre i q.number mid.value p) where
  taken-old : AsTaken cache i p mid old q
  taken-old = subst (λ (x : CellLog Kept). AsTaken cache i p mid x q) (sym same) t

  pub some-old : SomeTaken cache i old q
  some-old = (p, mid, taken-old)

  pub brought-old : IsBroughtBy q.number at ptr old.dbufs
  brought-old = subst (λ (x : CellLog Kept). IsBroughtBy q.number at ptr x.dbufs) (sym same) brought

  -- what is claimed is what was claimed of the cell as it was taken
  unclaimed-mid : (ds : List (Dbuf Kept)) → AreUnclaimed at old.dbufs ds → AreUnclaimed at mid.value.dbufs ds
  unclaimed-mid ds lost n = lost n ∙ ap (λ (x : CellLog Kept). other_claims at (claims_in n x.dbufs)) same

  pub ends-kept : (cell : OnHeap) (r : PartyPlace) → Keeps cache i at ptr read old cell.value q r → AreUnclaimed at old.dbufs cell.value.dbufs → AreHeldBut at (is_some_made (handed q.number (cell_number cache.config i) read)) old.dbufs cell.value.dbufs → EndsKept cache i at ptr read p cell r
  ends-kept cell r keeps lost held = record {
    mid = mid;
    pointer = in-outline mid at ∙ mapped-clean at ptr mid.value.dbufs (brought-clean q.number at ptr mid.value.dbufs brought);
    brought = subst (λ (n : ℕ). IsBroughtBy n at ptr mid.value.dbufs) t.hand.party.number brought;
    kept = keeps p mid taken-old;
    held = subst (λ (n : ℕ). AreHeldBut at (is_some_made (handed n (cell_number cache.config i) read)) mid.value.dbufs cell.value.dbufs) t.hand.party.number
        (subst (λ (x : CellLog Kept). AreHeldBut at (is_some_made (handed q.number (cell_number cache.config i) read)) x.dbufs cell.value.dbufs) same held);
    claimed = subst (λ (n : ℕ). ClaimsAre i n mid.value p) (t.hand.party.number ∙ sym (keeps p mid taken-old).hand.party.number) claimed;
    unclaimed = unclaimed-mid cell.value.dbufs lost;
  }

  module _ (back : Read) (now : CellLog Kept) (r : PartyPlace) (u : HasUnread cache i at ptr read back old now q r) where
    unread-taken : AsTaken cache i p mid now r
    unread-taken = u.taken p mid taken-old

    pub unread-may-give : MayGive cache i now r
    unread-may-give = as-may-give cache i p mid now r unread-taken

    module _ (s : PartyPlace) (gives : Gives cache i now r s) where
      pub unread-given : HasGiven cache i p mid [] [] s
      unread-given = as-given cache i p mid now r unread-taken s gives

      pub unread-read : s.own.ledger.holds ≡ r.own.ledger.holds → IsReadOf ptr s back
      unread-read holds = read-still ptr r s back (unread-given.number ∙ sym unread-taken.hand.party.number) holds u.of

      given-number : s.number ≡ q.number
      given-number = unread-given.number ∙ sym t.hand.party.number

      pub ends-unkept : IsTrue (is_distinct dbuf_oid now.dbufs) → ClaimsAre i s.number now s → AreUnclaimed at old.dbufs now.dbufs → (e : PartyPlace) → DropsRead cache.config back s e → EndsUnkept cache i at read p fault.NoMemory e
      ends-unkept once claims lost e drops =
          let same-list = drops-claims cache.config unread-taken.hand.party.valid back s e unread-given.party.config drops in
          let stays = drops-stays cache.config unread-taken.hand.party.valid back s e unread-given.party.config drops in
          record {
            mid = mid;
            free = s;
            given = unread-given;
            unmarked = is-unmarked i s.number at now s once claims u.uncached;
            drops = subst (λ (x : Read). DropsRead cache.config x s e) u.same drops;
            is = refl;
            party = stays_party cache s e stays unread-given.party;
            held = stays.held ∙ unread-given.held;
            number = stays.number ∙ unread-given.number;
            others = λ ms listed. ap (list_at i) same-list ∙ loses-others i q.number s.number at mid.value.dbufs now.dbufs p s claimed claims given-number (unclaimed-mid now.dbufs lost) ms listed;
            elsewhere = λ j far. ap (list_at j) same-list ∙ unread-given.others j far;
          }
