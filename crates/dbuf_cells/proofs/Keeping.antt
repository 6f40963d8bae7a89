-- What a read gave becomes the cell's to keep, and the Load is noted.
use Rattle.std.proofs.Common.{◌≡◌, ◌≢◌, ◌==◌, ℕ, ◌+◌, Bool, true, false, if◌then◌else◌, List, [], ◌∷◌, length, cond, Option, Some, None, refl, sym, ap, ◌∙◌, subst, inl, inr, ⊎_elim, eq-eqb, ne_eqb, arith}
use Rattle.std.specs.Prelude.{Ok, Err, option_and_then}
use mathlib.Core.Option.{some-ne-none}
use Rattle.std.specs.List.{AllByRecursion}
use Rattle.std.specs.Option.{option_map_or}
use Rattle.blk_ptr.specs.Order.{key_eq}
use Rattle.blk_ptr.specs.Ptr.{IsOf, sha256_of}
use Rattle.blk_ptr.specs.declared.digest.Digest.{Digest}
use Rattle.blk_ptr.specs.declared.key.Key.{Key}
use Rattle.blk_ptr.specs.declared.ptr.Ptr.{Ptr}
use Rattle.arc_core.specs.Keeps.{holds_on}
use Rattle.arc_core.specs.declared.config.Config.{Config}
use Rattle.arc_core.specs.declared.entry.Entry.{Entry}
use Rattle.arc_core.specs.declared.event.Event.{Event}
use Rattle.arc_core.specs.declared.event.Event.TheVariants.{Drop, Hand}
use Rattle.arc_core.specs.declared.served.Served.{Served}
use Rattle.arc_table.specs.Booking.{digest_at, with_hold, without_hold}
use Rattle.arc_table.specs.Both.{Does}
use Rattle.arc_table.specs.Cache.{Cache}
use Rattle.arc_table.specs.Fronts.{list_at}
use Rattle.arc_table.specs.Geometry.{cell_number}
use Rattle.arc_table.specs.Giving.{AreHolds}
use Rattle.arc_table.specs.Handing.{AnswersHand}
use Rattle.arc_table.specs.Holding.{IsHeld, IsHoldOf, IsOneOf, own, ptr_of}
use Rattle.arc_table.specs.declared.hold.Hold.{Hold}
use Rattle.arc_table.specs.declared.read.Read.{Read}
use Rattle.arc_table.specs.declared.read.Read.TheVariants as gave
use Rattle.arc_table.specs.declared.view.Ledger.{Ledger}
use Rattle.arc_table.proofs.Afterwards.{does_ledger, does_stays}
use Rattle.arc_table.proofs.Bookings.{holds_cons}
use Rattle.arc_table.proofs.cell_lemmas.CellsInHand.{cell-lists}
use Rattle.arc_table.proofs.Reached.{holding, listed_still, number_below, reached}
use Rattle.dbuf_state.specs.CellLog.{CellLog, noted}
use Rattle.dbuf_state.specs.Dbufs.{DbufHas, IsFit, IsKeptOf, IsOfContent, cached_with, dbuf_at, dbuf_is, plain_block, plain_dbuf, unread, used_at, with_dbuf}
use Rattle.dbuf_state.specs.Numbers.{claim_in}
use Rattle.dbuf_state.specs.Objects.{IsLegal, May}
use Rattle.dbuf_state.specs.Objects as plain
use Rattle.dbuf_state.specs.Oids.{oid_eq}
use Rattle.dbuf_state.specs.Soundness.{hold_in, holds_in, plain_cell}
use Rattle.dbuf_state.specs.declared.dbuf.Content.TheVariants.{Clean}
use Rattle.dbuf_state.specs.declared.dbuf.Dbuf.{Dbuf}
use Rattle.dbuf_state.specs.declared.event.CellEvent.TheVariants.{Load}
use Rattle.dbuf_state.specs.declared.oid.Oid.{Oid}
use Rattle.dbuf_state.specs.declared.state.DbState.TheVariants as state
use Rattle.dbuf_state.proofs.FitLemmas.{all-found, from-has}
use Rattle.dbuf_state.proofs.HandLemmas.{claims-stay, holds-stay-by-note, rest-stays}
use Rattle.dbuf_state.proofs.IndexLemmas.{and-both, bool_cases}
use Rattle.dbuf_state.proofs.StepLemmas.{load-follows}
use Rattle.dbuf_cells.specs.Bringing.{DropsRead, handed, is_some_made, gives_hold}
use Rattle.dbuf_cells.specs.InHand.{AsTaken, HasDone, HasTaken, InHand, IsRoomier}
use Rattle.dbuf_cells.specs.Kept.{bytes_of, is_held, key_of}
use Rattle.dbuf_cells.specs.Loading.{AreHeldBut, HandsOn, HasUnread, IsBroughtBy, IsLoaded, IsReadOf, Keeps, SomeTaken}
use Rattle.dbuf_cells.specs.Turns.{OnHeap, PartyPlace, dbuf_meanings, held_at, holds_of}
use Rattle.dbuf_cells.specs.declared.kept.Kept.{Kept}
use Rattle.dbuf_cells.specs.declared.kept.Kept.TheVariants.{Held, Loose}
use Rattle.dbuf_cells.proofs.CellSteps.{done-more}
use Rattle.dbuf_cells.proofs.Evictions.{has-of, is-dbuf}
use Rattle.dbuf_cells.proofs.Holders.{held-touched, held-with}
use Rattle.dbuf_cells.proofs.HoldLists.{first-or-later, one-more}
use Rattle.dbuf_cells.proofs.Loads.{cached-claim, others-mark, put-among, put-count, is-reading, is-unread, reads-nothing, unmarked-as}
use Rattle.dbuf_cells.proofs.Operations.{as-taken-room, plain-test}
use Rattle.dbuf_cells.proofs.PartySteps.{among-held, taken-looks, taken-more}
use Rattle.dbuf_state.proofs.HeldLemmas.{held-set}

nothing : (x : Ptr) → IsOneOf x [] → ⊥
nothing x one = some-ne-none x (sym one.1)

-- ---- the hold that is handed on

module _ (cache : Cache) (i : ℕ) (p : PartyPlace) (before : OnHeap) (es : List Event) (q r : PartyPlace) (h : HasTaken cache i p before es q) where
  -- what is listed for the cell behind a hand
  pub hand-lists : (hold : Hold) → IsOneOf (ptr_of hold) q.own.ledger.holds → (d : Does dbuf_meanings cache.config hold.key (Hand q.number hold.key (cell_number cache.config i) ∷ []) q r)
      → list_at i r.own.listed ≡ ptr_of hold ∷ list_at i q.own.listed
  hand-lists hold one d =
      let c = cell_number cache.config i in
      let k = hold.key in
      let s = d.before.now in
      let hs = list_at i q.own.listed in
      let kept = reached dbuf_meanings cache.config k d.chain d.before q d.reached d.takes in
      let few = number_below dbuf_meanings cache.config k d.chain d.before q d.reached d.takes h.party.config h.valid in
      let number : d.reached.number ≡ q.number = kept.number in
      let apart : c ≢ q.number = λ is. absurd (omega arith) in
      let e = holding dbuf_meanings cache.config k d.chain d.before q d.reached d.takes h.party.config h.valid q.number (ptr_of hold) refl
      (listed_still dbuf_meanings cache.config k d.chain d.before q d.reached d.takes h.party.config h.valid q.number (ptr_of hold) (own refl one)) in
      let digest : digest_at k s ≡ Some (ptr_of hold).digest = ap (λ (o : Option Entry). option_and_then (λ e. e.digest) o) e.there ∙ e.digest in
      cell-lists dbuf_meanings cache.config h.valid k (Hand q.number k c ∷ []) q r h.party.config d i h.cell (among-held cache i p before es q r h)
      ∙ (ap (λ (b : Bool). let left = if b then without_hold k hs else hs in if c == c then with_hold k (digest_at k s) left else left) (ne_eqb c q.number apart)
      ∙ (ap (λ (b : Bool). if b then with_hold k (digest_at k s) hs else hs) (eq-eqb c c refl)
      ∙ ap (λ (o : Option Digest). with_hold k o hs) digest))

-- ---- the Load

-- of a dbuf that passes what it has
module _ (n : ℕ) (at : Oid) (ptr : Ptr) (ds : List (Dbuf Kept)) (brought : IsBroughtBy n at ptr ds) where
  pub is-uncached : dbuf_is (λ d. plain.is_uncached (plain_dbuf d).block) at ds ≡ true
  is-uncached = go (dbuf_at at ds) brought
    where
      go : (o : Option (Dbuf Kept)) → DbufHas (λ d. (d.content ≡ Clean ptr) × (d.state ≡ state.Read n)) o → option_map_or (λ d. plain.is_uncached (plain_dbuf d).block) o false ≡ true
      go None b = absurd b
      go (Some d) b = λ z. plain.is_uncached (plain_block (b.0 z) (b.1 z))

  pub none-kept : AllByRecursion (IsFit key_of bytes_of) ds → (d : Dbuf Kept) → dbuf_at at ds ≡ Some d → d.kept ≡ None
  none-kept fit d found =
      let b = has-of (λ x. (x.content ≡ Clean ptr) × (x.state ≡ state.Read n)) (dbuf_at at ds) d brought found in
      let f = has-of (IsFit key_of bytes_of) (dbuf_at at ds) d (all-found (IsFit key_of bytes_of) (λ x. true) at ds fit (ap (λ (o : Option (Dbuf Kept)). option_map_or (λ x. true) o false) found)) found in
      reads-nothing ptr n d f b.0 b.1

  pub kept-of : (k : Kept) → IsKeptOf key_of bytes_of k ptr → DbufHas (λ d. IsOfContent key_of bytes_of k d.content) (dbuf_at at ds)
  kept-of k of = from-has (λ d. (d.content ≡ Clean ptr) × (d.state ≡ state.Read n)) (λ d. IsOfContent key_of bytes_of k d.content) (λ d b. subst (IsOfContent key_of bytes_of k) (sym b.0) of) at ds brought

module _ (cache : Cache) (i : ℕ) (p : PartyPlace) (before : OnHeap) (q : PartyPlace) (old : CellLog Kept) (t : AsTaken cache i p before old q) (at : Oid) (ptr : Ptr) (brought : IsBroughtBy q.number at ptr old.dbufs)
    (fit : AllByRecursion (IsFit key_of bytes_of) old.dbufs) where
  abbrev pub kept-with : Kept → List (Dbuf Kept)
  kept-with k = with_dbuf at (cached_with k) old.dbufs

  abbrev pub loaded-with : Kept → CellLog Kept
  loaded-with k = noted (Load q.number at (is_held k)) (record old { dbufs = kept-with k })

  load-legal : (held : Bool) → IsLegal (plain_cell t.evicting old) (Load q.number at held)
  load-legal held = and-both _ _ t.settled (plain-test t.evicting old at (λ d. plain.is_uncached d.block) ∙ is-uncached q.number at ptr old.dbufs brought)

  pub done-load : (k : Kept) → HasDone q.number before.value May (Load q.number at (is_held k) ∷ []) (loaded-with k)
  done-load k = done-more q.number before.value old t.evicting [] t.hand.cell (Load q.number at (is_held k)) [] (kept-with k) (load-legal (is_held k)) tt
      (load-follows old q.number at (is_held k) k (is-reading q.number at ptr old.dbufs brought)) refl
      (rest-stays at (cached_with k) old.dbufs (λ d found. refl) t.hand.cell.rest)
      (λ m other. claims-stay at (cached_with k) m old.dbufs (λ d found.
      let b = has-of (λ x. (x.content ≡ Clean ptr) × (x.state ≡ state.Read q.number)) (dbuf_at at old.dbufs) d brought found in
      cached-claim m d.at d.content ∙ sym (ap (claim_in m d.at d.content) b.1 ∙ others-mark m q.number d.at d.content other)))
      (held-set is_held at (cached_with k) (λ d. refl) (is_held k) (λ d. refl) (λ x. (x.content ≡ Clean ptr) × (x.state ≡ state.Read q.number)) old.dbufs brought)

  the-dbuf : (P : Dbuf Kept → Type 0) → ((d : Dbuf Kept) → dbuf_at at old.dbufs ≡ Some d → P d) → (d : Dbuf Kept) × (dbuf_at at old.dbufs ≡ Some d) × P d
  the-dbuf P each =
      let d = is-dbuf (λ x. (x.content ≡ Clean ptr) × (x.state ≡ state.Read q.number)) (dbuf_at at old.dbufs) brought in
      (d.dbuf, d.there, each d.dbuf d.there)

  -- the holds, once the cell keeps one more
  held-more : (hold back : Hold) → back.key ≡ hold.key → ptr_of back ≡ ptr_of hold → AreHolds (holds_in key_of bytes_of is_held (kept-with (Held back))) (ptr_of hold ∷ list_at i q.own.listed)
  held-more hold back key same =
      let d = the-dbuf (λ x. x.kept ≡ None) (none-kept q.number at ptr old.dbufs brought fit) in
      one-more (ptr_of hold) (holds_of old) (holds_in key_of bytes_of is_held (kept-with (Held back))) (list_at i q.own.listed) t.hand.holds
      (λ j. put-count at (Held back) old.dbufs d.0 d.1 d.2 j ∙ ap (λ (n : ℕ). n + holds_on j (holds_of old)) (holds_cons j (ptr_of back) [] ∙ (one-of j ∙ ap (λ (k : Key). cond (key_eq j k) 1 0) key)))
      (λ x one. ⊎_elim (λ mine. inl (first x mine)) (λ rest. inr rest) (put-among at (Held back) x old.dbufs one))
    where
      one-of : (j : Key) → cond {A = ℕ} (key_eq j back.key) 1 0 + holds_on j [] ≡ cond (key_eq j back.key) 1 0
      one-of j = let z : holds_on j [] ≡ 0 = refl in omega arith

      first : (x : Ptr) → IsOneOf x (ptr_of back ∷ []) → ptr_of hold ≡ x
      first x one = ⊎_elim (λ is. sym same ∙ is) (λ none. absurd (nothing x none)) (first-or-later x (ptr_of back) [] one)

  loose-more : (k : Kept) → is_held k ≡ false → AreHolds (holds_in key_of bytes_of is_held (kept-with k)) (list_at i q.own.listed)
  loose-more k loose =
      let d = the-dbuf (λ x. x.kept ≡ None) (none-kept q.number at ptr old.dbufs brought fit) in
      record {
        count = λ j.
            let a = put-count at k old.dbufs d.0 d.1 d.2 j in
            let b : holds_on j (hold_in key_of bytes_of is_held (Some k)) ≡ 0 = ap (holds_on j) (none k loose) in
            let c = t.hand.holds.count j in
            omega arith;
        among = λ j x at'. ⊎_elim (λ mine. absurd (nothing x (subst (IsOneOf x) (none k loose) mine))) (λ one. t.hand.holds.among one.0 x one.1) (put-among at k x old.dbufs (j, at'));
      }
    where
      none : (k : Kept) → is_held k ≡ false → hold_in key_of bytes_of is_held (Some k) ≡ []
      none k is = ap (λ (b : Bool). if b then (record { key = key_of k; digest = sha256_of (bytes_of k) } ∷ []) else []) is

  -- the cell with what it keeps now
  keeps-this : (r : PartyPlace) (es : List Event) (k : Kept) (n : ℕ) → n ≡ r.number → HasTaken cache i p before es r → AreHolds (holds_in key_of bytes_of is_held (kept-with k)) (list_at i r.own.listed)
      → InHand cache i p before May (Load p.number at (is_held k) ∷ []) es (noted (Load n at (is_held k)) (record old { dbufs = kept-with k })) r
  keeps-this r es k n who party holds =
      let number : r.number ≡ q.number = party.number ∙ sym t.hand.party.number in
      record {
        party = party;
        cell = subst (λ (m : ℕ). HasDone r.number before.value May (Load m at (is_held k) ∷ []) (noted (Load n at (is_held k)) (record old { dbufs = kept-with k }))) t.hand.party.number
            (subst (λ (m : ℕ). HasDone r.number before.value May (Load q.number at (is_held k) ∷ []) (noted (Load m at (is_held k)) (record old { dbufs = kept-with k }))) (sym (who ∙ number))
            (subst (λ (m : ℕ). HasDone m before.value May (Load q.number at (is_held k) ∷ []) (loaded-with k)) (sym number) (done-load k)));
        holds = subst (λ (l : List Ptr). AreHolds l (list_at i r.own.listed)) (sym (holds-stay-by-note key_of bytes_of is_held (length old.history + 1) (Some at) (kept-with k))) holds;
      }

  pub keeps-read : (read : Read) (k : Kept) (r : PartyPlace) (n : ℕ) → n ≡ r.number → IsReadOf ptr q read → HandsOn cache.config i ptr read q r (Ok k)
      → InHand cache i p before May (Load p.number at (gives_hold read) ∷ []) (handed p.number (cell_number cache.config i) read) (noted (Load n at (is_held k)) (record old { dbufs = kept-with k })) r
  keeps-read (gave.Held hold from) (Held back) r n who of hands =
      let party = taken-more cache i p before [] q r t.hand.party (Hand q.number hold.key (cell_number cache.config i)) hold.key refl hands.0 in
      keeps-this r (Hand p.number hold.key (cell_number cache.config i) ∷ []) (Held back) n who
      (subst (λ (m : ℕ). HasTaken cache i p before (Hand m hold.key (cell_number cache.config i) ∷ []) r) t.hand.party.number party)
      (subst (AreHolds (holds_in key_of bytes_of is_held (kept-with (Held back)))) (sym (hand-lists cache i p before [] q r t.hand.party hold of.1 hands.0))
      (held-more hold back (ap (λ (h : Hold). h.key) hands.1) (ap (λ (h : Hold). ptr_of h) hands.1)))
  keeps-read (gave.Held hold from) (Loose key block) r n who of hands = absurd hands
  keeps-read (gave.Past shared digest) (Held back) r n who of hands = absurd hands
  keeps-read (gave.Past shared digest) (Loose key block) r n who of hands =
      keeps-this r [] (Loose key block) n who (subst (HasTaken cache i p before []) (sym hands.0) t.hand.party)
      (subst (λ (x : PartyPlace). AreHolds (holds_in key_of bytes_of is_held (kept-with (Loose key block))) (list_at i x.own.listed)) (sym hands.0) (loose-more (Loose key block) refl))

  pub kept-is-of : (read : Read) (k : Kept) (r : PartyPlace) → IsReadOf ptr q read → HandsOn cache.config i ptr read q r (Ok k) → IsKeptOf key_of bytes_of k ptr
  kept-is-of (gave.Held hold from) (Held back) r of hands = record { key = ap (λ (h : Hold). h.key) hands.1 ∙ of.0.key; bytes = subst (λ (h : Hold). IsOf h.block.value ptr) (sym hands.1) of.0.block }
  kept-is-of (gave.Held hold from) (Loose key block) r of hands = absurd hands
  kept-is-of (gave.Past shared digest) (Held back) r of hands = absurd hands
  kept-is-of (gave.Past shared digest) (Loose key block) r of hands = record { key = hands.1; bytes = subst (λ (bs : List ℕ). IsOf bs ptr) (sym hands.2) of }

-- a dbuf that keeps what was brought, and one that was used
loaded-has : (P : Dbuf Kept → Type 0) (at : Oid) (k : Kept) (ds : List (Dbuf Kept)) → DbufHas (λ d. P (cached_with k d)) (dbuf_at at ds) → DbufHas P (dbuf_at at (with_dbuf at (cached_with k) ds))
loaded-has P at k [] h = absurd h
loaded-has P at k (x ∷ ds) h = elim (bool_cases (oid_eq at x.at)) [
  | inl here ↦ let has : P (cached_with k x) = rw here at h in rw (here, here) has
  | inr far ↦ let rest = loaded-has P at k ds (rw far at h) in rw (far, far) rest
]

used-has : (P : Dbuf Kept → Type 0) (at : Oid) (tick : ℕ) (ds : List (Dbuf Kept)) → DbufHas (λ d. P (used_at tick d)) (dbuf_at at ds) → DbufHas P (dbuf_at at (with_dbuf at (used_at tick) ds))
used-has P at tick [] h = absurd h
used-has P at tick (x ∷ ds) h = elim (bool_cases (oid_eq at x.at)) [
  | inl here ↦ let has : P (used_at tick x) = rw here at h in rw (here, here) has
  | inr far ↦ let rest = used-has P at tick ds (rw far at h) in rw (far, far) rest
]

-- a block that was brought is there
pub is-loaded : (n tick : ℕ) (at : Oid) (ptr : Ptr) (k : Kept) (ds : List (Dbuf Kept)) → IsBroughtBy n at ptr ds → IsLoaded at ptr (with_dbuf at (used_at tick) (with_dbuf at (cached_with k) ds))
is-loaded n tick at ptr k ds brought =
    used-has (λ d. (d.content ≡ Clean ptr) × (d.state ≡ state.Cached)) at tick (with_dbuf at (cached_with k) ds)
    (loaded-has (λ d. (d.content ≡ Clean ptr) × (d.state ≡ state.Cached)) at k ds
    (from-has (λ d. (d.content ≡ Clean ptr) × (d.state ≡ state.Read n)) (λ d. (d.content ≡ Clean ptr) × (state.Cached ≡ state.Cached)) (λ d b. (b.0, refl)) at ds brought))

-- ---- what comes back

module _ (cache : Cache) (i : ℕ) (ptr : Ptr) (q r : PartyPlace) where
  -- the party is what it was, or has looked at a shard
  pub looked : (p : PartyPlace) (before : OnHeap) (now : CellLog Kept) (read back : Read) → AsTaken cache i p before now q → HandsOn cache.config i ptr read q r (Err back) → AsTaken cache i p before now r
  looked p before now (gave.Held hold from) back t (inl same, is) = subst (AsTaken cache i p before now) (sym same) t
  looked p before now (gave.Held hold from) back t (inr d, is) =
      let h = t.hand.party in
      let s = does_stays dbuf_meanings cache.config h.valid hold.key [] q r h.party.config d in
      record {
        evicting = t.evicting;
        hand = record {
          party = taken-looks cache i p before [] q r h hold.key d;
          cell = subst (λ (m : ℕ). HasDone m before.value t.evicting [] now) (sym s.number) t.hand.cell;
          holds = subst (AreHolds (holds_of now)) (sym (cell-lists dbuf_meanings cache.config h.valid hold.key [] q r h.party.config d i h.cell (among-held cache i p before [] q r h))) t.hand.holds;
        };
        settled = t.settled;
      }
  looked p before now (gave.Past shared digest) back t hands = subst (AsTaken cache i p before now) (sym hands.0) t

  pub read-back : (p : PartyPlace) (before : OnHeap) (now : CellLog Kept) (read back : Read) → AsTaken cache i p before now q → IsReadOf ptr q read → HandsOn cache.config i ptr read q r (Err back) → (back ≡ read) × IsReadOf ptr r back
  read-back p before now (gave.Held hold from) back t of (inl same, is) = (is, subst (IsReadOf ptr r) (sym is) (subst (λ (x : PartyPlace). IsReadOf ptr x (gave.Held hold from)) (sym same) of))
  read-back p before now (gave.Held hold from) back t of (inr d, is) =
      let h = t.hand.party in
      let s = does_stays dbuf_meanings cache.config h.valid hold.key [] q r h.party.config d in
      let l : r.own.ledger.holds ≡ q.own.ledger.holds = ap (λ (x : Ledger). x.holds) (does_ledger dbuf_meanings cache.config h.valid hold.key [] q r h.party.config d) in
      (is, subst (IsReadOf ptr r) (sym is) (subst (λ (n : ℕ). IsHoldOf ptr n hold) (sym s.number) of.0, subst (IsOneOf (ptr_of hold)) (sym l) of.1))
  read-back p before now (gave.Past shared digest) back t of hands = (hands.1, subst (IsReadOf ptr r) (sym hands.1) of)

-- ---- the call

module _ (cache : Cache) (i : ℕ) (at : Oid) (ptr : Ptr) (q r : PartyPlace) (old roomy : CellLog Kept) (log : IsRoomier old roomy) (brought : IsBroughtBy q.number at ptr old.dbufs) (fit : AllByRecursion (IsFit key_of bytes_of) old.dbufs)
    (read : Read) (of : IsReadOf ptr q read) where
  pub brought-roomy : IsBroughtBy q.number at ptr roomy.dbufs
  brought-roomy = subst (λ (x : CellLog Kept). IsBroughtBy q.number at ptr x.dbufs) (sym log) brought

  fit-roomy : AllByRecursion (IsFit key_of bytes_of) roomy.dbufs
  fit-roomy = subst (λ (x : CellLog Kept). AllByRecursion (IsFit key_of bytes_of) x.dbufs) (sym log) fit

  pub keeps-now : (k : Kept) (n : ℕ) (held : Bool) (kept now : CellLog Kept) → n ≡ r.number → held ≡ is_held k → HandsOn cache.config i ptr read q r (Ok k) → kept ≡ record roomy { dbufs = with_dbuf at (cached_with k) roomy.dbufs } → now ≡ noted (Load n at held) kept → Keeps cache i at ptr read old now q r
  keeps-now k n held kept now who says hands one two p before t =
      let u = as-taken-room cache i p before old roomy q t log in
      let is = two ∙ (ap (λ (x : CellLog Kept). noted (Load n at held) x) one ∙ ap (λ (h : Bool). noted (Load n at h) (record roomy { dbufs = with_dbuf at (cached_with k) roomy.dbufs })) says) in
      record {
        hand = subst (λ (x : CellLog Kept). InHand cache i p before May (Load p.number at (gives_hold read) ∷ []) (handed p.number (cell_number cache.config i) read) x r) (sym is)
            (keeps-read cache i p before q roomy u at ptr brought-roomy fit-roomy read k r n who of hands);
        there = subst (λ (x : CellLog Kept). IsLoaded at ptr x.dbufs) (sym is) (is-loaded q.number (length roomy.history + 1) at ptr k roomy.dbufs brought-roomy);
      }

  pub unreads-now : (back : Read) (now : CellLog Kept) → SomeTaken cache i old q → HandsOn cache.config i ptr read q r (Err back) → now ≡ record roomy { dbufs = with_dbuf at unread roomy.dbufs } → HasUnread cache i at ptr read back old now q r
  unreads-now back now some hands is =
      let b = read-back cache i ptr q r some.0 some.1 old read back some.2 of hands in
      record {
        same = b.0;
        of = b.1;
        uncached = subst (λ (x : CellLog Kept). DbufHas (λ d. d.state ≡ state.Uncached) (dbuf_at at x.dbufs)) (sym is) (is-unread q.number at ptr roomy.dbufs brought-roomy);
        taken = λ p before t.
            let u = as-taken-room cache i p before old roomy q t log in
            let l = looked cache i ptr q r p before roomy read back u hands in
            let number : q.number ≡ r.number = u.hand.party.number ∙ sym l.hand.party.number in
            unmarked-as cache i p before roomy roomy now r at ptr l refl (subst (λ (n : ℕ). IsBroughtBy n at ptr roomy.dbufs) number brought-roomy) is;
      }

-- ---- what a read gave, by its form

pub hands-none : (g : Config) (i : ℕ) (ptr : Ptr) (read : Read) (p : PartyPlace) → HandsOn g i ptr read p p (Err read)
hands-none g i ptr (gave.Held hold from) p = (inl refl, refl)
hands-none g i ptr (gave.Past block kept) p = (refl, refl)

module _ (g : Config) (ptr : Ptr) (p : PartyPlace) (read : Read) (hold : Hold) (from : Served) (is : read ≡ gave.Held hold from) (of : IsReadOf ptr p read) where
  hold-of : IsReadOf ptr p (gave.Held hold from)
  hold-of = subst (IsReadOf ptr p) is of

  pub held-own : hold.owner ≡ p.number
  held-own = hold-of.0.owner_is

  pub held-is : IsHeld g p hold
  held-is = own held-own hold-of.1

  pub hands-held : (i to : ℕ) (back : Hold) (q : PartyPlace) → to ≡ cell_number g i → AnswersHand dbuf_meanings g hold to p q (Ok back) → HandsOn g i ptr read p q (Ok (Held back))
  hands-held i to back q number a = subst (λ (x : Read). HandsOn g i ptr x p q (Ok (Held back))) (sym is) (
    subst (λ (n : ℕ). Does dbuf_meanings g hold.key (Hand n hold.key (cell_number g i) ∷ []) p q) held-own (subst (λ (n : ℕ). Does dbuf_meanings g hold.key (Hand hold.owner hold.key n ∷ []) p q) number a.0),
    subst (λ (n : ℕ). back ≡ record hold { owner = n }) number a.1,
  )

  pub hands-back : (i to : ℕ) (back : Hold) (q : PartyPlace) → AnswersHand dbuf_meanings g hold to p q (Err back) → HandsOn g i ptr read p q (Err (gave.Held back from))
  hands-back i to back q a = subst (λ (x : Read). HandsOn g i ptr x p q (Err (gave.Held back from))) (sym is) (inr a.0, ap (λ (h : Hold). gave.Held h from) a.1)

  pub drops-held : (q : PartyPlace) → Does dbuf_meanings g hold.key (Drop hold.owner hold.key ∷ []) p q → DropsRead g read p q
  drops-held q d = subst (λ (x : Read). DropsRead g x p q) (sym is) (subst (λ (n : ℕ). Does dbuf_meanings g hold.key (Drop n hold.key ∷ []) p q) held-own d)

-- ---- which dbufs keep a hold then

-- a hold that is handed on is kept as one
kept-as-hand : (g : Config) (i n : ℕ) (ptr : Ptr) (read : Read) (q r : PartyPlace) (k : Kept) → HandsOn g i ptr read q r (Ok k) → is_held k ≡ is_some_made (handed n (cell_number g i) read)
kept-as-hand g i n ptr (gave.Held hold from) q r (Held back) hands = refl
kept-as-hand g i n ptr (gave.Held hold from) q r (Loose key block) hands = absurd hands
kept-as-hand g i n ptr (gave.Past shared digest) q r (Held back) hands = absurd hands
kept-as-hand g i n ptr (gave.Past shared digest) q r (Loose key block) hands = refl

pub kept-held : (g : Config) (i : ℕ) (at : Oid) (ptr : Ptr) (q r : PartyPlace) (old roomy : CellLog Kept) → IsRoomier old roomy → IsBroughtBy q.number at ptr old.dbufs → (read : Read) (k : Kept) (n : ℕ) (held : Bool) (kept now : CellLog Kept)
    → HandsOn g i ptr read q r (Ok k) → kept ≡ record roomy { dbufs = with_dbuf at (cached_with k) roomy.dbufs } → now ≡ noted (Load n at held) kept → AreHeldBut at (is_some_made (handed q.number (cell_number g i) read)) old.dbufs now.dbufs
kept-held g i at ptr q r old roomy log brought read k n held kept now hands one two b =
    ap (λ (x : CellLog Kept). held_at x.dbufs b) (two ∙ ap (noted (Load n at held)) one)
    ∙ (held-touched (length roomy.history + 1) (Some at) (with_dbuf at (cached_with k) roomy.dbufs) b
    ∙ (ap (λ (x : CellLog Kept). held_at (with_dbuf at (cached_with k) x.dbufs) b) log
    ∙ (held-with (λ d. (d.content ≡ Clean ptr) × (d.state ≡ state.Read q.number)) at k old.dbufs brought b
    ∙ ap (λ (h : Bool). if oid_eq at b then h else held_at old.dbufs b) (kept-as-hand g i q.number ptr read q r k hands))))
