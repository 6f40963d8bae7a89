-- A block is marked as being read, found so again, and then kept, or the mark taken back.
use Rattle.std.proofs.Common.{◌≡◌, ◌≢◌, ◌⊎◌, ℕ, ◌+◌, Bool, true, false, not, ◌&&◌, if◌then◌else◌, IsTrue, List, [], ◌∷◌, ◌++◌, length, cond, Option, Some, None, refl, sym, ap, ◌∙◌, subst, inl, inr, ⊎_elim, eq-eqb, ne_eqb, arith}
use Rattle.std.specs.List.{AllByRecursion}
use Rattle.std.specs.Option.{option_map, option_map_or}
use Rattle.std.proofs.lemmas.Bool.{false≢true}
use Rattle.std.proofs.lemmas.List.{append_assoc}
use Rattle.blk_ptr.specs.declared.key.Key.{Key}
use Rattle.blk_ptr.specs.declared.ptr.Ptr.{Ptr}
use Rattle.arc_core.specs.Keeps.{holds_on}
use Rattle.arc_core.specs.declared.event.Event.{Event}
use Rattle.arc_table.specs.Cache.{Cache}
use Rattle.arc_table.specs.Fronts.{list_at}
use Rattle.arc_table.specs.Giving.{AreHolds}
use Rattle.arc_table.specs.Holding.{IsOneOf}
use Rattle.dbuf_state.specs.CellLog.{CellLog, noted}
use Rattle.dbuf_state.specs.Dbufs.{DbufHas, IsFit, Fits, cached_with, dbuf_at, dbuf_is, dbuf_oid, is_cached, is_clean, is_clean_in, is_passing, is_reading, is_uncached, mapped_of, reading_by, unread, with_dbuf}
use Rattle.dbuf_state.specs.InHand.{ClaimsChanged, are_at_rest}
use Rattle.dbuf_state.specs.Numbers.{claim_in, claims_in, mapping_numbers}
use Rattle.dbuf_state.specs.Objects.{Evicting, IsLegal, May, is_due, may_evict}
use Rattle.dbuf_state.specs.Objects as plain
use Rattle.dbuf_state.specs.Oids.{is_distinct, oid_eq}
use Rattle.dbuf_state.specs.Soundness.{hold_in, holds_in, plain_cell}
use Rattle.dbuf_state.specs.declared.dbuf.Content.{Content}
use Rattle.dbuf_state.specs.declared.dbuf.Content.TheVariants.{Clean, Dirty}
use Rattle.dbuf_state.specs.declared.dbuf.Dbuf.{Dbuf}
use Rattle.dbuf_state.specs.declared.event.CellEvent.{CellEvent}
use Rattle.dbuf_state.specs.declared.oid.Oid.{Oid}
use Rattle.dbuf_state.specs.declared.state.DbState.{DbState}
use Rattle.dbuf_state.specs.declared.state.DbState.TheVariants as state
use Rattle.dbuf_state.specs.declared.state.Mapped.{Mapped}
use Rattle.dbuf_state.specs.declared.state.Mapped.TheVariants as mapped
use Rattle.dbuf_state.specs.declared.state.Mapping.{Mapping}
use Rattle.dbuf_state.proofs.CallerLemmas.{clean-in, clean-ptr}
use Rattle.dbuf_state.proofs.FitLemmas.{all-found, from-has}
use Rattle.dbuf_state.proofs.HandLemmas.{claimed-is-read, claims-change, claims-stay, claims-stay-by-note, holds-change, holds-stay, rest-stays}
use Rattle.dbuf_state.proofs.IndexLemmas.{and-both, and-parts, bool_cases}
use Rattle.dbuf_state.proofs.StepLemmas.{reading-alike, unread-alike}
use Rattle.dbuf_state.specs.declared.event.CellEvent.TheVariants.{Load}
use Rattle.dbuf_cells.specs.Bringing.{Claims, IsUnmarked}
use Rattle.dbuf_cells.specs.InHand.{AsTaken, ClaimsAre, Gives, InHand, IsAtRest, IsRoomier, MayGive}
use Rattle.dbuf_cells.specs.Loading.{AreUnclaimed, ClaimsBesides, IsBroughtBy, IsToLoad, mapped_in, other_claims, to_load}
use Rattle.dbuf_cells.specs.Kept.{bytes_of, is_held, key_of}
use Rattle.dbuf_cells.specs.Turns.{OnHeap, PartyPlace}
use Rattle.dbuf_cells.specs.declared.kept.Kept.{Kept}
use Rattle.dbuf_cells.proofs.CellSteps.{done-alike, found-oid, test-of}
use Rattle.dbuf_cells.proofs.Claims.{loses-claim, none-others, others-stay, same-mappings}
use Rattle.dbuf_cells.proofs.Evictions.{has-of, is-dbuf}
use Rattle.dbuf_cells.proofs.HoldLists.{behind, first-of, first-or-behind}
use Rattle.dbuf_cells.proofs.Operations.{rest-of}
use Rattle.dbuf_cells.proofs.PutSteps.{state-there}
use Rattle.dbuf_state.proofs.HeldLemmas.{held-same}

-- ---- claims

-- a mark of n is no claim of another's
pub others-mark : (k n : ℕ) (at : Oid) (content : Content) → k ≢ n → claim_in k at content (state.Read n) ≡ []
others-mark k n at (Dirty bytes) other = refl
others-mark k n at (Clean ptr) other = ap (λ (b : Bool). if b then record { at = at; ptr = ptr } ∷ [] else []) (ne_eqb n k (λ e. other (sym e)))

pub uncached-claim : (k : ℕ) (at : Oid) (content : Content) (s : DbState) → (is_clean content && is_uncached s) ≡ true → claim_in k at content s ≡ []
uncached-claim k at (Dirty bytes) s h = refl
uncached-claim k at (Clean ptr) state.Uncached h = refl
uncached-claim k at (Clean ptr) (state.Read n) h = absurd (false≢true h)
uncached-claim k at (Clean ptr) state.Fill h = absurd (false≢true h)
uncached-claim k at (Clean ptr) state.Cached h = absurd (false≢true h)
uncached-claim k at (Clean ptr) state.Evicting h = absurd (false≢true h)

pub none-claimed : (k : ℕ) (at : Oid) (content : Content) → claim_in k at content state.Uncached ≡ []
none-claimed k at (Dirty bytes) = refl
none-claimed k at (Clean ptr) = refl

pub cached-claim : (k : ℕ) (at : Oid) (content : Content) → claim_in k at content state.Cached ≡ []
cached-claim k at (Dirty bytes) = refl
cached-claim k at (Clean ptr) = refl

-- what is claimed is one block of which the party says that it brings it
pub claims-mark : (i n : ℕ) (at : Oid) (ptr : Ptr) (c : CellLog Kept) (ds : List (Dbuf Kept)) (p : PartyPlace) → IsToLoad at ptr ds → c.dbufs ≡ with_dbuf at (reading_by n) ds → ClaimsAre i n c p → Claims i at ptr p
claims-mark i n at ptr c ds p to is are =
    let d = is-dbuf (λ x. x.content ≡ Clean ptr) (dbuf_at at ds) (clean-ptr at ds ptr to.pointer) in
    let ch : ClaimsChanged n _ _ ds (with_dbuf at (reading_by n) ds) = claims-change at (reading_by n) n ds d.dbuf d.there in
    let here : claim_in n d.dbuf.at d.dbuf.content (state.Read n) ≡ record { at = d.dbuf.at; ptr = ptr } ∷ [] =
    ap (λ (x : Content). claim_in n d.dbuf.at x (state.Read n)) d.has ∙ ap (λ (b : Bool). if b then record { at = d.dbuf.at; ptr = ptr } ∷ [] else []) (eq-eqb n n refl) in
    record {
      front = ch.front;
      back = ch.back;
      listed = are ∙ ap mapping_numbers (ap (claims_in n) is ∙ (ch.now ∙ (ap (λ (l : List Mapping). ch.front ++ l ++ ch.back) (here ∙ ap (λ (x : Oid). record { at = x; ptr = ptr } ∷ []) (found-oid at ds d.dbuf d.there)) ∙ one-between ch.front ch.back (record { at = at; ptr = ptr }))));
    }
  where
    one-between : (front back : List Mapping) (m : Mapping) → front ++ (m ∷ []) ++ back ≡ front ++ m ∷ back
    one-between front back m = append_assoc front (m ∷ []) back

-- a block that the party claims it brings
pub claimed-mark : (i n : ℕ) (at : Oid) (ptr : Ptr) (c : CellLog Kept) (p : PartyPlace) → IsTrue (is_distinct dbuf_oid c.dbufs) → ClaimsAre i n c p → Claims i at ptr p → IsBroughtBy n at ptr c.dbufs
claimed-mark i n at ptr c p once are claims =
    claimed-is-read n (record { at = at; ptr = ptr }) c.dbufs claims.front claims.back once (same-mappings (claims_in n c.dbufs) (claims.front ++ record { at = at; ptr = ptr } ∷ claims.back) (sym are ∙ claims.listed))

-- what a party claims besides the block that it has just marked
pub marks-besides : (i n : ℕ) (at : Oid) (ptr : Ptr) (c : CellLog Kept) (ds : List (Dbuf Kept)) (p : PartyPlace) → IsToLoad at ptr ds → IsTrue (is_distinct dbuf_oid ds) → c.dbufs ≡ with_dbuf at (reading_by n) ds → ClaimsAre i n c p → ClaimsBesides i n at ds p
marks-besides i n at ptr c ds p to once is are = record {
  claims = claims_in n c.dbufs;
  listed = are;
  others = ap (λ (l : List (Dbuf Kept)). other_claims at (claims_in n l)) is ∙ (others-stay n at (reading_by n) (λ d. refl) ds
      ∙ none-others n at ds once (λ d found. uncached-claim n d.at d.content d.state (test-of (is_clean_in is_uncached) at ds d to.uncached found)));
}

-- nobody claims a block any more that was kept, or whose mark was taken back
pub kept-unclaimed : (at : Oid) (k : Kept) (n : ℕ) (held : Bool) (old roomy kept now : CellLog Kept) → IsRoomier old roomy → IsTrue (is_distinct dbuf_oid old.dbufs) → kept ≡ record roomy { dbufs = with_dbuf at (cached_with k) roomy.dbufs } → now ≡ noted (Load n at held) kept → AreUnclaimed at old.dbufs now.dbufs
kept-unclaimed at k n held old roomy kept now log once one two m =
    ap (λ (x : CellLog Kept). claims_in m x.dbufs) (two ∙ ap (noted (Load n at held)) one)
    ∙ (claims-stay-by-note m (length roomy.history + 1) (Some at) (with_dbuf at (cached_with k) roomy.dbufs)
    ∙ (ap (λ (x : CellLog Kept). claims_in m (with_dbuf at (cached_with k) x.dbufs)) log ∙ loses-claim m at (cached_with k) old.dbufs once (λ d. cached-claim m d.at d.content)))

pub unread-unclaimed : (at : Oid) (old roomy now : CellLog Kept) → IsRoomier old roomy → IsTrue (is_distinct dbuf_oid old.dbufs) → now ≡ record roomy { dbufs = with_dbuf at unread roomy.dbufs } → AreUnclaimed at old.dbufs now.dbufs
unread-unclaimed at old roomy now log once is m =
    ap (λ (x : CellLog Kept). claims_in m x.dbufs) is ∙ (ap (λ (x : CellLog Kept). claims_in m (with_dbuf at unread x.dbufs)) log ∙ loses-claim m at unread old.dbufs once (λ d. none-claimed m d.at d.content))

-- ---- the mark

module _ (cache : Cache) (i : ℕ) (p : PartyPlace) (before : OnHeap) (evicting : Evicting) (news : List CellEvent) (es : List Event) (now : CellLog Kept) (q : PartyPlace) (h : InHand cache i p before evicting news es now q) where
  pub hand-mark : (n : ℕ) (at : Oid) (ptr : Ptr) → n ≡ q.number → IsToLoad at ptr now.dbufs → InHand cache i p before evicting news es (record now { dbufs = with_dbuf at (reading_by n) now.dbufs }) q
  hand-mark n at ptr who to = record {
    party = h.party;
    cell = done-alike q.number before.value now evicting news h.cell (with_dbuf at (reading_by n) now.dbufs) (reading-alike now n at evicting to.uncached)
        (rest-stays at (reading_by n) now.dbufs (λ d found. refl) h.cell.rest)
        (λ k other. claims-stay at (reading_by n) k now.dbufs (λ d found. others-mark k n d.at d.content (λ e. other (e ∙ who)) ∙ sym (uncached-claim k d.at d.content d.state (test-of (is_clean_in is_uncached) at now.dbufs d to.uncached found))))
        (held-same is_held at (reading_by n) (λ d. refl) (λ d. refl) now.dbufs);
    holds = subst (λ (l : List Ptr). AreHolds l (list_at i q.own.listed)) (sym (holds-stay key_of bytes_of is_held at (reading_by n) now.dbufs (λ d. refl))) h.holds;
  }

  read-test : (n : ℕ) (at : Oid) (ptr : Ptr) → IsBroughtBy n at ptr now.dbufs → dbuf_is (is_clean_in is_reading) at now.dbufs ≡ true
  read-test n at ptr brought = go (dbuf_at at now.dbufs) brought
    where
      go : (o : Option (Dbuf Kept)) → DbufHas (λ d. (d.content ≡ Clean ptr) × (d.state ≡ state.Read n)) o → option_map_or (is_clean_in is_reading) o false ≡ true
      go None b = absurd b
      go (Some d) b = and-both (is_clean d.content) (is_reading d.state) (ap is_clean b.0) (ap is_reading b.1)

  pub hand-unmark : (n : ℕ) (at : Oid) (ptr : Ptr) → n ≡ q.number → IsBroughtBy n at ptr now.dbufs → InHand cache i p before evicting news es (record now { dbufs = with_dbuf at unread now.dbufs }) q
  hand-unmark n at ptr who brought = record {
    party = h.party;
    cell = done-alike q.number before.value now evicting news h.cell (with_dbuf at unread now.dbufs) (unread-alike now at evicting (read-test n at ptr brought))
        (rest-stays at unread now.dbufs (λ d found. refl) h.cell.rest)
        (λ k other. claims-stay at unread k now.dbufs (λ d found.
        let b = has-of (λ x. (x.content ≡ Clean ptr) × (x.state ≡ state.Read n)) (dbuf_at at now.dbufs) d brought found in
        none-claimed k d.at d.content ∙ sym (ap (claim_in k d.at d.content) b.1 ∙ others-mark k n d.at d.content (λ e. other (e ∙ who)))))
        (held-same is_held at unread (λ d. refl) (λ d. refl) now.dbufs);
    holds = subst (λ (l : List Ptr). AreHolds l (list_at i q.own.listed)) (sym (holds-stay key_of bytes_of is_held at unread now.dbufs (λ d. refl))) h.holds;
  }

-- ---- the block that was brought

abbrev mark : Bool → ℕ
mark b = cond b 1 0

-- the holds once a dbuf that kept nothing keeps this
pub put-count : (at : Oid) (k : Kept) (ds : List (Dbuf Kept)) (d : Dbuf Kept) → dbuf_at at ds ≡ Some d → d.kept ≡ None → (j : Key)
    → holds_on j (holds_in key_of bytes_of is_held (with_dbuf at (cached_with k) ds)) ≡ holds_on j (hold_in key_of bytes_of is_held (Some k)) + holds_on j (holds_in key_of bytes_of is_held ds)
put-count at k ds d found none j =
    let change = holds-change key_of bytes_of is_held at (cached_with k) ds d j found in
    let was : holds_on j (hold_in key_of bytes_of is_held d.kept) ≡ 0 = ap (λ (o : Option Kept). holds_on j (hold_in key_of bytes_of is_held o)) none in
    omega arith

pub put-among : (at : Oid) (k : Kept) (x : Ptr) (ds : List (Dbuf Kept)) → IsOneOf x (holds_in key_of bytes_of is_held (with_dbuf at (cached_with k) ds))
    → IsOneOf x (hold_in key_of bytes_of is_held (Some k)) ⊎ IsOneOf x (holds_in key_of bytes_of is_held ds)
put-among at k x [] one = inr one
put-among at k x (d ∷ ds) one = elim (bool_cases (oid_eq at d.at)) [
  | inl here ↦ ⊎_elim (λ first. inl first) (λ rest. inr (behind d.kept x (holds_in key_of bytes_of is_held ds) rest))
      (first-or-behind (Some k) x (holds_in key_of bytes_of is_held ds) (rw here at one))
  | inr far ↦ ⊎_elim
      (λ first. inr (first-of d.kept x (holds_in key_of bytes_of is_held ds) first))
      (λ rest. ⊎_elim (λ mine. inl mine) (λ old. inr (behind d.kept x (holds_in key_of bytes_of is_held ds) old)) (put-among at k x ds rest))
      (first-or-behind d.kept x (holds_in key_of bytes_of is_held (with_dbuf at (cached_with k) ds)) (rw far at one))
]

-- a dbuf whose block is being read keeps nothing
pub reads-nothing : (ptr : Ptr) (n : ℕ) (d : Dbuf Kept) → IsFit key_of bytes_of d → d.content ≡ Clean ptr → d.state ≡ state.Read n → d.kept ≡ None
reads-nothing ptr n d fit clean reading = go d.kept (subst (λ (s : DbState). Fits key_of bytes_of (Clean ptr) s d.kept) reading (subst (λ (c : Content). Fits key_of bytes_of c d.state d.kept) clean fit))
  where
    go : (o : Option Kept) → Fits key_of bytes_of (Clean ptr) (state.Read n) o → o ≡ None
    go None f = refl
    go (Some k) f = absurd (false≢true f.0)

-- ---- a cell that is given back with its mark, and one whose mark is taken back

mark-settled : (now : CellLog Kept) (n : ℕ) (at : Oid) (ptr : Ptr) (evicting : Evicting) → IsToLoad at ptr now.dbufs → IsTrue (not (is_due (plain_cell evicting now)))
    → IsTrue (not (is_due (plain_cell evicting (record now { dbufs = with_dbuf at (reading_by n) now.dbufs }))))
mark-settled now n at ptr evicting to settled = subst (λ (c : plain.PlainCell). IsTrue (not (is_due c))) (sym (reading-alike now n at evicting to.uncached)) settled

module _ (cache : Cache) (i : ℕ) (now : CellLog Kept) (q : PartyPlace) (n : ℕ) (at : Oid) (ptr : Ptr) (who : n ≡ q.number) (to : IsToLoad at ptr now.dbufs) (c : CellLog Kept) (is : c ≡ record now { dbufs = with_dbuf at (reading_by n) now.dbufs }) where
  pub mark-may-give : MayGive cache i now q → MayGive cache i c q
  mark-may-give m = subst (λ (x : CellLog Kept). MayGive cache i x q) (sym is) record {
    from = m.from;
    before = m.before;
    evicting = m.evicting;
    news = m.news;
    es = m.es;
    hand = hand-mark cache i m.from m.before m.evicting m.news m.es now q m.hand n at ptr who to;
    settled = mark-settled now n at ptr m.evicting to m.settled;
  }

  pub mark-gives : (r : PartyPlace) → Gives cache i c q r → Gives cache i now q r
  mark-gives r gives p before evicting news es settled h =
      subst (λ (x : CellLog Kept). Gives cache i x q r) is gives p before evicting news es (mark-settled now n at ptr evicting to settled) (hand-mark cache i p before evicting news es now q h n at ptr who to)

module _ (cache : Cache) (i : ℕ) (p : PartyPlace) (before : OnHeap) (now : CellLog Kept) (q : PartyPlace) (t : AsTaken cache i p before now q) where
  pub unmarked : (at : Oid) (ptr : Ptr) → IsBroughtBy q.number at ptr now.dbufs → AsTaken cache i p before (record now { dbufs = with_dbuf at unread now.dbufs }) q
  unmarked at ptr brought = record {
    evicting = t.evicting;
    hand = hand-unmark cache i p before t.evicting [] [] now q t.hand q.number at ptr refl brought;
    settled = subst (λ (c : plain.PlainCell). IsTrue (not (is_due c))) (sym (unread-alike now at t.evicting (read-test cache i p before t.evicting [] [] now q t.hand q.number at ptr brought))) t.settled;
  }

-- ---- whose bytes have to be brought

clean-of : (m : Option Mapped) (s : DbState) (ptr : Ptr) → to_load m s ≡ Some ptr → (m ≡ Some (mapped.Clean ptr)) × (is_uncached s ≡ true)
clean-of None s ptr e = let clash : ◌≡◌ {A = Option Ptr} None (Some ptr) = e in cc
clean-of (Some (mapped.Dirty size)) s ptr e = let clash : ◌≡◌ {A = Option Ptr} None (Some ptr) = e in cc
clean-of (Some (mapped.Clean x)) s ptr e = go (is_uncached s) refl e
  where
    go : (b : Bool) → is_uncached s ≡ b → (if b then Some x else None) ≡ Some ptr → (◌≡◌ {A = Option Mapped} (Some (mapped.Clean x)) (Some (mapped.Clean ptr))) × (is_uncached s ≡ true)
    go true is e = let same : x ≡ ptr = cc in (ap (λ (y : Ptr). Some (mapped.Clean y)) same, is)
    go false is e = let clash : ◌≡◌ {A = Option Ptr} None (Some ptr) = e in cc

pub to-load : (at : Oid) (ptr : Ptr) (ds : List (Dbuf Kept)) → to_load (mapped_in at ds) (option_map_or (λ d. d.state) (dbuf_at at ds) state.Uncached) ≡ Some ptr → IsToLoad at ptr ds
to-load at ptr ds e =
    let c = clean-of (mapped_in at ds) (option_map_or (λ d. d.state) (dbuf_at at ds) state.Uncached) ptr e in
    record { pointer = c.0; uncached = clean-in is_uncached at ds ptr c.0 c.1 }

-- else the dbuf has them
has-them : (d : Dbuf Kept) → is_passing d.state ≡ false → ((n : ℕ) → d.state ≢ state.Read n) → IsFit key_of bytes_of d → to_load (Some (mapped_of d.content)) d.state ≡ None → is_cached d.state ≡ true
has-them d rest quiet fit none = go d.content d.state d.kept rest quiet fit none
  where
    by : (b : Bool) → (b ≡ false → ⊥) → b ≡ true
    by true never = refl
    by false never = absurd (never refl)

    uncached-clash : (ptr : Ptr) (s : DbState) → is_uncached s ≡ true → to_load (Some (mapped.Clean ptr)) s ≡ None → ⊥
    uncached-clash ptr s u e = let clash : ◌≡◌ {A = Option Ptr} (Some ptr) None = sym (ap (λ (b : Bool). if b then Some ptr else None) u) ∙ e in cc

    go : (c : Content) (s : DbState) (o : Option Kept) → is_passing s ≡ false → ((n : ℕ) → s ≢ state.Read n) → Fits key_of bytes_of c s o → to_load (Some (mapped_of c)) s ≡ None → is_cached s ≡ true
    go (Dirty bytes) s o rest quiet fit none = (and-parts (is_cached s) _ fit.0).0
    go (Clean ptr) s o rest quiet fit none = by (is_cached s) (λ c. uncached-clash ptr s (state-there s rest quiet c) none)

pub has-bytes : (at : Oid) (ds : List (Dbuf Kept)) → IsTrue (are_at_rest ds) → IsAtRest at ds → AllByRecursion (IsFit key_of bytes_of) ds → mapped_in at ds ≢ None
    → to_load (mapped_in at ds) (option_map_or (λ d. d.state) (dbuf_at at ds) state.Uncached) ≡ None → dbuf_is (λ d. is_cached d.state) at ds ≡ true
has-bytes at ds rest quiet fit there none = go (dbuf_at at ds) (λ d found. rest-of at ds d rest found) quiet (λ d found. fit-of d found) there none
  where
    fit-of : (d : Dbuf Kept) → dbuf_at at ds ≡ Some d → IsFit key_of bytes_of d
    fit-of d found = has-of (IsFit key_of bytes_of) (dbuf_at at ds) d (all-found (IsFit key_of bytes_of) (λ x. true) at ds fit (ap (λ (o : Option (Dbuf Kept)). option_map_or (λ x. true) o false) found)) found

    go : (o : Option (Dbuf Kept)) → ((d : Dbuf Kept) → o ≡ Some d → is_passing d.state ≡ false) → ((n : ℕ) → option_map_or (λ d. d.state) o state.Uncached ≢ state.Read n) → ((d : Dbuf Kept) → o ≡ Some d → IsFit key_of bytes_of d)
        → option_map (λ d. mapped_of d.content) o ≢ None → to_load (option_map (λ d. mapped_of d.content) o) (option_map_or (λ d. d.state) o state.Uncached) ≡ None → option_map_or (λ d. is_cached d.state) o false ≡ true
    go None r u f there none = absurd (there refl)
    go (Some d) r u f there none = has-them d (r d refl) u (f d refl) none

-- what was marked is being read
pub is-reading : (n : ℕ) (at : Oid) (ptr : Ptr) (ds : List (Dbuf Kept)) → IsBroughtBy n at ptr ds → dbuf_is (is_clean_in is_reading) at ds ≡ true
is-reading n at ptr ds brought = go (dbuf_at at ds) brought
  where
    go : (o : Option (Dbuf Kept)) → DbufHas (λ d. (d.content ≡ Clean ptr) × (d.state ≡ state.Read n)) o → option_map_or (is_clean_in is_reading) o false ≡ true
    go None b = absurd b
    go (Some d) b = and-both (is_clean d.content) (is_reading d.state) (ap is_clean b.0) (ap is_reading b.1)

-- the same of the cell as the calls leave it
pub unmarked-as : (cache : Cache) (i : ℕ) (p : PartyPlace) (before : OnHeap) (now old c : CellLog Kept) (q : PartyPlace) (at : Oid) (ptr : Ptr) → AsTaken cache i p before now q → old ≡ now → IsBroughtBy q.number at ptr now.dbufs
    → c ≡ record old { dbufs = with_dbuf at unread old.dbufs } → AsTaken cache i p before c q
unmarked-as cache i p before now old c q at ptr t same brought is =
    subst (λ (x : CellLog Kept). AsTaken cache i p before x q) (sym (is ∙ ap (λ (x : CellLog Kept). record x { dbufs = with_dbuf at unread x.dbufs }) same)) (unmarked cache i p before now q t at ptr brought)

-- a dbuf whose mark was taken back, and what its party claims then
unread-has : (at : Oid) (ds : List (Dbuf Kept)) → DbufHas (λ d. Unit {0}) (dbuf_at at ds) → DbufHas (λ d. d.state ≡ state.Uncached) (dbuf_at at (with_dbuf at unread ds))
unread-has at [] h = absurd h
unread-has at (x ∷ ds) h = elim (bool_cases (oid_eq at x.at)) [
  | inl here ↦ rw (here, here) refl
  | inr far ↦ let rest = unread-has at ds (rw far at h) in rw (far, far) rest
]

pub is-unread : (n : ℕ) (at : Oid) (ptr : Ptr) (ds : List (Dbuf Kept)) → IsBroughtBy n at ptr ds → DbufHas (λ d. d.state ≡ state.Uncached) (dbuf_at at (with_dbuf at unread ds))
is-unread n at ptr ds brought = unread-has at ds (from-has (λ d. (d.content ≡ Clean ptr) × (d.state ≡ state.Read n)) (λ d. Unit {0}) (λ d b. tt) at ds brought)

pub is-unmarked : (i n : ℕ) (at : Oid) (c : CellLog Kept) (p : PartyPlace) → IsTrue (is_distinct dbuf_oid c.dbufs) → ClaimsAre i n c p → DbufHas (λ d. d.state ≡ state.Uncached) (dbuf_at at c.dbufs) → IsUnmarked i at p
is-unmarked i n at c p once are uncached ptr claims = go (dbuf_at at c.dbufs) (claimed-mark i n at ptr c p once are claims) uncached
  where
    go : (o : Option (Dbuf Kept)) → DbufHas (λ d. (d.content ≡ Clean ptr) × (d.state ≡ state.Read n)) o → DbufHas (λ d. d.state ≡ state.Uncached) o → ⊥
    go None b u = b
    go (Some d) b u = let clash : state.Read n ≡ state.Uncached = sym b.1 ∙ u in cc
