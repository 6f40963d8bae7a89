-- A whole block is written over what a dbuf kept, which is given up.
use Rattle.std.proofs.Common.{◌≡◌, ◌≢◌, ◌⊎◌, ℕ, ◌+◌, Bool, true, false, not, ◌&&◌, ◌||◌, if◌then◌else◌, IsTrue, List, [], ◌∷◌, ◌++◌, length, replicate, Option, Some, None, refl, sym, ap, ◌∙◌, subst, inl, inr, eq-eqb}
use Rattle.std.specs.List.{AllByRecursion}
use Rattle.std.specs.Option.{option_map, option_map_or}
use Rattle.std.specs.Prelude.{is_none}
use Rattle.std.proofs.lemmas.Bool.{false≢true}
use Rattle.std.proofs.lemmas.List.{append-nil}
use Rattle.blk_ptr.specs.declared.key.Key.{Key}
use Rattle.blk_ptr.specs.declared.ptr.Ptr.{Ptr}
use Rattle.arc_core.specs.declared.event.Event.{Event}
use Rattle.arc_core.specs.declared.event.Event.TheVariants.{Release}
use Rattle.arc_table.specs.Booking.{without_hold}
use Rattle.arc_table.specs.Both.{Does}
use Rattle.arc_table.specs.Cache.{Cache}
use Rattle.arc_table.specs.Fronts.{list_at}
use Rattle.arc_table.specs.Geometry.{cell_number}
use Rattle.arc_table.specs.Giving.{AreHolds}
use Rattle.arc_table.specs.Holding.{ptr_of}
use Rattle.arc_table.proofs.cell_lemmas.CellsInHand.{cell-lists}
use Rattle.dbuf_state.specs.CellLog.{CellLog, fresh, noted}
use Rattle.dbuf_state.specs.Dbufs.{DbufHas, Fits, IsFit, dbuf_at, dbuf_is, dbuf_oid, dirty_with, is_cached, is_clean, is_clean_in, is_evicting, is_passing, is_uncached, mapped_of, may_dirty, with_dbuf, without_kept}
use Rattle.dbuf_state.specs.InHand.{are_at_rest}
use Rattle.dbuf_state.specs.Numbers.{claim_in, claims_in}
use Rattle.dbuf_state.specs.Objects.{Evicting, Must, is_due}
use Rattle.dbuf_state.specs.Oids.{has_item, oid_eq, with_item}
use Rattle.dbuf_state.specs.Soundness.{holds_in, plain_cell}
use Rattle.dbuf_state.specs.declared.dbuf.Content.{Content}
use Rattle.dbuf_state.specs.declared.dbuf.Content.TheVariants as content
use Rattle.dbuf_state.specs.declared.dbuf.Dbuf.{Dbuf}
use Rattle.dbuf_state.specs.declared.event.CellEvent.{CellEvent}
use Rattle.dbuf_state.specs.declared.event.CellEvent.TheVariants.{Put}
use Rattle.dbuf_state.specs.declared.oid.Oid.{Oid}
use Rattle.dbuf_state.specs.declared.state.DbState.{DbState}
use Rattle.dbuf_state.specs.declared.state.DbState.TheVariants as state
use Rattle.dbuf_state.specs.declared.state.Mapped.{Mapped}
use Rattle.dbuf_state.proofs.FitLemmas.{all-found, item-added, item-changed, item-has}
use Rattle.dbuf_state.proofs.HandLemmas.{claims-stay, claims-stay-by-new, holds-stay-by-new, holds-stay-by-note, rest-stays, rest-stays-by-new}
use Rattle.dbuf_state.proofs.IndexLemmas.{and-parts, bool_cases}
use Rattle.dbuf_state.proofs.StepLemmas.{put-follows}
use Rattle.dbuf_cells.specs.InHand.{GivesUp, HasDone, HasTaken, InHand, IsAtRest, is_kept_by}
use Rattle.dbuf_cells.specs.Kept.{bytes_of, is_held, key_of}
use Rattle.dbuf_cells.specs.Turns.{OnHeap, PartyPlace, dbuf_meanings, held_at, holds_of}
use Rattle.dbuf_cells.specs.declared.kept.Kept.{Kept}
use Rattle.dbuf_cells.specs.declared.kept.Kept.TheVariants.{Held, Loose}
use Rattle.dbuf_cells.proofs.CellSteps.{done-more}
use Rattle.dbuf_cells.proofs.Evictions.{has-of, is-dbuf, left-held, left-loose}
use Rattle.dbuf_cells.proofs.HoldLists.{kept-one, one-less, taken-out}
use Rattle.dbuf_cells.proofs.Operations.{rest-of}
use Rattle.dbuf_cells.proofs.PartySteps.{alike-listed, among-held, taken-more}
use Rattle.dbuf_state.proofs.HeldLemmas.{held-item}

-- ---- what may be written

pub state-there : (s : DbState) → is_passing s ≡ false → ((n : ℕ) → s ≢ state.Read n) → is_cached s ≡ false → is_uncached s ≡ true
state-there state.Uncached p r c = refl
state-there (state.Read n) p r c = absurd (r n refl)
state-there state.Fill p r c = absurd (false≢true (sym p))
state-there state.Cached p r c = absurd (false≢true (sym c))
state-there state.Evicting p r c = absurd (false≢true (sym p))

or-left : (a b : Bool) → a ≡ true → (a || b) ≡ true
or-left true b h = refl
or-left false b h = absurd (false≢true h)

or-right : (a b : Bool) → b ≡ true → (a || b) ≡ true
or-right true b h = refl
or-right false b h = h

may-write-one : (c : Content) (s : DbState) → is_passing s ≡ false → ((n : ℕ) → s ≢ state.Read n) → (is_clean c && is_cached s) ≡ false → (not (is_clean c) || (is_uncached s || is_evicting s)) ≡ true
may-write-one (content.Dirty bytes) s p r u = refl
may-write-one (content.Clean ptr) s p r u = or-left (is_uncached s) (is_evicting s) (state-there s p r u)

-- where the block is not clean and cached, it may be written as it is
pub may-write : (at : Oid) (ds : List (Dbuf Kept)) → IsTrue (are_at_rest ds) → IsAtRest at ds → dbuf_is (is_clean_in is_cached) at ds ≡ false → may_dirty at ds ≡ true
may-write at ds rest settled uncached = go (dbuf_at at ds) (λ d found. rest-of at ds d rest found) settled uncached
  where
    go : (o : Option (Dbuf Kept)) → ((d : Dbuf Kept) → o ≡ Some d → is_passing d.state ≡ false) → ((n : ℕ) → option_map_or (λ d. d.state) o state.Uncached ≢ state.Read n) → option_map_or (is_clean_in is_cached) o false ≡ false
        → option_map_or (λ d. not (is_clean d.content) || (is_uncached d.state || is_evicting d.state)) o true ≡ true
    go None p r u = refl
    go (Some d) p r u = may-write-one d.content d.state (p d refl) r u

-- a block that was taken out may be written
pub may-write-out : (at : Oid) (ds : List (Dbuf Kept)) → may_dirty at (with_dbuf at (without_kept state.Evicting) ds) ≡ true
may-write-out at [] = refl
may-write-out at (d ∷ ds) = elim (bool_cases (oid_eq at d.at)) [
  | inl here ↦ rw (here, here) (or-right (not (is_clean d.content)) _ refl)
  | inr far ↦ rw (far, far) (may-write-out at ds)
]

-- whether a dbuf keeps something
pub kept-tells : (at : Oid) (ds : List (Dbuf Kept)) (m : Option Mapped) (s : DbState) → m ≡ option_map (λ d. mapped_of d.content) (dbuf_at at ds) → s ≡ option_map_or (λ d. d.state) (dbuf_at at ds) state.Uncached
    → is_kept_by m s ≡ dbuf_is (is_clean_in is_cached) at ds
kept-tells at ds m s is so = (λ z. is_kept_by (is z) (so z)) ∙ go (dbuf_at at ds)
  where
    one : (c : Content) (t : DbState) → is_kept_by (Some (mapped_of c)) t ≡ (is_clean c && is_cached t)
    one (content.Clean ptr) t = refl
    one (content.Dirty bytes) t = refl

    go : (o : Option (Dbuf Kept)) → is_kept_by (option_map (λ d. mapped_of d.content) o) (option_map_or (λ d. d.state) o state.Uncached) ≡ option_map_or (is_clean_in is_cached) o false
    go None = refl
    go (Some d) = one d.content d.state

-- ---- the cell

unread-claim : (k : ℕ) (at : Oid) (c : Content) (s : DbState) → ((n : ℕ) → s ≢ state.Read n) → claim_in k at c s ≡ []
unread-claim k at (content.Dirty bytes) s r = refl
unread-claim k at (content.Clean ptr) state.Uncached r = refl
unread-claim k at (content.Clean ptr) (state.Read n) r = absurd (r n refl)
unread-claim k at (content.Clean ptr) state.Fill r = refl
unread-claim k at (content.Clean ptr) state.Cached r = refl
unread-claim k at (content.Clean ptr) state.Evicting r = refl

-- the dbuf of the block is not being read
unread-at : (at : Oid) (ds : List (Dbuf Kept)) (d : Dbuf Kept) → IsAtRest at ds → dbuf_at at ds ≡ Some d → (n : ℕ) → d.state ≢ state.Read n
unread-at at ds d settled found n is = settled n (ap (λ (o : Option (Dbuf Kept)). option_map_or (λ x. x.state) o state.Uncached) found ∙ is)

module _ (at : Oid) (bytes : List ℕ) (ds : List (Dbuf Kept)) where
  abbrev pub new-dbuf : Dbuf Kept
  new-dbuf = fresh at (content.Dirty bytes) state.Cached

  abbrev pub written-to : List (Dbuf Kept)
  written-to = with_item dbuf_oid at (dirty_with bytes) new-dbuf ds

  pub written-rest : IsTrue (are_at_rest ds) → IsTrue (are_at_rest written-to)
  written-rest rest = by (bool_cases (has_item dbuf_oid at ds))
    where
      by : (has_item dbuf_oid at ds ≡ true) ⊎ (has_item dbuf_oid at ds ≡ false) → IsTrue (are_at_rest written-to)
      by (inl there) = subst (λ (l : List (Dbuf Kept)). IsTrue (are_at_rest l)) (sym (item-changed at (dirty_with bytes) new-dbuf ds there)) (rest-stays at (dirty_with bytes) ds (λ d found. refl) rest)
      by (inr absent) = subst (λ (l : List (Dbuf Kept)). IsTrue (are_at_rest l)) (sym (item-added at (dirty_with bytes) new-dbuf ds absent)) (rest-stays-by-new ds new-dbuf refl rest)

  pub written-claims : IsAtRest at ds → (k : ℕ) → claims_in k written-to ≡ claims_in k ds
  written-claims settled k = by (bool_cases (has_item dbuf_oid at ds))
    where
      by : (has_item dbuf_oid at ds ≡ true) ⊎ (has_item dbuf_oid at ds ≡ false) → claims_in k written-to ≡ claims_in k ds
      by (inl there) = ap (claims_in k) (item-changed at (dirty_with bytes) new-dbuf ds there) ∙ claims-stay at (dirty_with bytes) k ds (λ d found. sym (unread-claim k d.at d.content d.state (unread-at at ds d settled found)))
      by (inr absent) = ap (claims_in k) (item-added at (dirty_with bytes) new-dbuf ds absent) ∙ claims-stay-by-new k ds new-dbuf refl

-- ---- what is given up

-- what is listed for the cell behind a release
pub release-lists : (cache : Cache) (i : ℕ) (p : PartyPlace) (before : OnHeap) (es : List Event) (q r : PartyPlace) (h : HasTaken cache i p before es q) (k : Key) (sole : Bool)
    → Does dbuf_meanings cache.config k (Release (cell_number cache.config i) k sole ∷ []) q r → list_at i r.own.listed ≡ without_hold k (list_at i q.own.listed)
release-lists cache i p before es q r h k sole d =
    let c = cell_number cache.config i in
    let hs = list_at i q.own.listed in
    cell-lists dbuf_meanings cache.config h.valid k (Release c k sole ∷ []) q r h.party.config d i h.cell (among-held cache i p before es q r h)
    ∙ ap (λ (b : Bool). if b then without_hold k hs else hs) (eq-eqb c c refl)

-- a release with the cell's number c of the hold that was kept, or none where what was kept, if anything, was no hold
abbrev pub IsReleaseOf : (c : ℕ) → Option Kept → List Event → Type 0
IsReleaseOf c kept es = ((option_map_or is_held kept false ≡ false) × (es ≡ [])) ⊎ ((k : Kept) × (sole : Bool) × (kept ≡ Some k) × (es ≡ Release c (key_of k) sole ∷ []) × (is_held k ≡ true))

-- the party once it has given up what a dbuf kept, and what it lists then
pub record GivenUp (cache : Cache) (i : ℕ) (p : PartyPlace) (before : OnHeap) (es : List Event) (kept : Option Kept) (left : List Ptr) (r : PartyPlace) : Type 0 where
  pub released : List Event
  pub told : IsReleaseOf (cell_number cache.config i) kept released
  pub party : HasTaken cache i p before (es ++ released) r
  pub holds : AreHolds left (list_at i r.own.listed)

module _ (cache : Cache) (i : ℕ) (p : PartyPlace) (before : OnHeap) (evicting : Evicting) (news : List CellEvent) (es : List Event) (old : CellLog Kept) (q r : PartyPlace) (h : InHand cache i p before evicting news es old q) where
  pub same-party : (kept : Option Kept) (left : List Ptr) → option_map_or is_held kept false ≡ false → AreHolds left (list_at i q.own.listed) → r ≡ q → GivenUp cache i p before es kept left r
  same-party kept left loose holds is = subst (GivenUp cache i p before es kept left) (sym is) record {
    released = [];
    told = inl (loose, refl);
    party = subst (λ (l : List Event). HasTaken cache i p before l q) (sym (append-nil es)) h.party;
    holds = holds;
  }

  -- a dbuf's block goes: its hold is released, or it was loose
  pub given-up : (at : Oid) (f : Dbuf Kept → Dbuf Kept) → ((d : Dbuf Kept) → (f d).kept ≡ None) → (k : Kept) → DbufHas (λ d. d.kept ≡ Some k) (dbuf_at at old.dbufs) → GivesUp cache.config i (Some k) q r
      → GivenUp cache i p before es (Some k) (holds_in key_of bytes_of is_held (with_dbuf at f old.dbufs)) r
  given-up at f none-kept (Held hold) there back =
      let d = is-dbuf (λ x. x.kept ≡ Some (Held hold)) (dbuf_at at old.dbufs) there in
      let one = kept-one at old.dbufs d.dbuf (Held hold) d.there d.has refl in
      let listed = h.holds.among one.0 (ptr_of hold) one.1 in
      record {
        released = Release (cell_number cache.config i) hold.key back.0 ∷ [];
        told = inr (Held hold, back.0, refl, refl, refl);
        party = taken-more cache i p before es q r h.party (Release (cell_number cache.config i) hold.key back.0) hold.key refl back.1;
        holds = subst (AreHolds (holds_in key_of bytes_of is_held (with_dbuf at f old.dbufs))) (sym (release-lists cache i p before es q r h.party hold.key back.0 back.1))
            (one-less hold.key (ptr_of hold) (holds_of old) (holds_in key_of bytes_of is_held (with_dbuf at f old.dbufs)) (list_at i q.own.listed) h.holds
            (alike-listed cache i p before es q r h.party hold.key _ back.1 (ptr_of hold) refl listed)
            (left-held at f none-kept old.dbufs d.dbuf hold d.there d.has)
            (λ x. taken-out at f none-kept x old.dbufs));
      }
  given-up at f none-kept (Loose key block) there back =
      let d = is-dbuf (λ x. x.kept ≡ Some (Loose key block)) (dbuf_at at old.dbufs) there in
      same-party (Some (Loose key block)) (holds_in key_of bytes_of is_held (with_dbuf at f old.dbufs)) refl
      (record {
        count = λ j. left-loose at f none-kept old.dbufs d.dbuf (Some (Loose key block)) d.there d.has refl j ∙ h.holds.count j;
        among = λ j x at'. let one = taken-out at f none-kept x old.dbufs (j, at') in h.holds.among one.0 x one.1;
      }) back

-- ---- the event

none-of : (o : Option Kept) → is_none o ≡ true → o ≡ None
none-of None h = refl
none-of (Some k) h = absurd (false≢true h)

-- a block that is not clean and cached keeps nothing
keeps-none : (d : Dbuf Kept) → IsFit key_of bytes_of d → is_clean_in is_cached d ≡ false → d.kept ≡ None
keeps-none d fit uncached = go d.content d.state d.kept fit uncached
  where
    go : (c : Content) (s : DbState) (o : Option Kept) → Fits key_of bytes_of c s o → (is_clean c && is_cached s) ≡ false → o ≡ None
    go (content.Dirty bytes) s o f u = none-of o (and-parts (is_cached s) (is_none o) f.0).1
    go (content.Clean ptr) s None f u = refl
    go (content.Clean ptr) s (Some k) f u = absurd (false≢true (sym u ∙ f.0))

-- and no hold
pub none-held : (at : Oid) (ds : List (Dbuf Kept)) → AllByRecursion (IsFit key_of bytes_of) ds → dbuf_is (is_clean_in is_cached) at ds ≡ false → held_at ds at ≡ false
none-held at ds fit uncached = go (dbuf_at at ds) refl
  where
    go : (o : Option (Dbuf Kept)) → dbuf_at at ds ≡ o → option_map_or (λ d. option_map_or is_held d.kept false) o false ≡ false
    go None found = refl
    go (Some d) found = ap (λ (k : Option Kept). option_map_or is_held k false) (keeps-none d
        (has-of (IsFit key_of bytes_of) (dbuf_at at ds) d (all-found (IsFit key_of bytes_of) (λ x. true) at ds fit (ap (λ (o : Option (Dbuf Kept)). option_map_or (λ x. true) o false) found)) found)
        (ap (λ (o : Option (Dbuf Kept)). option_map_or (is_clean_in is_cached) o false) (sym found) ∙ uncached))

module _ (cache : Cache) (i : ℕ) (p : PartyPlace) (before : OnHeap) (evicting : Evicting) (news : List CellEvent) (es : List Event) (now : CellLog Kept) (q r : PartyPlace) (h : InHand cache i p before evicting news es now q)
    (n : ℕ) (at : Oid) (size fill : ℕ) (who : n ≡ q.number) (settled : IsTrue (not (is_due (plain_cell evicting now)))) (quiet : IsAtRest at now.dbufs) where
  abbrev pub bytes : List ℕ
  bytes = replicate size fill

  abbrev pub put-to : CellLog Kept
  put-to = noted (Put n at size fill) (record now { dbufs = written-to at bytes now.dbufs })

  -- the holds where nothing was kept
  pub holds-none : AllByRecursion (IsFit key_of bytes_of) now.dbufs → dbuf_is (is_clean_in is_cached) at now.dbufs ≡ false → AreHolds (holds_in key_of bytes_of is_held (written-to at bytes now.dbufs)) (list_at i q.own.listed)
  holds-none fit uncached = by (bool_cases (has_item dbuf_oid at now.dbufs))
    where
      changed : (d : Dbuf Kept) → dbuf_at at now.dbufs ≡ Some d → AreHolds (holds_in key_of bytes_of is_held (with_dbuf at (dirty_with bytes) now.dbufs)) (list_at i q.own.listed)
      changed d found =
          let none : d.kept ≡ None = keeps-none d (has-of (IsFit key_of bytes_of) (dbuf_at at now.dbufs) d (all-found (IsFit key_of bytes_of) (λ x. true) at now.dbufs fit (ap (λ (o : Option (Dbuf Kept)). option_map_or (λ x. true) o false) found)) found)
          (ap (λ (o : Option (Dbuf Kept)). option_map_or (is_clean_in is_cached) o false) (sym found) ∙ uncached) in
          record {
            count = λ j. left-loose at (dirty_with bytes) (λ y. refl) now.dbufs d None found none refl j ∙ h.holds.count j;
            among = λ j x at'. let one = taken-out at (dirty_with bytes) (λ y. refl) x now.dbufs (j, at') in h.holds.among one.0 x one.1;
          }

      by : (has_item dbuf_oid at now.dbufs ≡ true) ⊎ (has_item dbuf_oid at now.dbufs ≡ false) → AreHolds (holds_in key_of bytes_of is_held (written-to at bytes now.dbufs)) (list_at i q.own.listed)
      by (inl there) = subst (λ (l : List (Dbuf Kept)). AreHolds (holds_in key_of bytes_of is_held l) (list_at i q.own.listed)) (sym (item-changed at (dirty_with bytes) (new-dbuf at bytes now.dbufs) now.dbufs there))
          (let d = is-dbuf (λ x. Unit {0}) (dbuf_at at now.dbufs) (item-has (λ x. Unit {0}) (λ x. tt) at now.dbufs there) in changed d.dbuf d.there)
      by (inr absent) = subst (λ (l : List (Dbuf Kept)). AreHolds (holds_in key_of bytes_of is_held l) (list_at i q.own.listed)) (sym (item-added at (dirty_with bytes) (new-dbuf at bytes now.dbufs) now.dbufs absent))
          (subst (λ (l : List Ptr). AreHolds l (list_at i q.own.listed)) (sym (holds-stay-by-new key_of bytes_of is_held now.dbufs (new-dbuf at bytes now.dbufs) refl)) h.holds)

  pub put-with : (kept : Option Kept) → GivenUp cache i p before es kept (holds_in key_of bytes_of is_held (written-to at bytes now.dbufs)) r → (released : List Event) × InHand cache i p before Must (news ++ Put n at size fill ∷ []) (es ++ released) put-to r
      × IsReleaseOf (cell_number cache.config i) kept released
  put-with kept up =
      let number : r.number ≡ q.number = up.party.number ∙ sym h.party.number in (
        up.released,
        record {
          party = up.party;
          cell = subst (λ (m : ℕ). HasDone m before.value Must (news ++ Put n at size fill ∷ []) put-to) (sym number)
              (done-more q.number before.value now evicting news h.cell (Put n at size fill) [] (written-to at bytes now.dbufs) settled tt (put-follows now n at size fill) who (written-rest at bytes now.dbufs h.cell.rest)
              (λ k other. written-claims at bytes now.dbufs quiet k)
              (held-item is_held at (dirty_with bytes) (λ d. refl) (λ d. refl) (new-dbuf at bytes now.dbufs) refl refl now.dbufs));
          holds = subst (λ (l : List Ptr). AreHolds l (list_at i r.own.listed)) (sym (holds-stay-by-note key_of bytes_of is_held (length now.history + 1) (Some at) (written-to at bytes now.dbufs))) up.holds;
        },
        up.told,
      )
