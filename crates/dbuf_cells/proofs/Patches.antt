-- What is so of a cell in hand to which a part of a block was written.
use Rattle.std.proofs.Common.{◌≡◌, ℕ, ◌+◌, ◌-◌, ◌≤◌, nat_le, Bool, true, false, not, ◌&&◌, if◌then◌else◌, IsTrue, List, [], ◌∷◌, ◌++◌, length, Option, Some, None, refl, sym, ap, ◌∙◌, subst, inl, inr, arith}
use Rattle.std.specs.Prelude.{IfErr, IfSome, OnErr, OnOk, Result, Ok, Err}
use Rattle.std.specs.Option.{option_map, option_map_or}
use Rattle.std.proofs.lemmas.Bool.{false≢true}
use Rattle.std.proofs.lemmas.Bool.Decides.{nat_tests}
use Rattle.blk_ptr.specs.Size.{IsBlockSize}
use Rattle.blk_ptr.specs.declared.key.Key.{Key}
use Rattle.blk_ptr.specs.declared.ptr.Ptr.{Ptr}
use Rattle.vdev_io.specs.declared.device.CacheDev.{Ghosts as DeviceGhosts}
use Rattle.vdev_io.specs.declared.pool.Pool.{Ghosts as PoolGhosts}
use Rattle.arc_core.specs.declared.served.ReadFault.{ReadFault}
use Rattle.arc_core.specs.declared.served.ReadFault.TheVariants as read
use Rattle.arc_core.specs.declared.event.Event.{Event}
use Rattle.arc_core.specs.declared.event.Event.TheVariants.{Release}
use Rattle.arc_table.specs.Cache.{Cache, IsPartyOf}
use Rattle.arc_table.specs.Fronts.{list_at}
use Rattle.arc_table.specs.Geometry.{cell_number}
use Rattle.arc_table.specs.Giving.{AreHolds}
use Rattle.arc_table.specs.Reading.{Outside}
use Rattle.dbuf_state.specs.CellLog.{CellLog, noted}
use Rattle.dbuf_state.specs.Dbufs.{DbufHas, IsOfContent, dbuf_at, dbuf_is, dirty_with, is_cached, is_clean, is_clean_in, is_dirty, mapped_of, plain_block, plain_dbuf, size_of, with_dbuf, written, written_at}
use Rattle.dbuf_state.specs.InHand.{are_at_rest}
use Rattle.dbuf_state.specs.Numbers.{claim_in, claims_in}
use Rattle.dbuf_state.specs.Objects.{AreBytesOf, Evicting, IsBaseAt, Must, PlainDbuf, is_due}
use Rattle.dbuf_state.specs.Objects as plain
use Rattle.dbuf_state.specs.Outline.{Outline, OutlineDbuf, after_all, is_cached_at, mapped_at, outline_of}
use Rattle.dbuf_state.specs.Outline as outline
use Rattle.dbuf_state.specs.Oids.{item_at, oid_eq}
use Rattle.dbuf_state.specs.Soundness.{holds_in, plain_cell}
use Rattle.dbuf_state.specs.declared.dbuf.Content.{Content}
use Rattle.dbuf_state.specs.declared.dbuf.Content.TheVariants.{Clean, Dirty}
use Rattle.dbuf_state.specs.declared.dbuf.Dbuf.{Dbuf}
use Rattle.dbuf_state.specs.declared.event.CellEvent.{CellEvent}
use Rattle.dbuf_state.specs.declared.event.CellEvent.TheVariants.{Patch}
use Rattle.dbuf_state.specs.declared.fault.DbufFault.{DbufFault}
use Rattle.dbuf_state.specs.declared.fault.DbufFault.TheVariants as fault
use Rattle.dbuf_state.specs.declared.oid.Oid.{Oid}
use Rattle.dbuf_state.specs.declared.state.DbState.{DbState}
use Rattle.dbuf_state.specs.declared.state.DbState.TheVariants as state
use Rattle.dbuf_state.specs.declared.state.Mapped.{Mapped}
use Rattle.dbuf_state.specs.declared.state.Mapped.TheVariants as mapped
use Rattle.dbuf_state.specs.declared.window.Window.{Window}
use Rattle.dbuf_state.proofs.HandLemmas.{claims-stay, holds-stay, holds-stay-by-note, plain-dbuf-is, rest-stays, claims-stay-by-note}
use Rattle.dbuf_state.proofs.IndexLemmas.{and-both, bool_cases}
use Rattle.dbuf_state.proofs.OutlineLemmas.{cell-is-in-outline, leads-outline}
use Rattle.dbuf_state.proofs.StepLemmas.{patch-follows, patch-of-clean-follows}
use Rattle.dbuf_cells.specs.Accessing.{EndsInside, Gets, Refuses, no_bytes, no_key}
use Rattle.dbuf_cells.specs.InHand.{Finishes, Gives, GivesUp, HasGiven, HasDone, HoldsStay, InHand, IsOut, MayEvict, MayGive, ClaimsAre, AreClaimedAlike}
use Rattle.dbuf_cells.specs.Kept.{bytes_of, is_held, key_of}
use Rattle.dbuf_cells.specs.Loading.{HasBrought, Tests, mapped_in}
use Rattle.dbuf_cells.specs.Patching.{ChecksKey, EndsPatch, HasPatched, IsPatched, IsSizedIn, TakesOver, Writes}
use Rattle.dbuf_cells.specs.Putting.{Releases, no_hold, one_hold}
use Rattle.dbuf_cells.specs.Turns.{OnHeap, Operates, PartyPlace, held_at, held_in, holds_of, outline_in, KeepsClaims}
use Rattle.dbuf_cells.specs.declared.kept.Kept.{Kept}
use Rattle.dbuf_cells.proofs.Acts.{IsReadFault, has-its-bytes, no-room, no-room-party, after-claims}
use Rattle.dbuf_cells.proofs.Bringings.{in-outline}
use Rattle.dbuf_cells.proofs.Holders.{held-as, operates-as, stays-noted, stays-out, stays-roomy, stays-same, stays-then}
use Rattle.dbuf_cells.specs.Bringing.{held_behind}
use Rattle.dbuf_cells.proofs.CellSteps.{done-more, length-change, length-touched, test-of, oid-is}
use Rattle.dbuf_cells.proofs.Copies.{dirtied-dirty, dirtied-inside}
use Rattle.dbuf_cells.proofs.Evictions.{has-of, kept-out}
use Rattle.dbuf_cells.proofs.Operations.{after-alike, hand-room, operates, plain-test, rest-of, room-settled}
use Rattle.dbuf_cells.proofs.PutSteps.{GivenUp, IsReleaseOf, given-up, same-party}
use Rattle.dbuf_state.proofs.HeldLemmas.{held-cleared, held-same}

-- ---- the outline of a cell in hand

module _ (cache : Cache) (i : ℕ) (p : PartyPlace) (before : OnHeap) (evicting : Evicting) (news : List CellEvent) (es : List Event) (now : CellLog Kept) (q : PartyPlace) (h : InHand cache i p before evicting news es now q) where
  dbufs-now : (after_all (outline_in before) news).dbufs ≡ (outline_of (plain_cell evicting now)).dbufs
  dbufs-now = (after-alike (outline_of (plain_cell h.cell.sound.evicting before.value)) (outline_in before) news refl refl).0
      ∙ ap (λ (o : Outline). o.dbufs) (sym (leads-outline (plain_cell h.cell.sound.evicting before.value) news h.cell.bases (plain_cell evicting now) h.cell.leads))

  pub mapped-now : (at : Oid) → mapped_at at (after_all (outline_in before) news) ≡ mapped_in at now.dbufs
  mapped-now at = ap (λ (l : List OutlineDbuf). option_map (λ (d : OutlineDbuf). d.mapped) (item_at outline.dbuf_oid at l)) dbufs-now ∙ sym (cell-is-in-outline evicting now at).mapped

  pub cached-now : (at : Oid) → is_cached_at at (after_all (outline_in before) news) ≡ dbuf_is (is_clean_in is_cached) at now.dbufs
  cached-now at = ap (λ (l : List OutlineDbuf). option_map_or (λ (d : OutlineDbuf). d.cached) (item_at outline.dbuf_oid at l) false) dbufs-now ∙ sym (cell-is-in-outline evicting now at).cached

-- ---- the part

le-test : (a b : ℕ) → a ≤ b → nat_le a b ≡ true
le-test a b h = grind (arith, nat_tests)

size-there : (c : Content) (s : DbState) → plain.size_of (plain_block c s) ≡ size_of c
size-there (Dirty bytes) s = refl
size-there (Clean ptr) s = by (is_cached s)
  where
    by : (b : Bool) → plain.size_of (if b then plain.Cached ptr else plain.Uncached ptr) ≡ ptr.key.size
    by true = refl
    by false = refl

inside-test : (last : ℕ) (at : Oid) (ds : List (Dbuf Kept)) → dbuf_is (λ d. is_cached d.state) at ds ≡ true → DbufHas (λ d. last ≤ size_of d.content) (dbuf_at at ds)
    → dbuf_is (λ d. plain.has_bytes (plain_dbuf d).block && nat_le last (plain.size_of (plain_dbuf d).block)) at ds ≡ true
inside-test last at ds cached inside = go (dbuf_at at ds) (has-its-bytes at ds cached) inside
  where
    go : (o : Option (Dbuf Kept)) → option_map_or (λ d. plain.has_bytes (plain_dbuf d).block) o false ≡ true → DbufHas (λ d. last ≤ size_of d.content) o
        → option_map_or (λ d. plain.has_bytes (plain_dbuf d).block && nat_le last (plain.size_of (plain_dbuf d).block)) o false ≡ true
    go None b l = absurd l
    go (Some d) b l = and-both _ _ b (le-test last _ (subst (λ (n : ℕ). last ≤ n) (sym (size-there d.content d.state)) l))

claim-written : (k : ℕ) (at : Oid) (from : ℕ) (bytes : List ℕ) (c : Content) (s : DbState) → claim_in k at (written from bytes c) s ≡ claim_in k at c s
claim-written k at from bytes (Clean ptr) s = refl
claim-written k at from bytes (Dirty old) s = refl

base-at : (base : List ℕ) (evicting : Evicting) (now : CellLog Kept) (at : Oid) → ((d : Dbuf Kept) → dbuf_at at now.dbufs ≡ Some d → AreBytesOf base (plain_block d.content d.state)) → IsBaseAt base (plain.dbuf_at at (plain_cell evicting now))
base-at base evicting now at each = subst (IsBaseAt base) (sym (plain-dbuf-is evicting now at)) (go (dbuf_at at now.dbufs) each)
  where
    go : (o : Option (Dbuf Kept)) → ((d : Dbuf Kept) → o ≡ Some d → AreBytesOf base (plain_block d.content d.state)) → IsBaseAt base (option_map plain_dbuf o)
    go None e = tt
    go (Some d) e = e d refl

kept-base : (k : Kept) (c : Content) (s : DbState) → IsOfContent key_of bytes_of k c → AreBytesOf (bytes_of k) (plain_block c s)
kept-base k (Dirty bytes) s of = absurd of
kept-base k (Clean ptr) s of = by (is_cached s)
  where
    by : (b : Bool) → AreBytesOf (bytes_of k) (if b then plain.Cached ptr else plain.Uncached ptr)
    by true = of.bytes
    by false = of.bytes

-- the bytes of a dirty block
dirty-list : (at : Oid) (ds : List (Dbuf Kept)) → dbuf_is is_dirty at ds ≡ true → (base : List ℕ) × DbufHas (λ d. d.content ≡ Dirty base) (dbuf_at at ds)
dirty-list at ds dirty = go (dbuf_at at ds) dirty
  where
    one : (d : Dbuf Kept) (c : Content) → d.content ≡ c → not (is_clean c) ≡ true → (base : List ℕ) × (d.content ≡ Dirty base)
    one d (Dirty base) is h = (base, is)
    one d (Clean ptr) is h = absurd (false≢true h)

    go : (o : Option (Dbuf Kept)) → option_map_or is_dirty o false ≡ true → (base : List ℕ) × DbufHas (λ d. d.content ≡ Dirty base) o
    go None h = absurd (false≢true h)
    go (Some d) h = one d d.content refl h

-- nobody claims a block that is cached
cached-none : (m : ℕ) (at : Oid) (c : Content) (s : DbState) → (is_clean c && is_cached s) ≡ true → claim_in m at c s ≡ []
cached-none m at (Dirty bytes) s h = refl
cached-none m at (Clean ptr) state.Uncached h = absurd (false≢true h)
cached-none m at (Clean ptr) (state.Read n) h = absurd (false≢true h)
cached-none m at (Clean ptr) state.Fill h = absurd (false≢true h)
cached-none m at (Clean ptr) state.Cached h = refl
cached-none m at (Clean ptr) state.Evicting h = absurd (false≢true h)

-- where no hold is kept none is let go
none-already : (at b : Oid) (ds : List (Dbuf Kept)) → held_at ds at ≡ false → (if oid_eq b at then false else held_at ds b) ≡ held_at ds b
none-already at b ds loose = elim (bool_cases (oid_eq b at)) [
  | inl same ↦ let none : held_at ds b ≡ false = ap (held_at ds) (oid-is b at same) ∙ loose in rw same (sym none)
  | inr other ↦ rw other refl
]

-- ---- the cell

module _ (cache : Cache) (i : ℕ) (p : PartyPlace) (before : OnHeap) (evicting : Evicting) (news : List CellEvent) (es : List Event) (now : CellLog Kept) (q r : PartyPlace) (h : InHand cache i p before evicting news es now q)
    (n : ℕ) (at : Oid) (from : ℕ) (bytes : List ℕ) (who : n ≡ q.number) (settled : IsTrue (not (is_due (plain_cell evicting now)))) (cached : dbuf_is (λ d. is_cached d.state) at now.dbufs ≡ true)
    (inside : DbufHas (λ d. from + length bytes ≤ size_of d.content) (dbuf_at at now.dbufs)) where
  patch-legal : IsTrue (not (is_due (plain_cell evicting now)) && plain.dbuf_is (λ d. plain.has_bytes d.block && nat_le (from + length bytes) (plain.size_of d.block)) at (plain_cell evicting now))
  patch-legal = and-both _ _ settled (plain-test evicting now at (λ d. plain.has_bytes d.block && nat_le (from + length bytes) (plain.size_of d.block)) ∙ inside-test (from + length bytes) at now.dbufs cached inside)

  written-rest : (ds : List (Dbuf Kept)) → IsTrue (are_at_rest ds) → IsTrue (are_at_rest (with_dbuf at (written_at from bytes) ds))
  written-rest ds rest = rest-stays at (written_at from bytes) ds (λ d found. rest-of at ds d rest found) rest

  written-claims : (k : ℕ) (ds : List (Dbuf Kept)) → claims_in k (with_dbuf at (written_at from bytes) ds) ≡ claims_in k ds
  written-claims k ds = claims-stay at (written_at from bytes) k ds (λ d found. claim-written k d.at from bytes d.content d.state)

  -- with the holds that are listed once what was kept is given up
  patch-with : (ds : List (Dbuf Kept)) (kept : Option Kept) → HasDone q.number before.value Must (news ++ Patch n at from bytes ∷ []) (noted (Patch n at from bytes) (record now { dbufs = with_dbuf at (written_at from bytes) ds }))
      → (up : GivenUp cache i p before es kept (holds_in key_of bytes_of is_held ds) r)
      → InHand cache i p before Must (news ++ Patch n at from bytes ∷ []) (es ++ up.released) (noted (Patch n at from bytes) (record now { dbufs = with_dbuf at (written_at from bytes) ds })) r
  patch-with ds kept done up =
      let number : r.number ≡ q.number = up.party.number ∙ sym h.party.number in
      record {
        party = up.party;
        cell = subst (λ (m : ℕ). HasDone m before.value Must (news ++ Patch n at from bytes ∷ []) (noted (Patch n at from bytes) (record now { dbufs = with_dbuf at (written_at from bytes) ds }))) (sym number) done;
        holds = subst (λ (l : List Ptr). AreHolds l (list_at i r.own.listed))
            (sym (holds-stay-by-note key_of bytes_of is_held (length now.history + 1) (Some at) (with_dbuf at (written_at from bytes) ds) ∙ holds-stay key_of bytes_of is_held at (written_at from bytes) ds (λ d. refl))) up.holds;
      }

  -- of a clean block
  done-clean : (k : Kept) → dbuf_is (is_clean_in is_cached) at now.dbufs ≡ true → DbufHas (λ d. IsOfContent key_of bytes_of k d.content) (dbuf_at at now.dbufs)
      → HasDone q.number before.value Must (news ++ Patch n at from bytes ∷ []) (noted (Patch n at from bytes) (record now { dbufs = with_dbuf at (written_at from bytes) (with_dbuf at (dirty_with (bytes_of k)) now.dbufs) }))
  done-clean k clean of =
      let X = with_dbuf at (dirty_with (bytes_of k)) now.dbufs in
      done-more q.number before.value now evicting news h.cell (Patch n at from bytes) (bytes_of k) (with_dbuf at (written_at from bytes) X) patch-legal
      (base-at (bytes_of k) evicting now at (λ d found. kept-base k d.content d.state (has-of (λ x. IsOfContent key_of bytes_of k x.content) (dbuf_at at now.dbufs) d of found)))
      (patch-of-clean-follows now n at from bytes (bytes_of k)) who
      (written-rest X (rest-stays at (dirty_with (bytes_of k)) now.dbufs (λ d found. refl) h.cell.rest))
      (λ k' other. written-claims k' X ∙ claims-stay at (dirty_with (bytes_of k)) k' now.dbufs (λ d found. sym (cached-none k' d.at d.content d.state (test-of (is_clean_in is_cached) at now.dbufs d clean found))))
      (λ b. held-same is_held at (written_at from bytes) (λ d. refl) (λ d. refl) X b ∙ held-cleared is_held at (dirty_with (bytes_of k)) (λ d. refl) (λ d. refl) now.dbufs b)

  -- of a dirty one
  done-dirty : dbuf_is is_dirty at now.dbufs ≡ true → held_at now.dbufs at ≡ false → HasDone q.number before.value Must (news ++ Patch n at from bytes ∷ []) (noted (Patch n at from bytes) (record now { dbufs = with_dbuf at (written_at from bytes) now.dbufs }))
  done-dirty dirty loose =
      let b = dirty-list at now.dbufs dirty in
      done-more q.number before.value now evicting news h.cell (Patch n at from bytes) b.0 (with_dbuf at (written_at from bytes) now.dbufs) patch-legal
      (base-at b.0 evicting now at (λ d found. let is = has-of (λ x. x.content ≡ Dirty b.0) (dbuf_at at now.dbufs) d b.1 found in subst (λ (c : Content). AreBytesOf b.0 (plain_block c d.state)) (sym is) refl))
      (patch-follows now n at from bytes b.0 b.1) who (written-rest now.dbufs h.cell.rest) (λ k' other. written-claims k' now.dbufs)
      (λ b'. held-same is_held at (written_at from bytes) (λ d. refl) (λ d. refl) now.dbufs b' ∙ sym (none-already at b' now.dbufs loose))

still-clean : (from : ℕ) (bytes : List ℕ) (c : Content) (s : DbState) → (is_clean (written from bytes c) && is_cached s) ≡ (is_clean c && is_cached s)
still-clean from bytes (Clean ptr) s = refl
still-clean from bytes (Dirty old) s = refl

-- ---- the call

module _ (cache : Cache) (i : ℕ) (n : ℕ) (at : Oid) (from : ℕ) (bytes : List ℕ) (kept : Option Kept) (now c : CellLog Kept) (q : PartyPlace) (who : n ≡ q.number) (cached : dbuf_is (λ d. is_cached d.state) at now.dbufs ≡ true)
    (inside : DbufHas (λ d. from + length bytes ≤ size_of d.content) (dbuf_at at now.dbufs)) (u : IsPatched n at from bytes kept now c) where
  cached-roomy : dbuf_is (λ d. is_cached d.state) at u.roomy.dbufs ≡ true
  cached-roomy = ap (λ (x : CellLog Kept). dbuf_is (λ d. is_cached d.state) at x.dbufs) u.made ∙ cached

  inside-roomy : DbufHas (λ d. from + length bytes ≤ size_of d.content) (dbuf_at at u.roomy.dbufs)
  inside-roomy = subst (λ (x : CellLog Kept). DbufHas (λ d. from + length bytes ≤ size_of d.content) (dbuf_at at x.dbufs)) (sym u.made) inside

  -- what was taken out is the party's to give up
  pub patch-out : MayGive cache i now q → IfSome kept (IsOut cache.config i q)
  patch-out m = go kept u.over
    where
      go : (o : Option Kept) → TakesOver at o u.roomy u.owned → IfSome o (IsOut cache.config i q)
      go None t = tt
      go (Some k) t = kept-out cache i m.from m.before m.evicting m.news m.es u.roomy q (hand-room cache i m.from m.before m.evicting m.news m.es now q m.hand u.roomy u.made) at k t.there

  pub record Patched (p : PartyPlace) (before : OnHeap) (news : List CellEvent) (es : List Event) (r : PartyPlace) : Type 0 where
    pub released : List Event
    pub releases : Releases (cell_number cache.config i) at (held_at now.dbufs at) (after_all (outline_in before) news) released
    pub stay : HoldsStay now.dbufs c.dbufs
    pub hand : InHand cache i p before Must (news ++ Patch n at from bytes ∷ []) (es ++ released) c r

  pub patched : (r : PartyPlace) → GivesUp cache.config i kept q r → (p : PartyPlace) (before : OnHeap) (evicting : Evicting) (news : List CellEvent) (es : List Event) → IsTrue (not (is_due (plain_cell evicting now)))
      → InHand cache i p before evicting news es now q → Patched p before news es r
  patched r gives p before evicting news es settled hand = go kept u.over gives u.noted_is
    where
      h : InHand cache i p before evicting news es u.roomy q
      h = hand-room cache i p before evicting news es now q hand u.roomy u.made

      s : IsTrue (not (is_due (plain_cell evicting u.roomy)))
      s = room-settled evicting now u.roomy u.made settled

      -- what is written over a dirty block says nothing of what others keep
      stays-written : (x : CellLog Kept) → HoldsStay now.dbufs x.dbufs → HoldsStay now.dbufs (noted (Patch n at from bytes) (record x { dbufs = with_dbuf at (written_at from bytes) x.dbufs })).dbufs
      stays-written x stay = stays-noted (Patch n at from bytes) (record x { dbufs = with_dbuf at (written_at from bytes) x.dbufs }) now.dbufs
          (stays-then now.dbufs x.dbufs (with_dbuf at (written_at from bytes) x.dbufs) stay (stays-same at (written_at from bytes) (λ d. refl) (λ d. still-clean from bytes d.content d.state) (λ d. refl) x.dbufs))

      told : (k : Kept) (released : List Event) → DbufHas (λ d. IsOfContent key_of bytes_of k d.content) (dbuf_at at u.roomy.dbufs) → dbuf_is (is_clean_in is_cached) at u.roomy.dbufs ≡ true
          → held_at now.dbufs at ≡ is_held k → IsReleaseOf (cell_number cache.config i) (Some k) released
          → Releases (cell_number cache.config i) at (held_at now.dbufs at) (after_all (outline_in before) news) released
      told k released of clean was (inl none) = no_hold (was ∙ none.0) none.1
      told k released of clean was (inr one) =
          let ptr = pointer of in
          one_hold (was ∙ (ap is_held (some-one k one.0 one.2) ∙ one.4)) ptr.0 one.1 (mapped-now cache i p before evicting news es u.roomy q h at ∙ ptr.1) (cached-now cache i p before evicting news es u.roomy q h at ∙ clean)
          (one.3 ∙ ap (λ (x : Key). Release (cell_number cache.config i) x one.1 ∷ []) (ap key_of (sym (some-one k one.0 one.2)) ∙ ptr.2))
        where
          some-one : (a b : Kept) → ◌≡◌ {A = Option Kept} (Some a) (Some b) → a ≡ b
          some-one a b e = cc

          content : (c : Content) → IsOfContent key_of bytes_of k c → (ptr : Ptr) × (◌≡◌ {A = Option Mapped} (Some (mapped_of c)) (Some (mapped.Clean ptr))) × (key_of k ≡ ptr.key)
          content (Clean ptr) of = (ptr, refl, of.key)
          content (Dirty bytes) of = absurd of

          found : (o : Option (Dbuf Kept)) → DbufHas (λ d. IsOfContent key_of bytes_of k d.content) o → (ptr : Ptr) × (option_map (λ d. mapped_of d.content) o ≡ Some (mapped.Clean ptr)) × (key_of k ≡ ptr.key)
          found None of = absurd of
          found (Some d) of = content d.content of

          pointer : DbufHas (λ d. IsOfContent key_of bytes_of k d.content) (dbuf_at at u.roomy.dbufs) → (ptr : Ptr) × (mapped_in at u.roomy.dbufs ≡ Some (mapped.Clean ptr)) × (key_of k ≡ ptr.key)
          pointer of = found (dbuf_at at u.roomy.dbufs) of

      go : (o : Option Kept) → TakesOver at o u.roomy u.owned → GivesUp cache.config i o q r → c ≡ noted (Patch n at from bytes) (record u.owned { dbufs = with_dbuf at (written_at from bytes) u.owned.dbufs }) → Patched p before news es r
      go None t g is =
          let up = same-party cache i p before evicting news es u.roomy q r h None (holds_of u.roomy) refl h.holds g in
          let hand = patch-with cache i p before evicting news es u.roomy q r h n at from bytes who s cached-roomy inside-roomy u.roomy.dbufs None (done-dirty cache i p before evicting news es u.roomy q r h n at from bytes who s cached-roomy inside-roomy t.dirty t.loose) up in
          record {
            released = up.released;
            releases = none up.released up.told;
            stay = subst (λ (x : CellLog Kept). HoldsStay now.dbufs x.dbufs) (sym is) (stays-written u.owned (subst (λ (x : CellLog Kept). HoldsStay now.dbufs x.dbufs) (sym t.same) (stays-roomy now u.roomy u.made)));
            hand = subst (λ (x : CellLog Kept). InHand cache i p before Must (news ++ Patch n at from bytes ∷ []) (es ++ up.released) x r)
                (sym (is ∙ ap (λ (x : CellLog Kept). noted (Patch n at from bytes) (record x { dbufs = with_dbuf at (written_at from bytes) x.dbufs })) t.same)) hand;
          }
        where
          none : (released : List Event) → IsReleaseOf (cell_number cache.config i) None released → Releases (cell_number cache.config i) at (held_at now.dbufs at) (after_all (outline_in before) news) released
          none released (inl e) = no_hold (ap (λ (x : CellLog Kept). held_at x.dbufs at) (sym u.made) ∙ t.loose) e.1
          none released (inr one) = absurd (let clash : ◌≡◌ {A = Option Kept} None (Some one.0) = one.2 in cc)
      go (Some k) t g is =
          let up = given-up cache i p before evicting news es u.roomy q r h at (dirty_with (bytes_of k)) (λ d. refl) k t.there g in
          let hand = patch-with cache i p before evicting news es u.roomy q r h n at from bytes who s cached-roomy inside-roomy (with_dbuf at (dirty_with (bytes_of k)) u.roomy.dbufs) (Some k)
          (done-clean cache i p before evicting news es u.roomy q r h n at from bytes who s cached-roomy inside-roomy k t.cached t.of) up in
          record {
            released = up.released;
            releases = told k up.released t.of t.cached (ap (λ (x : CellLog Kept). held_at x.dbufs at) (sym u.made) ∙ held-as at k u.roomy.dbufs t.there) up.told;
            stay = subst (λ (x : CellLog Kept). HoldsStay now.dbufs x.dbufs) (sym is)
                (stays-written u.owned (subst (λ (x : CellLog Kept). HoldsStay now.dbufs x.dbufs) (sym t.taken)
                (stays-then now.dbufs u.roomy.dbufs (with_dbuf at (dirty_with (bytes_of k)) u.roomy.dbufs) (stays-roomy now u.roomy u.made) (stays-out at (dirty_with (bytes_of k)) (λ d. refl) (λ d. refl) u.roomy.dbufs))));
            hand = subst (λ (x : CellLog Kept). InHand cache i p before Must (news ++ Patch n at from bytes ∷ []) (es ++ up.released) x r)
                (sym (is ∙ ap (λ (x : CellLog Kept). noted (Patch n at from bytes) (record x { dbufs = with_dbuf at (written_at from bytes) x.dbufs })) t.taken)) (other-room up.released hand);
          }
        where
          other-room : (released : List Event) → InHand cache i p before Must (news ++ Patch n at from bytes ∷ []) (es ++ released) (noted (Patch n at from bytes) (record u.roomy { dbufs = with_dbuf at (written_at from bytes) (with_dbuf at (dirty_with (bytes_of k)) u.roomy.dbufs) })) r
              → InHand cache i p before Must (news ++ Patch n at from bytes ∷ []) (es ++ released)
              (noted (Patch n at from bytes) (record u.roomy { dbufs = with_dbuf at (written_at from bytes) (with_dbuf at (dirty_with (bytes_of k)) u.roomy.dbufs); dbuf_room = u.owned.dbuf_room })) r
          other-room released hand = hand-room cache i p before Must (news ++ Patch n at from bytes ∷ []) (es ++ released)
              (noted (Patch n at from bytes) (record u.roomy { dbufs = with_dbuf at (written_at from bytes) (with_dbuf at (dirty_with (bytes_of k)) u.roomy.dbufs) })) r hand
              (noted (Patch n at from bytes) (record u.roomy { dbufs = with_dbuf at (written_at from bytes) (with_dbuf at (dirty_with (bytes_of k)) u.roomy.dbufs); dbuf_room = u.owned.dbuf_room })) refl

  pub patch-evicts : MayGive cache i now q → (r : PartyPlace) → GivesUp cache.config i kept q r → MayEvict cache i c r
  patch-evicts m r gives =
      let x = patched r gives m.from m.before m.evicting m.news m.es m.settled m.hand in
      record { from = m.from; before = m.before; evicting = Must; news = m.news ++ Patch n at from bytes ∷ []; es = m.es ++ x.released; hand = x.hand; may = refl }

  pub patch-ends : (r s : PartyPlace) → GivesUp cache.config i kept q r → Finishes cache i c r s → EndsPatch cache i at from bytes now q s
  patch-ends r s gives finishes p before evicting news es settled h =
      let x = patched r gives p before evicting news es settled h in
      let f = finishes p before Must (news ++ Patch n at from bytes ∷ []) (es ++ x.released) refl x.hand in
      subst (λ (m : ℕ). HasPatched cache i at from bytes m p before (held_at now.dbufs) news es s) who record {
        released = x.released;
        releases = x.releases;
        operates = operates cache i p before Must (news ++ Patch n at from bytes ∷ []) (es ++ x.released) c r x.hand (held_at now.dbufs) (λ b on. (x.stay b on).1) s f;
        party = f.given.party;
        held = f.given.held;
        number = f.given.number;
        others = f.given.others;
      }

-- ---- what may be written over

pub over-dirty : (at : Oid) (kept : Option Kept) (old new : CellLog Kept) → TakesOver at kept old new → dbuf_is is_dirty at new.dbufs ≡ true
over-dirty at None old new t = ap (λ (x : CellLog Kept). dbuf_is is_dirty at x.dbufs) t.same ∙ t.dirty
over-dirty at (Some k) old new t = ap (λ (x : CellLog Kept). dbuf_is is_dirty at x.dbufs) t.taken ∙ dirtied-dirty k at old.dbufs t.of

pub over-inside : (last : ℕ) (at : Oid) (kept : Option Kept) (old new : CellLog Kept) → TakesOver at kept old new → DbufHas (λ d. last ≤ size_of d.content) (dbuf_at at old.dbufs) → DbufHas (λ d. last ≤ size_of d.content) (dbuf_at at new.dbufs)
over-inside last at None old new t inside = subst (λ (x : CellLog Kept). DbufHas (λ d. last ≤ size_of d.content) (dbuf_at at x.dbufs)) (sym t.same) inside
over-inside last at (Some k) old new t inside = subst (λ (x : CellLog Kept). DbufHas (λ d. last ≤ size_of d.content) (dbuf_at at x.dbufs)) (sym t.taken) (dirtied-inside last k at old.dbufs t.of inside)

pub over-rooms : (at : Oid) (kept : Option Kept) (old new : CellLog Kept) → TakesOver at kept old new → (new.event_room ≡ old.event_room) × (length new.dbufs ≡ length old.dbufs)
over-rooms at None old new t = (ap (λ (x : CellLog Kept). x.event_room) t.same, ap (λ (x : CellLog Kept). length x.dbufs) t.same)
over-rooms at (Some k) old new t = (ap (λ (x : CellLog Kept). x.event_room) t.taken, ap (λ (x : CellLog Kept). length x.dbufs) t.taken ∙ length-change at (dirty_with (bytes_of k)) old.dbufs)

pub patch-room : (n : ℕ) (at : Oid) (from : ℕ) (bytes : List ℕ) (kept : Option Kept) (old c : CellLog Kept) → IsPatched n at from bytes kept old c → length c.dbufs ≤ c.event_room
patch-room n at from bytes kept old c u =
    let o = over-rooms at kept u.roomy u.owned u.over in
    let rooms : u.owned.event_room ≡ u.roomy.event_room = o.0 in
    let lens : length u.owned.dbufs ≡ length u.roomy.dbufs = o.1 in
    let a : length c.dbufs ≡ length (with_dbuf at (written_at from bytes) u.owned.dbufs) = ap (λ (x : CellLog Kept). length x.dbufs) u.noted_is ∙ length-touched _ (Some at) (with_dbuf at (written_at from bytes) u.owned.dbufs) in
    let b : length (with_dbuf at (written_at from bytes) u.owned.dbufs) ≡ length u.owned.dbufs = length-change at (written_at from bytes) u.owned.dbufs in
    let d : length u.roomy.dbufs ≡ length old.dbufs = ap (λ (x : CellLog Kept). length x.dbufs) u.made in
    let e : c.event_room ≡ u.owned.event_room - 1 = ap (λ (x : CellLog Kept). x.event_room) u.noted_is in
    let f = u.room in
    omega arith

-- ---- the answers

module _ {P D : Type 0} (pools : PoolGhosts P) (devices : DeviceGhosts D) (cache : Cache) (i : ℕ) (at : Oid) (tick : ℕ) (before now : Outside P D) (cell : OnHeap) (p r : PartyPlace) (from : ℕ) (bytes : List ℕ) where
  pub test-patch : (m : Option Mapped) (why : DbufFault) → m ≡ mapped_in at cell.value.dbufs → Tests {T = Unit {0}} at (from + length bytes) m (Err why) → HasGiven cache i p cell [] [] r → now ≡ before
      → Writes pools devices cache.config i at tick before now {T = Unit {0}} from bytes cell p r (Err why)
  test-patch None (fault.NoBlock named) is t given same = record { named_is = t; none = in-outline cell at ∙ sym is; turn = given.turn; outside = same }
  test-patch None (fault.Range end size) is t given same = absurd t
  test-patch None (fault.NoPin named) is t given same = absurd t
  test-patch None (fault.Read cause) is t given same = absurd t
  test-patch None fault.NoMemory is t given same = absurd t
  test-patch (Some m) (fault.Range end size) is t given same = record { end_is = t.0; mapped = m; there = in-outline cell at ∙ sym is; size_is = t.1; past = t.2; turn = given.turn; outside = same }
  test-patch (Some m) (fault.NoBlock named) is t given same = absurd t
  test-patch (Some m) (fault.NoPin named) is t given same = absurd t
  test-patch (Some m) (fault.Read cause) is t given same = absurd t
  test-patch (Some m) fault.NoMemory is t given same = absurd t

  -- a clean block's key names none of the pool
  pub key-patch : (m : Option Mapped) (cause : ReadFault) → m ≡ mapped_in at cell.value.dbufs → ChecksKey {T = Unit {0}} (pools.size before.pool) m (Err cause) → EndsInside pools devices cache.config i at tick before now (from + length bytes) cell
      → HasGiven cache i p cell [] [] r → now ≡ before → Writes pools devices cache.config i at tick before now {T = Unit {0}} from bytes cell p r (Err (fault.Read cause))
  key-patch None cause is t inside given same = absurd t
  key-patch (Some (mapped.Dirty size)) cause is t inside given same = absurd t
  key-patch (Some (mapped.Clean ptr)) (read.Key why) is t inside given same = (inside, no_key why refl (record { ptr = ptr; there = in-outline cell at ∙ sym is; first = t; turn = given.turn; outside = same }))
  key-patch (Some (mapped.Clean ptr)) read.PoolFault is t inside given same = absurd t
  key-patch (Some (mapped.Clean ptr)) (read.Mismatch found) is t inside given same = absurd t
  key-patch (Some (mapped.Clean ptr)) read.NoMemory is t inside given same = absurd t

  -- the same of a get
  pub key-get : (w : Window) (m : Option Mapped) (cause : ReadFault) → m ≡ mapped_in at cell.value.dbufs → ChecksKey {T = Unit {0}} (pools.size before.pool) m (Err cause) → EndsInside pools devices cache.config i at tick before now (w.at + w.len) cell
      → HasGiven cache i p cell [] [] r → now ≡ before → Gets pools devices cache.config i at tick before now w cell p r (Err (fault.Read cause))
  key-get w None cause is t inside given same = absurd t
  key-get w (Some (mapped.Dirty size)) cause is t inside given same = absurd t
  key-get w (Some (mapped.Clean ptr)) (read.Key why) is t inside given same = (inside, no_key why refl (record { ptr = ptr; there = in-outline cell at ∙ sym is; first = t; turn = given.turn; outside = same }))
  key-get w (Some (mapped.Clean ptr)) read.PoolFault is t inside given same = absurd t
  key-get w (Some (mapped.Clean ptr)) (read.Mismatch found) is t inside given same = absurd t
  key-get w (Some (mapped.Clean ptr)) read.NoMemory is t inside given same = absurd t

  pub refuses-patch : (why : DbufFault) → IsReadFault why → EndsInside pools devices cache.config i at tick before now (from + length bytes) cell → Refuses pools devices cache.config i at tick before now cell p r why
      → Writes pools devices cache.config i at tick before now {T = Unit {0}} from bytes cell p r (Err why)
  refuses-patch (fault.Read cause) is inside refuses = (inside, no_bytes refuses)
  refuses-patch fault.NoMemory is inside refuses = (inside, no_bytes refuses)
  refuses-patch (fault.NoBlock named) is inside refuses = absurd is
  refuses-patch (fault.Range end size) is inside refuses = absurd is
  refuses-patch (fault.NoPin named) is inside refuses = absurd is

  module _ (result : OnHeap) (q : PartyPlace) (b : HasBrought pools devices cache i at tick before now cell p result q) where
    patched-by : EndsPatch cache i at from bytes result.value q r → HasPatched cache i at from bytes q.number b.back b.mid (held_at result.value.dbufs) b.loads b.hands r
    patched-by ends = ends b.back b.mid b.evicting b.loads b.hands b.settled b.hand

    pub patch-answers : (done : Result (Unit {0}) DbufFault) → EndsInside pools devices cache.config i at tick before now (from + length bytes) cell → OnOk done (EndsPatch cache i at from bytes result.value q r)
        → OnErr done (Gives cache i result.value q r) → IfErr done (λ why. why ≡ fault.NoMemory) → Writes pools devices cache.config i at tick before now from bytes cell p r done
    patch-answers (Ok done) inside ok err why =
        let x = patched-by ok in
        record {
          back = b.back;
          mid = b.mid;
          loads = b.loads;
          hands = b.hands;
          brings = b.brings;
          es = x.released;
          releases = subst (λ (h : Bool). Releases (cell_number cache.config i) at h (after_all (outline_in b.mid) b.loads) x.released) (b.holds at) x.releases;
          operates = operates-as (held_at result.value.dbufs) (held_behind at b.loads b.hands (held_in b.mid)) b.holds
              (subst (λ (n : ℕ). Operates cache.config i b.mid (held_at result.value.dbufs) (b.loads ++ Patch n at from bytes ∷ []) (b.hands ++ x.released) b.back r) (b.hand.party.number ∙ b.number) x.operates);
        }
    patch-answers (Err e) inside ok err why =
        refuses-patch e (subst IsReadFault (sym why) tt) inside (subst (Refuses pools devices cache.config i at tick before now cell p r) (sym why) (no-room pools devices cache i at tick before now cell p result q b r err))

    pub patch-party : (done : Result (Unit {0}) DbufFault) → OnOk done (EndsPatch cache i at from bytes result.value q r) → OnErr done (Gives cache i result.value q r) → IsPartyOf cache r × (r.held ≡ [])
    patch-party (Ok done) ok err = let x = patched-by ok in (x.party, x.held ∙ b.held)
    patch-party (Err e) ok err = no-room-party pools devices cache i at tick before now cell p result q b r err

    pub patched-number : (done : Result (Unit {0}) DbufFault) → OnOk done (EndsPatch cache i at from bytes result.value q r) → OnErr done (Gives cache i result.value q r) → r.number ≡ p.number
    patched-number (Ok done) ok err = let x = patched-by ok in x.number ∙ b.number
    patched-number (Err e) ok err = let g = err b.back b.mid b.evicting b.loads b.hands b.settled b.hand in g.number ∙ b.number

    pub patched-claims : ClaimsAre i r.number result.value r → (done : Result (Unit {0}) DbufFault) → OnOk done (EndsPatch cache i at from bytes result.value q r) → OnErr done (Gives cache i result.value q r) → KeepsClaims p r
    patched-claims is (Ok done) ok err = let x = patched-by ok in after-claims pools devices cache i at tick before now cell p result q b r is x.number x.others
    patched-claims is (Err e) ok err = let g = err b.back b.mid b.evicting b.loads b.hands b.settled b.hand in after-claims pools devices cache i at tick before now cell p result q b r is g.number g.others

-- what is claimed stays
pub patch-claims : (n : ℕ) (at : Oid) (from : ℕ) (bytes : List ℕ) (kept : Option Kept) (old c : CellLog Kept) → IsPatched n at from bytes kept old c → AreClaimedAlike old.dbufs c.dbufs
patch-claims n at from bytes kept old c u k =
    ap (λ (x : CellLog Kept). claims_in k x.dbufs) u.noted_is
    ∙ (claims-stay-by-note k (length u.owned.history + 1) (Some at) (with_dbuf at (written_at from bytes) u.owned.dbufs)
    ∙ (claims-stay at (written_at from bytes) k u.owned.dbufs (λ d found. claim-written k d.at from bytes d.content d.state) ∙ (over kept u.over ∙ ap (λ (x : CellLog Kept). claims_in k x.dbufs) u.made)))
  where
    over : (o : Option Kept) → TakesOver at o u.roomy u.owned → claims_in k u.owned.dbufs ≡ claims_in k u.roomy.dbufs
    over None t = ap (λ (x : CellLog Kept). claims_in k x.dbufs) t.same
    over (Some h) t = ap (λ (x : CellLog Kept). claims_in k x.dbufs) t.taken
        ∙ claims-stay at (dirty_with (bytes_of h)) k u.roomy.dbufs (λ d found. sym (cached-none k d.at d.content d.state (test-of (is_clean_in is_cached) at u.roomy.dbufs d t.cached found)))

-- a clean block whose key was tested has a block's size
pub sized-in : (at : Oid) (len : ℕ) (m : Option Mapped) (ds old : List (Dbuf Kept)) → m ≡ mapped_in at old → mapped_in at ds ≡ mapped_in at old → ChecksKey {T = Unit {0}} len m (Ok tt) → IsSizedIn at ds
sized-in at len m ds old is same t ptr clean = go m (is ∙ (sym same ∙ clean)) t
  where
    go : (o : Option Mapped) → o ≡ Some (mapped.Clean ptr) → ChecksKey {T = Unit {0}} len o (Ok tt) → IsBlockSize ptr.key.size
    go None e t = let clash : ◌≡◌ {A = Option Mapped} None (Some (mapped.Clean ptr)) = e in cc
    go (Some (mapped.Dirty size)) e t = let clash : ◌≡◌ {A = Option Mapped} (Some (mapped.Dirty size)) (Some (mapped.Clean ptr)) = e in cc
    go (Some (mapped.Clean x)) e t = let same : x ≡ ptr = cc in subst (λ (y : Ptr). IsBlockSize y.key.size) same t
