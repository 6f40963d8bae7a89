-- What is so of a cell in hand to which a whole block was written.
use Rattle.std.proofs.Common.{◌≡◌, ℕ, ◌+◌, ◌-◌, ◌≤◌, ◌<◌, false, List, [], ◌∷◌, length, replicate, Option, Some, None, refl, sym, ap, ◌∙◌, subst, inl, inr, arith}
use Rattle.std.specs.Prelude.{IfSome}
use Rattle.std.specs.List.{AllByRecursion}
use Rattle.blk_ptr.specs.declared.key.Key.{Key}
use Rattle.arc_core.specs.declared.event.Event.{Event}
use Rattle.arc_core.specs.declared.event.Event.TheVariants.{Release}
use Rattle.arc_table.specs.Cache.{Cache}
use Rattle.arc_table.specs.Geometry.{cell_number}
use Rattle.std.specs.Option.{option_map_or}
use Rattle.dbuf_state.specs.CellLog.{CellLog, noted}
use Rattle.dbuf_state.specs.Dbufs.{DbufHas, IsFit, IsOfContent, dbuf_at, dbuf_is, dirty_with, is_cached, is_clean_in, without_kept}
use Rattle.dbuf_state.specs.Objects.{Must, Never}
use Rattle.dbuf_state.specs.Soundness.{holds_in}
use Rattle.dbuf_state.specs.declared.dbuf.Dbuf.{Dbuf}
use Rattle.dbuf_state.specs.declared.event.CellEvent.TheVariants.{Put}
use Rattle.dbuf_state.specs.declared.oid.Oid.{Oid}
use Rattle.dbuf_state.specs.declared.state.DbState.TheVariants as state
use Rattle.dbuf_state.proofs.FitLemmas.{item-changed}
use Rattle.dbuf_state.proofs.HandLemmas.{dirty-hides-unkept, claims-stay-by-note}
use Rattle.dbuf_state.proofs.OutlineLemmas.{cell-is-in-outline}
use Rattle.dbuf_cells.specs.InHand.{Finishes, GivesUp, HasFinished, HoldsStay, InHand, IsAtRest, IsOut, IsPut, IsRoomier, MayEvict, TakesAtRest, TakesOut, AreClaimedAlike}
use Rattle.dbuf_cells.specs.Kept.{bytes_of, is_held, key_of}
use Rattle.dbuf_cells.specs.Putting.{Puts, Releases, no_hold, one_hold}
use Rattle.dbuf_cells.specs.Turns.{OnHeap, PartyPlace, held_at, held_in, outline_in}
use Rattle.dbuf_cells.specs.declared.kept.Kept.{Kept}
use Rattle.dbuf_cells.proofs.CellSteps.{length-change, length-item, length-touched}
use Rattle.dbuf_cells.proofs.Evictions.{has-dbuf, kept-out, pointed}
use Rattle.dbuf_cells.proofs.Operations.{hand-roomier, operates}
use Rattle.dbuf_cells.proofs.Holders.{held-as, stays-new, stays-noted, stays-roomy, stays-then}
use Rattle.dbuf_cells.proofs.PutSteps.{GivenUp, IsReleaseOf, none-held, given-up, holds-none, new-dbuf, put-to, put-with, same-party, written-to, written-claims}
use Rattle.dbuf_cells.proofs.Unholds.{at-room, number-is}
use Rattle.dbuf_state.specs.Numbers.{claims_in}

-- what is written hides that it was taken out
hides : (at : Oid) (bytes : List ℕ) (kept : Option Kept) (c1 c2 : CellLog Kept) → TakesOut at kept c1 c2 → written-to at bytes c2.dbufs ≡ written-to at bytes c1.dbufs
hides at bytes None c1 c2 t = ap (λ (x : CellLog Kept). written-to at bytes x.dbufs) t.same
hides at bytes (Some k) c1 c2 t = ap (λ (x : CellLog Kept). written-to at bytes x.dbufs) t.taken ∙ dirty-hides-unkept at c1.dbufs state.Evicting bytes (new-dbuf at bytes c1.dbufs)

-- but for its dbufs and its room for dbufs the cell is the same
but-dbufs : (at : Oid) (kept : Option Kept) (c1 c2 : CellLog Kept) → TakesOut at kept c1 c2 → (ds : List (Dbuf Kept)) (a : ℕ) → record c2 { dbufs = ds; dbuf_room = a } ≡ record c1 { dbufs = ds; dbuf_room = a }
but-dbufs at None c1 c2 t ds a = ap (λ (x : CellLog Kept). record x { dbufs = ds; dbuf_room = a }) t.same
but-dbufs at (Some k) c1 c2 t ds a = ap (λ (x : CellLog Kept). record x { dbufs = ds; dbuf_room = a }) t.taken

-- a cell in hand to which a whole block was written, and what it kept given up
pub record HasPut (cache : Cache) (i : ℕ) (at : Oid) (size fill : ℕ) (ready : PartyPlace) (before : OnHeap) (c : CellLog Kept) (r : PartyPlace) : Type 0 where
  pub released : List Event
  pub releases : Releases (cell_number cache.config i) at (held_in before at) (outline_in before) released
  pub stay : HoldsStay before.value.dbufs c.dbufs
  pub hand : InHand cache i ready before Must (Put ready.number at size fill ∷ []) released c r

module _ (cache : Cache) (i : ℕ) (at : Oid) (p : PartyPlace) (before : OnHeap) (q : PartyPlace) (t : TakesAtRest cache i at p before q) (c1 : CellLog Kept) (log : IsRoomier before.value c1)
    (n size fill : ℕ) (who : n ≡ q.number) (fit : AllByRecursion (IsFit key_of bytes_of) c1.dbufs) where
  pub quiet : IsAtRest at c1.dbufs
  quiet = subst (λ (x : CellLog Kept). IsAtRest at x.dbufs) (sym log) t.rests

  -- what was taken out is the party's to give up
  pub out-of : (kept : Option Kept) (c2 : CellLog Kept) → TakesOut at kept c1 c2 → IfSome kept (IsOut cache.config i q)
  out-of None c2 o = tt
  out-of (Some k) c2 o = let a = at-room cache i at p before q t c1 log in kept-out cache i t.ready before a.evicting [] [] c1 q a.hand at k o.there

  up-of : (kept : Option Kept) (c2 : CellLog Kept) (r : PartyPlace) → TakesOut at kept c1 c2 → GivesUp cache.config i kept q r → GivenUp cache i t.ready before [] kept (holds_in key_of bytes_of is_held (written-to at (replicate size fill) c1.dbufs)) r
  up-of None c2 r o gives =
      let a = at-room cache i at p before q t c1 log in
      same-party cache i t.ready before a.evicting [] [] c1 q r a.hand None (holds_in key_of bytes_of is_held (written-to at (replicate size fill) c1.dbufs)) refl
      (holds-none cache i t.ready before a.evicting [] [] c1 q r a.hand n at size fill who a.settled quiet fit o.uncached) gives
  up-of (Some k) c2 r o gives =
      let a = at-room cache i at p before q t c1 log in
      subst (λ (l : List (Dbuf Kept)). GivenUp cache i t.ready before [] (Some k) (holds_in key_of bytes_of is_held l) r)
      (sym (item-changed at (dirty_with (replicate size fill)) (new-dbuf at (replicate size fill) c1.dbufs) c1.dbufs (has-dbuf (λ d. d.kept ≡ Some k) at c1.dbufs o.there)))
      (given-up cache i t.ready before a.evicting [] [] c1 q r a.hand at (dirty_with (replicate size fill)) (λ d. refl) k o.there gives)

  -- whether the dbuf kept a hold
  was-held : (kept : Option Kept) (c2 : CellLog Kept) → TakesOut at kept c1 c2 → held_in before at ≡ option_map_or is_held kept false
  was-held None c2 o = ap (λ (x : CellLog Kept). held_at x.dbufs at) (sym log) ∙ none-held at c1.dbufs fit o.uncached
  was-held (Some k) c2 o = ap (λ (x : CellLog Kept). held_at x.dbufs at) (sym log) ∙ held-as at k c1.dbufs o.there

  -- the release is of the cell's number and of the block's pointer
  releases-of : (kept : Option Kept) (c2 : CellLog Kept) (es : List Event) → TakesOut at kept c1 c2 → IsReleaseOf (cell_number cache.config i) kept es
      → Releases (cell_number cache.config i) at (held_in before at) (outline_in before) es
  releases-of kept c2 es o (inl none) = no_hold (was-held kept c2 o ∙ none.0) none.1
  releases-of None c2 es o (inr one) = absurd (let clash : ◌≡◌ {A = Option Kept} None (Some one.0) = one.2 in cc)
  releases-of (Some k) c2 es o (inr one) =
      let same : k ≡ one.0 = some-one k one.0 one.2 in
      let m = pointed Never before.value at k (subst (λ (x : CellLog Kept). DbufHas (λ d. IsOfContent key_of bytes_of k d.content) (dbuf_at at x.dbufs)) log o.of) in
      one_hold (was-held (Some k) c2 o ∙ (ap is_held same ∙ one.4)) m.0 one.1 m.1 (sym (cell-is-in-outline Never before.value at).cached ∙ (ap (λ (x : CellLog Kept). dbuf_is (is_clean_in is_cached) at x.dbufs) (sym log) ∙ o.cached))
      (one.3 ∙ ap (λ (x : Key). Release (cell_number cache.config i) x one.1 ∷ []) (ap key_of (sym same) ∙ m.2))
    where
      some-one : (a b : Kept) → ◌≡◌ {A = Option Kept} (Some a) (Some b) → a ≡ b
      some-one a b e = cc

  pub has-put : (kept : Option Kept) (c2 c3 c4 : CellLog Kept) (r : PartyPlace) (bytes : List ℕ) → bytes ≡ replicate size fill → TakesOut at kept c1 c2 → c3 ≡ record c2 { dbufs = written-to at bytes c2.dbufs; dbuf_room = c3.dbuf_room } → c4 ≡ noted (Put n at size fill) c3
      → GivesUp cache.config i kept q r → HasPut cache i at size fill t.ready before c4 r
  has-put kept c2 c3 c4 r bytes filled o three four gives =
      let a = at-room cache i at p before q t c1 log in
      let w = put-with cache i t.ready before a.evicting [] [] c1 q r a.hand n at size fill who a.settled quiet kept (up-of kept c2 r o gives) in
      let to = put-to cache i t.ready before a.evicting [] [] c1 q r a.hand n at size fill who a.settled quiet in
      let number : n ≡ t.ready.number = who ∙ number-is cache i at p before q t in
      let is : c4 ≡ record to { dbuf_room = c3.dbuf_room; event_room = to.event_room } =
      four ∙ ap (noted (Put n at size fill)) (three ∙ (ap (λ (ds : List (Dbuf Kept)). record c2 { dbufs = ds; dbuf_room = c3.dbuf_room }) (ap (λ (bs : List ℕ). written-to at bs c2.dbufs) filled ∙ hides at (replicate size fill) kept c1 c2 o)
      ∙ but-dbufs at kept c1 c2 o (written-to at (replicate size fill) c1.dbufs) c3.dbuf_room)) in
      record {
        released = w.0;
        releases = releases-of kept c2 w.0 o w.2;
        stay = subst (λ (x : CellLog Kept). HoldsStay before.value.dbufs x.dbufs) (sym is)
            (stays-noted (Put n at size fill) (record c1 { dbufs = written-to at (replicate size fill) c1.dbufs }) before.value.dbufs
            (stays-then before.value.dbufs c1.dbufs (written-to at (replicate size fill) c1.dbufs) (stays-roomy before.value c1 log)
            (stays-new at (dirty_with (replicate size fill)) (λ d. refl) (λ d. refl) (new-dbuf at (replicate size fill) c1.dbufs) refl c1.dbufs)));
        hand = subst (λ (m : ℕ). InHand cache i t.ready before Must (Put m at size fill ∷ []) w.0 c4 r) number
            (subst (λ (x : CellLog Kept). InHand cache i t.ready before Must (Put n at size fill ∷ []) w.0 x r) (sym is)
            (hand-roomier cache i t.ready before Must (Put n at size fill ∷ []) w.0 to r w.1 c3.dbuf_room to.event_room));
      }

-- ---- the call

module _ (cache : Cache) (i : ℕ) (at : Oid) (p : PartyPlace) (before : OnHeap) (q : PartyPlace) (t : TakesAtRest cache i at p before q) (n size fill : ℕ) (who : n ≡ q.number) (kept : Option Kept) (c : CellLog Kept) (u : IsPut n at size fill kept before.value c) where
  pub put-out : IfSome kept (IsOut cache.config i q)
  put-out = out-of cache i at p before q t u.roomy u.made n size fill who u.fit kept u.emptied u.out

  module _ (r : PartyPlace) (gives : GivesUp cache.config i kept q r) where
    pub puts : HasPut cache i at size fill t.ready before c r
    puts = has-put cache i at p before q t u.roomy u.made n size fill who u.fit kept u.emptied
        (record u.emptied { dbufs = written-to at (replicate size fill) u.emptied.dbufs; dbuf_room = u.spare }) c r (replicate size fill) refl u.out refl u.noted_is gives

    pub put-evicts : MayEvict cache i c r
    put-evicts = record { from = t.ready; before = before; evicting = Must; news = Put t.ready.number at size fill ∷ []; es = puts.released; hand = puts.hand; may = refl }

    pub put-finished : (s : PartyPlace) → Finishes cache i c r s → HasFinished cache i t.ready before Must (Put t.ready.number at size fill ∷ []) puts.released c r s
    put-finished s finishes = finishes t.ready before Must (Put t.ready.number at size fill ∷ []) puts.released refl puts.hand

    pub put-answers : (s : PartyPlace) → Finishes cache i c r s → Puts cache.config i at size fill before t.ready s
    put-answers s finishes = record {
      es = puts.released;
      releases = puts.releases;
      operates = operates cache i t.ready before Must (Put t.ready.number at size fill ∷ []) puts.released c r puts.hand (held_in before) (λ b on. (puts.stay b on).1) s (put-finished s finishes);
    }

out-rooms : (at : Oid) (kept : Option Kept) (c1 c2 : CellLog Kept) → TakesOut at kept c1 c2 → (c2.dbuf_room ≡ c1.dbuf_room) × (c2.event_room ≡ c1.event_room) × (length c2.dbufs ≡ length c1.dbufs)
out-rooms at None c1 c2 o = (ap (λ (x : CellLog Kept). x.dbuf_room) o.same, ap (λ (x : CellLog Kept). x.event_room) o.same, ap (λ (x : CellLog Kept). length x.dbufs) o.same)
out-rooms at (Some k) c1 c2 o = (
  ap (λ (x : CellLog Kept). x.dbuf_room) o.taken,
  ap (λ (x : CellLog Kept). x.event_room) o.taken,
  ap (λ (x : CellLog Kept). length x.dbufs) o.taken ∙ length-change at (without_kept state.Evicting) c1.dbufs,
)

-- there is room for one dbuf more, where there was room before something was taken out
pub out-dbuf-room : (at : Oid) (kept : Option Kept) (c1 c2 : CellLog Kept) → TakesOut at kept c1 c2 → 1 ≤ c1.dbuf_room → 0 < c2.dbuf_room
out-dbuf-room at kept c1 c2 o room = let a = (out-rooms at kept c1 c2 o).0 in omega arith

pub out-event-room : (at : Oid) (kept : Option Kept) (c1 c2 : CellLog Kept) (n : ℕ) → TakesOut at kept c1 c2 → 2 + n ≤ c1.event_room → 0 < c2.event_room
out-event-room at kept c1 c2 n o room = let a = (out-rooms at kept c1 c2 o).1 in omega arith

-- and for the evictions behind the event
pub put-room : (n : ℕ) (at : Oid) (size fill : ℕ) (kept : Option Kept) (old c : CellLog Kept) → IsPut n at size fill kept old c → length c.dbufs ≤ c.event_room
put-room n at size fill kept old c u =
    let o = out-rooms at kept u.roomy u.emptied u.out in
    let rooms : u.emptied.event_room ≡ u.roomy.event_room = o.1 in
    let lens : length u.emptied.dbufs ≡ length u.roomy.dbufs = o.2 in
    let a : length c.dbufs ≡ length (written-to at (replicate size fill) u.emptied.dbufs) = ap (λ (x : CellLog Kept). length x.dbufs) u.noted_is ∙ length-touched _ (Some at) (written-to at (replicate size fill) u.emptied.dbufs) in
    let b = length-item at (dirty_with (replicate size fill)) (new-dbuf at (replicate size fill) u.emptied.dbufs) u.emptied.dbufs in
    let d : length u.roomy.dbufs ≡ length old.dbufs = ap (λ (x : CellLog Kept). length x.dbufs) u.made in
    let e : c.event_room ≡ u.emptied.event_room - 1 = ap (λ (x : CellLog Kept). x.event_room) u.noted_is in
    let f = u.room in
    omega arith

-- what is claimed stays
pub put-claims : (n : ℕ) (at : Oid) (size fill : ℕ) (kept : Option Kept) (old c : CellLog Kept) → IsPut n at size fill kept old c → IsAtRest at old.dbufs → AreClaimedAlike old.dbufs c.dbufs
put-claims n at size fill kept old c u quiet k =
    let bytes = replicate size fill in
    ap (λ (x : CellLog Kept). claims_in k x.dbufs) u.noted_is
    ∙ (claims-stay-by-note k (length u.emptied.history + 1) (Some at) (written-to at bytes u.emptied.dbufs)
    ∙ (ap (claims_in k) (hides at bytes kept u.roomy u.emptied u.out ∙ ap (λ (x : CellLog Kept). written-to at bytes x.dbufs) u.made) ∙ written-claims at bytes old.dbufs quiet k))
