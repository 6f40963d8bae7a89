-- What two answered lines on an object gave up of blocks that their cell keeps no longer: behind one history of the cell, which tells what it keeps holds of, they made the same acts (dbuf_evict_one and dbuf_dirty of dbuf.c,
-- which destroy the ARC buffer).
use Rattle.std.proofs.Common.{◌≡◌, ℕ, Bool, if◌then◌else◌, List, [], ◌∷◌, ◌++◌, map, Option, Some, sym, ap, subst, ◌∙◌, append_assoc}
use Rattle.std.proofs.lemmas.Bool.{false≢true}
use Rattle.blk_ptr.specs.declared.ptr.Ptr.{Ptr}
use Rattle.arc_core.specs.declared.config.Config.{Config}
use Rattle.arc_core.specs.declared.event.Event.{Event}
use Rattle.arc_core.specs.declared.event.Event.TheVariants.{Release}
use Rattle.arc_table.specs.Geometry.{cell_number}
use Rattle.dbuf_cells.specs.Ending.{DropsEach}
use Rattle.dbuf_cells.specs.Places.{cell_of}
use Rattle.dbuf_cells.specs.Putting.{Releases, no_hold, one_hold}
use Rattle.dbuf_cells.specs.Turns.{AreEvictions, drops_if}
use Rattle.dbuf_state.specs.History.{Leads}
use Rattle.dbuf_state.specs.Objects.{Evicting, Must, evicting_after, opening_cell}
use Rattle.dbuf_state.specs.Oids.{oid_eq}
use Rattle.dbuf_state.specs.Outline.{Outline, OutlineDbuf, after, after_all, mapped_at, outline_after}
use Rattle.dbuf_state.specs.declared.event.CellEvent.{CellEvent}
use Rattle.dbuf_state.specs.declared.event.CellEvent.TheVariants as events
use Rattle.dbuf_state.specs.declared.oid.Oid.{Oid}
use Rattle.dbuf_state.specs.declared.state.Mapped.{Mapped}
use Rattle.dbuf_state.specs.declared.state.Mapped.TheVariants.{Clean}
use Rattle.dbuf_state.specs.declared.state.Mapping.{Mapping}
use Rattle.trace_run.specs.Deeds.{acts_of_events, events_of_cell, noted_in}
use Rattle.trace_run.specs.dbufs.Holders.{AreHolders}
use Rattle.trace_run.specs.dbufs.ObjectLines.{ReleasesFor}
use Rattle.trace_run.specs.dbufs.ObjectReplies.{ActsAt}
use Rattle.trace_run.specs.dbufs.Objects.{Brought, Loaded, Nothing, OwnEvent, Refused, Work, gives_hold, held_once, loads_of}
use Rattle.trace_run.proofs.deeds.CellsDone.{noted-here}
use Rattle.trace_run.proofs.deeds.DeedLemmas.{events-acts}
use Rattle.run_laws.proofs.Due.{evictions-behind}
use Rattle.run_laws.proofs.Facts.{IsSettled}

-- ---- two that one history tells

-- both say the same of the dbuf of each Oid
abbrev pub SayAlike : (held other : Oid → Bool) → Type 0
SayAlike held other = (at : Oid) → other at ≡ held at

pub holders-alike : (history : List CellEvent) (held other : Oid → Bool) → AreHolders history held → AreHolders history other → SayAlike held other
holders-alike history held other one two at = two at ∙ sym (one at)

-- and so they do behind the Load of a block
once-alike : (at : Oid) (brought : Brought) (held other : Oid → Bool) → SayAlike held other → SayAlike (held_once at brought held) (held_once at brought other)
once-alike at Nothing held other alike b = alike b
once-alike at (Refused ptr) held other alike b = alike b
once-alike at (Loaded ptr from) held other alike b = ap (λ (x : Bool). if oid_eq at b then gives_hold from else x) (alike b)

-- ---- evictions

same-evicted : (n : ℕ) (e : CellEvent) (a b : Oid) → e ≡ events.Evict n a → e ≡ events.Evict n b → b ≡ a
same-evicted n e a b one other = let same : events.Evict n a ≡ events.Evict n b = sym one ∙ other in cc

same-pointer : (m : Option Mapped) (p q : Ptr) → m ≡ Some (Clean p) → m ≡ Some (Clean q) → q ≡ p
same-pointer m p q one other = let same : ◌≡◌ {A = Option Mapped} (Some (Clean p)) (Some (Clean q)) = sym one ∙ other in cc

drops-same : (n c : ℕ) (held other : Oid → Bool) → SayAlike held other → (o : Outline) (evs : List CellEvent) (es fs : List Event) → AreEvictions n c held o evs es → AreEvictions n c other o evs fs → fs ≡ es
drops-same n c held other alike o [] es fs are others = others ∙ sym are
drops-same n c held other alike o (e ∷ evs) es fs are others =
    let at : others.0 ≡ are.0 = same-evicted n e are.0 others.0 are.4 others.4 in
    let there : mapped_at are.0 o ≡ Some (Clean others.1) = subst (λ (x : Oid). mapped_at x o ≡ Some (Clean others.1)) at others.5 in
    let ptr : others.1 ≡ are.1 = same-pointer (mapped_at are.0 o) are.1 others.1 are.5 there in
    let rest : others.3 ≡ are.3 = drops-same n c held other alike (after o e) evs are.3 others.3 are.9 others.9 in
    let drops : others.2 ≡ are.2 = others.8 ∙ ((λ h. drops_if (other (at h)) c (ptr h).key) ∙ (ap (λ (b : Bool). drops_if b c are.1.key) (alike are.0) ∙ sym are.8)) in
    let all : others.2 ++ others.3 ≡ are.2 ++ are.3 = λ h. drops h ++ rest h in
    others.7 ∙ (all ∙ sym are.7)

-- what the end of a cell drops
pub each-same : (c : ℕ) (held other : Oid → Bool) → SayAlike held other → (ds : List OutlineDbuf) (es fs : List Event) → DropsEach c held ds es → DropsEach c other ds fs → fs ≡ es
each-same c held other alike [] es fs are others = others ∙ sym are
each-same c held other alike (d ∷ ds) es fs are others =
    let ptr : others.0 ≡ are.0 = same-clean d.mapped are.0 others.0 are.3 others.3 in
    let drops : others.1 ≡ are.1 = others.5 ∙ ((λ h. drops_if (alike d.at h) c (ptr h).key) ∙ sym are.5) in
    let rest : others.2 ≡ are.2 = each-same c held other alike ds are.2 others.2 are.6 others.6 in
    let all : others.1 ++ others.2 ≡ are.1 ++ are.2 = λ h. drops h ++ rest h in
    others.4 ∙ (all ∙ sym are.4)
  where
    same-clean : (m : Mapped) (p q : Ptr) → m ≡ Clean p → m ≡ Clean q → q ≡ p
    same-clean m p q one two = let same : ◌≡◌ {A = Mapped} (Clean p) (Clean q) = sym one ∙ two in cc

-- ---- a block that was written over

written-same : (c : ℕ) (at : Oid) (held other : Bool) → other ≡ held → (o : Outline) (es fs : List Event) → Releases c at held o es → Releases c at other o fs → acts_of_events fs ≡ acts_of_events es
written-same c at held other same o es fs (no_hold loose none) (no_hold other_loose other_none) = ap acts_of_events (other_none ∙ sym none)
written-same c at held other same o es fs (no_hold loose none) (one_hold kept ptr sole there cached is) = absurd (false≢true (sym loose ∙ (sym same ∙ kept)))
written-same c at held other same o es fs (one_hold kept ptr sole there cached is) (no_hold loose none) = absurd (false≢true (sym loose ∙ (same ∙ kept)))
written-same c at held other same o es fs (one_hold kept ptr sole there cached is) (one_hold other_kept p other_sole other_there other_cached other_is) =
    let pointer : p ≡ ptr = same-pointer (mapped_at at o) ptr p there other_there in
    let acts : acts_of_events (Release c p.key other_sole ∷ []) ≡ acts_of_events (Release c ptr.key sole ∷ []) = ap (λ (x : Ptr). acts_of_events (Release c x.key sole ∷ [])) pointer in
    ap acts_of_events other_is ∙ (acts ∙ sym (ap acts_of_events is))

none-same : (es fs : List Event) → es ≡ [] → fs ≡ [] → acts_of_events fs ≡ acts_of_events es
none-same es fs none other_none = ap acts_of_events (other_none ∙ sym none)

releases-same : (c : ℕ) (held other : Oid → Bool) → SayAlike held other → (e : CellEvent) (o : Outline) (es fs : List Event) → ReleasesFor c held e o es → ReleasesFor c other e o fs → acts_of_events fs ≡ acts_of_events es
releases-same c held other alike (events.Put n at size fill) o es fs one two = written-same c at (held at) (other at) (alike at) o es fs one two
releases-same c held other alike (events.Patch n at from bytes) o es fs one two = written-same c at (held at) (other at) (alike at) o es fs one two
releases-same c held other alike (events.Get n at) o es fs one two = none-same es fs one two
releases-same c held other alike (events.Pin n at) o es fs one two = none-same es fs one two
releases-same c held other alike (events.Unpin n at) o es fs one two = none-same es fs one two
releases-same c held other alike (events.Load n at keeps) o es fs one two = none-same es fs one two
releases-same c held other alike (events.Evict n at) o es fs one two = none-same es fs one two
releases-same c held other alike (events.Synced n at ptr keeps) o es fs one two = none-same es fs one two
releases-same c held other alike (events.End n) o es fs one two = none-same es fs one two

-- ---- the line

module _ (g : Config) (own : OwnEvent) (o : Outline) (history : List CellEvent) where
  abbrev its_number : ℕ
  its_number = cell_number g (cell_of g.cells own.at)

  abbrev loaded_of : Brought → Outline
  loaded_of brought = after_all o (loads_of 0 own.at brought)

  abbrev done_of : Brought → Outline
  done_of brought = after_all o (loads_of 0 own.at brought ++ own.event ∷ [])

  -- two such lines, for which the same was brought, and which evicted the same blocks, made the same acts
  acts-one : (w v : Work) (acts : ActsAt g 0 (AreHolders history) own o w) (other : ActsAt g 0 (AreHolders history) own o v) → v.brought ≡ w.brought → other.evictions ≡ acts.evictions → v.acts ≡ w.acts
  acts-one w v acts other brings evicts =
      let released = releases-same its_number held other_held alike own.event (loaded_of w.brought) acts.released other.released acts.releases releases in
      let drops = drops-same 0 its_number held other_held alike (done_of w.brought) evs acts.drops other.drops acts.evicted evicted in
      let all : acts_of_events other.released ++ acts_of_events other.drops ≡ acts_of_events acts.released ++ acts_of_events acts.drops = λ h. released h ++ acts_of_events (drops h) in
      other.acts ∙ (events-acts other.released other.drops ∙ (all ∙ sym (acts.acts ∙ events-acts acts.released acts.drops)))
    where
      held : Oid → Bool
      held = held_once own.at w.brought acts.held

      other_held : Oid → Bool
      other_held = held_once own.at w.brought other.held

      alike : SayAlike held other_held
      alike = once-alike own.at w.brought acts.held other.held (holders-alike history acts.held other.held acts.are_held other.are_held)

      evs : List CellEvent
      evs = map (events.Evict 0) acts.evictions

      releases : ReleasesFor its_number other_held own.event (loaded_of w.brought) other.released
      releases = subst (λ (b : Brought). ReleasesFor its_number (held_once own.at b other.held) own.event (loaded_of b) other.released) brings other.releases

      evicted : AreEvictions 0 its_number other_held (done_of w.brought) evs other.drops
      evicted = subst (λ (z : Brought × List Oid). AreEvictions 0 its_number (held_once own.at z.0 other.held) (done_of z.0) (map (events.Evict 0) z.1) other.drops) (λ h. (brings h, evicts h)) other.evicted

-- ---- both, behind one history

-- what is done to the cell of an answered line
abbrev done_on : OwnEvent → Brought → (evictions : List Oid) → List CellEvent
done_on own brought evictions = loads_of 0 own.at brought ++ own.event ∷ map (events.Evict 0) evictions

-- Two answered lines of one operation, which found the cell with one history, and left none due, noted the same and made the same acts.
pub acts-alike : (g : Config) (limit : ℕ) (opening : List Mapping) (front : List CellEvent) (own : OwnEvent) (w v : Work) → ((x : Evicting) → evicting_after x own.event ≡ Must)
    → IsSettled limit opening (front ++ events_of_cell (cell_of g.cells own.at) w.noted) → IsSettled limit opening (front ++ events_of_cell (cell_of g.cells own.at) v.noted)
    → ActsAt g 0 (AreHolders front) own (outline_after limit opening front) w → ActsAt g 0 (AreHolders front) own (outline_after limit opening front) v → v.brought ≡ w.brought → (v.noted ≡ w.noted) × (v.acts ≡ w.acts)
acts-alike g limit opening front own w v makes rests other_rests acts other brings =
    let i : ℕ = cell_of g.cells own.at in
    let loads : List CellEvent = loads_of 0 own.at w.brought in
    let mine : front ++ events_of_cell i w.noted ≡ (front ++ loads) ++ own.event ∷ map (events.Evict 0) acts.evictions =
    ap (λ (l : List CellEvent). front ++ l) (ap (events_of_cell i) acts.noted ∙ noted-here i (done_on own w.brought acts.evictions)) ∙ sym (append_assoc front loads (own.event ∷ map (events.Evict 0) acts.evictions)) in
    let its : front ++ events_of_cell i v.noted ≡ (front ++ loads) ++ own.event ∷ map (events.Evict 0) other.evictions =
    ap (λ (l : List CellEvent). front ++ l) (ap (events_of_cell i) other.noted ∙ (noted-here i (done_on own v.brought other.evictions) ∙ ap (λ (b : Brought). done_on own b other.evictions) brings))
    ∙ sym (append_assoc front loads (own.event ∷ map (events.Evict 0) other.evictions)) in
    let evicts : other.evictions ≡ acts.evictions =
    evictions-behind limit opening (front ++ loads) own.event makes 0 acts.evictions other.evictions rests.bases other_rests.bases rests.state other_rests.state
    (subst (λ (l : List CellEvent). Leads (opening_cell limit opening) l rests.bases rests.state) mine rests.leads)
    (subst (λ (l : List CellEvent). Leads (opening_cell limit opening) l other_rests.bases other_rests.state) its other_rests.leads) rests.rests other_rests.rests in
    let noted : v.noted ≡ w.noted = other.noted ∙ ((λ h. noted_in i (done_on own (brings h) (evicts h))) ∙ sym acts.noted) in
    (noted, acts-one g own (outline_after limit opening front) front w v acts other brings evicts)
