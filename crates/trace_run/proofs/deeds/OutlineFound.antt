-- What the outline of a cell that was found tells: the same, whether evictions are due or not; and where a Load is legal, no bytes.
use Rattle.std.proofs.Common.{◌≡◌, ℕ, Bool, true, false, not, List, [], ◌∷◌, Option, Some, None, refl, ap, ◌∙◌}
use Rattle.std.proofs.lemmas.Bool.{false≢true}
use Rattle.std.specs.Option.{option_map, option_map_or}
use Rattle.arc_core.specs.declared.event.Event.{Event}
use Rattle.dbuf_cells.specs.Putting.{Releases, no_hold, one_hold}
use Rattle.dbuf_cells.specs.Turns.{AreEvictions, OnHeap, outline_in}
use Rattle.dbuf_state.proofs.Changes.{view-found}
use Rattle.dbuf_state.proofs.IndexLemmas.{and-parts}
use Rattle.dbuf_state.specs.Objects.{Block, Cached, Dirty, Evicting, IsLegal, PlainDbuf, Uncached, evicting_after, is_cached, is_due, is_uncached}
use Rattle.dbuf_state.specs.Objects as plain
use Rattle.dbuf_state.specs.Outline.{Outline, OutlineDbuf, after, after_all, dbuf_oid, is_cached_at, outline_dbuf}
use Rattle.dbuf_state.specs.Soundness.{plain_cell}
use Rattle.dbuf_state.specs.declared.event.CellEvent.{CellEvent}
use Rattle.dbuf_state.specs.declared.event.CellEvent.TheVariants as events
use Rattle.dbuf_state.specs.declared.oid.Oid.{Oid}
use Rattle.trace_run.specs.dbufs.ObjectLines.{ReleasesFor}

-- the outline, where evictions are due or not
abbrev pub with_evicting : Evicting → Outline → Outline
with_evicting e o = record { limit = o.limit; dbufs = o.dbufs; events = o.events; evicting = e }

-- ---- the same, whatever is due

pub evictions-so : (n c : ℕ) (held : Oid → Bool) (o : Outline) (e : Evicting) (evs : List CellEvent) (es : List Event) → AreEvictions n c held o evs es → AreEvictions n c held (with_evicting e o) evs es
evictions-so n c held o e [] es none = none
evictions-so n c held o e (ev ∷ evs) es a = (a.0, a.1, a.2, a.3, a.4, a.5, a.6, a.7, a.8, evictions-so n c held (after o ev) (evicting_after e ev) evs a.3 a.9)

pub after-so : (o : Outline) (e : Evicting) (evs : List CellEvent) → (then : Evicting) × (after_all (with_evicting e o) evs ≡ with_evicting then (after_all o evs))
after-so o e [] = (e, refl)
after-so o e (ev ∷ evs) = after-so (after o ev) (evicting_after e ev) evs

release-so : (c : ℕ) (at : Oid) (held : Bool) (o : Outline) (e : Evicting) (es : List Event) → Releases c at held o es → Releases c at held (with_evicting e o) es
release-so c at held o e es (no_hold loose none) = no_hold loose none
release-so c at held o e es (one_hold kept ptr sole mapped cached is) = one_hold kept ptr sole mapped cached is

pub releases-so : (c : ℕ) (held : Oid → Bool) (own : CellEvent) (o : Outline) (e : Evicting) (es : List Event) → ReleasesFor c held own o es → ReleasesFor c held own (with_evicting e o) es
releases-so c held (events.Put n at size fill) o e es r = release-so c at (held at) o e es r
releases-so c held (events.Patch n at from bytes) o e es r = release-so c at (held at) o e es r
releases-so c held (events.Get n at) o e es r = r
releases-so c held (events.Pin n at) o e es r = r
releases-so c held (events.Unpin n at) o e es r = r
releases-so c held (events.Load n at bit) o e es r = r
releases-so c held (events.Evict n at) o e es r = r
releases-so c held (events.Synced n at ptr bit) o e es r = r
releases-so c held (events.End n) o e es r = r

-- ---- a Load

block-uncached : (b : Block) → is_uncached b ≡ true → is_cached b ≡ false
block-uncached (Uncached ptr) is = refl
block-uncached (Cached ptr) is = absurd (false≢true is)
block-uncached (Dirty bytes) is = refl

pub uncached-there : (at : Oid) (cell : OnHeap) (e : Evicting) (n : ℕ) (bit : Bool) → IsLegal (plain_cell e cell.value) (events.Load n at bit) → is_cached_at at (outline_in cell) ≡ false
uncached-there at cell e n bit legal =
    ap (λ (o : Option OutlineDbuf). option_map_or (λ d. d.cached) o false) (view-found plain.dbuf_oid dbuf_oid outline_dbuf (λ d. refl) at (plain_cell e cell.value).dbufs)
    ∙ go (plain.dbuf_at at (plain_cell e cell.value)) (and-parts (not (is_due (plain_cell e cell.value))) _ legal).1
  where
    go : (o : Option PlainDbuf) → option_map_or (λ (d : PlainDbuf). is_uncached d.block) o false ≡ true → option_map_or (λ (d : OutlineDbuf). d.cached) (option_map outline_dbuf o) false ≡ false
    go None is = refl
    go (Some d) is = block-uncached d.block is
