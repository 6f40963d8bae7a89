-- The outline of a cell follows from its opening and its events.
use Rattle.std.proofs.Common.{◌≡◌, ℕ, ◌+◌, ◌≤◌, Bool, true, false, not, ◌&&◌, nat_le, IsTrue, if◌then◌else◌, List, [], ◌∷◌, length, map, replicate, Option, Some, None, refl, sym, ap, subst, ◌∙◌, arith, length-append, length-drop}
use Rattle.std.proofs.lemmas.Bool.Decides.{nat_tests}
use Rattle.std.proofs.lemmas.List.{length-replicate, length-take}
use Rattle.std.specs.Option.{option_map, option_map_or}
use Rattle.dbuf_state.specs.declared.dbuf.Content.{Content}
use Rattle.dbuf_state.specs.declared.dbuf.Content.TheVariants as content
use Rattle.dbuf_state.specs.declared.dbuf.Dbuf.{Dbuf}
use Rattle.dbuf_state.specs.declared.event.CellEvent.{CellEvent}
use Rattle.dbuf_state.specs.declared.event.CellEvent.TheVariants.{Get, Put, Patch, Pin, Unpin, Load, Evict, Synced, End}
use Rattle.dbuf_state.specs.declared.oid.Oid.{Oid}
use Rattle.dbuf_state.specs.declared.standing.Standing.{Standing}
use Rattle.dbuf_state.specs.declared.state.DbState.{DbState}
use Rattle.dbuf_state.specs.declared.state.DbState.TheVariants as state
use Rattle.dbuf_state.specs.declared.state.Mapped.{Mapped}
use Rattle.dbuf_state.specs.declared.state.Mapped.TheVariants as mapped
use Rattle.dbuf_state.specs.Dbufs.{mapped_of, plain_block, plain_dbuf, standing_of}
use Rattle.dbuf_state.specs.Dbufs as concrete
use Rattle.dbuf_state.specs.History.{Leads}
use Rattle.dbuf_state.specs.Objects.{AreBytesOf, Block, Cached, Dirty, Evicting, IsBase, IsBaseAt, IsLegal, PlainCell, PlainDbuf, Uncached, has_bytes, is_due, patched, size_of, use_of}
use Rattle.dbuf_state.specs.Objects as plain
use Rattle.dbuf_state.specs.Outline.{CellIsInOutline, IsInOutline, Outline, OutlineDbuf, OutlineFollows, OutlineIsTold, StandingsAlike, after, after_all, dirtied, is_clean, mapped_in, mapped_size, outline_after, outline_dbuf, outline_of, standing, standings}
use Rattle.dbuf_state.specs.Outline as outline
use Rattle.dbuf_state.specs.Oids.{item_at}
use Rattle.dbuf_state.specs.Pins as pins
use Rattle.dbuf_state.proofs.Changes.{view-change, view-found, view-item}
use Rattle.dbuf_state.proofs.IndexLemmas.{and-parts}

-- ---- one block

load-cached : (block : Block) → ◌≡◌ {A = Mapped × Bool} (mapped_in (plain.loaded block), plain.is_cached (plain.loaded block)) (mapped_in block, is_clean (mapped_in block))
load-cached (Uncached ptr) = refl
load-cached (Cached ptr) = refl
load-cached (Dirty bytes) = refl

evict-cached : (block : Block) → ◌≡◌ {A = Mapped × Bool} (mapped_in (plain.evicted block), plain.is_cached (plain.evicted block)) (mapped_in block, false)
evict-cached (Uncached ptr) = refl
evict-cached (Cached ptr) = refl
evict-cached (Dirty bytes) = refl

same-size : (block : Block) → mapped_size (mapped_in block) ≡ size_of block
same-size (Uncached ptr) = refl
same-size (Cached ptr) = refl
same-size (Dirty bytes) = refl

same-standing : (block : Block) → (if plain.is_cached block then mapped_size (mapped_in block) else 0) ≡ (if plain.is_cached block then size_of block else 0)
same-standing (Uncached ptr) = refl
same-standing (Cached ptr) = refl
same-standing (Dirty bytes) = refl

-- what may be a block's bytes has its size
base-size : (block : Block) (base : List ℕ) → AreBytesOf base block → length base ≡ size_of block
base-size (Uncached ptr) base of = of.size
base-size (Cached ptr) base of = of.size
base-size (Dirty bytes) base of = ap length (sym of)

-- a patch that ends inside leaves the length
patched-length : (from : ℕ) (bytes base : List ℕ) → from + length bytes ≤ length base → length (patched from bytes base) ≡ length base
patched-length from bytes base inside = simp (length-append, length-take, length-drop) (omega arith)

-- ---- one event

changes : (at : Oid) (f : PlainDbuf → PlainDbuf) (g : OutlineDbuf → OutlineDbuf) (ds : List PlainDbuf) → ((d : PlainDbuf) → outline_dbuf (f d) ≡ g (outline_dbuf d))
    → map outline_dbuf (plain.changed at f ds) ≡ outline.changed at g (map outline_dbuf ds)
changes at f g ds each = view-change plain.dbuf_oid outline.dbuf_oid outline_dbuf (λ d. refl) at f g ds (λ d found. each d)

touches : (tick : ℕ) (used : Option Oid) (ds : List PlainDbuf) → map outline_dbuf (plain.touched tick used ds) ≡ outline.touched tick used (map outline_dbuf ds)
touches tick None ds = refl
touches tick (Some at) ds = changes at (plain.used_at tick) (λ d. record d { used = tick }) ds (λ d. refl)

ends : (ds : List PlainDbuf) → map outline_dbuf (map plain.ended ds) ≡ map outline.ended (map outline_dbuf ds)
ends [] = refl
ends (d ∷ ds) =
    ap (λ (s : Mapped × Bool). record { at = d.at; mapped = s.0; cached = s.1; pins = []; used = d.used } ∷ map outline_dbuf (map plain.ended ds)) (evict-cached d.block)
    ∙ ap (λ (os : List OutlineDbuf). record { at = d.at; mapped = mapped_in d.block; cached = false; pins = []; used = d.used } ∷ os) (ends ds)

patches : (c : PlainCell) (at : Oid) (from : ℕ) (bytes base : List ℕ) → IsTrue (plain.dbuf_is (λ d. has_bytes d.block && nat_le (from + length bytes) (size_of d.block)) at c) → IsBaseAt base (plain.dbuf_at at c)
    → map outline_dbuf (plain.changed at (plain.with_block (λ _. Dirty (patched from bytes base))) c.dbufs) ≡ outline.changed at (λ d. dirtied (mapped_size d.mapped) d) (map outline_dbuf c.dbufs)
patches c at from bytes base legal of = view-change plain.dbuf_oid outline.dbuf_oid outline_dbuf (λ d. refl) at (plain.with_block (λ _. Dirty (patched from bytes base))) (λ d. dirtied (mapped_size d.mapped) d) c.dbufs (λ d found. one d found)
  where
    fits : (a b : ℕ) → nat_le a b ≡ true → a ≤ b
    fits a b h = grind (arith, nat_tests)

    one : (d : PlainDbuf) → plain.dbuf_at at c ≡ Some d → outline_dbuf (plain.with_block (λ _. Dirty (patched from bytes base)) d) ≡ dirtied (mapped_size (mapped_in d.block)) (outline_dbuf d)
    one d found =
        let inside : nat_le (from + length bytes) (size_of d.block) ≡ true = (and-parts (has_bytes d.block) _ (subst (λ (o : Option PlainDbuf). IsTrue (option_map_or (λ d. has_bytes d.block && nat_le (from + length bytes) (size_of d.block)) o false)) found legal)).1 in
        let size = base-size d.block base (subst (IsBaseAt base) found of) in
        let within : from + length bytes ≤ size_of d.block = fits (from + length bytes) (size_of d.block) inside in
        let same : length (patched from bytes base) ≡ mapped_size (mapped_in d.block) = patched-length from bytes base (omega arith) ∙ (size ∙ sym (same-size d.block)) in
        ap (λ (n : ℕ). record { at = d.at; mapped = mapped.Dirty n; cached = false; pins = d.pins; used = d.used }) same

effects : (c : PlainCell) (e : CellEvent) (base : List ℕ) → IsLegal c e → IsBase base c e → map outline_dbuf (plain.effect base c.dbufs e) ≡ outline.effect (map outline_dbuf c.dbufs) e
effects c (Get n at) base legal of = refl
effects c (Put n at size fill) base legal of =
    view-item plain.dbuf_oid outline.dbuf_oid outline_dbuf (λ d. refl) at (plain.with_block (λ _. Dirty (replicate size fill))) (plain.fresh_dbuf at (Dirty (replicate size fill)))
    (dirtied size) (record { at = at; mapped = mapped.Dirty size; cached = false; pins = []; used = 0 })
    (λ d. ap (λ (n : ℕ). record { at = d.at; mapped = mapped.Dirty n; cached = false; pins = d.pins; used = d.used }) (length-replicate size fill))
    (ap (λ (n : ℕ). record { at = at; mapped = mapped.Dirty n; cached = false; pins = []; used = 0 }) (length-replicate size fill)) c.dbufs
effects c (Patch n at from bytes) base legal of = patches c at from bytes base (and-parts (not (is_due c)) _ legal).1 of
effects c (Pin n at) base legal of = changes at (plain.with_pins (pins.pinned n)) (outline.with_pins (pins.pinned n)) c.dbufs (λ d. refl)
effects c (Unpin n at) base legal of = changes at (plain.with_pins (pins.unpinned n)) (outline.with_pins (pins.unpinned n)) c.dbufs (λ d. refl)
effects c (Load n at held) base legal of = changes at (plain.with_block plain.loaded) (λ d. record d { cached = is_clean d.mapped }) c.dbufs
    (λ d. ap (λ (s : Mapped × Bool). record { at = d.at; mapped = s.0; cached = s.1; pins = d.pins; used = d.used }) (load-cached d.block))
effects c (Evict n at) base legal of = changes at (plain.with_block plain.evicted) (λ d. record d { cached = false }) c.dbufs
    (λ d. ap (λ (s : Mapped × Bool). record { at = d.at; mapped = s.0; cached = s.1; pins = d.pins; used = d.used }) (evict-cached d.block))
effects c (Synced n at ptr held) base legal of = changes at (plain.with_block (λ _. Cached ptr)) (λ d. record d { mapped = mapped.Clean ptr; cached = true }) c.dbufs (λ d. refl)
effects c (End n) base legal of = ends c.dbufs

pub outline-follows : OutlineFollows
outline-follows c e base legal of =
    ap (λ (os : List OutlineDbuf). record { limit = c.limit; dbufs = os; events = c.events + 1; evicting = plain.evicting_after c.evicting e })
    (touches (c.events + 1) (use_of e) (plain.effect base c.dbufs e) ∙ ap (outline.touched (c.events + 1) (use_of e)) (effects c e base legal of))

-- ---- histories

pub leads-outline : (c : PlainCell) (es : List CellEvent) (bases : List (List ℕ)) (end : PlainCell) → Leads c es bases end → outline_of end ≡ after_all (outline_of c) es
leads-outline c [] bases end leads = ap outline_of leads.1
leads-outline c (e ∷ es) bases end leads =
    leads-outline (plain.after leads.1.0 c e) es leads.1.1 end leads.1.4 ∙ ap (λ (o : Outline). after_all o es) (outline-follows c e leads.1.0 leads.0 leads.1.3)

pub outline-is-told : OutlineIsTold
outline-is-told limit opening es bases end leads = leads-outline (plain.opening_cell limit opening) es bases end leads

-- ---- reading it

standings-same : (ds : List PlainDbuf) → map standing (map outline_dbuf ds) ≡ map plain.standing ds
standings-same [] = refl
standings-same (d ∷ ds) =
    ap (λ (n : ℕ). record { at = d.at; used = d.used; size = n; kept = plain.is_cached d.block; pinned = not (pins.are_none d.pins) } ∷ map standing (map outline_dbuf ds)) (same-standing d.block)
    ∙ ap (λ (ss : List Standing). plain.standing d ∷ ss) (standings-same ds)

pub standings-alike : StandingsAlike
standings-alike c = standings-same c.dbufs

block-mapped : (k : Content) (s : DbState) → mapped_of k ≡ mapped_in (plain_block k s)
block-mapped (content.Dirty bytes) s = refl
block-mapped (content.Clean ptr) state.Uncached = refl
block-mapped (content.Clean ptr) (state.Read n) = refl
block-mapped (content.Clean ptr) state.Fill = refl
block-mapped (content.Clean ptr) state.Cached = refl
block-mapped (content.Clean ptr) state.Evicting = refl

pub block-cached : (k : Content) (s : DbState) → (concrete.is_clean k && concrete.is_cached s) ≡ plain.is_cached (plain_block k s)
block-cached (content.Dirty bytes) s = refl
block-cached (content.Clean ptr) state.Uncached = refl
block-cached (content.Clean ptr) (state.Read n) = refl
block-cached (content.Clean ptr) state.Fill = refl
block-cached (content.Clean ptr) state.Cached = refl
block-cached (content.Clean ptr) state.Evicting = refl

module _ {H : Type 0} where
  outline-found : (at : Oid) (ds : List (Dbuf H)) → item_at outline.dbuf_oid at (map outline_dbuf (map plain_dbuf ds)) ≡ option_map outline_dbuf (option_map plain_dbuf (concrete.dbuf_at at ds))
  outline-found at ds = view-found plain.dbuf_oid outline.dbuf_oid outline_dbuf (λ d. refl) at (map plain_dbuf ds)
      ∙ ap (option_map outline_dbuf) (view-found concrete.dbuf_oid plain.dbuf_oid plain_dbuf (λ d. refl) at ds)

  mapped-found : (o : Option (Dbuf H)) → option_map (λ d. mapped_of d.content) o ≡ option_map (λ (d : OutlineDbuf). d.mapped) (option_map outline_dbuf (option_map plain_dbuf o))
  mapped-found None = refl
  mapped-found (Some d) = ap (λ (m : Mapped). Some m) (block-mapped d.content d.state)

  cached-found : (o : Option (Dbuf H)) → option_map_or (concrete.is_clean_in concrete.is_cached) o false ≡ option_map_or (λ (d : OutlineDbuf). d.cached) (option_map outline_dbuf (option_map plain_dbuf o)) false
  cached-found None = refl
  cached-found (Some d) = block-cached d.content d.state

  pinned-found : (n : ℕ) (o : Option (Dbuf H)) → option_map_or (λ d. pins.has_pin n d.pins) o false ≡ option_map_or (λ (d : OutlineDbuf). pins.has_pin n d.pins) (option_map outline_dbuf (option_map plain_dbuf o)) false
  pinned-found n None = refl
  pinned-found n (Some d) = refl

  pub standings-of : (ds : List (Dbuf H)) → map plain.standing (map plain_dbuf ds) ≡ map standing_of ds
  standings-of [] = refl
  standings-of (d ∷ ds) = ap (λ (ss : List Standing). standing_of d ∷ ss) (standings-of ds)

  pub cell-is-in-outline : CellIsInOutline H
  cell-is-in-outline evicting c at =
      let found = outline-found at c.dbufs in
      record {
        mapped = mapped-found (concrete.dbuf_at at c.dbufs) ∙ ap (option_map (λ (d : OutlineDbuf). d.mapped)) (sym found);
        cached = cached-found (concrete.dbuf_at at c.dbufs) ∙ ap (λ (o : Option OutlineDbuf). option_map_or (λ d. d.cached) o false) (sym found);
        pinned = λ n. pinned-found n (concrete.dbuf_at at c.dbufs) ∙ ap (λ (o : Option OutlineDbuf). option_map_or (λ d. pins.has_pin n d.pins) o false) (sym found);
        standings = sym (standings-same (map plain_dbuf c.dbufs) ∙ standings-of c.dbufs);
      }
