-- That the changes of a cell's dbufs are what its events say of the plain cell.
use Rattle.std.proofs.Common.{◌≡◌, ℕ, ◌+◌, true, not, ◌&&◌, List, [], ◌∷◌, ◌++◌, length, map, replicate, Option, Some, None, refl, sym, ap, subst, ◌∙◌, inl, inr}
use Rattle.std.proofs.lemmas.List.{append-nil, append_assoc, length_push}
use Rattle.dbuf_state.specs.declared.dbuf.Content.{Content}
use Rattle.dbuf_state.specs.declared.dbuf.Content.TheVariants.{Clean, Dirty}
use Rattle.dbuf_state.specs.declared.dbuf.Dbuf.{Dbuf}
use Rattle.dbuf_state.specs.declared.event.CellEvent.{CellEvent}
use Rattle.dbuf_state.specs.declared.event.CellEvent.TheVariants.{Get, Put, Patch, Pin, Unpin, Load, Evict, Synced, End}
use Rattle.dbuf_state.specs.declared.oid.Oid.{Oid}
use Rattle.dbuf_state.specs.declared.state.DbState.{DbState}
use Rattle.dbuf_state.specs.declared.state.Mapping.{Mapping}
use Rattle.std.specs.List.{AllByRecursion, list_all}
use Rattle.dbuf_state.specs.declared.state.DbState.TheVariants as state
use Rattle.dbuf_state.specs.CellLog.{CellLog, fresh, touched}
use Rattle.dbuf_state.specs.Dbufs.{DbufHas, plain_block, cached_with, cleared, dbuf_at, dbuf_oid, dirty_with, emptied, is_cached, is_clean, is_clean_in, is_passing, is_reading, is_uncached, pinned_by, plain_dbuf, reading_by, synced_to, unpinned_by, unread, used_at, with_dbuf, without_kept, written, written_at}
use Rattle.dbuf_state.specs.History.{Leads}
use Rattle.dbuf_state.specs.Objects.{Block, Evicting, IsBase, IsLegal, PlainCell, PlainDbuf, after, changed, effect, evicting_after, opening_cell, untold, use_of}
use Rattle.dbuf_state.specs.Objects as plain
use Rattle.dbuf_state.specs.Oids.{oid_eq, with_item}
use Rattle.dbuf_state.specs.Pins as pins
use Rattle.dbuf_state.specs.Soundness.{KeepsWhereCached, plain_cell}
use Rattle.dbuf_state.specs.Steps.{CallGoesOn, EndFollows, EvictFollows, Follows, GetFollows, GoesOn, LoadFollows, MappedIsSound, PatchFollows, PatchOfCleanFollows, PinFollows, PutFollows, ReadingAlike, SyncedFollows, UnpinFollows, UnreadAlike}
use Rattle.dbuf_state.proofs.Changes.{view-change, view-item}
use Rattle.dbuf_state.proofs.FitLemmas.{from-test}
use Rattle.dbuf_state.proofs.IndexLemmas.{bool_cases}

pub goes-on : GoesOn
goes-on c end [] bases e base leads legal of =
    subst (λ (m : PlainCell). Leads m (e ∷ []) (bases ++ untold end e base) (after base end e)) leads.1
    (legal, (base, [], ap (λ (bs : List (List ℕ)). bs ++ untold end e base) leads.0 ∙ sym (append-nil (untold end e base)), of, (refl, refl)))
goes-on c end (x ∷ es) bases e base leads legal of = (
  leads.0,
  (
    leads.1.0,
    leads.1.1 ++ untold end e base,
    ap (λ (bs : List (List ℕ)). bs ++ untold end e base) leads.1.2 ∙ append_assoc (untold c x leads.1.0) leads.1.1 (untold end e base),
    leads.1.3,
    goes-on (after leads.1.0 c x) end es leads.1.1 e base leads.1.4 legal of,
  ),
)

-- ---- what becomes of a block

loads : (content : Content) (s : DbState) → (is_clean content && is_reading s) ≡ true → plain_block content state.Cached ≡ plain.loaded (plain_block content s)
loads (Dirty bytes) s h = refl
loads (Clean ptr) state.Uncached h = cc
loads (Clean ptr) (state.Read n) h = refl
loads (Clean ptr) state.Fill h = cc
loads (Clean ptr) state.Cached h = cc
loads (Clean ptr) state.Evicting h = cc

evicts : (content : Content) (s : DbState) → (is_clean content && is_cached s) ≡ true → plain_block content state.Uncached ≡ plain.evicted (plain_block content s)
evicts (Dirty bytes) s h = refl
evicts (Clean ptr) state.Uncached h = cc
evicts (Clean ptr) (state.Read n) h = cc
evicts (Clean ptr) state.Fill h = cc
evicts (Clean ptr) state.Cached h = refl
evicts (Clean ptr) state.Evicting h = cc

patches : (from : ℕ) (bytes base : List ℕ) (content : Content) (s : DbState) → content ≡ Dirty base → plain_block (written from bytes content) s ≡ plain.Dirty (plain.patched from bytes base)
patches from bytes base content s is = ap (λ (k : Content). plain_block (written from bytes k) s) is

empties : (content : Content) (s : DbState) → plain_block content (emptied content s) ≡ plain.evicted (plain_block content s)
empties (Dirty bytes) s = refl
empties (Clean ptr) state.Uncached = refl
empties (Clean ptr) (state.Read n) = refl
empties (Clean ptr) state.Fill = refl
empties (Clean ptr) state.Cached = refl
empties (Clean ptr) state.Evicting = refl

unchanged : (at : Oid) (ds : List PlainDbuf) → changed at (λ p. p) ds ≡ ds
unchanged at [] = refl
unchanged at (d ∷ ds) = elim (bool_cases (oid_eq at d.at)) [
  | inl holds ↦ rw holds refl
  | inr fails ↦ rw fails (ap (λ (ps : List PlainDbuf). d ∷ ps) (unchanged at ds))
]

reads : (n : ℕ) (content : Content) (s : DbState) → (is_clean content && is_uncached s) ≡ true → plain_block content (state.Read n) ≡ plain_block content s
reads n (Dirty bytes) s h = refl
reads n (Clean ptr) state.Uncached h = refl
reads n (Clean ptr) (state.Read m) h = refl
reads n (Clean ptr) state.Fill h = refl
reads n (Clean ptr) state.Cached h = cc
reads n (Clean ptr) state.Evicting h = refl

unreads : (content : Content) (s : DbState) → (is_clean content && is_reading s) ≡ true → plain_block content state.Uncached ≡ plain_block content s
unreads (Dirty bytes) s h = refl
unreads (Clean ptr) state.Uncached h = refl
unreads (Clean ptr) (state.Read m) h = refl
unreads (Clean ptr) state.Fill h = refl
unreads (Clean ptr) state.Cached h = cc
unreads (Clean ptr) state.Evicting h = refl

-- ---- a cell that only maps

abbrev mapped_dbufs : (H : Type 0) → List Mapping → List (Dbuf H)
mapped_dbufs H ms = map (λ m. fresh m.at (Clean m.ptr) state.Uncached) ms

opened : (H : Type 0) (ms : List Mapping) → map plain_dbuf (mapped_dbufs H ms) ≡ map plain.opened ms
opened H [] = refl
opened H (m ∷ ms) = ap (λ (ps : List PlainDbuf). plain.opened m ∷ ps) (opened H ms)

rests : (H : Type 0) (ms : List Mapping) → list_all (λ d. not (is_passing d.state)) (mapped_dbufs H ms) ≡ true
rests H [] = refl
rests H (m ∷ ms) = rests H ms

keep-none : (H : Type 0) (ms : List Mapping) → AllByRecursion KeepsWhereCached (mapped_dbufs H ms)
keep-none H [] = tt
keep-none H (m ∷ ms) = (refl, keep-none H ms)

module _ {H : Type 0} where
  -- a change of the Oid's dbuf is a change of the plain one
  pub plain-change : (at : Oid) (f : Dbuf H → Dbuf H) (g : PlainDbuf → PlainDbuf) (ds : List (Dbuf H))
      → DbufHas (λ d. plain_dbuf (f d) ≡ g (plain_dbuf d)) (dbuf_at at ds) → map plain_dbuf (with_dbuf at f ds) ≡ changed at g (map plain_dbuf ds)
  plain-change at f g ds has = view-change dbuf_oid plain.dbuf_oid plain_dbuf (λ d. refl) at f g ds (λ d found. subst (DbufHas (λ d. plain_dbuf (f d) ≡ g (plain_dbuf d))) found has)

  pub plain-change-all : (at : Oid) (f : Dbuf H → Dbuf H) (g : PlainDbuf → PlainDbuf) → ((d : Dbuf H) → plain_dbuf (f d) ≡ g (plain_dbuf d)) → (ds : List (Dbuf H))
      → map plain_dbuf (with_dbuf at f ds) ≡ changed at g (map plain_dbuf ds)
  plain-change-all at f g each ds = view-change dbuf_oid plain.dbuf_oid plain_dbuf (λ d. refl) at f g ds (λ d found. each d)

  plain-item : (at : Oid) (f : Dbuf H → Dbuf H) (new : Dbuf H) (g : PlainDbuf → PlainDbuf) (plain_new : PlainDbuf) → ((d : Dbuf H) → plain_dbuf (f d) ≡ g (plain_dbuf d)) → plain_dbuf new ≡ plain_new
      → (ds : List (Dbuf H)) → map plain_dbuf (with_item dbuf_oid at f new ds) ≡ with_item plain.dbuf_oid at g plain_new (map plain_dbuf ds)
  plain-item at f new g plain_new each is ds = view-item dbuf_oid plain.dbuf_oid plain_dbuf (λ d. refl) at f new g plain_new each is ds

  plain-touched : (tick : ℕ) (used : Option Oid) (ds : List (Dbuf H)) → map plain_dbuf (touched tick used ds) ≡ plain.touched tick used (map plain_dbuf ds)
  plain-touched tick None ds = refl
  plain-touched tick (Some at) ds = plain-change-all at (used_at tick) (plain.used_at tick) (λ d. refl) ds

  -- the event's effect on the dbufs is all that is left to show
  follows : (base : List ℕ) (c : CellLog H) (e : CellEvent) (ds : List (Dbuf H)) → map plain_dbuf ds ≡ effect base (map plain_dbuf c.dbufs) e → Follows base c e ds
  follows base c e ds is evicting =
      ap (λ (ps : List PlainDbuf). record { limit = c.limit; dbufs = ps; events = length (c.history ++ e ∷ []); evicting = evicting_after evicting e })
      (plain-touched (length c.history + 1) (use_of e) ds ∙ ap (plain.touched (length c.history + 1) (use_of e)) is)
      ∙ ap (λ n. record { limit = c.limit; dbufs = plain.touched (length c.history + 1) (use_of e) (effect base (map plain_dbuf c.dbufs) e); events = n; evicting = evicting_after evicting e })
      (length_push c.history e)

  pub get-follows : GetFollows H
  get-follows c n at = follows [] c (Get n at) c.dbufs refl

  pub load-follows : LoadFollows H
  load-follows c n at held kept h = follows [] c (Load n at held) _ (plain-change at (cached_with kept) (plain.with_block plain.loaded) c.dbufs
      (from-test (is_clean_in is_reading) _ (λ d t. ap (λ (b : Block). record { at = d.at; block = b; pins = d.pins; used = d.used }) (loads d.content d.state t)) at c.dbufs h))

  pub evict-follows : EvictFollows H
  evict-follows c n at h = follows [] c (Evict n at) _ (plain-change at (without_kept state.Uncached) (plain.with_block plain.evicted) c.dbufs
      (from-test (is_clean_in is_cached) _ (λ d t. ap (λ (b : Block). record { at = d.at; block = b; pins = d.pins; used = d.used }) (evicts d.content d.state t)) at c.dbufs h))

  pub put-follows : PutFollows H
  put-follows c n at size fill = follows [] c (Put n at size fill) _ (plain-item at (dirty_with (replicate size fill)) (fresh at (Dirty (replicate size fill)) state.Cached)
      (plain.with_block (λ _. plain.Dirty (replicate size fill))) (plain.fresh_dbuf at (plain.Dirty (replicate size fill))) (λ d. refl) refl c.dbufs)

  pub patch-follows : PatchFollows H
  patch-follows c n at from bytes base h = follows base c (Patch n at from bytes) _ (plain-change at (written_at from bytes) (plain.with_block (λ _. plain.Dirty (plain.patched from bytes base))) c.dbufs
      (more (dbuf_at at c.dbufs) h))
    where
      more : (o : Option (Dbuf H)) → DbufHas (λ d. d.content ≡ Dirty base) o → DbufHas (λ d. plain_dbuf (written_at from bytes d) ≡ plain.with_block (λ _. plain.Dirty (plain.patched from bytes base)) (plain_dbuf d)) o
      more None h = h
      more (Some d) h = ap (λ (b : Block). record { at = d.at; block = b; pins = d.pins; used = d.used }) (patches from bytes base d.content d.state h)

  twice : (at : Oid) (f g : Dbuf H → Dbuf H) → ((d : Dbuf H) → (g d).at ≡ d.at) → (ds : List (Dbuf H)) → with_dbuf at f (with_dbuf at g ds) ≡ with_dbuf at (λ d. f (g d)) ds
  twice at f g same [] = refl
  twice at f g same (d ∷ ds) = elim (bool_cases (oid_eq at d.at)) [
    | inl holds ↦ rw (holds, same d, holds) refl
    | inr fails ↦ rw (fails, fails) (ap (λ (xs : List (Dbuf H)). d ∷ xs) (twice at f g same ds))
  ]

  pub patch-of-clean-follows : PatchOfCleanFollows H
  patch-of-clean-follows c n at from bytes base = follows base c (Patch n at from bytes) _
      (ap (map plain_dbuf) (twice at (written_at from bytes) (dirty_with base) (λ d. refl) c.dbufs)
      ∙ plain-change-all at (λ d. written_at from bytes (dirty_with base d)) (plain.with_block (λ _. plain.Dirty (plain.patched from bytes base))) (λ d. refl) c.dbufs)

  pub pin-follows : PinFollows H
  pin-follows c n at = follows [] c (Pin n at) _ (plain-change-all at (pinned_by n) (plain.with_pins (pins.pinned n)) (λ d. refl) c.dbufs)

  pub unpin-follows : UnpinFollows H
  unpin-follows c n at = follows [] c (Unpin n at) _ (plain-change-all at (unpinned_by n) (plain.with_pins (pins.unpinned n)) (λ d. refl) c.dbufs)

  pub synced-follows : SyncedFollows H
  synced-follows c n at ptr held kept = follows [] c (Synced n at ptr held) _ (plain-change-all at (synced_to ptr kept) (plain.with_block (λ _. plain.Cached ptr)) (λ d. refl) c.dbufs)

  ends : (ds : List (Dbuf H)) → map plain_dbuf (map cleared ds) ≡ map plain.ended (map plain_dbuf ds)
  ends [] = refl
  ends (d ∷ ds) = ap (λ (b : Block). record { at = d.at; block = b; pins = []; used = d.used } ∷ map plain_dbuf (map cleared ds)) (empties d.content d.state) ∙ ap (λ (ps : List PlainDbuf). plain.ended (plain_dbuf d) ∷ ps) (ends ds)

  pub end-follows : EndFollows H
  end-follows c n ds same = follows [] c (End n) _ (same ∙ ends c.dbufs)

  -- ---- states that count alike

  alike : (at : Oid) (f : Dbuf H → Dbuf H) (c : CellLog H) (evicting : Evicting) → DbufHas (λ d. plain_dbuf (f d) ≡ plain_dbuf d) (dbuf_at at c.dbufs)
      → plain_cell evicting (record c { dbufs = with_dbuf at f c.dbufs }) ≡ plain_cell evicting c
  alike at f c evicting has =
      ap (λ (ps : List PlainDbuf). record { limit = c.limit; dbufs = ps; events = length c.history; evicting = evicting })
      (plain-change at f (λ p. p) c.dbufs has ∙ unchanged at (map plain_dbuf c.dbufs))

  pub reading-alike : ReadingAlike H
  reading-alike c n at evicting h = alike at (reading_by n) c evicting
      (from-test (is_clean_in is_uncached) _ (λ d t. ap (λ (b : Block). record { at = d.at; block = b; pins = d.pins; used = d.used }) (reads n d.content d.state t)) at c.dbufs h)

  pub unread-alike : UnreadAlike H
  unread-alike c at evicting h = alike at unread c evicting
      (from-test (is_clean_in is_reading) _ (λ d t. ap (λ (b : Block). record { at = d.at; block = b; pins = d.pins; used = d.used }) (unreads d.content d.state t)) at c.dbufs h)

  -- ---- histories

  pub call-goes-on : CallGoesOn H
  call-goes-on c evicting bases base e ds leads legal of follows =
      subst (λ (end : PlainCell). Leads (opening_cell c.limit c.opening) (c.history ++ e ∷ []) (bases ++ untold (plain_cell evicting c) e base) end) (sym (follows evicting))
      (goes-on (opening_cell c.limit c.opening) (plain_cell evicting c) c.history bases e base leads legal of)

  pub mapped-is-sound : MappedIsSound H
  mapped-is-sound c first mapped = record {
    evicting = plain.Never;
    bases = [];
    history = record {
      legal = subst (λ (es : List CellEvent). Leads (opening_cell c.limit c.opening) es [] (plain_cell plain.Never c)) (sym first) (
        refl,
        ap (λ (ps : List PlainDbuf). record { limit = c.limit; dbufs = ps; events = length c.history; evicting = plain.Never }) (ap (map plain_dbuf) mapped ∙ opened H c.opening)
            ∙ ap (λ (es : List CellEvent). record { limit = c.limit; dbufs = map plain.opened c.opening; events = length es; evicting = plain.Never }) first,
      );
      settled = refl;
    };
    at_rest = subst (λ (ds : List (Dbuf H)). list_all (λ d. not (is_passing d.state)) ds ≡ true) (sym mapped) (rests H c.opening);
    fit = subst (AllByRecursion KeepsWhereCached) (sym mapped) (keep-none H c.opening);
  }
