-- An operation on a dbuf: its event is noted, dbufs are evicted, and the cell is given back.
use Rattle.std.proofs.Common.{◌≡◌, ◌≢◌, ℕ, ◌+◌, Bool, true, false, not, ◌&&◌, IsTrue, List, [], ◌∷◌, ◌++◌, length, map, Option, Some, None, refl, sym, ap, ◌∙◌, subst, inl, inr}
use Rattle.std.specs.List.{list_all}
use Rattle.std.specs.Option.{option_map, option_map_or}
use Rattle.arc_core.specs.declared.event.Event.{Event}
use Rattle.arc_table.specs.Cache.{Cache}
use Rattle.arc_table.specs.Fronts.{list_at}
use Rattle.arc_table.specs.Geometry.{cell_number}
use Rattle.arc_table.specs.Giving.{AreHolds}
use Rattle.blk_ptr.specs.declared.ptr.Ptr.{Ptr}
use Rattle.dbuf_state.specs.CellLog.{CellLog, noted}
use Rattle.dbuf_state.specs.Dbufs.{dbuf_at, dbuf_is, is_cached, is_clean_in, is_passing, plain_dbuf, standing_of, unpinned_by, with_dbuf}
use Rattle.dbuf_state.specs.InHand.{are_at_rest}
use Rattle.dbuf_state.specs.Numbers.{claims_in, number_of}
use Rattle.dbuf_state.specs.Objects.{Evicting, IsBase, IsLegal, Must, PlainDbuf, evicting_after, is_due, must_evict, use_of}
use Rattle.dbuf_state.specs.Objects as plain
use Rattle.dbuf_state.specs.Oids.{item_at, oid_eq}
use Rattle.dbuf_state.specs.Outline.{Outline, OutlineDbuf, after, after_all, effect, has_pin_at, mapped_at, outline_of}
use Rattle.dbuf_state.specs.Outline as outline
use Rattle.dbuf_state.specs.Pins.{has_pin}
use Rattle.dbuf_state.specs.Soundness.{holds_in, plain_cell}
use Rattle.dbuf_state.specs.Standings.{is_over}
use Rattle.dbuf_state.specs.Steps.{Follows}
use Rattle.dbuf_state.specs.declared.dbuf.Dbuf.{Dbuf}
use Rattle.dbuf_state.specs.declared.event.CellEvent.{CellEvent}
use Rattle.dbuf_state.specs.declared.event.CellEvent.TheVariants.{Unpin}
use Rattle.dbuf_state.specs.declared.oid.Oid.{Oid}
use Rattle.dbuf_state.proofs.HandLemmas.{claims-stay, holds-stay, holds-stay-by-note, plain-dbuf-is, plain-standings-are, rest-stays}
use Rattle.dbuf_state.proofs.IndexLemmas.{and-both, and-parts, bool_cases}
use Rattle.dbuf_state.proofs.OutlineLemmas.{cell-is-in-outline, leads-outline}
use Rattle.dbuf_state.proofs.StepLemmas.{unpin-follows}
use Rattle.dbuf_cells.specs.InHand.{AsTaken, HasFinished, InHand}
use Rattle.dbuf_cells.specs.Kept.{bytes_of, is_held, key_of}
use Rattle.dbuf_cells.specs.Turns.{AreEvictions, OnHeap, Operates, PartyPlace, held_at, outline_in}
use Rattle.dbuf_cells.specs.declared.kept.Kept.{Kept}
use Rattle.dbuf_cells.proofs.CellSteps.{done-more, done-roomier}
use Rattle.dbuf_cells.proofs.Holders.{evictions-held}
use Rattle.dbuf_state.proofs.HeldLemmas.{held-same}
use Rattle.dbuf_state.specs.Held.{held_after}

-- ---- outlines that differ in what may be evicted alone

pub after-alike : (o a : Outline) (es : List CellEvent) → a.dbufs ≡ o.dbufs → a.events ≡ o.events → ((after_all a es).dbufs ≡ (after_all o es).dbufs) × ((after_all a es).events ≡ (after_all o es).events)
after-alike o a [] ds ev = (ds, ev)
after-alike o a (e ∷ es) ds ev = after-alike (after o e) (after a e) es (λ z. outline.touched (ev z + 1) (use_of e) (effect (ds z) e)) (λ z. ev z + 1)

evictions-alike : (n c : ℕ) (held : Oid → Bool) (o a : Outline) (evs : List CellEvent) (es : List Event) → a.dbufs ≡ o.dbufs → a.events ≡ o.events → AreEvictions n c held o evs es → AreEvictions n c held a evs es
evictions-alike n c held o a [] es ds ev are = are
evictions-alike n c held o a (e ∷ evs) es ds ev are = (
  are.0,
  are.1,
  are.2,
  are.3,
  are.4,
  ap (λ (l : List OutlineDbuf). option_map (λ (d : OutlineDbuf). d.mapped) (item_at outline.dbuf_oid are.0 l)) ds ∙ are.5,
  ap (λ (l : List OutlineDbuf). option_map_or (λ (d : OutlineDbuf). d.cached) (item_at outline.dbuf_oid are.0 l) false) ds ∙ are.6,
  are.7,
  are.8,
  evictions-alike n c held (after o e) (after a e) evs are.3 (λ z. outline.touched (ev z + 1) (use_of e) (effect (ds z) e)) (λ z. ev z + 1) are.9,
)

-- ---- more room

pub room-settled : (evicting : Evicting) (now c : CellLog Kept) → c ≡ record now { dbuf_room = c.dbuf_room; event_room = c.event_room } → IsTrue (not (is_due (plain_cell evicting now))) → IsTrue (not (is_due (plain_cell evicting c)))
room-settled evicting now c is settled = subst (λ (x : CellLog Kept). IsTrue (not (is_due (plain_cell evicting x)))) (sym is) settled

-- ---- one event

module _ (cache : Cache) (i : ℕ) (p : PartyPlace) (before : OnHeap) (evicting : Evicting) (news : List CellEvent) (es : List Event) (now : CellLog Kept) (q : PartyPlace) (h : InHand cache i p before evicting news es now q) where
  pub hand-more : (e : CellEvent) (base : List ℕ) (ds : List (Dbuf Kept)) → IsLegal (plain_cell evicting now) e → IsBase base (plain_cell evicting now) e → Follows base now e ds → number_of e ≡ q.number
      → IsTrue (are_at_rest ds) → ((k : ℕ) → k ≢ q.number → claims_in k ds ≡ claims_in k now.dbufs) → AreHolds (holds_in key_of bytes_of is_held ds) (list_at i q.own.listed)
      → ((b : Oid) → held_at ds b ≡ held_after b (held_at now.dbufs b) e) → InHand cache i p before (evicting_after evicting e) (news ++ e ∷ []) es (noted e (record now { dbufs = ds })) q
  hand-more e base ds legal of follows who rest claims holds held = record {
    party = h.party;
    cell = done-more q.number before.value now evicting news h.cell e base ds legal of follows who rest claims held;
    holds = subst (λ (l : List Ptr). AreHolds l (list_at i q.own.listed)) (sym (holds-stay-by-note key_of bytes_of is_held (length now.history + 1) (use_of e) ds)) holds;
  }

  pub hand-roomier : (a b : ℕ) → InHand cache i p before evicting news es (record now { dbuf_room = a; event_room = b }) q
  hand-roomier a b = record { party = h.party; cell = done-roomier q.number before.value now evicting news h.cell a b; holds = h.holds }

  pub hand-room : (c : CellLog Kept) → c ≡ record now { dbuf_room = c.dbuf_room; event_room = c.event_room } → InHand cache i p before evicting news es c q
  hand-room c is = subst (λ (x : CellLog Kept). InHand cache i p before evicting news es x q) (sym is) (hand-roomier c.dbuf_room c.event_room)

  -- what was evicted goes on from the operation's events, by each function that says of what is cached which dbufs keep a hold
  pub operates : (held : Oid → Bool) → ((b : Oid) → dbuf_is (is_clean_in is_cached) b now.dbufs ≡ true → held_at now.dbufs b ≡ held b) → (r : PartyPlace) → HasFinished cache i p before evicting news es now q r → Operates cache.config i before held news es p r
  operates held stay r f =
      let told = leads-outline (plain_cell h.cell.sound.evicting before.value) news h.cell.bases (plain_cell evicting now) h.cell.leads in
      let same = after-alike (outline_of (plain_cell h.cell.sound.evicting before.value)) (outline_in before) news refl refl in
      record {
        evictions = f.evictions;
        drops = f.drops;
        turn = f.given.turn;
        evicted = subst (λ (n : ℕ). AreEvictions n (cell_number cache.config i) held (after_all (outline_in before) news) f.evictions f.drops) h.party.number
            (evictions-alike q.number (cell_number cache.config i) held (after_all (outline_of (plain_cell h.cell.sound.evicting before.value)) news) (after_all (outline_in before) news) f.evictions f.drops same.0 same.1
            (subst (λ (o : Outline). AreEvictions q.number (cell_number cache.config i) held o f.evictions f.drops) told
            (evictions-held q.number (cell_number cache.config i) (held_at now.dbufs) held (outline_of (plain_cell evicting now)) f.evictions f.drops (λ b on. stay b ((cell-is-in-outline evicting now b).cached ∙ on)) f.evicted)));
      }

-- ---- what is not due

and-no : (a b : Bool) → not b ≡ true → not (a && b) ≡ true
and-no true b h = h
and-no false b h = refl

pub not-due : (evicting : Evicting) (c : CellLog Kept) → IsTrue (not (is_over c.limit (map standing_of c.dbufs))) → IsTrue (not (is_due (plain_cell evicting c)))
not-due evicting c few = and-no (must_evict evicting) _ (ap (λ s. not (is_over c.limit s)) (plain-standings-are evicting c) ∙ few)

-- what was finished of one and the same cell
pub finished : (cache : Cache) (i : ℕ) (p : PartyPlace) (before : OnHeap) (evicting : Evicting) (news : List CellEvent) (es : List Event) (old same : CellLog Kept) (q r : PartyPlace) → old ≡ same → HasFinished cache i p before evicting news es old q r
    → HasFinished cache i p before evicting news es same q r
finished cache i p before evicting news es old same q r is f = subst (λ (x : CellLog Kept). HasFinished cache i p before evicting news es x q r) is f

-- ---- what is so of one dbuf

pub all-at : (test : Dbuf Kept → Bool) (at : Oid) (ds : List (Dbuf Kept)) (d : Dbuf Kept) → list_all test ds ≡ true → dbuf_at at ds ≡ Some d → test d ≡ true
all-at test at [] d all found = let clash : ◌≡◌ {A = Option (Dbuf Kept)} None (Some d) = found in cc
all-at test at (x ∷ ds) d all found = elim (bool_cases (oid_eq at x.at)) [
  | inl here ↦
      let same : ◌≡◌ {A = Option (Dbuf Kept)} (Some x) (Some d) = rw here at found in
      let is : x ≡ d = cc in
      ap test (sym is) ∙ (and-parts (test x) (list_all test ds) all).0
  | inr far ↦ all-at test at ds d (and-parts (test x) (list_all test ds) all).1 (rw far at found)
]

not-not : (b : Bool) → not b ≡ true → b ≡ false
not-not true h = sym h
not-not false h = refl

pub rest-of : (at : Oid) (ds : List (Dbuf Kept)) (d : Dbuf Kept) → IsTrue (are_at_rest ds) → dbuf_at at ds ≡ Some d → is_passing d.state ≡ false
rest-of at ds d rest found = not-not (is_passing d.state) (all-at (λ x. not (is_passing x.state)) at ds d rest found)

-- a test of the dbuf as plain data
pub plain-test : (evicting : Evicting) (c : CellLog Kept) (at : Oid) (test : PlainDbuf → Bool) → plain.dbuf_is test at (plain_cell evicting c) ≡ dbuf_is (λ d. test (plain_dbuf d)) at c.dbufs
plain-test evicting c at test = ap (λ (o : Option PlainDbuf). option_map_or test o false) (plain-dbuf-is evicting c at) ∙ go (dbuf_at at c.dbufs)
  where
    go : (o : Option (Dbuf Kept)) → option_map_or test (option_map plain_dbuf o) false ≡ option_map_or (λ d. test (plain_dbuf d)) o false
    go None = refl
    go (Some d) = refl

-- a cell as it was taken, with more room
pub as-taken-room : (cache : Cache) (i : ℕ) (p : PartyPlace) (before : OnHeap) (now c : CellLog Kept) (q : PartyPlace) → AsTaken cache i p before now q → c ≡ record now { dbuf_room = c.dbuf_room; event_room = c.event_room } → AsTaken cache i p before c q
as-taken-room cache i p before now c q t is = record { evicting = t.evicting; hand = hand-room cache i p before t.evicting [] [] now q t.hand c is; settled = room-settled t.evicting now c is t.settled }

-- ---- a pin that is taken back

module _ (cache : Cache) (i : ℕ) (p : PartyPlace) (before : OnHeap) (evicting : Evicting) (news : List CellEvent) (es : List Event) (now : CellLog Kept) (q : PartyPlace) (h : InHand cache i p before evicting news es now q) where
  pub hand-unpin : (n : ℕ) (at : Oid) (c : CellLog Kept) → n ≡ q.number → c ≡ noted (Unpin n at) (record now { dbufs = with_dbuf at (unpinned_by n) now.dbufs }) → IsTrue (not (is_due (plain_cell evicting now))) → dbuf_is (λ d. has_pin n d.pins) at now.dbufs ≡ true
      → InHand cache i p before Must (news ++ Unpin n at ∷ []) es c q
  hand-unpin n at c who is settled has = subst (λ (x : CellLog Kept). InHand cache i p before Must (news ++ Unpin n at ∷ []) es x q) (sym is)
      (hand-more cache i p before evicting news es now q h (Unpin n at) [] (with_dbuf at (unpinned_by n) now.dbufs)
      (and-both (not (is_due (plain_cell evicting now))) _ settled (plain-test evicting now at (λ d. has_pin n d.pins) ∙ has)) tt (unpin-follows now n at) who
      (rest-stays at (unpinned_by n) now.dbufs (λ d found. rest-of at now.dbufs d h.cell.rest found) h.cell.rest)
      (λ k other. claims-stay at (unpinned_by n) k now.dbufs (λ d found. refl))
      (subst (λ (l : List Ptr). AreHolds l (list_at i q.own.listed)) (sym (holds-stay key_of bytes_of is_held at (unpinned_by n) now.dbufs (λ d. refl))) h.holds)
      (held-same is_held at (unpinned_by n) (λ d. refl) (λ d. refl) now.dbufs))

-- whether a number has a pin stands in the outline
pub no-pin : (b : OnHeap) (n : ℕ) (at : Oid) → dbuf_is (λ d. has_pin n d.pins) at b.value.dbufs ≡ false → has_pin_at n at (outline_in b) ≡ false
no-pin b n at none = sym ((cell-is-in-outline plain.Never b.value at).pinned n) ∙ none
