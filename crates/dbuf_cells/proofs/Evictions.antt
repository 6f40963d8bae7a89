-- Evictions: one dbuf goes, and what it kept is given back; and several, one after another.
use Rattle.std.proofs.Common.{◌≡◌, ℕ, ◌+◌, Bool, IsTrue, List, [], ◌∷◌, ◌++◌, map, cond, true, Option, Some, None, refl, sym, ap, ◌∙◌, subst, arith}
use Rattle.std.proofs.lemmas.List.{append-nil, append_assoc}
use Rattle.blk_ptr.specs.Order.{key_eq}
use Rattle.blk_ptr.specs.declared.key.Key.{Key}
use Rattle.blk_ptr.specs.declared.ptr.Ptr.{Ptr}
use Rattle.arc_core.specs.Keeps.{holds_on}
use Rattle.arc_core.specs.declared.event.Event.{Event}
use Rattle.arc_core.specs.declared.event.Event.TheVariants.{Drop}
use Rattle.arc_table.specs.Cache.{Cache}
use Rattle.arc_table.specs.Fronts.{list_at}
use Rattle.arc_table.specs.Geometry.{cell_number}
use Rattle.arc_table.specs.Giving.{AreHolds}
use Rattle.arc_table.specs.Both.{Does}
use Rattle.arc_table.specs.Handing.{Releases}
use Rattle.arc_table.specs.Holding.{IsHeld, cell, ptr_of}
use Rattle.arc_core.specs.declared.config.Config.{Config}
use Rattle.std.specs.Prelude.{IfSome}
use Rattle.arc_table.specs.declared.hold.Hold.{Hold}
use Rattle.arc_table.proofs.Bookings.{holds_cons}
use Rattle.dbuf_state.specs.CellLog.{CellLog, noted}
use Rattle.dbuf_state.specs.Dbufs.{DbufHas, IsOfContent, dbuf_at, dbuf_oid, mapped_of, standing_of, with_dbuf, without_kept}
use Rattle.dbuf_state.specs.Objects.{Evicting, may_evict}
use Rattle.dbuf_state.specs.Oids.{has_item, is_distinct}
use Rattle.dbuf_state.specs.Outline.{Outline, after, after_all, mapped_at, outline_of}
use Rattle.dbuf_state.specs.Soundness.{hold_in, holds_in, plain_cell}
use Rattle.dbuf_state.specs.Standings.{is_evictable}
use Rattle.dbuf_state.specs.declared.dbuf.Content.{Content}
use Rattle.dbuf_state.specs.declared.dbuf.Content.TheVariants as content
use Rattle.dbuf_state.specs.declared.dbuf.Dbuf.{Dbuf}
use Rattle.dbuf_state.specs.declared.event.CellEvent.{CellEvent}
use Rattle.dbuf_state.specs.declared.event.CellEvent.TheVariants.{Evict}
use Rattle.dbuf_state.specs.declared.oid.Oid.{Oid}
use Rattle.dbuf_state.specs.declared.state.DbState.TheVariants as state
use Rattle.dbuf_state.specs.declared.state.Mapped.TheVariants.{Clean}
use Rattle.std.specs.Option.{option_map}
use Rattle.dbuf_state.proofs.FitLemmas.{has-found}
use Rattle.dbuf_state.proofs.HandLemmas.{evictable-is-cached, holds-change}
use Rattle.dbuf_state.proofs.OutlineLemmas.{cell-is-in-outline, outline-follows}
use Rattle.dbuf_state.proofs.StepLemmas.{evict-follows}
use Rattle.dbuf_cells.specs.InHand.{Evicts, GivesBack, GivesUp, HasDone, HasEvicted, HasTaken, InHand, IsOut, MayEvict}
use Rattle.dbuf_cells.specs.Kept.{bytes_of, is_held, key_of}
use Rattle.dbuf_cells.specs.Turns.{AreEvictions, OnHeap, PartyPlace, dbuf_meanings, drops_if, held_at, holds_of}
use Rattle.dbuf_cells.specs.declared.kept.Kept.{Kept}
use Rattle.dbuf_cells.specs.declared.kept.Kept.TheVariants.{Held, Loose}
use Rattle.dbuf_cells.proofs.CellSteps.{done-evict, evict-legal, evicts-cached, none-there}
use Rattle.dbuf_cells.proofs.Holders.{evictions-held, held-as, stays-all, stays-noted, stays-out, stays-then}
use Rattle.dbuf_cells.proofs.HoldLists.{kept-one, one-less, taken-out}
use Rattle.dbuf_cells.proofs.PartySteps.{alike-listed, among-held, drop-lists, taken-more}

-- the dbuf that is meant
pub record IsDbuf (P : Dbuf Kept → Type 0) (o : Option (Dbuf Kept)) : Type 0 where
  pub dbuf : Dbuf Kept
  pub there : o ≡ Some dbuf
  pub has : P dbuf

pub is-dbuf : (P : Dbuf Kept → Type 0) (o : Option (Dbuf Kept)) → DbufHas P o → IsDbuf P o
is-dbuf P None h = absurd h
is-dbuf P (Some d) h = record { dbuf = d; there = refl; has = h }

-- who has a dbuf has an item
pub has-dbuf : (P : Dbuf Kept → Type 0) (at : Oid) (ds : List (Dbuf Kept)) → DbufHas P (dbuf_at at ds) → has_item dbuf_oid at ds ≡ true
has-dbuf P at ds h = has-found P at ds h

pub has-of : (P : Dbuf Kept → Type 0) (o : Option (Dbuf Kept)) (d : Dbuf Kept) → DbufHas P o → o ≡ Some d → P d
has-of P o d h e = subst (DbufHas P) e h

-- ---- several, one behind another

evictions-behind : (n c : ℕ) (held : Oid → Bool) (o : Outline) (evs more : List CellEvent) (es rest : List Event) → AreEvictions n c held o evs es → AreEvictions n c held (after_all o evs) more rest → AreEvictions n c held o (evs ++ more) (es ++ rest)
evictions-behind n c held o [] more es rest a b = subst (λ (l : List Event). AreEvictions n c held o more (l ++ rest)) (sym a) b
evictions-behind n c held o (e ∷ evs) more es rest a b = (
  a.0,
  a.1,
  a.2,
  a.3 ++ rest,
  a.4,
  a.5,
  a.6,
  ap (λ (l : List Event). l ++ rest) a.7 ∙ append_assoc a.2 a.3 rest,
  a.8,
  evictions-behind n c held (after o e) evs more a.3 rest a.9 b,
)

after-behind : (o : Outline) (evs more : List CellEvent) → after_all (after_all o evs) more ≡ after_all o (evs ++ more)
after-behind o [] more = refl
after-behind o (e ∷ evs) more = after-behind (after o e) evs more

module _ (cache : Cache) (i : ℕ) where
  pub evicts-none : (c : CellLog Kept) (q : PartyPlace) → Evicts cache i c c q q
  evicts-none c q p before evicting news es may h = record {
    evictions = [];
    drops = [];
    evicted = refl;
    stay = stays-all c.dbufs;
    outline = refl;
    hand = subst (λ (l : List CellEvent). InHand cache i p before evicting l (es ++ []) c q) (sym (append-nil news))
        (subst (λ (l : List Event). InHand cache i p before evicting news l c q) (sym (append-nil es)) h);
  }

  pub evicts-then : (a b c : CellLog Kept) (q r s : PartyPlace) → Evicts cache i a b q r → Evicts cache i b c r s → Evicts cache i a c q s
  evicts-then a b c q r s first second p before evicting news es may h =
      let x = first p before evicting news es may h in
      let y = second p before evicting (news ++ x.evictions) (es ++ x.drops) may x.hand in
      let number : r.number ≡ q.number = x.hand.party.number ∙ sym h.party.number in
      record {
        evictions = x.evictions ++ y.evictions;
        drops = x.drops ++ y.drops;
        evicted = evictions-behind q.number (cell_number cache.config i) (held_at a.dbufs) (outline_of (plain_cell evicting a)) x.evictions y.evictions x.drops y.drops x.evicted
            (subst (λ (o : Outline). AreEvictions q.number (cell_number cache.config i) (held_at a.dbufs) o y.evictions y.drops) x.outline
            (evictions-held q.number (cell_number cache.config i) (held_at b.dbufs) (held_at a.dbufs) (outline_of (plain_cell evicting b)) y.evictions y.drops (λ at on. (x.stay at ((cell-is-in-outline evicting b at).cached ∙ on)).1)
            (subst (λ (n : ℕ). AreEvictions n (cell_number cache.config i) (held_at b.dbufs) (outline_of (plain_cell evicting b)) y.evictions y.drops) number y.evicted)));
        stay = stays-then a.dbufs b.dbufs c.dbufs x.stay y.stay;
        outline = y.outline ∙ (ap (λ (o : Outline). after_all o y.evictions) x.outline ∙ after-behind (outline_of (plain_cell evicting a)) x.evictions y.evictions);
        hand = subst (λ (l : List CellEvent). InHand cache i p before evicting l (es ++ (x.drops ++ y.drops)) c s) (append_assoc news x.evictions y.evictions)
            (subst (λ (l : List Event). InHand cache i p before evicting ((news ++ x.evictions) ++ y.evictions) l c s) (append_assoc es x.drops y.drops) y.hand);
      }

  -- who might evict before may do so behind these evictions
  pub may-evict : (a b : CellLog Kept) (q r : PartyPlace) → MayEvict cache i a q → Evicts cache i a b q r → MayEvict cache i b r
  may-evict a b q r m evicts =
      let x = evicts m.from m.before m.evicting m.news m.es m.may m.hand in
      record { from = m.from; before = m.before; evicting = m.evicting; news = m.news ++ x.evictions; es = m.es ++ x.drops; hand = x.hand; may = m.may }

-- ---- one

-- what a dbuf keeps is the party's to give back
pub kept-held : (cache : Cache) (i : ℕ) (p : PartyPlace) (before : OnHeap) (es : List Event) (old : CellLog Kept) (q : PartyPlace) → HasTaken cache i p before es q → AreHolds (holds_of old) (list_at i q.own.listed)
    → (at : Oid) (k : Kept) → DbufHas (λ d. d.kept ≡ Some k) (dbuf_at at old.dbufs) → IsOut cache.config i q k
kept-held cache i p before es old q t holds at (Held hold) there =
    let d = is-dbuf (λ x. x.kept ≡ Some (Held hold)) (dbuf_at at old.dbufs) there in
    let one = kept-one at old.dbufs d.dbuf (Held hold) d.there d.has refl in
    (t.cell, among-held cache i p before es q q t, holds.among one.0 (ptr_of hold) one.1)
kept-held cache i p before es old q t holds at (Loose key block) there = tt

pub kept-out : (cache : Cache) (i : ℕ) (p : PartyPlace) (before : OnHeap) (evicting : Evicting) (news : List CellEvent) (es : List Event) (old : CellLog Kept) (q : PartyPlace) → InHand cache i p before evicting news es old q
    → (at : Oid) (k : Kept) → DbufHas (λ d. d.kept ≡ Some k) (dbuf_at at old.dbufs) → IsOut cache.config i q k
kept-out cache i p before evicting news es old q h = kept-held cache i p before es old q h.party h.holds

-- what a dbuf keeps is of the pointer that the outline has
pub pointed : (evicting : Evicting) (old : CellLog Kept) (at : Oid) (k : Kept) → DbufHas (λ d. IsOfContent key_of bytes_of k d.content) (dbuf_at at old.dbufs)
    → (ptr : Ptr) × (mapped_at at (outline_of (plain_cell evicting old)) ≡ Some (Clean ptr)) × (key_of k ≡ ptr.key)
pointed evicting old at k of =
    let d = is-dbuf (λ x. IsOfContent key_of bytes_of k x.content) (dbuf_at at old.dbufs) of in
    let m = cell-is-in-outline evicting old at in
    go d.dbuf.content d.has (sym m.mapped ∙ ap (option_map (λ x. mapped_of x.content)) d.there)
  where
    go : (c : Content) → IsOfContent key_of bytes_of k c → mapped_at at (outline_of (plain_cell evicting old)) ≡ Some (mapped_of c) → (ptr : Ptr) × (mapped_at at (outline_of (plain_cell evicting old)) ≡ Some (Clean ptr)) × (key_of k ≡ ptr.key)
    go (content.Clean ptr) is m = (ptr, m, is.key)
    go (content.Dirty bytes) is m = absurd is

-- the holds that are left where a dbuf's block is taken out: one less, on its key, or all where it was loose
pub left-held : (at : Oid) (f : Dbuf Kept → Dbuf Kept) → ((d : Dbuf Kept) → (f d).kept ≡ None) → (ds : List (Dbuf Kept)) (d : Dbuf Kept) (hold : Hold) → dbuf_at at ds ≡ Some d → d.kept ≡ Some (Held hold) → (j : Key)
    → holds_on j (holds_in key_of bytes_of is_held (with_dbuf at f ds)) + cond (key_eq j hold.key) 1 0 ≡ holds_on j (holds_in key_of bytes_of is_held ds)
left-held at f none-kept ds d hold found there j =
    let change : holds_on j (holds_in key_of bytes_of is_held (with_dbuf at f ds)) + holds_on j (hold_in key_of bytes_of is_held d.kept) ≡ holds_on j (holds_in key_of bytes_of is_held ds) + holds_on j (hold_in key_of bytes_of is_held (f d).kept) =
    holds-change key_of bytes_of is_held at f ds d j found in
    let gone : holds_on j (hold_in key_of bytes_of is_held (f d).kept) ≡ 0 = ap (λ (o : Option Kept). holds_on j (hold_in key_of bytes_of is_held o)) (none-kept d) in
    let was : holds_on j (hold_in key_of bytes_of is_held d.kept) ≡ holds_on j (ptr_of hold ∷ []) = ap (λ (o : Option Kept). holds_on j (hold_in key_of bytes_of is_held o)) there in
    let cons : holds_on j (ptr_of hold ∷ []) ≡ cond (key_eq j hold.key) 1 0 + holds_on j [] = holds_cons j (ptr_of hold) [] in
    let none : holds_on j [] ≡ 0 = refl in
    omega arith

pub left-loose : (at : Oid) (f : Dbuf Kept → Dbuf Kept) → ((d : Dbuf Kept) → (f d).kept ≡ None) → (ds : List (Dbuf Kept)) (d : Dbuf Kept) (o : Option Kept) → dbuf_at at ds ≡ Some d → d.kept ≡ o → hold_in key_of bytes_of is_held o ≡ [] → (j : Key)
    → holds_on j (holds_in key_of bytes_of is_held (with_dbuf at f ds)) ≡ holds_on j (holds_in key_of bytes_of is_held ds)
left-loose at f none-kept ds d o found there loose j =
    let change : holds_on j (holds_in key_of bytes_of is_held (with_dbuf at f ds)) + holds_on j (hold_in key_of bytes_of is_held d.kept) ≡ holds_on j (holds_in key_of bytes_of is_held ds) + holds_on j (hold_in key_of bytes_of is_held (f d).kept) =
    holds-change key_of bytes_of is_held at f ds d j found in
    let gone : holds_on j (hold_in key_of bytes_of is_held (f d).kept) ≡ 0 = ap (λ (x : Option Kept). holds_on j (hold_in key_of bytes_of is_held x)) (none-kept d) in
    let was : holds_on j (hold_in key_of bytes_of is_held d.kept) ≡ 0 = ap (λ (x : Option Kept). holds_on j (hold_in key_of bytes_of is_held x)) there ∙ ap (holds_on j) loose in
    omega arith

module _ (cache : Cache) (i : ℕ) (p : PartyPlace) (before : OnHeap) (es : List Event) (old : CellLog Kept) (q r : PartyPlace) (t : HasTaken cache i p before es q) (holds : AreHolds (holds_of old) (list_at i q.own.listed)) where
  -- what is listed once a hold that a dbuf kept was dropped, or nothing was
  pub given-back : (at : Oid) (f : Dbuf Kept → Dbuf Kept) → ((d : Dbuf Kept) → (f d).kept ≡ None) → (k : Kept) → DbufHas (λ d. d.kept ≡ Some k) (dbuf_at at old.dbufs) → GivesBack cache.config i k q r
      → (drops : List Event) × (drops ≡ drops_if (is_held k) (cell_number cache.config i) (key_of k)) × HasTaken cache i p before (es ++ drops) r × AreHolds (holds_in key_of bytes_of is_held (with_dbuf at f old.dbufs)) (list_at i r.own.listed)
  given-back at f none-kept (Held hold) there back =
      let d = is-dbuf (λ x. x.kept ≡ Some (Held hold)) (dbuf_at at old.dbufs) there in
      let one = kept-one at old.dbufs d.dbuf (Held hold) d.there d.has refl in
      let listed = holds.among one.0 (ptr_of hold) one.1 in (
        Drop (cell_number cache.config i) hold.key ∷ [],
        refl,
        taken-more cache i p before es q r t (Drop (cell_number cache.config i) hold.key) hold.key refl back,
        subst (AreHolds (holds_in key_of bytes_of is_held (with_dbuf at f old.dbufs))) (sym (drop-lists cache i p before es q r t hold.key back))
            (one-less hold.key (ptr_of hold) (holds_of old) (holds_in key_of bytes_of is_held (with_dbuf at f old.dbufs)) (list_at i q.own.listed) holds
            (alike-listed cache i p before es q r t hold.key _ back (ptr_of hold) refl listed)
            (left-held at f none-kept old.dbufs d.dbuf hold d.there d.has)
            (λ x. taken-out at f none-kept x old.dbufs)),
      )
  given-back at f none-kept (Loose key block) there back =
      let d = is-dbuf (λ x. x.kept ≡ Some (Loose key block)) (dbuf_at at old.dbufs) there in (
        [],
        refl,
        subst (HasTaken cache i p before (es ++ [])) (sym back) (subst (λ (l : List Event). HasTaken cache i p before l q) (sym (append-nil es)) t),
        subst (λ (x : PartyPlace). AreHolds (holds_in key_of bytes_of is_held (with_dbuf at f old.dbufs)) (list_at i x.own.listed)) (sym back)
            (record {
              count = λ j. left-loose at f none-kept old.dbufs d.dbuf (Some (Loose key block)) d.there d.has refl j ∙ holds.count j;
              among = λ j x at'. let one = taken-out at f none-kept x old.dbufs (j, at') in holds.among one.0 x one.1;
            }),
      )

module _ (cache : Cache) (i : ℕ) (p : PartyPlace) (before : OnHeap) (evicting : Evicting) (news : List CellEvent) (es : List Event) (old : CellLog Kept) (q r : PartyPlace) (h : InHand cache i p before evicting news es old q) where
  module _ (at : Oid) (k : Kept) (may : IsTrue (may_evict evicting)) (once : IsTrue (is_distinct dbuf_oid old.dbufs)) (evictable : IsTrue (is_evictable old.limit at (map standing_of old.dbufs)))
      (there : DbufHas (λ d. d.kept ≡ Some k) (dbuf_at at old.dbufs)) (of : DbufHas (λ d. IsOfContent key_of bytes_of k d.content) (dbuf_at at old.dbufs)) (back : GivesBack cache.config i k q r) where
    abbrev went : CellLog Kept
    went = noted (Evict q.number at) (record old { dbufs = with_dbuf at (without_kept state.Uncached) old.dbufs })

    pub evicts-it : HasEvicted cache i p before evicting news es old went q r
    evicts-it =
        let b = given-back cache i p before es old q r h.party h.holds at (without_kept state.Uncached) (λ d. refl) k there back in
        let m = pointed evicting old at k of in
        let number : r.number ≡ q.number = b.2.number ∙ sym h.party.number in
        record {
          evictions = Evict q.number at ∷ [];
          drops = b.0;
          evicted = (
            at,
            m.0,
            b.0,
            [],
            refl,
            m.1,
            sym (cell-is-in-outline evicting old at).cached ∙ evictable-is-cached old.limit at old.dbufs once evictable,
            sym (append-nil b.0),
            b.1 ∙ (ap (λ (x : Key). drops_if (is_held k) (cell_number cache.config i) x) m.2 ∙ ap (λ (h : Bool). drops_if h (cell_number cache.config i) m.0.key) (sym (held-as at k old.dbufs there))),
            refl,
          );
          stay = stays-noted (Evict q.number at) (record old { dbufs = with_dbuf at (without_kept state.Uncached) old.dbufs }) old.dbufs
              (stays-out at (without_kept state.Uncached) (λ d. refl) (λ d. none-there d.content state.Uncached refl) old.dbufs);
          outline = ap outline_of (evict-follows old q.number at (evicts-cached q.number before.value old evicting news at h.cell may once evictable) evicting)
              ∙ outline-follows (plain_cell evicting old) (Evict q.number at) [] (evict-legal q.number before.value old evicting news at h.cell may once evictable) tt;
          hand = record {
            party = b.2;
            cell = subst (λ (n : ℕ). HasDone n before.value evicting (news ++ Evict q.number at ∷ []) went) (sym number) (done-evict q.number before.value old evicting news at h.cell may once evictable);
            holds = b.3;
          };
        }

-- the same of the cell as the calls leave it
pub evicts-one : (cache : Cache) (i : ℕ) (old now : CellLog Kept) (q r : PartyPlace) (n : ℕ) (at : Oid) (k : Kept) → n ≡ q.number → now ≡ noted (Evict n at) (record old { dbufs = with_dbuf at (without_kept state.Uncached) old.dbufs })
    → IsTrue (is_distinct dbuf_oid old.dbufs) → IsTrue (is_evictable old.limit at (map standing_of old.dbufs)) → DbufHas (λ d. d.kept ≡ Some k) (dbuf_at at old.dbufs) → DbufHas (λ d. IsOfContent key_of bytes_of k d.content) (dbuf_at at old.dbufs)
    → GivesBack cache.config i k q r → Evicts cache i old now q r
evicts-one cache i old now q r n at k who is once evictable there of back p before evicting news es may h =
    subst (λ (c : CellLog Kept). HasEvicted cache i p before evicting news es old c q r)
    (sym (is ∙ ap (λ (x : ℕ). noted (Evict x at) (record old { dbufs = with_dbuf at (without_kept state.Uncached) old.dbufs })) who))
    (evicts-it cache i p before evicting news es old q r h at k may once evictable there of back)

-- ---- what is out goes back

-- a hold that is out is held by the cell's number
pub out-held : (g : Config) (i : ℕ) (p : PartyPlace) (kept : Kept) (hold renamed : Hold) → kept ≡ Held hold → renamed ≡ record hold { owner = cell_number g i } → IsOut g i p kept → IsHeld g p renamed
out-held g i p kept hold renamed is named out =
    let o : IsOut g i p (Held hold) = subst (IsOut g i p) is out in
    subst (IsHeld g p) (sym named) (cell i refl o.0 o.1 o.2)

pub back-gives : (g : Config) (i : ℕ) (kept : Kept) (hold renamed : Hold) (p q : PartyPlace) → kept ≡ Held hold → renamed ≡ record hold { owner = cell_number g i } → Does dbuf_meanings g renamed.key (Drop renamed.owner renamed.key ∷ []) p q → GivesBack g i kept p q
back-gives g i kept hold renamed p q is named d =
    subst (λ (k : Kept). GivesBack g i k p q) (sym is) (subst (λ (h : Hold). Does dbuf_meanings g h.key (Drop h.owner h.key ∷ []) p q) named d)

pub out-of-some : (g : Config) (i : ℕ) (p : PartyPlace) (kept : Option Kept) (hold renamed : Hold) → kept ≡ Some (Held hold) → renamed ≡ record hold { owner = cell_number g i } → IfSome kept (IsOut g i p) → IsHeld g p renamed
out-of-some g i p kept hold renamed is named out = out-held g i p (Held hold) hold renamed refl named (subst (λ (o : Option Kept). IfSome o (IsOut g i p)) is out)

pub up-gives : (g : Config) (i : ℕ) (kept : Option Kept) (hold renamed : Hold) (p q : PartyPlace) → kept ≡ Some (Held hold) → renamed ≡ record hold { owner = cell_number g i } → Releases dbuf_meanings g renamed p q → GivesUp g i kept p q
up-gives g i kept hold renamed p q is named d =
    subst (λ (o : Option Kept). GivesUp g i o p q) (sym is) (subst (λ (h : Hold). Releases dbuf_meanings g h p q) named d)
