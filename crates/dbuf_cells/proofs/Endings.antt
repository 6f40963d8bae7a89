-- A cell is ended: what its dbufs keep goes, one after the other by rising Oids, and then the End is noted.
use Rattle.std.proofs.Common.{◌≡◌, ℕ, zero, suc, ◌+◌, ◌-◌, ◌<◌, Bool, true, false, not, ◌&&◌, IsTrue, List, [], ◌∷◌, ◌++◌, length, map, cond, get_or, Option, Some, None, refl, sym, ap, ◌∙◌, subst, inl, inr, arith, IsPermutation}
use Rattle.std.specs.List.{AllByRecursion, list_all, list_any}
use Rattle.std.proofs.lemmas.List.{append-nil, append_assoc}
use Rattle.std.proofs.lemmas.List.Kept.{IsSortedBy-push}
use Rattle.std.proofs.lemmas.List.Sorted.{IsPermutation-append_right, IsPermutation-middle, IsPermutation-refl, IsPermutation-trans}
use Rattle.blk_ptr.specs.declared.key.Key.{Key}
use Rattle.blk_ptr.specs.declared.ptr.Ptr.{Ptr}
use Rattle.arc_core.specs.declared.config.Config.{Config}
use Rattle.arc_core.specs.declared.event.Event.{Event}
use Rattle.arc_table.specs.Cache.{Cache}
use Rattle.arc_table.specs.Fronts.{list_at}
use Rattle.arc_table.specs.Geometry.{cell_number}
use Rattle.arc_table.specs.Giving.{AreHolds}
use Rattle.dbuf_state.specs.CellLog.{CellLog, noted}
use Rattle.dbuf_state.specs.Dbufs.{DbufHas, IsOfContent, cleared, dbuf_at, dbuf_is, dbuf_oid, is_cached, is_clean, is_clean_in, plain_dbuf, standing_of, with_dbuf, without_kept}
use Rattle.dbuf_state.specs.Numbers.{claim_in, claims_in}
use Rattle.dbuf_state.specs.Objects.{Never}
use Rattle.dbuf_state.specs.Oids.{is_distinct, oid_eq, oid_lt}
use Rattle.dbuf_state.specs.Outline.{OutlineDbuf, outline_dbuf}
use Rattle.dbuf_state.specs.Standings.{is_first_kept, none_kept}
use Rattle.dbuf_state.specs.declared.dbuf.Content.{Content}
use Rattle.dbuf_state.specs.declared.dbuf.Content.TheVariants as content
use Rattle.dbuf_state.specs.declared.dbuf.Dbuf.{Dbuf}
use Rattle.dbuf_state.specs.declared.event.CellEvent.TheVariants.{End}
use Rattle.dbuf_state.specs.declared.oid.Oid.{Oid}
use Rattle.dbuf_state.specs.declared.state.DbState.{DbState}
use Rattle.dbuf_state.specs.declared.state.DbState.TheVariants as state
use Rattle.dbuf_state.specs.declared.state.Mapped.TheVariants.{Clean}
use Rattle.dbuf_state.proofs.HandLemmas.{claims-stay, claims-stay-by-end, end-hides-unkept, end-rests, first-kept-is-cached, holds-stay-by-end, rest-lasts, rest-lasts-by-unkeep}
use Rattle.dbuf_state.proofs.IndexLemmas.{and-parts, bool_cases}
use Rattle.dbuf_state.proofs.OutlineLemmas.{block-cached}
use Rattle.dbuf_state.proofs.StepLemmas.{end-follows}
use Rattle.dbuf_cells.specs.Emptying.{AreLower, IsEnding, cached_in}
use Rattle.dbuf_cells.specs.Ending.{DropsEach, EndsCell, EndsFrom, lower_oid}
use Rattle.dbuf_cells.specs.InHand.{AsTaken, GivesBack, HasGiven, InHand, IsRoomier, MayGive}
use Rattle.dbuf_cells.specs.Kept.{bytes_of, is_held, key_of}
use Rattle.dbuf_cells.specs.Turns.{CellTurn, OnHeap, PartyPlace, drops_if, held_in, held_at}
use Rattle.dbuf_cells.specs.declared.kept.Kept.{Kept}
use Rattle.dbuf_cells.proofs.CellSteps.{all-more, done-more, done-none, done-roomier, found-oid, none-there, test-of}
use Rattle.dbuf_cells.proofs.Evictions.{given-back, has-of, is-dbuf}
use Rattle.dbuf_cells.proofs.Holders.{held-as, stays-all, stays-out, stays-then}
use Rattle.dbuf_state.proofs.HeldLemmas.{held-map}

-- ---- which dbufs have the bytes of a clean block

abbrev out : Dbuf Kept → OutlineDbuf
out d = outline_dbuf (plain_dbuf d)

-- one of them goes, and the others stay
record Splits (d : OutlineDbuf) (was now : List OutlineDbuf) : Type 0 where
  pub front : List OutlineDbuf
  pub back : List OutlineDbuf
  pub was_is : was ≡ front ++ d ∷ back
  pub now_is : now ≡ front ++ back

splits-more : (d : OutlineDbuf) (x : Dbuf Kept) (ds now : List (Dbuf Kept)) → Splits d (cached_in ds) (cached_in now) → Splits d (cached_in (x ∷ ds)) (cached_in (x ∷ now))
splits-more d x ds now s = go (out x).cached
  where
    go : (c : Bool) → Splits d (cond c (out x ∷ cached_in ds) (cached_in ds)) (cond c (out x ∷ cached_in now) (cached_in now))
    go true = record { front = out x ∷ s.front; back = s.back; was_is = ap (λ (l : List OutlineDbuf). out x ∷ l) s.was_is; now_is = ap (λ (l : List OutlineDbuf). out x ∷ l) s.now_is }
    go false = s

taken-splits : (at : Oid) (ds : List (Dbuf Kept)) (d : Dbuf Kept) → dbuf_at at ds ≡ Some d → is_clean_in is_cached d ≡ true → Splits (out d) (cached_in ds) (cached_in (with_dbuf at (without_kept state.Evicting) ds))
taken-splits at [] d found cached = let clash : ◌≡◌ {A = Option (Dbuf Kept)} None (Some d) = found in cc
taken-splits at (x ∷ ds) d found cached = elim (bool_cases (oid_eq at x.at)) [
  | inl here ↦
      let same : ◌≡◌ {A = Option (Dbuf Kept)} (Some x) (Some d) = rw here at found in
      let is : x ≡ d = cc in
      let on : (out x).cached ≡ true = sym (block-cached x.content x.state) ∙ (ap (is_clean_in is_cached) is ∙ cached) in
      let off : (out (without_kept state.Evicting x)).cached ≡ false = sym (block-cached x.content state.Evicting) ∙ none-there x.content state.Evicting refl in
      rw here record {
        front = [];
        back = cached_in ds;
        was_is = ap (λ (b : Bool). cond b (out x ∷ cached_in ds) (cached_in ds)) on ∙ ap (λ (y : Dbuf Kept). out y ∷ cached_in ds) is;
        now_is = ap (λ (b : Bool). cond b (out (without_kept state.Evicting x) ∷ cached_in ds) (cached_in ds)) off;
      }
  | inr far ↦ rw far (splits-more (out d) x ds (with_dbuf at (without_kept state.Evicting) ds) (taken-splits at ds d (rw far at found) cached))
]

none-true : (a b : Bool) → not (a && b) ≡ true → a ≡ true → b ≡ false
none-true true true h e = cc
none-true true false h e = refl
none-true false b h e = cc

-- none of them has a lower Oid than the first that keeps something
none-lower : (at : Oid) (ds : List (Dbuf Kept)) → list_all (λ s. not (s.kept && oid_lt s.at at)) (map standing_of ds) ≡ true → AllByRecursion (λ y. oid_lt y.at at ≡ false) (cached_in ds)
none-lower at [] h = tt
none-lower at (d ∷ ds) h = go (λ k. none-lower at ds k) (out d).cached refl
  where
    parts : (not ((standing_of d).kept && oid_lt d.at at) ≡ true) × (list_all (λ s. not (s.kept && oid_lt s.at at)) (map standing_of ds) ≡ true)
    parts = and-parts (not ((standing_of d).kept && oid_lt d.at at)) (list_all (λ s. not (s.kept && oid_lt s.at at)) (map standing_of ds)) h

    go : (list_all (λ s. not (s.kept && oid_lt s.at at)) (map standing_of ds) ≡ true → AllByRecursion (λ y. oid_lt y.at at ≡ false) (cached_in ds))
        → (c : Bool) → (out d).cached ≡ c → AllByRecursion (λ y. oid_lt y.at at ≡ false) (cond c (out d ∷ cached_in ds) (cached_in ds))
    go rest true e = (none-true (out d).cached (oid_lt d.at at) parts.0 e, rest parts.1)
    go rest false e = rest parts.1

-- none is left where none keeps something
none-cached : (ds : List (Dbuf Kept)) → none_kept (map standing_of ds) ≡ true → cached_in ds ≡ []
none-cached [] h = refl
none-cached (d ∷ ds) h =
    let p = and-parts (not (standing_of d).kept) (none_kept (map standing_of ds)) h in
    ap (λ (b : Bool). cond b (out d ∷ cached_in ds) (cached_in ds)) (off (out d).cached p.0) ∙ none-cached ds p.1
  where
    off : (b : Bool) → not b ≡ true → b ≡ false
    off true e = sym e
    off false e = refl

-- ---- lists

all-split : {X : Type 0} (P : X → Type 0) (front back : List X) (d : X) → AllByRecursion P (front ++ d ∷ back) → P d × AllByRecursion P (front ++ back)
all-split P [] back d all = all
all-split P (x ∷ front) back d all = let r = all-split P front back d all.1 in (r.0, (all.0, r.1))

all-get : {X : Type 0} (P : X → Type 0) (xs : List X) → AllByRecursion P xs → (k : ℕ) (d : X) → k < length xs → P (get_or xs k d)
all-get P [] all k d lt = absurd (omega arith)
all-get P (x ∷ xs) all zero d lt = all.0
all-get P (x ∷ xs) all (suc k) d lt = all-get P xs all.1 k d (omega arith)

-- the next one is behind those that went, and those that are left are behind it too
lower-more : (gone later : List OutlineDbuf) (d : OutlineDbuf) → AreLower gone later → AllByRecursion (λ y. lower_oid y d ≡ false) later → AreLower (gone ++ d ∷ []) later
lower-more gone [] d all low = tt
lower-more gone (y ∷ ys) d all low = (all-more (λ x. lower_oid y x ≡ false) gone d all.0 low.0, lower-more gone ys d all.1 low.1)

drops-behind : (c : ℕ) (held : Oid → Bool) (ds : List OutlineDbuf) (d : OutlineDbuf) (es drops : List Event) (ptr : Ptr) → DropsEach c held ds es → d.mapped ≡ Clean ptr → drops ≡ drops_if (held d.at) c ptr.key → DropsEach c held (ds ++ d ∷ []) (es ++ drops)
drops-behind c held [] d es drops ptr each is most = (ptr, drops, [], is, ap (λ (l : List Event). l ++ drops) each ∙ sym (append-nil drops), most, refl)
drops-behind c held (x ∷ ds) d es drops ptr each is most =
    (each.0, each.1, each.2 ++ drops, each.3, ap (λ (l : List Event). l ++ drops) each.4 ∙ append_assoc each.1 each.2 drops, each.5, drops-behind c held ds d each.2 drops ptr each.6 is most)

-- ---- one dbuf more goes

-- nobody claims a block that is cached, or on its way out
unclaimed-out : (n : ℕ) (at : Oid) (content : Content) (s : DbState) → (is_clean content && is_cached s) ≡ true → claim_in n at content state.Evicting ≡ claim_in n at content s
unclaimed-out n at (content.Dirty bytes) s h = refl
unclaimed-out n at (content.Clean ptr) state.Uncached h = refl
unclaimed-out n at (content.Clean ptr) (state.Read m) h = let clash : false ≡ true = h in cc
unclaimed-out n at (content.Clean ptr) state.Fill h = refl
unclaimed-out n at (content.Clean ptr) state.Cached h = refl
unclaimed-out n at (content.Clean ptr) state.Evicting h = refl

-- the block of what is kept is mapped by the pointer whose key it has
record IsPointed (d : Dbuf Kept) (k : Kept) : Type 0 where
  pub ptr : Ptr
  pub mapped : (out d).mapped ≡ Clean ptr
  pub key : key_of k ≡ ptr.key

is-pointed : (d : Dbuf Kept) (k : Kept) → is_clean_in is_cached d ≡ true → IsOfContent key_of bytes_of k d.content → IsPointed d k
is-pointed d k cached of = go d.content d.state refl refl cached of
  where
    go : (c : Content) (s : DbState) → d.content ≡ c → d.state ≡ s → (is_clean c && is_cached s) ≡ true → IsOfContent key_of bytes_of k c → IsPointed d k
    go (content.Dirty bytes) s is in_state on are = absurd are
    go (content.Clean ptr) state.Cached is in_state on are = record { ptr = ptr; mapped = rw (is, in_state) refl; key = are.key }
    go (content.Clean ptr) state.Uncached is in_state on are = let clash : false ≡ true = on in cc
    go (content.Clean ptr) (state.Read m) is in_state on are = let clash : false ≡ true = on in cc
    go (content.Clean ptr) state.Fill is in_state on are = let clash : false ≡ true = on in cc
    go (content.Clean ptr) state.Evicting is in_state on are = let clash : false ≡ true = on in cc

module _ (cache : Cache) (i : ℕ) (p : PartyPlace) (before : OnHeap) (old now : CellLog Kept) (q r : PartyPlace) (h : IsEnding cache i p before old q) (at : Oid) (k : Kept) (once : IsTrue (is_distinct dbuf_oid old.dbufs))
    (first : IsTrue (is_first_kept at (map standing_of old.dbufs))) (there : DbufHas (λ d. d.kept ≡ Some k) (dbuf_at at old.dbufs)) (of : DbufHas (λ d. IsOfContent key_of bytes_of k d.content) (dbuf_at at old.dbufs))
    (back : GivesBack cache.config i k q r) (is : now ≡ record old { dbufs = with_dbuf at (without_kept state.Evicting) old.dbufs }) where
  abbrev left : List (Dbuf Kept)
  left = with_dbuf at (without_kept state.Evicting) old.dbufs

  cached : dbuf_is (is_clean_in is_cached) at old.dbufs ≡ true
  cached = first-kept-is-cached at old.dbufs once first

  pub ends-one : IsEnding cache i p before now r
  ends-one =
      let d = is-dbuf (λ x. x.kept ≡ Some k) (dbuf_at at old.dbufs) there in
      let on : is_clean_in is_cached d.dbuf ≡ true = test-of (is_clean_in is_cached) at old.dbufs d.dbuf cached d.there in
      let pointed = is-pointed d.dbuf k on (has-of (λ x. IsOfContent key_of bytes_of k x.content) (dbuf_at at old.dbufs) d.dbuf of d.there) in
      let splits = taken-splits at old.dbufs d.dbuf d.there on in
      let at-is : d.dbuf.at ≡ at = found-oid at old.dbufs d.dbuf d.there in
      let gave = given-back cache i p before h.es old q r h.party h.holds at (without_kept state.Evicting) (λ x. refl) k there back in
      let low : AllByRecursion (λ y. oid_lt y.at at ≡ false) (cached_in old.dbufs) = none-lower at old.dbufs (and-parts (list_any (λ s. oid_eq at s.at && s.kept) (map standing_of old.dbufs)) _ first).1 in
      let parts = all-split (λ y. AllByRecursion (λ x. lower_oid y x ≡ false) h.gone) splits.front splits.back (out d.dbuf) (subst (AreLower h.gone) splits.was_is h.lower) in
      let lows = all-split (λ y. oid_lt y.at at ≡ false) splits.front splits.back (out d.dbuf) (subst (AllByRecursion (λ y. oid_lt y.at at ≡ false)) splits.was_is low) in
      subst (λ (c : CellLog Kept). IsEnding cache i p before c r) (sym is) record {
        gone = h.gone ++ out d.dbuf ∷ [];
        es = h.es ++ gave.0;
        party = gave.2;
        sound = h.sound;
        told = h.told;
        same = ap (λ (c : CellLog Kept). record c { dbufs = left }) h.same;
        hides = end-hides-unkept at old.dbufs ∙ h.hides;
        rest = rest-lasts-by-unkeep at state.Evicting old.dbufs cached h.rest;
        claims = λ n. claims-stay at (without_kept state.Evicting) n old.dbufs (λ x found. unclaimed-out n x.at x.content x.state (test-of (is_clean_in is_cached) at old.dbufs x cached found)) ∙ h.claims n;
        holds = gave.3;
        rising = IsSortedBy-push lower_oid h.gone (out d.dbuf) h.rising (λ x long. all-get (λ y. lower_oid (out d.dbuf) y ≡ false) h.gone parts.0 (length h.gone - 1) x (omega arith));
        lower = subst (AreLower (h.gone ++ out d.dbuf ∷ [])) (sym splits.now_is)
            (lower-more h.gone (splits.front ++ splits.back) (out d.dbuf) parts.1 (subst (λ (a : Oid). AllByRecursion (λ y. oid_lt y.at a ≡ false) (splits.front ++ splits.back)) (sym at-is) lows.1));
        all = subst (IsPermutation (cached_in before.value.dbufs)) (sym (ap (λ (l : List OutlineDbuf). (h.gone ++ out d.dbuf ∷ []) ++ l) splits.now_is ∙ append_assoc h.gone (out d.dbuf ∷ []) (splits.front ++ splits.back)))
            (IsPermutation-trans (cached_in before.value.dbufs) (h.gone ++ (splits.front ++ out d.dbuf ∷ splits.back)) (h.gone ++ (out d.dbuf ∷ (splits.front ++ splits.back)))
            (subst (λ (l : List OutlineDbuf). IsPermutation (cached_in before.value.dbufs) (h.gone ++ l)) splits.was_is h.all)
            (IsPermutation-append_right h.gone (splits.front ++ out d.dbuf ∷ splits.back) (out d.dbuf ∷ (splits.front ++ splits.back)) (IsPermutation-middle splits.front (out d.dbuf) splits.back)));
        dropped = drops-behind (cell_number cache.config i) (held_in before) h.gone (out d.dbuf) h.es gave.0 pointed.ptr h.dropped pointed.mapped
            (gave.1 ∙ (ap (λ (x : Key). drops_if (is_held k) (cell_number cache.config i) x) pointed.key
            ∙ ap (λ (b : Bool). drops_if b (cell_number cache.config i) pointed.ptr.key) (sym (held-as at k old.dbufs there) ∙ ((h.stay at cached).1 ∙ ap (held_in before) (sym at-is)))));
        stay = stays-then before.value.dbufs old.dbufs left h.stay (stays-out at (without_kept state.Evicting) (λ x. refl) (λ x. none-there x.content state.Evicting refl) old.dbufs);
      }

-- ---- the beginning

-- nothing is gone yet
pub begins-ending : (cache : Cache) (i : ℕ) (p : PartyPlace) (before : OnHeap) (now : CellLog Kept) (q : PartyPlace) → AsTaken cache i p before before.value q → IsRoomier before.value now → IsEnding cache i p before now q
begins-ending cache i p before now q t is = subst (λ (c : CellLog Kept). IsEnding cache i p before c q) (sym is) record {
  gone = [];
  es = [];
  party = t.hand.party;
  sound = t.hand.cell.sound;
  told = t.hand.cell.told;
  same = refl;
  hides = refl;
  rest = rest-lasts before.value.dbufs t.hand.cell.rest;
  claims = λ n. refl;
  holds = t.hand.holds;
  rising = λ k d from within. absurd (omega arith);
  lower = none-gone (cached_in before.value.dbufs);
  all = IsPermutation-refl (cached_in before.value.dbufs);
  dropped = refl;
  stay = stays-all before.value.dbufs;
}
  where
    none-gone : (later : List OutlineDbuf) → AreLower [] later
    none-gone [] = tt
    none-gone (y ∷ ys) = (tt, none-gone ys)

-- ---- the end

module _ (cache : Cache) (i : ℕ) (p : PartyPlace) (before : OnHeap) (old now : CellLog Kept) (q : PartyPlace) (e : IsEnding cache i p before old q) (n : ℕ) (who : n ≡ q.number)
    (is : now ≡ noted (End n) (record old { dbufs = map cleared old.dbufs })) (loose : (at : Oid) → held_at old.dbufs at ≡ false) where
  abbrev base : CellLog Kept
  base = record before.value { dbuf_room = old.dbuf_room; event_room = old.event_room }

  ended-is : now ≡ noted (End q.number) (record base { dbufs = map cleared old.dbufs })
  ended-is = is ∙ (ap (λ (m : ℕ). noted (End m) (record old { dbufs = map cleared old.dbufs })) who ∙ ap (λ (c : CellLog Kept). noted (End q.number) (record c { dbufs = map cleared old.dbufs })) e.same)

  pub ended-hand : InHand cache i p before Never (End q.number ∷ []) e.es now q
  ended-hand = subst (λ (c : CellLog Kept). InHand cache i p before Never (End q.number ∷ []) e.es c q) (sym ended-is) record {
    party = e.party;
    cell = done-more q.number before.value base e.sound.evicting []
        (done-roomier q.number before.value before.value e.sound.evicting [] (done-none q.number before.value e.sound e.told) old.dbuf_room old.event_room)
        (End q.number) [] (map cleared old.dbufs) e.sound.history.settled tt (end-follows base q.number old.dbufs e.hides) refl (end-rests old.dbufs e.rest)
        (λ k other. claims-stay-by-end k old.dbufs ∙ e.claims k)
        (λ b. held-map is_held cleared (λ d. refl) (λ d. refl) old.dbufs b ∙ loose b);
    holds = subst (λ (l : List Ptr). AreHolds l (list_at i q.own.listed)) (sym (holds-stay-by-end key_of bytes_of is_held old.dbufs)) e.holds;
  }

  pub ended-gives : MayGive cache i now q
  ended-gives = record { from = p; before = before; evicting = Never; news = End q.number ∷ []; es = e.es; hand = ended-hand; settled = refl }

  -- what is claimed of the cell is what was
  pub ended-claims : (k : ℕ) → claims_in k now.dbufs ≡ claims_in k before.value.dbufs
  ended-claims k = ap (λ (c : CellLog Kept). claims_in k c.dbufs) is ∙ (claims-stay-by-end k old.dbufs ∙ e.claims k)

  pub ends-cell : (r : PartyPlace) → HasGiven cache i p before (End q.number ∷ []) e.es r → none_kept (map standing_of old.dbufs) ≡ true → EndsCell cache.config i p r
  ends-cell r given none = record {
    before = before;
    kept = e.gone;
    drops = e.es;
    all = record {
      rising = e.rising;
      all = subst (IsPermutation (cached_in before.value.dbufs)) (ap (λ (l : List OutlineDbuf). e.gone ++ l) (none-cached old.dbufs none) ∙ append-nil e.gone) e.all;
    };
    dropped = e.dropped;
    turn = subst (λ (m : ℕ). CellTurn cache.config i before (End m ∷ []) e.es p r) e.party.number given.turn;
  }

-- ---- all cells

pub ends-more : (g : Config) (i count : ℕ) (p q r : PartyPlace) → EndsFrom g i count p q → EndsCell g (i + count) q r → EndsFrom g i (suc count) p r
ends-more g i zero p q r all one = (r, subst (λ (z : PartyPlace). EndsCell g i z r) all (subst (λ (n : ℕ). EndsCell g n q r) (let e : i + 0 ≡ i = omega arith in e) one), refl)
ends-more g i (suc count) p q r all one =
    (all.0, all.1, ends-more g (suc i) count all.0 q r all.2 (subst (λ (n : ℕ). EndsCell g n q r) (let e : i + suc count ≡ suc i + count = omega arith in e) one))

pub ends-next : (g : Config) (count : ℕ) (p q r : PartyPlace) → EndsFrom g 0 count p q → EndsCell g count q r → EndsFrom g 0 (count + 1) p r
ends-next g count p q r all one =
    subst (λ (n : ℕ). EndsFrom g 0 n p r) (let e : suc count ≡ count + 1 = omega arith in e) (ends-more g 0 count p q r all (subst (λ (n : ℕ). EndsCell g n q r) (let e : count ≡ 0 + count = omega arith in e) one))
