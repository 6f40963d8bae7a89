-- What is so of a party with a cell in hand: when it takes the cell, behind each event of a shard, and when it gives the cell back.
use Rattle.std.proofs.Common.{◌≡◌, ℕ, zero, suc, if◌then◌else◌, not, IsTrue, List, [], ◌∷◌, ◌++◌, map, Bool, Option, Some, refl, sym, ap, ◌∙◌, subst, inl, inr, is_none, ◌&&◌, eq-eqb}
use Rattle.std.specs.List.{AllByRecursion}
use Rattle.std.specs.Option.{option_map_or}
use Rattle.std.proofs.lemmas.Bool.{false≢true}
use Rattle.std.proofs.lemmas.List.{map-append}
use mathlib.Core.Option.{some}
use lib.ListN.{get_elem?}
use Rattle.blk_ptr.specs.declared.key.Key.{Key}
use Rattle.blk_ptr.specs.declared.ptr.Ptr.{Ptr}
use Rattle.arc_core.specs.Config.{IsConfig}
use Rattle.arc_core.specs.Keeps.{holds_on}
use Rattle.arc_core.specs.Operations.{event_key}
use Rattle.arc_core.specs.PlainShard.{entry_of}
use Rattle.arc_core.specs.declared.config.Config.{Config}
use Rattle.arc_core.specs.declared.entry.Entry.{Entry}
use Rattle.arc_core.specs.declared.event.Event.{Event}
use Rattle.arc_core.specs.declared.event.Event.TheVariants.{Drop}
use Rattle.turn_table.specs.Board.{IsAmong, without}
use Rattle.turn_table.specs.Places.{gave_back}
use Rattle.arc_table.specs.declared.about.About.{About}
use Rattle.arc_table.specs.declared.item.Item.TheVariants as item
use Rattle.arc_table.specs.declared.view.Ledger.{Ledger}
use Rattle.arc_table.specs.pact.Attached.{IsShown}
use Rattle.arc_table.specs.Booking.{without_hold}
use Rattle.arc_table.specs.Both.{Does, Takes}
use Rattle.arc_table.specs.Cache.{Cache, IsPartyOf}
use Rattle.arc_table.specs.Cells.{IsTakenCell}
use Rattle.arc_table.specs.Fronts.{list_at}
use Rattle.arc_table.specs.Geometry.{IsCell, cell_number, shard_turn}
use Rattle.arc_table.specs.Giving.{IsGivenCell}
use Rattle.arc_table.specs.Holding.{IsOneOf, cell}
use Rattle.arc_table.specs.Looking.{HasNoLook}
use Rattle.arc_table.specs.TableLaws.{list_else, list_here}
use Rattle.arc_table.specs.Views.{after_cell}
use Rattle.arc_table.proofs.Afterwards.{Stays, does_ledger, does_stays, stays_free, stays_party}
use Rattle.arc_table.proofs.cell_lemmas.CellsInHand.{cell-lists, cell-recorded, taken-cell}
use Rattle.arc_table.proofs.Reached.{IsHolding, Took, holding, listed_still, reached, took_is}
use Rattle.dbuf_state.specs.CellLog.{CellLog}
use Rattle.dbuf_state.specs.Dbufs.{DbufHas, Fits, IsFit, dbuf_at, is_cached}
use Rattle.dbuf_state.specs.Numbers.{claims_in, event_numbers, mapping_numbers, opening_numbers}
use Rattle.dbuf_state.specs.Objects.{Evicting, is_due}
use Rattle.dbuf_state.specs.Soundness.{IsSound, KeepsWhereCached, plain_cell}
use Rattle.dbuf_state.specs.Oids.{oid_eq}
use Rattle.dbuf_state.specs.declared.dbuf.Content.{Content}
use Rattle.dbuf_state.specs.declared.dbuf.Content.TheVariants as content
use Rattle.dbuf_state.specs.declared.dbuf.Dbuf.{Dbuf}
use Rattle.dbuf_state.specs.declared.state.DbState.{DbState}
use Rattle.dbuf_state.proofs.IndexLemmas.{bool_cases}
use Rattle.dbuf_state.specs.declared.event.CellEvent.{CellEvent}
use Rattle.dbuf_state.specs.declared.state.DbState.TheVariants as state
use Rattle.dbuf_state.specs.declared.oid.Oid.{Oid}
use Rattle.dbuf_cells.specs.InHand.{AsTaken, ClaimsAre, Gives, HasGiven, HasTaken, InHand, MayGive, TakesAtRest}
use Rattle.dbuf_cells.specs.Turns.{BringsNone, FindsBringing, HoldsStand, MakesAll, OnHeap, OnceAtRest, PartyPlace, WaitsForDbuf, dbuf_meanings}
use Rattle.dbuf_cells.specs.Kept.{bytes_of, key_of}
use Rattle.dbuf_cells.specs.Places.{cell_of}
use Rattle.dbuf_cells.specs.declared.kept.Kept.{Kept}
use Rattle.dbuf_cells.proofs.CellSteps.{done-none, done-sound, entries-own}
use Rattle.dbuf_cells.proofs.HoldLists.{AreAlikeOn}
use Rattle.dbuf_cells.proofs.Waits.{waits-none}

some-same : {A : Type 0} (a b : A) → ◌≡◌ {A = Option A} (Some a) (Some b) → a ≡ b
some-same a b e = cc

-- ---- taking

module _ (cache : Cache) (i : ℕ) (valid : IsConfig cache.config) (in_range : IsCell cache.config i) where
  pub begins : (before : OnHeap) (p q : PartyPlace) → IsPartyOf cache p → HasNoLook cache p → HoldsStand before → Takes dbuf_meanings i (item.Cell before) p q → AsTaken cache i p before before.value q
  begins before p q party look stands t = record {
    evicting = sound-is.evicting;
    hand = record {
      party = record {
        valid = valid;
        cell = in_range;
        taken = q;
        takes = t;
        stands = stands;
        makes = (0, refl);
        party = record {
          row = (k.table ∙ party.row.0, k.parties ∙ party.row.1);
          config = ap (λ (x : About). x.config) k.about ∙ party.config;
        };
        look = λ j among. looks j (subst (IsAmong j) k.held among);
        number = k.number;
        own_number = own-is;
        held = k.held;
        recorded = cell-is.recorded;
        claims = ap (λ (l : Ledger). l.claims) k.ledger;
      };
      cell = done-none q.number before.value sound-is cell-is.sound.tells;
      holds = record {
        count = λ j. ap (holds_on j) (sym cell-is.listed);
        among = λ j h at. (j, subst (λ (l : List Ptr). get_elem? l j ≡ some h) (sym cell-is.listed) at);
      };
    };
    settled = sound-is.history.settled;
  }
    where
      k : Took dbuf_meanings i (item.Cell before) p q
      k = took_is dbuf_meanings i (item.Cell before) p q t

      shown : IsShown t.free.held.scene p.number t.knew
      shown = t.free.held.attached.views p.number t.knew t.free.stands.shows.0

      own-is : q.own.number ≡ q.number
      own-is = ap (λ (x : PartyPlace). x.own.number) t.took ∙ (shown.number ∙ sym k.number)

      cell-is : IsTakenCell dbuf_meanings cache.config i before p q
      cell-is = subst (IsTakenCell dbuf_meanings cache.config i before p) (sym t.took) (taken-cell dbuf_meanings cache.config i before t.owners t.knew p valid party.config in_range t.lost t.free)

      sound-is : IsSound before.value
      sound-is = cell-is.sound.sound

      looks : (j : ℕ) → IsAmong j (i ∷ p.held) → IsCell cache.config j
      looks j (inl e) = subst (IsCell cache.config) e in_range
      looks j (inr rest) = look j rest

  -- what is claimed of a cell that was just taken
  pub takes-claims : (before : OnHeap) (p q : PartyPlace) → IsPartyOf cache p → Takes dbuf_meanings i (item.Cell before) p q → ClaimsAre i q.number before.value p
  takes-claims before p q party t =
      let is = taken-cell dbuf_meanings cache.config i before t.owners t.knew p valid party.config in_range t.lost t.free in
      let k = took_is dbuf_meanings i (item.Cell before) p q t in
      sym (ap (λ (n : ℕ). mapping_numbers (claims_in n before.value.dbufs)) k.number ∙ (is.claims ∙ ap (λ (l : Ledger). list_at i l.claims) (ap (λ (x : PartyPlace). x.own.ledger) (sym t.took) ∙ k.ledger)))

-- ---- one event of a shard more

looks-more : (g : Config) (es : List Event) (p q r : PartyPlace) (k : Key) → MakesAll g es p q → Does dbuf_meanings g k [] q r → MakesAll g es p r
looks-more g [] p q r k all d = (suc all.0, (k, q, all.1, d))
looks-more g (x ∷ xs) p q r k all d = (all.0, all.1, all.2, all.3, all.4, all.5, looks-more g xs all.2 q r k all.6 d)

makes-more : (g : Config) (es : List Event) (p q r : PartyPlace) (e : Event) (k : Key) → MakesAll g es p q → event_key e ≡ Some k → Does dbuf_meanings g k (e ∷ []) q r → MakesAll g (es ++ e ∷ []) p r
makes-more g [] p q r e k all key d = (k, q, r, all, key, d, (0, refl))
makes-more g (x ∷ xs) p q r e k all key d = (all.0, all.1, all.2, all.3, all.4, all.5, makes-more g xs all.2 q r e k all.6 key d)

module _ (cache : Cache) (i : ℕ) (p : PartyPlace) (before : OnHeap) (es : List Event) (q r : PartyPlace) (h : HasTaken cache i p before es q) where
  pub among-held : IsAmong i q.held
  among-held = subst (IsAmong i) (sym h.held) (inl refl)

  pub taken-more : (e : Event) (k : Key) → event_key e ≡ Some k → Does dbuf_meanings cache.config k (e ∷ []) q r → HasTaken cache i p before (es ++ e ∷ []) r
  taken-more e k key d = record {
    valid = h.valid;
    cell = h.cell;
    taken = h.taken;
    takes = h.takes;
    stands = h.stands;
    makes = makes-more cache.config es h.taken q r e k h.makes key d;
    party = stays_party cache q r stays h.party;
    look = stays_free cache q r stays h.look;
    number = stays.number ∙ h.number;
    own_number = ap (λ (x : PartyPlace). x.own.number) d.makes.gave ∙ ((reached dbuf_meanings cache.config k d.chain d.before q d.reached d.takes).own_number ∙ (h.own_number ∙ sym stays.number));
    held = stays.held ∙ h.held;
    recorded = cell-recorded dbuf_meanings cache.config h.valid k (e ∷ []) q r h.party.config d i h.cell ∙ h.recorded;
    claims = ap (λ (l : Ledger). l.claims) (does_ledger dbuf_meanings cache.config h.valid k (e ∷ []) q r h.party.config d) ∙ h.claims;
  }
    where
      stays : Stays q r
      stays = does_stays dbuf_meanings cache.config h.valid k (e ∷ []) q r h.party.config d

  -- a look at a shard, without an event
  pub taken-looks : (k : Key) → Does dbuf_meanings cache.config k [] q r → HasTaken cache i p before es r
  taken-looks k d = record {
    valid = h.valid;
    cell = h.cell;
    taken = h.taken;
    takes = h.takes;
    stands = h.stands;
    makes = looks-more cache.config es h.taken q r k h.makes d;
    party = stays_party cache q r stays h.party;
    look = stays_free cache q r stays h.look;
    number = stays.number ∙ h.number;
    own_number = ap (λ (x : PartyPlace). x.own.number) d.makes.gave ∙ ((reached dbuf_meanings cache.config k d.chain d.before q d.reached d.takes).own_number ∙ (h.own_number ∙ sym stays.number));
    held = stays.held ∙ h.held;
    recorded = cell-recorded dbuf_meanings cache.config h.valid k [] q r h.party.config d i h.cell ∙ h.recorded;
    claims = ap (λ (l : Ledger). l.claims) (does_ledger dbuf_meanings cache.config h.valid k [] q r h.party.config d) ∙ h.claims;
  }
    where
      stays : Stays q r
      stays = does_stays dbuf_meanings cache.config h.valid k [] q r h.party.config d

  -- what is listed for the cell behind a drop
  pub drop-lists : (k : Key) (d : Does dbuf_meanings cache.config k (Drop (cell_number cache.config i) k ∷ []) q r) → list_at i r.own.listed ≡ without_hold k (list_at i q.own.listed)
  drop-lists k d =
      let c = cell_number cache.config i in
      let hs = list_at i q.own.listed in
      cell-lists dbuf_meanings cache.config h.valid k (Drop c k ∷ []) q r h.party.config d i h.cell among-held
      ∙ ap (λ (b : Bool). if b then without_hold k hs else hs) (eq-eqb c c refl)

  -- all that is listed for it on the key of these events has one digest
  pub alike-listed : (k : Key) (ds : List Event) (d : Does dbuf_meanings cache.config k ds q r) (x : Ptr) → x.key ≡ k → IsOneOf x (list_at i q.own.listed) → AreAlikeOn k x (list_at i q.own.listed)
  alike-listed k ds d x of one h' one' of' =
      let a = there x of one in
      let b = there h' of' one' in
      let same : a.entry ≡ b.entry = some-same a.entry b.entry (sym a.there ∙ (ap (λ (z : Key). entry_of z d.before.now) (of ∙ sym of') ∙ b.there)) in
      let digest : x.digest ≡ h'.digest = some-same x.digest h'.digest (sym a.digest ∙ (ap (λ (z : Entry). z.digest) same ∙ b.digest)) in
      λ z. record { key = (of' ∙ sym of) z; digest = sym digest z }
    where
      there : (y : Ptr) → y.key ≡ k → IsOneOf y (list_at i q.own.listed) → IsHolding (cell_number cache.config i) y d.before.now
      there y is listed = holding dbuf_meanings cache.config k d.chain d.before q d.reached d.takes h.party.config h.valid (cell_number cache.config i) y (ap (λ (z : Key). shard_turn cache.config z) is)
          (listed_still dbuf_meanings cache.config k d.chain d.before q d.reached d.takes h.party.config h.valid (cell_number cache.config i) y (cell i refl h.cell among-held listed))

-- ---- giving

back-held : (i : ℕ) (p q : PartyPlace) → q.held ≡ i ∷ p.held → without i q.held ≡ p.held
back-held i p q is = ap (without i) is ∙ ap (λ (c : Bool). if c then p.held else (i ∷ without i p.held)) (eq-eqb i i refl)

module _ (cache : Cache) (i : ℕ) (p : PartyPlace) (before : OnHeap) (evicting : Evicting) (news : List CellEvent) (es : List Event) (now : OnHeap) (q : PartyPlace) (h : InHand cache i p before evicting news es now.value q)
    (settled : IsTrue (not (is_due (plain_cell evicting now.value)))) (fit : AllByRecursion KeepsWhereCached now.value.dbufs) where
  pub may-give : IsGivenCell dbuf_meanings q.number i now q.own
  may-give = record {
    taken = before;
    recorded = h.party.recorded;
    sound = record { sound = done-sound q.number before.value now.value evicting news h.cell settled fit; tells = h.cell.tells };
    holds = h.holds;
    more = map event_numbers news;
    entries = ap (map event_numbers) h.cell.history ∙ map-append event_numbers before.value.history news;
    own = entries-own q.number news h.cell.own;
    opening = λ z. opening_numbers (h.cell.limit z) (h.cell.opening z);
    claims = λ k other. ap mapping_numbers (h.cell.claims k other);
  }

  pub has-given : (r : PartyPlace) → r ≡ gave_back q i (after_cell dbuf_meanings i (item.Cell now) q.own) → HasGiven cache i p before news es r
  has-given r gave = record {
    turn = record {
      after = now;
      taken = h.party.taken;
      worked = q;
      takes = h.party.takes;
      makes = h.party.makes;
      sound = h.cell.sound;
      stands = h.party.stands;
      tells = h.cell.told;
      history = h.cell.history;
      evicting = evicting;
      bases = h.cell.bases;
      leads = h.cell.leads;
      given = may-give;
      gave = gave;
    };
    party = record {
      row = (ap (λ (x : PartyPlace). x.table) gave ∙ h.party.party.row.0, ap (λ (x : PartyPlace). x.parties) gave ∙ h.party.party.row.1);
      config = ap (λ (x : PartyPlace). x.own.about.config) gave ∙ h.party.party.config;
    };
    held = ap (λ (x : PartyPlace). x.held) gave ∙ back-held i p q h.party.held;
    number = ap (λ (x : PartyPlace). x.number) gave ∙ h.party.number;
    others = λ j far. ap (λ (x : PartyPlace). list_at j x.own.ledger.claims) gave
        ∙ (list_else i j (mapping_numbers (claims_in q.own.number now.value.dbufs)) q.own.ledger.claims far ∙ ap (list_at j) h.party.claims);
  }

  pub gives-claims : (r : PartyPlace) → r ≡ gave_back q i (after_cell dbuf_meanings i (item.Cell now) q.own) → ClaimsAre i r.number now.value r
  gives-claims r gave =
      let number : r.number ≡ q.number = ap (λ (x : PartyPlace). x.number) gave in
      ap (λ (x : PartyPlace). list_at i x.own.ledger.claims) gave
      ∙ (list_here i (mapping_numbers (claims_in q.own.number now.value.dbufs)) q.own.ledger.claims
      ∙ ap (λ (n : ℕ). mapping_numbers (claims_in n now.value.dbufs)) (h.party.own_number ∙ sym number))

-- ---- waiting

-- a round in which the block was being brought, and then rounds more, are one round more
pub waits-first : (g : Config) (i : ℕ) (at : Oid) (p q : PartyPlace) → FindsBringing g i at p q → (times : ℕ) (r : PartyPlace) → WaitsForDbuf g i at times q r → WaitsForDbuf g i at (suc times) p r
waits-first g i at p q first zero r w = (p, refl, subst (FindsBringing g i at p) (sym w) first)
waits-first g i at p q first (suc times) r w = (w.0, waits-first g i at p q first times w.0 w.1, w.2)

-- ---- a cell that is given back as it was taken

module _ (cache : Cache) (i : ℕ) (p : PartyPlace) (before : OnHeap) (now : CellLog Kept) (q : PartyPlace) (t : AsTaken cache i p before now q) where
  pub as-may-give : MayGive cache i now q
  as-may-give = record { from = p; before = before; evicting = t.evicting; news = []; es = []; hand = t.hand; settled = t.settled }

  pub as-given : (r : PartyPlace) → Gives cache i now q r → HasGiven cache i p before [] [] r
  as-given r gives = gives p before t.evicting [] [] t.settled t.hand

-- it has found the block being brought
pub finds-bringing : (cache : Cache) (i : ℕ) (at : Oid) (p r : PartyPlace) (before : OnHeap) (owner : ℕ) → AllByRecursion (IsFit key_of bytes_of) before.value.dbufs
    → option_map_or (λ (d : Dbuf Kept). d.state) (dbuf_at at before.value.dbufs) state.Uncached ≡ state.Read owner → HasGiven cache i p before [] [] r → FindsBringing cache.config i at p r
finds-bringing cache i at p r before owner fit is given = record { before = before; turn = given.turn; owner = owner; ptr = there.0; reading = there.1 }
  where
    clean : (d : Dbuf Kept) (c : Content) → d.content ≡ c → IsFit key_of bytes_of d → d.state ≡ state.Read owner → (ptr : Ptr) × (d.content ≡ content.Clean ptr)
    clean d (content.Clean ptr) has fits reading = (ptr, has)
    clean d (content.Dirty bytes) has fits reading = absurd (false≢true (subst (λ (s : DbState). IsTrue (is_cached s && is_none d.kept)) reading (subst (λ (x : Content). Fits key_of bytes_of x d.state d.kept) has fits).0))

    go : (ds : List (Dbuf Kept)) → AllByRecursion (IsFit key_of bytes_of) ds → option_map_or (λ d. d.state) (dbuf_at at ds) state.Uncached ≡ state.Read owner
        → (ptr : Ptr) × DbufHas (λ d. (d.content ≡ content.Clean ptr) × (d.state ≡ state.Read owner)) (dbuf_at at ds)
    go [] fits e = cc
    go (d ∷ ds) fits e = elim (bool_cases (oid_eq at d.at)) [
      | inl here ↦ let reading : d.state ≡ state.Read owner = rw here at e in let c = clean d d.content refl fits.0 reading in rw here (c.0, (c.1, reading))
      | inr far ↦ rw far (go ds fits.1 (rw far at e))
    ]

    there : (ptr : Ptr) × DbufHas (λ d. (d.content ≡ content.Clean ptr) × (d.state ≡ state.Read owner)) (dbuf_at at before.value.dbufs)
    there = go before.value.dbufs fit is

-- what happened once nobody brought the block's bytes any more
pub once-at-rest : (cache : Cache) (i : ℕ) (at : Oid) (p : PartyPlace) → IsPartyOf cache p → (s q : PartyPlace) (before : OnHeap) (Then : ℕ → OnHeap → PartyPlace → PartyPlace → Type 0) → i ≡ cell_of cache.config.cells at
    → (t : TakesAtRest cache i at p before s) → Then i before t.ready q → OnceAtRest cache.config at p q (Then (cell_of cache.config.cells at))
once-at-rest cache i at p party s q before Then is t happens = record {
  times = t.times;
  ready = t.ready;
  before = before;
  waits = subst (λ (j : ℕ). WaitsForDbuf cache.config j at t.times p t.ready) is t.waits;
  rests = t.rests;
  happens = subst (λ (j : ℕ). Then j before t.ready q) is happens;
  alone = λ none. waits-none cache i at t.begins.hand.party.valid t.begins.hand.party.cell t.times p t.ready party (subst (λ (j : ℕ). BringsNone cache.config j p) (sym is) none) t.waits;
}
