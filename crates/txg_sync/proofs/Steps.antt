-- One block more is written: what becomes of the party, and of the cells that it has in hand.
use Rattle.std.proofs.Common.{◌≡◌, ◌≢◌, ◌==◌, ℕ, Bool, true, false, if◌then◌else◌, List, [], ◌∷◌, ◌++◌, refl, ap, ◌∙◌, subst, inl, inr, eq-eqb, ne_eqb}
use Rattle.blk_ptr.specs.declared.digest.Digest.{Digest}
use Rattle.blk_ptr.specs.declared.key.Key.{Key}
use Rattle.blk_ptr.specs.declared.ptr.Ptr.{Ptr}
use Rattle.arc_core.specs.PlainShard.{PlainShard}
use Rattle.arc_core.specs.Step.{after}
use Rattle.arc_core.specs.declared.config.Config.{Config}
use Rattle.arc_core.specs.declared.event.Event.{Event}
use Rattle.arc_core.specs.declared.event.Event.TheVariants.{Insert, Pass}
use Rattle.turn_table.specs.Board.{IsAmong}
use Rattle.arc_table.specs.Both.{Does}
use Rattle.arc_table.specs.Cache.{Cache}
use Rattle.arc_table.specs.scans.Ending.{DoesRoomy}
use Rattle.arc_table.specs.Fronts.{item_at, list_at}
use Rattle.arc_table.specs.Geometry.{IsCell, cell_number, shard_turn}
use Rattle.arc_table.specs.scans.Scanning.{ArePasses, gave_all, won_all}
use Rattle.arc_table.specs.ShardGiving.{holds_through}
use Rattle.arc_table.proofs.Afterwards.{Stays, does_stays, stays_free, stays_party, does_ledger}
use Rattle.arc_table.proofs.cell_lemmas.CellsInHand.{cell-kept, cell-kept-roomy}
use Rattle.arc_table.proofs.Reached.{reached}
use Rattle.arc_table.proofs.scans.RoomyAfter.{does_roomy_stays, does_roomy_ledger}
use Rattle.dbuf_state.proofs.IndexLemmas.{bool_cases}
use Rattle.dbuf_state.specs.declared.event.CellEvent.{CellEvent}
use Rattle.dbuf_state.specs.declared.event.CellEvent.TheVariants.{Synced}
use Rattle.dbuf_cells.specs.Turns.{PartyPlace, dbuf_meanings, OnHeap}
use Rattle.txg_sync.specs.InHand.{IsHolding}
use Rattle.txg_sync.specs.Items.{SyncItem}
use Rattle.txg_sync.specs.Turns.{InsertsAll, InsertsItem, synced_in}
use Rattle.arc_table.specs.declared.view.Ledger.{Ledger}
use Rattle.arc_table.specs.declared.item.Item.TheVariants as item
use Rattle.arc_table.specs.declared.view.Known.{Known}
use Rattle.arc_table.specs.Views.{after_same, after_won}
use Rattle.turn_table.specs.Places.{gave_back}
use Rattle.hash_chain.specs.Chain.{Chain}

-- ---- lists of blocks

pub synced-more : (n i : ℕ) (xs : List SyncItem) (x : SyncItem) → synced_in n i (xs ++ x ∷ []) ≡ synced_in n i xs ++ synced_in n i (x ∷ [])
synced-more n i [] x = refl
synced-more n i (y ∷ ys) x = elim (bool_cases (y.due.cell == i)) [
  | inl here ↦ rw here (ap (λ (l : List CellEvent). Synced n y.due.at y.ptr y.held ∷ l) (synced-more n i ys x))
  | inr far ↦ rw far (synced-more n i ys x)
]

pub synced-here : (n : ℕ) (x : SyncItem) → synced_in n x.due.cell (x ∷ []) ≡ Synced n x.due.at x.ptr x.held ∷ []
synced-here n x = let here : (x.due.cell == x.due.cell) ≡ true = eq-eqb x.due.cell x.due.cell refl in rw here refl

pub synced-else : (n i : ℕ) (x : SyncItem) → x.due.cell ≢ i → synced_in n i (x ∷ []) ≡ []
synced-else n i x far = let e : (x.due.cell == i) ≡ false = ne_eqb x.due.cell i far in rw e refl

pub inserts-more : (g : Config) (tick : ℕ) (xs : List SyncItem) (x : SyncItem) (p q r : PartyPlace) → InsertsAll g tick xs p q → InsertsItem g tick x q r → InsertsAll g tick (xs ++ x ∷ []) p r
inserts-more g tick [] x p q r all one = (r, subst (λ (z : PartyPlace). InsertsItem g tick x z r) all one, refl)
inserts-more g tick (y ∷ ys) x p q r all one = (all.0, all.1, inserts-more g tick ys x all.0 q r all.2 one)

-- ---- the party

-- what the party lists for the cell j has grown by these at its front, and nothing else of the cell is changed
pub record Grows (j : ℕ) (more : List Ptr) (q r : PartyPlace) : Type 0 where
  pub recorded : item_at j r.own.records ≡ item_at j q.own.records
  pub listed : list_at j r.own.listed ≡ more ++ list_at j q.own.listed

-- what an insertion under the number of a cell adds to what the number of a cell holds
abbrev pub grown_by : (g : Config) (j i : ℕ) → Ptr → List Ptr
grown_by g j i x = if cell_number g j == cell_number g i then x ∷ [] else []

module _ (g : Config) (j i : ℕ) (k : Key) (d : Digest) (tick : ℕ) where
  one-held : (b : Bool) (hs : List Ptr) → (if b then (record { key = k; digest = d } ∷ hs) else hs) ≡ (if b then (record { key = k; digest = d } ∷ []) else []) ++ hs
  one-held true hs = refl
  one-held false hs = refl

  -- passes, and then an insertion
  inserted-held : (n turn : ℕ) (passes : List Event) (s : PlainShard) (hs : List Ptr) → ArePasses g n turn passes
      → holds_through (cell_number g j) s (passes ++ Insert (cell_number g i) k d tick ∷ []) hs ≡ grown_by g j i record { key = k; digest = d } ++ hs
  inserted-held n turn [] s hs all = one-held (cell_number g j == cell_number g i) hs
  inserted-held n turn (Pass a x owner ∷ es) s hs all = inserted-held n turn es (after s (Pass a x owner)) hs all.1
  inserted-held n turn (_ ∷ es) s hs all = absurd all

-- the party is what it was to the cache, knows its number and claims what it claimed
pub record Remains (q r : PartyPlace) : Type 0 where
  pub stays : Stays q r
  pub owned : r.own.number ≡ q.own.number
  pub claims : r.own.ledger.claims ≡ q.own.ledger.claims

-- the buckets that a scan won, and gave back
gave-number : (vs : List (ℕ × Chain)) (p : PartyPlace) → (gave_all vs p).own.number ≡ p.own.number
gave-number [] p = refl
gave-number (v ∷ vs) p = gave-number vs (gave_back p v.0 (after_same v.0 p.own))

won-number : (vs : List (ℕ × Chain)) (w : Known OnHeap) → (won_all dbuf_meanings vs w).number ≡ w.number
won-number [] w = refl
won-number (v ∷ vs) w = won-number vs (after_won dbuf_meanings v.0 (item.Bucket v.1) w)

module _ (cache : Cache) (p : PartyPlace) (count : ℕ) (q r : PartyPlace) (h : IsHolding cache p count q) where
  -- whatever the party did, it holds the cells still
  pub holding-stays : Remains q r → IsHolding cache p count r
  holding-stays s = record {
    valid = h.valid;
    party = stays_party cache q r s.stays h.party;
    look = stays_free cache q r s.stays h.look;
    number = s.stays.number ∙ h.number;
    held = s.stays.held ∙ h.held;
    claims = s.claims ∙ h.claims;
  }

  pub looked-stays : (k : Key) → Does dbuf_meanings cache.config k [] q r → Remains q r
  looked-stays k d = record {
    stays = does_stays dbuf_meanings cache.config h.valid k [] q r h.party.config d;
    owned = ap (λ (x : PartyPlace). x.own.number) d.makes.gave ∙ (reached dbuf_meanings cache.config k d.chain d.before q d.reached d.takes).own_number;
    claims = ap (λ (l : Ledger). l.claims) (does_ledger dbuf_meanings cache.config h.valid k [] q r h.party.config d);
  }

  pub looked-grows : (k : Key) → Does dbuf_meanings cache.config k [] q r → (j : ℕ) → IsCell cache.config j → IsAmong j q.held → Grows j [] q r
  looked-grows k d j in_range among =
      let kept = cell-kept dbuf_meanings cache.config h.valid k [] q r h.party.config d j in_range among in
      record { recorded = kept.recorded; listed = kept.listed }

  pub inserted-stays : (k : Key) (e : Event) → DoesRoomy dbuf_meanings cache.config k e q r → Remains q r
  inserted-stays k e d = record {
    stays = does_roomy_stays dbuf_meanings cache.config h.valid k e q r h.party.config d;
    owned = ap (λ (x : PartyPlace). x.own.number) d.makes.gives.gave
        ∙ (gave-number d.makes.gives.given _ ∙ (won-number d.makes.won d.reached.own ∙ (reached dbuf_meanings cache.config k d.chain d.before q d.reached d.takes).own_number));
    claims = ap (λ (l : Ledger). l.claims) (does_roomy_ledger dbuf_meanings cache.config h.valid k e q r h.party.config d);
  }

  pub inserted-grows : (i tick : ℕ) (k : Key) (x : Digest) → DoesRoomy dbuf_meanings cache.config k (Insert (cell_number cache.config i) k x tick) q r → (j : ℕ) → IsCell cache.config j → IsAmong j q.held
      → Grows j (grown_by cache.config j i record { key = k; digest = x }) q r
  inserted-grows i tick k x d j in_range among =
      let e : Event = Insert (cell_number cache.config i) k x tick in
      let kept = cell-kept-roomy dbuf_meanings cache.config h.valid k e q r h.party.config d j in_range among in
      record {
        recorded = kept.recorded;
        listed = kept.listed ∙ inserted-held cache.config j i k x tick d.reached.number (shard_turn cache.config k) d.makes.passes d.before.now (list_at j q.own.listed) d.makes.own;
      }
