-- All cells are taken, one after another, and given back.
use Rattle.std.proofs.Common.{◌≡◌, ◌≢◌, ◌==◌, ℕ, zero, suc, ◌+◌, ◌<◌, ◌≤◌, Bool, true, if◌then◌else◌, List, [], ◌∷◌, ◌++◌, length, map, slice_index_or, refl, sym, ap, ◌∙◌, subst, inl, inr, eq-eqb, eqb-true, arith, length-append}
use Rattle.std.proofs.lemmas.List.{get_or_append_left, map-append}
use Rattle.turn_table.specs.Board.{IsAmong, without}
use Rattle.turn_table.specs.Places.{gave_back}
use Rattle.arc_table.specs.Both.{Takes}
use Rattle.arc_table.specs.Cache.{Cache}
use Rattle.arc_table.specs.Fronts.{item_at, list_at}
use Rattle.arc_table.specs.Geometry.{IsCell}
use Rattle.arc_table.specs.Giving.{AreHolds, IsGivenCell}
use Rattle.arc_table.specs.Items.{holds_in}
use Rattle.arc_table.specs.TableLaws.{item_else, list_else, list_here}
use Rattle.arc_table.proofs.TableLaws.{without_else}
use Rattle.arc_table.specs.Views.{after_cell}
use Rattle.arc_table.specs.declared.item.Item.TheVariants as item
use Rattle.arc_table.proofs.Reached.{Took, took_is}
use Rattle.dbuf_state.specs.CellLog.{CellLog}
use Rattle.dbuf_state.specs.Numbers.{event_numbers, mapping_numbers, opening_numbers, claims_in}
use Rattle.dbuf_state.proofs.HandLemmas.{fit-keeps}
use Rattle.dbuf_cells.specs.InHand.{AsTaken, HasDone}
use Rattle.dbuf_cells.specs.Kept.{bytes_of, key_of}
use Rattle.dbuf_cells.specs.Turns.{HoldsStand, OnHeap, PartyPlace, dbuf_meanings, holds_of, KeepsClaims}
use Rattle.dbuf_state.proofs.IndexLemmas.{bool_cases}
use Rattle.dbuf_cells.specs.declared.kept.Kept.{Kept}
use Rattle.dbuf_cells.proofs.CellSteps.{done-sound, entries-own}
use Rattle.dbuf_cells.proofs.PartySteps.{begins, takes-claims}
use Rattle.txg_sync.specs.InHand.{AreInHand, HasTakenAll, IsHolding, IsInHand, IsKnown, MayGiveAll, turns_below}
use Rattle.txg_sync.specs.Turns.{TakesFrom, synced_in}
use Rattle.arc_table.specs.declared.view.Ledger.{Ledger}
use Rattle.dbuf_cells.proofs.Claims.{keeps-claims}

-- ---- taking

pub takes-more : (i : ℕ) (cs : List OnHeap) (c : OnHeap) (p q r : PartyPlace) → TakesFrom i cs p q → Takes dbuf_meanings (i + length cs) (item.Cell c) q r → TakesFrom i (cs ++ c ∷ []) p r
takes-more i [] c p q r all one =
    (r, subst (λ (z : PartyPlace). Takes dbuf_meanings i (item.Cell c) z r) all (subst (λ (n : ℕ). Takes dbuf_meanings n (item.Cell c) q r) (let e : i + 0 ≡ i = omega arith in e) one), refl)
takes-more i (x ∷ xs) c p q r all one =
    (all.0, all.1, takes-more (suc i) xs c all.0 q r all.2 (subst (λ (n : ℕ). Takes dbuf_meanings n (item.Cell c) q r) (let e : i + suc (length xs) ≡ suc i + length xs = omega arith in e) one))

module _ (cache : Cache) (p q r : PartyPlace) (cells : List OnHeap) (c : OnHeap) (in_range : IsCell cache.config (length cells)) (h : IsHolding cache p (length cells) q) (stands : HoldsStand c) (t : Takes dbuf_meanings (length cells) (item.Cell c) q r) where
  as-taken : AsTaken cache (length cells) q c c.value r
  as-taken = begins cache (length cells) h.valid in_range c q r h.party h.look stands t

  took : Took dbuf_meanings (length cells) (item.Cell c) q r
  took = took_is dbuf_meanings (length cells) (item.Cell c) q r t

  -- the party has one cell more in hand
  pub holding-more : IsHolding cache p (suc (length cells)) r
  holding-more = record {
    valid = h.valid;
    party = as-taken.hand.party.party;
    look = as-taken.hand.party.look;
    number = took.number ∙ h.number;
    held = took.held ∙ ap (λ (l : List ℕ). length cells ∷ l) h.held;
    claims = ap (λ (l : Ledger). l.claims) took.ledger ∙ h.claims;
  }

  -- and the others as they were
  taken-else : (j : ℕ) (before : OnHeap) (now : CellLog Kept) → j ≢ length cells → IsInHand j before [] now q → IsInHand j before [] now r
  taken-else j before now far k = record {
    recorded = ap (item_at j) took.records ∙ (item_else (length cells) j (item.Cell c) q.own.records far ∙ k.recorded);
    evicting = k.evicting;
    done = subst (λ (n : ℕ). HasDone n before.value k.evicting (synced_in n j []) now) (sym took.number) k.done;
    settled = k.settled;
    holds = subst (AreHolds (holds_of now)) (sym (ap (list_at j) took.listed ∙ list_else (length cells) j (holds_in dbuf_meanings (item.Cell c)) q.own.listed far)) k.holds;
    claimed = ap (λ (l : Ledger). list_at j l.claims) took.ledger ∙ (k.claimed ∙ ap (λ (n : ℕ). mapping_numbers (claims_in n now.dbufs)) (sym took.number));
    owned = took.own_number ∙ (k.owned ∙ sym took.number);
  }

  taken-here : IsInHand (length cells) c [] c.value r
  taken-here = record {
    recorded = as-taken.hand.party.recorded;
    evicting = as-taken.evicting;
    done = as-taken.hand.cell;
    settled = as-taken.settled;
    holds = as-taken.hand.holds;
    claimed = ap (λ (l : Ledger). list_at (length cells) l.claims) took.ledger ∙ takes-claims cache (length cells) h.valid in_range c q r h.party t;
    owned = as-taken.hand.party.own_number;
  }

  pub hand-more : AreInHand cells [] cells q → AreInHand (cells ++ c ∷ []) [] (cells ++ c ∷ []) r
  hand-more all j d within = elim (bool_cases (j == length cells)) [
    | inl is ↦
        let here : j ≡ length cells = eqb-true j (length cells) is in
        subst (λ (m : ℕ). IsInHand m (slice_index_or (cells ++ c ∷ []) m d) [] (slice_index_or (cells ++ c ∷ []) m d).value r) (sym here)
        (subst (λ (x : OnHeap). IsInHand (length cells) x [] x.value r) (sym (last-is d)) taken-here)
    | inr far ↦
        let apart : j ≢ length cells = λ e. let x = eq-eqb j (length cells) e in cc in
        let below : j < length cells = let n = length-append cells (c ∷ []) in omega arith in
        subst (λ (x : OnHeap). IsInHand j x [] x.value r) (sym (get_or_append_left cells (c ∷ []) d j below)) (taken-else j (slice_index_or cells j d) (slice_index_or cells j d).value apart (all j d below))
  ]
    where
      last-is : (d : OnHeap) → slice_index_or (cells ++ c ∷ []) (length cells) d ≡ c
      last-is d = at-end cells
        where
          at-end : (xs : List OnHeap) → slice_index_or (xs ++ c ∷ []) (length xs) d ≡ c
          at-end [] = refl
          at-end (x ∷ xs) = at-end xs

-- a party that holds what it took is begun anew by itself
pub taken-all : (cache : Cache) (p q : PartyPlace) (cells : List OnHeap) → IsHolding cache p (length cells) q → AreInHand cells [] cells q → HasTakenAll cache cells q
taken-all cache p q cells h hand = record { holding = record { valid = h.valid; party = h.party; look = h.look; number = refl; held = h.held; claims = refl }; cells = hand }

-- ---- giving

module _ (cache : Cache) (q r : PartyPlace) (left : List OnHeap) (c : OnHeap) (h : MayGiveAll cache (left ++ c ∷ []) q) (known : IsKnown c) where
  len : length (left ++ c ∷ []) ≡ suc (length left)
  len = let n = length-append left (c ∷ []) in omega arith

  at-end : (xs : List OnHeap) (d : OnHeap) → slice_index_or (xs ++ c ∷ []) (length xs) d ≡ c
  at-end [] d = refl
  at-end (x ∷ xs) d = at-end xs d

  abbrev before : OnHeap
  before = slice_index_or h.befores (length left) c

  last-hand : IsInHand (length left) before h.xs c.value q
  last-hand = subst (λ (x : OnHeap). IsInHand (length left) before h.xs x.value q) (at-end left c) (h.cells (length left) c (let n = len in omega arith))

  held-is : q.held ≡ length left ∷ turns_below (length left)
  held-is = h.holding.held ∙ ap turns_below len

  pub last-held : IsAmong (length left) q.held
  last-held = subst (IsAmong (length left)) (sym held-is) (inl refl)

  -- the last cell may be given back
  pub last-given : IsGivenCell dbuf_meanings q.number (length left) c q.own
  last-given = let k = last-hand in record {
    taken = before;
    recorded = k.recorded;
    sound = record { sound = done-sound q.number before.value c.value k.evicting (synced_in q.number (length left) h.xs) k.done k.settled (fit-keeps key_of bytes_of (λ x. true) c.value.dbufs known.fit); tells = k.done.tells };
    holds = k.holds;
    more = map event_numbers (synced_in q.number (length left) h.xs);
    entries = ap (map event_numbers) k.done.history ∙ map-append event_numbers before.value.history (synced_in q.number (length left) h.xs);
    own = entries-own q.number (synced_in q.number (length left) h.xs) k.done.own;
    opening = λ z. opening_numbers (k.done.limit z) (k.done.opening z);
    claims = λ n other. ap mapping_numbers (k.done.claims n other);
  }

  -- and then those that are left may be
  module _ (gave : r ≡ gave_back q (length left) (after_cell dbuf_meanings (length left) (item.Cell c) q.own)) where
    -- what is claimed of the others, and of this cell
    gave-else : (j : ℕ) → j ≢ length left → list_at j r.own.ledger.claims ≡ list_at j q.own.ledger.claims
    gave-else j apart = ap (λ (x : PartyPlace). list_at j x.own.ledger.claims) gave ∙ list_else (length left) j (mapping_numbers (claims_in q.own.number c.value.dbufs)) q.own.ledger.claims apart

    pub last-claims : KeepsClaims q r
    last-claims = keeps-claims (length left) q r
        (ap (λ (x : PartyPlace). list_at (length left) x.own.ledger.claims) gave
        ∙ (list_here (length left) (mapping_numbers (claims_in q.own.number c.value.dbufs)) q.own.ledger.claims
        ∙ (ap (λ (n : ℕ). mapping_numbers (claims_in n c.value.dbufs)) last-hand.owned ∙ sym last-hand.claimed))) gave-else

    pub left-may : MayGiveAll cache left r
    left-may = record {
      befores = h.befores;
      xs = h.xs;
      holding = record {
        valid = h.holding.valid;
        party = record {
          row = (ap (λ (x : PartyPlace). x.table) gave ∙ h.holding.party.row.0, ap (λ (x : PartyPlace). x.parties) gave ∙ h.holding.party.row.1);
          config = ap (λ (x : PartyPlace). x.own.about.config) gave ∙ h.holding.party.config;
        };
        look = λ j among. h.holding.look j (subst (IsAmong j) (sym held-is) (inr (subst (IsAmong j) held-now among)));
        number = refl;
        held = held-now;
        claims = refl;
      };
      cells = λ j d within.
          let apart : j ≢ length left = λ e. absurd (omega arith) in
          let k = h.cells j d (let n = len in omega arith) in
          subst (λ (x : OnHeap). IsInHand j (slice_index_or h.befores j d) h.xs x.value r) (get_or_append_left left (c ∷ []) d j within) record {
            recorded = ap (λ (x : PartyPlace). item_at j x.own.records) gave ∙ (without_else (length left) j q.own.records apart ∙ k.recorded);
            evicting = k.evicting;
            done = subst (λ (n : ℕ). HasDone n (slice_index_or h.befores j d).value k.evicting (synced_in n j h.xs) (slice_index_or (left ++ c ∷ []) j d).value) (sym (ap (λ (x : PartyPlace). x.number) gave)) k.done;
            settled = k.settled;
            holds = subst (AreHolds (holds_of (slice_index_or (left ++ c ∷ []) j d).value)) (sym (ap (λ (x : PartyPlace). list_at j x.own.listed) gave)) k.holds;
            claimed = gave-else j apart ∙ (k.claimed ∙ ap (λ (n : ℕ). mapping_numbers (claims_in n (slice_index_or (left ++ c ∷ []) j d).value.dbufs)) (sym (ap (λ (x : PartyPlace). x.number) gave)));
            owned = ap (λ (x : PartyPlace). x.own.number) gave ∙ (k.owned ∙ sym (ap (λ (x : PartyPlace). x.number) gave));
          };
    }
      where
        held-now : r.held ≡ turns_below (length left)
        held-now = ap (λ (x : PartyPlace). x.held) gave ∙ (ap (without (length left)) held-is ∙ ap (λ (b : Bool). if b then turns_below (length left) else (length left ∷ without (length left) (turns_below (length left)))) (eq-eqb (length left) (length left) refl))

-- a party that holds the turns below a number holds none from it on
pub none-above : (n j : ℕ) → n ≤ j → IsAmong j (turns_below n) → ⊥
none-above zero j h among = among
none-above (suc n) j h (inl is) = absurd (omega arith)
none-above (suc n) j h (inr among) = none-above n j (omega arith) among

-- there are no more of them than there are cells
pub most-cells : (cache : Cache) (q : PartyPlace) (left : List OnHeap) (c : OnHeap) → MayGiveAll cache (left ++ c ∷ []) q → IsCell cache.config (length left) × (length left < 16)
most-cells cache q left c h =
    let n : length (left ++ c ∷ []) ≡ suc (length left) = let a = length-append left (c ∷ []) in omega arith in
    let held : q.held ≡ length left ∷ turns_below (length left) = h.holding.held ∙ ap turns_below n in
    let within = h.holding.look (length left) (subst (IsAmong (length left)) (sym held) (inl refl)) in
    let most = h.holding.valid.counts.cells.1 in
    (within, omega arith)
