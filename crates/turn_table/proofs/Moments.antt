-- From one moment of a party to the next: what was so before a step says what is so after it.
use Rattle.std.proofs.Common.{◌≡◌, ℕ, ◌+◌, ◌<◌, List, [], ◌∷◌, length, set, sym, ap, ◌∙◌, subst, arith, length-set}
use mathlib.Core.Option.{some}
use mathlib.Core.Logic.{dite}
use native.Mathlib.Decide.{ℕ_discrete}
use lib.ListN.{get_elem?}
use Rattle.atomic_table.specs.Seated.{TableId}
use Rattle.atomic_table.proofs.Lists.{set_here, set_else}
use Rattle.turn_table.specs.Board.{Turn, free, taken, Board, numbered, opening, IsAmong, changed, noticed, IsFree, IsTaken, KeepsWon, KeepsLost}
use Rattle.turn_table.specs.Places.{Place, took, saw, gave_back, Apart, AllShow, AllHeld, newcomer}
use Rattle.turn_table.specs.Moments.{Stands, MayGive, WasSo, WasFree, WasTaken}
use Rattle.turn_table.specs.declared.standing.Kept.{Kept}
use Rattle.turn_table.proofs.Beginning.{numbered_at, numbered_length}
use Rattle.turn_table.proofs.Rows.{within, same_at, held_at, held_without, once_without}

module _ {W : Type 0} where
  -- what other parties know stays so, once the party n knows something else
  show_else : (views : List W) (n : ℕ) (w : W) (ks : List (Kept W)) → Apart n ks → AllShow views ks → AllShow (set views n w) ks
  show_else views n w [] far all = tt
  show_else views n w (k ∷ ks) far all = (set_else views n k.number w far.0 ∙ all.0, show_else views n w ks far.1 all.1)

module _ {V : Type 0} where
  free_not_held : (ts : List (Turn V)) (n i : ℕ) (v : V) (is : List ℕ) → get_elem? ts i ≡ some (free v) → AllHeld ts n is → ¬ IsAmong i is
  free_not_held ts n i v is e all h = differ (same_at ts i (free v) (taken n) e (held_at ts n i is all h))
    where
      differ : ◌≡◌ {A = Turn V} (free v) (taken n) → ⊥
      differ q = cc

  -- a party that has taken one turn more still has the others
  held_more : (ts : List (Turn V)) (n i : ℕ) (is : List ℕ) → i < length ts → AllHeld ts n is → AllHeld (set ts i (taken n)) n is
  held_more ts n i [] near all = tt
  held_more ts n i (k ∷ ks) near all = (
    dite (ℕ_discrete k i) (λ e. subst (λ (z : ℕ). get_elem? (set ts i (taken n)) z ≡ some (taken n)) (sym e) (set_here ts i (taken n) near)) (λ far. set_else ts i k (taken n) far ∙ all.0),
    held_more ts n i ks near all.1,
  )

module _ {V W : Type 0} where
  -- a turn in hand is the party's own
  pub taken_at : (b : Board V W) (p : Place W) (i : ℕ) → Stands b p → IsAmong i p.held → IsTaken b i p.number
  taken_at b p i s among = held_at b.turns p.number i p.held s.held among

  stands_took : (b : Board V W) (p : Place W) (i : ℕ) (v : V) (w : W) → Stands b p → IsFree b i v → Stands (changed b i (taken p.number) p.number w) (took p i w)
  stands_took b p i v w s e = let near = within b.turns i (free v) e in record {
    count = length-set b.views p.number w ∙ s.count;
    shows = (set_here b.views p.number w (within b.views p.number p.own s.shows.0), show_else b.views p.number w p.joined s.apart s.shows.1);
    apart = s.apart;
    held = (set_here b.turns i (taken p.number) near, held_more b.turns p.number i p.held near s.held);
    once = (free_not_held b.turns p.number i v p.held e s.held, s.once);
  }

  stands_saw : (b : Board V W) (p : Place W) (w : W) → Stands b p → Stands (noticed b p.number w) (saw p w)
  stands_saw b p w s = record {
    count = length-set b.views p.number w ∙ s.count;
    shows = (set_here b.views p.number w (within b.views p.number p.own s.shows.0), show_else b.views p.number w p.joined s.apart s.shows.1);
    apart = s.apart;
    held = s.held;
    once = s.once;
  }

  stands_gave : (b : Board V W) (p : Place W) (i : ℕ) (v : V) (w : W) → Stands b p → Stands (changed b i (free v) p.number w) (gave_back p i w)
  stands_gave b p i v w s = record {
    count = length-set b.views p.number w ∙ s.count;
    shows = (set_here b.views p.number w (within b.views p.number p.own s.shows.0), show_else b.views p.number w p.joined s.apart s.shows.1);
    apart = s.apart;
    held = held_without b.turns p.number i (free v) p.held s.once s.held;
    once = once_without i p.held s.once;
  }

  module _ (holds : Board V W → Type 0) where
    -- a won try
    pub won_so : (won : ℕ → ℕ → V → W → W) → KeepsWon holds won → (p : Place W) (i : ℕ) (v : V) → WasFree holds p i v → WasSo holds (took p i (won p.number i v p.own))
    won_so won keeps p i v f = let w : W = won p.number i v p.own in record {
      board = changed f.board i (taken p.number) p.number w;
      held = keeps f.board p.number i v p.own f.held f.turn f.stands.shows.0;
      stands = stands_took f.board p i v w f.stands f.turn;
    }

    -- a lost try
    pub lost_so : (lost : ℕ → ℕ → ℕ → W → W) → KeepsLost holds lost → (p : Place W) (i m : ℕ) → WasTaken holds p i m → WasSo holds (saw p (lost p.number i m p.own))
    lost_so lost keeps p i m t = let w : W = lost p.number i m p.own in record {
      board = noticed t.board p.number w;
      held = keeps t.board p.number i m p.own t.held t.turn t.other.1 t.stands.shows.0;
      stands = stands_saw t.board p w t.stands;
    }

    -- a give
    pub gave_so : (p : Place W) (i : ℕ) (v : V) (w : W) → IsAmong i p.held → MayGive holds p i v w → WasSo holds p → WasSo holds (gave_back p i w)
    gave_so p i v w among may s = record {
      board = changed s.board i (free v) p.number w;
      held = may s.board s.held s.stands (taken_at s.board p i s.stands among);
      stands = stands_gave s.board p i v w s.stands;
    }

    -- the beginning
    pub newcomer_so : (id : TableId) (parties n : ℕ) (f : ℕ → W) (vs : List V) → n < parties → holds (opening vs (numbered f 0 parties)) → WasSo holds (newcomer id parties n (f n))
    newcomer_so id parties n f vs below h = record {
      board = opening vs (numbered f 0 parties);
      held = h;
      stands = record {
        count = numbered_length f 0 parties;
        shows = (numbered_at f 0 parties n below ∙ ap (λ m. some (f m)) (let e : 0 + n ≡ n = omega arith in e), tt);
        apart = tt;
        held = tt;
        once = tt;
      };
    }

  -- what was found free, or taken, was so
  pub free_so : (holds : Board V W → Type 0) (p : Place W) (i : ℕ) (v : V) → WasFree holds p i v → WasSo holds p
  free_so holds p i v f = record { board = f.board; held = f.held; stands = f.stands }

  pub taken_so : (holds : Board V W → Type 0) (p : Place W) (i m : ℕ) → WasTaken holds p i m → WasSo holds p
  taken_so holds p i m t = record { board = t.board; held = t.held; stands = t.stands }
