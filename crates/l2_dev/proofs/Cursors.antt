-- That the steps of a cursor keep its rules.
use Rattle.std.proofs.Common.{◌≡◌, ℕ, ◌+◌, ◌≤◌, ◌++◌, List, [], ◌∷◌, length, map, reverse, true, Bool, refl, ap, subst, arith}
use Rattle.std.specs.List.{All, AllByRecursion}
use Rattle.std.proofs.lemmas.List.Elements.{All-nil}
use Rattle.l2_log.specs.declared.entry.LogEntry.{LogEntry}
use Rattle.l2_log.specs.Rules.{is_there}
use Rattle.std.proofs.lemmas.List.{reverse-append}
use Rattle.std.proofs.lemmas.List.Elements.{All-from_recursion}
use Rattle.l2_log.specs.Rules.{ring_start}
use Rattle.l2_ring.specs.Ring.{IsLower}
use Rattle.l2_dev.proofs.ListLaws.{all_left, all_right, all_unmap, all_weaker}
use Rattle.l2_ring.specs.declared.live.Written.{Written}
use Rattle.l2_ring.specs.Ring.{RingState, IsSound, numbers_of}
use Rattle.l2_ring.specs.Stays.{AreLive}
use Rattle.l2_dev.specs.Cursor.{IsCursor}
use Rattle.l2_dev.specs.Restoring.{written_in}
use Rattle.l2_dev.specs.Standing.{IsRow}

-- a row goes up
pub row_up : (base hand : ℕ) (ws : List Written) → IsRow base hand ws → base ≤ hand
row_up base hand [] row = omega arith
row_up base hand (w ∷ ws) row = let e = row.0 in let rest = row_up base w.live.place ws row.1 in omega arith

-- with nothing pending the ring alone decides
pub at_rest : (ring : RingState) (base : ℕ) (pending : List LogEntry) (ready : Bool) → IsSound ring → AreLive (numbers_of ring) ring.live → base ≡ ring.hand → pending ≡ [] → IsCursor ring base pending ready
at_rest ring base pending ready sound live at none =
    let hand = sound.hand_in.aligned in
    let from = sound.hand_in.from in
    let len : length pending ≡ 0 = ap (λ (es : List LogEntry). length es) none in
    record {
      sound = sound;
      aligned = rw at hand;
      from = rw at from;
      live = rw at live;
      row = rw (none, at) refl;
      room = λ some. absurd (omega arith);
      begun = λ some. absurd (omega arith);
      digests = rw none (All-nil (λ (entry : LogEntry). is_there entry.digest ≡ true));
      few = omega arith;
    }

all_of_reverse : {X : Type 0} (P : X → Type 0) (xs : List X) → AllByRecursion P (reverse xs) → AllByRecursion P xs
all_of_reverse P [] all = tt
all_of_reverse P (x ∷ xs) all =
    let there : AllByRecursion P (reverse xs ++ x ∷ []) = subst (λ ys. AllByRecursion P ys) (reverse-append (x ∷ []) xs) all in
    ((all_right P (reverse xs) (x ∷ []) there).0, all_of_reverse P xs (all_left P (reverse xs) (x ∷ []) there))

-- an entry between two places
pub record IsBetween (base hand : ℕ) (w : Written) : Type 0 where
  pub from : base ≤ w.live.place
  pub to : w.live.place + w.live.key.size ≤ hand

-- the same for each of the row
pub row_between : (base hand most : ℕ) (ws : List Written) → hand ≤ most → IsRow base hand ws → AllByRecursion (IsBetween base most) ws
row_between base hand most [] le row = tt
row_between base hand most (w ∷ ws) le row =
    let e = row.0 in
    let from = row_up base w.live.place ws row.1 in
    (record { from = from; to = omega arith }, row_between base w.live.place most ws (omega arith) row.1)

-- each entry of a row lies between its ends
pub row_all : (base hand lap : ℕ) (es : List LogEntry) → IsRow base hand (map (written_in lap) (reverse es)) → AllByRecursion (λ (e : LogEntry). IsBetween base hand (written_in lap e)) es
row_all base hand lap es row =
    all_of_reverse (λ (e : LogEntry). IsBetween base hand (written_in lap e)) es
    (all_unmap (IsBetween base hand) (written_in lap) (reverse es) (row_between base hand hand (map (written_in lap) (reverse es)) (omega arith) row))

-- so it lies in the lower part of a ring whose hand is behind the row
pub row_lower : (base hand lap : ℕ) (ring : RingState) (es : List LogEntry) → ring_start ≤ base → hand ≤ ring.hand → IsRow base hand (map (written_in lap) (reverse es))
    → All (λ (e : LogEntry). IsLower ring e.place e.key.size) es
row_lower base hand lap ring es start le row =
    All-from_recursion (λ (e : LogEntry). IsLower ring e.place e.key.size) es
    (all_weaker (λ (e : LogEntry). IsBetween base hand (written_in lap e)) (λ (e : LogEntry). IsLower ring e.place e.key.size) es
    (λ e b. let f = b.from in let t = b.to in record { from = omega arith; to = omega arith }) (row_all base hand lap es row))

-- with nothing pending the hand stands at the base
pub base_at_rest : (ring : RingState) (base : ℕ) (pending : List LogEntry) (ready : Bool) → IsCursor ring base pending ready → pending ≡ [] → base ≡ ring.hand
base_at_rest ring base pending ready is none =
    subst (λ (es : List LogEntry). IsRow base ring.hand (map (written_in ring.lap) (reverse es))) none is.row
