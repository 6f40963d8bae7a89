-- A row of turns as plain data, and what a rule over it has to keep.
use Rattle.std.specs.Prelude.{◌≡◌, ◌≢◌, ◌⊎◌, ◌==◌, if◌then◌else◌, ℕ, zero, suc, List, [], ◌∷◌, map, slice_set}
use mathlib.Core.Option.{some}
use lib.ListN.{get_elem?}

-- a turn is free, and its value lies at home, or a party has taken it
pub data Turn (V : Type 0) : Type 0 where
  free : V → Turn V
  taken : ℕ → Turn V

-- all turns, and what each party knows, by the party's number
pub record Board (V W : Type 0) : Type 0 where
  pub turns : List (Turn V)
  pub views : List W

-- f n, f (n + 1) and so on, k of them
abbrev pub numbered : {W : Type 0} → (ℕ → W) → ℕ → ℕ → List W
numbered f n zero = []
numbered f n (suc k) = f n ∷ numbered f (suc n) k

-- i is among these numbers
abbrev pub IsAmong : ℕ → List ℕ → Type 0
IsAmong i [] = ⊥
IsAmong i (k ∷ ks) = (k ≡ i) ⊎ IsAmong i ks

-- the numbers without the first i
abbrev pub without : ℕ → List ℕ → List ℕ
without i [] = []
without i (k ∷ ks) = if k == i then ks else k ∷ without i ks

module _ {V W : Type 0} where
  -- all turns are free
  abbrev pub opening : List V → List W → Board V W
  opening values views = record { turns = map free values; views = views }

  -- the party n sees something
  abbrev pub noticed : Board V W → ℕ → W → Board V W
  noticed b n w = record { turns = b.turns; views = slice_set b.views n w }

  -- the turn i changes, and with it what the party n knows
  abbrev pub changed : Board V W → ℕ → Turn V → ℕ → W → Board V W
  changed b i t n w = record { turns = slice_set b.turns i t; views = slice_set b.views n w }

  abbrev pub IsFree : Board V W → ℕ → V → Type 0
  IsFree b i v = get_elem? b.turns i ≡ some (free v)

  abbrev pub IsTaken : Board V W → ℕ → ℕ → Type 0
  IsTaken b i n = get_elem? b.turns i ≡ some (taken n)

  abbrev pub Knows : Board V W → ℕ → W → Type 0
  Knows b n w = get_elem? b.views n ≡ some w

  module _ (holds : Board V W → Type 0) where
    -- a party that takes a free turn keeps the rule
    abbrev pub KeepsWon : (ℕ → ℕ → V → W → W) → Type 0
    KeepsWon won = (b : Board V W) (n i : ℕ) (v : V) (w : W) → holds b → IsFree b i v → Knows b n w → holds (changed b i (taken n) n (won n i v w))

    -- so does a party that finds the turn taken by another
    abbrev pub KeepsLost : (ℕ → ℕ → ℕ → W → W) → Type 0
    KeepsLost lost = (b : Board V W) (n i m : ℕ) (w : W) → holds b → IsTaken b i m → m ≢ n → Knows b n w → holds (noticed b n (lost n i m w))

    -- so does a party that learns what another has seen
    abbrev pub KeepsLearned : (W → W → W) → Type 0
    KeepsLearned learned = (b : Board V W) (n m : ℕ) (w u : W) → holds b → n ≢ m → Knows b n w → Knows b m u → holds (noticed b n (learned w u))
