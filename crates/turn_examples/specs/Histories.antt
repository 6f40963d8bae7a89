-- Each turn's value is a history that only grows, and each of its entries is one party's.
use Rattle.std.specs.Prelude.{◌≡◌, ◌⊎◌, ℕ, ◌<◌, List, [], ◌∷◌, length, slice_get, slice_index_or, Some}
use mathlib.Core.Option.{some}
use lib.ListN.{get_elem?}
use Rattle.turn_table.specs.Board.{Turn, free, taken, Board, opening, IsAmong}
use Rattle.turn_table.specs.Histories.{front_of, Logged}
use Rattle.turn_examples.specs.declared.histories.Spot.{Spot}
use Rattle.turn_examples.specs.declared.histories.Writer.{Writer}

abbrev pub spot : ℕ → ℕ → ℕ → Spot
spot i p x = record { turn = i; place = p; entry = x }

abbrev pub writer : List (List ℕ) → List Spot → Writer
writer seen mine = record { seen = seen; mine = mine }

-- what a party has written down of an entry of its own
abbrev pub turn_of : Spot → ℕ
turn_of s = s.turn

abbrev pub place_of : Spot → ℕ
place_of s = s.place

abbrev pub IsOf : Spot → ℕ → Type 0
IsOf s x = s.entry ≡ x

-- what the party n has seen of the history of the turn i, and its own entries
abbrev pub view_at : List Writer → ℕ → Writer
view_at views n = slice_index_or views n (writer [] [])

abbrev pub seen_of : List Writer → ℕ → ℕ → List ℕ
seen_of views n i = front_of i (view_at views n).seen

abbrev pub mine_of : List Writer → ℕ → List Spot
mine_of views n = (view_at views n).mine

-- the history of a turn now: its value while it is free, and else what its holder has seen of it
abbrev pub NowIs : List Writer → ℕ → Turn (List ℕ) → List ℕ → Type 0
NowIs views i (free v) h = v ≡ h
NowIs views i (taken n) h = (w : Writer) × (get_elem? views n ≡ some w) × (front_of i w.seen ≡ h)

-- each turn has a history now, and of these histories each entry is one party's
pub record Kept (b : Board (List ℕ) Writer) : Type 0 where
  pub history : ℕ → List ℕ
  pub owner : ℕ → ℕ → ℕ
  pub now : (i : ℕ) (t : Turn (List ℕ)) → get_elem? b.turns i ≡ some t → NowIs b.views i t (history i)
  pub logged : Logged turn_of place_of IsOf (length b.views) history owner (seen_of b.views) (mine_of b.views)

-- the entries xs stand at these places of h
abbrev pub Stand : List ℕ → List ℕ → List ℕ → Type 0
Stand h [] [] = Unit {0}
Stand h (p ∷ ps) (x ∷ xs) = (slice_get h p ≡ Some x) × Stand h ps xs
Stand h _ _ = ⊥

-- the entries xs at the places ps of the turn 0
abbrev pub spots_at : List ℕ → List ℕ → List Spot
spots_at (p ∷ ps) (x ∷ xs) = spot 0 p x ∷ spots_at ps xs
spots_at _ _ = []

-- p is below each of these
abbrev pub IsBelowAll : ℕ → List ℕ → Type 0
IsBelowAll p [] = Unit {0}
IsBelowAll p (q ∷ qs) = (p < q) × IsBelowAll p qs

abbrev pub Rising : List ℕ → Type 0
Rising [] = Unit {0}
Rising (p ∷ ps) = IsBelowAll p ps × Rising ps

-- the entries xs stand in h at the places ps, in rising order
pub record StandIn (h ps xs : List ℕ) : Type 0 where
  pub stand : Stand h ps xs
  pub rising : Rising ps

-- each place of h is among just one of ps and qs
pub record Shared (h ps qs : List ℕ) : Type 0 where
  pub each : (p : ℕ) → p < length h → IsAmong p ps ⊎ IsAmong p qs
  pub apart : (p : ℕ) → IsAmong p ps → ¬ IsAmong p qs

-- one history h that nobody has any more, of which two parties made these entries
pub record IsSettled (h : List ℕ) (ms ns : List Spot) : Type 0 where
  pub views : List Writer
  pub one : Writer
  pub two : Writer
  pub rule : Kept (opening (h ∷ []) views)
  pub count : length views ≡ 2
  pub first : get_elem? views 0 ≡ some one
  pub second : get_elem? views 1 ≡ some two
  pub first_made : one.mine ≡ ms
  pub second_made : two.mine ≡ ns
