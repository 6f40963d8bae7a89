-- The commands of the program, as lists of words.
use Rattle.std.specs.Prelude.{◌≡◌, ℕ, ◌+◌, ◌^◌, ◌<◌, ◌≤◌, List, [], ◌∷◌, ◌++◌, length, take, codes, decimal, slice_get, ◌⊎◌, Some, Result, Ok, Err, String, map, string_bytes, if◌then◌else◌}
use Rattle.std.specs.Global.{Global}
use Rattle.trace_run.specs.declared.words.Command.{Command}
use Rattle.trace_run.specs.declared.words.Command.TheVariants.{Run, Gen, Paper, Check}

-- the words of a command
abbrev pub words_of : Command → List (List ℕ)
words_of (Run events) = codes "run" ∷ (if events then codes "--events" ∷ [] else [])
words_of (Gen seed blocks ops) = codes "gen" ∷ decimal seed ∷ decimal blocks ∷ decimal ops ∷ []
words_of (Paper c) = codes "paper" ∷ decimal c ∷ []
words_of Check = codes "check" ∷ []

-- the numbers of a command are in their ranges
abbrev pub IsCommandInRange : Command → Type 0
IsCommandInRange (Run events) = Unit {0}
IsCommandInRange (Gen seed blocks ops) = (seed < 2 ^ 31) × (1 ≤ blocks) × (blocks ≤ 32768) × (ops ≤ 1000000)
IsCommandInRange (Paper c) = (1 ≤ c) × (c ≤ 65536)
IsCommandInRange Check = Unit {0}

-- these words are the command
abbrev pub IsCommand : List (List ℕ) → Command → Type 0
IsCommand words command = (words ≡ words_of command) × IsCommandInRange command

-- some command begins with these words
pub record Begins (words : List (List ℕ)) : Type 0 where
  pub rest : List (List ℕ)
  pub command : Command
  pub whole : IsCommand (words ++ rest) command

-- No command begins with the words up to this one, and one does with those before it; or all words are the beginning of a
-- command and more are wanted, and the index is their number.
abbrev pub IsFirstWrong : List (List ℕ) → ℕ → Type 0
IsFirstWrong words index =
    ((index < length words) × Begins (take index words) × (Begins (take (index + 1) words) → ⊥))
    ⊎ ((index ≡ length words) × Begins words × ((command : Command) → IsCommand words command → ⊥))

-- the word at this index is a number from low to high, or it is none and the index is told
abbrev pub IsNumberAt : List (List ℕ) → ℕ → ℕ → ℕ → Result ℕ ℕ → Type 0
IsNumberAt words index low high (Ok n) = (slice_get words index ≡ Some (decimal n)) × (low ≤ n) × (n ≤ high)
IsNumberAt words index low high (Err told) =
    (told ≡ index) × ((n : ℕ) → low ≤ n → n ≤ high → slice_get words index ≡ Some (decimal n) → ⊥)

-- the bytes of each word
abbrev pub texts : List (String Global) → List (List ℕ)
texts words = map string_bytes words
