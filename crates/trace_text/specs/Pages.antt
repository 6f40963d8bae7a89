-- What text is a list of pages, and for a text that is none the first line at fault.
use Rattle.std.specs.Prelude.{All, filter, map, not, ◌≡◌, ℕ, ◌+◌, ◌^◌, ◌≤◌, ◌⊎◌, false, List, [], ◌∷◌, ◌++◌, length, decimal, Result, Ok, Err, MatchBool}
use Rattle.trace_text.specs.Grammar.{IsTooLong, fields_of, is_passed_over, lines_of, longest_text}
use Rattle.trace_text.specs.declared.fault.Kind.{Kind}
use Rattle.trace_text.specs.declared.fault.Kind.TheVariants as kinds
use Rattle.trace_text.specs.declared.fault.TraceFault.{TraceFault}
use Rattle.trace_text.specs.declared.fault.TraceFault.TheVariants.{Bad, NoMemory}
use Rattle.trace_text.specs.declared.words.LineFault.{LineFault}
use Rattle.trace_text.specs.declared.words.LineFault.TheVariants as line_faults

-- a page's number is in its range
abbrev pub IsPage : ℕ → Type 0
IsPage x = x ≤ 2 ^ 62

-- the lines that aren't passed over
abbrev pub counted_lines : List (List ℕ) → List (List ℕ)
counted_lines lines = filter (λ line. not (is_passed_over line)) lines

-- The lines that aren't passed over are the numbers of these pages, in their order, each in decimal with no leading zero.
pub record ArePages (lines : List (List ℕ)) (pages : List ℕ) : Type 0 where
  pub spelled : counted_lines lines ≡ map decimal pages
  pub ranged : All IsPage pages
  pub few : length pages ≤ 1000000

-- the text is these pages
pub record IsPageText (text pages : List ℕ) : Type 0 where
  pub short : length text ≤ longest_text
  pub listed : ArePages (lines_of text) pages

-- what is wrong with a line behind so many pages; the kinds are tried in the order in which they stand here
abbrev pub IsPageFault : ℕ → List ℕ → Kind → Type 0
IsPageFault count line kinds.Shape = length (fields_of line) ≡ 1 → ⊥
IsPageFault count line kinds.Number = (length (fields_of line) ≡ 1) × ((x : ℕ) → IsPage x → line ≡ decimal x → ⊥)
IsPageFault count line kinds.Count = (count ≡ 1000000) × (x : ℕ) × IsPage x × (line ≡ decimal x)
IsPageFault count line kinds.First = ⊥
IsPageFault count line kinds.Word = ⊥
IsPageFault count line kinds.Order = ⊥
IsPageFault count line kinds.Length = ⊥

-- the first line at fault, counted from 1, and what is wrong with it
pub record IsFaultyPage (lines : List (List ℕ)) (number : ℕ) (kind : Kind) : Type 0 where
  pub front : List (List ℕ)
  pub line : List ℕ
  pub back : List (List ℕ)
  pub before : List ℕ
  pub parts : lines ≡ front ++ line ∷ back
  pub counted : number ≡ length front + 1
  pub leads : ArePages front before
  pub counts : is_passed_over line ≡ false
  pub fault : IsPageFault (length before) line kind

-- the first fault of a text
abbrev pub IsFirstPageFault : List ℕ → ℕ → Kind → Type 0
IsFirstPageFault text number kind = IsTooLong text number kind ⊎ ((length text ≤ longest_text) × IsFaultyPage (lines_of text) number kind)

-- why a text is not read; want of memory has no cause
abbrev pub IsPagesCause : List ℕ → TraceFault → Type 0
IsPagesCause text (Bad line kind) = IsFirstPageFault text line kind
IsPagesCause text NoMemory = Unit {0}

-- ---- what the reader's own functions answer

-- why lines are not read
abbrev pub IsPageLinesCause : List (List ℕ) → TraceFault → Type 0
IsPageLinesCause lines (Bad number kind) = IsFaultyPage lines number kind
IsPageLinesCause lines NoMemory = Unit {0}

-- the line is passed over, or its page comes behind the others
abbrev pub AddsPage : List ℕ → List ℕ → List ℕ → Type 0
AddsPage old line new = MatchBool (is_passed_over line) (new ≡ old) ((x : ℕ) × (line ≡ decimal x) × IsPage x × (length old ≤ 999999) × (new ≡ old ++ x ∷ []))

-- why it doesn't
abbrev pub IsPageLineCause : ℕ → List ℕ → LineFault → Type 0
IsPageLineCause count line (line_faults.Wrong kind) = (is_passed_over line ≡ false) × IsPageFault count line kind
IsPageLineCause count line line_faults.NoMemory = Unit {0}

-- the line is a page, or what is wrong with it
abbrev pub IsPageRead : List ℕ → Result ℕ Kind → Type 0
IsPageRead line (Ok x) = (line ≡ decimal x) × IsPage x
IsPageRead line (Err kinds.Shape) = length (fields_of line) ≡ 1 → ⊥
IsPageRead line (Err kinds.Number) = (length (fields_of line) ≡ 1) × ((x : ℕ) → IsPage x → line ≡ decimal x → ⊥)
IsPageRead line (Err kinds.First) = ⊥
IsPageRead line (Err kinds.Word) = ⊥
IsPageRead line (Err kinds.Order) = ⊥
IsPageRead line (Err kinds.Count) = ⊥
IsPageRead line (Err kinds.Length) = ⊥
