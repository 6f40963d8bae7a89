-- The text that a trace is printed as.
use Rattle.std.specs.Prelude.{ℕ, List, [], ◌∷◌, ◌++◌, codes, decimal}
use Rattle.dbuf_state.specs.declared.oid.Oid.{Oid}
use Rattle.dbuf_state.specs.declared.window.Window.{Window}
use Rattle.trace_text.specs.declared.trace.Trace.{Trace}
use Rattle.trace_text.specs.declared.words.Line.{Line}
use Rattle.trace_text.specs.declared.words.Line.TheVariants.{Sizes, Limited, Declared, Mapped, Operation}
use Rattle.trace_text.specs.EventText.{spaced}
use Rattle.trace_text.specs.Grammar.{spelling}

-- a line: its fields with a space between each two
abbrev pub line_words : Line → List ℕ
line_words line = spaced (spelling line)

-- the two numbers of a block of an object
abbrev pub oid_words : Oid → List ℕ
oid_words at = spaced (decimal at.object ∷ decimal at.block ∷ [])

-- the two numbers of a window
abbrev pub window_words : Window → List ℕ
window_words w = spaced (decimal w.at ∷ decimal w.len ∷ [])

-- a line with its newline
abbrev pub line_text : Line → List ℕ
line_text line = line_words line ++ codes "\n"

-- the lines of some values, each of which has one
abbrev pub lines_text : {X : Type 0} → (X → Line) → List X → List ℕ
lines_text line_of [] = []
lines_text line_of (x ∷ xs) = line_text (line_of x) ++ lines_text line_of xs

-- the whole text: the sizes, the bounds of a feed, the blocks, the mappings and the operations
abbrev pub text_of_trace : Trace → List ℕ
text_of_trace trace =
    line_text (Sizes trace.config)
    ++ line_text (Limited trace.config.bounds)
    ++ lines_text Declared trace.blocks
    ++ lines_text Mapped trace.objects
    ++ lines_text Operation trace.ops
