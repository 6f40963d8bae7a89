-- How shown bytes are printed.
use Rattle.std.specs.Prelude.{ℕ, List, [], ◌∷◌, codes}
use Rattle.hex.specs.Hex.{encode_lower}

-- a dash where no byte is shown
abbrev pub shown_text : List ℕ → List ℕ
shown_text [] = codes "-"
shown_text (b ∷ bs) = encode_lower (b ∷ bs)
