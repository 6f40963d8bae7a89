use Rattle.std.proofs.Common.{◌∷◌, [], ap, length, refl, arith}
use Rattle.hex.specs.Hex.{lower_digits}
use Rattle.hex.proofs.HexLemmas.{length-encode_with}
use Rattle.trace_text.proofs.HexFieldLemmas.{byte-read}
use Rattle.trace_text.proofs.fields.byte.Goals as goal

pub returns-then-field-ne2 : goal.returns-then-field-ne2
returns-then-field-ne2 c = λ byte lt is. c.if-field-ne2.true (omega (arith, ap (λ xs. length xs) is, length-encode_with lower_digits (byte ∷ [])))

pub returns : goal.returns
returns c = byte-read c.args.field.now _ _ c.byte_spelled.result (omega (arith, c.if-field-ne2.false)) refl refl c.byte_spelled.ensures
