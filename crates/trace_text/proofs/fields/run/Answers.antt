use Rattle.std.proofs.Common.{ap, length, refl, arith}
use Rattle.hex.specs.Hex.{lower_digits}
use Rattle.hex.proofs.HexLemmas.{length-encode_with}
use Rattle.trace_text.proofs.HexFieldLemmas.{room-size}
use Rattle.trace_text.proofs.fields.run.Goals as goal

pub returns-then-field-ne0 : goal.returns-then-field-ne0
returns-then-field-ne0 c = λ bytes run is. c.if-field-ne0.true (omega (arith, ap (λ xs. length xs) is, length-encode_with lower_digits bytes))

pub returns-then-len-eq0 : goal.returns-then-len-eq0
returns-then-len-eq0 c = λ bytes run is. omega (arith, ap (λ xs. length xs) is, length-encode_with lower_digits bytes, run.some, c.if-len-eq0.true)

pub returns-then-len-gt-MOST_SHOWN : goal.returns-then-len-gt-MOST_SHOWN
returns-then-len-gt-MOST_SHOWN c = λ bytes run is. omega (arith, ap (λ xs. length xs) is, length-encode_with lower_digits bytes, run.few, c.if-len-gt-MOST_SHOWN.true)

pub returns-else-spell_into : goal.returns-else-spell_into
returns-else-spell_into c = λ bytes run is. c.if-spell_into.ensures bytes (room-size bytes c.args.field.now _ _ is refl (omega (arith, c.if-len-gt-MOST_SHOWN.false))) run.bytes is
