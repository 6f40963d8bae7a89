use Rattle.std.proofs.lemmas.Str.{IsUtf8-from_ascii}
use Rattle.hex.specs.Hex.{lower_digits, encode_lower}
use Rattle.hex.proofs.HexLemmas.{IsAscii-encode_with}
use Rattle.blk_ptr.proofs.HexDigits.{IsAscii-lower_digits}
use Rattle.blk_ptr.proofs.hex_text.HexDisplay.fmt.Goals as goal

-- hexadecimal digits are ASCII
pub unreachable-requires-in_default-from_utf8 : goal.unreachable-requires-in_default-from_utf8
unreachable-requires-in_default-from_utf8 g c =
    let bytes = c.args.self.now.bytes.now in
    let ascii = IsAscii-encode_with lower_digits bytes IsAscii-lower_digits in
    c.in_default-from_utf8.ensures.cases.0 (rw c.in-Ok.ensures.written (IsUtf8-from_ascii (encode_lower bytes) ascii))
