use Rattle.std.proofs.Common.{◌≡◌, ℕ, ◌*◌, ◌<◌, get_or}
use Rattle.l2_log.specs.Bytes.{word, IsKeptOutside}
use Rattle.l2_log.proofs.words.put_words.Given as goal

abbrev pub invariant-loop-i : goal.invariant-loop-i
invariant-loop-i l = record {
  words : (k : ℕ) → k < l.i → word l.out (8 * k) ≡ get_or l.numbers k 0;
  kept : IsKeptOutside 0 (8 * l.i) l.initial.out l.out;
}
