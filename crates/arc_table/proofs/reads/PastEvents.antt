-- A read past the cache: it is legal where other bytes are cached, and no header says anything of it.
use Rattle.std.proofs.Common.{◌≡◌, ℕ, ◌<◌, true, arith}
use Rattle.std.specs.Prelude.{IsTrue, ◌&&◌, nat_lt}
use Rattle.std.proofs.lemmas.Bool.Decides.{nat_tests}
use Rattle.blk_ptr.specs.declared.digest.Digest.{Digest}
use Rattle.blk_ptr.specs.declared.key.Key.{Key}
use Rattle.arc_core.specs.declared.event.Event.TheVariants.{Past}
use Rattle.arc_core.specs.PlainShard.{PlainShard, numbers}
use Rattle.arc_core.specs.Step.{legal}
use Rattle.arc_table.specs.pact.Standing.{IsCachedWith}

pub past_legal : (n : ℕ) (k : Key) (kept : Digest) (s : PlainShard) → n < numbers → IsCachedWith (record { key = k; digest = kept }) s → IsTrue (legal s (Past n k kept))
past_legal n k kept s few here = λ z. below n numbers few z && here z
  where
    below : (x y : ℕ) → x < y → nat_lt x y ≡ true
    below x y h = grind (arith, nat_tests)
