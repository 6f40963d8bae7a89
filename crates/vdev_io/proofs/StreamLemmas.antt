-- What one more piece does to what was read or written.
use Rattle.std.proofs.Common.{◌≡◌, ℕ, ◌+◌, ◌≤◌, List, [], ◌++◌, arith, length, take, drop, Option, refl, length-append}
use Rattle.std.specs.Io.KnownBytes.{Appends, Consumes}
use Rattle.std.specs.Io.KnownBytes.{Keeps}
use Rattle.std.proofs.KnownBytes.{Appends-trans, Consumes-kept, Consumes-nil, Consumes-trans}
use Rattle.std.proofs.Math.Seq.{take-add}
use Rattle.vdev_io.specs.Streams.{Gives, GivesPiece, TakesAtMost}

pub more_read : (before mid after : Option (List ℕ)) (old new : List ℕ) (n : ℕ) → Consumes before mid old → GivesPiece mid after old new n → Consumes before after new
more_read before mid after old new n h g = rw g.appended (Consumes-trans before mid after old g.piece h g.consumed)

pub length-more_read : (mid after : Option (List ℕ)) (old new : List ℕ) (n : ℕ) → GivesPiece mid after old new n → length new ≡ length old + n
length-more_read mid after old new n g = rw (g.appended, length-append old g.piece, g.size) refl

pub more_written : (before mid after : Option (List ℕ)) (text : List ℕ) (i n : ℕ) → Appends before mid (take i text) → Appends mid after (take n (drop i text))
    → Appends before after (take (i + n) text)
more_written before mid after text i n h g = rw (take-add i n text) (Appends-trans before mid after _ _ h g)

-- ---- how much was taken

pub none_taken : (a : Option (List ℕ)) (most : ℕ) → TakesAtMost a a most
none_taken a most = record { taken = []; consumed = Consumes-nil a; few = omega arith }

pub kept_taken : (a b : Option (List ℕ)) (most : ℕ) → Keeps a b → TakesAtMost a b most
kept_taken a b most kept = record { taken = []; consumed = Consumes-kept a a b [] (Consumes-nil a) kept; few = omega arith }

pub more_taken : (a b c : Option (List ℕ)) (text : List ℕ) (n most : ℕ) → Consumes a b text → TakesAtMost b c n → length text + n ≤ most → TakesAtMost a c most
more_taken a b c text n most h more room = record {
  taken = text ++ more.taken;
  consumed = Consumes-trans a b c text more.taken h more.consumed;
  few = omega (arith, length-append text more.taken, more.few);
}

pub given_taken : (a b : Option (List ℕ)) (text : List ℕ) (most : ℕ) → Gives a b most text → TakesAtMost a b (most + 1)
given_taken a b text most given = record { taken = text; consumed = given.consumed; few = given.short }
