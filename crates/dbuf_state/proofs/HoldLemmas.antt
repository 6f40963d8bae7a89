-- Counting the holds that the dbufs keep on a key.
use Rattle.std.proofs.Common.{◌≡◌, ℕ, ◌+◌, ◌≤◌, Bool, List, drop, arith}
use Rattle.blk_ptr.specs.declared.key.Key.{Key}
use Rattle.arc_core.specs.Keeps.{holds_on}
use Rattle.dbuf_state.specs.declared.dbuf.Dbuf.{Dbuf}
use Rattle.dbuf_state.specs.Soundness.{holds_in}

module _ {H : Type 0} (key_of : H → Key) (bytes_of : H → List ℕ) (is_held : H → Bool) where
  -- the holds of the first i dbufs are counted
  pub record IsCounting (key : Key) (ds : List (Dbuf H)) (i count : ℕ) : Type 0 where
    pub few : count ≤ i
    pub sum : count + holds_on key (holds_in key_of bytes_of is_held (drop i ds)) ≡ holds_on key (holds_in key_of bytes_of is_held ds)

  pub counting-first : (key : Key) (ds : List (Dbuf H)) → IsCounting key ds 0 0
  counting-first key ds = record { few = omega arith; sum = omega arith }
