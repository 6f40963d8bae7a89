-- What a kept block shows.
use Rattle.std.specs.Prelude.{ℕ, Bool, true, false, List}
use Rattle.blk_ptr.specs.declared.key.Key.{Key}
use Rattle.dbuf_cells.specs.declared.kept.Kept.{Kept}
use Rattle.dbuf_cells.specs.declared.kept.Kept.TheVariants.{Held, Loose}

-- the key under which it was read or written
abbrev pub key_of : Kept → Key
key_of (Held hold) = hold.key
key_of (Loose key block) = key

-- its bytes
abbrev pub bytes_of : Kept → List ℕ
bytes_of (Held hold) = hold.block.value
bytes_of (Loose key block) = block.value

-- an entry of the cache is held for it: so for a hold, and not for a loose block
abbrev pub is_held : Kept → Bool
is_held (Held hold) = true
is_held (Loose key block) = false
