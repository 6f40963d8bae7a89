-- Keys as names.
use Rattle.std.proofs.Common.{◌≡◌, ap}
use Rattle.blk_ptr.specs.declared.key.Key.{Key}
use Rattle.arc_lists.specs.declared.name.Name.{Name}

-- a key as a name
abbrev pub name : Key → Name
name k = record { 0 = k }

pub one : (j k : Key) → name j ≡ name k → j ≡ k
one j k e = ap (λ (n : Name). n.0) e
