-- What a header keeps of its block.
use Rattle.std.specs.Prelude.{ℕ, ◌-◌, ◌^◌, List, Option, Some, None}
use Rattle.std.specs.declared.alloc.Global.{Global}
use Rattle.std.specs.declared.sync.Arc.{Arc}

-- a block, a second owner of such a block where one was given back, and near which place of its shard the key's entry stood then
pub record KeptBlock : Type 0 where
  pub block : Arc (List ℕ) Global
  pub spare : Option (Arc (List ℕ) Global)
  pub near : ℕ

-- a block just put in: no owner was given back yet
abbrev pub kept : Arc (List ℕ) Global → KeptBlock
kept block = record { block = block; spare = None; near = 2 ^ 64 - 1 }

-- the spare owner, if there is one, and else this one
abbrev pub spare_or : Option (Arc (List ℕ) Global) → Arc (List ℕ) Global → Arc (List ℕ) Global
spare_or None owner = owner
spare_or (Some spare) owner = spare

-- the spare owner was taken
abbrev pub without_spare : KeptBlock → KeptBlock
without_spare k = record k { spare = None }

-- an owner was given back, which is the spare one where there was none, and the entry stands near this place
abbrev pub with_spare : Arc (List ℕ) Global → ℕ → KeptBlock → KeptBlock
with_spare owner near k = record k { spare = Some (spare_or k.spare owner); near = near }
