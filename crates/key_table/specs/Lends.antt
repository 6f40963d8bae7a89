-- What a table ends as, where the value of a key is lent.
use Rattle.std.specs.Prelude.{◌≡◌, Option, IfSome}
use Rattle.std.specs.Borrow.{Fml, LendsSo, MutBor, RattleType}
use Rattle.key_table.specs.declared.hashed.Hashed as hashed
use Rattle.key_table.specs.PlainTable.{AreApart, Changes, PlainTable, row}
use Rattle.key_table.specs.contracts.table.Table.{the_row}

module _ (K V : RattleType) (hash : hashed.Ghosts K.Denot) (t : MutBor (PlainTable K.Denot V.Denot)) (key : K.Denot) where
  -- the table with another value in the place of the key's
  pub record HasWritten (n : PlainTable K.Denot V.Denot) (w : V.Denot) : Type 0 where
    pub rows : Changes t.now.rows n.rows (row key w)
    pub apart : AreApart n.rows
    pub spare : n.spare ≡ t.now.spare

  -- where r is a reference, the key has the last value written through it, and at `None` the table stays as it is
  abbrev pub lends_value : Option (MutBor V.Denot) → Fml
  lends_value r = LendsSo (the_row K V hash) V t r (λ n w. IfSome r (λ _. HasWritten n w)) (λ n. n ≡ t.now)
