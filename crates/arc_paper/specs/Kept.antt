-- What the cache keeps.
use Rattle.std.specs.Prelude.{◌≡◌, ◌*◌}
use Rattle.arc_paper.specs.declared.paper.Paper.TheInside.{Inside}
use Rattle.arc_paper.specs.Bounds.{IsBounded}
use Rattle.arc_paper.specs.Cache.{Cache, IsCapacity}
use Rattle.arc_paper.specs.Directory.{arc_of}

abbrev pub cache_in : Inside → Cache
cache_in paper = record { capacity = paper.c; arc = arc_of paper.directory paper.p }

pub record PaperKeeps (paper : Inside) : Type 0 where
  pub capacity : IsCapacity paper.c
  pub bounded : IsBounded paper.c (arc_of paper.directory paper.p)
  pub room : paper.directory.room ≡ 2 * paper.c
