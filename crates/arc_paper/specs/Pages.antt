-- A list of pages, counted.
use Rattle.std.specs.Prelude.{◌≡◌, ◌+◌, ◌^◌, ◌≤◌, length}
use Rattle.arc_links.specs.PlainLinks.{AreApart}
use Rattle.arc_paper.specs.declared.pages.Pages.TheInside.{Inside}

pub record IsCounted (pages : Inside) : Type 0 where
  pub len : pages.len ≡ length pages.links.nodes
  pub apart : AreApart pages.links.nodes
  pub fits : length pages.links.nodes + pages.links.spare ≤ 2 ^ 31
