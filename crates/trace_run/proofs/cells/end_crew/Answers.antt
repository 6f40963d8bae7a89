use Rattle.trace_run.proofs.cells.end_crew.Goals as goal

pub end_cells_joined-requires : goal.end_cells_joined-requires
end_cells_joined-requires g c = c.requires.may c.pop.new.self.items c.in-Some.feeder c.in-Some.ensures.items

pub returns : goal.returns
returns g c = record {
  callers = c.pop.new.self.items;
  feeder = c.in-Some.feeder;
  are = c.in-Some.ensures.items;
  parted = c.in_ok-feeder.parties.items;
  last = c.in_ok-feeder.feeder;
  then = c.in_ok-push.ensures.items;
  ended = c.in_ok-feeder.ensures;
}
