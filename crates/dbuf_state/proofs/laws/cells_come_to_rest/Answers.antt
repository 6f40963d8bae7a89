use Rattle.dbuf_state.proofs.HandLemmas.{end-rests, rest-lasts, rest-lasts-by-unkeep, rest-stays, rest-stays-by-new, rest-stays-by-note}
use Rattle.dbuf_state.proofs.laws.cells_come_to_rest.Goals as goal

pub returns : goal.returns
returns g c = record {
  stay = rest-stays;
  note = rest-stays-by-note;
  new = rest-stays-by-new;
  lasts = rest-lasts;
  unkeep = rest-lasts-by-unkeep;
  end = end-rests;
}
