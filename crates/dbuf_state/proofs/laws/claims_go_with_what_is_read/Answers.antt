use Rattle.dbuf_state.proofs.HandLemmas.{claimed-is-read, claims-change, claims-stay, claims-stay-by-end, claims-stay-by-new, claims-stay-by-note}
use Rattle.dbuf_state.proofs.laws.claims_go_with_what_is_read.Goals as goal

pub returns : goal.returns
returns g c = record {
  change = claims-change;
  stay = claims-stay;
  note = claims-stay-by-note;
  end = claims-stay-by-end;
  new = claims-stay-by-new;
  claimed = claimed-is-read;
}
