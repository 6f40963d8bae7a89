use Rattle.dbuf_state.proofs.HandLemmas.{dirty-hides-unkept, dirty-is-change, end-hides-unkept, rekept-is-there}
use Rattle.dbuf_state.proofs.laws.what_is_out_for_a_while.Goals as goal

pub returns : goal.returns
returns g c = record {
  rekept = rekept-is-there;
  written = dirty-hides-unkept;
  change = dirty-is-change;
  ended = end-hides-unkept;
}
