use Rattle.dbuf_state.proofs.HandLemmas.{holds-change, holds-stay, holds-stay-by-end, holds-stay-by-new, holds-stay-by-note}
use Rattle.dbuf_state.proofs.HeldLemmas.{mapped-tells}
use Rattle.dbuf_state.proofs.laws.holds_go_with_what_is_kept.Goals as goal

pub returns : goal.returns
returns g c = record {
  change = holds-change _ _ _;
  stay = holds-stay _ _ _;
  note = holds-stay-by-note _ _ _;
  end = holds-stay-by-end _ _ _;
  new = holds-stay-by-new _ _ _;
  told = mapped-tells _;
}
