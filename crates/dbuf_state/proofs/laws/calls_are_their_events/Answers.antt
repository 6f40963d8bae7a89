use Rattle.dbuf_state.proofs.StepLemmas.{end-follows, evict-follows, get-follows, load-follows, patch-follows, patch-of-clean-follows, pin-follows, put-follows, synced-follows, unpin-follows}
use Rattle.dbuf_state.proofs.laws.calls_are_their_events.Goals as goal

pub returns : goal.returns
returns g c = record {
  get = get-follows;
  load = load-follows;
  evict = evict-follows;
  put = put-follows;
  patch = patch-follows;
  patch_of_clean = patch-of-clean-follows;
  pin = pin-follows;
  unpin = unpin-follows;
  synced = synced-follows;
  end = end-follows;
}
