use Rattle.std.proofs.Common.{◌≡◌, ℕ, List, drop, length, map, ◌+◌, ◌*◌, sym, ap, ◌∙◌, subst, arith}
use Rattle.std.specs.Prelude.{reverse}
use Rattle.l2_log.specs.Rules.{log_len}
use Rattle.l2_ring.specs.declared.live.Live.{Live}
use Rattle.l2_log.specs.declared.entry.LogEntry.{LogEntry}
use Rattle.l2_ring.specs.Ring.{IsPlanFor, IsRoom, numbers_of, with_hand}
use Rattle.l2_ring.specs.Stays.{AreLive}
use Rattle.l2_dev.specs.Restoring.{written_in}
use Rattle.l2_dev.specs.Standing.{IsRow}
use Rattle.l2_dev.specs.Planned.{HasPlanned}
use Rattle.l2_feed.specs.Crashes.{KeepsSo}
use Rattle.l2_feed.proofs.Asking.{begin_calls}
use Rattle.l2_feed.proofs.Crashing.{begun_keeps}
use Rattle.l2_feed.specs.Runs.{AreCleared, batch_len}
use Rattle.l2_feed.specs.Shape.{HasBegun}
use Rattle.l2_feed.proofs.Beginning.{Begins, begun_all, few_blocks, ok_ready}
use Rattle.l2_feed.proofs.Running.{room_for}
use Rattle.l2_feed.proofs.batch.begin_batch.Goals as goal

pub runs_of-runs-requires : goal.runs_of-runs-requires
runs_of-runs-requires g c =
    let few = few_blocks c.args.arcs.now.config c.args.blocks.now c.requires.feeding.1.on.valid c.requires.formed (let s = c.requires.sum in let f = c.requires.few in omega arith) in
    omega arith

pub overflow_mul-runs : goal.overflow_mul-runs
overflow_mul-runs g c =
    let few = few_blocks c.args.arcs.now.config c.args.blocks.now c.requires.feeding.1.on.valid c.requires.formed (let s = c.requires.sum in let f = c.requires.few in omega arith) in
    let r = c.runs_of-runs.ensures in
    omega arith

pub overflow_add-bytes : goal.overflow_add-bytes
overflow_add-bytes g c =
    let few = few_blocks c.args.arcs.now.config c.args.blocks.now c.requires.feeding.1.on.valid c.requires.formed (let s = c.requires.sum in let f = c.requires.few in omega arith) in
    let most = c.requires.feeding.1.on.valid.bounds.write_max.1 in
    let f = c.requires.few in
    let r = c.runs_of-runs.ensures in
    omega arith

pub begin-begun-requires-clause-room : goal.begin-begun-requires-clause-room
begin-begun-requires-clause-room g c = λ _ _.
    subst (IsRoom c.args.l2.now.cursor.ring) (λ i. sym c.requires.sum i + log_len * sym c.runs_of-runs.ensures i)
    (room_for c.args.arcs.now.config c.args.l2.now.cursor.ring c.args.blocks.now c.ring-ring.ensures.kept.sound c.requires.formed c.requires.some (let s = c.requires.sum in let f = c.requires.few in omega arith) c.requires.device.half)

pub returns-clause-acts : goal.returns-clause-acts
returns-clause-acts g c =
    let e = c.clear_all-taken.ensures.acts in
    let old = c.args.l2.now.cursor in
    let based : old.base ≡ old.ring.hand = subst (λ (es : List LogEntry). IsRow old.base old.ring.hand (map (written_in old.ring.lap) (reverse es))) c.requires.device.pending c.ring-ring.ensures.kept.row in
    let n : c.args.bytes + log_len * c.runs_of-runs.result ≡ batch_len c.args.blocks.now = (λ i. c.requires.sum i + log_len * c.runs_of-runs.ensures i) in
    let b : Begins c.args.l2.now.cursor c.begin-begun.new.self.cursor (batch_len c.args.blocks.now) c.args.dropped.now.items c.begin-begun.new.dropped.items c.begin-begun.result =
    record {
      refused = λ is. let r = c.begin-begun.ensures.refused is in (r.1, r.2);
      planned = λ ok. subst (λ (k : ℕ). HasPlanned k c.args.l2.now.cursor c.begin-begun.new.self.cursor) n (c.begin-begun.ensures.planned ok);
      drops = λ ok. let d = c.begin-begun.ensures.dropped ok in (d.0, subst (λ (k : ℕ). IsPlanFor c.args.l2.now.cursor.ring k d.0) n d.1, d.2);
    } in
    let asked = begin_calls g.D.CacheDev c.begin-begun.new.self.cursor c.args.l2.now.dev c.begin-begun.new.self.dev c.begin-begun.result (λ is. (c.begin-begun.ensures.refused is).0) c.begin-begun.ensures.calls in (
      e.0,
      asked.0,
      e.1,
      e.3,
      asked.1,
      subst (HasBegun c.args.l2.now.cursor c.begin-begun.new.self.cursor (batch_len c.args.blocks.now) e.0 asked.0) (sym c.first_of.ensures)
          (begun_all c.args.l2.now.cursor c.begin-begun.new.self.cursor (batch_len c.args.blocks.now) c.args.dropped.now.items c.begin-begun.new.dropped.items e.0 asked.0 c.ring-ring.ensures.kept.sound
          (subst (λ (hand : ℕ). AreLive (with_hand (numbers_of c.args.l2.now.cursor.ring) hand) c.args.l2.now.cursor.ring.live) based c.ring-ring.ensures.kept.live)
          (subst (λ (ls : List Live). AreCleared ls e.0) (c.since.ensures ∙ (λ i. drop ((ap length c.as_slice-had.ensures.value) i) (c.as_slice.ensures.value i))) e.2)
          c.begin-begun.result c.clear_all-taken.result b e.4 (ok_ready c.begin-begun.new.self.cursor.ready c.begin-begun.result c.begin-begun.ensures.ready) asked.2),
    )

pub returns-clause-crash : goal.returns-clause-crash
returns-clause-crash g c below =
    let d = g.D.CacheDev in
    subst (KeepsSo d.told d.has_sectors d.may_leave c.args.l2.now.dev c.begin-begun.new.self.dev c.args.l2.now.cursor c.begin-begun.new.self.cursor) (sym c.first_of.ensures)
    (begun_keeps d.told d.has_sectors d.may_leave d.moment d.left_since c.args.l2.now.dev c.begin-begun.new.self.dev c.args.l2.now.cursor c.begin-begun.new.self.cursor c.begin-begun.result c.clear_all-taken.result
    (λ is. let r = c.begin-begun.ensures.refused is in (r.0, r.1)) (λ p kept. c.begin-begun.ensures.crash p kept below))
