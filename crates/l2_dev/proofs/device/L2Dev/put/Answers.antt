use Rattle.std.proofs.Common.{◌≡◌, ℕ, List, [], ◌∷◌, length, Some, refl, ap, sym, subst, ◌∙◌, arith}
use Rattle.vdev_io.specs.Calls.{Write}
use Rattle.vdev_io.specs.Device.{put}
use Rattle.blk_ptr.specs.declared.digest.Digest.{Digest}
use Rattle.l2_log.specs.Rules.{header_len}
use Rattle.l2_ring.specs.declared.live.Written.{Written}
use Rattle.l2_ring.specs.Ring.{RingState}
use Rattle.l2_dev.specs.declared.fault.DevErr.{DevErr}
use Rattle.l2_dev.specs.Calls.{put_entry}
use Rattle.l2_dev.proofs.CallLaws.{ring_crash, ring_forgets, put_kept}
use Rattle.l2_dev.proofs.TornLaws.{EntriesAside}
use Rattle.l2_dev.proofs.Begins.{flushed_of}
use Rattle.l2_dev.proofs.Puts.{asks_err, pending_aside, put_writes, put_of, forgotten_of, written_ok, written_err}
use Rattle.l2_dev.proofs.device.L2Dev.put.Goals as goal

pub returns-in-Err-clause-crash : goal.returns-in-Err-clause-crash
returns-in-Err-clause-crash g c =
    λ p kept.
    let d = g.D.CacheDev in
    let laws = g.met.D.CacheDev g.world.𝓛 g.world.𝓜 g.world.𝓡 ((λ s x. x), (λ x. x), (λ x. x), λ x. x) in
    let dev = c.args.self.now.dev in
    let cursor = c.args.self.now.cursor in
    let at : c.hand-place.result ≡ cursor.ring.hand = c.hand-place.ensures.hand ∙ ap (λ (r : RingState). r.hand) c.ring.ensures.ring in
    let len : length c.bytes.result.now ≡ c.args.key.size = ap (λ (bs : List ℕ). length bs) c.bytes.ensures ∙ c.requires.sized in
    let end = c.ring.ensures.kept.sound.ends.long in
    let room = c.requires.room in
    let whole = c.requires.whole in
    let writes = put_writes cursor c.hand-place.result c.bytes.result.now c.ring.ensures.kept c.requires.ready at (omega arith) in
    record {
      crash = ring_crash d.told d.has_sectors d.may_leave d.moment d.left_since dev c.put_block.new.dev cursor p c.hand-place.result header_len c.bytes.result.now kept writes
          record {
            told_left = laws.leaves_told dev;
            now_only = λ x yes left. laws.only_now dev x yes left;
            long = λ x left. let n = laws.leaves_len dev x left in omega (arith, n);
          } c.put_block.ensures.wrote;
      kept = ring_forgets d.told d.has_sectors d.may_leave d.moment d.left_since dev c.put_block.new.dev cursor c.forget.new.self p c.hand-place.result c.bytes.result.now kept writes c.put_block.ensures.wrote
          (forgotten_of cursor c.forget.new.self (rw c.in-Err.ensures.pushed at c.forget.ensures.forgotten));
    }

pub returns-clause-pending : goal.returns-clause-pending
returns-clause-pending g c =
    let at : c.hand-place.result ≡ c.args.self.now.cursor.ring.hand = c.hand-place.ensures.hand ∙ ap (λ (r : RingState). r.hand) c.ring.ensures.ring in
    (_, refl, at, ap Some c.digest.ensures, c.in_default.ensures.pushed)

pub returns-clause-crash : goal.returns-clause-crash
returns-clause-crash g c =
    λ p kept.
    let d = g.D.CacheDev in
    let laws = g.met.D.CacheDev g.world.𝓛 g.world.𝓜 g.world.𝓡 ((λ s x. x), (λ x. x), (λ x. x), λ x. x) in
    let dev = c.args.self.now.dev in
    let cursor = c.args.self.now.cursor in
    let is = c.ring.ensures.kept in
    let at : c.hand-place.result ≡ cursor.ring.hand = c.hand-place.ensures.hand ∙ ap (λ (r : RingState). r.hand) c.ring.ensures.ring in
    let end = is.sound.ends.long in
    let evict = is.sound.evict_in.to in
    let room = c.requires.room in
    let whole = c.requires.whole in
    let len : length c.args.block.now ≡ c.args.key.size = c.requires.sized in
    let k = put_entry c.args.key c.hand-place.result c.args.block.now cursor.ring.lap in
    let writes = put_writes cursor c.hand-place.result c.args.block.now is c.requires.ready at (omega arith) in
    let wrote = rw c.bytes.ensures at c.put_block.ensures.wrote in
    let told = rw c.bytes.ensures at c.in_default.ensures.told in
    record {
      crash = ring_crash d.told d.has_sectors d.may_leave d.moment d.left_since dev c.put_block.new.dev cursor p c.hand-place.result header_len c.args.block.now kept writes
          record {
            told_left = laws.leaves_told dev;
            now_only = λ x yes left. laws.only_now dev x yes left;
            long = λ x left. let n = laws.leaves_len dev x left in omega (arith, n);
          } wrote;
      kept = put_kept d.told d.has_sectors d.may_leave d.moment d.left_since dev c.put_block.new.dev cursor c.put_block.new.cursor p k kept.image kept writes len kept.told
          (let n = laws.told_len dev kept.image kept.told in omega (arith, n))
          (subst (λ (m : ℕ). EntriesAside m (length c.args.block.now) p.pending) (sym at) (pending_aside cursor p (length c.args.block.now) is kept.upheld))
          wrote
          (flushed_of d.told d.has_sectors d.may_leave d.moment d.left_since (d.told dev) kept.image (λ image. d.told c.put_block.new.dev ≡ Some (put c.hand-place.result c.args.block.now image)) kept.told told)
          (put_of _ c.args.block.now cursor c.put_block.new.cursor k
          (ap (λ (digest : Digest). let w : Written = record { live = record { key = c.args.key; place = c.hand-place.result; digest = Some digest }; lap = cursor.ring.lap } in w) (sym c.digest.ensures))
          c.in_default.ensures.pushed);
    }

pub returns-in-Err-clause-written : goal.returns-in-Err-clause-written
returns-in-Err-clause-written g c =
    let d = g.D.CacheDev in
    let at : c.hand-place.result ≡ c.args.self.now.cursor.ring.hand = c.hand-place.ensures.hand ∙ ap (λ (r : RingState). r.hand) c.ring.ensures.ring in
    written_err (Unit {0}) DevErr ℕ DevErr c.args.self.now.cursor.ring.hand c.args.block.now (d.told c.args.self.now.dev) (d.told c.put_block.new.dev) _ _ (rw (at, c.bytes.ensures) at c.in-Err.ensures.written)

pub returns-clause-written : goal.returns-clause-written
returns-clause-written g c =
    let d = g.D.CacheDev in
    let at : c.hand-place.result ≡ c.args.self.now.cursor.ring.hand = c.hand-place.ensures.hand ∙ ap (λ (r : RingState). r.hand) c.ring.ensures.ring in
    written_ok (Unit {0}) DevErr ℕ DevErr c.args.self.now.cursor.ring.hand c.args.block.now (d.told c.args.self.now.dev) (d.told c.put_block.new.dev) _ _ (rw (at, c.bytes.ensures) at c.in_default.ensures.written)

pub returns-in-Err-clause-calls : goal.returns-in-Err-clause-calls
returns-in-Err-clause-calls g c =
    let at : c.hand-place.result ≡ c.args.self.now.cursor.ring.hand = c.hand-place.ensures.hand ∙ ap (λ (r : RingState). r.hand) c.ring.ensures.ring in
    asks_err (Unit {0}) ℕ g.D.CacheDev (Write c.hand-place.result c.bytes.result.now ∷ []) (Write c.args.self.now.cursor.ring.hand c.args.block.now ∷ []) c.args.self.now.dev c.put_block.new.dev c.in-Err.fault
    (ap (λ (place : ℕ). Write place c.bytes.result.now ∷ []) at ∙ ap (λ (bytes : List ℕ). Write c.args.self.now.cursor.ring.hand bytes ∷ []) c.bytes.ensures) c.in-Err.ensures.calls

pub returns-clause-calls : goal.returns-clause-calls
returns-clause-calls g c =
    let at : c.hand-place.result ≡ c.args.self.now.cursor.ring.hand = c.hand-place.ensures.hand ∙ ap (λ (r : RingState). r.hand) c.ring.ensures.ring in
    rw (at, c.bytes.ensures) at c.in_default.ensures.calls
