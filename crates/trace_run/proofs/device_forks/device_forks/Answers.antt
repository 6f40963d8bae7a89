use Rattle.std.proofs.Common.{◌+◌, ℕ, ◌∷◌, [], List, Option, length, length-append, refl, sym, ap, ◌∙◌, subst}
use Rattle.trace_run.specs.Devices.{lent_in}
use Rattle.trace_run.specs.callers.DeviceForks.{GivesForks}
use Rattle.trace_run.proofs.DeviceLemmas.{gives-more, lent-same, lent-then}
use Rattle.trace_run.proofs.device_forks.device_forks.Goals as goal

pub loop-init : goal.loop-init
loop-init g c = record { given = subst (λ (l : List (Option g.row.D.Denot)). GivesForks g.D.CacheDev l (lent_in c.args.device.now) (lent_in c.args.device.now)) (sym c.new-forks.ensures.items) refl; lent = lent-same g.D.CacheDev c.args.device.now; count = ap length c.new-forks.ensures.items }

pub loop-preserved : goal.loop-preserved
loop-preserved g c =
    let before = c.loop.invariant in
    record {
      given = subst (λ (l : List (Option g.row.D.Denot)). GivesForks g.D.CacheDev l (lent_in c.args.device.now) (lent_in c.one_device_fork-fork.new.device)) (sym c.in_ok-push.ensures.items)
          (gives-more g.D.CacheDev c.loop.forks.items c.one_device_fork-fork.result (lent_in c.args.device.now) (lent_in c.loop.device) (lent_in c.one_device_fork-fork.new.device) before.given c.one_device_fork-fork.ensures.given);
      lent = lent-then g.D.CacheDev c.args.device.now c.loop.device c.one_device_fork-fork.new.device before.lent c.one_device_fork-fork.ensures.device;
      count = ap length c.in_ok-push.ensures.items ∙ (length-append c.loop.forks.items (c.one_device_fork-fork.result ∷ []) ∙ ap (λ (n : ℕ). n + 1) before.count);
    }

-- where memory was refused for the list, the device has still given this fork
pub returns-in_err-push-clause-device : goal.returns-in_err-push-clause-device
returns-in_err-push-clause-device g c = lent-then g.D.CacheDev c.args.device.now c.loop.device c.one_device_fork-fork.new.device c.loop.invariant.lent c.one_device_fork-fork.ensures.device
