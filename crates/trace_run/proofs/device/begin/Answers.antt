use Rattle.std.proofs.Common.{◌≡◌, ℕ, Option, None, Some, IfSome, refl, subst}
use Rattle.l2_dev.specs.declared.stop.Stop.{Stop}
use Rattle.l2_dev.specs.declared.stop.Stop.TheVariants as stops
use Rattle.l2_dev.specs.Cursor.{CursorState}
use Rattle.l2_dev.specs.Rebuilding.{ring_end_of}
use Rattle.l2_dev.specs.Starting.{StartKeeps}
use Rattle.l2_dev.specs.Walking.{IsOfRebuild}
use Rattle.trace_run.proofs.DeviceLemmas.{only-of}
use Rattle.trace_run.proofs.device.begin.Goals as goal

-- a fact of what is there
some-told : {X : Type 0} (P : X → Type 0) (o : Option X) → ((x : X) → o ≡ Some x → P x) → IfSome o P
some-told P None each = tt
some-told P (Some x) each = each x refl

some-is : {X : Type 0} {a b : X} → Some a ≡ Some b → a ≡ b
some-is same = cc

-- a start that is ready was not told as too short
not-short : (why : Stop) (len : ℕ) → IsOfRebuild why → why ≡ stops.Short len → ⊥
not-short why len kind is = subst IsOfRebuild is kind

pub returns-in-Ready-clause-found : goal.returns-in-Ready-clause-found
returns-in-Ready-clause-found g c =
    let e = c.in-Ready.ensures in
    rw (c.in-Some.is, c.from_vec.ensures) (record {
      short = λ small. absurd (e.long small);
      long = λ len is. absurd (not-short _ len e.kind is);
      image = λ le. some-told _ (g.D.CacheDev.told c.in-Some.dev) e.rebuilt;
      reads = λ le. (e.started.0, e.started.1, c.in-Ready.l2.cursor, refl, e.opened, some-told _ (g.D.CacheDev.told c.in-Some.dev) e.started.2);
      cause = e.cause;
      keys = e.keys;
      only = only-of g.D.CacheDev _ _ e.read;
      crash = λ cursor is. subst (λ (x : CursorState). StartKeeps g.D.CacheDev.told g.D.CacheDev.has_sectors g.D.CacheDev.may_leave (ring_end_of (g.D.CacheDev.size c.in-Some.dev)) c.in-Some.dev c.in-Ready.l2.dev x c.in-Ready.restored.items c.in-Ready.stop) (some-is is) e.crash;
    })

pub returns-in-Ready-clause-opened : goal.returns-in-Ready-clause-opened
returns-in-Ready-clause-opened g c = let e = c.in-Ready.ensures in rw (c.in-Some.is, c.from_vec.ensures) (e.opened, e.read.size)
