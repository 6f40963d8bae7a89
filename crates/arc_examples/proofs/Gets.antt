-- A block that was got, by a read or by a try, and what is so once it is given back.
use Rattle.std.proofs.Common.{◌≡◌, ℕ, [], ◌∷◌, ◌++◌, map, Option, Some, None, Result, Ok, Err, sym, ap, ◌∙◌, subst}
use Rattle.vdev_io.specs.declared.device.CacheDev.{Ghosts as DeviceGhosts}
use Rattle.vdev_io.specs.declared.pool.Pool.{Ghosts as PoolGhosts}
use Rattle.blk_ptr.specs.declared.key.Key.{Key}
use Rattle.blk_ptr.specs.declared.ptr.Ptr.{Ptr}
use Rattle.arc_core.specs.declared.event.Event.TheVariants.{Drop, Hit}
use Rattle.arc_core.specs.declared.served.ReadFault.{ReadFault}
use Rattle.turn_table.specs.Places.{Place}
use Rattle.arc_table.specs.declared.hold.Hold.{Hold}
use Rattle.arc_table.specs.declared.read.Read.{Read}
use Rattle.arc_table.specs.declared.read.Read.TheVariants as gave
use Rattle.arc_table.specs.declared.view.Known.{Known}
use Rattle.arc_table.specs.declared.view.Ledger.{Ledger}
use Rattle.arc_table.specs.declared.view.Line.TheVariants as line
use Rattle.arc_table.specs.Booking.{without_hold}
use Rattle.arc_table.specs.Both.{Does}
use Rattle.arc_table.specs.Cache.{Cache}
use Rattle.arc_table.specs.Fronts.{front_of}
use Rattle.arc_table.specs.Geometry.{shard_turn}
use Rattle.arc_table.specs.Holding.{IsHeld, IsHoldOf}
use Rattle.arc_table.specs.Items.{Meanings}
use Rattle.arc_table.specs.Reading.{AnswersRead, Outside}
use Rattle.arc_table.specs.Trying.{FindsBusy}
use Rattle.arc_table.proofs.reads.AfterRead.{read_stays}
use Rattle.arc_table.proofs.Afterwards.{Stays, does_seen, does_stays}
use Rattle.arc_examples.specs.Ready.{Gets, HasGivenBack, HasGot, IsAsBefore, IsReady, IsReadyAs}
use Rattle.arc_examples.proofs.Holds.{drop-holds, gained-back, hit-gains, none-holds, own-hold}
use Rattle.arc_examples.proofs.ReadHolds.{ReadLists, read-lists}
use Rattle.arc_examples.proofs.Ready.{before-stays, ready-stays}
use Rattle.arc_examples.proofs.Tries.{busy-ledger, busy-stays}

-- the hold that a read gave
abbrev pub held_of : Result Read ReadFault → Option Hold
held_of (Ok (gave.Held hold from)) = Some hold
held_of (Ok (gave.Past block kept)) = None
held_of (Err why) = None

-- a hold is given back
module _ {C : Type 0} (m : Meanings C) (cache : Cache) (h : Hold) (p q : Place (Known C)) (ready : IsReady cache p) (d : Does m cache.config h.key (Drop h.owner h.key ∷ []) p q) where
  pub dropped-ready : IsReadyAs cache p q
  dropped-ready = ready-stays cache p q ready (does_stays m cache.config ready.valid h.key (Drop h.owner h.key ∷ []) p q ready.of.config d)

  pub dropped-holds : IsHeld cache.config p h → q.own.ledger.holds ≡ without_hold h.key p.own.ledger.holds
  dropped-holds held = drop-holds m cache.config ready.valid h p q ready.of.config (own-hold cache.config p h ready.free held).0 d

  pub dropped-back : IsHeld cache.config p h → HasGivenBack cache h.key q
  dropped-back held = record {
    before = d.before.history;
    seen = subst (λ (n : ℕ). front_of (shard_turn cache.config h.key) q.own.seen ≡ map line.Event (d.before.history ++ Drop n h.key ∷ []))
        ((own-hold cache.config p h ready.free held).0 ∙ sym dropped-ready.number)
        (does_seen m cache.config ready.valid h.key (Drop h.owner h.key ∷ []) p q d);
  }

module _ {C : Type 0} (cache : Cache) (k : Key) where
  -- it is given back under the key that it was got on
  pub got-given : (hold : Hold) (p r q : Place (Known C)) → HasGot cache k hold p r → HasGivenBack cache hold.key q → HasGivenBack cache k q
  got-given hold p r q got back = subst (λ (x : Key). HasGivenBack cache x q) got.key back

  -- what was got is given back
  pub got-back : (hold : Hold) (p r q : Place (Known C)) → HasGot cache k hold p r → IsReadyAs cache r q → q.own.ledger.holds ≡ without_hold hold.key r.own.ledger.holds → IsAsBefore cache p q
  got-back hold p r q got ready back = record {
    ready = ready.ready;
    number = ready.number ∙ got.ready.number;
    holds = gained-back k p r q got.gains (subst (λ (x : Key). q.own.ledger.holds ≡ without_hold x r.own.ledger.holds) got.key back);
  }

module _ {C : Type 0} (m : Meanings C) (cache : Cache) (ptr : Ptr) (t : ℕ) (p q : Place (Known C)) (ready : IsReady cache p) where
  read-so : (result : Result Read ReadFault) → Stays p q → ReadLists cache.config ptr p q result → Gets cache ptr.key p q (held_of result)
  read-so (Ok (gave.Held hold from)) s l = record { ready = ready-stays cache p q ready s; key = l.0; held = l.1; gains = l.2 }
  read-so (Ok (gave.Past block kept)) s l = before-stays cache p q ready s l
  read-so (Err why) s l = before-stays cache p q ready s l

  pub read-gets : {P D : Type 0} → (pools : PoolGhosts P) (devices : DeviceGhosts D) (before now : Outside P D) (result : Result Read ReadFault) → AnswersRead m pools devices cache.config ptr t before now p q result → Gets cache ptr.key p q (held_of result)
  read-gets pools devices before now result a = read-so result
      (read_stays m cache.config ready.valid pools devices ptr t before now p q result ready.of.config a)
      (read-lists m cache.config ready.valid pools devices ptr t before now p q result ready.of.config ready.free a)

  pub read-ready : {P D : Type 0} → (pools : PoolGhosts P) (devices : DeviceGhosts D) (before now : Outside P D) (result : Result Read ReadFault) → AnswersRead m pools devices cache.config ptr t before now p q result → IsReadyAs cache p q
  read-ready pools devices before now result a = ready-stays cache p q ready (read_stays m cache.config ready.valid pools devices ptr t before now p q result ready.of.config a)

  -- a try that gave a hold
  pub hit-got : (h : Hold) → Does m cache.config ptr.key (Hit p.number ptr.key t ∷ []) p q → IsHoldOf ptr p.number h → IsHeld cache.config q h → HasGot cache ptr.key h p q
  hit-got h d of held = record {
    ready = ready-stays cache p q ready (does_stays m cache.config ready.valid ptr.key (Hit p.number ptr.key t ∷ []) p q ready.of.config d);
    key = of.key;
    held = held;
    gains = hit-gains m cache.config ready.valid ptr.key t h p q ready.of.config ready.free of.key held d;
  }

module _ {C : Type 0} (m : Meanings C) (cache : Cache) (k : Key) (p q : Place (Known C)) (ready : IsReady cache p) where
  pub none-before : Does m cache.config k [] p q → IsAsBefore cache p q
  none-before d = before-stays cache p q ready (does_stays m cache.config ready.valid k [] p q ready.of.config d) (none-holds m cache.config ready.valid k p q ready.of.config d)

  pub busy-before : (n : ℕ) → FindsBusy m cache.config k n p q → IsAsBefore cache p q
  busy-before n busy = before-stays cache p q ready (busy-stays m cache.config k n p q busy) (ap (λ (l : Ledger). l.holds) (busy-ledger m cache.config k n p q busy))
