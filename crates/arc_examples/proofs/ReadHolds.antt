-- The holds that a party lists once a read is over: one on the block's key more where it gave one, and else those that it had.
use Rattle.std.proofs.Common.{◌≡◌, ℕ, zero, suc, [], ◌∷◌, Result, Ok, Err, Option, sym, ap, ◌∙◌, subst}
use Rattle.vdev_io.specs.declared.device.CacheDev.{Ghosts as DeviceGhosts}
use Rattle.vdev_io.specs.declared.pool.Pool.{Ghosts as PoolGhosts}
use Rattle.blk_ptr.specs.declared.digest.Digest.{Digest}
use Rattle.blk_ptr.specs.declared.key.Key.{Key}
use Rattle.blk_ptr.specs.declared.ptr.Ptr.{Ptr}
use Rattle.arc_core.specs.Config.{IsConfig}
use Rattle.arc_core.specs.declared.config.Config.{Config}
use Rattle.arc_core.specs.declared.event.Event.TheVariants.{Fail, Miss, Past}
use Rattle.arc_core.specs.declared.event.FailedAt.{FailedAt}
use Rattle.arc_core.specs.declared.event.FailedAt.TheVariants as failed
use Rattle.arc_core.specs.declared.event.Origin.TheVariants as origin
use Rattle.arc_core.specs.declared.served.ReadFault.{ReadFault}
use Rattle.arc_core.specs.declared.served.ReadFault.TheVariants as fault
use Rattle.arc_core.specs.declared.served.Served.TheVariants as served
use Rattle.arc_core.specs.declared.shard.EntryView.{EntryView}
use Rattle.turn_table.specs.Places.{Place}
use Rattle.arc_table.specs.declared.read.Read.{Read}
use Rattle.arc_table.specs.declared.read.Read.TheVariants as gave
use Rattle.arc_table.specs.declared.view.Known.{Known}
use Rattle.arc_table.specs.declared.view.Ledger.{Ledger}
use Rattle.arc_table.specs.Both.{Does}
use Rattle.arc_table.specs.Holding.{IsHeld}
use Rattle.arc_table.specs.Items.{Meanings}
use Rattle.arc_table.specs.Reading.{Answers, AnswersRead, EndsAtPool, EndsMiss, EndsPast, GoesToPool, Outside, TurnsToPool, Waits, answered, cleared, from_device, from_none, from_pool, hit, missed, no_memory, past, read, refused, unread, unserved}
use Rattle.arc_table.proofs.reads.AfterRead.{stays_config, turns_stays, waits_stays}
use Rattle.arc_table.proofs.Afterwards.{does_ledger}
use Rattle.arc_table.proofs.scans.RoomyAfter.{does_roomy_stays}
use Rattle.arc_examples.specs.Ready.{Gains}
use Rattle.arc_examples.proofs.Holds.{arrive-gains, hit-gains, miss-holds, none-holds, same-gains}

-- what a read that came to this lists: the hold that it gave is one of the block's key more
abbrev pub ReadLists : {C : Type 0} → Config → Ptr → (p q : Place (Known C)) → Result Read ReadFault → Type 0
ReadLists g ptr p q (Ok (gave.Held hold from)) = (hold.key ≡ ptr.key) × IsHeld g q hold × Gains ptr.key p q
ReadLists g ptr p q (Ok (gave.Past block kept)) = q.own.ledger.holds ≡ p.own.ledger.holds
ReadLists g ptr p q (Err why) = q.own.ledger.holds ≡ p.own.ledger.holds

module _ {C : Type 0} (m : Meanings C) (g : Config) (valid : IsConfig g) where
  fail-holds : (k : Key) (at : FailedAt) (p q : Place (Known C)) → p.own.about.config ≡ g → Does m g k (Fail p.number k at ∷ []) p q → q.own.ledger.holds ≡ p.own.ledger.holds
  fail-holds k at p q config d = ap (λ (l : Ledger). l.holds) (does_ledger m g valid k (Fail p.number k at ∷ []) p q config d)

  past-holds : (k : Key) (kept : Digest) (p q : Place (Known C)) → p.own.about.config ≡ g → Does m g k (Past p.number k kept ∷ []) p q → q.own.ledger.holds ≡ p.own.ledger.holds
  past-holds k kept p q config d = ap (λ (l : Ledger). l.holds) (does_ledger m g valid k (Past p.number k kept ∷ []) p q config d)

  waits-hold : (k : Key) (times : ℕ) (p q : Place (Known C)) → p.own.about.config ≡ g → Waits m g k times p q → q.own.ledger.holds ≡ p.own.ledger.holds
  waits-hold k zero p q config is = ap (λ (x : Place (Known C)). x.own.ledger.holds) is
  waits-hold k (suc times) p q config w =
      let s = waits_stays m g valid k times p w.0 config w.1 in
      none-holds m g valid k w.0 q (stays_config g p w.0 s config) w.2.does ∙ waits-hold k times p w.0 config w.1

-- a read that lists so behind one that had the same holds
lists-after : {C : Type 0} → (g : Config) (ptr : Ptr) (p r q : Place (Known C)) (result : Result Read ReadFault) → r.own.ledger.holds ≡ p.own.ledger.holds → ReadLists g ptr r q result → ReadLists g ptr p q result
lists-after g ptr p r q (Ok (gave.Held hold from)) same a = (a.0, a.1, same-gains ptr.key p r q same a.2)
lists-after g ptr p r q (Ok (gave.Past block kept)) same a = a ∙ same
lists-after g ptr p r q (Err why) same a = a ∙ same

module _ {C P D : Type 0} (m : Meanings C) (g : Config) (valid : IsConfig g) (pools : PoolGhosts P) (devices : DeviceGhosts D) (ptr : Ptr) (t : ℕ) where
  pool-lists : (old new : P) (p q : Place (Known C)) (result : Result Read ReadFault) → p.own.about.config ≡ g → EndsAtPool m pools g ptr old new p q result → ReadLists g ptr p q result
  pool-lists old new p q (Ok (gave.Held hold served.Pool)) config h = (h.1.0.key, h.1.1, arrive-gains m g valid ptr origin.Pool p q config h.0)
  pool-lists old new p q (Ok (gave.Held hold served.Hit)) config h = absurd h
  pool-lists old new p q (Ok (gave.Held hold served.L2)) config h = absurd h
  pool-lists old new p q (Ok (gave.Held hold served.Past)) config h = absurd h
  pool-lists old new p q (Ok (gave.Past block kept)) config h = absurd h
  pool-lists old new p q (Err (fault.PoolFault)) config h = fail-holds m g valid ptr.key failed.Pool p q config h.0
  pool-lists old new p q (Err (fault.Mismatch found)) config h = fail-holds m g valid ptr.key failed.Pool p q config h.0
  pool-lists old new p q (Err (fault.Key why)) config h = absurd h
  pool-lists old new p q (Err (fault.NoMemory)) config h = fail-holds m g valid ptr.key failed.Pool p q config h.0

  goes-list : (old new : P) (p q : Place (Known C)) (result : Result Read ReadFault) → p.own.about.config ≡ g → GoesToPool m pools g ptr old new p q result → ReadLists g ptr p q result
  goes-list old new p q result config (read ends) = pool-lists old new p q result config ends
  goes-list old new p q result config (unread f) = subst (ReadLists g ptr p q) (sym f.answer) (fail-holds m g valid ptr.key failed.Unread p q config f.does)

  turn-holds : (found : Option EntryView) (old new : D) (p q : Place (Known C)) → p.own.about.config ≡ g → TurnsToPool m devices g ptr found old new p q → q.own.ledger.holds ≡ p.own.ledger.holds
  turn-holds found old new p q config (unserved why is) = ap (λ (x : Place (Known C)). x.own.ledger.holds) is
  turn-holds found old new p q config (cleared bytes came f) = none-holds m g valid ptr.key p q config f.does

  miss-lists : (before now : Outside P D) (found : Option EntryView) (p q : Place (Known C)) (result : Result Read ReadFault) → p.own.about.config ≡ g → EndsMiss m pools devices g ptr found before now p q result → ReadLists g ptr p q result
  miss-lists before now found p q result config (from_device hold is a) = subst (ReadLists g ptr p q) (sym is) (a.held.0.key, a.held.1, arrive-gains m g valid ptr origin.L2 p q config a.does)
  miss-lists before now found p q result config (from_pool back turns goes) =
      let s = turns_stays m g valid devices ptr found before.device now.device p back config turns in
      lists-after g ptr p back q result (turn-holds found before.device now.device p back config turns) (goes-list before.pool now.pool back q result (stays_config g p back s config) goes)
  miss-lists before now found p q result config (from_none asked f) = subst (ReadLists g ptr p q) (sym f.answer) (fail-holds m g valid ptr.key failed.Unread p q config f.does)

  past-lists : (old new : P) (kept : Digest) (p q : Place (Known C)) (result : Result Read ReadFault) → q.own.ledger.holds ≡ p.own.ledger.holds → EndsPast pools ptr kept old new result → ReadLists g ptr p q result
  past-lists old new kept p q (Ok (gave.Past block digest)) same h = same
  past-lists old new kept p q (Ok (gave.Held hold from)) same h = absurd h
  past-lists old new kept p q (Err why) same h = same

  answer-lists : (before now : Outside P D) (p q : Place (Known C)) (result : Result Read ReadFault) → p.own.about.config ≡ g → p.held ≡ [] → Answers m pools devices g ptr t before now p q result → ReadLists g ptr p q result
  answer-lists before now p q result config free (hit hold is d cached held same) = subst (ReadLists g ptr p q) (sym is) (held.0.key, held.1, hit-gains m g valid ptr.key t hold p q config free held.0.key held.1 d)
  answer-lists before now p q result config free (missed r d missing ends) =
      let s = does_roomy_stays m g valid ptr.key (Miss p.number ptr.key t) p r config d in
      lists-after g ptr p r q result (miss-holds m g valid ptr.key t p r config d) (miss-lists before now _ r q result (stays_config g p r s config) ends)
  answer-lists before now p q result config free (past kept other d cached device ends) = past-lists before.pool now.pool kept p q result (past-holds m g valid ptr.key kept p q config d) ends
  answer-lists before now p q result config free (no_memory is d same) = subst (ReadLists g ptr p q) (sym is) (none-holds m g valid ptr.key p q config d)

  pub read-lists : (before now : Outside P D) (p q : Place (Known C)) (result : Result Read ReadFault) → p.own.about.config ≡ g → p.held ≡ [] → AnswersRead m pools devices g ptr t before now p q result → ReadLists g ptr p q result
  read-lists before now p q result config free (refused why is first same none) = subst (ReadLists g ptr p q) (sym is) (ap (λ (x : Place (Known C)). x.own.ledger.holds) same)
  read-lists before now p q result config free (answered ok times r waits answer) =
      let s = waits_stays m g valid ptr.key times p r config waits in
      lists-after g ptr p r q result (waits-hold m g valid ptr.key times p r config waits) (answer-lists before now r q result (stays_config g p r s config) (s.held ∙ free) answer)
