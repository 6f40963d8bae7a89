-- What a read leaves of the party: it is a party of the cache still, under its number, with the turns that it had; and how it began and ended
-- tells what it has made and lists.
use Rattle.std.proofs.Common.{◌≡◌, ℕ, List, zero, suc, [], append-nil, refl, sym, ap, ◌∙◌, subst}
use Rattle.std.specs.Prelude.{Option, Result, Ok, Err}
use Rattle.vdev_io.specs.declared.device.CacheDev.{Ghosts as DeviceGhosts}
use Rattle.vdev_io.specs.declared.pool.Pool.{Ghosts as PoolGhosts}
use mathlib.Core.Option.{some}
use lib.ListN.{get_elem?}
use Rattle.blk_ptr.specs.declared.key.Key.{Key}
use Rattle.blk_ptr.specs.declared.ptr.Ptr.{Ptr}
use Rattle.arc_core.specs.declared.config.Config.{Config}
use Rattle.arc_core.specs.Config.{IsConfig}
use Rattle.arc_core.specs.declared.served.ReadFault.{ReadFault}
use Rattle.arc_core.specs.declared.served.ReadFault.TheVariants as fault
use Rattle.arc_core.specs.declared.served.Served.TheVariants as served
use Rattle.arc_core.specs.declared.shard.EntryView.{EntryView}
use Rattle.turn_table.specs.Places.{Place}
use Rattle.arc_table.specs.declared.about.About.{About}
use Rattle.arc_table.specs.declared.read.Read.{Read}
use Rattle.arc_table.specs.declared.read.Read.TheVariants as gave
use Rattle.arc_table.specs.declared.view.Known.{Known}
use Rattle.arc_table.specs.declared.view.Ledger.{Ledger}
use Rattle.arc_table.specs.Arriving.{IsReading}
use Rattle.arc_table.specs.Both.{Does}
use Rattle.arc_table.specs.Items.{Meanings}
use Rattle.arc_table.specs.Reading.{Answers, AnswersRead, EndsAtPool, EndsMiss, GoesToPool, Outside, TurnsToPool, Waits, answered, cleared, from_device, from_none, from_pool, hit, missed, no_memory, past, read, refused, unread, unserved}
use Rattle.arc_table.proofs.Afterwards.{Stays, does_ledger, does_mine, does_stays, stays_then}
use Rattle.arc_table.proofs.scans.RoomyAfter.{does_roomy_stays}

module _ {C : Type 0} where
  pub stays_same : (p q : Place (Known C)) → q ≡ p → Stays p q
  stays_same p q e = subst (Stays p) (sym e) record { table = refl; parties = refl; number = refl; joined = refl; held = refl; about = refl }

  -- a party of a cache with this configuration has it still
  pub stays_config : (g : Config) (p q : Place (Known C)) → Stays p q → p.own.about.config ≡ g → q.own.about.config ≡ g
  stays_config g p q s same = ap (λ (a : About). a.config) s.about ∙ same

module _ {C : Type 0} (m : Meanings C) (g : Config) (valid : IsConfig g) where
  pub waits_stays : (k : Key) (times : ℕ) (p q : Place (Known C)) → p.own.about.config ≡ g → Waits m g k times p q → Stays p q
  waits_stays k zero p q same w = stays_same p q w
  waits_stays k (suc times) p q same w =
      let s = waits_stays k times p w.0 same w.1 in
      stays_then p w.0 q s (does_stays m g valid k [] w.0 q (stays_config g p w.0 s same) w.2.does)

  -- who waits makes nothing
  pub waits_mine : (k : Key) (times : ℕ) (p q : Place (Known C)) → Waits m g k times p q → q.own.mine ≡ p.own.mine
  waits_mine k zero p q w = ap (λ (x : Place (Known C)). x.own.mine) w
  waits_mine k (suc times) p q w = does_mine m g valid k [] w.0 q w.2.does ∙ (append-nil w.0.own.mine ∙ waits_mine k times p w.0 w.1)

  -- a key that the party reads it reads still, where it made no event
  pub reads_still : (k : Key) (p q : Place (Known C)) → p.own.about.config ≡ g → Does m g k [] p q → (j : Key) → IsReading j p → IsReading j q
  reads_still k p q same d j reading =
      (reading.0, subst (λ (l : List Key). get_elem? l reading.0 ≡ some j) (sym (ap (λ (l : Ledger). l.readings) (does_ledger m g valid k [] p q same d))) reading.1)

-- ---- the end of a read

module _ {C P : Type 0} (m : Meanings C) (g : Config) (valid : IsConfig g) (pools : PoolGhosts P) where
  at_pool_stays : (ptr : Ptr) (old new : P) (p q : Place (Known C)) (result : Result Read ReadFault) → p.own.about.config ≡ g → EndsAtPool m pools g ptr old new p q result → Stays p q
  at_pool_stays ptr old new p q (Ok (gave.Held hold served.Pool)) same e = does_stays m g valid ptr.key _ p q same e.0
  at_pool_stays ptr old new p q (Ok (gave.Held hold served.Hit)) same e = absurd e
  at_pool_stays ptr old new p q (Ok (gave.Held hold served.L2)) same e = absurd e
  at_pool_stays ptr old new p q (Ok (gave.Held hold served.Past)) same e = absurd e
  at_pool_stays ptr old new p q (Ok (gave.Past block kept)) same e = absurd e
  at_pool_stays ptr old new p q (Err (fault.PoolFault)) same e = does_stays m g valid ptr.key _ p q same e.0
  at_pool_stays ptr old new p q (Err (fault.Mismatch digest)) same e = does_stays m g valid ptr.key _ p q same e.0
  at_pool_stays ptr old new p q (Err (fault.Key why)) same e = absurd e
  at_pool_stays ptr old new p q (Err (fault.NoMemory)) same e = does_stays m g valid ptr.key _ p q same e.0

  pub goes_stays : (ptr : Ptr) (old new : P) (p q : Place (Known C)) (result : Result Read ReadFault) → p.own.about.config ≡ g → GoesToPool m pools g ptr old new p q result → Stays p q
  goes_stays ptr old new p q result same (read e) = at_pool_stays ptr old new p q result same e
  goes_stays ptr old new p q result same (unread e) = does_stays m g valid ptr.key _ p q same e.does

module _ {C D : Type 0} (m : Meanings C) (g : Config) (valid : IsConfig g) (devices : DeviceGhosts D) where
  pub turns_stays : (ptr : Ptr) (found : Option EntryView) (old new : D) (p q : Place (Known C)) → p.own.about.config ≡ g → TurnsToPool m devices g ptr found old new p q → Stays p q
  turns_stays ptr found old new p q same (unserved why is) = stays_same p q is
  turns_stays ptr found old new p q same (cleared bytes came c) = does_stays m g valid ptr.key _ p q same c.does

module _ {C P D : Type 0} (m : Meanings C) (g : Config) (valid : IsConfig g) (pools : PoolGhosts P) (devices : DeviceGhosts D) where
  pub ends_stays : (ptr : Ptr) (found : Option EntryView) (before now : Outside P D) (p q : Place (Known C)) (result : Result Read ReadFault) → p.own.about.config ≡ g → EndsMiss m pools devices g ptr found before now p q result → Stays p q
  ends_stays ptr found before now p q result same (from_device hold is e) = does_stays m g valid ptr.key _ p q same e.does
  ends_stays ptr found before now p q result same (from_none asked e) = does_stays m g valid ptr.key _ p q same e.does
  ends_stays ptr found before now p q result same (from_pool back turns e) =
      let s = turns_stays m g valid devices ptr found before.device now.device p back same turns in
      stays_then p back q s (goes_stays m g valid pools ptr before.pool now.pool back q result (stays_config g p back s same) e)

  pub answers_stays : (ptr : Ptr) (t : ℕ) (before now : Outside P D) (p q : Place (Known C)) (result : Result Read ReadFault) → p.own.about.config ≡ g → Answers m pools devices g ptr t before now p q result → Stays p q
  answers_stays ptr t before now p q result same (hit hold is does here held unchanged) = does_stays m g valid ptr.key _ p q same does
  answers_stays ptr t before now p q result same (missed r miss missing end) =
      let s = does_roomy_stays m g valid ptr.key _ p r same miss in stays_then p r q s (ends_stays ptr _ before now r q result (stays_config g p r s same) end)
  answers_stays ptr t before now p q result same (past kept other does here unasked end) = does_stays m g valid ptr.key _ p q same does
  answers_stays ptr t before now p q result same (no_memory is does unchanged) = does_stays m g valid ptr.key _ p q same does

  -- after a read the party is what it was to the cache
  pub read_stays : (ptr : Ptr) (t : ℕ) (before now : Outside P D) (p q : Place (Known C)) (result : Result Read ReadFault) → p.own.about.config ≡ g → AnswersRead m pools devices g ptr t before now p q result → Stays p q
  read_stays ptr t before now p q result same (refused why is first unchanged outside) = stays_same p q unchanged
  read_stays ptr t before now p q result same (answered named times r waits a) =
      let s = waits_stays m g valid ptr.key times p r same waits in stays_then p r q s (answers_stays ptr t before now r q result (stays_config g p r s same) a)
