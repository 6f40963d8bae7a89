-- What a read leaves of what a party claims of cells, and what it gives.
use Rattle.std.proofs.Common.{◌≡◌, ℕ, zero, suc, List, [], sym, ap, ◌∙◌, subst}
use Rattle.std.specs.Prelude.{Result, Ok, Err, Option}
use Rattle.blk_ptr.specs.declared.digest.Digest.{Digest}
use Rattle.blk_ptr.specs.declared.key.Key.{Key}
use Rattle.blk_ptr.specs.declared.ptr.Ptr.{Ptr}
use Rattle.vdev_io.specs.declared.device.CacheDev.{Ghosts as DeviceGhosts}
use Rattle.vdev_io.specs.declared.pool.Pool.{Ghosts as PoolGhosts}
use Rattle.arc_core.specs.Config.{IsConfig}
use Rattle.arc_core.specs.declared.config.Config.{Config}
use Rattle.arc_core.specs.declared.event.Event.{Event}
use Rattle.arc_core.specs.declared.event.Event.TheVariants.{Miss}
use Rattle.arc_core.specs.declared.served.ReadFault.{ReadFault}
use Rattle.arc_core.specs.declared.served.ReadFault.TheVariants as fault
use Rattle.arc_core.specs.declared.served.Served.TheVariants as served
use Rattle.arc_core.specs.declared.shard.EntryView.{EntryView}
use Rattle.turn_table.specs.Board.{IsAmong}
use Rattle.turn_table.specs.Places.{Place}
use Rattle.arc_table.specs.declared.read.Read.{Read}
use Rattle.arc_table.specs.declared.read.Read.TheVariants as gave
use Rattle.arc_table.specs.declared.view.Known.{Known}
use Rattle.arc_table.specs.declared.view.Ledger.{Ledger}
use Rattle.arc_table.specs.Both.{Does}
use Rattle.arc_table.specs.scans.Ending.{DoesRoomy}
use Rattle.arc_table.specs.Holding.{IsHeld, IsHoldOf, IsListed, IsOneOf, own, cell, ptr_of}
use Rattle.arc_table.specs.Items.{Meanings}
use Rattle.dbuf_cells.specs.Loading.{IsReadOf}
use Rattle.dbuf_cells.specs.Turns.{PartyPlace, dbuf_meanings}
use Rattle.blk_ptr.specs.Ptr.{IsOf}
use Rattle.arc_table.specs.Reading.{Answers, AnswersRead, EndsAtPool, EndsMiss, EndsPast, GoesToPool, Outside, TurnsToPool, Waits, answered, cleared, from_device, from_none, from_pool, hit, missed, no_memory, past, read, refused, unread, unserved}
use Rattle.arc_table.proofs.Afterwards.{Stays, does_ledger, does_stays, stays_then}
use Rattle.arc_table.proofs.reads.AfterRead.{stays_config, stays_same}
use Rattle.arc_table.proofs.scans.RoomyAfter.{does_roomy_ledger, does_roomy_stays}

-- the party is what it was to the cache, and claims what it claimed
pub record Claiming {C : Type 0} (p q : Place (Known C)) : Type 0 where
  pub stays : Stays p q
  pub claims : q.own.ledger.claims ≡ p.own.ledger.claims

module _ {C : Type 0} where
  same-claims : (p q : Place (Known C)) → q ≡ p → Claiming p q
  same-claims p q e = record { stays = stays_same p q e; claims = ap (λ (x : Place (Known C)). x.own.ledger.claims) e }

  then-claims : (p q r : Place (Known C)) → Claiming p q → Claiming q r → Claiming p r
  then-claims p q r a b = record { stays = stays_then p q r a.stays b.stays; claims = b.claims ∙ a.claims }

module _ {C : Type 0} (m : Meanings C) (g : Config) (valid : IsConfig g) where
  pub does-claims : (k : Key) (es : List Event) (p q : Place (Known C)) → p.own.about.config ≡ g → Does m g k es p q → Claiming p q
  does-claims k es p q config d = record {
    stays = does_stays m g valid k es p q config d;
    claims = ap (λ (l : Ledger). l.claims) (does_ledger m g valid k es p q config d);
  }

  miss-claims : (k : Key) (t : ℕ) (p q : Place (Known C)) → p.own.about.config ≡ g → DoesRoomy m g k (Miss p.number k t) p q → Claiming p q
  miss-claims k t p q config d = record {
    stays = does_roomy_stays m g valid k (Miss p.number k t) p q config d;
    claims = ap (λ (l : Ledger). l.claims) (does_roomy_ledger m g valid k (Miss p.number k t) p q config d);
  }

  waits-claims : (k : Key) (times : ℕ) (p q : Place (Known C)) → p.own.about.config ≡ g → Waits m g k times p q → Claiming p q
  waits-claims k zero p q config w = same-claims p q w
  waits-claims k (suc times) p q config w =
      let s = waits-claims k times p w.0 config w.1 in
      then-claims p w.0 q s (does-claims k [] w.0 q (stays_config g p w.0 s.stays config) w.2.does)

module _ {C P : Type 0} (m : Meanings C) (g : Config) (valid : IsConfig g) (pools : PoolGhosts P) where
  at-pool-claims : (ptr : Ptr) (old new : P) (p q : Place (Known C)) (result : Result Read ReadFault) → p.own.about.config ≡ g → EndsAtPool m pools g ptr old new p q result → Claiming p q
  at-pool-claims ptr old new p q (Ok (gave.Held hold served.Pool)) config e = does-claims m g valid ptr.key _ p q config e.0
  at-pool-claims ptr old new p q (Ok (gave.Held hold served.Hit)) config e = absurd e
  at-pool-claims ptr old new p q (Ok (gave.Held hold served.L2)) config e = absurd e
  at-pool-claims ptr old new p q (Ok (gave.Held hold served.Past)) config e = absurd e
  at-pool-claims ptr old new p q (Ok (gave.Past block kept)) config e = absurd e
  at-pool-claims ptr old new p q (Err (fault.PoolFault)) config e = does-claims m g valid ptr.key _ p q config e.0
  at-pool-claims ptr old new p q (Err (fault.Mismatch digest)) config e = does-claims m g valid ptr.key _ p q config e.0
  at-pool-claims ptr old new p q (Err (fault.Key why)) config e = absurd e
  at-pool-claims ptr old new p q (Err (fault.NoMemory)) config e = does-claims m g valid ptr.key _ p q config e.0

  goes-claims : (ptr : Ptr) (old new : P) (p q : Place (Known C)) (result : Result Read ReadFault) → p.own.about.config ≡ g → GoesToPool m pools g ptr old new p q result → Claiming p q
  goes-claims ptr old new p q result config (read e) = at-pool-claims ptr old new p q result config e
  goes-claims ptr old new p q result config (unread e) = does-claims m g valid ptr.key _ p q config e.does

module _ {C P D : Type 0} (m : Meanings C) (g : Config) (valid : IsConfig g) (pools : PoolGhosts P) (devices : DeviceGhosts D) where
  turns-claims : (ptr : Ptr) (found : Option EntryView) (old new : D) (p q : Place (Known C)) → p.own.about.config ≡ g → TurnsToPool m devices g ptr found old new p q → Claiming p q
  turns-claims ptr found old new p q config (unserved why is) = same-claims p q is
  turns-claims ptr found old new p q config (cleared bytes came c) = does-claims m g valid ptr.key _ p q config c.does

  ends-claims : (ptr : Ptr) (found : Option EntryView) (before now : Outside P D) (p q : Place (Known C)) (result : Result Read ReadFault) → p.own.about.config ≡ g → EndsMiss m pools devices g ptr found before now p q result → Claiming p q
  ends-claims ptr found before now p q result config (from_device hold is e) = does-claims m g valid ptr.key _ p q config e.does
  ends-claims ptr found before now p q result config (from_none asked e) = does-claims m g valid ptr.key _ p q config e.does
  ends-claims ptr found before now p q result config (from_pool back turns e) =
      let s = turns-claims ptr found before.device now.device p back config turns in
      then-claims p back q s (goes-claims m g valid pools ptr before.pool now.pool back q result (stays_config g p back s.stays config) e)

  answers-claims : (ptr : Ptr) (t : ℕ) (before now : Outside P D) (p q : Place (Known C)) (result : Result Read ReadFault) → p.own.about.config ≡ g → Answers m pools devices g ptr t before now p q result → Claiming p q
  answers-claims ptr t before now p q result config (hit hold is does here held unchanged) = does-claims m g valid ptr.key _ p q config does
  answers-claims ptr t before now p q result config (missed r miss missing end) =
      let s = miss-claims m g valid ptr.key t p r config miss in
      then-claims p r q s (ends-claims ptr _ before now r q result (stays_config g p r s.stays config) end)
  answers-claims ptr t before now p q result config (past kept other does here unasked end) = does-claims m g valid ptr.key _ p q config does
  answers-claims ptr t before now p q result config (no_memory is does unchanged) = does-claims m g valid ptr.key _ p q config does

  pub read-claims : (ptr : Ptr) (t : ℕ) (before now : Outside P D) (p q : Place (Known C)) (result : Result Read ReadFault) → p.own.about.config ≡ g → AnswersRead m pools devices g ptr t before now p q result → Claiming p q
  read-claims ptr t before now p q result config (refused why is first unchanged outside) = same-claims p q unchanged
  read-claims ptr t before now p q result config (answered named times r waits a) =
      let s = waits-claims m g valid ptr.key times p r config waits in
      then-claims p r q s (answers-claims ptr t before now r q result (stays_config g p r s.stays config) a)

-- ---- what it gives

-- what was read under the number n has the pointer's bytes, and a hold is listed
abbrev IsReadBy : Config → Ptr → ℕ → PartyPlace → Read → Type 0
IsReadBy g ptr n q (gave.Held hold from) = IsHoldOf ptr n hold × IsHeld g q hold
IsReadBy g ptr n q (gave.Past block kept) = IsOf block.value ptr

no-err : (got : Read) (why : ReadFault) → ◌≡◌ {A = Result Read ReadFault} (Ok got) (Err why) → ⊥
no-err got why e = cc

ok-is : (a b : Read) → ◌≡◌ {A = Result Read ReadFault} (Ok a) (Ok b) → a ≡ b
ok-is a b e = cc

module _ {P : Type 0} (g : Config) (valid : IsConfig g) (pools : PoolGhosts P) (ptr : Ptr) where
  at-pool-of : (old new : P) (p q : PartyPlace) (got : Read) → EndsAtPool dbuf_meanings pools g ptr old new p q (Ok got) → IsReadBy g ptr p.number q got
  at-pool-of old new p q (gave.Held hold served.Pool) e = e.1
  at-pool-of old new p q (gave.Held hold served.Hit) e = absurd e
  at-pool-of old new p q (gave.Held hold served.L2) e = absurd e
  at-pool-of old new p q (gave.Held hold served.Past) e = absurd e
  at-pool-of old new p q (gave.Past block kept) e = absurd e

  goes-of : (old new : P) (p q : PartyPlace) (got : Read) → GoesToPool dbuf_meanings pools g ptr old new p q (Ok got) → IsReadBy g ptr p.number q got
  goes-of old new p q got (read e) = at-pool-of old new p q got e
  goes-of old new p q got (unread e) = absurd (no-err got fault.NoMemory e.answer)

module _ {P D : Type 0} (g : Config) (valid : IsConfig g) (pools : PoolGhosts P) (devices : DeviceGhosts D) (ptr : Ptr) where
  ends-of : (found : Option EntryView) (before now : Outside P D) (p q : PartyPlace) (got : Read) → p.own.about.config ≡ g → EndsMiss dbuf_meanings pools devices g ptr found before now p q (Ok got) → IsReadBy g ptr p.number q got
  ends-of found before now p q got config (from_device hold is e) = subst (IsReadBy g ptr p.number q) (sym (ok-is got (gave.Held hold served.L2) is)) e.held
  ends-of found before now p q got config (from_none asked e) = absurd (no-err got fault.NoMemory e.answer)
  ends-of found before now p q got config (from_pool back turns e) =
      let s = turns-claims dbuf_meanings g valid pools devices ptr found before.device now.device p back config turns in
      subst (λ (n : ℕ). IsReadBy g ptr n q got) s.stays.number (goes-of g valid pools ptr before.pool now.pool back q got e)

  past-of : (kept : Digest) (old new : P) (q : PartyPlace) (n : ℕ) (got : Read) → EndsPast pools ptr kept old new (Ok got) → IsReadBy g ptr n q got
  past-of kept old new q n (gave.Past block digest) e = e.1.of
  past-of kept old new q n (gave.Held hold from) e = absurd e

  answers-of : (t : ℕ) (before now : Outside P D) (p q : PartyPlace) (got : Read) → p.own.about.config ≡ g → Answers dbuf_meanings pools devices g ptr t before now p q (Ok got) → IsReadBy g ptr p.number q got
  answers-of t before now p q got config (hit hold is does here held unchanged) = subst (IsReadBy g ptr p.number q) (sym (ok-is got (gave.Held hold served.Hit) is)) held
  answers-of t before now p q got config (missed r miss missing end) =
      let s = miss-claims dbuf_meanings g valid ptr.key t p r config miss in
      subst (λ (n : ℕ). IsReadBy g ptr n q got) s.stays.number (ends-of _ before now r q got (stays_config g p r s.stays config) end)
  answers-of t before now p q got config (past kept other does here unasked end) = past-of kept before.pool now.pool q p.number got end
  answers-of t before now p q got config (no_memory is does unchanged) = absurd (no-err got fault.NoMemory is)

  read-by : (t : ℕ) (before now : Outside P D) (p q : PartyPlace) (got : Read) → p.own.about.config ≡ g → AnswersRead dbuf_meanings pools devices g ptr t before now p q (Ok got) → IsReadBy g ptr p.number q got
  read-by t before now p q got config (refused why is first unchanged outside) = absurd (no-err got (fault.Key why) is)
  read-by t before now p q got config (answered named times r waits a) =
      let s = waits-claims dbuf_meanings g valid ptr.key times p r config waits in
      subst (λ (n : ℕ). IsReadBy g ptr n q got) s.stays.number (answers-of t before now r q got (stays_config g p r s.stays config) a)

  -- where the party holds no turn, what it read is its own
  pub read-of : (t : ℕ) (before now : Outside P D) (p q : PartyPlace) (got : Read) → p.own.about.config ≡ g → q.held ≡ [] → AnswersRead dbuf_meanings pools devices g ptr t before now p q (Ok got) → IsReadOf ptr q got
  read-of t before now p q got config free a =
      let s = read-claims dbuf_meanings g valid pools devices ptr t before now p q (Ok got) config a in
      by got (subst (λ (n : ℕ). IsReadBy g ptr n q got) (sym s.stays.number) (read-by t before now p q got config a))
    where
      listed : (n : ℕ) (x : Ptr) → IsListed g q n x → IsOneOf x q.own.ledger.holds
      listed n x (own same one) = one
      listed n x (cell j same in_range among one) = absurd (subst (IsAmong j) free among)

      by : (got : Read) → IsReadBy g ptr q.number q got → IsReadOf ptr q got
      by (gave.Held hold from) r = (r.0, listed hold.owner (ptr_of hold) r.1)
      by (gave.Past block kept) r = r
