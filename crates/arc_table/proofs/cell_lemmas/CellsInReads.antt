-- A read leaves each cell in hand as it was: its events are of the party's own number, and no cell's.
use Rattle.std.proofs.Common.{◌≡◌, ◌≢◌, if◌then◌else◌, ℕ, zero, suc, List, [], ◌∷◌, ◌++◌, Bool, Some, refl, sym, ap, ◌∙◌, subst, ne_eqb, arith}
use Rattle.std.specs.Prelude.{Option, Result, Ok, Err}
use Rattle.blk_ptr.specs.declared.digest.Digest.{Digest}
use Rattle.blk_ptr.specs.declared.key.Key.{Key}
use Rattle.blk_ptr.specs.declared.ptr.Ptr.{Ptr}
use Rattle.vdev_io.specs.declared.device.CacheDev.{Ghosts as DeviceGhosts}
use Rattle.vdev_io.specs.declared.pool.Pool.{Ghosts as PoolGhosts}
use Rattle.arc_core.specs.Config.{IsConfig}
use Rattle.arc_core.specs.declared.config.Config.{Config}
use Rattle.arc_core.specs.declared.event.Event.{Event}
use Rattle.arc_core.specs.declared.event.Event.TheVariants.{Arrive, Fail, Hit, Miss, Pass, Past}
use Rattle.arc_core.specs.declared.event.FailedAt.{FailedAt}
use Rattle.arc_core.specs.declared.event.FailedAt.TheVariants as failed
use Rattle.arc_core.specs.declared.event.Origin.{Origin}
use Rattle.arc_core.specs.declared.event.Origin.TheVariants as origin
use Rattle.arc_core.specs.declared.served.ReadFault.{ReadFault}
use Rattle.arc_core.specs.declared.served.ReadFault.TheVariants as fault
use Rattle.arc_core.specs.declared.served.Served.TheVariants as served
use Rattle.arc_core.specs.declared.shard.EntryView.{EntryView}
use Rattle.arc_core.specs.PlainShard.{PlainShard}
use Rattle.arc_core.specs.Step.{after}
use Rattle.turn_table.specs.Board.{IsAmong}
use Rattle.turn_table.specs.Places.{Place}
use Rattle.arc_table.specs.declared.read.Read.{Read}
use Rattle.arc_table.specs.declared.read.Read.TheVariants as gave
use Rattle.arc_table.specs.declared.view.Known.{Known}
use Rattle.arc_table.specs.Booking.{digest_at, with_hold}
use Rattle.arc_table.specs.Both.{Does}
use Rattle.arc_table.specs.Cells.{KeepsCell, SameCell}
use Rattle.arc_table.specs.scans.Ending.{DoesRoomy}
use Rattle.arc_table.specs.Fronts.{list_at}
use Rattle.arc_table.specs.Geometry.{IsCell, cell_number}
use Rattle.arc_table.specs.Items.{Meanings}
use Rattle.arc_table.specs.Reading.{Answers, AnswersRead, EndsAtPool, EndsMiss, GoesToPool, Outside, TurnsToPool, Waits, answered, cleared, from_device, from_none, from_pool, hit, missed, no_memory, past, read, refused, unread, unserved}
use Rattle.arc_table.specs.scans.Scanning.{ArePasses}
use Rattle.arc_table.specs.ShardGiving.{holds_through}
use Rattle.arc_table.proofs.reads.AfterRead.{stays_config}
use Rattle.arc_table.proofs.Afterwards.{Stays, does_stays, stays_then}
use Rattle.arc_table.proofs.cell_lemmas.CellsInHand.{cell-kept, cell-kept-roomy}
use Rattle.arc_table.proofs.Reached.{number_below, reached}
use Rattle.arc_table.proofs.scans.RoomyAfter.{does_roomy_stays}

-- ---- one call behind another

module _ {C : Type 0} (g : Config) (j : ℕ) where
  -- the party is what it was to the cache, and so is the cell in its hand
  record Leaves (p q : Place (Known C)) : Type 0 where
    pub stays : Stays p q
    pub cell : SameCell j p q

  leaves-same : (p q : Place (Known C)) → q ≡ p → Leaves p q
  leaves-same p q e = subst (Leaves p) (sym e) record {
    stays = record { table = refl; parties = refl; number = refl; joined = refl; held = refl; about = refl };
    cell = record { recorded = refl; listed = refl; seen = refl; claims = refl };
  }

  leaves-then : (p q r : Place (Known C)) → Leaves p q → Leaves q r → Leaves p r
  leaves-then p q r a b = record {
    stays = stays_then p q r a.stays b.stays;
    cell = record {
      recorded = b.cell.recorded ∙ a.cell.recorded;
      listed = b.cell.listed ∙ a.cell.listed;
      seen = b.cell.seen ∙ a.cell.seen;
      claims = b.cell.claims ∙ a.cell.claims;
    };
  }

  kept-same : (s : PlainShard) (es : List Event) (p q : Place (Known C)) → KeepsCell g j s es p q → holds_through (cell_number g j) s es (list_at j p.own.listed) ≡ list_at j p.own.listed → SameCell j p q
  kept-same s es p q k same = record { recorded = k.recorded; listed = k.listed ∙ same; seen = k.seen; claims = k.claims }

module _ {C : Type 0} (m : Meanings C) (g : Config) (valid : IsConfig g) (j : ℕ) (in_range : IsCell g j) where
  -- events that leave what a cell holds
  abbrev Untouched : (n : ℕ) → List Event → Type 0
  Untouched n es = (s : PlainShard) (hs : List Ptr) → cell_number g j ≢ n → holds_through (cell_number g j) s es hs ≡ hs

  does-leaves : (k : Key) (es : List Event) (p q : Place (Known C)) → p.own.about.config ≡ g → IsAmong j p.held → Untouched p.number es → Does m g k es p q → Leaves g j p q
  does-leaves k es p q config among untouched d =
      let apart : cell_number g j ≢ p.number = λ is.
      let few = number_below m g k d.chain d.before p d.reached d.takes config valid in
      let number = (reached m g k d.chain d.before p d.reached d.takes).number in absurd (omega arith) in
      record {
        stays = does_stays m g valid k es p q config d;
        cell = kept-same g j d.before.now es p q (cell-kept m g valid k es p q config d j in_range among) (untouched d.before.now (list_at j p.own.listed) apart);
      }

  none-untouched : (n : ℕ) → Untouched n []
  none-untouched n s hs apart = refl

  hit-untouched : (n t : ℕ) (k : Key) → Untouched n (Hit n k t ∷ [])
  hit-untouched n t k s hs apart = ap (λ (b : Bool). if b then with_hold k (digest_at k s) hs else hs) (ne_eqb (cell_number g j) n apart)

  arrive-untouched : (n : ℕ) (k : Key) (d : Digest) (from : Origin) → Untouched n (Arrive n k d from ∷ [])
  arrive-untouched n k d from s hs apart = ap (λ (b : Bool). if b then with_hold k (Some d) hs else hs) (ne_eqb (cell_number g j) n apart)

  fail-untouched : (n : ℕ) (k : Key) (at : FailedAt) → Untouched n (Fail n k at ∷ [])
  fail-untouched n k at s hs apart = refl

  past-untouched : (n : ℕ) (k : Key) (kept : Digest) → Untouched n (Past n k kept ∷ [])
  past-untouched n k kept s hs apart = refl

  -- passes, and then a miss
  miss-untouched : (n t turn : ℕ) (k : Key) (passes : List Event) (s : PlainShard) (hs : List Ptr) → ArePasses g n turn passes → holds_through (cell_number g j) s (passes ++ Miss n k t ∷ []) hs ≡ hs
  miss-untouched n t turn k [] s hs all = refl
  miss-untouched n t turn k (Pass a x owner ∷ es) s hs all = miss-untouched n t turn k es (after s (Pass a x owner)) hs all.1
  miss-untouched n t turn k (_ ∷ es) s hs all = absurd all

  miss-leaves : (k : Key) (t : ℕ) (p q : Place (Known C)) → p.own.about.config ≡ g → IsAmong j p.held → DoesRoomy m g k (Miss p.number k t) p q → Leaves g j p q
  miss-leaves k t p q config among d = record {
    stays = does_roomy_stays m g valid k (Miss p.number k t) p q config d;
    cell = kept-same g j d.before.now (d.makes.passes ++ Miss p.number k t ∷ []) p q (cell-kept-roomy m g valid k (Miss p.number k t) p q config d j in_range among)
        (miss-untouched p.number t _ k d.makes.passes d.before.now (list_at j p.own.listed) (subst (λ (n : ℕ). ArePasses g n _ d.makes.passes) (reached m g k d.chain d.before p d.reached d.takes).number d.makes.own));
  }

  waits-leaves : (k : Key) (times : ℕ) (p q : Place (Known C)) → p.own.about.config ≡ g → IsAmong j p.held → Waits m g k times p q → Leaves g j p q
  waits-leaves k zero p q config among w = leaves-same g j p q w
  waits-leaves k (suc times) p q config among w =
      let s = waits-leaves k times p w.0 config among w.1 in
      leaves-then g j p w.0 q s (does-leaves k [] w.0 q (stays_config g p w.0 s.stays config) (subst (IsAmong j) (sym s.stays.held) among) (none-untouched w.0.number) w.2.does)

-- ---- a read

module _ {C P : Type 0} (m : Meanings C) (g : Config) (valid : IsConfig g) (j : ℕ) (in_range : IsCell g j) (pools : PoolGhosts P) where
  at-pool-leaves : (ptr : Ptr) (old new : P) (p q : Place (Known C)) (result : Result Read ReadFault) → p.own.about.config ≡ g → IsAmong j p.held → EndsAtPool m pools g ptr old new p q result → Leaves g j p q
  at-pool-leaves ptr old new p q (Ok (gave.Held hold served.Pool)) config among e = does-leaves m g valid j in_range ptr.key _ p q config among (arrive-untouched m g valid j in_range p.number ptr.key ptr.digest origin.Pool) e.0
  at-pool-leaves ptr old new p q (Ok (gave.Held hold served.Hit)) config among e = absurd e
  at-pool-leaves ptr old new p q (Ok (gave.Held hold served.L2)) config among e = absurd e
  at-pool-leaves ptr old new p q (Ok (gave.Held hold served.Past)) config among e = absurd e
  at-pool-leaves ptr old new p q (Ok (gave.Past block kept)) config among e = absurd e
  at-pool-leaves ptr old new p q (Err (fault.PoolFault)) config among e = does-leaves m g valid j in_range ptr.key _ p q config among (fail-untouched m g valid j in_range p.number ptr.key failed.Pool) e.0
  at-pool-leaves ptr old new p q (Err (fault.Mismatch digest)) config among e = does-leaves m g valid j in_range ptr.key _ p q config among (fail-untouched m g valid j in_range p.number ptr.key failed.Pool) e.0
  at-pool-leaves ptr old new p q (Err (fault.Key why)) config among e = absurd e
  at-pool-leaves ptr old new p q (Err (fault.NoMemory)) config among e = does-leaves m g valid j in_range ptr.key _ p q config among (fail-untouched m g valid j in_range p.number ptr.key failed.Pool) e.0

  goes-leaves : (ptr : Ptr) (old new : P) (p q : Place (Known C)) (result : Result Read ReadFault) → p.own.about.config ≡ g → IsAmong j p.held → GoesToPool m pools g ptr old new p q result → Leaves g j p q
  goes-leaves ptr old new p q result config among (read e) = at-pool-leaves ptr old new p q result config among e
  goes-leaves ptr old new p q result config among (unread e) = does-leaves m g valid j in_range ptr.key _ p q config among (fail-untouched m g valid j in_range p.number ptr.key failed.Unread) e.does

module _ {C P D : Type 0} (m : Meanings C) (g : Config) (valid : IsConfig g) (j : ℕ) (in_range : IsCell g j) (pools : PoolGhosts P) (devices : DeviceGhosts D) where
  turns-leaves : (ptr : Ptr) (found : Option EntryView) (old new : D) (p q : Place (Known C)) → p.own.about.config ≡ g → IsAmong j p.held → TurnsToPool m devices g ptr found old new p q → Leaves g j p q
  turns-leaves ptr found old new p q config among (unserved why is) = leaves-same g j p q is
  turns-leaves ptr found old new p q config among (cleared bytes came c) = does-leaves m g valid j in_range ptr.key _ p q config among (none-untouched m g valid j in_range p.number) c.does

  ends-leaves : (ptr : Ptr) (found : Option EntryView) (before now : Outside P D) (p q : Place (Known C)) (result : Result Read ReadFault) → p.own.about.config ≡ g → IsAmong j p.held → EndsMiss m pools devices g ptr found before now p q result → Leaves g j p q
  ends-leaves ptr found before now p q result config among (from_device hold is e) = does-leaves m g valid j in_range ptr.key _ p q config among (arrive-untouched m g valid j in_range p.number ptr.key ptr.digest origin.L2) e.does
  ends-leaves ptr found before now p q result config among (from_none asked e) = does-leaves m g valid j in_range ptr.key _ p q config among (fail-untouched m g valid j in_range p.number ptr.key failed.Unread) e.does
  ends-leaves ptr found before now p q result config among (from_pool back turns e) =
      let s = turns-leaves ptr found before.device now.device p back config among turns in
      leaves-then g j p back q s (goes-leaves m g valid j in_range pools ptr before.pool now.pool back q result (stays_config g p back s.stays config) (subst (IsAmong j) (sym s.stays.held) among) e)

  answers-leaves : (ptr : Ptr) (t : ℕ) (before now : Outside P D) (p q : Place (Known C)) (result : Result Read ReadFault) → p.own.about.config ≡ g → IsAmong j p.held → Answers m pools devices g ptr t before now p q result → Leaves g j p q
  answers-leaves ptr t before now p q result config among (hit hold is does here held unchanged) = does-leaves m g valid j in_range ptr.key _ p q config among (hit-untouched m g valid j in_range p.number t ptr.key) does
  answers-leaves ptr t before now p q result config among (missed r miss missing end) =
      let s = miss-leaves m g valid j in_range ptr.key t p r config among miss in
      leaves-then g j p r q s (ends-leaves ptr _ before now r q result (stays_config g p r s.stays config) (subst (IsAmong j) (sym s.stays.held) among) end)
  answers-leaves ptr t before now p q result config among (past kept other does here unasked end) = does-leaves m g valid j in_range ptr.key _ p q config among (past-untouched m g valid j in_range p.number ptr.key kept) does
  answers-leaves ptr t before now p q result config among (no_memory is does unchanged) = does-leaves m g valid j in_range ptr.key _ p q config among (none-untouched m g valid j in_range p.number) does

  pub read-keeps-cell : (ptr : Ptr) (t : ℕ) (before now : Outside P D) (p q : Place (Known C)) (result : Result Read ReadFault) → p.own.about.config ≡ g → IsAmong j p.held → AnswersRead m pools devices g ptr t before now p q result → SameCell j p q
  read-keeps-cell ptr t before now p q result config among (refused why is first unchanged outside) = (leaves-same g j p q unchanged).cell
  read-keeps-cell ptr t before now p q result config among (answered named times r waits a) =
      let s = waits-leaves m g valid j in_range ptr.key times p r config among waits in
      (leaves-then g j p r q s (answers-leaves ptr t before now r q result (stays_config g p r s.stays config) (subst (IsAmong j) (sym s.stays.held) among) a)).cell
