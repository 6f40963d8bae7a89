-- Events of shards leave what a party has seen of cells, and what it made there.
use Rattle.std.proofs.Common.{◌≡◌, ◌≢◌, ℕ, zero, suc, List, [], ◌∷◌, ◌++◌, length, map, refl, sym, ap, ◌∙◌, subst, inl, inr}
use Rattle.std.specs.Prelude.{Option, Result, Ok, Err}
use mathlib.Core.Option.{some}
use lib.ListN.{get_elem?}
use Rattle.blk_ptr.specs.declared.key.Key.{Key}
use Rattle.blk_ptr.specs.declared.ptr.Ptr.{Ptr}
use Rattle.vdev_io.specs.declared.device.CacheDev.{Ghosts as DeviceGhosts}
use Rattle.vdev_io.specs.declared.pool.Pool.{Ghosts as PoolGhosts}
use Rattle.arc_core.specs.Config.{IsConfig}
use Rattle.arc_core.specs.declared.config.Config.{Config}
use Rattle.arc_core.specs.declared.event.Event.{Event}
use Rattle.arc_core.specs.declared.served.ReadFault.{ReadFault}
use Rattle.arc_core.specs.declared.served.ReadFault.TheVariants as fault
use Rattle.arc_core.specs.declared.served.Served.TheVariants as served
use Rattle.arc_core.specs.declared.shard.EntryView.{EntryView}
use Rattle.turn_table.specs.declared.standing.Kept.{Kept}
use Rattle.hash_chain.specs.Chain.{Chain}
use Rattle.turn_table.specs.Places.{Place, gave_back}
use Rattle.arc_table.specs.declared.item.Item.TheVariants as item
use Rattle.arc_table.specs.declared.read.Read.{Read}
use Rattle.arc_table.specs.declared.read.Read.TheVariants as gave
use Rattle.arc_table.specs.declared.view.Known.{Known}
use Rattle.arc_table.specs.declared.view.Line.{Line}
use Rattle.arc_table.specs.declared.view.Line.TheVariants as line
use Rattle.arc_table.specs.declared.view.Mine.{Mine}
use Rattle.arc_table.specs.Both.{Does}
use Rattle.arc_table.specs.scans.Ending.{DoesRoomy}
use Rattle.arc_table.specs.Fronts.{StartsWith, front_of}
use Rattle.arc_table.specs.Geometry.{IsCell, bucket_turn, shard_turn}
use Rattle.arc_table.specs.Items.{Meanings}
use Rattle.arc_table.specs.Reading.{Answers, AnswersRead, EndsAtPool, EndsMiss, GoesToPool, Outside, TurnsToPool, Waits, answered, cleared, from_device, from_none, from_pool, hit, missed, no_memory, past, read, refused, unread, unserved}
use Rattle.arc_table.specs.Seen.{AllEntriesSeen, AreEntriesSeen, HasSeenItsEntries, IsEntrySeen}
use Rattle.arc_table.specs.scans.Scanning.{AllPairs, after_scan, gave_all, won_all}
use Rattle.arc_table.specs.ShardGiving.{after_shard, mines_of}
use Rattle.arc_table.specs.TableLaws.{get_front, starts_whole}
use Rattle.arc_table.proofs.TableLaws.{front_else}
use Rattle.arc_table.specs.Views.{after_same, after_won}
use Rattle.arc_table.proofs.reads.AfterRead.{stays_config}
use Rattle.arc_table.proofs.Afterwards.{Stays, does_mine, does_stays, stays_then}
use Rattle.arc_table.proofs.cell_lemmas.CellsInHand.{cell-front, cell-no-bucket, cell-no-shard}
use Rattle.arc_table.proofs.OwnLemmas.{get-either}
use Rattle.arc_table.proofs.PassMines.{mines_of_are}
use Rattle.arc_table.proofs.Reached.{reached}
use Rattle.arc_table.proofs.scans.RoomyGives.{cell_far}
use Rattle.arc_table.proofs.scans.RoomyAfter.{does_roomy_mine, does_roomy_stays}
use Rattle.trace_run.specs.Deeds.{CellsGrow}

-- ---- entries that are seen

-- entries that were seen are seen in what has the same of each cell
pub entries-as : (g : Config) (n : ℕ) (mines : List Mine) (s t : List (List Line)) → ((i : ℕ) → IsCell g i → front_of i t ≡ front_of i s) → AreEntriesSeen g n mines s → AreEntriesSeen g n mines t
entries-as g n mines s t same seen i j a in_range at is = subst (λ (l : List Line). IsEntrySeen n l a.place) (sym (same i in_range)) (seen i j a in_range at is)

pub all-entries-as : {C : Type 0} (g : Config) (ks : List (Kept (Known C))) (s t : List (List Line)) → ((i : ℕ) → IsCell g i → front_of i t ≡ front_of i s) → AllEntriesSeen g ks s → AllEntriesSeen g ks t
all-entries-as g [] s t same all = tt
all-entries-as g (k ∷ ks) s t same all = (entries-as g k.number k.view.mine s t same all.0, all-entries-as g ks s t same all.1)

-- so they are in what has more of each cell
pub entries-more : (g : Config) (n : ℕ) (mines : List Mine) (s t : List (List Line)) → CellsGrow g s t → AreEntriesSeen g n mines s → AreEntriesSeen g n mines t
entries-more g n mines s t grows seen i j a in_range at is =
    let h = seen i j a in_range at is in
    let r = grows i in_range in
    record { rest = h.rest; there = ap (λ (l : List Line). get_elem? l a.place) r.1 ∙ get_front (front_of i s) r.0 a.place (line.Entry (n ∷ h.rest)) h.there }

pub all-entries-more : {C : Type 0} (g : Config) (ks : List (Kept (Known C))) (s t : List (List Line)) → CellsGrow g s t → AllEntriesSeen g ks s → AllEntriesSeen g ks t
all-entries-more g [] s t grows all = tt
all-entries-more g (k ∷ ks) s t grows all = (entries-more g k.number k.view.mine s t grows all.0, all-entries-more g ks s t grows all.1)

-- ---- events behind a scan

module _ {C : Type 0} where
  gave-seen : (vs : List (ℕ × Chain)) (z : Place (Known C)) → (gave_all vs z).own.seen ≡ z.own.seen
  gave-seen [] z = refl
  gave-seen (v ∷ vs) z = gave-seen vs (gave_back z v.0 (after_same v.0 z.own))

module _ {C : Type 0} (m : Meanings C) where
  won-front : (vs : List (ℕ × Chain)) (w : Known C) (j : ℕ) → AllPairs (λ x b. j ≢ x) vs → front_of j (won_all m vs w).seen ≡ front_of j w.seen
  won-front [] w j far = refl
  won-front (v ∷ vs) w j far = won-front vs (after_won m v.0 (item.Bucket v.1) w) j far.1 ∙ front_else v.0 j [] w.seen far.0

  roomy-front : (g : Config) → IsConfig g → (k : Key) (e : Event) (p r : Place (Known C)) → (d : DoesRoomy m g k e p r) → (j : ℕ) → IsCell g j → front_of j r.own.seen ≡ front_of j p.own.seen
  roomy-front g valid k e p r d j in_range =
      let turn : ℕ = shard_turn g k in
      let es : List Event = d.makes.passes ++ e ∷ [] in
      let given : List (ℕ × Chain) = d.makes.gives.given in
      let scanned : Place (Known C) = after_scan m g turn (length d.before.history) d.makes.won d.makes.passes d.reached in
      let shard_given : Place (Known C) = gave_back scanned turn (after_shard m given turn d.before es d.makes.after scanned.own) in
      let no_shard = cell-no-shard g valid k j in_range in
      let no_bucket = cell-no-bucket g valid k j in_range in
      ap (λ (x : Place (Known C)). front_of j x.own.seen) d.makes.gives.gave
      ∙ (ap (front_of j) (gave-seen given shard_given)
      ∙ (front_else turn j (map line.Event d.makes.after.history) scanned.own.seen no_shard
      ∙ (won-front d.makes.won d.reached.own j (cell_far g j d.makes.won in_range d.makes.buckets)
      ∙ (ap (front_of j) (reached m g k d.chain d.before p d.reached d.takes).seen
      ∙ (front_else turn j (map line.Event d.before.history) _ no_shard ∙ front_else (bucket_turn g k) j [] p.own.seen no_bucket)))))

-- ---- what is left as it was

module _ {C : Type 0} (g : Config) where
  -- the party has seen of cells what it had, and made no entry more
  pub record LeavesCells (p q : Place (Known C)) : Type 0 where
    pub stays : Stays p q
    pub fronts : (i : ℕ) → IsCell g i → front_of i q.own.seen ≡ front_of i p.own.seen
    pub mine : (j : ℕ) (a : Mine) → IsCell g a.turn → get_elem? q.own.mine j ≡ some a → get_elem? p.own.mine j ≡ some a

  pub leaves-same : (p q : Place (Known C)) → q ≡ p → LeavesCells p q
  leaves-same p q e = subst (LeavesCells p) (sym e) record {
    stays = record { table = refl; parties = refl; number = refl; joined = refl; held = refl; about = refl };
    fronts = λ i in_range. refl;
    mine = λ j a in_range at. at;
  }

  pub leaves-then : (p q r : Place (Known C)) → LeavesCells p q → LeavesCells q r → LeavesCells p r
  leaves-then p q r a b = record {
    stays = stays_then p q r a.stays b.stays;
    fronts = λ i in_range. b.fronts i in_range ∙ a.fronts i in_range;
    mine = λ j x in_range at. a.mine j x in_range (b.mine j x in_range at);
  }

  pub leaves-grow : (p q : Place (Known C)) → LeavesCells p q → CellsGrow g p.own.seen q.own.seen
  leaves-grow p q l i in_range = subst (λ (x : List Line). StartsWith x (front_of i p.own.seen)) (sym (l.fronts i in_range)) (starts_whole (front_of i p.own.seen))

  pub leaves-seen : (p q : Place (Known C)) → LeavesCells p q → HasSeenItsEntries g p → HasSeenItsEntries g q
  leaves-seen p q l seen = record {
    own = λ i j a in_range at is.
        subst (λ (x : ℕ × List Line). IsEntrySeen x.0 x.1 a.place) (λ z. (sym l.stays.number z, sym (l.fronts i in_range) z))
        (seen.own i j a in_range (l.mine j a (subst (IsCell g) (sym is) in_range) at) is);
    joined = subst (λ (ks : List (Kept (Known C))). AllEntriesSeen g ks q.own.seen) (sym l.stays.joined) (all-entries-as g p.joined p.own.seen q.own.seen l.fronts seen.joined);
  }

-- lines of a shard are no cell's
no-cell : (g : Config) → IsConfig g → (k : Key) (place note : ℕ) (es : List Event) (mines news : List Mine) → news ≡ mines ++ mines_of (shard_turn g k) place note es
    → (j : ℕ) (a : Mine) → IsCell g a.turn → get_elem? news j ≡ some a → get_elem? mines j ≡ some a
no-cell g valid k place note es mines news is j a in_range at =
    elim (get-either mines (mines_of (shard_turn g k) place note es) j a (subst (λ (l : List Mine). get_elem? l j ≡ some a) is at)) [
      | inl old ↦ old
      | inr new ↦ absurd (cell-no-shard g valid k a.turn in_range ((mines_of_are (shard_turn g k) place note es).each new.0 a new.1).0)
    ]

module _ {C : Type 0} (m : Meanings C) (g : Config) (valid : IsConfig g) where
  pub does-leaves : (k : Key) (es : List Event) (p q : Place (Known C)) → p.own.about.config ≡ g → Does m g k es p q → LeavesCells g p q
  does-leaves k es p q config d = record {
    stays = does_stays m g valid k es p q config d;
    fronts = λ i in_range. cell-front m g valid k es p q config d i in_range;
    mine = no-cell g valid k _ _ es p.own.mine q.own.mine (does_mine m g valid k es p q d);
  }

  pub roomy-leaves : (k : Key) (e : Event) (p q : Place (Known C)) → p.own.about.config ≡ g → DoesRoomy m g k e p q → LeavesCells g p q
  roomy-leaves k e p q config d = record {
    stays = does_roomy_stays m g valid k e p q config d;
    fronts = λ i in_range. roomy-front m g valid k e p q d i in_range;
    mine = no-cell g valid k _ _ _ p.own.mine q.own.mine (does_roomy_mine m g valid k e p q config d);
  }

  waits-leaves : (k : Key) (times : ℕ) (p q : Place (Known C)) → p.own.about.config ≡ g → Waits m g k times p q → LeavesCells g p q
  waits-leaves k zero p q config w = leaves-same g p q w
  waits-leaves k (suc times) p q config w =
      let s = waits-leaves k times p w.0 config w.1 in
      leaves-then g p w.0 q s (does-leaves k [] w.0 q (stays_config g p w.0 s.stays config) w.2.does)

-- ---- a read

module _ {C P : Type 0} (m : Meanings C) (g : Config) (valid : IsConfig g) (pools : PoolGhosts P) where
  at-pool-leaves : (ptr : Ptr) (old new : P) (p q : Place (Known C)) (result : Result Read ReadFault) → p.own.about.config ≡ g → EndsAtPool m pools g ptr old new p q result → LeavesCells g p q
  at-pool-leaves ptr old new p q (Ok (gave.Held hold served.Pool)) config e = does-leaves m g valid ptr.key _ p q config e.0
  at-pool-leaves ptr old new p q (Ok (gave.Held hold served.Hit)) config e = absurd e
  at-pool-leaves ptr old new p q (Ok (gave.Held hold served.L2)) config e = absurd e
  at-pool-leaves ptr old new p q (Ok (gave.Held hold served.Past)) config e = absurd e
  at-pool-leaves ptr old new p q (Ok (gave.Past block kept)) config e = absurd e
  at-pool-leaves ptr old new p q (Err (fault.PoolFault)) config e = does-leaves m g valid ptr.key _ p q config e.0
  at-pool-leaves ptr old new p q (Err (fault.Mismatch digest)) config e = does-leaves m g valid ptr.key _ p q config e.0
  at-pool-leaves ptr old new p q (Err (fault.Key why)) config e = absurd e
  at-pool-leaves ptr old new p q (Err (fault.NoMemory)) config e = does-leaves m g valid ptr.key _ p q config e.0

  goes-leaves : (ptr : Ptr) (old new : P) (p q : Place (Known C)) (result : Result Read ReadFault) → p.own.about.config ≡ g → GoesToPool m pools g ptr old new p q result → LeavesCells g p q
  goes-leaves ptr old new p q result config (read e) = at-pool-leaves ptr old new p q result config e
  goes-leaves ptr old new p q result config (unread e) = does-leaves m g valid ptr.key _ p q config e.does

module _ {C P D : Type 0} (m : Meanings C) (g : Config) (valid : IsConfig g) (pools : PoolGhosts P) (devices : DeviceGhosts D) where
  turns-leaves : (ptr : Ptr) (found : Option EntryView) (old new : D) (p q : Place (Known C)) → p.own.about.config ≡ g → TurnsToPool m devices g ptr found old new p q → LeavesCells g p q
  turns-leaves ptr found old new p q config (unserved why is) = leaves-same g p q is
  turns-leaves ptr found old new p q config (cleared bytes came c) = does-leaves m g valid ptr.key _ p q config c.does

  ends-leaves : (ptr : Ptr) (found : Option EntryView) (before now : Outside P D) (p q : Place (Known C)) (result : Result Read ReadFault) → p.own.about.config ≡ g → EndsMiss m pools devices g ptr found before now p q result → LeavesCells g p q
  ends-leaves ptr found before now p q result config (from_device hold is e) = does-leaves m g valid ptr.key _ p q config e.does
  ends-leaves ptr found before now p q result config (from_none asked e) = does-leaves m g valid ptr.key _ p q config e.does
  ends-leaves ptr found before now p q result config (from_pool back turns e) =
      let s = turns-leaves ptr found before.device now.device p back config turns in
      leaves-then g p back q s (goes-leaves m g valid pools ptr before.pool now.pool back q result (stays_config g p back s.stays config) e)

  answers-leaves : (ptr : Ptr) (t : ℕ) (before now : Outside P D) (p q : Place (Known C)) (result : Result Read ReadFault) → p.own.about.config ≡ g → Answers m pools devices g ptr t before now p q result → LeavesCells g p q
  answers-leaves ptr t before now p q result config (hit hold is does here held unchanged) = does-leaves m g valid ptr.key _ p q config does
  answers-leaves ptr t before now p q result config (missed r miss missing end) =
      let s = roomy-leaves m g valid ptr.key _ p r config miss in
      leaves-then g p r q s (ends-leaves ptr _ before now r q result (stays_config g p r s.stays config) end)
  answers-leaves ptr t before now p q result config (past kept other does here unasked end) = does-leaves m g valid ptr.key _ p q config does
  answers-leaves ptr t before now p q result config (no_memory is does unchanged) = does-leaves m g valid ptr.key _ p q config does

  pub read-leaves : (ptr : Ptr) (t : ℕ) (before now : Outside P D) (p q : Place (Known C)) (result : Result Read ReadFault) → p.own.about.config ≡ g → AnswersRead m pools devices g ptr t before now p q result → LeavesCells g p q
  read-leaves ptr t before now p q result config (refused why is first unchanged outside) = leaves-same g p q unchanged
  read-leaves ptr t before now p q result config (answered named times r waits a) =
      let s = waits-leaves m g valid ptr.key times p r config waits in
      leaves-then g p r q s (answers-leaves ptr t before now r q result (stays_config g p r s.stays config) a)
