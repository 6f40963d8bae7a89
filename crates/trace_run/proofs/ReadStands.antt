-- What a party lists once a read is over: the hold that it gave, besides what it listed; so its caller stands with that read besides what it kept.
use Rattle.std.proofs.Common.{◌≡◌, ◌≢◌, ℕ, zero, suc, true, List, [], ◌∷◌, ◌++◌, Option, Some, None, Result, Ok, Err, refl, sym, ap, ◌∙◌, subst, eq-eqb}
use Rattle.std.specs.Prelude.{IsTrue, ◌&&◌, false}
use Rattle.std.specs.Option.{option_map_or, option_and_then}
use Rattle.std.proofs.lemmas.Bool.{false≢true}
use Rattle.blk_ptr.specs.declared.digest.Digest.{Digest}
use Rattle.blk_ptr.specs.declared.key.Key.{Key}
use Rattle.blk_ptr.specs.declared.ptr.Ptr.{Ptr}
use Rattle.blk_ptr.specs.Order.{digest_eq}
use Rattle.blk_ptr.proofs.Keys.{key_eq-same}
use Rattle.arc_lists.proofs.Standing.{and_right}
use Rattle.vdev_io.specs.declared.device.CacheDev.{Ghosts as DeviceGhosts}
use Rattle.vdev_io.specs.declared.pool.Pool.{Ghosts as PoolGhosts}
use Rattle.arc_core.specs.Config.{IsConfig}
use Rattle.arc_core.specs.declared.config.Config.{Config}
use Rattle.arc_core.specs.declared.entry.Entry.{Entry}
use Rattle.arc_core.specs.declared.event.Event.{Event}
use Rattle.arc_core.specs.declared.event.Event.TheVariants.{Pass, Hit, Miss, Arrive, Fail, Past}
use Rattle.arc_core.specs.declared.event.FailedAt.{FailedAt}
use Rattle.arc_core.specs.declared.event.FailedAt.TheVariants as failed
use Rattle.arc_core.specs.declared.event.Origin.{Origin}
use Rattle.arc_core.specs.declared.event.Origin.TheVariants as origin
use Rattle.arc_core.specs.declared.served.ReadFault.{ReadFault}
use Rattle.arc_core.specs.declared.served.ReadFault.TheVariants as fault
use Rattle.arc_core.specs.declared.served.Served.TheVariants as served
use Rattle.arc_core.specs.declared.shard.EntryView.{EntryView}
use Rattle.arc_core.specs.PlainShard.{PlainShard, entry_of, is_resident, keeps_digest}
use Rattle.arc_core.specs.Step.{after}
use Rattle.turn_table.specs.Places.{Place}
use Rattle.arc_table.specs.declared.read.Read.{Read}
use Rattle.arc_table.specs.declared.read.Read.TheVariants as gave
use Rattle.arc_table.specs.declared.view.Known.{Known}
use Rattle.arc_table.specs.declared.view.Ledger.{Ledger}
use Rattle.arc_table.specs.Booking.{digest_at, without_reading}
use Rattle.arc_table.specs.Both.{Does}
use Rattle.arc_table.specs.scans.Ending.{DoesRoomy}
use Rattle.arc_table.specs.Geometry.{shard_turn}
use Rattle.arc_table.specs.Holding.{IsHoldOf}
use Rattle.arc_table.specs.Items.{Meanings}
use Rattle.arc_table.specs.Reading.{Answers, AnswersRead, EndsAtPool, EndsMiss, EndsPast, GoesToPool, Outside, TurnsToPool, Waits, answered, cleared, from_device, from_none, from_pool, hit, missed, no_memory, past, read, refused, unread, unserved}
use Rattle.arc_table.specs.scans.Scanning.{ArePasses}
use Rattle.arc_table.specs.ShardGiving.{holds_through}
use Rattle.arc_table.specs.pact.Standing.{IsCachedWith}
use Rattle.arc_table.proofs.reads.AfterRead.{stays_config, turns_stays, waits_stays}
use Rattle.arc_table.proofs.Afterwards.{does_ledger}
use Rattle.arc_table.proofs.Reached.{reached}
use Rattle.arc_table.proofs.scans.RoomyAfter.{does_roomy_ledger, does_roomy_stays, missed_readings}
use Rattle.trace_run.proofs.CacheLemmas.{digest_eq-is}

-- a party lists these holds more, and reads and claims what it did
pub record Lists {C : Type 0} (new : List Ptr) (p q : Place (Known C)) : Type 0 where
  pub holds : q.own.ledger.holds ≡ new ++ p.own.ledger.holds
  pub readings : q.own.ledger.readings ≡ p.own.ledger.readings
  pub claims : q.own.ledger.claims ≡ p.own.ledger.claims

-- the digest of bytes that are cached with it
cached-digest : (ptr : Ptr) (s : PlainShard) → IsCachedWith ptr s → digest_at ptr.key s ≡ Some ptr.digest
cached-digest ptr s cached = go (entry_of ptr.key s) cached
  where
    kept : (o : Option Digest) → option_map_or (λ kept. digest_eq kept ptr.digest) o false ≡ true → o ≡ Some ptr.digest
    kept None is = absurd (false≢true is)
    kept (Some x) is = ap (λ (d : Digest). Some d) (digest_eq-is x ptr.digest is)

    go : (o : Option Entry) → IsTrue (option_map_or (λ e. is_resident e && keeps_digest ptr.digest e) o false) → option_and_then (λ e. e.digest) o ≡ Some ptr.digest
    go None is = absurd (false≢true is)
    go (Some e) is = kept e.digest (and_right (is_resident e) (keeps_digest ptr.digest e) is)

-- a scan and its miss give no hold
holds-then : (g : Config) (n i t : ℕ) (k : Key) (s : PlainShard) (es : List Event) (hs : List Ptr) → ArePasses g n i es → holds_through n s (es ++ Miss n k t ∷ []) hs ≡ hs
holds-then g n i t k s [] hs all = refl
holds-then g n i t k s (Pass a x owner ∷ es) hs all = holds-then g n i t k (after s (Pass a x owner)) es hs all.1
holds-then g n i t k s (_ ∷ es) hs all = absurd all

without-first : (k : Key) (ks : List Key) → without_reading k (k ∷ ks) ≡ ks
without-first k ks = rw (key_eq-same k) refl

module _ {C : Type 0} (m : Meanings C) (g : Config) (valid : IsConfig g) where
  lists-same : (p q : Place (Known C)) → q ≡ p → Lists [] p q
  lists-same p q is = record { holds = ap (λ (x : Place (Known C)). x.own.ledger.holds) is; readings = ap (λ (x : Place (Known C)). x.own.ledger.readings) is; claims = ap (λ (x : Place (Known C)). x.own.ledger.claims) is }

  lists-then : (new : List Ptr) (p r q : Place (Known C)) → Lists [] p r → Lists new r q → Lists new p q
  lists-then new p r q a b = record { holds = b.holds ∙ ap (λ (l : List Ptr). new ++ l) a.holds; readings = b.readings ∙ a.readings; claims = b.claims ∙ a.claims }

  lists-none : (k : Key) (p q : Place (Known C)) → p.own.about.config ≡ g → Does m g k [] p q → Lists [] p q
  lists-none k p q config d =
      let l = does_ledger m g valid k [] p q config d in
      record { holds = ap (λ (x : Ledger). x.holds) l; readings = ap (λ (x : Ledger). x.readings) l; claims = ap (λ (x : Ledger). x.claims) l }

  lists-hit : (ptr : Ptr) (t : ℕ) (p q : Place (Known C)) → p.own.about.config ≡ g → (d : Does m g ptr.key (Hit p.number ptr.key t ∷ []) p q) → IsCachedWith ptr d.before.now → Lists (ptr ∷ []) p q
  lists-hit ptr t p q config d cached =
      let l = does_ledger m g valid ptr.key (Hit p.number ptr.key t ∷ []) p q config d in
      record { holds = ap (λ (x : Ledger). x.holds) l ∙ rw (eq-eqb p.number p.number refl, cached-digest ptr d.before.now cached) refl; readings = ap (λ (x : Ledger). x.readings) l; claims = ap (λ (x : Ledger). x.claims) l }

  lists-past : (k : Key) (kept : Digest) (p q : Place (Known C)) → p.own.about.config ≡ g → Does m g k (Past p.number k kept ∷ []) p q → Lists [] p q
  lists-past k kept p q config d =
      let l = does_ledger m g valid k (Past p.number k kept ∷ []) p q config d in
      record { holds = ap (λ (x : Ledger). x.holds) l; readings = ap (λ (x : Ledger). x.readings) l; claims = ap (λ (x : Ledger). x.claims) l }

  -- ---- a miss

  -- the party lists what it listed, and reads the key besides what it read
  record Reading (k : Key) (p r : Place (Known C)) : Type 0 where
    pub holds : r.own.ledger.holds ≡ p.own.ledger.holds
    pub readings : r.own.ledger.readings ≡ k ∷ p.own.ledger.readings
    pub claims : r.own.ledger.claims ≡ p.own.ledger.claims

  reading-missed : (k : Key) (t : ℕ) (p r : Place (Known C)) → p.own.about.config ≡ g → DoesRoomy m g k (Miss p.number k t) p r → Reading k p r
  reading-missed k t p r config d =
      let own : ArePasses g p.number (shard_turn g k) d.makes.passes = subst (λ (n : ℕ). ArePasses g n (shard_turn g k) d.makes.passes) (reached m g k d.chain d.before p d.reached d.takes).number d.makes.own in
      record {
        holds = ap (λ (l : Ledger). l.holds) (does_roomy_ledger m g valid k (Miss p.number k t) p r config d) ∙ holds-then g p.number (shard_turn g k) t k d.before.now d.makes.passes p.own.ledger.holds own;
        readings = missed_readings m g valid k t p r config d;
        claims = ap (λ (l : Ledger). l.claims) (does_roomy_ledger m g valid k (Miss p.number k t) p r config d);
      }

  reading-then : (k : Key) (p r back : Place (Known C)) → Reading k p r → Lists [] r back → Reading k p back
  reading-then k p r back a b = record { holds = b.holds ∙ a.holds; readings = b.readings ∙ a.readings; claims = b.claims ∙ a.claims }

  lists-arrive : (ptr : Ptr) (from : Origin) (p r q : Place (Known C)) → Reading ptr.key p r → r.own.about.config ≡ g → Does m g ptr.key (Arrive r.number ptr.key ptr.digest from ∷ []) r q → Lists (ptr ∷ []) p q
  lists-arrive ptr from p r q reads config d =
      let l = does_ledger m g valid ptr.key (Arrive r.number ptr.key ptr.digest from ∷ []) r q config d in
      record {
        holds = ap (λ (x : Ledger). x.holds) l ∙ (rw (eq-eqb r.number r.number refl) (ap (λ (hs : List Ptr). ptr ∷ hs) reads.holds));
        readings = ap (λ (x : Ledger). x.readings) l ∙ (rw (eq-eqb r.number r.number refl) (ap (without_reading ptr.key) reads.readings ∙ without-first ptr.key p.own.ledger.readings));
        claims = ap (λ (x : Ledger). x.claims) l ∙ reads.claims;
      }

  lists-fail : (k : Key) (at : FailedAt) (p r q : Place (Known C)) → Reading k p r → r.own.about.config ≡ g → Does m g k (Fail r.number k at ∷ []) r q → Lists [] p q
  lists-fail k at p r q reads config d =
      let l = does_ledger m g valid k (Fail r.number k at ∷ []) r q config d in
      record {
        holds = ap (λ (x : Ledger). x.holds) l ∙ reads.holds;
        readings = ap (λ (x : Ledger). x.readings) l ∙ (rw (eq-eqb r.number r.number refl) (ap (without_reading k) reads.readings ∙ without-first k p.own.ledger.readings));
        claims = ap (λ (x : Ledger). x.claims) l ∙ reads.claims;
      }

  waits-list : (k : Key) (times : ℕ) (p q : Place (Known C)) → p.own.about.config ≡ g → Waits m g k times p q → Lists [] p q
  waits-list k zero p q config is = lists-same p q is
  waits-list k (suc times) p q config w =
      let s = waits_stays m g valid k times p w.0 config w.1 in
      lists-then [] p w.0 q (waits-list k times p w.0 config w.1) (lists-none k w.0 q (stays_config g p w.0 s config) w.2.does)

-- what a read that came to this lists: the hold that it gave, which is the party's own, on the pointer's block
abbrev pub ListsAnswer : {C : Type 0} → Ptr → (p q : Place (Known C)) → Result Read ReadFault → Type 0
ListsAnswer ptr p q (Ok (gave.Held hold from)) = Lists (ptr ∷ []) p q × IsHoldOf ptr p.number hold × (from ≢ served.Past)
ListsAnswer ptr p q (Ok (gave.Past block kept)) = Lists [] p q
ListsAnswer ptr p q (Err why) = Lists [] p q

module _ {C P D : Type 0} (m : Meanings C) (g : Config) (valid : IsConfig g) (pools : PoolGhosts P) (devices : DeviceGhosts D) (ptr : Ptr) (t : ℕ) where
  never-hit : served.Hit ≢ served.Past
  never-hit e = cc

  never-pool : served.Pool ≢ served.Past
  never-pool e = cc

  never-device : served.L2 ≢ served.Past
  never-device e = cc

  pool-lists : (old new : P) (p r q : Place (Known C)) (result : Result Read ReadFault) → r.number ≡ p.number → Reading m g valid ptr.key p r → r.own.about.config ≡ g
      → EndsAtPool m pools g ptr old new r q result → ListsAnswer ptr p q result
  pool-lists old new p r q (Ok (gave.Held hold served.Pool)) number reads config h =
      (lists-arrive m g valid ptr origin.Pool p r q reads config h.0, subst (λ (n : ℕ). IsHoldOf ptr n hold) number h.1.0, never-pool)
  pool-lists old new p r q (Ok (gave.Held hold served.Hit)) number reads config h = absurd h
  pool-lists old new p r q (Ok (gave.Held hold served.L2)) number reads config h = absurd h
  pool-lists old new p r q (Ok (gave.Held hold served.Past)) number reads config h = absurd h
  pool-lists old new p r q (Ok (gave.Past block kept)) number reads config h = absurd h
  pool-lists old new p r q (Err (fault.PoolFault)) number reads config h = lists-fail m g valid ptr.key failed.Pool p r q reads config h.0
  pool-lists old new p r q (Err (fault.Mismatch found)) number reads config h = lists-fail m g valid ptr.key failed.Pool p r q reads config h.0
  pool-lists old new p r q (Err (fault.Key why)) number reads config h = absurd h
  pool-lists old new p r q (Err (fault.NoMemory)) number reads config h = lists-fail m g valid ptr.key failed.Pool p r q reads config h.0

  goes-list : (old new : P) (p r q : Place (Known C)) (result : Result Read ReadFault) → r.number ≡ p.number → Reading m g valid ptr.key p r → r.own.about.config ≡ g
      → GoesToPool m pools g ptr old new r q result → ListsAnswer ptr p q result
  goes-list old new p r q result number reads config (read ends) = pool-lists old new p r q result number reads config ends
  goes-list old new p r q result number reads config (unread f) = subst (ListsAnswer ptr p q) (sym f.answer) (lists-fail m g valid ptr.key failed.Unread p r q reads config f.does)

  turn-lists : (found : Option EntryView) (old new : D) (p q : Place (Known C)) → p.own.about.config ≡ g → TurnsToPool m devices g ptr found old new p q → Lists [] p q
  turn-lists found old new p q config (unserved why is) = lists-same m g valid p q is
  turn-lists found old new p q config (cleared bytes came f) = lists-none m g valid ptr.key p q config f.does

  miss-lists : (before now : Outside P D) (found : Option EntryView) (p r q : Place (Known C)) (result : Result Read ReadFault) → r.number ≡ p.number → Reading m g valid ptr.key p r → r.own.about.config ≡ g
      → EndsMiss m pools devices g ptr found before now r q result → ListsAnswer ptr p q result
  miss-lists before now found p r q result number reads config (from_device hold is a) = subst (ListsAnswer ptr p q) (sym is)
      (lists-arrive m g valid ptr origin.L2 p r q reads config a.does, subst (λ (n : ℕ). IsHoldOf ptr n hold) number a.held.0, never-device)
  miss-lists before now found p r q result number reads config (from_pool back turns goes) =
      let s = turns_stays m g valid devices ptr found before.device now.device r back config turns in
      goes-list before.pool now.pool p back q result (s.number ∙ number) (reading-then m g valid ptr.key p r back reads (turn-lists found before.device now.device r back config turns)) (stays_config g r back s config) goes
  miss-lists before now found p r q result number reads config (from_none asked f) = subst (ListsAnswer ptr p q) (sym f.answer) (lists-fail m g valid ptr.key failed.Unread p r q reads config f.does)

  past-lists : (old new : P) (kept : Digest) (p q : Place (Known C)) (result : Result Read ReadFault) → Lists [] p q → EndsPast pools ptr kept old new result → ListsAnswer ptr p q result
  past-lists old new kept p q (Ok (gave.Past block digest)) lists h = lists
  past-lists old new kept p q (Ok (gave.Held hold from)) lists h = absurd h
  past-lists old new kept p q (Err why) lists h = lists

  answer-lists : (before now : Outside P D) (p q : Place (Known C)) (result : Result Read ReadFault) → p.own.about.config ≡ g → Answers m pools devices g ptr t before now p q result → ListsAnswer ptr p q result
  answer-lists before now p q result config (hit hold is d cached held same) = subst (ListsAnswer ptr p q) (sym is) (lists-hit m g valid ptr t p q config d cached, held.0, never-hit)
  answer-lists before now p q result config (missed r d missing ends) =
      let s = does_roomy_stays m g valid ptr.key (Miss p.number ptr.key t) p r config d in
      miss-lists before now _ p r q result s.number (reading-missed m g valid ptr.key t p r config d) (stays_config g p r s config) ends
  answer-lists before now p q result config (past kept other d cached device ends) = past-lists before.pool now.pool kept p q result (lists-past m g valid ptr.key kept p q config d) ends
  answer-lists before now p q result config (no_memory is d same) = subst (ListsAnswer ptr p q) (sym is) (lists-none m g valid ptr.key p q config d)

  lists-after : (p r q : Place (Known C)) (result : Result Read ReadFault) → r.number ≡ p.number → Lists [] p r → ListsAnswer ptr r q result → ListsAnswer ptr p q result
  lists-after p r q (Ok (gave.Held hold from)) number w a = (lists-then m g valid (ptr ∷ []) p r q w a.0, subst (λ (n : ℕ). IsHoldOf ptr n hold) number a.1, a.2)
  lists-after p r q (Ok (gave.Past block kept)) number w a = lists-then m g valid [] p r q w a
  lists-after p r q (Err why) number w a = lists-then m g valid [] p r q w a

  pub read-lists : (before now : Outside P D) (p q : Place (Known C)) (result : Result Read ReadFault) → p.own.about.config ≡ g → AnswersRead m pools devices g ptr t before now p q result → ListsAnswer ptr p q result
  read-lists before now p q result config (refused why is first same none) = subst (ListsAnswer ptr p q) (sym is) (lists-same m g valid p q same)
  read-lists before now p q result config (answered ok times r waits answer) =
      let s = waits_stays m g valid ptr.key times p r config waits in
      lists-after p r q result s.number (waits-list m g valid ptr.key times p r config waits) (answer-lists before now r q result (stays_config g p r s config) answer)
