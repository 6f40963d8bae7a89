-- One round of a read: what the party took, made and gave back is its answer.
use Rattle.std.proofs.Common.{◌≡◌, ◌≢◌, ℕ, [], ◌∷◌, Ok, Err, refl, ap, subst}
use Rattle.std.specs.Prelude.{Result, IsTrue}
use Rattle.blk_ptr.specs.declared.digest.Digest.{Digest}
use Rattle.blk_ptr.specs.declared.key.Key.{Key}
use Rattle.blk_ptr.specs.declared.ptr.Ptr.{Ptr}
use lib.ListN.{get_elem?}
use Rattle.vdev_io.specs.declared.device.CacheDev.{Ghosts as DeviceGhosts}
use Rattle.vdev_io.specs.declared.pool.Pool.{Ghosts as PoolGhosts}
use Rattle.arc_core.specs.declared.config.Config.{Config}
use Rattle.arc_core.specs.Config.{IsConfig}
use Rattle.arc_core.specs.declared.event.Event.{Event}
use Rattle.arc_core.specs.declared.event.Event.TheVariants.{Hit, Miss, Past}
use Rattle.arc_core.specs.declared.served.ReadFault.{ReadFault}
use Rattle.arc_core.specs.declared.served.ReadFault.TheVariants as fault
use Rattle.arc_core.specs.declared.served.Served.TheVariants as served
use Rattle.arc_core.specs.declared.shard.EntryView.{EntryView}
use Rattle.std.specs.Prelude.{List, Option}
use Rattle.arc_core.specs.ShardLog.{ShardLog}
use Rattle.arc_core.specs.Step.{is_missing}
use Rattle.hash_chain.specs.Chain.{Chain}
use Rattle.turn_table.specs.Places.{Place}
use Rattle.arc_table.specs.declared.hold.Hold.{Hold}
use Rattle.arc_table.specs.declared.read.Read.{Read}
use Rattle.arc_table.specs.declared.read.Read.TheVariants as gave
use Rattle.arc_table.specs.declared.view.Known.{Known}
use Rattle.arc_table.specs.Arriving.{IsReading}
use Rattle.arc_table.specs.Both.{Does, Makes, TakesBoth}
use Rattle.arc_table.specs.scans.Ending.{DoesRoomy, MakesRoomy}
use Rattle.arc_table.specs.Holding.{IsHeld, IsHoldOf}
use Rattle.arc_table.specs.Items.{Meanings}
use Rattle.arc_table.specs.Reading.{Answers, EndsMiss, EndsPast, Outside, hit, known_at, missed, no_memory, past, ptr_with}
use Rattle.arc_table.specs.pact.Standing.{IsCachedWith}
use Rattle.arc_table.proofs.Afterwards.{Stays, does_stays}
use Rattle.arc_table.proofs.Reached.{reached}
use Rattle.arc_table.proofs.scans.RoomyAfter.{does_roomy_stays, missed_readings}

module _ {C : Type 0} (m : Meanings C) (g : Config) (k : Key) (chain : Chain) (before : ShardLog) (p q r : Place (Known C)) (takes : TakesBoth m g k chain before p q) where
  pub taken_number : q.number ≡ p.number
  taken_number = (reached m g k chain before p q takes).number

  abbrev pub does_these : (es : List Event) → Makes m g k before es q r → Does m g k es p r
  does_these es makes = record { chain = chain; before = before; reached = q; takes = takes; makes = makes }

  abbrev pub does_missed : (t : ℕ) → MakesRoomy m g k before (Miss q.number k t) q r → DoesRoomy m g k (Miss p.number k t) p r
  does_missed t makes = record { chain = chain; before = before; reached = q; takes = takes; makes = subst (λ (n : ℕ). MakesRoomy m g k before (Miss n k t) q r) taken_number makes }

  module _ (valid : IsConfig g) (same : p.own.about.config ≡ g) where
    -- without an event the party is what it was
    pub none_stays : Makes m g k before [] q r → Stays p r
    none_stays makes = does_stays m g valid k [] p r same (does_these [] makes)

    pub missed_stays : (t : ℕ) → MakesRoomy m g k before (Miss q.number k t) q r → Stays p r
    missed_stays t makes = does_roomy_stays m g valid k (Miss p.number k t) p r same (does_missed t makes)

    -- who missed a key reads it
    pub missed_reading : (t : ℕ) → MakesRoomy m g k before (Miss q.number k t) q r → IsReading k r
    missed_reading t makes = (0, ap (λ (l : List Key). get_elem? l 0) (missed_readings m g valid k t p r same (does_missed t makes)))

module _ {C P D : Type 0} (m : Meanings C) (pools : PoolGhosts P) (devices : DeviceGhosts D) (g : Config) (ptr : Ptr) (t : ℕ) (chain : Chain) (log : ShardLog) (p q r : Place (Known C)) (takes : TakesBoth m g ptr.key chain log p q) where
  number : q.number ≡ p.number
  number = taken_number m g ptr.key chain log p q r takes

  pub round_hit : (o : Outside P D) (hold : Hold) → IsCachedWith ptr log.now → Makes m g ptr.key log (Hit q.number ptr.key t ∷ []) q r → IsHoldOf ptr q.number hold × IsHeld g r hold
      → Answers m pools devices g ptr t o o p r (Ok (gave.Held hold served.Hit))
  round_hit o hold here makes held =
      hit hold refl (does_these m g ptr.key chain log p q r takes (Hit p.number ptr.key t ∷ []) (subst (λ (n : ℕ). Makes m g ptr.key log (Hit n ptr.key t ∷ []) q r) number makes)) here
      (subst (λ (n : ℕ). IsHoldOf ptr n hold) number held.0, held.1) refl

  pub round_none : (o : Outside P D) → Makes m g ptr.key log [] q r → Answers m pools devices g ptr t o o p r (Err fault.NoMemory)
  round_none o makes = no_memory refl (does_these m g ptr.key chain log p q r takes [] makes) refl

  pub round_past : (before now : Outside P D) (kept : Digest) (result : Result Read ReadFault) → (kept ≢ ptr.digest) × IsCachedWith (ptr_with ptr.key kept) log.now → Makes m g ptr.key log (Past q.number ptr.key kept ∷ []) q r
      → now.device ≡ before.device → EndsPast pools ptr kept before.pool now.pool result → Answers m pools devices g ptr t before now p r result
  round_past before now kept result stands makes unasked end =
      past kept stands.0 (does_these m g ptr.key chain log p q r takes (Past p.number ptr.key kept ∷ []) (subst (λ (n : ℕ). Makes m g ptr.key log (Past n ptr.key kept ∷ []) q r) number makes)) stands.1 unasked end

  pub round_missed : (before now : Outside P D) (found : Option EntryView) (s : Place (Known C)) (result : Result Read ReadFault) → IsTrue (is_missing ptr.key log.now) → MakesRoomy m g ptr.key log (Miss q.number ptr.key t) q r
      → found ≡ known_at ptr.key log → EndsMiss m pools devices g ptr found before now r s result → Answers m pools devices g ptr t before now p s result
  round_missed before now found s result missing makes is end =
      missed r (does_missed m g ptr.key chain log p q r takes t makes) missing (subst (λ (x : Option EntryView). EndsMiss m pools devices g ptr x before now r s result) is end)
