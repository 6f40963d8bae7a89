-- Where a block was read from the pool though its entry has a place on the cache device at its arrival, the device did not serve the place.
use Rattle.std.proofs.Common.{◌≡◌, ℕ, List, Option, Some, refl, sym, ◌∙◌, subst, inl, inr}
use Rattle.std.proofs.lemmas.Option.{none-some}
use Rattle.blk_ptr.specs.declared.ptr.Ptr.{Ptr}
use Rattle.vdev_io.specs.declared.device.CacheDev.{Ghosts as DeviceGhosts}
use Rattle.arc_core.specs.declared.config.Config.{Config}
use Rattle.arc_core.specs.Config.{IsConfig}
use Rattle.arc_core.specs.declared.event.Event.{Event}
use Rattle.arc_core.specs.declared.event.Event.TheVariants.{Miss}
use Rattle.arc_core.specs.PlainShard.{place_of}
use Rattle.turn_table.specs.Places.{Place}
use Rattle.arc_table.specs.declared.view.Known.{Known}
use Rattle.arc_table.specs.Both.{Does}
use Rattle.arc_table.specs.scans.Ending.{DoesRoomy}
use Rattle.arc_table.specs.Fetching.{Unserved}
use Rattle.arc_table.specs.Items.{Meanings}
use Rattle.arc_table.specs.Reading.{TurnsToPool, cleared, known_at, unserved}
use Rattle.arc_table.proofs.reads.AfterRead.{stays_config, turns_stays}
use Rattle.arc_table.proofs.reads.Awaiting.{KeepsPlace, place_gone, place_kept}
use Rattle.arc_table.proofs.scans.RoomyAfter.{does_roomy_stays}

module _ {C D : Type 0} (m : Meanings C) (devices : DeviceGhosts D) (g : Config) (valid : IsConfig g) (ptr : Ptr) (t : ℕ) (p r : Place (Known C)) (same : p.own.about.config ≡ g) (miss : DoesRoomy m g ptr.key (Miss p.number ptr.key t) p r) where
  -- the key had this place right before, and the device did not serve the read
  abbrev pub UnservedAt : (old new : D) → (place : ℕ) → Type 0
  UnservedAt old new place = (place_of ptr.key miss.before.now ≡ Some place) × Unserved devices ptr (known_at ptr.key miss.before) old new

  -- the entry has a place where the read that turned to the pool ends: then the device did not serve this place
  pub placed_unserved : (old new : D) (back q : Place (Known C)) → TurnsToPool m devices g ptr (known_at ptr.key miss.before) old new r back → (es : List Event) (end : Does m g ptr.key es back q) (place : ℕ)
      → place_of ptr.key end.before.now ≡ Some place → UnservedAt old new place
  placed_unserved old new back q (unserved why is) es end place at =
      subst (λ (x : Place (Known C)). (d : Does m g ptr.key es x q) → place_of ptr.key d.before.now ≡ Some place → UnservedAt old new place) (sym is) straight end at
    where
      config : r.own.about.config ≡ g
      config = stays_config g p r (does_roomy_stays m g valid ptr.key (Miss p.number ptr.key t) p r same miss) same

      kept : (now : Option ℕ) → now ≡ Some place → KeepsPlace (place_of ptr.key miss.before.now) now → UnservedAt old new place
      kept now there (inl none) = absurd (none-some place (sym none ∙ there))
      kept now there (inr as_then) = (sym as_then ∙ there, why)

      straight : (d : Does m g ptr.key es r q) → place_of ptr.key d.before.now ≡ Some place → UnservedAt old new place
      straight d there = kept (place_of ptr.key d.before.now) there (place_kept m g ptr.key valid t p.number p r same refl miss config es q d)
  placed_unserved old new back q (cleared bytes came c) es end place at =
      let config : r.own.about.config ≡ g = stays_config g p r (does_roomy_stays m g valid ptr.key (Miss p.number ptr.key t) p r same miss) same in
      let s = turns_stays m g valid devices ptr (known_at ptr.key miss.before) old new r back config (cleared bytes came c) in
      absurd (none-some place (sym (place_gone m g ptr.key valid t p.number p r same refl miss config back (stays_config g r back s config) c es q end) ∙ at))
