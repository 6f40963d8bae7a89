-- What a series of feeds leaves behind it: its events in each shard, the places that keys have on the device, and what each crash of it restores.
use Rattle.std.specs.Prelude.{◌≡◌, ◌≢◌, ◌⊎◌, ℕ, ◌+◌, ◌*◌, ◌^◌, ◌==◌, ◌<◌, ◌≤◌, if◌then◌else◌, Bool, true, false, IsTrue, List, [], ◌∷◌, ◌++◌, length, min, Some}
use Rattle.std.specs.List.{AllByRecursion}
use Rattle.vdev_io.specs.declared.device.CacheDev.{Ghosts}
use Rattle.vdev_io.specs.Device.{LeavesSame}
use Rattle.vdev_io.specs.Faults.{Rose, last_count}
use Rattle.blk_ptr.specs.declared.key.Key.{Key}
use Rattle.blk_ptr.specs.Hash.{shard_of}
use Rattle.arc_core.specs.Config.{IsConfig}
use Rattle.arc_core.specs.declared.config.Config.{Config}
use Rattle.arc_core.specs.declared.event.Event.{Event}
use Rattle.arc_core.specs.declared.event.Event.TheVariants.{Restore}
use Rattle.arc_core.specs.declared.served.Restored.{Restored}
use Rattle.arc_core.specs.Operations.{has_its_number, own_events}
use Rattle.arc_core.specs.Places.{gives_place}
use Rattle.arc_core.specs.PlainShard.{place_of}
use Rattle.arc_core.specs.Replay.{is_legal_history, replay}
use Rattle.turn_table.specs.Places.{Place}
use Rattle.arc_table.specs.declared.view.Known.{Known}
use Rattle.arc_table.specs.Cache.{Cache}
use Rattle.arc_table.specs.Items.{Meanings}
use Rattle.arc_table.specs.Seen.{seen_of}
use Rattle.arc_table.specs.Telling.{opening_of}
use Rattle.l2_ring.specs.Ring.{last_lap}
use Rattle.l2_dev.specs.declared.report.FeedReport.{FeedReport}
use Rattle.l2_dev.specs.declared.report.FeedStop.{FeedStop}
use Rattle.l2_dev.specs.declared.report.FeedStop.TheVariants as stop
use Rattle.l2_dev.specs.declared.stop.Stop.{Stop}
use Rattle.l2_dev.specs.declared.stop.Stop.TheVariants as stops
use Rattle.l2_dev.specs.Cursor.{CursorState}
use Rattle.l2_dev.specs.Promise.{KeepsPromise, Promise}
use Rattle.l2_dev.specs.Rebuilding.{HaveKeys, IsOpened}
use Rattle.l2_dev.specs.Restoring.{IsRebuilt}
use Rattle.l2_feed.specs.Acts.{Act}
use Rattle.l2_feed.specs.Alone.{events_at}
use Rattle.l2_feed.specs.Crashes.{FeedKeeps, IsOwnPromise}
use Rattle.l2_feed.specs.Ends.{PlacesAreNewest}
use Rattle.l2_feed.specs.Fed.{HasFed}
use Rattle.l2_feed.specs.Places.{place_seen}
use Rattle.l2_feed.specs.Ready.{IsFeederReady}

-- ---- events

-- of each shard the party's own events are those that p has seen, and then those of these acts
abbrev pub MakesEvents : {C : Type 0} → Config → List Act → (p q : Place (Known C)) → Type 0
MakesEvents g acts p q = (shard : ℕ) → own_events p.number (seen_of g shard q) ≡ own_events p.number (seen_of g shard p) ++ events_at g p.number shard acts

-- so it is after a feed that did these acts
abbrev pub FeedsMakeEvents : {C D : Type 0} → Meanings C → Ghosts D → Type 0
FeedsMakeEvents {C} {D} m device = (g : Config) (was now : D) (old new : CursorState) (p q : Place (Known C)) (report : FeedReport) → (fed : HasFed m g device was now old new p q report) → MakesEvents g fed.acts p q

-- ---- what others do between feeds

-- the event gives no key a place
abbrev pub GivesNone : Event → Type 0
GivesNone e = (k : Key) → gives_place k e ≡ false

-- Of a shard these events were seen, and now these: each is legal when it comes. What came behind has its number, and what of it is the feeder's own
-- gives no place.
pub record GoesOn (g : Config) (seen now : List Event) : Type 0 where
  pub rest : List Event
  pub whole : now ≡ seen ++ rest
  pub legal : IsTrue (is_legal_history (opening_of g) now)
  pub numbers : AllByRecursion (λ e. IsTrue (has_its_number g.callers g.cells e)) rest
  pub own : AllByRecursion GivesNone (own_events g.callers rest)

-- then a place that a key has now it had before
abbrev pub PlacesGo : Type 0
PlacesGo = (g : Config) (seen now : List Event) → IsConfig g → GoesOn g seen now → (k : Key) (x : ℕ) → place_of k (replay (opening_of g) now) ≡ Some x → place_of k (replay (opening_of g) seen) ≡ Some x

-- ---- the start

-- the restores by n of those of these keys that belong to the shard of this number, in their order
abbrev pub restores_at : Config → (n : ℕ) → List Restored → (shard : ℕ) → List Event
restores_at g n [] shard = []
restores_at g n (r ∷ rs) shard = if shard_of g.shards r.key == shard then (Restore n r.key r.place r.digest ∷ restores_at g n rs shard) else restores_at g n rs shard

-- Where the ring's live entries are the keys that a start has found, and of each shard the party has seen their restores, each legal when it came, each
-- place is its key's newest live one.
abbrev pub RestoredAreNewest : {C : Type 0} → Meanings C → Type 0
RestoredAreNewest {C} m = (g : Config) (p : Place (Known C)) (n end : ℕ) (cursor : CursorState) (restored : List Restored) → IsConfig g → IsOpened end cursor restored → HaveKeys restored
    → ((shard : ℕ) → seen_of g shard p ≡ restores_at g n restored shard) → ((shard : ℕ) → IsTrue (is_legal_history (opening_of g) (seen_of g shard p))) → PlacesAreNewest g p cursor.ring.live

-- ---- crashes

-- the key is restored, at this place
abbrev pub IsRestoredAt : Key → (place : ℕ) → List Restored → Type 0
IsRestoredAt k x [] = ⊥
IsRestoredAt k x (r ∷ rs) = ((r.key ≡ k) × (r.place ≡ x)) ⊎ IsRestoredAt k x rs

module _ {D : Type 0} (device : Ghosts D) where
  -- a promise of every crash is kept, and each header that a crash may leave was written with what is live
  abbrev pub KeepsLive : D → CursorState → Type 0
  KeepsLive dev cursor = (p : Promise) × KeepsPromise device.told device.has_sectors device.may_leave dev cursor p × IsOwnPromise p

  -- so it is after a feed that was done
  abbrev pub FeedsKeepLive : Type 0
  FeedsKeepLive = (was now : D) (old new : CursorState) → FeedKeeps device.told device.has_sectors device.may_leave was now old new stop.Done → KeepsLive was old → KeepsLive now new

  -- the device tells the same and is of the same kind, a crash leaves the same, and no fewer faults are counted, where there is room for the count: as
  -- reads, forks and absorbs leave it
  pub record WasLent (was now : D) : Type 0 where
    pub told : device.told now ≡ device.told was
    pub kind : device.has_sectors now ≡ device.has_sectors was
    pub crash : LeavesSame (device.may_leave was) (device.may_leave now)
    pub faults : min (device.faults was) last_count ≤ device.faults now

  -- so it is then too
  abbrev pub LentKeepLive : Type 0
  LentKeepLive = (was now : D) (cursor : CursorState) → WasLent was now → KeepsLive was cursor → KeepsLive now cursor

  -- Where each place that the feeder has seen is its key's newest live one, each rebuild of what a crash leaves, if it meets no fault of the device,
  -- restores each key that has a place, at that place.
  abbrev pub CrashesRestorePlaces : {C : Type 0} → Meanings C → Type 0
  CrashesRestorePlaces {C} m = (g : Config) (p : Place (Known C)) (dev : D) (cursor : CursorState) → KeepsLive dev cursor → PlacesAreNewest g p cursor.ring.live
      → (image : List ℕ) → device.may_leave dev image → (restored : List Restored) (why : Stop) → IsRebuilt cursor.ring.end image restored why → why ≢ stops.DevFault
      → (k : Key) (x : ℕ) → place_seen g p k ≡ Some x → IsRestoredAt k x restored

-- ---- feeds one after another

abbrev pub is_fault : FeedStop → Bool
is_fault stop.Done = false
is_fault stop.DevFault = true
is_fault stop.NoMemory = false

-- how many of these ended with a fault of the device
abbrev pub faults_in : List FeedReport → ℕ
faults_in [] = 0
faults_in (report ∷ reports) = (if is_fault report.end then 1 else 0) + faults_in reports

module _ {C D : Type 0} (m : Meanings C) (device : Ghosts D) (cache : Cache) where
  -- between two feeds: the ring is as it was, the device was only lent, and what the feeder has seen of each shard goes on
  pub record IsBetween (was now : D) (old new : CursorState) (p q : Place (Known C)) : Type 0 where
    pub cursor : new ≡ old
    pub lent : WasLent device was now
    pub seen : (shard : ℕ) → GoesOn cache.config (seen_of cache.config shard p) (seen_of cache.config shard q)

  -- one feed, as it promises it
  pub record IsFeed (was now : D) (old new : CursorState) (p q : Place (Known C)) (report : FeedReport) : Type 0 where
    pub ready : IsFeederReady cache p
    pub fed : HasFed m cache.config device was now old new p q report
    pub crash : new.ring.lap < last_lap → FeedKeeps device.told device.has_sectors device.may_leave was now old new report.end
    pub faults : device.faults was ≤ device.faults now
    pub cause : report.end ≡ stop.DevFault → Rose (device.faults was) (device.faults now)

  -- these feeds were made one after another, with what others do before each and behind the last
  abbrev pub AreInTurn : List FeedReport → (was now : D) (old new : CursorState) (p q : Place (Known C)) → Type 0
  AreInTurn [] was now old new p q = IsBetween was now old new p q
  AreInTurn (report ∷ reports) was now old new p q =
      (from to : D) × (next : CursorState) × (r s : Place (Known C)) × IsBetween was from old old p r × IsFeed from to old next r s report × AreInTurn reports to now next new s q

  -- Where all of them were done, and each crash restored just what was live before them, and each place was its key's newest live one, so it is behind
  -- them. The premise is that no lap comes to its last value.
  abbrev pub FeedsInTurn : Type 0
  FeedsInTurn = (reports : List FeedReport) (was now : D) (old new : CursorState) (p q : Place (Known C)) → IsConfig cache.config → AreInTurn reports was now old new p q
      → AllByRecursion (λ (report : FeedReport). report.end ≡ stop.Done) reports → old.ring.lap + cache.config.shards * length reports < last_lap
      → KeepsLive device was old × PlacesAreNewest cache.config p old.ring.live → KeepsLive device now new × PlacesAreNewest cache.config q new.ring.live

  -- the device's count of faults rose at least once for each that ended with a fault of the device
  abbrev pub FaultsRise : Type 0
  FaultsRise = (reports : List FeedReport) (was now : D) (old new : CursorState) (p q : Place (Known C)) → AreInTurn reports was now old new p q
      → device.faults was + length reports < 2 ^ 64 → device.faults was + faults_in reports ≤ device.faults now
