-- What a begun plan leaves: the places of what it drops were asked back, or it was refused and nothing has changed.
use Rattle.std.proofs.Common.{◌≡◌, Bool, ℕ, ◌≤◌, true, false, List, [], ◌∷◌, ◌++◌, length, drop, map, Result, Ok, Err, inl, inr, refl, ap, ◌∙◌, subst, arith}
use Rattle.std.specs.Prelude.{IsErrOf, MatchResult, OnOk}
use Rattle.std.specs.List.{filter}
use Rattle.std.proofs.Math.Seq.{drop-append_seam, drop-length}
use Rattle.blk_ptr.specs.declared.memory.NoMemory.{NoMemory}
use Rattle.arc_core.specs.Config.{IsConfig}
use Rattle.arc_core.specs.declared.config.Config.{Config}
use Rattle.arc_table.specs.declared.picks.Picked.{Picked as Block}
use Rattle.l2_ring.specs.declared.live.Live.{Live}
use Rattle.l2_ring.specs.declared.plan.Plan.{Plan}
use Rattle.l2_ring.proofs.RangeLaws.{plans_are_one}
use Rattle.l2_ring.specs.Ring.{IsPlanFor, IsSound, numbers_of}
use Rattle.l2_ring.specs.Stays.{AreLive, falls, live_of}
use Rattle.vdev_io.specs.Calls.{DeviceCall}
use Rattle.l2_dev.specs.declared.fault.DevErr.{DevErr}
use Rattle.l2_dev.specs.declared.fault.DevErr.TheVariants as err
use Rattle.l2_dev.specs.Cursor.{CursorState}
use Rattle.l2_dev.specs.Planned.{HasPlanned}
use Rattle.l2_feed.specs.Acts.{Act}
use Rattle.l2_feed.specs.Asking.{PlanCalls}
use Rattle.l2_feed.specs.Runs.{AreCleared, AreWhole, bytes_of}
use Rattle.l2_feed.specs.Shape.{HasBegun, NoneRefused, TakesPlan, first_fault}
use Rattle.l2_feed.proofs.Running.{bytes_whole}

-- so few blocks have so few bytes
pub few_blocks : (g : Config) (bs : List Block) → IsConfig g → AreWhole bs → bytes_of bs ≤ g.bounds.write_max → length bs ≤ 8388608
few_blocks g bs valid whole few =
    let w = bytes_whole bs whole in
    let is = w.1 in
    let many = w.2 in
    let most = valid.bounds.write_max.1 in
    omega arith

none_cleared : (acts : List Act) → AreCleared [] acts → acts ≡ []
none_cleared [] are = refl
none_cleared (a ∷ acts) are = absurd are

-- what `begin` told of its plan and of what it dropped
pub record Begins (old new : CursorState) (n : ℕ) (had dropped : List Live) (result : Result (Unit {0}) DevErr) : Type 0 where
  pub refused : IsErrOf result err.NoMemory → (new ≡ old) × (dropped ≡ had)
  pub planned : (¬ IsErrOf result err.NoMemory) → HasPlanned n old new
  pub drops : (¬ IsErrOf result err.NoMemory) → (plan : Plan) × IsPlanFor old.ring n plan × (dropped ≡ had ++ map live_of (filter (falls plan) old.ring.live))

-- the calls of a begin that was answered so
abbrev pub BegunCalls : Result (Unit {0}) DevErr → (new : CursorState) → List DeviceCall → Type 0
BegunCalls result new calls = (IsErrOf result err.NoMemory → calls ≡ []) × ((¬ IsErrOf result err.NoMemory) → PlanCalls result new calls)

module _ (old new : CursorState) (n : ℕ) (had dropped : List Live) (acts : List Act) (calls : List DeviceCall) (sound : IsSound old.ring) (placed : AreLive (numbers_of old.ring) old.ring.live) (cleared : AreCleared (drop (length had) dropped) acts) where
  takes : (result final : Result (Unit {0}) DevErr) → ¬ IsErrOf result err.NoMemory → Begins old new n had dropped result → OnOk final (NoneRefused acts × (new.ready ≡ true)) → PlanCalls final new calls → TakesPlan old new n acts calls final
  takes result final ok b opened asks =
      let h = b.planned ok in
      let d = b.drops ok in
      let same : d.0 ≡ h.plan = plans_are_one old.ring n d.0 h.plan d.1 h.plan_for in
      let whole : dropped ≡ had ++ map live_of (filter (falls h.plan) old.ring.live) = subst (λ (p : Plan). dropped ≡ had ++ map live_of (filter (falls p) old.ring.live)) same d.2 in
      record {
        sound = sound;
        placed = placed;
        planned = h;
        cleared = subst (λ (ls : List Live). AreCleared ls acts) (ap (λ (ls : List Live). drop (length had) ls) whole ∙ drop-append_seam had (map live_of (filter (falls h.plan) old.ring.live))) cleared;
        opened = opened;
        asks = asks;
      }

  pub begun_all : (begun : Result (Unit {0}) DevErr) (taken : Result (Unit {0}) NoMemory) → Begins old new n had dropped begun → OnOk taken (NoneRefused acts) → OnOk begun (new.ready ≡ true) → BegunCalls begun new calls
      → HasBegun old new n acts calls (first_fault begun taken)
  begun_all (Err err.NoMemory) taken b none ready asks =
      let r = b.refused refl in
      inl (r.0, none_cleared acts (subst (λ (ls : List Live). AreCleared ls acts) (ap (λ (ls : List Live). drop (length had) ls) r.1 ∙ drop-length had) cleared), refl, asks.0 refl)
  begun_all (Err err.DevFault) taken b none ready asks = inr (takes (Err err.DevFault) (Err err.DevFault) (λ is. cc) b tt (asks.1 (λ is. cc)))
  begun_all (Ok u) (Err e) b none ready asks = inr (takes (Ok u) (Err err.NoMemory) (λ is. cc) b tt (asks.1 (λ is. cc)))
  begun_all (Ok u) (Ok v) b none ready asks = inr (takes (Ok u) (Ok u) (λ is. cc) b (none, ready) (asks.1 (λ is. cc)))

pub ok_ready : (ready : Bool) (begun : Result (Unit {0}) DevErr) → MatchResult begun (λ u. ready ≡ true) (λ e. (e ≡ err.DevFault) → ready ≡ false) → OnOk begun (ready ≡ true)
ok_ready ready (Ok u) is = is
ok_ready ready (Err e) is = tt

pub fault_began : (begun : Result (Unit {0}) DevErr) (taken : Result (Unit {0}) NoMemory) → IsErrOf (first_fault begun taken) err.DevFault → IsErrOf begun err.DevFault
fault_began (Err fault) taken is = is
fault_began (Ok u) (Err e) is = cc
fault_began (Ok u) (Ok v) is = cc
