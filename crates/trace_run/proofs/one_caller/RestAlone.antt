-- A cache that one caller's party closed, which has every number and has given all back, is at rest.
use Rattle.std.proofs.Common.{◌≡◌, ℕ, ◌<◌, cond, IsTrue, List, [], ◌∷◌, refl, sym, ◌∙◌, subst, inl, arith}
use Rattle.std.specs.List.{AllByRecursion}
use mathlib.Core.Option.{some}
use lib.ListN.{get_elem?}
use Rattle.blk_ptr.specs.declared.ptr.Ptr.{Ptr}
use Rattle.arc_core.specs.declared.config.Config.{Config}
use Rattle.arc_core.specs.Operations.{Act, IsAtRest, Tell, acts_in, moments, own_moments}
use Rattle.arc_core.specs.Replay.{is_legal_history, replay}
use Rattle.arc_core.specs.ShardLog.{ShardLog}
use Rattle.blk_ptr.specs.Hash.{shard_of}
use Rattle.turn_table.specs.Moments.{WasFree}
use Rattle.turn_table.specs.Places.{Place, SomeHas}
use Rattle.arc_table.specs.declared.item.Item.TheVariants as item
use Rattle.arc_table.specs.declared.view.Known.{Known}
use Rattle.arc_table.specs.Cache.{Cache}
use Rattle.arc_table.specs.Ended.{Ended, Ends}
use Rattle.arc_table.specs.Geometry.{parties_of}
use Rattle.arc_table.specs.Items.{Meanings}
use Rattle.arc_table.specs.pact.Logged.{IsSoundLog}
use Rattle.arc_table.specs.pact.Rule.{Pact}
use Rattle.arc_table.proofs.HandHeads.{config_then}
use Rattle.arc_table.specs.Telling.{opening_of}
use Rattle.trace_run.specs.KeptBlocks.{IsIdle, Stands, is_ptr, times}
use Rattle.arc_table.specs.Seen.{HasAll, seen_of, turn_of}
use Rattle.arc_table.specs.Told.{IsTold}
use Rattle.trace_run.proofs.theorem.CloseLemmas.{closed-alone, closed-legal, closed-now, closed-sound, closed-told, last}
use Rattle.trace_run.proofs.theorem.HistoryLemmas.{IsReadEvent}
use Rattle.trace_run.proofs.KeptBlockLemmas.{is_ptr-same, times-cons}
use Rattle.trace_run.proofs.theorem.RestLemmas.{reads-rest}

-- where no pointer is listed, none is held
pub none-listed : (hs : List Ptr) → ((x : Ptr) → times x hs ≡ 0) → hs ≡ []
none-listed [] none = refl
none-listed (h ∷ hs) none =
    let counts = times-cons h h hs in
    let zero_is : times h (h ∷ hs) ≡ 0 = none h in
    let one : ◌≡◌ {A = ℕ} (cond (is_ptr h h) 1 0) 1 = rw (is_ptr-same h) refl in
    absurd (omega arith)

pub all-there : {C : Type 0} (cache : Cache) (p : Place (Known C)) → p.parties ≡ parties_of cache.config → HasAll p → (n : ℕ) → n < parties_of cache.config → SomeHas n (p ∷ [])
all-there cache p parties all n below = inl (all n (subst (λ (k : ℕ). n < k) (sym parties) below))

module _ {C : Type 0} (m : Meanings C) (cache : Cache) (p : Place (Known C)) (closed : Ended C) (ends : Ends m cache (p ∷ []) closed)
    (parties : p.parties ≡ parties_of cache.config) (stands : Stands cache p []) (all : HasAll p) where
  abbrev g : Config
  g = cache.config

  idle : IsIdle p.own.ledger
  idle = record { holds = none-listed p.own.ledger.holds (λ x. stands.listed x); readings = stands.idle }

  module _ (i : ℕ) (l : ShardLog) (at : get_elem? closed.shards i ≡ some l) where
    pub alone-history : l.history ≡ seen_of g i p
    alone-history = closed-alone m cache (p ∷ []) closed ends i l at p ends.shown.0 parties stands.free stands.apart stands.of.config stands.seen all

    pub alone-legal : IsTrue (is_legal_history (opening_of g) l.history)
    alone-legal = closed-legal m cache (p ∷ []) closed ends i l at p ends.shown.0 parties stands.free stands.apart stands.of.config stands.seen

    pub alone-now : replay (opening_of g) l.history ≡ l.now
    alone-now = closed-now m cache (p ∷ []) closed ends i l at p ends.shown.0 parties stands.free stands.apart stands.of.config stands.seen

    alone-sound : IsSoundLog g l
    alone-sound = closed-sound m cache (p ∷ []) closed ends i l at p ends.shown.0 parties stands.free stands.apart stands.of.config stands.seen

    pub alone-told : (acts : List Act) → IsTold g acts p → Tell (acts_in (shard_of g.shards) i p.number acts) (own_moments p.number (moments (opening_of g) l.history))
    alone-told = closed-told m cache (p ∷ []) closed ends i l at p ends.shown.0 parties stands.free stands.apart stands.of.config stands.seen

    abbrev was-free : WasFree (Pact m) p (turn_of g i) (item.Shard l)
    was-free = last m cache (p ∷ []) closed ends i l at p ends.shown.0 parties stands.free stands.apart

    -- where all callers' numbers are its own
    pub alone-rests : ((n : ℕ) → n < cache.config.callers → p.number ≡ n) → AllByRecursion (IsReadEvent cache.config.callers) l.history → IsAtRest (replay (opening_of g) l.history)
    alone-rests own reads = subst IsAtRest (sym alone-now)
        (reads-rest m cache (p ∷ []) closed ends i l at (config_then m p (turn_of g i) l was-free ∙ stands.of.config) alone-sound stands.valid
        (λ n below. (p.own, subst (λ (x : ℕ). get_elem? ends.views x ≡ some p.own) (own n below) ends.shown.0.0, idle)) reads)
