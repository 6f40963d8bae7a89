-- The feeder's events on one key: where they are legal, and what they make of the key's entry.
use Rattle.std.proofs.Common.{◌≡◌, ◌≢◌, ◌==◌, if◌then◌else◌, ℕ, zero, suc, ◌+◌, ◌<◌, get_or, length, take, List, [], ◌∷◌, ◌++◌, Bool, true, false, Option, Some, None, refl, sym, ap, ◌∙◌, subst, arith}
use Rattle.std.specs.Prelude.{IsTrue, ◌&&◌, ◌↔◌, Err, not, is_some}
use Rattle.std.specs.Option.{option_and_then, option_map, option_map_or}
use Rattle.std.proofs.lemmas.Bool.Decides.{nat_tests}
use Rattle.std.proofs.lemmas.Option.{none-some}
use Rattle.std.proofs.Math.Seq.{take-suc}
use mathlib.Core.Option.{some}
use lib.ListN.{get_elem?}
use Rattle.blk_ptr.specs.declared.digest.Digest.{Digest}
use Rattle.blk_ptr.specs.declared.key.Key.{Key}
use Rattle.blk_ptr.specs.declared.state.State.TheVariants.{L2Only}
use Rattle.blk_ptr.specs.Key.{is_well_formed}
use Rattle.blk_ptr.specs.State.{is_same_state}
use Rattle.arc_core.specs.declared.config.Config.{Config}
use Rattle.arc_core.specs.Config.{IsConfig}
use Rattle.arc_core.specs.declared.entry.Entry.{Entry}
use Rattle.arc_core.specs.declared.entry.Picked.{Picked}
use Rattle.arc_core.specs.declared.entry.Phase.{Phase}
use Rattle.arc_core.specs.declared.entry.Phase.TheVariants.{Idle, Picking, Writing}
use Rattle.arc_core.specs.declared.event.Event.TheVariants.{Set, Leave, Clear, Restore}
use Rattle.arc_core.specs.declared.event.Why.{Why}
use Rattle.arc_core.specs.declared.event.Why.TheVariants as why
use Rattle.arc_core.specs.declared.served.Restored.{Restored}
use Rattle.arc_core.specs.declared.shard.EntryView.{EntryView}
use Rattle.arc_core.specs.Changes.{pick_of}
use Rattle.arc_core.specs.Changing.{placed_at, without_place}
use Rattle.arc_core.specs.PlainShard.{PlainShard, entry_of, is_number, numbers, place_of}
use Rattle.arc_core.specs.ShardLog.{ShardLog}
use Rattle.arc_core.specs.Sound.{IsSound, fits_phase}
use Rattle.arc_core.specs.Step.{after, agree, is_gone, is_writing, legal, may_set, restored_entry}
use Rattle.arc_core.specs.View.{view_of}
use Rattle.arc_core.proofs.Others.{own-entry}
use Rattle.arc_core.proofs.Soundness.{placed-entry, settable}
use Rattle.turn_table.specs.Places.{Place}
use Rattle.hash_chain.specs.Chain.{Chain}
use Rattle.hash_chain.specs.declared.header.Header.{Header}
use Rattle.arc_table.specs.declared.restores.Refused.{Refused}
use Rattle.arc_table.specs.declared.restores.Refused.TheVariants as refused
use Rattle.arc_table.specs.declared.view.Known.{Known}
use Rattle.arc_table.specs.declared.view.Ledger.{Ledger}
use Rattle.arc_table.specs.Both.{Does, TakesBoth}
use Rattle.arc_table.specs.feeder.Feeding.{AnswersOne, AnswersRestore, IsPicked, Restores, has_place, stop_after}
use Rattle.arc_table.specs.Fronts.{list_at}
use Rattle.arc_table.specs.Geometry.{shard_turn}
use Rattle.arc_table.specs.pact.Headed.{IsHead}
use Rattle.arc_table.specs.Items.{Meanings}
use Rattle.arc_table.specs.pact.Logged.{is_picking}
use Rattle.arc_table.specs.ShardGiving.{SameHead}
use Rattle.arc_table.proofs.FollowEvents.{IsLike, IsLikeIf, like_none, like_some}
use Rattle.arc_table.proofs.OneEvent.{same_head}
use Rattle.arc_table.proofs.Reached.{number_below, picked_is, reached, sound_log}

pub number_is : (n : ℕ) → n < numbers → is_number n ≡ true
number_is n h = grind (arith, nat_tests)

and_true : (a b : Bool) → a ≡ true → b ≡ true → (a && b) ≡ true
and_true a b h k = λ z. h z && k z

both_true : (a b : Bool) → (a && b) ≡ true → (a ≡ true) × (b ≡ true)
both_true true b h = (refl, h)
both_true false b h = absurd (cc)

-- ---- a pick that the feeder lists

-- a feed with picks, where none are being made, writes
writing_is : (phase : Phase) (picks : List Picked) (k : Key) → fits_phase phase picks ≡ true → is_picking phase ≡ false → is_some (pick_of k picks) ≡ true → is_writing phase ≡ true
writing_is Idle [] k fits settled there = let f : false ≡ true = there in absurd (cc)
writing_is Idle (x ∷ xs) k fits settled there = let f : false ≡ true = fits in absurd (cc)
writing_is Picking picks k fits settled there = absurd (cc)
writing_is Writing picks k fits settled there = refl

module _ {C : Type 0} (m : Meanings C) (g : Config) (k : Key) (chain : Chain) (before : ShardLog) (p q : Place (Known C)) (t : TakesBoth m g k chain before p q) (same : p.own.about.config ≡ g) (valid : IsConfig g) (feeds : p.number ≡ g.callers) where
  pub feeder_is : q.number ≡ g.callers
  feeder_is = (reached m g k chain before p q t).number ∙ feeds

  pub number_few : q.number < numbers
  number_few = let a = number_below m g k chain before p q t same valid in let c = valid.counts.callers.1 in omega arith

  module _ (picked : IsPicked g p k) where
    pub pick_there : is_some (pick_of k before.now.picked) ≡ true
    pick_there = ap (λ (l : List Picked). is_some (pick_of k l)) (picked_is m g k chain before p q t same valid feeder_is)
        ∙ (ap (λ (l : Ledger). is_some (pick_of k (list_at (shard_turn g k) l.picked))) (reached m g k chain before p q t).ledger ∙ picked)

    pub writes : is_writing before.now.phase ≡ true
    writes = let log = sound_log m g k chain before p q t same valid in writing_is before.now.phase before.now.picked k log.replayed.sound.feed log.settled pick_there

-- ---- set and leave

pub set_legal : (n place : ℕ) (k : Key) (s : PlainShard) → n < numbers → is_writing s.phase ≡ true → may_set k s ≡ true → IsTrue (legal s (Set n k place))
set_legal n place k s number writing may = and_true _ _ (number_is n number) (and_true _ _ writing may)

-- whether Set is legal is whether the key may gain a place
pub may_is : (b : Bool) (n : ℕ) (k : Key) (s : PlainShard) → is_number n ≡ true → is_writing s.phase ≡ true → (IsTrue b ↔ IsTrue (legal s (Set n k 0))) → b ≡ may_set k s
may_is b n k s number writing same = same_bool b (may_set k s) (λ h. (both_true (is_writing s.phase) _ (both_true (is_number n) _ (same.0 h)).1).1) (λ h. same.1 (and_true _ _ number (and_true _ _ writing h)))
  where
    same_bool : (a b : Bool) → (a ≡ true → b ≡ true) → (b ≡ true → a ≡ true) → a ≡ b
    same_bool true b f g = sym (f refl)
    same_bool false true f g = g refl
    same_bool false false f g = refl

not_gone : (w : Why) → w ≢ why.Gone → is_gone w ≡ false
not_gone (why.Gone) h = absurd (h refl)
not_gone (why.Device) h = refl
not_gone (why.Memory) h = refl

pub leave_legal : (n : ℕ) (k : Key) (w : Why) (s : PlainShard) → n < numbers → is_writing s.phase ≡ true → is_some (pick_of k s.picked) ≡ true → is_gone w ≡ not (may_set k s) → IsTrue (legal s (Leave n k w))
leave_legal n k w s number writing there is = and_true _ _ (number_is n number) (and_true _ _ writing (and_true _ _ there (agreed (is_gone w) (not (may_set k s)) is)))
  where
    agreed : (a b : Bool) → a ≡ b → agree a b ≡ true
    agreed true b e = sym e
    agreed false b e = ap not (sym e)

-- the reason that is given, or that the key is gone
pub reason_is : (w given : Why) (may : Bool) → w ≢ why.Gone → given ≡ (if may then w else why.Gone) → is_gone given ≡ not may
reason_is w given true h e = ap is_gone e ∙ not_gone w h
reason_is w given false h e = ap is_gone e

pub leave_same : (n : ℕ) (k : Key) (w : Why) (s : PlainShard) → IsSound s → IsTrue (legal s (Leave n k w)) → SameHead (entry_of k s) (entry_of k (after s (Leave n k w)))
leave_same n k w s sound ok = subst (SameHead (entry_of k s)) (sym (own-entry s (Leave n k w) k sound ok refl)) (same_head (entry_of k s))

placed_like : (place : ℕ) (e : Entry) → IsLike e (placed_at place e)
placed_like place e = record { key = refl; reading = refl; digest = refl; resident = refl }

pub set_like : (n place : ℕ) (k : Key) (s : PlainShard) → IsSound s → IsTrue (legal s (Set n k place)) → (x : Entry) → entry_of k s ≡ Some x → IsLikeIf x (entry_of k (after s (Set n k place)))
set_like n place k s sound ok x there = subst (IsLikeIf x) (sym (own-entry s (Set n k place) k sound ok refl ∙ ap (option_map (placed_at place)) there)) (like_some x (placed_at place x) (placed_like place x))

pub set_there : (k : Key) (s : PlainShard) → may_set k s ≡ true → (e : Entry) × (entry_of k s ≡ Some e)
set_there k s may = settable s k may

-- ---- clear

pub clear_legal : (n place : ℕ) (k : Key) (s : PlainShard) → n < numbers → has_place place k s ≡ true → IsTrue (legal s (Clear n k))
clear_legal n place k s number has = and_true _ _ (number_is n number) (some_place (place_of k s) has)
  where
    some_place : (o : Option ℕ) → option_map_or (λ x. x == place) o false ≡ true → is_some o ≡ true
    some_place None h = absurd (cc)
    some_place (Some x) h = refl

pub clear_there : (n place : ℕ) (k : Key) (s : PlainShard) → n < numbers → has_place place k s ≡ true → (e : Entry) × (entry_of k s ≡ Some e)
clear_there n place k s number has = placed-entry s k (both_true (is_number n) _ (clear_legal n place k s number has)).1

pub clear_like : (n : ℕ) (k : Key) (s : PlainShard) → IsSound s → IsTrue (legal s (Clear n k)) → (x : Entry) → entry_of k s ≡ Some x → IsLikeIf x (entry_of k (after s (Clear n k)))
clear_like n k s sound ok x there = subst (IsLikeIf x) (sym (own-entry s (Clear n k) k sound ok refl ∙ ap (option_and_then without_place) there)) (by_state (is_same_state x.state L2Only))
  where
    by_state : (b : Bool) → IsLikeIf x (if b then None else Some (record x { place = None }))
    by_state true = like_none x
    by_state false = like_some x (record x { place = None }) record { key = refl; reading = refl; digest = refl; resident = refl }

-- ---- restore

pub restore_legal : (n place : ℕ) (k : Key) (d : Option Digest) (s : PlainShard) → n < numbers → is_well_formed k ≡ true → entry_of k s ≡ None → IsTrue (legal s (Restore n k place d))
restore_legal n place k d s number formed absent = and_true _ _ (number_is n number) (and_true _ _ formed (ap (λ (o : Option Entry). not (is_some o)) absent))

-- whether the key is there
pub shown_there : (k : Key) (s : PlainShard) (shown : Option EntryView) (b : Bool) → shown ≡ option_map view_of (entry_of k s) → b ≡ is_some shown → is_some (entry_of k s) ≡ b
shown_there k s shown b is there = sym (there ∙ (ap is_some is ∙ mapped (entry_of k s)))
  where
    mapped : (o : Option Entry) → is_some (option_map view_of o) ≡ is_some o
    mapped None = refl
    mapped (Some e) = refl

pub none_there : (o : Option Entry) → is_some o ≡ false → o ≡ None
none_there None h = refl
none_there (Some e) h = absurd (cc)

pub no_header : (o : Option Entry) (h : Option Header) → IsHead o h → o ≡ None → h ≡ None
no_header None None head is = refl
no_header None (Some h) head is = absurd head
no_header (Some e) h head is = absurd (none-some e (sym is))

-- the header of what is restored says what its entry does
pub restored_head : (r : Restored) (o : Option Entry) → o ≡ Some (restored_entry r.key r.place r.digest)
    → IsHead o (Some record { key = r.key; state = L2Only; reading = false; place = Some r.place; digest = r.digest; block = None })
restored_head r o is = subst (λ (x : Option Entry). IsHead x (Some record { key = r.key; state = L2Only; reading = false; place = Some r.place; digest = r.digest; block = None })) (sym is)
    record { state = refl; reading = refl; place = refl; digest = refl; block = refl }

-- ---- a list of restored keys

pub element_at : {A : Type 0} (l : List A) (i : ℕ) (d : A) → i < length l → get_elem? l i ≡ some (get_or l i d)
element_at [] i d h = absurd (omega arith)
element_at (x ∷ xs) zero d h = refl
element_at (x ∷ xs) (suc i) d h = element_at xs i d (omega arith)

module _ {C : Type 0} (m : Meanings C) (g : Config) (n : ℕ) where
  more_restored : (rs : List Restored) (r : Restored) (p a b : Place (Known C)) → Restores m g n rs p a → Does m g r.key (Restore n r.key r.place r.digest ∷ []) a b → Restores m g n (rs ++ r ∷ []) p b
  more_restored [] r p a b e d = (b, subst (λ (x : Place (Known C)). Does m g r.key (Restore n r.key r.place r.digest ∷ []) x b) e d, refl)
  more_restored (x ∷ rs) r p a b h d = (h.0, h.1, more_restored rs r h.0 a b h.2 d)

  -- the first ones were restored, and then the next one was
  pub restored_more : (list : List Restored) (done : ℕ) (d : Restored) (p a b : Place (Known C)) → done < length list → a.number ≡ n → Restores m g n (take done list) p a
      → Does m g (get_or list done d).key (Restore a.number (get_or list done d).key (get_or list done d).place (get_or list done d).digest ∷ []) a b → Restores m g n (take (done + 1) list) p b
  restored_more list done d p a b below number before one =
      let r = get_or list done d in
      let next : suc done ≡ done + 1 = omega arith in
      subst (λ (l : List Restored). Restores m g n l p b) (sym (take-suc list done d below) ∙ ap (λ (x : ℕ). take x list) next)
      (more_restored (take done list) r p a b before (subst (λ (x : ℕ). Does m g r.key (Restore x r.key r.place r.digest ∷ []) a b) number one))

  -- it stopped at the next one
  pub stopped_at : (list : List Restored) (done : ℕ) (d : Restored) (x : Refused) (p a b : Place (Known C)) → done < length list → p.number ≡ n → Restores m g n (take done list) p a → AnswersOne m g (get_or list done d) a b (Err x)
      → AnswersRestore m g list p b (Err (stop_after x done))
  stopped_at list done d (refused.NoMemory) p a b below number before one = record {
    next = get_or list done d;
    reached = a;
    at = element_at list done d below;
    restored = subst (λ (x : ℕ). Restores m g x (take done list) p a) (sym number) before;
    stopped = one;
    so = tt;
  }
  stopped_at list done d (refused.There front) p a b below number before one = record {
    next = get_or list done d;
    reached = a;
    at = element_at list done d below;
    restored = subst (λ (x : ℕ). Restores m g x (take done list) p a) (sym number) before;
    stopped = one.0;
    so = one.1;
  }
