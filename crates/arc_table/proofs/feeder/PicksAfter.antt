-- What the feeder lists as picked after each of its calls.
use Rattle.std.proofs.Common.{◌≡◌, ◌≢◌, if◌then◌else◌, ℕ, ◌==◌, Bool, true, false, List, [], ◌∷◌, refl, sym, ap, ◌∙◌, subst, eq-eqb}
use mathlib.Core.Logic.{dite}
use native.Mathlib.Decide.{ℕ_discrete}
use Rattle.blk_ptr.specs.declared.key.Key.{Key}
use Rattle.arc_core.specs.declared.config.Config.{Config}
use Rattle.arc_core.specs.declared.entry.Entry.{Entry}
use Rattle.arc_core.specs.declared.entry.Picked.{Picked}
use Rattle.arc_core.specs.declared.event.Event.{Event}
use Rattle.arc_core.specs.declared.event.Event.TheVariants.{Set, Leave, Clear, Restore}
use Rattle.arc_core.specs.declared.event.Why.{Why}
use Rattle.arc_core.specs.declared.event.Why.TheVariants as why
use Rattle.arc_core.specs.declared.served.Restored.{Restored}
use Rattle.arc_core.specs.Changes.{changed, gone, without_pick}
use Rattle.arc_core.specs.PlainShard.{PlainShard}
use Rattle.arc_core.specs.Replay.{replay}
use Rattle.turn_table.specs.Places.{Place}
use Rattle.arc_table.specs.declared.about.About.{About}
use Rattle.arc_table.specs.declared.feeds.Cleared.{Cleared}
use Rattle.arc_table.specs.declared.feeds.Cleared.TheVariants as answer
use Rattle.arc_table.specs.declared.item.Item.TheVariants as item
use Rattle.arc_table.specs.declared.view.Known.{Known}
use Rattle.arc_table.specs.declared.view.Ledger.{Ledger}
use Rattle.arc_table.specs.Both.{Does}
use Rattle.arc_table.specs.feeder.Feeding.{AnswersClear, AnswersSet, Leaves, Restores}
use Rattle.arc_table.specs.Fronts.{list_at}
use Rattle.arc_table.specs.Geometry.{shard_turn}
use Rattle.arc_table.specs.Items.{Meanings}
use Rattle.arc_table.specs.feeder.Listing.{IsFeederOf, PicksAre, picks_of}
use Rattle.arc_table.specs.feeder.Picking.{Feeds}
use Rattle.arc_table.specs.TableLaws.{list_else, list_here}
use Rattle.arc_table.proofs.Afterwards.{does_ledger, does_stays}
use Rattle.arc_table.proofs.feeder.FeedEvents.{feeder_is}
use Rattle.arc_table.proofs.Reached.{picked_is, reached, took_is}

cleared_picks : (k : Key) (f : Entry → Entry) (s : PlainShard) (b : Bool) → (if b then gone k s else changed k f s).picked ≡ s.picked
cleared_picks k f s true = refl
cleared_picks k f s false = refl

module _ {C : Type 0} (m : Meanings C) (g : Config) (k : Key) (es : List Event) (p q : Place (Known C)) (feeder : IsFeederOf g p) (d : Does m g k es p q) where
  abbrev turn : ℕ
  turn = shard_turn g k

  table : q.own.ledger.picked ≡ (turn, d.makes.after.now.picked) ∷ p.own.ledger.picked
  table = ap (λ (l : Ledger). l.picked) (does_ledger m g feeder.0 k es p q feeder.1 d)
      ∙ ap (λ (b : Bool). if b then ((turn, d.makes.after.now.picked) ∷ p.own.ledger.picked) else p.own.ledger.picked) (eq-eqb p.number g.callers feeder.2)

  -- what it found picked is what it listed
  pub picks_found : d.before.now.picked ≡ picks_of turn p
  picks_found = picked_is m g k d.chain d.before p d.reached d.takes feeder.1 feeder.0 (feeder_is m g k d.chain d.before p d.reached d.takes feeder.1 feeder.0 feeder.2)
      ∙ ap (λ (l : Ledger). list_at turn l.picked) (reached m g k d.chain d.before p d.reached d.takes).ledger

  -- what it lists is what is picked after the events
  pub does_picks : PicksAre turn (replay d.before.now es).picked p q
  does_picks = record {
    here = ap (list_at turn) table ∙ (list_here turn d.makes.after.now.picked p.own.ledger.picked ∙ ap (λ (s : PlainShard). s.picked) d.makes.now);
    others = λ j differs. ap (list_at j) table ∙ list_else turn j d.makes.after.now.picked p.own.ledger.picked differs;
  }

  -- events that leave what is picked change no list
  pub same_picks : (replay d.before.now es).picked ≡ d.before.now.picked → (j : ℕ) → picks_of j q ≡ picks_of j p
  same_picks same j = dite (ℕ_discrete j turn)
      (λ is. subst (λ (x : ℕ). picks_of x q ≡ picks_of x p) (sym is) (does_picks.here ∙ (same ∙ picks_found)))
      (λ differs. does_picks.others j differs)

module _ {C : Type 0} (m : Meanings C) (g : Config) (k : Key) (p q : Place (Known C)) (feeder : IsFeederOf g p) where
  less : (e : Event) (d : Does m g k (e ∷ []) p q) → (replay d.before.now (e ∷ [])).picked ≡ without_pick k d.before.now.picked → PicksAre (shard_turn g k) (without_pick k (picks_of (shard_turn g k) p)) p q
  less e d is = subst (λ (l : List Picked). PicksAre (shard_turn g k) l p q) (is ∙ ap (without_pick k) (picks_found m g k (e ∷ []) p q feeder d)) (does_picks m g k (e ∷ []) p q feeder d)

  pub set_picks : (place : ℕ) (result : Bool) → AnswersSet m g k place p q result → PicksAre (shard_turn g k) (without_pick k (picks_of (shard_turn g k) p)) p q
  set_picks place true d = less (Set p.number k place) d refl
  set_picks place false d = less (Leave p.number k why.Gone) d refl

  pub leave_picks : (reason : Why) → Leaves m g k reason p q → PicksAre (shard_turn g k) (without_pick k (picks_of (shard_turn g k) p)) p q
  leave_picks reason l = less (Leave p.number k l.0) l.2 refl

  pub clear_picks : (place : ℕ) (result : Cleared) → AnswersClear m g k place p q result → (j : ℕ) → picks_of j q ≡ picks_of j p
  clear_picks place (answer.Done) d = same_picks m g k (Clear p.number k ∷ []) p q feeder d.0 (cleared_picks k _ d.0.before.now _)
  clear_picks place (answer.Not front) d = same_picks m g k [] p q feeder d.0 refl

module _ {C : Type 0} (m : Meanings C) (g : Config) where
  pub restores_picks : (n : ℕ) (list : List Restored) (p q : Place (Known C)) → IsFeederOf g p → Restores m g n list p q → (j : ℕ) → picks_of j q ≡ picks_of j p
  restores_picks n [] p q feeder e j = ap (picks_of j) e
  restores_picks n (r ∷ rs) p q feeder h j =
      let s = does_stays m g feeder.0 r.key (Restore n r.key r.place r.digest ∷ []) p h.0 feeder.1 h.1 in
      restores_picks n rs h.0 q (feeder.0, ap (λ (a : About). a.config) s.about ∙ feeder.1, s.number ∙ feeder.2) h.2 j
      ∙ same_picks m g r.key (Restore n r.key r.place r.digest ∷ []) p h.0 feeder h.1 refl j

-- a list that is put in front for one turn, where it is
put_else : (i j : ℕ) (b : Bool) (x : List Picked) (all : List (ℕ × List Picked)) → j ≢ i → list_at j (if b then ((i, x) ∷ all) else all) ≡ list_at j all
put_else i j true x all differs = list_else i j x all differs
put_else i j false x all differs = refl

module _ {C : Type 0} (m : Meanings C) (g : Config) (i : ℕ) where
  pub feeds_picks : (es : List Event) (p q : Place (Known C)) → Feeds m g i es p q → (j : ℕ) → j ≢ i → picks_of j q ≡ picks_of j p
  feeds_picks es p q f j differs =
      ap (picks_of j) f.gave
      ∙ (put_else i j (f.tried.own.number == f.tried.own.about.config.callers) f.after.now.picked f.tried.own.ledger.picked differs
      ∙ ap (λ (l : Ledger). list_at j l.picked) (f.tries.ledger ∙ (took_is m i (item.Shard f.before) p f.reached f.takes).ledger))
