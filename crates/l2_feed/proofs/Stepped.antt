-- What each call of a feed finds of a shard and makes there; and what that does to the places on the device.
use Rattle.std.proofs.Common.{◌≡◌, ℕ, suc, false, not, IsTrue, List, [], ◌∷◌, ◌++◌, Some, None, inl, refl, sym, ap, ◌∙◌, subst, ⊎_elim}
use mathlib.Core.Option.{some}
use mathlib.Core.Logic.{dite}
use native.Mathlib.Decide.{ℕ_discrete}
use lib.ListN.{get_elem?}
use Rattle.blk_ptr.specs.declared.key.Key.{Key}
use Rattle.blk_ptr.specs.Hash.{shard_of}
use Rattle.arc_lists.proofs.Standing.{and_left, and_right}
use Rattle.arc_core.specs.Config.{IsConfig}
use Rattle.arc_core.specs.declared.config.Config.{Config}
use Rattle.arc_core.specs.declared.event.Event.{Event}
use Rattle.arc_core.specs.declared.event.Event.TheVariants.{Pass, Hit, Miss, Arrive, Fail, Drop, Past, Hand, Insert, Release, Pick, FeedEnd, Set, Leave, Clear, Restore, Resize}
use Rattle.arc_core.specs.Operations.{is_of_feed}
use Rattle.arc_core.specs.Places.{gives_place}
use Rattle.arc_core.specs.PlainShard.{PlainShard, place_of}
use Rattle.arc_core.specs.Replay.{is_legal_history, replay}
use Rattle.arc_core.specs.ShardLog.{ShardLog}
use Rattle.arc_core.specs.Sound.{IsSound}
use Rattle.arc_core.specs.Step.{after, legal}
use Rattle.arc_core.proofs.Places.{taking-places}
use Rattle.arc_core.proofs.Soundness.{IsSound-after}
use Rattle.arc_core.proofs.Stepping.{replay-append}
use Rattle.turn_table.specs.Moments.{WasFree}
use Rattle.turn_table.specs.Places.{Place, saw}
use Rattle.arc_table.specs.declared.about.About.{About}
use Rattle.arc_table.specs.declared.item.Item.TheVariants as item
use Rattle.arc_table.specs.declared.view.Known.{Known}
use Rattle.arc_table.specs.Both.{Does}
use Rattle.arc_table.specs.Geometry.{parties_of}
use Rattle.arc_table.specs.Items.{Meanings}
use Rattle.arc_table.specs.pact.Logged.{IsSoundItem, IsSoundLog}
use Rattle.arc_table.proofs.OpeningLaws.{opening_sound}
use Rattle.arc_table.specs.feeder.Picking.{ArePicks, Feeds}
use Rattle.arc_table.specs.pact.Rule.{Pact}
use Rattle.arc_table.specs.scans.Scanning.{AreOfOthers}
use Rattle.arc_table.specs.Seen.{AreOwnBy, HasSeenBy, IsNumberOrCell, MadeBy, events_in, seen_of, turn_of}
use Rattle.arc_table.specs.Telling.{opening_of}
use Rattle.arc_table.proofs.feeder.FeedMade.{feeds_made, picks_made}
use Rattle.arc_table.proofs.HandHeads.{config_then, shard_then}
use Rattle.arc_table.proofs.MadeLemmas.{does-made}
use Rattle.arc_table.proofs.OwnLemmas.{made-sees}
use Rattle.arc_table.proofs.Reached.{SameButNotes, loses_same, sound_log}
use Rattle.arc_table.proofs.SeenLemmas.{events-map}
use Rattle.l2_feed.specs.Places.{place_seen}

-- a party is the feeder of a cache with this configuration, and has seen all that it made
pub record Knows {C : Type 0} (g : Config) (p : Place (Known C)) : Type 0 where
  pub valid : IsConfig g
  pub config : p.own.about.config ≡ g
  pub feeder : p.number ≡ g.callers
  pub seen : HasSeenBy (IsNumberOrCell g) g p

-- it found the shard so, and made these events there, each legal when it came
pub record Stepped {C : Type 0} (g : Config) (shard : ℕ) (es : List Event) (p q : Place (Known C)) : Type 0 where
  pub before : ShardLog
  pub made : MadeBy (IsNumberOrCell g) g shard before es p q
  pub sound : IsSoundLog g before
  pub legal : IsTrue (is_legal_history before.now es)

module _ {C : Type 0} (m : Meanings C) (g : Config) where
  abbrev pub does_stepped : (k : Key) (es : List Event) (p q : Place (Known C)) → Knows g p → AreOwnBy (IsNumberOrCell g) (parties_of g) p.number es → Does m g k es p q → Stepped g (shard_of g.shards k) es p q
  does_stepped k es p q knows own d = record {
    before = d.before;
    made = does-made m g knows.valid k es p q knows.config knows.seen own d;
    sound = sound_log m g k d.chain d.before p d.reached d.takes knows.config knows.valid;
    legal = d.makes.legal;
  }

  module _ (shard : ℕ) (es : List Event) (p q : Place (Known C)) (knows : Knows g p) (f : Feeds m g (turn_of g shard) es p q) where
    abbrev at_try : Place (Known C)
    at_try = saw p f.takes.knew

    abbrev free : WasFree (Pact m) at_try (turn_of g shard) (item.Shard f.before)
    free = f.takes.free

    knew : SameButNotes p.own f.takes.knew
    knew = loses_same m (turn_of g shard) f.takes.owners p at_try f.takes.lost

    settled : free.held.scene.about.config ≡ g
    settled = config_then m at_try (turn_of g shard) f.before free ∙ (ap (λ (x : About). x.config) knew.about ∙ knows.config)

    pub sound : IsSoundLog g f.before
    sound = subst (λ (c : Config). IsSoundLog c f.before) settled
        (subst (IsSoundItem m free.held.scene.about (turn_of g shard)) (shard_then m at_try (turn_of g shard) f.before free) (free.held.logged.sound (turn_of g shard)))

    pub parties : p.parties ≡ parties_of g
    parties = sym free.stands.count ∙ (free.held.attached.parties ∙ ap parties_of settled)

    pub feeds_stepped : AreOwnBy (IsNumberOrCell g) (parties_of g) p.number es → Stepped g shard es p q
    feeds_stepped own = record { before = f.before; made = feeds_made m g shard es p q knows.config knows.seen f own; sound = sound; legal = f.legal }

  abbrev pub picks_stepped : (shard : ℕ) (picks : List Event) (p q : Place (Known C)) → Knows g p → ArePicks g p.number (turn_of g shard) picks
      → (f : Feeds m g (turn_of g shard) (picks ++ FeedEnd p.number ∷ []) p q) → AreOfOthers f.reached picks → Stepped g shard (picks ++ FeedEnd p.number ∷ []) p q
  picks_stepped shard picks p q knows scan f others = record {
    before = f.before;
    made = picks_made m g shard p q (parties shard (picks ++ FeedEnd p.number ∷ []) p q knows f) knows.config knows.seen (inl refl) picks scan f others;
    sound = sound shard (picks ++ FeedEnd p.number ∷ []) p q knows f;
    legal = f.legal;
  }

module _ {C : Type 0} (g : Config) (shard : ℕ) (es : List Event) (p q : Place (Known C)) (s : Stepped g shard es p q) where
  pub knows_then : Knows g p → Knows g q
  knows_then knows = record {
    valid = knows.valid;
    config = ap (λ (x : About). x.config) s.made.same.about ∙ knows.config;
    feeder = s.made.same.number ∙ knows.feeder;
    seen = made-sees g shard s.before es p q s.made knows.seen;
  }

-- ---- places

-- each of these events gives the key no place
abbrev pub GiveNone : Key → List Event → Type 0
GiveNone j es = (y : ℕ) (e : Event) → get_elem? es y ≡ some e → gives_place j e ≡ false

pub taking : (s : PlainShard) (es : List Event) (j : Key) (x : ℕ) → IsSound s → IsTrue (is_legal_history s es) → GiveNone j es → place_of j (replay s es) ≡ Some x → place_of j s ≡ Some x
taking s [] j x sound ok none at = at
taking s (e ∷ es) j x sound ok none at =
    let now : IsTrue (legal s e) = and_left (legal s e) (is_legal_history (after s e) es) ok in
    let there : place_of j (after s e) ≡ Some x = taking (after s e) es j x (IsSound-after s e sound now) (and_right (legal s e) (is_legal_history (after s e) es) ok) (λ y v found. none (suc y) v found) at in
    ⊎_elim (λ (same : place_of j (after s e) ≡ place_of j s). sym same ∙ there) (λ (gone : place_of j (after s e) ≡ None). cc)
    (taking-places s e j sound now (ap not (none 0 e refl)))

pub sound_front : (s : PlainShard) (front rest : List Event) → IsSound s → IsTrue (is_legal_history s (front ++ rest)) → IsSound (replay s front) × IsTrue (is_legal_history (replay s front) rest)
sound_front s [] rest sound ok = (sound, ok)
sound_front s (e ∷ front) rest sound ok =
    sound_front (after s e) front rest (IsSound-after s e sound (and_left (legal s e) (is_legal_history (after s e) (front ++ rest)) ok)) (and_right (legal s e) (is_legal_history (after s e) (front ++ rest)) ok)

-- only the feed gives places
unfed_none : (j : Key) (e : Event) → is_of_feed e ≡ false → gives_place j e ≡ false
unfed_none j (Set n k place) unfed = cc
unfed_none j (Restore n k place d) unfed = cc
unfed_none j (Pass n k owner) unfed = refl
unfed_none j (Hit n k t) unfed = refl
unfed_none j (Miss n k t) unfed = refl
unfed_none j (Arrive n k d from) unfed = refl
unfed_none j (Fail n k at) unfed = refl
unfed_none j (Drop n k) unfed = refl
unfed_none j (Past n k kept) unfed = refl
unfed_none j (Hand n k to) unfed = refl
unfed_none j (Insert n k d t) unfed = refl
unfed_none j (Release n k sole) unfed = refl
unfed_none j (Pick n k) unfed = refl
unfed_none j (FeedEnd n) unfed = refl
unfed_none j (Leave n k why) unfed = refl
unfed_none j (Clear n k) unfed = refl
unfed_none j (Resize n c) unfed = refl

module _ {C : Type 0} (g : Config) (shard : ℕ) (es : List Event) (p q : Place (Known C)) (knows : Knows g p) (s : Stepped g shard es p q) where
  abbrev opening : PlainShard
  opening = opening_of g

  seen_now : seen_of g shard q ≡ s.before.history ++ es
  seen_now = ap events_in s.made.here ∙ events-map (s.before.history ++ es)

  now_is : replay opening (seen_of g shard q) ≡ replay s.before.now es
  now_is = ap (replay opening) seen_now ∙ (replay-append opening s.before.history es ∙ ap (λ (x : PlainShard). replay x es) s.made.replayed)

  -- the place of a key of this shard, as it is now
  pub here_now : (j : Key) → shard_of g.shards j ≡ shard → place_seen g q j ≡ place_of j (replay s.before.now es)
  here_now j is = subst (λ (i : ℕ). place_of j (replay opening (seen_of g i q)) ≡ place_of j (replay s.before.now es)) (sym is) (ap (place_of j) now_is)

  legal_all : IsTrue (is_legal_history opening (seen_of g shard p ++ s.made.found.rest))
  legal_all = subst (λ (l : List Event). IsTrue (is_legal_history opening l)) s.made.found.whole
      (subst (λ (x : PlainShard). IsTrue (is_legal_history x s.before.history)) s.sound.opening s.sound.replayed.legal)

  front : IsSound (replay opening (seen_of g shard p)) × IsTrue (is_legal_history (replay opening (seen_of g shard p)) s.made.found.rest)
  front = sound_front opening (seen_of g shard p) s.made.found.rest (opening_sound g.c g.mintime g.bounds knows.valid.amounts.c) legal_all

  found_is : s.before.now ≡ replay (replay opening (seen_of g shard p)) s.made.found.rest
  found_is = sym s.made.replayed ∙ (ap (replay opening) s.made.found.whole ∙ replay-append opening (seen_of g shard p) s.made.found.rest)

  -- a place that a key of this shard had when it was found, it had before
  pub had_before : (j : Key) (x : ℕ) → shard_of g.shards j ≡ shard → place_of j s.before.now ≡ Some x → place_seen g p j ≡ Some x
  had_before j x is at =
      let there = taking (replay opening (seen_of g shard p)) s.made.found.rest j x front.0 front.1 (λ y e found. unfed_none j e (s.made.found.unfed knows.feeder y e found)) (sym (ap (place_of j) found_is) ∙ at) in
      subst (λ (i : ℕ). place_of j (replay opening (seen_of g i p)) ≡ Some x) (sym is) there

  -- where the events give a key no place, it had the one that it has
  pub takes_only : (j : Key) (x : ℕ) → GiveNone j es → place_seen g q j ≡ Some x → place_seen g p j ≡ Some x
  takes_only j x none at = dite (ℕ_discrete (shard_of g.shards j) shard)
      (λ is. had_before j x is (taking s.before.now es j x s.sound.replayed.sound s.legal none (sym (here_now j is) ∙ at)))
      (λ differs. subst (λ (l : List Event). place_of j (replay opening l) ≡ Some x) (ap events_in (s.made.others (shard_of g.shards j) differs)) at)
