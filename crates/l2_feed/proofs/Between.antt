-- Which events a feed leaves in a shard, and that others take places and give none.
use Rattle.std.proofs.Common.{◌≡◌, ℕ, zero, suc, true, false, IsTrue, List, [], ◌∷◌, ◌++◌, map, Some, inl, inr, refl, sym, ap, ◌∙◌, subst}
use Rattle.std.specs.Prelude.{◌==◌}
use Rattle.std.specs.List.{AllByRecursion}
use Rattle.std.proofs.lemmas.Bool.{false≢true}
use Rattle.std.proofs.lemmas.List.{map-append}
use mathlib.Core.Option.{some-injective, some-ne-none}
use Rattle.vdev_io.specs.declared.device.CacheDev.{Ghosts}
use Rattle.vdev_io.specs.Calls.{DeviceCall}
use Rattle.blk_ptr.specs.declared.key.Key.{Key}
use Rattle.arc_lists.proofs.Tables.{cases_true}
use Rattle.arc_core.specs.declared.config.Config.{Config}
use Rattle.arc_core.specs.declared.event.Event.{Event}
use Rattle.arc_core.specs.declared.event.Event.TheVariants.{Pass, Hit, Miss, Arrive, Fail, Drop, Past, Hand, Insert, Release, Pick, FeedEnd, Set, Leave, Clear, Restore, Resize}
use Rattle.arc_core.specs.Operations.{Moment, has_its_number, is_pass, moments, number_of, own_events, own_moments}
use Rattle.arc_core.specs.Places.{gives_place}
use Rattle.arc_core.specs.PlainShard.{PlainShard, place_of}
use Rattle.arc_core.specs.Replay.{is_legal_history, replay}
use Rattle.arc_core.proofs.OwnEvents.{own-events-are}
use Rattle.arc_core.proofs.Stepping.{replay-append}
use Rattle.arc_table.specs.Items.{Meanings}
use Rattle.arc_table.proofs.OpeningLaws.{opening_sound}
use Rattle.arc_table.specs.Seen.{seen_of}
use Rattle.arc_table.specs.Telling.{opening_of}
use Rattle.l2_feed.specs.Acts.{Act}
use Rattle.l2_feed.specs.Alone.{events_at}
use Rattle.l2_feed.specs.Series.{FeedsMakeEvents, GivesNone, PlacesGo}
use Rattle.l2_feed.specs.Told.{TellActs, acts_at, shard_of_act}
use Rattle.l2_feed.proofs.Stepped.{GiveNone, sound_front, taking}

-- ---- events of acts

-- the moments of the acts of a shard have their events
tell_events : (g : Config) (n shard : ℕ) (calls : List DeviceCall) (acts : List Act) (ms : List Moment) → TellActs n calls (acts_at g shard acts) ms → map (λ (m : Moment). m.event) ms ≡ events_at g n shard acts
tell_events g n shard calls [] ms tell = ap (map (λ (m : Moment). m.event)) tell
tell_events g n shard calls (act ∷ acts) ms tell = elim (cases_true (shard_of_act g act == shard)) [
  | inl here ↦
      let t : TellActs n calls (act ∷ acts_at g shard acts) ms = rw here at tell in
      rw here (ap (map (λ (m : Moment). m.event)) t.2 ∙ (map-append (λ (m : Moment). m.event) t.0 t.1 ∙ (λ i. t.3.0 i ++ tell_events g n shard calls acts t.1 t.4 i)))
  | inr other ↦
      let t : TellActs n calls (acts_at g shard acts) ms = rw other at tell in
      rw other (tell_events g n shard calls acts ms t)
]

pub make_events : {C D : Type 0} (m : Meanings C) (device : Ghosts D) → FeedsMakeEvents m device
make_events m device g was now old new p q report fed shard =
    let t = fed.told shard in
    sym (own-events-are p.number (opening_of g) (seen_of g shard q))
    ∙ (ap (map (λ (x : Moment). x.event)) t.1
    ∙ (map-append (λ (x : Moment). x.event) (own_moments p.number (moments (opening_of g) (seen_of g shard p))) t.0
    ∙ (λ i. own-events-are p.number (opening_of g) (seen_of g shard p) i ++ tell_events g p.number shard fed.calls fed.acts t.0 t.2 i)))

-- ---- events of others

-- an event of another number than the feeder's gives no place
other_none : (callers cells : ℕ) (e : Event) → IsTrue (has_its_number callers cells e) → (number_of e == callers) ≡ false → GivesNone e
other_none callers cells (Set n k place) has other j = absurd (false≢true (sym other ∙ has))
other_none callers cells (Restore n k place d) has other j = absurd (false≢true (sym other ∙ has))
other_none callers cells (Pass n k owner) has other j = refl
other_none callers cells (Hit n k t) has other j = refl
other_none callers cells (Miss n k t) has other j = refl
other_none callers cells (Arrive n k d from) has other j = refl
other_none callers cells (Fail n k at) has other j = refl
other_none callers cells (Drop n k) has other j = refl
other_none callers cells (Past n k kept) has other j = refl
other_none callers cells (Hand n k to) has other j = refl
other_none callers cells (Insert n k d t) has other j = refl
other_none callers cells (Release n k sole) has other j = refl
other_none callers cells (Pick n k) has other j = refl
other_none callers cells (FeedEnd n) has other j = refl
other_none callers cells (Leave n k why) has other j = refl
other_none callers cells (Clear n k) has other j = refl
other_none callers cells (Resize n c) has other j = refl

-- a pass gives none
pass_none : (e : Event) → is_pass e ≡ true → GivesNone e
pass_none (Pass n k owner) is j = refl
pass_none (Set n k place) is j = cc
pass_none (Restore n k place d) is j = cc
pass_none (Hit n k t) is j = refl
pass_none (Miss n k t) is j = refl
pass_none (Arrive n k d from) is j = refl
pass_none (Fail n k at) is j = refl
pass_none (Drop n k) is j = refl
pass_none (Past n k kept) is j = refl
pass_none (Hand n k to) is j = refl
pass_none (Insert n k d t) is j = refl
pass_none (Release n k sole) is j = refl
pass_none (Pick n k) is j = refl
pass_none (FeedEnd n) is j = refl
pass_none (Leave n k why) is j = refl
pass_none (Clear n k) is j = refl
pass_none (Resize n c) is j = refl

-- what came behind gives none
rest_none : (callers cells : ℕ) (rest : List Event) → AllByRecursion (λ (e : Event). IsTrue (has_its_number callers cells e)) rest → AllByRecursion GivesNone (own_events callers rest) → AllByRecursion GivesNone rest
rest_none callers cells [] numbers own = tt
rest_none callers cells (e ∷ rest) numbers own = elim (cases_true (number_of e == callers)) [
  | inr other ↦ (other_none callers cells e numbers.0 other, rest_none callers cells rest numbers.1 (rw other at own))
  | inl here ↦ elim (cases_true (is_pass e)) [
    | inl pass ↦ (pass_none e pass, rest_none callers cells rest numbers.1 (rw here at (rw pass at own)))
    | inr none ↦ let both : AllByRecursion GivesNone (e ∷ own_events callers rest) = rw here at (rw none at own) in (both.0, rest_none callers cells rest numbers.1 both.1)
  ]
]

pub give_none : (k : Key) (es : List Event) → AllByRecursion GivesNone es → GiveNone k es
give_none k [] all y e at = absurd (some-ne-none e (sym at))
give_none k (x ∷ es) all zero e at = subst (λ (v : Event). gives_place k v ≡ false) (some-injective x e at) (all.0 k)
give_none k (x ∷ es) all (suc y) e at = give_none k es all.1 y e at

pub places_go : PlacesGo
places_go g seen now valid goes k x at =
    let opening : PlainShard = opening_of g in
    let legal : IsTrue (is_legal_history opening (seen ++ goes.rest)) = subst (λ (l : List Event). IsTrue (is_legal_history opening l)) goes.whole goes.legal in
    let front = sound_front opening seen goes.rest (opening_sound g.c g.mintime g.bounds valid.amounts.c) legal in
    let there : place_of k (replay (replay opening seen) goes.rest) ≡ Some x = sym (ap (place_of k) (ap (replay opening) goes.whole ∙ replay-append opening seen goes.rest)) ∙ at in
    taking (replay opening seen) goes.rest k x front.0 front.1 (give_none k goes.rest (rest_none g.callers g.cells goes.rest goes.numbers goes.own)) there
