-- What a feed picks of a shard: within the bound of one feed, no key twice, none with a place; and without others just the candidates.
use Rattle.std.proofs.Common.{◌≡◌, ◌⊎◌, if◌then◌else◌, ℕ, zero, suc, ◌<◌, ◌≤◌, Bool, true, false, List, [], ◌∷◌, ◌++◌, map, Option, Some, None, refl, sym, ap, ◌∙◌, subst, ⊎_elim, eq-eqb, arith}
use Rattle.std.specs.Prelude.{IsTrue, ◌&&◌, is_none, sum_by}
use Rattle.std.specs.Option.{option_map_or}
use mathlib.Core.Option.{some, some-ne-none}
use lib.ListN.{get_elem?}
use Rattle.blk_ptr.specs.declared.key.Key.{Key}
use Rattle.arc_lists.proofs.Standing.{and_left, and_right}
use Rattle.arc_core.specs.declared.config.Config.{Config}
use Rattle.arc_core.specs.declared.config.Bounds.{Bounds}
use Rattle.arc_core.specs.declared.entry.Phase.{Phase}
use Rattle.arc_core.specs.declared.entry.Phase.TheVariants.{Idle, Picking, Writing}
use Rattle.arc_core.specs.declared.entry.Picked.{Picked}
use Rattle.arc_core.specs.declared.event.Event.{Event}
use Rattle.arc_core.specs.declared.event.Event.TheVariants.{FeedEnd, Pass, Pick}
use Rattle.arc_core.specs.Candidate.{candidate, picked_bytes}
use Rattle.arc_core.specs.PlainShard.{PlainShard, is_number, place_of}
use Rattle.arc_core.specs.Replay.{is_legal_history, replay}
use Rattle.arc_core.specs.Sound.{IsSound, fits_phase}
use Rattle.arc_core.specs.Step.{after, legal, may_pick, picking}
use Rattle.arc_core.proofs.Evictions.{is_none_of}
use Rattle.arc_core.proofs.Feeding.{bytes-append, candidate-wanted, candidate-within, chosen-wanted, candidate-chosen}
use Rattle.arc_core.proofs.Others.{frame-kept}
use Rattle.arc_core.proofs.Soundness.{IsSound-after, picked-candidate}
use Rattle.turn_table.specs.declared.standing.Kept.{Kept}
use Rattle.turn_table.specs.Moments.{WasFree}
use Rattle.turn_table.specs.Places.{IsIn, Place, saw}
use Rattle.arc_table.specs.declared.about.About.{About}
use Rattle.arc_table.specs.declared.item.Item.TheVariants as item
use Rattle.arc_table.specs.declared.picks.Picked.{Picked as Block}
use Rattle.arc_table.specs.declared.view.Known.{Known}
use Rattle.arc_table.specs.Fronts.{list_at}
use Rattle.arc_table.specs.Items.{Meanings}
use Rattle.arc_table.specs.feeder.Listing.{AreFewPicks, IsFeederOf, all_picks, candidates_of, picks_of}
use Rattle.arc_table.specs.pact.Logged.{IsSoundItem, IsSoundLog, is_picking}
use Rattle.arc_table.specs.feeder.Picking.{ArePicks, Feeds, PicksAll, left_to_pick}
use Rattle.arc_table.specs.pact.Rule.{Pact}
use Rattle.arc_table.specs.scans.Scanning.{AreOfOthers}
use Rattle.arc_table.specs.Seen.{HasAll}
use Rattle.arc_table.specs.TableLaws.{list_here}
use Rattle.arc_table.proofs.TableLaws.{get_more}
use Rattle.arc_table.proofs.feeder.Candidates.{candidate_is, fewer_picked}
use Rattle.arc_table.proofs.HandHeads.{config_then, shard_then}
use Rattle.arc_table.proofs.Reached.{SameButNotes, Took, loses_same, took_is}
use Rattle.arc_table.proofs.scans.ScanAlone.{never-in}

-- ---- over the events of a scan

-- what holds of a shard as a feed goes on
pub record IsWithin (bounds : Bounds) (s : PlainShard) : Type 0 where
  pub bounds_are : s.bounds ≡ bounds
  pub within : picked_bytes s ≤ s.bounds.write_max
  pub placeless : (j : ℕ) (x : Picked) → get_elem? s.picked j ≡ some x → place_of x.key s ≡ None
  pub sound : IsSound s

within-pick : (b : Bounds) (s : PlainShard) (n : ℕ) (k : Key) → IsTrue (legal s (Pick n k)) → IsWithin b s → IsWithin b (after s (Pick n k))
within-pick b s n k ok w =
    let next = picked-candidate s n k ok in
    record {
      bounds_are = w.bounds_are;
      within = subst (λ (x : ℕ). x ≤ s.bounds.write_max) (sym (bytes-append s.picked _)) (candidate-within s k next);
      placeless = λ j x at. ⊎_elim (λ (old : get_elem? s.picked j ≡ some x). w.placeless j x old)
          (λ (new : (j ≡ _) × (_ ≡ x)). subst (λ (y : Picked). place_of y.key s ≡ None) new.1 (is_none_of (place_of k s) (candidate-wanted s k next).placeless))
          (get_more s.picked _ x j at);
      sound = IsSound-after s (Pick n k) w.sound ok;
    }

within-picks : (b : Bounds) (g : Config) (n i : ℕ) (s : PlainShard) (es : List Event) → ArePicks g n i es → IsTrue (is_legal_history s es) → IsWithin b s → IsWithin b (replay s es)
within-picks b g n i s [] picks ok w = w
within-picks b g n i s (Pass a k owner ∷ es) picks ok w =
    let legal_now : IsTrue (legal s (Pass a k owner)) = and_left (legal s (Pass a k owner)) _ ok in
    within-picks b g n i (after s (Pass a k owner)) es picks.1 (and_right (legal s (Pass a k owner)) _ ok)
    record { bounds_are = w.bounds_are; within = w.within; placeless = w.placeless; sound = IsSound-after s (Pass a k owner) w.sound legal_now }
within-picks b g n i s (Pick a k ∷ es) picks ok w =
    within-picks b g n i (after s (Pick a k)) es picks.1 (and_right (legal s (Pick a k)) _ ok) (within-pick b s a k (and_left (legal s (Pick a k)) _ ok) w)
within-picks b g n i s (_ ∷ es) picks ok w = absurd picks

-- a legal history in two parts
parts-legal : (s : PlainShard) (front rest : List Event) → IsTrue (is_legal_history s (front ++ rest)) → IsTrue (is_legal_history s front) × IsTrue (is_legal_history (replay s front) rest)
parts-legal s [] rest ok = (refl, ok)
parts-legal s (e ∷ es) rest ok =
    let h = parts-legal (after s e) es rest (and_right (legal s e) _ ok) in
    ((λ z. (and_left (legal s e) _ ok z) && (h.0 z)), h.1)

replay-parts : (s : PlainShard) (front rest : List Event) → replay s (front ++ rest) ≡ replay (replay s front) rest
replay-parts s [] rest = refl
replay-parts s (e ∷ es) rest = replay-parts (after s e) es rest

-- a feed that may end has not begun to write, and neither had it before its picks
idle-before : (g : Config) (n i : ℕ) (s : PlainShard) (es : List Event) → ArePicks g n i es → IsTrue (is_legal_history s es) → may_pick (replay s es).phase ≡ true → may_pick s.phase ≡ true
idle-before g n i s [] picks ok may = may
idle-before g n i s (Pass a k owner ∷ es) picks ok may = idle-before g n i (after s (Pass a k owner)) es picks.1 (and_right (legal s (Pass a k owner)) _ ok) may
idle-before g n i s (Pick a k ∷ es) picks ok may = and_left (may_pick s.phase) _ (and_right (is_number a) _ (and_left (legal s (Pick a k)) _ ok))
idle-before g n i s (_ ∷ es) picks ok may = absurd picks

none-picked : (phase : Phase) (picks : List Picked) → may_pick phase ≡ true → is_picking phase ≡ false → fits_phase phase picks ≡ true → picks ≡ []
none-picked Idle [] may settled fits = refl
none-picked Idle (x ∷ xs) may settled fits = cc
none-picked Picking picks may settled fits = cc
none-picked Writing picks may settled fits = cc

-- ---- the bounds of a cache are those of its shards

bounds-kept : (s : PlainShard) (es : List Event) → (replay s es).bounds ≡ s.bounds
bounds-kept s [] = refl
bounds-kept s (e ∷ es) = bounds-kept (after s e) es ∙ (frame-kept s e).bounds

-- ---- what `pick` did

module _ {C : Type 0} (m : Meanings C) (g : Config) (i : ℕ) (p q : Place (Known C)) (old new : List Block) (feeder : IsFeederOf g p) (a : PicksAll m g i p q old new) where
  abbrev f : Feeds m g i (a.picks ++ FeedEnd p.number ∷ []) p q
  f = a.feeds

  took : Took m i (item.Shard f.before) p f.reached
  took = took_is m i (item.Shard f.before) p f.reached f.takes

  abbrev at_try : Place (Known C)
  at_try = saw p f.takes.knew

  abbrev free : WasFree (Pact m) at_try i (item.Shard f.before)
  free = f.takes.free

  knew : SameButNotes p.own f.takes.knew
  knew = loses_same m i f.takes.owners p at_try f.takes.lost

  sound : IsSoundLog g f.before
  sound = subst (λ (c : Config). IsSoundLog c f.before) (config_then m at_try i f.before free ∙ (ap (λ (x : About). x.config) knew.about ∙ feeder.1))
      (subst (IsSoundItem m free.held.scene.about i) (shard_then m at_try i f.before free) (free.held.logged.sound i))

  parts : IsTrue (is_legal_history f.before.now a.picks) × IsTrue (is_legal_history (replay f.before.now a.picks) (FeedEnd p.number ∷ []))
  parts = parts-legal f.before.now a.picks (FeedEnd p.number ∷ []) f.legal

  abbrev end : PlainShard
  end = replay f.before.now a.picks

  ends : IsTrue (legal end (FeedEnd p.number))
  ends = and_left (legal end (FeedEnd p.number)) _ parts.1

  may-end : may_pick end.phase ≡ true
  may-end = and_left (may_pick end.phase) _ (and_right (is_number p.number) _ ends)

  no-candidate : candidate end ≡ None
  no-candidate = none-there (candidate end) (and_right (may_pick end.phase) _ (and_right (is_number p.number) _ ends))
    where
      none-there : (o : Option Key) → is_none o ≡ true → o ≡ None
      none-there None e = refl
      none-there (Some x) e = cc

  -- nothing is picked where a feed begins
  begins-idle : f.before.now.picked ≡ []
  begins-idle = none-picked f.before.now.phase f.before.now.picked (idle-before g p.number i f.before.now a.picks a.scan parts.0 may-end) sound.settled sound.replayed.sound.feed

  starts : IsWithin g.bounds f.before.now
  starts = record {
    bounds_are = ap (λ (s : PlainShard). s.bounds) (sym sound.replayed.replayed) ∙ (bounds-kept f.before.opening f.before.history ∙ ap (λ (s : PlainShard). s.bounds) sound.opening);
    within = subst (λ (ps : List Picked). sum_by (λ (x : Picked). x.key.size) ps ≤ f.before.now.bounds.write_max) (sym begins-idle) (omega arith);
    placeless = λ j x at. absurd (some-ne-none x (sym (subst (λ (ps : List Picked). get_elem? ps j ≡ some x) begins-idle at)));
    sound = sound.replayed.sound;
  }

  at-end : IsWithin g.bounds end
  at-end = within-picks g.bounds g p.number i f.before.now a.picks a.scan parts.0 starts

  after-is : f.after.now ≡ after end (FeedEnd p.number)
  after-is = f.now ∙ replay-parts f.before.now a.picks (FeedEnd p.number ∷ [])

  -- the list of the shard is what is picked in it
  listed-is : picks_of i q ≡ end.picked
  listed-is =
      let own : f.tried.own.number ≡ f.tried.own.about.config.callers =
      f.tries.own_number ∙ (took.own_number ∙ (sym knew.number ∙ ((free.held.attached.views at_try.number at_try.own free.stands.shows.0).number ∙ (feeder.2
      ∙ (ap (λ (x : Config). x.callers) (sym feeder.1) ∙ ap (λ (x : About). x.config.callers) (sym (f.tries.about ∙ took.about))))))) in
      ap (picks_of i) f.gave
      ∙ (ap (λ (b : Bool). list_at i (if b then ((i, f.after.now.picked) ∷ f.tried.own.ledger.picked) else f.tried.own.ledger.picked)) (eq-eqb f.tried.own.number f.tried.own.about.config.callers own)
      ∙ (list_here i f.after.now.picked f.tried.own.ledger.picked ∙ ap (λ (s : PlainShard). s.picked) after-is))

  pub few_picks : AreFewPicks g.bounds.write_max f.after.now (picks_of i q)
  few_picks = subst (λ (x : PlainShard × List Picked). AreFewPicks g.bounds.write_max x.0 x.1) (λ z. (sym after-is z, sym listed-is z)) record {
    within = subst (λ (b : Bounds). picked_bytes end ≤ b.write_max) at-end.bounds_are at-end.within;
    apart = at-end.sound.picks;
    placeless = at-end.placeless;
  }

  -- ---- and who picks alone

  -- a party that has every number passes no key
  alone-picks : (es : List Event) → HasAll f.reached → ArePicks g p.number i es → AreOfOthers f.reached es → (s : PlainShard) → IsTrue (is_legal_history s es) → IsSound s → candidate (replay s es) ≡ None
      → (most : ℕ) → left_to_pick s ≤ most → es ≡ map (Pick p.number) (candidates_of most s)
  alone-picks [] all picks others s ok is none zero few = refl
  alone-picks [] all picks others s ok is none (suc most) few = ap (λ (o : Option Key). map (Pick p.number) (option_map_or (λ k. k ∷ candidates_of most (picking k s)) o [])) (sym none)
  alone-picks (Pass b k owner ∷ es) all picks others s ok is none most few =
      let o = others.0 in
      ⊎_elim (λ (same : f.reached.number ≡ owner). absurd (o.1 (sym same))) (λ (joined : IsIn owner f.reached.joined). absurd (never-in owner f.reached.joined o.2 joined)) (all owner o.0)
  alone-picks (Pick b k ∷ es) all picks others s ok is none zero few =
      let next = picked-candidate s b k (and_left (legal s (Pick b k)) _ ok) in
      let c = candidate_is s k is next in
      let less = fewer_picked b k s c.entry c.there (chosen-wanted s k (candidate-chosen s k next)) in
      absurd (omega arith)
  alone-picks (Pick b k ∷ es) all picks others s ok is none (suc most) few =
      let now : IsTrue (legal s (Pick b k)) = and_left (legal s (Pick b k)) _ ok in
      let next = picked-candidate s b k now in
      let c = candidate_is s k is next in
      let less : left_to_pick (after s (Pick b k)) < left_to_pick s = fewer_picked b k s c.entry c.there (chosen-wanted s k (candidate-chosen s k next)) in
      let rest = alone-picks es all picks.1 others (after s (Pick b k)) (and_right (legal s (Pick b k)) _ ok) (IsSound-after s (Pick b k) is now) none most (omega arith) in
      (λ z. Pick (picks.0.0 z) k ∷ rest z) ∙ ap (λ (o : Option Key). map (Pick p.number) (option_map_or (λ j. j ∷ candidates_of most (picking j s)) o [])) (sym next)
  alone-picks (_ ∷ es) all picks others s ok is none most few = absurd picks

  pub plain_picks : HasAll p → a.picks ≡ map (Pick p.number) (all_picks f.before.now)
  plain_picks all =
      let there : HasAll f.reached = λ n below. subst (λ (x : ℕ × List (Kept (Known C))). (x.0 ≡ n) ⊎ IsIn n x.1) (λ h. (sym took.number h, sym took.joined h)) (all n (subst (λ (x : ℕ). n < x) took.parties below)) in
      alone-picks a.picks there a.scan a.others f.before.now parts.0 sound.replayed.sound no-candidate (left_to_pick f.before.now) (omega arith)
