-- That the acts of a feed stand in what the feeder has seen.
use Rattle.std.proofs.Common.{◌≡◌, ℕ, Bool, true, false, IsTrue, List, [], ◌∷◌, ◌++◌, map, Option, Some, None, refl, sym, ap, ◌∙◌, subst, eq-eqb, ne_eqb, append_assoc, append-nil}
use Rattle.std.specs.Prelude.{◌==◌, if◌then◌else◌}
use Rattle.std.specs.Option.{option_map_or}
use Rattle.std.proofs.lemmas.Bool.{eqb-true, false≢true}
use Rattle.std.proofs.lemmas.List.{map-append}
use Rattle.std.proofs.lemmas.List.Elements.{filter-append}
use mathlib.Core.Logic.{dite}
use native.Mathlib.Decide.{ℕ_discrete}
use Rattle.blk_ptr.specs.declared.key.Key.{Key}
use Rattle.vdev_io.specs.Calls.{DeviceCall}
use Rattle.arc_lists.proofs.Standing.{and_left, and_right}
use Rattle.arc_core.specs.declared.config.Config.{Config}
use Rattle.arc_core.specs.declared.entry.Phase.{Phase}
use Rattle.arc_core.specs.declared.entry.Phase.TheVariants.{Idle, Picking, Writing}
use Rattle.arc_core.specs.declared.entry.Picked.{Picked as Pick_of}
use Rattle.arc_core.specs.declared.event.Event.{Event}
use Rattle.arc_core.specs.declared.event.Event.TheVariants as event
use Rattle.arc_core.specs.Operations.{Moment, is_pass, moments, number_of, own_moments}
use Rattle.arc_core.specs.PlainShard.{PlainShard, is_number, place_of}
use Rattle.arc_core.specs.Replay.{is_legal_history, replay}
use Rattle.arc_core.specs.Sound.{fits_phase}
use Rattle.arc_core.specs.Step.{after, legal, may_pick}
use Rattle.arc_core.proofs.Stepping.{replay-append}
use Rattle.turn_table.specs.Moments.{WasFree}
use Rattle.turn_table.specs.Places.{Place, saw}
use Rattle.arc_table.specs.declared.about.About.{About}
use Rattle.arc_table.specs.declared.item.Item.TheVariants as item
use Rattle.arc_table.specs.declared.picks.Picked.{Picked as Block}
use Rattle.arc_table.specs.declared.view.Known.{Known}
use Rattle.arc_table.specs.Fronts.{list_at}
use Rattle.arc_table.specs.Items.{Meanings}
use Rattle.arc_table.specs.feeder.Listing.{picks_of}
use Rattle.arc_table.specs.pact.Logged.{is_picking}
use Rattle.arc_table.specs.feeder.Picking.{ArePicks, ArePicksOf, Feeds, PicksAll}
use Rattle.arc_table.specs.pact.Rule.{Pact}
use Rattle.arc_table.specs.Seen.{AddsOwn, seen_of, turn_of}
use Rattle.arc_table.specs.TableLaws.{list_here}
use Rattle.arc_table.specs.Telling.{opening_of}
use Rattle.arc_table.proofs.OwnLemmas.{made-own}
use Rattle.arc_table.proofs.reads.ReadMoments.{moment, own-one}
use Rattle.arc_table.proofs.Reached.{loses_same, took_is}
use Rattle.l2_feed.specs.Acts.{Act, Absent, Cleared, DoesAct, Left, Picked, Placed, Refused, Unpicked, keys_of}
use Rattle.l2_feed.specs.Told.{AreTold, FoundSo, IsWrittenAt, TellActs, acts_at, events_of, shard_of_act}
use Rattle.l2_feed.proofs.Settling.{own_no_event}
use Rattle.l2_feed.proofs.Stepped.{Knows, Stepped, feeds_stepped, picks_stepped}
use Rattle.l2_feed.proofs.Taking.{clear_step, leave_step, none_step, set_step}

-- ---- acts in a shard

tell_append : (n : ℕ) (calls : List DeviceCall) (a b : List Act) (ms ns : List Moment) → TellActs n calls a ms → TellActs n calls b ns → TellActs n calls (a ++ b) (ms ++ ns)
tell_append n calls [] b ms ns first behind = subst (λ (l : List Moment). TellActs n calls b (l ++ ns)) (sym first) behind
tell_append n calls (x ∷ a) b ms ns first behind =
    (first.0, first.1 ++ ns, ap (λ (l : List Moment). l ++ ns) first.2 ∙ append_assoc first.0 first.1 ns, first.3, tell_append n calls a b first.1 ns first.4 behind)

module _ {C : Type 0} (g : Config) (calls : List DeviceCall) where
  -- no act
  pub told_none : (p q : Place (Known C)) → q ≡ p → AreTold g calls [] p q
  told_none p q same shard = (
    [],
    subst (λ (r : Place (Known C)). own_moments p.number (moments (opening_of g) (seen_of g shard r)) ≡ own_moments p.number (moments (opening_of g) (seen_of g shard p)) ++ []) (sym same)
        (sym (append-nil (own_moments p.number (moments (opening_of g) (seen_of g shard p))))),
    refl,
  )

  -- one act more: its own moments, in its own shard
  told_one : (act : Act) (ms : List Moment) (p q : Place (Known C)) → AddsOwn g (shard_of_act g act) ms p q → (map (λ (m : Moment). m.event) ms ≡ events_of p.number act) × FoundSo calls act ms → AreTold g calls (act ∷ []) p q
  told_one act ms p q adds is shard = dite (ℕ_discrete (shard_of_act g act) shard)
      (λ same. (
        ms,
        subst (λ (s : ℕ). own_moments p.number (moments (opening_of g) (seen_of g s q)) ≡ own_moments p.number (moments (opening_of g) (seen_of g s p)) ++ ms) same adds.here,
        rw (eq-eqb (shard_of_act g act) shard same) (ms, [], sym (append-nil ms), is, refl),
      ))
      (λ differs. (
        [],
        ap (λ es. own_moments p.number (moments (opening_of g) es)) (adds.others shard (λ e. differs (sym e))) ∙ sym (append-nil (own_moments p.number (moments (opening_of g) (seen_of g shard p)))),
        rw (ne_eqb (shard_of_act g act) shard differs) refl,
      ))

  pub told_then : (a b : List Act) (p q r : Place (Known C)) → q.number ≡ p.number → AreTold g calls a p q → AreTold g calls b q r → AreTold g calls (a ++ b) p r
  told_then a b p q r number first behind shard =
      let f = first shard in
      let t = behind shard in
      let again : own_moments p.number (moments (opening_of g) (seen_of g shard r)) ≡ own_moments p.number (moments (opening_of g) (seen_of g shard q)) ++ t.0 =
      subst (λ (n : ℕ). own_moments n (moments (opening_of g) (seen_of g shard r)) ≡ own_moments n (moments (opening_of g) (seen_of g shard q)) ++ t.0) number t.1 in (
        f.0 ++ t.0,
        again ∙ (ap (λ (l : List Moment). l ++ t.0) f.1 ∙ append_assoc (own_moments p.number (moments (opening_of g) (seen_of g shard p))) f.0 t.0),
        subst (λ (l : List Act). TellActs p.number calls l (f.0 ++ t.0)) (sym (filter-append (λ act. shard_of_act g act == shard) a b))
            (tell_append p.number calls (acts_at g shard a) (acts_at g shard b) f.0 t.0 f.2 (subst (λ (n : ℕ). TellActs n calls (acts_at g shard b) t.0) number t.2)),
      )

-- ---- what was picked

-- the keys of the picks among events
abbrev pub picks_in : List Event → List Key
picks_in [] = []
picks_in (event.Pick n k ∷ es) = k ∷ picks_in es
picks_in (_ ∷ es) = picks_in es

abbrev pick_key : Pick_of → Key
pick_key pick = pick.key

-- a scan's own moments are its picks and the feed's end
scan_moments : (g : Config) (n turn : ℕ) (s : PlainShard) (es : List Event) → ArePicks g n turn es → map (λ (m : Moment). m.event) (own_moments n (moments s (es ++ event.FeedEnd n ∷ []))) ≡ map (event.Pick n) (picks_in es) ++ event.FeedEnd n ∷ []
scan_moments g n turn s [] picks = rw (eq-eqb n n refl) refl
scan_moments g n turn s (event.Pass a k owner ∷ es) picks = rw (eq-eqb a n picks.0.0) (scan_moments g n turn (after s (event.Pass a k owner)) es picks.1)
scan_moments g n turn s (event.Pick a k ∷ es) picks =
    rw (eq-eqb a n picks.0.0) (λ i. event.Pick (picks.0.0 i) k ∷ scan_moments g n turn (after s (event.Pick a k)) es picks.1 i)
scan_moments g n turn s (_ ∷ es) picks = absurd picks

-- what is picked after a scan
scan_picked : (g : Config) (n turn : ℕ) (s : PlainShard) (es : List Event) → ArePicks g n turn es → map pick_key (replay s es).picked ≡ map pick_key s.picked ++ picks_in es
scan_picked g n turn s [] picks = sym (append-nil (map pick_key s.picked))
scan_picked g n turn s (event.Pass a k owner ∷ es) picks = scan_picked g n turn (after s (event.Pass a k owner)) es picks.1
scan_picked g n turn s (event.Pick a k ∷ es) picks =
    scan_picked g n turn (after s (event.Pick a k)) es picks.1
    ∙ (ap (λ (l : List Key). l ++ picks_in es) (map-append pick_key s.picked (_ ∷ [])) ∙ append_assoc (map pick_key s.picked) (k ∷ []) (picks_in es))
scan_picked g n turn s (_ ∷ es) picks = absurd picks

picks_keys : (g : Config) (turn : ℕ) (picks : List Pick_of) (blocks : List Block) → ArePicksOf g turn picks blocks → map pick_key picks ≡ keys_of blocks
picks_keys g turn [] [] are = refl
picks_keys g turn [] (b ∷ bs) are = absurd are
picks_keys g turn (x ∷ xs) [] are = absurd are
picks_keys g turn (x ∷ xs) (b ∷ bs) are = λ i. sym are.0.key i ∷ picks_keys g turn xs bs are.1 i

-- a scan that ends began where nothing was picked
pub idle_before : (g : Config) (n turn : ℕ) (s : PlainShard) (es : List Event) → ArePicks g n turn es → IsTrue (is_legal_history s (es ++ event.FeedEnd n ∷ [])) → may_pick s.phase ≡ true
idle_before g n turn s [] picks ok = and_left (may_pick s.phase) _ (and_right (is_number n) _ (and_left (legal s (event.FeedEnd n)) true ok))
idle_before g n turn s (event.Pass a k owner ∷ es) picks ok = idle_before g n turn (after s (event.Pass a k owner)) es picks.1 (and_right (legal s (event.Pass a k owner)) _ ok)
idle_before g n turn s (event.Pick a k ∷ es) picks ok = and_left (may_pick s.phase) _ (and_right (is_number a) _ (and_left (legal s (event.Pick a k)) _ ok))
idle_before g n turn s (_ ∷ es) picks ok = absurd picks

pub none_picked : (phase : Phase) (picks : List Pick_of) → may_pick phase ≡ true → is_picking phase ≡ false → fits_phase phase picks ≡ true → picks ≡ []
none_picked Idle [] may settled fits = refl
none_picked Idle (x ∷ xs) may settled fits = cc
none_picked Picking picks may settled fits = cc
none_picked Writing picks may settled fits = cc

some_place : (x : ℕ) (o : Option ℕ) → option_map_or (λ y. y == x) o false ≡ true → o ≡ Some x
some_place x None is = absurd (false≢true is)
some_place x (Some y) is = ap (λ (z : ℕ). Some z) (eqb-true y x is)

module _ {C : Type 0} (m : Meanings C) (g : Config) (p q : Place (Known C)) (knows : Knows g p) where
  abbrev n : ℕ
  n = p.number

  -- what the party lists of the shard is what is picked there
  pub listed : (turn : ℕ) (es : List Event) (f : Feeds m g turn es p q) → picks_of turn q ≡ f.after.now.picked
  listed turn es f =
      let took = took_is m turn (item.Shard f.before) p f.reached f.takes in
      let at_try = saw p f.takes.knew in
      let free : WasFree (Pact m) at_try turn (item.Shard f.before) = f.takes.free in
      let knew = loses_same m turn f.takes.owners p at_try f.takes.lost in
      let own : f.tried.own.number ≡ f.tried.own.about.config.callers =
      f.tries.own_number ∙ (took.own_number ∙ (sym knew.number ∙ ((free.held.attached.views at_try.number at_try.own free.stands.shows.0).number ∙ (knows.feeder
      ∙ (ap (λ (x : Config). x.callers) (sym knows.config) ∙ ap (λ (x : About). x.config.callers) (sym (f.tries.about ∙ took.about))))))) in
      ap (picks_of turn) f.gave
      ∙ (ap (λ (b : Bool). list_at turn (if b then ((turn, f.after.now.picked) ∷ f.tried.own.ledger.picked) else f.tried.own.ledger.picked)) (eq-eqb f.tried.own.number f.tried.own.about.config.callers own)
      ∙ list_here turn f.after.now.picked f.tried.own.ledger.picked)

  -- the keys that one pick gained are those of its events
  pub gained_keys : (shard : ℕ) (old new : List Block) (a : PicksAll m g (turn_of g shard) p q old new) → keys_of a.gained ≡ picks_in a.picks
  gained_keys shard old new a =
      let s = picks_stepped m g shard a.picks p q knows a.scan a.feeds a.others in
      let none : a.feeds.before.now.picked ≡ [] =
      none_picked a.feeds.before.now.phase a.feeds.before.now.picked (idle_before g n (turn_of g shard) a.feeds.before.now a.picks a.scan a.feeds.legal) s.sound.settled s.sound.replayed.sound.feed in
      sym (picks_keys g (turn_of g shard) (picks_of (turn_of g shard) q) a.gained a.blocks)
      ∙ (ap (map pick_key) (listed (turn_of g shard) (a.picks ++ event.FeedEnd n ∷ []) a.feeds ∙ (ap (λ (x : PlainShard). x.picked) a.feeds.now ∙ ap (λ (x : PlainShard). x.picked) (replay-append a.feeds.before.now a.picks (event.FeedEnd n ∷ []))))
      ∙ (scan_picked g n (turn_of g shard) a.feeds.before.now a.picks a.scan ∙ ap (λ (l : List Pick_of). map pick_key l ++ picks_in a.picks) none))

  module _ (calls : List DeviceCall) where
    -- one event, and none
    one_told : (act : Act) (e : Event) → number_of e ≡ n → is_pass e ≡ false → events_of n act ≡ e ∷ [] → (s : Stepped g (shard_of_act g act) (e ∷ []) p q) → FoundSo calls act (moment s.before.now e ∷ []) → AreTold g calls (act ∷ []) p q
    one_told act e number pass is s found =
        let ms = own-one n s.before.now e number pass in
        let adds = subst (λ (l : List Moment). AddsOwn g (shard_of_act g act) l p q) ms (made-own g (shard_of_act g act) s.before (e ∷ []) p q s.made) in
        told_one g calls act (moment s.before.now e ∷ []) p q adds (sym is, found)

    none_told : (act : Act) → events_of n act ≡ [] → Stepped g (shard_of_act g act) [] p q → FoundSo calls act [] → AreTold g calls (act ∷ []) p q
    none_told act is s found = told_one g calls act [] p q (made-own g (shard_of_act g act) s.before [] p q s.made) (sym is, found)

    -- what is to be known of an act beside what it did: where it gave a place, that the block was written there
    abbrev pub WroteFor : (act : Act) → DoesAct m g act p q → Type 0
    WroteFor (Picked shard blocks) d = Unit {0}
    WroteFor (Unpicked shard) d = Unit {0}
    WroteFor (Cleared k x) d = Unit {0}
    WroteFor (Absent k x) d = Unit {0}
    WroteFor (Refused k x) d = Unit {0}
    WroteFor (Placed k x) d = IsWrittenAt calls k x d.before.now
    WroteFor (Left k w) d = Unit {0}

    pub act_told : (act : Act) (d : DoesAct m g act p q) → WroteFor act d → AreTold g calls (act ∷ []) p q
    act_told (Picked shard blocks) d wrote =
        let a = d.2 in
        let s = picks_stepped m g shard a.picks p q knows a.scan a.feeds a.others in
        told_one g calls (Picked shard blocks) (own_moments n (moments s.before.now (a.picks ++ event.FeedEnd n ∷ []))) p q (made-own g shard s.before (a.picks ++ event.FeedEnd n ∷ []) p q s.made)
        (scan_moments g n (turn_of g shard) s.before.now a.picks a.scan ∙ ap (λ (l : List Key). map (event.Pick n) l ++ event.FeedEnd n ∷ []) (sym (gained_keys shard d.0 d.1 a) ∙ ap keys_of d.3), tt)
    act_told (Unpicked shard) d wrote = none_told (Unpicked shard) refl (feeds_stepped m g shard [] p q knows d (own_no_event g n)) tt
    act_told (Cleared k x) d wrote = let s = clear_step m g p q knows k d.0 in one_told (Cleared k x) (event.Clear n k) refl refl refl s (some_place x (place_of k s.before.now) d.1, tt)
    act_told (Absent k x) d wrote = none_told (Absent k x) refl (none_step m g p q knows k d.1.0) tt
    act_told (Refused k x) d wrote = none_told (Refused k x) refl (none_step m g p q knows k d) tt
    act_told (Placed k x) d wrote = one_told (Placed k x) (event.Set n k x) refl refl refl (set_step m g p q knows k x d) (wrote, tt)
    act_told (Left k w) d wrote = one_told (Left k w) (event.Leave n k w) refl refl refl (leave_step m g p q knows k w d) tt
