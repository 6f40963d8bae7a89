-- What parties have seen once one has joined another: all that either had, and behind it no event of their own.
use Rattle.std.proofs.Common.{◌≡◌, ◌≢◌, ℕ, zero, suc, ◌+◌, ◌<◌, ◌≤◌, List, [], ◌∷◌, ◌++◌, length, map, drop, refl, sym, ap, ◌∙◌, subst, inl, inr, arith, append-nil, append_assoc, length-append, ◌⊎◌}
use Rattle.std.specs.List.{AllByRecursion}
use mathlib.Core.Option.{some, some-injective, some-ne-none}
use lib.ListN.{get_elem?}
use Rattle.arc_core.specs.declared.config.Config.{Config}
use Rattle.arc_core.specs.declared.event.Event.{Event}
use Rattle.arc_core.specs.Operations.{Act, Moment, Tell, acts_in, moments, number_of, own_events, own_moments}
use Rattle.arc_core.specs.PlainShard.{PlainShard}
use Rattle.arc_core.proofs.OwnEvents.{own-events-are}
use Rattle.blk_ptr.specs.Hash.{shard_of}
use Rattle.std.proofs.lemmas.Bool.{cases_lt}
use Rattle.turn_table.proofs.Histories.{both_least, front_both}
use Rattle.turn_table.specs.declared.standing.Kept.{Kept}
use Rattle.turn_table.specs.Moments.{WasSo}
use Rattle.turn_table.specs.Places.{AllShow, IsLast, Place, kept, met, parted, rest_of, stayed}
use Rattle.arc_table.specs.declared.view.Known.{Known}
use Rattle.arc_table.specs.declared.view.Ledger.{Ledger}
use Rattle.arc_table.specs.declared.view.Line.{Line}
use Rattle.arc_table.specs.declared.view.Line.TheVariants as line
use Rattle.arc_table.specs.declared.view.Mine.{Mine}
use Rattle.arc_table.specs.pact.Attached.{IsShown}
use Rattle.arc_table.specs.Cache.{Cache, IsPartyOf}
use Rattle.arc_table.specs.Fronts.{StartsWith, front_of, list_at, seen_by_both}
use Rattle.arc_table.specs.Geometry.{IsCell, parties_of}
use Rattle.arc_table.specs.Items.{Meanings, lines_in}
use Rattle.arc_table.specs.pact.Logged.{HasPlace}
use Rattle.arc_table.specs.pact.Rule.{Pact}
use Rattle.arc_table.specs.pact.Scene.{Scene}
use Rattle.arc_table.specs.Seen.{AllEntriesSeen, AreSeen, HasSeenItsEntries, IsNumberOf, IsNumberOrCell, IsSeenBy, events_in, seen_of, turn_of}
use Rattle.trace_run.specs.Making.{AllEventsSeen, AreEventsSeen, HasSeenItsEvents, MadeItsOwn}
use Rattle.arc_table.specs.TableLaws.{get_front, starts_whole, within}
use Rattle.arc_table.specs.Telling.{opening_of}
use Rattle.arc_table.specs.Views.{after_learned}
use Rattle.arc_table.proofs.OwnLemmas.{no-own-moments, own-append, seen-more}
use Rattle.arc_table.proofs.SeenLemmas.{events-append, get-behind}
use Rattle.arc_table.specs.declared.about.About.{About}
use Rattle.trace_run.specs.declared.kept_blocks.KeptBlock.{KeptBlock}
use Rattle.trace_run.specs.Deeds.{CellsGrow, Noted}
use Rattle.trace_run.specs.Meeting.{AreLast, HasLearned, HasParted, HaveMet, HaveParted, HasSameOwn, IsFed, IsLevel, JoinAll, Joins, MayJoin, PartAll, SeesEntries, Waits}
use Rattle.trace_run.proofs.CellsLeft.{all-entries-more, entries-more}
use Rattle.trace_run.proofs.deeds.DeedLemmas.{others-still, told-still}
use Rattle.trace_run.proofs.deeds.MakesLemmas.{grown-same}

-- ---- lists that begin alike

-- of two that a list begins with, the longer one begins with the other
pub shorter : {A : Type 0} (a b h r s : List A) → h ≡ a ++ r → h ≡ b ++ s → length a ≤ length b → StartsWith b a
shorter [] b h r s x y le = (b, refl)
shorter (p ∷ ps) [] h r s x y le = absurd (omega (arith, le))
shorter (p ∷ ps) (q ∷ qs) [] r s x y le = cc
shorter {A} (p ∷ ps) (q ∷ qs) (z ∷ zs) r s x y le =
    let first : zs ≡ ps ++ r = cc in
    let second : zs ≡ qs ++ s = cc in
    let same : ◌≡◌ {A = A} q p = cc in
    let t = shorter ps qs zs r s first second (omega (arith, le)) in
    (t.0, λ i. same i ∷ t.1 i)

-- the same moments of a number have the same events
pub same-own-events : (g : Config) (n : ℕ) (es fs : List Event) → own_moments n (moments (opening_of g) fs) ≡ own_moments n (moments (opening_of g) es) → own_events n fs ≡ own_events n es
same-own-events g n es fs same = sym (own-events-are n (opening_of g) fs) ∙ (ap (map (λ (x : Moment). x.event)) same ∙ own-events-are n (opening_of g) es)

pub starts-then : {A : Type 0} (c b a : List A) → StartsWith c b → StartsWith b a → StartsWith c a
starts-then c b a outer inner = (inner.0 ++ outer.0, outer.1 ∙ (ap (λ l. l ++ outer.0) inner.1 ∙ append_assoc a inner.0 outer.0))

-- a list that begins with another and is no longer is that one
no-longer : {A : Type 0} (a b : List A) → StartsWith b a → length b ≤ length a → b ≡ a
no-longer a b starts le = starts.1 ∙ (ap (λ l. a ++ l) (gone starts.0 (omega (arith, ap length starts.1, length-append a starts.0, le))) ∙ append-nil a)
  where
    gone : {A : Type 0} (l : List A) → length l ≡ 0 → l ≡ []
    gone [] e = refl
    gone (x ∷ xs) e = absurd (omega (arith, e))

-- a fact of each event among lines
events-each : (P : Event → Type 0) (ls : List Line) → ((y : ℕ) (e : Event) → get_elem? ls y ≡ some (line.Event e) → P e) → (y : ℕ) (e : Event) → get_elem? (events_in ls) y ≡ some e → P e
events-each P [] each y e at = absurd (some-ne-none e (sym at))
events-each P (line.Event x ∷ ls) each zero e at = subst P (some-injective x e at) (each 0 x refl)
events-each P (line.Event x ∷ ls) each (suc y) e at = events-each P ls (λ k z is. each (suc k) z is) y e at
events-each P (line.Entry ns ∷ ls) each y e at = events-each P ls (λ k z is. each (suc k) z is) y e at

-- ---- one moment

module _ {C : Type 0} (m : Meanings C) (g : Config) (x : Place (Known C)) (w : WasSo (Pact m) x) where
  abbrev scene : Scene C
  scene = w.held.scene

  abbrev lines : ℕ → List Line
  lines t = lines_in m (scene.now t)

  -- what a party knew then
  module _ (n : ℕ) (v : Known C) (shown : get_elem? w.board.views n ≡ some v) where
    view : IsShown scene n v
    view = w.held.attached.views n v shown

    pub begins : (t : ℕ) → StartsWith (lines t) (front_of t v.seen)
    begins t = subst (λ (s : List (List Line)). StartsWith (lines t) (front_of t s)) (sym view.seen) (w.held.logged.seen n t)

    module _ (seen : List (List Line)) (own : AreEventsSeen g n v.mine seen) (i : ℕ) (front : List Line) (in_now : StartsWith (lines (turn_of g i)) front) (more : StartsWith front (front_of (turn_of g i) seen)) where
      abbrev known : List Line
      known = front_of (turn_of g i) seen

      stands-at : (y : ℕ) (e : Event) → get_elem? more.0 y ≡ some (line.Event e) → get_elem? (lines (turn_of g i)) (length known + y) ≡ some (line.Event e)
      stands-at y e at = ap (λ (l : List Line). get_elem? l (length known + y)) (in_now.1 ∙ (ap (λ (l : List Line). l ++ in_now.0) more.1 ∙ append_assoc known more.0 in_now.0))
          ∙ (get-behind known (more.0 ++ in_now.0) y ∙ get_front more.0 in_now.0 y (line.Event e) at)

      -- its own lines stand in what it has seen, so none stands behind
      not-own : (y : ℕ) (e : Event) → get_elem? more.0 y ≡ some (line.Event e) → number_of e ≢ n
      not-own y e at is =
          let t : ℕ = turn_of g i in
          let place : ℕ = length known + y in
          let here = stands-at y e at in
          let parties : length w.board.views ≡ parties_of scene.about.config = w.held.attached.parties in
          let below : n < parties_of scene.about.config = subst (λ (k : ℕ). n < k) parties (within w.board.views n v shown) in
          let maker = (w.held.logged.own t place (line.Event e) here).maker (subst (λ (k : ℕ). k < parties_of scene.about.config) (sym is) below) in
          let owner : scene.owner t place ≡ n = sym maker ∙ is in
          let h : HasPlace m scene t place n = subst (HasPlace m scene t place) owner (w.held.logged.places t place (within (lines t) place (line.Event e) here)) in
          let listed : get_elem? v.mine h.index ≡ some h.line = ap (λ (l : List Mine). get_elem? l h.index) view.mine ∙ h.at in
          let stands = own i h.index h.line listed h.turn in
          let inside : h.line.place < length known = within known h.line.place (line.Event stands.event) stands.there in
          let same : h.line.place ≡ length known + y = h.place in
          absurd (omega arith)

      pub same-moments : own_moments n (moments (opening_of g) (events_in front)) ≡ own_moments n (moments (opening_of g) (events_in known))
      same-moments =
          let s : PlainShard = opening_of g in
          ap (λ (l : List Line). own_moments n (moments s (events_in l))) more.1
          ∙ (ap (λ (es : List Event). own_moments n (moments s es)) (events-append known more.0)
          ∙ (own-append n s (events_in known) (events_in more.0)
          ∙ (ap (λ (l : List Moment). own_moments n (moments s (events_in known)) ++ l) (no-own-moments n _ (events_in more.0) (events-each (λ e. number_of e ≢ n) more.0 not-own))
          ∙ append-nil (own_moments n (moments s (events_in known))))))

-- ---- a party joins another

module _ {C : Type 0} (m : Meanings C) (g : Config) (r o : Place (Known C)) (w : WasSo (Pact m) (met r o r.own)) where
  abbrev before : Place (Known C)
  before = met r o r.own

  abbrev then : Place (Known C)
  then = met r o (after_learned r.own o.own)

  abbrev both : List (List Line)
  both = seen_by_both r.own.seen o.own.seen

  begins-r : (t : ℕ) → StartsWith (lines m g before w t) (front_of t r.own.seen)
  begins-r = begins m g before w r.number r.own w.stands.shows.0

  begins-o : (t : ℕ) → StartsWith (lines m g before w t) (front_of t o.own.seen)
  begins-o = begins m g before w o.number o.own w.stands.shows.1.0

  in-now : (t : ℕ) → StartsWith (lines m g before w t) (front_of t both)
  in-now t = elim (front_both t r.own.seen o.own.seen) [
    | inl is ↦ subst (StartsWith (lines m g before w t)) (sym is) (begins-r t)
    | inr is ↦ subst (StartsWith (lines m g before w t)) (sym is) (begins-o t)
  ]

  -- it has seen all that either had seen
  pub grows-r : (t : ℕ) → StartsWith (front_of t both) (front_of t r.own.seen)
  grows-r t = shorter (front_of t r.own.seen) (front_of t both) (lines m g before w t) (begins-r t).0 (in-now t).0 (begins-r t).1 (in-now t).1 (both_least t r.own.seen o.own.seen).0

  pub grows-o : (t : ℕ) → StartsWith (front_of t both) (front_of t o.own.seen)
  grows-o t = shorter (front_of t o.own.seen) (front_of t both) (lines m g before w t) (begins-o t).0 (in-now t).0 (begins-o t).1 (in-now t).1 (both_least t r.own.seen o.own.seen).1

  -- and behind it nothing of its own, nor of those that joined it
  pub same-r : AreEventsSeen g r.number r.own.mine r.own.seen → HasSameOwn g r.number r.own.seen both
  same-r own i = same-moments m g before w r.number r.own w.stands.shows.0 r.own.seen own i (front_of (turn_of g i) both) (in-now (turn_of g i)) (grows-r (turn_of g i))

  pub same-o : AreEventsSeen g o.number o.own.mine o.own.seen → HasSameOwn g o.number o.own.seen both
  same-o own i = same-moments m g before w o.number o.own w.stands.shows.1.0 o.own.seen own i (front_of (turn_of g i) both) (in-now (turn_of g i)) (grows-o (turn_of g i))

  pub same-joined : (k : Kept (Known C)) → get_elem? w.board.views k.number ≡ some k.view → AreEventsSeen g k.number k.view.mine r.own.seen → HasSameOwn g k.number r.own.seen both
  same-joined k shown own i = same-moments m g before w k.number k.view shown r.own.seen own i (front_of (turn_of g i) both) (in-now (turn_of g i)) (grows-r (turn_of g i))

-- where the party that joined has seen all lines that both made, and no other number is, nothing stands behind what it had seen
module _ {C : Type 0} (m : Meanings C) (g : Config) (r o : Place (Known C)) (w : WasSo (Pact m) (met r o r.own)) (alone : o.joined ≡ [])
    (all : (n : ℕ) → n < parties_of g → (n ≡ r.number) ⊎ (n ≡ o.number)) (config : r.own.about.config ≡ g)
    (own : AreEventsSeen g o.number o.own.mine o.own.seen) (other : AreEventsSeen g r.number r.own.mine o.own.seen) where
  abbrev at-join : Place (Known C)
  at-join = met r o r.own

  abbrev then-lines : ℕ → List Line
  then-lines = lines m g at-join w

  abbrev known-o : ℕ → List Line
  known-o i = front_of (turn_of g i) o.own.seen

  view-r : IsShown (scene m g at-join w) r.number r.own
  view-r = w.held.attached.views r.number r.own w.stands.shows.0

  view-o : IsShown (scene m g at-join w) o.number o.own
  view-o = w.held.attached.views o.number o.own w.stands.shows.1.0

  same-config : (scene m g at-join w).about.config ≡ g
  same-config = ap (λ (a : About). a.config) (sym view-r.about) ∙ config

  -- each line has a place that it had seen
  seen-line : (i x : ℕ) → x < length (then-lines (turn_of g i)) → x < length (known-o i)
  seen-line i x below =
      let h = w.held.logged.places (turn_of g i) x below in
      let party : (scene m g at-join w).owner (turn_of g i) x < parties_of g = subst (λ (c : Config). (scene m g at-join w).owner (turn_of g i) x < parties_of c) same-config h.party in
      elim (all ((scene m g at-join w).owner (turn_of g i) x) party) [
        | inl is ↦
            let mine : get_elem? r.own.mine h.index ≡ some h.line = ap (λ (l : List Mine). get_elem? l h.index) view-r.mine ∙ (ap (λ (n : ℕ). get_elem? ((scene m g at-join w).mine n) h.index) (sym is) ∙ h.at) in
            placed i x h.line h.place (other i h.index h.line mine h.turn)
        | inr is ↦
            let mine : get_elem? o.own.mine h.index ≡ some h.line = ap (λ (l : List Mine). get_elem? l h.index) view-o.mine ∙ (ap (λ (n : ℕ). get_elem? ((scene m g at-join w).mine n) h.index) (sym is) ∙ h.at) in
            placed i x h.line h.place (own i h.index h.line mine h.turn)
      ]
    where
      placed : {n : ℕ} (i x : ℕ) (a : Mine) → a.place ≡ x → IsSeenBy (IsNumberOrCell g) (parties_of g) n (known-o i) a.place → x < length (known-o i)
      placed i x a is seen = subst (λ (k : ℕ). k < length (known-o i)) is (within (known-o i) a.place (line.Event seen.event) seen.there)

  no-more : (i : ℕ) → length (then-lines (turn_of g i)) ≤ length (known-o i)
  no-more i = elim (cases_lt (length (known-o i)) (length (then-lines (turn_of g i)))) [
    | inl more ↦ absurd (omega (arith, seen-line i (length (known-o i)) more))
    | inr le ↦ le
  ]

  -- so both have just that then
  pub joined-front : (i : ℕ) → front_of (turn_of g i) (seen_by_both r.own.seen o.own.seen) ≡ known-o i
  joined-front i =
      let grown = grows-o m g r o w (turn_of g i) in
      let inside = in-now m g r o w (turn_of g i) in
      no-longer (known-o i) (front_of (turn_of g i) (seen_by_both r.own.seen o.own.seen)) grown
      (omega (arith, no-more i, ap length inside.1, length-append (front_of (turn_of g i) (seen_by_both r.own.seen o.own.seen)) inside.0))

-- ---- all others join

-- what is kept of parties that joined by themselves, the first of them last
abbrev pub joined_of : {C : Type 0} → List (Place (Known C)) → List (Kept (Known C))
joined_of [] = []
joined_of (o ∷ os) = kept o.number o.own 0 ∷ joined_of os

pub are-seen-more : (g : Config) (n : ℕ) (mines : List Mine) (s t : List (List Line)) → ((i : ℕ) → StartsWith (front_of (turn_of g i) t) (front_of (turn_of g i) s)) → AreEventsSeen g n mines s → AreEventsSeen g n mines t
are-seen-more g n mines s t more seen i j a at is = seen-more (parties_of g) n (front_of (turn_of g i) t) (front_of (turn_of g i) s) a.place (more i) (seen i j a at is)

pub own-seen-more : (g : Config) (n : ℕ) (mines : List Mine) (s t : List (List Line)) → ((i : ℕ) → StartsWith (front_of (turn_of g i) t) (front_of (turn_of g i) s)) → AreSeen g n mines s → AreSeen g n mines t
own-seen-more g n mines s t more seen i j a at is = seen-more {May = IsNumberOf} (parties_of g) n (front_of (turn_of g i) t) (front_of (turn_of g i) s) a.place (more i) (seen i j a at is)

all-seen-more : {C : Type 0} (g : Config) (ks : List (Kept (Known C))) (s t : List (List Line)) → ((i : ℕ) → StartsWith (front_of (turn_of g i) t) (front_of (turn_of g i) s)) → AllEventsSeen g ks s → AllEventsSeen g ks t
all-seen-more g [] s t more all = tt
all-seen-more g (k ∷ ks) s t more all = (are-seen-more g k.number k.view.mine s t more all.0, all-seen-more g ks s t more all.1)

module _ {C : Type 0} (m : Meanings C) (cache : Cache) (p : Place (Known C)) where
  abbrev gc : Config
  gc = cache.config

  -- what is so of the party that these have joined
  pub record HaveJoined (others : List (Place (Known C))) (q : Place (Known C)) : Type 0 where
    pub of : IsPartyOf cache q
    pub number : q.number ≡ p.number
    pub parties : q.parties ≡ p.parties
    pub held : q.held ≡ []
    pub about : q.own.about ≡ p.own.about
    pub ledger : q.own.ledger ≡ p.own.ledger
    pub joined : q.joined ≡ joined_of others
    pub seen : HasSeenItsEvents gc q
    pub self : HasLearned gc p q
    pub all : AllByRecursion (λ o. HasLearned gc o q) others
    pub level : (lines : ℕ → List Line) → IsLevel gc lines p → AllByRecursion (IsLevel gc lines) others → IsLevel gc lines q
    pub level_cells : (entries : ℕ → List Line) → SeesEntries gc entries p → AllByRecursion (SeesEntries gc entries) others → SeesEntries gc entries q
    pub cells : HasSeenItsEntries gc p → AllByRecursion (HasSeenItsEntries gc) others → HasSeenItsEntries gc q
    pub mine : q.own.mine ≡ p.own.mine
    -- they are parties of the cache
    pub below : AllByRecursion (λ o. o.number < parties_of gc) others
    pub only : MadeItsOwn gc p → MadeItsOwn gc q

  none-joined : MayJoin cache p → HaveJoined [] p
  none-joined may = record {
    of = may.of;
    number = refl;
    parties = refl;
    held = may.free;
    about = refl;
    ledger = refl;
    joined = may.alone;
    seen = may.seen;
    self = record {
      starts = λ i. starts_whole (front_of (turn_of gc i) p.own.seen);
      cells = λ i in_range. starts_whole (front_of i p.own.seen);
      own = λ shard. refl;
    };
    all = tt;
    level = λ lines own rest. own;
    level_cells = λ entries own rest. own;
    cells = λ own rest. own;
    mine = refl;
    below = tt;
    only = λ only. only;
  }

  -- one more
  module _ (os : List (Place (Known C))) (o r : Place (Known C)) (may : MayJoin cache o) (have : HaveJoined os r) (w : WasSo (Pact m) (met r o r.own)) where
    abbrev q : Place (Known C)
    q = met r o (after_learned r.own o.own)

    grows : (i : ℕ) → StartsWith (front_of (turn_of gc i) q.own.seen) (front_of (turn_of gc i) r.own.seen)
    grows i = grows-r m gc r o w (turn_of gc i)

    joined-is : q.joined ≡ joined_of (o ∷ os)
    joined-is = ap (λ (ks : List (Kept (Known C))). (kept o.number o.own (length ks) ∷ ks) ++ r.joined) may.alone ∙ ap (λ (ks : List (Kept (Known C))). kept o.number o.own 0 ∷ ks) have.joined

    others-seen : AllEventsSeen gc (joined_of os) r.own.seen
    others-seen = subst (λ (ks : List (Kept (Known C))). AllEventsSeen gc ks r.own.seen) have.joined have.seen.joined

    others-shown : AllShow w.board.views (joined_of os)
    others-shown = subst (AllShow w.board.views) (ap (λ (ks : List (Kept (Known C))). ks ++ r.joined) may.alone ∙ have.joined) w.stands.shows.1.1

    each-then : (ks : List (Place (Known C))) → AllShow w.board.views (joined_of ks) → AllEventsSeen gc (joined_of ks) r.own.seen → AllByRecursion (λ k. HasLearned gc k r) ks → AllByRecursion (λ k. HasLearned gc k q) ks
    each-then [] shown seen all = tt
    each-then (k ∷ ks) shown seen all = (
      record {
        starts = λ i. starts-then (front_of (turn_of gc i) q.own.seen) (front_of (turn_of gc i) r.own.seen) (front_of (turn_of gc i) k.own.seen) (grows i) (all.0.starts i);
        cells = λ i in_range. starts-then (front_of i q.own.seen) (front_of i r.own.seen) (front_of i k.own.seen) (grows-r m gc r o w i) (all.0.cells i in_range);
        own = λ shard. same-joined m gc r o w (kept k.number k.own 0) shown.0 seen.0 shard ∙ all.0.own shard;
      },
      each-then ks shown.1 seen.1 all.1,
    )

    -- the other is one of the cache's parties
    other-party : o.number < parties_of gc
    other-party =
        let view = w.held.attached.views r.number r.own w.stands.shows.0 in
        let settled : w.held.scene.about.config ≡ gc = ap (λ (a : About). a.config) (sym view.about) ∙ have.of.config in
        subst (λ (c : Config). o.number < parties_of c) settled (subst (λ (n : ℕ). o.number < n) w.held.attached.parties (within w.board.views o.number o.own w.stands.shows.1.0))

    -- it has seen all entries that both made
    cells-more : HasSeenItsEntries gc r → HasSeenItsEntries gc o → HasSeenItsEntries gc q
    cells-more has_r has_o = record {
      own = entries-more gc r.number r.own.mine r.own.seen q.own.seen grown_r has_r.own;
      joined = subst (λ (ks : List (Kept (Known C))). AllEntriesSeen gc ks q.own.seen) (sym joined-is) (
        entries-more gc o.number o.own.mine o.own.seen q.own.seen (λ i in_range. grows-o m gc r o w i) has_o.own,
        all-entries-more gc (joined_of os) r.own.seen q.own.seen grown_r (subst (λ (ks : List (Kept (Known C))). AllEntriesSeen gc ks r.own.seen) have.joined has_r.joined),
      );
    }
      where
        grown_r : CellsGrow gc r.own.seen q.own.seen
        grown_r i in_range = grows-r m gc r o w i

    one-more : HaveJoined (o ∷ os) q
    one-more = record {
      of = record { row = have.of.row; config = have.of.config };
      number = have.number;
      parties = have.parties;
      held = have.held;
      about = have.about;
      ledger = have.ledger;
      joined = joined-is;
      seen = record {
        own = are-seen-more gc r.number r.own.mine r.own.seen q.own.seen grows have.seen.own;
        joined = subst (λ (ks : List (Kept (Known C))). AllEventsSeen gc ks q.own.seen) (sym joined-is) (
          are-seen-more gc o.number o.own.mine o.own.seen q.own.seen (λ i. grows-o m gc r o w (turn_of gc i)) may.seen.own,
          all-seen-more gc (joined_of os) r.own.seen q.own.seen grows others-seen,
        );
      };
      self = record {
        starts = λ i. starts-then (front_of (turn_of gc i) q.own.seen) (front_of (turn_of gc i) r.own.seen) (front_of (turn_of gc i) p.own.seen) (grows i) (have.self.starts i);
        cells = λ i in_range. starts-then (front_of i q.own.seen) (front_of i r.own.seen) (front_of i p.own.seen) (grows-r m gc r o w i) (have.self.cells i in_range);
        own = λ shard. subst (λ (n : ℕ). HasSameOwn gc n r.own.seen q.own.seen) have.number (same-r m gc r o w have.seen.own) shard ∙ have.self.own shard;
      };
      all = (record { starts = λ i. grows-o m gc r o w (turn_of gc i); cells = λ i in_range. grows-o m gc r o w i; own = same-o m gc r o w may.seen.own }, each-then os others-shown others-seen have.all);
      level = λ lines own rest shard. elim (front_both (turn_of gc shard) r.own.seen o.own.seen) [
        | inl is ↦ is ∙ have.level lines own rest.1 shard
        | inr is ↦ is ∙ rest.0 shard
      ];
      level_cells = λ entries own rest i in_range. elim (front_both i r.own.seen o.own.seen) [
        | inl is ↦ is ∙ have.level_cells entries own rest.1 i in_range
        | inr is ↦ is ∙ rest.0 i in_range
      ];
      cells = λ own rest. cells-more (have.cells own rest.1) rest.0;
      mine = have.mine;
      below = (other-party, have.below);
      only = λ only.
          let then = have.only only in
          record { events = own-seen-more gc r.number r.own.mine r.own.seen q.own.seen grows then.events; entries = then.entries };
    }

  pub have-joined : MayJoin cache p → (others : List (Place (Known C))) (q : Place (Known C)) → AllByRecursion (MayJoin cache) others → JoinAll m others p q → HaveJoined others q
  have-joined may [] q all is = subst (HaveJoined []) (sym is) (none-joined may)
  have-joined may (o ∷ os) q all joins =
      subst (HaveJoined (o ∷ os)) (sym joins.2.is) (one-more os o joins.0 all.0 (have-joined may os joins.0 all.1 joins.1) joins.2.moment)

-- the last of the list joins first
pub joins-first : {C : Type 0} (m : Meanings C) (os : List (Place (Known C))) (o p r q : Place (Known C)) → Joins m o p r → JoinAll m os r q → JoinAll m (os ++ o ∷ []) p q
joins-first m [] o p r q joins is = (p, refl, subst (Joins m o p) (sym is) joins)
joins-first m (x ∷ xs) o p r q joins rest = (rest.0, joins-first m xs o p r rest.0 joins rest.1, rest.2)

-- ---- they part again

module _ {C : Type 0} where
  -- the party o, once it has parted from r
  abbrev pub parted_from : Place (Known C) → Place (Known C) → Place (Known C)
  parted_from r o = record { table = r.table; parties = r.parties; number = o.number; own = after_learned o.own r.own; joined = []; held = [] }

  abbrev pub left_alone : Place (Known C) → Place (Known C)
  left_alone r = record { table = r.table; parties = r.parties; number = r.number; own = r.own; joined = []; held = r.held }

  pub all-parted : (others : List (Place (Known C))) (numbers : List ℕ) (r : Place (Known C)) (xs : List (Place (Known C))) (q : Place (Known C)) → r.joined ≡ joined_of others → AreLast numbers (joined_of others) → PartAll numbers r xs q
      → (xs ≡ map (parted_from r) others) × (q ≡ left_alone r)
  all-parted [] [] r [] q joined last is = (refl, is ∙ (λ i. record { table = r.table; parties = r.parties; number = r.number; own = r.own; joined = joined i; held = r.held }))
  all-parted [] [] r (x ∷ xs) q joined last parts = absurd parts
  all-parted [] (n ∷ ns) r xs q joined last parts = absurd last
  all-parted (o ∷ os) [] r xs q joined last parts = absurd last
  all-parted (o ∷ os) (n ∷ ns) r [] q joined last parts = absurd parts
  all-parted (o ∷ os) (n ∷ ns) r (x ∷ xs) q joined last parts =
      let first : x ≡ parted_from r o = parts.0 ∙ ap (λ (ks : List (Kept (Known C))). parted (λ w. after_learned w r.own) r ks) joined in
      let rest = all-parted os ns (stayed r) xs q (ap (λ (ks : List (Kept (Known C))). rest_of ks) joined) last.2 parts.1 in
      ((λ i. first i ∷ rest.0 i), rest.1)

  -- they have the numbers that they had
  pub are-last : (others : List (Place (Known C))) → AreLast (map (λ o. o.number) others) (joined_of others)
  are-last [] = tt
  are-last (o ∷ os) = (refl, refl, are-last os)

-- what a party has seen once it has parted from one that had seen more
pub parted-front : (t : ℕ) (s u : List (List Line)) → StartsWith (front_of t u) (front_of t s) → front_of t (seen_by_both s u) ≡ front_of t u
parted-front t s u starts = elim (front_both t s u) [
  | inl is ↦ is ∙ sym (no-longer (front_of t s) (front_of t u) starts (omega (arith, (both_least t s u).1, ap length is)))
  | inr is ↦ is
]

-- what begins with lines begins with their events
pub starts-events : (h f : List Line) → StartsWith h f → StartsWith (events_in h) (events_in f)
starts-events h f starts = (events_in starts.0, ap events_in starts.1 ∙ events-append f starts.0)

-- ---- another party parts from r, which has made since nothing of its number

module _ {C : Type 0} (cache : Cache) (q r o : Place (Known C)) (learned : HasLearned cache.config o q) (of : IsPartyOf cache r)
    (more : (i : ℕ) → StartsWith (front_of (turn_of cache.config i) r.own.seen) (front_of (turn_of cache.config i) q.own.seen))
    (of_cells : CellsGrow cache.config q.own.seen r.own.seen)
    (unmade : (shard : ℕ) → own_moments o.number (moments (opening_of cache.config) (seen_of cache.config shard r)) ≡ own_moments o.number (moments (opening_of cache.config) (seen_of cache.config shard q))) where
  abbrev parting : Place (Known C)
  parting = parted_from r o

  abbrev r-front : ℕ → List Line
  r-front i = front_of (turn_of cache.config i) r.own.seen

  all-starts : (i : ℕ) → StartsWith (r-front i) (front_of (turn_of cache.config i) o.own.seen)
  all-starts i = starts-then (r-front i) (front_of (turn_of cache.config i) q.own.seen) (front_of (turn_of cache.config i) o.own.seen) (more i) (learned.starts i)

  x-front : (i : ℕ) → front_of (turn_of cache.config i) parting.own.seen ≡ r-front i
  x-front i = parted-front (turn_of cache.config i) o.own.seen r.own.seen (all-starts i)

  x-starts : (i : ℕ) → StartsWith (front_of (turn_of cache.config i) parting.own.seen) (front_of (turn_of cache.config i) o.own.seen)
  x-starts i = subst (λ (l : List Line). StartsWith l (front_of (turn_of cache.config i) o.own.seen)) (sym (x-front i)) (all-starts i)

  x-own : HasSameOwn cache.config o.number o.own.seen parting.own.seen
  x-own shard = ap (λ (l : List Line). own_moments o.number (moments (opening_of cache.config) (events_in l))) (x-front shard) ∙ (unmade shard ∙ learned.own shard)

  cell-starts : (i : ℕ) → IsCell cache.config i → StartsWith (front_of i r.own.seen) (front_of i o.own.seen)
  cell-starts i in_range = starts-then (front_of i r.own.seen) (front_of i q.own.seen) (front_of i o.own.seen) (of_cells i in_range) (learned.cells i in_range)

  x-cells : CellsGrow cache.config o.own.seen parting.own.seen
  x-cells i in_range = subst (λ (l : List Line). StartsWith l (front_of i o.own.seen)) (sym (parted-front i o.own.seen r.own.seen (cell-starts i in_range))) (cell-starts i in_range)

  pub parted-then : HasParted cache r-front o parting
  parted-then = record {
    level = x-front;
    number = refl;
    about = refl;
    alone = refl;
    stands = λ kept stands. record {
      valid = stands.valid;
      of = record { row = of.row; config = stands.of.config };
      free = refl;
      cells = record { own = entries-more cache.config o.number o.own.mine o.own.seen parting.own.seen x-cells stands.cells.own; joined = tt };
      idle = stands.idle;
      unclaimed = stands.unclaimed;
      seen = record { own = are-seen-more cache.config o.number o.own.mine o.own.seen parting.own.seen x-starts stands.seen.own; joined = tt };
      apart = tt;
      joined = tt;
      owned = stands.owned;
      listed = stands.listed;
    };
    own = x-own;
    starts = λ shard. starts-events (front_of (turn_of cache.config shard) parting.own.seen) (front_of (turn_of cache.config shard) o.own.seen) (x-starts shard);
    mine = refl;
    ledger = refl;
    only = λ only. record { events = own-seen-more cache.config o.number o.own.mine o.own.seen parting.own.seen x-starts only.events; entries = only.entries };
    same = λ kept stands. grown-same cache.config o parting refl refl refl x-starts x-cells stands.seen stands.cells;
  }

pub parted-level : {C : Type 0} (cache : Cache) (lines : ℕ → List Line) (os xs : List (Place (Known C))) → HaveParted cache lines os xs → AllByRecursion (IsLevel cache.config lines) xs
parted-level cache lines [] [] parted = tt
parted-level cache lines [] (x ∷ xs) parted = absurd parted
parted-level cache lines (o ∷ os) [] parted = absurd parted
parted-level cache lines (o ∷ os) (x ∷ xs) parted = (parted.0.level, parted-level cache lines os xs parted.1)

-- ---- what all have seen of cells, once they have parted from r

module _ {C : Type 0} (cache : Cache) (q r : Place (Known C)) (of_cells : CellsGrow cache.config q.own.seen r.own.seen) where
  module _ (i : ℕ) (in_range : IsCell cache.config i) where
    goes-on : (o : Place (Known C)) → HasLearned cache.config o q → StartsWith (front_of i r.own.seen) (front_of i o.own.seen)
    goes-on o learned = starts-then (front_of i r.own.seen) (front_of i q.own.seen) (front_of i o.own.seen) (of_cells i in_range) (learned.cells i in_range)

    all-go-on : (os : List (Place (Known C))) → AllByRecursion (λ o. HasLearned cache.config o q) os → AllByRecursion (λ o. StartsWith (front_of i r.own.seen) (front_of i o.own.seen)) os
    all-go-on [] learned = tt
    all-go-on (o ∷ os) learned = (goes-on o learned.0, all-go-on os learned.1)

    all-same : (os : List (Place (Known C))) → AllByRecursion (λ o. HasLearned cache.config o q) os → AllByRecursion (λ x. front_of i x.own.seen ≡ front_of i r.own.seen) (map (parted_from r) os)
    all-same [] learned = tt
    all-same (o ∷ os) learned = (parted-front i o.own.seen r.own.seen (goes-on o learned.0), all-same os learned.1)

  pub have-met : (p : Place (Known C)) (os : List (Place (Known C))) → ((i : ℕ) → IsCell cache.config i → StartsWith (front_of i q.own.seen) (front_of i p.own.seen)) → AllByRecursion (λ o. HasLearned cache.config o q) os
      → HaveMet cache.config (p ∷ os) (left_alone r ∷ map (parted_from r) os)
  have-met p os self learned i in_range = (
    front_of i r.own.seen,
    (starts-then (front_of i r.own.seen) (front_of i q.own.seen) (front_of i p.own.seen) (of_cells i in_range) (self i in_range), all-go-on i in_range os learned),
    (refl, all-same i in_range os learned),
  )

  -- and where r has seen just this of each cell, all have
  pub all-level : (entries : ℕ → List Line) → SeesEntries cache.config entries r → (os : List (Place (Known C))) → AllByRecursion (λ o. HasLearned cache.config o q) os → AllByRecursion (SeesEntries cache.config entries) (map (parted_from r) os)
  all-level entries sees [] learned = tt
  all-level entries sees (o ∷ os) learned = ((λ i in_range. parted-front i o.own.seen r.own.seen (goes-on i in_range o learned.0) ∙ sees i in_range), all-level entries sees os learned.1)

-- a party that waits still does once it has parted
pub parted-waits : {C : Type 0} (cache : Cache) (lines : ℕ → List Line) (old new : Place (Known C)) → HasParted cache lines old new → (n : ℕ) (acts : List Act) (noted : List Noted) (kept : List KeptBlock) → Waits cache n acts noted kept old → Waits cache n acts noted kept new
parted-waits cache lines old new parted n acts noted kept waits = record {
  number = parted.number ∙ waits.number;
  alone = parted.alone;
  stands = parted.stands kept waits.stands;
  told = told-still cache.config acts noted old new
      (λ shard. subst (λ (k : ℕ). Tell (acts_in (shard_of cache.config.shards) shard k acts) (own_moments k (moments (opening_of cache.config) (seen_of cache.config shard new)))) (sym parted.number)
      (subst (Tell (acts_in (shard_of cache.config.shards) shard old.number acts)) (sym (parted.own shard)) (waits.told.acts shard)))
      (parted.same kept waits.stands) waits.told;
}

-- and the feeder's has made what it had
pub parted-fed : {C : Type 0} (cache : Cache) (lines : ℕ → List Line) (old new : Place (Known C)) → HasParted cache lines old new → (openings : List (List ℕ)) (fed since : (shard : ℕ) → List Event) (acts : List Act) (noted : List Noted) → IsFed cache openings fed since acts noted old
    → IsFed cache openings fed since acts noted new
parted-fed cache lines old new parted openings fed since acts noted is = record {
  number = parted.number ∙ is.number;
  alone = parted.alone;
  stands = parted.stands [] is.stands;
  knows = ap (λ (a : About). a.openings) parted.about ∙ is.knows;
  fed = λ shard below.
      ap (λ (k : ℕ). own_events k (seen_of cache.config shard new)) parted.number
      ∙ (same-own-events cache.config old.number (seen_of cache.config shard old) (seen_of cache.config shard new) (parted.own shard) ∙ is.fed shard below);
  since = λ shard. starts-then (seen_of cache.config shard new) (seen_of cache.config shard old) (since shard) (parted.starts shard) (is.since shard);
  told = others-still cache.config acts noted old new (parted.same [] is.stands) is.told;
  settled = λ i. ap (λ (l : Ledger). list_at i l.picked) parted.ledger ∙ is.settled i;
}

-- ---- lists by their ends

pub all-before : {A : Type 0} (P : A → Type 0) (xs : List A) (x : A) → AllByRecursion P (xs ++ x ∷ []) → AllByRecursion P xs × P x
all-before P [] x all = (tt, all.0)
all-before P (y ∷ ys) x all = let h = all-before P ys x all.1 in ((all.0, h.0), h.1)

module _ {C : Type 0} where
  pub is-last : (n : ℕ) (ns : List ℕ) (ks : List (Kept (Known C))) → AreLast (n ∷ ns) ks → IsLast n ks
  is-last n ns [] last = last
  is-last n ns (k ∷ ks) last = last.0

  pub rest-last : (n : ℕ) (ns : List ℕ) (ks : List (Kept (Known C))) → AreLast (n ∷ ns) ks → AreLast ns (rest_of ks)
  rest-last n ns [] last = absurd last
  rest-last n ns (k ∷ ks) last = subst (λ (c : ℕ). AreLast ns (drop c ks)) (sym last.1) last.2
