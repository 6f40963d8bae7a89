-- What a party finds of a shard: what it had seen, and then what others did. So its own events are those that it makes.
use Rattle.std.proofs.Common.{◌≡◌, ◌≢◌, ◌⊎◌, ℕ, zero, suc, ◌+◌, ◌<◌, Bool, true, false, IsTrue, List, [], ◌∷◌, ◌++◌, length, map, refl, sym, ap, ◌∙◌, subst, inl, inr, arith}
use mathlib.Core.Option.{some, some-injective, some-ne-none}
use lib.ListN.{get_elem?}
use Rattle.blk_ptr.specs.declared.key.Key.{Key}
use Rattle.blk_ptr.specs.Hash.{shard_of}
use Rattle.arc_core.specs.Config.{IsConfig}
use Rattle.arc_core.specs.declared.config.Config.{Config}
use Rattle.arc_core.specs.declared.event.Event.{Event}
use Rattle.arc_core.specs.Operations.{is_of_feed, number_of}
use Rattle.arc_core.specs.ShardLog.{ShardLog}
use Rattle.hash_chain.specs.Chain.{Chain}
use Rattle.turn_table.specs.declared.standing.Kept.{Kept}
use Rattle.turn_table.specs.Moments.{WasFree}
use Rattle.turn_table.specs.Places.{AllShow, HasNumber, IsIn, Place, saw}
use Rattle.arc_table.specs.declared.about.About.{About}
use Rattle.arc_table.specs.declared.item.Item.TheVariants as item
use Rattle.arc_table.specs.declared.view.Known.{Known}
use Rattle.arc_table.specs.declared.view.Line.{Line}
use Rattle.arc_table.specs.declared.view.Line.TheVariants as line
use Rattle.arc_table.specs.declared.view.Mine.{Mine}
use Rattle.arc_table.specs.pact.Attached.{IsShown}
use Rattle.arc_table.specs.Both.{TakesBoth}
use Rattle.arc_table.specs.Fronts.{StartsWith, front_of}
use Rattle.arc_table.specs.Geometry.{bucket_turn, parties_of, shard_turn}
use Rattle.arc_table.specs.Items.{Meanings, lines_in}
use Rattle.arc_table.specs.pact.Logged.{HasPlace}
use Rattle.arc_table.specs.pact.Rule.{Pact}
use Rattle.arc_table.specs.pact.Scene.{Scene}
use Rattle.arc_table.specs.TableLaws.{within}
use Rattle.arc_table.proofs.TableLaws.{front_else}
use Rattle.arc_table.proofs.HandHeads.{config_then, shard_then}
use Rattle.arc_table.proofs.Ranges.{bucket_range}
use Rattle.arc_table.proofs.Reached.{SameButNotes, Took, loses_same, took_is}
use Rattle.arc_table.specs.Seen.{AllSeenBy, AreSeenBy, Finds, HasAll, HasSeenBy, IsSeenBy, events_in, turn_of}

-- ---- lines and events

pub events-map : (es : List Event) → events_in (map line.Event es) ≡ es
events-map [] = refl
events-map (e ∷ es) = ap (λ (l : List Event). e ∷ l) (events-map es)

pub events-append : (a b : List Line) → events_in (a ++ b) ≡ events_in a ++ events_in b
events-append [] b = refl
events-append (line.Event e ∷ ls) b = ap (λ (l : List Event). e ∷ l) (events-append ls b)
events-append (line.Entry ns ∷ ls) b = events-append ls b

-- lines that are all events
pub events-at : (ls : List Line) (es : List Event) → ls ≡ map line.Event es → (y : ℕ) (e : Event) → get_elem? es y ≡ some e → get_elem? ls y ≡ some (line.Event e)
events-at ls [] is y e at = absurd (some-ne-none e (sym at))
events-at ls (x ∷ xs) is zero e at = rw is (ap (λ (z : Event). some (line.Event z)) (some-injective x e at))
events-at ls (x ∷ xs) is (suc y) e at = rw is (events-at (map line.Event xs) xs refl y e at)

module _ {A : Type 0} where
  pub get-behind : (l m : List A) (y : ℕ) → get_elem? (l ++ m) (length l + y) ≡ get_elem? m y
  get-behind [] m y = let e : length {A = A} [] + y ≡ y = omega arith in ap (get_elem? m) e
  get-behind (x ∷ xs) m y =
      let e : length (x ∷ xs) + y ≡ suc (length xs + y) = omega arith in
      ap (get_elem? (x ∷ (xs ++ m))) e ∙ get-behind xs m y

  none-there : (l : List A) → ((a : A) → get_elem? l 0 ≡ some a → ⊥) → l ≡ []
  none-there [] none = refl
  none-there (x ∷ xs) none = absurd (none x refl)

-- the lines behind a front that is all events, where the whole is
rest-events : (front rest : List Line) (es : List Event) → front ++ rest ≡ map line.Event es → (more : List Event) × (rest ≡ map line.Event more)
rest-events [] rest es is = (es, is)
rest-events (l ∷ ls) rest [] is = cc
rest-events (l ∷ ls) rest (e ∷ es) is = rest-events ls rest es cc

is-false : (b : Bool) → ¬ IsTrue b → b ≡ false
is-false true never = absurd (never refl)
is-false false never = refl

-- ---- one moment

module _ {C : Type 0} (m : Meanings C) (g : Config) where
  module _ {May : (n number : ℕ) → Type 0} (p : Place (Known C)) (i : ℕ) (before : ShardLog) (f : WasFree (Pact m) p (turn_of g i) (item.Shard before)) (own : HasSeenBy May g p) where
    abbrev scene : Scene C
    scene = f.held.scene

    shown : IsShown scene p.number p.own
    shown = f.held.attached.views p.number p.own f.stands.shows.0

    joined-seen : (n : ℕ) (ks : List (Kept (Known C))) → IsIn n ks → AllShow f.board.views ks → AllSeenBy May g ks p.own.seen → AreSeenBy May g n (scene.mine n) p.own.seen
    joined-seen n [] among shows seen = absurd among
    joined-seen n (k ∷ ks) (inl is) shows seen =
        let view = f.held.attached.views k.number k.view shows.0 in
        subst (λ (x : ℕ). AreSeenBy May g x (scene.mine x) p.own.seen) is (subst (λ (l : List Mine). AreSeenBy May g k.number l p.own.seen) view.mine seen.0)
    joined-seen n (k ∷ ks) (inr among) shows seen = joined-seen n ks among shows.1 seen.1

    -- the lines of each number that the party has are seen
    mine-seen : (n : ℕ) → HasNumber n p → AreSeenBy May g n (scene.mine n) p.own.seen
    mine-seen n (inl is) = subst (λ (x : ℕ). AreSeenBy May g x (scene.mine x) p.own.seen) is (subst (λ (l : List Mine). AreSeenBy May g p.number l p.own.seen) shown.mine own.own)
    mine-seen n (inr among) = joined-seen n p.joined among f.stands.shows.1 own.joined

    now-is : lines_in m (scene.now (turn_of g i)) ≡ map line.Event before.history
    now-is = ap (lines_in m) (shard_then m p (turn_of g i) before f)

    abbrev front : List Line
    front = front_of (turn_of g i) p.own.seen

    starts : StartsWith (map line.Event before.history) front
    starts = subst (λ (l : List Line). StartsWith l front) now-is
        (subst (λ (s : List (List Line)). StartsWith (lines_in m (scene.now (turn_of g i))) (front_of (turn_of g i) s)) (sym shown.seen) (f.held.logged.seen p.number (turn_of g i)))

    abbrev more : (es : List Event) × (starts.0 ≡ map line.Event es)
    more = rest-events front starts.0 before.history (sym starts.1)

    -- what stands behind the front is a line of a party whose number the party hasn't
    behind : (y : ℕ) (e : Event) → get_elem? more.0 y ≡ some e
        → get_elem? (lines_in m (scene.now (turn_of g i))) (length front + y) ≡ some (line.Event e)
    behind y e at = ap (λ (l : List Line). get_elem? l (length front + y)) (now-is ∙ starts.1)
        ∙ (get-behind front starts.0 y ∙ events-at starts.0 more.0 more.1 y e at)

    place-of : (y : ℕ) (e : Event) → get_elem? more.0 y ≡ some e → HasPlace m scene (turn_of g i) (length front + y) (scene.owner (turn_of g i) (length front + y))
    place-of y e at = f.held.logged.places (turn_of g i) (length front + y) (within (lines_in m (scene.now (turn_of g i))) (length front + y) (line.Event e) (behind y e at))

    unseen : (y : ℕ) (e : Event) → get_elem? more.0 y ≡ some e → HasNumber (scene.owner (turn_of g i) (length front + y)) p → ⊥
    unseen y e at has =
        let h = place-of y e at in
        let at_place = mine-seen (scene.owner (turn_of g i) (length front + y)) has i h.index h.line h.at h.turn in
        let seen : h.line.place < length front = within front h.line.place (line.Event at_place.event) at_place.there in
        let is : h.line.place ≡ length front + y = h.place in
        absurd (omega arith)

    parties-are : length f.board.views ≡ parties_of scene.about.config
    parties-are = f.held.attached.parties

    not-own : (y : ℕ) (e : Event) → get_elem? more.0 y ≡ some e → number_of e ≢ p.number
    not-own y e at is =
        let own_line = f.held.logged.own (turn_of g i) (length front + y) (line.Event e) (behind y e at) in
        let below : p.number < length f.board.views = within f.board.views p.number p.own f.stands.shows.0 in
        let party : number_of e < parties_of scene.about.config = subst (λ (x : ℕ). x < parties_of scene.about.config) (sym is) (subst (λ (x : ℕ). p.number < x) parties-are below) in
        unseen y e at (inl (sym is ∙ own_line.maker party))

    -- where the party is the feeder, nobody else makes an event of a feed
    no-feeds : p.own.about.config ≡ g → p.number ≡ g.callers → (y : ℕ) (e : Event) → get_elem? more.0 y ≡ some e → is_of_feed e ≡ false
    no-feeds config feeds y e at =
        let own_line = f.held.logged.own (turn_of g i) (length front + y) (line.Event e) (behind y e at) in
        let is : scene.about.config ≡ g = config_then m p (turn_of g i) before f ∙ config in
        is-false (is_of_feed e) (λ yes. not-own y e at (own_line.feeder yes ∙ (ap (λ (c : Config). c.callers) is ∙ sym feeds)))

    nobody-else : HasAll p → (e : Event) → get_elem? more.0 0 ≡ some e → ⊥
    nobody-else all e at =
        let h = place-of 0 e at in
        let below : scene.owner (turn_of g i) (length front + 0) < parties_of scene.about.config = h.party in
        unseen 0 e at (all _ (subst (λ (x : ℕ). scene.owner (turn_of g i) (length front + 0) < x) (sym parties-are ∙ f.stands.count) below))

    pub finds-then : p.own.about.config ≡ g → Finds g i p before.history
    finds-then config = record {
      rest = more.0;
      whole = sym (events-map before.history) ∙ (ap events_in starts.1 ∙ (events-append front starts.0 ∙ ap (λ (l : List Event). events_in front ++ l) (ap events_in more.1 ∙ events-map more.0)));
      starts = starts;
      others = not-own;
      unfed = no-feeds config;
      alone = λ all. none-there more.0 (nobody-else all);
    }

    -- a line of a number that the party has stands in what it has seen
    at-place : (x : ℕ) (e : Event) → get_elem? before.history x ≡ some e → get_elem? (lines_in m (scene.now (turn_of g i))) x ≡ some (line.Event e)
    at-place x e at = ap (λ (l : List Line). get_elem? l x) now-is ∙ events-at (map line.Event before.history) before.history refl x e at

    listed-at : (x : ℕ) (e : Event) → get_elem? before.history x ≡ some e → HasPlace m scene (turn_of g i) x (scene.owner (turn_of g i) x)
    listed-at x e at = f.held.logged.places (turn_of g i) x (within (lines_in m (scene.now (turn_of g i))) x (line.Event e) (at-place x e at))

    pub line-seen : (x : ℕ) (e : Event) → get_elem? before.history x ≡ some e → HasNumber (scene.owner (turn_of g i) x) p → IsSeenBy May (parties_of g) (scene.owner (turn_of g i) x) (front_of (turn_of g i) p.own.seen) x
    line-seen x e at has =
        let h = listed-at x e at in
        subst (λ (n : ℕ). IsSeenBy May (parties_of g) (scene.owner (turn_of g i) x) (front_of (turn_of g i) p.own.seen) n) h.place (mine-seen (scene.owner (turn_of g i) x) has i h.index h.line h.at h.turn)

    pub line-owner : p.own.about.config ≡ g → (x : ℕ) (e : Event) → get_elem? before.history x ≡ some e → scene.owner (turn_of g i) x < parties_of g
    line-owner config x e at = subst (λ (c : Config). scene.owner (turn_of g i) x < parties_of c) (config_then m p (turn_of g i) before f ∙ config) (listed-at x e at).party

-- ---- a take of the bucket and the shard of a key

module _ {C : Type 0} (g : Config) where
  pub all-seen-as : (May : (n number : ℕ) → Type 0) (ks : List (Kept (Known C))) (s t : List (List Line)) → ((i : ℕ) → front_of (turn_of g i) t ≡ front_of (turn_of g i) s) → AllSeenBy May g ks s → AllSeenBy May g ks t
  all-seen-as May [] s t same all = tt
  all-seen-as May (k ∷ ks) s t same all = ((λ i j a at is. subst (λ (l : List Line). IsSeenBy May (parties_of g) k.number l a.place) (sym (same i)) (all.0 i j a at is)), all-seen-as May ks s t same all.1)

module _ {C : Type 0} (m : Meanings C) (g : Config) (valid : IsConfig g) where
  pub shard-is-above : (k : Key) (i : ℕ) → turn_of g i ≢ bucket_turn g k
  shard-is-above k i is = let b = (bucket_range g k valid).1 in omega arith

  module _ (k : Key) (chain : Chain) (before : ShardLog) (p q : Place (Known C)) (t : TakesBoth m g k chain before p q) where
    first : Took m (bucket_turn g k) (item.Bucket chain) p t.between
    first = took_is m (bucket_turn g k) (item.Bucket chain) p t.between t.bucket

    knew : SameButNotes t.between.own t.shard.knew
    knew = loses_same m (shard_turn g k) t.shard.owners t.between (saw t.between t.shard.knew) t.shard.lost

    abbrev then : Place (Known C)
    then = saw t.between t.shard.knew

    -- a party of a cache with this configuration counts its parties
    pub parties-then : p.own.about.config ≡ g → p.parties ≡ parties_of g
    parties-then config =
        let f : WasFree (Pact m) then (shard_turn g k) (item.Shard before) = t.shard.free in
        let settled : f.held.scene.about.config ≡ g = config_then m then (shard_turn g k) before f ∙ (ap (λ (a : About). a.config) (knew.about ∙ first.about) ∙ config) in
        sym first.parties ∙ (sym f.stands.count ∙ (f.held.attached.parties ∙ ap parties_of settled))

    seen-then : (i : ℕ) → front_of (turn_of g i) then.own.seen ≡ front_of (turn_of g i) p.own.seen
    seen-then i = ap (front_of (turn_of g i)) (knew.seen ∙ first.seen) ∙ front_else (bucket_turn g k) (turn_of g i) [] p.own.seen (shard-is-above k i)

    own-then : {May : (n number : ℕ) → Type 0} → HasSeenBy May g p → HasSeenBy May g then
    own-then {May} own = record {
      own = λ i j a at is. subst (λ (x : ℕ × List Line). IsSeenBy May (parties_of g) x.0 x.1 a.place) (λ h. (sym first.number h, sym (seen-then i) h)) (own.own i j a (subst (λ (l : List Mine). get_elem? l j ≡ some a) (knew.mine ∙ first.mine) at) is);
      joined = subst (λ (ks : List (Kept (Known C))). AllSeenBy May g ks then.own.seen) (sym first.joined)
          (all-seen-as g May p.joined p.own.seen then.own.seen (λ i. seen-then i) own.joined);
    }

    all-then : HasAll p → HasAll then
    all-then all n below = subst (λ (x : ℕ × List (Kept (Known C))). (x.0 ≡ n) ⊎ IsIn n x.1) (λ h. (sym first.number h, sym first.joined h))
        (all n (subst (λ (x : ℕ). n < x) first.parties below))

    -- what the party finds of the shard of a key
    pub finds : {May : (n number : ℕ) → Type 0} → p.own.about.config ≡ g → HasSeenBy May g p → Finds g (shard_of g.shards k) p before.history
    finds {May} config own =
        let h = finds-then m g then (shard_of g.shards k) before t.shard.free (own-then own) (ap (λ (a : About). a.config) (knew.about ∙ first.about) ∙ config) in record {
          rest = h.rest;
          starts = subst (λ (l : List Line). StartsWith (map line.Event before.history) l) (seen-then (shard_of g.shards k)) h.starts;
          whole = h.whole ∙ ap (λ (l : List Line). events_in l ++ h.rest) (seen-then (shard_of g.shards k));
          others = λ y e at is. h.others y e at (is ∙ sym first.number);
          unfed = λ feeds. h.unfed (first.number ∙ feeds);
          alone = λ all. h.alone (all-then all);
        }
