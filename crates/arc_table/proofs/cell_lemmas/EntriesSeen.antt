-- What a party has seen of the entries that it made of cells, as it takes cells, gives them back and makes events of shards; and what it finds of a cell.
use Rattle.std.proofs.Common.{◌≡◌, ◌≢◌, ℕ, zero, suc, ◌+◌, ◌-◌, ◌<◌, List, [], ◌∷◌, ◌++◌, length, map, Option, None, refl, sym, ap, ◌∙◌, subst, inl, inr, ⊎_elim, arith, length-append}
use Rattle.std.specs.Option.{option_map_or}
use Rattle.std.proofs.lemmas.List.{length-map, map-append}
use mathlib.Core.Option.{some, some-injective, some-ne-none}
use mathlib.Core.Logic.{dite}
use native.Mathlib.Decide.{ℕ_discrete}
use lib.ListN.{get_elem?}
use Rattle.arc_core.specs.declared.config.Config.{Config}
use Rattle.arc_core.specs.declared.event.Event.{Event}
use Rattle.arc_core.specs.ShardLog.{ShardLog}
use Rattle.turn_table.specs.declared.standing.Kept.{Kept}
use Rattle.turn_table.specs.Moments.{Loses, WasFree}
use Rattle.turn_table.specs.Places.{AllShow, HasNumber, IsIn, Place, gave_back, saw, took}
use Rattle.arc_table.specs.declared.about.About.{About}
use Rattle.arc_table.specs.declared.item.Item.{Item}
use Rattle.arc_table.specs.declared.item.Item.TheVariants as item
use Rattle.arc_table.specs.declared.view.Known.{Known}
use Rattle.arc_table.specs.declared.view.Line.{Line}
use Rattle.arc_table.specs.declared.view.Line.TheVariants as line
use Rattle.arc_table.specs.declared.view.Mine.{Mine}
use Rattle.arc_table.specs.pact.Attached.{IsShown}
use Rattle.arc_table.specs.Cells.{SeesAll}
use Rattle.arc_table.specs.Fronts.{StartsWith, front_of}
use Rattle.arc_table.specs.Geometry.{IsCell, parties_of}
use Rattle.arc_table.specs.Giving.{IsGivenCell}
use Rattle.arc_table.specs.Items.{Meanings, lines_in, maker_of}
use Rattle.arc_table.specs.pact.Logged.{HasPlace}
use Rattle.arc_table.specs.pact.Rule.{Pact}
use Rattle.arc_table.specs.pact.Scene.{Scene}
use Rattle.arc_table.specs.Seen.{AllEntriesSeen, AllSeenBy, AreEntriesSeen, FindsEntries, HasAll, HasSeenBy, HasSeenItsEntries, IsEntrySeen, IsSeenBy, MadeBy, turn_of}
use Rattle.arc_table.specs.TableLaws.{get_front, starts_whole, within}
use Rattle.arc_table.proofs.TableLaws.{front_else, front_here, there}
use Rattle.arc_table.specs.Views.{after_cell, after_lost, after_won, mines_from, recorded}
use Rattle.arc_table.proofs.OwnLemmas.{get-either}
use Rattle.arc_table.proofs.Reached.{SameButNotes, Took, loses_same, took_is}
use Rattle.arc_table.proofs.SeenLemmas.{all-seen-as, get-behind}

-- ---- fronts that grow

-- of each cell, t has at least what s had
abbrev pub CellsGrow : Config → (s t : List (List Line)) → Type 0
CellsGrow g s t = (i : ℕ) → IsCell g i → StartsWith (front_of i t) (front_of i s)

entries-grow : (g : Config) (n : ℕ) (mines : List Mine) (s t : List (List Line)) → CellsGrow g s t → AreEntriesSeen g n mines s → AreEntriesSeen g n mines t
entries-grow g n mines s t grows seen i j a in_range at is =
    let h = seen i j a in_range at is in
    let r = grows i in_range in
    record { rest = h.rest; there = ap (λ (l : List Line). get_elem? l a.place) r.1 ∙ get_front (front_of i s) r.0 a.place (line.Entry (n ∷ h.rest)) h.there }

module _ {C : Type 0} (g : Config) where
  all-entries-grow : (ks : List (Kept (Known C))) (s t : List (List Line)) → CellsGrow g s t → AllEntriesSeen g ks s → AllEntriesSeen g ks t
  all-entries-grow [] s t grows all = tt
  all-entries-grow (k ∷ ks) s t grows all = (entries-grow g k.number k.view.mine s t grows all.0, all-entries-grow ks s t grows all.1)

  -- the party has as many lines as before, and has seen at least as much of the cells
  grown : (p q : Place (Known C)) → q.number ≡ p.number → q.joined ≡ p.joined → q.own.mine ≡ p.own.mine → CellsGrow g p.own.seen q.own.seen → HasSeenItsEntries g p → HasSeenItsEntries g q
  grown p q number joined mine grows own = record {
    own = subst (λ (x : ℕ × List Mine). AreEntriesSeen g x.0 x.1 q.own.seen) (λ z. (sym number z, sym mine z)) (entries-grow g p.number p.own.mine p.own.seen q.own.seen grows own.own);
    joined = subst (λ (ks : List (Kept (Known C))). AllEntriesSeen g ks q.own.seen) (sym joined) (all-entries-grow p.joined p.own.seen q.own.seen grows own.joined);
  }

  -- ---- events of a shard

  module _ {May : (n number : ℕ) → Type 0} (shard : ℕ) (before : ShardLog) (es : List Event) (p q : Place (Known C)) (made : MadeBy May g shard before es p q) (fronts : (i : ℕ) → IsCell g i → front_of i q.own.seen ≡ front_of i p.own.seen) where
    grows : CellsGrow g p.own.seen q.own.seen
    grows i in_range = subst (λ (l : List Line). StartsWith l (front_of i p.own.seen)) (sym (fronts i in_range)) (starts_whole (front_of i p.own.seen))

    pub made-entries : HasSeenItsEntries g p → HasSeenItsEntries g q
    made-entries own = record {
      own = λ i j a in_range at is. ⊎_elim
          (λ (old : get_elem? p.own.mine j ≡ some a). subst (λ (n : ℕ). IsEntrySeen n (front_of i q.own.seen) a.place) (sym made.same.number)
          (entries-grow g p.number p.own.mine p.own.seen q.own.seen grows own.own i j a in_range old is))
          (λ (new : (y : ℕ) × (get_elem? made.news y ≡ some a)). let turn = (made.each new.0 a new.1).0 in let below = in_range in absurd (omega (arith, sym turn ∙ is)))
          (get-either p.own.mine made.news j a (subst (λ (l : List Mine). get_elem? l j ≡ some a) made.mine at));
      joined = subst (λ (ks : List (Kept (Known C))). AllEntriesSeen g ks q.own.seen) (sym made.same.joined) (all-entries-grow p.joined p.own.seen q.own.seen grows own.joined);
    }

-- ---- a cell that is taken

module _ {C : Type 0} (m : Meanings C) (g : Config) (i : ℕ) (c : C) (p q : Place (Known C)) (in_range : IsCell g i) (took : Took m i (item.Cell c) p q) where
  pub took-entries : StartsWith (map line.Entry (m.entries c)) (front_of i p.own.seen) → HasSeenItsEntries g p → HasSeenItsEntries g q
  took-entries had = grown g p q took.number took.joined took.mine (λ j range. dite (ℕ_discrete j i)
      (λ is. subst (λ (x : ℕ). StartsWith (front_of x q.own.seen) (front_of x p.own.seen)) (sym is)
      (subst (λ (l : List Line). StartsWith l (front_of i p.own.seen)) (sym (ap (front_of i) took.seen ∙ front_here i (map line.Entry (m.entries c)) p.own.seen)) had))
      (λ differs. subst (λ (l : List Line). StartsWith l (front_of j p.own.seen)) (sym (ap (front_of j) took.seen ∙ front_else i j (map line.Entry (m.entries c)) p.own.seen differs)) (starts_whole (front_of j p.own.seen))))

  shard-front : (j : ℕ) → front_of (turn_of g j) q.own.seen ≡ front_of (turn_of g j) p.own.seen
  shard-front j = ap (front_of (turn_of g j)) took.seen ∙ front_else i (turn_of g j) (map line.Entry (m.entries c)) p.own.seen (λ e. let b = in_range in omega arith)

  pub took-sees : {May : (n number : ℕ) → Type 0} → HasSeenBy May g p → HasSeenBy May g q
  took-sees {May} own = record {
    own = λ j k a at is. subst (λ (x : ℕ × List Line). IsSeenBy May (parties_of g) x.0 x.1 a.place) (λ z. (sym took.number z, sym (shard-front j) z))
        (own.own j k a (subst (λ (l : List Mine). get_elem? l k ≡ some a) took.mine at) is);
    joined = subst (λ (ks : List (Kept (Known C))). AllSeenBy May g ks q.own.seen) (sym took.joined) (all-seen-as g May p.joined p.own.seen q.own.seen shard-front own.joined);
  }

-- ---- a cell that is given back

mines-at : (turn place count y : ℕ) (a : Mine) → get_elem? (mines_from turn place count) y ≡ some a → (a.turn ≡ turn) × (a.place ≡ place + y) × (y < count)
mines-at turn place zero y a at = absurd (some-ne-none a (sym at))
mines-at turn place (suc count) zero a at =
    let is : record { turn = turn; place = place; note = None } ≡ a = some-injective _ a at in
    (ap (λ (x : Mine). x.turn) (sym is), ap (λ (x : Mine). x.place) (sym is) ∙ (let e : place ≡ place + 0 = omega arith in e), omega arith)
mines-at turn place (suc count) (suc y) a at =
    let h = mines-at turn (suc place) count y a at in
    let below = h.2 in
    (h.0, h.1 ∙ (let e : suc place + y ≡ place + suc y = omega arith in e), omega arith)

get-mapped : {A B : Type 0} (f : A → B) (xs : List A) (y : ℕ) (a : A) → get_elem? xs y ≡ some a → get_elem? (map f xs) y ≡ some (f a)
get-mapped f [] y a at = absurd (some-ne-none a (sym at))
get-mapped f (x ∷ xs) zero a at = ap (λ b. some (f b)) (some-injective x a at)
get-mapped f (x ∷ xs) (suc y) a at = get-mapped f xs y a at

module _ {C : Type 0} (m : Meanings C) (g : Config) (i : ℕ) (d : C) (p : Place (Known C)) (in_range : IsCell g i) (given : IsGivenCell m p.number i d p.own) (front : front_of i p.own.seen ≡ map line.Entry (m.entries given.taken)) where
  abbrev back : Place (Known C)
  back = gave_back p i (after_cell m i (item.Cell d) p.own)

  abbrev had : List Line
  had = map line.Entry (m.entries given.taken)

  recorded-is : recorded m i p.own ≡ had
  recorded-is = ap (λ (o : Option (Item C)). option_map_or (lines_in m) o []) given.recorded

  lines-are : map line.Entry (m.entries d) ≡ had ++ map line.Entry given.more
  lines-are = ap (map line.Entry) given.entries ∙ map-append line.Entry (m.entries given.taken) given.more

  front-back : front_of i back.own.seen ≡ had ++ map line.Entry given.more
  front-back = front_here i (map line.Entry (m.entries d)) p.own.seen ∙ lines-are

  back-grows : CellsGrow g p.own.seen back.own.seen
  back-grows j range = dite (ℕ_discrete j i)
      (λ is. subst (λ (x : ℕ). StartsWith (front_of x back.own.seen) (front_of x p.own.seen)) (sym is) (map line.Entry given.more, front-back ∙ ap (λ (l : List Line). l ++ map line.Entry given.more) (sym front)))
      (λ differs. subst (λ (l : List Line). StartsWith l (front_of j p.own.seen)) (sym (front_else i j (map line.Entry (m.entries d)) p.own.seen differs)) (starts_whole (front_of j p.own.seen)))

  abbrev count : ℕ
  count = length (map line.Entry (m.entries d)) - length (recorded m i p.own)

  count-is : count ≡ length given.more
  count-is =
      let a : length (map line.Entry (m.entries d)) ≡ length had + length given.more =
      ap length lines-are ∙ (length-append had (map line.Entry given.more) ∙ ap (λ (n : ℕ). length had + n) (length-map given.more line.Entry)) in
      let b : length (recorded m i p.own) ≡ length had = ap length recorded-is in
      omega arith

  -- what it made since it took the cell stands there
  new-seen : (y : ℕ) (a : Mine) → get_elem? (mines_from i (length (recorded m i p.own)) count) y ≡ some a → IsEntrySeen p.number (front_of i back.own.seen) a.place
  new-seen y a at =
      let h = mines-at i (length (recorded m i p.own)) count y a at in
      let below : y < length given.more = subst (λ (n : ℕ). y < n) count-is h.2 in
      let e = there given.more y below in
      let own = given.own y e.0 e.1 in
      record {
        rest = own.0;
        there = (λ z. get_elem? (front-back z) ((h.1 ∙ ap (λ (l : List Line). length l + y) recorded-is) z))
            ∙ (get-behind had (map line.Entry given.more) y ∙ (get-mapped line.Entry given.more y e.0 e.1 ∙ ap (λ (x : List ℕ). some (line.Entry x)) own.1));
      }

  pub given-entries : HasSeenItsEntries g p → HasSeenItsEntries g back
  given-entries own = record {
    own = λ j k a range at is. ⊎_elim
        (λ (old : get_elem? p.own.mine k ≡ some a). entries-grow g p.number p.own.mine p.own.seen back.own.seen back-grows own.own j k a range old is)
        (λ (new : (y : ℕ) × (get_elem? (mines_from i (length (recorded m i p.own)) count) y ≡ some a)).
        let turn = (mines-at i (length (recorded m i p.own)) count new.0 a new.1).0 in
        subst (λ (x : ℕ). IsEntrySeen p.number (front_of x back.own.seen) a.place) (sym turn ∙ is) (new-seen new.0 a new.1))
        (get-either p.own.mine (mines_from i (length (recorded m i p.own)) count) k a at);
    joined = all-entries-grow g p.joined p.own.seen back.own.seen back-grows own.joined;
  }

  back-front : (j : ℕ) → front_of (turn_of g j) back.own.seen ≡ front_of (turn_of g j) p.own.seen
  back-front j = front_else i (turn_of g j) (map line.Entry (m.entries d)) p.own.seen (λ e. let b = in_range in omega arith)

  pub given-sees : {May : (n number : ℕ) → Type 0} → HasSeenBy May g p → HasSeenBy May g back
  given-sees {May} own = record {
    own = λ j k a at is. ⊎_elim
        (λ (old : get_elem? p.own.mine k ≡ some a). subst (λ (l : List Line). IsSeenBy May (parties_of g) p.number l a.place) (sym (back-front j)) (own.own j k a old is))
        (λ (new : (y : ℕ) × (get_elem? (mines_from i (length (recorded m i p.own)) count) y ≡ some a)).
        let turn = (mines-at i (length (recorded m i p.own)) count new.0 a new.1).0 in let b = in_range in absurd (omega (arith, sym turn ∙ is)))
        (get-either p.own.mine (mines_from i (length (recorded m i p.own)) count) k a at);
    joined = all-seen-as g May p.joined p.own.seen back.own.seen back-front own.joined;
  }

-- ---- what is found of a cell

module _ {C : Type 0} (m : Meanings C) (g : Config) (i : ℕ) (c : C) (p : Place (Known C)) (config : p.own.about.config ≡ g) (in_range : IsCell g i) (free : WasFree (Pact m) p i (item.Cell c)) (own : HasSeenItsEntries g p) where
  abbrev scene : Scene C
  scene = free.held.scene

  shown : IsShown scene p.number p.own
  shown = free.held.attached.views p.number p.own free.stands.shows.0

  config-is : scene.about.config ≡ g
  config-is = ap (λ (a : About). a.config) (sym shown.about) ∙ config

  now-is : lines_in m (scene.now i) ≡ map line.Entry (m.entries c)
  now-is = ap (lines_in m) (free.held.attached.free i (item.Cell c) free.turn).0

  joined-seen : (n : ℕ) (ks : List (Kept (Known C))) → IsIn n ks → AllShow free.board.views ks → AllEntriesSeen g ks p.own.seen → AreEntriesSeen g n (scene.mine n) p.own.seen
  joined-seen n [] among shows seen = absurd among
  joined-seen n (k ∷ ks) (inl is) shows seen =
      let view = free.held.attached.views k.number k.view shows.0 in
      subst (λ (x : ℕ). AreEntriesSeen g x (scene.mine x) p.own.seen) is (subst (λ (l : List Mine). AreEntriesSeen g k.number l p.own.seen) view.mine seen.0)
  joined-seen n (k ∷ ks) (inr among) shows seen = joined-seen n ks among shows.1 seen.1

  mine-seen : (n : ℕ) → HasNumber n p → AreEntriesSeen g n (scene.mine n) p.own.seen
  mine-seen n (inl is) = subst (λ (x : ℕ). AreEntriesSeen g x (scene.mine x) p.own.seen) is (subst (λ (l : List Mine). AreEntriesSeen g p.number l p.own.seen) shown.mine own.own)
  mine-seen n (inr among) = joined-seen n p.joined among free.stands.shows.1 own.joined

  abbrev front : List Line
  front = front_of i p.own.seen

  starts : StartsWith (map line.Entry (m.entries c)) front
  starts = subst (λ (l : List Line). StartsWith l front) now-is
      (subst (λ (s : List (List Line)). StartsWith (lines_in m (scene.now i)) (front_of i s)) (sym shown.seen) (free.held.logged.seen p.number i))

  -- what stands behind the front is entries
  rest-entries : (l r : List Line) (es : List (List ℕ)) → l ++ r ≡ map line.Entry es → (more : List (List ℕ)) × (r ≡ map line.Entry more)
  rest-entries [] r es is = (es, is)
  rest-entries (x ∷ xs) r [] is = cc
  rest-entries (x ∷ xs) r (e ∷ es) is = rest-entries xs r es cc

  abbrev more : (es : List (List ℕ)) × (starts.0 ≡ map line.Entry es)
  more = rest-entries front starts.0 (m.entries c) (sym starts.1)

  behind : (y : ℕ) (e : List ℕ) → get_elem? more.0 y ≡ some e → get_elem? (lines_in m (scene.now i)) (length front + y) ≡ some (line.Entry e)
  behind y e at = ap (λ (l : List Line). get_elem? l (length front + y)) (now-is ∙ starts.1)
      ∙ (get-behind front starts.0 y ∙ (ap (λ (l : List Line). get_elem? l y) more.1 ∙ get-mapped line.Entry more.0 y e at))

  place-of : (y : ℕ) (e : List ℕ) → get_elem? more.0 y ≡ some e → HasPlace m scene i (length front + y) (scene.owner i (length front + y))
  place-of y e at = free.held.logged.places i (length front + y) (within (lines_in m (scene.now i)) (length front + y) (line.Entry e) (behind y e at))

  unseen : (y : ℕ) (e : List ℕ) → get_elem? more.0 y ≡ some e → HasNumber (scene.owner i (length front + y)) p → ⊥
  unseen y e at has =
      let h = place-of y e at in
      let s = mine-seen (scene.owner i (length front + y)) has i h.index h.line in_range h.at h.turn in
      let inside : h.line.place < length front = within front h.line.place (line.Entry (scene.owner i (length front + y) ∷ s.rest)) s.there in
      let is : h.line.place ≡ length front + y = h.place in
      absurd (omega arith)

  parties-are : length free.board.views ≡ parties_of scene.about.config
  parties-are = free.held.attached.parties

  not-own : (y : ℕ) (e : List ℕ) → get_elem? more.0 y ≡ some e → maker_of (line.Entry e) ≢ p.number
  not-own y e at is =
      let own_line = free.held.logged.own i (length front + y) (line.Entry e) (behind y e at) in
      let below : p.number < length free.board.views = within free.board.views p.number p.own free.stands.shows.0 in
      let party : maker_of (line.Entry e) < parties_of scene.about.config = subst (λ (x : ℕ). x < parties_of scene.about.config) (sym is) (subst (λ (x : ℕ). p.number < x) parties-are below) in
      unseen y e at (inl (sym is ∙ own_line.maker party))

  nobody-else : HasAll p → (e : List ℕ) → get_elem? more.0 0 ≡ some e → ⊥
  nobody-else all e at =
      let h = place-of 0 e at in
      let below : scene.owner i (length front + 0) < parties_of scene.about.config = h.party in
      unseen 0 e at (all _ (subst (λ (x : ℕ). scene.owner i (length front + 0) < x) (sym parties-are ∙ free.stands.count) below))

  none-there : (l : List (List ℕ)) → ((e : List ℕ) → get_elem? l 0 ≡ some e → ⊥) → l ≡ []
  none-there [] none = refl
  none-there (x ∷ xs) none = absurd (none x refl)

  pub finds-entries : FindsEntries i p (m.entries c)
  finds-entries = record {
    rest = more.0;
    whole = starts.1 ∙ ap (λ (l : List Line). front ++ l) more.1;
    others = not-own;
    alone = λ all. none-there more.0 (nobody-else all);
  }

-- ---- a take, whole

module _ {C : Type 0} (m : Meanings C) (g : Config) (i : ℕ) (c : C) (owners : List ℕ) (w : Known C) (p : Place (Known C)) (config : p.own.about.config ≡ g) (in_range : IsCell g i)
    (lost : Loses (Pact m) (λ _. after_lost) i owners p (saw p w)) (free : WasFree (Pact m) (saw p w) i (item.Cell c)) (all : SeesAll g p) where
  knew : SameButNotes p.own w
  knew = loses_same m i owners p (saw p w) lost

  taken : Took m i (item.Cell c) p (took p i (after_won m i (item.Cell c) w))
  taken = took_is m i (item.Cell c) p (took p i (after_won m i (item.Cell c) w)) record { owners = owners; knew = w; lost = lost; free = free; took = refl }

  same-front : front_of i w.seen ≡ front_of i p.own.seen
  same-front = ap (front_of i) knew.seen

  entries-then : HasSeenItsEntries g (saw p w)
  entries-then = grown g p (saw p w) refl refl knew.mine (λ j range. subst (λ (s : List (List Line)). StartsWith (front_of j s) (front_of j p.own.seen)) (sym knew.seen) (starts_whole (front_of j p.own.seen))) all.1

  found : FindsEntries i (saw p w) (m.entries c)
  found = finds-entries m g i c (saw p w) (ap (λ (a : About). a.config) knew.about ∙ config) in_range free entries-then

  pub seen-at-take : SeesAll g (took p i (after_won m i (item.Cell c) w)) × FindsEntries i p (m.entries c)
  seen-at-take = (
    (
      took-sees m g i c p (took p i (after_won m i (item.Cell c) w)) in_range taken all.0,
      took-entries m g i c p (took p i (after_won m i (item.Cell c) w)) in_range taken (map line.Entry found.rest, found.whole ∙ ap (λ (l : List Line). l ++ map line.Entry found.rest) same-front) all.1,
    ),
    record { rest = found.rest; whole = found.whole ∙ ap (λ (l : List Line). l ++ map line.Entry found.rest) same-front; others = found.others; alone = found.alone },
  )
