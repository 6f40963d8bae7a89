-- Lines are appended to the history of one turn: what the pact says of histories and of passes stays so.
use Rattle.std.proofs.Common.{◌≡◌, ◌≢◌, ◌==◌, if◌then◌else◌, ℕ, zero, suc, ◌+◌, ◌-◌, ◌<◌, ◌≤◌, List, [], ◌∷◌, ◌++◌, length, true, false, Some, refl, sym, ap, ◌∙◌, subst, eq-eqb, ne_eqb, arith, length-append, lt_of_not-le}
use Rattle.std.specs.Prelude.{nat_lt}
use mathlib.Core.Option.{some}
use mathlib.Core.Logic.{dite}
use native.Mathlib.Decide.{dec_le, ℕ_discrete}
use lib.ListN.{get_elem?}
use Rattle.arc_core.specs.declared.event.Event.TheVariants.{Pass}
use Rattle.arc_table.specs.declared.item.Item.{Item}
use Rattle.arc_table.specs.declared.view.Line.{Line}
use Rattle.arc_table.specs.declared.view.Line.TheVariants as line
use Rattle.arc_table.specs.declared.view.Mine.{Mine}
use Rattle.arc_table.specs.Fronts.{with_at, front_of, put, StartsWith}
use Rattle.arc_table.specs.Geometry.{parties_of}
use Rattle.arc_table.specs.Items.{Meanings, lines_in}
use Rattle.arc_table.specs.pact.Logged.{HasPlace, IsOwn, IsSoundItem, Logged}
use Rattle.arc_table.specs.pact.Passed.{IsPassNoted, Passed}
use Rattle.arc_table.specs.pact.Scene.{Scene}
use Rattle.arc_table.specs.TableLaws.{at_here, at_else, get_front, starts_whole, within}
use Rattle.arc_table.proofs.TableLaws.{front_here, front_else, starts_more, there}
use Rattle.arc_table.proofs.Begun.{InEither, front, rest, in_either}

-- the party of a line, once the lines of the turn i from this place on are n's
abbrev pub owned : (ℕ → ℕ → ℕ) → ℕ → ℕ → ℕ → ℕ → ℕ → ℕ
owned owner i from n j p = if j == i then (if nat_lt p from then owner j p else n) else owner j p

below_true : (p from : ℕ) → p < from → nat_lt p from ≡ true
below_true p from h = grind (arith, Rattle.std.proofs.lemmas.Bool.Decides.nat_tests)

below_false : (p from : ℕ) → from ≤ p → nat_lt p from ≡ false
below_false p from h = grind (arith, Rattle.std.proofs.lemmas.Bool.Decides.nat_tests)

pub owned_else : (owner : ℕ → ℕ → ℕ) (i from n j p : ℕ) → j ≢ i → owned owner i from n j p ≡ owner j p
owned_else owner i from n j p h = subst (λ b. (if b then (if nat_lt p from then owner j p else n) else owner j p) ≡ owner j p) (sym (ne_eqb j i h)) refl

pub owned_old : (owner : ℕ → ℕ → ℕ) (i from n p : ℕ) → p < from → owned owner i from n i p ≡ owner i p
owned_old owner i from n p h = subst (λ b. (if b then (if nat_lt p from then owner i p else n) else owner i p) ≡ owner i p) (sym (eq-eqb i i refl)) (subst (λ b. (if b then owner i p else n) ≡ owner i p) (sym (below_true p from h)) refl)

pub owned_new : (owner : ℕ → ℕ → ℕ) (i from n p : ℕ) → from ≤ p → owned owner i from n i p ≡ n
owned_new owner i from n p h = subst (λ b. (if b then (if nat_lt p from then owner i p else n) else owner i p) ≡ n) (sym (eq-eqb i i refl)) (subst (λ b. (if b then owner i p else n) ≡ n) (sym (below_false p from h)) refl)

-- each line below the place stays its party's
pub owned_below : (owner : ℕ → ℕ → ℕ) (i from n j p : ℕ) → (j ≡ i → p < from) → owned owner i from n j p ≡ owner j p
owned_below owner i from n j p h = dite (ℕ_discrete j i)
    (λ q. subst (λ (z : ℕ). owned owner i from n z p ≡ owner z p) (sym q) (owned_old owner i from n p (h q)))
    (λ q. owned_else owner i from n j p q)

-- a party lists lines of the turn i, one after the other, from this place on
pub record AreMines (i from count : ℕ) (news : List Mine) : Type 0 where
  pub long : length news ≡ count
  pub each : (j : ℕ) (a : Mine) → get_elem? news j ≡ some a → (a.turn ≡ i) × (a.place ≡ from + j)

module _ {C : Type 0} (m : Meanings C) where
  -- The lines made are appended to the history of the turn i by n, which lists them; other turns keep their histories
  pub record Appends (s : Scene C) (now : ℕ → Item C) (i n : ℕ) (made : List Line) (news : List Mine) : Type 0 where
    pub party : n < parties_of s.about.config
    pub here : lines_in m (now i) ≡ lines_in m (s.now i) ++ made
    pub others : (j : ℕ) → j ≢ i → lines_in m (now j) ≡ lines_in m (s.now j)
    pub sound : (j : ℕ) → IsSoundItem m s.about j (now j)
    pub mines : AreMines i (length (lines_in m (s.now i))) (length made) news
    pub own : (j : ℕ) (l : Line) → get_elem? made j ≡ some l → IsOwn s.about.config n l

  -- the scene once they are
  abbrev pub appended : Scene C → (ℕ → Item C) → ℕ → ℕ → List Mine → Scene C
  appended s now i n news = record s {
    now = now;
    owner = owned s.owner i (length (lines_in m (s.now i))) n;
    seen = with_at s.seen n (put i (lines_in m (now i)) (s.seen n));
    mine = with_at s.mine n (s.mine n ++ news);
  }

  module _ (s : Scene C) (now : ℕ → Item C) (i n : ℕ) (made : List Line) (news : List Mine) (a : Appends s now i n made news) where
    abbrev from : ℕ
    from = length (lines_in m (s.now i))

    abbrev t : Scene C
    t = appended s now i n news

    -- what a party lists
    mine_n : t.mine n ≡ s.mine n ++ news
    mine_n = at_here s.mine n (s.mine n ++ news)

    mine_else : (k : ℕ) → k ≢ n → t.mine k ≡ s.mine k
    mine_else k h = at_else s.mine n k (s.mine n ++ news) h

    -- an old line, or a new one of n's
    data Listed (k j : ℕ) (x : Mine) : Type 0 where
      old : get_elem? (s.mine k) j ≡ some x → Listed k j x
      new : (q : ℕ) → k ≡ n → j ≡ length (s.mine n) + q → get_elem? news q ≡ some x → Listed k j x

    listed_n : (j : ℕ) (x : Mine) → InEither (s.mine n) news j x → Listed n j x
    listed_n j x (front e) = old e
    listed_n j x (rest q is e) = new q refl is e

    listed : (k j : ℕ) (x : Mine) → get_elem? (t.mine k) j ≡ some x → Listed k j x
    listed k j x e = dite (ℕ_discrete k n)
        (λ q. subst (λ (z : ℕ). Listed z j x) (sym q) (listed_n j x (in_either (s.mine n) news j x (subst (λ (l : List Mine). get_elem? l j ≡ some x) (ap t.mine q ∙ mine_n) e))))
        (λ q. old (subst (λ (l : List Mine). get_elem? l j ≡ some x) (mine_else k q) e))

    still_listed : (k j : ℕ) (x : Mine) → get_elem? (s.mine k) j ≡ some x → get_elem? (t.mine k) j ≡ some x
    still_listed k j x e = dite (ℕ_discrete k n)
        (λ q. subst (λ (l : List Mine). get_elem? l j ≡ some x) (sym (ap t.mine q ∙ mine_n)) (get_front (s.mine n) news j x (subst (λ (z : ℕ). get_elem? (s.mine z) j ≡ some x) q e)))
        (λ q. subst (λ (l : List Mine). get_elem? l j ≡ some x) (sym (mine_else k q)) e)

    news_at : (q : ℕ) (x : Mine) → get_elem? news q ≡ some x → get_elem? (t.mine n) (length (s.mine n) + q) ≡ some x
    news_at q x e = subst (λ (l : List Mine). get_elem? l (length (s.mine n) + q) ≡ some x) (sym mine_n) (behind (s.mine n) q x e)
      where
        behind : (l : List Mine) (q : ℕ) (x : Mine) → get_elem? news q ≡ some x → get_elem? (l ++ news) (length l + q) ≡ some x
        behind [] q x e = let h : q ≡ zero + q = omega arith in subst (λ (z : ℕ). get_elem? news z ≡ some x) h e
        behind (y ∷ l) q x e = let h : suc (length l + q) ≡ suc (length l) + q = omega arith in subst (λ (z : ℕ). get_elem? ((y ∷ l) ++ news) z ≡ some x) h (behind l q x e)

    -- histories only grow
    grown : (j : ℕ) → StartsWith (lines_in m (now j)) (lines_in m (s.now j))
    grown j = dite (ℕ_discrete j i)
        (λ q. subst (λ (z : ℕ). StartsWith (lines_in m (now z)) (lines_in m (s.now z))) (sym q) (made, a.here))
        (λ q. subst (λ (l : List Line). StartsWith l (lines_in m (s.now j))) (sym (a.others j q)) (starts_whole (lines_in m (s.now j))))

    longer_now : (j : ℕ) → length (lines_in m (s.now j)) ≤ length (lines_in m (now j))
    longer_now j = let g = grown j in let e : length (lines_in m (now j)) ≡ length (lines_in m (s.now j) ++ g.0) = ap length g.1 in let f = length-append (lines_in m (s.now j)) g.0 in omega arith

    long_now : length (lines_in m (now i)) ≡ from + length made
    long_now = ap length a.here ∙ length-append (lines_in m (s.now i)) made

    line_old : (j p : ℕ) (l : Line) → get_elem? (lines_in m (s.now j)) p ≡ some l → get_elem? (lines_in m (now j)) p ≡ some l
    line_old j p l e = let g = grown j in subst (λ (x : List Line). get_elem? x p ≡ some l) (sym g.1) (get_front (lines_in m (s.now j)) g.0 p l e)

    -- a line now is an old one, or one of those made
    data Stands (j p : ℕ) (l : Line) : Type 0 where
      stood : get_elem? (lines_in m (s.now j)) p ≡ some l → Stands j p l
      made_at : (q : ℕ) → j ≡ i → p ≡ from + q → get_elem? made q ≡ some l → Stands j p l

    stands_i : (p : ℕ) (l : Line) → InEither (lines_in m (s.now i)) made p l → Stands i p l
    stands_i p l (front e) = stood e
    stands_i p l (rest q is e) = made_at q refl is e

    stands : (j p : ℕ) (l : Line) → get_elem? (lines_in m (now j)) p ≡ some l → Stands j p l
    stands j p l e = dite (ℕ_discrete j i)
        (λ q. subst (λ (z : ℕ). Stands z p l) (sym q) (stands_i p l (in_either (lines_in m (s.now i)) made p l (subst (λ (x : List Line). get_elem? x p ≡ some l) (ap (λ (z : ℕ). lines_in m (now z)) q ∙ a.here) e))))
        (λ q. stood (subst (λ (x : List Line). get_elem? x p ≡ some l) (a.others j q) e))

    -- ---- histories

    seen_now : Logged m s → (k j : ℕ) → StartsWith (lines_in m (now j)) (front_of j (t.seen k))
    seen_now l k j = dite (ℕ_discrete k n)
        (λ q. subst (λ (x : List (List Line)). StartsWith (lines_in m (now j)) (front_of j x)) (sym (ap t.seen q ∙ at_here s.seen n (put i (lines_in m (now i)) (s.seen n))))
        (dite (ℕ_discrete j i)
        (λ r. subst (λ (z : ℕ). StartsWith (lines_in m (now z)) (front_of z (put i (lines_in m (now i)) (s.seen n)))) (sym r)
        (subst (StartsWith (lines_in m (now i))) (sym (front_here i (lines_in m (now i)) (s.seen n))) (starts_whole (lines_in m (now i)))))
        (λ r. subst (StartsWith (lines_in m (now j))) (sym (front_else i j (lines_in m (now i)) (s.seen n) r)) (was n j))))
        (λ q. subst (λ (x : List (List Line)). StartsWith (lines_in m (now j)) (front_of j x)) (sym (at_else s.seen n k (put i (lines_in m (now i)) (s.seen n)) q)) (was k j))
      where
        was : (k j : ℕ) → StartsWith (lines_in m (now j)) (front_of j (s.seen k))
        was k j = let g = grown j in subst (λ (x : List Line). StartsWith x (front_of j (s.seen k))) (sym g.1) (starts_more (lines_in m (s.now j)) (front_of j (s.seen k)) g.0 (l.seen k j))

    old_place : (j p k : ℕ) → HasPlace m s j p k → HasPlace m t j p k
    old_place j p k h = record { party = h.party; index = h.index; line = h.line; at = still_listed k h.index h.line h.at; turn = h.turn; place = h.place }

    new_place : (p : ℕ) → from ≤ p → p < from + length made → HasPlace m t i p n
    new_place p above below = let c = a.mines.long in let e = there news (p - from) (omega arith) in let is = a.mines.each (p - from) e.0 e.1 in
        record { party = a.party; index = length (s.mine n) + (p - from); line = e.0; at = news_at (p - from) e.0 e.1; turn = is.0; place = is.1 ∙ (omega arith) }

    places_now : Logged m s → (j p : ℕ) → p < length (lines_in m (now j)) → HasPlace m t j p (t.owner j p)
    places_now l j p below = dite (ℕ_discrete j i) (λ q. at_i q (dec_le from p)) (λ q. kept q)
      where
        kept : j ≢ i → HasPlace m t j p (t.owner j p)
        kept q = subst (HasPlace m t j p) (sym (owned_else s.owner i from n j p q)) (old_place j p (s.owner j p) (l.places j p (subst (λ (x : List Line). p < length x) (a.others j q) below)))

        at_i : j ≡ i → Dec (from ≤ p) → HasPlace m t j p (t.owner j p)
        at_i q (yes above) = subst (λ (z : ℕ). HasPlace m t z p (t.owner z p)) (sym q) (subst (HasPlace m t i p) (sym (owned_new s.owner i from n p above))
            (new_place p above (let e = long_now in let f : p < length (lines_in m (now i)) = subst (λ (z : ℕ). p < length (lines_in m (now z))) q below in omega arith)))
        at_i q (no other) = let less : p < from = lt_of_not-le other in
            subst (λ (z : ℕ). HasPlace m t z p (t.owner z p)) (sym q) (subst (HasPlace m t i p) (sym (owned_old s.owner i from n p less)) (old_place i p (s.owner i p) (l.places i p less)))

    stand_now : Logged m s → (k j : ℕ) (x : Mine) → Listed k j x → (x.place < length (lines_in m (now x.turn))) × (t.owner x.turn x.place ≡ k)
    stand_now l k j x (old e) = let h = l.stand k j x e in let less = h.0 in
        (let w = longer_now x.turn in omega arith, owned_below s.owner i from n x.turn x.place (λ q. subst (λ (z : ℕ). x.place < length (lines_in m (s.now z))) q less) ∙ h.1)
    stand_now l k j x (new q same is e) = let h = a.mines.each q x e in let w = within news q x e in let c = a.mines.long in let d = long_now in let place : x.place ≡ from + q = h.1 in
        let here : (x.place < length (lines_in m (now i))) × (t.owner i x.place ≡ n) = (omega arith, owned_new s.owner i from n x.place (omega arith)) in
        subst (λ (z : ℕ × ℕ). (x.place < length (lines_in m (now z.0))) × (t.owner z.0 x.place ≡ z.1)) (λ r. (sym h.0 r, sym same r)) here

    rises_now : Logged m s → (k j j' : ℕ) (x y : Mine) → j < j' → Listed k j x → Listed k j' y → x.turn ≡ y.turn → x.place < y.place
    rises_now l k j j' x y less (old e) (old f) same = l.rises k j j' x y less e f same
    rises_now l k j j' x y less (old e) (new q' k_is' is' f) same = let h = a.mines.each q' y f in let s' = (l.stand k j x e).0 in
        let less' : x.place < from = subst (λ (z : ℕ). x.place < length (lines_in m (s.now z))) (same ∙ h.0) s' in let p = h.1 in omega arith
    rises_now l k j j' x y less (new q k_is is e) (old f) same = let w = within (s.mine n) j' y (subst (λ (z : ℕ). get_elem? (s.mine z) j' ≡ some y) k_is f) in absurd (omega arith)
    rises_now l k j j' x y less (new q k_is is e) (new q' k_is' is' f) same = let g = (a.mines.each q x e).1 in let h = (a.mines.each q' y f).1 in omega arith

    own_now : Logged m s → (j p : ℕ) (l' : Line) → Stands j p l' → IsOwn s.about.config (t.owner j p) l'
    own_now l j p l' (stood e) = subst (λ (z : ℕ). IsOwn s.about.config z l') (sym (owned_below s.owner i from n j p (λ q. subst (λ (z : ℕ). p < length (lines_in m (s.now z))) q (within (lines_in m (s.now j)) p l' e)))) (l.own j p l' e)
    own_now l j p l' (made_at q j_is is e) = subst (λ (z : ℕ). IsOwn s.about.config z l') (sym (ap (λ (z : ℕ). t.owner z p) j_is ∙ owned_new s.owner i from n p (omega arith))) (a.own q l' e)

    pub append_logged : Logged m s → Logged m t
    append_logged l = record {
      sound = a.sound;
      seen = seen_now l;
      places = places_now l;
      stand = λ k j x e. stand_now l k j x (listed k j x e);
      rises = λ k j j' x y less e f same. rises_now l k j j' x y less (listed k j x e) (listed k j' y f) same;
      own = λ j p l' e. own_now l j p l' (stands j p l' e);
    }

    -- ---- passes

    -- the lines made are noted, by notes that were taken since this one
    pub record NewNoted (first : ℕ) : Type 0 where
      pub noted : (q : ℕ) (x : Mine) (l : Line) → get_elem? news q ≡ some x → get_elem? made q ≡ some l → IsPassNoted s.about.config (s.notes n) (t.owner i) n x l
      pub before : (j y : ℕ) (x : Mine) → get_elem? (s.mine n) j ≡ some x → x.note ≡ Some y → y < first
      pub since : (q y : ℕ) (x : Mine) → get_elem? news q ≡ some x → x.note ≡ Some y → first ≤ y
      pub rise : (q q' y y' : ℕ) (x x' : Mine) → q < q' → get_elem? news q ≡ some x → get_elem? news q' ≡ some x' → x.note ≡ Some y → x'.note ≡ Some y' → y < y'

    keep_noted : (k : ℕ) (x : Mine) (l : Line) → (x.turn ≡ i → x.place < from) → IsPassNoted s.about.config (s.notes k) (s.owner x.turn) k x l → IsPassNoted s.about.config (s.notes k) (t.owner x.turn) k x l
    keep_noted k x (line.Event (Pass by key other)) near h = let d = h.1 in (
      h.0,
      record {
        index = d.index;
        length = d.length;
        noted = d.noted;
        there = d.there;
        before = d.before;
        between = λ p above below. owned_below s.owner i from n x.turn p (λ q. let g = near q in omega arith) ∙ d.between p above below;
      },
    )
    keep_noted k x (line.Event _) near h = h
    keep_noted k x (line.Entry ns) near h = h

    noted_now : (first : ℕ) → NewNoted first → Logged m s → Passed m s → (k j : ℕ) (x : Mine) (l : Line) → Listed k j x → Stands x.turn x.place l → IsPassNoted s.about.config (s.notes k) (t.owner x.turn) k x l
    noted_now first nn lg p k j x l (old e) (stood f) = keep_noted k x l (λ q. subst (λ (z : ℕ). x.place < length (lines_in m (s.now z))) q (lg.stand k j x e).0) (p.noted k j x l e f)
    noted_now first nn lg p k j x l (old e) (made_at q j_is is f) = let less : x.place < from = subst (λ (z : ℕ). x.place < length (lines_in m (s.now z))) j_is (lg.stand k j x e).0 in absurd (omega arith)
    noted_now first nn lg p k j x l (new q k_is is e) (stood f) = let h = a.mines.each q x e in let place = h.1 in
        let less : x.place < from = subst (λ (z : ℕ). x.place < length (lines_in m (s.now z))) h.0 (within (lines_in m (s.now x.turn)) x.place l f) in absurd (omega arith)
    noted_now first nn lg p k j x l (new q k_is is e) (made_at q' j_is is' f) = let h = a.mines.each q x e in let place = h.1 in
        let same : q' ≡ q = omega arith in
        let here = nn.noted q x l e (subst (λ (z : ℕ). get_elem? made z ≡ some l) same f) in
        subst (λ (z : ℕ × ℕ). IsPassNoted s.about.config (s.notes z.1) (t.owner z.0) z.1 x l) (λ r. (sym h.0 r, sym k_is r)) here

    notes_rise : (first : ℕ) → NewNoted first → Passed m s → (k j j' : ℕ) (x x' : Mine) (y y' : ℕ) → j < j' → Listed k j x → Listed k j' x' → x.turn ≡ x'.turn → x.note ≡ Some y → x'.note ≡ Some y' → y < y'
    notes_rise first nn p k j j' x x' y y' less (old e) (old f) same note note' = p.rises k j j' x x' y y' less e f same note note'
    notes_rise first nn p k j j' x x' y y' less (old e) (new q k_is is f) same note note' = let b = nn.before j y x (subst (λ (z : ℕ). get_elem? (s.mine z) j ≡ some x) k_is e) note in let c = nn.since q y' x' f note' in omega arith
    notes_rise first nn p k j j' x x' y y' less (new q k_is is e) (old f) same note note' = let w = within (s.mine n) j' x' (subst (λ (z : ℕ). get_elem? (s.mine z) j' ≡ some x') k_is f) in absurd (omega arith)
    notes_rise first nn p k j j' x x' y y' less (new q k_is is e) (new q' k_is' is' f) same note note' = nn.rise q q' y y' x x' (omega arith) e f note note'

    pub append_passed : (first : ℕ) → NewNoted first → Logged m s → Passed m s → Passed m t
    append_passed first nn lg p = record {
      noted = λ k j x l e f. noted_now first nn lg p k j x l (listed k j x e) (stands x.turn x.place l f);
      rises = λ k j j' x x' y y' less e f same note note'. notes_rise first nn p k j j' x x' y y' less (listed k j x e) (listed k j' x' f) same note note';
    }
