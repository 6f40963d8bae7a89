-- Numbers go from one seat to another: a join, and a part.
use Rattle.std.proofs.Common.{◌≡◌, ◌≢◌, ◌⊎◌, ◌==◌, if◌then◌else◌, ℕ, zero, suc, List, [], ◌∷◌, ◌++◌, length, take, drop, set, true, false, Option, refl, sym, ap, ◌∙◌, subst, inl, inr, ⊎_elim, length-set, eq-eqb, ne_eqb}
use mathlib.Core.Option.{some, some-injective, some-ne-none}
use mathlib.Core.Logic.{dite}
use native.Mathlib.Decide.{ℕ_discrete}
use lib.ListN.{get_elem?}
use Rattle.atomic_table.specs.Table.{State, Splits, Joins}
use Rattle.atomic_table.proofs.Lists.{at_set, at_longer, set_here, set_else, set_again}
use Rattle.turn_table.specs.Board.{Board, IsAmong, KeepsLearned}
use Rattle.turn_table.specs.Standings.{AllApart, AllKept, Sits, TurnsKeep, meeting, leaving, leaves, left_with, spent}
use Rattle.turn_table.specs.Places.{Apart, entries, rest_of, IsLast, IsIn}
use Rattle.turn_table.specs.declared.standing.Kept.{Kept}
use Rattle.turn_table.specs.declared.standing.Standing.{Standing}
use Rattle.turn_table.proofs.Rows.{within, same_at}

module _ {W : Type 0} where
  -- these parties go to the seat id
  abbrev reseated : (ℕ → ℕ) → ℕ → List (Kept W) → ℕ → ℕ
  reseated seat id [] n = seat n
  reseated seat id (k ∷ ks) n = if k.number == n then id else reseated seat id ks n

  reseated_in : (seat : ℕ → ℕ) (id n : ℕ) (ks : List (Kept W)) → IsIn n ks → reseated seat id ks n ≡ id
  reseated_in seat id n [] h = absurd h
  reseated_in seat id n (k ∷ ks) h = dite (ℕ_discrete k.number n)
      (λ e. subst (λ b. (if b then id else reseated seat id ks n) ≡ id) (sym (eq-eqb k.number n e)) refl)
      (λ ne. subst (λ b. (if b then id else reseated seat id ks n) ≡ id) (sym (ne_eqb k.number n ne)) (reseated_in seat id n ks (⊎_elim (λ e. absurd (ne e)) (λ t. t) h)))

  reseated_same : (seat : ℕ → ℕ) (id n : ℕ) (ks : List (Kept W)) → seat n ≡ id → reseated seat id ks n ≡ id
  reseated_same seat id n [] h = h
  reseated_same seat id n (k ∷ ks) h = elim (k.number == n) as (λ b. (if b then id else reseated seat id ks n) ≡ id) [ true ↦ refl | false ↦ reseated_same seat id n ks h ]

  reseated_apart : (seat : ℕ → ℕ) (id n : ℕ) (ks : List (Kept W)) → Apart n ks → reseated seat id ks n ≡ seat n
  reseated_apart seat id n [] far = refl
  reseated_apart seat id n (k ∷ ks) far = subst (λ b. (if b then id else reseated seat id ks n) ≡ seat n) (sym (ne_eqb k.number n far.0)) (reseated_apart seat id n ks far.1)

  -- a number that another seat has is none of those that this seat keeps
  far_apart : (views : List W) (seat : ℕ → ℕ) (id m : ℕ) (ks : List (Kept W)) → seat m ≢ id → AllKept views seat id ks → Apart m ks
  far_apart views seat id m [] far all = tt
  far_apart views seat id m (k ∷ ks) far all = ((λ e. far (ap seat (sym e) ∙ all.0.0)), far_apart views seat id m ks far all.1)

  in_apart : (n m : ℕ) (ks : List (Kept W)) → IsIn n ks → Apart m ks → n ≢ m
  in_apart n m [] h far = absurd h
  in_apart n m (k ∷ ks) h far = ⊎_elim (λ e f. far.0 (e ∙ f)) (λ t. in_apart n m ks t far.1) h

  -- The same parties under other seats and views: each keeps its view, and is at the seat id' now
  kept_as : (views views' : List W) (seat seat' : ℕ → ℕ) (id id' : ℕ) (ks : List (Kept W))
      → ((n : ℕ) → IsIn n ks → seat n ≡ id → (seat' n ≡ id') × (get_elem? views' n ≡ get_elem? views n)) → AllKept views seat id ks → AllKept views' seat' id' ks
  kept_as views views' seat seat' id id' [] go all = tt
  kept_as views views' seat seat' id id' (k ∷ ks) go all = let here = go k.number (inl refl) all.0.0 in
      ((here.0, here.1 ∙ all.0.1), kept_as views views' seat seat' id id' ks (λ n h. go n (inr h)) all.1)

  pub kept_append : (views : List W) (seat : ℕ → ℕ) (id : ℕ) (ks js : List (Kept W)) → AllKept views seat id ks → AllKept views seat id js → AllKept views seat id (ks ++ js)
  kept_append views seat id [] js a b = b
  kept_append views seat id (k ∷ ks) js a b = (a.0, kept_append views seat id ks js a.1 b)

  apart_append : (n : ℕ) (ks js : List (Kept W)) → Apart n ks → Apart n js → Apart n (ks ++ js)
  apart_append n [] js a b = b
  apart_append n (k ∷ ks) js a b = (a.0, apart_append n ks js a.1 b)

  all_apart_append : (ks js : List (Kept W)) → AllApart ks → AllApart js → ((n : ℕ) → IsIn n ks → Apart n js) → AllApart (ks ++ js)
  all_apart_append [] js a b far = b
  all_apart_append (k ∷ ks) js a b far = (apart_append k.number ks js a.0 (far k.number (inl refl)), all_apart_append ks js a.1 b (λ n h. far n (inr h)))

  in_seat : (views : List W) (seat : ℕ → ℕ) (id n : ℕ) (ks : List (Kept W)) → AllKept views seat id ks → IsIn n ks → seat n ≡ id
  in_seat views seat id n [] all h = absurd h
  in_seat views seat id n (k ∷ ks) all h = ⊎_elim (λ e. ap seat (sym e) ∙ all.0.0) (λ t. in_seat views seat id n ks all.1 t) h

  kept_take : (views : List W) (seat : ℕ → ℕ) (id c : ℕ) (ks : List (Kept W)) → AllKept views seat id ks → AllKept views seat id (take c ks) × AllKept views seat id (drop c ks)
  kept_take views seat id zero ks all = (tt, all)
  kept_take views seat id (suc c) [] all = (tt, tt)
  kept_take views seat id (suc c) (k ∷ ks) all = let r = kept_take views seat id c ks all.1 in ((all.0, r.0), r.1)

  apart_take : (n c : ℕ) (ks : List (Kept W)) → Apart n ks → Apart n (take c ks) × Apart n (drop c ks)
  apart_take n zero ks far = (tt, far)
  apart_take n (suc c) [] far = (tt, tt)
  apart_take n (suc c) (k ∷ ks) far = let r = apart_take n c ks far.1 in ((far.0, r.0), r.1)

  -- the first c of these parties, and the others, have no number in common
  all_apart_take : (c : ℕ) (ks : List (Kept W)) → AllApart ks → AllApart (take c ks) × AllApart (drop c ks) × ((n : ℕ) → IsIn n (drop c ks) → Apart n (take c ks))
  all_apart_take zero ks all = (tt, all, λ n h. tt)
  all_apart_take (suc c) [] all = (tt, tt, λ n h. tt)
  all_apart_take (suc c) (k ∷ ks) all = let r = all_apart_take c ks all.1 in let a = apart_take k.number c ks all.0 in
      ((a.0, r.0), r.1, λ n h. ((λ e. in_apart n k.number (drop c ks) h a.1 (sym e)), r.2 n h))

module _ {V W : Type 0} (holds : Board V W → Type 0) (parties size : ℕ) where
  -- The seat `other`, with the standing y, joins the seat id, with the standing x, which knows u from then on
  module _ (s : State (Option V) (Standing W)) (r : TurnsKeep holds parties size s) (id other : ℕ) (x y : Standing W) (u w : W) (at : get_elem? s.views id ≡ some x) (live : x.live ≡ true) (ne : other ≢ id)
      (at' : get_elem? s.views other ≡ some y) (live' : y.live ≡ true) (free_x : x.held ≡ []) (free_y : y.held ≡ []) (rule : holds record { turns = r.turns; views = set r.views x.number u }) where
    joins_sit : Sits parties r.turns (set r.views x.number u) (reseated r.seat id (entries y.number y.own y.joined)) id (meeting x y u)
    joins_sit =
        let own = r.seats id x at live in
        let there = r.seats other y at' live' in
        let moving : List (Kept W) = entries y.number y.own y.joined in
        let all : AllKept r.views r.seat other moving = ((there.own_at, there.own_is), there.joined) in
        let apart : AllApart moving = (there.own_apart, there.joined_apart) in
        let views' : List W = set r.views x.number u in
        let seat' : ℕ → ℕ = reseated r.seat id moving in
        let elsewhere : (n : ℕ) → IsIn n moving → n ≢ x.number = λ n h e. ne (sym (in_seat r.views r.seat other n moving all h) ∙ (ap r.seat e ∙ own.own_at)) in
        record {
          all = own.all;
          own_at = reseated_same r.seat id x.number moving own.own_at;
          own_is = set_here r.views x.number u (within r.views x.number x.own own.own_is);
          joined = kept_append views' seat' id moving x.joined
              (kept_as r.views views' r.seat seat' other id moving (λ n h _. (reseated_in r.seat id n moving h, set_else r.views x.number n u (elsewhere n h))) all)
              (kept_as r.views views' r.seat seat' id id x.joined (λ n h e. (reseated_same r.seat id n moving e, set_else r.views x.number n u (in_apart n x.number x.joined h own.own_apart))) own.joined);
          own_apart = apart_append x.number moving x.joined (far_apart r.views r.seat other x.number moving (λ e. ne (sym e ∙ own.own_at)) all) own.own_apart;
          joined_apart = all_apart_append moving x.joined apart own.joined_apart (λ n h. far_apart r.views r.seat id n x.joined (λ e. ne (sym (in_seat r.views r.seat other n moving all h) ∙ e)) own.joined);
          held = own.held;
          once = own.once;
        }

    -- a seat that is neither of the two stays as it was
    stays_sit : (j : ℕ) (z : Standing W) → j ≢ id → j ≢ other → get_elem? s.views j ≡ some z → z.live ≡ true
        → Sits parties r.turns (set r.views x.number u) (reseated r.seat id (entries y.number y.own y.joined)) j z
    stays_sit j z far far' e alive =
        let own = r.seats id x at live in
        let there = r.seats other y at' live' in
        let p = r.seats j z e alive in
        let moving : List (Kept W) = entries y.number y.own y.joined in
        let all : AllKept r.views r.seat other moving = ((there.own_at, there.own_is), there.joined) in
        let views' : List W = set r.views x.number u in
        let seat' : ℕ → ℕ = reseated r.seat id moving in
        let same : (n : ℕ) → r.seat n ≡ j → (seat' n ≡ j) × (get_elem? views' n ≡ get_elem? r.views n) = λ n q. (
          reseated_apart r.seat id n moving (far_apart r.views r.seat other n moving (λ f. far' (sym q ∙ f)) all) ∙ q,
          set_else r.views x.number n u (λ f. far (sym q ∙ (ap r.seat f ∙ own.own_at))),
        ) in record {
          all = p.all;
          own_at = (same z.number p.own_at).0;
          own_is = (same z.number p.own_at).1 ∙ p.own_is;
          joined = kept_as r.views views' r.seat seat' j j z.joined (λ n _ q. same n q) p.joined;
          own_apart = p.own_apart;
          joined_apart = p.joined_apart;
          held = p.held;
          once = p.once;
        }

    pub joins_kept : TurnsKeep holds parties size record { words = s.words; homes = s.homes; views = set (set s.views id (meeting x y u)) other (spent w) }
    joins_kept =
        let moving : List (Kept W) = entries y.number y.own y.joined in
        let views' : List W = set r.views x.number u in
        let seat' : ℕ → ℕ = reseated r.seat id moving in
        let first : List (Standing W) = set s.views id (meeting x y u) in
        let P : ℕ → Standing W → Type 0 = Sits parties r.turns views' seat' in record {
          turns = r.turns;
          views = views';
          seat = seat';
          stands = r.stands;
          rule = rule;
          long = r.long;
          count = length-set r.views x.number u ∙ r.count;
          seats = λ j z e alive. ⊎_elim
              (λ p. absurd (dead w z p.1 alive))
              (λ p. ⊎_elim
              (λ q. subst (λ (t : ℕ × Standing W). P t.0 t.1) (λ k. (sym q.0 k, q.1 k)) joins_sit)
              (λ q. stays_sit j z q.0 p.0 q.1 alive)
              (at_set s.views id j (meeting x y u) z p.1))
              (at_set first other j (spent w) z e);
          owners = λ i m e. let h = r.owners i m e in
              let far : h.id ≢ id = λ q. idle x free_x i (subst (λ (t : Standing W). IsAmong i t.held) (same_at s.views id h.standing x (subst (λ (t : ℕ). get_elem? s.views t ≡ some h.standing) q h.at) at) h.among) in
              let far' : h.id ≢ other = λ q. idle y free_y i (subst (λ (t : Standing W). IsAmong i t.held) (same_at s.views other h.standing y (subst (λ (t : ℕ). get_elem? s.views t ≡ some h.standing) q h.at) at') h.among) in record {
                id = h.id;
                standing = h.standing;
                at = set_else first other h.id (spent w) far' ∙ (set_else s.views id h.id (meeting x y u) far ∙ h.at);
                live = h.live;
                number = h.number;
                among = h.among;
              };
        }
      where
        dead : (w : W) (z : Standing W) → spent w ≡ z → z.live ≡ true → ⊥
        dead w z e alive = let f : false ≡ true = ap (λ (t : Standing W). t.live) e ∙ alive in absurd (cc)

        idle : (z : Standing W) → z.held ≡ [] → (i : ℕ) → IsAmong i z.held → ⊥
        idle z e i h = subst (λ (l : List ℕ). IsAmong i l) e h

  -- a party joins another, which learns nothing
  pub gathers : (id other : ℕ) (x y : Standing W) (w : W) → x.live ≡ true → y.live ≡ true → x.held ≡ [] → y.held ≡ [] → Joins (TurnsKeep holds parties size) id x other y (meeting x y x.own) (spent w)
  gathers id other x y w live live' free_x free_y s r at ne at2 =
      let at' : get_elem? s.views other ≡ some y = sym (set_else s.views id other (meeting x y x.own) ne) ∙ at2 in
      let own = r.seats id x at live in
      joins_kept s r id other x y x.own w at live ne at' live' free_x free_y
      (subst (λ (l : List W). holds record { turns = r.turns; views = l }) (sym (set_again r.views x.number x.own own.own_is)) r.rule)

  -- the party that joined the seat id last, of the standing x, parts from it and knows u
  module _ (s : State (Option V) (Standing W)) (r : TurnsKeep holds parties size s) (id : ℕ) (x : Standing W) (k : Kept W) (ks : List (Kept W)) (u : W) (at : get_elem? s.views id ≡ some x) (live : x.live ≡ true)
      (last : x.joined ≡ k ∷ ks) (free_x : x.held ≡ []) (rule : holds record { turns = r.turns; views = set r.views k.number u }) where
    abbrev Goer : Standing W
    Goer = record { live = true; parties = x.parties; number = k.number; own = u; joined = take k.count ks; held = [] }

    abbrev Stayer : Standing W
    Stayer = record { live = x.live; parties = x.parties; number = x.number; own = x.own; joined = drop k.count ks; held = x.held }

    abbrev going : List (Kept W)
    going = k ∷ take k.count ks

    abbrev seat_after : ℕ → ℕ
    seat_after = reseated r.seat (length s.views) going

    parts_own : Sits parties r.turns r.views r.seat id x
    parts_own = r.seats id x at live

    parts_kept : AllKept r.views r.seat id (k ∷ ks)
    parts_kept = subst (AllKept r.views r.seat id) last parts_own.joined

    parts_apart : Apart x.number (k ∷ ks)
    parts_apart = subst (Apart x.number) last parts_own.own_apart

    parts_all_apart : AllApart (k ∷ ks)
    parts_all_apart = subst AllApart last parts_own.joined_apart

    going_kept : AllKept r.views r.seat id going
    going_kept = (parts_kept.0, (kept_take r.views r.seat id k.count ks parts_kept.1).0)

    -- a number that stays with its seat, and its view
    unmoved : (n : ℕ) → Apart n going → (seat_after n ≡ r.seat n) × (get_elem? (set r.views k.number u) n ≡ get_elem? r.views n)
    unmoved n far = (reseated_apart r.seat (length s.views) n going far, set_else r.views k.number n u (λ e. far.0 (sym e)))

    stayer_sits : Sits parties r.turns (set r.views k.number u) seat_after id Stayer
    stayer_sits =
        let split = all_apart_take k.count ks parts_all_apart.1 in
        let here : Apart x.number going = (parts_apart.0, (apart_take x.number k.count ks parts_apart.1).0) in
        let rest_far : (n : ℕ) → IsIn n (drop k.count ks) → Apart n going = λ n h. ((λ e. in_apart n k.number (drop k.count ks) h (apart_take k.number k.count ks parts_all_apart.0).1 (sym e)), split.2 n h) in
        let own = parts_own in record {
          all = own.all;
          own_at = (unmoved x.number here).0 ∙ own.own_at;
          own_is = (unmoved x.number here).1 ∙ own.own_is;
          joined = kept_as r.views (set r.views k.number u) r.seat seat_after id id (drop k.count ks) (λ n h e. ((unmoved n (rest_far n h)).0 ∙ e, (unmoved n (rest_far n h)).1)) (kept_take r.views r.seat id k.count ks parts_kept.1).1;
          own_apart = (apart_take x.number k.count ks parts_apart.1).1;
          joined_apart = split.1;
          held = own.held;
          once = own.once;
        }

    goer_sits : Sits parties r.turns (set r.views k.number u) seat_after (length s.views) Goer
    goer_sits =
        let split = all_apart_take k.count ks parts_all_apart.1 in
        let apart = (apart_take k.number k.count ks parts_all_apart.0).0 in
        let moved : (n : ℕ) → IsIn n going → seat_after n ≡ length s.views = λ n h. reseated_in r.seat (length s.views) n going h in record {
          all = parts_own.all;
          own_at = moved k.number (inl refl);
          own_is = set_here r.views k.number u (within r.views k.number k.view parts_kept.0.1);
          joined = kept_as r.views (set r.views k.number u) r.seat seat_after id (length s.views) (take k.count ks)
              (λ n h e. (moved n (inr h), set_else r.views k.number n u (in_apart n k.number (take k.count ks) h apart))) (kept_take r.views r.seat id k.count ks parts_kept.1).0;
          own_apart = apart;
          joined_apart = split.0;
          held = tt;
          once = tt;
        }

    others_sit : (j : ℕ) (z : Standing W) → j ≢ id → get_elem? s.views j ≡ some z → z.live ≡ true → Sits parties r.turns (set r.views k.number u) seat_after j z
    others_sit j z far e alive =
        let p = r.seats j z e alive in
        let same : (n : ℕ) → r.seat n ≡ j → (seat_after n ≡ j) × (get_elem? (set r.views k.number u) n ≡ get_elem? r.views n) = λ n q.
        let a = unmoved n (far_apart r.views r.seat id n going (λ f. far (sym q ∙ f)) going_kept) in (a.0 ∙ q, a.1) in record {
          all = p.all;
          own_at = (same z.number p.own_at).0;
          own_is = (same z.number p.own_at).1 ∙ p.own_is;
          joined = kept_as r.views (set r.views k.number u) r.seat seat_after j j z.joined (λ n _ q. same n q) p.joined;
          own_apart = p.own_apart;
          joined_apart = p.joined_apart;
          held = p.held;
          once = p.once;
        }

    pub parts_ok : TurnsKeep holds parties size record { words = s.words; homes = s.homes; views = set s.views id Stayer ++ Goer ∷ [] }
    parts_ok =
        let P : ℕ → Standing W → Type 0 = Sits parties r.turns (set r.views k.number u) seat_after in
        let stays : List (Standing W) = set s.views id Stayer in
        let long : length stays ≡ length s.views = length-set s.views id Stayer in record {
          turns = r.turns;
          views = set r.views k.number u;
          seat = seat_after;
          stands = r.stands;
          rule = rule;
          long = r.long;
          count = length-set r.views k.number u ∙ r.count;
          seats = λ j z e alive. ⊎_elim
              (λ (p : get_elem? stays j ≡ some z). ⊎_elim
              (λ q. subst (λ (t : ℕ × Standing W). P t.0 t.1) (λ i. (sym q.0 i, q.1 i)) stayer_sits)
              (λ q. others_sit j z q.0 q.1 alive)
              (at_set s.views id j Stayer z p))
              (λ (p : (j ≡ length stays) × (Goer ≡ z)). subst (λ (t : ℕ × Standing W). P t.0 t.1) (λ i. (sym (p.0 ∙ long) i, p.1 i)) goer_sits)
              (at_end stays j Goer z e);
          owners = λ i m e. let h = r.owners i m e in
              let far : h.id ≢ id = λ q. subst (λ (l : List ℕ). IsAmong i l) free_x (subst (λ (t : Standing W). IsAmong i t.held) (same_at s.views id h.standing x (subst (λ (t : ℕ). get_elem? s.views t ≡ some h.standing) q h.at) at) h.among) in record {
                id = h.id;
                standing = h.standing;
                at = at_longer stays (Goer ∷ []) h.id h.standing (set_else s.views id h.id Stayer far ∙ h.at);
                live = h.live;
                number = h.number;
                among = h.among;
              };
        }
      where
        at_end : (l : List (Standing W)) (j : ℕ) (a b : Standing W) → get_elem? (l ++ a ∷ []) j ≡ some b → (get_elem? l j ≡ some b) ⊎ ((j ≡ length l) × (a ≡ b))
        at_end [] zero a b e = inr (refl, some-injective a b e)
        at_end [] (suc j) a b e = absurd (some-ne-none b (sym e))
        at_end (c ∷ cs) zero a b e = inl e
        at_end (c ∷ cs) (suc j) a b e = ⊎_elim inl (λ t. inr (ap suc t.0, t.1)) (at_end cs j a b e)

  -- A party parts, with the view that f makes of what it knew
  pub parts : (f : W → W) (id : ℕ) (x : Standing W) (k : Kept W) (ks : List (Kept W)) → x.live ≡ true → x.held ≡ [] → x.joined ≡ k ∷ ks
      → ((b : Board V W) → holds b → x.number ≢ k.number → get_elem? b.views x.number ≡ some x.own → get_elem? b.views k.number ≡ some k.view → holds record { turns = b.turns; views = set b.views k.number (f k.view) })
      → Splits (TurnsKeep holds parties size) id x (left_with x) (leaving f x)
  parts f id x k ks live free_x last may s r at =
      let own = r.seats id x at live in
      let kept_here = subst (AllKept r.views r.seat id) last own.joined in
      let apart = subst (Apart x.number) last own.own_apart in
      let rule = may record { turns = r.turns; views = r.views } r.rule (λ e. apart.0 (sym e)) own.own_is kept_here.0.1 in
      let P : List (Kept W) → Type 0 = λ l. TurnsKeep holds parties size record {
        words = s.words;
        homes = s.homes;
        views = set s.views id record { live = x.live; parties = x.parties; number = x.number; own = x.own; joined = rest_of l; held = x.held } ++ leaves f x l ∷ [];
      } in
      subst P (sym last) (parts_ok s r id x k ks (f k.view) at live last free_x rule)

module _ {W : Type 0} where
  pub some_last : (n : ℕ) (l : List (Kept W)) → IsLast n l → (k : Kept W) × (ks : List (Kept W)) × ((l ≡ k ∷ ks) × (k.number ≡ n))
  some_last n [] h = absurd h
  some_last n (k ∷ ks) h = (k, ks, (refl, h))
