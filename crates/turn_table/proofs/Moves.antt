-- Each step of a row of turns keeps its rule.
use Rattle.std.proofs.Common.{◌≡◌, ◌≢◌, ◌⊎◌, ℕ, suc, ◌<◌, List, [], ◌∷◌, length, get_or, set, eqb, Bool, true, Option, Some, None, refl, sym, ap, ◌∙◌, subst, inl, inr, ⊎_elim, arith, length-set, ne_eqb}
use mathlib.Core.Option.{some, none}
use mathlib.Core.Logic.{dite}
use native.Mathlib.Decide.{ℕ_discrete}
use lib.ListN.{get_elem?}
use prog.Atomic.{either}
use Rattle.atomic_table.specs.Seated.{TableId}
use Rattle.atomic_table.specs.Table.{State, Me, Act, keeps, takes, gives, stepped, Allows, step, Valid, carried_after, rest}
use Rattle.atomic_table.proofs.Lists.{at_set, set_here, set_else, set_again}
use Rattle.turn_table.specs.Board.{Turn, free, taken, Board, IsAmong, without, KeepsWon, KeepsLearned, KeepsLost}
use Rattle.turn_table.specs.Homes.{home}
use Rattle.turn_table.specs.Standings.{AllKept, AllStand, empties, Sits, HasSeat, TurnsKeep, taking, giving, seeing, tried, brought, gave, learnt, learned_last, place_of}
use Rattle.turn_table.specs.Places.{Apart, AllOnce, AllHeld, AllShow}
use Rattle.turn_table.specs.Moments.{WasFree, WasTaken, MayGive, Stands}
use Rattle.turn_table.specs.declared.standing.Kept.{Kept}
use Rattle.turn_table.specs.declared.standing.Standing.{Standing}
use Rattle.turn_table.proofs.Homes.{home_same, home_below, some_room}
use Rattle.turn_table.proofs.Rows.{some_at, within, read_at, same_at, stands_set, Slots, among_without, once_without, held_at, held_without, all_out, front, fronted}

module _ {W : Type 0} where
  -- the parties that a seat keeps know the same, where only the view of a number changes that another seat has, or that the seat itself has as its own
  kept_else : (views : List W) (seat : ℕ → ℕ) (id n : ℕ) (u : W) (ks : List (Kept W)) → seat n ≢ id → AllKept views seat id ks → AllKept (set views n u) seat id ks
  kept_else views seat id n u [] far all = tt
  kept_else views seat id n u (k ∷ ks) far all =
      ((all.0.0, set_else views n k.number u (λ e. far (ap seat (sym e) ∙ all.0.0)) ∙ all.0.1), kept_else views seat id n u ks far all.1)

  kept_own : (views : List W) (seat : ℕ → ℕ) (id n : ℕ) (u : W) (ks : List (Kept W)) → Apart n ks → AllKept views seat id ks → AllKept (set views n u) seat id ks
  kept_own views seat id n u [] far all = tt
  kept_own views seat id n u (k ∷ ks) far all = ((all.0.0, set_else views n k.number u far.0 ∙ all.0.1), kept_own views seat id n u ks far.1 all.1)

  -- a number that another seat has is none of those that this seat keeps
  apart_from : (views : List W) (seat : ℕ → ℕ) (id m : ℕ) (ks : List (Kept W)) → seat m ≢ id → AllKept views seat id ks → Apart m ks
  apart_from views seat id m [] far all = tt
  apart_from views seat id m (k ∷ ks) far all = ((λ e. far (ap seat (sym e) ∙ all.0.0)), apart_from views seat id m ks far all.1)

  -- what each party knows that a seat keeps is among the views
  pub kept_show : (views : List W) (seat : ℕ → ℕ) (id : ℕ) (ks : List (Kept W)) → AllKept views seat id ks → AllShow views ks
  kept_show views seat id [] all = tt
  kept_show views seat id (k ∷ ks) all = (all.0.1, kept_show views seat id ks all.1)

module _ {V : Type 0} where
  -- another party's turns stay its own
  held_else : (ts us : List (Turn V)) (m : ℕ) (is : List ℕ) → ((j : ℕ) → get_elem? ts j ≡ some (taken m) → get_elem? us j ≡ some (taken m)) → AllHeld ts m is → AllHeld us m is
  held_else ts us m [] stay all = tt
  held_else ts us m (i ∷ is) stay all = (stay i all.0, held_else ts us m is stay all.1)

module _ {V W : Type 0} (holds : Board V W → Type 0) (parties size : ℕ) where
  -- a seat that is not spent is a party that is so
  sits_so : (s : State (Option V) (Standing W)) (r : TurnsKeep holds parties size s) (id : ℕ) (x : Standing W) → Sits parties r.turns r.views r.seat id x → (z : TableId) → Stands record { turns = r.turns; views = r.views } (place_of z x)
  sits_so s r id x own z = record { count = r.count ∙ sym own.all; shows = (own.own_is, kept_show r.views r.seat id x.joined own.joined); apart = own.own_apart; held = own.held; once = own.once }

  -- A step of the seat id, whose standing is x, from the turns r.turns to the turns us. What other parties have stays theirs
  moved : (s : State (Option V) (Standing W)) (r : TurnsKeep holds parties size s) (id : ℕ) (x : Standing W) → get_elem? s.views id ≡ some x → x.live ≡ true
      → (us : List (Turn V)) (ws : List ℕ) (hs : Slots V) (w : W) (is : List ℕ) → length us ≡ length r.turns → AllStand ws hs us → holds record { turns = us; views = set r.views x.number w }
      → ((j m : ℕ) → m ≢ x.number → get_elem? r.turns j ≡ some (taken m) → get_elem? us j ≡ some (taken m))
      → ((j m : ℕ) → get_elem? us j ≡ some (taken m) → ((m ≢ x.number) × (get_elem? r.turns j ≡ some (taken m))) ⊎ ((m ≡ x.number) × IsAmong j is))
      → AllHeld us x.number is → AllOnce is
      → TurnsKeep holds parties size record { words = ws; homes = hs; views = set s.views id record { live = x.live; parties = x.parties; number = x.number; own = w; joined = x.joined; held = is } }
  moved s r id x at live us ws hs w is long stands rule theirs whose mine once = record {
    turns = us;
    views = set r.views x.number w;
    seat = r.seat;
    stands = stands;
    rule = rule;
    long = long ∙ r.long;
    count = length-set r.views x.number w ∙ r.count;
    seats = λ j y e alive. ⊎_elim
        (λ p. let P : ℕ → Standing W → Type 0 = Sits parties us (set r.views x.number w) r.seat in subst (λ (z : ℕ × Standing W). P z.0 z.1) (λ k. (sym p.0 k, p.1 k)) here)
        (λ p. there j y p.0 p.1 alive)
        (at_set s.views id j x' y e);
    owners = λ j m e. ⊎_elim (λ p. other j m p.0 (r.owners j m p.1)) (λ p. record { id = id; standing = x'; at = set_here s.views id x' (within s.views id x at); live = live; number = sym p.0; among = p.1 }) (whose j m e);
  }
    where
      x' : Standing W
      x' = record { live = x.live; parties = x.parties; number = x.number; own = w; joined = x.joined; held = is }

      own : Sits parties r.turns r.views r.seat id x
      own = r.seats id x at live

      here : Sits parties us (set r.views x.number w) r.seat id x'
      here = record {
        all = own.all;
        own_at = own.own_at;
        own_is = set_here r.views x.number w (within r.views x.number x.own own.own_is);
        joined = kept_own r.views r.seat id x.number w x.joined own.own_apart own.joined;
        own_apart = own.own_apart;
        joined_apart = own.joined_apart;
        held = mine;
        once = once;
      }

      there : (j : ℕ) (y : Standing W) → j ≢ id → get_elem? s.views j ≡ some y → y.live ≡ true → Sits parties us (set r.views x.number w) r.seat j y
      there j y n e alive = let p = r.seats j y e alive in let far : r.seat x.number ≢ j = λ q. n (sym q ∙ own.own_at) in let m : y.number ≢ x.number = λ q. n (sym p.own_at ∙ (ap r.seat q ∙ own.own_at)) in record {
        all = p.all;
        own_at = p.own_at;
        own_is = set_else r.views x.number y.number w m ∙ p.own_is;
        joined = kept_else r.views r.seat j x.number w y.joined far p.joined;
        own_apart = p.own_apart;
        joined_apart = p.joined_apart;
        held = held_else r.turns us y.number y.held (λ i. theirs i y.number m) p.held;
        once = p.once;
      }

      other : (j m : ℕ) → m ≢ x.number → HasSeat s.views m j → HasSeat (set s.views id x') m j
      other j m n h = record {
        id = h.id;
        standing = h.standing;
        at = set_else s.views id h.id x' (λ e. n (sym h.number ∙ ap (λ (y : Standing W). y.number) (same_at s.views id h.standing x (subst (λ (z : ℕ). get_elem? s.views z ≡ some h.standing) e h.at) at))) ∙ h.at;
        live = h.live;
        number = h.number;
        among = h.among;
      }

  -- the turns that a seat's own number has are those that the seat holds
  mine_among : (s : State (Option V) (Standing W)) (r : TurnsKeep holds parties size s) (id : ℕ) (x : Standing W) → get_elem? s.views id ≡ some x → x.live ≡ true
      → (i : ℕ) → get_elem? r.turns i ≡ some (taken x.number) → IsAmong i x.held
  mine_among s r id x at live i e = let h = r.owners i x.number e in let there = r.seats h.id h.standing h.at h.live in let here = r.seats id x at live in
      let one : h.id ≡ id = sym there.own_at ∙ (ap r.seat h.number ∙ here.own_at) in
      subst (λ (y : Standing W). IsAmong i y.held) (same_at s.views id h.standing x (subst (λ (z : ℕ). get_elem? s.views z ≡ some h.standing) one h.at) at) h.among

  -- of the taken turns, all but the seat's own are as before
  whose_else : (s : State (Option V) (Standing W)) (r : TurnsKeep holds parties size s) (id : ℕ) (x : Standing W) → get_elem? s.views id ≡ some x → x.live ≡ true
      → (j m : ℕ) (is : List ℕ) → (IsAmong j x.held → IsAmong j is) → get_elem? r.turns j ≡ some (taken m) → ((m ≢ x.number) × (get_elem? r.turns j ≡ some (taken m))) ⊎ ((m ≡ x.number) × IsAmong j is)
  whose_else s r id x at live j m is stay e =
      dite (ℕ_discrete m x.number) (λ same. inr (same, stay (mine_among s r id x at live j (subst (λ (z : ℕ). get_elem? r.turns j ≡ some (taken z)) same e)))) (λ other. inl (other, e))

  free_taken : (v : V) (m : ℕ) → free v ≢ taken m
  free_taken v m q = cc

  taken_injective : (n m : ℕ) → ◌≡◌ {A = Turn V} (taken n) (taken m) → n ≡ m
  taken_injective n m q = cc

  some_same : (u v : W) → ◌≡◌ {A = Option W} (Some u) (Some v) → u ≡ v
  some_same u v q = cc

  module _ (won : ℕ → ℕ → V → W → W) (lost : ℕ → ℕ → ℕ → W → W) (keeps_won : KeepsWon holds won) (keeps_lost : KeepsLost holds lost) where
    module _ (slots i id new : ℕ) (me : Me (Option V) (Standing W)) (live : me.0.live ≡ true) (not_held : ¬ IsAmong i me.0.held) (new_is : new ≡ suc me.0.number) where
      -- what the try says of the turn k
      abbrev Tells : ℕ → ℕ → Me (Option V) (Standing W) → Type 0
      Tells k n after =
          (n ≡ 0 → (v : V) × ((z : TableId) → WasFree holds (place_of z me.0) k v) × (after ≡ (taking me.0 k (won me.0.number k v me.0.own), (home i, Some v) ∷ me.1)))
          × ((m : ℕ) → n ≡ suc m → ((z : TableId) → WasTaken holds (place_of z me.0) k m) × (after ≡ (seeing me.0 (lost me.0.number k m me.0.own), me.1)))

      abbrev Found : State (Option V) (Standing W) → ℕ → ℕ → Type 0
      Found s n k = (w : Standing W) × (a : Act (Option V)) × Valid s.homes me.1 a × TurnsKeep holds parties size (stepped s (home i) k id me.1 w a)
          × tried holds won lost (step slots (home i) 0 new none) me n (w, carried_after me.1 a)

      wins : (s : State (Option V) (Standing W)) (r : TurnsKeep holds parties size s) → get_elem? s.views id ≡ some me.0 → (v : V) → get_elem? r.turns i ≡ some (free v) → Found s 0 new
      wins s r at v e =
          let own = r.seats id me.0 at live in
          let n : ℕ = me.0.number in
          let u : W = won n i v me.0.own in
          let b : Board V W = record { turns = r.turns; views = r.views } in
          let near : i < length r.turns = within r.turns i (free v) e in
          let near_words : home i < length s.words = subst (λ (k : ℕ). home i < k) (sym r.stands.words) (home_below (length r.turns) i near) in
          let near_homes : home i < length s.homes = subst (λ (k : ℕ). home i < k) (sym r.stands.homes) (home_below (length r.turns) i near) in
          let away : (j m : ℕ) → get_elem? r.turns j ≡ some (taken m) → j ≢ i = λ j m f q. free_taken v m (same_at r.turns i (free v) (taken m) e (subst (λ (z : ℕ). get_elem? r.turns z ≡ some (taken m)) q f)) in
          let stay : (j m : ℕ) → get_elem? r.turns j ≡ some (taken m) → get_elem? (set r.turns i (taken n)) j ≡ some (taken m) = λ j m f. set_else r.turns i j (taken n) (away j m f) ∙ f in (
            taking me.0 i u,
            takes (home i) (Some v),
            (r.stands.each i (free v) e).1,
            moved s r id me.0 at live (set r.turns i (taken n)) (set s.words (home i) new) (set s.homes (home i) none) u (i ∷ me.0.held)
                (length-set r.turns i (taken n))
                (stands_set s.words s.homes r.turns i new none (taken n) r.stands near (set_here s.words (home i) new near_words ∙ ap some new_is, set_here s.homes (home i) none near_homes))
                (keeps_won b n i v me.0.own r.rule e own.own_is)
                (λ j m _. stay j m)
                (λ j m f. ⊎_elim
                (λ p. inr (sym (taken_injective n m p.1), inl (sym p.0)))
                (λ p. whose_else s r id me.0 at live j m (i ∷ me.0.held) inr p.1)
                (at_set r.turns i j (taken n) (taken m) f))
                (set_here r.turns i (taken n) near, held_else r.turns (set r.turns i (taken n)) n me.0.held (λ j. stay j n) own.held)
                (not_held, own.once),
            λ k at_k. subst (λ (k : ℕ). Tells k 0 (taking me.0 i u, (home i, Some v) ∷ me.1)) (home_same i k (sym at_k))
                ((λ _. (v, (λ z. record { board = b; held = r.rule; stands = sits_so s r id me.0 own z; turn = e }), refl)), λ m f. absurd (cc)),
          )

      loses : (s : State (Option V) (Standing W)) (r : TurnsKeep holds parties size s) → get_elem? s.views id ≡ some me.0 → (m : ℕ) → get_elem? r.turns i ≡ some (taken m) → Found s (suc m) (suc m)
      loses s r at m e =
          let own = r.seats id me.0 at live in
          let n : ℕ = me.0.number in
          let u : W = lost n i m me.0.own in
          let b : Board V W = record { turns = r.turns; views = r.views } in
          let other : m ≢ n = λ q. not_held (mine_among s r id me.0 at live i (subst (λ (z : ℕ). get_elem? r.turns i ≡ some (taken z)) q e)) in
          let h = r.owners i m e in
          let there = r.seats h.id h.standing h.at h.live in
          let below : m < me.0.parties = let a : h.standing.number < length r.views = within r.views h.standing.number h.standing.own there.own_is in let c : length r.views ≡ me.0.parties = r.count ∙ sym own.all in let d : h.standing.number ≡ m = h.number in omega arith in
          let far : r.seat m ≢ id = λ q. let one : h.id ≡ id = sym there.own_at ∙ (ap r.seat h.number ∙ q) in
          other (sym h.number ∙ ap (λ (y : Standing W). y.number) (same_at s.views id h.standing me.0 (subst (λ (z : ℕ). get_elem? s.views z ≡ some h.standing) one h.at) at)) in
          let same : set s.words (home i) (suc m) ≡ s.words = set_again s.words (home i) (suc m) (r.stands.each i (taken m) e).0 in (
            seeing me.0 u,
            keeps,
            tt,
            moved s r id me.0 at live r.turns (set s.words (home i) (suc m)) s.homes u me.0.held
                refl
                (subst (λ (ws : List ℕ). AllStand ws s.homes r.turns) (sym same) r.stands)
                (keeps_lost b n i m me.0.own r.rule e other own.own_is)
                (λ j k _ f. f)
                (λ j k f. whose_else s r id me.0 at live j k me.0.held (λ h. h) f)
                own.held
                own.once,
            λ j at_j. subst (λ (j : ℕ). Tells j (suc m) (seeing me.0 u, me.1)) (home_same i j (sym at_j)) (
              (λ z. absurd (cc)),
              λ k f. let same_owner : m ≡ k = cc in
                  subst (λ (k : ℕ). ((z : TableId) → WasTaken holds (place_of z me.0) i k) × (◌≡◌ {A = Me (Option V) (Standing W)} (seeing me.0 u, me.1) (seeing me.0 (lost n i k me.0.own), me.1))) same_owner
                  ((λ z. record { board = b; held = r.rule; stands = sits_so s r id me.0 own z; turn = e; other = (below, other, apart_from r.views r.seat id m me.0.joined far own.joined) }), refl),
            ),
          )

      by_turn : (s : State (Option V) (Standing W)) (r : TurnsKeep holds parties size s) → get_elem? s.views id ≡ some me.0 → (t : Turn V) → get_elem? r.turns i ≡ some t
          → (let n : ℕ = get_or s.words (home i) 0 in Found s n (either (eqb n 0) new n))
      by_turn s r at (free v) e = subst (λ (n : ℕ). Found s n (either (eqb n 0) new n)) (sym (read_at s.words (home i) 0 0 (r.stands.each i (free v) e).0)) (wins s r at v e)
      by_turn s r at (taken m) e = subst (λ (n : ℕ). Found s n (either (eqb n 0) new n)) (sym (read_at s.words (home i) (suc m) 0 (r.stands.each i (taken m) e).0))
          (subst (λ (b : Bool). Found s (suc m) (either b new (suc m))) (sym (ne_eqb (suc m) 0 (λ q. absurd (omega arith)))) (loses s r at m e))

      tries_home : i < size → Allows (TurnsKeep holds parties size) slots id me (home i) (λ n. either (eqb n 0) new n) (tried holds won lost (step slots (home i) 0 new none) me)
      tries_home near s r wide at big = let near' : i < length r.turns = let a : length r.turns ≡ size = r.long in omega arith in let t = some_at r.turns i near' in by_turn s r at t.0 t.1

      pub tries : (word : ℕ) → word ≡ home i → i < size → Allows (TurnsKeep holds parties size) slots id me word (λ n. either (eqb n 0) new n) (tried holds won lost (step slots word 0 new none) me)
      tries word is near = subst (λ (k : ℕ). Allows (TurnsKeep holds parties size) slots id me k (λ n. either (eqb n 0) new n) (tried holds won lost (step slots k 0 new none) me)) (sym is) (tries_home near)

  -- the rule holds once a party knows what the one that joined it last has seen
  rule_learned : (learned : W → W → W) → KeepsLearned holds learned → (s : State (Option V) (Standing W)) (r : TurnsKeep holds parties size s) (id n : ℕ) (w : W) (ks : List (Kept W)) → get_elem? r.views n ≡ some w
      → Apart n ks → AllKept r.views r.seat id ks → holds record { turns = r.turns; views = set r.views n (learned_last learned w ks) }
  rule_learned learned keeps_learned s r id n w [] own apart kept = subst (λ (l : List W). holds record { turns = r.turns; views = l }) (sym (set_again r.views n w own)) r.rule
  rule_learned learned keeps_learned s r id n w (k ∷ ks) own apart kept =
      keeps_learned record { turns = r.turns; views = r.views } n k.number w k.view r.rule (λ e. apart.0 (sym e)) own kept.0.1

  -- a party learns what the one that joined it last has seen, while the word 0 is read
  pub learns : (learned : W → W → W) → KeepsLearned holds learned → (slots id : ℕ) (me : Me (Option V) (Standing W)) → me.0.live ≡ true → 0 < size
      → Allows (TurnsKeep holds parties size) slots id me 0 (λ n. n) (learnt holds learned (step slots 0 0 0 none) me)
  learns learned keeps_learned slots id me live some_turn s r wide at big =
      let own = r.seats id me.0 at live in
      let b : Board V W = record { turns = r.turns; views = r.views } in
      let near : 0 < length s.words = subst (λ (k : ℕ). 0 < k) (sym r.stands.words) (some_room (length r.turns) (subst (λ (k : ℕ). 0 < k) (sym r.long) some_turn)) in
      let first = some_at s.words 0 near in
      let n : ℕ = get_or s.words 0 0 in
      let same : set s.words 0 n ≡ s.words = set_again s.words 0 n (first.1 ∙ ap some (sym (read_at s.words 0 first.0 0 first.1))) in (
        seeing me.0 (learned_last learned me.0.own me.0.joined),
        keeps,
        tt,
        moved s r id me.0 at live r.turns (set s.words 0 n) s.homes (learned_last learned me.0.own me.0.joined) me.0.held
            refl
            (subst (λ (ws : List ℕ). AllStand ws s.homes r.turns) (sym same) r.stands)
            (rule_learned learned keeps_learned s r id me.0.number me.0.own me.0.joined own.own_is own.own_apart own.joined)
            (λ j k _ f. f)
            (λ j k f. whose_else s r id me.0 at live j k me.0.held (λ h. h) f)
            own.held
            own.once,
        ((λ z. record { board = b; held = r.rule; stands = sits_so s r id me.0 own z }), refl),
      )

  -- the slot of a turn that a party holds comes to the front of those that are out with it, and nothing else changes
  brings_at : (slots i id : ℕ) (x : Standing W) → x.live ≡ true → IsAmong i x.held
      → Allows (TurnsKeep holds parties size) slots id (x, empties x.held) (home i) (λ n. n) (brought (step slots (home i) 0 0 none) (x, empties x.held))
  brings_at slots i id x live among s r wide at big =
      let own = r.seats id x at live in
      let f = fronted i x.held s.homes (all_out s.words s.homes r.turns x.number x.held r.stands own.held) own.once among in
      let act : Act (Option V) = front i x.held in
      let n : ℕ = get_or s.words (home i) 0 in
      let word = (r.stands.each i (taken x.number) (held_at r.turns x.number i x.held own.held among)).0 in
      let same : set s.words (home i) n ≡ s.words = set_again s.words (home i) n (word ∙ ap some (sym (read_at s.words (home i) (suc x.number) 0 word))) in
      let whole : s ≡ stepped s (home i) n id (empties x.held) x act = λ k. record { words = sym same k; homes = sym f.1 k; views = sym (set_again s.views id x at) k } in
      (x, act, f.0, subst (TurnsKeep holds parties size) whole r, λ j at_j. subst (λ (k : ℕ). ◌≡◌ {A = Me (Option V) (Standing W)} (x, carried_after (empties x.held) act) (x, (home i, None) ∷ empties (without k x.held))) (home_same i j (sym at_j)) (ap (λ (c : List (ℕ × Option V)). (x, c)) f.2))

  pub brings : (slots i word id : ℕ) (me : Me (Option V) (Standing W)) → word ≡ home i → me.1 ≡ empties me.0.held → me.0.live ≡ true → IsAmong i me.0.held
      → Allows (TurnsKeep holds parties size) slots id me word (λ n. n) (brought (step slots word 0 0 none) me)
  brings slots i word id me at is live among =
      subst (λ (z : ℕ × List (ℕ × Option V)). Allows (TurnsKeep holds parties size) slots id (me.0, z.1) z.0 (λ n. n) (brought (step slots z.0 0 0 none) (me.0, z.1))) (λ k. (sym at k, sym is k)) (brings_at slots i id me.0 live among)

  -- a party gives back a turn, whose slot it took last
  gives_at : (slots i id : ℕ) (z : TableId) (x : Standing W) (es : List (ℕ × Option V)) (v : V) (w : W) (next : Option W) → next ≡ Some w → x.live ≡ true → IsAmong i x.held → MayGive holds (place_of z x) i v w
      → Allows (TurnsKeep holds parties size) slots id (x, (home i, Some v) ∷ es) (home i) (λ _. 0) (λ _. gave next (step slots (home i) 0 0 none) (x, (home i, Some v) ∷ es) 0)
  gives_at slots i id z x es v w next is live among may s r wide at big =
      let own = r.seats id x at live in
      let n : ℕ = x.number in
      let e : get_elem? r.turns i ≡ some (taken n) = held_at r.turns n i x.held own.held among in
      let b : Board V W = record { turns = r.turns; views = r.views } in
      let near : i < length r.turns = within r.turns i (taken n) e in
      let near_words : home i < length s.words = subst (λ (k : ℕ). home i < k) (sym r.stands.words) (home_below (length r.turns) i near) in
      let near_homes : home i < length s.homes = subst (λ (k : ℕ). home i < k) (sym r.stands.homes) (home_below (length r.turns) i near) in (
        giving x i w,
        gives,
        tt,
        moved s r id x at live (set r.turns i (free v)) (set s.words (home i) 0) (set s.homes (home i) (some (Some v))) w (without i x.held)
            (length-set r.turns i (free v))
            (stands_set s.words s.homes r.turns i 0 (some (Some v)) (free v) r.stands near (set_here s.words (home i) 0 near_words, set_here s.homes (home i) (some (Some v)) near_homes))
            (may b r.rule (sits_so s r id x own z) e)
            (λ j m other f. set_else r.turns i j (free v) (λ q. other (sym (taken_injective n m (same_at r.turns i (taken n) (taken m) e (subst (λ (z : ℕ). get_elem? r.turns z ≡ some (taken m)) q f))))) ∙ f)
            (λ j m f. ⊎_elim
            (λ p. absurd (free_taken v m p.1))
            (λ p. whose_else s r id x at live j m (without i x.held) (among_without i j x.held p.0) p.1)
            (at_set r.turns i j (free v) (taken m) f))
            (held_without r.turns n i (free v) x.held own.once own.held)
            (once_without i x.held own.once),
        λ u f j at_j. subst (λ (k : ℕ). ◌≡◌ {A = Me (Option V) (Standing W)} (giving x i w, es) (giving x k u, es)) (home_same i j (sym at_j)) (ap (λ (z : W). (giving x i z, es)) (some_same w u (sym is ∙ f))),
      )

  pub gives_back : (slots i word id : ℕ) (z : TableId) (me : Me (Option V) (Standing W)) (v : V) (w : W) (next : Option W) → word ≡ home i → me.1 ≡ (word, Some v) ∷ rest me.1 → next ≡ Some w → me.0.live ≡ true → IsAmong i me.0.held
      → MayGive holds (place_of z me.0) i v w → Allows (TurnsKeep holds parties size) slots id me word (λ _. 0) (λ _. gave next (step slots word 0 0 none) me 0)
  gives_back slots i word id z me v w next at out is live among may =
      let whole : me.1 ≡ (home i, Some v) ∷ rest me.1 = out ∙ ap (λ (k : ℕ). (k, Some v) ∷ rest me.1) at in
      subst (λ (y : ℕ × List (ℕ × Option V)). Allows (TurnsKeep holds parties size) slots id (me.0, y.1) y.0 (λ _. 0) (λ _. gave next (step slots y.0 0 0 none) (me.0, y.1) 0)) (λ k. (sym at k, sym whole k)) (gives_at slots i id z me.0 (rest me.1) v w next is live among may)
