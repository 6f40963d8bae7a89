-- What is so in the loops of a feed, after so many turns, and what one turn makes of it.
use Rattle.std.proofs.Common.{◌≡◌, ℕ, ◌+◌, ◌<◌, ◌≤◌, Bool, true, false, List, [], ◌∷◌, ◌++◌, length, get_or, drop, Result, Ok, Err, refl, sym, ap, ◌∙◌, subst, arith, append_assoc, append-nil}
use Rattle.std.specs.Prelude.{count_by, OnOk}
use Rattle.arc_core.specs.declared.event.Why.{Why}
use Rattle.arc_core.specs.declared.event.Why.TheVariants as why
use Rattle.blk_ptr.specs.declared.memory.NoMemory.{NoMemory}
use Rattle.turn_table.specs.Places.{Place}
use Rattle.arc_table.specs.declared.feeds.Cleared.TheVariants as answer
use Rattle.arc_table.specs.declared.front.Front.{Front}
use Rattle.arc_table.specs.declared.picks.Picked.{Picked as Block}
use Rattle.arc_table.specs.declared.view.Known.{Known}
use Rattle.arc_table.specs.Both.{Does}
use Rattle.arc_table.specs.Cache.{Cache}
use Rattle.arc_table.specs.feeder.Feeding.{AnswersClear, AnswersSet, IsPicked, Leaves}
use Rattle.arc_table.specs.Items.{Meanings}
use Rattle.l2_ring.specs.declared.live.Live.{Live}
use Rattle.l2_feed.specs.Acts.{Act, Absent, Cleared, DoesAct, DoesActs, Left, Placed, Refused}
use Rattle.l2_feed.specs.Ready.{IsFeederOn, IsFeeding}
use Rattle.l2_feed.specs.Runs.{AreCleared, AreLeft, AreSet, bytes_of}
use Rattle.l2_feed.specs.Shape.{IsRefusal, NoneRefused}
use Rattle.l2_feed.specs.Sums.{is_cleared, is_placed}
use Rattle.l2_feed.proofs.Acted.{acts_then}
use Rattle.l2_feed.proofs.Counting.{cleared-append, placed-append}
use Rattle.l2_feed.proofs.Lists.{bytes_cons, drop_at}
use Rattle.l2_feed.proofs.Settling.{clear_feeding, is_picked, kept_clear, kept_none, left_one, none_feeding, set_one}

module _ {C : Type 0} (m : Meanings C) (cache : Cache) where
  pub picked_at : (turn : ℕ) (blocks rest : List Block) (i : ℕ) (b : Block) (q : Place (Known C)) → i < length blocks → b ≡ get_or blocks i b → IsFeeding cache turn (drop i blocks ++ rest) q → IsPicked cache.config q b.key
  picked_at turn blocks rest i b q below is f =
      is_picked cache turn b (drop (i + 1) blocks ++ rest) q (subst (λ (bs : List Block). IsFeeding cache turn (bs ++ rest) q) (drop_at blocks i b below is) f)

  pub only : (turn : ℕ) (blocks : List Block) (q : Place (Known C)) → IsFeeding cache turn blocks q → IsFeeding cache turn (blocks ++ []) q
  only turn blocks q f = subst (λ (bs : List Block). IsFeeding cache turn bs q) (sym (append-nil blocks)) f

  -- ---- keys that are left

  pub record LeftSo (reason : Why) (blocks : List Block) (i : ℕ) (p q : Place (Known C)) : Type 0 where
    pub feeding : (turn : ℕ) → IsFeeding cache turn blocks p → IsFeeding cache turn (drop i blocks) q
    pub did : (acts : List Act) × DoesActs m cache.config acts p q × ((more : List Act) → AreLeft reason (drop i blocks) more → AreLeft reason blocks (acts ++ more))

  pub left_start : (reason : Why) (blocks : List Block) (p : Place (Known C)) → LeftSo reason blocks 0 p p
  left_start reason blocks p = record { feeding = λ turn f. f; did = ([], refl, (λ more are. are)) }

  pub left_turn : (reason : Why) (blocks : List Block) (i : ℕ) (b : Block) (p r q : Place (Known C)) → i < length blocks → b ≡ get_or blocks i b → LeftSo reason blocks i p r → Leaves m cache.config b.key reason r q → LeftSo reason blocks (i + 1) p q
  left_turn reason blocks i b p r q below is was l =
      let next : drop i blocks ≡ b ∷ drop (i + 1) blocks = drop_at blocks i b below is in
      let acts = was.did.0 in
      let act : Act = Left b.key l.0 in
      record {
        feeding = λ turn f. left_one m cache turn b (drop (i + 1) blocks) r q (subst (λ (bs : List Block). IsFeeding cache turn bs r) next (was.feeding turn f)) reason l;
        did = (
          acts ++ act ∷ [],
          acts_then m cache.config acts act p r q was.did.1 l.2,
          λ more are. subst (AreLeft reason blocks) (sym (append_assoc acts (act ∷ []) more)) (was.did.2 (act ∷ more) (subst (λ (bs : List Block). AreLeft reason bs (act ∷ more)) (sym next) ((refl, l.1), are))),
        );
      }

  pub left_end : (reason : Why) (blocks : List Block) (i : ℕ) (p q : Place (Known C)) → drop i blocks ≡ [] → LeftSo reason blocks i p q
      → ((turn : ℕ) → IsFeeding cache turn blocks p → IsFeeding cache turn [] q) × ((acts : List Act) × DoesActs m cache.config acts p q × AreLeft reason blocks acts)
  left_end reason blocks i p q none was = (
    (λ turn f. subst (λ (bs : List Block). IsFeeding cache turn bs q) none (was.feeding turn f)),
    (was.did.0, was.did.1, subst (AreLeft reason blocks) (append-nil was.did.0) (was.did.2 [] (subst (λ (bs : List Block). AreLeft reason bs []) (sym none) tt))),
  )

  -- ---- keys that are set

  pub record SetSo (first : ℕ) (run : List Block) (i place written : ℕ) (p q : Place (Known C)) : Type 0 where
    pub feeding : (turn : ℕ) (rest : List Block) → IsFeeding cache turn (run ++ rest) p → IsFeeding cache turn (drop i run ++ rest) q
    pub room : place + bytes_of (drop i run) ≡ first + bytes_of run
    pub few : written ≤ i
    pub did : (acts : List Act) × DoesActs m cache.config acts p q × ((more : List Act) → AreSet place (drop i run) more → AreSet first run (acts ++ more)) × (written ≡ count_by is_placed acts)

  pub set_start : (first : ℕ) (run : List Block) (p : Place (Known C)) → SetSo first run 0 first 0 p p
  set_start first run p = record { feeding = λ turn rest f. f; room = refl; few = omega arith; did = ([], refl, (λ more are. are), refl) }

  module _ (first : ℕ) (run : List Block) (i : ℕ) (b : Block) (place written : ℕ) (p r q : Place (Known C)) (below : i < length run) (is : b ≡ get_or run i b) (was : SetSo first run i place written p r) where
    next : drop i run ≡ b ∷ drop (i + 1) run
    next = drop_at run i b below is

    -- the first of those that are left is settled by this act
    set_more : (act : Act) → DoesAct m cache.config act r q → ((bs : List Block) (more : List Act) → AreSet (place + b.key.size) bs more → AreSet place (b ∷ bs) (act ∷ more))
        → (acts : List Act) × DoesActs m cache.config acts p q × ((more : List Act) → AreSet (place + b.key.size) (drop (i + 1) run) more → AreSet first run (acts ++ more)) × (count_by is_placed acts ≡ written + count_by is_placed (act ∷ []))
    set_more act did one =
        let acts = was.did.0 in (
          acts ++ act ∷ [],
          acts_then m cache.config acts act p r q was.did.1 did,
          (λ more are. subst (AreSet first run) (sym (append_assoc acts (act ∷ []) more)) (was.did.2 (act ∷ more) (subst (λ (bs : List Block). AreSet place bs (act ∷ more)) (sym next) (one (drop (i + 1) run) more are)))),
          placed-append acts (act ∷ []) ∙ ap (λ (n : ℕ). n + count_by is_placed (act ∷ [])) (sym was.did.3),
        )

    room_more : place + b.key.size + bytes_of (drop (i + 1) run) ≡ first + bytes_of run
    room_more = let whole = ap bytes_of next ∙ bytes_cons b (drop (i + 1) run) in let room = was.room in omega arith

    feeding_more : (result : Bool) → AnswersSet m cache.config b.key place r q result → (turn : ℕ) (rest : List Block) → IsFeeding cache turn (run ++ rest) p → IsFeeding cache turn (drop (i + 1) run ++ rest) q
    feeding_more result l turn rest f = set_one m cache turn b (drop (i + 1) run ++ rest) r q (subst (λ (bs : List Block). IsFeeding cache turn (bs ++ rest) r) next (was.feeding turn rest f)) place result l

    pub set_turn : AnswersSet m cache.config b.key place r q true → SetSo first run (i + 1) (place + b.key.size) (written + 1) p q
    set_turn l =
        let d = set_more (Placed b.key place) l (λ bs more are. ((refl, refl), are)) in
        record { feeding = feeding_more true l; room = room_more; few = (let f = was.few in omega arith); did = (d.0, d.1, d.2, sym d.3) }

    pub gone_turn : AnswersSet m cache.config b.key place r q false → SetSo first run (i + 1) (place + b.key.size) written p q
    gone_turn l =
        let d = set_more (Left b.key why.Gone) l (λ bs more are. ((refl, refl), are)) in
        record { feeding = feeding_more false l; room = room_more; few = (let f = was.few in omega arith); did = (d.0, d.1, d.2, (let e = d.3 in omega arith)) }

  pub set_end : (first : ℕ) (run : List Block) (i place written : ℕ) (p q : Place (Known C)) → drop i run ≡ [] → SetSo first run i place written p q
      → ((turn : ℕ) (rest : List Block) → IsFeeding cache turn (run ++ rest) p → IsFeeding cache turn rest q) × ((acts : List Act) × DoesActs m cache.config acts p q × AreSet first run acts × (written ≡ count_by is_placed acts))
  set_end first run i place written p q none was = (
    (λ turn rest f. subst (λ (bs : List Block). IsFeeding cache turn (bs ++ rest) q) none (was.feeding turn rest f)),
    (was.did.0, was.did.1, subst (AreSet first run) (append-nil was.did.0) (was.did.2 [] (subst (λ (bs : List Block). AreSet place bs []) (sym none) tt)), was.did.3),
  )

  -- ---- places that are taken

  pub record ClearedSo (had : ℕ) (ls : List Live) (i cleared : ℕ) (result : Result (Unit {0}) NoMemory) (p q : Place (Known C)) : Type 0 where
    pub on : IsFeederOn cache q
    pub feeding : (turn : ℕ) (blocks : List Block) → IsFeeding cache turn blocks p → IsFeeding cache turn blocks q
    pub few : cleared ≤ had + i
    pub did : (acts : List Act) × DoesActs m cache.config acts p q × ((more : List Act) → AreCleared (drop i ls) more → AreCleared ls (acts ++ more)) × (cleared ≡ had + count_by is_cleared acts) × OnOk result (NoneRefused acts)

  pub cleared_start : (had : ℕ) (ls : List Live) (p : Place (Known C)) → IsFeederOn cache p → ClearedSo had ls 0 had (Ok tt) p p
  cleared_start had ls p on = record { on = on; feeding = λ turn blocks f. f; few = omega arith; did = ([], refl, (λ more are. are), omega arith, tt) }

  none_more : (acts : List Act) (act : Act) → NoneRefused acts → ¬ IsRefusal act → NoneRefused (acts ++ act ∷ [])
  none_more [] act none one = (one, tt)
  none_more (a ∷ acts) act none one = (none.0, none_more acts act none.1 one)

  still_ok : (acts : List Act) (act : Act) (result : Result (Unit {0}) NoMemory) → ¬ IsRefusal act → OnOk result (NoneRefused acts) → OnOk result (NoneRefused (acts ++ act ∷ []))
  still_ok acts act (Ok u) one none = none_more acts act none one
  still_ok acts act (Err e) one none = tt

  module _ (had : ℕ) (ls : List Live) (i cleared : ℕ) (l : Live) (result : Result (Unit {0}) NoMemory) (p r q : Place (Known C)) (below : i < length ls) (is : l ≡ get_or ls i l) (was : ClearedSo had ls i cleared result p r) where
    ahead : drop i ls ≡ l ∷ drop (i + 1) ls
    ahead = drop_at ls i l below is

    asked : (act : Act) → DoesAct m cache.config act r q → ((rest : List Live) (more : List Act) → AreCleared rest more → AreCleared (l ∷ rest) (act ∷ more))
        → (acts : List Act) × DoesActs m cache.config acts p q × ((more : List Act) → AreCleared (drop (i + 1) ls) more → AreCleared ls (acts ++ more)) × (count_by is_cleared acts ≡ count_by is_cleared was.did.0 + count_by is_cleared (act ∷ [])) × (acts ≡ was.did.0 ++ act ∷ [])
    asked act did one =
        let acts = was.did.0 in (
          acts ++ act ∷ [],
          acts_then m cache.config acts act p r q was.did.1 did,
          (λ more are. subst (AreCleared ls) (sym (append_assoc acts (act ∷ []) more)) (was.did.2 (act ∷ more) (subst (λ (rest : List Live). AreCleared rest (act ∷ more)) (sym ahead) (one (drop (i + 1) ls) more are)))),
          cleared-append acts (act ∷ []),
          refl,
        )

    pub done_turn : AnswersClear m cache.config l.key l.place r q answer.Done → ClearedSo had ls (i + 1) (cleared + 1) result p q
    done_turn a =
        let x = asked (Cleared l.key l.place) a (λ rest more are. ((refl, refl), are)) in
        record {
          on = kept_clear m cache l.key r q was.on l.place answer.Done a;
          feeding = λ turn blocks f. clear_feeding m cache l.key r q was.on l.place answer.Done a turn blocks (was.feeding turn blocks f);
          few = (let f = was.few in omega arith);
          did = (x.0, x.1, x.2, (let e = x.3 in let w = was.did.3 in omega arith), subst (λ (acts : List Act). OnOk result (NoneRefused acts)) (sym x.4) (still_ok was.did.0 (Cleared l.key l.place) result (λ z. z) was.did.4));
        }

    pub not_turn : (front : Front) → AnswersClear m cache.config l.key l.place r q (answer.Not front) → ClearedSo had ls (i + 1) cleared result p q
    not_turn front a =
        let x = asked (Absent l.key l.place) (front, a) (λ rest more are. ((refl, refl), are)) in
        record {
          on = kept_clear m cache l.key r q was.on l.place (answer.Not front) a;
          feeding = λ turn blocks f. clear_feeding m cache l.key r q was.on l.place (answer.Not front) a turn blocks (was.feeding turn blocks f);
          few = (let f = was.few in omega arith);
          did = (x.0, x.1, x.2, (let e = x.3 in let w = was.did.3 in omega arith), subst (λ (acts : List Act). OnOk result (NoneRefused acts)) (sym x.4) (still_ok was.did.0 (Absent l.key l.place) result (λ z. z) was.did.4));
        }

    pub refused_turn : (e : NoMemory) → Does m cache.config l.key [] r q → ClearedSo had ls (i + 1) cleared (Err e) p q
    refused_turn e a =
        let x = asked (Refused l.key l.place) a (λ rest more are. ((refl, refl), are)) in
        record {
          on = kept_none m cache l.key r q was.on a;
          feeding = λ turn blocks f. none_feeding m cache l.key r q was.on a turn blocks (was.feeding turn blocks f);
          few = (let f = was.few in omega arith);
          did = (x.0, x.1, x.2, (let e = x.3 in let w = was.did.3 in omega arith), tt);
        }

  pub cleared_end : (had : ℕ) (ls : List Live) (i cleared : ℕ) (result : Result (Unit {0}) NoMemory) (p q : Place (Known C)) → drop i ls ≡ [] → ClearedSo had ls i cleared result p q
      → (acts : List Act) × DoesActs m cache.config acts p q × AreCleared ls acts × (cleared ≡ had + count_by is_cleared acts) × OnOk result (NoneRefused acts)
  cleared_end had ls i cleared result p q none was =
      (was.did.0, was.did.1, subst (AreCleared ls) (append-nil was.did.0) (was.did.2 [] (subst (λ (rest : List Live). AreCleared rest []) (sym none) tt)), was.did.3, was.did.4)
