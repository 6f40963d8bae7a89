-- What events make of places, and of which events an entry with more than a place comes.
use Rattle.std.proofs.Common.{◌≡◌, ℕ, ◌+◌, nat_lt, Bool, true, false, not, ◌||◌, ◌⊎◌, if◌then◌else◌, IsTrue, List, [], ◌∷◌, Option, Some, None, inl, inr, refl, sym, ap, subst, ◌∙◌}
use Rattle.std.specs.List.{list_any}
use Rattle.std.specs.Option.{option_and_then, option_map, option_map_or}
use Rattle.std.proofs.lemmas.Bool.{false≢true}
use Rattle.blk_ptr.specs.declared.key.Key.{Key}
use Rattle.blk_ptr.specs.declared.digest.Digest.{Digest}
use Rattle.blk_ptr.specs.declared.state.State.{State}
use Rattle.blk_ptr.specs.declared.state.State.TheVariants.{Anon, Mru, MruGhost, Mfu, MfuGhost, L2Only}
use Rattle.blk_ptr.specs.Order.{key_eq}
use Rattle.blk_ptr.specs.State.{is_cached, is_same_state}
use Rattle.blk_ptr.proofs.Keys.{key_eq-same}
use Rattle.arc_lists.specs.Sequences.{has_sequence}
use Rattle.arc_lists.proofs.Standing.{and_left, and_right, not_true_is}
use Rattle.arc_lists.proofs.Tables.{cases_true, some_is}
use Rattle.arc_core.specs.declared.entry.Entry.{Entry}
use Rattle.arc_core.specs.declared.event.Event.{Event}
use Rattle.arc_core.specs.declared.event.Event.TheVariants.{Pass, Hit, Miss, Arrive, Fail, Drop, Past, Hand, Insert, Release, Pick, FeedEnd, Set, Leave, Clear, Restore, Resize}
use Rattle.arc_core.specs.PlainShard.{PlainShard, entry_is, entry_of, is_free, is_number, is_resident, place_of}
use Rattle.arc_core.specs.Changes.{one_less}
use Rattle.arc_core.specs.Changing.{entry_after}
use Rattle.arc_core.specs.Operations.{event_key, is_about}
use Rattle.arc_core.specs.Places.{gives_place, takes_in}
use Rattle.arc_core.specs.Replay.{is_legal_history, replay}
use Rattle.arc_core.specs.Rules.{access, arrived_state}
use Rattle.arc_core.specs.Sound.{IsSound}
use Rattle.arc_core.specs.Sparing.{IsSpared}
use Rattle.arc_core.specs.Step.{after, arrived, is_new_here, legal}
use Rattle.arc_core.proofs.Counting.{about-key}
use Rattle.arc_core.proofs.Evictions.{entry_of-is}
use Rattle.arc_core.proofs.Others.{own-entry, sparing}
use Rattle.arc_core.proofs.Soundness.{IsSound-after}

-- ---- places

abbrev place_in : Option Entry → Option ℕ
place_in o = option_and_then (λ e. e.place) o

-- a place is as it was, or gone
abbrev TakesPlace : Option ℕ → Option ℕ → Type 0
TakesPlace old new = (new ≡ old) ⊎ (new ≡ None)

-- a change of what may be an entry that leaves its place
kept-place : (f : Entry → Entry) → ((e : Entry) → (f e).place ≡ e.place) → (o : Option Entry) → TakesPlace (place_in o) (place_in (option_map f o))
kept-place f keeps None = inl refl
kept-place f keeps (Some e) = inl (keeps e)

access-place : (state : State) (mintime t : ℕ) (e : Entry) → (access state mintime t e).place ≡ e.place
access-place Mru mintime t e = go (nat_lt (e.last + mintime) t)
  where
    go : (b : Bool) → (if b then record e { state = Mfu; last = t } else e).place ≡ e.place
    go true = refl
    go false = refl
access-place Mfu mintime t e = refl
access-place Anon mintime t e = refl
access-place MruGhost mintime t e = refl
access-place MfuGhost mintime t e = refl
access-place L2Only mintime t e = refl

cleared-place : (o : Option Entry) → TakesPlace (place_in o) (place_in (option_and_then (λ (e : Entry). if is_same_state e.state L2Only then None else Some (record e { place = None })) o))
cleared-place None = inl refl
cleared-place (Some e) = inr (go (is_same_state e.state L2Only))
  where
    go : (b : Bool) → place_in (if b then None else Some (record e { place = None })) ≡ None
    go true = refl
    go false = refl

released-place : (sole : Bool) (n : ℕ) (o : Option Entry) → TakesPlace (place_in o) (place_in (if sole then None else option_map (one_less n) o))
released-place true n o = inr refl
released-place false n o = kept-place (one_less n) (λ e. refl) o

-- the place of an event's own key
place-after : (mintime : ℕ) (v : Event) (j : Key) (o : Option Entry) → event_key v ≡ Some j → IsTrue (not (gives_place j v)) → TakesPlace (place_in o) (place_in (entry_after mintime v o))
place-after mintime (Pass n k owner) j o is none = inl refl
place-after mintime (Hit n k t) j o is none = kept-place _ (λ e. access-place e.state mintime t e) o
place-after mintime (Miss n k t) j o is none = inl refl
place-after mintime (Arrive n k d from) j o is none = kept-place _ (λ e. refl) o
place-after mintime (Fail n k at) j o is none = inr refl
place-after mintime (Drop n k) j o is none = kept-place _ (λ e. refl) o
place-after mintime (Past n k kept) j o is none = inl refl
place-after mintime (Hand n k to) j o is none = kept-place _ (λ e. refl) o
place-after mintime (Insert n k d t) j o is none = inr refl
place-after mintime (Release n k sole) j o is none = released-place sole n o
place-after mintime (Pick n k) j o is none = inl refl
place-after mintime (FeedEnd n) j o is none = inl refl
place-after mintime (Set n k place) j o is none = absurd (false≢true (sym (ap not (subst (λ x. key_eq x k ≡ true) (some_is is) (key_eq-same k))) ∙ none))
place-after mintime (Leave n k why) j o is none = inl refl
place-after mintime (Clear n k) j o is none = cleared-place o
place-after mintime (Restore n k place d) j o is none = absurd (false≢true (sym (ap not (subst (λ x. key_eq x k ≡ true) (some_is is) (key_eq-same k))) ∙ none))
place-after mintime (Resize n c) j o is none = inl refl

-- the place of another key
spared-place : (a b : Option Entry) → IsSpared a b → TakesPlace (place_in a) (place_in b)
spared-place None b spared = inl (ap place_in spared)
spared-place (Some e) None spared = inr refl
spared-place (Some e) (Some f) spared = elim spared [
  | inl same ↦ inl (ap (λ (x : Entry). x.place) same)
  | inr lost ↦ inl (ap (λ (x : Entry). x.place) lost.2)
]

pub taking-places : (s : PlainShard) (e : Event) (j : Key) → IsSound s → IsTrue (legal s e) → IsTrue (not (gives_place j e))
    → (place_of j (after s e) ≡ place_of j s) ⊎ (place_of j (after s e) ≡ None)
taking-places s e j sound ok none = elim (cases_true (is_about j e)) [
  | inl own ↦
      let is = about-key j e own in
      subst (λ o. TakesPlace (place_of j s) (place_in o)) (sym (own-entry s e j sound ok is)) (place-after s.mintime e j (entry_of j s) is none)
  | inr other ↦ spared-place (entry_of j s) (entry_of j (after s e)) (sparing s e j sound ok (ap not other))
]

-- ---- keys that come

-- nothing, or only a place, is kept
abbrev is_new : Option Entry → Bool
is_new o = option_map_or (λ e. is_same_state e.state L2Only) o true

l2-is : (state : State) → is_same_state state L2Only ≡ true → state ≡ L2Only
l2-is L2Only is = refl
l2-is Anon is = absurd (false≢true is)
l2-is Mru is = absurd (false≢true is)
l2-is MruGhost is = absurd (false≢true is)
l2-is Mfu is = absurd (false≢true is)
l2-is MfuGhost is = absurd (false≢true is)

-- a change of what may be an entry that leaves its state
new-kept : (f : Entry → Entry) → ((e : Entry) → (f e).state ≡ e.state) → (o : Option Entry) → is_new o ≡ true → is_new (option_map f o) ≡ true
new-kept f keeps None new = refl
new-kept f keeps (Some e) new = ap (λ state. is_same_state state L2Only) (keeps e) ∙ new

new-released : (sole : Bool) (n : ℕ) (o : Option Entry) → is_new o ≡ true → is_new (if sole then None else option_map (one_less n) o) ≡ true
new-released true n o new = refl
new-released false n o new = new-kept (one_less n) (λ e. refl) o new

new-cleared : (o : Option Entry) → is_new o ≡ true → is_new (option_and_then (λ (e : Entry). if is_same_state e.state L2Only then None else Some (record e { place = None })) o) ≡ true
new-cleared None new = refl
new-cleared (Some e) new = subst (λ b. is_new (if b then None else Some (record e { place = None })) ≡ true) (sym new) refl

new-arrived : (d : Digest) (o : Option Entry) → is_new o ≡ true → is_new (option_map (arrived d) o) ≡ true
new-arrived d None new = refl
new-arrived d (Some e) new = ap (λ state. is_same_state (arrived_state state) L2Only) (l2-is e.state new)

-- an event that doesn't take its own key in leaves it new
new-own : (s : PlainShard) (v : Event) (j : Key) → IsSound s → IsTrue (legal s v) → event_key v ≡ Some j → is_new (entry_of j s) ≡ true → takes_in j v ≡ false
    → is_new (entry_after s.mintime v (entry_of j s)) ≡ true
new-own s (Pass n k owner) j sound ok is new none = new
new-own s (Hit n k t) j sound ok is new none =
    let e = entry_of-is is_resident j s (subst (λ x. IsTrue (entry_is is_resident x s)) (some_is is) (and_right (is_number n) _ ok)) in
    let only = l2-is e.0.state (ap is_new (sym e.1) ∙ new) in
    absurd (false≢true (sym (ap is_cached only) ∙ and_left (is_cached e.0.state) _ e.2))
new-own s (Miss n k t) j sound ok is new none = absurd (false≢true (sym none ∙ subst (λ x. key_eq x k ≡ true) (some_is is) (key_eq-same k)))
new-own s (Arrive n k d from) j sound ok is new none = new-arrived d (entry_of j s) new
new-own s (Fail n k at) j sound ok is new none = refl
new-own s (Drop n k) j sound ok is new none = new-kept _ (λ e. refl) (entry_of j s) new
new-own s (Past n k kept) j sound ok is new none = new
new-own s (Hand n k to) j sound ok is new none = new-kept _ (λ e. refl) (entry_of j s) new
new-own s (Insert n k d t) j sound ok is new none = absurd (false≢true (sym none ∙ subst (λ x. key_eq x k ≡ true) (some_is is) (key_eq-same k)))
new-own s (Release n k sole) j sound ok is new none = new-released sole n (entry_of j s) new
new-own s (Pick n k) j sound ok is new none = new
new-own s (FeedEnd n) j sound ok is new none = new
new-own s (Set n k place) j sound ok is new none = new-kept _ (λ e. refl) (entry_of j s) new
new-own s (Leave n k why) j sound ok is new none = new
new-own s (Clear n k) j sound ok is new none = new-cleared (entry_of j s) new
new-own s (Restore n k place d) j sound ok is new none = refl
new-own s (Resize n c) j sound ok is new none = new

-- another key stays new
new-spared : (a b : Option Entry) → IsSpared a b → is_new a ≡ true → is_new b ≡ true
new-spared None b spared new = ap is_new spared
new-spared (Some e) None spared new = refl
new-spared (Some e) (Some f) spared new = elim spared [
  | inl same ↦ ap (λ (x : Entry). is_same_state x.state L2Only) same ∙ new
  | inr lost ↦ absurd (false≢true (sym (ap has_sequence (l2-is e.state new)) ∙ and_right (is_free e) _ lost.0))
]

new-after : (s : PlainShard) (v : Event) (j : Key) → IsSound s → IsTrue (legal s v) → is_new_here j s ≡ true → takes_in j v ≡ false → is_new_here j (after s v) ≡ true
new-after s v j sound ok new none = elim (cases_true (is_about j v)) [
  | inl own ↦
      let is = about-key j v own in
      ap is_new (own-entry s v j sound ok is) ∙ new-own s v j sound ok is new none
  | inr other ↦ new-spared (entry_of j s) (entry_of j (after s v)) (sparing s v j sound ok (ap not other)) new
]

pub taken-in : (s : PlainShard) (history : List Event) (j : Key) → IsSound s → IsTrue (is_legal_history s history) → IsTrue (is_new_here j s)
    → IsTrue (not (is_new_here j (replay s history))) → IsTrue (list_any (takes_in j) history)
taken-in s [] j sound legal_all new more = absurd (false≢true (sym (not_true_is _ more) ∙ new))
taken-in s (v ∷ vs) j sound legal_all new more = elim (cases_true (takes_in j v)) [
  | inl in_now ↦ ap (λ b. b || list_any (takes_in j) vs) in_now
  | inr none ↦
      let ok = and_left (legal s v) _ legal_all in
      ap (λ b. b || list_any (takes_in j) vs) none
      ∙ taken-in (after s v) vs j (IsSound-after s v sound ok) (and_right (legal s v) _ legal_all) (new-after s v j sound ok new none) more
]
