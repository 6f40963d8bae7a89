-- What the events leave as it was, where the target stays, and what is owed afterwards.
use Rattle.std.proofs.Common.{◌≡◌, ℕ, zero, suc, ◌+◌, ◌-◌, ◌≤◌, min, max, Bool, true, false, if◌then◌else◌, List, [], ◌∷◌, length, Option, Some, None, is_some, inl, inr, refl, ap, subst, ◌∙◌, arith}
use Rattle.std.specs.Option.{option_and_then, option_map_or}
use Rattle.blk_ptr.specs.declared.key.Key.{Key}
use Rattle.blk_ptr.specs.Order.{key_eq, key_lt}
use Rattle.arc_lists.specs.declared.ghost_list.Ghost.{Ghost}
use Rattle.arc_lists.specs.declared.ghost_list.Ghost.TheVariants as ghosts
use Rattle.arc_lists.specs.Adapting.{adapted, least_target}
use Rattle.arc_lists.specs.ByKey.{item_at, with_change, with_item, without}
use Rattle.arc_lists.specs.Sequences.{put_at_head}
use Rattle.arc_lists.proofs.Tables.{cases_true, some_is}
use Rattle.arc_core.specs.declared.entry.Entry.{Entry}
use Rattle.arc_core.specs.PlainShard.{PlainShard, entry_is, entry_key, entry_of, is_unheld, place_of, size_in}
use Rattle.arc_core.specs.Changes.{at_head, changed, come, given_back, gone, off_sequence, one_less}
use Rattle.arc_core.specs.Owed.{owed_by, owed_in}
use Rattle.blk_ptr.specs.declared.state.State.TheVariants.{L2Only, MruGhost, MfuGhost}
use Rattle.arc_core.specs.Rules.{ghost_of, dropped, evicted, evicted_entry, evicting, next_dropped, next_evicted, target_after, trimming, with_room}
use Rattle.arc_core.specs.Step.{cleared, fitted, taken_in}
use Rattle.blk_ptr.specs.State.{is_same_state}
use Rattle.arc_core.proofs.Evictions.{at_head-entries}

-- ---- what stays

pub record SameFrame (s t : PlainShard) : Type 0 where
  pub p : t.p ≡ s.p
  pub c : t.c ≡ s.c
  pub phase : t.phase ≡ s.phase
  pub picked : t.picked ≡ s.picked

abbrev pub same : (s : PlainShard) → SameFrame s s
same s = record { p = refl; c = refl; phase = refl; picked = refl }

pub frames : (s t u : PlainShard) → SameFrame s t → SameFrame t u → SameFrame s u
frames s t u first second = record { p = second.p ∙ first.p; c = second.c ∙ first.c; phase = second.phase ∙ first.phase; picked = second.picked ∙ first.picked }

frame-at_head : (k : Key) (s : PlainShard) → SameFrame s (at_head k s)
frame-at_head k s = go (entry_of k s)
  where
    go : (o : Option Entry) → SameFrame s (option_map_or (λ e. record s { sequences = put_at_head e.state k s.sequences }) o s)
    go None = same s
    go (Some e) = record { p = refl; c = refl; phase = refl; picked = refl }

-- the same frame, told of a shard that differs in entries and sequences alone
frame-of : (s t u : PlainShard) → SameFrame t u → t.p ≡ s.p → t.c ≡ s.c → t.phase ≡ s.phase → t.picked ≡ s.picked → SameFrame s u
frame-of s t u frame p c phase picked = record { p = frame.p ∙ p; c = frame.c ∙ c; phase = frame.phase ∙ phase; picked = frame.picked ∙ picked }

frame-evicted : (k : Key) (s : PlainShard) → SameFrame s (evicted k s)
frame-evicted k s = frame-of s (changed k evicted_entry (off_sequence k s)) (evicted k s) (frame-at_head k (changed k evicted_entry (off_sequence k s))) refl refl refl refl

frame-dropped : (k : Key) (s : PlainShard) → SameFrame s (dropped k s)
frame-dropped k s = go (is_some (place_of k s))
  where
    go : (b : Bool) → SameFrame s (if b then changed k (λ e. record e { state = L2Only }) (off_sequence k s) else gone k s)
    go true = record { p = refl; c = refl; phase = refl; picked = refl }
    go false = record { p = refl; c = refl; phase = refl; picked = refl }

pub frame-evicting : (n z : ℕ) (s : PlainShard) → SameFrame s (evicting n z s)
frame-evicting zero z s = same s
frame-evicting (suc n) z s = go (next_evicted z s) (λ k. frames s (evicted k s) (evicting n z (evicted k s)) (frame-evicted k s) (frame-evicting n z (evicted k s)))
  where
    go : (o : Option Key) → ((k : Key) → SameFrame s (evicting n z (evicted k s))) → SameFrame s (option_map_or (λ k. evicting n z (evicted k s)) o s)
    go None rest = same s
    go (Some k) rest = rest k

pub frame-trimming : (n : ℕ) (s : PlainShard) → SameFrame s (trimming n s)
frame-trimming zero s = same s
frame-trimming (suc n) s = go (next_dropped s) (λ k. frames s (dropped k s) (trimming n (dropped k s)) (frame-dropped k s) (frame-trimming n (dropped k s)))
  where
    go : (o : Option Key) → ((k : Key) → SameFrame s (trimming n (dropped k s))) → SameFrame s (option_map_or (λ k. trimming n (dropped k s)) o s)
    go None rest = same s
    go (Some k) rest = rest k

pub frame-taken_in : (e : Entry) (s : PlainShard) → SameFrame s (taken_in e s)
frame-taken_in e s =
    let room = with_room e.key.size (gone e.key s) in
    let into = come e room in
    frames s into (taken_in e s)
    (frame-of s room into (record { p = refl; c = refl; phase = refl; picked = refl })
    (frame-evicting (length (gone e.key s).entries) e.key.size (gone e.key s)).p
    (frame-evicting (length (gone e.key s).entries) e.key.size (gone e.key s)).c
    (frame-evicting (length (gone e.key s).entries) e.key.size (gone e.key s)).phase
    (frame-evicting (length (gone e.key s).entries) e.key.size (gone e.key s)).picked)
    (frame-trimming (length into.entries) into)

pub frame-fitted : (s : PlainShard) → SameFrame s (fitted s)
frame-fitted s = frames s (with_room 0 s) (fitted s) (frame-evicting (length s.entries) 0 s) (frame-trimming (length (with_room 0 s).entries) (with_room 0 s))

frame-if : (s t u : PlainShard) (b : Bool) → SameFrame s t → SameFrame s u → SameFrame s (if b then t else u)
frame-if s t u true first second = first
frame-if s t u false first second = second

pub frame-given_back : (n : ℕ) (k : Key) (s : PlainShard) → SameFrame s (given_back n k s)
frame-given_back n k s =
    let less = changed k (one_less n) s in
    frame-if s (at_head k less) less (entry_is is_unheld k less) (frame-of s less (at_head k less) (frame-at_head k less) refl refl refl refl) (record { p = refl; c = refl; phase = refl; picked = refl })

pub frame-cleared : (k : Key) (s : PlainShard) → SameFrame s (cleared k s)
frame-cleared k s =
    frame-if s (gone k s) (changed k (λ e. record e { place = None }) s) (entry_is (λ e. is_same_state e.state L2Only) k s)
    (record { p = refl; c = refl; phase = refl; picked = refl }) (record { p = refl; c = refl; phase = refl; picked = refl })

-- ---- the target stays between its floor and its ceiling

floor-le : (c : ℕ) → least_target c ≤ c - least_target c
floor-le c = omega arith

raised-within : (c p x : ℕ) → least_target c ≤ p → p ≤ c - least_target c → (least_target c ≤ min (c - least_target c) (p + x)) × (min (c - least_target c) (p + x) ≤ c - least_target c)
raised-within c p x low high = (omega (arith, floor-le c), omega arith)

lowered-within : (c p x : ℕ) → least_target c ≤ p → p ≤ c - least_target c → (least_target c ≤ max (least_target c) (p - min x p)) × (max (least_target c) (p - min x p) ≤ c - least_target c)
lowered-within c p x low high = (omega arith, omega (arith, floor-le c))

pub resized-within : (c p : ℕ) → (least_target c ≤ min (max p (least_target c)) (c - least_target c)) × (min (max p (least_target c)) (c - least_target c) ≤ c - least_target c)
resized-within c p = (omega (arith, floor-le c), omega arith)

adapted-within : (ghost : Ghost) (z a b p c : ℕ) → least_target c ≤ p → p ≤ c - least_target c → (least_target c ≤ adapted ghost z a b p c) × (adapted ghost z a b p c ≤ c - least_target c)
adapted-within ghosts.Mru z a b p c low high = raised-within c p _ low high
adapted-within ghosts.Mfu z a b p c low high = lowered-within c p _ low high

pub target-within : (k : Key) (s : PlainShard) → least_target s.c ≤ s.p → s.p ≤ s.c - least_target s.c → (least_target s.c ≤ target_after k s) × (target_after k s ≤ s.c - least_target s.c)
target-within k s low high = go (option_and_then (λ e. ghost_of e.state) (entry_of k s))
  where
    go : (o : Option Ghost) → (least_target s.c ≤ option_map_or (λ ghost. adapted ghost k.size (size_in MruGhost s) (size_in MfuGhost s) s.p s.c) o s.p)
        × (option_map_or (λ ghost. adapted ghost k.size (size_in MruGhost s) (size_in MfuGhost s) s.p s.c) o s.p ≤ s.c - least_target s.c)
    go None = (low, high)
    go (Some ghost) = adapted-within ghost k.size (size_in MruGhost s) (size_in MfuGhost s) s.p s.c low high

-- ---- what is owed

pub owed-changed : (k : Key) (change : Entry → Entry) (es : List Entry) (e : Entry) → item_at entry_key k es ≡ Some e → owed_in (with_change entry_key k change es) + owed_by e ≡ owed_in es + owed_by (change e)
owed-changed k change [] e item = cc
owed-changed k change (x ∷ xs) e item = elim (cases_true (key_eq x.key k)) [
  | inl same ↦ rw same (subst (λ z. owed_by (change x) + owed_in xs + owed_by z ≡ owed_by x + owed_in xs + owed_by (change z)) (some_is (rw same at item)) (omega arith))
  | inr differs ↦ rw differs (omega (arith, owed-changed k change xs e (rw differs at item)))
]

pub owed-without : (k : Key) (es : List Entry) (e : Entry) → item_at entry_key k es ≡ Some e → owed_in (without entry_key k es) + owed_by e ≡ owed_in es
owed-without k [] e item = cc
owed-without k (x ∷ xs) e item = elim (cases_true (key_eq x.key k)) [
  | inl same ↦ rw same (subst (λ z. owed_in xs + owed_by z ≡ owed_by x + owed_in xs) (some_is (rw same at item)) (omega arith))
  | inr differs ↦ rw differs (omega (arith, owed-without k xs e (rw differs at item)))
]

pub owed-without_le : (k : Key) (es : List Entry) → owed_in (without entry_key k es) ≤ owed_in es
owed-without_le k [] = omega arith
owed-without_le k (x ∷ xs) = elim (cases_true (key_eq x.key k)) [
  | inl same ↦ rw same (omega arith)
  | inr differs ↦ rw differs (omega (arith, owed-without_le k xs))
]

pub owed-with_item : (e : Entry) (es : List Entry) → owed_in (with_item entry_key e es) ≡ owed_by e + owed_in es
owed-with_item e [] = refl
owed-with_item e (x ∷ xs) = elim (cases_true (key_lt e.key x.key)) [
  | inl below ↦ rw below refl
  | inr other ↦ rw other (omega (arith, owed-with_item e xs))
]

-- a change that keeps what is owed for each entry
pub owed-kept : (k : Key) (change : Entry → Entry) (es : List Entry) → ((e : Entry) → owed_by (change e) ≡ owed_by e) → owed_in (with_change entry_key k change es) ≡ owed_in es
owed-kept k change [] keeps = refl
owed-kept k change (x ∷ xs) keeps = elim (cases_true (key_eq x.key k)) [
  | inl same ↦ rw same (ap (λ n. n + owed_in xs) (keeps x))
  | inr differs ↦ rw differs (ap (λ n. owed_by x + n) (owed-kept k change xs keeps))
]

owed-evicted : (k : Key) (s : PlainShard) → owed_in (evicted k s).entries ≡ owed_in s.entries
owed-evicted k s = ap owed_in (at_head-entries k (changed k evicted_entry (off_sequence k s))) ∙ owed-kept k evicted_entry s.entries (λ e. refl)

owed-dropped : (k : Key) (s : PlainShard) → owed_in (dropped k s).entries ≤ owed_in s.entries
owed-dropped k s = go (is_some (place_of k s))
  where
    go : (b : Bool) → owed_in (if b then changed k (λ e. record e { state = L2Only }) (off_sequence k s) else gone k s).entries ≤ owed_in s.entries
    go true = omega (arith, owed-kept k (λ e. record e { state = L2Only }) s.entries (λ e. refl))
    go false = owed-without_le k s.entries

pub owed-evicting : (n z : ℕ) (s : PlainShard) → owed_in (evicting n z s).entries ≡ owed_in s.entries
owed-evicting zero z s = refl
owed-evicting (suc n) z s = go (next_evicted z s) (λ k. owed-evicting n z (evicted k s) ∙ owed-evicted k s)
  where
    go : (o : Option Key) → ((k : Key) → owed_in (evicting n z (evicted k s)).entries ≡ owed_in s.entries) → owed_in (option_map_or (λ k. evicting n z (evicted k s)) o s).entries ≡ owed_in s.entries
    go None rest = refl
    go (Some k) rest = rest k

pub owed-trimming : (n : ℕ) (s : PlainShard) → owed_in (trimming n s).entries ≤ owed_in s.entries
owed-trimming zero s = omega arith
owed-trimming (suc n) s = go (next_dropped s) (λ k. both (owed-trimming n (dropped k s)) (owed-dropped k s))
  where
    both : {a b c : ℕ} → a ≤ b → b ≤ c → a ≤ c
    both first second = omega (arith, first, second)

    go : (o : Option Key) → ((k : Key) → owed_in (trimming n (dropped k s)).entries ≤ owed_in s.entries) → owed_in (option_map_or (λ k. trimming n (dropped k s)) o s).entries ≤ owed_in s.entries
    go None rest = omega arith
    go (Some k) rest = rest k

-- an entry that comes in adds what is owed for it at most
pub owed-taken_in : (e : Entry) (s : PlainShard) → owed_in (taken_in e s).entries ≤ owed_by e + owed_in s.entries
owed-taken_in e s =
    let room = with_room e.key.size (gone e.key s) in
    omega (arith, owed-trimming (length (come e room).entries) (come e room), owed-with_item e room.entries, owed-evicting (length (gone e.key s).entries) e.key.size (gone e.key s), owed-without_le e.key s.entries)

pub owed-given_back : (n : ℕ) (k : Key) (s : PlainShard) → owed_in (given_back n k s).entries ≡ owed_in (changed k (one_less n) s).entries
owed-given_back n k s = go (entry_is is_unheld k (changed k (one_less n) s))
  where
    go : (b : Bool) → owed_in (if b then at_head k (changed k (one_less n) s) else changed k (one_less n) s).entries ≡ owed_in (changed k (one_less n) s).entries
    go true = ap owed_in (at_head-entries k (changed k (one_less n) s))
    go false = refl
