-- One spelling is that of one line.
use Rattle.std.proofs.Common.{◌≡◌, ℕ, ◌<◌, ◌≤◌, ◌^◌, Bool, true, false, List, [], length, Option, Some, None, refl, ap, ◌∙◌, sym, subst, arith, get_or, inl, inr}
use Rattle.std.specs.Prelude.{decimal, IfSome}
use Rattle.std.specs.List.{AllByRecursion}
use Rattle.std.proofs.lemmas.Fmt.{decimal_injective, decimal_nonempty}
use Rattle.hex.specs.Hex.{encode_lower, lower_digits}
use Rattle.hex.proofs.HexLemmas.{length-encode_with}
use Rattle.blk_ptr.specs.declared.digest.Digest.{Digest}
use Rattle.blk_ptr.specs.declared.key.Key.{Key}
use Rattle.arc_core.specs.Config.{IsConfig}
use Rattle.arc_core.specs.declared.config.Bounds.{Bounds}
use Rattle.arc_core.specs.declared.config.Config.{Config}
use Rattle.arc_core.specs.declared.event.Event.{Event}
use Rattle.arc_core.specs.declared.event.Event.TheVariants.{Pass, Hit, Miss, Arrive, Fail, Drop, Past, Hand, Insert, Release, Pick, FeedEnd, Set, Leave, Clear, Restore, Resize}
use Rattle.arc_core.specs.declared.event.FailedAt.{FailedAt}
use Rattle.arc_core.specs.declared.event.FailedAt.TheVariants as failed
use Rattle.arc_core.specs.declared.event.Origin.{Origin}
use Rattle.arc_core.specs.declared.event.Origin.TheVariants as origins
use Rattle.arc_core.specs.declared.event.Why.{Why}
use Rattle.arc_core.specs.declared.event.Why.TheVariants as whys
use Rattle.trace_text.specs.EventText.{failed_word, origin_word, sole_word, told_words, why_word}
use Rattle.trace_text.specs.Grammar.{IsDigest, AreSizes}
use Rattle.trace_text.proofs.DigestLemmas.{digest-injective}
use Rattle.arc_check.specs.declared.words.Name.{Name}
use Rattle.arc_check.specs.declared.words.Name.TheVariants as names
use Rattle.arc_check.specs.declared.words.Line.{Line}
use Rattle.arc_check.specs.declared.words.Line.TheVariants as line_of
use Rattle.arc_check.specs.declared.words.Made.{Made}
use Rattle.arc_check.specs.LogText.{HasLogShape, HasWords, IsEventOf, IsInLogRange, IsLogKey, IsMade, LogSays, event_fields, name_of, name_text, log_parties_of, log_spelling}
use Rattle.arc_check.proofs.EventLemmas.{fields-counted, name_text-injective}
use Rattle.arc_check.proofs.FieldLemmas.{next-fields}

-- ---- words

origin-injective : (a b : Origin) → origin_word a ≡ origin_word b → a ≡ b
origin-injective origins.Pool origins.Pool e = refl
origin-injective origins.L2 origins.L2 e = refl
origin-injective origins.Pool origins.L2 e = let at = ap (λ (xs : List ℕ). get_or xs 0 0) e in absurd (omega (arith, at))
origin-injective origins.L2 origins.Pool e = let at = ap (λ (xs : List ℕ). get_or xs 0 0) e in absurd (omega (arith, at))

failed-injective : (a b : FailedAt) → failed_word a ≡ failed_word b → a ≡ b
failed-injective failed.Unread failed.Unread e = refl
failed-injective failed.Pool failed.Pool e = refl
failed-injective failed.Unread failed.Pool e = let at = ap (λ (xs : List ℕ). get_or xs 0 0) e in absurd (omega (arith, at))
failed-injective failed.Pool failed.Unread e = let at = ap (λ (xs : List ℕ). get_or xs 0 0) e in absurd (omega (arith, at))

sole-injective : (a b : Bool) → sole_word a ≡ sole_word b → a ≡ b
sole-injective true true e = refl
sole-injective false false e = refl
sole-injective true false e = let at = ap (λ (xs : List ℕ). get_or xs 1 0) e in absurd (omega (arith, at))
sole-injective false true e = let at = ap (λ (xs : List ℕ). get_or xs 1 0) e in absurd (omega (arith, at))

why-injective : (a b : Why) → why_word a ≡ why_word b → a ≡ b
why-injective whys.Gone whys.Gone e = refl
why-injective whys.Device whys.Device e = refl
why-injective whys.Memory whys.Memory e = refl
why-injective whys.Gone whys.Device e = let at = ap (λ (xs : List ℕ). get_or xs 0 0) e in absurd (omega (arith, at))
why-injective whys.Gone whys.Memory e = let at = ap (λ (xs : List ℕ). get_or xs 0 0) e in absurd (omega (arith, at))
why-injective whys.Device whys.Gone e = let at = ap (λ (xs : List ℕ). get_or xs 0 0) e in absurd (omega (arith, at))
why-injective whys.Device whys.Memory e = let at = ap (λ (xs : List ℕ). get_or xs 0 0) e in absurd (omega (arith, at))
why-injective whys.Memory whys.Gone e = let at = ap (λ (xs : List ℕ). get_or xs 0 0) e in absurd (omega (arith, at))
why-injective whys.Memory whys.Device e = let at = ap (λ (xs : List ℕ). get_or xs 0 0) e in absurd (omega (arith, at))

-- a digest has 64 digits
digits-64 : (d : Digest) → IsDigest d → length (encode_lower d.0) ≡ 64
digits-64 d is = let twice = length-encode_with lower_digits d.0 in omega (arith, twice, is.sized)

told-injective : (a b : Option Digest) → IfSome a IsDigest → IfSome b IsDigest → told_words a ≡ told_words b → a ≡ b
told-injective (Some a) (Some b) p q e = ap Some (digest-injective a b p q e)
told-injective None None p q e = refl
told-injective (Some a) None p q e = let size = digits-64 a p in let same = ap (λ (xs : List ℕ). length xs) e in absurd (omega (arith, size, same))
told-injective None (Some b) p q e = let size = digits-64 b q in let same = ap (λ (xs : List ℕ). length xs) e in absurd (omega (arith, size, same))

-- no word is empty
origin-some : (a : Origin) → 0 < length (origin_word a)
origin-some origins.Pool = omega arith
origin-some origins.L2 = omega arith

failed-some : (a : FailedAt) → 0 < length (failed_word a)
failed-some failed.Unread = omega arith
failed-some failed.Pool = omega arith

sole-some : (a : Bool) → 0 < length (sole_word a)
sole-some true = omega arith
sole-some false = omega arith

why-some : (a : Why) → 0 < length (why_word a)
why-some whys.Gone = omega arith
why-some whys.Device = omega arith
why-some whys.Memory = omega arith

digest-some : (a : Digest) → IsDigest a → 0 < length (encode_lower a.0)
digest-some a is = let size = digits-64 a is in omega (arith, size)

told-some : (a : Option Digest) → IfSome a IsDigest → 0 < length (told_words a)
told-some (Some a) is = digest-some a is
told-some None is = omega arith

name-some : (name : Name) → 0 < length (name_text name)
name-some names.Pass = omega arith
name-some names.Hit = omega arith
name-some names.Miss = omega arith
name-some names.Arrive = omega arith
name-some names.Fail = omega arith
name-some names.Drop = omega arith
name-some names.Past = omega arith
name-some names.Hand = omega arith
name-some names.Insert = omega arith
name-some names.Release = omega arith
name-some names.Pick = omega arith
name-some names.FeedEnd = omega arith
name-some names.Set = omega arith
name-some names.Leave = omega arith
name-some names.Clear = omega arith
name-some names.Restore = omega arith
name-some names.Resize = omega arith

-- ---- keys

pub key-inside : (a : Key) → IsLogKey a → (a.offset < 2 ^ 64) × (a.size < 2 ^ 64)
key-inside a is = let inside = is.valid.inside in (omega (arith, inside), omega (arith, inside))

key-same : (a b : Key) → IsLogKey a → IsLogKey b → decimal a.offset ≡ decimal b.offset → decimal a.size ≡ decimal b.size → decimal a.birth ≡ decimal b.birth → a ≡ b
key-same a b p q e1 e2 e3 =
    let low = key-inside a p in
    let high = key-inside b q in
    let s1 = decimal_injective a.offset b.offset low.0 high.0 e1 in
    let s2 = decimal_injective a.size b.size low.1 high.1 e2 in
    let s3 = decimal_injective a.birth b.birth p.birth q.birth e3 in
    λ i. record { offset = s1 i; size = s2 i; birth = s3 i }

-- ---- events

-- what an event of this name is
abbrev EventForm : Name → Event → Type 0
EventForm names.Pass e = (n : ℕ) × (k : Key) × (owner : ℕ) × (e ≡ Pass n k owner)
EventForm names.Hit e = (n : ℕ) × (k : Key) × (t : ℕ) × (e ≡ Hit n k t)
EventForm names.Miss e = (n : ℕ) × (k : Key) × (t : ℕ) × (e ≡ Miss n k t)
EventForm names.Arrive e = (n : ℕ) × (k : Key) × (d : Digest) × (from : Origin) × (e ≡ Arrive n k d from)
EventForm names.Fail e = (n : ℕ) × (k : Key) × (at : FailedAt) × (e ≡ Fail n k at)
EventForm names.Drop e = (n : ℕ) × (k : Key) × (e ≡ Drop n k)
EventForm names.Past e = (n : ℕ) × (k : Key) × (kept : Digest) × (e ≡ Past n k kept)
EventForm names.Hand e = (n : ℕ) × (k : Key) × (to : ℕ) × (e ≡ Hand n k to)
EventForm names.Insert e = (n : ℕ) × (k : Key) × (d : Digest) × (t : ℕ) × (e ≡ Insert n k d t)
EventForm names.Release e = (n : ℕ) × (k : Key) × (sole : Bool) × (e ≡ Release n k sole)
EventForm names.Pick e = (n : ℕ) × (k : Key) × (e ≡ Pick n k)
EventForm names.FeedEnd e = (n : ℕ) × (e ≡ FeedEnd n)
EventForm names.Set e = (n : ℕ) × (k : Key) × (place : ℕ) × (e ≡ Set n k place)
EventForm names.Leave e = (n : ℕ) × (k : Key) × (why : Why) × (e ≡ Leave n k why)
EventForm names.Clear e = (n : ℕ) × (k : Key) × (e ≡ Clear n k)
EventForm names.Restore e = (n : ℕ) × (k : Key) × (place : ℕ) × (told : Option Digest) × (e ≡ Restore n k place told)
EventForm names.Resize e = (n : ℕ) × (c : ℕ) × (e ≡ Resize n c)

form : (e : Event) → EventForm (name_of e) e
form (Pass n k owner) = (n, k, owner, refl)
form (Hit n k t) = (n, k, t, refl)
form (Miss n k t) = (n, k, t, refl)
form (Arrive n k d from) = (n, k, d, from, refl)
form (Fail n k at) = (n, k, at, refl)
form (Drop n k) = (n, k, refl)
form (Past n k kept) = (n, k, kept, refl)
form (Hand n k to) = (n, k, to, refl)
form (Insert n k d t) = (n, k, d, t, refl)
form (Release n k sole) = (n, k, sole, refl)
form (Pick n k) = (n, k, refl)
form (FeedEnd n) = (n, refl)
form (Set n k place) = (n, k, place, refl)
form (Leave n k why) = (n, k, why, refl)
form (Clear n k) = (n, k, refl)
form (Restore n k place told) = (n, k, place, told, refl)
form (Resize n c) = (n, c, refl)

form-as : (name : Name) (e : Event) → name_of e ≡ name → EventForm name e
form-as name e named = subst (λ (m : Name). EventForm m e) named (form e)

-- two events in range of one name, with one spelling, are one event
same-event : (parties : ℕ) → parties < 2 ^ 64 → (e f : Event) → IsEventOf parties e → IsEventOf parties f → EventForm (name_of e) f → event_fields e ≡ event_fields f → e ≡ f
same-event parties few (Pass n k owner) f p r (n', k', owner', is) e =
    let q : IsEventOf parties (Pass n' k' owner') = rw is at r in
    let s : event_fields (Pass n k owner) ≡ event_fields (Pass n' k' owner') = rw is at e in
    let low : n < parties = p.maker in
    let high : n' < parties = q.maker in
    let e0 = decimal_injective n n' (omega (arith, low, few)) (omega (arith, high, few)) (ap (λ f. get_or f 0 []) s) in
    let e1 = key-same k k' p.key q.key (ap (λ f. get_or f 1 []) s) (ap (λ f. get_or f 2 []) s) (ap (λ f. get_or f 3 []) s) in
    let t0-low : owner < parties = p.told in
    let t0-high : owner' < parties = q.told in
    let t0 = decimal_injective owner owner' (omega (arith, t0-low, few)) (omega (arith, t0-high, few)) (ap (λ f. get_or f 4 []) s) in
    let same : Pass n k owner ≡ Pass n' k' owner' = λ i. Pass (e0 i) (e1 i) (t0 i) in
    same ∙ sym is
same-event parties few (Hit n k t) f p r (n', k', t', is) e =
    let q : IsEventOf parties (Hit n' k' t') = rw is at r in
    let s : event_fields (Hit n k t) ≡ event_fields (Hit n' k' t') = rw is at e in
    let low : n < parties = p.maker in
    let high : n' < parties = q.maker in
    let e0 = decimal_injective n n' (omega (arith, low, few)) (omega (arith, high, few)) (ap (λ f. get_or f 0 []) s) in
    let e1 = key-same k k' p.key q.key (ap (λ f. get_or f 1 []) s) (ap (λ f. get_or f 2 []) s) (ap (λ f. get_or f 3 []) s) in
    let t0-low : t ≤ 2 ^ 62 = p.told in
    let t0-high : t' ≤ 2 ^ 62 = q.told in
    let t0 = decimal_injective t t' (omega (arith, t0-low)) (omega (arith, t0-high)) (ap (λ f. get_or f 4 []) s) in
    let same : Hit n k t ≡ Hit n' k' t' = λ i. Hit (e0 i) (e1 i) (t0 i) in
    same ∙ sym is
same-event parties few (Miss n k t) f p r (n', k', t', is) e =
    let q : IsEventOf parties (Miss n' k' t') = rw is at r in
    let s : event_fields (Miss n k t) ≡ event_fields (Miss n' k' t') = rw is at e in
    let low : n < parties = p.maker in
    let high : n' < parties = q.maker in
    let e0 = decimal_injective n n' (omega (arith, low, few)) (omega (arith, high, few)) (ap (λ f. get_or f 0 []) s) in
    let e1 = key-same k k' p.key q.key (ap (λ f. get_or f 1 []) s) (ap (λ f. get_or f 2 []) s) (ap (λ f. get_or f 3 []) s) in
    let t0-low : t ≤ 2 ^ 62 = p.told in
    let t0-high : t' ≤ 2 ^ 62 = q.told in
    let t0 = decimal_injective t t' (omega (arith, t0-low)) (omega (arith, t0-high)) (ap (λ f. get_or f 4 []) s) in
    let same : Miss n k t ≡ Miss n' k' t' = λ i. Miss (e0 i) (e1 i) (t0 i) in
    same ∙ sym is
same-event parties few (Arrive n k d from) f p r (n', k', d', from', is) e =
    let q : IsEventOf parties (Arrive n' k' d' from') = rw is at r in
    let s : event_fields (Arrive n k d from) ≡ event_fields (Arrive n' k' d' from') = rw is at e in
    let low : n < parties = p.maker in
    let high : n' < parties = q.maker in
    let e0 = decimal_injective n n' (omega (arith, low, few)) (omega (arith, high, few)) (ap (λ f. get_or f 0 []) s) in
    let e1 = key-same k k' p.key q.key (ap (λ f. get_or f 1 []) s) (ap (λ f. get_or f 2 []) s) (ap (λ f. get_or f 3 []) s) in
    let t0 = digest-injective d d' p.told q.told (ap (λ f. get_or f 4 []) s) in
    let t1 = origin-injective from from' (ap (λ f. get_or f 5 []) s) in
    let same : Arrive n k d from ≡ Arrive n' k' d' from' = λ i. Arrive (e0 i) (e1 i) (t0 i) (t1 i) in
    same ∙ sym is
same-event parties few (Fail n k at) f p r (n', k', at', is) e =
    let q : IsEventOf parties (Fail n' k' at') = rw is at r in
    let s : event_fields (Fail n k at) ≡ event_fields (Fail n' k' at') = rw is at e in
    let low : n < parties = p.maker in
    let high : n' < parties = q.maker in
    let e0 = decimal_injective n n' (omega (arith, low, few)) (omega (arith, high, few)) (ap (λ f. get_or f 0 []) s) in
    let e1 = key-same k k' p.key q.key (ap (λ f. get_or f 1 []) s) (ap (λ f. get_or f 2 []) s) (ap (λ f. get_or f 3 []) s) in
    let t0 = failed-injective at at' (ap (λ f. get_or f 4 []) s) in
    let same : Fail n k at ≡ Fail n' k' at' = λ i. Fail (e0 i) (e1 i) (t0 i) in
    same ∙ sym is
same-event parties few (Drop n k) f p r (n', k', is) e =
    let q : IsEventOf parties (Drop n' k') = rw is at r in
    let s : event_fields (Drop n k) ≡ event_fields (Drop n' k') = rw is at e in
    let low : n < parties = p.maker in
    let high : n' < parties = q.maker in
    let e0 = decimal_injective n n' (omega (arith, low, few)) (omega (arith, high, few)) (ap (λ f. get_or f 0 []) s) in
    let e1 = key-same k k' p.key q.key (ap (λ f. get_or f 1 []) s) (ap (λ f. get_or f 2 []) s) (ap (λ f. get_or f 3 []) s) in
    let same : Drop n k ≡ Drop n' k' = λ i. Drop (e0 i) (e1 i) in
    same ∙ sym is
same-event parties few (Past n k kept) f p r (n', k', kept', is) e =
    let q : IsEventOf parties (Past n' k' kept') = rw is at r in
    let s : event_fields (Past n k kept) ≡ event_fields (Past n' k' kept') = rw is at e in
    let low : n < parties = p.maker in
    let high : n' < parties = q.maker in
    let e0 = decimal_injective n n' (omega (arith, low, few)) (omega (arith, high, few)) (ap (λ f. get_or f 0 []) s) in
    let e1 = key-same k k' p.key q.key (ap (λ f. get_or f 1 []) s) (ap (λ f. get_or f 2 []) s) (ap (λ f. get_or f 3 []) s) in
    let t0 = digest-injective kept kept' p.told q.told (ap (λ f. get_or f 4 []) s) in
    let same : Past n k kept ≡ Past n' k' kept' = λ i. Past (e0 i) (e1 i) (t0 i) in
    same ∙ sym is
same-event parties few (Hand n k to) f p r (n', k', to', is) e =
    let q : IsEventOf parties (Hand n' k' to') = rw is at r in
    let s : event_fields (Hand n k to) ≡ event_fields (Hand n' k' to') = rw is at e in
    let low : n < parties = p.maker in
    let high : n' < parties = q.maker in
    let e0 = decimal_injective n n' (omega (arith, low, few)) (omega (arith, high, few)) (ap (λ f. get_or f 0 []) s) in
    let e1 = key-same k k' p.key q.key (ap (λ f. get_or f 1 []) s) (ap (λ f. get_or f 2 []) s) (ap (λ f. get_or f 3 []) s) in
    let t0-low : to < parties = p.told in
    let t0-high : to' < parties = q.told in
    let t0 = decimal_injective to to' (omega (arith, t0-low, few)) (omega (arith, t0-high, few)) (ap (λ f. get_or f 4 []) s) in
    let same : Hand n k to ≡ Hand n' k' to' = λ i. Hand (e0 i) (e1 i) (t0 i) in
    same ∙ sym is
same-event parties few (Insert n k d t) f p r (n', k', d', t', is) e =
    let q : IsEventOf parties (Insert n' k' d' t') = rw is at r in
    let s : event_fields (Insert n k d t) ≡ event_fields (Insert n' k' d' t') = rw is at e in
    let low : n < parties = p.maker in
    let high : n' < parties = q.maker in
    let e0 = decimal_injective n n' (omega (arith, low, few)) (omega (arith, high, few)) (ap (λ f. get_or f 0 []) s) in
    let e1 = key-same k k' p.key q.key (ap (λ f. get_or f 1 []) s) (ap (λ f. get_or f 2 []) s) (ap (λ f. get_or f 3 []) s) in
    let t0 = digest-injective d d' p.told.0 q.told.0 (ap (λ f. get_or f 4 []) s) in
    let t1-low : t ≤ 2 ^ 62 = p.told.1 in
    let t1-high : t' ≤ 2 ^ 62 = q.told.1 in
    let t1 = decimal_injective t t' (omega (arith, t1-low)) (omega (arith, t1-high)) (ap (λ f. get_or f 5 []) s) in
    let same : Insert n k d t ≡ Insert n' k' d' t' = λ i. Insert (e0 i) (e1 i) (t0 i) (t1 i) in
    same ∙ sym is
same-event parties few (Release n k sole) f p r (n', k', sole', is) e =
    let q : IsEventOf parties (Release n' k' sole') = rw is at r in
    let s : event_fields (Release n k sole) ≡ event_fields (Release n' k' sole') = rw is at e in
    let low : n < parties = p.maker in
    let high : n' < parties = q.maker in
    let e0 = decimal_injective n n' (omega (arith, low, few)) (omega (arith, high, few)) (ap (λ f. get_or f 0 []) s) in
    let e1 = key-same k k' p.key q.key (ap (λ f. get_or f 1 []) s) (ap (λ f. get_or f 2 []) s) (ap (λ f. get_or f 3 []) s) in
    let t0 = sole-injective sole sole' (ap (λ f. get_or f 4 []) s) in
    let same : Release n k sole ≡ Release n' k' sole' = λ i. Release (e0 i) (e1 i) (t0 i) in
    same ∙ sym is
same-event parties few (Pick n k) f p r (n', k', is) e =
    let q : IsEventOf parties (Pick n' k') = rw is at r in
    let s : event_fields (Pick n k) ≡ event_fields (Pick n' k') = rw is at e in
    let low : n < parties = p.maker in
    let high : n' < parties = q.maker in
    let e0 = decimal_injective n n' (omega (arith, low, few)) (omega (arith, high, few)) (ap (λ f. get_or f 0 []) s) in
    let e1 = key-same k k' p.key q.key (ap (λ f. get_or f 1 []) s) (ap (λ f. get_or f 2 []) s) (ap (λ f. get_or f 3 []) s) in
    let same : Pick n k ≡ Pick n' k' = λ i. Pick (e0 i) (e1 i) in
    same ∙ sym is
same-event parties few (FeedEnd n) f p r (n', is) e =
    let q : IsEventOf parties (FeedEnd n') = rw is at r in
    let s : event_fields (FeedEnd n) ≡ event_fields (FeedEnd n') = rw is at e in
    let low : n < parties = p.maker in
    let high : n' < parties = q.maker in
    let e0 = decimal_injective n n' (omega (arith, low, few)) (omega (arith, high, few)) (ap (λ f. get_or f 0 []) s) in
    let same : FeedEnd n ≡ FeedEnd n' = λ i. FeedEnd (e0 i) in
    same ∙ sym is
same-event parties few (Set n k place) f p r (n', k', place', is) e =
    let q : IsEventOf parties (Set n' k' place') = rw is at r in
    let s : event_fields (Set n k place) ≡ event_fields (Set n' k' place') = rw is at e in
    let low : n < parties = p.maker in
    let high : n' < parties = q.maker in
    let e0 = decimal_injective n n' (omega (arith, low, few)) (omega (arith, high, few)) (ap (λ f. get_or f 0 []) s) in
    let e1 = key-same k k' p.key q.key (ap (λ f. get_or f 1 []) s) (ap (λ f. get_or f 2 []) s) (ap (λ f. get_or f 3 []) s) in
    let t0-low : place ≤ 2 ^ 62 = p.told in
    let t0-high : place' ≤ 2 ^ 62 = q.told in
    let t0 = decimal_injective place place' (omega (arith, t0-low)) (omega (arith, t0-high)) (ap (λ f. get_or f 4 []) s) in
    let same : Set n k place ≡ Set n' k' place' = λ i. Set (e0 i) (e1 i) (t0 i) in
    same ∙ sym is
same-event parties few (Leave n k why) f p r (n', k', why', is) e =
    let q : IsEventOf parties (Leave n' k' why') = rw is at r in
    let s : event_fields (Leave n k why) ≡ event_fields (Leave n' k' why') = rw is at e in
    let low : n < parties = p.maker in
    let high : n' < parties = q.maker in
    let e0 = decimal_injective n n' (omega (arith, low, few)) (omega (arith, high, few)) (ap (λ f. get_or f 0 []) s) in
    let e1 = key-same k k' p.key q.key (ap (λ f. get_or f 1 []) s) (ap (λ f. get_or f 2 []) s) (ap (λ f. get_or f 3 []) s) in
    let t0 = why-injective why why' (ap (λ f. get_or f 4 []) s) in
    let same : Leave n k why ≡ Leave n' k' why' = λ i. Leave (e0 i) (e1 i) (t0 i) in
    same ∙ sym is
same-event parties few (Clear n k) f p r (n', k', is) e =
    let q : IsEventOf parties (Clear n' k') = rw is at r in
    let s : event_fields (Clear n k) ≡ event_fields (Clear n' k') = rw is at e in
    let low : n < parties = p.maker in
    let high : n' < parties = q.maker in
    let e0 = decimal_injective n n' (omega (arith, low, few)) (omega (arith, high, few)) (ap (λ f. get_or f 0 []) s) in
    let e1 = key-same k k' p.key q.key (ap (λ f. get_or f 1 []) s) (ap (λ f. get_or f 2 []) s) (ap (λ f. get_or f 3 []) s) in
    let same : Clear n k ≡ Clear n' k' = λ i. Clear (e0 i) (e1 i) in
    same ∙ sym is
same-event parties few (Restore n k place told) f p r (n', k', place', told', is) e =
    let q : IsEventOf parties (Restore n' k' place' told') = rw is at r in
    let s : event_fields (Restore n k place told) ≡ event_fields (Restore n' k' place' told') = rw is at e in
    let low : n < parties = p.maker in
    let high : n' < parties = q.maker in
    let e0 = decimal_injective n n' (omega (arith, low, few)) (omega (arith, high, few)) (ap (λ f. get_or f 0 []) s) in
    let e1 = key-same k k' p.key q.key (ap (λ f. get_or f 1 []) s) (ap (λ f. get_or f 2 []) s) (ap (λ f. get_or f 3 []) s) in
    let t0-low : place ≤ 2 ^ 62 = p.told.0 in
    let t0-high : place' ≤ 2 ^ 62 = q.told.0 in
    let t0 = decimal_injective place place' (omega (arith, t0-low)) (omega (arith, t0-high)) (ap (λ f. get_or f 4 []) s) in
    let t1 = told-injective told told' p.told.1 q.told.1 (ap (λ f. get_or f 5 []) s) in
    let same : Restore n k place told ≡ Restore n' k' place' told' = λ i. Restore (e0 i) (e1 i) (t0 i) (t1 i) in
    same ∙ sym is
same-event parties few (Resize n c) f p r (n', c', is) e =
    let q : IsEventOf parties (Resize n' c') = rw is at r in
    let s : event_fields (Resize n c) ≡ event_fields (Resize n' c') = rw is at e in
    let low : n < parties = p.maker in
    let high : n' < parties = q.maker in
    let e0 = decimal_injective n n' (omega (arith, low, few)) (omega (arith, high, few)) (ap (λ f. get_or f 0 []) s) in
    let t0-low : c ≤ 2 ^ 62 = p.told in
    let t0-high : c' ≤ 2 ^ 62 = q.told in
    let t0 = decimal_injective c c' (omega (arith, t0-low)) (omega (arith, t0-high)) (ap (λ f. get_or f 1 []) s) in
    let same : Resize n c ≡ Resize n' c' = λ i. Resize (e0 i) (t0 i) in
    same ∙ sym is

-- no field of an event is empty
event-some : (parties : ℕ) → parties < 2 ^ 64 → (e : Event) → IsEventOf parties e → AllByRecursion (λ field. 0 < length field) (event_fields e)
event-some parties few (Pass n k owner) p =
    let low : n < parties = p.maker in
    let inside = key-inside k p.key in
    let l0 : owner < parties = p.told in
    (decimal_nonempty n (omega (arith, low, few)), (decimal_nonempty k.offset inside.0, (decimal_nonempty k.size inside.1, (decimal_nonempty k.birth p.key.birth, (decimal_nonempty owner (omega (arith, l0, few)), tt)))))
event-some parties few (Hit n k t) p =
    let low : n < parties = p.maker in
    let inside = key-inside k p.key in
    let l0 : t ≤ 2 ^ 62 = p.told in
    (decimal_nonempty n (omega (arith, low, few)), (decimal_nonempty k.offset inside.0, (decimal_nonempty k.size inside.1, (decimal_nonempty k.birth p.key.birth, (decimal_nonempty t (omega (arith, l0)), tt)))))
event-some parties few (Miss n k t) p =
    let low : n < parties = p.maker in
    let inside = key-inside k p.key in
    let l0 : t ≤ 2 ^ 62 = p.told in
    (decimal_nonempty n (omega (arith, low, few)), (decimal_nonempty k.offset inside.0, (decimal_nonempty k.size inside.1, (decimal_nonempty k.birth p.key.birth, (decimal_nonempty t (omega (arith, l0)), tt)))))
event-some parties few (Arrive n k d from) p =
    let low : n < parties = p.maker in
    let inside = key-inside k p.key in
    (decimal_nonempty n (omega (arith, low, few)), (decimal_nonempty k.offset inside.0, (decimal_nonempty k.size inside.1, (decimal_nonempty k.birth p.key.birth, (digest-some d p.told, (origin-some from, tt))))))
event-some parties few (Fail n k at) p =
    let low : n < parties = p.maker in
    let inside = key-inside k p.key in
    (decimal_nonempty n (omega (arith, low, few)), (decimal_nonempty k.offset inside.0, (decimal_nonempty k.size inside.1, (decimal_nonempty k.birth p.key.birth, (failed-some at, tt)))))
event-some parties few (Drop n k) p =
    let low : n < parties = p.maker in
    let inside = key-inside k p.key in
    (decimal_nonempty n (omega (arith, low, few)), (decimal_nonempty k.offset inside.0, (decimal_nonempty k.size inside.1, (decimal_nonempty k.birth p.key.birth, tt))))
event-some parties few (Past n k kept) p =
    let low : n < parties = p.maker in
    let inside = key-inside k p.key in
    (decimal_nonempty n (omega (arith, low, few)), (decimal_nonempty k.offset inside.0, (decimal_nonempty k.size inside.1, (decimal_nonempty k.birth p.key.birth, (digest-some kept p.told, tt)))))
event-some parties few (Hand n k to) p =
    let low : n < parties = p.maker in
    let inside = key-inside k p.key in
    let l0 : to < parties = p.told in
    (decimal_nonempty n (omega (arith, low, few)), (decimal_nonempty k.offset inside.0, (decimal_nonempty k.size inside.1, (decimal_nonempty k.birth p.key.birth, (decimal_nonempty to (omega (arith, l0, few)), tt)))))
event-some parties few (Insert n k d t) p =
    let low : n < parties = p.maker in
    let inside = key-inside k p.key in
    let l1 : t ≤ 2 ^ 62 = p.told.1 in
    (decimal_nonempty n (omega (arith, low, few)), (decimal_nonempty k.offset inside.0, (decimal_nonempty k.size inside.1, (decimal_nonempty k.birth p.key.birth, (digest-some d p.told.0, (decimal_nonempty t (omega (arith, l1)), tt))))))
event-some parties few (Release n k sole) p =
    let low : n < parties = p.maker in
    let inside = key-inside k p.key in
    (decimal_nonempty n (omega (arith, low, few)), (decimal_nonempty k.offset inside.0, (decimal_nonempty k.size inside.1, (decimal_nonempty k.birth p.key.birth, (sole-some sole, tt)))))
event-some parties few (Pick n k) p =
    let low : n < parties = p.maker in
    let inside = key-inside k p.key in
    (decimal_nonempty n (omega (arith, low, few)), (decimal_nonempty k.offset inside.0, (decimal_nonempty k.size inside.1, (decimal_nonempty k.birth p.key.birth, tt))))
event-some parties few (FeedEnd n) p =
    let low : n < parties = p.maker in
    (decimal_nonempty n (omega (arith, low, few)), tt)
event-some parties few (Set n k place) p =
    let low : n < parties = p.maker in
    let inside = key-inside k p.key in
    let l0 : place ≤ 2 ^ 62 = p.told in
    (decimal_nonempty n (omega (arith, low, few)), (decimal_nonempty k.offset inside.0, (decimal_nonempty k.size inside.1, (decimal_nonempty k.birth p.key.birth, (decimal_nonempty place (omega (arith, l0)), tt)))))
event-some parties few (Leave n k why) p =
    let low : n < parties = p.maker in
    let inside = key-inside k p.key in
    (decimal_nonempty n (omega (arith, low, few)), (decimal_nonempty k.offset inside.0, (decimal_nonempty k.size inside.1, (decimal_nonempty k.birth p.key.birth, (why-some why, tt)))))
event-some parties few (Clear n k) p =
    let low : n < parties = p.maker in
    let inside = key-inside k p.key in
    (decimal_nonempty n (omega (arith, low, few)), (decimal_nonempty k.offset inside.0, (decimal_nonempty k.size inside.1, (decimal_nonempty k.birth p.key.birth, tt))))
event-some parties few (Restore n k place told) p =
    let low : n < parties = p.maker in
    let inside = key-inside k p.key in
    let l0 : place ≤ 2 ^ 62 = p.told.0 in
    (decimal_nonempty n (omega (arith, low, few)), (decimal_nonempty k.offset inside.0, (decimal_nonempty k.size inside.1, (decimal_nonempty k.birth p.key.birth, (decimal_nonempty place (omega (arith, l0)), (told-some told p.told.1, tt))))))
event-some parties few (Resize n c) p =
    let low : n < parties = p.maker in
    let l0 : c ≤ 2 ^ 62 = p.told in
    (decimal_nonempty n (omega (arith, low, few)), (decimal_nonempty c (omega (arith, l0)), tt))

-- ---- lines

config-same : (a b : Config) → a.callers ≡ b.callers → a.shards ≡ b.shards → a.buckets ≡ b.buckets → a.cells ≡ b.cells → a.c ≡ b.c
    → a.mintime ≡ b.mintime → a.dbuf_bytes ≡ b.dbuf_bytes → a.bounds.write_max ≡ b.bounds.write_max → a.bounds.headroom ≡ b.bounds.headroom → a ≡ b
config-same a b e1 e2 e3 e4 e5 e6 e7 e8 e9 =
    λ i. record { callers = e1 i; shards = e2 i; buckets = e3 i; cells = e4 i; c = e5 i; mintime = e6 i; dbuf_bytes = e7 i; bounds = record { write_max = e8 i; headroom = e9 i } }

same-sizes : (a b : Config) → AreSizes a → AreSizes b → log_spelling (line_of.Sizes a) ≡ log_spelling (line_of.Sizes b) → line_of.Sizes a ≡ line_of.Sizes b
same-sizes a b p q e = ap line_of.Sizes (config-same a b
    (decimal_injective a.callers b.callers (omega (arith, p.ranged.counts.callers.1)) (omega (arith, q.ranged.counts.callers.1)) (ap (λ f. get_or f 1 []) e))
    (decimal_injective a.shards b.shards (omega (arith, p.ranged.counts.shards.1)) (omega (arith, q.ranged.counts.shards.1)) (ap (λ f. get_or f 2 []) e))
    (decimal_injective a.buckets b.buckets (omega (arith, p.ranged.counts.buckets.1)) (omega (arith, q.ranged.counts.buckets.1)) (ap (λ f. get_or f 3 []) e))
    (decimal_injective a.cells b.cells (omega (arith, p.ranged.counts.cells.1)) (omega (arith, q.ranged.counts.cells.1)) (ap (λ f. get_or f 4 []) e))
    (decimal_injective a.c b.c (omega (arith, p.ranged.amounts.c.most)) (omega (arith, q.ranged.amounts.c.most)) (ap (λ f. get_or f 5 []) e))
    (decimal_injective a.mintime b.mintime (omega (arith, p.ranged.amounts.mintime)) (omega (arith, q.ranged.amounts.mintime)) (ap (λ f. get_or f 6 []) e))
    (decimal_injective a.dbuf_bytes b.dbuf_bytes (omega (arith, p.ranged.amounts.dbuf_bytes)) (omega (arith, q.ranged.amounts.dbuf_bytes)) (ap (λ f. get_or f 7 []) e))
    (p.write_max ∙ sym q.write_max) (p.headroom ∙ sym q.headroom))

-- there are few parties
pub parties-few : (z : Config) → IsConfig z → log_parties_of z < 2 ^ 64
parties-few z is = omega (arith, is.counts.callers.1, is.counts.cells.1)

same-made : (z : Config) → IsConfig z → (a b : Made) → IsMade z a → IsMade z b → log_spelling (line_of.Made a) ≡ log_spelling (line_of.Made b) → line_of.Made a ≡ line_of.Made b
same-made z is a b p q e =
    let shard = decimal_injective a.shard b.shard (omega (arith, p.shard, is.counts.shards.1)) (omega (arith, q.shard, is.counts.shards.1)) (ap (λ f. get_or f 1 []) e) in
    let low : a.index ≤ 2 ^ 62 = p.index in
    let high : b.index ≤ 2 ^ 62 = q.index in
    let index = decimal_injective a.index b.index (omega (arith, low)) (omega (arith, high)) (ap (λ f. get_or f 2 []) e) in
    let name : name_of a.event ≡ name_of b.event = name_text-injective (name_of a.event) (name_of b.event) (ap (λ f. get_or f 3 []) e) in
    let fields : event_fields a.event ≡ event_fields b.event = next-fields refl (next-fields refl (next-fields refl (next-fields refl e))) in
    let event = same-event (log_parties_of z) (parties-few z is) a.event b.event p.event q.event (form-as (name_of a.event) b.event (sym name)) fields in
    λ i. line_of.Made (record { shard = shard i; index = index i; event = event i })

same-feed : (a b : Bounds) → a.write_max ≤ 2 ^ 32 → b.write_max ≤ 2 ^ 32 → a.headroom ≤ 64 → b.headroom ≤ 64
    → log_spelling (line_of.Feed a) ≡ log_spelling (line_of.Feed b) → line_of.Feed a ≡ line_of.Feed b
same-feed a b p q r t e =
    let most = decimal_injective a.write_max b.write_max (omega arith) (omega arith) (ap (λ f. get_or f 1 []) e) in
    let headroom = decimal_injective a.headroom b.headroom (omega arith) (omega arith) (ap (λ f. get_or f 2 []) e) in
    λ i. line_of.Feed (record { write_max = most i; headroom = headroom i })

feed-made : (a : Bounds) (b : Made) → log_spelling (line_of.Feed a) ≡ log_spelling (line_of.Made b) → ⊥
feed-made a b e = let at = ap (λ (f : List (List ℕ)). get_or (get_or f 0 []) 0 0) e in omega (arith, at)

-- two lines in range with one spelling are one line
pub spelling-injective : (config : Option Config) → IfSome config IsConfig → (l m : Line) → IsInLogRange config l → IsInLogRange config m → log_spelling l ≡ log_spelling m → l ≡ m
spelling-injective None few (line_of.Sizes a) (line_of.Sizes b) p q e = same-sizes a b p q e
spelling-injective None few (line_of.Sizes a) (line_of.Feed b) p q e = absurd q
spelling-injective None few (line_of.Sizes a) (line_of.Made b) p q e = absurd q
spelling-injective None few (line_of.Feed a) m p q e = absurd p
spelling-injective None few (line_of.Made a) m p q e = absurd p
spelling-injective (Some z) few (line_of.Sizes a) m p q e = absurd p
spelling-injective (Some z) few (line_of.Feed a) (line_of.Sizes b) p q e = absurd q
spelling-injective (Some z) few (line_of.Feed a) (line_of.Feed b) p q e = same-feed a b p.write_max.1 q.write_max.1 p.headroom.1 q.headroom.1 e
spelling-injective (Some z) few (line_of.Feed a) (line_of.Made b) p q e = absurd (feed-made a b e)
spelling-injective (Some z) few (line_of.Made a) (line_of.Sizes b) p q e = absurd q
spelling-injective (Some z) few (line_of.Made a) (line_of.Feed b) p q e = absurd (feed-made b a (sym e))
spelling-injective (Some z) few (line_of.Made a) (line_of.Made b) p q e = same-made z few a b p q e

-- ---- a line has its words and their shape

spelled-shape : (config : Option Config) → IfSome config IsConfig → (l : Line) → IsInLogRange config l → HasLogShape config (log_spelling l)
spelled-shape None few (line_of.Sizes z) r = (refl, (refl, (omega arith, (decimal_nonempty z.callers (omega (arith, r.ranged.counts.callers.1)), (decimal_nonempty z.shards (omega (arith, r.ranged.counts.shards.1)), (decimal_nonempty z.buckets (omega (arith, r.ranged.counts.buckets.1)), (decimal_nonempty z.cells (omega (arith, r.ranged.counts.cells.1)), (decimal_nonempty z.c (omega (arith, r.ranged.amounts.c.most)), (decimal_nonempty z.mintime (omega (arith, r.ranged.amounts.mintime)), (decimal_nonempty z.dbuf_bytes (omega (arith, r.ranged.amounts.dbuf_bytes)), tt))))))))))
spelled-shape None few (line_of.Feed b) r = absurd r
spelled-shape None few (line_of.Made a) r = absurd r
spelled-shape (Some z) few (line_of.Sizes a) r = absurd r
spelled-shape (Some z) few (line_of.Feed b) r = inl (refl, (refl, (omega arith, (decimal_nonempty b.write_max (omega (arith, r.write_max.1)), (decimal_nonempty b.headroom (omega (arith, r.headroom.1)), tt)))))
spelled-shape (Some z) few (line_of.Made a) r =
    let low : a.index ≤ 2 ^ 62 = r.index in
    let counted = fields-counted a.event in
    inr (name_of a.event, (refl, refl), (omega (arith, counted), (omega arith, (decimal_nonempty a.shard (omega (arith, r.shard, few.counts.shards.1)), (decimal_nonempty a.index (omega (arith, low)), (name-some (name_of a.event), event-some (log_parties_of z) (parties-few z few) a.event r.event))))))

pub shape-words : (config : Option Config) (fields : List (List ℕ)) → HasLogShape config fields → HasWords config fields
shape-words None fields s = s.0
shape-words (Some z) fields (inl s) = inl s.0
shape-words (Some z) fields (inr s) = inr (inr (s.0, s.1))

pub say-shape : (config : Option Config) → IfSome config IsConfig → (fields : List (List ℕ)) (l : Line) → LogSays config fields l → HasLogShape config fields
say-shape config few fields l said = subst (HasLogShape config) (sym said.spelled) (spelled-shape config few l said.ranged)
