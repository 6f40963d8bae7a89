-- An event that was written as bytes is read back.
use Rattle.std.proofs.Common.{◌≡◌, ℕ, zero, suc, ◌+◌, ◌<◌, ◌≤◌, ◌^◌, true, false, if◌then◌else◌, List, [], ◌∷◌, ◌++◌, length, replicate, Some, None, refl, sym, ap, subst, ◌∙◌, append_assoc, length-append, get_or, take, drop, drop-cons, ◌-◌, arith}
use Rattle.std.specs.List.{AllByRecursion}
use Rattle.std.proofs.lemmas.Bool.{true≢false}
use Rattle.std.proofs.lemmas.List.{append-nil, length-take, take-append-drop}
use Rattle.std.proofs.Math.Seq.{take-append_seam}
use Rattle.varint.specs.Number.{number_bytes, taken_bytes, taken_number}
use Rattle.varint.proofs.Taken.{bytes-taken, number-taken}
use Rattle.arc_core.specs.declared.event.Event.{Event}
use Rattle.arc_core.specs.declared.event.Event.TheVariants.{Pass, Hit, Miss, Arrive, Fail, Drop, Past, Hand, Insert, Release, Pick, FeedEnd, Set, Leave, Clear, Restore, Resize}
use Rattle.arc_core.specs.declared.packed.Packed.{Packed}
use Rattle.arc_core.specs.EventLog.{after_events, bytes_of, events_in}
use Rattle.arc_core.specs.Packed.{digest_bytes, event_of, has_digest, packed_bytes, packed_of, taken_digest, taken_packed, turned, turned_back, IsPackable}

turned-fits : (x : ℕ) → x < 2 ^ 64 → turned x < 2 ^ 64
turned-fits x fits = omega arith

turned-back : (x : ℕ) → x < 2 ^ 64 → turned_back (turned x) ≡ x
turned-back x fits = omega arith

digest-taken : (kind : ℕ) (digest xs : List ℕ) → length digest ≡ 32 → (has_digest kind ≡ false → digest ≡ replicate 32 0)
    → taken_digest kind ((if has_digest kind then digest else []) ++ xs) ≡ (digest, xs)
digest-taken kind digest xs long plain =
    elim (has_digest kind) as (λ has. (has ≡ false → digest ≡ replicate 32 0) → (if has then taken_bytes ((if has then digest else []) ++ xs) else (replicate 32 0, (if has then digest else []) ++ xs)) ≡ (digest, xs)) [
      | true ↦ λ _. bytes-taken digest xs long
      | false ↦ λ h. ap (λ d. (d, xs)) (sym (h refl))
    ] plain

-- six numbers and a digest, whatever their bytes are, where each is read back
all-taken : (ks ns os ss bs es ds xs : List ℕ) (kind n o s b x : ℕ) (d : List ℕ)
    → ((ys : List ℕ) → taken_number (ks ++ ys) ≡ (kind, ys)) → ((ys : List ℕ) → taken_number (ns ++ ys) ≡ (n, ys))
    → ((ys : List ℕ) → taken_number (os ++ ys) ≡ (o, ys)) → ((ys : List ℕ) → taken_number (ss ++ ys) ≡ (s, ys))
    → ((ys : List ℕ) → taken_number (bs ++ ys) ≡ (b, ys)) → ((ys : List ℕ) → taken_number (es ++ ys) ≡ (x, ys))
    → ((ys : List ℕ) → taken_digest kind (ds ++ ys) ≡ (d, ys))
    → taken_packed ((ks ++ ns ++ os ++ ss ++ bs ++ es ++ ds) ++ xs)
    ≡ (record { kind = kind; n = n; key = record { offset = turned_back o; size = turned_back s; birth = b }; extra = x; digest = record { 0 = d } }, xs)
all-taken ks ns os ss bs es ds xs kind n o s b x d hk hn ho hs hb he hd =
    rw (append_assoc (ks ++ ns ++ os ++ ss ++ bs ++ es) ds xs, append_assoc (ks ++ ns ++ os ++ ss ++ bs) es (ds ++ xs), append_assoc (ks ++ ns ++ os ++ ss) bs (es ++ (ds ++ xs)), append_assoc (ks ++ ns ++ os) ss (bs ++ (es ++ (ds ++ xs))), append_assoc (ks ++ ns) os (ss ++ (bs ++ (es ++ (ds ++ xs)))), append_assoc ks ns (os ++ (ss ++ (bs ++ (es ++ (ds ++ xs))))))
    (rw (hk (ns ++ (os ++ (ss ++ (bs ++ (es ++ (ds ++ xs))))))) (rw (hn (os ++ (ss ++ (bs ++ (es ++ (ds ++ xs)))))) (rw (ho (ss ++ (bs ++ (es ++ (ds ++ xs))))) (rw (hs (bs ++ (es ++ (ds ++ xs)))) (rw (hb (es ++ (ds ++ xs))) (rw (he (ds ++ xs)) (rw (hd xs) refl)))))))

-- a kind without a digest has zeros in its place
packed-plain : (e : Event) → has_digest (packed_of e).kind ≡ false → (packed_of e).digest.0 ≡ replicate 32 0
packed-plain (Arrive n k d from) is = absurd (true≢false is)
packed-plain (Past n k kept) is = absurd (true≢false is)
packed-plain (Insert n k d t) is = absurd (true≢false is)
packed-plain (Restore n k place (Some d)) is = absurd (true≢false is)
packed-plain (Restore n k place None) is = refl
packed-plain (Pass n k owner) is = refl
packed-plain (Hit n k t) is = refl
packed-plain (Miss n k t) is = refl
packed-plain (Fail n k at) is = refl
packed-plain (Drop n k) is = refl
packed-plain (Hand n k to) is = refl
packed-plain (Release n k sole) is = refl
packed-plain (Pick n k) is = refl
packed-plain (FeedEnd n) is = refl
packed-plain (Set n k place) is = refl
packed-plain (Leave n k reason) is = refl
packed-plain (Clear n k) is = refl
packed-plain (Resize n c) is = refl

kind-fits : (e : Event) → (packed_of e).kind < 2 ^ 64
kind-fits (Arrive n k d from) = omega arith
kind-fits (Past n k kept) = omega arith
kind-fits (Insert n k d t) = omega arith
kind-fits (Restore n k place (Some d)) = omega arith
kind-fits (Restore n k place None) = omega arith
kind-fits (Pass n k owner) = omega arith
kind-fits (Hit n k t) = omega arith
kind-fits (Miss n k t) = omega arith
kind-fits (Fail n k at) = omega arith
kind-fits (Drop n k) = omega arith
kind-fits (Hand n k to) = omega arith
kind-fits (Release n k sole) = omega arith
kind-fits (Pick n k) = omega arith
kind-fits (FeedEnd n) = omega arith
kind-fits (Set n k place) = omega arith
kind-fits (Leave n k reason) = omega arith
kind-fits (Clear n k) = omega arith
kind-fits (Resize n c) = omega arith

packed-taken : (p : Packed) (xs : List ℕ) → p.kind < 2 ^ 64 → p.n < 2 ^ 64 → p.key.offset < 2 ^ 64 → p.key.size < 2 ^ 64 → p.key.birth < 2 ^ 64 → p.extra < 2 ^ 64
    → length p.digest.0 ≡ 32 → (has_digest p.kind ≡ false → p.digest.0 ≡ replicate 32 0) → taken_packed (packed_bytes p ++ xs) ≡ (p, xs)
packed-taken p xs kind n offset size birth extra long plain =
    let taken = all-taken (number_bytes p.kind) (number_bytes p.n) (number_bytes (turned p.key.offset)) (number_bytes (turned p.key.size)) (number_bytes p.key.birth) (number_bytes p.extra) (digest_bytes p) xs
    p.kind p.n (turned p.key.offset) (turned p.key.size) p.key.birth p.extra p.digest.0
    (λ ys. number-taken p.kind ys kind) (λ ys. number-taken p.n ys n) (λ ys. number-taken (turned p.key.offset) ys (turned-fits p.key.offset offset))
    (λ ys. number-taken (turned p.key.size) ys (turned-fits p.key.size size)) (λ ys. number-taken p.key.birth ys birth) (λ ys. number-taken p.extra ys extra)
    (λ ys. digest-taken p.kind p.digest.0 ys long plain) in
    taken ∙ rw (turned-back p.key.offset offset, turned-back p.key.size size) refl

-- the event at the front is read back
pub event-taken : (e : Event) (xs : List ℕ) → IsPackable e → taken_packed (packed_bytes (packed_of e) ++ xs) ≡ (packed_of e, xs)
event-taken e xs can = packed-taken (packed_of e) xs (kind-fits e) can.n can.offset can.size can.birth can.extra can.digest (packed-plain e)

-- ---- lists of events

pub all-read : (es : List Event) (xs : List ℕ) → AllByRecursion IsPackable es → events_in (length es) (bytes_of es ++ xs) ≡ es
all-read [] xs all = refl
all-read (e ∷ es) xs all =
    let assoc : (packed_bytes (packed_of e) ++ bytes_of es) ++ xs ≡ packed_bytes (packed_of e) ++ (bytes_of es ++ xs) = append_assoc (packed_bytes (packed_of e)) (bytes_of es) xs in
    let taken : taken_packed (packed_bytes (packed_of e) ++ (bytes_of es ++ xs)) ≡ (packed_of e, bytes_of es ++ xs) = event-taken e (bytes_of es ++ xs) all.0 in
    let front : event_of (packed_of e) ≡ e = (all.0).back in
    let rest : events_in (length es) (bytes_of es ++ xs) ≡ es = all-read es xs all.1 in
    let read = ap (λ t. event_of t.0 ∷ events_in (length es) t.1) (ap taken_packed assoc ∙ taken) in
    read ∙ rw (front, rest) refl

pub all-bytes : (es : List Event) (e : Event) → bytes_of (es ++ e ∷ []) ≡ bytes_of es ++ packed_bytes (packed_of e)
all-bytes [] e = append-nil (packed_bytes (packed_of e))
all-bytes (x ∷ es) e = ap (λ ys. packed_bytes (packed_of x) ++ ys) (all-bytes es e) ∙ sym (append_assoc (packed_bytes (packed_of x)) (bytes_of es) (packed_bytes (packed_of e)))

pub all-packable : (es : List Event) (e : Event) → AllByRecursion IsPackable es → IsPackable e → AllByRecursion IsPackable (es ++ e ∷ [])
all-packable [] e all can = (can, tt)
all-packable (x ∷ es) e all can = (all.0, all-packable es e all.1 can)

pub length-events : (n : ℕ) (xs : List ℕ) → length (events_in n xs) ≡ n
length-events zero xs = refl
length-events (suc n) xs = ap suc (length-events n (taken_packed xs).1)

-- one event more
pub events-pushed : (n : ℕ) (bytes : List ℕ) (e : Event) → bytes ≡ bytes_of (events_in n bytes) → AllByRecursion IsPackable (events_in n bytes) → IsPackable e
    → events_in (n + 1) (bytes ++ packed_bytes (packed_of e)) ≡ events_in n bytes ++ e ∷ []
events-pushed n bytes e spelled all can =
    let es = events_in n bytes in
    let longer = es ++ e ∷ [] in
    let count : length longer ≡ n + 1 = length-append es (e ∷ []) ∙ ap (λ m. m + 1) (length-events n bytes) in
    let text : bytes_of longer ++ [] ≡ bytes ++ packed_bytes (packed_of e) = append-nil (bytes_of longer) ∙ all-bytes es e ∙ ap (λ bs. bs ++ packed_bytes (packed_of e)) (sym spelled) in
    let read : events_in (length longer) (bytes_of longer ++ []) ≡ longer = all-read longer [] (all-packable es e all can) in
    subst (λ m. events_in m (bytes ++ packed_bytes (packed_of e)) ≡ longer) count (subst (λ bs. events_in (length longer) bs ≡ longer) text read)

-- ---- what is left behind events

pub all-bytes-append : (es fs : List Event) → bytes_of (es ++ fs) ≡ bytes_of es ++ bytes_of fs
all-bytes-append [] fs = refl
all-bytes-append (e ∷ es) fs = ap (λ ys. packed_bytes (packed_of e) ++ ys) (all-bytes-append es fs) ∙ sym (append_assoc (packed_bytes (packed_of e)) (bytes_of es) (bytes_of fs))

pub all-item : (es : List Event) (n : ℕ) (d : Event) → n < length es → AllByRecursion IsPackable es → IsPackable (get_or es n d)
all-item [] n d lt all = absurd (omega arith)
all-item (e ∷ es) zero d lt all = all.0
all-item (e ∷ es) (suc n) d lt all = all-item es n d (omega arith) all.1

pub left-behind : (n : ℕ) (es : List Event) → n ≤ length es → AllByRecursion IsPackable es → after_events n (bytes_of es) ≡ bytes_of (drop n es)
left-behind zero es le all = refl
left-behind (suc n) es le all =
    let d = FeedEnd 0 in
    let e = get_or es n d in
    let lt : n < length es = omega arith in
    let before : after_events n (bytes_of es) ≡ bytes_of (drop n es) = left-behind n es (omega arith) all in
    let split : drop n es ≡ e ∷ drop (suc n) es = drop-cons es n d lt in
    let taken : taken_packed (packed_bytes (packed_of e) ++ bytes_of (drop (suc n) es)) ≡ (packed_of e, bytes_of (drop (suc n) es)) = event-taken e (bytes_of (drop (suc n) es)) (all-item es n d lt all) in
    ap (λ xs. (taken_packed xs).1) (before ∙ ap bytes_of split) ∙ ap (λ t. t.1) taken

pub all-taken-front : (n : ℕ) (es : List Event) → AllByRecursion IsPackable es → AllByRecursion IsPackable (take n es)
all-taken-front zero es all = tt
all-taken-front (suc n) [] all = tt
all-taken-front (suc n) (e ∷ es) all = (all.0, all-taken-front n es all.1)

-- the bytes of the events in front, cut off where what is left behind them begins
pub cut-bytes : (n : ℕ) (es : List Event) (bytes : List ℕ) → bytes ≡ bytes_of es → n ≤ length es → AllByRecursion IsPackable es
    → take (length bytes - length (after_events n bytes)) bytes ≡ bytes_of (take n es)
cut-bytes n es bytes spelled le all =
    let front = bytes_of (take n es) in
    let rest = bytes_of (drop n es) in
    let whole : bytes ≡ front ++ rest = spelled ∙ ap bytes_of (sym (take-append-drop n es)) ∙ all-bytes-append (take n es) (drop n es) in
    let behind : after_events n bytes ≡ rest = ap (after_events n) spelled ∙ left-behind n es le all in
    let count : length bytes - length (after_events n bytes) ≡ length front = omega (arith, ap length whole, length-append front rest, ap length behind) in
    ap (λ m. take m bytes) count ∙ ap (take (length front)) whole ∙ take-append_seam front rest

-- and what is read there
pub events-cut : (n : ℕ) (es : List Event) (bytes : List ℕ) → bytes ≡ bytes_of (take n es) → n ≤ length es → AllByRecursion IsPackable es → events_in n bytes ≡ take n es
events-cut n es bytes spelled le all =
    let front = take n es in
    let count : length front ≡ n = omega (arith, length-take n es) in
    let text : bytes_of front ++ [] ≡ bytes = append-nil (bytes_of front) ∙ sym spelled in
    let read : events_in (length front) (bytes_of front ++ []) ≡ front = all-read front [] (all-taken-front n es all) in
    subst (λ m. events_in m bytes ≡ front) count (subst (λ bs. events_in (length front) bs ≡ front) text read)

-- ---- going over events

pub first-event : (n : ℕ) (xs : List ℕ) → 0 < n → events_in n xs ≡ event_of (taken_packed xs).0 ∷ events_in (n - 1) (taken_packed xs).1
first-event zero xs some = absurd (omega arith)
first-event (suc n) xs some =
    let less : suc n - 1 ≡ n = omega arith in
    ap (λ m. event_of (taken_packed xs).0 ∷ events_in m (taken_packed xs).1) (sym less)

pub no-events : (n : ℕ) (xs : List ℕ) → n ≡ 0 → events_in n xs ≡ []
no-events n xs none = ap (λ m. events_in m xs) none

-- what is left behind events is no longer than all
pub rest-short : (n : ℕ) (es : List Event) (bytes : List ℕ) → bytes ≡ bytes_of es → n ≤ length es → AllByRecursion IsPackable es → length (after_events n bytes) ≤ length bytes
rest-short n es bytes spelled le all =
    let front = bytes_of (take n es) in
    let rest = bytes_of (drop n es) in
    let whole : bytes ≡ front ++ rest = spelled ∙ ap bytes_of (sym (take-append-drop n es)) ∙ all-bytes-append (take n es) (drop n es) in
    let behind : after_events n bytes ≡ rest = ap (after_events n) spelled ∙ left-behind n es le all in
    omega (arith, ap length whole, length-append front rest, ap length behind)
