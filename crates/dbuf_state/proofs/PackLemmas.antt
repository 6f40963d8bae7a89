-- An event of a cell that was written as bytes is read back.
use Rattle.std.proofs.Common.{◌≡◌, ℕ, zero, suc, ◌+◌, ◌<◌, ◌≤◌, ◌^◌, Bool, true, false, nat_le, List, [], ◌∷◌, ◌++◌, length, refl, sym, ap, subst, ◌∙◌, append_assoc, length-append, ◌-◌, arith}
use Rattle.std.specs.List.{AllByRecursion}
use Rattle.std.proofs.lemmas.Bool.{lt-ltb, le-leb}
use Rattle.std.proofs.lemmas.List.{append-nil}
use Rattle.std.proofs.Math.Seq.{drop-append_seam, take-append_seam}
use Rattle.blk_ptr.specs.declared.ptr.Ptr.{Ptr}
use Rattle.varint.specs.Number.{number_bytes, taken_number}
use Rattle.varint.proofs.Taken.{bytes-taken, number-taken}
use Rattle.dbuf_state.specs.declared.event.CellEvent.{CellEvent}
use Rattle.dbuf_state.specs.declared.event.CellEvent.TheVariants.{Get, Put, Patch, Pin, Unpin, Load, Evict, Synced, End}
use Rattle.dbuf_state.specs.declared.oid.Oid.{Oid}
use Rattle.dbuf_state.specs.declared.packed.Head.{Head}
use Rattle.dbuf_state.specs.HistoryLog.{bytes_of, events_in}
use Rattle.dbuf_state.specs.Packed.{HeadFits, IsPackable, PtrFits, byte, event_bytes, head_bytes, narrow, no_oid, patch_bytes, ptr_bytes, put_bytes, taken_event, taken_head, taken_patch, taken_put, taken_shown, taken_synced, taken_tail}

narrow-fits : (x : ℕ) → x < 2 ^ 32 → narrow x ≡ x
narrow-fits x fits = rw (lt-ltb x (2 ^ 32) fits) refl

byte-fits : (x : ℕ) → x < 2 ^ 8 → byte x ≡ x
byte-fits x fits = rw (lt-ltb x (2 ^ 8) fits) refl

-- ---- the head

-- four numbers, whatever their bytes are, where each is read back
head_read : (ks ns os bs xs : List ℕ) (kind n o b : ℕ)
    → ((ys : List ℕ) → taken_number (ks ++ ys) ≡ (kind, ys)) → ((ys : List ℕ) → taken_number (ns ++ ys) ≡ (n, ys))
    → ((ys : List ℕ) → taken_number (os ++ ys) ≡ (o, ys)) → ((ys : List ℕ) → taken_number (bs ++ ys) ≡ (b, ys))
    → taken_head ((ks ++ ns ++ os ++ bs) ++ xs) ≡ (record { kind = kind; n = narrow n; at = record { object = o; block = b } }, xs)
head_read ks ns os bs xs kind n o b hk hn ho hb =
    rw (append_assoc (ks ++ ns ++ os) bs xs, append_assoc (ks ++ ns) os (bs ++ xs), append_assoc ks ns (os ++ (bs ++ xs)))
    (rw (hk (ns ++ (os ++ (bs ++ xs)))) (rw (hn (os ++ (bs ++ xs))) (rw (ho (bs ++ xs)) (rw (hb xs) refl))))

head-taken : (kind n : ℕ) (at : Oid) (xs : List ℕ) → kind < 2 ^ 64 → HeadFits n at → taken_head (head_bytes kind n at ++ xs) ≡ (record { kind = kind; n = n; at = at }, xs)
head-taken kind n at xs low fits =
    let wide : n < 2 ^ 64 = omega (arith, fits.n) in
    head_read (number_bytes kind) (number_bytes n) (number_bytes at.object) (number_bytes at.block) xs kind n at.object at.block
    (λ ys. number-taken kind ys low) (λ ys. number-taken n ys wide) (λ ys. number-taken at.object ys fits.object) (λ ys. number-taken at.block ys fits.block)
    ∙ rw (narrow-fits n fits.n) refl

-- an event whose head was read
event_read : (kind n : ℕ) (at : Oid) (xs : List ℕ) → kind < 2 ^ 64 → HeadFits n at → taken_event (head_bytes kind n at ++ xs) ≡ taken_tail (record { kind = kind; n = n; at = at }) xs
event_read kind n at xs low fits = ap (λ t. taken_tail t.0 t.1) (head-taken kind n at xs low fits)

-- ---- what stands behind the head

put-taken : (h : Head) (size fill : ℕ) (xs : List ℕ) → size < 2 ^ 32 → fill < 2 ^ 8 → taken_put h (put_bytes size fill ++ xs) ≡ (Put h.n h.at size fill, xs)
put-taken h size fill xs low small =
    let one : size < 2 ^ 64 = omega (arith, low) in
    let two : fill < 2 ^ 64 = omega (arith, small) in
    rw append_assoc (rw (number-taken size (number_bytes fill ++ xs) one) (rw (number-taken fill xs two) (rw (narrow-fits size low, byte-fits fill small) refl)))

shown-taken : (bytes xs : List ℕ) → length bytes ≤ 64 → taken_shown (length bytes) (bytes ++ xs) ≡ (bytes, xs)
shown-taken bytes xs few =
    let enough : nat_le (length bytes) (length (bytes ++ xs)) ≡ true = le-leb (length bytes) (length (bytes ++ xs)) (omega (arith, length-append bytes xs)) in
    rw (le-leb (length bytes) 64 few, enough, take-append_seam bytes xs, drop-append_seam bytes xs) refl

patch-taken : (h : Head) (from : ℕ) (bytes xs : List ℕ) → from < 2 ^ 32 → length bytes ≤ 64 → taken_patch h (patch_bytes from bytes ++ xs) ≡ (Patch h.n h.at from bytes, xs)
patch-taken h from bytes xs low few =
    let one : from < 2 ^ 64 = omega (arith, low) in
    let two : length bytes < 2 ^ 64 = omega (arith, few) in
    let three : length bytes < 2 ^ 32 = omega (arith, few) in
    rw (append_assoc (number_bytes from ++ number_bytes (length bytes)) bytes xs, append_assoc (number_bytes from) (number_bytes (length bytes)) (bytes ++ xs))
    (rw (number-taken from (number_bytes (length bytes) ++ (bytes ++ xs)) one) (rw (number-taken (length bytes) (bytes ++ xs) two)
    (rw (narrow-fits from low, narrow-fits (length bytes) three) (rw (shown-taken bytes xs few) refl))))

synced-taken : (h : Head) (ptr : Ptr) (held : Bool) (xs : List ℕ) → PtrFits ptr → taken_synced h held (ptr_bytes ptr ++ xs) ≡ (Synced h.n h.at ptr held, xs)
synced-taken h ptr held xs fits =
    let os = number_bytes ptr.key.offset in
    let ss = number_bytes ptr.key.size in
    let bs = number_bytes ptr.key.birth in
    let ds = ptr.digest.0 in
    rw (append_assoc (os ++ ss ++ bs) ds xs, append_assoc (os ++ ss) bs (ds ++ xs), append_assoc os ss (bs ++ (ds ++ xs)))
    (rw (number-taken ptr.key.offset (ss ++ (bs ++ (ds ++ xs))) fits.offset) (rw (number-taken ptr.key.size (bs ++ (ds ++ xs)) fits.size)
    (rw (number-taken ptr.key.birth (ds ++ xs) fits.birth) (rw (bytes-taken ds xs fits.digest) refl))))

-- ---- events

-- the event at the front is read back
pub event-taken : (e : CellEvent) (xs : List ℕ) → IsPackable e → taken_event (event_bytes e ++ xs) ≡ (e, xs)
event-taken (Get n at) xs can = event_read 0 n at xs (omega arith) can
event-taken (Pin n at) xs can = event_read 1 n at xs (omega arith) can
event-taken (Unpin n at) xs can = event_read 2 n at xs (omega arith) can
event-taken (Load n at true) xs can = event_read 9 n at xs (omega arith) can
event-taken (Load n at false) xs can = event_read 3 n at xs (omega arith) can
event-taken (Evict n at) xs can = event_read 4 n at xs (omega arith) can
event-taken (End n) xs can = event_read 5 n no_oid xs (omega arith) can
event-taken (Put n at size fill) xs can =
    ap taken_event (append_assoc (head_bytes 6 n at) (put_bytes size fill) xs) ∙ event_read 6 n at (put_bytes size fill ++ xs) (omega arith) can.0
    ∙ put-taken (record { kind = 6; n = n; at = at }) size fill xs can.1.0 can.1.1
event-taken (Patch n at from bytes) xs can =
    ap taken_event (append_assoc (head_bytes 7 n at) (patch_bytes from bytes) xs) ∙ event_read 7 n at (patch_bytes from bytes ++ xs) (omega arith) can.0
    ∙ patch-taken (record { kind = 7; n = n; at = at }) from bytes xs can.1.0 can.1.1
event-taken (Synced n at ptr true) xs can =
    ap taken_event (append_assoc (head_bytes 10 n at) (ptr_bytes ptr) xs) ∙ event_read 10 n at (ptr_bytes ptr ++ xs) (omega arith) can.0
    ∙ synced-taken (record { kind = 10; n = n; at = at }) ptr true xs can.1
event-taken (Synced n at ptr false) xs can =
    ap taken_event (append_assoc (head_bytes 8 n at) (ptr_bytes ptr) xs) ∙ event_read 8 n at (ptr_bytes ptr ++ xs) (omega arith) can.0
    ∙ synced-taken (record { kind = 8; n = n; at = at }) ptr false xs can.1

-- it has a byte at least
event-some : (e : CellEvent) → 0 < length (event_bytes e)
event-some (Get n at) = omega arith
event-some (Pin n at) = omega arith
event-some (Unpin n at) = omega arith
event-some (Load n at true) = omega arith
event-some (Load n at false) = omega arith
event-some (Evict n at) = omega arith
event-some (End n) = omega arith
event-some (Put n at size fill) = omega arith
event-some (Patch n at from bytes) = omega arith
event-some (Synced n at ptr true) = omega arith
event-some (Synced n at ptr false) = omega arith

-- ---- lists of events

all_read : (es : List CellEvent) (xs : List ℕ) → AllByRecursion IsPackable es → events_in (length es) (bytes_of es ++ xs) ≡ es
all_read [] xs all = refl
all_read (e ∷ es) xs all =
    let taken : taken_event ((event_bytes e ++ bytes_of es) ++ xs) ≡ (e, bytes_of es ++ xs) = ap taken_event (append_assoc (event_bytes e) (bytes_of es) xs) ∙ event-taken e (bytes_of es ++ xs) all.0 in
    ap (λ t. t.0 ∷ events_in (length es) t.1) taken ∙ ap (λ (fs : List CellEvent). e ∷ fs) (all_read es xs all.1)

pub all-bytes : (es : List CellEvent) (e : CellEvent) → bytes_of (es ++ e ∷ []) ≡ bytes_of es ++ event_bytes e
all-bytes [] e = append-nil (event_bytes e)
all-bytes (x ∷ es) e = ap (λ ys. event_bytes x ++ ys) (all-bytes es e) ∙ sym (append_assoc (event_bytes x) (bytes_of es) (event_bytes e))

pub all-packable : (es : List CellEvent) (e : CellEvent) → AllByRecursion IsPackable es → IsPackable e → AllByRecursion IsPackable (es ++ e ∷ [])
all-packable [] e all can = (can, tt)
all-packable (x ∷ es) e all can = (all.0, all-packable es e all.1 can)

pub length-events : (n : ℕ) (xs : List ℕ) → length (events_in n xs) ≡ n
length-events zero xs = refl
length-events (suc n) xs = ap suc (length-events n (taken_event xs).1)

-- events are no more than their bytes
few_events : (es : List CellEvent) → length es ≤ length (bytes_of es)
few_events [] = omega arith
few_events (e ∷ es) = omega (arith, event-some e, few_events es, length-append (event_bytes e) (bytes_of es))

pub events-few : (n : ℕ) (bytes : List ℕ) → bytes ≡ bytes_of (events_in n bytes) → n ≤ length bytes
events-few n bytes spelled = omega (arith, few_events (events_in n bytes), length-events n bytes, ap length spelled)

-- one event more
pub events-pushed : (n : ℕ) (bytes : List ℕ) (e : CellEvent) → bytes ≡ bytes_of (events_in n bytes) → AllByRecursion IsPackable (events_in n bytes) → IsPackable e
    → events_in (n + 1) (bytes ++ event_bytes e) ≡ events_in n bytes ++ e ∷ []
events-pushed n bytes e spelled all can =
    let es = events_in n bytes in
    let longer = es ++ e ∷ [] in
    let count : length longer ≡ n + 1 = length-append es (e ∷ []) ∙ ap (λ m. m + 1) (length-events n bytes) in
    let text : bytes_of longer ++ [] ≡ bytes ++ event_bytes e = append-nil (bytes_of longer) ∙ all-bytes es e ∙ ap (λ bs. bs ++ event_bytes e) (sym spelled) in
    let read : events_in (length longer) (bytes_of longer ++ []) ≡ longer = all_read longer [] (all-packable es e all can) in
    subst (λ m. events_in m (bytes ++ event_bytes e) ≡ longer) count (subst (λ bs. events_in (length longer) bs ≡ longer) text read)

-- ---- going over events

pub first-event : (n : ℕ) (xs : List ℕ) → 0 < n → events_in n xs ≡ (taken_event xs).0 ∷ events_in (n - 1) (taken_event xs).1
first-event zero xs some = absurd (omega arith)
first-event (suc n) xs some =
    let less : suc n - 1 ≡ n = omega arith in
    ap (λ m. (taken_event xs).0 ∷ events_in m (taken_event xs).1) (sym less)
