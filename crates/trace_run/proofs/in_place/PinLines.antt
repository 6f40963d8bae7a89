-- Where a caller's earlier lines that take pins of a block were done, and are more than those that take one back, the caller has a pin there in the front of the cell's history at which its line looked.
use Rattle.std.proofs.Common.{◌≡◌, ℕ, zero, suc, ◌+◌, ◌≤◌, ◌==◌, ◌&&◌, cond, Bool, true, false, List, [], ◌∷◌, ◌++◌, map, take, Option, Some, None, refl, sym, ap, ◌∙◌, subst, inl, inr, arith}
use Rattle.std.specs.Prelude.{count_by, filter, slice_get}
use Rattle.std.specs.List.{AllByRecursion}
use Rattle.std.proofs.lemmas.List.Sums.{sum_by-append, sum_by-cons}
use mathlib.Core.Logic.{dite}
use native.Mathlib.Decide.{ℕ_discrete}
use Rattle.arc_lists.proofs.Tables.{cases_true}
use Rattle.arc_core.specs.declared.config.Config.{Config}
use Rattle.dbuf_state.specs.History.{Leads}
use Rattle.dbuf_state.specs.Numbers.{number_of}
use Rattle.dbuf_state.specs.Objects.{PlainCell, after, untold}
use Rattle.dbuf_state.specs.Oids.{oid_eq}
use Rattle.dbuf_state.specs.Outline.{is_pin_of, is_unpin_of}
use Rattle.dbuf_state.specs.declared.event.CellEvent.{CellEvent}
use Rattle.dbuf_state.specs.declared.event.CellEvent.TheVariants as events
use Rattle.dbuf_state.specs.declared.oid.Oid.{Oid}
use Rattle.dbuf_state.proofs.IndexLemmas.{and-parts}
use Rattle.dbuf_cells.specs.Places.{cell_of}
use Rattle.trace_text.specs.declared.op.Op.{Op}
use Rattle.trace_text.specs.declared.op.Op.TheVariants as ops
use Rattle.trace_text.specs.declared.reply.Reply.{Reply}
use Rattle.trace_text.specs.declared.reply.Reply.TheVariants as replies
use Rattle.trace_run.specs.Answers.{is_refusal}
use Rattle.trace_run.specs.Deeds.{events_of_cell, noted_in}
use Rattle.trace_run.specs.InPlace.{is_pin_by, is_unpin_by}
use Rattle.trace_run.specs.Lines.{is_of_caller}
use Rattle.trace_run.specs.RunWork.{lines_of_caller}
use Rattle.trace_run.specs.callers.WorkLines.{AreLinesOf, IsWorkOf, NotesLine, noted_of_work}
use Rattle.trace_run.specs.dbufs.CellEnds.{done_by}
use Rattle.trace_run.specs.dbufs.Objects.{Brought, Line, Loaded, NotesOwn, Nothing, OwnEvent, Refused, Work, gives_hold, loads_of, no_work, ops_of}
use Rattle.trace_run.proofs.deeds.NotedCells.{cell-append, noted-else, noted-here}
use Rattle.trace_run.proofs.in_place.Mapped.{oid-is}

-- ---- lists

counted : {X : Type 0} (p : X → Bool) (x : X) (xs : List X) → count_by p (x ∷ xs) ≡ cond {A = ℕ} (p x) 1 0 + count_by p xs
counted {X} p x xs = sum_by-cons (λ (y : X). cond {A = ℕ} (p y) 1 0) x xs

counted-two : {X : Type 0} (p : X → Bool) (xs ys : List X) → count_by p (xs ++ ys) ≡ count_by p xs + count_by p ys
counted-two {X} p xs ys = sum_by-append (λ (y : X). cond {A = ℕ} (p y) 1 0) xs ys

one-if : (b : Bool) → b ≡ false → cond {A = ℕ} b 1 0 ≡ 0
one-if b is = ap (λ (c : Bool). cond {A = ℕ} c 1 0) is

-- where all that pass one test pass another one, the first counts the same among those
counted-filter : {X : Type 0} (p q : X → Bool) (xs : List X) → ((x : X) → q x ≡ false → p x ≡ false) → count_by p (filter q xs) ≡ count_by p xs
counted-filter p q [] only = refl
counted-filter p q (x ∷ xs) only =
    let rest = counted-filter p q xs only in
    let more = counted p x xs in
    elim (cases_true (q x)) [
      | inl kept ↦ let first = counted p x (filter q xs) in rw kept (omega (arith, rest, more, first))
      | inr left ↦ let none = one-if (p x) (only x left) in rw left (omega (arith, rest, more, none))
    ]

-- a front of what leads somewhere leads somewhere
pub leads-front : (c end : PlainCell) (es fs : List CellEvent) (bases : List (List ℕ)) → Leads c (es ++ fs) bases end → (xs : List (List ℕ)) × (mid : PlainCell) × Leads c es xs mid
leads-front c end [] fs bases leads = ([], c, (refl, refl))
leads-front c end (e ∷ es) fs bases leads =
    let base : List ℕ = leads.1.0 in
    let more = leads-front (after base c e) end es fs leads.1.1 leads.1.4 in
    (untold c e base ++ more.0, more.1, (leads.0, (base, more.0, refl, leads.1.3, more.2)))

-- ---- lines by their places

pub op-at : (os : List Op) (rs : List Reply) (ls : List Line) → AreLinesOf os rs ls → (j : ℕ) (l : Line) → slice_get ls j ≡ Some l → (slice_get os j ≡ Some l.op) × (slice_get rs j ≡ Some l.reply)
op-at [] [] [] are j l at = absurd (let clash : ◌≡◌ {A = Option Line} None (Some l) = at in cc)
op-at [] [] (x ∷ ls) are j l at = absurd are
op-at [] (r ∷ rs) ls are j l at = absurd are
op-at (o ∷ os) [] ls are j l at = absurd are
op-at (o ∷ os) (r ∷ rs) [] are j l at = absurd are
op-at (o ∷ os) (r ∷ rs) (x ∷ ls) are zero l at =
    let same : x ≡ l = cc in
    ((λ i. Some ((sym are.0 ∙ ap (λ (y : Line). y.op) same) i)), (λ i. Some ((sym are.1 ∙ ap (λ (y : Line). y.reply) same) i)))
op-at (o ∷ os) (r ∷ rs) (x ∷ ls) are (suc j) l at = op-at os rs ls are.2 j l at

pub ops-taken : (os : List Op) (rs : List Reply) (ls : List Line) → AreLinesOf os rs ls → (k : ℕ) → take k os ≡ ops_of (take k ls)
ops-taken os rs ls are zero = refl
ops-taken [] [] [] are (suc k) = refl
ops-taken [] [] (x ∷ ls) are (suc k) = absurd are
ops-taken [] (r ∷ rs) ls are (suc k) = absurd are
ops-taken (o ∷ os) [] ls are (suc k) = absurd are
ops-taken (o ∷ os) (r ∷ rs) [] are (suc k) = absurd are
ops-taken (o ∷ os) (r ∷ rs) (x ∷ ls) are (suc k) = let rest = ops-taken os rs ls are.2 k in (λ i. sym are.0 i ∷ rest i)

pub all-taken : (P : Line → Type 0) (ls : List Line) (k : ℕ) → ((j : ℕ) (l : Line) → slice_get ls j ≡ Some l → P l) → AllByRecursion P (take k ls)
all-taken P ls zero each = tt
all-taken P [] (suc k) each = tt
all-taken P (x ∷ ls) (suc k) each = (each 0 x refl, all-taken P ls k (λ j l at. each (suc j) l at))

-- ---- a number's pins are among what it did

module _ (n : ℕ) (at : Oid) where
  pin-his : (e : CellEvent) → (number_of e == n) ≡ false → is_pin_of n at e ≡ false
  pin-his (events.Pin m b) other = let his : (m == n) ≡ false = other in rw his refl
  pin-his (events.Get m b) other = refl
  pin-his (events.Put m b size fill) other = refl
  pin-his (events.Patch m b from bytes) other = refl
  pin-his (events.Unpin m b) other = refl
  pin-his (events.Load m b held) other = refl
  pin-his (events.Evict m b) other = refl
  pin-his (events.Synced m b ptr held) other = refl
  pin-his (events.End m) other = refl

  unpin-his : (e : CellEvent) → (number_of e == n) ≡ false → is_unpin_of n at e ≡ false
  unpin-his (events.Unpin m b) other = let his : (m == n) ≡ false = other in rw his refl
  unpin-his (events.Get m b) other = refl
  unpin-his (events.Put m b size fill) other = refl
  unpin-his (events.Patch m b from bytes) other = refl
  unpin-his (events.Pin m b) other = refl
  unpin-his (events.Load m b held) other = refl
  unpin-his (events.Evict m b) other = refl
  unpin-his (events.Synced m b ptr held) other = refl
  unpin-his (events.End m) other = refl

  pub pins-done : (es : List CellEvent) → count_by (is_pin_of n at) (done_by n es) ≡ count_by (is_pin_of n at) es
  pins-done es = counted-filter (is_pin_of n at) (λ e. number_of e == n) es pin-his

  pub unpins-done : (es : List CellEvent) → count_by (is_unpin_of n at) (done_by n es) ≡ count_by (is_unpin_of n at) es
  unpins-done es = counted-filter (is_unpin_of n at) (λ e. number_of e == n) es unpin-his

  pin-line-his : (o : Op) → is_of_caller n o ≡ false → is_pin_by n at o ≡ false
  pin-line-his (ops.Pin m t b) other = let his : (m == n) ≡ false = other in rw his refl
  pin-line-his (ops.Read m t x w) other = refl
  pin-line-his (ops.Hold m t x) other = refl
  pin-line-his (ops.Drop m x) other = refl
  pin-line-his (ops.Get m t b w) other = refl
  pin-line-his (ops.Put m t b size fill) other = refl
  pin-line-his (ops.Patch m t b from bytes) other = refl
  pin-line-his (ops.Unpin m b) other = refl
  pin-line-his ops.Feed other = refl
  pin-line-his (ops.Txg t) other = refl
  pin-line-his (ops.Cap c) other = refl

  unpin-line-his : (o : Op) → is_of_caller n o ≡ false → is_unpin_by n at o ≡ false
  unpin-line-his (ops.Unpin m b) other = let his : (m == n) ≡ false = other in rw his refl
  unpin-line-his (ops.Read m t x w) other = refl
  unpin-line-his (ops.Hold m t x) other = refl
  unpin-line-his (ops.Drop m x) other = refl
  unpin-line-his (ops.Get m t b w) other = refl
  unpin-line-his (ops.Put m t b size fill) other = refl
  unpin-line-his (ops.Patch m t b from bytes) other = refl
  unpin-line-his (ops.Pin m t b) other = refl
  unpin-line-his ops.Feed other = refl
  unpin-line-his (ops.Txg t) other = refl
  unpin-line-his (ops.Cap c) other = refl

-- ---- lines, one after another

module _ (n i : ℕ) (p : CellEvent → Bool) (q : Op → Bool) (le : ℕ → ℕ → Type 0) (none : le 0 0) (plus : (a b c d : ℕ) → le a b → le c d → le (a + c) (b + d))
    (only : (o : Op) → is_of_caller n o ≡ false → q o ≡ false) where
  abbrev IsCounted : Line → Type 0
  IsCounted l = is_of_caller n l.op ≡ true → le (count_by p (events_of_cell i l.work.noted)) (cond {A = ℕ} (q l.op) 1 0)

  lines-counted : (ls : List Line) → AllByRecursion IsCounted ls → le (count_by p (events_of_cell i (noted_of_work (lines_of_caller n ls)))) (count_by q (ops_of ls))
  lines-counted [] all = none
  lines-counted (l ∷ ls) all =
      let rest = lines-counted ls all.1 in
      let more : count_by q (ops_of (l ∷ ls)) ≡ cond {A = ℕ} (q l.op) 1 0 + count_by q (ops_of ls) = counted q l.op (ops_of ls) in
      elim (cases_true (is_of_caller n l.op)) [
        | inl his ↦
            let later : List CellEvent = events_of_cell i (noted_of_work (lines_of_caller n ls)) in
            let both : count_by p (events_of_cell i (l.work.noted ++ noted_of_work (lines_of_caller n ls))) ≡ count_by p (events_of_cell i l.work.noted) + count_by p later =
            ap (count_by p) (cell-append i l.work.noted (noted_of_work (lines_of_caller n ls))) ∙ counted-two p (events_of_cell i l.work.noted) later in
            let sums = plus _ _ _ _ (all.0 his) rest in
            rw his (subst (λ (x : ℕ × ℕ). le x.0 x.1) (λ j. (sym both j, sym more j)) sums)
        | inr other ↦
            let c = one-if (q l.op) (only l.op other) in
            let same : count_by q (ops_of ls) ≡ count_by q (ops_of (l ∷ ls)) = omega (arith, more, c) in
            rw other (subst (λ (x : ℕ). le (count_by p (events_of_cell i (noted_of_work (lines_of_caller n ls)))) x) same rest)
      ]

-- ---- one line

module _ (g : Config) (n : ℕ) (at : Oid) (p : CellEvent → Bool) (loads : (m : ℕ) (b : Oid) (held : Bool) → p (events.Load m b held) ≡ false) (evicts : (m : ℕ) (b : Oid) → p (events.Evict m b) ≡ false) where
  abbrev here : ℕ
  here = cell_of g.cells at

  none-loaded : (b : Oid) (brought : Brought) → count_by p (loads_of n b brought) ≡ 0
  none-loaded b Nothing = refl
  none-loaded b (Loaded ptr from) = let more = counted p (events.Load n b (gives_hold from)) [] in let c = one-if (p (events.Load n b (gives_hold from))) (loads n b (gives_hold from)) in omega (arith, more, c)
  none-loaded b (Refused ptr) = refl

  none-evicted : (xs : List Oid) → count_by p (map (events.Evict n) xs) ≡ 0
  none-evicted [] = refl
  none-evicted (x ∷ xs) =
      let more = counted p (events.Evict n x) (map (events.Evict n) xs) in
      let c = one-if (p (events.Evict n x)) (evicts n x) in
      let rest = none-evicted xs in
      omega (arith, more, c, rest)

  own-counted : (own : OwnEvent) (work : Work) → NotesOwn g n own work → (p own.event ≡ true → own.at ≡ at) → count_by p (events_of_cell here work.noted) ≡ cond {A = ℕ} (p own.event) 1 0
  own-counted own work notes names = dite (ℕ_discrete (cell_of g.cells own.at) here)
      (λ same.
      let is : events_of_cell here work.noted ≡ all = ap (events_of_cell here) notes.noted ∙ (ap (λ (j : ℕ). events_of_cell j (noted_in (cell_of g.cells own.at) all)) (sym same) ∙ noted-here (cell_of g.cells own.at) all) in
      let a : count_by p (events_of_cell here work.noted) ≡ count_by p all = ap (count_by p) is in
      let b = counted-two p (loads_of n own.at work.brought) (own.event ∷ map (events.Evict n) notes.evictions) in
      let c = counted p own.event (map (events.Evict n) notes.evictions) in
      let d = none-loaded own.at work.brought in
      let e = none-evicted notes.evictions in
      omega (arith, a, b, c, d, e))
      (λ differs.
      let is : events_of_cell here work.noted ≡ [] = ap (events_of_cell here) notes.noted ∙ noted-else (cell_of g.cells own.at) here all differs in
      ap (count_by p) is ∙ sym (one-if (p own.event) (other differs)))
    where
      all : List CellEvent
      all = loads_of n own.at work.brought ++ own.event ∷ map (events.Evict n) notes.evictions

      other : (cell_of g.cells own.at ≡ here → ⊥) → p own.event ≡ false
      other differs = elim (cases_true (p own.event)) [
        | inl passes ↦ absurd (differs (ap (cell_of g.cells) (names passes)))
        | inr fails ↦ fails
      ]

  none-noted : (work : Work) → work.noted ≡ [] → count_by p (events_of_cell here work.noted) ≡ 0
  none-noted work is = ap (λ ns. count_by p (events_of_cell here ns)) is

  -- an answered line counts for what it is, and any one for that at most
  answered-counted : (own : OwnEvent) (work : Work) (reply : Reply) → NotesLine g n own work reply → (p own.event ≡ true → own.at ≡ at) → is_refusal reply ≡ false
      → count_by p (events_of_cell here work.noted) ≡ cond {A = ℕ} (p own.event) 1 0
  answered-counted own work (replies.Got size shown) notes names done = own-counted own work notes names
  answered-counted own work replies.Done notes names done = own-counted own work notes names
  answered-counted own work (replies.Refused refusal) notes names done = absurd (let clash : true ≡ false = done in cc)
  answered-counted own work (replies.Read served digest shown) notes names done = absurd notes
  answered-counted own work (replies.Kept served) notes names done = absurd notes
  answered-counted own work replies.Dropped notes names done = absurd notes
  answered-counted own work (replies.Fed report) notes names done = absurd notes
  answered-counted own work replies.FedNone notes names done = absurd notes
  answered-counted own work (replies.Synced group blocks bytes) notes names done = absurd notes
  answered-counted own work (replies.Capped c) notes names done = absurd notes

  line-few : (own : OwnEvent) (work : Work) (reply : Reply) → NotesLine g n own work reply → (p own.event ≡ true → own.at ≡ at) → count_by p (events_of_cell here work.noted) ≤ cond {A = ℕ} (p own.event) 1 0
  line-few own work (replies.Refused refusal) notes names = let none = none-noted work notes.0 in omega (arith, none)
  line-few own work (replies.Got size shown) notes names = let is = own-counted own work notes names in omega (arith, is)
  line-few own work replies.Done notes names = let is = own-counted own work notes names in omega (arith, is)
  line-few own work (replies.Read served digest shown) notes names = absurd notes
  line-few own work (replies.Kept served) notes names = absurd notes
  line-few own work replies.Dropped notes names = absurd notes
  line-few own work (replies.Fed report) notes names = absurd notes
  line-few own work replies.FedNone notes names = absurd notes
  line-few own work (replies.Synced group blocks bytes) notes names = absurd notes
  line-few own work (replies.Capped c) notes names = absurd notes

module _ (g : Config) (n : ℕ) (at : Oid) where
  names-it : (m : ℕ) (b : Oid) → (m == n && oid_eq at b) ≡ true → b ≡ at
  names-it m b is = sym (oid-is at b (and-parts (m == n) (oid_eq at b) is).1)

  never : (b : Oid) → false ≡ true → b ≡ at
  never b is = absurd (let clash : false ≡ true = is in cc)

  -- a line that takes a pin and is not refused does
  pub pins-line : (op : Op) (reply : Reply) (work : Work) → IsWorkOf g n (record { op = op; reply = reply; work = work }) → ((m t : ℕ) (b : Oid) → op ≡ ops.Pin m t b → is_refusal reply ≡ false)
      → cond {A = ℕ} (is_pin_by n at op) 1 0 ≤ count_by (is_pin_of n at) (events_of_cell (cell_of g.cells at) work.noted)
  pins-line (ops.Pin m t b) reply work f done =
      let is = answered-counted g n at (is_pin_of n at) (λ k c held. refl) (λ k c. refl) (record { at = b; event = events.Pin m b }) work reply f.notes (names-it m b) (done m t b refl) in
      omega (arith, is)
  pins-line (ops.Read m t x w) reply work f done = omega arith
  pins-line (ops.Hold m t x) reply work f done = omega arith
  pins-line (ops.Drop m x) reply work f done = omega arith
  pins-line (ops.Get m t b w) reply work f done = omega arith
  pins-line (ops.Put m t b size fill) reply work f done = omega arith
  pins-line (ops.Patch m t b from bytes) reply work f done = omega arith
  pins-line (ops.Unpin m b) reply work f done = omega arith
  pins-line ops.Feed reply work f done = omega arith
  pins-line (ops.Txg t) reply work f done = omega arith
  pins-line (ops.Cap c) reply work f done = omega arith

  plain-few : (work : Work) → work ≡ no_work → count_by (is_unpin_of n at) (events_of_cell (cell_of g.cells at) work.noted) ≤ 0
  plain-few work is = let none = none-noted g n at (is_unpin_of n at) (λ k c held. refl) (λ k c. refl) work (ap (λ (w : Work). w.noted) is) in omega (arith, none)

  own-few : (own : OwnEvent) (work : Work) (reply : Reply) → NotesLine g n own work reply → (is_unpin_of n at own.event ≡ true → own.at ≡ at)
      → count_by (is_unpin_of n at) (events_of_cell (cell_of g.cells at) work.noted) ≤ cond {A = ℕ} (is_unpin_of n at own.event) 1 0
  own-few = line-few g n at (is_unpin_of n at) (λ k c held. refl) (λ k c. refl)

  -- a line takes at most the pin back that it says
  pub unpins-line : (op : Op) (reply : Reply) (work : Work) → IsWorkOf g n (record { op = op; reply = reply; work = work })
      → count_by (is_unpin_of n at) (events_of_cell (cell_of g.cells at) work.noted) ≤ cond {A = ℕ} (is_unpin_by n at op) 1 0
  unpins-line (ops.Unpin m b) reply work f = own-few (record { at = b; event = events.Unpin m b }) work reply f.notes (names-it m b)
  unpins-line (ops.Get m t b w) reply work f = own-few (record { at = b; event = events.Get m b }) work reply f.notes (never b)
  unpins-line (ops.Put m t b size fill) reply work f = own-few (record { at = b; event = events.Put m b size fill }) work reply f.notes (never b)
  unpins-line (ops.Patch m t b from bytes) reply work f = own-few (record { at = b; event = events.Patch m b from bytes }) work reply f.notes (never b)
  unpins-line (ops.Pin m t b) reply work f = own-few (record { at = b; event = events.Pin m b }) work reply f.notes (never b)
  unpins-line (ops.Read m t x w) reply work f = plain-few work f.notes
  unpins-line (ops.Hold m t x) reply work f = plain-few work f.notes
  unpins-line (ops.Drop m x) reply work f = plain-few work f.notes
  unpins-line ops.Feed reply work f = plain-few work f.notes
  unpins-line (ops.Txg t) reply work f = plain-few work f.notes
  unpins-line (ops.Cap c) reply work f = plain-few work f.notes

  -- ---- all lines before one

  pub pins-more : (ls : List Line) → AllByRecursion (λ l. is_of_caller n l.op ≡ true → cond {A = ℕ} (is_pin_by n at l.op) 1 0 ≤ count_by (is_pin_of n at) (events_of_cell (cell_of g.cells at) l.work.noted)) ls
      → count_by (is_pin_by n at) (ops_of ls) ≤ count_by (is_pin_of n at) (events_of_cell (cell_of g.cells at) (noted_of_work (lines_of_caller n ls)))
  pins-more = lines-counted n (cell_of g.cells at) (is_pin_of n at) (is_pin_by n at) (λ a b. b ≤ a) (omega arith) (λ a b c d x y. omega (arith, x, y)) (pin-line-his n at)

  pub unpins-few : (ls : List Line) → AllByRecursion (λ l. is_of_caller n l.op ≡ true → count_by (is_unpin_of n at) (events_of_cell (cell_of g.cells at) l.work.noted) ≤ cond {A = ℕ} (is_unpin_by n at l.op) 1 0) ls
      → count_by (is_unpin_of n at) (events_of_cell (cell_of g.cells at) (noted_of_work (lines_of_caller n ls))) ≤ count_by (is_unpin_by n at) (ops_of ls)
  unpins-few = lines-counted n (cell_of g.cells at) (is_unpin_of n at) (is_unpin_by n at) (λ a b. a ≤ b) (omega arith) (λ a b c d x y. omega (arith, x, y)) (unpin-line-his n at)
