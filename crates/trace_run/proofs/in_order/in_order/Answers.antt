use Rattle.std.proofs.Common.{◌≡◌, ℕ, ◌+◌, ◌-◌, ◌<◌, ◌≤◌, ◌++◌, ◌∷◌, [], List, Some, None, Vec, Global, vec_len, length, map, get_or, reverse, refl, sym, ap, ◌∙◌, subst, inl, inr, true, arith}
use Rattle.std.proofs.Math.ListN.{set}
use Rattle.std.specs.Prelude.{◌⊎◌, slice_get}
use Rattle.std.proofs.lemmas.List.{get_or-map, length-map, map-set, reverse-append}
use Rattle.std.proofs.lemmas.Option.{slice_get_read}
use Rattle.trace_text.specs.declared.op.Op.{Op}
use Rattle.trace_text.specs.declared.reply.Reply.{Reply}
use Rattle.trace_run.specs.Feeds.{is_feed}
use Rattle.trace_run.specs.Lines.{caller_of}
use Rattle.trace_run.proofs.callers.InOrderLemmas.{ArePlaced, fed-more, feed-no-caller, one-fed-left, one-left, placed-all, placed-more, placed-none}
use Rattle.trace_run.proofs.one_caller.TellLemmas.{some-number}
use Rattle.trace_run.proofs.in_order.in_order.Goals as goal

abbrev lists : List (Vec Reply Global) → List (List Reply)
lists = map (λ (rs : Vec Reply Global). rs.items)

-- the last line that has no reply yet
at-op : (ops : List Op) (lines : ℕ) (op : Op) → 0 < lines → lines ≤ length ops → op ≡ get_or ops (lines - 1) op → slice_get ops (lines - 1) ≡ Some op
at-op ops lines op some_of few is = slice_get_read ops (length ops) (lines - 1) op refl (omega arith) is

-- a caller's line is not nobody's
no-caller : (op : Op) (n : ℕ) → caller_of op ≡ Some n → caller_of op ≡ None → ⊥
no-caller op n of none = cc

-- its caller's list
module _ (ops : List Op) (first : List (List Reply)) (left : List (Vec Reply Global)) (fed rest_fed : List Reply) (lines : ℕ) (placed : List Reply) (op : Op) (some_of : 0 < lines) (here : slice_get ops (lines - 1) ≡ Some op)
    (own : ((n : ℕ) × (caller_of op ≡ Some n) × (n < length first)) ⊎ (is_feed op ≡ true)) (are : ArePlaced ops first (lists left) fed rest_fed lines placed) (caller : ℕ) (of : caller_of op ≡ Some caller) where
  inside : caller < length first
  inside = elim own [
    | inl his ↦ let same = some-number his.0 caller (sym his.1 ∙ of) in let below = his.2 in omega arith
    | inr is ↦ absurd (no-caller op caller of (feed-no-caller op is))
  ]

  within : caller < length left
  within = let a = are.lists in let b = length-map left (λ (rs : Vec Reply Global). rs.items) in let c = inside in omega arith

  are-then : ArePlaced ops first (lists left) fed rest_fed (lines - 1 + 1) placed
  are-then = let one : lines ≡ lines - 1 + 1 = omega arith in subst (λ (n : ℕ). ArePlaced ops first (lists left) fed rest_fed n placed) one are

  its-list : (rs : Vec Reply Global) → rs ≡ get_or left caller rs → get_or (lists left) caller [] ≡ rs.items
  its-list rs at = get_or-map (λ (rs : Vec Reply Global). rs.items) left caller rs [] within ∙ ap (λ (x : Vec Reply Global). x.items) (sym at)

  its-more : (rs rest : Vec Reply Global) (r : Reply) (merged more : List Reply) → rs ≡ get_or left caller rs → rs.items ≡ rest.items ++ r ∷ [] → placed ≡ reverse merged → more ≡ merged ++ r ∷ []
      → ArePlaced ops first (lists (set left caller rest)) fed rest_fed (lines - 1) (reverse more)
  its-more rs rest r merged more at last same pushed =
      subst (λ (x : List (List Reply) × List Reply). ArePlaced ops first x.0 fed rest_fed (lines - 1) x.1)
      (λ i. (
        sym (map-set (λ (rs : Vec Reply Global). rs.items) left caller rest) i,
        (ap (λ (l : List Reply). r ∷ l) same ∙ (sym (reverse-append merged (r ∷ [])) ∙ ap reverse (sym pushed))) i,
      ))
      (placed-more ops first (lists left) fed rest_fed (lines - 1) placed op here caller of inside are-then rest.items r (its-list rs at ∙ last))

  its-one : (rs : Vec Reply Global) → rs ≡ get_or left caller rs → vec_len rs ≡ 0 → ⊥
  its-one rs at none =
      let len = rs.ok.0 in
      let long = ap length (its-list rs at) in
      one-left ops first (lists left) fed rest_fed (lines - 1) placed op here caller of inside are-then (omega arith)

none-more : (ops : List Op) (first left : List (List Reply)) (fed rest_fed : List Reply) (lines : ℕ) (placed : List Reply) → lines ≤ 0 → ArePlaced ops first left fed rest_fed lines placed → ArePlaced ops first left fed rest_fed 0 placed
none-more ops first left fed rest_fed lines placed none are = let zero_left : lines ≡ 0 = omega arith in subst (λ (n : ℕ). ArePlaced ops first left fed rest_fed n placed) zero_left are

-- the feeder's list
module _ (ops : List Op) (first left : List (List Reply)) (fed rest_fed : List Reply) (lines : ℕ) (placed : List Reply) (op : Op) (some_of : 0 < lines) (here : slice_get ops (lines - 1) ≡ Some op)
    (own : ((n : ℕ) × (caller_of op ≡ Some n) × (n < length first)) ⊎ (is_feed op ≡ true)) (are : ArePlaced ops first left fed rest_fed lines placed) (none : caller_of op ≡ None) where
  asks : is_feed op ≡ true
  asks = elim own [
    | inl his ↦ absurd (no-caller op his.0 his.1 none)
    | inr is ↦ is
  ]

  then-are : ArePlaced ops first left fed rest_fed (lines - 1 + 1) placed
  then-are = let one : lines ≡ lines - 1 + 1 = omega arith in subst (λ (n : ℕ). ArePlaced ops first left fed rest_fed n placed) one are

  fed-more-here : (rest : List Reply) (r : Reply) (merged more : List Reply) → rest_fed ≡ rest ++ r ∷ [] → placed ≡ reverse merged → more ≡ merged ++ r ∷ [] → ArePlaced ops first left fed rest (lines - 1) (reverse more)
  fed-more-here rest r merged more last same pushed =
      subst (λ (l : List Reply). ArePlaced ops first left fed rest (lines - 1) l) (ap (λ (l : List Reply). r ∷ l) same ∙ (sym (reverse-append merged (r ∷ [])) ∙ ap reverse (sym pushed)))
      (fed-more ops first left fed rest_fed (lines - 1) placed op here asks then-are rest r last)

  some-fed : length rest_fed ≡ 0 → ⊥
  some-fed gone = one-fed-left ops first left fed rest_fed (lines - 1) placed op here asks then-are gone

pub loop-number-init : goal.loop-number-init
loop-number-init c = rw c.new-merged.ensures.items (placed-none c.args.ops.now _ _ c.requires)

pub index_mut-requires : goal.index_mut-requires
index_mut-requires c =
    let here : slice_get c.args.ops.now (c.loop-number.number - 1) ≡ Some c.index-ops-number.result = at-op c.args.ops.now c.loop-number.number c.index-ops-number.result c.loop-number-test.true c.loop-number.auto.number c.index-ops-number.is in
    let inside = within c.args.ops.now _ c.loop-number.replies.items _ _ c.loop-number.number _ _ c.loop-number-test.true here (c.requires.own _ _ here) c.loop-number.invariant c.in-Some.caller (sym c.caller_of.ensures ∙ c.in-Some.is) in
    let len = c.loop-number.replies.ok.0 in
    omega arith

pub unreachable-requires-in_default-pop-2 : goal.unreachable-requires-in_default-pop-2
unreachable-requires-in_default-pop-2 c =
    let here : slice_get c.args.ops.now (c.loop-number.number - 1) ≡ Some c.index-ops-number.result = at-op c.args.ops.now c.loop-number.number c.index-ops-number.result c.loop-number-test.true c.loop-number.auto.number c.index-ops-number.is in
    its-one c.args.ops.now _ c.loop-number.replies.items _ _ c.loop-number.number _ _ c.loop-number-test.true here (c.requires.own _ _ here) c.loop-number.invariant c.in-Some.caller (sym c.caller_of.ensures ∙ c.in-Some.is) c.index_mut.result.now c.index_mut.ensures.value c.in_default-pop-2.ensures.cases.0

pub loop-number-preserved : goal.loop-number-preserved
loop-number-preserved c =
    let here : slice_get c.args.ops.now (c.loop-number.number - 1) ≡ Some c.index-ops-number.result = at-op c.args.ops.now c.loop-number.number c.index-ops-number.result c.loop-number-test.true c.loop-number.auto.number c.index-ops-number.is in
    its-more c.args.ops.now _ c.loop-number.replies.items _ _ c.loop-number.number _ _ c.loop-number-test.true here (c.requires.own _ _ here) c.loop-number.invariant c.in-Some.caller (sym c.caller_of.ensures ∙ c.in-Some.is) c.index_mut.result.now
    c.pop-in-loop-number.new.self c.in-Some-pop-2.reply c.loop-number.merged.items c.push-in-loop-number.new.self.items c.index_mut.ensures.value c.in-Some-pop-2.ensures.items refl c.in_ok-push-2.ensures.items

-- a feed
pub unreachable-requires : goal.unreachable-requires
unreachable-requires c =
    let here : slice_get c.args.ops.now (c.loop-number.number - 1) ≡ Some c.index-ops-number.result = at-op c.args.ops.now c.loop-number.number c.index-ops-number.result c.loop-number-test.true c.loop-number.auto.number c.index-ops-number.is in
    let none = c.in_default-pop.ensures.cases.0 in
    let long = c.loop-number.fed.ok.0 in
    some-fed c.args.ops.now _ _ _ c.loop-number.fed.items c.loop-number.number _ _ c.loop-number-test.true here (c.requires.own _ _ here) c.loop-number.invariant (sym c.in_default.ensures) (omega (arith, none, long))

pub loop-number-preserved-in_default : goal.loop-number-preserved-in_default
loop-number-preserved-in_default c =
    let here : slice_get c.args.ops.now (c.loop-number.number - 1) ≡ Some c.index-ops-number.result = at-op c.args.ops.now c.loop-number.number c.index-ops-number.result c.loop-number-test.true c.loop-number.auto.number c.index-ops-number.is in
    fed-more-here c.args.ops.now _ _ _ c.loop-number.fed.items c.loop-number.number _ _ c.loop-number-test.true here (c.requires.own _ _ here) c.loop-number.invariant (sym c.in_default.ensures)
    c.pop.new.self.items c.in-Some-pop.reply c.loop-number.merged.items c.push.new.self.items c.in-Some-pop.ensures.items refl c.in_ok-push.ensures.items

pub returns : goal.returns
returns c = rw c.reverse.ensures.items (placed-all c.args.ops.now _ _ _ _ _ (none-more c.args.ops.now _ _ _ _ c.loop-number.number _ c.loop-number-test.false c.loop-number.invariant))
