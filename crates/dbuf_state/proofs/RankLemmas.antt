-- Tournaments: what a match played again leaves of them, and that the winner is the least of the leaves.
use Rattle.std.proofs.Common.{◌≡◌, ◌≢◌, ℕ, zero, suc, ◌+◌, ◌-◌, ◌*◌, ◌/◌, ◌<◌, ◌≤◌, Bool, true, false, ◌⊎◌, IsTrue, List, length, drop, set, Option, Some, None, refl, sym, ap, subst, ◌∙◌, inl, inr, arith, length-set, get_or-set_same, get_or-set_other}
use Rattle.std.proofs.lemmas.Bool.Decides.{nat_tests}
use Rattle.std.proofs.lemmas.List.{drop-set-add, drop-set-lt, get_or-drop, length-drop}
use Rattle.dbuf_state.specs.declared.rank.Rank.{Rank}
use Rattle.dbuf_state.specs.Ranks.{IsLeast, IsTournament, IsWon, is_no_later, least, rank_at}

abbrev pub Row : Type 0
Row = List (Option Rank)

-- every match is won but the one that the node at `at` takes part in, and the leaves are as they were
pub record IsReplaying (half at : ℕ) (before nodes : Row) : Type 0 where
  pub even : length nodes ≡ 2 * half
  pub within : at < 2 * half
  pub positive : 0 < at
  pub won : (j : ℕ) → 0 < j → j < half → (2 * j ≡ at → ⊥) → (2 * j + 1 ≡ at → ⊥) → IsWon nodes j
  pub leaves : drop half nodes ≡ drop half before

-- every match from `at` on is won
pub record IsPlaying (half at : ℕ) (before nodes : Row) : Type 0 where
  pub even : length nodes ≡ 2 * half
  pub within : at ≤ half
  pub won : (j : ℕ) → at ≤ j → 0 < j → j < half → IsWon nodes j
  pub leaves : drop half nodes ≡ drop half before

-- a match that is played is won, and so is each one whose three nodes are as they were
won-here : (nodes : Row) (at : ℕ) → at < length nodes → 0 < at → IsWon (set nodes at (least (rank_at nodes (2 * at)) (rank_at nodes (2 * at + 1)))) at
won-here nodes at within positive =
    let left : 2 * at ≢ at = omega arith in
    let right : 2 * at + 1 ≢ at = omega arith in
    let x : Option Rank = least (rank_at nodes (2 * at)) (rank_at nodes (2 * at + 1)) in
    get_or-set_same nodes at x None within
    ∙ sym (ap (λ (z : Option Rank). least z (rank_at (set nodes at x) (2 * at + 1))) (get_or-set_other nodes at (2 * at) x None left)
    ∙ ap (λ (z : Option Rank). least (rank_at nodes (2 * at)) z) (get_or-set_other nodes at (2 * at + 1) x None right))

won-else : (nodes : Row) (at j : ℕ) (x : Option Rank) → j ≢ at → 2 * j ≢ at → 2 * j + 1 ≢ at → IsWon nodes j → IsWon (set nodes at x) j
won-else nodes at j x here left right won =
    get_or-set_other nodes at j x None here
    ∙ won
    ∙ sym (ap (λ z. least z (rank_at (set nodes at x) (2 * j + 1))) (get_or-set_other nodes at (2 * j) x None left)
    ∙ ap (λ z. least (rank_at nodes (2 * j)) z) (get_or-set_other nodes at (2 * j + 1) x None right))

equal_or_not : (a b : ℕ) → (a ≡ b) ⊎ (a ≢ b)
equal_or_not a b = grind (arith, nat_tests)

within_or_past : (a b : ℕ) → (a < b) ⊎ (b ≤ a)
within_or_past a b = grind (arith, nat_tests)

is_true-from : (b : Bool) → b ≡ true → IsTrue b
is_true-from true e = refl
is_true-from false e = cc

-- one match more: the parent's
pub replaying-up : (half at up : ℕ) (before nodes : Row) → IsReplaying half at before nodes → 1 < at → up ≡ at / 2
    → IsReplaying half up before (set nodes up (least (rank_at nodes (2 * up)) (rank_at nodes (2 * up + 1))))
replaying-up half at up before nodes h above is = record {
  even = length-set nodes up _ ∙ h.even;
  within = omega arith;
  positive = omega arith;
  won = λ j positive below left right. elim (equal_or_not j up) [
    | inl same ↦ subst (IsWon (set nodes up (least (rank_at nodes (2 * up)) (rank_at nodes (2 * up + 1))))) (sym same) (won-here nodes up (omega (arith, h.even)) (omega arith))
    | inr differs ↦ won-else nodes up j _ differs left right (h.won j positive below (λ e. differs (omega arith)) (λ e. differs (omega arith)))
  ];
  leaves = drop-set-lt half nodes up _ (omega arith) ∙ h.leaves;
}

pub playing-down : (half at next : ℕ) (before nodes : Row) → IsPlaying half at before nodes → 1 < at → at ≡ next + 1
    → IsPlaying half next before (set nodes next (least (rank_at nodes (2 * next)) (rank_at nodes (2 * next + 1))))
playing-down half at next before nodes h above is = record {
  even = length-set nodes next _ ∙ h.even;
  within = omega (arith, h.within);
  won = λ j from positive below. elim (equal_or_not j next) [
    | inl same ↦ subst (IsWon (set nodes next (least (rank_at nodes (2 * next)) (rank_at nodes (2 * next + 1))))) (sym same) (won-here nodes next (omega (arith, h.even, h.within)) (omega arith))
    | inr differs ↦ won-else nodes next j _ differs (omega arith) (omega arith) (h.won j (omega arith) positive below)
  ];
  leaves = drop-set-lt half nodes next _ (omega (arith, h.within)) ∙ h.leaves;
}

-- ---- the order of ranks

least-left : (a b : Option Rank) → is_no_later (least a b) a ≡ true
least-left None b = refl
least-left (Some a) None = grind (arith, nat_tests)
least-left (Some a) (Some b) = grind (arith, nat_tests)

least-right : (a b : Option Rank) → is_no_later (least a b) b ≡ true
least-right a None = refl
least-right None (Some b) = grind (arith, nat_tests)
least-right (Some a) (Some b) = grind (arith, nat_tests)

no_later-trans : (a b c : Option Rank) → is_no_later a b ≡ true → is_no_later b c ≡ true → is_no_later a c ≡ true
no_later-trans a b None ab bc = refl
no_later-trans a None (Some c) ab bc = cc
no_later-trans None (Some b) (Some c) ab bc = cc
no_later-trans (Some a) (Some b) (Some c) ab bc = grind (arith, nat_tests)

no_later-same : (a : Option Rank) → is_no_later a a ≡ true
no_later-same None = refl
no_later-same (Some a) = grind (arith, nat_tests)

least-either : (a b : Option Rank) → (least a b ≡ a) ⊎ (least a b ≡ b)
least-either None b = inr refl
least-either (Some a) None = inl refl
least-either (Some a) (Some b) = grind (arith, nat_tests)

-- ---- the winner

-- each node is no later than each of its two children, so the first is no later than any node: fuel bounds how far down the node is
root-below : (half : ℕ) (nodes : Row) → IsTournament half nodes → (fuel k : ℕ) → k ≤ fuel → 0 < k → k < 2 * half → is_no_later (rank_at nodes 1) (rank_at nodes k) ≡ true
root-below half nodes h zero k few positive within = absurd (omega arith)
root-below half nodes h (suc fuel) k few positive within = elim (equal_or_not k 1) [
  | inl one ↦ subst (λ z. is_no_later (rank_at nodes 1) (rank_at nodes z) ≡ true) (sym one) (no_later-same (rank_at nodes 1))
  | inr more ↦
      let up : ℕ = k / 2 in
      let above = root-below half nodes h fuel up (omega arith) (omega arith) (omega arith) in
      let won = h.won up (omega arith) (omega arith) in
      no_later-trans _ (rank_at nodes up) _ above (elim (equal_or_not k (2 * up)) [
        | inl even ↦ subst (λ z. is_no_later (rank_at nodes up) (rank_at nodes z) ≡ true) (sym even)
            (subst (λ (z : Option Rank). is_no_later z (rank_at nodes (2 * up)) ≡ true) (sym won) (least-left (rank_at nodes (2 * up)) (rank_at nodes (2 * up + 1))))
        | inr odd ↦
            let is : k ≡ 2 * up + 1 = omega arith in
            subst (λ z. is_no_later (rank_at nodes up) (rank_at nodes z) ≡ true) (sym is)
            (subst (λ (z : Option Rank). is_no_later z (rank_at nodes (2 * up + 1)) ≡ true) (sym won) (least-right (rank_at nodes (2 * up)) (rank_at nodes (2 * up + 1))))
      ])
]

-- each node has the rank of some leaf: fuel bounds how far the leaves are below it
leaf-of : (half : ℕ) (nodes : Row) → IsTournament half nodes → (fuel j : ℕ) → 2 * half ≤ fuel + j → 0 < j → j < 2 * half
    → (k : ℕ) × (k < half) × (rank_at nodes (half + k) ≡ rank_at nodes j)
leaf-of half nodes h zero j few positive within = absurd (omega arith)
leaf-of half nodes h (suc fuel) j few positive within = elim (within_or_past j half) [
  | inr past ↦ (j - half, omega arith, ap (rank_at nodes) (let e : half + (j - half) ≡ j = omega arith in e))
  | inl inner ↦
      let won = h.won j positive inner in
      elim (least-either (rank_at nodes (2 * j)) (rank_at nodes (2 * j + 1))) [
        | inl left ↦ let leaf = leaf-of half nodes h fuel (2 * j) (omega arith) (omega arith) (omega arith) in (leaf.0, leaf.1, leaf.2 ∙ sym (won ∙ left))
        | inr right ↦ let leaf = leaf-of half nodes h fuel (2 * j + 1) (omega arith) (omega arith) (omega arith) in (leaf.0, leaf.1, leaf.2 ∙ sym (won ∙ right))
      ]
]

-- the first node is the least of the leaves
pub winner : (half : ℕ) (nodes : Row) → IsTournament half nodes → 0 < half → IsLeast (rank_at nodes 1) (drop half nodes)
winner half nodes h positive =
    let many : length (drop half nodes) ≡ half = length-drop half nodes ∙ (omega (arith, h.leaves)) in
    let leaf = leaf-of half nodes h (2 * half) 1 (omega arith) (omega arith) (omega arith) in
    record {
      below = λ k within. is_true-from _ (subst (λ (z : Option Rank). is_no_later (rank_at nodes 1) z ≡ true) (sym (get_or-drop half nodes k None))
          (root-below half nodes h (half + k) (half + k) (omega arith) (omega arith) (omega (arith, many))));
      among = λ some. (leaf.0, omega (arith, many, leaf.1), get_or-drop half nodes leaf.0 None ∙ leaf.2);
      none = λ e. absurd (omega (arith, many));
    }

-- no leaves have no winner
pub no_winner : (half : ℕ) (nodes : Row) → IsTournament half nodes → half ≡ 0 → IsLeast None (drop half nodes)
no_winner half nodes h none =
    let many : length (drop half nodes) ≡ 0 = length-drop half nodes ∙ (omega (arith, h.leaves)) in
    record {
      below = λ k within. absurd (omega (arith, many));
      among = λ some. absurd (omega (arith, many));
      none = λ e. refl;
    }

-- the same, at the rank that the code found
pub match_up : (half at up : ℕ) (before nodes : Row) (x : Option Rank) → IsReplaying half at before nodes → 1 < at → up ≡ at / 2
    → x ≡ least (rank_at nodes (2 * up)) (rank_at nodes (2 * up + 1)) → IsReplaying half up before (set nodes up x)
match_up half at up before nodes x h above is found =
    subst (λ (z : Option Rank). IsReplaying half up before (set nodes up z)) (sym found) (replaying-up half at up before nodes h above is)

pub match_down : (half at next : ℕ) (before nodes : Row) (x : Option Rank) → IsPlaying half at before nodes → 1 < at → at ≡ next + 1
    → x ≡ least (rank_at nodes (2 * next)) (rank_at nodes (2 * next + 1)) → IsPlaying half next before (set nodes next x)
match_down half at next before nodes x h above is found =
    subst (λ (z : Option Rank). IsPlaying half next before (set nodes next z)) (sym found) (playing-down half at next before nodes h above is)

-- a tournament in which one leaf is written is one that is being replayed from that leaf on
pub leaf_written : (half at : ℕ) (nodes : Row) (x : Option Rank) → IsTournament half nodes → half ≤ at
    → (j : ℕ) → 0 < j → j < half → (2 * j ≡ at → ⊥) → (2 * j + 1 ≡ at → ⊥) → IsWon (set nodes at x) j
leaf_written half at nodes x h past j positive below left right = won-else nodes at j x (omega arith) left right (h.won j positive below)

-- the leaf that is written is the place of the row
pub row_written : (half place : ℕ) (nodes : Row) (x : Option Rank) → drop half (set nodes (half + place) x) ≡ set (drop half nodes) place x
row_written half place nodes x = drop-set-add half nodes place x

pub winner_read : (half : ℕ) (nodes : Row) (x : Option Rank) → IsTournament half nodes → 0 < half → x ≡ rank_at nodes 1 → IsLeast x (drop half nodes)
winner_read half nodes x h positive read = subst (λ (z : Option Rank). IsLeast z (drop half nodes)) (sym read) (winner half nodes h positive)
