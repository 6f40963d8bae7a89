-- One more entry of a sift.
use Rattle.std.proofs.Common.{◌≡◌, ℕ, ◌+◌, ◌<◌, Bool, true, false, not, cond, List, [], ◌∷◌, ◌++◌, length, take, drop, map, get_or, ap, sym, ◌∙◌, arith, append_assoc}
use Rattle.std.proofs.lemmas.List.{get_or-drop, append-nil, map-append}
use Rattle.std.proofs.lemmas.List.Elements.{filter_more}
use Rattle.std.specs.List.{filter}
use Rattle.l2_ring.specs.declared.live.Written.{Written}
use Rattle.l2_ring.specs.declared.live.Live.{Live}
use Rattle.l2_ring.specs.declared.plan.Plan.{Plan}
use Rattle.l2_ring.specs.Stays.{stays, falls, live_of}

-- an entry of what the sift has not reached is as it was
pub unreached : (xs ys : List Written) (i : ℕ) (d : Written) → drop i ys ≡ drop i xs → get_or ys i d ≡ get_or xs i d
unreached xs ys i d rest =
    let there : (zs : List Written) → get_or (drop i zs) 0 d ≡ get_or zs i d =
    λ zs. let place : i + 0 ≡ i = omega arith in get_or-drop i zs 0 d ∙ ap (λ (n : ℕ). get_or zs n d) place in
    sym (there ys) ∙ ap (λ (zs : List Written). get_or zs 0 d) rest ∙ there xs

fallen : (plan : Plan) (xs : List Written) (i : ℕ) (d x : Written) (b : Bool) → i < length xs → get_or xs i d ≡ x → stays plan x ≡ b
    → map live_of (filter (falls plan) (take (i + 1) xs)) ≡ map live_of (filter (falls plan) (take i xs)) ++ cond (not b) (live_of x ∷ []) []
fallen plan xs i d x true lt e s =
    let p : falls plan (get_or xs i d) ≡ false = ap (λ (w : Written). falls plan w) e ∙ ap not s in
    ap (λ (ws : List Written). map live_of ws) (filter_more (falls plan) xs i d lt ∙ ap (λ (b : Bool). filter (falls plan) (take i xs) ++ cond b (get_or xs i d ∷ []) []) p)
    ∙ map-append live_of (filter (falls plan) (take i xs)) []
fallen plan xs i d x false lt e s =
    let p : falls plan (get_or xs i d) ≡ true = ap (λ (w : Written). falls plan w) e ∙ ap not s in
    ap (λ (ws : List Written). map live_of ws) (filter_more (falls plan) xs i d lt ∙ ap (λ (b : Bool). filter (falls plan) (take i xs) ++ cond b (get_or xs i d ∷ []) []) p)
    ∙ map-append live_of (filter (falls plan) (take i xs)) (get_or xs i d ∷ [])
    ∙ ap (λ (w : Written). map live_of (filter (falls plan) (take i xs)) ++ (live_of w ∷ [])) e

-- an entry that stays adds nothing to what fell
pub fallen_same : (plan : Plan) (xs : List Written) (old now : List Live) (i : ℕ) (d x : Written) → i < length xs → get_or xs i d ≡ x → stays plan x ≡ true
    → now ≡ old ++ map live_of (filter (falls plan) (take i xs)) → now ≡ old ++ map live_of (filter (falls plan) (take (i + 1) xs))
fallen_same plan xs old now i d x lt e s was =
    was ∙ ap (λ (ls : List Live). old ++ ls) (sym (fallen plan xs i d x true lt e s ∙ append-nil (map live_of (filter (falls plan) (take i xs)))))

-- an entry that falls stands behind what fell before
pub fallen_more : (plan : Plan) (xs : List Written) (old was now : List Live) (i : ℕ) (d x : Written) → i < length xs → get_or xs i d ≡ x → stays plan x ≡ false
    → was ≡ old ++ map live_of (filter (falls plan) (take i xs)) → now ≡ was ++ live_of x ∷ [] → now ≡ old ++ map live_of (filter (falls plan) (take (i + 1) xs))
fallen_more plan xs old was now i d x lt e s then push =
    push ∙ ap (λ (ls : List Live). ls ++ live_of x ∷ []) then ∙ append_assoc old (map live_of (filter (falls plan) (take i xs))) (live_of x ∷ [])
    ∙ ap (λ (ls : List Live). old ++ ls) (sym (fallen plan xs i d x false lt e s))
