-- The blocks that a sync writes stand one behind the other.
use Rattle.std.proofs.Common.{◌≡◌, ℕ, ◌+◌, List, [], ◌∷◌, ◌++◌, length, take, drop, refl, sym, ap, ◌∙◌, arith, length-append}
use Rattle.std.proofs.lemmas.List.{append_assoc, length-drop, length-take-le, take-append-drop}
use Rattle.std.proofs.Math.Seq.{drop-append_seam}
use Rattle.txg_sync.specs.Items.{at_place, bytes_of_due, items_from, need_of, written_over}
use Rattle.txg_sync.specs.Laws.{BlocksStandInARow, PlacesAddUp, all_bytes}
use Rattle.vdev_io.specs.Device.{put}

take-seam : (xs ys : List ℕ) → take (length xs) (xs ++ ys) ≡ xs
take-seam [] ys = refl
take-seam (x ∷ xs) ys = ap (λ (l : List ℕ). x ∷ l) (take-seam xs ys)

none-left : (xs : List ℕ) → length xs ≡ 0 → xs ≡ []
none-left [] h = refl
none-left (x ∷ xs) h = absurd (omega arith)

-- what is put behind a front replaces as many bytes
put-behind : (front bytes part rest : List ℕ) → length part ≡ length bytes → put (length front) bytes ((front ++ part) ++ rest) ≡ (front ++ bytes) ++ rest
put-behind front bytes part rest same =
    let first : take (length front) ((front ++ part) ++ rest) ≡ front = ap (take (length front)) (append_assoc front part rest) ∙ take-seam front (part ++ rest) in
    let len : length front + length bytes ≡ length (front ++ part) = let a = length-append front part in omega arith in
    let last : drop (length front + length bytes) ((front ++ part) ++ rest) ≡ rest = ap (λ (n : ℕ). drop n ((front ++ part) ++ rest)) len ∙ drop-append_seam (front ++ part) rest in
    λ z. (first z ++ bytes) ++ last z

pub in-a-row : BlocksStandInARow
in-a-row held group next cells [] front part rest at_front sized = ap (λ (l : List ℕ). (front ++ l) ++ rest) (none-left part sized)
in-a-row held group next cells (due ∷ dues) front part rest at_front sized =
    let b : List ℕ = bytes_of_due cells due in
    let one : List ℕ = take (length b) part in
    let left : List ℕ = drop (length b) part in
    let whole : one ++ left ≡ part = take-append-drop (length b) part in
    let len-one : length one ≡ length b = length-take-le (length b) part (omega arith) in
    let len-left : length left ≡ need_of cells dues = let a = length-drop (length b) part in omega arith in
    let image : (front ++ part) ++ rest ≡ (front ++ one) ++ (left ++ rest) =
    ap (λ (l : List ℕ). (front ++ l) ++ rest) (sym whole) ∙ (ap (λ (l : List ℕ). l ++ rest) (sym (append_assoc front one left)) ∙ append_assoc (front ++ one) left rest) in
    let wrote : put next b ((front ++ part) ++ rest) ≡ ((front ++ b) ++ left) ++ rest =
    ap (put next b) image ∙ (ap (λ (n : ℕ). put n b ((front ++ one) ++ (left ++ rest))) (sym at_front) ∙ (put-behind front b one (left ++ rest) len-one ∙ sym (append_assoc (front ++ b) left rest))) in
    let front-len : length (front ++ b) ≡ next + length b = let a = length-append front b in omega arith in
    ap (written_over (items_from held group (next + length b) cells dues)) wrote
    ∙ (in-a-row held group (next + length b) cells dues (front ++ b) left rest front-len len-left ∙ ap (λ (l : List ℕ). l ++ rest) (append_assoc front b (all_bytes cells dues)))

pub add-up : PlacesAddUp
add-up held group next cells [] due left =
    let e : next + 0 ≡ next = omega arith in
    λ z. at_place held group (sym e z) cells due ∷ items_from held group (sym e z + length (bytes_of_due cells due)) cells left
add-up held group next cells (d ∷ done) due left =
    let n = length (bytes_of_due cells d) in
    let e : next + n + need_of cells done ≡ next + (n + need_of cells done) = omega arith in
    ap (λ xs. at_place held group next cells d ∷ xs) (add-up held group (next + n) cells done due left
    ∙ (λ z. items_from held group (next + n) cells done ++ at_place held group (e z) cells due ∷ items_from held group (e z + length (bytes_of_due cells due)) cells left))
