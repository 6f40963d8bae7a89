-- Lists that are filtered, and the first entry of each key.
use Rattle.std.specs.Prelude.{◌≡◌, List, [], ◌∷◌, ◌++◌, Bool, true, false, not, cond, map, reverse, ◌&&◌}
use Rattle.std.proofs.Common.{refl, sym, ap, ◌∙◌}
use Rattle.std.proofs.lemmas.List.Elements.{filter-append}
use Rattle.std.proofs.lemmas.List.{reverse-append, append-nil, map-append}
use Rattle.std.specs.List.{AllByRecursion, filter}
use Rattle.l2_ring.specs.declared.live.Written.{Written}
use Rattle.l2_dev.specs.Restoring.{firsts, is_same_key}

-- once an element fails the test, all behind it fail it
abbrev pub FailsOn : {X : Type 0} → (X → Bool) → List X → Type 0
FailsOn test [] = Unit {0}
FailsOn test (x ∷ xs) = (test x ≡ false → AllByRecursion (λ y. test y ≡ false) xs) × FailsOn test xs

filter_if : {X : Type 0} (p : X → Bool) (x : X) (xs : List X) (b : Bool) → p x ≡ b → filter p (x ∷ xs) ≡ cond b (x ∷ filter p xs) (filter p xs)
filter_if p x xs b e = ap (λ (t : Bool). cond t (x ∷ filter p xs) (filter p xs)) e

pub filter_yes : {X : Type 0} (p : X → Bool) (x : X) (xs : List X) → p x ≡ true → filter p (x ∷ xs) ≡ x ∷ filter p xs
filter_yes p x xs e = filter_if p x xs true e

pub filter_no : {X : Type 0} (p : X → Bool) (x : X) (xs : List X) → p x ≡ false → filter p (x ∷ xs) ≡ filter p xs
filter_no p x xs e = filter_if p x xs false e

pub filter_none : {X : Type 0} (p : X → Bool) (xs : List X) → AllByRecursion (λ x. p x ≡ false) xs → filter p xs ≡ []
filter_none p [] none = refl
filter_none p (x ∷ xs) none = filter_no p x xs none.0 ∙ filter_none p xs none.1

pub filter_whole : {X : Type 0} (p : X → Bool) (xs : List X) → AllByRecursion (λ x. p x ≡ true) xs → filter p xs ≡ xs
filter_whole p [] all = refl
filter_whole p (x ∷ xs) all = filter_yes p x xs all.0 ∙ ap (λ ys. x ∷ ys) (filter_whole p xs all.1)

pub filter_alike : {X : Type 0} (p q : X → Bool) (xs : List X) → AllByRecursion (λ x. p x ≡ q x) xs → filter p xs ≡ filter q xs
filter_alike p q [] same = refl
filter_alike p q (x ∷ xs) same =
    filter_if p x xs (q x) same.0 ∙ ap (λ ys. cond (q x) (x ∷ ys) ys) (filter_alike p q xs same.1)

filter_both_if : {X : Type 0} (p q : X → Bool) (x : X) (xs : List X) (a b : Bool) → p x ≡ a → q x ≡ b → filter p (filter q xs) ≡ filter (λ y. p y && q y) xs
    → filter p (filter q (x ∷ xs)) ≡ filter (λ y. p y && q y) (x ∷ xs)
filter_both_if p q x xs true true pa qb rest =
    ap (λ ys. filter p ys) (filter_yes q x xs qb) ∙ filter_yes p x (filter q xs) pa ∙ ap (λ ys. x ∷ ys) rest
    ∙ sym (filter_yes (λ y. p y && q y) x xs (ap (λ (t : Bool). t && q x) pa ∙ qb))
filter_both_if p q x xs true false pa qb rest =
    ap (λ ys. filter p ys) (filter_no q x xs qb) ∙ rest ∙ sym (filter_no (λ y. p y && q y) x xs (ap (λ (t : Bool). t && q x) pa ∙ qb))
filter_both_if p q x xs false true pa qb rest =
    ap (λ ys. filter p ys) (filter_yes q x xs qb) ∙ filter_no p x (filter q xs) pa ∙ rest ∙ sym (filter_no (λ y. p y && q y) x xs (ap (λ (t : Bool). t && q x) pa))
filter_both_if p q x xs false false pa qb rest =
    ap (λ ys. filter p ys) (filter_no q x xs qb) ∙ rest ∙ sym (filter_no (λ y. p y && q y) x xs (ap (λ (t : Bool). t && q x) pa))

-- two filters, one behind the other
pub filter_both : {X : Type 0} (p q : X → Bool) (xs : List X) → filter p (filter q xs) ≡ filter (λ y. p y && q y) xs
filter_both p q [] = refl
filter_both p q (x ∷ xs) = filter_both_if p q x xs (p x) (q x) refl refl (filter_both p q xs)

and_swap : (a b : Bool) → (a && b) ≡ (b && a)
and_swap true true = refl
and_swap true false = refl
and_swap false true = refl
and_swap false false = refl

all_swap : {X : Type 0} (p q : X → Bool) (xs : List X) → AllByRecursion (λ y. (p y && q y) ≡ (q y && p y)) xs
all_swap p q [] = tt
all_swap p q (x ∷ xs) = (and_swap (p x) (q x), all_swap p q xs)

pub filter_swap : {X : Type 0} (p q : X → Bool) (xs : List X) → filter p (filter q xs) ≡ filter q (filter p xs)
filter_swap p q xs = filter_both p q xs ∙ filter_alike (λ y. p y && q y) (λ y. q y && p y) xs (all_swap p q xs) ∙ sym (filter_both q p xs)

kept_all_if : {X : Type 0} (P : X → Type 0) (p : X → Bool) (x : X) (xs : List X) (b : Bool) → P x → AllByRecursion P (filter p xs)
    → AllByRecursion P (cond b (x ∷ filter p xs) (filter p xs))
kept_all_if P p x xs true h rest = (h, rest)
kept_all_if P p x xs false h rest = rest

pub filter_all : {X : Type 0} (P : X → Type 0) (p : X → Bool) (xs : List X) → AllByRecursion P xs → AllByRecursion P (filter p xs)
filter_all P p [] all = tt
filter_all P p (x ∷ xs) all = kept_all_if P p x xs (p x) all.0 (filter_all P p xs all.1)

all_passes_if : {X : Type 0} (p : X → Bool) (x : X) (xs : List X) (b : Bool) → p x ≡ b → AllByRecursion (λ x. p x ≡ true) xs → AllByRecursion (λ x. p x ≡ true) (cond b (x ∷ xs) xs)
all_passes_if p x xs true e rest = (e, rest)
all_passes_if p x xs false e rest = rest

pub all_passes : {X : Type 0} (p : X → Bool) (xs : List X) → AllByRecursion (λ x. p x ≡ true) (filter p xs)
all_passes p [] = tt
all_passes p (x ∷ xs) = all_passes_if p x (filter p xs) (p x) refl (all_passes p xs)

pub all_append : {X : Type 0} (P : X → Type 0) (xs ys : List X) → AllByRecursion P xs → AllByRecursion P ys → AllByRecursion P (xs ++ ys)
all_append P [] ys a b = b
all_append P (x ∷ xs) ys a b = (a.0, all_append P xs ys a.1 b)

pub all_left : {X : Type 0} (P : X → Type 0) (xs ys : List X) → AllByRecursion P (xs ++ ys) → AllByRecursion P xs
all_left P [] ys a = tt
all_left P (x ∷ xs) ys a = (a.0, all_left P xs ys a.1)

pub all_right : {X : Type 0} (P : X → Type 0) (xs ys : List X) → AllByRecursion P (xs ++ ys) → AllByRecursion P ys
all_right P [] ys a = a
all_right P (x ∷ xs) ys a = all_right P xs ys a.1

pub all_weaker : {X : Type 0} (P Q : X → Type 0) (xs : List X) → ((x : X) → P x → Q x) → AllByRecursion P xs → AllByRecursion Q xs
all_weaker P Q [] f a = tt
all_weaker P Q (x ∷ xs) f a = (f x a.0, all_weaker P Q xs f a.1)

pub all_two : {X : Type 0} (P Q R : X → Type 0) (xs : List X) → ((x : X) → P x → Q x → R x) → AllByRecursion P xs → AllByRecursion Q xs → AllByRecursion R xs
all_two P Q R [] f a b = tt
all_two P Q R (x ∷ xs) f a b = (f x a.0 b.0, all_two P Q R xs f a.1 b.1)

pub all_map : {X Y : Type 0} (P : Y → Type 0) (f : X → Y) (xs : List X) → AllByRecursion (λ x. P (f x)) xs → AllByRecursion P (map f xs)
all_map P f [] a = tt
all_map P f (x ∷ xs) a = (a.0, all_map P f xs a.1)

pub all_unmap : {X Y : Type 0} (P : Y → Type 0) (f : X → Y) (xs : List X) → AllByRecursion P (map f xs) → AllByRecursion (λ x. P (f x)) xs
all_unmap P f [] a = tt
all_unmap P f (x ∷ xs) a = (a.0, all_unmap P f xs a.1)

map_filter_if : {X Y : Type 0} (f : X → Y) (p : Y → Bool) (x : X) (xs : List X) (b : Bool) → p (f x) ≡ b → map f (filter (λ x. p (f x)) xs) ≡ filter p (map f xs)
    → map f (filter (λ x. p (f x)) (x ∷ xs)) ≡ filter p (map f (x ∷ xs))
map_filter_if f p x xs true e rest =
    ap (λ ys. map f ys) (filter_yes (λ x. p (f x)) x xs e) ∙ ap (λ ys. f x ∷ ys) rest ∙ sym (filter_yes p (f x) (map f xs) e)
map_filter_if f p x xs false e rest =
    ap (λ ys. map f ys) (filter_no (λ x. p (f x)) x xs e) ∙ rest ∙ sym (filter_no p (f x) (map f xs) e)

pub map_filter : {X Y : Type 0} (f : X → Y) (p : Y → Bool) (xs : List X) → map f (filter (λ x. p (f x)) xs) ≡ filter p (map f xs)
map_filter f p [] = refl
map_filter f p (x ∷ xs) = map_filter_if f p x xs (p (f x)) refl (map_filter f p xs)

pub firsts_all : (P : Written → Type 0) (xs : List Written) → AllByRecursion P xs → AllByRecursion P (firsts xs)
firsts_all P [] a = tt
firsts_all P (x ∷ xs) a = (a.0, filter_all P (λ y. not (is_same_key y x)) (firsts xs) (firsts_all P xs a.1))

firsts_kept_if : (test : Written → Bool) (x : Written) (xs : List Written) (b : Bool) → test x ≡ b → (test x ≡ false → AllByRecursion (λ y. test y ≡ false) xs)
    → firsts (filter test xs) ≡ filter test (firsts xs) → firsts (filter test (x ∷ xs)) ≡ filter test (firsts (x ∷ xs))
firsts_kept_if test x xs true e on rest =
    ap (λ ys. firsts ys) (filter_yes test x xs e)
    ∙ ap (λ ys. x ∷ filter (λ y. not (is_same_key y x)) ys) rest
    ∙ ap (λ ys. x ∷ ys) (filter_swap (λ y. not (is_same_key y x)) test (firsts xs))
    ∙ sym (filter_yes test x (filter (λ y. not (is_same_key y x)) (firsts xs)) e)
firsts_kept_if test x xs false e on rest =
    let none = on e in
    ap (λ ys. firsts ys) (filter_no test x xs e ∙ filter_none test xs none)
    ∙ sym (filter_no test x (filter (λ y. not (is_same_key y x)) (firsts xs)) e
    ∙ filter_none test (filter (λ y. not (is_same_key y x)) (firsts xs))
    (filter_all (λ y. test y ≡ false) (λ y. not (is_same_key y x)) (firsts xs) (firsts_all (λ y. test y ≡ false) xs none)))

-- where all behind a failing element fail, the first of each key that pass are the first of those that pass
pub firsts_kept : (test : Written → Bool) (xs : List Written) → FailsOn test xs → firsts (filter test xs) ≡ filter test (firsts xs)
firsts_kept test [] on = refl
firsts_kept test (x ∷ xs) on = firsts_kept_if test x xs (test x) refl on.0 (firsts_kept test xs on.1)

-- the first of each key of a list that begins with another
pub firsts_prefix : (xs ys : List Written) → (more : List Written) × (firsts (xs ++ ys) ≡ firsts xs ++ more)
firsts_prefix [] ys = (firsts ys, refl)
firsts_prefix (x ∷ xs) ys =
    let rest = firsts_prefix xs ys in
    let p : Written → Bool = λ y. not (is_same_key y x) in
    (filter p rest.0, ap (λ zs. x ∷ filter p zs) rest.1 ∙ ap (λ zs. x ∷ zs) (filter-append p (firsts xs) rest.0))

-- what stands in front doesn't matter to what is the same behind
pub firsts_behind : (xs ys zs : List Written) → firsts ys ≡ firsts zs → firsts (xs ++ ys) ≡ firsts (xs ++ zs)
firsts_behind [] ys zs e = e
firsts_behind (x ∷ xs) ys zs e = ap (λ us. x ∷ filter (λ y. not (is_same_key y x)) us) (firsts_behind xs ys zs e)

front_if : {X : Type 0} (p : X → Bool) (x : X) (xs : List X) (b : Bool) → p x ≡ b → (p x ≡ false → AllByRecursion (λ y. p y ≡ false) xs)
    → (rest : List X) × (xs ≡ filter p xs ++ rest) → (rest : List X) × (x ∷ xs ≡ filter p (x ∷ xs) ++ rest)
front_if p x xs true e on rest =
    (rest.0, ap (λ ys. x ∷ ys) rest.1 ∙ ap (λ ys. ys ++ rest.0) (sym (filter_yes p x xs e)))
front_if p x xs false e on rest =
    (x ∷ xs, ap (λ ys. ys ++ (x ∷ xs)) (sym (filter_no p x xs e ∙ filter_none p xs (on e))))

-- what passes is the front of the list
pub filter_front : {X : Type 0} (p : X → Bool) (xs : List X) → FailsOn p xs → (rest : List X) × (xs ≡ filter p xs ++ rest)
filter_front p [] on = ([], refl)
filter_front p (x ∷ xs) on = front_if p x xs (p x) refl on.0 (filter_front p xs on.1)

pub fails_unmap : {X Y : Type 0} (p : Y → Bool) (f : X → Y) (xs : List X) → FailsOn p (map f xs) → FailsOn (λ x. p (f x)) xs
fails_unmap p f [] on = tt
fails_unmap p f (x ∷ xs) on = (λ gone. all_unmap (λ y. p y ≡ false) f xs (on.0 gone), fails_unmap p f xs on.1)

filter_last_if : {X : Type 0} (p : X → Bool) (xs : List X) (x : X) (b : Bool) → p x ≡ b → filter p (xs ++ x ∷ []) ≡ filter p xs ++ cond b (x ∷ []) []
filter_last_if p xs x b e = filter-append p xs (x ∷ []) ∙ ap (λ ys. filter p xs ++ ys) (ap (λ (t : Bool). cond t (x ∷ []) []) e)

reverse_if : {X : Type 0} (p : X → Bool) (x : X) (xs : List X) (b : Bool) → p x ≡ b → filter p (reverse xs) ≡ reverse (filter p xs)
    → filter p (reverse xs ++ x ∷ []) ≡ reverse (filter p (x ∷ xs))
reverse_if p x xs true e rest =
    filter_last_if p (reverse xs) x true e ∙ ap (λ ys. ys ++ x ∷ []) rest ∙ sym (reverse-append (x ∷ []) (filter p xs)) ∙ ap (λ ys. reverse ys) (sym (filter_yes p x xs e))
reverse_if p x xs false e rest =
    filter_last_if p (reverse xs) x false e ∙ append-nil (filter p (reverse xs)) ∙ rest ∙ ap (λ ys. reverse ys) (sym (filter_no p x xs e))

-- a filter of the list from its end
pub filter_reverse : {X : Type 0} (p : X → Bool) (xs : List X) → filter p (reverse xs) ≡ reverse (filter p xs)
filter_reverse p [] = refl
filter_reverse p (x ∷ xs) = ap (λ ys. filter p ys) (reverse-append (x ∷ []) xs) ∙ reverse_if p x xs (p x) refl (filter_reverse p xs)

pub map_reverse : {X Y : Type 0} (f : X → Y) (xs : List X) → map f (reverse xs) ≡ reverse (map f xs)
map_reverse f [] = refl
map_reverse f (x ∷ xs) =
    ap (λ ys. map f ys) (reverse-append (x ∷ []) xs) ∙ map-append f (reverse xs) (x ∷ []) ∙ ap (λ ys. ys ++ f x ∷ []) (map_reverse f xs)
    ∙ sym (reverse-append (f x ∷ []) (map f xs))
