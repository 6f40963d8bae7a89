-- What the directory's calls keep: no page stands twice, and there is room for all.
use Rattle.std.proofs.Common.{◌≡◌, ℕ, ◌+◌, ◌<◌, ◌≤◌, true, List, length, inl, inr, sym, subst, arith, length-append}
use Rattle.std.proofs.lemmas.Bool.{cases_eq}
use Rattle.arc_paper.specs.Arc.{last_of, stands_in, without}
use Rattle.arc_paper.specs.Bounds.{times_in}
use Rattle.arc_paper.specs.Directory.{IsDirectory, Lists, admitted, copies, count_of, demoted, pages_in, promoted, shortened}
use Rattle.arc_paper.specs.declared.queue.Queue.{Queue}
use Rattle.arc_paper.specs.declared.queue.Queue.TheVariants.{T1, T2, B1, B2}
use Rattle.arc_paper.proofs.Counting.{length-but_last, length-last_of, length-without, one_if-other, one_if-same, times-append, times-cons, times-split, times-without_other, times-without_same, times_of_standing}

at-most-one : (x y a : ℕ) → (y ≡ x → a ≤ 1) → ((y ≡ x → ⊥) → a ≤ 1) → a ≤ 1
at-most-one x y a same other = elim (cases_eq y x) [ inl e ↦ same e | inr differs ↦ other differs ]

-- a page that stands once in a list leaves it one page shorter
once-shorter : (x : ℕ) (xs : List ℕ) → stands_in xs x ≡ true → times_in x xs ≤ 1 → length (without x xs) + 1 ≡ length xs
once-shorter x xs here once = omega (arith, length-without x xs, times_of_standing x xs here)

pub IsDirectory-promoted : (from : Queue) (x : ℕ) (d : Lists) → stands_in (pages_in from d) x ≡ true → IsDirectory d → IsDirectory (promoted from x d)
IsDirectory-promoted T1 x d here kept = let most = kept.once x in record {
  once = λ y. at-most-one x y _
      (λ e. subst (λ z. copies z (promoted T1 x d) ≤ 1) (sym e) (omega (arith, times_of_standing x d.t1 here, times-without_same x d.t1, times-cons x x d.t2, one_if-same x)))
      (λ differs. omega (arith, kept.once y, times-without_other x y d.t1 differs, times-cons y x d.t2, one_if-other x y (λ e. differs (sym e))));
  fits = omega (arith, kept.fits, once-shorter x d.t1 here (omega arith));
}
IsDirectory-promoted T2 x d here kept = let most = kept.once x in record {
  once = λ y. at-most-one x y _
      (λ e. subst (λ z. copies z (promoted T2 x d) ≤ 1) (sym e) (omega (arith, times_of_standing x d.t2 here, times-without_same x d.t2, times-cons x x (without x d.t2), one_if-same x)))
      (λ differs. omega (arith, kept.once y, times-without_other x y d.t2 differs, times-cons y x (without x d.t2), one_if-other x y (λ e. differs (sym e))));
  fits = omega (arith, kept.fits, once-shorter x d.t2 here (omega arith));
}
IsDirectory-promoted B1 x d here kept = let most = kept.once x in record {
  once = λ y. at-most-one x y _
      (λ e. subst (λ z. copies z (promoted B1 x d) ≤ 1) (sym e) (omega (arith, times_of_standing x d.b1 here, times-without_same x d.b1, times-cons x x d.t2, one_if-same x)))
      (λ differs. omega (arith, kept.once y, times-without_other x y d.b1 differs, times-cons y x d.t2, one_if-other x y (λ e. differs (sym e))));
  fits = omega (arith, kept.fits, once-shorter x d.b1 here (omega arith));
}
IsDirectory-promoted B2 x d here kept = let most = kept.once x in record {
  once = λ y. at-most-one x y _
      (λ e. subst (λ z. copies z (promoted B2 x d) ≤ 1) (sym e) (omega (arith, times_of_standing x d.b2 here, times-without_same x d.b2, times-cons x x d.t2, one_if-same x)))
      (λ differs. omega (arith, kept.once y, times-without_other x y d.b2 differs, times-cons y x d.t2, one_if-other x y (λ e. differs (sym e))));
  fits = omega (arith, kept.fits, once-shorter x d.b2 here (omega arith));
}

pub IsDirectory-admitted : (x : ℕ) (d : Lists) → copies x d ≡ 0 → count_of d < d.room → IsDirectory d → IsDirectory (admitted x d)
IsDirectory-admitted x d none room kept = record {
  once = λ y. at-most-one x y _
      (λ e. subst (λ z. copies z (admitted x d) ≤ 1) (sym e) (omega (arith, times-cons x x d.t1, one_if-same x)))
      (λ differs. omega (arith, kept.once y, times-cons y x d.t1, one_if-other x y (λ e. differs (sym e))));
  fits = omega arith;
}

pub IsDirectory-demoted : (queue : Queue) (d : Lists) → IsDirectory d → IsDirectory (demoted queue d)
IsDirectory-demoted T1 d kept = record {
  once = λ y. omega (arith, kept.once y, times-split y d.t1, times-append y (last_of d.t1) d.b1);
  fits = omega (arith, kept.fits, length-last_of d.t1, length-append (last_of d.t1) d.b1);
}
IsDirectory-demoted T2 d kept = record {
  once = λ y. omega (arith, kept.once y, times-split y d.t2, times-append y (last_of d.t2) d.b2);
  fits = omega (arith, kept.fits, length-last_of d.t2, length-append (last_of d.t2) d.b2);
}
IsDirectory-demoted B1 d kept = kept
IsDirectory-demoted B2 d kept = kept

pub IsDirectory-shortened : (queue : Queue) (d : Lists) → IsDirectory d → IsDirectory (shortened queue d)
IsDirectory-shortened T1 d kept = record { once = λ y. omega (arith, kept.once y, times-split y d.t1); fits = omega (arith, kept.fits, length-but_last d.t1) }
IsDirectory-shortened T2 d kept = record { once = λ y. omega (arith, kept.once y, times-split y d.t2); fits = omega (arith, kept.fits, length-but_last d.t2) }
IsDirectory-shortened B1 d kept = record { once = λ y. omega (arith, kept.once y, times-split y d.b1); fits = omega (arith, kept.fits, length-but_last d.b1) }
IsDirectory-shortened B2 d kept = record { once = λ y. omega (arith, kept.once y, times-split y d.b2); fits = omega (arith, kept.fits, length-but_last d.b2) }
