-- Which word of a command line is the first that is wrong.
use Rattle.std.proofs.Common.{◌≡◌, ℕ, suc, ◌<◌, ◌≤◌, ◌⊎◌, true, false, List, [], ◌∷◌, ◌++◌, length, take, Some, None, codes, refl, sym, ◌∙◌, ap, subst, add-one, arith, inl, inr}
use Rattle.std.specs.Prelude.{slice_get, slice_index, decimal, Result, Ok, Err, IsErrAnd, MatchResult}
use Rattle.trace_run.specs.declared.words.Command.{Command}
use Rattle.trace_run.specs.declared.words.Command.TheVariants.{Run, Gen, Paper, Check}
use Rattle.trace_run.specs.Words.{IsCommand, Begins, IsFirstWrong}

same_head : (a b : List ℕ) (rest others : List (List ℕ)) → a ∷ rest ≡ b ∷ others → a ≡ b
same_head a b rest others e = cc

same_tail : (a b : List ℕ) (rest others : List (List ℕ)) → a ∷ rest ≡ b ∷ others → rest ≡ others
same_tail a b rest others e = cc

same_some : (a b : List ℕ) → Some a ≡ Some b → a ≡ b
same_some a b e = cc

no_some : (a : List ℕ) → None ≡ Some a → ⊥
no_some a e = cc

no_words : (a : List ℕ) (rest : List (List ℕ)) → a ∷ rest ≡ [] → ⊥
no_words a rest e = cc

gen_is_not_run : codes "gen" ≡ codes "run" → ⊥
gen_is_not_run e = let bad : 103 ≡ 114 = ap (λ word. slice_index word 0) e in omega (arith, bad)

paper_is_not_run : codes "paper" ≡ codes "run" → ⊥
paper_is_not_run e = let bad : 112 ≡ 114 = ap (λ word. slice_index word 0) e in omega (arith, bad)

paper_is_not_gen : codes "paper" ≡ codes "gen" → ⊥
paper_is_not_gen e = let bad : 112 ≡ 103 = ap (λ word. slice_index word 0) e in omega (arith, bad)

check_is_not_run : codes "check" ≡ codes "run" → ⊥
check_is_not_run e = let bad : 99 ≡ 114 = ap (λ word. slice_index word 0) e in omega (arith, bad)

check_is_not_gen : codes "check" ≡ codes "gen" → ⊥
check_is_not_gen e = let bad : 99 ≡ 103 = ap (λ word. slice_index word 0) e in omega (arith, bad)

check_is_not_paper : codes "check" ≡ codes "paper" → ⊥
check_is_not_paper e = let bad : 99 ≡ 112 = ap (λ word. slice_index word 0) e in omega (arith, bad)

-- the words of each command behind its first

pub first_word : (word : List ℕ) (rest : List (List ℕ)) (command : Command) → IsCommand (word ∷ rest) command
    → (word ≡ codes "run") ⊎ ((word ≡ codes "gen") ⊎ ((word ≡ codes "paper") ⊎ (word ≡ codes "check")))
first_word word rest (Run events) whole = inl (same_head word _ rest _ whole.0)
first_word word rest (Gen seed blocks ops) whole = inr (inl (same_head word _ rest _ whole.0))
first_word word rest (Paper c) whole = inr (inr (inl (same_head word _ rest _ whole.0)))
first_word word rest Check whole = inr (inr (inr (same_head word _ rest _ whole.0)))

run_words : (rest : List (List ℕ)) (command : Command) → IsCommand (codes "run" ∷ rest) command → (rest ≡ []) ⊎ (rest ≡ codes "--events" ∷ [])
run_words rest (Run true) whole = inr (same_tail _ _ rest _ whole.0)
run_words rest (Run false) whole = inl (same_tail _ _ rest _ whole.0)
run_words rest (Gen seed blocks ops) whole = absurd (gen_is_not_run (sym (same_head _ _ rest _ whole.0)))
run_words rest (Paper c) whole = absurd (paper_is_not_run (sym (same_head _ _ rest _ whole.0)))
run_words rest Check whole = absurd (check_is_not_run (sym (same_head _ _ rest _ whole.0)))

record IsGen (rest : List (List ℕ)) : Type 0 where
  seed : ℕ
  blocks : ℕ
  ops : ℕ
  words : rest ≡ decimal seed ∷ decimal blocks ∷ decimal ops ∷ []
  seed_in : seed ≤ 2147483647
  some_block : 1 ≤ blocks
  blocks_in : blocks ≤ 32768
  ops_in : ops ≤ 1000000

gen_words : (rest : List (List ℕ)) (command : Command) → IsCommand (codes "gen" ∷ rest) command → IsGen rest
gen_words rest (Run events) whole = absurd (gen_is_not_run (same_head _ _ rest _ whole.0))
gen_words rest (Paper c) whole = absurd (paper_is_not_gen (sym (same_head _ _ rest _ whole.0)))
gen_words rest Check whole = absurd (check_is_not_gen (sym (same_head _ _ rest _ whole.0)))
gen_words rest (Gen s b o) whole = record {
  seed = s;
  blocks = b;
  ops = o;
  words = same_tail _ _ rest _ whole.0;
  seed_in = omega (arith, whole.1.0);
  some_block = whole.1.1;
  blocks_in = whole.1.2;
  ops_in = whole.1.3;
}

record IsPaper (rest : List (List ℕ)) : Type 0 where
  c : ℕ
  words : rest ≡ decimal c ∷ []
  some : 1 ≤ c
  most : c ≤ 65536

paper_words : (rest : List (List ℕ)) (command : Command) → IsCommand (codes "paper" ∷ rest) command → IsPaper rest
paper_words rest (Run events) whole = absurd (paper_is_not_run (same_head _ _ rest _ whole.0))
paper_words rest (Gen seed blocks ops) whole = absurd (paper_is_not_gen (same_head _ _ rest _ whole.0))
paper_words rest Check whole = absurd (check_is_not_paper (sym (same_head _ _ rest _ whole.0)))
paper_words rest (Paper k) whole = record { c = k; words = same_tail _ _ rest _ whole.0; some = whole.1.0; most = whole.1.1 }

check_words : (rest : List (List ℕ)) (command : Command) → IsCommand (codes "check" ∷ rest) command → rest ≡ []
check_words rest (Run events) whole = absurd (check_is_not_run (same_head _ _ rest _ whole.0))
check_words rest (Gen seed blocks ops) whole = absurd (check_is_not_gen (same_head _ _ rest _ whole.0))
check_words rest (Paper c) whole = absurd (check_is_not_paper (same_head _ _ rest _ whole.0))
check_words rest Check whole = same_tail _ _ rest _ whole.0

-- what begins a command

begins_nothing : Begins []
begins_nothing = record { rest = codes "run" ∷ []; command = Run false; whole = (refl, tt) }

begins_run : Begins (codes "run" ∷ [])
begins_run = record { rest = []; command = Run false; whole = (refl, tt) }

begins_events : Begins (codes "run" ∷ codes "--events" ∷ [])
begins_events = record { rest = []; command = Run true; whole = (refl, tt) }

begins_gen : Begins (codes "gen" ∷ [])
begins_gen = record {
  rest = decimal 0 ∷ decimal 1 ∷ decimal 0 ∷ [];
  command = Gen 0 1 0;
  whole = (refl, (omega arith, omega arith, omega arith, omega arith));
}

begins_paper : Begins (codes "paper" ∷ [])
begins_paper = record { rest = decimal 1 ∷ []; command = Paper 1; whole = (refl, (omega arith, omega arith)) }

begins_check : Begins (codes "check" ∷ [])
begins_check = record { rest = []; command = Check; whole = (refl, tt) }

begins_capacity : (c : ℕ) → 1 ≤ c → c ≤ 65536 → Begins (codes "paper" ∷ decimal c ∷ [])
begins_capacity c some most = record { rest = []; command = Paper c; whole = (refl, (some, most)) }

begins_seed : (s : ℕ) → s ≤ 2147483647 → Begins (codes "gen" ∷ decimal s ∷ [])
begins_seed s h = record {
  rest = decimal 1 ∷ decimal 0 ∷ [];
  command = Gen s 1 0;
  whole = (refl, (omega arith, omega arith, omega arith, omega arith));
}

begins_blocks : (s b : ℕ) → s ≤ 2147483647 → 1 ≤ b → b ≤ 32768 → Begins (codes "gen" ∷ decimal s ∷ decimal b ∷ [])
begins_blocks s b h some most = record {
  rest = decimal 0 ∷ [];
  command = Gen s b 0;
  whole = (refl, (omega arith, some, most, omega arith));
}

whole_gen : (s b o : ℕ) → s ≤ 2147483647 → 1 ≤ b → b ≤ 32768 → o ≤ 1000000
    → IsCommand (codes "gen" ∷ decimal s ∷ decimal b ∷ decimal o ∷ []) (Gen s b o)
whole_gen s b o h some most few = (refl, (omega arith, some, most, few))

begins_ops : (s b o : ℕ) → s ≤ 2147483647 → 1 ≤ b → b ≤ 32768 → o ≤ 1000000
    → Begins (codes "gen" ∷ decimal s ∷ decimal b ∷ decimal o ∷ [])
begins_ops s b o h some most few = record { rest = []; command = Gen s b o; whole = whole_gen s b o h some most few }

-- the first wrong word stands behind the words that begin a command

take_front : (before rest : List (List ℕ)) → take (length before) (before ++ rest) ≡ before
take_front [] rest = refl
take_front (word ∷ before) rest = ap (λ words. word ∷ words) (take_front before rest)

take_one_more : (before rest : List (List ℕ)) (word : List ℕ) → take (suc (length before)) (before ++ word ∷ rest) ≡ before ++ word ∷ []
take_one_more [] rest word = refl
take_one_more (first ∷ before) rest word = ap (λ words. first ∷ words) (take_one_more before rest word)

longer : (before rest : List (List ℕ)) (word : List ℕ) → length before < length (before ++ word ∷ rest)
longer [] rest word = omega arith
longer (first ∷ before) rest word = omega (arith, longer before rest word)

no_end : (before : List (List ℕ)) → before ++ [] ≡ before
no_end [] = refl
no_end (word ∷ before) = ap (λ words. word ∷ words) (no_end before)

wrong_at : (before rest : List (List ℕ)) → Begins before → ((word : List ℕ) → slice_get rest 0 ≡ Some word → Begins (before ++ word ∷ []) → ⊥)
    → (rest ≡ [] → (command : Command) → IsCommand before command → ⊥) → IsFirstWrong (before ++ rest) (length before)
wrong_at before [] begins wrong more = rw (no_end before) (inr (refl, begins, more refl))
wrong_at before (word ∷ rest) begins wrong more =
    inl (
      longer before rest word,
      subst Begins (sym (take_front before (word ∷ rest))) begins,
      λ goes_on. wrong word refl (subst Begins (ap (λ n. take n (before ++ word ∷ rest)) (add-one (length before)) ∙ take_one_more before rest word) goes_on),
    )

-- the first word

no_command : (command : Command) → IsCommand [] command → ⊥
no_command (Run events) whole = no_words _ _ (sym whole.0)
no_command (Gen seed blocks ops) whole = no_words _ _ (sym whole.0)
no_command (Paper c) whole = no_words _ _ (sym whole.0)
no_command Check whole = no_words _ _ (sym whole.0)

wrong_first : (ws : List (List ℕ)) → ((word : List ℕ) → slice_get ws 0 ≡ Some word → (word ≡ codes "run") ⊎ ((word ≡ codes "gen") ⊎ ((word ≡ codes "paper") ⊎ (word ≡ codes "check"))) → ⊥)
    → IsFirstWrong ws 0
wrong_first ws neither =
    wrong_at [] ws begins_nothing
    (λ word is goes_on. neither word is (first_word word goes_on.rest goes_on.command goes_on.whole))
    (λ empty. no_command)

pub other_word : (ws : List (List ℕ)) (text : List ℕ) → Some text ≡ slice_get ws 0 → (text ≡ codes "run" → ⊥) → (text ≡ codes "gen" → ⊥) → (text ≡ codes "paper" → ⊥)
    → (text ≡ codes "check" → ⊥) → IsFirstWrong ws 0
other_word ws text there not_run not_gen not_paper not_check = wrong_first ws (λ word is which.
    let same : text ≡ word = same_some text word (there ∙ is) in
    elim which [ inl e ↦ not_run (same ∙ e) | inr other ↦ elim other [ inl e ↦ not_gen (same ∙ e) | inr rest ↦ elim rest [ inl e ↦ not_paper (same ∙ e) | inr e ↦ not_check (same ∙ e) ] ] ])

pub no_word : (ws : List (List ℕ)) → None ≡ slice_get ws 0 → IsFirstWrong ws 0
no_word ws none = wrong_first ws (λ word is which. no_some word (none ∙ is))

-- the words behind `run`

pub run_alone : (ws : List (List ℕ)) → slice_get ws 0 ≡ Some (codes "run") → None ≡ slice_get ws 1 → ws ≡ codes "run" ∷ []
run_alone [] first end = absurd (no_some _ first)
run_alone (w ∷ []) first end = rw (same_some w _ first) refl
run_alone (w ∷ x ∷ ws) first end = absurd (no_some x end)

pub run_events : (ws : List (List ℕ)) (text : List ℕ) → slice_get ws 0 ≡ Some (codes "run") → Some text ≡ slice_get ws 1 → text ≡ codes "--events"
    → None ≡ slice_get ws 2 → ws ≡ codes "run" ∷ codes "--events" ∷ []
run_events [] text first second is end = absurd (no_some _ first)
run_events (w ∷ []) text first second is end = absurd (no_some text (sym second))
run_events (w ∷ x ∷ []) text first second is end =
    let same : x ≡ codes "--events" = sym (same_some text x second) ∙ is in
    rw (same_some w _ first, same) refl
run_events (w ∷ x ∷ y ∷ ws) text first second is end = absurd (no_some y end)

is_more : (rest : List (List ℕ)) (text : List ℕ) → Some text ≡ slice_get rest 0 → rest ≡ [] → ⊥
is_more [] text more e = no_some text (sym more)
is_more (x ∷ rest) text more e = no_words x rest e

pub run_second : (ws : List (List ℕ)) (text : List ℕ) → slice_get ws 0 ≡ Some (codes "run") → Some text ≡ slice_get ws 1 → (text ≡ codes "--events" → ⊥)
    → IsFirstWrong ws 1
run_second [] text first second not = absurd (no_some _ first)
run_second (w ∷ rest) text first second not = rw (same_some w _ first) (wrong_at (codes "run" ∷ []) rest begins_run
    (λ word is goes_on. elim (run_words (word ∷ goes_on.rest) goes_on.command goes_on.whole) [
      | inl e ↦ no_words _ _ e
      | inr e ↦ not (same_some text word (second ∙ is) ∙ same_head word _ _ _ e)
    ])
    (λ empty. absurd (is_more rest text second empty)))

pub run_third : (ws : List (List ℕ)) (text more : List ℕ) → slice_get ws 0 ≡ Some (codes "run") → Some text ≡ slice_get ws 1 → text ≡ codes "--events"
    → Some more ≡ slice_get ws 2 → IsFirstWrong ws 2
run_third [] text more first second is third = absurd (no_some _ first)
run_third (w ∷ []) text more first second is third = absurd (no_some text (sym second))
run_third (w ∷ x ∷ rest) text more first second is third =
    let same : x ≡ codes "--events" = sym (same_some text x second) ∙ is in
    rw (same_some w _ first, same) (wrong_at (codes "run" ∷ codes "--events" ∷ []) rest begins_events
    (λ word is goes_on. elim (run_words (codes "--events" ∷ word ∷ goes_on.rest) goes_on.command goes_on.whole) [
      | inl e ↦ no_words _ _ e
      | inr e ↦ no_words _ _ (same_tail _ _ (word ∷ goes_on.rest) [] e)
    ])
    (λ empty. absurd (is_more rest more third empty)))

-- the words behind `gen`

pub gen_seed : (ws : List (List ℕ)) → slice_get ws 0 ≡ Some (codes "gen") → ((n : ℕ) → 0 ≤ n → n ≤ 2147483647 → slice_get ws 1 ≡ Some (decimal n) → ⊥)
    → IsFirstWrong ws 1
gen_seed [] first none = absurd (no_some _ first)
gen_seed (w ∷ rest) first none = rw (same_some w _ first) (wrong_at (codes "gen" ∷ []) rest begins_gen
    (λ word is goes_on. let g = gen_words (word ∷ goes_on.rest) goes_on.command goes_on.whole in
    none g.seed (omega arith) g.seed_in (is ∙ ap Some (same_head word _ _ _ g.words)))
    (λ empty command whole. let g = gen_words [] command whole in no_words _ _ (sym g.words)))

pub gen_blocks : (ws : List (List ℕ)) (s : ℕ) → slice_get ws 0 ≡ Some (codes "gen") → slice_get ws 1 ≡ Some (decimal s) → s ≤ 2147483647
    → ((n : ℕ) → 1 ≤ n → n ≤ 32768 → slice_get ws 2 ≡ Some (decimal n) → ⊥) → IsFirstWrong ws 2
gen_blocks [] s first second fits none = absurd (no_some _ first)
gen_blocks (w ∷ []) s first second fits none = absurd (no_some _ second)
gen_blocks (w ∷ x ∷ rest) s first second fits none =
    rw (same_some w _ first, same_some x _ second) (wrong_at (codes "gen" ∷ decimal s ∷ []) rest (begins_seed s fits)
    (λ word is goes_on. let g = gen_words (decimal s ∷ word ∷ goes_on.rest) goes_on.command goes_on.whole in
    none g.blocks g.some_block g.blocks_in (is ∙ ap Some (same_head word _ _ _ (same_tail _ _ (word ∷ goes_on.rest) _ g.words))))
    (λ empty command whole. let g = gen_words (decimal s ∷ []) command whole in
    no_words _ _ (sym (same_tail _ _ [] _ g.words))))

pub gen_ops : (ws : List (List ℕ)) (s b : ℕ) → slice_get ws 0 ≡ Some (codes "gen") → slice_get ws 1 ≡ Some (decimal s) → s ≤ 2147483647
    → slice_get ws 2 ≡ Some (decimal b) → 1 ≤ b → b ≤ 32768
    → ((n : ℕ) → 0 ≤ n → n ≤ 1000000 → slice_get ws 3 ≡ Some (decimal n) → ⊥) → IsFirstWrong ws 3
gen_ops [] s b first second fits third some most none = absurd (no_some _ first)
gen_ops (w ∷ []) s b first second fits third some most none = absurd (no_some _ second)
gen_ops (w ∷ x ∷ []) s b first second fits third some most none = absurd (no_some _ third)
gen_ops (w ∷ x ∷ y ∷ rest) s b first second fits third some most none =
    rw (same_some w _ first, same_some x _ second, same_some y _ third)
    (wrong_at (codes "gen" ∷ decimal s ∷ decimal b ∷ []) rest (begins_blocks s b fits some most)
    (λ word is goes_on. let g = gen_words (decimal s ∷ decimal b ∷ word ∷ goes_on.rest) goes_on.command goes_on.whole in
    let behind = same_tail _ _ (word ∷ goes_on.rest) _ (same_tail _ _ (decimal b ∷ word ∷ goes_on.rest) _ g.words) in
    none g.ops (omega arith) g.ops_in (is ∙ ap Some (same_head word _ _ _ behind)))
    (λ empty command whole. let g = gen_words (decimal s ∷ decimal b ∷ []) command whole in
    no_words _ _ (sym (same_tail _ _ [] _ (same_tail _ _ (decimal b ∷ []) _ g.words)))))

pub gen_whole : (ws : List (List ℕ)) (s b o : ℕ) → slice_get ws 0 ≡ Some (codes "gen") → slice_get ws 1 ≡ Some (decimal s)
    → slice_get ws 2 ≡ Some (decimal b) → slice_get ws 3 ≡ Some (decimal o) → None ≡ slice_get ws 4
    → ws ≡ codes "gen" ∷ decimal s ∷ decimal b ∷ decimal o ∷ []
gen_whole [] s b o first second third fourth end = absurd (no_some _ first)
gen_whole (w ∷ []) s b o first second third fourth end = absurd (no_some _ second)
gen_whole (w ∷ x ∷ []) s b o first second third fourth end = absurd (no_some _ third)
gen_whole (w ∷ x ∷ y ∷ []) s b o first second third fourth end = absurd (no_some _ fourth)
gen_whole (w ∷ x ∷ y ∷ z ∷ []) s b o first second third fourth end =
    rw (same_some w _ first, same_some x _ second, same_some y _ third, same_some z _ fourth) refl
gen_whole (w ∷ x ∷ y ∷ z ∷ u ∷ rest) s b o first second third fourth end = absurd (no_some u end)

pub gen_fifth : (ws : List (List ℕ)) (s b o : ℕ) (more : List ℕ) → slice_get ws 0 ≡ Some (codes "gen") → slice_get ws 1 ≡ Some (decimal s) → s ≤ 2147483647
    → slice_get ws 2 ≡ Some (decimal b) → 1 ≤ b → b ≤ 32768 → slice_get ws 3 ≡ Some (decimal o) → o ≤ 1000000 → Some more ≡ slice_get ws 4 → IsFirstWrong ws 4
gen_fifth [] s b o more first second fits third some most fourth few fifth = absurd (no_some _ first)
gen_fifth (w ∷ []) s b o more first second fits third some most fourth few fifth = absurd (no_some _ second)
gen_fifth (w ∷ x ∷ []) s b o more first second fits third some most fourth few fifth = absurd (no_some _ third)
gen_fifth (w ∷ x ∷ y ∷ []) s b o more first second fits third some most fourth few fifth = absurd (no_some _ fourth)
gen_fifth (w ∷ x ∷ y ∷ z ∷ rest) s b o more first second fits third some most fourth few fifth =
    rw (same_some w _ first, same_some x _ second, same_some y _ third, same_some z _ fourth)
    (wrong_at (codes "gen" ∷ decimal s ∷ decimal b ∷ decimal o ∷ []) rest (begins_ops s b o fits some most few)
    (λ word is goes_on. let g = gen_words (decimal s ∷ decimal b ∷ decimal o ∷ word ∷ goes_on.rest) goes_on.command goes_on.whole in
    let behind = same_tail _ _ (decimal o ∷ word ∷ goes_on.rest) _ (same_tail _ _ (decimal b ∷ decimal o ∷ word ∷ goes_on.rest) _ g.words) in
    no_words _ _ (same_tail _ _ (word ∷ goes_on.rest) _ behind))
    (λ empty. absurd (is_more rest more fifth empty)))

-- the words behind `paper`

pub paper_capacity : (ws : List (List ℕ)) → slice_get ws 0 ≡ Some (codes "paper") → ((n : ℕ) → 1 ≤ n → n ≤ 65536 → slice_get ws 1 ≡ Some (decimal n) → ⊥)
    → IsFirstWrong ws 1
paper_capacity [] first none = absurd (no_some _ first)
paper_capacity (w ∷ rest) first none = rw (same_some w _ first) (wrong_at (codes "paper" ∷ []) rest begins_paper
    (λ word is goes_on. let p = paper_words (word ∷ goes_on.rest) goes_on.command goes_on.whole in
    none p.c p.some p.most (is ∙ ap Some (same_head word _ _ _ p.words)))
    (λ empty command whole. let p = paper_words [] command whole in no_words _ _ (sym p.words)))

pub paper_whole : (ws : List (List ℕ)) (c : ℕ) → slice_get ws 0 ≡ Some (codes "paper") → slice_get ws 1 ≡ Some (decimal c) → None ≡ slice_get ws 2
    → ws ≡ codes "paper" ∷ decimal c ∷ []
paper_whole [] c first second end = absurd (no_some _ first)
paper_whole (w ∷ []) c first second end = absurd (no_some _ second)
paper_whole (w ∷ x ∷ []) c first second end = rw (same_some w _ first, same_some x _ second) refl
paper_whole (w ∷ x ∷ y ∷ rest) c first second end = absurd (no_some y end)

pub paper_third : (ws : List (List ℕ)) (c : ℕ) (more : List ℕ) → slice_get ws 0 ≡ Some (codes "paper") → slice_get ws 1 ≡ Some (decimal c) → 1 ≤ c → c ≤ 65536
    → Some more ≡ slice_get ws 2 → IsFirstWrong ws 2
paper_third [] c more first second some most third = absurd (no_some _ first)
paper_third (w ∷ []) c more first second some most third = absurd (no_some _ second)
paper_third (w ∷ x ∷ rest) c more first second some most third =
    rw (same_some w _ first, same_some x _ second) (wrong_at (codes "paper" ∷ decimal c ∷ []) rest (begins_capacity c some most)
    (λ word is goes_on. let p = paper_words (decimal c ∷ word ∷ goes_on.rest) goes_on.command goes_on.whole in
    no_words _ _ (same_tail _ _ (word ∷ goes_on.rest) [] p.words))
    (λ empty. absurd (is_more rest more third empty)))

-- the words behind `check`

pub check_alone : (ws : List (List ℕ)) → slice_get ws 0 ≡ Some (codes "check") → None ≡ slice_get ws 1 → ws ≡ codes "check" ∷ []
check_alone [] first end = absurd (no_some _ first)
check_alone (w ∷ []) first end = rw (same_some w _ first) refl
check_alone (w ∷ x ∷ ws) first end = absurd (no_some x end)

pub check_second : (ws : List (List ℕ)) (more : List ℕ) → slice_get ws 0 ≡ Some (codes "check") → Some more ≡ slice_get ws 1 → IsFirstWrong ws 1
check_second [] more first second = absurd (no_some _ first)
check_second (w ∷ rest) more first second = rw (same_some w _ first) (wrong_at (codes "check" ∷ []) rest begins_check
    (λ word is goes_on. no_words _ _ (check_words (word ∷ goes_on.rest) goes_on.command goes_on.whole))
    (λ empty. absurd (is_more rest more second empty)))

-- an error that is handed on tells the first wrong word
pub hands_on : (ws : List (List ℕ)) (r : Result Command ℕ) (e : ℕ) → IsErrAnd r (λ told. told ≡ e) → IsFirstWrong ws e
    → MatchResult r (IsCommand ws) (IsFirstWrong ws)
hands_on ws (Ok command) e err wrong = absurd err
hands_on ws (Err told) e err wrong = rw err wrong
