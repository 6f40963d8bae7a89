-- That events are printed as they are spelled.
use Rattle.std.proofs.Common.{◌≡◌, ℕ, List, ◌∷◌, ◌++◌, refl, ap, ◌∙◌, append_assoc}
use Rattle.std.specs.Prelude.{codes, decimal}
use Rattle.blk_ptr.specs.declared.key.Key.{Key}
use Rattle.arc_core.specs.declared.event.Event.{Event}
use Rattle.arc_core.specs.declared.event.Event.TheVariants.{Pass, Hit, Miss, Arrive, Fail, Drop, Past, Hand, Insert, Release, Pick, FeedEnd, Set, Leave, Clear, Restore, Resize}
use Rattle.hex.specs.Hex.{encode_lower}
use Rattle.trace_text.specs.EventText.{event_words, failed_word, key_words, origin_word, sole_word, spaced, told_words, why_word}
use Rattle.arc_check.specs.Printed.{IsPrintedAsSpelled}
use Rattle.arc_check.specs.LogText.{event_fields, name_of, name_text}

-- a key, and what comes after it
key-then : (key : Key) (rest : List ℕ) → key_words key ++ 32 ∷ rest ≡ decimal key.offset ++ 32 ∷ (decimal key.size ++ 32 ∷ (decimal key.birth ++ 32 ∷ rest))
key-then key rest =
    append_assoc (decimal key.offset) (32 ∷ (decimal key.size ++ 32 ∷ decimal key.birth)) (32 ∷ rest)
    ∙ ap (λ (x : List ℕ). decimal key.offset ++ 32 ∷ x) (append_assoc (decimal key.size) (32 ∷ decimal key.birth) (32 ∷ rest))

-- the same, behind a name and who made the event
keyed : (name : List ℕ) (n : ℕ) (key : Key) (rest : List ℕ)
    → name ++ 32 ∷ (decimal n ++ 32 ∷ (key_words key ++ 32 ∷ rest)) ≡ name ++ 32 ∷ (decimal n ++ 32 ∷ (decimal key.offset ++ 32 ∷ (decimal key.size ++ 32 ∷ (decimal key.birth ++ 32 ∷ rest))))
keyed name n key rest = ap (λ (x : List ℕ). name ++ 32 ∷ (decimal n ++ 32 ∷ x)) (key-then key rest)

-- the words of an event are its name and its fields
pub words-spelled : (e : Event) → event_words e ≡ spaced (name_text (name_of e) ∷ event_fields e)
words-spelled (Pass n k owner) = keyed (codes "pass") n k (decimal owner)
words-spelled (Hit n k t) = keyed (codes "hit") n k (decimal t)
words-spelled (Miss n k t) = keyed (codes "miss") n k (decimal t)
words-spelled (Arrive n k d from) = keyed (codes "arrive") n k (encode_lower d.0 ++ 32 ∷ origin_word from)
words-spelled (Fail n k at) = keyed (codes "fail") n k (failed_word at)
words-spelled (Drop n k) = refl
words-spelled (Past n k kept) = keyed (codes "past") n k (encode_lower kept.0)
words-spelled (Hand n k to) = keyed (codes "hand") n k (decimal to)
words-spelled (Insert n k d t) = keyed (codes "insert") n k (encode_lower d.0 ++ 32 ∷ decimal t)
words-spelled (Release n k sole) = keyed (codes "release") n k (sole_word sole)
words-spelled (Pick n k) = refl
words-spelled (FeedEnd n) = refl
words-spelled (Set n k place) = keyed (codes "set") n k (decimal place)
words-spelled (Leave n k why) = keyed (codes "leave") n k (why_word why)
words-spelled (Clear n k) = refl
words-spelled (Restore n k place told) = keyed (codes "restore") n k (decimal place ++ 32 ∷ told_words told)
words-spelled (Resize n c) = refl

pub printed : IsPrintedAsSpelled
printed shard index e =
    ap (λ (x : List ℕ). (codes "e" ++ 32 ∷ (decimal shard ++ 32 ∷ (decimal index ++ 32 ∷ x))) ++ codes "\n") (words-spelled e)
