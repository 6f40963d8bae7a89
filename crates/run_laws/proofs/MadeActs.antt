-- The events that a line made with a cell's number, by its acts; and that the shard tells of a Release whether it is of the last hold.
use Rattle.std.proofs.Common.{◌≡◌, ◌==◌, ℕ, ◌&&◌, Bool, true, false, IsTrue, List, [], ◌∷◌, Option, Some, None, refl}
use Rattle.std.specs.Option.{option_map_or}
use Rattle.std.proofs.lemmas.Bool.{false≢true}
use Rattle.blk_ptr.specs.declared.digest.Digest.{Digest}
use Rattle.blk_ptr.specs.declared.key.Key.{Key}
use Rattle.arc_core.specs.Operations.{Act}
use Rattle.arc_core.specs.PlainShard.{PlainShard, entry_of, holds_of, is_number}
use Rattle.arc_core.specs.Step.{agree, holds, legal}
use Rattle.arc_core.specs.declared.entry.Entry.{Entry}
use Rattle.arc_core.specs.declared.event.Event.{Event}
use Rattle.arc_core.specs.declared.event.Event.TheVariants as event
use Rattle.dbuf_state.proofs.IndexLemmas.{and-parts}
use Rattle.trace_run.specs.Deeds.{HasAct}

-- ---- an event that stands for one act

-- it drops a hold, or makes a block private, or inserts one
pub data IsActing : Event → Type 0 where
  drops : (n : ℕ) (k : Key) → IsActing (event.Drop n k)
  releases : (n : ℕ) (k : Key) (sole : Bool) → IsActing (event.Release n k sole)
  inserts : (n : ℕ) (k : Key) (d : Digest) (t : ℕ) → IsActing (event.Insert n k d t)

no-act : (act : Act) → ◌≡◌ {A = List Act} [] (act ∷ []) → ⊥
no-act act is = cc

pub acting : (e : Event) → HasAct e → IsActing e
acting (event.Drop n k) has = drops n k
acting (event.Release n k sole) has = releases n k sole
acting (event.Insert n k d t) has = inserts n k d t
acting (event.Pass n k owner) has = absurd (no-act has.0 has.1)
acting (event.Hit n k t) has = absurd (no-act has.0 has.1)
acting (event.Miss n k t) has = absurd (no-act has.0 has.1)
acting (event.Arrive n k d from) has = absurd (no-act has.0 has.1)
acting (event.Fail n k at) has = absurd (no-act has.0 has.1)
acting (event.Past n k kept) has = absurd (no-act has.0 has.1)
acting (event.Hand n k to) has = absurd (no-act has.0 has.1)
acting (event.Pick n k) has = absurd (no-act has.0 has.1)
acting (event.FeedEnd n) has = absurd (no-act has.0 has.1)
acting (event.Set n k place) has = absurd (no-act has.0 has.1)
acting (event.Leave n k why) has = absurd (no-act has.0 has.1)
acting (event.Clear n k) has = absurd (no-act has.0 has.1)
acting (event.Restore n k place d) has = absurd (no-act has.0 has.1)
acting (event.Resize n c) has = absurd (no-act has.0 has.1)

-- ---- whether a Release is of the last hold

-- which it is follows from the shard: a Release is of the last hold just where there is one hold in all
agrees : (x y b : Bool) → agree x b ≡ true → agree y b ≡ true → x ≡ y
agrees true true b one other = refl
agrees false false b one other = refl
agrees true false true one other = absurd (false≢true other)
agrees true false false one other = absurd (false≢true one)
agrees false true true one other = absurd (false≢true one)
agrees false true false one other = absurd (false≢true other)

pub sole-is : (s : PlainShard) (n : ℕ) (k : Key) (x y : Bool) → IsTrue (legal s (event.Release n k x)) → IsTrue (legal s (event.Release n k y)) → x ≡ y
sole-is s n k x y one other = go (entry_of k s) (and-parts (is_number n) _ one).1 ((and-parts (is_number n) _ other).1)
  where
    go : (o : Option Entry) → option_map_or (λ (e : Entry). holds n e && agree x (holds_of e == 1)) o false ≡ true → option_map_or (λ (e : Entry). holds n e && agree y (holds_of e == 1)) o false ≡ true → x ≡ y
    go None one other = absurd (false≢true one)
    go (Some e) one other = agrees x y (holds_of e == 1) (and-parts (holds n e) _ one).1 ((and-parts (holds n e) _ other).1)
