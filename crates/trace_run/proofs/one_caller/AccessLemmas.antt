-- How a read finds its block, by what the shared cache says of its key.
use Rattle.std.proofs.Common.{◌≡◌, ◌≢◌, true, false, Option, Some, None, inl, inr, refl, ap}
use Rattle.std.specs.Prelude.{IsTrue, ◌&&◌}
use Rattle.std.specs.Option.{option_map_or}
use Rattle.std.proofs.lemmas.Bool.{false≢true}
use Rattle.blk_ptr.specs.declared.digest.Digest.{Digest}
use Rattle.blk_ptr.specs.declared.ptr.Ptr.{Ptr}
use Rattle.blk_ptr.specs.declared.state.State.{State}
use Rattle.blk_ptr.specs.declared.state.State.TheVariants.{Anon, Mru, MruGhost, Mfu, MfuGhost, L2Only}
use Rattle.blk_ptr.specs.Order.{digest_eq}
use Rattle.blk_ptr.specs.State.{is_cached}
use Rattle.arc_lists.proofs.Standing.{and_left, and_right}
use Rattle.arc_lists.proofs.Tables.{cases_true}
use Rattle.arc_core.specs.declared.entry.Entry.{Entry}
use Rattle.arc_core.specs.PlainShard.{PlainShard, entry_of, is_resident, keeps_digest}
use Rattle.arc_core.specs.Step.{is_missing, is_without_bytes}
use Rattle.arc_table.specs.pact.Standing.{IsCachedWith}
use Rattle.arc_table.specs.Reading.{ptr_with}
use Rattle.trace_run.specs.one_caller.Access as access
use Rattle.trace_run.specs.one_caller.Access.{access_of, access_by}
use Rattle.trace_run.proofs.CacheLemmas.{digest_eq-is, digest_of_resident}
use Rattle.trace_run.proofs.one_caller.TellLemmas.{digest_eq-same}

-- what an entry keeps that passes the test of a digest
kept-digest : (d : Digest) (o : Option Digest) → option_map_or (λ kept. digest_eq kept d) o false ≡ true → o ≡ Some d
kept-digest d None is = absurd (false≢true is)
kept-digest d (Some kept) is = ap (λ (x : Digest). Some x) (digest_eq-is kept d is)

resident-in : (d : Digest) (o : Option Entry) → IsTrue (option_map_or (λ e. is_resident e && keeps_digest d e) o false) → digest_of_resident o ≡ Some d
resident-in d None is = absurd (false≢true is)
resident-in d (Some e) is =
    let here : is_resident e ≡ true = and_left (is_resident e) (keeps_digest d e) is in
    let kept : keeps_digest d e ≡ true = and_right (is_resident e) (keeps_digest d e) is in
    rw here (kept-digest d e.digest kept)

without-cached : (s : State) → is_without_bytes s ≡ true → is_cached s ≡ false
without-cached Anon is = refl
without-cached Mru is = absurd (false≢true is)
without-cached MruGhost is = refl
without-cached Mfu is = absurd (false≢true is)
without-cached MfuGhost is = refl
without-cached L2Only is = refl

missing-in : (o : Option Entry) → IsTrue (option_map_or (λ e. is_without_bytes e.state) o true) → digest_of_resident o ≡ None
missing-in None is = refl
missing-in (Some e) is = rw (without-cached e.state is) refl

found-same : (asked : Digest) (o : Option Digest) → o ≡ Some asked → access_by asked o ≡ access.Hit
found-same asked o is = rw is (rw (digest_eq-same asked) refl)

found-other : (asked kept : Digest) (o : Option Digest) → kept ≢ asked → o ≡ Some kept → access_by asked o ≡ access.Past kept
found-other asked kept o other is = rw is (elim (cases_true (digest_eq kept asked)) [
  | inl same ↦ absurd (other (digest_eq-is kept asked same))
  | inr differs ↦ rw differs refl
])

pub access-cached : (ptr : Ptr) (s : PlainShard) → IsCachedWith ptr s → access_of s ptr ≡ access.Hit
access-cached ptr s cached = found-same ptr.digest _ (resident-in ptr.digest (entry_of ptr.key s) cached)

pub access-other : (ptr : Ptr) (kept : Digest) (s : PlainShard) → kept ≢ ptr.digest → IsCachedWith (ptr_with ptr.key kept) s → access_of s ptr ≡ access.Past kept
access-other ptr kept s other cached = found-other ptr.digest kept _ other (resident-in kept (entry_of ptr.key s) cached)

pub access-missed : (ptr : Ptr) (s : PlainShard) → IsTrue (is_missing ptr.key s) → access_of s ptr ≡ access.Miss
access-missed ptr s missing = ap (access_by ptr.digest) (missing-in (entry_of ptr.key s) missing)
