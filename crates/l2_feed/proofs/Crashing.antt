-- That a feed keeps a promise of every crash: each call of the device does, one after another.
use Rattle.std.proofs.Common.{◌≡◌, ℕ, List, [], ◌∷◌, Bool, Option, Result, Ok, Err, inl, inr, refl, sym, subst}
use Rattle.std.specs.Prelude.{IsErrOf}
use Rattle.blk_ptr.specs.declared.key.Key.{Key}
use Rattle.blk_ptr.specs.declared.memory.NoMemory.{NoMemory}
use Rattle.l2_dev.specs.declared.fault.DevErr.{DevErr}
use Rattle.l2_dev.specs.declared.fault.DevErr.TheVariants as err
use Rattle.l2_dev.specs.Calls.{BeginKeeps, CommitKeeps, PutKeeps, forgotten, put_entry, with_put}
use Rattle.l2_dev.specs.Cursor.{CursorState, numbers_from}
use Rattle.l2_dev.specs.Promise.{KeepsPromise, Promise}
use Rattle.l2_dev.specs.PromiseLaws.{left_by, with_block}
use Rattle.l2_feed.specs.Crashes.{FeedKeeps, IsOwnPromise, KeepsOwn, KeepsSo, KeepsSome}
use Rattle.l2_feed.specs.Shape.{first_fault, stop_of}

module _ {D : Type 0} (tells : D → Option (List ℕ)) (has_sectors : D → Bool) (leaves : D → List ℕ → Type 0) where
  pub own_start : (d : D) (c : CursorState) → KeepsOwn tells has_sectors leaves d d c c
  own_start d c p kept = (p, kept, (λ own. own))

  pub own_then : (a b e : D) (x y z : CursorState) → KeepsOwn tells has_sectors leaves a b x y → KeepsOwn tells has_sectors leaves b e y z → KeepsOwn tells has_sectors leaves a e x z
  own_then a b e x y z first then p kept =
      let q = first p kept in
      let r = then q.0 q.1 in
      (r.0, r.1, (λ own. r.2 (q.2 own)))

  pub some_then : (a b e : D) (x y z : CursorState) → KeepsOwn tells has_sectors leaves a b x y → KeepsSome tells has_sectors leaves b e y z → KeepsSome tells has_sectors leaves a e x z
  some_then a b e x y z first then p kept = let q = first p kept in then q.0 q.1

  pub some_of : (a b : D) (x y : CursorState) → KeepsOwn tells has_sectors leaves a b x y → KeepsSome tells has_sectors leaves a b x y
  some_of a b x y own p kept = let q = own p kept in (q.0, q.1)

  pub keeps_then : {T : Type 0} (a b e : D) (x y z : CursorState) (result : Result T DevErr) → KeepsOwn tells has_sectors leaves a b x y → KeepsSo tells has_sectors leaves b e y z result → KeepsSo tells has_sectors leaves a e x z result
  keeps_then a b e x y z (Ok value) first then = own_then a b e x y z first then
  keeps_then a b e x y z (Err fault) first then = some_then a b e x y z first then

  pub feed_keeps : (a b : D) (x y : CursorState) (fault : DevErr) → KeepsSome tells has_sectors leaves a b x y → FeedKeeps tells has_sectors leaves a b x y (stop_of fault)
  feed_keeps a b x y err.DevFault some = some
  feed_keeps a b x y err.NoMemory some = some

  module _ (moment : D → ℕ) (since : D → ℕ → List ℕ → Type 0) (old new : D) (before after : CursorState) where
    pub put_keeps : (k : Key) (bytes : List ℕ) (result : Result ℕ DevErr) → ((p : Promise) → KeepsPromise tells has_sectors leaves old before p → PutKeeps tells has_sectors leaves moment since old new before after p k bytes result)
        → KeepsSo tells has_sectors leaves old new before after result
    put_keeps k bytes (Ok place) keeps = λ p kept. (with_put (put_entry k place bytes before.ring.lap) p, (keeps p kept).kept, (λ own. own))
    put_keeps k bytes (Err e) keeps = λ p kept. (forgotten p p.candidates, (keeps p kept).kept)

    commit_some : (e : DevErr) → ((p : Promise) → KeepsPromise tells has_sectors leaves old before p → CommitKeeps tells has_sectors leaves moment since old new before after p (Err e)) → KeepsSome tells has_sectors leaves old new before after
    commit_some e keeps p kept = go (keeps p kept)
      where
        go : CommitKeeps tells has_sectors leaves moment since old new before after p (Err e) → (q : Promise) × KeepsPromise tells has_sectors leaves new after q
        go (inl k) = (forgotten p p.candidates, k.1)
        go (inr k) = (forgotten p (k.1 ∷ p.candidates), k.4)

    pub commit_keeps : (result : Result (Unit {0}) DevErr) → ((p : Promise) → KeepsPromise tells has_sectors leaves old before p → CommitKeeps tells has_sectors leaves moment since old new before after p result) → KeepsSo tells has_sectors leaves old new before after result
    commit_keeps (Ok u) keeps = λ p kept. let k = keeps p kept in (with_block k.0 p (k.1 ∷ []), k.4, (λ own. (k.3.of, tt)))
    commit_keeps (Err e) keeps = commit_some e keeps

    begin_own : (u : Unit {0}) → ((p : Promise) → KeepsPromise tells has_sectors leaves old before p → BeginKeeps tells has_sectors leaves moment since old new before after p (Ok u)) → KeepsOwn tells has_sectors leaves old new before after
    begin_own u keeps p kept = go (keeps p kept)
      where
        go : BeginKeeps tells has_sectors leaves moment since old new before after p (Ok u) → (q : Promise) × KeepsPromise tells has_sectors leaves new after q × (IsOwnPromise p → IsOwnPromise q)
        go (inl none) = cc
        go (inr k) = (left_by (numbers_from after) p (k.0 ∷ []), k.2, (λ own. (k.1.of, tt)))

    begin_some : ((p : Promise) → KeepsPromise tells has_sectors leaves old before p → BeginKeeps tells has_sectors leaves moment since old new before after p (Err err.DevFault)) → KeepsSome tells has_sectors leaves old new before after
    begin_some keeps p kept = go (keeps p kept)
      where
        go : BeginKeeps tells has_sectors leaves moment since old new before after p (Err err.DevFault) → (q : Promise) × KeepsPromise tells has_sectors leaves new after q
        go (inl none) = cc
        go (inr k) = (left_by (numbers_from after) p (k.0 ∷ p.candidates), k.2)

    -- a begin, and the clears behind it
    pub begun_keeps : (begun : Result (Unit {0}) DevErr) (taken : Result (Unit {0}) NoMemory) → (IsErrOf begun err.NoMemory → (new ≡ old) × (after ≡ before))
        → ((p : Promise) → KeepsPromise tells has_sectors leaves old before p → BeginKeeps tells has_sectors leaves moment since old new before after p begun) → KeepsSo tells has_sectors leaves old new before after (first_fault begun taken)
    begun_keeps (Err err.NoMemory) taken same keeps = λ p kept. let s = same refl in (p, subst (λ (x : D × CursorState). KeepsPromise tells has_sectors leaves x.0 x.1 p) (λ i. (sym s.0 i, sym s.1 i)) kept)
    begun_keeps (Err err.DevFault) taken same keeps = begin_some keeps
    begun_keeps (Ok u) (Err refused) same keeps = some_of old new before after (begin_own u keeps)
    begun_keeps (Ok u) (Ok v) same keeps = begin_own u keeps
