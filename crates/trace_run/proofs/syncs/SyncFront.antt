-- A sync changes no byte in front of the place from which it writes.
use Rattle.std.proofs.Common.{◌≡◌, ◌⊎◌, ℕ, zero, suc, ◌+◌, ◌≤◌, ◌-◌, min, List, [], ◌∷◌, ◌++◌, length, take, drop, Option, Some, None, Result, Ok, Err, refl, sym, ap, ◌∙◌, subst, inl, inr, arith, Bool}
use Rattle.std.specs.Option.{option_map}
use Rattle.std.proofs.lemmas.Bool.{cases_lt}
use Rattle.std.proofs.lemmas.List.{length-take, take-append-le}
use Rattle.arc_core.specs.declared.config.Config.{Config}
use Rattle.dbuf_cells.specs.Turns.{OnHeap, PartyPlace}
use Rattle.txg_sync.specs.Items.{SyncItem, at_place, bytes_of_due, items_from, need_of, tells_written, written_over, none_held}
use Rattle.txg_sync.specs.Syncing.{AnswersSync, AnswersWith, HasFailedOnce, IsUnharmed, RefusedAt, RefusedFirst, TellsTorn}
use Rattle.txg_sync.specs.declared.due.Due.{Due}
use Rattle.txg_sync.specs.declared.syncing.SyncFault.{SyncFault}
use Rattle.txg_sync.specs.declared.syncing.SyncFault.TheVariants as fault
use Rattle.txg_sync.specs.declared.syncing.Synced.{Synced}
use Rattle.vdev_io.specs.Device.{put}
use Rattle.vdev_io.specs.Faults.{CountsOne, last_count}
use Rattle.vdev_io.specs.declared.pool.Pool.{Ghosts}
use Rattle.vdev_io.proofs.SectorLaws.{put_length}
use Rattle.trace_run.specs.callers.Group.{LeavesFront}

-- ---- lists

-- a shorter front of a front
take-take : (m n : ℕ) (xs : List ℕ) → m ≤ n → take m (take n xs) ≡ take m xs
take-take zero n xs below = refl
take-take (suc m) zero xs below = absurd (omega (arith, below))
take-take (suc m) (suc n) [] below = refl
take-take (suc m) (suc n) (x ∷ xs) below = ap (λ (l : List ℕ). x ∷ l) (take-take m n xs (omega (arith, below)))

-- the same up to a place is the same up to each before it
pub front-below : (m n : ℕ) (xs ys : List ℕ) → m ≤ n → take n xs ≡ take n ys → take m xs ≡ take m ys
front-below m n xs ys below same = sym (take-take m n xs below) ∙ (ap (take m) same ∙ take-take m n ys below)

put-front : (at m : ℕ) (bytes image : List ℕ) → m ≤ at → at + length bytes ≤ length image → take m (put at bytes image) ≡ take m image
put-front at m bytes image low inside =
    let long : m ≤ length (take at image) = omega (arith, length-take at image, low, inside) in
    take-append-le m (take at image ++ bytes) (drop (at + length bytes) image) (omega (arith, long, length-append' (take at image) bytes))
    ∙ (take-append-le m (take at image) bytes long ∙ take-take m at image low)
  where
    length-append' : (xs ys : List ℕ) → length xs ≤ length (xs ++ ys)
    length-append' [] ys = omega arith
    length-append' (x ∷ xs) ys = let r = length-append' xs ys in omega (arith, r)

-- ---- blocks that are written from a place on

pub record IsWrittenFrom (m : ℕ) (image now : List ℕ) : Type 0 where
  pub long : length now ≡ length image
  pub front : take m now ≡ take m image

pub written-from : (held : Due → Bool) (group place m : ℕ) (cells : List OnHeap) (dues : List Due) (image : List ℕ) → m ≤ place → place + need_of cells dues ≤ length image → IsWrittenFrom m image (written_over (items_from held group place cells dues) image)
written-from held group place m cells [] image low inside = record { long = refl; front = refl }
written-from held group place m cells (due ∷ dues) image low inside =
    let bytes : List ℕ = bytes_of_due cells due in
    let here : place + length bytes ≤ length image = omega (arith, inside) in
    let long = put_length place bytes image here in
    let rest = written-from held group (place + length bytes) m cells dues (put place bytes image) (omega (arith, low)) (omega (arith, inside, long)) in
    record { long = rest.long ∙ long; front = rest.front ∙ put-front place m bytes image low here }

need-more : (cells : List OnHeap) (done rest : List Due) → need_of cells (done ++ rest) ≡ need_of cells done + need_of cells rest
need-more cells [] rest = omega arith
need-more cells (due ∷ done) rest = let r = need-more cells done rest in omega (arith, r)

-- a count that rose by one has not fallen, as far as a count goes
one-more : (a b : ℕ) → CountsOne a b → min a last_count ≤ b
one-more a b counts = elim (cases_lt a last_count) [
  | inl room ↦ let is = counts.more room in omega (arith, is)
  | inr full ↦ let is = counts.full full in omega (arith, is, full)
]

-- ---- what is told of a pool

module _ (m : ℕ) where
  -- what is told has the same front
  abbrev pub SameFront : Option (List ℕ) → Option (List ℕ) → Type 0
  SameFront old now = option_map (take m) now ≡ option_map (take m) old

  told-written : (held : Due → Bool) (group place : ℕ) (cells : List OnHeap) (dues : List Due) (old : Option (List ℕ)) → m ≤ place → ((image : List ℕ) → old ≡ Some image → place + need_of cells dues ≤ length image)
      → SameFront old (tells_written (items_from held group place cells dues) old)
  told-written held group place cells dues None low inside = refl
  told-written held group place cells dues (Some image) low inside = ap Some (written-from held group place m cells dues image low (inside image refl)).front

  told-torn : (x : SyncItem) (old now : Option (List ℕ)) → m ≤ x.ptr.key.offset → TellsTorn x old now → SameFront old now
  told-torn x None now low is = ap (option_map (take m)) is
  told-torn x (Some old) None low is = absurd is
  told-torn x (Some old) (Some new) low is = ap Some (front-below m x.ptr.key.offset new old low is.before)

module _ {P : Type 0} (pools : Ghosts P) (told_len : (pool : P) (image : List ℕ) → pools.told pool ≡ Some image → length image ≡ pools.size pool) (group next : ℕ) (before now : P) (g : Config)
    (Turns : List OnHeap → List SyncItem → (PartyPlace → PartyPlace → Type 0) → Type 0) (inside : next ≤ pools.size before) where
  room : (cells : List OnHeap) (dues : List Due) → need_of cells dues ≤ pools.size before - next → (image : List ℕ) → pools.told before ≡ Some image → next + need_of cells dues ≤ length image
  room cells dues fits image is = let long = told_len before image is in omega (arith, fits, inside, long)

  unharmed-front : IsUnharmed pools before now → SameFront next (pools.told before) (pools.told now) → LeavesFront pools next before now
  unharmed-front u told = record { size = u.size; told = told; faults = let f = u.faults in omega (arith, f) }

  failed-front : HasFailedOnce pools before now → SameFront next (pools.told before) (pools.told now) → LeavesFront pools next before now
  failed-front u told = record { size = u.size; told = told; faults = one-more (pools.faults before) (pools.faults now) u.faults }

  -- those before the one in hand were written
  part-front : (held : Due → Bool) (cells : List OnHeap) (done : List Due) (due : Due) (rest : List Due) → need_of cells (done ++ due ∷ rest) ≤ pools.size before - next
      → SameFront next (pools.told before) (tells_written (items_from held group next cells done) (pools.told before))
  part-front held cells done due rest fits =
      told-written next held group next cells done (pools.told before) (omega arith) (room cells done (let n = need-more cells done (due ∷ rest) in omega (arith, fits, n)))

  came-front : (came : Result Synced SyncFault) → AnswersWith pools group next before now g Turns came → LeavesFront pools next before now
  came-front (Ok done) w = unharmed-front w.outside (ap (option_map (take next)) w.told ∙ told-written next w.held group next w.cells w.dues (pools.told before) (omega arith) (room w.cells w.dues w.fits))
  came-front (Err fault.PoolFault) f =
      let s = f.stops in
      failed-front f.outside
      (told-torn next (at_place none_held group (next + need_of s.cells s.done) s.cells s.due) (tells_written (items_from s.held group next s.cells s.done) (pools.told before)) (pools.told now) (omega arith) s.told
      ∙ part-front s.held s.cells s.done s.due s.rest s.fits)
  came-front (Err (fault.PoolFull need left)) f = unharmed-front f.outside (ap (option_map (take next)) f.told)
  came-front (Err fault.NoMemory) f = unharmed-front f.outside (told f.stops)
    where
      told : RefusedFirst pools group next before now g Turns ⊎ RefusedAt pools group next before now g Turns → SameFront next (pools.told before) (pools.told now)
      told (inl first) = ap (option_map (take next)) first.told
      told (inr (inl s)) = ap (option_map (take next)) s.told ∙ part-front s.held s.cells s.done s.due s.rest s.fits
      told (inr (inr s)) = ap (option_map (take next)) s.told ∙ (one s.held s.cells s.done s.due s.rest s.fits ∙ part-front s.held s.cells s.done s.due s.rest s.fits)
        where
          -- the one in hand was written too
          one : (held : Due → Bool) (cells : List OnHeap) (done : List Due) (due : Due) (rest : List Due) → need_of cells (done ++ due ∷ rest) ≤ pools.size before - next
              → SameFront next (tells_written (items_from held group next cells done) (pools.told before)) (tells_written (at_place none_held group (next + need_of cells done) cells due ∷ []) (tells_written (items_from held group next cells done) (pools.told before)))
          one held cells done due rest fits = go (pools.told before) refl
            where
              go : (old : Option (List ℕ)) → pools.told before ≡ old
                  → SameFront next (tells_written (items_from held group next cells done) old) (tells_written (at_place none_held group (next + need_of cells done) cells due ∷ []) (tells_written (items_from held group next cells done) old))
              go None is = refl
              go (Some image) is =
                  let more = need-more cells done (due ∷ rest) in
                  let whole = room cells (done ++ due ∷ rest) fits image is in
                  let w = written-from held group next next cells done image (omega arith) (omega (arith, whole, more)) in
                  let long = w.long in
                  ap Some (put-front (next + need_of cells done) next (bytes_of_due cells due) (written_over (items_from held group next cells done) image) (omega arith) (omega (arith, whole, more, long)))

-- a sync leaves what stands before its place
pub sync-front : {P : Type 0} (pools : Ghosts P) (told_len : (pool : P) (image : List ℕ) → pools.told pool ≡ Some image → length image ≡ pools.size pool) (g : Config) (group tick next : ℕ) (before now : P) (p q : PartyPlace) (came : Result Synced SyncFault)
    → next ≤ pools.size before → AnswersSync pools g group tick next before now p q came → LeavesFront pools next before now
sync-front pools told_len g group tick next before now p q came inside (inl answer) = came-front pools told_len group next before now g _ inside came answer
sync-front pools told_len g group tick next before now p q came inside (inr none) = subst (LeavesFront pools next before) (sym none.1.pool) (record { size = refl; told = refl; faults = omega arith })
