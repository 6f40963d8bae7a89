-- What was done with all cells in hand, and then the cells given back, is what a sync answers.
use Rattle.std.proofs.Common.{◌≡◌, ◌⊎◌, ℕ, ◌-◌, ◌<◌, ◌≤◌, List, [], ◌∷◌, ◌++◌, length, take, slice_index_or, Result, Ok, Err, Option, refl, sym, ap, ◌∙◌, subst, inl, inr, ⊎_elim, arith}
use Rattle.vdev_io.specs.declared.fault.IoFault.{IoFault}
use Rattle.vdev_io.specs.declared.fault.IoFault.TheVariants as io
use Rattle.vdev_io.specs.declared.pool.Pool.{Ghosts}
use Rattle.arc_core.specs.declared.config.Config.{Config}
use Rattle.arc_table.specs.Cache.{Cache}
use Rattle.dbuf_cells.specs.InHand.{HasDone}
use Rattle.dbuf_cells.specs.Turns.{OnHeap, PartyPlace}
use Rattle.txg_sync.specs.InHand.{AreDueIn, HasTakenAll, InSync, MayGiveAll, SyncsInHand, turns_below}
use Rattle.txg_sync.specs.Items.{SyncItem, need_of}
use Rattle.txg_sync.specs.Syncing.{AnswersWith, AreAllDirty, AreSized, RefusedAt, RefusedFirst, Same, StopsAt}
use Rattle.txg_sync.specs.Turns.{GivesFrom, SyncsCells, TakesFrom, synced_in}
use Rattle.txg_sync.specs.Writing.{AnswersDues, StopsIn, sync_fault_of}
use Rattle.txg_sync.specs.declared.due.Due.{Due}
use Rattle.txg_sync.specs.declared.syncing.SyncFault.{SyncFault}
use Rattle.txg_sync.specs.declared.syncing.SyncFault.TheVariants as fault
use Rattle.txg_sync.specs.declared.syncing.Synced.{Synced}

take-length : {X : Type 0} (xs ys : List X) → take (length xs) (xs ++ ys) ≡ xs
take-length [] ys = refl
take-length {X} (x ∷ xs) ys = ap (λ (l : List X). x ∷ l) (take-length xs ys)

-- what was lent and came back
pub take-front : {X : Type 0} (n : ℕ) (xs ys : List X) → n ≡ length xs → take n (xs ++ ys) ≡ xs
take-front n xs ys e = ap (λ m. take m (xs ++ ys)) e ∙ take-length xs ys

module _ (cache : Cache) (tick : ℕ) (befores nows : List OnHeap) (p q : PartyPlace) (xs : List SyncItem) (Besides : PartyPlace → PartyPlace → Type 0) (s : InSync cache tick befores nows p q xs Besides) where
  -- all cells may be given back
  pub may-give-all : MayGiveAll cache nows q
  may-give-all = record {
    befores = befores;
    xs = xs;
    holding = record { valid = s.holding.valid; party = s.holding.party; look = s.holding.look; number = refl; held = s.holding.held ∙ ap turns_below (sym s.count); claims = refl };
    cells = λ i d within. s.cells i d (subst (λ (n : ℕ). i < n) s.count within);
  }

  -- and then the sync is over
  pub syncs-cells : (o r : PartyPlace) → length befores ≡ cache.config.cells → TakesFrom 0 befores o p → p.number ≡ o.number → GivesFrom 0 nows q r → SyncsCells cache.config tick befores xs Besides o r
  syncs-cells o r all takes number gives = record {
    all = all;
    taken = p;
    reached = s.reached;
    worked = q;
    afters = nows;
    takes = takes;
    inserts = s.inserts;
    besides = s.besides;
    count = s.count;
    synced = λ i d within.
        let k = s.cells i d within in
        let n : q.number ≡ o.number = s.holding.number ∙ number in
        let done = subst (λ (m : ℕ). HasDone m (slice_index_or befores i d).value k.evicting (synced_in m i xs) (slice_index_or nows i d).value) n k.done in
        record { sound = done.sound; history = done.history; evicting = k.evicting; bases = done.bases; leads = done.leads };
    gives = gives;
  }

-- an answer says no more of the turns than is said of them
module _ {P : Type 0} (pool : Ghosts P) (group next : ℕ) (before now : P) (g : Config) (One Two : List OnHeap → List SyncItem → (PartyPlace → PartyPlace → Type 0) → Type 0)
    (goes : (cells : List OnHeap) (xs : List SyncItem) (Besides : PartyPlace → PartyPlace → Type 0) → One cells xs Besides → Two cells xs Besides) where
  stops-so : (Told : SyncItem → Option (List ℕ) → Type 0) (Besides : SyncItem → PartyPlace → PartyPlace → Type 0) → StopsAt pool group next before now g One Told Besides → StopsAt pool group next before now g Two Told Besides
  stops-so Told Besides s = record { cells = s.cells; done = s.done; due = s.due; rest = s.rest; dirty = s.dirty; fits = s.fits; held = s.held; turns = goes s.cells _ _ s.turns; told = s.told }

  pub answers-so : (result : Result Synced SyncFault) → AnswersWith pool group next before now g One result → AnswersWith pool group next before now g Two result
  unfolding stops-so
  answers-so (Ok done) a = record {
    cells = a.cells;
    dues = a.dues;
    dirty = a.dirty;
    sized = a.sized;
    fits = a.fits;
    held = a.held;
    turns = goes a.cells _ _ a.turns;
    told = a.told;
    outside = a.outside;
    others = a.others;
    blocks = a.blocks;
    bytes = a.bytes;
    next_is = a.next_is;
  }
  answers-so (Err (fault.PoolFull need left)) a = record {
    cells = a.cells;
    dues = a.dues;
    dirty = a.dirty;
    need_is = a.need_is;
    left_is = a.left_is;
    full = a.full;
    turns = goes a.cells _ _ a.turns;
    told = a.told;
    outside = a.outside;
    others = a.others;
  }
  answers-so (Err fault.PoolFault) a = record { stops = stops-so _ _ a.stops; outside = a.outside; others = a.others }
  answers-so (Err fault.NoMemory) a = record { outside = a.outside; stops = go a.stops }
    where
      go : RefusedFirst pool group next before now g One ⊎ RefusedAt pool group next before now g One → RefusedFirst pool group next before now g Two ⊎ RefusedAt pool group next before now g Two
      go (inl f) = inl record { cells = f.cells; turns = goes f.cells _ _ f.turns; told = f.told }
      go (inr (inl s)) = inr (inl (stops-so _ _ s))
      go (inr (inr s)) = inr (inr (stops-so _ _ s))

-- ---- with all cells in hand

-- what is left to be written has such sizes
pub sized-all : (cells : List OnHeap) (dues : List Due) → AreDueIn cells dues → AreSized cells dues
sized-all cells [] due = tt
sized-all cells (d ∷ ds) due = (due.0.sized, sized-all cells ds due.1)

-- nothing was done yet
pub nothing-done : (cache : Cache) (tick : ℕ) (cells : List OnHeap) (q : PartyPlace) → HasTakenAll cache cells q → InSync cache tick cells cells q q [] Same
nothing-done cache tick cells q taken = record { reached = q; inserts = refl; besides = refl; holding = taken.holding; count = refl; cells = taken.cells }

module _ {P : Type 0} (pool : Ghosts P) (cache : Cache) (group tick next : ℕ) (cells nows : List OnHeap) (before now : P) (p q : PartyPlace) where
  abbrev InAll : List OnHeap → List SyncItem → (PartyPlace → PartyPlace → Type 0) → Type 0
  InAll = SyncsInHand cache tick cells nows p q

  module _ (dues : List Due) (dirty : AreAllDirty cells dues) (fits : need_of cells dues ≤ pool.size before - next) where
    stops-at : (Told : SyncItem → Option (List ℕ) → Type 0) (Besides : SyncItem → PartyPlace → PartyPlace → Type 0) → StopsIn pool cache group tick next cells nows dues before now p q Told Besides
        → StopsAt pool group next before now cache.config InAll Told Besides
    stops-at Told Besides s = record {
      cells = cells;
      done = s.done;
      due = s.due;
      rest = s.rest;
      dirty = subst (AreAllDirty cells) s.whole dirty;
      fits = subst (λ (ds : List Due). need_of cells ds ≤ pool.size before - next) s.whole fits;
      held = s.held;
      turns = (refl, s.sync);
      told = s.told;
    }

    -- all of them were written
    pub dues-written : (place : ℕ) (done : Synced) → AreSized cells dues → AnswersDues pool cache group tick next cells nows dues before now p q (Ok place) → done.blocks ≡ length dues → done.bytes ≡ place - next → done.next ≡ place
        → AnswersWith pool group next before now cache.config InAll (Ok done)
    dues-written place done sized a blocks bytes behind = record {
      cells = cells;
      dues = dues;
      dirty = dirty;
      sized = sized;
      fits = fits;
      held = a.held;
      turns = (refl, a.sync);
      told = a.told;
      outside = a.outside;
      others = a.others;
      blocks = blocks;
      bytes = bytes ∙ (let e = a.behind in omega arith);
      next_is = behind ∙ a.behind;
    }

    -- or a write stopped
    pub dues-stopped : (why : IoFault) → AnswersDues pool cache group tick next cells nows dues before now p q (Err why) → AnswersWith pool group next before now cache.config InAll (Err (sync_fault_of why))
    unfolding stops-at
    dues-stopped io.Failed a = record { stops = stops-at _ _ a.0; outside = a.1; others = a.2 }
    dues-stopped io.NoMemory a = record { outside = a.1; stops = ⊎_elim (λ s. inr (inl (stops-at _ _ s))) (λ s. inr (inr (stops-at _ _ s))) a.0 }

  pub dues-may-give : (dues : List Due) (result : Result ℕ IoFault) → AnswersDues pool cache group tick next cells nows dues before now p q result → MayGiveAll cache nows q
  dues-may-give dues (Ok place) a = may-give-all cache tick cells nows p q _ _ a.sync
  dues-may-give dues (Err io.Failed) a = may-give-all cache tick cells nows p q _ _ a.0.sync
  dues-may-give dues (Err io.NoMemory) a = ⊎_elim (λ s. may-give-all cache tick cells nows p q _ _ s.sync) (λ s. may-give-all cache tick cells nows p q _ _ s.sync) a.0

  -- what the party claims is as before
  pub dues-claims : (dues : List Due) (result : Result ℕ IoFault) → AnswersDues pool cache group tick next cells nows dues before now p q result → q.own.ledger.claims ≡ p.own.ledger.claims
  dues-claims dues (Ok place) a = a.sync.holding.claims
  dues-claims dues (Err io.Failed) a = a.0.sync.holding.claims
  dues-claims dues (Err io.NoMemory) a = ⊎_elim (λ s. s.sync.holding.claims) (λ s. s.sync.holding.claims) a.0

  pub dues-number : (dues : List Due) (result : Result ℕ IoFault) → AnswersDues pool cache group tick next cells nows dues before now p q result → q.number ≡ p.number
  dues-number dues (Ok place) a = a.sync.holding.number
  dues-number dues (Err io.Failed) a = a.0.sync.holding.number
  dues-number dues (Err io.NoMemory) a = ⊎_elim (λ s. s.sync.holding.number) (λ s. s.sync.holding.number) a.0
