-- What a sync comes to between two groups: its work, where its Inserts stand, and the cells that it took.
use Rattle.std.proofs.Common.{◌≡◌, ◌⊎◌, ◌==◌, ℕ, zero, suc, ◌<◌, true, false, if◌then◌else◌, List, [], ◌∷◌, ◌++◌, Result, Ok, Err, refl, sym, ap, ◌∙◌, subst, inl, inr, arith, append-nil, ne_eqb}
use Rattle.std.specs.Prelude.{slice_index_or}
use Rattle.std.specs.List.{AllByRecursion}
use Rattle.std.proofs.lemmas.Bool.{false≢true}
use Rattle.std.proofs.lemmas.Option.{slice_get_within}
use Rattle.std.specs.Option.{option_map_or}
use mathlib.Core.Option.{some, some-injective, some-ne-none}
use lib.ListN.{get_elem?}
use Rattle.arc_lists.proofs.Tables.{cases_true}
use Rattle.blk_ptr.specs.Hash.{shard_of}
use Rattle.blk_ptr.specs.declared.key.Key.{Key}
use Rattle.arc_core.specs.Operations.{acts_in, event_key, number_of, own_events}
use Rattle.arc_core.specs.declared.config.Config.{Config}
use Rattle.arc_core.specs.declared.event.Event.{Event}
use Rattle.arc_table.specs.Cache.{Cache}
use Rattle.arc_table.specs.Fronts.{StartsWith, front_of}
use Rattle.arc_table.specs.Geometry.{IsCell, cell_number, parties_of}
use Rattle.dbuf_cells.specs.Turns.{OnHeap, PartyPlace}
use Rattle.txg_sync.specs.Items.{SyncItem, items_from}
use Rattle.txg_sync.specs.Syncing.{AnswersWith}
use Rattle.txg_sync.specs.Turns.{synced_in}
use Rattle.txg_sync.specs.declared.syncing.SyncFault.{SyncFault}
use Rattle.txg_sync.specs.declared.syncing.SyncFault.TheVariants as fault
use Rattle.txg_sync.specs.declared.syncing.Synced.{Synced as SyncAnswer}
use Rattle.vdev_io.specs.declared.pool.Pool.{Ghosts}
use Rattle.trace_run.specs.declared.groups.Crew.{Crew}
use Rattle.trace_run.specs.dbufs.CellEnds.{done_by}
use Rattle.trace_run.specs.Deeds.{acts_of_events, events_of_cell, events_there, lines_of_cell, with_number}
use Rattle.trace_run.specs.MadeLines.{made_of}
use Rattle.trace_run.specs.dbufs.Objects.{Line, Nothing, Work}
use Rattle.trace_run.specs.Openings.{Knows}
use Rattle.trace_run.specs.RunWork.{IsInserted, IsSyncWork, IsSyncedNote, lines_of_caller, lines_of_feeder}
use Rattle.trace_run.specs.Syncing.{HasDoneTo, IsInsert, SyncedJoined, SyncsJoined, comes_in, insert_of, inserts_in, inserts_noted, lines_of, noted_of, wants_memory, AreHeldNew}
use Rattle.trace_run.specs.callers.Groups.{StoodSo}
use Rattle.trace_run.specs.callers.WorkLines.{noted_of_work}
use Rattle.trace_run.proofs.callers.MeetLemmas.{starts-then}
use Rattle.trace_run.proofs.syncs.SyncTold.{inserts-acts}

-- ---- its work

-- n noted these blocks and made these Inserts of them
abbrev pub sync_work : (n : ℕ) → List SyncItem → List Event → Work
sync_work n xs inserts = record { brought = Nothing; noted = noted_of n xs; acts = acts_of_events inserts }

module _ (g : Config) where
  notes-fit : (xs : List SyncItem) → AllByRecursion (λ x. IsCell g x.due.cell) xs → AllByRecursion (IsSyncedNote g) (noted_of g.callers xs)
  notes-fit [] inside = tt
  notes-fit (x ∷ xs) inside = (record { at = x.due.at; ptr = x.ptr; held = x.held; is = refl; cell = inside.0 }, notes-fit xs inside.1)

  acts-fit : (es : List Event) → AllByRecursion (IsInsert g) es → AllByRecursion (IsInserted g) (acts_of_events es)
  acts-fit [] kinds = tt
  acts-fit (e ∷ es) kinds =
      let i = kinds.0 in
      subst (λ (x : Event). AllByRecursion (IsInserted g) (acts_of_events (x ∷ es))) (sym i.4)
      (record { cell = i.0; tick = i.3; ptr = record { key = i.1; digest = i.2 }; is = refl; in_range = i.5 }, acts-fit es kinds.1)

  pub sync-fits : (xs : List SyncItem) (es : List Event) → AllByRecursion (λ x. IsCell g x.due.cell) xs → AllByRecursion (IsInsert g) es → IsSyncWork g (sync_work g.callers xs es)
  sync-fits xs es inside kinds = record { brought = refl; synced = notes-fit xs inside; inserted = acts-fit es kinds }

  -- ---- where its Inserts stand

  -- the notes tell of them
  pub noted-inserts : (tick n : ℕ) (xs : List SyncItem) (shard : ℕ) (history : List Event) → inserts_noted g tick (noted_of n xs) shard history ≡ inserts_in g tick xs shard history
  noted-inserts tick n [] shard history = refl
  noted-inserts tick n (x ∷ xs) shard history = go (cases_true (comes_in g shard history x)) (noted-inserts tick n xs shard)
    where
      go : (comes_in g shard history x ≡ true) ⊎ (comes_in g shard history x ≡ false) → ((before : List Event) → inserts_noted g tick (noted_of n xs) shard before ≡ inserts_in g tick xs shard before)
          → inserts_noted g tick (noted_of n (x ∷ xs)) shard history ≡ inserts_in g tick (x ∷ xs) shard history
      go (inl comes) rest =
          (λ i. (if comes i then (insert_of g tick x ∷ []) else []) ++ inserts_noted g tick (noted_of n xs) shard (history ++ (if comes i then (insert_of g tick x ∷ []) else [])))
          ∙ (ap (λ (l : List Event). insert_of g tick x ∷ l) (rest (history ++ insert_of g tick x ∷ []))
          ∙ (λ i. if sym comes i then (insert_of g tick x ∷ inserts_in g tick xs shard (history ++ insert_of g tick x ∷ [])) else inserts_in g tick xs shard history))
      go (inr stays) rest =
          (λ i. (if stays i then (insert_of g tick x ∷ []) else []) ++ inserts_noted g tick (noted_of n xs) shard (history ++ (if stays i then (insert_of g tick x ∷ []) else [])))
          ∙ (ap (inserts_noted g tick (noted_of n xs) shard) (append-nil history) ∙ (rest history
          ∙ (λ i. if sym stays i then (insert_of g tick x ∷ inserts_in g tick xs shard (history ++ insert_of g tick x ∷ [])) else inserts_in g tick xs shard history)))

  -- none is a party's own
  own-none : (n : ℕ) (es : List Event) → n < parties_of g → AllByRecursion (IsInsert g) es → (shard : ℕ) → own_events n (events_there g shard es) ≡ []
  own-none n [] low kinds shard = refl
  own-none n (e ∷ es) low kinds shard =
      let far : (number_of e == n) ≡ false = ne_eqb (number_of e) n (λ same. let is = ap number_of kinds.0.4 in omega (arith, same, is, low)) in
      elim (cases_true (option_map_or (λ (k : Key). shard_of g.shards k == shard) (event_key e) false)) [
        | inl here ↦ rw (here, far) (own-none n es low kinds.1 shard)
        | inr out ↦ rw out (own-none n es low kinds.1 shard)
      ]

module _ (cache : Cache) (tick : ℕ) (p : PartyPlace) (olds : List PartyPlace) (q : PartyPlace) (news : List PartyPlace) (cells : List OnHeap) (xs : List SyncItem) (j : SyncsJoined cache tick p olds q news cells xs) where
  abbrev g : Config
  g = cache.config

  abbrev pub more : (shard : ℕ) → List Event
  more shard = inserts_in g tick xs shard (j.front shard)

  abbrev pub work : Work
  work = sync_work g.callers xs j.inserts

  pub work-fits : IsSyncWork g work
  work-fits = sync-fits g xs j.inserts j.inside j.kinds

  pub none-own : (shard : ℕ) → own_events g.callers (more shard) ≡ []
  none-own shard = ap (own_events g.callers) (sym (j.are shard)) ∙ own-none g g.callers j.inserts (omega arith) j.kinds shard

  pub more-noted : (shard : ℕ) → more shard ≡ inserts_noted g tick work.noted shard (j.front shard)
  more-noted shard = sym (noted-inserts g tick g.callers xs shard (j.front shard))

  -- each keeps a hold where its key was new
  pub held-noted : p.number ≡ g.callers → (shard : ℕ) → AreHeldNew g tick work.noted shard (j.front shard)
  held-noted feeder shard = subst (λ (n : ℕ). AreHeldNew g tick (noted_of n xs) shard (j.front shard)) feeder (j.held shard)

  pub more-acts : (shard i : ℕ) → IsCell g i → acts_in (shard_of g.shards) shard (cell_number g i) work.acts ≡ acts_of_events (with_number (cell_number g i) (more shard))
  more-acts shard i range = inserts-acts g shard (cell_number g i) j.inserts j.kinds ∙ ap (λ (es : List Event). acts_of_events (with_number (cell_number g i) es)) (j.are shard)

-- ---- the cells that it took

-- these lines are told of callers and feeder, as far as cells go
pub record AreToldOf (cache : Cache) (before : List Line) (crew : Crew OnHeap) : Type 0 where
  pub number : crew.feeder.number ≡ cache.config.callers
  pub callers : (n : ℕ) → n < cache.config.callers
      → (o : PartyPlace) × (get_elem? crew.parties.items n ≡ some o) × (o.number ≡ n) × ((i : ℕ) → IsCell cache.config i → made_of i o ≡ lines_of_cell i (noted_of_work (lines_of_caller n before)))
  pub feeder : (i : ℕ) → IsCell cache.config i → made_of i crew.feeder ≡ lines_of_cell i (noted_of_work (lines_of_feeder before))

all-at : {X : Type 0} (P : X → Type 0) (xs : List X) (n : ℕ) (x : X) → AllByRecursion P xs → get_elem? xs n ≡ some x → P x
all-at P [] n x all at = absurd (some-ne-none x (sym at))
all-at P (y ∷ ys) zero x all at = subst P (some-injective y x at) all.0
all-at P (y ∷ ys) (suc n) x all at = all-at P ys n x all.1 at

module _ (cache : Cache) (openings : List (List ℕ)) (before : List Line) (old : Crew OnHeap) (told : AreToldOf cache before old) (knows : Knows openings old.feeder) (tick : ℕ) (q : PartyPlace) (news : List PartyPlace) (cells : List OnHeap) (xs : List SyncItem)
    (j : SyncsJoined cache tick old.feeder old.parties.items q news cells xs) where
  abbrev gc : Config
  gc = cache.config

  pub sync-stood : StoodSo openings gc q before tick (sync_work gc.callers xs j.inserts) cells xs
  sync-stood = record {
    many = j.count;
    sound = j.sound;
    began = λ i c at. j.began i c at ∙ ap (λ (os : List (List ℕ)). slice_index_or os i []) knows;
    seen = λ i c at. ([], j.noted i c at ∙ (ap (λ (n : ℕ). lines_of c.value.history ++ lines_of (synced_in n i xs)) told.number ∙ sym (append-nil (lines_of c.value.history ++ lines_of (synced_in gc.callers i xs)))));
    did = λ i c at n below.
        let o = told.callers n below in
        let had = all-at (HasDoneTo gc cells) old.parties.items n o.0 j.did.1 o.1 in
        subst (λ (k : ℕ). done_by k c.value.history ≡ events_of_cell i (noted_of_work (lines_of_caller n before))) o.2 (had (noted_of_work (lines_of_caller n before)) o.3 i c at);
    fed = λ i c at. subst (λ (k : ℕ). done_by k c.value.history ≡ events_of_cell i (noted_of_work (lines_of_feeder before))) told.number (j.did.0 (noted_of_work (lines_of_feeder before)) told.feeder i c at);
    noted = refl;
  }

-- a party that has seen more of each cell has seen that too
pub stood-more : (openings : List (List ℕ)) (g : Config) (p q : PartyPlace) → ((i : ℕ) → IsCell g i → StartsWith (front_of i q.own.seen) (front_of i p.own.seen))
    → (before : List Line) (tick : ℕ) (work : Work) (cells : List OnHeap) (xs : List SyncItem) → StoodSo openings g p before tick work cells xs → StoodSo openings g q before tick work cells xs
stood-more openings g p q starts before tick work cells xs s = record {
  many = s.many;
  sound = s.sound;
  began = s.began;
  seen = λ i c at.
      let within = slice_get_within cells i c at in
      let range : IsCell g i = let e = s.many in omega (arith, within, e) in
      starts-then (front_of i q.own.seen) (front_of i p.own.seen) (lines_of c.value.history ++ lines_of (synced_in g.callers i xs)) (starts i range) (s.seen i c at);
  did = s.did;
  fed = s.fed;
  noted = s.noted;
}

-- ---- the sync

-- What it came to, with the cells and the blocks: whatever else is so of these may be said of its answer.
pub record SyncOf {P : Type 0} (pools : Ghosts P) (cache : Cache) (group tick next : ℕ) (from to : P) (p : PartyPlace) (olds : List PartyPlace) (q : PartyPlace) (news : List PartyPlace) (came : Result SyncAnswer SyncFault) : Type 1 where
  pub cells : List OnHeap
  pub xs : List SyncItem
  pub joined : SyncsJoined cache tick p olds q news cells xs
  pub answers : (So : List OnHeap → List SyncItem → Type 0) → So cells xs → AnswersWith pools group next from to cache.config (λ cs ys Besides. So cs ys) came

pub sync-of : {P : Type 0} (pools : Ghosts P) (cache : Cache) (group tick next : ℕ) (from to : P) (p : PartyPlace) (olds : List PartyPlace) (q : PartyPlace) (news : List PartyPlace) (came : Result SyncAnswer SyncFault)
    → wants_memory came ≡ false → SyncedJoined pools cache group tick next from to p olds q news came → SyncOf pools cache group tick next from to p olds q news came
sync-of pools cache group tick next from to p olds q news (Ok done) fine w = record {
  cells = w.cells;
  xs = items_from w.held group next w.cells w.dues;
  joined = w.turns;
  answers = λ So so. record {
    cells = w.cells;
    dues = w.dues;
    dirty = w.dirty;
    sized = w.sized;
    fits = w.fits;
    held = w.held;
    turns = so;
    told = w.told;
    outside = w.outside;
    others = w.others;
    blocks = w.blocks;
    bytes = w.bytes;
    next_is = w.next_is;
  };
}
sync-of pools cache group tick next from to p olds q news (Err fault.PoolFault) fine f = record {
  cells = f.stops.cells;
  xs = items_from f.stops.held group next f.stops.cells f.stops.done;
  joined = f.stops.turns;
  answers = λ So so. record {
    stops = record {
      cells = f.stops.cells;
      done = f.stops.done;
      due = f.stops.due;
      rest = f.stops.rest;
      dirty = f.stops.dirty;
      fits = f.stops.fits;
      held = f.stops.held;
      turns = so;
      told = f.stops.told;
    };
    outside = f.outside;
    others = f.others;
  };
}
sync-of pools cache group tick next from to p olds q news (Err (fault.PoolFull need left)) fine f = record {
  cells = f.cells;
  xs = [];
  joined = f.turns;
  answers = λ So so. record {
    cells = f.cells;
    dues = f.dues;
    dirty = f.dirty;
    need_is = f.need_is;
    left_is = f.left_is;
    full = f.full;
    turns = so;
    told = f.told;
    outside = f.outside;
    others = f.others;
  };
}
sync-of pools cache group tick next from to p olds q news (Err fault.NoMemory) fine f = absurd (false≢true (sym fine))
