-- The reads that a caller of the shared cache keeps, and the holds that its party lists for them.
use Rattle.std.specs.Prelude.{◌≡◌, ℕ, Bool, ◌&&◌, List, [], ◌∷◌, ◌++◌, ◌==◌, false, filter, count_by, Option, Some, None}
use Rattle.std.specs.List.{AllByRecursion}
use Rattle.std.specs.Option.{option_map_or}
use Rattle.blk_ptr.specs.declared.key.Key.{Key}
use Rattle.blk_ptr.specs.declared.ptr.Ptr.{Ptr}
use Rattle.blk_ptr.specs.Hash.{shard_of}
use Rattle.blk_ptr.specs.Order.{digest_eq, key_eq}
use Rattle.arc_core.specs.Config.{IsConfig}
use Rattle.arc_core.specs.declared.config.Config.{Config}
use Rattle.arc_core.specs.declared.event.Event.{Event}
use Rattle.arc_core.specs.declared.event.Event.TheVariants.{Drop}
use Rattle.arc_core.specs.Operations.{Act}
use Rattle.dbuf_cells.specs.declared.kept.Kept.{Kept}
use Rattle.dbuf_cells.specs.declared.kept.Kept.TheVariants.{Held, Loose}
use Rattle.turn_table.specs.declared.standing.Kept.{Kept as Joined}
use Rattle.turn_table.specs.Places.{Apart, Place}
use Rattle.arc_table.specs.declared.view.Known.{Known}
use Rattle.arc_table.specs.declared.view.Ledger.{Ledger}
use Rattle.arc_table.specs.Both.{Does}
use Rattle.arc_table.specs.Cache.{Cache, IsPartyOf}
use Rattle.arc_table.specs.Fronts.{list_at}
use Rattle.arc_table.specs.Holding.{ptr_of}
use Rattle.arc_table.specs.Items.{Meanings}
use Rattle.trace_run.specs.declared.kept_blocks.KeptBlock.{KeptBlock}
use Rattle.trace_run.specs.KeptReads.{KeptRead, kept_read}
use Rattle.trace_run.specs.one_caller.OneCaller.{events_of_drops}
use Rattle.arc_table.specs.Seen.{AddsAll, HasAll, HasSeenItsEntries, seen_of}
use Rattle.trace_run.specs.one_caller.Access.{events_of_drop}
use Rattle.trace_run.specs.Acts.{acts_of_drop}
use Rattle.trace_run.specs.Deeds.{HasToldAll, KeepsCells, Noted, SameCells}
use Rattle.trace_run.specs.Making.{HasSeenItsEvents}

-- the key of the entry that is held for a kept block: a loose one holds none
abbrev pub held_key : Kept → Option Key
held_key (Held hold) = Some hold.key
held_key (Loose key block) = None

-- the plain read that is kept
abbrev pub read_of : KeptBlock → KeptRead
read_of b = kept_read b.block (held_key b.kept)

-- what a party lists for kept blocks
abbrev pub listed_for : Kept → List Ptr
listed_for (Held hold) = ptr_of hold ∷ []
listed_for (Loose key block) = []

abbrev pub listed_all : List KeptBlock → List Ptr
listed_all [] = []
listed_all (b ∷ bs) = listed_for b.kept ++ listed_all bs

-- no read is of the block
abbrev pub AreOfOthers : ℕ → List KeptBlock → Type 0
AreOfOthers n = AllByRecursion (λ (b : KeptBlock). b.block ≡ n → ⊥)

-- the new reads are the old ones without this one, the oldest of its block
pub record IsTakenOut (n : ℕ) (read : KeptBlock) (old new : List KeptBlock) : Type 0 where
  pub front : List KeptBlock
  pub rest : List KeptBlock
  pub before : old ≡ front ++ read ∷ rest
  pub after : new ≡ front ++ rest
  pub oldest : AreOfOthers n front
  pub block : read.block ≡ n

-- how often a pointer is listed
abbrev pub is_ptr : Ptr → Ptr → Bool
is_ptr x y = key_eq x.key y.key && digest_eq x.digest y.digest

abbrev pub times : Ptr → List Ptr → ℕ
times x xs = count_by (is_ptr x) xs

-- a hold has this owner
abbrev pub IsOwnedBy : ℕ → Kept → Type 0
IsOwnedBy n (Held hold) = hold.owner ≡ n
IsOwnedBy n (Loose key block) = Unit {0}

-- a party holds nothing and reads nothing
pub record IsIdle (l : Ledger) : Type 0 where
  pub holds : l.holds ≡ []
  pub readings : l.readings ≡ []

-- a party claims nothing of any cell
abbrev pub ClaimsNothing : Ledger → Type 0
ClaimsNothing l = (i : ℕ) → list_at i l.claims ≡ []

module _ {C : Type 0} where
  -- the parties that another keeps by a join read nothing and claim nothing
  abbrev pub AllQuiet : List (Joined (Known C)) → Type 0
  AllQuiet [] = Unit {0}
  AllQuiet (k ∷ ks) = (k.view.ledger.readings ≡ []) × ClaimsNothing k.view.ledger × AllQuiet ks

  -- The party is one of the cache, has no turn in hand, reads nothing just now and claims nothing, has seen all that it made of shards and of cells, and
  -- holds what is kept, each as often as it is kept. Those that it keeps by a join have other numbers, read nothing and claim nothing; they may hold
  -- something.
  pub record Stands (cache : Cache) (p : Place (Known C)) (kept : List KeptBlock) : Type 0 where
    pub valid : IsConfig cache.config
    pub of : IsPartyOf cache p
    pub free : p.held ≡ []
    pub cells : HasSeenItsEntries cache.config p
    pub idle : p.own.ledger.readings ≡ []
    pub unclaimed : ClaimsNothing p.own.ledger
    pub seen : HasSeenItsEvents cache.config p
    pub apart : Apart p.number p.joined
    pub joined : AllQuiet p.joined
    pub owned : AllByRecursion (λ b. IsOwnedBy p.number b.kept) kept
    pub listed : (x : Ptr) → times x p.own.ledger.holds ≡ times x (listed_all kept)

module _ {C : Type 0} (m : Meanings C) where
  -- what is kept of a block is given back: a hold by one event, and a loose block by none
  abbrev pub GivesKeptBack : Config → Kept → Place (Known C) → Place (Known C) → Type 0
  GivesKeptBack g (Held hold) p q = Does m g hold.key (Drop hold.owner hold.key ∷ []) p q
  GivesKeptBack g (Loose key block) p q = q ≡ p

-- ---- what a line adds to what its party has seen

module _ {C : Type 0} where
  -- In one shard the party's own number has these acts more. A party that has every number has seen just these events more, and in no other shard any; of cells it has seen what it had.
  pub record Adds (g : Config) (shard : ℕ) (acts : List Act) (es : List Event) (p q : Place (Known C)) : Type 0 where
    pub number : q.number ≡ p.number
    pub told : (before : List Act) (noted : List Noted) → HasToldAll g before noted p → HasToldAll g (before ++ acts) noted q
    pub keeps : KeepsCells g p q
    pub cells : SameCells g p q
    pub alone : HasAll p → AddsAll g shard es p q
    pub all : HasAll p → HasAll q
    pub joined : q.joined ≡ p.joined

  -- the hold on the entry of this key was given back, where there was one
  abbrev pub Drops : Config → Option Key → Place (Known C) → Place (Known C) → Type 0
  Drops g None p q = q ≡ p
  Drops g (Some k) p q = Adds g (shard_of g.shards k) (acts_of_drop p.number (Some k)) (events_of_drop p.number (Some k)) p q

-- ---- all that is kept is given back

-- the kept reads that hold an entry of this shard
abbrev pub held_in_shard : Config → (shard : ℕ) → List KeptRead → List KeptRead
held_in_shard g shard = filter (λ (read : KeptRead). option_map_or (λ k. shard_of g.shards k == shard) read.held false)

module _ {C : Type 0} (m : Meanings C) where
  -- what is kept is given back, one read after another
  abbrev pub GivesAll : Config → List KeptBlock → Place (Known C) → Place (Known C) → Type 0
  GivesAll g [] p q = q ≡ p
  GivesAll g (b ∷ bs) p q = (r : Place (Known C)) × GivesKeptBack m g b.kept p r × GivesAll g bs r q

module _ {C : Type 0} where
  -- A party that has every number has seen just the drops of these reads more, each in the shard of its entry.
  pub record DroppedAlone (g : Config) (reads : List KeptRead) (p q : Place (Known C)) : Type 0 where
    pub all : HasAll q
    pub seen : (shard : ℕ) → seen_of g shard q ≡ seen_of g shard p ++ events_of_drops p.number (held_in_shard g shard reads)
