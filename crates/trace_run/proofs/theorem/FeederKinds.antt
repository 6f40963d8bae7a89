-- What the feeder makes with its own number: the events of feeds, the keys that it restores, and the capacities that it gives.
use Rattle.std.proofs.Common.{◌≡◌, ℕ, ◌==◌, Bool, true, false, List, [], ◌∷◌, refl, inl, inr}
use Rattle.std.specs.Prelude.{map}
use Rattle.std.specs.List.{AllByRecursion}
use Rattle.arc_lists.proofs.Tables.{cases_true}
use Rattle.blk_ptr.specs.declared.key.Key.{Key}
use Rattle.blk_ptr.specs.Hash.{shard_of}
use Rattle.arc_core.specs.declared.config.Config.{Config}
use Rattle.arc_core.specs.declared.event.Event.{Event}
use Rattle.arc_core.specs.declared.event.Event.TheVariants.{Pass, Hit, Miss, Arrive, Fail, Drop, Past, Hand, Insert, Release, Pick, FeedEnd, Set, Leave, Clear, Restore, Resize}
use Rattle.arc_core.specs.declared.served.Restored.{Restored}
use Rattle.arc_table.specs.declared.picks.Picked.{Picked as Block}
use Rattle.l2_feed.specs.Acts.{Absent, Act, Cleared, Left, Picked, Placed, Refused, Unpicked}
use Rattle.l2_feed.specs.Alone.{events_at}
use Rattle.l2_feed.specs.Told.{events_of, shard_of_act}
use Rattle.trace_text.specs.declared.op.Op.{Op}
use Rattle.trace_text.specs.declared.op.Op.TheVariants as ops
use Rattle.trace_text.specs.declared.reply.Reply.{Reply}
use Rattle.trace_run.specs.Acts.{events_of_feeder}
use Rattle.trace_run.specs.FeedEvents.{acts_of_first, events_of_line, events_of_lines, feeds_behind, was_fed}
use Rattle.trace_run.specs.Feeds.{FeedDone}
use Rattle.trace_run.specs.Restores.{events_by_feeder, restores_in}
use Rattle.trace_run.proofs.one_caller.TellLemmas.{all-append}

-- an event that the feeder makes with its own number
abbrev pub is_of_feeder : Event → Bool
is_of_feeder (Pass n k owner) = false
is_of_feeder (Hit n k t) = false
is_of_feeder (Miss n k t) = false
is_of_feeder (Arrive n k d from) = false
is_of_feeder (Fail n k at) = false
is_of_feeder (Drop n k) = false
is_of_feeder (Past n k kept) = false
is_of_feeder (Hand n k to) = false
is_of_feeder (Insert n k d t) = false
is_of_feeder (Release n k sole) = false
is_of_feeder (Pick n k) = true
is_of_feeder (FeedEnd n) = true
is_of_feeder (Set n k place) = true
is_of_feeder (Leave n k why) = true
is_of_feeder (Clear n k) = true
is_of_feeder (Restore n k place d) = true
is_of_feeder (Resize n c) = true

abbrev AreOfFeeder : List Event → Type 0
AreOfFeeder = AllByRecursion (λ e. is_of_feeder e ≡ true)

restores-kinds : (g : Config) (rs : List Restored) (shard : ℕ) → AreOfFeeder (restores_in g rs shard)
restores-kinds g [] shard = tt
restores-kinds g (r ∷ rs) shard = elim (cases_true (shard_of g.shards r.key == shard)) [
  | inl here ↦ rw here (refl, restores-kinds g rs shard)
  | inr out ↦ rw out (restores-kinds g rs shard)
]

picks-kinds : (n : ℕ) (keys : List Key) → AreOfFeeder (map (Pick n) keys)
picks-kinds n [] = tt
picks-kinds n (k ∷ keys) = (refl, picks-kinds n keys)

act-kinds : (n : ℕ) (act : Act) → AreOfFeeder (events_of n act)
act-kinds n (Picked shard blocks) = all-append (λ e. is_of_feeder e ≡ true) (map (Pick n) (map (λ (b : Block). b.key) blocks)) (FeedEnd n ∷ []) (picks-kinds n (map (λ (b : Block). b.key) blocks)) (refl, tt)
act-kinds n (Unpicked shard) = tt
act-kinds n (Cleared k place) = (refl, tt)
act-kinds n (Absent k place) = tt
act-kinds n (Refused k place) = tt
act-kinds n (Placed k place) = (refl, tt)
act-kinds n (Left k why) = (refl, tt)

acts-kinds : (g : Config) (n shard : ℕ) (acts : List Act) → AreOfFeeder (events_at g n shard acts)
acts-kinds g n shard [] = tt
acts-kinds g n shard (act ∷ acts) = elim (cases_true (shard_of_act g act == shard)) [
  | inl here ↦ rw here (all-append (λ e. is_of_feeder e ≡ true) (events_of n act) (events_at g n shard acts) (act-kinds n act) (acts-kinds g n shard acts))
  | inr out ↦ rw out (acts-kinds g n shard acts)
]

asked-kinds : (n : ℕ) (op : Op) → AreOfFeeder (events_of_feeder n op)
asked-kinds n (ops.Read m t x window) = tt
asked-kinds n (ops.Hold m t x) = tt
asked-kinds n (ops.Drop m x) = tt
asked-kinds n (ops.Get m t at window) = tt
asked-kinds n (ops.Put m t at size fill) = tt
asked-kinds n (ops.Patch m t at from bytes) = tt
asked-kinds n (ops.Pin m t at) = tt
asked-kinds n (ops.Unpin m at) = tt
asked-kinds n ops.Feed = tt
asked-kinds n (ops.Txg t) = tt
asked-kinds n (ops.Cap c) = (refl, tt)

line-kinds : (g : Config) (shard : ℕ) (op : Op) (reply : Reply) (feeds : List FeedDone) → AreOfFeeder (events_of_line g shard op reply feeds)
line-kinds g shard op reply feeds = elim (cases_true (was_fed op reply)) [
  | inl fed ↦ rw fed (acts-kinds g g.callers shard (acts_of_first feeds))
  | inr other ↦ rw other (asked-kinds g.callers op)
]

lines-kinds : (g : Config) (shard : ℕ) (os : List Op) (rs : List Reply) (feeds : List FeedDone) → AreOfFeeder (events_of_lines g shard os rs feeds)
lines-kinds g shard [] rs feeds = tt
lines-kinds g shard (o ∷ os) [] feeds = tt
lines-kinds g shard (o ∷ os) (r ∷ rs) feeds =
    all-append (λ e. is_of_feeder e ≡ true) (events_of_line g shard o r feeds) (events_of_lines g shard os rs (feeds_behind o r feeds)) (line-kinds g shard o r feeds) (lines-kinds g shard os rs (feeds_behind o r feeds))

-- all that it makes so
pub feeder-kinds : (g : Config) (restored : List Restored) (os : List Op) (rs : List Reply) (feeds : List FeedDone) (shard : ℕ) → AreOfFeeder (events_by_feeder g restored os rs feeds shard)
feeder-kinds g restored os rs feeds shard = all-append (λ e. is_of_feeder e ≡ true) (restores_in g restored shard) (events_of_lines g shard os rs feeds) (restores-kinds g restored shard) (lines-kinds g shard os rs feeds)
