-- A feed's scan of one shard. It holds the shard and tries the bucket of each candidate: where it wins the bucket, the key is picked with
-- the block that its header has, and the bucket is given back at once; a key whose bucket another party has is passed.
use Rattle.std.specs.Prelude.{◌≡◌, ◌+◌, ℕ, ◌≤◌, ◌*◌, IsTrue, List, [], ◌∷◌, ◌++◌, count_by, length, Some, take}
use mathlib.Core.Option.{some}
use lib.ListN.{get_elem?}
use Rattle.blk_ptr.specs.declared.key.Key.{Key}
use Rattle.blk_ptr.specs.Key.{is_well_formed}
use Rattle.blk_ptr.specs.Ptr.{sha256_of}
use Rattle.arc_core.specs.declared.config.Config.{Config}
use Rattle.arc_core.specs.Config.{IsConfig}
use Rattle.arc_core.specs.declared.entry.Phase.TheVariants.{Idle}
use Rattle.arc_core.specs.declared.entry.Picked.{Picked as Pick_of}
use Rattle.arc_core.specs.declared.event.Event.{Event}
use Rattle.arc_core.specs.declared.event.Event.TheVariants.{FeedEnd, Pass, Pick}
use Rattle.arc_core.specs.Candidate.{may_be_picked}
use Rattle.arc_core.specs.PlainShard.{PlainShard}
use Rattle.arc_core.specs.Replay.{is_legal_history, replay}
use Rattle.arc_core.specs.ShardLog.{ShardLog, IsReplayed}
use Rattle.arc_core.specs.Step.{may_pick}
use Rattle.turn_table.specs.Places.{Place, gave_back}
use Rattle.arc_table.specs.declared.item.Item.TheVariants as item
use Rattle.arc_table.specs.declared.picks.Feed.{Feed}
use Rattle.arc_table.specs.declared.picks.Picked.{Picked}
use Rattle.arc_table.specs.declared.view.Known.{Known}
use Rattle.arc_table.specs.declared.view.Note.{Note}
use Rattle.arc_table.specs.Booking.{digest_at}
use Rattle.arc_table.specs.Both.{Takes}
use Rattle.arc_table.specs.feeder.Feeding.{IsPicked}
use Rattle.arc_table.specs.Fronts.{front_of, item_at, list_at}
use Rattle.arc_table.specs.Geometry.{IsBucket, IsCell, bucket_turn, shard_turn}
use Rattle.arc_table.specs.Items.{Meanings}
use Rattle.arc_table.specs.scans.Scanning.{AreOfOthers, MayScan, notes_of}
use Rattle.arc_table.specs.ShardGiving.{after_shard}
use Rattle.arc_table.specs.Views.{note, under_of}

-- these are picks and passes of n, of keys of the shard of the turn i
abbrev pub ArePicks : Config → (n turn : ℕ) → List Event → Type 0
ArePicks g n i [] = Unit {0}
ArePicks g n i (Pass a k owner ∷ es) = ((a ≡ n) × (i ≡ shard_turn g k)) × ArePicks g n i es
ArePicks g n i (Pick a k ∷ es) = ((a ≡ n) × (i ≡ shard_turn g k)) × ArePicks g n i es
ArePicks g n i (_ ∷ es) = ⊥

-- these are the blocks of the picks of the shard of the turn i: each has the key, which is the shard's and whose numbers are in their
-- ranges, its size, and the digest that it was picked with
pub record IsPickOf (g : Config) (i : ℕ) (pick : Pick_of) (x : Picked) : Type 0 where
  pub key : x.key ≡ pick.key
  pub own : i ≡ shard_turn g x.key
  pub formed : IsTrue (is_well_formed x.key)
  pub digest : pick.digest ≡ Some (sha256_of x.block.value)
  pub size : length x.block.value ≡ pick.key.size

abbrev pub ArePicksOf : Config → (turn : ℕ) → List Pick_of → List Picked → Type 0
ArePicksOf g i [] [] = Unit {0}
ArePicksOf g i (p ∷ ps) (x ∷ xs) = IsPickOf g i p x × ArePicksOf g i ps xs
ArePicksOf g i _ _ = ⊥

module _ {C : Type 0} where
  -- The party was q, and has tried buckets since, and given back those that it won: it is r. It has the turns that it had, and the shard
  -- of the turn i as it took it; what it has made and begun, and what it lists for its cells, are as they were.
  pub record HasTried (g : Config) (i : ℕ) (before : ShardLog) (more : List Note) (q r : Place (Known C)) : Type 0 where
    pub table : r.table ≡ q.table
    pub parties : r.parties ≡ q.parties
    pub number : r.number ≡ q.number
    pub joined : r.joined ≡ q.joined
    pub held : r.held ≡ q.held
    pub own_number : r.own.number ≡ q.own.number
    pub about : r.own.about ≡ q.own.about
    pub mine : r.own.mine ≡ q.own.mine
    pub ledger : r.own.ledger ≡ q.own.ledger
    pub recorded : item_at i r.own.records ≡ Some (item.Shard before)
    pub under : under_of r.own.records ≡ Some (i, length before.history)
    pub listed : list_at i r.own.listed ≡ []
    pub records : (j : ℕ) → IsCell g j → item_at j r.own.records ≡ item_at j q.own.records
    pub lists : (j : ℕ) → IsCell g j → list_at j r.own.listed ≡ list_at j q.own.listed
    pub seen : (j : ℕ) → ¬ IsBucket g j → front_of j r.own.seen ≡ front_of j q.own.seen
    pub notes : r.own.notes ≡ q.own.notes ++ more

-- the turn of the shard of this number
abbrev pub nth_shard_turn : Config → ℕ → ℕ
nth_shard_turn g s = g.cells + (g.shards * g.buckets + s)

-- these bytes have the key's size and the digest that its entry has
pub record IsBlockOf (k : Key) (s : PlainShard) (bytes : List ℕ) : Type 0 where
  pub digest : digest_at k s ≡ Some (sha256_of bytes)
  pub size : length bytes ≡ k.size

-- how many entries the feed may pick still, as far as the bounds go
abbrev pub left_to_pick : PlainShard → ℕ
left_to_pick s = count_by (λ e. may_be_picked s e.key) s.entries

module _ {C : Type 0} (m : Meanings C) where
  -- The party p took the shard of the turn i, tried buckets, made these events, and gave the shard back: it is r
  pub record Feeds (g : Config) (i : ℕ) (es : List Event) (p r : Place (Known C)) : Type 0 where
    pub before : ShardLog
    pub after : ShardLog
    pub reached : Place (Known C)
    pub tried : Place (Known C)
    pub more : List Note
    pub takes : Takes m i (item.Shard before) p reached
    pub tries : HasTried g i before more reached tried
    pub legal : IsTrue (is_legal_history before.now es)
    pub now : after.now ≡ replay before.now es
    pub history : after.history ≡ before.history ++ es
    pub gave : r ≡ gave_back tried i (after_shard m [] i before es after tried.own)

  -- `pick`: the party made picks and passes and then the feed's end. Each pass has the note of its own lost try, and no other try was
  -- lost under the shard. `out` gained the blocks of what the party lists as picked there
  pub record PicksAll (g : Config) (i : ℕ) (p r : Place (Known C)) (old new : List Picked) : Type 0 where
    pub picks : List Event
    pub scan : ArePicks g p.number i picks
    pub feeds : Feeds g i (picks ++ FeedEnd p.number ∷ []) p r
    pub others : AreOfOthers feeds.reached picks
    pub notes : feeds.more ≡ notes_of g i (length feeds.before.history) picks
    pub gained : List Picked
    pub out : new ≡ old ++ gained
    pub blocks : ArePicksOf g i (list_at i r.own.ledger.picked) gained
    pub listed : (j : ℕ) (x : Picked) → get_elem? gained j ≡ some x → IsPicked g r x.key

  -- the shard was given back with these events, and picks
  pub record EndsFeed (f : Feed C) (es : List Event) (picked : List Pick_of) (r s : Place (Known C)) : Type 0 where
    pub after : ShardLog
    pub legal : IsTrue (is_legal_history f.before.value.now es)
    pub now : after.now ≡ replay f.before.value.now es
    pub history : after.history ≡ f.before.value.history ++ es
    pub picked_is : after.now.picked ≡ picked
    pub gave : s ≡ gave_back r f.turn (after_shard m [] f.turn f.before.value es after r.own)

module _ {C : Type 0} where
  -- all but the shard stays
  pub record KeepsFeed (f f' : Feed C) : Type 0 where
    pub turn : f'.turn ≡ f.turn
    pub before : f'.before ≡ f.before
    pub began : f'.began ≡ f.began
    pub had : f'.had ≡ f.had
    pub len : f'.len ≡ f.len

  -- ---- the scan in hand

  -- The feed has made these picks and passes, and the party is r
  pub record HasPicked (g : Config) (f : Feed C) (r : Place (Known C)) (es : List Event) : Type 0 where
    pub valid : IsConfig g
    pub may : MayScan g f.turn [] f.before.value f.began.value
    pub idle : f.before.value.now.phase ≡ Idle
    pub tried : HasTried g f.turn f.before.value (notes_of g f.turn (length f.before.value.history) es) f.began.value r
    pub picks : ArePicks g f.began.value.number f.turn es
    pub others : AreOfOthers f.began.value es
    pub legal : IsTrue (is_legal_history f.before.value.now es)
    pub now : f.shard.now ≡ replay f.before.value.now es
    pub history : f.shard.history ≡ f.before.value.history ++ es
    pub opening : f.shard.opening ≡ f.before.value.opening
    pub replayed : IsReplayed f.shard
    pub entries : f.shard.now.entries ≡ f.before.value.now.entries
    pub phase : IsTrue (may_pick f.shard.now.phase)
    pub long : f.len ≡ length f.before.value.history

  -- it has found the bucket of a key with another party since
  pub record HasNoted (g : Config) (f : Feed C) (r : Place (Known C)) (k : Key) (owner : ℕ) (es : List Event) : Type 0 where
    pub scan : (q : Place (Known C)) × HasPicked g f q es
    pub tried : HasTried g f.turn f.before.value (notes_of g f.turn (length f.before.value.history) es ++ note (bucket_turn g k) owner (Some (f.turn, length f.before.value.history)) ∷ []) f.began.value r

  -- the same, and there is room for the feed's end, and `out` has gained the blocks of what is picked since it had so many
  pub record IsFeeding (g : Config) (f : Feed C) (r : Place (Known C)) (out : List Picked) : Type 0 where
    pub es : List Event
    pub scan : HasPicked g f r es
    pub gained : List Picked
    pub had : f.had ≤ length out
    pub out_is : out ≡ take f.had out ++ gained
    pub blocks : ArePicksOf g f.turn f.shard.now.picked gained
