-- A scan whose event is made, and all given back.
use Rattle.std.specs.Prelude.{◌≡◌, ℕ, false, IsTrue, List, [], ◌∷◌, ◌++◌, length, None, Some}
use Rattle.blk_ptr.specs.declared.key.Key.{Key}
use Rattle.arc_lists.specs.Sequences.{stands_on}
use Rattle.arc_core.specs.declared.config.Config.{Config}
use Rattle.arc_core.specs.declared.event.Event.{Event}
use Rattle.arc_core.specs.Operations.{event_key, is_about}
use Rattle.arc_core.specs.PlainShard.{entry_of}
use Rattle.arc_core.specs.Replay.{is_legal_history, replay}
use Rattle.arc_core.specs.ShardLog.{AreAllNamed, Makes, ShardLog}
use Rattle.arc_core.specs.Step.{legal}
use Rattle.hash_chain.specs.Chain.{Chain, header_at}
use Rattle.turn_table.specs.Places.{Place, gave_back}
use Rattle.arc_table.specs.declared.scan.Scan.{Scan}
use Rattle.arc_table.specs.declared.view.Known.{Known}
use Rattle.arc_table.specs.Both.{TakesBoth}
use Rattle.arc_table.specs.Fronts.{item_at}
use Rattle.arc_table.specs.Geometry.{IsBucket, bucket_turn, shard_turn}
use Rattle.arc_table.specs.pact.Headed.{IsHead}
use Rattle.arc_table.specs.Items.{Meanings}
use Rattle.arc_table.specs.scans.Scanning.{takes_room, AllPairs, AreApart, AreOfOthers, ArePasses, MayScan, Scans, after_scan, gave_all, pairs_of}
use Rattle.arc_table.specs.ShardGiving.{IsActor, after_shard}
use Rattle.arc_table.specs.scans.Sparing.{turns_in}

module _ {C : Type 0} (m : Meanings C) where
  -- The party p began a scan with this bucket of the event's key, and has named the victims: it is q, and the shard was l. The event is
  -- made since, and the key's header says what its entry does
  pub record HasMade (g : Config) (e : Event) (passes : List Event) (p q : Place (Known C)) (l : ShardLog) (chain : Chain) (s : Scan) : Type 0 where
    pub may : MayScan g s.both.turn ((s.both.hand.own.turn, chain) ∷ []) s.both.hand.before.value p
    pub scan : Scans m g s.both.turn ((s.both.hand.own.turn, chain) ∷ []) s.both.hand.before.value p q l l.marked (pairs_of s.both.hand.victims.items) passes
    pub takes : IsTrue (takes_room e)
    pub legal : IsTrue (legal l.now e)
    pub named : AreAllNamed e l
    pub makes : Makes e l s.both.shard
    pub keys : (k : Key) → stands_on k s.marked.items ≡ stands_on k l.marked
    pub actor : IsActor g q.number q.held s.both.turn e
    pub about : (k : Key) → event_key e ≡ Some k → s.both.hand.own.turn ≡ bucket_turn g k
    pub own_header : (k : Key) → event_key e ≡ Some k → IsHead (entry_of k s.both.shard.now) (header_at k s.both.hand.own.bucket.headers)
    pub other_headers : (k : Key) → is_about k e ≡ false → header_at k s.both.hand.own.bucket.headers ≡ header_at k chain.headers

  -- The party q, with the shard of the turn i and these buckets' turns in hand, made these events of the shard and gave all back: it is r
  pub record GivesAll (i : ℕ) (turns : List ℕ) (before : ShardLog) (es : List Event) (after : ShardLog) (q r : Place (Known C)) : Type 0 where
    pub given : List (ℕ × Chain)
    pub same : turns_in given ≡ turns
    pub gave : r ≡ gave_all given (gave_back q i (after_shard m given i before es after q.own))

  -- The party q, with the key's bucket and its shard in hand, scanned for victims: it won the buckets of some, and passed those that other
  -- parties had. It made the passes and then this event, each legal when it came, and gave all back: it is r
  pub record MakesRoomy (g : Config) (k : Key) (before : ShardLog) (e : Event) (q r : Place (Known C)) : Type 0 where
    pub won : List (ℕ × Chain)
    pub passes : List Event
    pub after : ShardLog
    pub buckets : AllPairs (λ j b. IsBucket g j) won
    -- no bucket stands twice among these and the key's
    pub first : item_at (bucket_turn g k) won ≡ None
    pub apart : AreApart won
    pub own : ArePasses g q.number (shard_turn g k) passes
    pub others : AreOfOthers q passes
    pub legal : IsTrue (is_legal_history before.now (passes ++ e ∷ []))
    pub now : after.now ≡ replay before.now (passes ++ e ∷ [])
    pub history : after.history ≡ before.history ++ (passes ++ e ∷ [])
    pub gives : GivesAll (shard_turn g k) (bucket_turn g k ∷ turns_in won) before (passes ++ e ∷ []) after (after_scan m g (shard_turn g k) (length before.history) won passes q) r

  -- The party p took the bucket and the shard of the key, scanned for victims, made the passes and this event, and gave all back: it is r
  pub record DoesRoomy (g : Config) (k : Key) (e : Event) (p r : Place (Known C)) : Type 0 where
    pub chain : Chain
    pub before : ShardLog
    pub reached : Place (Known C)
    pub takes : TakesBoth m g k chain before p reached
    pub makes : MakesRoomy g k before e reached r
