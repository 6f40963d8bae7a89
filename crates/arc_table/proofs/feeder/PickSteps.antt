-- One candidate of a feed is passed or picked: what is owed before, and what is so after.
use Rattle.std.proofs.Common.{◌≡◌, ◌≢◌, ℕ, ◌<◌, ◌≤◌, List, [], ◌∷◌, ◌++◌, Some, true, sym, ap, ◌∙◌, subst}
use Rattle.std.specs.Prelude.{IsTrue, not}
use Rattle.blk_ptr.specs.declared.key.Key.{Key}
use Rattle.arc_core.specs.declared.config.Config.{Config}
use Rattle.arc_core.specs.declared.event.Event.{Event}
use Rattle.arc_core.specs.declared.event.Event.TheVariants.{Pass, Pick}
use Rattle.arc_core.specs.Candidate.{candidate, may_be_picked}
use Rattle.arc_core.specs.PlainShard.{PlainShard, numbers}
use Rattle.arc_core.specs.ShardLog.{Makes, ShardLog}
use Rattle.arc_core.specs.Step.{after, legal}
use Rattle.arc_core.proofs.Feeding.{candidate-wanted}
use Rattle.turn_table.specs.Places.{IsOther, Place}
use Rattle.arc_table.specs.declared.picks.Feed.{Feed}
use Rattle.arc_table.specs.declared.picks.Picked.{Picked as Block}
use Rattle.arc_table.specs.declared.view.Known.{Known}
use Rattle.arc_table.specs.feeder.Picking.{HasNoted, HasPicked, IsBlockOf, IsFeeding, left_to_pick}
use Rattle.arc_table.proofs.feeder.Candidates.{IsCandidate, and_true, candidate_is, fewer_passed, fewer_picked, pass_legal, pick_legal}
use Rattle.arc_table.proofs.feeder.FeedScan.{feeding_passed, feeding_picked, feeding_same, number_few}

module _ {C : Type 0} (g : Config) (f : Feed C) (r t : Place (Known C)) (out : List Block) (h : IsFeeding g f r out) (k : Key) (is : candidate f.shard.now ≡ Some k)
    (l : ShardLog) (now : l.now ≡ f.shard.now) (history : l.history ≡ f.shard.history) (opening : l.opening ≡ f.shard.opening) (n : ℕ) (number : n ≡ t.number) where
  -- only the room of the shard has changed before
  abbrev roomy : Feed C
  roomy = record f { shard = l }

  feeding : IsFeeding g roomy r out
  feeding = feeding_same g f r out h l now history opening

  is_still : candidate l.now ≡ Some k
  is_still = ap candidate now ∙ is

  entry : IsCandidate l.now k
  entry = candidate_is l.now k feeding.scan.replayed.sound is_still

  wanted : may_be_picked l.now k ≡ true
  wanted = let w = candidate-wanted l.now k is_still in and_true _ _ (ap not w.placeless) (and_true _ _ (ap not w.unpicked) (ap not w.unpassed))

  few : (m : ℕ) → m ≡ r.number → m < numbers
  few m e = subst (λ (x : ℕ). x < numbers) (sym e) (number_few g roomy r feeding.es feeding.scan)

  fewer : (e : Event) (l' : ShardLog) → l'.now ≡ after l.now e → left_to_pick (after l.now e) < left_to_pick l.now → left_to_pick l'.now < left_to_pick f.shard.now
  fewer e l' made less = subst (λ (x : PlainShard × PlainShard). left_to_pick x.0 < left_to_pick x.1) (λ z. (sym made z, now z)) less

  module _ (owner : ℕ) (noted : (es : List Event) → HasPicked g roomy r es → HasNoted g roomy t k owner es) where
    pass_number : n ≡ r.number
    pass_number = number ∙ ((noted feeding.es feeding.scan).tried.number ∙ sym feeding.scan.tried.number)

    pub may_pass : owner ≤ 16 → owner ≢ r.number → IsTrue (legal l.now (Pass n k owner))
    may_pass least apart = pass_legal n owner k l.now (few n pass_number) least (λ e. apart (e ∙ pass_number)) is_still

    pub passed : (l' : ShardLog) → owner ≤ 16 → IsOther owner r → Makes (Pass n k owner) l l' → IsFeeding g (record f { shard = l' }) t out
    passed l' least other makes = feeding_passed g roomy r out feeding k n l' t entry.entry entry.there number owner other noted (may_pass least other.1) makes.now makes.history makes.opening

    pub passed_fewer : (l' : ShardLog) → Makes (Pass n k owner) l l' → left_to_pick l'.now < left_to_pick f.shard.now
    passed_fewer l' makes = fewer (Pass n k owner) l' makes.now (fewer_passed n owner k l.now entry.entry entry.there wanted)

  pub picked : (moved : (es : List Event) → HasPicked g roomy r es → HasPicked g roomy t es) (b : Block) (l' : ShardLog) → b.key ≡ k → IsBlockOf k l.now b.block.value → Makes (Pick n k) l l' → IsFeeding g (record f { shard = l' }) t (out ++ b ∷ [])
  picked moved b l' key block makes =
      let same : n ≡ r.number = number ∙ ((moved feeding.es feeding.scan).tried.number ∙ sym feeding.scan.tried.number) in
      feeding_picked g roomy r out feeding k n l' t entry.entry entry.there number b moved key block (pick_legal n k l.now (few n same) feeding.scan.phase is_still) makes.now makes.history makes.opening

  pub picked_fewer : (l' : ShardLog) → Makes (Pick n k) l l' → left_to_pick l'.now < left_to_pick f.shard.now
  picked_fewer l' makes = fewer (Pick n k) l' makes.now (fewer_picked n k l.now entry.entry entry.there wanted)
