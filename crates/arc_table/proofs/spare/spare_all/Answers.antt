use Rattle.std.proofs.Common.{◌≡◌, ◌+◌, ◌<◌, ℕ, List, [], ◌∷◌, drop, get_or, length, zero, suc, Bool, Option, true, false, refl, IsTrue, sym, ap, ◌∙◌, subst, add-one, arith}
use Rattle.std.specs.Prelude.{◌||◌}
use Rattle.std.specs.Option.{option_map}
use Rattle.std.proofs.Math.Seq.{drop-cons}
use Rattle.std.proofs.lemmas.List.{drop_all}
use Rattle.blk_ptr.specs.declared.key.Key.{Key}
use Rattle.blk_ptr.specs.Order.{key_eq}
use Rattle.blk_ptr.proofs.Keys.{key_eq-same}
use Rattle.arc_lists.specs.Sequences.{stands_on}
use Rattle.arc_core.specs.declared.config.Config.{Config}
use Rattle.arc_core.specs.declared.shard.EntryView.{EntryView}
use Rattle.arc_core.specs.PlainShard.{PlainShard, entry_of}
use Rattle.arc_core.specs.View.{view_of}
use Rattle.hash_chain.specs.Chain.{Chain, IsWith, header_at}
use Rattle.arc_table.specs.Fronts.{item_at}
use Rattle.arc_table.specs.Geometry.{bucket_turn}
use Rattle.arc_table.specs.InHand.{buckets_of}
use Rattle.arc_table.specs.scans.Scanning.{AllPairs}
use Rattle.arc_table.specs.scans.Sparing.{AreHeadsBut, spared_header, turns_in, with_bucket}
use Rattle.arc_table.proofs.scans.Scans.{some_is}
use Rattle.arc_table.proofs.scans.ScanGives.{apart_turns, same_some}
use Rattle.arc_table.proofs.scans.Spares.{heads_step, with_turns}
use Rattle.arc_table.proofs.spare.spare_all.Goals as goal

or_right : (a b : Bool) → b ≡ true → (a || b) ≡ true
or_right true b h = refl
or_right false b h = h

key_there : (keys : List Key) (i : ℕ) (d : Key) → i < length keys → stands_on (get_or keys i d) keys ≡ true
key_there [] i d below = absurd (omega arith)
key_there (k ∷ ks) zero d below = ap (λ b. b || stands_on k ks) (key_eq-same k)
key_there (k ∷ ks) (suc i) d below = or_right (key_eq k (get_or ks i d)) (stands_on (get_or ks i d) ks) (key_there ks i d (omega arith))

pub loop-key-preserved : goal.loop-key-preserved
loop-key-preserved c =
    let g : Config = c.args.config.now in
    let before : PlainShard = c.args.hand.now.before.value.now in
    let after : PlainShard = c.args.shard.now.now in
    let keys : List Key = c.args.keys.now in
    let i : ℕ = c.loop-key.key-index in
    let key : Key = get_or keys i record { offset = 0; size = 0; birth = 0 } in
    let rest : List Key = drop (i + 1) keys in
    let vs : List (ℕ × Chain) = buckets_of c.loop-key.hand in
    let stands : IsTrue (stands_on key keys) = key_there keys i record { offset = 0; size = 0; birth = 0 } c.loop-key-test.true in
    let front : drop i keys ≡ key ∷ rest = drop-cons keys i record { offset = 0; size = 0; birth = 0 } c.loop-key-test.true ∙ ap (λ (n : ℕ). key ∷ drop n keys) (sym (add-one i)) in
    let old = some_is (item_at (bucket_turn g key) (buckets_of c.args.hand.now)) (c.requires.in_hand key stands) in
    let b = some_is (item_at (bucket_turn g key) vs) (same_some (bucket_turn g key) (buckets_of c.args.hand.now) vs old.0 (sym c.loop-key.invariant.turns) old.1) in
    let turn : c.bucket_turn_of-turn.result ≡ bucket_turn g key = c.bucket_turn_of-turn.ensures in
    let did = c.spare_in.ensures.spared b.0 (ap (λ (j : ℕ). item_at j vs) turn ∙ b.1) in
    let gave : buckets_of c.spare_in.new.hand ≡ with_bucket (bucket_turn g key) did.0 vs = did.2 ∙ ap (λ (j : ℕ). with_bucket j did.0 vs) turn in
    let with : IsWith key (spared_header (option_map view_of (entry_of key after)) (header_at key b.0.headers)) b.0.headers did.0.headers =
    subst (λ (v : Option EntryView). IsWith key (spared_header v (header_at key b.0.headers)) b.0.headers did.0.headers) c.entry.ensures did.1 in
    record {
      before = c.spare_in.ensures.before ∙ c.loop-key.invariant.before;
      turns = ap turns_in gave ∙ (with_turns (bucket_turn g key) did.0 vs ∙ c.loop-key.invariant.turns);
      heads = subst (AllPairs (AreHeadsBut g before after rest)) (sym gave)
          (heads_step g before after key rest b.0 did.0 with vs (apart_turns vs (buckets_of c.args.hand.now) c.loop-key.invariant.turns c.requires.apart)
          (subst (λ (l : List Key). AllPairs (AreHeadsBut g before after l) vs) front c.loop-key.invariant.heads) b.1);
    }

pub returns-clause-heads : goal.returns-clause-heads
returns-clause-heads c =
    subst (λ (l : List Key). AllPairs (AreHeadsBut c.args.config.now c.args.hand.now.before.value.now c.args.shard.now.now l) (buckets_of c.loop-key.hand)) (drop_all c.loop-key.key-index c.args.keys.now c.loop-key-test.false) c.loop-key.invariant.heads
