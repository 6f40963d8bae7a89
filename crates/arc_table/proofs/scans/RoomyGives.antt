-- What a party holds and lists once it has given all back behind a scan.
use Rattle.std.proofs.Common.{◌≡◌, ◌≢◌, if◌then◌else◌, ℕ, ◌<◌, List, [], ◌∷◌, ◌++◌, length, Bool, true, Some, refl, sym, ap, ◌∙◌, subst, inl, inr, eq-eqb, arith}
use Rattle.std.specs.Prelude.{nat_lt}
use Rattle.std.proofs.lemmas.Bool.Decides.{nat_tests}
use lib.ListN.{get_elem?}
use Rattle.blk_ptr.specs.declared.digest.Digest.{Digest}
use Rattle.blk_ptr.specs.declared.key.Key.{Key}
use Rattle.blk_ptr.specs.declared.ptr.Ptr.{Ptr}
use Rattle.arc_core.specs.declared.config.Config.{Config}
use Rattle.arc_core.specs.Config.{IsConfig}
use Rattle.arc_core.specs.declared.event.Event.{Event}
use Rattle.arc_core.specs.declared.event.Event.TheVariants.{Insert, Pass}
use Rattle.arc_core.specs.PlainShard.{PlainShard}
use Rattle.arc_core.specs.ShardLog.{ShardLog}
use Rattle.arc_core.specs.Step.{after}
use Rattle.hash_chain.specs.Chain.{Chain}
use Rattle.turn_table.specs.Board.{IsAmong}
use Rattle.turn_table.specs.Places.{Place, gave_back}
use Rattle.arc_table.specs.declared.about.About.{About}
use Rattle.arc_table.specs.declared.item.Item.{Item}
use Rattle.arc_table.specs.declared.view.Known.{Known}
use Rattle.arc_table.specs.scans.Ending.{MakesRoomy}
use Rattle.arc_table.specs.Fronts.{item_at, list_at}
use Rattle.arc_table.specs.Geometry.{IsBucket, IsCell, bucket_turn, cell_number, shard_turn}
use Rattle.arc_table.specs.Holding.{IsListed, cell}
use Rattle.arc_table.specs.Items.{Meanings}
use Rattle.arc_table.specs.scans.Scanning.{AllPairs, ArePasses, after_scan, gave_all}
use Rattle.arc_table.specs.ShardGiving.{after_shard, holds_through, listed_after}
use Rattle.arc_table.specs.scans.Sparing.{turns_in}
use Rattle.arc_table.specs.Views.{after_same}
use Rattle.arc_table.proofs.Ranges.{bucket_range, shard_range}
use Rattle.arc_table.proofs.scans.Scans.{added_among, among_without, won_about, won_records}
use Rattle.arc_table.proofs.ShardGives.{listed_at}

-- ---- buckets given back

module _ {C : Type 0} where
  pub gave_listed : (vs : List (ℕ × Chain)) (p : Place (Known C)) → (gave_all vs p).own.listed ≡ p.own.listed
  gave_listed [] p = refl
  gave_listed (v ∷ vs) p = gave_listed vs (gave_back p v.0 (after_same v.0 p.own))

  pub gave_held : (vs : List (ℕ × Chain)) (p : Place (Known C)) (j : ℕ) → ((x : ℕ) → IsAmong x (turns_in vs) → j ≢ x) → IsAmong j p.held → IsAmong j (gave_all vs p).held
  gave_held [] p j far among = among
  gave_held (v ∷ vs) p j far among = gave_held vs (gave_back p v.0 (after_same v.0 p.own)) j (λ x h. far x (inr h)) (among_without v.0 j p.held (far v.0 (inl refl)) among)

-- passes leave what a number holds
through_passes : (g : Config) (n i a k t : ℕ) (key : Key) (d : Digest) (s : PlainShard) (es : List Event) (hs : List Ptr) → ArePasses g n i es
    → holds_through a s (es ++ Insert a key d t ∷ []) hs ≡ record { key = key; digest = d } ∷ hs
through_passes g n i a k t key d s [] hs h = ap (λ (b : Bool). if b then record { key = key; digest = d } ∷ hs else hs) (eq-eqb a a refl)
through_passes g n i a k t key d s (Pass b x owner ∷ es) hs h = through_passes g n i a k t key d (after s (Pass b x owner)) es hs h.1
through_passes g n i a k t key d s (_ ∷ es) hs h = absurd h

pub among_turns : (g : Config) (x : ℕ) (vs : List (ℕ × Chain)) → AllPairs (λ j b. IsBucket g j) vs → IsAmong x (turns_in vs) → IsBucket g x
among_turns g x [] all h = absurd h
among_turns g x (v ∷ vs) all (inl is) = subst (IsBucket g) is all.0
among_turns g x (v ∷ vs) all (inr h) = among_turns g x vs all.1 h

pub cell_far : (g : Config) (i : ℕ) (vs : List (ℕ × Chain)) → IsCell g i → AllPairs (λ j b. IsBucket g j) vs → AllPairs (λ j b. i ≢ j) vs
cell_far g i [] in_range all = tt
cell_far g i (v ∷ vs) in_range all = ((λ is. let a = all.0.0 in omega arith), cell_far g i vs in_range all.1)

-- a block that a cell put in is listed for it
pub inserted_listed : {C : Type 0} (m : Meanings C) (g : Config) (k : Key) (before : ShardLog) (d : Digest) (t i : ℕ) (q r : Place (Known C)) (x : Item C) → IsConfig g → q.own.about.config ≡ g → IsCell g i → IsAmong i q.held → item_at i q.own.records ≡ Some x
    → MakesRoomy m g k before (Insert (cell_number g i) k d t) q r → IsListed g r (cell_number g i) record { key = k; digest = d }
inserted_listed {C} m g k before d t i q r x valid same in_range among recorded made =
    let given = made.gives.given in
    let e : Event = Insert (cell_number g i) k d t in
    let es : List Event = made.passes ++ e ∷ [] in
    let q' : Place (Known C) = after_scan m g (shard_turn g k) (length before.history) made.won made.passes q in
    let z : Place (Known C) = gave_back q' (shard_turn g k) (after_shard m given (shard_turn g k) before es made.after q'.own) in
    let far = cell_far g i made.won in_range made.buckets in
    let config : q'.own.about.config ≡ g = ap (λ (a : About). a.config) (won_about m made.won q.own) ∙ same in
    let there : item_at i q'.own.records ≡ Some x = won_records m made.won q.own i far ∙ recorded in
    let hs : List Ptr = list_at i q'.own.listed in
    let list : list_at i r.own.listed ≡ record { key = k; digest = d } ∷ hs =
    ap (λ (y : Place (Known C)). list_at i y.own.listed) made.gives.gave
    ∙ (ap (list_at i) (gave_listed given z)
    ∙ (listed_at q'.own.about.config before.now es i q'.own.records x q'.own.listed q'.own.listed there
    ∙ (ap (λ (c : Config). listed_after c before.now es i hs) config
    ∙ (ap (λ (b : Bool). if b then holds_through (cell_number g i) before.now es hs else hs) (below i g.cells in_range)
    ∙ through_passes g q.number (shard_turn g k) (cell_number g i) 0 t k d before.now made.passes hs made.own)))) in
    let shard = (shard_range g k valid).0 in
    let apart : (y : ℕ) → IsAmong y (turns_in given) → i ≢ y = λ y h. not_bucket y (subst (IsAmong y) made.gives.same h) in
    let held : IsAmong i r.held = subst (λ (y : Place (Known C)). IsAmong i y.held) (sym made.gives.gave)
    (gave_held given z i apart (among_without (shard_turn g k) i q'.held (λ is. let b = in_range in omega arith) (added_among made.won q.held i among))) in
    cell i refl in_range held (0, ap (λ (l : List Ptr). get_elem? l 0) list)
  where
    below : (x y : ℕ) → x < y → nat_lt x y ≡ true
    below x y h = grind (arith, nat_tests)

    not_bucket : (y : ℕ) → IsAmong y (bucket_turn g k ∷ turns_in made.won) → i ≢ y
    not_bucket y (inl is) far = let a = (bucket_range g k valid).0 in let b = in_range in omega arith
    not_bucket y (inr h) far = let a = (among_turns g y made.won made.buckets h).0 in let b = in_range in omega arith

-- a party that has just taken a key's bucket and its shard, and had cells alone, has no other bucket
pub only_bucket : (g : Config) (k : Key) (held all : List ℕ) → IsConfig g → all ≡ shard_turn g k ∷ (bucket_turn g k ∷ held) → ((i : ℕ) → IsAmong i held → IsCell g i) → (j : ℕ) → IsAmong j all → IsBucket g j → j ≡ bucket_turn g k
only_bucket g k held all valid is cells j among bucket = pick (subst (IsAmong j) is among)
  where
    pick : IsAmong j (shard_turn g k ∷ (bucket_turn g k ∷ held)) → j ≡ bucket_turn g k
    pick (inl e) = absurd (let a = (shard_range g k valid).0 in let b = bucket.1 in omega arith)
    pick (inr (inl e)) = sym e
    pick (inr (inr h)) = absurd (let a = cells j h in let b = bucket.0 in omega arith)
