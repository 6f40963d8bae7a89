-- The values of a cache at its end: cells, then buckets, then shards.
use Rattle.std.proofs.Common.{◌≡◌, ℕ, zero, suc, ◌+◌, ◌*◌, ◌<◌, ◌≤◌, List, [], ◌∷◌, ◌++◌, length, map, refl, sym, ap, ◌∙◌, subst, inl, inr, arith, length-append}
use mathlib.Core.Logic.{dite}
use mathlib.Core.Option.{some, some-injective}
use native.Mathlib.Decide.{ℕ_discrete}
use lib.ListN.{get_elem?}
use Rattle.hash_chain.specs.Chain.{Chain}
use Rattle.arc_core.specs.ShardLog.{ShardLog}
use Rattle.arc_core.specs.declared.config.Config.{Config}
use Rattle.turn_table.specs.Board.{free, opening}
use Rattle.turn_table.specs.Places.{Place, AreFree, SomeHas, ShowAll, newcomers}
use Rattle.arc_table.specs.declared.item.Item.{Item}
use Rattle.arc_table.specs.declared.item.Item.TheVariants as item
use Rattle.arc_table.specs.declared.view.Known.{Known}
use Rattle.arc_table.specs.pact.Attached.{IsKind}
use Rattle.arc_table.specs.Cache.{Cache, all_newcomers}
use Rattle.arc_table.specs.Ended.{Ended, AreAtRest, Ends, cells_in, chains_in, shards_in}
use Rattle.arc_table.specs.Geometry.{parties_of, turns_of}
use Rattle.arc_table.specs.Items.{Meanings}
use Rattle.arc_table.specs.pact.Rule.{Pact}
use Rattle.arc_table.specs.Views.{newcomer}
use Rattle.arc_table.specs.declared.about.About.{About}

module _ {C : Type 0} (g : Config) where
  -- from the turn n on, each value is of its turn's kind
  abbrev pub AreKinds : ℕ → List (Item C) → Type 0
  AreKinds n [] = Unit {0}
  AreKinds n (v ∷ vs) = IsKind g n v × AreKinds (suc n) vs

  pub kinds_from : (n : ℕ) (vs : List (Item C)) → ((j : ℕ) (v : Item C) → get_elem? vs j ≡ some v → IsKind g (n + j) v) → AreKinds n vs
  kinds_from n [] h = tt
  kinds_from n (v ∷ vs) h = (
    subst (λ (k : ℕ). IsKind g k v) (let e : n + 0 ≡ n = omega arith in e) (h 0 v refl),
    kinds_from (suc n) vs (λ j x e. subst (λ (k : ℕ). IsKind g k x) (let f : n + suc j ≡ suc n + j = omega arith in f) (h (suc j) x e)),
  )

  -- from the first shard on, all are shards
  pub record OnlyShards (vs : List (Item C)) : Type 0 where
    pub are : vs ≡ map item.Shard (shards_in vs)
    pub no_cells : cells_in vs ≡ []
    pub no_chains : chains_in vs ≡ []

  only_shards : (n : ℕ) (vs : List (Item C)) → g.cells + g.shards * g.buckets ≤ n → AreKinds n vs → OnlyShards vs
  only_shards n [] from k = record { are = refl; no_cells = refl; no_chains = refl }
  only_shards n (item.Cell c ∷ vs) from k = let a : n < g.cells = k.0 in absurd (omega arith)
  only_shards n (item.Bucket b ∷ vs) from k = let a : n < g.cells + g.shards * g.buckets = k.0.1 in absurd (omega arith)
  only_shards n (item.Shard l ∷ vs) from k = let r = only_shards (suc n) vs (omega arith) k.1 in record { are = ap (λ xs. item.Shard l ∷ xs) r.are; no_cells = r.no_cells; no_chains = r.no_chains }

  -- from the first bucket on, buckets and then shards, up to the last turn
  pub record NoCells (n : ℕ) (vs : List (Item C)) : Type 0 where
    pub are : vs ≡ map item.Bucket (chains_in vs) ++ map item.Shard (shards_in vs)
    pub no_cells : cells_in vs ≡ []
    pub long : n + length (chains_in vs) ≡ g.cells + g.shards * g.buckets

  no_cells_at_end : (n : ℕ) (vs : List (Item C)) → n ≡ g.cells + g.shards * g.buckets → AreKinds n vs → NoCells n vs
  no_cells_at_end n vs at k = let r = only_shards n vs (omega arith) k in record {
    are = r.are ∙ ap (λ (cs : List Chain). map item.Bucket cs ++ map item.Shard (shards_in vs)) (sym r.no_chains);
    no_cells = r.no_cells;
    long = ap (λ (cs : List Chain). n + length cs) r.no_chains ∙ (let e : n + 0 ≡ g.cells + g.shards * g.buckets = omega arith in e);
  }

  no_cells : (n : ℕ) (vs : List (Item C)) → g.cells ≤ n → n ≤ g.cells + g.shards * g.buckets → n + length vs ≡ turns_of g → AreKinds n vs → NoCells n vs
  no_cells n [] from to all k = no_cells_at_end n [] (omega arith) k
  no_cells n (item.Cell c ∷ vs) from to all k = let a : n < g.cells = k.0 in absurd (omega arith)
  no_cells n (item.Bucket b ∷ vs) from to all k =
      let a : n < g.cells + g.shards * g.buckets = k.0.1 in
      let r = no_cells (suc n) vs (omega arith) (omega arith) (omega arith) k.1 in
      let long = r.long in
      record { are = ap (λ xs. item.Bucket b ∷ xs) r.are; no_cells = r.no_cells; long = (let e : n + suc (length (chains_in vs)) ≡ g.cells + g.shards * g.buckets = omega arith in e) }
  no_cells n (item.Shard l ∷ vs) from to all k = let a : g.cells + g.shards * g.buckets ≤ n = k.0.0 in no_cells_at_end n (item.Shard l ∷ vs) (omega arith) k

  -- all of them
  pub record AreAll (n : ℕ) (vs : List (Item C)) : Type 0 where
    pub are : vs ≡ map item.Cell (cells_in vs) ++ (map item.Bucket (chains_in vs) ++ map item.Shard (shards_in vs))
    pub cells : n + length (cells_in vs) ≡ g.cells
    pub chains : length (chains_in vs) ≡ g.shards * g.buckets

  all_at_cells : (n : ℕ) (vs : List (Item C)) → n ≡ g.cells → n + length vs ≡ turns_of g → AreKinds n vs → AreAll n vs
  all_at_cells n vs at all k = let r = no_cells n vs (omega arith) (omega arith) all k in let long = r.long in record {
    are = r.are ∙ ap (λ (cs : List C). map item.Cell cs ++ (map item.Bucket (chains_in vs) ++ map item.Shard (shards_in vs))) (sym r.no_cells);
    cells = ap (λ (cs : List C). n + length cs) r.no_cells ∙ (let e : n + 0 ≡ g.cells = omega arith in e);
    chains = omega arith;
  }

  pub are_all : (n : ℕ) (vs : List (Item C)) → n ≤ g.cells → n + length vs ≡ turns_of g → AreKinds n vs → AreAll n vs
  are_all n [] to all k = all_at_cells n [] (omega arith) all k
  are_all n (item.Cell c ∷ vs) to all k =
      let a : n < g.cells = k.0 in
      let r = are_all (suc n) vs (omega arith) (omega arith) k.1 in
      let long = r.cells in
      record { are = ap (λ xs. item.Cell c ∷ xs) r.are; cells = (let e : n + suc (length (cells_in vs)) ≡ g.cells = omega arith in e); chains = r.chains }
  are_all n (item.Bucket b ∷ vs) to all k = let a : g.cells ≤ n = k.0.0 in all_at_cells n (item.Bucket b ∷ vs) (omega arith) all k
  are_all n (item.Shard l ∷ vs) to all k = let a : g.cells + g.shards * g.buckets ≤ n = k.0.0 in all_at_cells n (item.Shard l ∷ vs) (omega arith) all k

map_long : {A B : Type 0} (f : A → B) (xs : List A) → length (map f xs) ≡ length xs
map_long f [] = refl
map_long f (x ∷ xs) = ap suc (map_long f xs)

long_all : {C : Type 0} (cs : List C) (bs : List Chain) (ls : List ShardLog) → length {A = Item C} (map item.Cell cs ++ (map item.Bucket bs ++ map item.Shard ls)) ≡ length cs + (length bs + length ls)
long_all {C} cs bs ls =
    let xs : List (Item C) = map item.Cell cs in
    let ys : List (Item C) = map item.Bucket bs in
    let zs : List (Item C) = map item.Shard ls in
    let a : length (xs ++ (ys ++ zs)) ≡ length xs + length (ys ++ zs) = length-append xs (ys ++ zs) in
    let b : length (ys ++ zs) ≡ length ys + length zs = length-append ys zs in
    let d : length xs ≡ length cs = map_long {B = Item C} item.Cell cs in
    let e : length ys ≡ length bs = map_long {B = Item C} item.Bucket bs in
    let f : length zs ≡ length ls = map_long {B = Item C} item.Shard ls in
    omega arith

-- parties at rest are parties of the row that hold no turn
pub rest_free : {C : Type 0} (cache : Cache) (ps : List (Place (Known C))) → AreAtRest cache ps → AreFree cache.row ps
rest_free cache [] h = tt
rest_free cache (p ∷ ps) h = (h.0.row, h.1, rest_free cache ps h.2)

free_opening : {C : Type 0} (vs : List (Item C)) (j : ℕ) (v : Item C) → get_elem? vs j ≡ some v → get_elem? (map free vs) j ≡ some (free v)
free_opening [] j v e = absurd (mathlib.Core.Option.some-ne-none v (sym e))
free_opening (x ∷ xs) zero v e = ap (λ z. some (free z)) (some-injective x v e)
free_opening (x ∷ xs) (suc j) v e = free_opening xs j v e

module _ {C : Type 0} (m : Meanings C) where
  -- the configuration of a board that some party of the cache knows is the cache's
  config_is : (cache : Cache) (vs : List (Item C)) (views : List (Known C)) (ps : List (Place (Known C))) (n : ℕ) → (p : Pact m (opening vs views)) → AreAtRest cache ps → SomeHas n ps → ShowAll views ps → p.scene.about.config ≡ cache.config
  config_is cache vs views [] n p rest some_has shown = absurd some_has
  config_is cache vs views (q ∷ qs) n p rest some_has shown =
      let w = p.attached.views q.number q.own shown.0.0 in
      ap (λ a. a.config) (sym w.about) ∙ rest.0.config

  -- what the pact's values are
  pub values_are : (cache : Cache) (vs : List (Item C)) (views : List (Known C)) (ps : List (Place (Known C))) → Pact m (opening vs views) → AreAtRest cache ps → SomeHas 0 ps → ShowAll views ps → length vs ≡ turns_of cache.config → AreAll cache.config 0 vs
  values_are cache vs views ps p rest some_has shown long =
      let g : Config = cache.config in
      let same : p.scene.about.config ≡ g = config_is cache vs views ps 0 p rest some_has shown in
      are_all g 0 vs (omega arith) (let e : 0 + length vs ≡ turns_of g = omega arith in e)
      (kinds_from g 0 vs (λ j v e.
      let at = p.attached.free j v (free_opening vs j v e) in
      let below : j < turns_of g = let a : j < length vs = within vs j v e in omega arith in
      subst (λ (k : ℕ). IsKind g k v) (let f : j ≡ 0 + j = omega arith in f)
      (subst (IsKind g j) at.0 (subst (λ (c : Config). IsKind c j (p.scene.now j)) same (p.attached.kinds j (subst (λ (c : Config). j < turns_of c) (sym same) below))))))
    where
      within : (l : List (Item C)) (j : ℕ) (a : Item C) → get_elem? l j ≡ some a → j < length l
      within [] j a e = absurd (mathlib.Core.Option.some-ne-none a (sym e))
      within (x ∷ xs) zero a e = omega arith
      within (x ∷ xs) (suc j) a e = let h = within xs j a e in omega arith

  pub ends : (cache : Cache) (vs : List (Item C)) (views : List (Known C)) (ps : List (Place (Known C))) → Pact m (opening vs views) → AreAtRest cache ps → SomeHas 0 ps → ShowAll views ps → length vs ≡ turns_of cache.config
      → length views ≡ parties_of cache.config → (cells : List C) (shards : List ShardLog) → cells ≡ cells_in vs → shards ≡ shards_in vs → Ends m cache ps record { config = cache.config; shards = shards; cells = cells }
  ends cache vs views ps p rest some_has shown long count cells shards cells_is shards_is =
      let a = values_are cache vs views ps p rest some_has shown long in
      let n_cells = a.cells in
      let n_chains = a.chains in
      let total : length vs ≡ length (cells_in vs) + (length (chains_in vs) + length (shards_in vs)) = ap length a.are ∙ long_all (cells_in vs) (chains_in vs) (shards_in vs) in
      subst (λ (e : Ended C). Ends m cache ps e) (λ k. record { config = cache.config; shards = sym shards_is k; cells = sym cells_is k })
      record {
        config = refl;
        views = views;
        buckets = chains_in vs;
        parties = count;
        shown = shown;
        cells = omega arith;
        chains = a.chains;
        shards = omega arith;
        pact = subst (λ (l : List (Item C)). Pact m (opening l views)) a.are p;
      }

pub nothing_left : {A : Type 0} (l : List A) → length l ≡ 0 → l ≡ []
nothing_left [] e = refl
nothing_left (x ∷ xs) e = absurd (omega arith)

-- how many shards there are
pub shards_long : {C : Type 0} (g : Config) (vs : List (Item C)) → AreAll g 0 vs → length vs ≡ turns_of g → length (shards_in vs) ≡ g.shards
shards_long {C} g vs a long =
    let n_cells = a.cells in
    let n_chains = a.chains in
    let total : length vs ≡ length (cells_in vs) + (length (chains_in vs) + length (shards_in vs)) = ap length a.are ∙ long_all (cells_in vs) (chains_in vs) (shards_in vs) in
    omega arith

-- the parties of a new cache are at rest, and all are there
module _ (C : Type 0) (cache : Cache) (about : About) (is : about.config ≡ cache.config) (row : cache.row.parties ≡ parties_of cache.config) where
  rest_from : (n k : ℕ) → AreAtRest cache (newcomers cache.row.table (parties_of cache.config) (newcomer {C = C} about) n k)
  rest_from n zero = tt
  rest_from n (suc k) = (record { row = (refl, sym row); config = is }, refl, rest_from (suc n) k)

  pub new_at_rest : AreAtRest cache (all_newcomers {C = C} cache about)
  new_at_rest = rest_from 0 (parties_of cache.config)

  has_from : (m n k : ℕ) → n ≤ m → m < n + k → SomeHas m (newcomers cache.row.table (parties_of cache.config) (newcomer {C = C} about) n k)
  has_from m n zero from to = absurd (omega arith)
  has_from m n (suc k) from to = dite (ℕ_discrete n m) (λ e. inl (inl e)) (λ ne. inr (has_from m (suc n) k (omega arith) (omega arith)))

  pub new_all : (m : ℕ) → m < parties_of cache.config → SomeHas m (all_newcomers {C = C} cache about)
  new_all m below = has_from m 0 (parties_of cache.config) (omega arith) (omega arith)
