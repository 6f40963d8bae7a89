-- The cells, the buckets and the shards of a cache that is being made.
use Rattle.std.proofs.Common.{◌≡◌, ℕ, zero, suc, ◌+◌, ◌*◌, ◌<◌, List, [], ◌∷◌, ◌++◌, length, map, replicate, refl, sym, ap, ◌∙◌, subst, ⊎_elim, arith, length-append}
use Rattle.std.proofs.lemmas.List.{length-map, length-replicate}
use mathlib.Core.Option.{some, some-injective, some-ne-none}
use mathlib.Core.List.{append_assoc}
use lib.ListN.{get_elem?}
use Rattle.arc_core.specs.declared.config.Config.{Config}
use Rattle.arc_core.specs.ShardLog.{ShardLog}
use Rattle.arc_table.specs.declared.item.Item.{Item}
use Rattle.arc_table.specs.declared.item.Item.TheVariants as item
use Rattle.arc_table.specs.Geometry.{turns_of}
use Rattle.arc_table.specs.Items.{no_chain}
use Rattle.arc_table.specs.opening.Opening.{AreFresh, AreOpeningLogs, IsFresh, IsOpeningLog}
use Rattle.arc_table.specs.TableLaws.{within}
use Rattle.arc_table.proofs.TableLaws.{get_more}

-- one more shard at its start
pub more_logs : (g : Config) (n : ℕ) (ls : List ShardLog) (l : ShardLog) → AreOpeningLogs g n ls → IsOpeningLog g l → AreOpeningLogs g (n + 1) (ls ++ l ∷ [])
more_logs g n ls l all one = (
  length-append ls (l ∷ []) ∙ ap (λ k. k + 1) all.0,
  λ i x e. ⊎_elim (λ f. all.1 i x f) (λ f. subst (IsOpeningLog g) f.1 one) (get_more ls l x i e),
)

pub map_more : {A B : Type 0} (f : A → B) (xs : List A) (x : A) → map f (xs ++ x ∷ []) ≡ map f xs ++ f x ∷ []
map_more f [] x = refl
map_more f (y ∷ ys) x = ap (λ l. f y ∷ l) (map_more f ys x)

pub shards_more : {C : Type 0} (values before new : List (Item C)) (ls : List ShardLog) (l : ShardLog) → values ≡ before ++ map item.Shard ls → new ≡ values ++ item.Shard l ∷ []
    → new ≡ before ++ map item.Shard (ls ++ l ∷ [])
shards_more values before new ls l e f = f ∙ (ap (λ x. x ++ item.Shard l ∷ []) e ∙ (append_assoc before (map item.Shard ls) (item.Shard l ∷ []) ∙ ap (λ x. before ++ x) (sym (map_more item.Shard ls l))))

-- what stands in two lists, one behind the other
pub data InEither {A : Type 0} (xs ys : List A) (i : ℕ) (a : A) : Type 0 where
  front : get_elem? xs i ≡ some a → InEither xs ys i a
  rest : (j : ℕ) → i ≡ length xs + j → get_elem? ys j ≡ some a → InEither xs ys i a

either_more : {A : Type 0} (x : A) (xs ys : List A) (i : ℕ) (a : A) → InEither xs ys i a → InEither (x ∷ xs) ys (suc i) a
either_more x xs ys i a (front e) = front e
either_more x xs ys i a (rest j is e) = rest j (omega arith) e

pub in_either : {A : Type 0} (xs ys : List A) (i : ℕ) (a : A) → get_elem? (xs ++ ys) i ≡ some a → InEither xs ys i a
in_either [] ys i a e = rest i (omega arith) e
in_either (x ∷ xs) ys zero a e = front e
in_either (x ∷ xs) ys (suc i) a e = either_more x xs ys i a (in_either xs ys i a e)

-- what stands in a list to which a function was applied
from_map : {A B : Type 0} (f : A → B) (xs : List A) (i : ℕ) (b : B) → get_elem? (map f xs) i ≡ some b → (a : A) × (get_elem? xs i ≡ some a) × (f a ≡ b)
from_map f [] i b e = absurd (some-ne-none b (sym e))
from_map f (x ∷ xs) zero b e = (x, refl, some-injective (f x) b e)
from_map f (x ∷ xs) (suc i) b e = from_map f xs i b e

from_replicate : {A : Type 0} (n : ℕ) (x : A) (i : ℕ) (a : A) → get_elem? (replicate n x) i ≡ some a → (i < n) × (x ≡ a)
from_replicate zero x i a e = absurd (some-ne-none a (sym e))
from_replicate (suc n) x zero a e = (omega arith, some-injective x a e)
from_replicate (suc n) x (suc i) a e = let h = from_replicate n x i a e in let below = h.0 in (omega arith, h.1)

module _ {C : Type 0} (g : Config) (cells : List C) (count : length cells ≡ g.cells) (ls : List ShardLog) (shards : AreOpeningLogs g g.shards ls) where
  abbrev fronts : List (Item C)
  fronts = map item.Cell cells ++ replicate (g.shards * g.buckets) (item.Bucket no_chain)

  fronts_long : length fronts ≡ g.cells + g.shards * g.buckets
  fronts_long = let a : length fronts ≡ length (map item.Cell cells) + length (replicate (g.shards * g.buckets) (item.Bucket no_chain)) = length-append (map item.Cell cells) (replicate (g.shards * g.buckets) (item.Bucket no_chain)) in
      let b : length (map item.Cell cells) ≡ length cells = length-map cells item.Cell in
      let c : length (replicate (g.shards * g.buckets) (item.Bucket no_chain)) ≡ g.shards * g.buckets = length-replicate (g.shards * g.buckets) (item.Bucket no_chain) in
      a ∙ (λ k. (b ∙ count) k + c k)

  shard_fresh : (i j : ℕ) (v : Item C) → i ≡ g.cells + g.shards * g.buckets + j → get_elem? (map item.Shard ls) j ≡ some v → IsFresh g cells i v
  shard_fresh i j v is e = let h = from_map item.Shard ls j v e in
      let below : j < length ls = within ls j h.0 h.1 in
      let long : length ls ≡ g.shards = shards.0 in
      subst (IsFresh g cells i) h.2 ((omega arith, omega arith), shards.1 j h.0 h.1)

  front_fresh : (i : ℕ) (v : Item C) → InEither (map item.Cell cells) (replicate (g.shards * g.buckets) (item.Bucket no_chain)) i v → IsFresh g cells i v
  front_fresh i v (front e) = let h = from_map item.Cell cells i v e in subst (IsFresh g cells i) h.2 h.1
  front_fresh i v (rest j is e) = let h = from_replicate (g.shards * g.buckets) (item.Bucket no_chain) j v e in
      let below = h.0 in
      let long : length (map item.Cell cells) ≡ g.cells = length-map cells item.Cell ∙ count in
      subst (IsFresh g cells i) h.1 ((omega arith, omega arith), refl)

  each_fresh : (i : ℕ) (v : Item C) → InEither fronts (map item.Shard ls) i v → IsFresh g cells i v
  each_fresh i v (front e) = front_fresh i v (in_either (map item.Cell cells) (replicate (g.shards * g.buckets) (item.Bucket no_chain)) i v e)
  each_fresh i v (rest j is e) = shard_fresh i j v (is ∙ ap (λ k. k + j) fronts_long) e

  all_long : length (fronts ++ map item.Shard ls) ≡ turns_of g
  all_long =
      let logs : List (Item C) = map item.Shard ls in
      let a : length (fronts ++ logs) ≡ length fronts + length logs = length-append fronts logs in
      let b : length logs ≡ length ls = length-map ls (λ l. let v : Item C = item.Shard l in v) in
      let c : length ls ≡ g.shards = shards.0 in
      let d : length fronts ≡ g.cells + g.shards * g.buckets = fronts_long in
      omega arith

  pub all_fresh : (values : List (Item C)) → values ≡ fronts ++ map item.Shard ls → AreFresh g cells values
  all_fresh values is = subst (AreFresh g cells) (sym is) record {
    count = all_long;
    each = λ i v e. each_fresh i v (in_either fronts (map item.Shard ls) i v e);
  }
