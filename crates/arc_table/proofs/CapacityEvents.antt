-- A shard gets a new capacity: the party has just taken the shard's first bucket and the shard.
use Rattle.std.proofs.Common.{◌≡◌, ℕ, zero, suc, ◌+◌, ◌*◌, ◌%◌, ◌^◌, ◌<◌, ◌≤◌, [], true, refl, sym, ap, ◌∙◌, inl, arith}
use Rattle.std.specs.Prelude.{IsTrue, nat_le, OnOk, OnErr, Result, Ok, Err}
use Rattle.std.proofs.lemmas.Bool.Decides.{nat_tests}
use Rattle.std.proofs.lemmas.Option.{none-some}
use Rattle.blk_ptr.specs.Hash.{hash_of_key}
use Rattle.arc_lists.specs.Adapting.{IsCapacity}
use Rattle.arc_lists.proofs.Standing.{both as both_true}
use Rattle.arc_core.specs.declared.config.Config.{Config}
use Rattle.arc_core.specs.Config.{IsConfig, is_capacity_of}
use Rattle.arc_core.specs.declared.event.Event.TheVariants.{Resize}
use Rattle.arc_core.specs.PlainShard.{PlainShard, is_number, numbers}
use Rattle.arc_core.specs.ShardLog.{Makes as makes_one, ShardLog}
use Rattle.arc_core.specs.Step.{legal}
use Rattle.turn_table.specs.Places.{Place}
use Rattle.arc_table.specs.declared.both.Both.{Both}
use Rattle.arc_table.specs.declared.scan.Scan.{Scan}
use Rattle.arc_table.specs.declared.view.Known.{Known}
use Rattle.arc_table.specs.Both.{Does}
use Rattle.arc_table.specs.scans.Ending.{HasMade}
use Rattle.arc_table.specs.scans.Evicting.{HasScanned}
use Rattle.arc_table.specs.Geometry.{shard_turn}
use Rattle.arc_table.specs.Items.{Meanings}
use Rattle.arc_table.specs.feeder.Picking.{nth_shard_turn}
use Rattle.arc_table.specs.Resizing.{ResizesOne, key_in}
use Rattle.arc_table.proofs.Afterwards.{Stays, does_stays}
use Rattle.arc_table.proofs.feeder.FeedEvents.{number_is}
use Rattle.arc_table.proofs.reads.MissEvents.{same_number}
use Rattle.arc_table.proofs.scans.RoomyAfter.{does_roomy_stays}

-- ---- the key by which the first bucket of a shard is taken

hash_small : (s : ℕ) → s < 16 → hash_of_key (key_in s) ≡ s
hash_small zero h = refl
hash_small (suc zero) h = refl
hash_small (suc (suc zero)) h = refl
hash_small (suc (suc (suc zero))) h = refl
hash_small (suc (suc (suc (suc zero)))) h = refl
hash_small (suc (suc (suc (suc (suc zero))))) h = refl
hash_small (suc (suc (suc (suc (suc (suc zero)))))) h = refl
hash_small (suc (suc (suc (suc (suc (suc (suc zero))))))) h = refl
hash_small (suc (suc (suc (suc (suc (suc (suc (suc zero)))))))) h = refl
hash_small (suc (suc (suc (suc (suc (suc (suc (suc (suc zero))))))))) h = refl
hash_small (suc (suc (suc (suc (suc (suc (suc (suc (suc (suc zero)))))))))) h = refl
hash_small (suc (suc (suc (suc (suc (suc (suc (suc (suc (suc (suc zero))))))))))) h = refl
hash_small (suc (suc (suc (suc (suc (suc (suc (suc (suc (suc (suc (suc zero)))))))))))) h = refl
hash_small (suc (suc (suc (suc (suc (suc (suc (suc (suc (suc (suc (suc (suc zero))))))))))))) h = refl
hash_small (suc (suc (suc (suc (suc (suc (suc (suc (suc (suc (suc (suc (suc (suc zero)))))))))))))) h = refl
hash_small (suc (suc (suc (suc (suc (suc (suc (suc (suc (suc (suc (suc (suc (suc (suc zero))))))))))))))) h = refl
hash_small (suc (suc (suc (suc (suc (suc (suc (suc (suc (suc (suc (suc (suc (suc (suc (suc s)))))))))))))))) h = absurd (omega arith)

mod_small : (s n : ℕ) → s < n → s % n ≡ s
mod_small s n below = grind arith

pub key_own : (g : Config) (s : ℕ) → IsConfig g → s < g.shards → shard_turn g (key_in s) ≡ nth_shard_turn g s
key_own g s valid below =
    let few = valid.counts.shards.1 in
    ap (λ (x : ℕ). g.cells + (g.shards * g.buckets + x)) (ap (λ (x : ℕ). x % g.shards) (hash_small s (omega arith)) ∙ mod_small s g.shards below)

-- ---- the event

capacity_is : (c : ℕ) → IsCapacity c → is_capacity_of c ≡ true
capacity_is c h = both_true (nat_le 4096 c) _ (at_least 4096 c h.least) (at_least c (2 ^ 32) h.most)
  where
    at_least : (x y : ℕ) → x ≤ y → nat_le x y ≡ true
    at_least x y h = grind (arith, nat_tests)

pub resize_legal : (n c : ℕ) (s : PlainShard) → n < numbers → IsCapacity c → IsTrue (legal s (Resize n c))
resize_legal n c s few capacity = both_true (is_number n) _ (number_is n few) (capacity_is c capacity)

pub resize_made : {C : Type 0} (m : Meanings C) (g : Config) (b : Both) (q q' : Place (Known C)) (n c : ℕ) (s : Scan) (l : ShardLog) (h : HasScanned m g b (Resize n c) q q' s) → n ≡ q.number → q.number ≡ g.callers → makes_one (Resize n c) s.both.shard l
    → HasMade m g (Resize n c) h.passes q q' s.both.shard s.both.hand.own.bucket record { both = record { hand = s.both.hand; turn = s.both.turn; shard = l }; marked = s.marked }
resize_made m g b q q' n c s l h number feeds makes = record {
  may = h.may;
  scan = h.scan;
  takes = refl;
  legal = h.legal;
  named = h.named;
  makes = makes;
  keys = h.room.marked;
  actor = record { acts = inl (number ∙ sym (same_number m g b (Resize n c) q q' s h)); fit = tt; feeder = λ f. number ∙ feeds; own = λ k is. absurd (none-some k is) };
  about = λ k is. absurd (none-some k is);
  own_header = λ k is. absurd (none-some k is);
  other_headers = λ k far. refl;
}

-- ---- what was answered

pub on_ok : {T E : Type 0} (r : Result T E) (P Q : Type 0) → (P → Q) → OnOk r P → OnOk r Q
on_ok (Ok x) P Q f h = f h
on_ok (Err e) P Q f h = tt

pub on_err : {T E : Type 0} (r : Result T E) (P Q : Type 0) → (P → Q) → OnErr r P → OnErr r Q
on_err (Ok x) P Q f h = tt
on_err (Err e) P Q f h = f h

-- either way the party is still what it was to the cache
pub one_stays : {C : Type 0} {T E : Type 0} (m : Meanings C) (g : Config) (valid : IsConfig g) (n c s : ℕ) (p r : Place (Known C)) → p.own.about.config ≡ g → (x : Result T E) → OnOk x (ResizesOne m g n c s p r) → OnErr x (Does m g (key_in s) [] p r) → Stays p r
one_stays m g valid n c s p r same (Ok u) ok err = does_roomy_stays m g valid (key_in s) (Resize n c) p r same ok.does
one_stays m g valid n c s p r same (Err e) ok err = does_stays m g valid (key_in s) [] p r same err
