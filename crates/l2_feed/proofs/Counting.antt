-- What the parts of a feed add to its report.
use Rattle.std.proofs.Common.{◌≡◌, ℕ, zero, suc, ◌+◌, List, [], ◌∷◌, ◌++◌, length, refl, sym, ap, ◌∙◌, arith, append_assoc, length-append, cond, take, drop}
use Rattle.std.specs.Prelude.{count_by, sum_by}
use Rattle.std.proofs.lemmas.List.Sums.{sum_by-append}
use Rattle.blk_ptr.specs.declared.key.Key.{Key}
use Rattle.arc_core.specs.declared.event.Why.{Why}
use Rattle.arc_table.specs.declared.picks.Picked.{Picked as Block}
use Rattle.l2_ring.specs.declared.live.Live.{Live}
use Rattle.l2_ring.specs.declared.live.Written.{Written}
use Rattle.l2_dev.specs.declared.report.FeedReport.{FeedReport}
use Rattle.l2_feed.specs.Acts.{Act, Absent, Cleared, Left, Picked, Placed, Refused, Unpicked, keys_of}
use Rattle.l2_log.specs.Rules.{log_len}
use Rattle.l2_feed.specs.Runs.{AreCleared, AreLeft, AreRuns, AreSet, bytes_of, most}
use Rattle.l2_feed.specs.Sums.{CountsMore, is_cleared, is_placed, picked_in}

pub picked-append : (a b : List Act) → picked_in (a ++ b) ≡ picked_in a ++ picked_in b
picked-append [] b = refl
picked-append (Picked shard blocks ∷ a) b = ap (λ (l : List Key). keys_of blocks ++ l) (picked-append a b) ∙ sym (append_assoc (keys_of blocks) (picked_in a) (picked_in b))
picked-append (Unpicked shard ∷ a) b = picked-append a b
picked-append (Cleared k x ∷ a) b = picked-append a b
picked-append (Absent k x ∷ a) b = picked-append a b
picked-append (Refused k x ∷ a) b = picked-append a b
picked-append (Placed k x ∷ a) b = picked-append a b
picked-append (Left k w ∷ a) b = picked-append a b

pub placed-append : (a b : List Act) → count_by is_placed (a ++ b) ≡ count_by is_placed a + count_by is_placed b
placed-append a b = sum_by-append (λ x. cond {A = ℕ} (is_placed x) 1 0) a b

pub cleared-append : (a b : List Act) → count_by is_cleared (a ++ b) ≡ count_by is_cleared a + count_by is_cleared b
cleared-append a b = sum_by-append (λ x. cond {A = ℕ} (is_cleared x) 1 0) a b

-- ---- acts of one kind

pub cleared-none : (ls : List Live) (acts : List Act) → AreCleared ls acts → (picked_in acts ≡ []) × (count_by is_placed acts ≡ 0)
cleared-none [] [] are = (refl, refl)
cleared-none (l ∷ ls) (Cleared k x ∷ acts) are = cleared-none ls acts are.1
cleared-none (l ∷ ls) (Absent k x ∷ acts) are = cleared-none ls acts are.1
cleared-none (l ∷ ls) (Refused k x ∷ acts) are = cleared-none ls acts are.1
cleared-none [] (a ∷ acts) are = absurd are
cleared-none (l ∷ ls) [] are = absurd are
cleared-none (l ∷ ls) (Picked shard keys ∷ acts) are = absurd are
cleared-none (l ∷ ls) (Unpicked shard ∷ acts) are = absurd are
cleared-none (l ∷ ls) (Placed k x ∷ acts) are = absurd are
cleared-none (l ∷ ls) (Left k w ∷ acts) are = absurd are

pub set-none : (place : ℕ) (bs : List Block) (acts : List Act) → AreSet place bs acts → (picked_in acts ≡ []) × (count_by is_cleared acts ≡ 0)
set-none place [] [] are = (refl, refl)
set-none place (b ∷ bs) (Placed k x ∷ acts) are = set-none (place + b.key.size) bs acts are.1
set-none place (b ∷ bs) (Left k w ∷ acts) are = set-none (place + b.key.size) bs acts are.1
set-none place [] (a ∷ acts) are = absurd are
set-none place (b ∷ bs) [] are = absurd are
set-none place (b ∷ bs) (Picked shard keys ∷ acts) are = absurd are
set-none place (b ∷ bs) (Unpicked shard ∷ acts) are = absurd are
set-none place (b ∷ bs) (Cleared k x ∷ acts) are = absurd are
set-none place (b ∷ bs) (Absent k x ∷ acts) are = absurd are
set-none place (b ∷ bs) (Refused k x ∷ acts) are = absurd are

pub left-none : (reason : Why) (bs : List Block) (acts : List Act) → AreLeft reason bs acts → (picked_in acts ≡ []) × (count_by is_cleared acts ≡ 0) × (count_by is_placed acts ≡ 0)
left-none reason [] [] are = (refl, refl, refl)
left-none reason (b ∷ bs) (Left k w ∷ acts) are = left-none reason bs acts are.1
left-none reason [] (a ∷ acts) are = absurd are
left-none reason (b ∷ bs) [] are = absurd are
left-none reason (b ∷ bs) (Picked shard keys ∷ acts) are = absurd are
left-none reason (b ∷ bs) (Unpicked shard ∷ acts) are = absurd are
left-none reason (b ∷ bs) (Cleared k x ∷ acts) are = absurd are
left-none reason (b ∷ bs) (Absent k x ∷ acts) are = absurd are
left-none reason (b ∷ bs) (Refused k x ∷ acts) are = absurd are
left-none reason (b ∷ bs) (Placed k x ∷ acts) are = absurd are

none-both : (a b : List Act) → picked_in a ≡ [] → picked_in b ≡ [] → picked_in (a ++ b) ≡ []
none-both a b none other = picked-append a b ∙ (ap (λ (l : List Key). l ++ picked_in b) none ∙ other)

pub runs-none : (lap hand count : ℕ) (bs : List Block) (acts : List Act) (ws : List Written) (left : List Block) → AreRuns lap hand count bs acts ws left → (picked_in acts ≡ []) × (count_by is_cleared acts ≡ 0)
runs-none lap hand zero bs acts ws left are = (ap picked_in are.0, ap (count_by is_cleared) are.0)
runs-none lap hand (suc n) bs acts ws left (some, sets, more, behind, is, entries, set, rest) =
    let a = set-none hand (take most bs) sets set in
    let b = runs-none lap (hand + (bytes_of (take most bs) + log_len)) n (drop most bs) more behind left rest in
    (ap picked_in is ∙ none-both sets more a.0 b.0, (let s = a.1 in let t = b.1 in let c = cleared-append sets more in let e = ap (count_by is_cleared) is in omega arith))

-- ---- one part and then another

pub counts-then : (a b : List Act) (old mid new : FeedReport) → CountsMore a old mid → CountsMore b mid new → CountsMore (a ++ b) old new
counts-then a b old mid new f s = record {
  picked = let x = f.picked in let y = s.picked in let e = ap length (picked-append a b) ∙ length-append (picked_in a) (picked_in b) in omega arith;
  bytes = let x = f.bytes in let y = s.bytes in let e = ap (sum_by (λ (k : Key). k.size)) (picked-append a b) ∙ sum_by-append (λ (k : Key). k.size) (picked_in a) (picked_in b) in omega arith;
  written = let x = f.written in let y = s.written in let e = placed-append a b in omega arith;
  cleared = let x = f.cleared in let y = s.cleared in let e = cleared-append a b in omega arith;
}
