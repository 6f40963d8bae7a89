-- One run after another: the blocks that are left, and the room that they take.
use Rattle.std.proofs.Common.{◌≡◌, ℕ, zero, suc, ◌+◌, ◌*◌, ◌-◌, ◌/◌, ◌<◌, ◌≤◌, List, [], ◌∷◌, ◌++◌, length, drop, take, refl, sym, ap, ◌∙◌, arith}
use Rattle.std.proofs.Math.Seq.{drop-nil}
use Rattle.blk_ptr.specs.Key.{IsWellFormed}
use Rattle.blk_ptr.specs.Size.{sector}
use Rattle.arc_core.specs.declared.config.Config.{Config}
use Rattle.arc_table.specs.declared.picks.Picked.{Picked as Block}
use Rattle.l2_log.specs.Rules.{log_len, ring_start}
use Rattle.l2_ring.specs.declared.live.Written.{Written}
use Rattle.l2_ring.specs.Ring.{IsRoom, IsSound, RingState}
use Rattle.l2_feed.specs.Acts.{Act}
use Rattle.l2_feed.specs.Runs.{AreRuns, AreSet, AreWhole, batch_len, bytes_of, most, row_of, run_place}
use Rattle.l2_feed.proofs.Lists.{bytes_cons, bytes_split, formed_is}

module _ {X : Type 0} where
  pub drop_more : (n m : ℕ) (xs : List X) → drop m (drop n xs) ≡ drop (n + m) xs
  drop_more zero m xs = ap (λ (k : ℕ). drop k xs) (let e : m ≡ 0 + m = omega arith in e)
  drop_more (suc n) m [] = drop-nil m ∙ sym (drop-nil (suc n + m))
  drop_more (suc n) m (x ∷ xs) = drop_more n m xs ∙ ap (λ (k : ℕ). drop k (x ∷ xs)) (let e : suc (n + m) ≡ suc n + m = omega arith in e)

-- ---- where the runs lie

-- the first run lies at the hand
pub no_runs : (hand : ℕ) (bs : List Block) → run_place hand 0 bs ≡ hand
no_runs hand bs = omega arith

-- what is behind so many runs, and what is before it, is all
pub runs_behind : (hand count : ℕ) (bs : List Block) → run_place hand count bs + bytes_of (drop (count * most) bs) ≡ hand + (bytes_of bs + log_len * count)
runs_behind hand count bs = let e = bytes_split (count * most) bs in omega arith

-- ---- one run

pub runs_step : (lap hand count : ℕ) (rest : List Block) (sets more : List Act) (behind : List Written) (left : List Block) → 0 < length rest → AreSet hand (take most rest) sets
    → AreRuns lap (hand + (bytes_of (take most rest) + log_len)) count (drop most rest) more behind left → AreRuns lap hand (suc count) rest (sets ++ more) (row_of lap hand (take most rest) ++ behind) left
runs_step lap hand count rest sets more behind left some set runs = (some, sets, more, behind, refl, refl, set, runs)

-- ---- room

-- the bytes of blocks are whole sectors, one or more each
pub bytes_whole : (bs : List Block) → AreWhole bs → (sectors : ℕ) × (bytes_of bs ≡ sector * sectors) × (length bs ≤ sectors)
bytes_whole [] whole = (0, refl, omega arith)
bytes_whole (b ∷ bs) whole =
    let r = bytes_whole bs whole.1 in
    let f : IsWellFormed b.key = formed_is b.key whole.0.0 in
    let s = f.sized in
    let is = r.1 in
    let few = r.2 in
    let one : b.key.size ≡ sector * (b.key.size / sector) = omega (arith, s.0) in
    (b.key.size / sector + r.0, omega (arith, one, is, bytes_cons b bs), omega (arith, one, s.1, few))

pub room_for : (g : Config) (ring : RingState) (bs : List Block) → IsSound ring → AreWhole bs → 0 < length bs → bytes_of bs ≤ g.bounds.write_max → 2 * g.bounds.write_max ≤ ring.end - ring_start → IsRoom ring (batch_len bs)
room_for g ring bs sound whole some few half =
    let w = bytes_whole bs whole in
    let is = w.1 in
    let many = w.2 in
    let least = sound.ends in
    record {
      some = omega (arith, is, many, some);
      aligned = omega (arith, is);
      fits = omega (arith, is, many, few, half, least);
    }
