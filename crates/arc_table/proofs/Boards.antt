-- What a moment of a party tells, and a give that changes nothing.
use Rattle.std.proofs.Common.{◌≡◌, ◌≢◌, ℕ, ◌<◌, List, [], ◌∷◌, set, Option, Some, refl, sym, ap, ◌∙◌, subst, ⊎_elim, arith, length-set}
use mathlib.Core.Option.{some}
use mathlib.Core.Logic.{dite}
use native.Mathlib.Decide.{ℕ_discrete}
use lib.ListN.{get_elem?}
use Rattle.atomic_table.proofs.Lists.{at_set}
use Rattle.turn_table.specs.Board.{free, taken, Board, IsTaken, Knows}
use Rattle.turn_table.specs.Moments.{Loses, MayGive, WasFree}
use Rattle.turn_table.specs.Places.{Place, saw}
use Rattle.hash_chain.specs.Chain.{Chain}
use Rattle.arc_core.specs.ShardLog.{ShardLog}
use Rattle.arc_core.specs.declared.config.Config.{Config}
use Rattle.arc_table.specs.declared.about.About.{About}
use Rattle.arc_table.specs.declared.item.Item.{Item}
use Rattle.arc_table.specs.declared.item.Item.TheVariants as item
use Rattle.arc_table.specs.declared.view.Known.{Known}
use Rattle.arc_table.specs.pact.Attached.{Attached, IsKind}
use Rattle.arc_table.specs.Geometry.{IsBucket, IsCell, IsShard, turns_of}
use Rattle.arc_table.specs.Fronts.{item_at, list_at, without_item}
use Rattle.arc_table.specs.Giving.{IsAsTaken}
use Rattle.arc_table.specs.Items.{Meanings, holds_in}
use Rattle.arc_table.specs.pact.Rule.{Pact}
use Rattle.arc_table.specs.pact.Scene.{Scene}
use Rattle.arc_table.specs.Views.{after_lost, after_same}
use Rattle.arc_table.specs.pact.AttachedLaws.{StillTaken, attached_moved, free_taken, mine, theirs}
use Rattle.arc_table.proofs.AttachedLaws.{free_same}
use Rattle.arc_table.specs.TableLaws.{same_at}
use Rattle.arc_table.proofs.TableLaws.{without_else}

some_same : {A : Type 0} (x y : A) → ◌≡◌ {A = Option A} (Some x) (Some y) → x ≡ y
some_same x y q = cc

module _ {C : Type 0} (m : Meanings C) where
  -- a turn in hand has now what the party recorded of it, and counts as kept what the party lists
  pub in_hand : (b : Board (Item C) (Known C)) (s : Scene C) (n i : ℕ) (w : Known C) (v : Item C) → Attached m b s → IsTaken b i n → Knows b n w → item_at i w.records ≡ Some v
      → (s.now i ≡ v) × (list_at i w.listed ≡ s.kept i)
  in_hand b s n i w v a is at recorded = let h = a.taken i n is in let same : h.0 ≡ w = same_at b.views n h.0 w h.1 at in (
    some_same (s.now i) v (sym h.2 ∙ (ap (λ (y : Known C). item_at i y.records) same ∙ recorded)),
    ap (λ (y : Known C). list_at i y.listed) (sym same) ∙ h.3,
  )

  -- a turn that n has in hand besides i, or that another party has, while n gives i back
  pub stays_but : (b : Board (Item C) (Known C)) (s t : Scene C) (n i : ℕ) (w u : Known C) → Attached m b s → Knows b n w
      → u.records ≡ without_item i w.records → u.listed ≡ w.listed
      → (j k : ℕ) → j ≢ i → t.now j ≡ s.now j → t.kept j ≡ s.kept j → IsTaken b j k → StillTaken m b s t n u j k
  stays_but b s t n i w u a at records listed j k far now kept is = dite (ℕ_discrete k n)
      (λ q. let h = a.taken j k is in let same : h.0 ≡ w = same_at b.views n h.0 w (subst (λ (x : ℕ). get_elem? b.views x ≡ some h.0) q h.1) at in
      mine q
      (ap (item_at j) records ∙ (without_else i j w.records far ∙ (ap (λ (y : Known C). item_at j y.records) (sym same) ∙ (h.2 ∙ ap Some (sym now)))))
      (ap (list_at j) listed ∙ (ap (λ (y : Known C). list_at j y.listed) (sym same) ∙ (h.3 ∙ sym kept))))
      (λ q. theirs q is now kept)

  -- a party gives a turn back as it found it
  pub given_same : (p : Place (Known C)) (i : ℕ) (v : Item C) → IsAsTaken m i v p.own → MayGive (Pact m) p i v (after_same i p.own)
  given_same p i v same b pact st is =
      let s = pact.scene in
      let a = pact.attached in
      let n : ℕ = p.number in
      let w : Known C = p.own in
      let u : Known C = after_same i w in
      let at : Knows b n w = st.shows.0 in
      let shown = a.views n w at in
      let here = in_hand b s n i w v a is at same.recorded in record {
        scene = s;
        attached = attached_moved m b s s (set b.turns i (free v)) n w u a at refl
            record { number = shown.number; about = shown.about; seen = shown.seen; mine = shown.mine; ledger = shown.ledger; notes = shown.notes }
            (λ k z far h. h) (length-set b.turns i (free v)) a.kinds
            (λ j x f. ⊎_elim
            (λ q. let x_is : v ≡ x = free_same v x q.1 in (ap s.now q.0 ∙ (here.0 ∙ x_is), ap s.kept q.0 ∙ (sym here.1 ∙ (same.listed ∙ ap (holds_in m) x_is))))
            (λ q. a.free j x q.1)
            (at_set b.turns i j (free v) (free x) f))
            (λ j k f. ⊎_elim
            (λ q. absurd (free_taken v k q.1))
            (λ q. stays_but b s s n i w u a at refl refl j k q.0 refl refl q.1)
            (at_set b.turns i j (free v) (taken k) f));
        logged = pact.logged;
        headed = pact.headed;
        counted = pact.counted;
        passed = pact.passed;
      }

  -- ---- what the turns of cells and buckets have

  free_kind : (p : Place (Known C)) (i : ℕ) (v : Item C) → WasFree (Pact m) p i v → i < turns_of p.own.about.config → IsKind p.own.about.config i v
  free_kind p i v f below = let s = f.held.scene in let a = f.held.attached in
      let same : p.own.about.config ≡ s.about.config = ap (λ (x : About). x.config) (a.views p.number p.own f.stands.shows.0).about in
      subst (λ (x : Config × Item C). IsKind x.0 i x.1) (λ k. (sym same k, (a.free i v f.turn).0 k)) (a.kinds i (subst (λ (g : Config). i < turns_of g) same below))

  cell_of : (g : Config) (i : ℕ) (v : Item C) → IsKind g i v → IsCell g i → (cell : C) × (v ≡ item.Cell cell)
  cell_of g i (item.Cell cell) kind h = (cell, refl)
  cell_of g i (item.Bucket b) kind h = let k = kind.0 in absurd (omega arith)
  cell_of g i (item.Shard l) kind h = let k = kind.0 in absurd (omega arith)

  pub bucket_of : (g : Config) (i : ℕ) (v : Item C) → IsKind g i v → IsBucket g i → (b : Chain) × (v ≡ item.Bucket b)
  bucket_of g i (item.Cell cell) kind h = let k = h.0 in absurd (omega arith)
  bucket_of g i (item.Bucket b) kind h = (b, refl)
  bucket_of g i (item.Shard l) kind h = let k = h.1 in let k' = kind.0 in absurd (omega arith)

  pub cell_there : (p : Place (Known C)) (i : ℕ) (v : Item C) → WasFree (Pact m) p i v → IsCell p.own.about.config i → (cell : C) × (v ≡ item.Cell cell)
  cell_there p i v f h = cell_of p.own.about.config i v (free_kind p i v f (omega arith)) h

  pub bucket_there : (p : Place (Known C)) (i : ℕ) (v : Item C) → WasFree (Pact m) p i v → IsBucket p.own.about.config i → (b : Chain) × (v ≡ item.Bucket b)
  bucket_there p i v f h = let k = h.1 in bucket_of p.own.about.config i v (free_kind p i v f (omega arith)) h

  shard_of : (g : Config) (i : ℕ) (v : Item C) → IsKind g i v → IsShard g i → (l : ShardLog) × (v ≡ item.Shard l)
  shard_of g i (item.Cell cell) kind h = let k = h.0 in absurd (omega arith)
  shard_of g i (item.Bucket b) kind h = let k = kind.1 in let k' = h.0 in absurd (omega arith)
  shard_of g i (item.Shard l) kind h = (l, refl)

  pub shard_there : (p : Place (Known C)) (i : ℕ) (v : Item C) → WasFree (Pact m) p i v → IsShard p.own.about.config i → (l : ShardLog) × (v ≡ item.Shard l)
  shard_there p i v f h = shard_of p.own.about.config i v (free_kind p i v f h.1) h

  -- lost tries change nothing that is settled
  pub loses_about : (i : ℕ) (owners : List ℕ) (p q : Place (Known C)) → Loses (Pact m) (λ n. after_lost) i owners p q → q.own.about ≡ p.own.about
  loses_about i [] p q e = ap (λ (x : Place (Known C)). x.own.about) e
  loses_about i (k ∷ ks) p q e = loses_about i ks (saw p (after_lost i k p.own)) q e.1
