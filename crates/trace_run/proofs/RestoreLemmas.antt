-- The feeder restores keys: what its party is behind that.
use Rattle.std.proofs.Common.{◌≡◌, ℕ, ◌==◌, Bool, true, false, if◌then◌else◌, IsTrue, List, [], ◌∷◌, ◌++◌, refl, sym, ap, ◌∙◌, subst, append-nil, append_assoc, eq-eqb, ne_eqb, zero, suc, arith}
use Rattle.std.specs.List.{AllByRecursion}
use Rattle.std.proofs.lemmas.Bool.Decides.{nat_tests}
use mathlib.Core.Logic.{dite}
use mathlib.Core.Option.{some, some-injective, some-ne-none}
use native.Mathlib.Decide.{ℕ_discrete}
use lib.ListN.{get_elem?}
use Rattle.blk_ptr.specs.declared.key.Key.{Key}
use Rattle.blk_ptr.specs.Hash.{shard_of}
use Rattle.blk_ptr.specs.Key.{IsWellFormed, is_well_formed}
use Rattle.arc_core.specs.declared.config.Config.{Config}
use Rattle.arc_core.specs.declared.event.Event.{Event}
use Rattle.arc_core.specs.declared.event.Event.TheVariants.{Restore}
use Rattle.arc_core.specs.declared.served.Restored.{Restored}
use Rattle.arc_core.specs.Operations.{number_of}
use Rattle.turn_table.specs.declared.standing.Kept.{Kept}
use Rattle.turn_table.specs.Places.{Apart, Place}
use Rattle.arc_table.specs.declared.view.Known.{Known}
use Rattle.arc_table.specs.declared.view.Ledger.{Ledger}
use Rattle.arc_table.specs.Both.{Does}
use Rattle.arc_table.specs.Cache.{Cache}
use Rattle.arc_table.specs.feeder.Feeding.{Restores}
use Rattle.arc_table.specs.Fronts.{StartsWith, front_of, list_at}
use Rattle.arc_table.specs.Items.{Meanings}
use Rattle.arc_table.specs.Seen.{AddsAll, HasAll, seen_of, turn_of}
use Rattle.arc_table.specs.TableLaws.{starts_whole}
use Rattle.arc_table.proofs.feeder.PicksAfter.{restores_picks}
use Rattle.arc_table.proofs.Afterwards.{Stays, does_ledger, does_stays, stays_party, stays_then}
use Rattle.arc_table.proofs.OwnLemmas.{grows}
use Rattle.arc_table.proofs.reads.ReadMoments.{moment, own-single}
use Rattle.l2_dev.specs.Rebuilding.{HaveKeys}
use Rattle.trace_run.specs.KeptBlocks.{AllQuiet, ClaimsNothing, Stands, times}
use Rattle.trace_run.specs.Restores.{restores_in}
use Rattle.trace_run.proofs.CellsLeft.{does-leaves, leaves-same, leaves-seen, leaves-then}
use Rattle.trace_run.proofs.deeds.MakesLemmas.{same-none, same-then}
use Rattle.trace_run.proofs.MoveLemmas.{Moves, does-made-own, one-moves}
use Rattle.trace_run.proofs.callers.MeetLemmas.{starts-then}
use Rattle.trace_run.proofs.ResizeLemmas.{HasMade}

-- the restores of a shard are the feeder's
pub restores-mine : (g : Config) (n : ℕ) → n ≡ g.callers → (list : List Restored) (shard : ℕ) → AllByRecursion (λ e. number_of e ≡ n) (restores_in g list shard)
restores-mine g n is [] shard = tt
restores-mine g n is (r ∷ rs) shard = go (shard_of g.shards r.key == shard) (restores-mine g n is rs shard)
  where
    go : (b : Bool) → AllByRecursion (λ e. number_of e ≡ n) (restores_in g rs shard) → AllByRecursion (λ e. number_of e ≡ n) (if b then (Restore g.callers r.key r.place r.digest ∷ restores_in g rs shard) else restores_in g rs shard)
    go true rest = (sym is, rest)
    go false rest = rest

module _ {C : Type 0} (m : Meanings C) (cache : Cache) where
  abbrev g : Config
  g = cache.config

  -- ---- one key

  module _ (r : Restored) (p q : Place (Known C)) (feeder : p.number ≡ cache.config.callers) (stands : Stands cache p []) (all : HasAll p) (does : Does m cache.config r.key (Restore cache.config.callers r.key r.place r.digest ∷ []) p q) where
    abbrev e : Event
    e = Restore cache.config.callers r.key r.place r.digest

    abbrev here : ℕ
    here = shard_of cache.config.shards r.key

    one-stays : Stays p q
    one-stays = does_stays m cache.config stands.valid r.key (e ∷ []) p q stands.of.config does

    moves : Moves cache.config here (moment does.before.now e ∷ []) (e ∷ []) p q
    moves = one-moves m cache.config stands.valid r.key p q stands.of.config stands.seen e (sym feeder) refl does

    one-holds : q.own.ledger.holds ≡ p.own.ledger.holds
    one-holds = ap (λ (l : Ledger). l.holds) (does_ledger m cache.config stands.valid r.key (e ∷ []) p q stands.of.config does)

    one-readings : q.own.ledger.readings ≡ p.own.ledger.readings
    one-readings = ap (λ (l : Ledger). l.readings) (does_ledger m cache.config stands.valid r.key (e ∷ []) p q stands.of.config does)

    one-unclaimed : ClaimsNothing q.own.ledger
    one-unclaimed i = ap (λ (l : Ledger). list_at i l.claims) (does_ledger m cache.config stands.valid r.key (e ∷ []) p q stands.of.config does) ∙ stands.unclaimed i

    one-stands : Stands cache q []
    one-stands = record {
      valid = stands.valid;
      of = stays_party cache p q one-stays stands.of;
      free = one-stays.held ∙ stands.free;
      cells = leaves-seen cache.config p q (does-leaves m cache.config stands.valid r.key (e ∷ []) p q stands.of.config does) stands.cells;
      idle = one-readings ∙ stands.idle;
      unclaimed = one-unclaimed;
      seen = moves.seen;
      apart = subst (λ (x : ℕ × List (Kept (Known C))). Apart x.0 x.1) (λ i. (sym one-stays.number i, sym one-stays.joined i)) stands.apart;
      joined = subst AllQuiet (sym one-stays.joined) stands.joined;
      owned = tt;
      listed = λ x. ap (times x) one-holds ∙ stands.listed x;
    }

    one-starts : (i : ℕ) → StartsWith (front_of (turn_of cache.config i) q.own.seen) (front_of (turn_of cache.config i) p.own.seen)
    one-starts = grows cache.config here does.before (e ∷ []) p q (does-made-own m cache.config stands.valid r.key p q stands.of.config stands.seen (e ∷ []) (own-single p.number e (sym feeder) refl) does)

  -- ---- all of them

  pub restored-to : (list : List Restored) (p q : Place (Known C)) → p.number ≡ g.callers → Stands cache p [] → HasAll p → Restores m g g.callers list p q → HasMade cache (restores_in g list) p q
  restored-to [] p q feeder stands all is = subst (HasMade cache (λ shard. []) p) (sym is) (record {
    stays = record { table = refl; parties = refl; number = refl; joined = refl; held = refl; about = refl };
    stands = stands;
    all = all;
    seen = λ s. sym (append-nil (seen_of g s p));
    starts = λ i. starts_whole (front_of (turn_of g i) p.own.seen);
    left = leaves-same g p p refl;
    made = same-none g p;
    picks = λ feeds i. refl;
  })
  restored-to (r ∷ rs) p q feeder stands all did =
      let b = did.0 in
      let stays = one-stays r p b feeder stands all did.1 in
      let next = one-stands r p b feeder stands all did.1 in
      let move = moves r p b feeder stands all did.1 in
      let rest = restored-to rs b q (stays.number ∙ feeder) next (move.all all) did.2 in
      let adds = move.alone all in
      record {
        stays = stays_then p b q stays rest.stays;
        stands = rest.stands;
        all = rest.all;
        seen = λ s. rest.seen s ∙ more r rs s p b adds;
        starts = λ i. starts-then (front_of (turn_of g i) q.own.seen) (front_of (turn_of g i) b.own.seen) (front_of (turn_of g i) p.own.seen) (rest.starts i) (one-starts r p b feeder stands all did.1 i);
        left = leaves-then g p b q (does-leaves m cache.config stands.valid r.key (Restore cache.config.callers r.key r.place r.digest ∷ []) p b stands.of.config did.1) rest.left;
        made = same-then g p b q move.same rest.made;
        picks = λ feeds i. restores_picks m g g.callers (r ∷ rs) p q (stands.valid, stands.of.config, feeds) did i;
      }
    where
      more : (r : Restored) (rs : List Restored) (s : ℕ) (p b : Place (Known C)) → AddsAll g (shard_of g.shards r.key) (Restore g.callers r.key r.place r.digest ∷ []) p b
          → seen_of g s b ++ restores_in g rs s ≡ seen_of g s p ++ restores_in g (r ∷ rs) s
      more r rs s p b adds = dite (ℕ_discrete s (shard_of g.shards r.key))
          (λ same.
          let test : (shard_of g.shards r.key == s) ≡ true = eq-eqb (shard_of g.shards r.key) s (sym same) in
          rw test
          (ap (λ (es : List Event). es ++ restores_in g rs s) (subst (λ (n : ℕ). seen_of g n b ≡ seen_of g n p ++ Restore g.callers r.key r.place r.digest ∷ []) (sym same) adds.here)
          ∙ append_assoc (seen_of g s p) (Restore g.callers r.key r.place r.digest ∷ []) (restores_in g rs s)))
          (λ differs.
          let test : (shard_of g.shards r.key == s) ≡ false = ne_eqb (shard_of g.shards r.key) s (λ is. differs (sym is)) in
          rw test (ap (λ (es : List Event). es ++ restores_in g rs s) (adds.others s differs)))

-- each key is one of a block
formed-test : (k : Key) → IsWellFormed k → IsTrue (is_well_formed k)
formed-test k formed = grind (arith, nat_tests, formed.aligned, formed.sized.0, formed.sized.1, formed.sized.2, formed.born)

pub keys-formed : (list : List Restored) → HaveKeys list → (i : ℕ) (r : Restored) → get_elem? list i ≡ some r → IsTrue (is_well_formed r.key)
keys-formed [] keys i r at = absurd (some-ne-none r (sym at))
keys-formed (x ∷ xs) keys zero r at = subst (λ (y : Restored). IsTrue (is_well_formed y.key)) (some-injective x r at) (formed-test x.key keys.0)
keys-formed (x ∷ xs) keys (suc i) r at = keys-formed xs keys.2 i r at
