-- What the feeder gives: new capacities, and keys that are restored.
use Rattle.std.proofs.Common.{◌≡◌, ℕ, ◌==◌, Bool, true, false, if◌then◌else◌, List, [], ◌∷◌, inl, inr, refl, ap, eq-eqb}
use Rattle.std.specs.List.{AllByRecursion}
use Rattle.std.proofs.lemmas.Bool.{false≢true}
use Rattle.blk_ptr.specs.Hash.{shard_of}
use Rattle.arc_lists.proofs.Tables.{cases_true}
use Rattle.arc_core.specs.declared.config.Config.{Config}
use Rattle.arc_core.specs.declared.event.Event.{Event}
use Rattle.arc_core.specs.declared.event.Event.TheVariants as event
use Rattle.arc_core.specs.declared.served.Restored.{Restored}
use Rattle.arc_core.specs.Operations.{is_pool_read, number_of, own_events}
use Rattle.trace_run.specs.Restores.{restores_in}
use Rattle.trace_run.proofs.one_caller.TellLemmas.{is_given}

-- what the feeder gives is no read of the pool
pub given-unread : (e : Event) → is_given e ≡ true → is_pool_read e ≡ false
given-unread (event.Resize n c) is = refl
given-unread (event.Restore n k place d) is = refl
given-unread (event.Pass n k owner) is = absurd (false≢true is)
given-unread (event.Hit n k t) is = absurd (false≢true is)
given-unread (event.Miss n k t) is = absurd (false≢true is)
given-unread (event.Arrive n k d from) is = absurd (false≢true is)
given-unread (event.Fail n k at) is = absurd (false≢true is)
given-unread (event.Drop n k) is = absurd (false≢true is)
given-unread (event.Past n k kept) is = absurd (false≢true is)
given-unread (event.Hand n k to) is = absurd (false≢true is)
given-unread (event.Insert n k d t) is = absurd (false≢true is)
given-unread (event.Release n k sole) is = absurd (false≢true is)
given-unread (event.Pick n k) is = absurd (false≢true is)
given-unread (event.FeedEnd n) is = absurd (false≢true is)
given-unread (event.Set n k place) is = absurd (false≢true is)
given-unread (event.Leave n k why) is = absurd (false≢true is)
given-unread (event.Clear n k) is = absurd (false≢true is)

-- the restores of a shard are what the feeder gives
pub restores-given : (g : Config) (n : ℕ) → g.callers ≡ n → (list : List Restored) (shard : ℕ) → AllByRecursion (λ e. (number_of e ≡ n) × (is_given e ≡ true)) (restores_in g list shard)
restores-given g n is [] shard = tt
restores-given g n is (r ∷ rs) shard = go (shard_of g.shards r.key == shard) (restores-given g n is rs shard)
  where
    go : (b : Bool) → AllByRecursion (λ e. (number_of e ≡ n) × (is_given e ≡ true)) (restores_in g rs shard) → AllByRecursion (λ e. (number_of e ≡ n) × (is_given e ≡ true)) (if b then (event.Restore g.callers r.key r.place r.digest ∷ restores_in g rs shard) else restores_in g rs shard)
    go true rest = ((is, refl), rest)
    go false rest = rest

-- all of them are the feeder's own
pub own-restores : (g : Config) (n : ℕ) → g.callers ≡ n → (list : List Restored) (shard : ℕ) → own_events n (restores_in g list shard) ≡ restores_in g list shard
own-restores g n is [] shard = refl
own-restores g n is (r ∷ rs) shard = elim (cases_true (shard_of g.shards r.key == shard)) [
  | inl here ↦ rw here (let mine : (g.callers == n) ≡ true = eq-eqb g.callers n is in rw mine (ap (λ (es : List Event). event.Restore g.callers r.key r.place r.digest ∷ es) (own-restores g n is rs shard)))
  | inr else_where ↦ rw else_where (own-restores g n is rs shard)
]
