-- A trace that was read from a text is formed, with the bound of a feed that its device gives too.
use Rattle.std.proofs.Common.{◌≡◌, ◌≤◌, ℕ, Bool, min, nat_lt, if◌then◌else◌, ◌-◌, ◌/◌, ◌^◌, sym, ap, subst, inl, inr, arith}
use Rattle.std.proofs.lemmas.Bool.{cases_Bool}
use Rattle.std.proofs.lemmas.Bool.Decides.{nat_tests}
use Rattle.arc_core.specs.Config.{IsFromTo}
use Rattle.l2_dev.specs.Rebuilding.{ring_end_of}
use Rattle.l2_log.specs.Rules.{least_ring_end, ring_start}
use Rattle.trace_text.specs.Grammar.{IsFormed}
use Rattle.trace_text.specs.declared.trace.Trace.{Trace}
use Rattle.trace_run.specs.Bounded.{feed_bound, with_bound}

-- the bound is in its range
bound-range : (w size : ℕ) → IsFromTo 512 (2 ^ 32) w → IsFromTo 512 (2 ^ 32) (feed_bound w size)
bound-range w size range = elim (cases_Bool (nat_lt size least_ring_end)) [
  | inl short ↦ (
      let is : feed_bound w size ≡ w = ap (λ (b : Bool). if b then w else min w ((ring_end_of size - ring_start) / 2)) short in
      subst (IsFromTo 512 (2 ^ 32)) (sym is) range)
  | inr long ↦ (
      let is : feed_bound w size ≡ min w ((ring_end_of size - ring_start) / 2) = ap (λ (b : Bool). if b then w else min w ((ring_end_of size - ring_start) / 2)) long in
      let past : least_ring_end ≤ size = grind (arith, nat_tests, long) in
      (omega (arith, is, past, range.0), omega (arith, is, past, range.1)))
]

pub formed-bound : (trace : Trace) (size : ℕ) → IsFormed trace → IsFormed (with_bound trace size)
formed-bound trace size f = record {
  config = record {
    counts = record { callers = f.config.counts.callers; shards = f.config.counts.shards; buckets = f.config.counts.buckets; cells = f.config.counts.cells };
    amounts = record { c = f.config.amounts.c; all_shards = f.config.amounts.all_shards; mintime = f.config.amounts.mintime; dbuf_bytes = f.config.amounts.dbuf_bytes };
    bounds = record { write_max = bound-range trace.config.bounds.write_max size f.config.bounds.write_max; headroom = f.config.bounds.headroom };
  };
  blocks = f.blocks;
  few_blocks = f.few_blocks;
  objects = f.objects;
  few_objects = f.few_objects;
  apart = f.apart;
  ops = f.ops;
  few_ops = f.few_ops;
}
