-- What a page leaves of the cache.
use Rattle.std.proofs.Common.{◌≡◌, ℕ, Bool, sym, ◌∙◌, ap, subst, arith}
use Rattle.arc_paper.specs.Arc.{Arc, is_hit, step}
use Rattle.arc_paper.specs.Bounds.{IsBounded}
use Rattle.arc_paper.specs.Cache.{Cache}
use Rattle.arc_paper.specs.Directory.{Lists, arc_of}
use Rattle.arc_paper.specs.Kept.{PaperKeeps, cache_in}
use Rattle.arc_paper.specs.declared.paper.Paper.TheInside.{Inside}
use Rattle.arc_paper.proofs.Bounding.{IsBounded-step}

-- the lists after the page are those of a step
pub PaperKeeps-step : (x p : ℕ) (d : Lists) (paper : Inside) → PaperKeeps paper → step paper.c x (arc_of paper.directory paper.p) ≡ arc_of d p
    → d.room ≡ paper.directory.room → PaperKeeps (record { directory = d; p = p; c = paper.c })
PaperKeeps-step x p d paper kept stepped room = record {
  capacity = kept.capacity;
  bounded = subst (IsBounded paper.c) stepped (IsBounded-step paper.c x _ (omega (arith, kept.capacity.least)) kept.bounded);
  room = room ∙ kept.room;
}

pub cache-step : (x p : ℕ) (d : Lists) (paper : Inside) (seen : Cache) → cache_in paper ≡ seen → step paper.c x (arc_of paper.directory paper.p) ≡ arc_of d p
    → cache_in (record { directory = d; p = p; c = paper.c }) ≡ record seen { arc = step seen.capacity x seen.arc }
cache-step x p d paper seen is stepped =
    subst (λ (s : Cache). cache_in (record { directory = d; p = p; c = paper.c }) ≡ record s { arc = step s.capacity x s.arc }) is
    (ap (λ (a : Arc). let s : Cache = record { capacity = paper.c; arc = a } in s) (sym stepped))

pub is_hit-seen : (x : ℕ) (hit : Bool) (paper : Inside) (seen : Cache) → cache_in paper ≡ seen → is_hit x (arc_of paper.directory paper.p) ≡ hit → hit ≡ is_hit x seen.arc
is_hit-seen x hit paper seen is told = subst (λ (s : Cache). hit ≡ is_hit x s.arc) is (sym told)
