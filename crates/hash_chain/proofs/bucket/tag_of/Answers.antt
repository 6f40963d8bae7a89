use Rattle.std.proofs.Common.{ap, ◌*◌, ◌/◌, ◌%◌, ◌^◌}
use Rattle.hash_chain.specs.declared.bucket.TheConstants.{SPREAD}
use Rattle.hash_chain.specs.Kept.{tag_of_key}
use Rattle.hash_chain.proofs.bucket.tag_of.Goals as goal

pub returns : goal.returns
unfolding tag_of_key
returns c = ap (λ n. n * SPREAD % 2 ^ 64 / 2 ^ 56) c.hash_of.ensures
