use Rattle.std.proofs.Common.{◌≡◌, ◌<◌, List, Option, Some, length, sym, subst}
use Rattle.std.specs.Prelude.{slice_get}
use Rattle.hash_chain.specs.declared.header.Header.{Header}
use Rattle.hash_chain.specs.Chain.{Chain, header_at}
use Rattle.hash_chain.specs.Kept.{all_of}
use Rattle.hash_chain.proofs.First.{at_after}
use Rattle.hash_chain.proofs.Headers.{found}
use Rattle.hash_chain.proofs.bucket.Bucket.at.Goals as goal

pub returns-then-i-gt0-clause-map : goal.returns-then-i-gt0-clause-map
returns-then-i-gt0-clause-map c =
    let o : Option Header = c.self.inside.first in
    let hs : List Header = c.self.inside.more.items in
    let h : Header = c.index.result.now in
    let range : c.args.i < length (all_of o hs) = subst (λ (b : Chain). c.args.i < length b.headers) (sym c.self.view_is) c.requires in
    let place : slice_get (all_of o hs) c.args.i ≡ Some h = at_after o hs c.args.i h c.self.invariant.2 c.if-i-gt0.true range c.index.ensures in
    subst (λ (b : Chain). header_at h.key b.headers ≡ Some h) c.self.view_is (found (all_of o hs) c.args.i h c.self.invariant.1 place)
