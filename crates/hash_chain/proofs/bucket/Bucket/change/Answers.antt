use Rattle.std.proofs.Common.{◌≡◌, ◌<◌, ◌-◌, List, Option, length, Some, IfSome, sym, ◌∙◌, subst, arith, ap, map}
use Rattle.std.specs.Prelude.{slice_get, slice_set}
use Rattle.hash_chain.specs.declared.header.Header.{Header}
use Rattle.hash_chain.specs.Chain.{Chain, IsWith}
use Rattle.hash_chain.specs.Kept.{all_of, tag_of_key}
use Rattle.hash_chain.proofs.First.{changed_after}
use Rattle.hash_chain.proofs.bucket.Bucket.change.Goals as goal

pub invariant_of-self-2 : goal.invariant_of-self-2
invariant_of-self-2 c =
    let i = c.self.invariant in
    let o : Option Header = c.self.inside.first in
    let hs : List Header = c.self.inside.more.items in
    let after : 0 < c.args.i = omega arith in
    let range : c.args.i < length (all_of o hs) = subst (λ (b : Chain). c.args.i < length b.headers) (sym c.self.view_is) c.requires.range in
    let same : IfSome (slice_get (all_of o hs) c.args.i) (λ h. h.key ≡ c.args.header.key) = subst (λ (b : Chain). IfSome (slice_get b.headers c.args.i) (λ h. h.key ≡ c.args.header.key)) (sym c.self.view_is) c.requires.same in
    let r = changed_after o hs c.args.i c.args.header i.1 i.2 after range same in
    (i.0 ∙ ap (map tag_of_key) (sym r.keys), r.once, r.none, i.3, i.4)

pub returns-clause-map : goal.returns-clause-map
returns-clause-map c =
    let i = c.self.invariant in
    let o : Option Header = c.self.inside.first in
    let hs : List Header = c.self.inside.more.items in
    let after : 0 < c.args.i = omega arith in
    let range : c.args.i < length (all_of o hs) = subst (λ (b : Chain). c.args.i < length b.headers) (sym c.self.view_is) c.requires.range in
    let same : IfSome (slice_get (all_of o hs) c.args.i) (λ h. h.key ≡ c.args.header.key) = subst (λ (b : Chain). IfSome (slice_get b.headers c.args.i) (λ h. h.key ≡ c.args.header.key)) (sym c.self.view_is) c.requires.same in
    let r = changed_after o hs c.args.i c.args.header i.1 i.2 after range same in
    subst (λ (b : Chain). IsWith c.args.header.key (Some c.args.header) b.headers (all_of o (slice_set hs (c.args.i - 1) c.args.header))) c.self.view_is r.map
