use Rattle.std.proofs.Common.{◌<◌, ◌∙◌, length, None, sym, ap, subst, map}
use Rattle.hash_chain.specs.declared.header.Header.{Header}
use Rattle.hash_chain.specs.Chain.{Chain}
use Rattle.hash_chain.specs.Kept.{all_of, tag_of_key}
use Rattle.hash_chain.proofs.First.{became, became_headers, became_map}
use Rattle.hash_chain.proofs.bucket.Bucket.evict.Goals as goal

pub invariant_of-self : goal.invariant_of-self
invariant_of-self c =
    let i = c.self.invariant in
    let range : c.args.i < length (all_of c.self.inside.first c.self.inside.more.items) = subst (λ (b : Chain). c.args.i < length b.headers) (sym c.self.view_is) c.requires in
    let r = became c.self.inside.first c.self.inside.more.items c.args.i c.index_mut.result.now c.leave_ghost.new.header i.1 i.2 c.if-i-gt0.true range c.index_mut.ensures.value (ap (λ (z : Header). z.key) c.leave_ghost.ensures) in
    (i.0 ∙ ap (map tag_of_key) (sym r.keys), r.once, r.none, i.3, i.4)

pub returns-then-i-gt0-clause-headers : goal.returns-then-i-gt0-clause-headers
returns-then-i-gt0-clause-headers c h at =
    let i = c.self.invariant in
    let range : c.args.i < length (all_of c.self.inside.first c.self.inside.more.items) = subst (λ (b : Chain). c.args.i < length b.headers) (sym c.self.view_is) c.requires in
    became_headers c.self.inside.first c.self.inside.more.items c.args.i c.index_mut.result.now c.leave_ghost.new.header i.1 i.2 c.if-i-gt0.true range c.index_mut.ensures.value (ap (λ (z : Header). z.key) c.leave_ghost.ensures)
    c.self.inside.spare (λ z. record z { state = c.args.state; block = None }) c.leave_ghost.ensures c.args.self.now c.self.view_is h at

pub returns-then-i-gt0-clause-map : goal.returns-then-i-gt0-clause-map
returns-then-i-gt0-clause-map c h at =
    let i = c.self.invariant in
    let range : c.args.i < length (all_of c.self.inside.first c.self.inside.more.items) = subst (λ (b : Chain). c.args.i < length b.headers) (sym c.self.view_is) c.requires in
    became_map c.self.inside.first c.self.inside.more.items c.args.i c.index_mut.result.now c.leave_ghost.new.header i.1 i.2 c.if-i-gt0.true range c.index_mut.ensures.value (ap (λ (z : Header). z.key) c.leave_ghost.ensures)
    c.self.inside.spare (λ z. record z { state = c.args.state; block = None }) c.leave_ghost.ensures c.args.self.now c.self.view_is h at
