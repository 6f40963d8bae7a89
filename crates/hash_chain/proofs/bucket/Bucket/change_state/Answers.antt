use Rattle.std.proofs.Common.{◌≡◌, ◌<◌, List, length, refl, sym, ap, ◌∙◌, subst, map}
use Rattle.std.specs.Prelude.{slice_set}
use Rattle.hash_chain.specs.declared.header.Header.{Header}
use Rattle.hash_chain.specs.Chain.{Chain}
use Rattle.hash_chain.specs.Kept.{all_of, tag_of_key}
use Rattle.hash_chain.proofs.First.{became, became_headers, became_map}
use Rattle.hash_chain.proofs.Headers.{set_same, some_is}
use Rattle.hash_chain.proofs.bucket.Bucket.change_state.Goals as goal

pub returns-then-says-clause-headers : goal.returns-then-says-clause-headers
returns-then-says-clause-headers c h at =
    let now : List Header = c.args.self.now.headers in
    let same : c.at.result.now ≡ h = some_is c.at.result.now h (sym c.at.ensures.place ∙ at) in
    let says : record h { state = c.args.state; place = c.args.place } ≡ h = subst (λ (z : Header). record z { state = c.args.state; place = c.args.place } ≡ z) same (c.if-says.ensures refl) in
    sym (ap (λ (l : List Header). record c.args.self.now { headers = l }) (ap (λ (z : Header). slice_set now c.args.i z) says ∙ set_same now c.args.i h at))

pub invariant_of-self : goal.invariant_of-self
invariant_of-self c =
    let i = c.self.invariant in
    let range : c.args.i < length (all_of c.self.inside.first c.self.inside.more.items) = subst (λ (b : Chain). c.args.i < length b.headers) (sym c.self.view_is) c.requires in
    let r = became c.self.inside.first c.self.inside.more.items c.args.i c.index_mut.result.now c.restate.new.header i.1 i.2 c.if-i-gt0.true range c.index_mut.ensures.value (ap (λ (z : Header). z.key) c.restate.ensures) in
    (i.0 ∙ ap (map tag_of_key) (sym r.keys), r.once, r.none, i.3, i.4)

pub returns-then-i-gt0-clause-headers : goal.returns-then-i-gt0-clause-headers
returns-then-i-gt0-clause-headers c h at =
    let i = c.self.invariant in
    let range : c.args.i < length (all_of c.self.inside.first c.self.inside.more.items) = subst (λ (b : Chain). c.args.i < length b.headers) (sym c.self.view_is) c.requires in
    became_headers c.self.inside.first c.self.inside.more.items c.args.i c.index_mut.result.now c.restate.new.header i.1 i.2 c.if-i-gt0.true range c.index_mut.ensures.value (ap (λ (z : Header). z.key) c.restate.ensures)
    c.self.inside.spare (λ z. record z { state = c.args.state; place = c.args.place }) c.restate.ensures c.args.self.now c.self.view_is h at

pub returns-then-i-gt0-clause-map : goal.returns-then-i-gt0-clause-map
returns-then-i-gt0-clause-map c h at =
    let i = c.self.invariant in
    let range : c.args.i < length (all_of c.self.inside.first c.self.inside.more.items) = subst (λ (b : Chain). c.args.i < length b.headers) (sym c.self.view_is) c.requires in
    became_map c.self.inside.first c.self.inside.more.items c.args.i c.index_mut.result.now c.restate.new.header i.1 i.2 c.if-i-gt0.true range c.index_mut.ensures.value (ap (λ (z : Header). z.key) c.restate.ensures)
    c.self.inside.spare (λ z. record z { state = c.args.state; place = c.args.place }) c.restate.ensures c.args.self.now c.self.view_is h at
