use Rattle.std.proofs.Common.{◌≡◌, ◌<◌, ◌∙◌, Option, Result, Ok, Err, OnOk, OnErr, Some, IfSome, length, slice_get, sym, ap, subst, map}
use Rattle.std.proofs.lemmas.Result.{IfOk-weaker, on_ok_weaker}
use Rattle.hash_chain.specs.declared.header.Header.{Header}
use Rattle.hash_chain.specs.Alike.{AreAlike}
use Rattle.hash_chain.specs.Chain.{Chain, IsAlikeTo, bytes_lent, lent}
use Rattle.hash_chain.specs.Kept.{all_of, tag_of_key}
use Rattle.hash_chain.proofs.First.{at_after, became, became_headers, became_map}
use Rattle.hash_chain.proofs.Headers.{some_is}
use Rattle.hash_chain.proofs.bucket.Bucket.take_block.Goals as goal

-- whether an owner was taken or not, the header has its key
same_key : {T E : Type 0} (r : Result T E) (m n : Header) → OnOk r (n ≡ lent m) → OnErr r (n ≡ m) → n.key ≡ m.key
same_key (Ok x) m n ok err = ap (λ (z : Header). z.key) ok
same_key (Err e) m n ok err = ap (λ (z : Header). z.key) err

pub invariant_of-self : goal.invariant_of-self
invariant_of-self c =
    let i = c.self.invariant in
    let t = c.take_from in
    let range : c.args.i < length (all_of c.self.inside.first c.self.inside.more.items) = subst (λ (b : Chain). c.args.i < length b.headers) (sym c.self.view_is) c.requires.range in
    let key = same_key t.result c.index_mut.result.now t.new.header t.ensures.ok t.ensures.err in
    let r = became c.self.inside.first c.self.inside.more.items c.args.i c.index_mut.result.now t.new.header i.1 i.2 c.if-i-gt0.true range c.index_mut.ensures.value key in
    (i.0 ∙ ap (map tag_of_key) (sym r.keys), r.once, r.none, i.3, i.4)

pub returns-then-i-gt0-clause-ok : goal.returns-then-i-gt0-clause-ok
returns-then-i-gt0-clause-ok c =
    let i = c.self.invariant in
    let t = c.take_from in
    let range : c.args.i < length (all_of c.self.inside.first c.self.inside.more.items) = subst (λ (b : Chain). c.args.i < length b.headers) (sym c.self.view_is) c.requires.range in
    let key = same_key t.result c.index_mut.result.now t.new.header t.ensures.ok t.ensures.err in
    on_ok_weaker t.result (λ made h at.
    became_headers c.self.inside.first c.self.inside.more.items c.args.i c.index_mut.result.now t.new.header i.1 i.2 c.if-i-gt0.true range c.index_mut.ensures.value key
    c.self.inside.spare lent made c.args.self.now c.self.view_is h at) t.ensures.ok

pub returns-then-i-gt0-clause-map : goal.returns-then-i-gt0-clause-map
returns-then-i-gt0-clause-map c =
    let i = c.self.invariant in
    let t = c.take_from in
    let range : c.args.i < length (all_of c.self.inside.first c.self.inside.more.items) = subst (λ (b : Chain). c.args.i < length b.headers) (sym c.self.view_is) c.requires.range in
    let key = same_key t.result c.index_mut.result.now t.new.header t.ensures.ok t.ensures.err in
    on_ok_weaker t.result (λ made h at.
    became_map c.self.inside.first c.self.inside.more.items c.args.i c.index_mut.result.now t.new.header i.1 i.2 c.if-i-gt0.true range c.index_mut.ensures.value key
    c.self.inside.spare lent made c.args.self.now c.self.view_is h at) t.ensures.ok

pub returns-then-i-gt0-clause-owner : goal.returns-then-i-gt0-clause-owner
returns-then-i-gt0-clause-owner c =
    let i = c.self.invariant in
    let t = c.take_from in
    let m : Header = c.index_mut.result.now in
    let range : c.args.i < length (all_of c.self.inside.first c.self.inside.more.items) = subst (λ (b : Chain). c.args.i < length b.headers) (sym c.self.view_is) c.requires.range in
    let place = at_after c.self.inside.first c.self.inside.more.items c.args.i m i.2 c.if-i-gt0.true range c.index_mut.ensures.value in
    IfOk-weaker t.result (λ owner. bytes_lent m ≡ Some owner.value) (λ owner. (h : Header) → slice_get c.args.self.now.headers c.args.i ≡ Some h → bytes_lent h ≡ Some owner.value)
    (λ owner is h at. ap bytes_lent (sym (some_is m h (sym place ∙ subst (λ (b : Chain). slice_get b.headers c.args.i ≡ Some h) (sym c.self.view_is) at))) ∙ is) t.ensures.owner

pub returns-then-i-gt0-clause-alike : goal.returns-then-i-gt0-clause-alike
returns-then-i-gt0-clause-alike c =
    let i = c.self.invariant in
    let t = c.take_from in
    let m : Header = c.index_mut.result.now in
    let range : c.args.i < length (all_of c.self.inside.first c.self.inside.more.items) = subst (λ (b : Chain). c.args.i < length b.headers) (sym c.self.view_is) c.requires.range in
    let place = at_after c.self.inside.first c.self.inside.more.items c.args.i m i.2 c.if-i-gt0.true range c.index_mut.ensures.value in
    IfOk-weaker t.result (λ owner. IfSome m.block (λ kept. AreAlike owner.value kept.block.value)) (λ owner. IsAlikeTo (slice_get c.args.self.now.headers c.args.i) owner.value)
    (λ owner alike. subst (λ (b : Chain). IsAlikeTo (slice_get b.headers c.args.i) owner.value) c.self.view_is (subst (λ (o : Option Header). IsAlikeTo o owner.value) (sym place) alike)) t.ensures.alike
