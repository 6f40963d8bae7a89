use Rattle.std.proofs.Common.{◌≡◌, ◌<◌, ◌-◌, List, [], Option, length, map, Some, None, IfNone, refl, take, sym, ap, ◌∙◌, subst, arith}
use Rattle.std.proofs.lemmas.List.{length-map}
use Rattle.std.specs.Prelude.{slice_get, option_to_list, vec_len}
use Rattle.hash_chain.specs.declared.header.Header.{Header}
use Rattle.hash_chain.specs.Chain.{Chain, IsWith}
use Rattle.hash_chain.specs.Kept.{all_of, keys_of, tag_of_key, AreOnce}
use Rattle.hash_chain.proofs.First.{at_after, below_after, left_after, left_first, none_popped, keys_popped, tags_popped}
use Rattle.hash_chain.proofs.Headers.{get_value}
use Rattle.hash_chain.proofs.Tags.{tags_without}
use Rattle.hash_chain.proofs.bucket.Bucket.remove.Goals as goal

pub invariant_of-self : goal.invariant_of-self
invariant_of-self c =
    let i = c.self.invariant in
    let o : Option Header = c.self.inside.first in
    let hs : List Header = c.self.inside.more.items in
    let gs : List Header = c.pop-last.new.self.items in
    let l : Option Header = c.pop-last.result in
    let f : Header = c.unwrap.result in
    let first : o ≡ Some f = sym c.replace.ensures.value ∙ c.unwrap.ensures in
    let one : length (option_to_list o) ≡ 1 = ap (λ (z : Option Header). length (option_to_list z)) first in
    let now : length (option_to_list c.replace.new.dest) ≡ length (option_to_list l) = ap (λ (z : Option Header). length (option_to_list z)) c.replace.ensures.after in
    let r = left_first o hs gs l f first i.1 c.pop-last.ensures.items (none_popped l hs gs _ _ _ c.pop-last.ensures.cases c.pop-last.ensures.rest) in
    let keys : take (vec_len c.self.inside.more - 1) (keys_of hs) ≡ keys_of gs = keys_popped hs gs (keys_of hs) _ (vec_len c.self.inside.more) (vec_len c.self.inside.more) refl c.pop-last.ensures.rest refl refl in
    let as_many : length c.self.inside.tags.items ≡ length hs = ap length i.0 ∙ (length-map (keys_of hs) tag_of_key ∙ length-map hs (λ (h : Header). h.key)) in
    let tags : c.pop.new.self.items ≡ map tag_of_key (keys_of gs) = tags_popped (keys_of hs) (keys_of gs) _ _ (vec_len c.self.inside.more) _ i.0 (sym keys) c.pop.ensures.rest (omega arith) in
    let left_tags : length c.pop.new.self.items ≡ length gs = ap length tags ∙ (length-map (keys_of gs) tag_of_key ∙ length-map gs (λ (h : Header). h.key)) in
    let a = c.pop-last.ensures.len in
    let b = c.pop-last.ensures.capacity in
    let e = c.pop.ensures.capacity in
    let room_more = i.3 in
    let room_tags = i.4 in (
      tags,
      subst (λ (z : Option Header). AreOnce (all_of z gs)) (sym c.replace.ensures.after) r.once,
      subst (λ (z : Option Header). IfNone z (gs ≡ [])) (sym c.replace.ensures.after) r.none,
      omega arith,
      omega arith,
    )

pub returns-then-i-eq0-clause-map : goal.returns-then-i-eq0-clause-map
returns-then-i-eq0-clause-map c =
    let i = c.self.invariant in
    let o : Option Header = c.self.inside.first in
    let hs : List Header = c.self.inside.more.items in
    let gs : List Header = c.pop-last.new.self.items in
    let l : Option Header = c.pop-last.result in
    let f : Header = c.unwrap.result in
    let first : o ≡ Some f = sym c.replace.ensures.value ∙ c.unwrap.ensures in
    let r = left_first o hs gs l f first i.1 c.pop-last.ensures.items (none_popped l hs gs _ _ _ c.pop-last.ensures.cases c.pop-last.ensures.rest) in
    subst (λ (b : Chain). IsWith f.key None b.headers (all_of c.replace.new.dest gs)) c.self.view_is
    (subst (λ (z : Option Header). IsWith f.key None (all_of o hs) (all_of z gs)) (sym c.replace.ensures.after) r.map)

pub invariant_of-self-2 : goal.invariant_of-self-2
invariant_of-self-2 c =
    let i = c.self.invariant in
    let o : Option Header = c.self.inside.first in
    let hs : List Header = c.self.inside.more.items in
    let g : Header = c.swap_remove-2.result in
    let after : 0 < c.args.i = omega arith in
    let range : c.args.i < length (all_of o hs) = subst (λ (b : Chain). c.args.i < length b.headers) (sym c.self.view_is) c.requires in
    let within : c.args.i - 1 < length hs = below_after o hs c.args.i i.2 after range in
    let at : slice_get hs (c.args.i - 1) ≡ Some g = get_value hs (c.args.i - 1) g within c.swap_remove-2.ensures.value in
    let l = left_after o hs (keys_of hs) (c.args.i - 1) g g g.key i.1 i.2 refl at in
    let a = c.swap_remove-2.ensures.len in
    let d = c.swap_remove.ensures.len in
    let e = c.swap_remove-2.ensures.capacity in
    let j = c.swap_remove.ensures.capacity in
    let room_more = i.3 in
    let room_tags = i.4 in
    let in_keys : c.args.i - 1 < length (keys_of hs) = let n = length-map hs (λ (h : Header). h.key) in omega arith in (
      c.swap_remove.ensures.items ∙ (tags_without _ (keys_of hs) (c.args.i - 1) c.swap_remove.result g.key i.0 in_keys ∙ ap (map tag_of_key) (l.keys ∙ ap keys_of (sym c.swap_remove-2.ensures.items))),
      subst (λ (z : List Header). AreOnce (all_of o z)) (sym c.swap_remove-2.ensures.items) l.once,
      subst (λ (z : List Header). IfNone o (z ≡ [])) (sym c.swap_remove-2.ensures.items) l.none,
      omega arith,
      omega arith,
    )

pub returns-clause-value : goal.returns-clause-value
returns-clause-value c =
    let o : Option Header = c.self.inside.first in
    let hs : List Header = c.self.inside.more.items in
    let after : 0 < c.args.i = omega arith in
    let range : c.args.i < length (all_of o hs) = subst (λ (b : Chain). c.args.i < length b.headers) (sym c.self.view_is) c.requires in
    subst (λ (b : Chain). slice_get b.headers c.args.i ≡ Some c.swap_remove-2.result) c.self.view_is (at_after o hs c.args.i c.swap_remove-2.result c.self.invariant.2 after range c.swap_remove-2.ensures.value)

pub returns-clause-map : goal.returns-clause-map
returns-clause-map c =
    let i = c.self.invariant in
    let o : Option Header = c.self.inside.first in
    let hs : List Header = c.self.inside.more.items in
    let g : Header = c.swap_remove-2.result in
    let after : 0 < c.args.i = omega arith in
    let range : c.args.i < length (all_of o hs) = subst (λ (b : Chain). c.args.i < length b.headers) (sym c.self.view_is) c.requires in
    let at : slice_get hs (c.args.i - 1) ≡ Some g = get_value hs (c.args.i - 1) g (below_after o hs c.args.i i.2 after range) c.swap_remove-2.ensures.value in
    let l = left_after o hs (keys_of hs) (c.args.i - 1) g g g.key i.1 i.2 refl at in
    subst (λ (b : Chain). IsWith g.key None b.headers (all_of o c.swap_remove-2.new.self.items)) c.self.view_is
    (subst (λ (z : List Header). IsWith g.key None (all_of o hs) (all_of o z)) (sym c.swap_remove-2.ensures.items) l.map)
