use Rattle.std.proofs.Common.{◌≡◌, ◌<◌, ◌∷◌, [], ◌++◌, List, Option, Some, None, sym, ap, ◌∙◌, subst, arith}
use Rattle.hash_chain.specs.declared.header.Header.{Header}
use Rattle.hash_chain.specs.Chain.{Chain, header_at, IsWith}
use Rattle.hash_chain.specs.Kept.{all_of, keys_of, AreOnce}
use Rattle.hash_chain.proofs.First.{append_after, none_not}
use Rattle.hash_chain.proofs.Headers.{map_add, once_add, keys_append}
use Rattle.hash_chain.proofs.Tags.{tags_with}
use Rattle.hash_chain.proofs.bucket.Bucket.add.Goals as goal

pub invariant_of-self-2 : goal.invariant_of-self-2
invariant_of-self-2 c =
    let i = c.self.invariant in
    let o : Option Header = c.self.inside.first in
    let hs : List Header = c.self.inside.more.items in
    let h : Header = c.args.header in
    let absent : header_at h.key (all_of o hs) ≡ None = subst (λ (b : Chain). header_at h.key b.headers ≡ None) (sym c.self.view_is) c.requires.absent in
    let longer : all_of o c.push_reserved-2.new.self.items ≡ all_of o hs ++ h ∷ [] = ap (all_of o) c.push_reserved-2.ensures.items ∙ append_after o hs h in
    let room : 0 < c.self.inside.spare = subst (λ (b : Chain). 0 < b.spare) (sym c.self.view_is) c.requires.room in
    let room_more = i.3 in
    let room_tags = i.4 in (
      tags_with _ _ _ _ _ c.push_reserved.ensures.items (ap keys_of c.push_reserved-2.ensures.items ∙ keys_append hs (h ∷ [])) i.0 c.tag_of.ensures,
      subst AreOnce (sym longer) (once_add (all_of o hs) h i.1 absent),
      none_not o _ c.is_none.result c.is_none.ensures c.if-is_none.false,
      omega arith,
      omega arith,
    )

pub returns-clause-map : goal.returns-clause-map
returns-clause-map c =
    let o : Option Header = c.self.inside.first in
    let hs : List Header = c.self.inside.more.items in
    let h : Header = c.args.header in
    let absent : header_at h.key (all_of o hs) ≡ None = subst (λ (b : Chain). header_at h.key b.headers ≡ None) (sym c.self.view_is) c.requires.absent in
    let longer : all_of o c.push_reserved-2.new.self.items ≡ all_of o hs ++ h ∷ [] = ap (all_of o) c.push_reserved-2.ensures.items ∙ append_after o hs h in
    subst (λ (b : Chain). IsWith h.key (Some h) b.headers (all_of o c.push_reserved-2.new.self.items)) c.self.view_is
    (subst (IsWith h.key (Some h) (all_of o hs)) (sym longer) (map_add (all_of o hs) h absent))
