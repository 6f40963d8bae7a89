use Rattle.std.proofs.Common.{◌≡◌, ℕ, ◌+◌, ◌<◌, ◌∷◌, List, Option, length, IfSome, IfNone, None, refl, sym, ap, ◌∙◌, subst}
use Rattle.std.specs.Prelude.{slice_get}
use Rattle.std.specs.List.{position}
use Rattle.hash_chain.specs.declared.header.Header.{Header}
use Rattle.hash_chain.specs.Chain.{Chain, header_at}
use Rattle.hash_chain.specs.Kept.{all_of, is_key, keys_of}
use Rattle.hash_chain.proofs.First.{finds_after}
use Rattle.hash_chain.proofs.bucket.Bucket.find.Goals as goal

pub returns-in_err-place-clause-absent : goal.returns-in_err-place-clause-absent
returns-in_err-place-clause-absent c =
    let f : Header = c.in_ok-first.first.now in
    let hs : List Header = c.self.inside.more.items in
    let r = finds_after f hs (keys_of hs) c.args.key c.place_of.result refl (c.place_of.ensures ∙ ap (λ (l : List Header). position (is_key c.args.key) (keys_of l)) c.deref-2.ensures.value) c.if-eq.ensures in
    let all : f ∷ hs ≡ c.args.self.now.headers = ap (λ (o : Option Header). all_of o hs) c.in_ok-first.ensures.value ∙ ap (λ (b : Chain). b.headers) c.self.view_is in
    let absent : header_at c.args.key (f ∷ hs) ≡ None = subst (λ (o : Option ℕ). IfNone o (header_at c.args.key (f ∷ hs) ≡ None)) c.in_err-place.was r.2 in
    subst (λ (o : Option ℕ). IfNone o (header_at c.args.key c.args.self.now.headers ≡ None)) (sym c.from_residual-in_err-place.ensures) (subst (λ (l : List Header). header_at c.args.key l ≡ None) all absent)

pub returns-clause-found : goal.returns-clause-found
returns-clause-found c =
    let f : Header = c.in_ok-first.first.now in
    let hs : List Header = c.self.inside.more.items in
    let r = finds_after f hs (keys_of hs) c.args.key c.place_of.result refl (c.place_of.ensures ∙ ap (λ (l : List Header). position (is_key c.args.key) (keys_of l)) c.deref-2.ensures.value) c.if-eq.ensures in
    let all : f ∷ hs ≡ c.args.self.now.headers = ap (λ (o : Option Header). all_of o hs) c.in_ok-first.ensures.value ∙ ap (λ (b : Chain). b.headers) c.self.view_is in
    subst (λ (l : List Header). (c.in_ok-place.place + 1 < length l) × (header_at c.args.key l ≡ slice_get l (c.in_ok-place.place + 1))) all
    (subst (λ (o : Option ℕ). IfSome o (λ i. (i + 1 < length (f ∷ hs)) × (header_at c.args.key (f ∷ hs) ≡ slice_get (f ∷ hs) (i + 1)))) c.in_ok-place.was r.0)

pub returns-clause-key : goal.returns-clause-key
returns-clause-key c =
    let f : Header = c.in_ok-first.first.now in
    let hs : List Header = c.self.inside.more.items in
    let r = finds_after f hs (keys_of hs) c.args.key c.place_of.result refl (c.place_of.ensures ∙ ap (λ (l : List Header). position (is_key c.args.key) (keys_of l)) c.deref-2.ensures.value) c.if-eq.ensures in
    let all : f ∷ hs ≡ c.args.self.now.headers = ap (λ (o : Option Header). all_of o hs) c.in_ok-first.ensures.value ∙ ap (λ (b : Chain). b.headers) c.self.view_is in
    subst (λ (l : List Header). IfSome (slice_get l (c.in_ok-place.place + 1)) (λ h. h.key ≡ c.args.key)) all
    (subst (λ (o : Option ℕ). IfSome o (λ i. IfSome (slice_get (f ∷ hs) (i + 1)) (λ h. h.key ≡ c.args.key))) c.in_ok-place.was r.1)
