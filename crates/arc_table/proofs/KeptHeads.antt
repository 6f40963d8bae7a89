-- A header whose spare owner was lent, or to which one was given back, says what it said.
use Rattle.std.proofs.Common.{◌≡◌, if◌then◌else◌, ℕ, ◌<◌, List, length, set, slice_get, Bool, true, false, Option, Some, None, IfSome, refl, sym, ap, ◌∙◌, subst}
use Rattle.std.specs.Prelude.{MatchOption}
use Rattle.std.specs.Option.{option_map}
use Rattle.std.specs.declared.alloc.Global.{Global}
use Rattle.std.specs.declared.sync.Arc.{Arc}
use Rattle.std.proofs.lemmas.List.{get_or-set_same, length-set}
use Rattle.std.proofs.lemmas.Option.{slice_get-get_or}
use Rattle.blk_ptr.specs.declared.key.Key.{Key}
use Rattle.blk_ptr.specs.declared.ptr.Ptr.{Ptr}
use Rattle.blk_ptr.specs.Order.{key_eq}
use Rattle.blk_ptr.specs.Ptr.{sha256_of}
use Rattle.blk_ptr.proofs.Keys.{key_eq-same}
use Rattle.arc_core.specs.declared.entry.Entry.{Entry}
use Rattle.arc_core.specs.PlainShard.{is_resident}
use Rattle.hash_chain.specs.declared.header.Header.{Header}
use Rattle.hash_chain.specs.Chain.{Chain, IsWith, given, header_at, lent}
use Rattle.hash_chain.specs.Keeping.{KeptBlock, with_spare, without_spare}
use Rattle.arc_table.specs.pact.Headed.{IsHead, Says}
use Rattle.arc_table.specs.Ready.{IsReady}

-- its block is the one that it was
says_with : (f : KeptBlock → KeptBlock) → ((k : KeptBlock) → (f k).block ≡ k.block) → (e : Entry) (h : Header) → Says e h → Says e record h { block = option_map f h.block }
says_with f same e h says = record {
  state = says.state;
  reading = says.reading;
  place = says.place;
  digest = says.digest;
  block = by_kept h.block says.block;
}
  where
    by_kept : (o : Option KeptBlock) → MatchOption o (is_resident e ≡ false) (λ kept. (is_resident e ≡ true) × (e.digest ≡ Some (sha256_of kept.block.value)) × (length kept.block.value ≡ e.key.size))
        → MatchOption (option_map f o) (is_resident e ≡ false) (λ kept. (is_resident e ≡ true) × (e.digest ≡ Some (sha256_of kept.block.value)) × (length kept.block.value ≡ e.key.size))
    by_kept None has = has
    by_kept (Some k) has = subst (λ (b : Arc (List ℕ) Global). (is_resident e ≡ true) × (e.digest ≡ Some (sha256_of b.value)) × (length b.value ≡ e.key.size)) (sym (same k)) has

pub says_lent : (e : Entry) (h : Header) → Says e h → Says e (lent h)
says_lent = says_with without_spare (λ k. refl)

pub head_given : (owner : Arc (List ℕ) Global) (near : ℕ) (o : Option Entry) (h : Header) → IsHead o (Some h) → IsHead o (Some (given owner near h))
head_given owner near None h head = head
head_given owner near (Some e) h says = says_with (with_spare owner near) (λ k. refl) e h says

-- one key's header is changed twice
pub with_again : (k : Key) (o p : Option Header) (hs gs fs : List Header) → IsWith k o hs gs → IsWith k p gs fs → IsWith k p hs fs
with_again k o p hs gs fs one two j = two j ∙ by_test (key_eq k j) (one j)
  where
    by_test : (b : Bool) → header_at j gs ≡ (if b then o else header_at j hs) → (if b then p else header_at j gs) ≡ (if b then p else header_at j hs)
    by_test true h = refl
    by_test false h = h

-- what the key has then
pub own_with : (k : Key) (o : Option Header) (hs gs : List Header) → IsWith k o hs gs → header_at k gs ≡ o
own_with k o hs gs with = with k ∙ ap (λ (b : Bool). if b then o else header_at k hs) (key_eq-same k)

-- the header h of the key stands at a place and has lent its spare owner
pub record LentAt (k : Key) (at : ℕ) (h : Header) (hs gs : List Header) : Type 0 where
  pub key : h.key ≡ k
  pub within : at < length gs
  pub place : slice_get gs at ≡ Some (lent h)
  pub with : IsWith k (Some (lent h)) hs gs

pub lent_at : (ptr : Ptr) (at : ℕ) (c d : Chain) (h : Header) → IsReady ptr at c.headers → header_at ptr.key c.headers ≡ Some h
    → ((x : Header) → slice_get c.headers at ≡ Some x → d ≡ record c { headers = set c.headers at (lent x) })
    → ((x : Header) → slice_get c.headers at ≡ Some x → IsWith x.key (Some (lent x)) c.headers d.headers) → LentAt ptr.key at h c.headers d.headers
lent_at ptr at c d h ready had took map =
    let there : slice_get c.headers at ≡ Some h = sym ready.found ∙ had in
    let key : h.key ≡ ptr.key = subst (λ (o : Option Header). IfSome o (λ x. x.key ≡ ptr.key)) there ready.key in
    let now : d.headers ≡ set c.headers at (lent h) = ap (λ (x : Chain). x.headers) (took h there) in
    let within : at < length d.headers = subst (λ n. at < n) (sym (ap length now ∙ length-set c.headers at (lent h))) ready.within in
    record {
      key = key;
      within = within;
      place = slice_get-get_or d.headers at (lent h) within ∙ ap Some (ap (λ (hs : List Header). Rattle.std.proofs.Common.get_or hs at (lent h)) now ∙ get_or-set_same c.headers at (lent h) (lent h) ready.within);
      with = subst (λ (k : Key). IsWith k (Some (lent h)) c.headers d.headers) key (map h there);
    }
