-- A header that has a block of a pointer, and the entry whose bytes are cached with its digest.
use Rattle.std.proofs.Common.{◌≡◌, List, true, false, Option, Some, None, refl, sym, ◌∙◌}
use Rattle.std.proofs.lemmas.Bool.{false≢true}
use Rattle.std.specs.Prelude.{◌&&◌, is_some, length, IfNone, IfSome, MatchOption}
use Rattle.std.specs.Option.{option_map_or}
use Rattle.blk_ptr.specs.declared.ptr.Ptr.{Ptr}
use Rattle.blk_ptr.specs.Order.{digest_eq}
use Rattle.blk_ptr.specs.Ptr.{sha256_of}
use Rattle.arc_core.specs.declared.entry.Entry.{Entry}
use Rattle.arc_core.specs.PlainShard.{PlainShard, entry_is, entry_of, is_resident, keeps_digest}
use Rattle.hash_chain.specs.declared.header.Header.{Header}
use Rattle.hash_chain.specs.Chain.{header_at}
use Rattle.arc_table.specs.pact.Headed.{HasBlock, IsHead}
use Rattle.arc_table.specs.Ready.{has_block, keeps_block}
use Rattle.arc_table.specs.pact.Standing.{IsCachedWith}

-- where the headers are the heads of the entries, the two are one
pub block_cached : (ptr : Ptr) (s : PlainShard) (hs : List Header) → IsHead (entry_of ptr.key s) (header_at ptr.key hs) → has_block ptr hs ≡ entry_is (λ e. is_resident e && keeps_digest ptr.digest e) ptr.key s
block_cached ptr s hs head = by_head (entry_of ptr.key s) (header_at ptr.key hs) head
  where
    has_one : (e : Entry) (h : Header) → HasBlock e h → is_some h.block ≡ is_resident e
    has_one e h has = by_block h.block (λ kept. e.digest ≡ Some (sha256_of kept.block.value)) (λ kept. length kept.block.value ≡ e.key.size) has
      where
        by_block : {A : Type 0} (o : Option A) (kept sized : A → Type 0) → MatchOption o (is_resident e ≡ false) (λ block. (is_resident e ≡ true) × kept block × sized block) → is_some o ≡ is_resident e
        by_block None kept sized none = sym none
        by_block (Some x) kept sized some = sym some.0

    by_head : (o : Option Entry) (h : Option Header) → IsHead o h → option_map_or (keeps_block ptr.digest) h false ≡ option_map_or (λ e. is_resident e && keeps_digest ptr.digest e) o false
    by_head None None head = refl
    by_head None (Some h) head = absurd head
    by_head (Some e) None head = absurd head
    by_head (Some e) (Some h) head = λ z. has_one e h head.block z && option_map_or (λ kept. digest_eq kept ptr.digest) (head.digest z) false

module _ {A : Type 0} (ptr : Ptr) (s : PlainShard) (hs : List Header) (o : Option A) (head : IsHead (entry_of ptr.key s) (header_at ptr.key hs)) (there : is_some o ≡ has_block ptr hs) where
  -- where a header with such a block was found, the bytes are cached with the pointer's digest
  pub found_cached : IfSome o (λ x. IsCachedWith ptr s)
  found_cached = by_found o there
    where
      by_found : (o : Option A) → is_some o ≡ has_block ptr hs → IfSome o (λ x. IsCachedWith ptr s)
      by_found None h = tt
      by_found (Some x) h = sym (block_cached ptr s hs head) ∙ sym h

  -- and where there was none they aren't
  pub not_found : IfNone o (IsCachedWith ptr s → ⊥)
  not_found = by_found o there
    where
      by_found : (o : Option A) → is_some o ≡ has_block ptr hs → IfNone o (IsCachedWith ptr s → ⊥)
      by_found None h = λ here. false≢true (h ∙ (block_cached ptr s hs head ∙ here))
      by_found (Some x) h = tt
