-- Generated blocks and reads, one after the other, and what a generated trace has.
use Rattle.std.proofs.Common.{◌≡◌, ℕ, zero, suc, ◌+◌, ◌/◌, ◌%◌, ◌<◌, ◌≤◌, List, [], ◌∷◌, ◌++◌, length, get_or, map, refl, ap, sym, ◌∙◌, arith, add-one}
use Rattle.std.specs.Prelude.{All}
use Rattle.std.specs.List.{range_with_len}
use Rattle.std.proofs.lemmas.List.Elements.{All-nil}
use Rattle.std.proofs.lemmas.List.FromFn.{get_or-map-range_with_len, length-map-range_with_len, map-range_with_len_more}
use Rattle.std.specs.Int.{to_be_bytes, w32}
use Rattle.std.specs.Prelude.{replicate}
use Rattle.hex.specs.Hex.{IsBytes}
use Rattle.sha2.specs.Sha256.{digest_bytes, sha256}
use Rattle.sha2.proofs.Facts256.{length-sha256}
use Rattle.arc_core.specs.declared.config.Config.{Config}
use Rattle.trace_text.specs.declared.op.Op.TheVariants.{Read}
use Rattle.trace_text.specs.declared.trace.Trace.{Trace}
use Rattle.dbuf_state.specs.declared.window.Window.{Window}
use Rattle.trace_text.specs.Generator.{IsGenerated, draw, empty_window, generated_block, generated_read, generated_sizes, next_draw, zero_digest}
use Rattle.trace_text.specs.Grammar.{AreSizes, IsDeclarable, IsDigest, IsFormed, IsMappingOn, IsPossible}
use Rattle.trace_text.proofs.SameLemmas.{window-same}

-- one more of a list that is made from its places
pub made-more : {X : Type 0} (f : ℕ → X) (xs ys : List X) (n : ℕ) (x : X) → xs ≡ map f (range_with_len 0 n) → x ≡ f n → ys ≡ xs ++ x ∷ [] → ys ≡ map f (range_with_len 0 (n + 1))
made-more f xs ys n x made is pushed = pushed ∙ rw (made, is) (sym (map-range_with_len_more f 0 n n (omega arith)))

-- one more draw
pub draw-more : (seed n drawn next : ℕ) → drawn ≡ draw seed n → next ≡ next_draw drawn → next ≡ draw seed (n + 1)
draw-more seed n drawn next so_far is = rw (add-one n) (is ∙ ap next_draw so_far)

-- a read of a drawn block
pub read-drawn : (seed blocks n tick next x : ℕ) (w : Window) → next ≡ draw seed (n + 1) → x ≡ next / 65536 % blocks → tick ≡ n + 1 → w.at ≡ 0 → w.len ≡ 0
    → Read 0 tick x w ≡ generated_read seed blocks n
read-drawn seed blocks n tick next x w drawn is at_tick at len =
    let drawn' : next ≡ draw seed (suc n) = drawn ∙ ap (draw seed) (add-one n) in
    let e : x ≡ draw seed (suc n) / 65536 % blocks = is ∙ ap (λ d. d / 65536 % blocks) drawn' in
    let same = window-same w empty_window at len in
    λ i. Read 0 (at_tick i) (e i) (same i)

-- what each of a list that is made from its places has
pub All-made : {X : Type 0} (P : X → Type 0) (f : ℕ → X) (xs : List X) (n : ℕ) → xs ≡ map f (range_with_len 0 n) → ((i : ℕ) → i < n → P (f i)) → All P xs
All-made P f xs n made each = rw made (λ k d lt.
    let below : k < n = omega (arith, length-map-range_with_len f 0 n) in
    rw (get_or-map-range_with_len f 0 n k k d below (omega arith)) (each k below))

-- a list of bytes, and more bytes
IsBytes-append : (a b : List ℕ) → IsBytes a → IsBytes b → IsBytes (a ++ b)
IsBytes-append [] b p q = q
IsBytes-append (x ∷ a) b p q = by (IsBytes-append a b (λ i. p (suc i)) q)
  where
    by : IsBytes (a ++ b) → IsBytes ((x ∷ a) ++ b)
    by rest zero = p zero
    by rest (suc i) = rest i

IsBytes-word : (n : ℕ) → IsBytes (to_be_bytes w32 n)
IsBytes-word n zero = omega arith
IsBytes-word n (suc zero) = omega arith
IsBytes-word n (suc (suc zero)) = omega arith
IsBytes-word n (suc (suc (suc zero))) = omega arith
IsBytes-word n (suc (suc (suc (suc i)))) = omega arith

IsBytes-digest_bytes : (h : List ℕ) (n : ℕ) → IsBytes (digest_bytes h n)
unfolding digest_bytes
IsBytes-digest_bytes h zero = λ i. omega arith
IsBytes-digest_bytes h (suc n) = IsBytes-append (digest_bytes h n) (to_be_bytes w32 (get_or h n 0)) (IsBytes-digest_bytes h n) (IsBytes-word (get_or h n 0))

IsBytes-sha256 : (m : List ℕ) → IsBytes (sha256 m)
unfolding sha256
IsBytes-sha256 m = IsBytes-digest_bytes _ 8

-- the digest of zero bytes is a digest
pub IsDigest-zero : IsDigest zero_digest
unfolding zero_digest
IsDigest-zero = record { sized = length-sha256 (replicate 512 0); bytes = IsBytes-sha256 (replicate 512 0) }

-- a generated trace is formed
pub IsFormed-generated : (seed blocks count : ℕ) (trace : Trace) → 1 ≤ blocks → blocks ≤ 32768 → count ≤ 1000000 → IsGenerated seed blocks count trace → IsFormed trace
IsFormed-generated seed blocks count trace some few short g =
    let many = ap length g.blocks ∙ length-map-range_with_len generated_block 0 blocks in
    record {
      config = rw g.config (sizes-ranged blocks few).ranged;
      blocks = All-made IsDeclarable generated_block trace.blocks blocks g.blocks (λ i lt. record { offset = omega arith; size = omega arith; birth = omega arith; digest = IsDigest-zero });
      few_blocks = omega arith;
      objects = rw (g.objects) (All-nil (IsMappingOn (length trace.blocks)));
      few_objects = rw (g.objects) (omega arith);
      apart = rw (g.objects) tt;
      ops = All-made (IsPossible trace.config trace.blocks) (generated_read seed blocks) trace.ops count g.ops (λ i lt. drawn i lt (ap (λ (sizes : Config). sizes.callers) g.config) many);
      few_ops = omega (arith, ap length g.ops, length-map-range_with_len (generated_read seed blocks) 0 count);
    }
  where
    drawn : (i : ℕ) → i < count → trace.config.callers ≡ 1 → length trace.blocks ≡ blocks → IsPossible trace.config trace.blocks (generated_read seed blocks i)
    drawn i lt one many = ((omega arith, omega arith, omega arith, omega arith), omega arith)

    sizes-ranged : (n : ℕ) → n ≤ 32768 → AreSizes (generated_sizes n)
    sizes-ranged n few = record {
      ranged = record {
        counts = record { callers = (omega arith, omega arith); shards = (omega arith, omega arith); buckets = (omega arith, omega arith); cells = (omega arith, omega arith) };
        amounts = record { c = record { least = omega arith; most = omega arith }; all_shards = omega arith; mintime = omega arith; dbuf_bytes = omega arith };
        bounds = record { write_max = (omega arith, omega arith); headroom = (omega arith, omega arith) };
      };
      write_max = refl;
      headroom = refl;
    }
