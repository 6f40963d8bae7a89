-- Two replays of one history, and two answers at one cell, are alike, or two lists share a digest.
use Rattle.std.proofs.Common.{◌≡◌, ◌≢◌, ℕ, ◌+◌, ◌≤◌, ◌⊎◌, true, false, not, ◌&&◌, nat_le, List, [], ◌∷◌, ◌++◌, length, Option, Some, None, inl, inr, refl, sym, ap, subst, ◌∙◌}
use Rattle.std.proofs.lemmas.Bool.{false≢true}
use Rattle.std.proofs.lemmas.Slice.Eq.{bytes_eq-Decides}
use Rattle.std.specs.Option.{option_map, option_map_or}
use Rattle.std.specs.Str.{bytes_eq}
use Rattle.blk_ptr.specs.declared.ptr.Ptr.{Ptr}
use Rattle.blk_ptr.specs.Ptr.{IsOf, IsSameOrCollides, sha256_of}
use Rattle.dbuf_state.specs.declared.dbuf.Content.{Content}
use Rattle.dbuf_state.specs.declared.dbuf.Content.TheVariants as content
use Rattle.dbuf_state.specs.declared.dbuf.Dbuf.{Dbuf}
use Rattle.dbuf_state.specs.declared.event.CellEvent.{CellEvent}
use Rattle.dbuf_state.specs.declared.event.CellEvent.TheVariants.{Get, Put, Patch, Pin, Unpin, Load, Evict, Synced, End}
use Rattle.dbuf_state.specs.declared.oid.Oid.{Oid}
use Rattle.dbuf_state.specs.declared.state.DbState.{DbState}
use Rattle.dbuf_state.specs.declared.state.DbState.TheVariants as state
use Rattle.dbuf_state.specs.declared.window.Window.{Window}
use Rattle.dbuf_state.specs.Answers.{AnswersAlike, AreBytesAt, IsAnswer}
use Rattle.dbuf_state.specs.CellLog.{CellLog}
use Rattle.dbuf_state.specs.Dbufs.{AreOf, DbufHas, bytes_in, plain_block, plain_dbuf, window_of}
use Rattle.dbuf_state.specs.Dbufs as concrete
use Rattle.dbuf_state.specs.History.{Collide, EndsAlike, Leads}
use Rattle.dbuf_state.specs.Objects.{AreBytesOf, Block, Cached, Dirty, Evicting, IsBase, IsBaseAt, IsLegal, PlainCell, PlainDbuf, Uncached, after, dbuf_at, dbuf_is, dbuf_oid, has_bytes, is_cached, is_due, size_of, untold}
use Rattle.dbuf_state.specs.Soundness.{plain_cell}
use Rattle.dbuf_state.proofs.Changes.{view-found}
use Rattle.dbuf_state.proofs.IndexLemmas.{and-parts, bool_cases}

-- two lists of one pointer are the same, or they share a digest
pub same-or-collides : (ptr : Ptr) (a b : List ℕ) → IsOf a ptr → IsOf b ptr → IsSameOrCollides a b
same-or-collides ptr a b one other = elim (bool_cases (bytes_eq a b)) [
  | inl same ↦ inl ((bytes_eq-Decides a b).0 same)
  | inr differs ↦ inr (λ equal. false≢true (sym differs ∙ (bytes_eq-Decides a b).1 equal), one.digest ∙ sym other.digest)
]

-- two lists that may be a block's bytes
of-block : (block : Block) (u v : List ℕ) → AreBytesOf u block → AreBytesOf v block → IsSameOrCollides u v
of-block (Uncached ptr) u v one other = same-or-collides ptr u v one other
of-block (Cached ptr) u v one other = same-or-collides ptr u v one other
of-block (Dirty bytes) u v one other = inl (sym one ∙ other)

-- two bases of an event lead to one cell, or they are told by nothing and share a digest
abbrev StepAlike : PlainCell → CellEvent → (u v : List ℕ) → Type 0
StepAlike c e u v = ((after u c e ≡ after v c e) × (untold c e u ≡ untold c e v))
    ⊎ ((untold c e u ≡ u ∷ []) × (untold c e v ≡ v ∷ []) × (u ≢ v) × (sha256_of u ≡ sha256_of v))

same-step : (c : PlainCell) (e : CellEvent) (u v : List ℕ) → u ≡ v → StepAlike c e u v
same-step c e u v same = inl (ap (λ (b : List ℕ). after b c e) same, ap (λ (b : List ℕ). untold c e b) same)

taken-base : (c : PlainCell) (n : ℕ) (at : Oid) (from : ℕ) (bytes base : List ℕ) → dbuf_is (λ d. is_cached d.block) at c ≡ true → untold c (Patch n at from bytes) base ≡ base ∷ []
taken-base c n at from bytes base cached = rw cached refl

patch-alike : (c : PlainCell) (n : ℕ) (at : Oid) (from : ℕ) (bytes u v : List ℕ) (o : Option PlainDbuf) → dbuf_at at c ≡ o
    → option_map_or (λ d. has_bytes d.block && nat_le (from + length bytes) (size_of d.block)) o false ≡ true
    → IsBaseAt u o → IsBaseAt v o → StepAlike c (Patch n at from bytes) u v
patch-alike c n at from bytes u v None is legal one other = absurd (false≢true legal)
patch-alike c n at from bytes u v (Some d) is legal one other =
    by-block d.block (ap (λ (o : Option PlainDbuf). option_map_or (λ d. is_cached d.block) o false) is) (and-parts (has_bytes d.block) _ legal).0 one other
  where
    by-block : (block : Block) → dbuf_is (λ d. is_cached d.block) at c ≡ is_cached block → has_bytes block ≡ true → AreBytesOf u block → AreBytesOf v block → StepAlike c (Patch n at from bytes) u v
    by-block (Uncached ptr) cached there one other = absurd (false≢true there)
    by-block (Cached ptr) cached there one other = elim (same-or-collides ptr u v one other) [
      | inl same ↦ same-step c (Patch n at from bytes) u v same
      | inr differ ↦ inr (taken-base c n at from bytes u cached, taken-base c n at from bytes v cached, differ.0, differ.1)
    ]
    by-block (Dirty written) cached there one other = same-step c (Patch n at from bytes) u v (sym one ∙ other)

step-alike : (c : PlainCell) (e : CellEvent) (u v : List ℕ) → IsLegal c e → IsBase u c e → IsBase v c e → StepAlike c e u v
step-alike c (Get n at) u v legal one other = inl (refl, refl)
step-alike c (Put n at size fill) u v legal one other = inl (refl, refl)
step-alike c (Patch n at from bytes) u v legal one other = patch-alike c n at from bytes u v (dbuf_at at c) refl (and-parts (not (is_due c)) _ legal).1 one other
step-alike c (Pin n at) u v legal one other = inl (refl, refl)
step-alike c (Unpin n at) u v legal one other = inl (refl, refl)
step-alike c (Load n at held) u v legal one other = inl (refl, refl)
step-alike c (Evict n at) u v legal one other = inl (refl, refl)
step-alike c (Synced n at ptr held) u v legal one other = inl (refl, refl)
step-alike c (End n) u v legal one other = inl (refl, refl)

behind : (front xs ys : List (List ℕ)) → Collide xs ys → Collide (front ++ xs) (front ++ ys)
behind [] xs ys collide = collide
behind (x ∷ front) xs ys collide = inr (behind front xs ys collide)

pub ends-alike : EndsAlike
ends-alike c [] xs ys a b one other = inl (one.0 ∙ sym other.0, one.1 ∙ sym other.1)
ends-alike c (e ∷ es) xs ys a b one other = elim (step-alike c e one.1.0 other.1.0 one.0 one.1.3 other.1.3) [
  | inl same ↦
      let rest : ((one.1.1 ≡ other.1.1) × (a ≡ b)) ⊎ Collide one.1.1 other.1.1 =
      ends-alike (after one.1.0 c e) es one.1.1 other.1.1 a b one.1.4 (subst (λ (m : PlainCell). Leads m es other.1.1 b) (sym same.0) other.1.4) in
      elim rest [
        | inl alike ↦ inl (one.1.2 ∙ (ap (λ (bs : List (List ℕ)). bs ++ one.1.1) same.1 ∙ (ap (λ (bs : List (List ℕ)). untold c e other.1.0 ++ bs) alike.0 ∙ sym other.1.2)), alike.1)
        | inr collide ↦ inr (subst (λ (bs : List (List ℕ) × List (List ℕ)). Collide bs.0 bs.1)
            (λ i. (sym one.1.2 i, (ap (λ (bs : List (List ℕ)). bs ++ other.1.1) same.1 ∙ sym other.1.2) i))
            (behind (untold c e one.1.0) one.1.1 other.1.1 collide))
      ]
  | inr differ ↦ inr (subst (λ (bs : List (List ℕ) × List (List ℕ)). Collide bs.0 bs.1)
      (λ i. ((ap (λ (bs : List (List ℕ)). bs ++ one.1.1) (sym differ.0) ∙ sym one.1.2) i, (ap (λ (bs : List (List ℕ)). bs ++ other.1.1) (sym differ.1) ∙ sym other.1.2) i))
      (inl (differ.2, differ.3)))
]

pub answers-alike : AnswersAlike
answers-alike c at w size other_size shown other_shown one other = go (dbuf_at at c) one.of other.of
  where
    go : (o : Option PlainDbuf) → AreBytesAt one.bytes o → AreBytesAt other.bytes o → IsSameOrCollides one.bytes other.bytes
    go None h k = absurd h
    go (Some d) h k = of-block d.block one.bytes other.bytes h k

-- ---- what a cell shows is an answer

-- a block's bytes are those of its plain block, whose size they have
plain-bytes : (content : Content) (s : DbState) (bytes : List ℕ) → AreOf bytes content → AreBytesOf bytes (plain_block content s)
plain-bytes (content.Dirty written) s bytes of = sym of
plain-bytes (content.Clean ptr) state.Uncached bytes of = of
plain-bytes (content.Clean ptr) (state.Read n) bytes of = of
plain-bytes (content.Clean ptr) state.Fill bytes of = of
plain-bytes (content.Clean ptr) state.Cached bytes of = of
plain-bytes (content.Clean ptr) state.Evicting bytes of = of

content-size : (content : Content) (bytes : List ℕ) → AreOf bytes content → concrete.size_of content ≡ length bytes
content-size (content.Dirty written) bytes of = ap length (sym of)
content-size (content.Clean ptr) bytes of = sym of.size

module _ {H : Type 0} (bytes_of : H → List ℕ) where
  pub shown-answers : (evicting : Evicting) (c : CellLog H) (at : Oid) (w : Window) (out : List ℕ)
      → DbufHas (λ d. w.at + w.len ≤ concrete.size_of d.content) (concrete.dbuf_at at c.dbufs)
      → DbufHas (λ d. out ≡ window_of w (bytes_in bytes_of d.content d.kept)) (concrete.dbuf_at at c.dbufs)
      → DbufHas (λ d. AreOf (bytes_in bytes_of d.content d.kept) d.content) (concrete.dbuf_at at c.dbufs)
      → DbufHas (λ d. IsAnswer (plain_cell evicting c) at w (concrete.size_of d.content) out) (concrete.dbuf_at at c.dbufs)
  shown-answers evicting c at w out inside window of = go (concrete.dbuf_at at c.dbufs) (view-found concrete.dbuf_oid dbuf_oid plain_dbuf (λ d. refl) at c.dbufs) inside window of
    where
      go : (o : Option (Dbuf H)) → dbuf_at at (plain_cell evicting c) ≡ option_map plain_dbuf o → DbufHas (λ d. w.at + w.len ≤ concrete.size_of d.content) o
          → DbufHas (λ d. out ≡ window_of w (bytes_in bytes_of d.content d.kept)) o → DbufHas (λ d. AreOf (bytes_in bytes_of d.content d.kept) d.content) o
          → DbufHas (λ d. IsAnswer (plain_cell evicting c) at w (concrete.size_of d.content) out) o
      go None found inside window of = inside
      go (Some d) found inside window of = record {
        bytes = bytes_in bytes_of d.content d.kept;
        of = subst (AreBytesAt (bytes_in bytes_of d.content d.kept)) (sym found) (plain-bytes d.content d.state (bytes_in bytes_of d.content d.kept) of);
        sized = content-size d.content (bytes_in bytes_of d.content d.kept) of;
        inside = inside;
        window = window;
      }
