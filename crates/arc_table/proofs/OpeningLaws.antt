-- A cache that is made of fresh cells, empty buckets and shards at their start meets the pact.
use Rattle.std.proofs.Common.{◌≡◌, ◌⊎◌, ℕ, zero, suc, ◌+◌, ◌-◌, ◌/◌, ◌<◌, ◌≤◌, List, [], ◌∷◌, length, map, get_or, Option, None, refl, sym, ap, ◌∙◌, subst, inl, inr, ⊎_elim, arith}
use Rattle.std.proofs.lemmas.List.{length-map}
use Rattle.std.proofs.lemmas.Option.{none-some}
use Rattle.std.specs.Prelude.{IsTrue, slice_index_or}
use mathlib.Core.Option.{some, some-injective, some-ne-none}
use lib.ListN.{get_elem?}
use Rattle.blk_ptr.specs.declared.key.Key.{Key}
use Rattle.arc_lists.specs.Adapting.{IsCapacity, least_target}
use Rattle.arc_core.specs.declared.config.Bounds.{Bounds}
use Rattle.arc_core.specs.declared.config.Config.{Config}
use Rattle.arc_core.specs.PlainShard.{PlainShard, count_of, opening_shard, entry_of}
use Rattle.arc_core.specs.ShardLog.{ShardLog, IsReplayed, opening_log}
use Rattle.arc_core.specs.declared.entry.Entry.{Entry}
use Rattle.arc_core.specs.declared.event.Event.{Event}
use Rattle.arc_core.specs.Replay.{is_legal_history, replay}
use Rattle.arc_core.specs.Sound.{IsSound}
use Rattle.hash_chain.specs.declared.header.Header.{Header}
use Rattle.hash_chain.specs.Chain.{Chain, header_at}
use Rattle.turn_table.specs.Board.{free, taken, numbered, opening}
use Rattle.arc_table.specs.declared.item.Item.{Item}
use Rattle.arc_table.specs.declared.item.Item.TheVariants as item
use Rattle.arc_table.specs.declared.view.Line.{Line}
use Rattle.arc_table.specs.declared.view.Line.TheVariants as line
use Rattle.arc_table.specs.pact.Attached.{IsKind, IsShown}
use Rattle.arc_table.specs.Geometry.{bucket_turn, cell_number, parties_of, shard_turn, turns_of}
use Rattle.arc_table.specs.pact.Headed.{IsHead}
use Rattle.arc_table.specs.Items.{Meanings, headers_in, claims_in, holds_in, lines_in, shard_in}
use Rattle.arc_table.specs.pact.Logged.{IsSoundItem, IsSoundLog, is_picking}
use Rattle.arc_table.specs.opening.Opening.{AreFresh, AreFreshCells, IsFresh, IsOpeningLog, about_of}
use Rattle.arc_table.specs.pact.Rule.{Pact}
use Rattle.arc_table.specs.pact.Scene.{Scene}
use Rattle.arc_table.specs.Views.{newcomer, no_ledger}
use Rattle.arc_table.specs.pact.AttachedLaws.{free_taken}
use Rattle.arc_table.proofs.AttachedLaws.{free_same}
use Rattle.arc_table.specs.TableLaws.{within}
use Rattle.arc_table.proofs.TableLaws.{there}

-- ---- a shard at its start is sound

opening_targets : (c : ℕ) → IsCapacity c → (least_target c ≤ c / 2) × (c / 2 ≤ c - least_target c)
opening_targets c h = (omega arith, omega arith)

pub opening_sound : (c mintime : ℕ) (bounds : Bounds) → IsCapacity c → IsSound (opening_shard c mintime bounds)
opening_sound c mintime bounds h = record {
  tidy = record {
    once = tt;
    entries = tt;
    mru = record { once = refl; exact = λ k. refl };
    mru_ghost = record { once = refl; exact = λ k. refl };
    mfu = record { once = refl; exact = λ k. refl };
    mfu_ghost = record { once = refl; exact = λ k. refl };
  };
  target_low = (opening_targets c h).0;
  target_high = (opening_targets c h).1;
  feed = refl;
  picks = refl;
  passed = refl;
}

opening_replayed : (g : Config) (l : ShardLog) → IsCapacity g.c → IsOpeningLog g l → IsReplayed l
opening_replayed g l h o = record {
  sound = subst IsSound (sym o.now) (opening_sound g.c g.mintime g.bounds h);
  replayed = subst (λ (x : List Event). replay l.opening x ≡ l.now) (sym o.history) (o.opening ∙ sym o.now);
  legal = subst (λ (x : List Event). IsTrue (is_legal_history l.opening x)) (sym o.history) refl;
}

opening_logged : (g : Config) (l : ShardLog) → IsCapacity g.c → IsOpeningLog g l → IsSoundLog g l
opening_logged g l h o = record { opening = o.opening; replayed = opening_replayed g l h o; passed = ap (λ (s : PlainShard). s.passed) o.now; settled = ap (λ (s : PlainShard). is_picking s.phase) o.now }

-- ---- a value at the start

get_at : {A : Type 0} (l : List A) (i : ℕ) (d a : A) → get_elem? l i ≡ some a → get_or l i d ≡ a
get_at [] i d a e = absurd (some-ne-none a (sym e))
get_at (x ∷ xs) zero d a e = some-injective x a e
get_at (x ∷ xs) (suc i) d a e = get_at xs i d a e

-- what is read at a place is what stands there, or the other value past the end
get_either : {A : Type 0} (l : List A) (i : ℕ) (d : A) → (get_elem? l i ≡ some (get_or l i d)) ⊎ (get_or l i d ≡ d)
get_either [] i d = inr refl
get_either (x ∷ xs) zero d = inl refl
get_either (x ∷ xs) (suc i) d = get_either xs i d

get_map : {A B : Type 0} (f : A → B) (l : List A) (i : ℕ) (a : A) (d : B) → get_elem? l i ≡ some a → slice_index_or (map f l) i d ≡ f a
get_map f [] i a d e = absurd (some-ne-none a (sym e))
get_map f (x ∷ xs) zero a d e = ap f (some-injective x a e)
get_map f (x ∷ xs) (suc i) a d e = get_map f xs i a d e

get_free : {C : Type 0} (vs : List (Item C)) (i : ℕ) (v : Item C) → get_elem? (map free vs) i ≡ some (free v) → get_elem? vs i ≡ some v
get_free [] i v e = absurd (some-ne-none (free v) (sym e))
get_free (x ∷ xs) zero v e = ap some (free_same x v (some-injective (free x) (free v) e))
get_free (x ∷ xs) (suc i) v e = get_free xs i v e

none_taken : {C : Type 0} (vs : List (Item C)) (i n : ℕ) → ¬ (get_elem? (map free vs) i ≡ some (taken n))
none_taken [] i n e = some-ne-none (taken n) (sym e)
none_taken (x ∷ xs) zero n e = free_taken x n (some-injective (free x) (taken n) e)
none_taken (x ∷ xs) (suc i) n e = none_taken xs i n e

numbered_at : {W : Type 0} (f : ℕ → W) (k count n : ℕ) (w : W) → get_elem? (numbered f k count) n ≡ some w → w ≡ f (k + n)
numbered_at f k zero n w e = absurd (some-ne-none w (sym e))
numbered_at f k (suc count) zero w e = sym (some-injective (f k) w e) ∙ ap f (omega arith)
numbered_at f k (suc count) (suc n) w e = numbered_at f (suc k) count n w e ∙ ap f (omega arith)

numbered_long : {W : Type 0} (f : ℕ → W) (k count : ℕ) → length (numbered f k count) ≡ count
numbered_long f k zero = refl
numbered_long f k (suc count) = ap suc (numbered_long f (suc k) count)

module _ {C : Type 0} (m : Meanings C) where
  -- nothing was done to it yet
  record IsBlank (g : Config) (cells : List C) (i : ℕ) (v : Item C) : Type 0 where
    sound : IsSoundItem m (about_of m g cells) i v
    lines : lines_in m v ≡ []
    holds : holds_in m v ≡ []
    claims : (n : ℕ) → claims_in m v n ≡ []
    headers : headers_in v ≡ []
    shard : shard_in g v ≡ opening_shard g.c g.mintime g.bounds

  blank : (g : Config) (cells : List C) → IsCapacity g.c → AreFreshCells m g cells → (i : ℕ) (v : Item C) → IsFresh g cells i v → IsBlank g cells i v
  blank g cells h all i (item.Cell c) f = let fresh = all.each i c f in record {
    sound = (fresh.sound, sym (get_map m.opening cells i c [] f));
    lines = ap (map line.Entry) fresh.entries;
    holds = fresh.holds;
    claims = fresh.claims;
    headers = refl;
    shard = refl;
  }
  blank g cells h all i (item.Bucket b) f = record { sound = tt; lines = refl; holds = refl; claims = λ n. refl; headers = ap (λ (x : Chain). x.headers) f.1; shard = refl }
  blank g cells h all i (item.Shard l) f = record {
    sound = opening_logged g l h f.1;
    lines = ap (map line.Event) f.1.history;
    holds = refl;
    claims = λ n. refl;
    headers = refl;
    shard = f.1.now;
  }

  fresh_kind : (g : Config) (cells : List C) → length cells ≡ g.cells → (i : ℕ) (v : Item C) → IsFresh g cells i v → IsKind g i v
  fresh_kind g cells count i (item.Cell c) f = let h = within cells i c f in omega arith
  fresh_kind g cells count i (item.Bucket b) f = f.0
  fresh_kind g cells count i (item.Shard l) f = f.0

  -- what is past the turns counts as a shard at its start
  default : Config → Item C
  default g = item.Shard (opening_log g.c g.mintime g.bounds)

  default_blank : (g : Config) (cells : List C) (i : ℕ) → IsCapacity g.c → IsBlank g cells i (default g)
  unfolding default
  default_blank g cells i h = record {
    sound = opening_logged g (opening_log g.c g.mintime g.bounds) h record { now = refl; opening = refl; history = refl };
    lines = refl;
    holds = refl;
    claims = λ n. refl;
    headers = refl;
    shard = refl;
  }

  module _ (g : Config) (cells : List C) (values : List (Item C)) where
    opening_scene : Scene C
    opening_scene = record {
      about = about_of m g cells;
      now = λ i. get_or values i (default g);
      owner = λ i p. 0;
      kept = λ i. [];
      seen = λ n. [];
      mine = λ n. [];
      ledger = λ n. no_ledger;
      notes = λ n. [];
    }

    now_blank : IsCapacity g.c → AreFreshCells m g cells → AreFresh g cells values → (i : ℕ) → IsBlank g cells i (get_or values i (default g))
    now_blank h all fresh i = ⊎_elim
        (λ e. blank g cells h all i (get_or values i (default g)) (fresh.each i (get_or values i (default g)) e))
        (λ e. subst (IsBlank g cells i) (sym e) (default_blank g cells i h))
        (get_either values i (default g))

    pub opens : IsCapacity g.c → AreFreshCells m g cells → AreFresh g cells values
        → Pact m (opening values (numbered (newcomer (about_of m g cells)) 0 (parties_of g)))
    unfolding opening_scene
    opens h all fresh =
        let at : (i : ℕ) → IsBlank g cells i (get_or values i (default g)) = now_blank h all fresh in
        let no_entry : (i : ℕ) (k : Key) → entry_of k (shard_in g (get_or values i (default g))) ≡ None = λ i k. ap (entry_of k) (at i).shard in
        let no_header : (i : ℕ) (k : Key) → header_at k (headers_in (get_or values i (default g))) ≡ None = λ i k. ap (header_at k) (at i).headers in
        let no_line : (i p : ℕ) (l : Line) → ¬ (get_elem? (lines_in m (get_or values i (default g))) p ≡ some l) = λ i p l e. some-ne-none l (sym e ∙ ap (λ (x : List Line). get_elem? x p) (at i).lines) in record {
          scene = opening_scene;
          attached = record {
            parties = numbered_long (newcomer (about_of m g cells)) 0 (parties_of g);
            turns = length-map values free ∙ fresh.count;
            kinds = λ i below. let v = value_at i below in subst (IsKind g i) (sym (get_at values i (default g) v.0 v.1)) (fresh_kind g cells all.count i v.0 (fresh.each i v.0 v.1));
            views = λ n w e. let is = numbered_at (newcomer (about_of m g cells)) 0 (parties_of g) n w e in subst (IsShown opening_scene n) (sym is) record { number = omega arith; about = refl; seen = refl; mine = refl; ledger = refl; notes = refl };
            free = λ i v e. let is = get_at values i (default g) v (get_free values i v e) in (is, sym (ap (holds_in m) (sym is) ∙ (at i).holds));
            taken = λ i n e. absurd (none_taken values i n e);
          };
          logged = record {
            sound = λ i. (at i).sound;
            seen = λ n i. (lines_in m (get_or values i (default g)), refl);
            places = λ i p below. let below' : p < 0 = subst (λ (x : List Line). p < length x) (at i).lines below in absurd (omega arith);
            stand = λ n j a e. absurd (some-ne-none a (sym e));
            rises = λ n j k a b less e f. absurd (some-ne-none a (sym e));
            own = λ i p l e. absurd (no_line i p l e);
          };
          headed = record {
            heads = λ k. heads k;
            own_headers = λ i k x e. absurd (none-some x (sym (no_header i k) ∙ e));
            own_entries = λ i k x e. absurd (none-some x (sym (no_entry i k) ∙ e));
          };
          counted = record {
            parties = λ n k below. counts n k;
            cells = λ i k cell. counts (cell_number g i) k;
            others = λ n k past. counts n k;
            holds = λ n j h' below e. absurd (some-ne-none h' (sym e));
            kept = λ i j h' cell e. absurd (some-ne-none h' (sym e));
            readings = λ n j k below e. absurd (some-ne-none k (sym e));
            picked = λ i shard. ap (λ (s : PlainShard). s.picked) (at i).shard;
            claims = λ i n cell below. (at i).claims n;
            no_claims = λ i n cell past. (at i).claims n;
          };
          passed = record {
            noted = λ n j a l e f. absurd (some-ne-none a (sym e));
            rises = λ n j k a b x y less e f. absurd (some-ne-none a (sym e));
          };
        }
      where
        value_at : (i : ℕ) → i < turns_of g → (v : Item C) × (get_elem? values i ≡ some v)
        value_at i below = there values i (let c = fresh.count in omega arith)

        heads : (k : Key) → IsHead (entry_of k (shard_in g (get_or values (shard_turn g k) (default g)))) (header_at k (headers_in (get_or values (bucket_turn g k) (default g))))
        heads k = subst (λ (x : Option Entry × Option Header). IsHead x.0 x.1)
            (λ z. (sym (ap (entry_of k) (now_blank h all fresh (shard_turn g k)).shard) z, sym (ap (header_at k) (now_blank h all fresh (bucket_turn g k)).headers) z)) tt

        counts : (n : ℕ) (k : Key) → count_of n k (shard_in g (get_or values (shard_turn g k) (default g))) ≡ 0
        counts n k = ap (count_of n k) (now_blank h all fresh (shard_turn g k)).shard
