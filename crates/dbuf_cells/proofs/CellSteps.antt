-- What is done to a cell in hand, one thing after another.
use Rattle.std.proofs.Common.{◌≡◌, ◌≢◌, ℕ, zero, suc, ◌+◌, ◌≤◌, Bool, true, false, not, ◌&&◌, IsTrue, List, [], ◌∷◌, ◌++◌, length, map, cond, Option, Some, None, refl, sym, ap, ◌∙◌, subst, inl, inr, arith}
use Rattle.std.specs.List.{AllByRecursion}
use Rattle.std.specs.Option.{option_map_or}
use Rattle.std.proofs.lemmas.Bool.{false≢true}
use Rattle.std.proofs.lemmas.Bool.Decides.{nat_tests}
use Rattle.std.proofs.lemmas.List.{append-nil, append_assoc}
use Rattle.std.proofs.lemmas.List.Sums.{count_by-le-length, sum_by-cons}
use mathlib.Core.Option.{some-injective, some-ne-none}
use Rattle.dbuf_state.specs.CellLog.{CellLog, noted, touched}
use Rattle.dbuf_state.specs.Dbufs.{dbuf_at, dbuf_is, dbuf_oid, is_cached, is_clean, is_clean_in, standing_of, used_at, with_dbuf, without_kept}
use Rattle.dbuf_state.specs.Held.{TellsHolds, held_after}
use Rattle.dbuf_state.specs.History.{Leads}
use Rattle.dbuf_state.specs.InHand.{are_at_rest}
use Rattle.dbuf_state.specs.Numbers.{claim_in, claims_in, event_numbers, number_of}
use Rattle.dbuf_state.specs.Objects.{Evicting, IsBase, IsLegal, PlainCell, after, evicting_after, is_due, may_evict, opening_cell, untold, use_of}
use Rattle.dbuf_state.specs.Oids.{is_distinct, oid_eq, with_item}
use Rattle.dbuf_state.specs.Soundness.{IsSound, KeepsWhereCached, plain_cell}
use Rattle.dbuf_state.specs.Standings.{is_evictable}
use Rattle.dbuf_state.specs.Steps.{Follows}
use Rattle.dbuf_state.specs.declared.dbuf.Content.{Content}
use Rattle.dbuf_state.specs.declared.dbuf.Content.TheVariants.{Clean, Dirty}
use Rattle.dbuf_state.specs.declared.dbuf.Dbuf.{Dbuf}
use Rattle.dbuf_state.specs.declared.event.CellEvent.{CellEvent}
use Rattle.dbuf_state.specs.declared.event.CellEvent.TheVariants.{Evict}
use Rattle.dbuf_state.specs.declared.oid.Oid.{Oid}
use Rattle.dbuf_state.specs.declared.state.DbState.{DbState}
use Rattle.dbuf_state.specs.declared.state.DbState.TheVariants as state
use Rattle.dbuf_state.specs.declared.state.Mapping.{Mapping}
use Rattle.dbuf_state.proofs.HandLemmas.{claims-stay, claims-stay-by-note, evictable-is-cached, plain-standings-are, rest-stays, rest-stays-by-note}
use Rattle.dbuf_state.proofs.HeldLemmas.{held-cleared, tells-more}
use Rattle.dbuf_state.proofs.IndexLemmas.{and-both, bool_cases}
use Rattle.dbuf_state.proofs.NumberLemmas.{events-numbered}
use Rattle.dbuf_state.proofs.OutlineLemmas.{block-cached}
use Rattle.dbuf_state.proofs.StepLemmas.{evict-follows, goes-on}
use Rattle.arc_table.specs.Giving.{AreEntriesOf}
use Rattle.dbuf_cells.specs.InHand.{AreClaimedAlike, HasDone, kept_count}
use Rattle.dbuf_cells.specs.Kept.{is_held}
use Rattle.dbuf_cells.specs.Turns.{held_at}
use Rattle.dbuf_cells.specs.declared.kept.Kept.{Kept}

-- ---- histories

leads-behind : (c mid end : PlainCell) (es fs : List CellEvent) (xs ys : List (List ℕ)) → Leads c es xs mid → Leads mid fs ys end → Leads c (es ++ fs) (xs ++ ys) end
leads-behind c mid end [] fs xs ys a b = subst (λ (zs : List (List ℕ)). Leads c fs (zs ++ ys) end) (sym a.0) (subst (λ (k : PlainCell). Leads k fs ys end) a.1 b)
leads-behind c mid end (e ∷ es) fs xs ys a b = (
  a.0,
  (
    a.1.0,
    a.1.1 ++ ys,
    ap (λ (zs : List (List ℕ)). zs ++ ys) a.1.2 ∙ append_assoc (untold c e a.1.0) a.1.1 ys,
    a.1.3,
    leads-behind (after a.1.0 c e) mid end es fs a.1.1 ys a.1.4 b,
  ),
)

pub all-more : {X : Type 0} (P : X → Type 0) (xs : List X) (x : X) → AllByRecursion P xs → P x → AllByRecursion P (xs ++ x ∷ [])
all-more P [] x all one = (one, tt)
all-more P (y ∷ ys) x all one = (all.0, all-more P ys x all.1 one)

-- each event is written with its number first
pub entries-own : (n : ℕ) (news : List CellEvent) → AllByRecursion (λ e. number_of e ≡ n) news → AreEntriesOf n (map event_numbers news)
entries-own n [] own j e at = absurd (some-ne-none e (sym at))
entries-own n (x ∷ xs) own zero e at = let a = events-numbered x in (a.0, sym (some-injective (event_numbers x) e at) ∙ (a.1 ∙ ap (λ (k : ℕ). k ∷ a.0) own.0))
entries-own n (x ∷ xs) own (suc j) e at = entries-own n xs own.1 j e at

-- ---- one thing more

pub done-none : (n : ℕ) (c : CellLog Kept) (s : IsSound c) → TellsHolds is_held c → HasDone n c s.evicting [] c
done-none n c s told = record {
  sound = s;
  told = told;
  tells = told;
  limit = refl;
  opening = refl;
  history = sym (append-nil c.history);
  own = tt;
  bases = [];
  leads = (refl, refl);
  rest = s.at_rest;
  claims = λ k other. refl;
}

module _ (n : ℕ) (before now : CellLog Kept) (evicting : Evicting) (news : List CellEvent) (h : HasDone n before evicting news now) where
  -- a change of its dbufs with the event that tells of it
  pub done-more : (e : CellEvent) (base : List ℕ) (ds : List (Dbuf Kept)) → IsLegal (plain_cell evicting now) e → IsBase base (plain_cell evicting now) e → Follows base now e ds → number_of e ≡ n
      → IsTrue (are_at_rest ds) → ((k : ℕ) → k ≢ n → claims_in k ds ≡ claims_in k now.dbufs) → ((b : Oid) → held_at ds b ≡ held_after b (held_at now.dbufs b) e) → HasDone n before (evicting_after evicting e) (news ++ e ∷ []) (noted e (record now { dbufs = ds }))
  done-more e base ds legal of follows who rest claims held = record {
    sound = h.sound;
    told = h.told;
    tells = tells-more is_held now e ds h.tells held;
    limit = h.limit;
    opening = h.opening;
    history = ap (λ (l : List CellEvent). l ++ e ∷ []) h.history ∙ append_assoc before.history news (e ∷ []);
    own = all-more (λ (x : CellEvent). number_of x ≡ n) news e h.own who;
    bases = h.bases ++ untold (plain_cell evicting now) e base;
    leads = subst (λ (c : PlainCell). Leads (plain_cell h.sound.evicting before) (news ++ e ∷ []) (h.bases ++ untold (plain_cell evicting now) e base) c) (sym (follows evicting))
        (goes-on (plain_cell h.sound.evicting before) (plain_cell evicting now) news h.bases e base h.leads legal of);
    rest = rest-stays-by-note (length now.history + 1) (use_of e) ds ∙ rest;
    claims = λ k other. claims-stay-by-note k (length now.history + 1) (use_of e) ds ∙ (claims k other ∙ h.claims k other);
  }

  -- a change of its dbufs that shows in no plain cell
  pub done-alike : (ds : List (Dbuf Kept)) → plain_cell evicting (record now { dbufs = ds }) ≡ plain_cell evicting now → IsTrue (are_at_rest ds) → ((k : ℕ) → k ≢ n → claims_in k ds ≡ claims_in k now.dbufs)
      → ((b : Oid) → held_at ds b ≡ held_at now.dbufs b) → HasDone n before evicting news (record now { dbufs = ds })
  done-alike ds alike rest claims held = record {
    sound = h.sound;
    told = h.told;
    tells = λ b. held b ∙ h.tells b;
    limit = h.limit;
    opening = h.opening;
    history = h.history;
    own = h.own;
    bases = h.bases;
    leads = subst (λ (c : PlainCell). Leads (plain_cell h.sound.evicting before) news h.bases c) (sym alike) h.leads;
    rest = rest;
    claims = λ k other. claims k other ∙ h.claims k other;
  }

  -- more room
  pub done-roomier : (a b : ℕ) → HasDone n before evicting news (record now { dbuf_room = a; event_room = b })
  done-roomier a b = record {
    sound = h.sound;
    told = h.told;
    tells = h.tells;
    limit = h.limit;
    opening = h.opening;
    history = h.history;
    own = h.own;
    bases = h.bases;
    leads = h.leads;
    rest = h.rest;
    claims = h.claims;
  }

  -- the whole history is legal where nothing is due
  pub done-sound : IsTrue (not (is_due (plain_cell evicting now))) → AllByRecursion KeepsWhereCached now.dbufs → IsSound now
  done-sound settled fit = record {
    evicting = evicting;
    bases = h.sound.bases ++ h.bases;
    history = record {
      legal = subst (λ (l : ℕ). Leads (opening_cell l now.opening) now.history (h.sound.bases ++ h.bases) (plain_cell evicting now)) (sym h.limit)
          (subst (λ (o : List Mapping). Leads (opening_cell before.limit o) now.history (h.sound.bases ++ h.bases) (plain_cell evicting now)) (sym h.opening)
          (subst (λ (es : List CellEvent). Leads (opening_cell before.limit before.opening) es (h.sound.bases ++ h.bases) (plain_cell evicting now)) (sym h.history)
          (leads-behind (opening_cell before.limit before.opening) (plain_cell h.sound.evicting before) (plain_cell evicting now) before.history news h.sound.bases h.bases h.sound.history.legal h.leads)));
      settled = settled;
    };
    at_rest = h.rest;
    fit = fit;
  }

-- ---- one dbuf

pub oid-is : (a b : Oid) → oid_eq a b ≡ true → a ≡ b
oid-is a b h = grind (arith, nat_tests)

-- the dbuf of an Oid has that Oid
pub found-oid : (at : Oid) (ds : List (Dbuf Kept)) (d : Dbuf Kept) → dbuf_at at ds ≡ Some d → d.at ≡ at
found-oid at [] d found = let clash : ◌≡◌ {A = Option (Dbuf Kept)} None (Some d) = found in cc
found-oid at (x ∷ xs) d found = elim (bool_cases (oid_eq at x.at)) [
  | inl here ↦
      let same : ◌≡◌ {A = Option (Dbuf Kept)} (Some x) (Some d) = rw here at found in
      let is : x ≡ d = cc in
      ap (λ (y : Dbuf Kept). y.at) (sym is) ∙ sym (oid-is at x.at here)
  | inr far ↦ found-oid at xs d (rw far at found)
]

-- ---- an eviction

-- of a dbuf that passes a test
pub test-of : (test : Dbuf Kept → Bool) (at : Oid) (ds : List (Dbuf Kept)) (d : Dbuf Kept) → dbuf_is test at ds ≡ true → dbuf_at at ds ≡ Some d → test d ≡ true
test-of test at ds d passes found = ap (λ (o : Option (Dbuf Kept)). option_map_or test o false) (sym found) ∙ passes

-- nobody claims a block that is cached or uncached
pub unclaimed : (k : ℕ) (at : Oid) (content : Content) (s t : DbState) → (is_clean content && is_cached s) ≡ true → t ≡ state.Uncached → claim_in k at content t ≡ claim_in k at content s
unclaimed k at (Dirty bytes) s t h is = refl
unclaimed k at (Clean ptr) state.Uncached t h is = cc
unclaimed k at (Clean ptr) (state.Read n) t h is = absurd (false≢true h)
unclaimed k at (Clean ptr) state.Fill t h is = absurd (false≢true h)
unclaimed k at (Clean ptr) state.Cached t h is = ap (claim_in k at (Clean ptr)) is
unclaimed k at (Clean ptr) state.Evicting t h is = absurd (false≢true h)

module _ (n : ℕ) (before now : CellLog Kept) (evicting : Evicting) (news : List CellEvent) (at : Oid) (h : HasDone n before evicting news now)
    (may : IsTrue (may_evict evicting)) (once : IsTrue (is_distinct dbuf_oid now.dbufs)) (evictable : IsTrue (is_evictable now.limit at (map standing_of now.dbufs))) where
  abbrev pub emptied : List (Dbuf Kept)
  emptied = with_dbuf at (without_kept state.Uncached) now.dbufs

  pub evicts-cached : dbuf_is (is_clean_in is_cached) at now.dbufs ≡ true
  evicts-cached = evictable-is-cached now.limit at now.dbufs once evictable

  pub evict-legal : IsLegal (plain_cell evicting now) (Evict n at)
  evict-legal = and-both (may_evict evicting) _ may (ap (is_evictable now.limit at) (plain-standings-are evicting now) ∙ evictable)

  pub done-evict : HasDone n before evicting (news ++ Evict n at ∷ []) (noted (Evict n at) (record now { dbufs = emptied }))
  done-evict = done-more n before now evicting news h (Evict n at) [] emptied evict-legal tt (evict-follows now n at evicts-cached) refl
      (rest-stays at (without_kept state.Uncached) now.dbufs (λ d found. refl) h.rest)
      (λ k other. claims-stay at (without_kept state.Uncached) k now.dbufs (λ d found. unclaimed k d.at d.content d.state state.Uncached (test-of (is_clean_in is_cached) at now.dbufs d evicts-cached found) refl))
      (held-cleared is_held at (without_kept state.Uncached) (λ d. refl) (λ d. refl) now.dbufs)

-- it is no claim that goes
pub evict-claims : (at : Oid) (old now : CellLog Kept) (n : ℕ) → now ≡ noted (Evict n at) (record old { dbufs = with_dbuf at (without_kept state.Uncached) old.dbufs }) → dbuf_is (is_clean_in is_cached) at old.dbufs ≡ true → AreClaimedAlike old.dbufs now.dbufs
evict-claims at old now n is cached k = ap (λ (c : CellLog Kept). claims_in k c.dbufs) is
    ∙ claims-stay at (without_kept state.Uncached) k old.dbufs (λ d found. unclaimed k d.at d.content d.state state.Uncached (test-of (is_clean_in is_cached) at old.dbufs d cached found) refl)

-- ---- how many blocks are kept

kept-cons : (d : Dbuf Kept) (ds : List (Dbuf Kept)) → kept_count (d ∷ ds) ≡ cond (standing_of d).kept 1 0 + kept_count ds
kept-cons d ds = sum_by-cons (λ (x : Dbuf Kept). cond (standing_of x).kept 1 0) d ds

pub kept-most : (ds : List (Dbuf Kept)) → kept_count ds ≤ length ds
kept-most ds = count_by-le-length (λ (x : Dbuf Kept). (standing_of x).kept) ds

pub none-there : (content : Content) (t : DbState) → is_cached t ≡ false → (is_clean content && is_cached t) ≡ false
none-there (Clean ptr) t h = h
none-there (Dirty bytes) t h = refl

-- one less where a cached block goes
pub kept-less-in : (t : DbState) → is_cached t ≡ false → (at : Oid) (ds : List (Dbuf Kept)) → dbuf_is (is_clean_in is_cached) at ds ≡ true → kept_count (with_dbuf at (without_kept t) ds) + 1 ≡ kept_count ds
kept-less-in t gone at [] h = absurd (false≢true h)
kept-less-in t gone at (d ∷ ds) h = elim (bool_cases (oid_eq at d.at)) [
  | inl here ↦
      let cached : is_clean_in is_cached d ≡ true = rw here at h in
      let was : (standing_of d).kept ≡ true = sym (block-cached d.content d.state) ∙ cached in
      let is : (standing_of (without_kept t d)).kept ≡ false = sym (block-cached d.content t) ∙ none-there d.content t gone in
      let a = kept-cons d ds in let b = kept-cons (without_kept t d) ds in
      let x : cond {A = ℕ} (standing_of d).kept 1 0 ≡ 1 = ap (λ (c : Bool). cond {A = ℕ} c 1 0) was in
      let y : cond {A = ℕ} (standing_of (without_kept t d)).kept 1 0 ≡ 0 = ap (λ (c : Bool). cond {A = ℕ} c 1 0) is in
      rw here (omega arith)
  | inr far ↦
      let r = kept-less-in t gone at ds (rw far at h) in
      let a = kept-cons d ds in let b = kept-cons d (with_dbuf at (without_kept t) ds) in
      rw far (omega arith)
]

pub kept-less : (at : Oid) (ds : List (Dbuf Kept)) → dbuf_is (is_clean_in is_cached) at ds ≡ true → kept_count (with_dbuf at (without_kept state.Uncached) ds) + 1 ≡ kept_count ds
kept-less = kept-less-in state.Uncached refl

-- ---- how many dbufs there are

pub length-change : (at : Oid) (f : Dbuf Kept → Dbuf Kept) (ds : List (Dbuf Kept)) → length (with_dbuf at f ds) ≡ length ds
length-change at f [] = refl
length-change at f (d ∷ ds) = elim (bool_cases (oid_eq at d.at)) [
  | inl here ↦ rw here refl
  | inr far ↦ rw far (ap suc (length-change at f ds))
]

pub length-touched : (tick : ℕ) (used : Option Oid) (ds : List (Dbuf Kept)) → length (touched tick used ds) ≡ length ds
length-touched tick None ds = refl
length-touched tick (Some at) ds = length-change at (used_at tick) ds

pub length-item : (at : Oid) (f : Dbuf Kept → Dbuf Kept) (new : Dbuf Kept) (ds : List (Dbuf Kept)) → length (with_item dbuf_oid at f new ds) ≤ length ds + 1
length-item at f new [] = omega arith
length-item at f new (d ∷ ds) = elim (bool_cases (oid_eq at d.at)) [
  | inl here ↦ rw here (omega arith)
  | inr far ↦ let r = length-item at f new ds in rw far (omega arith)
]
