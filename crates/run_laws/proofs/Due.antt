-- Behind a legal history at most one dbuf is the one to evict: each use of a dbuf has a number of its own, and a cached dbuf was used. So evictions from states of one outline are the same.
use Rattle.std.proofs.Common.{◌≡◌, ℕ, ◌+◌, ◌<◌, ◌≤◌, ◌==◌, Bool, true, false, not, ◌&&◌, ◌||◌, nat_lt, ◌⊎◌, IsTrue, if◌then◌else◌, List, [], ◌∷◌, ◌++◌, map, replicate, Some, inl, inr, refl, sym, ap, subst, ◌∙◌, arith, eq-eqb}
use Rattle.std.proofs.lemmas.Bool.{false≢true}
use Rattle.std.proofs.lemmas.Bool.Decides.{nat_tests}
use Rattle.std.specs.List.{AllByRecursion, list_any}
use Rattle.dbuf_state.specs.declared.event.CellEvent.{CellEvent}
use Rattle.dbuf_state.specs.declared.event.CellEvent.TheVariants.{Get, Put, Patch, Pin, Unpin, Load, Evict, Synced, End}
use Rattle.dbuf_state.specs.declared.oid.Oid.{Oid}
use Rattle.dbuf_state.specs.declared.standing.Standing.{Standing}
use Rattle.dbuf_state.specs.declared.state.Mapping.{Mapping}
use Rattle.blk_ptr.specs.declared.ptr.Ptr.{Ptr}
use Rattle.dbuf_state.specs.History.{Leads}
use Rattle.dbuf_state.specs.Objects.{Block, Cached, Dirty, Evicting, IsLegal, IsWritten, IsWrittenAt, Must, PlainCell, PlainDbuf, Uncached, after, changed, dbuf_oid, ended, evicted, evicting_after, fresh_dbuf, has_bytes, is_cached, is_due, loaded, may_evict, must_evict, opened, opening_cell, patched, standing, standings, untold, used_at, with_block, with_pins}
use Rattle.dbuf_state.specs.Oids.{item_at, oid_eq, with_item}
use Rattle.dbuf_state.specs.Outline.{Outline, outline_of}
use Rattle.dbuf_state.specs.Outline as outline
use Rattle.dbuf_state.specs.Pins.{pinned, unpinned}
use Rattle.dbuf_state.specs.Standings.{is_candidate, is_evictable, is_oldest_use, is_over}
use Rattle.dbuf_state.proofs.IndexLemmas.{and-both, and-parts, bool_cases}
use Rattle.dbuf_state.proofs.OutlineLemmas.{leads-outline, outline-follows, standings-alike}
use Rattle.run_laws.specs.Due.{AreEvictionsOne, IsDueOne}

-- ---- lists and tests

or-parts : (a b : Bool) → (a || b) ≡ true → (a ≡ true) ⊎ (b ≡ true)
or-parts true b e = inl refl
or-parts false b e = inr e

same_oid : (a b : Oid) → oid_eq a b ≡ true → a ≡ b
same_oid a b e = grind (arith, nat_tests)

oid-itself : (a : Oid) → oid_eq a a ≡ true
oid-itself a = and-both _ _ (eq-eqb a.object a.object refl) (eq-eqb a.block a.block refl)

all-map : {X : Type 0} (P Q : X → Type 0) (xs : List X) → ((x : X) → P x → Q x) → AllByRecursion P xs → AllByRecursion Q xs
all-map P Q [] f all = tt
all-map P Q (x ∷ xs) f all = (f x all.0, all-map P Q xs f all.1)

-- what is so of each dbuf, where the one of an Oid is changed
changed-all : (P Q : PlainDbuf → Type 0) (at : Oid) (f : PlainDbuf → PlainDbuf) (ds : List PlainDbuf) → ((d : PlainDbuf) → P d → Q d)
    → ((d : PlainDbuf) → item_at dbuf_oid at ds ≡ Some d → oid_eq at d.at ≡ true → P d → Q (f d)) → AllByRecursion P ds → AllByRecursion Q (changed at f ds)
changed-all P Q at f [] stays becomes all = tt
changed-all P Q at f (d ∷ ds) stays becomes all = elim (bool_cases (oid_eq at d.at)) [
  | inl here ↦ rw here (becomes d (rw here refl) here all.0, all-map P Q ds stays all.1)
  | inr past ↦ rw past (stays d all.0, changed-all P Q at f ds stays (λ x found its. becomes x (rw past found) its) all.1)
]

-- and where it is changed or added
put-all : (P Q : PlainDbuf → Type 0) (at : Oid) (f : PlainDbuf → PlainDbuf) (new : PlainDbuf) (ds : List PlainDbuf) → ((d : PlainDbuf) → P d → Q d) → ((d : PlainDbuf) → oid_eq at d.at ≡ true → P d → Q (f d)) → Q new
    → AllByRecursion P ds → AllByRecursion Q (with_item dbuf_oid at f new ds)
put-all P Q at f new [] stays becomes first all = (first, tt)
put-all P Q at f new (d ∷ ds) stays becomes first all = elim (bool_cases (oid_eq at d.at)) [
  | inl here ↦ rw here (becomes d here all.0, all-map P Q ds stays all.1)
  | inr past ↦ rw past (stays d all.0, put-all P Q at f new ds stays becomes first all.1)
]

mapped-all : (P Q : PlainDbuf → Type 0) (f : PlainDbuf → PlainDbuf) (ds : List PlainDbuf) → ((d : PlainDbuf) → P d → Q (f d)) → AllByRecursion P ds → AllByRecursion Q (map f ds)
mapped-all P Q f [] becomes all = tt
mapped-all P Q f (d ∷ ds) becomes all = (becomes d all.0, mapped-all P Q f ds becomes all.1)

-- the dbuf of an Oid is changed twice
twice : (at : Oid) (f g : PlainDbuf → PlainDbuf) → ((d : PlainDbuf) → (g d).at ≡ d.at) → (ds : List PlainDbuf) → changed at f (changed at g ds) ≡ changed at (λ d. f (g d)) ds
twice at f g same [] = refl
twice at f g same (d ∷ ds) = elim (bool_cases (oid_eq at d.at)) [
  | inl here ↦ rw (here, same d, here) refl
  | inr past ↦ rw (past, past) (ap (λ (xs : List PlainDbuf). d ∷ xs) (twice at f g same ds))
]

put-twice : (at : Oid) (f g : PlainDbuf → PlainDbuf) (new : PlainDbuf) → ((d : PlainDbuf) → (g d).at ≡ d.at) → oid_eq at new.at ≡ true → (ds : List PlainDbuf)
    → changed at f (with_item dbuf_oid at g new ds) ≡ with_item dbuf_oid at (λ d. f (g d)) (f new) ds
put-twice at f g new same its [] = rw its refl
put-twice at f g new same its (d ∷ ds) = elim (bool_cases (oid_eq at d.at)) [
  | inl here ↦ rw (here, same d, here) refl
  | inr past ↦ rw (past, past) (ap (λ (xs : List PlainDbuf). d ∷ xs) (put-twice at f g new same its ds))
]

-- ---- each use has a number of its own

-- Of so many events this is the Oid that each one used: the dbuf was used last by one of its own. One that has bytes was used.
pub record IsUsedBy (owner : ℕ → Oid) (n : ℕ) (d : PlainDbuf) : Type 0 where
  pub within : d.used ≤ n
  pub by : 0 < d.used → owner d.used ≡ d.at
  pub kept : has_bytes d.block ≡ true → 0 < d.used

abbrev pub AreUsed : (owner : ℕ → Oid) → PlainCell → Type 0
AreUsed owner c = AllByRecursion (IsUsedBy owner c.events) c.dbufs

-- the next event uses this one
abbrev owned : (ℕ → Oid) → (tick : ℕ) → Oid → ℕ → Oid
owned owner tick at k = if k == tick then at else owner k

one-more : (k n : ℕ) → k ≤ n → k ≤ n + 1
one-more k n h = omega arith

earlier : (k n : ℕ) → k ≤ n → (k == n + 1) ≡ false
earlier k n h = grind (arith, nat_tests)

some-use : (n : ℕ) → 0 < n + 1
some-use n = omega arith

no-later : (n : ℕ) → n + 1 ≤ n + 1
no-later n = omega arith

-- another event goes by
stays-used : (owner : ℕ → Oid) (n : ℕ) (d : PlainDbuf) → IsUsedBy owner n d → IsUsedBy owner (n + 1) d
stays-used owner n d u = record { within = one-more d.used n u.within; by = u.by; kept = u.kept }

module _ (owner : ℕ → Oid) (n : ℕ) (at : Oid) where
  abbrev onward : ℕ → Oid
  onward = owned owner (n + 1) at

  goes-on : (d : PlainDbuf) → IsUsedBy owner n d → IsUsedBy onward (n + 1) d
  goes-on d u = record { within = one-more d.used n u.within; by = λ some. rw (earlier d.used n u.within) (u.by some); kept = u.kept }

  now-used : (d : PlainDbuf) → at ≡ d.at → IsUsedBy onward (n + 1) (used_at (n + 1) d)
  now-used d its = record {
    within = no-later n;
    by = λ some. let is : (n + 1 == n + 1) ≡ true = eq-eqb (n + 1) (n + 1) refl in rw is its;
    kept = λ there. some-use n;
  }

  -- the event changes the dbuf that it uses
  use-all : (f : PlainDbuf → PlainDbuf) → ((d : PlainDbuf) → (f d).at ≡ d.at) → (ds : List PlainDbuf) → AllByRecursion (IsUsedBy owner n) ds → AllByRecursion (IsUsedBy onward (n + 1)) (changed at (λ d. used_at (n + 1) (f d)) ds)
  use-all f same ds all = changed-all (IsUsedBy owner n) (IsUsedBy onward (n + 1)) at (λ d. used_at (n + 1) (f d)) ds goes-on (λ d found its u. now-used (f d) (same_oid at d.at its ∙ sym (same d))) all

  use-changed : (f : PlainDbuf → PlainDbuf) → ((d : PlainDbuf) → (f d).at ≡ d.at) → (ds : List PlainDbuf) → AllByRecursion (IsUsedBy owner n) ds → AllByRecursion (IsUsedBy onward (n + 1)) (changed at (used_at (n + 1)) (changed at f ds))
  use-changed f same ds all = subst (AllByRecursion (IsUsedBy onward (n + 1))) (sym (twice at (used_at (n + 1)) f same ds)) (use-all f same ds all)

  use-put : (f : PlainDbuf → PlainDbuf) (new : PlainDbuf) → ((d : PlainDbuf) → (f d).at ≡ d.at) → new.at ≡ at → (ds : List PlainDbuf) → AllByRecursion (IsUsedBy owner n) ds
      → AllByRecursion (IsUsedBy onward (n + 1)) (changed at (used_at (n + 1)) (with_item dbuf_oid at f new ds))
  use-put f new same its ds all =
      let own : oid_eq at new.at ≡ true = subst (λ (x : Oid). oid_eq at x ≡ true) (sym its) (oid-itself at) in
      subst (AllByRecursion (IsUsedBy onward (n + 1))) (sym (put-twice at (used_at (n + 1)) f new same own ds))
      (put-all (IsUsedBy owner n) (IsUsedBy onward (n + 1)) at (λ d. used_at (n + 1) (f d)) (used_at (n + 1) new) ds goes-on (λ d here u. now-used (f d) (same_oid at d.at here ∙ sym (same d))) (now-used new (sym its)) all)

had-bytes : (b : Block) → has_bytes (evicted b) ≡ true → has_bytes b ≡ true
had-bytes (Uncached ptr) h = h
had-bytes (Cached ptr) h = refl
had-bytes (Dirty bytes) h = h

written-bytes : (ptr : Ptr) (b : Block) → IsWritten ptr b → has_bytes b ≡ true
written-bytes ptr (Uncached old) h = absurd h
written-bytes ptr (Cached old) h = absurd h
written-bytes ptr (Dirty bytes) h = refl

cached-bytes : (b : Block) → is_cached b ≡ true → has_bytes b ≡ true
cached-bytes (Uncached ptr) h = h
cached-bytes (Cached ptr) h = h
cached-bytes (Dirty bytes) h = refl

lets-go : (owner : ℕ → Oid) (n : ℕ) (d : PlainDbuf) → IsUsedBy owner n d → IsUsedBy owner (n + 1) (with_block evicted d)
lets-go owner n d u = record { within = one-more d.used n u.within; by = u.by; kept = λ there. u.kept (had-bytes d.block there) }

ends-used : (owner : ℕ → Oid) (n : ℕ) (d : PlainDbuf) → IsUsedBy owner n d → IsUsedBy owner (n + 1) (ended d)
ends-used owner n d u = record { within = one-more d.used n u.within; by = u.by; kept = λ there. u.kept (had-bytes d.block there) }

-- behind one more event it is so again
pub step-used : (owner : ℕ → Oid) (c : PlainCell) (e : CellEvent) (base : List ℕ) → IsLegal c e → AreUsed owner c → (now : ℕ → Oid) × AreUsed now (after base c e)
step-used owner c (Get n at) base legal all = (owned owner (c.events + 1) at, use-all owner c.events at (λ d. d) (λ d. refl) c.dbufs all)
step-used owner c (Put n at size fill) base legal all =
    (owned owner (c.events + 1) at, use-put owner c.events at (with_block (λ _. Dirty (replicate size fill))) (fresh_dbuf at (Dirty (replicate size fill))) (λ d. refl) refl c.dbufs all)
step-used owner c (Patch n at from bytes) base legal all = (owned owner (c.events + 1) at, use-changed owner c.events at (with_block (λ _. Dirty (patched from bytes base))) (λ d. refl) c.dbufs all)
step-used owner c (Pin n at) base legal all = (owned owner (c.events + 1) at, use-changed owner c.events at (with_pins (pinned n)) (λ d. refl) c.dbufs all)
step-used owner c (Unpin n at) base legal all = (owned owner (c.events + 1) at, use-changed owner c.events at (with_pins (unpinned n)) (λ d. refl) c.dbufs all)
step-used owner c (Load n at keeps) base legal all = (owned owner (c.events + 1) at, use-changed owner c.events at (with_block loaded) (λ d. refl) c.dbufs all)
step-used owner c (Evict n at) base legal all =
    (owner, changed-all (IsUsedBy owner c.events) (IsUsedBy owner (c.events + 1)) at (with_block evicted) c.dbufs (stays-used owner c.events) (λ d found its u. lets-go owner c.events d u) all)
step-used owner c (Synced n at ptr keeps) base legal all =
    (owner, changed-all (IsUsedBy owner c.events) (IsUsedBy owner (c.events + 1)) at (with_block (λ _. Cached ptr)) c.dbufs (stays-used owner c.events) now all)
  where
    now : (d : PlainDbuf) → item_at dbuf_oid at c.dbufs ≡ Some d → oid_eq at d.at ≡ true → IsUsedBy owner c.events d → IsUsedBy owner (c.events + 1) (with_block (λ _. Cached ptr) d)
    now d found its u =
        let dirty : IsWritten ptr d.block = subst (IsWrittenAt ptr) found legal.1 in
        record { within = one-more d.used c.events u.within; by = u.by; kept = λ there. u.kept (written-bytes ptr d.block dirty) }
step-used owner c (End n) base legal all = (owner, mapped-all (IsUsedBy owner c.events) (IsUsedBy owner (c.events + 1)) ended c.dbufs (ends-used owner c.events) all)

opening-used : (owner : ℕ → Oid) (ms : List Mapping) → AllByRecursion (IsUsedBy owner 0) (map opened ms)
opening-used owner [] = tt
opening-used owner (m ∷ ms) = (record { within = omega arith; by = λ some. absurd (omega (arith, some)); kept = λ there. absurd (false≢true there) }, opening-used owner ms)

pub leads-used : (owner : ℕ → Oid) (c : PlainCell) (es : List CellEvent) (bases : List (List ℕ)) (end : PlainCell) → Leads c es bases end → AreUsed owner c → (now : ℕ → Oid) × AreUsed now end
leads-used owner c [] bases end leads all = (owner, subst (AreUsed owner) (sym leads.1) all)
leads-used owner c (e ∷ es) bases end leads all =
    let next = step-used owner c e leads.1.0 leads.0 all in
    leads-used next.0 (after leads.1.0 c e) es leads.1.1 end leads.1.4 next.1

-- the Oid that the opening has of each event: none has used any
no-oid : ℕ → Oid
no-oid k = record { object = 0; block = 0 }

pub history-used : (limit : ℕ) (opening : List Mapping) (es : List CellEvent) (bases : List (List ℕ)) (end : PlainCell) → Leads (opening_cell limit opening) es bases end → (now : ℕ → Oid) × AreUsed now end
history-used limit opening es bases end leads = leads-used no-oid (opening_cell limit opening) es bases end leads (opening-used no-oid opening)

-- ---- so at most one is due

-- among these dbufs there is a candidate of this Oid, and none was used longer ago
record IsOldestOf (owner : ℕ → Oid) (ss : List Standing) (ds : List PlainDbuf) (a : Oid) : Type 0 where
  pub used : ℕ
  pub mine : owner used ≡ a
  pub oldest : is_oldest_use used ss ≡ true
  pub first : (u : ℕ) → is_oldest_use u (map standing ds) ≡ true → u ≤ used

not-less : (k u : ℕ) → not (nat_lt k u) ≡ true → u ≤ k
not-less k u h = grind (arith, nat_tests)

not-before : (b : Bool) (k u : ℕ) → b ≡ true → not (b && nat_lt k u) ≡ true → u ≤ k
not-before true k u is h = not-less k u h
not-before false k u is h = absurd (false≢true is)

oldest-found : (owner : ℕ → Oid) (n : ℕ) (ss : List Standing) (a : Oid) (ds : List PlainDbuf) → AllByRecursion (IsUsedBy owner n) ds
    → list_any (λ s. oid_eq a s.at && (is_candidate s && is_oldest_use s.used ss)) (map standing ds) ≡ true → IsOldestOf owner ss ds a
oldest-found owner n ss a [] all any = absurd (false≢true any)
oldest-found owner n ss a (d ∷ ds) all any = elim (or-parts (oid_eq a d.at && (is_candidate (standing d) && is_oldest_use d.used ss)) _ any) [
  | inl here ↦
      let p = and-parts (oid_eq a d.at) _ here in
      let q = and-parts (is_candidate (standing d)) _ p.1 in
      let cached : is_cached d.block ≡ true = (and-parts (is_cached d.block) _ q.0).0 in
      record {
        used = d.used;
        mine = all.0.by (all.0.kept (cached-bytes d.block cached)) ∙ sym (same_oid a d.at p.0);
        oldest = q.1;
        first = λ u o. not-before (is_candidate (standing d)) d.used u q.0 (and-parts (not (is_candidate (standing d) && nat_lt d.used u)) _ o).0;
      }
  | inr later ↦
      let r = oldest-found owner n ss a ds all.1 later in
      record { used = r.used; mine = r.mine; oldest = r.oldest; first = λ u o. r.first u (and-parts (not (is_candidate (standing d) && nat_lt d.used u)) _ o).1 }
]

both-ways : (a b : ℕ) → a ≤ b → b ≤ a → a ≡ b
both-ways a b h k = omega arith

pub one-due : (owner : ℕ → Oid) (c : PlainCell) (a b : Oid) → AreUsed owner c → is_evictable c.limit a (standings c) ≡ true → is_evictable c.limit b (standings c) ≡ true → a ≡ b
one-due owner c a b all ea eb =
    let x = oldest-found owner c.events (standings c) a c.dbufs all (and-parts (is_over c.limit (standings c)) _ ea).1 in
    let y = oldest-found owner c.events (standings c) b c.dbufs all (and-parts (is_over c.limit (standings c)) _ eb).1 in
    sym x.mine ∙ (ap owner (both-ways x.used y.used (y.first x.used x.oldest) (x.first y.used y.oldest)) ∙ y.mine)

pub is-due-one : IsDueOne
is-due-one limit opening es bases c a b leads ea eb = let used = history-used limit opening es bases c leads in one-due used.0 c a b used.1 ea eb

-- ---- evictions

-- what is evicted is chosen by the outline
same-evictable : (c d : PlainCell) → outline_of d ≡ outline_of c → (at : Oid) → is_evictable d.limit at (standings d) ≡ is_evictable c.limit at (standings c)
same-evictable c d same at =
    ap (is_evictable d.limit at) (sym (standings-alike d)) ∙ (ap (λ (o : Outline). is_evictable o.limit at (outline.standings o)) same ∙ ap (is_evictable c.limit at) (standings-alike c))

-- where one may be evicted and must be, one is due
over-due : (c : PlainCell) (at : Oid) → must_evict c.evicting ≡ true → is_evictable c.limit at (standings c) ≡ true → not (is_due c) ≡ true → ⊥
over-due c at must evictable rests =
    let due : is_due c ≡ true = and-both (must_evict c.evicting) _ must (and-parts (is_over c.limit (standings c)) _ evictable).0 in
    false≢true (ap not (sym due) ∙ rests)

pub evictions-same : (n : ℕ) (xs ys : List Oid) (owner : ℕ → Oid) (c d : PlainCell) → AreUsed owner c → outline_of d ≡ outline_of c → must_evict c.evicting ≡ true → (us vs : List (List ℕ)) (c_end d_end : PlainCell)
    → Leads c (map (Evict n) xs) us c_end → Leads d (map (Evict n) ys) vs d_end → not (is_due c_end) ≡ true → not (is_due d_end) ≡ true → ys ≡ xs
evictions-same n [] [] owner c d all same must us vs c_end d_end one other c_rests d_rests = refl
evictions-same n [] (y ∷ ys) owner c d all same must us vs c_end d_end one other c_rests d_rests =
    let evictable : is_evictable c.limit y (standings c) ≡ true = sym (same-evictable c d same y) ∙ (and-parts (may_evict d.evicting) _ other.0).1 in
    absurd (over-due c y must evictable (ap (λ (m : PlainCell). not (is_due m)) (sym one.1) ∙ c_rests))
evictions-same n (x ∷ xs) [] owner c d all same must us vs c_end d_end one other c_rests d_rests =
    let evictable : is_evictable d.limit x (standings d) ≡ true = same-evictable c d same x ∙ (and-parts (may_evict c.evicting) _ one.0).1 in
    absurd (over-due d x (ap (λ (o : Outline). must_evict o.evicting) same ∙ must) evictable (ap (λ (m : PlainCell). not (is_due m)) (sym other.1) ∙ d_rests))
evictions-same n (x ∷ xs) (y ∷ ys) owner c d all same must us vs c_end d_end one other c_rests d_rests =
    let mine : is_evictable c.limit x (standings c) ≡ true = (and-parts (may_evict c.evicting) _ one.0).1 in
    let its : is_evictable c.limit y (standings c) ≡ true = sym (same-evictable c d same y) ∙ (and-parts (may_evict d.evicting) _ other.0).1 in
    let first : y ≡ x = one-due owner c y x all its mine in
    let next = step-used owner c (Evict n x) one.1.0 one.0 all in
    let behind : outline_of (after other.1.0 d (Evict n y)) ≡ outline_of (after one.1.0 c (Evict n x)) =
    outline-follows d (Evict n y) other.1.0 other.0 other.1.3 ∙ ((λ i. outline.after (same i) (Evict n (first i))) ∙ sym (outline-follows c (Evict n x) one.1.0 one.0 one.1.3)) in
    let rest : ys ≡ xs = evictions-same n xs ys next.0 (after one.1.0 c (Evict n x)) (after other.1.0 d (Evict n y)) next.1 behind must one.1.1 other.1.1 c_end d_end one.1.4 other.1.4 c_rests d_rests in
    λ i. first i ∷ rest i

pub are-evictions-one : AreEvictionsOne
are-evictions-one limit opening es bases c d leads same must n xs ys us vs c_end d_end one other c_rests d_rests =
    let used = history-used limit opening es bases c leads in evictions-same n xs ys used.0 c d used.1 same must us vs c_end d_end one other c_rests d_rests

-- ---- behind an operation

-- a history in two parts
pub record IsParted (c : PlainCell) (es fs : List CellEvent) (end : PlainCell) : Type 0 where
  pub bases : List (List ℕ)
  pub state : PlainCell
  pub before : Leads c es bases state
  pub rest : List (List ℕ)
  pub behind : Leads state fs rest end

pub parted : (c end : PlainCell) (es fs : List CellEvent) (bases : List (List ℕ)) → Leads c (es ++ fs) bases end → IsParted c es fs end
parted c end [] fs bases leads = record { bases = []; state = c; before = (refl, refl); rest = bases; behind = leads }
parted c end (e ∷ es) fs bases leads =
    let p = parted (after leads.1.0 c e) end es fs leads.1.1 leads.1.4 in
    record { bases = untold c e leads.1.0 ++ p.bases; state = p.state; before = (leads.0, (leads.1.0, p.bases, refl, leads.1.3, p.before)); rest = p.rest; behind = p.behind }

-- Two legal histories begin with the same events, the last of which is one behind which whatever is due must be evicted; behind it they have evictions alone, and then none is due: they evict the same dbufs.
pub evictions-behind : (limit : ℕ) (opening : List Mapping) (front : List CellEvent) (e : CellEvent) → ((v : Evicting) → evicting_after v e ≡ Must) → (n : ℕ) (xs ys : List Oid) (us vs : List (List ℕ)) (c d : PlainCell)
    → Leads (opening_cell limit opening) (front ++ e ∷ map (Evict n) xs) us c → Leads (opening_cell limit opening) (front ++ e ∷ map (Evict n) ys) vs d → IsTrue (not (is_due c)) → IsTrue (not (is_due d)) → ys ≡ xs
evictions-behind limit opening front e makes n xs ys us vs c d one other c_rests d_rests =
    let p = parted (opening_cell limit opening) c front (e ∷ map (Evict n) xs) us one in
    let q = parted (opening_cell limit opening) d front (e ∷ map (Evict n) ys) vs other in
    let used = history-used limit opening front p.bases p.state p.before in
    let next = step-used used.0 p.state e p.behind.1.0 p.behind.0 used.1 in
    let same : outline_of q.state ≡ outline_of p.state = leads-outline (opening_cell limit opening) front q.bases q.state q.before ∙ sym (leads-outline (opening_cell limit opening) front p.bases p.state p.before) in
    let behind : outline_of (after q.behind.1.0 q.state e) ≡ outline_of (after p.behind.1.0 p.state e) =
    outline-follows q.state e q.behind.1.0 q.behind.0 q.behind.1.3 ∙ (ap (λ (o : Outline). outline.after o e) same ∙ sym (outline-follows p.state e p.behind.1.0 p.behind.0 p.behind.1.3)) in
    evictions-same n xs ys next.0 (after p.behind.1.0 p.state e) (after q.behind.1.0 q.state e) next.1 behind (ap must_evict (makes p.state.evicting)) p.behind.1.1 q.behind.1.1 c d p.behind.1.4 q.behind.1.4 c_rests d_rests
