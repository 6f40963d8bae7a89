-- A cell in hand: its holds, its claims and its plain cell, step by step.
use Rattle.std.proofs.Common.{◌≡◌, ℕ, ◌+◌, Bool, true, false, not, ◌&&◌, ◌||◌, ◌==◌, ◌⊎◌, List, [], ◌∷◌, ◌++◌, map, Option, Some, None, inl, inr, refl, sym, ap, subst, ◌∙◌, arith}
use Rattle.std.proofs.lemmas.Bool.{false≢true}
use Rattle.std.proofs.lemmas.Bool.Decides.{nat_tests}
use Rattle.std.proofs.lemmas.List.{append_assoc}
use Rattle.std.proofs.lemmas.List.Sums.{sum_by-append}
use Rattle.std.specs.List.{AllByRecursion, list_any}
use Rattle.std.specs.Option.{option_map_or}
use Rattle.std.specs.Prelude.{cond, is_some}
use Rattle.blk_ptr.specs.declared.key.Key.{Key}
use Rattle.blk_ptr.specs.declared.ptr.Ptr.{Ptr}
use Rattle.blk_ptr.specs.Order.{key_eq}
use Rattle.arc_core.specs.Keeps.{holds_on}
use Rattle.dbuf_state.specs.declared.dbuf.Content.{Content}
use Rattle.dbuf_state.specs.declared.dbuf.Content.TheVariants.{Clean, Dirty}
use Rattle.dbuf_state.specs.declared.dbuf.Dbuf.{Dbuf}
use Rattle.dbuf_state.specs.declared.event.CellEvent.{CellEvent}
use Rattle.dbuf_state.specs.declared.event.CellEvent.TheVariants.{End}
use Rattle.dbuf_state.specs.declared.oid.Oid.{Oid}
use Rattle.dbuf_state.specs.declared.state.DbState.{DbState}
use Rattle.dbuf_state.specs.declared.state.DbState.TheVariants as state
use Rattle.dbuf_state.specs.declared.state.Mapping.{Mapping}
use Rattle.dbuf_state.specs.Dbufs.{DbufHas, Fits, cached_with, cleared, dbuf_at, dbuf_oid, dirty_with, emptied, is_cached, is_clean, is_clean_in, is_passing, plain_block, plain_dbuf, standing_of, used_at, with_dbuf, without_kept}
use Rattle.dbuf_state.specs.History.{Leads}
use Rattle.dbuf_state.specs.InHand.{ClaimedIsRead, ClaimsChange, ClaimsStay, ClaimsStayByEnd, ClaimsStayByNew, ClaimsStayByNote, DirtyHidesUnkept, DirtyIsChange, EndHidesUnkept, EndRests, EndedKeepsNothing, EvictableIsCached, FirstKeptIsCached, FitKeeps, HoldsChange, HoldsStay, HoldsStayByEnd, HoldsStayByNew, HoldsStayByNote, PlainDbufIs, PlainStandingsAre, RekeptIsThere, RestLasts, RestLastsByUnkeep, RestStays, RestStaysByNew, RestStaysByNote, are_at_rest, are_clean_or_rest, kept_by, kept_on}
use Rattle.dbuf_state.specs.Numbers.{claim_in, claims_in}
use Rattle.dbuf_state.specs.Objects.{Block, Evicting, PlainCell, PlainDbuf}
use Rattle.dbuf_state.specs.Objects as plain
use Rattle.dbuf_state.specs.Oids.{has_item, is_distinct, oid_eq}
use Rattle.dbuf_state.specs.Soundness.{KeepsWhereCached, hold_in, holds_in, plain_cell}
use Rattle.dbuf_state.proofs.Changes.{view-found}
use Rattle.dbuf_state.proofs.FitLemmas.{any-found, evictable-cached, has-found, item-changed}
use Rattle.dbuf_state.proofs.IndexLemmas.{and-both, and-parts, bool_cases}
use Rattle.dbuf_state.proofs.OutlineLemmas.{block-cached, standings-of}

-- ---- one block

kept-cached : (content : Content) (s : DbState) → plain.is_cached (plain_block content s) ≡ (is_clean content && is_cached s)
kept-cached content s = sym (block-cached content s)

emptied-same : (content : Content) (s : DbState) → plain_block content (emptied content state.Evicting) ≡ plain_block content (emptied content s)
emptied-same (Dirty bytes) s = refl
emptied-same (Clean ptr) state.Uncached = refl
emptied-same (Clean ptr) (state.Read n) = refl
emptied-same (Clean ptr) state.Fill = refl
emptied-same (Clean ptr) state.Cached = refl
emptied-same (Clean ptr) state.Evicting = refl

claim-ended : (n : ℕ) (at : Oid) (content : Content) (s : DbState) → claim_in n at content (emptied content s) ≡ claim_in n at content s
claim-ended n at (Dirty bytes) s = refl
claim-ended n at (Clean ptr) state.Uncached = refl
claim-ended n at (Clean ptr) (state.Read m) = refl
claim-ended n at (Clean ptr) state.Fill = refl
claim-ended n at (Clean ptr) state.Cached = refl
claim-ended n at (Clean ptr) state.Evicting = refl

or-right : (a b : Bool) → b ≡ true → (a || b) ≡ true
or-right true b h = refl
or-right false b h = h

or-left : (a b : Bool) → a ≡ true → (a || b) ≡ true
or-left true b h = refl
or-left false b h = absurd (false≢true h)

end-rest : (content : Content) (s : DbState) → (is_clean content || not (is_passing s)) ≡ true → not (is_passing (emptied content s)) ≡ true
end-rest (Dirty bytes) s h = h
end-rest (Clean ptr) state.Uncached h = refl
end-rest (Clean ptr) (state.Read n) h = refl
end-rest (Clean ptr) state.Fill h = refl
end-rest (Clean ptr) state.Cached h = refl
end-rest (Clean ptr) state.Evicting h = refl

module _ {H : Type 0} where
  -- ---- the plain cell

  pub plain-dbuf-is : PlainDbufIs H
  plain-dbuf-is evicting c at = view-found dbuf_oid plain.dbuf_oid plain_dbuf (λ d. refl) at c.dbufs

  pub plain-standings-are : PlainStandingsAre H
  plain-standings-are evicting c = standings-of c.dbufs

  pub evictable-is-cached : EvictableIsCached H
  evictable-is-cached limit at ds once evictable = evictable-cached limit at ds once evictable

  pub first-kept-is-cached : FirstKeptIsCached H
  first-kept-is-cached at ds once first =
      let found = any-found (λ s. s.kept) at ds once (and-parts (list_any (λ s. oid_eq at s.at && s.kept) (map standing_of ds)) _ first).0 in
      go (dbuf_at at ds) found
    where
      go : (o : Option (Dbuf H)) → option_map_or (λ d. (standing_of d).kept) o false ≡ true → option_map_or (is_clean_in is_cached) o false ≡ true
      go None h = h
      go (Some d) h = sym (kept-cached d.content d.state) ∙ h

  -- ---- what is taken out for a while

  found-same : (at : Oid) (x d : Dbuf H) (ds : List (Dbuf H)) → oid_eq at x.at ≡ true → dbuf_at at (x ∷ ds) ≡ Some d → x ≡ d
  found-same at x d ds here found = let same : Some x ≡ Some d = rw here at found in cc

  rekept : (d : Dbuf H) (s : DbState) (kept : H) → d.kept ≡ Some kept → d.state ≡ state.Cached → cached_with kept (without_kept s d) ≡ d
  rekept d s kept there cached = λ i. record d { state = sym cached i; kept = sym there i }

  pub rekept-is-there : RekeptIsThere H
  rekept-is-there at [] d s kept found there cached = refl
  rekept-is-there at (x ∷ ds) d s kept found there cached = elim (bool_cases (oid_eq at x.at)) [
    | inl here ↦
        let same = found-same at x d ds here found in
        rw (here, here) (ap (λ (y : Dbuf H). y ∷ ds) (rekept x s kept (ap (λ (y : Dbuf H). y.kept) same ∙ there) (ap (λ (y : Dbuf H). y.state) same ∙ cached)))
    | inr far ↦ rw (far, far) (ap (λ (ys : List (Dbuf H)). x ∷ ys) (rekept-is-there at ds d s kept (rw far at found) there cached))
  ]

  pub dirty-hides-unkept : DirtyHidesUnkept H
  dirty-hides-unkept at [] s bytes new = refl
  dirty-hides-unkept at (x ∷ ds) s bytes new = elim (bool_cases (oid_eq at x.at)) [
    | inl here ↦ rw (here, here) refl
    | inr far ↦ rw (far, far) (ap (λ (ys : List (Dbuf H)). x ∷ ys) (dirty-hides-unkept at ds s bytes new))
  ]

  pub dirty-is-change : DirtyIsChange H
  dirty-is-change at ds bytes new there = item-changed at (dirty_with bytes) new ds there

  pub end-hides-unkept : EndHidesUnkept H
  end-hides-unkept at [] = refl
  end-hides-unkept at (x ∷ ds) = elim (bool_cases (oid_eq at x.at)) [
    | inl here ↦ rw here (ap (λ (b : Block). record { at = x.at; block = b; pins = []; used = x.used } ∷ map plain_dbuf (map cleared ds)) (emptied-same x.content x.state))
    | inr far ↦ rw far (ap (λ (ps : List PlainDbuf). plain_dbuf (cleared x) ∷ ps) (end-hides-unkept at ds))
  ]

  -- ---- the claims

  pub claims-change : ClaimsChange H
  claims-change at f n [] d found = absurd (let clash : ◌≡◌ {A = Option (Dbuf H)} None (Some d) = found in cc)
  claims-change at f n (x ∷ ds) d found = elim (bool_cases (oid_eq at x.at)) [
    | inl here ↦
        let same = found-same at x d ds here found in
        record {
          front = [];
          back = claims_in n ds;
          before = ap (λ (y : Dbuf H). claim_in n y.at y.content y.state ++ claims_in n ds) same;
          now = rw here (ap (λ (y : Dbuf H). claim_in n (f y).at (f y).content (f y).state ++ claims_in n ds) same);
        }
    | inr far ↦
        let rest = claims-change at f n ds d (rw far at found) in
        let own : List Mapping = claim_in n x.at x.content x.state in
        record {
          front = own ++ rest.front;
          back = rest.back;
          before = ap (λ (ms : List Mapping). own ++ ms) rest.before ∙ moved own rest.front (claim_in n d.at d.content d.state) rest.back;
          now = rw far (ap (λ (ms : List Mapping). own ++ ms) rest.now ∙ moved own rest.front (claim_in n (f d).at (f d).content (f d).state) rest.back);
        }
  ]
    where
      moved : (a b c d : List Mapping) → a ++ (b ++ c ++ d) ≡ (a ++ b) ++ c ++ d
      moved a b c d = simp append_assoc

  pub claims-stay : ClaimsStay H
  claims-stay at f n [] same = refl
  claims-stay at f n (x ∷ ds) same = elim (bool_cases (oid_eq at x.at)) [
    | inl here ↦ rw here (ap (λ (ms : List Mapping). ms ++ claims_in n ds) (same x (rw here refl)))
    | inr far ↦ rw far (ap (λ (ms : List Mapping). claim_in n x.at x.content x.state ++ ms) (claims-stay at f n ds (λ d found. same d (rw far found))))
  ]

  pub claims-stay-by-note : ClaimsStayByNote H
  claims-stay-by-note n tick None ds = refl
  claims-stay-by-note n tick (Some at) ds = claims-stay at (used_at tick) n ds (λ d found. refl)

  pub claims-stay-by-end : ClaimsStayByEnd H
  claims-stay-by-end n [] = refl
  claims-stay-by-end n (x ∷ ds) =
      ap (λ (ms : List Mapping). ms ++ claims_in n (map cleared ds)) (claim-ended n x.at x.content x.state)
      ∙ ap (λ (ms : List Mapping). claim_in n x.at x.content x.state ++ ms) (claims-stay-by-end n ds)

  pub claims-stay-by-new : ClaimsStayByNew H
  claims-stay-by-new n [] d none = ap (λ (ms : List Mapping). ms ++ []) none
  claims-stay-by-new n (x ∷ ds) d none = ap (λ (ms : List Mapping). claim_in n x.at x.content x.state ++ ms) (claims-stay-by-new n ds d none)

  -- the claim of one dbuf: none, or its own Oid, which n reads
  own-claim : (n : ℕ) (d : Dbuf H) → (claim_in n d.at d.content d.state ≡ [])
      ⊎ ((ptr : Ptr) × (claim_in n d.at d.content d.state ≡ record { at = d.at; ptr = ptr } ∷ []) × (d.content ≡ Clean ptr) × (d.state ≡ state.Read n))
  own-claim n d = go d.content d.state
    where
      same : (m : ℕ) → (m == n) ≡ true → m ≡ n
      same m h = grind (arith, nat_tests)

      go : (content : Content) (s : DbState) → (claim_in n d.at content s ≡ []) ⊎ ((ptr : Ptr) × (claim_in n d.at content s ≡ record { at = d.at; ptr = ptr } ∷ []) × (content ≡ Clean ptr) × (s ≡ state.Read n))
      go (Dirty bytes) s = inl refl
      go (Clean ptr) state.Uncached = inl refl
      go (Clean ptr) state.Fill = inl refl
      go (Clean ptr) state.Cached = inl refl
      go (Clean ptr) state.Evicting = inl refl
      go (Clean ptr) (state.Read m) = elim (bool_cases (m == n)) [
        | inl is ↦ inr (ptr, rw is refl, refl, ap (λ (k : ℕ). state.Read k) (same m is))
        | inr other ↦ inl (rw other refl)
      ]

  -- what is found behind other dbufs
  found-behind : (m : Mapping) (P : Dbuf H → Type 0) (x : Dbuf H) (ds : List (Dbuf H)) → is_distinct dbuf_oid (x ∷ ds) ≡ true → DbufHas P (dbuf_at m.at ds) → DbufHas P (dbuf_at m.at (x ∷ ds))
  found-behind m P x ds once has = elim (bool_cases (oid_eq m.at x.at)) [
    | inl here ↦
        let there : has_item dbuf_oid m.at ds ≡ true = has-found P m.at ds has in
        let same : m.at ≡ x.at = same_oid m.at x.at here in
        let gone = (and-parts (not (has_item dbuf_oid x.at ds)) _ once).0 in
        absurd (false≢true (ap not (sym (ap (λ (a : Oid). has_item dbuf_oid a ds) (sym same) ∙ there)) ∙ gone))
    | inr far ↦ rw far has
  ]
    where
      same_oid : (a b : Oid) → oid_eq a b ≡ true → a ≡ b
      same_oid a b e = grind (arith, nat_tests)

  abbrev IsReadFor : ℕ → Mapping → Dbuf H → Type 0
  IsReadFor n m d = (d.content ≡ Clean m.ptr) × (d.state ≡ state.Read n)

  -- where the claims begin with a dbuf's own, that is the claim, or the claim stands behind it
  claim-first : (n : ℕ) (m : Mapping) (x : Dbuf H) (ds : List (Dbuf H)) (front back : List Mapping) (ptr : Ptr) → is_distinct dbuf_oid (x ∷ ds) ≡ true
      → x.content ≡ Clean ptr → x.state ≡ state.Read n → record { at = x.at; ptr = ptr } ∷ claims_in n ds ≡ front ++ m ∷ back
      → ((fs : List Mapping) → claims_in n ds ≡ fs ++ m ∷ back → DbufHas (IsReadFor n m) (dbuf_at m.at ds)) → DbufHas (IsReadFor n m) (dbuf_at m.at (x ∷ ds))
  claim-first n m x ds [] back ptr once clean reads is later =
      let same : record { at = x.at; ptr = ptr } ≡ m = cc in
      subst (λ (y : Mapping). DbufHas (IsReadFor n y) (dbuf_at y.at (x ∷ ds))) same (rw (same_oid x.at) (clean, reads))
    where
      same_oid : (a : Oid) → oid_eq a a ≡ true
      same_oid a = grind (arith, nat_tests)
  claim-first n m x ds (f ∷ fs) back ptr once clean reads is later =
      let rest : claims_in n ds ≡ fs ++ m ∷ back = cc in
      found-behind m (IsReadFor n m) x ds once (later fs rest)

  pub claimed-is-read : ClaimedIsRead H
  claimed-is-read n m [] [] back once is = let clash : ◌≡◌ {A = List Mapping} [] (m ∷ back) = is in absurd (cc)
  claimed-is-read n m [] (f ∷ front) back once is = let clash : ◌≡◌ {A = List Mapping} [] (f ∷ (front ++ m ∷ back)) = is in absurd (cc)
  claimed-is-read n m (x ∷ ds) front back once is =
      let rest = (and-parts (not (has_item dbuf_oid x.at ds)) _ once).1 in
      elim (own-claim n x) [
        | inl none ↦ found-behind m (IsReadFor n m) x ds once (claimed-is-read n m ds front back rest (ap (λ (ms : List Mapping). ms ++ claims_in n ds) (sym none) ∙ is))
        | inr one ↦ claim-first n m x ds front back one.0 once one.2 one.3 (ap (λ (ms : List Mapping). ms ++ claims_in n ds) (sym one.1) ∙ is) (λ fs more. claimed-is-read n m ds fs back rest more)
      ]

  -- ---- rest

  pub rest-stays : RestStays H
  rest-stays at f [] rests all = refl
  rest-stays at f (x ∷ ds) rests all =
      let parts = and-parts (not (is_passing x.state)) (are_at_rest ds) all in
      elim (bool_cases (oid_eq at x.at)) [
        | inl here ↦ rw here (and-both _ _ (ap not (rests x (rw here refl))) parts.1)
        | inr far ↦ rw far (and-both _ _ parts.0 (rest-stays at f ds (λ d found. rests d (rw far found)) parts.1))
      ]

  pub rest-stays-by-note : RestStaysByNote H
  rest-stays-by-note tick None ds = refl
  rest-stays-by-note tick (Some at) [] = refl
  rest-stays-by-note tick (Some at) (x ∷ ds) = elim (bool_cases (oid_eq at x.at)) [
    | inl here ↦ rw here refl
    | inr far ↦ rw far (ap (λ (b : Bool). not (is_passing x.state) && b) (rest-stays-by-note tick (Some at) ds))
  ]

  pub rest-stays-by-new : RestStaysByNew H
  rest-stays-by-new [] d rests all = and-both _ _ (ap not rests) refl
  rest-stays-by-new (x ∷ ds) d rests all =
      let parts = and-parts (not (is_passing x.state)) (are_at_rest ds) all in
      and-both _ _ parts.0 (rest-stays-by-new ds d rests parts.1)

  pub rest-lasts : RestLasts H
  rest-lasts [] all = refl
  rest-lasts (x ∷ ds) all =
      let parts = and-parts (not (is_passing x.state)) (are_at_rest ds) all in
      and-both _ _ (or-right (is_clean x.content) _ parts.0) (rest-lasts ds parts.1)

  pub rest-lasts-by-unkeep : RestLastsByUnkeep H
  rest-lasts-by-unkeep at s [] cached all = refl
  rest-lasts-by-unkeep at s (x ∷ ds) cached all =
      let parts = and-parts (is_clean x.content || not (is_passing x.state)) (are_clean_or_rest ds) all in
      elim (bool_cases (oid_eq at x.at)) [
        | inl here ↦
            let clean : is_clean_in is_cached x ≡ true = rw here at cached in
            rw here (and-both _ _ (or-left (is_clean x.content) _ (and-parts (is_clean x.content) _ clean).0) parts.1)
        | inr far ↦ rw far (and-both _ _ parts.0 (rest-lasts-by-unkeep at s ds (rw far at cached) parts.1))
      ]

  pub end-rests : EndRests H
  end-rests [] all = refl
  end-rests (x ∷ ds) all =
      let parts = and-parts (is_clean x.content || not (is_passing x.state)) (are_clean_or_rest ds) all in
      and-both _ _ (end-rest x.content x.state parts.0) (end-rests ds parts.1)

  -- ---- the holds

  module _ (key_of : H → Key) (bytes_of : H → List ℕ) (is_held : H → Bool) where
    abbrev hold : Dbuf H → List Ptr
    hold d = hold_in key_of bytes_of is_held d.kept

    abbrev holds : List (Dbuf H) → List Ptr
    holds ds = holds_in key_of bytes_of is_held ds

    on-append : (k : Key) (xs ys : List Ptr) → holds_on k (xs ++ ys) ≡ holds_on k xs + holds_on k ys
    on-append k xs ys = sum_by-append (λ (hold : Ptr). cond {A = ℕ} (key_eq k hold.key) 1 0) xs ys

    pub holds-change : HoldsChange key_of bytes_of is_held
    holds-change at f [] d k found = absurd (let clash : ◌≡◌ {A = Option (Dbuf H)} None (Some d) = found in cc)
    holds-change at f (x ∷ ds) d k found = elim (bool_cases (oid_eq at x.at)) [
      | inl here ↦
          let same = found-same at x d ds here found in
          subst (λ (y : Dbuf H). kept_on key_of bytes_of is_held k (with_dbuf at f (x ∷ ds)) + kept_by key_of bytes_of is_held k y.kept ≡ kept_on key_of bytes_of is_held k (x ∷ ds) + kept_by key_of bytes_of is_held k (f y).kept) same
          (rw here (let a = on-append k (hold (f x)) (holds ds) in let b = on-append k (hold x) (holds ds) in omega arith))
      | inr far ↦
          let rest = holds-change at f ds d k (rw far at found) in
          rw far (let a = on-append k (hold x) (holds (with_dbuf at f ds)) in let b = on-append k (hold x) (holds ds) in omega arith)
    ]

    pub holds-stay : HoldsStay key_of bytes_of is_held
    holds-stay at f [] same = refl
    holds-stay at f (x ∷ ds) same = elim (bool_cases (oid_eq at x.at)) [
      | inl here ↦ rw here (ap (λ (o : Option H). hold_in key_of bytes_of is_held o ++ holds ds) (same x))
      | inr far ↦ rw far (ap (λ (hs : List Ptr). hold x ++ hs) (holds-stay at f ds same))
    ]

    pub holds-stay-by-note : HoldsStayByNote key_of bytes_of is_held
    holds-stay-by-note tick None ds = refl
    holds-stay-by-note tick (Some at) ds = holds-stay at (used_at tick) ds (λ d. refl)

    pub holds-stay-by-end : HoldsStayByEnd key_of bytes_of is_held
    holds-stay-by-end [] = refl
    holds-stay-by-end (x ∷ ds) = ap (λ (hs : List Ptr). hold x ++ hs) (holds-stay-by-end ds)

    pub holds-stay-by-new : HoldsStayByNew key_of bytes_of is_held
    holds-stay-by-new [] d none = ap (λ (o : Option H). hold_in key_of bytes_of is_held o ++ []) none
    holds-stay-by-new (x ∷ ds) d none = ap (λ (hs : List Ptr). hold x ++ hs) (holds-stay-by-new ds d none)

    -- ---- behind an end nothing is kept

    pub fit-keeps : FitKeeps key_of bytes_of
    fit-keeps [] all = tt
    fit-keeps (x ∷ ds) all = (one x.content x.state x.kept all.0, fit-keeps ds all.1)
      where
        some : (b : Bool) → b ≡ true → true ≡ b
        some b h = sym h

        none : (b : Bool) → not b ≡ true → false ≡ b
        none true h = h
        none false h = refl

        both : (a b : Bool) → (a && b) ≡ true → b ≡ true
        both true b h = h
        both false b h = absurd (false≢true h)

        one : (content : Content) (s : DbState) (kept : Option H) → Fits key_of bytes_of content s kept → is_some kept ≡ (is_clean content && is_cached s)
        one (Clean ptr) s None fits = none (is_cached s) fits
        one (Clean ptr) s (Some h) fits = some (is_cached s) fits.0
        one (Dirty bytes) s None fits = refl
        one (Dirty bytes) s (Some h) fits = absurd (false≢true (both (is_cached s) false fits.0))

    -- no block of a plain cell is cached
    abbrev AreUncached : List PlainDbuf → Type 0
    AreUncached ps = AllByRecursion (λ p. plain.is_cached p.block ≡ false) ps

    ended-uncached : (ps : List PlainDbuf) → AreUncached (map plain.ended ps)
    ended-uncached [] = tt
    ended-uncached (p ∷ ps) = (one p.block, ended-uncached ps)
      where
        one : (b : Block) → plain.is_cached (plain.evicted b) ≡ false
        one (plain.Uncached ptr) = refl
        one (plain.Cached ptr) = refl
        one (plain.Dirty bytes) = refl

    leads-ended : (c : PlainCell) (front : List CellEvent) (n : ℕ) (bases : List (List ℕ)) (end : PlainCell) → Leads c (front ++ End n ∷ []) bases end → AreUncached end.dbufs
    leads-ended c [] n bases end leads = subst (λ (m : PlainCell). AreUncached m.dbufs) (sym leads.1.4.1) (ended-uncached c.dbufs)
    leads-ended c (e ∷ front) n bases end leads = leads-ended (plain.after leads.1.0 c e) front n leads.1.1 end leads.1.4

    none-held : (ds : List (Dbuf H)) → AllByRecursion KeepsWhereCached ds → AreUncached (map plain_dbuf ds) → holds ds ≡ []
    none-held [] fit uncached = refl
    none-held (x ∷ ds) fit uncached =
        ap (λ (o : Option H). hold_in key_of bytes_of is_held o ++ holds ds) (is-none x.kept (fit.0 ∙ (sym (kept-cached x.content x.state) ∙ uncached.0)))
        ∙ none-held ds fit.1 uncached.1
      where
        is-none : (o : Option H) → is_some o ≡ false → o ≡ None
        is-none None h = refl
        is-none (Some h) some = absurd (false≢true (sym some))

    pub ended-keeps-nothing : EndedKeepsNothing key_of bytes_of is_held
    ended-keeps-nothing c front n sound last =
        let end : PlainCell = plain_cell sound.evicting c in
        none-held c.dbufs sound.fit (leads-ended (plain.opening_cell c.limit c.opening) front n sound.bases end
        (subst (λ (es : List CellEvent). Leads (plain.opening_cell c.limit c.opening) es sound.bases end) last sound.history.legal))
