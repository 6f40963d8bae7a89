-- What a slot that comes or goes does to the chains of a table.
use Rattle.std.proofs.Common.{◌≡◌, ◌≢◌, ℕ, ◌+◌, ◌<◌, ◌≤◌, nat_eq, if◌then◌else◌, List, [], ◌∷◌, length, get_or, set, Some, None, option_map, inl, inr, refl, sym, ap, subst, ◌∙◌, arith, get_or-set_same, get_or-set_other}
use Rattle.std.proofs.lemmas.Bool.{cases_eq, cases_lt, eq-eqb}
use Rattle.std.proofs.lemmas.List.{length-set}
use Rattle.slab.specs.Slab.{Slab, Updates, get}
use Rattle.key_table.specs.declared.chain.Slot.{Slot}
use Rattle.key_table.specs.Chains.{AreOnce, HaveSameRows, IsChain, Stands, chain_of, leading, no_place, row_of}
use Rattle.key_table.specs.Indexes.{AreSingle, IsHome, IsIndexed}
use Rattle.key_table.specs.PlainTable.{Row}
use Rattle.key_table.proofs.Chained.{chain-frame}
use Rattle.key_table.proofs.Places.{AreOnce-without, Stands-without, Stands-without_other, Stands-without_same, ne_test, some_is, some_not_none, some_or_none, without}

-- one chain is another, and the rest are as before
abbrev pub with_chain : ℕ → List ℕ → (ℕ → List ℕ) → ℕ → List ℕ
with_chain b ps chains c = if nat_eq c b then ps else chains c

with_chain-same : (b : ℕ) (ps : List ℕ) (chains : ℕ → List ℕ) → with_chain b ps chains b ≡ ps
with_chain-same b ps chains = rw (eq-eqb b b refl) refl

with_chain-other : (b c : ℕ) (ps : List ℕ) (chains : ℕ → List ℕ) → c ≢ b → with_chain b ps chains c ≡ chains c
with_chain-other b c ps chains differ = rw (ne_test c b differ) refl

module _ {K V : Type 0} (hash : K → ℕ) where
  -- a slot that comes to the head of its key's chain
  pub link-kept : (s t : Slab (Slot K V)) (heads heads' : List ℕ) (n bound bound' p : ℕ) (new : Slot K V) (was : IsIndexed hash s heads n bound)
      → chain_of (hash new.key) n < n → p < no_place → p < bound'
      → ((c : ℕ) → c < n → Stands p (was.chains c) → ⊥)
      → ((q : ℕ) → q ≢ p → get t q ≡ get s q) → get t p ≡ Some new → new.next ≡ get_or heads (chain_of (hash new.key) n) no_place
      → length heads' ≡ n → get_or heads' (chain_of (hash new.key) n) no_place ≡ p → ((c : ℕ) → c ≢ chain_of (hash new.key) n → get_or heads' c no_place ≡ get_or heads c no_place)
      → ((q : ℕ) → q < bound → q < bound') → ((q : ℕ) → q < bound' → q ≢ p → q < bound)
      → IsIndexed hash t heads' n bound'
  link-kept s t heads heads' n bound bound' p new was within place below off others read next count head rest up down =
      let b = chain_of (hash new.key) n in
      let longer = with_chain b (p ∷ was.chains b) was.chains in
      let frame : (c : ℕ) → c < n → (q : ℕ) → Stands q (was.chains c) → get t q ≡ get s q = λ c lt q there.
      others q (λ e. off c lt (subst (λ z. Stands z (was.chains c)) e there)) in
      let kept : (c q : ℕ) → c < n → Stands q (was.chains c) → IsHome hash t n bound' c q = λ c q lt there.
      let h = was.homes c q lt there in
      record { slot = h.slot; read = frame c lt q there ∙ h.read; home = h.home; below = up q h.below } in
      record {
        count = count;
        chains = longer;
        linked = λ c lt. elim (cases_eq c b) [
          | inl same ↦
              let chain : IsChain t p (p ∷ was.chains b) =
              (refl, place, new, read, subst (λ z. IsChain t z (was.chains b)) (sym next) (chain-frame s t (get_or heads b no_place) (was.chains b) (frame b within) (was.linked b within))) in
              subst (λ z. IsChain t (get_or heads' z no_place) (longer z)) (sym same)
              (subst (λ z. IsChain t z (longer b)) (sym head) (subst (λ z. IsChain t p z) (sym (with_chain-same b (p ∷ was.chains b) was.chains)) chain))
          | inr differ ↦
              subst (λ z. IsChain t (get_or heads' c no_place) z) (sym (with_chain-other b c (p ∷ was.chains b) was.chains differ))
              (subst (λ z. IsChain t z (was.chains c)) (sym (rest c differ)) (chain-frame s t (get_or heads c no_place) (was.chains c) (frame c lt) (was.linked c lt)))
        ];
        once = λ c lt. elim (cases_eq c b) [
          | inl same ↦ subst (λ z. AreOnce (longer z)) (sym same) (subst AreOnce (sym (with_chain-same b (p ∷ was.chains b) was.chains)) (off b within, was.once b within))
          | inr differ ↦ subst AreOnce (sym (with_chain-other b c (p ∷ was.chains b) was.chains differ)) (was.once c lt)
        ];
        homes = λ c q lt there. elim (cases_eq c b) [
          | inl same ↦ subst (λ z. IsHome hash t n bound' z q) (sym same)
              (first q (kept b q within) (subst (Stands q) (ap longer same ∙ with_chain-same b (p ∷ was.chains b) was.chains) there))
          | inr differ ↦ kept c q lt (subst (Stands q) (with_chain-other b c (p ∷ was.chains b) was.chains differ) there)
        ];
        listed = λ q slot lt found. elim (cases_eq q p) [
          | inl same ↦
              let is : new ≡ slot = some_is (sym read ∙ ap (get t) (sym same) ∙ found) in
              subst (λ z. (chain_of (hash z.key) n < n) × Stands q (longer (chain_of (hash z.key) n))) is
              (within, subst (Stands q) (sym (with_chain-same b (p ∷ was.chains b) was.chains)) (inl (sym same)))
          | inr differ ↦
              let before = was.listed q slot (down q lt differ) (sym (others q differ) ∙ found) in
              (before.0, deeper (chain_of (hash slot.key) n) q before.1)
        ];
      }
    where
      first : (q : ℕ) → (Stands q (was.chains (chain_of (hash new.key) n)) → IsHome hash t n bound' (chain_of (hash new.key) n) q) → Stands q (p ∷ was.chains (chain_of (hash new.key) n))
          → IsHome hash t n bound' (chain_of (hash new.key) n) q
      first q old (inl e) = record { slot = new; read = ap (get t) (sym e) ∙ read; home = refl; below = subst (λ z. z < bound') e below }
      first q old (inr there) = old there

      deeper : (c q : ℕ) → Stands q (was.chains c) → Stands q (with_chain (chain_of (hash new.key) n) (p ∷ was.chains (chain_of (hash new.key) n)) was.chains c)
      deeper c q there = elim (cases_eq c (chain_of (hash new.key) n)) [
        | inl same ↦ subst (Stands q) (sym (ap (with_chain (chain_of (hash new.key) n) (p ∷ was.chains (chain_of (hash new.key) n)) was.chains) same ∙ with_chain-same (chain_of (hash new.key) n) (p ∷ was.chains (chain_of (hash new.key) n)) was.chains))
            (inr (subst (λ z. Stands q (was.chains z)) same there))
        | inr differ ↦ subst (Stands q) (sym (with_chain-other (chain_of (hash new.key) n) c (p ∷ was.chains (chain_of (hash new.key) n)) was.chains differ)) there
      ]

  -- ---- a slot that goes

  -- every other slot has its row still
  abbrev pub KeepsRows : Slab (Slot K V) → Slab (Slot K V) → ℕ → Type 0
  KeepsRows s t at = (q : ℕ) → q ≢ at → option_map row_of (get t q) ≡ option_map row_of (get s q)

  pub same_row : (s t : Slab (Slot K V)) (q : ℕ) (a : Slot K V) → option_map row_of (get t q) ≡ option_map row_of (get s q) → get s q ≡ Some a
      → (b : Slot K V) × (get t q ≡ Some b) × (row_of b ≡ row_of a)
  same_row s t q a same read = elim (some_or_none (get t q)) [
    | inl there ↦ (there.0, there.1, some_is (sym (ap (option_map row_of) there.1) ∙ same ∙ ap (option_map row_of) read))
    | inr none ↦ absurd (some_not_none (sym (ap (option_map row_of) read) ∙ sym same ∙ ap (option_map row_of) none))
  ]

  -- the chains without a slot, where its own is linked anew
  pub unlink-kept : (s t : Slab (Slot K V)) (heads heads' : List ℕ) (n at : ℕ) (gone : Slot K V) (was : IsIndexed hash s heads n no_place)
      → get s at ≡ Some gone → get t at ≡ None → KeepsRows s t at → length heads' ≡ n
      → ((c : ℕ) → c ≢ chain_of (hash gone.key) n → get_or heads' c no_place ≡ get_or heads c no_place)
      → ((c : ℕ) → c < n → c ≢ chain_of (hash gone.key) n → (q : ℕ) → Stands q (was.chains c) → get t q ≡ get s q)
      → IsChain t (get_or heads' (chain_of (hash gone.key) n) no_place) (without at (was.chains (chain_of (hash gone.key) n)))
      → IsIndexed hash t heads' n no_place
  unlink-kept s t heads heads' n at gone was read out rows count rest frame chain =
      let b = chain_of (hash gone.key) n in
      let shorter = with_chain b (without at (was.chains b)) was.chains in
      let kept : (c q : ℕ) → c < n → q ≢ at → Stands q (was.chains c) → IsHome hash t n no_place c q = λ c q lt differ there.
      let h = was.homes c q lt there in
      let now = same_row s t q h.slot (rows q differ) h.read in
      record { slot = now.0; read = now.1; home = ap (λ (r : Row K V). chain_of (hash r.key) n) now.2 ∙ h.home; below = h.below } in
      let elsewhere : (c : ℕ) → c < n → c ≢ b → (q : ℕ) → Stands q (was.chains c) → q ≢ at = λ c lt differ q there same.
      let h = was.homes c q lt there in
      let is : h.slot ≡ gone = some_is (sym h.read ∙ ap (get s) same ∙ read) in
      differ (sym h.home ∙ ap (λ (z : Slot K V). chain_of (hash z.key) n) is) in
      record {
        count = count;
        chains = shorter;
        linked = λ c lt. elim (cases_eq c b) [
          | inl same ↦ subst (λ z. IsChain t (get_or heads' z no_place) (shorter z)) (sym same)
              (subst (λ z. IsChain t (get_or heads' b no_place) z) (sym (with_chain-same b (without at (was.chains b)) was.chains)) chain)
          | inr differ ↦
              subst (λ z. IsChain t (get_or heads' c no_place) z) (sym (with_chain-other b c (without at (was.chains b)) was.chains differ))
              (subst (λ z. IsChain t z (was.chains c)) (sym (rest c differ)) (chain-frame s t (get_or heads c no_place) (was.chains c) (frame c lt differ) (was.linked c lt)))
        ];
        once = λ c lt. elim (cases_eq c b) [
          | inl same ↦ subst (λ z. AreOnce (shorter z)) (sym same)
              (subst AreOnce (sym (with_chain-same b (without at (was.chains b)) was.chains)) (AreOnce-without at (was.chains b) (was.once b (subst (λ z. z < n) same lt))))
          | inr differ ↦ subst AreOnce (sym (with_chain-other b c (without at (was.chains b)) was.chains differ)) (was.once c lt)
        ];
        homes = λ c q lt there. elim (cases_eq c b) [
          | inl same ↦
              let lt' : b < n = subst (λ z. z < n) same lt in
              let left : Stands q (without at (was.chains b)) = subst (Stands q) (ap shorter same ∙ with_chain-same b (without at (was.chains b)) was.chains) there in
              let differ : q ≢ at = λ e. Stands-without_same at (was.chains b) (was.once b lt') (subst (λ z. Stands z (without at (was.chains b))) e left) in
              subst (λ z. IsHome hash t n no_place z q) (sym same) (kept b q lt' differ (Stands-without q at (was.chains b) left))
          | inr differ ↦
              let before : Stands q (was.chains c) = subst (Stands q) (with_chain-other b c (without at (was.chains b)) was.chains differ) there in
              kept c q lt (elsewhere c lt differ q before) before
        ];
        listed = λ q slot lt found.
            let differ : q ≢ at = λ same. some_not_none (sym found ∙ ap (get t) same ∙ out) in
            let prior = same_row t s q slot (sym (rows q differ)) found in
            let before = was.listed q prior.0 lt prior.1 in
            let key : prior.0.key ≡ slot.key = ap (λ (r : Row K V). r.key) prior.2 in
            subst (λ k. (chain_of (hash k) n < n) × Stands q (shorter (chain_of (hash k) n))) key
            (before.0, still (chain_of (hash prior.0.key) n) q differ before.1);
      }
    where
      still : (c q : ℕ) → q ≢ at → Stands q (was.chains c) → Stands q (with_chain (chain_of (hash gone.key) n) (without at (was.chains (chain_of (hash gone.key) n))) was.chains c)
      still c q other there = elim (cases_eq c (chain_of (hash gone.key) n)) [
        | inl same ↦ subst (Stands q) (sym (ap (with_chain (chain_of (hash gone.key) n) (without at (was.chains (chain_of (hash gone.key) n))) was.chains) same ∙ with_chain-same (chain_of (hash gone.key) n) (without at (was.chains (chain_of (hash gone.key) n))) was.chains))
            (Stands-without_other q at (was.chains (chain_of (hash gone.key) n)) other (subst (λ z. Stands q (was.chains z)) same there))
        | inr differ ↦ subst (Stands q) (sym (with_chain-other (chain_of (hash gone.key) n) c (without at (was.chains (chain_of (hash gone.key) n))) was.chains differ)) there
      ]

  -- slots that keep their rows, but one that goes, are of one key each
  pub single-kept : (s t : Slab (Slot K V)) (at : ℕ) → AreSingle s → get t at ≡ None → KeepsRows s t at → AreSingle t
  single-kept s t at single out rows p q a b x y e =
      let pa : p ≢ at = λ same. some_not_none (sym x ∙ ap (get t) same ∙ out) in
      let qa : q ≢ at = λ same. some_not_none (sym y ∙ ap (get t) same ∙ out) in
      let a' = same_row t s p a (sym (rows p pa)) x in
      let b' = same_row t s q b (sym (rows q qa)) y in
      single p q a'.0 b'.0 a'.1 b'.1 (ap (λ (r : Row K V). r.key) a'.2 ∙ e ∙ sym (ap (λ (r : Row K V). r.key) b'.2))

  -- ---- slots chained anew

  -- places without a slot need no chain
  pub raised : (s : Slab (Slot K V)) (heads : List ℕ) (n bound bound' : ℕ) → IsIndexed hash s heads n bound → bound ≤ bound'
      → ((q : ℕ) → q < bound' → bound ≤ q → get s q ≡ None) → IsIndexed hash s heads n bound'
  raised s heads n bound bound' was more none = record {
    count = was.count;
    chains = was.chains;
    linked = was.linked;
    once = was.once;
    homes = λ b p lt there.
        let h = was.homes b p lt there in
        record { slot = h.slot; read = h.read; home = h.home; below = omega (arith, h.below, more) };
    listed = λ p slot lt read. elim (cases_lt p bound) [
      | inl below ↦ was.listed p slot below read
      | inr past ↦ absurd (some_not_none (sym read ∙ none p lt past))
    ];
  }

  -- nothing is chained yet
  pub nowhere-indexed : (s : Slab (Slot K V)) (heads : List ℕ) → ((b : ℕ) → get_or heads b no_place ≡ no_place) → IsIndexed hash s heads (length heads) 0
  nowhere-indexed s heads nowhere = record {
    count = refl;
    chains = λ b. [];
    linked = λ b lt. nowhere b;
    once = λ b lt. tt;
    homes = λ b p lt there. absurd there;
    listed = λ p slot lt read. absurd (omega (arith, lt));
  }

  -- one more slot, at the bound
  pub chained : (s t : Slab (Slot K V)) (heads : List ℕ) (at b : ℕ) (slot : Slot K V) → IsIndexed hash s heads (length heads) at → at < no_place → get s at ≡ Some slot
      → b ≡ chain_of (hash slot.key) (length heads) → b < length heads
      → ((q : ℕ) → get t q ≡ (if nat_eq q at then option_map (leading (get_or heads b no_place)) (get s q) else get s q))
      → IsIndexed hash t (set heads b at) (length (set heads b at)) (at + 1)
  chained s t heads at b slot was place read is within turned =
      let n = length heads in
      let home = chain_of (hash slot.key) n in
      let new = leading (get_or heads b no_place) slot in
      let others : (q : ℕ) → q ≢ at → get t q ≡ get s q = λ q differ. rw (ne_test q at differ) at (turned q) in
      let found : get t at ≡ Some new =
      let now : get t at ≡ option_map (leading (get_or heads b no_place)) (get s at) = rw (eq-eqb at at refl) at (turned at) in
      now ∙ ap (option_map (leading (get_or heads b no_place))) read in
      let made : IsIndexed hash t (set heads b at) n (at + 1) =
      link-kept s t heads (set heads b at) n at (at + 1) at new was (subst (λ z. z < n) is within) place (omega arith)
      (λ c lt there. let h = was.homes c at lt there in omega (arith, h.below))
      others found (ap (λ z. get_or heads z no_place) is)
      (length-set heads b at) (subst (λ z. get_or (set heads b at) z no_place ≡ at) is (get_or-set_same heads b at no_place within))
      (λ c differ. get_or-set_other heads b c at no_place (λ e. differ (e ∙ is)))
      (λ q below. omega (arith, below)) (λ q below differ. omega (arith, below, differ)) in
      subst (λ z. IsIndexed hash t (set heads b at) z (at + 1)) (sym made.count) made

  -- slots that keep their rows are of one key each
  pub single-alike : (s t : Slab (Slot K V)) → AreSingle s → HaveSameRows s t → AreSingle t
  single-alike s t single same p q a b x y e =
      let a' = same_row t s p a (sym (same p)) x in
      let b' = same_row t s q b (sym (same q)) y in
      single p q a'.0 b'.0 a'.1 b'.1 (ap (λ (r : Row K V). r.key) a'.2 ∙ e ∙ sym (ap (λ (r : Row K V). r.key) b'.2))

  -- ---- slots with other values

  -- each slot stays, with its key and its link
  pub record Linked (t : Slab (Slot K V)) (q : ℕ) (a : Slot K V) : Type 0 where
    pub slot : Slot K V
    pub read : get t q ≡ Some slot
    pub key : slot.key ≡ a.key
    pub next : slot.next ≡ a.next

  abbrev pub KeepsLinks : Slab (Slot K V) → Slab (Slot K V) → Type 0
  KeepsLinks s t = (q : ℕ) (a : Slot K V) → get s q ≡ Some a → Linked t q a

  pub chain-alike : (s t : Slab (Slot K V)) (link : ℕ) (ps : List ℕ) → KeepsLinks s t → IsChain s link ps → IsChain t link ps
  chain-alike s t link [] alike chain = chain
  chain-alike s t link (p ∷ ps) alike chain =
      let now = alike p chain.2 chain.3 in
      (chain.0, chain.1, now.slot, now.read, subst (λ z. IsChain t z ps) (sym now.next) (chain-alike s t chain.2.next ps alike chain.4))

  pub indexed-alike : (s t : Slab (Slot K V)) (heads : List ℕ) (n bound : ℕ) → KeepsLinks s t → KeepsLinks t s → IsIndexed hash s heads n bound → IsIndexed hash t heads n bound
  indexed-alike s t heads n bound there back was = record {
    count = was.count;
    chains = was.chains;
    linked = λ b lt. chain-alike s t (get_or heads b no_place) (was.chains b) there (was.linked b lt);
    once = was.once;
    homes = λ b p lt stands.
        let h = was.homes b p lt stands in
        let now = there p h.slot h.read in
        record { slot = now.slot; read = now.read; home = ap (λ k. chain_of (hash k) n) now.key ∙ h.home; below = h.below };
    listed = λ p slot lt read.
        let before = back p slot read in
        subst (λ k. (chain_of (hash k) n < n) × Stands p (was.chains (chain_of (hash k) n))) before.key (was.listed p before.slot lt before.read);
  }

  pub single-linked : (s t : Slab (Slot K V)) → KeepsLinks t s → AreSingle s → AreSingle t
  single-linked s t back single p q a b x y e =
      let one = back p a x in
      let two = back q b y in
      single p q one.slot two.slot one.read two.read (one.key ∙ e ∙ sym two.key)

  -- a slab that could hold more
  pub links-room : (s : Slab (Slot K V)) (capacity : ℕ) → KeepsLinks s (record s { capacity = capacity })
  links-room s capacity q a read = record { slot = a; read = read; key = refl; next = refl }

  pub room-links : (s : Slab (Slot K V)) (capacity : ℕ) → KeepsLinks (record s { capacity = capacity }) s
  room-links s capacity q a read = record { slot = a; read = read; key = refl; next = refl }

  -- a slot with another value
  pub links-value : (s t : Slab (Slot K V)) (at : ℕ) (n m : Slot K V) → get s at ≡ Some n → m.key ≡ n.key → m.next ≡ n.next → Updates s t at (Some m) → KeepsLinks s t
  links-value s t at n m was key next updates q a read = elim (cases_eq q at) [
    | inl same ↦
        let is : n ≡ a = some_is (sym was ∙ ap (get s) (sym same) ∙ read) in
        record {
          slot = m;
          read = ap (get t) same ∙ updates.changed;
          key = key ∙ ap (λ (z : Slot K V). z.key) is;
          next = next ∙ ap (λ (z : Slot K V). z.next) is;
        }
    | inr differ ↦ record { slot = a; read = updates.others q differ ∙ read; key = refl; next = refl }
  ]

  pub value-links : (s t : Slab (Slot K V)) (at : ℕ) (n m : Slot K V) → get s at ≡ Some n → m.key ≡ n.key → m.next ≡ n.next → Updates s t at (Some m) → KeepsLinks t s
  value-links s t at n m was key next updates q a read = elim (cases_eq q at) [
    | inl same ↦
        let is : m ≡ a = some_is (sym updates.changed ∙ ap (get t) (sym same) ∙ read) in
        record {
          slot = n;
          read = ap (get s) same ∙ was;
          key = sym key ∙ ap (λ (z : Slot K V). z.key) is;
          next = sym next ∙ ap (λ (z : Slot K V). z.next) is;
        }
    | inr differ ↦ record { slot = a; read = sym (updates.others q differ) ∙ read; key = refl; next = refl }
  ]
