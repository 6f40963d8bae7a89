-- What the calls of a table use of what it keeps.
use Rattle.std.proofs.Common.{◌≡◌, ◌≢◌, ℕ, ◌+◌, ◌<◌, ◌≤◌, nat_eq, if◌then◌else◌, List, [], ◌∷◌, length, get_or, set, Option, Some, None, IfNone, IfSome, IsSome, is_some, option_map, inl, inr, refl, sym, ap, subst, ◌∙◌, arith, get_or-set_same, get_or-set_other}
use Rattle.std.proofs.lemmas.Bool.{cases_eq, cases_lt, eq-eqb, eqb-true, eqb-false}
use Rattle.std.proofs.lemmas.List.{get_or_default, get_or_past, length-set}
use Rattle.slab.specs.Slab.{Slab, Updates, get, slab_len, with_value}
use Rattle.slab.proofs.SlabLemmas.{Updates-with_value}
use Rattle.key_table.specs.declared.chain.Slot.{Slot}
use Rattle.key_table.specs.declared.table.Table.TheInside.{Inside}
use Rattle.key_table.specs.Chains.{AreOnce, IsChain, IsShort, IsSlotOf, Stands, chain_of, leading, no_place, place_in_front, row_of, rows_in}
use Rattle.key_table.specs.Indexed.{IsTable}
use Rattle.key_table.specs.Indexes.{AreSingle, IsIndexed}
use Rattle.key_table.specs.PlainTable.{HasKey, IsAmong, Row, row}
use Rattle.key_table.proofs.Chained.{chain-one, chain-short, chain-slot, unlinked, unlinked_first}
use Rattle.key_table.proofs.Places.{cases_true, in_front-apart, in_front-stands, ne_test, some_is, some_not_none, without}
use Rattle.key_table.proofs.Rows.{among-slot, count-set, slot-among}
use Rattle.key_table.proofs.Tabled.{KeepsRows, indexed-alike, link-kept, links-room, links-value, room-links, single-kept, single-linked, unlink-kept, value-links}

-- a slot that has one in front of it is not the first of its chain
pub record Behind (ps : List ℕ) (at before : ℕ) : Type 0 where
  pub first : ℕ
  pub rest : List ℕ
  pub is : ps ≡ first ∷ rest
  pub stands : Stands at rest
  pub front : place_in_front at first rest ≡ before

module _ {K V : Type 0} (hash : K → ℕ) where
  -- a slot stands at a place
  pub slot_place : (s : Slab (Slot K V)) (p : ℕ) (slot : Slot K V) → length s.slots ≤ no_place → get s p ≡ Some slot → p < no_place
  slot_place s p slot within read = elim (cases_lt p (length s.slots)) [
    | inl inside ↦ omega arith
    | inr past ↦ absurd (some_not_none (sym read ∙ get_or_past s.slots p None past))
  ]

  -- each chain is a short one
  pub short-of : (s : Slab (Slot K V)) (heads : List ℕ) (b link : ℕ) → IsIndexed hash s heads (length heads) no_place → b < length heads → get_or heads b no_place ≡ link → IsShort s link
  short-of s heads b link i lt is =
      let chain : IsChain s link (i.chains b) = subst (λ z. IsChain s z (i.chains b)) is (i.linked b lt) in
      (i.chains b, chain, chain-short s link (i.chains b) chain (i.once b lt))

  pub short : (t : Inside K V) (b link : ℕ) → IsTable hash t → b < length t.heads.items → get_or t.heads.items b no_place ≡ link → IsShort t.slots link
  short t b link kept = short-of t.slots t.heads.items b link kept.indexed

  -- a key's slot stands on its chain
  pub slot-listed : (s : Slab (Slot K V)) (heads : List ℕ) (key : K) (p : ℕ) → (i : IsIndexed hash s heads (length heads) no_place) → length s.slots ≤ no_place → IsSlotOf key p s
      → (chain_of (hash key) (length heads) < length heads) × Stands p (i.chains (chain_of (hash key) (length heads)))
  slot-listed s heads key p i within has =
      let n = length heads in
      let at = i.listed p has.0 (slot_place s p has.0 within has.1) has.1 in
      subst (λ k. (chain_of (hash k) n < n) × Stands p (i.chains (chain_of (hash k) n))) has.2 at

  pub slot-stands : (t : Inside K V) (key : K) (p : ℕ) → (kept : IsTable hash t) → IsSlotOf key p t.slots
      → (chain_of (hash key) (length t.heads.items) < length t.heads.items) × Stands p (kept.indexed.chains (chain_of (hash key) (length t.heads.items)))
  slot-stands t key p kept = slot-listed t.slots t.heads.items key p kept.indexed kept.within

  -- where a key's chain has no slot of it, there is none
  pub no-slot : (s : Slab (Slot K V)) (heads : List ℕ) (key : K) (link : ℕ) → IsIndexed hash s heads (length heads) no_place → length s.slots ≤ no_place
      → get_or heads (chain_of (hash key) (length heads)) no_place ≡ link
      → ((ps : List ℕ) → IsChain s link ps → (p : ℕ) → Stands p ps → IsSlotOf key p s → ⊥) → (p : ℕ) → IsSlotOf key p s → ⊥
  no-slot s heads key link i within is none p has =
      let b = chain_of (hash key) (length heads) in
      let at = slot-listed s heads key p i within has in
      none (i.chains b) (subst (λ z. IsChain s z (i.chains b)) is (i.linked b at.0)) p at.1 has

  -- and without chains there is none
  pub no-slot-empty : (s : Slab (Slot K V)) (heads : List ℕ) (key : K) → IsIndexed hash s heads (length heads) no_place → length s.slots ≤ no_place → length heads ≡ 0
      → (p : ℕ) → IsSlotOf key p s → ⊥
  no-slot-empty s heads key i within empty p has = omega (arith, (slot-listed s heads key p i within has).0, empty)

  -- a key that has a row has a slot
  pub has-slot : (t : Inside K V) (key : K) → HasKey key (rows_in t.slots.slots) → (p : ℕ) × IsSlotOf key p t.slots
  has-slot t key has =
      let held = slot-among t.slots.slots (row key has.0) has.1 in
      (held.0, (held.1, held.2, ap (λ (r : Row K V). r.key) held.3))

  -- where no slot has a key, no row is the key's
  pub none-there : (t : Inside K V) (key : K) → ((p : ℕ) → IsSlotOf key p t.slots → ⊥) → HasKey key (rows_in t.slots.slots) → ⊥
  none-there t key none has =
      let slot = has-slot t key has in
      none slot.0 slot.1

  pub row_read : (t : Inside K V) (key : K) (p : ℕ) (slot : Slot K V) → IsSlotOf key p t.slots → get t.slots p ≡ Some slot → IsAmong (row key slot.value) (rows_in t.slots.slots)
  row_read t key p slot has read =
      let is : slot.key ≡ key = ap (λ (z : Slot K V). z.key) (some_is (sym read ∙ has.1)) ∙ has.2 in
      subst (λ k. IsAmong (row k slot.value) (rows_in t.slots.slots)) is (among-slot t.slots.slots p slot read)

  pub same_key : (t : Inside K V) (key : K) (p : ℕ) (slot : Slot K V) → IsSlotOf key p t.slots → get t.slots p ≡ Some slot → slot.key ≡ key
  same_key t key p slot has read = ap (λ (z : Slot K V). z.key) (some_is (sym read ∙ has.1)) ∙ has.2

  -- ---- the empty table

  pub empty-indexed : (s : Slab (Slot K V)) (heads : List ℕ) → s.slots ≡ [] → heads ≡ [] → IsIndexed hash s heads (length heads) no_place
  empty-indexed s heads none nothing =
      record {
        count = refl;
        chains = λ b. [];
        linked = λ b lt. absurd (omega (arith, lt, ap length nothing));
        once = λ b lt. tt;
        homes = λ b p lt there. absurd there;
        listed = λ p slot lt read. absurd (some_not_none (sym read ∙ ap (λ xs. get_or xs p None) none));
      }

  pub empty-single : (s : Slab (Slot K V)) → s.slots ≡ [] → AreSingle s
  empty-single s none p q a b x y e = absurd (some_not_none (sym x ∙ ap (λ xs. get_or xs p None) none))

  -- ---- a row that comes

  pub lengthened : (t : Inside K V) (u : Slab (Slot K V)) (p link : ℕ) (new : Slot K V) → IsTable hash t
      → chain_of (hash new.key) (length t.heads.items) < length t.heads.items → p < no_place → get t.slots p ≡ None → Updates t.slots u p (Some new)
      → get_or t.heads.items (chain_of (hash new.key) (length t.heads.items)) no_place ≡ new.next
      → IsIndexed hash u (set t.heads.items (chain_of (hash new.key) (length t.heads.items)) p) (length (set t.heads.items (chain_of (hash new.key) (length t.heads.items)) p)) no_place
  lengthened t u p link new kept lt place free updates next =
      let n = length t.heads.items in
      let b = chain_of (hash new.key) n in
      let heads = set t.heads.items b p in
      let off : (c : ℕ) → c < n → Stands p (kept.indexed.chains c) → ⊥ = λ c within there.
      let home = kept.indexed.homes c p within there in
      some_not_none (sym home.read ∙ free) in
      let made : IsIndexed hash u heads n no_place =
      link-kept hash t.slots u t.heads.items heads n no_place no_place p new kept.indexed lt place place off updates.others updates.changed (sym next)
      (length-set t.heads.items b p) (get_or-set_same t.heads.items b p no_place lt) (λ c differ. get_or-set_other t.heads.items b c p no_place differ)
      (λ q below. below) (λ q below differ. below) in
      subst (λ z. IsIndexed hash u heads z no_place) (sym made.count) made

  pub single-more : (s t : Slab (Slot K V)) (p : ℕ) (new : Slot K V) → AreSingle s → get s p ≡ None → Updates s t p (Some new) → (HasKey new.key (rows_in s.slots) → ⊥) → AreSingle t
  single-more s t p new single free updates absent q r a b x y e = elim (cases_eq q p) [
    | inl one ↦ elim (cases_eq r p) [
      | inl two ↦ one ∙ sym two
      | inr other ↦
          let is : a ≡ new = some_is (sym x ∙ ap (get t) one ∙ updates.changed) in
          let before : get s r ≡ Some b = sym (updates.others r other) ∙ y in
          let key : b.key ≡ new.key = sym e ∙ ap (λ (z : Slot K V). z.key) is in
          absurd (absent (b.value, subst (λ k. IsAmong (row k b.value) (rows_in s.slots)) key (among-slot s.slots r b before)))
    ]
    | inr differ ↦
        let before : get s q ≡ Some a = sym (updates.others q differ) ∙ x in
        elim (cases_eq r p) [
          | inl two ↦
              let is : b ≡ new = some_is (sym y ∙ ap (get t) two ∙ updates.changed) in
              let key : a.key ≡ new.key = e ∙ ap (λ (z : Slot K V). z.key) is in
              absurd (absent (a.value, subst (λ k. IsAmong (row k a.value) (rows_in s.slots)) key (among-slot s.slots q a before)))
          | inr other ↦ single q r a b before (sym (updates.others r other) ∙ y) e
        ]
  ]

  -- ---- a row that goes

  elsewhere : (t : Inside K V) (key : K) (at : ℕ) (gone : Slot K V) (kept : IsTable hash t) → get t.slots at ≡ Some gone
      → (c : ℕ) → c < length t.heads.items → c ≢ chain_of (hash gone.key) (length t.heads.items) → (q : ℕ) → Stands q (kept.indexed.chains c) → q ≡ at → ⊥
  elsewhere t key at gone kept read c lt differ q there same =
      let h = kept.indexed.homes c q lt there in
      let is : h.slot ≡ gone = some_is (sym h.read ∙ ap (get t.slots) same ∙ read) in
      differ (sym h.home ∙ ap (λ (z : Slot K V). chain_of (hash z.key) (length t.heads.items)) is)

  pub behind : (s : Slab (Slot K V)) (link at before : ℕ) (ps : List ℕ) → IsChain s link ps → Stands at ps → place_in_front at no_place ps ≡ before → before ≢ no_place → Behind ps at before
  behind s link at before [] chain there front some = absurd there
  behind s link at before (p ∷ qs) chain there front some = elim (cases_true (nat_eq p at)) [
    | inl same ↦
        let passed : place_in_front at no_place (p ∷ qs) ≡ no_place = rw same refl in
        absurd (some (sym front ∙ passed))
    | inr differs ↦
        let passed : place_in_front at no_place (p ∷ qs) ≡ place_in_front at p qs = rw differs refl in
        record { first = p; rest = qs; is = refl; stands = later (eqb-false _ _ differs) there; front = sym passed ∙ front }
  ]
    where
      later : p ≢ at → Stands at (p ∷ qs) → Stands at qs
      later differ (inl e) = absurd (differ e)
      later differ (inr rest) = rest

  -- the chains after the slot at a place is gone, and the head of its chain, or the slot in front, leads on
  pub shortened_first : (t : Inside K V) (u : Slab (Slot K V)) (key : K) (at : ℕ) (gone : Slot K V) (kept : IsTable hash t) → get t.slots at ≡ Some gone → gone.key ≡ key
      → Updates t.slots u at None
      → place_in_front at no_place (kept.indexed.chains (chain_of (hash key) (length t.heads.items))) ≡ no_place
      → IsIndexed hash u (set t.heads.items (chain_of (hash key) (length t.heads.items)) gone.next) (length (set t.heads.items (chain_of (hash key) (length t.heads.items)) gone.next)) no_place
  shortened_first t u key at gone kept read key_is updates first =
      let n = length t.heads.items in
      let b = chain_of (hash key) n in
      let heads = set t.heads.items b gone.next in
      let on = slot-stands t key at kept (gone, read, key_is) in
      let b_is : chain_of (hash gone.key) n ≡ b = ap (λ k. chain_of (hash k) n) key_is in
      let chain : IsChain u (get_or heads b no_place) (without at (kept.indexed.chains b)) =
      subst (λ z. IsChain u z (without at (kept.indexed.chains b))) (sym (get_or-set_same t.heads.items b gone.next no_place on.0))
      (go (kept.indexed.chains b) (kept.indexed.once b on.0) (get_or t.heads.items b no_place) (kept.indexed.linked b on.0) on.1 first) in
      let made : IsIndexed hash u heads n no_place =
      unlink-kept hash t.slots u t.heads.items heads n at gone kept.indexed read updates.changed (λ q differ. ap (option_map row_of) (updates.others q differ))
      (length-set t.heads.items b gone.next) (λ c differ. get_or-set_other t.heads.items b c gone.next no_place (λ e. differ (e ∙ sym b_is)))
      (λ c lt differ q there. updates.others q (λ e. elsewhere t key at gone kept read c lt differ q there e))
      (subst (λ z. IsChain u (get_or heads z no_place) (without at (kept.indexed.chains z))) (sym b_is) chain) in
      subst (λ z. IsIndexed hash u heads z no_place) (sym made.count) made
    where
      later : (p : ℕ) (qs : List ℕ) → p ≢ at → Stands at (p ∷ qs) → Stands at qs
      later p qs differ (inl e) = absurd (differ e)
      later p qs differ (inr rest) = rest

      go : (ps : List ℕ) → AreOnce ps → (link : ℕ) → IsChain t.slots link ps → Stands at ps → place_in_front at no_place ps ≡ no_place → IsChain u gone.next (without at ps)
      go [] once link chain there front = absurd there
      go (p ∷ qs) once link chain there front = elim (cases_true (nat_eq p at)) [
        | inl same ↦
            let is : p ≡ at = eqb-true _ _ same in
            rw same (unlinked_first t.slots u link p qs gone once chain (ap (get t.slots) is ∙ read) (λ q differ. updates.others q (λ e. differ (e ∙ sym is))))
        | inr differs ↦
            let passed : place_in_front at no_place (p ∷ qs) ≡ place_in_front at p qs = rw differs refl in
            let place = (chain-slot t.slots link (place_in_front at p qs) (p ∷ qs) chain (in_front-stands at p qs (later p qs (eqb-false _ _ differs) there))).0 in
            absurd (omega (arith, place, sym passed ∙ front))
      ]

  -- the slot in front of one that goes is another, and stays
  pub front_there : (t : Inside K V) (key : K) (at before : ℕ) (kept : IsTable hash t) → IsSlotOf key at t.slots
      → place_in_front at no_place (kept.indexed.chains (chain_of (hash key) (length t.heads.items))) ≡ before → before ≢ no_place
      → (before ≢ at) × IsSome (get t.slots before) × Stands before (kept.indexed.chains (chain_of (hash key) (length t.heads.items)))
  front_there t key at before kept has front some =
      let b = chain_of (hash key) (length t.heads.items) in
      let on = slot-stands t key at kept has in
      let link = get_or t.heads.items b no_place in
      let ps = kept.indexed.chains b in
      let chain = kept.indexed.linked b on.0 in
      let near = behind t.slots link at before ps chain on.1 front some in
      let once : AreOnce (near.first ∷ near.rest) = subst AreOnce near.is (kept.indexed.once b on.0) in
      let stands : Stands before ps = subst (λ z. Stands before z) (sym near.is) (subst (λ z. Stands z (near.first ∷ near.rest)) near.front (in_front-stands at near.first near.rest near.stands)) in
      let slot = chain-slot t.slots link before ps chain stands in
      (λ e. in_front-apart at near.first near.rest once near.stands (near.front ∙ e), ap is_some slot.2, stands)

  pub keeps-rows : (s r w : Slab (Slot K V)) (at before to : ℕ) → Updates s r at None
      → ((q : ℕ) → get w q ≡ (if nat_eq q before then option_map (leading to) (get r q) else get r q)) → KeepsRows hash s w at
  keeps-rows s r w at before to updates turned q differ = elim (cases_true (nat_eq q before)) [
    | inl same ↦
        let now : get w q ≡ option_map (leading to) (get r q) = rw same at (turned q) in
        ap (option_map row_of) now ∙ same_rows (get r q) ∙ ap (option_map row_of) (updates.others q differ)
    | inr other ↦
        let now : get w q ≡ get r q = rw other at (turned q) in
        ap (option_map row_of) (now ∙ updates.others q differ)
  ]
    where
      same_rows : (o : Option (Slot K V)) → option_map row_of (option_map (leading to) o) ≡ option_map row_of o
      same_rows None = refl
      same_rows (Some a) = refl

  pub gone-there : (s r w : Slab (Slot K V)) (at before to : ℕ) → Updates s r at None
      → ((q : ℕ) → get w q ≡ (if nat_eq q before then option_map (leading to) (get r q) else get r q)) → get w at ≡ None
  gone-there s r w at before to updates turned = elim (cases_true (nat_eq at before)) [
    | inl same ↦
        let now : get w at ≡ option_map (leading to) (get r at) = rw same at (turned at) in
        now ∙ ap (option_map (leading to)) updates.changed
    | inr other ↦
        let now : get w at ≡ get r at = rw other at (turned at) in
        now ∙ updates.changed
  ]

  pub shortened_later : (t : Inside K V) (r w : Slab (Slot K V)) (key : K) (at before : ℕ) (gone : Slot K V) (kept : IsTable hash t) → get t.slots at ≡ Some gone → gone.key ≡ key
      → Updates t.slots r at None
      → ((q : ℕ) → get w q ≡ (if nat_eq q before then option_map (leading gone.next) (get r q) else get r q))
      → place_in_front at no_place (kept.indexed.chains (chain_of (hash key) (length t.heads.items))) ≡ before → before ≢ no_place
      → IsIndexed hash w t.heads.items (length t.heads.items) no_place
  shortened_later t r w key at before gone kept read key_is updates turned front some =
      let n = length t.heads.items in
      let b = chain_of (hash key) n in
      let on = slot-stands t key at kept (gone, read, key_is) in
      let there = front_there t key at before kept (gone, read, key_is) front some in
      let b_is : chain_of (hash gone.key) n ≡ b = ap (λ k. chain_of (hash k) n) key_is in
      let ps = kept.indexed.chains b in
      let link = get_or t.heads.items b no_place in
      let near = behind t.slots link at before ps (kept.indexed.linked b on.0) on.1 front some in
      let plain : (q : ℕ) → q ≢ at → q ≢ before → get w q ≡ get t.slots q = λ q other apart.
      let now : get w q ≡ get r q = rw (ne_test q before apart) at (turned q) in
      now ∙ updates.others q other in
      let led : get w before ≡ option_map (leading gone.next) (get t.slots before) =
      let now : get w before ≡ option_map (leading gone.next) (get r before) = rw (eq-eqb before before refl) at (turned before) in
      now ∙ ap (option_map (leading gone.next)) (updates.others before there.0) in
      let cut : IsChain w link (near.first ∷ without at near.rest) =
      unlinked t.slots w link at near.first near.rest gone (subst AreOnce near.is (kept.indexed.once b on.0)) (subst (IsChain t.slots link) near.is (kept.indexed.linked b on.0)) near.stands read
      (λ q other apart. plain q other (λ e. apart (e ∙ sym near.front)))
      (ap (get w) near.front ∙ led ∙ ap (λ z. option_map (leading gone.next) (get t.slots z)) (sym near.front)) in
      let differ : near.first ≢ at = λ e. (subst AreOnce near.is (kept.indexed.once b on.0)).0 (subst (λ z. Stands z near.rest) (sym e) near.stands) in
      let passed : without at (near.first ∷ near.rest) ≡ near.first ∷ without at near.rest = rw (ne_test near.first at differ) refl in
      let chain : IsChain w link (without at ps) = subst (IsChain w link) (sym (ap (without at) near.is ∙ passed)) cut in
      unlink-kept hash t.slots w t.heads.items t.heads.items n at gone kept.indexed read (gone-there t.slots r w at before gone.next updates turned)
      (keeps-rows t.slots r w at before gone.next updates turned) refl (λ c other. refl)
      (λ c lt other q stands. plain q (elsewhere t key at gone kept read c lt other q stands)
      (λ e. other (apart_chain t key at gone kept b_is before there.2 on.0 c lt (subst (λ z. Stands z (kept.indexed.chains c)) e stands))))
      (subst (λ z. IsChain w (get_or t.heads.items z no_place) (without at (kept.indexed.chains z))) (sym b_is) chain)
    where
      apart_chain : (t : Inside K V) (key : K) (at : ℕ) (gone : Slot K V) (kept : IsTable hash t) → chain_of (hash gone.key) (length t.heads.items) ≡ chain_of (hash key) (length t.heads.items)
          → (before : ℕ) → Stands before (kept.indexed.chains (chain_of (hash key) (length t.heads.items)))
          → chain_of (hash key) (length t.heads.items) < length t.heads.items → (c : ℕ) → c < length t.heads.items → Stands before (kept.indexed.chains c) → c ≡ chain_of (hash gone.key) (length t.heads.items)
      apart_chain t key at gone kept b_is before stands within c lt there =
          let one = kept.indexed.homes (chain_of (hash key) (length t.heads.items)) before within stands in
          let two = kept.indexed.homes c before lt there in
          let same : one.slot ≡ two.slot = some_is (sym one.read ∙ two.read) in
          sym two.home ∙ sym (ap (λ (z : Slot K V). chain_of (hash z.key) (length t.heads.items)) same) ∙ one.home ∙ sym b_is

  -- a key's slot was found at a place, on the chain that begins with a link
  pub record Found (t : Inside K V) (key : K) (b link at : ℕ) : Type 0 where
    pub chain : b ≡ chain_of (hash key) (length t.heads.items)
    pub link_is : get_or t.heads.items (chain_of (hash key) (length t.heads.items)) no_place ≡ link
    pub has : IsSlotOf key at t.slots

  pub found-of : (t : Inside K V) (key : K) (n b link at : ℕ) → n ≡ length t.heads.items → b ≡ chain_of (hash key) n → b < n → link ≡ get_or t.heads.items b link
      → (o : Option ℕ) → o ≡ Some at → IfSome o (λ p. IsSlotOf key p t.slots) → Found t key b link at
  found-of t key n b link at count chain within read o is some =
      let b_is : b ≡ chain_of (hash key) (length t.heads.items) = chain ∙ ap (chain_of (hash key)) count in
      record {
        chain = b_is;
        link_is = ap (λ z. get_or t.heads.items z no_place) (sym b_is) ∙ get_or_default t.heads.items b no_place link (omega (arith, within, count)) ∙ sym read;
        has = subst (λ z. IfSome z (λ p. IsSlotOf key p t.slots)) is some;
      }

  -- where a search for a key that has a row found nothing, there is none
  pub found-some : (t : Inside K V) (key : K) (n b link : ℕ) → IsTable hash t → n ≡ length t.heads.items → b ≡ chain_of (hash key) n → b < n → link ≡ get_or t.heads.items b link
      → HasKey key (rows_in t.slots.slots) → (o : Option ℕ)
      → IfNone o ((ps : List ℕ) → IsChain t.slots link ps → (p : ℕ) → Stands p ps → IsSlotOf key p t.slots → ⊥) → IsSome o
  found-some t key n b link kept count chain within read has (Some p) none = refl
  found-some t key n b link kept count chain within read has None none =
      let b_is : b ≡ chain_of (hash key) (length t.heads.items) = chain ∙ ap (chain_of (hash key)) count in
      let link_is : get_or t.heads.items (chain_of (hash key) (length t.heads.items)) no_place ≡ link =
      ap (λ z. get_or t.heads.items z no_place) (sym b_is) ∙ get_or_default t.heads.items b no_place link (omega (arith, within, count)) ∙ sym read in
      absurd (none-there t key (no-slot t.slots t.heads.items key link kept.indexed kept.within link_is none) has)

  pub found-stands : (t : Inside K V) (key : K) (b link at : ℕ) → IsTable hash t → Found t key b link at → (ps : List ℕ) → IsChain t.slots link ps → Stands at ps
  found-stands t key b link at kept found ps chain =
      let on = slot-stands t key at kept found.has in
      let whole = kept.indexed.chains (chain_of (hash key) (length t.heads.items)) in
      let linked : IsChain t.slots link whole = subst (λ z. IsChain t.slots z whole) found.link_is (kept.indexed.linked (chain_of (hash key) (length t.heads.items)) on.0) in
      subst (λ z. Stands at z) (chain-one t.slots link whole ps linked chain) on.1

  pub found-front : (t : Inside K V) (key : K) (b link at before : ℕ) (kept : IsTable hash t) → Found t key b link at
      → ((ps : List ℕ) → IsChain t.slots link ps → before ≡ place_in_front at no_place ps)
      → place_in_front at no_place (kept.indexed.chains (chain_of (hash key) (length t.heads.items))) ≡ before
  found-front t key b link at before kept found each =
      let on = slot-stands t key at kept found.has in
      let whole = kept.indexed.chains (chain_of (hash key) (length t.heads.items)) in
      sym (each whole (subst (λ z. IsChain t.slots z whole) found.link_is (kept.indexed.linked (chain_of (hash key) (length t.heads.items)) on.0)))

  -- a table whose slot at a place is gone, with the chain of its key linked anew
  pub record Shortened (t : Inside K V) (r : Slab (Slot K V)) (u : Inside K V) (at : ℕ) : Type 0 where
    pub indexed : IsIndexed hash u.slots u.heads.items (length u.heads.items) no_place
    pub rows : rows_in u.slots.slots ≡ rows_in r.slots
    pub keeps : KeepsRows hash t.slots u.slots at
    pub out : get u.slots at ≡ None
    pub len : slab_len u.slots ≡ slab_len r
    pub capacity : u.slots.capacity ≡ r.capacity
    pub count : length u.slots.slots ≡ length r.slots
    pub heads : length u.heads.items ≡ length t.heads.items
    pub spare : u.spare ≡ t.spare

  pub removed-table : (t : Inside K V) (r : Slab (Slot K V)) (u : Inside K V) (at : ℕ) → IsTable hash t → slab_len r + 1 ≡ slab_len t.slots → r.capacity ≡ t.slots.capacity
      → length r.slots ≡ length t.slots.slots → Shortened t r u at → IsTable hash record { slots = u.slots; heads = u.heads; spare = u.spare + 1 }
  removed-table t r u at kept len capacity count s = record {
    indexed = s.indexed;
    single = single-kept hash t.slots u.slots at kept.single s.out s.keeps;
    room = omega (arith, kept.room, s.len, s.capacity, s.spare, len, capacity);
    fits = omega (arith, kept.fits, s.len, s.spare, len);
    some = omega (arith, kept.some, s.len, s.heads, s.spare, len);
    within = omega (arith, kept.within, s.count, count);
  }

  -- ---- a table that is otherwise as before

  -- a key's row with another value
  pub set-table : (t : Inside K V) (at : ℕ) (n m : Slot K V) → IsTable hash t → get t.slots at ≡ Some n → m.key ≡ n.key → m.next ≡ n.next
      → IsTable hash record { slots = with_value t.slots at m; heads = t.heads; spare = t.spare }
  set-table t at n m kept read key next =
      let s = t.slots in
      let u = with_value s at m in
      let updates : Updates s u at (Some m) = Updates-with_value s at m (ap is_some read) in
      let back = value-links hash s u at n m read key next updates in
      let len : slab_len u ≡ slab_len s = count-set s.slots at n m read in
      record {
        indexed = indexed-alike hash s u t.heads.items (length t.heads.items) no_place (links-value hash s u at n m read key next updates) back kept.indexed;
        single = single-linked hash s u back kept.single;
        room = omega (arith, kept.room, len);
        fits = omega (arith, kept.fits, len);
        some = omega (arith, kept.some, len);
        within = omega (arith, kept.within, length-set s.slots at (Some m));
      }

  -- a slab that could hold more
  pub larger-indexed : (t : Inside K V) (capacity : ℕ) → IsTable hash t → IsIndexed hash (record t.slots { capacity = capacity }) t.heads.items (length t.heads.items) no_place
  larger-indexed t capacity kept =
      indexed-alike hash t.slots (record t.slots { capacity = capacity }) t.heads.items (length t.heads.items) no_place (links-room hash t.slots capacity) (room-links hash t.slots capacity) kept.indexed

  pub larger-table : (t : Inside K V) (capacity : ℕ) → IsTable hash t → t.slots.capacity ≤ capacity
      → IsTable hash record { slots = record t.slots { capacity = capacity }; heads = t.heads; spare = t.spare }
  larger-table t capacity kept more = record {
    indexed = larger-indexed t capacity kept;
    single = kept.single;
    room = omega (arith, kept.room, more);
    fits = kept.fits;
    some = kept.some;
    within = kept.within;
  }
