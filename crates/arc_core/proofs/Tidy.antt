-- The edits of a shard's table keep entries and sequences together.
use Rattle.std.proofs.Common.{◌≡◌, Bool, true, false, not, ◌&&◌, if◌then◌else◌, IsTrue, List, ◌∷◌, Option, Some, None, is_some, inl, inr, refl, sym, ap, subst, ◌∙◌}
use Rattle.std.specs.List.{AllByRecursion}
use Rattle.std.specs.Option.{option_map_or}
use Rattle.std.proofs.lemmas.Bool.{false≢true}
use Rattle.blk_ptr.specs.declared.key.Key.{Key}
use Rattle.blk_ptr.specs.declared.state.State.{State}
use Rattle.blk_ptr.specs.declared.state.State.TheVariants.{Anon, Mru, MruGhost, Mfu, MfuGhost, L2Only}
use Rattle.blk_ptr.specs.Order.{key_eq}
use Rattle.blk_ptr.specs.State.{is_same_state}
use Rattle.blk_ptr.proofs.Keys.{key_eq-is, key_eq-same, key_eq-sym}
use Rattle.arc_lists.specs.ByKey.{IsRising, has_key, item_at, with_item, with_change}
use Rattle.arc_lists.specs.Sequences.{Sequences, has_sequence, is_distinct, put_at_head, stands_on, taken_off, without_key}
use Rattle.arc_lists.proofs.Standing.{both, distinct-without_key, not_true, stands_on-without_other, stands_on-without_same, without_key-absent}
use Rattle.arc_lists.proofs.Tables.{cases_true, is_some_of, All-with_change, All-with_item, All-without, IsRising-with_change, IsRising-with_item, IsRising-without, item_at-with_change_other, item_at-with_change_same, item_at-with_item_other, item_at-with_item_same, item_at-without_other, item_at-without_same}
use Rattle.arc_core.specs.declared.entry.Entry.{Entry}
use Rattle.arc_core.specs.PlainShard.{PlainShard, entry_is, entry_key, entry_of, is_unheld}
use Rattle.arc_core.specs.Changes.{come, gone}
use Rattle.arc_core.specs.Edits.{amended, is_off, placed}
use Rattle.arc_core.specs.Sound.{IsSequence, IsSoundEntry, IsTidy, belongs_on}

-- ---- one sequence

-- A sequence as a list: each key once, and a key exactly where a test says so.
pub record Names (test : Key → Bool) (keys : List Key) : Type 0 where
  pub once : IsTrue (is_distinct keys)
  pub exact : (k : Key) → stands_on k keys ≡ test k

-- where a sequence names what a test says, and the test changes at one key alone, so does the sequence with that key at its head or off it
Names-edit : (k : Key) (here : Bool) (old new : Key → Bool) (keys : List Key) → ((j : Key) → key_eq j k ≡ false → new j ≡ old j) → new k ≡ here → Names old keys
    → Names new (if here then k ∷ without_key k keys else without_key k keys)
Names-edit k true old new keys others same names = record {
  once = both _ _ (not_true _ (stands_on-without_same k keys)) (distinct-without_key k keys names.once);
  exact = λ j. elim (cases_true (key_eq k j)) [
    | inl is ↦ rw is (sym (subst (λ h. new h ≡ true) (key_eq-is k j is) same))
    | inr other ↦
        let apart : key_eq j k ≡ false = key_eq-sym j k ∙ other in
        rw other (stands_on-without_other j k keys apart ∙ names.exact j ∙ sym (others j apart))
  ];
}
Names-edit k false old new keys others same names = record {
  once = distinct-without_key k keys names.once;
  exact = λ j. elim (cases_true (key_eq k j)) [
    | inl is ↦ subst (λ h. stands_on h (without_key k keys) ≡ new h) (key_eq-is k j is) (stands_on-without_same k keys ∙ sym same)
    | inr other ↦
        let apart : key_eq j k ≡ false = key_eq-sym j k ∙ other in
        stands_on-without_other j k keys apart ∙ names.exact j ∙ sym (others j apart)
  ];
}

-- ---- what edits leave at a key

module _ (test : Entry → Bool) where
  is_at : (k : Key) (s : PlainShard) (e : Entry) → entry_of k s ≡ Some e → entry_is test k s ≡ test e
  is_at k s e item = rw item refl

  same_at : (j : Key) (s t : PlainShard) → entry_of j t ≡ entry_of j s → entry_is test j t ≡ entry_is test j s
  same_at j s t same = ap (λ o. option_map_or test o false) same

-- ---- the four sequences, with a key at the head of its state's where a test says so

standing-mru : (state : State) (b : Bool) (k : Key) (q : Sequences) → (if b then put_at_head state k q else q).mru ≡ (if b && is_same_state state Mru then k ∷ q.mru else q.mru)
standing-mru state false k q = refl
standing-mru Anon true k q = refl
standing-mru Mru true k q = refl
standing-mru MruGhost true k q = refl
standing-mru Mfu true k q = refl
standing-mru MfuGhost true k q = refl
standing-mru L2Only true k q = refl

standing-mru_ghost : (state : State) (b : Bool) (k : Key) (q : Sequences) → (if b then put_at_head state k q else q).mru_ghost ≡ (if b && is_same_state state MruGhost then k ∷ q.mru_ghost else q.mru_ghost)
standing-mru_ghost state false k q = refl
standing-mru_ghost Anon true k q = refl
standing-mru_ghost Mru true k q = refl
standing-mru_ghost MruGhost true k q = refl
standing-mru_ghost Mfu true k q = refl
standing-mru_ghost MfuGhost true k q = refl
standing-mru_ghost L2Only true k q = refl

standing-mfu : (state : State) (b : Bool) (k : Key) (q : Sequences) → (if b then put_at_head state k q else q).mfu ≡ (if b && is_same_state state Mfu then k ∷ q.mfu else q.mfu)
standing-mfu state false k q = refl
standing-mfu Anon true k q = refl
standing-mfu Mru true k q = refl
standing-mfu MruGhost true k q = refl
standing-mfu Mfu true k q = refl
standing-mfu MfuGhost true k q = refl
standing-mfu L2Only true k q = refl

standing-mfu_ghost : (state : State) (b : Bool) (k : Key) (q : Sequences) → (if b then put_at_head state k q else q).mfu_ghost ≡ (if b && is_same_state state MfuGhost then k ∷ q.mfu_ghost else q.mfu_ghost)
standing-mfu_ghost state false k q = refl
standing-mfu_ghost Anon true k q = refl
standing-mfu_ghost Mru true k q = refl
standing-mfu_ghost MruGhost true k q = refl
standing-mfu_ghost Mfu true k q = refl
standing-mfu_ghost MfuGhost true k q = refl
standing-mfu_ghost L2Only true k q = refl

-- ---- an entry that takes the place of its key's

module _ (e : Entry) (s : PlainShard) (there : IsTrue (has_key entry_key e.key s.entries)) where
  some : (old : Entry) × (entry_of e.key s ≡ Some old)
  some = is_some_of (entry_of e.key s) there

  same_key : (x : Entry) → key_eq x.key e.key ≡ true → e.key ≡ x.key
  same_key x same = sym (key_eq-is x.key e.key same)

  -- the entry is its key's, and each other key has the entry that it had
  pub entry_of-placed_same : item_at entry_key e.key (with_change entry_key e.key (λ old. e) s.entries) ≡ Some e
  entry_of-placed_same = item_at-with_change_same entry_key e.key (λ old. e) s.entries some.0 (key_eq-same e.key) some.1

  pub entry_of-placed_other : (j : Key) → key_eq j e.key ≡ false → item_at entry_key j (with_change entry_key e.key (λ old. e) s.entries) ≡ item_at entry_key j s.entries
  entry_of-placed_other j apart = item_at-with_change_other entry_key j e.key (λ old. e) s.entries same_key apart

  pub once-placed : IsRising entry_key s.entries → IsRising entry_key (with_change entry_key e.key (λ old. e) s.entries)
  once-placed = IsRising-with_change entry_key e.key (λ old. e) s.entries same_key

  pub entries-placed : IsSoundEntry e → AllByRecursion IsSoundEntry s.entries → AllByRecursion IsSoundEntry (with_change entry_key e.key (λ old. e) s.entries)
  entries-placed sound = All-with_change entry_key IsSoundEntry e.key (λ old. e) s.entries (λ x item. sound)

  Names-placed : (state : State) (keys : List Key) → Names (λ j. entry_is (belongs_on state) j s) keys
      → Names (λ j. entry_is (belongs_on state) j (placed e s)) (if belongs_on state e then e.key ∷ without_key e.key keys else without_key e.key keys)
  Names-placed state keys names =
      Names-edit e.key (belongs_on state e) _ (λ j. entry_is (belongs_on state) j (placed e s)) keys
      (λ j apart. ap (λ o. option_map_or (belongs_on state) o false) (entry_of-placed_other j apart))
      (ap (λ o. option_map_or (belongs_on state) o false) entry_of-placed_same)
      names

  pub IsTidy-placed : IsSoundEntry e → IsTidy s → IsTidy (placed e s)
  IsTidy-placed sound tidy =
      let mru = subst (Names _) (sym (standing-mru e.state (is_unheld e) e.key (taken_off e.key s.sequences))) (Names-placed Mru s.sequences.mru (record { once = tidy.mru.once; exact = tidy.mru.exact })) in
      let mru_ghost = subst (Names _) (sym (standing-mru_ghost e.state (is_unheld e) e.key (taken_off e.key s.sequences))) (Names-placed MruGhost s.sequences.mru_ghost (record { once = tidy.mru_ghost.once; exact = tidy.mru_ghost.exact })) in
      let mfu = subst (Names _) (sym (standing-mfu e.state (is_unheld e) e.key (taken_off e.key s.sequences))) (Names-placed Mfu s.sequences.mfu (record { once = tidy.mfu.once; exact = tidy.mfu.exact })) in
      let mfu_ghost = subst (Names _) (sym (standing-mfu_ghost e.state (is_unheld e) e.key (taken_off e.key s.sequences))) (Names-placed MfuGhost s.sequences.mfu_ghost (record { once = tidy.mfu_ghost.once; exact = tidy.mfu_ghost.exact })) in
      record {
        once = once-placed tidy.once;
        entries = entries-placed sound tidy.entries;
        mru = record { once = mru.once; exact = mru.exact };
        mru_ghost = record { once = mru_ghost.once; exact = mru_ghost.exact };
        mfu = record { once = mfu.once; exact = mfu.exact };
        mfu_ghost = record { once = mfu_ghost.once; exact = mfu_ghost.exact };
      }

-- ---- an entry that leaves

module _ (k : Key) (s : PlainShard) (rising : IsRising entry_key s.entries) where
  Names-gone : (state : State) (keys : List Key) → Names (λ j. entry_is (belongs_on state) j s) keys → Names (λ j. entry_is (belongs_on state) j (gone k s)) (without_key k keys)
  Names-gone state keys names =
      Names-edit k false _ (λ j. entry_is (belongs_on state) j (gone k s)) keys
      (λ j apart. ap (λ o. option_map_or (belongs_on state) o false) (item_at-without_other entry_key j k s.entries apart))
      (ap (λ o. option_map_or (belongs_on state) o false) (item_at-without_same entry_key k s.entries rising))
      names

pub IsTidy-gone : (k : Key) (s : PlainShard) → IsTidy s → IsTidy (gone k s)
IsTidy-gone k s tidy =
    let mru = Names-gone k s tidy.once Mru s.sequences.mru (record { once = tidy.mru.once; exact = tidy.mru.exact }) in
    let mru_ghost = Names-gone k s tidy.once MruGhost s.sequences.mru_ghost (record { once = tidy.mru_ghost.once; exact = tidy.mru_ghost.exact }) in
    let mfu = Names-gone k s tidy.once Mfu s.sequences.mfu (record { once = tidy.mfu.once; exact = tidy.mfu.exact }) in
    let mfu_ghost = Names-gone k s tidy.once MfuGhost s.sequences.mfu_ghost (record { once = tidy.mfu_ghost.once; exact = tidy.mfu_ghost.exact }) in
    record {
      once = IsRising-without entry_key k s.entries tidy.once;
      entries = All-without entry_key IsSoundEntry k s.entries tidy.entries;
      mru = record { once = mru.once; exact = mru.exact };
      mru_ghost = record { once = mru_ghost.once; exact = mru_ghost.exact };
      mfu = record { once = mfu.once; exact = mfu.exact };
      mfu_ghost = record { once = mfu_ghost.once; exact = mfu_ghost.exact };
    }

-- ---- an entry that comes in, on no sequence

off_differs : (u : Bool) (a b : State) → has_sequence b ≡ true → not (u && has_sequence a) ≡ true → (u && is_same_state a b) ≡ false
off_differs false a b has off = refl
off_differs true Mru b has off = absurd (false≢true off)
off_differs true MruGhost b has off = absurd (false≢true off)
off_differs true Mfu b has off = absurd (false≢true off)
off_differs true MfuGhost b has off = absurd (false≢true off)
off_differs true Anon Anon has off = absurd (false≢true has)
off_differs true Anon b has off = refl
off_differs true L2Only L2Only has off = absurd (false≢true has)
off_differs true L2Only b has off = refl

pub off_belongs : (state : State) (e : Entry) → IsTrue (has_sequence state) → IsTrue (is_off e) → belongs_on state e ≡ false
off_belongs state e has off = off_differs (is_unheld e) e.state state has off

-- nothing of a key is nothing that passes a test
pub absent_fails : (test : Entry → Bool) (k : Key) (es : List Entry) → has_key entry_key k es ≡ false → option_map_or test (item_at entry_key k es) false ≡ false
absent_fails test k es absent = none_fails (item_at entry_key k es) absent
  where
    none_fails : (o : Option Entry) → is_some o ≡ false → option_map_or test o false ≡ false
    none_fails None none = refl
    none_fails (Some e) none = absurd (false≢true (sym none))

module _ (e : Entry) (s : PlainShard) (absent : has_key entry_key e.key s.entries ≡ false) (off : IsTrue (is_off e)) where
  exact-come : (state : State) → IsTrue (has_sequence state) → IsSequence state s → IsSequence state (come e s)
  exact-come state has names = record {
    once = names.once;
    exact = λ j. names.exact j ∙ elim (cases_true (key_eq e.key j)) [
      | inl is ↦ subst (λ h. option_map_or (belongs_on state) (item_at entry_key h s.entries) false ≡ option_map_or (belongs_on state) (item_at entry_key h (with_item entry_key e s.entries)) false) (key_eq-is e.key j is)
          (absent_fails (belongs_on state) e.key s.entries absent ∙ sym (ap (λ o. option_map_or (belongs_on state) o false) (item_at-with_item_same entry_key e s.entries absent) ∙ off_belongs state e has off))
      | inr other ↦ sym (ap (λ o. option_map_or (belongs_on state) o false) (item_at-with_item_other entry_key j e s.entries other))
    ];
  }

  pub IsTidy-come : IsSoundEntry e → IsTidy s → IsTidy (come e s)
  IsTidy-come sound tidy = record {
    once = IsRising-with_item entry_key e s.entries tidy.once absent;
    entries = All-with_item entry_key IsSoundEntry e s.entries sound tidy.entries;
    mru = exact-come Mru refl tidy.mru;
    mru_ghost = exact-come MruGhost refl tidy.mru_ghost;
    mfu = exact-come Mfu refl tidy.mfu;
    mfu_ghost = exact-come MfuGhost refl tidy.mfu_ghost;
  }

-- ---- an entry that takes the place of its key's and stands where that stood

module _ (e : Entry) (s : PlainShard) (old : Entry) (item : entry_of e.key s ≡ Some old) (alike : (state : State) → belongs_on state e ≡ belongs_on state old) where
  there_amended : IsTrue (has_key entry_key e.key s.entries)
  there_amended = rw item refl

  exact-amended : (state : State) → IsSequence state s → IsSequence state (amended e s)
  exact-amended state names = record {
    once = names.once;
    exact = λ j. names.exact j ∙ elim (cases_true (key_eq e.key j)) [
      | inl is ↦ subst (λ h. option_map_or (belongs_on state) (item_at entry_key h s.entries) false ≡ option_map_or (belongs_on state) (item_at entry_key h (with_change entry_key e.key (λ old. e) s.entries)) false) (key_eq-is e.key j is)
          (rw (item, entry_of-placed_same e s there_amended) (sym (alike state)))
      | inr other ↦ sym (ap (λ o. option_map_or (belongs_on state) o false) (entry_of-placed_other e s there_amended j (key_eq-sym j e.key ∙ other)))
    ];
  }

  pub IsTidy-amended : IsSoundEntry e → IsTidy s → IsTidy (amended e s)
  IsTidy-amended sound tidy = record {
    once = once-placed e s there_amended tidy.once;
    entries = entries-placed e s there_amended sound tidy.entries;
    mru = exact-amended Mru tidy.mru;
    mru_ghost = exact-amended MruGhost tidy.mru_ghost;
    mfu = exact-amended Mfu tidy.mfu;
    mfu_ghost = exact-amended MfuGhost tidy.mfu_ghost;
  }

-- ---- a key that stands on no sequence

pub off_sequences : (s : PlainShard) (k : Key) → IsTidy s → ((state : State) → IsTrue (has_sequence state) → entry_is (belongs_on state) k s ≡ false) → taken_off k s.sequences ≡ s.sequences
off_sequences s k tidy off =
    let mru = without_key-absent k s.sequences.mru (tidy.mru.exact k ∙ off Mru refl) in
    let mru_ghost = without_key-absent k s.sequences.mru_ghost (tidy.mru_ghost.exact k ∙ off MruGhost refl) in
    let mfu = without_key-absent k s.sequences.mfu (tidy.mfu.exact k ∙ off Mfu refl) in
    let mfu_ghost = without_key-absent k s.sequences.mfu_ghost (tidy.mfu_ghost.exact k ∙ off MfuGhost refl) in
    rw (mru, mru_ghost, mfu, mfu_ghost) refl
