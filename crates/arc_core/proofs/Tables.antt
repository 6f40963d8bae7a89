-- The table's vectors keep their invariant through the edits.
use Rattle.std.proofs.Common.{◌≡◌, IsSomeAnd, List, [], ◌∷◌, map, Option, Some, None, is_some, refl, ap, subst, ◌∙◌}
use Rattle.std.specs.Option.{option_map}
use Rattle.blk_ptr.specs.declared.key.Key.{Key}
use Rattle.blk_ptr.specs.declared.state.State.{State}
use Rattle.arc_lists.specs.ByKey.{IsAbove, IsRising, has_key, item_at}
use Rattle.arc_lists.specs.Members.{member_key}
use Rattle.arc_lists.proofs.Tables.{item_at-map}
use Rattle.arc_core.specs.declared.entry.Entry.{Entry}
use Rattle.arc_lists.specs.Sequences.{Sequences}
use Rattle.arc_core.specs.PlainShard.{PlainShard, entry_key, member_of}
use Rattle.arc_core.specs.Sound.{IsTidy, belongs_on}

-- the lists have a key exactly where the entries have it
pub has_key-members : (k : Key) (es : List Entry) → has_key member_key k (map member_of es) ≡ has_key entry_key k es
has_key-members k es = ap is_some (item_at-map entry_key member_key member_of (λ e. refl) k es) ∙ is_some-map (item_at entry_key k es)
  where
    is_some-map : (o : Option Entry) → is_some (option_map member_of o) ≡ is_some o
    is_some-map None = refl
    is_some-map (Some e) = refl

pub item_at-members : (k : Key) (es : List Entry) (e : Entry) → item_at entry_key k es ≡ Some e → item_at member_key k (map member_of es) ≡ Some (member_of e)
item_at-members k es e item = item_at-map entry_key member_key member_of (λ e. refl) k es ∙ ap (option_map member_of) item

-- the members of a rising table rise
above-members : (k : Key) (es : List Entry) → IsAbove entry_key k es → IsAbove member_key k (map member_of es)
above-members k [] above = tt
above-members k (e ∷ es) above = (above.0, above-members k es above.1)

pub members-rising : (es : List Entry) → IsRising entry_key es → IsRising member_key (map member_of es)
members-rising [] rising = tt
members-rising (e ∷ es) rising = (above-members e.key es rising.0, members-rising es rising.1)

-- ---- tidy is a matter of the entries and the sequences alone

tidy_again : (s : PlainShard) (es : List Entry) (q : Sequences) (t : PlainShard) → t.entries ≡ es → t.sequences ≡ q → IsTidy (record s { entries = es; sequences = q }) → IsTidy t
tidy_again s es q t entries sequences tidy =
    let P : List Entry × Sequences → Type 0 = λ x. IsTidy (record s { entries = x.0; sequences = x.1 }) in
    let both : (es, q) ≡ (t.entries, t.sequences) = rw (entries, sequences) refl in
    let here : IsTidy (record s { entries = t.entries; sequences = t.sequences }) = subst P both tidy in
    record {
      once = here.once;
      entries = here.entries;
      mru = record { once = here.mru.once; exact = here.mru.exact };
      mru_ghost = record { once = here.mru_ghost.once; exact = here.mru_ghost.exact };
      mfu = record { once = here.mfu.once; exact = here.mfu.exact };
      mfu_ghost = record { once = here.mfu_ghost.once; exact = here.mfu_ghost.exact };
    }

pub IsTidy-same : (s t : PlainShard) → t.entries ≡ s.entries → t.sequences ≡ s.sequences → IsTidy s → IsTidy t
IsTidy-same s t entries sequences tidy = tidy_again s s.entries s.sequences t entries sequences tidy

-- what is there and has a fact
pub some_and : {A : Type 0} (P : A → Type 0) (o : Option A) → IsSomeAnd o P → record { value : A; is : o ≡ Some value; fact : P value }
some_and P None h = absurd h
some_and P (Some a) h = record { value = a; is = refl; fact = h }

pub belongs_on-alike : (e old : Entry) → old.state ≡ e.state → old.holds ≡ e.holds → (state : State) → belongs_on state e ≡ belongs_on state old
belongs_on-alike e old states holds state = rw (states, holds) refl
