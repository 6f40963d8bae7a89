-- The entries with their sequences and their room, as plain data.
use Rattle.std.specs.Prelude.{◌≡◌, ℕ, if◌then◌else◌, List, [], Some, map}
use Rattle.blk_ptr.specs.declared.key.Key.{Key}
use Rattle.blk_ptr.specs.declared.state.State.{State}
use Rattle.arc_lists.specs.ByKey.{item_at, with_change}
use Rattle.arc_lists.specs.Members.{size_of}
use Rattle.arc_lists.specs.Sequences.{Sequences, no_keys, put_at_head, taken_off}
use Rattle.arc_core.specs.declared.entry.Entry.{Entry}
use Rattle.arc_core.specs.PlainShard.{entry_key, is_unheld, member_of}

pub record PlainEntries : Type 0 where
  -- in rising order of keys
  pub items : List Entry
  pub sequences : Sequences
  -- the target of anonymous and MRU bytes, and the capacity in bytes
  pub p : ℕ
  pub c : ℕ
  -- for how many more there is room
  pub spare : ℕ

-- there is none, and no room
abbrev pub opening_entries : (p c : ℕ) → PlainEntries
opening_entries p c = record { items = []; sequences = no_keys; p = p; c = c; spare = 0 }

-- the size of a state
abbrev pub bytes_in : State → PlainEntries → ℕ
bytes_in s es = size_of s (map member_of es.items)

-- the entries with this one for its key's, which stands at the head of its state's sequence where nobody holds it
abbrev pub written : Key → Entry → PlainEntries → PlainEntries
written k e es = record es { items = with_change entry_key k (λ _. e) es.items; sequences = if is_unheld e then put_at_head e.state k (taken_off k es.sequences) else taken_off k es.sequences }

-- the key's entry is one that a change may make of the one that was there
pub record IsChanged (change : Entry → Entry → Type 0) (k : Key) (old new : PlainEntries) : Type 0 where
  pub before : Entry
  pub after : Entry
  pub there : item_at entry_key k old.items ≡ Some before
  pub made : change before after
  pub entries : new ≡ written k after old
