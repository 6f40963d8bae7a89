-- The rows of the entries and their seats in rising order.
use Rattle.std.proofs.Common.{◌≡◌, false, List, length, Option, Some, None, IfNone, IfSome, IsSome, is_some, refl, sym, ap, subst, ◌∙◌}
use Rattle.std.proofs.lemmas.Bool.{false≢true}
use Rattle.blk_ptr.specs.declared.key.Key.{Key}
use Rattle.key_table.specs.PlainTable.{AreApart, Changes, Gains, HasKey, IsAmong, Loses, Row, row}
use Rattle.arc_lists.specs.declared.name.Name.{Name}
use Rattle.arc_lists.specs.ByKey.{has_key, item_at, with_change, with_item, without}
use Rattle.arc_lists.proofs.Names.{name, one}
use Rattle.arc_lists.proofs.Rising.{has-row, length-listed, listed, listed-changes, listed-gains, listed-loses, row-item}
use Rattle.arc_lists.proofs.Tables.{is_some_of}
use Rattle.arc_core.specs.declared.rows.Linked.{Linked}
use Rattle.arc_core.specs.seats.SeatRows.{seat_of}
use Rattle.arc_core.specs.seats.Seats.{Seat, seat, seat_key}

pub spells : (r : Row Name Linked) → name (seat_key (seat_of r)) ≡ r.key
spells r = refl

-- the seats of the rows
abbrev pub seated : List (Row Name Linked) → List Seat
seated rows = listed seat_key name seat_of spells one rows

pub length-seated : (rows : List (Row Name Linked)) → length (seated rows) ≡ length rows
length-seated rows = length-listed seat_key name seat_of spells one rows

pub has-name : (rows : List (Row Name Linked)) (k : Key) → AreApart rows → IsSome (item_at seat_key k (seated rows)) → HasKey (name k) rows
has-name rows k apart there = let x = is_some_of (item_at seat_key k (seated rows)) there in has-row seat_key name seat_of spells one rows k x.0 apart x.1

pub no-name : (rows : List (Row Name Linked)) (k : Key) → AreApart rows → has_key seat_key k (seated rows) ≡ false → HasKey (name k) rows → ⊥
no-name rows k apart absent has =
    false≢true (sym absent ∙ ap is_some (row-item seat_key name seat_of spells one rows (row (name k) has.0) apart has.1))

pub seat-there : (rows : List (Row Name Linked)) (k : Key) (s : Linked) → AreApart rows → IsAmong (row (name k) s) rows → item_at seat_key k (seated rows) ≡ Some (seat k s)
seat-there rows k s apart there = row-item seat_key name seat_of spells one rows (row (name k) s) apart there

pub comes : (old new : List (Row Name Linked)) (k : Key) (s : Linked) → AreApart old → AreApart new → has_key seat_key k (seated old) ≡ false → Gains old new (row (name k) s)
    → seated new ≡ with_item seat_key (seat k s) (seated old)
comes old new k s apart apart' absent gains = listed-gains seat_key name seat_of spells one old new (row (name k) s) apart apart' (no-name old k apart absent) gains

pub goes : (old new : List (Row Name Linked)) (k : Key) → AreApart old → AreApart new → Loses old new (name k) → seated new ≡ without seat_key k (seated old)
goes old new k apart apart' loses = listed-loses seat_key name seat_of spells one old new k apart apart' loses

pub turns : (old new : List (Row Name Linked)) (k : Key) (s : Linked) → AreApart old → AreApart new → HasKey (name k) old → Changes old new (row (name k) s)
    → seated new ≡ with_change seat_key k (λ _. seat k s) (seated old)
turns old new k s apart apart' has changes = listed-changes seat_key name seat_of spells one old new (row (name k) s) apart apart' has changes

-- what is so of all that a search finds, and of one that finds nothing
pub if-some : {A : Type 0} (o : Option A) (P Q : A → Type 0) → ((a : A) → P a → Q a) → IfSome o P → IfSome o Q
if-some None P Q so is = tt
if-some (Some a) P Q so is = so a is

pub if-none : {A : Type 0} (o : Option A) (P Q : Type 0) → (P → Q) → IfNone o P → IfNone o Q
if-none None P Q so is = so is
if-none (Some a) P Q so is = tt

none-there : (o : Option Seat) (P : Type 0) → (IsSome o → P) → (P → ⊥) → o ≡ None
none-there None P has none = refl
none-there (Some x) P has none = absurd (none (has refl))

pub seat-nowhere : (rows : List (Row Name Linked)) (k : Key) → AreApart rows → (HasKey (name k) rows → ⊥) → item_at seat_key k (seated rows) ≡ None
seat-nowhere rows k apart none = none-there (item_at seat_key k (seated rows)) (HasKey (name k) rows) (has-name rows k apart) none

-- a search finds what is there
pub found-some : {A : Type 0} (o : Option A) (there : Option Seat) → IsSome there → IfNone o (there ≡ None) → IsSome o
found-some None there has none = subst IsSome none has
found-some (Some a) there has none = refl

pub some-at : {A : Type 0} (o : Option A) (a : A) (P : A → Type 0) → o ≡ Some a → IfSome o P → P a
some-at o a P is some = subst (λ z. IfSome z P) is some
