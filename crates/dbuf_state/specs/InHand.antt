-- Laws of a cell while its turn is in hand: what its calls change of the holds that it keeps, of what numbers claim of it and of the plain
-- cell, step by step.
use Rattle.std.specs.Prelude.{◌≡◌, ℕ, ◌+◌, ◌++◌, Bool, false, true, not, ◌||◌, IsTrue, List, [], ◌∷◌, map, Option, Some, None}
use Rattle.std.specs.List.{AllByRecursion, list_all}
use Rattle.std.specs.Option.{option_map}
use Rattle.blk_ptr.specs.declared.key.Key.{Key}
use Rattle.arc_core.specs.Keeps.{holds_on}
use Rattle.dbuf_state.specs.declared.dbuf.Content.TheVariants.{Clean}
use Rattle.dbuf_state.specs.declared.dbuf.Dbuf.{Dbuf}
use Rattle.dbuf_state.specs.declared.event.CellEvent.{CellEvent}
use Rattle.dbuf_state.specs.declared.event.CellEvent.TheVariants.{End}
use Rattle.dbuf_state.specs.declared.oid.Oid.{Oid}
use Rattle.dbuf_state.specs.declared.state.DbState.{DbState}
use Rattle.dbuf_state.specs.declared.state.DbState.TheVariants as state
use Rattle.dbuf_state.specs.declared.state.Mapping.{Mapping}
use Rattle.dbuf_state.specs.CellLog.{CellLog, touched}
use Rattle.dbuf_state.specs.Dbufs.{DbufHas, IsFit, cached_with, cleared, dbuf_at, dbuf_is, dbuf_oid, dirty_with, is_cached, is_clean, is_clean_in, is_passing, plain_dbuf, standing_of, with_dbuf, without_kept}
use Rattle.dbuf_state.specs.Numbers.{claim_in, claims_in}
use Rattle.dbuf_state.specs.Objects.{Evicting}
use Rattle.dbuf_state.specs.Objects as plain
use Rattle.dbuf_state.specs.Oids.{has_item, is_distinct, with_item}
use Rattle.dbuf_state.specs.Soundness.{IsSound, KeepsWhereCached, hold_in, holds_in, plain_cell}
use Rattle.dbuf_state.specs.Standings.{is_evictable, is_first_kept}

-- ---- the plain cell

-- the dbuf of an Oid, and how the dbufs stand, are those of the plain cell
abbrev pub PlainDbufIs : Type 0 → Type 0
PlainDbufIs H = (evicting : Evicting) (c : CellLog H) (at : Oid) → plain.dbuf_at at (plain_cell evicting c) ≡ option_map plain_dbuf (dbuf_at at c.dbufs)

abbrev pub PlainStandingsAre : Type 0 → Type 0
PlainStandingsAre H = (evicting : Evicting) (c : CellLog H) → plain.standings (plain_cell evicting c) ≡ map standing_of c.dbufs

-- what is to be evicted, and what is kept first, is a clean and cached block
abbrev pub EvictableIsCached : Type 0 → Type 0
EvictableIsCached H = (limit : ℕ) (at : Oid) (ds : List (Dbuf H)) → IsTrue (is_distinct dbuf_oid ds) → IsTrue (is_evictable limit at (map standing_of ds)) → IsTrue (dbuf_is (is_clean_in is_cached) at ds)

abbrev pub FirstKeptIsCached : Type 0 → Type 0
FirstKeptIsCached H = (at : Oid) (ds : List (Dbuf H)) → IsTrue (is_distinct dbuf_oid ds) → IsTrue (is_first_kept at (map standing_of ds)) → IsTrue (dbuf_is (is_clean_in is_cached) at ds)

-- ---- what is taken out for a while

-- what is taken out and put back was there all the time
abbrev pub RekeptIsThere : Type 0 → Type 0
RekeptIsThere H = (at : Oid) (ds : List (Dbuf H)) (d : Dbuf H) (s : DbState) (kept : H) → dbuf_at at ds ≡ Some d → d.kept ≡ Some kept → d.state ≡ state.Cached
    → with_dbuf at (cached_with kept) (with_dbuf at (without_kept s) ds) ≡ ds

-- a whole write hides that what was kept was taken out for it
abbrev pub DirtyHidesUnkept : Type 0 → Type 0
DirtyHidesUnkept H = (at : Oid) (ds : List (Dbuf H)) (s : DbState) (bytes : List ℕ) (new : Dbuf H)
    → with_item dbuf_oid at (dirty_with bytes) new (with_dbuf at (without_kept s) ds) ≡ with_item dbuf_oid at (dirty_with bytes) new ds

-- so does an end, for the plain cell
abbrev pub EndHidesUnkept : Type 0 → Type 0
EndHidesUnkept H = (at : Oid) (ds : List (Dbuf H)) → map plain_dbuf (map cleared (with_dbuf at (without_kept state.Evicting) ds)) ≡ map plain_dbuf (map cleared ds)

-- where the Oid has a dbuf, a whole write is a change of that dbuf
abbrev pub DirtyIsChange : Type 0 → Type 0
DirtyIsChange H = (at : Oid) (ds : List (Dbuf H)) (bytes : List ℕ) (new : Dbuf H) → has_item dbuf_oid at ds ≡ true
    → with_item dbuf_oid at (dirty_with bytes) new ds ≡ with_dbuf at (dirty_with bytes) ds

-- ---- the holds

module _ {H : Type 0} (key_of : H → Key) (bytes_of : H → List ℕ) (is_held : H → Bool) where
  -- how many holds these dbufs keep on a key
  abbrev pub kept_on : Key → List (Dbuf H) → ℕ
  kept_on k ds = holds_on k (holds_in key_of bytes_of is_held ds)

  -- how many holds a dbuf keeps on a key by what it keeps
  abbrev pub kept_by : Key → Option H → ℕ
  kept_by k kept = holds_on k (hold_in key_of bytes_of is_held kept)

  -- a change of one dbuf changes the holds by what it keeps
  abbrev pub HoldsChange : Type 0
  HoldsChange = (at : Oid) (f : Dbuf H → Dbuf H) (ds : List (Dbuf H)) (d : Dbuf H) (k : Key) → dbuf_at at ds ≡ Some d
      → kept_on k (with_dbuf at f ds) + kept_by k d.kept ≡ kept_on k ds + kept_by k (f d).kept

  -- a change that leaves what is kept leaves the holds; so does a new dbuf, and an event that is noted
  abbrev pub HoldsStay : Type 0
  HoldsStay = (at : Oid) (f : Dbuf H → Dbuf H) (ds : List (Dbuf H)) → ((d : Dbuf H) → (f d).kept ≡ d.kept) → holds_in key_of bytes_of is_held (with_dbuf at f ds) ≡ holds_in key_of bytes_of is_held ds

  abbrev pub HoldsStayByNote : Type 0
  HoldsStayByNote = (tick : ℕ) (used : Option Oid) (ds : List (Dbuf H)) → holds_in key_of bytes_of is_held (touched tick used ds) ≡ holds_in key_of bytes_of is_held ds

  abbrev pub HoldsStayByEnd : Type 0
  HoldsStayByEnd = (ds : List (Dbuf H)) → holds_in key_of bytes_of is_held (map cleared ds) ≡ holds_in key_of bytes_of is_held ds

  abbrev pub HoldsStayByNew : Type 0
  HoldsStayByNew = (ds : List (Dbuf H)) (d : Dbuf H) → d.kept ≡ None → holds_in key_of bytes_of is_held (ds ++ d ∷ []) ≡ holds_in key_of bytes_of is_held ds

-- ---- the claims

-- a change of one dbuf changes the claims by that dbuf's, where they stand
pub record ClaimsChanged {H : Type 0} (n : ℕ) (old new : List Mapping) (ds changed : List (Dbuf H)) : Type 0 where
  pub front : List Mapping
  pub back : List Mapping
  pub before : claims_in n ds ≡ front ++ old ++ back
  pub now : claims_in n changed ≡ front ++ new ++ back

abbrev pub ClaimsChange : Type 0 → Type 0
ClaimsChange H = (at : Oid) (f : Dbuf H → Dbuf H) (n : ℕ) (ds : List (Dbuf H)) (d : Dbuf H) → dbuf_at at ds ≡ Some d
    → ClaimsChanged n (claim_in n d.at d.content d.state) (claim_in n (f d).at (f d).content (f d).state) ds (with_dbuf at f ds)

-- a change that leaves each number's claim of a dbuf leaves the claims; so does a new dbuf that nobody reads, and an event that is noted
abbrev pub ClaimsStay : Type 0 → Type 0
ClaimsStay H = (at : Oid) (f : Dbuf H → Dbuf H) (n : ℕ) (ds : List (Dbuf H))
    → ((d : Dbuf H) → dbuf_at at ds ≡ Some d → claim_in n (f d).at (f d).content (f d).state ≡ claim_in n d.at d.content d.state) → claims_in n (with_dbuf at f ds) ≡ claims_in n ds

abbrev pub ClaimsStayByNote : Type 0 → Type 0
ClaimsStayByNote H = (n tick : ℕ) (used : Option Oid) (ds : List (Dbuf H)) → claims_in n (touched tick used ds) ≡ claims_in n ds

abbrev pub ClaimsStayByEnd : Type 0 → Type 0
ClaimsStayByEnd H = (n : ℕ) (ds : List (Dbuf H)) → claims_in n (map cleared ds) ≡ claims_in n ds

abbrev pub ClaimsStayByNew : Type 0 → Type 0
ClaimsStayByNew H = (n : ℕ) (ds : List (Dbuf H)) (d : Dbuf H) → claim_in n d.at d.content d.state ≡ [] → claims_in n (ds ++ d ∷ []) ≡ claims_in n ds

-- what a number claims is a clean block with this pointer, which that number is reading
abbrev pub ClaimedIsRead : Type 0 → Type 0
ClaimedIsRead H = (n : ℕ) (m : Mapping) (ds : List (Dbuf H)) (front back : List Mapping) → IsTrue (is_distinct dbuf_oid ds) → claims_in n ds ≡ front ++ m ∷ back
    → DbufHas (λ d. (d.content ≡ Clean m.ptr) × (d.state ≡ state.Read n)) (dbuf_at m.at ds)

-- ---- rest: no dbuf is being filled or evicted

abbrev pub are_at_rest : {H : Type 0} → List (Dbuf H) → Bool
are_at_rest ds = list_all (λ d. not (is_passing d.state)) ds

-- a change of one dbuf leaves them at rest where that dbuf is at rest behind it; so do an event that is noted and a new dbuf at rest
abbrev pub RestStays : Type 0 → Type 0
RestStays H = (at : Oid) (f : Dbuf H → Dbuf H) (ds : List (Dbuf H)) → ((d : Dbuf H) → dbuf_at at ds ≡ Some d → is_passing (f d).state ≡ false) → IsTrue (are_at_rest ds)
    → IsTrue (are_at_rest (with_dbuf at f ds))

abbrev pub RestStaysByNote : Type 0 → Type 0
RestStaysByNote H = (tick : ℕ) (used : Option Oid) (ds : List (Dbuf H)) → are_at_rest (touched tick used ds) ≡ are_at_rest ds

abbrev pub RestStaysByNew : Type 0 → Type 0
RestStaysByNew H = (ds : List (Dbuf H)) (d : Dbuf H) → is_passing d.state ≡ false → IsTrue (are_at_rest ds) → IsTrue (are_at_rest (ds ++ d ∷ []))

-- each dbuf is at rest or clean; that stays so while clean blocks are taken out, and an end leaves all at rest
abbrev pub are_clean_or_rest : {H : Type 0} → List (Dbuf H) → Bool
are_clean_or_rest ds = list_all (λ d. is_clean d.content || not (is_passing d.state)) ds

abbrev pub RestLasts : Type 0 → Type 0
RestLasts H = (ds : List (Dbuf H)) → IsTrue (are_at_rest ds) → IsTrue (are_clean_or_rest ds)

abbrev pub RestLastsByUnkeep : Type 0 → Type 0
RestLastsByUnkeep H = (at : Oid) (s : DbState) (ds : List (Dbuf H)) → IsTrue (dbuf_is (is_clean_in is_cached) at ds) → IsTrue (are_clean_or_rest ds) → IsTrue (are_clean_or_rest (with_dbuf at (without_kept s) ds))

abbrev pub EndRests : Type 0 → Type 0
EndRests H = (ds : List (Dbuf H)) → IsTrue (are_clean_or_rest ds) → IsTrue (are_at_rest (map cleared ds))

-- ---- what a sound cell keeps

-- dbufs that are fit keep a block exactly where it is clean and cached
abbrev pub FitKeeps : {H : Type 0} → (H → Key) → (H → List ℕ) → Type 0
FitKeeps {H} key_of bytes_of = (ds : List (Dbuf H)) → AllByRecursion (IsFit key_of bytes_of) ds → AllByRecursion KeepsWhereCached ds

-- a sound cell keeps nothing behind its end
abbrev pub EndedKeepsNothing : {H : Type 0} → (H → Key) → (H → List ℕ) → (H → Bool) → Type 0
EndedKeepsNothing {H} key_of bytes_of is_held = (c : CellLog H) (front : List CellEvent) (n : ℕ) → IsSound c → c.history ≡ front ++ End n ∷ [] → holds_in key_of bytes_of is_held c.dbufs ≡ []
