-- What is so of a cell and of the party that has it while a block is brought, and behind that.
use Rattle.std.specs.Prelude.{◌≡◌, ◌≢◌, ℕ, ◌+◌, ◌≤◌, ◌<◌, ◌⊎◌, Bool, true, if◌then◌else◌, not, IsTrue, List, [], ◌∷◌, ◌++◌, length, Option, Some, None, Result, Ok, Err}
use Rattle.std.specs.List.{filter}
use Rattle.std.specs.Option.{option_map}
use Rattle.blk_ptr.specs.declared.ptr.Ptr.{Ptr}
use Rattle.blk_ptr.specs.Ptr.{IsOf}
use Rattle.vdev_io.specs.declared.device.CacheDev.{Ghosts as DeviceGhosts}
use Rattle.vdev_io.specs.declared.pool.Pool.{Ghosts as PoolGhosts}
use Rattle.arc_core.specs.declared.config.Config.{Config}
use Rattle.arc_core.specs.declared.event.Event.{Event}
use Rattle.arc_core.specs.declared.event.Event.TheVariants.{Hand}
use Rattle.arc_table.specs.Both.{Does}
use Rattle.arc_table.specs.Cache.{Cache, IsPartyOf}
use Rattle.arc_table.specs.Fronts.{list_at}
use Rattle.arc_table.specs.Geometry.{cell_number}
use Rattle.arc_table.specs.Holding.{IsHoldOf, IsOneOf, ptr_of}
use Rattle.arc_table.specs.Reading.{Outside}
use Rattle.arc_table.specs.declared.read.Read.{Read}
use Rattle.arc_table.specs.declared.read.Read.TheVariants as gave
use Rattle.dbuf_state.specs.Answers.{IsAnswer}
use Rattle.dbuf_state.specs.CellLog.{CellLog, noted}
use Rattle.dbuf_state.specs.Dbufs.{DbufHas, dbuf_at, is_cached, is_clean_in, is_uncached, mapped_of, size_of}
use Rattle.dbuf_state.specs.Dbufs as concrete
use Rattle.dbuf_state.specs.InHand.{are_at_rest}
use Rattle.dbuf_state.specs.Numbers.{claims_in, mapping_numbers, number_of}
use Rattle.dbuf_state.specs.Objects.{Evicting, IsBase, IsLegal, May, Must, Never, evicting_after, is_due}
use Rattle.dbuf_state.specs.Oids.{oid_eq}
use Rattle.dbuf_state.specs.Outline.{mapped_at, mapped_size}
use Rattle.dbuf_state.specs.Soundness.{plain_cell}
use Rattle.dbuf_state.specs.Steps.{Follows}
use Rattle.dbuf_state.specs.declared.dbuf.Content.TheVariants as content
use Rattle.dbuf_state.specs.declared.dbuf.Dbuf.{Dbuf}
use Rattle.dbuf_state.specs.declared.event.CellEvent.{CellEvent}
use Rattle.dbuf_state.specs.declared.event.CellEvent.TheVariants.{Load}
use Rattle.dbuf_state.specs.declared.fault.DbufFault.{DbufFault}
use Rattle.dbuf_state.specs.declared.fault.DbufFault.TheVariants as fault
use Rattle.dbuf_state.specs.declared.oid.Oid.{Oid}
use Rattle.dbuf_state.specs.declared.state.DbState.{DbState}
use Rattle.dbuf_state.specs.declared.state.DbState.TheVariants as state
use Rattle.dbuf_state.specs.declared.state.Mapped.{Mapped}
use Rattle.dbuf_state.specs.declared.state.Mapped.TheVariants as mapped
use Rattle.dbuf_state.specs.declared.state.Mapping.{Mapping}
use Rattle.dbuf_state.specs.declared.window.Window.{Window}
use Rattle.dbuf_cells.specs.Bringing.{Brings, DropsRead, FailsToLoad, IsUnmarked, handed, held_behind, is_some_made, gives_hold}
use Rattle.dbuf_cells.specs.InHand.{AsTaken, ClaimsAre, HasGiven, HoldsStay, InHand, IsRoomier}
use Rattle.dbuf_cells.specs.Turns.{KeepsClaims, OnHeap, Operates, PartyPlace, dbuf_meanings, held_at, held_in, holds_of, outline_in}
use Rattle.dbuf_cells.specs.declared.kept.Kept.{Kept}
use Rattle.dbuf_cells.specs.declared.kept.Kept.TheVariants.{Held, Loose}
use Rattle.dbuf_state.specs.Held.{held_after}

-- ---- what a block is

-- what the object map has of the block, among these dbufs
abbrev pub mapped_in : Oid → List (Dbuf Kept) → Option Mapped
mapped_in at ds = option_map (λ d. mapped_of d.content) (dbuf_at at ds)

-- whose bytes have to be brought, by what is mapped and how far its dbuf is
abbrev pub to_load : Option Mapped → DbState → Option Ptr
to_load None s = None
to_load (Some (mapped.Clean ptr)) s = if is_uncached s then Some ptr else None
to_load (Some (mapped.Dirty size)) s = None

-- how a range that ends here is tested
abbrev pub Tests : {T : Type 0} → Oid → (last : ℕ) → Option Mapped → Result T DbufFault → Type 0
Tests at last None (Err (fault.NoBlock named)) = named ≡ at
Tests at last (Some m) (Err (fault.Range end size)) = (end ≡ last) × (size ≡ mapped_size m) × (size < end)
Tests at last (Some m) (Ok done) = last ≤ mapped_size m
Tests at last _ _ = ⊥

-- among these dbufs the block is clean with this pointer, and nobody has its bytes or brings them
pub record IsToLoad (at : Oid) (ptr : Ptr) (ds : List (Dbuf Kept)) : Type 0 where
  pub pointer : mapped_in at ds ≡ Some (mapped.Clean ptr)
  pub uncached : concrete.dbuf_is (is_clean_in is_uncached) at ds ≡ true

-- among these the number n brings the bytes of the pointer
abbrev pub IsBroughtBy : (n : ℕ) → Oid → Ptr → List (Dbuf Kept) → Type 0
IsBroughtBy n at ptr ds = DbufHas (λ d. (d.content ≡ content.Clean ptr) × (d.state ≡ state.Read n)) (dbuf_at at ds)

-- among these the block is clean with this pointer, and the dbuf has its bytes
abbrev pub IsLoaded : Oid → Ptr → List (Dbuf Kept) → Type 0
IsLoaded at ptr ds = DbufHas (λ d. (d.content ≡ content.Clean ptr) × (d.state ≡ state.Cached)) (dbuf_at at ds)

-- ---- what is claimed of other blocks than one

abbrev pub other_claims : Oid → List Mapping → List Mapping
other_claims at ms = filter (λ m. not (oid_eq at m.at)) ms

-- apart from the block the party claims of the cell i what the number n claimed of these dbufs
pub record ClaimsBesides (i n : ℕ) (at : Oid) (ds : List (Dbuf Kept)) (p : PartyPlace) : Type 0 where
  pub claims : List Mapping
  pub listed : list_at i p.own.ledger.claims ≡ mapping_numbers claims
  pub others : other_claims at claims ≡ claims_in n ds

-- the block is claimed no more, and what the party p claimed of the cell i besides, q claims still
abbrev pub KeepsOthers : (i : ℕ) → Oid → (p q : PartyPlace) → Type 0
KeepsOthers i at p q = (ms : List Mapping) → list_at i p.own.ledger.claims ≡ mapping_numbers ms → list_at i q.own.ledger.claims ≡ mapping_numbers (other_claims at ms)

-- the block is claimed no more, and what each number claimed besides of these dbufs, it claims of those
abbrev pub AreUnclaimed : Oid → (old now : List (Dbuf Kept)) → Type 0
AreUnclaimed at old now = (n : ℕ) → claims_in n now ≡ other_claims at (claims_in n old)

-- ---- what a read gave

-- what the party read has the pointer's bytes, and a hold is its own
abbrev pub IsReadOf : Ptr → PartyPlace → Read → Type 0
IsReadOf ptr p (gave.Held hold from) = IsHoldOf ptr p.number hold × IsOneOf (ptr_of hold) p.own.ledger.holds
IsReadOf ptr p (gave.Past block kept) = IsOf block.value ptr

-- What a read gave is the cell's to keep: a hold was handed to it, and a block that was read past the cache is loose. Or memory was refused, and
-- what was read came back.
abbrev pub HandsOn : Config → (i : ℕ) → Ptr → Read → PartyPlace → PartyPlace → Result Kept Read → Type 0
HandsOn g i ptr (gave.Held hold from) p q (Ok (Held kept)) = Does dbuf_meanings g hold.key (Hand p.number hold.key (cell_number g i) ∷ []) p q × (kept ≡ record hold { owner = cell_number g i })
HandsOn g i ptr (gave.Held hold from) p q (Ok (Loose key block)) = ⊥
HandsOn g i ptr (gave.Past shared digest) p q (Ok (Held kept)) = ⊥
HandsOn g i ptr (gave.Past shared digest) p q (Ok (Loose key block)) = (q ≡ p) × (key ≡ ptr.key) × (block.value ≡ shared.value)
HandsOn g i ptr (gave.Held hold from) p q (Err back) = ((q ≡ p) ⊎ Does dbuf_meanings g hold.key [] p q) × (back ≡ gave.Held hold from)
HandsOn g i ptr (gave.Past shared digest) p q (Err back) = (q ≡ p) × (back ≡ gave.Past shared digest)

-- ---- the cell in hand

-- the party has just taken the cell, and holds no other turn
pub record TakenAlone (cache : Cache) (i : ℕ) (cell : OnHeap) (q : PartyPlace) : Type 0 where
  pub from : PartyPlace
  pub taken : AsTaken cache i from cell cell.value q
  pub alone : from.held ≡ []

-- it has just taken it, as a cell that is so now
abbrev pub SomeTaken : Cache → (i : ℕ) → CellLog Kept → PartyPlace → Type 0
SomeTaken cache i now q = (p : PartyPlace) × (before : OnHeap) × AsTaken cache i p before now q

-- what was read is the cell's, and the Load is noted
pub record HasKept (cache : Cache) (i : ℕ) (at : Oid) (ptr : Ptr) (p : PartyPlace) (before : OnHeap) (read : Read) (now : CellLog Kept) (q : PartyPlace) : Type 0 where
  pub hand : InHand cache i p before May (Load p.number at (gives_hold read) ∷ []) (handed p.number (cell_number cache.config i) read) now q
  pub there : IsLoaded at ptr now.dbufs

abbrev pub Keeps : Cache → (i : ℕ) → Oid → Ptr → Read → (old now : CellLog Kept) → (q r : PartyPlace) → Type 0
Keeps cache i at ptr read old now q r = (p : PartyPlace) (before : OnHeap) → AsTaken cache i p before old q → HasKept cache i at ptr p before read now r

-- the mark was taken back, and what was read is the party's still
pub record HasUnread (cache : Cache) (i : ℕ) (at : Oid) (ptr : Ptr) (read back : Read) (old now : CellLog Kept) (q r : PartyPlace) : Type 0 where
  pub same : back ≡ read
  pub of : IsReadOf ptr r back
  pub uncached : DbufHas (λ d. d.state ≡ state.Uncached) (dbuf_at at now.dbufs)
  pub taken : (p : PartyPlace) (before : OnHeap) → AsTaken cache i p before old q → AsTaken cache i p before now r

-- among these dbufs now each keeps a hold where it did among those, but for the block's, which does where this says so
abbrev pub AreHeldBut : Oid → (held : Bool) → (old now : List (Dbuf Kept)) → Type 0
AreHeldBut at held old now = (b : Oid) → held_at now b ≡ (if oid_eq at b then held else held_at old b)

-- ---- the end of a load

-- the cell was taken again, and keeps what was read
pub record EndsKept (cache : Cache) (i : ℕ) (at : Oid) (ptr : Ptr) (read : Read) (p : PartyPlace) (cell : OnHeap) (q : PartyPlace) : Type 0 where
  pub mid : OnHeap
  pub pointer : mapped_at at (outline_in mid) ≡ Some (mapped.Clean ptr)
  pub brought : IsBroughtBy p.number at ptr mid.value.dbufs
  pub kept : HasKept cache i at ptr p mid read cell.value q
  pub held : AreHeldBut at (is_some_made (handed p.number (cell_number cache.config i) read)) mid.value.dbufs cell.value.dbufs
  pub claimed : ClaimsAre i q.number mid.value p
  pub unclaimed : AreUnclaimed at mid.value.dbufs cell.value.dbufs

-- memory was refused: the mark was taken back, and then what was read given back
pub record EndsUnkept (cache : Cache) (i : ℕ) (at : Oid) (read : Read) (p : PartyPlace) (why : DbufFault) (q : PartyPlace) : Type 0 where
  pub mid : OnHeap
  pub free : PartyPlace
  pub given : HasGiven cache i p mid [] [] free
  pub unmarked : IsUnmarked i at free
  pub drops : DropsRead cache.config read free q
  pub is : why ≡ fault.NoMemory
  pub party : IsPartyOf cache q
  pub held : q.held ≡ p.held
  pub number : q.number ≡ p.number
  pub others : KeepsOthers i at p q
  pub elsewhere : (j : ℕ) → j ≢ i → list_at j q.own.ledger.claims ≡ list_at j p.own.ledger.claims

abbrev pub EndsLoad : Cache → (i : ℕ) → Oid → Ptr → Read → (p q : PartyPlace) → Result OnHeap DbufFault → Type 0
EndsLoad cache i at ptr read p q (Ok cell) = EndsKept cache i at ptr read p cell q
EndsLoad cache i at ptr read p q (Err why) = EndsUnkept cache i at read p why q

-- ---- a block whose bytes are there

module _ {P D : Type 0} (pools : PoolGhosts P) (devices : DeviceGhosts D) (cache : Cache) (i : ℕ) (at : Oid) (t : ℕ) (before now : Outside P D) where
  -- The cell, which was so when the party p took it, is in hand with the block's bytes.
  pub record HasBrought (cell : OnHeap) (p : PartyPlace) (result : OnHeap) (q : PartyPlace) : Type 0 where
    pub back : PartyPlace
    pub mid : OnHeap
    pub evicting : Evicting
    pub loads : List CellEvent
    pub hands : List Event
    pub brings : Brings pools devices cache.config i at t before now cell p back mid loads hands
    pub hand : InHand cache i back mid evicting loads hands result.value q
    pub settled : IsTrue (not (is_due (plain_cell evicting result.value)))
    pub number : back.number ≡ p.number
    pub held : back.held ≡ []
    pub claimed : ClaimsAre i q.number result.value p
    pub holds : (b : Oid) → held_at result.value.dbufs b ≡ held_behind at loads hands (held_in mid) b
    pub others : (j : ℕ) → j ≢ i → list_at j back.own.ledger.claims ≡ list_at j p.own.ledger.claims
    pub cached : concrete.dbuf_is (λ d. is_cached d.state) at result.value.dbufs ≡ true
    pub mapped : mapped_in at result.value.dbufs ≡ mapped_in at cell.value.dbufs
    -- an answer at the cell now is one at what it was
    pub answers : (w : Window) (size : ℕ) (shown : List ℕ) → IsAnswer (plain_cell Never result.value) at w size shown → IsAnswer (plain_cell Never mid.value) at w size shown

  -- it could not be brought
  pub record HasFailed (cell : OnHeap) (p q : PartyPlace) (why : DbufFault) : Type 0 where
    pub fails : FailsToLoad pools devices cache.config i at t before now cell p q why
    pub party : IsPartyOf cache q
    pub held : q.held ≡ []
    pub number : q.number ≡ p.number
    pub claims : KeepsClaims p q

  abbrev pub IsBrought : OnHeap → (p q : PartyPlace) → Result OnHeap DbufFault → Type 0
  IsBrought cell p q (Ok result) = HasBrought cell p result q
  IsBrought cell p q (Err why) = HasFailed cell p q why

  -- whatever the party was that took the cell, without another turn
  abbrev pub BringsAlone : OnHeap → (q r : PartyPlace) → Result OnHeap DbufFault → Type 0
  BringsAlone cell q r result = (p : PartyPlace) → AsTaken cache i p cell cell.value q → p.held ≡ [] → ClaimsAre i q.number cell.value p → IsBrought cell p r result

-- ---- an operation's own event

-- The event, which is n's, was noted, with room for the evictions that may follow it. It changed these dbufs, and nothing that is kept or claimed.
pub record Notes (n : ℕ) (e : CellEvent) (old new : CellLog Kept) : Type 0 where
  pub roomy : CellLog Kept
  pub made : IsRoomier old roomy
  pub room : 1 + length old.dbufs ≤ roomy.event_room
  pub dbufs : List (Dbuf Kept)
  pub count : length dbufs ≡ length roomy.dbufs
  pub noted_is : new ≡ noted e (record roomy { dbufs = dbufs })
  pub legal : (evicting : Evicting) → IsTrue (not (is_due (plain_cell evicting roomy))) → IsLegal (plain_cell evicting roomy) e
  pub base : (evicting : Evicting) → IsBase [] (plain_cell evicting roomy) e
  pub follows : Follows [] roomy e dbufs
  pub who : number_of e ≡ n
  pub must : (evicting : Evicting) → evicting_after evicting e ≡ Must
  pub rest : IsTrue (are_at_rest roomy.dbufs) → IsTrue (are_at_rest dbufs)
  pub claims : (k : ℕ) → claims_in k dbufs ≡ claims_in k roomy.dbufs
  pub holds : holds_of (record roomy { dbufs = dbufs }) ≡ holds_of roomy
  pub stay : HoldsStay roomy.dbufs dbufs
  pub tells : (b : Oid) → held_at dbufs b ≡ held_after b (held_at roomy.dbufs b) e

-- in the turn in which these things were done, the event was made too, and evictions, and the cell was given back
pub record HasOperated (cache : Cache) (i : ℕ) (p : PartyPlace) (before : OnHeap) (holding : Oid → Bool) (news : List CellEvent) (es : List Event) (r : PartyPlace) : Type 0 where
  pub operates : Operates cache.config i before holding news es p r
  pub party : IsPartyOf cache r
  pub held : r.held ≡ p.held
  pub number : r.number ≡ p.number
  pub others : (j : ℕ) → j ≢ i → list_at j r.own.ledger.claims ≡ list_at j p.own.ledger.claims

abbrev pub EndsWith : Cache → (i : ℕ) → CellEvent → CellLog Kept → (q r : PartyPlace) → Type 0
EndsWith cache i e old q r = (p : PartyPlace) (before : OnHeap) (evicting : Evicting) (news : List CellEvent) (es : List Event)
    → IsTrue (not (is_due (plain_cell evicting old))) → InHand cache i p before evicting news es old q → HasOperated cache i p before (held_at old.dbufs) (news ++ e ∷ []) es r
