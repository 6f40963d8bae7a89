-- A block is brought: what the two turns and the read between them come to.
use Rattle.std.proofs.Common.{◌≡◌, ◌≢◌, ℕ, Bool, true, false, ◌&&◌, if◌then◌else◌, List, [], ◌∷◌, Option, Some, None, refl, sym, ap, ◌∙◌, subst}
use Rattle.std.specs.Prelude.{Result, Ok, Err}
use Rattle.std.specs.Option.{option_map, option_map_or}
use Rattle.std.proofs.lemmas.Bool.{false≢true}
use Rattle.blk_ptr.specs.Ptr.{IsOf}
use Rattle.blk_ptr.specs.declared.ptr.Ptr.{Ptr}
use Rattle.vdev_io.specs.declared.device.CacheDev.{Ghosts as DeviceGhosts}
use Rattle.vdev_io.specs.declared.pool.Pool.{Ghosts as PoolGhosts}
use Rattle.arc_core.specs.Config.{IsConfig}
use Rattle.arc_core.specs.declared.config.Config.{Config}
use Rattle.arc_core.specs.declared.event.Event.TheVariants.{Drop}
use Rattle.arc_core.specs.declared.served.ReadFault.{ReadFault}
use Rattle.arc_table.specs.Cache.{Cache}
use Rattle.arc_table.specs.Fronts.{list_at}
use Rattle.arc_table.specs.Geometry.{cell_number}
use Rattle.arc_table.specs.Holding.{IsHoldOf, IsOneOf, ptr_of}
use Rattle.arc_table.specs.Reading.{AnswersRead, Outside}
use Rattle.arc_table.specs.declared.read.Read.{Read}
use Rattle.arc_table.specs.declared.read.Read.TheVariants as gave
use Rattle.arc_table.proofs.reads.AfterRead.{stays_same}
use Rattle.arc_table.proofs.Afterwards.{Stays, does_stays}
use Rattle.dbuf_state.specs.Answers.{IsAnswer, AreBytesAt}
use Rattle.dbuf_state.specs.CellLog.{CellLog}
use Rattle.dbuf_state.specs.Dbufs.{DbufHas, dbuf_at, dbuf_is, is_cached, is_clean, is_clean_in, is_uncached, mapped_of, plain_block, plain_dbuf}
use Rattle.dbuf_state.specs.Faults.{fault_of}
use Rattle.dbuf_state.specs.Numbers.{claims_in, mapping_numbers}
use Rattle.dbuf_state.specs.Objects.{AreBytesOf, Block, Cached, Uncached, May, Never, PlainDbuf}
use Rattle.dbuf_state.specs.Objects as plain
use Rattle.dbuf_state.specs.Outline.{is_cached_at, mapped_at}
use Rattle.dbuf_state.specs.Soundness.{plain_cell}
use Rattle.dbuf_state.specs.declared.dbuf.Content.{Content}
use Rattle.dbuf_state.specs.declared.dbuf.Content.TheVariants as content
use Rattle.dbuf_state.specs.declared.dbuf.Dbuf.{Dbuf}
use Rattle.dbuf_state.specs.declared.event.CellEvent.TheVariants.{Load}
use Rattle.dbuf_state.specs.declared.fault.DbufFault.{DbufFault}
use Rattle.dbuf_state.specs.declared.oid.Oid.{Oid}
use Rattle.dbuf_state.specs.declared.state.DbState.{DbState}
use Rattle.dbuf_state.specs.declared.state.DbState.TheVariants as state
use Rattle.dbuf_state.specs.declared.state.Mapped.TheVariants as mapped
use Rattle.dbuf_state.specs.declared.window.Window.{Window}
use Rattle.dbuf_state.proofs.FitLemmas.{from-has}
use Rattle.dbuf_state.proofs.HandLemmas.{plain-dbuf-is}
use Rattle.dbuf_state.proofs.OutlineLemmas.{cell-is-in-outline}
use Rattle.dbuf_cells.specs.Bringing.{Claims, DropsRead, Reads, handed, here, loaded, no_memory, refused, IsUnmarked, gives_hold}
use Rattle.dbuf_cells.specs.InHand.{AsTaken, ClaimsAre, Gives, HasGiven}
use Rattle.dbuf_cells.specs.Loading.{ClaimsBesides, EndsKept, EndsLoad, EndsUnkept, HasBrought, HasFailed, IsBrought, IsBroughtBy, IsLoaded, IsReadOf, IsToLoad, KeepsOthers, mapped_in, other_claims}
use Rattle.dbuf_cells.specs.Turns.{KeepsClaims, OnHeap, PartyPlace, dbuf_meanings, outline_in}
use Rattle.dbuf_cells.proofs.Claims.{keeps-claims, same-mappings}
use Rattle.dbuf_cells.specs.declared.kept.Kept.{Kept}
use Rattle.dbuf_cells.proofs.ReadLemmas.{Claiming, read-claims, does-claims}

-- ---- a clean block

-- among these dbufs the block is clean with this pointer
abbrev pub IsCleanOf : Oid → Ptr → List (Dbuf Kept) → Type 0
IsCleanOf at ptr ds = DbufHas (λ d. d.content ≡ content.Clean ptr) (dbuf_at at ds)

pub brought-clean : (n : ℕ) (at : Oid) (ptr : Ptr) (ds : List (Dbuf Kept)) → IsBroughtBy n at ptr ds → IsCleanOf at ptr ds
brought-clean n at ptr ds brought = from-has (λ d. (d.content ≡ content.Clean ptr) × (d.state ≡ state.Read n)) (λ d. d.content ≡ content.Clean ptr) (λ d b. b.0) at ds brought

pub loaded-clean : (at : Oid) (ptr : Ptr) (ds : List (Dbuf Kept)) → IsLoaded at ptr ds → IsCleanOf at ptr ds
loaded-clean at ptr ds there = from-has (λ d. (d.content ≡ content.Clean ptr) × (d.state ≡ state.Cached)) (λ d. d.content ≡ content.Clean ptr) (λ d b. b.0) at ds there

pub mapped-clean : (at : Oid) (ptr : Ptr) (ds : List (Dbuf Kept)) → IsCleanOf at ptr ds → mapped_in at ds ≡ Some (mapped.Clean ptr)
mapped-clean at ptr ds clean = go (dbuf_at at ds) clean
  where
    go : (o : Option (Dbuf Kept)) → DbufHas (λ d. d.content ≡ content.Clean ptr) o → option_map (λ d. mapped_of d.content) o ≡ Some (mapped.Clean ptr)
    go None c = absurd c
    go (Some d) c = ap (λ (k : Content). Some (mapped_of k)) c

pub in-outline : (b : OnHeap) (at : Oid) → mapped_at at (outline_in b) ≡ mapped_in at b.value.dbufs
in-outline b at = sym (cell-is-in-outline plain.Never b.value at).mapped

loaded-cached : (at : Oid) (ptr : Ptr) (ds : List (Dbuf Kept)) → IsLoaded at ptr ds → dbuf_is (λ d. is_cached d.state) at ds ≡ true
loaded-cached at ptr ds there = go (dbuf_at at ds) there
  where
    go : (o : Option (Dbuf Kept)) → DbufHas (λ d. (d.content ≡ content.Clean ptr) × (d.state ≡ state.Cached)) o → option_map_or (λ d. is_cached d.state) o false ≡ true
    go None c = absurd c
    go (Some d) c = ap is_cached c.1

uncached-here : (b : OnHeap) (at : Oid) → dbuf_is (is_clean_in is_uncached) at b.value.dbufs ≡ true → is_cached_at at (outline_in b) ≡ false
uncached-here b at h = sym (cell-is-in-outline plain.Never b.value at).cached ∙ go (dbuf_at at b.value.dbufs) h
  where
    one : (c : Content) (s : DbState) → (is_clean c && is_uncached s) ≡ true → (is_clean c && is_cached s) ≡ false
    one (content.Dirty bytes) s h = refl
    one (content.Clean ptr) state.Uncached h = refl
    one (content.Clean ptr) (state.Read n) h = refl
    one (content.Clean ptr) state.Fill h = refl
    one (content.Clean ptr) state.Cached h = absurd (false≢true h)
    one (content.Clean ptr) state.Evicting h = refl

    go : (o : Option (Dbuf Kept)) → option_map_or (is_clean_in is_uncached) o false ≡ true → option_map_or (is_clean_in is_cached) o false ≡ false
    go None h = refl
    go (Some d) h = one d.content d.state h

-- ---- an answer at a clean block is one wherever the block is clean with that pointer

block-of : (bytes : List ℕ) (ptr : Ptr) (c : Content) (s : DbState) → c ≡ content.Clean ptr → AreBytesOf bytes (plain_block c s) → IsOf bytes ptr
block-of bytes ptr c s clean are = by (is_cached s) (subst (λ (k : Content). AreBytesOf bytes (plain_block k s)) clean are)
  where
    by : (b : Bool) → AreBytesOf bytes (if b then Cached ptr else Uncached ptr) → IsOf bytes ptr
    by true h = h
    by false h = h

of-block : (bytes : List ℕ) (ptr : Ptr) (c : Content) (s : DbState) → c ≡ content.Clean ptr → IsOf bytes ptr → AreBytesOf bytes (plain_block c s)
of-block bytes ptr c s clean of = subst (λ (k : Content). AreBytesOf bytes (plain_block k s)) (sym clean) (by (is_cached s) of)
  where
    by : (b : Bool) → IsOf bytes ptr → AreBytesOf bytes (if b then Cached ptr else Uncached ptr)
    by true h = h
    by false h = h

bytes-move : (bytes : List ℕ) (ptr : Ptr) (o u : Option (Dbuf Kept)) → DbufHas (λ d. d.content ≡ content.Clean ptr) o → DbufHas (λ d. d.content ≡ content.Clean ptr) u → AreBytesAt bytes (option_map plain_dbuf o) → AreBytesAt bytes (option_map plain_dbuf u)
bytes-move bytes ptr None u c e are = absurd c
bytes-move bytes ptr (Some d) None c e are = absurd e
bytes-move bytes ptr (Some d) (Some x) c e are = of-block bytes ptr x.content x.state e (block-of bytes ptr d.content d.state c are)

pub answer-moves : (old new : CellLog Kept) (at : Oid) (ptr : Ptr) → IsCleanOf at ptr old.dbufs → IsCleanOf at ptr new.dbufs → (w : Window) (size : ℕ) (shown : List ℕ) → IsAnswer (plain_cell Never new) at w size shown → IsAnswer (plain_cell Never old) at w size shown
answer-moves old new at ptr clean still w size shown a = record {
  bytes = a.bytes;
  of = subst (AreBytesAt a.bytes) (sym (plain-dbuf-is Never old at)) (bytes-move a.bytes ptr (dbuf_at at new.dbufs) (dbuf_at at old.dbufs) still clean (subst (AreBytesAt a.bytes) (plain-dbuf-is Never new at) a.of));
  sized = a.sized;
  inside = a.inside;
  window = a.window;
}

-- ---- what was read is given back

pub drops-stays : (g : Config) (valid : IsConfig g) (read : Read) (p q : PartyPlace) → p.own.about.config ≡ g → DropsRead g read p q → Stays p q
drops-stays g valid (gave.Held hold from) p q config d = does_stays dbuf_meanings g valid hold.key (Drop p.number hold.key ∷ []) p q config d
drops-stays g valid (gave.Past block kept) p q config d = stays_same p q d

pub drops-claims : (g : Config) (valid : IsConfig g) (read : Read) (p q : PartyPlace) → p.own.about.config ≡ g → DropsRead g read p q → q.own.ledger.claims ≡ p.own.ledger.claims
drops-claims g valid (gave.Held hold from) p q config d = (does-claims dbuf_meanings g valid hold.key (Drop p.number hold.key ∷ []) p q config d).claims
drops-claims g valid (gave.Past block kept) p q config d = ap (λ (x : PartyPlace). x.own.ledger.claims) d

pub read-still : (ptr : Ptr) (p q : PartyPlace) (read : Read) → q.number ≡ p.number → q.own.ledger.holds ≡ p.own.ledger.holds → IsReadOf ptr p read → IsReadOf ptr q read
read-still ptr p q (gave.Held hold from) number holds of = (subst (λ (n : ℕ). IsHoldOf ptr n hold) (sym number) of.0, subst (IsOneOf (ptr_of hold)) (sym holds) of.1)
read-still ptr p q (gave.Past block kept) number holds of = of

pub claims-still : (i : ℕ) (at : Oid) (ptr : Ptr) (p q : PartyPlace) → q.own.ledger.claims ≡ p.own.ledger.claims → Claims i at ptr p → Claims i at ptr q
claims-still i at ptr p q same c = record { front = c.front; back = c.back; listed = ap (list_at i) same ∙ c.listed }

-- ---- the block's bytes are there

module _ {P D : Type 0} (pools : PoolGhosts P) (devices : DeviceGhosts D) (cache : Cache) (i : ℕ) (at : Oid) (tick : ℕ) (before now : Outside P D) (cell : OnHeap) (p q : PartyPlace) (t : AsTaken cache i p cell cell.value q) (free : p.held ≡ []) where
  pub brought-here : now ≡ before → dbuf_is (λ d. is_cached d.state) at cell.value.dbufs ≡ true → ClaimsAre i q.number cell.value p → HasBrought pools devices cache i at tick before now cell p cell q
  brought-here same cached claimed = record {
    back = p;
    mid = cell;
    evicting = t.evicting;
    loads = [];
    hands = [];
    brings = here refl refl refl refl same;
    hand = t.hand;
    settled = t.settled;
    number = refl;
    held = free;
    claimed = claimed;
    holds = λ b. refl;
    others = λ j far. refl;
    cached = cached;
    mapped = refl;
    answers = λ w size shown a. a;
  }

  module _ (ptr : Ptr) (to : IsToLoad at ptr cell.value.dbufs) (marked : PartyPlace) (gives : Gives cache i cell.value q marked) (claims : Claims i at ptr marked) (back : PartyPlace) where
    pub marked-given : HasGiven cache i p cell [] [] marked
    marked-given = gives p cell t.evicting [] [] t.settled t.hand

    reads : (answer : Result Read ReadFault) → AnswersRead dbuf_meanings pools devices cache.config ptr tick before now marked back answer → Reads pools devices cache.config i at tick before now ptr cell p back answer
    reads answer a = record {
      pointer = in-outline cell at ∙ to.pointer;
      uncached = uncached-here cell at to.uncached;
      marked = marked;
      turn = marked-given.turn;
      claims = claims;
      answered = a;
    }

    claiming : (answer : Result Read ReadFault) → AnswersRead dbuf_meanings pools devices cache.config ptr tick before now marked back answer → Claiming marked back
    claiming answer a = read-claims dbuf_meanings cache.config t.hand.party.valid pools devices ptr tick before now marked back answer marked-given.party.config a

    pub back-claims : (answer : Result Read ReadFault) → AnswersRead dbuf_meanings pools devices cache.config ptr tick before now marked back answer → Claims i at ptr back
    back-claims answer a = claims-still i at ptr marked back (claiming answer a).claims claims

    back-number : (answer : Result Read ReadFault) → AnswersRead dbuf_meanings pools devices cache.config ptr tick before now marked back answer → back.number ≡ p.number
    back-number answer a = (claiming answer a).stays.number ∙ marked-given.number

    pub back-free : (answer : Result Read ReadFault) → AnswersRead dbuf_meanings pools devices cache.config ptr tick before now marked back answer → back.held ≡ []
    back-free answer a = (claiming answer a).stays.held ∙ (marked-given.held ∙ free)

    marked-number : marked.number ≡ q.number
    marked-number = marked-given.number ∙ sym t.hand.party.number

    -- what is claimed of other cells
    back-else : (answer : Result Read ReadFault) → AnswersRead dbuf_meanings pools devices cache.config ptr tick before now marked back answer → (j : ℕ) → j ≢ i → list_at j back.own.ledger.claims ≡ list_at j p.own.ledger.claims
    back-else answer a j far = ap (list_at j) (claiming answer a).claims ∙ marked-given.others j far

    module _ (besides : ClaimsBesides i marked.number at cell.value.dbufs marked) (mine : ClaimsAre i q.number cell.value p) where
      back-listed : (answer : Result Read ReadFault) → AnswersRead dbuf_meanings pools devices cache.config ptr tick before now marked back answer → list_at i back.own.ledger.claims ≡ mapping_numbers besides.claims
      back-listed answer a = ap (list_at i) (claiming answer a).claims ∙ besides.listed

      -- what is claimed besides is what was claimed
      besides-mine : mapping_numbers (other_claims at besides.claims) ≡ list_at i p.own.ledger.claims
      besides-mine = ap mapping_numbers (besides.others ∙ ap (λ (n : ℕ). claims_in n cell.value.dbufs) marked-number) ∙ sym mine

      kept-claimed : (read : Read) → AnswersRead dbuf_meanings pools devices cache.config ptr tick before now marked back (Ok read) → (result : OnHeap) (r : PartyPlace) → EndsKept cache i at ptr read back result r → ClaimsAre i r.number result.value p
      kept-claimed read a result r e =
          let mid-is : claims_in r.number e.mid.value.dbufs ≡ besides.claims = same-mappings (claims_in r.number e.mid.value.dbufs) besides.claims (sym e.claimed ∙ back-listed (Ok read) a) in
          sym (ap mapping_numbers (e.unclaimed r.number ∙ ap (other_claims at) mid-is) ∙ besides-mine)

      lost-claims : (answer : Result Read ReadFault) → AnswersRead dbuf_meanings pools devices cache.config ptr tick before now marked back answer → (r : PartyPlace) → KeepsOthers i at back r
          → ((j : ℕ) → j ≢ i → list_at j r.own.ledger.claims ≡ list_at j back.own.ledger.claims) → KeepsClaims p r
      lost-claims answer a r others elsewhere = keeps-claims i p r (others besides.claims (back-listed answer a) ∙ besides-mine) (λ j far. elsewhere j far ∙ back-else answer a j far)

      pub brought-kept : (read : Read) → AnswersRead dbuf_meanings pools devices cache.config ptr tick before now marked back (Ok read) → (result : OnHeap) (r : PartyPlace) → EndsKept cache i at ptr read back result r
          → HasBrought pools devices cache i at tick before now cell p result r
      brought-kept read a result r e =
          let number = back-number (Ok read) a in
          record {
            back = back;
            mid = e.mid;
            evicting = May;
            loads = Load back.number at (gives_hold read) ∷ [];
            hands = handed back.number (cell_number cache.config i) read;
            brings = loaded ptr read (reads (Ok read) a) e.pointer (ap (λ (n : ℕ). Load n at (gives_hold read) ∷ []) number) (ap (λ (n : ℕ). handed n (cell_number cache.config i) read) number);
            hand = e.kept.hand;
            settled = refl;
            number = number;
            held = back-free (Ok read) a;
            claimed = kept-claimed read a result r e;
            holds = e.held;
            others = back-else (Ok read) a;
            cached = loaded-cached at ptr result.value.dbufs e.kept.there;
            mapped = mapped-clean at ptr result.value.dbufs (loaded-clean at ptr result.value.dbufs e.kept.there) ∙ sym to.pointer;
            answers = answer-moves e.mid.value result.value at ptr (brought-clean back.number at ptr e.mid.value.dbufs e.brought) (loaded-clean at ptr result.value.dbufs e.kept.there);
          }

      pub brought-not : (read : Read) → AnswersRead dbuf_meanings pools devices cache.config ptr tick before now marked back (Ok read) → (why : DbufFault) (r : PartyPlace) → EndsUnkept cache i at read back why r
          → HasFailed pools devices cache i at tick before now cell p r why
      brought-not read a why r e = record {
        fails = no_memory ptr read back e.mid e.free (reads (Ok read) a) e.given.turn e.unmarked e.drops e.is;
        party = e.party;
        held = e.held ∙ back-free (Ok read) a;
        number = e.number ∙ back-number (Ok read) a;
        claims = lost-claims (Ok read) a r e.others e.elsewhere;
      }

      pub brought-refused : (cause : ReadFault) → AnswersRead dbuf_meanings pools devices cache.config ptr tick before now marked back (Err cause) → (why : DbufFault) (r : PartyPlace) → why ≡ fault_of cause → (mid : OnHeap) → HasGiven cache i back mid [] [] r → IsUnmarked i at r → KeepsOthers i at back r
          → HasFailed pools devices cache i at tick before now cell p r why
      brought-refused cause a why r is mid given unmarked others = record {
        fails = refused ptr cause back mid (reads (Err cause) a) given.turn unmarked is;
        party = given.party;
        held = given.held ∙ back-free (Err cause) a;
        number = given.number ∙ back-number (Err cause) a;
        claims = lost-claims (Err cause) a r others given.others;
      }

      -- whatever the second turn came to
      pub brought-ends : (read : Read) → AnswersRead dbuf_meanings pools devices cache.config ptr tick before now marked back (Ok read) → (r : PartyPlace) (result : Result OnHeap DbufFault) → EndsLoad cache i at ptr read back r result
          → IsBrought pools devices cache i at tick before now cell p r result
      brought-ends read a r (Ok x) e = brought-kept read a x r e
      brought-ends read a r (Err why) e = brought-not read a why r e
