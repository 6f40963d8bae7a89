-- An operation behind the bringing of its block: its event is noted, and it is what the operation answers.
use Rattle.std.proofs.Common.{◌≡◌, ◌≢◌, ℕ, ◌+◌, ◌-◌, ◌≤◌, Bool, true, false, not, ◌&&◌, if◌then◌else◌, IsTrue, List, [], ◌∷◌, ◌++◌, length, Option, Some, None, refl, sym, ap, ◌∙◌, subst, inl, inr, arith}
use Rattle.std.specs.Prelude.{Result, Ok, Err, IfErr, IfOk, OnErr, OnOk}
use Rattle.std.specs.List.{AllByRecursion}
use Rattle.std.specs.Option.{option_map, option_map_or}
use Rattle.blk_ptr.specs.Size.{IsBlockSize}
use Rattle.vdev_io.specs.declared.device.CacheDev.{Ghosts as DeviceGhosts}
use Rattle.vdev_io.specs.declared.pool.Pool.{Ghosts as PoolGhosts}
use Rattle.blk_ptr.specs.declared.ptr.Ptr.{Ptr}
use Rattle.arc_core.specs.declared.config.Config.{Config}
use Rattle.arc_core.specs.declared.event.Event.{Event}
use Rattle.arc_core.specs.declared.served.ReadFault.{ReadFault}
use Rattle.arc_core.specs.declared.served.ReadFault.TheVariants as read
use Rattle.arc_table.specs.Cache.{Cache, IsPartyOf}
use Rattle.arc_table.specs.Fronts.{list_at}
use Rattle.arc_table.specs.Giving.{AreHolds}
use Rattle.arc_table.specs.Reading.{Outside}
use Rattle.dbuf_state.specs.Answers.{IsAnswer}
use Rattle.dbuf_state.specs.CellLog.{CellLog, noted}
use Rattle.dbuf_state.specs.Dbufs.{DbufHas, Fits, IsFit, dbuf_at, dbuf_is, is_cached, mapped_of, pinned_by, plain_block, plain_dbuf, size_of, with_dbuf}
use Rattle.dbuf_state.specs.Faults.{fault_of}
use Rattle.dbuf_state.specs.Objects.{Evicting, Must, Never, is_due, use_of}
use Rattle.dbuf_state.specs.Objects as plain
use Rattle.dbuf_state.specs.Oids.{oid_eq}
use Rattle.dbuf_state.specs.Outline.{mapped_size}
use Rattle.dbuf_state.specs.Soundness.{plain_cell}
use Rattle.dbuf_state.specs.declared.dbuf.Content.{Content}
use Rattle.dbuf_state.specs.declared.dbuf.Content.TheVariants as content
use Rattle.dbuf_state.specs.declared.dbuf.Dbuf.{Dbuf}
use Rattle.dbuf_state.specs.declared.event.CellEvent.{CellEvent}
use Rattle.dbuf_state.specs.declared.event.CellEvent.TheVariants.{Get, Pin}
use Rattle.dbuf_state.specs.declared.fault.DbufFault.{DbufFault}
use Rattle.dbuf_state.specs.declared.fault.DbufFault.TheVariants as fault
use Rattle.dbuf_state.specs.declared.oid.Oid.{Oid}
use Rattle.dbuf_state.specs.declared.state.DbState.{DbState}
use Rattle.dbuf_state.specs.declared.state.Mapped.{Mapped}
use Rattle.dbuf_state.specs.declared.state.Mapped.TheVariants as mapped
use Rattle.dbuf_state.specs.declared.window.Window.{Window}
use Rattle.dbuf_state.proofs.HandLemmas.{claims-stay, holds-stay, rest-stays, claims-stay-by-note}
use Rattle.dbuf_state.proofs.IndexLemmas.{and-both, bool_cases}
use Rattle.dbuf_state.proofs.StepLemmas.{get-follows, pin-follows}
use Rattle.dbuf_cells.specs.Accessing.{Acts, EndsInside, Gets, Holds, Refuses, no_bytes, no_room}
use Rattle.dbuf_cells.specs.Bringing.{FailsToLoad, held_behind, no_memory, refused}
use Rattle.dbuf_cells.specs.InHand.{Finishes, Gives, HasGiven, HoldsStay, InHand, IsRoomier, MayEvict, MayGive, AreClaimedAlike, ClaimsAre}
use Rattle.dbuf_cells.specs.Kept.{bytes_of, is_held, key_of}
use Rattle.dbuf_cells.specs.Patching.{IsSizedIn}
use Rattle.dbuf_cells.specs.Loading.{EndsWith, HasBrought, HasOperated, Notes, Tests, mapped_in}
use Rattle.dbuf_cells.specs.Turns.{OnHeap, Operates, PartyPlace, KeepsClaims, held_at, held_in}
use Rattle.dbuf_cells.specs.declared.kept.Kept.{Kept}
use Rattle.dbuf_cells.proofs.Bringings.{in-outline}
use Rattle.dbuf_cells.proofs.CellSteps.{length-change, length-touched}
use Rattle.dbuf_cells.proofs.Holders.{operates-as, stays-all, stays-noted, stays-roomy, stays-same, stays-then}
use Rattle.dbuf_cells.proofs.Operations.{hand-more, hand-room, operates, plain-test, rest-of, room-settled}
use Rattle.dbuf_state.specs.Numbers.{claims_in, mapping_numbers}
use Rattle.dbuf_cells.proofs.Claims.{claims-through}
use Rattle.dbuf_state.proofs.HeldLemmas.{held-same}

-- ---- a block whose bytes are there

bytes-there : (c : Content) (s : DbState) → is_cached s ≡ true → plain.has_bytes (plain_block c s) ≡ true
bytes-there (content.Dirty bytes) s h = refl
bytes-there (content.Clean ptr) s h = ap (λ (b : Bool). plain.has_bytes (if b then plain.Cached ptr else plain.Uncached ptr)) h

pub has-its-bytes : (at : Oid) (ds : List (Dbuf Kept)) → dbuf_is (λ d. is_cached d.state) at ds ≡ true → dbuf_is (λ d. plain.has_bytes (plain_dbuf d).block) at ds ≡ true
has-its-bytes at ds h = go (dbuf_at at ds) h
  where
    go : (o : Option (Dbuf Kept)) → option_map_or (λ d. is_cached d.state) o false ≡ true → option_map_or (λ d. plain.has_bytes (plain_dbuf d).block) o false ≡ true
    go None h = h
    go (Some d) h = bytes-there d.content d.state h

-- ---- the event

module _ (cache : Cache) (i : ℕ) (e : CellEvent) (now c : CellLog Kept) (q : PartyPlace) (n : ℕ) (who : n ≡ q.number) (u : Notes n e now c) where
  noted-hand : (p : PartyPlace) (before : OnHeap) (evicting : Evicting) (news : List CellEvent) (es : List Event) → IsTrue (not (is_due (plain_cell evicting now))) → InHand cache i p before evicting news es now q → InHand cache i p before Must (news ++ e ∷ []) es c q
  noted-hand p before evicting news es settled h =
      let roomy = hand-room cache i p before evicting news es now q h u.roomy u.made in
      let s = room-settled evicting now u.roomy u.made settled in
      subst (λ (x : CellLog Kept). InHand cache i p before Must (news ++ e ∷ []) es x q) (sym u.noted_is)
      (subst (λ (ev : Evicting). InHand cache i p before ev (news ++ e ∷ []) es (noted e (record u.roomy { dbufs = u.dbufs })) q) (u.must evicting)
      (hand-more cache i p before evicting news es u.roomy q roomy e [] u.dbufs (u.legal evicting s) (u.base evicting) u.follows (u.who ∙ who) (u.rest roomy.cell.rest) (λ k other. u.claims k)
      (subst (λ (l : List Ptr). AreHolds l (list_at i q.own.listed)) (sym u.holds) roomy.holds) u.tells))

  pub noted-evicts : MayGive cache i now q → MayEvict cache i c q
  noted-evicts m = record { from = m.from; before = m.before; evicting = Must; news = m.news ++ e ∷ []; es = m.es; hand = noted-hand m.from m.before m.evicting m.news m.es m.settled m.hand; may = refl }

  pub noted-ends : (r : PartyPlace) → Finishes cache i c q r → EndsWith cache i e now q r
  noted-ends r finishes p before evicting news es settled h =
      let hand = noted-hand p before evicting news es settled h in
      let f = finishes p before Must (news ++ e ∷ []) es refl hand in
      record {
        operates = operates cache i p before Must (news ++ e ∷ []) es c q hand (held_at now.dbufs) (λ b on. (stay b on).1) r f;
        party = f.given.party;
        held = f.given.held;
        number = f.given.number;
        others = f.given.others;
      }
    where
      stay : HoldsStay now.dbufs c.dbufs
      stay = subst (λ (x : CellLog Kept). HoldsStay now.dbufs x.dbufs) (sym u.noted_is)
          (stays-noted e (record u.roomy { dbufs = u.dbufs }) now.dbufs (stays-then now.dbufs u.roomy.dbufs u.dbufs (stays-roomy now u.roomy u.made) u.stay))

-- with room for the evictions behind it
pub noted-room : (n : ℕ) (e : CellEvent) (old c : CellLog Kept) → Notes n e old c → length c.dbufs ≤ c.event_room
noted-room n e old c u =
    let a : length c.dbufs ≡ length u.dbufs = ap (λ (x : CellLog Kept). length x.dbufs) u.noted_is ∙ length-touched _ _ u.dbufs in
    let b = u.count in
    let d : length u.roomy.dbufs ≡ length old.dbufs = ap (λ (x : CellLog Kept). length x.dbufs) u.made in
    let f : c.event_room ≡ u.roomy.event_room - 1 = ap (λ (x : CellLog Kept). x.event_room) u.noted_is in
    let r = u.room in
    omega arith

-- a cell with more room is given back as it is
module _ (cache : Cache) (i : ℕ) (now c : CellLog Kept) (q : PartyPlace) (is : IsRoomier now c) where
  pub roomy-may-give : MayGive cache i now q → MayGive cache i c q
  roomy-may-give m = record {
    from = m.from;
    before = m.before;
    evicting = m.evicting;
    news = m.news;
    es = m.es;
    hand = hand-room cache i m.from m.before m.evicting m.news m.es now q m.hand c is;
    settled = room-settled m.evicting now c is m.settled;
  }

  pub roomy-gives : (r : PartyPlace) → Gives cache i c q r → Gives cache i now q r
  roomy-gives r gives p before evicting news es settled h = gives p before evicting news es (room-settled evicting now c is settled) (hand-room cache i p before evicting news es now q h c is)

-- ---- the test of the range

pub there-is : (at : Oid) (last : ℕ) (m : Option Mapped) → Tests {T = Unit {0}} at last m (Ok tt) → m ≢ None
there-is at last None t e = absurd t
there-is at last (Some m) t e = let clash : ◌≡◌ {A = Option Mapped} (Some m) None = e in cc

-- a range that is inside the block as it was is inside it now
pub inside-now : (at : Oid) (last : ℕ) (ds old : List (Dbuf Kept)) → mapped_in at ds ≡ mapped_in at old → Tests {T = Unit {0}} at last (mapped_in at old) (Ok tt) → DbufHas (λ d. last ≤ size_of d.content) (dbuf_at at ds)
inside-now at last ds old same t = go (dbuf_at at ds) (subst (λ (m : Option Mapped). Tests {T = Unit {0}} at last m (Ok tt)) (sym same) t)
  where
    one : (c : Content) → last ≤ mapped_size (mapped_of c) → last ≤ size_of c
    one (content.Clean ptr) h = h
    one (content.Dirty bytes) h = h

    go : (o : Option (Dbuf Kept)) → Tests {T = Unit {0}} at last (option_map (λ d. mapped_of d.content) o) (Ok tt) → DbufHas (λ d. last ≤ size_of d.content) o
    go None t = absurd t
    go (Some d) t = one d.content t

module _ {P D : Type 0} (pools : PoolGhosts P) (devices : DeviceGhosts D) (cache : Cache) (i : ℕ) (at : Oid) (tick : ℕ) (before now : Outside P D) (cell : OnHeap) (p : PartyPlace) where
  pub ends-inside : (last : ℕ) (m : Option Mapped) → m ≡ mapped_in at cell.value.dbufs → Tests {T = Unit {0}} at last m (Ok tt) → EndsInside pools devices cache.config i at tick before now last cell
  ends-inside last None is t = absurd t
  ends-inside last (Some m) is t = record { mapped = m; there = in-outline cell at ∙ sym is; inside = t }

  pub test-get : (w : Window) (r : PartyPlace) (m : Option Mapped) (why : DbufFault) → m ≡ mapped_in at cell.value.dbufs → Tests {T = Unit {0}} at (w.at + w.len) m (Err why) → HasGiven cache i p cell [] [] r → now ≡ before
      → Gets pools devices cache.config i at tick before now w cell p r (Err why)
  test-get w r None (fault.NoBlock named) is t given same = record { named_is = t; none = in-outline cell at ∙ sym is; turn = given.turn; outside = same }
  test-get w r None (fault.Range end size) is t given same = absurd t
  test-get w r None (fault.NoPin named) is t given same = absurd t
  test-get w r None (fault.Read cause) is t given same = absurd t
  test-get w r None fault.NoMemory is t given same = absurd t
  test-get w r (Some m) (fault.Range end size) is t given same = record { end_is = t.0; mapped = m; there = in-outline cell at ∙ sym is; size_is = t.1; past = t.2; turn = given.turn; outside = same }
  test-get w r (Some m) (fault.NoBlock named) is t given same = absurd t
  test-get w r (Some m) (fault.NoPin named) is t given same = absurd t
  test-get w r (Some m) (fault.Read cause) is t given same = absurd t
  test-get w r (Some m) fault.NoMemory is t given same = absurd t

  pub test-hold : (r : PartyPlace) (m : Option Mapped) (why : DbufFault) → m ≡ mapped_in at cell.value.dbufs → Tests {T = Unit {0}} at 0 m (Err why) → HasGiven cache i p cell [] [] r → now ≡ before
      → Holds pools devices cache.config i at tick before now {T = Unit {0}} cell p r (Err why)
  test-hold r None (fault.NoBlock named) is t given same = record { named_is = t; none = in-outline cell at ∙ sym is; turn = given.turn; outside = same }
  test-hold r None (fault.Range end size) is t given same = absurd t
  test-hold r None (fault.NoPin named) is t given same = absurd t
  test-hold r None (fault.Read cause) is t given same = absurd t
  test-hold r None fault.NoMemory is t given same = absurd t
  test-hold r (Some m) (fault.Range end size) is t given same =
      let e = t.0 in
      let l = t.2 in
      absurd (omega arith)
  test-hold r (Some m) (fault.NoBlock named) is t given same = absurd t
  test-hold r (Some m) (fault.NoPin named) is t given same = absurd t
  test-hold r (Some m) (fault.Read cause) is t given same = absurd t
  test-hold r (Some m) fault.NoMemory is t given same = absurd t

  -- ---- the answers

  module _ (result : OnHeap) (q : PartyPlace) (b : HasBrought pools devices cache i at tick before now cell p result q) (r : PartyPlace) where
    number-now : q.number ≡ p.number
    number-now = b.hand.party.number ∙ b.number

    ended : (own : ℕ → CellEvent) → EndsWith cache i (own q.number) result.value q r → HasOperated cache i b.back b.mid (held_at result.value.dbufs) (b.loads ++ own q.number ∷ []) b.hands r
    ended own ends = ends b.back b.mid b.evicting b.loads b.hands b.settled b.hand

    pub acts : (own : ℕ → CellEvent) (Fits : OnHeap → Type 0) → EndsWith cache i (own q.number) result.value q r → Fits b.mid → Acts pools devices cache.config i at tick before now own Fits cell p r
    acts own Fits ends fits = record {
      back = b.back;
      mid = b.mid;
      loads = b.loads;
      hands = b.hands;
      brings = b.brings;
      fits = fits;
      operates = operates-as (held_at result.value.dbufs) (held_behind at b.loads b.hands (held_in b.mid)) b.holds
          (subst (λ (n : ℕ). Operates cache.config i b.mid (held_at result.value.dbufs) (b.loads ++ own n ∷ []) b.hands b.back r) number-now (ended own ends).operates);
    }

    pub acts-party : (own : ℕ → CellEvent) → EndsWith cache i (own q.number) result.value q r → IsPartyOf cache r × (r.held ≡ [])
    acts-party own ends = let e = ended own ends in (e.party, e.held ∙ b.held)

    brought-given : Gives cache i result.value q r → HasGiven cache i b.back b.mid b.loads b.hands r
    brought-given gives = gives b.back b.mid b.evicting b.loads b.hands b.settled b.hand

    pub no-room : Gives cache i result.value q r → Refuses pools devices cache.config i at tick before now cell p r fault.NoMemory
    no-room gives = no_room b.back b.mid b.loads b.hands refl b.brings (brought-given gives).turn

    pub no-room-party : Gives cache i result.value q r → IsPartyOf cache r × (r.held ≡ [])
    no-room-party gives = let g = brought-given gives in (g.party, g.held ∙ b.held)

    pub brought-may-give : MayGive cache i result.value q
    brought-may-give = record { from = b.back; before = b.mid; evicting = b.evicting; news = b.loads; es = b.hands; hand = b.hand; settled = b.settled }

-- ---- the faults of a read

-- a fault that a read may end with
abbrev pub IsReadFault : DbufFault → Type 0
IsReadFault (fault.Read why) = Unit {0}
IsReadFault fault.NoMemory = Unit {0}
IsReadFault (fault.NoBlock named) = ⊥
IsReadFault (fault.Range end size) = ⊥
IsReadFault (fault.NoPin named) = ⊥

is-read-fault : (cause : ReadFault) → IsReadFault (fault_of cause)
is-read-fault read.NoMemory = tt
is-read-fault read.PoolFault = tt
is-read-fault (read.Mismatch found) = tt
is-read-fault (read.Key why) = tt

module _ {P D : Type 0} (pools : PoolGhosts P) (devices : DeviceGhosts D) (g : Config) (i : ℕ) (at : Oid) (tick : ℕ) (before now : Outside P D) (cell : OnHeap) (p r : PartyPlace) where
  pub fails-read : (why : DbufFault) → FailsToLoad pools devices g i at tick before now cell p r why → IsReadFault why
  fails-read why (refused ptr cause back mid reads turn unmarked is) = subst IsReadFault (sym is) (is-read-fault cause)
  fails-read why (no_memory ptr read back mid free reads turn unmarked drops is) = subst IsReadFault (sym is) tt

  pub refuses-get : (w : Window) (why : DbufFault) → IsReadFault why → EndsInside pools devices g i at tick before now (w.at + w.len) cell → Refuses pools devices g i at tick before now cell p r why
      → Gets pools devices g i at tick before now w cell p r (Err why)
  refuses-get w (fault.Read cause) is inside refuses = (inside, no_bytes refuses)
  refuses-get w fault.NoMemory is inside refuses = (inside, refuses)
  refuses-get w (fault.NoBlock named) is inside refuses = absurd is
  refuses-get w (fault.Range end size) is inside refuses = absurd is
  refuses-get w (fault.NoPin named) is inside refuses = absurd is

  pub refuses-hold : (why : DbufFault) → IsReadFault why → EndsInside pools devices g i at tick before now 0 cell → Refuses pools devices g i at tick before now cell p r why
      → Holds pools devices g i at tick before now {T = Unit {0}} cell p r (Err why)
  refuses-hold (fault.Read cause) is inside refuses = (inside, refuses)
  refuses-hold fault.NoMemory is inside refuses = (inside, refuses)
  refuses-hold (fault.NoBlock named) is inside refuses = absurd is
  refuses-hold (fault.Range end size) is inside refuses = absurd is
  refuses-hold (fault.NoPin named) is inside refuses = absurd is

-- ---- the events of a get and of a hold

module _ (n : ℕ) (at : Oid) (old roomy : CellLog Kept) (log : IsRoomier old roomy) (cached : dbuf_is (λ d. is_cached d.state) at old.dbufs ≡ true) where
  pub cached-roomy : dbuf_is (λ d. is_cached d.state) at roomy.dbufs ≡ true
  cached-roomy = ap (λ (x : CellLog Kept). dbuf_is (λ d. is_cached d.state) at x.dbufs) log ∙ cached

  may-use : (evicting : Evicting) → IsTrue (not (is_due (plain_cell evicting roomy))) → IsTrue (not (is_due (plain_cell evicting roomy)) && plain.dbuf_is (λ d. plain.has_bytes d.block) at (plain_cell evicting roomy))
  may-use evicting settled = and-both _ _ settled (plain-test evicting roomy at (λ d. plain.has_bytes d.block) ∙ has-its-bytes at roomy.dbufs cached-roomy)

  pub get-notes : (now : CellLog Kept) → 1 + length old.dbufs ≤ roomy.event_room → now ≡ noted (Get n at) roomy → Notes n (Get n at) old now
  get-notes now room is = record {
    roomy = roomy;
    made = log;
    room = room;
    dbufs = roomy.dbufs;
    count = refl;
    noted_is = is;
    legal = λ evicting settled. may-use evicting settled;
    base = λ evicting. tt;
    follows = get-follows roomy n at;
    who = refl;
    must = λ evicting. refl;
    rest = λ r. r;
    claims = λ k. refl;
    holds = refl;
    stay = stays-all roomy.dbufs;
    tells = λ b. refl;
  }

  pub pin-notes : (pinned now : CellLog Kept) → 1 + length old.dbufs ≤ roomy.event_room → pinned ≡ record roomy { dbufs = with_dbuf at (pinned_by n) roomy.dbufs } → now ≡ noted (Pin n at) pinned → Notes n (Pin n at) old now
  pin-notes pinned now room one is = record {
    roomy = roomy;
    made = log;
    room = room;
    dbufs = with_dbuf at (pinned_by n) roomy.dbufs;
    count = length-change at (pinned_by n) roomy.dbufs;
    noted_is = is ∙ ap (λ (x : CellLog Kept). noted (Pin n at) x) one;
    legal = λ evicting settled. may-use evicting settled;
    base = λ evicting. tt;
    follows = pin-follows roomy n at;
    who = refl;
    must = λ evicting. refl;
    rest = λ r. rest-stays at (pinned_by n) roomy.dbufs (λ d found. rest-of at roomy.dbufs d r found) r;
    claims = λ k. claims-stay at (pinned_by n) k roomy.dbufs (λ d found. refl);
    holds = holds-stay key_of bytes_of is_held at (pinned_by n) roomy.dbufs (λ d. refl);
    stay = stays-same at (pinned_by n) (λ d. refl) (λ d. refl) (λ d. refl) roomy.dbufs;
    tells = held-same is_held at (pinned_by n) (λ d. refl) (λ d. refl) roomy.dbufs;
  }

  -- what is shown is an answer, with the size of what is mapped
  pub see-answer : (w : Window) (shown : List ℕ) (m : Mapped) (size : ℕ) → Some m ≡ mapped_in at roomy.dbufs → size ≡ mapped_size m → DbufHas (λ d. IsAnswer (plain_cell Never roomy) at w (size_of d.content) shown) (dbuf_at at roomy.dbufs)
      → IsAnswer (plain_cell Never old) at w size shown
  see-answer w shown m size is sized has = subst (λ (x : CellLog Kept). IsAnswer (plain_cell Never x) at w size shown) log (go (dbuf_at at roomy.dbufs) has is)
    where
      same-size : (c : Content) → size_of c ≡ mapped_size (mapped_of c)
      same-size (content.Clean ptr) = refl
      same-size (content.Dirty bytes) = refl

      some-is : (a b : Mapped) → ◌≡◌ {A = Option Mapped} (Some a) (Some b) → a ≡ b
      some-is a b e = cc

      go : (o : Option (Dbuf Kept)) → DbufHas (λ d. IsAnswer (plain_cell Never roomy) at w (size_of d.content) shown) o → Some m ≡ option_map (λ d. mapped_of d.content) o → IsAnswer (plain_cell Never roomy) at w size shown
      go None h e = absurd h
      go (Some d) h e = subst (λ (k : ℕ). IsAnswer (plain_cell Never roomy) at w k shown) (same-size d.content ∙ sym (sized ∙ ap mapped_size (some-is m (mapped_of d.content) e))) h

-- what is mapped has a size that a block may have: a clean block as it was tested, a dirty one always
pub mapped-sized : (at : Oid) (ds : List (Dbuf Kept)) (m : Mapped) → IsSizedIn at ds → AllByRecursion (IsFit key_of bytes_of) ds → Some m ≡ mapped_in at ds → IsBlockSize (mapped_size m)
mapped-sized at ds (mapped.Clean ptr) sized fit is = sized ptr (sym is)
mapped-sized at ds (mapped.Dirty size) sized fit is = go ds fit is
  where
    one : (d : Dbuf Kept) (c : Content) → d.content ≡ c → ◌≡◌ {A = Option Mapped} (Some (mapped.Dirty size)) (Some (mapped_of c)) → IsFit key_of bytes_of d → IsBlockSize size
    one d (content.Clean ptr) has e fits = let clash : ◌≡◌ {A = Option Mapped} (Some (mapped.Dirty size)) (Some (mapped.Clean ptr)) = e in cc
    one d (content.Dirty bytes) has e fits =
        let same : length bytes ≡ size = cc in
        subst IsBlockSize same (subst (λ (x : Content). Fits key_of bytes_of x d.state d.kept) has fits).1

    go : (xs : List (Dbuf Kept)) → AllByRecursion (IsFit key_of bytes_of) xs → Some (mapped.Dirty size) ≡ mapped_in at xs → IsBlockSize size
    go [] fits e = let clash : ◌≡◌ {A = Option Mapped} (Some (mapped.Dirty size)) None = e in cc
    go (d ∷ xs) fits e = elim (bool_cases (oid_eq at d.at)) [
      | inl here ↦ one d d.content refl (rw here at e) fits.0
      | inr far ↦ go xs fits.1 (rw far at e)
    ]

-- ---- the calls

module _ {P D : Type 0} (pools : PoolGhosts P) (devices : DeviceGhosts D) (cache : Cache) (i : ℕ) (at : Oid) (tick : ℕ) (before now : Outside P D) (cell : OnHeap) (p : PartyPlace) (result : OnHeap) (q : PartyPlace)
    (b : HasBrought pools devices cache i at tick before now cell p result q) (r : PartyPlace) where
  pub get-answers : (w : Window) (got : Result (ℕ × List ℕ) DbufFault) → EndsInside pools devices cache.config i at tick before now (w.at + w.len) cell → OnOk got (EndsWith cache i (Get q.number at) result.value q r)
      → IfOk got (λ g. IsAnswer (plain_cell Never result.value) at w g.0 g.1) → OnErr got (Gives cache i result.value q r) → IfErr got (λ why. why ≡ fault.NoMemory) → Gets pools devices cache.config i at tick before now w cell p r got
  get-answers w (Ok got) inside ok answer err why =
      acts pools devices cache i at tick before now cell p result q b r (λ n. Get n at) (λ b. IsAnswer (plain_cell Never b.value) at w got.0 got.1) ok (b.answers w got.0 got.1 answer)
  get-answers w (Err e) inside ok answer err why =
      refuses-get pools devices cache.config i at tick before now cell p r w e (subst IsReadFault (sym why) tt) inside
      (subst (Refuses pools devices cache.config i at tick before now cell p r) (sym why) (no-room pools devices cache i at tick before now cell p result q b r err))

  pub hold-answers : (done : Result (Unit {0}) DbufFault) → EndsInside pools devices cache.config i at tick before now 0 cell → OnOk done (EndsWith cache i (Pin q.number at) result.value q r)
      → OnErr done (Gives cache i result.value q r) → IfErr done (λ why. why ≡ fault.NoMemory) → Holds pools devices cache.config i at tick before now cell p r done
  hold-answers (Ok done) inside ok err why = acts pools devices cache i at tick before now cell p result q b r (λ n. Pin n at) (λ b. Unit {0}) ok tt
  hold-answers (Err e) inside ok err why =
      refuses-hold pools devices cache.config i at tick before now cell p r e (subst IsReadFault (sym why) tt) inside
      (subst (Refuses pools devices cache.config i at tick before now cell p r) (sym why) (no-room pools devices cache i at tick before now cell p result q b r err))

  pub party-after : {T : Type 0} (own : ℕ → CellEvent) (got : Result T DbufFault) → OnOk got (EndsWith cache i (own q.number) result.value q r) → OnErr got (Gives cache i result.value q r) → IsPartyOf cache r × (r.held ≡ [])
  party-after own (Ok got) ok err = acts-party pools devices cache i at tick before now cell p result q b r own ok
  party-after own (Err e) ok err = no-room-party pools devices cache i at tick before now cell p result q b r err

-- ---- what is claimed

pub noted-claims : (n : ℕ) (e : CellEvent) (old c : CellLog Kept) → Notes n e old c → AreClaimedAlike old.dbufs c.dbufs
noted-claims n e old c u k =
    ap (λ (x : CellLog Kept). claims_in k x.dbufs) u.noted_is ∙ (claims-stay-by-note k (length u.roomy.history + 1) (use_of e) u.dbufs ∙ (u.claims k ∙ ap (λ (x : CellLog Kept). claims_in k x.dbufs) u.made))

-- the cell is claimed as it was in hand
pub claims-alike : (i : ℕ) (old now : CellLog Kept) (r : PartyPlace) → AreClaimedAlike old.dbufs now.dbufs → ClaimsAre i r.number now r → ClaimsAre i r.number old r
claims-alike i old now r alike is = is ∙ ap mapping_numbers (alike r.number)

module _ {P D : Type 0} (pools : PoolGhosts P) (devices : DeviceGhosts D) (cache : Cache) (i : ℕ) (at : Oid) (tick : ℕ) (before now : Outside P D) (cell : OnHeap) (p : PartyPlace) (result : OnHeap) (q : PartyPlace)
    (b : HasBrought pools devices cache i at tick before now cell p result q) (r : PartyPlace) (is : ClaimsAre i r.number result.value r) where
  pub ended-number : {T : Type 0} (own : ℕ → CellEvent) (got : Result T DbufFault) → OnOk got (EndsWith cache i (own q.number) result.value q r) → OnErr got (Gives cache i result.value q r) → r.number ≡ p.number
  ended-number own (Ok got) ok err = let e = ok b.back b.mid b.evicting b.loads b.hands b.settled b.hand in e.number ∙ b.number
  ended-number own (Err e) ok err = let g = err b.back b.mid b.evicting b.loads b.hands b.settled b.hand in g.number ∙ b.number

  pub after-claims : r.number ≡ b.back.number → ((j : ℕ) → j ≢ i → list_at j r.own.ledger.claims ≡ list_at j b.back.own.ledger.claims) → KeepsClaims p r
  after-claims number elsewhere =
      claims-through i q.number r.number result.value.dbufs result.value.dbufs p r b.claimed is (number ∙ sym b.hand.party.number) (λ n. refl) (λ j far. elsewhere j far ∙ b.others j far)

  pub ended-claims : {T : Type 0} (own : ℕ → CellEvent) (got : Result T DbufFault) → OnOk got (EndsWith cache i (own q.number) result.value q r) → OnErr got (Gives cache i result.value q r) → KeepsClaims p r
  ended-claims own (Ok got) ok err = let e = ok b.back b.mid b.evicting b.loads b.hands b.settled b.hand in after-claims e.number e.others
  ended-claims own (Err e) ok err = let g = err b.back b.mid b.evicting b.loads b.hands b.settled b.hand in after-claims g.number g.others
