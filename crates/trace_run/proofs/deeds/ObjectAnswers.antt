-- What the calls on dbufs answer, as what a caller's line on an object came to.
use Rattle.std.proofs.Common.{◌≡◌, ◌≢◌, ℕ, ◌+◌, ◌<◌, ◌≤◌, Bool, false, List, [], ◌∷◌, ◌++◌, length, map, Some, Result, Ok, Err, refl, sym, ap, ◌∙◌, subst, arith, append-nil, append_assoc}
use Rattle.std.specs.List.{AllByRecursion}
use Rattle.blk_ptr.specs.declared.digest.Digest.{Digest}
use Rattle.blk_ptr.specs.declared.key.KeyFault.{KeyFault}
use Rattle.blk_ptr.specs.declared.ptr.Ptr.{Ptr}
use Rattle.blk_ptr.specs.Hash.{shard_of}
use Rattle.blk_ptr.specs.Key.{IsFirstKeyFault, IsValid}
use Rattle.vdev_io.specs.declared.device.CacheDev.{Ghosts as DeviceGhosts}
use Rattle.vdev_io.specs.declared.pool.Pool.{Ghosts as PoolGhosts}
use Rattle.vdev_io.specs.Calls.{Failed, Gave}
use Rattle.arc_core.specs.Config.{IsConfig}
use Rattle.arc_core.specs.declared.config.Config.{Config}
use Rattle.arc_core.specs.declared.event.Event.{Event}
use Rattle.arc_core.specs.declared.served.ReadFault.{ReadFault}
use Rattle.arc_core.specs.declared.served.Served.{Served}
use Rattle.arc_core.specs.declared.served.Served.TheVariants as served
use Rattle.arc_core.specs.declared.served.ReadFault.TheVariants as fault
use Rattle.arc_core.specs.Replay.{replay}
use Rattle.turn_table.specs.declared.standing.Kept.{Kept as Joined}
use Rattle.turn_table.specs.Places.{Apart, Place}
use Rattle.arc_table.specs.declared.about.About.{About}
use Rattle.arc_table.specs.declared.hold.Hold.{Hold}
use Rattle.arc_table.specs.declared.read.Read.{Read}
use Rattle.arc_table.specs.declared.read.Read.TheVariants as gave
use Rattle.arc_table.specs.declared.view.Known.{Known}
use Rattle.arc_table.specs.Cache.{Cache, IsPartyOf}
use Rattle.arc_table.specs.Cells.{SeesAll}
use Rattle.arc_table.specs.Fronts.{StartsWith, front_of}
use Rattle.arc_table.specs.Geometry.{IsCell, cell_number, parties_of}
use Rattle.arc_table.specs.Items.{Meanings}
use Rattle.arc_table.specs.Reading.{Answers, AnswersRead, Outside, answered, from_device, from_none, from_pool, hit, missed, no_memory, past, read, refused, unread}
use Rattle.arc_table.specs.Seen.{HasAll, seen_of}
use Rattle.arc_table.specs.TableLaws.{starts_whole}
use Rattle.arc_table.specs.Telling.{opening_of}
use Rattle.dbuf_cells.specs.Accessing as dbufs
use Rattle.dbuf_cells.specs.Accessing.{Acts, AnswersGet, AnswersHold, EndsPast as RangeEndsPast, HasNoBlock, NotAccessed, no_bytes, no_key, no_room, not_loaded}
use Rattle.dbuf_cells.specs.Bringing as bringing
use Rattle.dbuf_cells.specs.Bringing.{Brings, Reads, handed, held_behind, here, loaded}
use Rattle.dbuf_cells.specs.Patching.{AnswersPatch, Patches}
use Rattle.dbuf_cells.specs.Places.{cell_of}
use Rattle.dbuf_cells.specs.Putting.{AnswersPut, Releases}
use Rattle.dbuf_cells.specs.Turns.{AreEvictions, CellTurn, KeepsClaims, OnHeap, OnceAtRest, Operates, PartyPlace, dbuf_meanings, held_in, outline_in}
use Rattle.dbuf_cells.specs.Unholding.{AnswersUnhold}
use Rattle.dbuf_state.specs.Answers.{IsAnswer, IsAnswerAfter}
use Rattle.dbuf_state.specs.Faults.{fault_of}
use Rattle.dbuf_state.specs.Objects.{Never}
use Rattle.dbuf_state.specs.Outline.{Outline, after, after_all, has_pin_at}
use Rattle.dbuf_state.specs.Soundness.{IsSound, plain_cell}
use Rattle.dbuf_state.specs.declared.event.CellEvent.{CellEvent}
use Rattle.dbuf_state.specs.declared.event.CellEvent.TheVariants as events
use Rattle.dbuf_state.specs.declared.fault.DbufFault.{DbufFault}
use Rattle.dbuf_state.specs.declared.fault.DbufFault.TheVariants as dbuf_fault
use Rattle.dbuf_state.specs.declared.oid.Oid.{Oid}
use Rattle.dbuf_state.specs.declared.window.Window.{Window}
use Rattle.trace_text.specs.declared.reply.Refusal.{Refusal}
use Rattle.trace_text.specs.declared.reply.Refusal.TheVariants as refusals
use Rattle.trace_text.specs.declared.reply.Reply.{Reply}
use Rattle.trace_text.specs.declared.reply.Reply.TheVariants as replies
use Rattle.trace_run.specs.declared.kept_blocks.KeptBlock.{KeptBlock}
use Rattle.trace_run.specs.dbufs.DbufTurns.{CellsDone}
use Rattle.trace_run.specs.Answers.{IsReadRefusal}
use Rattle.trace_run.specs.Deeds.{lines_of_cell, noted_in}
use Rattle.trace_run.specs.Effects.{Answered, PoolRefused}
use Rattle.trace_run.specs.KeptBlocks.{AllQuiet, IsOwnedBy, Stands, times}
use Rattle.trace_run.specs.dbufs.ObjectLines.{Brings as BringsLine, Did, DidGet, DidNot, DidPatch, DidPin, DidPut, DidUnpin, DidWork, EndsInside, FailsToBring, FindsCell, IsBrought, RefusesBlock, RefusesBytes, ReleasesFor, SpentOn, SpentOnRead, TellsFault, WasToBring, cell_lines}
use Rattle.trace_run.specs.dbufs.Objects.{Brought, Nothing, Loaded, Refused, gives_hold, held_once, loads_of}
use Rattle.trace_run.specs.Reads.{IsRefused, now_of}
use Rattle.trace_run.proofs.DeviceReadLemmas.{DeviceDid}
use Rattle.trace_run.proofs.DeviceReadLemmas as device
use Rattle.trace_run.proofs.GetLemmas.{PoolDid, block-told, fault-calls, fault-cause, held-calls, held-told, ok-valid, pool-did}
use Rattle.trace_run.proofs.one_caller.AskingLemmas as asking
use Rattle.trace_run.proofs.deeds.BringDone.{BringDone, bring-then, bytes-refuse, held-source, nothing-brought, pool-refuses, read-brings, source_of_read}
use Rattle.trace_run.proofs.deeds.CellFound.{LeavesSeen, found-before, found-behind, seen-done, turn-finds, turn-placed}
use Rattle.trace_run.proofs.deeds.CellsDone.{done-then, turn-done, turn-low, waits-done}
use Rattle.trace_run.proofs.deeds.OperatesDone.{AreOfCell, all-both, both-of, cell-there, evictions-of, operates-done, release-of}
use Rattle.trace_run.proofs.deeds.OutlineFound.{uncached-there}
use Rattle.trace_run.proofs.deeds.TurnMakes.{AreTurnEvents, IsTurnEvent, starts-on}
use Rattle.trace_run.proofs.deeds.WorkDone.{AreHands, hand-kinds, holds-same, of-kinds, work-done}

-- ---- the caller

-- what a caller needs to stand between its lines again
pub record KeepsStanding (g : Config) (p q : PartyPlace) : Type 0 where
  pub number : q.number ≡ p.number
  pub joined : q.joined ≡ p.joined
  pub holds : q.own.ledger.holds ≡ p.own.ledger.holds
  pub readings : q.own.ledger.readings ≡ p.own.ledger.readings
  pub sees : SeesAll g q

pub stands-again : (cache : Cache) (kept : List KeptBlock) (p q : PartyPlace) → KeepsStanding cache.config p q → Stands cache p kept → IsPartyOf cache q → q.held ≡ [] → KeepsClaims p q → Stands cache q kept
stands-again cache kept p q k stands of free claims = record {
  valid = stands.valid;
  of = of;
  free = free;
  cells = k.sees.1;
  idle = k.readings ∙ stands.idle;
  unclaimed = λ i. claims i ∙ stands.unclaimed i;
  seen = k.sees.0;
  apart = subst (λ (x : ℕ × List (Joined (Known OnHeap))). Apart x.0 x.1) (λ i. (sym k.number i, sym k.joined i)) stands.apart;
  joined = subst AllQuiet (sym k.joined) stands.joined;
  owned = subst (λ (n : ℕ). AllByRecursion (λ b. IsOwnedBy n b.kept) kept) (sym k.number) stands.owned;
  listed = λ x. ap (times x) k.holds ∙ stands.listed x;
}

-- ---- a read that was refused by its key

module _ {C P D : Type 0} (m : Meanings C) (pools : PoolGhosts P) (devices : DeviceGhosts D) (g : Config) (ptr : Ptr) (t : ℕ) (before now : Outside P D) where
  never-key : (p q : Place (Known C)) (why : KeyFault) → Answers m pools devices g ptr t before now p q (Err (fault.Key why)) → ⊥
  never-key p q why (hit hold is d cached held same) = cc
  never-key p q why (missed r d missing (from_device hold is a)) = cc
  never-key p q why (missed r d missing (from_pool back turns (read ends))) = ends
  never-key p q why (missed r d missing (from_pool back turns (unread f))) = let is : ◌≡◌ {A = Result Read ReadFault} (Err (fault.Key why)) (Err fault.NoMemory) = f.answer in cc
  never-key p q why (missed r d missing (from_none asked f)) = let is : ◌≡◌ {A = Result Read ReadFault} (Err (fault.Key why)) (Err fault.NoMemory) = f.answer in cc
  never-key p q why (past kept other d cached device ends) = ends
  never-key p q why (no_memory is d same) = cc

  pub key-first : (p q : Place (Known C)) (why : KeyFault) → AnswersRead m pools devices g ptr t before now p q (Err (fault.Key why)) → (q ≡ p) × (now ≡ before) × IsFirstKeyFault (pools.size before.pool) ptr.key why
  key-first p q why (refused other is first same none) =
      let why_is : other ≡ why = cc in
      (same, none, subst (IsFirstKeyFault (pools.size before.pool) ptr.key) why_is first)
  key-first p q why (answered ok times r waits a) = absurd (never-key r q why a)

-- ---- evictions

-- they are evictions by n of some blocks
pub evicts : (n c : ℕ) (held : Oid → Bool) (o : Outline) (evs : List CellEvent) (es : List Event) → AreEvictions n c held o evs es → (oids : List Oid) × (evs ≡ map (events.Evict n) oids)
evicts n c held o [] es none = ([], refl)
evicts n c held o (e ∷ evs) es a =
    let rest = evicts n c held (after o e) evs a.3 a.9 in
    (a.0 ∷ rest.0, λ i. a.4 i ∷ rest.1 i)

-- ---- the calls

module _ (g : Config) (valid : IsConfig g) (at : Oid) (t : ℕ) (p q : PartyPlace) (config : p.own.about.config ≡ g) (sees : SeesAll g p) where
  abbrev i : ℕ
  i = cell_of g.cells at

  abbrev c : ℕ
  c = cell_number g i

  in_range : IsCell g i
  in_range = cell-there g valid at

  above : parties_of g ≤ c
  above = omega arith

  -- a party that did nothing before this has the same cache
  still : (r : PartyPlace) → LeavesSeen g p r → r.own.about.config ≡ g
  still r l = ap (λ (a : About). a.config) l.about ∙ config

  -- ---- a turn of the cell behind the waits

  module _ (ready : PartyPlace) (w : CellsDone g [] [] p ready) (cell : OnHeap) where
    ready-config : ready.own.about.config ≡ g
    ready-config = still ready (seen-done g [] p ready w)

    -- a turn of the cell in which nothing was done
    idle-turn : (r : PartyPlace) → CellTurn g i cell [] [] ready r → CellsDone g [] [] p r
    idle-turn r turn = done-then g [] [] [] [] p ready r w (turn-done g valid i in_range cell [] [] ready r ready-config w.sees tt turn)

    idle-found : (r s : PartyPlace) → CellTurn g i cell [] [] ready r → StartsWith (front_of i s.own.seen) (front_of i r.own.seen) → FindsCell g i cell p s
    idle-found r s turn grows = found-behind g i in_range cell p r s grows
        (found-before g i in_range cell p ready r (seen-done g [] p ready w) (turn-finds g valid i in_range cell [] [] ready r ready-config w.sees tt turn))

    low-of : (mid : OnHeap) (news : List CellEvent) (es : List Event) (r : PartyPlace) → AreTurnEvents ready.number c es → CellTurn g i mid news es ready r → p.number < parties_of g
    low-of mid news es r kinds turn = subst (λ (n : ℕ). n < parties_of g) w.number (turn-low g valid i in_range mid news es ready r ready-config w.sees kinds turn)

  -- ---- the operation's own turn

  module _ (brought : Brought) (back : PartyPlace) (hands : List Event) (b : BringDone g t c brought hands p back) (handing : AreHands p.number c hands) (mid : OnHeap) (held : Oid → Bool) (own : CellEvent) (released : List Event)
      (of : AreOfCell c released) (o : Operates g i mid held (loads_of p.number at brought ++ own ∷ []) (hands ++ released) back q) where
    abbrev own_loads : List CellEvent
    own_loads = loads_of p.number at brought

    back-config : back.own.about.config ≡ g
    back-config = still back b.seen

    kinds : AreTurnEvents back.number c (hands ++ released)
    kinds = subst (λ (n : ℕ). AreTurnEvents n c (hands ++ released)) (sym b.seen.number) (all-both (IsTurnEvent p.number c) hands released (hand-kinds p.number c hands handing) (of-kinds p.number c released of))

    all_of : AreOfCell c (released ++ o.drops)
    all_of = both-of c released o.drops of (evictions-of back.number c held _ o.evictions o.drops o.evicted)

    abbrev evicted-are : (found : List Oid) × (o.evictions ≡ map (events.Evict back.number) found)
    evicted-are = evicts back.number c held _ o.evictions o.drops o.evicted

    abbrev pub oids : List Oid
    oids = evicted-are.0

    are-oids : o.evictions ≡ map (events.Evict p.number) oids
    are-oids = evicted-are.1 ∙ ap (λ (n : ℕ). map (events.Evict n) oids) b.seen.number

    turn-kinds-all : AreTurnEvents back.number c ((hands ++ released) ++ o.drops)
    turn-kinds-all = all-both (IsTurnEvent back.number c) (hands ++ released) o.drops kinds (of-kinds back.number c o.drops (evictions-of back.number c held _ o.evictions o.drops o.evicted))

    low : p.number < parties_of g
    low = subst (λ (n : ℕ). n < parties_of g) b.seen.number
        (turn-low g valid i in_range mid ((own_loads ++ own ∷ []) ++ o.evictions) ((hands ++ released) ++ o.drops) back q back-config b.sees turn-kinds-all o.turn)

    own-done : CellsDone g (noted_in i (own_loads ++ own ∷ map (events.Evict p.number) oids)) (hands ++ (released ++ o.drops)) back q
    own-done = subst (λ (x : List CellEvent × List Event). CellsDone g (noted_in i x.0) x.1 back q)
        (λ k. ((append_assoc own_loads (own ∷ []) o.evictions ∙ ap (λ (l : List CellEvent). own_loads ++ own ∷ l) are-oids) k, append_assoc hands released o.drops k))
        (operates-done g valid i in_range mid held (own_loads ++ own ∷ []) (hands ++ released) back q back-config b.sees kinds o)

    pub own-work : DidWork g t c brought (released ++ o.drops) (noted_in i (own_loads ++ own ∷ map (events.Evict p.number) oids)) p q
    own-work = work-done g t c above brought hands (released ++ o.drops) _ p back q low b handing all_of own-done

    pub own-keeps : KeepsStanding g p q
    own-keeps = record {
      number = own-done.number ∙ b.seen.number;
      joined = own-done.joined ∙ b.seen.joined;
      holds = holds-same g t c above brought hands (released ++ o.drops) _ p back q low b handing all_of own-done;
      readings = own-done.readings ∙ b.readings;
      sees = own-done.sees;
    }

    pub own-found : FindsCell g i mid p q
    own-found = found-before g i in_range mid p back q b.seen (turn-finds g valid i in_range mid ((own_loads ++ own ∷ []) ++ o.evictions) ((hands ++ released) ++ o.drops) back q back-config b.sees turn-kinds-all o.turn)

    pub own-placed : StartsWith (front_of i q.own.seen) (cell_lines mid ++ lines_of_cell i (noted_in i (own_loads ++ own ∷ map (events.Evict p.number) oids)))
    own-placed = (
      [],
      subst (λ (l : List CellEvent). front_of i q.own.seen ≡ cell_lines mid ++ lines_of_cell i (noted_in i l)) (append_assoc own_loads (own ∷ []) o.evictions ∙ ap (λ (l : List CellEvent). own_loads ++ own ∷ l) are-oids)
          (turn-placed g valid i in_range mid ((own_loads ++ own ∷ []) ++ o.evictions) ((hands ++ released) ++ o.drops) back q back-config b.sees turn-kinds-all o.turn)
          ∙ sym (append-nil (cell_lines mid ++ lines_of_cell i (noted_in i (own_loads ++ own ∷ map (events.Evict p.number) oids)))),
    )

    pub own-evicted : AreEvictions p.number c held (after_all (outline_in mid) (own_loads ++ own ∷ [])) (map (events.Evict p.number) oids) o.drops
    own-evicted = subst (λ (x : ℕ × List CellEvent). AreEvictions x.0 c held (after_all (outline_in mid) (own_loads ++ own ∷ [])) x.1 o.drops) (λ k. (b.seen.number k, are-oids k)) o.evicted

  -- ---- what was not done

  -- nothing, in a turn of the cell behind which the party is q
  module _ (ready : PartyPlace) (w : CellsDone g [] [] p ready) (cell : OnHeap) (turn : CellTurn g i cell [] [] ready q) where
    none-last : CellsDone g [] [] ready q
    none-last = turn-done g valid i in_range cell [] [] ready q (ready-config ready w cell) w.sees tt turn

    none-low : p.number < parties_of g
    none-low = low-of ready w cell cell [] [] q tt turn

    none-work : DidWork g t c Nothing [] [] p q
    none-work = work-done g t c above Nothing [] [] [] p ready q none-low (nothing-brought g t c p ready w) tt tt none-last

    pub none-keeps : KeepsStanding g p q
    none-keeps = record {
      number = none-last.number ∙ w.number;
      joined = none-last.joined ∙ w.joined;
      holds = none-last.holds ∙ w.holds;
      readings = none-last.readings ∙ w.readings;
      sees = none-last.sees;
    }

    pub did-not : (Why : OnHeap → Type 0) → Why cell → DidNot g at t p q Nothing Why
    did-not Why why = record {
      cell = cell;
      found = idle-found ready w cell q q turn (starts_whole (front_of i q.own.seen));
      why = why;
      work = none-work;
    }

  -- ---- lines that ask for no block's bytes

  module _ (ready : PartyPlace) (w : CellsDone g [] [] p ready) (cell : OnHeap) where
    -- an operation that asks for no block's bytes
    pub operated : (own : CellEvent) (es : List Event) → AreOfCell c es → ReleasesFor c (held_in cell) own (outline_in cell) es → Operates g i cell (held_in cell) (own ∷ []) es ready q
        → Did g at t p q own Nothing (λ x. Unit {0}) × KeepsStanding g p q
    operated own es of rel o =
        let b = nothing-brought g t c p ready w in (
          record {
            cell = cell;
            found = own-found Nothing ready [] b tt cell (held_in cell) own es of o;
            fits = tt;
            brings = tt;
            released = es;
            releases = rel;
            evicted = oids Nothing ready [] b tt cell (held_in cell) own es of o;
            drops = o.drops;
            evictions = own-evicted Nothing ready [] b tt cell (held_in cell) own es of o;
            placed = own-placed Nothing ready [] b tt cell (held_in cell) own es of o;
            holders = o.turn.tells;
            work = own-work Nothing ready [] b tt cell (held_in cell) own es of o;
          },
          own-keeps Nothing ready [] b tt cell (held_in cell) own es of o,
        )

    pub unpinned-none : (named : Oid) → named ≡ at → has_pin_at ready.number at (outline_in cell) ≡ false → CellTurn g i cell [] [] ready q
        → DidNot g at t p q Nothing (λ x. (named ≡ at) × (has_pin_at p.number at (outline_in x) ≡ false)) × KeepsStanding g p q
    unpinned-none named named_is pin turn =
        (did-not ready w cell turn _ (named_is, subst (λ (n : ℕ). has_pin_at n at (outline_in cell) ≡ false) w.number pin), none-keeps ready w cell turn)

  -- the party waited, and did nothing meanwhile
  pub waited : {Then : OnHeap → PartyPlace → PartyPlace → Type 0} (once : OnceAtRest g at p q Then) → CellsDone g [] [] p once.ready
  waited once = waits-done g valid i in_range at once.times p once.ready config sees once.waits

  -- ---- lines that may bring a block

  module _ {P D : Type 0} (pools : PoolGhosts P) (devices : DeviceGhosts D) (law : (dev : D) (image : List ℕ) → devices.told dev ≡ Some image → length image ≡ devices.size dev) (before now : Outside P D) where
    -- ---- reads

    module _ (ptr : Ptr) (m back : PartyPlace) (w : CellsDone g [] [] p m) where
      came-config : m.own.about.config ≡ g
      came-config = still m (seen-done g [] p m w)

      -- what a party that is alone finds of the shard
      found-there : HasAll p → now_of g (shard_of g.shards ptr.key) m ≡ now_of g (shard_of g.shards ptr.key) p
      found-there all = ap (replay (opening_of g)) (w.alone all (shard_of g.shards ptr.key) ∙ append-nil (seen_of g (shard_of g.shards ptr.key) p))

      asked-alone : (result : Result Read ReadFault) → AnswersRead dbuf_meanings pools devices g ptr t before now m back result → HasAll p
          → asking.AsksFor dbuf_meanings g valid pools devices law ptr t (now_of g (shard_of g.shards ptr.key) p) result before.device now.device
      asked-alone result answer all = subst (λ (s : _). asking.AsksFor dbuf_meanings g valid pools devices law ptr t s result before.device now.device) (found-there all)
          (asking.read-asks dbuf_meanings g valid pools devices law ptr t before now m back result came-config w.sees.0 (w.all all) answer)

      pool-of : (result : Result Read ReadFault) → AnswersRead dbuf_meanings pools devices g ptr t before now m back result → PoolDid pools ptr before.pool now.pool result
      pool-of result answer = pool-did dbuf_meanings pools devices g ptr t before now m back result answer

      device-of : (result : Result Read ReadFault) → AnswersRead dbuf_meanings pools devices g ptr t before now m back result → DeviceDid devices ptr.key.size before.device now.device result
      device-of result answer = device.read-asks dbuf_meanings pools devices g ptr t before now m back result answer

      valid-of : (got : Read) → AnswersRead dbuf_meanings pools devices g ptr t before now m back (Ok got) → IsValid (pools.size before.pool) ptr.key
      valid-of got answer = ok-valid dbuf_meanings pools devices g ptr t before now m back (Ok got) got refl answer

      spent-loaded : (got : Read) → AnswersRead dbuf_meanings pools devices g ptr t before now m back (Ok got) → SpentOnRead pools devices g p before now ptr (Answered (source_of_read got))
      spent-loaded (gave.Held hold from) answer = record {
        valid = valid-of (gave.Held hold from) answer;
        calls = held-calls pools ptr before.pool now.pool hold from (pool-of (Ok (gave.Held hold from)) answer);
        range = held-told pools ptr before.pool now.pool hold from (pool-of (Ok (gave.Held hold from)) answer);
        asked = device-of (Ok (gave.Held hold from)) answer;
        asks = asked-alone (Ok (gave.Held hold from)) answer;
      }
      spent-loaded (gave.Past block kept) answer = record {
        valid = valid-of (gave.Past block kept) answer;
        calls = (now.pool, (pool-of (Ok (gave.Past block kept)) answer).call, refl);
        range = λ came. block-told pools ptr before.pool now.pool block.value (pool-of (Ok (gave.Past block kept)) answer);
        asked = device-of (Ok (gave.Past block kept)) answer;
        asks = asked-alone (Ok (gave.Past block kept)) answer;
      }

      spent-failed : AnswersRead dbuf_meanings pools devices g ptr t before now m back (Err fault.PoolFault) → SpentOnRead pools devices g p before now ptr (PoolRefused Failed)
      spent-failed answer = record {
        valid = (pool-of (Err fault.PoolFault) answer).1;
        calls = fault-calls pools ptr before.pool now.pool fault.PoolFault (pool-of (Err fault.PoolFault) answer);
        range = λ came. absurd came;
        asked = device-of (Err fault.PoolFault) answer;
        asks = asked-alone (Err fault.PoolFault) answer;
      }

      spent-others : (found : Digest) → AnswersRead dbuf_meanings pools devices g ptr t before now m back (Err (fault.Mismatch found)) → SpentOnRead pools devices g p before now ptr (PoolRefused Gave)
      spent-others found answer = record {
        valid = (pool-of (Err (fault.Mismatch found)) answer).1;
        calls = fault-calls pools ptr before.pool now.pool (fault.Mismatch found) (pool-of (Err (fault.Mismatch found)) answer);
        range = λ came. absurd came;
        asked = device-of (Err (fault.Mismatch found)) answer;
        asks = asked-alone (Err (fault.Mismatch found)) answer;
      }

    -- ---- how the bytes came

    pub record Came (brought : Brought) (back : PartyPlace) (mid : OnHeap) (loads : List CellEvent) (hands : List Event) : Type 0 where
      pub done : BringDone g t c brought hands p back
      pub loads_are : loads ≡ loads_of p.number at brought
      pub handing : AreHands p.number c hands
      pub held_is : held_behind at loads hands (held_in mid) ≡ held_once at brought (held_in mid)
      pub brings : (held : Oid → Bool) (own : CellEvent) (es : List Event) → Operates g i mid held (loads ++ own ∷ []) es back q → IsBrought at (outline_in mid) brought
      pub spent : (reply : Reply) → SpentOn pools devices g p before now brought reply

    module _ (ready : PartyPlace) (w : CellsDone g [] [] p ready) (cell : OnHeap) where
      -- a read behind such a turn
      module _ (ptr : Ptr) (back : PartyPlace) (answer : Result Read ReadFault) (reads : Reads pools devices g i at t before now ptr cell ready back answer) where
        marked-done : CellsDone g [] [] p reads.marked
        marked-done = idle-turn ready w cell reads.marked reads.turn

        marked-low : reads.marked.number < parties_of g
        marked-low = subst (λ (n : ℕ). n < parties_of g) (sym marked-done.number) (low-of ready w cell cell [] [] reads.marked tt reads.turn)

        marked-config : reads.marked.own.about.config ≡ g
        marked-config = still reads.marked (seen-done g [] p reads.marked marked-done)

        was-to-bring : WasToBring at ptr (outline_in cell)
        was-to-bring = record { pointer = reads.pointer; uncached = reads.uncached }

      come : (back : PartyPlace) (mid : OnHeap) (loads : List CellEvent) (hands : List Event) → Brings pools devices g i at t before now cell ready back mid loads hands → (brought : Brought) × Came brought back mid loads hands
      come back mid loads hands (here same is none nothing unchanged) = (
        Nothing,
        record {
          done = subst (λ (x : PartyPlace × List Event). BringDone g t c Nothing x.1 p x.0) (λ k. (sym same k, sym nothing k)) (nothing-brought g t c p ready w);
          loads_are = none;
          handing = subst (AreHands p.number c) (sym nothing) tt;
          held_is = λ z. held_behind at (none z) (nothing z) (held_in mid);
          brings = λ held own es o. tt;
          spent = λ reply. unchanged;
        },
      )
      come back mid loads hands (loaded ptr got reads pointer are handed_are) =
          let d = marked-done ptr back (Ok got) reads in
          let number : ready.number ≡ p.number = w.number in
          let same : handed reads.marked.number c got ≡ hands = ap (λ (n : ℕ). handed n c got) (d.number ∙ sym number) ∙ sym handed_are in
          let b : BringDone g t c (Loaded ptr (source_of_read got)) hands reads.marked back = subst (λ (l : List Event). BringDone g t c (Loaded ptr (source_of_read got)) l reads.marked back) same
          (read-brings g valid pools devices ptr t c before now reads.marked back (marked-low ptr back (Ok got) reads) (marked-config ptr back (Ok got) reads) d.sees got reads.answered) in
          let source : (hold : Hold) (from : Served) → got ≡ gave.Held hold from → from ≢ served.Past = λ hold from is.
          held-source g valid pools devices ptr t c before now reads.marked back (marked-low ptr back (Ok got) reads) (marked-config ptr back (Ok got) reads) d.sees hold from
          (subst (λ (x : Read). AnswersRead dbuf_meanings pools devices g ptr t before now reads.marked back (Ok x)) is reads.answered) in (
            Loaded ptr (source_of_read got),
            record {
              done = bring-then g t c (Loaded ptr (source_of_read got)) hands p reads.marked back d b;
              loads_are = are ∙ (ap (λ (n : ℕ). events.Load n at (bringing.gives_hold got) ∷ []) number ∙ ap (λ (b : Bool). events.Load p.number at b ∷ []) (gives-so got source));
              handing = subst (AreHands p.number c) (sym (handed_are ∙ ap (λ (n : ℕ). handed n c got) number)) (are-hands p.number got);
              held_is = (λ z. held_behind at (are z) (handed_are z) (held_in mid)) ∙ held-by ready.number got source;
              brings = λ held own es o.
                  let with_load : Operates g i mid held (events.Load ready.number at (bringing.gives_hold got) ∷ own ∷ []) es back q = subst (λ (l : List CellEvent). Operates g i mid held (l ++ own ∷ []) es back q) are o in
                  record { pointer = pointer; uncached = uncached-there at mid with_load.turn.sound.evicting ready.number (bringing.gives_hold got) with_load.turn.leads.0 };
              spent = λ reply. spent-loaded ptr reads.marked back d got reads.answered;
            },
          )
        where
          are-hands : (n : ℕ) (x : Read) → AreHands n c (handed n c x)
          are-hands n (gave.Held hold from) = ((hold.key, refl), tt)
          are-hands n (gave.Past block kept) = tt

          -- a hold is not of a read past the cache
          gives-so : (x : Read) → ((hold : Hold) (from : Served) → x ≡ gave.Held hold from → from ≢ served.Past) → bringing.gives_hold x ≡ gives_hold (source_of_read x)
          gives-so (gave.Held hold served.Hit) un = refl
          gives-so (gave.Held hold served.Pool) un = refl
          gives-so (gave.Held hold served.L2) un = refl
          gives-so (gave.Held hold served.Past) un = absurd (un hold served.Past refl refl)
          gives-so (gave.Past block kept) un = refl

          -- nor is one that was handed on
          held-by : (n : ℕ) (x : Read) → ((hold : Hold) (from : Served) → x ≡ gave.Held hold from → from ≢ served.Past) → held_behind at (events.Load n at (bringing.gives_hold x) ∷ []) (handed n c x) (held_in mid) ≡ held_once at (Loaded ptr (source_of_read x)) (held_in mid)
          held-by n (gave.Held hold served.Hit) un = refl
          held-by n (gave.Held hold served.Pool) un = refl
          held-by n (gave.Held hold served.L2) un = refl
          held-by n (gave.Held hold served.Past) un = absurd (un hold served.Past refl refl)
          held-by n (gave.Past block kept) un = refl

    -- the read behind the mark was refused, and the mark taken back
    module _ (ready : PartyPlace) (w : CellsDone g [] [] p ready) (cell : OnHeap) (last : ℕ) (inside : EndsInside at last (outline_in cell)) (ptr : Ptr) (back : PartyPlace) (mid : OnHeap) (turn : CellTurn g i mid [] [] back q) where
      module _ (cause : ReadFault) (reads : Reads pools devices g i at t before now ptr cell ready back (Err cause)) where
        abbrev m : PartyPlace
        m = reads.marked

        to_mark : CellsDone g [] [] p m
        to_mark = marked-done ready w cell ptr back (Err cause) reads

        mark-low : m.number < parties_of g
        mark-low = marked-low ready w cell ptr back (Err cause) reads

        mark-config : m.own.about.config ≡ g
        mark-config = marked-config ready w cell ptr back (Err cause) reads

        low-p : p.number < parties_of g
        low-p = subst (λ (n : ℕ). n < parties_of g) to_mark.number mark-low

        -- where bytes were asked for
        failed : (refusal : Refusal) → BringDone g t c (Refused ptr) [] m back → IsReadRefusal (pools.size before.pool) (pools.told before.pool) ptr refusal
            → SpentOn pools devices g p before now (Refused ptr) (replies.Refused refusal) → FailsToBring pools devices g at t before now p q last refusal × KeepsStanding g p q
        failed refusal bm cause_is spent =
            let b = bring-then g t c (Refused ptr) [] p m back to_mark bm in
            let d : CellsDone g [] [] back q = turn-done g valid i in_range mid [] [] back q (still back b.seen) b.sees tt turn in (
              (
                ptr,
                record {
                  cell = cell;
                  found = idle-found ready w cell m q reads.turn (starts-on g (front_of i q.own.seen) (front_of i back.own.seen) (front_of i m.own.seen) (d.cells i in_range) (bm.seen.cells i in_range));
                  why = (inside, was-to-bring ready w cell ptr back (Err cause) reads, cause_is);
                  work = work-done g t c above (Refused ptr) [] [] [] p back q low-p b tt tt d;
                },
                spent,
              ),
              record {
                number = d.number ∙ b.seen.number;
                joined = d.joined ∙ b.seen.joined;
                holds = d.holds ∙ b.holds;
                readings = d.readings ∙ b.readings;
                sees = d.sees;
              },
            )

      -- by its cause
      pub fails : (cause : ReadFault) → Reads pools devices g i at t before now ptr cell ready back (Err cause) → (refusal : Refusal) → IsRefused cause refusal
          → RefusesBytes pools devices g at t before now p q last refusal × KeepsStanding g p q
      fails (fault.PoolFault) reads refusal is =
          let d = to_mark fault.PoolFault reads in
          let low = mark-low fault.PoolFault reads in
          let config_m = mark-config fault.PoolFault reads in
          let did = pool-of ptr reads.marked back d (Err fault.PoolFault) reads.answered in
          subst (λ (r : Refusal). RefusesBytes pools devices g at t before now p q last r × KeepsStanding g p q) (sym is)
          (failed fault.PoolFault reads refusals.PoolFault (pool-refuses g valid pools devices ptr t c before now reads.marked back low config_m d.sees reads.answered) (fault-cause pools ptr before.pool now.pool fault.PoolFault did)
          (spent-failed ptr reads.marked back d reads.answered))
      fails (fault.Mismatch found) reads refusal is =
          let d = to_mark (fault.Mismatch found) reads in
          let low = mark-low (fault.Mismatch found) reads in
          let config_m = mark-config (fault.Mismatch found) reads in
          let did = pool-of ptr reads.marked back d (Err (fault.Mismatch found)) reads.answered in
          subst (λ (r : Refusal). RefusesBytes pools devices g at t before now p q last r × KeepsStanding g p q) (sym is)
          (failed (fault.Mismatch found) reads (refusals.Mismatch found) (bytes-refuse g valid pools devices ptr t c before now reads.marked back low config_m d.sees found reads.answered)
          (fault-cause pools ptr before.pool now.pool (fault.Mismatch found) did) (spent-others ptr reads.marked back d found reads.answered))
      fails (fault.Key why) reads refusal is =
          let key = key-first dbuf_meanings pools devices g ptr t before now reads.marked back why reads.answered in
          let d : CellsDone g [] [] p back = subst (CellsDone g [] [] p) (sym key.0) (to_mark (fault.Key why) reads) in
          let last_turn : CellsDone g [] [] back q = turn-done g valid i in_range mid [] [] back q (still back (seen-done g [] p back d)) d.sees tt turn in
          subst (λ (r : Refusal). RefusesBytes pools devices g at t before now p q last r × KeepsStanding g p q) (sym is) (
            (
              record {
                cell = cell;
                found = idle-found ready w cell reads.marked q reads.turn
                    (subst (λ (x : PartyPlace). StartsWith (front_of i q.own.seen) (front_of i x.own.seen)) key.0 (last_turn.cells i in_range));
                why = (inside, (ptr, reads.pointer, key.2));
                work = work-done g t c above Nothing [] [] [] p back q (low-p (fault.Key why) reads) (nothing-brought g t c p back d) tt tt last_turn;
              },
              key.1,
            ),
            record {
              number = last_turn.number ∙ d.number;
              joined = last_turn.joined ∙ d.joined;
              holds = last_turn.holds ∙ d.holds;
              readings = last_turn.readings ∙ d.readings;
              sees = last_turn.sees;
            },
          )
      fails (fault.NoMemory) reads refusal is = absurd is

    -- ---- the answers

    module _ (ready : PartyPlace) (w : CellsDone g [] [] p ready) (cell : OnHeap) where
      -- why the bytes were not there
      pub refuses : (last : ℕ) (why : ReadFault) (refusal : Refusal) → IsRefused why refusal → EndsInside at last (outline_in cell) → dbufs.Refuses pools devices g i at t before now cell ready q (dbuf_fault.Read why)
          → RefusesBytes pools devices g at t before now p q last refusal × KeepsStanding g p q
      refuses last why refusal is inside (not_loaded (bringing.refused ptr cause back mid reads turn unmarked why_is)) =
          fails ready w cell last inside ptr back mid turn cause reads refusal (same-cause cause why_is)
        where
          same-cause : (x : ReadFault) → dbuf_fault.Read why ≡ fault_of x → IsRefused x refusal
          same-cause (fault.PoolFault) same = let e : why ≡ fault.PoolFault = cc in subst (λ (y : ReadFault). IsRefused y refusal) e is
          same-cause (fault.Mismatch found) same = let e : why ≡ fault.Mismatch found = cc in subst (λ (y : ReadFault). IsRefused y refusal) e is
          same-cause (fault.Key key) same = let e : why ≡ fault.Key key = cc in subst (λ (y : ReadFault). IsRefused y refusal) e is
          same-cause (fault.NoMemory) same = cc
      refuses last why refusal is inside (not_loaded (bringing.no_memory ptr got back mid free reads turn unmarked drops why_is)) = absurd (never why_is)
        where
          never : dbuf_fault.Read why ≡ dbuf_fault.NoMemory → ⊥
          never same = cc
      refuses last why refusal is inside (no_room back mid loads hands why_is brings turn) = absurd (never why_is)
        where
          never : dbuf_fault.Read why ≡ dbuf_fault.NoMemory → ⊥
          never same = cc

      pub not-accessed : (last : ℕ) (why : ReadFault) (refusal : Refusal) → IsRefused why refusal → EndsInside at last (outline_in cell) → NotAccessed pools devices g i at t before now cell ready q (dbuf_fault.Read why)
          → RefusesBytes pools devices g at t before now p q last refusal × KeepsStanding g p q
      not-accessed last why refusal is inside (no_bytes refused_so) = refuses last why refusal is inside refused_so
      not-accessed last why refusal is inside (no_key key why_is h) =
          let same : why ≡ fault.Key key = cc in
          let told : refusal ≡ refusals.Key key = subst (λ (y : ReadFault). IsRefused y refusal) same is in
          subst (λ (r : Refusal). RefusesBytes pools devices g at t before now p q last r × KeepsStanding g p q) (sym told)
          ((did-not ready w cell h.turn _ (inside, (h.ptr, h.there, h.first)), h.outside), none-keeps ready w cell h.turn)

      pub no-block : (last : ℕ) (named : Oid) (refusal : Refusal) → refusal ≡ refusals.NoBlock named → HasNoBlock pools devices g i at t before now cell ready q named
          → RefusesBytes pools devices g at t before now p q last refusal × KeepsStanding g p q
      no-block last named refusal is h = subst (λ (r : Refusal). RefusesBytes pools devices g at t before now p q last r × KeepsStanding g p q) (sym is)
          ((did-not ready w cell h.turn _ (h.named_is, h.none), h.outside), none-keeps ready w cell h.turn)

      pub ends-past : (last end size : ℕ) (refusal : Refusal) → refusal ≡ refusals.Range end size → RangeEndsPast pools devices g i at t before now last cell ready q end size
          → RefusesBytes pools devices g at t before now p q last refusal × KeepsStanding g p q
      ends-past last end size refusal is h = subst (λ (r : Refusal). RefusesBytes pools devices g at t before now p q last r × KeepsStanding g p q) (sym is)
          ((did-not ready w cell h.turn _ (record { end_is = h.end_is; mapped = h.mapped; there = h.there; size_is = h.size_is; past = h.past }), h.outside), none-keeps ready w cell h.turn)

      is-inside : (last : ℕ) → dbufs.EndsInside pools devices g i at t before now last cell → EndsInside at last (outline_in cell)
      is-inside last h = record { mapped = h.mapped; there = h.there; inside = h.inside }

      -- an operation that brings the block's bytes and lets nothing go
      pub acted : (own : ℕ → CellEvent) (Fits : OnHeap → Type 0) (reply : Reply) (Then : OnHeap → Type 0) → ((x : OnHeap) → IsSound x.value → Fits x → Then x) → ((held : Oid → Bool) (o : Outline) → ReleasesFor c held (own p.number) o [])
          → Acts pools devices g i at t before now own Fits cell ready q → BringsLine pools devices g at t before now p q (own p.number) reply Then × KeepsStanding g p q
      acted own Fits reply Then fits none acts =
          let br = come ready w cell acts.back acts.mid acts.loads acts.hands acts.brings in
          let held : Oid → Bool = held_once at br.0 (held_in acts.mid) in
          let o : Operates g i acts.mid held (loads_of p.number at br.0 ++ own p.number ∷ []) (acts.hands ++ []) acts.back q = subst (λ (x : (Oid → Bool) × List CellEvent × List Event). Operates g i acts.mid x.0 x.1 x.2 acts.back q)
          (λ k. (br.1.held_is k, br.1.loads_are k ++ own (w.number k) ∷ [], sym (append-nil acts.hands) k)) acts.operates in (
            (
              br.0,
              record {
                cell = acts.mid;
                found = own-found br.0 acts.back acts.hands br.1.done br.1.handing acts.mid held (own p.number) [] tt o;
                fits = fits acts.mid o.turn.sound acts.fits;
                brings = br.1.brings (held_behind at acts.loads acts.hands (held_in acts.mid)) (own ready.number) acts.hands acts.operates;
                released = [];
                releases = none _ _;
                evicted = oids br.0 acts.back acts.hands br.1.done br.1.handing acts.mid held (own p.number) [] tt o;
                drops = o.drops;
                evictions = own-evicted br.0 acts.back acts.hands br.1.done br.1.handing acts.mid held (own p.number) [] tt o;
                placed = own-placed br.0 acts.back acts.hands br.1.done br.1.handing acts.mid held (own p.number) [] tt o;
                holders = o.turn.tells;
                work = own-work br.0 acts.back acts.hands br.1.done br.1.handing acts.mid held (own p.number) [] tt o;
              },
              br.1.spent reply,
            ),
            own-keeps br.0 acts.back acts.hands br.1.done br.1.handing acts.mid held (own p.number) [] tt o,
          )

      pub patched : (from : ℕ) (bytes : List ℕ) → Patches pools devices g i at t before now from bytes cell ready q
          → BringsLine pools devices g at t before now p q (events.Patch p.number at from bytes) replies.Done (λ x. Unit {0}) × KeepsStanding g p q
      patched from bytes a =
          let br = come ready w cell a.back a.mid a.loads a.hands a.brings in
          let own : CellEvent = events.Patch p.number at from bytes in
          let held : Oid → Bool = held_once at br.0 (held_in a.mid) in
          let of : AreOfCell c a.es = release-of c at _ _ a.es a.releases in
          let o : Operates g i a.mid held (loads_of p.number at br.0 ++ own ∷ []) (a.hands ++ a.es) a.back q = subst (λ (x : (Oid → Bool) × List CellEvent). Operates g i a.mid x.0 x.1 (a.hands ++ a.es) a.back q)
          (λ k. (br.1.held_is k, br.1.loads_are k ++ events.Patch (w.number k) at from bytes ∷ [])) a.operates in (
            (
              br.0,
              record {
                cell = a.mid;
                found = own-found br.0 a.back a.hands br.1.done br.1.handing a.mid held own a.es of o;
                fits = tt;
                brings = br.1.brings (held_behind at a.loads a.hands (held_in a.mid)) (events.Patch ready.number at from bytes) (a.hands ++ a.es) a.operates;
                released = a.es;
                releases = subst (λ (x : (Oid → Bool) × List CellEvent). Releases c at (x.0 at) (after_all (outline_in a.mid) x.1) a.es) (λ k. (br.1.held_is k, br.1.loads_are k)) a.releases;
                evicted = oids br.0 a.back a.hands br.1.done br.1.handing a.mid held own a.es of o;
                drops = o.drops;
                evictions = own-evicted br.0 a.back a.hands br.1.done br.1.handing a.mid held own a.es of o;
                placed = own-placed br.0 a.back a.hands br.1.done br.1.handing a.mid held own a.es of o;
                holders = o.turn.tells;
                work = own-work br.0 a.back a.hands br.1.done br.1.handing a.mid held own a.es of o;
              },
              br.1.spent replies.Done,
            ),
            own-keeps br.0 a.back a.hands br.1.done br.1.handing a.mid held own a.es of o,
          )

    -- ---- by what the calls answer

    answer-after : (w : Window) (got : ℕ × List ℕ) (x : OnHeap) → IsSound x.value → IsAnswer (plain_cell Never x.value) at w got.0 got.1 → IsAnswerAfter x.value.limit x.value.opening x.value.history at w got.0 got.1
    answer-after w got x sound a = record {
      bases = sound.bases;
      cell = plain_cell sound.evicting x.value;
      legal = sound.history.legal;
      answer = record { bytes = a.bytes; of = a.of; sized = a.sized; inside = a.inside; window = a.window };
    }

    pub got-done : (w : Window) (got : ℕ × List ℕ) → AnswersGet pools devices g at t before now w p q (Ok got) → DidGet pools devices g at t before now p q w (replies.Got got.0 got.1) × KeepsStanding g p q
    got-done w got once = acted once.ready (waited once) once.before (λ n. events.Get n at) (λ b. IsAnswer (plain_cell Never b.value) at w got.0 got.1) (replies.Got got.0 got.1) _ (answer-after w got) (λ held o. refl) once.happens

    pub get-refused : (w : Window) (why : DbufFault) (refusal : Refusal) → TellsFault why refusal → AnswersGet pools devices g at t before now w p q (Err why) → DidGet pools devices g at t before now p q w (replies.Refused refusal) × KeepsStanding g p q
    get-refused w (dbuf_fault.Read why) refusal tells once =
        not-accessed once.ready (waited once) once.before (w.at + w.len) why refusal tells (is-inside once.ready (waited once) once.before (w.at + w.len) once.happens.0) once.happens.1
    get-refused w (dbuf_fault.NoBlock named) refusal tells once = no-block once.ready (waited once) once.before (w.at + w.len) named refusal tells once.happens
    get-refused w (dbuf_fault.Range end size) refusal tells once = ends-past once.ready (waited once) once.before (w.at + w.len) end size refusal tells once.happens
    get-refused w (dbuf_fault.NoPin named) refusal tells once = absurd once.happens
    get-refused w dbuf_fault.NoMemory refusal tells once = absurd tells

    pub patch-done : {T : Type 0} (from : ℕ) (bytes : List ℕ) (done : T) → AnswersPatch pools devices g at t before now from bytes p q (Ok done) → DidPatch pools devices g at t before now p q from bytes replies.Done × KeepsStanding g p q
    patch-done from bytes done once = patched once.ready (waited once) once.before from bytes once.happens

    pub patch-refused : (T : Type 0) (from : ℕ) (bytes : List ℕ) (why : DbufFault) (refusal : Refusal) → TellsFault why refusal → AnswersPatch pools devices g at t before now {T = T} from bytes p q (Err why)
        → DidPatch pools devices g at t before now p q from bytes (replies.Refused refusal) × KeepsStanding g p q
    patch-refused T from bytes (dbuf_fault.Read why) refusal tells once =
        not-accessed once.ready (waited once) once.before (from + length bytes) why refusal tells (is-inside once.ready (waited once) once.before (from + length bytes) once.happens.0) once.happens.1
    patch-refused T from bytes (dbuf_fault.NoBlock named) refusal tells once = no-block once.ready (waited once) once.before (from + length bytes) named refusal tells once.happens
    patch-refused T from bytes (dbuf_fault.Range end size) refusal tells once = ends-past once.ready (waited once) once.before (from + length bytes) end size refusal tells once.happens
    patch-refused T from bytes (dbuf_fault.NoPin named) refusal tells once = absurd once.happens
    patch-refused T from bytes dbuf_fault.NoMemory refusal tells once = absurd tells

    pub pin-done : {T : Type 0} (done : T) → AnswersHold pools devices g at t before now p q (Ok done) → DidPin pools devices g at t before now p q replies.Done × KeepsStanding g p q
    pin-done done once = acted once.ready (waited once) once.before (λ n. events.Pin n at) (λ b. Unit {0}) replies.Done _ (λ x sound fits. tt) (λ held o. refl) once.happens

    -- what the pool, the block's key or the device refuses is refused of the block alone too
    read-block : (why : ReadFault) (refusal : Refusal) → IsRefused why refusal → RefusesBytes pools devices g at t before now p q 0 refusal → RefusesBlock pools devices g at t before now p q refusal
    read-block (fault.PoolFault) refusal is r = subst (RefusesBlock pools devices g at t before now p q) (sym is) (subst (RefusesBytes pools devices g at t before now p q 0) is r)
    read-block (fault.Mismatch found) refusal is r = subst (RefusesBlock pools devices g at t before now p q) (sym is) (subst (RefusesBytes pools devices g at t before now p q 0) is r)
    read-block (fault.Key why) refusal is r = subst (RefusesBlock pools devices g at t before now p q) (sym is) (subst (RefusesBytes pools devices g at t before now p q 0) is r)
    read-block (fault.NoMemory) refusal is r = absurd is

    pub pin-refused : (T : Type 0) (why : DbufFault) (refusal : Refusal) → TellsFault why refusal → AnswersHold pools devices g at t before now {T = T} p q (Err why) → DidPin pools devices g at t before now p q (replies.Refused refusal) × KeepsStanding g p q
    pin-refused T (dbuf_fault.Read why) refusal tells once =
        let r = refuses once.ready (waited once) once.before 0 why refusal tells (is-inside once.ready (waited once) once.before 0 once.happens.0) once.happens.1 in
        (read-block why refusal tells r.0, r.1)
    pin-refused T (dbuf_fault.NoBlock named) refusal tells once =
        let r = no-block once.ready (waited once) once.before 0 named refusal tells once.happens in
        (subst (RefusesBlock pools devices g at t before now p q) (sym tells) (subst (RefusesBytes pools devices g at t before now p q 0) tells r.0), r.1)
    pin-refused T (dbuf_fault.Range end size) refusal tells once = absurd once.happens
    pin-refused T (dbuf_fault.NoPin named) refusal tells once = absurd once.happens
    pin-refused T dbuf_fault.NoMemory refusal tells once = absurd tells

-- ---- puts, and pins that are taken back

module _ (g : Config) (valid : IsConfig g) (at : Oid) (p q : PartyPlace) (config : p.own.about.config ≡ g) (sees : SeesAll g p) where
  pub put-done : {T : Type 0} (size fill : ℕ) (done : T) → AnswersPut g at size fill p q (Ok done) → DidPut g at p q size fill replies.Done × KeepsStanding g p q
  put-done size fill done once =
      let w = waited g valid at 0 p q config sees once in
      let c : ℕ = cell_number g (cell_of g.cells at) in
      let es : List Event = once.happens.es in
      operated g valid at 0 p q config sees once.ready w once.before (events.Put p.number at size fill) es (release-of c at (held_in once.before at) (outline_in once.before) es once.happens.releases) once.happens.releases
      (subst (λ (n : ℕ). Operates g (cell_of g.cells at) once.before (held_in once.before) (events.Put n at size fill ∷ []) es once.ready q) w.number once.happens.operates)

  -- a put is refused memory alone
  pub put-refused : (T : Type 0) (size fill : ℕ) (why : DbufFault) (refusal : Refusal) → TellsFault why refusal → AnswersPut {T = T} g at size fill p q (Err why) → DidPut g at p q size fill (replies.Refused refusal) × KeepsStanding g p q
  put-refused T size fill (dbuf_fault.Read why) refusal tells answer = absurd answer
  put-refused T size fill (dbuf_fault.NoBlock named) refusal tells answer = absurd answer
  put-refused T size fill (dbuf_fault.Range end most) refusal tells answer = absurd answer
  put-refused T size fill (dbuf_fault.NoPin named) refusal tells answer = absurd answer
  put-refused T size fill dbuf_fault.NoMemory refusal tells answer = absurd tells

  pub unpin-done : {T : Type 0} (done : T) → AnswersUnhold g at p q (Ok done) → DidUnpin g at p q replies.Done × KeepsStanding g p q
  unpin-done done once =
      let w = waited g valid at 0 p q config sees once in
      operated g valid at 0 p q config sees once.ready w once.before (events.Unpin p.number at) [] tt refl (subst (λ (n : ℕ). Operates g (cell_of g.cells at) once.before (held_in once.before) (events.Unpin n at ∷ []) [] once.ready q) w.number once.happens)

  pub unpin-refused : (T : Type 0) (why : DbufFault) (refusal : Refusal) → TellsFault why refusal → AnswersUnhold {T = T} g at p q (Err why) → DidUnpin g at p q (replies.Refused refusal) × KeepsStanding g p q
  unpin-refused T (dbuf_fault.NoPin named) refusal tells once =
      subst (λ (r : Refusal). DidUnpin g at p q (replies.Refused r) × KeepsStanding g p q) (sym tells)
      (unpinned-none g valid at 0 p q config sees once.ready (waited g valid at 0 p q config sees once) once.before named once.happens.0 once.happens.2 once.happens.1)
  unpin-refused T (dbuf_fault.Read why) refusal tells once = absurd once.happens
  unpin-refused T (dbuf_fault.NoBlock named) refusal tells once = absurd once.happens
  unpin-refused T (dbuf_fault.Range end size) refusal tells once = absurd once.happens
  unpin-refused T dbuf_fault.NoMemory refusal tells once = absurd tells
