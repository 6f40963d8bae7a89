-- What a read that the shared cache answered adds to what its party has seen: its own moments, whatever other parties did between; and of a
-- party that is alone just these events.
use Rattle.std.proofs.Common.{◌≡◌, ◌≢◌, ℕ, zero, suc, ◌&&◌, false, IsTrue, List, [], ◌∷◌, ◌++◌, map, Option, Some, None, Result, Ok, Err, refl, sym, ap, ◌∙◌, subst, inl, inr, append-nil, eq-eqb}
use Rattle.std.specs.List.{AllByRecursion}
use Rattle.std.specs.Option.{option_map_or}
use Rattle.blk_ptr.specs.declared.digest.Digest.{Digest}
use Rattle.blk_ptr.specs.declared.ptr.Ptr.{Ptr}
use Rattle.blk_ptr.specs.Hash.{shard_of}
use Rattle.arc_lists.proofs.Standing.{and_right}
use Rattle.vdev_io.specs.declared.device.CacheDev.{Ghosts as DeviceGhosts}
use Rattle.vdev_io.specs.declared.pool.Pool.{Ghosts as PoolGhosts}
use Rattle.arc_core.specs.Config.{IsConfig}
use Rattle.arc_core.specs.declared.config.Config.{Config}
use Rattle.arc_core.specs.declared.entry.Entry.{Entry}
use Rattle.arc_core.specs.declared.event.Event.{Event}
use Rattle.arc_core.specs.declared.event.Event.TheVariants.{Hit, Miss, Arrive, Fail, Past}
use Rattle.arc_core.specs.declared.event.FailedAt.TheVariants as failed
use Rattle.arc_core.specs.declared.event.Origin.TheVariants as origin
use Rattle.arc_core.specs.declared.served.ReadFault.{ReadFault}
use Rattle.arc_core.specs.declared.served.ReadFault.TheVariants as fault
use Rattle.arc_core.specs.declared.served.Served.{Served}
use Rattle.arc_core.specs.declared.served.Served.TheVariants as served
use Rattle.arc_core.specs.declared.shard.EntryView.{EntryView}
use Rattle.arc_core.specs.Operations.{AreEvents, Fails, IsHonest, IsServed, Moment, goes_on, is_pass, number_of}
use Rattle.arc_core.specs.PlainShard.{PlainShard, entry_is, entry_of, is_resident, keeps_digest}
use Rattle.arc_core.specs.Replay.{replay}
use Rattle.turn_table.specs.Places.{Place}
use Rattle.arc_table.specs.declared.read.Read.{Read}
use Rattle.arc_table.specs.declared.read.Read.TheVariants as gave
use Rattle.arc_table.specs.declared.view.Known.{Known}
use Rattle.arc_table.specs.Both.{Does}
use Rattle.arc_table.specs.scans.Ending.{DoesRoomy}
use Rattle.arc_table.specs.Geometry.{shard_turn}
use Rattle.arc_table.specs.Items.{Meanings}
use Rattle.arc_table.specs.Reading.{Answers, AnswersRead, EndsAtPool, EndsMiss, EndsPast, GoesToPool, Outside, TurnsToPool, Waits, answered, cleared, from_device, from_none, from_pool, hit, missed, no_memory, past, read, refused, unread, unserved}
use Rattle.arc_table.specs.scans.Scanning.{ArePasses}
use Rattle.arc_table.specs.pact.Standing.{IsCachedWith}
use Rattle.arc_table.proofs.Reached.{reached}
use Rattle.trace_run.specs.one_caller.Access as access
use Rattle.trace_run.specs.one_caller.Access.{Access, AsksPool, MayComeFrom, access_of, events_of_answered, events_of_refused}
use Rattle.arc_table.specs.Telling.{opening_of}
use Rattle.trace_run.specs.Reads.{access_now, now_of}
use Rattle.arc_table.specs.Seen.{HasAll, seen_of}
use Rattle.trace_run.specs.Making.{HasSeenItsEvents}
use Rattle.trace_run.proofs.one_caller.AccessLemmas.{access-cached, access-missed, access-other}
use Rattle.trace_run.proofs.MoveLemmas.{Moves, does-moves, does-now, moves-none, moves-then, one-moves, roomy-moves, roomy-now}
use Rattle.arc_table.proofs.scans.ScanAlone.{scan-alone}
use Rattle.arc_table.proofs.reads.ReadMoments.{moment, own-behind, own-none, own-one, own-single}

-- bytes that are cached with a digest are kept with it
cached-keeps : (ptr : Ptr) (s : PlainShard) → IsCachedWith ptr s → IsTrue (entry_is (keeps_digest ptr.digest) ptr.key s)
cached-keeps ptr s cached = go (entry_of ptr.key s) cached
  where
    go : (o : Option Entry) → IsTrue (option_map_or (λ e. is_resident e && keeps_digest ptr.digest e) o false) → IsTrue (option_map_or (keeps_digest ptr.digest) o false)
    go None is = is
    go (Some e) is = and_right (is_resident e) (keeps_digest ptr.digest e) is

module _ {C P D : Type 0} (m : Meanings C) (g : Config) (valid : IsConfig g) (pools : PoolGhosts P) (devices : DeviceGhosts D) (ptr : Ptr) (t : ℕ) where
  abbrev shard : ℕ
  shard = shard_of g.shards ptr.key

  -- ---- the parts

  pub waits-move : (times : ℕ) (p q : Place (Known C)) → p.own.about.config ≡ g → HasSeenItsEvents g p → Waits m g ptr.key times p q → Moves g shard [] [] p q
  waits-move zero p q config seen is = subst (Moves g shard [] [] p) (sym is) (moves-none g shard p config seen)
  waits-move (suc times) p q config seen w =
      let a = waits-move times p w.0 config seen w.1 in
      let b = does-moves m g valid ptr.key w.0 q a.config a.seen [] (own-none w.0.number) w.2.does in
      moves-then g shard [] [] [] [] p w.0 q a b

  one-move : (e : Event) (p q : Place (Known C)) → p.own.about.config ≡ g → HasSeenItsEvents g p → number_of e ≡ p.number → is_pass e ≡ false → (d : Does m g ptr.key (e ∷ []) p q)
      → Moves g shard (moment d.before.now e ∷ []) (e ∷ []) p q
  one-move e p q config seen his none d = one-moves m g valid ptr.key p q config seen e his none d

  miss-move : (p q : Place (Known C)) → p.own.about.config ≡ g → HasSeenItsEvents g p → (d : DoesRoomy m g ptr.key (Miss p.number ptr.key t) p q)
      → Moves g shard (moment (replay d.before.now d.makes.passes) (Miss p.number ptr.key t) ∷ []) (d.makes.passes ++ Miss p.number ptr.key t ∷ []) p q
  miss-move p q config seen d =
      let e : Event = Miss p.number ptr.key t in
      let r = reached m g ptr.key d.chain d.before p d.reached d.takes in
      let own : ArePasses g p.number (shard_turn g ptr.key) d.makes.passes = subst (λ (n : ℕ). ArePasses g n (shard_turn g ptr.key) d.makes.passes) r.number d.makes.own in
      subst (λ (ms : List Moment). Moves g shard ms (d.makes.passes ++ e ∷ []) p q)
      (own-behind g p.number (shard_turn g ptr.key) d.before.now d.makes.passes e own ∙ own-one p.number (replay d.before.now d.makes.passes) e refl refl)
      (roomy-moves m g valid ptr.key p q config seen e (refl, refl, eq-eqb p.number p.number refl) d)

  turn-move : (found : Option EntryView) (old new : D) (p q : Place (Known C)) → p.own.about.config ≡ g → HasSeenItsEvents g p → TurnsToPool m devices g ptr found old new p q → Moves g shard [] [] p q
  turn-move found old new p q config seen (unserved why is) = subst (Moves g shard [] [] p) (sym is) (moves-none g shard p config seen)
  turn-move found old new p q config seen (cleared bytes came f) = does-moves m g valid ptr.key p q config seen [] (own-none p.number) f.does

  -- how a party that is alone finds its block, where it found the shard so
  access-then : (p : Place (Known C)) (s : PlainShard) (a : Access) → s ≡ now_of g shard p → access_of s ptr ≡ a → access_now g ptr p ≡ a
  access-then p s a now is = ap (λ (x : PlainShard). access_of x ptr) (sym now) ∙ is

  -- ---- what it adds

  -- an access that was answered, from here
  pub record AddsServed (from : Served) (p q : Place (Known C)) : Type 0 where
    pub ms : List Moment
    pub es : List Event
    pub moves : Moves g shard ms es p q
    pub events : IsServed p.number t ptr from [] (map (λ (x : Moment). x.event) ms)
    pub digests : AllByRecursion (IsHonest (Some ptr.digest)) ms
    pub alone : HasAll p → (es ≡ events_of_answered p.number t ptr from (access_now g ptr p)) × MayComeFrom (access_now g ptr p) from

  -- one for which the pool failed or gave other bytes
  pub record AddsFailed (p q : Place (Known C)) : Type 0 where
    pub ms : List Moment
    pub es : List Event
    pub moves : Moves g shard ms es p q
    pub events : AreEvents (Fails p.number t ptr) (map (λ (x : Moment). x.event) ms)
    pub digests : AllByRecursion (IsHonest (Some ptr.digest)) ms
    pub alone : HasAll p → (es ≡ events_of_refused p.number t ptr (access_now g ptr p)) × AsksPool (access_now g ptr p)

  -- of want of memory only that the party has seen its own
  abbrev pub AddsAnswer : Place (Known C) → Place (Known C) → Result Read ReadFault → Type 0
  AddsAnswer p q (Ok (gave.Held hold from)) = AddsServed from p q
  AddsAnswer p q (Ok (gave.Past block kept)) = AddsServed served.Past p q
  AddsAnswer p q (Err (fault.PoolFault)) = AddsFailed p q
  AddsAnswer p q (Err (fault.Mismatch found)) = AddsFailed p q
  AddsAnswer p q (Err (fault.Key why)) = ⊥
  AddsAnswer p q (Err (fault.NoMemory)) = HasSeenItsEvents g q

  -- a miss has begun with these events
  record Begun (s : PlainShard) (es : List Event) (p r : Place (Known C)) : Type 0 where
    pub moves : Moves g shard (moment s (Miss p.number ptr.key t) ∷ []) es p r
    pub alone : HasAll p → (es ≡ Miss p.number ptr.key t ∷ []) × (access_now g ptr p ≡ access.Miss)

  -- a miss and then the event that ended it
  ended : (s : PlainShard) (es : List Event) (p back q : Place (Known C)) → Begun s es p back → (e : Event) → number_of e ≡ back.number → is_pass e ≡ false
      → (d : Does m g ptr.key (e ∷ []) back q) → Moves g shard (moment s (Miss p.number ptr.key t) ∷ (moment d.before.now e ∷ [])) (es ++ e ∷ []) p q
  ended s es p back q begun e his none d =
      moves-then g shard (moment s (Miss p.number ptr.key t) ∷ []) (moment d.before.now e ∷ []) es (e ∷ []) p back q begun.moves (one-move e back q begun.moves.config begun.moves.seen his none d)

  -- the events of a party that is alone
  alone-ended : (s : PlainShard) (es : List Event) (p back : Place (Known C)) → Begun s es p back → HasAll p → (e : ℕ → Event) → es ++ e back.number ∷ [] ≡ Miss p.number ptr.key t ∷ (e p.number ∷ [])
  alone-ended s es p back begun a e = ap (λ (l : List Event). l ++ e back.number ∷ []) (begun.alone a).0 ∙ ap (λ (n : ℕ). Miss p.number ptr.key t ∷ (e n ∷ [])) begun.moves.own.number

  pool-failed : (s : PlainShard) (es : List Event) (p back q : Place (Known C)) → Begun s es p back → Does m g ptr.key (Fail back.number ptr.key failed.Pool ∷ []) back q → AddsFailed p q
  pool-failed s es p back q begun d = record {
    ms = _;
    es = _;
    moves = ended s es p back q begun (Fail back.number ptr.key failed.Pool) refl refl d;
    events = inl (ap (λ (n : ℕ). Miss p.number ptr.key t ∷ (Fail n ptr.key failed.Pool ∷ [])) begun.moves.own.number);
    digests = (tt, (tt, tt));
    alone = λ a.
        let is = (begun.alone a).1 in
        (alone-ended s es p back begun a (λ n. Fail n ptr.key failed.Pool) ∙ ap (events_of_refused p.number t ptr) (sym is), subst AsksPool (sym is) tt);
  }

  pool-adds : (old new : P) (s : PlainShard) (es : List Event) (p back q : Place (Known C)) (result : Result Read ReadFault) → Begun s es p back
      → EndsAtPool m pools g ptr old new back q result → AddsAnswer p q result
  pool-adds old new s es p back q (Ok (gave.Held hold served.Pool)) begun h = record {
    ms = _;
    es = _;
    moves = ended s es p back q begun (Arrive back.number ptr.key ptr.digest origin.Pool) refl refl h.0;
    events = ap (λ (n : ℕ). Miss p.number ptr.key t ∷ (Arrive n ptr.key ptr.digest origin.Pool ∷ [])) begun.moves.own.number;
    digests = (tt, (tt, tt));
    alone = λ a.
        let is = (begun.alone a).1 in
        (alone-ended s es p back begun a (λ n. Arrive n ptr.key ptr.digest origin.Pool) ∙ ap (events_of_answered p.number t ptr served.Pool) (sym is), subst (λ (a : Access). MayComeFrom a served.Pool) (sym is) (inl refl));
  }
  pool-adds old new s es p back q (Ok (gave.Held hold served.Hit)) begun h = absurd h
  pool-adds old new s es p back q (Ok (gave.Held hold served.L2)) begun h = absurd h
  pool-adds old new s es p back q (Ok (gave.Held hold served.Past)) begun h = absurd h
  pool-adds old new s es p back q (Ok (gave.Past block kept)) begun h = absurd h
  pool-adds old new s es p back q (Err (fault.PoolFault)) begun h = pool-failed s es p back q begun h.0
  pool-adds old new s es p back q (Err (fault.Mismatch found)) begun h = pool-failed s es p back q begun h.0
  pool-adds old new s es p back q (Err (fault.Key why)) begun h = absurd h
  pool-adds old new s es p back q (Err (fault.NoMemory)) begun h = (ended s es p back q begun (Fail back.number ptr.key failed.Pool) refl refl h.0).seen

  past-failed : (kept : Digest) (p q : Place (Known C)) → p.own.about.config ≡ g → HasSeenItsEvents g p → kept ≢ ptr.digest
      → (d : Does m g ptr.key (Past p.number ptr.key kept ∷ []) p q) → (HasAll p → access_now g ptr p ≡ access.Past kept) → AddsFailed p q
  past-failed kept p q config seen other d alone = record {
    ms = _;
    es = _;
    moves = one-move (Past p.number ptr.key kept) p q config seen refl refl d;
    events = inr (kept, refl);
    digests = (other, tt);
    alone = λ a. (ap (events_of_refused p.number t ptr) (sym (alone a)), subst AsksPool (sym (alone a)) tt);
  }

  past-adds : (old new : P) (kept : Digest) (p q : Place (Known C)) (result : Result Read ReadFault) → p.own.about.config ≡ g → HasSeenItsEvents g p → kept ≢ ptr.digest
      → (d : Does m g ptr.key (Past p.number ptr.key kept ∷ []) p q) → (HasAll p → access_now g ptr p ≡ access.Past kept) → EndsPast pools ptr kept old new result → AddsAnswer p q result
  past-adds old new kept p q (Ok (gave.Past block digest)) config seen other d alone h = record {
    ms = _;
    es = _;
    moves = one-move (Past p.number ptr.key kept) p q config seen refl refl d;
    events = (kept, refl);
    digests = (other, tt);
    alone = λ a. (ap (events_of_answered p.number t ptr served.Past) (sym (alone a)), subst (λ (a : Access). MayComeFrom a served.Past) (sym (alone a)) refl);
  }
  past-adds old new kept p q (Ok (gave.Held hold from)) config seen other d alone h = absurd h
  past-adds old new kept p q (Err (fault.PoolFault)) config seen other d alone h = past-failed kept p q config seen other d alone
  past-adds old new kept p q (Err (fault.Mismatch found)) config seen other d alone h = past-failed kept p q config seen other d alone
  past-adds old new kept p q (Err (fault.Key why)) config seen other d alone h = absurd h
  past-adds old new kept p q (Err (fault.NoMemory)) config seen other d alone h = (one-move (Past p.number ptr.key kept) p q config seen refl refl d).seen

  unread-seen : (e : Event) (p q : Place (Known C)) → p.own.about.config ≡ g → HasSeenItsEvents g p → number_of e ≡ p.number → is_pass e ≡ false → Does m g ptr.key (e ∷ []) p q → HasSeenItsEvents g q
  unread-seen e p q config seen his none d = (one-move e p q config seen his none d).seen

  goes-adds : (old new : P) (s : PlainShard) (es : List Event) (p back q : Place (Known C)) (result : Result Read ReadFault) → Begun s es p back
      → GoesToPool m pools g ptr old new back q result → AddsAnswer p q result
  goes-adds old new s es p back q result begun (read ends) = pool-adds old new s es p back q result begun ends
  goes-adds old new s es p back q result begun (unread f) = subst (AddsAnswer p q) (sym f.answer) (unread-seen _ back q begun.moves.config begun.moves.seen refl refl f.does)

  turned : (s : PlainShard) (es : List Event) (p r back : Place (Known C)) → Begun s es p r → Moves g shard [] [] r back → Begun s (es ++ []) p back
  turned s es p r back begun moves = record {
    moves = moves-then g shard (moment s (Miss p.number ptr.key t) ∷ []) [] es [] p r back begun.moves moves;
    alone = λ a. (append-nil es ∙ (begun.alone a).0, (begun.alone a).1);
  }

  miss-adds : (before now : Outside P D) (s : PlainShard) (es : List Event) (found : Option EntryView) (p r q : Place (Known C)) (result : Result Read ReadFault) → Begun s es p r → EndsMiss m pools devices g ptr found before now r q result → AddsAnswer p q result
  miss-adds before now s es found p r q result begun (from_device hold is a) = subst (AddsAnswer p q) (sym is) (record {
    ms = _;
    es = _;
    moves = ended s es p r q begun (Arrive r.number ptr.key ptr.digest origin.L2) refl refl a.does;
    events = ap (λ (n : ℕ). Miss p.number ptr.key t ∷ (Arrive n ptr.key ptr.digest origin.L2 ∷ [])) begun.moves.own.number;
    digests = (tt, (tt, tt));
    alone = λ x.
        let is = (begun.alone x).1 in
        (alone-ended s es p r begun x (λ n. Arrive n ptr.key ptr.digest origin.L2) ∙ ap (events_of_answered p.number t ptr served.L2) (sym is), subst (λ (a : Access). MayComeFrom a served.L2) (sym is) (inr refl));
  })
  miss-adds before now s es found p r q result begun (from_pool back turns goes) =
      goes-adds before.pool now.pool s (es ++ []) p back q result (turned s es p r back begun (turn-move found before.device now.device r back begun.moves.config begun.moves.seen turns)) goes
  miss-adds before now s es found p r q result begun (from_none asked f) = subst (AddsAnswer p q) (sym f.answer) (unread-seen _ r q begun.moves.config begun.moves.seen refl refl f.does)

  answer-adds : (before now : Outside P D) (p q : Place (Known C)) (result : Result Read ReadFault) → p.own.about.config ≡ g → HasSeenItsEvents g p
      → Answers m pools devices g ptr t before now p q result → AddsAnswer p q result
  answer-adds before now p q result config seen (hit hold is d cached held same) = subst (AddsAnswer p q) (sym is) (record {
    ms = _;
    es = _;
    moves = one-move (Hit p.number ptr.key t) p q config seen refl refl d;
    events = refl;
    digests = (cached-keeps ptr d.before.now cached, tt);
    alone = λ a.
        let is_hit = access-then p d.before.now access.Hit (does-now m g valid ptr.key p q config seen (Hit p.number ptr.key t ∷ []) (own-single p.number (Hit p.number ptr.key t) refl refl) d a) (access-cached ptr d.before.now cached) in
        (ap (events_of_answered p.number t ptr served.Hit) (sym is_hit), subst (λ (a : Access). MayComeFrom a served.Hit) (sym is_hit) refl);
  })
  answer-adds before now p q result config seen (missed r d missing ends) = miss-adds before now (replay d.before.now d.makes.passes) _ _ p r q result
      (record {
        moves = miss-move p r config seen d;
        alone = λ a.
            let e : Event = Miss p.number ptr.key t in
            let fits : (number_of e ≡ p.number) × (is_pass e ≡ false) × IsTrue (goes_on p.number e) = (refl, refl, eq-eqb p.number p.number refl) in
            (ap (λ (l : List Event). l ++ e ∷ []) (scan-alone m g ptr.key e p r a d), access-then p d.before.now access.Miss (roomy-now m g valid ptr.key p r config seen e fits d a) (access-missed ptr d.before.now missing));
      })
      ends
  answer-adds before now p q result config seen (past kept other d cached device ends) = past-adds before.pool now.pool kept p q result config seen other d
      (λ a. access-then p d.before.now (access.Past kept) (does-now m g valid ptr.key p q config seen (Past p.number ptr.key kept ∷ []) (own-single p.number (Past p.number ptr.key kept) refl refl) d a) (access-other ptr kept d.before.now other cached))
      ends
  answer-adds before now p q result config seen (no_memory is d same) = subst (AddsAnswer p q) (sym is) (does-moves m g valid ptr.key p q config seen [] (own-none p.number) d).seen

  -- ---- after a wait

  alone-after : (p r : Place (Known C)) → Moves g shard [] [] p r → HasAll p → HasAll r × (access_now g ptr r ≡ access_now g ptr p)
  alone-after p r w a = (
    w.all a,
    ap (λ (l : List Event). access_of (replay (opening_of g) l) ptr) ((w.alone a).here ∙ append-nil (seen_of g shard p)),
  )

  after-served : (from : Served) (p r q : Place (Known C)) → Moves g shard [] [] p r → AddsServed from r q → AddsServed from p q
  after-served from p r q w a = record {
    ms = a.ms;
    es = a.es;
    moves = moves-then g shard [] a.ms [] a.es p r q w a.moves;
    events = subst (λ (n : ℕ). IsServed n t ptr from [] (map (λ (x : Moment). x.event) a.ms)) w.own.number a.events;
    digests = a.digests;
    alone = λ alone.
        let then = alone-after p r w alone in
        let here = a.alone then.0 in
        (here.0 ∙ ap (λ (n : ℕ). events_of_answered n t ptr from (access_now g ptr r)) w.own.number ∙ ap (events_of_answered p.number t ptr from) then.1, subst (λ (a : Access). MayComeFrom a from) then.1 here.1);
  }

  after-failed : (p r q : Place (Known C)) → Moves g shard [] [] p r → AddsFailed r q → AddsFailed p q
  after-failed p r q w a = record {
    ms = a.ms;
    es = a.es;
    moves = moves-then g shard [] a.ms [] a.es p r q w a.moves;
    events = subst (λ (n : ℕ). AreEvents (Fails n t ptr) (map (λ (x : Moment). x.event) a.ms)) w.own.number a.events;
    digests = a.digests;
    alone = λ alone.
        let then = alone-after p r w alone in
        let here = a.alone then.0 in
        (here.0 ∙ ap (λ (n : ℕ). events_of_refused n t ptr (access_now g ptr r)) w.own.number ∙ ap (events_of_refused p.number t ptr) then.1, subst AsksPool then.1 here.1);
  }

  -- of a key that is refused the party is as it was
  abbrev pub AddsRead : Place (Known C) → Place (Known C) → Result Read ReadFault → Type 0
  AddsRead p q (Ok (gave.Held hold from)) = AddsServed from p q
  AddsRead p q (Ok (gave.Past block kept)) = AddsServed served.Past p q
  AddsRead p q (Err (fault.PoolFault)) = AddsFailed p q
  AddsRead p q (Err (fault.Mismatch found)) = AddsFailed p q
  AddsRead p q (Err (fault.Key why)) = q ≡ p
  AddsRead p q (Err (fault.NoMemory)) = HasSeenItsEvents g q

  after-wait : (p r q : Place (Known C)) (result : Result Read ReadFault) → Moves g shard [] [] p r → AddsAnswer r q result → AddsRead p q result
  after-wait p r q (Ok (gave.Held hold from)) w a = after-served from p r q w a
  after-wait p r q (Ok (gave.Past block kept)) w a = after-served served.Past p r q w a
  after-wait p r q (Err (fault.PoolFault)) w a = after-failed p r q w a
  after-wait p r q (Err (fault.Mismatch found)) w a = after-failed p r q w a
  after-wait p r q (Err (fault.Key why)) w a = absurd a
  after-wait p r q (Err (fault.NoMemory)) w a = a

  pub read-adds : (before now : Outside P D) (p q : Place (Known C)) (result : Result Read ReadFault) → p.own.about.config ≡ g → HasSeenItsEvents g p
      → AnswersRead m pools devices g ptr t before now p q result → AddsRead p q result
  read-adds before now p q result config seen (refused why is first same none) = subst (AddsRead p q) (sym is) same
  read-adds before now p q result config seen (answered ok times r waits answer) =
      let w = waits-move times p r config seen waits in
      after-wait p r q result w (answer-adds before now r q result w.config w.seen answer)

  -- a party has seen its own after a read
  pub read-seen : (p q : Place (Known C)) (result : Result Read ReadFault) → HasSeenItsEvents g p → AddsRead p q result → HasSeenItsEvents g q
  read-seen p q (Ok (gave.Held hold from)) seen a = a.moves.seen
  read-seen p q (Ok (gave.Past block kept)) seen a = a.moves.seen
  read-seen p q (Err (fault.PoolFault)) seen a = a.moves.seen
  read-seen p q (Err (fault.Mismatch found)) seen a = a.moves.seen
  read-seen p q (Err (fault.Key why)) seen a = subst (HasSeenItsEvents g) (sym a) seen
  read-seen p q (Err (fault.NoMemory)) seen a = a
