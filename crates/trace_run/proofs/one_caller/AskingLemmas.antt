-- What a read of a party that is alone asked the cache device for, by what it had seen of the key's shard.
use Rattle.std.proofs.Common.{◌≡◌, ℕ, ◌+◌, ◌≤◌, true, false, List, [], ◌∷◌, ◌++◌, length, drop, Option, Some, None, IfSome, IsTrue, Result, Ok, Err, inl, inr, refl, sym, ap, ◌∙◌, subst, arith, append-nil, length-drop, eq-eqb}
use Rattle.std.specs.Prelude.{nat_le, option_and_then}
use Rattle.std.specs.Option.{option_map, option_map_or}
use Rattle.std.proofs.lemmas.Bool.Decides.{nat_tests}
use Rattle.std.proofs.lemmas.List.{length-take-le}
use Rattle.arc_lists.proofs.Standing.{and_left}
use Rattle.arc_lists.proofs.Tables.{cases_true, some_is}
use Rattle.blk_ptr.specs.declared.digest.Digest.{Digest}
use Rattle.blk_ptr.specs.declared.ptr.Ptr.{Ptr}
use Rattle.blk_ptr.specs.Hash.{shard_of}
use Rattle.blk_ptr.specs.Order.{digest_eq}
use Rattle.blk_ptr.specs.Ptr.{IsOf, sha256_of}
use Rattle.vdev_io.specs.declared.device.CacheDev.{Ghosts as DeviceGhosts}
use Rattle.vdev_io.specs.declared.pool.Pool.{Ghosts as PoolGhosts}
use Rattle.vdev_io.specs.Calls.{Call, Failed, Gave, MakesDeviceCalls}
use Rattle.arc_core.specs.Config.{IsConfig}
use Rattle.arc_core.specs.declared.config.Config.{Config}
use Rattle.arc_core.specs.declared.entry.Entry.{Entry}
use Rattle.arc_core.specs.declared.event.Event.{Event}
use Rattle.arc_core.specs.declared.event.Event.TheVariants.{Hit, Miss, Past}
use Rattle.arc_core.specs.declared.served.ReadFault.{ReadFault}
use Rattle.arc_core.specs.declared.served.ReadFault.TheVariants as fault
use Rattle.arc_core.specs.declared.served.Served.{Served}
use Rattle.arc_core.specs.declared.served.Served.TheVariants as served
use Rattle.arc_core.specs.declared.shard.EntryView.{EntryView}
use Rattle.arc_core.specs.Operations.{goes_on, is_pass, number_of}
use Rattle.arc_core.specs.PlainShard.{PlainShard, entry_of, place_of}
use Rattle.arc_core.specs.Replay.{is_legal_history, replay}
use Rattle.arc_core.specs.Step.{after, entry_to_read, legal}
use Rattle.arc_core.specs.View.{view_of}
use Rattle.arc_core.proofs.Others.{own-entry}
use Rattle.arc_core.proofs.Stepping.{replay-append}
use Rattle.trace_text.specs.declared.reply.Refusal.{Refusal}
use Rattle.trace_text.specs.declared.reply.Reply.TheVariants.{Refused}
use Rattle.turn_table.specs.Places.{Place}
use Rattle.arc_table.specs.declared.read.Read.{Read}
use Rattle.arc_table.specs.declared.read.Read.TheVariants as gave
use Rattle.arc_table.specs.declared.view.Known.{Known}
use Rattle.arc_table.specs.Arriving.{FindsCleared}
use Rattle.arc_table.specs.scans.Ending.{DoesRoomy}
use Rattle.arc_table.specs.Fetching.{CameFromCache, IsAsked, IsNotToAsk, IsToAsk, Unserved, bytes_from, faulty, other_bytes, unasked}
use Rattle.arc_table.specs.Items.{Meanings}
use Rattle.arc_table.specs.Reading.{Answers, AnswersRead, EndsAtPool, EndsMiss, EndsPast, GoesToPool, KeepsDevice, Outside, answered, cleared, from_device, from_none, from_pool, hit, known_at, missed, no_memory, past, read, refused, unread, unserved}
use Rattle.arc_table.specs.Seen.{HasAll, seen_of}
use Rattle.trace_run.specs.Making.{HasSeenItsEvents}
use Rattle.arc_table.specs.Telling.{opening_of}
use Rattle.trace_run.proofs.MoveLemmas.{does-now, roomy-moves, roomy-now}
use Rattle.arc_table.proofs.reads.ReadMoments.{own-none, own-single}
use Rattle.arc_table.proofs.Reached.{sound_log}
use Rattle.arc_table.proofs.scans.ScanAlone.{scan-alone}
use Rattle.trace_run.specs.one_caller.Access as access
use Rattle.trace_run.specs.one_caller.Access.{Access, access_of}
use Rattle.trace_run.specs.one_caller.Asking.{Asks, AsksGot, CameFromDevice, NamesServed, place_asked, place_in, place_on, place_to_ask, read_on, serves, source_at, source_of}
use Rattle.trace_run.specs.Effects.{Answered, PoolRefused, NoEffect, effect_of}
use Rattle.trace_run.specs.Read.{IsFromPool}
use Rattle.trace_run.specs.Reads.{IsRefused, now_of}
use Rattle.trace_run.proofs.CacheLemmas.{digest_eq-is}
use Rattle.trace_run.proofs.ReadLemmas.{waits-move}
use Rattle.trace_run.proofs.one_caller.AccessLemmas.{access-cached, access-missed, access-other}
use Rattle.trace_run.proofs.one_caller.PlainLemmas.{of-test}
use Rattle.trace_run.proofs.one_caller.TellLemmas.{digest_eq-same}

-- ---- the place at which the device is to be asked

-- a digest that is known passes the test of a place
known-passes : (ptr : Ptr) (known : Option Digest) → ((d : Digest) → known ≡ Some d → d ≡ ptr.digest) → option_map_or (λ d. digest_eq d ptr.digest) known true ≡ true
known-passes ptr None same = refl
known-passes ptr (Some d) same = ap (λ (x : Digest). digest_eq x ptr.digest) (same d refl) ∙ digest_eq-same ptr.digest

inside-test : (m n : ℕ) → m ≤ n → nat_le m n ≡ true
inside-test m n le = grind (arith, nat_tests)

inside-is : (m n : ℕ) → nat_le m n ≡ true → m ≤ n
inside-is m n test = grind (arith, nat_tests, test)

asks-at : (size : ℕ) (ptr : Ptr) (s : PlainShard) (place : ℕ) → IsToAsk ptr (option_map view_of (entry_of ptr.key s)) size place → place_to_ask size ptr s ≡ Some place
asks-at size ptr s place a = of_entry (entry_of ptr.key s) a
  where
    of_place : (known : Option Digest) (o : Option ℕ) → o ≡ Some place → ((d : Digest) → known ≡ Some d → d ≡ ptr.digest) → place + ptr.key.size ≤ size → option_and_then (place_in size ptr known) o ≡ Some place
    of_place known o is same inside = rw (is, inside-test (place + ptr.key.size) size inside, known-passes ptr known same) refl

    of_entry : (o : Option Entry) → IsToAsk ptr (option_map view_of o) size place → option_and_then (λ e. option_and_then (place_in size ptr e.digest) e.place) o ≡ Some place
    of_entry None a = let never : None ≡ Some a.entry = a.known in cc
    of_entry (Some e) a =
        let is : view_of e ≡ a.entry = some_is a.known in
        of_place e.digest e.place (ap (λ (v : EntryView). v.place) is ∙ a.at) (λ d known. a.digest d (sym (ap (λ (v : EntryView). v.digest) is) ∙ known)) a.inside

none-at : (size : ℕ) (ptr : Ptr) (s : PlainShard) → IsNotToAsk ptr (option_map view_of (entry_of ptr.key s)) size → place_to_ask size ptr s ≡ None
none-at size ptr s none = of_entry (entry_of ptr.key s) none
  where
    same-digest : (known : Option Digest) → option_map_or (λ d. digest_eq d ptr.digest) known true ≡ true → (d : Digest) → known ≡ Some d → d ≡ ptr.digest
    same-digest None test d is = cc
    same-digest (Some x) test d is = sym (some_is is) ∙ digest_eq-is x ptr.digest test

    of_place : (e : Entry) (o : Option ℕ) → e.place ≡ o → IsNotToAsk ptr (Some (view_of e)) size → option_and_then (place_in size ptr e.digest) o ≡ None
    of_place e None is none = refl
    of_place e (Some place) is none = elim (cases_true (nat_le (place + ptr.key.size) size)) [
      | inl within ↦ elim (cases_true (option_map_or (λ d. digest_eq d ptr.digest) e.digest true)) [
        | inl same ↦ absurd (none place (record { entry = view_of e; known = refl; at = is; inside = inside-is (place + ptr.key.size) size within; digest = same-digest e.digest same }))
        | inr other ↦ rw (within, other) refl
      ]
      | inr beyond ↦ rw beyond refl
    ]

    of_entry : (o : Option Entry) → IsNotToAsk ptr (option_map view_of o) size → option_and_then (λ e. option_and_then (place_in size ptr e.digest) e.place) o ≡ None
    of_entry None none = refl
    of_entry (Some e) none = of_place e e.place refl none

-- where bytes are to be had from the device, the key has a place
place-there : (size : ℕ) (ptr : Ptr) (s : PlainShard) (place : ℕ) → IsToAsk ptr (option_map view_of (entry_of ptr.key s)) size place → place_of ptr.key s ≡ Some place
place-there size ptr s place a = go (entry_of ptr.key s) a
  where
    go : (o : Option Entry) → IsToAsk ptr (option_map view_of o) size place → option_and_then (λ e. e.place) o ≡ Some place
    go None a = let never : None ≡ Some a.entry = a.known in cc
    go (Some e) a = ap (λ (v : EntryView). v.place) (some_is a.known) ∙ a.at

-- ---- one read

-- what is so of any image that is told
all-told : (told : Option (List ℕ)) (F : List ℕ → Type 0) → ((image : List ℕ) → told ≡ Some image → F image) → IfSome told F
all-told None F each = tt
all-told (Some image) F each = each image refl

-- nothing was read
pub asks-nothing : {D : Type 0} (devices : DeviceGhosts D) (s : PlainShard) (ptr : Ptr) (old new : D) → new ≡ old → Asks devices s ptr NoEffect old new
asks-nothing devices s ptr old new is = ([], record { many = refl; made = is; gave = λ came. absurd came; served = all-told (devices.told old) (λ image. Unit {0}) (λ image told. tt) })

-- a device that was not touched
pub device-same : {D : Type 0} (devices : DeviceGhosts D) (x : D) → KeepsDevice devices x x
device-same devices x = record {
  size = refl;
  kind = refl;
  told = refl;
  crash = λ c. (λ left. left, λ left. left);
  time = record { later = omega arith; same = λ t c le. (λ left. left, λ left. left) };
  faults = omega arith;
  others = refl;
}

-- and one that was used twice
pub device-then : {D : Type 0} (devices : DeviceGhosts D) (x y z : D) → KeepsDevice devices x y → KeepsDevice devices y z → KeepsDevice devices x z
device-then devices x y z a b =
    let later = a.time.later in
    let second = b.time.later in
    let less = a.faults in
    let more = b.faults in
    record {
      size = b.size ∙ a.size;
      kind = b.kind ∙ a.kind;
      told = b.told ∙ a.told;
      crash = λ c. (λ left. (b.crash c).0 ((a.crash c).0 left), λ left. (a.crash c).1 ((b.crash c).1 left));
      time = record {
        later = omega arith;
        same = λ t c le.
            (λ left. (b.time.same t c (omega arith)).0 ((a.time.same t c le).0 left), λ left. (a.time.same t c le).1 ((b.time.same t c (omega arith)).1 left));
      };
      faults = omega arith;
      others = b.others ∙ a.others;
    }

-- what was asked for a read that was refused
pub asks-refused : {D : Type 0} (devices : DeviceGhosts D) (s : PlainShard) (ptr : Ptr) (old new : D) (why : ReadFault) (refusal : Refusal) → IsRefused why refusal → AsksGot devices s ptr (Err why) old new
    → Asks devices s ptr (effect_of (Refused refusal)) old new
asks-refused devices s ptr old new (fault.PoolFault) refusal is asks = subst (λ (r : Refusal). Asks devices s ptr (effect_of (Refused r)) old new) (sym is) asks
asks-refused devices s ptr old new (fault.Mismatch found) refusal is asks = subst (λ (r : Refusal). Asks devices s ptr (effect_of (Refused r)) old new) (sym is) asks
asks-refused devices s ptr old new (fault.Key why) refusal is asks = subst (λ (r : Refusal). Asks devices s ptr (effect_of (Refused r)) old new) (sym is) asks
asks-refused devices s ptr old new (fault.NoMemory) refusal is asks = absurd is

-- ---- what was known of the key

module _ {D : Type 0} (devices : DeviceGhosts D) (law : (dev : D) (image : List ℕ) → devices.told dev ≡ Some image → length image ≡ devices.size dev) (s : PlainShard) (ptr : Ptr) (old new : D) where
  abbrev size : ℕ
  size = devices.size old

  -- where the bytes come from, by how the block was found and where the device was asked
  source-is : (image : List ℕ) (a : Access) (o : Option ℕ) (call : Call) → access_of s ptr ≡ a → place_on size ptr s a ≡ o → source_at size image s ptr call ≡ source_of a (serves image ptr o call)
  source-is image a o call is at = (λ i. source_of (is i) (serves image ptr (place_on size ptr s (is i)) call)) ∙ ap (λ (p : Option ℕ). source_of a (serves image ptr p call)) at

  asked-is : (a : Access) (o : Option ℕ) → access_of s ptr ≡ a → place_on size ptr s a ≡ o → place_asked size ptr s ≡ o
  asked-is a o is at = ap (place_on size ptr s) is ∙ at

  -- the device was not asked, and the bytes came from here
  left-served : (from : Served) (a : Access) → access_of s ptr ≡ a → place_on size ptr s a ≡ None → new ≡ old → from ≡ source_of a false → (CameFromDevice (Answered from) → ⊥) → Asks devices s ptr (Answered from) old new
  left-served from a is at same named not_device =
      let none : place_asked size ptr s ≡ None = asked-is a None is at in (
        [],
        record {
          many = sym (ap (λ (o : Option ℕ). length (read_on ptr.key o)) none);
          made = same;
          gave = λ came. absurd (not_device came);
          served = all-told (devices.told old) (λ image. NamesServed (source_at size image s ptr Gave) (Answered from)) (λ image told. named ∙ sym (source-is image a None Gave is at));
        },
      )

  left-refused : (c : Call) (a : Access) → access_of s ptr ≡ a → place_on size ptr s a ≡ None → new ≡ old → IsFromPool (source_of a false) → Asks devices s ptr (PoolRefused c) old new
  left-refused c a is at same asks =
      let none : place_asked size ptr s ≡ None = asked-is a None is at in (
        [],
        record {
          many = sym (ap (λ (o : Option ℕ). length (read_on ptr.key o)) none);
          made = same;
          gave = λ came. absurd came;
          served = all-told (devices.told old) (λ image. NamesServed (source_at size image s ptr Gave) (PoolRefused c)) (λ image told. subst IsFromPool (sym (source-is image a None Gave is at)) asks);
        },
      )

  -- it was asked once, after a miss
  module _ (missed : access_of s ptr ≡ access.Miss) (place : ℕ) (call : Call) (asked : IsAsked devices ptr (option_map view_of (entry_of ptr.key s)) place call old new) where
    at-place : place_on size ptr s access.Miss ≡ Some place
    at-place = asks-at size ptr s place asked.due

    its-read : place_asked size ptr s ≡ Some place
    its-read = asked-is access.Miss (Some place) missed at-place

    once-served : (from : Served) → (CameFromDevice (Answered from) → call ≡ Gave) → ((image : List ℕ) → devices.told old ≡ Some image → from ≡ source_of access.Miss (serves image ptr (Some place) call)) → Asks devices s ptr (Answered from) old new
    once-served from came named = (
      call ∷ [],
      record {
        many = sym (ap (λ (o : Option ℕ). length (read_on ptr.key o)) its-read);
        made = subst (λ (o : Option ℕ). MakesDeviceCalls devices (Rattle.trace_run.specs.one_caller.Asking.answered_all (call ∷ []) (read_on ptr.key o)) old new) (sym its-read) asked.calls;
        gave = λ from_it. ap (λ (c : Call). c ∷ []) (came from_it);
        served = all-told (devices.told old) (λ image. NamesServed (source_at size image s ptr call) (Answered from)) (λ image told. named image told ∙ sym (source-is image access.Miss (Some place) call missed at-place));
      },
    )

    once-refused : (c : Call) → ((image : List ℕ) → devices.told old ≡ Some image → served.Pool ≡ source_of access.Miss (serves image ptr (Some place) call)) → Asks devices s ptr (PoolRefused c) old new
    once-refused c named = (
      call ∷ [],
      record {
        many = sym (ap (λ (o : Option ℕ). length (read_on ptr.key o)) its-read);
        made = subst (λ (o : Option ℕ). MakesDeviceCalls devices (Rattle.trace_run.specs.one_caller.Asking.answered_all (call ∷ []) (read_on ptr.key o)) old new) (sym its-read) asked.calls;
        gave = λ from_it. absurd from_it;
        served = all-told (devices.told old) (λ image. NamesServed (source_at size image s ptr call) (PoolRefused c)) (λ image told. subst IsFromPool (named image told ∙ sym (source-is image access.Miss (Some place) call missed at-place)) tt);
      },
    )

  -- the device served
  device-served : access_of s ptr ≡ access.Miss → (bytes : List ℕ) → CameFromCache devices ptr (option_map view_of (entry_of ptr.key s)) bytes old new → Asks devices s ptr (Answered served.L2) old new
  device-served is_miss bytes came = once-served is_miss came.place Gave came.asked served.L2 (λ from_it. refl) (λ image told.
      let stand : IfSome (Some image) (λ l. bytes ≡ bytes_from l came.place ptr.key) = subst (λ (o : Option (List ℕ)). IfSome o (λ l. bytes ≡ bytes_from l came.place ptr.key)) told came.stand in
      ap (source_of access.Miss) (sym (of-test (bytes_from image came.place ptr.key) ptr (subst (λ (l : List ℕ). IsOf l ptr) stand came.of))))

  -- it did not, and the pool was read: as it is answered, or refused
  module _ (missed : access_of s ptr ≡ access.Miss) where
    not-served : (place : ℕ) → IsAsked devices ptr (option_map view_of (entry_of ptr.key s)) place Gave old new → IfSome (devices.told old) (λ image. ¬ IsOf (bytes_from image place ptr.key) ptr)
        → (image : List ℕ) → devices.told old ≡ Some image → served.Pool ≡ source_of access.Miss (serves image ptr (Some place) Gave)
    not-served place asked others image told = elim (cases_true (digest_eq (sha256_of (bytes_from image place ptr.key)) ptr.digest)) [
      | inl same ↦
          let never : ¬ IsOf (bytes_from image place ptr.key) ptr = subst (λ (o : Option (List ℕ)). IfSome o (λ l. ¬ IsOf (bytes_from l place ptr.key) ptr)) told others in
          let rest = length-drop place image in
          let long : length image ≡ devices.size old = law old image told in
          let inside = asked.due.inside in
          absurd (never (record { size = length-take-le ptr.key.size (drop place image) (omega arith); digest = digest_eq-is (sha256_of (bytes_from image place ptr.key)) ptr.digest same }))
      | inr other ↦ ap (source_of access.Miss) (sym other)
    ]

    pool-served : Unserved devices ptr (option_map view_of (entry_of ptr.key s)) old new → Asks devices s ptr (Answered served.Pool) old new
    pool-served (unasked none same) = left-served served.Pool access.Miss missed (none-at size ptr s none) same refl (λ came. came)
    pool-served (faulty place asked) = once-served missed place Failed asked served.Pool (λ came. absurd came) (λ image told. refl)
    pool-served (other_bytes place asked others) = once-served missed place Gave asked served.Pool (λ came. absurd came) (not-served place asked others)

    pool-refused : (c : Call) → Unserved devices ptr (option_map view_of (entry_of ptr.key s)) old new → Asks devices s ptr (PoolRefused c) old new
    pool-refused c (unasked none same) = left-refused c access.Miss missed (none-at size ptr s none) same tt
    pool-refused c (faulty place asked) = once-refused missed place Failed asked c (λ image told. refl)
    pool-refused c (other_bytes place asked others) = once-refused missed place Gave asked c (not-served place asked others)

-- ---- the call

module _ {C P D : Type 0} (m : Meanings C) (g : Config) (valid : IsConfig g) (pools : PoolGhosts P) (devices : DeviceGhosts D) (law : (dev : D) (image : List ℕ) → devices.told dev ≡ Some image → length image ≡ devices.size dev)
    (ptr : Ptr) (t : ℕ) where
  abbrev shard : ℕ
  shard = shard_of g.shards ptr.key

  -- what a read asked for, by what it came to
  abbrev pub AsksFor : PlainShard → Result Read ReadFault → (old new : D) → Type 0
  AsksFor s (Ok (gave.Held hold from)) old new = Asks devices s ptr (Answered from) old new
  AsksFor s (Ok (gave.Past block kept)) old new = Asks devices s ptr (Answered served.Past) old new
  AsksFor s (Err (fault.PoolFault)) old new = Asks devices s ptr (PoolRefused Failed) old new
  AsksFor s (Err (fault.Mismatch found)) old new = Asks devices s ptr (PoolRefused Gave) old new
  AsksFor s (Err (fault.Key why)) old new = Asks devices s ptr NoEffect old new
  AsksFor s (Err (fault.NoMemory)) old new = Unit {0}

  -- a party that is alone finds the place still that it found before its miss
  place-still : (p r q : Place (Known C)) → p.own.about.config ≡ g → HasSeenItsEvents g p → HasAll p → (d : DoesRoomy m g ptr.key (Miss p.number ptr.key t) p r) → FindsCleared m g ptr.key r q
      → place_of ptr.key d.before.now ≡ None
  place-still p r q config seen all d f =
      let e : Event = Miss p.number ptr.key t in
      let fits : (number_of e ≡ p.number) × (is_pass e ≡ false) × IsTrue (goes_on p.number e) = (refl, refl, eq-eqb p.number p.number refl) in
      let moves = roomy-moves m g valid ptr.key p r config seen e fits d in
      let none : d.makes.passes ≡ [] = scan-alone m g ptr.key e p r all d in
      let s : PlainShard = d.before.now in
      let now : s ≡ replay (opening_of g) (seen_of g shard p) = roomy-now m g valid ptr.key p r config seen e fits d all in
      let behind : replay (opening_of g) (seen_of g shard r) ≡ after s e =
      ap (replay (opening_of g)) ((moves.alone all).here ∙ ap (λ (ps : List Event). seen_of g shard p ++ (ps ++ e ∷ [])) none)
      ∙ (replay-append (opening_of g) (seen_of g shard p) (e ∷ []) ∙ ap (λ (x : PlainShard). after x e) (sym now)) in
      let found : f.does.before.now ≡ after s e = does-now m g valid ptr.key r q moves.config moves.seen [] (own-none r.number) f.does (moves.all all) ∙ behind in
      let sound = (sound_log m g ptr.key d.chain d.before p d.reached d.takes config valid).replayed.sound in
      let ok : IsTrue (legal s e) = and_left (legal s e) true (subst (λ (ps : List Event). IsTrue (is_legal_history s (ps ++ e ∷ []))) none d.makes.legal) in
      let entry : entry_of ptr.key (after s e) ≡ Some (entry_to_read p.number ptr.key t (entry_of ptr.key s)) = own-entry s e ptr.key sound ok refl in
      sym (ap (option_and_then (λ (x : Entry). x.place)) entry) ∙ (sym (ap (place_of ptr.key) found) ∙ f.cleared)

  module _ (s : PlainShard) (missed : access_of s ptr ≡ access.Miss) (old new : D) (served_not : Unserved devices ptr (option_map view_of (entry_of ptr.key s)) old new) where
    at-pool : (a b : P) (p q : Place (Known C)) (result : Result Read ReadFault) → EndsAtPool m pools g ptr a b p q result → AsksFor s result old new
    at-pool a b p q (Ok (gave.Held hold served.Pool)) h = pool-served devices law s ptr old new missed served_not
    at-pool a b p q (Ok (gave.Held hold served.Hit)) h = absurd h
    at-pool a b p q (Ok (gave.Held hold served.L2)) h = absurd h
    at-pool a b p q (Ok (gave.Held hold served.Past)) h = absurd h
    at-pool a b p q (Ok (gave.Past block kept)) h = absurd h
    at-pool a b p q (Err (fault.PoolFault)) h = pool-refused devices law s ptr old new missed Failed served_not
    at-pool a b p q (Err (fault.Mismatch found)) h = pool-refused devices law s ptr old new missed Gave served_not
    at-pool a b p q (Err (fault.Key why)) h = absurd h
    at-pool a b p q (Err (fault.NoMemory)) h = tt

    goes-asks : (a b : P) (p q : Place (Known C)) (result : Result Read ReadFault) → GoesToPool m pools g ptr a b p q result → AsksFor s result old new
    goes-asks a b p q result (read ends) = at-pool a b p q result ends
    goes-asks a b p q result (unread f) = subst (λ (r : Result Read ReadFault). AsksFor s r old new) (sym f.answer) tt

  past-asks : (s : PlainShard) (kept : Digest) (a b : P) (old new : D) (result : Result Read ReadFault) → access_of s ptr ≡ access.Past kept → new ≡ old → EndsPast pools ptr kept a b result → AsksFor s result old new
  past-asks s kept a b old new (Ok (gave.Past block digest)) is same h = left-served devices law s ptr old new served.Past (access.Past kept) is refl same refl (λ came. came)
  past-asks s kept a b old new (Ok (gave.Held hold from)) is same h = absurd h
  past-asks s kept a b old new (Err (fault.PoolFault)) is same h = left-refused devices law s ptr old new Failed (access.Past kept) is refl same tt
  past-asks s kept a b old new (Err (fault.Mismatch found)) is same h = left-refused devices law s ptr old new Gave (access.Past kept) is refl same tt
  past-asks s kept a b old new (Err (fault.Key why)) is same h = absurd h
  past-asks s kept a b old new (Err (fault.NoMemory)) is same h = tt

  miss-asks : (before now : Outside P D) (p r q : Place (Known C)) (result : Result Read ReadFault) → p.own.about.config ≡ g → HasSeenItsEvents g p → HasAll p → (d : DoesRoomy m g ptr.key (Miss p.number ptr.key t) p r)
      → access_of d.before.now ptr ≡ access.Miss → EndsMiss m pools devices g ptr (known_at ptr.key d.before) before now r q result → AsksFor d.before.now result before.device now.device
  miss-asks before now p r q result config seen all d is_miss (from_device hold is a) =
      subst (λ (x : Result Read ReadFault). AsksFor d.before.now x before.device now.device) (sym is) (device-served devices law d.before.now ptr before.device now.device is_miss hold.block.value a.bytes)
  miss-asks before now p r q result config seen all d is_miss (from_pool back (unserved why is) goes) = goes-asks d.before.now is_miss before.device now.device why before.pool now.pool back q result goes
  miss-asks before now p r q result config seen all d is_miss (from_pool back (cleared bytes came f) goes) =
      let there = place-there (devices.size before.device) ptr d.before.now came.place came.asked.due in
      let gone = place-still p r back config seen all d f in
      let never : None ≡ Some came.place = sym gone ∙ there in cc
  miss-asks before now p r q result config seen all d is_miss (from_none asked f) = subst (λ (x : Result Read ReadFault). AsksFor d.before.now x before.device now.device) (sym f.answer) tt

  answer-asks : (before now : Outside P D) (p q : Place (Known C)) (result : Result Read ReadFault) → p.own.about.config ≡ g → HasSeenItsEvents g p → HasAll p → Answers m pools devices g ptr t before now p q result
      → AsksFor (now_of g shard p) result before.device now.device
  answer-asks before now p q result config seen all (hit hold is d cached held same) =
      let here : d.before.now ≡ now_of g shard p = does-now m g valid ptr.key p q config seen (Hit p.number ptr.key t ∷ []) (own-single p.number (Hit p.number ptr.key t) refl refl) d all in
      let found : access_of (now_of g shard p) ptr ≡ access.Hit = subst (λ (x : PlainShard). access_of x ptr ≡ access.Hit) here (access-cached ptr d.before.now cached) in
      subst (λ (x : Result Read ReadFault). AsksFor (now_of g shard p) x before.device now.device) (sym is)
      (left-served devices law (now_of g shard p) ptr before.device now.device served.Hit access.Hit found refl (ap (λ (o : Outside P D). o.device) same) refl (λ came. came))
  answer-asks before now p q result config seen all (missed r d missing ends) =
      let e : Event = Miss p.number ptr.key t in
      let fits : (number_of e ≡ p.number) × (is_pass e ≡ false) × IsTrue (goes_on p.number e) = (refl, refl, eq-eqb p.number p.number refl) in
      subst (λ (x : PlainShard). AsksFor x result before.device now.device) (roomy-now m g valid ptr.key p r config seen e fits d all)
      (miss-asks before now p r q result config seen all d (access-missed ptr d.before.now missing) ends)
  answer-asks before now p q result config seen all (past kept other d cached device ends) =
      let here : d.before.now ≡ now_of g shard p = does-now m g valid ptr.key p q config seen (Past p.number ptr.key kept ∷ []) (own-single p.number (Past p.number ptr.key kept) refl refl) d all in
      past-asks (now_of g shard p) kept before.pool now.pool before.device now.device result (subst (λ (x : PlainShard). access_of x ptr ≡ access.Past kept) here (access-other ptr kept d.before.now other cached)) device ends
  answer-asks before now p q result config seen all (no_memory is d same) = subst (λ (x : Result Read ReadFault). AsksFor (now_of g shard p) x before.device now.device) (sym is) tt

  pub read-asks : (before now : Outside P D) (p q : Place (Known C)) (result : Result Read ReadFault) → p.own.about.config ≡ g → HasSeenItsEvents g p → HasAll p → AnswersRead m pools devices g ptr t before now p q result
      → AsksFor (now_of g shard p) result before.device now.device
  read-asks before now p q result config seen all (refused why is first same none) =
      subst (λ (x : Result Read ReadFault). AsksFor (now_of g shard p) x before.device now.device) (sym is)
      (asks-nothing devices (now_of g shard p) ptr before.device now.device (ap (λ (o : Outside P D). o.device) none))
  read-asks before now p q result config seen all (answered ok times r waits answer) =
      let w = waits-move m g valid pools devices ptr t times p r config seen waits in
      let same : now_of g shard r ≡ now_of g shard p = ap (replay (opening_of g)) ((w.alone all).here ∙ append-nil (seen_of g shard p)) in
      subst (λ (x : PlainShard). AsksFor x result before.device now.device) same (answer-asks before now r q result w.config w.seen (w.all all) answer)
