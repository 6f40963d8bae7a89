-- The first key that isn't marked, of those that are evicted and those that are dropped.
use Rattle.std.proofs.Common.{◌≡◌, ℕ, zero, suc, ◌+◌, ◌^◌, ◌≤◌, ◌<◌, length, arith, Bool, true, false, not, ◌||◌, IsTrue, IfSome, IfNone, List, [], ◌∷◌, Option, Some, None, is_some, inl, inr, refl, sym, ap, subst, ◌∙◌}
use Rattle.std.specs.List.{find}
use Rattle.std.specs.Option.{option_map_or}
use Rattle.blk_ptr.specs.declared.key.Key.{Key}
use Rattle.blk_ptr.specs.declared.state.State.{State}
use Rattle.blk_ptr.specs.declared.state.State.TheVariants.{Anon, Mru, MruGhost, Mfu, MfuGhost, L2Only}
use Rattle.blk_ptr.specs.Order.{key_eq}
use Rattle.blk_ptr.proofs.Keys.{key_eq-same}
use Rattle.arc_lists.specs.Sequences.{stands, stands_on}
use Rattle.arc_lists.proofs.Standing.{and_left, and_right, not_true, not_true_is}
use Rattle.arc_lists.proofs.Tables.{cases_true, length-without, some_is, without-absent}
use Rattle.arc_core.specs.declared.entry.Entry.{Entry}
use Rattle.arc_core.specs.declared.event.Event.{Event}
use Rattle.arc_core.specs.declared.table.scan.Scan.{Scan}
use Rattle.arc_core.specs.Changes.{come, gone}
use Rattle.arc_core.specs.Cursor.{IsScanOf, size_by, with_size}
use Rattle.arc_core.specs.declared.table.search.Search.{Search}
use Rattle.arc_core.specs.Edits.{is_evictable, is_off}
use Rattle.arc_core.specs.Halts.{IsSoughtFor}
use Rattle.arc_core.specs.Search.{AtRoom, AtTrim, Covers, Stands, StandsBy}
use Rattle.arc_core.specs.PlainShard.{PlainShard, entry_key, entry_of, is_passed}
use Rattle.arc_core.specs.Rules.{evicted, evicting, next_evicted, with_room}
use Rattle.arc_core.specs.ShardLog.{AreAllNamed, IsUnnamed, ShardLog}
use Rattle.arc_core.specs.Sound.{IsSound, IsSoundEntry, IsTidy}
use Rattle.arc_core.specs.Sparing.{fitting_victims, next_victim, victims, victims_of_entry}
use Rattle.arc_core.specs.Step.{legal}
use Rattle.arc_core.proofs.CursorStart.{scan-come}
use Rattle.arc_core.proofs.Ending.{count-le}
use Rattle.arc_core.proofs.CursorSteps.{length-evicted, size-small}
use Rattle.arc_core.proofs.Evictions.{entry_of-is}
use Rattle.arc_core.proofs.Others.{sparing-unmarked, standing-victim}
use Rattle.arc_core.proofs.Sparing.{tidy-entered}
use Rattle.arc_core.proofs.Tables.{IsTidy-same}
use Rattle.arc_core.proofs.Victims.{find-holds, standing, stands-is}

pub length-evicting : (n z : ℕ) (t : PlainShard) → length (evicting n z t).entries ≡ length t.entries
length-evicting zero z t = refl
length-evicting (suc n) z t = go (next_evicted z t) (λ k. length-evicting n z (evicted k t) ∙ length-evicted k t)
  where
    go : (o : Option Key) → ((k : Key) → length (evicting n z (evicted k t)).entries ≡ length t.entries) → length (option_map_or (λ k. evicting n z (evicted k t)) o t).entries ≡ length t.entries
    go None rest = refl
    go (Some k) rest = rest k

pub length-gone : (k : Key) (s : PlainShard) → length (gone k s).entries ≤ length s.entries
length-gone k s = go (entry_of k s) refl
  where
    go : (o : Option Entry) → entry_of k s ≡ o → length (gone k s).entries ≤ length s.entries
    go None none = omega (arith, ap length (without-absent entry_key k s.entries (ap is_some none)))
    go (Some e) item = omega (arith, length-without entry_key k s.entries e item)

-- a size that a scan has leaves room for a block
pub size_by-small : (about : Option Key) (s : PlainShard) (x : Scan) (t : PlainShard) (u : State) → IsScanOf about s x t → size_by u x < 2 ^ 90
size_by-small about s x t u at = go u
  where
    go : (u : State) → size_by u x < 2 ^ 90
    go Anon = omega (arith, at.anon, size-small Anon t at.tidy at.few)
    go Mru = omega (arith, at.mru.size, size-small Mru t at.tidy at.few)
    go MruGhost = omega (arith, at.mru.ghost_size, size-small MruGhost t at.tidy at.few)
    go Mfu = omega (arith, at.mfu.size, size-small Mfu t at.tidy at.few)
    go MfuGhost = omega (arith, at.mfu.ghost_size, size-small MfuGhost t at.tidy at.few)
    go L2Only = omega arith

-- ---- an entry that comes in

-- the shard without the entry's key, and the one in which the entry has come
abbrev pub out : PlainShard → (p : ℕ) → Entry → PlainShard
out s p e = record (gone e.key s) { p = p }

abbrev pub into : PlainShard → (p : ℕ) → Entry → PlainShard
into s p e = come e (with_room e.key.size (out s p e))

tidy-into : (s : PlainShard) (p : ℕ) (e : Entry) → IsTidy s → IsTrue (is_off e) → IsSoundEntry e → IsTidy (into s p e)
tidy-into s p e tidy off sound = tidy-entered e (record s { p = p }) (IsTidy-same s (record s { p = p }) refl refl tidy) off sound

-- the scan goes on as the entry comes in
pub scan-into : (s : PlainShard) (p : ℕ) (e : Entry) → IsTidy s → IsTrue (is_off e) → IsSoundEntry e → length s.entries < 2 ^ 64 → (x : Scan) → IsScanOf (Some e.key) s x (with_room e.key.size (out s p e))
    → IsScanOf (Some e.key) s (with_size e.state (size_by e.state x + e.key.size) x) (into s p e)
scan-into s p e tidy off sound few x at =
    let o = out s p e in
    scan-come (Some e.key) s (with_room e.key.size o) x e at (tidy-into s p e tidy off sound) (omega (arith, few, length-evicting (length o.entries) e.key.size o, length-gone e.key s))

-- ---- a search at its start

pub at-entry : (s : PlainShard) (p : ℕ) (e : Entry) (marked : List Key) → IsTidy s → IsTrue (is_off e) → IsSoundEntry e → length s.entries < 2 ^ 64 → (x : Scan) → IsScanOf (Some e.key) s x (out s p e)
    → AtRoom (Some e.key) s marked e.key.size e.state (victims_of_entry e (record s { p = p })) x
at-entry s p e marked tidy off sound few x at = record {
  at = out s p e;
  turns = length (out s p e).entries;
  behind = into s p e;
  scan = at;
  enough = omega (arith, count-le is_evictable (out s p e).entries);
  left = λ more covers. refl;
  enters = λ y made. scan-into s p e tidy off sound few y made;
}

pub at-capacity : (s r : PlainShard) (marked : List Key) (x : Scan) → IsScanOf None s x r → AtRoom None s marked 0 L2Only (fitting_victims r) x
at-capacity s r marked x at = record {
  at = r;
  turns = length r.entries;
  behind = with_room 0 r;
  scan = at;
  enough = omega (arith, count-le is_evictable r.entries);
  left = λ more covers. refl;
  enters = λ y made. made;
}

-- ---- where a search stands

pub at-room : (s : PlainShard) (marked vs : List Key) (x : Search) → x.trims ≡ false → Stands s marked vs x → AtRoom x.about s marked x.z x.comes vs x.scan
at-room s marked vs x room stands = subst (λ b. StandsBy b s marked vs x) room stands

pub at-trim : (s : PlainShard) (marked vs : List Key) (x : Search) → x.trims ≡ true → Stands s marked vs x → AtTrim x.about s marked vs x.scan
at-trim s marked vs x trim stands = subst (λ b. StandsBy b s marked vs x) trim stands

-- ---- a search where more is marked

pub stands-more : (s : PlainShard) (marked more vs : List Key) (x : Search) → Covers marked more → Stands s marked vs x → Stands s more vs x
stands-more s marked more vs x covers = go x.trims
  where
    go : (b : Bool) → StandsBy b s marked vs x → StandsBy b s more vs x
    go true on = record { at = on.at; turns = on.turns; scan = on.scan; enough = on.enough; left = λ most into. on.left most (λ k there. into k (covers k there)) }
    go false on = record { at = on.at; turns = on.turns; behind = on.behind; scan = on.scan; enough = on.enough; left = λ most into. on.left most (λ k there. into k (covers k there)); enters = on.enters }

pub sought-more : (s : PlainShard) (marked more : List Key) (o : Option Event) (x : Search) → Covers marked more → IsSoughtFor s marked o x → IsSoughtFor s more o x
sought-more s marked more None x covers sought = tt
sought-more s marked more (Some e) x covers sought = stands-more s marked more (victims s e) x covers sought

pub or_there : (a b : Bool) → b ≡ true → (a || b) ≡ true
or_there true b is = refl
or_there false b is = is

-- ---- what the owner of the shard learns

found-stands : (p : Key → Bool) (xs : List Key) (k : Key) → find p xs ≡ Some k → stands_on k xs ≡ true
found-stands p [] k found = cc
found-stands p (x ∷ xs) k found = elim (cases_true (p x)) [
  | inl passes ↦ subst (λ h. stands_on h (x ∷ xs) ≡ true) (some_is (rw passes at found)) (rw key_eq-same refl)
  | inr fails ↦ elim (cases_true (key_eq x k)) [
    | inl same ↦ rw same refl
    | inr differs ↦ rw differs (found-stands p xs k (rw fails at found))
  ]
]

pub if-unnamed : (log : ShardLog) (e : Event) (o : Option Key) → IsSound log.now → IsTrue (legal log.now e) → o ≡ next_victim log.now log.marked e → IfSome o (λ k. IsUnnamed k e log)
if-unnamed log e None sound ok is = tt
if-unnamed log e (Some k) sound ok is =
    let test : Key → Bool = λ h. not (stands_on h log.marked) in
    let said = standing-victim log.now e k sound ok (found-stands test (victims log.now e) k (sym is)) in
    let rest = and_right (stands k log.now.sequences) _ said in
    let stood = and_left _ _ said in
    let entry = entry_of-is standing k log.now (sym (stands-is k log.now sound.tidy) ∙ stood) in
    record {
      there = rw entry.1 refl;
      stands = stood;
      unpassed = not_true_is _ (and_left _ _ rest);
      unmarked = not_true_is _ (find-holds test (victims log.now e) k (sym is));
      other = and_right (not (is_passed log.now k)) _ rest;
    }

pub if-all-named : (log : ShardLog) (e : Event) (o : Option Key) → IsSound log.now → IsTrue (legal log.now e) → o ≡ next_victim log.now log.marked e → IfNone o (AreAllNamed e log)
if-all-named log e (Some k) sound ok is = tt
if-all-named log e None sound ok is = all
  where
    all : AreAllNamed e log
    all j apart unmarked = sparing-unmarked log.now log.marked e j sound ok apart (sym is) (not_true _ unmarked)
