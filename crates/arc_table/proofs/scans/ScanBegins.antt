-- A scan begins.
use Rattle.std.proofs.Common.{◌≡◌, ◌==◌, if◌then◌else◌, ℕ, ◌≤◌, List, [], ◌∷◌, length, Bool, true, false, Some, None, refl, sym, ap, ◌∙◌, subst, arith, append-nil}
use Rattle.std.specs.Prelude.{IsTrue, IsSome, vec_len, vec_capacity}
use Rattle.arc_lists.specs.Sequences.{stands_on}
use Rattle.arc_core.specs.declared.config.Config.{Config}
use Rattle.arc_core.specs.declared.event.Event.{Event}
use Rattle.arc_core.specs.declared.event.Event.TheVariants.{Insert, Miss, Resize}
use Rattle.arc_core.specs.Owed.{room_for}
use Rattle.arc_core.specs.PlainShard.{PlainShard, entry_of}
use Rattle.arc_core.specs.ShardLog.{ShardLog}
use Rattle.hash_chain.specs.Chain.{Chain, header_at}
use Rattle.hash_chain.specs.declared.header.Header.{Header}
use Rattle.turn_table.specs.Places.{Place}
use Rattle.arc_table.specs.declared.both.Both.{Both}
use Rattle.arc_table.specs.declared.scan.Scan.{Scan}
use Rattle.arc_table.specs.declared.view.Known.{Known}
use Rattle.arc_table.specs.declared.view.Note.{Note}
use Rattle.arc_table.specs.scans.Evicting.{HasBothRoom, HasScanRoom, IsScan, KeepsBoth, MayBegin, first_of, left_of}
use Rattle.arc_table.specs.pact.Headed.{IsHead}
use Rattle.arc_table.specs.Items.{Meanings}
use Rattle.arc_table.specs.scans.Scanning.{takes_room, IsBucketOf, MayScan, Scans, pairs_of}
use Rattle.arc_table.proofs.scans.Scans.{replayed_same}
use Rattle.arc_table.proofs.scans.ScanRoom.{open_at_most}

-- a bucket with the same headers serves as well
same_bucket : (g : Config) (i : ℕ) (s : PlainShard) (j : ℕ) (b c : Chain) → c.headers ≡ b.headers → IsBucketOf g i s j b → IsBucketOf g i s j c
same_bucket g i s j b c e h = record {
  range = h.range;
  shard = h.shard;
  heads = λ k is. subst (λ (hs : List Header). IsHead (entry_of k s) (header_at k hs)) (sym e) (h.heads k is);
  own = λ k x there. h.own k x (ap (header_at k) (sym e) ∙ there);
}

may_rechain : {C : Type 0} (g : Config) (i j : ℕ) (b c : Chain) (before : ShardLog) (p : Place (Known C)) → c.headers ≡ b.headers → MayScan g i ((j, b) ∷ []) before p → MayScan g i ((j, c) ∷ []) before p
may_rechain g i j b c before p e may = record {
  config = may.config;
  number = may.number;
  range = may.range;
  among = may.among;
  recorded = may.recorded;
  listed = may.listed;
  under = may.under;
  sound = may.sound;
  entries = may.entries;
  others = λ x held bucket. same_there (x == j) (may.others x held bucket);
  held = (may.held.0, tt);
  first_known = (may.first_known.0, tt);
  buckets = (same_bucket g i before.now j b c e may.buckets.0, tt);
  fresh = may.fresh;
}
  where
    same_there : (t : Bool) → IsSome (if t then Some b else None) → IsSome (if t then Some c else None)
    same_there true h = refl
    same_there false h = h

pub may_keeps : {C : Type 0} (g : Config) (b b' : Both) (p : Place (Known C)) → KeepsBoth b b' → MayBegin g b p → MayBegin g b' p
may_keeps g b b' p k may = subst (λ (x : ℕ × ℕ × ShardLog). MayScan g x.0 ((x.1, b'.hand.own.bucket) ∷ []) x.2 p) (λ z. (sym k.turn z, sym k.own z, (sym k.before z).value))
    (may_rechain g b.turn b.hand.own.turn b.hand.own.bucket b'.hand.own.bucket b.hand.before.value p k.headers may)

-- nothing is named yet
pub scan_begins : {C : Type 0} (m : Meanings C) (g : Config) (b b' : Both) (p : Place (Known C)) (s : Scan) → KeepsBoth b b' → MayBegin g b p → b.hand.before.value ≡ b.shard → b.hand.victims.items ≡ []
    → s.both ≡ record b' { shard = record b'.shard { marked = [] } } → IsScan m g p p s []
scan_begins {C} m g b b' p s k may new alone is =
    let i : ℕ = b'.turn in
    let first : List (ℕ × Chain) = first_of b' in
    let before : ShardLog = b'.hand.before.value in
    let may' : MayBegin g b' p = may_keeps g b b' p k may in
    let same : before ≡ b.shard = ap (λ x. x.value) k.before ∙ new in
    let now : b'.shard.now ≡ before.now = k.now ∙ ap (λ (l : ShardLog). l.now) (sym same) in
    let history : b'.shard.history ≡ before.history = k.history ∙ ap (λ (l : ShardLog). l.history) (sym same) in
    let opening : b'.shard.opening ≡ before.opening = k.opening ∙ ap (λ (l : ShardLog). l.opening) (sym same) in
    let l : ShardLog = record b'.shard { marked = [] } in
    let none : pairs_of b'.hand.victims.items ≡ [] = ap pairs_of (k.victims ∙ alone) in
    let here : Scans m g i first before p p l [] [] [] = record {
      place = ap (λ (ns : List Note). let r : Place (Known C) = record { table = p.table; parties = p.parties; number = p.number; own = record p.own { notes = ns }; joined = p.joined; held = p.held } in r) (sym (append-nil p.own.notes));
      passes = tt;
      others = tt;
      history = history ∙ sym (append-nil before.history);
      opening = opening;
      now = now ∙ ap (λ (x : PlainShard). record before.now { passed = x.passed }) (sym now);
      replayed = replayed_same before l may'.sound.replayed now history opening;
      buckets = tt;
      apart = (refl, tt);
      in_hand = λ k h. absurd (cc);
    } in
    subst (λ (x : Both). Scans m g x.turn (first_of x) x.hand.before.value p p x.shard x.shard.marked (pairs_of x.hand.victims.items) []) (sym is)
    (subst (λ (vs : List (ℕ × Chain)). Scans m g i first before p p l [] vs []) (sym none) here)

-- and there is room
room_three : (e : Event) → IsTrue (takes_room e) → room_for e ≤ 3
room_three (Miss n k t) h = omega arith
room_three (Insert n k d t) h = omega arith
room_three (Resize n c) h = omega arith
room_three (_) h = absurd (cc)

pub room_begins : (b : Both) (s : Scan) (e : Event) → IsTrue (takes_room e) → HasBothRoom b (vec_capacity s.marked) → s.both ≡ record b { shard = record b.shard { marked = [] } } → vec_len s.marked ≡ 0 → s.marked.items ≡ [] → HasScanRoom (room_for e) s
room_begins b s e takes room is len none =
    let most : left_of s ≤ length s.both.shard.now.entries = open_at_most s.both.shard.now s.both.shard.marked in
    let same : length s.both.shard.now.entries ≡ length b.shard.now.entries = ap (λ (x : Both). length x.shard.now.entries) is in
    let a : s.both.shard.event_room ≡ b.shard.event_room = ap (λ (x : Both). x.shard.event_room) is in
    let v : vec_len s.both.hand.victims ≡ vec_len b.hand.victims = ap (λ (x : Both). vec_len x.hand.victims) is in
    let w : vec_capacity s.both.hand.victims ≡ vec_capacity b.hand.victims = ap (λ (x : Both). vec_capacity x.hand.victims) is in
    let three = room_three e takes in
    let r1 = room.events in let r2 = room.victims in let r3 = room.keys in record {
      events = omega arith;
      victims = omega arith;
      keys = omega arith;
      marked = λ k. ap (stands_on k) none ∙ sym (ap (λ (x : Both). stands_on k x.shard.marked) is);
    }
