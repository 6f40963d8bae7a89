-- The table of events: where each is legal, and what it changes.
use Rattle.std.specs.Prelude.{ℕ, Bool, true, false, not, ◌&&◌, ◌||◌, ◌==◌, if◌then◌else◌, [], ◌∷◌, ◌++◌, Option, Some, None, is_some, is_none, option_and_then}
use Rattle.std.specs.Option.{option_map_or}
use Rattle.blk_ptr.specs.declared.key.Key.{Key}
use Rattle.blk_ptr.specs.declared.digest.Digest.{Digest}
use Rattle.blk_ptr.specs.declared.state.State.{State}
use Rattle.blk_ptr.specs.declared.state.State.TheVariants.{Anon, Mru, MruGhost, Mfu, MfuGhost, L2Only}
use Rattle.blk_ptr.specs.Key.{is_well_formed}
use Rattle.blk_ptr.specs.Order.{key_eq}
use Rattle.blk_ptr.specs.State.{is_cached, is_ghost, is_same_state}
use Rattle.arc_lists.specs.ByKey.{with_item}
use Rattle.arc_lists.specs.Sequences.{stands}
use Rattle.arc_core.specs.Config.{is_capacity_of}
use Rattle.arc_core.specs.declared.entry.Entry.{Entry}
use Rattle.arc_core.specs.declared.entry.Picked.{Picked}
use Rattle.arc_core.specs.declared.entry.Phase.{Phase}
use Rattle.arc_core.specs.declared.entry.Phase.TheVariants.{Picking, Writing}
use Rattle.arc_core.specs.declared.event.Origin.{Origin}
use Rattle.arc_core.specs.declared.event.Origin.TheVariants as origin
use Rattle.arc_core.specs.declared.event.Why.{Why}
use Rattle.arc_core.specs.declared.event.Why.TheVariants as why
use Rattle.arc_core.specs.declared.event.Event.{Event}
use Rattle.arc_core.specs.declared.event.Event.TheVariants.{Pass, Hit, Miss, Arrive, Fail, Drop, Past, Hand, Insert, Release, Pick, FeedEnd, Set, Leave, Clear, Restore, Resize}
use Rattle.arc_core.specs.PlainShard.{PlainShard, entry_of, entry_is, held_by, holds_of, is_absent, is_at_rest, is_cell, is_number, is_party, is_passed, is_resident, keeps_digest, no_holds, one_hold, place_of}
use Rattle.arc_core.specs.Changes.{changed, come, given_back, gone, off_sequence, one_less, one_more, pick_of, settled, with_none_passed, writing_phase}
use Rattle.arc_core.specs.Rules.{accessed, arrived_state, resized, trimmed, with_room, with_target_for}
use Rattle.arc_core.specs.Candidate.{candidate}
use Rattle.arc_core.specs.Digests.{same_digest}

-- ---- words of the table

-- the entry is reading and n holds it; is at rest and n holds it
abbrev pub reads : ℕ → Entry → Bool
reads n e = e.reading && not (held_by n e == 0)

abbrev pub holds : ℕ → Entry → Bool
holds n e = is_at_rest e && not (held_by n e == 0)

-- a state from which a block has to be read: a ghost or L2-only
abbrev pub is_without_bytes : State → Bool
is_without_bytes MruGhost = true
is_without_bytes MfuGhost = true
is_without_bytes L2Only = true
is_without_bytes _ = false

-- nothing, or only a name, is kept of the key
abbrev pub is_missing : Key → PlainShard → Bool
is_missing k s = option_map_or (λ e. is_without_bytes e.state) (entry_of k s) true

-- nothing is kept of the key, or only its place on the cache device
abbrev pub is_new_here : Key → PlainShard → Bool
is_new_here k s = option_map_or (λ e. is_same_state e.state L2Only) (entry_of k s) true

-- bytes come from the cache device only where the entry has a place there
abbrev pub may_come_from : Origin → Entry → Bool
may_come_from origin.Pool e = true
may_come_from origin.L2 e = is_some e.place

-- nothing is being written to the cache device: keys may be picked
abbrev pub may_pick : Phase → Bool
may_pick Writing = false
may_pick _ = true

abbrev pub is_writing : Phase → Bool
is_writing Writing = true
is_writing _ = false

abbrev pub is_gone : Why → Bool
is_gone why.Gone = true
is_gone _ = false

-- the two tests agree
abbrev pub agree : Bool → Bool → Bool
agree true b = b
agree false b = not b

-- it is this key
abbrev pub is_key : Key → Key → Bool
is_key k x = key_eq x k

-- a picked key may gain a place: its entry has none, is cached or a ghost, isn't being read, and has the digest of the pick still
abbrev pub may_be_placed : Picked → Entry → Bool
may_be_placed pick e =
    (is_cached e.state || is_ghost e.state) && (is_at_rest e && (same_digest e.digest pick.digest && is_none e.place))

abbrev pub may_set : Key → PlainShard → Bool
may_set k s = option_map_or (λ pick. entry_is (may_be_placed pick) k s) (pick_of k s.picked) false

-- ---- where an event is legal

abbrev pub legal : PlainShard → Event → Bool
-- the feed's candidate stands on a sequence too
legal s (Pass n k owner) = is_number n && (stands k s.sequences && (not (is_passed s k) && (not (owner == n) && is_party owner)))
legal s (Hit n k t) = is_number n && entry_is is_resident k s
legal s (Miss n k t) = is_number n && (is_well_formed k && is_missing k s)
legal s (Arrive n k d from) = is_number n && entry_is (λ e. reads n e && may_come_from from e) k s
legal s (Fail n k at) = is_number n && entry_is (reads n) k s
legal s (Drop n k) = is_number n && entry_is (holds n) k s
legal s (Past n k kept) = is_number n && entry_is (λ e. is_resident e && keeps_digest kept e) k s
legal s (Hand n k to) = is_number n && (is_cell to && entry_is (holds n) k s)
legal s (Insert n k d t) = is_cell n && (is_well_formed k && is_new_here k s)
legal s (Release n k sole) = is_number n && entry_is (λ e. holds n e && agree sole (holds_of e == 1)) k s
legal s (Pick n k) = is_number n && (may_pick s.phase && option_map_or (is_key k) (candidate s) false)
legal s (FeedEnd n) = is_number n && (may_pick s.phase && is_none (candidate s))
legal s (Set n k place) = is_number n && (is_writing s.phase && may_set k s)
legal s (Leave n k why) = is_number n && (is_writing s.phase && (is_some (pick_of k s.picked) && agree (is_gone why) (not (may_set k s))))
legal s (Clear n k) = is_number n && is_some (place_of k s)
legal s (Restore n k place d) = is_number n && (is_well_formed k && is_absent k s)
legal s (Resize n c) = is_number n && is_capacity_of c

-- ---- what an event changes

-- what is read for a key that had this entry, or none: an entry with one hold, anonymous where there was none, else MFU; a place on
-- the cache device stays
abbrev pub entry_to_read : (n : ℕ) → Key → (t : ℕ) → Option Entry → Entry
entry_to_read n k t old = record {
  key = k;
  state = if is_some old then Mfu else Anon;
  holds = one_hold n;
  reading = true;
  last = t;
  place = option_and_then (λ e. e.place) old;
  digest = None;
}

abbrev pub read_entry : (n : ℕ) → Key → (t : ℕ) → PlainShard → Entry
read_entry n k t s = entry_to_read n k t (entry_of k s)

-- what a cell puts in: an MRU entry with one hold and a digest
abbrev pub written_entry : (n : ℕ) → Key → Digest → (t : ℕ) → Entry
written_entry n k d t = record { key = k; state = Mru; holds = one_hold n; reading = false; last = t; place = None; digest = Some d }

-- what an earlier run left on the cache device, with its digest where that is told
abbrev pub restored_entry : Key → (place : ℕ) → Option Digest → Entry
restored_entry k place d = record { key = k; state = L2Only; holds = no_holds; reading = false; last = 0; place = Some place; digest = d }

-- an entry comes in: the key is taken out, room is made for its bytes, the entry is put in, and the ghosts are trimmed
abbrev pub taken_in : Entry → PlainShard → PlainShard
taken_in e s = trimmed (come e (with_room e.key.size (gone e.key s)))

-- a shard is fitted to its capacity: room is made for nothing more, and the ghosts are trimmed
abbrev pub fitted : PlainShard → PlainShard
fitted s = trimmed (with_room 0 s)

-- the bytes of a read have arrived
abbrev pub arrived : Digest → Entry → Entry
arrived d e = record e { state = arrived_state e.state; reading = false; digest = Some d }

-- the first hold takes an entry off its sequence
abbrev pub hit_entry : (n mintime t : ℕ) → Entry → Entry
hit_entry n mintime t e = one_more n (accessed mintime t e)

abbrev pub picking : Key → PlainShard → PlainShard
picking k s = record s { phase = Picking; picked = s.picked ++ record { key = k; digest = option_and_then (λ e. e.digest) (entry_of k s) } ∷ [] }

-- a key loses its place; where only the cache device had it, it leaves
abbrev pub cleared : Key → PlainShard → PlainShard
cleared k s = if entry_is (λ e. is_same_state e.state L2Only) k s then gone k s else changed k (λ e. record e { place = None }) s

-- the change of each event, but for the passed keys
abbrev pub effect : PlainShard → Event → PlainShard
effect s (Pass n k owner) = record s { passed = with_item (λ x. x) k s.passed }
effect s (Hit n k t) = changed k (hit_entry n s.mintime t) (off_sequence k s)
effect s (Miss n k t) = taken_in (read_entry n k t s) (with_target_for k s)
effect s (Arrive n k d from) = changed k (arrived d) s
effect s (Fail n k at) = gone k s
effect s (Drop n k) = given_back n k s
effect s (Past n k kept) = s
effect s (Hand n k to) = changed k (λ e. one_more to (one_less n e)) s
effect s (Insert n k d t) = taken_in (written_entry n k d t) s
effect s (Release n k sole) = if sole then gone k s else changed k (one_less n) s
effect s (Pick n k) = picking k s
effect s (FeedEnd n) = record s { phase = writing_phase s.picked }
effect s (Set n k place) = settled k (changed k (λ e. record e { place = Some place }) s)
effect s (Leave n k why) = settled k s
effect s (Clear n k) = cleared k s
effect s (Restore n k place d) = come (restored_entry k place d) s
effect s (Resize n c) = fitted (resized c s)

-- passed keys stand only within one scan: every event but a pass and a pick forgets them
abbrev pub after : PlainShard → Event → PlainShard
after s (Pass n k owner) = effect s (Pass n k owner)
after s (Pick n k) = effect s (Pick n k)
after s e = with_none_passed (effect s e)
