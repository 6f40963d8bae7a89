-- What is so of a party that has taken the bucket and the shard of a key.
use Rattle.std.proofs.Common.{◌≡◌, ◌≢◌, ◌⊎◌, ℕ, zero, suc, ◌<◌, ◌≤◌, List, [], ◌∷◌, length, map, Bool, true, false, cond, if◌then◌else◌, Option, Some, refl, sym, ap, ◌∙◌, subst, inl, inr, eq-eqb, arith}
use Rattle.std.specs.Prelude.{nat_lt}
use Rattle.std.specs.Option.{option_map_or}
use mathlib.Core.Option.{some, some-injective, some-ne-none}
use lib.ListN.{get_elem?}
use Rattle.blk_ptr.specs.declared.key.Key.{Key}
use Rattle.blk_ptr.specs.declared.ptr.Ptr.{Ptr}
use Rattle.blk_ptr.specs.Order.{key_eq}
use Rattle.blk_ptr.proofs.Keys.{key_eq-same}
use Rattle.arc_core.specs.declared.config.Config.{Config}
use Rattle.arc_core.specs.declared.entry.Entry.{Entry}
use Rattle.arc_core.specs.Config.{IsConfig}
use Rattle.arc_core.specs.Keeps.{holds_on}
use Rattle.arc_core.specs.PlainShard.{PlainShard, count_of, entry_of, held_by, numbers}
use Rattle.arc_core.specs.declared.event.Event.{Event}
use Rattle.arc_core.specs.ShardLog.{ShardLog}
use Rattle.hash_chain.specs.Chain.{Chain, header_at}
use Rattle.hash_chain.specs.declared.header.Header.{Header}
use Rattle.turn_table.specs.Board.{IsAmong, without}
use Rattle.turn_table.specs.Moments.{Loses, WasFree}
use Rattle.turn_table.specs.Places.{Place, saw}
use Rattle.turn_table.proofs.Moments.{taken_at}
use Rattle.arc_table.specs.declared.about.About.{About}
use Rattle.arc_table.specs.declared.item.Item.{Item}
use Rattle.arc_table.specs.declared.item.Item.TheVariants as item
use Rattle.arc_table.specs.declared.view.Known.{Known}
use Rattle.arc_table.specs.declared.view.Ledger.{Ledger}
use Rattle.arc_table.specs.declared.view.Line.{Line}
use Rattle.arc_table.specs.declared.view.Line.TheVariants as line
use Rattle.arc_table.specs.declared.view.Mine.{Mine}
use Rattle.arc_table.specs.declared.view.Note.{Note}
use Rattle.arc_table.specs.Arriving.{IsReading}
use Rattle.arc_table.specs.pact.Attached.{IsShown}
use Rattle.arc_table.specs.Both.{Takes, TakesBoth}
use Rattle.arc_table.specs.pact.Counted.{IsRead, Rests, begun, shard_at}
use Rattle.arc_table.specs.Fronts.{StartsWith, front_of, item_at, list_at, put, without_item}
use Rattle.arc_table.specs.Giving.{IsAsTaken}
use Rattle.arc_table.specs.Geometry.{IsCell, IsShard, bucket_turn, cell_number, numbers_of, parties_of, shard_turn}
use Rattle.arc_table.specs.pact.Headed.{IsHead}
use Rattle.arc_table.specs.Holding.{IsListed, IsOneOf, own, cell}
use Rattle.arc_table.specs.Items.{Meanings, holds_in, lines_in, shard_in}
use Rattle.arc_table.specs.pact.Logged.{IsSoundItem, IsSoundLog}
use Rattle.arc_table.specs.pact.Rule.{Pact}
use Rattle.arc_table.specs.pact.Scene.{Scene}
use Rattle.arc_table.specs.ShardGiving.{after_shard, holds_through}
use Rattle.arc_table.specs.TableLaws.{item_else, item_here, list_else, list_here, within}
use Rattle.arc_table.proofs.TableLaws.{front_else}
use Rattle.arc_table.specs.Views.{after_lost}
use Rattle.arc_table.proofs.Bookings.{holds_cons}
use Rattle.arc_table.proofs.cell_lemmas.CellGives.{note_within}
use Rattle.arc_table.proofs.HandHeads.{config_then, hand_entries, hand_headers, hand_heads, shard_then}
use Rattle.arc_table.proofs.Ranges.{bucket_range, shard_range}
use Rattle.arc_table.proofs.Rows.{same_shard}
use Rattle.arc_table.proofs.ShardGives.{listed_at}

-- ---- a take of one turn

-- u is w but for its notes
pub record SameButNotes {C : Type 0} (w u : Known C) : Type 0 where
  pub number : u.number ≡ w.number
  pub about : u.about ≡ w.about
  pub records : u.records ≡ w.records
  pub listed : u.listed ≡ w.listed
  pub seen : u.seen ≡ w.seen
  pub mine : u.mine ≡ w.mine
  pub ledger : u.ledger ≡ w.ledger

-- a party that has taken the turn i with the value v
pub record Took {C : Type 0} (m : Meanings C) (i : ℕ) (v : Item C) (p q : Place (Known C)) : Type 0 where
  pub table : q.table ≡ p.table
  pub parties : q.parties ≡ p.parties
  pub number : q.number ≡ p.number
  pub joined : q.joined ≡ p.joined
  pub held : q.held ≡ i ∷ p.held
  pub own_number : q.own.number ≡ p.own.number
  pub about : q.own.about ≡ p.own.about
  pub records : q.own.records ≡ (i, v) ∷ p.own.records
  pub listed : q.own.listed ≡ (i, holds_in m v) ∷ p.own.listed
  pub seen : q.own.seen ≡ put i (lines_in m v) p.own.seen
  pub mine : q.own.mine ≡ p.own.mine
  pub ledger : q.own.ledger ≡ p.own.ledger

module _ {C : Type 0} (m : Meanings C) where
  -- lost tries add notes, and change nothing else
  pub loses_same : (i : ℕ) (owners : List ℕ) (p q : Place (Known C)) → Loses (Pact m) (λ n. after_lost) i owners p q → SameButNotes p.own q.own
  loses_same i [] p q e = subst (λ (x : Place (Known C)). SameButNotes p.own x.own) (sym e) record { number = refl; about = refl; records = refl; listed = refl; seen = refl; mine = refl; ledger = refl }
  loses_same i (k ∷ ks) p q e = let h = loses_same i ks (saw p (after_lost i k p.own)) q e.1 in
      record { number = h.number; about = h.about; records = h.records; listed = h.listed; seen = h.seen; mine = h.mine; ledger = h.ledger }

  pub took_is : (i : ℕ) (v : Item C) (p q : Place (Known C)) → Takes m i v p q → Took m i v p q
  took_is i v p q t = let h = loses_same i t.owners p (saw p t.knew) t.lost in record {
    table = ap (λ (x : Place (Known C)). x.table) t.took;
    parties = ap (λ (x : Place (Known C)). x.parties) t.took;
    number = ap (λ (x : Place (Known C)). x.number) t.took;
    joined = ap (λ (x : Place (Known C)). x.joined) t.took;
    held = ap (λ (x : Place (Known C)). x.held) t.took;
    own_number = ap (λ (x : Place (Known C)). x.own.number) t.took ∙ h.number;
    about = ap (λ (x : Place (Known C)). x.own.about) t.took ∙ h.about;
    records = ap (λ (x : Place (Known C)). x.own.records) t.took ∙ ap (λ (l : List (ℕ × Item C)). (i, v) ∷ l) h.records;
    listed = ap (λ (x : Place (Known C)). x.own.listed) t.took ∙ ap (λ (l : List (ℕ × List Ptr)). (i, holds_in m v) ∷ l) h.listed;
    seen = ap (λ (x : Place (Known C)). x.own.seen) t.took ∙ ap (put i (lines_in m v)) h.seen;
    mine = ap (λ (x : Place (Known C)). x.own.mine) t.took ∙ h.mine;
    ledger = ap (λ (x : Place (Known C)). x.own.ledger) t.took ∙ h.ledger;
  }

-- ---- a take of both

pub record Reached {C : Type 0} (g : Config) (k : Key) (chain : Chain) (before : ShardLog) (p q : Place (Known C)) : Type 0 where
  pub table : q.table ≡ p.table
  pub parties : q.parties ≡ p.parties
  pub number : q.number ≡ p.number
  pub joined : q.joined ≡ p.joined
  pub held : q.held ≡ shard_turn g k ∷ (bucket_turn g k ∷ p.held)
  pub own_number : q.own.number ≡ p.own.number
  pub about : q.own.about ≡ p.own.about
  pub records : q.own.records ≡ (shard_turn g k, item.Shard before) ∷ ((bucket_turn g k, item.Bucket chain) ∷ p.own.records)
  pub listed : q.own.listed ≡ (shard_turn g k, []) ∷ ((bucket_turn g k, []) ∷ p.own.listed)
  pub seen : q.own.seen ≡ put (shard_turn g k) (map line.Event before.history) (put (bucket_turn g k) [] p.own.seen)
  pub mine : q.own.mine ≡ p.own.mine
  pub ledger : q.own.ledger ≡ p.own.ledger

pub bucket_below : (g : Config) (k : Key) → IsConfig g → bucket_turn g k ≢ shard_turn g k
bucket_below g k valid e = let a = (bucket_range g k valid).1 in let b = (shard_range g k valid).0 in omega arith

module _ {C : Type 0} (m : Meanings C) (g : Config) (k : Key) (chain : Chain) (before : ShardLog) (p q : Place (Known C)) (t : TakesBoth m g k chain before p q) where
  first : Took m (bucket_turn g k) (item.Bucket chain) p t.between
  first = took_is m (bucket_turn g k) (item.Bucket chain) p t.between t.bucket

  pub second : Took m (shard_turn g k) (item.Shard before) t.between q
  second = took_is m (shard_turn g k) (item.Shard before) t.between q t.shard

  pub reached : Reached g k chain before p q
  reached = record {
    table = second.table ∙ first.table;
    parties = second.parties ∙ first.parties;
    number = second.number ∙ first.number;
    joined = second.joined ∙ first.joined;
    held = second.held ∙ ap (λ (l : List ℕ). shard_turn g k ∷ l) first.held;
    own_number = second.own_number ∙ first.own_number;
    about = second.about ∙ first.about;
    records = second.records ∙ ap (λ (l : List (ℕ × Item C)). (shard_turn g k, item.Shard before) ∷ l) first.records;
    listed = second.listed ∙ ap (λ (l : List (ℕ × List Ptr)). (shard_turn g k, []) ∷ l) first.listed;
    seen = second.seen ∙ ap (put (shard_turn g k) (map line.Event before.history)) first.seen;
    mine = second.mine ∙ first.mine;
    ledger = second.ledger ∙ first.ledger;
  }

  -- ---- the moment at which the shard was free

  abbrev pub before_shard : Place (Known C)
  before_shard = saw t.between t.shard.knew

  pub knew : SameButNotes t.between.own t.shard.knew
  knew = loses_same m (shard_turn g k) t.shard.owners t.between (saw t.between t.shard.knew) t.shard.lost

  abbrev pub moment : WasFree (Pact m) before_shard (shard_turn g k) (item.Shard before)
  moment = t.shard.free

  module _ (same : p.own.about.config ≡ g) (valid : IsConfig g) where
    config : before_shard.own.about.config ≡ g
    config = ap (λ (a : About). a.config) (knew.about ∙ first.about) ∙ same

    abbrev pub scene : Scene C
    scene = moment.held.scene

    pub scene_config : scene.about.config ≡ g
    scene_config = config_then m before_shard (shard_turn g k) before moment ∙ config

    pub shown : IsShown scene before_shard.number before_shard.own
    shown = moment.held.attached.views before_shard.number before_shard.own moment.stands.shows.0

    pub shard_is : scene.now (shard_turn g k) ≡ item.Shard before
    shard_is = shard_then m before_shard (shard_turn g k) before moment

    -- the shard is sound, and its history is the replay
    pub sound_log : IsSoundLog g before
    sound_log = subst (λ (c : Config). IsSoundLog c before) scene_config (subst (IsSoundItem m scene.about (shard_turn g k)) shard_is (moment.held.logged.sound (shard_turn g k)))

    has_bucket : IsAmong (bucket_turn g k) before_shard.held
    has_bucket = subst (IsAmong (bucket_turn g k)) (sym first.held) (inl refl)

    bucket_is : item_at (bucket_turn g k) before_shard.own.records ≡ Some (item.Bucket chain)
    bucket_is = ap (item_at (bucket_turn g k)) (knew.records ∙ first.records) ∙ item_here (bucket_turn g k) (item.Bucket chain) p.own.records

    -- the headers of the bucket are the heads of the shard's entries
    pub heads : (j : Key) → bucket_turn g j ≡ bucket_turn g k → IsHead (entry_of j before.now) (header_at j chain.headers)
    heads j is = subst (λ (c : Config). IsAmong (bucket_turn c j) before_shard.held → item_at (bucket_turn c j) before_shard.own.records ≡ Some (item.Bucket chain) → shard_turn g k ≡ shard_turn c j → IsHead (entry_of j before.now) (header_at j chain.headers))
        config (hand_heads m before_shard (shard_turn g k) before moment chain j)
        (subst (λ (x : ℕ). IsAmong x before_shard.held) (sym is) has_bucket)
        (ap (λ (x : ℕ). item_at x before_shard.own.records) is ∙ bucket_is)
        (same_shard g k j valid (sym is))

    pub own_headers : (j : Key) (h : Header) → header_at j chain.headers ≡ Some h → bucket_turn g k ≡ bucket_turn g j
    own_headers j h e = subst (λ (c : Config). bucket_turn g k ≡ bucket_turn c j) config (hand_headers m before_shard (shard_turn g k) before moment (bucket_turn g k) chain j h has_bucket bucket_is e)

    pub own_entries : (j : Key) (e : Entry) → entry_of j before.now ≡ Some e → shard_turn g k ≡ shard_turn g j
    own_entries j e is = subst (λ (c : Config). shard_turn g k ≡ shard_turn c j) config (hand_entries m before_shard (shard_turn g k) before moment j e is)

    -- the notes of earlier passes are among the party's
    pub fresh : (j y : ℕ) (a : Mine) → get_elem? q.own.mine j ≡ some a → a.note ≡ Some y → y < length q.own.notes
    fresh j y a e is =
        let within_then = note_within m scene moment.held.logged moment.held.passed before_shard.number j y a
        (subst (λ (x : List Mine). get_elem? x j ≡ some a) (ap (λ (x : Place (Known C)). x.own.mine) t.shard.took ∙ shown.mine) e) is in
        subst (λ (x : List Note). y < length x) (sym (ap (λ (x : Place (Known C)). x.own.notes) t.shard.took ∙ shown.notes)) within_then

    -- the party's number
    pub number_below : q.number < parties_of g
    number_below =
        let a : before_shard.number < length moment.board.views = within moment.board.views before_shard.number before_shard.own moment.stands.shows.0 in
        let b : length moment.board.views ≡ parties_of scene.about.config = moment.held.attached.parties in
        let c : parties_of scene.about.config ≡ parties_of g = ap parties_of scene_config in
        let d : q.number ≡ before_shard.number = second.number in
        omega arith

    pub own_number_is : q.own.number ≡ q.number
    own_number_is = second.own_number ∙ (sym knew.number ∙ (shown.number ∙ sym second.number))

    -- ---- what is held of the key

    shard_of_key : (j : Key) → shard_turn g j ≡ shard_turn g k → shard_at scene j ≡ before.now
    shard_of_key j is = ap (λ (c : Config). shard_in c (scene.now (shard_turn c j))) scene_config ∙ (ap (λ (x : ℕ). shard_in g (scene.now x)) is ∙ ap (shard_in g) shard_is)

    pub counted : (j : Key) → shard_turn g j ≡ shard_turn g k → count_of q.number j before.now ≡ begun j q.own.ledger
    counted j is =
        let below : before_shard.number < parties_of scene.about.config = let a = number_below in let c : parties_of scene.about.config ≡ parties_of g = ap parties_of scene_config in let d : q.number ≡ before_shard.number = second.number in omega arith in
        ap (λ (x : ℕ). count_of x j before.now) second.number
        ∙ (ap (count_of before_shard.number j) (sym (shard_of_key j is)) ∙ (moment.held.counted.parties before_shard.number j below
        ∙ ap (begun j) (sym shown.ledger ∙ (knew.ledger ∙ sym second.ledger))))

    pub rests : (x : Ptr) → shard_turn g x.key ≡ shard_turn g k → IsOneOf x q.own.ledger.holds → Rests before.now x
    rests x is one =
        let below : before_shard.number < parties_of scene.about.config = let a = number_below in let c : parties_of scene.about.config ≡ parties_of g = ap parties_of scene_config in let d : q.number ≡ before_shard.number = second.number in omega arith in
        subst (λ (s : PlainShard). Rests s x) (shard_of_key x.key is)
        (moment.held.counted.holds before_shard.number one.0 x below
        (subst (λ (l : Ledger). get_elem? l.holds one.0 ≡ some x) (second.ledger ∙ (sym knew.ledger ∙ shown.ledger)) one.1))

    -- and what it lists as read is being read
    pub is_read : (j : Key) → shard_turn g j ≡ shard_turn g k → IsReading j q → IsRead before.now j
    is_read j is one =
        let below : before_shard.number < parties_of scene.about.config = let a = number_below in let c : parties_of scene.about.config ≡ parties_of g = ap parties_of scene_config in let d : q.number ≡ before_shard.number = second.number in omega arith in
        subst (λ (s : PlainShard). IsRead s j) (shard_of_key j is)
        (moment.held.counted.readings before_shard.number one.0 j below
        (subst (λ (l : Ledger). get_elem? l.readings one.0 ≡ some j) (second.ledger ∙ (sym knew.ledger ∙ shown.ledger)) one.1))

    -- what is listed for a cell in hand
    kept_is : (j : ℕ) → IsAmong j p.held → IsCell g j → list_at j q.own.listed ≡ scene.kept j
    kept_is j among in_range =
        let among_then : IsAmong j before_shard.held = subst (IsAmong j) (sym first.held) (inr among) in
        let h = moment.held.attached.taken j before_shard.number (taken_at moment.board before_shard j moment.stands among_then) in
        let who : h.0 ≡ before_shard.own = some-injective h.0 before_shard.own (sym h.1 ∙ moment.stands.shows.0) in
        let b = (shard_range g k valid).0 in
        let else_shard : j ≢ shard_turn g k = λ e. omega arith in
        ap (list_at j) second.listed
        ∙ (list_else (shard_turn g k) j (holds_in m (item.Shard before)) t.between.own.listed else_shard
        ∙ (ap (list_at j) (sym knew.listed) ∙ (ap (λ (w : Known C). list_at j w.listed) (sym who) ∙ h.3)))

    -- and the party has a record of it
    pub cell_recorded : (j : ℕ) → IsAmong j p.held → IsCell g j → (x : Item C) × (item_at j q.own.records ≡ Some x)
    cell_recorded j among in_range =
        let among_then : IsAmong j before_shard.held = subst (IsAmong j) (sym first.held) (inr among) in
        let h = moment.held.attached.taken j before_shard.number (taken_at moment.board before_shard j moment.stands among_then) in
        let who : h.0 ≡ before_shard.own = some-injective h.0 before_shard.own (sym h.1 ∙ moment.stands.shows.0) in
        let b = (shard_range g k valid).0 in
        let else_shard : j ≢ shard_turn g k = λ e. omega arith in (
          scene.now j,
          ap (item_at j) second.records ∙ (item_else (shard_turn g k) j (item.Shard before) t.between.own.records else_shard
              ∙ (ap (item_at j) (sym knew.records) ∙ (ap (λ (w : Known C). item_at j w.records) (sym who) ∙ h.2))),
        )

    pub cell_counted : (i : ℕ) (j : Key) → IsAmong i p.held → IsCell g i → shard_turn g j ≡ shard_turn g k → count_of (cell_number g i) j before.now ≡ holds_on j (list_at i q.own.listed)
    cell_counted i j among in_range is =
        ap (λ (c : Config). count_of (cell_number c i) j before.now) (sym scene_config)
        ∙ (ap (count_of (cell_number scene.about.config i) j) (sym (shard_of_key j is)) ∙ (moment.held.counted.cells i j (subst (λ (c : Config). IsCell c i) (sym scene_config) in_range) ∙ ap (holds_on j) (sym (kept_is i among in_range))))

    pub cell_rests : (i : ℕ) (x : Ptr) → IsAmong i p.held → IsCell g i → shard_turn g x.key ≡ shard_turn g k → IsOneOf x (list_at i q.own.listed) → Rests before.now x
    cell_rests i x among in_range is one =
        subst (λ (s : PlainShard). Rests s x) (shard_of_key x.key is)
        (moment.held.counted.kept i one.0 x (subst (λ (c : Config). IsCell c i) (sym scene_config) in_range)
        (subst (λ (l : List Ptr). get_elem? l one.0 ≡ some x) (kept_is i among in_range) one.1))

    -- what the feeder has picked is what it lists
    pub picked_is : q.number ≡ g.callers → before.now.picked ≡ list_at (shard_turn g k) q.own.ledger.picked
    picked_is feeds =
        let as_then : scene.ledger scene.about.config.callers ≡ q.own.ledger = ap scene.ledger (ap (λ (c : Config). c.callers) scene_config ∙ (sym feeds ∙ second.number)) ∙ (sym shown.ledger ∙ (knew.ledger ∙ sym second.ledger)) in
        ap (λ (v : Item C). (shard_in g v).picked) (sym shard_is)
        ∙ (ap (λ (c : Config). (shard_in c (scene.now (shard_turn g k))).picked) (sym scene_config)
        ∙ (moment.held.counted.picked (shard_turn g k) (subst (λ (c : Config). IsShard c (shard_turn g k)) (sym scene_config) (shard_range g k valid))
        ∙ ap (λ (l : Ledger). list_at (shard_turn g k) l.picked) as_then))

    -- what the party had seen of the shard begins its history
    pub had_seen : StartsWith (map line.Event before.history) (front_of (shard_turn g k) p.own.seen)
    had_seen =
        let then_seen : front_of (shard_turn g k) (scene.seen before_shard.number) ≡ front_of (shard_turn g k) p.own.seen =
        ap (front_of (shard_turn g k)) (sym shown.seen ∙ (knew.seen ∙ first.seen)) ∙ front_else (bucket_turn g k) (shard_turn g k) [] p.own.seen (λ e. bucket_below g k valid (sym e)) in
        subst (λ (x : List Line × List Line). StartsWith x.0 x.1) (λ z. (lines_in m (shard_is z), then_seen z)) (moment.held.logged.seen before_shard.number (shard_turn g k))

-- ---- a hold that the party lists

-- a number has a hold on the key, whose entry is at rest with the digest
pub record IsHolding (n : ℕ) (x : Ptr) (s : PlainShard) : Type 0 where
  pub entry : Entry
  pub there : entry_of x.key s ≡ Some entry
  pub rest : entry.reading ≡ false
  pub digest : entry.digest ≡ Some x.digest
  pub held : 0 < held_by n entry
  pub number : n < numbers

one_counts : (x : Ptr) (hs : List Ptr) (q : ℕ) → get_elem? hs q ≡ some x → 0 < holds_on x.key hs
one_counts x [] q e = absurd (some-ne-none x (sym e))
one_counts x (h ∷ hs) zero e =
    let here : key_eq x.key h.key ≡ true = ap (λ (z : Ptr). key_eq x.key z.key) (some-injective h x e) ∙ key_eq-same x.key in
    let sum = holds_cons x.key h hs in
    let one : cond {A = ℕ} (key_eq x.key h.key) 1 0 ≡ 1 = ap (λ (b : Bool). cond {A = ℕ} b 1 0) here in
    omega arith
one_counts x (h ∷ hs) (suc q) e = let ih = one_counts x hs q e in let sum = holds_cons x.key h hs in omega arith

pub counted_there : (n : ℕ) (k : Key) (s : PlainShard) (entry : Entry) → entry_of k s ≡ Some entry → count_of n k s ≡ held_by n entry
counted_there n k s entry e = ap (λ (o : Option Entry). option_map_or (held_by n) o 0) e

module _ {C : Type 0} (m : Meanings C) (g : Config) (k : Key) (chain : Chain) (before : ShardLog) (p q : Place (Known C)) (t : TakesBoth m g k chain before p q) (same : p.own.about.config ≡ g) (valid : IsConfig g) where
  holding_of : (n : ℕ) (x : Ptr) → Rests before.now x → 0 < count_of n x.key before.now → n < numbers → IsHolding n x before.now
  holding_of n x r some_count below = record {
    entry = r.entry;
    there = r.there;
    rest = r.rest;
    digest = r.digest;
    held = subst (λ (y : ℕ). 0 < y) (counted_there n x.key before.now r.entry r.there) some_count;
    number = below;
  }

  few : numbers_of g ≤ numbers
  few = let a = valid.counts.callers.1 in let b = valid.counts.cells.1 in omega arith

  -- a cell's turn is neither a bucket's nor a shard's
  cell_before : (j : ℕ) → IsCell g j → IsAmong j q.held → IsAmong j p.held
  cell_before j in_range among = past (subst (IsAmong j) (reached m g k chain before p q t).held among)
    where
      past : (shard_turn g k ≡ j) ⊎ ((bucket_turn g k ≡ j) ⊎ IsAmong j p.held) → IsAmong j p.held
      past (inl e) = let a = (shard_range g k valid).0 in absurd (omega arith)
      past (inr (inl e)) = let a = (bucket_range g k valid).0 in absurd (omega arith)
      past (inr (inr h)) = h

  pub holding : (n : ℕ) (x : Ptr) → shard_turn g x.key ≡ shard_turn g k → IsListed g q n x → IsHolding n x before.now
  holding n x is (own same_number one) =
      let r = rests m g k chain before p q t same valid x is one in
      let c : count_of q.number x.key before.now ≡ begun x.key q.own.ledger = counted m g k chain before p q t same valid x.key is in
      let some_hold : 0 < holds_on x.key q.own.ledger.holds = one_counts x q.own.ledger.holds one.0 one.1 in
      let below : q.number < parties_of g = number_below m g k chain before p q t same valid in
      let f = few in
      subst (λ (y : ℕ). IsHolding y x before.now) (sym same_number) (holding_of q.number x r (omega arith) (omega arith))
  holding n x is (cell j same_number in_range among one) =
      let among_then = cell_before j in_range among in
      let r = cell_rests m g k chain before p q t same valid j x among_then in_range is one in
      let c : count_of (cell_number g j) x.key before.now ≡ holds_on x.key (list_at j q.own.listed) = cell_counted m g k chain before p q t same valid j x.key among_then in_range is in
      let some_hold : 0 < holds_on x.key (list_at j q.own.listed) = one_counts x (list_at j q.own.listed) one.0 one.1 in
      let f = few in
      subst (λ (y : ℕ). IsHolding y x before.now) (sym same_number) (holding_of (cell_number g j) x r (omega arith) (omega arith))

  -- a hold that was listed is so still
  pub listed_still : (n : ℕ) (x : Ptr) → IsListed g p n x → IsListed g q n x
  listed_still n x (own same_number one) = let r = reached m g k chain before p q t in
      own (same_number ∙ sym r.number) (one.0, subst (λ (l : Ledger). get_elem? l.holds one.0 ≡ some x) (sym r.ledger) one.1)
  listed_still n x (cell j same_number in_range among one) = let r = reached m g k chain before p q t in
      cell j same_number in_range (subst (IsAmong j) (sym r.held) (inr (inr among))) (
        one.0,
        subst (λ (l : List Ptr). get_elem? l one.0 ≡ some x) (sym (ap (list_at j) r.listed
            ∙ (list_else (shard_turn g k) j [] ((bucket_turn g k, []) ∷ p.own.listed) (let a = (shard_range g k valid).0 in λ e. omega arith)
            ∙ list_else (bucket_turn g k) j [] p.own.listed (let a = (bucket_range g k valid).0 in λ e. omega arith)))) one.1,
      )

-- ---- the bucket is given back after the shard

module _ {C : Type 0} (m : Meanings C) (g : Config) (k : Key) (chain : Chain) (before : ShardLog) (p q : Place (Known C)) (t : TakesBoth m g k chain before p q) (same : p.own.about.config ≡ g) (valid : IsConfig g) where
  after_config : q.own.about.config ≡ g
  after_config = ap (λ (a : About). a.config) (reached m g k chain before p q t).about ∙ same

  without_shard : without (shard_turn g k) q.held ≡ bucket_turn g k ∷ p.held
  without_shard = ap (without (shard_turn g k)) (reached m g k chain before p q t).held
      ∙ ap (λ (b : Bool). if b then (bucket_turn g k ∷ p.held) else (shard_turn g k ∷ without (shard_turn g k) (bucket_turn g k ∷ p.held))) (eq-eqb (shard_turn g k) (shard_turn g k) refl)

  pub bucket_stays : IsAmong (bucket_turn g k) (without (shard_turn g k) q.held)
  bucket_stays = subst (IsAmong (bucket_turn g k)) (sym without_shard) (inl refl)

  -- both are given back: the party has what it had
  pub held_again : without (bucket_turn g k) (without (shard_turn g k) q.held) ≡ p.held
  held_again = ap (without (bucket_turn g k)) without_shard
      ∙ ap (λ (b : Bool). if b then p.held else (bucket_turn g k ∷ without (bucket_turn g k) p.held)) (eq-eqb (bucket_turn g k) (bucket_turn g k) refl)

  pub bucket_as_taken : (given : Chain) (es : List Event) (l : ShardLog) → IsAsTaken m (bucket_turn g k) (item.Bucket given) (after_shard m ((bucket_turn g k, given) ∷ []) (shard_turn g k) before es l q.own)
  bucket_as_taken given es l =
      let r = reached m g k chain before p q t in
      let record_there : item_at (bucket_turn g k) q.own.records ≡ Some (item.Bucket chain) = ap (item_at (bucket_turn g k)) r.records
      ∙ (item_else (shard_turn g k) (bucket_turn g k) (item.Shard before) ((bucket_turn g k, item.Bucket chain) ∷ p.own.records) (bucket_below g k valid) ∙ item_here (bucket_turn g k) (item.Bucket chain) p.own.records) in
      let list_there : list_at (bucket_turn g k) q.own.listed ≡ [] = ap (list_at (bucket_turn g k)) r.listed
      ∙ (list_else (shard_turn g k) (bucket_turn g k) [] ((bucket_turn g k, []) ∷ p.own.listed) (bucket_below g k valid) ∙ list_here (bucket_turn g k) [] p.own.listed) in
      let no_cell : nat_lt (bucket_turn g k) q.own.about.config.cells ≡ false = ap (λ (c : Config). nat_lt (bucket_turn g k) c.cells) after_config ∙ not_below (bucket_turn g k) g.cells (bucket_range g k valid).0 in record {
        recorded = item_here (bucket_turn g k) (item.Bucket given) (without_item (shard_turn g k) q.own.records);
        listed = listed_at q.own.about.config before.now es (bucket_turn g k) q.own.records (item.Bucket chain) q.own.listed q.own.listed record_there
            ∙ (ap (λ (b : Bool). if b then holds_through (cell_number q.own.about.config (bucket_turn g k)) before.now es (list_at (bucket_turn g k) q.own.listed) else list_at (bucket_turn g k) q.own.listed) no_cell
            ∙ list_there);
      }
    where
      not_below : (x y : ℕ) → y ≤ x → nat_lt x y ≡ false
      not_below x y h = grind (arith, Rattle.std.proofs.lemmas.Bool.Decides.nat_tests)
