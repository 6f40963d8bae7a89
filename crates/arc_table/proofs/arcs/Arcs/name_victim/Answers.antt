use Rattle.std.proofs.Common.{◌≡◌, ℕ, ◌<◌, ◌∷◌, ◌++◌, [], None, sym, ap, ◌∙◌, subst, arith}
use Rattle.std.specs.Prelude.{vec_len, vec_capacity, IsSome}
use Rattle.arc_core.specs.declared.config.Config.{Config}
use Rattle.arc_core.specs.Config.{IsConfig}
use Rattle.hash_chain.specs.Chain.{Chain}
use Rattle.turn_table.specs.Moments.{WasFree}
use Rattle.turn_table.specs.Places.{IsOther, Place}
use Rattle.arc_table.specs.declared.both.Both.{Both}
use Rattle.arc_table.specs.declared.item.Item.{Item}
use Rattle.arc_table.specs.declared.item.Item.TheVariants as item
use Rattle.arc_table.specs.declared.view.Known.{Known}
use Rattle.arc_table.specs.Cache.{Cache}
use Rattle.arc_table.specs.scans.Evicting.{IsScan}
use Rattle.arc_table.specs.Fronts.{item_at}
use Rattle.arc_table.specs.Geometry.{bucket_turn, parties_of}
use Rattle.arc_table.specs.InHand.{buckets_of}
use Rattle.arc_table.specs.Items.{Meanings}
use Rattle.arc_table.specs.pact.Rule.{Pact}
use Rattle.arc_table.proofs.scans.ScanSteps.{free_bucket, free_not_held, mark_room, marked_fewer, marked_room, marked_step, pass_legal, pass_room, passed_fewer, passed_room, passed_step, won_fewer, won_room, won_step}
use Rattle.arc_table.proofs.Lent.{lent_legal, lent_makes, lent_room}
use Rattle.arc_core.specs.declared.event.Event.TheVariants.{Pass}
use Rattle.arc_table.proofs.arcs.Arcs.name_victim.Goals as goal

pub mark-requires-clause-room : goal.mark-requires-clause-room
mark-requires-clause-room g c =
    (mark_room g.C.Keeps c.args.self.now.config
    (subst IsConfig (ap (λ (x : Cache). x.config) c.self.view_is) c.self.invariant.valid) c.args.key c.requires.victim.0 c.args.scan.now c.requires.victim.1 c.requires.room).0

pub returns-then-has_bucket-clause-hand : goal.returns-then-has_bucket-clause-hand
returns-then-has_bucket-clause-hand g c =
    let e = c.mark.ensures in
    record { turn = ap (λ (b : Both). b.turn) e.both; own = ap (λ (b : Both). b.hand.own) e.both; before = ap (λ (b : Both). b.hand.before) e.both }

pub returns-then-has_bucket-clause-scan : goal.returns-then-has_bucket-clause-scan
returns-then-has_bucket-clause-scan g c p es may scan =
    let m : Meanings g.row.C.Denot = g.C.Keeps in
    let cfg : Config = c.args.self.now.config in
    let valid : IsConfig cfg = subst IsConfig (ap (λ (x : Cache). x.config) c.self.view_is) c.self.invariant.valid in
    let e = c.mark.ensures in
    let turn : c.bucket_turn_of-turn.result ≡ bucket_turn cfg c.args.key = c.bucket_turn_of-turn.ensures ∙ ap (λ (x : Cache). bucket_turn x.config c.args.key) c.self.view_is in (
      es,
      marked_step m cfg valid c.args.key c.requires.victim.0 c.args.scan.now c.requires.victim.1 c.mark.new.scan e.both e.marked e.keys e.len e.capacity p c.args.party.now es may scan
          (subst (λ (j : ℕ). IsSome (item_at j (buckets_of c.args.scan.now.both.hand))) turn (c.has_bucket.ensures.yes c.if-has_bucket.true)),
    )

pub returns-then-has_bucket-clause-room : goal.returns-then-has_bucket-clause-room
returns-then-has_bucket-clause-room g c =
    let e = c.mark.ensures in
    marked_room g.C.Keeps c.args.self.now.config
    (subst IsConfig (ap (λ (x : Cache). x.config) c.self.view_is) c.self.invariant.valid) c.args.key c.requires.victim.0 c.args.scan.now c.requires.victim.1 c.mark.new.scan e.both e.marked e.keys e.len e.capacity

pub returns-then-has_bucket-clause-fewer : goal.returns-then-has_bucket-clause-fewer
returns-then-has_bucket-clause-fewer g c =
    let e = c.mark.ensures in
    marked_fewer g.C.Keeps c.args.self.now.config
    (subst IsConfig (ap (λ (x : Cache). x.config) c.self.view_is) c.self.invariant.valid) c.args.key c.requires.victim.0 c.args.scan.now c.requires.victim.1 c.mark.new.scan e.both e.marked e.keys e.len e.capacity

pub try_take-requires-clause-not_held : goal.try_take-requires-clause-not_held
try_take-requires-clause-not_held g c =
    let m : Meanings g.row.C.Denot = g.C.Keeps in
    let cfg : Config = c.args.self.now.config in
    let valid : IsConfig cfg = subst IsConfig (ap (λ (x : Cache). x.config) c.self.view_is) c.self.invariant.valid in
    let turn : c.bucket_turn_of-turn.result ≡ bucket_turn cfg c.args.key = c.bucket_turn_of-turn.ensures ∙ ap (λ (x : Cache). bucket_turn x.config c.args.key) c.self.view_is in
    let none : item_at (bucket_turn cfg c.args.key) (buckets_of c.args.scan.now.both.hand) ≡ None = subst (λ (j : ℕ). item_at j (buckets_of c.args.scan.now.both.hand) ≡ None) turn (c.has_bucket.ensures.no c.if-has_bucket.false) in
    subst (λ (j : ℕ). ¬ Rattle.turn_table.specs.Board.IsAmong j c.args.party.now.held) (sym turn)
    (free_not_held m cfg valid c.args.key c.requires.victim.0 c.args.scan.now c.requires.victim.1 c.args.party.now c.requires.scan none)

pub into_bucket-bucket-requires : goal.into_bucket-bucket-requires
into_bucket-bucket-requires g c =
    let m : Meanings g.row.C.Denot = g.C.Keeps in
    let cfg : Config = c.args.self.now.config in
    let valid : IsConfig cfg = subst IsConfig (ap (λ (x : Cache). x.config) c.self.view_is) c.self.invariant.valid in
    let turn : c.bucket_turn_of-turn.result ≡ bucket_turn cfg c.args.key = c.bucket_turn_of-turn.ensures ∙ ap (λ (x : Cache). bucket_turn x.config c.args.key) c.self.view_is in
    free_bucket m cfg valid c.args.key c.requires.victim.0 c.args.scan.now c.requires.victim.1 c.args.party.now c.in-Taken.value c.requires.scan
    (subst (λ (j : ℕ). WasFree (Pact m) c.args.party.now j c.in-Taken.value) turn c.in-Taken.ensures.taken.0)

pub push_reserved-requires : goal.push_reserved-requires
push_reserved-requires g c =
    (mark_room g.C.Keeps c.args.self.now.config
    (subst IsConfig (ap (λ (x : Cache). x.config) c.self.view_is) c.self.invariant.valid) c.args.key c.requires.victim.0 c.args.scan.now c.requires.victim.1 c.requires.room).1

pub mark-requires-in-Taken-clause-room : goal.mark-requires-in-Taken-clause-room
mark-requires-in-Taken-clause-room g c =
    (mark_room g.C.Keeps c.args.self.now.config
    (subst IsConfig (ap (λ (x : Cache). x.config) c.self.view_is) c.self.invariant.valid) c.args.key c.requires.victim.0 c.args.scan.now c.requires.victim.1 c.requires.room).0

pub returns-in-Taken-clause-hand : goal.returns-in-Taken-clause-hand
returns-in-Taken-clause-hand g c =
    let e = c.mark-in-Taken.ensures in
    record { turn = ap (λ (b : Both). b.turn) e.both; own = ap (λ (b : Both). b.hand.own) e.both; before = ap (λ (b : Both). b.hand.before) e.both }

pub returns-in-Taken-clause-scan : goal.returns-in-Taken-clause-scan
returns-in-Taken-clause-scan g c p es may scan =
    let m : Meanings g.row.C.Denot = g.C.Keeps in
    let cfg : Config = c.args.self.now.config in
    let valid : IsConfig cfg = subst IsConfig (ap (λ (x : Cache). x.config) c.self.view_is) c.self.invariant.valid in
    let turn : c.bucket_turn_of-turn.result ≡ bucket_turn cfg c.args.key = c.bucket_turn_of-turn.ensures ∙ ap (λ (x : Cache). bucket_turn x.config c.args.key) c.self.view_is in
    let none : item_at (bucket_turn cfg c.args.key) (buckets_of c.args.scan.now.both.hand) ≡ None = subst (λ (j : ℕ). item_at j (buckets_of c.args.scan.now.both.hand) ≡ None) turn (c.has_bucket.ensures.no c.if-has_bucket.false) in
    let e = c.mark-in-Taken.ensures in
    let b : Chain = c.into_bucket-bucket.result in
    let is : c.in-Taken.value ≡ item.Bucket b = c.into_bucket-bucket.ensures in
    let free : WasFree (Pact m) c.args.party.now (bucket_turn cfg c.args.key) (item.Bucket b) =
    subst (λ (x : ℕ × Item g.row.C.Denot). WasFree (Pact m) c.args.party.now x.0 x.1) (λ z. (turn z, is z)) c.in-Taken.ensures.taken.0 in
    let step = won_step m cfg valid c.args.key c.requires.victim.0 c.args.scan.now c.requires.victim.1 b c.push_reserved.new.self.items c.mark-in-Taken.new.scan
    (c.push_reserved.ensures.items ∙ ap (λ (j : ℕ). c.args.scan.now.both.hand.victims.items ++ record { turn = j; bucket = b } ∷ []) turn)
    (ap (λ (x : Both). x.hand.victims.items) e.both) (ap (λ (x : Both). x.turn) e.both) (ap (λ (x : Both). x.hand.own) e.both) (ap (λ (x : Both). x.hand.before) e.both)
    (ap (λ (x : Both). x.shard.now) e.both) (ap (λ (x : Both). x.shard.history) e.both) (ap (λ (x : Both). x.shard.opening) e.both) e.marked
    p c.args.party.now es may scan none free in (
      es,
      subst (λ (q : Place (Known g.row.C.Denot)). IsScan m cfg p q c.mark-in-Taken.new.scan es)
          (sym (c.in-Taken.ensures.taken.1 ∙ ap (λ (x : ℕ × Item g.row.C.Denot). Rattle.turn_table.specs.Places.took c.args.party.now x.0 (Rattle.arc_table.specs.Views.after_won m x.0 x.1 c.args.party.now.own)) (λ z. (turn z, is z)))) step,
    )

pub returns-in-Taken-clause-room : goal.returns-in-Taken-clause-room
returns-in-Taken-clause-room g c n room =
    let m : Meanings g.row.C.Denot = g.C.Keeps in
    let cfg : Config = c.args.self.now.config in
    let valid : IsConfig cfg = subst IsConfig (ap (λ (x : Cache). x.config) c.self.view_is) c.self.invariant.valid in
    let turn : c.bucket_turn_of-turn.result ≡ bucket_turn cfg c.args.key = c.bucket_turn_of-turn.ensures ∙ ap (λ (x : Cache). bucket_turn x.config c.args.key) c.self.view_is in
    let e = c.mark-in-Taken.ensures in
    let b : Chain = c.into_bucket-bucket.result in
    won_room m cfg valid c.args.key c.requires.victim.0 c.args.scan.now c.requires.victim.1 b c.push_reserved.new.self.items c.mark-in-Taken.new.scan
    (c.push_reserved.ensures.items ∙ ap (λ (j : ℕ). c.args.scan.now.both.hand.victims.items ++ record { turn = j; bucket = b } ∷ []) turn)
    (ap (λ (x : Both). x.hand.victims.items) e.both) (ap (λ (x : Both). x.turn) e.both) (ap (λ (x : Both). x.hand.own) e.both) (ap (λ (x : Both). x.hand.before) e.both)
    (ap (λ (x : Both). x.shard.now) e.both) (ap (λ (x : Both). x.shard.history) e.both) (ap (λ (x : Both). x.shard.opening) e.both) e.marked
    n room (ap (λ (x : Both). x.shard.event_room) e.both) (ap (λ (x : Both). vec_len x.hand.victims) e.both ∙ c.push_reserved.ensures.len) (ap (λ (x : Both). vec_capacity x.hand.victims) e.both ∙ c.push_reserved.ensures.capacity)
    e.keys e.len e.capacity

pub returns-in-Taken-clause-fewer : goal.returns-in-Taken-clause-fewer
returns-in-Taken-clause-fewer g c =
    let m : Meanings g.row.C.Denot = g.C.Keeps in
    let cfg : Config = c.args.self.now.config in
    let valid : IsConfig cfg = subst IsConfig (ap (λ (x : Cache). x.config) c.self.view_is) c.self.invariant.valid in
    let turn : c.bucket_turn_of-turn.result ≡ bucket_turn cfg c.args.key = c.bucket_turn_of-turn.ensures ∙ ap (λ (x : Cache). bucket_turn x.config c.args.key) c.self.view_is in
    let e = c.mark-in-Taken.ensures in
    let b : Chain = c.into_bucket-bucket.result in
    won_fewer m cfg valid c.args.key c.requires.victim.0 c.args.scan.now c.requires.victim.1 b c.push_reserved.new.self.items c.mark-in-Taken.new.scan
    (c.push_reserved.ensures.items ∙ ap (λ (j : ℕ). c.args.scan.now.both.hand.victims.items ++ record { turn = j; bucket = b } ∷ []) turn)
    (ap (λ (x : Both). x.hand.victims.items) e.both) (ap (λ (x : Both). x.turn) e.both) (ap (λ (x : Both). x.hand.own) e.both) (ap (λ (x : Both). x.hand.before) e.both)
    (ap (λ (x : Both). x.shard.now) e.both) (ap (λ (x : Both). x.shard.history) e.both) (ap (λ (x : Both). x.shard.opening) e.both) e.marked

pub pass-requires-clause-legal : goal.pass-requires-clause-legal
pass-requires-clause-legal g c =
    let m : Meanings g.row.C.Denot = g.C.Keeps in
    let cfg : Config = c.args.self.now.config in
    let valid : IsConfig cfg = subst IsConfig (ap (λ (x : Cache). x.config) c.self.view_is) c.self.invariant.valid in
    let own = c.in-Busy.ensures.owner in
    let number : c.number.result ≡ c.args.party.now.number = c.number.ensures ∙ ap (λ (x : Place (Known g.row.C.Denot)). x.number) c.in-Busy.ensures.busy.1 in
    let parties : c.self.inside.turns.parties ≡ parties_of cfg = c.self.invariant.parties ∙ ap (λ (x : Cache). parties_of x.config) c.self.view_is in
    let a = own.0 in
    lent_legal (Pass c.number.result c.args.key c.in-Busy.owner) c.deref_mut.ensures.value
    (pass_legal m cfg valid c.args.key c.requires.victim.0 c.args.scan.now c.requires.victim.1 c.args.party.now c.number.result c.in-Busy.owner c.requires.scan number (omega arith) own.1)

pub pass-requires-clause-room : goal.pass-requires-clause-room
pass-requires-clause-room g c =
    lent_room c.deref_mut.ensures.value
    (pass_room g.C.Keeps c.args.self.now.config
    (subst IsConfig (ap (λ (x : Cache). x.config) c.self.view_is) c.self.invariant.valid) c.args.key c.requires.victim.0 c.args.scan.now c.requires.victim.1 c.number.result c.in-Busy.owner c.requires.room)

pub returns-in-Busy-clause-scan : goal.returns-in-Busy-clause-scan
returns-in-Busy-clause-scan g c p es may scan =
    let m : Meanings g.row.C.Denot = g.C.Keeps in
    let cfg : Config = c.args.self.now.config in
    let valid : IsConfig cfg = subst IsConfig (ap (λ (x : Cache). x.config) c.self.view_is) c.self.invariant.valid in
    let own = c.in-Busy.ensures.owner in
    let turn : c.bucket_turn_of-turn.result ≡ bucket_turn cfg c.args.key = c.bucket_turn_of-turn.ensures ∙ ap (λ (x : Cache). bucket_turn x.config c.args.key) c.self.view_is in
    let number : c.number.result ≡ c.args.party.now.number = c.number.ensures ∙ ap (λ (x : Place (Known g.row.C.Denot)). x.number) c.in-Busy.ensures.busy.1 in
    let parties : c.self.inside.turns.parties ≡ parties_of cfg = c.self.invariant.parties ∙ ap (λ (x : Cache). parties_of x.config) c.self.view_is in
    let a = own.0 in
    let ok = pass_legal m cfg valid c.args.key c.requires.victim.0 c.args.scan.now c.requires.victim.1 c.args.party.now c.number.result c.in-Busy.owner c.requires.scan number (omega arith) own.1 in
    let same : c.self.inside.turns.parties ≡ c.args.party.now.parties = ap (λ (x : Cache). x.row.parties) c.self.view_is ∙ sym c.requires.party.row.1 in
    let other : IsOther c.in-Busy.owner c.args.party.now = (subst (λ (n : ℕ). c.in-Busy.owner < n) same own.0, own.1, own.2) in
    let step = passed_step m cfg valid c.args.key c.requires.victim.0 c.args.scan.now c.requires.victim.1 c.pass.new.self c.number.result c.in-Busy.owner (lent_makes c.deref_mut.ensures.value c.pass.ensures.makes) p c.args.party.now es may scan number ok other in (
      step.0,
      subst (λ (q : Place (Known g.row.C.Denot)). IsScan m cfg p q (record { both = record { hand = c.args.scan.now.both.hand; turn = c.args.scan.now.both.turn; shard = c.pass.new.self }; marked = c.args.scan.now.marked }) step.0)
          (sym (c.in-Busy.ensures.busy.1 ∙ ap (λ (j : ℕ). Rattle.turn_table.specs.Places.saw c.args.party.now (Rattle.arc_table.specs.Views.after_lost j c.in-Busy.owner c.args.party.now.own)) turn)) step.1,
    )

pub returns-in-Busy-clause-room : goal.returns-in-Busy-clause-room
returns-in-Busy-clause-room g c =
    passed_room g.C.Keeps c.args.self.now.config
    (subst IsConfig (ap (λ (x : Cache). x.config) c.self.view_is) c.self.invariant.valid) c.args.key c.requires.victim.0 c.args.scan.now c.requires.victim.1 c.pass.new.self c.number.result c.in-Busy.owner (lent_makes c.deref_mut.ensures.value c.pass.ensures.makes)

pub returns-in-Busy-clause-fewer : goal.returns-in-Busy-clause-fewer
returns-in-Busy-clause-fewer g c =
    passed_fewer g.C.Keeps c.args.self.now.config
    (subst IsConfig (ap (λ (x : Cache). x.config) c.self.view_is) c.self.invariant.valid) c.args.key c.requires.victim.0 c.args.scan.now c.requires.victim.1 c.pass.new.self c.number.result c.in-Busy.owner (lent_makes c.deref_mut.ensures.value c.pass.ensures.makes)
