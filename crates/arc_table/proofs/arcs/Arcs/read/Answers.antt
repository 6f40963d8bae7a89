use Rattle.std.proofs.Common.{ℕ, zero, suc, refl, sym, ap, ◌∙◌, subst, arith}
use Rattle.blk_ptr.specs.declared.key.Key.{Key}
use Rattle.blk_ptr.specs.declared.key.KeyFault.{KeyFault}
use Rattle.blk_ptr.specs.declared.key.KeyFault.TheVariants as fault
use Rattle.blk_ptr.specs.Key.{IsFirstKeyFault, IsValid}
use Rattle.arc_core.specs.declared.config.Config.{Config}
use Rattle.turn_table.specs.Board.{IsAmong}
use Rattle.turn_table.specs.Places.{Place}
use Rattle.arc_table.specs.declared.view.Known.{Known}
use Rattle.arc_table.specs.Items.{Meanings}
use Rattle.vdev_io.specs.Calls.{KeepsPool}
use Rattle.arc_table.specs.Reading.{Answers, FindsReading, KeepsDevice, Outside, Waits, answered, outside, refused}
use Rattle.arc_table.proofs.reads.Readers.{waits_not}
use Rattle.arc_table.proofs.arcs.Arcs.read.Goals as goal

-- a key that fails a test is not valid
not_valid : (len : ℕ) (k : Key) (why : KeyFault) → IsFirstKeyFault len k why → IsValid len k → ⊥
not_valid len k (fault.Unaligned) first valid = first valid.formed.aligned
not_valid len k (fault.Size) first valid = first.1 valid.formed.sized
not_valid len k (fault.OutOfPool end n) first valid = let a = first.4 in let b = valid.inside in omega arith
not_valid len k (fault.BirthZero) first valid = let a = first.3 in let b = valid.formed.born in omega arith

-- a round in which the key was being read, and then rounds more, are one round more
waits_first : {C : Type 0} (m : Meanings C) (g : Config) (k : Key) (p q : Place (Known C)) → FindsReading m g k p q → (times : ℕ) (r : Place (Known C)) → Waits m g k times q r → Waits m g k (suc times) p r
waits_first m g k p q first zero r w = (p, refl, subst (FindsReading m g k p) (sym w) first)
waits_first m g k p q first (suc times) r w = (w.0, waits_first m g k p q first times w.0 w.1, w.2)

pub returns-in-Err-clause-answer : goal.returns-in-Err-clause-answer
returns-in-Err-clause-answer g c = refused c.in-Err.fault refl (subst (λ (n : ℕ). IsFirstKeyFault n c.args.ptr.now.key c.in-Err.fault) c.len.ensures c.in-Err.ensures.valid) refl refl

pub returns-in-Err-clause-alone : goal.returns-in-Err-clause-alone
returns-in-Err-clause-alone g c none valid =
    absurd (not_valid (g.P.Pool.size c.args.pool.now) c.args.ptr.now.key c.in-Err.fault (subst (λ (n : ℕ). IsFirstKeyFault n c.args.ptr.now.key c.in-Err.fault) c.len.ensures c.in-Err.ensures.valid) valid)

pub read_round-requires-clause-valid : goal.read_round-requires-clause-valid
read_round-requires-clause-valid g c κs within = subst (λ (n : ℕ). IsValid n c.args.ptr.now.key) c.len.ensures c.in_default.ensures.valid.1

pub returns-in-Answered-clause-answer : goal.returns-in-Answered-clause-answer
returns-in-Answered-clause-answer g c =
    answered (subst (λ (n : ℕ). IsValid n c.args.ptr.now.key) c.len.ensures c.in_default.ensures.valid.1) 0 c.args.party.now refl c.in-Answered.ensures.answer

pub returns-in-Answered-clause-alone : goal.returns-in-Answered-clause-alone
returns-in-Answered-clause-alone g c none valid = c.in-Answered.ensures.answer

pub read_later-requires-clause-party : goal.read_later-requires-clause-party
read_later-requires-clause-party g c κs within = c.in-Reading.ensures.party

pub read_later-requires-clause-look : goal.read_later-requires-clause-look
read_later-requires-clause-look g c κs within = λ i among. c.requires.look i (subst (IsAmong i) c.in-Reading.ensures.held among)

pub read_later-requires-clause-valid : goal.read_later-requires-clause-valid
read_later-requires-clause-valid g c κs within =
    subst (λ (n : ℕ). IsValid n c.args.ptr.now.key) (c.len.ensures ∙ ap g.P.Pool.size (sym (ap (λ (x : Outside g.row.P.Denot g.row.D.Denot). x.pool) c.in-Reading.ensures.answer.1))) c.in_default.ensures.valid.1

pub returns-in-Reading-clause-answer : goal.returns-in-Reading-clause-answer
returns-in-Reading-clause-answer g c =
    let m = g.C.Keeps in
    let first = c.in-Reading.ensures.answer in
    let later = c.read_later.ensures.answer in
    answered (subst (λ (n : ℕ). IsValid n c.args.ptr.now.key) c.len.ensures c.in_default.ensures.valid.1)
    (suc later.0) later.1 (waits_first m c.args.self.now.config c.args.ptr.now.key c.args.party.now c.read_round.new.party first.0 later.0 later.1 later.2)
    (subst (λ (x : Outside g.row.P.Denot g.row.D.Denot). Answers m g.P.Pool g.D.CacheDev c.args.self.now.config c.args.ptr.now c.args.tick x (outside c.read_later.new.pool c.read_later.new.cache) later.1 c.read_later.new.party c.read_later.result) first.1 later.3)

pub returns-in-Reading-clause-alone : goal.returns-in-Reading-clause-alone
returns-in-Reading-clause-alone g c none valid =
    let m = g.C.Keeps in
    let first = c.in-Reading.ensures.answer in
    let later = c.read_later.ensures.answer in
    let same = waits_not m c.args.self.now.config none.valid c.args.ptr.now.key c.args.party.now c.requires.party.config none (suc later.0) later.1
    (waits_first m c.args.self.now.config c.args.ptr.now.key c.args.party.now c.read_round.new.party first.0 later.0 later.1 later.2) in
    subst (λ (x : Place (Known g.row.C.Denot)). Answers m g.P.Pool g.D.CacheDev c.args.self.now.config c.args.ptr.now c.args.tick (outside c.args.pool.now c.args.cache.now) (outside c.read_later.new.pool c.read_later.new.cache) x c.read_later.new.party c.read_later.result) same
    (subst (λ (x : Outside g.row.P.Denot g.row.D.Denot). Answers m g.P.Pool g.D.CacheDev c.args.self.now.config c.args.ptr.now c.args.tick x (outside c.read_later.new.pool c.read_later.new.cache) later.1 c.read_later.new.party c.read_later.result) first.1 later.3)

pub returns-in-Reading-clause-held : goal.returns-in-Reading-clause-held
returns-in-Reading-clause-held g c = c.read_later.ensures.held ∙ c.in-Reading.ensures.held

pub returns-in-Reading-clause-pool : goal.returns-in-Reading-clause-pool
returns-in-Reading-clause-pool g c =
    subst (λ (x : g.row.P.Denot). KeepsPool g.P.Pool x c.read_later.new.pool) (ap (λ (x : Outside g.row.P.Denot g.row.D.Denot). x.pool) c.in-Reading.ensures.answer.1) c.read_later.ensures.pool

pub returns-in-Reading-clause-cache : goal.returns-in-Reading-clause-cache
returns-in-Reading-clause-cache g c =
    subst (λ (x : g.row.D.Denot). KeepsDevice g.D.CacheDev x c.read_later.new.cache) (ap (λ (x : Outside g.row.P.Denot g.row.D.Denot). x.device) c.in-Reading.ensures.answer.1) c.read_later.ensures.cache
