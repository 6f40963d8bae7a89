use Rattle.std.proofs.Common.{◌≡◌, ◌++◌, ◌∷◌, ℕ, [], List, refl, ap, subst, append-nil}
use Rattle.std.specs.List.{AllByRecursion}
use Rattle.blk_ptr.specs.declared.ptr.Ptr.{Ptr}
use Rattle.blk_ptr.specs.Hash.{shard_of}
use Rattle.arc_core.specs.Operations.{Reads}
use Rattle.turn_table.specs.Places.{Place}
use Rattle.arc_table.specs.declared.view.Known.{Known}
use Rattle.arc_table.specs.Cache.{Cache}
use Rattle.arc_table.specs.Items.{Meanings}
use Rattle.trace_run.specs.declared.get.Got.{Got}
use Rattle.trace_run.specs.declared.kept_blocks.KeptBlock.{KeptBlock}
use Rattle.trace_run.specs.one_caller.Access.{events_of_answered, events_of_drop, held_by_access as access_key}
use Rattle.trace_run.specs.KeptBlocks.{GivesKeptBack, IsOwnedBy, Stands, read_of}
use Rattle.trace_run.specs.one_caller.OneCaller.{key_held_by}
use Rattle.trace_run.specs.KeptReads.{KeptRead, kept_read}
use Rattle.trace_run.specs.Reads.{DidActs, DidAnswer, access_now, now_of}
use Rattle.trace_run.proofs.DeviceReadLemmas.{refused-asks}
use Rattle.trace_run.proofs.LineLemmas.{acts-none, read-given, read-refused}
use Rattle.trace_run.proofs.one_caller.AskingLemmas.{asks-nothing, asks-refused, device-same}
use Rattle.trace_run.proofs.lines.read_line.Goals as goal

owned-last : {X : Type 0} (P : X → Type 0) (xs : List X) (x : X) → AllByRecursion P (xs ++ x ∷ []) → P x
owned-last P [] x all = all.0
owned-last P (y ∷ ys) x all = owned-last P ys x all.1

-- a read that was got is given back
given-did : {C : Type 0} (m : Meanings C) (cache : Cache) (t block : ℕ) (ptr : Ptr) (got : Got) (p r q : Place (Known C)) (kept : List KeptBlock) → Stands cache r (kept ++ got.read ∷ [])
    → DidAnswer cache.config t ptr got.served p r → read_of got.read ≡ kept_read block (key_held_by ptr got.served) → GivesKeptBack m cache.config got.read.kept r q
    → DidActs cache.config (shard_of cache.config.shards ptr.key) (Reads p.number t ptr got.served ∷ [])
    (events_of_answered p.number t ptr got.served (access_now cache.config ptr p) ++ events_of_drop p.number (access_key ptr (access_now cache.config ptr p))) p q
given-did m cache t block ptr got p r q kept stands did is gives =
    read-given m cache.config stands.valid t ptr p r q stands.of.config stands.seen got.served got.read.kept (owned-last (λ b. IsOwnedBy r.number b.kept) kept got.read stands.owned)
    (ap (λ (k : KeptRead). k.held) is) did gives

pub returns-then-end-size-clause-did : goal.returns-then-end-size-clause-did
returns-then-end-size-clause-did g c = acts-none c.args.arcs.now.config c.args.party.now c.args.party.now (shard_of c.args.arcs.now.config.shards c.args.ptr.now.key) refl

pub returns-in_ok-shown-in-Ok-clause-stands : goal.returns-in_ok-shown-in-Ok-clause-stands
returns-in_ok-shown-in-Ok-clause-stands g c = λ kept stands. subst (λ (l : List KeptBlock). Stands c.args.arcs.now c.give_back.new.party l) (append-nil kept) (c.give_back.ensures.stands kept [] (c.in-Ok.ensures.stands kept stands))

pub returns-in_ok-shown-in-Ok-clause-did : goal.returns-in_ok-shown-in-Ok-clause-did
returns-in_ok-shown-in-Ok-clause-did g c =
    given-did g.C.Keeps c.args.arcs.now c.args.t c.args.block c.args.ptr.now c.in-Ok.field-0
    c.args.party.now c.get.new.party c.give_back.new.party c.requires.0 (c.in-Ok.ensures.stands c.requires.0 c.requires.1) c.in-Ok.ensures.did c.in-Ok.ensures.got.kept c.give_back.ensures.gives

pub returns-in_ok-refusal_of-in-Err-clause-did : goal.returns-in_ok-refusal_of-in-Err-clause-did
returns-in_ok-refusal_of-in-Err-clause-did g c =
    read-refused c.args.arcs.now.config c.args.party.now c.get.new.party c.args.t c.args.ptr.now c.in-Err.fault c.in_ok-refusal_of-in-Err.field-0
    c.in_ok-refusal_of-in-Err.ensures.ok c.in-Err.ensures.did

pub returns-then-end-size-clause-asks : goal.returns-then-end-size-clause-asks
returns-then-end-size-clause-asks g c = λ all.
    asks-nothing g.D.CacheDev (now_of c.args.arcs.now.config (shard_of c.args.arcs.now.config.shards c.args.ptr.now.key) c.args.party.now) c.args.ptr.now c.args.device.now c.args.device.now refl

pub returns-then-end-size-clause-keeps : goal.returns-then-end-size-clause-keeps
returns-then-end-size-clause-keeps g c = device-same g.D.CacheDev c.args.device.now

pub returns-in_ok-refusal_of-in-Err-clause-asks : goal.returns-in_ok-refusal_of-in-Err-clause-asks
returns-in_ok-refusal_of-in-Err-clause-asks g c = λ all.
    asks-refused g.D.CacheDev (now_of c.args.arcs.now.config (shard_of c.args.arcs.now.config.shards c.args.ptr.now.key) c.args.party.now) c.args.ptr.now c.args.device.now c.get.new.device c.in-Err.fault c.in_ok-refusal_of-in-Err.field-0
    c.in_ok-refusal_of-in-Err.ensures.ok (c.in-Err.ensures.asks all)

pub returns-in_ok-refusal_of-in-Err-clause-asked : goal.returns-in_ok-refusal_of-in-Err-clause-asked
returns-in_ok-refusal_of-in-Err-clause-asked g c =
    refused-asks g.D.CacheDev c.args.ptr.now.key.size c.in-Err.fault c.in_ok-refusal_of-in-Err.field-0 c.args.device.now c.get.new.device c.in_ok-refusal_of-in-Err.ensures.ok c.in-Err.ensures.asked
