use Rattle.std.proofs.Common.{map, Option, is_some, refl, sym, ap, ◌∙◌, subst}
use Rattle.std.specs.Prelude.{option_and_then}
use Rattle.trace_run.specs.KeptReads.{KeptRead}
use Rattle.trace_run.specs.KeptBlocks.{Drops, Stands, read_of}
use Rattle.trace_run.proofs.KeptBlockLemmas.{given-drops}
use Rattle.trace_run.proofs.KeptQueueLemmas.{not-kept, oldest-taken}
use Rattle.trace_run.proofs.kept_blocks.give_back_oldest.Goals as goal

pub returns-in_default-clause-found : goal.returns-in_default-clause-found
returns-in_default-clause-found g c = sym (ap is_some (not-kept c.args.block c.args.kept.now c.in_default.ensures.0).0)

pub returns-in_default-clause-kept : goal.returns-in_default-clause-kept
returns-in_default-clause-kept g c = ap (map read_of) c.in_default.ensures.1 ∙ sym (not-kept c.args.block c.args.kept.now c.in_default.ensures.0).1

pub returns-in_default-clause-drops : goal.returns-in_default-clause-drops
returns-in_default-clause-drops g c =
    subst (λ (o : Option KeptRead). Drops c.args.arcs.now.config (option_and_then (λ (read : KeptRead). read.held) o) c.args.party.now c.args.party.now)
    (sym (not-kept c.args.block c.args.kept.now c.in_default.ensures.0).0) refl

pub give_back-requires : goal.give_back-requires
give_back-requires g c =
    let t = c.in-Some.ensures in
    (t.front, t.rest, subst (Stands c.args.arcs.now c.args.party.now) t.before c.requires)

pub returns-clause-stands : goal.returns-clause-stands
returns-clause-stands g c =
    let t = c.in-Some.ensures in
    subst (Stands c.args.arcs.now c.give_back.new.party) (sym t.after) (c.give_back.ensures.stands t.front t.rest (subst (Stands c.args.arcs.now c.args.party.now) t.before c.requires))

pub returns-clause-found : goal.returns-clause-found
returns-clause-found g c = sym (ap is_some (oldest-taken c.args.block c.in-Some.read c.args.kept.now c.take_oldest.new.self c.in-Some.ensures).0)

pub returns-clause-kept : goal.returns-clause-kept
returns-clause-kept g c = (oldest-taken c.args.block c.in-Some.read c.args.kept.now c.take_oldest.new.self c.in-Some.ensures).1

pub returns-clause-drops : goal.returns-clause-drops
returns-clause-drops g c =
    let m = g.C.Keeps in
    let read = c.in-Some.read in
    let t = c.in-Some.ensures in
    subst (λ (o : Option KeptRead). Drops c.args.arcs.now.config (option_and_then (λ (r : KeptRead). r.held) o) c.args.party.now c.give_back.new.party)
    (sym (oldest-taken c.args.block read c.args.kept.now c.take_oldest.new.self t).0)
    (given-drops m c.args.arcs.now c.args.party.now c.give_back.new.party t.front t.rest read (subst (Stands c.args.arcs.now c.args.party.now) t.before c.requires) read.kept refl c.give_back.ensures.gives)
