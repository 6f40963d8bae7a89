use Rattle.std.proofs.Common.{◌≡◌, List, [], ◌∷◌, refl, sym, subst}
use Rattle.arc_table.specs.Items.{Meanings}
use Rattle.trace_run.specs.declared.kept_blocks.KeptBlock.{KeptBlock}
use Rattle.trace_run.specs.KeptBlocks.{GivesAll, Stands}
use Rattle.trace_run.proofs.GiveLemmas.{all-alone, all-stand, all-told}
use Rattle.trace_run.proofs.kept_blocks.give_back_all.Goals as goal

pub loop-read-init : goal.loop-read-init
loop-read-init g c = record { stands = c.requires; gives = λ q gives. gives }

pub give_back-requires : goal.give_back-requires
give_back-requires g c = ([], c.pop_oldest.new.self, subst (Stands c.args.arcs.now c.loop-read.party) c.in-Some.ensures c.loop-read.invariant.stands)

pub loop-read-preserved : goal.loop-read-preserved
loop-read-preserved g c =
    let m : Meanings g.row.C.Denot = g.C.Keeps in
    let before = c.loop-read.invariant in
    let rest : List KeptBlock = c.pop_oldest.new.self in
    let is : c.loop-read.kept ≡ c.in-Some.read ∷ rest = c.in-Some.ensures in
    record {
      stands = c.give_back.ensures.stands [] rest (subst (Stands c.args.arcs.now c.loop-read.party) is before.stands);
      gives = λ q gives. before.gives q (subst (λ (l : List KeptBlock). GivesAll m c.args.arcs.now.config l c.loop-read.party q) (sym is) (c.give_back.new.party, c.give_back.ensures.gives, gives));
    }

pub returns-clause-stands : goal.returns-clause-stands
returns-clause-stands g c =
    let m : Meanings g.row.C.Denot = g.C.Keeps in
    let gave : GivesAll m c.args.arcs.now.config c.args.kept c.args.party.now c.loop-read.party =
    c.loop-read.invariant.gives c.loop-read.party (subst (λ (l : List KeptBlock). GivesAll m c.args.arcs.now.config l c.loop-read.party c.loop-read.party) (sym c.in_default.ensures.0) refl) in
    all-stand m c.args.arcs.now c.args.kept c.args.party.now c.loop-read.party c.requires gave

pub returns-clause-gives : goal.returns-clause-gives
returns-clause-gives g c =
    let m : Meanings g.row.C.Denot = g.C.Keeps in
    let gave : GivesAll m c.args.arcs.now.config c.args.kept c.args.party.now c.loop-read.party =
    c.loop-read.invariant.gives c.loop-read.party (subst (λ (l : List KeptBlock). GivesAll m c.args.arcs.now.config l c.loop-read.party c.loop-read.party) (sym c.in_default.ensures.0) refl) in
    gave

pub returns-clause-told : goal.returns-clause-told
returns-clause-told g c =
    let m : Meanings g.row.C.Denot = g.C.Keeps in
    let gave : GivesAll m c.args.arcs.now.config c.args.kept c.args.party.now c.loop-read.party =
    c.loop-read.invariant.gives c.loop-read.party (subst (λ (l : List KeptBlock). GivesAll m c.args.arcs.now.config l c.loop-read.party c.loop-read.party) (sym c.in_default.ensures.0) refl) in
    all-told m c.args.arcs.now c.args.kept c.args.party.now c.loop-read.party c.requires gave

pub returns-clause-alone : goal.returns-clause-alone
returns-clause-alone g c =
    let m : Meanings g.row.C.Denot = g.C.Keeps in
    let gave : GivesAll m c.args.arcs.now.config c.args.kept c.args.party.now c.loop-read.party =
    c.loop-read.invariant.gives c.loop-read.party (subst (λ (l : List KeptBlock). GivesAll m c.args.arcs.now.config l c.loop-read.party c.loop-read.party) (sym c.in_default.ensures.0) refl) in
    all-alone m c.args.arcs.now c.args.kept c.args.party.now c.loop-read.party c.requires gave
