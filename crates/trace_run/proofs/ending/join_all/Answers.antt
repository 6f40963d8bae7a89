use Rattle.std.proofs.Common.{rules, ◌≡◌, ◌∷◌, ◌++◌, [], List, refl, sym, subst}
use Rattle.std.specs.List.{AllByRecursion}
use Rattle.turn_table.specs.Places.{Place}
use Rattle.arc_table.specs.declared.view.Known.{Known}
use Rattle.arc_table.specs.Items.{Meanings}
use Rattle.arc_table.proofs.Ends.{nothing_left}
use Rattle.trace_run.specs.Meeting.{JoinAll, MayJoin, MayPart}
use Rattle.trace_run.proofs.callers.MeetLemmas.{all-before, joins-first}
use Rattle.trace_run.proofs.ending.join_all.Goals as goal

pub loop-other-init : goal.loop-other-init
loop-other-init g c = record { party = (c.requires.party.of, c.requires.party.free); others = c.requires.others; joins = λ q joins. joins }

pub join-requires-clause-row : goal.join-requires-clause-row
join-requires-clause-row g c =
    let before = c.loop-other.invariant in
    let all = all-before (MayJoin c.args.arcs.now) c.pop.new.self.items c.in-Some.other (subst (AllByRecursion (MayJoin c.args.arcs.now)) c.in-Some.ensures.items before.others) in
    (before.party.0, all.1.of)

pub join-requires-clause-free : goal.join-requires-clause-free
join-requires-clause-free g c =
    let before = c.loop-other.invariant in
    let all = all-before (MayJoin c.args.arcs.now) c.pop.new.self.items c.in-Some.other (subst (AllByRecursion (MayJoin c.args.arcs.now)) c.in-Some.ensures.items before.others) in
    (before.party.1, all.1.free)

pub loop-other-preserved : goal.loop-other-preserved
loop-other-preserved g c =
    let m : Meanings g.row.C.Denot = g.C.Keeps in
    let before = c.loop-other.invariant in
    let rest : List (Place (Known g.row.C.Denot)) = c.pop.new.self.items in
    let is : c.loop-other.others.items ≡ rest ++ c.in-Some.other ∷ [] = c.in-Some.ensures.items in
    record {
      party = subst (MayPart c.args.arcs.now) (sym c.join.ensures.joined) (record { row = before.party.0.row; config = before.party.0.config }, before.party.1);
      others = (all-before (MayJoin c.args.arcs.now) rest c.in-Some.other (subst (AllByRecursion (MayJoin c.args.arcs.now)) is before.others)).0;
      joins = λ q joins. before.joins q (subst (λ (l : List (Place (Known g.row.C.Denot))). JoinAll m l c.loop-other.party q) (sym is)
          (joins-first m rest c.in-Some.other c.loop-other.party c.join.new.party q (record { moment = c.join.ensures.moment; is = c.join.ensures.joined }) joins));
    }

pub returns : goal.returns
returns g c =
    let m : Meanings g.row.C.Denot = g.C.Keeps in
    let none : c.loop-other.others.items ≡ [] = nothing_left c.loop-other.others.items (search rules) in
    c.loop-other.invariant.joins c.loop-other.party (subst (λ (l : List (Place (Known g.row.C.Denot))). JoinAll m l c.loop-other.party c.loop-other.party) (sym none) refl)
