use Rattle.std.proofs.Common.{◌≡◌, ℕ, ◌∷◌, ◌++◌, length, sym, ap, ◌∙◌, subst, arith}
use Rattle.turn_table.specs.Places.{Place, kept}
use Rattle.arc_table.specs.declared.view.Known.{Known}
use Rattle.arc_table.specs.Geometry.{parties_of}
use Rattle.trace_run.specs.Opened.{HasJoined}
use Rattle.trace_run.proofs.OpenLemmas.{HeapCell, first-joined, known-at, next-joined, two-opened}
use Rattle.trace_run.proofs.alone.only_party.Goals as goal

pub join-requires-clause-row : goal.join-requires-clause-row
join-requires-clause-row c =
    let two = two-opened c.args.arcs.now c.args.parties.items c.remove-feeder.new.self.items c.remove-party.result c.remove-feeder.result c.requires.one c.requires.opened c.remove-feeder.ensures.value c.remove-feeder.ensures.items c.remove-party.ensures.value in
    (two.0.new.stands.of, two.1.new.stands.of)

pub join-requires-clause-free : goal.join-requires-clause-free
join-requires-clause-free c =
    let two = two-opened c.args.arcs.now c.args.parties.items c.remove-feeder.new.self.items c.remove-party.result c.remove-feeder.result c.requires.one c.requires.opened c.remove-feeder.ensures.value c.remove-feeder.ensures.items c.remove-party.ensures.value in
    (two.0.new.stands.free, two.1.new.stands.free)

pub returns-clause-joined : goal.returns-clause-joined
returns-clause-joined c =
    let two = two-opened c.args.arcs.now c.args.parties.items c.remove-feeder.new.self.items c.remove-party.result c.remove-feeder.result c.requires.one c.requires.opened c.remove-feeder.ensures.value c.remove-feeder.ensures.items c.remove-party.ensures.value in
    let count : parties_of c.args.arcs.now.config ≡ 2 = let one = c.requires.one in omega arith in
    subst (λ (x : ℕ × Place (Known HeapCell)). HasJoined c.args.arcs.now x.0 x.1) (λ i. (sym count i, sym c.join.ensures.joined i))
    (next-joined c.args.arcs.now 1 c.remove-party.result c.remove-feeder.result (first-joined c.args.arcs.now c.remove-party.result two.0) two.1)

-- the feeder's party has joined it, and no other
pub returns-clause-feeder : goal.returns-clause-feeder
returns-clause-feeder c = λ openings known.
    let two = two-opened c.args.arcs.now c.args.parties.items c.remove-feeder.new.self.items c.remove-party.result c.remove-feeder.result c.requires.one c.requires.opened c.remove-feeder.ensures.value c.remove-feeder.ensures.items c.remove-party.ensures.value in
    let o = c.remove-feeder.result in (
      o,
      record {
        number = two.1.number ∙ sym c.requires.one;
        stands = two.1.new.stands;
        knows = known-at openings c.args.parties.items 1 o known (let one = c.requires.one in let count = c.requires.opened.count in omega arith) c.remove-feeder.ensures.value;
        alone = two.1.joined;
        joined = ap (λ (x : Place (Known HeapCell)). x.joined) c.join.ensures.joined
            ∙ (λ i. (kept o.number o.own (length (two.1.joined i)) ∷ two.1.joined i) ++ two.0.joined i);
        only = two.1.new.only.entries;
      },
    )
