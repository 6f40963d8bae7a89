use Rattle.std.proofs.Common.{◌≡◌, ◌++◌, ◌+◌, ◌≤◌, ℕ, ◌<◌, length, vec_len, vec_capacity, sym, ap, ◌∙◌, subst, arith}
use Rattle.arc_table.specs.Cache.{Cache}
use Rattle.arc_table.specs.Ended.{AreAtRest, Ends, cells_in, shards_in}
use Rattle.arc_table.specs.Geometry.{parties_of, turns_of}
use Rattle.arc_table.specs.Items.{Meanings}
use Rattle.arc_table.proofs.Ends.{AreAll, rest_free, values_are, shards_long, ends}
use Rattle.arc_table.proofs.arcs.Arcs.close.Goals as goal

pub close-requires-clause-free : goal.close-requires-clause-free
close-requires-clause-free g c =
    let cache : Cache = record { row = c.self.inside.turns; config = c.self.inside.config } in
    rest_free cache c.args.parties.items (subst (λ (k : Cache). AreAtRest k c.args.parties.items) (sym c.self.view_is) c.requires.rest)

pub close-requires-clause-all : goal.close-requires-clause-all
close-requires-clause-all g c = λ n below. c.requires.all n (subst (λ (k : Cache). n < parties_of k.config) c.self.view_is (subst (λ (z : ℕ). n < z) c.self.invariant.parties below))

pub sort_out-requires-clause-cells : goal.sort_out-requires-clause-cells
sort_out-requires-clause-cells g c =
    let cache : Cache = record { row = c.self.inside.turns; config = c.self.inside.config } in
    let e = c.in-Ok.ensures in
    let m : Meanings g.row.C.Denot = g.C.Keeps in
    let long : length c.in-Ok.values.items ≡ turns_of c.self.inside.config = let a = e.0 in let b = c.in-Ok.values.ok.0 in let d = c.self.invariant.turns in omega arith in
    let all : AreAll {C = g.row.C.Denot} c.self.inside.config 0 c.in-Ok.values.items =
    values_are m cache c.in-Ok.values.items e.1.0 c.args.parties.items e.1.3 (subst (λ (k : Cache). AreAtRest k c.args.parties.items) (sym c.self.view_is) c.requires.rest) (c.requires.all 0 (omega arith)) e.1.2 long in
    let count : length (cells_in c.in-Ok.values.items) ≡ c.self.inside.config.cells = let n = all.cells in omega arith in
    let a = c.in_ok-cells.ensures.len in
    let b = c.in_ok-cells.ensures.capacity in
    let room : vec_len c.in_ok-cells.cells + length (cells_in c.in-Ok.values.items) ≤ vec_capacity c.in_ok-cells.cells = omega arith in
    room

pub sort_out-requires-clause-shards : goal.sort_out-requires-clause-shards
sort_out-requires-clause-shards g c =
    let cache : Cache = record { row = c.self.inside.turns; config = c.self.inside.config } in
    let e = c.in-Ok.ensures in
    let m : Meanings g.row.C.Denot = g.C.Keeps in
    let long : length c.in-Ok.values.items ≡ turns_of c.self.inside.config = let a = e.0 in let b = c.in-Ok.values.ok.0 in let d = c.self.invariant.turns in omega arith in
    let all : AreAll {C = g.row.C.Denot} c.self.inside.config 0 c.in-Ok.values.items =
    values_are m cache c.in-Ok.values.items e.1.0 c.args.parties.items e.1.3 (subst (λ (k : Cache). AreAtRest k c.args.parties.items) (sym c.self.view_is) c.requires.rest) (c.requires.all 0 (omega arith)) e.1.2 long in
    let count : length (shards_in c.in-Ok.values.items) ≡ c.self.inside.config.shards = shards_long c.self.inside.config c.in-Ok.values.items all long in
    let a = c.in_ok-shards.ensures.len in
    let b = c.in_ok-shards.ensures.capacity in
    let room : vec_len c.in_ok-shards.shards + length (shards_in c.in-Ok.values.items) ≤ vec_capacity c.in_ok-shards.shards = omega arith in
    room

pub returns : goal.returns
returns g c =
    let cache : Cache = record { row = c.self.inside.turns; config = c.self.inside.config } in
    let e = c.in-Ok.ensures in
    let m : Meanings g.row.C.Denot = g.C.Keeps in
    let cells : c.sort_out.new.cells.items ≡ cells_in c.in-Ok.values.items = c.sort_out.ensures.cells ∙ ap (λ l. l ++ cells_in c.in-Ok.values.items) c.in_ok-cells.ensures.items in
    let counted : c.in_ok-shards-2.shards.value ≡ c.sort_out.new.shards = c.in_ok-shards-2.ensures.ok in
    let shards : c.in_ok-shards-2.shards.value.items ≡ shards_in c.in-Ok.values.items = ap (λ v. v.items) counted ∙ c.sort_out.ensures.shards ∙ ap (λ l. l ++ shards_in c.in-Ok.values.items) c.in_ok-shards.ensures.items in
    subst (λ (k : Cache). Ends m k c.args.parties.items record { config = c.self.inside.config; shards = c.in_ok-shards-2.shards.value.items; cells = c.sort_out.new.cells.items }) c.self.view_is
    (ends m cache c.in-Ok.values.items e.1.0 c.args.parties.items e.1.3 (subst (λ (k : Cache). AreAtRest k c.args.parties.items) (sym c.self.view_is) c.requires.rest) (c.requires.all 0 (omega arith)) e.1.2
    (let a = e.0 in let b = c.in-Ok.values.ok.0 in let d = c.self.invariant.turns in omega arith) (e.1.1 ∙ c.self.invariant.parties) c.sort_out.new.cells.items c.in_ok-shards-2.shards.value.items cells shards)
