use Rattle.std.proofs.Common.{◌≡◌, ℕ, ◌+◌, length, Option, refl, ap, ◌∙◌, subst}
use Rattle.std.specs.Prelude.{Ok, Err}
use Rattle.arc_table.specs.Reading.{outside}
use Rattle.dbuf_state.specs.CellLog.{CellLog}
use Rattle.dbuf_state.specs.declared.fault.DbufFault.TheVariants as fault
use Rattle.dbuf_state.specs.declared.state.Mapped.{Mapped}
use Rattle.dbuf_cells.specs.Accessing.{not_loaded}
use Rattle.dbuf_cells.specs.Loading.{Tests, mapped_in}
use Rattle.dbuf_cells.specs.Patching.{ChecksKey, Writes}
use Rattle.dbuf_cells.specs.Turns.{OnHeap, PartyPlace}
use Rattle.dbuf_cells.specs.declared.kept.Kept.{Kept}
use Rattle.dbuf_cells.proofs.Acts.{brought-may-give, ends-inside, fails-read, inside-now}
use Rattle.dbuf_cells.proofs.Claims.{claims-then, rest-claims}
use Rattle.dbuf_cells.proofs.PartySteps.{as-given, once-at-rest}
use Rattle.dbuf_cells.proofs.Patches.{key-patch, patch-answers, patch-party, patched-claims, patched-number, refuses-patch, sized-in, test-patch}
use Rattle.dbuf_cells.proofs.patching.patch.Goals as goal

pub returns-in-Err-clause-answer : goal.returns-in-Err-clause-answer
returns-in-Err-clause-answer g c =
    let k = c.take_at_rest-cell in
    let i = c.cell_of-i.result in
    let m : c.mapped-mapped.result ≡ mapped_in c.args.at k.result.value.dbufs = c.mapped-mapped.ensures ∙ ap (λ (x : CellLog Kept). mapped_in c.args.at x.dbufs) c.deref.ensures in
    once-at-rest c.args.arcs.now i c.args.at c.args.party.now c.requires.party k.new.party c.give.new.party k.result
    (λ (j : ℕ) (b : OnHeap) (r s : PartyPlace). Writes g.P.Pool g.D.CacheDev c.args.arcs.now.config j c.args.at c.args.tick (outside c.args.pool.now c.args.cache.now) (outside c.args.pool.now c.args.cache.now) {T = Unit {0}} c.args.from c.args.bytes.now b r s (Err c.in-Err.fault)) c.cell_of-i.ensures.cell k.ensures
    (test-patch g.P.Pool g.D.CacheDev c.args.arcs.now i c.args.at c.args.tick (outside c.args.pool.now c.args.cache.now) (outside c.args.pool.now c.args.cache.now) k.result k.ensures.ready c.give.new.party c.args.from c.args.bytes.now c.mapped-mapped.result c.in-Err.fault m (subst (λ (n : ℕ). Tests {T = Unit {0}} c.args.at n c.mapped-mapped.result (Err c.in-Err.fault)) (λ z. c.from.ensures z + length (c.bytes.ensures.shown z)) c.in-Err.ensures) (as-given c.args.arcs.now c.cell_of-i.result k.ensures.ready k.result k.result.value k.new.party k.ensures.begins c.give.new.party c.give.ensures.gives) refl)

pub returns-in-Err-clause-party : goal.returns-in-Err-clause-party
returns-in-Err-clause-party g c =
    let k = c.take_at_rest-cell in
    let i = c.cell_of-i.result in
    (as-given c.args.arcs.now c.cell_of-i.result k.ensures.ready k.result k.result.value k.new.party k.ensures.begins c.give.new.party c.give.ensures.gives).party

pub returns-in-Err-clause-free : goal.returns-in-Err-clause-free
returns-in-Err-clause-free g c =
    let k = c.take_at_rest-cell in
    let i = c.cell_of-i.result in
    (as-given c.args.arcs.now c.cell_of-i.result k.ensures.ready k.result k.result.value k.new.party k.ensures.begins c.give.new.party c.give.ensures.gives).held ∙ (k.ensures.held ∙ c.requires.free)

pub returns-in-Err-check_key-clause-answer : goal.returns-in-Err-check_key-clause-answer
returns-in-Err-check_key-clause-answer g c =
    let k = c.take_at_rest-cell in
    let i = c.cell_of-i.result in
    let m : c.mapped-mapped.result ≡ mapped_in c.args.at k.result.value.dbufs = c.mapped-mapped.ensures ∙ ap (λ (x : CellLog Kept). mapped_in c.args.at x.dbufs) c.deref.ensures in
    once-at-rest c.args.arcs.now i c.args.at c.args.party.now c.requires.party k.new.party c.give-in-Err-check_key.new.party k.result
    (λ (j : ℕ) (b : OnHeap) (r s : PartyPlace). Writes g.P.Pool g.D.CacheDev c.args.arcs.now.config j c.args.at c.args.tick (outside c.args.pool.now c.args.cache.now) (outside c.args.pool.now c.args.cache.now) {T = Unit {0}} c.args.from c.args.bytes.now b r s (Err (fault.Read c.in-Err-check_key.fault))) c.cell_of-i.ensures.cell k.ensures
    (key-patch g.P.Pool g.D.CacheDev c.args.arcs.now i c.args.at c.args.tick (outside c.args.pool.now c.args.cache.now) (outside c.args.pool.now c.args.cache.now) k.result k.ensures.ready c.give-in-Err-check_key.new.party c.args.from c.args.bytes.now c.mapped-mapped.result c.in-Err-check_key.fault m
    (subst (λ (n : ℕ). ChecksKey {T = Unit {0}} n c.mapped-mapped.result (Err c.in-Err-check_key.fault)) c.len.ensures c.in-Err-check_key.ensures) (ends-inside g.P.Pool g.D.CacheDev c.args.arcs.now i c.args.at c.args.tick (outside c.args.pool.now c.args.cache.now) (outside c.args.pool.now c.args.cache.now) k.result k.ensures.ready (c.args.from + length c.args.bytes.now) c.mapped-mapped.result m (subst (λ (n : ℕ). Tests {T = Unit {0}} c.args.at n c.mapped-mapped.result (Ok c.in_default.field-0)) (λ z. c.from.ensures z + length (c.bytes.ensures.shown z)) c.in_default.ensures)) (as-given c.args.arcs.now c.cell_of-i.result k.ensures.ready k.result k.result.value k.new.party k.ensures.begins c.give-in-Err-check_key.new.party c.give-in-Err-check_key.ensures.gives) refl)

pub returns-in-Err-check_key-clause-party : goal.returns-in-Err-check_key-clause-party
returns-in-Err-check_key-clause-party g c =
    let k = c.take_at_rest-cell in
    let i = c.cell_of-i.result in
    (as-given c.args.arcs.now c.cell_of-i.result k.ensures.ready k.result k.result.value k.new.party k.ensures.begins c.give-in-Err-check_key.new.party c.give-in-Err-check_key.ensures.gives).party

pub returns-in-Err-check_key-clause-free : goal.returns-in-Err-check_key-clause-free
returns-in-Err-check_key-clause-free g c =
    let k = c.take_at_rest-cell in
    let i = c.cell_of-i.result in
    (as-given c.args.arcs.now c.cell_of-i.result k.ensures.ready k.result k.result.value k.new.party k.ensures.begins c.give-in-Err-check_key.new.party c.give-in-Err-check_key.ensures.gives).held ∙ (k.ensures.held ∙ c.requires.free)

pub end_patch-requires-clause-hand : goal.end_patch-requires-clause-hand
end_patch-requires-clause-hand g c =
    let k = c.take_at_rest-cell in
    let i = c.cell_of-i.result in
    brought-may-give g.P.Pool g.D.CacheDev c.args.arcs.now i c.args.at c.args.tick (outside c.args.pool.now c.args.cache.now) (outside c.bring.new.pool c.bring.new.cache) k.result k.ensures.ready c.in-Ok.cell c.bring.new.party (c.in-Ok.ensures.brings k.ensures.ready k.ensures.begins (k.ensures.held ∙ c.requires.free) k.ensures.claimed) c.bring.new.party

pub end_patch-requires-clause-cached : goal.end_patch-requires-clause-cached
end_patch-requires-clause-cached g c =
    let k = c.take_at_rest-cell in
    let i = c.cell_of-i.result in
    (c.in-Ok.ensures.brings k.ensures.ready k.ensures.begins (k.ensures.held ∙ c.requires.free) k.ensures.claimed).cached

pub end_patch-requires-clause-sized : goal.end_patch-requires-clause-sized
end_patch-requires-clause-sized g c =
    let k = c.take_at_rest-cell in
    let i = c.cell_of-i.result in
    let m : c.mapped-mapped.result ≡ mapped_in c.args.at k.result.value.dbufs = c.mapped-mapped.ensures ∙ ap (λ (x : CellLog Kept). mapped_in c.args.at x.dbufs) c.deref.ensures in
    sized-in c.args.at c.len.result c.mapped-mapped.result c.in-Ok.cell.value.dbufs k.result.value.dbufs m (c.in-Ok.ensures.brings k.ensures.ready k.ensures.begins (k.ensures.held ∙ c.requires.free) k.ensures.claimed).mapped c.in_default-check_key.ensures

pub end_patch-requires-clause-inside : goal.end_patch-requires-clause-inside
end_patch-requires-clause-inside g c =
    let k = c.take_at_rest-cell in
    let i = c.cell_of-i.result in
    let m : c.mapped-mapped.result ≡ mapped_in c.args.at k.result.value.dbufs = c.mapped-mapped.ensures ∙ ap (λ (x : CellLog Kept). mapped_in c.args.at x.dbufs) c.deref.ensures in
    inside-now c.args.at (c.args.from + length c.args.bytes.now) c.in-Ok.cell.value.dbufs k.result.value.dbufs (c.in-Ok.ensures.brings k.ensures.ready k.ensures.begins (k.ensures.held ∙ c.requires.free) k.ensures.claimed).mapped
    (subst (λ (x : Option Mapped). Tests {T = Unit {0}} c.args.at (c.args.from + length c.args.bytes.now) x (Ok c.in_default.field-0)) m (subst (λ (n : ℕ). Tests {T = Unit {0}} c.args.at n c.mapped-mapped.result (Ok c.in_default.field-0)) (λ z. c.from.ensures z + length (c.bytes.ensures.shown z)) c.in_default.ensures))

pub returns-in-Ok-clause-answer : goal.returns-in-Ok-clause-answer
returns-in-Ok-clause-answer g c =
    let k = c.take_at_rest-cell in
    let i = c.cell_of-i.result in
    let m : c.mapped-mapped.result ≡ mapped_in c.args.at k.result.value.dbufs = c.mapped-mapped.ensures ∙ ap (λ (x : CellLog Kept). mapped_in c.args.at x.dbufs) c.deref.ensures in
    once-at-rest c.args.arcs.now i c.args.at c.args.party.now c.requires.party k.new.party c.end_patch.new.party k.result
    (λ (j : ℕ) (b : OnHeap) (r s : PartyPlace). Writes g.P.Pool g.D.CacheDev c.args.arcs.now.config j c.args.at c.args.tick (outside c.args.pool.now c.args.cache.now) (outside c.bring.new.pool c.bring.new.cache) {T = Unit {0}} c.args.from c.args.bytes.now b r s c.end_patch.result) c.cell_of-i.ensures.cell k.ensures
    (patch-answers g.P.Pool g.D.CacheDev c.args.arcs.now i c.args.at c.args.tick (outside c.args.pool.now c.args.cache.now) (outside c.bring.new.pool c.bring.new.cache) k.result k.ensures.ready c.end_patch.new.party c.args.from c.args.bytes.now c.in-Ok.cell c.bring.new.party (c.in-Ok.ensures.brings k.ensures.ready k.ensures.begins (k.ensures.held ∙ c.requires.free) k.ensures.claimed) c.end_patch.result
    (ends-inside g.P.Pool g.D.CacheDev c.args.arcs.now i c.args.at c.args.tick (outside c.args.pool.now c.args.cache.now) (outside c.bring.new.pool c.bring.new.cache) k.result k.ensures.ready (c.args.from + length c.args.bytes.now) c.mapped-mapped.result m (subst (λ (n : ℕ). Tests {T = Unit {0}} c.args.at n c.mapped-mapped.result (Ok c.in_default.field-0)) (λ z. c.from.ensures z + length (c.bytes.ensures.shown z)) c.in_default.ensures)) c.end_patch.ensures.ok c.end_patch.ensures.err c.end_patch.ensures.why)

pub returns-in-Ok-clause-party : goal.returns-in-Ok-clause-party
returns-in-Ok-clause-party g c =
    let k = c.take_at_rest-cell in
    let i = c.cell_of-i.result in
    (patch-party g.P.Pool g.D.CacheDev c.args.arcs.now i c.args.at c.args.tick (outside c.args.pool.now c.args.cache.now) (outside c.bring.new.pool c.bring.new.cache) k.result k.ensures.ready c.end_patch.new.party c.args.from c.args.bytes.now c.in-Ok.cell c.bring.new.party (c.in-Ok.ensures.brings k.ensures.ready k.ensures.begins (k.ensures.held ∙ c.requires.free) k.ensures.claimed) c.end_patch.result c.end_patch.ensures.ok c.end_patch.ensures.err).0

pub returns-in-Ok-clause-free : goal.returns-in-Ok-clause-free
returns-in-Ok-clause-free g c =
    let k = c.take_at_rest-cell in
    let i = c.cell_of-i.result in
    (patch-party g.P.Pool g.D.CacheDev c.args.arcs.now i c.args.at c.args.tick (outside c.args.pool.now c.args.cache.now) (outside c.bring.new.pool c.bring.new.cache) k.result k.ensures.ready c.end_patch.new.party c.args.from c.args.bytes.now c.in-Ok.cell c.bring.new.party (c.in-Ok.ensures.brings k.ensures.ready k.ensures.begins (k.ensures.held ∙ c.requires.free) k.ensures.claimed) c.end_patch.result c.end_patch.ensures.ok c.end_patch.ensures.err).1

pub returns-in-Err-bring-clause-answer : goal.returns-in-Err-bring-clause-answer
returns-in-Err-bring-clause-answer g c =
    let k = c.take_at_rest-cell in
    let i = c.cell_of-i.result in
    let m : c.mapped-mapped.result ≡ mapped_in c.args.at k.result.value.dbufs = c.mapped-mapped.ensures ∙ ap (λ (x : CellLog Kept). mapped_in c.args.at x.dbufs) c.deref.ensures in
    let f = c.in-Err-bring.ensures.brings k.ensures.ready k.ensures.begins (k.ensures.held ∙ c.requires.free) k.ensures.claimed in
    once-at-rest c.args.arcs.now i c.args.at c.args.party.now c.requires.party k.new.party c.bring.new.party k.result
    (λ (j : ℕ) (b : OnHeap) (r s : PartyPlace). Writes g.P.Pool g.D.CacheDev c.args.arcs.now.config j c.args.at c.args.tick (outside c.args.pool.now c.args.cache.now) (outside c.bring.new.pool c.bring.new.cache) {T = Unit {0}} c.args.from c.args.bytes.now b r s (Err c.in-Err-bring.fault)) c.cell_of-i.ensures.cell k.ensures
    (refuses-patch g.P.Pool g.D.CacheDev c.args.arcs.now i c.args.at c.args.tick (outside c.args.pool.now c.args.cache.now) (outside c.bring.new.pool c.bring.new.cache) k.result k.ensures.ready c.bring.new.party c.args.from c.args.bytes.now c.in-Err-bring.fault
    (fails-read g.P.Pool g.D.CacheDev c.args.arcs.now.config i c.args.at c.args.tick (outside c.args.pool.now c.args.cache.now) (outside c.bring.new.pool c.bring.new.cache) k.result k.ensures.ready c.bring.new.party c.in-Err-bring.fault f.fails) (ends-inside g.P.Pool g.D.CacheDev c.args.arcs.now i c.args.at c.args.tick (outside c.args.pool.now c.args.cache.now) (outside c.bring.new.pool c.bring.new.cache) k.result k.ensures.ready (c.args.from + length c.args.bytes.now) c.mapped-mapped.result m (subst (λ (n : ℕ). Tests {T = Unit {0}} c.args.at n c.mapped-mapped.result (Ok c.in_default.field-0)) (λ z. c.from.ensures z + length (c.bytes.ensures.shown z)) c.in_default.ensures)) (not_loaded f.fails))

pub returns-in-Err-bring-clause-party : goal.returns-in-Err-bring-clause-party
returns-in-Err-bring-clause-party g c =
    let k = c.take_at_rest-cell in
    let i = c.cell_of-i.result in
    (c.in-Err-bring.ensures.brings k.ensures.ready k.ensures.begins (k.ensures.held ∙ c.requires.free) k.ensures.claimed).party

pub returns-in-Err-bring-clause-free : goal.returns-in-Err-bring-clause-free
returns-in-Err-bring-clause-free g c =
    let k = c.take_at_rest-cell in
    let i = c.cell_of-i.result in
    (c.in-Err-bring.ensures.brings k.ensures.ready k.ensures.begins (k.ensures.held ∙ c.requires.free) k.ensures.claimed).held

pub returns-in-Err-clause-claims : goal.returns-in-Err-clause-claims
returns-in-Err-clause-claims g c =
    let k = c.take_at_rest-cell in
    let given = as-given c.args.arcs.now c.cell_of-i.result k.ensures.ready k.result k.result.value k.new.party k.ensures.begins c.give.new.party c.give.ensures.gives in
    rest-claims c.args.arcs.now c.cell_of-i.result c.args.at c.args.party.now k.result k.new.party k.ensures k.result.value c.give.new.party (λ n. refl) c.give.ensures.claims given.number given.others

pub returns-in-Err-check_key-clause-claims : goal.returns-in-Err-check_key-clause-claims
returns-in-Err-check_key-clause-claims g c =
    let k = c.take_at_rest-cell in
    let given = as-given c.args.arcs.now c.cell_of-i.result k.ensures.ready k.result k.result.value k.new.party k.ensures.begins c.give-in-Err-check_key.new.party c.give-in-Err-check_key.ensures.gives in
    rest-claims c.args.arcs.now c.cell_of-i.result c.args.at c.args.party.now k.result k.new.party k.ensures k.result.value c.give-in-Err-check_key.new.party (λ n. refl) c.give-in-Err-check_key.ensures.claims given.number given.others

pub returns-in-Ok-clause-claims : goal.returns-in-Ok-clause-claims
returns-in-Ok-clause-claims g c =
    let k = c.take_at_rest-cell in
    claims-then c.args.party.now k.ensures.ready c.end_patch.new.party k.ensures.claims
    (patched-claims g.P.Pool g.D.CacheDev c.args.arcs.now c.cell_of-i.result c.args.at c.args.tick (outside c.args.pool.now c.args.cache.now) (outside c.bring.new.pool c.bring.new.cache) k.result k.ensures.ready c.end_patch.new.party c.args.from c.args.bytes.now c.in-Ok.cell c.bring.new.party
    (c.in-Ok.ensures.brings k.ensures.ready k.ensures.begins (k.ensures.held ∙ c.requires.free) k.ensures.claimed) c.end_patch.ensures.claims c.end_patch.result c.end_patch.ensures.ok c.end_patch.ensures.err)

pub returns-in-Err-bring-clause-claims : goal.returns-in-Err-bring-clause-claims
returns-in-Err-bring-clause-claims g c =
    let k = c.take_at_rest-cell in
    claims-then c.args.party.now k.ensures.ready c.bring.new.party k.ensures.claims (c.in-Err-bring.ensures.brings k.ensures.ready k.ensures.begins (k.ensures.held ∙ c.requires.free) k.ensures.claimed).claims

pub returns-in-Err-clause-number : goal.returns-in-Err-clause-number
returns-in-Err-clause-number g c =
    let k = c.take_at_rest-cell in
    let i = c.cell_of-i.result in
    (as-given c.args.arcs.now c.cell_of-i.result k.ensures.ready k.result k.result.value k.new.party k.ensures.begins c.give.new.party c.give.ensures.gives).number ∙ k.ensures.number

pub returns-in-Err-check_key-clause-number : goal.returns-in-Err-check_key-clause-number
returns-in-Err-check_key-clause-number g c =
    let k = c.take_at_rest-cell in
    let i = c.cell_of-i.result in
    (as-given c.args.arcs.now c.cell_of-i.result k.ensures.ready k.result k.result.value k.new.party k.ensures.begins c.give-in-Err-check_key.new.party c.give-in-Err-check_key.ensures.gives).number ∙ k.ensures.number

pub returns-in-Err-bring-clause-number : goal.returns-in-Err-bring-clause-number
returns-in-Err-bring-clause-number g c =
    let k = c.take_at_rest-cell in
    let i = c.cell_of-i.result in
    (c.in-Err-bring.ensures.brings k.ensures.ready k.ensures.begins (k.ensures.held ∙ c.requires.free) k.ensures.claimed).number ∙ k.ensures.number

pub returns-in-Ok-clause-number : goal.returns-in-Ok-clause-number
returns-in-Ok-clause-number g c =
    let k = c.take_at_rest-cell in
    patched-number g.P.Pool g.D.CacheDev c.args.arcs.now c.cell_of-i.result c.args.at c.args.tick (outside c.args.pool.now c.args.cache.now) (outside c.bring.new.pool c.bring.new.cache) k.result k.ensures.ready c.end_patch.new.party c.args.from c.args.bytes.now c.in-Ok.cell c.bring.new.party
    (c.in-Ok.ensures.brings k.ensures.ready k.ensures.begins (k.ensures.held ∙ c.requires.free) k.ensures.claimed) c.end_patch.result c.end_patch.ensures.ok c.end_patch.ensures.err ∙ k.ensures.number
