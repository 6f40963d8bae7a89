use Rattle.std.proofs.Common.{◌≡◌, ℕ, refl, ap, ◌∙◌}
use Rattle.std.specs.Prelude.{Err}
use Rattle.arc_table.specs.Reading.{outside}
use Rattle.dbuf_state.specs.CellLog.{CellLog}
use Rattle.dbuf_state.specs.declared.event.CellEvent.TheVariants.{Pin}
use Rattle.dbuf_cells.specs.Accessing.{Holds, not_loaded}
use Rattle.dbuf_cells.specs.Loading.{mapped_in}
use Rattle.dbuf_cells.specs.Turns.{OnHeap, PartyPlace}
use Rattle.dbuf_cells.specs.declared.kept.Kept.{Kept}
use Rattle.dbuf_cells.proofs.Acts.{brought-may-give, ended-claims, ended-number, ends-inside, fails-read, hold-answers, party-after, refuses-hold, test-hold}
use Rattle.dbuf_cells.proofs.Claims.{claims-then, rest-claims}
use Rattle.dbuf_cells.proofs.PartySteps.{as-given, once-at-rest}
use Rattle.dbuf_cells.proofs.getting.hold.Goals as goal

pub returns-in-Err-clause-answer : goal.returns-in-Err-clause-answer
returns-in-Err-clause-answer g c =
    let k = c.take_at_rest-cell in
    let i = c.cell_of-i.result in
    let m : c.mapped.result ≡ mapped_in c.args.at k.result.value.dbufs = c.mapped.ensures ∙ ap (λ (x : CellLog Kept). mapped_in c.args.at x.dbufs) c.deref.ensures in
    let given = as-given c.args.arcs.now i k.ensures.ready k.result k.result.value k.new.party k.ensures.begins c.give.new.party c.give.ensures.gives in
    once-at-rest c.args.arcs.now i c.args.at c.args.party.now c.requires.party k.new.party c.give.new.party k.result
    (λ (j : ℕ) (b : OnHeap) (r s : PartyPlace). Holds g.P.Pool g.D.CacheDev c.args.arcs.now.config j c.args.at c.args.tick (outside c.args.pool.now c.args.cache.now) (outside c.args.pool.now c.args.cache.now) {T = Unit {0}} b r s (Err c.in-Err.fault)) c.cell_of-i.ensures.cell k.ensures
    (test-hold g.P.Pool g.D.CacheDev c.args.arcs.now i c.args.at c.args.tick (outside c.args.pool.now c.args.cache.now) (outside c.args.pool.now c.args.cache.now) k.result k.ensures.ready c.give.new.party c.mapped.result c.in-Err.fault m c.in-Err.ensures given refl)

pub returns-in-Err-clause-party : goal.returns-in-Err-clause-party
returns-in-Err-clause-party g c =
    let k = c.take_at_rest-cell in
    (as-given c.args.arcs.now c.cell_of-i.result k.ensures.ready k.result k.result.value k.new.party k.ensures.begins c.give.new.party c.give.ensures.gives).party

pub returns-in-Err-clause-free : goal.returns-in-Err-clause-free
returns-in-Err-clause-free g c =
    let k = c.take_at_rest-cell in
    (as-given c.args.arcs.now c.cell_of-i.result k.ensures.ready k.result k.result.value k.new.party k.ensures.begins c.give.new.party c.give.ensures.gives).held ∙ (k.ensures.held ∙ c.requires.free)

pub end_hold-requires-clause-hand : goal.end_hold-requires-clause-hand
end_hold-requires-clause-hand g c =
    let k = c.take_at_rest-cell in
    brought-may-give g.P.Pool g.D.CacheDev c.args.arcs.now c.cell_of-i.result c.args.at c.args.tick (outside c.args.pool.now c.args.cache.now) (outside c.bring.new.pool c.bring.new.cache) k.result k.ensures.ready c.in-Ok.cell c.bring.new.party
    (c.in-Ok.ensures.brings k.ensures.ready k.ensures.begins (k.ensures.held ∙ c.requires.free) k.ensures.claimed) c.bring.new.party

pub end_hold-requires-clause-cached : goal.end_hold-requires-clause-cached
end_hold-requires-clause-cached g c = let k = c.take_at_rest-cell in (c.in-Ok.ensures.brings k.ensures.ready k.ensures.begins (k.ensures.held ∙ c.requires.free) k.ensures.claimed).cached

pub returns-in-Ok-clause-answer : goal.returns-in-Ok-clause-answer
returns-in-Ok-clause-answer g c =
    let k = c.take_at_rest-cell in
    let i = c.cell_of-i.result in
    let m : c.mapped.result ≡ mapped_in c.args.at k.result.value.dbufs = c.mapped.ensures ∙ ap (λ (x : CellLog Kept). mapped_in c.args.at x.dbufs) c.deref.ensures in
    once-at-rest c.args.arcs.now i c.args.at c.args.party.now c.requires.party k.new.party c.end_hold.new.party k.result
    (λ (j : ℕ) (b : OnHeap) (r s : PartyPlace). Holds g.P.Pool g.D.CacheDev c.args.arcs.now.config j c.args.at c.args.tick (outside c.args.pool.now c.args.cache.now) (outside c.bring.new.pool c.bring.new.cache) {T = Unit {0}} b r s c.end_hold.result) c.cell_of-i.ensures.cell k.ensures
    (hold-answers g.P.Pool g.D.CacheDev c.args.arcs.now i c.args.at c.args.tick (outside c.args.pool.now c.args.cache.now) (outside c.bring.new.pool c.bring.new.cache) k.result k.ensures.ready c.in-Ok.cell c.bring.new.party
    (c.in-Ok.ensures.brings k.ensures.ready k.ensures.begins (k.ensures.held ∙ c.requires.free) k.ensures.claimed) c.end_hold.new.party c.end_hold.result
    (ends-inside g.P.Pool g.D.CacheDev c.args.arcs.now i c.args.at c.args.tick (outside c.args.pool.now c.args.cache.now) (outside c.bring.new.pool c.bring.new.cache) k.result k.ensures.ready 0 c.mapped.result m c.in_default.ensures) c.end_hold.ensures.ok c.end_hold.ensures.err c.end_hold.ensures.why)

pub returns-in-Ok-clause-party : goal.returns-in-Ok-clause-party
returns-in-Ok-clause-party g c =
    let k = c.take_at_rest-cell in
    (party-after g.P.Pool g.D.CacheDev c.args.arcs.now c.cell_of-i.result c.args.at c.args.tick (outside c.args.pool.now c.args.cache.now) (outside c.bring.new.pool c.bring.new.cache) k.result k.ensures.ready c.in-Ok.cell c.bring.new.party
    (c.in-Ok.ensures.brings k.ensures.ready k.ensures.begins (k.ensures.held ∙ c.requires.free) k.ensures.claimed) c.end_hold.new.party (λ n. Pin n c.args.at) c.end_hold.result c.end_hold.ensures.ok c.end_hold.ensures.err).0

pub returns-in-Ok-clause-free : goal.returns-in-Ok-clause-free
returns-in-Ok-clause-free g c =
    let k = c.take_at_rest-cell in
    (party-after g.P.Pool g.D.CacheDev c.args.arcs.now c.cell_of-i.result c.args.at c.args.tick (outside c.args.pool.now c.args.cache.now) (outside c.bring.new.pool c.bring.new.cache) k.result k.ensures.ready c.in-Ok.cell c.bring.new.party
    (c.in-Ok.ensures.brings k.ensures.ready k.ensures.begins (k.ensures.held ∙ c.requires.free) k.ensures.claimed) c.end_hold.new.party (λ n. Pin n c.args.at) c.end_hold.result c.end_hold.ensures.ok c.end_hold.ensures.err).1

pub returns-in-Err-bring-clause-answer : goal.returns-in-Err-bring-clause-answer
returns-in-Err-bring-clause-answer g c =
    let k = c.take_at_rest-cell in
    let i = c.cell_of-i.result in
    let m : c.mapped.result ≡ mapped_in c.args.at k.result.value.dbufs = c.mapped.ensures ∙ ap (λ (x : CellLog Kept). mapped_in c.args.at x.dbufs) c.deref.ensures in
    let f = c.in-Err-bring.ensures.brings k.ensures.ready k.ensures.begins (k.ensures.held ∙ c.requires.free) k.ensures.claimed in
    once-at-rest c.args.arcs.now i c.args.at c.args.party.now c.requires.party k.new.party c.bring.new.party k.result
    (λ (j : ℕ) (b : OnHeap) (r s : PartyPlace). Holds g.P.Pool g.D.CacheDev c.args.arcs.now.config j c.args.at c.args.tick (outside c.args.pool.now c.args.cache.now) (outside c.bring.new.pool c.bring.new.cache) {T = Unit {0}} b r s (Err c.in-Err-bring.fault)) c.cell_of-i.ensures.cell k.ensures
    (refuses-hold g.P.Pool g.D.CacheDev c.args.arcs.now.config i c.args.at c.args.tick (outside c.args.pool.now c.args.cache.now) (outside c.bring.new.pool c.bring.new.cache) k.result k.ensures.ready c.bring.new.party c.in-Err-bring.fault
    (fails-read g.P.Pool g.D.CacheDev c.args.arcs.now.config i c.args.at c.args.tick (outside c.args.pool.now c.args.cache.now) (outside c.bring.new.pool c.bring.new.cache) k.result k.ensures.ready c.bring.new.party c.in-Err-bring.fault f.fails)
    (ends-inside g.P.Pool g.D.CacheDev c.args.arcs.now i c.args.at c.args.tick (outside c.args.pool.now c.args.cache.now) (outside c.bring.new.pool c.bring.new.cache) k.result k.ensures.ready 0 c.mapped.result m c.in_default.ensures) (not_loaded f.fails))

pub returns-in-Err-bring-clause-party : goal.returns-in-Err-bring-clause-party
returns-in-Err-bring-clause-party g c = let k = c.take_at_rest-cell in (c.in-Err-bring.ensures.brings k.ensures.ready k.ensures.begins (k.ensures.held ∙ c.requires.free) k.ensures.claimed).party

pub returns-in-Err-bring-clause-free : goal.returns-in-Err-bring-clause-free
returns-in-Err-bring-clause-free g c = let k = c.take_at_rest-cell in (c.in-Err-bring.ensures.brings k.ensures.ready k.ensures.begins (k.ensures.held ∙ c.requires.free) k.ensures.claimed).held

pub returns-in-Err-clause-claims : goal.returns-in-Err-clause-claims
returns-in-Err-clause-claims g c =
    let k = c.take_at_rest-cell in
    let given = as-given c.args.arcs.now c.cell_of-i.result k.ensures.ready k.result k.result.value k.new.party k.ensures.begins c.give.new.party c.give.ensures.gives in
    rest-claims c.args.arcs.now c.cell_of-i.result c.args.at c.args.party.now k.result k.new.party k.ensures k.result.value c.give.new.party (λ n. refl) c.give.ensures.claims given.number given.others

pub returns-in-Ok-clause-claims : goal.returns-in-Ok-clause-claims
returns-in-Ok-clause-claims g c =
    let k = c.take_at_rest-cell in
    claims-then c.args.party.now k.ensures.ready c.end_hold.new.party k.ensures.claims
    (ended-claims g.P.Pool g.D.CacheDev c.args.arcs.now c.cell_of-i.result c.args.at c.args.tick (outside c.args.pool.now c.args.cache.now) (outside c.bring.new.pool c.bring.new.cache) k.result k.ensures.ready c.in-Ok.cell c.bring.new.party
    (c.in-Ok.ensures.brings k.ensures.ready k.ensures.begins (k.ensures.held ∙ c.requires.free) k.ensures.claimed) c.end_hold.new.party c.end_hold.ensures.claims (λ n. Pin n c.args.at) c.end_hold.result c.end_hold.ensures.ok c.end_hold.ensures.err)

pub returns-in-Err-bring-clause-claims : goal.returns-in-Err-bring-clause-claims
returns-in-Err-bring-clause-claims g c =
    let k = c.take_at_rest-cell in
    claims-then c.args.party.now k.ensures.ready c.bring.new.party k.ensures.claims (c.in-Err-bring.ensures.brings k.ensures.ready k.ensures.begins (k.ensures.held ∙ c.requires.free) k.ensures.claimed).claims

pub returns-in-Err-clause-number : goal.returns-in-Err-clause-number
returns-in-Err-clause-number g c =
    let k = c.take_at_rest-cell in
    (as-given c.args.arcs.now c.cell_of-i.result k.ensures.ready k.result k.result.value k.new.party k.ensures.begins c.give.new.party c.give.ensures.gives).number ∙ k.ensures.number

pub returns-in-Err-bring-clause-number : goal.returns-in-Err-bring-clause-number
returns-in-Err-bring-clause-number g c = let k = c.take_at_rest-cell in (c.in-Err-bring.ensures.brings k.ensures.ready k.ensures.begins (k.ensures.held ∙ c.requires.free) k.ensures.claimed).number ∙ k.ensures.number

pub returns-in-Ok-clause-number : goal.returns-in-Ok-clause-number
returns-in-Ok-clause-number g c =
    let k = c.take_at_rest-cell in
    ended-number g.P.Pool g.D.CacheDev c.args.arcs.now c.cell_of-i.result c.args.at c.args.tick (outside c.args.pool.now c.args.cache.now) (outside c.bring.new.pool c.bring.new.cache) k.result k.ensures.ready c.in-Ok.cell c.bring.new.party
    (c.in-Ok.ensures.brings k.ensures.ready k.ensures.begins (k.ensures.held ∙ c.requires.free) k.ensures.claimed) c.end_hold.new.party c.end_hold.ensures.claims (λ n. Pin n c.args.at) c.end_hold.result c.end_hold.ensures.ok c.end_hold.ensures.err ∙ k.ensures.number
