use Rattle.std.proofs.Common.{◌≡◌, List, drop, length, sym, ap, ◌∙◌, subst, inl}
use Rattle.dbuf_cells.specs.Turns.{OnHeap}
use Rattle.txg_sync.specs.InHand.{SyncsInHand}
use Rattle.txg_sync.specs.Turns.{GivesFrom, SyncsCells, TakesFrom}
use Rattle.txg_sync.proofs.Ended.{answers-so, syncs-cells, take-front}
use Rattle.arc_table.specs.Fronts.{list_at}
use Rattle.txg_sync.proofs.syncing.sync.Goals as goal

pub returns-clause-answer : goal.returns-clause-answer
returns-clause-answer g c =
    let cache = c.args.arcs.now in
    let cells : List OnHeap = c.deref_mut.result.now in
    let nows : List OnHeap = c.sync_cells-result.new.cells in
    let o = c.args.party.now in
    let p = c.take_all.new.party in
    let q = c.sync_cells-result.new.party in
    let r = c.give_all.new.party in
    let same : cells ≡ c.in-Ok.cells.items = c.deref_mut.ensures.value in
    let all : length cells ≡ cache.config.cells = ap (λ (l : List OnHeap). length l) same ∙ c.in-Ok.ensures.all in
    let takes : TakesFrom 0 cells o p = subst (λ (l : List OnHeap). TakesFrom 0 l o p) (sym same) c.in-Ok.ensures.takes in
    inl (answers-so g.P.Pool c.args.group c.args.next c.args.pool.now c.sync_cells-result.new.pool cache.config (SyncsInHand cache c.args.tick cells nows p q) (λ cs xs Besides. SyncsCells cache.config c.args.tick cs xs Besides o r)
    (λ cs xs Besides s. subst (λ (l : List OnHeap). SyncsCells cache.config c.args.tick l xs Besides o r) (sym s.0) (syncs-cells cache c.args.tick cells nows p q xs Besides s.1 o r all takes c.in-Ok.ensures.number
    (subst (λ (l : List OnHeap). GivesFrom 0 l q r) (take-front c.in-Ok.cells.len nows (drop (length nows) c.in-Ok.cells.items) (c.in-Ok.cells.ok.0 ∙ (sym (ap (λ (l : List OnHeap). length l) same) ∙ sym s.1.count))) c.give_all.ensures.gives)))
    c.sync_cells-result.result c.sync_cells-result.ensures.answer)

pub returns-clause-claims : goal.returns-clause-claims
returns-clause-claims g c = λ j. c.give_all.ensures.claims j ∙ ap (list_at j) (c.sync_cells-result.ensures.claims ∙ c.in-Ok.ensures.claims)
