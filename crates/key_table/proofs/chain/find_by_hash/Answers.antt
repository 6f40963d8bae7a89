use Rattle.std.proofs.Common.{◌≡◌, Option, Some, None, IfNone, get_or, length, sym, ap, ◌∙◌}
use Rattle.std.proofs.lemmas.Bool.{eqb-true}
use Rattle.std.proofs.lemmas.List.{get_or_default}
use Rattle.key_table.specs.Chains.{chain_of, no_place}
use Rattle.key_table.proofs.Tables.{no-slot, no-slot-empty, short-of}
use Rattle.key_table.proofs.chain.find_by_hash.Goals as goal

pub returns-then-is_empty-clause-none : goal.returns-then-is_empty-clause-none
returns-then-is_empty-clause-none g c =
    no-slot-empty g.K.Hashed.hash c.args.slots.now c.args.heads.now c.args.key.now c.requires.indexed c.requires.within (eqb-true _ _ (sym c.is_empty.ensures ∙ c.if-is_empty.true))

pub find-requires : goal.find-requires
find-requires g c =
    let heads = c.args.heads.now in
    let b = c.chain_of.result in
    short-of g.K.Hashed.hash c.args.slots.now heads b (get_or heads b 0) c.requires.indexed c.chain_of.ensures.within (get_or_default heads b no_place 0 c.chain_of.ensures.within)

none-so : {A : Type 0} (o : Option A) (P Q : Type 0) → (P → Q) → IfNone o P → IfNone o Q
none-so None P Q so p = so p
none-so (Some a) P Q so p = tt

pub returns-clause-none : goal.returns-clause-none
returns-clause-none g c =
    let heads = c.args.heads.now in
    let b = c.chain_of.result in
    let link : get_or heads (chain_of (g.K.Hashed.hash c.args.key.now) (length heads)) no_place ≡ get_or heads b 0 =
    ap (λ z. get_or heads z no_place) (sym c.chain_of.ensures.chain) ∙ get_or_default heads b no_place 0 c.chain_of.ensures.within in
    none-so c.find.result _ _ (no-slot g.K.Hashed.hash c.args.slots.now heads c.args.key.now (get_or heads b 0) c.requires.indexed c.requires.within link) c.find.ensures.none
