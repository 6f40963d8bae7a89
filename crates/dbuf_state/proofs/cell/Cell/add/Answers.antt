use Rattle.std.proofs.Common.{◌≡◌, ◌++◌, ◌∷◌, [], ◌<◌, List, map, sym, ap, subst, ◌∙◌, arith, false, IsTrue}
use Rattle.std.proofs.lemmas.List.{map-append}
use Rattle.std.specs.List.{AllByRecursion, list_any}
use Rattle.dbuf_state.specs.declared.dbuf.Dbuf.{Dbuf}
use Rattle.dbuf_state.specs.declared.oid.Oid.{Oid}
use Rattle.dbuf_state.specs.declared.standing.Standing.{Standing}
use Rattle.dbuf_state.specs.CellLog.{CellLog}
use Rattle.dbuf_state.specs.Dbufs.{IsFit, dbuf_oid, standing_of}
use Rattle.dbuf_state.specs.Oids.{has_item, is_distinct, oid_eq}
use Rattle.dbuf_state.proofs.CellLemmas.{all-push, no-name, once-push}
use Rattle.dbuf_state.proofs.cell.Cell.add.Goals as goal

pub enter-requires-clause-absent : goal.enter-requires-clause-absent
enter-requires-clause-absent g c =
    let absent : has_item dbuf_oid c.args.dbuf.at c.self.inside.dbufs.items ≡ false = subst (λ (log : CellLog g.row.H.Denot). has_item dbuf_oid c.args.dbuf.at log.dbufs ≡ false) (sym c.self.view_is) c.requires.absent in
    subst (λ (ks : List Oid). list_any (oid_eq c.args.dbuf.at) ks ≡ false) (sym c.self.invariant.names) (no-name c.args.dbuf.at c.self.inside.dbufs.items absent)

pub invariant_of-self : goal.invariant_of-self
invariant_of-self g c =
    let ds = c.self.inside.dbufs.items in
    let room : 0 < c.self.inside.spare_dbufs = subst (λ (log : CellLog g.row.H.Denot). 0 < log.dbuf_room) (sym c.self.view_is) c.requires.room in
    let added = c.append.ensures.items in
    let absent : has_item dbuf_oid c.args.dbuf.at ds ≡ false = subst (λ (log : CellLog g.row.H.Denot). has_item dbuf_oid c.args.dbuf.at log.dbufs ≡ false) (sym c.self.view_is) c.requires.absent in
    record {
      names = c.enter.ensures.keys ∙ (ap (λ (ks : List Oid). ks ++ c.args.dbuf.at ∷ []) c.self.invariant.names ∙ (sym (map-append dbuf_oid ds (c.args.dbuf ∷ [])) ∙ ap (map dbuf_oid) (sym added)));
      index = c.push.ensures.standings
          ∙ (ap (λ (s : Standing). c.self.inside.index.standings ++ s ∷ []) c.standing.ensures
          ∙ (ap (λ (ss : List Standing). ss ++ standing_of c.args.dbuf ∷ []) c.self.invariant.index
          ∙ (sym (map-append standing_of ds (c.args.dbuf ∷ [])) ∙ ap (map standing_of) (sym added))));
      fit = subst (AllByRecursion (IsFit g.H.Shows.key_of g.H.Shows.bytes_of)) (sym added) (all-push (IsFit g.H.Shows.key_of g.H.Shows.bytes_of) ds c.args.dbuf c.self.invariant.fit c.requires.fits);
      once = subst (λ (xs : List (Dbuf g.row.H.Denot)). IsTrue (is_distinct dbuf_oid xs)) (sym added) (once-push ds c.args.dbuf absent c.self.invariant.once);
      names_room = omega (arith, c.enter.ensures.spare, c.self.invariant.names_room);
      index_room = omega (arith, c.push.ensures.spare, c.self.invariant.index_room);
      dbufs_room = omega arith;
    }
