use Rattle.std.proofs.Common.{◌≡◌, IsTrue, is_some, length, refl, sym, ap, subst, ◌∙◌, arith}
use Rattle.arc_lists.specs.ByKey.{with_change}
use Rattle.arc_lists.proofs.Tables.{length-with_change}
use Rattle.arc_core.specs.PlainShard.{entry_is, entry_key, entry_of}
use Rattle.arc_core.specs.PlainTable.{PlainTable}
use Rattle.arc_core.specs.Changes.{may_have, with_place}
use Rattle.arc_core.specs.Edits.{amended}
use Rattle.arc_core.specs.TableModel.{shard_in}
use Rattle.arc_core.proofs.Evictions.{changed-written, entry_of-is, found}
use Rattle.arc_core.proofs.Placing.{alike-place, sound-place}
use Rattle.arc_core.proofs.Tables.{IsTidy-same, belongs_on-alike, some_and}
use Rattle.arc_core.proofs.Tidy.{IsTidy-amended}
use Rattle.arc_core.proofs.table.Table.put_place.Goals as goal

pub put_place-requires : goal.put_place-requires
put_place-requires c =
    let s = shard_in c.self.inside in
    let may : IsTrue (entry_is (may_have c.args.place) c.args.key s) = subst (λ (t : PlainTable). IsTrue (entry_is (may_have c.args.place) c.args.key t.shard)) (sym c.self.view_is) c.requires in
    ap is_some (entry_of-is (may_have c.args.place) c.args.key s may).1

pub invariant_of-self : goal.invariant_of-self
invariant_of-self c =
    let kept = c.self.invariant in
    let s = shard_in c.self.inside in
    let es = c.self.inside.entries.items in
    let place = c.args.place in
    let key = c.args.key in
    let may : IsTrue (entry_is (may_have place) key s) = subst (λ (t : PlainTable). IsTrue (entry_is (may_have place) key t.shard)) (sym c.self.view_is) c.requires in
    let there = entry_of-is (may_have place) key s may in
    let e = there.0 in
    let at = found key s e kept.tidy (sym there.1) in
    let w = with_place place e in
    let items : c.put_place.new.self.items ≡ with_change entry_key w.key (λ old. w) es =
    ap (λ t. t.items) c.put_place.ensures ∙ changed-written key (with_place place) es e there.1 ∙ ap (λ k. with_change entry_key k (λ old. w) es) (sym at.key) in
    let old = some_and _ (entry_of w.key s) (alike-place place key s e at) in
    let count = length-with_change entry_key w.key (λ old. w) es in
    let spare = ap (λ t. t.spare) c.put_place.ensures in
    record {
      tidy = IsTidy-same (amended w s) _ items (ap (λ t. t.sequences) c.put_place.ensures) (IsTidy-amended w s old.value old.is (belongs_on-alike w old.value old.fact.0 old.fact.1) (sound-place place key s e at may) kept.tidy);
      few = omega (arith, kept.few, ap length items, count, spare);
      marked_room = omega (arith, kept.marked_room, ap length items, count, spare);
      passed_room = kept.passed_room;
      picked_room = kept.picked_room;
      bytes = kept.bytes;
    }

pub returns : goal.returns
returns c = rw (← c.self.view_is, c.put_place.ensures) refl
