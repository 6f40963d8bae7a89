use Rattle.std.proofs.Common.{◌≡◌, IsSome, Some, is_some, length, refl, sym, ap, subst, ◌∙◌, arith}
use Rattle.blk_ptr.specs.declared.key.Key.{Key}
use Rattle.blk_ptr.specs.Size.{IsBlockSize}
use Rattle.arc_lists.proofs.Tables.{is_some_of, length-with_change}
use Rattle.arc_core.specs.Edits.{placed}
use Rattle.arc_core.specs.Entries.{written}
use Rattle.arc_core.specs.PlainShard.{entry_key, entry_of}
use Rattle.arc_core.specs.PlainTable.{PlainTable}
use Rattle.arc_core.specs.Sound.{IsTidy}
use Rattle.arc_core.specs.TableModel.{shard_in}
use Rattle.arc_core.proofs.Evictions.{block-size, found}
use Rattle.arc_core.proofs.Tables.{IsTidy-same}
use Rattle.arc_core.proofs.Tidy.{IsTidy-placed}
use Rattle.arc_core.proofs.table.Table.place_near.Goals as goal

pub change_near-requires-clause-there : goal.change_near-requires-clause-there
change_near-requires-clause-there g c = subst (λ t. IsSome (entry_of c.args.key t.shard)) (sym c.self.view_is) c.requires.there

pub change_near-requires-clause-takes : goal.change_near-requires-clause-takes
change_near-requires-clause-takes g c e item =
    c.requires.takes (subst (λ (u : PlainTable). IsTidy u.shard) c.self.view_is c.self.invariant.tidy) e (subst (λ t. entry_of c.args.key t.shard ≡ Some e) c.self.view_is item)

pub change_near-requires-clause-keeps : goal.change_near-requires-clause-keeps
change_near-requires-clause-keeps g c e made item gave =
    (c.requires.sound (subst (λ (u : PlainTable). IsTidy u.shard) c.self.view_is c.self.invariant.tidy) e made (subst (λ t. entry_of c.args.key t.shard ≡ Some e) c.self.view_is item) gave).0

pub change_near-requires-clause-size : goal.change_near-requires-clause-size
change_near-requires-clause-size g c =
    let s = shard_in c.self.inside in
    let there : IsSome (entry_of c.args.key s) = subst (λ t. IsSome (entry_of c.args.key t.shard)) (sym c.self.view_is) c.requires.there in
    let old = is_some_of (entry_of c.args.key s) there in
    let at = found c.args.key s old.0 c.self.invariant.tidy (sym old.1) in
    subst (λ (k : Key). IsBlockSize k.size) at.key (block-size old.0.key at.sound.key)

pub invariant_of-self : goal.invariant_of-self
invariant_of-self g c =
    let kept = c.self.invariant in
    let ch = c.change_near.ensures in
    let made = ch.after in
    let es = c.self.inside.entries.items in
    let ok = c.requires.sound (subst (λ (u : PlainTable). IsTidy u.shard) c.self.view_is c.self.invariant.tidy) ch.before made (subst (λ t. entry_of c.args.key t.shard ≡ Some ch.before) c.self.view_is ch.there) ch.made in
    let there : IsSome (entry_of made.key (shard_in c.self.inside)) = subst (λ k. IsSome (entry_of k (shard_in c.self.inside))) (sym ok.0) (ap is_some ch.there) in
    let is : c.change_near.new.self ≡ written made.key made c.self.inside.entries = ch.entries ∙ ap (λ k. written k made c.self.inside.entries) (sym ok.0) in
    let items = ap (λ t. t.items) is in
    let spare = ap (λ t. t.spare) is in
    let count = length-with_change entry_key made.key (λ old. made) es in
    record {
      tidy = IsTidy-same (placed made (shard_in c.self.inside)) _ items (ap (λ t. t.sequences) is) (IsTidy-placed made (shard_in c.self.inside) there ok.1 kept.tidy);
      few = omega (arith, kept.few, ap length items, count, spare);
      marked_room = omega (arith, kept.marked_room, ap length items, count, spare);
      passed_room = kept.passed_room;
      picked_room = kept.picked_room;
      bytes = kept.bytes;
    }

pub returns-clause-placed : goal.returns-clause-placed
returns-clause-placed g c =
    let ch = c.change_near.ensures in
    let made = ch.after in
    let item = subst (λ t. entry_of c.args.key t.shard ≡ Some ch.before) c.self.view_is ch.there in
    let ok = c.requires.sound (subst (λ (u : PlainTable). IsTidy u.shard) c.self.view_is c.self.invariant.tidy) ch.before made item ch.made in
    let is : c.change_near.new.self ≡ written made.key made c.self.inside.entries = ch.entries ∙ ap (λ k. written k made c.self.inside.entries) (sym ok.0) in
    (ch.before, made, item, ch.made, rw (← c.self.view_is, is) refl)
