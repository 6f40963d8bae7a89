use Rattle.std.proofs.Common.{◌≡◌, ℕ, List, ◌∷◌, sym, ap, ◌∙◌, subst}
use Rattle.hash_chain.specs.Chain.{Chain}
use Rattle.turn_table.specs.Places.{Place, gave_back}
use Rattle.arc_table.specs.declared.view.Known.{Known}
use Rattle.arc_table.specs.Cache.{IsPartyOf}
use Rattle.arc_table.specs.Items.{Meanings}
use Rattle.arc_table.specs.scans.Scanning.{AllPairs, AreApart, IsInHand, gave_all, pairs_of}
use Rattle.arc_table.specs.Views.{after_same}
use Rattle.arc_table.proofs.scans.Scans.{all_in_hand_else}
use Rattle.arc_table.proofs.arcs.Arcs.give_buckets.Goals as goal

pub loop-taken-preserved : goal.loop-taken-preserved
loop-taken-preserved g c =
    let m : Meanings g.row.C.Denot = g.C.Keeps in
    let before = c.loop-taken.invariant in
    let x : ℕ × Chain = (c.in-Some.taken.turn, c.in-Some.taken.bucket) in
    let rest : List (ℕ × Chain) = pairs_of c.next.new.self.rest.items in
    let is : pairs_of c.loop-taken.taken-iterator.rest.items ≡ x ∷ rest = ap pairs_of c.in-Some.ensures.steps.0 in
    let p : Place (Known g.row.C.Denot) = c.loop-taken.party in
    let gave : c.give_bucket.new.party ≡ gave_back p x.0 (after_same x.0 p.own) = c.give_bucket.ensures in
    let apart : AreApart (x ∷ rest) = subst AreApart is before.apart in
    let held : AllPairs (IsInHand m p) (x ∷ rest) = subst (AllPairs (IsInHand m p)) is before.held in
    record {
      place = ap (gave_all rest) gave ∙ (ap (λ (vs : List (ℕ × Chain)). gave_all vs p) (sym is) ∙ before.place);
      party = subst (IsPartyOf c.args.self.now) (sym gave) record { row = before.party.row; config = before.party.config };
      apart = apart.1;
      held = subst (λ (q : Place (Known g.row.C.Denot)). AllPairs (IsInHand m q) rest) (sym gave) (all_in_hand_else m p x.0 rest apart.0 held.1);
    }
