-- A shard in hand that is lent: what is said of the one in hand is said of the lent one.
use Rattle.std.proofs.Common.{◌≡◌, sym, ◌∙◌, subst}
use Rattle.blk_ptr.specs.declared.key.Key.{Key}
use Rattle.arc_core.specs.declared.config.Config.{Config}
use Rattle.std.specs.Prelude.{IsTrue}
use Rattle.arc_core.specs.declared.event.Event.{Event}
use Rattle.arc_core.specs.ShardLog.{HasRoom, Makes, ShardLog}
use Rattle.arc_core.specs.Step.{legal}
use Rattle.hash_chain.specs.Chain.{Chain}
use Rattle.turn_table.specs.Places.{Place}
use Rattle.arc_table.specs.declared.both.Both.{Both}
use Rattle.arc_table.specs.declared.view.Known.{Known}
use Rattle.arc_table.specs.Both.{TakesBoth}
use Rattle.arc_table.specs.Items.{Meanings}
use Rattle.arc_table.specs.Making.{IsTaken}

-- the same in hand, with this shard
abbrev pub lent : Both → ShardLog → Both
lent b l = record { hand = b.hand; turn = b.turn; shard = l }

pub lent_legal : (e : Event) {s l : ShardLog} → l ≡ s → IsTrue (legal s.now e) → IsTrue (legal l.now e)
lent_legal e same ok = subst (λ (x : ShardLog). IsTrue (legal x.now e)) (sym same) ok

pub lent_room : {e : Event} {s l : ShardLog} → l ≡ s → HasRoom e s → HasRoom e l
lent_room {e} same room = subst (λ (x : ShardLog). HasRoom e x) (sym same) room

pub lent_makes : {e : Event} {s l new : ShardLog} → l ≡ s → Makes e l new → Makes e s new
lent_makes {e} {s} {l} {new} same makes = subst (λ (x : ShardLog). Makes e x new) same makes

module _ {C : Type 0} (m : Meanings C) where
  pub lent_takes : (g : Config) (k : Key) (chain : Chain) (s l : ShardLog) (p q : Place (Known C)) → l ≡ s → TakesBoth m g k chain s p q → TakesBoth m g k chain l p q
  lent_takes g k chain s l p q same takes = subst (λ (x : ShardLog). TakesBoth m g k chain x p q) (sym same) takes

  pub lent_taken : (g : Config) (k : Key) (b : Both) (q : Place (Known C)) (l : ShardLog) → l ≡ b.shard → IsTaken m g k b q → IsTaken m g k (lent b l) q
  lent_taken g k b q l same taken = record {
    kind = record { valid = taken.kind.valid; own = taken.kind.own; turn = taken.kind.turn; alone = taken.kind.alone };
    new = taken.new ∙ sym same;
    from = taken.from;
    takes = lent_takes g k b.hand.own.bucket b.shard l taken.from q same taken.takes;
  }
