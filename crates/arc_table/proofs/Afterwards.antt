-- What a party is after a call: it is a party of the cache still, under its number, with the turns that it had. What it lists and what it has made follow the events.
use Rattle.std.proofs.Common.{◌≡◌, ℕ, ◌-◌, List, [], ◌∷◌, ◌++◌, length, map, refl, sym, ap, ◌∙◌, subst}
use Rattle.arc_core.specs.declared.config.Config.{Config}
use Rattle.arc_core.specs.Config.{IsConfig}
use Rattle.arc_core.specs.declared.event.Event.{Event}
use Rattle.arc_core.specs.declared.served.Restored.{Restored}
use Rattle.blk_ptr.specs.declared.key.Key.{Key}
use Rattle.turn_table.specs.Board.{IsAmong}
use Rattle.turn_table.specs.Places.{Place}
use Rattle.arc_table.specs.declared.about.About.{About}
use Rattle.arc_table.specs.declared.view.Known.{Known}
use Rattle.arc_table.specs.declared.view.Line.TheVariants as line
use Rattle.arc_table.specs.Both.{Does}
use Rattle.arc_table.specs.Cache.{Cache, IsPartyOf}
use Rattle.arc_table.specs.feeder.Feeding.{Restores}
use Rattle.arc_table.specs.Fronts.{front_of}
use Rattle.arc_table.specs.Geometry.{shard_turn}
use Rattle.arc_table.specs.Items.{Meanings}
use Rattle.arc_table.specs.Looking.{HasNoLook}
use Rattle.arc_table.specs.ShardGiving.{ledger_through, mines_of, passes_in}
use Rattle.arc_table.proofs.TableLaws.{front_here}
use Rattle.arc_table.proofs.Reached.{held_again, own_number_is, reached}

-- the party is still what it was to the cache
pub record Stays {C : Type 0} (p q : Place (Known C)) : Type 0 where
  pub table : q.table ≡ p.table
  pub parties : q.parties ≡ p.parties
  pub number : q.number ≡ p.number
  pub joined : q.joined ≡ p.joined
  pub held : q.held ≡ p.held
  pub about : q.own.about ≡ p.own.about

module _ {C : Type 0} where
  pub stays_party : (cache : Cache) (p q : Place (Known C)) → Stays p q → IsPartyOf cache p → IsPartyOf cache q
  stays_party cache p q s of = record { row = (s.table ∙ of.row.0, s.parties ∙ of.row.1); config = ap (λ (a : About). a.config) s.about ∙ of.config }

  pub stays_free : (cache : Cache) (p q : Place (Known C)) → Stays p q → HasNoLook cache p → HasNoLook cache q
  stays_free cache p q s free = λ i among. free i (subst (IsAmong i) s.held among)

  pub stays_then : (p q r : Place (Known C)) → Stays p q → Stays q r → Stays p r
  stays_then p q r s t = record {
    table = t.table ∙ s.table;
    parties = t.parties ∙ s.parties;
    number = t.number ∙ s.number;
    joined = t.joined ∙ s.joined;
    held = t.held ∙ s.held;
    about = t.about ∙ s.about;
  }

module _ {C : Type 0} (m : Meanings C) (g : Config) (valid : IsConfig g) where
  pub does_stays : (k : Key) (es : List Event) (p q : Place (Known C)) → p.own.about.config ≡ g → Does m g k es p q → Stays p q
  does_stays k es p q same d =
      let r = reached m g k d.chain d.before p d.reached d.takes in record {
        table = ap (λ (x : Place (Known C)). x.table) d.makes.gave ∙ r.table;
        parties = ap (λ (x : Place (Known C)). x.parties) d.makes.gave ∙ r.parties;
        number = ap (λ (x : Place (Known C)). x.number) d.makes.gave ∙ r.number;
        joined = ap (λ (x : Place (Known C)). x.joined) d.makes.gave ∙ r.joined;
        held = ap (λ (x : Place (Known C)). x.held) d.makes.gave ∙ held_again m g k d.chain d.before p d.reached d.takes same valid;
        about = ap (λ (x : Place (Known C)). x.own.about) d.makes.gave ∙ r.about;
      }

  -- its own lines are those that it had and then the events, behind the history that it found
  pub does_mine : (k : Key) (es : List Event) (p q : Place (Known C)) (d : Does m g k es p q) → q.own.mine ≡ p.own.mine ++ mines_of (shard_turn g k) (length d.before.history) (length d.reached.own.notes - passes_in es) es
  does_mine k es p q d = ap (λ (x : Place (Known C)). x.own.mine) d.makes.gave
      ∙ ap (λ l. l ++ mines_of (shard_turn g k) (length d.before.history) (length d.reached.own.notes - passes_in es) es) (reached m g k d.chain d.before p d.reached d.takes).mine

  -- its holds, readings and picks follow the events
  pub does_ledger : (k : Key) (es : List Event) (p q : Place (Known C)) → p.own.about.config ≡ g → (d : Does m g k es p q) → q.own.ledger ≡ ledger_through g.callers p.number (shard_turn g k) d.before.now es d.makes.after.now p.own.ledger
  does_ledger k es p q same d =
      let r = reached m g k d.chain d.before p d.reached d.takes in
      let config : d.reached.own.about.config ≡ g = ap (λ (a : About). a.config) r.about ∙ same in
      let number : d.reached.own.number ≡ p.number = own_number_is m g k d.chain d.before p d.reached d.takes same valid ∙ r.number in
      ap (λ (x : Place (Known C)). x.own.ledger) d.makes.gave ∙ (λ z. ledger_through (config z).callers (number z) (shard_turn g k) d.before.now es d.makes.after.now (r.ledger z))

  -- it has seen all of the shard's history, the events included
  pub does_seen : (k : Key) (es : List Event) (p q : Place (Known C)) (d : Does m g k es p q) → front_of (shard_turn g k) q.own.seen ≡ map line.Event (d.before.history ++ es)
  does_seen k es p q d = ap (λ (x : Place (Known C)). front_of (shard_turn g k) x.own.seen) d.makes.gave
      ∙ (front_here (shard_turn g k) (map line.Event d.makes.after.history) d.reached.own.seen ∙ ap (map line.Event) d.makes.history)

  pub restores_stays : (n : ℕ) (list : List Restored) (p q : Place (Known C)) → p.own.about.config ≡ g → Restores m g n list p q → Stays p q
  restores_stays n [] p q same e = subst (Stays p) (sym e) record { table = refl; parties = refl; number = refl; joined = refl; held = refl; about = refl }
  restores_stays n (r ∷ rs) p q same h =
      let s = does_stays r.key _ p h.0 same h.1 in
      stays_then p h.0 q s (restores_stays n rs h.0 q (ap (λ (a : About). a.config) s.about ∙ same) h.2)
