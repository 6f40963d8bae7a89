-- What the feeder is once it has picked, and what it has picked.
use Rattle.std.proofs.Common.{◌≡◌, ℕ, ◌+◌, ◌<◌, ◌≤◌, List, [], ◌∷◌, ◌++◌, inl, refl, sym, ap, ◌∙◌, subst, arith, eq-eqb, Bool, if◌then◌else◌}
use Rattle.std.specs.Prelude.{sum_by}
use Rattle.std.proofs.lemmas.List.Sums.{sum_by-cons}
use mathlib.Core.Logic.{dite}
use native.Mathlib.Decide.{ℕ_discrete}
use Rattle.blk_ptr.specs.declared.key.Key.{Key}
use Rattle.arc_core.specs.declared.config.Config.{Config}
use Rattle.arc_core.specs.declared.entry.Picked.{Picked as Pick_of}
use Rattle.arc_core.specs.declared.event.Event.{Event}
use Rattle.arc_core.specs.declared.event.Event.TheVariants.{FeedEnd}
use Rattle.arc_core.specs.PlainShard.{PlainShard}
use Rattle.turn_table.specs.Moments.{WasFree}
use Rattle.turn_table.specs.Places.{Place, saw}
use Rattle.arc_table.specs.declared.about.About.{About}
use Rattle.arc_table.specs.declared.item.Item.TheVariants as item
use Rattle.arc_table.specs.declared.picks.Picked.{Picked as Block}
use Rattle.arc_table.specs.declared.view.Known.{Known}
use Rattle.arc_table.specs.Cache.{Cache}
use Rattle.arc_table.specs.Fronts.{list_at}
use Rattle.arc_table.specs.Geometry.{parties_of}
use Rattle.arc_table.specs.Items.{Meanings}
use Rattle.arc_table.specs.feeder.Listing.{picks_of}
use Rattle.arc_table.specs.feeder.Picking.{ArePicksOf, Feeds, PicksAll, nth_shard_turn}
use Rattle.arc_table.specs.pact.Rule.{Pact}
use Rattle.arc_table.specs.TableLaws.{list_here}
use Rattle.arc_table.proofs.Afterwards.{stays_free, stays_party}
use Rattle.arc_table.proofs.feeder.FeedBegins.{nth_range, picked_there}
use Rattle.arc_table.proofs.feeder.FeedEnds.{feeds_stays}
use Rattle.arc_table.proofs.feeder.FeedMade.{feeds_made, picks_made}
use Rattle.arc_table.proofs.HandHeads.{config_then}
use Rattle.arc_table.proofs.OwnLemmas.{made-sees}
use Rattle.arc_table.proofs.feeder.PickLaws.{few_picks}
use Rattle.arc_table.proofs.feeder.PicksAfter.{feeds_picks}
use Rattle.arc_table.proofs.Reached.{SameButNotes, loses_same, took_is}
use Rattle.l2_feed.specs.Ready.{IsFeederReady, IsFeeding}
use Rattle.l2_feed.specs.Runs.{AreWhole, bytes_of}
use Rattle.l2_feed.proofs.Lists.{bytes_cons}
use Rattle.l2_feed.proofs.Settling.{own_no_event}

-- ---- the blocks

pub picked_whole : (g : Config) (turn : ℕ) (picks : List Pick_of) (bs : List Block) → ArePicksOf g turn picks bs → AreWhole bs
picked_whole g turn [] [] are = tt
picked_whole g turn [] (b ∷ bs) are = absurd are
picked_whole g turn (x ∷ xs) [] are = absurd are
picked_whole g turn (x ∷ xs) (b ∷ bs) are = ((are.0.formed, are.0.size ∙ ap (λ (k : Key). k.size) (sym are.0.key)), picked_whole g turn xs bs are.1)

pub picked_bytes : (g : Config) (turn : ℕ) (picks : List Pick_of) (bs : List Block) → ArePicksOf g turn picks bs → bytes_of bs ≡ sum_by (λ (pick : Pick_of). pick.key.size) picks
picked_bytes g turn [] [] are = refl
picked_bytes g turn [] (b ∷ bs) are = absurd are
picked_bytes g turn (x ∷ xs) [] are = absurd are
picked_bytes g turn (x ∷ xs) (b ∷ bs) are =
    bytes_cons b bs ∙ ((λ i. (are.0.key i).size + picked_bytes g turn xs bs are.1 i) ∙ sym (sum_by-cons (λ (pick : Pick_of). pick.key.size) x xs))

-- ---- the feeder

module _ {C : Type 0} (m : Meanings C) (cache : Cache) (shard : ℕ) (p q : Place (Known C)) (inside : shard < cache.config.shards) (ready : IsFeederReady cache p) where
  abbrev g : Config
  g = cache.config

  abbrev turn : ℕ
  turn = nth_shard_turn cache.config shard

  settled : (es : List Event) (f : Feeds m g turn es p q) → f.takes.free.held.scene.about.config ≡ g
  settled es f =
      let at_try : Place (Known C) = saw p f.takes.knew in
      let knew : SameButNotes p.own f.takes.knew = loses_same m turn f.takes.owners p at_try f.takes.lost in
      config_then m at_try turn f.before f.takes.free ∙ (ap (λ (x : About). x.config) knew.about ∙ ready.on.of.config)

  parties : (es : List Event) (f : Feeds m g turn es p q) → p.parties ≡ parties_of g
  parties es f = sym f.takes.free.stands.count ∙ (f.takes.free.held.attached.parties ∙ ap parties_of (settled es f))

  -- what the party lists of the shard is what is picked there
  listed : (es : List Event) (f : Feeds m g turn es p q) → picks_of turn q ≡ f.after.now.picked
  listed es f =
      let took = took_is m turn (item.Shard f.before) p f.reached f.takes in
      let at_try : Place (Known C) = saw p f.takes.knew in
      let free : WasFree (Pact m) at_try turn (item.Shard f.before) = f.takes.free in
      let knew : SameButNotes p.own f.takes.knew = loses_same m turn f.takes.owners p at_try f.takes.lost in
      let own : f.tried.own.number ≡ f.tried.own.about.config.callers =
      f.tries.own_number ∙ (took.own_number ∙ (sym knew.number ∙ ((free.held.attached.views at_try.number at_try.own free.stands.shows.0).number ∙ (ready.on.feeder
      ∙ (ap (λ (x : Config). x.callers) (sym ready.on.of.config) ∙ ap (λ (x : About). x.config.callers) (sym (f.tries.about ∙ took.about))))))) in
      ap (picks_of turn) f.gave
      ∙ (ap (λ (b : Bool). list_at turn (if b then ((turn, f.after.now.picked) ∷ f.tried.own.ledger.picked) else f.tried.own.ledger.picked)) (eq-eqb f.tried.own.number f.tried.own.about.config.callers own)
      ∙ list_here turn f.after.now.picked f.tried.own.ledger.picked)

  -- memory was refused
  pub unpicked_ready : Feeds m g turn [] p q → IsFeederReady cache q
  unpicked_ready f =
      let s = feeds_stays m g turn [] p q f in
      let made = feeds_made m g shard [] p q ready.on.of.config ready.on.seen f (own_no_event g p.number) in
      record {
        on = record {
          valid = ready.on.valid;
          of = stays_party cache p q s ready.on.of;
          feeder = s.number ∙ ready.on.feeder;
          look = stays_free cache p q s ready.on.look;
          seen = made-sees g shard f.before [] p q made ready.on.seen;
        };
        settled = λ j. dite (ℕ_discrete j turn)
            (λ is. subst (λ (i : ℕ). picks_of i q ≡ []) (sym is) (listed [] f ∙ (ap (λ (x : PlainShard). x.picked) f.now
            ∙ (picked_there m g turn f.before p f.reached f.takes ready.on.of.config ready.on.valid (nth_range g shard inside) ready.on.look ready.on.feeder ∙ ready.settled turn))))
            (λ differs. feeds_picks m g turn [] p q f j differs ∙ ready.settled j);
      }

  module _ (blocks : List Block) (a : PicksAll m g turn p q [] blocks) where
    gained : blocks ≡ a.gained
    gained = a.out

    pub picked_feeding : IsFeeding cache turn blocks q
    picked_feeding =
        let es : List Event = a.picks ++ FeedEnd p.number ∷ [] in
        let s = feeds_stays m g turn es p q a.feeds in
        let made = picks_made m g shard p q (parties es a.feeds) ready.on.of.config ready.on.seen (inl refl) a.picks a.scan a.feeds a.others in
        record {
          on = record {
            valid = ready.on.valid;
            of = stays_party cache p q s ready.on.of;
            feeder = s.number ∙ ready.on.feeder;
            look = stays_free cache p q s ready.on.look;
            seen = made-sees g shard a.feeds.before es p q made ready.on.seen;
          };
          here = subst (λ (bs : List Block). ArePicksOf g turn (picks_of turn q) bs) (sym gained) a.blocks;
          others = λ j differs. feeds_picks m g turn es p q a.feeds j differs ∙ ready.settled j;
        }

    pub picked_few : bytes_of blocks ≤ g.bounds.write_max
    picked_few =
        let few = (few_picks m g turn p q [] blocks (ready.on.valid, ready.on.of.config, ready.on.feeder) a).within in
        let is = picked_bytes g turn (picks_of turn q) blocks picked_feeding.here in
        omega arith

none : (g : Config) (turn : ℕ) (picks : List Pick_of) → ArePicksOf g turn picks [] → picks ≡ []
none g turn [] are = refl
none g turn (x ∷ xs) are = absurd are

pub ready_again : {C : Type 0} (cache : Cache) (turn : ℕ) (q : Place (Known C)) → IsFeeding cache turn [] q → IsFeederReady cache q
ready_again cache turn q f = record {
  on = f.on;
  settled = λ j. dite (ℕ_discrete j turn) (λ is. subst (λ (i : ℕ). picks_of i q ≡ []) (sym is) (none cache.config turn (picks_of turn q) f.here)) (λ differs. f.others j differs);
}
